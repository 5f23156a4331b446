use Rattle.std.proofs.Common.{◌≡◌, rules}
use Rattle.std.specs.Result.{result_map_both}
use Rattle.headings.specs.Heads.{head_of}
use Rattle.table_text.specs.HeadingTexts.{screw_read, plane_read}
use Rattle.table_text.proofs.Headings.{heading_screw, heading_plane}
use Rattle.table_text.proofs.heading.read_heading.Goals as goal

pub returns-in-Some : goal.returns-in-Some
returns-in-Some c =
    let read : result_map_both head_of (λ f. f) c.map.result ≡ screw_read c.in-Some.numbers = search rules in
    heading_screw c.args.line.now c.in-Some.numbers _ c.in-Some.ensures read

pub returns : goal.returns
returns c =
    let read : result_map_both head_of (λ f. f) c.map-2.result ≡ plane_read c.in_ok-numbers.numbers = search rules in
    heading_plane c.args.line.now c.in_ok-numbers.numbers _ c.in_default.ensures (search rules) read
