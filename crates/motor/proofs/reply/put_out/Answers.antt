use Rattle.std.proofs.Common.{◌≡◌, false, pos, rules}
use Rattle.servo.specs.Memories.{memory_of}
use Rattle.servo.specs.Step.{answer}
use Rattle.motor.specs.Replies.{put_out, replied}
use Rattle.motor.proofs.reply.put_out.Goals as goal

pub returns : goal.returns
unfolding replied
returns c =
    let g = c.args.gains.now.settings in
    let s : c.step-answer.result ≡ answer g (memory_of c.args.memory) false (pos 0) = search rules in
    let p : c.map_or.result ≡ put_out g c.step-answer.result = search rules in
    search rules
