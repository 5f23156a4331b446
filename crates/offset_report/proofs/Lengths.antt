-- How long the table text at the front of an input is.
use Rattle.std.proofs.Common.{◌≡◌, ℕ, ◌+◌, cond, List, [], ◌∷◌, ◌++◌, length, sym, ap, ◌∙◌, arith}
use Rattle.std.proofs.lemmas.List.{length-append}
use Rattle.lines.specs.Lines.{Cut, cut, joined_lines, CLOSE, same}
use Rattle.lines.proofs.Cuts.{cut_joined, not_same}
use Rattle.offset_report.specs.Inputs.{lines_length, table_length}

-- a text is its first line, the line's end, and what follows
pub line_length : (s l after : List ℕ) → cut s ≡ record { lines = l ∷ (cut after).lines; left = (cut after).left } → length s ≡ length l + 1 + length after
line_length s l after e =
    let j : s ≡ l ++ 10 ∷ after = cut_joined s ∙ ap (λ (x : Cut). joined_lines x.lines x.left) e ∙ ap (λ r. l ++ 10 ∷ r) (sym (cut_joined after)) in
    ap length j ∙ omega (arith, length-append l (10 ∷ after))

pub at_close : (s l after : List ℕ) → cut s ≡ record { lines = l ∷ (cut after).lines; left = (cut after).left } → l ≡ CLOSE → table_length s ≡ length l + 1
at_close s l after e c =
    ap (λ (x : Cut). lines_length x.lines x.left) e
    ∙ ap (λ (x : List ℕ). cond (same x CLOSE) (length l + 1) (length l + 1 + lines_length (cut after).lines (cut after).left)) c

pub at_other : (s l after : List ℕ) → cut s ≡ record { lines = l ∷ (cut after).lines; left = (cut after).left } → (l ≡ CLOSE → ⊥) → table_length s ≡ length l + 1 + table_length after
at_other s l after e c =
    ap (λ (x : Cut). lines_length x.lines x.left) e
    ∙ ap (λ b. cond b (length l + 1) (length l + 1 + lines_length (cut after).lines (cut after).left)) (not_same l c)

pub at_end : (s : List ℕ) → cut s ≡ record { lines = []; left = s } → table_length s ≡ length s
at_end s e = ap (λ (x : Cut). lines_length x.lines x.left) e

pub ruleset table_lengths = (line_length, at_close, at_other, at_end)
