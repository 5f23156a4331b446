use Rattle.std.proofs.Common.{◌≡◌, ◌+◌, ◌≤◌, length, drop}
use Rattle.numerals.specs.Numbers.{front, worth}
use Rattle.numerals.proofs.number.digits.Given as goal

abbrev pub invariant-loop-c : goal.invariant-loop-c
invariant-loop-c l =
    (l.size ≤ 10000000000) × (l.width ≡ l.c-index)
    × (l.width + length (front (drop l.c-index l.text)) ≡ length (front l.text))
    × (worth l.size (front (drop l.c-index l.text)) ≡ worth 0 (front l.text))
