-- The sum of M, one operation at a time.
use Rattle.std.proofs.Common.{◌≡◌, pos, ◌+ℤ◌, ◌-ℤ◌, ◌*ℤ◌, ap, ◌∙◌, lit≤, rules}
use Rattle.std.proofs.lemmas.Int.{to_z-of_z}
use Rattle.servo.specs.Clip.{floor}
use Rattle.servo.proofs.Sums.{Sums, sums}
use Rattle.servo.proofs.cycle.Cycle.mix.Goals as goal
use Rattle.servo.proofs.cycle.Cycle.mix.Goals.{After-shift_16}

pub overflow_add-result : goal.overflow_add-result
overflow_add-result c =
    let f = sums c.error.result.at c.times.result (pos 0) (pos 0) (pos 0) c.error.result.near c.times.ensures.size (lit≤ tt) (lit≤ tt) (lit≤ tt) in
    simp (to_z-of_z, f.error, f.first, f.upto0) f.upto1

pub overflow_add-result-2 : goal.overflow_add-result-2
overflow_add-result-2 c =
    let f = sums c.error.result.at c.times.result c.times-2.result (pos 0) (pos 0) c.error.result.near c.times.ensures.size c.times-2.ensures.size (lit≤ tt) (lit≤ tt) in
    simp (to_z-of_z, f.error, f.first, f.second, f.upto0, f.upto1) f.upto2

pub overflow_sub-result : goal.overflow_sub-result
overflow_sub-result c =
    let f = sums c.error.result.at c.times.result c.times-2.result c.times-3.result (pos 0) c.error.result.near c.times.ensures.size c.times-2.ensures.size c.times-3.ensures.size (lit≤ tt) in
    simp (to_z-of_z, f.error, f.first, f.second, f.third, f.upto0, f.upto1, f.upto2) f.upto3

all : (c : goal.After-shift_16) → Sums c.error.result.at c.times.result c.times-2.result c.times-3.result c.shift_16.result
all c = sums c.error.result.at c.times.result c.times-2.result c.times-3.result c.shift_16.result c.error.result.near c.times.ensures.size c.times-2.ensures.size c.times-3.ensures.size c.shift_16.ensures.size

pub overflow_add-result-3 : goal.overflow_add-result-3
overflow_add-result-3 c =
    let f = all (goal.at.overflow_add-result-3 c).After-shift_16 in
    simp (to_z-of_z, f.error, f.first, f.second, f.third, f.fourth, f.upto0, f.upto1, f.upto2, f.upto3) f.upto4

pub returns-clause-value : goal.returns-clause-value
returns-clause-value c =
    let f = all (goal.at.returns-clause-value c).After-shift_16 in
    let s = c.args.self.now in
    let g = s.gains.now.settings in
    let p : c.times.result ≡ g.kv *ℤ c.args.after.now.last_velocity.at = search rules in
    let q : c.times-2.result ≡ g.ka *ℤ (c.args.after.now.last_velocity.at -ℤ s.before.last_velocity.at) = search rules in
    let r : c.times-3.result ≡ g.kd *ℤ c.actual.result.at = search rules in
    let i : c.shift_16.result ≡ floor c.args.after.now.integrator 65536 = search rules in
    simp (to_z-of_z, f.error, f.first, f.second, f.third, f.fourth, f.upto0, f.upto1, f.upto2, f.upto3, f.upto4)
    (λ j. pos 128 *ℤ c.error.ensures j +ℤ p j +ℤ q j -ℤ (r ∙ ap (λ x. g.kd *ℤ x) c.actual.ensures) j +ℤ i j)

pub returns-clause-size : goal.returns-clause-size
returns-clause-size c =
    let f = all (goal.at.returns-clause-size c).After-shift_16 in
    simp (to_z-of_z, f.error, f.first, f.second, f.third, f.fourth, f.upto0, f.upto1, f.upto2, f.upto3, f.upto4) f.size
