-- A backlash layer keeps what every source keeps.
use Rattle.std.specs.Prelude.{◌≡◌, ℕ, ◌<◌, Bool, true, false, cond, List, [], ◌∷◌, ℤ, pos, Some, None, Option, nat_lt, refl}
use Rattle.std.proofs.Common.{sym, ◌∙◌, ap}
use Rattle.std.proofs.lemmas.Bool.{ltb-true}
use Rattle.rounding.specs.Bounds.{Within}
use Rattle.faults.specs.declared.fault.Fault.{Fault}
use Rattle.faults.specs.declared.fault.Part.TheVariants.{Source}
use Rattle.source.specs.Meaning.{Seen, Meaning, Lawful, past}
use Rattle.layers.specs.Below.{axis_fit, depth_fit, then_fit, position_seen}
use Rattle.layers.specs.Laid.{laid, PassesThrough, laid_passes}
use Rattle.layers.specs.Laying.{laid_lawful, none_of, both_none}
use Rattle.backlash.specs.declared.backlash.Backlash.{Backlash}
use Rattle.backlash.specs.declared.backlash.TakeUp.{TakeUp}
use Rattle.backlash.specs.TakeUps.{fresh, steps, ranges, InRange}
use Rattle.backlash.specs.BacklashLayers.{range_fit, backlash_fit, noted, trail, moved, standing, backlash_put}
use Rattle.backlash.specs.Taking.{ranges_of, steps_near}

-- a backlash that fits: its numbers are in range, its axis is there, and there is room
pub record Fits (b : Backlash) (s : Seen) : Type 0 where
  pub ranged : ranges b ≡ true
  pub there : nat_lt b.axis s.axes ≡ true
  pub room : s.depth < 16

pub fits : (b : Backlash) (s : Seen) → backlash_fit b s ≡ None → Fits b s
fits b s e =
    let p = both_none (range_fit b) (then_fit (axis_fit Source b.axis s) (depth_fit Source s)) e in
    let q = both_none (axis_fit Source b.axis s) (depth_fit Source s) p.1 in
    record { ranged = none_of _ _ p.0; there = none_of _ _ q.0; room = ltb-true s.depth 16 (none_of _ _ q.1) }

pub fit_ranges : (b : Backlash) (s : Seen) → backlash_fit b s ≡ None → InRange b
fit_ranges b s e = ranges_of b (fits b s e).ranged

pub standing_lawful : (b : Backlash) (s : TakeUp) (m : Meaning) → Within 32767 s.amount → Lawful m → Lawful (standing b s m)
standing_lawful b s m near h =
    laid_lawful (backlash_fit b (m [])) b.axis (λ rs. (steps b s (trail b.axis m rs)).amount) m
    (λ rs e. steps_near b s (trail b.axis m rs) (fit_ranges b (m []) e) near) (λ e. (fits b (m []) e).room) h

pub backlash_fit_same : (b : Backlash) (s u : Seen) → u.axes ≡ s.axes → u.depth ≡ s.depth → backlash_fit b u ≡ backlash_fit b s
backlash_fit_same b s u e f = rw (e, f) refl

-- a layer after a row, by what its fit says
abbrev onward : Option Fault → Backlash → TakeUp → Meaning → List ℕ → Meaning
onward q b s m row = laid q b.axis (λ rs. (steps b s (trail b.axis (past m row) rs)).amount) (past m row)

step_of : (q : Option Fault) (b : Backlash) (s : TakeUp) (m : Meaning) (row : List ℕ) → (m []).refusal row ≡ None
    → onward q b (moved q b s ((m (row ∷ [])).bare b.axis)) m row ≡ past (laid q b.axis (λ rs. (steps b s (trail b.axis m rs)).amount) m) row
step_of (Some f) b s m row e = refl
step_of None b s m row e =
    ap (λ (o : Option Fault). laid None b.axis (λ rs. (steps b s (noted o ((m (row ∷ [])).bare b.axis) (trail b.axis (past m row) rs))).amount) (past m row)) (sym e)

standing_step : (b : Backlash) (s t : TakeUp) (m : Meaning) (row : List ℕ) → Lawful m → (m []).refusal row ≡ None
    → t ≡ moved (backlash_fit b (m (row ∷ []))) b s ((m (row ∷ [])).bare b.axis) → standing b t (past m row) ≡ past (standing b s m) row
standing_step b s t m row h e is =
    let f : backlash_fit b (m (row ∷ [])) ≡ backlash_fit b (m []) = backlash_fit_same b (m []) (m (row ∷ [])) (h.axes (row ∷ [])) (h.depth (row ∷ [])) in
    ap (λ (q : TakeUp). standing b q (past m row)) is
    ∙ ap (λ (q : Option Fault). onward q b (moved q b s ((m (row ∷ [])).bare b.axis)) m row) f
    ∙ step_of (backlash_fit b (m [])) b s m row e

-- once the source below has taken a row, the moved take-up is that of the layer after it
pub standing_follows : (b : Backlash) (s t : TakeUp) (k : Meaning) → t ≡ moved (backlash_fit b (k [])) b s ((k []).bare b.axis)
    → (m : Meaning) (row : List ℕ) → Lawful m → (m []).refusal row ≡ None → k ≡ past m row → standing b t (past m row) ≡ past (standing b s m) row
standing_follows b s t k is m row h none q =
    standing_step b s t m row h none (is ∙ ap (λ (n : Meaning). moved (backlash_fit b (n [])) b s ((n []).bare b.axis)) q)

there_of : (q : Option Fault) (c : Bool) (b : Backlash) (x : ℤ) (m : Meaning) → (q ≡ None → c ≡ true)
    → laid q b.axis (λ rs. (steps b (fresh (cond c x (pos 0))) (trail b.axis m rs)).amount) m ≡ laid q b.axis (λ rs. (steps b (fresh x) (trail b.axis m rs)).amount) m
there_of q true b x m h = refl
there_of (Some f) false b x m h = refl
there_of None false b x m h = let z : false ≡ true = h refl in cc

-- an axis that is not there has no backlash
pub put_standing : (b : Backlash) (m : Meaning) → standing b (fresh (position_seen (m []) b.axis)) m ≡ backlash_put b m
put_standing b m = there_of (backlash_fit b (m [])) (nat_lt b.axis (m []).axes) b ((m []).bare b.axis) m (λ e. (fits b (m []) e).there)

pub standing_passes : (b : Backlash) (s : TakeUp) (m : Meaning) → PassesThrough m (standing b s m)
standing_passes b s m = laid_passes (backlash_fit b (m [])) b.axis (λ rs. (steps b s (trail b.axis m rs)).amount) m
