-- Calls for two mills at once: West gets East's, with the shift added to targets and its own rows of readings.
use Rattle.std.specs.Prelude.{◌≡◌, ℕ, Bool, false, List, [], ◌∷◌, map, ℤ, pos, ◌+ℤ◌, slice_index_or}
use Rattle.servo.specs.declared.settings.GainSettings.{GainSettings}
use Rattle.mill.specs.Calls.{is_far}
use Rattle.mill.specs.Runs as one

-- how far West's positions are along from East's, at each axis
abbrev pub Shift : Type 0
Shift = ℕ → ℤ

abbrev pub shift_of : List ℤ → Shift
shift_of ks = λ a. slice_index_or ks a (pos 0)

pub data PairCommand : Type 0 where
  set_gains : ℕ → GainSettings → PairCommand
  close : ℕ → PairCommand
  kill : ℕ → PairCommand
  -- East's target
  target : ℕ → ℤ → PairCommand
  switch : ℕ → Bool → PairCommand
  question : ℕ → PairCommand
  -- East's row of readings, West's, and the length of the row that each is lent for its outputs
  cycle : List ℕ → List ℕ → ℕ → PairCommand

abbrev pub east_of : PairCommand → one.Command
east_of (set_gains a g) = one.set_gains a g
east_of (close a) = one.close a
east_of (kill a) = one.kill a
east_of (target a t) = one.target a t
east_of (switch a on) = one.switch a on
east_of (question a) = one.question a
east_of (cycle r q n) = one.cycle r n

abbrev pub west_of : Shift → PairCommand → one.Command
west_of K (set_gains a g) = one.set_gains a g
west_of K (close a) = one.close a
west_of K (kill a) = one.kill a
west_of K (target a t) = one.target a (t +ℤ K a)
west_of K (switch a on) = one.switch a on
west_of K (question a) = one.question a
west_of K (cycle r q n) = one.cycle q n

abbrev pub easts : List PairCommand → List one.Command
easts cs = map east_of cs

abbrev pub wests : Shift → List PairCommand → List one.Command
wests K cs = map (west_of K) cs

-- no target lies beyond the position limit, in East or in West
abbrev pub Near : Shift → PairCommand → Type 0
Near K (set_gains a g) = Unit {0}
Near K (close a) = Unit {0}
Near K (kill a) = Unit {0}
Near K (target a t) = (is_far t ≡ false) × (is_far (t +ℤ K a) ≡ false)
Near K (switch a on) = Unit {0}
Near K (question a) = Unit {0}
Near K (cycle r q n) = Unit {0}

abbrev pub AllNear : Shift → List PairCommand → Type 0
AllNear K [] = Unit {0}
AllNear K (c ∷ cs) = Near K c × AllNear K cs
