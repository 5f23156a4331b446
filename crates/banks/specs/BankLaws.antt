-- The laws of banks, in the subject's words.
use Rattle.std.specs.Prelude.{◌≡◌, ℕ, ◌<◌, ◌≤◌, List, [], ◌∷◌, length, ℤ, pos, ◌+ℤ◌, ◌-ℤ◌, ◌*ℤ◌, neg_ℤ, ◌≤ℤ◌, Some, None, slice_index}
use Rattle.faults.specs.declared.fault.Fault.{Fault}
use Rattle.rounding.specs.Bounds.{Within}
use Rattle.source.specs.Meaning.{Rows}
use Rattle.gauges.specs.Gauges.{turn, signed}
use Rattle.gauges.specs.declared.gauge.Axis.{Axis}
use Rattle.gauges.specs.declared.gauge.Gauge.{Gauge}
use Rattle.gauges.specs.declared.gauge.Gauge.TheVariants.{Encoder, Scale}
use Rattle.banks.specs.Axes.{axis_at, AllNear}
use Rattle.banks.specs.Bank.{bank_means, standing}

-- m leads from one reading of a counter of 24 bits to another, by the shorter way
pub record Shorter (from to : ℕ) (m : ℤ) : Type 0 where
  pub turns : ℤ
  pub leads : pos to -ℤ pos from ≡ m +ℤ turns *ℤ pos 16777216
  pub low : neg_ℤ (pos 8388608) ≤ℤ m
  pub high : m ≤ℤ pos 8388607

-- the encoder's move is such a way, and there is no other
abbrev pub TurnsShortest : Type 0
TurnsShortest = (from to : ℕ) → Shorter from to (turn to from)

abbrev pub TurnsOnly : Type 0
TurnsOnly = (from to : ℕ) (m : ℤ) → Shorter from to m → m ≡ turn to from

-- an axis at p, last read as l, goes to q at the reading x: by 16 for each count of an encoder, to the reading itself
-- of a scale; and by no more than the jump limit
abbrev pub Goes : Gauge → (most l : ℕ) (p : ℤ) (x : ℕ) (q : ℤ) → Type 0
Goes Encoder most l p x q = (q ≡ p +ℤ pos 16 *ℤ turn x l) × Within most (turn x l)
Goes Scale most l p x q = (q ≡ signed x) × Within most (q -ℤ p)

-- the axis a at its reading in a row: where it goes, and that the reading is then its last
pub record Moves (g : Gauge) (n most : ℕ) (held : List Axis) (row : List ℕ) (a : ℕ) : Type 0 where
  pub goes : Goes g most (axis_at held a).last ((bank_means g n most held []).bare a) (slice_index row a) ((bank_means g n most held (row ∷ [])).bare a)
  pub reads : (axis_at (standing g n most held (row ∷ [])) a).last ≡ slice_index row a

-- an accepted row moves every axis that there is
abbrev pub AcceptedMoves : Type 0
AcceptedMoves =
    (g : Gauge) (n most : ℕ) (held : List Axis) (row : List ℕ) → n ≤ length held → (bank_means g n most held []).refusal row ≡ None
    → (a : ℕ) → a < n → Moves g n most held row a

-- a refused row changes nothing that is seen, now or after any rows to come
abbrev pub RefusedStays : Type 0
RefusedStays =
    (g : Gauge) (n most : ℕ) (held : List Axis) (row : List ℕ) (f : Fault) → (bank_means g n most held []).refusal row ≡ Some f
    → (rs : Rows) → bank_means g n most held (row ∷ rs) ≡ bank_means g n most held rs

-- no row takes an axis beyond the position limit
abbrev pub StaysNear : Type 0
StaysNear = (g : Gauge) (n most : ℕ) (held : List Axis) → AllNear held → (rs : Rows) (a : ℕ) → Within 1099511627776 ((bank_means g n most held rs).bare a)

pub record BankLaws : Type 0 where
  pub shortest : TurnsShortest
  pub only : TurnsOnly
  pub accepted : AcceptedMoves
  pub refused : RefusedStays
  pub near : StaysNear
