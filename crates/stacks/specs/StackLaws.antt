-- The laws of stacks, over every source, every list of layers, every list of rows and every axis.
use Rattle.std.specs.Prelude.{◌≡◌, ℕ, ◌+◌, ◌*◌, ◌<◌, ◌≤◌, List, [], ◌∷◌, length, ℤ, pos, ◌+ℤ◌, ◌-ℤ◌, ◌*ℤ◌, Some, None, Option}
use Rattle.rounding.specs.Bounds.{Within}
use Rattle.headings.specs.Heads.{row_axis, column_axis}
use Rattle.sheets.specs.Tables.{Table, held}
use Rattle.source.specs.Meaning.{Seen, Rows, Meaning, Lawful, past}
use Rattle.values.specs.ValueLaws.{Spans}
use Rattle.stacks.specs.Stack.{Layer, sheet, backlash, fit, stacked, fitted, tables, backlashes, value_sum, backlash_sum, product, exact_sum, OnPoints, table_correction}

-- a stack on a source is a source; it passes axes, bare positions and refusals through, and its depth counts the layers that fit
pub record Passing (ls : List Layer) (b : Meaning) : Type 0 where
  pub lawful : Lawful b → Lawful (stacked ls b)
  pub axes : (rs : Rows) → (stacked ls b rs).axes ≡ (b rs).axes
  pub bare : (rs : Rows) → (stacked ls b rs).bare ≡ (b rs).bare
  pub refusal : (rs : Rows) → (stacked ls b rs).refusal ≡ (b rs).refusal
  pub depth : (rs : Rows) → (stacked ls b rs).depth ≡ (b rs).depth + length (fitted ls b)
  pub shallow : Lawful b → (b []).depth + length (fitted ls b) ≤ 16
  pub near : Lawful b → (rs : Rows) (a : ℕ) → Within ((stacked ls b rs).depth * 32767) ((stacked ls b rs).offset a)

abbrev pub StacksPass : Type 0
StacksPass = (ls : List Layer) (b : Meaning) → Passing ls b

-- its offset is the bottom's, the tables' values and the backlash of those layers that fit
abbrev pub StacksSum : Type 0
StacksSum = (ls : List Layer) (b : Meaning) (rs : Rows) (a : ℕ) →
    (stacked ls b rs).offset a ≡ (b rs).offset a +ℤ (value_sum (b rs) (tables a (fitted ls b)) +ℤ backlash_sum b rs (backlashes a (fitted ls b)))

-- what tables correct is off their exact sum by at most half a unit a table, and not at all where all stand on points
pub record Corrected (ts : List Table) (s : Seen) (x : ℤ) : Type 0 where
  pub half : Within (length ts * product ts) (pos 2 *ℤ (pos (product ts) *ℤ x) -ℤ pos 2 *ℤ exact_sum s ts)
  pub points : OnPoints s ts → pos (product ts) *ℤ x ≡ exact_sum s ts

abbrev pub StacksCorrect : Type 0
StacksCorrect = (ls : List Layer) (b : Meaning) (rs : Rows) (a : ℕ) → Corrected (tables a (fitted ls b)) (b rs) (table_correction ls b rs a)

-- the same layers in another order
pub data Reordered : List Layer → List Layer → Type 0 where
  done : Reordered [] []
  same : (l : Layer) {ls ks : List Layer} → Reordered ls ks → Reordered (l ∷ ls) (l ∷ ks)
  turn : (l k : Layer) (ls : List Layer) → Reordered (l ∷ k ∷ ls) (k ∷ l ∷ ls)
  then : {ls ks js : List Layer} → Reordered ls ks → Reordered ks js → Reordered ls js

abbrev pub AllFit : List Layer → Meaning → Type 0
AllFit [] b = Unit {0}
AllFit (l ∷ ls) b = (fit l (stacked ls b []) ≡ None) × AllFit ls b

-- on one source, where all fit, the order changes nothing: all fit in the other too
pub record Ordered (ks ls : List Layer) (b : Meaning) : Type 0 where
  pub fits : AllFit ks b
  pub depth : (rs : Rows) → (stacked ks b rs).depth ≡ (stacked ls b rs).depth
  pub offset : (rs : Rows) (a : ℕ) → (stacked ks b rs).offset a ≡ (stacked ls b rs).offset a

abbrev pub StacksOrder : Type 0
StacksOrder = (ls ks : List Layer) (b : Meaning) → Reordered ls ks → AllFit ls b → Ordered ks ls b

-- West's bare positions are East's plus K at the axes that are there, and all else agrees
pub record Matching (K : ℕ → ℤ) (e w : Seen) : Type 0 where
  pub axes : w.axes ≡ e.axes
  pub depth : w.depth ≡ e.depth
  pub bare : (a : ℕ) → a < e.axes → w.bare a ≡ e.bare a +ℤ K a
  pub offset : (a : ℕ) → a < e.axes → w.offset a ≡ e.offset a

-- now, and after each of the rows, of which East and West have their own; each is accepted in both or refused in both with equal faults
abbrev pub Along : (ℕ → ℤ) → Meaning → Meaning → Rows → Rows → Type 0
Along K e w [] [] = Matching K (e []) (w [])
Along K e w [] (q ∷ qs) = ⊥
Along K e w (r ∷ rs) [] = ⊥
Along K e w (r ∷ rs) (q ∷ qs) = Matching K (e []) (w []) × ((w []).refusal q ≡ (e []).refusal r) × Along K (past e r) (past w q) rs qs

-- K is a whole multiple of every span that a table reads an axis by
abbrev pub WholeTable : (ℕ → ℤ) → Option Table → Type 0
WholeTable K None = Unit {0}
WholeTable K (Some t) = Spans t (K (row_axis t.head)) (K (column_axis t.head))

abbrev pub Whole : (ℕ → ℤ) → Layer → Type 0
Whole K (sheet s) = WholeTable K (held s)
Whole K (backlash b) = Unit {0}

abbrev pub AllWhole : (ℕ → ℤ) → List Layer → Type 0
AllWhole K [] = Unit {0}
AllWhole K (l ∷ ls) = Whole K l × AllWhole K ls

-- the axes never change, as those of a lawful source
abbrev pub Steady : Meaning → Type 0
Steady m = (rs : Rows) → (m rs).axes ≡ (m []).axes

-- matching bottoms under the same layers, of which those that fit count
abbrev pub StacksShift : Type 0
StacksShift = (K : ℕ → ℤ) (ls : List Layer) (e w : Meaning) (rs qs : Rows) → Steady e → AllWhole K (fitted ls e) → Along K e w rs qs →
    Matching K (stacked ls e rs) (stacked ls w qs)

-- and under the same layers in another order, where all fit: they then fit in the other too
abbrev pub StacksReorder : Type 0
StacksReorder = (K : ℕ → ℤ) (ls ks : List Layer) (e w : Meaning) (rs qs : Rows) → Reordered ls ks → AllFit ls e → Steady e → AllWhole K ls → Along K e w rs qs →
    AllFit ks w × Matching K (stacked ls e rs) (stacked ks w qs)
