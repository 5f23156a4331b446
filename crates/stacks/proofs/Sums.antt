-- What a stack adds.
use Rattle.std.proofs.Common.{◌≡◌, ℕ, Bool, true, false, cond, eqb, List, [], ◌∷◌, ℤ, pos, ◌+ℤ◌, Some, None, Option, refl, ap, ◌∙◌, arith}
use Rattle.std.proofs.lemmas.Int.{ints}
use Rattle.faults.specs.declared.fault.Fault.{Fault}
use Rattle.headings.specs.Heads.{row_axis, column_axis, target_axis}
use Rattle.sheets.specs.Tables.{Table, held}
use Rattle.source.specs.Meaning.{Seen, Rows, Meaning, past}
use Rattle.values.specs.Values.{value}
use Rattle.layers.specs.Laid.{share}
use Rattle.layers.specs.SheetLayers.{sheet_target, sheet_value, value_seen}
use Rattle.backlash.specs.declared.backlash.Backlash.{Backlash}
use Rattle.backlash.specs.TakeUps.{taken_up}
use Rattle.backlash.specs.BacklashLayers.{noted, trail}
use Rattle.stacks.specs.Stack.{Layer, sheet, backlash, fit, target, gives, stacked, kept, fitted, on_target, tables, backlashes, value_sum, backlash_sum}
use Rattle.stacks.specs.StackLaws.{StacksSum}
use Rattle.stacks.proofs.Stacking.{stack_bare, stack_refusal}

-- positions along rows depend only on bare positions and refusals
pub noted_same : {o q : Option Fault} {y z : ℤ} {ys zs : List ℤ} → o ≡ q → y ≡ z → ys ≡ zs → noted o y ys ≡ noted q z zs
noted_same e f g = rw (e, f, g) refl

trail_same : (a : ℕ) (m n : Meaning) (rs : Rows) → ((qs : Rows) → (m qs).bare ≡ (n qs).bare) → ((qs : Rows) → (m qs).refusal ≡ (n qs).refusal) → trail a m rs ≡ trail a n rs
trail_same a m n [] h k = refl
trail_same a m n (r ∷ rs) h k =
    noted_same (ap (λ (f : List ℕ → Option Fault). f r) (k [])) (ap (λ (f : ℕ → ℤ). f a) (h (r ∷ []))) (trail_same a (past m r) (past n r) rs (λ qs. h (r ∷ qs)) (λ qs. k (r ∷ qs)))

taken_same : (b : Backlash) {x y : ℤ} {xs ys : List ℤ} → x ≡ y → xs ≡ ys → taken_up b x xs ≡ taken_up b y ys
taken_same b e f = rw (e, f) refl

value_same : (o : Option Table) (u v : Seen) → u.bare ≡ v.bare → sheet_value o u ≡ sheet_value o v
value_same None u v e = refl
value_same (Some t) u v e = ap (λ (f : ℕ → ℤ). value t (f (row_axis t.head)) (f (column_axis t.head))) e

-- a layer in a stack gives what it would give on the bottom
gives_same : (l : Layer) (m n : Meaning) (rs : Rows) → ((qs : Rows) → (m qs).bare ≡ (n qs).bare) → ((qs : Rows) → (m qs).refusal ≡ (n qs).refusal) → gives l m rs ≡ gives l n rs
gives_same (sheet s) m n rs h k = value_same (held s) (m rs) (n rs) (h rs)
gives_same (backlash b) m n rs h k = taken_same b (ap (λ (f : ℕ → ℤ). f b.axis) (h [])) (trail_same b.axis m n rs h k)

-- the sum over layers
abbrev pub layer_sum : ℕ → Meaning → Rows → List Layer → ℤ
layer_sum a b rs [] = pos 0
layer_sum a b rs (l ∷ ls) = cond (eqb a (target l)) (gives l b rs) (pos 0) +ℤ layer_sum a b rs ls

more_of : (o : Option Fault) (a : ℕ) (b : Meaning) (rs : Rows) (l : Layer) (ls : List Layer) (z : ℤ)
    → (z +ℤ layer_sum a b rs ls) +ℤ share o (eqb a (target l)) (gives l b rs) ≡ z +ℤ layer_sum a b rs (kept o l ls)
more_of None a b rs l ls z = regroup z (layer_sum a b rs ls) (cond (eqb a (target l)) (gives l b rs) (pos 0)) where
  regroup : (x y u : ℤ) → (x +ℤ y) +ℤ u ≡ x +ℤ (u +ℤ y)
  regroup x y u = omega (arith, ints)
more_of (Some f) a b rs l ls z = omega (arith, ints)

pub stack_offset : (ls : List Layer) (b : Meaning) (rs : Rows) (a : ℕ) → (stacked ls b rs).offset a ≡ (b rs).offset a +ℤ layer_sum a b rs (fitted ls b)
stack_offset [] b rs a = omega (arith, ints)
stack_offset (l ∷ ls) b rs a =
    let o = fit l (stacked ls b []) in
    ap (λ (z : ℤ). z +ℤ share o (eqb a (target l)) (gives l (stacked ls b) rs)) (stack_offset ls b rs a)
    ∙ ap (λ (x : ℤ). ((b rs).offset a +ℤ layer_sum a b rs (fitted ls b)) +ℤ share o (eqb a (target l)) x) (gives_same l (stacked ls b) b rs (stack_bare ls b) (stack_refusal ls b))
    ∙ more_of o a b rs l (fitted ls b) ((b rs).offset a)

-- tables and backlash apart
table_more : (c : Bool) (s : Seen) (t : Table) (ts : List Table) (z y : ℤ) → z ≡ value_sum s ts +ℤ y
    → cond c (value_seen t s) (pos 0) +ℤ z ≡ value_sum s (cond c (t ∷ ts) ts) +ℤ y
table_more true s t ts z y e = join (value_seen t s) z (value_sum s ts) y e where
  join : (x z u y : ℤ) → z ≡ u +ℤ y → x +ℤ z ≡ (x +ℤ u) +ℤ y
  join x z u y e = omega (arith, ints)
table_more false s t ts z y e = omega (arith, ints)

none_more : (c : Bool) (z : ℤ) → cond c (pos 0) (pos 0) +ℤ z ≡ z
none_more true z = omega (arith, ints)
none_more false z = omega (arith, ints)

sheet_more : (o : Option Table) (a : ℕ) (s : Seen) (ts : List Table) (z y : ℤ) → z ≡ value_sum s ts +ℤ y
    → cond (eqb a (sheet_target o)) (sheet_value o s) (pos 0) +ℤ z ≡ value_sum s (on_target a o ts) +ℤ y
sheet_more None a s ts z y e = none_more (eqb a 0) z ∙ e
sheet_more (Some t) a s ts z y e = table_more (eqb a (target_axis t.head)) s t ts z y e

backlash_more : (c : Bool) (m : Meaning) (rs : Rows) (b : Backlash) (bs : List Backlash) (x z : ℤ) → z ≡ x +ℤ backlash_sum m rs bs
    → cond c (gives (backlash b) m rs) (pos 0) +ℤ z ≡ x +ℤ backlash_sum m rs (cond c (b ∷ bs) bs)
backlash_more true m rs b bs x z e = join (gives (backlash b) m rs) z x (backlash_sum m rs bs) e where
  join : (g z u y : ℤ) → z ≡ u +ℤ y → g +ℤ z ≡ u +ℤ (g +ℤ y)
  join g z u y e = omega (arith, ints)
backlash_more false m rs b bs x z e = omega (arith, ints)

split_sum : (a : ℕ) (b : Meaning) (rs : Rows) (ls : List Layer) → layer_sum a b rs ls ≡ value_sum (b rs) (tables a ls) +ℤ backlash_sum b rs (backlashes a ls)
split_sum a b rs [] = refl
split_sum a b rs (sheet s ∷ ls) =
    sheet_more (held s) a (b rs) (tables a ls) (layer_sum a b rs ls) (backlash_sum b rs (backlashes a ls)) (split_sum a b rs ls)
split_sum a b rs (backlash k ∷ ls) =
    backlash_more (eqb a k.axis) b rs k (backlashes a ls) (value_sum (b rs) (tables a ls)) (layer_sum a b rs ls) (split_sum a b rs ls)

pub stacks_sum : StacksSum
stacks_sum ls b rs a = stack_offset ls b rs a ∙ ap (λ (x : ℤ). (b rs).offset a +ℤ x) (split_sum a b rs (fitted ls b))
