-- Stacks over matching bottoms, and stacks in another order.
use Rattle.std.proofs.Common.{◌≡◌, ℕ, ◌+◌, ◌<◌, cond, eqb, List, [], ◌∷◌, map, length, ℤ, pos, ◌+ℤ◌, Some, None, Option, sym, refl, ap, ◌∙◌, arith}
use Rattle.std.proofs.lemmas.Int.{ints}
use Rattle.faults.specs.declared.fault.Fault.{Fault}
use Rattle.headings.specs.Heads.{row_axis, column_axis}
use Rattle.sheets.specs.Tables.{Table, Valid, held}
use Rattle.sheets.proofs.Held.{held_valid}
use Rattle.source.specs.Meaning.{Seen, Rows, Meaning, past}
use Rattle.values.specs.Values.{value}
use Rattle.values.proofs.Repeats.{value_repeats}
use Rattle.layers.specs.SheetLayers.{sheet_value}
use Rattle.layers.specs.SheetLaws.{sheet_fit_same}
use Rattle.backlash.specs.TakeUps.{taken_up}
use Rattle.backlash.specs.BacklashLayers.{noted, trail}
use Rattle.backlash.specs.BacklashLaws.{backlash_fit_same}
use Rattle.stacks.specs.Stack.{Layer, sheet, backlash, fit, target, gives, stacked, kept, fitted}
use Rattle.stacks.specs.StackLaws.{Reordered, done, same, turn, then, AllFit, StacksOrder, Matching, Along, WholeTable, Whole, AllWhole, Steady, StacksShift, StacksReorder}
use Rattle.stacks.proofs.Fitting.{TableReads, Reads, AllRead, fitted_reads, fits_all, order_length, order_fits}
use Rattle.stacks.proofs.Shifting.{taken_shift}
use Rattle.stacks.proofs.Stacking.{stack_axes, stack_bare, stack_depth}
use Rattle.stacks.proofs.Sums.{noted_same, layer_sum, stack_offset}

noted_map : (o : Option Fault) (k y : ℤ) (ys : List ℤ) → noted o (y +ℤ k) (map (λ v. v +ℤ k) ys) ≡ map (λ v. v +ℤ k) (noted o y ys)
noted_map None k y ys = refl
noted_map (Some f) k y ys = refl

steady_past : (m : Meaning) (r : List ℕ) → Steady m → Steady (past m r)
steady_past m r c rs = c (r ∷ rs) ∙ sym (c (r ∷ []))

-- an axis that is there stays there
there_still : (m : Meaning) (rs : Rows) (a : ℕ) → Steady m → a < (m []).axes → a < (m rs).axes
there_still m rs a c h = let e = c rs in omega arith

module _ (K : ℕ → ℤ) where
  pub along_now : (e w : Meaning) (rs qs : Rows) → Along K e w rs qs → Matching K (e []) (w [])
  along_now e w [] [] h = h
  along_now e w [] (q ∷ qs) h = absurd h
  along_now e w (r ∷ rs) [] h = absurd h
  along_now e w (r ∷ rs) (q ∷ qs) h = h.0

  pub along_end : (e w : Meaning) (rs qs : Rows) → Along K e w rs qs → Matching K (e rs) (w qs)
  along_end e w [] [] h = h
  along_end e w [] (q ∷ qs) h = absurd h
  along_end e w (r ∷ rs) [] h = absurd h
  along_end e w (r ∷ rs) (q ∷ qs) h = along_end (past e r) (past w q) rs qs h.2

  trail_shift : (a : ℕ) (e w : Meaning) (rs qs : Rows) → Steady e → a < (e []).axes → Along K e w rs qs → trail a w qs ≡ map (λ y. y +ℤ K a) (trail a e rs)
  trail_shift a e w [] [] c n h = refl
  trail_shift a e w [] (q ∷ qs) c n h = absurd h
  trail_shift a e w (r ∷ rs) [] c n h = absurd h
  trail_shift a e w (r ∷ rs) (q ∷ qs) c n h =
      let i = there_still e (r ∷ []) a c n in
      noted_same h.1 ((along_now (past e r) (past w q) rs qs h.2).bare a i) (trail_shift a (past e r) (past w q) rs qs (steady_past e r c) i h.2)
      ∙ noted_map ((e []).refusal r) (K a) ((e (r ∷ [])).bare a) (trail a (past e r) rs)

  -- a layer that reads axes that are there gives the same
  value_shift : (o : Option Table) (s u : Seen) → ((t : Table) → o ≡ Some t → Valid t) → WholeTable K o → TableReads s.axes o → Matching K s u → sheet_value o u ≡ sheet_value o s
  value_shift None s u v k n h = refl
  value_shift (Some t) s u v k n h =
      let i = row_axis t.head in
      let j = column_axis t.head in
      ap (λ (x : ℤ). value t x (u.bare j)) (h.bare i n.0)
      ∙ ap (λ (y : ℤ). value t (s.bare i +ℤ K i) y) (h.bare j n.1)
      ∙ (value_repeats t (s.bare i) (s.bare j) (K i) (K j) (v t refl) k).1

  table_still : (o : Option Table) (m : Meaning) (rs : Rows) → Steady m → TableReads (m []).axes o → TableReads (m rs).axes o
  table_still None m rs c n = tt
  table_still (Some t) m rs c n = (there_still m rs (row_axis t.head) c n.0, there_still m rs (column_axis t.head) c n.1)

  gives_shift : (l : Layer) (e w : Meaning) (rs qs : Rows) → Steady e → Reads (e []).axes l → Whole K l → Along K e w rs qs → gives l w qs ≡ gives l e rs
  gives_shift (sheet s) e w rs qs c n k h =
      value_shift (held s) (e rs) (w qs) (held_valid s) k (table_still (held s) e rs c n) (along_end e w rs qs h)
  gives_shift (backlash b) e w rs qs c n k h =
      let a = b.axis in
      ap (λ (x : ℤ). taken_up b x (trail a w qs)) ((along_now e w rs qs h).bare a n)
      ∙ ap (λ (ys : List ℤ). taken_up b ((e []).bare a +ℤ K a) ys) (trail_shift a e w rs qs c n h)
      ∙ taken_shift b ((e []).bare a) (K a) (trail a e rs)

  sum_shift : (a : ℕ) (ls : List Layer) (e w : Meaning) (rs qs : Rows) → Steady e → AllRead (e []).axes ls → AllWhole K ls → Along K e w rs qs → layer_sum a w qs ls ≡ layer_sum a e rs ls
  sum_shift a [] e w rs qs c n k h = refl
  sum_shift a (l ∷ ls) e w rs qs c n k h =
      ap (λ (x : ℤ). cond (eqb a (target l)) x (pos 0) +ℤ layer_sum a w qs ls) (gives_shift l e w rs qs c n.0 k.0 h)
      ∙ ap (λ (y : ℤ). cond (eqb a (target l)) (gives l e rs) (pos 0) +ℤ y) (sum_shift a ls e w rs qs c n.1 k.1 h)

  -- the same layers fit
  fit_same : (l : Layer) (s u : Seen) → u.axes ≡ s.axes → u.depth ≡ s.depth → fit l u ≡ fit l s
  fit_same (sheet k) s u e f = sheet_fit_same (held k) s u e f
  fit_same (backlash b) s u e f = backlash_fit_same b s u e f

  depth_as : (ls : List Layer) (e w : Meaning) → Matching K (e []) (w []) → fitted ls w ≡ fitted ls e → (stacked ls w []).depth ≡ (stacked ls e []).depth
  depth_as ls e w h f =
      stack_depth ls w [] ∙ ap (λ (d : ℕ). d + length (fitted ls w)) h.depth ∙ ap (λ (ks : List Layer). (e []).depth + length ks) f ∙ sym (stack_depth ls e [])

  fitted_same : (ls : List Layer) (e w : Meaning) → Matching K (e []) (w []) → fitted ls w ≡ fitted ls e
  fitted_same [] e w h = refl
  fitted_same (l ∷ ls) e w h =
      let f = fitted_same ls e w h in
      let g : fit l (stacked ls w []) ≡ fit l (stacked ls e []) =
      fit_same l (stacked ls e []) (stacked ls w []) (stack_axes ls w [] ∙ h.axes ∙ sym (stack_axes ls e [])) (depth_as ls e w h f) in
      ap (λ (o : Option Fault). kept o l (fitted ls w)) g ∙ ap (λ (ks : List Layer). kept (fit l (stacked ls e [])) l ks) f

  whole_kept : (o : Option Fault) (l : Layer) (ls : List Layer) → Whole K l → AllWhole K ls → AllWhole K (kept o l ls)
  whole_kept None l ls u v = (u, v)
  whole_kept (Some f) l ls u v = v

  whole_fitted : (ls : List Layer) (b : Meaning) → AllWhole K ls → AllWhole K (fitted ls b)
  whole_fitted [] b u = tt
  whole_fitted (l ∷ ls) b u = whole_kept (fit l (stacked ls b [])) l (fitted ls b) u.0 (whole_fitted ls b u.1)

  -- two stacks match where their fitted layers have one length and sum
  match_stacks : (ls ks : List Layer) (e w : Meaning) (rs qs : Rows) → Matching K (e rs) (w qs) → length (fitted ks w) ≡ length (fitted ls e)
      → ((a : ℕ) → layer_sum a w qs (fitted ks w) ≡ layer_sum a e rs (fitted ls e)) → Matching K (stacked ls e rs) (stacked ks w qs)
  match_stacks ls ks e w rs qs h n s =
      let t : (a : ℕ) → a < (stacked ls e rs).axes → a < (e rs).axes = λ a i. rw (stack_axes ls e rs) at i in
      record {
        axes = stack_axes ks w qs ∙ h.axes ∙ sym (stack_axes ls e rs);
        depth = stack_depth ks w qs ∙ ap (λ (d : ℕ). d + length (fitted ks w)) h.depth ∙ ap (λ (d : ℕ). (e rs).depth + d) n ∙ sym (stack_depth ls e rs);
        bare = λ a i. ap (λ (f : ℕ → ℤ). f a) (stack_bare ks w qs) ∙ h.bare a (t a i) ∙ ap (λ (f : ℕ → ℤ). f a +ℤ K a) (sym (stack_bare ls e rs));
        offset = λ a i. stack_offset ks w qs a ∙ ap (λ (z : ℤ). z +ℤ layer_sum a w qs (fitted ks w)) (h.offset a (t a i)) ∙ ap (λ (z : ℤ). (e rs).offset a +ℤ z) (s a) ∙ sym (stack_offset ls e rs a);
      }

pub stacks_shift : StacksShift
stacks_shift K ls e w rs qs c u h =
    let f = fitted_same K ls e w (along_now K e w rs qs h) in
    match_stacks K ls ls e w rs qs (along_end K e w rs qs h) (ap (λ (ks : List Layer). length ks) f)
    (λ a. ap (λ (ks : List Layer). layer_sum a w qs ks) f ∙ sum_shift K a (fitted ls e) e w rs qs c (fitted_reads ls e) u h)

-- the order does not matter
swap_sum : (x y z : ℤ) → x +ℤ (y +ℤ z) ≡ y +ℤ (x +ℤ z)
swap_sum x y z = omega (arith, ints)

order_sum : (a : ℕ) (b : Meaning) (rs : Rows) {ls ks : List Layer} → Reordered ls ks → layer_sum a b rs ks ≡ layer_sum a b rs ls
order_sum a b rs done = refl
order_sum a b rs (same l p) = ap (λ (z : ℤ). cond (eqb a (target l)) (gives l b rs) (pos 0) +ℤ z) (order_sum a b rs p)
order_sum a b rs (turn l k ls) = swap_sum (cond (eqb a (target k)) (gives k b rs) (pos 0)) (cond (eqb a (target l)) (gives l b rs) (pos 0)) (layer_sum a b rs ls)
order_sum a b rs (then p q) = order_sum a b rs q ∙ order_sum a b rs p

fitted_sum : (a : ℕ) (b : Meaning) (rs : Rows) (ls ks : List Layer) → Reordered ls ks → AllFit ls b → AllFit ks b → layer_sum a b rs (fitted ks b) ≡ layer_sum a b rs (fitted ls b)
fitted_sum a b rs ls ks p f g =
    ap (λ (js : List Layer). layer_sum a b rs js) (fits_all ks b g) ∙ order_sum a b rs p ∙ ap (λ (js : List Layer). layer_sum a b rs js) (sym (fits_all ls b f))

fitted_length : (e w : Meaning) (ls ks : List Layer) → Reordered ls ks → AllFit ls e → AllFit ks w → length (fitted ks w) ≡ length (fitted ls e)
fitted_length e w ls ks p f g =
    ap (λ (js : List Layer). length js) (fits_all ks w g) ∙ order_length p ∙ ap (λ (js : List Layer). length js) (sym (fits_all ls e f))

pub stacks_order : StacksOrder
stacks_order ls ks b p f =
    let g = order_fits ls ks b b p refl refl f in
    record {
      fits = g;
      depth = λ rs. stack_depth ks b rs ∙ ap (λ (d : ℕ). (b rs).depth + d) (fitted_length b b ls ks p f g) ∙ sym (stack_depth ls b rs);
      offset = λ rs a. stack_offset ks b rs a ∙ ap (λ (z : ℤ). (b rs).offset a +ℤ z) (fitted_sum a b rs ls ks p f g) ∙ sym (stack_offset ls b rs a);
    }

pub stacks_reorder : StacksReorder
stacks_reorder K ls ks e w rs qs p fe c u h =
    let now = along_now K e w rs qs h in
    let fw = order_fits ls ks e w p now.axes now.depth fe in
    let n = fitted_reads ls e in
    let s : (a : ℕ) → layer_sum a w qs (fitted ls e) ≡ layer_sum a e rs (fitted ls e) = λ a. sum_shift K a (fitted ls e) e w rs qs c n (whole_fitted K ls e u) h in
    let o : (a : ℕ) → layer_sum a w qs (fitted ks w) ≡ layer_sum a w qs (fitted ls e) =
    λ a. ap (λ (js : List Layer). layer_sum a w qs js) (fits_all ks w fw) ∙ order_sum a w qs p ∙ ap (λ (js : List Layer). layer_sum a w qs js) (sym (fits_all ls e fe)) in
    (fw, match_stacks K ls ks e w rs qs (along_end K e w rs qs h) (fitted_length e w ls ks p fe fw) (λ a. o a ∙ s a))
