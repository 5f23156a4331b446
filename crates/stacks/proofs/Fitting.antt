-- Layers that all fit fit in every order, and read axes that are there.
use Rattle.std.proofs.Common.{◌≡◌, ℕ, suc, ◌+◌, ◌<◌, ◌≤◌, true, ltb, List, [], ◌∷◌, length, Some, None, Option, sym, refl, ap, ◌∙◌, arith}
use Rattle.std.proofs.lemmas.Bool.{lt-ltb, ltb-true}
use Rattle.faults.specs.declared.fault.Fault.{Fault}
use Rattle.headings.specs.Heads.{row_axis, column_axis}
use Rattle.sheets.specs.Tables.{Table, held}
use Rattle.source.specs.Meaning.{Seen, Meaning}
use Rattle.layers.specs.SheetLayers.{sheet_fit}
use Rattle.layers.specs.SheetLaws as sheets
use Rattle.backlash.specs.BacklashLaws as backlashes
use Rattle.stacks.specs.Stack.{Layer, sheet, backlash, fit, stacked, kept, fitted}
use Rattle.stacks.specs.StackLaws.{Reordered, done, same, turn, then, AllFit}
use Rattle.stacks.proofs.Stacking.{stack_axes, stack_depth}

-- a layer that fits on one source fits on every other of as many axes that has room
sheet_elsewhere : (o : Option Table) (s u : Seen) → u.axes ≡ s.axes → u.depth < 16 → sheet_fit o s ≡ None → sheet_fit o u ≡ None
sheet_elsewhere None s u e h f = f
sheet_elsewhere (Some t) s u e h f =
    let p = sheets.fits t.head s f in
    let x = p.row in
    let y = p.column in
    let v = p.target in
    let z : ltb u.depth 16 ≡ true = lt-ltb u.depth 16 h in
    simp (e, x, y, v, z)

pub fit_elsewhere : (l : Layer) (s u : Seen) → u.axes ≡ s.axes → u.depth < 16 → fit l s ≡ None → fit l u ≡ None
fit_elsewhere (sheet k) s u e h f = sheet_elsewhere (held k) s u e h f
fit_elsewhere (backlash b) s u e h f =
    let p = backlashes.fits b s f in
    let x = p.ranged in
    let y = p.there in
    let z : ltb u.depth 16 ≡ true = lt-ltb u.depth 16 h in
    simp (e, x, y, z)

fit_has_room : (l : Layer) (s : Seen) → fit l s ≡ None → s.depth < 16
fit_has_room (sheet k) s f = sheets.sheet_room (held k) s f
fit_has_room (backlash b) s f = (backlashes.fits b s f).room

-- a layer reads axes below n
abbrev pub TableReads : ℕ → Option Table → Type 0
TableReads n None = Unit {0}
TableReads n (Some t) = (row_axis t.head < n) × (column_axis t.head < n)

abbrev pub Reads : ℕ → Layer → Type 0
Reads n (sheet s) = TableReads n (held s)
Reads n (backlash b) = b.axis < n

abbrev pub AllRead : ℕ → List Layer → Type 0
AllRead n [] = Unit {0}
AllRead n (l ∷ ls) = Reads n l × AllRead n ls

table_reads : (o : Option Table) (s : Seen) → sheet_fit o s ≡ None → TableReads s.axes o
table_reads None s f = tt
table_reads (Some t) s f =
    let p = sheets.fits t.head s f in
    (ltb-true (row_axis t.head) s.axes p.row, ltb-true (column_axis t.head) s.axes p.column)

fit_reads : (l : Layer) (s : Seen) → fit l s ≡ None → Reads s.axes l
fit_reads (sheet k) s f = table_reads (held k) s f
fit_reads (backlash b) s f = ltb-true b.axis s.axes (backlashes.fits b s f).there

kept_reads : (n : ℕ) (o : Option Fault) (l : Layer) (ls : List Layer) → (o ≡ None → Reads n l) → AllRead n ls → AllRead n (kept o l ls)
kept_reads n None l ls h k = (h refl, k)
kept_reads n (Some f) l ls h k = k

pub fitted_reads : (ls : List Layer) (b : Meaning) → AllRead (b []).axes (fitted ls b)
fitted_reads [] b = tt
fitted_reads (l ∷ ls) b =
    let e = stack_axes ls b [] in
    kept_reads (b []).axes (fit l (stacked ls b [])) l (fitted ls b) (λ f. rw e at (fit_reads l (stacked ls b []) f)) (fitted_reads ls b)

pub fits_all : (ls : List Layer) (b : Meaning) → AllFit ls b → fitted ls b ≡ ls
fits_all [] b h = refl
fits_all (l ∷ ls) b h = ap (λ (o : Option Fault). kept o l (fitted ls b)) h.0 ∙ ap (λ (ks : List Layer). l ∷ ks) (fits_all ls b h.1)

-- each fits on a source of n axes
abbrev Each : ℕ → List Layer → Type 0
Each n [] = Unit {0}
Each n (l ∷ ls) = ((u : Seen) → u.axes ≡ n → u.depth < 16 → fit l u ≡ None) × Each n ls

each_of : (ls : List Layer) (b : Meaning) → AllFit ls b → Each (b []).axes ls
each_of [] b h = tt
each_of (l ∷ ls) b h =
    ((λ u e d. fit_elsewhere l (stacked ls b []) u (e ∙ sym (stack_axes ls b [])) d h.0), each_of ls b h.1)

each_order : (n : ℕ) {ls ks : List Layer} → Reordered ls ks → Each n ls → Each n ks
each_order n done h = h
each_order n (same l p) h = (h.0, each_order n p h.1)
each_order n (turn l k ls) h = (h.1.0, (h.0, h.1.1))
each_order n (then p q) h = each_order n q (each_order n p h)

-- room for all
room_of : (l : Layer) (ls : List Layer) (b : Meaning) → AllFit (l ∷ ls) b → (b []).depth + length (l ∷ ls) ≤ 16
room_of l ls b h =
    let r = fit_has_room l (stacked ls b []) h.0 in
    let d = stack_depth ls b [] in
    let n = ap (λ (ks : List Layer). length ks) (fits_all ls b h.1) in
    omega arith

all_of : (ks : List Layer) (b : Meaning) → Each (b []).axes ks → (b []).depth + length ks ≤ 16 → AllFit ks b
all_of [] b h r = tt
all_of (k ∷ ks) b h r =
    let i = all_of ks b h.1 (omega arith) in
    let n = ap (λ (js : List Layer). length js) (fits_all ks b i) in
    let d = stack_depth ks b [] in
    (h.0 (stacked ks b []) (stack_axes ks b []) (omega arith), i)

pub order_length : {ls ks : List Layer} → Reordered ls ks → length ks ≡ length ls
order_length done = refl
order_length (same l p) = ap suc (order_length p)
order_length (turn l k ls) = refl
order_length (then p q) = order_length q ∙ order_length p

empty_fits : (ks : List Layer) (b : Meaning) → length ks ≡ 0 → AllFit ks b
empty_fits [] b e = tt
empty_fits (k ∷ ks) b e = absurd (omega arith)

pub order_fits : (ls ks : List Layer) (e w : Meaning) → Reordered ls ks → (w []).axes ≡ (e []).axes → (w []).depth ≡ (e []).depth → AllFit ls e → AllFit ks w
order_fits [] ks e w p a d h = empty_fits ks w (order_length p)
order_fits (l ∷ ls) ks e w p a d h =
    let r = room_of l ls e h in
    let n = order_length p in
    all_of ks w (rw a (each_order (e []).axes p (each_of (l ∷ ls) e h))) (omega arith)
