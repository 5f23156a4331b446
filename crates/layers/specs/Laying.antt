-- What every layer keeps.
use Rattle.std.specs.Prelude.{◌≡◌, ℕ, ◌+◌, ◌*◌, ◌<◌, ◌≤◌, Bool, true, false, cond, [], ℤ, pos, ◌+ℤ◌, IfOk, Some, None, Ok, Err, Option, Result, ◌==◌, nat_lt, refl}
use Rattle.std.proofs.Common.{◌∙◌, ap, arith}
use Rattle.std.proofs.lemmas.Int.{ints}
use Rattle.rounding.specs.Bounds.{Within}
use Rattle.faults.specs.declared.fault.Fault.{Fault}
use Rattle.source.specs.Meaning.{Rows, Meaning, Lawful, no_axis, bare_answer, offset_answer, answer_of}
use Rattle.layers.specs.Below.{then_fit}
use Rattle.layers.specs.Laid.{count, share, laid}

share_near : (o : Option Fault) (b : Bool) (x : ℤ) → Within 32767 x → Within 32767 (share o b x)
share_near None true x h = h
share_near None false x h = (omega (arith, ints), omega (arith, ints))
share_near (Some f) b x h = (omega (arith, ints), omega (arith, ints))

more : (d : ℕ) (o x : ℤ) → Within (d * 32767) o → Within 32767 x → Within ((d + 1) * 32767) (o +ℤ x)
more d o x h k = (omega (arith, ints), omega (arith, ints))

offset_near : (o : Option Fault) (d : ℕ) (b : Bool) (z x : ℤ) → Within (d * 32767) z → (o ≡ None → Within 32767 x) → Within ((d + count o) * 32767) (z +ℤ share o b x)
offset_near None d b z x h k = more d z (share None b x) h (share_near None b x (k refl))
offset_near (Some f) d b z x h k = (omega (arith, ints, h.0), omega (arith, ints, h.1))

deep : (o : Option Fault) (d : ℕ) → d ≤ 16 → (o ≡ None → d < 16) → d + count o ≤ 16
deep None d h k = let l : d < 16 = k refl in omega arith
deep (Some f) d h k = omega arith

pub laid_lawful : (o : Option Fault) (t : ℕ) (x : Rows → ℤ) (m : Meaning) → ((rs : Rows) → o ≡ None → Within 32767 (x rs)) → (o ≡ None → (m []).depth < 16) → Lawful m → Lawful (laid o t x m)
laid_lawful o t x m near room h = record {
  axes = h.axes;
  depth = λ rs. ap (λ d. d + count o) (h.depth rs);
  few = h.few;
  shallow = deep o (m []).depth h.shallow room;
  bare = h.bare;
  offset = λ rs a. offset_near o (m rs).depth (a == t) ((m rs).offset a) (x rs) (h.offset rs a) (near rs);
}

-- what the answer of a fit says
pub fits_of : (o : Option Fault) → ◌≡◌ {A = Result (Unit {0}) Fault} (Ok tt) (answer_of o) → o ≡ None
fits_of None e = refl
fits_of (Some f) e = let z : ◌≡◌ {A = ℕ} 0 1 = cc in absurd (omega arith)

pub unfit_of : (o : Option Fault) (f : Fault) → ◌≡◌ {A = Result (Unit {0}) Fault} (Err f) (answer_of o) → o ≡ Some f
unfit_of None f e = let z : ◌≡◌ {A = ℕ} 0 1 = cc in absurd (omega arith)
unfit_of (Some g) f e = cc

-- what a check that refuses nothing says
pub none_of : (a : Bool) (f : Fault) → cond a None (Some f) ≡ None → a ≡ true
none_of true f e = refl
none_of false f e = let z : ◌≡◌ {A = ℕ} 0 1 = cc in absurd (omega arith)

pub both_none : (o p : Option Fault) → then_fit o p ≡ None → (o ≡ None) × (p ≡ None)
both_none None p e = (refl, e)
both_none (Some f) p e = let z : ◌≡◌ {A = ℕ} 0 1 = cc in absurd (omega arith)

-- what an answer `Ok` says
pub ok_of : (b : Bool) (a : ℕ) (x z : ℤ) → ◌≡◌ {A = Result ℤ Fault} (Ok z) (cond b (Ok x) (Err (no_axis a))) → (b ≡ true) × (z ≡ x)
ok_of true a x z e = (refl, cc)
ok_of false a x z e = let w : ◌≡◌ {A = ℕ} 0 1 = cc in absurd (omega arith)

pub err_of : (b : Bool) (a : ℕ) (x : ℤ) (f : Fault) → ◌≡◌ {A = Result ℤ Fault} (Err f) (cond b (Ok x) (Err (no_axis a))) → b ≡ false
err_of true a x f e = let w : ◌≡◌ {A = ℕ} 0 1 = cc in absurd (omega arith)
err_of false a x f e = refl

-- a layer that does not fit adds nothing
pub unfit_share : (o : Option Fault) (f : Fault) (b : Bool) (x : ℤ) → ◌≡◌ {A = Result (Unit {0}) Fault} (Err f) (answer_of o) → pos 0 ≡ share o b x
unfit_share None f b x e = let z : ◌≡◌ {A = ℕ} 0 1 = cc in absurd (omega arith)
unfit_share (Some g) f b x e = refl

-- what a source answers for an offset leaves room for one amount more
pub offset_room : (m : Meaning) (a : ℕ) (r : Result ℤ Fault) → Lawful m → r ≡ offset_answer (m []) a → IfOk r (λ z. Within 524272 z)
offset_room m a (Err f) h e = tt
offset_room m a (Ok z) h e =
    let p = ok_of (nat_lt a (m []).axes) a ((m []).offset a) z e in
    let w : Within ((m []).depth * 32767) z = rw p.1 (h.offset [] a) in
    let d = h.shallow in
    (omega (arith, ints, w.0), omega (arith, ints, w.1))

-- and what it answers for a bare position stays near
pub bare_near : (m : Meaning) (a : ℕ) (z : ℤ) → Lawful m → ◌≡◌ {A = Result ℤ Fault} (Ok z) (bare_answer (m []) a) → (z ≡ cond (nat_lt a (m []).axes) ((m []).bare a) (pos 0)) × Within 1099511627776 z
bare_near m a z h e =
    let p = ok_of (nat_lt a (m []).axes) a ((m []).bare a) z e in
    (p.1 ∙ rw p.0, rw p.1 (h.bare [] a))
