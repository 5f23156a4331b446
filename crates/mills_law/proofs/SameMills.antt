-- Mills that are set up alike answer and correct the same.
use Rattle.std.proofs.Common.{◌≡◌, ℕ, ◌<◌, List, [], length, take, ◌-ℤ◌, sym, refl, ap, ◌∙◌, subst, arith}
use Rattle.std.proofs.lemmas.List.{length-map, take_all}
use Rattle.source.specs.Meaning.{Seen, Meaning, Lawful}
use Rattle.mill.specs.Mills.{fresh_mill, seen}
use Rattle.mill.specs.Runs.{Command, answers}
use Rattle.stacks.specs.Stack.{Layer, stacked}
use Rattle.stacks.specs.Runs.{offered, Matched}
use Rattle.stacks.proofs.Stacking.{stack_axes}
use Rattle.stacks.proofs.Running.{runs_match}
use Rattle.mills_law.specs.Moments.{mill_at, rows_of, rows_then, bottom_then, correction_then}
use Rattle.mills_law.specs.Pairs.{Shift, PairCommand, east_of, west_of, easts, wests}
use Rattle.mills_law.specs.Same.{AllAgree, SetUpAlike, SameMills}
use Rattle.mills_law.proofs.Feeding.{Has, offered_has}
use Rattle.mills_law.proofs.Cycles.{matched_now}
use Rattle.mills_law.proofs.Simulation.{answers_agree}
use Rattle.mills_law.proofs.Corrections.{source_has, bottom_has, seen_then, matched_then}

all_easts : (cs : List PairCommand) → take (length cs) (easts cs) ≡ easts cs
all_easts cs = let n = length-map cs east_of in take_all (length cs) (easts cs) (omega arith)

all_wests : (K : Shift) (cs : List PairCommand) → take (length cs) (wests K cs) ≡ wests K cs
all_wests K cs = let n = length-map cs (west_of K) in take_all (length cs) (wests K cs) (omega arith)

module _ (K : Shift) (e w : Meaning) (he : Lawful e) (hw : Lawful w) (cs : List PairCommand) (bE bW : Meaning) (lsE lsW : List Layer) (p : SetUpAlike K e w cs bE bW lsE lsW) where
  -- the bottoms have as many axes
  axes : (bW []).axes ≡ (bE []).axes
  axes = (matched_now K bE bW (rows_then bE (easts cs) (length cs)) (rows_then bW (wests K cs) (length cs)) p.bottoms).axes

  bottoms : Matched K bE bW (rows_of (bE []).axes (easts cs)) (rows_of (bE []).axes (wests K cs))
  bottoms =
      subst (λ (ds : List Command). Matched K bE bW (rows_of (bE []).axes ds) (rows_of (bE []).axes (wests K cs))) (all_easts cs)
      (subst (λ (ds : List Command). Matched K bE bW (rows_of (bE []).axes (take (length cs) (easts cs))) (rows_of (bE []).axes ds)) (all_wests K cs)
      (subst (λ (n : ℕ). Matched K bE bW (rows_of (bE []).axes (take (length cs) (easts cs))) (rows_of n (take (length cs) (wests K cs)))) axes p.bottoms))

  stacks : Matched K (stacked lsE bE) (stacked lsW bW) (rows_of (bE []).axes (easts cs)) (rows_of (bE []).axes (wests K cs))
  stacks = runs_match K lsE lsW bE bW (rows_of (bE []).axes (easts cs)) (rows_of (bE []).axes (wests K cs)) p.order p.fit (bottom_has e bE lsE he p.east) p.whole bottoms

  sources : Matched K e w (rows_of (bE []).axes (easts cs)) (rows_of (bE []).axes (wests K cs))
  sources =
      subst (λ (m : Meaning). Matched K m w (rows_of (bE []).axes (easts cs)) (rows_of (bE []).axes (wests K cs))) (sym p.east)
      (subst (λ (m : Meaning). Matched K (stacked lsE bE) m (rows_of (bE []).axes (easts cs)) (rows_of (bE []).axes (wests K cs))) (sym p.west) stacks)

  agree : AllAgree (answers (easts cs) (fresh_mill e)) (answers (wests K cs) (fresh_mill w))
  agree =
      answers_agree K (bE []).axes cs (fresh_mill e) (fresh_mill w) (record { seen = matched_now K e w (rows_of (bE []).axes (easts cs)) (rows_of (bE []).axes (wests K cs)) sources; motors = refl })
      (source_has e bE lsE he p.east) (λ rs. source_has w bW lsW hw p.west rs ∙ axes) sources p.near

  module _ (k a : ℕ) (l : a < (e []).axes) where
    there : (m : Meaning) → Has (bE []).axes m → a < (offered m (rows_of (bE []).axes (take k (easts cs))) []).axes
    there m h =
        subst (λ (n : ℕ). a < n) (source_has e bE lsE he p.east [] ∙ sym (offered_has (bE []).axes m (rows_of (bE []).axes (take k (easts cs))) h [])) l

    offsets : (seen (mill_at w (wests K cs) k)).offset a ≡ (seen (mill_at e (easts cs) k)).offset a
    offsets =
        ap (λ (s : Seen). s.offset a) (seen_then w bW lsW (wests K cs) k hw p.west)
        ∙ ap (λ (n : ℕ). (offered (stacked lsW bW) (rows_of n (take k (wests K cs))) []).offset a) axes
        ∙ (matched_then K (bE []).axes cs k (stacked lsE bE) (stacked lsW bW) stacks).offset a
        (there (stacked lsE bE) (λ rs. stack_axes lsE bE rs ∙ bottom_has e bE lsE he p.east rs))
        ∙ ap (λ (s : Seen). s.offset a) (sym (seen_then e bE lsE (easts cs) k he p.east))

    below : (bottom_then bW (wests K cs) k []).offset a ≡ (bottom_then bE (easts cs) k []).offset a
    below =
        ap (λ (n : ℕ). (offered bW (rows_of n (take k (wests K cs))) []).offset a) axes
        ∙ (matched_then K (bE []).axes cs k bE bW bottoms).offset a (there bE (bottom_has e bE lsE he p.east))

    equal : correction_then a w bW (wests K cs) k ≡ correction_then a e bE (easts cs) k
    equal = λ i. offsets i -ℤ below i

pub same_mills : (K : Shift) (e w : Meaning) (cs : List PairCommand) → Lawful e → Lawful w → SameMills K e w cs
same_mills K e w cs he hw bE bW lsE lsW n p =
    record { answers = agree K e w he hw (take n cs) bE bW lsE lsW p; corrections = equal K e w he hw (take n cs) bE bW lsE lsW p }
