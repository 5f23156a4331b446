-- A plane's heading, made of its numbers or refused at one of them.
use Rattle.std.proofs.Common.{◌≡◌, ℕ, true, false, cond, ◌&&◌, ℤ, nat_abs, Ok, Err, Result, sym, ap, ◌∙◌}
use Rattle.std.specs.Result.{result_map_both}
use Rattle.std.proofs.lemmas.Bool.{and_left, and_right, and_from}
use Rattle.faults.specs.declared.fault.Fault.{Fault}
use Rattle.faults.specs.declared.fault.Refusal.TheVariants.{OutOfRange}
use Rattle.headings.specs.declared.heading.Plane.{Plane}
use Rattle.headings.specs.Heads.{sheet_fault, Head, plane, plane_of, within, plane_fits, plane_heading}

module _ (r c s u t a b : ℤ) where
  -- a number out of its range
  pub plane_refused : (x : Result Plane Fault) (f : Fault) → (y : Fault) × (x ≡ Err y) × (y ≡ f) → f ≡ sheet_fault OutOfRange → plane_fits r c s u t a b ≡ false
      → result_map_both {E = Fault} {D = Fault} plane_of (λ g. g) x ≡ plane_heading r c s u t a b
  plane_refused x f p e q =
      ap (result_map_both {E = Fault} {D = Fault} plane_of (λ g. g)) p.1 ∙ ap (λ g. Err g) (p.2 ∙ e)
      ∙ sym (ap (λ o. cond o (Ok (plane (nat_abs r) (nat_abs c) (nat_abs s) (nat_abs u) (nat_abs t) (nat_abs a) (nat_abs b))) (Err (sheet_fault OutOfRange))) q)

  -- all in their ranges
  pub plane_made : (r' c' s' u' t' a' b' : ℕ) → within 16 r ≡ true → within 16 c ≡ true → within 8 s ≡ true → within 8 u ≡ true → within 8 t ≡ true → within 262144 a ≡ true → within 262144 b ≡ true
      → r' ≡ nat_abs r → c' ≡ nat_abs c → s' ≡ nat_abs s → u' ≡ nat_abs u → t' ≡ nat_abs t → a' ≡ nat_abs a → b' ≡ nat_abs b
      → ◌≡◌ {A = Result Head Fault} (Ok (plane r' c' s' u' t' a' b')) (plane_heading r c s u t a b)
  plane_made r' c' s' u' t' a' b' q0 q1 q2 q3 q4 q5 q6 e0 e1 e2 e3 e4 e5 e6 =
      let q : plane_fits r c s u t a b ≡ true = and_from _ _ q0 (and_from _ _ q1 (and_from _ _ q2 (and_from _ _ q3 (and_from _ _ q4 (and_from _ _ q5 q6))))) in
      let e : ◌≡◌ {A = Result Head Fault} (Ok (plane r' c' s' u' t' a' b')) (Ok (plane (nat_abs r) (nat_abs c) (nat_abs s) (nat_abs u) (nat_abs t) (nat_abs a) (nat_abs b))) = cc in
      e ∙ sym (ap (λ o. cond o (Ok (plane (nat_abs r) (nat_abs c) (nat_abs s) (nat_abs u) (nat_abs t) (nat_abs a) (nat_abs b))) (Err (sheet_fault OutOfRange))) q)

  pub bad_rows : within 16 r ≡ false → plane_fits r c s u t a b ≡ false
  bad_rows h = and_left (within 16 r) (within 16 c && (within 8 s && (within 8 u && (within 8 t && (within 262144 a && within 262144 b))))) h

  pub bad_columns : within 16 c ≡ false → plane_fits r c s u t a b ≡ false
  bad_columns h = and_right (within 16 r) (within 16 c && (within 8 s && (within 8 u && (within 8 t && (within 262144 a && within 262144 b))))) (and_left (within 16 c) (within 8 s && (within 8 u && (within 8 t && (within 262144 a && within 262144 b)))) h)

  pub bad_row_motor : within 8 s ≡ false → plane_fits r c s u t a b ≡ false
  bad_row_motor h = and_right (within 16 r) (within 16 c && (within 8 s && (within 8 u && (within 8 t && (within 262144 a && within 262144 b))))) (and_right (within 16 c) (within 8 s && (within 8 u && (within 8 t && (within 262144 a && within 262144 b)))) (and_left (within 8 s) (within 8 u && (within 8 t && (within 262144 a && within 262144 b))) h))

  pub bad_column_motor : within 8 u ≡ false → plane_fits r c s u t a b ≡ false
  bad_column_motor h = and_right (within 16 r) (within 16 c && (within 8 s && (within 8 u && (within 8 t && (within 262144 a && within 262144 b))))) (and_right (within 16 c) (within 8 s && (within 8 u && (within 8 t && (within 262144 a && within 262144 b)))) (and_right (within 8 s) (within 8 u && (within 8 t && (within 262144 a && within 262144 b))) (and_left (within 8 u) (within 8 t && (within 262144 a && within 262144 b)) h)))

  pub bad_target : within 8 t ≡ false → plane_fits r c s u t a b ≡ false
  bad_target h = and_right (within 16 r) (within 16 c && (within 8 s && (within 8 u && (within 8 t && (within 262144 a && within 262144 b))))) (and_right (within 16 c) (within 8 s && (within 8 u && (within 8 t && (within 262144 a && within 262144 b)))) (and_right (within 8 s) (within 8 u && (within 8 t && (within 262144 a && within 262144 b))) (and_right (within 8 u) (within 8 t && (within 262144 a && within 262144 b)) (and_left (within 8 t) (within 262144 a && within 262144 b) h))))

  pub bad_row_span : within 262144 a ≡ false → plane_fits r c s u t a b ≡ false
  bad_row_span h = and_right (within 16 r) (within 16 c && (within 8 s && (within 8 u && (within 8 t && (within 262144 a && within 262144 b))))) (and_right (within 16 c) (within 8 s && (within 8 u && (within 8 t && (within 262144 a && within 262144 b)))) (and_right (within 8 s) (within 8 u && (within 8 t && (within 262144 a && within 262144 b))) (and_right (within 8 u) (within 8 t && (within 262144 a && within 262144 b)) (and_right (within 8 t) (within 262144 a && within 262144 b) (and_left (within 262144 a) (within 262144 b) h)))))

  pub bad_column_span : within 262144 b ≡ false → plane_fits r c s u t a b ≡ false
  bad_column_span h = and_right (within 16 r) (within 16 c && (within 8 s && (within 8 u && (within 8 t && (within 262144 a && within 262144 b))))) (and_right (within 16 c) (within 8 s && (within 8 u && (within 8 t && (within 262144 a && within 262144 b)))) (and_right (within 8 s) (within 8 u && (within 8 t && (within 262144 a && within 262144 b))) (and_right (within 8 u) (within 8 t && (within 262144 a && within 262144 b)) (and_right (within 8 t) (within 262144 a && within 262144 b) (and_right (within 262144 a) (within 262144 b) h)))))
