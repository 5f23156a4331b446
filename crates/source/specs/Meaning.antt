-- What a source of positions means: what can be asked of it now, and after each list of rows that it is offered.
use Rattle.std.specs.Prelude.{◌≡◌, ℕ, ◌*◌, ◌≤◌, cond, List, [], ◌∷◌, ℤ, Some, None, Ok, Err, Option, Result, nat_lt}
use Rattle.rounding.specs.Bounds.{Within}
use Rattle.faults.specs.declared.fault.Fault.{Fault}
use Rattle.faults.specs.declared.fault.Refusal.TheVariants.{NoSuchAxis}
use Rattle.faults.specs.declared.fault.Part.TheVariants.{Source}

pub record Seen : Type 0 where
  pub axes : ℕ
  pub depth : ℕ
  pub bare : ℕ → ℤ
  pub offset : ℕ → ℤ
  pub refusal : List ℕ → Option Fault

abbrev pub Rows : Type 0
Rows = List (List ℕ)

abbrev pub Meaning : Type 0
Meaning = Rows → Seen

pub record Lawful (m : Meaning) : Type 0 where
  pub axes : (rs : Rows) → (m rs).axes ≡ (m []).axes
  pub depth : (rs : Rows) → (m rs).depth ≡ (m []).depth
  pub few : (m []).axes ≤ 8
  pub shallow : (m []).depth ≤ 16
  pub bare : (rs : Rows) (a : ℕ) → Within 1099511627776 ((m rs).bare a)
  pub offset : (rs : Rows) (a : ℕ) → Within ((m rs).depth * 32767) ((m rs).offset a)

abbrev pub no_axis : ℕ → Fault
no_axis a = record { refusal = NoSuchAxis; part = Source; line = None; axis = Some a }

abbrev pub bare_answer : Seen → ℕ → Result ℤ Fault
bare_answer s a = cond (nat_lt a s.axes) (Ok (s.bare a)) (Err (no_axis a))

abbrev pub offset_answer : Seen → ℕ → Result ℤ Fault
offset_answer s a = cond (nat_lt a s.axes) (Ok (s.offset a)) (Err (no_axis a))

abbrev pub answer_of : Option Fault → Result (Unit {0}) Fault
answer_of None = Ok tt
answer_of (Some f) = Err f

abbrev pub row_answer : Seen → List ℕ → Result (Unit {0}) Fault
row_answer s row = answer_of (s.refusal row)

-- what comes once a row was offered
abbrev pub past : Meaning → List ℕ → Meaning
past m row = λ rs. m (row ∷ rs)

abbrev pub after_of : Option Fault → Meaning → List ℕ → Meaning
after_of None m row = past m row
after_of (Some f) m row = m

-- the meaning after a row was offered
abbrev pub after : Meaning → List ℕ → Meaning
after m row = after_of ((m []).refusal row) m row
