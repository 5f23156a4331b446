-- Rows of readings, each with its fault and with the positions after it.
use Rattle.std.specs.Prelude.{ℕ, List, [], ◌∷◌, map, length, ℤ, pos, negsuc, Some, None, Option}
use Rattle.faults.specs.Faults.{fault_of, on_axis}
use Rattle.faults.specs.declared.fault.Fault.{Fault}
use Rattle.faults.specs.declared.fault.Refusal.TheVariants.{WrongLength, ReadingTooWide, JumpTooLarge, PositionLimit}
use Rattle.faults.specs.declared.fault.Part.TheVariants.{Source}
use Rattle.gauges.specs.declared.gauge.Axis.{Axis}
use Rattle.gauges.specs.declared.gauge.Gauge.{Gauge}
use Rattle.gauges.specs.declared.gauge.Gauge.TheVariants.{Encoder, Scale}
use Rattle.banks.specs.Bank.{bank_refusal, placed, unless}

pub record Case : Type 0 where
  pub kind : Gauge
  pub most : ℕ
  pub axes : List Axis
  pub row : List ℕ
  pub refusal : Option Fault
  pub after : List ℤ

abbrev pub Outcome : Type 0
Outcome = Option Fault × List ℤ

abbrev pub played : Case → Outcome
played c =
    let o = bank_refusal c.kind (length c.axes) c.most c.axes c.row in
    (o, map (λ a. a.position) (unless o c.axes (placed c.kind c.axes c.row)))

abbrev pub expected : Case → Outcome
expected c = (c.refusal, c.after)

abbrev at : ℕ → ℤ → Axis
at x p = record { last = x; position = p }

abbrev pub cases : List Case
cases =
    -- the counter rolls over upwards, and downwards
    record { kind = Encoder; most = 8388607; axes = at 16777215 (pos 0) ∷ []; row = 0 ∷ []; refusal = None; after = pos 16 ∷ [] }
    ∷ record { kind = Encoder; most = 1; axes = at 0 (pos 32) ∷ []; row = 16777215 ∷ []; refusal = None; after = pos 16 ∷ [] }
    -- half a turn goes downwards, which is one count more than any jump limit allows
    ∷ record { kind = Encoder; most = 8388607; axes = at 0 (pos 0) ∷ []; row = 8388608 ∷ []; refusal = Some (on_axis 0 (fault_of Source JumpTooLarge)); after = pos 0 ∷ [] }
    ∷ record { kind = Encoder; most = 8388607; axes = at 0 (pos 0) ∷ []; row = 8388607 ∷ []; refusal = None; after = pos 134217712 ∷ [] }
    -- a reading of more than 24 bits, at the second axis: the first does not move either
    ∷ record { kind = Encoder; most = 5; axes = at 1 (pos 0) ∷ at 1 (pos 0) ∷ []; row = 2 ∷ 16777216 ∷ []; refusal = Some (on_axis 1 (fault_of Source ReadingTooWide)); after = pos 0 ∷ pos 0 ∷ [] }
    -- up to the position limit, and one count beyond
    ∷ record { kind = Encoder; most = 5; axes = at 7 (pos 1099511627760) ∷ []; row = 8 ∷ []; refusal = None; after = pos 1099511627776 ∷ [] }
    ∷ record { kind = Encoder; most = 5; axes = at 7 (pos 1099511627776) ∷ []; row = 8 ∷ []; refusal = Some (on_axis 0 (fault_of Source PositionLimit)); after = pos 1099511627776 ∷ [] }
    -- a scale's reading is signed, and as wide as it may be
    ∷ record { kind = Scale; most = 10; axes = at 3 (pos 3) ∷ []; row = 4294967295 ∷ []; refusal = None; after = negsuc 0 ∷ [] }
    ∷ record { kind = Scale; most = 3; axes = at 3 (pos 3) ∷ []; row = 4294967295 ∷ []; refusal = Some (on_axis 0 (fault_of Source JumpTooLarge)); after = pos 3 ∷ [] }
    -- a row of another length, before its bad reading
    ∷ record { kind = Encoder; most = 5; axes = at 1 (pos 0) ∷ at 1 (pos 0) ∷ []; row = 16777216 ∷ []; refusal = Some (fault_of Source WrongLength); after = pos 0 ∷ pos 0 ∷ [] }
    ∷ []
