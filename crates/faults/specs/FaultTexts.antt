-- How a fault is printed.
use Rattle.std.specs.Prelude.{ℕ, List, [], ◌∷◌, ◌++◌, Some, None, codes, decimal, Option}
use Rattle.faults.specs.declared.fault.Fault.{Fault}
use Rattle.faults.specs.declared.fault.Part.{Part}
use Rattle.faults.specs.declared.fault.Part.TheVariants.{Text, Sheet, Source, Machine}
use Rattle.faults.specs.Faults.{number}

abbrev pub part_name : Part → List ℕ
part_name Text = codes "text"
part_name Sheet = codes "sheet"
part_name Source = codes "source"
part_name Machine = codes "machine"

-- a field that is left out where there is nothing to name
abbrev pub named : List ℕ → Option ℕ → List ℕ
named lead None = []
named lead (Some n) = lead ++ decimal n

-- as `refused=5 line=9 axis=0 from=source`
abbrev pub fault_text : Fault → List ℕ
fault_text f =
    codes "refused=" ++ decimal (number f.refusal)
    ++ named (codes " line=") f.line
    ++ named (codes " axis=") f.axis
    ++ codes " from=" ++ part_name f.part

-- with its line end
abbrev pub fault_line : Fault → List ℕ
fault_line f = fault_text f ++ 10 ∷ []
