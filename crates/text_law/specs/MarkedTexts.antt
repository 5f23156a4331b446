-- Texts with what comes of each when it is read.
use Rattle.std.specs.Prelude.{◌≡◌, ℕ, List, [], ◌∷◌, ◌++◌, map, pos, negsuc, Ok, Err, codes, Result}
use Prim.Native.String.{String}
use Rattle.faults.specs.declared.fault.Fault.{Fault}
use Rattle.faults.specs.declared.fault.Refusal.TheVariants.{WrongForm, OutOfRange, TooManyEntries, Incomplete}
use Rattle.faults.specs.Faults.{text_fault}
use Rattle.headings.specs.Heads.{screw, plane}
use Rattle.sheets.specs.Tables.{Table}
use Rattle.table_text.specs.TableTexts.{reading}

-- lines, each with its end, and what follows the last end
abbrev pub text : List String → String → List ℕ
text [] left = codes left
text (l ∷ ls) left = codes l ++ 10 ∷ text ls left

abbrev pub marked : List (List ℕ × Result Table Fault)
marked =
    (text ([]) "", Err (text_fault WrongForm 1)) ∷
    (text ([]) "DEFINE COMP 4,#1,#1,10", Err (text_fault WrongForm 1)) ∷
    (text ("DEFINE COMP 4,#1,#1,10" ∷ []) "", Err (text_fault Incomplete 2)) ∷
    (text ("DEFINE COMP 4,#1,#1,10" ∷ "8" ∷ []) "", Err (text_fault Incomplete 3)) ∷
    (text ("DEFINE COMP 4,#1,#1,10" ∷ "8" ∷ []) "-8", Err (text_fault WrongForm 3)) ∷
    (text ("DEFINE COMP 4,#1,#1,10" ∷ "8" ∷ "-8" ∷ "CLOSE" ∷ []) "x", Err (text_fault Incomplete 4)) ∷
    (text ("DEFINE COMP 4,#1,#1,10" ∷ "8" ∷ "-8" ∷ "4" ∷ "0" ∷ []) "CLOSE", Err (text_fault WrongForm 6)) ∷
    (text ("DEFINE COMP 4,#1,#1,10" ∷ "8" ∷ "-8" ∷ "4" ∷ "0" ∷ "CLOSE" ∷ "" ∷ []) "", Err (text_fault WrongForm 7)) ∷
    (text ("DEFINE COMP 4,#1,#1,10" ∷ "8" ∷ "-8" ∷ "4" ∷ "0" ∷ "99999" ∷ "CLOSE" ∷ []) "", Err (text_fault TooManyEntries 6)) ∷
    (text ("DEFINE COMP 4,#1,#1,10" ∷ "8" ∷ "-8" ∷ "4" ∷ "0" ∷ "+9" ∷ "CLOSE" ∷ []) "", Err (text_fault WrongForm 6)) ∷
    (text ("DEFINE COMP 4,#1,#1,10" ∷ "8" ∷ "-32768" ∷ []) "", Err (text_fault OutOfRange 3)) ∷
    (text ("DEFINE COMP 4,#1,#1,10" ∷ "8" ∷ "-0" ∷ []) "", Err (text_fault WrongForm 3)) ∷
    (text ("DEFINE COMP 4,#1,#1,10" ∷ "08" ∷ []) "", Err (text_fault WrongForm 2)) ∷
    (text ("DEFINE COMP 257,#1,#1,10" ∷ []) "", Err (text_fault OutOfRange 1)) ∷
    (text ("DEFINE COMP -4,#1,#1,10" ∷ []) "", Err (text_fault OutOfRange 1)) ∷
    (text ("DEFINE COMP 4,#9,#1,10" ∷ []) "", Err (text_fault OutOfRange 1)) ∷
    (text ("DEFINE COMP 4,#1,#0,10" ∷ []) "", Err (text_fault OutOfRange 1)) ∷
    (text ("DEFINE COMP 4,#1,#1,16777217" ∷ []) "", Err (text_fault OutOfRange 1)) ∷
    (text ("DEFINE COMP 4,#1,#1,340282366920938463463374607431768211456" ∷ []) "", Err (text_fault OutOfRange 1)) ∷
    (text ("DEFINE COMP 4,#1,#1,10 " ∷ []) "", Err (text_fault WrongForm 1)) ∷
    (text ("DEFINE COMP 1.17,#1,#2,#3,1,1" ∷ []) "", Err (text_fault OutOfRange 1)) ∷
    (text ("DEFINE COMP 1.1,#1,#2,#3,1,262145" ∷ []) "", Err (text_fault OutOfRange 1)) ∷
    (text ("DEFINE COMP 1.1,#1,#2,#3,1" ∷ []) "", Err (text_fault WrongForm 1)) ∷
    (text ("DEFINE COMP 1.1,#1,#2,#3,1,1" ∷ "4" ∷ "8" ∷ "CLOSE" ∷ []) "", Err (text_fault Incomplete 4)) ∷
    (text ("DEFINE COMP 2,#1,#1,10" ∷ "8" ∷ "9" ∷ "CLOSE" ∷ "CLOSE" ∷ []) "", Err (text_fault WrongForm 5)) ∷
    (text ("DEFINE COMP 2,#1,#1,10" ∷ "8" ∷ "40000" ∷ []) "", Err (text_fault OutOfRange 3)) ∷
    (text ("DEFINE COMP 2,#1,#1,10" ∷ "8" ∷ "close" ∷ []) "", Err (text_fault WrongForm 3)) ∷
    (text ("DEFINE COMP 4,#1,#1,10" ∷ "8" ∷ "-8" ∷ "4" ∷ "0" ∷ "CLOSE" ∷ []) "", Ok (record { head = screw 4 1 1 10; entries = pos 8 ∷ negsuc 7 ∷ pos 4 ∷ pos 0 ∷ [] })) ∷
    (text ("DEFINE COMP 1.1,#1,#2,#3,1,262144" ∷ "4" ∷ "8" ∷ "-32767" ∷ "CLOSE" ∷ []) "", Ok (record { head = plane 1 1 1 2 3 1 262144; entries = pos 4 ∷ pos 8 ∷ negsuc 32766 ∷ [] })) ∷ []

abbrev pub Marked : Type 0
Marked = map (λ r. reading r.0) marked ≡ map (λ r. r.1) marked
