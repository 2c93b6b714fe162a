-- The words for the ways of owning, and how a text that is none of them is told.
use Rattle.std.specs.Prelude.{ℕ, List, ◌++◌, true, false, codes}
use Rattle.type_defs.specs.declared.ownership.Ownership.{Ownership}
use Rattle.type_defs.specs.declared.ownership.Ownership.TheVariants.{Owning, Borrowing}
use Rattle.type_defs.specs.declared.ownership.OwnershipFault.{OwnershipFault}
use Rattle.type_defs.specs.declared.ownership.OwnershipFault.TheVariants.{Unrecognized, OutOfMemory}

abbrev pub ownership_text : Ownership → List ℕ
ownership_text Owning = codes "owning"
ownership_text (Borrowing false) = codes "borrowing"
ownership_text (Borrowing true) = codes "borrowing-duplicate-if-necessary"

abbrev pub ownership_fault_text : OwnershipFault → List ℕ
ownership_fault_text (Unrecognized text) =
    codes "unrecognized ownership: `" ++ text ++ codes "`; expected `owning`, `borrowing`, or `borrowing-duplicate-if-necessary`"
ownership_fault_text OutOfMemory = codes "out of memory"
