-- What does a reader's answer say of the value that it read?
use Rattle.std.specs.Prelude.{◌≡◌, Option, Some, None, Result, Ok, Err}
use Rattle.wit_document.specs.declared.fault.DocumentFault.{DocumentFault}
use Rattle.wit_document.specs.declared.fault.DocumentFault.TheVariants.{BadJson, OutOfMemory}

-- A value is given exactly where the definition gives it, and a fault only where the definition gives nothing. Want of
-- memory is free.
abbrev pub Reads : {T : Type 0} → Result T DocumentFault → Option T → Type 0
Reads (Ok x) definition = definition ≡ Some x
Reads (Err BadJson) definition = definition ≡ None
Reads (Err OutOfMemory) definition = Unit {0}
