-- What a name stands for in a state: the newest local of that name, or a declared core import; and what the use of a local does.
use Rattle.std.specs.Prelude.{ℕ, Bool, List, [], ◌∷◌, ◌++◌, Option, None, Some, if◌then◌else◌, option_and_then}
use Rattle.std.specs.List.{list_any}
use Rattle.std.specs.Option.{option_map, option_or}
use Rattle.std.specs.Str.{bytes_eq}
use Rattle.rust_tree.specs.declared.stmt.ImportDecl.{ImportDecl}
use Rattle.wrapper_data.specs.declared.run.Stop.{Stop}
use Rattle.wrapper_data.specs.declared.word.Word.TheVariants as word
use Rattle.wrapper_values.specs.declared.state.Local.{Local}
use Rattle.wrapper_values.specs.declared.state.Val.{Val}
use Rattle.wrapper_values.specs.declared.state.Val.TheVariants as val
use Rattle.wrapper_values.specs.declared.owning.View.{View}
use Rattle.wrapper_values.specs.Act.{Act, Done, ◌>>=◌, or_stop, pure}
use Rattle.wrapper_values.specs.Owning.{lent, owned, view}
use Rattle.wit_model.specs.Bytes.{Bytes}

-- the last of these that passes
abbrev pub last : {A : Type 0} → (A → Bool) → List A → Option A
last passes [] = None
last passes (x ∷ xs) = option_or (last passes xs) (if passes x then Some x else None)

abbrev pub local_named : Bytes → List Local → Option Local
local_named name locals = last (λ l. bytes_eq l.name name) locals

abbrev pub import_named : Bytes → List ImportDecl → Option ImportDecl
import_named name imports = last (λ d. bytes_eq d.name name) imports

-- the value of a local, where it is there and was not moved
abbrev pub value_of : Option Local → Option Val
value_of None = None
value_of (Some l) = l.value

-- the newest local of a name has another value, or none
abbrev pub holding : Option Val → Local → Local
holding value l = record l { value = value }

abbrev pub changed : Option Val → Bytes → List Local → List Local
changed value name [] = []
changed value name (l ∷ locals) =
    if list_any (λ m. bytes_eq m.name name) locals then l ∷ changed value name locals
    else (if bytes_eq l.name name then holding value l else l) ∷ locals

-- it has none any more
abbrev pub emptied : Local → Local
emptied l = holding None l

abbrev pub moved : Bytes → List Local → List Local
moved name locals = changed None name locals

-- an area is no value: code takes its pointer alone
abbrev pub usable : Val → Option Val
usable (val.Area address size) = None
usable v = Some v

-- the use of a value: one that owns a block is moved out of its local
abbrev pub used : Bytes → Val → List ℕ → Act Val
used name v [] = pure v
used name v (_ ∷ _) = λ s. Done v (record s { locals = moved name s.locals })

unfoldable pub use_local : Stop → Bytes → Act Val
use_local stuck name = λ s. (or_stop stuck (option_and_then usable (value_of (local_named name s.locals))) >>= (λ v. used name v (owned v))) s

-- a local's value behind a reference, and what a method tells of it: nothing is moved
unfoldable pub lend_local : Stop → Bytes → Act Val
lend_local stuck name = λ s. or_stop stuck (option_and_then lent (value_of (local_named name s.locals))) s

unfoldable pub ask_local : Stop → View → Bytes → Act Val
ask_local stuck of name = λ s. or_stop stuck (option_map val.Word (option_and_then (view of) (value_of (local_named name s.locals)))) s

unfoldable pub bind : Bytes → Val → Act (Unit {0})
bind name v = λ s. Done tt (record s { locals = s.locals ++ record { name = name; value = Some v } ∷ [] })

-- a pointer is written into the newest local of a name, which holds a slot for a pointer or 64 bits: its upper half is then zero here,
-- where real code leaves it as it was; what reads the pointer reads the low bits alone
abbrev pub slot_with : Val → Val → Option Val
slot_with (val.Word (word.Pointer address)) (val.Word (word.Slot _)) = Some (val.Word (word.Slot (Some address)))
slot_with _ _ = None

abbrev pub give_local : Bytes → Val → Act (Unit {0})
give_local name v = λ s. Done tt (record s { locals = changed (Some v) name s.locals })

unfoldable pub write_slot : Stop → Bytes → Val → Act (Unit {0})
write_slot stuck name pointer = λ s. (or_stop stuck (option_and_then (slot_with pointer) (value_of (local_named name s.locals))) >>= give_local name) s

unfoldable pub declare : ImportDecl → Act (Unit {0})
declare d = λ s. Done tt (record s { imports = s.imports ++ d ∷ [] })
