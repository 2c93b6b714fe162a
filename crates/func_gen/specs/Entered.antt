-- What a block finds where it begins: the locals of names that were used when it was opened, but for what they own, and its own names.
use Rattle.std.specs.Prelude.{ℕ, Bool, true, false, if◌then◌else◌, List, [], ◌∷◌, ◌++◌, filter, map, None, Some}
use Rattle.wit_model.specs.Bytes.{Bytes}
use Rattle.wrapper_data.specs.declared.value.RustValue.{RustValue}
use Rattle.wrapper_data.specs.declared.word.Word.TheVariants as word
use Rattle.wrapper_values.specs.declared.state.Local.{Local}
use Rattle.wrapper_values.specs.declared.state.State.{State}
use Rattle.wrapper_values.specs.declared.state.Val.{Val}
use Rattle.wrapper_values.specs.declared.state.Val.TheVariants as val
use Rattle.wrapper_values.specs.Locals.{emptied}
use Rattle.wrapper_values.specs.Owning.{owned_in}
use Rattle.abi_bindgen.specs.Meaning.{Bound, Name, at_place, the_base, the_element, the_key, the_payload, the_value, with_element, with_entry, with_nothing, with_payload}
use Rattle.func_gen.specs.Scope.{is_used}
use Rattle.func_gen.specs.Slot.{Slot, slot_name}

abbrev pub is_nothing : List ℕ → Bool
is_nothing [] = true
is_nothing (_ ∷ _) = false

-- a value that owns something is not there
abbrev pub without_owner : Local → Local
without_owner l = if is_nothing (owned_in l.value) then l else emptied l

abbrev pub reached : List Bytes → List Local → List Local
reached names locals = map without_owner (filter (λ l. is_used names l.name) locals)

abbrev pub binding : Name → ℕ → Val → Local
binding name k v = record { name = slot_name name k; value = Some v }

-- what the names of a block are bound to
abbrev pub bindings : ℕ → Bound RustValue → List Local
bindings k with_nothing = []
bindings k (with_payload a) = binding the_payload k (val.Value a) ∷ []
bindings k (at_place q) = binding the_base k (val.Word (word.Pointer q)) ∷ []
bindings k (with_element a q) = binding the_element k (val.Value a) ∷ binding the_base k (val.Word (word.Pointer q)) ∷ []
bindings k (with_entry x y q) = binding the_key k (val.Value x) ∷ binding the_value k (val.Value y) ∷ binding the_base k (val.Word (word.Pointer q)) ∷ []

-- the static area is out of reach too
abbrev pub entered : Slot → Bound RustValue → State → State
entered slot with s = record s { locals = reached slot.names s.locals ++ bindings slot.number with; place = None }
