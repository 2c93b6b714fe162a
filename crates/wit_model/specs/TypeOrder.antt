-- Whether each type names only types with lower ids, and which type is the first that does not.
use Rattle.std.specs.Prelude.{◌≡◌, ℕ, Bool, true, nat_lt, List, Option, None, Some, slice_get}
use Rattle.std.specs.List.{list_all, enumerate_from}
use Rattle.wit_model.specs.declared.types.WitType.{WitType}
use Rattle.wit_model.specs.declared.types.WitType.TheVariants.{Id}
use Rattle.wit_model.specs.declared.types.TypeDefKind.{TypeDefKind}
use Rattle.wit_model.specs.declared.types.TypeDef.{TypeDef}
use Rattle.wit_model.specs.declared.resolve.Resolve.{Resolve}
use Rattle.wit_model.specs.declared.resolve.Table.TheVariants as table
use Rattle.wit_model.specs.Parts.{parts}
use Rattle.wit_model.specs.Place.{Place, first_failing}

-- an entry of the table that a type names has an id below a bound
unfoldable pub type_below : ℕ → WitType → Bool
type_below bound (Id id) = nat_lt id.0 bound
type_below bound _ = true

-- the same of a payload or a result, where there is one
unfoldable pub payload_below : ℕ → Option WitType → Bool
payload_below bound None = true
payload_below bound (Some ty) = type_below bound ty

-- the same of each type that a kind names
unfoldable pub parts_below : ℕ → TypeDefKind → Bool
parts_below bound kind = list_all (λ part. payload_below bound part) (parts kind)

-- the first type that names one whose id is not lower than its own
unfoldable pub first_out_of_order : Resolve → Option Place
first_out_of_order r = first_failing table.Type_ (λ entry. parts_below entry.0 entry.1.kind) (enumerate_from 0 r.types)

-- each type names only types with lower ids
abbrev pub GoesDown : List TypeDef → Type 0
GoesDown types = (k : ℕ) (t : TypeDef) → slice_get types k ≡ Some t → parts_below k t.kind ≡ true
