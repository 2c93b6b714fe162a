-- Whether each kind that is made up of members has one, and which type is the first that does not.
use Rattle.std.specs.Prelude.{Bool, true, false, nat_lt, List, [], ◌∷◌, Option}
use Rattle.wit_model.specs.declared.types.TypeDefKind.{TypeDefKind}
use Rattle.wit_model.specs.declared.types.TypeDefKind.TheVariants as kind
use Rattle.wit_model.specs.declared.resolve.Resolve.{Resolve}
use Rattle.wit_model.specs.declared.resolve.Table.TheVariants as table
use Rattle.wit_model.specs.Place.{Place, first_failing}

abbrev pub has_one : {A : Type 0} → List A → Bool
has_one [] = false
has_one (_ ∷ _) = true

-- a member, or a length above 0, where the kind wants one
unfoldable pub has_members : TypeDefKind → Bool
has_members (kind.FixedLengthList _ length) = nat_lt 0 length
has_members (kind.Tuple members) = has_one members
has_members (kind.Record fields) = has_one fields
has_members (kind.Variant cases) = has_one cases
has_members (kind.Enum members) = has_one members
has_members (kind.Flags members) = has_one members
has_members _ = true

unfoldable pub first_without_members : Resolve → Option Place
first_without_members r = first_failing table.Type_ (λ entry. has_members entry.kind) r.types
