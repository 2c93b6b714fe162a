-- Types whose words are those of their members, one after another: of what an alias names, of the elements of a list of fixed
-- length, of the fields of a tuple or a record.
use Rattle.std.specs.Prelude.{ℕ, Bool, true, false, if◌then◌else◌, List, [], ◌∷◌, map, replicate, Option, None, Some, slice_get}
use Rattle.wit_model.specs.declared.types.WitType.{WitType}
use Rattle.wit_model.specs.declared.types.WitType.TheVariants.{Id}
use Rattle.wit_model.specs.declared.types.TypeDefKind.{TypeDefKind}
use Rattle.wit_model.specs.declared.types.TypeDefKind.TheVariants as kind
use Rattle.wit_model.specs.declared.types.TypeDef.{TypeDef}

unfoldable pub is_sequence : TypeDefKind → Bool
is_sequence (kind.Alias _) = true
is_sequence (kind.FixedLengthList _ _) = true
is_sequence (kind.Tuple _) = true
is_sequence (kind.Record _) = true
is_sequence _ = false

unfoldable pub members : TypeDefKind → List (Option WitType)
members (kind.Alias ty) = Some ty ∷ []
members (kind.FixedLengthList element n) = replicate n (Some element)
members (kind.Tuple types) = map (λ ty. Some ty) types
members (kind.Record fields) = map (λ f. Some f.ty) fields
members _ = []

abbrev pub members_of_entry : Option TypeDef → List (Option WitType)
members_of_entry None = []
members_of_entry (Some entry) = members entry.kind

-- the members of the entry at a place of the table
abbrev pub members_at : List TypeDef → ℕ → List (Option WitType)
members_at types at = members_of_entry (slice_get types at)

abbrev pub place_of_entry : Option TypeDef → ℕ → Option ℕ
place_of_entry None at = None
place_of_entry (Some entry) at = if is_sequence entry.kind then Some at else None

-- the place in the table of a type whose words are those of its members
abbrev pub sequence_place : List TypeDef → Option WitType → Option ℕ
sequence_place types (Some (Id id)) = place_of_entry (slice_get types id.0) id.0
sequence_place types _ = None
