-- How many entries of the table lie on a way down from a type, and which type is the first that has more than a hundred.
use Rattle.std.specs.Prelude.{◌≡◌, ℕ, zero, suc, Bool, true, false, not, nat_lt, List, [], ◌∷◌, Option, None, Some, position, slice_get, if◌then◌else◌}
use Rattle.std.specs.List.{list_all, list_any, slice_index_or}
use Rattle.wit_model.specs.declared.name.TypeId.{TypeId}
use Rattle.wit_model.specs.declared.types.WitType.{WitType}
use Rattle.wit_model.specs.declared.types.WitType.TheVariants.{Id}
use Rattle.wit_model.specs.declared.types.TypeDefKind.{TypeDefKind}
use Rattle.wit_model.specs.declared.types.TypeDef.{TypeDef}
use Rattle.wit_model.specs.Parts.{parts}

abbrev pub parts_of : Option TypeDef → List (Option WitType)
parts_of None = []
parts_of (Some entry) = parts entry.kind

abbrev pub passes : (WitType → Bool) → Option WitType → Bool
passes test None = false
passes test (Some ty) = test ty

-- more than so many entries of the table lie on a way down from the type
abbrev pub is_deeper : List TypeDef → ℕ → WitType → Bool
is_deeper types zero (Id id) = true
is_deeper types (suc n) (Id id) = list_any (passes (is_deeper types n)) (parts_of (slice_get types id.0))
is_deeper types n ty = false

-- the same from one of the types that a kind names
abbrev pub is_any_deeper : List TypeDef → ℕ → List (Option WitType) → Bool
is_any_deeper types n ps = list_any (passes (is_deeper types n)) ps

-- with the type itself, no way down has more than a hundred entries
unfoldable pub is_shallow : List TypeDef → TypeDef → Bool
is_shallow types entry = not (is_any_deeper types 99 (parts entry.kind))

unfoldable pub are_shallow : List TypeDef → Bool
are_shallow types = list_all (is_shallow types) types

-- the first entry of the table that has more
abbrev pub first_deep : List TypeDef → Option ℕ
first_deep types = position (λ entry. not (is_shallow types entry)) types

-- what is kept for that: the most entries on a way down from each of the types so far

abbrev pub level_of : List ℕ → Option WitType → ℕ
level_of known None = 0
level_of known (Some (Id id)) = slice_index_or known id.0 0
level_of known (Some ty) = 0

abbrev pub greater : ℕ → ℕ → ℕ
greater a b = if nat_lt a b then b else a

abbrev pub greatest : List ℕ → List (Option WitType) → ℕ
greatest known [] = 0
greatest known (p ∷ ps) = greater (level_of known p) (greatest known ps)

unfoldable pub greatest_below : List ℕ → TypeDefKind → ℕ
greatest_below known kind = greatest known (parts kind)

abbrev pub AreLevels : List TypeDef → List ℕ → Type 0
AreLevels types known = (id : TypeId) (level : ℕ) → slice_get known id.0 ≡ Some level → (n : ℕ) → is_deeper types n (Id id) ≡ nat_lt n level
