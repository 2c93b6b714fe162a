-- How many nodes the types of a function unfold to, and whether they are too many. Each type that is named counts as one node, and then
-- what it names, as often as it stands there. So does each case of a variant.
use Rattle.std.specs.Prelude.{ℕ, suc, ◌+◌, Bool, nat_le, List, [], ◌∷◌, ◌++◌, length, map, Option, None, Some, if◌then◌else◌}
use Rattle.std.specs.List.{slice_index_or}
use Rattle.wit_model.specs.declared.function.Function.{Function}
use Rattle.wit_model.specs.declared.types.WitType.{WitType}
use Rattle.wit_model.specs.declared.types.WitType.TheVariants.{Id}
use Rattle.wit_model.specs.declared.types.TypeDef.{TypeDef}
use Rattle.wit_model.specs.declared.types.TypeDefKind.{TypeDefKind}
use Rattle.wit_model.specs.declared.types.TypeDefKind.TheVariants as kind
use Rattle.wit_model.specs.Parts.{parts}

-- more than 65,536 are too many, however many they are
abbrev pub capped : ℕ → ℕ
capped n = if nat_le n 65536 then n else 65537

-- a type, by the nodes of each entry before it
abbrev pub nodes_as : List ℕ → Option WitType → ℕ
nodes_as known None = 0
nodes_as known (Some (Id id)) = slice_index_or known id.0 1
nodes_as known (Some ty) = 1

abbrev pub nodes_in : List ℕ → List (Option WitType) → ℕ
nodes_in known [] = 0
nodes_in known (p ∷ ps) = nodes_as known p + nodes_in known ps

-- the cases of a variant, with a payload or without; the payload counts besides
abbrev pub own_cases : TypeDefKind → ℕ
own_cases (kind.Variant cases) = length cases
own_cases _ = 0

-- an entry, with the type itself
unfoldable pub nodes_by : List ℕ → TypeDefKind → ℕ
nodes_by known kind = capped (suc (own_cases kind + nodes_in known (parts kind)))

abbrev pub nodes_behind : List ℕ → List TypeDef → List ℕ
nodes_behind known [] = known
nodes_behind known (t ∷ types) = nodes_behind (known ++ nodes_by known t.kind ∷ []) types

-- those of each entry of the table
unfoldable pub nodes : List TypeDef → List ℕ
nodes types = nodes_behind [] types

-- parameters and result together have at most 65,536
abbrev pub has_few_nodes : List ℕ → Function → Bool
has_few_nodes known f = nat_le (nodes_in known (map (λ p. Some p.ty) f.params) + nodes_as known f.result) 65536
