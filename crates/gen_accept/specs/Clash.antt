-- Which declared name is the first that equals an earlier one of its scope, or that is no identifier.
use Rattle.std.specs.Prelude.{Bool, true, false, ◌&&◌, List, [], ◌∷◌, ◌++◌, Option, None, Some, if◌then◌else◌, codes}
use Rattle.std.specs.List.{list_any}
use Rattle.std.specs.Option.{option_or}
use Rattle.std.specs.Str.{bytes_eq}
use Rattle.wit_model.specs.Bytes.{Bytes}
use Rattle.rust_tree.specs.Ident.{is_ident, is_type_name}
use Rattle.gen_accept.specs.declared.declared.Declared.{Declared}
use Rattle.gen_accept.specs.declared.declared.NameScope.{NameScope}
use Rattle.gen_accept.specs.declared.declared.Sort.{Sort}
use Rattle.gen_accept.specs.declared.declared.Sort.TheVariants as sort
use Rattle.gen_accept.specs.declared.error.Clash.{Clash}
use Rattle.gen_accept.specs.declared.error.Clash.TheVariants.{Twice, NotIdent}
use Rattle.gen_accept.specs.declared.error.Entry.{Entry}
use Rattle.gen_accept.specs.declared.declared.Space.{Space}
use Rattle.gen_accept.specs.declared.declared.Space.TheVariants.{Types, Values, Macros}

-- names of one space are compared with each other
abbrev pub space : Sort → Space
space sort.Type_ = Types
space sort.WorldType = Types
space sort.Value = Values
space sort.Macro = Macros

abbrev pub is_same_space : Space → Space → Bool
is_same_space Types Types = true
is_same_space Values Values = true
is_same_space Macros Macros = true
is_same_space _ _ = false

-- an identifier, and of a type of the world none that names a primitive type
abbrev pub is_name_of : Sort → Bytes → Bool
is_name_of sort.WorldType name = is_type_name name
is_name_of _ name = is_ident name

abbrev pub is_name : Declared → Bool
is_name d = is_name_of d.sort d.name

-- the same name, in one space with it
abbrev pub is_same : Declared → Declared → Bool
is_same d earlier = is_same_space (space earlier.sort) (space d.sort) && bytes_eq earlier.name d.name

unfoldable pub root_module : Bytes
root_module = codes "$root"

abbrev pub entry_in : NameScope → Declared → Entry
entry_in scope d = record { «module» = root_module; scope = scope.name; name = d.name }

-- the first of these names that clashes, behind those that stand before them in the scope
abbrev pub clash_behind : NameScope → List Declared → List Declared → Option Clash
clash_behind scope earlier [] = None
clash_behind scope earlier (d ∷ names) =
    if list_any (is_same d) earlier then Some (Twice (entry_in scope d))
    else if is_name d then clash_behind scope (earlier ++ d ∷ []) names else Some (NotIdent (entry_in scope d))

abbrev pub clash_in : NameScope → Option Clash
clash_in scope = clash_behind scope [] scope.names

-- the first of all
abbrev pub first_clash : List NameScope → Option Clash
first_clash [] = None
first_clash (scope ∷ scopes) = option_or (clash_in scope) (first_clash scopes)
