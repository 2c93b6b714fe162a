-- Which function does a JSON value give?
use Rattle.std.specs.Prelude.{ℕ, List, [], ◌∷◌, codes, Option, Some}
use Rattle.std.specs.Map.{lookup}
use Rattle.std.specs.Option.{option_map_or}
use Rattle.std.specs.Str.{bytes_eq}
use Rattle.wit_model.specs.declared.name.TypeId.{TypeId}
use Rattle.wit_model.specs.declared.function.Param.{Param}
use Rattle.wit_model.specs.declared.function.Function.{Function}
use Rattle.wit_model.specs.declared.function.FunctionKind.{FunctionKind}
use Rattle.wit_model.specs.declared.function.FunctionKind.TheVariants.{Freestanding, Method, Static, Constructor, AsyncFreestanding, AsyncMethod, AsyncStatic}
use Rattle.serde_json.specs.Data.{Data}
use Rattle.serde_json.specs.Find.{as_str}
use Rattle.wit_document.specs.Members.{◌>>=◌, all_of, only, required, required_two, optional, sole_member}
use Rattle.wit_document.specs.Name.{name_of, docs_in}
use Rattle.wit_document.specs.Types.{type_id_of, type_of}

-- of a function that stands alone
unfoldable pub free_kind : List ℕ → Option FunctionKind
free_kind word = lookup (bytes_eq word) (
    (codes "freestanding", Freestanding)
    ∷ (codes "async-freestanding", AsyncFreestanding)
    ∷ [])

-- of a function of the resource `id`
unfoldable pub bound_kind : List ℕ → TypeId → Option FunctionKind
bound_kind word id = lookup (bytes_eq word) (
    (codes "method", Method id)
    ∷ (codes "static", Static id)
    ∷ (codes "constructor", Constructor id)
    ∷ (codes "async-method", AsyncMethod id)
    ∷ (codes "async-static", AsyncStatic id)
    ∷ [])

unfoldable pub bound_kind_of : Data → Option FunctionKind
bound_kind_of d = do
  only_one ← sole_member d
  id ← type_id_of only_one.1
  bound_kind only_one.0 id

-- a word, or an object whose one key is a word
unfoldable pub kind_of : Data → Option FunctionKind
kind_of d = option_map_or free_kind (as_str d) (bound_kind_of d)

unfoldable pub param_of : Data → Option Param
param_of d = do
  _ ← only (codes "name" ∷ codes "ty" ∷ []) d
  ty ← required type_of (codes "ty") d
  name ← required name_of (codes "name") d
  Some (record { name = name; ty = ty })

unfoldable pub function_of : Data → Option Function
function_of d = do
  _ ← only (codes "name" ∷ codes "kind" ∷ codes "params" ∷ codes "result" ∷ codes "docs" ∷ []) d
  kind ← required kind_of (codes "kind") d
  ty ← optional type_of (codes "result") d
  named ← required_two name_of (all_of param_of) (codes "name") (codes "params") d
  docs ← docs_in d
  Some (record { name = named.0; kind = kind; params = named.1; result = ty; docs = docs })
