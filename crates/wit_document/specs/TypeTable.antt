-- Which entry of the table of types does a JSON value give?
use Rattle.std.specs.Prelude.{ℕ, List, [], ◌∷◌, codes, Option, Some}
use Rattle.std.specs.Map.{lookup}
use Rattle.std.specs.Str.{bytes_eq}
use Rattle.wit_model.specs.declared.types.TypeDef.{TypeDef}
use Rattle.wit_model.specs.declared.types.TypeOwner.{TypeOwner}
use Rattle.wit_model.specs.declared.types.TypeOwner.TheVariants as owner
use Rattle.serde_json.specs.Data.{Data, null}
use Rattle.wit_document.specs.Members.{◌>>=◌, only, required, optional, sole_member}
use Rattle.wit_document.specs.Name.{name_of, docs_in}
use Rattle.wit_document.specs.Types.{id_of}
use Rattle.wit_document.specs.Kinds.{type_kind_of}

unfoldable pub owner_at : List ℕ → ℕ → Option TypeOwner
owner_at word n = lookup (bytes_eq word) (
    (codes "world", owner.World (record { 0 = n }))
    ∷ (codes "interface", owner.Interface (record { 0 = n }))
    ∷ [])

unfoldable pub named_owner_of : Data → Option TypeOwner
named_owner_of d = do
  only_one ← sole_member d
  n ← id_of only_one.1
  owner_at only_one.0 n

-- null, or an object with one id
unfoldable pub owner_of : Data → Option TypeOwner
owner_of null = Some owner.None
owner_of d = named_owner_of d

unfoldable pub type_def_of : Data → Option TypeDef
type_def_of d = do
  _ ← only (codes "name" ∷ codes "owner" ∷ codes "kind" ∷ codes "docs" ∷ []) d
  owner ← required owner_of (codes "owner") d
  name ← optional name_of (codes "name") d
  kind ← required type_kind_of (codes "kind") d
  docs ← docs_in d
  Some (record { name = name; owner = owner; kind = kind; docs = docs })
