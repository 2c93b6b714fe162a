-- Which import or export does a JSON value give?
use Rattle.std.specs.Prelude.{ℕ, List, [], ◌∷◌, codes, Option, option_map, option_and_then}
use Rattle.std.specs.Map.{lookup}
use Rattle.std.specs.Str.{bytes_eq}
use Rattle.wit_model.specs.declared.world.WorldItem.{WorldItem}
use Rattle.wit_model.specs.declared.world.WorldItem.TheVariants as entry
use Rattle.serde_json.specs.Data.{Data}
use Rattle.wit_document.specs.Members.{◌>>=◌, sole_member}
use Rattle.wit_document.specs.Types.{type_id_of}
use Rattle.wit_document.specs.Function.{function_of}

-- an import or an export, by its one key
unfoldable pub item_at : List ℕ → Data → Option WorldItem
item_at word d = option_and_then (λ (reader : Data → Option WorldItem). reader d) (lookup (bytes_eq word) (
    (codes "function", λ d. option_map entry.Function (function_of d))
    ∷ (codes "type", λ d. option_map entry.Named (type_id_of d))
    ∷ []))

unfoldable pub item_of : Data → Option WorldItem
item_of d = do
  only_one ← sole_member d
  item_at only_one.0 only_one.1
