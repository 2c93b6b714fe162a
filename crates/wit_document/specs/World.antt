-- Which world and which package does a JSON value give?
use Rattle.std.specs.Prelude.{[], ◌∷◌, codes, Option, Some, option_map}
use Rattle.wit_model.specs.declared.name.PackageId.{PackageId}
use Rattle.wit_model.specs.declared.name.WorldId.{WorldId}
use Rattle.wit_model.specs.declared.world.Package.{Package}
use Rattle.serde_json.specs.Data.{Data}
use Rattle.wit_document.specs.Members.{◌>>=◌, text_of, all_of, only, required, required_two, optional}
use Rattle.wit_document.specs.Name.{name_of}
use Rattle.wit_document.specs.Types.{id_of}
use Rattle.wit_document.specs.Items.{item_of}
use Rattle.wit_document.specs.declared.world.ListedWorld.{ListedWorld}

unfoldable pub world_id_of : Data → Option WorldId
world_id_of d = option_map (λ n. record { 0 = n }) (id_of d)

unfoldable pub package_id_of : Data → Option PackageId
package_id_of d = option_map (λ n. record { 0 = n }) (id_of d)

unfoldable pub package_of : Data → Option Package
package_of d = do
  _ ← only (codes "namespace" ∷ codes "name" ∷ codes "version" ∷ codes "module" ∷ []) d
  names ← required_two name_of name_of (codes "namespace") (codes "name") d
  version ← optional text_of (codes "version") d
  module_name ← required text_of (codes "module") d
  Some (record { namespace = names.0; name = names.1; version = version; «module» = module_name })

-- what a world's items stand under is told apart, by the table of types
unfoldable pub world_of : Data → Option ListedWorld
world_of d = do
  _ ← only (codes "name" ∷ codes "package" ∷ codes "imports" ∷ codes "exports" ∷ []) d
  package_id ← required package_id_of (codes "package") d
  name ← required name_of (codes "name") d
  items ← required_two (all_of item_of) (all_of item_of) (codes "imports") (codes "exports") d
  Some (record { name = name; «package» = package_id; imports = items.0; exports = items.1 })
