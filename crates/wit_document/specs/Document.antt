-- Which document does a JSON value give, and which do bytes give?
use Rattle.std.specs.Prelude.{ℕ, List, [], ◌∷◌, codes, if◌then◌else◌, Option, Some, None, map, option_and_then, unwrap_or}
use Rattle.std.specs.Str.{is_utf8}
use Rattle.wit_model.specs.declared.resolve.Resolve.{Resolve}
use Rattle.serde_json.specs.Data.{Data}
use Rattle.serde_json.specs.Read.{read}
use Rattle.wit_document.specs.declared.document.Document.{Document}
use Rattle.wit_document.specs.Members.{◌>>=◌, all_of, empty_of, only, required, required_two, given}
use Rattle.wit_document.specs.Options.{options_of, no_options}
use Rattle.wit_document.specs.TypeTable.{type_def_of}
use Rattle.wit_document.specs.Keyed.{keyed}
use Rattle.wit_document.specs.World.{world_id_of, package_of, world_of}

-- the items of its worlds stand under their own keys, of which the table of types tells the names of types
unfoldable pub resolve_of : Data → Option Resolve
resolve_of d = do
  _ ← only (codes "worlds" ∷ codes "packages" ∷ codes "interfaces" ∷ codes "types" ∷ []) d
  named ← required_two (all_of world_of) (all_of package_of) (codes "worlds") (codes "packages") d
  interfaces ← required empty_of (codes "interfaces") d
  types ← required (all_of type_def_of) (codes "types") d
  Some (record { worlds = map (keyed types) named.0; packages = named.1; interfaces = interfaces; types = types })

unfoldable pub document : Data → Option Document
document d = do
  _ ← only (codes "resolve" ∷ codes "world" ∷ codes "options" ∷ []) d
  world ← required world_id_of (codes "world") d
  options ← given options_of (codes "options") d
  resolve ← required resolve_of (codes "resolve") d
  Some (record { resolve = resolve; world = world; options = unwrap_or options no_options })

-- the document of the value that these bytes are in JSON
unfoldable pub document_in : List ℕ → Option Document
document_in bytes = if is_utf8 bytes then option_and_then document (read bytes) else None
