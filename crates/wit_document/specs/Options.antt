-- Which options does a JSON value give?
use Rattle.std.specs.Prelude.{[], ◌∷◌, codes, false, Option, Some, unwrap_or}
use Rattle.serde_json.specs.Data.{Data}
use Rattle.serde_json.specs.Find.{as_bool}
use Rattle.wit_document.specs.declared.options.DocumentOptions.{DocumentOptions}
use Rattle.wit_document.specs.Members.{◌>>=◌, only, given}

-- no option is set
abbrev pub no_options : DocumentOptions
no_options = record { generate_unused_types = false }

unfoldable pub options_of : Data → Option DocumentOptions
options_of d = do
  _ ← only (codes "generate-unused-types" ∷ []) d
  unused ← given as_bool (codes "generate-unused-types") d
  Some (record { generate_unused_types = unwrap_or unused false })
