-- Which name and which docs does a JSON value give?
use Rattle.std.specs.Prelude.{[], ◌∷◌, codes, Option, Some, option_map}
use Rattle.wit_model.specs.declared.name.Docs.{Docs}
use Rattle.wit_model.specs.declared.name.Name.{Name}
use Rattle.serde_json.specs.Data.{Data}
use Rattle.wit_document.specs.Members.{◌>>=◌, text_of, only, required_two, optional}

unfoldable pub name_of : Data → Option Name
name_of d = do
  _ ← only (codes "wit" ∷ codes "snake" ∷ codes "camel" ∷ codes "upper" ∷ []) d
  lower ← required_two text_of text_of (codes "wit") (codes "snake") d
  higher ← required_two text_of text_of (codes "camel") (codes "upper") d
  Some (record { wit = lower.0; snake = lower.1; camel = higher.0; upper = higher.1 })

-- the docs of the item that an object is
unfoldable pub docs_in : Data → Option Docs
docs_in d = option_map (λ contents. record { contents = contents }) (optional text_of (codes "docs") d)
