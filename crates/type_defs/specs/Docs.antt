-- The lines of a printed doc comment, and its text as a message.
use Rattle.std.specs.Prelude.{ℕ, List, [], Option, None, Some}
use Rattle.std.specs.Str.{trim}
use Rattle.std.specs.Str.Lines.{lines}
use Rattle.wit_model.specs.declared.name.Docs.{Docs}

-- the lines of a text without the white space round it
abbrev pub comment_lines : Option (List ℕ) → List (List ℕ)
comment_lines None = []
comment_lines (Some text) = lines (trim text)

abbrev pub doc_lines : Docs → List (List ℕ)
doc_lines docs = comment_lines docs.contents

-- the text without the white space round it, or no text
abbrev pub trimmed : Option (List ℕ) → List ℕ
trimmed None = []
trimmed (Some text) = trim text

abbrev pub trimmed_docs : Docs → List ℕ
trimmed_docs docs = trimmed docs.contents
