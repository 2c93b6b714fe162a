-- The text of what a definition derives.
use Rattle.std.specs.Prelude.{List, [], ◌∷◌, ◌++◌}
use Rattle.std.specs.List.{join_by}
use Rattle.rust_tree.specs.declared.path.Path.{Path}
use Rattle.rust_tree.specs.declared.print.word.definition.DefinitionWord.TheVariants.{Derive, DeriveEnd}
use Rattle.rust_tree.specs.declared.print.word.sign.Sign.TheVariants.{Comma}
use Rattle.rust_tree.specs.CodeText.{path_text}
use Rattle.wit_model.specs.Bytes.{Bytes}
use Rattle.rust_tree.specs.Word.{definition_word, sign}

-- `#[derive(X, Y)]`, or nothing
abbrev pub derives_text : List Path → Bytes
derives_text [] = []
derives_text (first ∷ others) = definition_word Derive ++ join_by path_text (sign Comma) (first ∷ others) ++ definition_word DeriveEnd
