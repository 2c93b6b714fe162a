-- When do arguments, words and answers fit a wrapper?
use Rattle.std.specs.Prelude.{Bool, true, false, ◌&&◌, List, [], ◌∷◌, Option, None, Some}
use Rattle.rust_tree.specs.declared.export.CoreParam.{CoreParam}
use Rattle.rust_tree.specs.declared.stmt.Stmt.{Stmt}
use Rattle.rust_tree.specs.declared.stmt.Stmt.TheVariants as stmt
use Rattle.wit_model.specs.declared.wasm_type.WasmType.{WasmType}
use Rattle.wrapper_data.specs.declared.answer.Answer.{Answer}
use Rattle.wrapper_data.specs.declared.answer.Answer.TheVariants as answer
use Rattle.wrapper_data.specs.declared.word.Word.{Word}
use Rattle.wrapper_data.specs.declared.word.Word.TheVariants as word
use Rattle.wrapper_values.specs.Effect.{is_word_of}

-- the type of the core result of the import that is declared first
abbrev pub core_result : List Stmt → Option WasmType
core_result [] = None
core_result (stmt.Import declared ∷ stmts) = declared.result
core_result (_ ∷ stmts) = core_result stmts

abbrev pub is_result : Option WasmType → Option Word → Bool
is_result None None = true
is_result (Some ty) (Some w) = is_word_of ty w
is_result _ _ = false

-- a peer's answer to a call of the import that is declared first
abbrev pub is_answer : List Stmt → Answer → Bool
is_answer stmts (answer.Words result writes blocks) = is_result (core_result stmts) result
is_answer stmts (answer.Value value heap) = false

abbrev pub are_words : List CoreParam → List Word → Bool
are_words [] [] = true
are_words (param ∷ params) (w ∷ words) = is_word_of param.ty w && are_words params words
are_words _ _ = false

abbrev pub is_pointer : List Word → Bool
is_pointer (word.Pointer address ∷ []) = true
is_pointer _ = false
