-- The text of the definition of an enum.
use Rattle.std.specs.Prelude.{ℕ, suc, Bool, true, false, List, [], ◌∷◌, ◌++◌, ◌==◌, if◌then◌else◌, Option, None, Some, decimal}
use Rattle.std.specs.List.{flat_map}
use Rattle.rust_tree.specs.declared.enum_item.EnumCase.{EnumCase}
use Rattle.rust_tree.specs.declared.enum_item.EnumItem.{EnumItem}
use Rattle.rust_tree.specs.declared.enum_item.ErrorCase.{ErrorCase}
use Rattle.rust_tree.specs.declared.enum_item.ErrorEnum.{ErrorEnum}
use Rattle.rust_tree.specs.declared.error_type.ErrorType.{ErrorType}
use Rattle.rust_tree.specs.declared.path.Path.{Path}
use Rattle.rust_tree.specs.declared.print.word.definition.DefinitionWord.TheVariants.{DebugImpl, DebugFn, DebugStruct}
use Rattle.rust_tree.specs.declared.print.word.enums.EnumWord.{EnumWord}
use Rattle.rust_tree.specs.declared.print.word.enums.EnumWord.TheVariants.{OpenRepr, CloseRepr, PublicEnum, CaseEnd, Impl, MatchSelf, CaseTuple, CaseFinish, NameFn, MessageFn, CaseText, CaseTextEnd, ErrorFields, DisplayImpl, WriteDebug, WriteError, StdFeature, ErrorImpl, EmptyBlock, LiftFn, LiftResult, LiftBody, Arm, NoCase, EscapedQuote, EscapedBackslash, EscapedLineFeed, EscapedReturn}
use Rattle.rust_tree.specs.declared.print.word.sign.Sign.TheVariants.{OpenBlock, CloseBlock, PathMark}
use Rattle.rust_tree.specs.CodeText.{doc_text, repr_type_text}
use Rattle.rust_tree.specs.Derives.{derives_text}
use Rattle.wit_model.specs.Bytes.{Bytes}
use Rattle.rust_tree.specs.Word.{definition_word, enum_word, sign}

-- cases

-- `N::C`
abbrev pub case_path_text : (name c : Bytes) → Bytes
case_path_text name c = name ++ sign PathMark ++ c

-- `C,`, behind its doc lines
abbrev pub case_text : EnumCase → Bytes
case_text c = flat_map doc_text c.docs ++ c.name ++ enum_word CaseEnd

-- `Debug` of an enum that is no error type

-- what stands before the lines of its cases, and behind them
unfoldable pub debug_open_text : Bytes → Bytes
debug_open_text name = definition_word DebugImpl ++ name ++ sign OpenBlock ++ definition_word DebugFn ++ enum_word MatchSelf

unfoldable pub debug_close_text : Bytes
debug_close_text = sign CloseBlock ++ sign CloseBlock ++ sign CloseBlock

-- `N::C => f.debug_tuple("N::C").finish(),`
abbrev pub debug_case_text : (name c : Bytes) → Bytes
debug_case_text name c = case_path_text name c ++ enum_word CaseTuple ++ case_path_text name c ++ enum_word CaseFinish

abbrev pub enum_debug_text : EnumItem → Bytes
enum_debug_text e = debug_open_text e.name ++ flat_map (λ c. debug_case_text e.name c.name) e.cases ++ debug_close_text

-- an error enum

-- a byte of docs, as it stands between double quotes
abbrev pub escaped : ℕ → Bytes
escaped b =
    if b == 34 then enum_word EscapedQuote else if b == 92 then enum_word EscapedBackslash else if b == 10 then enum_word EscapedLineFeed else if b == 13 then enum_word EscapedReturn else b ∷ []

-- `N::C => "text",`
abbrev pub told_text : (name c t : Bytes) → Bytes
told_text name c t = case_path_text name c ++ enum_word CaseText ++ t ++ enum_word CaseTextEnd

-- what the function `name` tells of a case
abbrev pub case_name_text : Bytes → ErrorCase → Bytes
case_name_text name c = told_text name c.name c.wit

-- what the function `message` tells of it
abbrev pub case_message_text : Bytes → ErrorCase → Bytes
case_message_text name c = told_text name c.name (flat_map escaped c.message)

-- the functions `name` and `message`
unfoldable pub error_fns_text : Bytes → List ErrorCase → Bytes
error_fns_text name cases =
    enum_word Impl ++ name ++ sign OpenBlock ++ enum_word NameFn ++ enum_word MatchSelf ++ flat_map (case_name_text name) cases ++ sign CloseBlock ++ sign CloseBlock ++ enum_word MessageFn ++ enum_word MatchSelf ++ flat_map (case_message_text name) cases ++ sign CloseBlock ++ sign CloseBlock ++ sign CloseBlock

-- `Debug`, which writes the case's number, its name and its message
unfoldable pub error_debug_text : Bytes → Bytes
error_debug_text name =
    definition_word DebugImpl ++ name ++ sign OpenBlock ++ definition_word DebugFn ++ definition_word DebugStruct ++ name ++ enum_word ErrorFields ++ sign CloseBlock ++ sign CloseBlock

-- `Display`, with the line that writes
unfoldable pub display_text : EnumWord → Bytes → Bytes
display_text line name =
    enum_word DisplayImpl ++ name ++ sign OpenBlock ++ definition_word DebugFn ++ enum_word line ++ sign CloseBlock ++ sign CloseBlock

-- `#[cfg(feature = "std")]`, or nothing
abbrev pub std_feature_text : Bool → Bytes
std_feature_text true = enum_word StdFeature
std_feature_text false = []

-- `Error`, of a type by its name
abbrev pub error_impl_text : Bytes → Bool → Bytes
error_impl_text name std_feature = std_feature_text std_feature ++ enum_word ErrorImpl ++ name ++ enum_word EmptyBlock

-- what an error enum of this name has; its `Display` writes the case's name and its number
abbrev pub error_text : Bytes → ErrorEnum → Bytes
error_text name e = error_fns_text name e.cases ++ error_debug_text name ++ display_text WriteError name ++ error_impl_text name e.std_feature

-- and what a record or a variant of this name has, where it is an error type; its `Display` writes what `Debug` writes
abbrev pub error_type_text : Bytes → Option ErrorType → Bytes
error_type_text name None = []
error_type_text name (Some error) = display_text WriteDebug name ++ error_impl_text name error.std_feature

-- `_lift`

-- `0 => N::C,`
abbrev pub arm_text : Bytes → ℕ → EnumCase → Bytes
arm_text name n c = decimal n ++ enum_word Arm ++ case_path_text name c.name ++ enum_word CaseEnd

-- the arms of cases that are numbered from `n`
abbrev pub arms_text : Bytes → ℕ → List EnumCase → Bytes
arms_text name n [] = []
arms_text name n (c ∷ cases) = arm_text name n c ++ arms_text name (suc n) cases

unfoldable pub enum_lift_text : EnumItem → Bytes
enum_lift_text e =
    enum_word Impl ++ e.name ++ sign OpenBlock ++ enum_word LiftFn ++ repr_type_text e.repr ++ enum_word LiftResult ++ e.name ++ enum_word LiftBody ++ arms_text e.name 0 e.cases ++ enum_word NoCase

-- the whole

-- the line of derives, and `pub enum N {`
abbrev pub enum_open_text : List Path → Bytes → Bytes
enum_open_text derives name = derives_text derives ++ enum_word PublicEnum ++ name ++ sign OpenBlock

-- the doc lines and attributes, and `pub enum N {`
unfoldable pub enum_head_text : EnumItem → Bytes
enum_head_text e =
    flat_map doc_text e.docs ++ enum_word OpenRepr ++ repr_type_text e.repr ++ enum_word CloseRepr ++ enum_open_text e.derives e.name

-- `Debug`, and what else there is of an error type
abbrev pub enum_shown_text : EnumItem → Option ErrorEnum → Bytes
enum_shown_text e None = enum_debug_text e
enum_shown_text e (Some error) = error_text e.name error

abbrev pub enum_text : EnumItem → Bytes
enum_text e = enum_head_text e ++ flat_map case_text e.cases ++ sign CloseBlock ++ enum_shown_text e e.error ++ enum_lift_text e
