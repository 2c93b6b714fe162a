-- The text of the definition of a variant.
use Rattle.std.specs.Prelude.{[], ◌++◌, Option, None, Some}
use Rattle.std.specs.List.{flat_map}
use Rattle.rust_tree.specs.declared.type_expr.TypeExpr.{TypeExpr}
use Rattle.rust_tree.specs.declared.variant_item.VariantCase.{VariantCase}
use Rattle.rust_tree.specs.declared.variant_item.VariantItem.{VariantItem}
use Rattle.rust_tree.specs.declared.print.word.enums.EnumWord.TheVariants.{CaseEnd, PayloadTuple, PayloadFinish}
use Rattle.rust_tree.specs.declared.print.word.sign.Sign.TheVariants.{CloseBlock, Open, Close}
use Rattle.rust_tree.specs.CodeText.{doc_text, type_text}
use Rattle.rust_tree.specs.EnumText.{case_path_text, debug_case_text, debug_close_text, debug_open_text, enum_open_text, error_type_text}
use Rattle.wit_model.specs.Bytes.{Bytes}
use Rattle.rust_tree.specs.Word.{enum_word, sign}

-- cases

-- `(T)`, or nothing
abbrev pub payload_text : Option TypeExpr → Bytes
payload_text None = []
payload_text (Some ty) = sign Open ++ type_text ty ++ sign Close

-- `C(T),` or `C,`, behind its doc lines
abbrev pub variant_case_text : VariantCase → Bytes
variant_case_text c = flat_map doc_text c.docs ++ c.name ++ payload_text c.ty ++ enum_word CaseEnd

-- `Debug`

-- `N::C(e) => f.debug_tuple("N::C").field(e).finish(),`
abbrev pub debug_payload_text : (name c : Bytes) → Bytes
debug_payload_text name c = case_path_text name c ++ enum_word PayloadTuple ++ case_path_text name c ++ enum_word PayloadFinish

-- what it writes of a case, with its payload if there is one
abbrev pub shown_text : (name c : Bytes) → Option TypeExpr → Bytes
shown_text name c None = debug_case_text name c
shown_text name c (Some ty) = debug_payload_text name c

abbrev pub variant_debug_text : VariantItem → Bytes
variant_debug_text v = debug_open_text v.name ++ flat_map (λ c. shown_text v.name c.name c.ty) v.cases ++ debug_close_text

-- the whole

-- the doc lines, the line of derives, and `pub enum N {`
abbrev pub variant_head_text : VariantItem → Bytes
variant_head_text v = flat_map doc_text v.docs ++ enum_open_text v.derives v.name

abbrev pub variant_text : VariantItem → Bytes
variant_text v = variant_head_text v ++ flat_map variant_case_text v.cases ++ sign CloseBlock ++ variant_debug_text v ++ error_type_text v.name v.error
