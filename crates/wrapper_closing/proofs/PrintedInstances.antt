-- A file in which records of a number and a text are printed, also under another name, and a trait whose method takes and answers such.
use Rattle.std.proofs.Common.{◌≡◌, pos, Bool, true, false, List, [], ◌∷◌, map, Option, None, Some, sym, ap, ◌∙◌, subst, rules}
use Rattle.std.specs.Prelude.{◌^◌, codes}
use Rattle.wit_model.specs.Bytes.{Bytes}
use Rattle.wit_model.specs.declared.function.Function.{Function}
use Rattle.wit_model.specs.declared.types.WitType.TheVariants as wit
use Rattle.wit_layout.specs.Tree.{Scalar}
use Rattle.rust_tree.specs.Ident.{rust_ident}
use Rattle.rust_tree.specs.declared.item.Item.{Item}
use Rattle.rust_tree.specs.declared.item.Item.TheVariants as item
use Rattle.rust_tree.specs.declared.trait_item.TraitFn.{TraitFn}
use Rattle.rust_tree.specs.declared.type_expr.Primitive.TheVariants as prim
use Rattle.rust_tree.specs.declared.type_expr.TypeExpr.{TypeExpr, TypeExpr-F, out-TypeExpr, the_lemmas as type_lemmas}
use Rattle.rust_tree.specs.declared.type_expr.TypeExpr.TheVariants as type
use Rattle.rust_tree.specs.declared.type_item.StructField.{StructField}
use Rattle.rust_tree.specs.declared.type_item.StructItem.{StructItem}
use Rattle.rust_tree.specs.declared.type_item.TypeItem.{TypeItem}
use Rattle.rust_tree.specs.declared.type_item.TypeItem.TheVariants.{Alias, Struct}
use Rattle.wrapper_data.specs.declared.value.RustValue.{RustValue, the_lemmas}
use Rattle.wrapper_data.specs.declared.value.RustValue.TheVariants as value
use Rattle.wrapper_meaning.specs.Shape.{Shape}
use Rattle.wrapper_meaning.specs.Shape.Shape.{fields, scalar, text, tuple}
use Rattle.wrapper_meaning.specs.Shape.Shapes.{more, none}
use Rattle.wrapper_values.specs.declared.state.Val.TheVariants as val
use Rattle.wrapper_values.specs.Effect.{answer_of}
use Rattle.wrapper_values.specs.Typed.{answer_in, definition_in, unaliased}
use Rattle.wrapper_run.specs.ExportRun.{method_named}
use Rattle.abi_bindgen.specs.Calls.{PassesAsItIs}
use Rattle.func_gen.specs.Meaning.{File, func_meaning, method}
use Rattle.func_gen.specs.declared.function_bindgen.FunctionBindgen.{FunctionBindgen}
use Rattle.wrapper_closing.specs.ClosedExport.{AnswersComeIn}
use Rattle.wrapper_closing.specs.ClosedImport.{AnswersAs}
use Rattle.wrapper_closing.specs.PrintedAs.{ArePrintedAs, IsPrintedAs}
use Rattle.wrapper_closing.proofs.PrintedAnswers.{printed_params_pass, printed_results_answer, printed_results_come_in}

-- 1. The file

abbrev named : Bytes → TypeExpr
named name = type.Path (record { lead = false; supers = 0; names = name ∷ [] })

abbrev field : Bytes → TypeExpr → StructField
field name ty = record { docs = []; name = name; wit = name; ty = ty }

abbrev count_type : TypeExpr
count_type = type.Primitive prim.U32

-- struct Pair { count: Count, name: String }
abbrev pair_item : StructItem
pair_item = record {
  docs = [];
  repr_c = false;
  derives = [];
  name = codes "Pair";
  fields = field (codes "count") (named (codes "Count")) ∷ field (codes "name") type.String ∷ [];
  error = None;
}

abbrev swap : TraitFn
swap = record { docs = []; name = codes "swap"; params = record { name = codes "p"; ty = named (codes "Other") } ∷ []; result = type.Tuple (named (codes "Pair") ∷ []) }

abbrev items : List Item
items =
    item.Type (Struct pair_item)
    ∷ item.Type (Alias (record { docs = []; name = codes "Other"; ty = named (codes "Pair") }))
    ∷ item.Type (Alias (record { docs = []; name = codes "Count"; ty = count_type }))
    ∷ item.Trait (record { name = codes "Guest"; functions = swap ∷ [] })
    ∷ []

abbrev pair : Shape
pair = fields (more (scalar Scalar.u32) (more text none))

-- 2. How the record is printed

pub pair_is_printed : IsPrintedAs items pair (named (codes "Pair"))
pair_is_printed = (pair_item, search (rules, type_lemmas), (search (rules, type_lemmas), (search (rules, type_lemmas), tt)))

pub other_is_printed : IsPrintedAs items pair (named (codes "Other"))
other_is_printed = (pair_item, search (rules, type_lemmas), (search (rules, type_lemmas), (search (rules, type_lemmas), tt)))

-- a text is printed as no number
pub no_number : IsPrintedAs items text (named (codes "Count")) → ⊥
no_number h = absurd (let no : TypeExpr-F.Primitive prim.U32 ≡ TypeExpr-F.String = sym count_out ∙ ap out-TypeExpr h ∙ text_out in cc)
  where
    count_out : out-TypeExpr (unaliased items (named (codes "Count"))) ≡ TypeExpr-F.Primitive prim.U32
    count_out = search (rules, type_lemmas)

    text_out : out-TypeExpr type.String ≡ TypeExpr-F.String
    text_out = search (rules, type_lemmas)

-- and the order of the fields counts
pub order_counts : IsPrintedAs items (fields (more text (more (scalar Scalar.u32) none))) (named (codes "Pair")) → ⊥
order_counts (s, is, p) = no_number (subst (λ s. ArePrintedAs items (more text (more (scalar Scalar.u32) none)) (map (λ f. f.ty) s.fields)) (sym same) p).0
  where
    found : definition_in items (out-TypeExpr (unaliased items (named (codes "Pair")))) ≡ Some (Struct pair_item)
    found = search (rules, type_lemmas)

    same : pair_item ≡ s
    same = let both : (let o : Option TypeItem = Some (Struct pair_item) in o ≡ Some (Struct s)) = sym found ∙ is in cc

-- 3. What an import gives of it, where it gives what stands for one

pub nothing_answers : AnswersAs items type.Unit None
nothing_answers = printed_results_answer items None type.Unit (search (rules, type_lemmas))

pub pair_answers : AnswersAs items (named (codes "Other")) (Some pair)
pair_answers = printed_results_answer items (Some pair) (named (codes "Other")) other_is_printed

-- an empty text owns its bytes then, whatever its flag says
abbrev seven_and_empty : Bool → RustValue
seven_and_empty owned = value.Struct (value.Num wit.U32 (pos 7) ∷ value.Buffer 4096 0 owned ∷ [])

pub empty_is_owned : answer_in items (named (codes "Other")) (val.Value (seven_and_empty false)) ≡ Some (Some (seven_and_empty true))
unfolding answer_of
empty_is_owned = search (rules, the_lemmas, type_lemmas)

-- a number that is none of the type is no answer
pub too_large : answer_in items (named (codes "Count")) (val.Value (value.Num wit.U32 (pos (2 ^ 32)))) ≡ None
unfolding answer_of
too_large = search (rules, the_lemmas, type_lemmas)

-- 4. What an export passes to its method, and takes of it

abbrev file : File
file = record { items = items; item = 4; bound = codes "Guest"; area = None }

swap_is_there : (f : Function) → rust_ident f.name ≡ codes "swap" → method file f ≡ Some swap
swap_is_there f e = ap (method_named items (codes "Guest")) e

pub swap_passes : (b : FunctionBindgen) (f : Function) → rust_ident f.name ≡ codes "swap" → PassesAsItIs func_meaning file b f (more pair none)
swap_passes b f e = printed_params_pass file b f (more pair none) swap (swap_is_there f e) (other_is_printed, tt)

pub swap_comes_in : (b : FunctionBindgen) (f : Function) → rust_ident f.name ≡ codes "swap" → AnswersComeIn file b f (Some (tuple (more pair none)))
swap_comes_in b f e = printed_results_come_in file b f (Some (tuple (more pair none))) swap (swap_is_there f e) (named (codes "Pair") ∷ [], search (rules, type_lemmas), (pair_is_printed, tt))
