-- A file in which a variant, an option of it and a result are printed, the option under another name, and what an import gives of such.
use Rattle.std.proofs.Common.{◌≡◌, inl, inr, false, List, [], ◌∷◌, Option, None, Some, refl, sym, ap, ◌∙◌, subst, rules}
use Rattle.std.specs.Prelude.{codes}
use Rattle.wit_model.specs.Bytes.{Bytes}
use Rattle.wit_layout.specs.Tree.{Scalar}
use Rattle.rust_tree.specs.declared.item.Item.{Item}
use Rattle.rust_tree.specs.declared.item.Item.TheVariants as item
use Rattle.rust_tree.specs.declared.type_expr.Primitive.TheVariants as prim
use Rattle.rust_tree.specs.declared.type_expr.TypeExpr.{TypeExpr, TypeExpr-F, out-TypeExpr, the_lemmas as type_lemmas}
use Rattle.rust_tree.specs.declared.type_expr.TypeExpr.TheVariants as type
use Rattle.rust_tree.specs.declared.type_item.TypeItem.TheVariants.{Alias, Variant}
use Rattle.rust_tree.specs.declared.variant_item.VariantItem.{VariantItem}
use Rattle.wrapper_data.specs.declared.value.RustValue.{the_lemmas}
use Rattle.wrapper_data.specs.declared.value.RustValue.TheVariants as value
use Rattle.wrapper_meaning.specs.Direction.{take}
use Rattle.wrapper_meaning.specs.Shape.{Shape, Shapes, nothing}
use Rattle.wrapper_meaning.specs.Shape.Shape.{cases, scalar, text}
use Rattle.wrapper_meaning.specs.Shape.Shapes.{more, none}
use Rattle.wrapper_values.specs.declared.state.Val.TheVariants as val
use Rattle.wrapper_values.specs.Effect.{answer_of}
use Rattle.wrapper_values.specs.Typed.{answer_in, typed, unaliased}
use Rattle.func_gen.specs.NormalLemmas.{normal_unit, passing_case}
use Rattle.wrapper_closing.specs.ClosedImport.{AnswersAs}
use Rattle.wrapper_closing.specs.PrintedAs.{ArePrintedCases, HavePayloads, IsPrintedAs}
use Rattle.wrapper_closing.proofs.PrintedAnswers.{printed_results_answer}
use Rattle.wrapper_closing.proofs.TypedCases.{value_typed}

-- 1. The file

abbrev named : Bytes → TypeExpr
named name = type.Path (record { lead = false; supers = 0; names = name ∷ [] })

abbrev count_type : TypeExpr
count_type = type.Primitive prim.U32

-- enum Mark { Circle(u32), Blank }, type Maybe = Option<Mark>
abbrev mark_item : VariantItem
mark_item = record {
  docs = [];
  derives = [];
  name = codes "Mark";
  cases = record { docs = []; name = codes "Circle"; ty = Some count_type } ∷ record { docs = []; name = codes "Blank"; ty = None } ∷ [];
  error = None;
}

abbrev items : List Item
items = item.Type (Variant mark_item) ∷ item.Type (Alias (record { docs = []; name = codes "Maybe"; ty = type.Optional (named (codes "Mark")) })) ∷ []

abbrev mark : Shape
mark = cases (more (scalar Scalar.u32) (more nothing none))

abbrev maybe : Shape
maybe = cases (more nothing (more mark none))

-- Result<(), Maybe>
abbrev outcome_type : TypeExpr
outcome_type = type.Result type.Unit (named (codes "Maybe"))

-- 2. How they are printed

by_form : (ty : TypeExpr) (l : TypeExpr-F TypeExpr) (ts : Shapes) (payloads : List (Option TypeExpr)) → out-TypeExpr (unaliased items ty) ≡ l → HavePayloads items l payloads → ArePrintedCases items ts payloads → IsPrintedAs items (cases ts) ty
by_form ty l ts payloads is have p = (payloads, subst (λ l. HavePayloads items l payloads) (sym is) have, p)

mark_out : out-TypeExpr (unaliased items (named (codes "Mark"))) ≡ TypeExpr-F.Path (record { lead = false; supers = 0; names = codes "Mark" ∷ [] })
mark_out = search (rules, type_lemmas)

maybe_out : out-TypeExpr (unaliased items (named (codes "Maybe"))) ≡ TypeExpr-F.Optional (named (codes "Mark"))
maybe_out = search (rules, type_lemmas)

outcome_out : out-TypeExpr (unaliased items outcome_type) ≡ TypeExpr-F.Result type.Unit (named (codes "Maybe"))
outcome_out = search (rules, type_lemmas)

count_is : unaliased items count_type ≡ count_type
count_is = search (rules, type_lemmas)

pub mark_is_printed : IsPrintedAs items mark (named (codes "Mark"))
mark_is_printed =
    by_form (named (codes "Mark")) (TypeExpr-F.Path (record { lead = false; supers = 0; names = codes "Mark" ∷ [] })) (more (scalar Scalar.u32) (more nothing none)) (Some count_type ∷ None ∷ []) mark_out refl
    (refl, count_is, (refl, tt))

pub maybe_is_printed : IsPrintedAs items maybe (named (codes "Maybe"))
maybe_is_printed =
    by_form (named (codes "Maybe")) (TypeExpr-F.Optional (named (codes "Mark"))) (more nothing (more mark none)) (None ∷ Some (named (codes "Mark")) ∷ []) maybe_out refl (refl, (refl, mark_is_printed, tt))

pub outcome_is_printed : IsPrintedAs items (cases (more nothing (more maybe none))) outcome_type
outcome_is_printed =
    by_form outcome_type (TypeExpr-F.Result type.Unit (named (codes "Maybe"))) (more nothing (more maybe none)) (None ∷ Some (named (codes "Maybe")) ∷ []) outcome_out
    (None, Some (named (codes "Maybe")), refl, refl, refl) (refl, (refl, maybe_is_printed, tt))

-- a case whose payload is a number is printed as no case with a text
pub no_text : IsPrintedAs items (cases (more text (more nothing none))) (named (codes "Mark")) → ⊥
no_text (payloads, have, p) =
    let are : (let o : Option (List (Option TypeExpr)) = Some (Some count_type ∷ None ∷ []) in o ≡ Some payloads) = subst (λ l. HavePayloads items l payloads) mark_out have in
    let same : payloads ≡ Some count_type ∷ None ∷ [] = cc in
    let first = subst (ArePrintedCases items (more text (more nothing none))) same p in
    absurd (let no : TypeExpr-F.Primitive prim.U32 ≡ TypeExpr-F.String = sym (ap out-TypeExpr count_is ∙ count_out) ∙ ap out-TypeExpr first.1 ∙ text_out in cc)
  where
    count_out : out-TypeExpr count_type ≡ TypeExpr-F.Primitive prim.U32
    count_out = search (rules, type_lemmas)

    text_out : out-TypeExpr type.String ≡ TypeExpr-F.String
    text_out = search (rules, type_lemmas)

-- 3. What an import gives of them, where it gives what stands for one

pub maybe_answers : AnswersAs items (named (codes "Maybe")) (Some maybe)
maybe_answers = printed_results_answer items (Some maybe) (named (codes "Maybe")) maybe_is_printed

-- an option without a value, whose payload is left out or `()`, stays as it is

pub absent_answers : answer_in items (named (codes "Maybe")) (val.Value (value.Case 0 None)) ≡ Some (Some (value.Case 0 None))
unfolding answer_of
absent_answers = search (rules, the_lemmas, type_lemmas)

pub unit_stays : typed items (value.Case 0 (Some value.Unit)) (named (codes "Maybe")) ≡ Some (value.Case 0 (Some value.Unit))
unit_stays =
    value_typed items (None ∷ Some (named (codes "Mark")) ∷ []) 0 (Some value.Unit) (named (codes "Maybe")) (subst (λ l. HavePayloads items l (None ∷ Some (named (codes "Mark")) ∷ [])) (sym maybe_out) refl) (inl (refl, inr refl))
    ∙ ap (λ r. Some r) (passing_case take 0 (Some value.Unit) ∙ ap (λ r. value.Case 0 (Some r)) (normal_unit take))

-- a case that the variant has not is no answer
pub too_many : answer_in items (named (codes "Mark")) (val.Value (value.Case 2 None)) ≡ None
unfolding answer_of
too_many = search (rules, the_lemmas, type_lemmas)
