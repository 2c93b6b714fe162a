-- The forms of the cases of options and of results: they fit the payloads, and have the numbers of the cases.
use Rattle.std.proofs.Common.{◌≡◌, ℕ, Bool, false, List, [], ◌∷◌, length, Option, None, Some, refl, sym, ap, ◌∙◌, subst}
use Rattle.std.specs.Prelude.{codes}
use Rattle.wit_model.specs.Bytes.{Bytes}
use Rattle.wit_model.specs.declared.types.TypeDef.{TypeDef}
use Rattle.wit_model.specs.declared.types.TypeDefKind.{TypeDefKind}
use Rattle.wit_model.specs.declared.types.TypeDefKind.TheVariants as kind
use Rattle.wit_model.specs.declared.types.WitType.{WitType}
use Rattle.rust_tree.specs.declared.item.Item.{Item}
use Rattle.rust_tree.specs.declared.path.Path.{Path}
use Rattle.wrapper_meaning.specs.Shape.{is_nothing, payload_in, payloads_in, shape_of, shapes}
use Rattle.wrapper_values.specs.Variants.{case_number, is_core_option, is_core_result, number_in_option, number_in_result}
use Rattle.abi_bindgen.specs.Cases.{case_shapes, payloads_at, payloads_of, payloads_or}
use Rattle.abi_bindgen.specs.HasList.{IsKindOf}
use Rattle.func_gen.specs.declared.case_form.CaseForm.{CaseForm}
use Rattle.func_gen.specs.declared.case_form.CaseForm.TheVariants as taken
use Rattle.func_gen.specs.CaseForms.{AreOptionForms, AreResultForms, IsSome, core_path, option_forms, side_form}
use Rattle.func_gen.specs.MatchForms.{case_path}
use Rattle.func_gen.proofs.CaseArms.{AreNumbered}
use Rattle.func_gen.proofs.CaseRows.{FitForms, FitsForm}

-- the shapes of the payloads of a kind
pub kind_shapes : (types : List TypeDef) (id : ℕ) (k : TypeDefKind) → IsKindOf types id k → case_shapes types id ≡ payloads_in (shapes types) (payloads_of k)
kind_shapes types id k is = ap (λ e. payloads_in (shapes types) (payloads_or e)) is.stands ∙ ap (λ q. payloads_in (shapes types) (payloads_of q)) is.kind

-- 1. Options

pub option_numbers : (items : List Item) → AreNumbered items 0 option_forms
unfolding is_core_option number_in_option
option_numbers items = (refl, (refl, tt))

pub full_fits : (b : Bool) (path : Path) → b ≡ false → FitsForm b (taken.Full path)
full_fits b path e = subst (λ b. FitsForm b (taken.Full path)) (sym e) tt

pub option_fits : (types : List TypeDef) (id : ℕ) (forms : List CaseForm) → AreOptionForms types id forms → FitForms (case_shapes types id) forms
option_fits types id forms o =
    subst (λ ts. FitForms ts forms) (sym (kind_shapes types id (kind.Option o.ty) o.kind))
    (subst (FitForms (payloads_in (shapes types) (None ∷ Some o.ty ∷ []))) (sym o.are) (tt, (full_fits (is_nothing (shape_of types o.ty)) (core_path (codes "option") (codes "Option") (codes "Some")) o.some, tt)))

pub option_count : (types : List TypeDef) (id : ℕ) (forms : List CaseForm) → AreOptionForms types id forms → length (payloads_at types id) ≡ length forms
option_count types id forms o = ap length (ap payloads_or o.kind.stands ∙ ap payloads_of o.kind.kind) ∙ ap length (sym o.are)

-- 2. Results

side_fits : (types : List TypeDef) (case : Bytes) (payload : Option WitType) → IsSome types payload → FitsForm (is_nothing (payload_in (shapes types) payload)) (side_form case payload)
side_fits types case None some = tt
side_fits types case (Some ty) some = full_fits (is_nothing (shape_of types ty)) (core_path (codes "result") (codes "Result") case) some

ok_number : (items : List Item) (payload : Option WitType) → case_number items (case_path (side_form (codes "Ok") payload)) ≡ Some 0
unfolding is_core_option is_core_result number_in_result
ok_number items None = refl
ok_number items (Some ty) = refl

err_number : (items : List Item) (payload : Option WitType) → case_number items (case_path (side_form (codes "Err") payload)) ≡ Some 1
unfolding is_core_option is_core_result number_in_result
err_number items None = refl
err_number items (Some ty) = refl

pub result_numbers : (items : List Item) (ok err : Option WitType) → AreNumbered items 0 (side_form (codes "Ok") ok ∷ side_form (codes "Err") err ∷ [])
result_numbers items ok err = (ok_number items ok, (err_number items err, tt))

pub result_fits : (types : List TypeDef) (id : ℕ) (forms : List CaseForm) → AreResultForms types id forms → FitForms (case_shapes types id) forms
result_fits types id forms r =
    subst (λ ts. FitForms ts forms) (sym (kind_shapes types id (kind.Result r.ok r.err) r.kind))
    (subst (FitForms (payloads_in (shapes types) (r.ok ∷ r.err ∷ []))) (sym r.are) (side_fits types (codes "Ok") r.ok r.ok_some, (side_fits types (codes "Err") r.err r.err_some, tt)))

pub result_count : (types : List TypeDef) (id : ℕ) (forms : List CaseForm) → AreResultForms types id forms → length (payloads_at types id) ≡ length forms
result_count types id forms r = ap length (ap payloads_or r.kind.stands ∙ ap payloads_of r.kind.kind) ∙ ap length (sym r.are)
