-- A type of the table has its cases in one form alone.
use Rattle.std.proofs.Common.{◌≡◌, ℕ, List, Option, sym, ap, ap₂, ◌∙◌}
use Rattle.wit_model.specs.declared.types.Case.{Case}
use Rattle.wit_model.specs.declared.types.TypeDef.{TypeDef}
use Rattle.wit_model.specs.declared.types.TypeDefKind.{TypeDefKind}
use Rattle.wit_model.specs.declared.types.TypeDefKind.TheVariants as kind
use Rattle.wit_model.specs.declared.types.WitType.{WitType}
use Rattle.wrapper_meaning.proofs.Lists.{some_same}
use Rattle.wrapper_values.specs.Fields.{root_name}
use Rattle.abi_bindgen.specs.HasList.{IsKindOf}
use Rattle.func_gen.specs.declared.case_form.CaseForm.{CaseForm}
use Rattle.func_gen.specs.declared.type_site.TypeSite.{TypeSite}
use Rattle.func_gen.specs.declared.variant_site.VariantSite.{VariantSite}
use Rattle.func_gen.specs.CaseForms.{AreFormsOf, AreVariantForms, CasedType, a_result, a_variant, an_option, member_forms, result_forms}

kind_same : (types : List TypeDef) (id : ℕ) (k j : TypeDefKind) → IsKindOf types id k → IsKindOf types id j → k ≡ j
kind_same types id k j h g = sym h.kind ∙ ap (λ (t : TypeDef). t.kind) (some_same h.entry g.entry (sym h.stands ∙ g.stands)) ∙ g.kind

members_same : (xs ys : List Case) → kind.Variant xs ≡ kind.Variant ys → xs ≡ ys
members_same xs ys e = cc

ok_same : (a b c d : Option WitType) → kind.Result a b ≡ kind.Result c d → a ≡ c
ok_same a b c d e = cc

err_same : (a b c d : Option WitType) → kind.Result a b ≡ kind.Result c d → b ≡ d
err_same a b c d e = cc

variant_forms_same : (types : List TypeDef) (sites : List (Option TypeSite)) (id : ℕ) (xs ys : List CaseForm) → AreVariantForms types sites id xs → AreVariantForms types sites id ys → ys ≡ xs
variant_forms_same types sites id xs ys h g =
    let site : g.site ≡ h.site = some_same g.site h.site (sym g.at ∙ h.at) in
    let name : g.name ≡ h.name = some_same g.name h.name (sym g.root ∙ ap (λ (s : VariantSite). root_name s.lowered) site ∙ h.root) in
    let members : g.members ≡ h.members = members_same g.members h.members (kind_same types id (kind.Variant g.members) (kind.Variant h.members) g.kind h.kind) in
    g.are ∙ ap (λ n. member_forms n g.site.cases g.members) name ∙ ap₂ (λ (s : VariantSite) (ms : List Case). member_forms h.name s.cases ms) site members ∙ sym h.are

pub forms_same : (types : List TypeDef) (sites : List (Option TypeSite)) (ty : CasedType) (xs ys : List CaseForm) → AreFormsOf types sites ty xs → AreFormsOf types sites ty ys → ys ≡ xs
forms_same types sites (a_variant id) xs ys h g = variant_forms_same types sites id xs ys h g
forms_same types sites (an_option id) xs ys h g = g.are ∙ sym h.are
forms_same types sites (a_result id) xs ys h g =
    let kinds = kind_same types id (kind.Result g.ok g.err) (kind.Result h.ok h.err) g.kind h.kind in
    g.are ∙ ap₂ (λ ok err. result_forms ok err) (ok_same g.ok g.err h.ok h.err kinds) (err_same g.ok g.err h.ok h.err kinds) ∙ sym h.are
