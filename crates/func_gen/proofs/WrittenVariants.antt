-- What is known of the site of a variant that a bindgen can write.
use Rattle.std.proofs.Common.{◌≡◌, ℕ, false, List, length, Option, Some, sym, ap, ◌∙◌, subst}
use Rattle.wit_model.specs.declared.types.Case.{Case}
use Rattle.wit_model.specs.declared.types.TypeDef.{TypeDef}
use Rattle.wit_model.specs.declared.types.TypeDefKind.TheVariants as kind
use Rattle.wrapper_meaning.proofs.Lists.{some_same}
use Rattle.wrapper_values.specs.Fields.{root_name}
use Rattle.abi_bindgen.specs.HasList.{IsKindOf}
use Rattle.func_gen.specs.declared.case_form.CaseForm.{CaseForm}
use Rattle.func_gen.specs.declared.type_site.TypeSite.{TypeSite}
use Rattle.func_gen.specs.declared.variant_site.VariantSite.{VariantSite}
use Rattle.func_gen.specs.CalledCases.{is_other_module}
use Rattle.func_gen.specs.CaseForms.{AreVariantForms, variant_at}
use Rattle.func_gen.specs.Written.{CanWrite, WritesVariant}
use Rattle.func_gen.proofs.WrittenSites.{variant_found, written_kind}

module _ (types : List TypeDef) (sites : List (Option TypeSite)) (id : ℕ) (can : CanWrite types sites id) where
  module _ (members : List Case) (here : IsKindOf types id (kind.Variant members)) where
    pub variant_written : WritesVariant types sites id (length members)
    variant_written = written_kind types sites id here.entry (kind.Variant members) here.stands here.kind can

    -- by the site that stands in the table
    module _ (s : VariantSite) (at : variant_at sites id ≡ Some s) where
      pub variant_rooted : root_name s.lowered ≡ Some variant_written.name
      variant_rooted = subst (λ (x : VariantSite). root_name x.lowered ≡ Some variant_written.name) (variant_found types sites id s (length members) variant_written at) variant_written.root

      pub variant_many : length s.cases ≡ length members
      variant_many = ap (λ (x : VariantSite). length x.cases) (sym (variant_found types sites id s (length members) variant_written at)) ∙ variant_written.many

  -- no other module stands behind the name by which its cases are written
  pub variant_typed : (forms : List CaseForm) (f : AreVariantForms types sites id forms) → is_other_module f.name ≡ false
  variant_typed forms f =
      let w = variant_written f.members f.kind in
      let named = some_same w.name f.name (sym (variant_rooted f.members f.kind f.site f.at) ∙ f.root) in
      ap is_other_module (sym named) ∙ w.typed
