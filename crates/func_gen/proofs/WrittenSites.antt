-- What a bindgen can write, it has a fitting site for.
use Rattle.std.proofs.Common.{◌≡◌, ℕ, List, Option, Some, sym, subst, ◌∙◌}
use Rattle.std.specs.Prelude.{IfSome, slice_get}
use Rattle.wit_model.specs.declared.types.TypeDef.{TypeDef}
use Rattle.wit_model.specs.declared.types.TypeDefKind.{TypeDefKind}
use Rattle.wrapper_meaning.proofs.Lists.{some_same}
use Rattle.func_gen.specs.declared.enum_site.EnumSite.{EnumSite}
use Rattle.func_gen.specs.declared.flags_site.FlagsSite.{FlagsSite}
use Rattle.func_gen.specs.declared.record_site.RecordSite.{RecordSite}
use Rattle.func_gen.specs.declared.type_site.TypeSite.{TypeSite}
use Rattle.func_gen.specs.declared.variant_site.VariantSite.{VariantSite}
use Rattle.func_gen.specs.CaseForms.{variant_at}
use Rattle.func_gen.specs.EnumForms.{enum_at}
use Rattle.func_gen.specs.FlagsForms.{IsFlagsSite, flags_at}
use Rattle.func_gen.specs.RecordForms.{IsSiteOf, record_at}
use Rattle.func_gen.specs.Written.{CanWrite, WritesEnum, WritesFlags, WritesKind, WritesRecord, WritesVariant}

module _ (types : List TypeDef) (sites : List (Option TypeSite)) (id : ℕ) where
  -- by the kind of the entry
  pub written_kind : (entry : TypeDef) (k : TypeDefKind) → slice_get types id ≡ Some entry → entry.kind ≡ k → CanWrite types sites id → WritesKind types sites id k
  written_kind entry k at is h = subst (WritesKind types sites id) is (subst (λ o. IfSome o (λ (t : TypeDef). WritesKind types sites id t.kind)) at h)

  pub record_found : (s : RecordSite) → WritesRecord types sites id → record_at sites id ≡ Some s → IsSiteOf types sites id s
  record_found s w at = subst (IsSiteOf types sites id) (some_same w.site s (sym w.is_site.at ∙ at)) w.is_site

  pub flags_found : (s : FlagsSite) → WritesFlags types sites id → flags_at sites id ≡ Some s → IsFlagsSite types sites id s
  flags_found s w at = subst (IsFlagsSite types sites id) (some_same w.site s (sym w.is_site.at ∙ at)) w.is_site

  pub enum_found : (s : EnumSite) (w : WritesEnum types sites id) → enum_at sites id ≡ Some s → w.site ≡ s
  enum_found s w at = some_same w.site s (sym w.is_site.at ∙ at)

  pub variant_found : (s : VariantSite) (count : ℕ) (w : WritesVariant types sites id count) → variant_at sites id ≡ Some s → w.site ≡ s
  variant_found s count w at = some_same w.site s (sym w.at ∙ at)
