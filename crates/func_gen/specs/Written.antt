-- Which types of a table a bindgen can write: those of the kinds that have a site have one that fits.
use Rattle.std.specs.Prelude.{◌≡◌, ℕ, false, List, Option, Some, IfSome, length, slice_get}
use Rattle.std.specs.Str.{bytes_eq}
use Rattle.wit_model.specs.Bytes.{Bytes}
use Rattle.wit_model.specs.declared.types.TypeDef.{TypeDef}
use Rattle.wit_model.specs.declared.types.TypeDefKind.{TypeDefKind}
use Rattle.wit_model.specs.declared.types.TypeDefKind.TheVariants as kind
use Rattle.rust_tree.specs.declared.expr.CastType.{CastType}
use Rattle.wrapper_run.specs.Run.{runtime_module_name}
use Rattle.wrapper_values.specs.Fields.{root_name}
use Rattle.func_gen.specs.declared.enum_site.EnumSite.{EnumSite}
use Rattle.func_gen.specs.declared.flags_site.FlagsSite.{FlagsSite}
use Rattle.func_gen.specs.declared.record_site.RecordSite.{RecordSite}
use Rattle.func_gen.specs.declared.type_site.TypeSite.{TypeSite}
use Rattle.func_gen.specs.declared.variant_site.VariantSite.{VariantSite}
use Rattle.func_gen.specs.CaseForms.{variant_at}
use Rattle.func_gen.specs.EnumForms.{IsEnumSite, case_cast}
use Rattle.func_gen.specs.CalledCases.{is_other_module}
use Rattle.func_gen.specs.FlagsForms.{IsFlagsSite}
use Rattle.func_gen.specs.RecordForms.{IsSiteOf}

module _ (types : List TypeDef) (sites : List (Option TypeSite)) (id : ℕ) where
  pub record WritesRecord : Type 0 where
    pub site : RecordSite
    pub is_site : IsSiteOf types sites id site

  pub record WritesFlags : Type 0 where
    pub site : FlagsSite
    pub is_site : IsFlagsSite types sites id site

  -- its path is a name of the file's root, and not `_rt`, and a number of at most 32 bits holds its cases
  pub record WritesEnum : Type 0 where
    pub site : EnumSite
    pub is_site : IsEnumSite types sites id site
    pub name : Bytes
    pub root : root_name site.path ≡ Some name
    pub typed : bytes_eq name runtime_module_name ≡ false
    pub to : CastType
    pub cast : case_cast site.repr ≡ Some to

  -- its path is a name of the file's root, behind which no other module stands, and it has so many cases
  pub record WritesVariant (count : ℕ) : Type 0 where
    pub site : VariantSite
    pub at : variant_at sites id ≡ Some site
    pub name : Bytes
    pub root : root_name site.lowered ≡ Some name
    pub many : length site.cases ≡ count
    pub typed : is_other_module name ≡ false

  abbrev pub WritesKind : TypeDefKind → Type 0
  WritesKind (kind.Record fields) = WritesRecord
  WritesKind (kind.Flags members) = WritesFlags
  WritesKind (kind.Enum members) = WritesEnum
  WritesKind (kind.Variant members) = WritesVariant (length members)
  WritesKind _ = Unit {0}

-- the type at a place of the table, where there is one
abbrev pub CanWrite : List TypeDef → List (Option TypeSite) → ℕ → Type 0
CanWrite types sites id = IfSome (slice_get types id) (λ t. WritesKind types sites id t.kind)
