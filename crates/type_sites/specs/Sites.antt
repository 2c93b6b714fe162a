-- How the types that the functions of a world use are written in the file of the world.
use Rattle.std.specs.Prelude.{ℕ, List, length, map, Option, None, Some, if◌then◌else◌}
use Rattle.std.specs.List.{enumerate_from}
use Rattle.wit_model.specs.Bytes.{Bytes}
use Rattle.wit_model.specs.declared.name.Name.{Name}
use Rattle.wit_model.specs.declared.resolve.Resolve.{Resolve}
use Rattle.wit_model.specs.declared.types.Case.{Case}
use Rattle.wit_model.specs.declared.types.Field.{Field}
use Rattle.wit_model.specs.declared.types.Member.{Member}
use Rattle.wit_model.specs.declared.types.TypeDef.{TypeDef}
use Rattle.wit_model.specs.declared.types.TypeDefKind.{TypeDefKind}
use Rattle.wit_model.specs.declared.types.TypeDefKind.TheVariants as kind
use Rattle.wit_model.specs.declared.world.World.{World}
use Rattle.rust_tree.specs.Ident.{rust_ident, type_ident}
use Rattle.type_defs.specs.EnumDef.{enum_repr}
use Rattle.type_defs.specs.FlagsDef.{flags_repr}
use Rattle.type_defs.specs.Paths.{local_path}
use Rattle.type_defs.specs.Used.{uses}
use Rattle.func_gen.specs.declared.enum_site.EnumSite.{EnumSite}
use Rattle.func_gen.specs.declared.flags_site.FlagsSite.{FlagsSite}
use Rattle.func_gen.specs.declared.record_site.RecordSite.{RecordSite}
use Rattle.func_gen.specs.declared.type_site.TypeSite.{TypeSite}
use Rattle.func_gen.specs.declared.type_site.TypeSite.TheVariants as site
use Rattle.func_gen.specs.declared.variant_site.VariantSite.{VariantSite}

-- the owned type is made, and taken apart too
abbrev pub record_site : Bytes → List Field → RecordSite
record_site name fields = record { lifted = local_path name; lowered = local_path name; fields = map (λ f. rust_ident f.name) fields }

abbrev pub enum_site : Bytes → List Member → EnumSite
enum_site name cases = record { path = local_path name; repr = enum_repr (length cases); cases = length cases }

abbrev pub flags_site : Bytes → List Member → FlagsSite
flags_site name members = record { path = local_path name; repr = flags_repr (length members); members = length members }

abbrev pub variant_site : Bytes → List Case → VariantSite
variant_site name cases = record { lifted = local_path name; lowered = local_path name; cases = map (λ c. c.name.camel) cases }

-- a type that has no name is none of the file
abbrev pub site_by : TypeDefKind → Option Name → Option TypeSite
site_by (kind.Record fields) (Some name) = Some (site.Record (record_site (type_ident name) fields))
site_by (kind.Enum cases) (Some name) = Some (site.Enum (enum_site (type_ident name) cases))
site_by (kind.Flags members) (Some name) = Some (site.Flags (flags_site (type_ident name) members))
site_by (kind.Variant cases) (Some name) = Some (site.Variant (variant_site (type_ident name) cases))
site_by _ _ = None

abbrev pub site_of : TypeDef → Option TypeSite
site_of t = site_by t.kind t.name

-- what no function uses has no site
abbrev pub site_at : Resolve → World → ℕ × TypeDef → Option TypeSite
site_at r world entry = if uses r world entry.0 then site_of entry.1 else None

-- one for each entry of the table, at its place
unfoldable pub type_sites : Resolve → World → List (Option TypeSite)
type_sites r world = map (site_at r world) (enumerate_from 0 r.types)
