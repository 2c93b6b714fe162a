-- What the sites of these worlds write: each type of a table that has one type, and so whatever a function reaches.
use Rattle.std.proofs.Common.{◌≡◌, ◌<◌, ◌≤◌, ℕ, zero, suc, false, List, [], ◌∷◌, length, map, Option, None, Some, refl, sym, ap, subst, arith}
use Rattle.wit_model.specs.Bytes.{Bytes}
use Rattle.wit_model.specs.declared.function.Function.{Function}
use Rattle.wit_model.specs.declared.types.Case.{Case}
use Rattle.wit_model.specs.declared.types.Member.{Member}
use Rattle.wit_model.specs.declared.types.TypeDef.{TypeDef}
use Rattle.wit_model.specs.declared.types.TypeDefKind.TheVariants as kind
use Rattle.wit_model.specs.declared.types.WitType.{WitType}
use Rattle.rust_tree.specs.declared.path.Path.{Path}
use Rattle.rust_tree.specs.declared.repr.Repr.TheVariants.{U64}
use Rattle.type_defs.specs.Paths.{local_path}
use Rattle.wrapper_values.specs.Fields.{root_name}
use Rattle.abi_bindgen.specs.Written.{WritesReachedEach, WritesReachedPart}
use Rattle.func_gen.specs.declared.type_site.TypeSite.{TypeSite}
use Rattle.func_gen.specs.declared.type_site.TypeSite.TheVariants as site
use Rattle.func_gen.specs.declared.variant_site.VariantSite.{VariantSite}
use Rattle.func_gen.specs.CalledCases.{is_other_module}
use Rattle.func_gen.specs.Written.{CanWrite, WritesKind}
use Rattle.wrapper_closing.specs.Parts.{CanWriteFunction}

module _ (types : List TypeDef) (t : TypeDef) (one : types ≡ t ∷ []) (s : TypeSite) where
  abbrev sites : List (Option TypeSite)
  sites = Some s ∷ []

  -- there is no other type
  only : WritesKind (t ∷ []) sites 0 t.kind → (id : ℕ) → CanWrite types sites id
  only h id = subst (λ types. CanWrite types sites id) (sym one) (go id)
    where
      go : (id : ℕ) → CanWrite (t ∷ []) sites id
      go zero = h
      go (suc id) = tt

pub variant_written : (types : List TypeDef) (t : TypeDef) (members : List Case) (s : VariantSite) (name : Bytes) → types ≡ t ∷ [] → t.kind ≡ kind.Variant members → length s.cases ≡ length members
    → s.lowered ≡ local_path name → is_other_module name ≡ false → (id : ℕ) → CanWrite types (Some (site.Variant s) ∷ []) id
variant_written types t members s name one is many path own =
    only types t one (site.Variant s)
    (subst (WritesKind (t ∷ []) (Some (site.Variant s) ∷ []) 0) (sym is)
    (record { site = s; at = refl; name = name; root = ap (λ (p : Path). root_name p) path; many = many; typed = own }))

pub flags_written : (types : List TypeDef) (t : TypeDef) (members : List Member) (path : Path) → types ≡ t ∷ [] → t.kind ≡ kind.Flags members → length members ≡ 40
    → (id : ℕ) → CanWrite types (Some (site.Flags (record { path = path; repr = U64; members = 40 })) ∷ []) id
flags_written types t members path one is many =
    let within : 40 ≤ 128 = omega arith in
    let several : 0 < 40 = omega arith in
    only types t one (site.Flags (record { path = path; repr = U64; members = 40 }))
    (subst (WritesKind (t ∷ []) (Some (site.Flags (record { path = path; repr = U64; members = 40 })) ∷ []) 0) (sym is)
    (record {
      site = record { path = path; repr = U64; members = 40 };
      is_site = record { at = refl; count = (members, record { entry = t; stands = refl; kind = is }, many); some = several; within = within; held = refl };
    }))

pub function_written : (types : List TypeDef) (sites : List (Option TypeSite)) (f : Function) → ((id : ℕ) → CanWrite types sites id) → CanWriteFunction types sites f
function_written types sites f h = record { params = each (map (λ p. p.ty) f.params); result = part f.result }
  where
    each : (tys : List WitType) → WritesReachedEach types (CanWrite types sites) tys
    each [] = tt
    each (ty ∷ tys) = (λ id reaches. h id.0, each tys)

    part : (o : Option WitType) → WritesReachedPart types (CanWrite types sites) o
    part None = tt
    part (Some ty) = λ id reaches. h id.0
