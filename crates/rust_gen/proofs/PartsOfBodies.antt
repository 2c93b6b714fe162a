-- Bodies can be made of what stands for the parameters of an import, and of an export.
use Rattle.std.proofs.Common.{◌≡◌, true, false, not, ◌&&◌, List, [], ◌∷◌, map, inl, inr, refl, sym, ap, ap₂, subst, ◌∙◌}
use Rattle.std.specs.List.{AllByRecursion}
use Rattle.wit_model.specs.Bytes.{Bytes}
use Rattle.wit_model.specs.Distinct.{is_distinct}
use Rattle.wit_model.specs.declared.function.Function.{Function}
use Rattle.wit_model.specs.declared.function.Param.{Param}
use Rattle.wit_model.specs.declared.types.TypeDef.{TypeDef}
use Rattle.wit_model.specs.declared.types.WitType.{WitType}
use Rattle.wit_model.specs.declared.types.WitType.TheVariants as wit
use Rattle.rust_tree.specs.declared.export.CoreParam.{CoreParam}
use Rattle.rust_tree.specs.Ident.{rust_ident}
use Rattle.gen_accept.specs.DeclaredNames.{param_idents}
use Rattle.func_gen.specs.Forms.{operand_of}
use Rattle.func_gen.specs.Scope.{is_used}
use Rattle.func_gen.specs.Sites.{IsSite, site_names}
use Rattle.wrapper_closing.specs.Params.{arg_names, local_sites, ret_area}
use Rattle.wrapper_closing.specs.Parts.{AreParts}
use Rattle.wrapper_closing.specs.declared.parts.BodyParts.{BodyParts}
use Rattle.wrapper_closing.proofs.LocalSites.{are_sites, named_so}
use Rattle.rust_gen.specs.Body.{import_site, site_expr}
use Rattle.rust_gen.specs.FixedName.{IsFixedName}
use Rattle.rust_gen.specs.Known.{AreAtHand}

-- a fixed name is that of no parameter
free-name : (params : List Bytes) (base name : Bytes) → IsFixedName params base name → is_used params name ≡ false
free-name params base name h = elim h [ inl e ↦ ap (is_used params) e.1 ∙ e.0 | inr r ↦ r.free ]

one-site : (ty : WitType) (name : Bytes) → IsSite (record { operand = operand_of (site_expr ty name); name = name })
one-site wit.String name = inl refl
one-site (wit.Id id) name = inl refl
one-site _ name = inr refl

import-sites : (params : List Param) → AllByRecursion IsSite (map import_site params)
import-sites [] = tt
import-sites (p ∷ params) = (one-site p.ty (rust_ident p.name), import-sites params)

import-names : (params : List Param) → site_names (map import_site params) ≡ map (λ p. rust_ident p.name) params
import-names [] = refl
import-names (p ∷ params) = ap (λ ns. rust_ident p.name ∷ ns) (import-names params)

pub import-are : (types : List TypeDef) (f : Function) (parts : BodyParts) → AreAtHand types parts.tables.now → IsFixedName (param_idents f) ret_area parts.area → parts.params ≡ map import_site f.params → is_distinct (param_idents f) ≡ true → AreParts types parts
import-are types f parts tables area params distinct = record {
  filled = tables.0;
  sites = subst (AllByRecursion IsSite) (sym params) (import-sites f.params);
  distinct =
      ap (λ ns. is_distinct (parts.area ∷ ns)) (ap site_names params ∙ import-names f.params)
      ∙ ap₂ (λ a b. not a && b) (free-name (param_idents f) ret_area parts.area area) distinct;
  defined = tables.1;
}

pub export-are : (types : List TypeDef) (args : List CoreParam) (parts : BodyParts) → AreAtHand types parts.tables.now → parts.area ≡ ret_area → parts.params ≡ local_sites (arg_names args) → is_distinct (ret_area ∷ arg_names args) ≡ true → AreParts types parts
export-are types args parts tables area params distinct = record {
  filled = tables.0;
  sites = subst (AllByRecursion IsSite) (sym params) (are_sites (arg_names args));
  distinct = ap₂ (λ a ns. is_distinct (a ∷ ns)) area (ap site_names params ∙ named_so (arg_names args)) ∙ distinct;
  defined = tables.1;
}
