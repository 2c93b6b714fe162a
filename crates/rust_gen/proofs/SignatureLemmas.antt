-- The types of the functions of a trait, and of imported functions, may stand in a tree.
use Rattle.std.proofs.Common.{◌≡◌, suc, true, List, [], ◌∷◌, Option, None, Some, map, refl, arith}
use Rattle.std.specs.List.{Contains, list_all}
use Rattle.std.specs.Option.{option_to_list}
use Rattle.std.proofs.lemmas.Bool.{and_from, and_parts}
use Rattle.wit_model.specs.WellFormed.{IsWellFormed}
use Rattle.wit_model.specs.declared.function.Param.{Param}
use Rattle.wit_model.specs.declared.resolve.Resolve.{Resolve}
use Rattle.wit_model.specs.declared.types.TypeDef.{TypeDef}
use Rattle.wit_model.specs.declared.types.WitType.{WitType}
use Rattle.rust_tree.specs.Ident.{is_ident, rust_ident}
use Rattle.rust_tree.specs.WellNamed.{is_named_param, is_named_type}
use Rattle.rust_tree.proofs.NamedTypeLemmas.{is_named-unit}
use Rattle.type_defs.specs.NamedParts.{HasNamedParts}
use Rattle.type_defs.specs.ParamType.{param_type}
use Rattle.type_defs.specs.PartType.{part_type, printed_result}
use Rattle.type_defs.proofs.PartNameLemmas.{type-param-named, type-part-named}
use Rattle.rust_gen.specs.Exported.{trait_param}
use Rattle.rust_gen.specs.Wrapper.{printed_param}

-- each of these types reaches no named type that may not have its name
abbrev pub AreNamedTypes : List TypeDef → List WitType → Type 0
AreNamedTypes types tys = (ty : WitType) → Contains tys ty → HasNamedParts types ty

module _ (r : Resolve) (checked : IsWellFormed r) where
  pub result-named : (result : Option WitType) → AreNamedTypes r.types (option_to_list result) → is_named_type (printed_result r.types result) ≡ true
  result-named None named = is_named-unit
  result-named (Some ty) named = type-part-named r ty checked (named ty (0, omega arith, refl))

  pub printed_params-named : (params : List Param) → list_all is_ident (map (λ p. rust_ident p.name) params) ≡ true → AreNamedTypes r.types (map (λ p. p.ty) params)
      → list_all is_named_param (map (printed_param r.types) params) ≡ true
  printed_params-named [] h named = refl
  printed_params-named (p ∷ params) h named =
      let names = and_parts (is_ident (rust_ident p.name)) (list_all is_ident (map (λ p. rust_ident p.name) params)) h in
      and_from (is_named_param (printed_param r.types p)) (list_all is_named_param (map (printed_param r.types) params))
      (and_from (is_ident (rust_ident p.name)) (is_named_type (param_type r.types p.ty)) names.0 (type-param-named r p.ty checked (named p.ty (0, omega arith, refl))))
      (printed_params-named params names.1 (λ ty c. named ty (suc c.0, omega (arith, c.1), c.2)))

  pub trait_params-named : (params : List Param) → list_all (λ p. is_ident (rust_ident p.name)) params ≡ true → AreNamedTypes r.types (map (λ p. p.ty) params)
      → list_all is_named_param (map (trait_param r.types) params) ≡ true
  trait_params-named [] h named = refl
  trait_params-named (p ∷ params) h named =
      let names = and_parts (is_ident (rust_ident p.name)) (list_all (λ p. is_ident (rust_ident p.name)) params) h in
      and_from (is_named_param (trait_param r.types p)) (list_all is_named_param (map (trait_param r.types) params))
      (and_from (is_ident (rust_ident p.name)) (is_named_type (part_type r.types p.ty)) names.0 (type-part-named r p.ty checked (named p.ty (0, omega arith, refl))))
      (trait_params-named params names.1 (λ ty c. named ty (suc c.0, omega (arith, c.1), c.2)))
