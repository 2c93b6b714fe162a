-- The types that the functions of a world use are printed by its definitions as their shapes, and passed directly.
use Rattle.std.proofs.Common.{◌≡◌, ℕ, suc, true, ◌||◌, List, [], ◌∷◌, length, map, Option, None, Some, is_some, refl, sym, ap, ◌∙◌, subst, arith}
use Rattle.std.specs.Prelude.{slice_get}
use Rattle.std.specs.List.{Contains}
use Rattle.std.specs.Option.{option_map, option_to_list}
use Rattle.std.proofs.lemmas.Bool.{or_left, or_right}
use Rattle.std.proofs.lemmas.List.Elements.{Contains-append_left, Contains-append_right}
use Rattle.wit_model.specs.declared.function.Function.{Function}
use Rattle.wit_model.specs.declared.name.Name.{Name}
use Rattle.wit_model.specs.declared.name.TypeId.{TypeId}
use Rattle.wit_model.specs.declared.name.WorldId.{WorldId}
use Rattle.wit_model.specs.declared.resolve.Resolve.{Resolve}
use Rattle.wit_model.specs.declared.types.TypeDef.{TypeDef}
use Rattle.wit_model.specs.declared.types.WitType.{WitType}
use Rattle.wit_model.specs.declared.types.WitType.TheVariants.{Id}
use Rattle.wit_model.specs.declared.world.World.{World}
use Rattle.wit_model.specs.Reaches.{Names, Reaches, reaches_by}
use Rattle.wit_model.specs.TypeOrder.{type_below}
use Rattle.wit_model.proofs.WellFormedLemmas.{types_go_down}
use Rattle.rust_tree.specs.Ident.{type_ident}
use Rattle.rust_tree.specs.declared.item.FnParam.{FnParam}
use Rattle.rust_tree.specs.declared.item.Item.{Item}
use Rattle.rust_tree.specs.declared.type_expr.TypeExpr.TheVariants as type
use Rattle.rust_tree.specs.declared.type_item.TypeItem.{TypeItem}
use Rattle.type_facts.specs.Roots.{param_types, result_types}
use Rattle.type_defs.specs.declared.type_opts.TypeOpts.{TypeOpts}
use Rattle.type_defs.specs.Defined.{is_defined_type}
use Rattle.type_defs.specs.DefinedNames.{AreDefinable}
use Rattle.type_defs.specs.ParamType.{param_type}
use Rattle.type_defs.specs.PartType.{part_type, printed_result}
use Rattle.type_defs.specs.Used.{Covers, function_types, is_always_entry, uses}
use Rattle.type_defs.proofs.UsedLemmas.{contained-at, reached_uses}
use Rattle.wrapper_meaning.specs.Shape.{param_shapes, result_shape, shape_of}
use Rattle.abi_bindgen.specs.Instructions.{shapes_of}
use Rattle.abi_bindgen.proofs.Payloads.{payload_some}
use Rattle.wrapper_faithful.specs.Arguments.{unlent}
use Rattle.wrapper_closing.specs.Direct.{are_direct, is_direct, is_direct_result}
use Rattle.wrapper_closing.specs.PrintedAs.{ArePrintedAs, ArePrintedLent, ArePrintedParams, IsPrintedAs, IsPrintedResult}
use Rattle.type_sites.specs.PrintedLaws.{AreLentParams, AreSites, ArePartParams, LentParamsArePrinted, ParamsAreDirect, ParamsArePrinted, ResultsAreDirect, ResultsArePrinted, TypesAreDirect, TypesArePrinted, file_of}
use Rattle.type_defs.specs.Used.{IsUsed, UsesTypes}
use Rattle.type_sites.proofs.Definitions.{IsDefinedIn, count, count-grows, count-most, definition-of}
use Rattle.type_sites.proofs.DirectTypes.{all-direct, type-direct}
use Rattle.type_sites.proofs.LentTypes.{param-lent}
use Rattle.type_sites.proofs.PrintedForms.{stays, unit-ends}
use Rattle.type_sites.proofs.PrintedTypes.{type-printed}

module _ (opts : TypeOpts) (r : Resolve) (id : WorldId) (world : World) (defs : List TypeItem) (rest : List Item) (s : AreSites opts r id world defs) where
  abbrev items : List Item
  items = file_of defs rest

  abbrev counts : ℕ → ℕ
  counts = count opts r id world s.definable defs s.are rest

  -- each named type that a covered type reaches has its definition, where those are used
  pub covered-defined : (ty : WitType) → Covers r world ty → ((part : TypeId) → Reaches r.types ty (Id part) → uses r world part.0 ≡ true) → (part : TypeId) (entry : TypeDef) (name : Name) → Reaches r.types ty (Id part)
      → slice_get r.types part.0 ≡ Some entry → entry.name ≡ Some name → IsDefinedIn r.types items counts part.0 entry (type_ident name)
  covered-defined ty covers used part entry name reaches at named =
      definition-of opts r id world s.definable defs s.are rest part.0 entry name (covers part entry reaches at (ap (λ n. is_some n) named)) (or_right (is_always_entry (slice_get r.types part.0)) (uses r world part.0 || opts.generate_unused_types) (or_left (uses r world part.0) opts.generate_unused_types (used part reaches))) at named

  used-parts : (ty : WitType) → Contains (function_types r world) ty → (part : TypeId) → Reaches r.types ty (Id part) → uses r world part.0 ≡ true
  used-parts ty has part reaches = reached_uses r world part s.definable.shallow (record { root = ty; is_root = has; reached = reaches })

  -- so it is printed as its shape
  pub covered-printed : (ty : WitType) → type_below (length r.types) ty ≡ true → is_defined_type ty ≡ true → Covers r world ty → ((part : TypeId) → Reaches r.types ty (Id part) → uses r world part.0 ≡ true)
      → IsPrintedAs items (shape_of r.types ty) (part_type r.types ty)
  covered-printed ty below h covers used =
      type-printed r.types items counts (types_go_down r s.definable.checked.unbroken) s.definable.kinds s.definable.parts (payload_some r s.definable.checked) s.names (count-grows opts r id world s.definable defs s.are rest)
      (count-most opts r id world s.definable defs s.are rest) ty below h (covered-defined ty covers used)

  pub used-printed : (ty : WitType) → IsUsed r world ty → IsPrintedAs items (shape_of r.types ty) (part_type r.types ty)
  used-printed ty u = covered-printed ty u.below u.defined (s.definable.covered ty u.used) (used-parts ty u.used)

  all-used-printed : (tys : List WitType) → ((ty : WitType) → Contains tys ty → IsUsed r world ty) → ArePrintedAs items (shapes_of r.types tys) (map (part_type r.types) tys)
  all-used-printed [] h = tt
  all-used-printed (ty ∷ tys) h = (used-printed ty (h ty (0, omega arith, refl)), all-used-printed tys (λ t has. h t (suc has.0, omega arith, has.2)))

  params-printed : (f : Function) → UsesTypes r world f → (params : List FnParam) → ArePartParams r.types f params → ArePrintedParams items (param_shapes r.types f) params
  params-printed f uses params are =
      subst (ArePrintedAs items (param_shapes r.types f)) (sym are) (all-used-printed (param_types f) (λ ty has. uses ty (Contains-append_left (param_types f) (result_types f) ty has)))

  -- a type that is known is covered, and what it reaches is used
  abbrev IsCovered : WitType → Type 0
  IsCovered ty = Covers r world ty × ((part : TypeId) → Reaches r.types ty (Id part) → uses r world part.0 ≡ true)

  covered-part : (whole part : WitType) → Names r.types whole part → IsCovered whole → IsCovered part
  covered-part whole part names h = (λ id entry reaches at named. h.0 id entry (reaches_by names reaches) at named, λ id reaches. h.1 id (reaches_by names reaches))

  param-printed : (ty : WitType) → IsUsed r world ty → IsPrintedAs items (shape_of r.types ty) (unlent (param_type r.types ty))
  param-printed ty u =
      param-lent r.types items (types_go_down r s.definable.checked.unbroken) s.definable.kinds s.definable.parts (payload_some r s.definable.checked) s.names IsCovered covered-part
      (λ ty below h known. covered-printed ty below h known.0 known.1) ty u.below u.defined (s.definable.covered ty u.used, used-parts ty u.used)

  all-params-printed : (tys : List WitType) → ((ty : WitType) → Contains tys ty → IsUsed r world ty) → ArePrintedAs items (shapes_of r.types tys) (map unlent (map (param_type r.types) tys))
  all-params-printed [] h = tt
  all-params-printed (ty ∷ tys) h = (param-printed ty (h ty (0, omega arith, refl)), all-params-printed tys (λ t has. h t (suc has.0, omega arith, has.2)))

  lent-params-printed : (f : Function) → UsesTypes r world f → (params : List FnParam) → AreLentParams r.types f params → ArePrintedLent items (param_shapes r.types f) params
  lent-params-printed f uses params are =
      subst (ArePrintedAs items (param_shapes r.types f)) (ap (map unlent) (sym are) ∙ map-then params)
      (all-params-printed (param_types f) (λ ty has. uses ty (Contains-append_left (param_types f) (result_types f) ty has)))
    where
      map-then : (params : List FnParam) → map unlent (map (λ p. p.ty) params) ≡ map (λ p. unlent p.ty) params
      map-then [] = refl
      map-then (p ∷ params) = ap (λ tys. unlent p.ty ∷ tys) (map-then params)

  result-printed : (f : Function) → UsesTypes r world f → IsPrintedResult items (result_shape r.types f) (printed_result r.types f.result)
  result-printed f uses = go f.result (λ ty has. uses ty (Contains-append_right (param_types f) (result_types f) ty has))
    where
      go : (o : Option WitType) → ((ty : WitType) → Contains (option_to_list o) ty → IsUsed r world ty) → IsPrintedResult items (option_map (shape_of r.types) o) (printed_result r.types o)
      go None h = stays items items type.Unit (unit-ends items)
      go (Some ty) h = used-printed ty (h ty (0, omega arith, refl))

pub types-are-printed : TypesArePrinted
types-are-printed opts r id world defs rest s = used-printed opts r id world defs rest s

pub params-are-printed : ParamsArePrinted
params-are-printed opts r id world defs rest s = params-printed opts r id world defs rest s

pub lent-params-are-printed : LentParamsArePrinted
lent-params-are-printed opts r id world defs rest s = lent-params-printed opts r id world defs rest s

pub results-are-printed : ResultsArePrinted
results-are-printed opts r id world defs rest s = result-printed opts r id world defs rest s

module _ (opts : TypeOpts) (r : Resolve) (id : WorldId) (world : World) (d : AreDefinable opts r id world) where
  used-direct : (ty : WitType) → IsUsed r world ty → is_direct (shape_of r.types ty) ≡ true
  used-direct ty u = type-direct r.types (types_go_down r d.checked.unbroken) d.kinds d.parts ty u.below u.defined

  params-direct : (f : Function) → UsesTypes r world f → are_direct (param_shapes r.types f) ≡ true
  params-direct f uses =
      all-direct r.types (types_go_down r d.checked.unbroken) d.kinds d.parts (param_types f)
      (λ nth ty there. used-direct ty (uses ty (Contains-append_left (param_types f) (result_types f) ty (contained-at (param_types f) nth ty there))))

  result-direct : (f : Function) → UsesTypes r world f → is_direct_result (result_shape r.types f) ≡ true
  result-direct f uses = go f.result (λ ty has. uses ty (Contains-append_right (param_types f) (result_types f) ty has))
    where
      go : (o : Option WitType) → ((ty : WitType) → Contains (option_to_list o) ty → IsUsed r world ty) → is_direct_result (option_map (shape_of r.types) o) ≡ true
      go None h = refl
      go (Some ty) h = used-direct ty (h ty (0, omega arith, refl))

pub types-are-direct : TypesAreDirect
types-are-direct opts r id world d = used-direct opts r id world d

pub params-are-direct : ParamsAreDirect
params-are-direct opts r id world d = params-direct opts r id world d

pub results-are-direct : ResultsAreDirect
results-are-direct opts r id world d = result-direct opts r id world d
