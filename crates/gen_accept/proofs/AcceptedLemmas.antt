-- The types of a world that is accepted may be defined, and its functions name types that are.
use Rattle.std.proofs.Common.{◌≡◌, ℕ, true, ◌&&◌, ◌||◌, List, [], ◌∷◌, Option, None, Some, length, inl, inr, refl, sym, ap, ◌∙◌, arith}
use Rattle.std.specs.Prelude.{nat_le, slice_get}
use Rattle.std.specs.List.{Contains, list_all}
use Rattle.std.proofs.lemmas.Bool.{and_from, and_parts}
use Rattle.std.specs.Option.{option_to_list}
use Rattle.std.proofs.lemmas.List.Elements.{Contains-append_cases}
use Rattle.std.proofs.lemmas.List.Folds.{list_all-map}
use Rattle.wit_model.specs.IndexRange.{function_in_range}
use Rattle.wit_model.specs.Parts.{parts}
use Rattle.wit_model.specs.TypeOrder.{payload_below, type_below}
use Rattle.wit_model.specs.WellFormed.{IsWellFormed}
use Rattle.wit_model.specs.declared.function.Function.{Function}
use Rattle.wit_model.specs.declared.name.TypeId.{TypeId}
use Rattle.wit_model.specs.declared.name.WorldId.{WorldId}
use Rattle.wit_model.specs.declared.resolve.Resolve.{Resolve}
use Rattle.wit_model.specs.declared.types.TypeDef.{TypeDef}
use Rattle.wit_model.specs.declared.types.TypeDefKind.{TypeDefKind}
use Rattle.wit_model.specs.declared.types.TypeDefKind.TheVariants as kind
use Rattle.wit_model.specs.declared.types.WitType.{WitType}
use Rattle.wit_model.specs.declared.world.World.{World}
use Rattle.wit_model.specs.declared.world.WorldItem.{WorldItem}
use Rattle.wit_model.specs.declared.world.WorldItem.TheVariants as entry
use Rattle.wit_model.proofs.AllLemmas.{all_at}
use Rattle.type_facts.specs.declared.info.TypeInfo.{TypeInfo}
use Rattle.type_facts.specs.Facts.{IsInfoOf}
use Rattle.type_facts.specs.Roots.{param_types, result_types}
use Rattle.type_defs.specs.Defined.{are_defined_kinds, is_defined_kind, is_defined_part, is_defined_type}
use Rattle.type_defs.specs.DefinedNames.{AreDefinable}
use Rattle.type_defs.specs.FunctionTypes.{entries_pass, function_passes, functions_pass, item_passes}
use Rattle.type_defs.specs.ListedTypes.{listed_types}
use Rattle.type_defs.specs.Listing.{is_covered_whole}
use Rattle.type_defs.specs.Modes.{is_always_defined, is_owning, is_wanted}
use Rattle.type_defs.specs.Used.{IsUsed, UsesTypes, function_types, is_always_entry, is_wanted_at, uses}
use Rattle.type_defs.proofs.FunctionTypeLemmas.{all-more}
use Rattle.type_defs.proofs.UsedLemmas.{used_is}
use Rattle.gen_accept.specs.declared.opts.Opts.{Opts}
use Rattle.gen_accept.specs.Built.{are_built_options, are_built_tables, is_built_item, is_built_kind, is_built_world, is_empty, is_freestanding, is_no_type, most_cases}
use Rattle.gen_accept.specs.Cause.{is_accepted, is_built}
use Rattle.gen_accept.specs.Emitted.{exported_functions, imported_functions}
use Rattle.gen_accept.specs.TypeOpts.{type_opts}
use Rattle.gen_accept.proofs.CauseLemmas.{accepted-declares, accepted-shallow}
use Rattle.gen_accept.proofs.DeclaredLemmas.{distinct_fields, distinct_members, distinct_types}
use Rattle.gen_accept.proofs.FunctionLemmas.{exports-within, imports-within, param-types-below, result-below}
use Rattle.gen_accept.proofs.ListedNameLemmas.{all-contained, covers, functions-covered, listed-is-named, named-definition}
use Rattle.gen_accept.proofs.RootLemmas.{OfFunction, function-types-pass, of-export, of-import}
use Rattle.gen_accept.proofs.WithinLemmas.{listed-within}

defined-kind : (kind : TypeDefKind) → is_built_kind kind ≡ true → is_defined_kind kind ≡ true
defined-kind (kind.Alias ty) h = refl
defined-kind (kind.Record fields) h = refl
defined-kind (kind.Tuple members) h = refl
defined-kind (kind.Option ty) h = refl
defined-kind (kind.Result ok err) h = refl
defined-kind (kind.Variant cases) h = refl
defined-kind (kind.Enum cases) h = refl
defined-kind (kind.Flags members) h = h
defined-kind _ h = absurd (cc)

defined-kinds : (types : List TypeDef) → list_all (λ t. is_built_kind t.kind) types ≡ true → are_defined_kinds types ≡ true
defined-kinds [] h = refl
defined-kinds (t ∷ types) h =
    let parts = and_parts (is_built_kind t.kind) (list_all (λ t. is_built_kind t.kind) types) h in
    and_from (is_defined_kind t.kind) (are_defined_kinds types) (defined-kind t.kind parts.0) (defined-kinds types parts.1)

-- no part of them is an error context

defined-parts : (kind : TypeDefKind) → is_built_kind kind ≡ true → list_all is_defined_part (parts kind) ≡ true
unfolding parts
defined-parts (kind.Alias ty) h = and_from (is_defined_type ty) true h refl
defined-parts (kind.Record fields) h = list_all-map is_defined_part (λ f. Some f.ty) fields ∙ h
defined-parts (kind.Tuple members) h = list_all-map is_defined_part (λ ty. Some ty) members ∙ h
defined-parts (kind.Option ty) h = and_from (is_defined_type ty) true h refl
defined-parts (kind.Result ok err) h =
    let both = and_parts (is_defined_part ok) (is_defined_part err) h in and_from (is_defined_part ok) (is_defined_part err && true) both.0 (and_from (is_defined_part err) true both.1 refl)
defined-parts (kind.Variant cases) h =
    list_all-map is_defined_part (λ c. c.ty) cases ∙ (and_parts (nat_le (length cases) most_cases) (list_all (λ c. is_defined_part c.ty) cases) h).1
defined-parts (kind.Enum cases) h = refl
defined-parts (kind.Flags members) h = refl
defined-parts _ h = absurd (cc)

-- the types of a built world's functions are built

item-types : (i : WorldItem) → is_built_item i ≡ true → item_passes is_defined_type i ≡ true
item-types (entry.Interface id) h = refl
item-types (entry.Named id) h = refl
item-types (entry.Function f) h = (and_parts (is_freestanding f.kind) (function_passes is_defined_type f) h).1

world-types : (world : World) → is_built_world world ≡ true → functions_pass is_defined_type world ≡ true
unfolding is_built_world
world-types world h =
    let items = and_parts (list_all (λ entry. is_built_item entry.1) world.imports) (list_all (λ entry. is_built_item entry.1) world.exports)
    (and_parts _ (list_all (λ entry. is_no_type entry.1) world.exports) h).0 in
    and_from (entries_pass is_defined_type world.imports) (entries_pass is_defined_type world.exports)
    (all-more (λ e. is_built_item e.1) (λ e. item_passes is_defined_type e.1) (λ e. item-types e.1) world.imports items.0)
    (all-more (λ e. is_built_item e.1) (λ e. item_passes is_defined_type e.1) (λ e. item-types e.1) world.exports items.1)

module _ (opts : Opts) (r : Resolve) (id : WorldId) (world : World) (checked : IsWellFormed r) (built : is_built opts r ≡ true) (accepted : is_accepted opts r world ≡ true) (found : slice_get r.worlds id.0 ≡ Some world) where
  tables : (list_all (λ t. is_built_kind t.kind) r.types ≡ true) × (list_all is_built_world r.worlds ≡ true)
  unfolding is_built are_built_tables
  tables =
      let kinds = list_all (λ t. is_built_kind t.kind) r.types in
      let both = and_parts (is_empty r.interfaces && kinds) (list_all is_built_world r.worlds) (and_parts (are_built_tables r) (are_built_options opts) built).0 in
      ((and_parts (is_empty r.interfaces) kinds both.0).1, both.1)

  pub built-kinds : list_all (λ t. is_built_kind t.kind) r.types ≡ true
  built-kinds = tables.0

  pub built-world : is_built_world world ≡ true
  built-world = all_at is_built_world r.worlds id.0 world tables.1 found

  owning : is_owning opts.ownership ≡ true
  unfolding is_built are_built_options
  owning = (and_parts _ (is_owning opts.ownership) (and_parts (are_built_tables r) (are_built_options opts) built).1).1

  wants : (type : TypeId) (entry : TypeDef) (info : TypeInfo) → Contains (listed_types world) type → slice_get r.types type.0 ≡ Some entry → IsInfoOf r id type info → is_wanted (type_opts opts) info entry.kind ≡ true
      → is_wanted_at (type_opts opts) r world type.0 ≡ true
  wants type entry info among at facts wanted =
      ap (λ o. is_always_entry o || (uses r world type.0 || opts.generate_unused_types)) at
      ∙ sym (ap (λ b. is_always_defined entry.kind || (b || opts.generate_unused_types)) (used_is r id world type info (accepted-shallow opts r world accepted) found (listed-is-named opts r id world checked accepted found type among) facts)) ∙ wanted

  pub definable : AreDefinable (type_opts opts) r id world
  definable = record {
    checked = checked;
    found = found;
    shallow = accepted-shallow opts r world accepted;
    kinds = defined-kinds r.types tables.0;
    parts = all-more (λ (t : TypeDef). is_built_kind t.kind) (λ t. list_all is_defined_part (parts t.kind)) (λ t. defined-parts t.kind) r.types tables.0;
    owning = owning;
    covered = λ ty among.
        covers opts r id world checked accepted found ty
        (all-contained (is_covered_whole r.types (listed_types world)) (function_types r world) ty
        (function-types-pass (is_covered_whole r.types (listed_types world)) r world built-world (functions-covered opts r id world checked accepted found)) among);
    apart = distinct_types opts r world (accepted-declares opts r world accepted);
    fields = distinct_fields opts r world (accepted-declares opts r world accepted);
    members = distinct_members opts r world (accepted-declares opts r world accepted);
    within = listed-within r id.0 world checked found;
    named = λ type entry info among at facts wanted. named-definition opts r id world checked accepted found type among (wants type entry info among at facts wanted);
  }

  -- the types of its functions

  functions-defined : functions_pass is_defined_type world ≡ true
  functions-defined = world-types world built-world

  types-pass : list_all is_defined_type (function_types r world) ≡ true
  types-pass = function-types-pass is_defined_type r world built-world functions-defined

  used-type : (ty : WitType) → Contains (function_types r world) ty → type_below (length r.types) ty ≡ true → IsUsed r world ty
  used-type ty among below = record { used = among; below = below; defined = all-contained is_defined_type (function_types r world) ty types-pass among }

  -- of a function in range
  type-within : (f : Function) → function_in_range r f ≡ true → (ty : WitType) → OfFunction f ty → type_below (length r.types) ty ≡ true
  unfolding payload_below
  type-within f within ty (inl c) = all-contained (type_below (length r.types)) (param_types f) ty (param-types-below r f within) c
  type-within f within ty (inr c) = answer f.result (result-below r f within) c
    where
      answer : (o : Option WitType) → payload_below (length r.types) o ≡ true → Contains (option_to_list o) ty → type_below (length r.types) ty ≡ true
      answer None h c = absurd (omega (arith, c.1))
      answer (Some t) h c = all-contained (type_below (length r.types)) (t ∷ []) ty (and_from (type_below (length r.types) t) true h refl) c

  uses-types : (f : Function) → function_in_range r f ≡ true → ((ty : WitType) → OfFunction f ty → Contains (function_types r world) ty) → UsesTypes r world f
  uses-types f within among ty c =
      let of = Contains-append_cases (param_types f) (result_types f) ty c in
      used-type ty (among ty of) (type-within f within ty of)

  pub imported-types : (nth : ℕ) (f : Function) → slice_get (imported_functions world) nth ≡ Some f → UsesTypes r world f
  imported-types nth f at = uses-types f (imports-within r id.0 world checked found nth f at) (λ ty of. of-import r world nth f ty of at)

  pub exported-types : (nth : ℕ) (f : Function) → slice_get (exported_functions world) nth ≡ Some f → UsesTypes r world f
  exported-types nth f at = uses-types f (exports-within r id.0 world checked found nth f at) (λ ty of. of-export r world nth f ty of at)
