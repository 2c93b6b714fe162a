-- The types of a built world's functions are those of its roots: what each of them passes the roots pass, and each stands among them.
use Rattle.std.proofs.Common.{◌≡◌, ℕ, zero, suc, ◌⊎◌, inl, inr, Bool, true, List, [], ◌∷◌, ◌++◌, Option, None, Some, refl, subst, ◌∙◌}
use Rattle.std.specs.Prelude.{slice_get}
use Rattle.std.specs.List.{Contains, list_all}
use Rattle.std.specs.Option.{option_to_list}
use Rattle.std.proofs.lemmas.Bool.{and_from, and_parts}
use Rattle.std.proofs.lemmas.List.Elements.{Contains-append_left, Contains-append_right}
use Rattle.std.proofs.lemmas.List.Folds.{list_all-append, list_all-map}
use Rattle.wit_model.specs.declared.function.Function.{Function}
use Rattle.wit_model.specs.declared.resolve.Resolve.{Resolve}
use Rattle.wit_model.specs.declared.types.TypeDef.{TypeDef}
use Rattle.wit_model.specs.declared.types.WitType.{WitType}
use Rattle.wit_model.specs.declared.world.World.{World}
use Rattle.wit_model.specs.declared.world.WorldItem.TheVariants as entry
use Rattle.type_facts.specs.Roots.{Roots, both, export_side, function_roots, import_side, item_roots, listed_roots, param_types, result_types}
use Rattle.type_defs.specs.FunctionTypes.{entries_pass, function_passes, functions_pass, item_passes, passes_or_none}
use Rattle.type_defs.specs.ListedTypes.{Entries}
use Rattle.type_defs.specs.Used.{function_types}
use Rattle.gen_accept.specs.Built.{is_built_item, is_built_world, is_no_type}
use Rattle.gen_accept.specs.Emitted.{exported_functions, functions_in, imported_functions}

-- 1. What the types of functions pass

module _ (test : WitType → Bool) where
  abbrev AllPass : List WitType → Type 0
  AllPass types = list_all test types ≡ true

  both-pass : (xs ys : List WitType) → AllPass xs → AllPass ys → AllPass (xs ++ ys)
  both-pass xs ys h g = list_all-append test xs ys ∙ and_from (list_all test xs) (list_all test ys) h g

  record RootsPass (roots : Roots) : Type 0 where
    borrowed : AllPass roots.borrowed
    owned : AllPass roots.owned

  joined : (a b : Roots) → RootsPass a → RootsPass b → RootsPass (both a b)
  joined a b h g = record { borrowed = both-pass a.borrowed b.borrowed h.borrowed g.borrowed; owned = both-pass a.owned b.owned h.owned g.owned }

  none-pass : RootsPass (record { borrowed = []; owned = []; error = [] })
  none-pass = record { borrowed = refl; owned = refl }

  result-pass : (answer : Option WitType) → passes_or_none test answer ≡ true → AllPass (option_to_list answer)
  result-pass None h = refl
  result-pass (Some ty) h = and_from (test ty) true h refl

  params-pass : (f : Function) → function_passes test f ≡ true → AllPass (param_types f)
  params-pass f h = list_all-map test (λ p. p.ty) f.params ∙ (and_parts (list_all (λ p. test p.ty) f.params) (passes_or_none test f.result) h).0

  answer-pass : (f : Function) → function_passes test f ≡ true → AllPass (result_types f)
  answer-pass f h = result-pass f.result (and_parts (list_all (λ p. test p.ty) f.params) (passes_or_none test f.result) h).1

  import-pass : (types : List TypeDef) (f : Function) → function_passes test f ≡ true → RootsPass (function_roots types import_side f)
  import-pass types f h = record { borrowed = params-pass f h; owned = answer-pass f h }

  export-pass : (types : List TypeDef) (f : Function) → function_passes test f ≡ true → RootsPass (function_roots types export_side f)
  export-pass types f h = record { borrowed = refl; owned = both-pass (param_types f) (result_types f) (params-pass f h) (answer-pass f h) }

  -- no entry is an interface, so the roots are those of the functions
  listed-pass : (r : Resolve) (side : _) (entries : Entries) → ((f : Function) → function_passes test f ≡ true → RootsPass (function_roots r.types side f))
      → list_all (λ entry. is_built_item entry.1) entries ≡ true → entries_pass test entries ≡ true → RootsPass (listed_roots r side entries)
  listed-pass r side [] each built h = none-pass
  listed-pass r side ((k, entry.Function f) ∷ entries) each built h =
      let parts = and_parts (function_passes test f) (entries_pass test entries) h in
      let rest = (and_parts (is_built_item (entry.Function f)) (list_all (λ entry. is_built_item entry.1) entries) built).1 in
      joined (function_roots r.types side f) (listed_roots r side entries) (each f parts.0) (listed-pass r side entries each rest parts.1)
  listed-pass r side ((k, entry.Named id) ∷ entries) each built h =
      let rest = (and_parts (is_built_item (entry.Named id)) (list_all (λ entry. is_built_item entry.1) entries) built).1 in
      joined (record { borrowed = []; owned = []; error = [] }) (listed_roots r side entries) none-pass (listed-pass r side entries each rest (and_parts (item_passes test (entry.Named id)) (entries_pass test entries) h).1)
  listed-pass r side ((k, entry.Interface id) ∷ entries) each built h = absurd (cc)

  -- what the types of a built world's functions pass all of `function_types` pass
  pub function-types-pass : (r : Resolve) (world : World) → is_built_world world ≡ true → functions_pass test world ≡ true → list_all test (function_types r world) ≡ true
  unfolding is_built_world
  function-types-pass r world built h =
      let items = and_parts (list_all (λ entry. is_built_item entry.1) world.imports) (list_all (λ entry. is_built_item entry.1) world.exports)
      (and_parts _ (list_all (λ entry. is_no_type entry.1) world.exports) built).0 in
      let sides = and_parts (entries_pass test world.imports) (entries_pass test world.exports) h in
      let imports = listed_roots r import_side world.imports in
      let exports = listed_roots r export_side world.exports in
      let all = joined imports exports (listed-pass r import_side world.imports (import-pass r.types) items.0 sides.0) (listed-pass r export_side world.exports (export-pass r.types) items.1 sides.1) in
      both-pass (both imports exports).borrowed (both imports exports).owned all.borrowed all.owned

-- 2. The types of a function stand among them

abbrev InRoots : Roots → WitType → Type 0
InRoots roots ty = Contains roots.borrowed ty ⊎ Contains roots.owned ty

in-left : (a b : Roots) (ty : WitType) → InRoots a ty → InRoots (both a b) ty
in-left a b ty (inl c) = inl (Contains-append_left a.borrowed b.borrowed ty c)
in-left a b ty (inr c) = inr (Contains-append_left a.owned b.owned ty c)

in-right : (a b : Roots) (ty : WitType) → InRoots b ty → InRoots (both a b) ty
in-right a b ty (inl c) = inl (Contains-append_right a.borrowed b.borrowed ty c)
in-right a b ty (inr c) = inr (Contains-append_right a.owned b.owned ty c)

abbrev pub OfFunction : Function → WitType → Type 0
OfFunction f ty = Contains (param_types f) ty ⊎ Contains (result_types f) ty

in-import : (types : List TypeDef) (f : Function) (ty : WitType) → OfFunction f ty → InRoots (function_roots types import_side f) ty
in-import types f ty (inl c) = inl c
in-import types f ty (inr c) = inr c

in-export : (types : List TypeDef) (f : Function) (ty : WitType) → OfFunction f ty → InRoots (function_roots types export_side f) ty
in-export types f ty (inl c) = inr (Contains-append_left (param_types f) (result_types f) ty c)
in-export types f ty (inr c) = inr (Contains-append_right (param_types f) (result_types f) ty c)

in-listed : (r : Resolve) (side : _) (entries : Entries) → ((f : Function) (ty : WitType) → OfFunction f ty → InRoots (function_roots r.types side f) ty)
    → (nth : ℕ) (f : Function) (ty : WitType) → slice_get (functions_in entries) nth ≡ Some f → OfFunction f ty → InRoots (listed_roots r side entries) ty
in-listed r side [] each nth f ty at of = absurd (cc)
in-listed r side ((k, entry.Interface id) ∷ entries) each nth f ty at of = in-right (item_roots r side (entry.Interface id)) (listed_roots r side entries) ty (in-listed r side entries each nth f ty at of)
in-listed r side ((k, entry.Named id) ∷ entries) each nth f ty at of = in-right (item_roots r side (entry.Named id)) (listed_roots r side entries) ty (in-listed r side entries each nth f ty at of)
in-listed r side ((k, entry.Function g) ∷ entries) each (suc nth) f ty at of = in-right (function_roots r.types side g) (listed_roots r side entries) ty (in-listed r side entries each nth f ty at of)
in-listed r side ((k, entry.Function g) ∷ entries) each zero f ty at of =
    let is : f ≡ g = cc in
    in-left (function_roots r.types side g) (listed_roots r side entries) ty (each g ty (subst (λ h. OfFunction h ty) is of))

in-world : (r : Resolve) (world : World) (ty : WitType) → InRoots (both (listed_roots r import_side world.imports) (listed_roots r export_side world.exports)) ty → Contains (function_types r world) ty
in-world r world ty at = by at
  where
    all : Roots
    all = both (listed_roots r import_side world.imports) (listed_roots r export_side world.exports)

    by : InRoots all ty → Contains (function_types r world) ty
    by (inl c) = Contains-append_left all.borrowed all.owned ty c
    by (inr c) = Contains-append_right all.borrowed all.owned ty c

-- the types of an imported, and of an exported function
module _ (r : Resolve) (world : World) (nth : ℕ) (f : Function) (ty : WitType) (of : OfFunction f ty) where
  pub of-import : slice_get (imported_functions world) nth ≡ Some f → Contains (function_types r world) ty
  of-import at = in-world r world ty (in-left (listed_roots r import_side world.imports) (listed_roots r export_side world.exports) ty (in-listed r import_side world.imports (in-import r.types) nth f ty at of))

  pub of-export : slice_get (exported_functions world) nth ≡ Some f → Contains (function_types r world) ty
  of-export at = in-world r world ty (in-right (listed_roots r import_side world.imports) (listed_roots r export_side world.exports) ty (in-listed r export_side world.exports (in-export r.types) nth f ty at of))
