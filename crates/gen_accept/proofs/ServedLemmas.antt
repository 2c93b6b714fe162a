-- What the driver makes code for: each type of built tables, and each function of an accepted world, whose parameters have few bytes besides.
use Rattle.std.proofs.Common.{◌≡◌, ℕ, zero, suc, ◌≤◌, ◌<◌, ◌^◌, Bool, true, false, cond, ◌||◌, List, [], ◌∷◌, ◌++◌, length, map, get_or, find, Option, None, Some, is_some, refl, sym, ap, ◌∙◌, arith}
use Rattle.std.specs.Prelude.{nat_le, slice_get}
use Rattle.std.specs.List.{list_all}
use Rattle.std.specs.Option.{option_map}
use Rattle.std.proofs.lemmas.Bool.{and_parts, leb-false, leb-true}
use Rattle.std.proofs.lemmas.List.{length-map}
use Rattle.std.proofs.lemmas.List.Folds.{list_all-map}
use Rattle.wit_model.specs.declared.function.Function.{Function}
use Rattle.wit_model.specs.declared.function.FunctionKind.{FunctionKind}
use Rattle.wit_model.specs.declared.function.FunctionKind.TheVariants as sort
use Rattle.wit_model.specs.declared.types.Case.{Case}
use Rattle.wit_model.specs.declared.types.TypeDef.{TypeDef}
use Rattle.wit_model.specs.declared.types.TypeDefKind.{TypeDefKind}
use Rattle.wit_model.specs.declared.types.TypeDefKind.TheVariants as kind
use Rattle.wit_model.specs.declared.types.WitType.{WitType}
use Rattle.wit_model.specs.declared.types.WitType.TheVariants as wit
use Rattle.wit_model.specs.declared.world.World.{World}
use Rattle.wit_model.specs.declared.world.WorldItem.TheVariants as entry
use Rattle.wit_layout.specs.Sizes.{elem_size}
use Rattle.wit_layout.specs.Tree.{record_of}
use Rattle.wrapper_meaning.specs.Shape.{Shape, bare, nothing, payload_in, payloads_in, shape_by, shape_in, shape_of, shapes, shapes_behind}
use Rattle.abi_bindgen.specs.Parts.{count}
use Rattle.abi_bindgen.specs.Served.{Serves, ServesAll, ServesFunction, ServesResult}
use Rattle.abi_bindgen.proofs.BareCases.{count_bare}
use Rattle.abi_bindgen.proofs.Payloads.{count_payloads}
use Rattle.type_defs.specs.Defined.{is_defined_part, is_defined_type}
use Rattle.type_defs.specs.FunctionTypes.{function_passes, passes_or_none}
use Rattle.type_defs.specs.ListedTypes.{Entries}
use Rattle.gen_accept.specs.Built.{is_built_function, is_built_item, is_built_kind, is_built_world, is_freestanding, is_no_type, most_cases}
use Rattle.gen_accept.specs.Emitted.{exported_functions, functions_in, imported_functions}
use Rattle.gen_accept.specs.TooLarge.{first_large_function, is_large, is_large_function}
use Rattle.gen_accept.proofs.LargeLemmas.{found-behind, found-front}

-- 1. Types

abbrev pub AllServe : List Shape → Type 0
AllServe ss = (nth : ℕ) → Serves (get_or ss nth nothing)

few : (n : ℕ) → nat_le n most_cases ≡ true → n ≤ 2 ^ 31
few n h = leb-true n most_cases h

-- kinds over shapes that are served
module _ (ss : List Shape) (serve : AllServe ss) where
  type-served : (ty : WitType) → is_defined_type ty ≡ true → Serves (shape_in ss ty)
  type-served (wit.Id id) h = serve id.0
  type-served wit.ErrorContext h = absurd (cc)
  type-served _ h = tt

  payload-served : (p : Option WitType) → is_defined_part p ≡ true → Serves (payload_in ss p)
  payload-served None h = tt
  payload-served (Some ty) h = type-served ty h

  payloads-served : (ps : List (Option WitType)) → list_all is_defined_part ps ≡ true → ServesAll (payloads_in ss ps)
  payloads-served [] h = tt
  payloads-served (p ∷ ps) h =
      let both = and_parts (is_defined_part p) (list_all is_defined_part ps) h in (payload-served p both.0, payloads-served ps both.1)

  bare-served : {A : Type 0} (members : List A) → ServesAll (bare members)
  bare-served [] = tt
  bare-served (_ ∷ members) = (tt, bare-served members)

  parts-served : {A : Type 0} (part : A → Option WitType) (members : List A) → list_all (λ m. is_defined_part (part m)) members ≡ true → ServesAll (payloads_in ss (map part members))
  parts-served part members h = payloads-served (map part members) (list_all-map is_defined_part part members ∙ h)

  cases-few : (members : List Case) → nat_le (length members) most_cases ≡ true → count (payloads_in ss (map (λ c. c.ty) members)) ≤ 2 ^ 31
  cases-few members h =
      let many = count_payloads ss (map (λ c. c.ty) members) ∙ length-map members (λ (c : Case). c.ty) in
      omega (arith, many, few (length members) h)

  kind-served : (n : ℕ) (kind : TypeDefKind) → is_built_kind kind ≡ true → Serves (shape_by n ss kind)
  kind-served n (kind.Alias ty) h = type-served ty h
  kind-served n (kind.Tuple members) h = parts-served (λ ty. Some ty) members h
  kind-served n (kind.Record fields) h = parts-served (λ f. Some f.ty) fields h
  kind-served n (kind.Option ty) h = (omega (arith), (tt, (type-served ty h, tt)))
  kind-served n (kind.Result ok err) h =
      let both = and_parts (is_defined_part ok) (is_defined_part err) h in (omega (arith), (payload-served ok both.0, (payload-served err both.1, tt)))
  kind-served n (kind.Variant cases) h =
      let both = and_parts (nat_le (length cases) most_cases) (list_all (λ c. is_defined_part c.ty) cases) h in
      (cases-few cases both.0, parts-served (λ c. c.ty) cases both.1)
  kind-served n (kind.Enum cases) h = (omega (arith, count_bare cases, few (length cases) h), bare-served cases)
  kind-served n (kind.Flags members) h = tt
  kind-served n _ h = absurd (cc)

one-more : (ss : List Shape) → AllServe ss → (s : Shape) → Serves s → AllServe (ss ++ s ∷ [])
one-more [] serve s served zero = served
one-more [] serve s served (suc nth) = tt
one-more (t ∷ ss) serve s served zero = serve 0
one-more (t ∷ ss) serve s served (suc nth) = one-more ss (λ k. serve (suc k)) s served nth

behind-served : (ss : List Shape) → AllServe ss → (types : List TypeDef) → list_all (λ t. is_built_kind t.kind) types ≡ true → AllServe (shapes_behind ss types)
behind-served ss serve [] h = serve
behind-served ss serve (t ∷ types) h =
    let both = and_parts (is_built_kind t.kind) (list_all (λ t. is_built_kind t.kind) types) h in
    let s = shape_by (length ss) ss t.kind in
    behind-served (ss ++ s ∷ []) (one-more ss serve s (kind-served ss serve (length ss) t.kind both.0)) types both.1

-- 2. Functions

free-kind : (k : FunctionKind) → is_freestanding k ≡ true → k ≡ sort.Freestanding
free-kind sort.Freestanding h = refl
free-kind _ h = absurd (cc)

module _ (types : List TypeDef) (built : list_all (λ t. is_built_kind t.kind) types ≡ true) where
  pub table-served : AllServe (shapes types)
  unfolding shapes
  table-served = behind-served [] (λ nth. tt) types built

  result-served : (o : Option WitType) → passes_or_none is_defined_type o ≡ true → ServesResult (option_map (shape_of types) o)
  result-served None h = tt
  result-served (Some ty) h = type-served (shapes types) table-served ty h

  -- one of no resource, whose types can be named in a definition
  pub function-served : (f : Function) → is_built_function f ≡ true → ServesFunction types f
  function-served f h =
      let built = and_parts (is_freestanding f.kind) (function_passes is_defined_type f) h in
      let both = and_parts (list_all (λ p. is_defined_type p.ty) f.params) (passes_or_none is_defined_type f.result) built.1 in
      record {
        plain = free-kind f.kind built.0;
        params = parts-served (shapes types) table-served (λ ty. Some ty) (map (λ p. p.ty) f.params) (list_all-map is_defined_type (λ p. p.ty) f.params ∙ both.0);
        result = result-served f.result both.1;
      }

-- each function of a side is built where its entries are
entry-built : (entries : Entries) → list_all (λ e. is_built_item e.1) entries ≡ true → (nth : ℕ) (f : Function) → slice_get (functions_in entries) nth ≡ Some f → is_built_function f ≡ true
entry-built [] h nth f at = absurd (cc)
entry-built ((k, entry.Interface i) ∷ entries) h nth f at = absurd (let no = h in cc)
entry-built ((k, entry.Named i) ∷ entries) h nth f at = entry-built entries h nth f at
entry-built ((k, entry.Function g) ∷ entries) h zero f at =
    let is : g ≡ f = cc in ap is_built_function (sym is) ∙ (and_parts (is_built_function g) (list_all (λ e. is_built_item e.1) entries) h).0
entry-built ((k, entry.Function g) ∷ entries) h (suc nth) f at = entry-built entries (and_parts (is_built_function g) (list_all (λ e. is_built_item e.1) entries) h).1 nth f at

-- the functions of a world that is built, where its tables are
module _ (types : List TypeDef) (world : World) (built : list_all (λ t. is_built_kind t.kind) types ≡ true) (known : is_built_world world ≡ true) where
  sides : (list_all (λ e. is_built_item e.1) world.imports ≡ true) × (list_all (λ e. is_built_item e.1) world.exports ≡ true)
  unfolding is_built_world
  sides =
      and_parts (list_all (λ e. is_built_item e.1) world.imports) (list_all (λ e. is_built_item e.1) world.exports)
      (and_parts _ (list_all (λ e. is_no_type e.1) world.exports) known).0

  pub imports-served : (nth : ℕ) (f : Function) → slice_get (imported_functions world) nth ≡ Some f → ServesFunction types f
  imports-served nth f at = function-served types built f (entry-built world.imports sides.0 nth f at)

  pub exports-served : (nth : ℕ) (f : Function) → slice_get (exported_functions world) nth ≡ Some f → ServesFunction types f
  exports-served nth f at = function-served types built f (entry-built world.exports sides.1 nth f at)

-- 3. Sizes

not-found : {A : Type 0} (p : A → Bool) (xs : List A) → find p xs ≡ None → (nth : ℕ) (x : A) → slice_get xs nth ≡ Some x → p x ≡ false
not-found p [] none nth x at = absurd (cc)
not-found p (y ∷ xs) none nth x at = go (p y) refl nth at (not-found p xs)
  where
    go : (b : Bool) → p y ≡ b → (nth : ℕ) → slice_get (y ∷ xs) nth ≡ Some x → (find p xs ≡ None → (nth : ℕ) (x : _) → slice_get xs nth ≡ Some x → p x ≡ false) → p x ≡ false
    go true h nth at behind = let wrong : cond true (Some y) (find p xs) ≡ None = sym (ap (λ b. cond b (Some y) (find p xs)) h) ∙ none in absurd (cc)
    go false h zero at behind = let is : y ≡ x = cc in ap p (sym is) ∙ h
    go false h (suc nth) at behind = behind (sym (ap (λ b. cond b (Some y) (find p xs)) h) ∙ none) nth x at

in-neither : {A : Type 0} (p : A → Bool) (xs ys : List A) → find p (xs ++ ys) ≡ None → (find p xs ≡ None) × (find p ys ≡ None)
in-neither p xs ys none = go (find p xs) refl
  where
    go : (o : Option _) → find p xs ≡ o → (find p xs ≡ None) × (find p ys ≡ None)
    go None e = (e, sym (found-behind p xs ys e) ∙ none)
    go (Some x) e = let wrong : Some x ≡ None = sym (found-front p xs ys (ap is_some e) ∙ e) ∙ none in absurd (cc)

first-false : (a b : Bool) → a || b ≡ false → a ≡ false
first-false true b h = absurd (cc)
first-false false b h = refl

-- all parameters as one record have few bytes
abbrev IsSmall : List TypeDef → Function → Type 0
IsSmall types f = elem_size 3 (record_of types (map (λ p. p.ty) f.params)) < 2 ^ 31

small-record : (types : List TypeDef) (f : Function) → is_large_function types f ≡ false → IsSmall types f
small-record types f h = leb-false (2 ^ 31) (elem_size 3 (record_of types (map (λ p. p.ty) f.params))) (first-false (is_large (record_of types (map (λ p. p.ty) f.params))) _ h)

-- where no function is too large, the parameters of each have few bytes as one record
module _ (types : List TypeDef) (world : World) (none : first_large_function types world ≡ None) where
  pub imports-small : (nth : ℕ) (f : Function) → slice_get (imported_functions world) nth ≡ Some f → IsSmall types f
  imports-small nth f at =
      small-record types f (not-found (is_large_function types) (imported_functions world) (in-neither (is_large_function types) (imported_functions world) (exported_functions world) none).0 nth f at)

  pub exports-small : (nth : ℕ) (f : Function) → slice_get (exported_functions world) nth ≡ Some f → IsSmall types f
  exports-small nth f at =
      small-record types f (not-found (is_large_function types) (exported_functions world) (in-neither (is_large_function types) (imported_functions world) (exported_functions world) none).1 nth f at)
