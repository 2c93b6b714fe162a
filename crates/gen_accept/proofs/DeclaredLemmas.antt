-- What is known of the names of a world of which none clashes.
use Rattle.std.proofs.Common.{◌≡◌, ℕ, zero, suc, Bool, true, false, cond, not, ◌&&◌, ◌||◌, List, [], ◌∷◌, ◌++◌, Option, Some, None, map, refl, sym, ap, ◌∙◌, subst}
use Rattle.std.specs.List.{flat_map, list_all, list_any, slice_get}
use Rattle.std.specs.Option.{is_none}
use Rattle.std.specs.Str.{bytes_eq}
use Rattle.std.proofs.lemmas.Bool.{and_from, and_parts, or_left, or_right}
use Rattle.std.proofs.lemmas.List.Folds.{list_all-map, list_any-append}
use Rattle.std.proofs.lemmas.Slice.Eq.{bytes_eq-Decides}
use Rattle.wit_model.specs.declared.function.Function.{Function}
use Rattle.wit_model.specs.declared.world.World.{World}
use Rattle.wit_model.specs.Bytes.{Bytes}
use Rattle.wit_model.specs.Distinct.{is_distinct}
use Rattle.wit_model.proofs.InRange.{neither}
use Rattle.rust_tree.specs.Ident.{is_ident, is_type_name, rust_ident}
use Rattle.gen_accept.specs.declared.declared.Declared.{Declared}
use Rattle.gen_accept.specs.declared.declared.NameScope.{NameScope}
use Rattle.gen_accept.specs.declared.declared.Sort.TheVariants.{Type_, WorldType, Value, Macro}
use Rattle.gen_accept.specs.declared.declared.Space.{Space}
use Rattle.gen_accept.specs.declared.declared.Space.TheVariants.{Types, Values, Macros}
use Rattle.gen_accept.specs.declared.error.Clash.{Clash}
use Rattle.gen_accept.specs.Clash.{clash_behind, clash_in, first_clash, is_name, is_same, is_same_space, space}
use Rattle.gen_accept.specs.DeclaredNames.{all_declared, among_types, area_idents, area_type_idents, declared, declared_names, declares_well, export_ident, field_scope, macro_idents, member_scope, module_scope, outside_idents, param_idents, param_scope, return_names, runtime_ident, trait_idents, trait_scope, where_exported}
use Rattle.type_defs.specs.PrintedTypes.{field_names, member_names, type_name}
use Rattle.type_defs.specs.Used.{defined_types}
use Rattle.gen_accept.specs.declared.opts.Opts.{Opts}
use Rattle.gen_accept.specs.TypeOpts.{type_opts}
use Rattle.wit_model.specs.declared.resolve.Resolve.{Resolve}
use Rattle.wit_model.specs.declared.types.TypeDef.{TypeDef}
use Rattle.gen_accept.specs.Emitted.{exported_functions, imported_functions}

-- names of which none clashes

clear : (a b : Bool) (x y : Clash) (rest : Option Clash) → cond a (Some x) (cond b rest (Some y)) ≡ None → (a ≡ false) × (b ≡ true) × (rest ≡ None)
clear true b x y rest h = cc
clear false true x y rest h = (refl, refl, h)
clear false false x y rest h = cc

still-clear : (a b : Bool) (x y : Clash) (rest : Option Clash) → a ≡ false → b ≡ true → rest ≡ None → cond a (Some x) (cond b rest (Some y)) ≡ None
still-clear a b x y rest new name none = rw (new, name) none

module _ (scope : NameScope) where
  abbrev NoneClashes : List Declared → List Declared → Type 0
  NoneClashes earlier names = clash_behind scope earlier names ≡ None

  -- the first is apart from the earlier ones and an identifier, and the rest goes on
  first-clear : (earlier : List Declared) (d : Declared) (names : List Declared) → NoneClashes earlier (d ∷ names)
      → (list_any (is_same d) earlier ≡ false) × (is_name d ≡ true) × NoneClashes (earlier ++ d ∷ []) names
  first-clear earlier d names h = clear (list_any (is_same d) earlier) (is_name d) _ _ (clash_behind scope (earlier ++ d ∷ []) names) h

  all-idents : (earlier names : List Declared) → NoneClashes earlier names → list_all (λ d. is_name d) names ≡ true
  all-idents earlier [] h = refl
  all-idents earlier (d ∷ names) h =
      let parts = first-clear earlier d names h in
      and_from (is_name d) (list_all (λ d. is_name d) names) parts.1 (all-idents (earlier ++ d ∷ []) names parts.2)

  -- of two lists behind one another none clashes in either
  in-parts : (earlier xs ys : List Declared) → NoneClashes earlier (xs ++ ys) → NoneClashes earlier xs × ((between : List Declared) × NoneClashes between ys)
  in-parts earlier [] ys h = (refl, (earlier, h))
  in-parts earlier (d ∷ xs) ys h =
      let parts = first-clear earlier d (xs ++ ys) h in
      let rest = in-parts (earlier ++ d ∷ []) xs ys parts.2 in
      (still-clear (list_any (is_same d) earlier) (is_name d) _ _ (clash_behind scope (earlier ++ d ∷ []) xs) parts.0 parts.1 rest.0, rest.1)

-- a name in a space
abbrev has : Space → Bytes → List Declared → Bool
has s t names = list_any (λ d. is_same_space (space d.sort) s && bytes_eq d.name t) names

same-space : (a b : Space) → is_same_space a b ≡ true → a ≡ b
same-space Types Types h = refl
same-space Values Values h = refl
same-space Macros Macros h = refl
same-space Types Values h = cc
same-space Types Macros h = cc
same-space Values Types h = cc
same-space Values Macros h = cc
same-space Macros Types h = cc
same-space Macros Values h = cc

-- the names of a space
abbrev names_in : Space → List Declared → List Bytes
names_in s [] = []
names_in s (d ∷ names) = cond (is_same_space (space d.sort) s) (d.name ∷ names_in s names) (names_in s names)

among-them : (s : Space) (t : Bytes) (names : List Declared) → list_any (λ u. bytes_eq u t) (names_in s names) ≡ has s t names
among-them s t [] = refl
among-them s t (d ∷ names) = go (is_same_space (space d.sort) s) refl (among-them s t names)
  where
    go : (b : Bool) → is_same_space (space d.sort) s ≡ b → list_any (λ u. bytes_eq u t) (names_in s names) ≡ has s t names → list_any (λ u. bytes_eq u t) (names_in s (d ∷ names)) ≡ has s t (d ∷ names)
    go true e rest =
        ap (λ b. list_any (λ u. bytes_eq u t) (cond b (d.name ∷ names_in s names) (names_in s names))) e ∙ ap (λ b. bytes_eq d.name t || b) rest
        ∙ sym (ap (λ b. (b && bytes_eq d.name t) || has s t names) e)
    go false e rest =
        ap (λ b. list_any (λ u. bytes_eq u t) (cond b (d.name ∷ names_in s names) (names_in s names))) e ∙ rest ∙ sym (ap (λ b. (b && bytes_eq d.name t) || has s t names) e)

module _ (scope : NameScope) (s : Space) where
  -- what stands earlier comes no more
  apart : (t : Bytes) (earlier names : List Declared) → NoneClashes scope earlier names → has s t earlier ≡ true → has s t names ≡ false
  apart t earlier [] h e = refl
  apart t earlier (d ∷ names) h e =
      let parts = first-clear scope earlier d names h in
      let rest = apart t (earlier ++ d ∷ []) names parts.2 (list_any-append (λ d. is_same_space (space d.sort) s && bytes_eq d.name t) earlier (d ∷ []) ∙ or_left _ _ e) in
      go (is_same_space (space d.sort) s && bytes_eq d.name t) refl parts.0 rest
    where
      go : (b : Bool) → (is_same_space (space d.sort) s && bytes_eq d.name t) ≡ b → list_any (is_same d) earlier ≡ false → has s t names ≡ false → has s t (d ∷ names) ≡ false
      go false same new rest = ap (λ b. b || has s t names) same ∙ rest
      go true same new rest =
          let both = and_parts (is_same_space (space d.sort) s) (bytes_eq d.name t) same in
          let here : has s t earlier ≡ false =
          ap (λ x. has x t earlier) (sym (same-space (space d.sort) s both.0)) ∙ ap (λ u. has (space d.sort) u earlier) (sym ((bytes_eq-Decides d.name t).0 both.1)) ∙ new in
          cc

  pub distinct_in : (earlier names : List Declared) → NoneClashes scope earlier names → is_distinct (names_in s names) ≡ true
  distinct_in earlier [] h = refl
  distinct_in earlier (d ∷ names) h =
      let parts = first-clear scope earlier d names h in
      go (is_same_space (space d.sort) s) refl parts.2 (distinct_in (earlier ++ d ∷ []) names parts.2)
    where
      go : (b : Bool) → is_same_space (space d.sort) s ≡ b → NoneClashes scope (earlier ++ d ∷ []) names → is_distinct (names_in s names) ≡ true → is_distinct (names_in s (d ∷ names)) ≡ true
      go false e rest distinct = ap (λ b. is_distinct (cond b (d.name ∷ names_in s names) (names_in s names))) e ∙ distinct
      go true e rest distinct =
          let itself : has s d.name (d ∷ []) ≡ true = or_left (is_same_space (space d.sort) s && bytes_eq d.name d.name) false (and_from _ _ e ((bytes_eq-Decides d.name d.name).1 refl)) in
          let there : has s d.name (earlier ++ d ∷ []) ≡ true = list_any-append (λ e. is_same_space (space e.sort) s && bytes_eq e.name d.name) earlier (d ∷ []) ∙ or_right _ _ itself in
          ap (λ b. is_distinct (cond b (d.name ∷ names_in s names) (names_in s names))) e
          ∙ and_from _ _ (ap not (among-them s d.name names ∙ apart d.name (earlier ++ d ∷ []) names rest there)) distinct

-- what functions and texts are declared as

declared-all : {A : Type 0} (g : A → Bytes) (xs : List A) → list_all (λ d. is_name d) (map (λ x. declared Value (g x)) xs) ≡ list_all (λ x. is_ident (g x)) xs
declared-all g [] = refl
declared-all g (x ∷ xs) = ap (λ b. is_ident (g x) && b) (declared-all g xs)

values : {A : Type 0} (g : A → Bytes) (xs : List A) → names_in Values (map (λ x. declared Value (g x)) xs) ≡ map g xs
values g [] = refl
values g (x ∷ xs) = ap (λ names. g x ∷ names) (values g xs)

values-among-types : (fs : List Function) → names_in Values (flat_map (λ f. among_types (export_ident f)) fs) ≡ map export_ident fs
values-among-types [] = refl
values-among-types (f ∷ fs) = ap (λ names. export_ident f ∷ names) (values-among-types fs)

exports-all : (fs : List Function) → list_all (λ d. is_name d) (flat_map (λ f. among_types (export_ident f)) fs) ≡ true → list_all is_ident (map export_ident fs) ≡ true
exports-all [] h = refl
exports-all (f ∷ fs) h =
    let parts = and_parts (is_ident (export_ident f)) _ h in
    and_from _ _ parts.0 (exports-all fs (and_parts (is_ident (export_ident f)) _ parts.1).1)

macros-all : (names : List Bytes) → list_all (λ d. is_name d) (all_declared Macro names) ≡ list_all is_ident names
macros-all [] = refl
macros-all (n ∷ names) = ap (λ b. is_ident n && b) (macros-all names)

types-all : (names : List Bytes) → list_all (λ d. is_name d) (all_declared WorldType names) ≡ list_all is_type_name names
types-all [] = refl
types-all (n ∷ names) = ap (λ b. is_type_name n && b) (types-all names)

texts-all : (names : List Bytes) → list_all (λ d. is_name d) (all_declared Value names) ≡ list_all is_ident names
texts-all [] = refl
texts-all (n ∷ names) = ap (λ b. is_ident n && b) (texts-all names)

-- scopes

no-clash : (xs ys : List NameScope) → first_clash (xs ++ ys) ≡ None → (first_clash xs ≡ None) × (first_clash ys ≡ None)
no-clash [] ys h = (refl, h)
no-clash (x ∷ xs) ys h =
    let parts = neither (clash_in x) (first_clash (xs ++ ys)) h in
    let rest = no-clash xs ys parts.1 in
    (rw parts.0 rest.0, rest.1)

params-all : (fs : List Function) → first_clash (map param_scope fs) ≡ None → list_all (λ f. list_all is_ident (param_idents f)) fs ≡ true
params-all [] h = refl
params-all (f ∷ fs) h =
    let parts = neither (clash_in (param_scope f)) (first_clash (map param_scope fs)) h in
    and_from _ _ (list_all-idents f (all-idents (param_scope f) [] (param_scope f).names parts.0)) (params-all fs parts.1)
  where
    list_all-idents : (f : Function) → list_all (λ d. is_name d) (map (λ p. declared Value (rust_ident p.name)) f.params) ≡ true → list_all is_ident (param_idents f) ≡ true
    list_all-idents f h = list_all-map is_ident (λ p. rust_ident p.name) f.params ∙ sym (declared-all (λ p. rust_ident p.name) f.params) ∙ h

params-distinct : (fs : List Function) (nth : ℕ) (f : Function) → first_clash (map param_scope fs) ≡ None → slice_get fs nth ≡ Some f → is_distinct (param_idents f) ≡ true
params-distinct [] nth f h e = absurd (cc)
params-distinct (g ∷ fs) zero f h e =
    let is : g ≡ f = cc in
    let parts = neither (clash_in (param_scope g)) (first_clash (map param_scope fs)) h in
    subst (λ f. is_distinct (param_idents f) ≡ true) is (ap is_distinct (sym (values (λ p. rust_ident p.name) g.params)) ∙ distinct_in (param_scope g) Values [] (param_scope g).names parts.0)
params-distinct (g ∷ fs) (suc nth) f h e = params-distinct fs nth f (neither (clash_in (param_scope g)) (first_clash (map param_scope fs)) h).1 e

fields-all : (types : List TypeDef) → first_clash (map field_scope types) ≡ None → list_all (λ t. list_all is_ident (field_names t.kind)) types ≡ true
fields-all [] h = refl
fields-all (t ∷ types) h =
    let parts = neither (clash_in (field_scope t)) (first_clash (map field_scope types)) h in
    and_from _ _ (sym (texts-all (field_names t.kind)) ∙ all-idents (field_scope t) [] (field_scope t).names parts.0) (fields-all types parts.1)

members-all : (types : List TypeDef) → first_clash (map member_scope types) ≡ None → list_all (λ t. list_all is_ident (member_names t.kind)) types ≡ true
members-all [] h = refl
members-all (t ∷ types) h =
    let parts = neither (clash_in (member_scope t)) (first_clash (map member_scope types)) h in
    and_from _ _ (sym (texts-all (member_names t.kind)) ∙ all-idents (member_scope t) [] (member_scope t).names parts.0) (members-all types parts.1)

texts-values : (names : List Bytes) → names_in Values (all_declared Value names) ≡ names
texts-values [] = refl
texts-values (n ∷ names) = ap (λ ns. n ∷ ns) (texts-values names)

types-in : (names : List Bytes) → names_in Types (all_declared WorldType names) ≡ names
types-in [] = refl
types-in (n ∷ names) = ap (λ ns. n ∷ ns) (types-in names)

fields-distinct : (types : List TypeDef) → first_clash (map field_scope types) ≡ None → list_all (λ t. is_distinct (field_names t.kind)) types ≡ true
fields-distinct [] h = refl
fields-distinct (t ∷ types) h =
    let parts = neither (clash_in (field_scope t)) (first_clash (map field_scope types)) h in
    and_from _ _ (ap is_distinct (sym (texts-values (field_names t.kind))) ∙ distinct_in (field_scope t) Values [] (field_scope t).names parts.0) (fields-distinct types parts.1)

members-distinct : (types : List TypeDef) → first_clash (map member_scope types) ≡ None → list_all (λ t. is_distinct (member_names t.kind)) types ≡ true
members-distinct [] h = refl
members-distinct (t ∷ types) h =
    let parts = neither (clash_in (member_scope t)) (first_clash (map member_scope types)) h in
    and_from _ _ (ap is_distinct (sym (texts-values (member_names t.kind))) ∙ distinct_in (member_scope t) Values [] (member_scope t).names parts.0) (members-distinct types parts.1)

is-none : {A : Type 0} (o : Option A) → is_none o ≡ true → o ≡ None
is-none None h = refl
is-none (Some x) h = cc

module _ (opts : Opts) (r : Resolve) (world : World) (h : declares_well opts r world ≡ true) where
  abbrev imports : List Function
  imports = imported_functions world

  abbrev exports : List Function
  exports = exported_functions world

  abbrev defined : List TypeDef
  defined = defined_types (type_opts opts) r world

  abbrev root : NameScope
  root = module_scope r.types world defined imports exports

  abbrev of_functions : List NameScope
  of_functions = trait_scope exports ∷ map param_scope imports ++ map param_scope exports

  scopes-clear : (clash_in root ≡ None) × (first_clash (map field_scope defined) ≡ None) × (clash_in (trait_scope exports) ≡ None) × (first_clash (map param_scope imports) ≡ None)
      × (first_clash (map param_scope exports) ≡ None) × (first_clash (map member_scope defined) ≡ None)
  unfolding declares_well
  scopes-clear =
      let all = neither (clash_in root) (first_clash (map field_scope defined ++ (map member_scope defined ++ of_functions))) (is-none (first_clash (declared_names opts r world)) h) in
      let inner = no-clash (map field_scope defined) (map member_scope defined ++ of_functions) all.1 in
      let behind = no-clash (map member_scope defined) of_functions inner.1 in
      let functions = neither (clash_in (trait_scope exports)) (first_clash (map param_scope imports ++ map param_scope exports)) behind.1 in
      let params = no-clash (map param_scope imports) (map param_scope exports) functions.1 in
      (all.0, inner.0, functions.0, params.0, params.1, behind.0)

  abbrev macros : List Declared
  macros = all_declared Macro (where_exported exports (macro_idents world))

  abbrev behind_exports : List Declared
  behind_exports = flat_map (return_names r.types) exports ++ (all_declared Value (area_idents r.types exports) ++ macros)

  abbrev behind_imports : List Declared
  behind_imports = flat_map (λ f. among_types (export_ident f)) exports ++ behind_exports

  abbrev behind_types : List Declared
  behind_types =
      all_declared Type_ (trait_idents exports) ++ (all_declared Type_ (area_type_idents r.types imports exports)
      ++ (all_declared Type_ (outside_idents defined) ++ (map (λ f. declared Value (rust_ident f.name)) imports ++ behind_imports)))

  -- the types of the world, behind the module of runtime items
  root-types : (between : List Declared) × NoneClashes root between (all_declared WorldType (map type_name defined)) × ((later : List Declared) × NoneClashes root later behind_types)
  root-types =
      let a = in-parts root [] (all_declared Type_ (runtime_ident ∷ [])) _ scopes-clear.0 in
      let b = in-parts root a.1.0 (all_declared WorldType (map type_name defined)) behind_types a.1.1 in
      (a.1.0, b.0, b.1)

  -- the functions of the root, behind its types
  root-values : (between : List Declared) × NoneClashes root between (map (λ f. declared Value (rust_ident f.name)) imports ++ behind_imports)
  root-values =
      let b = in-parts root root-types.2.0 (all_declared Type_ (trait_idents exports)) _ root-types.2.1 in
      let c = in-parts root b.1.0 (all_declared Type_ (area_type_idents r.types imports exports)) _ b.1.1 in
      (in-parts root c.1.0 (all_declared Type_ (outside_idents defined)) _ c.1.1).1

  values-of-imports : NoneClashes root root-values.0 (map (λ f. declared Value (rust_ident f.name)) imports) × ((between : List Declared) × NoneClashes root between behind_imports)
  values-of-imports = in-parts root root-values.0 (map (λ f. declared Value (rust_ident f.name)) imports) behind_imports root-values.1

  values-of-exports : NoneClashes root values-of-imports.1.0 (flat_map (λ f. among_types (export_ident f)) exports) × ((between : List Declared) × NoneClashes root between behind_exports)
  values-of-exports = in-parts root values-of-imports.1.0 (flat_map (λ f. among_types (export_ident f)) exports) behind_exports values-of-imports.1.1

  pub type_idents : list_all is_type_name (map type_name defined) ≡ true
  type_idents = sym (types-all (map type_name defined)) ∙ all-idents root root-types.0 _ root-types.1

  -- none of them is the module of runtime items
  pub apart_types : list_any (λ u. bytes_eq u runtime_ident) (map type_name defined) ≡ false
  unfolding root-types in-parts
  apart_types =
      let itself : has Types runtime_ident root-types.0 ≡ true = or_left (bytes_eq runtime_ident runtime_ident) false ((bytes_eq-Decides runtime_ident runtime_ident).1 refl) in
      sym (ap (list_any (λ u. bytes_eq u runtime_ident)) (types-in (map type_name defined))) ∙ among-them Types runtime_ident (all_declared WorldType (map type_name defined))
      ∙ apart root Types runtime_ident root-types.0 (all_declared WorldType (map type_name defined)) root-types.1 itself

  pub field_idents : list_all (λ t. list_all is_ident (field_names t.kind)) defined ≡ true
  field_idents = fields-all defined scopes-clear.1

  pub member_idents : list_all (λ t. list_all is_ident (member_names t.kind)) defined ≡ true
  member_idents = members-all defined scopes-clear.5

  pub distinct_types : is_distinct (map type_name defined) ≡ true
  distinct_types = ap is_distinct (sym (types-in (map type_name defined))) ∙ distinct_in root Types root-types.0 _ root-types.1

  pub distinct_fields : list_all (λ t. is_distinct (field_names t.kind)) defined ≡ true
  distinct_fields = fields-distinct defined scopes-clear.1

  pub distinct_members : list_all (λ t. is_distinct (member_names t.kind)) defined ≡ true
  distinct_members = members-distinct defined scopes-clear.5

  pub import_idents : list_all (λ f. is_ident (rust_ident f.name)) imports ≡ true
  import_idents = sym (declared-all (λ f. rust_ident f.name) imports) ∙ all-idents root root-values.0 _ values-of-imports.0

  pub method_idents : list_all (λ f. is_ident (rust_ident f.name)) exports ≡ true
  method_idents = sym (declared-all (λ f. rust_ident f.name) exports) ∙ all-idents (trait_scope exports) [] (trait_scope exports).names scopes-clear.2

  pub export_idents : list_all is_ident (map export_ident exports) ≡ true
  export_idents = exports-all exports (all-idents root values-of-imports.1.0 _ values-of-exports.0)

  pub macro_names : list_all is_ident (where_exported exports (macro_idents world)) ≡ true
  macro_names =
      let a = in-parts root values-of-exports.1.0 (flat_map (return_names r.types) exports) _ values-of-exports.1.1 in
      let b = in-parts root a.1.0 (all_declared Value (area_idents r.types exports)) macros a.1.1 in
      sym (macros-all (where_exported exports (macro_idents world))) ∙ all-idents root b.1.0 _ b.1.1

  pub import_params : list_all (λ f. list_all is_ident (param_idents f)) imports ≡ true
  import_params = params-all imports scopes-clear.3

  pub export_params : list_all (λ f. list_all is_ident (param_idents f)) exports ≡ true
  export_params = params-all exports scopes-clear.4

  pub distinct_params : (nth : ℕ) (f : Function) → slice_get imports nth ≡ Some f → is_distinct (param_idents f) ≡ true
  distinct_params nth f e = params-distinct imports nth f scopes-clear.3 e

  pub distinct_methods : is_distinct (map (λ f. rust_ident f.name) exports) ≡ true
  distinct_methods = ap is_distinct (sym (values (λ f. rust_ident f.name) exports)) ∙ distinct_in (trait_scope exports) Values [] (trait_scope exports).names scopes-clear.2

  pub distinct_exports : is_distinct (map export_ident exports) ≡ true
  distinct_exports = ap is_distinct (sym (values-among-types exports)) ∙ distinct_in root Values values-of-imports.1.0 _ values-of-exports.0
