-- The definitions of a world define each type that its functions use as its site says.
use Rattle.std.proofs.Common.{◌≡◌, ℕ, suc, ◌+◌, Bool, true, false, cond, ◌||◌, nat_eq, List, [], ◌∷◌, length, map, filter, Option, None, Some, is_some, refl, sym, ap, ◌∙◌, subst, add-zero, append-nil, arith}
use Rattle.std.specs.Prelude.{IfSome, slice_get}
use Rattle.std.specs.List.{AllByRecursion, enumerate_from, flat_map, list_all}
use Rattle.std.specs.Option.{option_map}
use Rattle.std.proofs.lemmas.Bool.{and_parts, eqb-true, or_left, or_right}
use Rattle.std.proofs.lemmas.List.{length-map}
use Rattle.std.proofs.lemmas.List.Folds.{list_all-append}
use Rattle.wit_model.specs.Distinct.{is_distinct}
use Rattle.wit_model.specs.declared.name.Name.{Name}
use Rattle.wit_model.specs.declared.name.TypeId.{TypeId}
use Rattle.wit_model.specs.declared.name.WorldId.{WorldId}
use Rattle.wit_model.specs.declared.resolve.Resolve.{Resolve}
use Rattle.wit_model.specs.declared.types.Case.{Case}
use Rattle.wit_model.specs.declared.types.Field.{Field}
use Rattle.wit_model.specs.declared.types.Member.{Member}
use Rattle.wit_model.specs.declared.types.TypeDef.{TypeDef}
use Rattle.wit_model.specs.declared.types.TypeDefKind.{TypeDefKind}
use Rattle.wit_model.specs.declared.types.TypeDefKind.TheVariants as kind
use Rattle.wit_model.specs.declared.world.World.{World}
use Rattle.rust_tree.specs.Ident.{rust_ident, type_ident}
use Rattle.rust_tree.specs.declared.item.Item.{Item}
use Rattle.rust_tree.specs.declared.item.Item.TheVariants as item
use Rattle.rust_tree.specs.declared.type_item.TypeItem.{TypeItem}
use Rattle.rust_tree.specs.declared.type_item.TypeItem.TheVariants.{Enum, Flags, Struct, Variant}
use Rattle.type_defs.specs.declared.type_opts.TypeOpts.{TypeOpts}
use Rattle.type_defs.specs.Defined.{AreDefinitions, field_item, kind_items, record_item}
use Rattle.type_defs.specs.DefinedNames.{AreDefinable}
use Rattle.type_defs.specs.ListedTypes.{listed_types}
use Rattle.type_defs.specs.Listing.{lists}
use Rattle.type_defs.specs.PrintedTypes.{entry_at, entry_or_none}
use Rattle.type_defs.specs.PrintedTypes.{field_names as idents_of, member_names}
use Rattle.type_defs.specs.EnumDef.{enum_case, enum_item, enum_repr}
use Rattle.type_defs.specs.FlagsDef.{flags_item, flags_member, flags_repr}
use Rattle.type_defs.specs.VariantDef.{variant_case, variant_item}
use Rattle.type_defs.specs.Used.{is_always_entry, is_wanted_at, uses}
use Rattle.type_defs.proofs.UsedLemmas.{uses_reached}
use Rattle.wrapper_values.specs.Enums.{enum_in}
use Rattle.wrapper_values.specs.Fields.{fields_in, type_named}
use Rattle.wrapper_values.specs.Flags.{flags_in}
use Rattle.func_gen.specs.TypeSites.{AreDefined, Defines, DefinesEnum, DefinesFlags, DefinesRecord, DefinesVariant, HasCaseNames, HasFields, case_names, field_names, held_cases, held_members, variant_in}
use Rattle.type_sites.specs.PrintedLaws.{file_of}
use Rattle.type_sites.specs.SiteLaws.{SitesAreDefined, SitesCanBeDefined}
use Rattle.type_sites.specs.Sites.{enum_site, flags_site, record_site, site_at, site_by, site_of, type_sites, variant_site}
use Rattle.type_sites.proofs.Definitions.{IsDefinedIn, count, definition-of}
use Rattle.type_sites.proofs.SiteLemmas.{unnamed-site}

-- what holds of each entry that some ids name, where they are wanted, holds of one of them
pub wanted-passes : (test : TypeDef → Bool) (types : List TypeDef) (wanted : ℕ → Bool) (ids : List TypeId) (n : ℕ) (t : TypeDef) → list_all test (flat_map (entry_at types) (filter (λ id. wanted id.0) ids)) ≡ true
    → lists ids n ≡ true → wanted n ≡ true → slice_get types n ≡ Some t → test t ≡ true
wanted-passes test types wanted [] n t h l want at = absurd (cc)
wanted-passes test types wanted (i ∷ ids) n t h l want at = go (wanted i.0) refl (nat_eq i.0 n) refl l (λ h l. wanted-passes test types wanted ids n t h l want at)
  where
    rest : List TypeDef
    rest = flat_map (entry_at types) (filter (λ id. wanted id.0) ids)

    all : (b : Bool) → wanted i.0 ≡ b → list_all test (flat_map (entry_at types) (cond b (i ∷ filter (λ id. wanted id.0) ids) (filter (λ id. wanted id.0) ids))) ≡ true
    all b e = sym (ap (λ b. list_all test (flat_map (entry_at types) (cond b (i ∷ filter (λ id. wanted id.0) ids) (filter (λ id. wanted id.0) ids)))) e) ∙ h

    go : (b : Bool) → wanted i.0 ≡ b → (s : Bool) → nat_eq i.0 n ≡ s → (nat_eq i.0 n || lists ids n) ≡ true → (list_all test rest ≡ true → lists ids n ≡ true → test t ≡ true) → test t ≡ true
    go false e true same l further = let no : false ≡ true = sym e ∙ ap wanted (eqb-true i.0 n same) ∙ want in absurd (cc)
    go false e false same l further = further (all false e) (sym (ap (λ b. b || lists ids n) same) ∙ l)
    go true e true same l further =
        let both = and_parts (list_all test (entry_at types i)) (list_all test rest) (sym (list_all-append test (entry_at types i) rest) ∙ all true e) in
        let there : slice_get types i.0 ≡ Some t = ap (slice_get types) (eqb-true i.0 n same) ∙ at in
        (and_parts (test t) true (sym (ap (λ o. list_all test (entry_or_none o)) there) ∙ both.0)).0
    go true e false same l further =
        let both = and_parts (list_all test (entry_at types i)) (list_all test rest) (sym (list_all-append test (entry_at types i) rest) ∙ all true e) in
        further both.1 (sym (ap (λ b. b || lists ids n) same) ∙ l)

module _ (opts : TypeOpts) (r : Resolve) (w : WorldId) (world : World) (d : AreDefinable opts r w world) where
  -- what a function uses is listed, if it has a name
  pub used-listed : (id : TypeId) (t : TypeDef) (name : Name) → uses r world id.0 ≡ true → slice_get r.types id.0 ≡ Some t → t.name ≡ Some name → lists (listed_types world) id.0 ≡ true
  used-listed id t name used at named =
      let from = uses_reached r world id d.shallow used in
      d.covered from.root from.is_root id t from.reached at (ap (λ n. is_some n) named)

  -- and defined
  pub used-wanted : (id : ℕ) → uses r world id ≡ true → is_wanted_at opts r world id ≡ true
  used-wanted id used = or_right (is_always_entry (slice_get r.types id)) (uses r world id || opts.generate_unused_types) (or_left (uses r world id) opts.generate_unused_types used)

module _ (opts : TypeOpts) (r : Resolve) (w : WorldId) (world : World) (defs : List TypeItem) (rest : List Item) (d : AreDefinable opts r w world) (are : AreDefinitions opts r w world defs) where
  abbrev items : List Item
  items = file_of defs rest

  module _ (id : TypeId) (t : TypeDef) (name : Name) (used : uses r world id.0 ≡ true) (at : slice_get r.types id.0 ≡ Some t) (named : t.name ≡ Some name) where
    listed : lists (listed_types world) id.0 ≡ true
    listed = used-listed opts r w world d id t name used at named

    wanted : is_wanted_at opts r world id.0 ≡ true
    wanted = used-wanted opts r w world d id.0 used

    definition : IsDefinedIn r.types items (count opts r w world d defs are rest) id.0 t (type_ident name)
    definition = definition-of opts r w world d defs are rest id.0 t name listed wanted at named

    found : (k : TypeDefKind) (i : TypeItem) → t.kind ≡ k → kind_items r.types definition.info t.docs (type_ident name) k ≡ i ∷ [] → type_named items (type_ident name) ≡ Some i
    found k i is own =
        let both : i ∷ [] ≡ definition.item ∷ [] = sym own ∙ sym (ap (kind_items r.types definition.info t.docs (type_ident name)) is) ∙ definition.is in
        let same : i ≡ definition.item = cc in
        definition.found ∙ ap (λ (i : TypeItem). Some i) (sym same)

    same-names : (fs : List Field) → field_names (map (field_item r.types) fs) ≡ map (λ f. rust_ident f.name) fs
    same-names [] = refl
    same-names (f ∷ fs) = ap (λ names. rust_ident f.name ∷ names) (same-names fs)

    record-defined : (members : List Field) → t.kind ≡ kind.Record members → DefinesRecord items (record_site (type_ident name) members)
    record-defined members is = record { lifted = has-fields; lowered = has-fields; distinct = distinct }
      where
        has-fields : HasFields items (map (λ f. rust_ident f.name) members) (Some (type_ident name))
        has-fields = ap (λ o. option_map field_names (fields_in o)) (found (kind.Record members) (Struct (record_item r.types definition.info t.docs (type_ident name) members)) is refl) ∙ ap (λ names. Some names) (same-names members)

        distinct : is_distinct (map (λ f. rust_ident f.name) members) ≡ true
        distinct =
            sym (ap (λ k. is_distinct (idents_of k)) is)
            ∙ wanted-passes (λ t. is_distinct (idents_of t.kind)) r.types (λ id. is_wanted_at opts r world id) (listed_types world) id.0 t d.fields listed wanted at

    enum-defined : (cases : List Member) → t.kind ≡ kind.Enum cases → DefinesEnum items (enum_site (type_ident name) cases)
    enum-defined cases is =
        ap (λ o. option_map held_cases (enum_in o)) (found (kind.Enum cases) (Enum (enum_item definition.info t.docs (type_ident name) cases)) is refl)
        ∙ ap (λ n. Some (enum_repr (length cases), n)) (length-map cases enum_case)

    flags-defined : (members : List Member) → t.kind ≡ kind.Flags members → DefinesFlags items (flags_site (type_ident name) members)
    flags-defined members is =
        ap (λ o. option_map held_members (flags_in o)) (found (kind.Flags members) (Flags (flags_item t.docs (type_ident name) members)) is refl)
        ∙ ap (λ n. Some (flags_repr (length members), n)) (length-map members flags_member)

    same-cases : (cs : List Case) → map (λ c. c.name) (map (variant_case r.types) cs) ≡ map (λ c. c.name.camel) cs
    same-cases [] = refl
    same-cases (c ∷ cs) = ap (λ names. c.name.camel ∷ names) (same-cases cs)

    variant-defined : (cases : List Case) → t.kind ≡ kind.Variant cases → DefinesVariant items (variant_site (type_ident name) cases)
    variant-defined cases is = record { lifted = has-cases; lowered = has-cases; distinct = distinct }
      where
        has-cases : HasCaseNames items (map (λ c. c.name.camel) cases) (Some (type_ident name))
        has-cases = ap (λ o. option_map case_names (variant_in o)) (found (kind.Variant cases) (Variant (variant_item r.types definition.info t.docs (type_ident name) cases)) is refl) ∙ ap (λ names. Some names) (same-cases cases)

        distinct : is_distinct (map (λ c. c.name.camel) cases) ≡ true
        distinct =
            sym (ap (λ k. is_distinct (member_names k)) is)
            ∙ wanted-passes (λ t. is_distinct (member_names t.kind)) r.types (λ id. is_wanted_at opts r world id) (listed_types world) id.0 t d.members listed wanted at

  -- the site of an entry, if it has one
  entry-defined : (id : TypeId) (t : TypeDef) → slice_get r.types id.0 ≡ Some t → IfSome (site_at r world (id.0, t)) (Defines items)
  entry-defined id t at = go (uses r world id.0) refl t.kind refl t.name refl
    where
      by : (b : Bool) (k : TypeDefKind) (n : Option Name) → uses r world id.0 ≡ b → t.kind ≡ k → t.name ≡ n → IfSome (cond b (site_by k n) None) (Defines items) → IfSome (site_at r world (id.0, t)) (Defines items)
      by b k n used is named h =
          subst (λ o. IfSome o (Defines items)) (sym (ap (λ b. cond b (site_of t) None) used ∙ ap (λ k. cond b (site_by k t.name) None) is ∙ ap (λ n. cond b (site_by k n) None) named)) h

      go : (b : Bool) → uses r world id.0 ≡ b → (k : TypeDefKind) → t.kind ≡ k → (n : Option Name) → t.name ≡ n → IfSome (site_at r world (id.0, t)) (Defines items)
      go false used k is n named = by false k n used is named tt
      go true used (kind.Record members) is (Some name) named = by true (kind.Record members) (Some name) used is named (record-defined id t name used at named members is)
      go true used (kind.Enum cases) is (Some name) named = by true (kind.Enum cases) (Some name) used is named (enum-defined id t name used at named cases is)
      go true used (kind.Flags members) is (Some name) named = by true (kind.Flags members) (Some name) used is named (flags-defined id t name used at named members is)
      go true used (kind.Variant cases) is (Some name) named = by true (kind.Variant cases) (Some name) used is named (variant-defined id t name used at named cases is)
      go true used k is None named = by true k None used is named (subst (λ o. IfSome o (Defines items)) (sym (unnamed-site k)) tt)
      go true used k is n named = by true k n used is named tt

  all-defined : (ts : List TypeDef) (n : ℕ) → ((k : ℕ) (t : TypeDef) → slice_get ts k ≡ Some t → IfSome (site_at r world (n + k, t)) (Defines items)) → AllByRecursion (λ o. IfSome o (Defines items)) (map (site_at r world) (enumerate_from n ts))
  all-defined [] n h = tt
  all-defined (t ∷ ts) n h = (
    subst (λ m. IfSome (site_at r world (m, t)) (Defines items)) (add-zero n) (h 0 t refl),
    all-defined ts (n + 1) (λ k t at. let next : n + suc k ≡ n + 1 + k = omega arith in subst (λ m. IfSome (site_at r world (m, t)) (Defines items)) next (h (suc k) t at)),
  )

  all-are-defined : AreDefined items (type_sites r world)
  unfolding type_sites
  all-are-defined = all-defined r.types 0 (λ k t at. let same : k ≡ 0 + k = omega arith in subst (λ m. IfSome (site_at r world (m, t)) (Defines items)) same (entry-defined (record { 0 = k }) t at))

pub sites-are-defined : SitesAreDefined
sites-are-defined opts r w world defs rest d are = all-are-defined opts r w world defs rest d are

pub sites-can-be-defined : SitesCanBeDefined
sites-can-be-defined opts r w world defs d are =
    (defs, subst (λ items. AreDefined items (type_sites r world)) (append-nil (map (λ d. item.Type d) defs)) (all-are-defined opts r w world defs [] d are))
