-- Each type that a world lists and its file defines has one definition there, under its own name.
use Rattle.std.proofs.Common.{◌≡◌, ℕ, suc, ◌+◌, ◌<◌, ◌≤◌, ◌⊎◌, inl, inr, Bool, true, false, cond, not, ◌||◌, nat_eq, nat_lt, List, [], ◌∷◌, ◌++◌, length, map, filter, Option, None, Some, is_some, refl, sym, ap, subst, ◌∙◌, arith}
use Rattle.std.specs.Prelude.{slice_get}
use Rattle.std.specs.List.{AllZip, flat_map, list_any}
use Rattle.std.specs.Option.{option_or}
use Rattle.std.specs.Str.{bytes_eq}
use Rattle.std.proofs.lemmas.Bool.{and_parts, eqb-true, false_from_ne_true, lt-ltb, ltb-true, or_left, or_right}
use Rattle.std.proofs.lemmas.Slice.Eq.{bytes_eq-Decides}
use Rattle.std.proofs.lemmas.List.{length-append, length-map}
use Rattle.wit_model.specs.Bytes.{Bytes}
use Rattle.wit_model.specs.declared.name.Docs.{Docs}
use Rattle.wit_model.specs.declared.name.Name.{Name}
use Rattle.wit_model.specs.declared.name.TypeId.{TypeId}
use Rattle.wit_model.specs.declared.name.WorldId.{WorldId}
use Rattle.wit_model.specs.declared.resolve.Resolve.{Resolve}
use Rattle.wit_model.specs.declared.types.TypeDef.{TypeDef}
use Rattle.wit_model.specs.declared.types.TypeDefKind.{TypeDefKind}
use Rattle.wit_model.specs.declared.types.TypeDefKind.TheVariants as kind
use Rattle.wit_model.specs.declared.world.World.{World}
use Rattle.wit_model.specs.Distinct.{is_distinct}
use Rattle.wit_model.proofs.AllLemmas.{all_at}
use Rattle.rust_tree.specs.declared.item.Item.{Item}
use Rattle.rust_tree.specs.declared.item.Item.TheVariants as item
use Rattle.rust_tree.specs.declared.type_expr.TypeExpr.TheVariants as type
use Rattle.rust_tree.specs.declared.type_item.TypeItem.{TypeItem}
use Rattle.rust_tree.specs.declared.type_item.TypeItem.TheVariants.{Alias, Enum, Flags, Struct, Variant}
use Rattle.rust_tree.specs.Ident.{type_ident}
use Rattle.type_facts.specs.declared.info.TypeInfo.{TypeInfo}
use Rattle.type_defs.specs.declared.type_opts.TypeOpts.{TypeOpts}
use Rattle.type_defs.specs.Defined.{AreDefinitions, AreDefinitionsOf, alias_item, entry_definitions, entry_items, is_defined_kind, kind_items, record_item}
use Rattle.type_defs.specs.DefinedNames.{AreDefinable}
use Rattle.type_defs.specs.EnumDef.{enum_item}
use Rattle.type_defs.specs.FlagsDef.{flags_item}
use Rattle.type_defs.specs.Listing.{lists}
use Rattle.type_defs.specs.ListedTypes.{listed_types}
use Rattle.type_defs.specs.Modes.{is_always_defined, is_wanted}
use Rattle.type_defs.specs.PartType.{part_type, result_type}
use Rattle.type_defs.specs.PrintedTypes.{entry_at, entry_or_none, name_or_none, type_name}
use Rattle.type_defs.specs.Used.{is_always_entry, is_wanted_at, uses}
use Rattle.type_defs.specs.VariantDef.{variant_item}
use Rattle.type_defs.proofs.DefinedLemmas.{entry-items}
use Rattle.type_defs.proofs.UsedLemmas.{used_is}
use Rattle.wrapper_values.specs.Fields.{type_name as item_name, type_named}

-- 1. How many definitions types have whose ids are lower than a bound

abbrev pub lower : ℕ → List TypeId → List (List TypeItem) → ℕ
lower n [] owns = 0
lower n (i ∷ ids) [] = 0
lower n (i ∷ ids) (own ∷ owns) = cond (nat_lt i.0 n) (length own) 0 + lower n ids owns

at-most : (b : Bool) (k : ℕ) → cond b k 0 ≤ k
at-most true k = omega arith
at-most false k = omega arith

pub lower-all : (n : ℕ) (ids : List TypeId) (owns : List (List TypeItem)) → lower n ids owns ≤ length (flat_map (λ own. own) owns)
lower-all n [] owns = omega arith
lower-all n (i ∷ ids) [] = omega arith
lower-all n (i ∷ ids) (own ∷ owns) =
    let here = at-most (nat_lt i.0 n) (length own) in
    let rest = lower-all n ids owns in
    let both = length-append own (flat_map (λ own. own) owns) in
    omega (arith, both)

cond-grows : (i n m : ℕ) (k : ℕ) → n ≤ m → cond (nat_lt i n) k 0 ≤ cond (nat_lt i m) k 0
cond-grows i n m k le = go (nat_lt i n) refl
  where
    go : (b : Bool) → nat_lt i n ≡ b → cond (nat_lt i n) k 0 ≤ cond (nat_lt i m) k 0
    go false e = let is = ap (λ b. cond b k 0) e in omega (arith, is)
    go true e =
        let low = ltb-true i n e in
        let is = ap (λ b. cond b k 0) e in
        let also = ap (λ b. cond b k 0) (lt-ltb i m (omega arith)) in
        omega (arith, is, also)

pub lower-grows : (n m : ℕ) (ids : List TypeId) (owns : List (List TypeItem)) → n ≤ m → lower n ids owns ≤ lower m ids owns
lower-grows n m [] owns le = omega arith
lower-grows n m (i ∷ ids) [] le = omega arith
lower-grows n m (i ∷ ids) (own ∷ owns) le =
    let here = cond-grows i.0 n m (length own) le in
    let rest = lower-grows n m ids owns le in
    omega arith

-- a type with one definition counts
lower-here : (i : TypeId) (ids : List TypeId) (own : List TypeItem) (owns : List (List TypeItem)) → length own ≡ 1 → lower i.0 (i ∷ ids) (own ∷ owns) < lower (suc i.0) (i ∷ ids) (own ∷ owns)
lower-here i ids own owns one =
    let rest = lower-grows i.0 (suc i.0) ids owns (omega arith) in
    let not_yet = ap (λ b. cond b (length own) 0) (false_from_ne_true (nat_lt i.0 i.0) (λ e. let low = ltb-true i.0 i.0 e in absurd (omega arith))) in
    let now = ap (λ b. cond b (length own) 0) (lt-ltb i.0 (suc i.0) (omega arith)) in
    omega (arith, not_yet, now, one)

lower-later : (n : ℕ) (i : TypeId) (ids : List TypeId) (own : List TypeItem) (owns : List (List TypeItem)) → lower n ids owns < lower (suc n) ids owns → lower n (i ∷ ids) (own ∷ owns) < lower (suc n) (i ∷ ids) (own ∷ owns)
lower-later n i ids own owns h =
    let here = cond-grows i.0 n (suc n) (length own) (omega arith) in
    omega arith

-- 2. The definition of one type

-- a named type of the table has one definition among these items, and it counts
pub record IsDefinedIn (types : List TypeDef) (items : List Item) (count : ℕ → ℕ) (id : ℕ) (entry : TypeDef) (name : Bytes) : Type 0 where
  pub item : TypeItem
  pub info : TypeInfo
  pub is : kind_items types info entry.docs name entry.kind ≡ item ∷ []
  pub found : type_named items name ≡ Some item
  pub counted : count id < count (suc id)

abbrev OneItem : List TypeDef → TypeInfo → Docs → Bytes → TypeDefKind → Type 0
OneItem types info docs name k = (i : TypeItem) × (kind_items types info docs name k ≡ i ∷ []) × (item_name i ≡ name)

one-item : (types : List TypeDef) (info : TypeInfo) (docs : Docs) (name : Bytes) (k : TypeDefKind) → is_defined_kind k ≡ true → OneItem types info docs name k
one-item types info docs name (kind.Alias ty) h = (Alias (alias_item docs name (part_type types ty)), refl, refl)
one-item types info docs name (kind.Record fields) h = (Struct (record_item types info docs name fields), refl, refl)
one-item types info docs name (kind.Tuple parts) h = (Alias (alias_item docs name (type.Tuple (map (part_type types) parts))), refl, refl)
one-item types info docs name (kind.Option ty) h = (Alias (alias_item docs name (type.Optional (part_type types ty))), refl, refl)
one-item types info docs name (kind.Result ok err) h = (Alias (alias_item docs name (result_type (part_type types) ok err)), refl, refl)
one-item types info docs name (kind.Variant cases) h = (Variant (variant_item types info docs name cases), refl, refl)
one-item types info docs name (kind.Enum cases) h = (Enum (enum_item info docs name cases), refl, refl)
one-item types info docs name (kind.Flags members) h = (Flags (flags_item docs name members), refl, refl)
one-item types info docs name _ h = absurd (cc)

module _ (opts : TypeOpts) (r : Resolve) (w : WorldId) (world : World) (d : AreDefinable opts r w world) where
  abbrev wanted : ℕ → Bool
  wanted id = is_wanted_at opts r world id

  record IsOne (i : TypeId) (own : List TypeItem) : Type 0 where
    entry : TypeDef
    name : Name
    info : TypeInfo
    item : TypeItem
    at : slice_get r.types i.0 ≡ Some entry
    named : entry.name ≡ Some name
    asked : wanted i.0 ≡ true
    are : own ≡ item ∷ []
    is : kind_items r.types info entry.docs (type_ident name) entry.kind ≡ item ∷ []
    called : item_name item ≡ type_ident name

  record IsNone (i : TypeId) (own : List TypeItem) : Type 0 where
    are : own ≡ []
    unasked : (entry : TypeDef) (name : Name) → slice_get r.types i.0 ≡ Some entry → entry.name ≡ Some name → wanted i.0 ≡ false

  -- a type of the list has one definition where it has a name and is wanted, and none elsewhere
  one-or-none : (i : TypeId) (own : List TypeItem) → AreDefinitionsOf opts r w i own → IsOne i own ⊎ IsNone i own
  one-or-none i own o = go o.entry.name refl
    where
      go : (n : Option Name) → o.entry.name ≡ n → IsOne i own ⊎ IsNone i own
      go None named = inr (record {
        are = o.are ∙ ap (λ n. entry_items r.types o.info o.entry (entry_definitions opts o.info o.entry.kind n)) named;
        unasked = λ entry name at is. let same : o.entry ≡ entry = cc in let no : None ≡ Some name = sym named ∙ ap (λ (t : TypeDef). t.name) same ∙ is in absurd (cc);
      })
      go (Some name) named = by (wanted i.0) refl
        where
          own-kind : is_defined_kind o.entry.kind ≡ true
          own-kind = all_at (λ t. is_defined_kind t.kind) r.types i.0 o.entry d.kinds o.entry_at

          tells : is_wanted opts o.info o.entry.kind ≡ wanted i.0
          tells =
              ap (λ b. is_always_defined o.entry.kind || (b || opts.generate_unused_types)) (used_is r w world i o.info d.shallow d.found (record { entry = o.entry; entry_at = o.entry_at; named = ap (λ n. is_some n) named }) o.facts)
              ∙ ap (λ (e : Option TypeDef). is_always_entry e || (uses r world i.0 || opts.generate_unused_types)) (sym o.entry_at)

          by : (b : Bool) → wanted i.0 ≡ b → IsOne i own ⊎ IsNone i own
          by true e =
              let one = one-item r.types o.info o.entry.docs (type_ident name) o.entry.kind own-kind in
              inl (record {
                entry = o.entry;
                name = name;
                info = o.info;
                item = one.0;
                at = o.entry_at;
                named = named;
                asked = e;
                are = o.are ∙ entry-items opts r.types o.info o.entry name true d.owning named (tells ∙ e) ∙ one.1;
                is = one.1;
                called = one.2;
              })
          by false e = inr (record {
            are = o.are ∙ entry-items opts r.types o.info o.entry name false d.owning named (tells ∙ e);
            unasked = λ entry name at is. e;
          })

  -- 3. The names of the definitions

  abbrev is_wanted_id : TypeId → Bool
  is_wanted_id i = wanted i.0

  abbrev names_of : List TypeId → List Bytes
  names_of ids = map type_name (flat_map (entry_at r.types) (filter is_wanted_id ids))

  names-wanted : (i : TypeId) (ids : List TypeId) (t : TypeDef) → wanted i.0 ≡ true → slice_get r.types i.0 ≡ Some t → names_of (i ∷ ids) ≡ type_name t ∷ names_of ids
  names-wanted i ids t want at =
      ap (λ b. map type_name (flat_map (entry_at r.types) (cond b (i ∷ filter is_wanted_id ids) (filter is_wanted_id ids)))) want
      ∙ ap (λ o. map type_name (entry_or_none o ++ flat_map (entry_at r.types) (filter is_wanted_id ids))) at

  -- the names of the later ones are distinct too
  distinct-later : (i : TypeId) (ids : List TypeId) → is_distinct (names_of (i ∷ ids)) ≡ true → is_distinct (names_of ids) ≡ true
  distinct-later i ids h = go (wanted i.0) refl (slice_get r.types i.0) refl
    where
      go : (b : Bool) → wanted i.0 ≡ b → (o : Option TypeDef) → slice_get r.types i.0 ≡ o → is_distinct (names_of ids) ≡ true
      go false e o at = sym (ap (λ b. is_distinct (map type_name (flat_map (entry_at r.types) (cond b (i ∷ filter is_wanted_id ids) (filter is_wanted_id ids))))) e) ∙ h
      go true e None at =
          sym (ap (λ b. is_distinct (map type_name (flat_map (entry_at r.types) (cond b (i ∷ filter is_wanted_id ids) (filter is_wanted_id ids))))) e
          ∙ ap (λ o. is_distinct (map type_name (entry_or_none o ++ flat_map (entry_at r.types) (filter is_wanted_id ids)))) at) ∙ h
      go true e (Some t) at =
          (and_parts (not (list_any (λ u. bytes_eq u (type_name t)) (names_of ids))) (is_distinct (names_of ids)) (sym (ap is_distinct (names-wanted i ids t e at)) ∙ h)).1

  -- the name of a later one is among those
  name-later : (ids : List TypeId) (id : ℕ) (t : TypeDef) (name : Bytes) → lists ids id ≡ true → wanted id ≡ true → slice_get r.types id ≡ Some t → type_name t ≡ name → list_any (λ u. bytes_eq u name) (names_of ids) ≡ true
  name-later [] id t name l want at is = absurd (cc)
  name-later (i ∷ ids) id t name l want at is = go (nat_eq i.0 id) refl l (λ l. name-later ids id t name l want at is)
    where
      go : (b : Bool) → nat_eq i.0 id ≡ b → (nat_eq i.0 id || lists ids id) ≡ true → (lists ids id ≡ true → list_any (λ u. bytes_eq u name) (names_of ids) ≡ true)
          → list_any (λ u. bytes_eq u name) (names_of (i ∷ ids)) ≡ true
      go true e l later =
          let same : i.0 ≡ id = eqb-true i.0 id e in
          ap (list_any (λ u. bytes_eq u name)) (names-wanted i ids t (ap wanted same ∙ want) (ap (slice_get r.types) same ∙ at))
          ∙ or_left (bytes_eq (type_name t) name) (list_any (λ u. bytes_eq u name) (names_of ids)) ((bytes_eq-Decides (type_name t) name).1 is)
      go false e l later = by (wanted i.0) refl (slice_get r.types i.0) refl (later (sym (ap (λ b. b || lists ids id) e) ∙ l))
        where
          by : (b : Bool) → wanted i.0 ≡ b → (o : Option TypeDef) → slice_get r.types i.0 ≡ o → list_any (λ u. bytes_eq u name) (names_of ids) ≡ true → list_any (λ u. bytes_eq u name) (names_of (i ∷ ids)) ≡ true
          by false w o at h = ap (λ b. list_any (λ u. bytes_eq u name) (map type_name (flat_map (entry_at r.types) (cond b (i ∷ filter is_wanted_id ids) (filter is_wanted_id ids))))) w ∙ h
          by true w None at h =
              ap (λ b. list_any (λ u. bytes_eq u name) (map type_name (flat_map (entry_at r.types) (cond b (i ∷ filter is_wanted_id ids) (filter is_wanted_id ids))))) w
              ∙ ap (λ o. list_any (λ u. bytes_eq u name) (map type_name (entry_or_none o ++ flat_map (entry_at r.types) (filter is_wanted_id ids)))) at ∙ h
          by true w (Some s) at h = ap (list_any (λ u. bytes_eq u name)) (names-wanted i ids s w at) ∙ or_right (bytes_eq (type_name s) name) (list_any (λ u. bytes_eq u name) (names_of ids)) h

  -- two definitions do not share a name
  names-differ : (i : TypeId) (ids : List TypeId) (own : List TypeItem) (one : IsOne i own) (id : ℕ) (t : TypeDef) (name : Name) → is_distinct (names_of (i ∷ ids)) ≡ true → lists ids id ≡ true
      → wanted id ≡ true → slice_get r.types id ≡ Some t → t.name ≡ Some name → bytes_eq (item_name one.item) (type_ident name) ≡ false
  names-differ i ids own one id t name distinct l want at named =
      false_from_ne_true (bytes_eq (item_name one.item) (type_ident name)) (λ e.
      let same : type_name t ≡ type_name one.entry =
      ap (λ n. name_or_none n) named ∙ sym ((bytes_eq-Decides (item_name one.item) (type_ident name)).0 e) ∙ one.called ∙ sym (ap (λ n. name_or_none n) one.named) in
      let there = name-later ids id t (type_name one.entry) l want at same in
      let apart : not (list_any (λ u. bytes_eq u (type_name one.entry)) (names_of ids)) ≡ true =
      (and_parts (not (list_any (λ u. bytes_eq u (type_name one.entry)) (names_of ids))) (is_distinct (names_of ids)) (sym (ap is_distinct (names-wanted i ids one.entry one.asked one.at)) ∙ distinct)).0 in
      let no : false ≡ true = sym (ap not there) ∙ apart in
      cc)

  -- 4. Each has its definition

  abbrev items_of : List (List TypeItem) → List Item → List Item
  items_of owns rest = map item.Type (flat_map (λ own. own) owns) ++ rest

  abbrev IsDefinedHere : List TypeId → List (List TypeItem) → List Item → ℕ → TypeDef → Bytes → Type 0
  IsDefinedHere ids owns rest id entry name = IsDefinedIn r.types (items_of owns rest) (λ n. lower n ids owns) id entry name

  abbrev with_own : List TypeItem → List (List TypeItem) → List Item → List Item
  with_own own owns rest = map item.Type (own ++ flat_map (λ own. own) owns) ++ rest

  module _ (i : TypeId) (ids : List TypeId) (own : List TypeItem) (owns : List (List TypeItem)) (rest : List Item) (id : ℕ) (entry : TypeDef) (name : Name) where
    behind-none : own ≡ [] → IsDefinedHere ids owns rest id entry (type_ident name) → IsDefinedHere (i ∷ ids) (own ∷ owns) rest id entry (type_ident name)
    behind-none e h = record {
      item = h.item;
      info = h.info;
      is = h.is;
      found = ap (λ own. type_named (with_own own owns rest) (type_ident name)) e ∙ h.found;
      counted = lower-later id i ids own owns h.counted;
    }

    behind-one : (one : IsOne i own) → bytes_eq (item_name one.item) (type_ident name) ≡ false → IsDefinedHere ids owns rest id entry (type_ident name) → IsDefinedHere (i ∷ ids) (own ∷ owns) rest id entry (type_ident name)
    behind-one one differ h = record {
      item = h.item;
      info = h.info;
      is = h.is;
      found = ap (λ own. type_named (with_own own owns rest) (type_ident name)) one.are ∙ ap (λ b. option_or (cond b (Some one.item) None) (type_named (items_of owns rest) (type_ident name))) differ ∙ h.found;
      counted = lower-later id i ids own owns h.counted;
    }

    -- the first of a list is found under its name
    itself : (one : IsOne i own) → i.0 ≡ id → slice_get r.types id ≡ Some entry → entry.name ≡ Some name → IsDefinedHere (i ∷ ids) (own ∷ owns) rest id entry (type_ident name)
    itself one same at named =
        let there : slice_get r.types i.0 ≡ Some entry = ap (slice_get r.types) same ∙ at in
        let both : Some one.entry ≡ Some entry = sym one.at ∙ there in
        let is : one.entry ≡ entry = cc in
        let names : Some one.name ≡ Some name = sym one.named ∙ ap (λ (t : TypeDef). t.name) is ∙ named in
        let called : one.name ≡ name = cc in
        let equal : bytes_eq (item_name one.item) (type_ident name) ≡ true = (bytes_eq-Decides (item_name one.item) (type_ident name)).1 (one.called ∙ ap type_ident called) in
        record {
          item = one.item;
          info = one.info;
          is = sym (ap (λ (t : TypeDef). kind_items r.types one.info t.docs (type_ident one.name) t.kind) is ∙ ap (λ (n : Name). kind_items r.types one.info entry.docs (type_ident n) entry.kind) called) ∙ one.is;
          found = ap (λ own. type_named (with_own own owns rest) (type_ident name)) one.are ∙ ap (λ b. option_or (cond b (Some one.item) None) (type_named (items_of owns rest) (type_ident name))) equal;
          counted = subst (λ n. lower n (i ∷ ids) (own ∷ owns) < lower (suc n) (i ∷ ids) (own ∷ owns)) same (lower-here i ids own owns (ap (λ (is : List TypeItem). length is) one.are));
        }

  -- a listed type that is wanted has its definition, by going through the list
  pub named-once : (ids : List TypeId) (owns : List (List TypeItem)) (rest : List Item) → AllZip (AreDefinitionsOf opts r w) ids owns → is_distinct (names_of ids) ≡ true → (id : ℕ) (entry : TypeDef) (name : Name)
      → lists ids id ≡ true → wanted id ≡ true → slice_get r.types id ≡ Some entry → entry.name ≡ Some name → IsDefinedHere ids owns rest id entry (type_ident name)
  named-once [] owns rest z distinct id entry name l want at named = absurd (cc)
  named-once (i ∷ ids) [] rest z distinct id entry name l want at named = absurd z
  named-once (i ∷ ids) (own ∷ owns) rest z distinct id entry name l want at named =
      go (one-or-none i own z.0) (nat_eq i.0 id) refl l (λ l. named-once ids owns rest z.1 (distinct-later i ids distinct) id entry name l want at named)
    where
      go : IsOne i own ⊎ IsNone i own → (b : Bool) → nat_eq i.0 id ≡ b → (nat_eq i.0 id || lists ids id) ≡ true → (lists ids id ≡ true → IsDefinedHere ids owns rest id entry (type_ident name))
          → IsDefinedHere (i ∷ ids) (own ∷ owns) rest id entry (type_ident name)
      go (inl one) true e l later = itself i ids own owns rest id entry name one (eqb-true i.0 id e) at named
      go (inl one) false e l later =
          let there : lists ids id ≡ true = sym (ap (λ b. b || lists ids id) e) ∙ l in
          behind-one i ids own owns rest id entry name one (names-differ i ids own one id entry name distinct there want at named) (later there)
      go (inr none) true e l later =
          let same : i.0 ≡ id = eqb-true i.0 id e in
          let no : true ≡ false = sym (ap wanted same ∙ want) ∙ none.unasked entry name (ap (slice_get r.types) same ∙ at) named in
          absurd (cc)
      go (inr none) false e l later = behind-none i ids own owns rest id entry name none.are (later (sym (ap (λ b. b || lists ids id) e) ∙ l))

  -- 5. In the file

  module _ (defs : List TypeItem) (are : AreDefinitions opts r w world defs) (rest : List Item) where
    abbrev pub count : ℕ → ℕ
    count n = lower n (listed_types world) are.of_each

    pub count-grows : (n m : ℕ) → n ≤ m → count n ≤ count m
    count-grows n m le = lower-grows n m (listed_types world) are.of_each le

    pub count-most : (n : ℕ) → count n ≤ length (map item.Type defs ++ rest)
    count-most n =
        let all = lower-all n (listed_types world) are.of_each in
        let same = ap (λ (is : List TypeItem). length is) are.are in
        let mapped = length-map defs item.Type in
        let both = length-append (map item.Type defs) rest in
        omega (arith, same, mapped, both)

    pub definition-of : (id : ℕ) (entry : TypeDef) (name : Name) → lists (listed_types world) id ≡ true → wanted id ≡ true → slice_get r.types id ≡ Some entry → entry.name ≡ Some name
        → IsDefinedIn r.types (map item.Type defs ++ rest) count id entry (type_ident name)
    definition-of id entry name l want at named =
        subst (λ (is : List TypeItem). IsDefinedIn r.types (map item.Type is ++ rest) count id entry (type_ident name)) (sym are.are)
        (named-once (listed_types world) are.of_each rest are.defined d.apart id entry name l want at named)
