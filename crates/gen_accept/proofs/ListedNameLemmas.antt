-- An accepted world lists what its functions and its types reach, and the names that the definitions of its types print may stand in
-- a tree.
use Rattle.std.proofs.Common.{◌≡◌, ℕ, zero, suc, Bool, true, false, cond, filter, is_some, ◌&&◌, ◌||◌, nat_eq, List, [], ◌∷◌, Option, Some, None, is_none, refl, sym, ap, subst, ◌∙◌, arith}
use Rattle.std.specs.List.{Contains, flat_map, list_all, slice_get}
use Rattle.std.proofs.lemmas.Bool.{and_from, and_parts, eq-eqb, eqb-true, or_left, or_right}
use Rattle.std.proofs.lemmas.List.Folds.{list_all-append, list_all-map}
use Rattle.std.proofs.lemmas.Option.{slice_get-get_or}
use Rattle.wit_model.specs.declared.name.Name.{Name}
use Rattle.wit_model.specs.declared.name.TypeId.{TypeId}
use Rattle.wit_model.specs.declared.name.WorldId.{WorldId}
use Rattle.wit_model.specs.declared.resolve.Resolve.{Resolve}
use Rattle.wit_model.specs.declared.types.TypeDef.{TypeDef}
use Rattle.wit_model.specs.declared.types.TypeDefKind.{TypeDefKind}
use Rattle.wit_model.specs.declared.types.TypeDefKind.TheVariants as kind
use Rattle.wit_model.specs.declared.types.WitType.{WitType}
use Rattle.wit_model.specs.declared.types.WitType.TheVariants.{Id}
use Rattle.wit_model.specs.Reaches.{Reaches}
use Rattle.wit_model.specs.TypeOrder.{GoesDown}
use Rattle.wit_model.specs.WellFormed.{IsWellFormed}
use Rattle.type_facts.specs.Facts.{IsNamed}
use Rattle.type_defs.specs.FunctionTypes.{functions_pass}
use Rattle.type_defs.specs.Used.{Covers, defined_ids, defined_types, function_types, is_always_entry, is_wanted_at, uses}
use Rattle.wit_model.specs.declared.world.World.{World}
use Rattle.rust_tree.specs.Ident.{is_ident, is_type_name, rust_ident}
use Rattle.gen_accept.specs.declared.opts.Opts.{Opts}
use Rattle.gen_accept.specs.TypeOpts.{type_opts}
use Rattle.type_defs.specs.ListedTypes.{listed_types}
use Rattle.gen_accept.specs.Cause.{is_accepted}
use Rattle.gen_accept.specs.DeclaredNames.{declares_well}
use Rattle.type_defs.specs.Levels.{are_shallow}
use Rattle.type_defs.specs.Listing.{are_listed, depth, is_covered_whole, keeps_listing, lists, may_list}
use Rattle.gen_accept.specs.NameText.{are_written_members, are_written_tables, is_written_package, is_written_type, is_written_type_name, is_written_world}
use Rattle.type_defs.specs.WitForm.{is_wit_form}
use Rattle.type_defs.specs.PrintedTypes.{entry_at, entry_or_none, field_names, member_names, name_or_none, type_name}
use Rattle.wit_model.proofs.AllLemmas.{all_at}
use Rattle.wit_model.proofs.WellFormedLemmas.{types_go_down}
use Rattle.gen_accept.proofs.DeclaredLemmas.{field_idents, member_idents, type_idents}
use Rattle.type_defs.proofs.ListingLemmas.{listed-reached, whole-low, world-listing}
use Rattle.type_defs.proofs.UsedLemmas.{reached_from, reached_uses, uses_reached}
use Rattle.type_defs.proofs.UsedTypeLemmas.{listed-named, reaches-alone}
use Rattle.gen_accept.proofs.CauseLemmas.{accepted-declares, accepted-listed, accepted-shallow, accepted-written}
use Rattle.type_defs.specs.DefinedNames.{IsNamedDefinition, are_named_parts}

pub all-contained : {A : Type 0} (test : A → Bool) (xs : List A) (x : A) → list_all test xs ≡ true → Contains xs x → test x ≡ true
all-contained test [] x h (k, below, e) = absurd (omega arith)
all-contained test (y ∷ xs) x h (zero, below, e) = subst (λ z. test z ≡ true) e (and_parts (test y) (list_all test xs) h).0
all-contained test (y ∷ xs) x h (suc k, below, e) = all-contained test xs x (and_parts (test y) (list_all test xs) h).1 (k, omega arith, e)

-- what holds of all entries that some ids name holds of each of them
pub entry-passes : (test : TypeDef → Bool) (types : List TypeDef) (listed : List TypeId) (n : ℕ) (entry : TypeDef) → list_all test (flat_map (entry_at types) listed) ≡ true
    → lists listed n ≡ true → slice_get types n ≡ Some entry → test entry ≡ true
entry-passes test types [] n entry h l at = cc
entry-passes test types (id ∷ listed) n entry h l at =
    let both = and_parts (list_all test (entry_at types id)) (list_all test (flat_map (entry_at types) listed)) (sym (list_all-append test (entry_at types id) (flat_map (entry_at types) listed)) ∙ h) in
    go (nat_eq id.0 n) refl l both.0 (entry-passes test types listed n entry both.1)
  where
    go : (b : Bool) → nat_eq id.0 n ≡ b → (nat_eq id.0 n || lists listed n) ≡ true → list_all test (entry_at types id) ≡ true
        → (lists listed n ≡ true → slice_get types n ≡ Some entry → test entry ≡ true) → test entry ≡ true
    go false e l here rest = rest (sym (ap (λ b. b || lists listed n) e) ∙ l) at
    go true e l here rest =
        let same : id.0 ≡ n = eqb-true id.0 n e in
        let there : slice_get types id.0 ≡ Some entry = ap (slice_get types) same ∙ at in
        (and_parts (test entry) true (sym (ap (λ o. list_all test (entry_or_none o)) there) ∙ here)).0

both-all : {A : Type 0} (p q : A → Bool) (xs : List A) → list_all p xs ≡ true → list_all q xs ≡ true → list_all (λ x. p x && q x) xs ≡ true
both-all p q [] h g = refl
both-all p q (x ∷ xs) h g =
    let a = and_parts (p x) (list_all p xs) h in
    let b = and_parts (q x) (list_all q xs) g in
    and_from _ _ (and_from _ _ a.0 b.0) (both-all p q xs a.1 b.1)

pub named-parts : (k : TypeDefKind) → list_all is_ident (field_names k) ≡ true → list_all is_ident (member_names k) ≡ true → are_written_members k ≡ true → are_named_parts k ≡ true
named-parts (kind.Record fields) h m g = both-all (λ f. is_ident (rust_ident f.name)) (λ f. is_wit_form f.name.wit) fields (sym (list_all-map is_ident (λ f. rust_ident f.name) fields) ∙ h) g
named-parts (kind.Variant cases) h m g = sym (list_all-map is_ident (λ c. c.name.camel) cases) ∙ m
named-parts (kind.Enum cases) h m g = both-all (λ c. is_ident c.name.camel) (λ c. is_wit_form c.name.wit) cases (sym (list_all-map is_ident (λ c. c.name.camel) cases) ∙ m) g
named-parts (kind.Flags members) h m g = sym (list_all-map is_ident (λ m. m.name.upper) members) ∙ m
named-parts _ h m g = refl

contained-lists : (listed : List TypeId) (id : TypeId) → Contains listed id → lists listed id.0 ≡ true
contained-lists [] id (k, below, e) = absurd (omega arith)
contained-lists (i ∷ listed) id (zero, below, e) = or_left (nat_eq i.0 id.0) (lists listed id.0) (eq-eqb i.0 id.0 (ap (λ j. j.0) e))
contained-lists (i ∷ listed) id (suc k, below, e) = or_right (nat_eq i.0 id.0) (lists listed id.0) (contained-lists listed id (k, omega arith, e))

-- what passes a test of its number is listed still where the rest is left out
lists-filtered : (test : ℕ → Bool) (listed : List TypeId) (n : ℕ) → lists listed n ≡ true → test n ≡ true → lists (filter (λ id. test id.0) listed) n ≡ true
lists-filtered test [] n l t = cc
lists-filtered test (id ∷ listed) n l t = go (nat_eq id.0 n) refl (test id.0) refl l (λ l. lists-filtered test listed n l t)
  where
    kept : List TypeId
    kept = filter (λ id. test id.0) listed

    go : (b : Bool) → nat_eq id.0 n ≡ b → (c : Bool) → test id.0 ≡ c → (nat_eq id.0 n || lists listed n) ≡ true → (lists listed n ≡ true → lists kept n ≡ true) → lists (filter (λ id. test id.0) (id ∷ listed)) n ≡ true
    go false e true p l rest =
        ap (λ c. lists (cond c (id ∷ kept) kept) n) p ∙ or_right (nat_eq id.0 n) (lists kept n) (rest (sym (ap (λ b. b || lists listed n) e) ∙ l))
    go false e false p l rest = ap (λ c. lists (cond c (id ∷ kept) kept) n) p ∙ rest (sym (ap (λ b. b || lists listed n) e) ∙ l)
    go true e true p l rest = ap (λ c. lists (cond c (id ∷ kept) kept) n) p ∙ or_left (nat_eq id.0 n) (lists kept n) e
    go true e false p l rest = let wrong : false ≡ true = sym p ∙ ap test (eqb-true id.0 n e) ∙ t in cc

contained : {A : Type 0} (xs : List A) (x : A) → Contains xs x → (n : ℕ) × (slice_get xs n ≡ Some x)
contained xs x (k, below, e) = (k, slice_get-get_or xs k x below ∙ ap (λ y. Some y) e)

module _ (opts : Opts) (r : Resolve) (id : WorldId) (world : World) (checked : IsWellFormed r) (accepted : is_accepted opts r world ≡ true) (found : slice_get r.worlds id.0 ≡ Some world) where
  abbrev listed : List TypeId
  listed = listed_types world

  abbrev wanted : ℕ → Bool
  wanted n = is_wanted_at (type_opts opts) r world n

  abbrev defined : List TypeId
  defined = defined_ids (type_opts opts) r world

  shallow : are_shallow r.types ≡ true
  shallow = accepted-shallow opts r world accepted

  down : GoesDown r.types
  down = types_go_down r checked.unbroken

  declares : declares_well opts r world ≡ true
  declares = accepted-declares opts r world accepted

  types-written : list_all is_written_type r.types ≡ true
  unfolding are_written_tables
  types-written =
      (and_parts (list_all is_written_package r.packages) (list_all is_written_type r.types) (and_parts _ (list_all is_written_world r.worlds) (accepted-written opts r world accepted)).0).1

  listing : (are_listed r.types id.0 listed ≡ true) × (functions_pass (is_covered_whole r.types listed) world ≡ true)
  unfolding keeps_listing
  listing = and_parts (are_listed r.types id.0 listed) (functions_pass (is_covered_whole r.types listed) world) (world-listing r id.0 world (accepted-listed opts r world accepted) found)

  pub functions-covered : functions_pass (is_covered_whole r.types listed) world ≡ true
  functions-covered = listing.1

  -- what a type reaches that is covered is listed
  pub covers : (ty : WitType) → is_covered_whole r.types listed ty ≡ true → Covers r world ty
  covers ty covered part entry reaches at named = listed-reached r.types listed (depth r.types) part entry (whole-low r.types down ty) covered reaches at (some-named entry.name named)
    where
      some-named : (o : Option Name) → is_some o ≡ true → is_none o ≡ false
      some-named None h = cc
      some-named (Some name) h = refl

  listed-covered : (type : TypeId) → Contains listed type → is_covered_whole r.types listed (Id type) ≡ true
  listed-covered type among =
      let keep = all-contained (λ i. may_list id.0 (slice_get r.types i.0) && is_covered_whole r.types listed (Id i)) listed type listing.0 among in
      (and_parts (may_list id.0 (slice_get r.types type.0)) (is_covered_whole r.types listed (Id type)) keep).1

  pub listed-is-named : (type : TypeId) → Contains listed type → IsNamed r.types type
  listed-is-named type among = let at = contained listed type among in listed-named r id.0 world (accepted-listed opts r world accepted) found at.0 type at.1

  -- what a type that is defined reaches is defined too
  wanted-reached : (type part : TypeId) → wanted type.0 ≡ true → Reaches r.types (Id type) (Id part) → wanted part.0 ≡ true
  wanted-reached type part want reaches = kinds (is_always_entry (slice_get r.types type.0)) refl want
    where
      asked : Bool
      asked = uses r world part.0 || opts.generate_unused_types

      go : (b : Bool) → uses r world type.0 ≡ b → (uses r world type.0 || opts.generate_unused_types) ≡ true → asked ≡ true
      go true e w =
          or_left (uses r world part.0) opts.generate_unused_types
          (reached_uses r world part shallow (reached_from r.types (function_types r world) (Id type) (Id part) (uses_reached r world type shallow e) reaches))
      go false e w = or_right (uses r world part.0) opts.generate_unused_types (sym (ap (λ b. b || opts.generate_unused_types) e) ∙ w)

      kinds : (b : Bool) → is_always_entry (slice_get r.types type.0) ≡ b → wanted type.0 ≡ true → wanted part.0 ≡ true
      kinds true e w = ap wanted (reaches-alone r.types type part e reaches) ∙ w
      kinds false e w = or_right (is_always_entry (slice_get r.types part.0)) asked (go (uses r world type.0) refl (sym (ap (λ b. b || (uses r world type.0 || opts.generate_unused_types)) e) ∙ w))

  -- what all defined types pass each of them passes
  defined-passes : (test : TypeDef → Bool) → list_all test (defined_types (type_opts opts) r world) ≡ true → (part : TypeId) (entry : TypeDef) → lists listed part.0 ≡ true → wanted part.0 ≡ true
      → slice_get r.types part.0 ≡ Some entry → test entry ≡ true
  defined-passes test h part entry l want at = entry-passes test r.types defined part.0 entry h (lists-filtered wanted listed part.0 l want) at

  -- each type that an accepted world lists and its file defines
  pub named-definition : (type : TypeId) → Contains listed type → wanted type.0 ≡ true → IsNamedDefinition r.types type
  named-definition type among want =
      let names = sym (list_all-map is_type_name type_name (defined_types (type_opts opts) r world)) ∙ type_idents opts r world declares in
      let fields = field_idents opts r world declares in
      let members = member_idents opts r world declares in
      record {
        reached = λ part entry name reaches there named.
            let l = listed-reached r.types listed (depth r.types) part entry (whole-low r.types down (Id type)) (listed-covered type among) reaches there (ap is_none named) in
            ap (λ o. is_type_name (name_or_none o)) (sym named) ∙ defined-passes (λ t. is_type_name (type_name t)) names part entry l (wanted-reached type part want reaches) there;
        parts = λ entry there.
            named-parts entry.kind (defined-passes (λ t. list_all is_ident (field_names t.kind)) fields type entry (contained-lists listed type among) want there)
            (defined-passes (λ t. list_all is_ident (member_names t.kind)) members type entry (contained-lists listed type among) want there)
            (and_parts (is_written_type_name entry.name) (are_written_members entry.kind) (all_at is_written_type r.types type.0 entry types-written there)).1;
      }
