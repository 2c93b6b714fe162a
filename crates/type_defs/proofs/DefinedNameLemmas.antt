-- The definitions of types whose names may stand in a tree may stand there.
use Rattle.std.proofs.Common.{◌≡◌, ℕ, suc, Bool, true, false, not, ◌&&◌, List, [], ◌∷◌, Option, None, Some, map, refl, sym, ap, subst, ◌∙◌, append-nil, arith}
use Rattle.std.specs.Prelude.{if◌then◌else◌, slice_get}
use Rattle.std.specs.List.{AllZip, Contains, flat_map, list_all}
use Rattle.std.specs.Option.{option_map}
use Rattle.std.proofs.lemmas.Bool.{and_from, and_parts}
use Rattle.std.proofs.lemmas.List.Folds.{list_all-append, list_all-map}
use Rattle.wit_model.specs.Bytes.{Bytes}
use Rattle.wit_model.specs.declared.name.Docs.{Docs}
use Rattle.wit_model.specs.declared.name.Name.{Name}
use Rattle.wit_model.specs.declared.name.TypeId.{TypeId}
use Rattle.wit_model.specs.declared.name.WorldId.{WorldId}
use Rattle.wit_model.specs.declared.resolve.Resolve.{Resolve}
use Rattle.wit_model.specs.declared.types.Case.{Case}
use Rattle.wit_model.specs.declared.types.Field.{Field}
use Rattle.wit_model.specs.declared.types.Member.{Member}
use Rattle.wit_model.specs.declared.types.TypeDef.{TypeDef}
use Rattle.wit_model.specs.declared.types.TypeDefKind.{TypeDefKind}
use Rattle.wit_model.specs.declared.types.TypeDefKind.TheVariants as kind
use Rattle.wit_model.specs.declared.types.WitType.{WitType}
use Rattle.wit_model.specs.declared.types.WitType.TheVariants as wit
use Rattle.wit_model.specs.declared.world.World.{World}
use Rattle.wit_model.specs.Members.{has_members}
use Rattle.wit_model.specs.Parts.{parts}
use Rattle.wit_model.specs.Reaches.{Reaches, reaches_itself}
use Rattle.wit_model.specs.WellFormed.{IsWellFormed}
use Rattle.wit_model.proofs.AllLemmas.{all_at}
use Rattle.wit_model.proofs.ReachLemmas.{reaches_on}
use Rattle.wit_model.proofs.WellFormedLemmas.{has_members_at}
use Rattle.rust_tree.specs.declared.type_expr.TypeExpr.{TypeExpr}
use Rattle.rust_tree.specs.declared.type_expr.TypeExpr.TheVariants as type
use Rattle.rust_tree.specs.declared.type_item.TypeItem.{TypeItem}
use Rattle.rust_tree.specs.declared.type_item.TypeItem.TheVariants as item
use Rattle.rust_tree.specs.Ident.{escaped_words, is_ident, is_primitive_name, rust_ident, type_ident}
use Rattle.rust_tree.specs.WellNamed.{are_path_names, is_absent_or, is_line, is_named_alias, is_named_case, is_named_enum, is_named_error, is_named_error_case, is_named_field, is_named_flags, is_named_member, is_named_struct, is_named_type, is_named_type_item, is_named_variant, is_named_variant_case, is_quotable}
use Rattle.type_facts.specs.declared.info.TypeInfo.{TypeInfo}
use Rattle.type_defs.specs.declared.type_opts.TypeOpts.{TypeOpts}
use Rattle.type_defs.specs.Paths.{bitflags_path, bitflags_rest, local_path, runtime_crate}
use Rattle.type_defs.specs.Defined.{AreDefinitions, AreDefinitionsOf, alias_item, entry_definitions, entry_items, field_item, kind_items, record_item}
use Rattle.type_defs.specs.Derives.{clone_name, copy_name, derives_of, enum_derives, eq_name, is_copied, ord_name, partial_eq_name, partial_ord_name}
use Rattle.type_defs.specs.EnumDef.{enum_case, enum_error, enum_item, error_case, error_enum}
use Rattle.type_defs.specs.FlagsDef.{flags_item, flags_member}
use Rattle.type_defs.specs.DefinedNames.{AreDefinable, IsNamedDefinition, are_named_parts}
use Rattle.type_defs.specs.Docs.{doc_lines}
use Rattle.type_defs.specs.ListedTypes.{listed_types}
use Rattle.type_defs.specs.Modes.{is_wanted}
use Rattle.type_defs.specs.WitForm.{is_wit_form}
use Rattle.type_defs.specs.PartType.{part_type, result_type}
use Rattle.type_defs.specs.VariantDef.{variant_case, variant_item}
use Rattle.type_defs.proofs.DefinedLemmas.{definitions-owned, own_definitions}
use Rattle.type_defs.proofs.FunctionTypeLemmas.{all-more}
use Rattle.type_defs.proofs.NamedTextLemmas.{docs-named, wit-quotable}
use Rattle.type_defs.proofs.PartNameLemmas.{alias-part, all_from, case-part, err-part, field-part, ok-part, option-named, option-part, part-named, result-named, tuple-members, tuple-named, tuple-part}

-- names

derive-named : (are_path_names (clone_name ∷ []) ≡ true) × (are_path_names (copy_name ∷ []) ≡ true)
unfolding clone_name copy_name escaped_words
derive-named = (refl, refl)

derives-named : (info : TypeInfo) → list_all (λ path. are_path_names path.names) (derives_of info) ≡ true
derives-named info = go info.has_resource (is_copied info)
  where
    go : (resource copied : Bool) → list_all (λ path. are_path_names path.names) (if resource then [] else local_path clone_name ∷ (if copied then local_path copy_name ∷ [] else [])) ≡ true
    go true copied = refl
    go false true = and_from (are_path_names (clone_name ∷ [])) (are_path_names (copy_name ∷ []) && true) derive-named.0 (and_from (are_path_names (copy_name ∷ [])) true derive-named.1 refl)
    go false false = and_from (are_path_names (clone_name ∷ [])) true derive-named.0 refl

enum_derives-named : list_all (λ path. are_path_names path.names) enum_derives ≡ true
unfolding clone_name copy_name eq_name ord_name partial_eq_name partial_ord_name escaped_words
enum_derives-named = refl

bitflags-named : are_path_names bitflags_path.names ≡ true
unfolding runtime_crate bitflags_rest escaped_words
bitflags-named = refl

-- cases and members

case-named : (c : Member) → is_ident c.name.camel ≡ true → is_named_case (enum_case c) ≡ true
case-named c h = and_from (list_all is_line (doc_lines c.docs)) (is_ident c.name.camel) (docs-named c.docs) h

error_case-named : (c : Member) → (is_ident c.name.camel && is_wit_form c.name.wit) ≡ true → is_named_error_case (error_case c) ≡ true
error_case-named c h =
    let own = and_parts (is_ident c.name.camel) (is_wit_form c.name.wit) h in
    and_from (is_ident c.name.camel) (is_quotable c.name.wit) own.0 (wit-quotable c.name.wit own.1)

member-named : (m : Member) → is_ident m.name.upper ≡ true → is_named_member (flags_member m) ≡ true
member-named m h = and_from (list_all is_line (doc_lines m.docs)) (is_ident m.name.upper) (docs-named m.docs) h

error-named : (info : TypeInfo) (cases : List Member) → are_named_parts (kind.Enum cases) ≡ true → is_absent_or is_named_error (enum_error info cases) ≡ true
error-named info cases h = go info.error
  where
    go : (b : Bool) → is_absent_or is_named_error (if b then Some (error_enum cases) else None) ≡ true
    go false = refl
    go true = list_all-map is_named_error_case error_case cases ∙ all-more (λ c. is_ident c.name.camel && is_wit_form c.name.wit) (λ c. is_named_error_case (error_case c)) error_case-named cases h

enum-named : (info : TypeInfo) (docs : Docs) (name : Bytes) (cases : List Member) → is_ident name ≡ true → are_named_parts (kind.Enum cases) ≡ true → is_named_enum (enum_item info docs name cases) ≡ true
enum-named info docs name cases ident h =
    let lines : Bool = list_all is_line (doc_lines docs) in
    let derived : Bool = list_all (λ path. are_path_names path.names) enum_derives in
    let named : Bool = list_all is_named_case (map enum_case cases) in
    let all : named ≡ true =
    list_all-map is_named_case enum_case cases
    ∙ all-more (λ c. is_ident c.name.camel && is_wit_form c.name.wit) (λ c. is_named_case (enum_case c)) (λ c own. case-named c (and_parts (is_ident c.name.camel) (is_wit_form c.name.wit) own).0) cases h in
    and_from (lines && derived && is_ident name && named) (is_absent_or is_named_error (enum_error info cases))
    (and_from (lines && derived && is_ident name) named (and_from (lines && derived) (is_ident name) (and_from lines derived (docs-named docs) enum_derives-named) ident) all) (error-named info cases h)

flags-named : (docs : Docs) (name : Bytes) (members : List Member) → is_ident name ≡ true → are_named_parts (kind.Flags members) ≡ true → is_named_flags (flags_item docs name members) ≡ true
flags-named docs name members ident h =
    let path : Bool = are_path_names bitflags_path.names in
    let lines : Bool = list_all is_line (doc_lines docs) in
    let named : Bool = list_all is_named_member (map flags_member members) in
    let all : named ≡ true = list_all-map is_named_member flags_member members ∙ all-more (λ m. is_ident m.name.upper) (λ m. is_named_member (flags_member m)) member-named members h in
    and_from (path && lines && is_ident name) named (and_from (path && lines) (is_ident name) (and_from path lines bitflags-named (docs-named docs)) ident) all

-- a type of the table

module _ (r : Resolve) (checked : IsWellFormed r) (id : TypeId) (named : IsNamedDefinition r.types id) where
  abbrev Reached : WitType → Type 0
  Reached ty = Reaches r.types (wit.Id id) ty

  printed-named : (ty : WitType) → Reached ty → is_named_type (part_type r.types ty) ≡ true
  printed-named = part-named r checked (wit.Id id) named.reached

  field-named : (f : Field) → Reached f.ty → (is_ident (rust_ident f.name) && is_wit_form f.name.wit) ≡ true → is_named_field (field_item r.types f) ≡ true
  field-named f reached h =
      let own = and_parts (is_ident (rust_ident f.name)) (is_wit_form f.name.wit) h in
      and_from (list_all is_line (doc_lines f.docs) && is_ident (rust_ident f.name) && is_quotable f.name.wit) (is_named_type (part_type r.types f.ty))
      (and_from (list_all is_line (doc_lines f.docs) && is_ident (rust_ident f.name)) (is_quotable f.name.wit)
      (and_from (list_all is_line (doc_lines f.docs)) (is_ident (rust_ident f.name)) (docs-named f.docs) own.0) (wit-quotable f.name.wit own.1)) (printed-named f.ty reached)

  kind-named : (info : TypeInfo) (entry : TypeDef) (name : Bytes) → slice_get r.types id.0 ≡ Some entry → is_ident name ≡ true → list_all is_named_type_item (kind_items r.types info entry.docs name entry.kind) ≡ true
  kind-named info entry name e ident = go entry.kind refl
    where
      docs : list_all is_line (doc_lines entry.docs) ≡ true
      docs = docs-named entry.docs

      on : (k : TypeDefKind) (nth : ℕ) (ty : WitType) → entry.kind ≡ k → slice_get (parts k) nth ≡ Some (Some ty) → Reached ty
      on k nth ty is at = reaches_on reaches_itself (record { id = id; entry = entry; nth = nth; is_entry = refl; entry_at = e; part_at = ap (λ k. slice_get (parts k) nth) is ∙ at })

      alias : (ty : TypeExpr) → is_named_type ty ≡ true → list_all is_named_type_item (item.Alias (alias_item entry.docs name ty) ∷ []) ≡ true
      alias ty h =
          and_from (is_named_alias (alias_item entry.docs name ty)) true
          (and_from (list_all is_line (doc_lines entry.docs) && is_ident name) (is_named_type ty) (and_from (list_all is_line (doc_lines entry.docs)) (is_ident name) docs ident) h) refl

      struct : (fields : List Field) → entry.kind ≡ kind.Record fields → list_all is_named_type_item (item.Struct (record_item r.types info entry.docs name fields) ∷ []) ≡ true
      struct fields is =
          let known : are_named_parts (kind.Record fields) ≡ true = ap are_named_parts (sym is) ∙ named.parts entry e in
          let all : list_all is_named_field (map (field_item r.types) fields) ≡ true =
          list_all-map is_named_field (field_item r.types) fields
          ∙ all_from (λ f. is_named_field (field_item r.types f)) fields (λ k f at. field-named f (on (kind.Record fields) k f.ty is (field-part fields k f at))
          (all_at (λ f. is_ident (rust_ident f.name) && is_wit_form f.name.wit) fields k f known at)) in
          let derived : Bool = list_all (λ path. are_path_names path.names) (derives_of info) in
          and_from (is_named_struct (record_item r.types info entry.docs name fields)) true
          (and_from (list_all is_line (doc_lines entry.docs) && derived && is_ident name) (list_all is_named_field (map (field_item r.types) fields))
          (and_from (list_all is_line (doc_lines entry.docs) && derived) (is_ident name) (and_from (list_all is_line (doc_lines entry.docs)) derived docs (derives-named info)) ident) all) refl

      payload-named : (cases : List Case) → entry.kind ≡ kind.Variant cases → (k : ℕ) (c : Case) → slice_get cases k ≡ Some c → (o : Option WitType) → c.ty ≡ o → is_absent_or is_named_type (option_map (part_type r.types) o) ≡ true
      payload-named cases is k c at None none = refl
      payload-named cases is k c at (Some ty) some = printed-named ty (on (kind.Variant cases) k ty is (case-part cases k c at ∙ ap Some some))

      variant : (cases : List Case) → entry.kind ≡ kind.Variant cases → list_all is_named_type_item (item.Variant (variant_item r.types info entry.docs name cases) ∷ []) ≡ true
      variant cases is =
          let known : are_named_parts (kind.Variant cases) ≡ true = ap are_named_parts (sym is) ∙ named.parts entry e in
          let one : (k : ℕ) (c : Case) → slice_get cases k ≡ Some c → is_named_variant_case (variant_case r.types c) ≡ true =
          λ k c at. and_from (list_all is_line (doc_lines c.docs) && is_ident c.name.camel) (is_absent_or is_named_type (option_map (part_type r.types) c.ty))
          (and_from (list_all is_line (doc_lines c.docs)) (is_ident c.name.camel) (docs-named c.docs) (all_at (λ c. is_ident c.name.camel) cases k c known at)) (payload-named cases is k c at c.ty refl) in
          let all : list_all is_named_variant_case (map (variant_case r.types) cases) ≡ true =
          list_all-map is_named_variant_case (variant_case r.types) cases ∙ all_from (λ c. is_named_variant_case (variant_case r.types c)) cases one in
          let derived : Bool = list_all (λ path. are_path_names path.names) (derives_of info) in
          and_from (is_named_variant (variant_item r.types info entry.docs name cases)) true
          (and_from (list_all is_line (doc_lines entry.docs) && derived && is_ident name) (list_all is_named_variant_case (map (variant_case r.types) cases))
          (and_from (list_all is_line (doc_lines entry.docs) && derived) (is_ident name) (and_from (list_all is_line (doc_lines entry.docs)) derived docs (derives-named info)) ident) all) refl

      go : (k : TypeDefKind) → entry.kind ≡ k → list_all is_named_type_item (kind_items r.types info entry.docs name k) ≡ true
      go (kind.Record fields) is = struct fields is
      go (kind.Alias ty) is = alias (part_type r.types ty) (printed-named ty (on (kind.Alias ty) 0 ty is (alias-part ty)))
      go (kind.Tuple ms) is =
          alias (type.Tuple (map (part_type r.types) ms))
          (tuple-named (part_type r.types) ms (tuple-members ms (subst (λ k. has_members k ≡ true) is (has_members_at r id.0 entry checked.unbroken e)))
          (λ k ty at. printed-named ty (on (kind.Tuple ms) k ty is (tuple-part ms k ty at))))
      go (kind.Option ty) is = alias (type.Optional (part_type r.types ty)) (option-named (part_type r.types ty) (printed-named ty (on (kind.Option ty) 0 ty is (option-part ty))))
      go (kind.Result ok err) is =
          alias (result_type (part_type r.types) ok err)
          (result-named (part_type r.types) ok err
          (λ ty at. printed-named ty (on (kind.Result (Some ty) err) 0 ty (is ∙ ap (λ o. kind.Result o err) at) (ok-part ty err)))
          (λ ty at. printed-named ty (on (kind.Result ok (Some ty)) 1 ty (is ∙ ap (λ o. kind.Result ok o) at) (err-part ok ty))))
      go (kind.Variant cases) is = variant cases is
      go (kind.Enum cases) is = and_from (is_named_enum (enum_item info entry.docs name cases)) true (enum-named info entry.docs name cases ident (ap are_named_parts (sym is) ∙ named.parts entry e)) refl
      go (kind.Flags members) is = and_from (is_named_flags (flags_item entry.docs name members)) true (flags-named entry.docs name members ident (ap are_named_parts (sym is) ∙ named.parts entry e)) refl
      go _ is = refl

-- the definitions of one type, and of all

one-named : (opts : TypeOpts) (r : Resolve) (w : WorldId) (world : World) (id : TypeId) (own : List TypeItem) → AreDefinable opts r w world → Contains (listed_types world) id → AreDefinitionsOf opts r w id own
    → list_all is_named_type_item own ≡ true
one-named opts r w world id own may listed d = ap (list_all is_named_type_item) d.are ∙ go d.entry.name refl
  where
    by_use : (name : Name) → d.entry.name ≡ Some name → (b : Bool) → is_wanted opts d.info d.entry.kind ≡ b → list_all is_named_type_item (entry_items r.types d.info d.entry (own_definitions b opts d.info name)) ≡ true
    by_use name is true used =
        let n = may.named id d.entry d.info listed d.entry_at d.facts used in
        let ident = (and_parts (is_ident (type_ident name)) (not (is_primitive_name (type_ident name))) (n.reached id d.entry name reaches_itself d.entry_at is)).0 in
        let here : List TypeItem = kind_items r.types d.info d.entry.docs (type_ident name) d.entry.kind in
        ap (list_all is_named_type_item) (append-nil here) ∙ kind-named r may.checked id n d.info d.entry (type_ident name) d.entry_at ident
    by_use name is false used = refl

    go : (o : Option Name) → d.entry.name ≡ o → list_all is_named_type_item (entry_items r.types d.info d.entry (entry_definitions opts d.info d.entry.kind o)) ≡ true
    go None is = refl
    go (Some name) is =
        ap (λ ds. list_all is_named_type_item (entry_items r.types d.info d.entry ds)) (definitions-owned opts d.info d.entry.kind name may.owning)
        ∙ by_use name is (is_wanted opts d.info d.entry.kind) refl

each-named : (opts : TypeOpts) (r : Resolve) (w : WorldId) (world : World) (ids : List TypeId) (owns : List (List TypeItem)) → AreDefinable opts r w world → ((id : TypeId) → Contains ids id → Contains (listed_types world) id)
    → AllZip (AreDefinitionsOf opts r w) ids owns → list_all is_named_type_item (flat_map (λ own. own) owns) ≡ true
each-named opts r w world [] [] may among z = refl
each-named opts r w world [] (own ∷ owns) may among z = absurd z
each-named opts r w world (id ∷ ids) [] may among z = absurd z
each-named opts r w world (id ∷ ids) (own ∷ owns) may among z =
    list_all-append is_named_type_item own (flat_map (λ own. own) owns)
    ∙ and_from (list_all is_named_type_item own) (list_all is_named_type_item (flat_map (λ own. own) owns))
    (one-named opts r w world id own may (among id (0, omega arith, refl)) z.0)
    (each-named opts r w world ids owns may (λ i c. among i (suc c.0, omega (arith, c.1), c.2)) z.1)

pub definitions-named : (opts : TypeOpts) (r : Resolve) (w : WorldId) (world : World) (items : List TypeItem) → AreDefinable opts r w world → AreDefinitions opts r w world items → list_all is_named_type_item items ≡ true
definitions-named opts r w world items may d = ap (list_all is_named_type_item) d.are ∙ each-named opts r w world (listed_types world) d.of_each may (λ i c. c) d.defined
