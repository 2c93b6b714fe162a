-- Under owned types, a type without a handle that borrows has its one definition, in the owned mode, or none.
use Rattle.std.proofs.Common.{◌≡◌, Bool, true, false, cond, ◌&&◌, ◌||◌, List, [], ◌∷◌, ◌++◌, Option, None, Some, refl, sym, ap, ◌∙◌, append_assoc, append-nil}
use Rattle.std.specs.Prelude.{if◌then◌else◌, slice_get}
use Rattle.std.specs.List.{flat_map}
use Rattle.std.proofs.lemmas.Bool.{both_ways, false_from_ne_true, or_right}
use Rattle.wit_model.specs.Bytes.{Bytes}
use Rattle.wit_model.specs.declared.name.Name.{Name}
use Rattle.wit_model.specs.declared.types.TypeDefKind.{TypeDefKind}
use Rattle.wit_model.specs.declared.types.TypeDefKind.TheVariants as kind
use Rattle.wit_model.specs.declared.name.TypeId.{TypeId}
use Rattle.wit_model.specs.declared.name.WorldId.{WorldId}
use Rattle.wit_model.specs.declared.resolve.Resolve.{Resolve}
use Rattle.wit_model.specs.declared.types.TypeDef.{TypeDef}
use Rattle.wit_model.specs.declared.types.WitType.{WitType}
use Rattle.wit_model.specs.declared.types.WitType.TheVariants as wit
use Rattle.type_facts.specs.declared.info.TypeInfo.{TypeInfo}
use Rattle.type_facts.specs.Facts.{IsInfoOf}
use Rattle.type_facts.specs.Own.{is_borrow_handle, own, own_of_entry}
use Rattle.rust_tree.specs.declared.type_item.TypeItem.{TypeItem}
use Rattle.rust_tree.specs.Ident.{type_ident}
use Rattle.type_defs.specs.declared.type_opts.TypeOpts.{TypeOpts}
use Rattle.type_defs.specs.declared.ownership.Ownership.{Ownership}
use Rattle.type_defs.specs.declared.ownership.Ownership.TheVariants.{Owning, Borrowing}
use Rattle.type_defs.specs.Modes.{is_owning, Borrowed, Defined, Mode, Owned, decided_lifetime, definitions, is_always_defined, is_same_mode, is_same_style, is_used, is_wanted, mode_by, mode_of_type, owned_mode, owned_name, used_definitions}
use Rattle.type_defs.specs.Defined.{are_defined_kinds, are_owned_modes, entry_definitions, entry_items, is_defined_kind, kind_items}
use Rattle.wit_model.proofs.AllLemmas.{all_at}

own-style : (b : Bool) → is_same_style (if b then Owned else Owned) Owned ≡ true
own-style true = refl
own-style false = refl

own-mode : (o : Ownership) (info : TypeInfo) → info.has_borrow_handle ≡ false → is_same_mode (mode_of_type o info Owned Defined) owned_mode ≡ true
unfolding mode_of_type
own-mode o info e =
    let decided : decided_lifetime o info Owned Defined ≡ Some None = ap (λ b. cond b (Some (Some Defined)) (Some None)) e in
    ap (λ d. is_same_mode (mode_by info Owned Defined d) owned_mode) decided ∙ own-style info.has_own_handle

-- under owned types
one-used : (o : Ownership) (info : TypeInfo) (name : Name) (owned lent : Mode) → is_owning o ≡ true → used_definitions o info name owned lent ≡ (type_ident name, owned) ∷ []
one-used Owning info name owned lent e = ap (λ b. cond b ((type_ident name, owned) ∷ []) ((type_ident name, lent) ∷ [])) (or_right (is_same_mode owned lent || info.owned) true refl)
one-used (Borrowing duplicates) info name owned lent e = absurd (cc)

owned-named : (o : Ownership) (info : TypeInfo) (name : Name) → is_owning o ≡ true → owned_name o info name ≡ type_ident name
owned-named Owning info name e = refl
owned-named (Borrowing duplicates) info name e = absurd (cc)

abbrev pub own_definitions : Bool → TypeOpts → TypeInfo → Name → List (Bytes × Mode)
own_definitions defined opts info name = if defined then (type_ident name, mode_of_type opts.ownership info Owned Defined) ∷ [] else []

pub definitions-owned : (opts : TypeOpts) (info : TypeInfo) (kind : TypeDefKind) (name : Name) → is_owning opts.ownership ≡ true → definitions opts info kind name ≡ own_definitions (is_wanted opts info kind) opts info name
unfolding definitions
definitions-owned opts info kind name owning = go (is_always_defined kind)
  where
    owned : Mode
    owned = mode_of_type opts.ownership info Owned Defined

    lent : Mode
    lent = mode_of_type opts.ownership info Borrowed Defined

    used : List (Bytes × Mode)
    used = used_definitions opts.ownership info name owned lent

    wanted : Bool
    wanted = is_used info || opts.generate_unused_types

    go : (b : Bool) → cond b ((owned_name opts.ownership info name, owned) ∷ []) (cond wanted used []) ≡ own_definitions (b || wanted) opts info name
    go true = ap (λ n. (n, owned) ∷ []) (owned-named opts.ownership info name owning)
    go false = ap (λ ds. cond wanted ds []) (one-used opts.ownership info name owned lent owning)

pub definitions-modes : (b : Bool) (opts : TypeOpts) (info : TypeInfo) (name : Name) → info.has_borrow_handle ≡ false → are_owned_modes (own_definitions b opts info name) ≡ true
definitions-modes true opts info name e = ap (λ b. b && true) (own-mode opts.ownership info e)
definitions-modes false opts info name e = refl

-- no type of the defined kinds is a handle

no-borrow : (kind : TypeDefKind) → is_defined_kind kind ≡ true → is_borrow_handle kind ≡ false
no-borrow (kind.Alias ty) e = refl
no-borrow (kind.Record fields) e = refl
no-borrow (kind.Tuple parts) e = refl
no-borrow (kind.Option ty) e = refl
no-borrow (kind.Result ok err) e = refl
no-borrow (kind.Variant cases) e = refl
no-borrow (kind.Enum cases) e = refl
no-borrow (kind.Flags members) e = refl
no-borrow _ e = absurd (cc)

none-borrows : (types : List TypeDef) (ty : WitType) → are_defined_kinds types ≡ true → (own types ty).borrow_handle ≡ false
none-borrows types (wit.Id id) kinds = go (slice_get types id.0) refl
  where
    go : (o : Option TypeDef) → slice_get types id.0 ≡ o → (own_of_entry o).borrow_handle ≡ false
    go None e = refl
    go (Some entry) e = no-borrow entry.kind (all_at (λ t. is_defined_kind t.kind) types id.0 entry kinds e)
none-borrows types _ kinds = refl

pub facts-owned : (r : Resolve) (world : WorldId) (id : TypeId) (info : TypeInfo) → are_defined_kinds r.types ≡ true → IsInfoOf r world id info → info.has_borrow_handle ≡ false
facts-owned r world id info kinds facts =
    false_from_ne_true info.has_borrow_handle (λ e.
    let has = facts.has_borrow_handle.0 e in both_ways (own r.types has.part).borrow_handle (none-borrows r.types has.part kinds) has.so)

-- the definitions of an entry

pub entry-modes : (opts : TypeOpts) (info : TypeInfo) (kind : TypeDefKind) (o : Option Name) → is_owning opts.ownership ≡ true → info.has_borrow_handle ≡ false
    → are_owned_modes (entry_definitions opts info kind o) ≡ true
entry-modes opts info kind None owning e = refl
entry-modes opts info kind (Some name) owning e = ap are_owned_modes (definitions-owned opts info kind name owning) ∙ definitions-modes (is_wanted opts info kind) opts info name e

abbrev pub items_where : Bool → List TypeDef → TypeInfo → TypeDef → Name → List TypeItem
items_where defined types info entry name = if defined then kind_items types info entry.docs (type_ident name) entry.kind else []

pub entry-items : (opts : TypeOpts) (types : List TypeDef) (info : TypeInfo) (entry : TypeDef) (name : Name) (b : Bool) → is_owning opts.ownership ≡ true → entry.name ≡ Some name
    → is_wanted opts info entry.kind ≡ b → entry_items types info entry (entry_definitions opts info entry.kind entry.name) ≡ items_where b types info entry name
entry-items opts types info entry name b owning is used =
    ap (λ o. entry_items types info entry (entry_definitions opts info entry.kind o)) is
    ∙ ap (entry_items types info entry) (definitions-owned opts info entry.kind name owning) ∙ ap (λ b. entry_items types info entry (own_definitions b opts info name)) used ∙ go b
  where
    go : (b : Bool) → entry_items types info entry (own_definitions b opts info name) ≡ items_where b types info entry name
    go true = append-nil (kind_items types info entry.docs (type_ident name) entry.kind)
    go false = refl

-- one more type

pub own-more : (owns : List (List TypeItem)) (own : List TypeItem) → flat_map (λ own. own) (owns ++ own ∷ []) ≡ flat_map (λ own. own) owns ++ own
own-more [] own = append-nil own
own-more (x ∷ owns) own = ap (λ is. x ++ is) (own-more owns own) ∙ sym (append_assoc x (flat_map (λ own. own) owns) own)
