-- A type whose named parts have their definitions in a file is printed there as its shape.
use Rattle.std.proofs.Common.{◌≡◌, ℕ, zero, suc, ◌+◌, ◌<◌, ◌≤◌, nat_le, Bool, true, false, cond, not, ◌||◌, List, [], ◌∷◌, length, map, Option, None, Some, is_some, refl, sym, ap, ◌∙◌, subst, arith}
use Rattle.std.specs.Prelude.{slice_get}
use Rattle.std.specs.List.{list_all}
use Rattle.std.specs.Option.{option_map}
use Rattle.std.proofs.lemmas.List.{length-map}
use Rattle.std.proofs.lemmas.Option.{slice_get_within}
use Rattle.wit_model.specs.declared.name.Name.{Name}
use Rattle.wit_model.specs.declared.name.TypeId.{TypeId}
use Rattle.wit_model.specs.declared.types.Case.{Case}
use Rattle.wit_model.specs.declared.types.Field.{Field}
use Rattle.wit_model.specs.declared.types.Member.{Member}
use Rattle.wit_model.specs.declared.types.TypeDef.{TypeDef}
use Rattle.wit_model.specs.declared.types.TypeDefKind.{TypeDefKind}
use Rattle.wit_model.specs.declared.types.TypeDefKind.TheVariants as kind
use Rattle.wit_model.specs.declared.types.WitType.{WitType}
use Rattle.wit_model.specs.declared.types.WitType.TheVariants as wit
use Rattle.wit_model.specs.Parts.{parts}
use Rattle.wit_model.specs.Reaches.{Names, Reaches, reaches_by, reaches_itself}
use Rattle.wit_model.specs.TypeOrder.{GoesDown, parts_below, payload_below, type_below}
use Rattle.wit_model.proofs.AllLemmas.{all_at}
use Rattle.wit_model.proofs.BelowLemmas.{id_below, type_below_more}
use Rattle.wit_layout.proofs.FlattenSteps.{rank}
use Rattle.rust_tree.specs.Ident.{type_ident}
use Rattle.rust_tree.specs.declared.flags_item.FlagsItem.{FlagsItem}
use Rattle.rust_tree.specs.declared.item.Item.{Item}
use Rattle.rust_tree.specs.declared.repr.Repr.TheVariants as repr
use Rattle.rust_tree.specs.declared.type_expr.Primitive.{Primitive}
use Rattle.rust_tree.specs.declared.type_expr.Primitive.TheVariants as prim
use Rattle.rust_tree.specs.declared.type_expr.TypeExpr.{TypeExpr, out-TypeExpr}
use Rattle.rust_tree.specs.declared.type_expr.TypeExpr.TheVariants as type
use Rattle.rust_tree.specs.declared.type_item.StructItem.{StructItem}
use Rattle.rust_tree.specs.declared.type_item.TypeItem.{TypeItem}
use Rattle.rust_tree.specs.declared.type_item.TypeItem.TheVariants.{Alias, Enum, Flags, Struct, Variant}
use Rattle.type_defs.specs.Defined.{alias_item, are_defined_kinds, field_item, have_defined_parts, is_defined_kind, is_defined_part, is_defined_type, kind_items, record_item}
use Rattle.type_defs.specs.EnumDef.{enum_case, enum_item}
use Rattle.type_defs.specs.FlagsDef.{flags_item, flags_member, flags_repr}
use Rattle.type_defs.specs.PartType.{entry_type, part_type, payload_type, result_type, unnamed_type}
use Rattle.type_defs.specs.Paths.{local_path}
use Rattle.type_defs.specs.TypeNames.{are_type_names, needs_name}
use Rattle.type_defs.specs.VariantDef.{variant_case, variant_item}
use Rattle.wrapper_meaning.specs.Numbers.{flags_width}
use Rattle.wrapper_meaning.specs.Shape.{Shape, bare, is_nothing, payloads_in, shape_of, shapes}
use Rattle.wrapper_meaning.specs.Shape.Shape.{cases, fields, fixed, flags, handle, list, other, pairs, resource, scalar, text, tuple}
use Rattle.wrapper_values.specs.Typed.{behind, definition_in, target_in, target_of, unaliased}
use Rattle.wrapper_values.specs.Flags.{repr_bits}
use Rattle.abi_bindgen.specs.Cases.{payloads_of}
use Rattle.abi_bindgen.specs.Instructions.{field_shapes, has_cases, shapes_of}
use Rattle.abi_bindgen.proofs.Payloads.{variant_shape}
use Rattle.abi_bindgen.proofs.Records.{alias_rank, alias_shape, enum_shape, flags_shape, record_shape, tuple_shape}
use Rattle.wrapper_closing.proofs.PrintedAnswers.{bare_printed}
use Rattle.wrapper_closing.specs.PrintedAs.{ArePrintedAs, ArePrintedCases, HavePayloads, IsPrintedAs, scalar_type}
use Rattle.type_sites.proofs.Definitions.{IsDefinedIn}
use Rattle.type_sites.proofs.PartTypes.{printed-entry}
use Rattle.type_sites.proofs.PrintedForms.{optional-ends, optional-payloads, path-definition, path-payloads, primitive-ends, result-ends, result-payloads, stays, steps, string-ends, tuple-ends}
use Rattle.wit_layout.proofs.AheadTurns.{entry_at}

-- 1. Members

-- parts of a kind, by its members
pub mapped : (tys : List WitType) (nth : ℕ) (ty : WitType) → slice_get tys nth ≡ Some ty → slice_get (map (λ ty. Some ty) tys) nth ≡ Some (Some ty)
mapped [] nth ty e = absurd (cc)
mapped (t ∷ tys) zero ty e = let is : t ≡ ty = cc in ap (λ ty. Some (Some ty)) is
mapped (t ∷ tys) (suc nth) ty e = mapped tys nth ty e

pub mapped-fields : (members : List Field) (nth : ℕ) (ty : WitType) → slice_get (map (λ f. f.ty) members) nth ≡ Some ty → slice_get (map (λ f. Some f.ty) members) nth ≡ Some (Some ty)
mapped-fields [] nth ty e = absurd (cc)
mapped-fields (f ∷ members) zero ty e = let is : f.ty ≡ ty = cc in ap (λ ty. Some (Some ty)) is
mapped-fields (f ∷ members) (suc nth) ty e = mapped-fields members nth ty e

-- a flags type is held by as many bits as its values have
pub flags-held : (n : ℕ) → repr_bits (flags_repr n) ≡ flags_width n
flags-held n = go (nat_le n 8) (nat_le n 16) (nat_le n 32) (nat_le n 64)
  where
    go : (a b c d : Bool) → repr_bits (cond a repr.U8 (cond b repr.U16 (cond c repr.U32 (cond d repr.U64 repr.U128)))) ≡ cond a 8 (cond b 16 (cond c 32 (cond d 64 128)))
    go true b c d = refl
    go false true c d = refl
    go false false true d = refl
    go false false false true = refl
    go false false false false = refl

-- 2. What a type ends in

module _ (types : List TypeDef) (items : List Item) (count : ℕ → ℕ) where
  -- the printed type of a shape, behind all aliases
  abbrev IsEnd : Shape → TypeExpr → Type 0
  IsEnd (scalar s) ty = ty ≡ scalar_type s
  IsEnd text ty = ty ≡ type.String
  IsEnd (tuple ts) ty = (tys : List TypeExpr) × (ty ≡ type.Tuple tys) × ArePrintedAs items ts tys
  IsEnd (fields ts) ty = (s : StructItem) × (definition_in items (out-TypeExpr ty) ≡ Some (Struct s)) × ArePrintedAs items ts (map (λ f. f.ty) s.fields)
  IsEnd (cases ts) ty = (payloads : List (Option TypeExpr)) × HavePayloads items (out-TypeExpr ty) payloads × ArePrintedCases items ts payloads
  IsEnd (flags n) ty = (f : FlagsItem) × (definition_in items (out-TypeExpr ty) ≡ Some (Flags f)) × (length f.members ≡ n) × (repr_bits f.repr ≡ flags_width n)
  IsEnd _ ty = ⊥

  -- a type is the same behind its aliases whenever the items suffice for them
  record Ends (ty : WitType) : Type 0 where
    last : TypeExpr
    reached : (more : List Item) → count (rank ty) ≤ length more → behind more items (part_type types ty) ≡ last
    is : IsEnd (shape_of types ty) last

  ended : (t : Shape) (ty : TypeExpr) → IsEnd t (unaliased items ty) → IsPrintedAs items t ty
  ended (scalar s) ty h = h
  ended text ty h = h
  ended (tuple ts) ty h = h
  ended (fields ts) ty h = h
  ended (list t) ty h = h
  ended (pairs k v) ty h = h
  ended (fixed t n) ty h = h
  ended (cases ts) ty h = h
  ended (flags n) ty h = h
  ended (handle owns n) ty h = h
  ended (resource n) ty h = h
  ended other ty h = h

  module _ (most : (n : ℕ) → count n ≤ length items) where
    printed : (ty : WitType) → Ends ty → IsPrintedAs items (shape_of types ty) (part_type types ty)
    printed ty e = ended (shape_of types ty) (part_type types ty) (subst (IsEnd (shape_of types ty)) (sym (e.reached items (most (rank ty)))) e.is)

    all-printed : (tys : List WitType) → ((nth : ℕ) (ty : WitType) → slice_get tys nth ≡ Some ty → Ends ty) → ArePrintedAs items (shapes_of types tys) (map (part_type types) tys)
    all-printed [] h = tt
    all-printed (ty ∷ tys) h = (printed ty (h 0 ty refl), all-printed tys (λ nth ty e. h (suc nth) ty e))

    -- payloads, each of which is something
    cases-printed : (payloads : List (Option WitType)) → ((nth : ℕ) (ty : WitType) → slice_get payloads nth ≡ Some (Some ty) → Ends ty × (is_nothing (shape_of types ty) ≡ false))
        → ArePrintedCases items (payloads_in (shapes types) payloads) (map (option_map (part_type types)) payloads)
    cases-printed [] h = tt
    cases-printed (None ∷ payloads) h = (refl, cases-printed payloads (λ nth ty e. h (suc nth) ty e))
    cases-printed (Some ty ∷ payloads) h = let one = h 0 ty refl in (one.1, printed ty one.0, cases-printed payloads (λ nth ty e. h (suc nth) ty e))

  primitive : (ty : WitType) (p : Primitive) → part_type types ty ≡ type.Primitive p → IsEnd (shape_of types ty) (type.Primitive p) → Ends ty
  primitive ty p is end = record { last = type.Primitive p; reached = λ more _. ap (behind more items) is ∙ stays items more (type.Primitive p) (primitive-ends items p); is = end }

  string : Ends wit.String
  unfolding part_type
  string = record { last = type.String; reached = λ more _. stays items more type.String (string-ends items); is = refl }

  -- 3. An entry of the table

  module _ (down : GoesDown types) (kinds : are_defined_kinds types ≡ true) (sound : have_defined_parts types ≡ true) (some : (ty : WitType) → type_below (length types) ty ≡ true → is_nothing (shape_of types ty) ≡ false)
      (names : are_type_names types ≡ true) (grows : (n m : ℕ) → n ≤ m → count n ≤ count m) (most : (n : ℕ) → count n ≤ length items) where
    -- each named type that it reaches has its definition
    abbrev pub AreReachedDefined : WitType → Type 0
    AreReachedDefined ty = (part : TypeId) (entry : TypeDef) (name : Name) → Reaches types ty (wit.Id part) → slice_get types part.0 ≡ Some entry → entry.name ≡ Some name → IsDefinedIn types items count part.0 entry (type_ident name)

    module _ (id : TypeId) (entry : TypeDef) (at : slice_get types id.0 ≡ Some entry) (all : AreReachedDefined (wit.Id id))
        (further : (ty : WitType) → type_below id.0 ty ≡ true → is_defined_type ty ≡ true → AreReachedDefined ty → Ends ty) where
      part-below : (nth : ℕ) (ty : WitType) → slice_get (parts entry.kind) nth ≡ Some (Some ty) → type_below id.0 ty ≡ true
      unfolding parts_below payload_below
      part-below nth ty part = all_at (λ part. payload_below id.0 part) (parts entry.kind) nth (Some ty) (down id.0 entry at) part

      -- of each part of its kind
      part-ends : (nth : ℕ) (ty : WitType) → slice_get (parts entry.kind) nth ≡ Some (Some ty) → Ends ty
      part-ends nth ty part =
          let names : Names types (wit.Id id) ty = record { id = id; entry = entry; nth = nth; is_entry = refl; entry_at = at; part_at = part } in
          let defined : is_defined_part (Some ty) ≡ true =
          all_at is_defined_part (parts entry.kind) nth (Some ty) (all_at (λ (entry : TypeDef). list_all is_defined_part (parts entry.kind)) types id.0 entry sound at) part in
          further ty (part-below nth ty part) defined (λ part entry name reaches at named. all part entry name (reaches_by names reaches) at named)

      -- and each of them is something
      part-some : (nth : ℕ) (ty : WitType) → slice_get (parts entry.kind) nth ≡ Some (Some ty) → is_nothing (shape_of types ty) ≡ false
      part-some nth ty part = let within = slice_get_within types id.0 entry at in some ty (type_below_more id.0 (length types) ty (omega (arith, within)) (part-below nth ty part))

      alias-ends : (ty : WitType) → entry.kind ≡ kind.Alias ty → Ends ty
      unfolding parts
      alias-ends ty e = part-ends 0 ty (ap (λ k. slice_get (parts k) 0) e)

      -- tuples, options and results, under their own names or none, and the cases of variants

      tuple-printed : (tys : List WitType) → entry.kind ≡ kind.Tuple tys → ArePrintedAs items (shapes_of types tys) (map (part_type types) tys)
      unfolding parts
      tuple-printed tys e = all-printed most tys (λ nth ty is. part-ends nth ty (ap (λ k. slice_get (parts k) nth) e ∙ mapped tys nth ty is))

      tuple-end : (tys : List WitType) → entry.kind ≡ kind.Tuple tys → IsEnd (shape_of types (wit.Id id)) (type.Tuple (map (part_type types) tys))
      tuple-end tys e = subst (λ t. IsEnd t (type.Tuple (map (part_type types) tys))) (sym (tuple_shape types down id.0 entry at tys e)) (map (part_type types) tys, refl, tuple-printed tys e)

      payloads-printed : (k : TypeDefKind) (payloads : List (Option WitType)) → entry.kind ≡ k → parts k ≡ payloads → ArePrintedCases items (payloads_in (shapes types) payloads) (map (option_map (part_type types)) payloads)
      payloads-printed k payloads e are =
          cases-printed most payloads (λ nth ty is. let part = ap (λ k. slice_get (parts k) nth) e ∙ ap (λ (ps : List (Option WitType)). slice_get ps nth) are ∙ is in (part-ends nth ty part, part-some nth ty part))

      cases-end : (k : TypeDefKind) (last : TypeExpr) (payloads : List (Option TypeExpr)) → entry.kind ≡ k → has_cases k ≡ true → HavePayloads items (out-TypeExpr last) payloads
          → ArePrintedCases items (payloads_in (shapes types) (payloads_of k)) payloads → IsEnd (shape_of types (wit.Id id)) last
      cases-end k last payloads e has have are = subst (λ t. IsEnd t last) (sym (variant_shape types down id.0 k (record { entry = entry; stands = at; kind = e }) has)) (payloads, have, are)

      option-end : (ty : WitType) → entry.kind ≡ kind.Option ty → IsEnd (shape_of types (wit.Id id)) (type.Optional (part_type types ty))
      unfolding parts
      option-end ty e =
          let payload = payloads-printed (kind.Option ty) (Some ty ∷ []) e refl in
          cases-end (kind.Option ty) (type.Optional (part_type types ty)) (None ∷ Some (part_type types ty) ∷ []) e refl (optional-payloads items (part_type types ty)) (refl, payload)

      result-end : (ok err : Option WitType) → entry.kind ≡ kind.Result ok err → IsEnd (shape_of types (wit.Id id)) (result_type (part_type types) ok err)
      unfolding parts
      result-end ok err e =
          cases-end (kind.Result ok err) (result_type (part_type types) ok err) (option_map (part_type types) ok ∷ option_map (part_type types) err ∷ []) e refl (result-payloads items (part_type types) ok err)
          (payloads-printed (kind.Result ok err) (ok ∷ err ∷ []) e refl)

      -- without a name
      here : (k : TypeDefKind) (n : Option Name) → entry.kind ≡ k → entry.name ≡ n → part_type types (wit.Id id) ≡ entry_type (part_type types) k n
      here k n e named = printed-entry types down id entry at ∙ ap (λ k. entry_type (part_type types) k entry.name) e ∙ ap (entry_type (part_type types) k) named

      unnamed-alias : (ty : WitType) → entry.kind ≡ kind.Alias ty → entry.name ≡ None → Ends (wit.Id id)
      unnamed-alias ty e named =
          let target = alias-ends ty e in
          let lower = alias_rank types down id.0 entry at ty e in
          record {
            last = target.last;
            reached = λ more enough.
                let fewer = grows (rank ty) (rank (wit.Id id)) (omega (arith, lower)) in
                ap (behind more items) (here (kind.Alias ty) None e named) ∙ target.reached more (omega (arith, fewer, enough));
            is = subst (λ t. IsEnd t target.last) (sym (alias_shape types down id.0 entry at ty e)) target.is;
          }

      -- of a form that is no alias
      unnamed-form : (k : TypeDefKind) → entry.kind ≡ k → entry.name ≡ None → target_of items (unnamed_type (part_type types) k) ≡ None → IsEnd (shape_of types (wit.Id id)) (unnamed_type (part_type types) k) → Ends (wit.Id id)
      unnamed-form k e named none end = record {
        last = unnamed_type (part_type types) k;
        reached = λ more enough. ap (behind more items) (here k None e named) ∙ stays items more (unnamed_type (part_type types) k) none;
        is = end;
      }

      -- a record has a name, and so have a variant, an enum and a flags type
      unnamed-none : (k : TypeDefKind) → needs_name k ≡ true → entry.kind ≡ k → entry.name ≡ None → ⊥
      unfolding are_type_names
      unnamed-none k needs e named =
          let has : (not (needs_name entry.kind) || is_some entry.name) ≡ true = all_at (λ (t : TypeDef). not (needs_name t.kind) || is_some t.name) types id.0 entry names at in
          let no : false ≡ true = sym (ap (λ k. not (needs_name k) || is_some entry.name) e ∙ ap (λ b. not b || is_some entry.name) needs ∙ ap (λ n. is_some n) named) ∙ has in
          cc

      -- under its own name
      module _ (name : Name) (named : entry.name ≡ Some name) where
        definition : IsDefinedIn types items count id.0 entry (type_ident name)
        definition = all id entry name reaches_itself at named

        path : TypeExpr
        path = type.Path (local_path (type_ident name))

        item-is : (k : TypeDefKind) (i : TypeItem) → entry.kind ≡ k → kind_items types definition.info entry.docs (type_ident name) k ≡ i ∷ [] → definition_in items (out-TypeExpr path) ≡ Some i
        unfolding path
        item-is k i e are =
            let both : i ∷ [] ≡ definition.item ∷ [] = sym are ∙ sym (ap (kind_items types definition.info entry.docs (type_ident name)) e) ∙ definition.is in
            let same : i ≡ definition.item = cc in
            path-definition items (type_ident name) ∙ definition.found ∙ ap (λ (i : TypeItem). Some i) (sym same)

        alias-target : (k : TypeDefKind) (target : TypeExpr) → entry.kind ≡ k → kind_items types definition.info entry.docs (type_ident name) k ≡ Alias (alias_item entry.docs (type_ident name) target) ∷ []
            → target_of items path ≡ Some target
        alias-target k target e are = ap target_in (item-is k (Alias (alias_item entry.docs (type_ident name) target)) e are)

        -- one item more is left for it than for what it is another name of
        counts : count id.0 < count (rank (wit.Id id))
        counts = let same : id.0 + 1 ≡ suc id.0 = omega arith in subst (λ n. count id.0 < count n) (sym same) definition.counted

        printed-path : (k : TypeDefKind) → entry.kind ≡ k → part_type types (wit.Id id) ≡ path
        unfolding path
        printed-path k e = here k (Some name) e named

        named-alias : (ty : WitType) → entry.kind ≡ kind.Alias ty → Ends (wit.Id id)
        named-alias ty e =
            let target = alias-ends ty e in
            let lower = grows (rank ty) id.0 (alias_rank types down id.0 entry at ty e) in
            record {
              last = target.last;
              reached = λ more enough.
                  ap (behind more items) (printed-path (kind.Alias ty) e)
                  ∙ steps items more path (part_type types ty) target.last (alias-target (kind.Alias ty) (part_type types ty) e refl) (omega (arith, counts, enough)) (λ later le. target.reached later (omega (arith, lower, counts, enough, le)));
              is = subst (λ t. IsEnd t target.last) (sym (alias_shape types down id.0 entry at ty e)) target.is;
            }

        -- of a form that is no alias
        named-form : (k : TypeDefKind) (form : TypeExpr) → entry.kind ≡ k → kind_items types definition.info entry.docs (type_ident name) k ≡ Alias (alias_item entry.docs (type_ident name) form) ∷ [] → target_of items form ≡ None
            → IsEnd (shape_of types (wit.Id id)) form → Ends (wit.Id id)
        named-form k form e are none end = record {
          last = form;
          reached = λ more enough. ap (behind more items) (printed-path k e) ∙ steps items more path form form (alias-target k form e are) (omega (arith, counts, enough)) (λ later le. stays items later form none);
          is = end;
        }

        -- by an item that is no alias
        named-item : (k : TypeDefKind) (i : TypeItem) → entry.kind ≡ k → definition_in items (out-TypeExpr path) ≡ Some i → target_in (Some i) ≡ None → IsEnd (shape_of types (wit.Id id)) path → Ends (wit.Id id)
        named-item k i e is none end = record { last = path; reached = λ more enough. ap (behind more items) (printed-path k e) ∙ stays items more path (ap target_in is ∙ none); is = end }

        field-types : (members : List Field) → map (λ f. f.ty) (map (field_item types) members) ≡ map (part_type types) (map (λ f. f.ty) members)
        field-types [] = refl
        field-types (f ∷ members) = ap (λ tys. part_type types f.ty ∷ tys) (field-types members)

        named-record : (members : List Field) → entry.kind ≡ kind.Record members → Ends (wit.Id id)
        unfolding parts
        named-record members e =
            let struct : StructItem = record_item types definition.info entry.docs (type_ident name) members in
            let is : definition_in items (out-TypeExpr path) ≡ Some (Struct struct) = item-is (kind.Record members) (Struct struct) e refl in
            let printed_fields : ArePrintedAs items (field_shapes types members) (map (part_type types) (map (λ f. f.ty) members)) =
            all-printed most (map (λ f. f.ty) members) (λ nth ty there. part-ends nth ty (ap (λ k. slice_get (parts k) nth) e ∙ mapped-fields members nth ty there)) in
            let end : IsEnd (fields (field_shapes types members)) path = (struct, is, subst (ArePrintedAs items (field_shapes types members)) (sym (field-types members)) printed_fields) in
            named-item (kind.Record members) (Struct struct) e is refl (subst (λ t. IsEnd t path) (sym (record_shape types down id.0 entry at members e)) end)

        case-types : (members : List Case) → map (λ c. c.ty) (map (variant_case types) members) ≡ map (option_map (part_type types)) (map (λ c. c.ty) members)
        case-types [] = refl
        case-types (c ∷ members) = ap (λ payloads. option_map (part_type types) c.ty ∷ payloads) (case-types members)

        named-variant : (members : List Case) → entry.kind ≡ kind.Variant members → Ends (wit.Id id)
        unfolding parts path
        named-variant members e =
            let variant : TypeItem = Variant (variant_item types definition.info entry.docs (type_ident name) members) in
            let is : definition_in items (out-TypeExpr path) ≡ Some variant = item-is (kind.Variant members) variant e refl in
            let payloads : List (Option TypeExpr) = map (option_map (part_type types)) (map (λ c. c.ty) members) in
            let have : HavePayloads items (out-TypeExpr path) payloads = path-payloads items (type_ident name) variant payloads is (ap (λ ps. Some ps) (case-types members)) in
            named-item (kind.Variant members) variant e is refl (cases-end (kind.Variant members) path payloads e refl have (payloads-printed (kind.Variant members) (map (λ c. c.ty) members) e refl))

        named-enum : (members : List Member) → entry.kind ≡ kind.Enum members → Ends (wit.Id id)
        unfolding path
        named-enum members e =
            let enum : TypeItem = Enum (enum_item definition.info entry.docs (type_ident name) members) in
            let is : definition_in items (out-TypeExpr path) ≡ Some enum = item-is (kind.Enum members) enum e refl in
            let payloads : List (Option TypeExpr) = map (λ c. None) (map enum_case members) in
            let end : IsEnd (cases (bare members)) path = (payloads, path-payloads items (type_ident name) enum payloads is refl, bare_printed items enum_case members) in
            named-item (kind.Enum members) enum e is refl (subst (λ t. IsEnd t path) (sym (enum_shape types down id.0 entry at members e)) end)

        named-flags : (members : List Member) → entry.kind ≡ kind.Flags members → Ends (wit.Id id)
        named-flags members e =
            let item : FlagsItem = flags_item entry.docs (type_ident name) members in
            let is : definition_in items (out-TypeExpr path) ≡ Some (Flags item) = item-is (kind.Flags members) (Flags item) e refl in
            let end : IsEnd (flags (length members)) path = (item, is, length-map members flags_member, flags-held (length members)) in
            named-item (kind.Flags members) (Flags item) e is refl (subst (λ t. IsEnd t path) (sym (flags_shape types down id.0 entry at members e)) end)

      -- by its kind, with a name or without
      entry-ends : Ends (wit.Id id)
      entry-ends = go entry.kind entry.name refl refl (all_at (λ (t : TypeDef). is_defined_kind t.kind) types id.0 entry kinds at)
        where
          go : (k : TypeDefKind) (n : Option Name) → entry.kind ≡ k → entry.name ≡ n → is_defined_kind entry.kind ≡ true → Ends (wit.Id id)
          go (kind.Alias ty) None e named h = unnamed-alias ty e named
          go (kind.Tuple tys) None e named h = unnamed-form (kind.Tuple tys) e named (tuple-ends items (map (part_type types) tys)) (tuple-end tys e)
          go (kind.Option ty) None e named h = unnamed-form (kind.Option ty) e named (optional-ends items (part_type types ty)) (option-end ty e)
          go (kind.Result ok err) None e named h = unnamed-form (kind.Result ok err) e named (result-ends items (payload_type (part_type types) ok) (payload_type (part_type types) err)) (result-end ok err e)
          go (kind.Record members) None e named h = absurd (unnamed-none (kind.Record members) refl e named)
          go (kind.Variant members) None e named h = absurd (unnamed-none (kind.Variant members) refl e named)
          go (kind.Enum members) None e named h = absurd (unnamed-none (kind.Enum members) refl e named)
          go (kind.Flags members) None e named h = absurd (unnamed-none (kind.Flags members) refl e named)
          go (kind.Alias ty) (Some name) e named h = named-alias name named ty e
          go (kind.Tuple tys) (Some name) e named h = named-form name named (kind.Tuple tys) (type.Tuple (map (part_type types) tys)) e refl (tuple-ends items (map (part_type types) tys)) (tuple-end tys e)
          go (kind.Option ty) (Some name) e named h = named-form name named (kind.Option ty) (type.Optional (part_type types ty)) e refl (optional-ends items (part_type types ty)) (option-end ty e)
          go (kind.Result ok err) (Some name) e named h =
              named-form name named (kind.Result ok err) (result_type (part_type types) ok err) e refl (result-ends items (payload_type (part_type types) ok) (payload_type (part_type types) err)) (result-end ok err e)
          go (kind.Record members) (Some name) e named h = named-record name named members e
          go (kind.Variant members) (Some name) e named h = named-variant name named members e
          go (kind.Enum members) (Some name) e named h = named-enum name named members e
          go (kind.Flags members) (Some name) e named h = named-flags name named members e
          go k n e named h = absurd (let defined : is_defined_kind k ≡ true = sym (ap is_defined_kind e) ∙ h in cc)

    -- 4. Every type of the table

    -- up the table
    ends-below : (n : ℕ) (ty : WitType) → n ≤ length types → type_below n ty ≡ true → is_defined_type ty ≡ true → AreReachedDefined ty → Ends ty
    unfolding part_type
    ends-below n wit.Bool within below h all = primitive wit.Bool prim.Bool refl refl
    ends-below n wit.U8 within below h all = primitive wit.U8 prim.U8 refl refl
    ends-below n wit.U16 within below h all = primitive wit.U16 prim.U16 refl refl
    ends-below n wit.U32 within below h all = primitive wit.U32 prim.U32 refl refl
    ends-below n wit.U64 within below h all = primitive wit.U64 prim.U64 refl refl
    ends-below n wit.S8 within below h all = primitive wit.S8 prim.I8 refl refl
    ends-below n wit.S16 within below h all = primitive wit.S16 prim.I16 refl refl
    ends-below n wit.S32 within below h all = primitive wit.S32 prim.I32 refl refl
    ends-below n wit.S64 within below h all = primitive wit.S64 prim.I64 refl refl
    ends-below n wit.F32 within below h all = primitive wit.F32 prim.F32 refl refl
    ends-below n wit.F64 within below h all = primitive wit.F64 prim.F64 refl refl
    ends-below n wit.Char within below h all = primitive wit.Char prim.Char refl refl
    ends-below n wit.String within below h all = string
    ends-below n wit.ErrorContext within below h all = absurd (cc)
    ends-below zero (wit.Id id) within below h all = let no : id.0 < 0 = id_below 0 id below in absurd (omega arith)
    ends-below (suc n) (wit.Id id) within below h all =
        let low = id_below (suc n) id below in
        let there = entry_at types id.0 (omega arith) in
        entry-ends id there.0 there.1 all (λ ty part defined parts. ends-below n ty (omega arith) (type_below_more id.0 n ty (omega arith) part) defined parts)

    pub type-printed : (ty : WitType) → type_below (length types) ty ≡ true → is_defined_type ty ≡ true → AreReachedDefined ty → IsPrintedAs items (shape_of types ty) (part_type types ty)
    type-printed ty below h all = printed most ty (ends-below (length types) ty (omega arith) below h all)
