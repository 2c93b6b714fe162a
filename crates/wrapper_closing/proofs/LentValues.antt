-- What is lent of a value whose shape is printed: with the flags of an owner it is one of the printed type.
use Rattle.std.proofs.Common.{◌≡◌, ◌<◌, ℕ, suc, ◌^◌, inl, inr, true, false, List, [], ◌∷◌, length, map, Option, None, Some, refl, sym, ap, ap₂, ◌∙◌, subst}
use Rattle.std.specs.Prelude.{option_and_then}
use Rattle.std.specs.Option.{option_map}
use Rattle.rust_tree.specs.declared.item.Item.{Item}
use Rattle.rust_tree.specs.declared.type_expr.TypeExpr.{TypeExpr, out-TypeExpr}
use Rattle.rust_tree.specs.declared.type_expr.TypeExpr.TheVariants as type
use Rattle.wrapper_data.specs.declared.block.Block.{Block}
use Rattle.wrapper_data.specs.declared.value.RustValue.{RustValue, RustValue-F, fold-roll-RustValue}
use Rattle.wrapper_data.specs.declared.value.RustValue.TheVariants as value
use Rattle.wrapper_data.specs.declared.value.RustValue.TheVariants.{rolls-Buffer, rolls-Struct}
use Rattle.wrapper_meaning.specs.Direction.{lend, take}
use Rattle.wrapper_meaning.specs.InRange.{AreListed, IsListed, IsListedCase}
use Rattle.wrapper_meaning.specs.Shape.{Shape, Shapes, is_nothing}
use Rattle.wrapper_meaning.specs.Shape.Shape.{cases, fields, fixed, flags, handle, list, other, pairs, resource, scalar, text, tuple}
use Rattle.wrapper_meaning.specs.Shape.Shapes.{more, none}
use Rattle.wrapper_meaning.specs.StandsFor.{CaseStands, PartsStand, PayloadStands, Stands, rust_scalar}
use Rattle.wrapper_meaning.specs.Value.{Case, Parts, Value, case_number}
use Rattle.wrapper_values.specs.Owning.{lent_level, lent_value}
use Rattle.wrapper_values.specs.Typed.{typed, typed_each, unaliased}
use Rattle.wrapper_run.proofs.TakeLemmas.{answered-text}
use Rattle.func_gen.specs.NormalLemmas.{normal_bits, normal_unit, passing_case, scalar_normal}
use Rattle.wrapper_closing.specs.PrintedAs.{ArePrintedAs, ArePrintedCases, HavePayloads, IsPrintedAs, scalar_type}
use Rattle.wrapper_closing.proofs.OwningValues.{owning, owning_buffer, owning_struct}
use Rattle.wrapper_closing.proofs.PrintedValues.{IsOfParts, buffer_leaf, by_flags, by_plain, one_later, record_parts, scalar_answered, scalar_leaf, tuple_parts, typed_struct}
use Rattle.wrapper_closing.proofs.TypedCases.{FitsPlace, value_typed}

lent_struct : (rs : List RustValue) → lent_value (value.Struct rs) ≡ value.Struct (map lent_value rs)
lent_struct rs = ap lent_value (sym (rolls-Struct rs)) ∙ fold-roll-RustValue RustValue lent_level (RustValue-F.Struct rs)

lent_buffer : (address n : ℕ) → lent_value (value.Buffer address n true) ≡ value.Buffer address n false
lent_buffer address n = ap lent_value (sym (rolls-Buffer address n true)) ∙ fold-roll-RustValue RustValue lent_level (RustValue-F.Buffer address n true)

module _ (items : List Item) (heap : List Block) where
  -- with the flags of an owner a value is one of the type, and what is lent of that is the value
  pub record IsLent (r : RustValue) (ty : TypeExpr) : Type 0 where
    pub typed : typed items (owning r) ty ≡ Some (owning r)
    pub same : owning (owning r) ≡ owning r
    pub lent : lent_value (owning r) ≡ r

  record PartsLent (rs : List RustValue) (types : List TypeExpr) : Type 0 where
    typed : typed_each (map (typed items) (map owning rs)) types ≡ Some (map owning rs)
    same : map owning (map owning rs) ≡ map owning rs
    lent : map lent_value (map owning rs) ≡ rs

  record PayloadLent (n : ℕ) (payload : Option RustValue) (payloads : List (Option TypeExpr)) : Type 0 where
    fits : FitsPlace items n (option_map owning payload) payloads
    same : option_map owning (option_map owning payload) ≡ option_map owning payload
    lent : option_map lent_value (option_map owning payload) ≡ payload

  -- one that has no flags
  unflagged : (r : RustValue) (ty : TypeExpr) → owning r ≡ r → lent_value r ≡ r → typed items r ty ≡ Some (owning r) → IsLent r ty
  unflagged r ty n l t = record { typed = ap (λ r. typed items r ty) n ∙ t; same = ap owning n; lent = ap lent_value n ∙ l }

  text_lent : (address n : ℕ) (ty : TypeExpr) → unaliased items ty ≡ type.String → IsLent (value.Buffer address n false) ty
  text_lent address n ty p =
      let owned : RustValue = value.Buffer address n true in
      let own = owning_buffer address n false in
      let itself = owning_buffer address n true in
      let is = by_plain items owned ty type.String (buffer_leaf items address n true) p (answered-text address n ∙ ap (λ r. Some (Some r)) (sym itself)) in
      record { typed = ap (λ r. typed items r ty) own ∙ is.typed ∙ ap (λ r. Some r) (itself ∙ sym own); same = ap owning own ∙ itself ∙ sym own; lent = ap lent_value own ∙ lent_buffer address n }

  struct_lent : (rs : List RustValue) (ty : TypeExpr) (types : List TypeExpr) → IsOfParts items (out-TypeExpr (unaliased items ty)) types → PartsLent rs types → IsLent (value.Struct rs) ty
  struct_lent rs ty types of all =
      let own = owning_struct rs in
      record {
        typed =
            ap (λ r. typed items r ty) own ∙ typed_struct items (map owning rs) ty ∙ ap (option_map value.Struct) (of.0 (map (typed items) (map owning rs)) ∙ all.typed)
            ∙ ap (λ r. Some r) (sym own);
        same = ap owning own ∙ owning_struct (map owning rs) ∙ ap value.Struct all.same ∙ sym own;
        lent = ap lent_value own ∙ lent_struct (map owning rs) ∙ ap value.Struct all.lent;
      }

  case_lent : (n : ℕ) (payload : Option RustValue) (ty : TypeExpr) (payloads : List (Option TypeExpr)) → HavePayloads items (out-TypeExpr (unaliased items ty)) payloads → PayloadLent n payload payloads
      → IsLent (value.Case n payload) ty
  case_lent n payload ty payloads has inside =
      let own = passing_case take n payload in
      let again = passing_case take n (option_map owning payload) ∙ ap (value.Case n) inside.same in
      record {
        typed =
            ap (λ r. typed items r ty) own ∙ value_typed items payloads n (option_map owning payload) ty has inside.fits ∙ ap (λ r. Some r) (again ∙ sym own);
        same = ap owning own ∙ again ∙ sym own;
        lent = ap lent_value own ∙ passing_case (lend heap) n (option_map owning payload) ∙ ap (value.Case n) inside.lent;
      }

  -- a payload that is nothing is left out or `()`
  left_out_lent : (t : Shape) (stands : RustValue → List Block → Type 0) (payload : Option RustValue) (own : List Block) (payloads : List (Option TypeExpr)) → is_nothing t ≡ true
      → PayloadStands (is_nothing t) stands payload own → PayloadLent 0 payload (None ∷ payloads)
  left_out_lent t stands payload own payloads empty h = go payload (subst (λ b. PayloadStands b stands payload own) empty h)
    where
      go : (payload : Option RustValue) → PayloadStands true stands payload own → PayloadLent 0 payload (None ∷ payloads)
      go None h = record { fits = inl (refl, inl refl); same = refl; lent = refl }
      go (Some r) h =
          let unit : owning r ≡ value.Unit = ap owning h.0 ∙ normal_unit take in
          record {
            fits = inl (refl, inr (ap (λ r. Some r) unit));
            same = ap (λ r. Some r) (ap owning unit ∙ normal_unit take ∙ sym unit);
            lent = ap (λ r. Some r) (ap lent_value unit ∙ normal_unit (lend heap) ∙ sym h.0);
          }

  -- with one case more before it
  later : (n : ℕ) (payload : Option RustValue) (first : Option TypeExpr) (payloads : List (Option TypeExpr)) → PayloadLent n payload payloads → PayloadLent (suc n) payload (first ∷ payloads)
  later n payload first payloads h = record { fits = one_later items n (option_map owning payload) first payloads h.fits; same = h.same; lent = h.lent }

  mutual
    pub is_lent : (t : Shape) (v : Value t) (r : RustValue) (own : List Block) (ty : TypeExpr) → IsPrintedAs items t ty → IsListed t v → Stands 2 (lend heap) t v r own → IsLent r ty
    is_lent (scalar s) v r own ty p g h =
        subst (λ r. IsLent r ty) (sym h.0)
        (unflagged (rust_scalar s v) ty (scalar_normal take s v) (scalar_normal (lend heap) s v) (by_plain items (rust_scalar s v) ty (scalar_type s) (scalar_leaf items s v) p (scalar_answered s v g ∙ ap (λ r. Some (Some r)) (sym (scalar_normal take s v)))).typed)
    is_lent text v r own ty p g h = subst (λ r. IsLent r ty) (sym (h.is ∙ ap (value.Buffer h.address (length v)) h.flag)) (text_lent h.address (length v) ty p)
    is_lent (tuple ts) v r own ty (types, p, ps) g (rs, is, h) =
        subst (λ r. IsLent r ty) (sym is) (struct_lent rs ty types (subst (λ t. IsOfParts items (out-TypeExpr t) types) (sym p) (tuple_parts items types)) (are_lent ts v rs own types ps g h))
    is_lent (fields ts) v r own ty (s, p, ps) g (rs, is, h) =
        let types : List TypeExpr = map (λ f. f.ty) s.fields in
        subst (λ r. IsLent r ty) (sym is) (struct_lent rs ty types (record_parts items (out-TypeExpr (unaliased items ty)) s p) (are_lent ts v rs own types ps g h))
    is_lent (list t) v r own ty p g h = absurd p
    is_lent (pairs x y) v r own ty p g h = absurd p
    is_lent (fixed t n) v r own ty p g h = absurd p
    is_lent (cases ts) v r own ty (payloads, has, ps) g (payload, is, h) =
        subst (λ r. IsLent r ty) (sym is) (case_lent (case_number ts v) payload ty payloads has (payload_lent ts v payload own payloads ps g h))
    is_lent (flags n) v r own ty (f, p, many, wide) g (bits, small, is, means, alone) =
        subst (λ r. IsLent r ty) (sym is)
        (unflagged (value.Bits bits) ty (normal_bits take bits) (normal_bits (lend heap) bits) (by_flags items bits (value.Bits bits) ty f refl p (subst (λ k. bits < 2 ^ k) (sym wide) small)).typed)
    is_lent (handle o n) v r own ty p g h = absurd p
    is_lent (resource n) v r own ty p g h = absurd p
    is_lent other v r own ty p g h = absurd p

    are_lent : (ts : Shapes) (v : Parts ts) (rs : List RustValue) (own : List Block) (types : List TypeExpr) → ArePrintedAs items ts types → AreListed ts v → PartsStand 2 (lend heap) ts v rs own → PartsLent rs types
    are_lent none v rs own [] p g h = subst (λ rs. PartsLent rs []) (sym h.0) (record { typed = refl; same = refl; lent = refl })
    are_lent none v rs own (ty ∷ types) p g h = absurd p
    are_lent (more t ts) v rs own [] p g h = absurd p
    are_lent (more t ts) v rs own (ty ∷ types) p g (r, others, first, rest, is, h, hs, all) =
        let one = is_lent t v.0 r first ty p.0 g.0 h in
        let more = are_lent ts v.1 others rest types p.1 g.1 hs in
        subst (λ rs. PartsLent rs (ty ∷ types)) (sym is) (record {
          typed = ap₂ (λ o q. option_and_then (λ r. option_map (λ rs. r ∷ rs) q) o) one.typed more.typed;
          same = ap₂ (λ x xs. x ∷ xs) one.same more.same;
          lent = ap₂ (λ x xs. x ∷ xs) one.lent more.lent;
        })

    payload_lent : (ts : Shapes) (c : Case ts) (payload : Option RustValue) (own : List Block) (payloads : List (Option TypeExpr)) → ArePrintedCases items ts payloads → IsListedCase ts c → CaseStands 2 (lend heap) ts c payload own
        → PayloadLent (case_number ts c) payload payloads
    payload_lent none c payload own payloads p g h = absurd c
    payload_lent (more t ts) c payload own [] p g h = absurd p
    payload_lent (more t ts) (inl v) payload own (None ∷ payloads) p g h = left_out_lent t (Stands 2 (lend heap) t v) payload own payloads p.0 h
    payload_lent (more t ts) (inl v) payload own (Some ty ∷ payloads) p g h =
        let (r, is, stands) = subst (λ b. PayloadStands b (Stands 2 (lend heap) t v) payload own) p.0 h in
        let one = is_lent t v r own ty p.1 g stands in
        subst (λ payload. PayloadLent 0 payload (Some ty ∷ payloads)) (sym is) (record {
          fits = inr (ty, owning r, refl, refl, one.typed ∙ ap (λ r. Some r) (sym one.same));
          same = ap (λ r. Some r) one.same;
          lent = ap (λ r. Some r) one.lent;
        })
    payload_lent (more t ts) (inr c) payload own (None ∷ payloads) p g h = later (case_number ts c) payload None payloads (payload_lent ts c payload own payloads p.1 g h)
    payload_lent (more t ts) (inr c) payload own (Some ty ∷ payloads) p g h = later (case_number ts c) payload (Some ty) payloads (payload_lent ts c payload own payloads p.2 g h)
