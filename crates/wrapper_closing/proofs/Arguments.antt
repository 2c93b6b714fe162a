-- The arguments of an import that are lent: they own nothing, and stand as they are.
use Rattle.std.proofs.Common.{◌≡◌, ℕ, inl, inr, Bool, true, false, cond, List, [], ◌∷◌, ◌++◌, map, Option, None, Some, refl, sym, ap, ap₂, ◌∙◌, subst}
use Rattle.std.specs.Option.{option_map}
use Rattle.std.proofs.lemmas.Bool.{and_parts}
use Rattle.wrapper_data.specs.declared.block.Block.{Block}
use Rattle.wrapper_data.specs.declared.value.RustValue.{RustValue, RustValue-F, fold-RustValue, fold-roll-RustValue}
use Rattle.wrapper_data.specs.declared.value.RustValue.TheVariants as value
use Rattle.wrapper_data.specs.declared.value.RustValue.TheVariants.{rolls-Buffer}
use Rattle.wrapper_meaning.specs.Direction.{Direction, lend, take}
use Rattle.wrapper_meaning.specs.Shape.{Shape, Shapes, is_nothing}
use Rattle.wrapper_meaning.specs.Shape.Shape.{cases, fields, fixed, flags, handle, list, other, pairs, resource, scalar, text, tuple}
use Rattle.wrapper_meaning.specs.Shape.Shapes.{more, none}
use Rattle.wrapper_meaning.specs.StandsFor.{ArgumentsStand, Stands}
use Rattle.wrapper_meaning.specs.StandsFor as rust
use Rattle.wrapper_meaning.specs.Value.{Case, Parts, Value}
use Rattle.wrapper_values.specs.Owning.{taken_by}
use Rattle.abi_bindgen.specs.Laws.{AreLent, item_data}
use Rattle.abi_bindgen.specs.Parts.{PartsStand}
use Rattle.func_gen.specs.Meaning.{IsNormal, StandsAsItIs, func_meaning, passing_level}
use Rattle.func_gen.specs.StandLemmas.{lent_alone}
use Rattle.func_gen.specs.NormalLemmas.{normal_bits, normal_case, normal_struct, normal_unit, passing, scalar_normal}
use Rattle.wrapper_closing.specs.Direct.{are_direct, is_direct}
use Rattle.wrapper_closing.proofs.Direct.{no_own_handle}

-- a payload is left out, or passes as it is
pub payload_normal : (dir : Direction) (empty_case : Bool) (stands : rust.Standing RustValue) (payload : Option RustValue) (own : List Block) → ((r : RustValue) (own : List Block) → stands r own → IsNormal dir r)
    → rust.PayloadStands empty_case stands payload own → option_map (passing dir) payload ≡ payload
payload_normal dir empty_case stands None own normal h = refl
payload_normal dir true stands (Some r) own normal h = ap (λ r. Some r) (subst (IsNormal dir) (sym h.0) (normal_unit dir))
payload_normal dir false stands (Some r) own normal (q, is, h) = let same : r ≡ q = cc in ap (λ r. Some r) (subst (IsNormal dir) (sym same) (normal q own h))

module _ (heap : List Block) where
  normal_buffer : (address n : ℕ) (o : Bool) → o ≡ false → IsNormal (lend heap) (value.Buffer address n o)
  normal_buffer address n o e =
      ap (fold-RustValue RustValue (passing_level (lend heap))) (sym (rolls-Buffer address n o)) ∙ fold-roll-RustValue RustValue (passing_level (lend heap)) (RustValue-F.Buffer address n o) ∙ ap (value.Buffer address n) (sym e)

  mutual
    lent_normal : (t : Shape) (v : Value t) (r : RustValue) (own : List Block) → is_direct t ≡ true → Stands 2 (lend heap) t v r own → IsNormal (lend heap) r
    lent_normal (scalar s) v r own d h = subst (IsNormal (lend heap)) (sym h.0) (scalar_normal (lend heap) s v)
    lent_normal text v r own d h = subst (IsNormal (lend heap)) (sym h.is) (normal_buffer h.address _ h.owned h.flag)
    lent_normal (fields ts) v r own d (rs, is, h) = subst (IsNormal (lend heap)) (sym is) (normal_struct (lend heap) rs (parts_normal ts v rs own d h))
    lent_normal (tuple ts) v r own d (rs, is, h) = subst (IsNormal (lend heap)) (sym is) (normal_struct (lend heap) rs (parts_normal ts v rs own d h))
    lent_normal (list t) v r own d h = absurd cc
    lent_normal (pairs x y) v r own d h = absurd cc
    lent_normal (fixed t n) v r own d h = absurd cc
    lent_normal (cases ts) v r own d (payload, is, h) = subst (IsNormal (lend heap)) (sym is) (normal_case (lend heap) _ payload (case_normal ts v payload own d h))
    lent_normal (flags n) v r own d (bits, small, is, means, alone) = subst (IsNormal (lend heap)) (sym is) (normal_bits (lend heap) bits)
    lent_normal (handle o n) v r own d h = absurd cc
    lent_normal (resource n) v r own d h = absurd cc
    lent_normal other v r own d h = absurd cc

    parts_normal : (ts : Shapes) (v : Parts ts) (rs : List RustValue) (own : List Block) → are_direct ts ≡ true → rust.PartsStand 2 (lend heap) ts v rs own → map (fold-RustValue RustValue (passing_level (lend heap))) rs ≡ rs
    parts_normal none v rs own d h = ap (map (fold-RustValue RustValue (passing_level (lend heap)))) h.0 ∙ sym h.0
    parts_normal (more t ts) v rs own d (r, others, first, rest, is, h, hs, all) =
        let both = and_parts (is_direct t) (are_direct ts) d in
        ap (map (fold-RustValue RustValue (passing_level (lend heap)))) is ∙ ap₂ (λ x xs. x ∷ xs) (lent_normal t v.0 r first both.0 h) (parts_normal ts v.1 others rest both.1 hs) ∙ sym is

    case_normal : (ts : Shapes) (c : Case ts) (payload : Option RustValue) (own : List Block) → are_direct ts ≡ true → rust.CaseStands 2 (lend heap) ts c payload own → option_map (passing (lend heap)) payload ≡ payload
    case_normal none c payload own d h = absurd c
    case_normal (more t ts) (inl v) payload own d h =
        payload_normal (lend heap) (is_nothing t) (Stands 2 (lend heap) t v) payload own (λ r own h. lent_normal t v r own (and_parts (is_direct t) (are_direct ts) d).0 h) h
    case_normal (more t ts) (inr c) payload own d h = case_normal ts c payload own (and_parts (is_direct t) (are_direct ts) d).1 h

  -- items that stand for the parameters, and own nothing
  pub record AreItems (ts : Shapes) (vs : Parts ts) (args : List RustValue) (own : List Block) : Type 0 where
    pub none : own ≡ []
    pub free : taken_by args ≡ []
    pub stand : PartsStand func_meaning (lend heap) ts vs args []
    pub lent : AreLent func_meaning (item_data func_meaning args)

  pub are_items : (ts : Shapes) (vs : Parts ts) (args : List RustValue) (own : List Block) → are_direct ts ≡ true → ArgumentsStand 2 heap ts vs args own → AreItems ts vs args own
  are_items none vs args own d h = record { none = h.1; free = ap taken_by h.0; stand = (h.0, refl); lent = subst (λ xs. AreLent func_meaning (item_data func_meaning xs)) (sym h.0) tt }
  are_items (more t ts) vs args own d (r, others, first, rest, is, h, hs, all) =
      let both = and_parts (is_direct t) (are_direct ts) d in
      let stands : Stands 2 (lend heap) t vs.0 r first = subst (λ c. Stands 2 (cond c take (lend heap)) t vs.0 r first) (no_own_handle t both.0) h in
      let alone = lent_alone heap t vs.0 r first stands in
      let bare : Stands 2 (lend heap) t vs.0 r [] = subst (Stands 2 (lend heap) t vs.0 r) alone.1 stands in
      let as_it_is : StandsAsItIs (lend heap) t vs.0 r [] = (bare, lent_normal t vs.0 r [] both.0 bare) in
      let later = are_items ts vs.1 others rest both.1 hs in
      record {
        none = all ∙ ap₂ (λ x y. x ++ y) alone.1 later.none;
        free = ap taken_by is ∙ ap₂ (λ x y. x ++ y) alone.0 later.free;
        stand = (r, others, [], [], is, as_it_is, later.stand, refl);
        lent = subst (λ xs. AreLent func_meaning (item_data func_meaning xs)) (sym is) (heap, t, vs.0, as_it_is, later.lent);
      }
