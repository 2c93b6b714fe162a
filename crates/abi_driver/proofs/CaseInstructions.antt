-- The instructions of variants, options and results, by the kind of the type: when they may be sent, and what they then do.
use Rattle.std.proofs.Common.{◌≡◌, ℕ, Bool, false, true, List, [], ◌∷◌, length, map, drop, replicate, Option, None, Some, option_to_list, refl, sym, ap, ◌∙◌, subst}
use Rattle.std.proofs.lemmas.List.{length-map, length-replicate, length-reverse}
use Rattle.wit_model.specs.TypeOrder.{GoesDown}
use Rattle.wit_model.specs.WellFormed.{IsWellFormed}
use Rattle.wit_model.specs.declared.name.TypeId.{TypeId}
use Rattle.wit_model.specs.declared.resolve.Resolve.{Resolve}
use Rattle.wit_model.specs.declared.types.TypeDef.{TypeDef}
use Rattle.wit_model.specs.declared.types.TypeDefKind.{TypeDefKind}
use Rattle.wit_model.specs.declared.types.TypeDefKind.TheVariants as kind
use Rattle.wit_model.specs.declared.types.WitType.{WitType}
use Rattle.wrapper_data.specs.declared.form.Form.{Form}
use Rattle.wrapper_meaning.specs.Shape.{Shapes, payloads_in, shapes}
use Rattle.abi_bindgen.specs.Arms.{serves_none, serves_others}
use Rattle.abi_bindgen.specs.Cases.{LiftsCase, LowersCase, case_shapes, payload_counts, payloads_at, payloads_of}
use Rattle.abi_bindgen.specs.HasList.{IsKindOf}
use Rattle.abi_bindgen.specs.Instructions.{AddsCode, Emits, HasBlocks, IsSendable, case_lifting, case_lowering, has_cases}
use Rattle.abi_bindgen.specs.Laws.{Grows, Quiet, StaysUncalled}
use Rattle.abi_bindgen.specs.Meaning.{Meaning}
use Rattle.abi_bindgen.specs.Parts.{count}
use Rattle.abi_bindgen.proofs.Payloads.{count_payloads, payloads_here}
use Rattle.abi_driver.proofs.CaseSteps.{uses_blocks}

-- whether the last arm of its cases serves a number that is no case
abbrev pub case_serves : TypeDefKind → Form → Bool
case_serves (kind.Variant members) = serves_others
case_serves _ = serves_none

counts_many : (payloads : List (Option WitType)) → length (payload_counts payloads) ≡ length payloads
counts_many payloads = length-reverse (map (λ ty. length (option_to_list ty)) payloads) ∙ length-map payloads (λ ty. length (option_to_list ty))

module _ {Self Operand : Type 0} (m : Meaning Self Operand) where
  -- an instruction uses the blocks of some cases up, and lowers by that of the value's case
  pub record LowersBy (ts : Shapes) (o : Operand) (os : List Operand) (old new : Self) : Type 0 where
    pub grows : Grows m old new
    pub quiet : Quiet m old new
    pub uncalled : StaysUncalled m old new
    pub blocks : m.blocks new ≡ drop (count ts) (m.blocks old)
    pub asked : m.asked new ≡ m.asked old
    pub row : LowersCase m ts (o ∷ []) os old new

  -- an instruction uses the blocks of some cases up, and lifts by that of a word's case. Whether the last one serves others is its own
  pub record LiftsBy (last_serves : Form → Bool) (ts : Shapes) (o r : Operand) (old new : Self) : Type 0 where
    pub grows : Grows m old new
    pub quiet : Quiet m old new
    pub uncalled : StaysUncalled m old new
    pub blocks : m.blocks new ≡ drop (count ts) (m.blocks old)
    pub asked : m.asked new ≡ m.asked old
    pub row : LiftsCase m last_serves ts (o ∷ []) (r ∷ []) old new

  module _ (types : List TypeDef) (down : GoesDown types) (id : TypeId) where
    lowers_variant : (used : List ℕ) (payloads : List (Option WitType)) (o : Operand) (os : List Operand) (a b : Self) → payloads_at types id.0 ≡ payloads → length used ≡ length (payloads_at types id.0) → AddsCode m false used a b
        → m.blocks b ≡ drop (length used) (m.blocks a) → m.asked b ≡ m.asked a → LowersCase m (case_shapes types id.0) (o ∷ []) os a b → LowersBy (payloads_in (shapes types) payloads) o os a b
    lowers_variant used payloads o os a b same are adds gone asked row =
        let many : length used ≡ count (payloads_in (shapes types) payloads) = are ∙ ap length same ∙ sym (count_payloads (shapes types) payloads) in
        let more = uses_blocks m used a b adds in
        record { grows = more.0; quiet = more.1; uncalled = more.2; blocks = gone ∙ ap (λ j. drop j (m.blocks a)) many; asked = asked; row = subst (λ ps. LowersCase m (payloads_in (shapes types) ps) (o ∷ []) os a b) same row }

    pub lowers_by : (k : TypeDefKind) (n : ℕ) (o : Operand) (os : List Operand) (a b : Self) → IsKindOf types id.0 k → has_cases k ≡ true → Emits m types (case_lowering k id n) (o ∷ []) os a b → LowersBy (payloads_in (shapes types) (payloads_of k)) o os a b
    lowers_by (kind.Variant members) n o os a b is has e =
        lowers_variant (replicate (length (payloads_at types id.0)) n) (map (λ c. c.ty) members) o os a b (payloads_here types down id.0 (kind.Variant members) is has) (length-replicate _ n) e.adds e.blocks e.asked e.row
    lowers_by (kind.Option ty) n o os a b is has e =
        let same = payloads_here types down id.0 (kind.Option ty) is has in lowers_variant (n ∷ n ∷ []) (None ∷ Some ty ∷ []) o os a b same (sym (ap length same)) e.adds e.blocks e.asked e.row
    lowers_by (kind.Result ok err) n o os a b is has e =
        let same = payloads_here types down id.0 (kind.Result ok err) is has in lowers_variant (n ∷ n ∷ []) (ok ∷ err ∷ []) o os a b same (sym (ap length same)) e.adds e.blocks e.asked e.row
    lowers_by _ n o os a b is has e = absurd (let h = has in cc)

    -- it makes so many words
    pub lowers_count : (k : TypeDefKind) (n : ℕ) (o : Operand) (os : List Operand) (a b : Self) → has_cases k ≡ true → Emits m types (case_lowering k id n) (o ∷ []) os a b → length os ≡ n
    lowers_count (kind.Variant members) n o os a b has e = e.results
    lowers_count (kind.Option ty) n o os a b has e = e.results
    lowers_count (kind.Result ok err) n o os a b has e = e.results
    lowers_count _ n o os a b has e = absurd (let h = has in cc)

    lifts_variant : (last_serves : Form → Bool) (payloads : List (Option WitType)) (o r : Operand) (a b : Self) → payloads_at types id.0 ≡ payloads → let used = payload_counts (payloads_at types id.0) in AddsCode m false used a b
        → m.blocks b ≡ drop (length used) (m.blocks a) → m.asked b ≡ m.asked a → LiftsCase m last_serves (case_shapes types id.0) (o ∷ []) (r ∷ []) a b → LiftsBy last_serves (payloads_in (shapes types) payloads) o r a b
    lifts_variant last_serves payloads o r a b same adds gone asked row =
        let used = payload_counts (payloads_at types id.0) in
        let many : length used ≡ count (payloads_in (shapes types) payloads) = counts_many (payloads_at types id.0) ∙ ap length same ∙ sym (count_payloads (shapes types) payloads) in
        let more = uses_blocks m used a b adds in
        record { grows = more.0; quiet = more.1; uncalled = more.2; blocks = gone ∙ ap (λ j. drop j (m.blocks a)) many; asked = asked; row = subst (λ ps. LiftsCase m last_serves (payloads_in (shapes types) ps) (o ∷ []) (r ∷ []) a b) same row }

    pub lifts_by : (k : TypeDefKind) (o r : Operand) (a b : Self) → IsKindOf types id.0 k → has_cases k ≡ true → Emits m types (case_lifting k id) (o ∷ []) (r ∷ []) a b → LiftsBy (case_serves k) (payloads_in (shapes types) (payloads_of k)) o r a b
    lifts_by (kind.Variant members) o r a b is has e = lifts_variant serves_others (map (λ c. c.ty) members) o r a b (payloads_here types down id.0 (kind.Variant members) is has) e.adds e.blocks e.asked e.row
    lifts_by (kind.Option ty) o r a b is has e = lifts_variant serves_none (None ∷ Some ty ∷ []) o r a b (payloads_here types down id.0 (kind.Option ty) is has) e.adds e.blocks e.asked e.row
    lifts_by (kind.Result ok err) o r a b is has e = lifts_variant serves_none (ok ∷ err ∷ []) o r a b (payloads_here types down id.0 (kind.Result ok err) is has) e.adds e.blocks e.asked e.row
    lifts_by _ o r a b is has e = absurd (let h = has in cc)

  module _ (r : Resolve) (well : IsWellFormed r) (down : GoesDown r.types) (id : TypeId) (o : Operand) (b : Self) (writes : m.writes b r.types id.0) where
    pub lifting_sendable : (k : TypeDefKind) → IsKindOf r.types id.0 k → has_cases k ≡ true → HasBlocks m (payload_counts (payloads_of k)) b → IsSendable m r (case_lifting k id) (o ∷ []) b
    lifting_sendable (kind.Variant members) is has there =
        record { built = refl; operands = refl; suits = (members, is, subst (λ ps. HasBlocks m (payload_counts ps) b) (sym (payloads_here r.types down id.0 (kind.Variant members) is has)) there, well, writes) }
    lifting_sendable (kind.Option ty) is has there = record { built = refl; operands = refl; suits = (ty, is, subst (λ ps. HasBlocks m (payload_counts ps) b) (sym (payloads_here r.types down id.0 (kind.Option ty) is has)) there, well) }
    lifting_sendable (kind.Result ok err) is has there =
        record { built = refl; operands = refl; suits = (ok, err, is, subst (λ ps. HasBlocks m (payload_counts ps) b) (sym (payloads_here r.types down id.0 (kind.Result ok err) is has)) there, well) }
    lifting_sendable _ is has there = absurd (let h = has in cc)

    pub lowering_sendable : (k : TypeDefKind) (n : ℕ) → IsKindOf r.types id.0 k → has_cases k ≡ true → HasBlocks m (replicate (length (payloads_of k)) n) b → IsSendable m r (case_lowering k id n) (o ∷ []) b
    lowering_sendable (kind.Variant members) n is has there =
        record { built = refl; operands = refl; suits = (members, is, subst (λ ps. HasBlocks m (replicate (length ps) n) b) (sym (payloads_here r.types down id.0 (kind.Variant members) is has)) there, well, writes) }
    lowering_sendable (kind.Option ty) n is has there = record { built = refl; operands = refl; suits = (ty, is, there, well) }
    lowering_sendable (kind.Result ok err) n is has there = record { built = refl; operands = refl; suits = (ok, err, is, there, well) }
    lowering_sendable _ n is has there = absurd (let h = has in cc)
