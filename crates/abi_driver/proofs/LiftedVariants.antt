-- Core words become a variant, an option or a result by the instruction of its kind.
use Rattle.std.proofs.Common.{◌≡◌, ℕ, suc, ◌+◌, ◌<◌, ◌≤◌, Bool, true, false, List, [], ◌∷◌, ◌++◌, length, reverse, drop, get_or, Option, refl, sym, ap, ◌∙◌, subst, arith}
use Rattle.std.proofs.lemmas.List.{append-nil, drop_all, drop_more, length-append, length-reverse, nil_from_length}
use Rattle.wit_model.specs.TypeOrder.{GoesDown}
use Rattle.wit_model.specs.WellFormed.{IsWellFormed}
use Rattle.wit_model.specs.declared.name.TypeId.{TypeId}
use Rattle.wit_model.specs.declared.resolve.Resolve.{Resolve}
use Rattle.wit_model.specs.declared.types.TypeDef.{TypeDef}
use Rattle.wit_model.specs.declared.types.TypeDefKind.{TypeDefKind}
use Rattle.wit_model.specs.declared.types.TypeDefKind.TheVariants as kind
use Rattle.wit_model.specs.declared.types.WitType.{WitType}
use Rattle.wit_model.specs.declared.wasm_type.WasmType.{WasmType}
use Rattle.wrapper_data.specs.declared.form.Form.{Form}
use Rattle.wrapper_meaning.specs.Shape.{Shapes, payload_in, payloads_in, shape_at, shapes}
use Rattle.wrapper_meaning.specs.Shape.Shape.{cases}
use Rattle.wrapper_meaning.specs.Shape.Shapes.{none, more}
use Rattle.abi_bindgen.specs.Arms.{serves_none, serves_others}
use Rattle.abi_bindgen.specs.Blocks.{AreFinished}
use Rattle.abi_bindgen.specs.CaseBlocks.{LiftsCases}
use Rattle.abi_bindgen.specs.Cases.{LiftsCase, case_shapes, payload_counts, payloads_at, payloads_of, result_counts}
use Rattle.abi_bindgen.specs.Code.{shared_slots}
use Rattle.abi_bindgen.specs.HasList.{IsKindOf}
use Rattle.abi_bindgen.specs.Instructions.{AddsCode, Emits, IsSendable, Makes, case_lifting, has_cases}
use Rattle.abi_bindgen.specs.Laws.{Sound}
use Rattle.abi_bindgen.specs.Lifts.{LiftsFlat}
use Rattle.abi_bindgen.specs.Meaning.{Meaning}
use Rattle.abi_bindgen.specs.Parts.{count}
use Rattle.abi_bindgen.proofs.BlockRuns.{finished_back}
use Rattle.abi_driver.proofs.CaseLifts.{cases_both, cases_lift, no_cases}
use Rattle.abi_bindgen.proofs.Payloads.{count_payloads, payloads_here, variant_shape}

counts_length : (payloads : List (Option WitType)) → length (result_counts payloads) ≡ length payloads
counts_length [] = refl
counts_length (p ∷ payloads) = ap suc (counts_length payloads)

-- such an instruction makes one value
pub lifting_makes : (types : List TypeDef) (k : TypeDefKind) (id : TypeId) (n : ℕ) → Makes types (case_lifting k id) n → n ≡ 1
lifting_makes types (kind.Option ty) id n h = h
lifting_makes types (kind.Result ok err) id n h = h
lifting_makes types _ id n h = h

-- all of a list is used
pub all_used : {A : Type 0} (xs used behind : List A) → xs ≡ used ++ behind → length used ≡ length xs → used ≡ xs
all_used xs used behind e len =
    let none : behind ≡ [] = nil_from_length behind (omega (arith, ap length e, length-append used behind, len)) in
    sym (e ∙ ap (λ ys. used ++ ys) none ∙ append-nil used)

module _ {Self Operand : Type 0} (m : Meaning Self Operand) (sound : Sound m) (r : Resolve) (down : GoesDown r.types) (id : TypeId) where
  abbrev Cases_of : TypeDefKind → Shapes
  Cases_of k = payloads_in (shapes r.types) (payloads_of k)

  module _ (a b : Self) (os : List Operand) where
    finished_all : (k : TypeDefKind) → IsKindOf r.types id.0 k → has_cases k ≡ true → LiftsCases m (Cases_of k) (result_counts (payloads_of k)) (shared_slots r.types (payloads_of k)) os a b → AreFinished m b (payload_counts (payloads_at r.types id.0)) (m.blocks b)
    finished_all k here h blocks =
        let ks = result_counts (payloads_of k) in
        subst (λ ps. AreFinished m b (payload_counts ps) (m.blocks b)) (sym (payloads_here r.types down id.0 k here h))
        (subst (AreFinished m b (reverse ks)) (sym blocks.adds.blocks) (finished_back m b ks blocks.bodies (m.blocks a) blocks.adds.many blocks.adds.finished))

    pub variant_liftable : IsWellFormed r → m.writes b r.types id.0 → (k : TypeDefKind) (o : Operand) → IsKindOf r.types id.0 k → has_cases k ≡ true → LiftsCases m (Cases_of k) (result_counts (payloads_of k)) (shared_slots r.types (payloads_of k)) os a b → IsSendable m r (case_lifting k id) (o ∷ []) b
    variant_liftable well writes (kind.Variant members) o here h blocks = record { built = refl; operands = refl; suits = (members, here, finished_all (kind.Variant members) here h blocks, well, writes) }
    variant_liftable well writes (kind.Option ty) o here h blocks = record { built = refl; operands = refl; suits = (ty, here, finished_all (kind.Option ty) here h blocks, well) }
    variant_liftable well writes (kind.Result ok err) o here h blocks = record { built = refl; operands = refl; suits = (ok, err, here, finished_all (kind.Result ok err) here h blocks, well) }
    variant_liftable well writes _ o here h blocks = absurd cc

    module _ (k : TypeDefKind) (c : Self) (o x : Operand) (here : IsKindOf r.types id.0 k) (has : has_cases k ≡ true) (enough : length os ≡ length (shared_slots r.types (payloads_of k)))
        (blocks : LiftsCases m (Cases_of k) (result_counts (payloads_of k)) (shared_slots r.types (payloads_of k)) os a b) where
      same_cases : case_shapes r.types id.0 ≡ Cases_of k
      same_cases = ap (payloads_in (shapes r.types)) (payloads_here r.types down id.0 k here has)

      many : length (result_counts (payloads_of k)) ≡ count (Cases_of k)
      many = counts_length (payloads_of k) ∙ sym (count_payloads (shapes r.types) (payloads_of k))

      used_many : length (payload_counts (payloads_at r.types id.0)) ≡ count (Cases_of k)
      used_many = ap (λ ps. length (payload_counts ps)) (payloads_here r.types down id.0 k here has) ∙ length-reverse (result_counts (payloads_of k)) ∙ many

      by_blocks : (last : Form → Bool) → AddsCode m false (payload_counts (payloads_at r.types id.0)) b c → m.blocks c ≡ drop (length (payload_counts (payloads_at r.types id.0))) (m.blocks b) → m.asked c ≡ m.asked b
          → LiftsCase m last (case_shapes r.types id.0) (o ∷ []) (x ∷ []) b c → LiftsFlat m (cases (Cases_of k)) (o ∷ os) x a c
      by_blocks last code used asked row =
          cases_lift m sound last (Cases_of k) a b c o x os (result_counts (payloads_of k)) (payload_counts (payloads_at r.types id.0)) many used_many enough blocks code used asked (subst (λ ts. LiftsCase m last ts (o ∷ []) (x ∷ []) b c) same_cases row)

    by_kind : (k : TypeDefKind) (c : Self) (o x : Operand) → IsKindOf r.types id.0 k → has_cases k ≡ true → length os ≡ length (shared_slots r.types (payloads_of k))
        → LiftsCases m (Cases_of k) (result_counts (payloads_of k)) (shared_slots r.types (payloads_of k)) os a b → Emits m r.types (case_lifting k id) (o ∷ []) (x ∷ []) b c → LiftsFlat m (cases (Cases_of k)) (o ∷ os) x a c
    by_kind (kind.Variant members) c o x here has enough blocks e = by_blocks (kind.Variant members) c o x here has enough blocks serves_others e.adds e.blocks e.asked e.row
    by_kind (kind.Option ty) c o x here has enough blocks e = by_blocks (kind.Option ty) c o x here has enough blocks serves_none e.adds e.blocks e.asked e.row
    by_kind (kind.Result ok err) c o x here has enough blocks e = by_blocks (kind.Result ok err) c o x here has enough blocks serves_none e.adds e.blocks e.asked e.row
    by_kind _ c o x here has enough blocks e = absurd cc

    pub variant_lifts : (k : TypeDefKind) (c : Self) (o x : Operand) → IsKindOf r.types id.0 k → has_cases k ≡ true → length os ≡ length (shared_slots r.types (payloads_of k))
        → LiftsCases m (Cases_of k) (result_counts (payloads_of k)) (shared_slots r.types (payloads_of k)) os a b → Emits m r.types (case_lifting k id) (o ∷ []) (x ∷ []) b c → LiftsFlat m (shape_at r.types id.0) (o ∷ os) x a c
    variant_lifts k c o x here has enough blocks e = subst (λ t. LiftsFlat m t (o ∷ os) x a c) (sym (variant_shape r.types down id.0 k here has)) (by_kind k c o x here has enough blocks e)

  -- one case more
  pub lifts_next : (payloads : List (Option WitType)) (i : ℕ) (d : Option WitType) (slots : List WasmType) (os : List Operand) (a b c : Self) → i < length payloads
      → ((new : Self) → LiftsCases m (payloads_in (shapes r.types) (drop i payloads)) (result_counts (drop i payloads)) slots os b new → LiftsCases m (payloads_in (shapes r.types) payloads) (result_counts payloads) slots os a new)
      → LiftsCases m (more (payload_in (shapes r.types) (get_or payloads i d)) none) (result_counts (get_or payloads i d ∷ [])) slots os b c
      → (new : Self) → LiftsCases m (payloads_in (shapes r.types) (drop (i + 1) payloads)) (result_counts (drop (i + 1) payloads)) slots os c new → LiftsCases m (payloads_in (shapes r.types) payloads) (result_counts payloads) slots os a new
  lifts_next payloads i d slots os a b c l rest here new later =
      let rests = drop (i + 1) payloads in
      let p = get_or payloads i d in
      let both = cases_both m sound (payload_in (shapes r.types) p) (payloads_in (shapes r.types) rests) _ (result_counts rests) slots os b c new here later in
      rest new (subst (λ ps. LiftsCases m (payloads_in (shapes r.types) ps) (result_counts ps) slots os b new) (sym (drop_more payloads i d l)) both)

  pub lifts_done : (payloads : List (Option WitType)) (i : ℕ) (slots : List WasmType) (os : List Operand) (a b : Self) → length payloads ≤ i
      → ((new : Self) → LiftsCases m (payloads_in (shapes r.types) (drop i payloads)) (result_counts (drop i payloads)) slots os b new → LiftsCases m (payloads_in (shapes r.types) payloads) (result_counts payloads) slots os a new)
      → LiftsCases m (payloads_in (shapes r.types) payloads) (result_counts payloads) slots os a b
  lifts_done payloads i slots os a b l rest = rest b (subst (λ ps. LiftsCases m (payloads_in (shapes r.types) ps) (result_counts ps) slots os b b) (sym (drop_all i payloads l)) (no_cases m sound slots os b))
