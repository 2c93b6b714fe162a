-- A variant, an option or a result becomes core words by the instruction of its kind.
use Rattle.std.proofs.Common.{◌≡◌, ℕ, zero, suc, ◌+◌, ◌<◌, ◌≤◌, ◌^◌, Bool, true, false, List, [], ◌∷◌, ◌++◌, length, replicate, reverse, drop, get_or, Option, refl, sym, ap, ◌∙◌, subst, arith}
use Rattle.std.proofs.lemmas.List.{drop_all, drop_more, length-replicate, replicate_more, reverse-append}
use Rattle.wit_model.specs.TypeOrder.{GoesDown}
use Rattle.wit_model.specs.WellFormed.{IsWellFormed}
use Rattle.wit_model.specs.declared.name.TypeId.{TypeId}
use Rattle.wit_model.specs.declared.types.TypeDefKind.{TypeDefKind}
use Rattle.wit_model.specs.declared.types.TypeDefKind.TheVariants as kind
use Rattle.wrapper_meaning.specs.Shape.{Shapes, payload_in, payloads_in, shape_at, shapes}
use Rattle.wrapper_meaning.specs.Shape.Shape.{cases}
use Rattle.wrapper_meaning.specs.Shape.Shapes.{none, more}
use Rattle.wit_model.specs.declared.types.WitType.{WitType}
use Rattle.wit_model.specs.declared.wasm_type.WasmType.{WasmType}
use Rattle.wit_model.specs.declared.resolve.Resolve.{Resolve}
use Rattle.abi_bindgen.specs.Blocks.{AreFinished}
use Rattle.abi_bindgen.specs.CaseBlocks.{LowersCases}
use Rattle.abi_bindgen.specs.Cases.{LowersCase, case_shapes, payloads_at, payloads_of}
use Rattle.abi_bindgen.specs.Code.{case_words, shared_slots}
use Rattle.abi_bindgen.specs.HasList.{IsKindOf}
use Rattle.abi_bindgen.specs.Instructions.{AddsCode, Emits, IsSendable, block_results, case_lowering, has_cases}
use Rattle.abi_bindgen.specs.Laws.{Sound}
use Rattle.abi_bindgen.specs.Lowers.{LowersFlat}
use Rattle.abi_bindgen.specs.Meaning.{Meaning}
use Rattle.abi_bindgen.specs.Parts.{count}
use Rattle.abi_bindgen.proofs.BlockRuns.{finished_back}
use Rattle.abi_bindgen.proofs.CaseLowers.{cases_both, cases_lower, no_cases}
use Rattle.abi_bindgen.proofs.Payloads.{count_payloads, payloads_here, variant_shape}

-- as many counts as there are cases, in either order
pub reverse_replicate : (n k : ℕ) → reverse (replicate n k) ≡ replicate n k
reverse_replicate zero k = refl
reverse_replicate (suc n) k = reverse-append (k ∷ []) (replicate n k) ∙ ap (λ ks. ks ++ k ∷ []) (reverse_replicate n k) ∙ replicate_more n k ∙ (let e : n + 1 ≡ suc n = omega arith in ap (λ j. replicate j k) e)

module _ {Self Operand : Type 0} (m : Meaning Self Operand) (sound : Sound m) (r : Resolve) (down : GoesDown r.types) (id : TypeId) where
  abbrev Cases_of : TypeDefKind → Shapes
  Cases_of k = payloads_in (shapes r.types) (payloads_of k)

  results_are : (k : TypeDefKind) (n : ℕ) → has_cases k ≡ true → payloads_at r.types id.0 ≡ payloads_of k → block_results r.types (case_lowering k id n) ≡ replicate (count (Cases_of k)) n
  results_are (kind.Variant members) n h e = ap (λ ps. replicate (length ps) n) e ∙ ap (λ j. replicate j n) (sym (count_payloads (shapes r.types) (payloads_of (kind.Variant members))))
  results_are (kind.Option ty) n h e = refl
  results_are (kind.Result ok err) n h e = refl
  results_are _ n h e = absurd cc

  module _ (realloc : Bool) (a b : Self) where
    finished_all : (k : TypeDefKind) (n : ℕ) → n ≡ case_words r.types (payloads_of k) → LowersCases m realloc (Cases_of k) 0 (shared_slots r.types (payloads_of k)) a b → AreFinished m b (replicate (count (Cases_of k)) n) (m.blocks b)
    finished_all k n is blocks =
        let ks = replicate (count (Cases_of k)) (case_words r.types (payloads_of k)) in
        subst (λ j. AreFinished m b (replicate (count (Cases_of k)) j) (m.blocks b)) (sym is)
        (subst (λ js. AreFinished m b js (m.blocks b)) (reverse_replicate (count (Cases_of k)) (case_words r.types (payloads_of k)))
        (subst (AreFinished m b (reverse ks)) (sym blocks.adds.blocks) (finished_back m b ks blocks.bodies (m.blocks a) blocks.adds.many blocks.adds.finished)))

    pub variant_sendable : IsWellFormed r → m.writes b r.types id.0 → (k : TypeDefKind) (n : ℕ) (o : Operand) → IsKindOf r.types id.0 k → has_cases k ≡ true → n ≡ case_words r.types (payloads_of k) → LowersCases m realloc (Cases_of k) 0 (shared_slots r.types (payloads_of k)) a b
        → IsSendable m r (case_lowering k id n) (o ∷ []) b
    variant_sendable well writes (kind.Variant members) n o here h is blocks =
        let k = kind.Variant members in
        record { built = refl; operands = refl; suits = (members, here, subst (λ js. AreFinished m b js (m.blocks b)) (sym (results_are k n h (payloads_here r.types down id.0 k here h))) (finished_all k n is blocks), well, writes) }
    variant_sendable well writes (kind.Option ty) n o here h is blocks = record { built = refl; operands = refl; suits = (ty, here, finished_all (kind.Option ty) n is blocks, well) }
    variant_sendable well writes (kind.Result ok err) n o here h is blocks = record { built = refl; operands = refl; suits = (ok, err, here, finished_all (kind.Result ok err) n is blocks, well) }
    variant_sendable well writes _ n o here h is blocks = absurd cc

    module _ (k : TypeDefKind) (n : ℕ) (c : Self) (o : Operand) (os : List Operand) (here : IsKindOf r.types id.0 k) (has : has_cases k ≡ true) (is : n ≡ case_words r.types (payloads_of k)) (most : length (payloads_of k) ≤ 2 ^ 31)
        (blocks : LowersCases m realloc (Cases_of k) 0 (shared_slots r.types (payloads_of k)) a b) where
      same_cases : case_shapes r.types id.0 ≡ Cases_of k
      same_cases = ap (payloads_in (shapes r.types)) (payloads_here r.types down id.0 k here has)

      many : length (block_results r.types (case_lowering k id n)) ≡ count (Cases_of k)
      many = ap length (results_are k n has (payloads_here r.types down id.0 k here has)) ∙ length-replicate (count (Cases_of k)) n

      few : count (Cases_of k) ≤ 2 ^ 31
      few = omega (arith, most, count_payloads (shapes r.types) (payloads_of k))

      by_blocks : AddsCode m false (block_results r.types (case_lowering k id n)) b c → m.blocks c ≡ drop (length (block_results r.types (case_lowering k id n))) (m.blocks b) → m.asked c ≡ m.asked b → length os ≡ n → LowersCase m (case_shapes r.types id.0) (o ∷ []) os b c
          → LowersFlat m realloc (cases (Cases_of k)) o os a c
      by_blocks code used asked made row =
          cases_lower m sound realloc (Cases_of k) a b c o os (block_results r.types (case_lowering k id n)) many few blocks code used asked (made ∙ is) (subst (λ ts. LowersCase m ts (o ∷ []) os b c) same_cases row)

    by_kind : (k : TypeDefKind) (n : ℕ) (c : Self) (o : Operand) (os : List Operand) (here : IsKindOf r.types id.0 k) (has : has_cases k ≡ true) → n ≡ case_words r.types (payloads_of k) → length (payloads_of k) ≤ 2 ^ 31
        → LowersCases m realloc (Cases_of k) 0 (shared_slots r.types (payloads_of k)) a b → Emits m r.types (case_lowering k id n) (o ∷ []) os b c → LowersFlat m realloc (cases (Cases_of k)) o os a c
    by_kind (kind.Variant members) n c o os here has is most blocks e = by_blocks (kind.Variant members) n c o os here has is most blocks e.adds e.blocks e.asked e.results e.row
    by_kind (kind.Option ty) n c o os here has is most blocks e = by_blocks (kind.Option ty) n c o os here has is most blocks e.adds e.blocks e.asked e.results e.row
    by_kind (kind.Result ok err) n c o os here has is most blocks e = by_blocks (kind.Result ok err) n c o os here has is most blocks e.adds e.blocks e.asked e.results e.row
    by_kind _ n c o os here has is most blocks e = absurd cc

    pub variant_lowers : (k : TypeDefKind) (n : ℕ) (c : Self) (o : Operand) (os : List Operand) → IsKindOf r.types id.0 k → has_cases k ≡ true → n ≡ case_words r.types (payloads_of k) → length (payloads_of k) ≤ 2 ^ 31
        → LowersCases m realloc (Cases_of k) 0 (shared_slots r.types (payloads_of k)) a b → Emits m r.types (case_lowering k id n) (o ∷ []) os b c → LowersFlat m realloc (shape_at r.types id.0) o os a c
    variant_lowers k n c o os here has is most blocks e =
        subst (λ t. LowersFlat m realloc t o os a c) (sym (variant_shape r.types down id.0 k here has)) (by_kind k n c o os here has is most blocks e)

  -- one case more
  pub cases_next : (realloc : Bool) (payloads : List (Option WitType)) (i : ℕ) (d : Option WitType) (shared : List WasmType) (a b c : Self) → i < length payloads
      → ((new : Self) → LowersCases m realloc (payloads_in (shapes r.types) (drop i payloads)) i shared b new → LowersCases m realloc (payloads_in (shapes r.types) payloads) 0 shared a new)
      → LowersCases m realloc (more (payload_in (shapes r.types) (get_or payloads i d)) none) i shared b c
      → (new : Self) → LowersCases m realloc (payloads_in (shapes r.types) (drop (i + 1) payloads)) (i + 1) shared c new → LowersCases m realloc (payloads_in (shapes r.types) payloads) 0 shared a new
  cases_next realloc payloads i d shared a b c l rest here new later =
      let ts = payloads_in (shapes r.types) (drop (i + 1) payloads) in
      let e : i + 1 ≡ suc i = omega arith in
      let both = cases_both m sound realloc (payload_in (shapes r.types) (get_or payloads i d)) ts i shared b c new here (subst (λ n. LowersCases m realloc ts n shared c new) e later) in
      rest new (subst (λ ps. LowersCases m realloc (payloads_in (shapes r.types) ps) i shared b new) (sym (drop_more payloads i d l)) both)

  pub cases_done : (realloc : Bool) (payloads : List (Option WitType)) (i : ℕ) (shared : List WasmType) (a b : Self) → length payloads ≤ i
      → ((new : Self) → LowersCases m realloc (payloads_in (shapes r.types) (drop i payloads)) i shared b new → LowersCases m realloc (payloads_in (shapes r.types) payloads) 0 shared a new)
      → LowersCases m realloc (payloads_in (shapes r.types) payloads) 0 shared a b
  cases_done realloc payloads i shared a b l rest = rest b (subst (λ ps. LowersCases m realloc (payloads_in (shapes r.types) ps) i shared b b) (sym (drop_all i payloads l)) (no_cases m sound realloc i shared b))
