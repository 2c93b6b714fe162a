-- A value with cases is freed by its words: the block of its case frees the blocks of the payload that its slots represent.
use Rattle.std.proofs.Common.{◌≡◌, ℕ, suc, ◌+◌, ◌<◌, ◌≤◌, true, List, [], ◌∷◌, ◌++◌, length, drop, take, replicate, Option, Some, refl, sym, ap, ◌∙◌, subst, arith}
use Rattle.std.proofs.lemmas.List.{drop_all}
use Rattle.std.specs.List.{slice_get}
use mathlib.Core.Logic.{inl, inr}
use Rattle.wit_model.specs.TypeOrder.{GoesDown}
use Rattle.wit_model.specs.declared.name.TypeId.{TypeId}
use Rattle.wit_model.specs.declared.types.TypeDef.{TypeDef}
use Rattle.wit_model.specs.declared.types.TypeDefKind.{TypeDefKind}
use Rattle.wit_model.specs.declared.types.WitType.{WitType}
use Rattle.wit_model.specs.declared.types.WitType.TheVariants as wit
use Rattle.wit_model.specs.declared.wasm_type.WasmType.{WasmType}
use Rattle.wit_layout.specs.Flat.{flatten_type, slots}
use Rattle.wrapper_data.specs.declared.word.Word.{Word}
use Rattle.wrapper_meaning.specs.Items.{SameItems}
use Rattle.wrapper_meaning.specs.Kinds.{has_list}
use Rattle.wrapper_meaning.specs.Layout.{layout, layouts}
use Rattle.wrapper_meaning.specs.Shape.{Shape, Shapes, nothing, payload_in, payloads_in, shape_at, shapes}
use Rattle.wrapper_meaning.specs.Shape.Shape.{cases}
use Rattle.wrapper_meaning.specs.Shape.Shapes.{none, more}
use Rattle.wrapper_meaning.specs.Value.{Case, case_number}
use Rattle.wrapper_meaning.specs.Words.{read_slots}
use Rattle.wrapper_meaning.proofs.PostReturn.{total-append}
use Rattle.wrapper_meaning.proofs.WordsDetermined.{are_words-length}
use Rattle.abi_bindgen.specs.declared.instruction.Instruction.TheVariants.{GuestDeallocateVariant}
use Rattle.abi_bindgen.specs.Account.{Account}
use Rattle.abi_bindgen.specs.Blocks.{Finishes, Pushes}
use Rattle.abi_bindgen.specs.Cases.{payloads_of}
use Rattle.abi_bindgen.specs.Code.{blocks_of_cases, free_words_code, lift_case, shared_slots}
use Rattle.abi_bindgen.specs.Flow.{Flow, behind, both, emit, leading, ◌>>>◌}
use Rattle.abi_bindgen.specs.Flows.{Flows}
use Rattle.abi_bindgen.specs.Frees.{FreesFlat, by_freeing}
use Rattle.abi_bindgen.specs.Instructions.{Emits, has_cases}
use Rattle.abi_bindgen.specs.Laws.{Adds, At, Facts, Sound, core_data, ofs}
use Rattle.abi_bindgen.specs.Lifts.{MayTake}
use Rattle.abi_bindgen.specs.Meaning.{Meaning, with_nothing}
use Rattle.abi_bindgen.specs.Parts.{count}
use Rattle.abi_bindgen.specs.SlotCasts.{CastsAll, FitIn}
use Rattle.abi_bindgen.proofs.BlockRuns.{words_facts}
use Rattle.abi_bindgen.proofs.CaseLowers.{number_below}
use Rattle.abi_bindgen.proofs.FlatCode.{free_words_variant_code}
use Rattle.abi_bindgen.proofs.FlowSteps.{flows_as, flows_both, flows_then}
use Rattle.abi_bindgen.proofs.Payloads.{count_payloads, variant_shape}
use Rattle.abi_bindgen.proofs.Runs.{adds_both, adds_same}
use Rattle.abi_bindgen.proofs.WordBits.{cast_back, fit_length}
use Rattle.abi_driver.specs.FinishedBlocks.{AddsBlocks}
use Rattle.abi_driver.specs.FreedCases.{EmptiesSlots, FreesCaseSlots, FreesSlots}
use Rattle.abi_driver.proofs.ArmFrees.{arm_adds, arm_frees}
use Rattle.abi_driver.proofs.CaseLifts.{slot_facts, words_front}
use Rattle.abi_driver.proofs.CaseSteps.{block_added, block_begins, block_gives, front_only, more_blocks, no_blocks}

module _ {Self Operand : Type 0} (m : Meaning Self Operand) (types : List TypeDef) where
  -- what frees the cases from one on, frees all
  abbrev pub Rest : (payloads : List (Option WitType)) (ds : List WasmType) (os : List Operand) → ℕ → (a b : Self) → Type 0
  Rest payloads ds os i a b =
      (new : Self) → FreesCaseSlots m (payloads_in (shapes types) (drop i payloads)) ds os b new → FreesCaseSlots m (payloads_in (shapes types) payloads) ds os a new

module _ {Self Operand : Type 0} (m : Meaning Self Operand) (sound : Sound m) where
  -- 1. One block

  -- a case without payload
  pub bare_slots : (ds : List WasmType) (os : List Operand) (a b c : Self) → Pushes m a b → Finishes m [] b c → FreesSlots m nothing ds os a c
  bare_slots ds os a b c opens closes = record {
    body = closes.block;
    adds = block_added m sound a b opens b c [] (adds_same m b) closes;
    row = λ v shared own listed are says w f later before s serves known held may.
        let start = m.enter opens.slot with_nothing s in
        let facts : Facts m = ofs m os (core_data m shared) in
        let begins = block_begins m sound a b opens b later w f facts before s with_nothing (closes.lasts.serves w serves) (words_facts m os shared) known held in
        let empty = ap (λ bs. (by_freeing bs (m.account s)).account) says.1 in
        (start, block_gives m sound a b opens b c [] (adds_same m b) closes w f with_nothing s start [] serves begins.done refl (front_only m sound w b [] facts start begins.holds) (opens.owns s with_nothing), opens.account s with_nothing ∙ sym empty);
  }

  -- a case with one: the first slots are cast to its words
  module _ (t : Shape) (ds : List WasmType) (os qs : List Operand) (a b c d e : Self) (fit : FitIn (flatten_type (layout t)) ds) (enough : length os ≡ length ds) (opens : Pushes m a b)
      (casts : CastsAll m (take (length (flatten_type (layout t))) ds) (flatten_type (layout t)) (take (length (flatten_type (layout t))) os) qs b c) (part : FreesFlat m t qs c d) (closes : Finishes m [] d e) where
    adds_bd : Adds m b d
    adds_bd = adds_both m b c d casts.adds part.adds

    pub slots_free : FreesSlots m t ds os a e
    slots_free = record {
      body = closes.block;
      adds = block_added m sound a b opens d e [] adds_bd closes;
      row = λ v shared own listed are says w f later before s serves known held may.
          let tys = flatten_type (layout t) in
          let n = length tys in
          let start = m.enter opens.slot with_nothing s in
          let others : Facts m = ofs m (drop n os) (core_data m (drop n shared)) in
          let words : List Word = read_slots m.width tys shared in
          let len : length shared ≡ length os = are_words-length m.width ds shared are ∙ sym enough in
          let few : n ≤ length os = omega (arith, fit_length tys ds fit, enough) in
          let served = closes.lasts.serves w serves in
          let begins = block_begins m sound a b opens d later w f (ofs m os (core_data m shared)) before s with_nothing served (words_facts m os shared) known held in
          let split = subst (λ fs. m.denotes w b fs start) (slot_facts m sound os n shared len few) begins.holds in
          let one = casts.row (take n shared) (words_front m.width n ds shared are) w f others start start (record { serves = part.adds.grows.serves w served; done = begins.done; holds = split }) in
          let t1 = one.0 in
          let after1 = one.2.2 in
          let back : one.2.0 ≡ ofs m qs (core_data m words) = one.2.1 ∙ ap (λ ws. ofs m qs (core_data m ws)) (cast_back m tys ds shared fit are) in
          let at2 : At m w f c d (ofs m qs (core_data m words) ++ others) start t1 = record { serves = served; done = one.1; holds = subst (λ fs. m.denotes w c (fs ++ others) t1) back after1.denotes } in
          let same : m.account t1 ≡ m.account s = after1.account ∙ opens.account s with_nothing in
          let two = part.row v words own listed says w f others start t1 at2 (subst (MayTake own) (sym same) may) in
          let u = two.0 in
          let after2 = two.2 in
          let owns : SameItems (m.owns u) [] =
          λ g. omega (arith, after2.owns g, after1.owns g, opens.owns s with_nothing g, total-append g (m.owns u) [], total-append g (m.owns t1) [], total-append g (m.owns start) []) in
          (u, block_gives m sound a b opens d e [] adds_bd closes w f with_nothing s u [] serves two.1 refl (front_only m sound w d [] others u after2.denotes) owns, after2.account ∙ ap (λ (z : Account m.Item). (by_freeing own z).account) same);
    }

  -- 2. All blocks

  module _ (ds : List WasmType) (os : List Operand) where
    pub none_free : (a : Self) → FreesCaseSlots m none ds os a a
    none_free a = record { bodies = []; adds = no_blocks m a; row = λ c. elim c [ ] }

    module _ (t : Shape) (ts : Shapes) (a b c : Self) (one : FreesSlots m t ds os a b) (rest : FreesCaseSlots m ts ds os b c) where
      -- the block of a case, among the first and the others
      chosen : (u : Case (more t ts)) → (body : m.Block) × (slice_get (one.body ∷ rest.bodies) (case_number (more t ts) u) ≡ Some body) × EmptiesSlots m (more t ts) u ds os a c body
      chosen (inl v) = (
        one.body,
        refl,
        λ shared own listed are says w f later before s serves known held may. one.row v shared own listed are says.0 w f later before s (rest.adds.resumes.serves w serves) known held may,
      )
      chosen (inr u) =
          let later_row = rest.row u in (
            later_row.0,
            later_row.1,
            λ shared own listed are says w f later before s serves known held may. later_row.2 shared own listed are says w f later before s serves (one.adds.resumes.known w (ofs m os (core_data m shared)) before known) held may,
          )

      pub more_free : FreesCaseSlots m (more t ts) ds os a c
      more_free = record { bodies = one.body ∷ rest.bodies; adds = more_blocks m 0 (replicate (count ts) 0) one.body rest.bodies a b c one.adds rest.adds; row = chosen }

  -- 3. One after another, in a loop

  module _ (types : List TypeDef) (payloads : List (Option WitType)) (ds : List WasmType) (os : List Operand) where
    pub rest_next : (i : ℕ) (a b c : Self) (p : Option WitType) → drop i payloads ≡ p ∷ drop (i + 1) payloads → FreesSlots m (payload_in (shapes types) p) ds os b c → Rest m types payloads ds os i a b → Rest m types payloads ds os (i + 1) a c
    rest_next i a b c p e one rest new h =
        rest new (subst (λ ps. FreesCaseSlots m (payloads_in (shapes types) ps) ds os b new) (sym e)
        (more_free ds os (payload_in (shapes types) p) (payloads_in (shapes types) (drop (i + 1) payloads)) b c new one h))

    pub rest_last : (i : ℕ) (a b : Self) → length payloads ≤ i → Rest m types payloads ds os i a b → FreesCaseSlots m (payloads_in (shapes types) payloads) ds os a b
    rest_last i a b ended rest = rest b (subst (λ ps. FreesCaseSlots m (payloads_in (shapes types) ps) ds os b b) (sym (drop_all i payloads ended)) (none_free ds os b))

  -- 4. Behind the blocks, the one of the case that the first word tells is run

  pub cases_freed : (types : List TypeDef) (n : ℕ) (ts : Shapes) (x : Operand) (os : List Operand) (a b c : Self) → count ts ≡ n → length os ≡ length (slots (layouts ts)) → FreesCaseSlots m ts (slots (layouts ts)) os a b
      → Emits m types (GuestDeallocateVariant n) (x ∷ []) [] b c → FreesFlat m (cases ts) (x ∷ os) a c
  cases_freed types n ts x os a b c is enough frees arm =
      let blocks : AddsBlocks m (replicate n 0) frees.bodies a b = subst (λ j. AddsBlocks m (replicate j 0) frees.bodies a b) is frees.adds in record {
        adds = arm_adds m sound types n a b c x frees.bodies blocks arm;
        fits = ap suc enough;
        row = λ v ws own listed says w f others s0 s at may.
            let found = frees.row v in
            let holds = subst (λ zs. m.denotes w a (ofs m (x ∷ os) (core_data m zs) ++ others) s) says.1 at.holds in
            arm_frees m sound types n a b c x frees.bodies blocks arm (case_number ts v) found.0 (subst (λ j. case_number ts v < j) is (number_below ts v)) found.1 own w f (ofs m os (core_data m says.0)) others s0 s at.serves at.done holds
            (λ begin served known held same. found.2 says.0 own listed says.2 says.3 w f b s begin served known held (subst (MayTake own) (sym same) may));
      }

module _ {Self Operand : Type 0} (m : Meaning Self Operand) (sound : Sound m) (types : List TypeDef) (down : GoesDown types) (id : TypeId) (entry : TypeDef) (at : slice_get types id.0 ≡ Some entry) (k : TypeDefKind) (has : has_cases k ≡ true) (kind_is : entry.kind ≡ k) where
  -- a type of the table with cases, of which a value may have blocks, is freed, and as its code says
  pub freed_variant : has_list (shape_at types id.0) ≡ true → (x : Operand) (os : List Operand) (payloads : List (Option WitType)) (ds : List WasmType) → payloads ≡ payloads_of k → ds ≡ shared_slots types (payloads_of k) → length os ≡ length ds → (a b c : Self)
      → FreesCaseSlots m (payloads_in (shapes types) payloads) ds os a b → Flows m types (blocks_of_cases (length ds) (lift_case types ds) (free_words_code types) payloads) os [] a b → Emits m types (GuestDeallocateVariant (length payloads)) (x ∷ []) [] b c
      → record { frees : FreesFlat m (shape_at types id.0) (x ∷ os) a c; flows : Flows m types (free_words_code types (wit.Id id)) (x ∷ os) [] a c }
  freed_variant some x os payloads ds same told enough a b c frees flow arm =
      let all = payloads_of k in
      let ts = payloads_in (shapes types) all in
      let shared = shared_slots types all in
      let shape = variant_shape types down id.0 k (record { entry = entry; stands = at; kind = kind_is }) has in
      let frees1 = subst (λ ts. FreesCaseSlots m ts shared os a b) (ap (payloads_in (shapes types)) same) (subst (λ ds. FreesCaseSlots m (payloads_in (shapes types) payloads) ds os a b) told frees) in
      let code : List WasmType → List (Option WitType) → Flow = λ ds ps. blocks_of_cases (length ds) (lift_case types ds) (free_words_code types) ps in
      let flow1 = subst (λ ps. Flows m types (code shared ps) os [] a b) same (subst (λ ds. Flows m types (code ds payloads) os [] a b) told flow) in
      let arm1 = subst (λ (ps : List (Option WitType)). Emits m types (GuestDeallocateVariant (length ps)) (x ∷ []) [] b c) same arm in
      let last : Flow = emit (GuestDeallocateVariant (length all)) in
      let blocks = code shared all in
      let first = flows_then m types (behind 1) blocks (x ∷ os) os [] a a b (refl, refl) flow1 in
      let whole = flows_then m types (both (behind 1 >>> blocks) (leading 1)) last (x ∷ os) (x ∷ []) [] a b c (flows_both m types (behind 1 >>> blocks) (leading 1) (x ∷ os) [] (x ∷ []) a b b first (refl, refl)) arm1 in
      record {
        frees = subst (λ s. FreesFlat m s (x ∷ os) a c) (sym shape) (cases_freed m sound types (length all) ts x os a b c (count_payloads (shapes types) all) (enough ∙ ap length told) frees1 arm1);
        flows = flows_as m types (both (behind 1 >>> blocks) (leading 1) >>> last) (free_words_code types (wit.Id id)) (x ∷ os) [] a c (free_words_variant_code types down id entry at k kind_is has some) whole;
      }
