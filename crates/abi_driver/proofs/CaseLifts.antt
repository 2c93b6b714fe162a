-- Core words become cases of a type, by a block for each; and then the instruction makes the value.
use Rattle.std.proofs.Common.{◌≡◌, ℕ, zero, suc, ◌+◌, ◌≤◌, Bool, true, false, pos, List, [], ◌∷◌, ◌++◌, length, reverse, take, drop, Option, None, Some, refl, sym, ap, ap₂, ◌∙◌, subst, arith, append-nil}
use Rattle.std.specs.List.{flat_map, slice_get}
use Rattle.std.proofs.lemmas.Bool.{cond-true}
use Rattle.std.proofs.lemmas.List.{length-map, length-reverse, length-take-le, reverse-reverse, take-append-drop}
use mathlib.Core.Logic.{inl, inr}
use Rattle.wit_model.specs.declared.wasm_type.WasmType.{WasmType}
use Rattle.wit_layout.specs.Flat.{flatten_type, slots}
use Rattle.wrapper_data.specs.declared.block.Block.{Block}
use Rattle.wrapper_data.specs.declared.form.Form.{Form}
use Rattle.wrapper_data.specs.declared.word.Word.{Word}
use Rattle.wrapper_data.specs.declared.word.Word.TheVariants as core
use Rattle.wrapper_meaning.specs.AsWords.{CaseSays, Says}
use Rattle.wrapper_meaning.specs.Direction.{take as taken}
use Rattle.wrapper_meaning.specs.InRange.{IsListedCase}
use Rattle.wrapper_meaning.specs.Items.{SameItems, total}
use Rattle.wrapper_meaning.specs.Layout.{layout, layouts}
use Rattle.wrapper_meaning.specs.Settled.{settled, settled_case}
use Rattle.wrapper_meaning.specs.Shape.{Shape, Shapes, is_nothing, nothing}
use Rattle.wrapper_meaning.specs.Shape.Shape.{cases}
use Rattle.wrapper_meaning.specs.Shape.Shapes.{none, more}
use Rattle.wrapper_meaning.specs.Value.{Case, case_number, Value}
use Rattle.wrapper_meaning.specs.Words.{AreWords, read_slots}
use Rattle.wrapper_meaning.proofs.PostReturn.{total-append}
use Rattle.wrapper_meaning.proofs.WordsDetermined.{are_words-length}
use Rattle.abi_bindgen.specs.Account.{Done, Outcome, Peer, Stuck, addresses, Follows, Stopped}
use Rattle.abi_bindgen.specs.Arms.{arms, gives_payload, Armed}
use Rattle.abi_bindgen.specs.Blocks.{Finishes, Pushes, owned_datum, StopsAlike}
use Rattle.abi_bindgen.specs.CaseBlocks.{LiftsCases, TakesPayload, GavePayload}
use Rattle.abi_bindgen.specs.Cases.{IsPayload, LiftsCase, PayloadStands}
use Rattle.abi_bindgen.specs.Instructions.{AddsCode}
use Rattle.abi_bindgen.specs.Laws.{Adds, At, Data, Facts, Sound, core_data, item_data, ofs}
use Rattle.abi_bindgen.specs.Lifts.{LiftsFlat, MayTake, OneStands, TakesOver, took}
use Rattle.abi_bindgen.specs.Meaning.{Ended, Meaning, item, of, with_nothing, word}
use Rattle.abi_bindgen.specs.Parts.{count}
use Rattle.abi_bindgen.specs.SlotCasts.{CastsAll, FitIn}
use Rattle.abi_bindgen.proofs.BlockRuns.{begun, block_runs, blocks_both, blocks_used, code_grows, get_behind, get_front, no_blocks, one_block, take_front, words_facts}
use Rattle.abi_bindgen.proofs.CaseLowers.{number_below}
use Rattle.abi_bindgen.proofs.Runs.{adds_both, adds_same, core_append, ofs_append}
use Rattle.abi_driver.proofs.TakingOver.{took_none}
use Rattle.abi_bindgen.proofs.WordBits.{cast_back, fit_length}
use Rattle.abi_bindgen.specs.Early.{Comes, Early}
use Rattle.wrapper_data.specs.declared.choice.Request.{Request}
use Rattle.abi_bindgen.specs.Lifting.{Lifted, LiftedBy}
use Rattle.abi_driver.proofs.LiftedHeaps.{plainly_lifted}
use Rattle.abi_driver.proofs.TakeSteps.{stays_gets}
use Rattle.abi_driver.proofs.ArmSteps.{arm_comes, arm_is, fitting, went}
use Rattle.wrapper_meaning.specs.Requests.{case_requests, requests, room_for}
use Rattle.abi_bindgen.specs.Turns.{Arrives, Went}

-- the first words
pub words_front : (w n : ℕ) (ds : List WasmType) (ws : List Word) → AreWords w ds ws → AreWords w (take n ds) (take n ws)
words_front w zero ds ws h = refl
words_front w (suc n) [] ws h = ap (take (suc n)) h
words_front w (suc n) (d ∷ ds) [] h = absurd h
words_front w (suc n) (d ∷ ds) (x ∷ ws) h = (h.0, words_front w n ds ws h.1)

settled_number : (ts : Shapes) (c : Case ts) → case_number ts (settled_case ts c) ≡ case_number ts c
settled_number none c = elim c [ ]
settled_number (more t ts) (inl v) = refl
settled_number (more t ts) (inr c) = ap suc (settled_number ts c)

module _ {Self Operand : Type 0} (m : Meaning Self Operand) (sound : Sound m) where
  -- facts in front of others, and facts without those between
  front_facts : (w : m.World) (b : Self) (xs ys : Facts m) (s : m.State) → m.denotes w b (xs ++ ys) s → m.denotes w b xs s
  front_facts w b xs ys s h =
      let swapped : m.denotes w b (ys ++ (xs ++ [])) s = sound.swap w b xs ys [] s (subst (λ zs. m.denotes w b (xs ++ zs) s) (sym (append-nil ys)) h) in
      subst (λ zs. m.denotes w b zs s) (append-nil xs) (sound.fewer w b ys (xs ++ []) s swapped)

  outer_facts : (w : m.World) (b : Self) (xs ys zs : Facts m) (s : m.State) → m.denotes w b (xs ++ (ys ++ zs)) s → m.denotes w b (xs ++ zs) s
  outer_facts w b xs ys zs s h = sound.fewer w b ys (xs ++ zs) s (sound.swap w b xs ys zs s h)

  -- the facts of the first slots, and of the others
  pub slot_facts : (os : List Operand) (n : ℕ) (shared : List Word) → length shared ≡ length os → n ≤ length os
      → ofs m os (core_data m shared) ≡ ofs m (take n os) (core_data m (take n shared)) ++ ofs m (drop n os) (core_data m (drop n shared))
  slot_facts os n shared len few =
      let many : length (core_data m (take n shared)) ≡ length (take n os) = length-map (take n shared) (λ w. word w) ∙ omega (arith, length-take-le n shared (omega (arith, len, few)), length-take-le n os few) in
      sym (ap₂ (λ ps zs. ofs m ps (core_data m zs)) (take-append-drop n os) (take-append-drop n shared)) ∙ ap (ofs m (take n os ++ drop n os)) (core_append m (take n shared) (drop n shared))
      ∙ ofs_append m (take n os) (drop n os) (core_data m (take n shared)) (core_data m (drop n shared)) many

  payload_owned : (ts : Shapes) (c : Case ts) (ds : Data m) (payload : Option m.Item) (own : List Block) → IsPayload m ds payload → PayloadStands m taken ts c payload own → SameItems (flat_map (owned_datum m) ds) (addresses own)
  payload_owned none c ds payload own is st = elim c [ ]
  payload_owned (more t ts) (inl v) [] None own is st = λ g. sym (ap (λ (bs : List Block). total g (addresses bs)) st.1)
  payload_owned (more t ts) (inl v) (item a ∷ []) (Some b) own is st = λ g.
      ap (total g) (append-nil (m.owned a)) ∙ ap (λ x. total g (m.owned x)) is ∙ sound.owned t v b own st.1 g
  payload_owned (more t ts) (inr c) ds payload own is st = payload_owned ts c ds payload own is st
  payload_owned (more t ts) (inl v) _ _ own is st = absurd is

  is_payload : (ds : Data m) (payload : Option m.Item) → IsPayload m ds payload → gives_payload m ds ≡ true
  is_payload [] None h = refl
  is_payload (item a ∷ []) (Some b) h = refl
  is_payload _ _ h = absurd h

  -- 1. The block of a case without payload

  module _ (ds : List WasmType) (os : List Operand) (a b c : Self) (open_block : Pushes m a b) (close_block : Finishes m [] b c) where
    bare_row : (k : Case (more nothing none)) (shared : List Word) (own : List Block) → CaseSays m.width taken (more nothing none) k shared own
        → (body : m.Block) × (slice_get (close_block.block ∷ []) (case_number (more nothing none) k) ≡ Some body)
        × ((w : m.World) (p : Peer m.Item) (later : Self) (before s : m.State) → m.serves w c → m.denotes w a (ofs m os (core_data m shared)) before → m.denotes w later (ofs m os (core_data m shared)) s → MayTake own (m.account s)
        → TakesPayload m w p body (PayloadStands m taken (more nothing none) (settled_case (more nothing none) k)) own (case_requests m.width room_for (more nothing none) k) s)
    bare_row (inl v) shared own says = (
      close_block.block,
      refl,
      λ w p later before s sv hb hs may.
          let u = m.enter open_block.slot with_nothing s in
          let facts : Facts m = ofs m os (core_data m shared) in
          let inside : m.denotes w b facts u = open_block.enters w later facts before s with_nothing (words_facts m os shared) hb hs in
          let holds : m.denotes w b [] u = front_facts w b [] facts u inside in
          let gives = (block_runs m sound a b b c [] open_block (adds_same m b) close_block).ends w p with_nothing s u [] sv (begun m sound a b b c [] open_block (adds_same m b) close_block w p u) refl holds (open_block.owns s with_nothing) in
          let Stands = PayloadStands m taken (more nothing none) (settled_case (more nothing none) (inl v)) in
          let same : m.account gives.state ≡ took own (m.account s) = gives.account ∙ open_block.account s with_nothing ∙ sym (ap (λ bs. took bs (m.account s)) says.0.1 ∙ took_none (m.account s)) in
          subst (λ o. Comes false [] (m.account s) o (GavePayload m Stands own [] w s)) (sym gives.runs)
          (record { payload = None; is = tt; own = own; stands = (refl, says.0.1); lifted = plainly_lifted own (m.account s) (m.account gives.state) may.formed same; owns = gives.owns; keeps = gives.denotes }),
    )
    bare_row (inr k) shared own says = elim k [ ]

    bare_asks_nothing : (k : Case (more nothing none)) → case_requests m.width room_for (more nothing none) k ≡ []
    bare_asks_nothing (inl v) = refl
    bare_asks_nothing (inr k) = elim k [ ]

    pub bare_lifts : LiftsCases m (more nothing none) (0 ∷ []) ds os a c
    bare_lifts = record {
      bodies = close_block.block ∷ [];
      adds = one_block m sound a b b c [] open_block (adds_same m b) close_block;
      asks_nothing = bare_asks_nothing;
      row = λ k shared own listed are says. bare_row k shared own says;
    }

  -- 2. The block of a case with a payload

  module _ (t : Shape) (ds : List WasmType) (a b c d e : Self) (os qs : List Operand) (r : Operand) (fit : FitIn (flatten_type (layout t)) ds) (some : is_nothing t ≡ false) (enough : length os ≡ length ds) (open_block : Pushes m a b)
      (casts : CastsAll m (take (length (flatten_type (layout t))) ds) (flatten_type (layout t)) (take (length (flatten_type (layout t))) os) qs b c) (lift : LiftsFlat m t qs r c d) (close_block : Finishes m (r ∷ []) d e) where
    adds_bd : Adds m b d
    adds_bd = adds_both m b c d casts.adds lift.adds

    -- where the code has come to an item, the block gives it; and where it ends early, the block does
    module _ (v : Value t) (blocks : List Block) (w : m.World) (p : Peer m.Item) (facts : Facts m) (s : m.State) (sv : m.serves w e) where
      abbrev due_for : List Request
      due_for = requests m.width room_for t v

      abbrev entered : m.State
      entered = m.enter open_block.slot with_nothing s

      abbrev Inner : m.State → Type 0
      Inner u = Lifted m (OneStands m t v) blocks due_for (r ∷ []) w d facts entered u

      abbrev Outer : Ended m.Item m.State → Type 0
      Outer x = GavePayload m (PayloadStands m taken (more t none) (settled_case (more t none) (inl v))) blocks due_for w s x

      by_outcome : (o : Outcome m.Item m.State) → m.does w p (m.code d) entered ≡ o → Comes false due_for (m.account entered) o Inner → Comes false due_for (m.account s) (m.runs w p close_block.block with_nothing s) Outer
      by_outcome (Done u) is got =
          let x = got.stands.0 in
          let stands : m.stands taken t (settled t v) x got.own = got.stands.2 in
          let holds : m.denotes w d (of r (item x) ∷ []) u = front_facts w d (of r (item x) ∷ []) facts u (subst (λ vals. m.denotes w d (ofs m (r ∷ []) (item_data m vals) ++ facts) u) got.stands.1 got.denotes) in
          let owned : SameItems (m.owns u) (flat_map (owned_datum m) (item x ∷ [])) =
          λ g. omega (arith, got.owns g, open_block.owns s with_nothing g, sound.owned t (settled t v) x got.own stands g, total-append g (m.owns entered) (addresses got.own), ap (total g) (append-nil (m.owned x))) in
          let gives = (block_runs m sound a b d e (r ∷ []) open_block adds_bd close_block).ends w p with_nothing s u (item x ∷ []) sv is refl holds owned in
          let after = subst (LiftedBy blocks got.own due_for (m.account s)) (sym gives.account) (subst (λ z. LiftedBy blocks got.own due_for z (m.account u)) (open_block.account s with_nothing) got.lifted) in
          subst (λ o. Comes false due_for (m.account s) o Outer) (sym gives.runs) (record { payload = Some x; is = refl; own = got.own; stands = (some, stands); lifted = after; owns = gives.owns; keeps = gives.denotes })
      by_outcome (Stopped x acc) is got =
          let stops : m.runs w p close_block.block with_nothing s ≡ Stopped x acc = subst (λ o. StopsAlike m o (m.runs w p close_block.block with_nothing s)) is ((block_runs m sound a b d e (r ∷ []) open_block adds_bd close_block).stops w p with_nothing s sv) in
          subst (λ o. Comes false due_for (m.account s) o Outer) (sym stops) (subst (λ z. Early false due_for z x acc) (open_block.account s with_nothing) got)
      by_outcome (Stuck acc) is got = elim got [ ]

    full_row : (k : Case (more t none)) (shared : List Word) (blocks : List Block) → IsListedCase (more t none) k → AreWords m.width ds shared → CaseSays m.width taken (more t none) k shared blocks
        → (body : m.Block) × (slice_get (close_block.block ∷ []) (case_number (more t none) k) ≡ Some body)
        × ((w : m.World) (p : Peer m.Item) (later : Self) (before s : m.State) → m.serves w e → m.denotes w a (ofs m os (core_data m shared)) before → m.denotes w later (ofs m os (core_data m shared)) s → MayTake blocks (m.account s)
        → TakesPayload m w p body (PayloadStands m taken (more t none) (settled_case (more t none) k)) blocks (case_requests m.width room_for (more t none) k) s)
    full_row (inl v) shared blocks listed are says = (
      close_block.block,
      refl,
      λ w p later before s sv hb hs may.
          let types = flatten_type (layout t) in
          let n = length types in
          let u = m.enter open_block.slot with_nothing s in
          let facts : Facts m = ofs m os (core_data m shared) in
          let first : List Word = take n shared in
          let ins : Facts m = ofs m (take n os) (core_data m first) in
          let others : Facts m = ofs m (drop n os) (core_data m (drop n shared)) in
          let words : List Word = read_slots m.width types shared in
          let len : length shared ≡ length os = are_words-length m.width ds shared are ∙ sym enough in
          let few : n ≤ length os = omega (arith, fit_length types ds fit, enough) in
          let inside : m.denotes w b facts u = open_block.enters w later facts before s with_nothing (words_facts m os shared) hb hs in
          let svd = close_block.lasts.serves w sv in
          let at1 : At m w p b c (ins ++ others) u u =
          record { serves = lift.adds.grows.serves w svd; done = begun m sound a b d e (r ∷ []) open_block adds_bd close_block w p u; holds = subst (λ fs. m.denotes w b fs u) (slot_facts os n shared len few) inside } in
          let one = casts.row first (words_front m.width n ds shared are) w p others u u at1 in
          let t1 = one.0 in
          let after1 = one.2.2 in
          let is : one.2.0 ≡ ofs m qs (core_data m words) = one.2.1 ∙ ap (λ ws. ofs m qs (core_data m ws)) (cast_back m types ds shared fit are) in
          let at2 : At m w p c d (ofs m qs (core_data m words) ++ others) u t1 = record { serves = svd; done = one.1; holds = subst (λ fs. m.denotes w c (fs ++ others) t1) is after1.denotes } in
          let had : m.account t1 ≡ m.account s = after1.account ∙ open_block.account s with_nothing in
          let due = requests m.width room_for t v in
          let run = stays_gets m (OneStands m t v) blocks (r ∷ []) d w p others u u t1 due after1.account after1.owns (lift.row v words blocks listed says.0 w p others u t1 at2 (subst (MayTake blocks) (sym had) may)) in
          by_outcome v blocks w p others s sv (m.does w p (m.code d) u) refl run,
    )
    full_row (inr k) shared blocks listed are says = elim k [ ]

    full_asks_nothing : (k : Case (more t none)) → case_requests m.width room_for (more t none) k ≡ []
    full_asks_nothing (inl v) = lift.asks_nothing v
    full_asks_nothing (inr k) = elim k [ ]

    pub full_lifts : LiftsCases m (more t none) (1 ∷ []) ds os a e
    full_lifts = record {
      bodies = close_block.block ∷ [];
      adds = one_block m sound a b d e (r ∷ []) open_block adds_bd close_block;
      asks_nothing = full_asks_nothing;
      row = full_row;
    }

  -- 3. All cases

  pub no_cases : (ds : List WasmType) (os : List Operand) (a : Self) → LiftsCases m none [] ds os a a
  no_cases ds os a = record { bodies = []; adds = no_blocks m a; asks_nothing = λ c. elim c [ ]; row = λ c shared own listed are says. elim c [ ] }

  module _ (t : Shape) (ts : Shapes) (k : ℕ) (ks : List ℕ) (ds : List WasmType) (os : List Operand) (a b c : Self) (first : LiftsCases m (more t none) (k ∷ []) ds os a b) (later : LiftsCases m ts ks ds os b c) where
    both_row : (v : Case (more t ts)) (shared : List Word) (own : List Block) → IsListedCase (more t ts) v → AreWords m.width ds shared → CaseSays m.width taken (more t ts) v shared own
        → (body : m.Block) × (slice_get (first.bodies ++ later.bodies) (case_number (more t ts) v) ≡ Some body)
        × ((w : m.World) (p : Peer m.Item) (later : Self) (before s : m.State) → m.serves w c → m.denotes w a (ofs m os (core_data m shared)) before → m.denotes w later (ofs m os (core_data m shared)) s → MayTake own (m.account s)
        → TakesPayload m w p body (PayloadStands m taken (more t ts) (settled_case (more t ts) v)) own (case_requests m.width room_for (more t ts) v) s)
    both_row (inl v) shared own listed are says =
        let q = first.row (inl v) shared own listed are says in
        (q.0, get_front first.bodies later.bodies 0 q.0 q.1, λ w p l before s sv hb hs may. q.2 w p l before s (later.adds.grows.serves w sv) hb hs may)
    both_row (inr v) shared own listed are says =
        let q = later.row v shared own listed are says in
        let i = case_number ts v in
        let one : length first.bodies ≡ 1 = first.adds.many in
        let next : suc i ≡ length first.bodies + i = omega (arith, one) in
        let place : slice_get (first.bodies ++ later.bodies) (suc i) ≡ Some q.0 = ap (slice_get (first.bodies ++ later.bodies)) next ∙ get_behind first.bodies later.bodies i ∙ q.1 in
        (q.0, place, λ w p l before s sv hb hs may. q.2 w p l before s sv (first.adds.grows.known w (ofs m os (core_data m shared)) before hb) hs may)

    both_ask_nothing : (k : Case (more t ts)) → case_requests m.width room_for (more t ts) k ≡ []
    both_ask_nothing (inl v) = first.asks_nothing (inl v)
    both_ask_nothing (inr k) = later.asks_nothing k

    pub cases_both : LiftsCases m (more t ts) (k ∷ ks) ds os a c
    cases_both = record { bodies = first.bodies ++ later.bodies; adds = blocks_both m first.bodies later.bodies (k ∷ []) ks a b c first.adds later.adds; asks_nothing = both_ask_nothing; row = both_row }

  -- 4. The instruction behind the blocks

  module _ (last : Form → Bool) (ts : Shapes) (a b c : Self) (o r : Operand) (os : List Operand) (ks used : List ℕ) (many : length ks ≡ count ts) (same : length used ≡ count ts) (enough : length os ≡ length (slots (layouts ts)))
      (blocks : LiftsCases m ts ks (slots (layouts ts)) os a b) (code : AddsCode m false used b c) (left : m.blocks c ≡ drop (length used) (m.blocks b)) (asked : m.asked c ≡ m.asked b) (row : LiftsCase m last ts (o ∷ []) (r ∷ []) b c) where
    all_adds : Adds m a c
    all_adds =
        let g = code_grows m used b c code in
        blocks_used m blocks.bodies ks a b c blocks.adds g.0 g.1 g.2 asked (left ∙ ap (λ n. drop n (m.blocks b)) (same ∙ sym many))

    bodies_are : arms m (count ts) (m.blocks b) ≡ blocks.bodies
    bodies_are =
        let len : count ts ≡ length (reverse blocks.bodies) = sym (length-reverse blocks.bodies ∙ blocks.adds.many ∙ many) in
        ap (λ bs. reverse (take (count ts) bs)) blocks.adds.blocks ∙ ap reverse (take_front (reverse blocks.bodies) (m.blocks a) (count ts) len) ∙ reverse-reverse blocks.bodies

    taken_over : (v : Case ts) (ws : List Word) (given : List Block) → IsListedCase ts v → Says m.width taken (cases ts) v ws given → TakesOver m (OneStands m (cases ts) v) (ofs m (o ∷ os) (core_data m ws)) given (case_requests m.width room_for ts v) (r ∷ []) a c
    taken_over v ws given listed says w p others s0 s at may =
        let i = case_number ts v in
        let x = core.I32 (pos i) in
        let due = case_requests m.width room_for ts v in
        let shared = says.0 in
        let there : Facts m = ofs m os (core_data m shared) in
        let facts : Facts m = of o (word x) ∷ (there ++ others) in
        let outside : m.denotes w a facts s = subst (λ zs. m.denotes w a (ofs m (o ∷ os) (core_data m zs) ++ others) s) says.1 at.holds in
        let svb = (code_grows m used b c code).0.serves w at.serves in
        let holds : m.denotes w b facts s = blocks.adds.grows.known w facts s outside in
        let at2 : At m w p b c facts s0 s = record { serves = at.serves; done = ap (λ code. m.does w p code s0) blocks.adds.code ∙ at.done; holds = holds } in
        let mv = row x w p (there ++ others) s0 s at2 in
        let moved = mv.1 in
        let q = blocks.row v shared given listed says.2 says.3 in
        let before : m.denotes w a there s = front_facts w a there others s (sound.fewer w a (of o (word x) ∷ []) (there ++ others) s outside) in
        let rest : m.denotes w b (there ++ others) mv.0 = moved.denotes (there ++ others) holds in
        let run = q.2 w p b s mv.0 svb before (front_facts w b there others mv.0 rest) (subst (MayTake given) (sym moved.account) may) in
        let First : Ended m.Item m.State → Type 0 = GavePayload m (PayloadStands m taken ts (settled_case ts v)) given due w mv.0 in
        let Whole : m.State → Type 0 = Lifted m (OneStands m (cases ts) v) given due (r ∷ []) w c others s in
        let Behind : Went m (Armed m) → m.State → Type 0 = Arrives m w b c (there ++ others) (λ l fs. (y : m.Item) × (fs ≡ ofs m (r ∷ []) (item y ∷ []))
        × ((k : Case ts) (payload : Option m.Item) (own : List Block) → case_number ts k ≡ l.number → IsPayload m l.results payload → PayloadStands m taken ts k payload own → m.stands taken (cases ts) k y own)) (λ l. flat_map (owned_datum m) l.results) in
        let is = arm_is m (gives_payload m) w p (last p.form) (count ts) (m.blocks b) i mv.0 q.0 (number_below ts v) (ap (λ bs. slice_get bs i) bodies_are ∙ q.1) in
        let follows = subst (λ z. Follows m.account z (m.does w p (m.code c) s0) Behind) is mv.2 in
        arm_comes m false due (m.account s) (m.runs w p q.0 with_nothing mv.0) (m.does w p (m.code c) s0) (fitting m (gives_payload m) i) First Behind Whole
        (subst (λ z. Comes false due z (m.runs w p q.0 with_nothing mv.0) First) moved.account run) follows (λ z. went m i z.results z.state)
        (λ z made. cond-true (gives_payload m z.results) _ _ (is_payload z.results made.payload made.is))
        (λ z t made arrived.
        let got = arrived.denotes (made.keeps b (there ++ others) rest) in
        let result = got.1 in
        let final : m.denotes w c (of r (item result.0) ∷ (there ++ others)) t = subst (λ fs. m.denotes w c (fs ++ (there ++ others)) t) result.1 got.2 in
        record {
          vals = result.0 ∷ [];
          own = made.own;
          stands = (result.0, refl, result.2 (settled_case ts v) made.payload made.own (settled_number ts v) made.is made.stands);
          lifted = subst (LiftedBy given made.own due (m.account s)) (sym arrived.account) (subst (λ y. LiftedBy given made.own due y (m.account z.state)) moved.account made.lifted);
          owns = λ g. omega (arith, arrived.owns g, made.owns g, moved.owns g, payload_owned ts (settled_case ts v) z.results made.payload made.own made.is made.stands g, total-append g (m.owns s) (addresses made.own), total-append g (m.owns mv.0) [], total-append g (m.owns z.state) (flat_map (owned_datum m) z.results));
          denotes = outer_facts w c (of r (item result.0) ∷ []) there others t final;
        })

    pub cases_lift : LiftsFlat m (cases ts) (o ∷ os) r a c
    cases_lift = record { adds = all_adds; fits = ap suc enough; asks_nothing = blocks.asks_nothing; row = taken_over }
