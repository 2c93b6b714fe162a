-- The cases of a type become core words, by a block for each; and then the instruction makes words of the value.
use Rattle.std.proofs.Common.{◌≡◌, ℕ, suc, ◌+◌, ◌<◌, ◌≤◌, ◌^◌, Bool, true, false, pos, List, [], ◌∷◌, ◌++◌, length, map, reverse, replicate, take, drop, Option, None, Some, if◌then◌else◌, refl, sym, ap, ◌∙◌, subst, arith, append-nil}
use Rattle.std.specs.List.{flat_map, slice_get}
use Rattle.std.proofs.lemmas.List.{length-append, length-drop, length-map, length-replicate, length-reverse, reverse-reverse}
use mathlib.Core.Logic.{inl, inr}
use Rattle.wit_model.specs.declared.wasm_type.WasmType.{WasmType}
use Rattle.wit_model.specs.declared.types.TypeDef.{TypeDef}
use Rattle.wit_layout.specs.Flat.{flatten_type, slots}
use Rattle.wrapper_data.specs.Heap.{is_heap}
use Rattle.wrapper_data.specs.declared.block.Block.{Block}
use Rattle.wrapper_data.specs.declared.choice.Request.{Request}
use Rattle.wrapper_data.specs.declared.word.Word.{Word}
use Rattle.wrapper_data.specs.declared.word.Word.TheVariants as core
use Rattle.wrapper_meaning.specs.AsWords.{AreLeftOver, BothSay, CaseSays, Says, Saying}
use Rattle.wrapper_meaning.specs.InRange.{IsListed, IsListedCase}
use Rattle.wrapper_meaning.specs.Items.{SameItems, total}
use Rattle.wrapper_meaning.specs.Layout.{layout, layouts}
use Rattle.wrapper_meaning.specs.Requests.{block_for, case_requests, requests}
use Rattle.wrapper_meaning.specs.Shape.{Shape, Shapes, is_nothing, nothing}
use Rattle.wrapper_meaning.specs.Shape.Shape.{cases}
use Rattle.wrapper_meaning.specs.Shape.Shapes.{none, more}
use Rattle.wrapper_meaning.specs.Value.{Case, Value, case_number}
use Rattle.wrapper_meaning.specs.Words.{AreWords, AreZero, word_of_bits}
use Rattle.wit_layout.proofs.AheadTurns.{entry_at}
use Rattle.wrapper_meaning.proofs.Lists.{some_same}
use Rattle.wrapper_meaning.proofs.PostReturn.{total-append}
use Rattle.wrapper_meaning.proofs.WordsDetermined.{are_words-length}
use Rattle.abi_bindgen.specs.declared.instruction.Instruction.TheVariants.{I32Const, VariantPayloadName}
use Rattle.abi_bindgen.specs.Account.{Account, Done, Follows, Outcome, Peer, Stopped, Stuck, addresses, then_do}
use Rattle.abi_bindgen.specs.Arms.{Armed, arms, gives_words}
use Rattle.abi_bindgen.specs.Blocks.{Finishes, IsOpen, Pushes, owned_datum}
use Rattle.abi_bindgen.specs.CaseBlocks.{AddsBlocks, GaveWords, GivesWords, LowersCases, SaysCase}
use Rattle.abi_bindgen.specs.Cases.{LowersCase, PayloadStands, with_case}
use Rattle.abi_bindgen.specs.Constants.{cast_words}
use Rattle.abi_bindgen.specs.Instructions.{AddsCode, Emits}
use Rattle.abi_bindgen.specs.Early.{Comes}
use Rattle.abi_bindgen.specs.Laws.{Adds, At, Facts, Sound, Stays, core_data, ofs}
use Rattle.abi_bindgen.specs.Leaves.{way}
use Rattle.abi_bindgen.specs.Lowering.{Lowered, LoweredBy, Passes, Releases, said}
use Rattle.abi_bindgen.specs.Lowers.{LowersFlat}
use Rattle.abi_bindgen.specs.Meaning.{Ended, Meaning, bound, item, of, the_payload, with_nothing, with_payload, word}
use Rattle.abi_bindgen.specs.Parts.{count}
use Rattle.abi_bindgen.specs.SlotCasts.{AddsZeros, CastsAll, FitIn, ReadBack}
use Rattle.abi_bindgen.specs.Turns.{Arrives, Moved, Went}
use Rattle.abi_bindgen.proofs.BareCases.{number_ranged}
use Rattle.abi_bindgen.proofs.BlockRuns.{block_passes, blocks_both, blocks_used, code_grows, get_behind, get_front, no_blocks, one_block, take_front, way_owned, words_given, words_own}
use Rattle.abi_bindgen.proofs.LowerSteps.{one_bare}
use Rattle.abi_bindgen.proofs.PassSteps.{passes_as, passes_both, passes_plainly, passes_stay, stays_passes}
use Rattle.abi_bindgen.proofs.Runs.{adds_both, core_append, does_both, ofs_append}
use Rattle.abi_bindgen.proofs.WordBits.{cast_length, fit_length, to_slots, written_are, written_left, written_read, zeros_are, zeros_zero}

pub number_below : (ts : Shapes) (c : Case ts) → case_number ts c < count ts
number_below none c = elim c [ ]
number_below (more t ts) (inl v) = omega arith
number_below (more t ts) (inr c) = let later = number_below ts c in omega (arith, later)

left_zero : (realloc : Bool) (given : List Block) (ws : List Word) → AreZero ws → AreLeftOver (said realloc given) ws
left_zero true given ws h = h
left_zero false given ws h = h

-- a number and then slots
numbered : (realloc : Bool) (given : List Block) (w n : ℕ) (t : Shape) (ts : Shapes) (c : Case (more t ts)) (slots : List WasmType) (ws shared : List Word) (blocks : List Block) → ws ≡ core.I32 (pos n) ∷ [] → case_number (more t ts) c ≡ 0
    → AreWords w slots shared → CaseSays w (said realloc given) (more t ts) c shared blocks
    → (shared' : List Word) × (ws ++ shared ≡ core.I32 (pos (n + case_number (more t ts) c)) ∷ shared') × AreWords w slots shared' × CaseSays w (said realloc given) (more t ts) c shared' blocks
numbered realloc given w n t ts c slots ws shared blocks is zeroth are says =
    let same : n ≡ n + case_number (more t ts) c = omega (arith, zeroth) in
    (shared, ap (λ xs. xs ++ shared) is ∙ ap (λ k. core.I32 (pos k) ∷ shared) same, are, says)

module _ {Self Operand : Type 0} (m : Meaning Self Operand) (sound : Sound m) (realloc : Bool) where
  -- 1. The block of a case without payload

  module _ (n : ℕ) (ds : List WasmType) (types : List TypeDef) (a b c d e : Self) (r : Operand) (zs : List Operand) (open_block : Pushes m a b) (const : Emits m types (I32Const (pos n)) [] (r ∷ []) b c) (zeros : AddsZeros m ds zs c d)
      (close_block : Finishes m (r ∷ zs) d e) where
    bare_adds : Adds m b d
    bare_adds = adds_both m b c d const.adds zeros.adds

    -- the number, and zeros in all slots
    abbrev zero_words : List Word
    zero_words = map (λ ty. word_of_bits m.width ty 0) ds

    abbrev Row : (given : List Block) → Case (more nothing none) → Option m.Item → List Block → Type 0
    Row given k payload own =
        (body : m.Block) × (slice_get (close_block.block ∷ []) (case_number (more nothing none) k) ≡ Some body)
        × ((w : m.World) (p : Peer m.Item) (later : Self) (before s : m.State) → m.serves w e → m.denotes w a [] before → m.denotes w later [] s
        → GivesWords m realloc (SaysCase m realloc given (more nothing none) k n ds) own (case_requests m.width block_for (more nothing none) k) (suc (length ds)) w p body (with_case m payload) s)

    bare_row : (given : List Block) (k : Case (more nothing none)) (payload : Option m.Item) (own : List Block) → PayloadStands m (way realloc given) (more nothing none) k payload own → Row given k payload own
    bare_row given (inl v) None own st =
        let num : Word = core.I32 (pos n) in
        let does = does_both m sound b c d [] [] (of r (word num) ∷ []) (ofs m zs (core_data m zero_words)) [] [] zeros.adds const.row zeros.row in
        let Say : Saying = SaysCase m realloc given (more nothing none) (inl v) n ds in
        let says : Say (num ∷ zero_words) [] = numbered realloc given m.width n nothing none (inl v) ds (num ∷ []) zero_words [] refl refl (zeros_are m sound.wide ds) ((refl, refl), left_zero realloc given zero_words (zeros_zero m sound.wide ds)) in
        let len : length (num ∷ zero_words) ≡ length (r ∷ zs) = ap suc (length-map ds (λ ty. word_of_bits m.width ty 0) ∙ sym zeros.fits) in
        let passes = passes_plainly m realloc Say [] [] (num ∷ zero_words) (r ∷ zs) b d len says does in
        let whole : Row given (inl v) None [] = (
          close_block.block,
          refl,
          λ w p later before s sv hb hs. subst (λ k. GivesWords m realloc Say [] [] k w p close_block.block with_nothing s) (ap suc zeros.fits)
              (block_passes m sound a b d e (r ∷ zs) open_block bare_adds close_block realloc Say with_nothing [] [] (λ g. refl) passes w p later before s sv hb hs),
        ) in
        subst (Row given (inl v) None) (sym st.1) whole
    bare_row given (inl v) (Some x) own st = absurd (let h : true ≡ false = st.0 in cc)
    bare_row given (inr k) payload own st = elim k [ ]

    bare_asks_nothing : (k : Case (more nothing none)) → case_requests m.width block_for (more nothing none) k ≡ []
    bare_asks_nothing (inl v) = refl
    bare_asks_nothing (inr k) = elim k [ ]

    pub bare_lowers : LowersCases m realloc (more nothing none) n ds a e
    bare_lowers = record {
      bodies = close_block.block ∷ [];
      adds = subst (λ k. AddsBlocks m (close_block.block ∷ []) (k ∷ []) a e) (ap suc zeros.fits) (one_block m sound a b d e (r ∷ zs) open_block bare_adds close_block);
      asks_nothing = bare_asks_nothing;
      row = λ given k payload own listed st. bare_row given k payload own st;
    }

  -- 2. The block of a case with a payload

  module _ (n : ℕ) (t : Shape) (ds : List WasmType) (types : List TypeDef) (a b c d e f g h : Self) (o r : Operand) (os qs zs : List Operand) (fit : FitIn (flatten_type (layout t)) ds) (some : is_nothing t ≡ false)
      (back : ReadBack (flatten_type (layout t)) (take (length (flatten_type (layout t))) ds)) (open_block : Pushes m a b) (name : Emits m types VariantPayloadName [] (o ∷ []) b c)
      (const : Emits m types (I32Const (pos n)) [] (r ∷ []) c d) (lower : LowersFlat m realloc t o os d e) (casts : CastsAll m (flatten_type (layout t)) (take (length (flatten_type (layout t))) ds) os qs e f)
      (zeros : AddsZeros m (drop (length (flatten_type (layout t))) ds) zs f g) (close_block : Finishes m (r ∷ qs ++ zs) g h) where
    abbrev types_of : List WasmType
    types_of = flatten_type (layout t)

    adds_dg : Adds m d g
    adds_dg = adds_both m d e g lower.adds (adds_both m e f g casts.adds zeros.adds)

    adds_cg : Adds m c g
    adds_cg = adds_both m c d g const.adds adds_dg

    adds_bg : Adds m b g
    adds_bg = adds_both m b c g name.adds adds_cg

    many : length (qs ++ zs) ≡ length ds
    many = length-append qs zs ∙ omega (arith, casts.fits, zeros.fits, length-drop (length types_of) ds, fit_length types_of ds fit)

    abbrev FullRow : (given : List Block) → Case (more t none) → Option m.Item → List Block → Type 0
    FullRow given k payload own =
        (body : m.Block) × (slice_get (close_block.block ∷ []) (case_number (more t none) k) ≡ Some body)
        × ((w : m.World) (p : Peer m.Item) (later : Self) (before s : m.State) → m.serves w h → m.denotes w a [] before → m.denotes w later [] s
        → GivesWords m realloc (SaysCase m realloc given (more t none) k n ds) own (case_requests m.width block_for (more t none) k) (suc (length ds)) w p body (with_case m payload) s)

    -- a payload's words in the slots, and zeros in those that are left over
    abbrev front_words : List Word → List Word
    front_words ws = cast_words m types_of (take (length types_of) ds) ws

    abbrev left_words : List Word
    left_words = map (λ ty. word_of_bits m.width ty 0) (drop (length types_of) ds)

    module _ (given : List Block) (v : Value t) (own : List Block) (listed : IsListed t v) where
      abbrev Slots : Saying
      Slots us blocks = AreWords m.width ds us × CaseSays m.width (said realloc given) (more t none) (inl v) us blocks

      slots_said : (ws : List Word) (blocks : List Block) → Says m.width (said realloc given) t v ws blocks → Slots (front_words ws ++ left_words) blocks
      slots_said ws blocks says =
          let dir = said realloc given in
          let are : AreWords m.width types_of ws = lower.ranged given v ws blocks listed says in
          let shared = front_words ws ++ left_words in (
            written_are m sound.wide types_of ds ws fit are,
            (
              subst (λ xs. Says m.width dir t v xs blocks) (sym (written_read m sound.wide types_of ds ws fit are back)) says,
              subst (AreLeftOver dir) (sym (written_left m sound.wide types_of ds ws fit are)) (left_zero realloc given left_words (zeros_zero m sound.wide (drop (length types_of) ds))),
            ),
          )

      -- the words are cast, and the other slots are made
      filled : (ws : List Word) (blocks : List Block) → length ws ≡ length os → Says m.width (said realloc given) t v ws blocks
          → (us : List Word) × (length us ≡ length (qs ++ zs)) × Slots us blocks × Stays m e g (ofs m os (core_data m ws)) (λ fs. fs ≡ ofs m (qs ++ zs) (core_data m us))
      filled ws blocks len says =
          let are : AreWords m.width types_of ws = lower.ranged given v ws blocks listed says in
          let front = front_words ws in
          let shared = front ++ left_words in
          let slots = slots_said ws blocks says in
          let ins : Facts m = ofs m os (core_data m ws) in
          let out : Facts m = ofs m (qs ++ zs) (core_data m shared) in
          let both = does_both m sound e f g ins [] (ofs m qs (core_data m front)) (ofs m zs (core_data m left_words)) [] [] zeros.adds (casts.row ws are) zeros.row in
          let long : length (core_data m front) ≡ length qs = length-map front (λ w. word w) ∙ cast_length m types_of (take (length types_of) ds) ws (to_slots types_of ds fit) are ∙ sym casts.fits in
          let facts : ofs m qs (core_data m front) ++ ofs m zs (core_data m left_words) ≡ out = sym (ap (ofs m (qs ++ zs)) (core_append m front left_words) ∙ ofs_append m qs zs (core_data m front) (core_data m left_words) long) in
          let stays : Stays m e g ins (λ fs. fs ≡ out) = subst (λ x. Stays m e g ins (λ fs. fs ≡ x)) facts (subst (λ x. Stays m e g x (λ fs. fs ≡ ofs m qs (core_data m front) ++ ofs m zs (core_data m left_words))) (append-nil ins) both) in
          (shared, are_words-length m.width ds shared slots.0 ∙ sym many, slots, stays)

      full_passes : (x : m.Item) → m.stands (way realloc given) t v x own → Passes m realloc (SaysCase m realloc given (more t none) (inl v) n ds) (bound open_block.slot the_payload (item x) ∷ []) own (requests m.width block_for t v) (r ∷ qs ++ zs) b g
      full_passes x st =
          let due = requests m.width block_for t v in
          let one : Facts m = of o (item x) ∷ [] in
          let num : Word = core.I32 (pos n) in
          let Num : Saying = λ ws blocks. (ws ≡ num ∷ []) × (blocks ≡ []) in
          let Say : Saying = SaysCase m realloc given (more t none) (inl v) n ds in
          let payload_in_slots = passes_stay m realloc (Says m.width (said realloc given) t v) Slots one own due os (qs ++ zs) d e g (adds_both m e f g casts.adds zeros.adds) (lower.row given v x own listed st) filled in
          let number : Passes m realloc Num [] [] [] (r ∷ []) c d = passes_plainly m realloc Num [] [] (num ∷ []) (r ∷ []) c d refl (refl, refl) const.row in
          let with_number = passes_both m realloc sound Num Slots [] one [] own [] due (r ∷ []) (qs ++ zs) c d g (one_bare m sound types realloc given t v x own st) adds_dg number payload_in_slots in
          let said_so = passes_as m realloc (BothSay Num Slots) Say one own due (r ∷ qs ++ zs) c g
          (λ ws blocks says. subst (λ xs. Say xs blocks) (sym says.6) (subst (Say (says.0 ++ says.1)) (sym (says.7 ∙ ap (λ bs. bs ++ says.3) says.4.1))
          (numbered realloc given m.width n t none (inl v) ds says.0 says.1 says.3 says.4.0 refl says.5.0 says.5.1))) with_number in
          let is_open : IsOpen m b = record { slot = open_block.slot; suspended = m.code a; outer = m.opened a; opened = open_block.opened } in
          stays_passes m realloc Say (bound open_block.slot the_payload (item x) ∷ []) one own due (r ∷ qs ++ zs) b c g adds_cg (name.row is_open (item x)) said_so

    full_row : (given : List Block) (k : Case (more t none)) (payload : Option m.Item) (own : List Block) → IsListedCase (more t none) k → PayloadStands m (way realloc given) (more t none) k payload own → FullRow given k payload own
    full_row given (inl v) None own listed st = absurd (let h : false ≡ true = sym some ∙ st.0 in cc)
    full_row given (inl v) (Some x) own listed st =
        let due = requests m.width block_for t v in
        let Say : Saying = SaysCase m realloc given (more t none) (inl v) n ds in (
          close_block.block,
          refl,
          λ w p later before s sv hb hs. subst (λ k. GivesWords m realloc Say own due k w p close_block.block (with_payload x) s) (ap suc many)
              (block_passes m sound a b g h (r ∷ qs ++ zs) open_block adds_bg close_block realloc Say (with_payload x) own due (way_owned m sound realloc given t v x own st.1) (full_passes given v own listed x st.1) w p later before s sv hb hs),
        )
    full_row given (inr k) payload own listed st = elim k [ ]

    full_asks_nothing : (k : Case (more t none)) → case_requests m.width block_for (more t none) k ≡ []
    full_asks_nothing (inl v) = lower.asks_nothing v
    full_asks_nothing (inr k) = elim k [ ]

    pub full_lowers : LowersCases m realloc (more t none) n ds a h
    full_lowers = record {
      bodies = close_block.block ∷ [];
      adds = subst (λ k. AddsBlocks m (close_block.block ∷ []) (k ∷ []) a h) (ap suc many) (one_block m sound a b g h (r ∷ qs ++ zs) open_block adds_bg close_block);
      asks_nothing = full_asks_nothing;
      row = full_row;
    }

  -- 3. All cases

  pub no_cases : (n : ℕ) (ds : List WasmType) (a : Self) → LowersCases m realloc none n ds a a
  no_cases n ds a = record { bodies = []; adds = no_blocks m a; asks_nothing = λ c. elim c [ ]; row = λ given c payload own listed st. elim c [ ] }

  module _ (t : Shape) (ts : Shapes) (n : ℕ) (ds : List WasmType) (a b c : Self) (first : LowersCases m realloc (more t none) n ds a b) (later : LowersCases m realloc ts (suc n) ds b c) where
    abbrev BothRow : (given : List Block) → Case (more t ts) → Option m.Item → List Block → Type 0
    BothRow given k payload own =
        (body : m.Block) × (slice_get (first.bodies ++ later.bodies) (case_number (more t ts) k) ≡ Some body)
        × ((w : m.World) (p : Peer m.Item) (later : Self) (before s : m.State) → m.serves w c → m.denotes w a [] before → m.denotes w later [] s
        → GivesWords m realloc (SaysCase m realloc given (more t ts) k n ds) own (case_requests m.width block_for (more t ts) k) (suc (length ds)) w p body (with_case m payload) s)

    both_row : (given : List Block) (k : Case (more t ts)) (payload : Option m.Item) (own : List Block) → IsListedCase (more t ts) k → PayloadStands m (way realloc given) (more t ts) k payload own → BothRow given k payload own
    both_row given (inl v) payload own listed st =
        let q = first.row given (inl v) payload own listed st in
        (q.0, get_front first.bodies later.bodies 0 q.0 q.1, λ w p l before s sv hb hs. q.2 w p l before s (later.adds.grows.serves w sv) hb hs)
    both_row given (inr k) payload own listed st =
        let q = later.row given k payload own listed st in
        let i = case_number ts k in
        let one : length first.bodies ≡ 1 = first.adds.many in
        let next : suc i ≡ length first.bodies + i = omega (arith, one) in
        let place : slice_get (first.bodies ++ later.bodies) (suc i) ≡ Some q.0 = ap (slice_get (first.bodies ++ later.bodies)) next ∙ get_behind first.bodies later.bodies i ∙ q.1 in
        let same : suc n + i ≡ n + suc i = omega arith in
        let Told : ℕ → Saying = λ number ws blocks. (shared : List Word) × (ws ≡ core.I32 (pos number) ∷ shared) × AreWords m.width ds shared × CaseSays m.width (said realloc given) ts k shared blocks in (
          q.0,
          place,
          λ w p l before s sv hb hs. subst (λ number. GivesWords m realloc (Told number) own (case_requests m.width block_for ts k) (suc (length ds)) w p q.0 (with_case m payload) s) same (q.2 w p l before s sv (first.adds.grows.known w [] before hb) hs),
        )

    both_ask_nothing : (k : Case (more t ts)) → case_requests m.width block_for (more t ts) k ≡ []
    both_ask_nothing (inl v) = first.asks_nothing (inl v)
    both_ask_nothing (inr k) = later.asks_nothing k

    pub cases_both : LowersCases m realloc (more t ts) n ds a c
    cases_both = record {
      bodies = first.bodies ++ later.bodies;
      adds = blocks_both m first.bodies later.bodies (suc (length ds) ∷ []) (replicate (count ts) (suc (length ds))) a b c first.adds later.adds;
      asks_nothing = both_ask_nothing;
      row = both_row;
    }

  -- 4. The instruction behind the blocks

  -- the arm of a case, which gives words, is followed
  module _ (w : m.World) (p : Peer m.Item) (b c : Self) (Say : Saying) (own : List Block) (left : List ℕ) (due : List Request) (os : List Operand) (others ins : Facts m) (gone : List ℕ) (i : ℕ) (payload : Option m.Item) (body : m.Block) (s0 s at : m.State)
      (moved : Moved m w b ins gone s (m.account s) at) (owned : SameItems gone (addresses own)) (holds : m.denotes w b (ins ++ others) s) where
    abbrev Armful : Went m (Armed m) → m.State → Type 0
    Armful = Arrives m w b c others (λ l fs. fs ≡ ofs m os l.results) (λ l. flat_map (owned_datum m) l.results)

    abbrev Fitting : Ended m.Item m.State → Bool → Outcome m.Item (Went m (Armed m))
    Fitting e fit = if fit then Done (record { result = record { number = i; results = e.results }; state = e.state; account = m.account e.state }) else Stuck (m.account e.state)

    abbrev RunArm : Outcome m.Item (Ended m.Item m.State) → Outcome m.Item (Went m (Armed m))
    RunArm o = then_do o (λ e. Fitting e (gives_words m e.results))

    abbrev Gave : Ended m.Item m.State → Type 0
    Gave e = GaveWords m realloc Say own left due (length os) w at e

    abbrev Whole : m.State → Type 0
    Whole t = Lowered m realloc Say own left due os w c others s t

    ran_done : (e : Ended m.Item m.State) (t : m.State) → Gave e → Armful (record { result = record { number = i; results = e.results }; state = e.state; account = m.account e.state }) t → Whole t
    ran_done e t gave arrived =
        let got = arrived.denotes (gave.keeps b others (moved.denotes others holds)) in
        let now : got.0 ≡ ofs m os (core_data m gave.ws) = got.1 ∙ ap (ofs m os) gave.results in
        record {
          ws = gave.ws;
          fits = gave.fits;
          lowered = subst (λ z. LoweredBy realloc Say own left due gave.ws (m.account s) z) (sym arrived.account) (subst (λ z. LoweredBy realloc Say own left due gave.ws z (m.account e.state)) moved.account gave.lowered);
          owns = λ g. omega (arith, moved.owns g, owned g, gave.owns g, arrived.owns g, total-append g (m.owns at) gone, total-append g (m.owns e.state) (flat_map (owned_datum m) e.results), ap (λ ds. total g (flat_map (owned_datum m) ds)) gave.results, ap (total g) (words_own m gave.ws), total-append g (m.owns t) (addresses own));
          denotes = subst (λ fs. m.denotes w c (fs ++ others) t) now got.2;
        }

    arm_followed : (q : Outcome m.Item (Ended m.Item m.State)) → Comes true due (m.account s) q Gave → Follows m.account (RunArm q) (m.does w p (m.code c) s0) Armful → Comes true due (m.account s) (m.does w p (m.code c) s0) Whole
    arm_followed (Done e) h k =
        let fit : gives_words m e.results ≡ true = ap (gives_words m) h.results ∙ words_given m h.ws in
        let r = subst (λ b. Follows m.account (Fitting e b) (m.does w p (m.code c) s0) Armful) fit k in
        subst (λ o. Comes true due (m.account s) o Whole) (sym r.1) (ran_done e r.0 h r.2)
    arm_followed (Stopped e acc) h k = subst (λ o. Comes true due (m.account s) o Whole) (sym k) h
    arm_followed (Stuck acc) h k = elim h [ ]

  module _ (ts : Shapes) (a b c : Self) (o : Operand) (os : List Operand) (ks : List ℕ) (many : length ks ≡ count ts) (few : count ts ≤ 2 ^ 31) (blocks : LowersCases m realloc ts 0 (slots (layouts ts)) a b) (code : AddsCode m false ks b c)
      (used : m.blocks c ≡ drop (length ks) (m.blocks b)) (asked : m.asked c ≡ m.asked b) (results : length os ≡ suc (length (slots (layouts ts)))) (row : LowersCase m ts (o ∷ []) os b c) where
    abbrev block_counts : List ℕ
    block_counts = replicate (count ts) (suc (length (slots (layouts ts))))

    all_adds : Adds m a c
    all_adds =
        let g = code_grows m ks b c code in
        let same : length ks ≡ length block_counts = many ∙ sym (length-replicate (count ts) (suc (length (slots (layouts ts))))) in
        blocks_used m blocks.bodies block_counts a b c blocks.adds g.0 g.1 g.2 asked (used ∙ ap (λ n. drop n (m.blocks b)) same)

    bodies_are : arms m (count ts) (m.blocks b) ≡ blocks.bodies
    bodies_are =
        let len : count ts ≡ length (reverse blocks.bodies) = sym (length-reverse blocks.bodies ∙ blocks.adds.many ∙ length-replicate (count ts) (suc (length (slots (layouts ts))))) in
        ap (λ bs. reverse (take (count ts) bs)) blocks.adds.blocks ∙ ap reverse (take_front (reverse blocks.bodies) (m.blocks a) (count ts) len) ∙ reverse-reverse blocks.bodies

    number_is : (given : List Block) (v : Case ts) (ws : List Word) (blocks : List Block) → Says m.width (said realloc given) (cases ts) v ws blocks → AreWords m.width (flatten_type (layout (cases ts))) ws
    number_is given v ws blocks says =
        let below = number_below ts v in
        subst (AreWords m.width (flatten_type (layout (cases ts)))) (sym says.1) (number_ranged (case_number ts v) (omega (arith, below, few)), says.2)

    passed : (given : List Block) (v : Case ts) (x : m.Item) (own : List Block) → IsListedCase ts v → m.stands (way realloc given) (cases ts) v x own
        → Passes m realloc (Says m.width (said realloc given) (cases ts) v) (of o (item x) ∷ []) own (case_requests m.width block_for ts v) os a c
    passed given v x own listed st w p others s0 s left at formed goes =
        let i = case_number ts v in
        let due = case_requests m.width block_for ts v in
        let Say : Saying = Says m.width (said realloc given) (cases ts) v in
        let Told : ℕ → Saying = λ number ws blocks. (shared : List Word) × (ws ≡ core.I32 (pos number) ∷ shared) × AreWords m.width (slots (layouts ts)) shared × CaseSays m.width (said realloc given) ts v shared blocks in
        let counted = length-replicate (count ts) (suc (length (slots (layouts ts)))) in
        let there = entry_at blocks.bodies i (omega (arith, number_below ts v, blocks.adds.many, counted)) in
        let r = row (way realloc given) v x own there.0 st (ap (λ bs. slice_get bs i) bodies_are ∙ there.1) in
        let q = blocks.row given v r.0 own listed r.1 in
        let is : q.0 ≡ there.0 = some_same q.0 there.0 (sym q.1 ∙ there.1) in
        let same : 0 + i ≡ i = omega arith in
        let facts : Facts m = of o (item x) ∷ others in
        let svb = (code_grows m ks b c code).0.serves w at.serves in
        let holds : m.denotes w b facts s = blocks.adds.grows.known w facts s at.holds in
        let at2 : At m w p b c facts s0 s = record { serves = at.serves; done = ap (λ code. m.does w p code s0) blocks.adds.code ∙ at.done; holds = holds } in
        let mv = r.2 w p others s0 s at2 in
        let moved = mv.1 in
        let before : m.denotes w a [] s = sound.fewer w a facts [] s (subst (λ fs. m.denotes w a fs s) (sym (append-nil facts)) at.holds) in
        let after : m.denotes w b [] mv.0 = sound.fewer w b others [] mv.0 (subst (λ fs. m.denotes w b fs mv.0) (sym (append-nil others)) (moved.denotes others holds)) in
        let Gives : ℕ → m.Block → ℕ → Type 0 = λ number body many. GivesWords m realloc (Told number) own due many w p body (with_case m r.0) mv.0 in
        let gave : Gives i there.0 (length os) = subst (Gives i there.0) (sym results) (subst (λ body. Gives i body (suc (length (slots (layouts ts))))) is (subst (λ number. Gives number q.0 (suc (length (slots (layouts ts))))) same (q.2 w p b s mv.0 svb before after))) in
        let run = gave left (subst (λ (z : Account m.Item). is_heap z.heap ≡ true) (sym moved.account) formed) (subst (λ (z : Account m.Item). Releases (addresses own) z.taken left) (sym moved.account) goes) in
        arm_followed w p b c Say own left due os others (of o (item x) ∷ []) (m.owned x) i r.0 there.0 s0 s mv.0 moved (way_owned m sound realloc given (cases ts) v x own st) holds (m.runs w p there.0 (with_case m r.0) mv.0)
        (subst (λ z. Comes true due z (m.runs w p there.0 (with_case m r.0) mv.0) (GaveWords m realloc Say own left due (length os) w mv.0)) moved.account run) mv.2

    pub cases_lower : LowersFlat m realloc (cases ts) o os a c
    cases_lower = record {
      adds = all_adds;
      fits = results;
      ranged = λ given v ws blocks listed says. number_is given v ws blocks says;
      asks_nothing = blocks.asks_nothing;
      row = passed;
    }
