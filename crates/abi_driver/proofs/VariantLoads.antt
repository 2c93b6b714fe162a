-- A value with cases is loaded by the blocks of its cases.
use Rattle.std.proofs.Common.{◌≡◌, ℕ, ◌+◌, ◌^◌, ◌<◌, ◌≤◌, Bool, true, pos, List, [], ◌∷◌, ◌++◌, length, option_to_list, Option, None, Some, refl, sym, ap, ap₂, ◌∙◌, subst, arith, false}
use Rattle.std.specs.List.{flat_map, slice_get}
use Rattle.std.proofs.lemmas.List.{length-map}
use mathlib.Core.Logic.{inl, inr}
use Rattle.wit_model.specs.Size.{bytes_at}
use Rattle.wit_model.specs.declared.size.ArchitectureSize.{ArchitectureSize}
use Rattle.wit_model.specs.declared.types.TypeDef.{TypeDef}
use Rattle.wit_model.specs.TypeOrder.{GoesDown}
use Rattle.wit_model.specs.declared.name.TypeId.{TypeId}
use Rattle.wit_model.specs.declared.types.TypeDefKind.{TypeDefKind}
use Rattle.wit_model.specs.declared.types.WitType.{WitType}
use Rattle.wit_model.specs.declared.types.WitType.TheVariants as wit
use Rattle.wit_layout.specs.Told.{IsPairOf}
use Rattle.wit_layout.specs.Tree.{tree_at}
use Rattle.wit_layout.specs.Extent.{discriminant_grain, greatest}
use Rattle.wit_layout.specs.Sizes.{count as tree_count, extents_of, payload_offset}
use Rattle.wrapper_data.specs.declared.block.Block.{Block}
use Rattle.wrapper_data.specs.declared.form.Form.{Form}
use Rattle.wrapper_data.specs.declared.word.Word.TheVariants as core
use Rattle.wrapper_meaning.specs.Direction.{take}
use Rattle.wrapper_meaning.specs.InMemory.{CaseHolds}
use Rattle.wrapper_meaning.specs.InRange.{IsListedCase}
use Rattle.wrapper_meaning.specs.Items.{SameItems, total}
use Rattle.wrapper_meaning.specs.Layout.{layout, layouts}
use Rattle.wrapper_meaning.specs.Settled.{settled_case}
use Rattle.wrapper_meaning.specs.Shape.{Shapes, payloads_in, shape_at, shapes}
use Rattle.wrapper_meaning.specs.Shape.Shape.{cases}
use Rattle.wrapper_meaning.specs.Shape.Shapes.{none, more}
use Rattle.wrapper_meaning.specs.Value.{Case, case_number}
use Rattle.wrapper_meaning.proofs.PostReturn.{total-append}
use Rattle.abi_bindgen.specs.Account.{Account, Done, Peer, addresses, Follows}
use Rattle.abi_bindgen.specs.Arms.{arms, gives_payload, Armed}
use Rattle.abi_bindgen.specs.Blocks.{owned_datum}
use Rattle.abi_driver.specs.FinishedBlocks.{HasPayloadRoom}
use Rattle.abi_bindgen.specs.Cases.{IsPayload, PayloadStands, payloads_of, result_counts}
use Rattle.abi_bindgen.specs.Code.{at_payload, beyond, load_code, blocks_of_cases}
use Rattle.abi_bindgen.specs.Instructions.{Emits, case_lifting, has_cases}
use Rattle.abi_bindgen.specs.Laws.{At, Facts, Sound, ofs, Data}
use Rattle.abi_bindgen.specs.Lifts.{OneStands}
use Rattle.abi_driver.specs.LoadedCases.{LoadsCases}
use Rattle.abi_driver.specs.Loads.{LiftsFromMemory}
use Rattle.abi_bindgen.specs.Meaning.{Meaning, item, of, word, Ended, with_nothing}
use Rattle.abi_bindgen.specs.NumberTouches.{number_load, tag_load}
use Rattle.abi_bindgen.specs.Parts.{count}
use Rattle.abi_bindgen.specs.Touches.{reached}
use Rattle.abi_bindgen.specs.Flow.{Flow, emit, both, ◌>>>◌}
use Rattle.abi_bindgen.specs.Flows.{Flows}
use Rattle.abi_bindgen.proofs.BareCases.{read_number}
use Rattle.abi_driver.proofs.ArmSteps.{number_settled, went, arm_comes, arm_is, fitting}
use Rattle.abi_driver.proofs.Tags.{tag_grain_small}
use Rattle.abi_bindgen.proofs.CaseLowers.{number_below}
use Rattle.abi_driver.proofs.CaseInstructions.{LiftsBy, case_serves, lifts_by}
use Rattle.abi_driver.proofs.CaseRooms.{case_room, count_layouts, payload_room}
use Rattle.abi_driver.proofs.CaseSteps.{arms_are, arms_gone, front_only, resumes_then}
use Rattle.abi_driver.proofs.MemoryCode.{cases_place, load_variant_code}
use Rattle.abi_driver.proofs.PartOffsets.{payload_offset_of, payload_sent}
use Rattle.abi_driver.proofs.RecordPlaces.{place_told}
use Rattle.abi_bindgen.proofs.Payloads.{count_payloads, variant_shape}
use Rattle.abi_driver.proofs.NumberWords.{number_load_adds, number_loaded}
use Rattle.abi_bindgen.proofs.Runs.{adds_both}
use Rattle.abi_bindgen.proofs.FlowSteps.{flows_as, flows_then, flows_both}
use Rattle.abi_bindgen.specs.Early.{Comes}
use Rattle.abi_bindgen.specs.Lifting.{Gets, Lifted, LiftedBy}
use Rattle.abi_bindgen.specs.CaseBlocks.{GavePayload}
use Rattle.wrapper_meaning.specs.Requests.{case_requests, room_for}
use Rattle.abi_bindgen.specs.Frees.{MayFree}
use Rattle.abi_driver.proofs.TakeSteps.{stays_gets}
use Rattle.abi_bindgen.specs.Turns.{Arrives, Went}
use Rattle.std.proofs.lemmas.Bool.{cond-true}

module _ {Self Operand : Type 0} (m : Meaning Self Operand) (sound : Sound m) where
  -- 1. What an arm gives

  fits_payload : (ds : Data m) (payload : Option m.Item) → IsPayload m ds payload → gives_payload m ds ≡ true
  fits_payload [] None h = refl
  fits_payload (item a ∷ []) (Some b) h = refl
  fits_payload _ _ h = absurd h

  -- it owns the blocks of the payload
  payload_owns : (ts : Shapes) (c : Case ts) (ds : Data m) (payload : Option m.Item) (own : List Block) → IsPayload m ds payload → PayloadStands m take ts c payload own → SameItems (flat_map (owned_datum m) ds) (addresses own)
  payload_owns none c ds payload own is h g = elim c [ ]
  payload_owns (more t ts) (inl v) [] None own is h g = sym (ap (λ bs. total g (addresses bs)) h.1)
  payload_owns (more t ts) (inl v) (item a ∷ []) (Some b) own is h g = omega (arith, sound.owned t v b own h.1 g, total-append g (m.owned a) [], ap (λ x. total g (m.owned x)) is)
  payload_owns (more t ts) (inr c) ds payload own is h g = payload_owns ts c ds payload own is h g
  payload_owns (more t ts) (inl v) _ _ own is h g = absurd is

  -- 2. Behind the tag: the blocks of all cases, and then the instruction that runs the one of the tag's case

  module _ (last_serves : Form → Bool) (results : List ℕ) (ts : Shapes) (b c d : Self) (address x r : Operand) (place : ArchitectureSize) (many : length results ≡ count ts) (loads : LoadsCases m results ts address place b c) (lifts : LiftsBy m last_serves ts x r c d) where
    blocks_load : (v : Case ts) (blocks : List Block) → IsListedCase ts v → (w : m.World) (f : Peer m.Item) (others : Facts m) (s0 s : m.State) (q k : ℕ) (blk : Block) → m.serves w d → m.does w f (m.code b) s0 ≡ Done s
        → m.denotes w b (of x (word (core.I32 (pos (case_number ts v)))) ∷ of address (word (core.Pointer q)) ∷ others) s → HasPayloadRoom (greatest (extents_of m.width (layouts ts))) (reached m q place) blk k (m.account s).heap
        → CaseHolds m.width take ts v blk k blocks → MayFree blocks blk (m.account s) → Gets m (OneStands m (cases ts) v) blocks (case_requests m.width room_for ts v) (r ∷ []) d w f others s0 s
    blocks_load v blocks listed w f others s0 s q k blk serves done tag room holds may =
        let n = case_number ts v in
        let pointer : Facts m = of address (word (core.Pointer q)) ∷ [] in
        let read : Facts m = of x (word (core.I32 (pos n))) ∷ [] in
        let serves_c = lifts.grows.serves w serves in
        let at1 : At m w f c d (read ++ (pointer ++ others)) s0 s = record { serves = serves; done = ap (λ code. m.does w f code s0) loads.adds.resumes.code ∙ done; holds = loads.adds.resumes.known w (read ++ (pointer ++ others)) s tag } in
        let ran = lifts.row (core.I32 (pos n)) w f (pointer ++ others) s0 s at1 in
        let begin = ran.0 in
        let moved = ran.1 in
        let known : m.denotes w b pointer s = front_only m sound w b pointer others s (sound.fewer w b read (pointer ++ others) s tag) in
        let held : m.denotes w c (pointer ++ others) begin = moved.denotes (pointer ++ others) at1.holds in
        let found = loads.row v in
        let body = found.0 in
        let here : slice_get (arms m (count ts) (m.blocks c)) n ≡ Some body = ap (λ bs. slice_get bs n) (arms_are m results loads.bodies b c (count ts) loads.adds many) ∙ found.1 in
        let room1 = subst (λ (z : Account m.Item). HasPayloadRoom (greatest (extents_of m.width (layouts ts))) (reached m q place) blk k z.heap) (sym moved.account) room in
        let due = case_requests m.width room_for ts v in
        let run = found.2 blocks listed w f c s begin q k blk serves_c known (front_only m sound w c pointer others begin held) room1 holds (subst (MayFree blocks blk) (sym moved.account) may) in
        let First : Ended m.Item m.State → Type 0 = GavePayload m (PayloadStands m take ts (settled_case ts v)) blocks due w begin in
        let Whole : m.State → Type 0 = Lifted m (OneStands m (cases ts) v) blocks due (r ∷ []) w d others s in
        let Behind : Went m (Armed m) → m.State → Type 0 = Arrives m w c d (pointer ++ others) (λ l fs. (y : m.Item) × (fs ≡ ofs m (r ∷ []) (item y ∷ []))
        × ((k : Case ts) (payload : Option m.Item) (own : List Block) → case_number ts k ≡ l.number → IsPayload m l.results payload → PayloadStands m take ts k payload own → m.stands take (cases ts) k y own)) (λ l. flat_map (owned_datum m) l.results) in
        let is = arm_is m (gives_payload m) w f (last_serves f.form) (count ts) (m.blocks c) n begin body (number_below ts v) here in
        let follows = subst (λ z. Follows m.account z (m.does w f (m.code d) s0) Behind) is ran.2 in
        arm_comes m false due (m.account s) (m.runs w f body with_nothing begin) (m.does w f (m.code d) s0) (fitting m (gives_payload m) n) First Behind Whole
        (subst (λ z. Comes false due z (m.runs w f body with_nothing begin) First) moved.account run) follows (λ z. went m n z.results z.state)
        (λ z made. cond-true (gives_payload m z.results) _ _ (fits_payload z.results made.payload made.is))
        (λ z t made arrives.
        let outs = arrives.denotes (made.keeps c (pointer ++ others) held) in
        let one = outs.1.0 in
        let lifted : Facts m = ofs m (r ∷ []) (item one ∷ []) in
        let facts : m.denotes w d (lifted ++ (pointer ++ others)) t = subst (λ fs. m.denotes w d (fs ++ (pointer ++ others)) t) outs.1.1 outs.2 in
        record {
          vals = one ∷ [];
          own = made.own;
          stands = (one, refl, outs.1.2 (settled_case ts v) made.payload made.own (number_settled ts v) made.is made.stands);
          lifted = subst (LiftedBy blocks made.own due (m.account s)) (sym arrives.account) (subst (λ y. LiftedBy blocks made.own due y (m.account z.state)) moved.account made.lifted);
          owns = λ h. omega (arith, arrives.owns h, made.owns h, moved.owns h, payload_owns ts (settled_case ts v) z.results made.payload made.own made.is made.stands h, total-append h (m.owns s) (addresses made.own), total-append h (m.owns begin) [], total-append h (m.owns z.state) (flat_map (owned_datum m) z.results));
          denotes = sound.fewer w d pointer (lifted ++ others) t (sound.swap w d lifted pointer others t facts);
        })

    -- 3. With the tag
    module _ (types : List TypeDef) (a : Self) (offset : ArchitectureSize) where
      pub variant_loads : count ts ≤ 2 ^ 31 → bytes_at place (2 ^ m.width) ≡ bytes_at offset (2 ^ m.width) + payload_offset m.width (layout (cases ts))
          → Emits m types (number_load (discriminant_grain (tree_count (layouts ts))) offset) (address ∷ []) (x ∷ []) a b → LiftsFromMemory m (cases ts) address offset r a d
      variant_loads most behind e = record {
        adds = adds_both m a b d (number_load_adds m sound types (discriminant_grain (tree_count (layouts ts))) offset (address ∷ []) (x ∷ []) a b e)
            (resumes_then m b c d loads.adds.resumes lifts.grows lifts.quiet lifts.uncalled lifts.asked (lifts.blocks ∙ arms_gone m results loads.bodies b c (count ts) loads.adds many));
        asks_nothing = loads.asks_nothing;
        row = λ v blocks listed w f others s0 s q k blk at room holds may.
            let g = discriminant_grain (tree_count (layouts ts)) in
            let n = case_number ts v in
            let far = payload_offset m.width (layout (cases ts)) in
            let e1 = greatest (extents_of m.width (layouts ts)) in
            let pointer : Facts m = of address (word (core.Pointer q)) ∷ [] in
            let reach : reached m q place ≡ reached m q offset + far = ap (λ j. q + j) behind ∙ omega arith in
            let room1 = case_room m.width ts (reached m q offset) (reached m q place) blk k (m.account s).heap room reach in
            let low = number_below ts v in
            let few : n < 2 ^ 31 = omega (arith, low, most) in
            let at1 : At m w f a b (of address (word (core.Pointer q)) ∷ (pointer ++ others)) s0 s =
            record { serves = loads.adds.resumes.serves w (lifts.grows.serves w at.serves); done = at.done; holds = sound.again w a address (core.Pointer q) others s at.holds } in
            let one = number_loaded m sound types g offset address x a b (tag_grain_small (tree_count (layouts ts))) e w f (pointer ++ others) s0 s q k n blk at1 room.formed room.there room.starts (omega (arith, room1.fits, room1.apart)) room1.tag_aligned holds.0 in
            let s1 = one.0 in
            let after1 = one.2 in
            let same : m.account s1 ≡ m.account s = after1.account in
            let tag = subst (λ z. m.denotes w b (of x (word (core.I32 z)) ∷ (pointer ++ others)) s1) (read_number n few) after1.denotes in
            let room2 = subst (λ (z : Account m.Item). HasPayloadRoom e1 (reached m q place) blk (k + far) z.heap) (sym same) (payload_room g e1 (reached m q offset) (reached m q place) blk k far (m.account s).heap room1) in
            stays_gets m (OneStands m (cases ts) v) blocks (r ∷ []) d w f others s0 s s1 (case_requests m.width room_for ts v) same after1.owns
            (blocks_load v blocks listed w f others s0 s1 q (k + far) blk at.serves one.1 tag room2 holds.1 (subst (MayFree blocks blk) (sym same) may));
      }

module _ {Self Operand : Type 0} (m : Meaning Self Operand) (sound : Sound m) (types : List TypeDef) (down : GoesDown types) (id : TypeId) (entry : TypeDef) (at : slice_get types id.0 ≡ Some entry) (k : TypeDefKind) (has : has_cases k ≡ true) (kind_is : entry.kind ≡ k) where
  -- a type of the table with cases is loaded, and as its code says
  pub loaded_variant : (address x r : Operand) (offset place : ArchitectureSize) → ((part : ArchitectureSize) × (place ≡ beyond offset part) × IsPairOf part (λ w. payload_offset w (tree_at types id.0)))
      → (payloads : List (Option WitType)) → payloads ≡ payloads_of k → length payloads ≤ 2 ^ 31 → (a b c d : Self) → Emits m types (tag_load (length payloads) offset) (address ∷ []) (x ∷ []) a b
      → LoadsCases m (result_counts payloads) (payloads_in (shapes types) payloads) address place b c → Flows m types (blocks_of_cases 1 (λ n part. at_payload place part) (load_code types) payloads) (address ∷ []) [] b c → Emits m types (case_lifting k id) (x ∷ []) (r ∷ []) c d
      → record { loads : LiftsFromMemory m (shape_at types id.0) address offset r a d; flows : Flows m types (load_code types (wit.Id id) offset) (address ∷ []) (r ∷ []) a d }
  loaded_variant address x r offset place found payloads same most a b c d tag loads flow e =
      let all = payloads_of k in
      let ts = payloads_in (shapes types) all in
      let shape = variant_shape types down id.0 k (record { entry = entry; stands = at; kind = kind_is }) has in
      let many : count ts ≡ length all = count_payloads (shapes types) all in
      let grain : discriminant_grain (length payloads) ≡ discriminant_grain (tree_count (layouts ts)) = ap (λ (ps : List (Option WitType)). discriminant_grain (length ps)) same ∙ ap discriminant_grain (sym (count_layouts ts ∙ many)) in
      let tag1 = subst (λ g. Emits m types (number_load g offset) (address ∷ []) (x ∷ []) a b) grain tag in
      let loads1 = subst (λ (ps : List (Option WitType)). LoadsCases m (result_counts ps) (payloads_in (shapes types) ps) address place b c) same loads in
      let few : count ts ≤ 2 ^ 31 = omega (arith, most, many, ap length same) in
      let results : length (result_counts all) ≡ count ts = length-map all (λ p. length (option_to_list p)) ∙ sym many in
      let lifts = lifts_by m types down id k x r c d (record { entry = entry; stands = at; kind = kind_is }) has e in
      let behind = place_told m.width place offset found.0 (λ w. payload_offset w (tree_at types id.0)) sound.wide found.1 found.2 ∙ ap (λ n. bytes_at offset (2 ^ m.width) + n) (payload_offset_of m.width types id ts shape) in
      let code : List (Option WitType) → ArchitectureSize → Flow = λ ps p. blocks_of_cases 1 (λ n part. at_payload p part) (load_code types) ps in
      let blocks = code all (cases_place types down id entry at offset) in
      let flow1 = flows_as m types (code payloads place) blocks (address ∷ []) [] b c (ap₂ code (sym same) (sym (payload_sent place offset found.0 (tree_at types id.0) found.1 found.2))) flow in
      let tag2 = subst (λ (ps : List (Option WitType)). Emits m types (tag_load (length ps) offset) (address ∷ []) (x ∷ []) a b) same tag in
      let load : Flow = emit (tag_load (length all) offset) in
      let whole = flows_then m types (both load blocks) (emit (case_lifting k id)) (address ∷ []) (x ∷ []) (r ∷ []) a c d (flows_both m types load blocks (address ∷ []) (x ∷ []) [] a b c tag2 flow1) e in
      record {
        loads = subst (λ s. LiftsFromMemory m s address offset r a d) (sym shape) (variant_loads m sound (case_serves k) (result_counts all) ts b c d address x r place results loads1 lifts types a offset few behind tag1);
        flows = flows_as m types (both load blocks >>> emit (case_lifting k id)) (load_code types (wit.Id id) offset) (address ∷ []) (r ∷ []) a d (load_variant_code types down id entry at offset k kind_is has) whole;
      }
