-- A value with cases is stored by the blocks of its cases.
use Rattle.std.proofs.Common.{◌≡◌, ◌+◌, ◌^◌, ◌≤◌, Bool, List, [], ◌∷◌, ◌++◌, if◌then◌else◌, true, length, replicate, Option, Some, refl, sym, ap, ap₂, ◌∙◌, subst, arith}
use Rattle.std.specs.List.{flat_map, slice_get}
use Rattle.std.proofs.lemmas.List.{length-replicate}
use Rattle.wit_model.specs.Size.{bytes_at}
use Rattle.wit_model.specs.declared.size.ArchitectureSize.{ArchitectureSize}
use Rattle.wit_model.specs.TypeOrder.{GoesDown}
use Rattle.wit_model.specs.declared.name.TypeId.{TypeId}
use Rattle.wit_model.specs.declared.types.TypeDef.{TypeDef}
use Rattle.wit_model.specs.declared.types.TypeDefKind.{TypeDefKind}
use Rattle.wit_model.specs.declared.types.WitType.{WitType}
use Rattle.wit_model.specs.declared.types.WitType.TheVariants as wit
use Rattle.wit_layout.specs.Told.{IsPairOf}
use Rattle.wit_layout.specs.Tree.{tree_at}
use Rattle.wit_layout.specs.Extent.{discriminant_grain, greatest}
use Rattle.wit_layout.specs.Sizes.{count as tree_count, elem_size, extents_of, payload_offset}
use Rattle.wrapper_data.specs.declared.word.Word.TheVariants as core
use Rattle.wrapper_meaning.specs.Cells.{HasNumber}
use Rattle.wrapper_meaning.specs.Layout.{layout, layouts}
use Rattle.wrapper_meaning.specs.Shape.{Shapes, payloads_in, shape_at, shapes}
use Rattle.wrapper_meaning.specs.Shape.Shape.{cases}
use Rattle.wrapper_meaning.specs.Value.{case_number}
use Rattle.wrapper_meaning.proofs.HoldsLocally.{payload_within}
use Rattle.wrapper_meaning.proofs.PostReturn.{total-append}
use Rattle.abi_bindgen.specs.Account.{Account, Done, Outcome, Stuck, addresses}
use Rattle.abi_bindgen.specs.Arms.{Armed, arms, gives_words}
use Rattle.abi_bindgen.specs.Blocks.{owned_datum}
use Rattle.abi_driver.specs.FinishedBlocks.{HasCaseRoom}
use Rattle.abi_bindgen.specs.Cases.{payloads_of, with_case}
use Rattle.abi_bindgen.specs.Code.{beyond, store_case, store_code, blocks_of_cases}
use Rattle.abi_bindgen.specs.Instructions.{Emits, case_lowering, has_cases}
use Rattle.abi_bindgen.specs.Laws.{At, Facts, Sound, ofs}
use Rattle.abi_bindgen.specs.Leaves.{way}
use Rattle.abi_bindgen.specs.Meaning.{Ended, Meaning, item, of, word}
use Rattle.abi_bindgen.specs.Parts.{count}
use Rattle.abi_driver.specs.StoredCases.{StoresCases, BlockPut, Tagged}
use Rattle.abi_driver.specs.Stores.{LowersToMemory, Put, PutBy}
use Rattle.abi_bindgen.specs.Touches.{reached}
use Rattle.abi_bindgen.specs.Turns.{Arrives, Went}
use Rattle.abi_bindgen.specs.Flow.{Flow, emit, behind, both, ◌>>>◌}
use Rattle.abi_bindgen.specs.Flows.{Flows}
use Rattle.abi_driver.proofs.CaseInstructions.{LowersBy, lowers_by, lowers_count}
use Rattle.abi_driver.proofs.CaseRooms.{case_room, count_layouts}
use Rattle.abi_driver.proofs.CaseStores.{owns_blocks}
use Rattle.abi_driver.proofs.CaseSteps.{arms_are, arms_gone, front_only, resumes_then}
use Rattle.abi_driver.proofs.MemoryCode.{cases_place, store_variant_code}
use Rattle.abi_driver.proofs.PartOffsets.{payload_offset_of, payload_sent}
use Rattle.abi_driver.proofs.RecordPlaces.{place_told}
use Rattle.abi_bindgen.proofs.Payloads.{count_payloads, variant_shape}
use Rattle.abi_bindgen.proofs.FlowSteps.{flows_as, flows_then, flows_both}
use Rattle.abi_driver.proofs.Storing.{written_in}
use Rattle.abi_bindgen.specs.Lowering.{Releases, said}
use Rattle.abi_bindgen.specs.Early.{Comes}
use Rattle.abi_driver.proofs.PutSteps.{put_as}
use Rattle.wrapper_meaning.specs.Requests.{block_for, case_requests}
use Rattle.wrapper_meaning.specs.Buffer.{Contents}
use Rattle.wrapper_meaning.specs.InMemory.{CaseHolds, Holds}
use Rattle.wrapper_meaning.specs.Items.{total}
use Rattle.abi_driver.proofs.ArmSteps.{arm_comes}

no_items : {A : Type 0} (xs : List A) → length xs ≡ 0 → xs ≡ []
no_items [] e = refl
no_items (x ∷ xs) e = absurd (omega (arith, e))

module _ {Self Operand : Type 0} (m : Meaning Self Operand) (sound : Sound m) where
  -- the blocks of all cases, and then the instruction that runs the one of the value's case
  pub variant_stores : (realloc : Bool) (ts : Shapes) (a b c : Self) (value address : Operand) (offset place : ArchitectureSize) → bytes_at place (2 ^ m.width) ≡ bytes_at offset (2 ^ m.width) + payload_offset m.width (layout (cases ts))
      → StoresCases m realloc (discriminant_grain (tree_count (layouts ts))) 0 ts address offset place a b → LowersBy m ts value [] b c → LowersToMemory m realloc (cases ts) value address offset a c
  variant_stores realloc ts a b c value address offset place placed stores lowers = record {
    adds = resumes_then m a b c stores.adds.resumes lowers.grows lowers.quiet lowers.uncalled lowers.asked (lowers.blocks ∙ arms_gone m (replicate (count ts) 0) stores.bodies a b (count ts) stores.adds (length-replicate (count ts) 0));
    asks_nothing = stores.asks_nothing;
    row = λ given v x own listed stands w f others s0 s q k blk left at room goes.
        let dir = way realloc given in
        let n = case_number ts v in
        let d = payload_offset m.width (layout (cases ts)) in
        let e = greatest (extents_of m.width (layouts ts)) in
        let pointer : Facts m = of address (word (core.Pointer q)) ∷ [] in
        let serves_b = lowers.grows.serves w at.serves in
        let found = stores.row v in
        let body = found.0 in
        let here : slice_get (arms m (count ts) (m.blocks b)) n ≡ Some body = ap (λ bs. slice_get bs n) (arms_are m (replicate (count ts) 0) stores.bodies a b (count ts) stores.adds (length-replicate (count ts) 0)) ∙ found.1 in
        let lowered = lowers.row dir v x own body stands here in
        let payload = lowered.0 in
        let at1 : At m w f b c ((of value (item x) ∷ []) ++ (pointer ++ others)) s0 s =
        record { serves = at.serves; done = ap (λ code. m.does w f code s0) stores.adds.resumes.code ∙ at.done; holds = stores.adds.resumes.known w ((of value (item x) ∷ []) ++ (pointer ++ others)) s at.holds } in
        let ran = lowered.2 w f (pointer ++ others) s0 s at1 in
        let begin = ran.0 in
        let moved = ran.1 in
        let known : m.denotes w a pointer s = front_only m sound w a pointer others s (sound.fewer w a (of value (item x) ∷ []) (pointer ++ others) s at.holds) in
        let held_all : m.denotes w b (pointer ++ others) begin = moved.denotes (pointer ++ others) at1.holds in
        let reach : reached m q place ≡ reached m q offset + d = ap (λ j. q + j) placed ∙ omega arith in
        let room1 = case_room m.width ts (reached m q offset) (reached m q place) blk k (m.account s).heap room reach in
        let room2 = subst (λ (z : Account m.Item). HasCaseRoom (discriminant_grain (tree_count (layouts ts))) e (reached m q offset) (reached m q place) blk k d z.heap) (sym moved.account) room1 in
        let goes2 = subst (λ (z : Account m.Item). Releases (addresses own) z.taken left) (sym moved.account) goes in
        let due = case_requests m.width block_for ts v in
        let inner = d + e.bytes in
        let size : inner ≤ elem_size m.width (layout (cases ts)) = payload_within (tree_count (layouts ts)) e in
        let Tag : Contents = Tagged m (discriminant_grain (tree_count (layouts ts))) (0 + n) d (CaseHolds m.width (said realloc given) ts v) in
        let Held : Contents = Holds m.width (said realloc given) (cases ts) v in
        let run = found.2 given payload own listed lowered.1 w f b s begin q k d blk left serves_b known (front_only m sound w b pointer others begin held_all) room2 goes2 in
        let First : Ended m.Item m.State → Type 0 = BlockPut m realloc Tag inner blk k own left due w begin in
        let Whole : m.State → Type 0 = Put m realloc Held k (elem_size m.width (layout (cases ts))) blk k own left due w c others s in
        let Result : Type 0 = Went m (Armed m) in
        let Behind : Result → m.State → Type 0 = Arrives m w b c (pointer ++ others) (λ l fs. fs ≡ ofs m [] l.results) (λ l. flat_map (owned_datum m) l.results) in
        let go : Ended m.Item m.State → Outcome m.Item Result = λ z. if gives_words m z.results then Done (record { result = record { number = n; results = z.results }; state = z.state; account = m.account z.state }) else Stuck (m.account z.state) in
        arm_comes m true due (m.account s) (m.runs w f body (with_case m payload) begin) (m.does w f (m.code c) s0) go First Behind Whole
        (subst (λ z. Comes true due z (m.runs w f body (with_case m payload) begin) First) moved.account run) ran.2
        (λ z. record { result = record { number = n; results = z.results }; state = z.state; account = m.account z.state })
        (λ z put. ap (λ rs. if gives_words m rs then Done (record { result = record { number = n; results = z.results }; state = z.state; account = m.account z.state }) else Stuck (m.account z.state)) put.results)
        (λ z t put arrives.
        let outs = arrives.denotes (put.keeps b (pointer ++ others) held_all) in
        let nothing_left : outs.0 ≡ [] = outs.1 in
        let tagged = put_as realloc Tag Held k inner k (elem_size m.width (layout (cases ts))) blk k k own left due (m.account begin) (m.account z.state) (λ after written. written_in blk after k inner k (elem_size m.width (layout (cases ts))) written (omega arith) (omega (arith, size)))
        (λ after blocks written there. (subst (λ j. HasNumber after k (2 ^ discriminant_grain (tree_count (layouts ts))) j) (omega arith) there.0, there.1)) put.puts in
        record {
          puts = subst (PutBy realloc Held k (elem_size m.width (layout (cases ts))) blk k own left due (m.account s)) (sym arrives.account) (subst (λ y. PutBy realloc Held k (elem_size m.width (layout (cases ts))) blk k own left due y (m.account z.state)) moved.account tagged);
          owns = λ g. omega (arith, arrives.owns g, put.owns g, moved.owns g, owns_blocks m sound realloc given (cases ts) v x own stands g, total-append g (m.owns t) (addresses own), total-append g (m.owns z.state) (flat_map (owned_datum m) z.results), ap (λ ds. total g (flat_map (owned_datum m) ds)) put.results, total-append g (m.owns begin) (m.owned x));
          denotes = sound.fewer w c pointer others t (subst (λ fs. m.denotes w c (fs ++ (pointer ++ others)) t) nothing_left outs.2);
        });
  }

module _ {Self Operand : Type 0} (m : Meaning Self Operand) (sound : Sound m) (types : List TypeDef) (down : GoesDown types) (id : TypeId) (entry : TypeDef) (at : slice_get types id.0 ≡ Some entry) (k : TypeDefKind) (has : has_cases k ≡ true) (kind_is : entry.kind ≡ k) where
  -- a type of the table with cases is stored, and as its code says
  pub stored_variant : (realloc : Bool) (value address : Operand) (offset place : ArchitectureSize) → ((part : ArchitectureSize) × (place ≡ beyond offset part) × IsPairOf part (λ w. payload_offset w (tree_at types id.0)))
      → (payloads : List (Option WitType)) → payloads ≡ payloads_of k → (rs : List Operand) (a b c : Self) → StoresCases m realloc (discriminant_grain (length payloads)) 0 (payloads_in (shapes types) payloads) address offset place a b
      → Flows m types (blocks_of_cases 1 (store_case (length payloads) offset place) (store_code types realloc) payloads) (address ∷ value ∷ []) [] a b → Emits m types (case_lowering k id 0) (value ∷ []) rs b c
      → record { stores : LowersToMemory m realloc (shape_at types id.0) value address offset a c; flows : Flows m types (store_code types realloc (wit.Id id) offset) (address ∷ value ∷ []) [] a c }
  stored_variant realloc value address offset place found payloads are rs a b c stores flow e =
      let ts = payloads_in (shapes types) (payloads_of k) in
      let shape = variant_shape types down id.0 k (record { entry = entry; stands = at; kind = kind_is }) has in
      let grain : discriminant_grain (length (payloads_of k)) ≡ discriminant_grain (tree_count (layouts ts)) = ap discriminant_grain (sym (count_layouts ts ∙ count_payloads (shapes types) (payloads_of k))) in
      let stores1 = subst (λ (ps : List (Option WitType)). StoresCases m realloc (discriminant_grain (length ps)) 0 (payloads_in (shapes types) ps) address offset place a b) are stores in
      let stores2 = subst (λ g. StoresCases m realloc g 0 ts address offset place a b) grain stores1 in
      let none : rs ≡ [] = no_items rs (lowers_count m types down id k 0 value rs b c has e) in
      let lowers = subst (λ os. LowersBy m ts value os b c) none (lowers_by m types down id k 0 value rs b c (record { entry = entry; stands = at; kind = kind_is }) has e) in
      let placed = place_told m.width place offset found.0 (λ w. payload_offset w (tree_at types id.0)) sound.wide found.1 found.2 ∙ ap (λ n. bytes_at offset (2 ^ m.width) + n) (payload_offset_of m.width types id ts shape) in
      let code : List (Option WitType) → ArchitectureSize → Flow = λ ps p. blocks_of_cases 1 (store_case (length ps) offset p) (store_code types realloc) ps in
      let blocks = code (payloads_of k) (cases_place types down id entry at offset) in
      let reads = address ∷ value ∷ [] in
      let flow1 = flows_as m types (code payloads place) blocks reads [] a b (ap₂ code (sym are) (sym (payload_sent place offset found.0 (tree_at types id.0) found.1 found.2))) flow in
      let run = subst (λ os. Emits m types (case_lowering k id 0) (value ∷ []) os b c) none e in
      let whole = flows_then m types (both blocks (behind 1)) (emit (case_lowering k id 0)) reads (value ∷ []) [] a b c (flows_both m types blocks (behind 1) reads [] (value ∷ []) a b b flow1 (refl, refl)) run in
      record {
        stores = subst (λ s. LowersToMemory m realloc s value address offset a c) (sym shape) (variant_stores m sound realloc ts a b c value address offset place placed stores2 lowers);
        flows = flows_as m types (both blocks (behind 1) >>> emit (case_lowering k id 0)) (store_code types realloc (wit.Id id) offset) reads [] a c (store_variant_code types down id entry at offset realloc k kind_is has) whole;
      }
