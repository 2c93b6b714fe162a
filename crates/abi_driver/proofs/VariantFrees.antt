-- The blocks of a value with cases are freed by the blocks of its cases.
use Rattle.std.proofs.Common.{◌≡◌, ℕ, ◌+◌, ◌^◌, ◌<◌, ◌≤◌, true, false, pos, List, [], ◌∷◌, ◌++◌, length, replicate, Option, Some, refl, sym, ap, ap₂, ◌∙◌, subst, arith}
use Rattle.std.specs.List.{slice_get}
use Rattle.wit_model.specs.Size.{bytes_at}
use Rattle.wit_model.specs.declared.size.ArchitectureSize.{ArchitectureSize}
use Rattle.wit_model.specs.declared.types.TypeDef.{TypeDef}
use Rattle.wit_model.specs.TypeOrder.{GoesDown}
use Rattle.wit_model.specs.declared.name.TypeId.{TypeId}
use Rattle.wit_model.specs.declared.types.TypeDefKind.{TypeDefKind}
use Rattle.wit_model.specs.declared.types.WitType.{WitType}
use Rattle.wit_model.specs.declared.types.WitType.TheVariants as wit
use Rattle.wit_layout.specs.Told.{IsPairOf}
use Rattle.wit_layout.specs.Tree.{tree_at}
use Rattle.wrapper_data.specs.declared.block.Block.{Block}
use Rattle.wrapper_meaning.specs.Direction.{give}
use Rattle.wrapper_meaning.specs.InMemory.{CaseHolds}
use Rattle.wrapper_meaning.specs.InRange.{IsListedCase}
use Rattle.wrapper_meaning.specs.Kinds.{has_list, have_list}
use Rattle.wrapper_meaning.proofs.NoLists.{memory_has_no_blocks}
use Rattle.abi_bindgen.specs.Cases.{payloads_of}
use Rattle.abi_bindgen.specs.Code.{at_payload, beyond, free_code, blocks_of_cases}
use Rattle.wit_layout.specs.Extent.{discriminant_grain, greatest}
use Rattle.wit_layout.specs.Sizes.{count as tree_count, extents_of, payload_offset}
use Rattle.wrapper_data.specs.declared.word.Word.TheVariants as core
use Rattle.wrapper_meaning.specs.Layout.{layout, layouts}
use Rattle.wrapper_meaning.specs.Shape.{Shapes, payloads_in, shape_at, shapes}
use Rattle.wrapper_meaning.specs.Shape.Shape.{cases}
use Rattle.wrapper_meaning.specs.Shape.Shapes.{none, more}
use Rattle.wrapper_meaning.specs.Value.{Case, case_number}
use Rattle.abi_bindgen.specs.declared.instruction.Instruction.TheVariants.{GuestDeallocateVariant}
use Rattle.abi_bindgen.specs.Account.{Account, Done, Peer}
use Rattle.abi_driver.specs.FinishedBlocks.{AddsBlocks, HasPayloadRoom}
use Rattle.abi_driver.specs.FreedCases.{FreesCases}
use Rattle.abi_bindgen.specs.Frees.{Frees, FreesInMemory, MayFree, by_freeing}
use Rattle.abi_bindgen.specs.Instructions.{Emits, has_cases}
use Rattle.abi_bindgen.specs.Laws.{Adds, At, Facts, Sound}
use Rattle.abi_bindgen.specs.Meaning.{Meaning, of, word}
use Rattle.abi_bindgen.specs.NumberTouches.{number_load, tag_load}
use Rattle.abi_bindgen.specs.Parts.{count}
use Rattle.abi_bindgen.specs.Touches.{reached}
use Rattle.abi_bindgen.specs.Flow.{Flow, emit, leave_none, both, ◌>>>◌}
use Rattle.abi_bindgen.specs.Flows.{Flows}
use Rattle.abi_bindgen.proofs.BareCases.{read_number}
use Rattle.abi_driver.proofs.ArmFrees.{arm_adds, arm_frees}
use Rattle.abi_driver.proofs.Tags.{tag_grain_small}
use Rattle.abi_bindgen.proofs.CaseLowers.{number_below}
use Rattle.abi_driver.proofs.CaseRooms.{case_room, count_layouts, payload_room}
use Rattle.abi_driver.proofs.LeafFrees.{alone_at}
use Rattle.abi_driver.proofs.MemoryCode.{cases_place, free_none_code, free_variant_code}
use Rattle.abi_driver.proofs.PartOffsets.{payload_offset_of, payload_sent}
use Rattle.abi_driver.proofs.RecordPlaces.{place_told}
use Rattle.abi_bindgen.proofs.Payloads.{count_payloads, variant_shape}
use Rattle.abi_driver.proofs.NumberWords.{number_load_adds, number_loaded}
use Rattle.abi_bindgen.proofs.Runs.{adds_both}
use Rattle.abi_bindgen.proofs.FlowSteps.{flows_as, flows_then, flows_both}

-- where a value may have a list, there is a case
pub some_case : (ts : Shapes) → have_list ts ≡ true → 0 < count ts
some_case none h = absurd (let e = h in cc)
some_case (more t ts) h = omega arith

module _ {Self Operand : Type 0} (m : Meaning Self Operand) (sound : Sound m) (types : List TypeDef) (n : ℕ) (ts : Shapes) (b c d : Self) (address x : Operand) (place : ArchitectureSize) (is : count ts ≡ n) (frees : FreesCases m ts address place b c) (arm : Emits m types (GuestDeallocateVariant n) (x ∷ []) [] c d) where
  finished : AddsBlocks m (replicate n 0) frees.bodies b c
  finished = subst (λ j. AddsBlocks m (replicate j 0) frees.bodies b c) is frees.adds

  uses : Adds m b d
  uses = arm_adds m sound types n b c d x frees.bodies finished arm

  -- behind the tag: the blocks of all cases, and then the instruction that runs the one of the tag's case
  blocks_free : (v : Case ts) (own : List Block) → IsListedCase ts v → (w : m.World) (f : Peer m.Item) (others : Facts m) (s0 s : m.State) (q k : ℕ) (blk : Block) → m.serves w d → m.does w f (m.code b) s0 ≡ Done s
      → m.denotes w b (of x (word (core.I32 (pos (case_number ts v)))) ∷ of address (word (core.Pointer q)) ∷ others) s → HasPayloadRoom (greatest (extents_of m.width (layouts ts))) (reached m q place) blk k (m.account s).heap
      → CaseHolds m.width give ts v blk k own → MayFree own blk (m.account s) → Frees m own d w f others s0 s
  blocks_free v own listed w f others s0 s q k blk serves done tag room holds may =
      let found = frees.row v in
      let room_at : Account m.Item → Type 0 = λ z. HasPayloadRoom (greatest (extents_of m.width (layouts ts))) (reached m q place) blk k z.heap in
      arm_frees m sound types n b c d x frees.bodies finished arm (case_number ts v) found.0 (subst (λ j. case_number ts v < j) is (number_below ts v)) found.1 own w f (of address (word (core.Pointer q)) ∷ []) others s0 s serves done tag
      (λ begin served known held same. found.2 own listed w f c s begin q k blk served known held (subst room_at (sym same) room) holds (subst (λ (z : Account m.Item). MayFree own blk z) (sym same) may))

  -- and with the tag
  pub variant_frees : (a : Self) (offset : ArchitectureSize) → count ts ≤ 2 ^ 31 → bytes_at place (2 ^ m.width) ≡ bytes_at offset (2 ^ m.width) + payload_offset m.width (layout (cases ts))
      → Emits m types (number_load (discriminant_grain (tree_count (layouts ts))) offset) (address ∷ []) (x ∷ []) a b → FreesInMemory m (cases ts) address offset a d
  variant_frees a offset most behind e =
      record {
        adds = adds_both m a b d (number_load_adds m sound types (discriminant_grain (tree_count (layouts ts))) offset (address ∷ []) (x ∷ []) a b e) uses;
        row = λ v own listed w f others s0 s q k blk at room holds may.
            let g = discriminant_grain (tree_count (layouts ts)) in
            let i = case_number ts v in
            let far = payload_offset m.width (layout (cases ts)) in
            let e1 = greatest (extents_of m.width (layouts ts)) in
            let pointer : Facts m = of address (word (core.Pointer q)) ∷ [] in
            let reach : reached m q place ≡ reached m q offset + far = ap (λ j. q + j) behind ∙ omega arith in
            let room1 = case_room m.width ts (reached m q offset) (reached m q place) blk k (m.account s).heap room reach in
            let low = number_below ts v in
            let few : i < 2 ^ 31 = omega (arith, low, most) in
            let at1 : At m w f a b (of address (word (core.Pointer q)) ∷ (pointer ++ others)) s0 s =
            record { serves = uses.grows.serves w at.serves; done = at.done; holds = sound.again w a address (core.Pointer q) others s at.holds } in
            let one = number_loaded m sound types g offset address x a b (tag_grain_small (tree_count (layouts ts))) e w f (pointer ++ others) s0 s q k i blk at1 room.formed room.there room.starts (omega (arith, room1.fits, room1.apart)) room1.tag_aligned holds.0 in
            let s1 = one.0 in
            let after1 = one.2 in
            let same : m.account s1 ≡ m.account s = after1.account in
            let tag = subst (λ z. m.denotes w b (of x (word (core.I32 z)) ∷ (pointer ++ others)) s1) (read_number i few) after1.denotes in
            let room2 = subst (λ (z : Account m.Item). HasPayloadRoom e1 (reached m q place) blk (k + far) z.heap) (sym same) (payload_room g e1 (reached m q offset) (reached m q place) blk k far (m.account s).heap room1) in
            let two = blocks_free v own listed w f others s0 s1 q (k + far) blk at.serves one.1 tag room2 holds.1 (subst (λ (z : Account m.Item). MayFree own blk z) (sym same) may) in
            let after2 = two.2 in
            (two.0, two.1, record { account = after2.account ∙ ap (λ (z : Account m.Item). (by_freeing own z).account) same; owns = λ h. after2.owns h ∙ after1.owns h; denotes = after2.denotes });
      }

module _ {Self Operand : Type 0} (m : Meaning Self Operand) (sound : Sound m) (types : List TypeDef) (down : GoesDown types) (id : TypeId) (entry : TypeDef) (at : slice_get types id.0 ≡ Some entry) (k : TypeDefKind) (has : has_cases k ≡ true) (kind_is : entry.kind ≡ k) where
  -- a type of the table with cases is freed, and as its code says: where no value has blocks, by no code
  pub freed_none : has_list (shape_at types id.0) ≡ false → (a : Self) (address : Operand) (offset : ArchitectureSize) → record { frees : FreesInMemory m (shape_at types id.0) address offset a a; flows : Flows m types (free_code types (wit.Id id) offset) (address ∷ []) [] a a }
  freed_none bare a address offset = record {
    frees = alone_at m sound types (shape_at types id.0) (λ v b j own holds. memory_has_no_blocks m.width give (shape_at types id.0) v b j own bare holds) a address offset;
    flows = flows_as m types leave_none (free_code types (wit.Id id) offset) (address ∷ []) [] a a (free_none_code types down id entry at offset k kind_is has bare) (refl, refl);
  }

  pub freed_variant : has_list (shape_at types id.0) ≡ true → (address x : Operand) (offset place : ArchitectureSize) → ((part : ArchitectureSize) × (place ≡ beyond offset part) × IsPairOf part (λ w. payload_offset w (tree_at types id.0)))
      → (payloads : List (Option WitType)) → payloads ≡ payloads_of k → (n : ℕ) → n ≡ length payloads → length payloads ≤ 2 ^ 31 → (a b c d : Self) → Emits m types (tag_load (length payloads) offset) (address ∷ []) (x ∷ []) a b
      → FreesCases m (payloads_in (shapes types) payloads) address place b c → Flows m types (blocks_of_cases 1 (λ n part. at_payload place part) (free_code types) payloads) (address ∷ []) [] b c → Emits m types (GuestDeallocateVariant n) (x ∷ []) [] c d
      → record { frees : FreesInMemory m (shape_at types id.0) address offset a d; flows : Flows m types (free_code types (wit.Id id) offset) (address ∷ []) [] a d }
  freed_variant some address x offset place found payloads same n counted most a b c d tag frees flow arm =
      let all = payloads_of k in
      let ts = payloads_in (shapes types) all in
      let shape = variant_shape types down id.0 k (record { entry = entry; stands = at; kind = kind_is }) has in
      let many : count ts ≡ length all = count_payloads (shapes types) all in
      let length_same : length payloads ≡ length all = ap length same in
      let number : n ≡ length all = counted ∙ length_same in
      let grain : discriminant_grain (length payloads) ≡ discriminant_grain (tree_count (layouts ts)) = ap discriminant_grain (length_same ∙ sym (count_layouts ts ∙ many)) in
      let tag1 = subst (λ g. Emits m types (number_load g offset) (address ∷ []) (x ∷ []) a b) grain tag in
      let frees1 = subst (λ (ps : List (Option WitType)). FreesCases m (payloads_in (shapes types) ps) address place b c) same frees in
      let few : count ts ≤ 2 ^ 31 = omega (arith, most, many, length_same) in
      let behind = place_told m.width place offset found.0 (λ w. payload_offset w (tree_at types id.0)) sound.wide found.1 found.2 ∙ ap (λ n. bytes_at offset (2 ^ m.width) + n) (payload_offset_of m.width types id ts shape) in
      let code : List (Option WitType) → ArchitectureSize → Flow = λ ps p. blocks_of_cases 1 (λ n part. at_payload p part) (free_code types) ps in
      let blocks = code all (cases_place types down id entry at offset) in
      let flow1 = flows_as m types (code payloads place) blocks (address ∷ []) [] b c (ap₂ code (sym same) (sym (payload_sent place offset found.0 (tree_at types id.0) found.1 found.2))) flow in
      let tag2 = subst (λ j. Emits m types (tag_load j offset) (address ∷ []) (x ∷ []) a b) length_same tag in
      let arm1 = subst (λ j. Emits m types (GuestDeallocateVariant j) (x ∷ []) [] c d) number arm in
      let load : Flow = emit (tag_load (length all) offset) in
      let last : Flow = emit (GuestDeallocateVariant (length all)) in
      let whole = flows_then m types (both load blocks) last (address ∷ []) (x ∷ []) [] a c d (flows_both m types load blocks (address ∷ []) (x ∷ []) [] a b c tag2 flow1) arm1 in
      record {
        frees = subst (λ s. FreesInMemory m s address offset a d) (sym shape) (variant_frees m sound types n ts b c d address x place (many ∙ sym number) frees1 arm a offset few behind tag1);
        flows = flows_as m types (both load blocks >>> last) (free_code types (wit.Id id) offset) (address ∷ []) [] a d (free_variant_code types down id entry at offset k kind_is has some) whole;
      }
