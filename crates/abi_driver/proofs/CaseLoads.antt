-- The block of a case loads its payload, where it has one; and so all blocks together.
use Rattle.std.proofs.Common.{◌≡◌, ℕ, ◌≤◌, ◌+◌, false, length, drop, option_to_list, List, [], ◌∷◌, ◌++◌, Option, None, Some, refl, sym, ap, ◌∙◌, subst, arith}
use Rattle.std.proofs.lemmas.List.{drop_all}
use Rattle.std.specs.List.{flat_map, slice_get}
use mathlib.Core.Logic.{inl, inr}
use Rattle.wit_model.specs.declared.size.ArchitectureSize.{ArchitectureSize}
use Rattle.wit_model.specs.declared.types.TypeDef.{TypeDef}
use Rattle.wit_model.specs.declared.types.WitType.{WitType}
use Rattle.wit_layout.specs.Sizes.{extent_of, extents_of}
use Rattle.wrapper_data.specs.declared.block.Block.{Block}
use Rattle.wrapper_data.specs.declared.word.Word.TheVariants as core
use Rattle.wrapper_meaning.specs.Direction.{Direction, take}
use Rattle.wrapper_meaning.specs.Items.{SameItems}
use Rattle.wrapper_meaning.specs.Layout.{layout, layouts}
use Rattle.wrapper_meaning.specs.Settled.{settled, settled_case}
use Rattle.wrapper_meaning.specs.Shape.{Shape, Shapes, is_nothing, nothing, payload_in, payloads_in, shapes}
use Rattle.wrapper_meaning.specs.Shape.Shapes.{none, more}
use Rattle.wrapper_meaning.specs.Value.{Case, Value, case_number}
use Rattle.wrapper_meaning.proofs.PostReturn.{total-append}
use Rattle.abi_bindgen.specs.Account.{Account, addresses, Done, Outcome, Stopped, Stuck, Peer}
use Rattle.abi_bindgen.specs.Blocks.{Finishes, Pushes, owned_datum}
use Rattle.abi_driver.specs.FinishedBlocks.{Brought}
use Rattle.abi_bindgen.specs.Cases.{PayloadStands, result_counts}
use Rattle.abi_bindgen.specs.Laws.{Facts, Sound, item_data, ofs}
use Rattle.abi_bindgen.specs.Lifts.{took, OneStands}
use Rattle.abi_driver.specs.LoadedCases.{GetsCase, LoadsCase, LoadsCases}
use Rattle.abi_driver.specs.Loads.{LiftsFromMemory}
use Rattle.abi_bindgen.specs.Meaning.{Meaning, item, of, with_nothing, word, Ended}
use Rattle.abi_bindgen.specs.Places.{HasRoom}
use Rattle.abi_bindgen.specs.Touches.{reached}
use Rattle.abi_driver.proofs.CaseRooms.{first_payload, rest_payload}
use Rattle.abi_driver.proofs.CaseSteps.{block_added, block_begins, block_gives, more_blocks, no_blocks, block_stops}
use Rattle.abi_bindgen.proofs.Runs.{adds_same}
use Rattle.abi_driver.proofs.TakingOver.{took_none}
use Rattle.abi_bindgen.specs.Early.{Comes, Early}
use Rattle.wrapper_data.specs.declared.choice.Request.{Request}
use Rattle.abi_bindgen.specs.Lifting.{Lifted, LiftedBy}
use Rattle.abi_bindgen.specs.CaseBlocks.{GavePayload}
use Rattle.abi_driver.proofs.LiftedHeaps.{plainly_lifted}
use Rattle.wrapper_meaning.specs.Requests.{case_requests, requests, room_for}
use Rattle.abi_bindgen.specs.Frees.{MayFree}
use Rattle.abi_bindgen.proofs.EarlyLemmas.{comes_more}

module _ {Self Operand : Type 0} (m : Meaning Self Operand) (types : List TypeDef) where
  -- what loads the cases from one on, loads all
  abbrev pub Rest : (payloads : List (Option WitType)) (address : Operand) (place : ArchitectureSize) → ℕ → (a b : Self) → Type 0
  Rest payloads address place i a b =
      (new : Self) → LoadsCases m (result_counts (drop i payloads)) (payloads_in (shapes types) (drop i payloads)) address place b new → LoadsCases m (result_counts payloads) (payloads_in (shapes types) payloads) address place a new

module _ {Self Operand : Type 0} (m : Meaning Self Operand) (sound : Sound m) where
  -- 1. One block

  -- a case without payload
  pub bare_loads : (address : Operand) (place : ArchitectureSize) (a b c : Self) → Pushes m a b → Finishes m [] b c → LoadsCase m 0 nothing address place a c
  bare_loads address place a b c opens closes = record {
    body = closes.block;
    adds = block_added m sound a b opens b c [] (adds_same m b) closes;
    asks_nothing = λ v. refl;
    row = λ v own listed w f later before s q k blk serves known held room holds may.
        let start = m.enter opens.slot with_nothing s in
        let pointer : Facts m = of address (word (core.Pointer q)) ∷ [] in
        let begins = block_begins m sound a b opens b later w f pointer before s with_nothing (closes.lasts.serves w serves) (tt, tt) known held in
        let empty : m.denotes w b [] start = sound.fewer w b pointer [] start begins.holds in
        let gives = block_gives m sound a b opens b c [] (adds_same m b) closes w f with_nothing s start [] serves begins.done refl empty (opens.owns s with_nothing) in
        let same : m.account gives.state ≡ took own (m.account s) = gives.account ∙ opens.account s with_nothing ∙ sym (ap (λ bs. took bs (m.account s)) holds ∙ took_none (m.account s)) in
        subst (λ o. Comes false [] (m.account s) o (GavePayload m (Brought m take nothing (settled nothing v)) own [] w s)) (sym gives.runs)
        (record { payload = None; is = tt; own = own; stands = (refl, holds); lifted = plainly_lifted own (m.account s) (m.account gives.state) room.formed same; owns = gives.owns; keeps = gives.denotes });
  }

  -- a case with a payload
  module _ (t : Shape) (some : is_nothing t ≡ false) (address r : Operand) (place : ArchitectureSize) (a b c d : Self) (opens : Pushes m a b) (part : LiftsFromMemory m t address place r b c) (closes : Finishes m (r ∷ []) c d) where
    -- where the code has come to an item, the block gives it; and where it ends early, the block does
    module _ (v : Value t) (blocks : List Block) (w : m.World) (f : Peer m.Item) (s : m.State) (serves : m.serves w d) where
      abbrev due_for : List Request
      due_for = requests m.width room_for t v

      abbrev start : m.State
      start = m.enter opens.slot with_nothing s

      abbrev Inner : m.State → Type 0
      Inner u = Lifted m (OneStands m t v) blocks due_for (r ∷ []) w c [] start u

      abbrev Outer : Ended m.Item m.State → Type 0
      Outer x = GavePayload m (Brought m take t (settled t v)) blocks due_for w s x

      by_outcome : (o : Outcome m.Item m.State) → m.does w f (m.code c) start ≡ o → Comes false due_for (m.account start) o Inner → Comes false due_for (m.account s) (m.runs w f closes.block with_nothing s) Outer
      by_outcome (Done u) is got =
          let x = got.stands.0 in
          let facts : m.denotes w c (ofs m (r ∷ []) (item x ∷ [])) u = subst (λ vals. m.denotes w c (ofs m (r ∷ []) (item_data m vals) ++ []) u) got.stands.1 got.denotes in
          let owns : SameItems (m.owns u) (flat_map (owned_datum m) (item x ∷ [])) = λ g.
          omega (arith, got.owns g, opens.owns s with_nothing g, sound.owned t (settled t v) x got.own got.stands.2 g, total-append g (m.owns start) (addresses got.own), total-append g (m.owned x) []) in
          let gives = block_gives m sound a b opens c d (r ∷ []) part.adds closes w f with_nothing s u (item x ∷ []) serves is refl facts owns in
          let after = subst (LiftedBy blocks got.own due_for (m.account s)) (sym gives.account) (subst (λ z. LiftedBy blocks got.own due_for z (m.account u)) (opens.account s with_nothing) got.lifted) in
          subst (λ o. Comes false due_for (m.account s) o Outer) (sym gives.runs) (record { payload = Some x; is = refl; own = got.own; stands = (some, got.stands.2); lifted = after; owns = gives.owns; keeps = gives.denotes })
      by_outcome (Stopped x acc) is got =
          subst (λ o. Comes false due_for (m.account s) o Outer) (sym (block_stops m sound a b opens c d (r ∷ []) part.adds closes w f with_nothing s x acc serves is)) (subst (λ z. Early false due_for z x acc) (opens.account s with_nothing) got)
      by_outcome (Stuck acc) is got = elim got [ ]

    payload_block : LoadsCase m 1 t address place a d
    payload_block = record {
      body = closes.block;
      adds = block_added m sound a b opens c d (r ∷ []) part.adds closes;
      asks_nothing = part.asks_nothing;
      row = λ v blocks listed w f later before s q k blk serves known held room holds may.
          let begin = m.enter opens.slot with_nothing s in
          let pointer : Facts m = of address (word (core.Pointer q)) ∷ [] in
          let begins = block_begins m sound a b opens c later w f pointer before s with_nothing (closes.lasts.serves w serves) (tt, tt) known held in
          let same : m.account begin ≡ m.account s = opens.account s with_nothing in
          let room1 : HasRoom m.width t (reached m q place) blk k (m.account s).heap = record { formed = room.formed; there = room.there; starts = room.starts; fits = room.fits; aligned = room.aligned } in
          by_outcome v blocks w f s serves (m.does w f (m.code c) begin) refl
          (part.row v blocks listed w f [] begin begin q k blk begins (subst (λ (z : Account m.Item). HasRoom m.width t (reached m q place) blk k z.heap) (sym same) room1) holds (subst (MayFree blocks blk) (sym same) may));
    }

  pub payload_loads : (t : Shape) → is_nothing t ≡ false → (address r : Operand) (place : ArchitectureSize) (a b c d : Self) → Pushes m a b → LiftsFromMemory m t address place r b c → Finishes m (r ∷ []) c d → LoadsCase m 1 t address place a d
  payload_loads t some address r place a b c d opens part closes = payload_block t some address r place a b c d opens part closes

  -- 2. All blocks

  module _ (address : Operand) (place : ArchitectureSize) where
    pub none_load : (a : Self) → LoadsCases m [] none address place a a
    none_load a = record { bodies = []; adds = no_blocks m a; asks_nothing = λ c. elim c [ ]; row = λ c. elim c [ ] }

    stands_first : (dir : Direction) (t : Shape) (ts : Shapes) (v : Value t) (payload : Option m.Item) (own : List Block) → Brought m dir t v payload own → PayloadStands m dir (more t ts) (inl v) payload own
    stands_first dir t ts v None own h = h
    stands_first dir t ts v (Some i) own h = h

    module _ (results : ℕ) (more_results : List ℕ) (t : Shape) (ts : Shapes) (a b c : Self) (one : LoadsCase m results t address place a b) (rest : LoadsCases m more_results ts address place b c) where
      -- the block of a case, among the first and the others
      chosen : (u : Case (more t ts)) → (body : m.Block) × (slice_get (one.body ∷ rest.bodies) (case_number (more t ts) u) ≡ Some body) × GetsCase m (more t ts) u address place a c body
      chosen (inl v) = (
        one.body,
        refl,
        λ own listed w f later before s q k blk serves known held room holds may.
            let e = extent_of m.width (layout t) in
            let es = extents_of m.width (layouts ts) in
            comes_more false (requests m.width room_for t v) (m.account s) (m.runs w f one.body with_nothing s) (GavePayload m (Brought m take t (settled t v)) own (requests m.width room_for t v) w s)
            (GavePayload m (PayloadStands m take (more t ts) (settled_case (more t ts) (inl v))) own (requests m.width room_for t v) w s)
            (one.row v own listed w f later before s q k blk (rest.adds.resumes.serves w serves) known held (first_payload (reached m q place) blk k (m.account s).heap e es room) holds may)
            (λ z d got. record { payload = got.payload; is = got.is; own = got.own; stands = stands_first take t ts (settled t v) got.payload got.own got.stands; lifted = got.lifted; owns = got.owns; keeps = got.keeps }),
      )
      chosen (inr u) =
          let later_row = rest.row u in (
            later_row.0,
            later_row.1,
            λ own listed w f later before s q k blk serves known held room holds may.
                let e = extent_of m.width (layout t) in
                let es = extents_of m.width (layouts ts) in
                later_row.2 own listed w f later before s q k blk serves (one.adds.resumes.known w (of address (word (core.Pointer q)) ∷ []) before known) held (rest_payload (reached m q place) blk k (m.account s).heap e es room) holds may,
          )

      ask_nothing : (u : Case (more t ts)) → case_requests m.width room_for (more t ts) u ≡ []
      ask_nothing (inl v) = one.asks_nothing v
      ask_nothing (inr u) = rest.asks_nothing u

      pub more_load : LoadsCases m (results ∷ more_results) (more t ts) address place a c
      more_load = record { bodies = one.body ∷ rest.bodies; adds = more_blocks m results more_results one.body rest.bodies a b c one.adds rest.adds; asks_nothing = ask_nothing; row = chosen }

  -- 3. One after another, in a loop

  module _ (types : List TypeDef) (payloads : List (Option WitType)) (address : Operand) (place : ArchitectureSize) where
    pub rest_next : (i : ℕ) (a b c : Self) (p : Option WitType) → drop i payloads ≡ p ∷ drop (i + 1) payloads → LoadsCase m (length (option_to_list p)) (payload_in (shapes types) p) address place b c → Rest m types payloads address place i a b → Rest m types payloads address place (i + 1) a c
    rest_next i a b c p e one rest new h =
        let later = drop (i + 1) payloads in
        rest new (subst (λ ps. LoadsCases m (result_counts ps) (payloads_in (shapes types) ps) address place b new) (sym e)
        (more_load address place (length (option_to_list p)) (result_counts later) (payload_in (shapes types) p) (payloads_in (shapes types) later) b c new one h))

    pub rest_last : (i : ℕ) (a b : Self) → length payloads ≤ i → Rest m types payloads address place i a b → LoadsCases m (result_counts payloads) (payloads_in (shapes types) payloads) address place a b
    rest_last i a b ended rest = rest b (subst (λ ps. LoadsCases m (result_counts ps) (payloads_in (shapes types) ps) address place b b) (sym (drop_all i payloads ended)) (none_load address place b))
