-- The block of a case stores the number of the case, and its payload where it has one; and so all blocks together.
use Rattle.std.proofs.Common.{◌≡◌, ℕ, suc, ◌+◌, ◌%◌, ◌^◌, ◌<◌, ◌≤◌, Bool, true, false, pos, length, drop, List, [], ◌∷◌, ◌++◌, Contains, replicate, Option, None, Some, refl, sym, ap, ◌∙◌, subst, arith, append-nil}
use Rattle.std.proofs.lemmas.List.{drop_all}
use Rattle.std.specs.List.{slice_get}
use mathlib.Core.Logic.{inl, inr}
use Rattle.wit_model.specs.declared.size.ArchitectureSize.{ArchitectureSize}
use Rattle.wit_model.specs.declared.types.WitType.{WitType}
use Rattle.wit_model.specs.declared.types.TypeDef.{TypeDef}
use Rattle.wit_layout.specs.Extent.{greatest}
use Rattle.wit_layout.specs.Sizes.{elem_size, extent_of, extents_of}
use Rattle.wrapper_data.specs.Heap.{is_heap}
use Rattle.wrapper_data.specs.declared.block.Block.{Block}
use Rattle.wrapper_data.specs.declared.word.Word.TheVariants as core
use Rattle.wrapper_meaning.specs.Buffer.{Contents}
use Rattle.wrapper_meaning.specs.Cells.{HasNumber}
use Rattle.wrapper_meaning.specs.Direction.{Direction}
use Rattle.wrapper_meaning.specs.InMemory.{CaseHolds, Holds}
use Rattle.wrapper_meaning.specs.InRange.{IsListed}
use Rattle.wrapper_meaning.specs.Items.{SameItems, total}
use Rattle.wrapper_meaning.specs.Layout.{layout, layouts}
use Rattle.wrapper_meaning.specs.Shape.{Shape, Shapes, is_nothing, nothing, payload_in, payloads_in, shapes}
use Rattle.wrapper_meaning.specs.Shape.Shapes.{none, more}
use Rattle.wrapper_meaning.specs.Value.{Case, Value, case_number}
use Rattle.wrapper_meaning.proofs.HoldsLocally.{number_locally}
use Rattle.wrapper_meaning.proofs.PartPlaces.{bytes_of_first, bytes_of_rest}
use Rattle.wrapper_meaning.proofs.PostReturn.{total-append}
use Rattle.abi_bindgen.specs.declared.instruction.Instruction.TheVariants.{I32Const, VariantPayloadName}
use Rattle.abi_bindgen.specs.Account.{Account, Done, Outcome, Peer, Stopped, Stuck, addresses}
use Rattle.abi_bindgen.specs.Blocks.{Finishes, Pushes, brought, names}
use Rattle.abi_driver.specs.FinishedBlocks.{Brought, HasCaseRoom}
use Rattle.abi_bindgen.specs.Cases.{PayloadStands, with_case}
use Rattle.abi_bindgen.specs.Instructions.{Emits}
use Rattle.abi_bindgen.specs.Laws.{Adds, At, Facts, Sound}
use Rattle.abi_bindgen.specs.Leaves.{way}
use Rattle.abi_bindgen.specs.Meaning.{Bound, Meaning, bound, item, of, the_payload, word}
use Rattle.abi_bindgen.specs.NumberTouches.{number_store}
use Rattle.abi_bindgen.specs.Parts.{count}
use Rattle.abi_bindgen.specs.Places.{HasRoom, IsWritten, replaced}
use Rattle.abi_driver.specs.StoredCases.{BlockPut, BlockPuts, PutsCase, StoresCase, StoresCases, Tagged}
use Rattle.abi_driver.specs.Stores.{LowersToMemory, Put, PutBy, Stored}
use Rattle.abi_bindgen.specs.Touches.{reached}
use Rattle.abi_bindgen.proofs.BareCases.{number_ranged}
use Rattle.abi_driver.proofs.CaseRooms.{first_room, rest_room}
use Rattle.abi_driver.proofs.CaseSteps.{block_added, block_begins, block_gives, block_stops, is_open, more_blocks, no_blocks}
use Rattle.abi_driver.proofs.NumberWords.{Written, number_store_adds, number_stored}
use Rattle.abi_driver.proofs.Replaced.{replaced_formed}
use Rattle.abi_bindgen.proofs.Runs.{adds_both}
use Rattle.abi_driver.proofs.StoreSteps.{word_again}
use Rattle.abi_driver.proofs.Storing.{stored_later, written_both, written_in}
use Rattle.wrapper_meaning.specs.Numbers.{low_bits}
use Rattle.abi_bindgen.specs.Lowering.{Releases, said}
use Rattle.abi_bindgen.specs.Early.{Comes, HasAsked}
use Rattle.abi_bindgen.proofs.EarlyLemmas.{comes_behind, comes_more}
use Rattle.abi_driver.proofs.PutSteps.{by_storing, nothing_put, put_as, putting_again}
use Rattle.wrapper_meaning.specs.Requests.{block_for, case_requests, requests}
use Rattle.wrapper_data.specs.declared.choice.Request.{Request}

-- what was written at the front of a block and then behind it
written_behind : (b mid after : Block) (k front behind size : ℕ) → front ≤ behind → IsWritten k front b mid → IsWritten (k + behind) size mid after → IsWritten k (behind + size) b after
written_behind b mid after k front behind size apart one two =
    written_both b mid after k (behind + size) k front (k + behind) size one two (omega arith) (omega (arith, apart)) (omega arith) (omega arith)

-- what was given is let go of at last
owns_all : (start s1 s2 u given own : List ℕ) → SameItems start given → SameItems (s1 ++ []) (start ++ []) → SameItems (s2 ++ []) (s1 ++ []) → SameItems (u ++ own) s2 → SameItems given own → SameItems u []
owns_all start s1 s2 u given own begins zero one two same g =
    omega (arith, begins g, zero g, one g, two g, same g, total-append g u own, total-append g s2 [], total-append g s1 [], total-append g start [])

module _ {Self Operand : Type 0} (m : Meaning Self Operand) (types : List TypeDef) where
  -- what stores the cases from one on, stores all
  abbrev pub Rest : (realloc : Bool) (g : ℕ) (payloads : List (Option WitType)) (address : Operand) (offset place : ArchitectureSize) → ℕ → (a b : Self) → Type 0
  Rest realloc g payloads address offset place i a b =
      (new : Self) → StoresCases m realloc g i (payloads_in (shapes types) (drop i payloads)) address offset place b new → StoresCases m realloc g 0 (payloads_in (shapes types) payloads) address offset place a new

module _ {Self Operand : Type 0} (m : Meaning Self Operand) (sound : Sound m) where
  -- 1. Owners

  -- an item that is lent or given owns what its blocks are
  pub owns_blocks : (realloc : Bool) (given : List Block) (t : Shape) (v : Value t) (a : m.Item) (own : List Block) → m.stands (way realloc given) t v a own → SameItems (m.owned a) (addresses own)
  owns_blocks false given t v a own h g = ap (total g) (sound.lent t v a given own h) ∙ sym (ap (λ bs. total g (addresses bs)) (sound.bare t v a given own h))
  owns_blocks true given t v a own h g = sound.owned t v a own (sound.taken t v a own h) g

  brought_owns : (realloc : Bool) (given : List Block) (t : Shape) (v : Value t) (payload : Option m.Item) (own : List Block) → Brought m (way realloc given) t v payload own → SameItems (brought m (with_case m payload)) (addresses own)
  brought_owns realloc given t v None own h g = sym (ap (λ bs. total g (addresses bs)) h.1)
  brought_owns realloc given t v (Some a) own h g = owns_blocks realloc given t v a own h.1 g

  -- nothing has no blocks
  nothing_brought : (dir : Direction) (v : Value nothing) (payload : Option m.Item) (own : List Block) → Brought m dir nothing v payload own → own ≡ []
  nothing_brought dir v None own h = h.1
  nothing_brought dir v (Some a) own h = absurd (let e = h.0 in cc)

module _ {Self Operand : Type 0} (m : Meaning Self Operand) (sound : Sound m) (types : List TypeDef) where
  -- 2. The tag

  -- the number of a case is made a word, which is stored as so many of its low bytes
  pub tag_put : (g n : ℕ) (offset : ArchitectureSize) (r address : Operand) (a b c : Self) → g ≤ 2 → n < 2 ^ 31 → low_bits 32 (pos n) % 256 ^ (2 ^ g) ≡ n → Emits m types (I32Const (pos n)) [] (r ∷ []) a b → Emits m types (number_store g offset) (r ∷ address ∷ []) [] b c
      → (w : m.World) (f : Peer m.Item) (others : Facts m) (s0 s : m.State) (q k : ℕ) (blk : Block) → At m w f a c (of address (word (core.Pointer q)) ∷ others) s0 s → is_heap (m.account s).heap ≡ true → Contains (m.account s).heap.blocks blk
      → reached m q offset ≡ blk.address + k → k + 2 ^ g ≤ blk.size → reached m q offset % 2 ^ g ≡ 0 → Written m sound types k (2 ^ g) n blk c w f others s0 s
  tag_put g n offset r address a b c small low kept const store w f others s0 s q k blk at formed there starts fits aligned =
      let pointer : Facts m = of address (word (core.Pointer q)) ∷ [] in
      let adds = number_store_adds m sound types g offset (r ∷ address ∷ []) [] b c store in
      let at1 : At m w f a b ([] ++ (pointer ++ others)) s0 s = record { serves = adds.grows.serves w at.serves; done = at.done; holds = at.holds } in
      let one = const.row w f (pointer ++ others) s0 s at1 in
      let s1 = one.0 in
      let after1 = one.2.2 in
      let at2 : At m w f b c (of r (word (core.I32 (pos n))) ∷ of address (word (core.Pointer q)) ∷ others) s0 s1 =
      record { serves = at.serves; done = one.1; holds = subst (λ fs. m.denotes w b (fs ++ (pointer ++ others)) s1) one.2.1 after1.denotes } in
      let same : m.account s1 ≡ m.account s = after1.account in
      let put = number_stored m sound types g offset r address b c small store (core.I32 (pos n)) (number_ranged n low) w f others s0 s1 q k blk at2
      (ap (λ (z : Account m.Item). is_heap z.heap) same ∙ formed) (subst (λ (z : Account m.Item). Contains z.heap.blocks blk) (sym same) there) starts fits aligned in
      let after2 = put.5 in (
        put.0,
        put.1,
        put.2,
        put.3,
        subst (λ j. HasNumber put.1 k (2 ^ g) j) kept put.4,
        record {
          account = stored_later (m.account s) (m.account s1) (m.account put.0) put.1 same after2.account;
          owns = λ h. after2.owns h ∙ after1.owns h;
          denotes = after2.denotes;
        },
      )

  -- 3. One block

  -- where the code of a block has stored something and owns nothing, the block has
  module _ (realloc : Bool) (Held : Contents) (size : ℕ) (blk : Block) (k : ℕ) (own : List Block) (left : List ℕ) (due : List Request) (a b c d : Self) (opens : Pushes m a b) (adds : Adds m b c) (closes : Finishes m [] c d) (w : m.World) (f : Peer m.Item) (with : Bound m.Item) (s : m.State)
      (serves : m.serves w d) where
    pub record CodePut (u : m.State) : Type 0 where
      pub puts : PutBy realloc Held k size blk k own left due (m.account s) (m.account u)
      pub owns : SameItems (m.owns u) []
      pub denotes : m.denotes w c [] u

    by_outcome : (o : Outcome m.Item m.State) → m.does w f (m.code c) (m.enter opens.slot with s) ≡ o → Comes true due (m.account s) o CodePut → BlockPuts m realloc Held size blk k own left due w f closes.block with s
    by_outcome (Done u) is h =
        let gives = block_gives m sound a b opens c d [] adds closes w f with s u [] serves is refl h.denotes h.owns in
        subst (λ o. Comes true due (m.account s) o (BlockPut m realloc Held size blk k own left due w s)) (sym gives.runs)
        (record { results = refl; puts = subst (PutBy realloc Held k size blk k own left due (m.account s)) (sym gives.account) h.puts; owns = gives.owns; keeps = gives.denotes })
    by_outcome (Stopped e acc) is h =
        subst (λ o. Comes true due (m.account s) o (BlockPut m realloc Held size blk k own left due w s)) (sym (block_stops m sound a b opens c d [] adds closes w f with s e acc serves is)) h
    by_outcome (Stuck acc) is h = elim h [ ]

    pub block_puts : Comes true due (m.account s) (m.does w f (m.code c) (m.enter opens.slot with s)) CodePut → BlockPuts m realloc Held size blk k own left due w f closes.block with s
    block_puts h = by_outcome (m.does w f (m.code c) (m.enter opens.slot with s)) refl h

  module _ (realloc : Bool) (g n : ℕ) (small : g ≤ 2) (low : n < 2 ^ 31) (kept : low_bits 32 (pos n) % 256 ^ (2 ^ g) ≡ n) (address r : Operand) (offset place : ArchitectureSize) where
    -- a case without payload
    pub bare_case : (a b c d e : Self) → Pushes m a b → Emits m types (I32Const (pos n)) [] (r ∷ []) b c → Emits m types (number_store g offset) (r ∷ address ∷ []) [] c d → Finishes m [] d e
        → StoresCase m realloc g n nothing address offset place a e
    bare_case a b c d e opens const store closes =
        let adds : Adds m b d = adds_both m b c d const.adds (number_store_adds m sound types g offset (r ∷ address ∷ []) [] c d store) in
        record {
          body = closes.block;
          adds = block_added m sound a b opens d e [] adds closes;
          asks_nothing = λ v. refl;
          row = λ given v payload own listed stands w f later before s q k x blk left serves known held room goes.
              let with = with_case m payload in
              let start = m.enter opens.slot with s in
              let pointer : Facts m = of address (word (core.Pointer q)) ∷ [] in
              let empty : own ≡ [] = nothing_brought m sound (way realloc given) v payload own stands in
              let begins = block_begins m sound a b opens d later w f pointer before s with (closes.lasts.serves w serves) (tt, tt) known held in
              let at1 : At m w f b d (pointer ++ []) start start = record { serves = begins.serves; done = begins.done; holds = sound.fewer w b (names m opens.slot with) pointer start begins.holds } in
              let same : m.account start ≡ m.account s = opens.account s with in
              let put = tag_put g n offset r address b c d small low kept const store w f [] start start q k blk at1 (ap (λ (z : Account m.Item). is_heap z.heap) same ∙ room.formed) (subst (λ (z : Account m.Item). Contains z.heap.blocks blk) (sym same) room.there)
              room.starts (omega (arith, room.fits, room.apart)) room.tag_aligned in
              let u = put.0 in
              let after = put.5 in
              let is_left : left ≡ (m.account s).taken = subst (λ bs. Releases (addresses bs) (m.account s).taken left) empty goes in
              let owns : SameItems (m.owns u) [] = λ h.
              omega (arith, after.owns h, opens.owns s with h, brought_owns m sound realloc given nothing v payload own stands h, ap (λ bs. total h (addresses bs)) empty, total-append h (m.owns u) [], total-append h (m.owns start) []) in
              let size = x + elem_size m.width (layout nothing) in
              let acc = m.account s in
              let all = put.1 in
              let Held : Contents = Tagged m g n x (Holds m.width (said realloc given) nothing v) in
              let stored : Stored Held k size blk k own all = record { written = written_in blk all k (2 ^ g) k size put.3 (omega arith) (omega (arith, room.apart)); holds = (put.4, empty) } in
              let now : m.account u ≡ (by_storing all left acc).account = after.account ∙ ap (λ (z : Account m.Item). record z { heap = record { blocks = replaced all z.heap.blocks } }) same
              ∙ ap (λ (ts : List ℕ). record acc { heap = record { blocks = replaced all acc.heap.blocks }; taken = ts }) (sym is_left) in
              let good = replaced_formed acc.heap.blocks blk all k (2 ^ g) room.formed room.there put.3 in
              let ended : CodePut realloc Held size blk k own left [] a b d e opens adds closes w f with s serves u = record {
                puts = record { block = all; made = []; blocks = own; stored = stored; split = λ g. refl; same = λ e. refl; each = refl; account = now ∙ nothing_put realloc all left acc; formed = ap (λ (z : Account m.Item). is_heap z.heap) now ∙ good.0 };
                owns = owns;
                denotes = after.denotes;
              } in
              block_puts realloc Held size blk k own left [] a b d e opens adds closes w f with s serves (subst (λ o. Comes true [] acc o (CodePut realloc Held size blk k own left [] a b d e opens adds closes w f with s serves)) (sym put.2) ended);
        }

    -- a case with a payload, which is read and stored behind the number
    module _ (t : Shape) (some : is_nothing t ≡ false) where
      payload_row : (a b c d e x y : Self) (o : Operand) (opens : Pushes m a b) (name : Emits m types VariantPayloadName [] (o ∷ []) b c) (const : Emits m types (I32Const (pos n)) [] (r ∷ []) c d) (store : Emits m types (number_store g offset) (r ∷ address ∷ []) [] d e)
          (part : LowersToMemory m realloc t o address place e x) (adds : Adds m b x) (closes : Finishes m [] x y) (given : List Block) (v : Value t) (i : m.Item) (own : List Block) → IsListed t v → m.stands (way realloc given) t v i own
          → (w : m.World) (f : Peer m.Item) (later : Self) (before s : m.State) (q k h : ℕ) (blk : Block) (left : List ℕ)
          → (serves_y : m.serves w y) → m.denotes w a (of address (word (core.Pointer q)) ∷ []) before → m.denotes w later (of address (word (core.Pointer q)) ∷ []) s
          → HasCaseRoom g (extent_of m.width (layout t)) (reached m q offset) (reached m q place) blk k h (m.account s).heap → Releases (addresses own) (m.account s).taken left
          → Comes true (requests m.width block_for t v) (m.account s) (m.does w f (m.code x) (m.enter opens.slot (with_case m (Some i)) s))
          (CodePut realloc (Tagged m g n h (Holds m.width (said realloc given) t v)) (h + elem_size m.width (layout t)) blk k own left (requests m.width block_for t v) a b x y opens adds closes w f (with_case m (Some i)) s serves_y)
      payload_row a b c d e x y o opens name const store part adds closes given v i own listed stands w f later before s q k h blk left serves_y known held room goes =
          let serves = closes.lasts.serves w serves_y in
          let with = with_case m (Some i) in
          let start = m.enter opens.slot with s in
          let pointer : Facts m = of address (word (core.Pointer q)) ∷ [] in
          let begins = block_begins m sound a b opens x later w f pointer before s with serves (tt, tt) known held in
          let serves_e = part.adds.grows.serves w serves in
          let serves_c = const.adds.grows.serves w ((number_store_adds m sound types g offset (r ∷ address ∷ []) [] d e store).grows.serves w serves_e) in
          let at0 : At m w f b c ((bound opens.slot the_payload (item i) ∷ []) ++ pointer) start start = record { serves = serves_c; done = begins.done; holds = begins.holds } in
          let zero = name.row (is_open m sound a b opens) (item i) w f pointer start start at0 in
          let s1 = zero.0 in
          let after0 = zero.2.2 in
          let named : m.denotes w c ((of o (item i) ∷ []) ++ (pointer ++ [])) s1 = subst (λ fs. m.denotes w c (fs ++ pointer) s1) zero.2.1 after0.denotes in
          let at1 : At m w f c e (of address (word (core.Pointer q)) ∷ (of o (item i) ∷ of address (word (core.Pointer q)) ∷ [])) start s1 =
          record { serves = serves_e; done = zero.1; holds = word_again m sound types w c (of o (item i) ∷ []) [] address (core.Pointer q) s1 named } in
          let same : m.account s1 ≡ m.account s = after0.account ∙ opens.account s with in
          let tag = tag_put g n offset r address c d e small low kept const store w f (of o (item i) ∷ of address (word (core.Pointer q)) ∷ []) start s1 q k blk at1 (ap (λ (z : Account m.Item). is_heap z.heap) same ∙ room.formed)
          (subst (λ (z : Account m.Item). Contains z.heap.blocks blk) (sym same) room.there) room.starts (omega (arith, room.fits, room.apart)) room.tag_aligned in
          let s2 = tag.0 in
          let mid = tag.1 in
          let after1 = tag.5 in
          let formed = replaced_formed (m.account s).heap.blocks blk mid k (2 ^ g) room.formed room.there tag.3 in
          let now : m.account s2 ≡ record (m.account s) { heap = record { blocks = replaced mid (m.account s).heap.blocks } } = stored_later (m.account s) (m.account s1) (m.account s2) mid same after1.account in
          let room1 : HasRoom m.width t (reached m q place) mid (k + h) (record { blocks = replaced mid (m.account s).heap.blocks }) = record {
            formed = formed.0;
            there = formed.1;
            starts = omega (arith, room.behind, room.starts, tag.3.same_address);
            fits = omega (arith, room.fits, tag.3.same_size);
            aligned = room.payload_aligned;
          } in
          let at2 : At m w f e x (of o (item i) ∷ of address (word (core.Pointer q)) ∷ []) start s2 = record { serves = serves; done = tag.2; holds = after1.denotes } in
          let due = requests m.width block_for t v in
          let size = elem_size m.width (layout t) in
          let One : Contents = Holds m.width (said realloc given) t v in
          let Held : Contents = Tagged m g n h One in
          let First : m.State → Type 0 = Put m realloc One (k + h) size mid (k + h) own left due w x [] s2 in
          let Ended : m.State → Type 0 = CodePut realloc Held (h + size) blk k own left due a b x y opens adds closes w f with s serves_y in
          let run = part.row given v i own listed stands w f [] start s2 q (k + h) mid left at2 (subst (λ (z : Account m.Item). HasRoom m.width t (reached m q place) mid (k + h) z.heap) (sym now) room1)
          (subst (λ (z : Account m.Item). Releases (addresses own) z.taken left) (sym now) goes) in
          let asked : HasAsked [] (m.account s) (m.account s2) = record { requests = ap (λ (z : Account m.Item). z.requests) now ∙ sym (append-nil (m.account s).requests); choices = ap (λ (z : Account m.Item). z.choices) now; calls = ap (λ (z : Account m.Item). z.calls) now } in
          comes_behind true [] due (m.account s) (m.account s2) (m.does w f (m.code x) start) First Ended asked run
          (λ u is put.
          let all = put.puts.block in
          let written = put.puts.stored.written in
          let tagged = number_locally mid all k (2 ^ g) n (λ j size l e. written.outside j size (inl (omega (arith, e, room.apart)))) tag.4 in
          record {
            puts = record {
              block = all;
              made = put.puts.made;
              blocks = put.puts.blocks;
              stored = record { written = written_behind blk mid all k (2 ^ g) h size room.apart tag.3 written; holds = (tagged, put.puts.stored.holds) };
              split = put.puts.split;
              same = put.puts.same;
              each = put.puts.each;
              account = putting_again realloc mid all put.puts.made left due (m.account s) (m.account s2) (m.account u) written.same_address now put.puts.account;
              formed = put.puts.formed;
            };
            owns = owns_all (m.owns start) (m.owns s1) (m.owns s2) (m.owns u) (m.owned i) (addresses own) (opens.owns s with) after0.owns after1.owns put.owns (owns_blocks m sound realloc given t v i own stands);
            denotes = put.denotes;
          })

      pub payload_case : (a b c d e x y : Self) (o : Operand) → Pushes m a b → Emits m types VariantPayloadName [] (o ∷ []) b c → Emits m types (I32Const (pos n)) [] (r ∷ []) c d → Emits m types (number_store g offset) (r ∷ address ∷ []) [] d e
          → LowersToMemory m realloc t o address place e x → Finishes m [] x y → StoresCase m realloc g n t address offset place a y
      payload_case a b c d e x y o opens name const store part closes =
          let adds : Adds m b x = adds_both m b c x name.adds (adds_both m c d x const.adds (adds_both m d e x (number_store_adds m sound types g offset (r ∷ address ∷ []) [] d e store) part.adds)) in
          record {
            body = closes.block;
            adds = block_added m sound a b opens x y [] adds closes;
            asks_nothing = part.asks_nothing;
            row = λ given v payload own listed stands w f later before s q k h blk left serves known held room goes.
                let due = requests m.width block_for t v in
                let size = h + elem_size m.width (layout t) in
                let Held : Contents = Tagged m g n h (Holds m.width (said realloc given) t v) in
                let go : (p : Option m.Item) → Brought m (way realloc given) t v p own → BlockPuts m realloc Held size blk k own left due w f closes.block (with_case m p) s =
                λ p is. elim p as (λ z. Brought m (way realloc given) t v z own → BlockPuts m realloc Held size blk k own left due w f closes.block (with_case m z) s) [
                  | None ↦ λ none_is. absurd (let e = none_is.0 in let no = some in cc)
                  | Some i ↦ λ st. block_puts realloc Held size blk k own left due a b x y opens adds closes w f (with_case m (Some i)) s serves
                      (payload_row a b c d e x y o opens name const store part adds closes given v i own listed st.1 w f later before s q k h blk left serves known held room goes)
                ] is in
                go payload stands;
          }

  -- 4. All blocks

  module _ (realloc : Bool) (g : ℕ) (address : Operand) (offset place : ArchitectureSize) where
    pub no_cases : (first : ℕ) (a : Self) → StoresCases m realloc g first none address offset place a a
    no_cases first a = record { bodies = []; adds = no_blocks m a; asks_nothing = λ c. elim c [ ]; row = λ c. elim c [ ] }

    brought_first : (dir : Direction) (t : Shape) (ts : Shapes) (v : Value t) (payload : Option m.Item) (own : List Block) → PayloadStands m dir (more t ts) (inl v) payload own → Brought m dir t v payload own
    brought_first dir t ts v None own h = h
    brought_first dir t ts v (Some i) own h = h

    wider : (One Two : Contents) (size more_size : ℕ) (b : Block) (k : ℕ) (own : List Block) (left : List ℕ) (due : List Request) (w : m.World) (f : Peer m.Item) (body : m.Block) (with : Bound m.Item) (s : m.State) → size ≤ more_size
        → ((after : Block) (blocks : List Block) → One after k blocks → Two after k blocks) → BlockPuts m realloc One size b k own left due w f body with s → BlockPuts m realloc Two more_size b k own left due w f body with s
    wider One Two size more_size b k own left due w f body with s l same put =
        comes_more true due (m.account s) (m.runs w f body with s) (BlockPut m realloc One size b k own left due w s) (BlockPut m realloc Two more_size b k own left due w s) put
        (λ e is h. record {
          results = h.results;
          puts = put_as realloc One Two k size k more_size b k k own left due (m.account s) (m.account e.state) (λ after written. written_in b after k size k more_size written (omega arith) (omega (arith, l))) (λ after blocks written held. same after blocks held) h.puts;
          owns = h.owns;
          keeps = h.keeps;
        })

    module _ (first : ℕ) (t : Shape) (ts : Shapes) (a b c : Self) (one : StoresCase m realloc g first t address offset place a b) (rest : StoresCases m realloc g (suc first) ts address offset place b c) where
      -- the block of a case, among the first and the others
      chosen : (u : Case (more t ts)) → (body : m.Block) × (slice_get (one.body ∷ rest.bodies) (case_number (more t ts) u) ≡ Some body) × PutsCase m realloc g first (more t ts) u address offset place a c body
      chosen (inl v) = (
        one.body,
        refl,
        λ given payload own listed stands w f later before s q k d blk left serves known held room goes.
            let e = extent_of m.width (layout t) in
            let es = extents_of m.width (layouts ts) in
            let dir = said realloc given in
            let low = bytes_of_first e es in
            let due = requests m.width block_for t v in
            let put = one.row given v payload own listed (brought_first (way realloc given) t ts v payload own stands) w f later before s q k d blk left (rest.adds.resumes.serves w serves) known held
            (first_room g (reached m q offset) (reached m q place) blk k d (m.account s).heap e es room) goes in
            wider (Tagged m g first d (Holds m.width dir t v)) (Tagged m g (first + 0) d (Holds m.width dir t v)) (d + e.bytes) (d + (greatest (e ∷ es)).bytes) blk k own left due w f one.body (with_case m payload) s (omega (arith, low))
            (λ after blocks h. (subst (λ n. HasNumber after k (2 ^ g) n) (omega arith) h.0, h.1)) put,
      )
      chosen (inr u) =
          let later_row = rest.row u in (
            later_row.0,
            later_row.1,
            λ given payload own listed stands w f later before s q k d blk left serves known held room goes.
                let e = extent_of m.width (layout t) in
                let es = extents_of m.width (layouts ts) in
                let dir = said realloc given in
                let low = bytes_of_rest e es in
                let due = case_requests m.width block_for ts u in
                let put = later_row.2 given payload own listed stands w f later before s q k d blk left serves (one.adds.resumes.known w (of address (word (core.Pointer q)) ∷ []) before known) held
                (rest_room g (reached m q offset) (reached m q place) blk k d (m.account s).heap e es room) goes in
                wider (Tagged m g (suc first + case_number ts u) d (CaseHolds m.width dir ts u)) (Tagged m g (first + suc (case_number ts u)) d (CaseHolds m.width dir ts u)) (d + (greatest es).bytes) (d + (greatest (e ∷ es)).bytes) blk k own left due w f later_row.0 (with_case m payload) s (omega (arith, low))
                (λ after blocks h. (subst (λ n. HasNumber after k (2 ^ g) n) (omega arith) h.0, h.1)) put,
          )

      ask_nothing : (u : Case (more t ts)) → case_requests m.width block_for (more t ts) u ≡ []
      ask_nothing (inl v) = one.asks_nothing v
      ask_nothing (inr u) = rest.asks_nothing u

      pub more_cases : StoresCases m realloc g first (more t ts) address offset place a c
      more_cases = record { bodies = one.body ∷ rest.bodies; adds = more_blocks m 0 (replicate (count ts) 0) one.body rest.bodies a b c one.adds rest.adds; asks_nothing = ask_nothing; row = chosen }

  -- 5. One after another, in a loop

  module _ (realloc : Bool) (g : ℕ) (payloads : List (Option WitType)) (address : Operand) (offset place : ArchitectureSize) where
    pub rest_next : (i : ℕ) (a b c : Self) (p : Option WitType) → drop i payloads ≡ p ∷ drop (i + 1) payloads → StoresCase m realloc g i (payload_in (shapes types) p) address offset place b c → Rest m types realloc g payloads address offset place i a b → Rest m types realloc g payloads address offset place (i + 1) a c
    rest_next i a b c p e one rest new h =
        let up : i + 1 ≡ suc i = omega arith in
        let later = subst (λ n. StoresCases m realloc g n (payloads_in (shapes types) (drop (i + 1) payloads)) address offset place c new) up h in
        rest new (subst (λ ps. StoresCases m realloc g i (payloads_in (shapes types) ps) address offset place b new) (sym e)
        (more_cases realloc g address offset place i (payload_in (shapes types) p) (payloads_in (shapes types) (drop (i + 1) payloads)) b c new one later))

    pub rest_last : (i : ℕ) (a b : Self) → length payloads ≤ i → Rest m types realloc g payloads address offset place i a b → StoresCases m realloc g 0 (payloads_in (shapes types) payloads) address offset place a b
    rest_last i a b ended rest =
        rest b (subst (λ ps. StoresCases m realloc g i (payloads_in (shapes types) ps) address offset place b b) (sym (drop_all i payloads ended)) (no_cases realloc g address offset place i b))
