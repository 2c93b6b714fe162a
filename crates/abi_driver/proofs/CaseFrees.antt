-- The block of a case frees the blocks of its payload; and so all blocks together.
use Rattle.std.proofs.Common.{◌≡◌, ℕ, ◌≤◌, ◌+◌, length, drop, Option, List, [], ◌∷◌, replicate, Some, refl, sym, ap, ◌∙◌, subst, arith}
use Rattle.std.proofs.lemmas.List.{drop_all}
use Rattle.std.specs.List.{slice_get}
use mathlib.Core.Logic.{inl, inr}
use Rattle.wit_model.specs.declared.size.ArchitectureSize.{ArchitectureSize}
use Rattle.wit_model.specs.declared.types.TypeDef.{TypeDef}
use Rattle.wit_model.specs.declared.types.WitType.{WitType}
use Rattle.wit_layout.specs.Sizes.{extent_of, extents_of}
use Rattle.wrapper_data.specs.declared.word.Word.TheVariants as core
use Rattle.wrapper_meaning.specs.Items.{SameItems}
use Rattle.wrapper_meaning.specs.Layout.{layout, layouts}
use Rattle.wrapper_meaning.specs.Shape.{Shape, Shapes, nothing, payload_in, payloads_in, shapes}
use Rattle.wrapper_meaning.specs.Shape.Shapes.{none, more}
use Rattle.wrapper_meaning.specs.Value.{Case, case_number}
use Rattle.wrapper_meaning.proofs.PostReturn.{total-append}
use Rattle.abi_bindgen.specs.Account.{Account}
use Rattle.abi_bindgen.specs.Blocks.{Finishes, Pushes}
use Rattle.abi_driver.specs.FreedCases.{EmptiesCase, FreesCases, FreesPayload}
use Rattle.abi_bindgen.specs.Frees.{FreesInMemory, MayFree, by_freeing}
use Rattle.abi_bindgen.specs.Laws.{Facts, Sound}
use Rattle.abi_bindgen.specs.Meaning.{Meaning, of, with_nothing, word}
use Rattle.abi_bindgen.specs.Parts.{count}
use Rattle.abi_bindgen.specs.Places.{HasRoom}
use Rattle.abi_bindgen.specs.Touches.{reached}
use Rattle.abi_driver.proofs.CaseRooms.{first_payload, rest_payload}
use Rattle.abi_driver.proofs.CaseSteps.{block_added, block_begins, block_gives, more_blocks, no_blocks}
use Rattle.abi_driver.proofs.LeafFrees.{alone_at}

module _ {Self Operand : Type 0} (m : Meaning Self Operand) (types : List TypeDef) where
  -- what frees the cases from one on, frees all
  abbrev pub Rest : (payloads : List (Option WitType)) (address : Operand) (place : ArchitectureSize) → ℕ → (a b : Self) → Type 0
  Rest payloads address place i a b =
      (new : Self) → FreesCases m (payloads_in (shapes types) (drop i payloads)) address place b new → FreesCases m (payloads_in (shapes types) payloads) address place a new

module _ {Self Operand : Type 0} (m : Meaning Self Operand) (sound : Sound m) where
  -- 1. One block

  pub payload_frees : (t : Shape) (address : Operand) (place : ArchitectureSize) (a b c d : Self) → Pushes m a b → FreesInMemory m t address place b c → Finishes m [] c d → FreesPayload m t address place a d
  payload_frees t address place a b c d opens part closes = record {
    body = closes.block;
    adds = block_added m sound a b opens c d [] part.adds closes;
    row = λ v own listed w f later before s q k blk serves known held room holds may.
        let start = m.enter opens.slot with_nothing s in
        let pointer : Facts m = of address (word (core.Pointer q)) ∷ [] in
        let begins = block_begins m sound a b opens c later w f pointer before s with_nothing (closes.lasts.serves w serves) (tt, tt) known held in
        let same : m.account start ≡ m.account s = opens.account s with_nothing in
        let room1 : HasRoom m.width t (reached m q place) blk k (m.account s).heap = record { formed = room.formed; there = room.there; starts = room.starts; fits = room.fits; aligned = room.aligned } in
        let ran = part.row v own listed w f [] start start q k blk begins (subst (λ (z : Account m.Item). HasRoom m.width t (reached m q place) blk k z.heap) (sym same) room1) holds (subst (λ (z : Account m.Item). MayFree own blk z) (sym same) may) in
        let u = ran.0 in
        let after = ran.2 in
        let owns : SameItems (m.owns u) [] = λ g. omega (arith, after.owns g, opens.owns s with_nothing g, total-append g (m.owns u) [], total-append g (m.owns start) []) in
        (u, block_gives m sound a b opens c d [] part.adds closes w f with_nothing s u [] serves ran.1 refl after.denotes owns, after.account ∙ ap (λ (z : Account m.Item). (by_freeing own z).account) same);
  }

  -- a case without payload
  pub bare_frees : (address : Operand) (place : ArchitectureSize) (a b c : Self) → Pushes m a b → Finishes m [] b c → FreesPayload m nothing address place a c
  bare_frees address place a b c opens closes = payload_frees nothing address place a b b c opens (alone_at m sound [] nothing (λ v blk k own holds. holds) b address place) closes

  -- 2. All blocks

  module _ (address : Operand) (place : ArchitectureSize) where
    pub none_free : (a : Self) → FreesCases m none address place a a
    none_free a = record { bodies = []; adds = no_blocks m a; row = λ c. elim c [ ] }

    module _ (t : Shape) (ts : Shapes) (a b c : Self) (one : FreesPayload m t address place a b) (rest : FreesCases m ts address place b c) where
      -- the block of a case, among the first and the others
      chosen : (u : Case (more t ts)) → (body : m.Block) × (slice_get (one.body ∷ rest.bodies) (case_number (more t ts) u) ≡ Some body) × EmptiesCase m (more t ts) u address place a c body
      chosen (inl v) = (
        one.body,
        refl,
        λ own listed w f later before s q k blk serves known held room holds may.
            one.row v own listed w f later before s q k blk (rest.adds.resumes.serves w serves) known held
            (first_payload (reached m q place) blk k (m.account s).heap (extent_of m.width (layout t)) (extents_of m.width (layouts ts)) room) holds may,
      )
      chosen (inr u) =
          let later_row = rest.row u in (
            later_row.0,
            later_row.1,
            λ own listed w f later before s q k blk serves known held room holds may.
                later_row.2 own listed w f later before s q k blk serves (one.adds.resumes.known w (of address (word (core.Pointer q)) ∷ []) before known) held
                (rest_payload (reached m q place) blk k (m.account s).heap (extent_of m.width (layout t)) (extents_of m.width (layouts ts)) room) holds may,
          )

      pub more_free : FreesCases m (more t ts) address place a c
      more_free = record { bodies = one.body ∷ rest.bodies; adds = more_blocks m 0 (replicate (count ts) 0) one.body rest.bodies a b c one.adds rest.adds; row = chosen }

  -- 3. One after another, in a loop

  module _ (types : List TypeDef) (payloads : List (Option WitType)) (address : Operand) (place : ArchitectureSize) where
    pub rest_next : (i : ℕ) (a b c : Self) (p : Option WitType) → drop i payloads ≡ p ∷ drop (i + 1) payloads → FreesPayload m (payload_in (shapes types) p) address place b c → Rest m types payloads address place i a b → Rest m types payloads address place (i + 1) a c
    rest_next i a b c p e one rest new h =
        rest new (subst (λ ps. FreesCases m (payloads_in (shapes types) ps) address place b new) (sym e)
        (more_free address place (payload_in (shapes types) p) (payloads_in (shapes types) (drop (i + 1) payloads)) b c new one h))

    pub rest_last : (i : ℕ) (a b : Self) → length payloads ≤ i → Rest m types payloads address place i a b → FreesCases m (payloads_in (shapes types) payloads) address place a b
    rest_last i a b ended rest = rest b (subst (λ ps. FreesCases m (payloads_in (shapes types) ps) address place b b) (sym (drop_all i payloads ended)) (none_free address place b))
