-- Of the finished blocks of cases the one of a word's case is run, and what it frees is freed.
use Rattle.std.proofs.Common.{◌≡◌, ℕ, ◌<◌, true, pos, List, [], ◌∷◌, ◌++◌, length, drop, replicate, Some, refl, sym, ap, ◌∙◌, subst}
use Rattle.std.specs.List.{slice_get}
use Rattle.std.proofs.lemmas.List.{length-replicate}
use Rattle.wit_model.specs.declared.types.TypeDef.{TypeDef}
use Rattle.wrapper_data.specs.declared.block.Block.{Block}
use Rattle.wrapper_data.specs.declared.word.Word.TheVariants as core
use Rattle.abi_bindgen.specs.declared.instruction.Instruction.TheVariants.{GuestDeallocateVariant}
use Rattle.abi_bindgen.specs.Account.{Account, Done, Peer}
use Rattle.abi_bindgen.specs.Arms.{arms, gives_nothing, matching}
use Rattle.abi_bindgen.specs.Frees.{Frees, by_freeing}
use Rattle.abi_bindgen.specs.Instructions.{Emits}
use Rattle.abi_bindgen.specs.Laws.{Adds, At, Facts, Grows, Quiet, Sound, StaysUncalled}
use Rattle.abi_bindgen.specs.Meaning.{Meaning, of, word}
use Rattle.abi_driver.specs.FinishedBlocks.{AddsBlocks}
use Rattle.abi_driver.specs.FreedCases.{BlockFrees}
use Rattle.abi_driver.proofs.ArmSteps.{arm_runs, went}
use Rattle.abi_driver.proofs.CaseSteps.{arms_are, arms_gone, front_only, plain_total, resumes_then, uses_blocks}
use Rattle.abi_driver.proofs.LiftSteps.{follows_done}

module _ {Self Operand : Type 0} (m : Meaning Self Operand) (sound : Sound m) (types : List TypeDef) (n : ℕ) (b c d : Self) (x : Operand) (bodies : List m.Block) (adds : AddsBlocks m (replicate n 0) bodies b c) (arm : Emits m types (GuestDeallocateVariant n) (x ∷ []) [] c d) where
  many : length {A = ℕ} (replicate n 0) ≡ n
  many = length-replicate n 0

  uses : Grows m c d × Quiet m c d × StaysUncalled m c d
  uses = uses_blocks m (replicate n 0) c d arm.adds

  -- the blocks are used up
  pub arm_adds : Adds m b d
  arm_adds = resumes_then m b c d adds.resumes uses.0 uses.1 uses.2 arm.asked (arm.blocks ∙ ap (λ j. drop j (m.blocks c)) many ∙ arms_gone m (replicate n 0) bodies b c n adds many)

  -- where the block of this number frees such blocks, from where it begins, the instruction does, and it forgets what is known of the slots
  pub arm_frees : (i : ℕ) (body : m.Block) → i < n → slice_get bodies i ≡ Some body → (own : List Block) (w : m.World) (f : Peer m.Item) (there others : Facts m) (s0 s : m.State) → m.serves w d → m.does w f (m.code b) s0 ≡ Done s
      → m.denotes w b (of x (word (core.I32 (pos i))) ∷ (there ++ others)) s
      → ((begin : m.State) → m.serves w c → m.denotes w b there s → m.denotes w c there begin → m.account begin ≡ m.account s → BlockFrees m own w f body begin) → Frees m own d w f others s0 s
  arm_frees i body low at own w f there others s0 s serves done tag frees =
      let read : Facts m = of x (word (core.I32 (pos i))) ∷ [] in
      let at1 : At m w f c d (read ++ (there ++ others)) s0 s = record { serves = serves; done = ap (λ code. m.does w f code s0) adds.resumes.code ∙ done; holds = adds.resumes.known w (read ++ (there ++ others)) s tag } in
      let ran = arm.row (core.I32 (pos i)) w f (there ++ others) s0 s at1 in
      let begin = ran.0 in
      let moved = ran.1 in
      let known : m.denotes w b there s = front_only m sound w b there others s (sound.fewer w b read (there ++ others) s tag) in
      let held : m.denotes w c (there ++ others) begin = moved.denotes (there ++ others) at1.holds in
      let here : slice_get (arms m n (m.blocks c)) i ≡ Some body = ap (λ bs. slice_get bs i) (arms_are m (replicate n 0) bodies b c n adds many) ∙ at in
      let freed = frees begin (uses.0.serves w serves) known (front_only m sound w c there others begin held) moved.account in
      let gives = freed.1 in
      let armed = arm_runs m (gives_nothing m) w f true n (m.blocks c) i begin freed.0 body [] low here gives refl in
      let last = follows_done m.account (matching m (gives_nothing m) w f true n (m.blocks c) (core.I32 (pos i)) begin) (m.does w f (m.code d) s0) _ (went m i [] gives.state) armed ran.2 in
      let t = last.0 in
      let arrives = last.2 in
      let outs = arrives.denotes (gives.denotes c (there ++ others) held) in (
        t,
        last.1,
        record {
          account = arrives.account ∙ gives.account ∙ freed.2 ∙ ap (λ (z : Account m.Item). (by_freeing own z).account) moved.account;
          owns = λ h.
              let before = gives.owns h ∙ sym (plain_total h (m.owns begin)) ∙ moved.owns h in
              plain_total h (m.owns t) ∙ arrives.owns h ∙ plain_total h (m.owns gives.state) ∙ before ∙ sym (plain_total h (m.owns s));
          denotes = sound.fewer w d there others t (subst (λ fs. m.denotes w d (fs ++ (there ++ others)) t) outs.1 outs.2);
        },
      )
