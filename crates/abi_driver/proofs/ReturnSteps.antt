-- What a post-return function frees, and how its code ends.
use Rattle.std.proofs.Common.{◌≡◌, List, [], ◌∷◌, ◌++◌, Option, None, Some, refl, sym, ap, ◌∙◌, subst, arith}
use Rattle.wit_model.specs.declared.types.TypeDef.{TypeDef}
use Rattle.wrapper_data.specs.declared.block.Block.{Block}
use Rattle.wrapper_data.specs.declared.word.Word.TheVariants as core
use Rattle.wrapper_meaning.specs.Shape.{Shape}
use Rattle.abi_bindgen.specs.declared.instruction.Instruction.TheVariants.{GetArg, Return}
use Rattle.abi_bindgen.specs.Account.{Peer}
use Rattle.abi_bindgen.specs.Frees.{Frees, FreesInMemory, FreesResult, MayFree, PostReturns, by_freeing, nowhere}
use Rattle.abi_bindgen.specs.Instructions.{Emits}
use Rattle.abi_bindgen.specs.Laws.{Adds, At, Facts}
use Rattle.abi_bindgen.specs.Meaning.{Meaning, arg, of, word}
use Rattle.abi_bindgen.specs.Places.{HasRoom}
use Rattle.abi_bindgen.specs.Touches.{reached}
use Rattle.abi_bindgen.proofs.Runs.{adds_both}
use Rattle.wrapper_meaning.proofs.PostReturn.{total-append}

module _ {Self Operand : Type 0} (m : Meaning Self Operand) (types : List TypeDef) where
  pub argument_frees : (t : Shape) (a b c : Self) (o : Operand) → Emits m types (GetArg 0) [] (o ∷ []) a b → FreesInMemory m t o nowhere b c → FreesResult m (Some t) a c
  argument_frees t a b c o e later v own listed w f others s0 s q k blk at room holds may =
      let at1 : At m w f a b (arg 0 (word (core.Pointer q)) ∷ others) s0 s = record { serves = later.adds.grows.serves w at.serves; done = at.done; holds = at.holds } in
      let read = e.row (word (core.Pointer q)) w f others s0 s at1 in
      let s1 = read.0 in
      let after = read.2.2 in
      let at2 : At m w f b c (of o (word (core.Pointer q)) ∷ others) s0 s1 = record { serves = at.serves; done = read.1; holds = subst (λ fs. m.denotes w b (fs ++ others) s1) read.2.1 after.denotes } in
      let same : m.account s1 ≡ m.account s = after.account in
      let done = later.row v own listed w f others s0 s1 q k blk at2 (subst (λ acc. HasRoom m.width t (reached m q nowhere) blk k acc.heap) (sym same) room) holds (subst (MayFree own blk) (sym same) may) in
      let end = done.2 in (
        done.0,
        done.1,
        record {
          account = end.account ∙ ap (λ acc. (by_freeing own acc).account) same;
          owns = λ g. omega (arith, after.owns g, end.owns g, total-append g (m.owns s1) [], total-append g (m.owns s) [], total-append g (m.owns done.0) []);
          denotes = end.denotes;
        },
      )

  -- the end of the code changes nothing
  ends_freed : (own : List Block) (a b c : Self) (rs : List Operand) (w : m.World) (f : Peer m.Item) (others : Facts m) (s0 s : m.State) → Emits m types (Return 0) [] rs b c → m.serves w c → Frees m own b w f others s0 s → Frees m own c w f others s0 s
  ends_freed own a b c rs w f others s0 s e serves freed =
      let first = freed.2 in
      let at : At m w f b c others s0 freed.0 = record { serves = serves; done = freed.1; holds = first.denotes } in
      let ended = e.row [] w f others s0 freed.0 at in
      let after = ended.2.2 in (
        ended.0,
        ended.1,
        record {
          account = after.account ∙ first.account;
          owns = λ g. omega (arith, first.owns g, after.owns g, total-append g (m.owns freed.0) [], total-append g (m.owns s) [], total-append g (m.owns ended.0) []);
          denotes = subst (λ fs. m.denotes w c (fs ++ others) ended.0) ended.2.1 after.denotes;
        },
      )

  pub nothing_frees : (a : Self) → FreesResult m None a a
  nothing_frees a w f others s0 s at = (s, at.done, record { account = refl; owns = λ g. refl; denotes = at.holds })

  then_ends : (r : Option Shape) (a b c : Self) (rs : List Operand) → FreesResult m r a b → Emits m types (Return 0) [] rs b c → FreesResult m r a c
  then_ends None a b c rs freed e = λ w f others s0 s at.
      let at1 : At m w f a b others s0 s = record { serves = e.adds.grows.serves w at.serves; done = at.done; holds = at.holds } in
      ends_freed [] a b c rs w f others s0 s e at.serves (freed w f others s0 s at1)
  then_ends (Some t) a b c rs freed e = λ v own listed w f others s0 s q k blk at room holds may.
      let at1 : At m w f a b (arg 0 (word (core.Pointer q)) ∷ others) s0 s = record { serves = e.adds.grows.serves w at.serves; done = at.done; holds = at.holds } in
      ends_freed own a b c rs w f others s0 s e at.serves (freed v own listed w f others s0 s q k blk at1 room holds may)

  pub post_returns : (r : Option Shape) (a b c : Self) (os rs : List Operand) → Adds m a b → FreesResult m r a b → os ≡ [] → Emits m types (Return 0) os rs b c → PostReturns m r a c
  post_returns r a b c os rs adds freed none e =
      let e0 : Emits m types (Return 0) [] rs b c = subst (λ xs. Emits m types (Return 0) xs rs b c) none e in
      record { adds = adds_both m a b c adds e0.adds; frees = then_ends r a b c rs freed e0; returned = e0.returned }
