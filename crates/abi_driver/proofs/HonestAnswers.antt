-- An honest answer that passes as words: its words are of the result's core types, and its blocks may be taken over.
use Rattle.std.proofs.Common.{◌≡◌, ◌≤◌, ℕ, ◌+◌, ◌||◌, Bool, true, false, nat_eq, if◌then◌else◌, MatchBool, List, [], ◌∷◌, ◌++◌, Option, None, Some, refl, sym, ap, ◌∙◌, subst, arith}
use Rattle.std.specs.Prelude.{option_to_list}
use Rattle.wrapper_data.specs.Answered.{answered}
use Rattle.wrapper_data.specs.Heap.{is_heap}
use Rattle.wrapper_data.specs.declared.block.Block.{Block}
use Rattle.wrapper_data.specs.declared.heap.Heap.{Heap}
use Rattle.wrapper_data.specs.declared.word.Word.{Word}
use Rattle.wrapper_data.proofs.FormedHeaps.{formed, formed_answered, is_formed}
use Rattle.wrapper_meaning.specs.AsWords.{Says}
use Rattle.wrapper_meaning.specs.Direction.{take}
use Rattle.wrapper_meaning.specs.Honest.{AnswersInArea, AnswersInWord, are_new}
use Rattle.wrapper_meaning.specs.InRange.{IsListedResult}
use Rattle.wrapper_meaning.specs.Items.{AllIn, SameItems, total}
use Rattle.wrapper_meaning.specs.Represents.{ResultInArea, ResultInWord, TakesResult, is_indirect, result_words}
use Rattle.wrapper_meaning.specs.Shape.{Shape}
use Rattle.wrapper_meaning.specs.Value.{Result}
use Rattle.wrapper_meaning.proofs.HeapBlocks.{all_in_heap, at_address, at_most_one}
use Rattle.wrapper_meaning.proofs.NewBlocks.{new_blocks_behind}
use Rattle.abi_bindgen.specs.Account.{Account, Call, Reply, have_types, is_taken}
use Rattle.abi_driver.specs.Imports.{IsHonest, point_of}
use Rattle.abi_bindgen.specs.Lifts.{AreFree, MayTake}
use Rattle.abi_bindgen.proofs.Done.{is_it, same_is}
use Rattle.abi_bindgen.proofs.SaysTypes.{says_typed}
use Rattle.wrapper_meaning.proofs.PostReturn.{total-append}

-- 1. The words

-- the words are those of the result
abbrev pub AnswerSays : ℕ → (r : Option Shape) → Result r → List Word → List Block → Type 0
AnswerSays w None u ws own = (ws ≡ []) × (own ≡ [])
AnswerSays w (Some t) u ws own = Says w take t u ws own

pub answer_typed : (w : ℕ) (r : Option Shape) (u : Result r) (ws : List Word) (own : List Block) → IsListedResult r u → AnswerSays w r u ws own → have_types (result_words r) ws ≡ true
answer_typed w None u ws own good h = ap (have_types []) h.0
answer_typed w (Some t) u ws own good h = says_typed w take t u ws own good h

answer_says : (w : ℕ) (r : Option Shape) (u : Result r) (ws : List Word) (own area : List Block) → is_indirect r ≡ false → TakesResult w r u ws own area → AnswerSays w r u ws own
answer_says w None u ws own area one h = (h.0, h.1)
answer_says w (Some t) u ws own area one h = (subst (λ b. MatchBool b (ResultInArea w take t u ws own area) (ResultInWord w take t u ws own area)) one h).0

pub record InWords {V : Type 0} (w : ℕ) (r : Option Shape) (u : Result r) (reply : Reply V) (c : Call V) (honest : IsHonest w r u reply c) : Type 0 where
  pub says : AnswerSays w r u (option_to_list honest.result) honest.represents.blocks
  pub silent : honest.writes ≡ []

pub in_words : {V : Type 0} (w : ℕ) (r : Option Shape) (u : Result r) (reply : Reply V) (c : Call V) (honest : IsHonest w r u reply c) → is_indirect r ≡ false → InWords w r u reply c honest
in_words w r u reply c honest one =
    let rep = honest.represents in
    let placed : AnswersInWord w honest.result honest.writes rep.words =
    subst (λ b. MatchBool b (AnswersInArea w r honest.result honest.writes honest.new (point_of c) rep.words rep.area) (AnswersInWord w honest.result honest.writes rep.words)) one rep.placed in
    record {
      says = subst (λ ws. AnswerSays w r u ws rep.blocks) placed.0 (answer_says w r u rep.words rep.blocks rep.area one rep.takes);
      silent = placed.1;
    }

-- 2. The blocks

pub not_taken : (a : ℕ) (taken : List ℕ) → total (is_it a) taken ≡ 0 → is_taken a taken ≡ false
not_taken a [] h = refl
not_taken a (t ∷ taken) h = by (nat_eq t a) (not_taken a taken) h
  where
    by : (b : Bool) → (total (is_it a) taken ≡ 0 → is_taken a taken ≡ false) → (if b then 1 else 0) + total (is_it a) taken ≡ 0 → (b || is_taken a taken) ≡ false
    by true later e = absurd (omega (arith, e))
    by false later e = later (omega (arith, e))

-- blocks whose addresses are all different, and none of them taken, may be taken one after another
pub free_once : (own : List Block) (taken : List ℕ) → ((a : ℕ) → total (at_address a) own + total (is_it a) taken ≤ 1) → AreFree own taken
free_once [] taken h = tt
free_once (b ∷ own) taken h = (
  not_taken b.address taken (omega (arith, h b.address, same_is b.address)),
  free_once own (taken ++ b.address ∷ []) (λ a. omega (arith, h a, total-append (is_it a) taken (b.address ∷ []))),
)

-- where new blocks stand behind those of a well-formed heap, the same blocks in any order may be taken over
pub may_take_new : {V : Type 0} (heap : Heap) (new own : List Block) (acc : Account V) → is_heap heap ≡ true → are_new new heap ≡ true → SameItems new own → acc.heap ≡ answered new [] heap → acc.taken ≡ [] → MayTake own acc
may_take_new heap new own acc good fresh brings is none =
    let after : Heap = answered new [] heap in
    let behind : after.blocks ≡ heap.blocks ++ new = new_blocks_behind heap new fresh in
    let well = formed_answered heap new [] (formed heap good) in
    let all : SameItems after.blocks (own ++ heap.blocks) = λ g. ap (total g) behind ∙ omega (arith, total-append g heap.blocks new, total-append g own heap.blocks, brings g) in
    record {
      formed = ap is_heap is ∙ is_formed after well;
      there = subst (λ (h : Heap). AllIn h.blocks own) (sym is) (all_in_heap after.blocks own heap.blocks all);
      free = subst (AreFree own) (sym none)
          (free_once own [] (λ a. omega (arith, at_most_one after.blocks a well.each well.apart, all (at_address a), total-append (at_address a) own heap.blocks)));
    }
