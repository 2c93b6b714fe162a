-- What asks for nothing is lowered without an early end.
use Rattle.std.proofs.Common.{◌≡◌, ℕ, Bool, true, List, [], ◌∷◌, ◌++◌, length, map, refl, sym, ap, ◌∙◌, subst, append-nil}
use Rattle.wrapper_data.specs.Heap.{is_heap}
use Rattle.wrapper_data.specs.declared.block.Block.{Block}
use Rattle.wrapper_data.specs.declared.choice.Request.{Request}
use Rattle.wrapper_data.specs.declared.word.Word.{Word}
use Rattle.wrapper_meaning.specs.AsWords.{Saying}
use Rattle.wrapper_meaning.specs.Items.{total}
use Rattle.abi_bindgen.specs.Account.{Account, Done, Peer, addresses}
use Rattle.abi_bindgen.specs.Laws.{After, At, Facts, core_data, ofs}
use Rattle.abi_bindgen.specs.Lowering.{Lowered, LoweredBy, Passes, Releases, by_lowering}
use Rattle.abi_bindgen.specs.Meaning.{Meaning}
use Rattle.abi_bindgen.proofs.EarlyLemmas.{comes_none}
use Rattle.abi_bindgen.proofs.PassSteps.{nothing_made}

pub nothing_for : {A B : Type 0} (f : A → ℕ) (g : B → ℕ) (xs : List A) (ys : List B) → ys ≡ [] → map f xs ≡ map g ys → xs ≡ []
nothing_for f g [] ys none e = refl
nothing_for f g (x ∷ xs) ys none e = let h : f x ∷ map f xs ≡ [] = e ∙ ap (map g) none in cc

-- no block was made, and owners were let go
pub lowered_plainly : {V : Type 0} (realloc : Bool) (Say : Saying) (own : List Block) (left : List ℕ) (due : List Request) (ws : List Word) (a b : Account V) → due ≡ [] → LoweredBy realloc Say own left due ws a b
    → Say ws own × (b ≡ record a { taken = left })
lowered_plainly realloc Say own left due ws a b none h =
    let unmade : h.made ≡ [] = nothing_for (λ (x : Block). x.size) (λ (r : Request). r.size) h.made due none h.each in
    (subst (Say ws) (h.same unmade) h.says, h.account ∙ ap (λ bs. by_lowering realloc bs left due a) unmade ∙ ap (λ rs. by_lowering realloc [] left rs a) none ∙ sym (nothing_made realloc left a))

module _ {Self Operand : Type 0} (m : Meaning Self Operand) where
  -- words that say something, in a state in which owners were let go and nothing else was done
  pub record PassedPlainly (Say : Saying) (own : List Block) (left : List ℕ) (os : List Operand) (w : m.World) (p : Peer m.Item) (new : Self) (others : Facts m) (s0 s : m.State) : Type 0 where
    pub state : m.State
    pub done : m.does w p (m.code new) s0 ≡ Done state
    pub ws : List Word
    pub fits : length ws ≡ length os
    pub says : Say ws own
    pub after : After m w new (ofs m os (core_data m ws) ++ others) [] (addresses own) s (record { result = tt {0}; account = record (m.account s) { taken = left } }) state

  pub passed_plainly : (realloc : Bool) (Say : Saying) (ins : Facts m) (own : List Block) (due : List Request) (os : List Operand) (a b : Self) → due ≡ [] → Passes m realloc Say ins own due os a b
      → (w : m.World) (p : Peer m.Item) (others : Facts m) (s0 s : m.State) (left : List ℕ) → At m w p a b (ins ++ others) s0 s → is_heap (m.account s).heap ≡ true → Releases (addresses own) (m.account s).taken left
      → PassedPlainly Say own left os w p b others s0 s
  passed_plainly realloc Say ins own due os a b none passes w p others s0 s left at formed goes =
      let r = comes_none true due (m.account s) (m.does w p (m.code b) s0) (Lowered m realloc Say own left due os w b others s) none (passes w p others s0 s left at formed goes) in
      let h = r.2 in
      let plain = lowered_plainly realloc Say own left due h.ws (m.account s) (m.account r.0) none h.lowered in
      record { state = r.0; done = r.1; ws = h.ws; fits = h.fits; says = plain.0; after = record { account = plain.1; owns = λ g. h.owns g ∙ ap (total g) (sym (append-nil (m.owns s))); denotes = h.denotes } }
