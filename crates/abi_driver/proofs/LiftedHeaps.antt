-- What may be lifted still, when blocks were freed and others taken over.
use Rattle.std.proofs.Common.{◌≡◌, ◌+◌, ◌∙◌, ℕ, zero, suc, Bool, true, false, nat_eq, List, [], ◌∷◌, ◌++◌, Contains, ap, ap₂, drop, length, refl, subst, sym, arith, append_assoc, append-nil, length-append, eqb-true}
use Rattle.std.specs.List.{AllByRecursion}
use Rattle.std.proofs.lemmas.Bool.{or_parts, true≢false}
use Rattle.std.proofs.lemmas.List.{drop-drop}
use Rattle.std.proofs.lemmas.List.Folds.{list_any-append}
use Rattle.std.specs.Prelude.{if◌then◌else◌}
use Rattle.wrapper_data.specs.Heap.{is_heap}
use Rattle.wrapper_data.specs.declared.block.Block.{Block}
use Rattle.wrapper_data.specs.declared.choice.Request.{Request}
use Rattle.wrapper_meaning.specs.Items.{AllIn, SameItems, total}
use Rattle.wrapper_meaning.proofs.PostReturn.{total-append}
use Rattle.abi_bindgen.specs.Account.{Account, addresses, is_taken}
use Rattle.abi_bindgen.specs.Early.{HasAsked}
use Rattle.abi_bindgen.specs.Frees.{MayFree}
use Rattle.abi_bindgen.specs.Lifting.{LiftedBy, by_lifting}
use Rattle.abi_bindgen.specs.Lifts.{AreFree, MayTake, took}
use Rattle.abi_bindgen.specs.Memory.{without_blocks}
use Rattle.abi_bindgen.proofs.AllLemmas.{all_left, all_right}
use Rattle.abi_bindgen.proofs.Done.{is_it, is_there, same_is}
use Rattle.abi_bindgen.proofs.PassSteps.{none_behind, none_front}
use Rattle.abi_bindgen.proofs.Runs.{addresses_both}
use Rattle.abi_bindgen.proofs.Taken.{last_taken}
use Rattle.abi_driver.proofs.Freeing.{IsFewer, away_from, free_fewer, without_both, without_formed, without_there}
use Rattle.abi_driver.proofs.HonestAnswers.{not_taken}
use Rattle.abi_driver.proofs.TakingOver.{may_rest}

-- 1. Which addresses have owners

pub none_there : (a : ℕ) (taken : List ℕ) → is_taken a taken ≡ false → total (is_it a) taken ≡ 0
none_there a taken h = go (total (is_it a) taken) refl
  where
    go : (n : ℕ) → total (is_it a) taken ≡ n → n ≡ 0
    go zero e = refl
    go (suc n) e = absurd (true≢false (sym (is_there a taken (omega (arith, e))) ∙ h))

-- weighed by their addresses
weighs : (g : ℕ → ℕ) (blocks : List Block) → total (λ b. g b.address) blocks ≡ total g (addresses blocks)
weighs g [] = refl
weighs g (b ∷ blocks) = ap (λ n. g b.address + n) (weighs g blocks)

parted : (g : ℕ → ℕ) (blocks own gone : List Block) → SameItems blocks (own ++ gone) → total g (addresses blocks) ≡ total g (addresses own) + total g (addresses gone)
parted g blocks own gone h =
    sym (weighs g blocks) ∙ h (λ b. g b.address) ∙ total-append (λ b. g b.address) own gone ∙ ap₂ (λ x y. x + y) (weighs g own) (weighs g gone)

away_gone : (gone : List Block) (a : ℕ) → total (is_it a) (addresses gone) ≡ 0 → AllByRecursion (λ c. c.address ≡ a → ⊥) gone
away_gone [] a h = tt
away_gone (c ∷ gone) a h =
    ((λ e. let one = same_is a in let is : is_it a c.address ≡ is_it a a = ap (is_it a) e in absurd (omega (arith, h, one, is))), away_gone gone a (omega (arith, h)))

all_away : (blocks : List Block) (a : ℕ) → AllByRecursion (λ c. c.address ≡ a → ⊥) blocks → total (is_it a) (addresses blocks) ≡ 0
all_away [] a h = refl
all_away (c ∷ blocks) a h = let one = hit (nat_eq c.address a) refl in let rest = all_away blocks a h.1 in omega (arith, one, rest)
  where
    hit : (b : Bool) → nat_eq c.address a ≡ b → (let n : ℕ = if b then 1 else 0 in n ≡ 0)
    hit false e = refl
    hit true e = absurd (h.0 (eqb-true c.address a e))

-- 2. What stays

stay : (gone heap rest : List Block) (taken : List ℕ) → ((a : ℕ) → is_taken a taken ≡ false → AllByRecursion (λ c. c.address ≡ a → ⊥) gone) → AllIn heap rest → AreFree rest taken → AllIn (without_blocks gone heap) rest
stay gone heap [] taken away there free = tt
stay gone heap (c ∷ rest) taken away there free = (
  without_there gone heap c (away c.address free.0) there.0,
  stay gone heap rest (taken ++ c.address ∷ []) (λ a e. away a (or_parts (is_taken a taken) (is_taken a (c.address ∷ [])) (sym (list_any-append (λ t. nat_eq t a) taken (c.address ∷ [])) ∙ e)).0) there.1 free.1,
)

module _ {V : Type 0} (blocks own gone : List Block) (due : List Request) (acc : Account V) (split : SameItems blocks (own ++ gone)) where
  abbrev behind : Account V
  behind = by_lifting gone own due acc

  -- whoever is in nobody's hands when all of them are, is when some are
  fewer_owners : IsFewer (acc.taken ++ addresses blocks) (acc.taken ++ addresses own)
  fewer_owners a e =
      let all = none_there a (acc.taken ++ addresses blocks) e in
      not_taken a (acc.taken ++ addresses own) (omega (arith, all, parted (is_it a) blocks own gone split, total-append (is_it a) acc.taken (addresses blocks), total-append (is_it a) acc.taken (addresses own)))

  gone_away : (a : ℕ) → is_taken a (acc.taken ++ addresses blocks) ≡ false → AllByRecursion (λ c. c.address ≡ a → ⊥) gone
  gone_away a e =
      let all = none_there a (acc.taken ++ addresses blocks) e in
      away_gone gone a (omega (arith, all, parted (is_it a) blocks own gone split, total-append (is_it a) acc.taken (addresses blocks)))

  -- the blocks behind them may be taken then
  pub may_behind : (rest : List Block) → MayTake (blocks ++ rest) acc → MayTake rest behind
  may_behind rest may =
      let later = may_rest blocks rest acc may in record {
        formed = without_formed gone acc.heap.blocks may.formed;
        there = stay gone acc.heap.blocks rest (acc.taken ++ addresses blocks) gone_away later.there later.free;
        free = free_fewer rest (acc.taken ++ addresses blocks) (acc.taken ++ addresses own) fewer_owners later.free;
      }

  -- a block that is none of them stays, and nobody owns it if nobody did
  pub stays : (b : Block) → AllByRecursion (λ c. c.address ≡ b.address → ⊥) blocks → Contains acc.heap.blocks b → Contains (without_blocks gone acc.heap.blocks) b
  stays b others there =
      let none = all_away blocks b.address others in
      without_there gone acc.heap.blocks b (away_gone gone b.address (omega (arith, none, parted (is_it b.address) blocks own gone split))) there

  pub unowned : (b : Block) → AllByRecursion (λ c. c.address ≡ b.address → ⊥) blocks → is_taken b.address acc.taken ≡ false → is_taken b.address (acc.taken ++ addresses own) ≡ false
  unowned b others free =
      let none = all_away blocks b.address others in
      not_taken b.address (acc.taken ++ addresses own)
      (omega (arith, none, none_there b.address acc.taken free, parted (is_it b.address) blocks own gone split, total-append (is_it b.address) acc.taken (addresses own)))

-- what was lifted twice
pub lifted_both : {V : Type 0} (gone1 own1 gone2 own2 : List Block) (due1 due2 : List Request) (acc : Account V) → by_lifting gone2 own2 due2 (by_lifting gone1 own1 due1 acc) ≡ by_lifting (gone1 ++ gone2) (own1 ++ own2) (due1 ++ due2) acc
lifted_both gone1 own1 gone2 own2 due1 due2 acc =
    ap (λ bs. record acc { heap = record { blocks = bs }; choices = drop (length due2) (drop (length due1) acc.choices); requests = (acc.requests ++ due1) ++ due2; taken = (acc.taken ++ addresses own1) ++ addresses own2 }) (sym (without_both gone1 gone2 acc.heap.blocks))
    ∙ ap (λ cs. record acc { heap = record { blocks = without_blocks (gone1 ++ gone2) acc.heap.blocks }; choices = cs; requests = (acc.requests ++ due1) ++ due2; taken = (acc.taken ++ addresses own1) ++ addresses own2 })
    (drop-drop (length due2) (length due1) acc.choices ∙ ap (λ n. drop n acc.choices) (sym (length-append due1 due2)))
    ∙ ap₂ (λ rs ts. record acc { heap = record { blocks = without_blocks (gone1 ++ gone2) acc.heap.blocks }; choices = drop (length (due1 ++ due2)) acc.choices; requests = rs; taken = ts })
    (append_assoc acc.requests due1 due2) (append_assoc acc.taken (addresses own1) (addresses own2) ∙ ap (λ xs. acc.taken ++ xs) (sym (addresses_both own1 own2)))

pub lifted_none : {V : Type 0} (acc : Account V) → acc ≡ by_lifting [] [] [] acc
lifted_none acc = ap₂ (λ rs ts. record acc { requests = rs; taken = ts }) (sym (append-nil acc.requests)) (sym (append-nil acc.taken))

-- 3. Accounts

pub asked_by_lifting : {V : Type 0} (gone own : List Block) (due : List Request) (a b : Account V) → b ≡ by_lifting gone own due a → HasAsked due a b
asked_by_lifting gone own due a b e = record { requests = ap (λ x. x.requests) e; choices = ap (λ x. x.choices) e; calls = ap (λ x. x.calls) e }

-- blocks were taken over, and nothing was asked for
pub nothing_gone : {V : Type 0} (own : List Block) (acc : Account V) → took own acc ≡ by_lifting [] own [] acc
nothing_gone own acc = ap (λ rs. record (took own acc) { requests = rs }) (sym (append-nil acc.requests))

pub plainly_lifted : {V : Type 0} (own : List Block) (a b : Account V) → is_heap a.heap ≡ true → b ≡ took own a → LiftedBy own own [] a b
plainly_lifted own a b formed e = record {
  gone = [];
  split = λ g. sym (ap (total g) (append-nil own));
  same = λ none. refl;
  each = refl;
  account = e ∙ nothing_gone own a;
  formed = ap (λ x. is_heap x.heap) e ∙ formed;
}

-- where nothing was due, no block is gone
pub lifted_plainly : {V : Type 0} (blocks own : List Block) (due : List Request) (a b : Account V) → due ≡ [] → LiftedBy blocks own due a b → (own ≡ blocks) × (b ≡ took blocks a)
lifted_plainly blocks own due a b none h =
    let gone : h.gone ≡ [] = no_items h.gone (h.each ∙ ap length none) in
    let is : own ≡ blocks = sym (h.same gone) in
    (is, h.account ∙ ap (λ bs. by_lifting bs own due a) gone ∙ ap (λ rs. by_lifting [] own rs a) none ∙ ap (λ bs. by_lifting [] bs [] a) is ∙ sym (nothing_gone blocks a))
  where
    no_items : {A : Type 0} (xs : List A) → length xs ≡ 0 → xs ≡ []
    no_items [] e = refl
    no_items (x ∷ xs) e = absurd (omega (arith, e))

-- what was lifted, and then what else was
pub lifted_and : {V : Type 0} (one two own1 own2 : List Block) (due later : List Request) (a b c : Account V) → LiftedBy one own1 due a b → LiftedBy two own2 later b c → LiftedBy (one ++ two) (own1 ++ own2) (due ++ later) a c
lifted_and one two own1 own2 due later a b c h k = record {
  gone = h.gone ++ k.gone;
  split = λ g. omega (arith, h.split g, k.split g, total-append g one two, total-append g own1 h.gone, total-append g own2 k.gone, total-append g (own1 ++ own2) (h.gone ++ k.gone), total-append g own1 own2, total-append g h.gone k.gone);
  same = λ none. ap₂ (λ xs ys. xs ++ ys) (h.same (none_front h.gone k.gone none)) (k.same (none_behind h.gone k.gone none));
  each = length-append h.gone k.gone ∙ ap₂ (λ x y. x + y) h.each k.each ∙ sym (length-append due later);
  account = k.account ∙ ap (by_lifting k.gone own2 later) h.account ∙ lifted_both h.gone own1 k.gone own2 due later a;
  formed = k.formed;
}

-- what may be lifted then
pub may_later : {V : Type 0} (one two own : List Block) (due : List Request) (a b : Account V) → LiftedBy one own due a b → MayTake (one ++ two) a → MayTake two b
may_later one two own due a b h may = subst (MayTake two) (sym h.account) (may_behind one own h.gone due a h.split two may)

pub may_free_later : {V : Type 0} (one two own : List Block) (due : List Request) (blk : Block) (a b : Account V) → LiftedBy one own due a b → MayFree (one ++ two) blk a → MayFree two blk b
may_free_later one two own due blk a b h may = record { may = may_later one two own due a b h may.may; others = all_right (λ (c : Block). c.address ≡ blk.address → ⊥) one two may.others }

-- the block in which they were named stays
pub stays_later : {V : Type 0} (one two own : List Block) (due : List Request) (blk : Block) (a b : Account V) → LiftedBy one own due a b → MayFree (one ++ two) blk a → Contains a.heap.blocks blk → Contains b.heap.blocks blk
stays_later one two own due blk a b h may there =
    subst (λ x. Contains x.heap.blocks blk) (sym h.account) (stays one own h.gone due a h.split blk (all_left (λ (c : Block). c.address ≡ blk.address → ⊥) one two may.others) there)

-- the inner blocks of one
pub may_inner : {V : Type 0} (b : Block) (inner : List Block) (acc : Account V) → MayTake (b ∷ inner) acc → MayFree inner b acc
may_inner b inner acc may =
    let here : List ℕ = b.address ∷ [] in
    let fewer : IsFewer (acc.taken ++ here) acc.taken = λ a e. (or_parts (is_taken a acc.taken) (is_taken a here) (sym (list_any-append (λ t. nat_eq t a) acc.taken here) ∙ e)).0 in
    record {
      may = record { formed = may.formed; there = may.there.1; free = free_fewer inner (acc.taken ++ here) acc.taken fewer may.free.1 };
      others = away_from inner b.address (acc.taken ++ here) (last_taken b.address acc.taken) may.free.1;
    }
