-- How code that puts values into memory composes, where it may end early at a request that is due.
use Rattle.std.proofs.Common.{◌≡◌, ℕ, ◌+◌, Bool, true, List, [], ◌∷◌, ◌++◌, Contains, drop, length, refl, sym, ap, ◌∙◌, subst, arith, append_assoc, append-nil, length-append}
use Rattle.std.specs.List.{AllByRecursion}
use Rattle.std.proofs.lemmas.List.{drop-drop}
use Rattle.wrapper_data.specs.Heap.{is_heap}
use Rattle.wrapper_data.specs.declared.block.Block.{Block}
use Rattle.wrapper_data.specs.declared.choice.Request.{Request}
use Rattle.wrapper_meaning.specs.Buffer.{Contents}
use Rattle.wrapper_meaning.specs.Items.{SameItems, total}
use Rattle.wrapper_meaning.proofs.PostReturn.{total-append}
use Rattle.abi_bindgen.specs.Account.{Account, Done, Got, Peer, addresses}
use Rattle.abi_bindgen.specs.Early.{Comes, HasAsked}
use Rattle.abi_bindgen.specs.Laws.{After, Facts}
use Rattle.abi_bindgen.specs.Lowering.{taken_with, kept_with}
use Rattle.abi_bindgen.specs.Meaning.{Meaning}
use Rattle.abi_bindgen.specs.Places.{IsWritten, replaced}
use Rattle.abi_bindgen.proofs.EarlyLemmas.{comes_more, comes_none}
use Rattle.abi_bindgen.proofs.LoweredPlainly.{nothing_for}
use Rattle.abi_bindgen.proofs.PassSteps.{guards_both, none_kept, none_taken, put_same}
use Rattle.abi_driver.specs.Stores.{Put, PutBy, Puts, Stored, by_putting}
use Rattle.abi_driver.proofs.Replaced.{Split, elsewhere, replaced_formed, replaced_split, replaced_there, replaced_twice, there_again}

-- 1. Accounts

-- a block was written, owners were let go, and nothing was asked for
abbrev pub by_storing : {V : Type 0} → Block → List ℕ → Account V → Got V (Unit {0})
by_storing after left acc = record { result = tt; account = record acc { heap = record { blocks = replaced after acc.heap.blocks }; taken = left } }

pub nothing_put : {V : Type 0} (realloc : Bool) (after : Block) (left : List ℕ) (acc : Account V) → (by_storing after left acc).account ≡ by_putting realloc after [] left [] acc
nothing_put realloc after left acc =
    put_same acc (replaced after acc.heap.blocks) (replaced after acc.heap.blocks ++ []) acc.choices acc.choices acc.requests (acc.requests ++ []) left (taken_with realloc [] left) acc.guarded (kept_with realloc [] acc.guarded)
    (sym (append-nil (replaced after acc.heap.blocks))) refl (sym (append-nil acc.requests)) (none_taken realloc left) (none_kept realloc acc.guarded)

pub asked_by_putting : {V : Type 0} (realloc : Bool) (after : Block) (made : List Block) (left : List ℕ) (due : List Request) (a b : Account V) → b ≡ by_putting realloc after made left due a → HasAsked due a b
asked_by_putting realloc after made left due a b e = record { requests = ap (λ x. x.requests) e; choices = ap (λ x. x.choices) e; calls = ap (λ x. x.calls) e }

-- a block of a heap is written twice, and behind the heap blocks were added in between
twice_written : (blocks : List Block) (b mid last : Block) (made : List Block) → Split blocks b → mid.address ≡ b.address → last.address ≡ mid.address → replaced last (replaced mid blocks ++ made) ≡ replaced last blocks ++ made
twice_written blocks b mid last made s one two =
    let away = elsewhere b s.before s.formed s.away in
    let away_mid : AllByRecursion (λ c. c.address ≡ mid.address → ⊥) s.before = subst (λ a. AllByRecursion (λ c. c.address ≡ a → ⊥) s.before) (sym one) away in
    ap (λ bs. replaced last (bs ++ made)) (replaced_there mid b blocks s one)
    ∙ replaced_split last mid s.before (s.behind ++ made) ((s.before ++ mid ∷ s.behind) ++ made) (append_assoc s.before (mid ∷ s.behind) made) two away_mid
    ∙ sym (append_assoc s.before (last ∷ s.behind) made) ∙ ap (λ bs. bs ++ made) (sym (replaced_there last b blocks s (two ∙ one)))

pub there_behind : (blocks : List Block) (b mid : Block) (made : List Block) → Split blocks b → mid.address ≡ b.address → Contains (replaced mid blocks ++ made) mid
there_behind blocks b mid made s one =
    subst (λ bs. Contains bs mid) (sym (ap (λ bs. bs ++ made) (replaced_there mid b blocks s one) ∙ append_assoc s.before (mid ∷ s.behind) made)) (there_again s.before (s.behind ++ made) mid)

pub putting_both : {V : Type 0} (realloc : Bool) (b mid last : Block) (one two : List Block) (first next left : List ℕ) (due later : List Request) (a x y : Account V) → Split a.heap.blocks b → mid.address ≡ b.address → last.address ≡ mid.address
    → x ≡ by_putting realloc mid one first due a → y ≡ by_putting realloc last two next later x → ((more : List Block) → taken_with realloc more next ≡ taken_with realloc (one ++ more) left) → y ≡ by_putting realloc last (one ++ two) left (due ++ later) a
putting_both realloc b mid last one two first next left due later a x y s same again ex ey owners =
    ey ∙ ap (by_putting realloc last two next later) ex
    ∙ put_same a (replaced last (replaced mid a.heap.blocks ++ one) ++ two) (replaced last a.heap.blocks ++ (one ++ two)) (drop (length later) (drop (length due) a.choices)) (drop (length (due ++ later)) a.choices) ((a.requests ++ due) ++ later) (a.requests ++ (due ++ later))
    (taken_with realloc two next) (taken_with realloc (one ++ two) left) (kept_with realloc two (kept_with realloc one a.guarded)) (kept_with realloc (one ++ two) a.guarded)
    (ap (λ bs. bs ++ two) (twice_written a.heap.blocks b mid last one s same again) ∙ append_assoc (replaced last a.heap.blocks) one two)
    (drop-drop (length later) (length due) a.choices ∙ ap (λ n. drop n a.choices) (sym (length-append due later))) (append_assoc a.requests due later) (owners two) (guards_both realloc one two a.guarded)

-- a block was written before
pub putting_again : {V : Type 0} (realloc : Bool) (mid last : Block) (made : List Block) (left : List ℕ) (due : List Request) (a x y : Account V) → last.address ≡ mid.address → x ≡ record a { heap = record { blocks = replaced mid a.heap.blocks } }
    → y ≡ by_putting realloc last made left due x → y ≡ by_putting realloc last made left due a
putting_again realloc mid last made left due a x y same ex ey =
    ey ∙ ap (by_putting realloc last made left due) ex ∙ ap (λ (bs : List Block). record (by_putting realloc last made left due a) { heap = record { blocks = bs ++ made } }) (replaced_twice mid last a.heap.blocks (sym same))

-- no block was made
pub put_plainly : {V : Type 0} (realloc : Bool) (Held : Contents) (from size : ℕ) (b : Block) (k : ℕ) (own : List Block) (left : List ℕ) (due : List Request) (x y : Account V) → due ≡ [] → PutBy realloc Held from size b k own left due x y
    → (after : Block) × Stored Held from size b k own after × (y ≡ (by_storing after left x).account)
put_plainly realloc Held from size b k own left due x y none h =
    let unmade : h.made ≡ [] = nothing_for (λ (z : Block). z.size) (λ (r : Request). r.size) h.made due none h.each in (
      h.block,
      subst (λ bs. Stored Held from size b k bs h.block) (h.same unmade) h.stored,
      h.account ∙ ap (λ bs. by_putting realloc h.block bs left due x) unmade ∙ ap (λ rs. by_putting realloc h.block [] left rs x) none ∙ sym (nothing_put realloc h.block left x),
    )

-- the same block holds something else too, and fewer bytes of it were written than may be
pub put_as : {V : Type 0} (realloc : Bool) (One Two : Contents) (from size more_from more_size : ℕ) (b : Block) (k j : ℕ) (own : List Block) (left : List ℕ) (due : List Request) (x y : Account V)
    → ((after : Block) → IsWritten from size b after → IsWritten more_from more_size b after) → ((after : Block) (blocks : List Block) → IsWritten from size b after → One after k blocks → Two after j blocks)
    → PutBy realloc One from size b k own left due x y → PutBy realloc Two more_from more_size b j own left due x y
put_as realloc One Two from size more_from more_size b k j own left due x y wider holds h = record {
  block = h.block;
  made = h.made;
  blocks = h.blocks;
  stored = record { written = wider h.block h.stored.written; holds = holds h.block h.blocks h.stored.written h.stored.holds };
  split = h.split;
  same = h.same;
  each = h.each;
  account = h.account;
  formed = h.formed;
}

-- 2. Code

module _ {Self Operand : Type 0} (m : Meaning Self Operand) (realloc : Bool) where
  -- it is done, and nothing was asked for
  abbrev pub PutsPlainly : (Held : Contents) → (from size : ℕ) → (b : Block) → (k : ℕ) → (own : List Block) → (left : List ℕ) → (new : Self) → m.World → Peer m.Item → Facts m → (s0 s : m.State) → Type 0
  PutsPlainly Held from size b k own left new w f others s0 s =
      (s1 : m.State) × (after : Block) × (m.does w f (m.code new) s0 ≡ Done s1) × Stored Held from size b k own after
      × After m w new others [] (addresses own) s (by_storing after left (m.account s)) s1

  module _ (Held : Contents) (from size : ℕ) (b : Block) (k : ℕ) (own : List Block) (left : List ℕ) (new : Self) (w : m.World) (f : Peer m.Item) (others : Facts m) (s0 : m.State) where
    pub puts_plainly : (s : m.State) → is_heap (m.account s).heap ≡ true → Contains (m.account s).heap.blocks b → PutsPlainly Held from size b k own left new w f others s0 s → Puts m realloc Held from size b k own left [] new w f others s0 s
    puts_plainly s formed there h =
        let acc = m.account s in
        let after = h.4 in
        let good = replaced_formed acc.heap.blocks b h.1 from size formed there h.3.written in
        subst (λ o. Comes true [] acc o (Put m realloc Held from size b k own left [] w new others s)) (sym h.2) (record {
          puts = record { block = h.1; made = []; blocks = own; stored = h.3; split = λ g. refl; same = λ e. refl; each = refl; account = after.account ∙ nothing_put realloc h.1 left acc; formed = ap (λ (z : Account m.Item). is_heap z.heap) after.account ∙ good.0 };
          owns = λ g. after.owns g ∙ ap (total g) (append-nil (m.owns s));
          denotes = after.denotes;
        })

    -- what asks for nothing is stored without an early end
    pub done_plainly : (s : m.State) (due : List Request) → due ≡ [] → Puts m realloc Held from size b k own left due new w f others s0 s → PutsPlainly Held from size b k own left new w f others s0 s
    done_plainly s due none h =
        let r = comes_none true due (m.account s) (m.does w f (m.code new) s0) (Put m realloc Held from size b k own left due w new others s) none h in
        let put = r.2 in
        let plain = put_plainly realloc Held from size b k own left due (m.account s) (m.account r.0) none put.puts in
        (r.0, plain.0, r.1, plain.1, record { account = plain.2; owns = λ g. put.owns g ∙ ap (total g) (sym (append-nil (m.owns s))); denotes = put.denotes })

    -- code that changes nothing but what operands denote, before it
    pub stays_puts : (s t : m.State) (due : List Request) → m.account t ≡ m.account s → SameItems (m.owns t ++ []) (m.owns s ++ []) → Puts m realloc Held from size b k own left due new w f others s0 t → Puts m realloc Held from size b k own left due new w f others s0 s
    stays_puts s t due same owns h =
        let Behind : m.State → Type 0 = Put m realloc Held from size b k own left due w new others t in
        comes_more true due (m.account s) (m.does w f (m.code new) s0) Behind (Put m realloc Held from size b k own left due w new others s)
        (subst (λ z. Comes true due z (m.does w f (m.code new) s0) Behind) same h)
        (λ u d put. record {
          puts = subst (λ z. PutBy realloc Held from size b k own left due z (m.account u)) same put.puts;
          owns = λ g. omega (arith, put.owns g, owns g, total-append g (m.owns t) [], total-append g (m.owns s) []);
          denotes = put.denotes;
        })

    pub puts_as : (Two : Contents) (more_from more_size j : ℕ) (s : m.State) (due : List Request) → ((after : Block) → IsWritten from size b after → IsWritten more_from more_size b after)
        → ((after : Block) (blocks : List Block) → IsWritten from size b after → Held after k blocks → Two after j blocks) → Puts m realloc Held from size b k own left due new w f others s0 s → Puts m realloc Two more_from more_size b j own left due new w f others s0 s
    puts_as Two more_from more_size j s due wider holds h =
        comes_more true due (m.account s) (m.does w f (m.code new) s0) (Put m realloc Held from size b k own left due w new others s) (Put m realloc Two more_from more_size b j own left due w new others s) h
        (λ u d put. record { puts = put_as realloc Held Two from size more_from more_size b k j own left due (m.account s) (m.account u) wider holds put.puts; owns = put.owns; denotes = put.denotes })
