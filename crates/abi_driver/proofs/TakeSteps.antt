-- How code that lifts values composes, where it may end early at a request that is due.
use Rattle.std.proofs.Common.{◌≡◌, ◌∙◌, true, false, List, [], ◌++◌, ap, arith, append-nil, subst, sym}
use Rattle.wrapper_data.specs.Heap.{is_heap}
use Rattle.wrapper_data.specs.declared.block.Block.{Block}
use Rattle.wrapper_data.specs.declared.choice.Request.{Request}
use Rattle.wrapper_meaning.specs.Items.{SameItems, total}
use Rattle.wrapper_meaning.proofs.PostReturn.{total-append}
use Rattle.abi_bindgen.specs.Account.{Done, Peer, Stops, addresses}
use Rattle.abi_bindgen.specs.Early.{Comes, HasAsked}
use Rattle.abi_bindgen.specs.Laws.{After, Facts, item_data, ofs}
use Rattle.abi_bindgen.specs.Lifting.{Gets, Lifted, LiftedBy}
use Rattle.abi_bindgen.specs.Lifts.{by_taking}
use Rattle.abi_bindgen.specs.Meaning.{Meaning}
use Rattle.abi_bindgen.proofs.EarlyLemmas.{comes_more, comes_none, comes_on}
use Rattle.abi_driver.proofs.LiftedHeaps.{asked_by_lifting, lifted_plainly, plainly_lifted}

module _ {Self Operand : Type 0} (m : Meaning Self Operand) where
  -- it is done, nothing was asked for, and all blocks are the items' own
  abbrev pub GetsPlainly : (Stands : List m.Item → List Block → Type 0) → (own : List Block) → (rs : List Operand) → (new : Self) → m.World → Peer m.Item → Facts m → (s0 s : m.State) → Type 0
  GetsPlainly Stands own rs new w f others s0 s =
      (s1 : m.State) × (vals : List m.Item) × (m.does w f (m.code new) s0 ≡ Done s1) × Stands vals own
      × After m w new (ofs m rs (item_data m vals) ++ others) (addresses own) [] s (by_taking own (m.account s)) s1

  module _ (Stands : List m.Item → List Block → Type 0) (blocks : List Block) (rs : List Operand) (new : Self) (w : m.World) (f : Peer m.Item) (others : Facts m) (s0 : m.State) where
    pub gets_plainly : (s : m.State) → is_heap (m.account s).heap ≡ true → GetsPlainly Stands blocks rs new w f others s0 s → Gets m Stands blocks [] rs new w f others s0 s
    gets_plainly s formed h =
        let after = h.4 in
        subst (λ o. Comes false [] (m.account s) o (Lifted m Stands blocks [] rs w new others s)) (sym h.2) (record {
          vals = h.1;
          own = blocks;
          stands = h.3;
          lifted = plainly_lifted blocks (m.account s) (m.account h.0) formed after.account;
          owns = λ g. sym (ap (total g) (append-nil (m.owns h.0))) ∙ after.owns g;
          denotes = after.denotes;
        })

    -- what asks for nothing is lifted without an early end
    pub got_plainly : (s : m.State) (due : List Request) → due ≡ [] → Gets m Stands blocks due rs new w f others s0 s → GetsPlainly Stands blocks rs new w f others s0 s
    got_plainly s due none h =
        let r = comes_none false due (m.account s) (m.does w f (m.code new) s0) (Lifted m Stands blocks due rs w new others s) none h in
        let got = r.2 in
        let plain = lifted_plainly blocks got.own due (m.account s) (m.account r.0) none got.lifted in (
          r.0,
          got.vals,
          r.1,
          subst (Stands got.vals) plain.0 got.stands,
          record {
            account = plain.1;
            owns = λ g. ap (total g) (append-nil (m.owns r.0)) ∙ got.owns g ∙ ap (λ bs. total g (m.owns s ++ addresses bs)) plain.0;
            denotes = got.denotes;
          },
        )

    -- code that changes nothing but what operands denote, before it
    pub stays_gets : (s t : m.State) (due : List Request) → m.account t ≡ m.account s → SameItems (m.owns t ++ []) (m.owns s ++ []) → Gets m Stands blocks due rs new w f others s0 t → Gets m Stands blocks due rs new w f others s0 s
    stays_gets s t due same owns h =
        let Behind : m.State → Type 0 = Lifted m Stands blocks due rs w new others t in
        comes_more false due (m.account s) (m.does w f (m.code new) s0) Behind (Lifted m Stands blocks due rs w new others s)
        (subst (λ z. Comes false due z (m.does w f (m.code new) s0) Behind) same h)
        (λ u d got. record {
          vals = got.vals;
          own = got.own;
          stands = got.stands;
          lifted = subst (λ z. LiftedBy blocks got.own due z (m.account u)) same got.lifted;
          owns = λ g. omega (arith, got.owns g, owns g, total-append g (m.owns t) [], total-append g (m.owns s) [], total-append g (m.owns t) (addresses got.own), total-append g (m.owns s) (addresses got.own));
          denotes = got.denotes;
        })

  -- a state behind one in which items were lifted, where other items stand for something with the same blocks, and nothing else was done
  pub record MadeOf (Stands : List m.Item → List Block → Type 0) (own : List Block) (rs : List Operand) (w : m.World) (f : Peer m.Item) (new : Self) (others : Facts m) (s0 t : m.State) : Type 0 where
    pub state : m.State
    pub done : m.does w f (m.code new) s0 ≡ Done state
    pub vals : List m.Item
    pub stands : Stands vals own
    pub account : m.account state ≡ m.account t
    pub owns : SameItems (m.owns state) (m.owns t)
    pub denotes : m.denotes w new (ofs m rs (item_data m vals) ++ others) state

  -- code that changes nothing but what operands denote, behind it
  pub gets_stay : (One Two : List m.Item → List Block → Type 0) (blocks : List Block) (due : List Request) (os rs : List Operand) (b c : Self) (w : m.World) (f : Peer m.Item) (others : Facts m) (s0 s : m.State)
      → Stops m.account (m.does w f (m.code b) s0) (m.does w f (m.code c) s0) → Gets m One blocks due os b w f others s0 s
      → ((t : m.State) → m.does w f (m.code b) s0 ≡ Done t → (got : Lifted m One blocks due os w b others s t) → MadeOf Two got.own rs w f c others s0 t) → Gets m Two blocks due rs c w f others s0 s
  gets_stay One Two blocks due os rs b c w f others s0 s stops first later =
      let acc = m.account s in
      let First : m.State → Type 0 = Lifted m One blocks due os w b others s in
      let Whole : m.State → Type 0 = Lifted m Two blocks due rs w c others s in
      subst (λ ds. Comes false ds acc (m.does w f (m.code c) s0) Whole) (append-nil due)
      (comes_on false due [] m.account acc (m.does w f (m.code b) s0) (m.does w f (m.code c) s0) First Whole stops
      (comes_more false due acc (m.does w f (m.code b) s0) First (λ t. HasAsked due acc (m.account t) × First t) first (λ t d got. (asked_by_lifting got.lifted.gone got.own due acc (m.account t) got.lifted.account, got)))
      (λ t done got.
      let made = later t done got in
      subst (λ o. Comes false [] (m.account t) o Whole) (sym made.done) (record {
        vals = made.vals;
        own = got.own;
        stands = made.stands;
        lifted = subst (LiftedBy blocks got.own due acc) (sym made.account) got.lifted;
        owns = λ g. made.owns g ∙ got.owns g;
        denotes = made.denotes;
      })))
