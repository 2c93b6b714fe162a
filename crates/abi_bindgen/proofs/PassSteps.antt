-- How code that lowers values composes, where it may end early at a request that is due.
use Rattle.std.proofs.Common.{◌≡◌, ℕ, ◌+◌, Bool, true, false, List, [], ◌∷◌, ◌++◌, drop, length, refl, sym, ap, ap₂, ◌∙◌, subst, arith, append_assoc, append-nil, length-append}
use Rattle.std.proofs.lemmas.List.{drop-drop, length-map, map-append}
use Rattle.wrapper_data.specs.Heap.{is_heap}
use Rattle.wrapper_data.specs.declared.block.Block.{Block}
use Rattle.wrapper_data.specs.declared.choice.Choice.{Choice}
use Rattle.wrapper_data.specs.declared.choice.Request.{Request}
use Rattle.wrapper_data.specs.declared.word.Word.{Word}
use Rattle.wrapper_meaning.specs.AsWords.{BothSay, Saying}
use Rattle.wrapper_meaning.specs.Items.{SameItems, total}
use Rattle.wrapper_meaning.proofs.PostReturn.{total-append}
use Rattle.abi_bindgen.specs.Account.{Account, Got, addresses, releasing}
use Rattle.abi_bindgen.specs.Early.{Comes, HasAsked}
use Rattle.abi_bindgen.specs.Laws.{Adds, At, Does, Facts, Sound, Stays, core_data, ofs}
use Rattle.abi_bindgen.specs.Lowering.{AreMadeFor, Lowered, LoweredBy, Passes, Releases, by_lowering, kept_with, taken_with}
use Rattle.abi_bindgen.specs.Meaning.{Meaning, word}
use Rattle.abi_bindgen.proofs.Done.{does_done, lets_go, releases_both}
use Rattle.abi_bindgen.proofs.EarlyLemmas.{comes_more, comes_on}
use Rattle.abi_bindgen.proofs.Runs.{addresses_both, core_append, ofs_append}

-- 1. Accounts

abbrev pub put_in : {V : Type 0} → Account V → List Block → List Choice → List Request → (taken guarded : List ℕ) → Account V
put_in acc blocks choices requests taken guarded = record acc { heap = record { blocks = blocks }; choices = choices; requests = requests; taken = taken; guarded = guarded }

pub put_same : {V : Type 0} (acc : Account V) (bs bs' : List Block) (cs cs' : List Choice) (rs rs' : List Request) (ts ts' gs gs' : List ℕ) → bs ≡ bs' → cs ≡ cs' → rs ≡ rs' → ts ≡ ts' → gs ≡ gs' → put_in acc bs cs rs ts gs ≡ put_in acc bs' cs' rs' ts' gs'
put_same acc bs bs' cs cs' rs rs' ts ts' gs gs' b c r t g =
    ap (λ x. put_in acc x cs rs ts gs) b ∙ ap (λ x. put_in acc bs' x rs ts gs) c ∙ ap (λ x. put_in acc bs' cs' x ts gs) r ∙ ap (λ x. put_in acc bs' cs' rs' x gs) t ∙ ap (λ x. put_in acc bs' cs' rs' ts' x) g

pub none_taken : (realloc : Bool) (left : List ℕ) → left ≡ taken_with realloc [] left
none_taken true left = refl
none_taken false left = sym (append-nil left)

pub none_kept : (realloc : Bool) (guarded : List ℕ) → guarded ≡ kept_with realloc [] guarded
none_kept true guarded = refl
none_kept false guarded = sym (append-nil guarded)

pub guards_both : (realloc : Bool) (one two : List Block) (guarded : List ℕ) → kept_with realloc two (kept_with realloc one guarded) ≡ kept_with realloc (one ++ two) guarded
guards_both true one two guarded = refl
guards_both false one two guarded = append_assoc guarded (addresses one) (addresses two) ∙ ap (λ xs. guarded ++ xs) (sym (addresses_both one two))

-- nothing was asked for, and owners were let go
pub nothing_made : {V : Type 0} (realloc : Bool) (left : List ℕ) (acc : Account V) → record acc { taken = left } ≡ by_lowering realloc [] left [] acc
nothing_made realloc left acc =
    put_same acc acc.heap.blocks (acc.heap.blocks ++ []) acc.choices acc.choices acc.requests (acc.requests ++ []) left (taken_with realloc [] left) acc.guarded (kept_with realloc [] acc.guarded)
    (sym (append-nil acc.heap.blocks)) refl (sym (append-nil acc.requests)) (none_taken realloc left) (none_kept realloc acc.guarded)

pub asked_by_lowering : {V : Type 0} (realloc : Bool) (made : List Block) (left : List ℕ) (due : List Request) (a b : Account V) → b ≡ by_lowering realloc made left due a → HasAsked due a b
asked_by_lowering realloc made left due a b e = record { requests = ap (λ x. x.requests) e; choices = ap (λ x. x.choices) e; calls = ap (λ x. x.calls) e }

-- which owners are left, where those of one thing and then those of others are let go
pub record Onward (realloc : Bool) (others made : List Block) (first left : List ℕ) : Type 0 where
  pub next : List ℕ
  pub goes : Releases (addresses others) (taken_with realloc made first) next
  pub same : (more : List Block) → taken_with realloc more next ≡ taken_with realloc (made ++ more) left

pub onward : (realloc : Bool) (others made : List Block) (first left : List ℕ) → (realloc ≡ false → others ≡ []) → Releases (addresses others) first left → Onward realloc others made first left
onward true others made first left bare goes = record { next = left; goes = goes; same = λ more. refl }
onward false others made first left bare goes =
    let none = bare refl in
    let is : left ≡ first = subst (λ bs. Releases (addresses bs) first left) none goes in
    record {
      next = first ++ addresses made;
      goes = subst (λ bs. Releases (addresses bs) (first ++ addresses made) (first ++ addresses made)) (sym none) refl;
      same = λ more. append_assoc first (addresses made) (addresses more) ∙ ap (λ xs. first ++ xs) (sym (addresses_both made more)) ∙ ap (λ xs. xs ++ addresses (made ++ more)) (sym is);
    }

pub made_both : (due later : List Request) (made more : List Block) → AreMadeFor due made → AreMadeFor later more → AreMadeFor (due ++ later) (made ++ more)
made_both due later made more h k =
    map-append (λ (b : Block). b.size) made more ∙ ap₂ (λ xs ys. xs ++ ys) h k ∙ sym (map-append (λ (r : Request). r.size) due later)

pub split_both : (one two made1 made2 own1 own2 : List Block) → SameItems one (made1 ++ own1) → SameItems two (made2 ++ own2) → SameItems (one ++ two) ((made1 ++ made2) ++ (own1 ++ own2))
split_both one two made1 made2 own1 own2 h k g =
    omega (arith, h g, k g, total-append g one two, total-append g made1 own1, total-append g made2 own2, total-append g (made1 ++ made2) (own1 ++ own2), total-append g made1 made2, total-append g own1 own2)

pub none_front : {A : Type 0} (xs ys : List A) → xs ++ ys ≡ [] → xs ≡ []
none_front [] ys e = refl
none_front (x ∷ xs) ys e = let h : x ∷ (xs ++ ys) ≡ [] = e in cc

pub none_behind : {A : Type 0} (xs ys : List A) → xs ++ ys ≡ [] → ys ≡ []
none_behind [] ys e = e
none_behind (x ∷ xs) ys e = let h : x ∷ (xs ++ ys) ≡ [] = e in cc

pub lowering_both : {V : Type 0} (realloc : Bool) (one two : List Block) (first next left : List ℕ) (due later : List Request) (a : Account V)
    → ((more : List Block) → taken_with realloc more next ≡ taken_with realloc (one ++ more) left) → by_lowering realloc two next later (by_lowering realloc one first due a) ≡ by_lowering realloc (one ++ two) left (due ++ later) a
lowering_both realloc one two first next left due later a owners =
    put_same a ((a.heap.blocks ++ one) ++ two) (a.heap.blocks ++ (one ++ two)) (drop (length later) (drop (length due) a.choices)) (drop (length (due ++ later)) a.choices) ((a.requests ++ due) ++ later) (a.requests ++ (due ++ later))
    (taken_with realloc two next) (taken_with realloc (one ++ two) left) (kept_with realloc two (kept_with realloc one a.guarded)) (kept_with realloc (one ++ two) a.guarded)
    (append_assoc a.heap.blocks one two) (drop-drop (length later) (length due) a.choices ∙ ap (λ n. drop n a.choices) (sym (length-append due later))) (append_assoc a.requests due later) (owners two) (guards_both realloc one two a.guarded)

pub lowered_both : {V : Type 0} (realloc : Bool) (One Two : Saying) (own1 own2 : List Block) (first next left : List ℕ) (due later : List Request) (ws us : List Word) (a b c : Account V)
    → (h : LoweredBy realloc One own1 first due ws a b) → LoweredBy realloc Two own2 next later us b c → ((more : List Block) → taken_with realloc more next ≡ taken_with realloc (h.made ++ more) left)
    → LoweredBy realloc (BothSay One Two) (own1 ++ own2) left (due ++ later) (ws ++ us) a c
lowered_both realloc One Two own1 own2 first next left due later ws us a b c h k owners = record {
  made = h.made ++ k.made;
  blocks = h.blocks ++ k.blocks;
  says = (ws, us, h.blocks, k.blocks, h.says, k.says, refl, refl);
  split = split_both h.blocks k.blocks h.made k.made own1 own2 h.split k.split;
  same = λ none. ap₂ (λ xs ys. xs ++ ys) (h.same (none_front h.made k.made none)) (k.same (none_behind h.made k.made none));
  each = made_both due later h.made k.made h.each k.each;
  account = k.account ∙ ap (by_lowering realloc k.made next later) h.account ∙ lowering_both realloc h.made k.made first next left due later a owners;
  formed = k.formed;
}

-- the same words say something else
pub lowered_says : {V : Type 0} (realloc : Bool) (One Two : Saying) (own : List Block) (left : List ℕ) (due : List Request) (ws us : List Word) (a b : Account V) → ((blocks : List Block) → One ws blocks → Two us blocks)
    → LoweredBy realloc One own left due ws a b → LoweredBy realloc Two own left due us a b
lowered_says realloc One Two own left due ws us a b go h = record { made = h.made; blocks = h.blocks; says = go h.blocks h.says; split = h.split; same = h.same; each = h.each; account = h.account; formed = h.formed }

-- 2. Code

module _ {Self Operand : Type 0} (m : Meaning Self Operand) (realloc : Bool) where
  -- code that lets go of owners, and asks for nothing
  pub passes_plainly : (Say : Saying) (ins : Facts m) (own : List Block) (ws : List Word) (os : List Operand) (a b : Self) → length ws ≡ length os → Say ws own
      → Does m (Unit {0}) a b ins (λ f. releasing (addresses own)) (λ u fs. fs ≡ ofs m os (core_data m ws)) (λ u. []) (λ u. addresses own) → Passes m realloc Say ins own [] os a b
  passes_plainly Say ins own ws os a b fits says row w p others s0 s left at formed goes =
      let acc = m.account s in
      let x : Got m.Item (Unit {0}) = record { result = tt; account = record acc { taken = left } } in
      let q = does_done m (Unit {0}) a b ins (λ f. releasing (addresses own)) (λ u fs. fs ≡ ofs m os (core_data m ws)) (λ u. []) (λ u. addresses own) row w p others s0 s at x (lets_go (addresses own) left acc goes) in
      let t = q.0 in
      let after = q.2.2 in
      subst (λ o. Comes true [] acc o (Lowered m realloc Say own left [] os w b others s)) (sym q.1) (record {
        ws = ws;
        fits = fits;
        lowered = record { made = []; blocks = own; says = says; split = λ g. refl; same = λ e. refl; each = refl; account = after.account ∙ nothing_made realloc left acc; formed = ap (λ (z : Account m.Item). is_heap z.heap) after.account ∙ formed };
        owns = λ g. after.owns g ∙ total-append g (m.owns s) [] ∙ omega arith;
        denotes = subst (λ fs. m.denotes w b (fs ++ others) t) q.2.1 after.denotes;
      })

  pub passes_as : (One Two : Saying) (ins : Facts m) (own : List Block) (due : List Request) (os : List Operand) (a b : Self) → ((ws : List Word) (blocks : List Block) → One ws blocks → Two ws blocks)
      → Passes m realloc One ins own due os a b → Passes m realloc Two ins own due os a b
  passes_as One Two ins own due os a b go h w p others s0 s left at formed goes =
      comes_more true due (m.account s) (m.does w p (m.code b) s0) (Lowered m realloc One own left due os w b others s) (Lowered m realloc Two own left due os w b others s) (h w p others s0 s left at formed goes)
      (λ t d k. record { ws = k.ws; fits = k.fits; lowered = lowered_says realloc One Two own left due k.ws k.ws (m.account s) (m.account t) (go k.ws) k.lowered; owns = k.owns; denotes = k.denotes })

  -- code that changes nothing but what operands denote, before it
  pub stays_passes : (Say : Saying) (one mid : Facts m) (own : List Block) (due : List Request) (os : List Operand) (a b c : Self) → Adds m b c → Stays m a b one (λ fs. fs ≡ mid) → Passes m realloc Say mid own due os b c
      → Passes m realloc Say one own due os a c
  stays_passes Say one mid own due os a b c adds first later w p others s0 s left at formed goes =
      let at1 : At m w p a b (one ++ others) s0 s = record { serves = adds.grows.serves w at.serves; done = at.done; holds = at.holds } in
      let r = first w p others s0 s at1 in
      let t = r.0 in
      let after = r.2.2 in
      let at2 : At m w p b c (mid ++ others) s0 t = record { serves = at.serves; done = r.1; holds = subst (λ fs. m.denotes w b (fs ++ others) t) r.2.1 after.denotes } in
      let same : m.account s ≡ m.account t = sym after.account in
      let later_run = later w p others s0 t left at2 (subst (λ (z : Account m.Item). is_heap z.heap ≡ true) same formed) (subst (λ (z : Account m.Item). Releases (addresses own) z.taken left) same goes) in
      let Behind : m.State → Type 0 = Lowered m realloc Say own left due os w c others t in
      comes_more true due (m.account s) (m.does w p (m.code c) s0) Behind (Lowered m realloc Say own left due os w c others s)
      (subst (λ z. Comes true due z (m.does w p (m.code c) s0) Behind) (sym same) later_run)
      (λ u d k. record {
        ws = k.ws;
        fits = k.fits;
        lowered = subst (λ z. LoweredBy realloc Say own left due k.ws z (m.account u)) (sym same) k.lowered;
        owns = λ g. omega (arith, k.owns g, after.owns g, total-append g (m.owns t) [], total-append g (m.owns s) []);
        denotes = k.denotes;
      })

  -- and behind it
  pub passes_stay : (One Two : Saying) (ins : Facts m) (own : List Block) (due : List Request) (os qs : List Operand) (a b c : Self) → Adds m b c → Passes m realloc One ins own due os a b
      → ((ws : List Word) (blocks : List Block) → length ws ≡ length os → One ws blocks → (us : List Word) × (length us ≡ length qs) × Two us blocks × Stays m b c (ofs m os (core_data m ws)) (λ fs. fs ≡ ofs m qs (core_data m us)))
      → Passes m realloc Two ins own due qs a c
  passes_stay One Two ins own due os qs a b c adds first later w p others s0 s left at formed goes =
      let acc = m.account s in
      let at1 : At m w p a b (ins ++ others) s0 s = record { serves = adds.grows.serves w at.serves; done = at.done; holds = at.holds } in
      let First : m.State → Type 0 = Lowered m realloc One own left due os w b others s in
      let Whole : m.State → Type 0 = Lowered m realloc Two own left due qs w c others s in
      subst (λ rs. Comes true rs acc (m.does w p (m.code c) s0) Whole) (append-nil due)
      (comes_on true due [] m.account acc (m.does w p (m.code b) s0) (m.does w p (m.code c) s0) First Whole (adds.grows.stops w p s0 at.serves)
      (comes_more true due acc (m.does w p (m.code b) s0) First (λ t. HasAsked due acc (m.account t) × First t) (first w p others s0 s left at1 formed goes)
      (λ t d h. (asked_by_lowering realloc h.lowered.made left due acc (m.account t) h.lowered.account, h)))
      (λ t done h.
      let q = later h.ws h.lowered.blocks h.fits h.lowered.says in
      let at2 : At m w p b c (ofs m os (core_data m h.ws) ++ others) s0 t = record { serves = at.serves; done = done; holds = h.denotes } in
      let r = q.3 w p others s0 t at2 in
      let u = r.0 in
      let after = r.2.2 in
      subst (λ o. Comes true [] (m.account t) o Whole) (sym r.1) (record {
        ws = q.0;
        fits = q.1;
        lowered = record { made = h.lowered.made; blocks = h.lowered.blocks; says = q.2; split = h.lowered.split; same = h.lowered.same; each = h.lowered.each; account = after.account ∙ h.lowered.account; formed = ap (λ (z : Account m.Item). is_heap z.heap) after.account ∙ h.lowered.formed };
        owns = λ g. omega (arith, h.owns g, after.owns g, total-append g (m.owns t) [], total-append g (m.owns u) [], total-append g (m.owns t) (addresses own), total-append g (m.owns u) (addresses own));
        denotes = subst (λ fs. m.denotes w c (fs ++ others) u) r.2.1 after.denotes;
      })))

  -- one thing is lowered, and then another. Without realloc the other has no blocks of its own
  pub passes_both : Sound m → (One Two : Saying) (one two : Facts m) (own1 own2 : List Block) (due1 due2 : List Request) (os qs : List Operand) (a b c : Self) → (realloc ≡ false → own2 ≡ []) → Adds m b c
      → Passes m realloc One one own1 due1 os a b → Passes m realloc Two two own2 due2 qs b c → Passes m realloc (BothSay One Two) (one ++ two) (own1 ++ own2) (due1 ++ due2) (os ++ qs) a c
  passes_both sound One Two one two own1 own2 due1 due2 os qs a b c bare adds first later w p others s0 s left at formed goes =
      let acc = m.account s in
      let parts = releases_both (addresses own1) (addresses own2) acc.taken left (subst (λ xs. Releases xs acc.taken left) (addresses_both own1 own2) goes) in
      let at1 : At m w p a b (one ++ (two ++ others)) s0 s = record { serves = adds.grows.serves w at.serves; done = at.done; holds = subst (λ fs. m.denotes w a fs s) (append_assoc one two others) at.holds } in
      let First : m.State → Type 0 = Lowered m realloc One own1 parts.0 due1 os w b (two ++ others) s in
      let Whole : m.State → Type 0 = Lowered m realloc (BothSay One Two) (own1 ++ own2) left (due1 ++ due2) (os ++ qs) w c others s in
      comes_on true due1 due2 m.account acc (m.does w p (m.code b) s0) (m.does w p (m.code c) s0) First Whole (adds.grows.stops w p s0 at.serves)
      (comes_more true due1 acc (m.does w p (m.code b) s0) First (λ t. HasAsked due1 acc (m.account t) × First t) (first w p (two ++ others) s0 s parts.0 at1 formed parts.1)
      (λ t d h. (asked_by_lowering realloc h.lowered.made parts.0 due1 acc (m.account t) h.lowered.account, h)))
      (λ t done h.
      let here : Facts m = ofs m os (core_data m h.ws) in
      let on = onward realloc own2 h.lowered.made parts.0 left bare parts.2 in
      let at2 : At m w p b c (two ++ (here ++ others)) s0 t = record { serves = at.serves; done = done; holds = sound.swap w b here two others t h.denotes } in
      comes_more true due2 (m.account t) (m.does w p (m.code c) s0) (Lowered m realloc Two own2 on.next due2 qs w c (here ++ others) t) Whole
      (later w p (here ++ others) s0 t on.next at2 h.lowered.formed (subst (λ (z : Account m.Item). Releases (addresses own2) z.taken on.next) (sym h.lowered.account) on.goes))
      (λ u d k.
      let there : Facts m = ofs m qs (core_data m k.ws) in
      let len : length (core_data m h.ws) ≡ length os = length-map h.ws (λ x. word x) ∙ h.fits in
      let facts : here ++ there ≡ ofs m (os ++ qs) (core_data m (h.ws ++ k.ws)) = sym (ap (ofs m (os ++ qs)) (core_append m h.ws k.ws) ∙ ofs_append m os qs (core_data m h.ws) (core_data m k.ws) len) in
      record {
        ws = h.ws ++ k.ws;
        fits = length-append h.ws k.ws ∙ omega (arith, h.fits, k.fits, length-append os qs);
        lowered = lowered_both realloc One Two own1 own2 parts.0 on.next left due1 due2 h.ws k.ws acc (m.account t) (m.account u) h.lowered k.lowered on.same;
        owns = λ g.
            let all : total g (addresses (own1 ++ own2)) ≡ total g (addresses own1) + total g (addresses own2) = ap (total g) (addresses_both own1 own2) ∙ total-append g (addresses own1) (addresses own2) in
            omega (arith, all, h.owns g, k.owns g, total-append g (m.owns t) (addresses own1), total-append g (m.owns u) (addresses own2), total-append g (m.owns u) (addresses (own1 ++ own2)));
        denotes = subst (λ fs. m.denotes w c (fs ++ others) u) facts (subst (λ fs. m.denotes w c fs u) (sym (append_assoc here there others)) (sound.swap w c there here others u k.denotes));
      }))
