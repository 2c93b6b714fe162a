-- Blocks that were finished one after another, and what the run of one does.
use Rattle.std.proofs.Common.{◌≡◌, ℕ, suc, ◌+◌, List, [], ◌∷◌, ◌++◌, length, reverse, take, drop, zero, Bool, true, false, Some, refl, sym, ap, ◌∙◌, subst, arith, append-nil, append_assoc}
use Rattle.std.specs.List.{AllByRecursion, flat_map, slice_get}
use Rattle.std.proofs.lemmas.List.{length-append, length-map, length-reverse, reverse-append}
use Rattle.wrapper_data.specs.Heap.{is_heap}
use Rattle.wrapper_data.specs.declared.block.Block.{Block}
use Rattle.wrapper_data.specs.declared.choice.Request.{Request}
use Rattle.wrapper_data.specs.declared.word.Word.{Word}
use Rattle.wrapper_meaning.specs.AsWords.{Saying}
use Rattle.wrapper_meaning.specs.Items.{SameItems, total}
use Rattle.wrapper_meaning.specs.Shape.{Shape}
use Rattle.wrapper_meaning.specs.Value.{Value}
use Rattle.wrapper_meaning.proofs.PostReturn.{total-append}
use Rattle.abi_bindgen.specs.Account.{Account, Done, Outcome, Peer, Stopped, Stops, Stuck, account_in, addresses}
use Rattle.abi_bindgen.specs.Arms.{gives_words}
use Rattle.abi_bindgen.specs.Blocks.{AreFinished, Finishes, IsOfWord, Pushes, Runs, StopsAlike, brought, names, owned_datum}
use Rattle.abi_bindgen.specs.CaseBlocks.{AddsBlocks, GaveWords}
use Rattle.abi_bindgen.specs.Early.{Comes}
use Rattle.abi_bindgen.specs.Instructions.{AddsCode}
use Rattle.abi_bindgen.specs.Laws.{Adds, At, Grows, Quiet, Sound, StaysUncalled, core_data, ofs}
use Rattle.abi_bindgen.specs.Leaves.{way}
use Rattle.abi_bindgen.specs.Lowering.{Lowered, LoweredBy, Passes, Releases}
use Rattle.abi_bindgen.specs.Meaning.{Bound, Ended, Meaning, word}
use Rattle.abi_bindgen.proofs.BlockSteps.{block_quiet, block_uncalled, one_block_more, same_code, same_opened, same_slot}
use Rattle.abi_bindgen.proofs.Runs.{stops_same}

-- 1. Places of blocks

pub get_front : {A : Type 0} (xs ys : List A) (n : ℕ) (x : A) → slice_get xs n ≡ Some x → slice_get (xs ++ ys) n ≡ Some x
get_front [] ys n x h = cc
get_front (y ∷ xs) ys zero x h = h
get_front (y ∷ xs) ys (suc n) x h = get_front xs ys n x h

pub get_behind : {A : Type 0} (xs ys : List A) (n : ℕ) → slice_get (xs ++ ys) (length xs + n) ≡ slice_get ys n
get_behind {A} [] ys n = let e : length {A = A} [] + n ≡ n = omega arith in ap (slice_get ys) e
get_behind (x ∷ xs) ys n = let e : length (x ∷ xs) + n ≡ suc (length xs + n) = omega arith in ap (slice_get (x ∷ xs ++ ys)) e ∙ get_behind xs ys n

pub drop_front : {A : Type 0} (xs ys : List A) (n : ℕ) → n ≡ length xs → drop n (xs ++ ys) ≡ ys
drop_front [] ys n e = ap (λ k. drop k ys) e
drop_front (x ∷ xs) ys n e = ap (λ k. drop k (x ∷ xs ++ ys)) e ∙ drop_front xs ys (length xs) refl

pub take_front : {A : Type 0} (xs ys : List A) (n : ℕ) → n ≡ length xs → take n (xs ++ ys) ≡ xs
take_front [] ys n e = ap (λ k. take k ys) e
take_front (x ∷ xs) ys n e = ap (λ k. take k (x ∷ xs ++ ys)) e ∙ ap (λ zs. x ∷ zs) (take_front xs ys (length xs) refl)

module _ {Self Operand : Type 0} (m : Meaning Self Operand) where
  -- 2. Finished blocks

  finished_later : (a b : Self) (ks : List ℕ) (bodies : List m.Block) → ((w : m.World) → m.serves w b → m.serves w a) → AreFinished m a ks bodies → AreFinished m b ks bodies
  finished_later a b [] bodies sv h = tt
  finished_later a b (k ∷ ks) [] sv h = absurd h
  finished_later a b (k ∷ ks) (x ∷ bodies) sv h = (h.0, λ w p with s serves. h.1 w p with s (sv w serves), finished_later a b ks bodies sv h.2)

  finished_both : (b : Self) (ks ls : List ℕ) (xs ys : List m.Block) → length xs ≡ length ks → AreFinished m b ks xs → AreFinished m b ls ys → AreFinished m b (ks ++ ls) (xs ++ ys)
  finished_both b [] ls [] ys e f g = g
  finished_both b [] ls (x ∷ xs) ys e f g = absurd (omega (arith, e))
  finished_both b (k ∷ ks) ls [] ys e f g = absurd f
  finished_both b (k ∷ ks) ls (x ∷ xs) ys e f g = (f.0, f.1, finished_both b ks ls xs ys (omega (arith, e)) f.2 g)

  -- the last one first
  pub finished_back : (b : Self) (ks : List ℕ) (xs others : List m.Block) → length xs ≡ length ks → AreFinished m b ks xs → AreFinished m b (reverse ks) (reverse xs ++ others)
  finished_back b [] xs others e f = tt
  finished_back b (k ∷ ks) [] others e f = absurd f
  finished_back b (k ∷ ks) (x ∷ xs) others e f =
      let later : AreFinished m b (reverse ks ++ k ∷ []) (reverse xs ++ (x ∷ others)) =
      finished_both b (reverse ks) (k ∷ []) (reverse xs) (x ∷ others) (length-reverse xs ∙ omega (arith, e) ∙ sym (length-reverse ks)) (subst (AreFinished m b (reverse ks)) (append-nil (reverse xs)) (finished_back b ks xs [] (omega (arith, e)) f.2)) (f.0, f.1, tt) in
      subst (λ js. AreFinished m b js (reverse (x ∷ xs) ++ others)) (sym (reverse-append (k ∷ []) ks))
      (subst (AreFinished m b (reverse ks ++ k ∷ [])) (sym (append_assoc (reverse xs) (x ∷ []) others) ∙ ap (λ bs. bs ++ others) (sym (reverse-append (x ∷ []) xs))) later)

  -- what grows behind code that is the same
  pub grows_alike : (a b c : Self) → m.code b ≡ m.code a → Grows m a b → Grows m b c → Grows m a c
  grows_alike a b c same g h = record {
    serves = λ w s. g.serves w (h.serves w s);
    more = λ w s. let x = g.more w s in h.more x.0 x.1;
    stops = λ w f s v. subst (λ code. Stops m.account (m.does w f code s) (m.does w f (m.code c) s)) same (h.stops w f s v);
    imports = h.imports ∙ g.imports;
    exports = h.exports ∙ g.exports;
    arguments = h.arguments ∙ g.arguments;
    knows = λ types k. h.knows types (g.knows types k);
    writes = λ types id k. h.writes types id (g.writes types id k);
    target = λ fn. h.target fn ∙ g.target fn;
    crosses = λ w fn. h.crosses w fn ∙ g.crosses w fn;
    opened = h.opened ∙ g.opened;
    known = λ w facts s k. h.known w facts s (g.known w facts s k);
  }

  pub grows_none : (a : Self) → Grows m a a
  grows_none a = record { serves = λ w h. h; more = λ w h. (w, h); stops = λ w f s h. stops_same m.account (m.does w f (m.code a) s); imports = refl; exports = refl; arguments = refl; knows = λ types h. h; writes = λ types id h. h; target = λ f. refl; crosses = λ w f. refl; opened = refl; known = λ w facts s h. h }

  pub no_blocks : (a : Self) → AddsBlocks m [] [] a a
  no_blocks a = record {
    grows = grows_none a;
    uncalled = λ u. u;
    code = refl;
    asked = refl;
    blocks = refl;
    many = refl;
    finished = tt;
  }

  pub blocks_both : (xs ys : List m.Block) (ks ls : List ℕ) (a b c : Self) → AddsBlocks m xs ks a b → AddsBlocks m ys ls b c → AddsBlocks m (xs ++ ys) (ks ++ ls) a c
  blocks_both xs ys ks ls a b c g h = record {
    grows = grows_alike a b c g.code g.grows h.grows;
    uncalled = λ u. h.uncalled (g.uncalled u);
    code = h.code ∙ g.code;
    asked = h.asked ∙ g.asked;
    blocks = h.blocks ∙ ap (λ bs. reverse ys ++ bs) g.blocks ∙ sym (append_assoc (reverse ys) (reverse xs) (m.blocks a)) ∙ ap (λ bs. bs ++ m.blocks a) (sym (reverse-append xs ys));
    many = length-append xs ys ∙ omega (arith, g.many, h.many, length-append ks ls);
    finished = finished_both c ks ls xs ys g.many (finished_later b c ks xs h.grows.serves g.finished) h.finished;
  }

  pub code_grows : (ks : List ℕ) (a b : Self) → AddsCode m false ks a b → Grows m a b × Quiet m a b × StaysUncalled m a b
  code_grows [] a b h = (h.grows, h.quiet, h.uncalled)
  code_grows (k ∷ ks) a b h = h

  -- the blocks, and then code that uses them up
  pub blocks_used : (xs : List m.Block) (ks : List ℕ) (a b c : Self) → AddsBlocks m xs ks a b → Grows m b c → Quiet m b c → StaysUncalled m b c → m.asked c ≡ m.asked b → m.blocks c ≡ drop (length ks) (m.blocks b) → Adds m a c
  blocks_used xs ks a b c g grows quiet uncalled asked blocks = record {
    grows = grows_alike a b c g.code g.grows grows;
    quiet = λ w f s v. quiet w f s v ∙ ap (λ code. (account_in m.account (m.does w f code s)).calls) g.code;
    uncalled = λ u. uncalled (g.uncalled u);
    asked = asked ∙ g.asked;
    blocks = blocks ∙ ap (drop (length ks)) g.blocks ∙ drop_front (reverse xs) (m.blocks a) (length ks) (sym (length-reverse xs ∙ g.many));
  }

  pub words_own : (ws : List Word) → flat_map (owned_datum m) (core_data m ws) ≡ []
  words_own [] = refl
  words_own (x ∷ ws) = words_own ws

  pub words_given : (ws : List Word) → gives_words m (core_data m ws) ≡ true
  words_given [] = refl
  words_given (x ∷ ws) = words_given ws

  pub words_facts : (os : List Operand) (ws : List Word) → AllByRecursion IsOfWord (ofs m os (core_data m ws))
  words_facts [] ws = tt
  words_facts (o ∷ os) [] = tt
  words_facts (o ∷ os) (x ∷ ws) = (tt, words_facts os ws)

  -- what is given away or lent owns its blocks
  pub way_owned : Sound m → (realloc : Bool) (heap : List Block) (t : Shape) (v : Value t) (x : m.Item) (own : List Block) → m.stands (way realloc heap) t v x own → SameItems (m.owned x) (addresses own)
  way_owned sound true heap t v x own st = sound.owned t v x own (sound.taken t v x own st)
  way_owned sound false heap t v x own st = λ g. ap (total g) (sound.lent t v x heap own st) ∙ sym (ap (λ (bs : List Block). total g (addresses bs)) (sound.bare t v x heap own st))

-- 3. One block

module _ {Self Operand : Type 0} (m : Meaning Self Operand) (sound : Sound m) (a b c d : Self) (os : List Operand) (open_block : Pushes m a b) (adds : Adds m b c) (close_block : Finishes m os c d) where
  pub one_block : AddsBlocks m (close_block.block ∷ []) (length os ∷ []) a d
  one_block = record {
    grows = record {
      serves = λ w s. open_block.lasts.serves w (adds.grows.serves w (close_block.lasts.serves w s));
      more = λ w s. let x = open_block.lasts.more w s in let y = adds.grows.more x.0 x.1 in close_block.lasts.more y.0 y.1;
      stops = λ w f s v. subst (λ code. Stops m.account (m.does w f (m.code a) s) (m.does w f code s)) (sym (same_code m sound a b c d os open_block adds close_block)) (stops_same m.account (m.does w f (m.code a) s));
      imports = close_block.lasts.imports ∙ adds.grows.imports ∙ open_block.lasts.imports;
      exports = close_block.lasts.exports ∙ adds.grows.exports ∙ open_block.lasts.exports;
      arguments = close_block.lasts.arguments ∙ adds.grows.arguments ∙ open_block.lasts.arguments;
      knows = λ types k. close_block.lasts.knows types (adds.grows.knows types (open_block.lasts.knows types k));
      writes = λ types id k. close_block.lasts.writes types id (adds.grows.writes types id (open_block.lasts.writes types id k));
      target = λ fn. close_block.lasts.target fn ∙ adds.grows.target fn ∙ open_block.lasts.target fn;
      crosses = λ w fn. close_block.lasts.crosses w fn ∙ adds.grows.crosses w fn ∙ open_block.lasts.crosses w fn;
      opened = same_opened m sound a b c d os open_block adds close_block;
      known = λ w facts s k. close_block.lasts.known w facts s (adds.grows.known w facts s (open_block.lasts.known w facts s k));
    };
    uncalled = block_uncalled m sound a b c d os open_block adds close_block;
    code = same_code m sound a b c d os open_block adds close_block;
    asked = close_block.lasts.asked ∙ adds.asked ∙ open_block.lasts.asked;
    blocks = one_block_more m sound a b c d os open_block adds close_block;
    many = refl;
    finished = (close_block.results, block_quiet m sound a b c d os open_block adds close_block, tt);
  }

  pub block_runs : Runs m close_block.block open_block.slot os c d
  block_runs = subst (λ slot. Runs m close_block.block slot os c d) (same_slot m sound a b c d os open_block adds close_block) close_block.runs

  -- in a state that was entered nothing is done yet
  pub begun : (w : m.World) (p : Peer m.Item) (s : m.State) → m.does w p (m.code b) s ≡ Done s
  begun w p s = ap (λ code. m.does w p code s) open_block.code ∙ sound.nothing w p s

  -- its code passes a payload on as words; so does the block
  module _ (realloc : Bool) (Say : Saying) (with : Bound m.Item) (own : List Block) (due : List Request) (owned : SameItems (brought m with) (addresses own)) (passes : Passes m realloc Say (names m open_block.slot with) own due os b c) where
    module _ (w : m.World) (p : Peer m.Item) (later : Self) (before s : m.State) (sv : m.serves w d) (hb : m.denotes w a [] before) (hs : m.denotes w later [] s) (left : List ℕ) where
      abbrev entered : m.State
      entered = m.enter open_block.slot with s

      abbrev Inner : m.State → Type 0
      Inner t = Lowered m realloc Say own left due os w c [] entered t

      abbrev Outer : Ended m.Item m.State → Type 0
      Outer e = GaveWords m realloc Say own left due (length os) w s e

      by_outcome : (o : Outcome m.Item m.State) → m.does w p (m.code c) entered ≡ o → Comes true due (m.account s) o Inner → Comes true due (m.account s) (m.runs w p close_block.block with s) Outer
      by_outcome (Done t) is h =
          let ds = core_data m h.ws in
          let holds : m.denotes w c (ofs m os ds) t = subst (λ fs. m.denotes w c fs t) (append-nil (ofs m os ds)) h.denotes in
          let nothing_owned : SameItems (m.owns t) (flat_map (owned_datum m) ds) =
          λ g. omega (arith, h.owns g, total-append g (m.owns t) (addresses own), open_block.owns s with g, owned g) ∙ sym (ap (total g) (words_own m h.ws)) in
          let e = block_runs.ends w p with s t ds sv is (length-map h.ws (λ x. word x) ∙ h.fits) holds nothing_owned in
          let after : LoweredBy realloc Say own left due h.ws (m.account s) (m.account e.state) =
          subst (λ z. LoweredBy realloc Say own left due h.ws (m.account s) z) (sym e.account) (subst (λ z. LoweredBy realloc Say own left due h.ws z (m.account t)) (open_block.account s with) h.lowered) in
          subst (λ o. Comes true due (m.account s) o Outer) (sym e.runs) (record { ws = h.ws; fits = h.fits; results = refl; lowered = after; owns = e.owns; keeps = e.denotes })
      by_outcome (Stopped e acc) is h =
          let stops : m.runs w p close_block.block with s ≡ Stopped e acc = subst (λ o. StopsAlike m o (m.runs w p close_block.block with s)) is (block_runs.stops w p with s sv) in
          subst (λ o. Comes true due (m.account s) o Outer) (sym stops) h
      by_outcome (Stuck acc) is h = elim h [ ]

      pub block_passes : is_heap (m.account s).heap ≡ true → Releases (addresses own) (m.account s).taken left → Comes true due (m.account s) (m.runs w p close_block.block with s) Outer
      block_passes formed goes =
          let same : m.account s ≡ m.account entered = sym (open_block.account s with) in
          let at : At m w p b c (names m open_block.slot with ++ []) entered entered = record { serves = close_block.lasts.serves w sv; done = begun w p entered; holds = open_block.enters w later [] before s with tt hb hs } in
          let run = passes w p [] entered entered left at (subst (λ (z : Account m.Item). is_heap z.heap ≡ true) same formed) (subst (λ (z : Account m.Item). Releases (addresses own) z.taken left) same goes) in
          by_outcome (m.does w p (m.code c) entered) refl (subst (λ z. Comes true due z (m.does w p (m.code c) entered) Inner) (sym same) run)
