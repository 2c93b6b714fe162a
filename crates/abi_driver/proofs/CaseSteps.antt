-- Finished blocks of cases: how they are added one after another, how each begins and ends, and what an instruction that uses them up leaves.
use Rattle.std.proofs.Common.{◌≡◌, ℕ, zero, suc, ◌+◌, Bool, false, true, List, [], ◌∷◌, ◌++◌, length, drop, take, replicate, reverse, Option, None, Some, refl, sym, ap, ◌∙◌, subst, arith, append-nil, append_assoc}
use Rattle.std.specs.List.{AllByRecursion, flat_map}
use Rattle.std.proofs.lemmas.List.{length-reverse, replicate_more, reverse-append, reverse-reverse}
use Rattle.wit_model.specs.declared.types.TypeDef.{TypeDef}
use Rattle.wit_model.specs.declared.types.WitType.{WitType}
use Rattle.wrapper_meaning.specs.Items.{SameItems, total}
use Rattle.abi_bindgen.specs.Account.{Done, Peer, Stops, account_in, Stopped, Account}
use Rattle.abi_bindgen.specs.Arms.{arms}
use Rattle.abi_bindgen.specs.Blocks.{AreFinished, Finishes, Gives, IsOfWord, IsOpen, IsQuiet, Pushes, names, owned_datum, StopsAlike}
use Rattle.abi_driver.specs.FinishedBlocks.{AddsBlock, AddsBlocks, AreQuiet, Resumes}
use Rattle.abi_bindgen.specs.Instructions.{AddsCode, IsSide}
use Rattle.abi_bindgen.specs.Laws.{Adds, At, Data, Facts, Grows, Quiet, Sound, StaysUncalled, ofs}
use Rattle.abi_bindgen.specs.Meaning.{Bound, Meaning}
use Rattle.abi_bindgen.specs.Written.{WritesPart}
use Rattle.abi_bindgen.proofs.BlockSteps.{block_quiet, one_block_more, same_code, same_opened, same_slot}
use Rattle.wrapper_data.specs.declared.run.Stop.{Stop}

-- 1. Lists of blocks

reverse_more : {A : Type 0} (x : A) (xs ys : List A) → reverse (x ∷ xs) ++ ys ≡ reverse xs ++ x ∷ ys
reverse_more x xs ys = ap (λ zs. zs ++ ys) (reverse-append (x ∷ []) xs) ∙ append_assoc (reverse xs) (x ∷ []) ys

take_front : {A : Type 0} (n : ℕ) (xs ys : List A) → length xs ≡ n → take n (xs ++ ys) ≡ xs
take_front zero [] ys e = refl
take_front (suc n) [] ys e = absurd (omega (arith, e))
take_front zero (x ∷ xs) ys e = absurd (omega (arith, e))
take_front (suc n) (x ∷ xs) ys e = ap (λ zs. x ∷ zs) (take_front n xs ys (omega (arith, e)))

drop_front : {A : Type 0} (n : ℕ) (xs ys : List A) → length xs ≡ n → drop n (xs ++ ys) ≡ ys
drop_front zero [] ys e = refl
drop_front (suc n) [] ys e = absurd (omega (arith, e))
drop_front zero (x ∷ xs) ys e = absurd (omega (arith, e))
drop_front (suc n) (x ∷ xs) ys e = drop_front n xs ys (omega (arith, e))

pub plain_total : {A : Type 0} (weight : A → ℕ) (xs : List A) → total weight (xs ++ []) ≡ total weight xs
plain_total weight xs = ap (total weight) (append-nil xs)

pub same_back : (n k : ℕ) → reverse (replicate n k) ≡ replicate n k
same_back zero k = refl
same_back (suc n) k =
    let next : n + 1 ≡ suc n = omega arith in
    reverse-append (k ∷ []) (replicate n k) ∙ ap (λ ks. ks ++ k ∷ []) (same_back n k) ∙ replicate_more n k ∙ ap (λ j. replicate j k) next

module _ {Self Operand : Type 0} (m : Meaning Self Operand) where
  -- 2. One after another

  pub resumes_same : (a : Self) → Resumes m a a
  resumes_same a = record { serves = λ w h. h; more = λ w h. (w, h); code = refl; opened = refl; imports = refl; exports = refl; arguments = refl; knows = λ types h. h; writes = λ types id h. h; target = λ f. refl; crosses = λ w f. refl; known = λ w facts s h. h; asked = refl; uncalled = λ h. h }

  pub resumes_both : (a b c : Self) → Resumes m a b → Resumes m b c → Resumes m a c
  resumes_both a b c g h = record {
    serves = λ w s. g.serves w (h.serves w s);
    more = λ w s. let x = g.more w s in h.more x.0 x.1;
    code = h.code ∙ g.code;
    opened = h.opened ∙ g.opened;
    imports = h.imports ∙ g.imports;
    exports = h.exports ∙ g.exports;
    arguments = h.arguments ∙ g.arguments;
    knows = λ types k. h.knows types (g.knows types k);
    writes = λ types id k. h.writes types id (g.writes types id k);
    target = λ fn. h.target fn ∙ g.target fn;
    crosses = λ w fn. h.crosses w fn ∙ g.crosses w fn;
    known = λ w facts s k. h.known w facts s (g.known w facts s k);
    asked = h.asked ∙ g.asked;
    uncalled = λ k. h.uncalled (g.uncalled k);
  }

  -- the side stays
  pub side_resumed : (a b : Self) (realloc : Bool) → Resumes m a b → IsSide m realloc a → IsSide m realloc b
  side_resumed a b true r h = r.exports ∙ h
  side_resumed a b false r h = r.imports ∙ h

  -- and so does what may be written
  pub part_resumed : (types : List TypeDef) (a b : Self) (p : Option WitType) → Resumes m a b → WritesPart m types p a → WritesPart m types p b
  part_resumed types a b None r h = tt
  part_resumed types a b (Some ty) r h = λ id reached. r.writes types id.0 (h id reached)

  pub side_opened : (a b : Self) (realloc : Bool) → Pushes m a b → IsSide m realloc a → IsSide m realloc b
  side_opened a b true p h = p.lasts.exports ∙ h
  side_opened a b false p h = p.lasts.imports ∙ h

  quiet_later : (a b : Self) (body : m.Block) → Resumes m a b → IsQuiet m a body → IsQuiet m b body
  quiet_later a b body r q w p with s serves = q w p with s (r.serves w serves)

  pub no_blocks : (a : Self) → AddsBlocks m [] [] a a
  no_blocks a = record { resumes = resumes_same a; blocks = refl; quiet = refl }

  pub more_blocks : (k : ℕ) (ks : List ℕ) (body : m.Block) (bodies : List m.Block) (a b c : Self) → AddsBlock m k body a b → AddsBlocks m ks bodies b c → AddsBlocks m (k ∷ ks) (body ∷ bodies) a c
  more_blocks k ks body bodies a b c one rest = record {
    resumes = resumes_both a b c one.resumes rest.resumes;
    blocks = rest.blocks ∙ ap (λ bs. reverse bodies ++ bs) one.blocks ∙ sym (reverse_more body bodies (m.blocks a));
    quiet = (one.results, quiet_later b c body rest.resumes one.quiet, rest.quiet);
  }

  pub quiet_count : (b : Self) (ks : List ℕ) (bodies : List m.Block) → AreQuiet m b ks bodies → length bodies ≡ length ks
  quiet_count b [] bodies h = ap length h
  quiet_count b (k ∷ ks) [] h = elim h [ ]
  quiet_count b (k ∷ ks) (body ∷ bodies) h = ap suc (quiet_count b ks bodies h.2)

  -- the blocks of so many cases are these, in their order
  pub arms_are : (ks : List ℕ) (bodies : List m.Block) (a b : Self) (n : ℕ) → AddsBlocks m ks bodies a b → length ks ≡ n → arms m n (m.blocks b) ≡ bodies
  arms_are ks bodies a b n adds count =
      let many : length (reverse bodies) ≡ n = length-reverse bodies ∙ quiet_count b ks bodies adds.quiet ∙ count in
      ap (λ bs. reverse (take n bs)) adds.blocks ∙ ap reverse (take_front n (reverse bodies) (m.blocks a) many) ∙ reverse-reverse bodies

  -- and behind them come those that were there before
  pub arms_gone : (ks : List ℕ) (bodies : List m.Block) (a b : Self) (n : ℕ) → AddsBlocks m ks bodies a b → length ks ≡ n → drop n (m.blocks b) ≡ m.blocks a
  arms_gone ks bodies a b n adds count =
      let many : length (reverse bodies) ≡ n = length-reverse bodies ∙ quiet_count b ks bodies adds.quiet ∙ count in
      ap (drop n) adds.blocks ∙ drop_front n (reverse bodies) (m.blocks a) many

  -- they are finished: by their results, the last one first

  finished_both : (b : Self) (ks js : List ℕ) (bodies others : List m.Block) → AreFinished m b ks bodies → length bodies ≡ length ks → AreFinished m b js others → AreFinished m b (ks ++ js) (bodies ++ others)
  finished_both b [] js [] others h e g = g
  finished_both b [] js (x ∷ bodies) others h e g = absurd (omega (arith, e))
  finished_both b (k ∷ ks) js [] others h e g = elim h [ ]
  finished_both b (k ∷ ks) js (x ∷ bodies) others h e g = (h.0, h.1, finished_both b ks js bodies others h.2 (omega (arith, e)) g)

  finished_front : (b : Self) (ks : List ℕ) (bodies others : List m.Block) → AreFinished m b ks bodies → AreFinished m b ks (bodies ++ others)
  finished_front b [] bodies others h = tt
  finished_front b (k ∷ ks) [] others h = elim h [ ]
  finished_front b (k ∷ ks) (x ∷ bodies) others h = (h.0, h.1, finished_front b ks bodies others h.2)

  finished_back : (b : Self) (ks : List ℕ) (bodies : List m.Block) → AreQuiet m b ks bodies → AreFinished m b (reverse ks) (reverse bodies)
  finished_back b [] bodies h = tt
  finished_back b (k ∷ ks) [] h = elim h [ ]
  finished_back b (k ∷ ks) (body ∷ bodies) h =
      let first : AreFinished m b (k ∷ []) (body ∷ []) = (h.0, h.1, tt) in
      let many : length (reverse bodies) ≡ length (reverse ks) = length-reverse bodies ∙ quiet_count b ks bodies h.2 ∙ sym (length-reverse ks) in
      let both = finished_both b (reverse ks) (k ∷ []) (reverse bodies) (body ∷ []) (finished_back b ks bodies h.2) many first in
      subst (λ bs. AreFinished m b (reverse (k ∷ ks)) bs) (sym (reverse-append (body ∷ []) bodies)) (subst (λ js. AreFinished m b js (reverse bodies ++ body ∷ [])) (sym (reverse-append (k ∷ []) ks)) both)

  pub are_finished : (ks : List ℕ) (bodies : List m.Block) (a b : Self) → AddsBlocks m ks bodies a b → AreFinished m b (reverse ks) (m.blocks b)
  are_finished ks bodies a b adds = subst (λ bs. AreFinished m b (reverse ks) bs) (sym adds.blocks) (finished_front b (reverse ks) (reverse bodies) (m.blocks a) (finished_back b ks bodies adds.quiet))

  -- code that uses some blocks up, or none, grows and makes no call, and calls no method
  pub uses_blocks : (used : List ℕ) (a b : Self) → AddsCode m false used a b → Grows m a b × Quiet m a b × StaysUncalled m a b
  uses_blocks [] a b h = (h.grows, h.quiet, h.uncalled)
  uses_blocks (k ∷ used) a b h = h

  -- code that uses up the blocks that were added leaves those before them
  pub resumes_then : (a b c : Self) → Resumes m a b → Grows m b c → Quiet m b c → StaysUncalled m b c → m.asked c ≡ m.asked b → m.blocks c ≡ m.blocks a → Adds m a c
  resumes_then a b c r g quiet stays asked blocks = record {
    grows = record {
      serves = λ w s. r.serves w (g.serves w s);
      more = λ w s. let x = r.more w s in g.more x.0 x.1;
      stops = λ w f s serves. subst (λ code. Stops m.account (m.does w f code s) (m.does w f (m.code c) s)) r.code (g.stops w f s serves);
      imports = g.imports ∙ r.imports;
      exports = g.exports ∙ r.exports;
      arguments = g.arguments ∙ r.arguments;
      knows = λ types k. g.knows types (r.knows types k);
      writes = λ types id k. g.writes types id (r.writes types id k);
      target = λ fn. g.target fn ∙ r.target fn;
      crosses = λ w fn. g.crosses w fn ∙ r.crosses w fn;
      opened = g.opened ∙ r.opened;
      known = λ w facts s k. g.known w facts s (r.known w facts s k);
    };
    quiet = λ w f s serves. quiet w f s serves ∙ ap (λ code. (account_in m.account (m.does w f code s)).calls) r.code;
    uncalled = λ k. stays (r.uncalled k);
    asked = asked ∙ r.asked;
    blocks = blocks;
  }

-- 3. One block

module _ {Self Operand : Type 0} (m : Meaning Self Operand) (sound : Sound m) where
  -- facts hold without those behind them
  pub front_only : (w : m.World) (b : Self) (facts others : Facts m) (s : m.State) → m.denotes w b (facts ++ others) s → m.denotes w b facts s
  front_only w b facts others s h =
      let longer : m.denotes w b (facts ++ (others ++ [])) s = subst (λ fs. m.denotes w b (facts ++ fs) s) (sym (append-nil others)) h in
      subst (λ fs. m.denotes w b fs s) (append-nil facts) (sound.fewer w b others (facts ++ []) s (sound.swap w b facts others [] s longer))

module _ {Self Operand : Type 0} (m : Meaning Self Operand) (sound : Sound m) (a b : Self) (opens : Pushes m a b) where
  abbrev pub is_open : IsOpen m b
  is_open = record { slot = opens.slot; suspended = m.code a; outer = m.opened a; opened = opens.opened }

  -- where it begins nothing was done, and its names are bound
  pub block_begins : (c later : Self) (w : m.World) (f : Peer m.Item) (facts : Facts m) (before s : m.State) (with : Bound m.Item) → m.serves w c → AllByRecursion (IsOfWord {O = Operand} {S = m.Slot} {V = m.Item}) facts → m.denotes w a facts before → m.denotes w later facts s
      → At m w f b c (names m opens.slot with ++ facts) (m.enter opens.slot with s) (m.enter opens.slot with s)
  block_begins c later w f facts before s with serves words known held = record {
    serves = serves;
    done = ap (λ code. m.does w f code (m.enter opens.slot with s)) opens.code ∙ sound.nothing w f (m.enter opens.slot with s);
    holds = opens.enters w later facts before s with words known held;
  }

  module _ (c d : Self) (os : List Operand) (adds : Adds m b c) (closes : Finishes m os c d) where
    pub block_added : AddsBlock m (length os) closes.block a d
    block_added = record {
      resumes = record {
        serves = λ w s. opens.lasts.serves w (adds.grows.serves w (closes.lasts.serves w s));
        more = λ w s. let x = opens.lasts.more w s in let y = adds.grows.more x.0 x.1 in closes.lasts.more y.0 y.1;
        code = same_code m sound a b c d os opens adds closes;
        opened = same_opened m sound a b c d os opens adds closes;
        imports = closes.lasts.imports ∙ adds.grows.imports ∙ opens.lasts.imports;
        exports = closes.lasts.exports ∙ adds.grows.exports ∙ opens.lasts.exports;
        arguments = closes.lasts.arguments ∙ adds.grows.arguments ∙ opens.lasts.arguments;
        knows = λ types k. closes.lasts.knows types (adds.grows.knows types (opens.lasts.knows types k));
        writes = λ types id k. closes.lasts.writes types id (adds.grows.writes types id (opens.lasts.writes types id k));
        target = λ fn. closes.lasts.target fn ∙ adds.grows.target fn ∙ opens.lasts.target fn;
        crosses = λ w fn. closes.lasts.crosses w fn ∙ adds.grows.crosses w fn ∙ opens.lasts.crosses w fn;
        known = λ w facts s k. closes.lasts.known w facts s (adds.grows.known w facts s (opens.lasts.known w facts s k));
        asked = closes.lasts.asked ∙ adds.asked ∙ opens.lasts.asked;
        uncalled = λ k. closes.lasts.uncalled (adds.uncalled (opens.lasts.uncalled k));
      };
      blocks = one_block_more m sound a b c d os opens adds closes;
      results = closes.results;
      quiet = block_quiet m sound a b c d os opens adds closes;
    }

    -- where its code has come to an end, and all that its locals own is in its results, it gives them
    pub block_gives : (w : m.World) (f : Peer m.Item) (with : Bound m.Item) (s u : m.State) (ds : Data m) → m.serves w d → m.does w f (m.code c) (m.enter opens.slot with s) ≡ Done u → length ds ≡ length os → m.denotes w c (ofs m os ds) u
        → SameItems (m.owns u) (flat_map (owned_datum m) ds) → Gives m w f closes.block with s u ds
    block_gives w f with s u ds serves done count holds owns =
        let there : m.does w f (m.code c) (m.enter closes.slot with s) ≡ Done u = ap (λ slot. m.does w f (m.code c) (m.enter slot with s)) (same_slot m sound a b c d os opens adds closes) ∙ done in
        closes.runs.ends w f with s u ds serves there count holds owns

    -- and where its code stops, the block does
    pub block_stops : (w : m.World) (f : Peer m.Item) (with : Bound m.Item) (s : m.State) (e : Stop) (acc : Account m.Item) → m.serves w d → m.does w f (m.code c) (m.enter opens.slot with s) ≡ Stopped e acc → m.runs w f closes.block with s ≡ Stopped e acc
    block_stops w f with s e acc serves stopped =
        let there : m.does w f (m.code c) (m.enter closes.slot with s) ≡ Stopped e acc = ap (λ slot. m.does w f (m.code c) (m.enter slot with s)) (same_slot m sound a b c d os opens adds closes) ∙ stopped in
        subst (λ o. StopsAlike m o (m.runs w f closes.block with s)) there (closes.runs.stops w f with s serves)
