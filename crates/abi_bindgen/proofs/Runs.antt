-- How code that does one thing and code that does another compose, over any meaning.
use Rattle.std.proofs.Common.{◌≡◌, ℕ, Bool, true, false, if◌then◌else◌, List, [], ◌∷◌, ◌++◌, length, refl, sym, ap, ◌∙◌, subst, arith, append_assoc}
use Rattle.wrapper_data.specs.declared.block.Block.{Block}
use Rattle.wrapper_data.specs.declared.word.Word.{Word}
use Rattle.abi_bindgen.specs.Account.{Account, Done, Follows, Got, Outcome, Stopped, Stops, Stuck, account_in, addresses, is_taken, releasing, then_do, without}
use Rattle.abi_bindgen.specs.Instructions.{IsSide}
use Rattle.abi_bindgen.specs.Laws.{Adds, After, At, Data, Does, Facts, Grows, Quiet, Sound, Stays, core_data, ofs}
use Rattle.abi_bindgen.specs.Meaning.{Meaning, of, word}
use Rattle.wrapper_meaning.proofs.PostReturn.{total-append}

-- 1. Outcomes

pub stops_same : {V S : Type 0} (account : S → Account V) (o : Outcome V S) → Stops account o o
stops_same account (Done s) = tt
stops_same account (Stopped e acc) = refl
stops_same account (Stuck acc) = refl

-- where the second run is stuck, so was the first
pub stops_both : {V S : Type 0} (account : S → Account V) (o q r : Outcome V S) → Stops account o q → Stops account q r → (account_in account r).calls ≡ (account_in account q).calls → Stops account o r
stops_both account (Done s) q r h k quiet = tt
stops_both account (Stopped e acc) q r h k quiet = subst (λ z. Stops account z r) h k
stops_both account (Stuck acc) q r h k quiet = quiet ∙ h

-- a run that follows one action, and a longer one that goes on and follows another
pub follows_then : {V A B S : Type 0} (account : S → Account V) (o : Outcome V A) (next : A → Outcome V B) (p q : Outcome V S) (P : A → S → Type 0) (Q : B → S → Type 0)
    → Follows account o p P → Stops account p q → (account_in account q).calls ≡ (account_in account p).calls → ((x : A) (t : S) → p ≡ Done t → P x t → Follows account (next x) q Q) → Follows account (then_do o next) q Q
follows_then account (Done x) next p q P Q h stops quiet go = go x h.0 h.1 h.2
follows_then account (Stopped e acc) next p q P Q h stops quiet go = subst (λ z. Stops account z q) h stops
follows_then account (Stuck acc) next p q P Q h stops quiet go = quiet ∙ h

pub follows_more : {V A S : Type 0} (account : S → Account V) (o : Outcome V A) (q : Outcome V S) (P Q : A → S → Type 0) → Follows account o q P → ((x : A) (t : S) → P x t → Q x t) → Follows account o q Q
follows_more account (Done x) q P Q h go = (h.0, h.1, go x h.0 h.2)
follows_more account (Stopped e acc) q P Q h go = h
follows_more account (Stuck acc) q P Q h go = h

-- 2. Owners that are let go one after another

then_if : {V A B : Type 0} (b : Bool) (p : Outcome V B) (x : Outcome V A) (acc : Account V) (go : A → Outcome V B) → p ≡ then_do x go → (if b then p else Stuck acc) ≡ then_do (if b then x else Stuck acc) go
then_if true p x acc go h = h
then_if false p x acc go h = refl

pub releasing_both : {V : Type 0} (xs ys : List ℕ) (acc : Account V) → releasing (xs ++ ys) acc ≡ then_do (releasing xs acc) (λ x. releasing ys x.account)
releasing_both [] ys acc = refl
releasing_both (x ∷ xs) ys acc =
    then_if (is_taken x acc.taken) (releasing (xs ++ ys) (record acc { taken = without x acc.taken })) (releasing xs (record acc { taken = without x acc.taken })) acc (λ y. releasing ys y.account)
    (releasing_both xs ys (record acc { taken = without x acc.taken }))

pub addresses_both : (xs ys : List Block) → addresses (xs ++ ys) ≡ addresses xs ++ addresses ys
addresses_both [] ys = refl
addresses_both (x ∷ xs) ys = ap (λ zs. x.address ∷ zs) (addresses_both xs ys)

-- 3. Code that grows

module _ {Self Operand : Type 0} (m : Meaning Self Operand) where
  pub grows_same : (a : Self) → Grows m a a
  grows_same a = record { serves = λ w h. h; more = λ w h. (w, h); stops = λ w f s h. stops_same m.account (m.does w f (m.code a) s); imports = refl; exports = refl; arguments = refl; knows = λ types h. h; writes = λ types id h. h; target = λ f. refl; crosses = λ w f. refl; opened = refl; known = λ w facts s h. h }

  pub adds_same : (a : Self) → Adds m a a
  adds_same a = record { grows = grows_same a; quiet = λ w f s h. refl; uncalled = λ u. u; asked = refl; blocks = refl }

  pub grows_both : (a b c : Self) → Grows m a b → Grows m b c → Quiet m b c → Grows m a c
  grows_both a b c g h quiet = record {
    serves = λ w s. g.serves w (h.serves w s);
    more = λ w s. let x = g.more w s in h.more x.0 x.1;
    stops = λ w f s v. stops_both m.account (m.does w f (m.code a) s) (m.does w f (m.code b) s) (m.does w f (m.code c) s) (g.stops w f s (h.serves w v)) (h.stops w f s v) (quiet w f s v);
    imports = h.imports ∙ g.imports;
    exports = h.exports ∙ g.exports;
    arguments = h.arguments ∙ g.arguments;
    knows = λ types k. h.knows types (g.knows types k);
    writes = λ types id k. h.writes types id (g.writes types id k);
    target = λ fn. h.target fn ∙ g.target fn;
    crosses = λ w fn. h.crosses w fn ∙ g.crosses w fn;
    opened = h.opened ∙ g.opened;
    known = λ w facts s k. h.known w facts s (g.known w facts s k);
  }

  pub quiet_both : (a b c : Self) → Quiet m a b → Grows m b c → Quiet m b c → Quiet m a c
  quiet_both a b c g h quiet w f s v = quiet w f s v ∙ g w f s (h.serves w v)

  pub adds_both : (a b c : Self) → Adds m a b → Adds m b c → Adds m a c
  adds_both a b c g h = record { grows = grows_both a b c g.grows h.grows h.quiet; quiet = quiet_both a b c g.quiet h.grows h.quiet; uncalled = λ u. h.uncalled (g.uncalled u); asked = h.asked ∙ g.asked; blocks = h.blocks ∙ g.blocks }

  -- 4. Facts of lists

  pub ofs_none : (os : List Operand) → ofs m os [] ≡ []
  ofs_none [] = refl
  ofs_none (o ∷ os) = refl

  pub ofs_append : (os ps : List Operand) (ds es : Data m) → length ds ≡ length os → ofs m (os ++ ps) (ds ++ es) ≡ ofs m os ds ++ ofs m ps es
  ofs_append [] ps [] es e = refl
  ofs_append [] ps (d ∷ ds) es e = absurd (omega (arith, e))
  ofs_append (o ∷ os) ps [] es e = absurd (omega (arith, e))
  ofs_append (o ∷ os) ps (d ∷ ds) es e = ap (λ fs. of o d ∷ fs) (ofs_append os ps ds es (omega (arith, e)))

  pub core_append : (xs ys : List Word) → core_data m (xs ++ ys) ≡ core_data m xs ++ core_data m ys
  core_append [] ys = refl
  core_append (x ∷ xs) ys = ap (λ ds. word x ∷ ds) (core_append xs ys)

  -- 5. Steps

  -- code that lets go of owners, and code that lets go of others
  pub does_both : Sound m → (a b c : Self) (one two mid out : Facts m) (xs ys : List ℕ) → Adds m b c
      → Does m (Unit {0}) a b one (λ f. releasing xs) (λ u fs. fs ≡ mid) (λ u. []) (λ u. xs) → Does m (Unit {0}) b c two (λ f. releasing ys) (λ u fs. fs ≡ out) (λ u. []) (λ u. ys)
      → Does m (Unit {0}) a c (one ++ two) (λ f. releasing (xs ++ ys)) (λ u fs. fs ≡ mid ++ out) (λ u. []) (λ u. xs ++ ys)
  does_both sound a b c one two mid out xs ys adds first later w f others s0 s at =
      let sv = adds.grows.serves w at.serves in
      let at1 : At m w f a b (one ++ (two ++ others)) s0 s = record { serves = sv; done = at.done; holds = subst (λ fs. m.denotes w a fs s) (append_assoc one two others) at.holds } in
      let FirstHolds : Got m.Item (Unit {0}) → m.State → Type 0 = λ x t. (outs : Facts m) × (outs ≡ mid) × After m w b (outs ++ (two ++ others)) [] xs s x t in
      let R : Got m.Item (Unit {0}) → m.State → Type 0 = λ x t. (outs : Facts m) × (outs ≡ mid ++ out) × After m w c (outs ++ others) [] (xs ++ ys) s x t in
      subst (λ o. Follows m.account o (m.does w f (m.code c) s0) R) (sym (releasing_both xs ys (m.account s)))
      (follows_then m.account (releasing xs (m.account s)) (λ x. releasing ys x.account) (m.does w f (m.code b) s0) (m.does w f (m.code c) s0) FirstHolds R
      (first w f (two ++ others) s0 s at1) (adds.grows.stops w f s0 at.serves) (adds.quiet w f s0 at.serves)
      (λ x t done r.
      let here : m.denotes w b (mid ++ (two ++ others)) t = subst (λ fs. m.denotes w b (fs ++ (two ++ others)) t) r.1 r.2.denotes in
      let at2 : At m w f b c (two ++ (mid ++ others)) s0 t = record { serves = at.serves; done = done; holds = sound.swap w b mid two others t here } in
      let SecondHolds : Got m.Item (Unit {0}) → m.State → Type 0 = λ y u. (outs : Facts m) × (outs ≡ out) × After m w c (outs ++ (mid ++ others)) [] ys t y u in
      follows_more m.account (releasing ys x.account) (m.does w f (m.code c) s0) SecondHolds R
      (subst (λ acc. Follows m.account (releasing ys acc) (m.does w f (m.code c) s0) SecondHolds) r.2.account (later w f (mid ++ others) s0 t at2))
      (λ y u q.
      let now : m.denotes w c (out ++ (mid ++ others)) u = subst (λ fs. m.denotes w c (fs ++ (mid ++ others)) u) q.1 q.2.denotes in (
        mid ++ out,
        refl,
        record {
          account = q.2.account;
          owns = λ g. omega (arith, r.2.owns g, q.2.owns g, total-append g (m.owns t) xs, total-append g (m.owns s) [], total-append g (m.owns u) ys, total-append g (m.owns t) [], total-append g (m.owns u) (xs ++ ys), total-append g xs ys);
          denotes = subst (λ fs. m.denotes w c fs u) (sym (append_assoc mid out others)) (sound.swap w c out mid others u now);
        },
      ))))

  -- code that changes nothing but what operands denote, and code that does more
  pub stays_then : (a b c : Self) (one mid out : Facts m) (xs : List ℕ) → Adds m b c → Stays m a b one (λ fs. fs ≡ mid) → Does m (Unit {0}) b c mid (λ f. releasing xs) (λ u fs. fs ≡ out) (λ u. []) (λ u. xs)
      → Does m (Unit {0}) a c one (λ f. releasing xs) (λ u fs. fs ≡ out) (λ u. []) (λ u. xs)
  stays_then a b c one mid out xs adds first later w f others s0 s at =
      let at1 : At m w f a b (one ++ others) s0 s = record { serves = adds.grows.serves w at.serves; done = at.done; holds = at.holds } in
      let r = first w f others s0 s at1 in
      let t = r.0 in
      let after = r.2.2 in
      let at2 : At m w f b c (mid ++ others) s0 t = record { serves = at.serves; done = r.1; holds = subst (λ fs. m.denotes w b (fs ++ others) t) r.2.1 after.denotes } in
      let SecondHolds : Got m.Item (Unit {0}) → m.State → Type 0 = λ y u. (outs : Facts m) × (outs ≡ out) × After m w c (outs ++ others) [] xs t y u in
      let R : Got m.Item (Unit {0}) → m.State → Type 0 = λ y u. (outs : Facts m) × (outs ≡ out) × After m w c (outs ++ others) [] xs s y u in
      subst (λ acc. Follows m.account (releasing xs acc) (m.does w f (m.code c) s0) R) after.account
      (follows_more m.account (releasing xs (m.account t)) (m.does w f (m.code c) s0) SecondHolds R (later w f others s0 t at2)
      (λ y u q. (
        q.0,
        q.1,
        record {
          account = q.2.account;
          owns = λ g. omega (arith, after.owns g, q.2.owns g, total-append g (m.owns t) [], total-append g (m.owns s) [], total-append g (m.owns u) xs);
          denotes = q.2.denotes;
        },
      )))

  -- no code does nothing
  pub does_none : (a : Self) → Does m (Unit {0}) a a [] (λ f. releasing []) (λ u fs. fs ≡ []) (λ u. []) (λ u. [])
  does_none a w f others s0 s at = (s, at.done, ([], refl, record { account = refl; owns = λ g. refl; denotes = at.holds }))

  -- the side stays
  pub side_later : (a b : Self) (realloc : Bool) → Grows m a b → IsSide m realloc a → IsSide m realloc b
  side_later a b true g h = g.exports ∙ h
  side_later a b false g h = g.imports ∙ h
