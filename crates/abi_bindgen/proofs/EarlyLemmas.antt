-- How early ends compose.
use Rattle.std.proofs.Common.{◌≡◌, ◌+◌, ◌∙◌, ℕ, zero, suc, Bool, true, false, List, [], ◌∷◌, ◌++◌, Option, ap, drop, length, refl, subst, sym, slice_get, inl, inr, arith, append_assoc, append-nil, length-append}
use Rattle.std.proofs.lemmas.List.{drop-drop}
use Rattle.wrapper_data.specs.declared.choice.Choice.{Choice}
use Rattle.wrapper_data.specs.declared.choice.Request.{Request}
use Rattle.wrapper_data.specs.declared.run.Stop.{Stop}
use Rattle.wrapper_data.specs.declared.run.Stop.TheVariants as stop
use Rattle.wrapper_meaning.specs.Ends.{Meets}
use Rattle.abi_bindgen.specs.Account.{Account, Done, Follows, Outcome, Stopped, Stops, Stuck, then_do}
use Rattle.abi_bindgen.specs.Early.{Comes, Early, HasAsked, IsLarge, IsLicensed}

get_behind : {A : Type 0} (xs : List A) (n i : ℕ) → slice_get (drop n xs) i ≡ slice_get xs (n + i)
get_behind [] zero i = refl
get_behind [] (suc n) i = refl
get_behind (x ∷ xs) zero i = ap (slice_get (x ∷ xs)) (let e : i ≡ 0 + i = omega arith in e)
get_behind (x ∷ xs) (suc n) i = get_behind xs n i ∙ ap (slice_get (x ∷ xs)) (let e : suc (n + i) ≡ suc n + i = omega arith in e)

-- 1. What was asked for

pub asked_none : {V : Type 0} (a : Account V) → HasAsked [] a a
asked_none a = record { requests = sym (append-nil a.requests); choices = refl; calls = refl }

pub asked_both : {V : Type 0} (one two : List Request) (a b c : Account V) → HasAsked one a b → HasAsked two b c → HasAsked (one ++ two) a c
asked_both one two a b c h k = record {
  requests = k.requests ∙ ap (λ rs. rs ++ two) h.requests ∙ append_assoc a.requests one two;
  choices = k.choices ∙ ap (drop (length two)) h.choices ∙ drop-drop (length two) (length one) a.choices ∙ ap (λ n. drop n a.choices) (sym (length-append one two));
  calls = k.calls ∙ h.calls;
}

-- 2. Early ends

met_behind : (one made : List Request) (from later : List Choice) (r : Request) (met : Option Choice) → later ≡ drop (length one) from → Meets later made r met → Meets from (one ++ made) r met
met_behind one made from later r met e h = record {
  earlier = one ++ h.earlier;
  last = ap (λ rs. one ++ rs) h.last ∙ sym (append_assoc one h.earlier (r ∷ []));
  takes = ap (slice_get from) (length-append one h.earlier) ∙ sym (get_behind from (length one) (length h.earlier)) ∙ ap (λ cs. slice_get cs (length h.earlier)) (sym e) ∙ h.takes;
}

-- behind what was asked for already
pub early_behind : {V : Type 0} (large : Bool) (one two : List Request) (a b c : Account V) (e : Stop) → HasAsked one a b → Early large two b e c → Early large (one ++ two) a e c
early_behind {V} large one two a b c e h k = record {
  made = one ++ k.made;
  left = k.left;
  all = ap (λ rs. one ++ rs) k.all ∙ sym (append_assoc one k.made k.left);
  requests = k.requests ∙ ap (λ rs. rs ++ k.made) h.requests ∙ append_assoc a.requests one k.made;
  calls = k.calls ∙ h.calls;
  formed = k.formed;
  licence = go e k.licence;
}
  where
    go : (e : Stop) → IsLicensed large k.made k.left b c e → IsLicensed large (one ++ k.made) k.left a c e
    go (stop.Refused r) (inl m) = inl (met_behind one k.made a.choices b.choices r _ h.choices m)
    go (stop.Refused r) (inr l) = inr l
    go stop.BadChoice (r, met, m, bad) = (r, met, met_behind one k.made a.choices b.choices r met h.choices m, bad)
    go stop.Done l = elim l [ ]
    go (stop.Trap kind) l = elim l [ ]
    go (stop.Stuck n) l = elim l [ ]

-- with more that is due behind it
pub early_front : {V : Type 0} (large : Bool) (one two : List Request) (a c : Account V) (e : Stop) → Early large one a e c → Early large (one ++ two) a e c
early_front {V} large one two a c e k = record {
  made = k.made;
  left = k.left ++ two;
  all = ap (λ rs. rs ++ two) k.all ∙ append_assoc k.made k.left two;
  requests = k.requests;
  calls = k.calls;
  formed = k.formed;
  licence = go e k.licence;
}
  where
    wide : (t : Bool) (left : List Request) (r : Request) → IsLarge t left r → IsLarge t (left ++ two) r
    wide true (x ∷ left) r l = l
    wide true [] r l = elim l [ ]
    wide false left r l = elim l [ ]

    go : (e : Stop) → IsLicensed large k.made k.left a c e → IsLicensed large k.made (k.left ++ two) a c e
    go (stop.Refused r) (inl m) = inl m
    go (stop.Refused r) (inr l) = inr (wide large k.left r l)
    go stop.BadChoice l = l
    go stop.Done l = elim l [ ]
    go (stop.Trap kind) l = elim l [ ]
    go (stop.Stuck n) l = elim l [ ]

-- 3. Outcomes

-- where nothing is due, no code ends early
pub comes_none : {V S : Type 0} (large : Bool) (due : List Request) (a : Account V) (o : Outcome V S) (P : S → Type 0) → due ≡ [] → Comes large due a o P → (s : S) × (o ≡ Done s) × P s
comes_none large due a (Done s) P none h = (s, refl, h)
comes_none {V} large due a (Stopped e acc) P none h = absurd (go e h.made h.left (sym h.all ∙ none) h.licence)
  where
    unmade : (made left : List Request) (r : Request) (met : Option Choice) → made ++ left ≡ [] → Meets a.choices made r met → ⊥
    unmade made left r met is m = ends (made) m.earlier is m.last
      where
        ends : (made earlier : List Request) → made ++ left ≡ [] → made ≡ earlier ++ r ∷ [] → ⊥
        ends [] [] is e = let h : [] ≡ r ∷ [] = e in cc
        ends [] (x ∷ earlier) is e = cc
        ends (x ∷ made) earlier is e = let h : x ∷ (made ++ left) ≡ [] = is in cc

    go : (e : Stop) (made left : List Request) → made ++ left ≡ [] → IsLicensed large made left a acc e → ⊥
    go (stop.Refused r) made left is (inl m) = unmade made left r _ is m
    go (stop.Refused r) made left is (inr l) = unlarge large made left is l
      where
        unlarge : (t : Bool) (made left : List Request) → made ++ left ≡ [] → IsLarge t left r → ⊥
        unlarge true [] (x ∷ left) is l = let h : x ∷ left ≡ [] = is in cc
        unlarge true (y ∷ made) (x ∷ left) is l = let h : y ∷ (made ++ x ∷ left) ≡ [] = is in cc
        unlarge true made [] is l = elim l [ ]
        unlarge false made left is l = elim l [ ]
    go stop.BadChoice made left is (r, met, m, bad) = unmade made left r met is m
    go stop.Done made left is l = elim l [ ]
    go (stop.Trap kind) made left is l = elim l [ ]
    go (stop.Stuck n) made left is l = elim l [ ]
comes_none large due a (Stuck acc) P none h = elim h [ ]

pub comes_more : {V S : Type 0} (large : Bool) (due : List Request) (a : Account V) (o : Outcome V S) (P Q : S → Type 0) → Comes large due a o P → ((s : S) → o ≡ Done s → P s → Q s) → Comes large due a o Q
comes_more large due a (Done s) P Q h go = go s refl h
comes_more large due a (Stopped e acc) P Q h go = h
comes_more large due a (Stuck acc) P Q h go = h

-- a run that goes on from an account in which more was asked for
pub comes_behind : {V S : Type 0} (large : Bool) (one two : List Request) (a b : Account V) (o : Outcome V S) (P Q : S → Type 0) → HasAsked one a b → Comes large two b o P → ((s : S) → o ≡ Done s → P s → Q s) → Comes large (one ++ two) a o Q
comes_behind large one two a b (Done s) P Q asked h go = go s refl h
comes_behind large one two a b (Stopped e acc) P Q asked h go = early_behind large one two a b acc e asked h
comes_behind large one two a b (Stuck acc) P Q asked h go = h

-- a run, and then one that goes on
pub comes_then : {V A B : Type 0} (large : Bool) (one two : List Request) (a : Account V) (o : Outcome V A) (next : A → Outcome V B) (account : A → Account V) (P : A → Type 0) (Q : B → Type 0)
    → Comes large one a o (λ x. HasAsked one a (account x) × P x) → ((x : A) → o ≡ Done x → P x → Comes large two (account x) (next x) Q) → Comes large (one ++ two) a (then_do o next) Q
comes_then large one two a (Done x) next account P Q h go = by (next x) (go x refl h.1)
  where
    by : (o : Outcome _ _) → Comes large two (account x) o Q → Comes large (one ++ two) a o Q
    by (Done y) k = k
    by (Stopped e acc) k = early_behind large one two a (account x) acc e h.0 k
    by (Stuck acc) k = k
comes_then large one two a (Stopped e acc) next account P Q h go = early_front large one two a acc e h
comes_then large one two a (Stuck acc) next account P Q h go = elim h [ ]

-- longer code, whose run goes on from where that of the earlier code is done
pub comes_on : {V S : Type 0} (large : Bool) (one two : List Request) (account : S → Account V) (a : Account V) (o later : Outcome V S) (P Q : S → Type 0) → Stops account o later
    → Comes large one a o (λ s. HasAsked one a (account s) × P s) → ((s : S) → o ≡ Done s → P s → Comes large two (account s) later Q) → Comes large (one ++ two) a later Q
comes_on {V} {S} large one two account a (Done s) later P Q stops h go = by later (go s refl h.1)
  where
    by : (o : Outcome V S) → Comes large two (account s) o Q → Comes large (one ++ two) a o Q
    by (Done y) k = k
    by (Stopped e acc) k = early_behind large one two a (account s) acc e h.0 k
    by (Stuck acc) k = k
comes_on large one two account a (Stopped e acc) later P Q stops h go = subst (λ o. Comes large (one ++ two) a o Q) (sym stops) (early_front large one two a acc e h)
comes_on large one two account a (Stuck acc) later P Q stops h go = elim h [ ]

-- code that follows an action ends as that does
pub comes_by : {V A S : Type 0} (large : Bool) (due : List Request) (account : S → Account V) (a : Account V) (o : Outcome V A) (q : Outcome V S) (P : A → Type 0) (R : A → S → Type 0) (Q : S → Type 0)
    → Comes large due a o P → Follows account o q R → ((x : A) (t : S) → o ≡ Done x → P x → R x t → Q t) → Comes large due a q Q
comes_by large due account a (Done x) q P R Q h f go = subst (λ z. Comes large due a z Q) (sym f.1) (go x f.0 refl h f.2)
comes_by large due account a (Stopped e acc) q P R Q h f go = subst (λ z. Comes large due a z Q) (sym f) h
comes_by large due account a (Stuck acc) q P R Q h f go = elim h [ ]
