-- Actions that are done, and owners that are let go.
use mathlib.Core.Logic.{inl, inr}
use Rattle.std.proofs.Common.{◌≡◌, ◌⊎◌, ◌≤◌, ℕ, ◌+◌, ◌||◌, Bool, true, false, nat_eq, List, [], ◌∷◌, ◌++◌, if◌then◌else◌, refl, sym, ap, ◌∙◌, subst, arith}
use Rattle.std.proofs.lemmas.Bool.{eq-eqb}
use Rattle.std.proofs.lemmas.Bool.Decides.{eqb_tells}
use Rattle.wrapper_meaning.specs.Items.{SameItems, total}
use Rattle.abi_bindgen.specs.Account.{Account, Act, Done, Follows, Got, Outcome, Peer, Stuck, is_taken, releasing, without}
use Rattle.abi_bindgen.specs.Laws.{After, At, Does, Facts}
use Rattle.abi_bindgen.specs.Meaning.{Meaning}
use Rattle.abi_bindgen.specs.Lowering.{Releases}

if_done : {V A : Type 0} (b : Bool) (o q : Outcome V A) → b ≡ true → (if b then o else q) ≡ o
if_done b o q e = ap (λ c. if c then o else q) e

-- blocks that have owners are let go
pub lets_go : {V : Type 0} (places left : List ℕ) (acc : Account V) → Releases places acc.taken left → releasing places acc ≡ Done (record { result = tt; account = record acc { taken = left } })
lets_go {V} [] left acc h = ap (λ (ts : List ℕ). Done (record { result = tt; account = record acc { taken = ts } })) (sym h)
lets_go {V} (a ∷ places) left acc h =
    if_done (is_taken a acc.taken) (releasing places (record acc { taken = without a acc.taken })) (Stuck acc) h.0 ∙ lets_go places left (record acc { taken = without a acc.taken }) h.1

-- and then others
pub releases_both : (xs ys taken left : List ℕ) → Releases (xs ++ ys) taken left → (mid : List ℕ) × Releases xs taken mid × Releases ys mid left
releases_both [] ys taken left h = (taken, refl, h)
releases_both (x ∷ xs) ys taken left h = let r = releases_both xs ys (without x taken) left h.1 in (r.0, (h.0, r.1), r.2)

-- how often an address is
abbrev pub is_it : ℕ → ℕ → ℕ
is_it a t = if nat_eq t a then 1 else 0

pub same_is : (n : ℕ) → is_it n n ≡ 1
same_is n = ap (λ b. if b then 1 else 0) (eq-eqb n n refl)

pub is_there : (a : ℕ) (taken : List ℕ) → 1 ≤ total (is_it a) taken → is_taken a taken ≡ true
is_there a [] h = absurd (omega (arith, h))
is_there a (t ∷ taken) h = by (nat_eq t a) (is_there a taken) h
  where
    by : (b : Bool) → (1 ≤ total (is_it a) taken → is_taken a taken ≡ true) → 1 ≤ (if b then 1 else 0) + total (is_it a) taken → (b || is_taken a taken) ≡ true
    by true later h = refl
    by false later h = later (omega (arith, h))

pub without_one : (g : ℕ → ℕ) (a : ℕ) (taken : List ℕ) → is_taken a taken ≡ true → g a + total g (without a taken) ≡ total g taken
without_one g a [] h = absurd (let e = h in cc)
without_one g a (t ∷ taken) h = by (nat_eq t a) (eqb_tells t a) (without_one g a taken) h
  where
    by : (b : Bool) → (((nat_eq t a ≡ true) × (t ≡ a)) ⊎ ((nat_eq t a ≡ false) × (t ≡ a → ⊥))) → (is_taken a taken ≡ true → g a + total g (without a taken) ≡ total g taken)
        → is_taken a (t ∷ taken) ≡ true → g a + total g (without a (t ∷ taken)) ≡ total g (t ∷ taken)
    by b (inl (hit, same)) later h =
        ap (λ c. g a + total g (if c then taken else t ∷ without a taken)) hit ∙ ap (λ x. g x + total g taken) (sym same)
    by b (inr (miss, other)) later h =
        let rest : is_taken a taken ≡ true = sym (ap (λ c. c || is_taken a taken) miss) ∙ h in
        ap (λ c. g a + total g (if c then taken else t ∷ without a taken)) miss ∙ omega (arith, later rest)

nothing_left : (taken : List ℕ) → SameItems taken [] → taken ≡ []
nothing_left [] h = refl
nothing_left (t ∷ taken) h = absurd (omega (arith, h (λ x. 1)))

-- where these are all owners, nothing has one then
pub releases_all : (places taken : List ℕ) → SameItems taken places → Releases places taken []
releases_all [] taken h = sym (nothing_left taken h)
releases_all (a ∷ places) taken h =
    let here : is_taken a taken ≡ true = is_there a taken (omega (arith, h (is_it a), same_is a)) in
    (here, releases_all places (without a taken) (λ g. omega (arith, h g, without_one g a taken here)))

module _ {Self Operand : Type 0} (m : Meaning Self Operand) where
  -- code that does an action which is done
  pub does_done : (A : Type 0) (old new : Self) (ins : Facts m) (act : Peer m.Item → Act m.Item A) (Outs : A → Facts m → Type 0) (made gone : A → List ℕ) → Does m A old new ins act Outs made gone
      → (w : m.World) (f : Peer m.Item) (others : Facts m) (s0 s : m.State) → At m w f old new (ins ++ others) s0 s → (x : Got m.Item A) → act f (m.account s) ≡ Done x
      → (t : m.State) × (m.does w f (m.code new) s0 ≡ Done t) × ((outs : Facts m) × Outs x.result outs × After m w new (outs ++ others) (made x.result) (gone x.result) s x t)
  does_done A old new ins act Outs made gone row w f others s0 s at x e =
      let P : Got m.Item A → m.State → Type 0 = λ y t. (outs : Facts m) × Outs y.result outs × After m w new (outs ++ others) (made y.result) (gone y.result) s y t in
      subst (λ o. Follows m.account o (m.does w f (m.code new) s0) P) e (row w f others s0 s at)
