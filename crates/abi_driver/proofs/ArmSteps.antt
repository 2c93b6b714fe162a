-- The arm that serves the number of a case is run, and what it then gives.
use Rattle.std.proofs.Common.{◌≡◌, ℕ, suc, ◌<◌, nat_lt, Bool, true, pos, List, if◌then◌else◌, Some, refl, ap, ◌∙◌, sym, subst}
use Rattle.std.specs.List.{slice_get}
use Rattle.std.proofs.lemmas.Bool.{cond-true, lt-ltb}
use mathlib.Core.Logic.{inl, inr}
use Rattle.wrapper_data.specs.declared.word.Word.TheVariants as core
use Rattle.wrapper_meaning.specs.Settled.{settled_case}
use Rattle.wrapper_meaning.specs.Shape.{Shapes}
use Rattle.wrapper_meaning.specs.Shape.Shapes.{none, more}
use Rattle.wrapper_meaning.specs.Value.{Case, case_number}
use Rattle.abi_bindgen.specs.Account.{Done, Got, Outcome, Peer, Stuck, then_do, Account, Follows, Stopped}
use Rattle.abi_bindgen.specs.Arms.{Armed, arm, arms, choosing, matching}
use Rattle.abi_bindgen.specs.Blocks.{Gives}
use Rattle.abi_bindgen.specs.Laws.{Data}
use Rattle.abi_bindgen.specs.Meaning.{Ended, Meaning, with_nothing}
use Rattle.abi_bindgen.specs.Turns.{Went}
use Rattle.abi_bindgen.specs.Early.{Comes}
use Rattle.wrapper_data.specs.declared.choice.Request.{Request}

-- 1. The number of a case

pub number_settled : (ts : Shapes) (c : Case ts) → case_number ts (settled_case ts c) ≡ case_number ts c
number_settled none c = elim c [ ]
number_settled (more t ts) (inl v) = refl
number_settled (more t ts) (inr c) = ap suc (number_settled ts c)

-- 2. Its arm

module _ {Self Operand : Type 0} (m : Meaning Self Operand) where
  -- what is left behind the arm of a case
  abbrev pub went : ℕ → Data m → m.State → Went m (Armed m)
  went i ds s = record { result = record { number = i; results = ds }; state = s; account = m.account s }

  pub arm_runs : (fits : Data m → Bool) (w : m.World) (f : Peer m.Item) (last_serves : Bool) (n : ℕ) (blocks : List m.Block) (i : ℕ) (s u : m.State) (body : m.Block) (ds : Data m) → i < n → slice_get (arms m n blocks) i ≡ Some body
      → (h : Gives m w f body with_nothing s u ds) → fits ds ≡ true → matching m fits w f last_serves n blocks (core.I32 (pos i)) s ≡ Done (went i ds h.state)
  arm_runs fits w f last_serves n blocks i s u body ds below here h fit =
      let Result : Type 0 = Went m (Armed m) in
      let run : m.Block → m.State → Outcome m.Item (Ended m.Item m.State) = λ z. m.runs w f z with_nothing in
      let next : Got m.Item ℕ → Outcome m.Item Result = λ j. arm m fits run j.result s (slice_get (arms m n blocks) j.result) in
      let go : Ended m.Item m.State → Outcome m.Item Result = λ z. if fits z.results then Done (went i z.results z.state) else Stuck (m.account z.state) in
      let chosen : choosing f.form last_serves n (core.I32 (pos i)) (m.account s) ≡ Done (record { result = i; account = m.account s }) = cond-true (nat_lt i n) _ _ (lt-ltb i n below) in
      ap (λ o. then_do o next) chosen ∙ ap (arm m fits run i s) here ∙ ap (λ o. then_do o go) h.runs ∙ cond-true (fits ds) _ _ fit

  -- where the body comes to data that fit, the code behind comes to what is left then
  pub arm_comes : {A : Type 0} (large : Bool) (due : List Request) (acc : Account m.Item) (q : Outcome m.Item (Ended m.Item m.State)) (o : Outcome m.Item m.State) (go : Ended m.Item m.State → Outcome m.Item A) (First : Ended m.Item m.State → Type 0)
      (Behind : A → m.State → Type 0) (Whole : m.State → Type 0) → Comes large due acc q First → Follows m.account (then_do q go) o Behind → (result : Ended m.Item m.State → A) → ((e : Ended m.Item m.State) → First e → go e ≡ Done (result e))
      → ((e : Ended m.Item m.State) (t : m.State) → First e → Behind (result e) t → Whole t) → Comes large due acc o Whole
  arm_comes large due acc (Done e) o go First Behind Whole h follows result is last =
      let r = subst (λ z. Follows m.account z o Behind) (is e h) follows in
      subst (λ z. Comes large due acc z Whole) (sym r.1) (last e r.0 h r.2)
  arm_comes large due acc (Stopped e end) o go First Behind Whole h follows result is last = subst (λ z. Comes large due acc z Whole) (sym follows) h
  arm_comes large due acc (Stuck end) o go First Behind Whole h follows result is last = elim h [ ]

  -- the arm that serves the number of a case is its block
  abbrev pub fitting : (fits : Data m → Bool) → ℕ → Ended m.Item m.State → Outcome m.Item (Went m (Armed m))
  fitting fits i e = if fits e.results then Done (went i e.results e.state) else Stuck (m.account e.state)

  pub arm_is : (fits : Data m → Bool) (w : m.World) (f : Peer m.Item) (last_serves : Bool) (n : ℕ) (blocks : List m.Block) (i : ℕ) (s : m.State) (body : m.Block) → i < n → slice_get (arms m n blocks) i ≡ Some body
      → matching m fits w f last_serves n blocks (core.I32 (pos i)) s ≡ then_do (m.runs w f body with_nothing s) (fitting fits i)
  arm_is fits w f last_serves n blocks i s body below here =
      let Result : Type 0 = Went m (Armed m) in
      let run : m.Block → m.State → Outcome m.Item (Ended m.Item m.State) = λ z. m.runs w f z with_nothing in
      let next : Got m.Item ℕ → Outcome m.Item Result = λ j. arm m fits run j.result s (slice_get (arms m n blocks) j.result) in
      let chosen : choosing f.form last_serves n (core.I32 (pos i)) (m.account s) ≡ Done (record { result = i; account = m.account s }) = cond-true (nat_lt i n) _ _ (lt-ltb i n below) in
      ap (λ o. then_do o next) chosen ∙ ap (arm m fits run i s) here
