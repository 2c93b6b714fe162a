-- The rows of matches by numbers: cases of options, of results and of variants are lifted, and blocks free.
use Rattle.std.proofs.Common.{◌≡◌, ◌+◌, ◌-◌, ◌||◌, ℕ, zero, suc, ℤ, pos, negsuc, Bool, true, false, cond, nat_eq, nat_lt, List, [], ◌∷◌, ◌++◌, length, map, reverse, Option, Some, refl, sym, ap, ◌∙◌, subst, arith, append-nil, append_assoc}
use Rattle.std.specs.Prelude.{slice_get}
use Rattle.std.specs.List.{AllByRecursion, flat_map, list_all}
use Rattle.std.specs.Str.{bytes_eq}
use Rattle.std.proofs.lemmas.Bool.{and_parts, eqb-true, lt-ltb, ltb-false, ltb-true, or_parts}
use Rattle.std.proofs.Math.Bool.{or-true}
use Rattle.std.proofs.lemmas.List.Folds.{list_any-append}
use Rattle.std.proofs.lemmas.List.{length-map, length-reverse}
use Rattle.std.proofs.lemmas.Bool.Decides.{nat_tests}
use Rattle.wit_model.specs.Bytes.{Bytes}
use Rattle.rust_tree.specs.declared.expr.Expr.{Expr}
use Rattle.rust_tree.specs.declared.expr.Expr.TheVariants as expr
use Rattle.rust_tree.specs.declared.pattern.ArmPattern.TheVariants as arm_by
use Rattle.rust_tree.specs.declared.runtime_item.RuntimeItem.TheVariants.{InvalidEnumDiscriminant}
use Rattle.rust_tree.specs.declared.stmt.Block.{Block}
use Rattle.rust_tree.specs.declared.stmt.MatchNames.TheVariants as names_of
use Rattle.rust_tree.specs.Runtime.{item_name}
use Rattle.wrapper_data.specs.declared.form.Form.{Form}
use Rattle.wrapper_data.specs.declared.form.Form.TheVariants as form
use Rattle.wrapper_data.specs.declared.run.Stop.TheVariants as stop_of
use Rattle.wrapper_data.specs.declared.run.TrapKind.TheVariants as trap
use Rattle.wrapper_data.specs.declared.value.RustValue.{RustValue}
use Rattle.wrapper_data.specs.declared.word.Word.TheVariants as core
use Rattle.wrapper_meaning.specs.Shape.{Shapes}
use Rattle.wrapper_values.specs.declared.state.State.{State}
use Rattle.wrapper_values.specs.declared.state.Val.{Val}
use Rattle.wrapper_values.specs.declared.state.Val.TheVariants as val
use Rattle.wrapper_values.specs.Act as machine
use Rattle.wrapper_values.specs.Act.{◌>>◌}
use Rattle.wrapper_values.specs.Matches.{bind_results, expect_number, is_number}
use Rattle.wrapper_values.specs.Setting.{Setting, failed, fails as fails_with, stuck}
use Rattle.wrapper_run.specs.Arms.{run_arm}
use Rattle.wrapper_run.specs.Blocks.{in_scope, leave_to}
use Rattle.wrapper_run.specs.Inward.{is_inward}
use Rattle.wrapper_run.specs.Results.{run_results}
use Rattle.wrapper_run.specs.Run.{apply, call_callee, call_runtime, eval, runtime_item_named}
use Rattle.wrapper_run.proofs.LocalLemmas.{bytes_eq-same}
use Rattle.wrapper_run.proofs.StepLemmas.{eval-call}
use Rattle.abi_bindgen.specs.Account.{Account, Follows, Got, Outcome, Peer, failing, gives}
use Rattle.abi_bindgen.specs.Arms.{Armed, FreesCase, Matches, arm, choosing, gives_nothing, gives_payload, other_case, serves_none, serves_others}
use Rattle.abi_bindgen.specs.Blocks.{owned_datum}
use Rattle.abi_bindgen.specs.Cases.{LiftsCase}
use Rattle.abi_bindgen.specs.Laws.{Facts}
use Rattle.abi_bindgen.specs.Meaning.{with_nothing}
use Rattle.abi_bindgen.specs.Parts.{count}
use Rattle.abi_bindgen.specs.Turns.{Arrives, Went}
use Rattle.func_gen.specs.declared.case_form.CaseForm.{CaseForm}
use Rattle.func_gen.specs.declared.function_bindgen.FinishedBlock.{FinishedBlock}
use Rattle.func_gen.specs.declared.function_bindgen.FunctionBindgen.{FunctionBindgen}
use Rattle.func_gen.specs.declared.scope.Scope.{Scope}
use Rattle.func_gen.specs.Added.{Fresh}
use Rattle.func_gen.specs.Forms.{operand_of, runtime_path}
use Rattle.func_gen.specs.LiftedCases.{FreesBy, LiftsBy, LiftsVariantBy, case_expr, freed_body, invalid_body, is_liftable, is_unit, last_body, lifted_bodies}
use Rattle.func_gen.specs.MatchForms.{case_path}
use Rattle.func_gen.specs.Meaning.{File, Found, FuncState, Serves, account_of, func_meaning, run_finished, seen, setting_for}
use Rattle.func_gen.specs.PartForms.{exprs_of}
use Rattle.func_gen.specs.Scope.{is_used}
use Rattle.func_gen.proofs.ArmResults.{call_result, gives-code}
use Rattle.func_gen.proofs.CasesMade.{IsCaseOf}
use Rattle.func_gen.proofs.FreedCaseRows.{free_follows}
use Rattle.func_gen.proofs.LastArm.{as_entered, enter, enters, fails_last, inward_behind, named, passes_last, stops}
use Rattle.func_gen.proofs.Lasting.{SameArea}
use Rattle.func_gen.proofs.LiftedCaseRows.{AreCases, BodyOf, Outs, body_at, lift_follows}
use Rattle.func_gen.proofs.MatchByNumber.{AsLaw, chosen, law_at}
use Rattle.func_gen.proofs.NumberRows.{matches}
use Rattle.func_gen.proofs.NumberedArms.{IsNoNumber}
use Rattle.func_gen.proofs.RuntimeItems.{found_right}
use Rattle.func_gen.proofs.ScalarRows.{calls_runtime}

-- 1. Numbers of no case

same_number : (i : ℕ) → nat_eq i (0 + i) ≡ true
same_number i = grind (arith, nat_tests)

pub chooses_other : {V : Type 0} (f : Form) (serves : Bool) (n : ℕ) (z : ℤ) (acc : Account V) → IsNoNumber 0 n z → choosing f serves n (core.I32 z) acc ≡ other_case f serves n acc
chooses_other {V} f serves n (negsuc m) acc none = refl
chooses_other {V} f serves n (pos i) acc none = go (nat_lt i n) refl
  where
    go : (c : Bool) → nat_lt i n ≡ c → choosing f serves n (core.I32 (pos i)) acc ≡ other_case f serves n acc
    go false e = ap (λ b. cond b (gives i acc) (other_case f serves n acc)) e
    go true e = absurd (let z : true ≡ false = sym (same_number i) ∙ none i (ltb-true i n e) in cc)

plain_sum : (i : ℕ) → 0 + i ≡ i
plain_sum i = omega arith

-- what is called there ends the run
invalid_runs : (w : Setting) (s : State) → runtime_item_named w.items (item_name InvalidEnumDiscriminant) ≡ Some InvalidEnumDiscriminant → run_results w invalid_body s ≡ machine.Stopped (failed w trap.Discriminant) s
unfolding call_runtime
invalid_runs w s found =
    let path = runtime_path InvalidEnumDiscriminant in
    let called : eval w (expr.Call path []) s ≡ machine.Stopped (failed w trap.Discriminant) s =
    ap (λ (act : machine.Act Val). act s) (eval-call w path []) ∙ ap (λ c. call_callee w c [] s) (calls_runtime InvalidEnumDiscriminant) ∙ ap (λ o. apply w o [] s) found in
    ap (λ (act : machine.Act (List Val)). act s) (gives-code w [] (Some (expr.Call path []))) ∙ ap (λ es. machine.all (map (eval w) es) s) (call_result path []) ∙ ap (λ o. machine.and_then o (λ x. machine.pure (x ∷ []))) called

few_at : (i : ℕ) (blocks : List FinishedBlock) (b : FinishedBlock) → list_all is_liftable blocks ≡ true → slice_get blocks i ≡ Some b → is_liftable b ≡ true
few_at i [] b h k = absurd cc
few_at zero (x ∷ blocks) b h k = let one : x ≡ b = cc in ap is_liftable (sym one) ∙ (and_parts (is_liftable x) (list_all is_liftable blocks) h).0
few_at (suc i) (x ∷ blocks) b h k = few_at i blocks b (and_parts (is_liftable x) (list_all is_liftable blocks) h).1 k

inward_at : (i : ℕ) (bodies : List Block) (b : Block) → list_all is_inward bodies ≡ true → slice_get bodies i ≡ Some b → is_inward b ≡ true
inward_at i [] b h k = absurd cc
inward_at zero (x ∷ bodies) b h k = let one : x ≡ b = cc in ap is_inward (sym one) ∙ (and_parts (is_inward x) (list_all is_inward bodies) h).0
inward_at (suc i) (x ∷ bodies) b h k = inward_at i bodies b (and_parts (is_inward x) (list_all is_inward bodies) h).1 k

many_bodies : (forms : List CaseForm) (blocks : List FinishedBlock) → length blocks ≡ length forms → length (lifted_bodies forms blocks) ≡ length forms
many_bodies [] blocks h = refl
many_bodies (c ∷ forms) [] h = absurd (omega (arith, h))
many_bodies (c ∷ forms) (b ∷ blocks) h = ap suc (many_bodies forms blocks (omega (arith, h)))

-- 2. Options and results

module _ (forms : List CaseForm) (e : Expr) (v : Bytes) (old new : FunctionBindgen) (l : LiftsBy forms e v old new) where
  abbrev blocks : List FinishedBlock
  blocks = reverse l.used

  abbrev bodies : List Block
  bodies = lifted_bodies forms blocks

  many : length bodies ≡ length forms
  many = many_bodies forms blocks (length-reverse l.used ∙ l.uses.many)

  same : SameArea old new
  same = record {
    import = l.adds.import ∙ ap (λ (b : FunctionBindgen). b.import) l.uses.rest;
    asked = l.adds.asked ∙ ap (λ (b : FunctionBindgen). b.asked) l.uses.rest;
    name = l.adds.area ∙ ap (λ (b : FunctionBindgen). b.area) l.uses.rest;
  }

  before : l.mid.params ≡ old.params
  before = ap (λ (b : FunctionBindgen). b.params) l.uses.rest

  wider : (k : Bytes) → is_used l.mid.scope.used k ≡ false → is_used old.scope.used k ≡ false
  wider k h = sym (ap (λ (b : FunctionBindgen). is_used b.scope.used k) l.uses.rest) ∙ h

  pub lifts_case : (ts : Shapes) → count ts ≡ length forms → ((w : File) (p : Peer RustValue) → Serves w new → AreCases (setting_for w p) 0 forms) → LiftsCase func_meaning serves_none ts (operand_of e ∷ []) (operand_of (expr.Local v) ∷ []) old new
  lifts_case ts same_count are =
      subst (λ n. Matches func_meaning (gives_payload func_meaning) serves_none n (Outs old new l.mid v ts same before l.adds.params wider l.fresh) (operand_of e ∷ []) old new) (sym same_count)
      (matches old l.mid new (names_of.One v) e bodies arm_by.AnyOther invalid_body (InvalidEnumDiscriminant ∷ []) (length forms) l.used l.uses l.adds (gives_payload func_meaning) serves_none
      (Outs old new l.mid v ts same before l.adds.params wider l.fresh) tt (omega (arith, many)) l.inward l.inward_last
      (λ w p others s0 s x at i body here. of_case w p others s i body (body_at (setting_for w p) 0 forms blocks i body (are w p at.serves) here) (inward_at i bodies body l.inward here))
      (λ w p others s0 s x at z none. no_case w p others s z (found_right w.items l.mid.runtime (InvalidEnumDiscriminant ∷ []) (subst (Found w.items) l.adds.runtime at.serves.runtime)).0 (subst (λ k. IsNoNumber 0 k z) many none)))
    where
      P : (w : File) (others : Facts func_meaning) → Went func_meaning (Armed func_meaning) → FuncState → Type 0
      P w others = Arrives func_meaning w old new others (Outs old new l.mid v ts same before l.adds.params wider l.fresh) (λ a. flat_map (owned_datum func_meaning) a.results)

      of_case : (w : File) (p : Peer RustValue) (others : Facts func_meaning) (s : FuncState) (i : ℕ) (body : Block) → BodyOf (setting_for w p) 0 blocks i body → is_inward body ≡ true
          → AsLaw w p s (names_of.One v) false (length forms) (gives_payload func_meaning) blocks (P w others) (law_at w p s (names_of.One v) false (length forms) (gives_payload func_meaning) blocks (P w others) i) (in_scope (setting_for w p) (run_results (setting_for w p) body))
      of_case w p others s i body b inward =
          subst (λ o. AsLaw w p s (names_of.One v) false (length forms) (gives_payload func_meaning) blocks (P w others) (arm func_meaning (gives_payload func_meaning) (λ x. run_finished w p x with_nothing) i s o) (in_scope (setting_for w p) (run_results (setting_for w p) body))) (sym b.at)
          (subst (λ q. AsLaw w p s (names_of.One v) false (length forms) (gives_payload func_meaning) blocks (P w others) (arm func_meaning (gives_payload func_meaning) (λ x. run_finished w p x with_nothing) i s (Some b.block)) (in_scope (setting_for w p) (run_results (setting_for w p) q))) (sym b.is)
          (lift_follows old new l.mid v ts same before l.adds.params wider l.fresh w p others s i b.taken b.block (few_at i blocks b.block l.few b.at) (ap is_inward (sym b.is) ∙ inward) (subst (IsCaseOf (setting_for w p) (case_path b.taken)) (plain_sum i) b.numbered) [] tt tt (machine.pure tt)
          (ap (λ ls. machine.Done tt (record s.machine { locals = ls })) (sym (append-nil s.machine.locals)))))

      no_case : (w : File) (p : Peer RustValue) (others : Facts func_meaning) (s : FuncState) (z : ℤ) → runtime_item_named w.items (item_name InvalidEnumDiscriminant) ≡ Some InvalidEnumDiscriminant → IsNoNumber 0 (length forms) z
          → AsLaw w p s (names_of.One v) false (length forms) (gives_payload func_meaning) blocks (P w others) (chosen w p s (names_of.One v) false (length forms) (gives_payload func_meaning) blocks (P w others) (choosing p.form false (length forms) (core.I32 z) (account_of s.machine)))
          (run_arm (setting_for w p) (val.Word (core.I32 z)) (arm_by.AnyOther, run_results (setting_for w p) invalid_body))
      no_case w p others s z found none =
          let set = setting_for w p in
          subst (λ o. AsLaw w p s (names_of.One v) false (length forms) (gives_payload func_meaning) blocks (P w others) (chosen w p s (names_of.One v) false (length forms) (gives_payload func_meaning) blocks (P w others) o) (run_arm set (val.Word (core.I32 z)) (arm_by.AnyOther, run_results set invalid_body)))
          (sym (chooses_other p.form false (length forms) z (account_of s.machine) none))
          (subst (λ o. Follows func_meaning.account (chosen w p s (names_of.One v) false (length forms) (gives_payload func_meaning) blocks (P w others) (failing p.form trap.Discriminant (account_of s.machine)))
          (seen s.area (machine.and_then (machine.and_then o (λ a. leave_to set (length s.machine.locals) >> machine.pure a)) (bind_results set (names_of.One v)))) (P w others)) (sym (invalid_runs set s.machine found)) (fails p.form))
        where
          fails : (f : Form) → Follows func_meaning.account (chosen w p s (names_of.One v) false (length forms) (gives_payload func_meaning) blocks (P w others) (failing f trap.Discriminant (account_of s.machine)))
              (seen s.area (machine.Stopped (fails_with f (stop_of.Stuck w.item) trap.Discriminant) s.machine)) (P w others)
          fails form.Debug = refl
          fails form.Release = refl

-- 3. The last arm

chooses_last : {V : Type 0} (f : Form) (serves : Bool) (k : ℕ) (z : ℤ) (acc : Account V) → is_number k z ≡ true → choosing f serves (suc k) (core.I32 z) acc ≡ gives k acc
chooses_last f serves k (negsuc m) acc h = absurd cc
chooses_last f serves k (pos i) acc h =
    let same : i ≡ k = eqb-true i k h in
    ap (λ b. cond b (gives i acc) (other_case f serves (suc k) acc)) (lt-ltb i (suc k) (omega (arith, same))) ∙ ap (λ j. gives j acc) same

-- a number that is none of the first, and not the last
none_more : (k : ℕ) (z : ℤ) → IsNoNumber 0 k z → is_number k z ≡ false → IsNoNumber 0 (suc k) z
none_more k z none last i l = go (nat_lt i k) refl
  where
    go : (c : Bool) → nat_lt i k ≡ c → is_number (0 + i) z ≡ false
    go true e = none i (ltb-true i k e)
    go false e = let same : 0 + i ≡ k = omega (arith, l, ltb-false i k e) in ap (λ j. is_number j z) same ∙ last

last_get : {A : Type 0} (xs : List A) (x : A) → slice_get (xs ++ x ∷ []) (length xs) ≡ Some x
last_get [] x = refl
last_get (y ∷ xs) x = last_get xs x

first_get : {A : Type 0} (xs : List A) (x y : A) (i : ℕ) → slice_get xs i ≡ Some y → slice_get (xs ++ x ∷ []) i ≡ Some y
first_get [] x y i h = absurd cc
first_get (z ∷ xs) x y zero h = h
first_get (z ∷ xs) x y (suc i) h = first_get xs x y i h

are_first : (w : Setting) (k : ℕ) (forms : List CaseForm) (c : CaseForm) → AreCases w k (forms ++ c ∷ []) → AreCases w k forms
are_first w k [] c h = tt
are_first w k (f ∷ forms) c h = (h.0, are_first w (suc k) forms c h.1)

are_last : (w : Setting) (k : ℕ) (forms : List CaseForm) (c : CaseForm) → AreCases w k (forms ++ c ∷ []) → IsCaseOf w (case_path c) (k + length forms)
are_last w k [] c h = subst (IsCaseOf w (case_path c)) (let e : k ≡ k + 0 = omega arith in e) h.0
are_last w k (f ∷ forms) c h = subst (IsCaseOf w (case_path c)) (let e : suc k + length forms ≡ k + suc (length forms) = omega arith in e) (are_last w (suc k) forms c h.1)

less_last : (k : ℕ) → suc k - 1 ≡ k
less_last k = omega arith

-- 4. Variants

module _ (forms : List CaseForm) (c : CaseForm) (e : Expr) (n v : Bytes) (old new : FunctionBindgen) (l : LiftsVariantBy forms c e n v old new) where
  abbrev all_blocks : List FinishedBlock
  all_blocks = reverse l.used

  abbrev first_bodies : List Block
  first_bodies = lifted_bodies forms l.first

  abbrev final : Block
  final = last_body n (length forms) c l.last

  abbrev base : FunctionBindgen
  base = record l.mid { scope = record l.mid.scope { used = l.mid.scope.used ++ n ∷ [] } }

  many_first : length first_bodies ≡ length forms
  many_first = many_bodies forms l.first l.many

  pub same_use : SameArea old new
  same_use = record {
    import = l.adds.import ∙ ap (λ (b : FunctionBindgen). b.import) l.uses.rest;
    asked = l.adds.asked ∙ ap (λ (b : FunctionBindgen). b.asked) l.uses.rest;
    name = l.adds.area ∙ ap (λ (b : FunctionBindgen). b.area) l.uses.rest;
  }

  pub params_before : base.params ≡ old.params
  params_before = ap (λ (b : FunctionBindgen). b.params) l.uses.rest

  pub wider_then : (k : Bytes) → is_used base.scope.used k ≡ false → is_used old.scope.used k ≡ false
  wider_then k h =
      let split = or_parts (is_used l.mid.scope.used k) (is_used (n ∷ []) k) (sym (list_any-append (λ u. bytes_eq u k) l.mid.scope.used (n ∷ [])) ∙ h) in
      sym (ap (λ (b : FunctionBindgen). is_used b.scope.used k) l.uses.rest) ∙ split.0

  pub fresh_last : Fresh base new v
  fresh_last = record {
    free =
        list_any-append (λ u. bytes_eq u v) l.mid.scope.used (n ∷ [])
        ∙ ap (λ b. b || is_used (n ∷ []) v) (l.fresh.free v (ap (λ b. bytes_eq n v || (b || false)) (bytes_eq-same v) ∙ or-true (bytes_eq n v)))
        ∙ ap (λ b. b || false) l.apart;
    used = l.fresh.used ∙ sym (append_assoc l.mid.scope.used (n ∷ []) (v ∷ []));
  }

  abbrev Wanted : Shapes → Armed func_meaning → Facts func_meaning → Type 0
  Wanted ts = Outs old new base v ts same_use params_before l.adds.params wider_then fresh_last

  module _ (ts : Shapes) (w : File) (p : Peer RustValue) (others : Facts func_meaning) (s : FuncState) (are : AreCases (setting_for w p) 0 (forms ++ c ∷ [])) where
    abbrev set : Setting
    set = setting_for w p

    abbrev Ends : Went func_meaning (Armed func_meaning) → FuncState → Type 0
    Ends = Arrives func_meaning w old new others (Wanted ts) (λ a. flat_map (owned_datum func_meaning) a.results)

    abbrev Keeps : Outcome RustValue (Went func_meaning (Armed func_meaning)) → machine.Act (List Val) → Type 0
    Keeps law act = AsLaw w p s (names_of.One v) (serves_others p.form) (suc (length forms)) (gives_payload func_meaning) all_blocks Ends law act

    abbrev law_of : ℕ → Outcome RustValue (Went func_meaning (Armed func_meaning))
    law_of i = law_at w p s (names_of.One v) (serves_others p.form) (suc (length forms)) (gives_payload func_meaning) all_blocks Ends i

    abbrev choice : Outcome RustValue (Got RustValue ℕ) → Outcome RustValue (Went func_meaning (Armed func_meaning))
    choice o = chosen w p s (names_of.One v) (serves_others p.form) (suc (length forms)) (gives_payload func_meaning) all_blocks Ends o

    block_law : (i : ℕ) (b : FinishedBlock) → slice_get all_blocks i ≡ Some b → (act : machine.Act (List Val)) → Keeps (arm func_meaning (gives_payload func_meaning) (λ x. run_finished w p x with_nothing) i s (Some b)) act → Keeps (law_of i) act
    block_law i b at act h = subst (λ o. Keeps (arm func_meaning (gives_payload func_meaning) (λ x. run_finished w p x with_nothing) i s o) act) (sym at) h

    pub first_case : (i : ℕ) (body : Block) → slice_get first_bodies i ≡ Some body → Keeps (law_of i) (in_scope set (run_results set body))
    first_case i body here =
        let b = body_at set 0 forms l.first i body (are_first set 0 forms c are) here in
        block_law i b.block (ap (λ bs. slice_get bs i) l.split ∙ first_get l.first l.last b.block i b.at) (in_scope set (run_results set body))
        (subst (λ q. Keeps (arm func_meaning (gives_payload func_meaning) (λ x. run_finished w p x with_nothing) i s (Some b.block)) (in_scope set (run_results set q))) (sym b.is)
        (lift_follows old new base v ts same_use params_before l.adds.params wider_then fresh_last w p others s i b.taken b.block (few_at i l.first b.block l.few b.at) (ap is_inward (sym b.is) ∙ inward_at i first_bodies body l.inward here) (subst (IsCaseOf set (case_path b.taken)) (plain_sum i) b.numbered) [] tt tt (machine.pure tt)
        (ap (λ ls. machine.Done tt (record s.machine { locals = ls })) (sym (append-nil s.machine.locals)))))

    abbrev last_act : ℤ → machine.Act (List Val)
    last_act z = run_arm set (val.Word (core.I32 z)) (arm_by.Name n, run_results set final)

    abbrev tail : Option Expr
    tail = Some (case_expr (is_unit c) (case_path c) (exprs_of l.last.results))

    -- the last block is run where its number passes
    passing : (z : ℤ) → expect_number p.form (stuck set) (length forms) (Some z) (named set n (length forms) z l.last.stmts tail s.machine) ≡ machine.Done tt (named set n (length forms) z l.last.stmts tail s.machine) → Keeps (law_of (length forms)) (last_act z)
    passing z passes =
        block_law (length forms) l.last (ap (λ bs. slice_get bs (length forms)) l.split ∙ ap (slice_get (l.first ++ l.last ∷ [])) (sym l.many) ∙ last_get l.first l.last) (last_act z)
        (subst (λ o. Follows func_meaning.account (arm func_meaning (gives_payload func_meaning) (λ x. run_finished w p x with_nothing) (length forms) s (Some l.last)) (seen s.area (machine.and_then o (bind_results set (names_of.One v)))) Ends) (sym (as_entered set n (length forms) z l.last.stmts tail s.machine))
        (lift_follows old new base v ts same_use params_before l.adds.params wider_then fresh_last w p others s (length forms) c l.last l.few_last (inward_behind n (length forms) l.last.stmts tail l.inward_last) (subst (IsCaseOf set (case_path c)) (plain_sum (length forms)) (are_last set 0 forms c are))
        (record { name = n; value = Some (val.Word (core.I32 z)) } ∷ []) (l.unnamed, tt) (refl, tt) (enter set n (length forms) z l.last.stmts tail s.machine) (enters set n (length forms) z l.last.stmts tail s.machine passes)))

    pub last_case : (z : ℤ) → IsNoNumber 0 (length first_bodies) z → Keeps (choice (choosing p.form (serves_others p.form) (suc (length forms)) (core.I32 z) (account_of s.machine))) (last_act z)
    last_case z none = go p.form refl (is_number (length forms) z) refl
      where
        there : State
        there = named set n (length forms) z l.last.stmts tail s.machine

        go : (f : Form) → p.form ≡ f → (b : Bool) → is_number (length forms) z ≡ b → Keeps (choice (choosing f (serves_others f) (suc (length forms)) (core.I32 z) (account_of s.machine))) (last_act z)
        go f is true at =
            subst (λ o. Keeps (choice o) (last_act z)) (sym (chooses_last f (serves_others f) (length forms) z (account_of s.machine) at)) (passing z (passes_last p.form set (length forms) z there at))
        go form.Debug is false at =
            subst (λ o. Keeps (choice o) (last_act z)) (sym (chooses_other form.Debug false (suc (length forms)) z (account_of s.machine) (none_more (length forms) z (subst (λ m. IsNoNumber 0 m z) many_first none) at)))
            (ap (λ o. seen s.area (machine.and_then o (bind_results set (names_of.One v))))
            (stops set n (length forms) z l.last.stmts tail s.machine (ap (λ f. expect_number f (stuck set) (length forms) (Some z) there) is ∙ fails_last set (length forms) z there at)))
        go form.Release is false at =
            subst (λ o. Keeps (choice o) (last_act z)) (sym (chooses_other form.Release true (suc (length forms)) z (account_of s.machine) (none_more (length forms) z (subst (λ m. IsNoNumber 0 m z) many_first none) at)))
            (subst (λ j. Keeps (law_of j) (last_act z)) (sym (less_last (length forms))) (passing z (ap (λ f. expect_number f (stuck set) (length forms) (Some z) there) is)))

  pub lifts_variant : (ts : Shapes) → count ts ≡ suc (length forms) → ((w : File) (p : Peer RustValue) → Serves w new → AreCases (setting_for w p) 0 (forms ++ c ∷ [])) → LiftsCase func_meaning serves_others ts (operand_of e ∷ []) (operand_of (expr.Local v) ∷ []) old new
  lifts_variant ts same_count are =
      subst (λ k. Matches func_meaning (gives_payload func_meaning) serves_others k (Wanted ts) (operand_of e ∷ []) old new) (sym same_count)
      (matches old l.mid new (names_of.One v) e first_bodies (arm_by.Name n) final [] (suc (length forms)) l.used l.uses l.adds (gives_payload func_meaning) serves_others (Wanted ts) tt (omega (arith, many_first)) l.inward l.inward_last
      (λ w p others s0 s x at i body here. first_case ts w p others s (are w p at.serves) i body here) (λ w p others s0 s x at z none. last_case ts w p others s (are w p at.serves) z none))

-- 5. Blocks that free

none_at : (i : ℕ) (blocks : List FinishedBlock) (body : Block) → AllByRecursion (λ (b : FinishedBlock). b.results ≡ []) blocks → slice_get (map freed_body blocks) i ≡ Some body → (b : FinishedBlock) × (slice_get blocks i ≡ Some b) × (body ≡ freed_body b) × (b.results ≡ [])
none_at i [] body h k = absurd cc
none_at zero (b ∷ blocks) body h k = (b, refl, let one : freed_body b ≡ body = cc in sym one, h.0)
none_at (suc i) (b ∷ blocks) body h k = none_at i blocks body h.1 k

module _ (k : ℕ) (e : Expr) (old new : FunctionBindgen) (l : FreesBy k e old new) where
  abbrev freed_blocks : List FinishedBlock
  freed_blocks = reverse l.used

  same_freed : SameArea old new
  same_freed = record {
    import = l.adds.import ∙ ap (λ (b : FunctionBindgen). b.import) l.uses.rest;
    asked = l.adds.asked ∙ ap (λ (b : FunctionBindgen). b.asked) l.uses.rest;
    name = l.adds.area ∙ ap (λ (b : FunctionBindgen). b.area) l.uses.rest;
  }

  params_freed : new.params ≡ old.params
  params_freed = l.adds.params ∙ ap (λ (b : FunctionBindgen). b.params) l.uses.rest

  used_freed : new.scope.used ≡ old.scope.used
  used_freed = ap (λ (s : Scope). s.used) l.scope ∙ ap (λ (b : FunctionBindgen). b.scope.used) l.uses.rest

  many_freed : length (map freed_body l.first) ≡ k
  many_freed = length-map l.first freed_body ∙ l.many

  module _ (w : File) (p : Peer RustValue) (others : Facts func_meaning) (s : FuncState) where
    abbrev here : Setting
    here = setting_for w p

    abbrev Left : Went func_meaning (Armed func_meaning) → FuncState → Type 0
    Left = Arrives func_meaning w old new others (λ a fs. fs ≡ []) (λ a. flat_map (owned_datum func_meaning) a.results)

    abbrev Does : Outcome RustValue (Went func_meaning (Armed func_meaning)) → machine.Act (List Val) → Type 0
    Does law act = AsLaw w p s names_of.Nothing true (suc k) (gives_nothing func_meaning) freed_blocks Left law act

    abbrev law_freed : ℕ → Outcome RustValue (Went func_meaning (Armed func_meaning))
    law_freed i = law_at w p s names_of.Nothing true (suc k) (gives_nothing func_meaning) freed_blocks Left i

    abbrev choice_freed : Outcome RustValue (Got RustValue ℕ) → Outcome RustValue (Went func_meaning (Armed func_meaning))
    choice_freed o = chosen w p s names_of.Nothing true (suc k) (gives_nothing func_meaning) freed_blocks Left o

    one_freed : (i : ℕ) (b : FinishedBlock) → slice_get freed_blocks i ≡ Some b → b.results ≡ [] → is_inward (freed_body b) ≡ true → Does (law_freed i) (in_scope here (run_results here (freed_body b)))
    one_freed i b at none inward =
        subst (λ o. Does (arm func_meaning (gives_nothing func_meaning) (λ x. run_finished w p x with_nothing) i s o) (in_scope here (run_results here (freed_body b)))) (sym at)
        (free_follows old new same_freed params_freed used_freed w p others s i b none inward (machine.pure tt) refl)

    pub freed_case : (i : ℕ) (body : Block) → slice_get (map freed_body l.first) i ≡ Some body → Does (law_freed i) (in_scope here (run_results here body))
    freed_case i body at =
        let (b, is_at, is, none) = none_at i l.first body l.none at in
        subst (λ q. Does (law_freed i) (in_scope here (run_results here q))) (sym is)
        (one_freed i b (ap (λ bs. slice_get bs i) l.split ∙ first_get l.first l.last b i is_at) none (ap is_inward (sym is) ∙ inward_at i (map freed_body l.first) body l.inward at))

    last_freed : Does (law_freed k) (in_scope here (run_results here (freed_body l.last)))
    last_freed = one_freed k l.last (ap (λ bs. slice_get bs k) l.split ∙ ap (slice_get (l.first ++ l.last ∷ [])) (sym l.many) ∙ last_get l.first l.last) l.none_last l.inward_last

    pub other_freed : (z : ℤ) → IsNoNumber 0 (length (map freed_body l.first)) z → Does (choice_freed (choosing p.form true (suc k) (core.I32 z) (account_of s.machine))) (run_arm here (val.Word (core.I32 z)) (arm_by.AnyOther, run_results here (freed_body l.last)))
    other_freed z none = go (is_number k z) refl
      where
        go : (b : Bool) → is_number k z ≡ b → Does (choice_freed (choosing p.form true (suc k) (core.I32 z) (account_of s.machine))) (in_scope here (run_results here (freed_body l.last)))
        go true at = subst (λ o. Does (choice_freed o) (in_scope here (run_results here (freed_body l.last)))) (sym (chooses_last p.form true k z (account_of s.machine) at)) last_freed
        go false at =
            subst (λ o. Does (choice_freed o) (in_scope here (run_results here (freed_body l.last)))) (sym (chooses_other p.form true (suc k) z (account_of s.machine) (none_more k z (subst (λ m. IsNoNumber 0 m z) many_freed none) at)))
            (subst (λ j. Does (law_freed j) (in_scope here (run_results here (freed_body l.last)))) (sym (less_last k)) last_freed)

  pub frees_case : FreesCase func_meaning (suc k) (operand_of e ∷ []) old new
  frees_case =
      matches old l.mid new names_of.Nothing e (map freed_body l.first) arm_by.AnyOther (freed_body l.last) [] (suc k) l.used l.uses l.adds (gives_nothing func_meaning) (λ f. true) (λ a fs. fs ≡ []) tt (omega (arith, many_freed)) l.inward l.inward_last
      (λ w p others s0 s x at i body here. freed_case w p others s i body here) (λ w p others s0 s x at z none. other_freed w p others s z none)
