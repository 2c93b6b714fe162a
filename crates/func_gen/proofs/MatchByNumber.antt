-- A match by numbers runs the arm that the laws choose for a word.
use Rattle.std.proofs.Common.{◌≡◌, ◌<◌, ◌≤◌, ℕ, zero, suc, ℤ, pos, negsuc, Bool, true, false, cond, nat_lt, List, [], ◌∷◌, length, map, Some, refl, sym, ap, ◌∙◌, subst, arith}
use Rattle.std.specs.Prelude.{slice_get}
use Rattle.std.specs.List.{list_all}
use Rattle.std.proofs.lemmas.Bool.{and_parts, lt-ltb, ltb-false, ltb-true}
use Rattle.std.proofs.lemmas.List.{length-map}
use Rattle.rust_tree.specs.declared.pattern.ArmPattern.{ArmPattern}
use Rattle.rust_tree.specs.declared.pattern.ArmPattern.TheVariants as arm_by
use Rattle.rust_tree.specs.declared.stmt.Arm.{Arm}
use Rattle.rust_tree.specs.declared.stmt.Block.{Block}
use Rattle.rust_tree.specs.declared.stmt.MatchNames.{MatchNames}
use Rattle.wrapper_data.specs.declared.value.RustValue.{RustValue}
use Rattle.wrapper_data.specs.declared.word.Word.{Word}
use Rattle.wrapper_data.specs.declared.word.Word.TheVariants as core
use Rattle.wrapper_values.specs.declared.state.Val.{Val}
use Rattle.wrapper_values.specs.declared.state.Val.TheVariants as val
use Rattle.wrapper_values.specs.Act as machine
use Rattle.wrapper_values.specs.Act.{and_then}
use Rattle.wrapper_values.specs.Matches.{bind_results, takes}
use Rattle.wrapper_values.specs.Setting.{Setting}
use Rattle.wrapper_run.specs.Arms.{ArmAct, run_arm, run_arms}
use Rattle.wrapper_run.specs.Blocks.{in_scope}
use Rattle.wrapper_run.specs.Inward.{is_inward}
use Rattle.wrapper_run.specs.OuterLocals.{RunsBehind}
use Rattle.wrapper_run.specs.Results.{run_results}
use Rattle.wrapper_run.specs.Run.{arm_act}
use Rattle.wrapper_run.proofs.InwardWalk.{walks_given}
use Rattle.wrapper_run.proofs.OuterLemmas.{behind_within}
use Rattle.wrapper_run.proofs.InwardCalls.{AreQuiet, arms_quiet, body_quiet, results_quiet}
use Rattle.abi_bindgen.specs.Account.{Account, Follows, Got, gives, Outcome, Peer, account_in, then_do}
use Rattle.abi_bindgen.specs.Arms.{Armed, arm, choosing, other_case}
use Rattle.abi_bindgen.specs.Laws.{Data}
use Rattle.abi_bindgen.specs.Meaning.{with_nothing}
use Rattle.abi_bindgen.specs.Turns.{Went}
use Rattle.func_gen.specs.declared.function_bindgen.FinishedBlock.{FinishedBlock}
use Rattle.func_gen.specs.LiftedCases.{number_arms}
use Rattle.func_gen.specs.Meaning.{File, FuncState, account_of, call_of, func_meaning, run_finished, seen, setting_for}
use Rattle.func_gen.proofs.ArmFollows.{calls_behind}
use Rattle.func_gen.proofs.ArmResults.{arm-made}
use Rattle.func_gen.proofs.NumberedArms.{IsNoNumber, none_behind, none_negative, numbered, serves_number, serves_other}
use Rattle.func_gen.proofs.Steps.{seen_calls}

-- 1. Code that is inward

pub body_behind : (w : Setting) (b : Block) → is_inward b ≡ true → RunsBehind (run_results w b)
body_behind w = walks_given w (λ A act. RunsBehind act) (behind_within w)

-- whatever is left is taken, under a name or under none
abbrev pub TakesRest : ArmPattern → Type 0
TakesRest (arm_by.Name name) = Unit {0}
TakesRest arm_by.AnyOther = Unit {0}
TakesRest _ = ⊥

rest_taken : (w : Setting) (p : ArmPattern) (v : Val) → TakesRest p → takes w.items p v ≡ Some true
unfolding takes
rest_taken w (arm_by.Name name) v h = refl
rest_taken w arm_by.AnyOther v h = refl
rest_taken w (arm_by.Number n) v h = absurd h
rest_taken w (arm_by.Case path) v h = absurd h
rest_taken w (arm_by.Payload path name) v h = absurd h
rest_taken w (arm_by.LeftOut path) v h = absurd h

-- the arms make no call
pub quiet_arms : (w : Setting) (p : ArmPattern) (last : Block) → is_inward last ≡ true → (k : ℕ) (bodies : List Block) → list_all is_inward bodies ≡ true → AreQuiet (numbered k (map (run_results w) bodies) (p, run_results w last))
quiet_arms w p last inward k [] h = (body_quiet w last inward, tt)
quiet_arms w p last inward k (b ∷ bodies) h = let two = and_parts (is_inward b) (list_all is_inward bodies) h in (body_quiet w b two.0, quiet_arms w p last inward (suc k) bodies two.1)

-- the arms of a tree are these
pub arms_are : (w : Setting) (k : ℕ) (bodies : List Block) (other : Arm) → map (arm_act w) (number_arms k bodies other) ≡ numbered k (map (run_results w) bodies) (arm_act w other)
arms_are w k [] other = refl
arms_are w k (b ∷ bodies) other =
    ap (λ a. a ∷ map (arm_act w) (number_arms (suc k) bodies other)) (arm-made w (arm_by.Number k) b) ∙ ap (λ acts. (let a : ArmAct = (arm_by.Number k, run_results w b) in a) ∷ acts) (arms_are w (suc k) bodies other)

act_at : (w : Setting) (bodies : List Block) (i : ℕ) (b : Block) → slice_get bodies i ≡ Some b → slice_get (map (run_results w) bodies) i ≡ Some (run_results w b)
act_at w [] i b h = absurd cc
act_at w (x ∷ bodies) zero b h = let one : x ≡ b = cc in ap (λ y. Some (run_results w y)) one
act_at w (x ∷ bodies) (suc i) b h = act_at w bodies i b h

there : (bodies : List Block) (i : ℕ) → i < length bodies → (b : Block) × (slice_get bodies i ≡ Some b)
there [] i l = absurd (omega (arith, l))
there (b ∷ bodies) zero l = (b, refl)
there (b ∷ bodies) (suc i) l = there bodies i (omega (arith, l))

-- 2. What the laws choose

module _ (w : File) (p : Peer RustValue) (s : FuncState) (names : MatchNames) (serves : Bool) (n : ℕ) (fits : Data func_meaning → Bool) (blocks : List FinishedBlock) (P : Went func_meaning (Armed func_meaning) → FuncState → Type 0) where
  abbrev set : Setting
  set = setting_for w p

  abbrev acc : Account RustValue
  acc = account_of s.machine

  -- the block of a number is run
  abbrev pub law_at : ℕ → Outcome RustValue (Went func_meaning (Armed func_meaning))
  law_at i = arm func_meaning fits (λ body. run_finished w p body with_nothing) i s (slice_get blocks i)

  abbrev pub chosen : Outcome RustValue (Got RustValue ℕ) → Outcome RustValue (Went func_meaning (Armed func_meaning))
  chosen o = then_do o (λ i. law_at i.result)

  abbrev pub AsLaw : Outcome RustValue (Went func_meaning (Armed func_meaning)) → machine.Act (List Val) → Type 0
  AsLaw law act = Follows func_meaning.account law (seen s.area (and_then (act s.machine) (bind_results set names))) P

  module _ (bodies : List Block) (other : ArmPattern) (last : Block) (rest : TakesRest other) (few : length bodies ≤ n) (inward : list_all is_inward bodies ≡ true) (inward_last : is_inward last ≡ true)
      (cases : (i : ℕ) (b : Block) → slice_get bodies i ≡ Some b → AsLaw (law_at i) (in_scope set (run_results set b)))
      (others : (z : ℤ) → IsNoNumber 0 (length bodies) z → AsLaw (chosen (choosing p.form serves n (core.I32 z) acc)) (run_arm set (val.Word (core.I32 z)) (other, run_results set last))) where
    abbrev act_of : Val → machine.Act (List Val)
    act_of v = run_arms set v (numbered 0 (map (run_results set) bodies) (other, run_results set last))

    no_word : (x : Word) → (account_in func_meaning.account (seen s.area (and_then (act_of (val.Word x) s.machine) (bind_results set names)))).calls ≡ acc.calls
    no_word x =
        seen_calls s.area (and_then (act_of (val.Word x) s.machine) (bind_results set names))
        ∙ ap (map call_of) (calls_behind (act_of (val.Word x) s.machine) (bind_results set names) s.machine ((arms_quiet set (val.Word x) (numbered 0 (map (run_results set) bodies) (other, run_results set last)) (quiet_arms set other last inward_last 0 bodies inward)).quiet s.machine) (results_quiet set names))

    other_number : (z : ℤ) → IsNoNumber 0 (length bodies) z → AsLaw (chosen (choosing p.form serves n (core.I32 z) acc)) (act_of (val.Word (core.I32 z)))
    other_number z none =
        let many : length (map (run_results set) bodies) ≡ length bodies = length-map bodies (run_results set) in
        subst (AsLaw (chosen (choosing p.form serves n (core.I32 z) acc)))
        (sym (serves_other set 0 z (map (run_results set) bodies) (other, run_results set last) (subst (λ k. IsNoNumber 0 k z) (sym many) none) (rest_taken set other (val.Word (core.I32 z)) rest)))
        (others z none)

    one_number : (i : ℕ) (b : Block) → i < length bodies → slice_get bodies i ≡ Some b → AsLaw (chosen (choosing p.form serves n (core.I32 (pos i)) acc)) (act_of (val.Word (core.I32 (pos i))))
    one_number i b l at =
        subst (λ c. AsLaw (chosen (cond c (gives i acc) (other_case p.form serves n acc))) (act_of (val.Word (core.I32 (pos i))))) (sym (lt-ltb i n (omega (arith, l, few))))
        (subst (AsLaw (law_at i)) (sym (serves_number set 0 i i (map (run_results set) bodies) (other, run_results set last) (run_results set b) (omega arith) (act_at set bodies i b at))) (cases i b at))

    pub by_word : (x : Word) → AsLaw (chosen (choosing p.form serves n x acc)) (act_of (val.Word x))
    by_word (core.I32 (pos i)) = go (nat_lt i (length bodies)) refl
      where
        go : (c : Bool) → nat_lt i (length bodies) ≡ c → AsLaw (chosen (choosing p.form serves n (core.I32 (pos i)) acc)) (act_of (val.Word (core.I32 (pos i))))
        go true e = let l = ltb-true i (length bodies) e in let (b, at) = there bodies i l in one_number i b l at
        go false e = other_number (pos i) (none_behind (length bodies) i (ltb-false i (length bodies) e))
    by_word (core.I32 (negsuc k)) = other_number (negsuc k) (none_negative (length bodies) k)
    by_word (core.I64 z) = no_word (core.I64 z)
    by_word (core.F32 bits) = no_word (core.F32 bits)
    by_word (core.F64 bits) = no_word (core.F64 bits)
    by_word (core.Pointer address) = no_word (core.Pointer address)
    by_word (core.Length k) = no_word (core.Length k)
    by_word (core.Slot o) = no_word (core.Slot o)
