-- The row of a match by numbers: of a word that an operand denotes it runs the block that the laws choose.
use Rattle.std.proofs.Common.{◌≡◌, ◌≤◌, ℕ, ℤ, Bool, true, List, [], ◌∷◌, length, map, reverse, take, Some, refl, sym, ap, ◌∙◌, subst, arith}
use Rattle.std.specs.Prelude.{slice_get}
use Rattle.std.specs.List.{flat_map, list_all}
use Rattle.std.proofs.Math.Seq.{take-append_seam}
use Rattle.rust_tree.specs.declared.expr.Expr.{Expr}
use Rattle.rust_tree.specs.declared.pattern.ArmPattern.{ArmPattern}
use Rattle.rust_tree.specs.declared.runtime_item.RuntimeItem.{RuntimeItem}
use Rattle.rust_tree.specs.declared.stmt.Arm.{Arm}
use Rattle.rust_tree.specs.declared.stmt.Block.{Block}
use Rattle.rust_tree.specs.declared.stmt.MatchNames.{MatchNames}
use Rattle.rust_tree.specs.declared.stmt.Stmt.{Stmt}
use Rattle.rust_tree.specs.declared.stmt.Stmt.TheVariants as stmt
use Rattle.wrapper_data.specs.declared.form.Form.{Form}
use Rattle.wrapper_data.specs.declared.value.RustValue.{RustValue}
use Rattle.wrapper_data.specs.declared.word.Word.{Word}
use Rattle.wrapper_data.specs.declared.word.Word.TheVariants as core
use Rattle.wrapper_meaning.proofs.PostReturn.{total-append}
use Rattle.wrapper_values.specs.declared.state.Val.TheVariants as val
use Rattle.wrapper_values.specs.Act as machine
use Rattle.wrapper_values.specs.Act.{and_then}
use Rattle.wrapper_values.specs.Matches.{bind_results}
use Rattle.wrapper_values.specs.Setting.{Setting}
use Rattle.wrapper_run.specs.Arms.{ArmAct, run_arm, run_arms}
use Rattle.wrapper_run.specs.Blocks.{in_scope}
use Rattle.wrapper_run.specs.Inward.{is_inward}
use Rattle.wrapper_run.specs.Results.{run_results}
use Rattle.wrapper_run.specs.Run.{arm_act, run_stmt}
use Rattle.wrapper_run.proofs.VariantSteps.{match_runs}
use Rattle.abi_bindgen.specs.Account.{Follows, Peer, then_do}
use Rattle.abi_bindgen.specs.Arms.{Armed, Matches, arm, arms, choosing}
use Rattle.abi_bindgen.specs.Blocks.{owned_datum}
use Rattle.abi_bindgen.specs.Laws.{At, Data, Facts}
use Rattle.abi_bindgen.specs.Meaning.{of, with_nothing, word}
use Rattle.abi_bindgen.specs.Turns.{Arrives, Moved}
use Rattle.func_gen.specs.declared.function_bindgen.FinishedBlock.{FinishedBlock}
use Rattle.func_gen.specs.declared.function_bindgen.FunctionBindgen.{FunctionBindgen}
use Rattle.func_gen.specs.Added.{Appends}
use Rattle.func_gen.specs.Forms.{operand_of}
use Rattle.func_gen.specs.LiftedCases.{number_arms}
use Rattle.func_gen.specs.MatchForms.{arm_of}
use Rattle.func_gen.specs.Meaning.{File, FuncState, account_of, func_meaning, owns_of, run_finished, seen, setting_for}
use Rattle.func_gen.specs.Uses.{Uses}
use Rattle.func_gen.proofs.ArmResults.{arm-made}
use Rattle.func_gen.proofs.CaseMatch.{at_but}
use Rattle.func_gen.proofs.Evaluated.{gives}
use Rattle.func_gen.proofs.Lasting.{part}
use Rattle.func_gen.proofs.LiftedRows.{says_one}
use Rattle.func_gen.proofs.MatchByNumber.{AsLaw, TakesRest, arms_are, by_word, chosen, law_at}
use Rattle.func_gen.proofs.NumberedArms.{IsNoNumber, numbered}
use Rattle.func_gen.proofs.Steps.{ran}

module _ (old mid new : FunctionBindgen) (names : MatchNames) (e : Expr) (bodies : List Block) (other : ArmPattern) (last : Block) (items : List RuntimeItem) (n : ℕ) (used : List FinishedBlock) (taken : Uses used n old mid)
    (a : Appends mid new (stmt.Match names e (number_arms 0 bodies (arm_of other last)) ∷ []) items) where
  abbrev tree_arms : List Arm
  tree_arms = number_arms 0 bodies (arm_of other last)

  abbrev statement : List Stmt
  statement = stmt.Match names e tree_arms ∷ []

  abbrev machine_arms : Setting → List ArmAct
  machine_arms w = numbered 0 (map (run_results w) bodies) (other, run_results w last)

  arms_same : (w : Setting) → map (arm_act w) tree_arms ≡ machine_arms w
  arms_same w = arms_are w 0 bodies (arm_of other last) ∙ ap (numbered 0 (map (run_results w) bodies)) (arm-made w other last)

  alone_stmt : (o : machine.Outcome (Unit {0})) → and_then o (λ _. machine.pure tt) ≡ o
  alone_stmt (machine.Done u s) = refl
  alone_stmt (machine.Stopped x s) = refl

  -- the blocks of the cases
  pub blocks_used : arms func_meaning n (func_meaning.blocks old) ≡ reverse used
  blocks_used =
      ap (λ k. reverse (take k (reverse old.finished))) (sym taken.many) ∙ ap (λ bs. reverse (take (length used) bs)) taken.taken ∙ ap reverse (take-append_seam used (reverse mid.finished))

  module _ (x : Word) (w : File) (p : Peer RustValue) (others : Facts func_meaning) (s0 s : FuncState) (at : At func_meaning w p old new (of (operand_of e) (word x) ∷ others) s0 s) where
    abbrev set : Setting
    set = setting_for w p

    -- the operand is read, and nothing is moved
    stays : Moved func_meaning w old (of (operand_of e) (word x) ∷ []) [] s (account_of s.machine) s
    stays = record {
      account = refl;
      owns = λ g. omega (arith, total-append g (owns_of s.machine) []);
      denotes = λ rest d. record { hold = part w.items old rest (of (operand_of e) (word x) ∷ rest) s.machine (λ g. omega arith) d.hold; owners = d.owners; area = d.area };
    }

    -- the code is that of an arm, and then its results get their names
    runs_arms : func_meaning.does w p new.code s0 ≡ seen s.area (and_then (run_arms set (val.Word x) (machine_arms set) s.machine) (bind_results set names))
    runs_arms =
        let here = part w.items old (of (operand_of e) (word x) ∷ []) (of (operand_of e) (word x) ∷ others) s.machine (λ g. omega arith) at.holds.hold in
        let given = gives set e s.machine (val.Word x) (says_one w.items old (operand_of e) (word x) s.machine here) refl in
        ran mid new statement items a w p (of (operand_of e) (word x) ∷ others) s0 s (subst (λ b. At func_meaning w p b new (of (operand_of e) (word x) ∷ others) s0 s) (sym taken.rest) (at_but old mid.finished w p new (of (operand_of e) (word x) ∷ others) s0 s at))
        ∙ ap (seen s.area) (alone_stmt (run_stmt set (stmt.Match names e tree_arms) s.machine) ∙ match_runs set names e tree_arms (val.Word x) s.machine s.machine given ∙ ap (λ acts. and_then (run_arms set (val.Word x) acts s.machine) (bind_results set names)) (arms_same set))

  -- where each arm does what the laws ask, so does the match
  pub matches : (fits : Data func_meaning → Bool) (last_serves : Form → Bool) (Outs : Armed func_meaning → Facts func_meaning → Type 0) → TakesRest other → length bodies ≤ n → list_all is_inward bodies ≡ true → is_inward last ≡ true
      → ((w : File) (p : Peer RustValue) (others : Facts func_meaning) (s0 s : FuncState) (x : Word) → At func_meaning w p old new (of (operand_of e) (word x) ∷ others) s0 s → (i : ℕ) (b : Block) → slice_get bodies i ≡ Some b
      → AsLaw w p s names (last_serves p.form) n fits (reverse used) (Arrives func_meaning w old new others Outs (λ l. flat_map (owned_datum func_meaning) l.results)) (law_at w p s names (last_serves p.form) n fits (reverse used) (Arrives func_meaning w old new others Outs (λ l. flat_map (owned_datum func_meaning) l.results)) i) (in_scope (setting_for w p) (run_results (setting_for w p) b)))
      → ((w : File) (p : Peer RustValue) (others : Facts func_meaning) (s0 s : FuncState) (x : Word) → At func_meaning w p old new (of (operand_of e) (word x) ∷ others) s0 s → (z : ℤ) → IsNoNumber 0 (length bodies) z
      → AsLaw w p s names (last_serves p.form) n fits (reverse used) (Arrives func_meaning w old new others Outs (λ l. flat_map (owned_datum func_meaning) l.results))
      (chosen w p s names (last_serves p.form) n fits (reverse used) (Arrives func_meaning w old new others Outs (λ l. flat_map (owned_datum func_meaning) l.results)) (choosing p.form (last_serves p.form) n (core.I32 z) (account_of s.machine)))
      (run_arm (setting_for w p) (val.Word (core.I32 z)) (other, run_results (setting_for w p) last)))
      → Matches func_meaning fits last_serves n Outs (operand_of e ∷ []) old new
  matches fits last_serves Outs rest few inward inward_last cases others_are x w p others s0 s at =
      let P = Arrives func_meaning w old new others Outs (λ l. flat_map (owned_datum func_meaning) l.results) in
      let law = by_word w p s names (last_serves p.form) n fits (reverse used) P bodies other last rest few inward inward_last (cases w p others s0 s x at) (others_are w p others s0 s x at) x in (
        s,
        stays x w p others s0 s at,
        subst (λ o. Follows func_meaning.account (then_do (choosing p.form (last_serves p.form) n x (account_of s.machine)) (λ i. arm func_meaning fits (λ body. run_finished w p body with_nothing) i.result s (slice_get (arms func_meaning n (func_meaning.blocks old)) i.result))) o P)
            (sym (runs_arms x w p others s0 s at))
            (subst (λ bs. Follows func_meaning.account (then_do (choosing p.form (last_serves p.form) n x (account_of s.machine)) (λ i. arm func_meaning fits (λ body. run_finished w p body with_nothing) i.result s (slice_get bs i.result))) (seen s.area (and_then (run_arms (setting_for w p) (val.Word x) (machine_arms (setting_for w p)) s.machine) (bind_results (setting_for w p) names))) P)
            (sym blocks_used) law),
      )
