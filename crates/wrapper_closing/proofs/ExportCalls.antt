-- An export that closes the driver's code calls once, and what its call carries.
use Rattle.std.proofs.Common.{◌≡◌, inr, ℕ, true, if◌then◌else◌, List, [], ◌∷◌, ◌++◌, map, Option, None, refl, sym, ap, ap₂, ◌∙◌, subst}
use Rattle.rust_tree.specs.Ident.{rust_ident}
use Rattle.rust_tree.specs.declared.expr.Expr.{Expr}
use Rattle.rust_tree.specs.declared.stmt.Arm.{Arm}
use Rattle.rust_tree.specs.declared.stmt.Block.{Block as Code, Block-F}
use Rattle.rust_tree.specs.declared.stmt.Stmt.{Stmt}
use Rattle.rust_tree.specs.Tree.{Tree}
use Rattle.wit_model.specs.declared.function.Function.{Function}
use Rattle.wit_model.specs.declared.types.TypeDef.{TypeDef}
use Rattle.wit_model.specs.declared.wasm_type.WasmType.{WasmType}
use Rattle.wrapper_data.specs.declared.choice.Choices.{Choices}
use Rattle.wrapper_data.specs.declared.heap.Heap.{Heap}
use Rattle.wrapper_data.specs.declared.run.CallPoint.{CallPoint}
use Rattle.wrapper_data.specs.declared.run.Target.TheVariants as target
use Rattle.wrapper_data.specs.declared.value.RustValue.{RustValue}
use Rattle.wrapper_data.specs.declared.word.Word.{Word}
use Rattle.wrapper_data.specs.Heap.{is_heap}
use Rattle.wrapper_meaning.specs.Calls.{CallsExport, CallsOnce}
use Rattle.wrapper_meaning.specs.Direction.{take}
use Rattle.wrapper_meaning.specs.Honest.{HonestCaller}
use Rattle.wrapper_meaning.specs.Items.{SameItems}
use Rattle.wrapper_meaning.specs.Settled.{all_settled}
use Rattle.wrapper_meaning.specs.Shape.{Shape, param_shapes, result_shape}
use Rattle.wrapper_meaning.specs.StandsFor.{PartsStand}
use Rattle.wrapper_meaning.specs.Value.{Parts}
use Rattle.wrapper_values.specs.declared.state.State.{State}
use Rattle.wrapper_values.specs.declared.state.Val.{Val}
use Rattle.wrapper_values.specs.Act as machine
use Rattle.wrapper_values.specs.Setting.{Setting, stuck}
use Rattle.wrapper_run.specs.Entries.{ExportNames}
use Rattle.wrapper_run.specs.ExportRun.{core_answer, keep_result, run_call, run_export_fn, run_to_words}
use Rattle.wrapper_run.specs.Run.{give_and_leave, run_stmts, run_tail}
use Rattle.wrapper_run.proofs.StmtSteps.{code-opened}
use Rattle.wrapper_run.proofs.QuietActs.{calls_at, quiet_give}
use Rattle.abi_bindgen.specs.Account.{Call, Peer}
use Rattle.abi_driver.specs.Exports.{HandsOn}
use Rattle.func_gen.specs.Meaning.{FuncState, call_of, func_meaning, run_code, run_head, setting_for}
use Rattle.func_gen.specs.PartForms.{are_operands}
use Rattle.func_gen.specs.declared.function_bindgen.FunctionBindgen.{FunctionBindgen}
use Rattle.func_gen.specs.declared.operand.ExprOperand.{ExprOperand}
use Rattle.func_gen.proofs.PartRows.{parts_stand}
use Rattle.func_gen.proofs.Steps.{seen_calls}
use Rattle.wrapper_closing.specs.ClosedExport.{ClosesExport, export_file}
use Rattle.wrapper_closing.specs.ImportBlock.{tail_of}
use Rattle.wrapper_closing.proofs.ExportStart.{at_words, received, words_expected}
use Rattle.wrapper_closing.proofs.ImportCalls.{one_call, quiet_tail}

-- 1. The run of the whole item

-- what follows the code
abbrev pub finish : Setting → Option WasmType → Option Expr → machine.Outcome (Unit {0}) → machine.Outcome (List Word)
finish w ty tail o = machine.and_then (machine.and_then o (λ u. run_tail w tail)) (λ v. give_and_leave w (core_answer ty v))

finish_calls : (w : Setting) (ty : Option WasmType) (given : List ExprOperand) → are_operands given ≡ true → (o : machine.Outcome (Unit {0})) → calls_at (finish w ty (tail_of given) o) ≡ calls_at o
finish_calls w ty given h (machine.Stopped e t) = refl
finish_calls w ty given h (machine.Done u t) = leaves (run_tail w (tail_of given) t) ∙ (quiet_tail w given h).quiet t
  where
    leaves : (o : machine.Outcome Val) → calls_at (machine.and_then o (λ v. give_and_leave w (core_answer ty v))) ≡ calls_at o
    leaves (machine.Done v s) = (quiet_give w (core_answer ty v)).quiet s
    leaves (machine.Stopped e s) = refl

-- the call block, the statements and what follows them, one after another
in_turn : (w : Setting) (ty : Option WasmType) (tail : Option Expr) (stmts : List Stmt) (o : machine.Outcome (Unit {0})) → machine.and_then o (λ u s. machine.and_then (machine.and_then (run_stmts w stmts s) (λ v. run_tail w tail)) (λ v. give_and_leave w (core_answer ty v))) ≡ finish w ty tail (machine.and_then o (λ u. run_stmts w stmts))
in_turn w ty tail stmts (machine.Done u s) = refl
in_turn w ty tail stmts (machine.Stopped e s) = refl

module _ (types : List TypeDef) (f : Function) (names : ExportNames) (results : List (Option Shape)) (tree : Tree) (nth : ℕ) (old new : FunctionBindgen) (c : ClosesExport types f names results tree nth old new) where
  -- the run from the words
  abbrev pub rest : Peer RustValue → State → machine.Outcome (List Word)
  rest p s = finish (setting_for (export_file tree c.number old.home) p) c.item.result (tail_of c.given) (run_code (setting_for (export_file tree c.number old.home) p) old.home new.code s)

  module _ (p : Peer RustValue) (us : Parts (param_shapes types f)) (ws : List Word) (heap : Heap) (choices : Choices) (caller : HonestCaller 2 (param_shapes types f) us ws heap) where
    abbrev w : Setting
    w = setting_for (export_file tree c.number old.home) p

    pub item_runs : run_export_fn w c.item ws (at_words old ws heap choices) ≡ rest p (at_words old ws heap choices)
    item_runs =
        let s = at_words old ws heap choices in
        let expected = words_expected types f names results tree nth old new c us ws heap choices caller in
        ap (λ b. machine.and_then (machine.and_then (machine.and_then (if b then machine.Done tt s else machine.Stopped (stuck w) s) (λ u. run_call w c.item.bound c.item.call)) (keep_result w c.item.call.result)) (λ u. run_to_words w c.item.result c.item.rest)) expected
        ∙ ap₂ (λ bound (b : Code). machine.and_then (machine.and_then (run_call w bound c.item.call s) (keep_result w c.item.call.result)) (λ u. run_to_words w c.item.result b)) c.bound c.body
        ∙ ap (λ (l : Block-F Stmt Arm Code). machine.and_then (machine.and_then (run_call w old.home c.item.call s) (keep_result w c.item.call.result)) (λ u t. machine.and_then (machine.and_then (run_stmts w l.stmts t) (λ v. run_tail w l.tail)) (λ v. give_and_leave w (core_answer c.item.result v))))
        (code-opened new.code.stmts (tail_of c.given))
        ∙ in_turn w c.item.result (tail_of c.given) new.code.stmts (machine.and_then (run_call w old.home c.item.call s) (keep_result w c.item.call.result))
        ∙ ap (λ call. finish w c.item.result (tail_of c.given) (machine.and_then (run_head w old.home call s) (λ u. run_stmts w new.code.stmts))) (sym c.head)

    -- 2. Its call

    abbrev first : FuncState
    first = record { machine = at_words old ws heap choices; area = None }

    abbrev pub Carried : Type 0
    Carried = HandsOn func_meaning (export_file tree c.number old.home) p old f (param_shapes types f) us (result_shape types f) caller.blocks new (record { machine = at_words old ws heap choices; area = None }) (record { machine = at_words old ws heap choices; area = None })

    pub carried : Carried
    carried = c.calls.row (export_file tree c.number old.home) p us ws caller.blocks [] first first c.passes (received types f names results tree nth old new c us ws heap choices caller p)

    calls_made : map call_of (calls_at (run_code w old.home new.code (at_words old ws heap choices))) ≡ carried.call ∷ []
    calls_made = sym (seen_calls None (run_code w old.home new.code (at_words old ws heap choices))) ∙ carried.made

    pub record CallMade : Type 0 where
      pub point : CallPoint
      pub once : calls_at (rest p (at_words old ws heap choices)) ≡ point ∷ []
      pub is : call_of point ≡ carried.call

    pub call_made : CallMade
    call_made =
        let (point, once, is) = one_call (calls_at (run_code w old.home new.code (at_words old ws heap choices))) carried.call calls_made in
        record { point = point; once = finish_calls w c.item.result c.given c.operands (run_code w old.home new.code (at_words old ws heap choices)) ∙ once; is = is }

    aims : func_meaning.target old f ≡ names.method
    aims = ap (λ i. if i then target.Core old.home f.name.wit else target.Method old.home (rust_ident f.name)) c.export ∙ sym c.method

    -- 3. What it carries

    abbrev pub CallOf : CallPoint → Type 0
    CallOf = CallsExport 2 names.method (param_shapes types f) us heap caller.blocks

    pub call_carries : CallOf (call_made).point
    call_carries =
        let q = (call_made).point in
        let is = (call_made).is in
        let passes = carried.passes in
        record {
          aimed = ap (λ (k : Call RustValue). k.target) is ∙ passes.aimed ∙ aims;
          words = ap (λ (k : Call RustValue). k.words) is ∙ passes.words;
          own = passes.own;
          stands = subst (λ vs. PartsStand 2 take (param_shapes types f) (all_settled (param_shapes types f) us) vs passes.own) (sym (ap (λ (k : Call RustValue). k.values) is))
              (parts_stand take (param_shapes types f) (all_settled (param_shapes types f) us) carried.call.values passes.own passes.stands).0;
          formed = ap (λ (k : Call RustValue). is_heap k.heap) is ∙ passes.formed;
          account = subst (λ (h : Heap). SameItems (h.blocks ++ caller.blocks) (heap.blocks ++ passes.own)) (sym (ap (λ (k : Call RustValue). k.heap) is)) passes.kept;
        }

    pub run_calls : CallsOnce CallOf (calls_at (rest p (at_words old ws heap choices)))
    run_calls = inr ((call_made).point, (call_made).once, call_carries)
