-- An import that closes the driver's code calls once, and what its call carries.
use Rattle.std.proofs.Common.{◌≡◌, inr, ℕ, zero, suc, true, ◌%◌, List, [], ◌∷◌, ◌++◌, map, Option, Some, Contains, if◌then◌else◌, slice_get, refl, sym, ap, ◌∙◌, subst, arith, append-nil}
use Rattle.std.proofs.lemmas.Bool.{and_parts}
use Rattle.rust_tree.specs.Ident.{rust_ident}
use Rattle.rust_tree.specs.declared.expr.Expr.{Expr}
use Rattle.rust_tree.specs.declared.item.FnItem.{FnItem}
use Rattle.rust_tree.specs.Tree.{Tree}
use Rattle.wit_model.specs.declared.function.Function.{Function}
use Rattle.wit_model.specs.declared.types.TypeDef.{TypeDef}
use Rattle.wrapper_data.specs.declared.block.Block.{Block}
use Rattle.wrapper_data.specs.declared.choice.Choice.{Choice}
use Rattle.wrapper_data.specs.declared.choice.Choice.TheVariants as choice
use Rattle.wrapper_data.specs.declared.choice.Choices.{Choices}
use Rattle.wrapper_data.specs.declared.choice.Request.{Request}
use Rattle.wrapper_data.specs.declared.heap.Heap.{Heap}
use Rattle.wrapper_data.specs.declared.run.CallPoint.{CallPoint}
use Rattle.wrapper_data.specs.declared.run.Stop.TheVariants as stop_of
use Rattle.wrapper_data.specs.declared.run.Target.TheVariants as target
use Rattle.wrapper_data.specs.declared.value.RustValue.{RustValue}
use Rattle.wrapper_data.specs.Heap.{is_heap}
use Rattle.wrapper_meaning.specs.Areas.{IsArea as IsAreaOf, area_for}
use Rattle.wrapper_meaning.specs.Calls.{CallsImport, CallsOnce}
use Rattle.wrapper_meaning.specs.Items.{SameItems, total}
use Rattle.wrapper_meaning.specs.Shape.{param_shapes, result_shape}
use Rattle.wrapper_meaning.specs.Value.{Parts}
use Rattle.wrapper_meaning.proofs.HeapBlocks.{still_there}
use Rattle.wrapper_values.specs.declared.state.State.{State}
use Rattle.wrapper_values.specs.Act as machine
use Rattle.wrapper_values.specs.Setting.{Setting}
use Rattle.wrapper_run.specs.Run.{answer_and_leave, run_fn, run_stmts, run_tail}
use Rattle.wrapper_run.specs.Inward.{CallsNothing}
use Rattle.wrapper_run.proofs.StmtSteps.{runs-code}
use Rattle.wrapper_run.proofs.QuietActs.{calls_at, quiet_answers, quiet_pure}
use Rattle.abi_bindgen.specs.Account.{Call, Peer, account_in}
use Rattle.abi_bindgen.specs.Area.{SameArea}
use Rattle.abi_driver.specs.Imports.{Carries}
use Rattle.func_gen.specs.Meaning.{FuncState, call_of, func_meaning, run_head, seen, setting_for}
use Rattle.func_gen.specs.PartForms.{are_operands}
use Rattle.func_gen.specs.Operand.{is_operand}
use Rattle.func_gen.specs.declared.function_bindgen.FunctionBindgen.{FunctionBindgen}
use Rattle.func_gen.specs.declared.operand.ExprOperand.{ExprOperand}
use Rattle.func_gen.proofs.Quiet.{quiet_operand}
use Rattle.func_gen.proofs.Steps.{run_append, seen_calls}
use Rattle.wrapper_closing.specs.ClosedImport.{ClosesImport, import_target}
use Rattle.wrapper_closing.specs.ImportBlock.{area_stmts, tail_of}
use Rattle.wrapper_closing.proofs.Direct.{lends_wider}
use Rattle.wrapper_closing.proofs.ClosedArea.{records_of}
use Rattle.wrapper_closing.proofs.ImportStart.{Missed, Ready, file}
use Rattle.wrapper_closing.proofs.Placing.{asking}
use Rattle.wrapper_closing.proofs.Start.{at_first}

-- 1. The run of the whole item

-- what follows the statements
abbrev pub finish : Setting → FnItem → Option Expr → machine.Outcome (Unit {0}) → machine.Outcome (Option RustValue)
finish w item tail o = machine.and_then (machine.and_then o (λ u. run_tail w tail)) (answer_and_leave w item.result)

pub quiet_tail : (w : Setting) (given : List ExprOperand) → are_operands given ≡ true → CallsNothing (run_tail w (tail_of given))
quiet_tail w [] h = quiet_pure _
quiet_tail w (o ∷ os) h = quiet_operand w o.expr (and_parts (is_operand o.expr) (are_operands os) h).0

finish_calls : (w : Setting) (item : FnItem) (given : List ExprOperand) → are_operands given ≡ true → (o : machine.Outcome (Unit {0})) → calls_at (finish w item (tail_of given) o) ≡ calls_at o
finish_calls w item given h (machine.Stopped e t) = refl
finish_calls w item given h (machine.Done u t) = leaves (run_tail w (tail_of given) t) ∙ (quiet_tail w given h).quiet t
  where
    leaves : (o : machine.Outcome _) → calls_at (machine.and_then o (answer_and_leave w item.result)) ≡ calls_at o
    leaves (machine.Done v s) = (quiet_answers w item.result v).quiet s
    leaves (machine.Stopped e s) = refl

there_in_front : (xs ys : List Block) (b : Block) → Contains xs b → Contains (xs ++ ys) b
there_in_front (x ∷ xs) ys b (zero, below, at) = (zero, omega arith, at)
there_in_front (x ∷ xs) ys b (suc k, below, at) = let (j, low, there) = there_in_front xs ys b (k, omega (below, arith), at) in (suc j, omega (arith, low), there)
there_in_front [] ys b (k, below, at) = absurd (omega (below, arith))

-- an area that was written stands where it stood
pub written_stands : (rs : List Request) (met : Option Choice) (area written : List Block) → IsAreaOf rs met area → SameArea area written → IsAreaOf rs met written
written_stands [] met [] [] h s = refl
written_stands [] met [] (b ∷ bs) h s = absurd s
written_stands [] met (b ∷ bs) written h s = absurd cc
written_stands (r ∷ rs) met [] written h s = absurd (let e = h.is in cc)
written_stands (r ∷ rs) met (b ∷ []) [] h s = absurd s
written_stands (r ∷ rs) met (b ∷ []) (d ∷ []) h s =
    let same : b ≡ h.block = cc in
    record {
      block = d;
      is = refl;
      chosen = h.chosen ∙ ap (λ (x : Block). Some (choice.At x.address)) (sym same) ∙ ap (λ a. Some (choice.At a)) (sym s.0);
      aligned = ap (λ a. a % r.align) (s.0 ∙ ap (λ (x : Block). x.address) same) ∙ h.aligned;
      exact = s.1 ∙ ap (λ (x : Block). x.size) same ∙ h.exact;
    }
written_stands (r ∷ rs) met (b ∷ []) (d ∷ e ∷ written) h s = absurd s.2
written_stands (r ∷ rs) met (b ∷ d ∷ area) written h s = absurd (let e = h.is in cc)

-- one call of the account is one of the run
pub one_call : (cs : List CallPoint) (k : Call RustValue) → map call_of cs ≡ k ∷ [] → (p : CallPoint) × (cs ≡ p ∷ []) × (call_of p ≡ k)
one_call [] k h = absurd cc
one_call (p ∷ []) k h = (p, refl, cc)
one_call (p ∷ q ∷ cs) k h = absurd cc

module _ (types : List TypeDef) (f : Function) (tree : Tree) (nth : ℕ) (old new : FunctionBindgen) (c : ClosesImport types f tree nth old new) where
  -- the run from where the code begins
  abbrev pub rest : Peer RustValue → State → machine.Outcome (Option RustValue)
  rest p s = finish (setting_for (file types f tree nth old new c) p) c.item (tail_of c.given) (run_stmts (setting_for (file types f tree nth old new c) p) new.code.stmts s)

  module _ (p : Peer RustValue) (vs : Parts (param_shapes types f)) (rs : List RustValue) (heap : Heap) (choices : Choices) where
    abbrev w : Setting
    w = setting_for (file types f tree nth old new c) p

    body_runs : (s : State) → run_fn w c.item s ≡ finish w c.item (tail_of c.given) (machine.and_then (run_stmts w (area_stmts old.area new.asked) s) (λ u. run_stmts w new.code.stmts))
    body_runs s =
        ap (λ o. machine.and_then o (answer_and_leave w c.item.result)) (runs-code w c.item.body (area_stmts old.area new.asked ++ new.code.stmts) (tail_of c.given) s c.body)
        ∙ ap (finish w c.item (tail_of c.given)) (run_append w (area_stmts old.area new.asked) new.code.stmts s)

    pub ready_runs : (ready : Ready types f tree nth old new c p vs rs heap choices) → run_fn w c.item (at_first old rs heap choices) ≡ rest p ready.state.machine
    ready_runs ready = body_runs (at_first old rs heap choices) ∙ ap (λ o. finish w c.item (tail_of c.given) (machine.and_then o (λ u. run_stmts w new.code.stmts))) ready.ran

    pub missed_runs : (missed : Missed types f tree nth old new c p rs heap choices) → run_fn w c.item (at_first old rs heap choices) ≡ machine.Stopped stop_of.BadChoice (asking missed.request (at_first old rs heap choices))
    missed_runs missed = body_runs (at_first old rs heap choices) ∙ ap (λ o. finish w c.item (tail_of c.given) (machine.and_then o (λ u. run_stmts w new.code.stmts))) missed.stops

    -- 2. Its call

    pub does_is : (s : FuncState) → func_meaning.does (file types f tree nth old new c) p new.code s ≡ seen s.area (run_stmts w new.code.stmts s.machine)
    does_is s = ap (λ call. seen s.area (machine.and_then (run_head w old.home call s.machine) (λ u. run_stmts w new.code.stmts))) c.headless

    abbrev Carried : Ready types f tree nth old new c p vs rs heap choices → Type 0
    Carried ready =
        Carries func_meaning (file types f tree nth old new c) p (func_meaning.target old f) (param_shapes types f) vs (result_shape types f) heap.blocks ready.area new [] ready.state ready.state

    pub carried : (ready : Ready types f tree nth old new c p vs rs heap choices) → Carried ready
    carried ready = c.calls.row (file types f tree nth old new c) p vs rs heap.blocks ready.area [] ready.state ready.state ready.given

    calls_made : (ready : Ready types f tree nth old new c p vs rs heap choices) → map call_of (calls_at (run_stmts w new.code.stmts ready.state.machine)) ≡ (carried ready).call ∷ []
    calls_made ready =
        sym (ap (λ o. (account_in func_meaning.account o).calls) (does_is ready.state) ∙ seen_calls ready.state.area (run_stmts w new.code.stmts ready.state.machine))
        ∙ (carried ready).made ∙ ap (λ cs. map call_of cs ++ (carried ready).call ∷ []) ready.calls

    pub record CallMade (ready : Ready types f tree nth old new c p vs rs heap choices) : Type 0 where
      pub point : CallPoint
      pub once : calls_at (rest p ready.state.machine) ≡ point ∷ []
      pub is : call_of point ≡ (carried ready).call

    pub call_made : (ready : Ready types f tree nth old new c p vs rs heap choices) → CallMade ready
    call_made ready =
        let (point, once, is) = one_call (calls_at (run_stmts w new.code.stmts ready.state.machine)) (carried ready).call (calls_made ready) in
        record { point = point; once = finish_calls w c.item c.given c.operands (run_stmts w new.code.stmts ready.state.machine) ∙ once; is = is }

    -- 3. What it carries

    abbrev CallOf : CallPoint → Type 0
    CallOf = CallsImport 2 (import_target old f) (param_shapes types f) vs (result_shape types f) heap choices.list

    aims : func_meaning.target old f ≡ import_target old f
    aims = ap (λ i. if i then target.Core old.home f.name.wit else target.Method old.home (rust_ident f.name)) c.import

    call_carries : (ready : Ready types f tree nth old new c p vs rs heap choices) → CallOf (call_made ready).point
    call_carries ready =
        let made = call_made ready in
        let q = made.point in
        let passes = (carried ready).passes in
        let kept : SameItems q.heap.blocks (heap.blocks ++ passes.written) = subst (λ (h : Heap). SameItems h.blocks (heap.blocks ++ passes.written)) (sym (ap (λ (k : Call RustValue). k.heap) made.is)) passes.kept in
        let words : q.words ≡ (carried ready).call.words = ap (λ (k : Call RustValue). k.words) made.is in
        record {
          aimed = ap (λ (k : Call RustValue). k.target) made.is ∙ passes.aimed ∙ aims;
          area = passes.written;
          stands = written_stands (area_for 2 (records_of (param_shapes types f) (result_shape types f))) (slice_get choices.list 0) ready.area passes.written ready.stands passes.same;
          words = record {
            arguments = passes.passes.arguments;
            pointer = passes.passes.pointer;
            all = words ∙ passes.passes.all;
            represents = lends_wider heap.blocks q.heap.blocks (λ b there. still_there (heap.blocks ++ passes.written) q.heap.blocks (λ g. sym (kept g)) b (there_in_front heap.blocks passes.written b there)) passes.written (param_shapes types f) vs passes.passes.arguments c.params passes.passes.represents;
            named = passes.passes.named;
          };
          values = ap (λ (k : Call RustValue). k.values) made.is ∙ passes.values;
          formed = ap (λ (k : Call RustValue). is_heap k.heap) made.is ∙ passes.formed;
          made = [];
          kept = λ g. kept g ∙ ap (total g) (sym (append-nil (heap.blocks ++ passes.written)));
        }

    -- it passes no value
    pub call_values : (ready : Ready types f tree nth old new c p vs rs heap choices) → (call_made ready).point.values ≡ []
    call_values ready = (call_carries ready).values

    -- 4. Whatever is answered, there is one such call, or none where the area missed its choice

    pub ready_calls : (ready : Ready types f tree nth old new c p vs rs heap choices) → CallsOnce CallOf (calls_at (rest p ready.state.machine))
    ready_calls ready = inr ((call_made ready).point, (call_made ready).once, call_carries ready)
