use Rattle.std.proofs.Common.{◌≡◌, Err, List, None, ap, subst, sym, ◌∙◌}
use Rattle.rust_tree.specs.declared.export.ExportFn.{ExportFn}
use Rattle.wrapper_data.specs.declared.word.Word.{Word}
use Rattle.wrapper_values.specs.declared.state.State.{State}
use Rattle.wrapper_values.specs.Act.{Outcome, Runs}
use Rattle.wrapper_values.specs.Setting.{Setting, setting}
use Rattle.wrapper_run.specs.ExportRun.{ended_export, run_export_fn, run_export_item}
use Rattle.wrapper_run.specs.Run.{run_at}
use Rattle.wrapper_run.proofs.export.run_export_item.Goals as goal

ran : (w : Setting) (e : ExportFn) (words given : List Word) (s start : State) (o : Outcome (List Word))
    → given ≡ words → start ≡ s → run_export_fn w e given start ≡ o → ended_export o ≡ ended_export (run_export_fn w e words s)
ran w e words given s start o same begun is = ap ended_export (sym is ∙ ap (λ x. run_export_fn w e x start) same ∙ ap (run_export_fn w e words) begun)

pub returns-in-Ok : goal.returns-in-Ok
unfolding run_export_item
returns-in-Ok c = c.run_at.ensures ∙ ran (setting c.args.world.now) c.args.e.now _ _ _ _ _ c.as_slice.ensures c.in_ok-state.ensures c.in-Ok.ensures

pub returns-in-Err-Stopped : goal.returns-in-Err-Stopped
unfolding run_export_item
returns-in-Err-Stopped c =
    let w = setting c.args.world.now in
    let stopped = subst (λ h. Runs (run_export_fn w c.args.e.now c.as_slice.result.now c.in_ok-state.state) (Err h) c.run_export_fn.new.state)
    c.in-Err-Stopped.field-0-is c.in-Err-Stopped.ensures in
    c.run_at-in-Err-Stopped.ensures ∙ ap (λ words. run_at c.in-Err-Stopped.stop words None c.run_export_fn.new.state) c.new.ensures
    ∙ ran w c.args.e.now _ _ _ _ _ c.as_slice.ensures c.in_ok-state.ensures stopped
