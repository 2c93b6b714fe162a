use Rattle.std.proofs.Common.{◌≡◌, rules}
use Rattle.wrapper_values.specs.Act.{Done}
use Rattle.wrapper_values.specs.Setting.{setting}
use Rattle.wrapper_run.specs.Results.{run_results}
use Rattle.wrapper_run.proofs.GiveSteps.{leaves_inner}
use Rattle.wrapper_run.proofs.body.run_inner.Goals as goal

pub returns-in_err-leave_to : goal.returns-in_err-leave_to
returns-in_err-leave_to c =
    let w = setting c.args.world.now in
    let ran : run_results w c.args.b.now c.args.state.now ≡ Done c.in_ok-vs.vs c.run_results.new.state = search rules in
    search (rules, leaves_inner w c.args.b.now c.in_ok-vs.vs c.args.state.now c.run_results.new.state ran)

pub returns : goal.returns
returns c =
    let w = setting c.args.world.now in
    let ran : run_results w c.args.b.now c.args.state.now ≡ Done c.in_ok-vs.vs c.run_results.new.state = search rules in
    search (rules, leaves_inner w c.args.b.now c.in_ok-vs.vs c.args.state.now c.run_results.new.state ran)
