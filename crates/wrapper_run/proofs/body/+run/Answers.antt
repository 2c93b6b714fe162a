use Rattle.std.proofs.Common.{◌≡◌, List, rules, subst, sym}
use Rattle.std.specs.Prelude.{Err, Result}
use Rattle.rust_tree.specs.declared.stmt.Arm.{out-Arm}
use Rattle.wrapper_values.specs.declared.state.Halt.{Halt}
use Rattle.wrapper_values.specs.declared.state.Val.{Val}
use Rattle.wrapper_values.specs.Act.{Act, Done, Outcome, Runs, ◌>>◌}
use Rattle.wrapper_values.specs.Matches.{enter_arm}
use Rattle.wrapper_values.specs.Setting.{setting}
use Rattle.wrapper_run.specs.Arms.{run_arm}
use Rattle.wrapper_run.specs.Blocks.{in_scope}
use Rattle.wrapper_run.specs.Results.{run_results}
use Rattle.wrapper_run.specs.Run.{arm_act}
use Rattle.wrapper_run.proofs.GiveSteps.{fails_scope, leaves_scope}
use Rattle.wrapper_run.proofs.StmtSteps.{runs-arm}
use Rattle.wrapper_run.proofs.body.+run.Goals as goal

pub run_arm-returns-in_err-vs : goal.run_arm-returns-in_err-vs
run_arm-returns-in_err-vs t c =
    let w = setting c.args.world.now in
    let inside : Act (List Val) = enter_arm w (out-Arm c.args.arm.now).pattern c.args.v.now >> run_results w (out-Arm c.args.arm.now).body in
    let failed : Runs (in_scope w inside c.args.state.now) (Err c.in_err-vs.field-0.0) c.run_arm_inside.new.state = fails_scope w inside c.args.state.now c.run_arm_inside.new.state c.in_err-vs.field-0.0 c.in_err-vs.ensures in
    let same : c.from_residual.result ≡ Err c.in_err-vs.field-0.0 = search rules in
    subst (λ (r : Result (List Val) Halt). Runs (run_arm w c.args.v.now (arm_act w c.args.arm.now) c.args.state.now) r c.run_arm_inside.new.state) (sym same)
    (subst (λ (o : Outcome (List Val)). Runs o (Err c.in_err-vs.field-0.0) c.run_arm_inside.new.state) (sym (runs-arm w c.args.v.now c.args.arm.now c.args.state.now)) failed)

pub run_arm-returns-in_err-leave_to : goal.run_arm-returns-in_err-leave_to
run_arm-returns-in_err-leave_to t c =
    let w = setting c.args.world.now in
    let inside : Act (List Val) = enter_arm w (out-Arm c.args.arm.now).pattern c.args.v.now >> run_results w (out-Arm c.args.arm.now).body in
    let ran : inside c.args.state.now ≡ Done c.in_ok-vs.vs c.run_arm_inside.new.state = search rules in
    subst (λ (o : Outcome (List Val)). Runs o c.from_residual-in_err-leave_to.result c.leave_to.new.state) (sym (runs-arm w c.args.v.now c.args.arm.now c.args.state.now))
    (search (rules, leaves_scope w inside c.in_ok-vs.vs c.args.state.now c.run_arm_inside.new.state ran))

pub run_arm-returns : goal.run_arm-returns
run_arm-returns t c =
    let w = setting c.args.world.now in
    let inside : Act (List Val) = enter_arm w (out-Arm c.args.arm.now).pattern c.args.v.now >> run_results w (out-Arm c.args.arm.now).body in
    let ran : inside c.args.state.now ≡ Done c.in_ok-vs.vs c.run_arm_inside.new.state = search rules in
    subst (λ (o : Outcome (List Val)). o ≡ Done c.in_ok-vs.vs c.leave_to.new.state) (sym (runs-arm w c.args.v.now c.args.arm.now c.args.state.now))
    (search (rules, leaves_scope w inside c.in_ok-vs.vs c.args.state.now c.run_arm_inside.new.state ran))
