use Rattle.std.proofs.Common.{◌≡◌, drop, map}
use Rattle.wrapper_run.specs.Arms.{run_arms}
use Rattle.wrapper_run.specs.Run.{arm_act, run_stmts}
use Rattle.wrapper_values.specs.Setting.{setting}
use Rattle.wrapper_run.proofs.body.+run.Given as goal

abbrev pub invariant-run_stmts-loop-s : goal.invariant-run_stmts-loop-s
invariant-run_stmts-loop-s l = run_stmts (setting l.world) (drop l.s-index l.stmts) l.state ≡ run_stmts (setting l.world) l.stmts l.initial.state

abbrev pub invariant-run_arms-loop-arm : goal.invariant-run_arms-loop-arm
invariant-run_arms-loop-arm l =
    run_arms (setting l.world) l.v (map (arm_act (setting l.world)) (drop l.arm-index l.arms)) l.state ≡ run_arms (setting l.world) l.v (map (arm_act (setting l.world)) l.arms) l.initial.state
