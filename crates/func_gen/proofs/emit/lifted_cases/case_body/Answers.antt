use Rattle.std.proofs.Common.{ap, ◌∙◌}
use Rattle.wrapper_run.specs.Inward.{is_inward_expr}
use Rattle.func_gen.specs.LiftedCases.{is_unit}
use Rattle.func_gen.specs.MatchForms.{case_path}
use Rattle.func_gen.specs.PartForms.{exprs_of}
use Rattle.func_gen.proofs.InwardArms.{case_inward}
use Rattle.func_gen.proofs.InwardForms.{exprs_inward}
use Rattle.func_gen.proofs.emit.lifted_cases.case_body.Goals as goal

pub inward_block-requires-clause-tail : goal.inward_block-requires-clause-tail
inward_block-requires-clause-tail c =
    let case = c.args.case.now in
    let os = c.args.results.now in
    ap is_inward_expr c.in_ok-tail.ensures.case ∙ case_inward (is_unit case) (case_path case) (exprs_of os) c.requires.inward (exprs_inward os c.in_ok-tail.ensures.operands)
