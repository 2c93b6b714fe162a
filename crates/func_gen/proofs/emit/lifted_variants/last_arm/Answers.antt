use Rattle.std.proofs.Common.{ap, ◌∙◌}
use Rattle.func_gen.specs.InwardCode.{are_inward_stmts}
use Rattle.func_gen.proofs.InwardForms.{assert_inward}
use Rattle.func_gen.proofs.emit.lifted_variants.last_arm.Goals as goal

pub case_body-requires-clause-stmts : goal.case_body-requires-clause-stmts
case_body-requires-clause-stmts c = ap are_inward_stmts c.in_ok-stmts.ensures ∙ assert_inward c.args.name c.args.number _ c.requires.stmts
