use Rattle.std.proofs.Common.{ap, length}
use Rattle.std.specs.Prelude.{codes}
use Rattle.wit_model.specs.Distinct.{is_distinct}
use Rattle.func_gen.specs.declared.variant_site.VariantSite.{VariantSite}
use Rattle.command_tests.proofs.CanDefine.{variant_can}
use Rattle.command_tests.proofs.bodies.sites.variant_site.Goals as goal

pub returns-clause-defined : goal.returns-clause-defined
returns-clause-defined c =
    let s : VariantSite = record { lifted = c.in_ok-lifted.lifted; lowered = c.in_ok-lowered.lowered; cases = c.in_ok-cases.cases } in
    variant_can s (codes "V") c.in_ok-lifted.ensures c.in_ok-lowered.ensures (ap is_distinct c.in_ok-cases.ensures)

pub returns-clause-many : goal.returns-clause-many
returns-clause-many c = ap length c.in_ok-cases.ensures
