use Rattle.std.proofs.Common.{◌+◌, ◌-◌, ◌++◌, ◌∙◌, ap, refl, arith}
use Rattle.func_gen.specs.PartForms.{names_from}
use Rattle.func_gen.specs.Scope.{names_at}
use Rattle.func_gen.proofs.PartNames.{one_more_part}
use Rattle.func_gen.proofs.emit.parts.part_names.Goals as goal

pub loop-part-preserved : goal.loop-part-preserved
loop-part-preserved c =
    let next = c.loop-part.part + 1 in (
      omega (arith, c.loop-part-test.true),
      λ t. ap (λ ns. names_at ns t ++ names_from c.args.prefix.now t next (c.args.count - next)) c.in_ok-push.ensures.ok
          ∙ one_more_part c.args.prefix.now t c.loop-part.part c.args.count c.loop-part.names _ c.loop-part-test.true refl ∙ c.loop-part.invariant.1 t,
    )
