use Rattle.std.proofs.Common.{[], ◌∷◌, ◌++◌, ◌∙◌, ap, sym, arith}
use Rattle.type_defs.specs.Defined.{AreDefinitionsOf}
use Rattle.type_defs.proofs.DefinedLemmas.{own-more}
use Rattle.type_defs.proofs.ZipLemmas.{zip-more}
use Rattle.type_defs.proofs.define.definitions_of.Goals as goal

pub loop-own-init : goal.loop-own-init
loop-own-init c = ([], c.new-items.ensures, λ id analyzed. tt)

pub loop-own-preserved : goal.loop-own-preserved
loop-own-preserved c =
    let before = c.loop-own.invariant.0 in
    let more = c.in_ok-push_type.ensures in (
      before ++ more.0 ∷ [],
      more.1 ∙ ap (λ is. is ++ more.0) c.loop-own.invariant.1 ∙ sym (own-more before more.0),
      λ id analyzed.
          zip-more (AreDefinitionsOf c.args.opts c.args.resolve.now id) c.as_slice-own-items.result.now c.loop-own.own-index (record { 0 = 0 }) before more.0 (omega arith)
          (c.loop-own.invariant.2 id analyzed) (more.2 id analyzed),
    )
