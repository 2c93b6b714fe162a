use Rattle.std.proofs.Common.{◌*◌, ◌++◌, ◌∷◌, [], ap, ◌∙◌, arith}
use Rattle.rust_tree.specs.declared.expr.Expr.TheVariants as expr
use Rattle.func_gen.specs.Forms.{operand_of}
use Rattle.func_gen.proofs.FlagsWords.{one_more_word}
use Rattle.func_gen.proofs.emit.flags.push_words.Goals as goal

pub loop-word-preserved : goal.loop-word-preserved
loop-word-preserved c =
    let l = c.loop-word in
    let pushed = c.in_ok-push.ensures.ok ∙ ap (λ name. l.results ++ operand_of (expr.FlagsBits name (32 * l.word)) ∷ []) c.in_ok-copy.ensures in (
      omega (arith, c.loop-word-test.true),
      one_more_word c.args.name.now l.word c.args.count l.results c.push.new.self c.loop-word-test.true pushed ∙ l.invariant.1,
    )
