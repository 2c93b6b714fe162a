use Rattle.std.proofs.Common.{◌≡◌, ◌++◌, true, sym, ap, ◌∙◌, append-nil, arith}
use Rattle.std.specs.List.{list_all}
use Rattle.std.proofs.lemmas.List.{drop_all}
use Rattle.func_gen.specs.Operand.{is_operand}
use Rattle.func_gen.specs.PartForms.{are_operands, exprs_of}
use Rattle.func_gen.proofs.OperandLists.{same_operands}
use Rattle.func_gen.proofs.emit.parts.operand_exprs.Goals as goal

pub returns-clause-each : goal.returns-clause-each
returns-clause-each c =
    let l = c.loop-operand in
    let done = drop_all l.operand-index c.args.operands.now (omega (arith, c.loop-operand-test.false)) in
    let same : l.es ≡ exprs_of c.args.operands.now = sym (append-nil l.es) ∙ ap (λ os. l.es ++ exprs_of os) (sym done) ∙ l.invariant.0 in
    let all : are_operands c.args.operands.now ≡ true = sym l.invariant.1 ∙ ap are_operands done in
    ap (list_all is_operand) same ∙ same_operands c.args.operands.now ∙ all
