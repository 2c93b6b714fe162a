use Rattle.std.proofs.Common.{refl, ◌++◌, ◌∙◌, ap, arith}
use Rattle.abi_bindgen.specs.declared.instruction.Instruction.TheVariants as instruction
use Rattle.func_gen.specs.PartForms.{locals_of}
use Rattle.func_gen.proofs.TupleRows.{apart_row}
use Rattle.func_gen.proofs.PlainOperands.{emits_plainly}
use Rattle.func_gen.proofs.function_bindgen.FunctionBindgen.lower_tuple.Goals as goal

pub returns : goal.returns
returns c =
    let types = c.args.resolve.now.types in
    let e = c.only_expr-e.result.now in
    let names = c.in_ok-names.names in
    let named = c.in_ok-names.ensures.takes in
    emits_plainly types (instruction.TupleLower c.args.count) _ _ _ _ _ _ refl c.only_expr-e.ensures.only
    (c.in_ok-push_locals.ensures ∙ ap (λ rs. rs ++ locals_of c.as_slice.result.now) c.requires.empty ∙ ap locals_of c.as_slice.ensures)
    (apart_row types _ _ named.number c.args.count names e c.only_expr-e.ensures.operand (omega arith) named.are c.in_ok-names.ensures.adds c.in_ok-names.ensures.fresh named.takes)
