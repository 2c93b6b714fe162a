use Rattle.std.proofs.Common.{ap, arith, refl}
use Rattle.std.proofs.lemmas.Int.{ints}
use Rattle.rust_tree.specs.declared.expr.Expr.TheVariants as expr
use Rattle.abi_bindgen.specs.declared.instruction.Instruction.TheVariants as instruction
use Rattle.func_gen.proofs.ConstantRows.{number_row}
use Rattle.func_gen.proofs.Rows.{emits_as, pushed}
use Rattle.func_gen.proofs.function_bindgen.FunctionBindgen.make_number.Goals as goal

pub returns : goal.returns
returns c =
    let types = c.args.resolve.now.types in
    let fits = c.ranges.number in
    emits_as types (instruction.I32Const c.args.number) _ _ _ _ _ _ refl
    (pushed c.args.results.now _ _ (expr.I32Const c.args.number) c.in_ok-push.ensures.ok c.requires.empty (ap (λ z. expr.I32Const z) (omega (arith, ints))))
    (number_row types c.args.self.now c.args.number)
