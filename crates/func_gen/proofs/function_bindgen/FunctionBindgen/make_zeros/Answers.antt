use Rattle.std.proofs.Common.{◌++◌, ◌∙◌, ap, refl}
use Rattle.abi_bindgen.specs.declared.instruction.Instruction.TheVariants as instruction
use Rattle.func_gen.specs.CastForms.{zero_operands}
use Rattle.func_gen.proofs.ConstantRows.{zeros_row}
use Rattle.func_gen.proofs.Rows.{emits_as}
use Rattle.func_gen.proofs.function_bindgen.FunctionBindgen.make_zeros.Goals as goal

pub returns : goal.returns
returns c =
    let types = c.args.resolve.now.types in
    emits_as types (instruction.ConstZero c.args.types) _ _ _ _ _ _ refl (c.in_ok-push_zeros.ensures ∙ ap (λ rs. rs ++ zero_operands c.args.types.now) c.requires.empty) (zeros_row types c.args.self.now c.args.types)
