use Rattle.std.proofs.Common.{sym, subst}
use Rattle.abi_bindgen.specs.Instructions.{Emits}
use Rattle.abi_bindgen.specs.declared.instruction.Instruction.TheVariants as instruction
use Rattle.func_gen.specs.Meaning.{func_meaning}
use Rattle.func_gen.specs.BindgenSeen.{seen_bindgen}
use Rattle.func_gen.proofs.EndRows.{give_row, giving}
use Rattle.func_gen.proofs.function_bindgen.FunctionBindgen.give.Goals as goal

pub returns : goal.returns
returns c =
    let types = c.args.resolve.now.types in
    let os = c.args.operands.now in
    let b = seen_bindgen c.self.inside in
    rw (← c.self.view_is) (subst (λ given. Emits func_meaning types (instruction.Return c.args.count) os c.args.results.now b (giving given b)) (sym c.replace-given.ensures.value)
    (subst (λ rs. Emits func_meaning types (instruction.Return c.args.count) os rs b (giving os b)) (sym c.requires.empty) (give_row os b types c.args.count c.requires.many)))
