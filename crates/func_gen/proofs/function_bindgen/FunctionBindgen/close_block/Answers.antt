use Rattle.func_gen.proofs.Finishing.{finishes}
use Rattle.func_gen.proofs.function_bindgen.FunctionBindgen.close_block.Goals as goal

pub returns : goal.returns
returns c = finishes c.args.operands.now c.args.self.now _ c.in_ok-resume.ensures
