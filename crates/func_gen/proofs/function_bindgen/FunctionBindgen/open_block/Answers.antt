use Rattle.func_gen.proofs.Opening.{pushes}
use Rattle.func_gen.proofs.function_bindgen.FunctionBindgen.open_block.Goals as goal

pub returns : goal.returns
returns c = pushes c.args.self.now _ c.in_ok-suspend.ensures
