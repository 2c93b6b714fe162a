use Rattle.std.proofs.Common.{◌∙◌, ap}
use Rattle.func_gen.specs.declared.function_bindgen.FunctionBindgen.{FunctionBindgen}
use Rattle.func_gen.proofs.function_bindgen.FunctionBindgen.begin_call.Goals as goal

pub invariant_of-self : goal.invariant_of-self
invariant_of-self c =
    record {
      blocks = rw (ap (λ (b : FunctionBindgen). b.opened) c.self.view_is ∙ c.requires.closed) tt;
      small = c.self.invariant.small;
      around = c.self.invariant.around;
      before = c.self.invariant.before;
      inward = c.self.invariant.inward;
    }
