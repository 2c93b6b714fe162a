use Rattle.std.proofs.Common.{[], ◌∷◌}
use Rattle.abi_bindgen.specs.Frees.{nowhere}
use Rattle.abi_bindgen.specs.Code.{free_code, argument_place}
use Rattle.abi_bindgen.specs.Laws.{Adds}
use Rattle.abi_driver.proofs.FreeSteps.{Rest}
use Rattle.abi_bindgen.proofs.FlowSteps.{FlowsOn}
use Rattle.abi_driver.proofs.dealloc.memory.free_record.Given as goal

-- what frees the parts that are left, frees them all; and what flows for them, flows for all
abbrev pub invariant-loop-i : goal.invariant-loop-i
invariant-loop-i g l =
    let m = g.B.Bindgen.meaning in
    record {
      adds : Adds m l.initial.bindgen l.bindgen;
      flows : FlowsOn m l.resolve.types 1 (λ ty. 0) (λ n ty. free_code l.resolve.types ty (argument_place l.resolve.types l.types n)) (l.address ∷ []) l.types (l.address ∷ []) l.initial.bindgen l.i [] [] l.bindgen;
      rest : Rest m l.resolve.types l.types l.address nowhere l.i l.initial.bindgen l.bindgen;
    }
