use Rattle.std.proofs.Common.{◌++◌, false, List, drop, []}
use Rattle.abi_bindgen.specs.declared.instruction.Instruction.TheVariants.{GetArg}
use Rattle.abi_bindgen.specs.Code.{lower_code}
use Rattle.abi_bindgen.specs.Instructions.{shapes_of}
use Rattle.abi_bindgen.specs.Laws.{Adds}
use Rattle.abi_bindgen.specs.Lowers.{LowersArguments}
use Rattle.abi_bindgen.specs.Flow.{emit, ◌>>>◌}
use Rattle.abi_bindgen.proofs.FlowSteps.{FlowsOn}
use Rattle.abi_driver.proofs.calls.import.lower_arguments.Given as goal

-- what lowers the arguments that are left, lowers them all; and what flows for them, flows for all
abbrev pub invariant-loop-i : goal.invariant-loop-i
invariant-loop-i g l =
    let m = g.B.Bindgen.meaning in
    let types = l.resolve.types in
    record {
      adds : Adds m l.initial.bindgen l.bindgen;
      flows : FlowsOn m types 0 (λ ty. 0) (λ n ty. emit (GetArg n) >>> lower_code types false ty) [] l.tys [] l.initial.bindgen l.i l.all.items [] l.bindgen;
      rest : (new : g.row.B.Denot) (later : List _) → LowersArguments m false (shapes_of types (drop l.i l.tys)) l.i later l.bindgen new
          → LowersArguments m false (shapes_of types l.tys) 0 (l.all.items ++ later) l.initial.bindgen new;
    }
