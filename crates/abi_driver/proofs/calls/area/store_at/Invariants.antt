use Rattle.std.proofs.Common.{◌∷◌, false, []}
use Rattle.abi_bindgen.specs.declared.instruction.Instruction.TheVariants.{GetArg}
use Rattle.abi_bindgen.specs.Code.{store_code, argument_place}
use Rattle.abi_bindgen.specs.Laws.{Adds}
use Rattle.abi_bindgen.specs.Flow.{emit, leading, both, alone, ◌>>>◌}
use Rattle.abi_driver.proofs.RecordStores.{Rest}
use Rattle.abi_bindgen.proofs.FlowSteps.{FlowsOn}
use Rattle.abi_driver.proofs.calls.area.store_at.Given as goal

-- what stores the arguments that are left, stores them all; and what flows for them, flows for all
abbrev pub invariant-loop-i : goal.invariant-loop-i
invariant-loop-i g l =
    let m = g.B.Bindgen.meaning in
    let types = l.resolve.types in
    record {
      adds : Adds m l.initial.bindgen l.bindgen;
      flows : FlowsOn m types 1 (λ ty. 0) (λ n ty. both (leading 1) (alone (emit (GetArg n))) >>> store_code types false ty (argument_place types l.tys n)) (l.address ∷ []) l.tys (l.address ∷ []) l.initial.bindgen l.i [] [] l.bindgen;
      rest : Rest m g.met.B.Bindgen.sound types l.tys l.address l.i l.initial.bindgen l.bindgen;
    }
