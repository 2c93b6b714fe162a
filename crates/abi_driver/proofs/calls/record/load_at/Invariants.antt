use Rattle.std.proofs.Common.{◌≡◌, length, [], ◌∷◌}
use Rattle.abi_bindgen.specs.Code.{load_code, argument_place}
use Rattle.abi_bindgen.specs.Frees.{nowhere}
use Rattle.abi_bindgen.specs.Laws.{Adds}
use Rattle.abi_driver.proofs.LoadSteps.{Rest}
use Rattle.abi_bindgen.proofs.FlowSteps.{FlowsOn}
use Rattle.abi_driver.proofs.calls.record.load_at.Given as goal

-- what loads the parts that are left, loads them all; and what flows for them, flows for all
abbrev pub invariant-loop-i : goal.invariant-loop-i
invariant-loop-i g l =
    let m = g.B.Bindgen.meaning in
    let types = l.resolve.types in
    record {
      adds : Adds m l.initial.bindgen l.bindgen;
      count : length l.parts ≡ l.i;
      flows : FlowsOn m types 1 (λ ty. 0) (λ n ty. load_code types ty (argument_place types l.tys n)) (l.address ∷ []) l.tys (l.address ∷ []) l.initial.bindgen l.i l.parts [] l.bindgen;
      rest : Rest m types l.tys l.address nowhere l.i l.parts l.initial.bindgen l.bindgen;
    }
