use Rattle.std.proofs.Common.{◌≡◌, ◌+◌, ◌*◌, length, option_map, [], ◌∷◌}
use Rattle.wit_layout.proofs.FlattenSteps.{rank}
use Rattle.wit_layout.specs.Tree.{tree_at}
use Rattle.abi_bindgen.specs.Code.{at_payload, beyond, load_code, place_in}
use Rattle.abi_driver.specs.FinishedBlocks.{Resumes}
use Rattle.abi_bindgen.specs.Laws.{Adds}
use Rattle.abi_bindgen.specs.Flow.{in_block}
use Rattle.abi_driver.proofs.CaseLoads.{Rest as RestCases}
use Rattle.abi_driver.proofs.LoadSteps.{Rest}
use Rattle.abi_bindgen.proofs.FlowSteps.{FlowsOn}
use Rattle.abi_driver.proofs.memory.load.+load.Given as goal

abbrev pub decreases-load_type : goal.decreases-load_type
decreases-load_type g l = 8 * rank l.ty

abbrev pub decreases-load_id : goal.decreases-load_id
decreases-load_id g l = 8 * l.id.0 + 7

abbrev pub decreases-load_parts : goal.decreases-load_parts
decreases-load_parts g l = 8 * l.id.0 + 1

abbrev pub decreases-load_variant : goal.decreases-load_variant
decreases-load_variant g l = 8 * l.id.0 + 6

abbrev pub decreases-load_cases : goal.decreases-load_cases
decreases-load_cases g l = 8 * l.id.0 + 5

abbrev pub decreases-load_payload : goal.decreases-load_payload
decreases-load_payload g l = 8 * l.id.0 + 3

abbrev pub decreases-load_case : goal.decreases-load_case
decreases-load_case g l = 8 * l.id.0 + 4

-- what loads the parts that are left, loads them all; and what flows for them, flows for all
abbrev pub invariant-load_parts-loop-i : goal.invariant-load_parts-loop-i
invariant-load_parts-loop-i g l =
    let m = g.B.Bindgen.meaning in
    record {
      adds : Adds m l.initial.bindgen l.bindgen;
      count : length l.parts ≡ l.i;
      flows : FlowsOn m l.resolve.types 1 (λ ty. 0) (λ n ty. load_code l.resolve.types ty (beyond l.offset (place_in (tree_at l.resolve.types l.id.0) n))) (l.address ∷ []) l.tys (l.address ∷ []) l.initial.bindgen l.i l.parts [] l.bindgen;
      rest : Rest m l.resolve.types l.tys l.address l.offset l.i l.parts l.initial.bindgen l.bindgen;
    }

-- what loads the cases that are left, loads them all; and what flows for them, flows for all
abbrev pub invariant-load_cases-loop-i : goal.invariant-load_cases-loop-i
invariant-load_cases-loop-i g l =
    let m = g.B.Bindgen.meaning in
    let types = l.resolve.types in
    record {
      resumes : Resumes m l.initial.bindgen l.bindgen;
      flows : FlowsOn m types 1 (λ payload. 0) (λ n payload. in_block (at_payload l.place (option_map (λ ty. (ty, load_code types ty)) payload))) (l.address ∷ []) l.payloads (l.address ∷ []) l.initial.bindgen l.i [] [] l.bindgen;
      rest : RestCases m types l.payloads l.address l.place l.i l.initial.bindgen l.bindgen;
    }
