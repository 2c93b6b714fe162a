use Rattle.std.proofs.Common.{◌+◌, ◌*◌, length, option_map, List, drop, [], ◌∷◌}
use Rattle.wit_layout.proofs.FlattenSteps.{rank}
use Rattle.wit_layout.specs.Extent.{discriminant_grain}
use Rattle.wit_layout.specs.Tree.{tree_at}
use Rattle.abi_bindgen.specs.Code.{beyond, place_in, store_case, store_code}
use Rattle.abi_driver.specs.FinishedBlocks.{Resumes}
use Rattle.abi_bindgen.specs.Laws.{Adds}
use Rattle.abi_bindgen.specs.Flow.{in_block}
use Rattle.abi_driver.proofs.CaseStores.{Rest as RestCases}
use Rattle.abi_driver.proofs.StoreSteps.{Rest}
use Rattle.abi_bindgen.proofs.FlowSteps.{FlowsOn}
use Rattle.abi_driver.proofs.memory.store.+store.Given as goal

abbrev pub decreases-store_type : goal.decreases-store_type
decreases-store_type g l = 8 * rank l.ty

abbrev pub decreases-store_id : goal.decreases-store_id
decreases-store_id g l = 8 * l.id.0 + 7

abbrev pub decreases-store_parts : goal.decreases-store_parts
decreases-store_parts g l = 8 * l.id.0 + 1

abbrev pub decreases-store_variant : goal.decreases-store_variant
decreases-store_variant g l = 8 * l.id.0 + 6

abbrev pub decreases-store_cases : goal.decreases-store_cases
decreases-store_cases g l = 8 * l.id.0 + 5

abbrev pub decreases-store_payload : goal.decreases-store_payload
decreases-store_payload g l = 8 * l.id.0 + 3

abbrev pub decreases-store_case : goal.decreases-store_case
decreases-store_case g l = 8 * l.id.0 + 4

-- what stores the parts that are left, stores them all; and what flows for them, flows for all
abbrev pub invariant-store_parts-loop-i : goal.invariant-store_parts-loop-i
invariant-store_parts-loop-i g l =
    let m = g.B.Bindgen.meaning in
    record {
      adds : Adds m l.initial.bindgen l.bindgen;
      flows : FlowsOn m l.resolve.types 1 (λ ty. 1) (λ n ty. store_code l.resolve.types l.realloc ty (beyond l.offset (place_in (tree_at l.resolve.types l.id.0) n))) (l.address ∷ []) l.tys (l.address ∷ l.parts) l.initial.bindgen l.i [] (drop l.i l.parts) l.bindgen;
      rest : Rest m l.resolve.types l.realloc l.tys l.parts l.address l.offset l.i l.initial.bindgen l.bindgen;
    }

-- what stores the cases that are left, stores them all; and what flows for them, flows for all
abbrev pub invariant-store_cases-loop-i : goal.invariant-store_cases-loop-i
invariant-store_cases-loop-i g l =
    let m = g.B.Bindgen.meaning in
    let types = l.resolve.types in
    record {
      resumes : Resumes m l.initial.bindgen l.bindgen;
      flows : (others : List g.row.B-Operand.Denot) → FlowsOn m types 1 (λ payload. 0) (λ n payload. in_block (store_case (length l.payloads) l.offset l.place n (option_map (λ ty. (ty, store_code types l.realloc ty)) payload))) (l.address ∷ []) l.payloads (l.address ∷ others) l.initial.bindgen l.i [] others l.bindgen;
      rest : RestCases m types l.realloc (discriminant_grain (length l.payloads)) l.payloads l.address l.offset l.place l.i l.initial.bindgen l.bindgen;
    }
