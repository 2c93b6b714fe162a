use Rattle.std.proofs.Common.{◌≡◌, true, length, Option, sym, ap, subst, [], ◌∷◌}
use Rattle.std.specs.Option.{option_map}
use Rattle.wit_model.specs.TypeOrder.{payload_below}
use Rattle.wit_model.specs.declared.size.ArchitectureSize.{ArchitectureSize}
use Rattle.wit_model.specs.declared.types.WitType.{WitType}
use Rattle.wrapper_meaning.specs.Shape.{shape_of}
use Rattle.abi_bindgen.specs.Served.{ServesResult}
use Rattle.abi_bindgen.specs.declared.instruction.Instruction.TheVariants.{GetArg}
use Rattle.abi_bindgen.specs.Code.{free_code, free_result_code}
use Rattle.abi_bindgen.specs.Frees.{FreesInMemory, FreesResult, nowhere}
use Rattle.abi_bindgen.specs.Flow.{emit, ◌>>>◌}
use Rattle.abi_bindgen.specs.Flows.{Flows}
use Rattle.abi_driver.proofs.ReturnSteps.{argument_frees}
use Rattle.abi_bindgen.proofs.Runs.{adds_both}
use Rattle.abi_bindgen.proofs.FlowSteps.{flows_as, flows_then}
use Rattle.abi_driver.proofs.after_return.free_result.Goals as goal

pub free_type-requires-clause-serves : goal.free_type-requires-clause-serves
free_type-requires-clause-serves g c =
    let types = c.args.resolve.now.types in
    subst (λ (p : Option WitType). ServesResult (option_map (shape_of types) p)) c.in-Some.is c.requires.serves

pub free_type-requires-clause-low : goal.free_type-requires-clause-low
unfolding payload_below
free_type-requires-clause-low g c =
    let types = c.args.resolve.now.types in
    let knows = c.in_ok-address.ensures.adds.grows.knows types c.requires.knows in
    c.start-start.ensures.low types c.in-Some.ty knows (subst (λ (p : Option WitType). payload_below (length types) p ≡ true) c.in-Some.is c.requires.below)

pub returns-clause-adds : goal.returns-clause-adds
returns-clause-adds g c = adds_both g.B.Bindgen.meaning _ _ _ c.in_ok-address.ensures.adds c.in_ok-free_type.ensures.frees.adds

pub returns-clause-frees : goal.returns-clause-frees
returns-clause-frees g c =
    let m = g.B.Bindgen.meaning in
    let types = c.args.resolve.now.types in
    subst (λ r. FreesResult m (option_map (shape_of types) r) c.args.bindgen.now c.free_type.new.bindgen) (sym c.in-Some.is)
    (argument_frees m types (shape_of types c.in-Some.ty) _ _ _ c.in_ok-address.address c.in_ok-address.ensures (subst (λ (s : ArchitectureSize). FreesInMemory m (shape_of types c.in-Some.ty) c.in_ok-address.address s c.argument.new.bindgen c.free_type.new.bindgen) c.start-start.ensures.here c.in_ok-free_type.ensures.frees))

pub returns-clause-flows : goal.returns-clause-flows
returns-clause-flows g c =
    let m = g.B.Bindgen.meaning in
    let types = c.args.resolve.now.types in
    let ty = c.in-Some.ty in
    let address = c.in_ok-address.address in
    let free = subst (λ (s : ArchitectureSize). Flows m types (free_code types ty s) (address ∷ []) [] c.argument.new.bindgen c.free_type.new.bindgen) c.start-start.ensures.here c.in_ok-free_type.ensures.flows in
    flows_as m types (emit (GetArg 0) >>> free_code types ty nowhere) (free_result_code types c.args.ty) [] [] _ _ (ap (free_result_code types) c.in-Some.is)
    (flows_then m types (emit (GetArg 0)) (free_code types ty nowhere) [] (address ∷ []) [] _ _ _ c.in_ok-address.ensures free)
