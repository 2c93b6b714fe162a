use Rattle.wrapper_meaning.specs.Shape.Shape.{fields}
use Rattle.abi_bindgen.specs.Code.{ask_for, store_arguments}
use Rattle.abi_bindgen.specs.Instructions.{shapes_of}
use Rattle.abi_bindgen.specs.Flow.{same, both}
use Rattle.abi_bindgen.proofs.Writing.{each_later}
use Rattle.abi_bindgen.proofs.FlowSteps.{flows_then, flows_both}
use Rattle.std.proofs.Common.{refl, [], ◌∷◌}
use Rattle.abi_driver.proofs.calls.area.store_arguments.Goals as goal

pub store_at-requires-clause-writes : goal.store_at-requires-clause-writes
store_at-requires-clause-writes g c = each_later g.B.Bindgen.meaning c.args.resolve.now.types _ _ c.args.tys.now c.in_ok-address.ensures.points.2.grows c.requires.writes

pub returns : goal.returns
returns g c =
    let m = g.B.Bindgen.meaning in
    let types = c.args.resolve.now.types in
    let tys = c.args.tys.now in
    let address = c.in_ok-address.address in
    record {
      passes = record { middle = c.point_at_record.new.bindgen; points = c.in_ok-address.ensures.points; stores = c.in_ok-store_at.ensures.stores };
      flows = flows_then m types (ask_for (fields (shapes_of types tys))) (both (store_arguments types tys) same) [] (address ∷ []) (address ∷ []) c.args.bindgen.now c.point_at_record.new.bindgen c.store_at.new.bindgen c.in_ok-address.ensures.flows
          (flows_both m types (store_arguments types tys) same (address ∷ []) [] (address ∷ []) c.point_at_record.new.bindgen c.store_at.new.bindgen c.store_at.new.bindgen c.in_ok-store_at.ensures.flows (refl, refl));
    }
