use Rattle.std.proofs.Common.{arith}
use mathlib.Core.Logic.{inr}
use Rattle.abi_driver.proofs.AreaAsked.{asks_for_record, record_is_power, flows_asking_record}
use Rattle.abi_driver.proofs.LowPlaces.{small_fits}
use Rattle.abi_bindgen.proofs.TableSizes.{have_places}
use Rattle.abi_driver.proofs.calls.area.point_at_record.Goals as goal

pub record_of-align-requires-clause-room : goal.record_of-align-requires-clause-room
record_of-align-requires-clause-room g c =
    let types = c.args.resolve.now.types in
    let sizes = c.sizes-sizes.result.now in
    let tys = c.args.tys.now in
    let filled = c.sizes-sizes.ensures types c.requires.knows in
    inr (small_fits sizes tys (have_places sizes types tys filled c.requires.below) types filled c.requires.small)

pub return_pointer-requires : goal.return_pointer-requires
return_pointer-requires g c =
    let types = c.args.resolve.now.types in
    let filled = c.sizes-sizes.ensures types c.requires.knows in
    let size = c.record_of-align.ensures.size types filled in
    record {
      closed = c.requires.closed;
      small = omega (arith, size.1, c.requires.small);
      aligned = record_is_power types c.args.tys.now _ (c.record_of-align.ensures.align types filled);
    }

pub returns : goal.returns
returns g c =
    let m = g.B.Bindgen.meaning in
    let types = c.args.resolve.now.types in
    let tys = c.args.tys.now in
    let filled = c.sizes-sizes.ensures types c.requires.knows in
    record {
      points = asks_for_record m types tys _ _ _ _ _ (c.record_of-align.ensures.size types filled) (c.record_of-align.ensures.align types filled) c.in_ok-operand.ensures;
      flows = flows_asking_record m types tys _ _ _ _ _ (c.record_of-align.ensures.size types filled) (c.record_of-align.ensures.align types filled) c.in_ok-operand.ensures;
    }
