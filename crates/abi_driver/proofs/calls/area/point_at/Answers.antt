use Rattle.abi_driver.proofs.AreaAsked.{asks_for, is_power, flows_asking}
use Rattle.abi_driver.proofs.LowPlaces.{sized, small_size}
use Rattle.abi_driver.proofs.calls.area.point_at.Goals as goal

pub size-size-requires : goal.size-size-requires
size-size-requires g c =
    let types = c.args.resolve.now.types in
    sized c.sizes-sizes.result.now types (c.sizes-sizes.ensures types c.requires.knows) c.args.ty c.requires.below

pub align-align-requires : goal.align-align-requires
align-align-requires g c =
    let types = c.args.resolve.now.types in
    sized c.sizes-sizes.result.now types (c.sizes-sizes.ensures types c.requires.knows) c.args.ty c.requires.below

pub return_pointer-requires : goal.return_pointer-requires
return_pointer-requires g c =
    let types = c.args.resolve.now.types in
    let filled = c.sizes-sizes.ensures types c.requires.knows in
    record {
      closed = c.requires.closed;
      small = small_size c.sizes-sizes.result.now types filled c.args.ty c.requires.below c.size-size.result (c.size-size.ensures types filled);
      aligned = is_power types c.args.ty c.align-align.result (c.align-align.ensures types filled);
    }

pub returns : goal.returns
returns g c =
    let m = g.B.Bindgen.meaning in
    let types = c.args.resolve.now.types in
    let filled = c.sizes-sizes.ensures types c.requires.knows in
    record {
      points = asks_for m types c.args.ty c.size-size.result c.align-align.result _ _ _ (c.size-size.ensures types filled) (c.align-align.ensures types filled) c.in_ok-operand.ensures;
      flows = flows_asking m types c.args.ty c.size-size.result c.align-align.result _ _ _ (c.size-size.ensures types filled) (c.align-align.ensures types filled) c.in_ok-operand.ensures;
    }
