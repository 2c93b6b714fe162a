use Rattle.std.proofs.Common.{arith}
use Rattle.abi_driver.proofs.LowPlaces.{entry_sized}
use Rattle.abi_driver.proofs.PartOffsets.{beyond_at}
use Rattle.abi_driver.proofs.memory.variants.payload_place.Goals as goal

pub payload_offset-requires : goal.payload_offset-requires
payload_offset-requires g c =
    let (types, knows, payload) = c.requires in
    entry_sized c.sizes.result.now types (c.sizes.ensures types knows) c.args.id payload.entry payload.stands

pub sum-requires : goal.sum-requires
sum-requires g c =
    let (types, knows, payload) = c.requires in
    let there = c.payload_offset.ensures.own types payload.entry (c.sizes.ensures types knows) payload.stands payload.own in
    omega (arith, beyond_at c.args.offset c.payload_offset.result 8, there.1, payload.low)

pub returns : goal.returns
returns g c = λ types entry knows at own. (c.payload_offset.result, c.sum.ensures, c.payload_offset.ensures.own types entry (c.sizes.ensures types knows) at own)
