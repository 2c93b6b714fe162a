use Rattle.abi_driver.proofs.LowPlaces.{starts_low}
use Rattle.abi_driver.proofs.memory.place.start.Goals as goal

pub returns-clause-low : goal.returns-clause-low
returns-clause-low g c = λ types ty knows below. starts_low c.sizes-sizes.result.now types (c.sizes-sizes.ensures types knows) ty below
