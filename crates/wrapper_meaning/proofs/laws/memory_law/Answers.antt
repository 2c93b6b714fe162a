use Rattle.wrapper_meaning.proofs.MemoryDetermined.{memory_determines}
use Rattle.wrapper_meaning.proofs.laws.memory_law.Goals as goal

pub returns : goal.returns
returns c = memory_determines
