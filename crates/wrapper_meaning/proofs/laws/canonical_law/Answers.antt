use Rattle.wrapper_meaning.proofs.PlainIsCanonical.{plain_is_canonical_law}
use Rattle.wrapper_meaning.proofs.laws.canonical_law.Goals as goal

pub returns : goal.returns
returns c = plain_is_canonical_law
