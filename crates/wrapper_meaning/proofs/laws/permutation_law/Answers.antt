use Rattle.wrapper_meaning.proofs.Permutations.{fewer_are_a_part, same_blocks_are_permuted, same_requests_are_permuted}
use Rattle.wrapper_meaning.proofs.laws.permutation_law.Goals as goal

pub returns-clause-blocks : goal.returns-clause-blocks
returns-clause-blocks c = same_blocks_are_permuted

pub returns-clause-requests : goal.returns-clause-requests
returns-clause-requests c = same_requests_are_permuted

pub returns-clause-part : goal.returns-clause-part
returns-clause-part c = fewer_are_a_part
