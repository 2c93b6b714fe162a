use Rattle.wrapper_closing.proofs.ReturnedFrees.{closed_post_return_frees, closed_post_return_is_returned, unlisted_is_unreturned}
use Rattle.wrapper_closing.proofs.laws.post_return_law.Goals as goal

pub returns-clause-frees : goal.returns-clause-frees
returns-clause-frees c = closed_post_return_frees

pub returns-clause-returned : goal.returns-clause-returned
returns-clause-returned c = closed_post_return_is_returned

pub returns-clause-unreturned : goal.returns-clause-unreturned
returns-clause-unreturned c = unlisted_is_unreturned
