use Rattle.wrapper_closing.proofs.PostReturnBodyCloses.{post_return_body_frees, post_return_body_is_returned}
use Rattle.wrapper_closing.proofs.laws.post_return_body_law.Goals as goal

pub returns-clause-frees : goal.returns-clause-frees
returns-clause-frees c = post_return_body_frees

pub returns-clause-returned : goal.returns-clause-returned
returns-clause-returned c = post_return_body_is_returned
