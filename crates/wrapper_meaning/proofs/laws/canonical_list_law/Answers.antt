use Rattle.wrapper_meaning.proofs.PlainLists.{buffer_is_its_words, list_is_its_elements, plain_is_alike}
use Rattle.wrapper_meaning.proofs.laws.canonical_list_law.Goals as goal

pub returns-clause-alike : goal.returns-clause-alike
returns-clause-alike c = plain_is_alike

pub returns-clause-elements : goal.returns-clause-elements
returns-clause-elements c = list_is_its_elements

pub returns-clause-words : goal.returns-clause-words
returns-clause-words c = buffer_is_its_words
