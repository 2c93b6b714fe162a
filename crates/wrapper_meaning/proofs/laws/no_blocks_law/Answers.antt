use Rattle.wrapper_meaning.proofs.NoLists.{memory_has_no_blocks, result_has_no_blocks, rust_value_has_no_blocks}
use Rattle.wrapper_meaning.proofs.laws.no_blocks_law.Goals as goal

pub returns-clause-memory : goal.returns-clause-memory
returns-clause-memory c = memory_has_no_blocks

pub returns-clause-words : goal.returns-clause-words
returns-clause-words c = result_has_no_blocks

pub returns-clause-rust_value : goal.returns-clause-rust_value
returns-clause-rust_value c = rust_value_has_no_blocks
