-- The text computes once the item is known.
use Rattle.rust_tree.proofs.print.runtime.push_runtime_item.Goals as goal

pub returns-in-AsI32 : goal.returns-in-AsI32
returns-in-AsI32 c = rw c.in-AsI32.is (rw c.in-AsI32.is at c.push_conversion.ensures)
