use Rattle.wrapper_faithful.proofs.KeptHeaps.{export_keeps_heap, import_keeps_heap, post_return_keeps_heap}
use Rattle.wrapper_faithful.proofs.laws.heap_law.Goals as goal

pub returns : goal.returns
returns c = record { imports = import_keeps_heap; exports = export_keeps_heap; post_returns = post_return_keeps_heap }
