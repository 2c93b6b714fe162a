use Rattle.wrapper_faithful.proofs.NoHandles.{all_calls_count, nothing_is_dropped}
use Rattle.wrapper_faithful.proofs.laws.handle_law.Goals as goal

pub returns : goal.returns
returns c = record { calls = all_calls_count; drops = nothing_is_dropped }
