use Rattle.std.proofs.Common.{◌≡◌, option_map, drop, ◌++◌}
use Rattle.wit_document.specs.View.{items_view}
use Rattle.wit_document.specs.Members.{items_of}
use Rattle.wit_document.proofs.reading.ListReadable.read.Given as goal

-- what was read and what is left make the whole
abbrev pub invariant-loop-value : goal.invariant-loop-value
invariant-loop-value g l = option_map (λ rest. l.items ++ rest) (items_of g.T.Readable.read_of (items_view (drop l.value-index l.value-items))) ≡ items_of g.T.Readable.read_of (items_view l.value-items)
