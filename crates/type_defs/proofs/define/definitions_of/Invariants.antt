use Rattle.std.proofs.Common.{◌≡◌, List, take}
use Rattle.std.specs.List.{AllZip, flat_map}
use Rattle.wit_model.specs.declared.name.WorldId.{WorldId}
use Rattle.type_facts.specs.Facts.{IsAnalysis}
use Rattle.rust_tree.specs.declared.type_item.TypeItem.{TypeItem}
use Rattle.type_defs.specs.Defined.{AreDefinitionsOf}
use Rattle.type_defs.proofs.define.definitions_of.Given as goal

abbrev pub invariant-loop-own : goal.invariant-loop-own
invariant-loop-own l = (owns : List (List TypeItem)) × (l.items ≡ flat_map (λ own. own) owns) × ((id : WorldId) → IsAnalysis l.resolve id l.facts → AllZip (AreDefinitionsOf l.opts l.resolve id) (take l.own-index l.own-items) owns)
