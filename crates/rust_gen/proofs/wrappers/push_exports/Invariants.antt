use Rattle.std.proofs.Common.{◌≡◌, ◌++◌, List, map, take}
use Rattle.std.specs.Prelude.{option_to_list}
use Rattle.std.specs.List.{AllZip, flat_map}
use Rattle.rust_tree.specs.declared.runtime_item.RuntimeItem.{RuntimeItem}
use Rattle.rust_gen.specs.Asking.{ExportAsks, asked_with, bare}
use Rattle.rust_gen.specs.Bound.{Parts, areas_of, export_items}
use Rattle.rust_gen.proofs.wrappers.push_exports.Given as goal

abbrev pub invariant-loop-function : goal.invariant-loop-function
invariant-loop-function l =
    (es : List (Parts × List RuntimeItem)) × (l.items ≡ l.initial.items ++ flat_map export_items (bare es))
    × (l.areas ≡ flat_map option_to_list (areas_of (bare es))) × (l.asked ≡ l.initial.asked ++ asked_with es)
    × AllZip (ExportAsks l.resolve.types l.tables.sites) (map (λ f. f.now) (take l.function-index l.functions)) es
