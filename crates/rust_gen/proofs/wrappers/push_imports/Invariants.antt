use Rattle.std.proofs.Common.{◌≡◌, ◌++◌, List, map, take}
use Rattle.std.specs.List.{AllZip}
use Rattle.rust_tree.specs.declared.item.FnItem.{FnItem}
use Rattle.rust_tree.specs.declared.item.Item.TheVariants as item
use Rattle.rust_tree.specs.declared.runtime_item.RuntimeItem.{RuntimeItem}
use Rattle.rust_gen.specs.Asking.{ImportAsks, asked_with, bare}
use Rattle.rust_gen.proofs.wrappers.push_imports.Given as goal

abbrev pub invariant-loop-function : goal.invariant-loop-function
invariant-loop-function l =
    (is : List (FnItem × List RuntimeItem)) × (l.items ≡ l.initial.items ++ map item.Import (bare is)) × (l.asked ≡ l.initial.asked ++ asked_with is)
    × AllZip (ImportAsks l.resolve.types l.tables.sites) (map (λ f. f.now) (take l.function-index l.functions)) is
