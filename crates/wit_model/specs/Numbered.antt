-- Whether each table, and each list in it, is so short that a `u32` numbers its entries.
use Rattle.std.specs.Prelude.{Bool, true, ◌&&◌, ◌^◌, nat_lt, List, length}
use Rattle.std.specs.List.{list_all}
use Rattle.wit_model.specs.declared.types.TypeDefKind.{TypeDefKind}
use Rattle.wit_model.specs.declared.types.TypeDefKind.TheVariants as kind
use Rattle.wit_model.specs.declared.function.Function.{Function}
use Rattle.wit_model.specs.declared.world.WorldKey.{WorldKey}
use Rattle.wit_model.specs.declared.world.WorldItem.{WorldItem}
use Rattle.wit_model.specs.declared.world.WorldItem.TheVariants as item
use Rattle.wit_model.specs.declared.world.World.{World}
use Rattle.wit_model.specs.declared.world.Interface.{Interface}
use Rattle.wit_model.specs.declared.resolve.Resolve.{Resolve}

-- a list has fewer entries than there are numbers
unfoldable pub is_short : {A : Type 0} → List A → Bool
is_short xs = nat_lt (length xs) (2 ^ 32)

-- the members of a kind
unfoldable pub kind_numbered : TypeDefKind → Bool
kind_numbered (kind.Tuple members) = is_short members
kind_numbered (kind.Record fields) = is_short fields
kind_numbered (kind.Variant cases) = is_short cases
kind_numbered (kind.Enum members) = is_short members
kind_numbered (kind.Flags members) = is_short members
kind_numbered _ = true

unfoldable pub function_numbered : Function → Bool
function_numbered f = is_short f.params

unfoldable pub interface_numbered : Interface → Bool
interface_numbered entry = is_short entry.types && is_short entry.functions && list_all (λ f. function_numbered f) entry.functions

unfoldable pub item_numbered : WorldItem → Bool
item_numbered (item.Function f) = function_numbered f
item_numbered _ = true

-- the imports, or the exports, of a world
unfoldable pub listed_numbered : List (WorldKey × WorldItem) → Bool
listed_numbered listed = is_short listed && list_all (λ l. item_numbered l.1) listed

unfoldable pub world_numbered : World → Bool
world_numbered entry = listed_numbered entry.imports && listed_numbered entry.exports

-- the tables themselves
unfoldable pub tables_short : Resolve → Bool
tables_short r = is_short r.packages && is_short r.interfaces && is_short r.types && is_short r.worlds

unfoldable pub is_numbered : Resolve → Bool
is_numbered r =
    tables_short r && list_all (λ i. interface_numbered i) r.interfaces && list_all (λ t. kind_numbered t.kind) r.types && list_all (λ w. world_numbered w) r.worlds
