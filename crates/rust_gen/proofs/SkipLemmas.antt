-- Whatever is looked for in a file is looked for behind the definitions of its types.
use Rattle.std.proofs.Common.{◌≡◌, ℕ, zero, suc, ◌+◌, List, [], ◌∷◌, ◌++◌, map, refl}
use Rattle.wit_model.specs.Bytes.{Bytes}
use Rattle.rust_tree.specs.declared.item.Item.{Item}
use Rattle.rust_tree.specs.declared.item.Item.TheVariants as item
use Rattle.rust_tree.specs.declared.place.FuncPlace.{FuncPlace}
use Rattle.rust_tree.specs.declared.type_item.TypeItem.{TypeItem}
use Rattle.rust_tree.specs.Tree.{wrapper_count, wrappers_from}
use Rattle.wrapper_run.specs.Entries.{entries_in, exports_in, post_returns_in}
use Rattle.wrapper_run.specs.ExportRun.{export_nth, method_named}
use Rattle.wrapper_run.specs.Places.{area_in}
use Rattle.wrapper_run.specs.PostReturn.{post_return_named}
use Rattle.wrapper_run.specs.Run.{import_nth, runtime_item_named}
use Rattle.rust_gen.specs.Served.{runtime_in}

pub skip-import : (ts : List TypeItem) (items : List Item) (nth : ℕ) → import_nth nth (map item.Type ts ++ items) ≡ import_nth nth items
skip-import [] items nth = refl
skip-import (t ∷ ts) items zero = skip-import ts items zero
skip-import (t ∷ ts) items (suc nth) = skip-import ts items (suc nth)

pub skip-export : (ts : List TypeItem) (items : List Item) (nth : ℕ) → export_nth nth (map item.Type ts ++ items) ≡ export_nth nth items
skip-export [] items nth = refl
skip-export (t ∷ ts) items zero = skip-export ts items zero
skip-export (t ∷ ts) items (suc nth) = skip-export ts items (suc nth)

pub skip-wrappers : (ts : List TypeItem) (items : List Item) (places : List FuncPlace) (next : ℕ) → (m : ℕ) × (wrappers_from next (map item.Type ts ++ items) places ≡ wrappers_from m items places)
skip-wrappers [] items places next = (next, refl)
skip-wrappers (t ∷ ts) items places next = skip-wrappers ts items places (next + 1)

pub skip-exports : (ts : List TypeItem) (items : List Item) → exports_in (map item.Type ts ++ items) ≡ exports_in items
skip-exports [] items = refl
skip-exports (t ∷ ts) items = skip-exports ts items

pub skip-entries : (ts : List TypeItem) (items : List Item) → entries_in (map item.Type ts ++ items) ≡ entries_in items
skip-entries [] items = refl
skip-entries (t ∷ ts) items = skip-entries ts items

pub skip-method : (ts : List TypeItem) (items : List Item) (bound name : Bytes) → method_named (map item.Type ts ++ items) bound name ≡ method_named items bound name
skip-method [] items bound name = refl
skip-method (t ∷ ts) items bound name = skip-method ts items bound name

pub skip-area : (ts : List TypeItem) (items : List Item) → area_in (map item.Type ts ++ items) ≡ area_in items
skip-area [] items = refl
skip-area (t ∷ ts) items = skip-area ts items

pub skip-post_return : (ts : List TypeItem) (items : List Item) (base : Bytes) → post_return_named base (map item.Type ts ++ items) ≡ post_return_named base items
skip-post_return [] items base = refl
skip-post_return (t ∷ ts) items base = skip-post_return ts items base

pub skip-post_returns : (ts : List TypeItem) (items : List Item) → post_returns_in (map item.Type ts ++ items) ≡ post_returns_in items
skip-post_returns [] items = refl
skip-post_returns (t ∷ ts) items = skip-post_returns ts items

pub skip-runtime_item : (ts : List TypeItem) (items : List Item) (name : Bytes) → runtime_item_named (map item.Type ts ++ items) name ≡ runtime_item_named items name
skip-runtime_item [] items name = refl
skip-runtime_item (t ∷ ts) items name = skip-runtime_item ts items name

pub skip-runtime : (ts : List TypeItem) (items : List Item) → runtime_in (map item.Type ts ++ items) ≡ runtime_in items
skip-runtime [] items = refl
skip-runtime (t ∷ ts) items = skip-runtime ts items

pub skip-count : (ts : List TypeItem) (items : List Item) → wrapper_count (map item.Type ts ++ items) ≡ wrapper_count items
skip-count [] items = refl
skip-count (t ∷ ts) items = skip-count ts items
