-- The functions of a world of well-formed tables name types of the table.
use Rattle.std.proofs.Common.{◌≡◌, ℕ, zero, suc, true, ◌&&◌, Bor, List, [], ◌∷◌, length, map, Some, sym, ap, ◌∙◌}
use Rattle.std.specs.Prelude.{slice_get}
use Rattle.std.specs.List.{list_all}
use Rattle.std.specs.Option.{option_map}
use Rattle.std.proofs.lemmas.Bool.{and_parts}
use Rattle.std.proofs.lemmas.List.Folds.{list_all-map}
use Rattle.std.proofs.lemmas.Option.{slice_get-map}
use Rattle.wit_model.specs.IndexRange.{function_in_range, function_kind_in_range, item_in_range, key_in_range, listed_in_range, package_id_in_range, world_in_range}
use Rattle.wit_model.specs.TypeOrder.{payload_below, type_below}
use Rattle.wit_model.specs.WellFormed.{IsWellFormed}
use Rattle.wit_model.specs.declared.function.Function.{Function}
use Rattle.wit_model.specs.declared.resolve.Resolve.{Resolve}
use Rattle.wit_model.specs.declared.world.World.{World}
use Rattle.wit_model.specs.declared.world.WorldItem.TheVariants as entry
use Rattle.type_defs.specs.ListedTypes.{Entries}
use Rattle.gen_accept.specs.Emitted.{exported_functions, functions_in, imported_functions}
use Rattle.gen_accept.specs.InRange.{AreInRange}
use Rattle.gen_accept.specs.TooLarge.{AreSized}
use Rattle.abi_bindgen.proofs.TableSizes.{have_places}
use Rattle.gen_accept.proofs.WithinLemmas.{world-in}
use Rattle.wit_layout.specs.Filled.{IsFilledFor}
use Rattle.wit_layout.specs.declared.size_align.SizeAlign.{SizeAlign}

-- a world

sides-within : (r : Resolve) (world : World) → world_in_range r world ≡ true → (listed_in_range r world.imports ≡ true) × (listed_in_range r world.exports ≡ true)
unfolding world_in_range
sides-within r world h =
    let parts = and_parts (package_id_in_range r world.package && listed_in_range r world.imports) (listed_in_range r world.exports) h in
    ((and_parts (package_id_in_range r world.package) (listed_in_range r world.imports) parts.0).1, parts.1)

all-within : (r : Resolve) (entries : Entries) → listed_in_range r entries ≡ true → list_all (λ l. key_in_range r l.0 && item_in_range r l.1) entries ≡ true
unfolding listed_in_range
all-within r entries h = h

of-function : (r : Resolve) (f : Function) → item_in_range r (entry.Function f) ≡ true → function_in_range r f ≡ true
unfolding item_in_range
of-function r f h = h

functions-within : (r : Resolve) (entries : Entries) → list_all (λ l. key_in_range r l.0 && item_in_range r l.1) entries ≡ true → AreInRange r (functions_in entries)
functions-within r [] h nth f e = absurd (cc)
functions-within r ((k, entry.Interface i) ∷ entries) h nth f e = functions-within r entries (and_parts (key_in_range r k && item_in_range r (entry.Interface i)) _ h).1 nth f e
functions-within r ((k, entry.Named i) ∷ entries) h nth f e = functions-within r entries (and_parts (key_in_range r k && item_in_range r (entry.Named i)) _ h).1 nth f e
functions-within r ((k, entry.Function g) ∷ entries) h zero f e =
    let is : g ≡ f = cc in
    ap (function_in_range r) (sym is) ∙ of-function r g (and_parts (key_in_range r k) (item_in_range r (entry.Function g)) (and_parts (key_in_range r k && item_in_range r (entry.Function g)) _ h).0).1
functions-within r ((k, entry.Function g) ∷ entries) h (suc nth) f e = functions-within r entries (and_parts (key_in_range r k && item_in_range r (entry.Function g)) _ h).1 nth f e

module _ (r : Resolve) (k : ℕ) (world : World) (checked : IsWellFormed r) (found : slice_get r.worlds k ≡ Some world) where
  pub imports-within : AreInRange r (imported_functions world)
  imports-within = functions-within r world.imports (all-within r world.imports (sides-within r world (world-in r k world checked.unbroken found)).0)

  pub exports-within : AreInRange r (exported_functions world)
  exports-within = functions-within r world.exports (all-within r world.exports (sides-within r world (world-in r k world checked.unbroken found)).1)

-- a function

module _ (r : Resolve) (f : Function) (within : function_in_range r f ≡ true) where
  pub params-below : list_all (λ p. type_below (length r.types) p.ty) f.params ≡ true
  unfolding function_in_range
  params-below =
      (and_parts (function_kind_in_range r f.kind) (list_all (λ p. type_below (length r.types) p.ty) f.params)
      (and_parts (function_kind_in_range r f.kind && list_all (λ p. type_below (length r.types) p.ty) f.params) (payload_below (length r.types) f.result) within).0).1

  pub param-types-below : list_all (λ ty. type_below (length r.types) ty) (map (λ p. p.ty) f.params) ≡ true
  param-types-below = list_all-map (λ ty. type_below (length r.types) ty) (λ p. p.ty) f.params ∙ params-below

  pub result-below : payload_below (length r.types) f.result ≡ true
  unfolding function_in_range
  result-below = (and_parts (function_kind_in_range r f.kind && list_all (λ p. type_below (length r.types) p.ty) f.params) (payload_below (length r.types) f.result) within).1

-- functions that are lent

pub lent-at : (fs : List (Bor Function)) (nth : ℕ) (f : Bor Function) → slice_get fs nth ≡ Some f → slice_get (map (λ f. f.now) fs) nth ≡ Some f.now
lent-at fs nth f at = slice_get-map (λ f. f.now) fs nth ∙ ap (option_map (λ f. f.now)) at

pub in-range-at : (r : Resolve) (fs : List (Bor Function)) (nth : ℕ) (f : Bor Function) → AreInRange r (map (λ f. f.now) fs) → slice_get fs nth ≡ Some f → function_in_range r f.now ≡ true
in-range-at r fs nth f within at = within nth f.now (lent-at fs nth f at)

-- where the table has the types of functions, they have sizes
pub are-sized : (r : Resolve) (fs : List Function) (sizes : SizeAlign) → IsFilledFor sizes r.types → AreInRange r fs → AreSized sizes fs
are-sized r fs sizes filled within nth f at = have_places sizes r.types (map (λ p. p.ty) f.params) filled (param-types-below r f (within nth f at))
