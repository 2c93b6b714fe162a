-- What serves a bindgen can be made to have room for one more record, in a file whose first item is the area.
use Rattle.std.proofs.Common.{◌≡◌, ℕ, suc, ◌+◌, ◌*◌, ◌/◌, ◌%◌, ◌<◌, List, [], ◌∷◌, ◌++◌, Option, None, Some, refl, sym, ap, ◌∙◌, subst, arith}
use Rattle.std.specs.Prelude.{IfSome}
use Rattle.std.specs.List.{AllByRecursion}
use Rattle.std.proofs.Math.Nat.{mod-add-div', mul-mod_left, mul-pos}
use Rattle.std.proofs.lemmas.Nat.{pow_pos}
use Rattle.wit_model.specs.Size.{alignment_at, bytes_at}
use Rattle.wit_model.specs.declared.size.Alignment.{Alignment}
use Rattle.wit_model.specs.declared.size.Alignment.TheVariants.{Bytes, Pointer}
use Rattle.rust_tree.specs.declared.area.StaticArea.{StaticArea}
use Rattle.rust_tree.specs.declared.item.Item.{Item}
use Rattle.rust_tree.specs.declared.item.Item.TheVariants as item
use Rattle.rust_tree.specs.declared.runtime_item.RuntimeItem.{RuntimeItem}
use Rattle.wrapper_data.specs.declared.choice.Request.{Request}
use Rattle.wrapper_run.specs.Places.{area_in}
use Rattle.abi_bindgen.specs.declared.bindgen.Asked.{Asked}
use Rattle.abi_bindgen.specs.Area.{HasRoomFor, HoldsRecord, IsAlignment}
use Rattle.abi_bindgen.proofs.AllLemmas.{all_both}
use Rattle.func_gen.specs.declared.function_bindgen.FunctionBindgen.{FunctionBindgen}
use Rattle.func_gen.specs.Area.{asking}
use Rattle.func_gen.specs.Meaning.{File, Found, IsArea, Serves, static_request}
use Rattle.func_gen.proofs.FieldOrder.{still_defined}
use Rattle.func_gen.proofs.RuntimeItems.{gives_as_called, suspended_from}

-- 1. The area

-- what is aligned for a product is aligned for each factor
factor_left : (x y q : ℕ) → q % (x * y) ≡ 0 → q % x ≡ 0
factor_left x y q h =
    let c = q / (x * y) in
    let is : q ≡ (c * y) * x = omega (arith, mod-add-div' q (x * y), h) in
    ap (λ n. n % x) is ∙ mul-mod_left (c * y) x

factor_right : (x y q : ℕ) → q % (x * y) ≡ 0 → q % y ≡ 0
factor_right x y q h =
    let c = q / (x * y) in
    let is : q ≡ (c * x) * y = omega (arith, mod-add-div' q (x * y), h) in
    ap (λ n. n % y) is ∙ mul-mod_left (c * x) y

abbrev before : Option Request → Request
before None = record { size = 0; align = 1 }
before (Some area) = area

-- an area with room for all that the one before had room for, and for this record; it has bytes too
abbrev roomy : Option Request → Asked → Request
roomy area a = record { size = suc ((before area).size + bytes_at a.size 4); align = (before area).align * alignment_at a.align 4 }

one_roomy : (area : Option Request) (a b : Asked) → HoldsRecord 2 area b → HasRoomFor 2 (roomy area a) b
one_roomy None a b h = absurd h
one_roomy (Some area) a b h = record {
  size = let l = h.size in omega (arith, l);
  aligned = λ q e. h.aligned q (factor_left area.align (alignment_at a.align 4) q e);
}

all_kept : (area : Option Request) (a : Asked) (asked : List Asked) → AllByRecursion (HoldsRecord 2 area) asked → AllByRecursion (HoldsRecord 2 (Some (roomy area a))) asked
all_kept area a [] h = tt
all_kept area a (b ∷ asked) h = (one_roomy area a b h.0, all_kept area a asked h.1)

itself : (area : Option Request) (a : Asked) → HasRoomFor 2 (roomy area a) a
itself area a = record {
  size = omega arith;
  aligned = λ q e. factor_right (before area).align (alignment_at a.align 4) q e;
}

all_roomy : (area : Option Request) (a : Asked) (asked : List Asked) → AllByRecursion (HoldsRecord 2 area) asked → AllByRecursion (HoldsRecord 2 (Some (roomy area a))) (asked ++ a ∷ [])
all_roomy area a asked h = all_both (HoldsRecord 2 (Some (roomy area a))) asked (a ∷ []) (all_kept area a asked h) (itself area a, tt)

is_aligned : (align : Alignment) → IsAlignment align → 0 < alignment_at align 4
is_aligned (Bytes n) h = subst (λ k. 0 < k) (sym h.1) (pow_pos h.0)
is_aligned Pointer h = omega arith

was_aligned : (area : Option Request) → IfSome area IsArea → 0 < (before area).align
was_aligned None h = omega arith
was_aligned (Some area) h = h.1

is_area : (area : Option Request) (a : Asked) → IfSome area IsArea → IsAlignment a.align → IsArea (roomy area a)
is_area area a h aligned = (omega arith, mul-pos (was_aligned area h) (is_aligned a.align aligned))

-- 2. The file

abbrev static_area : Request → StaticArea
static_area r = record { size = record { bytes = r.size; pointers = 0 }; align = Bytes r.align }

abbrev with_static : Request → List Item → List Item
with_static r items = item.Area (static_area r) ∷ items

found_still : (r : Request) (items : List Item) (parts : List RuntimeItem) → Found items parts → Found (with_static r items) parts
found_still r items [] h = tt
found_still r items (i ∷ parts) h = (h.0, found_still r items parts h.1)

static_is : (r : Request) (items : List Item) → static_request (area_in (with_static r items)) ≡ Some r
static_is r items = ap (λ n. Some (record r { size = n })) (let e : r.size + 0 * 4 ≡ r.size = omega arith in e)

pub more_room : (a : Asked) (b : FunctionBindgen) → IsAlignment a.align → (w : File) → Serves w b → (x : File) × Serves x (asking a b)
more_room a b aligned w h =
    let r = roomy w.area a in (
      record { items = with_static r w.items; item = w.item; bound = w.bound; area = Some r },
      record {
        runtime = found_still r w.items b.runtime h.runtime;
        sites = still_defined w.items (with_static r w.items) (λ name. refl) b.sites h.sites;
        room = all_roomy w.area a b.asked h.room;
        sized = is_area w.area a h.sized aligned;
        static = λ e. sym (static_is r w.items);
        bound = h.bound;
        called = gives_as_called w.items (with_static r w.items) w.bound b.code.call (λ name. refl) h.called;
        suspended = suspended_from w.items (with_static r w.items) w.bound (λ call. gives_as_called w.items (with_static r w.items) w.bound call (λ name. refl)) b.opened h.suspended;
      },
    )
