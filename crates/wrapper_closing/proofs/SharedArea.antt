-- The static area that exported functions share: it has bytes, and room for the record of each of their results.
use Rattle.std.proofs.Common.{◌≡◌, ◌≤◌, ℕ, zero, suc, ◌%◌, true, List, [], ◌∷◌, ◌++◌, Option, None, Some, Contains, refl, sym, ap, ◌∙◌, subst, arith}
use Rattle.std.specs.Prelude.{IfSome, option_to_list}
use Rattle.std.specs.List.{AllByRecursion, flat_map}
use Rattle.rust_tree.specs.Tree.{Tree}
use Rattle.wit_layout.specs.Sizes.{alignment, elem_size}
use Rattle.wrapper_data.specs.declared.choice.Request.{Request}
use Rattle.wrapper_meaning.specs.Areas.{area_for, result_record}
use Rattle.wrapper_meaning.specs.Layout.{layout}
use Rattle.wrapper_meaning.specs.Shape.{Shape}
use Rattle.wrapper_run.specs.Places.{area_in}
use Rattle.abi_bindgen.specs.declared.bindgen.Asked.{Asked}
use Rattle.abi_bindgen.specs.Area.{AreFor, HoldsRecord}
use Rattle.abi_bindgen.proofs.AllLemmas.{all_left, all_right}
use Rattle.func_gen.specs.Meaning.{IsArea, static_request}
use Rattle.wrapper_closing.specs.ClosedExport.{SharesArea}
use Rattle.wrapper_closing.specs.Direct.{is_direct_result}
use Rattle.wrapper_closing.proofs.ClosedArea.{HaveBytes, area_due, area_holds, both_have, results_have, sized_for}

-- 1. Records by their shapes

-- a record of the shape has room
record HasRoom (area : Option Request) (t : Shape) : Type 0 where
  request : Request
  is : area ≡ Some request
  size : elem_size 2 (layout t) ≤ request.size
  aligned : (q : ℕ) → q % request.align ≡ 0 → q % alignment 2 (layout t) ≡ 0

one_room : (t : Shape) (area : Option Request) (a : Asked) (ts : List Shape) (asked : List Asked) → AreFor (t ∷ ts) (a ∷ asked) → HoldsRecord 2 area a → HasRoom area t
one_room t None a ts asked h k = absurd k
one_room t (Some request) a ts asked h k =
    record { request = request; is = refl; size = omega (arith, h.0.0, k.size); aligned = λ q e. ap (λ n. q % n) (sym h.1.0) ∙ k.aligned q e }

rooms : (ts : List Shape) (asked : List Asked) (area : Option Request) → AreFor ts asked → AllByRecursion (HoldsRecord 2 area) asked → AllByRecursion (HasRoom area) ts
rooms [] asked area h k = tt
rooms (t ∷ ts) [] area h k = absurd h
rooms (t ∷ ts) (a ∷ asked) area h k = (one_room t area a ts asked h k.0, rooms ts asked area h.2 k.1)

one_holds : (t : Shape) (area : Option Request) (a : Asked) (ts : List Shape) (asked : List Asked) → AreFor (t ∷ ts) (a ∷ asked) → HasRoom area t → HoldsRecord 2 area a
one_holds t area a ts asked h k =
    subst (λ r. HoldsRecord 2 r a) (sym k.is) (record { size = omega (arith, h.0.0, k.size); aligned = λ q e. ap (λ n. q % n) h.1.0 ∙ k.aligned q e })

hold : (ts : List Shape) (asked : List Asked) (area : Option Request) → AreFor ts asked → AllByRecursion (HasRoom area) ts → AllByRecursion (HoldsRecord 2 area) asked
hold [] [] area h k = tt
hold [] (a ∷ asked) area h k = absurd h
hold (t ∷ ts) [] area h k = absurd h
hold (t ∷ ts) (a ∷ asked) area h k = (one_holds t area a ts asked h k.0, hold ts asked area h.2 k.1)

-- 2. The results of the functions

one_of : (P : Shape → Type 0) (results : List (Option Shape)) (r : Option Shape) → AllByRecursion P (flat_map result_record results) → Contains results r → AllByRecursion P (result_record r)
one_of P [] r h (k, below, at) = absurd (omega (below, arith))
one_of P (x ∷ results) r h (zero, below, at) = subst (λ y. AllByRecursion P (result_record y)) at (all_left P (result_record x) (flat_map result_record results) h)
one_of P (x ∷ results) r h (suc k, below, at) = one_of P results r (all_right P (result_record x) (flat_map result_record results) h) (k, omega (below, arith), at)

all_have : (results : List (Option Shape)) → AllByRecursion (λ r. is_direct_result r ≡ true) results → HaveBytes (flat_map result_record results)
all_have [] d = tt
all_have (r ∷ results) d = both_have (result_record r) (flat_map result_record results) (results_have r d.0) (all_have results d.1)

module _ (results : List (Option Shape)) (r : Option Shape) (tree : Tree) (s : SharesArea results r tree) where
  pub shared_sized : IfSome (static_request (area_in tree.items)) IsArea
  shared_sized = subst (λ a. IfSome a IsArea) (sym s.area) (sized_for (flat_map result_record results) s.asked (all_have results s.direct) s.for)

  -- whatever is asked for the result holds in it
  pub shared_room : (asked : List Asked) → AreFor (result_record r) asked → AllByRecursion (HoldsRecord 2 (static_request (area_in tree.items))) asked
  shared_room asked h =
      hold (result_record r) asked (static_request (area_in tree.items)) h
      (one_of (HasRoom (static_request (area_in tree.items))) results r
      (rooms (flat_map result_record results) s.asked (static_request (area_in tree.items)) s.for (subst (λ a. AllByRecursion (HoldsRecord 2 a) s.asked) (sym s.area) (area_holds (flat_map result_record results) s.asked s.for))) s.shares)

  -- it is asked for as the functions are due it
  pub shared_due : option_to_list (static_request (area_in tree.items)) ≡ area_for 2 (flat_map result_record results)
  shared_due = ap option_to_list s.area ∙ area_due (flat_map result_record results) s.asked s.for
