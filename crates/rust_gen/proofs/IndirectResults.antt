-- The result of a function that needs a post-return function passes by an area.
use Rattle.std.proofs.Common.{◌≡◌, true, Option, None, Some, refl}
use Rattle.std.proofs.lemmas.Bool.{and_from}
use Rattle.wrapper_meaning.specs.Kinds.{result_has_list}
use Rattle.wrapper_meaning.specs.Represents.{is_indirect}
use Rattle.wrapper_meaning.specs.Shape.{Shape, Shapes}
use Rattle.wrapper_meaning.specs.Shape.Shape.{cases, fields, flags, scalar, text, tuple}
use Rattle.wrapper_meaning.specs.Shape.Shapes.{more, none}
use Rattle.abi_bindgen.specs.Served.{Serves, ServesAll, ServesResult}
use Rattle.wrapper_closing.specs.Direct.{are_direct, is_direct, is_direct_result}
use Rattle.wrapper_closing.proofs.TwoWords.{by_area}

mutual
  serves_direct : (t : Shape) → Serves t → is_direct t ≡ true
  serves_direct (scalar s) h = refl
  serves_direct text h = refl
  serves_direct (fields ts) h = all_direct ts h
  serves_direct (tuple ts) h = all_direct ts h
  serves_direct (cases ts) h = all_direct ts h.1
  serves_direct (flags n) h = refl
  serves_direct _ h = absurd h

  all_direct : (ts : Shapes) → ServesAll ts → are_direct ts ≡ true
  all_direct none h = refl
  all_direct (more t ts) h = and_from (is_direct t) (are_direct ts) (serves_direct t h.0) (all_direct ts h.1)

result_direct : (r : Option Shape) → ServesResult r → is_direct_result r ≡ true
result_direct None h = refl
result_direct (Some t) h = serves_direct t h

pub freed_by_area : (r : Option Shape) → ServesResult r → result_has_list r ≡ true → is_indirect r ≡ true
freed_by_area r serves listed = by_area r (result_direct r serves) listed
