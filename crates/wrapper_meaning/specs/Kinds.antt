-- What may lie in the values of a shape: numbers alone, as they lie in memory; handles; texts, lists and maps.
use Rattle.std.specs.Prelude.{Bool, true, false, ◌&&◌, ◌||◌, Option, None, Some}
use Rattle.wit_layout.specs.Tree.{Scalar}
use Rattle.wrapper_meaning.specs.Shape.{Shape, Shapes}
use Rattle.wrapper_meaning.specs.Shape.Shape.{scalar, text, list, pairs, fixed, fields, tuple, cases, handle}
use Rattle.wrapper_meaning.specs.Shape.Shapes.{none, more}

-- a whole number or a float
abbrev pub is_number : Scalar → Bool
is_number Scalar.bool = false
is_number Scalar.char = false
is_number Scalar.handle = false
is_number _ = true

-- plain: a number, or a record or a fixed-length list of such. A list of these lies in memory as it is
abbrev mutual
  pub is_plain : Shape → Bool
  is_plain (scalar s) = is_number s
  is_plain (fixed t n) = is_plain t
  is_plain (fields ts) = are_plain ts
  is_plain _ = false

  pub are_plain : Shapes → Bool
  are_plain none = true
  are_plain (more t ts) = is_plain t && are_plain ts

-- a value of it may have a handle that counts, by whether it owns
abbrev mutual
  pub has_handle : (Bool → Bool) → Shape → Bool
  has_handle counts (list t) = has_handle counts t
  has_handle counts (pairs k x) = has_handle counts k || has_handle counts x
  has_handle counts (fixed t n) = has_handle counts t
  has_handle counts (fields ts) = have_handle counts ts
  has_handle counts (tuple ts) = have_handle counts ts
  has_handle counts (cases ts) = have_handle counts ts
  has_handle counts (handle owns number) = counts owns
  has_handle counts _ = false

  pub have_handle : (Bool → Bool) → Shapes → Bool
  have_handle counts none = false
  have_handle counts (more t ts) = has_handle counts t || have_handle counts ts

-- it may have one that owns
abbrev pub has_own_handle : Shape → Bool
has_own_handle t = has_handle (λ owns. owns) t

-- a value of it may have a text, a list or a map
abbrev mutual
  pub has_list : Shape → Bool
  has_list text = true
  has_list (list t) = true
  has_list (pairs k x) = true
  has_list (fixed t n) = has_list t
  has_list (fields ts) = have_list ts
  has_list (tuple ts) = have_list ts
  has_list (cases ts) = have_list ts
  has_list _ = false

  pub have_list : Shapes → Bool
  have_list none = false
  have_list (more t ts) = has_list t || have_list ts

abbrev pub result_has_list : Option Shape → Bool
result_has_list None = false
result_has_list (Some t) = has_list t
