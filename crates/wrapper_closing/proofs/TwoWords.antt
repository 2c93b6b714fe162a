-- A shape that is passed directly and may hold a text has two words, so that a result of it passes by the area.
use Rattle.std.proofs.Common.{◌≡◌, ◌≤◌, ℕ, ◌+◌, Bool, true, false, ◌||◌, List, [], ◌∷◌, length, Option, None, Some, refl, arith}
use Rattle.std.proofs.lemmas.Bool.{and_parts, lt-ltb}
use Rattle.std.proofs.lemmas.List.{length-append}
use Rattle.wit_model.specs.declared.wasm_type.WasmType.{WasmType}
use Rattle.wit_layout.specs.Flat.{flatten_record, flatten_type, joined, slots}
use Rattle.wrapper_meaning.specs.Kinds.{has_list, have_list, result_has_list}
use Rattle.wrapper_meaning.specs.Layout.{layout, layouts}
use Rattle.wrapper_meaning.specs.Represents.{is_indirect}
use Rattle.wrapper_meaning.specs.Shape.{Shape, Shapes}
use Rattle.wrapper_meaning.specs.Shape.Shape.{cases, fields, fixed, flags, handle, list, other, pairs, resource, scalar, text, tuple}
use Rattle.wrapper_meaning.specs.Shape.Shapes.{more, none}
use Rattle.wrapper_closing.specs.Direct.{are_direct, is_direct, is_direct_result}

in_either : (here later : Bool) (n k : ℕ) → (here || later) ≡ true → (here ≡ true → 2 ≤ n) → (later ≡ true → 2 ≤ k) → 2 ≤ n + k
in_either true later n k h some others = omega (arith, some refl)
in_either false later n k h some others = omega (arith, others h)

-- shared slots are at least as many as the words of each that shares them
most_joined : (cs ds : List WasmType) → (length cs ≤ length (joined cs ds)) × (length ds ≤ length (joined cs ds))
most_joined [] ds = (omega arith, omega arith)
most_joined (c ∷ cs) [] = (omega arith, omega arith)
most_joined (c ∷ cs) (d ∷ ds) = let later = most_joined cs ds in (omega (arith, later.0), omega (arith, later.1))

in_most : (here later : Bool) (n k most : ℕ) → (here || later) ≡ true → (here ≡ true → 2 ≤ n) → (later ≡ true → 2 ≤ k) → n ≤ most → k ≤ most → 2 ≤ most
in_most true later n k most h some others le ge = omega (arith, some refl, le)
in_most false later n k most h some others le ge = omega (arith, others h, ge)

mutual
  two_words : (t : Shape) → is_direct t ≡ true → has_list t ≡ true → 2 ≤ length (flatten_type (layout t))
  two_words (scalar s) d h = absurd cc
  two_words text d h = omega arith
  two_words (fields ts) d h = two_in ts d h
  two_words (tuple ts) d h = two_in ts d h
  two_words (list t) d h = absurd cc
  two_words (pairs k x) d h = absurd cc
  two_words (fixed t n) d h = absurd cc
  two_words (cases ts) d h = omega (arith, two_shared ts d h)
  two_words (flags n) d h = absurd cc
  two_words (handle own r) d h = absurd cc
  two_words (resource r) d h = absurd cc
  two_words other d h = absurd cc

  two_in : (ts : Shapes) → are_direct ts ≡ true → have_list ts ≡ true → 2 ≤ length (flatten_record (layouts ts))
  two_in none d h = absurd cc
  two_in (more t ts) d h =
      let both = and_parts (is_direct t) (are_direct ts) d in
      omega (arith, in_either (has_list t) (have_list ts) (length (flatten_type (layout t))) (length (flatten_record (layouts ts))) h (two_words t both.0) (two_in ts both.1), length-append (flatten_type (layout t)) (flatten_record (layouts ts)))

  two_shared : (ts : Shapes) → are_direct ts ≡ true → have_list ts ≡ true → 2 ≤ length (slots (layouts ts))
  two_shared none d h = absurd cc
  two_shared (more t ts) d h =
      let both = and_parts (is_direct t) (are_direct ts) d in
      let most = most_joined (flatten_type (layout t)) (slots (layouts ts)) in
      in_most (has_list t) (have_list ts) (length (flatten_type (layout t))) (length (slots (layouts ts))) _ h (two_words t both.0) (two_shared ts both.1) most.0 most.1

pub by_area : (r : Option Shape) → is_direct_result r ≡ true → result_has_list r ≡ true → is_indirect r ≡ true
by_area None d h = absurd cc
by_area (Some t) d h = lt-ltb 1 (length (flatten_type (layout t))) (omega (arith, two_words t d h))
