-- A list of entries of 1,073,741,832 bytes, as an argument of an import: one entry is asked for, and two are too many.
use Rattle.std.proofs.Common.{length-append, ◌≡◌, List, [], ◌∷◌, Some, None, length, slice_get, refl, sym, ap, arith, ◌∙◌}
use mathlib.Core.Logic.{inl, inr}
use Rattle.wit_layout.specs.Tree.{Scalar}
use Rattle.wrapper_data.specs.declared.choice.Choice.{Choice}
use Rattle.wrapper_data.specs.declared.choice.Choice.TheVariants as choice
use Rattle.wrapper_meaning.specs.Due.{Bill, due, import_bill}
use Rattle.wrapper_meaning.specs.Ends.{IsRefusable}
use Rattle.wrapper_meaning.specs.Shape.{Shapes}
use Rattle.wrapper_meaning.specs.Shape.Shape.{scalar, list, fixed, fields, cases}
use Rattle.wrapper_meaning.specs.Shape.Shapes.{none, more}
use Rattle.wrapper_meaning.proofs.Instances.Forms.{chosen}

-- options of a fixed-length list of 134,217,728 numbers of eight bytes
abbrev large : Shapes
large = more (list (cases (more (fields none) (more (fixed (scalar Scalar.u64) 134217728) none)))) none

abbrev one : Bill
one = import_bill 2 large (inl tt ∷ [], tt) None tt

abbrev two : Bill
two = import_bill 2 large (inl tt ∷ inl tt ∷ [], tt) None tt

one_due : due one ≡ record { size = 1073741832; align = 8 } ∷ []
one_due = refl

two_due : due two ≡ record { size = 2147483664; align = 8 } ∷ []
two_due = refl

-- whatever the choices are, and also where none is left
two_are_refused : (choices : List Choice) → IsRefusable two choices [] (record { size = 2147483664; align = 8 })
two_are_refused choices = inr ((0, omega (arith), refl), omega (arith))

-- one is refused where the choice is a refusal
one_is_refused : IsRefusable one (choice.Refuse ∷ []) (record { size = 1073741832; align = 8 } ∷ []) (record { size = 1073741832; align = 8 })
one_is_refused = inl (record { meets = record { earlier = []; last = refl; takes = refl }; due = (0, omega (arith), refl); no_area = refl })

-- and not where it is an address
one_is_granted : IsRefusable one (choice.At 8 ∷ []) (record { size = 1073741832; align = 8 } ∷ []) (record { size = 1073741832; align = 8 }) → ⊥
one_is_granted (inl met) =
    let none_before : length met.meets.earlier ≡ 0 = omega (ap length met.meets.last, length-append met.meets.earlier (record { size = 1073741832; align = 8 } ∷ []), arith) in
    let refused : Some (choice.At 8) ≡ Some choice.Refuse = ap (slice_get (choice.At 8 ∷ [])) (sym none_before) ∙ met.meets.takes in
    omega (ap chosen refused, arith)
one_is_granted (inr large) = omega (large.1, arith)
