-- The handles of some values, and the calls that drop them.
use Rattle.std.proofs.Common.{◌≡◌, ℕ, true, false, List, [], ◌∷◌, Some, None, map, refl, ap, pos, codes, arith}
use Rattle.wit_layout.specs.Tree.{Scalar}
use Rattle.wrapper_data.specs.declared.run.CallPoint.{CallPoint}
use Rattle.wrapper_data.specs.declared.run.Target.{Target}
use Rattle.wrapper_data.specs.declared.run.Target.TheVariants as target
use Rattle.wrapper_data.specs.declared.value.RustValue.TheVariants as value
use Rattle.wrapper_data.specs.declared.word.Word.{Word}
use Rattle.wrapper_data.specs.declared.word.Word.TheVariants as word
use Rattle.wrapper_meaning.specs.AsWords.{handle_word}
use Rattle.wrapper_meaning.specs.Direction.{take}
use Rattle.wrapper_meaning.specs.Gives.{ImportAnswers}
use Rattle.wrapper_meaning.specs.Handles.{ExportDrops, ImportDrops, handles, is_owned, main_calls, own_resources}
use Rattle.wrapper_meaning.specs.Items.{total}
use Rattle.wrapper_meaning.specs.Represents.{LendsArguments, TakesArguments}
use Rattle.wrapper_meaning.specs.Settled.{settled}
use Rattle.wrapper_meaning.specs.Shape.{Shape}
use Rattle.wrapper_meaning.specs.Shape.Shape.{handle, pairs, scalar}
use Rattle.wrapper_meaning.specs.Shape.Shapes.{none, more}
use Rattle.wrapper_meaning.specs.StandsFor.{ArgumentsStand, PartsStand}
use Rattle.wrapper_meaning.specs.Value.{Value}
use Rattle.wrapper_meaning.proofs.PostReturn.{total-append}

-- what drops a handle of a resource
drop_of : ℕ → Target
drop_of r = target.Core (codes "t:p/i") (codes "[resource-drop]r")

abbrev drops_handle : ℕ → CallPoint
drops_handle n = record { target = drop_of 0; words = word.I32 (pos n) ∷ []; values = []; heap = record { blocks = [] } }

-- 1. A borrowed handle 5 of resource 0, which is imported, is lent to an export, and dropped after the call

taken : TakesArguments 2 (more (handle false 0) none) (5, tt) (word.I32 (pos 5) ∷ []) []
taken = (word.I32 (pos 5) ∷ [], [], [], [], (refl, refl), (refl, refl), refl, refl)

stands : PartsStand 2 take (more (handle false 0) none) (5, tt) (value.Handle 5 false ∷ []) []
stands = (value.Handle 5 false, [], [], [], refl, (refl, refl), (refl, refl), refl)

abbrev call : CallPoint
call = record { target = target.Method (codes "Guest") (codes "f"); words = []; values = value.Handle 5 false ∷ []; heap = record { blocks = [] } }

drops : ExportDrops drop_of (λ r. true) (more (handle false 0) none) (5, tt) call (call ∷ drops_handle 5 ∷ [])
drops = record { earlier = []; later = drops_handle 5 ∷ []; order = refl; dropped = []; lost = λ weight. refl; each = λ weight. refl; lent = λ weight. refl }

-- without the call that drops it, calls are too few

total-map : {A B : Type 0} (f : A → B) (xs : List A) → total (λ y. 1) (map f xs) ≡ total (λ x. 1) xs
total-map f [] = refl
total-map f (x ∷ xs) = omega (total-map f xs, arith)

undropped : ExportDrops drop_of (λ r. true) (more (handle false 0) none) (5, tt) call (call ∷ []) → ⊥
undropped kept =
    omega (kept.lent (λ d. 1), total-map {B = Target × List Word} (λ c. (c.target, c.words)) kept.later, ap (total (λ c. 1)) kept.order, total-append (λ c. 1) kept.earlier (call ∷ kept.later), arith)

-- nor may an export drop a handle that its result passes on (`each`, `lent`)
drops_a_given_handle : ExportDrops drop_of (λ r. true) none tt call (call ∷ drops_handle 7 ∷ []) → ⊥
drops_a_given_handle wrong =
    omega (
      wrong.lost (λ h. 1),
      wrong.each (λ d. 1),
      total-map {B = Target × List Word} (λ c. (c.target, c.words)) wrong.earlier,
      total-map {B = Target × List Word} (λ h. (drop_of h.0, handle_word h.1 ∷ [])) wrong.dropped,
      wrong.lent (λ d. 1),
      total-map {B = Target × List Word} (λ c. (c.target, c.words)) wrong.later,
      ap (total (λ c. 1)) wrong.order,
      total-append (λ c. 1) wrong.earlier (call ∷ wrong.later),
      arith,
    )

-- the calls that drop handles of a function's resource are no main calls
of_the_call : main_calls drop_of (own_resources (more (handle false 0) none) None) (call ∷ drops_handle 5 ∷ []) ≡ call ∷ []
unfolding drop_of
of_the_call = refl

-- and those of a function without handles are
of_no_resource : main_calls drop_of (own_resources none None) (call ∷ drops_handle 5 ∷ []) ≡ call ∷ drops_handle 5 ∷ []
of_no_resource = refl

-- 2. An owned handle 7 is an import's argument: its number

passed : LendsArguments 2 [] [] (more (handle true 0) none) (7, tt) (word.I32 (pos 7) ∷ [])
passed = (word.I32 (pos 7) ∷ [], [], [], [], (refl, refl), (refl, refl), refl, refl)

passed_stands : ArgumentsStand 2 [] (more (handle true 0) none) (7, tt) (value.Handle 7 true ∷ []) []
passed_stands = (value.Handle 7 true, [], [], [], refl, (refl, refl), (refl, refl), refl)

-- 3. A map of an import's result lists a key twice, with owned handles 7 and 8: the former is dropped

abbrev by_number : Shape
by_number = pairs (scalar Scalar.u32) (handle true 0)

abbrev listed : Value by_number
listed = (pos 1, 7) ∷ (pos 1, 8) ∷ []

handed_on : handles is_owned by_number (settled by_number listed) ≡ (0, 8) ∷ []
handed_on = refl

abbrev import_call : CallPoint
import_call = record { target = target.Core (codes "t:p/i") (codes "f"); words = word.Pointer 64 ∷ []; values = []; heap = record { blocks = [] } }

drops_first : ImportDrops drop_of (Some by_number) listed import_call (import_call ∷ drops_handle 7 ∷ [])
drops_first = record { drops = drops_handle 7 ∷ []; order = refl; dropped = (0, 7) ∷ []; lost = λ weight. omega (arith); each = λ weight. refl }

-- without that call the handle is lost (`lost`)
undropped_entry : ImportDrops drop_of (Some by_number) listed import_call (import_call ∷ []) → ⊥
undropped_entry kept =
    omega (
      kept.lost (λ h. 1),
      kept.each (λ c. 1),
      total-map {B = Target × List Word} (λ c. (c.target, c.words)) kept.drops,
      total-map {B = Target × List Word} (λ h. (drop_of h.0, handle_word h.1 ∷ [])) kept.dropped,
      ap (total (λ c. 1)) kept.order,
      arith,
    )

-- and a handle that an argument passed on is not to be dropped (`lost`)
drops_a_passed_handle : ImportDrops drop_of None tt import_call (import_call ∷ drops_handle 7 ∷ []) → ⊥
drops_a_passed_handle wrong =
    omega (
      wrong.lost (λ h. 1),
      wrong.each (λ c. 1),
      total-map {B = Target × List Word} (λ c. (c.target, c.words)) wrong.drops,
      total-map {B = Target × List Word} (λ h. (drop_of h.0, handle_word h.1 ∷ [])) wrong.dropped,
      ap (total (λ c. 1)) wrong.order,
      arith,
    )

-- 4. A chained method gives its `self`

chained : ImportAnswers 2 true None tt (value.Handle 5 false ∷ []) (Some (value.Handle 5 false)) []
chained = (refl, refl)

unchained : ImportAnswers 2 true None tt (value.Handle 5 false ∷ []) None [] → ⊥
unchained answers = absurd cc
