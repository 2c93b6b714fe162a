-- The instructions of scalars and of words in memory make no call, do not end the code, and use up no block.
use Rattle.std.proofs.Common.{◌≡◌, false, List, [], Option, None, Some, refl, sym, subst, if◌then◌else◌}
use Rattle.wit_model.specs.declared.types.TypeDef.{TypeDef}
use Rattle.wit_layout.specs.Tree.{Scalar}
use Rattle.abi_bindgen.specs.declared.instruction.Instruction.{Instruction}
use Rattle.abi_bindgen.specs.declared.instruction.Instruction.TheVariants.{CallInterface, CallWasm, FixedLengthListLiftFromMemory, FixedLengthListLowerToMemory, GuestDeallocateFixed, GuestDeallocateList, GuestDeallocateMap, GuestDeallocateVariant, ListLift, ListLower, MapLift, MapLower, OptionLift, OptionLower, ResultLift, ResultLower, Return, VariantLift, VariantLower}
use Rattle.abi_bindgen.specs.Calls.{is_call, is_return, returned_by}
use Rattle.abi_bindgen.specs.Instructions.{AddsCode, block_results, lifted_scalar, lowered_scalar}
use Rattle.abi_bindgen.specs.Laws.{Adds}
use Rattle.abi_bindgen.specs.Meaning.{Meaning}
use Rattle.abi_bindgen.specs.Touches.{Touch, touch}

pub record IsOrdinary (i : Instruction) : Type 0 where
  pub quiet : is_call i ≡ false
  pub goes_on : is_return i ≡ false
  pub whole : (types : List TypeDef) → block_results types i ≡ []

-- an instruction of a scalar or of a word in memory is none of those that are told by their names alone
ordinary : (i : Instruction) → (lowered_scalar i ≡ None → lifted_scalar i ≡ None → touch i ≡ None → ⊥) → IsOrdinary i
ordinary (CallWasm f) none_of = absurd (none_of refl refl refl)
ordinary (CallInterface f) none_of = absurd (none_of refl refl refl)
ordinary (Return n) none_of = absurd (none_of refl refl refl)
ordinary (VariantLower id n) none_of = absurd (none_of refl refl refl)
ordinary (OptionLower id n) none_of = absurd (none_of refl refl refl)
ordinary (ResultLower id n) none_of = absurd (none_of refl refl refl)
ordinary (VariantLift id) none_of = absurd (none_of refl refl refl)
ordinary (OptionLift id) none_of = absurd (none_of refl refl refl)
ordinary (ResultLift id) none_of = absurd (none_of refl refl refl)
ordinary (ListLower ty realloc) none_of = absurd (none_of refl refl refl)
ordinary (ListLift ty) none_of = absurd (none_of refl refl refl)
ordinary (MapLower key val realloc) none_of = absurd (none_of refl refl refl)
ordinary (MapLift key val) none_of = absurd (none_of refl refl refl)
ordinary (FixedLengthListLowerToMemory ty n) none_of = absurd (none_of refl refl refl)
ordinary (FixedLengthListLiftFromMemory ty n) none_of = absurd (none_of refl refl refl)
ordinary (GuestDeallocateVariant n) none_of = absurd (none_of refl refl refl)
ordinary (GuestDeallocateList ty) none_of = absurd (none_of refl refl refl)
ordinary (GuestDeallocateMap key val) none_of = absurd (none_of refl refl refl)
ordinary (GuestDeallocateFixed ty n) none_of = absurd (none_of refl refl refl)
ordinary _ none_of = record { quiet = refl; goes_on = refl; whole = λ types. refl }

none_some : {A : Type 0} (o : Option A) (x : A) → o ≡ Some x → o ≡ None → ⊥
none_some None x e h = absurd (let g = e in cc)
none_some (Some y) x e h = absurd (let g = h in cc)

pub lowers_ordinary : (i : Instruction) (s : Scalar) → lowered_scalar i ≡ Some s → IsOrdinary i
lowers_ordinary i s e = ordinary i (λ one two three. none_some _ s e one)

pub lifts_ordinary : (i : Instruction) (s : Scalar) → lifted_scalar i ≡ Some s → IsOrdinary i
lifts_ordinary i s e = ordinary i (λ one two three. none_some _ s e two)

pub touches_ordinary : (i : Instruction) (t : Touch) → touch i ≡ Some t → IsOrdinary i
touches_ordinary i t e = ordinary i (λ one two three. none_some _ t e three)

module _ {Self Operand : Type 0} (m : Meaning Self Operand) (i : Instruction) (is : IsOrdinary i) where
  pub code_of : (types : List TypeDef) (a b : Self) → Adds m a b → AddsCode m (is_call i) (block_results types i) a b
  code_of types a b h = subst (λ c. AddsCode m c (block_results types i) a b) (sym is.quiet) (subst (λ used. AddsCode m false used a b) (sym (is.whole types)) h)

  pub adds_of : (types : List TypeDef) (a b : Self) → AddsCode m (is_call i) (block_results types i) a b → Adds m a b
  adds_of types a b h = subst (λ used. AddsCode m false used a b) (is.whole types) (subst (λ c. AddsCode m c (block_results types i) a b) is.quiet h)

  pub still_returned : (os : List Operand) (before after : Option (List Operand)) → after ≡ before → after ≡ returned_by i os before
  still_returned os before after e = subst (λ c. after ≡ (if c then Some os else before)) (sym is.goes_on) e
