-- What is sent for the arguments and the result of a call, by how they pass.
use Rattle.std.proofs.Common.{◌≡◌, ℕ, suc, ◌+◌, ◌≤◌, Bool, true, false, if◌then◌else◌, MatchBool, List, [], ◌∷◌, ◌++◌, append_assoc, length, drop, Option, None, Some, refl, sym, ap, ◌∙◌, arith, subst}
use Rattle.std.proofs.lemmas.Bool.{ltb-false}
use Rattle.std.specs.Prelude.{option_to_list}
use Rattle.std.specs.Option.{option_map}
use Rattle.wit_model.specs.declared.types.TypeDef.{TypeDef}
use Rattle.wit_model.specs.declared.types.WitType.{WitType}
use Rattle.wit_model.specs.declared.wasm_type.WasmType.TheVariants as wasm
use Rattle.wit_layout.specs.declared.signature.AbiVariant.TheVariants.{GuestExport}
use Rattle.wit_layout.specs.Flat.{flatten_type}
use Rattle.wit_layout.specs.Signature.{core_results}
use Rattle.wit_layout.specs.Tree.{tree_of}
use Rattle.wrapper_meaning.specs.Represents.{is_indirect, result_words}
use Rattle.wrapper_meaning.specs.Shape.{Shape, shape_of}
use Rattle.abi_bindgen.specs.declared.instruction.Instruction.TheVariants.{GetArg}
use Rattle.abi_bindgen.specs.Code.{ask_for, get_arguments, give_code, lift_arguments, lift_code, load_code, lower_code, point_code, read_code, store_answer_code}
use Rattle.abi_driver.specs.Exports.{GivesAnswer, StoresAnswer}
use Rattle.abi_bindgen.specs.Frees.{nowhere}
use Rattle.abi_driver.specs.Imports.{LoadsAnswer, ReadsAnswer}
use Rattle.abi_bindgen.specs.Instructions.{Emits}
use Rattle.abi_bindgen.specs.Lifts.{LiftsAnswer}
use Rattle.abi_bindgen.specs.Lowers.{LowersAnswer}
use Rattle.abi_bindgen.specs.Meaning.{Meaning}
use Rattle.abi_bindgen.specs.Flow.{emit, leave_none, leading, behind, both, ◌>>>◌}
use Rattle.abi_bindgen.specs.Flows.{Flows}
use Rattle.abi_bindgen.proofs.FlowSteps.{flows_as, flows_both, flows_one_more, flows_then}

-- 1. Words of arguments

-- only how many there are tells
gets_same : {A B : Type 0} (start : ℕ) (xs : List A) (ys : List B) → length xs ≡ length ys → get_arguments start xs ≡ get_arguments start ys
gets_same start [] [] e = refl
gets_same start [] (y ∷ ys) e = absurd (omega (arith, e))
gets_same start (x ∷ xs) [] e = absurd (omega (arith, e))
gets_same start (x ∷ xs) (y ∷ ys) e = ap (λ code. both (leading 0 >>> emit (GetArg start)) (both (leading 0) (behind 0) >>> code)) (gets_same (suc start) xs ys (omega (arith, e)))

module _ {Self Operand : Type 0} (m : Meaning Self Operand) (types : List TypeDef) where
  pub gets_next : (start n : ℕ) (os now : List Operand) (a b c : Self) (o : Operand) → length os ≡ n → now ≡ os ++ o ∷ [] → Flows m types (get_arguments start os) [] os a b → Emits m types (GetArg (start + n)) [] (o ∷ []) b c → Flows m types (get_arguments start now) [] now a c
  gets_next start n os now a b c o many is h e =
      let here = subst (λ k. Emits m types (GetArg (start + k)) [] (o ∷ []) b c) (sym many) e in
      subst (λ xs. Flows m types (get_arguments start xs) [] xs a c) (sym is) (flows_one_more m types (λ k word. emit (GetArg k)) start os o [] os (o ∷ []) a b c h here)

  -- what flows for the arguments from one on, flows for all, behind values that were lifted
  abbrev pub Rest : List WitType → (i start : ℕ) → (values : List Operand) → (a b : Self) → Type 0
  Rest tys i start values a b = (new : Self) (gives : List Operand) → Flows m types (lift_arguments types start (drop i tys)) [] gives b new → Flows m types (lift_arguments types 0 tys) [] (values ++ gives) a new

  pub rest_next : (tys : List WitType) (i start n : ℕ) (words values now : List Operand) (x : Operand) (a b c d : Self) (ty : WitType) → drop i tys ≡ ty ∷ drop (i + 1) tys → length (flatten_type (tree_of types ty)) ≡ n → length words ≡ n
      → now ≡ values ++ x ∷ [] → Flows m types (get_arguments start words) [] words b c → Flows m types (lift_code types ty) words (x ∷ []) c d → Rest tys i start values a b → Rest tys (i + 1) (start + n) now a d
  rest_next tys i start n words values now x a b c d ty et flat many is reads lifts rest new gives later =
      let all = flatten_type (tree_of types ty) in
      let left = drop (i + 1) tys in
      let got = flows_as m types (get_arguments start words) (get_arguments start all) [] words b c (gets_same start all words (flat ∙ sym many)) reads in
      let one = flows_then m types (get_arguments start all) (lift_code types ty) [] words (x ∷ []) b c d got lifts in
      let others = subst (λ k. Flows m types (lift_arguments types (start + k) left) [] gives d new) (sym flat) later in
      let here = flows_both m types (get_arguments start all >>> lift_code types ty) (lift_arguments types (start + length all) left) [] (x ∷ []) gives b d new one others in
      let whole = rest new (x ∷ gives) (flows_as m types (lift_arguments types start (ty ∷ left)) (lift_arguments types start (drop i tys)) [] (x ∷ gives) b new (ap (lift_arguments types start) et) here) in
      subst (λ os. Flows m types (lift_arguments types 0 tys) [] os a new) (sym (append_assoc values (x ∷ []) gives) ∙ ap (λ os. os ++ gives) (sym is)) whole

  -- 2. How many operands are given

  pub given_count : (r : Option Shape) (pointer back given : List Operand) (old new : Self) → ReadsAnswer m r pointer back given old new → length given ≡ length (option_to_list r)
  given_count None pointer back given old new h = ap length h.0
  given_count (Some t) pointer back given old new h = by (is_indirect (Some t)) h
    where
      by : (c : Bool) → MatchBool c (LoadsAnswer m t pointer given old new) (LiftsAnswer m (Some t) back given old new) → length given ≡ 1
      by true h = ap length h.3
      by false h = ap length h.1

  pub given_words : (r : Option Shape) (answer given : List Operand) (old new : Self) → GivesAnswer m r answer given old new → length given ≡ length (core_results GuestExport (result_words r))
  given_words None answer given old new h = ap length h.0
  given_words (Some t) answer given old new h = by (is_indirect (Some t)) h
    where
      by : (c : Bool) → MatchBool c (StoresAnswer m t answer given old new) (LowersAnswer m (Some t) answer given old new) → length given ≡ length (if c then wasm.Pointer ∷ [] else result_words (Some t))
      by true h = ap length h.gives
      by false h = h.2.fits

-- each is one at most

pub few_given : {A : Type 0} (r : Option A) → length (option_to_list r) ≤ 1
few_given None = omega arith
few_given (Some t) = omega arith

pub few_words : (r : Option Shape) → length (core_results GuestExport (result_words r)) ≤ 1
few_words r = by (is_indirect r) refl
  where
    by : (c : Bool) → is_indirect r ≡ c → length (if c then wasm.Pointer ∷ [] else result_words r) ≤ 1
    by true e = omega arith
    by false e = let one = ltb-false 1 (length (result_words r)) e in omega (arith, one)

-- 3. A result that passes by the area, and one that is a word

module _ (types : List TypeDef) (r : Option WitType) (ty : WitType) (is : r ≡ Some ty) where
  pub point_area : is_indirect (Some (shape_of types ty)) ≡ true → point_code types r ≡ ask_for (shape_of types ty)
  point_area many = ap (point_code types) is ∙ ap (λ q. if q then ask_for (shape_of types ty) else leave_none) many

  pub read_area : is_indirect (Some (shape_of types ty)) ≡ true → read_code types r ≡ load_code types ty nowhere
  read_area many = ap (read_code types) is ∙ ap (λ q. if q then load_code types ty nowhere else lift_code types ty) many

  pub read_word : is_indirect (Some (shape_of types ty)) ≡ false → read_code types r ≡ lift_code types ty
  read_word one = ap (read_code types) is ∙ ap (λ q. if q then load_code types ty nowhere else lift_code types ty) one

  pub give_area : is_indirect (Some (shape_of types ty)) ≡ true → give_code types r ≡ store_answer_code types ty
  give_area many = ap (give_code types) is ∙ ap (λ q. if q then store_answer_code types ty else lower_code types true ty) many

  pub give_word : is_indirect (Some (shape_of types ty)) ≡ false → give_code types r ≡ lower_code types true ty
  give_word one = ap (give_code types) is ∙ ap (λ q. if q then store_answer_code types ty else lower_code types true ty) one

pub point_none : (types : List TypeDef) (r : Option WitType) → is_indirect (option_map (shape_of types) r) ≡ false → point_code types r ≡ leave_none
point_none types None one = refl
point_none types (Some ty) one = ap (λ q. if q then ask_for (shape_of types ty) else leave_none) one
