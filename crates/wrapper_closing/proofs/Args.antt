-- Core parameters that are numbered have the types from which they are made, and names of which no two are equal.
use Rattle.std.proofs.Common.{◌≡◌, ℕ, ◌+◌, ◌^◌, ◌<◌, ◌≤◌, ◌&&◌, ◌||◌, Bool, true, false, not, List, [], ◌∷◌, decimal, length, slice_get, take, refl, sym, ap, ap₂, subst, ◌∙◌, arith}
use Rattle.std.specs.Prelude.{if◌then◌else◌, option_to_list}
use Rattle.std.specs.List.{list_any}
use Rattle.std.specs.Str.{bytes_eq}
use Rattle.std.proofs.lemmas.Fmt.{decimal_injective}
use Rattle.std.proofs.lemmas.Bool.{ltb-false}
use Rattle.std.proofs.lemmas.List.{append_cancel_left, length-map, take_all}
use Rattle.std.proofs.lemmas.Slice.Eq.{bytes_eq-Decides}
use Rattle.wit_model.specs.Distinct.{is_distinct}
use Rattle.wit_model.specs.declared.function.Function.{Function}
use Rattle.wit_model.specs.declared.types.TypeDef.{TypeDef}
use Rattle.wit_model.specs.declared.wasm_type.WasmType.{WasmType}
use Rattle.wit_model.specs.declared.wasm_type.WasmType.TheVariants.{Pointer}
use Rattle.rust_tree.specs.declared.export.CoreParam.{CoreParam}
use Rattle.wit_layout.specs.declared.flat.Flat.{Flat}
use Rattle.wit_layout.specs.declared.signature.AbiVariant.TheVariants.{GuestExport}
use Rattle.wit_layout.specs.Flat.{IsFlatOf}
use Rattle.wit_layout.specs.Signature.{IsFlattenedFunctype, are_many, core_params, core_results, direct_words, needs_pointer}
use Rattle.wit_layout.specs.Signature as signature
use Rattle.wit_layout.specs.declared.signature.WasmSignature.{WasmSignature}
use Rattle.wrapper_meaning.proofs.LayoutIsTree.{signature_is_by_shapes}
use Rattle.wrapper_meaning.specs.Represents.{param_words, result_words}
use Rattle.wrapper_faithful.specs.Passed.{Passed, passed}
use Rattle.abi_driver.specs.Exports.{export_params}
use Rattle.wrapper_closing.specs.Params.{arg_name, arg_names, arg_prefix, arg_types, core_args, param_types, result_types, ret_area}
use Rattle.wit_layout.proofs.SignatureSteps.{direct_short}

pub types_of_args : (n : ℕ) (types : List WasmType) → arg_types (core_args n types) ≡ types
types_of_args n [] = refl
types_of_args n (ty ∷ types) = ap (λ ts. ty ∷ ts) (types_of_args (n + 1) types)

-- the words of a signature that are told are all of them, where there are sixteen at most
pub all_told : (f : Flat) (words : List WasmType) → IsFlatOf f words → length words ≤ 16 → take f.count f.words ≡ words
all_told f words is few = is.kept ∙ take_all 16 words few

pub few_results : (words : List WasmType) → length (core_results GuestExport words) ≤ 1
few_results words = go (needs_pointer words) refl
  where
    go : (b : Bool) → needs_pointer words ≡ b → length (core_results GuestExport words) ≤ 1
    go true e = subst (λ b. length (if b then Pointer ∷ [] else words) ≤ 1) (sym e) (omega arith)
    go false e = subst (λ b. length (if b then Pointer ∷ [] else words) ≤ 1) (sym e) (ltb-false 1 (length words) e)

-- names with different numbers are not equal
other_arg : (m n : ℕ) → m < n → n < 2 ^ 64 → bytes_eq (arg_name n) (arg_name m) ≡ false
other_arg m n less small = go (bytes_eq (arg_name n) (arg_name m)) refl
  where
    same : arg_name n ≡ arg_name m → ⊥
    same e = let k : n ≡ m = decimal_injective n m small (omega arith) (append_cancel_left arg_prefix (decimal n) (decimal m) e) in omega arith

    go : (b : Bool) → bytes_eq (arg_name n) (arg_name m) ≡ b → bytes_eq (arg_name n) (arg_name m) ≡ false
    go true e = absurd (same ((bytes_eq-Decides (arg_name n) (arg_name m)).0 e))
    go false e = e

unused_later : (m n : ℕ) (types : List WasmType) → m < n → n + length types < 2 ^ 64 → list_any (λ u. bytes_eq u (arg_name m)) (arg_names (core_args n types)) ≡ false
unused_later m n [] less small = refl
unused_later m n (ty ∷ types) less small =
    ap₂ (λ a b. a || b) (other_arg m n less (omega arith)) (unused_later m (n + 1) types (omega arith) (omega arith))

distinct_args : (n : ℕ) (types : List WasmType) → n + length types < 2 ^ 64 → is_distinct (arg_names (core_args n types)) ≡ true
distinct_args n [] small = refl
distinct_args n (ty ∷ types) small =
    ap₂ (λ a b. not a && b) (unused_later n (n + 1) types (omega arith) (omega arith)) (distinct_args (n + 1) types (omega arith))

-- none of them is the area's
no_area_name : (n : ℕ) → bytes_eq (arg_name n) ret_area ≡ false
unfolding arg_prefix ret_area
no_area_name n = refl

area_unused : (n : ℕ) (types : List WasmType) → list_any (λ u. bytes_eq u ret_area) (arg_names (core_args n types)) ≡ false
area_unused n [] = refl
area_unused n (ty ∷ types) = ap₂ (λ a b. a || b) (no_area_name n) (area_unused (n + 1) types)

pub distinct_with_area : (types : List WasmType) → length types ≤ 16 → is_distinct (ret_area ∷ arg_names (core_args 0 types)) ≡ true
distinct_with_area types few = ap₂ (λ a b. not a && b) (area_unused 0 types) (distinct_args 0 types (omega arith))

-- core parameters that were made of the types that were wanted
pub typed_so : (args : List CoreParam) (types wanted : List WasmType) → args ≡ core_args 0 types → types ≡ wanted → arg_types args ≡ wanted
typed_so args types wanted is same = ap arg_types is ∙ types_of_args 0 types ∙ same

pub as_many : (args : List CoreParam) (wanted : List WasmType) → arg_types args ≡ wanted → length args ≡ length wanted
as_many args wanted typed = sym (length-map args (λ a. a.ty)) ∙ ap length typed

pub distinct_so : (args : List CoreParam) (types wanted : List WasmType) → args ≡ core_args 0 types → types ≡ wanted → length wanted ≤ 16 → is_distinct (ret_area ∷ arg_names args) ≡ true
distinct_so args types wanted is same few = ap (λ xs. is_distinct (ret_area ∷ arg_names xs)) is ∙ distinct_with_area types (subst (λ ts. length ts ≤ 16) (sym same) few)

-- the words of a signature are those by the shapes of what the function passes
pub param_types_by_shapes : (types : List TypeDef) (f : Function) → core_params GuestExport (signature.param_words types f.params) (signature.result_words types f.result) ≡ param_types (passed types f)
param_types_by_shapes types f = sym (ap direct_words (signature_is_by_shapes types f).0)

pub result_types_by_shapes : (types : List TypeDef) (f : Function) → core_results GuestExport (signature.result_words types f.result) ≡ result_types (passed types f)
result_types_by_shapes types f = sym (ap (core_results GuestExport) (signature_is_by_shapes types f).1)

pub driver_params : (types : List TypeDef) (f : Function) → param_types (passed types f) ≡ export_params types f
driver_params types f = sym (param_types_by_shapes types f)

-- what a signature tells of an exported function
pub told_params : (types : List TypeDef) (f : Function) (s : WasmSignature) → IsFlattenedFunctype types GuestExport f s → take s.params.count s.params.words ≡ param_types (passed types f)
told_params types f s is = all_told s.params _ is.params_told (direct_short (signature.param_words types f.params)) ∙ param_types_by_shapes types f

pub told_results : (types : List TypeDef) (f : Function) (s : WasmSignature) → IsFlattenedFunctype types GuestExport f s → take s.results.count s.results.words ≡ result_types (passed types f)
told_results types f s is =
    let few : length (core_results GuestExport (signature.result_words types f.result)) ≤ 16 = omega (arith, few_results (signature.result_words types f.result)) in
    all_told s.results _ is.results_told few ∙ result_types_by_shapes types f

pub params_fit : (p : Passed) → length (param_types p) ≤ 16
params_fit p = direct_short (param_words p.params)

pub results_fit : (p : Passed) → length (result_types p) ≤ 16
results_fit p = omega (arith, few_results (result_words p.result))

-- at most one word is the first, if there is one
pub first_alone : (words : List WasmType) → length words ≤ 1 → option_to_list (slice_get words 0) ≡ words
first_alone [] few = refl
first_alone (w ∷ []) few = refl
first_alone (w ∷ x ∷ words) few = absurd (omega (arith, few))

pub result_alone : (p : Passed) → option_to_list (slice_get (result_types p) 0) ≡ result_types p
result_alone p = first_alone (result_types p) (few_results (result_words p.result))
