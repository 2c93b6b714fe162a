-- Which core words an import is passed and answers.
use Rattle.std.proofs.Common.{◌≡◌, ℕ, zero, suc, ◌≤◌, ◌<◌, Bool, true, false, cond, List, [], ◌∷◌, ◌++◌, length, map, drop, take, None, Some, refl, sym, ap, ◌∙◌, arith, length-append, append-nil}
use Rattle.std.specs.Prelude.{option_and_then}
use Rattle.std.specs.Option.{option_map}
use Rattle.std.proofs.lemmas.Bool.{and_parts, ltb-true, ltb-false}
use Rattle.std.proofs.lemmas.List.{take_all}
use Rattle.wit_model.specs.declared.wasm_type.WasmType.{WasmType}
use Rattle.wit_model.specs.declared.wasm_type.WasmType.TheVariants as wasm
use Rattle.wit_layout.specs.declared.flat.Flat.{Flat}
use Rattle.wit_layout.specs.declared.signature.AbiVariant.TheVariants.{GuestImport}
use Rattle.wit_layout.specs.Flat.{IsFlatOf}
use Rattle.wit_layout.specs.Signature.{core_params, direct_words, needs_pointer}
use Rattle.wrapper_data.specs.declared.word.Word.{Word}
use Rattle.wrapper_data.specs.declared.word.Word.TheVariants as core
use Rattle.wrapper_values.specs.declared.state.Val.TheVariants as val
use Rattle.wrapper_values.specs.Effect.{is_word_of}
use Rattle.wrapper_run.specs.Run.{words_of}
use Rattle.abi_bindgen.specs.Account.{has_type, have_types}
use Rattle.wit_layout.proofs.SignatureSteps.{direct_short}

-- 1. Words of core types

pub same_test : (ty : WasmType) (x : Word) → is_word_of ty x ≡ has_type ty x
same_test wasm.I32 (core.I32 z) = refl
same_test wasm.I64 (core.I64 z) = refl
same_test wasm.F32 (core.F32 z) = refl
same_test wasm.F64 (core.F64 z) = refl
same_test wasm.Pointer (core.Pointer z) = refl
same_test wasm.Length (core.Length z) = refl
same_test wasm.PointerOrI64 (core.Slot (Some z)) = refl
same_test _ _ = refl

pub words_are : (types : List WasmType) (ws : List Word) → have_types types ws ≡ true → words_of types (map val.Word ws) ≡ Some ws
words_are [] [] h = refl
words_are [] (x ∷ ws) h = absurd cc
words_are (ty ∷ types) [] h = absurd cc
words_are (ty ∷ types) (x ∷ ws) h =
    let parts = and_parts (has_type ty x) (have_types types ws) h in
    ap (λ b. option_and_then (λ w. option_map (λ xs. w ∷ xs) (words_of types (map val.Word ws))) (cond b (Some x) None)) (same_test ty x ∙ parts.0)
    ∙ ap (option_map (λ xs. x ∷ xs)) (words_are types ws parts.1)

-- 2. The words of a signature

take_front : (xs ys : List WasmType) (n : ℕ) → n ≡ length xs → take n (xs ++ ys) ≡ xs
take_front [] ys zero e = refl
take_front [] ys (suc n) e = absurd (omega (arith, e))
take_front (x ∷ xs) ys zero e = absurd (omega (arith, e))
take_front (x ∷ xs) ys (suc n) e = ap (λ zs. x ∷ zs) (take_front xs ys n (omega (arith, e)))

-- the seventeenth word is the pointer for the result
pub seventeen : (params answer : List WasmType) → 16 < length (core_params GuestImport params answer) → take 16 (core_params GuestImport params answer) ++ wasm.Pointer ∷ [] ≡ core_params GuestImport params answer
seventeen params answer l = go (needs_pointer answer) l
  where
    go : (b : Bool) → 16 < length (direct_words params ++ cond b (wasm.Pointer ∷ []) []) → take 16 (direct_words params ++ cond b (wasm.Pointer ∷ []) []) ++ wasm.Pointer ∷ [] ≡ direct_words params ++ cond b (wasm.Pointer ∷ []) []
    go true l = ap (λ xs. xs ++ wasm.Pointer ∷ []) (take_front (direct_words params) (wasm.Pointer ∷ []) 16 (omega (arith, l, direct_short params, length-append (direct_words params) (wasm.Pointer ∷ []))))
    go false l = absurd (omega (arith, l, direct_short params, length-append {A = WasmType} (direct_words params) []))

pub params_more : (f : Flat) (params answer : List WasmType) → IsFlatOf f (core_params GuestImport params answer) → f.more ≡ true → take f.count f.words ++ wasm.Pointer ∷ [] ≡ core_params GuestImport params answer
params_more f params answer told more =
    ap (λ xs. xs ++ wasm.Pointer ∷ []) told.kept ∙ seventeen params answer (ltb-true 16 (length (core_params GuestImport params answer)) (sym told.more ∙ more))

pub params_all : (f : Flat) (params answer : List WasmType) → IsFlatOf f (core_params GuestImport params answer) → f.more ≡ false → take f.count f.words ≡ core_params GuestImport params answer
params_all f params answer told more =
    told.kept ∙ take_all 16 (core_params GuestImport params answer) (ltb-false 16 (length (core_params GuestImport params answer)) (sym told.more ∙ more))

past : (n : ℕ) (xs : List WasmType) → length xs ≤ n → drop n xs ≡ []
past zero [] l = refl
past (suc n) [] l = refl
past zero (x ∷ xs) l = absurd (omega (arith, l))
past (suc n) (x ∷ xs) l = past n xs (omega (arith, l))

-- all were taken
pub taken_all : (xs items : List WasmType) (n : ℕ) → xs ++ drop n items ≡ items → length items ≤ n → xs ≡ items
taken_all xs items n h l = sym (append-nil xs) ∙ ap (λ ys. xs ++ ys) (sym (past n items l)) ∙ h
