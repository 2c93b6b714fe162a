-- Which core words types are, how they are joined and cast, and what core signatures functions have, by rows.
use Rattle.std.proofs.Common.{◌≡◌, ℕ, Bool, true, false, List, [], ◌∷◌, ◌++◌, map, replicate, Option, None, Some, refl}
use Rattle.wit_model.specs.declared.wasm_type.WasmType.{WasmType}
use Rattle.wit_model.specs.declared.wasm_type.WasmType.TheVariants.{I32, I64, F32, F64, Pointer, PointerOrI64, Length}
use Rattle.wit_model.specs.declared.types.WitType.{WitType}
use Rattle.wit_model.specs.declared.types.WitType.TheVariants as wit
use Rattle.wit_layout.specs.declared.bitcast.Bitcast.TheVariants as bitcast
use Rattle.wit_layout.specs.declared.signature.AbiVariant.{AbiVariant}
use Rattle.wit_layout.specs.declared.signature.AbiVariant.TheVariants.{GuestImport, GuestExport}
use Rattle.wit_layout.specs.Cast.{cast}
use Rattle.wit_layout.specs.Flat.{flatten_type, repeated}
use Rattle.wit_layout.specs.Join.{join}
use Rattle.wit_layout.specs.Signature.{are_many, core_params, core_results, needs_pointer, param_words, result_words}
use Rattle.wit_layout.specs.Tree.{tree_of, trees}
use Rattle.base_tests.proofs.Sample.{no_name, types}

-- 1. The words of each type of the table

each_type : map flatten_type (trees types) ≡
    (I32 ∷ F64 ∷ [])
    ∷ (Pointer ∷ Length ∷ [])
    ∷ (Pointer ∷ Length ∷ [])
    ∷ (I32 ∷ [])
    ∷ (I32 ∷ [])
    ∷ (I32 ∷ [])
    ∷ (I64 ∷ Pointer ∷ Length ∷ I32 ∷ [])
    ∷ (Pointer ∷ Length ∷ I32 ∷ [])
    ∷ (I32 ∷ I32 ∷ [])
    ∷ (I32 ∷ I32 ∷ [])
    ∷ (I32 ∷ I32 ∷ [])
    -- the slots of the list are shared with two numbers
    ∷ (I32 ∷ Pointer ∷ Length ∷ I32 ∷ [])
    ∷ (Pointer ∷ Length ∷ [])
    ∷ (I32 ∷ F64 ∷ I32 ∷ F64 ∷ I32 ∷ F64 ∷ I32 ∷ F64 ∷ [])
    ∷ (I32 ∷ I64 ∷ [])
    ∷ (I32 ∷ Pointer ∷ Length ∷ [])
    -- the slots of a text are shared with a number of 64 bits
    ∷ (I32 ∷ PointerOrI64 ∷ Length ∷ [])
    ∷ (I32 ∷ [])
    ∷ (I32 ∷ [])
    ∷ (I32 ∷ [])
    ∷ (I32 ∷ [])
    ∷ (I32 ∷ [])
    ∷ (I32 ∷ I32 ∷ [])
    ∷ (I32 ∷ [])
    ∷ (I32 ∷ [])
    ∷ []
unfolding trees repeated
each_type = refl

primitives : map (λ ty. flatten_type (tree_of [] ty)) (wit.Bool ∷ wit.Char ∷ wit.S64 ∷ wit.F32 ∷ wit.F64 ∷ wit.String ∷ []) ≡
    (I32 ∷ []) ∷ (I32 ∷ []) ∷ (I64 ∷ []) ∷ (F32 ∷ []) ∷ (F64 ∷ []) ∷ (Pointer ∷ Length ∷ []) ∷ []
unfolding trees
primitives = refl

-- 2. Joins of all pairs

abbrev all : List WasmType
all = I32 ∷ I64 ∷ F32 ∷ F64 ∷ Pointer ∷ PointerOrI64 ∷ Length ∷ []

joins : map (λ a. map (join a) all) all ≡
    (I32 ∷ I64 ∷ I32 ∷ I64 ∷ Pointer ∷ PointerOrI64 ∷ Length ∷ [])
    ∷ (I64 ∷ I64 ∷ I64 ∷ I64 ∷ PointerOrI64 ∷ PointerOrI64 ∷ I64 ∷ [])
    ∷ (I32 ∷ I64 ∷ F32 ∷ I64 ∷ Pointer ∷ PointerOrI64 ∷ Length ∷ [])
    ∷ (I64 ∷ I64 ∷ I64 ∷ F64 ∷ PointerOrI64 ∷ PointerOrI64 ∷ I64 ∷ [])
    ∷ (Pointer ∷ PointerOrI64 ∷ Pointer ∷ PointerOrI64 ∷ Pointer ∷ PointerOrI64 ∷ Pointer ∷ [])
    ∷ replicate 7 PointerOrI64
    ∷ (Length ∷ I64 ∷ Length ∷ I64 ∷ Pointer ∷ PointerOrI64 ∷ Length ∷ [])
    ∷ []
joins = refl

-- 3. Casts to wider slots and back, in one step and in two

widened : cast I32 I64 ∷ cast F64 I64 ∷ cast Pointer PointerOrI64 ∷ cast Length I64 ∷ [] ≡ bitcast.I32ToI64 ∷ bitcast.F64ToI64 ∷ bitcast.PToP64 ∷ bitcast.LToI64 ∷ []
widened = refl

narrowed : cast I64 F32 ∷ cast PointerOrI64 Pointer ∷ cast I64 Length ∷ cast Length Length ∷ [] ≡ bitcast.I64ToF32 ∷ bitcast.P64ToP ∷ bitcast.I64ToL ∷ bitcast.None ∷ []
narrowed = refl

in_two_steps : cast F32 Pointer ∷ cast Length PointerOrI64 ∷ cast PointerOrI64 F64 ∷ cast Length F32 ∷ [] ≡
    bitcast.Sequence F32 I32 Pointer ∷ bitcast.Sequence Length I64 PointerOrI64 ∷ bitcast.Sequence PointerOrI64 I64 F64 ∷ bitcast.Sequence Length I32 F32 ∷ []
in_two_steps = refl

-- 4. Core signatures of functions of 16 and of 17 words

-- the core parameters and results of a function of so many numbers and this result, and whether its parameters and its result go by a pointer
abbrev told : AbiVariant → ℕ → Option WitType → List WasmType × List WasmType × Bool × Bool
told variant count answer =
    let params = param_words [] (replicate count (record { name = no_name; ty = wit.U32 })) in
    let results = result_words [] answer in
    (core_params variant params results, core_results variant results, are_many params, needs_pointer results)

abbrev answers : List (Option WitType)
answers = None ∷ Some wit.U64 ∷ Some wit.String ∷ []

imports_of_16 : map (told GuestImport 16) answers ≡
    (replicate 16 I32, [], false, false) ∷ (replicate 16 I32, I64 ∷ [], false, false) ∷ (replicate 16 I32 ++ Pointer ∷ [], [], false, true) ∷ []
unfolding trees
imports_of_16 = refl

imports_of_17 : map (told GuestImport 17) answers ≡
    (Pointer ∷ [], [], true, false) ∷ (Pointer ∷ [], I64 ∷ [], true, false) ∷ (Pointer ∷ Pointer ∷ [], [], true, true) ∷ []
unfolding trees
imports_of_17 = refl

exports_of_16 : map (told GuestExport 16) answers ≡
    (replicate 16 I32, [], false, false) ∷ (replicate 16 I32, I64 ∷ [], false, false) ∷ (replicate 16 I32, Pointer ∷ [], false, true) ∷ []
unfolding trees
exports_of_16 = refl

exports_of_17 : map (told GuestExport 17) answers ≡
    (Pointer ∷ [], [], true, false) ∷ (Pointer ∷ [], I64 ∷ [], true, false) ∷ (Pointer ∷ [], Pointer ∷ [], true, true) ∷ []
unfolding trees
exports_of_17 = refl
