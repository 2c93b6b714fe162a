-- The words that say a value are of the core types of its shape.
use Rattle.std.proofs.Common.{◌≡◌, ℕ, suc, true, List, [], ◌∷◌, ◌++◌, length, Some, refl, sym, ap, ◌∙◌}
use Rattle.std.specs.List.{AllByRecursion}
use Rattle.std.proofs.lemmas.Bool.{and_from, and_parts}
use Rattle.wit_model.specs.declared.wasm_type.WasmType.{WasmType}
use Rattle.wit_model.specs.declared.wasm_type.WasmType.TheVariants as wasm
use Rattle.wit_layout.specs.Flat.{core_type, flatten_record, flatten_type, repeated, slots, words_of_flags}
use Rattle.wit_layout.specs.Tree.{Scalar}
use Rattle.wrapper_data.specs.declared.block.Block.{Block}
use Rattle.wrapper_data.specs.declared.word.Word.{Word}
use Rattle.wrapper_data.specs.declared.word.Word.TheVariants as core
use Rattle.wrapper_meaning.specs.AsWords.{EachSays, IsTaken, PartsSay, Says, Saying, SaysScalar, passed_word}
use Rattle.wrapper_meaning.specs.Direction.{Direction, give, lend, make, take}
use Rattle.wrapper_meaning.specs.InRange.{AreListed, IsListed}
use Rattle.wrapper_meaning.specs.Layout.{layout, layouts}
use Rattle.wrapper_meaning.specs.Shape.{Shape, Shapes}
use Rattle.wrapper_meaning.specs.Shape.Shape.{scalar, text, list, pairs, fixed, fields, tuple, cases, flags, handle, resource, other}
use Rattle.wrapper_meaning.specs.Shape.Shapes.{none, more}
use Rattle.wrapper_meaning.specs.Value.{Parts, ScalarValue, Value}
use Rattle.wrapper_meaning.specs.Words.{AreWords, IsWord}
use Rattle.abi_bindgen.specs.Account.{has_type, have_types}

-- 1. Words of types

pub types_length : (types : List WasmType) (ws : List Word) → have_types types ws ≡ true → length ws ≡ length types
types_length [] [] e = refl
types_length [] (x ∷ ws) e = absurd (let h = e in cc)
types_length (ty ∷ types) [] e = absurd (let h = e in cc)
types_length (ty ∷ types) (x ∷ ws) e = ap suc (types_length types ws (and_parts (has_type ty x) (have_types types ws) e).1)

pub types_both : (xs ys : List WasmType) (us vs : List Word) → have_types xs us ≡ true → have_types ys vs ≡ true → have_types (xs ++ ys) (us ++ vs) ≡ true
types_both [] ys [] vs e f = f
types_both [] ys (u ∷ us) vs e f = absurd (let h = e in cc)
types_both (x ∷ xs) ys [] vs e f = absurd (let h = e in cc)
types_both (x ∷ xs) ys (u ∷ us) vs e f =
    let h = and_parts (has_type x u) (have_types xs us) e in
    and_from (has_type x u) (have_types (xs ++ ys) (us ++ vs)) h.0 (types_both xs ys us vs h.1 f)

word_typed : (w : ℕ) (ty : WasmType) (x : Word) → IsWord w ty x → has_type ty x ≡ true
word_typed w wasm.I32 (core.I32 z) h = refl
word_typed w wasm.I64 (core.I64 z) h = refl
word_typed w wasm.F32 (core.F32 x) h = refl
word_typed w wasm.F64 (core.F64 x) h = refl
word_typed w wasm.Pointer (core.Pointer x) h = refl
word_typed w wasm.PointerOrI64 (core.Slot (Some x)) h = refl
word_typed w wasm.Length (core.Length n) h = refl
word_typed w _ _ h = absurd h

pub words_typed : (w : ℕ) (types : List WasmType) (ws : List Word) → AreWords w types ws → have_types types ws ≡ true
words_typed w [] ws h = ap (have_types []) h
words_typed w (ty ∷ types) [] h = absurd h
words_typed w (ty ∷ types) (x ∷ ws) h = and_from (has_type ty x) (have_types types ws) (word_typed w ty x h.0) (words_typed w types ws h.1)

-- 2. Scalars

passed_typed : (s : Scalar) (v : ScalarValue s) → has_type (core_type s) (passed_word s v) ≡ true
passed_typed Scalar.bool v = refl
passed_typed Scalar.u8 v = refl
passed_typed Scalar.s8 v = refl
passed_typed Scalar.u16 v = refl
passed_typed Scalar.s16 v = refl
passed_typed Scalar.u32 v = refl
passed_typed Scalar.s32 v = refl
passed_typed Scalar.u64 v = refl
passed_typed Scalar.s64 v = refl
passed_typed Scalar.f32 v = refl
passed_typed Scalar.f64 v = refl
passed_typed Scalar.char v = refl
passed_typed Scalar.handle v = elim v [ ]

taken_typed : (s : Scalar) (v : ScalarValue s) (x : Word) → IsTaken s v x → has_type (core_type s) x ≡ true
taken_typed Scalar.bool v x h = ap (has_type wasm.I32) h.1
taken_typed Scalar.u8 v x h = ap (has_type wasm.I32) h.1
taken_typed Scalar.s8 v x h = ap (has_type wasm.I32) h.1
taken_typed Scalar.u16 v x h = ap (has_type wasm.I32) h.1
taken_typed Scalar.s16 v x h = ap (has_type wasm.I32) h.1
taken_typed Scalar.u32 v x h = ap (has_type wasm.I32) h.1
taken_typed Scalar.s32 v x h = ap (has_type wasm.I32) h
taken_typed Scalar.u64 v x h = ap (has_type wasm.I64) h.1
taken_typed Scalar.s64 v x h = ap (has_type wasm.I64) h
taken_typed Scalar.f32 v x h = ap (has_type wasm.F32) h
taken_typed Scalar.f64 v x h = ap (has_type wasm.F64) h
taken_typed Scalar.char v x h = ap (has_type wasm.I32) h.1
taken_typed Scalar.handle v x h = elim v [ ]

scalar_typed : (dir : Direction) (s : Scalar) (v : ScalarValue s) (x : Word) → SaysScalar dir s v x → has_type (core_type s) x ≡ true
scalar_typed take s v x h = taken_typed s v x h
scalar_typed give s v x h = ap (has_type (core_type s)) h ∙ passed_typed s v
scalar_typed (lend blocks) s v x h = ap (has_type (core_type s)) h ∙ passed_typed s v
scalar_typed (make blocks) s v x h = ap (has_type (core_type s)) h ∙ passed_typed s v

-- 3. All shapes

repeated_next : (n : ℕ) (cs : List WasmType) → repeated (suc n) cs ≡ cs ++ repeated n cs
unfolding repeated
repeated_next n cs = refl

repeated_none : (cs : List WasmType) → repeated 0 cs ≡ []
unfolding repeated
repeated_none cs = refl

each_typed : {A : Type 0} (says : A → Saying) (good : A → Type 0) (cs : List WasmType) → ((v : A) (ws : List Word) (own : List Block) → good v → says v ws own → have_types cs ws ≡ true)
    → (vs : List A) (ws : List Word) (own : List Block) → AllByRecursion good vs → EachSays says vs ws own → have_types (repeated (length vs) cs) ws ≡ true
each_typed says good cs one [] ws own g h = ap (λ types. have_types types ws) (repeated_none cs) ∙ ap (have_types []) h.0
each_typed says good cs one (v ∷ vs) ws own g h =
    ap (λ types. have_types types ws) (repeated_next (length vs) cs) ∙ ap (have_types (cs ++ repeated (length vs) cs)) h.6
    ∙ types_both cs (repeated (length vs) cs) h.0 h.1 (one v h.0 h.2 g.0 h.4) (each_typed says good cs one vs h.1 h.3 g.1 h.5)

module _ (w : ℕ) (dir : Direction) where
  mutual
    pub says_typed : (t : Shape) (v : Value t) (ws : List Word) (own : List Block) → IsListed t v → Says w dir t v ws own → have_types (flatten_type (layout t)) ws ≡ true
    says_typed (scalar s) v ws own g h = ap (have_types (core_type s ∷ [])) h.1 ∙ and_from (has_type (core_type s) h.0) true (scalar_typed dir s v h.0 h.2) refl
    says_typed text v ws own g h = ap (have_types (wasm.Pointer ∷ wasm.Length ∷ [])) h.pair
    says_typed (list t) v ws own g h = ap (have_types (wasm.Pointer ∷ wasm.Length ∷ [])) h.pair
    says_typed (pairs k x) v ws own g h = ap (have_types (wasm.Pointer ∷ wasm.Length ∷ [])) h.pair
    says_typed (fixed t n) vs ws own g h =
        ap (λ k. have_types (repeated k (flatten_type (layout t))) ws) (sym g.0)
        ∙ each_typed (Says w dir t) (IsListed t) (flatten_type (layout t)) (λ v ws own g h. says_typed t v ws own g h) vs ws own g.1 h
    says_typed (fields ts) v ws own g h = parts_typed ts v ws own g h
    says_typed (tuple ts) v ws own g h = parts_typed ts v ws own g h
    says_typed (cases ts) v ws own g h = ap (have_types (wasm.I32 ∷ slots (layouts ts))) h.1 ∙ words_typed w (slots (layouts ts)) h.0 h.2
    says_typed (flags n) v ws own g h = words_typed w (words_of_flags n) ws h.0
    says_typed (handle owns n) v ws own g h = ap (have_types (wasm.I32 ∷ [])) h.0
    says_typed (resource n) v ws own g h = absurd h
    says_typed other v ws own g h = absurd h

    pub parts_typed : (ts : Shapes) (v : Parts ts) (ws : List Word) (own : List Block) → AreListed ts v → PartsSay w dir ts v ws own → have_types (flatten_record (layouts ts)) ws ≡ true
    parts_typed none v ws own g h = ap (have_types []) h.0
    parts_typed (more t ts) v ws own g h =
        ap (have_types (flatten_type (layout t) ++ flatten_record (layouts ts))) h.6
        ∙ types_both (flatten_type (layout t)) (flatten_record (layouts ts)) h.0 h.1 (says_typed t v.0 h.0 h.2 g.0 h.4) (parts_typed ts v.1 h.1 h.3 g.1 h.5)
