-- What the printed casts of core words read: the word with the bits that the cast makes of a word's bits.
use Rattle.std.proofs.Common.{inl, inr, ◌≡◌, ℕ, ℤ, pos, negsuc, ◌<◌, ◌%◌, ◌^◌, true, false, List, [], ◌∷◌, Option, Some, refl, sym, ap, ◌∙◌, arith}
use Rattle.std.specs.Prelude.{option_and_then}
use Rattle.std.specs.Option.{option_map}
use Rattle.std.specs.Int.{w32, w64, cast_signed}
use Rattle.std.proofs.lemmas.Int.{ints}
use Rattle.wit_model.specs.declared.wasm_type.WasmType.{WasmType}
use Rattle.wit_model.specs.declared.wasm_type.WasmType.TheVariants as wasm
use Rattle.wit_model.specs.declared.types.WitType.TheVariants as wit
use Rattle.wit_layout.specs.Cast.{cast}
use Rattle.wit_layout.specs.CastBits.{after_cast, after_step, bits, extended}
use Rattle.wit_layout.specs.Join.{AreInOrder}
use Rattle.wit_layout.specs.Tree.{Scalar}
use Rattle.rust_tree.specs.declared.expr.CastType.{CastType}
use Rattle.rust_tree.specs.declared.expr.CastType.TheVariants as to
use Rattle.rust_tree.specs.declared.expr.Expr.{Expr}
use Rattle.rust_tree.specs.declared.expr.Expr.TheVariants as expr
use Rattle.rust_tree.specs.declared.expr.Method.{Method}
use Rattle.rust_tree.specs.declared.expr.Method.TheVariants as method
use Rattle.rust_tree.specs.declared.item.Item.{Item}
use Rattle.wrapper_data.specs.declared.value.RustValue.TheVariants as value
use Rattle.wrapper_data.specs.declared.word.Word.{Word}
use Rattle.wrapper_data.specs.declared.word.Word.TheVariants as core
use Rattle.wrapper_meaning.specs.Numbers.{is_signed, low_bits}
use Rattle.wrapper_meaning.specs.Words.{IsWord, bits_of, word_of_bits}
use Rattle.wrapper_values.specs.declared.core_words.CoreFn.{CoreFn}
use Rattle.wrapper_values.specs.declared.core_words.CoreFn.TheVariants as core_fn
use Rattle.wrapper_values.specs.declared.state.Val.{Val}
use Rattle.wrapper_values.specs.declared.state.Val.TheVariants as val
use Rattle.wrapper_values.specs.CoreWords.{applied, called_on, core_word, slot_pointer, u32_value, u64_value}
use Rattle.wrapper_values.specs.Effect.{cast_integer, cast_to, integer_of, is_of_kind, low, low_i64, num_of}
use Rattle.wrapper_values.specs.Owning.{owned}
use Rattle.wrapper_run.specs.Run.{callee, core_function, is_f32_from_bits, is_f64_from_bits, is_i64_from, is_new_slot, runtime_module_name}
use Rattle.wrapper_run.proofs.NumberLemmas.{low_i32-s32, low_i64-s64, num_of-number}
use Rattle.func_gen.specs.CastForms.{cast_expr, core_call, core_path, f32_names, f64_names, from_names, needs_slot, new_slot_names, step_expr}
use Rattle.func_gen.specs.Read.{Env, Read, bare_or, conversion, on_bare, read}
use Rattle.func_gen.specs.ReadForms.{read-call, read-cast, read-method}
use Rattle.func_gen.specs.StandLemmas.{scalar_owns}
use Rattle.func_gen.proofs.LowBits.{same_low}

-- 1. Low bits

below_32 : (z : ℤ) → low_bits 32 z < 2 ^ 32
below_32 (pos a) = omega arith
below_32 (negsuc a) = omega arith

below_64 : (z : ℤ) → low_bits 64 z < 2 ^ 64
below_64 (pos a) = omega arith
below_64 (negsuc a) = omega arith

-- the low half of the low bits
low_half : (z : ℤ) → low_bits 64 z % 2 ^ 32 ≡ low_bits 32 z
low_half (pos a) = omega arith
low_half (negsuc a) = omega arith

within_32 : (n : ℕ) → n < 2 ^ 32 → n % 2 ^ 32 ≡ n
within_32 n h = omega (arith, h)

within_64 : (n : ℕ) → n < 2 ^ 64 → n % 2 ^ 64 ≡ n
within_64 n h = omega (arith, h)

again_32 : (n : ℕ) → n % 2 ^ 32 % 2 ^ 32 ≡ n % 2 ^ 32
again_32 n = omega arith

-- a wider number has the sign
sign_kept : (z : ℤ) → is_signed 31 z ≡ true → extended 32 64 (low_bits 32 z) % 2 ^ 64 ≡ low_bits 64 z
sign_kept (pos a) h = grind (arith, ints)
sign_kept (negsuc a) h = grind (arith, ints)

-- and no number is wider than itself
as_wide : (n : ℕ) → n < 2 ^ 32 → extended 32 32 n % 2 ^ 32 ≡ n
as_wide n h = grind (arith, ints)

signed_32 : (n : ℕ) → n < 2 ^ 32 → is_signed 31 (cast_signed w32 n) ≡ true
signed_32 n h = grind (arith, ints)

signed_64 : (n : ℕ) → n < 2 ^ 64 → is_signed 63 (cast_signed w64 n) ≡ true
signed_64 n h = grind (arith, ints)

back_32 : (n : ℕ) → n < 2 ^ 32 → low_bits 32 (cast_signed w32 n) ≡ n
back_32 n h = grind (arith, ints)

back_64 : (n : ℕ) → n < 2 ^ 64 → low_bits 64 (cast_signed w64 n) ≡ n
back_64 n h = grind (arith, ints)

-- 2. Words by their bits

pub word_fits : (ty : WasmType) (n : ℕ) → IsWord 2 ty (word_of_bits 2 ty n)
word_fits wasm.I32 n = signed_32 (n % 2 ^ 32) (omega arith)
word_fits wasm.I64 n = signed_64 (n % 2 ^ 64) (omega arith)
word_fits wasm.F32 n = omega arith
word_fits wasm.F64 n = omega arith
word_fits wasm.Pointer n = omega arith
word_fits wasm.PointerOrI64 n = omega arith
word_fits wasm.Length n = omega arith

bits_same : (ty : WasmType) (n : ℕ) → n < 2 ^ bits 2 ty → bits_of (word_of_bits 2 ty n) ≡ n
bits_same wasm.I32 n h = back_32 (n % 2 ^ 32) (omega arith) ∙ within_32 n h
bits_same wasm.I64 n h = back_64 (n % 2 ^ 64) (omega arith) ∙ within_64 n h
bits_same wasm.F32 n h = within_32 n h
bits_same wasm.F64 n h = within_64 n h
bits_same wasm.Pointer n h = within_32 n h
bits_same wasm.PointerOrI64 n h = within_64 n h
bits_same wasm.Length n h = within_32 n h

word_again : (ty : WasmType) (x : Word) → IsWord 2 ty x → word_of_bits 2 ty (bits_of x) ≡ x
word_again wasm.I32 (core.I32 z) h = ap (λ n. core.I32 (cast_signed w32 n)) (within_32 (low_bits 32 z) (below_32 z)) ∙ ap core.I32 (low_i32-s32 z h)
word_again wasm.I64 (core.I64 z) h = ap (λ n. core.I64 (cast_signed w64 n)) (within_64 (low_bits 64 z) (below_64 z)) ∙ ap core.I64 (low_i64-s64 z h)
word_again wasm.F32 (core.F32 n) h = ap core.F32 (within_32 n h)
word_again wasm.F64 (core.F64 n) h = ap core.F64 (within_64 n h)
word_again wasm.Pointer (core.Pointer n) h = ap core.Pointer (within_32 n h)
word_again wasm.PointerOrI64 (core.Slot (Some n)) h = ap (λ k. core.Slot (Some k)) (within_64 n h)
word_again wasm.Length (core.Length n) h = ap core.Length (within_32 n h)
word_again ty x h = absurd h

-- what a first step leaves

small_f32_i32 : (x : Word) → IsWord 2 wasm.F32 x → after_step 2 (cast wasm.F32 wasm.I32) (bits_of x) < 2 ^ bits 2 wasm.I32
small_f32_i32 (core.F32 n) h = h
small_f32_i32 _ h = absurd h

small_p_i32 : (x : Word) → IsWord 2 wasm.Pointer x → after_step 2 (cast wasm.Pointer wasm.I32) (bits_of x) < 2 ^ bits 2 wasm.I32
small_p_i32 (core.Pointer n) h = omega arith
small_p_i32 _ h = absurd h

small_l_i32 : (x : Word) → IsWord 2 wasm.Length x → after_step 2 (cast wasm.Length wasm.I32) (bits_of x) < 2 ^ bits 2 wasm.I32
small_l_i32 (core.Length n) h = omega arith
small_l_i32 _ h = absurd h

small_p64_i64 : (x : Word) → IsWord 2 wasm.PointerOrI64 x → after_step 2 (cast wasm.PointerOrI64 wasm.I64) (bits_of x) < 2 ^ bits 2 wasm.I64
small_p64_i64 (core.Slot (Some n)) h = h
small_p64_i64 _ h = absurd h

small_i32_i64 : (x : Word) → IsWord 2 wasm.I32 x → after_step 2 (cast wasm.I32 wasm.I64) (bits_of x) < 2 ^ bits 2 wasm.I64
small_i32_i64 (core.I32 z) h = let k = below_32 z in grind (arith, ints)
small_i32_i64 _ h = absurd h

small_f32_i64 : (x : Word) → IsWord 2 wasm.F32 x → after_step 2 (cast wasm.F32 wasm.I64) (bits_of x) < 2 ^ bits 2 wasm.I64
small_f32_i64 (core.F32 n) h = omega (arith, h)
small_f32_i64 _ h = absurd h

small_f64_i64 : (x : Word) → IsWord 2 wasm.F64 x → after_step 2 (cast wasm.F64 wasm.I64) (bits_of x) < 2 ^ bits 2 wasm.I64
small_f64_i64 (core.F64 n) h = h
small_f64_i64 _ h = absurd h

small_l_i64 : (x : Word) → IsWord 2 wasm.Length x → after_step 2 (cast wasm.Length wasm.I64) (bits_of x) < 2 ^ bits 2 wasm.I64
small_l_i64 (core.Length n) h = omega (arith, h)
small_l_i64 _ h = absurd h

-- 3. What forms make of values

cast_is : (c : CastType) (v : Val) (z : ℤ) → integer_of v ≡ Some z → cast_to c v ≡ Some (cast_integer c z)
unfolding cast_to
cast_is c v z h = ap (option_map (cast_integer c)) h

bits_of_f32 : (n : ℕ) → called_on method.ToBits (val.Word (core.F32 n)) ≡ Some (u32_value n)
unfolding called_on
bits_of_f32 n = refl

bits_of_f64 : (n : ℕ) → called_on method.ToBits (val.Word (core.F64 n)) ≡ Some (u64_value n)
unfolding called_on
bits_of_f64 n = refl

bits_of_slot : (n : ℕ) → called_on method.AssumeInit (val.Word (core.Slot (Some n))) ≡ Some (u64_value n)
unfolding called_on
bits_of_slot n = refl

pointer_of_slot : (n : ℕ) → called_on method.ReadPointer (val.Word (core.Slot (Some n))) ≡ Some (slot_pointer n)
unfolding called_on
pointer_of_slot n = refl

is_u32 : (n : ℕ) → n < 2 ^ 32 → is_of_kind wit.U32 (pos n) ≡ true
is_u32 n h = grind (arith, ints)

is_u64 : (n : ℕ) → n < 2 ^ 64 → is_of_kind wit.U64 (pos n) ≡ true
is_u64 n h = grind (arith, ints)

u32_number : (n : ℕ) → n < 2 ^ 32 → integer_of (u32_value n) ≡ Some (pos n)
u32_number n h = ap (option_map (λ k. k.1)) (num_of-number wit.U32 (pos n) (is_u32 n h))

u64_number : (n : ℕ) → n < 2 ^ 64 → integer_of (u64_value n) ≡ Some (pos n)
u64_number n h = ap (option_map (λ k. k.1)) (num_of-number wit.U64 (pos n) (is_u64 n h))

from_i32 : (z : ℤ) → core_word core_fn.I64From (val.Word (core.I32 z)) ≡ Some (core.I64 (low_i64 z))
unfolding core_word
from_i32 z = refl

from_u32 : (n : ℕ) → n < 2 ^ 32 → core_word core_fn.I64From (u32_value n) ≡ Some (core.I64 (low_i64 (pos n)))
unfolding core_word
from_u32 n h = ap (option_and_then (applied core_fn.I64From)) (num_of-number wit.U32 (pos n) (is_u32 n h))

-- the low bits of a number, as the type of so many
num_32 : (z : ℤ) → num_of (cast_integer to.U32 z) ≡ Some (wit.U32, pos (low_bits 32 z))
num_32 z = ap (λ k. num_of (val.Value (value.Num wit.U32 k))) (same_low 32 z) ∙ num_of-number wit.U32 (pos (low_bits 32 z)) (is_u32 (low_bits 32 z) (below_32 z))

num_64 : (z : ℤ) → num_of (cast_integer to.U64 z) ≡ Some (wit.U64, pos (low_bits 64 z))
num_64 z = ap (λ k. num_of (val.Value (value.Num wit.U64 k))) (same_low 64 z) ∙ num_of-number wit.U64 (pos (low_bits 64 z)) (is_u64 (low_bits 64 z) (below_64 z))

f32_made : (z : ℤ) → core_word core_fn.F32FromBits (cast_integer to.U32 z) ≡ Some (core.F32 (low_bits 32 z))
unfolding core_word
f32_made z = ap (option_and_then (applied core_fn.F32FromBits)) (num_32 z)

f64_made : (z : ℤ) → core_word core_fn.F64FromBits (cast_integer to.U64 z) ≡ Some (core.F64 (low_bits 64 z))
unfolding core_word
f64_made z = ap (option_and_then (applied core_fn.F64FromBits)) (num_64 z)

slot_made : (z : ℤ) → core_word core_fn.NewSlot (cast_integer to.U64 z) ≡ Some (core.Slot (Some (low_bits 64 z)))
unfolding core_word
slot_made z = ap (option_and_then (applied core_fn.NewSlot)) (num_64 z)

calls_core : (f : CoreFn) → callee (core_path f) ≡ core_function f
unfolding callee from_names f32_names f64_names new_slot_names is_i64_from is_f32_from_bits is_f64_from_bits is_new_slot runtime_module_name
calls_core core_fn.I64From = refl
calls_core core_fn.F32FromBits = refl
calls_core core_fn.F64FromBits = refl
calls_core core_fn.NewSlot = refl

-- 4. One step

module _ (items : List Item) where
  abbrev pub Reads : Expr → Env → Word → Type 0
  Reads e env x = (read items e).at env ≡ Some (val.Word x)

  -- one level over what is read
  on_read : (f : Val → Option Val) (o whole : Option Val) (x y : Val) → whole ≡ option_and_then (on_bare f) o → o ≡ Some x → owned x ≡ [] → f x ≡ Some y → whole ≡ Some y
  on_read f o whole x y is h none gives = is ∙ ap (option_and_then (on_bare f)) h ∙ ap (λ bs. option_and_then f (bare_or x bs)) none ∙ gives

  by_cast : (e : Expr) (c : CastType) (env : Env) (v : Val) (z : ℤ) → (read items e).at env ≡ Some v → owned v ≡ [] → integer_of v ≡ Some z → (read items (expr.Cast e c)).at env ≡ Some (cast_integer c z)
  by_cast e c env v z h none i = on_read (cast_to c) ((read items e).at env) ((read items (expr.Cast e c)).at env) v (cast_integer c z) (ap (λ (r : Read). r.at env) (read-cast items e c)) h none (cast_is c v z i)

  by_method : (e : Expr) (m : Method) (env : Env) (x y : Val) → (read items e).at env ≡ Some x → owned x ≡ [] → called_on m x ≡ Some y → (read items (expr.Method e m)).at env ≡ Some y
  by_method e m env x y h none is = on_read (called_on m) ((read items e).at env) ((read items (expr.Method e m)).at env) x y (ap (λ (r : Read). r.at env) (read-method items e m)) h none is

  by_core : (f : CoreFn) (e : Expr) (env : Env) (x : Val) (y : Word) → (read items e).at env ≡ Some x → owned x ≡ [] → core_word f x ≡ Some y → Reads (core_call f e) env y
  by_core f e env x y h none is =
      let o = (read items e).at env in
      on_read (conversion items (core_function f)) o ((read items (core_call f e)).at env) x (val.Word y)
      (ap (λ (r : Read). r.at env) (read-call items (core_path f) (e ∷ [])) ∙ ap (λ c. option_and_then (on_bare (conversion items c)) o) (calls_core f)) h none (ap (option_map val.Word) is)

  -- the bits of a float, and the number in a slot
  float_bits : (e : Expr) (n : ℕ) (env : Env) → Reads e env (core.F32 n) → (read items (expr.Method e method.ToBits)).at env ≡ Some (u32_value n)
  float_bits e n env r = by_method e method.ToBits env (val.Word (core.F32 n)) (u32_value n) r refl (bits_of_f32 n)

  double_bits : (e : Expr) (n : ℕ) (env : Env) → Reads e env (core.F64 n) → (read items (expr.Method e method.ToBits)).at env ≡ Some (u64_value n)
  double_bits e n env r = by_method e method.ToBits env (val.Word (core.F64 n)) (u64_value n) r refl (bits_of_f64 n)

  slot_number : (e : Expr) (n : ℕ) (env : Env) → Reads e env (core.Slot (Some n)) → (read items (expr.Method e method.AssumeInit)).at env ≡ Some (u64_value n)
  slot_number e n env r = by_method e method.AssumeInit env (val.Word (core.Slot (Some n))) (u64_value n) r refl (bits_of_slot n)

  abbrev pub StepReads : WasmType → WasmType → Type 0
  StepReads from last =
      (e : Expr) (x : Word) (env : Env) → IsWord 2 from x → Reads e env x → Reads (step_expr (cast from last) e) env (word_of_bits 2 last (after_step 2 (cast from last) (bits_of x)))

  i32_i64 : StepReads wasm.I32 wasm.I64
  i32_i64 e (core.I32 z) env h r = by_core core_fn.I64From e env (val.Word (core.I32 z)) (core.I64 (low_i64 z)) r refl (from_i32 z) ∙ ap (λ n. Some (val.Word (core.I64 (cast_signed w64 n)))) (sym (sign_kept z h))
  i32_i64 e _ env h r = absurd h

  f32_i32 : StepReads wasm.F32 wasm.I32
  f32_i32 e (core.F32 n) env h r = by_cast (expr.Method e method.ToBits) to.I32 env (u32_value n) (pos n) (float_bits e n env r) (scalar_owns Scalar.u32 (pos n)) (u32_number n h)
  f32_i32 e _ env h r = absurd h

  f64_i64 : StepReads wasm.F64 wasm.I64
  f64_i64 e (core.F64 n) env h r = by_cast (expr.Method e method.ToBits) to.I64 env (u64_value n) (pos n) (double_bits e n env r) (scalar_owns Scalar.u64 (pos n)) (u64_number n h)
  f64_i64 e _ env h r = absurd h

  i64_i32 : StepReads wasm.I64 wasm.I32
  i64_i32 e (core.I64 z) env h r = by_cast e to.I32 env (val.Word (core.I64 z)) z r refl refl ∙ ap (λ n. Some (val.Word (core.I32 (cast_signed w32 n)))) (sym (again_32 (low_bits 64 z) ∙ low_half z))
  i64_i32 e _ env h r = absurd h

  i32_f32 : StepReads wasm.I32 wasm.F32
  i32_f32 e (core.I32 z) env h r =
      by_core core_fn.F32FromBits (expr.Cast e to.U32) env (cast_integer to.U32 z) (core.F32 (low_bits 32 z)) (by_cast e to.U32 env (val.Word (core.I32 z)) z r refl refl) (scalar_owns Scalar.u32 (low 32 z)) (f32_made z)
      ∙ ap (λ n. Some (val.Word (core.F32 n))) (sym (within_32 (low_bits 32 z) (below_32 z)))
  i32_f32 e _ env h r = absurd h

  i64_f32 : StepReads wasm.I64 wasm.F32
  i64_f32 e (core.I64 z) env h r =
      by_core core_fn.F32FromBits (expr.Cast e to.U32) env (cast_integer to.U32 z) (core.F32 (low_bits 32 z)) (by_cast e to.U32 env (val.Word (core.I64 z)) z r refl refl) (scalar_owns Scalar.u32 (low 32 z)) (f32_made z)
      ∙ ap (λ n. Some (val.Word (core.F32 n))) (sym (again_32 (low_bits 64 z) ∙ low_half z))
  i64_f32 e _ env h r = absurd h

  i64_f64 : StepReads wasm.I64 wasm.F64
  i64_f64 e (core.I64 z) env h r =
      by_core core_fn.F64FromBits (expr.Cast e to.U64) env (cast_integer to.U64 z) (core.F64 (low_bits 64 z)) (by_cast e to.U64 env (val.Word (core.I64 z)) z r refl refl) (scalar_owns Scalar.u64 (low 64 z)) (f64_made z)
      ∙ ap (λ n. Some (val.Word (core.F64 n))) (sym (within_64 (low_bits 64 z) (below_64 z)))
  i64_f64 e _ env h r = absurd h

  f32_i64 : StepReads wasm.F32 wasm.I64
  f32_i64 e (core.F32 n) env h r = by_core core_fn.I64From (expr.Method e method.ToBits) env (u32_value n) (core.I64 (low_i64 (pos n))) (float_bits e n env r) (scalar_owns Scalar.u32 (pos n)) (from_u32 n h)
  f32_i64 e _ env h r = absurd h

  i64_p64 : StepReads wasm.I64 wasm.PointerOrI64
  i64_p64 e (core.I64 z) env h r =
      by_core core_fn.NewSlot (expr.Cast e to.U64) env (cast_integer to.U64 z) (core.Slot (Some (low_bits 64 z))) (by_cast e to.U64 env (val.Word (core.I64 z)) z r refl refl) (scalar_owns Scalar.u64 (low 64 z)) (slot_made z)
      ∙ ap (λ n. Some (val.Word (core.Slot (Some n)))) (sym (within_64 (low_bits 64 z) (below_64 z)))
  i64_p64 e _ env h r = absurd h

  p64_i64 : StepReads wasm.PointerOrI64 wasm.I64
  p64_i64 e (core.Slot (Some n)) env h r = by_cast (expr.Method e method.AssumeInit) to.I64 env (u64_value n) (pos n) (slot_number e n env r) (scalar_owns Scalar.u64 (pos n)) (u64_number n h)
  p64_i64 e _ env h r = absurd h

  p64_p : StepReads wasm.PointerOrI64 wasm.Pointer
  p64_p e (core.Slot (Some n)) env h r = by_method e method.ReadPointer env (val.Word (core.Slot (Some n))) (slot_pointer n) r refl (pointer_of_slot n) ∙ ap (λ k. Some (val.Word (core.Pointer k))) (sym (again_32 n))
  p64_p e _ env h r = absurd h

  i32_p : StepReads wasm.I32 wasm.Pointer
  i32_p e (core.I32 z) env h r = by_cast e to.Pointer env (val.Word (core.I32 z)) z r refl refl ∙ ap (λ n. Some (val.Word (core.Pointer n))) (sym (as_wide (low_bits 32 z) (below_32 z)))
  i32_p e _ env h r = absurd h

  l_p : StepReads wasm.Length wasm.Pointer
  l_p e (core.Length n) env h r = by_cast e to.Pointer env (val.Word (core.Length n)) (pos n) r refl refl
  l_p e _ env h r = absurd h

  p_i32 : StepReads wasm.Pointer wasm.I32
  p_i32 e (core.Pointer n) env h r = by_cast e to.I32 env (val.Word (core.Pointer n)) (pos n) r refl refl ∙ ap (λ k. Some (val.Word (core.I32 (cast_signed w32 k)))) (sym (again_32 n))
  p_i32 e _ env h r = absurd h

  l_i32 : StepReads wasm.Length wasm.I32
  l_i32 e (core.Length n) env h r = by_cast e to.I32 env (val.Word (core.Length n)) (pos n) r refl refl ∙ ap (λ k. Some (val.Word (core.I32 (cast_signed w32 k)))) (sym (again_32 n))
  l_i32 e _ env h r = absurd h

  i32_l : StepReads wasm.I32 wasm.Length
  i32_l e (core.I32 z) env h r = by_cast e to.Usize env (val.Word (core.I32 z)) z r refl refl ∙ ap (λ n. Some (val.Word (core.Length n))) (sym (as_wide (low_bits 32 z) (below_32 z)))
  i32_l e _ env h r = absurd h

  i64_l : StepReads wasm.I64 wasm.Length
  i64_l e (core.I64 z) env h r = by_cast e to.Usize env (val.Word (core.I64 z)) z r refl refl ∙ ap (λ n. Some (val.Word (core.Length n))) (sym (again_32 (low_bits 64 z) ∙ low_half z))
  i64_l e _ env h r = absurd h

  p_l : StepReads wasm.Pointer wasm.Length
  p_l e (core.Pointer n) env h r = by_cast e to.Usize env (val.Word (core.Pointer n)) (pos n) r refl refl
  p_l e _ env h r = absurd h

  l_i64 : StepReads wasm.Length wasm.I64
  l_i64 e (core.Length n) env h r = by_cast e to.I64 env (val.Word (core.Length n)) (pos n) r refl refl
  l_i64 e _ env h r = absurd h

  -- 5. Two steps

  -- of a word that has the bits in between
  two_steps : (from through last : WasmType) → ((x : Word) → IsWord 2 from x → after_step 2 (cast from through) (bits_of x) < 2 ^ bits 2 through) → StepReads from through → StepReads through last
      → (e : Expr) (x : Word) (env : Env) → IsWord 2 from x → Reads e env x
      → Reads (step_expr (cast through last) (step_expr (cast from through) e)) env (word_of_bits 2 last (after_step 2 (cast through last) (after_step 2 (cast from through) (bits_of x))))
  two_steps from through last small one two e x env h r =
      let n = after_step 2 (cast from through) (bits_of x) in
      two (step_expr (cast from through) e) (word_of_bits 2 through n) env (word_fits through n) (one e x env h r) ∙ ap (λ k. Some (val.Word (word_of_bits 2 last (after_step 2 (cast through last) k)))) (bits_same through n (small x h))

  -- every cast but that which needs a slot
  pub cast_reads : (from last : WasmType) → AreInOrder from last → needs_slot (cast from last) ≡ false → (e : Expr) (x : Word) (env : Env) → IsWord 2 from x → Reads e env x
      → Reads (cast_expr (cast from last) e) env (word_of_bits 2 last (after_cast 2 (cast from last) (bits_of x)))
  cast_reads wasm.I32 wasm.I32 o s e x env h r = r ∙ ap (λ y. Some (val.Word y)) (sym (word_again wasm.I32 x h))
  cast_reads wasm.I32 wasm.I64 o s e x env h r = i32_i64 e x env h r
  cast_reads wasm.I32 wasm.F32 o s e x env h r = i32_f32 e x env h r
  cast_reads wasm.I32 wasm.F64 (inl o) s e x env h r = absurd cc
  cast_reads wasm.I32 wasm.F64 (inr o) s e x env h r = absurd cc
  cast_reads wasm.I32 wasm.Pointer o s e x env h r = i32_p e x env h r
  cast_reads wasm.I32 wasm.PointerOrI64 o s e x env h r = two_steps wasm.I32 wasm.I64 wasm.PointerOrI64 small_i32_i64 i32_i64 i64_p64 e x env h r
  cast_reads wasm.I32 wasm.Length o s e x env h r = i32_l e x env h r
  cast_reads wasm.I64 wasm.I32 o s e x env h r = i64_i32 e x env h r
  cast_reads wasm.I64 wasm.I64 o s e x env h r = r ∙ ap (λ y. Some (val.Word y)) (sym (word_again wasm.I64 x h))
  cast_reads wasm.I64 wasm.F32 o s e x env h r = i64_f32 e x env h r
  cast_reads wasm.I64 wasm.F64 o s e x env h r = i64_f64 e x env h r
  cast_reads wasm.I64 wasm.Pointer (inl o) s e x env h r = absurd cc
  cast_reads wasm.I64 wasm.Pointer (inr o) s e x env h r = absurd cc
  cast_reads wasm.I64 wasm.PointerOrI64 o s e x env h r = i64_p64 e x env h r
  cast_reads wasm.I64 wasm.Length o s e x env h r = i64_l e x env h r
  cast_reads wasm.F32 wasm.I32 o s e x env h r = f32_i32 e x env h r
  cast_reads wasm.F32 wasm.I64 o s e x env h r = f32_i64 e x env h r
  cast_reads wasm.F32 wasm.F32 o s e x env h r = r ∙ ap (λ y. Some (val.Word y)) (sym (word_again wasm.F32 x h))
  cast_reads wasm.F32 wasm.F64 (inl o) s e x env h r = absurd cc
  cast_reads wasm.F32 wasm.F64 (inr o) s e x env h r = absurd cc
  cast_reads wasm.F32 wasm.Pointer o s e x env h r = two_steps wasm.F32 wasm.I32 wasm.Pointer small_f32_i32 f32_i32 i32_p e x env h r
  cast_reads wasm.F32 wasm.PointerOrI64 o s e x env h r = two_steps wasm.F32 wasm.I64 wasm.PointerOrI64 small_f32_i64 f32_i64 i64_p64 e x env h r
  cast_reads wasm.F32 wasm.Length o s e x env h r = two_steps wasm.F32 wasm.I32 wasm.Length small_f32_i32 f32_i32 i32_l e x env h r
  cast_reads wasm.F64 wasm.I32 (inl o) s e x env h r = absurd cc
  cast_reads wasm.F64 wasm.I32 (inr o) s e x env h r = absurd cc
  cast_reads wasm.F64 wasm.I64 o s e x env h r = f64_i64 e x env h r
  cast_reads wasm.F64 wasm.F32 (inl o) s e x env h r = absurd cc
  cast_reads wasm.F64 wasm.F32 (inr o) s e x env h r = absurd cc
  cast_reads wasm.F64 wasm.F64 o s e x env h r = r ∙ ap (λ y. Some (val.Word y)) (sym (word_again wasm.F64 x h))
  cast_reads wasm.F64 wasm.Pointer (inl o) s e x env h r = absurd cc
  cast_reads wasm.F64 wasm.Pointer (inr o) s e x env h r = absurd cc
  cast_reads wasm.F64 wasm.PointerOrI64 o s e x env h r = two_steps wasm.F64 wasm.I64 wasm.PointerOrI64 small_f64_i64 f64_i64 i64_p64 e x env h r
  cast_reads wasm.F64 wasm.Length (inl o) s e x env h r = absurd cc
  cast_reads wasm.F64 wasm.Length (inr o) s e x env h r = absurd cc
  cast_reads wasm.Pointer wasm.I32 o s e x env h r = p_i32 e x env h r
  cast_reads wasm.Pointer wasm.I64 (inl o) s e x env h r = absurd cc
  cast_reads wasm.Pointer wasm.I64 (inr o) s e x env h r = absurd cc
  cast_reads wasm.Pointer wasm.F32 o s e x env h r = two_steps wasm.Pointer wasm.I32 wasm.F32 small_p_i32 p_i32 i32_f32 e x env h r
  cast_reads wasm.Pointer wasm.F64 (inl o) s e x env h r = absurd cc
  cast_reads wasm.Pointer wasm.F64 (inr o) s e x env h r = absurd cc
  cast_reads wasm.Pointer wasm.Pointer o s e x env h r = r ∙ ap (λ y. Some (val.Word y)) (sym (word_again wasm.Pointer x h))
  cast_reads wasm.Pointer wasm.PointerOrI64 o s e x env h r = absurd cc
  cast_reads wasm.Pointer wasm.Length o s e x env h r = p_l e x env h r
  cast_reads wasm.PointerOrI64 wasm.I32 o s e x env h r = two_steps wasm.PointerOrI64 wasm.I64 wasm.I32 small_p64_i64 p64_i64 i64_i32 e x env h r
  cast_reads wasm.PointerOrI64 wasm.I64 o s e x env h r = p64_i64 e x env h r
  cast_reads wasm.PointerOrI64 wasm.F32 o s e x env h r = two_steps wasm.PointerOrI64 wasm.I64 wasm.F32 small_p64_i64 p64_i64 i64_f32 e x env h r
  cast_reads wasm.PointerOrI64 wasm.F64 o s e x env h r = two_steps wasm.PointerOrI64 wasm.I64 wasm.F64 small_p64_i64 p64_i64 i64_f64 e x env h r
  cast_reads wasm.PointerOrI64 wasm.Pointer o s e x env h r = p64_p e x env h r
  cast_reads wasm.PointerOrI64 wasm.PointerOrI64 o s e x env h r = r ∙ ap (λ y. Some (val.Word y)) (sym (word_again wasm.PointerOrI64 x h))
  cast_reads wasm.PointerOrI64 wasm.Length o s e x env h r = two_steps wasm.PointerOrI64 wasm.I64 wasm.Length small_p64_i64 p64_i64 i64_l e x env h r
  cast_reads wasm.Length wasm.I32 o s e x env h r = l_i32 e x env h r
  cast_reads wasm.Length wasm.I64 o s e x env h r = l_i64 e x env h r
  cast_reads wasm.Length wasm.F32 o s e x env h r = two_steps wasm.Length wasm.I32 wasm.F32 small_l_i32 l_i32 i32_f32 e x env h r
  cast_reads wasm.Length wasm.F64 (inl o) s e x env h r = absurd cc
  cast_reads wasm.Length wasm.F64 (inr o) s e x env h r = absurd cc
  cast_reads wasm.Length wasm.Pointer o s e x env h r = l_p e x env h r
  cast_reads wasm.Length wasm.PointerOrI64 o s e x env h r = two_steps wasm.Length wasm.I64 wasm.PointerOrI64 small_l_i64 l_i64 i64_p64 e x env h r
  cast_reads wasm.Length wasm.Length o s e x env h r = r ∙ ap (λ y. Some (val.Word y)) (sym (word_again wasm.Length x h))
