-- What is emitted for instructions that are told by a table.
use Rattle.std.proofs.Common.{◌≡◌, ℕ, true, [], ◌∷◌, Option, Some, refl, sym, ap, ◌∙◌}
use Rattle.std.specs.Prelude.{codes, option_map}
use Rattle.wit_model.specs.Bytes.{Bytes}
use Rattle.wit_model.specs.declared.size.ArchitectureSize.{ArchitectureSize}
use Rattle.wit_model.specs.declared.wasm_type.WasmType.{WasmType}
use Rattle.rust_tree.specs.declared.expr.CastType.{CastType}
use Rattle.rust_tree.specs.declared.expr.Expr.{Expr, Expr-F, fold-roll-Expr}
use Rattle.rust_tree.specs.declared.expr.Expr.TheVariants as expr
use Rattle.rust_tree.specs.declared.expr.Expr.TheVariants.{rolls-Local}
use Rattle.rust_tree.specs.declared.expr.SmallType.{SmallType}
use Rattle.rust_tree.specs.declared.runtime_item.RuntimeItem.{RuntimeItem}
use Rattle.rust_tree.specs.declared.stmt.Stmt.TheVariants as stmt
use Rattle.abi_bindgen.specs.declared.instruction.Instruction.{Instruction}
use Rattle.abi_bindgen.specs.declared.instruction.Instruction.TheVariants.{CoreF32FromF32, CoreF64FromF64, F32FromCoreF32, F32Load, F32Store, F64FromCoreF64, F64Load, F64Store, I32FromChar, I32FromS16, I32FromS32, I32FromS8, I32FromU16, I32FromU32, I32FromU8, I32Load, I32Load16S, I32Load16U, I32Load8S, I32Load8U, I32Store, I32Store16, I32Store8, I64FromS64, I64FromU64, I64Load, I64Store, LengthLoad, LengthStore, PointerLoad, PointerStore, S16FromI32, S32FromI32, S64FromI64, S8FromI32, U16FromI32, U32FromI32, U64FromI64, U8FromI32}
use Rattle.abi_bindgen.specs.Sent.{sends}
use Rattle.func_gen.specs.declared.function_bindgen.FunctionBindgen.{FunctionBindgen}
use Rattle.func_gen.specs.CodeOf.{context, emitted, local_of, local_step}
use Rattle.func_gen.specs.Emission.{Emission, one_local, converted, effect, alone}
use Rattle.func_gen.specs.Forms.{conversion, is_kept, number_cast}
use Rattle.func_gen.specs.MemoryForms.{small_load, small_store, whole_load, whole_store}

pub local_is : (name : Bytes) → local_of (expr.Local name) ≡ Some name
local_is name = ap local_of (sym (rolls-Local name)) ∙ fold-roll-Expr (Option Bytes) local_step (Expr-F.Local name)

abbrev by_conversion : Expr → RuntimeItem → ℕ → Emission
by_conversion a f t = converted f a

pub conversion_emitted : (b : FunctionBindgen) (i : Instruction) (f : RuntimeItem) (a : Expr) → conversion i ≡ Some f → emitted (context b) (sends i) (a ∷ []) ≡ Some (λ t. converted f a)
conversion_emitted b I32FromU8 f a h = ap (option_map (by_conversion a)) h
conversion_emitted b I32FromS8 f a h = ap (option_map (by_conversion a)) h
conversion_emitted b I32FromU16 f a h = ap (option_map (by_conversion a)) h
conversion_emitted b I32FromS16 f a h = ap (option_map (by_conversion a)) h
conversion_emitted b I32FromU32 f a h = ap (option_map (by_conversion a)) h
conversion_emitted b I32FromS32 f a h = ap (option_map (by_conversion a)) h
conversion_emitted b I32FromChar f a h = ap (option_map (by_conversion a)) h
conversion_emitted b I64FromU64 f a h = ap (option_map (by_conversion a)) h
conversion_emitted b I64FromS64 f a h = ap (option_map (by_conversion a)) h
conversion_emitted b CoreF32FromF32 f a h = ap (option_map (by_conversion a)) h
conversion_emitted b CoreF64FromF64 f a h = ap (option_map (by_conversion a)) h
conversion_emitted b _ f a h = absurd (let e = h in cc)

abbrev by_cast : Expr → CastType → ℕ → Emission
by_cast a to t = alone (expr.Cast a to)

pub cast_emitted : (b : FunctionBindgen) (i : Instruction) (to : CastType) (a : Expr) → number_cast i ≡ Some to → emitted (context b) (sends i) (a ∷ []) ≡ Some (λ t. alone (expr.Cast a to))
cast_emitted b U8FromI32 to a h = ap (option_map (by_cast a)) h
cast_emitted b S8FromI32 to a h = ap (option_map (by_cast a)) h
cast_emitted b U16FromI32 to a h = ap (option_map (by_cast a)) h
cast_emitted b S16FromI32 to a h = ap (option_map (by_cast a)) h
cast_emitted b U32FromI32 to a h = ap (option_map (by_cast a)) h
cast_emitted b U64FromI64 to a h = ap (option_map (by_cast a)) h
cast_emitted b _ to a h = absurd (let e = h in cc)

pub kept_emitted : (b : FunctionBindgen) (i : Instruction) (a : Expr) → is_kept i ≡ true → emitted (context b) (sends i) (a ∷ []) ≡ Some (λ t. alone a)
kept_emitted b S32FromI32 a h = refl
kept_emitted b S64FromI64 a h = refl
kept_emitted b F32FromCoreF32 a h = refl
kept_emitted b F64FromCoreF64 a h = refl
kept_emitted b _ a h = absurd (let e = h in cc)

abbrev loaded : Expr → ArchitectureSize × WasmType → ℕ → Emission
loaded a q = one_local (codes "l") (expr.Load a q.0 q.1) []

pub whole_load_emitted : (b : FunctionBindgen) (i : Instruction) (q : ArchitectureSize × WasmType) (a : Expr) → whole_load i ≡ Some q → emitted (context b) (sends i) (a ∷ []) ≡ Some (one_local (codes "l") (expr.Load a q.0 q.1) [])
whole_load_emitted b (I32Load o) q a h = ap (option_map (loaded a)) h
whole_load_emitted b (I64Load o) q a h = ap (option_map (loaded a)) h
whole_load_emitted b (F32Load o) q a h = ap (option_map (loaded a)) h
whole_load_emitted b (F64Load o) q a h = ap (option_map (loaded a)) h
whole_load_emitted b (PointerLoad o) q a h = ap (option_map (loaded a)) h
whole_load_emitted b (LengthLoad o) q a h = ap (option_map (loaded a)) h
whole_load_emitted b _ q a h = absurd (let e = h in cc)

abbrev loaded_low : Expr → ArchitectureSize × SmallType → ℕ → Emission
loaded_low a q = one_local (codes "l") (expr.LoadSmall a q.0 q.1) []

pub small_load_emitted : (b : FunctionBindgen) (i : Instruction) (q : ArchitectureSize × SmallType) (a : Expr) → small_load i ≡ Some q → emitted (context b) (sends i) (a ∷ []) ≡ Some (one_local (codes "l") (expr.LoadSmall a q.0 q.1) [])
small_load_emitted b (I32Load8U o) q a h = ap (option_map (loaded_low a)) h
small_load_emitted b (I32Load8S o) q a h = ap (option_map (loaded_low a)) h
small_load_emitted b (I32Load16U o) q a h = ap (option_map (loaded_low a)) h
small_load_emitted b (I32Load16S o) q a h = ap (option_map (loaded_low a)) h
small_load_emitted b _ q a h = absurd (let e = h in cc)

abbrev stored : Expr → Expr → ArchitectureSize × WasmType → ℕ → Emission
stored a at q t = effect (stmt.Store at q.0 q.1 a) []

pub whole_store_emitted : (b : FunctionBindgen) (i : Instruction) (q : ArchitectureSize × WasmType) (a at : Expr) → whole_store i ≡ Some q → emitted (context b) (sends i) (a ∷ at ∷ []) ≡ Some (λ t. effect (stmt.Store at q.0 q.1 a) [])
whole_store_emitted b (I32Store o) q a at h = ap (option_map (stored a at)) h
whole_store_emitted b (I64Store o) q a at h = ap (option_map (stored a at)) h
whole_store_emitted b (F32Store o) q a at h = ap (option_map (stored a at)) h
whole_store_emitted b (F64Store o) q a at h = ap (option_map (stored a at)) h
whole_store_emitted b (PointerStore o) q a at h = ap (option_map (stored a at)) h
whole_store_emitted b (LengthStore o) q a at h = ap (option_map (stored a at)) h
whole_store_emitted b _ q a at h = absurd (let e = h in cc)

abbrev stored_low : Expr → Expr → ArchitectureSize × SmallType → ℕ → Emission
stored_low a at q t = effect (stmt.StoreSmall at q.0 q.1 a) []

pub small_store_emitted : (b : FunctionBindgen) (i : Instruction) (q : ArchitectureSize × SmallType) (a at : Expr) → small_store i ≡ Some q → emitted (context b) (sends i) (a ∷ at ∷ []) ≡ Some (λ t. effect (stmt.StoreSmall at q.0 q.1 a) [])
small_store_emitted b (I32Store8 o) q a at h = ap (option_map (stored_low a at)) h
small_store_emitted b (I32Store16 o) q a at h = ap (option_map (stored_low a at)) h
small_store_emitted b _ q a at h = absurd (let e = h in cc)
