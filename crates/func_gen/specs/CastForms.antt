-- The expressions of constants, and those of casts of core words, with the slots that they need.
use Rattle.std.specs.Prelude.{ℕ, ◌+◌, pos, Bool, true, false, List, [], ◌∷◌, ◌++◌, codes, map}
use Rattle.wit_model.specs.Bytes.{Bytes}
use Rattle.wit_model.specs.declared.wasm_type.WasmType.{WasmType}
use Rattle.wit_model.specs.declared.wasm_type.WasmType.TheVariants as wasm
use Rattle.wit_layout.specs.Cast.{cast}
use Rattle.wit_layout.specs.Join.{AreInOrder}
use Rattle.wit_layout.specs.declared.bitcast.Bitcast.{Bitcast}
use Rattle.wit_layout.specs.declared.bitcast.Bitcast.TheVariants as bitcast
use Rattle.rust_tree.specs.declared.expr.CastType.TheVariants as to
use Rattle.rust_tree.specs.declared.expr.Expr.{Expr}
use Rattle.rust_tree.specs.declared.expr.Expr.TheVariants as expr
use Rattle.rust_tree.specs.declared.expr.Method.TheVariants as method
use Rattle.rust_tree.specs.declared.expr.ZeroType.TheVariants as zero_of
use Rattle.rust_tree.specs.declared.path.Path.{Path}
use Rattle.rust_tree.specs.declared.stmt.Stmt.{Stmt}
use Rattle.rust_tree.specs.declared.stmt.Stmt.TheVariants as stmt
use Rattle.wrapper_values.specs.declared.core_words.CoreFn.{CoreFn}
use Rattle.wrapper_values.specs.declared.core_words.CoreFn.TheVariants as core_fn
use Rattle.func_gen.specs.declared.operand.ExprOperand.{ExprOperand}
use Rattle.func_gen.specs.Emission.{Emission}
use Rattle.func_gen.specs.Forms.{operand_of}
use Rattle.func_gen.specs.PartForms.{part_name}

-- 1. Constants

-- the zero of a core type
abbrev pub zero_expr : WasmType → Expr
zero_expr wasm.I32 = expr.I32Const (pos 0)
zero_expr wasm.I64 = expr.Zero zero_of.I64
zero_expr wasm.F32 = expr.Zero zero_of.F32
zero_expr wasm.F64 = expr.Zero zero_of.F64
zero_expr wasm.Pointer = expr.Zero zero_of.Pointer
zero_expr wasm.PointerOrI64 = expr.Zero zero_of.PointerOrI64
zero_expr wasm.Length = expr.Zero zero_of.Length

abbrev pub zero_operands : List WasmType → List ExprOperand
zero_operands types = map (λ ty. operand_of (zero_expr ty)) types

abbrev pub zeros : List WasmType → ℕ → Emission
zeros types t = record { names = []; stmts = []; results = map zero_expr types; items = [] }

-- 2. Functions of the core library

unfoldable pub from_names : List Bytes
from_names = codes "i64" ∷ codes "from" ∷ []

unfoldable pub f32_names : List Bytes
f32_names = codes "f32" ∷ codes "from_bits" ∷ []

unfoldable pub f64_names : List Bytes
f64_names = codes "f64" ∷ codes "from_bits" ∷ []

unfoldable pub new_slot_names : List Bytes
new_slot_names = codes "core" ∷ codes "mem" ∷ codes "MaybeUninit" ∷ codes "new" ∷ []

abbrev pub core_path : CoreFn → Path
core_path core_fn.I64From = record { lead = false; supers = 0; names = from_names }
core_path core_fn.F32FromBits = record { lead = false; supers = 0; names = f32_names }
core_path core_fn.F64FromBits = record { lead = false; supers = 0; names = f64_names }
core_path core_fn.NewSlot = record { lead = true; supers = 0; names = new_slot_names }

abbrev pub core_call : CoreFn → Expr → Expr
core_call f e = expr.Call (core_path f) (e ∷ [])

-- 3. Casts

-- each step of a cast that is a sequence is one between types of which one joins the other
abbrev pub HasSteps : Bitcast → Type 0
HasSteps (bitcast.Sequence from through last) = AreInOrder from through × AreInOrder through last
HasSteps _ = Unit {0}

-- a cast that is no sequence. What is put into a slot is the pointer as it is
abbrev pub step_expr : Bitcast → Expr → Expr
step_expr bitcast.I32ToI64 e = core_call core_fn.I64From e
step_expr bitcast.F32ToI32 e = expr.Cast (expr.Method e method.ToBits) to.I32
step_expr bitcast.F64ToI64 e = expr.Cast (expr.Method e method.ToBits) to.I64
step_expr bitcast.I64ToI32 e = expr.Cast e to.I32
step_expr bitcast.I32ToF32 e = core_call core_fn.F32FromBits (expr.Cast e to.U32)
step_expr bitcast.I64ToF32 e = core_call core_fn.F32FromBits (expr.Cast e to.U32)
step_expr bitcast.I64ToF64 e = core_call core_fn.F64FromBits (expr.Cast e to.U64)
step_expr bitcast.F32ToI64 e = core_call core_fn.I64From (expr.Method e method.ToBits)
step_expr bitcast.I64ToP64 e = core_call core_fn.NewSlot (expr.Cast e to.U64)
step_expr bitcast.P64ToI64 e = expr.Cast (expr.Method e method.AssumeInit) to.I64
step_expr bitcast.P64ToP e = expr.Method e method.ReadPointer
step_expr bitcast.I32ToP e = expr.Cast e to.Pointer
step_expr bitcast.LToP e = expr.Cast e to.Pointer
step_expr bitcast.PToI32 e = expr.Cast e to.I32
step_expr bitcast.LToI32 e = expr.Cast e to.I32
step_expr bitcast.I32ToL e = expr.Cast e to.Usize
step_expr bitcast.I64ToL e = expr.Cast e to.Usize
step_expr bitcast.PToL e = expr.Cast e to.Usize
step_expr bitcast.LToI64 e = expr.Cast e to.I64
step_expr _ e = e

abbrev pub cast_expr : Bitcast → Expr → Expr
cast_expr (bitcast.Sequence from through last) e = step_expr (cast through last) (step_expr (cast from through) e)
cast_expr c e = step_expr c e

-- 4. Slots

unfoldable pub slot_prefix : Bytes
slot_prefix = codes "slot"

-- the pointer is put into a local, whose name tells the place of the cast
abbrev pub needs_slot : Bitcast → Bool
needs_slot bitcast.PToP64 = true
needs_slot _ = false

abbrev pub cast_names : Bool → Bytes → List Bytes
cast_names true slot = slot ∷ []
cast_names false slot = []

abbrev pub cast_stmts : Bool → Bytes → Expr → List Stmt
cast_stmts true slot e = stmt.LetSlot slot ∷ stmt.WriteSlot slot e ∷ []
cast_stmts false slot e = []

abbrev pub cast_result : Bool → Bytes → Expr → Expr
cast_result true slot e = expr.Local slot
cast_result false slot e = e

abbrev pub slots_from : ℕ → List Bitcast → ℕ → List Bytes
slots_from at [] t = []
slots_from at (c ∷ cs) t = cast_names (needs_slot c) (part_name slot_prefix t at) ++ slots_from (at + 1) cs t

abbrev pub stmts_from : ℕ → List Bitcast → List Expr → ℕ → List Stmt
stmts_from at (c ∷ cs) (e ∷ es) t = cast_stmts (needs_slot c) (part_name slot_prefix t at) (cast_expr c e) ++ stmts_from (at + 1) cs es t
stmts_from at _ _ t = []

abbrev pub casts_from : ℕ → List Bitcast → List Expr → ℕ → List Expr
casts_from at (c ∷ cs) (e ∷ es) t = cast_result (needs_slot c) (part_name slot_prefix t at) (cast_expr c e) ∷ casts_from (at + 1) cs es t
casts_from at _ _ t = []

abbrev pub casts : List Bitcast → List Expr → ℕ → Emission
casts cs es t = record { names = slots_from 0 cs t; stmts = stmts_from 0 cs es t; results = casts_from 0 cs es t; items = [] }
