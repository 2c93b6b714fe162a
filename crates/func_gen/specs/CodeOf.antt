-- What each step becomes.
use Rattle.std.specs.Prelude.{ℕ, Bool, true, false, List, [], ◌∷◌, codes, zip, Option, None, Some, option_and_then, option_map, slice_get}
use Rattle.wit_model.specs.Bytes.{Bytes}
use Rattle.wit_model.specs.declared.function.Function.{Function}
use Rattle.wit_model.specs.declared.wasm_type.WasmType.{WasmType}
use Rattle.wit_model.specs.declared.wasm_type.WasmType.TheVariants as wasm
use Rattle.rust_tree.specs.declared.expr.CastType.TheVariants as cast
use Rattle.rust_tree.specs.declared.expr.Expr.{Expr, Expr-F, fold-Expr}
use Rattle.rust_tree.specs.declared.expr.Expr.TheVariants as expr
use Rattle.rust_tree.specs.declared.expr.SmallType.TheVariants as small
use Rattle.rust_tree.specs.declared.pattern.Pattern.TheVariants as pattern
use Rattle.rust_tree.specs.declared.runtime_item.RuntimeItem.TheVariants.{AsF32, AsF64, AsI32, AsI64, BoolLift, CabiDealloc, CharLift}
use Rattle.rust_tree.specs.declared.stmt.Stmt.TheVariants as stmt
use Rattle.abi_bindgen.specs.declared.instruction.Instruction.TheVariants.{Bitcasts, BoolFromI32, CharFromI32, ConstZero, CoreF32FromF32, CoreF64FromF64, EnumLift, EnumLower, F32FromCoreF32, F32Load, F32Store, F64FromCoreF64, F64Load, F64Store, FlagsLift, FlagsLower, Flush, GetArg, GuestDeallocate, GuestDeallocateString, I32Const, I32FromBool, I32FromChar, I32FromS16, I32FromS32, I32FromS8, I32FromU16, I32FromU32, I32FromU8, I32Load, I32Load16S, I32Load16U, I32Load8S, I32Load8U, I32Store, I32Store16, I32Store8, I64FromS64, I64FromU64, I64Load, I64Store, IterBasePointer, IterElem, IterMapKey, IterMapValue, LengthLoad, LengthStore, PointerLoad, PointerStore, RecordLift, RecordLower, Return, S16FromI32, S32FromI32, S64FromI64, S8FromI32, StringLift, StringLower, TupleLift, TupleLower, U16FromI32, U32FromI32, U64FromI64, U8FromI32, VariantPayloadName}
use Rattle.abi_bindgen.specs.Meaning.{Name, the_base, the_element, the_key, the_payload, the_value}
use Rattle.abi_bindgen.specs.Sent.{Sent, asks, sends}
use Rattle.func_gen.specs.declared.function_bindgen.FunctionBindgen.{FunctionBindgen}
use Rattle.func_gen.specs.declared.function_bindgen.OpenBlock.{OpenBlock}
use Rattle.func_gen.specs.declared.function_bindgen.ParamSite.{ParamSite}
use Rattle.func_gen.specs.declared.record_site.RecordSite.{RecordSite}
use Rattle.func_gen.specs.declared.type_site.TypeSite.{TypeSite}
use Rattle.func_gen.specs.Area.{pointer_to}
use Rattle.func_gen.specs.CallForms.{import_name, import_of, local_path, ret_name}
use Rattle.func_gen.specs.CastForms.{casts, zeros}
use Rattle.func_gen.specs.Emission.{Emission, one_local, converted, all_locals, effect, alone, nothing}
use Rattle.func_gen.specs.EnumForms.{enum_at, lifts_enum}
use Rattle.func_gen.specs.FlagsForms.{flags_at, lifts_flags, lowers_flags}
use Rattle.func_gen.specs.FlushForms.{flush_prefix, lets_of}
use Rattle.func_gen.specs.Forms.{runtime_call}
use Rattle.func_gen.specs.MemoryForms.{block_freed, text_freed}
use Rattle.func_gen.specs.Opened.{innermost}
use Rattle.func_gen.specs.PartForms.{names_from, part_prefix}
use Rattle.func_gen.specs.RecordForms.{locals_for, record_at}
use Rattle.func_gen.specs.Slot.{slot_name}
use Rattle.func_gen.specs.TextForms.{buffer_names, buffer_stmts, given_stmts, len_name, ptr_name, taken_names, taken_stmts, taking_items, text_name}

-- 1. Forms of several statements

-- a local by itself
abbrev pub local_step : Expr-F (Option Bytes) → Option Bytes
local_step (Expr-F.Local name) = Some name
local_step _ = None

abbrev pub local_of : Expr → Option Bytes
local_of = fold-Expr (Option Bytes) local_step

abbrev pub lends_text : Expr → ℕ → Emission
lends_text e t = record { names = buffer_names t; stmts = buffer_stmts t e; results = expr.CastMut (ptr_name t) ∷ expr.Local (len_name t) ∷ []; items = [] }

abbrev pub hands_text : Bytes → ℕ → Emission
hands_text name t = record { names = buffer_names t; stmts = given_stmts t name; results = expr.CastMut (ptr_name t) ∷ expr.Local (len_name t) ∷ []; items = [] }

-- only a local denotes a text that may be given away: any other operand is lent
abbrev pub gives_text : Expr → Option Bytes → ℕ → Emission
gives_text e None = lends_text e
gives_text e (Some name) = hands_text name

abbrev pub takes_text : (address n : Expr) → ℕ → Emission
takes_text address n t = record { names = taken_names t; stmts = taken_stmts t address n; results = expr.Local (text_name t) ∷ []; items = taking_items }

abbrev pub flushes : ℕ → List Expr → ℕ → Emission
flushes n es t = all_locals (names_from flush_prefix t 0 n) (lets_of (names_from flush_prefix t 0 n) es)

abbrev pub splits_tuple : ℕ → Expr → ℕ → Emission
splits_tuple n e t = all_locals (names_from part_prefix t 0 n) (stmt.LetParts (pattern.Tuple (names_from part_prefix t 0 n)) e ∷ [])

abbrev pub splits_record : Expr → RecordSite → ℕ → Emission
splits_record e site t = all_locals (locals_for site.fields t) (stmt.LetParts (pattern.Record site.lowered (zip site.fields (locals_for site.fields t))) e ∷ [])

abbrev pub makes_record : List Expr → RecordSite → ℕ → Emission
makes_record es site t = one_local (codes "record") (expr.Record site.lifted (zip site.fields es)) [] t

-- the names of the core import, and of what it answers
abbrev pub calls_core : (home : Bytes) → Function → List WasmType → Option WasmType → List Expr → ℕ → Emission
calls_core home f params None es t = record {
  names = import_name t ∷ [];
  stmts = stmt.Import (import_of home f params None (import_name t)) ∷ stmt.Expr (expr.Call (local_path (import_name t)) es) ∷ [];
  results = [];
  items = [];
}
calls_core home f params (Some ty) es t = record {
  names = import_name t ∷ ret_name t ∷ [];
  stmts = stmt.Import (import_of home f params (Some ty) (import_name t)) ∷ stmt.Let (ret_name t) (expr.Call (local_path (import_name t)) es) ∷ [];
  results = expr.Local (ret_name t) ∷ [];
  items = [];
}

-- the local of a name of the innermost open block
abbrev pub names_local : List OpenBlock → Name → Option (ℕ → Emission)
names_local opened name = option_map (λ (k : ℕ). λ t. alone (expr.Local (slot_name name k))) (innermost opened)

-- 2. Each step, by the expressions of its operands. Of calls there is none here: the core words of one are those of the table's types.
-- Flags are made of one word at least

-- what its code depends on besides
pub record Context : Type 0 where
  pub import : Bool
  pub area : Bytes
  pub params : List ParamSite
  pub sites : List (Option TypeSite)
  pub opened : List OpenBlock

abbrev pub context : FunctionBindgen → Context
context b = record { import = b.import; area = b.area; params = b.params; sites = b.sites; opened = b.opened }

abbrev pub emitted : Context → Sent → List Expr → Option (ℕ → Emission)
emitted b (asks room) [] = Some (one_local (codes "ptr") (pointer_to b.import b.area) [])
emitted b (sends (GetArg n)) [] = option_map (λ (p : ParamSite). λ t. alone p.operand.expr) (slice_get b.params n)
emitted b (sends (I32Const n)) [] = Some (λ t. alone (expr.I32Const n))
emitted b (sends (ConstZero types)) [] = Some (zeros types.now)
emitted b (sends (Bitcasts cs)) es = Some (casts cs.now es)
emitted b (sends I32FromU8) (a ∷ []) = Some (λ t. converted AsI32 a)
emitted b (sends I32FromS8) (a ∷ []) = Some (λ t. converted AsI32 a)
emitted b (sends I32FromU16) (a ∷ []) = Some (λ t. converted AsI32 a)
emitted b (sends I32FromS16) (a ∷ []) = Some (λ t. converted AsI32 a)
emitted b (sends I32FromU32) (a ∷ []) = Some (λ t. converted AsI32 a)
emitted b (sends I32FromS32) (a ∷ []) = Some (λ t. converted AsI32 a)
emitted b (sends I32FromChar) (a ∷ []) = Some (λ t. converted AsI32 a)
emitted b (sends I64FromU64) (a ∷ []) = Some (λ t. converted AsI64 a)
emitted b (sends I64FromS64) (a ∷ []) = Some (λ t. converted AsI64 a)
emitted b (sends CoreF32FromF32) (a ∷ []) = Some (λ t. converted AsF32 a)
emitted b (sends CoreF64FromF64) (a ∷ []) = Some (λ t. converted AsF64 a)
emitted b (sends S32FromI32) (a ∷ []) = Some (λ t. alone a)
emitted b (sends S64FromI64) (a ∷ []) = Some (λ t. alone a)
emitted b (sends F32FromCoreF32) (a ∷ []) = Some (λ t. alone a)
emitted b (sends F64FromCoreF64) (a ∷ []) = Some (λ t. alone a)
emitted b (sends S8FromI32) (a ∷ []) = Some (λ t. alone (expr.Cast a cast.I8))
emitted b (sends U8FromI32) (a ∷ []) = Some (λ t. alone (expr.Cast a cast.U8))
emitted b (sends S16FromI32) (a ∷ []) = Some (λ t. alone (expr.Cast a cast.I16))
emitted b (sends U16FromI32) (a ∷ []) = Some (λ t. alone (expr.Cast a cast.U16))
emitted b (sends U32FromI32) (a ∷ []) = Some (λ t. alone (expr.Cast a cast.U32))
emitted b (sends U64FromI64) (a ∷ []) = Some (λ t. alone (expr.Cast a cast.U64))
emitted b (sends CharFromI32) (a ∷ []) = Some (one_local (codes "c") (runtime_call CharLift (expr.Cast a cast.U32)) (CharLift ∷ []))
emitted b (sends I32FromBool) (a ∷ []) = Some (one_local (codes "b") (expr.I32FromBool a) [])
emitted b (sends BoolFromI32) (a ∷ []) = Some (one_local (codes "b") (runtime_call BoolLift (expr.Cast a cast.U8)) (BoolLift ∷ []))
emitted b (sends (RecordLower id)) (a ∷ []) = option_map (splits_record a) (record_at b.sites id.0)
emitted b (sends (RecordLift id)) es = option_map (makes_record es) (record_at b.sites id.0)
emitted b (sends (EnumLower id)) (a ∷ []) = Some (λ t. alone (expr.EnumNumber a))
emitted b (sends (EnumLift id)) (a ∷ []) = option_and_then (lifts_enum a) (enum_at b.sites id.0)
emitted b (sends (FlagsLower id)) (a ∷ []) = option_map (lowers_flags a) (flags_at b.sites id.0)
emitted b (sends (FlagsLift id)) (w ∷ es) = option_map (lifts_flags (w ∷ es)) (flags_at b.sites id.0)
emitted b (sends (TupleLower n)) (a ∷ []) = Some (splits_tuple n a)
emitted b (sends (TupleLift n)) es = Some (one_local (codes "tuple") (expr.Tuple es) [])
emitted b (sends (StringLower false)) (a ∷ []) = Some (lends_text a)
emitted b (sends (StringLower true)) (a ∷ []) = Some (gives_text a (local_of a))
emitted b (sends StringLift) (a ∷ n ∷ []) = Some (takes_text a n)
emitted b (sends (Flush n)) es = Some (flushes n es)
emitted b (sends (Return n)) es = Some (λ t. nothing)
emitted b (sends (I32Load8U o)) (a ∷ []) = Some (one_local (codes "l") (expr.LoadSmall a o small.U8) [])
emitted b (sends (I32Load8S o)) (a ∷ []) = Some (one_local (codes "l") (expr.LoadSmall a o small.I8) [])
emitted b (sends (I32Load16U o)) (a ∷ []) = Some (one_local (codes "l") (expr.LoadSmall a o small.U16) [])
emitted b (sends (I32Load16S o)) (a ∷ []) = Some (one_local (codes "l") (expr.LoadSmall a o small.I16) [])
emitted b (sends (I32Load o)) (a ∷ []) = Some (one_local (codes "l") (expr.Load a o wasm.I32) [])
emitted b (sends (I64Load o)) (a ∷ []) = Some (one_local (codes "l") (expr.Load a o wasm.I64) [])
emitted b (sends (F32Load o)) (a ∷ []) = Some (one_local (codes "l") (expr.Load a o wasm.F32) [])
emitted b (sends (F64Load o)) (a ∷ []) = Some (one_local (codes "l") (expr.Load a o wasm.F64) [])
emitted b (sends (PointerLoad o)) (a ∷ []) = Some (one_local (codes "l") (expr.Load a o wasm.Pointer) [])
emitted b (sends (LengthLoad o)) (a ∷ []) = Some (one_local (codes "l") (expr.Load a o wasm.Length) [])
emitted b (sends (I32Store8 o)) (a ∷ at ∷ []) = Some (λ t. effect (stmt.StoreSmall at o small.U8 a) [])
emitted b (sends (I32Store16 o)) (a ∷ at ∷ []) = Some (λ t. effect (stmt.StoreSmall at o small.U16 a) [])
emitted b (sends (I32Store o)) (a ∷ at ∷ []) = Some (λ t. effect (stmt.Store at o wasm.I32 a) [])
emitted b (sends (I64Store o)) (a ∷ at ∷ []) = Some (λ t. effect (stmt.Store at o wasm.I64 a) [])
emitted b (sends (F32Store o)) (a ∷ at ∷ []) = Some (λ t. effect (stmt.Store at o wasm.F32 a) [])
emitted b (sends (F64Store o)) (a ∷ at ∷ []) = Some (λ t. effect (stmt.Store at o wasm.F64 a) [])
emitted b (sends (PointerStore o)) (a ∷ at ∷ []) = Some (λ t. effect (stmt.Store at o wasm.Pointer a) [])
emitted b (sends (LengthStore o)) (a ∷ at ∷ []) = Some (λ t. effect (stmt.Store at o wasm.Length a) [])
emitted b (sends (GuestDeallocate size align)) (a ∷ []) = Some (λ t. effect (stmt.Expr (block_freed a size align)) (CabiDealloc ∷ []))
emitted b (sends GuestDeallocateString) (a ∷ n ∷ []) = Some (λ t. effect (stmt.Expr (text_freed a n)) (CabiDealloc ∷ []))
emitted b (sends VariantPayloadName) [] = names_local b.opened the_payload
emitted b (sends IterElem) [] = names_local b.opened the_element
emitted b (sends IterMapKey) [] = names_local b.opened the_key
emitted b (sends IterMapValue) [] = names_local b.opened the_value
emitted b (sends IterBasePointer) [] = names_local b.opened the_base
emitted b _ es = None
