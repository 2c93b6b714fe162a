-- What a step emits has identifiers alone as names, where all names before it are.
use Rattle.std.proofs.Common.{◌≡◌, ℕ, zero, suc, ◌+◌, Bool, true, false, ◌&&◌, List, [], ◌∷◌, map, Option, None, Some, refl, sym, ap, ◌∙◌, subst, zip}
use Rattle.std.specs.Prelude.{codes, option_and_then, option_map, slice_get}
use Rattle.std.specs.List.{AllByRecursion, list_all}
use Rattle.std.proofs.lemmas.Bool.{and_parts}
use Rattle.wit_model.specs.Bytes.{Bytes}
use Rattle.wit_model.specs.declared.size.ArchitectureSize.{ArchitectureSize}
use Rattle.wit_model.specs.declared.wasm_type.WasmType.{WasmType}
use Rattle.wit_model.specs.declared.wasm_type.WasmType.TheVariants as wasm
use Rattle.wit_layout.specs.declared.bitcast.Bitcast.{Bitcast}
use Rattle.wit_layout.specs.declared.bitcast.Bitcast.TheVariants as bitcast
use Rattle.rust_tree.specs.declared.expr.CastType.{CastType}
use Rattle.rust_tree.specs.declared.expr.CastType.TheVariants as cast
use Rattle.rust_tree.specs.declared.expr.SmallType.TheVariants as small
use Rattle.rust_tree.specs.declared.expr.Expr.{Expr, Expr-F, fold_out-Expr, map-Expr, out-Expr}
use Rattle.rust_tree.specs.declared.expr.Expr.TheVariants as expr
use Rattle.rust_tree.specs.declared.path.Path.{Path}
use Rattle.rust_tree.specs.declared.pattern.Pattern.TheVariants as pattern
use Rattle.rust_tree.specs.declared.runtime_item.RuntimeItem.{RuntimeItem}
use Rattle.rust_tree.specs.declared.runtime_item.RuntimeItem.TheVariants.{AsF32, AsF64, AsI32, AsI64, BoolLift, CabiDealloc, CharLift, StringLift}
use Rattle.rust_tree.specs.declared.stmt.Stmt.TheVariants as stmt
use Rattle.rust_tree.specs.Ident.{escaped_words, has_ident_form, is_ident}
use Rattle.rust_tree.specs.WellNamed.{are_fields, are_path_names, is_absent_or, is_named_expr, named_step}
use Rattle.rust_tree.proofs.NamedLemmas.{is_named-as_ptr, is_named-bits, is_named-bool, is_named-boxed, is_named-cast, is_named-cast_mut, is_named-i32, is_named-len, is_named-load, is_named-load_small, is_named-local, is_named-method, is_named-number, is_named-raw, is_named-return_pointer, is_named-size, is_named-static, is_named-tuple, is_named-words, is_named-zero}
use Rattle.wrapper_values.specs.Fields.{root_name}
use Rattle.wrapper_run.specs.Run.{lift_name}
use Rattle.abi_bindgen.specs.declared.instruction.Instruction.TheVariants.{Bitcasts, BoolFromI32, CharFromI32, ConstZero, CoreF32FromF32, CoreF64FromF64, EnumLift, EnumLower, F32FromCoreF32, F32Load, F32Store, F64FromCoreF64, F64Load, F64Store, FlagsLift, FlagsLower, Flush, GetArg, GuestDeallocate, GuestDeallocateString, I32Const, I32FromBool, I32FromChar, I32FromS16, I32FromS32, I32FromS8, I32FromU16, I32FromU32, I32FromU8, I32Load, I32Load16S, I32Load16U, I32Load8S, I32Load8U, I32Store, I32Store16, I32Store8, I64FromS64, I64FromU64, I64Load, I64Store, IterBasePointer, IterElem, IterMapKey, IterMapValue, LengthLoad, LengthStore, PointerLoad, PointerStore, RecordLift, RecordLower, Return, S16FromI32, S32FromI32, S64FromI64, S8FromI32, StringLift, StringLower, TupleLift, TupleLower, U16FromI32, U32FromI32, U64FromI64, U8FromI32, VariantPayloadName}
use Rattle.abi_bindgen.specs.Meaning.{Name, the_base, the_element, the_key, the_payload, the_value}
use Rattle.abi_bindgen.specs.Sent.{Sent, asks, sends}
use Rattle.func_gen.specs.declared.enum_site.EnumSite.{EnumSite}
use Rattle.func_gen.specs.declared.flags_site.FlagsSite.{FlagsSite}
use Rattle.func_gen.specs.declared.function_bindgen.ParamSite.{ParamSite}
use Rattle.func_gen.specs.declared.record_site.RecordSite.{RecordSite}
use Rattle.func_gen.specs.declared.type_site.TypeSite.{TypeSite}
use Rattle.func_gen.specs.declared.type_site.TypeSite.TheVariants as site
use Rattle.func_gen.specs.Area.{pointer_to}
use Rattle.func_gen.specs.CastForms.{cast_expr, cast_result, cast_stmts, casts_from, core_call, core_path, f32_names, f64_names, from_names, needs_slot, new_slot_names, slot_prefix, step_expr, stmts_from, zero_expr}
use Rattle.wrapper_values.specs.declared.core_words.CoreFn.{CoreFn}
use Rattle.wrapper_values.specs.declared.core_words.CoreFn.TheVariants as core_fn
use Rattle.func_gen.specs.CodeOf.{Context, emitted, gives_text, hands_text, local_of, local_step, makes_record, splits_record}
use Rattle.func_gen.specs.Emission.{Emission, alone, one_local}
use Rattle.func_gen.specs.EnumForms.{case_cast, case_let, enum_at, enum_site_in, lift_path, lifts_enum}
use Rattle.func_gen.specs.FlagsForms.{flags_at, flags_made, flags_site_in, lifts_flags, lowers_flags, shifted_from, words_of}
use Rattle.func_gen.specs.FlushForms.{flush_prefix, lets_of}
use Rattle.func_gen.specs.Forms.{runtime_call}
use Rattle.func_gen.specs.MemoryForms.{align_size, block_freed, text_freed}
use Rattle.func_gen.specs.Opened.{innermost}
use Rattle.func_gen.specs.PartForms.{names_from, part_name, part_prefix}
use Rattle.func_gen.specs.RecordForms.{locals_for, record_at, record_in}
use Rattle.func_gen.specs.Scope.{with_number}
use Rattle.func_gen.specs.Slot.{name_prefix, slot_name}
use Rattle.func_gen.specs.TextForms.{buffer_stmts, forget_names, forget_path, forgotten, len_name, ptr_name, taken_stmts, vec_name}
use Rattle.func_gen.specs.TypeSites.{site_at}
use Rattle.wrapper_closing.specs.Named.{AreNamedSites, IsNamedOperand, is_named_site}
use Rattle.wrapper_closing.proofs.NamedStmts.{AreNamed, alone_named, call_named, expr_named, is_named-record, let_named, longer_path, more_named, one_named, parts_named, runtime_calls_named, slot_named, small_named, store_named, then_named, two_true, write_named}
use Rattle.wrapper_closing.proofs.NumberedIdents.{fields_idents, local_ident, part_ident, parts_idents}

abbrev AreNamedExprs : List Expr → Type 0
AreNamedExprs es = list_all is_named_expr es ≡ true

-- 1. What is emitted

abbrev IsNamedEmission : Emission → Type 0
IsNamedEmission e = AreNamed e.stmts × AreNamedExprs e.results

abbrev pub NamedWhere : Option (ℕ → Emission) → Type 0
NamedWhere None = Unit {0}
NamedWhere (Some code) = (t : ℕ) → IsNamedEmission (code t)

where_each : {A : Type 0} (o : Option A) (code : A → ℕ → Emission) → ((x : A) → o ≡ Some x → (t : ℕ) → IsNamedEmission (code x t)) → NamedWhere (option_map code o)
where_each None code h = tt
where_each (Some x) code h = h x refl

local_named : (name : Bytes) → is_ident name ≡ true → is_named_expr (expr.Local name) ≡ true
local_named name h = is_named-local name ∙ h

locals_named : (names : List Bytes) → list_all is_ident names ≡ true → AreNamedExprs (map (λ n. expr.Local n) names)
locals_named [] h = refl
locals_named (n ∷ names) h =
    let parts = and_parts (is_ident n) (list_all is_ident names) h in
    two_true (is_named_expr (expr.Local n)) (list_all is_named_expr (map (λ n. expr.Local n) names)) (local_named n parts.0) (locals_named names parts.1)

-- an expression by itself, and one that becomes the value of a local
only_expr : (e : Expr) → is_named_expr e ≡ true → AreNamed [] × AreNamedExprs (e ∷ [])
only_expr e h = (refl, alone_named e h)

one_value : (prefix : Bytes) (e : Expr) (items : List RuntimeItem) → has_ident_form prefix ≡ true → is_named_expr e ≡ true → (t : ℕ) → IsNamedEmission (one_local prefix e items t)
one_value prefix e items form h t =
    let ident = local_ident prefix t form in
    let name = with_number prefix t in
    (one_named (stmt.Let name e) (let_named name e ident h), alone_named (expr.Local name) (local_named name ident))

cast_named : (e : Expr) (to : CastType) → is_named_expr e ≡ true → is_named_expr (expr.Cast e to) ≡ true
cast_named e to h = is_named-cast e to ∙ h

calls_named : (f : RuntimeItem) (e : Expr) → is_named_expr e ≡ true → is_named_expr (runtime_call f e) ≡ true
calls_named f e h = runtime_calls_named f (e ∷ []) (alone_named e h)

load_named : (e : Expr) (o : ArchitectureSize) (ty : WasmType) → is_named_expr e ≡ true → is_named_expr (expr.Load e o ty) ≡ true
load_named e o ty h = is_named-load e o ty ∙ h

pointer_named : (import : Bool) (area : Bytes) → is_ident area ≡ true → is_named_expr (pointer_to import area) ≡ true
pointer_named true area h = is_named-return_pointer area ∙ h
pointer_named false area h = is_named-static

-- casts

core_named : (f : CoreFn) → are_path_names (core_path f).names ≡ true
unfolding from_names f32_names f64_names new_slot_names escaped_words
core_named core_fn.I64From = refl
core_named core_fn.F32FromBits = refl
core_named core_fn.F64FromBits = refl
core_named core_fn.NewSlot = refl

called_named : (f : CoreFn) (e : Expr) → is_named_expr e ≡ true → is_named_expr (core_call f e) ≡ true
called_named f e h = call_named (core_path f) (e ∷ []) (core_named f) (alone_named e h)

step_named : (c : Bitcast) (e : Expr) → is_named_expr e ≡ true → is_named_expr (step_expr c e) ≡ true
step_named bitcast.I32ToI64 e h = called_named core_fn.I64From e h
step_named bitcast.F32ToI32 e h = cast_named (expr.Method e _) _ (is_named-method e _ ∙ h)
step_named bitcast.F64ToI64 e h = cast_named (expr.Method e _) _ (is_named-method e _ ∙ h)
step_named bitcast.I64ToI32 e h = cast_named e _ h
step_named bitcast.I32ToF32 e h = called_named core_fn.F32FromBits (expr.Cast e _) (cast_named e _ h)
step_named bitcast.I64ToF32 e h = called_named core_fn.F32FromBits (expr.Cast e _) (cast_named e _ h)
step_named bitcast.I64ToF64 e h = called_named core_fn.F64FromBits (expr.Cast e _) (cast_named e _ h)
step_named bitcast.F32ToI64 e h = called_named core_fn.I64From (expr.Method e _) (is_named-method e _ ∙ h)
step_named bitcast.I64ToP64 e h = called_named core_fn.NewSlot (expr.Cast e _) (cast_named e _ h)
step_named bitcast.P64ToI64 e h = cast_named (expr.Method e _) _ (is_named-method e _ ∙ h)
step_named bitcast.P64ToP e h = is_named-method e _ ∙ h
step_named bitcast.I32ToP e h = cast_named e _ h
step_named bitcast.LToP e h = cast_named e _ h
step_named bitcast.PToI32 e h = cast_named e _ h
step_named bitcast.LToI32 e h = cast_named e _ h
step_named bitcast.I32ToL e h = cast_named e _ h
step_named bitcast.I64ToL e h = cast_named e _ h
step_named bitcast.PToL e h = cast_named e _ h
step_named bitcast.LToI64 e h = cast_named e _ h
step_named _ e h = h

recast_named : (c : Bitcast) (e : Expr) → is_named_expr e ≡ true → is_named_expr (cast_expr c e) ≡ true
recast_named (bitcast.Sequence from through last) e h = step_named _ _ (step_named _ e h)
recast_named c e h = step_named c e h

slot_form : has_ident_form slot_prefix ≡ true
unfolding slot_prefix
slot_form = refl

slot_stmts_named : (b : Bool) (slot : Bytes) (e : Expr) → is_ident slot ≡ true → is_named_expr e ≡ true → AreNamed (cast_stmts b slot e)
slot_stmts_named true slot e i h = then_named (stmt.LetSlot slot) (stmt.WriteSlot slot e ∷ []) (slot_named slot i) (one_named (stmt.WriteSlot slot e) (write_named slot e i h))
slot_stmts_named false slot e i h = refl

slot_result_named : (b : Bool) (slot : Bytes) (e : Expr) → is_ident slot ≡ true → is_named_expr e ≡ true → is_named_expr (cast_result b slot e) ≡ true
slot_result_named true slot e i h = local_named slot i
slot_result_named false slot e i h = h

casts_named : (at : ℕ) (cs : List Bitcast) (es : List Expr) (t : ℕ) → AreNamedExprs es → AreNamed (stmts_from at cs es t) × AreNamedExprs (casts_from at cs es t)
casts_named at [] es t h = (refl, refl)
casts_named at (c ∷ cs) [] t h = (refl, refl)
casts_named at (c ∷ cs) (e ∷ es) t h =
    let parts = and_parts (is_named_expr e) (list_all is_named_expr es) h in
    let slot = part_name slot_prefix t at in
    let ident = part_ident slot_prefix t at slot_form in
    let one = recast_named c e parts.0 in
    let later = casts_named (at + 1) cs es t parts.1 in (
      more_named (cast_stmts (needs_slot c) slot (cast_expr c e)) (stmts_from (at + 1) cs es t) (slot_stmts_named (needs_slot c) slot (cast_expr c e) ident one) later.0,
      two_true (is_named_expr (cast_result (needs_slot c) slot (cast_expr c e))) (list_all is_named_expr (casts_from (at + 1) cs es t)) (slot_result_named (needs_slot c) slot (cast_expr c e) ident one) later.1,
    )

-- constants

zero_named : (ty : WasmType) → is_named_expr (zero_expr ty) ≡ true
zero_named wasm.I32 = is_named-i32 _
zero_named wasm.I64 = is_named-zero _
zero_named wasm.F32 = is_named-zero _
zero_named wasm.F64 = is_named-zero _
zero_named wasm.Pointer = is_named-zero _
zero_named wasm.PointerOrI64 = is_named-zero _
zero_named wasm.Length = is_named-zero _

zeros_named : (types : List WasmType) → AreNamedExprs (map zero_expr types)
zeros_named [] = refl
zeros_named (ty ∷ types) = two_true (is_named_expr (zero_expr ty)) (list_all is_named_expr (map zero_expr types)) (zero_named ty) (zeros_named types)

-- texts

-- of a local by itself the name is known
name_known : (e : Expr) (name : Bytes) → local_of e ≡ Some name → is_named_expr e ≡ true → is_ident name ≡ true
name_known e name is h = go (out-Expr e) (sym (fold_out-Expr (Option Bytes) local_step e) ∙ is) (sym (fold_out-Expr Bool named_step e) ∙ h)
  where
    go : (l : Expr-F Expr) → local_step (map-Expr Expr (Option Bytes) local_of l) ≡ Some name → named_step (map-Expr Expr Bool is_named_expr l) ≡ true → is_ident name ≡ true
    go (Expr-F.Local n) is h = let same : n ≡ name = cc in ap is_ident (sym same) ∙ h
    go _ is h = absurd cc

three_named : (a b c : Bytes) (x y z : Expr) → is_ident a ≡ true → is_ident b ≡ true → is_ident c ≡ true → is_named_expr x ≡ true → is_named_expr y ≡ true → is_named_expr z ≡ true → AreNamed (stmt.Let a x ∷ stmt.Let b y ∷ stmt.Let c z ∷ [])
three_named a b c x y z i j k h g f =
    then_named (stmt.Let a x) (stmt.Let b y ∷ stmt.Let c z ∷ []) (let_named a x i h) (then_named (stmt.Let b y) (stmt.Let c z ∷ []) (let_named b y j g) (one_named (stmt.Let c z) (let_named c z k f)))

buffer_named : (t : ℕ) (e : Expr) → is_named_expr e ≡ true → AreNamed (buffer_stmts t e)
buffer_named t e h =
    let vec = local_ident (codes "vec") t refl in
    three_named (vec_name t) (ptr_name t) (len_name t) e (expr.AsPtr (vec_name t)) (expr.Len (vec_name t)) vec (local_ident (codes "ptr") t refl) (local_ident (codes "len") t refl) h (is_named-as_ptr (vec_name t) ∙ vec) (is_named-len (vec_name t) ∙ vec)

buffer_results : (t : ℕ) → AreNamedExprs (expr.CastMut (ptr_name t) ∷ expr.Local (len_name t) ∷ [])
buffer_results t =
    two_true (is_named_expr (expr.CastMut (ptr_name t))) (list_all is_named_expr (expr.Local (len_name t) ∷ [])) (is_named-cast_mut (ptr_name t) ∙ local_ident (codes "ptr") t refl)
    (alone_named (expr.Local (len_name t)) (local_named (len_name t) (local_ident (codes "len") t refl)))

forget_named : are_path_names forget_path.names ≡ true
unfolding forget_names escaped_words
forget_named = refl

hands_named : (name : Bytes) (t : ℕ) → is_ident name ≡ true → IsNamedEmission (hands_text name t)
hands_named name t h =
    let vec = local_ident (codes "vec") t refl in
    let forgets = call_named forget_path (expr.Local (vec_name t) ∷ []) forget_named (alone_named (expr.Local (vec_name t)) (local_named (vec_name t) vec)) in (
      more_named (buffer_stmts t (expr.IntoBoxedBytes name)) (stmt.Expr (forgotten (vec_name t)) ∷ []) (buffer_named t (expr.IntoBoxedBytes name) (is_named-boxed name ∙ h))
          (one_named (stmt.Expr (forgotten (vec_name t))) (expr_named (forgotten (vec_name t)) forgets)),
      buffer_results t,
    )

gives_named : (a : Expr) (o : Option Bytes) → local_of a ≡ o → is_named_expr a ≡ true → (t : ℕ) → IsNamedEmission (gives_text a o t)
gives_named a None is h t = (buffer_named t a h, buffer_results t)
gives_named a (Some name) is h t = hands_named name t (name_known a name is h)

takes_named : (t : ℕ) (address n : Expr) → is_named_expr address ≡ true → is_named_expr n ≡ true → AreNamed (taken_stmts t address n)
takes_named t address n h g =
    let len = local_ident (codes "len") t refl in
    let bytes = local_ident (codes "bytes") t refl in
    three_named (len_name t) (with_number (codes "bytes") t) (with_number (codes "text") t) n (expr.FromRawParts address (len_name t)) (runtime_call StringLift (expr.Local (with_number (codes "bytes") t))) len bytes (local_ident (codes "text") t refl) g (is_named-raw address (len_name t) ∙ two_true (is_named_expr address) (is_ident (len_name t)) h len)
    (calls_named StringLift (expr.Local (with_number (codes "bytes") t)) (local_named (with_number (codes "bytes") t) bytes))

flush_form : has_ident_form flush_prefix ≡ true
unfolding flush_prefix
flush_form = refl

part_form : has_ident_form part_prefix ≡ true
unfolding part_prefix
part_form = refl

lets_named : (names : List Bytes) (es : List Expr) → list_all is_ident names ≡ true → AreNamedExprs es → AreNamed (lets_of names es)
lets_named [] es h g = refl
lets_named (n ∷ names) [] h g = refl
lets_named (n ∷ names) (e ∷ es) h g =
    let i = and_parts (is_ident n) (list_all is_ident names) h in
    let k = and_parts (is_named_expr e) (list_all is_named_expr es) g in
    then_named (stmt.Let n e) (lets_of names es) (let_named n e i.0 k.0) (lets_named names es i.1 k.1)

-- records, enums and flags, as their sites are

pub site_named : (sites : List (Option TypeSite)) (id : ℕ) (s : TypeSite) → AreNamedSites sites → site_at sites id ≡ Some s → is_named_site s ≡ true
site_named [] id s all is = absurd cc
site_named (o ∷ sites) zero s all is = subst (λ o. is_absent_or is_named_site o ≡ true) is all.0
site_named (o ∷ sites) (suc id) s all is = site_named sites id s all.1 is

record_named : (sites : List (Option TypeSite)) (id : ℕ) (s : RecordSite) → AreNamedSites sites → record_at sites id ≡ Some s → is_named_site (site.Record s) ≡ true
record_named sites id s all is = go (site_at sites id) refl is
  where
    go : (o : Option TypeSite) → site_at sites id ≡ o → option_and_then record_in o ≡ Some s → is_named_site (site.Record s) ≡ true
    go None e is = absurd cc
    go (Some (site.Record r)) e is = let same : r ≡ s = cc in subst (λ r. is_named_site (site.Record r) ≡ true) same (site_named sites id (site.Record r) all e)
    go (Some (site.Enum r)) e is = absurd cc
    go (Some (site.Flags r)) e is = absurd cc
    go (Some (site.Variant r)) e is = absurd cc

enum_named : (sites : List (Option TypeSite)) (id : ℕ) (s : EnumSite) → AreNamedSites sites → enum_at sites id ≡ Some s → are_path_names s.path.names ≡ true
enum_named sites id s all is = go (site_at sites id) refl is
  where
    go : (o : Option TypeSite) → site_at sites id ≡ o → option_and_then enum_site_in o ≡ Some s → are_path_names s.path.names ≡ true
    go None e is = absurd cc
    go (Some (site.Record r)) e is = absurd cc
    go (Some (site.Enum r)) e is = let same : r ≡ s = cc in subst (λ (r : EnumSite). are_path_names r.path.names ≡ true) same (site_named sites id (site.Enum r) all e)
    go (Some (site.Flags r)) e is = absurd cc
    go (Some (site.Variant r)) e is = absurd cc

flags_named : (sites : List (Option TypeSite)) (id : ℕ) (s : FlagsSite) → AreNamedSites sites → flags_at sites id ≡ Some s → are_path_names s.path.names ≡ true
flags_named sites id s all is = go (site_at sites id) refl is
  where
    go : (o : Option TypeSite) → site_at sites id ≡ o → option_and_then flags_site_in o ≡ Some s → are_path_names s.path.names ≡ true
    go None e is = absurd cc
    go (Some (site.Record r)) e is = absurd cc
    go (Some (site.Enum r)) e is = absurd cc
    go (Some (site.Flags r)) e is = let same : r ≡ s = cc in subst (λ (r : FlagsSite). are_path_names r.path.names ≡ true) same (site_named sites id (site.Flags r) all e)
    go (Some (site.Variant r)) e is = absurd cc

bound_fields : (fields names : List Bytes) → list_all is_ident fields ≡ true → list_all is_ident names ≡ true → are_fields (map (λ f. (f.0, is_ident f.1)) (zip fields names)) ≡ true
bound_fields [] names h g = refl
bound_fields (f ∷ fields) [] h g = refl
bound_fields (f ∷ fields) (n ∷ names) h g =
    let i = and_parts (is_ident f) (list_all is_ident fields) h in
    let k = and_parts (is_ident n) (list_all is_ident names) g in
    two_true (is_ident f && is_ident n) (are_fields (map (λ f. (f.0, is_ident f.1)) (zip fields names))) (two_true (is_ident f) (is_ident n) i.0 k.0) (bound_fields fields names i.1 k.1)

made_fields : (fields : List Bytes) (es : List Expr) → list_all is_ident fields ≡ true → AreNamedExprs es → are_fields (map (λ f. (f.0, is_named_expr f.1)) (zip fields es)) ≡ true
made_fields [] es h g = refl
made_fields (f ∷ fields) [] h g = refl
made_fields (f ∷ fields) (e ∷ es) h g =
    let i = and_parts (is_ident f) (list_all is_ident fields) h in
    let k = and_parts (is_named_expr e) (list_all is_named_expr es) g in
    two_true (is_ident f && is_named_expr e) (are_fields (map (λ f. (f.0, is_named_expr f.1)) (zip fields es))) (two_true (is_ident f) (is_named_expr e) i.0 k.0) (made_fields fields es i.1 k.1)

splits_named : (e : Expr) (s : RecordSite) (t : ℕ) → is_named_site (site.Record s) ≡ true → is_named_expr e ≡ true → IsNamedEmission (splits_record e s t)
splits_named e s t site h =
    let fields = and_parts (list_all is_ident s.fields) (are_path_names s.lifted.names && are_path_names s.lowered.names) site in
    let paths = and_parts (are_path_names s.lifted.names) (are_path_names s.lowered.names) fields.1 in
    let names = locals_for s.fields t in
    let idents = fields_idents s.fields t fields.0 in
    let p = pattern.Record s.lowered (zip s.fields names) in
    (one_named (stmt.LetParts p e) (parts_named p e (two_true (are_path_names s.lowered.names) (are_fields (map (λ f. (f.0, is_ident f.1)) (zip s.fields names))) paths.1 (bound_fields s.fields names fields.0 idents)) h), locals_named names idents)

makes_named : (es : List Expr) (s : RecordSite) (t : ℕ) → is_named_site (site.Record s) ≡ true → AreNamedExprs es → IsNamedEmission (makes_record es s t)
makes_named es s t site h =
    let fields = and_parts (list_all is_ident s.fields) (are_path_names s.lifted.names && are_path_names s.lowered.names) site in
    let paths = and_parts (are_path_names s.lifted.names) (are_path_names s.lowered.names) fields.1 in
    let made = is_named-record s.lifted (zip s.fields es) ∙ two_true (are_path_names s.lifted.names) (are_fields (map (λ f. (f.0, is_named_expr f.1)) (zip s.fields es))) paths.0 (made_fields s.fields es fields.0 h) in
    one_value (codes "record") (expr.Record s.lifted (zip s.fields es)) [] refl made t

-- a name of the file's root is the only one of its path
pub root_known : (path : Path) (name : Bytes) → root_name path ≡ Some name → path.names ≡ name ∷ []
root_known path name is = go path.lead path.supers path.names is
  where
    go : (lead : Bool) (supers : ℕ) (names : List Bytes) → root_name (record { lead = lead; supers = supers; names = names }) ≡ Some name → names ≡ name ∷ []
    go true supers names is = absurd cc
    go false (suc supers) names is = absurd cc
    go false zero [] is = absurd cc
    go false zero (first ∷ []) is = let same : first ≡ name = cc in ap (λ n. n ∷ []) same
    go false zero (first ∷ second ∷ names) is = absurd cc

lift_ident : is_ident lift_name ≡ true
unfolding lift_name escaped_words
lift_ident = refl

lift_path_named : (path : Path) (name : Bytes) → root_name path ≡ Some name → are_path_names path.names ≡ true → are_path_names (lift_path name).names ≡ true
lift_path_named path name is h =
    longer_path name lift_name (ap are_path_names (sym (root_known path name is)) ∙ h) lift_ident

enum_lifted : (e : Expr) (s : EnumSite) → are_path_names s.path.names ≡ true → is_named_expr e ≡ true → NamedWhere (lifts_enum e s)
enum_lifted e s path h = go (root_name s.path) refl
  where
    go : (o : Option Bytes) → root_name s.path ≡ o → NamedWhere (option_and_then (λ name. option_map (case_let name e) (case_cast s.repr)) o)
    go None is = tt
    go (Some name) is =
        where_each (case_cast s.repr) (case_let name e)
        (λ to at t. one_value (codes "v") (expr.Call (lift_path name) (expr.Cast e to ∷ [])) [] refl (call_named (lift_path name) (expr.Cast e to ∷ []) (lift_path_named s.path name is path) (alone_named (expr.Cast e to) (cast_named e to h))) t)

enums_lifted : (sites : List (Option TypeSite)) (id : ℕ) (e : Expr) → AreNamedSites sites → is_named_expr e ≡ true → NamedWhere (option_and_then (lifts_enum e) (enum_at sites id))
enums_lifted sites id e all h = go (enum_at sites id) refl
  where
    go : (o : Option EnumSite) → enum_at sites id ≡ o → NamedWhere (option_and_then (lifts_enum e) o)
    go None is = tt
    go (Some s) is = enum_lifted e s (enum_named sites id s all is) h

bits_named : (name : Bytes) (by count : ℕ) → is_ident name ≡ true → AreNamedExprs (words_of name by count)
bits_named name by zero h = refl
bits_named name by (suc n) h = two_true (is_named_expr (expr.FlagsBits name by)) (list_all is_named_expr (words_of name (32 + by) n)) (is_named-bits name by ∙ h) (bits_named name (32 + by) n h)

shifted_named : (by : ℕ) (es : List Expr) → AreNamedExprs es → list_all (λ (w : ℕ × Bool). w.1) (map (λ (w : ℕ × Expr). (w.0, is_named_expr w.1)) (shifted_from by es)) ≡ true
shifted_named by [] h = refl
shifted_named by (e ∷ es) h = let parts = and_parts (is_named_expr e) (list_all is_named_expr es) h in two_true (is_named_expr e) _ parts.0 (shifted_named (32 + by) es parts.1)

flags_lifted : (e : Expr) (es : List Expr) (s : FlagsSite) → are_path_names s.path.names ≡ true → AreNamedExprs (e ∷ es) → is_named_expr (flags_made s (e ∷ es)) ≡ true
flags_lifted e es s path h = is_named-words s.path s.repr (shifted_from 0 (e ∷ es)) ∙ two_true (are_path_names s.path.names) _ path (shifted_named 0 (e ∷ es) h)

-- blocks and names

freed_named : (address n : Expr) (align : ArchitectureSize) → is_named_expr address ≡ true → is_named_expr n ≡ true → AreNamedExprs (address ∷ n ∷ expr.Size align ∷ [])
freed_named address n align h g =
    two_true (is_named_expr address) (list_all is_named_expr (n ∷ expr.Size align ∷ [])) h (two_true (is_named_expr n) (list_all is_named_expr (expr.Size align ∷ [])) g (alone_named (expr.Size align) (is_named-size align)))

prefix_form : (name : Name) → has_ident_form (name_prefix name) ≡ true
prefix_form the_payload = refl
prefix_form the_element = refl
prefix_form the_key = refl
prefix_form the_value = refl
prefix_form the_base = refl

slot_read : (name : Name) (o : Option ℕ) → NamedWhere (option_map (λ (k : ℕ). λ t. alone (expr.Local (slot_name name k))) o)
slot_read name None = tt
slot_read name (Some k) = λ t. only_expr (expr.Local (slot_name name k)) (local_named (slot_name name k) (local_ident (name_prefix name) k (prefix_form name)))

param_read : (params : List ParamSite) (n : ℕ) → AllByRecursion (λ (p : ParamSite). IsNamedOperand p.operand) params → NamedWhere (option_map (λ (p : ParamSite). λ t. alone p.operand.expr) (slice_get params n))
param_read [] n all = tt
param_read (p ∷ params) zero all = λ t. only_expr p.operand.expr all.0
param_read (p ∷ params) (suc n) all = param_read params n all.1

-- 2. The table

first : (a : Expr) (es : List Expr) → AreNamedExprs (a ∷ es) → is_named_expr a ≡ true
first a es h = (and_parts (is_named_expr a) (list_all is_named_expr es) h).0

second : (a b : Expr) (es : List Expr) → AreNamedExprs (a ∷ b ∷ es) → is_named_expr b ≡ true
second a b es h = first b es (and_parts (is_named_expr a) (list_all is_named_expr (b ∷ es)) h).1

stores : (a at : Expr) (o : ArchitectureSize) (ty : WasmType) → AreNamedExprs (a ∷ at ∷ []) → AreNamed (stmt.Store at o ty a ∷ []) × AreNamedExprs []
stores a at o ty h = (one_named (stmt.Store at o ty a) (store_named at o ty a (second a at [] h) (first a (at ∷ []) h)), refl)

module _ (b : Context) (area : is_ident b.area ≡ true) (params : AllByRecursion (λ (p : ParamSite). IsNamedOperand p.operand) b.params) (sites : AreNamedSites b.sites) where
  pub told_named : (step : Sent) (es : List Expr) → AreNamedExprs es → NamedWhere (emitted b step es)
  told_named (asks room) [] h = λ t. one_value (codes "ptr") (pointer_to b.import b.area) [] refl (pointer_named b.import b.area area) t
  told_named (sends (GetArg n)) [] h = param_read b.params n params
  told_named (sends (I32Const n)) [] h = λ t. only_expr (expr.I32Const n) (is_named-i32 n)
  told_named (sends (ConstZero types)) [] h = λ t. (refl, zeros_named types.now)
  told_named (sends (Bitcasts cs)) es h = λ t. casts_named 0 cs.now es t h
  told_named (sends I32FromU8) (a ∷ []) h = λ t. only_expr (runtime_call AsI32 a) (calls_named AsI32 a (first a [] h))
  told_named (sends I32FromS8) (a ∷ []) h = λ t. only_expr (runtime_call AsI32 a) (calls_named AsI32 a (first a [] h))
  told_named (sends I32FromU16) (a ∷ []) h = λ t. only_expr (runtime_call AsI32 a) (calls_named AsI32 a (first a [] h))
  told_named (sends I32FromS16) (a ∷ []) h = λ t. only_expr (runtime_call AsI32 a) (calls_named AsI32 a (first a [] h))
  told_named (sends I32FromU32) (a ∷ []) h = λ t. only_expr (runtime_call AsI32 a) (calls_named AsI32 a (first a [] h))
  told_named (sends I32FromS32) (a ∷ []) h = λ t. only_expr (runtime_call AsI32 a) (calls_named AsI32 a (first a [] h))
  told_named (sends I32FromChar) (a ∷ []) h = λ t. only_expr (runtime_call AsI32 a) (calls_named AsI32 a (first a [] h))
  told_named (sends I64FromU64) (a ∷ []) h = λ t. only_expr (runtime_call AsI64 a) (calls_named AsI64 a (first a [] h))
  told_named (sends I64FromS64) (a ∷ []) h = λ t. only_expr (runtime_call AsI64 a) (calls_named AsI64 a (first a [] h))
  told_named (sends CoreF32FromF32) (a ∷ []) h = λ t. only_expr (runtime_call AsF32 a) (calls_named AsF32 a (first a [] h))
  told_named (sends CoreF64FromF64) (a ∷ []) h = λ t. only_expr (runtime_call AsF64 a) (calls_named AsF64 a (first a [] h))
  told_named (sends S32FromI32) (a ∷ []) h = λ t. (refl, h)
  told_named (sends S64FromI64) (a ∷ []) h = λ t. (refl, h)
  told_named (sends F32FromCoreF32) (a ∷ []) h = λ t. (refl, h)
  told_named (sends F64FromCoreF64) (a ∷ []) h = λ t. (refl, h)
  told_named (sends S8FromI32) (a ∷ []) h = λ t. only_expr (expr.Cast a cast.I8) (cast_named a cast.I8 (first a [] h))
  told_named (sends U8FromI32) (a ∷ []) h = λ t. only_expr (expr.Cast a cast.U8) (cast_named a cast.U8 (first a [] h))
  told_named (sends S16FromI32) (a ∷ []) h = λ t. only_expr (expr.Cast a cast.I16) (cast_named a cast.I16 (first a [] h))
  told_named (sends U16FromI32) (a ∷ []) h = λ t. only_expr (expr.Cast a cast.U16) (cast_named a cast.U16 (first a [] h))
  told_named (sends U32FromI32) (a ∷ []) h = λ t. only_expr (expr.Cast a cast.U32) (cast_named a cast.U32 (first a [] h))
  told_named (sends U64FromI64) (a ∷ []) h = λ t. only_expr (expr.Cast a cast.U64) (cast_named a cast.U64 (first a [] h))
  told_named (sends CharFromI32) (a ∷ []) h = λ t. one_value (codes "c") (runtime_call CharLift (expr.Cast a cast.U32)) (CharLift ∷ []) refl (calls_named CharLift (expr.Cast a cast.U32) (cast_named a _ (first a [] h))) t
  told_named (sends I32FromBool) (a ∷ []) h = λ t. one_value (codes "b") (expr.I32FromBool a) [] refl (is_named-bool a ∙ first a [] h) t
  told_named (sends BoolFromI32) (a ∷ []) h = λ t. one_value (codes "b") (runtime_call BoolLift (expr.Cast a cast.U8)) (BoolLift ∷ []) refl (calls_named BoolLift (expr.Cast a cast.U8) (cast_named a _ (first a [] h))) t
  told_named (sends (RecordLower id)) (a ∷ []) h = where_each (record_at b.sites id.0) (splits_record a) (λ s is t. splits_named a s t (record_named b.sites id.0 s sites is) (first a [] h))
  told_named (sends (RecordLift id)) es h = where_each (record_at b.sites id.0) (makes_record es) (λ s is t. makes_named es s t (record_named b.sites id.0 s sites is) h)
  told_named (sends (EnumLower id)) (a ∷ []) h = λ t. only_expr (expr.EnumNumber a) (is_named-number a ∙ first a [] h)
  told_named (sends (EnumLift id)) (a ∷ []) h = enums_lifted b.sites id.0 a sites (first a [] h)
  told_named (sends (FlagsLower id)) (a ∷ []) h =
      where_each (flags_at b.sites id.0) (lowers_flags a)
      (λ s is t. let ident = local_ident (codes "flags") t refl in (one_named (stmt.Let (with_number (codes "flags") t) a) (let_named (with_number (codes "flags") t) a ident (first a [] h)), bits_named (with_number (codes "flags") t) 0 _ ident))
  told_named (sends (FlagsLift id)) (w ∷ es) h = where_each (flags_at b.sites id.0) (lifts_flags (w ∷ es)) (λ s is t. one_value (codes "flags") (flags_made s (w ∷ es)) [] refl (flags_lifted w es s (flags_named b.sites id.0 s sites is) h) t)
  told_named (sends (TupleLower n)) (a ∷ []) h =
      λ t. let idents = parts_idents part_prefix t 0 n part_form in (one_named (stmt.LetParts (pattern.Tuple (names_from part_prefix t 0 n)) a) (parts_named (pattern.Tuple (names_from part_prefix t 0 n)) a idents (first a [] h)), locals_named (names_from part_prefix t 0 n) idents)
  told_named (sends (TupleLift n)) es h = λ t. one_value (codes "tuple") (expr.Tuple es) [] refl (is_named-tuple es ∙ h) t
  told_named (sends (StringLower false)) (a ∷ []) h = λ t. (buffer_named t a (first a [] h), buffer_results t)
  told_named (sends (StringLower true)) (a ∷ []) h = λ t. gives_named a (local_of a) refl (first a [] h) t
  told_named (sends StringLift) (a ∷ n ∷ []) h =
      λ t. (takes_named t a n (first a (n ∷ []) h) (second a n [] h), alone_named (expr.Local (with_number (codes "text") t)) (local_named (with_number (codes "text") t) (local_ident (codes "text") t refl)))
  told_named (sends (Flush n)) es h = λ t. let idents = parts_idents flush_prefix t 0 n flush_form in (lets_named (names_from flush_prefix t 0 n) es idents h, locals_named (names_from flush_prefix t 0 n) idents)
  told_named (sends (Return n)) es h = λ t. (refl, refl)
  told_named (sends (I32Load8U o)) (a ∷ []) h = λ t. one_value (codes "l") (expr.LoadSmall a o small.U8) [] refl (is_named-load_small a _ _ ∙ first a [] h) t
  told_named (sends (I32Load8S o)) (a ∷ []) h = λ t. one_value (codes "l") (expr.LoadSmall a o small.I8) [] refl (is_named-load_small a _ _ ∙ first a [] h) t
  told_named (sends (I32Load16U o)) (a ∷ []) h = λ t. one_value (codes "l") (expr.LoadSmall a o small.U16) [] refl (is_named-load_small a _ _ ∙ first a [] h) t
  told_named (sends (I32Load16S o)) (a ∷ []) h = λ t. one_value (codes "l") (expr.LoadSmall a o small.I16) [] refl (is_named-load_small a _ _ ∙ first a [] h) t
  told_named (sends (I32Load o)) (a ∷ []) h = λ t. one_value (codes "l") (expr.Load a o wasm.I32) [] refl (load_named a o wasm.I32 (first a [] h)) t
  told_named (sends (I64Load o)) (a ∷ []) h = λ t. one_value (codes "l") (expr.Load a o wasm.I64) [] refl (load_named a o wasm.I64 (first a [] h)) t
  told_named (sends (F32Load o)) (a ∷ []) h = λ t. one_value (codes "l") (expr.Load a o wasm.F32) [] refl (load_named a o wasm.F32 (first a [] h)) t
  told_named (sends (F64Load o)) (a ∷ []) h = λ t. one_value (codes "l") (expr.Load a o wasm.F64) [] refl (load_named a o wasm.F64 (first a [] h)) t
  told_named (sends (PointerLoad o)) (a ∷ []) h = λ t. one_value (codes "l") (expr.Load a o wasm.Pointer) [] refl (load_named a o wasm.Pointer (first a [] h)) t
  told_named (sends (LengthLoad o)) (a ∷ []) h = λ t. one_value (codes "l") (expr.Load a o wasm.Length) [] refl (load_named a o wasm.Length (first a [] h)) t
  told_named (sends (I32Store8 o)) (a ∷ at ∷ []) h = λ t. (one_named (stmt.StoreSmall at o small.U8 a) (small_named at o small.U8 a (second a at [] h) (first a (at ∷ []) h)), refl)
  told_named (sends (I32Store16 o)) (a ∷ at ∷ []) h = λ t. (one_named (stmt.StoreSmall at o small.U16 a) (small_named at o small.U16 a (second a at [] h) (first a (at ∷ []) h)), refl)
  told_named (sends (I32Store o)) (a ∷ at ∷ []) h = λ t. stores a at o wasm.I32 h
  told_named (sends (I64Store o)) (a ∷ at ∷ []) h = λ t. stores a at o wasm.I64 h
  told_named (sends (F32Store o)) (a ∷ at ∷ []) h = λ t. stores a at o wasm.F32 h
  told_named (sends (F64Store o)) (a ∷ at ∷ []) h = λ t. stores a at o wasm.F64 h
  told_named (sends (PointerStore o)) (a ∷ at ∷ []) h = λ t. stores a at o wasm.Pointer h
  told_named (sends (LengthStore o)) (a ∷ at ∷ []) h = λ t. stores a at o wasm.Length h
  told_named (sends (GuestDeallocate size align)) (a ∷ []) h =
      λ t. (one_named (stmt.Expr (block_freed a size align)) (expr_named (block_freed a size align) (runtime_calls_named CabiDealloc (a ∷ expr.Size size ∷ expr.Size (align_size align) ∷ []) (freed_named a (expr.Size size) (align_size align) (first a [] h) (is_named-size size)))), refl)
  told_named (sends GuestDeallocateString) (a ∷ n ∷ []) h =
      λ t. (one_named (stmt.Expr (text_freed a n)) (expr_named (text_freed a n) (runtime_calls_named CabiDealloc (a ∷ n ∷ expr.Size (record { bytes = 1; pointers = 0 }) ∷ []) (freed_named a n (record { bytes = 1; pointers = 0 }) (first a (n ∷ []) h) (second a n [] h)))), refl)
  told_named (sends VariantPayloadName) [] h = slot_read the_payload (innermost b.opened)
  told_named (sends IterElem) [] h = slot_read the_element (innermost b.opened)
  told_named (sends IterMapKey) [] h = slot_read the_key (innermost b.opened)
  told_named (sends IterMapValue) [] h = slot_read the_value (innermost b.opened)
  told_named (sends IterBasePointer) [] h = slot_read the_base (innermost b.opened)
  told_named _ es h = tt
