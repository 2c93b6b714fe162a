-- What is emitted for a step names each item of `_rt` that it asks for, and its results name no more than its operands, but for conversions.
use Rattle.std.proofs.Common.{◌≡◌, ℕ, zero, suc, ◌+◌, Bool, true, false, not, List, [], ◌∷◌, ◌++◌, length, Option, None, Some, refl, sym, ap, ap₂, ◌∙◌, subst}
use Rattle.std.specs.Prelude.{codes, option_and_then, option_map, slice_get}
use Rattle.std.specs.List.{AllByRecursion}
use Rattle.std.proofs.lemmas.Grind.{flat_map-append}
use Rattle.wit_model.specs.Bytes.{Bytes}
use Rattle.wit_layout.specs.declared.bitcast.Bitcast.{Bitcast}
use Rattle.rust_tree.specs.declared.expr.CastType.TheVariants as to
use Rattle.rust_tree.specs.declared.expr.Expr.{Expr}
use Rattle.rust_tree.specs.declared.expr.Expr.TheVariants as expr
use Rattle.rust_tree.specs.declared.runtime_item.RuntimeItem.{RuntimeItem}
use Rattle.rust_tree.specs.declared.runtime_item.RuntimeItem.TheVariants.{AsF32, AsF64, AsI32, AsI64, BoolLift, CabiDealloc, CharLift, StringLift, VecType}
use Rattle.rust_tree.specs.declared.stmt.Stmt.{Stmt}
use Rattle.rust_tree.specs.declared.stmt.Stmt.TheVariants as stmt
use Rattle.rust_tree.specs.Asked.{asked_by_expr, asked_by_stmt}
use Rattle.rust_tree.proofs.AskedLemmas.{asked-raw}
use Rattle.wrapper_values.specs.Fields.{root_name}
use Rattle.wrapper_meaning.proofs.Lists.{some_same}
use Rattle.abi_bindgen.specs.declared.instruction.Instruction.{Instruction}
use Rattle.abi_bindgen.specs.declared.instruction.Instruction.TheVariants.{Bitcasts, BoolFromI32, CharFromI32, ConstZero, CoreF32FromF32, CoreF64FromF64, EnumLift, EnumLower, F32FromCoreF32, F32Load, F32Store, F64FromCoreF64, F64Load, F64Store, FlagsLift, FlagsLower, Flush, GetArg, GuestDeallocate, GuestDeallocateString, I32Const, I32FromBool, I32FromChar, I32FromS16, I32FromS32, I32FromS8, I32FromU16, I32FromU32, I32FromU8, I32Load, I32Load16S, I32Load16U, I32Load8S, I32Load8U, I32Store, I32Store16, I32Store8, I64FromS64, I64FromU64, I64Load, I64Store, IterBasePointer, IterElem, IterMapKey, IterMapValue, LengthLoad, LengthStore, PointerLoad, PointerStore, RecordLift, RecordLower, Return, S16FromI32, S32FromI32, S64FromI64, S8FromI32, StringLift as LiftText, StringLower, TupleLift, TupleLower, U16FromI32, U32FromI32, U64FromI64, U8FromI32, VariantPayloadName}
use Rattle.abi_bindgen.specs.Meaning.{the_base, the_element, the_key, the_payload, the_value}
use Rattle.abi_bindgen.specs.Sent.{Sent, asks, sends}
use Rattle.abi_bindgen.proofs.SpentFlows.{converts, uses}
use Rattle.func_gen.specs.declared.enum_site.EnumSite.{EnumSite}
use Rattle.func_gen.specs.declared.function_bindgen.ParamSite.{ParamSite}
use Rattle.func_gen.specs.CastForms.{cast_expr, cast_result, cast_stmts, casts, casts_from, needs_slot, slot_prefix, stmts_from}
use Rattle.func_gen.specs.CodeOf.{Context, emitted, gives_text, local_of, makes_record, splits_record}
use Rattle.func_gen.specs.Emission.{Emission, alone, converted, effect, one_local}
use Rattle.func_gen.specs.EnumForms.{case_cast, case_let, enum_at, lifts_enum}
use Rattle.func_gen.specs.FlagsForms.{flags_at, lifts_flags, lowers_flags}
use Rattle.func_gen.specs.FlushForms.{flush_prefix}
use Rattle.func_gen.specs.Forms.{runtime_call, runtime_path}
use Rattle.func_gen.specs.Opened.{innermost}
use Rattle.func_gen.specs.PartForms.{names_from, part_name, part_prefix}
use Rattle.func_gen.specs.RecordForms.{locals_for, record_at}
use Rattle.func_gen.specs.Slot.{slot_name}
use Rattle.func_gen.specs.TextForms.{bytes_name, len_name, taken_names, taken_stmts, text_name}
use Rattle.wrapper_closing.proofs.AskedForms.{bits_named, cast_named, expr_named, exprs_named, item_named, let_named, locals_named, named-cast, named-const, named-local, named-mut, named-number, one_named, small_named, stmts_named, store_named, write_named, zeros_named}
use Rattle.wrapper_closing.proofs.Within.{Within, in_left, in_right, within_as, within_both, within_from, within_left, within_none, within_pairs, within_right, within_self, within_then, within_to}

abbrev Items : Type 0
Items = List RuntimeItem

-- 1. What an emission names

abbrev pub emission_named : Emission → List RuntimeItem
emission_named code = stmts_named code.stmts ++ exprs_named code.results

-- it names what it asks for. Where nothing is converted, its results name no more than the operands
pub record IsNamed (plain : Bool) (es : List Expr) (code : Emission) : Type 0 where
  pub items : Within code.items (emission_named code)
  pub results : plain ≡ true → Within (exprs_named code.results) (exprs_named es)

abbrev pub AreNamed : Bool → List Expr → Option (ℕ → Emission) → Type 0
AreNamed plain es None = Unit {0}
AreNamed plain es (Some code) = (t : ℕ) → IsNamed plain es (code t)

abbrev pub is_plain_step : Sent → Bool
is_plain_step (sends i) = not (converts i)
is_plain_step _ = true

-- parameters are denoted by what names nothing
abbrev pub ArePlain : List ParamSite → Type 0
ArePlain params = AllByRecursion (λ (p : ParamSite). asked_by_expr p.operand.expr ≡ []) params

module _ (plain : Bool) (es : List Expr) where
  -- nothing is asked for, and the results name nothing
  bare : (names : List Bytes) (stmts : List Stmt) (results : List Expr) → exprs_named results ≡ [] → IsNamed plain es (record { names = names; stmts = stmts; results = results; items = [] })
  bare names stmts results e = record { items = within_none (stmts_named stmts ++ exprs_named results); results = λ h. within_from (exprs_named results) [] e (within_none (exprs_named es)) }

  local_only : (n : Bytes) → exprs_named (expr.Local n ∷ []) ≡ []
  local_only n = one_named (expr.Local n) ∙ named-local n

  a_local : (names : List Bytes) (stmts : List Stmt) (n : Bytes) → IsNamed plain es (record { names = names; stmts = stmts; results = expr.Local n ∷ []; items = [] })
  a_local names stmts n = bare names stmts (expr.Local n ∷ []) (local_only n)

  two_words : (names : List Bytes) (stmts : List Stmt) (p n : Bytes) → IsNamed plain es (record { names = names; stmts = stmts; results = expr.CastMut p ∷ expr.Local n ∷ []; items = [] })
  two_words names stmts p n = bare names stmts (expr.CastMut p ∷ expr.Local n ∷ []) (ap₂ (λ (x y : Items). x ++ y) (named-mut p) (local_only n))

  -- a local has the value of a call of `_rt`
  lifted : (prefix : Bytes) (i : RuntimeItem) (e : Expr) (t : ℕ) → IsNamed plain es (one_local prefix (runtime_call i e) (i ∷ []) t)
  lifted prefix i e t =
      let code = one_local prefix (runtime_call i e) (i ∷ []) t in
      let call = runtime_call i e in
      record {
        items = within_left (stmts_named code.stmts) (exprs_named code.results) (within_left (asked_by_stmt (stmt.Let _ call)) [] (within_to (asked_by_expr call) (asked_by_stmt (stmt.Let _ call)) (sym (let_named _ call)) (item_named i (e ∷ []))));
        results = λ h. within_from (exprs_named code.results) [] (local_only _) (within_none (exprs_named es));
      }

  -- a call of it alone
  called : (i : RuntimeItem) (arguments : List Expr) → IsNamed plain es (effect (stmt.Expr (expr.Call (runtime_path i) arguments)) (i ∷ []))
  called i arguments =
      let call = expr.Call (runtime_path i) arguments in
      record {
        items = within_left (asked_by_stmt (stmt.Expr call) ++ []) [] (within_left (asked_by_stmt (stmt.Expr call)) [] (within_to (asked_by_expr call) (asked_by_stmt (stmt.Expr call)) (sym (expr_named call)) (item_named i arguments)));
        results = λ h. within_none (exprs_named es);
      }

  for_each : {A : Type 0} (o : Option A) (code : A → ℕ → Emission) → ((x : A) (t : ℕ) → IsNamed plain es (code x t)) → AreNamed plain es (option_map code o)
  for_each None code h = tt
  for_each (Some x) code h = h x

  enum_lifted : (e : Expr) (s : EnumSite) → AreNamed plain es (lifts_enum e s)
  enum_lifted e s = go (root_name s.path)
    where
      go : (o : Option Bytes) → AreNamed plain es (option_and_then (λ name. option_map (case_let name e) (case_cast s.repr)) o)
      go None = tt
      go (Some name) = for_each (case_cast s.repr) (case_let name e) (λ to t. a_local _ _ _)

  enums_lifted : (e : Expr) (o : Option EnumSite) → AreNamed plain es (option_and_then (lifts_enum e) o)
  enums_lifted e None = tt
  enums_lifted e (Some s) = enum_lifted e s

  gives : (e : Expr) (o : Option Bytes) → AreNamed plain es (Some (gives_text e o))
  gives e None = λ t. two_words _ _ _ _
  gives e (Some name) = λ t. two_words _ _ _ _

  -- a parameter
  params : (ps : List ParamSite) (n : ℕ) → ArePlain ps → AreNamed plain es (option_map (λ (p : ParamSite). λ t. alone p.operand.expr) (slice_get ps n))
  params [] n all = tt
  params (p ∷ ps) zero all = λ t. bare [] [] (p.operand.expr ∷ []) (one_named p.operand.expr ∙ all.0)
  params (p ∷ ps) (suc n) all = params ps n all.1

-- 2. Operands that become results

-- as they are
kept : (plain : Bool) (a e : Expr) → asked_by_expr e ≡ asked_by_expr a → IsNamed plain (a ∷ []) (alone e)
kept plain a e is = record { items = within_none (exprs_named (e ∷ [])); results = λ h. within_as (exprs_named (e ∷ [])) (exprs_named (a ∷ [])) (ap (λ (xs : Items). xs ++ []) is) }

conversion : (i : RuntimeItem) (a : Expr) → IsNamed false (a ∷ []) (converted i a)
conversion i a = record { items = within_left (asked_by_expr (runtime_call i a)) [] (item_named i (a ∷ [])); results = λ h. absurd (let no = h in cc) }

-- by casts
cast_one : (b : Bool) (slot : Bytes) (e : Expr) → Within (asked_by_expr (cast_result b slot e)) (asked_by_expr e)
cast_one true slot e = within_from (asked_by_expr (expr.Local slot)) [] (named-local slot) (within_none (asked_by_expr e))
cast_one false slot e = within_self (asked_by_expr e)

casts_named : (at : ℕ) (cs : List Bitcast) (es : List Expr) (t : ℕ) → Within (exprs_named (casts_from at cs es t)) (exprs_named es)
casts_named at [] es t = within_none (exprs_named es)
casts_named at (c ∷ cs) [] t = within_none []
casts_named at (c ∷ cs) (e ∷ es) t =
    let slot = part_name slot_prefix t at in
    within_pairs (asked_by_expr (cast_result (needs_slot c) slot (cast_expr c e))) (exprs_named (casts_from (at + 1) cs es t)) (asked_by_expr e) (exprs_named es)
    (within_to (asked_by_expr (cast_expr c e)) (asked_by_expr e) (cast_named c e) (cast_one (needs_slot c) slot (cast_expr c e))) (casts_named (at + 1) cs es t)

casted : (plain : Bool) (cs : List Bitcast) (es : List Expr) (t : ℕ) → IsNamed plain es (casts cs es t)
casted plain cs es t = record { items = within_none (emission_named (casts cs es t)); results = λ h. casts_named 0 cs es t }

-- the bytes of a text are taken over
text_taken : (plain : Bool) (es : List Expr) (a n : Expr) (t : ℕ) → IsNamed plain es (record { names = taken_names t; stmts = taken_stmts t a n; results = expr.Local (text_name t) ∷ []; items = VecType ∷ StringLift ∷ [] })
text_taken plain es a n t = record {
  items = within_left (stmts_named (taken_stmts t a n)) (exprs_named (expr.Local (text_name t) ∷ [])) (taken_named t a n);
  results = λ h. within_from (exprs_named (expr.Local (text_name t) ∷ [])) [] (one_named (expr.Local (text_name t)) ∙ named-local (text_name t)) (within_none (exprs_named es));
}
  where
    taken_named : (t : ℕ) (a n : Expr) → Within (VecType ∷ StringLift ∷ []) (stmts_named (taken_stmts t a n))
    taken_named t a n =
        let bytes = expr.FromRawParts a (len_name t) in
        let text = runtime_call StringLift (expr.Local (bytes_name t)) in
        let first = asked_by_stmt (stmt.Let (len_name t) n) in
        let second = asked_by_stmt (stmt.Let (bytes_name t) bytes) in
        let third = asked_by_stmt (stmt.Let (text_name t) text) in
        within_right first (second ++ (third ++ []))
        (within_pairs (VecType ∷ []) (StringLift ∷ []) second (third ++ [])
        (within_to (VecType ∷ asked_by_expr a) second (sym (let_named (bytes_name t) bytes ∙ asked-raw a (len_name t))) (in_left (VecType ∷ []) (asked_by_expr a)))
        (within_left third [] (within_to (asked_by_expr text) third (sym (let_named (text_name t) text)) (item_named StringLift (expr.Local (bytes_name t) ∷ [])))))

-- 3. The table

pub told_named : (b : Context) → ArePlain b.params → (step : Sent) (es : List Expr) → AreNamed (is_plain_step step) es (emitted b step es)
told_named b ps (asks room) [] = λ t. a_local _ _ _ _ _
told_named b ps (sends (GetArg n)) [] = params _ _ b.params n ps
told_named b ps (sends (I32Const n)) [] = λ t. bare _ _ _ _ _ (one_named (expr.I32Const n) ∙ named-const n)
told_named b ps (sends (ConstZero types)) [] = λ t. bare _ _ _ _ _ (zeros_named types.now)
told_named b ps (sends (Bitcasts cs)) es = λ t. casted _ cs.now es t
told_named b ps (sends I32FromU8) (a ∷ []) = λ t. conversion AsI32 a
told_named b ps (sends I32FromS8) (a ∷ []) = λ t. conversion AsI32 a
told_named b ps (sends I32FromU16) (a ∷ []) = λ t. conversion AsI32 a
told_named b ps (sends I32FromS16) (a ∷ []) = λ t. conversion AsI32 a
told_named b ps (sends I32FromU32) (a ∷ []) = λ t. conversion AsI32 a
told_named b ps (sends I32FromS32) (a ∷ []) = λ t. conversion AsI32 a
told_named b ps (sends I32FromChar) (a ∷ []) = λ t. conversion AsI32 a
told_named b ps (sends I64FromU64) (a ∷ []) = λ t. conversion AsI64 a
told_named b ps (sends I64FromS64) (a ∷ []) = λ t. conversion AsI64 a
told_named b ps (sends CoreF32FromF32) (a ∷ []) = λ t. conversion AsF32 a
told_named b ps (sends CoreF64FromF64) (a ∷ []) = λ t. conversion AsF64 a
told_named b ps (sends S32FromI32) (a ∷ []) = λ t. kept _ a a refl
told_named b ps (sends S64FromI64) (a ∷ []) = λ t. kept _ a a refl
told_named b ps (sends F32FromCoreF32) (a ∷ []) = λ t. kept _ a a refl
told_named b ps (sends F64FromCoreF64) (a ∷ []) = λ t. kept _ a a refl
told_named b ps (sends S8FromI32) (a ∷ []) = λ t. kept _ a _ (named-cast a _)
told_named b ps (sends U8FromI32) (a ∷ []) = λ t. kept _ a _ (named-cast a _)
told_named b ps (sends S16FromI32) (a ∷ []) = λ t. kept _ a _ (named-cast a _)
told_named b ps (sends U16FromI32) (a ∷ []) = λ t. kept _ a _ (named-cast a _)
told_named b ps (sends U32FromI32) (a ∷ []) = λ t. kept _ a _ (named-cast a _)
told_named b ps (sends U64FromI64) (a ∷ []) = λ t. kept _ a _ (named-cast a _)
told_named b ps (sends CharFromI32) (a ∷ []) = λ t. lifted _ _ (codes "c") CharLift (expr.Cast a to.U32) t
told_named b ps (sends I32FromBool) (a ∷ []) = λ t. a_local _ _ _ _ _
told_named b ps (sends BoolFromI32) (a ∷ []) = λ t. lifted _ _ (codes "b") BoolLift (expr.Cast a to.U8) t
told_named b ps (sends (RecordLower id)) (a ∷ []) = for_each _ _ (record_at b.sites id.0) (splits_record a) (λ s t. bare _ _ _ _ _ (locals_named (locals_for s.fields t)))
told_named b ps (sends (RecordLift id)) es = for_each _ _ (record_at b.sites id.0) (makes_record es) (λ s t. a_local _ _ _ _ _)
told_named b ps (sends (EnumLower id)) (a ∷ []) = λ t. kept _ a _ (named-number a)
told_named b ps (sends (EnumLift id)) (a ∷ []) = enums_lifted _ _ a (enum_at b.sites id.0)
told_named b ps (sends (FlagsLower id)) (a ∷ []) = for_each _ _ (flags_at b.sites id.0) (lowers_flags a) (λ s t. bare _ _ _ _ _ (bits_named _ 0 _))
told_named b ps (sends (FlagsLift id)) (w ∷ es) = for_each _ _ (flags_at b.sites id.0) (lifts_flags (w ∷ es)) (λ s t. a_local _ _ _ _ _)
told_named b ps (sends (TupleLower n)) (a ∷ []) = λ t. bare _ _ _ _ _ (locals_named (names_from part_prefix t 0 n))
told_named b ps (sends (TupleLift n)) es = λ t. a_local _ _ _ _ _
told_named b ps (sends (StringLower false)) (a ∷ []) = λ t. two_words _ _ _ _ _ _
told_named b ps (sends (StringLower true)) (a ∷ []) = gives _ _ a (local_of a)
told_named b ps (sends LiftText) (a ∷ n ∷ []) = λ t. text_taken _ _ a n t
told_named b ps (sends (Flush n)) es = λ t. bare _ _ _ _ _ (locals_named (names_from flush_prefix t 0 n))
told_named b ps (sends (Return n)) es = λ t. bare _ _ _ _ _ refl
told_named b ps (sends (I32Load8U o)) (a ∷ []) = λ t. a_local _ _ _ _ _
told_named b ps (sends (I32Load8S o)) (a ∷ []) = λ t. a_local _ _ _ _ _
told_named b ps (sends (I32Load16U o)) (a ∷ []) = λ t. a_local _ _ _ _ _
told_named b ps (sends (I32Load16S o)) (a ∷ []) = λ t. a_local _ _ _ _ _
told_named b ps (sends (I32Load o)) (a ∷ []) = λ t. a_local _ _ _ _ _
told_named b ps (sends (I64Load o)) (a ∷ []) = λ t. a_local _ _ _ _ _
told_named b ps (sends (F32Load o)) (a ∷ []) = λ t. a_local _ _ _ _ _
told_named b ps (sends (F64Load o)) (a ∷ []) = λ t. a_local _ _ _ _ _
told_named b ps (sends (PointerLoad o)) (a ∷ []) = λ t. a_local _ _ _ _ _
told_named b ps (sends (LengthLoad o)) (a ∷ []) = λ t. a_local _ _ _ _ _
told_named b ps (sends (I32Store8 o)) (a ∷ at ∷ []) = λ t. bare _ _ _ _ _ refl
told_named b ps (sends (I32Store16 o)) (a ∷ at ∷ []) = λ t. bare _ _ _ _ _ refl
told_named b ps (sends (I32Store o)) (a ∷ at ∷ []) = λ t. bare _ _ _ _ _ refl
told_named b ps (sends (I64Store o)) (a ∷ at ∷ []) = λ t. bare _ _ _ _ _ refl
told_named b ps (sends (F32Store o)) (a ∷ at ∷ []) = λ t. bare _ _ _ _ _ refl
told_named b ps (sends (F64Store o)) (a ∷ at ∷ []) = λ t. bare _ _ _ _ _ refl
told_named b ps (sends (PointerStore o)) (a ∷ at ∷ []) = λ t. bare _ _ _ _ _ refl
told_named b ps (sends (LengthStore o)) (a ∷ at ∷ []) = λ t. bare _ _ _ _ _ refl
told_named b ps (sends (GuestDeallocate size align)) (a ∷ []) = λ t. called _ _ CabiDealloc _
told_named b ps (sends GuestDeallocateString) (a ∷ n ∷ []) = λ t. called _ _ CabiDealloc _
told_named b ps (sends VariantPayloadName) [] = for_each _ _ (innermost b.opened) (λ (k : ℕ). λ t. alone (expr.Local (slot_name the_payload k))) (λ k t. a_local _ _ _ _ _)
told_named b ps (sends IterElem) [] = for_each _ _ (innermost b.opened) (λ (k : ℕ). λ t. alone (expr.Local (slot_name the_element k))) (λ k t. a_local _ _ _ _ _)
told_named b ps (sends IterMapKey) [] = for_each _ _ (innermost b.opened) (λ (k : ℕ). λ t. alone (expr.Local (slot_name the_key k))) (λ k t. a_local _ _ _ _ _)
told_named b ps (sends IterMapValue) [] = for_each _ _ (innermost b.opened) (λ (k : ℕ). λ t. alone (expr.Local (slot_name the_value k))) (λ k t. a_local _ _ _ _ _)
told_named b ps (sends IterBasePointer) [] = for_each _ _ (innermost b.opened) (λ (k : ℕ). λ t. alone (expr.Local (slot_name the_base k))) (λ k t. a_local _ _ _ _ _)
told_named b ps _ es = tt

-- 4. Instructions that use each operand

-- casts of as many words
cast_spent : (b : Bool) (slot : Bytes) (e : Expr) → Within (asked_by_expr e) (stmts_named (cast_stmts b slot e) ++ asked_by_expr (cast_result b slot e))
cast_spent true slot e =
    let one = asked_by_stmt (stmt.LetSlot slot) in
    let two = asked_by_stmt (stmt.WriteSlot slot e) in
    within_left (one ++ (two ++ [])) (asked_by_expr (expr.Local slot)) (within_right one (two ++ []) (within_left two [] (within_as (asked_by_expr e) two (sym (write_named slot e)))))
cast_spent false slot e = within_self (asked_by_expr e)

-- each cast has its operand, in a statement where it needs a slot, and else in its result
pub casts_spent : (at : ℕ) (cs : List Bitcast) (es : List Expr) (t : ℕ) → length es ≡ length cs → Within (exprs_named es) (stmts_named (stmts_from at cs es t) ++ exprs_named (casts_from at cs es t))
casts_spent at [] [] t h = within_none []
casts_spent at [] (e ∷ es) t h = absurd (let no = h in cc)
casts_spent at (c ∷ cs) [] t h = absurd (let no = h in cc)
casts_spent at (c ∷ cs) (e ∷ es) t h =
    let slot = part_name slot_prefix t at in
    let here = cast_expr c e in
    let stmts = cast_stmts (needs_slot c) slot here in
    let last = asked_by_expr (cast_result (needs_slot c) slot here) in
    let more = stmts_from (at + 1) cs es t in
    let results = exprs_named (casts_from (at + 1) cs es t) in
    within_to (stmts_named stmts ++ (stmts_named more ++ (last ++ results))) (stmts_named (stmts ++ more) ++ (last ++ results))
    (assoc (stmts_named stmts) (stmts_named more) (last ++ results) ∙ ap (λ (xs : Items). xs ++ (last ++ results)) (sym (flat_map-append asked_by_stmt stmts more)))
    (within_both (asked_by_expr e) (exprs_named es)
    (within_then (within_from (asked_by_expr e) (asked_by_expr here) (sym (cast_named c e)) (cast_spent (needs_slot c) slot here)) (outer (stmts_named stmts) (stmts_named more) last results))
    (within_then (casts_spent (at + 1) cs es t (let h = h in cc)) (inner (stmts_named stmts) (stmts_named more) last results)))
  where
    assoc : (xs ys zs : Items) → xs ++ (ys ++ zs) ≡ (xs ++ ys) ++ zs
    assoc [] ys zs = refl
    assoc (x ∷ xs) ys zs = ap (λ (us : Items). x ∷ us) (assoc xs ys zs)

    outer : (xs ys us vs : Items) → Within (xs ++ us) (xs ++ (ys ++ (us ++ vs)))
    outer xs ys us vs = within_both xs us (in_left xs (ys ++ (us ++ vs))) (within_right xs (ys ++ (us ++ vs)) (within_right ys (us ++ vs) (in_left us vs)))

    inner : (xs ys us vs : Items) → Within (ys ++ vs) (xs ++ (ys ++ (us ++ vs)))
    inner xs ys us vs = within_right xs (ys ++ (us ++ vs)) (within_both ys vs (in_left ys (us ++ vs)) (within_right ys (us ++ vs) (in_right us vs)))

-- a word and an address
pair_spent : (s : Stmt) (a at : Expr) → asked_by_stmt s ≡ asked_by_expr at ++ asked_by_expr a → Within (exprs_named (a ∷ at ∷ [])) (emission_named (effect s []))
pair_spent s a at is =
    let two = asked_by_expr at ++ asked_by_expr a in
    within_left (asked_by_stmt s ++ []) []
    (within_left (asked_by_stmt s) [] (within_to two (asked_by_stmt s) (sym is)
    (within_both (asked_by_expr a) (exprs_named (at ∷ [])) (in_right (asked_by_expr at) (asked_by_expr a)) (within_from (exprs_named (at ∷ [])) (asked_by_expr at) (one_named at) (in_left (asked_by_expr at) (asked_by_expr a))))))

-- whatever the number of its locals
abbrev pub Spends : List Expr → (ℕ → Emission) → Type 0
Spends es code = (t : ℕ) → Within (exprs_named es) (emission_named (code t))

as_told : (es : List Expr) (one code : ℕ → Emission) → Some one ≡ Some code → Spends es one → Spends es code
as_told es one code e h = subst (Spends es) (some_same one code e) h

pub stores_spend : (b : Context) (i : Instruction) (es : List Expr) (code : ℕ → Emission) → uses i ≡ true → emitted b (sends i) es ≡ Some code → Spends es code
stores_spend b (I32Store8 o) (a ∷ at ∷ []) code q e = as_told (a ∷ at ∷ []) _ code e (λ t. pair_spent _ a at (small_named at o _ a))
stores_spend b (I32Store16 o) (a ∷ at ∷ []) code q e = as_told (a ∷ at ∷ []) _ code e (λ t. pair_spent _ a at (small_named at o _ a))
stores_spend b (I32Store o) (a ∷ at ∷ []) code q e = as_told (a ∷ at ∷ []) _ code e (λ t. pair_spent _ a at (store_named at o _ a))
stores_spend b (I64Store o) (a ∷ at ∷ []) code q e = as_told (a ∷ at ∷ []) _ code e (λ t. pair_spent _ a at (store_named at o _ a))
stores_spend b (F32Store o) (a ∷ at ∷ []) code q e = as_told (a ∷ at ∷ []) _ code e (λ t. pair_spent _ a at (store_named at o _ a))
stores_spend b (F64Store o) (a ∷ at ∷ []) code q e = as_told (a ∷ at ∷ []) _ code e (λ t. pair_spent _ a at (store_named at o _ a))
stores_spend b _ es code q e = absurd (let no = q in let none = e in cc)
