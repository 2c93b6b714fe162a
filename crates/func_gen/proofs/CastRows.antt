-- The row of casts of core words: what they read, and the statements of those that put a pointer into a slot.
use Rattle.std.proofs.Common.{◌≡◌, ℕ, ◌+◌, ◌<◌, ◌≤◌, ◌^◌, ◌%◌, Bool, true, false, Bor, not, ◌&&◌, ◌||◌, List, [], ◌∷◌, ◌++◌, length, map, reverse, Some, refl, sym, ap, ◌∙◌, subst, suc, arith}
use Rattle.std.specs.Prelude.{option_and_then}
use Rattle.std.specs.List.{list_any}
use Rattle.std.specs.Str.{bytes_eq}
use Rattle.wit_model.specs.Bytes.{Bytes}
use Rattle.wit_model.specs.Distinct.{is_distinct}
use Rattle.wit_model.specs.declared.wasm_type.WasmType.{WasmType}
use Rattle.wit_model.specs.declared.wasm_type.WasmType.TheVariants as wasm
use Rattle.wit_layout.specs.Cast.{cast}
use Rattle.wit_layout.specs.CastBits.{after_cast}
use Rattle.wit_layout.specs.Join.{AreInOrder}
use Rattle.wit_layout.specs.declared.bitcast.Bitcast.{Bitcast}
use Rattle.wit_layout.specs.declared.bitcast.Bitcast.TheVariants as bitcast
use Rattle.rust_tree.specs.declared.expr.Expr.{Expr}
use Rattle.rust_tree.specs.declared.expr.Expr.TheVariants as expr
use Rattle.rust_tree.specs.declared.stmt.Stmt.{Stmt}
use Rattle.rust_tree.specs.declared.stmt.Stmt.TheVariants as stmt
use Rattle.wrapper_data.specs.declared.value.RustValue.{RustValue}
use Rattle.wrapper_data.specs.declared.word.Word.{Word}
use Rattle.wrapper_data.specs.declared.word.Word.TheVariants as core
use Rattle.wrapper_meaning.specs.Words.{AreWords, IsWord, bits_of, word_of_bits}
use Rattle.wrapper_values.specs.declared.state.State.{State}
use Rattle.wrapper_values.specs.declared.state.Val.{Val}
use Rattle.wrapper_values.specs.declared.state.Val.TheVariants as val
use Rattle.wrapper_values.specs.Act as machine
use Rattle.wrapper_values.specs.Act.{◌>>=◌, and_then, or_stop}
use Rattle.wrapper_values.specs.CoreWords.{empty_slot}
use Rattle.wrapper_values.specs.Locals.{bind, give_local, slot_with, write_slot}
use Rattle.wrapper_values.specs.Setting.{Setting, stuck}
use Rattle.wrapper_values.proofs.ChangedLemmas.{changed_last}
use Rattle.wrapper_run.specs.Run.{eval, run_stmts}
use Rattle.wrapper_run.specs.Inward.{CallsNothing}
use Rattle.wrapper_run.proofs.InwardCalls.{stmts_quiet}
use Rattle.wrapper_run.proofs.LocalLemmas.{bytes_eq-same, reads-new}
use Rattle.wrapper_run.proofs.StmtSteps.{run-slot, run-write, runs-first}
use Rattle.abi_bindgen.specs.Constants.{AreCasts, CastsWords, cast_words}
use Rattle.abi_bindgen.specs.Laws.{Facts, core_data, ofs}
use Rattle.abi_bindgen.specs.Meaning.{Fact, of, word}
use Rattle.func_gen.specs.Slot.{Slot}
use Rattle.func_gen.specs.declared.function_bindgen.FunctionBindgen.{FunctionBindgen}
use Rattle.func_gen.specs.declared.operand.ExprOperand.{ExprOperand}
use Rattle.func_gen.specs.CastForms.{cast_expr, cast_names, cast_result, cast_stmts, casts, casts_from, needs_slot, slot_prefix, slots_from, stmts_from}
use Rattle.func_gen.specs.FactLemmas.{follows, is_said, word_read}
use Rattle.func_gen.specs.Facts.{AreOwned, Hold, wrong}
use Rattle.func_gen.specs.Forms.{operand_of}
use Rattle.func_gen.specs.Meaning.{func_meaning, owns_of, seen, setting_for}
use Rattle.func_gen.specs.PartForms.{are_operands, exprs_of, part_name}
use Rattle.func_gen.specs.Read.{Env, env_of, less, read}
use Rattle.func_gen.specs.Scope.{Takes, is_used}
use Rattle.func_gen.proofs.CastWords.{cast_reads}
use Rattle.func_gen.proofs.Evaluated.{gives}
use Rattle.func_gen.proofs.FlushRow.{Renamed}
use Rattle.func_gen.proofs.Lasting.{area_same, bound_under, lasts, owns_with, part, with_local}
use Rattle.func_gen.proofs.PartNames.{other_part}
use Rattle.func_gen.proofs.PartsTaken.{AllFree, all_free, using, using_params, using_used}
use Rattle.func_gen.proofs.Several.{add_local}
use Rattle.wit_model.specs.declared.types.TypeDef.{TypeDef}
use Rattle.rust_tree.specs.declared.item.Item.{Item}
use Rattle.abi_bindgen.specs.declared.instruction.Instruction.TheVariants.{Bitcasts}
use Rattle.abi_bindgen.specs.Account.{Account}
use Rattle.abi_bindgen.specs.Instructions.{Emits}
use Rattle.func_gen.specs.declared.function_bindgen.ParamSite.{ParamSite}
use Rattle.func_gen.specs.Added.{Appends}
use Rattle.func_gen.specs.CallForms.{FreshAll}
use Rattle.func_gen.proofs.CallRows.{split_used}
use Rattle.func_gen.proofs.Forming.{still_of, written}
use Rattle.func_gen.proofs.InwardForms.{slots_inward}
use Rattle.func_gen.proofs.OperandLists.{same_operands}
use Rattle.func_gen.proofs.PartRows.{areas_last}
use Rattle.func_gen.proofs.Rows.{same_area}
use Rattle.func_gen.proofs.Steps.{func_adds, ran}
use Rattle.wrapper_meaning.specs.Items.{total}
use Rattle.wrapper_meaning.proofs.PostReturn.{total-append}

-- 1. One cast

module _ (items : List Item) (params : List ParamSite) (env : Env) where
  one_cast : (from last : WasmType) (c : Bitcast) (o : ExprOperand) (x : Word) → AreInOrder from last → c ≡ cast from last → needs_slot c ≡ false → IsWord 2 from x
      → wrong items params env (of (operand_of (cast_expr c o.expr)) (word (word_of_bits 2 last (after_cast 2 (cast from last) (bits_of x))))) ≤ wrong items params env (of o (word x))
  one_cast from last c o x ordered is plain fits =
      let y = word_of_bits 2 last (after_cast 2 (cast from last) (bits_of x)) in
      follows items params env (of o (word x)) (of (operand_of (cast_expr c o.expr)) (word y))
      (λ h. subst (λ k. (read items (cast_expr k o.expr)).at env ≡ Some (val.Word y)) (sym is) (cast_reads items from last ordered (ap needs_slot (sym is) ∙ plain) o.expr x env fits (word_read items o env x h).1))

-- 2. No name of a slot stands twice

module _ (t : ℕ) where
  no_slot : (n at : ℕ) (cs : List Bitcast) → n < at → at + length cs < 2 ^ 64 → list_any (λ u. bytes_eq u (part_name slot_prefix t n)) (slots_from at cs t) ≡ false
  no_slot n at [] below small = refl
  no_slot n at (c ∷ cs) below small = go (needs_slot c) (no_slot n (at + 1) cs (omega arith) (omega arith))
    where
      go : (b : Bool) → list_any (λ u. bytes_eq u (part_name slot_prefix t n)) (slots_from (at + 1) cs t) ≡ false
          → list_any (λ u. bytes_eq u (part_name slot_prefix t n)) (cast_names b (part_name slot_prefix t at) ++ slots_from (at + 1) cs t) ≡ false
      go true h = ap (λ d. d || list_any (λ u. bytes_eq u (part_name slot_prefix t n)) (slots_from (at + 1) cs t)) (other_part slot_prefix t at n (omega arith) below) ∙ h
      go false h = h

  slots_distinct : (at : ℕ) (cs : List Bitcast) → at + length cs < 2 ^ 64 → is_distinct (slots_from at cs t) ≡ true
  slots_distinct at [] small = refl
  slots_distinct at (c ∷ cs) small = go (needs_slot c) (slots_distinct (at + 1) cs (omega arith))
    where
      go : (b : Bool) → is_distinct (slots_from (at + 1) cs t) ≡ true → is_distinct (cast_names b (part_name slot_prefix t at) ++ slots_from (at + 1) cs t) ≡ true
      go true h = ap (λ d. not d && is_distinct (slots_from (at + 1) cs t)) (no_slot at (at + 1) cs (omega arith) (omega arith)) ∙ h
      go false h = h

-- 3. One slot

slot_runs : (w : Setting) (n : Bytes) (e : Expr) (more : List Stmt) (a : ℕ) (s : State) → eval w e (with_local s n empty_slot) ≡ machine.Done (val.Word (core.Pointer a)) (with_local s n empty_slot)
    → run_stmts w (stmt.LetSlot n ∷ stmt.WriteSlot n e ∷ more) s ≡ run_stmts w more (with_local s n (val.Word (core.Slot (Some a))))
unfolding bind write_slot
slot_runs w n e more a s h =
    let s1 = with_local s n empty_slot in
    runs-first w (stmt.LetSlot n) (bind n empty_slot) (stmt.WriteSlot n e ∷ more) s (run-slot w n)
    ∙ runs-first w (stmt.WriteSlot n e) (eval w e >>= write_slot (stuck w) n) more s1 (run-write w n e)
    ∙ ap (λ o. and_then (and_then o (write_slot (stuck w) n)) (λ u. run_stmts w more)) h
    ∙ ap (λ o. and_then (and_then (or_stop (stuck w) (option_and_then (slot_with (val.Word (core.Pointer a))) o) s1) (give_local n)) (λ u. run_stmts w more)) (reads-new n (Some empty_slot) s.locals)
    ∙ ap (λ ls. run_stmts w more (record s1 { locals = ls })) (changed_last (Some (val.Word (core.Slot (Some a)))) n s.locals (record { name = n; value = Some empty_slot }) (bytes_eq-same n))

-- only a pointer is put into one
slot_types : (from last : WasmType) → needs_slot (cast from last) ≡ true → (from ≡ wasm.Pointer) × (last ≡ wasm.PointerOrI64)
slot_types wasm.Pointer wasm.PointerOrI64 h = (refl, refl)
slot_types wasm.I32 wasm.I32 h = absurd cc
slot_types wasm.I32 wasm.I64 h = absurd cc
slot_types wasm.I32 wasm.F32 h = absurd cc
slot_types wasm.I32 wasm.F64 h = absurd cc
slot_types wasm.I32 wasm.Pointer h = absurd cc
slot_types wasm.I32 wasm.PointerOrI64 h = absurd cc
slot_types wasm.I32 wasm.Length h = absurd cc
slot_types wasm.I64 wasm.I32 h = absurd cc
slot_types wasm.I64 wasm.I64 h = absurd cc
slot_types wasm.I64 wasm.F32 h = absurd cc
slot_types wasm.I64 wasm.F64 h = absurd cc
slot_types wasm.I64 wasm.Pointer h = absurd cc
slot_types wasm.I64 wasm.PointerOrI64 h = absurd cc
slot_types wasm.I64 wasm.Length h = absurd cc
slot_types wasm.F32 wasm.I32 h = absurd cc
slot_types wasm.F32 wasm.I64 h = absurd cc
slot_types wasm.F32 wasm.F32 h = absurd cc
slot_types wasm.F32 wasm.F64 h = absurd cc
slot_types wasm.F32 wasm.Pointer h = absurd cc
slot_types wasm.F32 wasm.PointerOrI64 h = absurd cc
slot_types wasm.F32 wasm.Length h = absurd cc
slot_types wasm.F64 wasm.I32 h = absurd cc
slot_types wasm.F64 wasm.I64 h = absurd cc
slot_types wasm.F64 wasm.F32 h = absurd cc
slot_types wasm.F64 wasm.F64 h = absurd cc
slot_types wasm.F64 wasm.Pointer h = absurd cc
slot_types wasm.F64 wasm.PointerOrI64 h = absurd cc
slot_types wasm.F64 wasm.Length h = absurd cc
slot_types wasm.Pointer wasm.I32 h = absurd cc
slot_types wasm.Pointer wasm.I64 h = absurd cc
slot_types wasm.Pointer wasm.F32 h = absurd cc
slot_types wasm.Pointer wasm.F64 h = absurd cc
slot_types wasm.Pointer wasm.Pointer h = absurd cc
slot_types wasm.Pointer wasm.Length h = absurd cc
slot_types wasm.PointerOrI64 wasm.I32 h = absurd cc
slot_types wasm.PointerOrI64 wasm.I64 h = absurd cc
slot_types wasm.PointerOrI64 wasm.F32 h = absurd cc
slot_types wasm.PointerOrI64 wasm.F64 h = absurd cc
slot_types wasm.PointerOrI64 wasm.Pointer h = absurd cc
slot_types wasm.PointerOrI64 wasm.PointerOrI64 h = absurd cc
slot_types wasm.PointerOrI64 wasm.Length h = absurd cc
slot_types wasm.Length wasm.I32 h = absurd cc
slot_types wasm.Length wasm.I64 h = absurd cc
slot_types wasm.Length wasm.F32 h = absurd cc
slot_types wasm.Length wasm.F64 h = absurd cc
slot_types wasm.Length wasm.Pointer h = absurd cc
slot_types wasm.Length wasm.PointerOrI64 h = absurd cc
slot_types wasm.Length wasm.Length h = absurd cc

pointer_word : (x : Word) → IsWord 2 wasm.Pointer x → (a : ℕ) × (x ≡ core.Pointer a) × (a < 2 ^ 32)
pointer_word (core.Pointer a) h = (a, refl, h)
pointer_word _ h = absurd h

-- 4. One after the other

record Slotted (w : Setting) (b : FunctionBindgen) (n : Bytes) (e : Expr) (y : Word) (others : Facts func_meaning) (s : State) : Type 0 where
  given : Val
  runs : (more : List Stmt) → run_stmts w (stmt.LetSlot n ∷ stmt.WriteSlot n e ∷ more) s ≡ run_stmts w more (with_local s n given)
  bare : (f : ℕ → ℕ) → total f (owns_of (with_local s n given)) ≡ total f (owns_of s)
  holds : Hold w.items (record b { scope = record b.scope { used = b.scope.used ++ n ∷ [] } }) (of (operand_of (expr.Local n)) (word y) ∷ others) (with_local s n given)

-- a pointer becomes a slot
slotted : (w : Setting) (b : FunctionBindgen) (n : Bytes) (o : ExprOperand) (a : ℕ) (others : Facts func_meaning) (s : State) → is_used b.scope.used n ≡ false → a < 2 ^ 32 → Hold w.items b (of o (word (core.Pointer a)) ∷ others) s
    → Slotted w b n o.expr (core.Slot (Some (a % 2 ^ 64))) others s
slotted w b n o a others s free small h =
    let given : Val = val.Word (core.Slot (Some a)) in
    let next : FunctionBindgen = record b { scope = record b.scope { used = b.scope.used ++ n ∷ [] } } in
    let whole : a % 2 ^ 64 ≡ a = omega (arith, small) in
    let reads = (word_read w.items o (env_of s) (core.Pointer a) (is_said w.items b.params (env_of s) (of o (word (core.Pointer a))) (omega (arith, h.right)))).1 in
    let under = bound_under s n empty_slot (h.within n free) in
    let there = (read w.items o.expr).mono (env_of s) (env_of (with_local s n empty_slot)) under (val.Word (core.Pointer a)) reads in
    record {
      given = given;
      runs = λ more. slot_runs w n o.expr more a s (gives w o.expr (with_local s n empty_slot) (val.Word (core.Pointer a)) there refl);
      bare = λ f. omega (arith, owns_with f s n given);
      holds = add_local w.items b next others s n given (word (core.Slot (Some (a % 2 ^ 64)))) refl (record { free = free; used = refl }) (ap (λ k. Some (val.Word (core.Slot (Some k)))) (sym whole))
          (part w.items b others (of o (word (core.Pointer a)) ∷ others) s (λ f. omega arith) h);
    }

-- a fact in place of one that weighs as much or more
in_place : (w : Setting) (b : FunctionBindgen) (from last : WasmType) (c : Bitcast) (o : ExprOperand) (x : Word) (others : Facts func_meaning) (s : State) → AreInOrder from last → c ≡ cast from last → needs_slot c ≡ false → IsWord 2 from x
    → Hold w.items b (of o (word x) ∷ others) s → Hold w.items b (of (operand_of (cast_expr c o.expr)) (word (word_of_bits 2 last (after_cast 2 (cast from last) (bits_of x)))) ∷ others) s
in_place w b from last c o x others s ordered is plain fits h = record {
  right = omega (arith, h.right, one_cast w.items b.params (env_of s) from last c o x ordered is plain fits);
  apart = λ n owns. omega (arith, h.apart n owns, one_cast w.items b.params (less (env_of s) n) from last c o x ordered is plain fits);
  within = h.within;
}

slot_is : (c : Bitcast) → needs_slot c ≡ true → c ≡ bitcast.PToP64
slot_is bitcast.PToP64 h = refl
slot_is _ h = absurd (let e : false ≡ true = h in cc)

abbrev cast_facts : (at t : ℕ) → List Bitcast → List ExprOperand → (froms tos : List WasmType) → List Word → Facts func_meaning
cast_facts at t cs os froms tos ws = ofs func_meaning (map operand_of (casts_from at cs (exprs_of os) t)) (core_data func_meaning (cast_words func_meaning froms tos ws))

-- each word is cast, and all other facts last
casted : (w : Setting) (b : FunctionBindgen) (at t : ℕ) (cs : List Bitcast) (os : List ExprOperand) (froms tos : List WasmType) (ws : List Word) (others : Facts func_meaning) (s : State) → AllFree b.scope.used (slots_from at cs t) → AreCasts froms tos cs → AreWords 2 froms ws → length os ≡ length cs
    → Hold w.items b (ofs func_meaning os (core_data func_meaning ws) ++ others) s → Renamed w b (slots_from at cs t) (stmts_from at cs (exprs_of os) t) (cast_facts at t cs os froms tos ws ++ others) s
casted w b at t [] [] froms tos ws others s free a fits len h = record { then = s; runs = refl; account = refl; place = refl; owns = λ f. refl; holds = h; areas = λ k a n is. is }
casted w b at t [] (o ∷ os) froms tos ws others s free a fits len h = absurd (omega (arith, len))
casted w b at t (c ∷ cs) [] froms tos ws others s free a fits len h = absurd (omega (arith, len))
casted w b at t (c ∷ cs) (o ∷ os) [] [] ws others s free a fits len h = absurd cc
casted w b at t (c ∷ cs) (o ∷ os) [] (last ∷ tos) ws others s free a fits len h = absurd a
casted w b at t (c ∷ cs) (o ∷ os) (from ∷ froms) [] ws others s free a fits len h = absurd a
casted w b at t (c ∷ cs) (o ∷ os) (from ∷ froms) (last ∷ tos) [] others s free a fits len h = absurd fits
casted w b at t (c ∷ cs) (o ∷ os) (from ∷ froms) (last ∷ tos) (x ∷ ws) others s free (ordered, same, more) (fit, fits) len h =
    go (λ next others then free h. casted w next (at + 1) t cs os froms tos ws others then free more fits (omega (arith, len)) h) (needs_slot c) refl free
  where
    slot : Bytes
    slot = part_name slot_prefix t at

    y : Word
    y = word_of_bits 2 last (after_cast 2 (cast from last) (bits_of x))

    rest : Facts func_meaning
    rest = ofs func_meaning os (core_data func_meaning ws)

    after : Facts func_meaning
    after = cast_facts (at + 1) t cs os froms tos ws

    go : ((next : FunctionBindgen) (others : Facts func_meaning) (then : State) → AllFree next.scope.used (slots_from (at + 1) cs t) → Hold w.items next (rest ++ others) then
        → Renamed w next (slots_from (at + 1) cs t) (stmts_from (at + 1) cs (exprs_of os) t) (after ++ others) then) → (d : Bool) → needs_slot c ≡ d → AllFree b.scope.used (cast_names d slot ++ slots_from (at + 1) cs t)
        → Renamed w b (cast_names d slot ++ slots_from (at + 1) cs t) (cast_stmts d slot (cast_expr c o.expr) ++ stmts_from (at + 1) cs (exprs_of os) t) (of (operand_of (cast_result d slot (cast_expr c o.expr))) (word y) ∷ (after ++ others)) s
    go behind false is free =
        let first : Fact ExprOperand Slot RustValue = of (operand_of (cast_expr c o.expr)) (word y) in
        let here = in_place w b from last c o x (rest ++ others) s ordered same is fit h in
        let turned = part w.items b (rest ++ (first ∷ others)) (first ∷ (rest ++ others)) s (λ g. omega (arith, total-append g rest others, total-append g rest (first ∷ others))) here in
        let later = behind b (first ∷ others) s free turned in
        record {
          then = later.then;
          runs = later.runs;
          account = later.account;
          place = later.place;
          owns = later.owns;
          holds = part w.items (using b (slots_from (at + 1) cs t)) (first ∷ (after ++ others)) (after ++ (first ∷ others)) later.then (λ g. omega (arith, total-append g after others, total-append g after (first ∷ others))) later.holds;
          areas = later.areas;
        }
    go behind true is free =
        let types = slot_types from last (ap needs_slot (sym same) ∙ is) in
        let (a, word_is, small) = pointer_word x (subst (λ k. IsWord 2 k x) types.0 fit) in
        let next : FunctionBindgen = record b { scope = record b.scope { used = b.scope.used ++ slot ∷ [] } } in
        let made : y ≡ core.Slot (Some (a % 2 ^ 64)) =
        ap (λ k. word_of_bits 2 last (after_cast 2 (cast k last) (bits_of x))) types.0 ∙ ap (λ k. word_of_bits 2 k (after_cast 2 (cast wasm.Pointer k) (bits_of x))) types.1
        ∙ ap (λ z. word_of_bits 2 wasm.PointerOrI64 (after_cast 2 bitcast.PToP64 (bits_of z))) word_is in
        let first : Fact ExprOperand Slot RustValue = of (operand_of (expr.Local slot)) (word (core.Slot (Some (a % 2 ^ 64)))) in
        let one = slotted w b slot o a (rest ++ others) s free.0 small (subst (λ z. Hold w.items b (of o (word z) ∷ (rest ++ others)) s) word_is h) in
        let bound = with_local s slot one.given in
        let turned = part w.items next (rest ++ (first ∷ others)) (first ∷ (rest ++ others)) bound (λ g. omega (arith, total-append g rest others, total-append g rest (first ∷ others))) one.holds in
        let later = behind next (first ∷ others) bound free.1 turned in
        let plain : cast_expr c o.expr ≡ o.expr = ap (λ k. cast_expr k o.expr) (slot_is c is) in
        subst (λ z. Renamed w b (slot ∷ slots_from (at + 1) cs t) (stmt.LetSlot slot ∷ stmt.WriteSlot slot (cast_expr c o.expr) ∷ stmts_from (at + 1) cs (exprs_of os) t) (of (operand_of (expr.Local slot)) (word z) ∷ (after ++ others)) s) (sym made)
        (subst (λ e. Renamed w b (slot ∷ slots_from (at + 1) cs t) (stmt.LetSlot slot ∷ stmt.WriteSlot slot e ∷ stmts_from (at + 1) cs (exprs_of os) t) (first ∷ (after ++ others)) s) (sym plain)
        (record {
          then = later.then;
          runs = one.runs (stmts_from (at + 1) cs (exprs_of os) t) ∙ later.runs;
          account = later.account;
          place = later.place;
          owns = λ f. omega (arith, later.owns f, one.bare f);
          holds = part w.items (using next (slots_from (at + 1) cs t)) (first ∷ (after ++ others)) (after ++ (first ∷ others)) later.then (λ g. omega (arith, total-append g after others, total-append g after (first ∷ others))) later.holds;
          areas = λ k address z is. later.areas k address z (bound_under s slot one.given (h.within slot free.0) k (val.Area address z) is);
        }))

-- 5. No statement makes a call

quiet_slots : (w : Setting) (at t : ℕ) (cs : List Bitcast) (os : List ExprOperand) → are_operands os ≡ true → CallsNothing (run_stmts w (stmts_from at cs (exprs_of os) t))
quiet_slots w at t cs os ok = stmts_quiet w (stmts_from at cs (exprs_of os) t) (slots_inward at cs (exprs_of os) t (same_operands os ∙ ok))

-- 6. The row

pub exprs_many : (os : List ExprOperand) → length (exprs_of os) ≡ length os
exprs_many [] = refl
exprs_many (o ∷ os) = ap suc (exprs_many os)

casts_many : (at t : ℕ) (cs : List Bitcast) (os : List ExprOperand) → length os ≡ length cs → length (map operand_of (casts_from at cs (exprs_of os) t)) ≡ length cs
casts_many at t [] os h = refl
casts_many at t (c ∷ cs) [] h = absurd (omega (arith, h))
casts_many at t (c ∷ cs) (o ∷ os) h = ap suc (casts_many (at + 1) t cs os (omega (arith, h)))

module _ (old new : FunctionBindgen) (t : ℕ) (cs : List Bitcast) (os : List ExprOperand) (a : Appends old new (stmts_from 0 cs (exprs_of os) t) []) (fresh : FreshAll old new (slots_from 0 cs t)) (small : length cs < 2 ^ 64) where
  casts_words : length os ≡ length cs → CastsWords func_meaning cs os (map operand_of (casts_from 0 cs (exprs_of os) t)) old new
  casts_words many froms tos ws are fit w p others s0 s at =
      let names = slots_from 0 cs t in
      let stmts = stmts_from 0 cs (exprs_of os) t in
      let facts = cast_facts 0 t cs os froms tos ws in
      let free = all_free old.scope.used names fresh.free (slots_distinct t 0 cs (omega (arith, small))) in
      let r = casted (setting_for w p) old 0 t cs os froms tos ws others s.machine free are fit many at.holds.hold in (
        record { machine = r.then; area = s.area },
        ran old new stmts [] a w p (ofs func_meaning os (core_data func_meaning ws) ++ others) s0 s at ∙ ap (seen s.area) r.runs,
        (
          facts,
          refl,
          record {
            account = r.account;
            owns = λ g. omega (arith, r.owns g, total-append g (owns_of r.then) [], total-append g (owns_of s.machine) []);
            denotes = record {
              hold = lasts w.items (using old names) new (facts ++ others) r.then r.then (a.params ∙ sym (using_params old names)) (λ n v h. h)
                  (λ n fr. r.holds.within n (sym (ap (λ us. is_used us n) (fresh.used ∙ sym (using_used old names))) ∙ fr)) r.holds;
              owners = subst (λ (acc : Account RustValue). AreOwned acc.heap.blocks acc.taken) (sym r.account) at.holds.owners;
              area = areas_last new.import w.area s.area new.asked new.area s.machine r.then r.areas r.place (area_same w old new s.area s.machine (same_area old new stmts [] a) at.holds.area);
            };
          },
        ),
      )

pub casts_row : (types : List TypeDef) (old new : FunctionBindgen) (t : ℕ) (cs : Bor (List Bitcast)) (os : List ExprOperand) → length os ≡ length cs.now → length cs.now < 2 ^ 64 → are_operands os ≡ true → Appends old new (stmts_from 0 cs.now (exprs_of os) t) [] → FreshAll old new (slots_from 0 cs.now t)
    → Takes old.scope (λ k. slots_from 0 cs.now k) t new.scope → Emits func_meaning types (Bitcasts cs) os (map operand_of (casts_from 0 cs.now (exprs_of os) t)) old new
casts_row types old new t cs os many small ok a fresh takes =
    let es = exprs_of os in
    let names = slots_from 0 cs.now t in
    let rs = map operand_of (casts_from 0 cs.now es t) in
    record {
      adds = func_adds old new (stmts_from 0 cs.now es t) [] a (λ k free. (split_used old new names fresh k free).0) (λ w. quiet_slots w 0 t cs.now os ok);
      blocks = ap reverse a.finished;
      returned = a.returned;
      asked = a.asked;
      results = casts_many 0 t cs.now os many;
      form = record {
        still = still_of old new (stmts_from 0 cs.now es t) [] a;
        given = many;
        code = record { code = casts cs.now es; is = refl; writes = written old new rs (casts cs.now es) t takes a refl };
      };
      row = casts_words old new t cs.now os a fresh small many;
    }
