-- The rows of loads.
use Rattle.std.proofs.Common.{rules, ◌≡◌, ℕ, ◌+◌, ◌%◌, ◌^◌, Bool, true, false, nat_eq, nat_lt, if◌then◌else◌, List, [], ◌∷◌, length, Option, None, Some, option_map, refl, sym, ap, ◌∙◌, subst, arith}
use Rattle.std.specs.Prelude.{codes}
use Rattle.std.proofs.lemmas.Bool.{ltb-true}
use Rattle.wit_model.specs.Bytes.{Bytes}
use Rattle.wit_model.specs.Size.{bytes_at}
use Rattle.wit_model.specs.declared.size.ArchitectureSize.{ArchitectureSize}
use Rattle.wit_model.specs.declared.types.TypeDef.{TypeDef}
use Rattle.wit_model.specs.declared.wasm_type.WasmType.{WasmType}
use Rattle.wit_model.specs.declared.wasm_type.WasmType.TheVariants as wasm
use Rattle.rust_tree.specs.declared.expr.Expr.{Expr, the_lemmas}
use Rattle.rust_tree.specs.declared.expr.Expr.TheVariants as expr
use Rattle.rust_tree.specs.declared.expr.SmallType.{SmallType}
use Rattle.rust_tree.specs.declared.expr.SmallType.TheVariants as small
use Rattle.rust_tree.specs.declared.stmt.Stmt.TheVariants as stmt
use Rattle.wrapper_data.specs.declared.form.Form.{Form}
use Rattle.wrapper_data.specs.declared.form.Form.TheVariants as form
use Rattle.wrapper_data.specs.declared.run.TrapKind.TheVariants as trap
use Rattle.wrapper_data.specs.declared.value.RustValue.{RustValue}
use Rattle.wrapper_data.specs.declared.word.Word.{Word}
use Rattle.wrapper_data.specs.declared.word.Word.TheVariants as core
use Rattle.wrapper_meaning.specs.Cells.{little}
use Rattle.wrapper_meaning.proofs.Lists.{some_same}
use Rattle.wrapper_values.specs.declared.state.State.{State}
use Rattle.wrapper_values.specs.declared.state.Val.{Val}
use Rattle.wrapper_values.specs.declared.state.Val.TheVariants as val
use Rattle.wrapper_values.specs.Act as machine
use Rattle.wrapper_values.specs.Act.{Act, and_then, or_stop, stop, ◌>>=◌}
use Rattle.wrapper_values.specs.Setting.{Setting, failed}
use Rattle.wrapper_run.specs.Memory.{bytes_of_small, bytes_of_type, loaded, loaded_small, word_from}
use Rattle.wrapper_run.specs.Memory as memory
use Rattle.wrapper_run.specs.Run.{eval, load_small, load_word}
use Rattle.wrapper_run.specs.Inward.{CallsNothing}
use Rattle.wrapper_run.proofs.InwardCalls.{expr_quiet}
use Rattle.abi_bindgen.specs.declared.instruction.Instruction.{Instruction}
use Rattle.abi_bindgen.specs.declared.instruction.Instruction.TheVariants.{F32Load, F64Load, I32Load, I32Load16S, I32Load16U, I32Load8S, I32Load8U, I64Load, LengthLoad, PointerLoad}
use Rattle.abi_bindgen.specs.Account.{Got, Outcome, Stuck, failing, gives as law_gives}
use Rattle.abi_bindgen.specs.Instructions.{Emits, lifted_scalar, lowered_scalar}
use Rattle.abi_bindgen.specs.Laws.{Adds}
use Rattle.abi_bindgen.specs.Meaning.{of, word}
use Rattle.abi_bindgen.specs.Memory as law
use Rattle.abi_bindgen.specs.Memory.{Access, loading}
use Rattle.abi_bindgen.specs.Touches.{LoadsWord, Part, accessed, loads, low_byte, low_half, touch, whole}
use Rattle.func_gen.specs.declared.function_bindgen.FunctionBindgen.{FunctionBindgen}
use Rattle.func_gen.specs.Added.{Appends, Fresh}
use Rattle.func_gen.specs.FactLemmas.{is_said}
use Rattle.func_gen.specs.Facts.{Hold}
use Rattle.func_gen.specs.Forms.{operand_of}
use Rattle.func_gen.specs.Meaning.{account_of, func_meaning, setting_for}
use Rattle.func_gen.specs.MemoryForms.{small_load, whole_load}
use Rattle.func_gen.specs.Operand.{is_operand}
use Rattle.func_gen.specs.Read.{env_of}
use Rattle.abi_bindgen.specs.Sent.{sends}
use Rattle.func_gen.specs.Scope.{TakesOne}
use Rattle.func_gen.proofs.Emissions.{small_load_emitted, whole_load_emitted}
use Rattle.func_gen.proofs.Evaluated.{gives}
use Rattle.func_gen.proofs.Forming.{form_let, touches_plain}
use Rattle.func_gen.proofs.InwardForms.{load_inward, load_small_inward}
use Rattle.func_gen.proofs.LoadTies.{HasLength, Reads, byte_read, f32_read, f64_read, half_read, i32_read, i64_read, length_read, many_at, pointer_read, same_found, signed_byte_read, signed_half_read, small_from}
use Rattle.func_gen.proofs.PlainOperands.{reads_plainly, touches_plainly}
use Rattle.func_gen.proofs.Rows.{AgreesBy, let_adds, lets_by}
use Rattle.func_gen.proofs.StoreRows.{emits_touch}

-- 1. What the machine does

eval-load : (w : Setting) (e : Expr) (o : ArchitectureSize) (ty : WasmType) → eval w (expr.Load e o ty) ≡ (eval w e >>= load_word w o ty)
eval-load w e o ty = search (rules, the_lemmas)

eval-load_small : (w : Setting) (e : Expr) (o : ArchitectureSize) (ty : SmallType) → eval w (expr.LoadSmall e o ty) ≡ (eval w e >>= load_small w o ty)
eval-load_small w e o ty = search (rules, the_lemmas)

-- the bytes at an aligned address are read as a word, where there are so many; and there is a trap else
abbrev reads_there : Setting → (k address : ℕ) → (List ℕ → Word) → Act Val
reads_there w k address told s =
    or_stop (failed w trap.Pointer) (option_map val.Word (if nat_eq (address % k) 0 then option_map told (memory.bytes_at address k s.heap.blocks) else None)) s

-- an operand that denotes an address gives it
pub address_given : (w : Setting) (b : FunctionBindgen) (e : Expr) (address : ℕ) (s : State) → Hold w.items b (of (operand_of e) (word (core.Pointer address)) ∷ []) s → eval w e s ≡ machine.Done (val.Word (core.Pointer address)) s
address_given w b e address s h = gives w e s (val.Word (core.Pointer address)) (is_said w.items b.params (env_of s) (of (operand_of e) (word (core.Pointer address))) (omega (arith, h.right))) refl

load_run : (w : Setting) (b : FunctionBindgen) (e : Expr) (o : ArchitectureSize) (ty : WasmType) (address : ℕ) (s : State) → Hold w.items b (of (operand_of e) (word (core.Pointer address)) ∷ []) s
    → eval w (expr.Load e o ty) s ≡ reads_there w (bytes_of_type ty) (address + bytes_at o 4) (word_from ty) s
unfolding loaded
load_run w b e o ty address s h = ap (λ act. act s) (eval-load w e o ty) ∙ ap (λ r. and_then r (load_word w o ty)) (address_given w b e address s h)

load_small_run : (w : Setting) (b : FunctionBindgen) (e : Expr) (o : ArchitectureSize) (ty : SmallType) (address : ℕ) (s : State) → Hold w.items b (of (operand_of e) (word (core.Pointer address)) ∷ []) s
    → eval w (expr.LoadSmall e o ty) s ≡ reads_there w (bytes_of_small ty) (address + bytes_at o 4) (small_from ty) s
unfolding loaded_small
load_small_run w b e o ty address s h = ap (λ act. act s) (eval-load_small w e o ty) ∙ ap (λ r. and_then r (load_small w o ty)) (address_given w b e address s h)

-- 2. It agrees with the law

module _ (w : Setting) (s : State) (a : Access) (k : ℕ) (told : List ℕ → Word) (size : 2 ^ a.grain ≡ k) (tie : Reads a k told) where
  abbrev Loads : Form → Outcome RustValue (Got RustValue Word) → machine.Outcome Val → Type 0
  Loads f o q = AgreesBy Word (account_of s) o q s (λ x. word x)

  untold : (f : Form) → Loads f (failing f trap.Pointer (account_of s)) (stop (failed (record w { form = f }) trap.Pointer) s)
  untold form.Debug = refl
  untold form.Release = refl

  -- the number of the bytes is a word, or has no meaning
  bytes_agree : (f : Form) (bytes : List ℕ) → length bytes ≡ k → (c : Bool) → nat_lt (little bytes) (256 ^ k) ≡ c
      → Loads f (if c then law_gives (law.word_read 2 a (little bytes)) (account_of s) else Stuck (account_of s)) (machine.Done (val.Word (told bytes)) s)
  bytes_agree f bytes many true below = (refl, (val.Word (told bytes), refl, refl, ap (λ x. Some (val.Word x)) (sym (tie bytes many (ltb-true (little bytes) (256 ^ k) below)))))
  bytes_agree f bytes many false below = refl

  found_agree : (f : Form) (o : Option (List ℕ)) → HasLength k o → Loads f (law.loaded 2 f a (option_map little o) (account_of s)) (or_stop (failed (record w { form = f }) trap.Pointer) (option_map val.Word (option_map told o)) s)
  found_agree f None h = untold f
  found_agree f (Some bytes) h = subst (λ n. Loads f (if nat_lt (little bytes) (256 ^ n) then law_gives (law.word_read 2 a (little bytes)) (account_of s) else Stuck (account_of s)) (machine.Done (val.Word (told bytes)) s)) (sym size)
      (bytes_agree f bytes h (nat_lt (little bytes) (256 ^ k)) refl)

  abbrev At : Form → ℕ → ℕ → Bool → Type 0
  At f n address c =
      Loads f (law.loaded 2 f a (if c then option_map little (law.bytes_at address n s.heap.blocks) else None) (account_of s))
      (or_stop (failed (record w { form = f }) trap.Pointer) (option_map val.Word (if c then option_map told (memory.bytes_at address k s.heap.blocks) else None)) s)

  aligned_agree : (f : Form) (address : ℕ) (c : Bool) → At f k address c
  aligned_agree f address true =
      subst (λ o. Loads f (law.loaded 2 f a (option_map little (law.bytes_at address k s.heap.blocks)) (account_of s)) (or_stop (failed (record w { form = f }) trap.Pointer) (option_map val.Word (option_map told o)) s)) (same_found address k s.heap.blocks)
      (found_agree f (law.bytes_at address k s.heap.blocks) (many_at address k s.heap.blocks))
  aligned_agree f address false = untold f

  pub loads_agree : (f : Form) (address : ℕ) → Loads f (loading 2 f a address (account_of s)) (reads_there (record w { form = f }) k address told s)
  loads_agree f address =
      subst (λ n. Loads f (law.loaded 2 f a (if nat_eq (address % n) 0 then option_map little (law.bytes_at address n s.heap.blocks) else None) (account_of s)) (reads_there (record w { form = f }) k address told s)) (sym size)
      (aligned_agree f address (nat_eq (address % k) 0))

-- 3. The rows

module _ (old new : FunctionBindgen) (n : Bytes) (e : Expr) (ok : is_operand e ≡ true) (o : ArchitectureSize) (fresh : Fresh old new n) where
  -- an expression that loads is a word of the law
  abbrev Follows : Access → Expr → Type 0
  Follows a value = (w : Setting) (f : Form) (address : ℕ) (s : State) → w.form ≡ f → Hold w.items old (of (operand_of e) (word (core.Pointer address)) ∷ []) s
      → AgreesBy Word (account_of s) (loading 2 f a (address + bytes_at o 4) (account_of s)) (eval w value s) s (λ x. word x)

  module _ (a : Access) (value : Expr) (quiet : (w : Setting) → CallsNothing (eval w value)) (adds : Appends old new (stmt.Let n value ∷ []) []) where
    pub load_adds : Adds func_meaning old new
    load_adds = let_adds old new n value [] adds fresh quiet

    pub load_row : Follows a value → LoadsWord func_meaning a o (operand_of e ∷ []) (operand_of (expr.Local n) ∷ []) old new
    load_row follows address =
        lets_by old new n value [] adds fresh quiet Word (of (operand_of e) (word (core.Pointer address)) ∷ []) (λ p. loading 2 p.form a (address + bytes_at o 4)) (λ x. word x)
        (λ x fs. fs ≡ of (operand_of (expr.Local n)) (word x) ∷ []) (λ x. refl) (λ w p s found h. follows (setting_for w p) p.form address s refl h)

  quiet_whole : (ty : WasmType) (w : Setting) → CallsNothing (eval w (expr.Load e o ty))
  quiet_whole ty w = expr_quiet w (expr.Load e o ty) (load_inward e ok o ty)

  quiet_small : (ty : SmallType) (w : Setting) → CallsNothing (eval w (expr.LoadSmall e o ty))
  quiet_small ty w = expr_quiet w (expr.LoadSmall e o ty) (load_small_inward e ok o ty)

  whole_follows : (ty : WasmType) (a : Access) → 2 ^ a.grain ≡ bytes_of_type ty → Reads a (bytes_of_type ty) (word_from ty) → Follows a (expr.Load e o ty)
  whole_follows ty a size tie w f address s same h =
      subst (λ q. AgreesBy Word (account_of s) (loading 2 f a (address + bytes_at o 4) (account_of s)) q s (λ x. word x)) (sym (load_run w old e o ty address s h))
      (subst (λ g. AgreesBy Word (account_of s) (loading 2 g a (address + bytes_at o 4) (account_of s)) (reads_there w (bytes_of_type ty) (address + bytes_at o 4) (word_from ty) s) s (λ x. word x)) same
      (loads_agree w s a (bytes_of_type ty) (word_from ty) size tie w.form (address + bytes_at o 4)))

  small_follows : (ty : SmallType) (a : Access) → 2 ^ a.grain ≡ bytes_of_small ty → Reads a (bytes_of_small ty) (small_from ty) → Follows a (expr.LoadSmall e o ty)
  small_follows ty a size tie w f address s same h =
      subst (λ q. AgreesBy Word (account_of s) (loading 2 f a (address + bytes_at o 4) (account_of s)) q s (λ x. word x)) (sym (load_small_run w old e o ty address s h))
      (subst (λ g. AgreesBy Word (account_of s) (loading 2 g a (address + bytes_at o 4) (account_of s)) (reads_there w (bytes_of_small ty) (address + bytes_at o 4) (small_from ty) s) s (λ x. word x)) same
      (loads_agree w s a (bytes_of_small ty) (small_from ty) size tie w.form (address + bytes_at o 4)))

-- 4. The tables

record IsLoad (i : Instruction) (o : ArchitectureSize) (k : ℕ) (told : List ℕ → Word) : Type 0 where
  part : Part
  signed : Bool
  ty : WasmType
  lowered : lowered_scalar i ≡ None
  lifted : lifted_scalar i ≡ None
  touched : touch i ≡ Some (loads part signed ty o)
  size : 2 ^ (accessed 2 part signed ty).grain ≡ k
  tie : Reads (accessed 2 part signed ty) k told

abbrev IsWholeLoad : Instruction → ArchitectureSize × WasmType → Type 0
IsWholeLoad i q = IsLoad i q.0 (bytes_of_type q.1) (word_from q.1)

whole_word : (i : Instruction) (o : ArchitectureSize) (ty : WasmType) → lowered_scalar i ≡ None → lifted_scalar i ≡ None → touch i ≡ Some (loads whole false ty o) → 2 ^ (accessed 2 whole false ty).grain ≡ bytes_of_type ty
    → Reads (accessed 2 whole false ty) (bytes_of_type ty) (word_from ty) → IsWholeLoad i (o, ty)
whole_word i o ty lowered lifted touched size tie = record { part = whole; signed = false; ty = ty; lowered = lowered; lifted = lifted; touched = touched; size = size; tie = tie }

is_load : (i : Instruction) (q : ArchitectureSize × WasmType) → whole_load i ≡ Some q → IsWholeLoad i q
is_load (I32Load p) q e = subst (IsWholeLoad (I32Load p)) (some_same (p, wasm.I32) q e) (whole_word (I32Load p) p wasm.I32 refl refl refl refl i32_read)
is_load (I64Load p) q e = subst (IsWholeLoad (I64Load p)) (some_same (p, wasm.I64) q e) (whole_word (I64Load p) p wasm.I64 refl refl refl refl i64_read)
is_load (F32Load p) q e = subst (IsWholeLoad (F32Load p)) (some_same (p, wasm.F32) q e) (whole_word (F32Load p) p wasm.F32 refl refl refl refl f32_read)
is_load (F64Load p) q e = subst (IsWholeLoad (F64Load p)) (some_same (p, wasm.F64) q e) (whole_word (F64Load p) p wasm.F64 refl refl refl refl f64_read)
is_load (PointerLoad p) q e = subst (IsWholeLoad (PointerLoad p)) (some_same (p, wasm.Pointer) q e) (whole_word (PointerLoad p) p wasm.Pointer refl refl refl refl pointer_read)
is_load (LengthLoad p) q e = subst (IsWholeLoad (LengthLoad p)) (some_same (p, wasm.Length) q e) (whole_word (LengthLoad p) p wasm.Length refl refl refl refl length_read)
is_load _ q e = absurd (let h = e in cc)

abbrev IsSmallLoad : Instruction → ArchitectureSize × SmallType → Type 0
IsSmallLoad i q = IsLoad i q.0 (bytes_of_small q.1) (small_from q.1)

is_small_load : (i : Instruction) (q : ArchitectureSize × SmallType) → small_load i ≡ Some q → IsSmallLoad i q
is_small_load (I32Load8U p) q e =
    subst (IsSmallLoad (I32Load8U p)) (some_same (p, small.U8) q e) (record { part = low_byte; signed = false; ty = wasm.I32; lowered = refl; lifted = refl; touched = refl; size = refl; tie = byte_read })
is_small_load (I32Load8S p) q e =
    subst (IsSmallLoad (I32Load8S p)) (some_same (p, small.I8) q e) (record { part = low_byte; signed = true; ty = wasm.I32; lowered = refl; lifted = refl; touched = refl; size = refl; tie = signed_byte_read })
is_small_load (I32Load16U p) q e =
    subst (IsSmallLoad (I32Load16U p)) (some_same (p, small.U16) q e) (record { part = low_half; signed = false; ty = wasm.I32; lowered = refl; lifted = refl; touched = refl; size = refl; tie = half_read })
is_small_load (I32Load16S p) q e =
    subst (IsSmallLoad (I32Load16S p)) (some_same (p, small.I16) q e) (record { part = low_half; signed = true; ty = wasm.I32; lowered = refl; lifted = refl; touched = refl; size = refl; tie = signed_half_read })
is_small_load _ q e = absurd (let h = e in cc)

pub whole_load_plainly : (i : Instruction) (q : ArchitectureSize × WasmType) → whole_load i ≡ Some q → reads_plainly i ≡ true
whole_load_plainly i q e = let t = is_load i q e in touches_plainly i (loads t.part t.signed t.ty q.0) t.lowered t.lifted t.touched

pub small_load_plainly : (i : Instruction) (q : ArchitectureSize × SmallType) → small_load i ≡ Some q → reads_plainly i ≡ true
small_load_plainly i q e = let t = is_small_load i q e in touches_plainly i (loads t.part t.signed t.ty q.0) t.lowered t.lifted t.touched

module _ (types : List TypeDef) (old new : FunctionBindgen) (i : Instruction) (n : Bytes) (e : Expr) (ok : is_operand e ≡ true) (fresh : Fresh old new n) (one : TakesOne old.scope (codes "l") n new.scope) where
  pub whole_load_row : (q : ArchitectureSize × WasmType) → whole_load i ≡ Some q → Appends old new (stmt.Let n (expr.Load e q.0 q.1) ∷ []) [] → Emits func_meaning types i (operand_of e ∷ []) (operand_of (expr.Local n) ∷ []) old new
  whole_load_row q is adds =
      let t = is_load i q is in
      let a = accessed 2 t.part t.signed t.ty in
      let value = expr.Load e q.0 q.1 in
      let quiet = quiet_whole old new n e ok q.0 fresh q.1 in
      emits_touch types old new i (loads t.part t.signed t.ty q.0) (operand_of e ∷ []) (operand_of (expr.Local n) ∷ []) t.lowered t.lifted t.touched refl (load_adds old new n e ok q.0 fresh a value quiet adds) adds.returned
      (form_let (sends i) (touches_plain i (loads t.part t.signed t.ty q.0) t.touched) (operand_of e ∷ []) old new (codes "l") n value [] (whole_load_emitted old i q e is) one adds)
      (load_row old new n e ok q.0 fresh a value quiet adds (whole_follows old new n e ok q.0 fresh q.1 a t.size t.tie))

  pub small_load_row : (q : ArchitectureSize × SmallType) → small_load i ≡ Some q → Appends old new (stmt.Let n (expr.LoadSmall e q.0 q.1) ∷ []) [] → Emits func_meaning types i (operand_of e ∷ []) (operand_of (expr.Local n) ∷ []) old new
  small_load_row q is adds =
      let t = is_small_load i q is in
      let a = accessed 2 t.part t.signed t.ty in
      let value = expr.LoadSmall e q.0 q.1 in
      let quiet = quiet_small old new n e ok q.0 fresh q.1 in
      emits_touch types old new i (loads t.part t.signed t.ty q.0) (operand_of e ∷ []) (operand_of (expr.Local n) ∷ []) t.lowered t.lifted t.touched refl (load_adds old new n e ok q.0 fresh a value quiet adds) adds.returned
      (form_let (sends i) (touches_plain i (loads t.part t.signed t.ty q.0) t.touched) (operand_of e ∷ []) old new (codes "l") n value [] (small_load_emitted old i q e is) one adds)
      (load_row old new n e ok q.0 fresh a value quiet adds (small_follows old new n e ok q.0 fresh q.1 a t.size t.tie))
