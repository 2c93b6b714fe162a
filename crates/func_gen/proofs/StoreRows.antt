-- The rows of stores.
use Rattle.std.proofs.Common.{◌≡◌, ℕ, ◌+◌, ◌%◌, ◌&&◌, nat_eq, ℤ, Bool, true, false, if◌then◌else◌, List, [], ◌∷◌, length, Option, None, Some, refl, sym, ap, ◌∙◌, subst, arith}
use Rattle.wit_model.specs.Size.{bytes_at}
use Rattle.wit_model.specs.declared.size.ArchitectureSize.{ArchitectureSize}
use Rattle.wit_model.specs.declared.types.TypeDef.{TypeDef}
use Rattle.wit_model.specs.declared.wasm_type.WasmType.{WasmType}
use Rattle.wit_model.specs.declared.wasm_type.WasmType.TheVariants as wasm
use Rattle.rust_tree.specs.declared.expr.Expr.{Expr}
use Rattle.rust_tree.specs.declared.expr.SmallType.{SmallType}
use Rattle.rust_tree.specs.declared.expr.SmallType.TheVariants as small
use Rattle.rust_tree.specs.declared.stmt.Stmt.TheVariants as stmt
use Rattle.wrapper_data.specs.Answered.{with_writes}
use Rattle.wrapper_data.specs.declared.block.Block.{Block}
use Rattle.wrapper_data.specs.declared.value.RustValue.{RustValue}
use Rattle.wrapper_data.specs.declared.word.Word.{Word}
use Rattle.wrapper_data.specs.declared.word.Word.TheVariants as core
use Rattle.wrapper_meaning.proofs.Lists.{some_same}
use Rattle.wrapper_values.specs.declared.state.State.{State}
use Rattle.wrapper_values.specs.declared.state.Val.TheVariants as val
use Rattle.wrapper_values.specs.Act as machine
use Rattle.wrapper_values.specs.Act.{and_then, or_stop, pure, ◌>>=◌}
use Rattle.wrapper_values.specs.Effect.{is_word_of}
use Rattle.wrapper_values.specs.Setting.{Setting, stuck}
use Rattle.wrapper_run.specs.Blocks.{keep_blocks, store_small, store_word, write_word}
use Rattle.wrapper_run.specs.Memory.{block_from, bytes_of, bytes_of_small, bytes_of_type, is_inside, low_bytes, stored, stored_small, writes_from}
use Rattle.wrapper_run.specs.Run.{eval, run_stmts}
use Rattle.wrapper_run.specs.Inward.{CallsNothing}
use Rattle.wrapper_run.proofs.StmtSteps.{run-store, run-store_small, runs-first}
use Rattle.wrapper_run.proofs.InwardCalls.{stmts_quiet}
use Rattle.abi_bindgen.specs.declared.instruction.Instruction.{Instruction}
use Rattle.abi_bindgen.specs.declared.instruction.Instruction.TheVariants.{F32Store, F64Store, I32Store, I32Store8, I32Store16, I64Store, LengthStore, PointerStore}
use Rattle.abi_bindgen.specs.Account.{Account, Peer}
use Rattle.abi_bindgen.specs.Instructions.{Emits, MakesBy, MakesTouch, RowBy, RowTouch, lifted_scalar, lowered_scalar}
use Rattle.abi_bindgen.specs.Laws.{Adds}
use Rattle.abi_bindgen.specs.Meaning.{of, word}
use Rattle.abi_bindgen.specs.Memory.{Access, is_ranged, storing}
use Rattle.abi_bindgen.specs.Touches.{Part, RowOfTouch, StoresWord, Touch, accessed, low_byte, low_half, stores, touch, touch_makes, whole}
use Rattle.abi_bindgen.proofs.Ordinary.{code_of, still_returned, touches_ordinary}
use Rattle.func_gen.specs.declared.function_bindgen.FunctionBindgen.{FunctionBindgen}
use Rattle.func_gen.specs.declared.operand.ExprOperand.{ExprOperand}
use Rattle.func_gen.specs.Added.{Appends}
use Rattle.func_gen.specs.FactLemmas.{is_said}
use Rattle.func_gen.specs.Facts.{Hold, IsThere}
use Rattle.func_gen.specs.Forms.{operand_of}
use Rattle.func_gen.specs.Meaning.{File, account_of, func_meaning, setting_for}
use Rattle.func_gen.specs.MemoryForms.{small_store, whole_store}
use Rattle.func_gen.specs.Operand.{is_operand}
use Rattle.func_gen.specs.Read.{env_of}
use Rattle.func_gen.specs.Formed.{Formed}
use Rattle.abi_bindgen.specs.Sent.{sends}
use Rattle.func_gen.proofs.Emissions.{small_store_emitted, whole_store_emitted}
use Rattle.func_gen.proofs.Evaluated.{gives}
use Rattle.func_gen.proofs.Forming.{form_effect, still_blocks, touches_plain}
use Rattle.func_gen.proofs.InwardForms.{store_inward, store_small_inward}
use Rattle.func_gen.proofs.MemoryTies.{by_blocks, byte_stored, f32_stored, f64_stored, half_stored, i32_stored, i64_stored, length_stored, pointer_stored, ranged_blocks, stored_low, stored_word}
use Rattle.func_gen.proofs.PlainOperands.{reads_plainly, touches_plainly}
use Rattle.func_gen.proofs.Writing.{Keeps, Writes, finish, finishes, one_adds, there_written, writes}

-- 1. What is emitted

pub emits_touch : (types : List TypeDef) (old new : FunctionBindgen) (i : Instruction) (t : Touch) (os rs : List ExprOperand) → lowered_scalar i ≡ None → lifted_scalar i ≡ None → touch i ≡ Some t → length rs ≡ touch_makes t
    → Adds func_meaning old new → new.returned ≡ old.returned → Formed types (sends i) os rs old new → RowOfTouch func_meaning t os rs old new → Emits func_meaning types i os rs old new
emits_touch types old new i t os rs no_lower no_lift is count adds returned form row = record {
  adds = code_of func_meaning i (touches_ordinary i t is) types old new adds;
  blocks = still_blocks i (touches_ordinary i t is) types (func_meaning.blocks old) (func_meaning.blocks new) adds.blocks;
  returned = still_returned func_meaning i (touches_ordinary i t is) os old.returned new.returned returned;
  asked = adds.asked;
  form = form;
  results = subst (λ x. MakesBy types i x (lifted_scalar i) (length rs)) (sym no_lower) (subst (λ x. MakesBy types i None x (length rs)) (sym no_lift) (subst (λ x. MakesTouch types i x (length rs)) (sym is) count));
  row = subst (λ x. RowBy func_meaning types i x (lifted_scalar i) os rs old new) (sym no_lower) (subst (λ x. RowBy func_meaning types i None x os rs old new) (sym no_lift) (subst (λ x. RowTouch func_meaning types i x os rs old new) (sym is) row));
}

-- 2. What the machine does

wrote : (w : Setting) (ty : WasmType) (q : ℕ) (x : Word) (s : State) (t : Bool) → and_then (write_word w ty q (if t then Some x else None) s) (λ u. pure tt) ≡ finish w (if t then stored ty q x s.heap.blocks else None) s
wrote w ty q x s false = refl
wrote w ty q x s true = go (stored ty q x s.heap.blocks)
  where
    go : (o : Option (List Block)) → and_then ((or_stop (stuck w) o >>= keep_blocks) s) (λ u. pure tt) ≡ finish w o s
    go None = refl
    go (Some blocks) = refl

wrote_low : (w : Setting) (q : ℕ) (s : State) (o : Option (List Block)) → and_then ((or_stop (stuck w) o >>= keep_blocks) s) (λ u. pure tt) ≡ finish w o s
wrote_low w q s None = refl
wrote_low w q s (Some blocks) = refl

keeps_word : (ty : WasmType) (q : ℕ) (x : Word) (s : State) (blocks : List Block) → stored_word ty q x s.heap.blocks ≡ Some blocks → Keeps s blocks
unfolding stored
keeps_word ty q x s blocks h a there = go (is_word_of ty x) (nat_eq (q % bytes_of_type ty) 0 && is_inside q (bytes_of_type ty) s.heap.blocks) (writes_from q (bytes_of x)) h
  where
    go : (t u : Bool) (writes : List (ℕ × ℕ)) → (if t then (if u then Some (with_writes s.heap.blocks writes) else None) else None) ≡ Some blocks → IsThere (block_from a blocks)
    go true true writes e = subst (λ z. IsThere (block_from a z)) (some_same (with_writes s.heap.blocks writes) blocks e) (there_written a writes s.heap.blocks there)
    go true false writes e = absurd cc
    go false u writes e = absurd cc

keeps_low : (ty : SmallType) (q : ℕ) (z : ℤ) (s : State) (blocks : List Block) → stored_small ty q z s.heap.blocks ≡ Some blocks → Keeps s blocks
unfolding stored_small
keeps_low ty q z s blocks h a there = go (nat_eq (q % bytes_of_small ty) 0 && is_inside q (bytes_of_small ty) s.heap.blocks) (writes_from q (low_bytes ty z)) h
  where
    go : (u : Bool) (writes : List (ℕ × ℕ)) → (if u then Some (with_writes s.heap.blocks writes) else None) ≡ Some blocks → IsThere (block_from a blocks)
    go true writes e = subst (λ z. IsThere (block_from a z)) (some_same (with_writes s.heap.blocks writes) blocks e) (there_written a writes s.heap.blocks there)
    go false writes e = absurd cc

-- nothing is claimed of a word out of its range
if_ranged : (s : State) (o : Option (List Block)) (q : machine.Outcome (Unit {0})) (b : Bool) → Writes (account_of s) (by_blocks o (account_of s)) q s → Writes (account_of s) (ranged_blocks b o (account_of s)) q s
if_ranged s o q true h = h
if_ranged s o q false h = refl

-- two words that are denoted are what the operands give
pub two_given : (w : Setting) (b : FunctionBindgen) (e f : Expr) (x y : Word) (s : State) → Hold w.items b (of (operand_of e) (word x) ∷ of (operand_of f) (word y) ∷ []) s → (eval w e s ≡ machine.Done (val.Word x) s) × (eval w f s ≡ machine.Done (val.Word y) s)
two_given w b e f x y s h =
    let one = is_said w.items b.params (env_of s) (of (operand_of e) (word x)) (omega (arith, h.right)) in
    let two = is_said w.items b.params (env_of s) (of (operand_of f) (word y)) (omega (arith, h.right)) in
    (gives w e s (val.Word x) one refl, gives w f s (val.Word y) two refl)

-- 3. The rows

module _ (old new : FunctionBindgen) (e at : Expr) (ok : is_operand e ≡ true) (ok_at : is_operand at ≡ true) (o : ArchitectureSize) (scope : new.scope ≡ old.scope) where
  module _ (ty : WasmType) (a : Appends old new (stmt.Store at o ty e ∷ []) []) where
    stores_quietly : (w : Setting) → CallsNothing (run_stmts w (stmt.Store at o ty e ∷ []))
    stores_quietly w = stmts_quiet w (stmt.Store at o ty e ∷ []) (store_inward e at ok ok_at o ty)

    pub store_adds : Adds func_meaning old new
    store_adds = one_adds old new (stmt.Store at o ty e) [] a scope stores_quietly

    store_run : (w : Setting) (x : Word) (address : ℕ) (s : State) → Hold w.items old (of (operand_of e) (word x) ∷ of (operand_of at) (word (core.Pointer address)) ∷ []) s
        → run_stmts w (stmt.Store at o ty e ∷ []) s ≡ finish w (stored_word ty (address + bytes_at o 4) x s.heap.blocks) s
    store_run w x address s h =
        let given = two_given w old e at x (core.Pointer address) s h in
        runs-first w (stmt.Store at o ty e) (eval w e >>= (λ v. eval w at >>= store_word w o ty v)) [] s (run-store w at o ty e)
        ∙ ap (λ q. and_then (and_then q (λ v. eval w at >>= store_word w o ty v)) (λ u. pure tt)) given.0
        ∙ ap (λ q. and_then (and_then q (store_word w o ty (val.Word x))) (λ u. pure tt)) given.1
        ∙ wrote w ty (address + bytes_at o 4) x s (is_word_of ty x)

    pub store_row : (access : Access) → ((address : ℕ) (x : Word) (acc : Account RustValue) → storing 2 access address x acc ≡ ranged_blocks (is_ranged x) (stored_word ty address x acc.heap.blocks) acc) → StoresWord func_meaning access o (operand_of e ∷ operand_of at ∷ []) [] old new
    store_row access tie x address =
        writes old new (stmt.Store at o ty e) [] a scope stores_quietly (of (operand_of e) (word x) ∷ of (operand_of at) (word (core.Pointer address)) ∷ []) (λ p. storing 2 access (address + bytes_at o 4) x)
        (λ w p s found h.
        let q = address + bytes_at o 4 in
        let blocks = stored_word ty q x s.heap.blocks in
        subst (λ z. Writes (account_of s) z (run_stmts (setting_for w p) (stmt.Store at o ty e ∷ []) s) s) (sym (tie q x (account_of s)))
        (if_ranged s blocks (run_stmts (setting_for w p) (stmt.Store at o ty e ∷ []) s) (is_ranged x)
        (subst (λ z. Writes (account_of s) (by_blocks blocks (account_of s)) z s) (sym (store_run (setting_for w p) x address s h)) (finishes (setting_for w p) s blocks (keeps_word ty q x s)))))

  module _ (ty : SmallType) (a : Appends old new (stmt.StoreSmall at o ty e ∷ []) []) where
    low_quietly : (w : Setting) → CallsNothing (run_stmts w (stmt.StoreSmall at o ty e ∷ []))
    low_quietly w = stmts_quiet w (stmt.StoreSmall at o ty e ∷ []) (store_small_inward e at ok ok_at o ty)

    pub low_adds : Adds func_meaning old new
    low_adds = one_adds old new (stmt.StoreSmall at o ty e) [] a scope low_quietly

    low_run : (w : Setting) (z : ℤ) (address : ℕ) (s : State) → Hold w.items old (of (operand_of e) (word (core.I32 z)) ∷ of (operand_of at) (word (core.Pointer address)) ∷ []) s
        → run_stmts w (stmt.StoreSmall at o ty e ∷ []) s ≡ finish w (stored_small ty (address + bytes_at o 4) z s.heap.blocks) s
    low_run w z address s h =
        let given = two_given w old e at (core.I32 z) (core.Pointer address) s h in
        runs-first w (stmt.StoreSmall at o ty e) (eval w e >>= (λ v. eval w at >>= store_small w o ty v)) [] s (run-store_small w at o ty e)
        ∙ ap (λ q. and_then (and_then q (λ v. eval w at >>= store_small w o ty v)) (λ u. pure tt)) given.0
        ∙ ap (λ q. and_then (and_then q (store_small w o ty (val.Word (core.I32 z)))) (λ u. pure tt)) given.1
        ∙ wrote_low w (address + bytes_at o 4) s (stored_small ty (address + bytes_at o 4) z s.heap.blocks)

    pub low_row : (access : Access) → ((address : ℕ) (x : Word) (acc : Account RustValue) → storing 2 access address x acc ≡ ranged_blocks (is_ranged x) (stored_low ty address x acc.heap.blocks) acc) → StoresWord func_meaning access o (operand_of e ∷ operand_of at ∷ []) [] old new
    low_row access tie x address =
        writes old new (stmt.StoreSmall at o ty e) [] a scope low_quietly (of (operand_of e) (word x) ∷ of (operand_of at) (word (core.Pointer address)) ∷ []) (λ p. storing 2 access (address + bytes_at o 4) x)
        (λ w p s found h.
        subst (λ z. Writes (account_of s) z (run_stmts (setting_for w p) (stmt.StoreSmall at o ty e ∷ []) s) s) (sym (tie (address + bytes_at o 4) x (account_of s)))
        (if_ranged s (stored_low ty (address + bytes_at o 4) x s.heap.blocks) (run_stmts (setting_for w p) (stmt.StoreSmall at o ty e ∷ []) s) (is_ranged x) (agrees x w p s h)))
      where
        agrees : (x : Word) (w : File) (p : Peer RustValue) (s : State) → Hold w.items old (of (operand_of e) (word x) ∷ of (operand_of at) (word (core.Pointer address)) ∷ []) s
            → Writes (account_of s) (by_blocks (stored_low ty (address + bytes_at o 4) x s.heap.blocks) (account_of s)) (run_stmts (setting_for w p) (stmt.StoreSmall at o ty e ∷ []) s) s
        agrees (core.I32 z) w p s h =
            let blocks = stored_small ty (address + bytes_at o 4) z s.heap.blocks in
            subst (λ q. Writes (account_of s) (by_blocks blocks (account_of s)) q s) (sym (low_run (setting_for w p) z address s h)) (finishes (setting_for w p) s blocks (keeps_low ty (address + bytes_at o 4) z s))
        agrees _ w p s h = refl

-- 4. The tables

record IsStore (i : Instruction) (o : ArchitectureSize) (ty : WasmType) : Type 0 where
  lowered : lowered_scalar i ≡ None
  lifted : lifted_scalar i ≡ None
  touched : touch i ≡ Some (stores whole ty o)
  tie : (address : ℕ) (x : Word) (acc : Account RustValue) → storing 2 (accessed 2 whole false ty) address x acc ≡ ranged_blocks (is_ranged x) (stored_word ty address x acc.heap.blocks) acc

is_store : (i : Instruction) (o : ArchitectureSize) (ty : WasmType) → whole_store i ≡ Some (o, ty) → IsStore i o ty
is_store (I32Store p) o ty e = subst (λ (q : ArchitectureSize × WasmType). IsStore (I32Store p) q.0 q.1) (some_same (p, wasm.I32) (o, ty) e) (record { lowered = refl; lifted = refl; touched = refl; tie = i32_stored })
is_store (I64Store p) o ty e = subst (λ (q : ArchitectureSize × WasmType). IsStore (I64Store p) q.0 q.1) (some_same (p, wasm.I64) (o, ty) e) (record { lowered = refl; lifted = refl; touched = refl; tie = i64_stored })
is_store (F32Store p) o ty e = subst (λ (q : ArchitectureSize × WasmType). IsStore (F32Store p) q.0 q.1) (some_same (p, wasm.F32) (o, ty) e) (record { lowered = refl; lifted = refl; touched = refl; tie = f32_stored })
is_store (F64Store p) o ty e = subst (λ (q : ArchitectureSize × WasmType). IsStore (F64Store p) q.0 q.1) (some_same (p, wasm.F64) (o, ty) e) (record { lowered = refl; lifted = refl; touched = refl; tie = f64_stored })
is_store (PointerStore p) o ty e = subst (λ (q : ArchitectureSize × WasmType). IsStore (PointerStore p) q.0 q.1) (some_same (p, wasm.Pointer) (o, ty) e) (record { lowered = refl; lifted = refl; touched = refl; tie = pointer_stored })
is_store (LengthStore p) o ty e = subst (λ (q : ArchitectureSize × WasmType). IsStore (LengthStore p) q.0 q.1) (some_same (p, wasm.Length) (o, ty) e) (record { lowered = refl; lifted = refl; touched = refl; tie = length_stored })
is_store _ o ty e = absurd (let h = e in cc)

record IsLowStore (i : Instruction) (o : ArchitectureSize) (ty : SmallType) : Type 0 where
  part : Part
  lowered : lowered_scalar i ≡ None
  lifted : lifted_scalar i ≡ None
  touched : touch i ≡ Some (stores part wasm.I32 o)
  tie : (address : ℕ) (x : Word) (acc : Account RustValue) → storing 2 (accessed 2 part false wasm.I32) address x acc ≡ ranged_blocks (is_ranged x) (stored_low ty address x acc.heap.blocks) acc

is_low_store : (i : Instruction) (o : ArchitectureSize) (ty : SmallType) → small_store i ≡ Some (o, ty) → IsLowStore i o ty
is_low_store (I32Store8 p) o ty e = subst (λ (q : ArchitectureSize × SmallType). IsLowStore (I32Store8 p) q.0 q.1) (some_same (p, small.U8) (o, ty) e) (record { part = low_byte; lowered = refl; lifted = refl; touched = refl; tie = byte_stored })
is_low_store (I32Store16 p) o ty e = subst (λ (q : ArchitectureSize × SmallType). IsLowStore (I32Store16 p) q.0 q.1) (some_same (p, small.U16) (o, ty) e) (record { part = low_half; lowered = refl; lifted = refl; touched = refl; tie = half_stored })
is_low_store _ o ty e = absurd (let h = e in cc)

pub whole_store_plainly : (i : Instruction) (o : ArchitectureSize) (ty : WasmType) → whole_store i ≡ Some (o, ty) → reads_plainly i ≡ true
whole_store_plainly i o ty e = let t = is_store i o ty e in touches_plainly i (stores whole ty o) t.lowered t.lifted t.touched

pub small_store_plainly : (i : Instruction) (o : ArchitectureSize) (ty : SmallType) → small_store i ≡ Some (o, ty) → reads_plainly i ≡ true
small_store_plainly i o ty e = let t = is_low_store i o ty e in touches_plainly i (stores t.part wasm.I32 o) t.lowered t.lifted t.touched

module _ (types : List TypeDef) (old new : FunctionBindgen) (i : Instruction) (o : ArchitectureSize) (e at : Expr) (ok : is_operand e ≡ true) (ok_at : is_operand at ≡ true) (scope : new.scope ≡ old.scope) where
  pub whole_store_row : (ty : WasmType) → whole_store i ≡ Some (o, ty) → Appends old new (stmt.Store at o ty e ∷ []) [] → Emits func_meaning types i (operand_of e ∷ operand_of at ∷ []) [] old new
  whole_store_row ty is a =
      let t = is_store i o ty is in
      emits_touch types old new i (stores whole ty o) (operand_of e ∷ operand_of at ∷ []) [] t.lowered t.lifted t.touched refl (store_adds old new e at ok ok_at o scope ty a) a.returned
      (form_effect (sends i) (touches_plain i (stores whole ty o) t.touched) (operand_of e ∷ operand_of at ∷ []) old new (stmt.Store at o ty e) [] (whole_store_emitted old i (o, ty) e at is) scope a) (store_row old new e at ok ok_at o scope ty a (accessed 2 whole false ty) t.tie)

  pub small_store_row : (ty : SmallType) → small_store i ≡ Some (o, ty) → Appends old new (stmt.StoreSmall at o ty e ∷ []) [] → Emits func_meaning types i (operand_of e ∷ operand_of at ∷ []) [] old new
  small_store_row ty is a =
      let t = is_low_store i o ty is in
      emits_touch types old new i (stores t.part wasm.I32 o) (operand_of e ∷ operand_of at ∷ []) [] t.lowered t.lifted t.touched refl (low_adds old new e at ok ok_at o scope ty a) a.returned
      (form_effect (sends i) (touches_plain i (stores t.part wasm.I32 o) t.touched) (operand_of e ∷ operand_of at ∷ []) old new (stmt.StoreSmall at o ty e) [] (small_store_emitted old i (o, ty) e at is) scope a) (low_row old new e at ok ok_at o scope ty a (accessed 2 t.part false wasm.I32) t.tie)
