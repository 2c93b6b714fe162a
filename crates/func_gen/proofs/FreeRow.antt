-- The rows of texts and of blocks that are freed.
use Rattle.std.proofs.Common.{◌≡◌, ℕ, zero, suc, ◌-◌, ◌^◌, Bool, true, false, cond, nat_eq, nat_lt, ◌&&◌, if◌then◌else◌, List, [], ◌∷◌, reverse, Option, None, Some, refl, sym, ap, ◌∙◌, subst, arith}
use Rattle.std.proofs.lemmas.Bool.{and_from, and_parts, or_parts}
use Rattle.std.proofs.lemmas.Bool.Decides.{nat_tests}
use Rattle.wit_model.specs.Size.{bytes_at}
use Rattle.wit_model.specs.declared.size.Alignment.{Alignment}
use Rattle.wit_model.specs.declared.size.ArchitectureSize.{ArchitectureSize}
use Rattle.wit_model.specs.declared.types.TypeDef.{TypeDef}
use Rattle.rust_tree.specs.declared.expr.Expr.{Expr}
use Rattle.rust_tree.specs.declared.expr.Expr.TheVariants as expr
use Rattle.rust_tree.specs.declared.runtime_item.RuntimeItem.TheVariants.{CabiDealloc}
use Rattle.rust_tree.specs.declared.stmt.Stmt.TheVariants as stmt
use Rattle.rust_tree.specs.Runtime.{item_name}
use Rattle.wrapper_data.specs.declared.block.Block.{Block}
use Rattle.wrapper_data.specs.declared.form.Form.{Form}
use Rattle.wrapper_data.specs.declared.form.Form.TheVariants as form
use Rattle.wrapper_data.specs.declared.run.TrapKind.{TrapKind}
use Rattle.wrapper_data.specs.declared.run.TrapKind.TheVariants as trap
use Rattle.wrapper_data.specs.declared.value.RustValue.TheVariants as value
use Rattle.wrapper_data.specs.declared.word.Word.TheVariants as core
use Rattle.wrapper_values.specs.declared.state.State.{State}
use Rattle.wrapper_values.specs.declared.state.Val.TheVariants as val
use Rattle.wrapper_values.specs.Act as machine
use Rattle.wrapper_values.specs.Act.{and_then, or_stop, pure, stop}
use Rattle.wrapper_values.specs.Owning.{is_taken}
use Rattle.wrapper_values.specs.Setting.{Setting, failed, stuck}
use Rattle.wrapper_run.specs.Blocks.{dealloc, drop_value, free_all, free_bytes, free_untaken}
use Rattle.wrapper_run.specs.Memory.{begins_at, block_at, block_from, is_at, without}
use Rattle.wrapper_run.specs.Run.{apply, call, call_callee, call_runtime, eval, run_stmts, runtime_item_named}
use Rattle.wrapper_run.specs.Inward.{CallsNothing, is_inward_expr}
use Rattle.wrapper_run.proofs.OwningLemmas.{owned-unit}
use Rattle.wrapper_run.proofs.StmtSteps.{runs-expr}
use Rattle.wrapper_run.proofs.StepLemmas.{call_gives}
use Rattle.wrapper_run.proofs.FreeSteps.{eval-size, one_byte}
use Rattle.wrapper_run.proofs.InwardCalls.{stmts_quiet}
use Rattle.abi_bindgen.specs.declared.instruction.Instruction.TheVariants.{GuestDeallocate, GuestDeallocateString}
use Rattle.abi_bindgen.specs.Account.{failing}
use Rattle.abi_bindgen.specs.Instructions.{Emits}
use Rattle.abi_bindgen.specs.Memory.{freed, freeing}
use Rattle.abi_bindgen.specs.Meaning.{of, word}
use Rattle.abi_bindgen.specs.Sent.{sends}
use Rattle.func_gen.specs.declared.function_bindgen.FunctionBindgen.{FunctionBindgen}
use Rattle.func_gen.specs.Added.{Appends}
use Rattle.func_gen.specs.Facts.{AreOwned, IsThere}
use Rattle.func_gen.specs.Forms.{operand_of, runtime_path}
use Rattle.func_gen.specs.Meaning.{account_of, func_meaning, setting_for}
use Rattle.func_gen.specs.MemoryForms.{align_size, block_freed, bytes_freed, is_length, text_freed}
use Rattle.func_gen.specs.Operand.{is_operand}
use Rattle.func_gen.proofs.Forming.{form_effect}
use Rattle.func_gen.proofs.InwardForms.{expr_inward, one_inward, operand_inward, runtime_inward, size_inward}
use Rattle.func_gen.proofs.LoadRows.{address_given}
use Rattle.func_gen.proofs.MemoryTies.{without_is}
use Rattle.func_gen.proofs.ScalarRows.{calls_runtime}
use Rattle.func_gen.proofs.StoreRows.{two_given}
use Rattle.func_gen.proofs.Writing.{Writes, one_adds, with_heap, writes}

-- 1. The call makes no call of an import

-- a size that is a length
size_is : (w : Setting) (size : ArchitectureSize) → is_length size ≡ true → eval w (expr.Size size) ≡ pure (val.Word (core.Length (bytes_at size 4)))
size_is w size h = eval-size w size ∙ ap (λ b. or_stop (stuck w) (cond b (Some (val.Word (core.Length (bytes_at size 4)))) None)) h

-- 2. What it does

words_freed : (w : Setting) (address n a : ℕ) (s : State) → runtime_item_named w.items (item_name CabiDealloc) ≡ Some CabiDealloc
    → call w (runtime_path CabiDealloc) (val.Word (core.Pointer address) ∷ val.Word (core.Length n) ∷ val.Word (core.Length a) ∷ []) s ≡ and_then (dealloc w address n s) (λ u. pure (val.Value value.Unit))
unfolding call_runtime
words_freed w address n a s found =
    let vs = val.Word (core.Pointer address) ∷ val.Word (core.Length n) ∷ val.Word (core.Length a) ∷ [] in
    ap (λ c. call_callee w c vs s) (calls_runtime CabiDealloc) ∙ ap (λ o. apply w o vs s) found

-- a call that gives nothing is a statement by itself
pub dropped : (w : Setting) (o : machine.Outcome (Unit {0})) → and_then (and_then (and_then o (λ u. pure (val.Value value.Unit))) (drop_value w)) (λ u. pure tt) ≡ o
dropped w (machine.Done u t) = ap (λ os. and_then (free_all w os t) (λ u. pure tt)) owned-unit
dropped w (machine.Stopped e t) = refl

free_run : (w : Setting) (e f : Expr) (align : ArchitectureSize) (address n : ℕ) (s : State) → is_length align ≡ true → runtime_item_named w.items (item_name CabiDealloc) ≡ Some CabiDealloc
    → eval w e s ≡ machine.Done (val.Word (core.Pointer address)) s → eval w f s ≡ machine.Done (val.Word (core.Length n)) s → run_stmts w (stmt.Expr (bytes_freed e f align) ∷ []) s ≡ dealloc w address n s
free_run w e f align address n s aligned found at many =
    let a = bytes_at align 4 in
    let vs = val.Word (core.Pointer address) ∷ val.Word (core.Length n) ∷ val.Word (core.Length a) ∷ [] in
    runs-expr w (bytes_freed e f align) [] s
    ∙ ap (λ o. and_then (and_then o (drop_value w)) (λ u. pure tt))
    (call_gives w (runtime_path CabiDealloc) (e ∷ f ∷ expr.Size align ∷ []) vs s (at, (many, (ap (λ act. act s) (size_is w align aligned), tt))) ∙ words_freed w address n a s found)
    ∙ dropped w (dealloc w address n s)

-- 3. What has an owner has it still

no_start : (t address size : ℕ) (b : Block) → nat_eq t address ≡ false → is_at address size b ≡ true → begins_at t b ≡ false
no_start t address size b other at =
    let here = (and_parts (nat_eq b.address address) (nat_eq b.size size) at).0 in
    let apart : nat_eq b.address t ≡ false = grind (arith, nat_tests) in
    ap (λ c. c && nat_lt 0 b.size) apart

there_still : (t address size : ℕ) (blocks : List Block) → nat_eq t address ≡ false → IsThere (block_from t blocks) → IsThere (block_from t (without address size blocks))
there_still t address size [] other h = h
there_still t address size (b ∷ blocks) other h = go (there_still t address size blocks other) (is_at address size b) refl
  where
    kept : (c : Bool) → (IsThere (block_from t blocks) → IsThere (block_from t (without address size blocks))) → IsThere (cond c (Some b) (block_from t blocks)) → IsThere (cond c (Some b) (block_from t (without address size blocks)))
    kept true later k = k
    kept false later k = later k

    go : (IsThere (block_from t blocks) → IsThere (block_from t (without address size blocks))) → (c : Bool) → is_at address size b ≡ c → IsThere (block_from t (if c then blocks else b ∷ without address size blocks))
    go later true e = subst (λ c. IsThere (cond c (Some b) (block_from t blocks))) (no_start t address size b other e) h
    go later false e = kept (begins_at t b) later h

owned_still : (address size : ℕ) (blocks : List Block) (taken : List ℕ) → is_taken address taken ≡ false → AreOwned blocks taken → AreOwned (without address size blocks) taken
owned_still address size blocks [] free h = tt
owned_still address size blocks (t ∷ taken) free (once, there, more) =
    let parts = or_parts (nat_eq t address) (is_taken address taken) free in (once, there_still t address size blocks parts.0 there, owned_still address size blocks taken parts.1 more)

-- 4. It agrees with the law

module _ (w : Setting) (s : State) where
  fails : (f : Form) (kind : TrapKind) → Writes (account_of s) (failing f kind (account_of s)) (stop (failed (record w { form = f }) kind) s) s
  fails form.Debug kind = refl
  fails form.Release kind = refl

  found_freed : (f : Form) (address n : ℕ) (t : Bool) → is_taken address s.taken ≡ t
      → (o : Option Block) → Writes (account_of s) (freed f address (suc n) (if t then None else o) (account_of s)) (free_untaken (record w { form = f }) address (suc n) (if t then None else o) s) s
  found_freed f address n true e o = fails f trap.Block
  found_freed f address n false e None = fails f trap.Block
  found_freed f address n false e (Some b) =
      (without address (suc n) s.heap.blocks, refl, ap (λ blocks. account_of (with_heap s blocks)) (without_is address (suc n) s.heap.blocks), owned_still address (suc n) s.heap.blocks s.taken e)

  frees_agree : (f : Form) (address n : ℕ) → Writes (account_of s) (freeing f address n (account_of s)) (dealloc (record w { form = f }) address n s) s
  unfolding dealloc
  frees_agree f address zero = (s.heap.blocks, refl, refl, λ h. h)
  frees_agree f address (suc n) = go (nat_lt (2 ^ 31 - 1) (suc n))
    where
      go : (c : Bool) → Writes (account_of s) (if c then failing f trap.Size (account_of s) else freed f address (suc n) (if is_taken address s.taken then None else block_at address (suc n) s.heap.blocks) (account_of s))
          ((if c then stop (failed (record w { form = f }) trap.Size) else free_bytes (record w { form = f }) address (suc n)) s) s
      go true = fails f trap.Size
      go false = found_freed f address n (is_taken address s.taken) refl (block_at address (suc n) s.heap.blocks)

-- 5. The rows

module _ (types : List TypeDef) (old new : FunctionBindgen) (e : Expr) (ok : is_operand e ≡ true) (scope : new.scope ≡ old.scope) where
  quiet_free : (f : Expr) (align : ArchitectureSize) → is_inward_expr f ≡ true → (w : Setting) → CallsNothing (run_stmts w (stmt.Expr (bytes_freed e f align) ∷ []))
  quiet_free f align inward w =
      let size = one_inward (expr.Size align) (size_inward align) in
      let all = and_from (is_inward_expr e) _ (operand_inward e ok) (and_from (is_inward_expr f) _ inward size) in
      stmts_quiet w (stmt.Expr (bytes_freed e f align) ∷ []) (expr_inward (bytes_freed e f align) (runtime_inward CabiDealloc (e ∷ f ∷ expr.Size align ∷ []) all))

  pub free_row : (f : Expr) → is_operand f ≡ true → Appends old new (stmt.Expr (text_freed e f) ∷ []) (CabiDealloc ∷ []) → Emits func_meaning types GuestDeallocateString (operand_of e ∷ operand_of f ∷ []) [] old new
  free_row f ok_f a =
      let quiet = quiet_free f one_byte (operand_inward f ok_f) in
      let adds = one_adds old new (stmt.Expr (text_freed e f)) (CabiDealloc ∷ []) a scope quiet in
      record {
        adds = adds;
        blocks = ap reverse a.finished;
        returned = a.returned;
        asked = adds.asked;
        form = form_effect (sends GuestDeallocateString) (record { gives = refl; calls = refl }) (operand_of e ∷ operand_of f ∷ []) old new (stmt.Expr (text_freed e f)) (CabiDealloc ∷ []) refl scope a;
        results = refl;
        row = λ address n.
            writes old new (stmt.Expr (text_freed e f)) (CabiDealloc ∷ []) a scope quiet (of (operand_of e) (word (core.Pointer address)) ∷ of (operand_of f) (word (core.Length n)) ∷ []) (λ p. freeing p.form address n)
            (λ w p s found h.
            let given = two_given (setting_for w p) old e f (core.Pointer address) (core.Length n) s h in
            subst (λ z. Writes (account_of s) (freeing p.form address n (account_of s)) z s) (sym (free_run (setting_for w p) e f one_byte address n s refl found.0 given.0 given.1)) (frees_agree (setting_for w p) s p.form address n));
      }

  pub block_row : (size : ArchitectureSize) (align : Alignment) → is_length size ≡ true → is_length (align_size align) ≡ true → Appends old new (stmt.Expr (block_freed e size align) ∷ []) (CabiDealloc ∷ [])
      → Emits func_meaning types (GuestDeallocate size align) (operand_of e ∷ []) [] old new
  block_row size align sized aligned a =
      let n = bytes_at size 4 in
      let quiet = quiet_free (expr.Size size) (align_size align) (size_inward size) in
      let adds = one_adds old new (stmt.Expr (block_freed e size align)) (CabiDealloc ∷ []) a scope quiet in
      record {
        adds = adds;
        blocks = ap reverse a.finished;
        returned = a.returned;
        asked = adds.asked;
        form = form_effect (sends (GuestDeallocate size align)) (record { gives = refl; calls = refl }) (operand_of e ∷ []) old new (stmt.Expr (block_freed e size align)) (CabiDealloc ∷ []) refl scope a;
        results = refl;
        row = λ address.
            writes old new (stmt.Expr (block_freed e size align)) (CabiDealloc ∷ []) a scope quiet (of (operand_of e) (word (core.Pointer address)) ∷ []) (λ p. freeing p.form address n)
            (λ w p s found h.
            subst (λ z. Writes (account_of s) (freeing p.form address n (account_of s)) z s)
            (sym (free_run (setting_for w p) e (expr.Size size) (align_size align) address n s aligned found.0 (address_given (setting_for w p) old e address s h) (ap (λ act. act s) (size_is (setting_for w p) size sized)))) (frees_agree (setting_for w p) s p.form address n));
      }
