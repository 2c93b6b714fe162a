-- The row of a text that is taken over by its address and its length: where nothing honest is there, the machine stops as the law does.
use Rattle.std.proofs.Common.{◌≡◌, ℕ, zero, suc, ◌-◌, ◌^◌, ◌<◌, Bool, true, false, cond, ◌||◌, nat_eq, nat_lt, if◌then◌else◌, find, List, [], ◌∷◌, ◌++◌, length, reverse, Option, None, Some, refl, sym, ap, ap₂, ◌∙◌, subst, arith}
use Rattle.std.specs.Prelude.{option_and_then}
use Rattle.std.specs.Str.{bytes_eq, is_utf8}
use Rattle.std.proofs.lemmas.Bool.{and_parts, eqb-true, or_parts}
use Rattle.std.proofs.lemmas.Bool.Decides.{nat_tests}
use Rattle.std.proofs.lemmas.List.Folds.{list_any-append}
use Rattle.std.proofs.lemmas.Str.{IsUtf8-nil, is_utf8-from_IsUtf8}
use Rattle.wit_model.specs.declared.types.TypeDef.{TypeDef}
use Rattle.wit_model.specs.Bytes.{Bytes}
use Rattle.rust_tree.specs.declared.expr.Expr.{Expr}
use Rattle.rust_tree.specs.declared.expr.Expr.TheVariants as expr
use Rattle.rust_tree.specs.declared.runtime_item.RuntimeItem.TheVariants.{StringLift}
use Rattle.rust_tree.specs.declared.stmt.Stmt.{Stmt}
use Rattle.rust_tree.specs.declared.stmt.Stmt.TheVariants as stmt
use Rattle.rust_tree.specs.Runtime.{item_name}
use Rattle.wrapper_data.specs.declared.block.Block.{Block}
use Rattle.wrapper_data.specs.declared.form.Form.{Form}
use Rattle.wrapper_data.specs.declared.form.Form.TheVariants as form
use Rattle.wrapper_data.specs.declared.run.Stop.TheVariants as stop_of
use Rattle.wrapper_data.specs.declared.run.TrapKind.{TrapKind}
use Rattle.wrapper_data.specs.declared.run.TrapKind.TheVariants as trap
use Rattle.wrapper_data.specs.declared.value.RustValue.{RustValue}
use Rattle.wrapper_data.specs.declared.value.RustValue.TheVariants as value
use Rattle.wrapper_data.specs.declared.word.Word.TheVariants as core
use Rattle.wrapper_meaning.specs.AsWords.{Says}
use Rattle.wrapper_meaning.specs.Direction.{take}
use Rattle.wrapper_meaning.specs.Items.{total}
use Rattle.wrapper_meaning.specs.Shape.Shape.{text}
use Rattle.wrapper_meaning.specs.StandsFor.{IsFlag}
use Rattle.wrapper_values.specs.declared.state.State.{State}
use Rattle.wrapper_values.specs.declared.state.Val.{Val}
use Rattle.wrapper_values.specs.declared.state.Val.TheVariants as val
use Rattle.wrapper_values.specs.Act as machine
use Rattle.wrapper_values.specs.Act.{and_then, pure, stop}
use Rattle.wrapper_values.specs.Locals.{bind}
use Rattle.wrapper_values.specs.Owning.{is_taken, owned}
use Rattle.wrapper_values.specs.Setting.{Setting, failed, fails}
use Rattle.wrapper_run.specs.Blocks.{lift_buffer, lift_text, own, own_block, owned_bytes, owner_of, take_over, tested}
use Rattle.wrapper_run.specs.Memory.{block_at, block_from, bytes_from, is_at}
use Rattle.wrapper_run.specs.Run.{apply, call_callee, call_runtime, eval, run_stmts, runtime_item_named}
use Rattle.wrapper_run.specs.Inward.{CallsNothing}
use Rattle.wrapper_run.proofs.GiveSteps.{let_runs}
use Rattle.wrapper_run.proofs.HeapLemmas.{begins}
use Rattle.wrapper_run.proofs.InwardCalls.{stmts_quiet}
use Rattle.wrapper_run.proofs.LocalLemmas.{reads-new}
use Rattle.wrapper_run.proofs.OwningLemmas.{buffer-text, owned-block, owned-empty}
use Rattle.wrapper_run.proofs.StmtSteps.{runs-let}
use Rattle.wrapper_run.proofs.TakeLemmas.{raw_gives}
use Rattle.abi_bindgen.specs.Account.{Account, Follows, Got, Outcome, Peer, Stopped, Taken, addresses, failing, gives as lawful, found as law_found, taking, tested as law_tested}
use Rattle.abi_bindgen.specs.declared.instruction.Instruction.TheVariants as instruction
use Rattle.abi_bindgen.specs.Instructions.{Emits}
use Rattle.abi_bindgen.specs.Laws.{Adds, After, Facts}
use Rattle.abi_bindgen.specs.Meaning.{Fact, item, of, word}
use Rattle.abi_bindgen.specs.Sent.{sends}
use Rattle.func_gen.specs.declared.function_bindgen.FunctionBindgen.{FunctionBindgen}
use Rattle.func_gen.specs.declared.operand.ExprOperand.{ExprOperand}
use Rattle.func_gen.specs.Added.{Appends}
use Rattle.func_gen.specs.CallForms.{FreshAll}
use Rattle.func_gen.specs.FactLemmas.{is_said}
use Rattle.func_gen.specs.Facts.{AreOwned, Hold, IsThere}
use Rattle.func_gen.specs.Forms.{operand_of, runtime_call, runtime_path}
use Rattle.func_gen.specs.Meaning.{Denote, File, Found, FuncState, StandsAsItIs, account_of, func_meaning, owns_of, seen, setting_for}
use Rattle.func_gen.specs.Operand.{is_operand}
use Rattle.func_gen.specs.Read.{env_of}
use Rattle.func_gen.specs.TextForms.{bytes_name, len_name, taken_names, taken_stmts, taking_items, text_name}
use Rattle.func_gen.specs.Scope.{Takes}
use Rattle.func_gen.specs.CodeOf.{takes_text}
use Rattle.func_gen.specs.Slot.{Slot}
use Rattle.func_gen.proofs.Buffers.{buffer_val, normal_buffer, uses_buffer}
use Rattle.func_gen.proofs.Declared.{Three, fresh_name, hold_as, keeps, three, three_used, unused_before, with_name, with_three, with_two}
use Rattle.func_gen.proofs.Evaluated.{gives}
use Rattle.func_gen.proofs.Forgetting.{one_called, with_taken}
use Rattle.func_gen.proofs.Forming.{form_by}
use Rattle.func_gen.proofs.InwardForms.{inward_both, let_inward, operand_inward, parts_inward, text_inward}
use Rattle.func_gen.proofs.LoadTies.{same_bytes}
use Rattle.func_gen.proofs.Lasting.{area_same, bound_under, owns_with, part, with_local}
use Rattle.func_gen.proofs.PartRows.{areas_last}
use Rattle.func_gen.proofs.Rows.{same_area}
use Rattle.func_gen.proofs.RuntimeItems.{found_right}
use Rattle.func_gen.proofs.ScalarRows.{calls_runtime}
use Rattle.func_gen.proofs.Several.{add_local}
use Rattle.func_gen.proofs.Steps.{func_adds, ran}
use Rattle.abi_bindgen.proofs.Taken.{last_taken}
use Rattle.wrapper_meaning.proofs.PostReturn.{total-append}

-- 1. One more owner

owned_more : (blocks : List Block) (p : ℕ) (taken : List ℕ) → is_taken p taken ≡ false → IsThere (block_from p blocks) → AreOwned blocks taken → AreOwned blocks (taken ++ p ∷ [])
owned_more blocks p [] free there h = (refl, there, tt)
owned_more blocks p (t ∷ taken) free there (once, here, more) =
    let parts = or_parts (nat_eq t p) (is_taken p taken) free in
    let other : nat_eq p t ≡ false = turned t p parts.0 in
    let alone = list_any-append (λ u. nat_eq u t) taken (p ∷ []) ∙ ap (λ b. b || (nat_eq p t || false)) once ∙ ap (λ b. b || false) other in
    (alone, here, owned_more blocks p taken parts.1 there more)
  where
    turned : (t p : ℕ) → nat_eq t p ≡ false → nat_eq p t ≡ false
    turned t p e = grind (arith, nat_tests)

there_of : (o : Option Block) (b : Block) → o ≡ Some b → IsThere o
there_of o b e = subst IsThere (sym e) tt

-- the bytes that an owner has are told by what was done
same_owned : (p k : ℕ) (s t : State) → account_of s ≡ account_of t → owned_bytes p k s ≡ owned_bytes p k t
same_owned p zero s t e = refl
same_owned p (suc k) s t e = ap (λ (acc : Account RustValue). if is_taken p acc.taken then option_and_then (λ b. bytes_from b.cells 0 (suc k)) (block_at p (suc k) acc.heap.blocks) else None) e

-- 2. Where nothing honest is there

-- a test that fails
fails_alike : {A : Type 0} (f : Form) (n : ℕ) (kind : TrapKind) (at : Option ℕ) (t : State) (acc : Account RustValue) (P : Got RustValue A → FuncState → Type 0) → account_of t ≡ acc
    → Follows func_meaning.account (let o : Outcome RustValue (Got RustValue A) = failing f kind acc in o) (seen at (machine.Stopped (fails f (stop_of.Stuck n) kind) t)) P
fails_alike form.Debug n kind at t acc P e = ap (λ (a : Account RustValue). Stopped (stop_of.Trap kind) a) e
fails_alike form.Release n kind at t acc P e = ap (λ (a : Account RustValue). a.calls) e

find_passes : (test : Block → Bool) (blocks : List Block) (b : Block) → find test blocks ≡ Some b → test b ≡ true
find_passes test [] b e = absurd cc
find_passes test (c ∷ blocks) b e = go (test c) refl (find_passes test blocks b) e
  where
    go : (d : Bool) → test c ≡ d → (find test blocks ≡ Some b → test b ≡ true) → cond d (Some c) (find test blocks) ≡ Some b → test b ≡ true
    go true h later k = let same : c ≡ b = cc in ap test (sym same) ∙ h
    go false h later k = later k

starts : (p n : ℕ) (b : Block) → is_at p n b ≡ true → b.address ≡ p
starts p n b h = eqb-true b.address p (and_parts (nat_eq b.address p) (nat_eq b.size n) h).0

-- 3. What the statements do

module _ (set : Setting) (t : ℕ) where
  abbrev lifting : Stmt
  lifting = stmt.Let (text_name t) (runtime_call StringLift (expr.Local (bytes_name t)))

  -- what follows the take-over
  abbrev behind : machine.Outcome Val → machine.Outcome (Unit {0})
  behind o = and_then (and_then o (bind (bytes_name t))) (λ u. run_stmts set (lifting ∷ []))

  taken_runs : (a e : Expr) (p k : ℕ) (s : State) → eval set e s ≡ machine.Done (val.Word (core.Length k)) s → eval set a (with_local s (len_name t) (val.Word (core.Length k))) ≡ machine.Done (val.Word (core.Pointer p)) (with_local s (len_name t) (val.Word (core.Length k)))
      → run_stmts set (taken_stmts t a e) s ≡ behind (take_over set p k (with_local s (len_name t) (val.Word (core.Length k))))
  taken_runs a e p k s h g =
      let lv : Val = val.Word (core.Length k) in
      let_runs set (len_name t) e (stmt.Let (bytes_name t) (expr.FromRawParts a (len_name t)) ∷ lifting ∷ []) lv s s h
      ∙ runs-let set (bytes_name t) (expr.FromRawParts a (len_name t)) (lifting ∷ []) (with_local s (len_name t) lv) ∙ ap behind (raw_gives set a (len_name t) p k (with_local s (len_name t) lv) g (reads-new (len_name t) (Some lv) s.locals))

  abbrev tests : Bool → Val → State → machine.Outcome (Unit {0})
  tests c v s = and_then (and_then ((if c then pure v else stop (failed set trap.Utf8)) s) (bind (text_name t))) (λ u. pure tt)

  -- the bytes are tested, and become the text's
  lifted_runs : (p k : ℕ) (bytes : List ℕ) (s u : State) → runtime_item_named set.items (item_name StringLift) ≡ Some StringLift → eval set (expr.Local (bytes_name t)) (with_local s (bytes_name t) (buffer_val p k true)) ≡ machine.Done (buffer_val p k true) u
      → owned_bytes p k u ≡ Some bytes → behind (machine.Done (buffer_val p k true) s) ≡ tests (is_utf8 bytes) (buffer_val p k true) u
  unfolding bind call_runtime lift_text
  lifted_runs p k bytes s u found h has =
      let v = buffer_val p k true in
      runs-let set (text_name t) (runtime_call StringLift (expr.Local (bytes_name t))) [] (with_local s (bytes_name t) v)
      ∙ ap (λ o. and_then (and_then o (bind (text_name t))) (λ u. pure tt))
      (one_called set (runtime_path StringLift) (expr.Local (bytes_name t)) v (with_local s (bytes_name t) v) u h ∙ ap (λ c. call_callee set c (v ∷ []) u) (calls_runtime StringLift) ∙ ap (λ i. apply set i (v ∷ []) u) found
      ∙ ap (λ o. lift_buffer set v o u) (buffer-text p k true) ∙ ap (λ o. tested set v o u) has)

  tested_runs : (c : Bool) (v : Val) (s : State) → c ≡ true → tests c v s ≡ machine.Done tt (with_local s (text_name t) v)
  unfolding bind
  tested_runs c v s e = ap (λ b. tests b v s) e

  quiet_taken : (a e : Expr) → is_operand a ≡ true → is_operand e ≡ true → CallsNothing (run_stmts set (taken_stmts t a e))
  quiet_taken a e ok_a ok_e =
      let parts = expr.FromRawParts a (len_name t) in
      let take = stmt.Let (bytes_name t) parts in
      stmts_quiet set (taken_stmts t a e)
      (inward_both (stmt.Let (len_name t) e ∷ []) (take ∷ lifting ∷ []) (let_inward e (operand_inward e ok_e) (len_name t))
      (inward_both (take ∷ []) (lifting ∷ []) (let_inward parts (parts_inward a (len_name t) (operand_inward a ok_a)) (bytes_name t)) (let_inward (runtime_call StringLift (expr.Local (bytes_name t))) (text_inward (bytes_name t)) (text_name t))))

-- 4. What was taken over stands for its bytes

flagged : (n : ℕ) → IsFlag take n true
flagged zero = tt
flagged (suc n) = refl

stands : (p k : ℕ) (bytes : List ℕ) (blocks : List Block) → 0 < p → Says 2 take text bytes (core.Pointer p ∷ core.Length k ∷ []) blocks → StandsAsItIs take text bytes (value.Buffer p k true) blocks
stands p k bytes blocks pos h =
    let same : p ≡ h.address = cc in
    let counted : k ≡ length bytes = cc in (
      record { address = h.address; nonzero = subst (λ x. 0 < x) same pos; range = h.range; owned = true; flag = flagged (length bytes); is = ap₂ (λ x y. value.Buffer x y true) same counted; buffer = h.buffer },
      normal_buffer p k true,
    )

-- 5. It agrees with the law

not_none : (n : ℕ) → nat_eq (suc n) 0 ≡ false
not_none n = grind (arith, nat_tests)

above : (p : ℕ) → nat_eq p 0 ≡ false → 0 < p
above p e = grind (arith, nat_tests)

module _ (w : File) (q : Peer RustValue) (old new : FunctionBindgen) (a n : Expr) (t : ℕ) (adds : Appends old new (taken_stmts t a n) taking_items) (fresh : FreshAll old new (taken_names t)) (free : Three old (len_name t) (bytes_name t) (text_name t)) (p : ℕ)
    (others : Facts func_meaning) (s : FuncState) (lifts : runtime_item_named w.items (item_name StringLift) ≡ Some StringLift) (d : Denote w old others s) where
  abbrev set : Setting
  set = setting_for w q

  abbrev acc : Account RustValue
  acc = account_of s.machine

  -- the state in front of the take-over
  abbrev base : ℕ → State
  base k = with_local s.machine (len_name t) (val.Word (core.Length k))

  abbrev text_fact : ℕ → Fact ExprOperand Slot RustValue
  text_fact k = of (operand_of (expr.Local (text_name t))) (item (value.Buffer p k true))

  abbrev Ends : ℕ → Got RustValue Taken → FuncState → Type 0
  Ends k x u =
      (fs : Facts func_meaning) × ((r : RustValue) × (fs ≡ of (operand_of (expr.Local (text_name t))) (item r) ∷ []) × (Says 2 take text x.result.bytes (core.Pointer p ∷ core.Length k ∷ []) x.result.blocks → StandsAsItIs take text x.result.bytes r x.result.blocks))
      × After func_meaning w new (fs ++ others) (addresses x.result.blocks) [] s x u

  hold1 : (k : ℕ) → Hold w.items (with_name old (len_name t)) others (base k)
  hold1 k = keeps w.items old (len_name t) (val.Word (core.Length k)) others s.machine free.first d.hold

  -- the text that is there once the bytes are tested
  record Lifted (k : ℕ) (bytes : List ℕ) (taken : List ℕ) : Type 0 where
    pub last : State
    pub runs : behind set t (machine.Done (buffer_val p k true) (with_taken (base k) taken)) ≡ tests set t (is_utf8 bytes) (buffer_val p k true) last
    pub account : account_of last ≡ account_of (with_taken (base k) taken)
    pub place : last.place ≡ s.machine.place
    pub owns : (g : ℕ → ℕ) → total g (owns_of last) ≡ total g (owns_of s.machine)
    pub holds : Hold w.items (with_three old (len_name t) (bytes_name t) (text_name t)) (text_fact k ∷ others) (with_local last (text_name t) (buffer_val p k true))
    pub areas : (n : Bytes) (address size : ℕ) → env_of s.machine n ≡ Some (val.Area address size) → env_of (with_local last (text_name t) (buffer_val p k true)) n ≡ Some (val.Area address size)

  -- the bytes are moved out of their local, and into the text's
  lifted : (k : ℕ) (bytes taken : List ℕ) → owned_bytes p k (with_taken (base k) taken) ≡ Some bytes → Lifted k bytes taken
  lifted k bytes taken has =
      let v = buffer_val p k true in
      let lv : Val = val.Word (core.Length k) in
      let s2 = with_taken (base k) taken in
      let s3 = with_local s2 (bytes_name t) v in
      let b1 = with_name old (len_name t) in
      let b2 = with_two old (len_name t) (bytes_name t) in
      let h1 = hold1 k in
      let h2 = add_local w.items b1 b2 others s2 (bytes_name t) v (item (value.Buffer p k true)) refl (fresh_name b1 (bytes_name t) free.second) refl (record { right = h1.right; apart = h1.apart; within = h1.within }) in
      let x = uses_buffer set b2 (expr.Local (bytes_name t)) p k true others s3 h2 in
      record {
        last = x.then;
        runs = lifted_runs set t p k bytes s2 x.then lifts x.evaluated (same_owned p k x.then s2 x.account ∙ has);
        account = x.account;
        place = x.place;
        owns = λ g. omega (arith, x.owns g, owns_with g s2 (bytes_name t) v, owns_with g s.machine (len_name t) lv);
        holds = add_local w.items b2 (with_three old (len_name t) (bytes_name t) (text_name t)) others x.then (text_name t) v (item (value.Buffer p k true)) refl (fresh_name b2 (text_name t) free.third) refl x.holds;
        areas = λ n y z is.
            bound_under x.then (text_name t) v (x.holds.within (text_name t) free.third) n (val.Area y z)
            (x.areas n y z (bound_under s2 (bytes_name t) v (h1.within (bytes_name t) free.second) n (val.Area y z) (bound_under s.machine (len_name t) lv (d.hold.within (len_name t) free.first) n (val.Area y z) is)));
      }

  -- bytes that are owned are tested as the law says
  text_follows : (k : ℕ) (bytes taken : List ℕ) (blocks : List Block) (left : Account RustValue) → 0 < p → account_of (with_taken (base k) taken) ≡ left → owned_bytes p k (with_taken (base k) taken) ≡ Some bytes → owned (buffer_val p k true) ≡ addresses blocks
      → AreOwned s.machine.heap.blocks taken → (c : Bool) → is_utf8 bytes ≡ c
      → Follows func_meaning.account (if c then lawful (record { bytes = bytes; blocks = blocks }) left else failing q.form trap.Utf8 left) (seen s.area (behind set t (machine.Done (buffer_val p k true) (with_taken (base k) taken)))) (Ends k)
  text_follows k bytes taken blocks left pos same has own owners false e =
      let x = lifted k bytes taken has in
      subst (λ o. Follows func_meaning.account (let z : Outcome RustValue (Got RustValue Taken) = failing q.form trap.Utf8 left in z) (seen s.area o) (Ends k)) (sym (x.runs ∙ ap (λ c. tests set t c (buffer_val p k true) x.last) e))
      (fails_alike q.form w.item trap.Utf8 s.area x.last left (Ends k) (x.account ∙ same))
  text_follows k bytes taken blocks left pos same has own owners true e =
      let x = lifted k bytes taken has in
      let v = buffer_val p k true in
      let u = with_local x.last (text_name t) v in
      let named = with_three old (len_name t) (bytes_name t) (text_name t) in (
        record { machine = u; area = s.area },
        ap (seen s.area) (x.runs ∙ tested_runs set t (is_utf8 bytes) v x.last e),
        (
          text_fact k ∷ [],
          (value.Buffer p k true, refl, stands p k bytes blocks pos),
          record {
            account = x.account ∙ same;
            owns = λ g. let z = ap (total g) own in omega (arith, z, x.owns g, owns_with g x.last (text_name t) v, total-append g (owns_of u) [], total-append g (owns_of s.machine) (addresses blocks));
            denotes = record {
              hold = hold_as w.items named new (text_fact k ∷ others) u adds.params (three_used old new (len_name t) (bytes_name t) (text_name t) fresh) x.holds;
              owners = subst (λ (z : Account RustValue). AreOwned z.heap.blocks z.taken) (sym x.account) owners;
              area = areas_last new.import w.area s.area new.asked new.area s.machine u x.areas x.place (area_same w old new s.area s.machine (same_area old new (taken_stmts t a n) taking_items adds) d.area);
            };
          },
        ),
      )

  abbrev Agree : (k : ℕ) → Outcome RustValue (Got RustValue Taken) → machine.Outcome Val → Type 0
  Agree k law o = Follows func_meaning.account law (seen s.area (behind set t o)) (Ends k)

  stops : (k : ℕ) (kind : TrapKind) → Agree k (failing q.form kind acc) (machine.Stopped (failed set kind) (base k))
  stops k kind = fails_alike q.form w.item kind s.area (base k) acc (Ends k) refl

  read_agrees : (n : ℕ) (b : Block) (o : Option (List ℕ)) → 0 < p → is_taken p s.machine.taken ≡ false → block_at p (suc n) s.machine.heap.blocks ≡ Some b → bytes_from b.cells 0 (suc n) ≡ o
      → Agree (suc n) (law_tested true q.form b o acc) (owner_of set p (suc n) o (base (suc n)))
  read_agrees n b None pos free_p there read = stops (suc n) trap.Pointer
  read_agrees n b (Some bytes) pos free_p there read =
      let blocks = s.machine.heap.blocks in
      let taken = s.machine.taken ++ p ∷ [] in
      let at : b.address ≡ p = starts p (suc n) b (find_passes (is_at p (suc n)) blocks b there) in
      let from = begins blocks p n bytes (λ c. bytes_from c.cells 0 (suc n)) (ap (option_and_then (λ (c : Block). bytes_from c.cells 0 (suc n))) there ∙ read) in
      text_follows (suc n) bytes taken (b ∷ []) (record acc { taken = acc.taken ++ b.address ∷ [] }) pos (ap (λ x. record acc { taken = acc.taken ++ x ∷ [] }) (sym at))
      (ap (λ c. if c then option_and_then (λ (c : Block). bytes_from c.cells 0 (suc n)) (block_at p (suc n) blocks) else None) (last_taken p s.machine.taken) ∙ ap (option_and_then (λ (c : Block). bytes_from c.cells 0 (suc n))) there ∙ read)
      (owned-block p n ∙ ap (λ x. x ∷ []) (sym at)) (owned_more blocks p s.machine.taken free_p (there_of (block_from p blocks) from.0 from.1) d.owners) (is_utf8 bytes) refl

  block_agrees : (n : ℕ) (o : Option Block) → 0 < p → is_taken p s.machine.taken ≡ false → block_at p (suc n) s.machine.heap.blocks ≡ o → Agree (suc n) (law_found true q.form (suc n) o acc) (own_block set p (suc n) o (base (suc n)))
  block_agrees n None pos free_p there = stops (suc n) trap.Block
  block_agrees n (Some b) pos free_p there =
      subst (λ o. Agree (suc n) (law_tested true q.form b o acc) (owner_of set p (suc n) (bytes_from b.cells 0 (suc n)) (base (suc n)))) (sym (same_bytes b.cells 0 (suc n)))
      (read_agrees n b (bytes_from b.cells 0 (suc n)) pos free_p there refl)

  -- in bounds, and not at address 0
  abbrev law : ℕ → Outcome RustValue (Got RustValue Taken)
  law k = if nat_eq k 0 then lawful (record { bytes = []; blocks = [] }) acc else (if is_taken p acc.taken then failing q.form trap.Block acc else law_found true q.form k (find (is_at p k) acc.heap.blocks) acc)

  own_agrees : (k : ℕ) → 0 < p → Agree k (law k) (own set p k (base k))
  own_agrees zero pos = text_follows 0 [] s.machine.taken [] acc pos refl refl (owned-empty p true) d.owners true (is_utf8-from_IsUtf8 [] IsUtf8-nil)
  own_agrees (suc n) pos =
      subst (λ c. Agree (suc n) (if c then lawful (record { bytes = []; blocks = [] }) acc else (if is_taken p acc.taken then failing q.form trap.Block acc else law_found true q.form (suc n) (find (is_at p (suc n)) acc.heap.blocks) acc)) (own set p (suc n) (base (suc n)))) (sym (not_none n))
      (go (is_taken p s.machine.taken) refl)
    where
      go : (c : Bool) → is_taken p s.machine.taken ≡ c
          → Agree (suc n) (if c then failing q.form trap.Block acc else law_found true q.form (suc n) (find (is_at p (suc n)) acc.heap.blocks) acc) (own_block set p (suc n) (if c then None else block_at p (suc n) s.machine.heap.blocks) (base (suc n)))
      go true e = stops (suc n) trap.Block
      go false e = block_agrees n (block_at p (suc n) s.machine.heap.blocks) pos e refl

  agrees : (k : ℕ) → Agree k (taking true q.form p k acc) (take_over set p k (base k))
  unfolding take_over
  agrees k = size (nat_lt (2 ^ 31 - 1) k)
    where
      place : (c : Bool) → nat_eq p 0 ≡ c → Agree k (if c then failing q.form trap.Pointer acc else law k) ((if c then stop (failed set trap.Pointer) else own set p k) (base k))
      place true e = stops k trap.Pointer
      place false e = own_agrees k (above p e)

      size : (c : Bool) → Agree k (if c then failing q.form trap.Size acc else (if nat_eq p 0 then failing q.form trap.Pointer acc else law k)) ((if c then stop (failed set trap.Size) else (if nat_eq p 0 then stop (failed set trap.Pointer) else own set p k)) (base k))
      size true = stops k trap.Size
      size false = place (nat_eq p 0) refl

-- 6. The row

len_bytes : (t : ℕ) → bytes_eq (len_name t) (bytes_name t) ≡ false
len_bytes t = refl

len_text : (t : ℕ) → bytes_eq (len_name t) (text_name t) ≡ false
len_text t = refl

bytes_text : (t : ℕ) → bytes_eq (bytes_name t) (text_name t) ≡ false
bytes_text t = refl

module _ (types : List TypeDef) (old new : FunctionBindgen) (a e : Expr) (t : ℕ) (ok_a : is_operand a ≡ true) (ok_e : is_operand e ≡ true) (adds : Appends old new (taken_stmts t a e) taking_items) (fresh : FreshAll old new (taken_names t)) where
  taken_adds : Adds func_meaning old new
  taken_adds = func_adds old new (taken_stmts t a e) taking_items adds (unused_before old new (taken_names t) fresh) (λ w. quiet_taken w t a e ok_a ok_e)

  -- the operands are read one after the other, the length before its local is there
  pub lift_row : Takes old.scope (λ k. taken_names k) t new.scope → Emits func_meaning types instruction.StringLift (operand_of a ∷ operand_of e ∷ []) (operand_of (expr.Local (text_name t)) ∷ []) old new
  lift_row takes = record {
    adds = taken_adds;
    blocks = ap reverse adds.finished;
    returned = adds.returned;
    asked = adds.asked;
    form = form_by (sends instruction.StringLift) (record { gives = refl; calls = refl }) (operand_of a ∷ operand_of e ∷ []) old new (operand_of (expr.Local (text_name t)) ∷ []) (takes_text a e) t refl takes adds refl;
    results = refl;
    row = λ p k w q others s0 s at.
        let free = three old new (len_name t) (bytes_name t) (text_name t) fresh (len_bytes t) (len_text t) (bytes_text t) in
        let set = setting_for w q in
        let lv : Val = val.Word (core.Length k) in
        let address : Fact ExprOperand Slot RustValue = of (operand_of a) (word (core.Pointer p)) in
        let number : Fact ExprOperand Slot RustValue = of (operand_of e) (word (core.Length k)) in
        let h = at.holds.hold in
        let h1 = keeps w.items old (len_name t) lv (address ∷ number ∷ others) s.machine free.first h in
        let given_e = gives set e s.machine lv (is_said w.items old.params (env_of s.machine) number (omega (arith, h.right))) refl in
        let given_a = gives set a (with_local s.machine (len_name t) lv) (val.Word (core.Pointer p)) (is_said w.items old.params (env_of (with_local s.machine (len_name t) lv)) address (omega (arith, h1.right))) refl in
        let found = found_right w.items old.runtime taking_items (subst (Found w.items) adds.runtime at.serves.runtime) in
        let d : Denote w old others s = record { hold = part w.items old others (address ∷ number ∷ others) s.machine (λ g. omega arith) h; owners = at.holds.owners; area = at.holds.area } in
        let run = ran old new (taken_stmts t a e) taking_items adds w q (address ∷ number ∷ others) s0 s at ∙ ap (seen s.area) (taken_runs set t a e p k s.machine given_e given_a) in
        subst (λ o. Follows func_meaning.account (taking true q.form p k (account_of s.machine)) o (Ends w q old new a e t adds fresh free p others s found.1.0 d k)) (sym run)
        (agrees w q old new a e t adds fresh free p others s found.1.0 d k);
  }
