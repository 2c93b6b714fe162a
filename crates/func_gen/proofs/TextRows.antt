-- The rows of texts that are lent or given away: three locals, and two words.
use Rattle.std.proofs.Common.{◌≡◌, ℕ, ◌+◌, true, false, List, [], ◌∷◌, ◌++◌, length, map, reverse, Some, refl, sym, ap, ◌∙◌, subst, arith}
use Rattle.wit_model.specs.declared.types.TypeDef.{TypeDef}
use Rattle.wit_model.specs.Bytes.{Bytes}
use Rattle.rust_tree.specs.declared.expr.Expr.{Expr}
use Rattle.rust_tree.specs.declared.expr.Expr.TheVariants as expr
use Rattle.rust_tree.specs.declared.stmt.Stmt.TheVariants as stmt
use Rattle.wrapper_data.specs.declared.block.Block.{Block}
use Rattle.wrapper_data.specs.declared.value.RustValue.{RustValue}
use Rattle.wrapper_data.specs.declared.value.RustValue.TheVariants as value
use Rattle.wrapper_data.specs.declared.word.Word.TheVariants as core
use Rattle.wrapper_meaning.specs.Items.{total}
use Rattle.wrapper_meaning.specs.Shape.Shape.{text}
use Rattle.wrapper_values.specs.declared.state.State.{State}
use Rattle.wrapper_values.specs.declared.state.Val.TheVariants as val
use Rattle.wrapper_values.specs.Act as machine
use Rattle.wrapper_values.specs.Act.{and_then}
use Rattle.wrapper_values.specs.Owning.{owned, owned_by}
use Rattle.wrapper_values.specs.Setting.{Setting}
use Rattle.wrapper_run.specs.Blocks.{box_buffer, boxed, release_all}
use Rattle.wrapper_run.specs.Run.{eval, run_stmts}
use Rattle.wrapper_run.specs.Inward.{CallsNothing}
use Rattle.wrapper_run.proofs.GiveSteps.{eval-boxed}
use Rattle.wrapper_run.proofs.InwardCalls.{stmts_quiet}
use Rattle.wrapper_run.proofs.OwningLemmas.{buffer-text, owned-lent}
use Rattle.wrapper_run.proofs.StepLemmas.{eval-local}
use Rattle.abi_bindgen.specs.Account.{Account, Done, Follows, Got, Outcome, Stopped, Stuck, account_in, addresses, releasing}
use Rattle.abi_bindgen.specs.declared.instruction.Instruction.TheVariants.{StringLower}
use Rattle.abi_bindgen.specs.Instructions.{Emits}
use Rattle.abi_bindgen.specs.Laws.{Adds, After, Does, Facts}
use Rattle.abi_bindgen.specs.Meaning.{Fact, item, of}
use Rattle.abi_bindgen.specs.Sent.{sends}
use Rattle.func_gen.specs.declared.function_bindgen.FunctionBindgen.{FunctionBindgen}
use Rattle.func_gen.specs.declared.operand.ExprOperand.{ExprOperand}
use Rattle.func_gen.specs.Added.{Appends}
use Rattle.func_gen.specs.CallForms.{FreshAll}
use Rattle.func_gen.specs.Facts.{AreOwned, Hold}
use Rattle.func_gen.specs.Forms.{operand_of}
use Rattle.func_gen.specs.Meaning.{account_of, call_of, func_meaning, owns_of, seen, setting_for}
use Rattle.func_gen.specs.Operand.{is_operand}
use Rattle.func_gen.specs.Read.{env_of}
use Rattle.func_gen.specs.StandLemmas.{lent_alone, taken_on, taken_owns}
use Rattle.func_gen.specs.TextForms.{buffer_names, buffer_stmts, buffer_words, forgotten, given_stmts, len_name, ptr_name, vec_name}
use Rattle.func_gen.specs.Scope.{Takes}
use Rattle.func_gen.specs.CodeOf.{gives_text, hands_text, lends_text}
use Rattle.func_gen.specs.Slot.{Slot}
use Rattle.func_gen.proofs.Buffers.{buffer_facts, buffer_holds, buffer_inward, buffer_runs, buffer_under, buffer_val, owns_buffer, ptr_len, uses_buffer, vec_len, vec_ptr, with_buffer}
use Rattle.func_gen.proofs.Declared.{Three, hold_as, three, three_used, unused_before, with_three}
use Rattle.func_gen.proofs.Emissions.{local_is}
use Rattle.func_gen.proofs.Forgetting.{Releases, forget_runs, releases, with_taken}
use Rattle.func_gen.proofs.Forming.{form_by}
use Rattle.func_gen.proofs.GivenTexts.{given_text}
use Rattle.func_gen.proofs.InwardForms.{bytes_inward, expr_inward, forgotten_inward, inward_both, operand_inward}
use Rattle.func_gen.proofs.Lasting.{area_same, part}
use Rattle.func_gen.proofs.PartRows.{areas_last}
use Rattle.func_gen.proofs.Rows.{same_area}
use Rattle.func_gen.proofs.Steps.{func_adds, ran, seen_calls}
use Rattle.wrapper_meaning.proofs.PostReturn.{total-append}

-- 1. A text is lent

module _ (types : List TypeDef) (old new : FunctionBindgen) (e : Expr) (t : ℕ) (ok : is_operand e ≡ true) (a : Appends old new (buffer_stmts t e) []) (f : FreshAll old new (buffer_names t)) where
  lent_names : Three old (vec_name t) (ptr_name t) (len_name t)
  lent_names = three old new (vec_name t) (ptr_name t) (len_name t) f (vec_ptr t) (vec_len t) (ptr_len t)

  lent_adds : Adds func_meaning old new
  lent_adds = func_adds old new (buffer_stmts t e) [] a (unused_before old new (buffer_names t) f) (λ w. stmts_quiet w (buffer_stmts t e) (buffer_inward t e (operand_inward e ok)))

  -- a text that owns nothing stays where it was lent
  lends : (p n : ℕ) → Does func_meaning (Unit {0}) old new (of (operand_of e) (item (value.Buffer p n false)) ∷ []) (λ q. releasing []) (λ u fs. fs ≡ buffer_facts t p n) (λ u. []) (λ u. [])
  lends p n w q others s0 s at =
      let ins : Facts func_meaning = of (operand_of e) (item (value.Buffer p n false)) ∷ others in
      let set = setting_for w q in
      let x = uses_buffer set old e p n false others s.machine at.holds.hold in
      let none = owned-lent p n in
      let u = with_buffer x.then t p n false in
      let held = buffer_holds w.items old t lent_names p n false others x.then x.holds in
      let facts = buffer_facts t p n ++ others in
      let few = part w.items (with_three old (vec_name t) (ptr_name t) (len_name t)) facts (buffer_facts t p n ++ (of (operand_of (expr.Local (vec_name t))) (item (value.Buffer p n false)) ∷ others)) u (λ g. omega arith) held in (
        record { machine = u; area = s.area },
        ran old new (buffer_stmts t e) [] a w q ins s0 s at ∙ ap (seen s.area) (buffer_runs set t e p n false [] s.machine x.then x.evaluated),
        (
          buffer_facts t p n,
          refl,
          record {
            account = x.account;
            owns = λ g. let z = ap (total g) none in omega (arith, total-append g (owns_of u) [], total-append g (owns_of s.machine) [], owns_buffer g x.then t p n false, x.owns g, z);
            denotes = record {
              hold = hold_as w.items (with_three old (vec_name t) (ptr_name t) (len_name t)) new facts u a.params (three_used old new (vec_name t) (ptr_name t) (len_name t) f) few;
              owners = subst (λ (acc : Account RustValue). AreOwned acc.heap.blocks acc.taken) (sym x.account) at.holds.owners;
              area = areas_last new.import w.area s.area new.asked new.area s.machine u (λ k y z is. buffer_under w.items old t lent_names p n false others x.then x.holds k (val.Area y z) (x.areas k y z is)) x.place
                  (area_same w old new s.area s.machine (same_area old new (buffer_stmts t e) [] a) at.holds.area);
            };
          },
        ),
      )

  pub lend_row : Takes old.scope (λ k. buffer_names k) t new.scope → Emits func_meaning types (StringLower false) (operand_of e ∷ []) (buffer_words t) old new
  lend_row takes = record {
    adds = lent_adds;
    blocks = ap reverse a.finished;
    returned = a.returned;
    asked = a.asked;
    form = form_by (sends (StringLower false)) (record { gives = refl; calls = refl }) (operand_of e ∷ []) old new (buffer_words t) (lends_text e) t refl takes a refl;
    results = refl;
    row = λ heap bytes r own st.
        let b = st.0 in
        let n = length bytes in
        let is : r ≡ value.Buffer b.address n false = b.is ∙ ap (value.Buffer b.address n) b.flag in
        let bare : own ≡ [] = (lent_alone heap text bytes r own st.0).1 in (
          core.Pointer b.address ∷ core.Length n ∷ [],
          record { address = b.address; pair = refl; range = b.range; buffer = b.buffer },
          subst (λ (os : List Block). Does func_meaning (Unit {0}) old new (of (operand_of e) (item r) ∷ []) (λ q. releasing (addresses os)) (λ u fs. fs ≡ buffer_facts t b.address n) (λ u. []) (λ u. addresses os)) (sym bare)
              (subst (λ y. Does func_meaning (Unit {0}) old new (of (operand_of e) (item y) ∷ []) (λ q. releasing []) (λ u fs. fs ≡ buffer_facts t b.address n) (λ u. []) (λ u. [])) (sym is) (lends b.address n)),
        );
  }

-- 2. A text is given away

boxes : (w : Setting) (name : Bytes) (p n : ℕ) (s t : State) → eval w (expr.Local name) s ≡ machine.Done (buffer_val p n true) t → eval w (expr.IntoBoxedBytes name) s ≡ machine.Done (buffer_val p n true) t
unfolding boxed
boxes w name p n s t h =
    ap (λ act. act s) (eval-boxed w name) ∙ ap (λ o. and_then o (boxed w)) (sym (ap (λ act. act s) (eval-local w name)) ∙ h) ∙ ap (λ o. box_buffer w (buffer_val p n true) o t) (buffer-text p n true)

module _ (types : List TypeDef) (old new : FunctionBindgen) (name : Bytes) (t : ℕ) (a : Appends old new (given_stmts t name) []) (f : FreshAll old new (buffer_names t)) where
  given_names : Three old (vec_name t) (ptr_name t) (len_name t)
  given_names = three old new (vec_name t) (ptr_name t) (len_name t) f (vec_ptr t) (vec_len t) (ptr_len t)

  quiet_given : (w : Setting) → CallsNothing (run_stmts w (given_stmts t name))
  quiet_given w =
      let forgets = stmt.Expr (forgotten (vec_name t)) ∷ [] in
      stmts_quiet w (given_stmts t name)
      (inward_both (buffer_stmts t (expr.IntoBoxedBytes name)) forgets (buffer_inward t (expr.IntoBoxedBytes name) (bytes_inward name)) (expr_inward (forgotten (vec_name t)) (forgotten_inward (vec_name t))))

  given_adds : Adds func_meaning old new
  given_adds = func_adds old new (given_stmts t name) [] a (unused_before old new (buffer_names t) f) quiet_given

  abbrev named : FunctionBindgen
  named = with_three old (vec_name t) (ptr_name t) (len_name t)

  -- the text is moved into the box, and the box into what is forgotten
  record Moved (set : Setting) (p n : ℕ) (others : List (Fact ExprOperand Slot RustValue)) (s : State) : Type 0 where
    pub then : State
    pub runs : run_stmts set (given_stmts t name) s ≡ release_all set (owned (buffer_val p n true)) then
    pub account : account_of then ≡ account_of s
    pub place : then.place ≡ s.place
    pub owns : (g : ℕ → ℕ) → total g (owns_of then) + total g (owned (buffer_val p n true)) ≡ total g (owns_of s)
    pub holds : Hold set.items named (buffer_facts t p n ++ others) then
    pub areas : (k : Bytes) (address size : ℕ) → env_of s k ≡ Some (val.Area address size) → env_of then k ≡ Some (val.Area address size)

  -- each local that had it has it no more, and the words stay
  moves : (set : Setting) (p n : ℕ) (others : List (Fact ExprOperand Slot RustValue)) (s : State) → Hold set.items old (of (operand_of (expr.Local name)) (item (value.Buffer p n true)) ∷ others) s → Moved set p n others s
  moves set p n others s h =
      let vec : Fact ExprOperand Slot RustValue = of (operand_of (expr.Local (vec_name t))) (item (value.Buffer p n true)) in
      let x = uses_buffer set old (expr.Local name) p n true others s h in
      let s3 = with_buffer x.then t p n true in
      let held = buffer_holds set.items old t given_names p n true others x.then x.holds in
      let turned = part set.items named (vec ∷ (buffer_facts t p n ++ others)) (buffer_facts t p n ++ (vec ∷ others)) s3 (λ g. omega arith) held in
      let y = uses_buffer set named (expr.Local (vec_name t)) p n true (buffer_facts t p n ++ others) s3 turned in
      let under = buffer_under set.items old t given_names p n true others x.then x.holds in
      record {
        then = y.then;
        runs = buffer_runs set t (expr.IntoBoxedBytes name) p n true (stmt.Expr (forgotten (vec_name t)) ∷ []) s x.then (boxes set name p n s x.then x.evaluated) ∙ forget_runs set (vec_name t) (buffer_val p n true) s3 y.then y.evaluated;
        account = y.account ∙ x.account;
        place = y.place ∙ x.place;
        owns = λ g. omega (arith, x.owns g, y.owns g, owns_buffer g x.then t p n true);
        holds = y.holds;
        areas = λ k q z is. y.areas k q z (under k (val.Area q z) (x.areas k q z is));
      }

  -- its block stays, and has no owner any more
  gives_away : (p n : ℕ) → Does func_meaning (Unit {0}) old new (of (operand_of (expr.Local name)) (item (value.Buffer p n true)) ∷ []) (λ q. releasing (owned (buffer_val p n true))) (λ u fs. fs ≡ buffer_facts t p n) (λ u. []) (λ u. owned (buffer_val p n true))
  gives_away p n w q others s0 s at =
      let m = moves (setting_for w q) p n others s.machine at.holds.hold in
      let owners = subst (λ (acc : Account RustValue). AreOwned acc.heap.blocks acc.taken) (sym m.account) at.holds.owners in
      let agrees = releases (setting_for w q) (owned (buffer_val p n true)) m.then owners in
      go m (releasing (owned (buffer_val p n true)) (account_of s.machine)) (release_all (setting_for w q) (owned (buffer_val p n true)) m.then) m.runs
      (subst (λ acc. Releases acc (releasing (owned (buffer_val p n true)) acc) (release_all (setting_for w q) (owned (buffer_val p n true)) m.then) m.then) m.account agrees)
    where
      ins : Facts func_meaning
      ins = of (operand_of (expr.Local name)) (item (value.Buffer p n true)) ∷ others

      go : (m : Moved (setting_for w q) p n others s.machine) (o : Outcome RustValue (Got RustValue (Unit {0}))) (r : machine.Outcome (Unit {0})) → run_stmts (setting_for w q) (given_stmts t name) s.machine ≡ r → Releases (account_of s.machine) o r m.then
          → Follows func_meaning.account o (func_meaning.does w q new.code s0) (λ x u. (fs : Facts func_meaning) × (fs ≡ buffer_facts t p n) × After func_meaning w new (fs ++ others) [] (owned (buffer_val p n true)) s x u)
      go m (Done x) r runs (taken, is, same, owners) =
          let u = with_taken m.then taken in
          let facts = buffer_facts t p n ++ others in
          let held = hold_as w.items named new facts m.then a.params (three_used old new (vec_name t) (ptr_name t) (len_name t) f) m.holds in (
            record { machine = u; area = s.area },
            ran old new (given_stmts t name) [] a w q ins s0 s at ∙ ap (seen s.area) (runs ∙ is),
            (
              buffer_facts t p n,
              refl,
              record {
                account = sym same;
                owns = λ g. omega (arith, total-append g (owns_of u) (owned (buffer_val p n true)), total-append g (owns_of s.machine) [], m.owns g);
                denotes = record {
                  hold = record { right = held.right; apart = held.apart; within = held.within };
                  owners = owners;
                  area = areas_last new.import w.area s.area new.asked new.area s.machine u m.areas m.place (area_same w old new s.area s.machine (same_area old new (given_stmts t name) [] a) at.holds.area);
                };
              },
            ),
          )
      go m (Stopped e left) r runs h = absurd h
      go m (Stuck left) r runs h =
          ap (λ o. (account_in func_meaning.account o).calls) (ran old new (given_stmts t name) [] a w q ins s0 s at) ∙ seen_calls s.area (run_stmts (setting_for w q) (given_stmts t name) s.machine)
          ∙ ap (map call_of) ((quiet_given (setting_for w q)).quiet s.machine) ∙ sym h

  pub give_row : Takes old.scope (λ k. buffer_names k) t new.scope → Emits func_meaning types (StringLower true) (operand_of (expr.Local name) ∷ []) (buffer_words t) old new
  give_row takes = record {
    adds = given_adds;
    blocks = ap reverse a.finished;
    returned = a.returned;
    asked = a.asked;
    form = form_by (sends (StringLower true)) (record { gives = refl; calls = refl }) (operand_of (expr.Local name) ∷ []) old new (buffer_words t) (hands_text name) t (ap (λ o. Some (gives_text (expr.Local name) o)) (local_is name)) takes a refl;
    results = refl;
    row = λ heap bytes r own st.
        let b = st.0 in
        let n = length bytes in
        let is = given_text bytes r own st in
        let gone : owned (buffer_val b.address n true) ≡ addresses own = ap owned_by (sym is) ∙ taken_owns text bytes r own (taken_on text bytes r own st.0) in (
          core.Pointer b.address ∷ core.Length n ∷ [],
          record { address = b.address; pair = refl; range = b.range; buffer = b.buffer },
          subst (λ (places : List ℕ). Does func_meaning (Unit {0}) old new (of (operand_of (expr.Local name)) (item r) ∷ []) (λ q. releasing places) (λ u fs. fs ≡ buffer_facts t b.address n) (λ u. []) (λ u. places)) gone
              (subst (λ y. Does func_meaning (Unit {0}) old new (of (operand_of (expr.Local name)) (item y) ∷ []) (λ q. releasing (owned (buffer_val b.address n true))) (λ u fs. fs ≡ buffer_facts t b.address n) (λ u. []) (λ u. owned (buffer_val b.address n true))) (sym is)
              (gives_away b.address n)),
        );
  }
