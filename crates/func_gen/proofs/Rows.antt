-- The rows of instructions that add no statement, and of those that bind one local.
use Rattle.std.proofs.Common.{◌≡◌, ℕ, Bool, true, false, if◌then◌else◌, List, [], ◌∷◌, ◌++◌, map, Option, None, Some, refl, sym, ap, ◌∙◌, subst, arith, append-nil, append_assoc}
use Rattle.std.specs.Prelude.{option_and_then}
use Rattle.wit_model.specs.Bytes.{Bytes}
use Rattle.wit_model.specs.declared.types.TypeDef.{TypeDef}
use Rattle.rust_tree.specs.declared.expr.Expr.{Expr}
use Rattle.rust_tree.specs.declared.expr.Expr.TheVariants as expr
use Rattle.rust_tree.specs.declared.item.Item.{Item}
use Rattle.rust_tree.specs.declared.runtime_item.RuntimeItem.{RuntimeItem}
use Rattle.rust_tree.specs.declared.stmt.Stmt.{Stmt}
use Rattle.rust_tree.specs.declared.stmt.Stmt.TheVariants as stmt
use Rattle.wrapper_data.specs.declared.run.Stop.{Stop}
use Rattle.wrapper_data.specs.declared.run.Stop.TheVariants as stop_of
use Rattle.wrapper_data.specs.declared.value.RustValue.{RustValue}
use Rattle.wrapper_meaning.specs.Items.{total}
use Rattle.wrapper_values.specs.declared.state.State.{State}
use Rattle.wrapper_values.specs.declared.state.Val.{Val}
use Rattle.wrapper_values.specs.Act as machine
use Rattle.wrapper_values.specs.Act.{and_then, pure}
use Rattle.wrapper_values.specs.Locals.{bind, usable}
use Rattle.wrapper_values.specs.Owning.{owned}
use Rattle.wrapper_values.specs.Setting.{Setting}
use Rattle.wrapper_run.specs.Run.{eval, run_stmts}
use Rattle.wrapper_run.specs.Inward.{CallsNothing}
use Rattle.wrapper_run.proofs.LocalLemmas.{reads-new}
use Rattle.wrapper_run.proofs.GiveSteps.{let_runs}
use Rattle.wrapper_run.proofs.QuietSteps.{quiet_let as quiet_stmt}
use Rattle.wrapper_run.proofs.StmtSteps.{runs-let}
use Rattle.wrapper_run.proofs.QuietActs.{quiet_pure}
use Rattle.abi_bindgen.specs.Account.{Account, Act, Done, Follows, Got, Outcome, Peer, Stopped, Stuck, account_in, stay}
use Rattle.abi_bindgen.specs.declared.instruction.Instruction.{Instruction}
use Rattle.abi_bindgen.specs.Instructions.{Emits}
use Rattle.abi_bindgen.specs.Laws.{Adds, After, At, Does, Facts, Stays}
use Rattle.abi_bindgen.specs.Meaning.{Datum, Fact, of}
use Rattle.func_gen.specs.declared.function_bindgen.FunctionBindgen.{FunctionBindgen}
use Rattle.func_gen.specs.declared.operand.ExprOperand.{ExprOperand}
use Rattle.func_gen.specs.declared.scope.Scope.{Scope}
use Rattle.func_gen.specs.Added.{Appends, Fresh}
use Rattle.func_gen.specs.Facts.{Hold, fact_datum, fact_value, wrong}
use Rattle.func_gen.specs.Forms.{operand_of}
use Rattle.func_gen.specs.Meaning.{File, Found, FuncState, Serves, account_of, call_of, func_meaning, owns_of, seen, setting_for}
use Rattle.func_gen.specs.Read.{Env, Read, env_of, less}
use Rattle.func_gen.specs.Scope.{is_used}
use Rattle.func_gen.specs.ReadForms.{read-local}
use Rattle.func_gen.specs.FactLemmas.{Says, follows}
use Rattle.func_gen.specs.Slot.{Slot}
use Rattle.func_gen.proofs.Lasting.{Beside, SameArea, add_plain, bound_under, denotes_on, lasts, owns_with, part, with_local, within_with, still_free}
use Rattle.func_gen.proofs.RuntimeItems.{found_right}
use Rattle.func_gen.proofs.Steps.{func_adds, ran, seen_calls}
use Rattle.wrapper_meaning.proofs.PostReturn.{total-append}

-- 1. A fact in place of another

pub instead : (items : List Item) (old new : FunctionBindgen) (f g : Fact ExprOperand Slot RustValue) (others : List (Fact ExprOperand Slot RustValue)) (s : State) → new.params ≡ old.params → new.scope ≡ old.scope
    → ((env : Env) → Says (fact_datum f) (fact_value items old.params env f) → Says (fact_datum g) (fact_value items old.params env g)) → Hold items old (f ∷ others) s → Hold items new (g ∷ others) s
instead items old new f g others s params scope from d = record {
  right = let e = ap (λ ps. total (wrong items ps (env_of s)) (g ∷ others)) params in omega (arith, e, d.right, follows items old.params (env_of s) f g (from (env_of s)));
  apart = λ n owns. let e = ap (λ ps. total (wrong items ps (less (env_of s) n)) (g ∷ others)) params in omega (arith, e, d.apart n owns, follows items old.params (less (env_of s) n) f g (from (less (env_of s) n)));
  within = λ n free. d.within n (sym (ap (λ (x : Scope). is_used x.used n) scope) ∙ free);
}

pub same_area : (old new : FunctionBindgen) (added : List Stmt) (items : List RuntimeItem) → Appends old new added items → SameArea old new
same_area old new added items a = record { import = a.import; asked = a.asked; name = a.area }

pub unmoved : (s : State) → Beside s s
unmoved s = record { heap = refl; taken = refl; place = refl; under = λ n v h. h }

pub quiet_none : (w : Setting) → CallsNothing (run_stmts w [])
quiet_none w = quiet_pure tt

-- no statement was added
module _ (old new : FunctionBindgen) (items : List RuntimeItem) (a : Appends old new [] items) (scope : new.scope ≡ old.scope) where
  pub none_adds : Adds func_meaning old new
  none_adds = func_adds old new [] items a (λ n free. ap (λ (s : Scope). is_used s.used n) (sym scope) ∙ free) quiet_none

  -- such code does nothing, and a fact that follows from another stands in its place
  pub swapped : (f g : Fact ExprOperand Slot RustValue) (w : File) (p : Peer RustValue) (others : Facts func_meaning) (s0 s : FuncState) → At func_meaning w p old new (f ∷ others) s0 s
      → ((env : Env) → Says (fact_datum f) (fact_value w.items old.params env f) → Says (fact_datum g) (fact_value w.items old.params env g)) → After func_meaning w new (g ∷ others) [] [] s (record { result = tt {0}; account = account_of s.machine }) s
  swapped f g w p others s0 s at from = record {
    account = refl;
    owns = λ x. refl;
    denotes = denotes_on w old new (f ∷ others) (g ∷ others) s s.machine (same_area old new [] items a) (unmoved s.machine) at.holds (instead w.items old new f g others s.machine a.params scope from at.holds.hold);
  }

  pub found_items : (w : File) (p : Peer RustValue) (facts : Facts func_meaning) (s0 s : FuncState) → At func_meaning w p old new facts s0 s → Found w.items items
  found_items w p facts s0 s at = found_right w.items old.runtime items (subst (Found w.items) a.runtime at.serves.runtime)

  pub swaps : (f g : Fact ExprOperand Slot RustValue) → ((w : File) → Found w.items items → (env : Env) → Says (fact_datum f) (fact_value w.items old.params env f) → Says (fact_datum g) (fact_value w.items old.params env g))
      → Stays func_meaning old new (f ∷ []) (λ fs. fs ≡ g ∷ [])
  swaps f g from w p others s0 s at = (s, ran old new [] items a w p (f ∷ others) s0 s at, (g ∷ [], refl, swapped f g w p others s0 s at (from w (found_items w p (f ∷ others) s0 s at))))

  -- the same where the action is a test that is passed, or has no meaning
  pub tests : (test : Bool) (f g : Fact ExprOperand Slot RustValue) (Outs : Facts func_meaning → Type 0) → (test ≡ true → Outs (g ∷ []))
      → (test ≡ true → (w : File) → Found w.items items → (env : Env) → Says (fact_datum f) (fact_value w.items old.params env f) → Says (fact_datum g) (fact_value w.items old.params env g))
      → Does func_meaning (Unit {0}) old new (f ∷ []) (λ p acc. if test then stay acc else Stuck acc) (λ u fs. Outs fs) (λ u. []) (λ u. [])
  tests true f g Outs outs from w p others s0 s at = (s, ran old new [] items a w p (f ∷ others) s0 s at, (g ∷ [], outs refl, swapped f g w p others s0 s at (from refl w (found_items w p (f ∷ others) s0 s at))))
  tests false f g Outs outs from w p others s0 s at = ap (λ o. (account_in func_meaning.account o).calls) (ran old new [] items a w p (f ∷ others) s0 s at)

-- 2. One statement, which binds a local

-- what an expression gives agrees with an action that changes nothing, and is what its result says
abbrev pub AgreesBy : (A : Type 0) (acc : Account RustValue) → Outcome RustValue (Got RustValue A) → machine.Outcome Val → State → (A → Datum RustValue) → Type 0
AgreesBy A acc (Done x) q s d = (x.account ≡ acc) × ((v : Val) × (q ≡ machine.Done v s) × (owned v ≡ []) × Says (d x.result) (option_and_then usable (Some v)))
AgreesBy A acc (Stopped e left) q s d = seen None (and_then q (λ v. pure tt)) ≡ Stopped e left
AgreesBy A acc (Stuck left) q s d = left.calls ≡ acc.calls

abbrev pub Agrees : (acc : Account RustValue) → Outcome RustValue (Got RustValue (Unit {0})) → machine.Outcome Val → State → Datum RustValue → Type 0
Agrees acc o q s d = AgreesBy (Unit {0}) acc o q s (λ u. d)

pub quiet_let : (n : Bytes) (e : Expr) → ((w : Setting) → CallsNothing (eval w e)) → (w : Setting) → CallsNothing (run_stmts w (stmt.Let n e ∷ []))
quiet_let n e q w = quiet_stmt w n e [] (q w) (quiet_pure tt)

pub binds : (w : Setting) (n : Bytes) (e : Expr) (v : Val) (s : State) → eval w e s ≡ machine.Done v s → run_stmts w (stmt.Let n e ∷ []) s ≡ machine.Done tt (with_local s n v)
binds w n e v s h = let_runs w n e [] v s s h

stops_early : (at : Option ℕ) (q : machine.Outcome Val) (n : Bytes) (e : Stop) (left : Account RustValue) → seen None (and_then q (λ v. pure tt)) ≡ Stopped e left → seen at (and_then (and_then q (bind n)) (λ u. pure tt)) ≡ Stopped e left
stops_early at (machine.Done v t) n e left h = absurd cc
stops_early at (machine.Stopped (stop_of.Stuck k) t) n e left h = absurd cc
stops_early at (machine.Stopped stop_of.Done t) n e left h = h
stops_early at (machine.Stopped (stop_of.Refused r) t) n e left h = h
stops_early at (machine.Stopped (stop_of.Trap k) t) n e left h = h
stops_early at (machine.Stopped stop_of.BadChoice t) n e left h = h

module _ (old new : FunctionBindgen) (n : Bytes) (e : Expr) (items : List RuntimeItem) (a : Appends old new (stmt.Let n e ∷ []) items) (fresh : Fresh old new n) (quiet : (w : Setting) → CallsNothing (eval w e)) where
  pub let_adds : Adds func_meaning old new
  let_adds = func_adds old new (stmt.Let n e ∷ []) items a (still_free old new n fresh) (quiet_let n e quiet)

  -- the new local denotes what the expression gave
  pub bound : (ins others : Facts func_meaning) (w : File) (s : FuncState) (v : Val) (d : Datum RustValue) → func_meaning.denotes w old (ins ++ others) s → owned v ≡ [] → Says d (option_and_then usable (Some v))
      → func_meaning.denotes w new (of (operand_of (expr.Local n)) d ∷ others) (record { machine = with_local s.machine n v; area = s.area })
  bound ins others w s v d h none says =
      let t = with_local s.machine n v in
      let free = h.hold.within n fresh.free in
      let under = bound_under s.machine n v free in
      let fewer = part w.items old others (ins ++ others) s.machine (λ g. omega (arith, total-append g ins others)) h.hold in
      let last = lasts w.items old new others s.machine t a.params under (within_with old new n s.machine v fresh h.hold.within) fewer in
      denotes_on w old new (ins ++ others) (of (operand_of (expr.Local n)) d ∷ others) s t (same_area old new (stmt.Let n e ∷ []) items a) (record { heap = refl; taken = refl; place = refl; under = under }) h
      (add_plain w.items new others t (operand_of (expr.Local n)) d n v
      (λ env at. subst (Says d) (sym (ap (λ (r : Read). r.at env) (read-local w.items n) ∙ ap (option_and_then usable) at)) says)
      (reads-new n (Some v) s.machine.locals) none last)

  -- in a file that serves the new code
  pub lets_served : (A : Type 0) (ins : Facts func_meaning) (act : Peer RustValue → Act RustValue A) (d : A → Datum RustValue) (Outs : A → Facts func_meaning → Type 0) → ((x : A) → Outs x (of (operand_of (expr.Local n)) (d x) ∷ []))
      → ((w : File) (p : Peer RustValue) (s : State) → Serves w new → Hold w.items old ins s → AgreesBy A (account_of s) (act p (account_of s)) (eval (setting_for w p) e s) s d)
      → Does func_meaning A old new ins act Outs (λ x. []) (λ x. [])
  lets_served A ins act d Outs outs agrees w p others s0 s at =
      let here = part w.items old ins (ins ++ others) s.machine (λ g. omega (arith, total-append g ins others)) at.holds.hold in
      go (act p (account_of s.machine)) (agrees w p s.machine at.serves here)
    where
      go : (o : Outcome RustValue (Got RustValue A)) → AgreesBy A (account_of s.machine) o (eval (setting_for w p) e s.machine) s.machine d
          → Follows func_meaning.account o (func_meaning.does w p new.code s0) (λ x t. (fs : Facts func_meaning) × Outs x.result fs × After func_meaning w new (fs ++ others) [] [] s x t)
      go (Done x) (same, (v, gives, none, says)) =
          let t = with_local s.machine n v in (
            record { machine = t; area = s.area },
            ran old new (stmt.Let n e ∷ []) items a w p (ins ++ others) s0 s at ∙ ap (seen s.area) (binds (setting_for w p) n e v s.machine gives),
            (
              of (operand_of (expr.Local n)) (d x.result) ∷ [],
              outs x.result,
              record {
                account = sym same;
                owns = λ g. let none_more = ap (total g) none in omega (arith, total-append g (owns_of t) [], total-append g (owns_of s.machine) [], owns_with g s.machine n v, none_more);
                denotes = bound ins others w s v (d x.result) at.holds none says;
              },
            ),
          )
      go (Stopped x left) h = ran old new (stmt.Let n e ∷ []) items a w p (ins ++ others) s0 s at ∙ ap (seen s.area) (runs-let (setting_for w p) n e [] s.machine) ∙ stops_early s.area (eval (setting_for w p) e s.machine) n x left h
      go (Stuck left) h =
          ap (λ o. (account_in func_meaning.account o).calls) (ran old new (stmt.Let n e ∷ []) items a w p (ins ++ others) s0 s at)
          ∙ seen_calls s.area (run_stmts (setting_for w p) (stmt.Let n e ∷ []) s.machine) ∙ ap (map call_of) ((quiet_let n e quiet (setting_for w p)).quiet s.machine) ∙ sym h

  pub lets_by : (A : Type 0) (ins : Facts func_meaning) (act : Peer RustValue → Act RustValue A) (d : A → Datum RustValue) (Outs : A → Facts func_meaning → Type 0) → ((x : A) → Outs x (of (operand_of (expr.Local n)) (d x) ∷ []))
      → ((w : File) (p : Peer RustValue) (s : State) → Found w.items items → Hold w.items old ins s → AgreesBy A (account_of s) (act p (account_of s)) (eval (setting_for w p) e s) s d)
      → Does func_meaning A old new ins act Outs (λ x. []) (λ x. [])
  lets_by A ins act d Outs outs agrees = lets_served A ins act d Outs outs (λ w p s serves h. agrees w p s (found_right w.items old.runtime items (subst (Found w.items) a.runtime serves.runtime)) h)

  pub lets : (ins : Facts func_meaning) (act : Peer RustValue → Act RustValue (Unit {0})) (d : Datum RustValue) (Outs : Facts func_meaning → Type 0) → Outs (of (operand_of (expr.Local n)) d ∷ [])
      → ((w : File) (p : Peer RustValue) (s : State) → Found w.items items → Hold w.items old ins s → Agrees (account_of s) (act p (account_of s)) (eval (setting_for w p) e s) s d)
      → Does func_meaning (Unit {0}) old new ins act (λ u fs. Outs fs) (λ u. []) (λ u. [])
  lets ins act d Outs outs agrees = lets_by (Unit {0}) ins act (λ u. d) (λ u fs. Outs fs) (λ u. outs) agrees

-- 3. As the operands and the results are

pub emits_as : (types : List TypeDef) (i : Instruction) (os ps rs qs : List ExprOperand) (old new : FunctionBindgen) → os ≡ ps → rs ≡ qs → Emits func_meaning types i ps qs old new → Emits func_meaning types i os rs old new
emits_as types i os ps rs qs old new e f h = subst (λ xs. Emits func_meaning types i xs rs old new) (sym e) (subst (λ xs. Emits func_meaning types i ps xs old new) (sym f) h)

pub pushed : (old new : List ExprOperand) (e f : Expr) → new ≡ old ++ operand_of e ∷ [] → old ≡ [] → e ≡ f → new ≡ operand_of f ∷ []
pushed old new e f is none same = is ∙ ap (λ ys. ys ++ operand_of e ∷ []) none ∙ ap (λ x. operand_of x ∷ []) same

-- where names were declared alone, no code was added
pub no_code : (old new : FunctionBindgen) → new ≡ record old { scope = new.scope } → Appends old new [] []
no_code old new e = record {
  call = ap (λ (b : FunctionBindgen). b.code.call) e;
  stmts = ap (λ (b : FunctionBindgen). b.code.stmts) e ∙ sym (append-nil old.code.stmts);
  runtime = ap (λ (b : FunctionBindgen). b.runtime) e ∙ sym (append-nil old.runtime);
  import = ap (λ (b : FunctionBindgen). b.import) e;
  home = ap (λ (b : FunctionBindgen). b.home) e;
  area = ap (λ (b : FunctionBindgen). b.area) e;
  params = ap (λ (b : FunctionBindgen). b.params) e;
  sites = ap (λ (b : FunctionBindgen). b.sites) e;
  sizes = ap (λ (b : FunctionBindgen). b.sizes) e;
  asked = ap (λ (b : FunctionBindgen). b.asked) e;
  returned = ap (λ (b : FunctionBindgen). b.returned) e;
  opened = ap (λ (b : FunctionBindgen). b.opened) e;
  finished = ap (λ (b : FunctionBindgen). b.finished) e;
}

pub unchanged : (b : FunctionBindgen) → Appends b b [] []
unchanged b = record { call = refl; stmts = sym (append-nil b.code.stmts); runtime = sym (append-nil b.runtime); import = refl; home = refl; area = refl; params = refl; sites = refl; sizes = refl; asked = refl; returned = refl; opened = refl; finished = refl }

-- statements and items after others
pub appends_both : (a b c : FunctionBindgen) (xs ys : List Stmt) (is js : List RuntimeItem) → Appends a b xs is → Appends b c ys js → Appends a c (xs ++ ys) (is ++ js)
appends_both a b c xs ys is js h k = record {
  call = k.call ∙ h.call;
  stmts = k.stmts ∙ ap (λ zs. zs ++ ys) h.stmts ∙ append_assoc a.code.stmts xs ys;
  runtime = k.runtime ∙ ap (λ zs. zs ++ js) h.runtime ∙ append_assoc a.runtime is js;
  import = k.import ∙ h.import;
  home = k.home ∙ h.home;
  area = k.area ∙ h.area;
  params = k.params ∙ h.params;
  sites = k.sites ∙ h.sites;
  sizes = k.sizes ∙ h.sizes;
  asked = k.asked ∙ h.asked;
  returned = k.returned ∙ h.returned;
  opened = k.opened ∙ h.opened;
  finished = k.finished ∙ h.finished;
}

-- a name that is declared where the scope is as before
pub fresh_since : (a b c : FunctionBindgen) (n : Bytes) → b.scope ≡ a.scope → Fresh b c n → Fresh a c n
fresh_since a b c n e f = record { free = ap (λ (s : Scope). is_used s.used n) (sym e) ∙ f.free; used = f.used ∙ ap (λ (s : Scope). s.used ++ n ∷ []) e }
