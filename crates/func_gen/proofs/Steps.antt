-- Statements that are added to the code: how it then runs, and what it leaves as it was.
use Rattle.std.proofs.Common.{◌≡◌, ℕ, not, if◌then◌else◌, List, [], ◌∷◌, ◌++◌, length, map, reverse, Option, Some, refl, sym, ap, ap₂, ◌∙◌, subst, false, None}
use Rattle.std.specs.List.{AllByRecursion}
use Rattle.wit_layout.specs.Filled.{IsFilledFor}
use Rattle.wit_model.specs.Bytes.{Bytes}
use Rattle.rust_tree.specs.Ident.{rust_ident}
use Rattle.rust_tree.specs.declared.export.CallBlock.{CallBlock}
use Rattle.rust_tree.specs.declared.runtime_item.RuntimeItem.{RuntimeItem}
use Rattle.rust_tree.specs.declared.stmt.Stmt.{Stmt}
use Rattle.wrapper_data.specs.declared.run.Stop.TheVariants as stop
use Rattle.wrapper_data.specs.declared.run.Target.TheVariants as target
use Rattle.wrapper_data.specs.declared.value.RustValue.{RustValue}
use Rattle.wrapper_values.specs.declared.state.State.{State}
use Rattle.wrapper_values.specs.Act as machine
use Rattle.wrapper_values.specs.Act.{Act, and_then}
use Rattle.wrapper_values.specs.Setting.{Setting}
use Rattle.wrapper_run.specs.Run.{run_stmt, run_stmts}
use Rattle.wrapper_run.specs.Inward.{CallsNothing}
use Rattle.wrapper_run.proofs.QuietActs.{calls_at}
use Rattle.abi_bindgen.specs.Account.{Done, Peer, Stops, account_in}
use Rattle.abi_bindgen.specs.Area.{HoldsRecord}
use Rattle.abi_bindgen.specs.Laws.{Adds, At, Facts, Grows}
use Rattle.func_gen.specs.declared.function_bindgen.Code.{Code}
use Rattle.func_gen.specs.declared.function_bindgen.FunctionBindgen.{FunctionBindgen}
use Rattle.func_gen.specs.declared.function_bindgen.OpenBlock.{OpenBlock}
use Rattle.func_gen.specs.Added.{Appends}
use Rattle.func_gen.specs.Opened.{open_blocks}
use Rattle.func_gen.specs.Meaning.{AllAsCalled, Denote, File, Found, FuncState, GivesAsCalled, Serves, call_of, func_meaning, run_code, run_head, seen, setting_for, static_request}
use Rattle.func_gen.specs.TypeSites.{AreDefined}
use Rattle.func_gen.specs.Scope.{is_used}
use Rattle.func_gen.specs.Written.{CanWrite}
use Rattle.func_gen.proofs.FieldOrder.{still_defined}
use Rattle.func_gen.proofs.Lasting.{denotes_on, lasts}
use Rattle.func_gen.proofs.RuntimeItems.{found_left, gives_as_called, has_more, suspended_from}

-- 1. Outcomes of the machine, as they are seen

pub seen_done : (at : Option ℕ) (o : machine.Outcome (Unit {0})) (s : FuncState) → seen at o ≡ Done s → (o ≡ machine.Done tt s.machine) × (s.area ≡ at)
seen_done at (machine.Done u t) s h =
    let st : FuncState = record { machine = t; area = at } in
    let e : st ≡ s = cc in
    (ap (λ (z : FuncState). machine.Done tt z.machine) e, sym (ap (λ (z : FuncState). z.area) e))
seen_done at (machine.Stopped stop.Done t) s h = absurd cc
seen_done at (machine.Stopped (stop.Refused r) t) s h = absurd cc
seen_done at (machine.Stopped (stop.Trap k) t) s h = absurd cc
seen_done at (machine.Stopped (stop.Stuck n) t) s h = absurd cc
seen_done at (machine.Stopped stop.BadChoice t) s h = absurd cc

pub seen_calls : (at : Option ℕ) (o : machine.Outcome (Unit {0})) → (account_in func_meaning.account (seen at o)).calls ≡ map call_of (calls_at o)
seen_calls at (machine.Done u t) = refl
seen_calls at (machine.Stopped stop.Done t) = refl
seen_calls at (machine.Stopped (stop.Refused r) t) = refl
seen_calls at (machine.Stopped (stop.Trap k) t) = refl
seen_calls at (machine.Stopped (stop.Stuck n) t) = refl
seen_calls at (machine.Stopped stop.BadChoice t) = refl

stops_on : (at : Option ℕ) (o : machine.Outcome (Unit {0})) (next : Act (Unit {0})) → Stops func_meaning.account (seen at o) (seen at (and_then o (λ u. next)))
stops_on at (machine.Done u t) next = tt
stops_on at (machine.Stopped stop.Done t) next = refl
stops_on at (machine.Stopped (stop.Refused r) t) next = refl
stops_on at (machine.Stopped (stop.Trap k) t) next = refl
stops_on at (machine.Stopped (stop.Stuck n) t) next = refl
stops_on at (machine.Stopped stop.BadChoice t) next = refl

calls_on : (o : machine.Outcome (Unit {0})) (next : Act (Unit {0})) → CallsNothing next → calls_at (and_then o (λ u. next)) ≡ calls_at o
calls_on (machine.Done u t) next q = q.quiet t
calls_on (machine.Stopped e t) next q = refl

-- 2. Runs of more statements

pub run_append : (w : Setting) (xs ys : List Stmt) (s : State) → run_stmts w (xs ++ ys) s ≡ and_then (run_stmts w xs s) (λ u. run_stmts w ys)
run_append w [] ys s = refl
run_append w (x ∷ xs) ys s = go (run_stmt w x s) (λ t. run_append w xs ys t)
  where
    go : (o : machine.Outcome (Unit {0})) → ((t : State) → run_stmts w (xs ++ ys) t ≡ and_then (run_stmts w xs t) (λ u. run_stmts w ys))
        → and_then o (λ u. run_stmts w (xs ++ ys)) ≡ and_then (and_then o (λ u. run_stmts w xs)) (λ u. run_stmts w ys)
    go (machine.Done u t) h = h t
    go (machine.Stopped e t) h = refl

behind : (w : Setting) (xs ys : List Stmt) (o : machine.Outcome (Unit {0})) → and_then o (λ u. run_stmts w (xs ++ ys)) ≡ and_then (and_then o (λ u. run_stmts w xs)) (λ u. run_stmts w ys)
behind w xs ys (machine.Done u t) = run_append w xs ys t
behind w xs ys (machine.Stopped e t) = refl

longer : (w : Setting) (bound : Bytes) (old new : Code) (added : List Stmt) (s : State) → new.call ≡ old.call → new.stmts ≡ old.stmts ++ added
    → run_code w bound new s ≡ and_then (run_code w bound old s) (λ u. run_stmts w added)
longer w bound old new added s same more =
    ap₂ (λ (call : Option CallBlock) stmts. and_then (run_head w bound call s) (λ u. run_stmts w stmts)) same more ∙ behind w old.stmts added (run_head w bound old.call s)

module _ (old new : FunctionBindgen) (added : List Stmt) (items : List RuntimeItem) (a : Appends old new added items) where
  more_code : (w : File) (p : Peer RustValue) (s : FuncState) → func_meaning.does w p new.code s ≡ seen s.area (and_then (run_code (setting_for w p) w.bound old.code s.machine) (λ u. run_stmts (setting_for w p) added))
  more_code w p s = ap (seen s.area) (longer (setting_for w p) w.bound old.code new.code added s.machine a.call a.stmts)

  -- after the earlier code is done, the new statements run
  pub ran : (w : File) (p : Peer RustValue) (facts : Facts func_meaning) (s0 s : FuncState) → At func_meaning w p old new facts s0 s → func_meaning.does w p new.code s0 ≡ seen s.area (run_stmts (setting_for w p) added s.machine)
  ran w p facts s0 s at =
      let done = seen_done s0.area (run_code (setting_for w p) w.bound old.code s0.machine) s at.done in
      more_code w p s0 ∙ ap (λ o. seen s0.area (and_then o (λ u. run_stmts (setting_for w p) added))) done.0
      ∙ ap (λ place. seen place (run_stmts (setting_for w p) added s.machine)) (sym done.1)

  serves_old : (w : File) → Serves w new → Serves w old
  serves_old w h = record {
    runtime = found_left w.items old.runtime items (subst (Found w.items) a.runtime h.runtime);
    sites = subst (AreDefined w.items) a.sites h.sites;
    room = subst (AllByRecursion (HoldsRecord 2 w.area)) a.asked h.room;
    sized = h.sized;
    static = λ e. h.static (a.import ∙ e);
    bound = λ e. h.bound (a.import ∙ e) ∙ a.home;
    called = subst (GivesAsCalled w.items w.bound) a.call h.called;
    suspended = subst (AllAsCalled w.items w.bound) a.opened h.suspended;
  }

  serves_more : (w : File) → Serves w old → (x : File) × Serves x new
  serves_more w h =
      let m = has_more w.items old.runtime items h.runtime in (
        record { items = m.all; item = w.item; bound = w.bound; area = w.area },
        record {
          runtime = subst (Found m.all) (sym a.runtime) m.found;
          sites = subst (AreDefined m.all) (sym a.sites) (still_defined w.items m.all m.types old.sites h.sites);
          room = subst (AllByRecursion (HoldsRecord 2 w.area)) (sym a.asked) h.room;
          sized = h.sized;
          static = λ e. h.static (sym a.import ∙ e) ∙ ap static_request (sym m.area);
          bound = λ e. h.bound (sym a.import ∙ e) ∙ sym a.home;
          called = subst (GivesAsCalled m.all w.bound) (sym a.call) (gives_as_called w.items m.all w.bound old.code.call (m.methods w.bound) h.called);
          suspended = subst (AllAsCalled m.all w.bound) (sym a.opened) (suspended_from w.items m.all w.bound (λ call. gives_as_called w.items m.all w.bound call (m.methods w.bound)) old.opened h.suspended);
        },
      )

  -- what was known of a state is known of it, where no name became free
  known : ((n : Bytes) → is_used new.scope.used n ≡ false → is_used old.scope.used n ≡ false) → (w : File) (facts : Facts func_meaning) (s : FuncState) → Denote w old facts s → Denote w new facts s
  known names w facts s h =
      denotes_on w old new facts facts s s.machine (record { import = a.import; asked = a.asked; name = a.area }) (record { heap = refl; taken = refl; place = refl; under = λ n v e. e }) h
      (lasts w.items old new facts s.machine s.machine a.params (λ n v e. e) (λ n free. h.hold.within n (names n free)) h.hold)

  pub func_grows : ((n : Bytes) → is_used new.scope.used n ≡ false → is_used old.scope.used n ≡ false) → Grows func_meaning old new
  func_grows names = record {
    opened = ap open_blocks a.opened;
    known = known names;
    serves = serves_old;
    more = serves_more;
    stops = λ w p s h. subst (Stops func_meaning.account (func_meaning.does w p old.code s)) (sym (more_code w p s)) (stops_on s.area (run_code (setting_for w p) w.bound old.code s.machine) (run_stmts (setting_for w p) added));
    imports = a.import;
    exports = ap not a.import;
    arguments = ap (λ ps. Some (length ps)) a.params;
    knows = λ types h. subst (λ sizes. IsFilledFor sizes types) (sym a.sizes) h;
    writes = λ types id h. subst (λ sites. CanWrite types sites id) (sym a.sites) h;
    target = λ f. ap₂ (λ import home. if import then target.Core home f.name.wit else target.Method home (rust_ident f.name)) a.import a.home;
    crosses = λ w f. refl;
  }

  pub func_adds : ((n : Bytes) → is_used new.scope.used n ≡ false → is_used old.scope.used n ≡ false) → ((w : Setting) → CallsNothing (run_stmts w added)) → Adds func_meaning old new
  func_adds names quiet = record {
    grows = func_grows names;
    blocks = ap reverse a.finished;
    quiet = λ w p s h.
        let before = run_code (setting_for w p) w.bound old.code s.machine in
        ap (λ o. (account_in func_meaning.account o).calls) (more_code w p s)
        ∙ seen_calls s.area (and_then before (λ u. run_stmts (setting_for w p) added)) ∙ ap (map call_of) (calls_on before (run_stmts (setting_for w p) added) (quiet (setting_for w p)))
        ∙ sym (seen_calls s.area before);
    uncalled = λ h. record { here = a.call ∙ h.here; around = subst (AllByRecursion (λ (o : OpenBlock). o.code.call ≡ None)) (sym a.opened) h.around };
    asked = a.asked;
  }
