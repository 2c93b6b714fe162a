-- A block is closed: it makes the calls of its code, and gives what its operands denote.
use Rattle.std.proofs.Common.{◌≡◌, ℕ, zero, suc, ◌+◌, Bool, true, false, not, cond, List, [], ◌∷◌, drop, length, map, reverse, Option, None, Some, refl, sym, ap, ap₂, ◌∙◌, subst, arith, append-nil}
use Rattle.std.specs.Prelude.{option_to_list}
use Rattle.std.specs.List.{AllByRecursion, flat_map}
use Rattle.std.proofs.lemmas.List.{reverse-append}
use Rattle.rust_tree.specs.Ident.{rust_ident}
use Rattle.rust_tree.specs.declared.export.CallBlock.{CallBlock}
use Rattle.wit_layout.specs.Filled.{IsFilledFor}
use Rattle.wit_model.specs.Bytes.{Bytes}
use Rattle.wrapper_data.specs.declared.run.Stop.TheVariants as stop
use Rattle.wrapper_data.specs.declared.run.Target.TheVariants as target
use Rattle.wrapper_data.specs.declared.value.RustValue.{RustValue}
use Rattle.wrapper_meaning.specs.Items.{SameItems, total}
use Rattle.wrapper_values.specs.declared.state.Local.{Local}
use Rattle.wrapper_values.specs.declared.state.State.{State}
use Rattle.wrapper_values.specs.declared.state.Val.{Val}
use Rattle.wrapper_values.specs.Act as machine
use Rattle.wrapper_values.specs.Act.{Act, and_then}
use Rattle.wrapper_values.specs.Owning.{owned_in}
use Rattle.wrapper_values.specs.Setting.{Setting}
use Rattle.wrapper_run.specs.Run.{run_stmts}
use Rattle.wrapper_run.specs.Inward.{CallsNothing}
use Rattle.wrapper_run.proofs.QuietActs.{calls_at}
use Rattle.abi_bindgen.specs.Account.{Account, Done, Peer, account_in}
use Rattle.abi_bindgen.specs.Area.{HoldsRecord}
use Rattle.abi_bindgen.specs.Blocks.{Finishes, Gives, Lasts, StopsAlike, owned_datum}
use Rattle.abi_bindgen.specs.Laws.{Data, Facts, ofs}
use Rattle.abi_bindgen.specs.Meaning.{Bound, Datum}
use Rattle.abi_bindgen.proofs.AllLemmas.{all_both, all_left, all_right}
use Rattle.func_gen.specs.declared.function_bindgen.Code.{Code}
use Rattle.func_gen.specs.declared.function_bindgen.FinishedBlock.{FinishedBlock}
use Rattle.func_gen.specs.declared.function_bindgen.FunctionBindgen.{FunctionBindgen}
use Rattle.func_gen.specs.declared.function_bindgen.OpenBlock.{OpenBlock}
use Rattle.func_gen.specs.declared.operand.ExprOperand.{ExprOperand}
use Rattle.func_gen.specs.declared.scope.Scope.{Scope}
use Rattle.func_gen.specs.Entered.{entered, is_nothing, reached}
use Rattle.func_gen.specs.Facts.{AreOwned, Hold}
use Rattle.func_gen.specs.Finished.{data_of, evaluated, left_owners, outside, results_act}
use Rattle.func_gen.specs.Formed.{block_of}
use Rattle.func_gen.specs.Meaning.{AllAsCalled, Denote, File, Found, FuncState, GivesAsCalled, Serves, call_of, done_block, ended_block, func_meaning, owns_of, run_code, run_finished, run_head, seen, setting_for}
use Rattle.func_gen.specs.Opened.{open_blocks, slot_of}
use Rattle.func_gen.specs.Resumes.{Resumes}
use Rattle.func_gen.specs.Scope.{is_used}
use Rattle.func_gen.specs.TypeSites.{AreDefined}
use Rattle.func_gen.specs.Written.{CanWrite}
use Rattle.func_gen.proofs.FinishedResults.{quiet_results, results_given}
use Rattle.func_gen.proofs.Lasting.{area_lasts, denotes_on, lasts}
use Rattle.func_gen.proofs.MethodRows.{both_empty, nothing_there}
use Rattle.func_gen.proofs.NameRows.{opened_more}
use Rattle.func_gen.proofs.Rows.{unmoved}
use Rattle.func_gen.proofs.Steps.{seen_calls, seen_done}

-- 1. How a block ends

stops_with : (b : FinishedBlock) (s : FuncState) (o : machine.Outcome (Unit {0})) (next : Act (List Val)) → StopsAlike func_meaning (seen None o) (ended_block b s (and_then o (λ u. next)))
stops_with b s (machine.Done u t) next = tt
stops_with b s (machine.Stopped stop.Done t) next = refl
stops_with b s (machine.Stopped (stop.Refused r) t) next = refl
stops_with b s (machine.Stopped (stop.Trap k) t) next = refl
stops_with b s (machine.Stopped (stop.Stuck n) t) next = tt
stops_with b s (machine.Stopped stop.BadChoice t) next = refl

ended_calls : (b : FinishedBlock) (s : FuncState) (o : machine.Outcome (List Val)) → (account_in (λ e. func_meaning.account e.state) (ended_block b s o)).calls ≡ map call_of (calls_at o)
ended_calls b s (machine.Done vs u) = go (is_nothing (left_owners (length (reached b.names s.machine.locals)) u)) (data_of b.results vs)
  where
    go : (c : Bool) (ds : Option (List (Datum RustValue))) → (account_in (λ e. func_meaning.account e.state) (done_block c ds s u)).calls ≡ map call_of u.calls
    go true (Some ds) = refl
    go true None = refl
    go false ds = refl
ended_calls b s (machine.Stopped stop.Done t) = refl
ended_calls b s (machine.Stopped (stop.Refused r) t) = refl
ended_calls b s (machine.Stopped (stop.Trap k) t) = refl
ended_calls b s (machine.Stopped (stop.Stuck n) t) = refl
ended_calls b s (machine.Stopped stop.BadChoice t) = refl

calls_then : (o : machine.Outcome (Unit {0})) (next : Act (List Val)) → CallsNothing next → calls_at (and_then o (λ u. next)) ≡ calls_at o
calls_then (machine.Done u t) next q = q.quiet t
calls_then (machine.Stopped e t) next q = refl

left_none : (found : ℕ) (locals : List Local) → flat_map (λ (l : Local). owned_in l.value) locals ≡ [] → flat_map (λ (l : Local). owned_in l.value) (drop found locals) ≡ []
left_none zero locals h = h
left_none (suc n) [] h = h
left_none (suc n) (l ∷ locals) h = left_none n locals (both_empty (owned_in l.value) (flat_map (λ (l : Local). owned_in l.value) locals) h)

-- where the results own all that there was, no local owns anything
nothing_left : (found : ℕ) (t u : State) (owned : List ℕ) → ((f : ℕ → ℕ) → total f (owns_of t) + total f owned ≡ total f (owns_of u)) → SameItems (owns_of u) owned → left_owners found t ≡ []
nothing_left found t u owned owns same =
    let none : owns_of t ≡ [] = nothing_there (owns_of t) (omega (arith, owns (λ x. 1), same (λ x. 1))) in
    left_none found t.locals (both_empty (option_to_list t.place) (flat_map (λ (l : Local). owned_in l.value) t.locals) none)

-- 2. What stays

module _ (os : List ExprOperand) (old new : FunctionBindgen) (a : Resumes os old new) where
  abbrev open_now : OpenBlock
  open_now = a.closing.block

  abbrev made : FinishedBlock
  made = block_of open_now old.code.stmts os

  abbrev as_called : File → OpenBlock → Type 0
  as_called w o = GivesAsCalled w.items w.bound o.code.call

  -- the code that is resumed was among those that were suspended
  serves : (w : File) → Serves w new → Serves w old
  serves w h = record {
    runtime = subst (Found w.items) a.closing.runtime h.runtime;
    sites = subst (AreDefined w.items) a.still.sites h.sites;
    room = subst (AllByRecursion (HoldsRecord 2 w.area)) a.asked h.room;
    sized = h.sized;
    static = λ e. h.static (a.still.import ∙ e);
    bound = λ e. h.bound (a.still.import ∙ e) ∙ a.still.home;
    called = subst (GivesAsCalled w.items w.bound) (sym a.closing.uncalled) tt;
    suspended = subst (AllAsCalled w.items w.bound) (sym a.closing.opened)
        (all_both (as_called w) new.opened (open_now ∷ []) h.suspended (subst (λ (c : Code). GivesAsCalled w.items w.bound c.call) a.closing.code h.called, tt));
  }

  more : (w : File) → Serves w old → Serves w new
  more w h =
      let suspended = subst (AllAsCalled w.items w.bound) a.closing.opened h.suspended in
      record {
        runtime = subst (Found w.items) (sym a.closing.runtime) h.runtime;
        sites = subst (AreDefined w.items) (sym a.still.sites) h.sites;
        room = subst (AllByRecursion (HoldsRecord 2 w.area)) (sym a.asked) h.room;
        sized = h.sized;
        static = λ e. h.static (sym a.still.import ∙ e);
        bound = λ e. h.bound (sym a.still.import ∙ e) ∙ sym a.still.home;
        called = subst (λ (c : Code). GivesAsCalled w.items w.bound c.call) (sym a.closing.code) (all_right (as_called w) new.opened (open_now ∷ []) suspended).0;
        suspended = all_left (as_called w) new.opened (open_now ∷ []) suspended;
      }

  known : (w : File) (facts : Facts func_meaning) (s : FuncState) → Denote w old facts s → Denote w new facts s
  known w facts s d =
      denotes_on w old new facts facts s s.machine (record { import = a.still.import; asked = a.asked; name = a.still.area }) (unmoved s.machine) d
      (lasts w.items old new facts s.machine s.machine a.still.params (λ n v e. e) (λ n free. d.hold.within n (ap (λ (x : Scope). is_used x.used n) (sym a.closing.scope) ∙ free)) d.hold)

  stays : Lasts func_meaning old new
  stays = record {
    serves = serves;
    more = λ w h. (w, more w h);
    imports = a.still.import;
    exports = ap not a.still.import;
    arguments = ap (λ ps. Some (length ps)) a.still.params;
    knows = λ types h. subst (λ sizes. IsFilledFor sizes types) (sym a.still.sizes) h;
    writes = λ types id h. subst (λ sites. CanWrite types sites id) (sym a.still.sites) h;
    target = λ f. ap₂ (λ import home. cond import (target.Core home f.name.wit) (target.Method home (rust_ident f.name))) a.still.import a.still.home;
    crosses = λ w f. refl;
    known = known;
    asked = a.asked;
    returned = a.returned;
    uncalled = λ h.
        let codes = subst (AllByRecursion (λ (o : OpenBlock). o.code.call ≡ None)) a.closing.opened h.around in
        record {
          here = ap (λ (c : Code). c.call) a.closing.code ∙ (all_right (λ (o : OpenBlock). o.code.call ≡ None) new.opened (open_now ∷ []) codes).0;
          around = all_left (λ (o : OpenBlock). o.code.call ≡ None) new.opened (open_now ∷ []) codes;
        };
  }

  -- 3. Its run

  abbrev begun : Bound RustValue → FuncState → State
  begun with s = entered (slot_of open_now) with s.machine

  -- its code has called no method, so it is its statements
  code_runs : (w : Setting) (bound : Bytes) (s : State) → run_code w bound old.code s ≡ run_stmts w old.code.stmts s
  code_runs w bound s = ap (λ (c : Option CallBlock). and_then (run_head w bound c s) (λ u. run_stmts w old.code.stmts)) a.closing.uncalled

  stops : (w : File) (p : Peer RustValue) (with : Bound RustValue) (s : FuncState) → StopsAlike func_meaning (seen None (run_code (setting_for w p) w.bound old.code (begun with s))) (run_finished w p made with s)
  stops w p with s =
      subst (λ o. StopsAlike func_meaning (seen None o) (run_finished w p made with s)) (sym (code_runs (setting_for w p) w.bound (begun with s)))
      (stops_with made s (run_stmts (setting_for w p) old.code.stmts (begun with s)) (evaluated (setting_for w p) os))

  calls : (w : File) (p : Peer RustValue) (with : Bound RustValue) (s : FuncState)
      → (account_in (λ e. func_meaning.account e.state) (run_finished w p made with s)).calls ≡ (account_in func_meaning.account (seen None (run_code (setting_for w p) w.bound old.code (begun with s)))).calls
  calls w p with s =
      let set = setting_for w p in
      let run = run_stmts set old.code.stmts (begun with s) in
      ended_calls made s (results_act set made (begun with s)) ∙ ap (map call_of) (calls_then run (evaluated set os) (quiet_results set os a.operands)) ∙ sym (seen_calls None run)
      ∙ ap (λ o. (account_in func_meaning.account (seen None o)).calls) (sym (code_runs set w.bound (begun with s)))

  -- outside of it nothing is changed
  known_outside : (w : File) (t : State) (s : FuncState) (b : FunctionBindgen) (facts : Facts func_meaning) → AreOwned t.heap.blocks t.taken → Denote w b facts s → Denote w b facts (record { machine = outside s.machine t; area = s.area })
  known_outside w t s b facts owners d = record {
    hold = record { right = d.hold.right; apart = d.hold.apart; within = d.hold.within };
    owners = owners;
    area = area_lasts b.import w.area s.area b.asked b.area s.machine (outside s.machine t) (λ n v e. e) refl d.area;
  }

  ends : (w : File) (p : Peer RustValue) (with : Bound RustValue) (s u : FuncState) (ds : Data func_meaning) → seen None (run_code (setting_for w p) w.bound old.code (begun with s)) ≡ Done u
      → length ds ≡ length os → Denote w old (ofs func_meaning os ds) u → SameItems (owns_of u.machine) (flat_map (owned_datum func_meaning) ds) → Gives func_meaning w p made with s u ds
  ends w p with s u ds done len d same =
      let set = setting_for w p in
      let before = seen_done None (run_code set w.bound old.code (begun with s)) u done in
      let run : run_stmts set old.code.stmts (begun with s) ≡ machine.Done tt u.machine = sym (code_runs set w.bound (begun with s)) ∙ before.0 in
      let r = results_given set old os ds [] u.machine len (subst (λ fs. Hold w.items old fs u.machine) (sym (append-nil (ofs func_meaning os ds))) d.hold) in
      let left = nothing_left (length (reached open_now.names s.machine.locals)) r.then u.machine (flat_map (owned_datum func_meaning) ds) r.owns same in
      let gives : results_act set made (begun with s) ≡ machine.Done r.given r.then = ap (λ o. and_then o (λ v. evaluated set os)) run ∙ r.runs in
      record {
        state = record { machine = outside s.machine r.then; area = s.area };
        runs = ap (ended_block made s) gives ∙ ap₂ (λ owners given. done_block (is_nothing owners) given s r.then) left r.are;
        account = r.account;
        owns = λ g. refl;
        denotes = λ b facts held. known_outside w r.then s b facts (subst (λ (acc : Account RustValue). AreOwned acc.heap.blocks acc.taken) (sym r.account) d.owners) held;
      }

  -- 4. It is closed

  pub finishes : Finishes func_meaning os old new
  finishes = record {
    lasts = stays;
    slot = slot_of open_now;
    block = made;
    resumes = ap open_blocks a.closing.opened ∙ opened_more new.opened open_now ∙ ap (λ (c : Code). (slot_of open_now, c) ∷ open_blocks new.opened) (sym a.closing.code);
    blocks = ap reverse a.closing.finished ∙ reverse-append old.finished (made ∷ []);
    results = refl;
    runs = record {
      stops = λ w p with s h. stops w p with s;
      calls = λ w p with s h. calls w p with s;
      ends = λ w p with s u ds h done len d same. ends w p with s u ds done len d same;
    };
    form = λ types. record { still = a.still; given = tt; code = a.closing };
  }
