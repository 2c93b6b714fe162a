-- An arm of a match that was made of a finished block does what the block does, and what is made of its results is bound.
use Rattle.std.proofs.Common.{◌≡◌, ℕ, Bool, true, false, List, [], ◌∷◌, ◌++◌, if◌then◌else◌, length, map, Option, None, Some, refl, sym, ap, ◌∙◌}
use Rattle.std.specs.Prelude.{◌≢◌}
use Rattle.rust_tree.specs.declared.stmt.MatchNames.{MatchNames}
use Rattle.wrapper_data.specs.declared.run.Stop.{Stop}
use Rattle.wrapper_data.specs.declared.run.Stop.TheVariants as stop_of
use Rattle.wrapper_data.specs.declared.value.RustValue.{RustValue}
use Rattle.wrapper_values.specs.declared.state.Local.{Local}
use Rattle.wrapper_values.specs.declared.state.State.{State}
use Rattle.wrapper_values.specs.declared.state.Val.{Val}
use Rattle.wrapper_values.specs.Act as machine
use Rattle.wrapper_values.specs.Act.{◌>>◌, and_then}
use Rattle.wrapper_values.specs.Matches.{bind_results}
use Rattle.wrapper_values.specs.Setting.{Setting}
use Rattle.wrapper_run.specs.Blocks.{in_scope}
use Rattle.wrapper_run.specs.OuterLocals.{IsInReach, OwnNothing, RunsBehind}
use Rattle.wrapper_run.specs.Inward.{CallsNothing}
use Rattle.wrapper_run.proofs.InwardCalls.{results_quiet}
use Rattle.wrapper_run.proofs.QuietActs.{calls_at}
use Rattle.abi_bindgen.specs.Account.{Done, Follows, Outcome, Peer, Stopped, Stuck, account_in, then_do}
use Rattle.abi_bindgen.specs.Arms.{Armed, arm}
use Rattle.abi_bindgen.specs.Laws.{Data}
use Rattle.abi_bindgen.specs.Meaning.{Ended, with_nothing}
use Rattle.abi_bindgen.specs.Turns.{Went}
use Rattle.func_gen.specs.declared.function_bindgen.FinishedBlock.{FinishedBlock}
use Rattle.func_gen.specs.Entered.{entered, is_nothing, reached}
use Rattle.func_gen.specs.Finished.{data_of, left_owners, outside, results_act, slot_before}
use Rattle.func_gen.specs.Meaning.{File, FuncState, account_of, call_of, done_block, ended_block, func_meaning, run_finished, seen, setting_for}
use Rattle.func_gen.proofs.ArmEnds.{arm_ends, arm_quiet, arm_stops}
use Rattle.func_gen.proofs.ArmReach.{Unused, reached_beside}
use Rattle.func_gen.proofs.Steps.{seen_calls}

-- 1. Calls behind an act

pub calls_behind : {A B : Type 0} (o : machine.Outcome A) (f : A → machine.Act B) (s : State) → calls_at o ≡ s.calls → ((a : A) → CallsNothing (f a)) → calls_at (and_then o f) ≡ s.calls
calls_behind (machine.Done a t) f s h quiet = (quiet a).quiet t ∙ h
calls_behind (machine.Stopped e t) f s h quiet = h

-- 2. One arm

module _ (w : File) (p : Peer RustValue) (b : FinishedBlock) (names : MatchNames) (s : FuncState) (extra : List Local) (unused : Unused b.names extra) (plain : OwnNothing extra)
    (act : machine.Act (List Val)) (behind : RunsBehind act) (quiet : CallsNothing act) (wrap : List Val → machine.Act (List Val)) (wrap_quiet : (vs : List Val) → CallsNothing (wrap vs))
    (wraps : (t : State) → act t ≡ and_then (results_act (setting_for w p) b t) wrap) (enter : machine.Act (Unit {0})) (enters : enter s.machine ≡ machine.Done tt (record s.machine { locals = s.machine.locals ++ (extra ++ []) }))
    (fits : Data func_meaning → Bool) (i : ℕ) (P : Went func_meaning (Armed func_meaning) → FuncState → Type 0) where
  abbrev set : Setting
  set = setting_for w p

  abbrev found : List Local
  found = reached b.names s.machine.locals

  abbrev begun : State
  begun = entered (slot_before b) with_nothing s.machine

  abbrev in_arm : machine.Outcome (List Val)
  in_arm = in_scope set (enter >> act) s.machine

  abbrev bound : machine.Outcome (Unit {0})
  bound = and_then in_arm (bind_results set names)

  -- the state behind the arm
  abbrev pub behind_arm : State → FuncState
  behind_arm u = record { machine = outside s.machine u; area = s.area }

  abbrev pub went : Data func_meaning → State → Went func_meaning (Armed func_meaning)
  went ds u = record { result = record { number = i; results = ds }; state = behind_arm u; account = account_of u }

  -- what is made of data that fit is bound
  abbrev pub Binds : Type 0
  Binds = (vs : List Val) (ds : Data func_meaning) (u : State) → data_of b.results vs ≡ Some ds → fits ds ≡ true
      → (made : List Val) × (t : State) × (wrap vs u ≡ machine.Done made u) × (bind_results set names made (outside s.machine u) ≡ machine.Done tt t) × P (went ds u) (record { machine = t; area = s.area })

  abbrev law : Outcome RustValue (Ended RustValue FuncState) → Outcome RustValue (Went func_meaning (Armed func_meaning))
  law o = then_do o (λ e. if fits e.results then Done (record { result = record { number = i; results = e.results }; state = e.state; account = account_of e.state.machine }) else Stuck (account_of e.state.machine))

  abbrev AsLaw : Outcome RustValue (Ended RustValue FuncState) → Type 0
  AsLaw o = Follows func_meaning.account (law o) (seen s.area bound) P

  reach : IsInReach found (s.machine.locals ++ extra)
  reach = reached_beside b.names s.machine.locals extra unused

  as_given : (o : machine.Outcome (List Val)) → results_act set b begun ≡ o → act begun ≡ and_then o wrap
  as_given o e = wraps begun ∙ ap (λ q. and_then q wrap) e

  -- no call is made, neither by the block nor by the arm
  block_calls : (vs : List Val) (u : State) → results_act set b begun ≡ machine.Done vs u → u.calls ≡ s.machine.calls
  block_calls vs u e = sym ((wrap_quiet vs).quiet u) ∙ sym (ap calls_at (as_given (machine.Done vs u) e)) ∙ quiet.quiet begun

  arm_calls : calls_at bound ≡ s.machine.calls
  arm_calls = calls_behind in_arm (bind_results set names) s.machine (arm_quiet set found extra [] s.machine act reach plain behind quiet enter enters) (results_quiet set names)

  no_meaning : (u : State) → u.calls ≡ s.machine.calls → (account_in func_meaning.account (seen s.area bound)).calls ≡ (account_of u).calls
  no_meaning u e = seen_calls s.area bound ∙ ap (map call_of) (arm_calls ∙ sym e)

  owners_none : (os : List ℕ) → is_nothing os ≡ true → os ≡ []
  owners_none [] e = refl
  owners_none (a ∷ os) e = absurd cc

  done : Binds → (vs : List Val) (u : State) → results_act set b begun ≡ machine.Done vs u → AsLaw (ended_block b s (machine.Done vs u))
  done binds vs u e = by (is_nothing (left_owners (length found) u)) refl (data_of b.results vs) refl
    where
      fitting : (ds : Data func_meaning) → data_of b.results vs ≡ Some ds → left_owners (length found) u ≡ [] → (c : Bool) → fits ds ≡ c
          → Follows func_meaning.account (if c then Done (went ds u) else Stuck (account_of u)) (seen s.area bound) P
      fitting ds is own false f = no_meaning u (block_calls vs u e)
      fitting ds is own true f =
          let (made, t, wrapped, binds_to, holds) = binds vs ds u is f in
          let ran : act begun ≡ machine.Done made u = as_given (machine.Done vs u) e ∙ wrapped in
          let ends = arm_ends set found extra [] s.machine act reach plain behind enter enters made u ran own in
          (record { machine = t; area = s.area }, ap (seen s.area) (ap (λ o. and_then o (bind_results set names)) ends ∙ binds_to), holds)

      by : (c : Bool) → is_nothing (left_owners (length found) u) ≡ c → (o : Option (Data func_meaning)) → data_of b.results vs ≡ o → AsLaw (done_block c o s u)
      by true own (Some ds) is = fitting ds is (owners_none (left_owners (length found) u) own) (fits ds) refl
      by true own None is = no_meaning u (block_calls vs u e)
      by false own o is = no_meaning u (block_calls vs u e)

  -- where the block is stopped, so is the arm
  stopped : (e : Stop) (u : State) → ((n : ℕ) → e ≢ stop_of.Stuck n) → results_act set b begun ≡ machine.Stopped e u → (t : State) × (bound ≡ machine.Stopped e t) × (account_of t ≡ account_of u)
  stopped e u ns is =
      let (locals, same) = arm_stops set found extra [] s.machine act reach plain behind enter enters e u ns (as_given (machine.Stopped e u) is) in
      (record u { locals = locals; place = s.machine.place }, ap (λ o. and_then o (bind_results set names)) same, refl)

  by_stop : (e : Stop) (u : State) → results_act set b begun ≡ machine.Stopped e u → AsLaw (ended_block b s (machine.Stopped e u))
  by_stop (stop_of.Stuck n) u is = no_meaning u (sym (ap calls_at (as_given (machine.Stopped (stop_of.Stuck n) u) is)) ∙ quiet.quiet begun)
  by_stop stop_of.Done u is = let (t, same, account) = stopped stop_of.Done u (λ n z. absurd cc) is in ap (seen s.area) same ∙ ap (λ a. Stopped stop_of.Done a) account
  by_stop (stop_of.Refused r) u is = let (t, same, account) = stopped (stop_of.Refused r) u (λ n z. absurd cc) is in ap (seen s.area) same ∙ ap (λ a. Stopped (stop_of.Refused r) a) account
  by_stop (stop_of.Trap k) u is = let (t, same, account) = stopped (stop_of.Trap k) u (λ n z. absurd cc) is in ap (seen s.area) same ∙ ap (λ a. Stopped (stop_of.Trap k) a) account
  by_stop stop_of.BadChoice u is = let (t, same, account) = stopped stop_of.BadChoice u (λ n z. absurd cc) is in ap (seen s.area) same ∙ ap (λ a. Stopped stop_of.BadChoice a) account

  -- so the arm does what the laws ask of it
  pub arm_follows : Binds → Follows func_meaning.account (arm func_meaning fits (λ body. run_finished w p body with_nothing) i s (Some b)) (seen s.area bound) P
  arm_follows binds = go (results_act set b begun) refl
    where
      go : (o : machine.Outcome (List Val)) → results_act set b begun ≡ o → AsLaw (ended_block b s o)
      go (machine.Done vs u) e = done binds vs u e
      go (machine.Stopped x u) e = by_stop x u e
