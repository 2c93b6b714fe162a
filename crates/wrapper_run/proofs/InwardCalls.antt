-- Inward code makes no call.
use Rattle.std.proofs.Common.{◌≡◌, Bool, true, false, List, [], ◌∷◌, map, Option, None, Some}
use Rattle.wit_model.specs.Bytes.{Bytes}
use Rattle.rust_tree.specs.declared.expr.Expr.{Expr}
use Rattle.rust_tree.specs.declared.pattern.ArmPattern.{ArmPattern}
use Rattle.rust_tree.specs.declared.stmt.Block.{Block as Code}
use Rattle.rust_tree.specs.declared.stmt.MatchNames.{MatchNames}
use Rattle.rust_tree.specs.declared.stmt.Stmt.{Stmt}
use Rattle.wrapper_values.specs.declared.state.Val.{Val}
use Rattle.wrapper_values.specs.Act.{Act, ◌>>=◌, ◌>>◌}
use Rattle.wrapper_values.specs.CoreWords.{empty_slot}
use Rattle.wrapper_values.specs.Locals.{bind, local_named, value_of, write_slot}
use Rattle.wrapper_values.specs.Matches.{bind_results, enter_arm, takes}
use Rattle.wrapper_values.specs.Setting.{Setting, stuck}
use Rattle.wrapper_run.specs.Arms.{ArmAct, run_arm, run_arm_or, run_arms}
use Rattle.wrapper_run.specs.Inward.{CallsNothing, are_inward, is_inward, is_inward_expr, stmt_test}
use Rattle.wrapper_run.specs.Results.{run_inner, run_results}
use Rattle.wrapper_run.specs.Run.{eval, run_block, run_stmts}
use Rattle.wrapper_run.proofs.Acts.{deallocates, lifts, loads_number, loads_word, stores_number, stores_word, takes_bytes}
use Rattle.wrapper_run.proofs.InwardWalk.{Within, binds_results, enters, walks_block, walks_expr, walks_given, walks_stmts}
use Rattle.wrapper_run.proofs.QuietActs.{quiet_acts, quiet_ask, quiet_bind, quiet_declare, quiet_free, quiet_lend, quiet_pure, quiet_release, quiet_scope, quiet_stop, quiet_then, quiet_use, quiet_write}

-- a slot is declared and written, and then the act
quiet_writing : (w : Setting) (name : Bytes) (e : Expr) (act : Act (Unit {0})) → CallsNothing (eval w e) → CallsNothing act → CallsNothing (bind name empty_slot >> ((eval w e >>= write_slot (stuck w) name) >> act))
quiet_writing w name e act h k =
    quiet_then (bind name empty_slot) (λ _. (eval w e >>= write_slot (stuck w) name) >> act) (quiet_bind name empty_slot)
    (λ _. quiet_then (eval w e >>= write_slot (stuck w) name) (λ _. act) (quiet_then (eval w e) (write_slot (stuck w) name) h (quiet_write (stuck w) name)) (λ _. k))

pub quiet_within : (w : Setting) → Within w (λ A act. CallsNothing act)
quiet_within w = record {
  gives = λ A a. quiet_pure a;
  stops = λ A e. quiet_stop e;
  follows = λ A B act f. quiet_then act f;
  uses = quiet_use (stuck w);
  lends = quiet_lend (stuck w);
  asks = quiet_ask (stuck w);
  binds = quiet_bind;
  declares = quiet_declare;
  frees = quiet_free w;
  releases = quiet_release w;
  deallocates = deallocates w (λ A act. CallsNothing act) (quiet_acts w);
  takes = λ name v. record { quiet = λ s. (takes_bytes w (λ A act. CallsNothing act) (quiet_acts w) (value_of (local_named name s.locals)) v).quiet s };
  lifts = lifts w (λ A act. CallsNothing act) (quiet_acts w);
  loads = loads_word w (λ A act. CallsNothing act) (quiet_acts w);
  loads_small = loads_number w (λ A act. CallsNothing act) (quiet_acts w);
  stores = stores_word w (λ A act. CallsNothing act) (quiet_acts w);
  stores_small = stores_number w (λ A act. CallsNothing act) (quiet_acts w);
  scopes = λ A act. quiet_scope w act;
  writes = λ name e act h k. quiet_writing w name e act h k;
}

pub expr_quiet : (w : Setting) (e : Expr) → is_inward_expr e ≡ true → CallsNothing (eval w e)
expr_quiet w = walks_expr w (λ A act. CallsNothing act) (quiet_within w)

pub stmts_quiet : (w : Setting) (stmts : List Stmt) → are_inward None (map stmt_test stmts) ≡ true → CallsNothing (run_stmts w stmts)
stmts_quiet w = walks_stmts w (λ A act. CallsNothing act) (quiet_within w)

pub code_quiet : (w : Setting) (b : Code) → is_inward b ≡ true → CallsNothing (run_block w b)
code_quiet w = walks_block w (λ A act. CallsNothing act) (quiet_within w)

-- and so where its results are given, in a scope or not

pub body_quiet : (w : Setting) (b : Code) → is_inward b ≡ true → CallsNothing (run_results w b)
body_quiet w = walks_given w (λ A act. CallsNothing act) (quiet_within w)

pub inner_quiet : (w : Setting) (b : Code) → is_inward b ≡ true → CallsNothing (run_inner w b)
inner_quiet w b k = quiet_scope w (run_results w b) (body_quiet w b k)

-- arms that make no call, whichever is taken, and what is bound of their results

enter_quiet : (w : Setting) (p : ArmPattern) (v : Val) → CallsNothing (enter_arm w p v)
enter_quiet w = enters w (λ A act. CallsNothing act) (quiet_within w)

abbrev pub AreQuiet : List ArmAct → Type 0
AreQuiet [] = Unit {0}
AreQuiet (a ∷ acts) = CallsNothing a.1 × AreQuiet acts

pub arms_quiet : (w : Setting) (v : Val) (acts : List ArmAct) → AreQuiet acts → CallsNothing (run_arms w v acts)
arms_quiet w v [] h = quiet_stop (stuck w)
arms_quiet w v (a ∷ acts) h = by (takes w.items a.0 v) (arms_quiet w v acts h.1)
  where
    by : (o : Option Bool) → CallsNothing (run_arms w v acts) → CallsNothing (run_arm_or w o (run_arm w v a) (run_arms w v acts))
    by None others = quiet_stop (stuck w)
    by (Some true) others = quiet_scope w (enter_arm w a.0 v >> a.1) (quiet_then (enter_arm w a.0 v) (λ _. a.1) (enter_quiet w a.0 v) (λ _. h.0))
    by (Some false) others = others

pub results_quiet : (w : Setting) (names : MatchNames) (vs : List Val) → CallsNothing (bind_results w names vs)
results_quiet w = binds_results w (λ A act. CallsNothing act) (quiet_within w)
