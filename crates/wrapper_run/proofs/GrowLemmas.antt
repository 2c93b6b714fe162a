-- Along a run calls and requests only grow: whatever the code is, those that a state has are the first of those that it comes to.
use Rattle.std.proofs.Common.{◌≡◌, ℕ, suc, ◌||◌, Bool, true, false, cond, List, [], ◌∷◌, ◌++◌, map, drop, take, length, Option, None, Some, refl, sym, ap, ◌∙◌, append-nil, append_assoc}
use Rattle.std.specs.Prelude.{nat_eq, option_and_then}
use Rattle.std.specs.Option.{option_map}
use Rattle.wit_model.specs.Bytes.{Bytes}
use Rattle.wit_model.specs.declared.wasm_type.WasmType.{WasmType}
use Rattle.rust_tree.specs.declared.area.StaticArea.{StaticArea}
use Rattle.rust_tree.specs.declared.export.CallBlock.{CallBlock}
use Rattle.rust_tree.specs.declared.export.CoreParam.{CoreParam}
use Rattle.rust_tree.specs.declared.export.ExportFn.{ExportFn}
use Rattle.rust_tree.specs.declared.expr.Expr.{Expr}
use Rattle.rust_tree.specs.declared.item.FnItem.{FnItem}
use Rattle.rust_tree.specs.declared.stmt.Block.{Block as Code}
use Rattle.rust_tree.specs.declared.stmt.ImportDecl.{ImportDecl}
use Rattle.rust_tree.specs.declared.stmt.Stmt.{Stmt}
use Rattle.rust_tree.specs.declared.type_expr.TypeExpr.{TypeExpr}
use Rattle.wrapper_data.specs.Answered.{answered}
use Rattle.wrapper_data.specs.declared.answer.Answer.{Answer}
use Rattle.wrapper_data.specs.declared.answer.Answer.TheVariants as answer
use Rattle.wrapper_data.specs.declared.block.Block.{Block}
use Rattle.wrapper_data.specs.declared.choice.Choice.{Choice}
use Rattle.wrapper_data.specs.declared.choice.Choice.TheVariants as choice
use Rattle.wrapper_data.specs.declared.choice.Request.{Request}
use Rattle.wrapper_data.specs.declared.run.CallPoint.{CallPoint}
use Rattle.wrapper_data.specs.declared.run.Stop.{Stop}
use Rattle.wrapper_data.specs.declared.run.Stop.TheVariants as stop_of
use Rattle.wrapper_data.specs.declared.word.Word.{Word}
use Rattle.wrapper_data.specs.declared.word.Word.TheVariants as word
use Rattle.wrapper_values.specs.declared.owning.View.{View}
use Rattle.wrapper_values.specs.declared.state.Local.{Local}
use Rattle.wrapper_values.specs.declared.state.State.{State}
use Rattle.wrapper_values.specs.declared.state.Val.{Val}
use Rattle.wrapper_values.specs.declared.state.Val.TheVariants as val
use Rattle.wrapper_values.specs.Act.{Act, Outcome, Done, Stopped, ◌>>=◌, ◌>>◌, all, and_then, or_stop, pure, stop}
use Rattle.wrapper_run.specs.Blocks.{drop_local, drop_locals, drop_value, free, free_all, free_found, in_scope, keep_blocks, keep_locals, leave_to, owned_block, owned_bytes, release, release_found, removed, turn, untaken}
use Rattle.wrapper_run.specs.ExportRun.{call_inside, call_method, call_with, core_answer, expect_words, keep_result, method_answer, method_call, returned_of, run_call, run_export_fn, run_to_words, take_value, are_words_of}
use Rattle.wrapper_values.specs.Locals.{ask_local, bind, declare, give_local, lend_local, local_named, slot_with, usable, use_local, used, value_of, write_slot}
use Rattle.wrapper_run.specs.Memory.{loaded, loaded_small, stored, stored_small}
use Rattle.wrapper_values.specs.Owning.{lent, listed, owned, owned_in, taken_by, view}
use Rattle.wrapper_run.specs.Places.{area_in, is_fitting, place_area, place_at, place_static, request_of, static_place, static_pointer, with_area}
use Rattle.wrapper_run.specs.Results.{run_inner, run_results}
use Rattle.wrapper_run.specs.Run.{answer_act, answer_and_leave, call_import, call_point, eval, give_and_leave, record_call, result_of, run_block, run_fn, run_stmts, take_answer}
use Rattle.wrapper_values.specs.Setting.{Setting, stuck}
use Rattle.wrapper_values.specs.Typed.{answer_in}
use Rattle.wrapper_run.specs.Growth.{Grows, Longer, state_of}
use Rattle.wrapper_run.proofs.Acts.{Acts, deallocates, lifts, loads_number, loads_word, stores_number, stores_word, takes_bytes}
use Rattle.wrapper_run.proofs.Walk.{Everywhere, known_block, known_expr, known_stmts, walks_block, walks_expr, walks_stmts, walks_given}

-- states

pub longer-same : (s t : State) → t.calls ≡ s.calls → t.requests ≡ s.requests → Longer s t
longer-same s t c r = record { new_calls = []; calls = c ∙ sym (append-nil s.calls); new_requests = []; requests = r ∙ sym (append-nil s.requests) }

pub longer-then : (s t u : State) → Longer s t → Longer t u → Longer s u
longer-then s t u a b = record {
  new_calls = a.new_calls ++ b.new_calls;
  calls = b.calls ∙ ap (λ cs. cs ++ b.new_calls) a.calls ∙ append_assoc s.calls a.new_calls b.new_calls;
  new_requests = a.new_requests ++ b.new_requests;
  requests = b.requests ∙ ap (λ rs. rs ++ b.new_requests) a.requests ∙ append_assoc s.requests a.new_requests b.new_requests;
}

-- acts

pub grows_pure : {A : Type 0} (a : A) → Grows (pure a)
grows_pure a = record { grows = λ s. longer-same s s refl refl }

pub grows_stop : {A : Type 0} (e : Stop) → Grows (stop {A = A} e)
grows_stop e = record { grows = λ s. longer-same s s refl refl }

grows_or_stop : {A : Type 0} (e : Stop) (o : Option A) → Grows (or_stop e o)
grows_or_stop e None = grows_stop e
grows_or_stop e (Some a) = grows_pure a

pub grows_then : {A B : Type 0} (act : Act A) (f : A → Act B) → Grows act → ((a : A) → Grows (f a)) → Grows (act >>= f)
grows_then {A = A} {B = B} act f h k = record { grows = λ s. go s (act s) (h.grows s) }
  where
    go : (s : State) (o : Outcome A) → Longer s (state_of o) → Longer s (state_of (and_then o f))
    go s (Done a t) l = longer-then s t (state_of (f a t)) l ((k a).grows t)
    go s (Stopped x t) l = l

-- locals

grows_used : (name : Bytes) (v : Val) (addresses : List ℕ) → Grows (used name v addresses)
grows_used name v [] = grows_pure v
grows_used name v (a ∷ more) = record { grows = λ s. longer-same s _ refl refl }

pub grows_use : (e : Stop) (name : Bytes) → Grows (use_local e name)
unfolding use_local
grows_use e name =
    record { grows = λ s. (grows_then (or_stop e (option_and_then usable (value_of (local_named name s.locals)))) (λ v. used name v (owned v)) (grows_or_stop e _) (λ v. grows_used name v (owned v))).grows s }

pub grows_lend : (e : Stop) (name : Bytes) → Grows (lend_local e name)
unfolding lend_local
grows_lend e name = record { grows = λ s. (grows_or_stop e (option_and_then lent (value_of (local_named name s.locals)))).grows s }

pub grows_ask : (e : Stop) (of : View) (name : Bytes) → Grows (ask_local e of name)
unfolding ask_local
grows_ask e of name = record { grows = λ s. (grows_or_stop e (option_map val.Word (option_and_then (view of) (value_of (local_named name s.locals))))).grows s }

pub grows_bind : (name : Bytes) (v : Val) → Grows (bind name v)
unfolding bind
grows_bind name v = record { grows = λ s. longer-same s _ refl refl }

pub grows_write : (e : Stop) (name : Bytes) (v : Val) → Grows (write_slot e name v)
unfolding write_slot
grows_write e name v =
    record { grows = λ s. (grows_then (or_stop e (option_and_then (slot_with v) (value_of (local_named name s.locals)))) (give_local name) (grows_or_stop e _) (λ x. record { grows = λ s. longer-same s _ refl refl })).grows s }

pub grows_declare : (d : ImportDecl) → Grows (declare d)
unfolding declare
grows_declare d = record { grows = λ s. longer-same s _ refl refl }

-- blocks that go

grows_found : (w : Setting) (address : ℕ) (o : Option Block) → Grows (free_found w address o)
grows_found w address None = grows_stop (stuck w)
grows_found w address (Some b) = record { grows = λ s. longer-same s _ refl refl }

pub grows_free : (w : Setting) (address : ℕ) → Grows (free w address)
unfolding free
grows_free w address = record { grows = λ s. (grows_found w address (owned_block address s)).grows s }

grows_free_all : (w : Setting) (addresses : List ℕ) → Grows (free_all w addresses)
grows_free_all w [] = grows_pure tt
grows_free_all w (a ∷ more) = grows_then (free w a) (λ _. free_all w more) (grows_free w a) (λ _. grows_free_all w more)

grows_drop : (w : Setting) (v : Val) → Grows (drop_value w v)
grows_drop w v = grows_free_all w (owned v)

grows_drops : (w : Setting) (locals : List Local) → Grows (drop_locals w locals)
grows_drops w [] = grows_pure tt
grows_drops w (l ∷ locals) = grows_then (drop_locals w locals) (λ _. drop_local w l.value) (grows_drops w locals) (λ _. grows_free_all w (owned_in l.value))

pub grows_leave : (w : Setting) (kept : ℕ) → Grows (leave_to w kept)
unfolding leave_to
grows_leave w kept = record { grows = λ s. go s (drop_locals w (drop kept s.locals) (record s { locals = [] })) ((grows_drops w (drop kept s.locals)).grows (record s { locals = [] })) }
  where
    go : (s : State) (o : Outcome (Unit {0})) → Longer (record s { locals = [] }) (state_of o) → Longer s (state_of (and_then o (λ _. keep_locals (take kept s.locals))))
    go s (Done u t) l = record { new_calls = l.new_calls; calls = l.calls; new_requests = l.new_requests; requests = l.requests }
    go s (Stopped x t) l = record { new_calls = l.new_calls; calls = l.calls; new_requests = l.new_requests; requests = l.requests }

grows_released : (w : Setting) (address : ℕ) (o : Option Block) → Grows (release_found w address o)
grows_released w address None = grows_stop (stuck w)
grows_released w address (Some b) = record { grows = λ s. longer-same s _ refl refl }

pub grows_release : (w : Setting) (address : ℕ) → Grows (release w address)
unfolding release
grows_release w address = record { grows = λ s. (grows_released w address (owned_block address s)).grows s }

-- what looks at the memory or changes it

grows_kept : (w : Setting) (o : Option (List Block)) → Grows (or_stop (stuck w) o >>= keep_blocks)
grows_kept w None = grows_stop (stuck w)
grows_kept w (Some blocks) = record { grows = λ s. longer-same s _ refl refl }

grows_removed : (e : Stop) (address size : ℕ) (o : Option Block) → Grows (or_stop e o >> turn (removed address size))
grows_removed e address size None = grows_stop e
grows_removed e address size (Some b) = record { grows = λ s. longer-same s _ refl refl }

pub grows_acts : (w : Setting) → Acts w (λ A act. Grows act)
grows_acts w = record {
  gives = λ A a. grows_pure a;
  stops = λ A e. grows_stop e;
  follows = λ A B act f. grows_then act f;
  finds = λ e address n. record { grows = λ s. (grows_or_stop e (untaken address (suc n) s)).grows s };
  tells = λ e address size. record { grows = λ s. (grows_or_stop e (owned_bytes address size s)).grows s };
  owns = λ address. record { grows = λ s. longer-same s _ refl refl };
  removes = λ e address n. record { grows = λ s. (grows_removed e address (suc n) (untaken address (suc n) s)).grows s };
  loads = λ e address ty. record { grows = λ s. (grows_or_stop e (option_map val.Word (loaded ty address s.heap.blocks))).grows s };
  loads_small = λ e address ty. record { grows = λ s. (grows_or_stop e (option_map val.Word (loaded_small ty address s.heap.blocks))).grows s };
  stores = λ address ty v x is. record { grows = λ s. (grows_kept w (stored ty address x s.heap.blocks)).grows s };
  stores_small = λ address ty z. record { grows = λ s. (grows_kept w (stored_small ty address z s.heap.blocks)).grows s };
}

-- calls

pub grows_answer : (w : Setting) (ty : Option WasmType) → Grows (take_answer w ty)
unfolding take_answer
grows_answer w ty = go w.answer
  where
    go : (a : Answer) → Grows (answer_act w ty a)
    go (answer.Words r writes blocks) = record { grows = λ s. longer-then s (record s { heap = answered blocks writes s.heap }) _ (longer-same s _ refl refl) ((grows_or_stop (stuck w) (result_of ty r)).grows (record s { heap = answered blocks writes s.heap })) }
    go (answer.Value v h) = grows_stop (stuck w)

grows_recorded : (p : CallPoint) → Grows (record_call p)
grows_recorded p = record { grows = λ s. record { new_calls = p ∷ []; calls = refl; new_requests = []; requests = sym (append-nil s.requests) } }

pub grows_import : (w : Setting) (name : Bytes) (vs : List Val) → Grows (call_import w name vs)
grows_import w name vs =
    record {
      grows = λ s. (grows_then (or_stop (stuck w) (call_point s name vs)) (λ p. record_call p.0 >> take_answer w p.1) (grows_or_stop (stuck w) _)
          (λ p. grows_then (record_call p.0) (λ _. take_answer w p.1) (grows_recorded p.0) (λ _. grows_answer w p.1))).grows s;
    }

-- areas

grows_place_at : (r : Request) (choices : List Choice) → Grows (place_at r choices)
grows_place_at r [] = grows_stop stop_of.BadChoice
grows_place_at r (choice.Refuse ∷ choices) = grows_stop stop_of.BadChoice
grows_place_at r (choice.At address ∷ choices) = record { grows = λ s. go s (is_fitting address r s.heap.blocks) }
  where
    go : (s : State) (b : Bool) → Longer s (state_of {A = ℕ × ℕ} (cond b (Done (address, r.size) (record (with_area address r s) { choices = choices })) (Stopped stop_of.BadChoice s)))
    go s true = longer-same s _ refl refl
    go s false = longer-same s _ refl refl

pub grows_place : (w : Setting) (r : Request) → Grows (place_area w r)
unfolding place_area
grows_place w r = record { grows = λ s. go s (nat_eq r.size 0 || nat_eq r.align 0) }
  where
    go : (s : State) (b : Bool) → Longer s (state_of (cond b (Stopped (stuck w) s) (place_at r s.choices (record s { requests = s.requests ++ r ∷ [] }))))
    go s true = longer-same s s refl refl
    go s false =
        let asked : State = record s { requests = s.requests ++ r ∷ [] } in
        longer-then s asked _ (record { new_calls = []; calls = sym (append-nil s.calls); new_requests = r ∷ []; requests = refl }) ((grows_place_at r s.choices).grows asked)

grows_place_static : (w : Setting) (a : Option StaticArea) → Grows (place_static w a)
grows_place_static w None = grows_stop (stuck w)
grows_place_static w (Some a) =
    grows_then (place_area w (request_of a.size a.align)) (λ p. λ s. Done p.0 (record s { place = Some p.0 })) (grows_place w (request_of a.size a.align)) (λ p. record { grows = λ s. longer-same s _ refl refl })

pub grows_static_place : (w : Setting) (place : Option ℕ) → Grows (static_place w place)
grows_static_place w None = grows_place_static w (area_in w.items)
grows_static_place w (Some address) = grows_pure address

pub grows_static : (w : Setting) → Grows (static_pointer w)
unfolding static_pointer
grows_static w = record { grows = λ s. (grows_then (static_place w s.place) (λ address. pure (val.Word (word.Pointer address))) (grows_static_place w s.place) (λ address. grows_pure (val.Word (word.Pointer address)))).grows s }

-- scopes, and all code

pub grows_scope : {A : Type 0} (w : Setting) (act : Act A) → Grows act → Grows (in_scope w act)
grows_scope w act h = record {
  grows = λ s. (grows_then act (λ a. leave_to w (length s.locals) >> pure a) h
      (λ a. grows_then (leave_to w (length s.locals)) (λ _. pure a) (grows_leave w (length s.locals)) (λ _. grows_pure a))).grows s;
}

grows_everywhere : (w : Setting) (known : Bytes → Bool) → Everywhere w known (λ A act. Grows act)
grows_everywhere w known = record {
  gives = λ A a. grows_pure a;
  stops = λ A e. grows_stop e;
  follows = λ A B act f. grows_then act f;
  uses = λ name _. grows_use (stuck w) name;
  lends = λ name _. grows_lend (stuck w) name;
  asks = λ of name _. grows_ask (stuck w) of name;
  binds = λ name v _. grows_bind name v;
  declares = grows_declare;
  frees = grows_free w;
  releases = grows_release w;
  deallocates = deallocates w (λ A act. Grows act) (grows_acts w);
  takes = λ name v _. record { grows = λ s. (takes_bytes w (λ A act. Grows act) (grows_acts w) (value_of (local_named name s.locals)) v).grows s };
  lifts = lifts w (λ A act. Grows act) (grows_acts w);
  loads = loads_word w (λ A act. Grows act) (grows_acts w);
  loads_small = loads_number w (λ A act. Grows act) (grows_acts w);
  stores = stores_word w (λ A act. Grows act) (grows_acts w);
  stores_small = stores_number w (λ A act. Grows act) (grows_acts w);
  places = grows_place w;
  static = grows_static w;
  calls = λ name vs _. grows_import w name vs;
  writes = λ name v _. grows_write (stuck w) name v;
  scopes = λ A act. grows_scope w act;
}

-- every name is known
abbrev pub all_known : Bytes → Bool
all_known name = true

grows_eval : (w : Setting) (e : Expr) → Grows (eval w e)
grows_eval w e = walks_expr w all_known (λ A act. Grows act) (grows_everywhere w all_known) e (known_expr all_known (λ name. refl) e)

grows_stmts : (w : Setting) (stmts : List Stmt) → Grows (run_stmts w stmts)
grows_stmts w stmts = walks_stmts w all_known (λ A act. Grows act) (grows_everywhere w all_known) stmts (known_stmts all_known (λ name. refl) stmts)

pub grows_code : (w : Setting) (b : Code) → Grows (run_block w b)
grows_code w b = walks_block w all_known (λ A act. Grows act) (grows_everywhere w all_known) b (known_block all_known (λ name. refl) b)

pub grows_inner : (w : Setting) (b : Code) → Grows (run_inner w b)
grows_inner w b = grows_scope w (run_results w b) (walks_given w all_known (λ A act. Grows act) (grows_everywhere w all_known) b (known_block all_known (λ name. refl) b))

-- the whole run of a wrapper

grows_give : {A : Type 0} (w : Setting) (o : Option A) → Grows (give_and_leave w o)
grows_give w o = grows_then (or_stop (stuck w) o) (λ r. leave_to w 0 >> pure r) (grows_or_stop (stuck w) o) (λ r. grows_then (leave_to w 0) (λ _. pure r) (grows_leave w 0) (λ _. grows_pure r))

pub grows_fn : (w : Setting) (f : FnItem) → Grows (run_fn w f)
grows_fn w f = grows_then (run_block w f.body) (answer_and_leave w f.result) (grows_code w f.body) (λ v. grows_give w (answer_in w.items f.result v))

grows_method_answer : (w : Setting) (ty : TypeExpr) (a : Answer) → Grows (method_answer w ty a)
grows_method_answer w ty (answer.Value v heap) =
    record { grows = λ s. longer-then s (record s { heap = heap; taken = taken_by (listed v) }) _ (longer-same s _ refl refl) ((grows_or_stop (stuck w) (returned_of w.items ty v)).grows (record s { heap = heap; taken = taken_by (listed v) })) }
grows_method_answer w ty (answer.Words _ _ _) = grows_stop (stuck w)

grows_method : (w : Setting) (bound name : Bytes) (vs : List Val) → Grows (call_method w bound name vs)
unfolding take_value
grows_method w bound name vs =
    record {
      grows = λ s. (grows_then (or_stop (stuck w) (method_call w.items bound name s.heap vs)) (λ p. record_call p.0 >> take_value w p.1) (grows_or_stop (stuck w) (method_call w.items bound name s.heap vs))
          (λ p. grows_then (record_call p.0) (λ _. take_value w p.1) (grows_recorded p.0) (λ _. grows_method_answer w p.1 w.answer))).grows s;
    }

grows_call : (w : Setting) (bound : Bytes) (c : CallBlock) → Grows (run_call w bound c)
grows_call w bound c =
    grows_scope w (call_inside w bound c)
    (grows_then (run_stmts w c.stmts) (λ _. call_with w bound c) (grows_stmts w c.stmts)
    (λ _. grows_then (all (map (eval w) c.arguments)) (call_method w bound c.method) (grows_arguments c.arguments) (grows_method w bound c.method)))
  where
    grows_arguments : (es : List Expr) → Grows (all (map (eval w) es))
    grows_arguments [] = grows_pure []
    grows_arguments (e ∷ es) =
        grows_then (eval w e) (λ v. all (map (eval w) es) >>= (λ vs. pure (v ∷ vs))) (grows_eval w e)
        (λ v. grows_then (all (map (eval w) es)) (λ vs. pure (v ∷ vs)) (grows_arguments es) (λ vs. grows_pure (v ∷ vs)))

grows_result : (w : Setting) (result : Option Bytes) (v : Val) → Grows (keep_result w result v)
grows_result w None v = grows_drop w v
grows_result w (Some name) v = grows_bind name v

grows_words : (w : Setting) (ty : Option WasmType) (b : Code) → Grows (run_to_words w ty b)
grows_words w ty b = grows_then (run_block w b) (λ v. give_and_leave w (core_answer ty v)) (grows_code w b) (λ v. grows_give w (core_answer ty v))

grows_expected : (e : Stop) (params : List CoreParam) (words : List Word) → Grows (expect_words e params words)
grows_expected e params words = record { grows = λ s. go s (are_words_of params words) }
  where
    go : (s : State) (b : Bool) → Longer s (state_of {A = Unit {0}} (cond b (Done tt s) (Stopped e s)))
    go s true = longer-same s s refl refl
    go s false = longer-same s s refl refl

pub grows_export : (w : Setting) (e : ExportFn) (words : List Word) → Grows (run_export_fn w e words)
grows_export w e words =
    grows_then (expect_words (stuck w) e.params words >> run_call w e.bound e.call >>= keep_result w e.call.result) (λ _. run_to_words w e.result e.rest)
    (grows_then (expect_words (stuck w) e.params words >> run_call w e.bound e.call) (keep_result w e.call.result)
    (grows_then (expect_words (stuck w) e.params words) (λ _. run_call w e.bound e.call) (grows_expected (stuck w) e.params words) (λ _. grows_call w e.bound e.call))
    (grows_result w e.call.result))
    (λ _. grows_words w e.result e.rest)
