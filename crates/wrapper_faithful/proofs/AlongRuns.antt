-- What holds of one move of the machine after another holds along whole runs: whatever the tree is, a run goes by few kinds of moves.
use Rattle.std.proofs.Common.{◌≡◌, ℕ, suc, ◌||◌, ◌%◌, ◌&&◌, Bool, true, false, cond, List, [], ◌∷◌, ◌++◌, map, drop, take, length, Option, None, Some, refl}
use Rattle.std.specs.Prelude.{ℤ, nat_eq, option_and_then}
use Rattle.std.specs.Option.{option_map}
use Rattle.wit_model.specs.Bytes.{Bytes}
use Rattle.wit_model.specs.declared.wasm_type.WasmType.{WasmType}
use Rattle.rust_tree.specs.declared.area.StaticArea.{StaticArea}
use Rattle.rust_tree.specs.declared.export.CallBlock.{CallBlock}
use Rattle.rust_tree.specs.declared.export.CoreParam.{CoreParam}
use Rattle.rust_tree.specs.declared.export.ExportFn.{ExportFn}
use Rattle.rust_tree.specs.declared.expr.Expr.{Expr}
use Rattle.rust_tree.specs.declared.expr.SmallType.{SmallType}
use Rattle.rust_tree.specs.declared.item.FnItem.{FnItem}
use Rattle.rust_tree.specs.declared.stmt.Block.{Block as Code}
use Rattle.rust_tree.specs.declared.stmt.ImportDecl.{ImportDecl}
use Rattle.rust_tree.specs.declared.stmt.Stmt.{Stmt}
use Rattle.rust_tree.specs.declared.type_expr.TypeExpr.{TypeExpr}
use Rattle.wrapper_data.specs.Answered.{answered}
use Rattle.wrapper_data.specs.declared.answer.Answer.{Answer}
use Rattle.wrapper_data.specs.declared.answer.Answer.TheVariants as answer
use Rattle.wrapper_data.specs.declared.block.Block.{Block}
use Rattle.wrapper_data.specs.declared.choice.Choice.{Choice}
use Rattle.wrapper_data.specs.declared.choice.Choice.TheVariants as choice
use Rattle.wrapper_data.specs.declared.choice.Request.{Request}
use Rattle.wrapper_data.specs.declared.run.CallPoint.{CallPoint}
use Rattle.wrapper_data.specs.declared.run.Stop.{Stop}
use Rattle.wrapper_data.specs.declared.run.Stop.TheVariants as stop_of
use Rattle.wrapper_data.specs.declared.value.RustValue.{RustValue}
use Rattle.wrapper_data.specs.declared.word.Word.{Word}
use Rattle.wrapper_data.specs.declared.word.Word.TheVariants as word
use Rattle.wrapper_values.specs.declared.state.Local.{Local}
use Rattle.wrapper_values.specs.declared.state.State.{State}
use Rattle.wrapper_values.specs.declared.state.Val.{Val}
use Rattle.wrapper_values.specs.declared.state.Val.TheVariants as val
use Rattle.wrapper_values.specs.Act.{Act, Outcome, Done, Stopped, ◌>>=◌, ◌>>◌, all, and_then, or_stop, pure, stop}
use Rattle.wrapper_run.specs.Blocks.{drop_local, drop_locals, drop_value, free, free_all, free_found, in_scope, keep_blocks, keep_locals, leave_to, owned_block, owned_bytes, release, release_found, removed, turn, untaken}
use Rattle.wrapper_run.specs.ExportRun.{call_inside, call_method, call_with, core_answer, expect_words, keep_result, method_answer, method_call, returned_of, run_call, run_export_fn, run_to_words, take_value, are_words_of}
use Rattle.wrapper_values.specs.Locals.{ask_local, bind, declare, lend_local, local_named, usable, use_local, used, value_of, give_local, slot_with, write_slot}
use Rattle.wrapper_run.specs.Growth.{state_of}
use Rattle.wrapper_run.specs.Memory.{bytes_of_small, loaded, loaded_small, low_bytes, stored, stored_small}
use Rattle.wrapper_values.specs.Owning.{lent, listed, owned, owned_in, taken_by}
use Rattle.wrapper_run.specs.Places.{area_in, is_fitting, place_area, place_at, place_static, request_of, static_place, static_pointer, with_area}
use Rattle.wrapper_run.specs.Run.{answer_act, answer_and_leave, call_import, call_point, eval, give_and_leave, record_call, result_of, run_block, run_fn, run_stmts, take_answer}
use Rattle.wrapper_values.specs.Setting.{Setting, stuck}
use Rattle.wrapper_values.specs.Typed.{answer_in}
use Rattle.wrapper_run.proofs.Acts.{Acts, deallocates, lifts, loads_number, loads_word, stores_number, stores_word, takes_bytes}
use Rattle.wrapper_run.proofs.GrowLemmas.{all_known}
use Rattle.wrapper_run.proofs.Walk.{Everywhere, known_block, known_expr, known_stmts, walks_block, walks_expr, walks_stmts}
use Rattle.rust_tree.specs.declared.export.PostReturnFn.{PostReturnFn}
use Rattle.rust_tree.specs.declared.trait_item.TraitFn.{TraitFn}
use Rattle.wrapper_data.specs.Answered.{with_writes}
use Rattle.wrapper_data.specs.declared.heap.Heap.{Heap}
use Rattle.wrapper_run.specs.Blocks.{removed, without_block, without_owner}
use Rattle.wrapper_run.specs.ExportRun.{method_named, method_point, values_of}
use Rattle.wrapper_values.specs.Locals.{import_named}
use Rattle.wrapper_run.specs.Memory.{bytes_of, bytes_of_type, is_inside, writes_from}
use Rattle.wrapper_run.specs.PostReturn.{run_post_return_fn}
use Rattle.wrapper_run.specs.Run.{called_with, point_of, unhidden, words_of}

-- a relation of states that holds along each kind of move: nothing of the run's own changes; a request is made; a call is made, and shows
-- the heap; a block goes; an area is placed; bytes are written; a peer answers; an implementation, whose answer fits, leaves a heap
pub record Moves (R : State → State → Type 0) (Fits : Answer → Type 0) : Type 0 where
  pub follow : (s t u : State) → R s t → R t u → R s u
  pub same : (s t : State) → t.heap ≡ s.heap → t.calls ≡ s.calls → t.requests ≡ s.requests → R s t
  pub asked : (s : State) (r : Request) → R s (record s { requests = s.requests ++ r ∷ [] })
  pub called : (s : State) (p : CallPoint) → p.heap ≡ s.heap → R s (record s { calls = s.calls ++ p ∷ [] })
  pub freed : (s : State) (address size : ℕ) → R s (removed address size s)
  pub placed : (s : State) (address : ℕ) (r : Request) → is_fitting address r s.heap.blocks ≡ true → R s (with_area address r s)
  pub written : (s : State) (writes : List (ℕ × ℕ)) → R s (record s { heap = record s.heap { blocks = with_writes s.heap.blocks writes } })
  pub answers : (s : State) (writes : List (ℕ × ℕ)) (blocks : List Block) → R s (record s { heap = answered blocks writes s.heap })
  pub left : (s : State) (v : Option RustValue) (heap : Heap) → Fits (answer.Value v heap) → R s (record s { heap = heap })

module _ (R : State → State → Type 0) (Fits : Answer → Type 0) (m : Moves R Fits) where
  -- an act that the relation holds along
  pub record Along {A : Type 0} (act : Act A) : Type 0 where
    pub along : (s : State) → R s (state_of (act s))

  along_pure : {A : Type 0} (a : A) → Along (pure a)
  along_pure a = record { along = λ s. m.same s s refl refl refl }

  along_stop : {A : Type 0} (e : Stop) → Along (stop {A = A} e)
  along_stop e = record { along = λ s. m.same s s refl refl refl }

  along_or_stop : {A : Type 0} (e : Stop) (o : Option A) → Along (or_stop e o)
  along_or_stop e None = along_stop e
  along_or_stop e (Some a) = along_pure a

  along_then : {A B : Type 0} (act : Act A) (f : A → Act B) → Along act → ((a : A) → Along (f a)) → Along (act >>= f)
  along_then {A = A} {B = B} act f h k = record { along = λ s. go s (act s) (h.along s) }
    where
      go : (s : State) (o : Outcome A) → R s (state_of o) → R s (state_of (and_then o f))
      go s (Done a t) l = m.follow s t (state_of (f a t)) l ((k a).along t)
      go s (Stopped x t) l = l

  -- locals

  along_used : (name : Bytes) (v : Val) (addresses : List ℕ) → Along (used name v addresses)
  along_used name v [] = along_pure v
  along_used name v (a ∷ more) = record { along = λ s. m.same s _ refl refl refl }

  along_use : (e : Stop) (name : Bytes) → Along (use_local e name)
  unfolding use_local
  along_use e name =
      record { along = λ s. (along_then (or_stop e (option_and_then usable (value_of (local_named name s.locals)))) (λ v. used name v (owned v)) (along_or_stop e _) (λ v. along_used name v (owned v))).along s }

  along_lend : (e : Stop) (name : Bytes) → Along (lend_local e name)
  unfolding lend_local
  along_lend e name = record { along = λ s. (along_or_stop e (option_and_then lent (value_of (local_named name s.locals)))).along s }

  -- what is asked of a state
  along_asked : {A : Type 0} (e : Stop) (o : State → Option A) → Along (λ s. or_stop e (o s) s)
  along_asked e o = record { along = λ s. (along_or_stop e (o s)).along s }

  along_bind : (name : Bytes) (v : Val) → Along (bind name v)
  unfolding bind
  along_bind name v = record { along = λ s. m.same s _ refl refl refl }

  along_write : (e : Stop) (name : Bytes) (v : Val) → Along (write_slot e name v)
  unfolding write_slot
  along_write e name v =
      record { along = λ s. (along_then (or_stop e (option_and_then (slot_with v) (value_of (local_named name s.locals)))) (give_local name) (along_or_stop e _) (λ x. record { along = λ s. m.same s _ refl refl refl })).along s }

  along_declare : (d : ImportDecl) → Along (declare d)
  unfolding declare
  along_declare d = record { along = λ s. m.same s _ refl refl refl }

  -- blocks that go

  along_found : (w : Setting) (address : ℕ) (o : Option Block) → Along (free_found w address o)
  along_found w address None = along_stop (stuck w)
  along_found w address (Some b) =
      record { along = λ s. m.follow s (without_owner address s) (without_block (address, b.size) s) (m.same s (without_owner address s) refl refl refl) (m.freed (without_owner address s) address b.size) }

  along_free : (w : Setting) (address : ℕ) → Along (free w address)
  unfolding free
  along_free w address = record { along = λ s. (along_found w address (owned_block address s)).along s }

  along_free_all : (w : Setting) (addresses : List ℕ) → Along (free_all w addresses)
  along_free_all w [] = along_pure tt
  along_free_all w (a ∷ more) = along_then (free w a) (λ _. free_all w more) (along_free w a) (λ _. along_free_all w more)

  along_drop : (w : Setting) (v : Val) → Along (drop_value w v)
  along_drop w v = along_free_all w (owned v)

  along_drops : (w : Setting) (locals : List Local) → Along (drop_locals w locals)
  along_drops w [] = along_pure tt
  along_drops w (l ∷ locals) = along_then (drop_locals w locals) (λ _. drop_local w l.value) (along_drops w locals) (λ _. along_free_all w (owned_in l.value))

  along_leave : (w : Setting) (kept : ℕ) → Along (leave_to w kept)
  unfolding leave_to
  along_leave w kept = record { along = λ s. go s (drop_locals w (drop kept s.locals) (record s { locals = [] })) ((along_drops w (drop kept s.locals)).along (record s { locals = [] })) }
    where
      go : (s : State) (o : Outcome (Unit {0})) → R (record s { locals = [] }) (state_of o) → R s (state_of (and_then o (λ _. keep_locals (take kept s.locals))))
      go s (Done u t) l = m.follow s t (record t { locals = take kept s.locals }) (m.follow s (record s { locals = [] }) t (m.same s (record s { locals = [] }) refl refl refl) l) (m.same t (record t { locals = take kept s.locals }) refl refl refl)
      go s (Stopped x t) l = m.follow s (record s { locals = [] }) t (m.same s (record s { locals = [] }) refl refl refl) l

  along_released : (w : Setting) (address : ℕ) (o : Option Block) → Along (release_found w address o)
  along_released w address None = along_stop (stuck w)
  along_released w address (Some b) = record { along = λ s. m.same s _ refl refl refl }

  along_release : (w : Setting) (address : ℕ) → Along (release w address)
  unfolding release
  along_release w address = record { along = λ s. (along_released w address (owned_block address s)).along s }

  -- calls

  along_answer : (w : Setting) (ty : Option WasmType) → Along (take_answer w ty)
  unfolding take_answer
  along_answer w ty = go w.answer
    where
      go : (a : Answer) → Along (answer_act w ty a)
      go (answer.Words r writes blocks) = record { along = λ s. m.follow s (record s { heap = answered blocks writes s.heap }) _ (m.answers s writes blocks) ((along_or_stop (stuck w) (result_of ty r)).along (record s { heap = answered blocks writes s.heap })) }
      go (answer.Value v h) = along_stop (stuck w)

  -- a call that shows the heap of the state
  abbrev ShowsHeap : {B : Type 0} → Heap → Option (CallPoint × B) → Type 0
  ShowsHeap heap None = Unit {0}
  ShowsHeap heap (Some p) = p.0.heap ≡ heap

  along_shown : {B : Type 0} (e : Stop) (answer_to : B → Act Val) → ((b : B) → Along (answer_to b)) → (s : State) (o : Option (CallPoint × B)) → ShowsHeap s.heap o
      → R s (state_of ((or_stop e o >>= (λ p. record_call p.0 >> answer_to p.1)) s))
  along_shown e answer_to h s None shown = m.same s s refl refl refl
  along_shown e answer_to h s (Some p) shown =
      m.follow s (record s { calls = s.calls ++ p.0 ∷ [] }) _ (m.called s p.0 shown) ((h p.1).along (record s { calls = s.calls ++ p.0 ∷ [] }))

  shown_import : (s : State) (name : Bytes) (vs : List Val) → ShowsHeap s.heap (call_point s name vs)
  unfolding call_point
  shown_import s name vs = by_import (unhidden (local_named name s.locals) (import_named name s.imports))
    where
      by_words : (d : ImportDecl) (o : Option (List Word)) → ShowsHeap s.heap (option_map (λ ws. (point_of d s.heap ws, d.result)) o)
      by_words d None = tt
      by_words d (Some ws) = refl

      by_import : (o : Option ImportDecl) → ShowsHeap s.heap (option_and_then (called_with s vs) o)
      by_import None = tt
      by_import (Some d) = by_words d (words_of d.params vs)

  along_import : (w : Setting) (name : Bytes) (vs : List Val) → Along (call_import w name vs)
  along_import w name vs = record { along = λ s. along_shown (stuck w) (take_answer w) (along_answer w) s (call_point s name vs) (shown_import s name vs) }

  -- areas

  along_place_at : (r : Request) (choices : List Choice) → Along (place_at r choices)
  along_place_at r [] = along_stop stop_of.BadChoice
  along_place_at r (choice.Refuse ∷ choices) = along_stop stop_of.BadChoice
  along_place_at r (choice.At address ∷ choices) = record { along = λ s. go s (is_fitting address r s.heap.blocks) refl }
    where
      go : (s : State) (b : Bool) → is_fitting address r s.heap.blocks ≡ b
          → R s (state_of {A = ℕ × ℕ} (cond b (Done (address, r.size) (record (with_area address r s) { choices = choices })) (Stopped stop_of.BadChoice s)))
      go s true fits =
          m.follow s (with_area address r s) (record (with_area address r s) { choices = choices }) (m.placed s address r fits) (m.same (with_area address r s) (record (with_area address r s) { choices = choices }) refl refl refl)
      go s false fits = m.same s s refl refl refl

  along_place : (w : Setting) (r : Request) → Along (place_area w r)
  unfolding place_area
  along_place w r = record { along = λ s. go s (nat_eq r.size 0 || nat_eq r.align 0) }
    where
      go : (s : State) (b : Bool) → R s (state_of (cond b (Stopped (stuck w) s) (place_at r s.choices (record s { requests = s.requests ++ r ∷ [] }))))
      go s true = m.same s s refl refl refl
      go s false =
          let asked : State = record s { requests = s.requests ++ r ∷ [] } in
          m.follow s asked _ (m.asked s r) ((along_place_at r s.choices).along asked)

  along_place_static : (w : Setting) (a : Option StaticArea) → Along (place_static w a)
  along_place_static w None = along_stop (stuck w)
  along_place_static w (Some a) =
      along_then (place_area w (request_of a.size a.align)) (λ p. λ s. Done p.0 (record s { place = Some p.0 })) (along_place w (request_of a.size a.align)) (λ p. record { along = λ s. m.same s _ refl refl refl })

  along_static : (w : Setting) → Along (static_pointer w)
  unfolding static_pointer
  along_static w = record { along = λ s. (along_then (static_place w s.place) (λ address. pure (val.Word (word.Pointer address))) (go s.place) (λ address. along_pure (val.Word (word.Pointer address)))).along s }
    where
      go : (place : Option ℕ) → Along (static_place w place)
      go None = along_place_static w (area_in w.items)
      go (Some address) = along_pure address

  -- what looks at the memory or changes it

  along_removed : (e : Stop) (address size : ℕ) (o : Option Block) → Along (or_stop e o >> turn (removed address size))
  along_removed e address size None = along_stop e
  along_removed e address size (Some b) = record { along = λ s. m.freed s address size }

  along_kept : (w : Setting) (address : ℕ) (bytes : List ℕ) (s : State) (b : Bool)
      → R s (state_of ((or_stop (stuck w) (cond b (Some (with_writes s.heap.blocks (writes_from address bytes))) None) >>= keep_blocks) s))
  along_kept w address bytes s true = m.written s (writes_from address bytes)
  along_kept w address bytes s false = m.same s s refl refl refl

  along_stored : (w : Setting) (ty : WasmType) (address : ℕ) (x : Word) (s : State) → R s (state_of ((or_stop (stuck w) (stored ty address x s.heap.blocks) >>= keep_blocks) s))
  unfolding stored
  along_stored w ty address x s = along_kept w address (bytes_of x) s (nat_eq (address % bytes_of_type ty) 0 && is_inside address (bytes_of_type ty) s.heap.blocks)

  along_stored_small : (w : Setting) (ty : SmallType) (address : ℕ) (z : ℤ) (s : State) → R s (state_of ((or_stop (stuck w) (stored_small ty address z s.heap.blocks) >>= keep_blocks) s))
  unfolding stored_small
  along_stored_small w ty address z s = along_kept w address (low_bytes ty z) s (nat_eq (address % bytes_of_small ty) 0 && is_inside address (bytes_of_small ty) s.heap.blocks)

  along_acts : (w : Setting) → Acts w (λ A act. Along act)
  along_acts w = record {
    gives = λ A a. along_pure a;
    stops = λ A e. along_stop e;
    follows = λ A B act f. along_then act f;
    finds = λ e address n. along_asked e (untaken address (suc n));
    tells = λ e address size. along_asked e (owned_bytes address size);
    owns = λ address. record { along = λ s. m.same s _ refl refl refl };
    removes = λ e address n. record { along = λ s. (along_removed e address (suc n) (untaken address (suc n) s)).along s };
    loads = λ e address ty. along_asked e (λ s. option_map val.Word (loaded ty address s.heap.blocks));
    loads_small = λ e address ty. along_asked e (λ s. option_map val.Word (loaded_small ty address s.heap.blocks));
    stores = λ address ty v x is. record { along = along_stored w ty address x };
    stores_small = λ address ty z. record { along = along_stored_small w ty address z };
  }

  -- all code

  along_scope : {A : Type 0} (w : Setting) (act : Act A) → Along act → Along (in_scope w act)
  along_scope w act h = record {
    along = λ s. (along_then act (λ a. leave_to w (length s.locals) >> pure a) h
        (λ a. along_then (leave_to w (length s.locals)) (λ _. pure a) (along_leave w (length s.locals)) (λ _. along_pure a))).along s;
  }

  along_everywhere : (w : Setting) (known : Bytes → Bool) → Everywhere w known (λ A act. Along act)
  unfolding ask_local
  along_everywhere w known = record {
    gives = λ A a. along_pure a;
    stops = λ A e. along_stop e;
    follows = λ A B act f. along_then act f;
    uses = λ name _. along_use (stuck w) name;
    lends = λ name _. along_lend (stuck w) name;
    asks = λ of name _. along_asked (stuck w) _;
    binds = λ name v _. along_bind name v;
    declares = along_declare;
    frees = along_free w;
    releases = along_release w;
    deallocates = deallocates w (λ A act. Along act) (along_acts w);
    takes = λ name v _. record { along = λ s. (takes_bytes w (λ A act. Along act) (along_acts w) (value_of (local_named name s.locals)) v).along s };
    lifts = lifts w (λ A act. Along act) (along_acts w);
    loads = loads_word w (λ A act. Along act) (along_acts w);
    loads_small = loads_number w (λ A act. Along act) (along_acts w);
    stores = stores_word w (λ A act. Along act) (along_acts w);
    stores_small = stores_number w (λ A act. Along act) (along_acts w);
    places = along_place w;
    static = along_static w;
    calls = λ name vs _. along_import w name vs;
    writes = λ name v _. along_write (stuck w) name v;
    scopes = λ A act. along_scope w act;
  }

  along_eval : (w : Setting) (e : Expr) → Along (eval w e)
  along_eval w e = walks_expr w all_known (λ A act. Along act) (along_everywhere w all_known) e (known_expr all_known (λ name. refl) e)

  along_stmts : (w : Setting) (stmts : List Stmt) → Along (run_stmts w stmts)
  along_stmts w stmts = walks_stmts w all_known (λ A act. Along act) (along_everywhere w all_known) stmts (known_stmts all_known (λ name. refl) stmts)

  along_code : (w : Setting) (b : Code) → Along (run_block w b)
  along_code w b = walks_block w all_known (λ A act. Along act) (along_everywhere w all_known) b (known_block all_known (λ name. refl) b)

  -- the whole run of a wrapper

  along_give : {A : Type 0} (w : Setting) (o : Option A) → Along (give_and_leave w o)
  along_give w o = along_then (or_stop (stuck w) o) (λ r. leave_to w 0 >> pure r) (along_or_stop (stuck w) o) (λ r. along_then (leave_to w 0) (λ _. pure r) (along_leave w 0) (λ _. along_pure r))

  pub along_fn : (w : Setting) (f : FnItem) → Along (run_fn w f)
  along_fn w f = along_then (run_block w f.body) (answer_and_leave w f.result) (along_code w f.body) (λ v. along_give w (answer_in w.items f.result v))

  along_left : (w : Setting) (ty : TypeExpr) (a : Answer) → Fits a → Along (method_answer w ty a)
  along_left w ty (answer.Value v heap) fits =
      record {
        along = λ s. m.follow s (record s { heap = heap }) _ (m.left s v heap fits)
            (m.follow (record s { heap = heap }) (record s { heap = heap; taken = taken_by (listed v) }) _ (m.same (record s { heap = heap }) (record s { heap = heap; taken = taken_by (listed v) }) refl refl refl)
            ((along_or_stop (stuck w) (returned_of w.items ty v)).along (record s { heap = heap; taken = taken_by (listed v) })));
      }
  along_left w ty (answer.Words _ _ _) fits = along_stop (stuck w)

  along_value : (w : Setting) → Fits w.answer → (ty : TypeExpr) → Along (take_value w ty)
  unfolding take_value
  along_value w fits ty = along_left w ty w.answer fits

  shown_method : (w : Setting) (bound name : Bytes) (s : State) (vs : List Val) → ShowsHeap s.heap (method_call w.items bound name s.heap vs)
  unfolding method_call
  shown_method w bound name s vs = by_function (method_named w.items bound name)
    where
      by_values : (f : TraitFn) (o : Option (List RustValue)) → ShowsHeap s.heap (option_map (λ values. (method_point bound name s.heap values, f.result)) o)
      by_values f None = tt
      by_values f (Some values) = refl

      by_function : (o : Option TraitFn) → ShowsHeap s.heap (option_and_then (λ f. option_map (λ values. (method_point bound name s.heap values, f.result)) (values_of w.items f.params vs)) o)
      by_function None = tt
      by_function (Some f) = by_values f (values_of w.items f.params vs)

  along_method : (w : Setting) → Fits w.answer → (bound name : Bytes) (vs : List Val) → Along (call_method w bound name vs)
  along_method w fits bound name vs =
      record { along = λ s. along_shown (stuck w) (take_value w) (along_value w fits) s (method_call w.items bound name s.heap vs) (shown_method w bound name s vs) }

  along_call : (w : Setting) → Fits w.answer → (bound : Bytes) (c : CallBlock) → Along (run_call w bound c)
  along_call w fits bound c =
      record {
        along = λ s. (along_then (call_inside w bound c) (λ v. leave_to w (length s.locals) >> pure v)
            (along_then (run_stmts w c.stmts) (λ _. call_with w bound c) (along_stmts w c.stmts)
            (λ _. along_then (all (map (eval w) c.arguments)) (call_method w bound c.method) (along_arguments c.arguments) (along_method w fits bound c.method)))
            (λ v. along_then (leave_to w (length s.locals)) (λ _. pure v) (along_leave w (length s.locals)) (λ _. along_pure v))).along s;
      }
    where
      along_arguments : (es : List Expr) → Along (all (map (eval w) es))
      along_arguments [] = along_pure []
      along_arguments (e ∷ es) =
          along_then (eval w e) (λ v. all (map (eval w) es) >>= (λ vs. pure (v ∷ vs))) (along_eval w e)
          (λ v. along_then (all (map (eval w) es)) (λ vs. pure (v ∷ vs)) (along_arguments es) (λ vs. along_pure (v ∷ vs)))

  along_result : (w : Setting) (result : Option Bytes) (v : Val) → Along (keep_result w result v)
  along_result w None v = along_drop w v
  along_result w (Some name) v = along_bind name v

  along_words : (w : Setting) (ty : Option WasmType) (b : Code) → Along (run_to_words w ty b)
  along_words w ty b = along_then (run_block w b) (λ v. give_and_leave w (core_answer ty v)) (along_code w b) (λ v. along_give w (core_answer ty v))

  along_expected : (e : Stop) (params : List CoreParam) (words : List Word) → Along (expect_words e params words)
  along_expected e params words = record { along = λ s. go s (are_words_of params words) }
    where
      go : (s : State) (b : Bool) → R s (state_of {A = Unit {0}} (cond b (Done tt s) (Stopped e s)))
      go s true = m.same s s refl refl refl
      go s false = m.same s s refl refl refl

  pub along_export : (w : Setting) → Fits w.answer → (e : ExportFn) (words : List Word) → Along (run_export_fn w e words)
  along_export w fits e words =
      along_then (expect_words (stuck w) e.params words >> run_call w e.bound e.call >>= keep_result w e.call.result) (λ _. run_to_words w e.result e.rest)
      (along_then (expect_words (stuck w) e.params words >> run_call w e.bound e.call) (keep_result w e.call.result)
      (along_then (expect_words (stuck w) e.params words) (λ _. run_call w e.bound e.call) (along_expected (stuck w) e.params words) (λ _. along_call w fits e.bound e.call))
      (along_result w e.call.result))
      (λ _. along_words w e.result e.rest)

  pub along_post_return : (w : Setting) (p : PostReturnFn) (words : List Word) → Along (run_post_return_fn w p words)
  along_post_return w p words =
      along_then (expect_words (stuck w) p.params words) (λ _. run_to_words w None p.body) (along_expected (stuck w) p.params words) (λ _. along_words w None p.body)
