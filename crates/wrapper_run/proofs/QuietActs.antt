-- An act of each kind makes no call: those on locals, on memory, of an answer, and the end of a scope.
use Rattle.std.proofs.Common.{◌≡◌, ℕ, suc, List, [], ◌∷◌, drop, take, length, Option, None, Some, refl, ◌∙◌}
use Rattle.std.specs.Prelude.{option_and_then}
use Rattle.std.specs.Option.{option_map}
use Rattle.wit_model.specs.Bytes.{Bytes}
use Rattle.wit_model.specs.declared.wasm_type.WasmType.{WasmType}
use Rattle.rust_tree.specs.declared.stmt.ImportDecl.{ImportDecl}
use Rattle.rust_tree.specs.declared.type_expr.TypeExpr.{TypeExpr}
use Rattle.wrapper_data.specs.Answered.{answered}
use Rattle.wrapper_data.specs.declared.answer.Answer.{Answer}
use Rattle.wrapper_data.specs.declared.answer.Answer.TheVariants as answer
use Rattle.wrapper_data.specs.declared.block.Block.{Block}
use Rattle.wrapper_data.specs.declared.run.CallPoint.{CallPoint}
use Rattle.wrapper_data.specs.declared.run.Stop.{Stop}
use Rattle.wrapper_values.specs.declared.owning.View.{View}
use Rattle.wrapper_values.specs.declared.state.Local.{Local}
use Rattle.wrapper_values.specs.declared.state.State.{State}
use Rattle.wrapper_values.specs.declared.state.Val.{Val}
use Rattle.wrapper_values.specs.declared.state.Val.TheVariants as val
use Rattle.wrapper_values.specs.Act.{Act, Outcome, Done, Stopped, ◌>>=◌, ◌>>◌, all, and_then, or_stop, pure, stop}
use Rattle.wrapper_values.specs.Locals.{ask_local, bind, declare, lend_local, give_local, local_named, slot_with, usable, use_local, used, value_of, write_slot}
use Rattle.wrapper_values.specs.Owning.{lent, owned, owned_in, view}
use Rattle.wrapper_values.specs.Setting.{Setting, stuck}
use Rattle.wrapper_values.specs.Typed.{answer_in}
use Rattle.wrapper_run.specs.Blocks.{drop_local, drop_locals, drop_value, free, free_all, free_found, in_scope, keep_blocks, keep_locals, leave_to, owned_block, owned_bytes, release, release_found, removed, turn, untaken}
use Rattle.wrapper_run.specs.Growth.{state_of}
use Rattle.wrapper_run.specs.Inward.{CallsNothing}
use Rattle.wrapper_run.specs.Memory.{loaded, loaded_small, stored, stored_small}
use Rattle.wrapper_run.specs.Run.{answer_act, answer_and_leave, give_and_leave, result_of, take_answer}
use Rattle.wrapper_run.proofs.Acts.{Acts}

abbrev pub calls_at : {A : Type 0} → Outcome A → List CallPoint
calls_at o = (state_of o).calls

-- 1. Acts without a step, and one after the other

pub quiet_pure : {A : Type 0} (a : A) → CallsNothing (pure a)
quiet_pure a = record { quiet = λ s. refl }

pub quiet_stop : {A : Type 0} (e : Stop) → CallsNothing (stop {A = A} e)
quiet_stop e = record { quiet = λ s. refl }

pub quiet_or_stop : {A : Type 0} (e : Stop) (o : Option A) → CallsNothing (or_stop e o)
quiet_or_stop e None = quiet_stop e
quiet_or_stop e (Some a) = quiet_pure a

pub quiet_then : {A B : Type 0} (act : Act A) (f : A → Act B) → CallsNothing act → ((a : A) → CallsNothing (f a)) → CallsNothing (act >>= f)
quiet_then {A = A} {B = B} act f h k = record { quiet = λ s. go s (act s) (h.quiet s) }
  where
    go : (s : State) (o : Outcome A) → calls_at o ≡ s.calls → calls_at (and_then o f) ≡ s.calls
    go s (Done a t) e = (k a).quiet t ∙ e
    go s (Stopped x t) e = e

pub quiet_cons : {A : Type 0} (act : Act A) (acts : List (Act A)) → CallsNothing act → CallsNothing (all acts) → CallsNothing (all (act ∷ acts))
quiet_cons act acts h k = quiet_then act (λ x. all acts >>= (λ xs. pure (x ∷ xs))) h (λ x. quiet_then (all acts) (λ xs. pure (x ∷ xs)) k (λ xs. quiet_pure (x ∷ xs)))

-- 2. Locals

quiet_used : (name : Bytes) (v : Val) (addresses : List ℕ) → CallsNothing (used name v addresses)
quiet_used name v [] = quiet_pure v
quiet_used name v (a ∷ more) = record { quiet = λ s. refl }

pub quiet_use : (e : Stop) (name : Bytes) → CallsNothing (use_local e name)
unfolding use_local
quiet_use e name =
    record { quiet = λ s. (quiet_then (or_stop e (option_and_then usable (value_of (local_named name s.locals)))) (λ v. used name v (owned v)) (quiet_or_stop e _) (λ v. quiet_used name v (owned v))).quiet s }

pub quiet_lend : (e : Stop) (name : Bytes) → CallsNothing (lend_local e name)
unfolding lend_local
quiet_lend e name = record { quiet = λ s. (quiet_or_stop e (option_and_then lent (value_of (local_named name s.locals)))).quiet s }

pub quiet_ask : (e : Stop) (of : View) (name : Bytes) → CallsNothing (ask_local e of name)
unfolding ask_local
quiet_ask e of name = record { quiet = λ s. (quiet_or_stop e (option_map val.Word (option_and_then (view of) (value_of (local_named name s.locals))))).quiet s }

pub quiet_bind : (name : Bytes) (v : Val) → CallsNothing (bind name v)
unfolding bind
quiet_bind name v = record { quiet = λ s. refl }

pub quiet_write : (e : Stop) (name : Bytes) (v : Val) → CallsNothing (write_slot e name v)
unfolding write_slot
quiet_write e name v =
    record { quiet = λ s. (quiet_then (or_stop e (option_and_then (slot_with v) (value_of (local_named name s.locals)))) (give_local name) (quiet_or_stop e _) (λ x. record { quiet = λ t. refl })).quiet s }

pub quiet_declare : (d : ImportDecl) → CallsNothing (declare d)
unfolding declare
quiet_declare d = record { quiet = λ s. refl }

-- 3. Blocks that go

quiet_found : (w : Setting) (address : ℕ) (o : Option Block) → CallsNothing (free_found w address o)
quiet_found w address None = quiet_stop (stuck w)
quiet_found w address (Some b) = record { quiet = λ s. refl }

pub quiet_free : (w : Setting) (address : ℕ) → CallsNothing (free w address)
unfolding free
quiet_free w address = record { quiet = λ s. (quiet_found w address (owned_block address s)).quiet s }

pub quiet_free_all : (w : Setting) (addresses : List ℕ) → CallsNothing (free_all w addresses)
quiet_free_all w [] = quiet_pure tt
quiet_free_all w (a ∷ more) = quiet_then (free w a) (λ _. free_all w more) (quiet_free w a) (λ _. quiet_free_all w more)

pub quiet_drop : (w : Setting) (v : Val) → CallsNothing (drop_value w v)
quiet_drop w v = quiet_free_all w (owned v)

quiet_drops : (w : Setting) (locals : List Local) → CallsNothing (drop_locals w locals)
quiet_drops w [] = quiet_pure tt
quiet_drops w (l ∷ locals) = quiet_then (drop_locals w locals) (λ _. drop_local w l.value) (quiet_drops w locals) (λ _. quiet_free_all w (owned_in l.value))

pub quiet_leave : (w : Setting) (kept : ℕ) → CallsNothing (leave_to w kept)
unfolding leave_to
quiet_leave w kept = record { quiet = λ s. go s (drop_locals w (drop kept s.locals) (record s { locals = [] })) ((quiet_drops w (drop kept s.locals)).quiet (record s { locals = [] })) }
  where
    go : (s : State) (o : Outcome (Unit {0})) → calls_at o ≡ s.calls → calls_at (and_then o (λ _. keep_locals (take kept s.locals))) ≡ s.calls
    go s (Done u t) e = e
    go s (Stopped x t) e = e

quiet_released : (w : Setting) (address : ℕ) (o : Option Block) → CallsNothing (release_found w address o)
quiet_released w address None = quiet_stop (stuck w)
quiet_released w address (Some b) = record { quiet = λ s. refl }

pub quiet_release : (w : Setting) (address : ℕ) → CallsNothing (release w address)
unfolding release
quiet_release w address = record { quiet = λ s. (quiet_released w address (owned_block address s)).quiet s }

-- 4. What looks at the memory or changes it

quiet_kept : (w : Setting) (o : Option (List Block)) → CallsNothing (or_stop (stuck w) o >>= keep_blocks)
quiet_kept w None = quiet_stop (stuck w)
quiet_kept w (Some blocks) = record { quiet = λ s. refl }

quiet_removed : (e : Stop) (address size : ℕ) (o : Option Block) → CallsNothing (or_stop e o >> turn (removed address size))
quiet_removed e address size None = quiet_stop e
quiet_removed e address size (Some b) = record { quiet = λ s. refl }

pub quiet_acts : (w : Setting) → Acts w (λ A act. CallsNothing act)
quiet_acts w = record {
  gives = λ A a. quiet_pure a;
  stops = λ A e. quiet_stop e;
  follows = λ A B act f. quiet_then act f;
  finds = λ e address n. record { quiet = λ s. (quiet_or_stop e (untaken address (suc n) s)).quiet s };
  tells = λ e address size. record { quiet = λ s. (quiet_or_stop e (owned_bytes address size s)).quiet s };
  owns = λ address. record { quiet = λ s. refl };
  removes = λ e address n. record { quiet = λ s. (quiet_removed e address (suc n) (untaken address (suc n) s)).quiet s };
  loads = λ e address ty. record { quiet = λ s. (quiet_or_stop e (option_map val.Word (loaded ty address s.heap.blocks))).quiet s };
  loads_small = λ e address ty. record { quiet = λ s. (quiet_or_stop e (option_map val.Word (loaded_small ty address s.heap.blocks))).quiet s };
  stores = λ address ty v x is. record { quiet = λ s. (quiet_kept w (stored ty address x s.heap.blocks)).quiet s };
  stores_small = λ address ty z. record { quiet = λ s. (quiet_kept w (stored_small ty address z s.heap.blocks)).quiet s };
}

-- 5. The end of a scope, and answers

pub quiet_scope : {A : Type 0} (w : Setting) (act : Act A) → CallsNothing act → CallsNothing (in_scope w act)
quiet_scope w act h = record {
  quiet = λ s. (quiet_then act (λ a. leave_to w (length s.locals) >> pure a) h
      (λ a. quiet_then (leave_to w (length s.locals)) (λ _. pure a) (quiet_leave w (length s.locals)) (λ _. quiet_pure a))).quiet s;
}

pub quiet_answer : (w : Setting) (ty : Option WasmType) → CallsNothing (take_answer w ty)
unfolding take_answer
quiet_answer w ty = go w.answer
  where
    go : (a : Answer) → CallsNothing (answer_act w ty a)
    go (answer.Words r writes blocks) = record { quiet = λ s. (quiet_or_stop (stuck w) (result_of ty r)).quiet (record s { heap = answered blocks writes s.heap }) }
    go (answer.Value v h) = record { quiet = λ s. refl }

pub quiet_give : {A : Type 0} (w : Setting) (o : Option A) → CallsNothing (give_and_leave w o)
quiet_give w o =
    quiet_then (or_stop (stuck w) o) (λ r. leave_to w 0 >> pure r) (quiet_or_stop (stuck w) o)
    (λ r. quiet_then (leave_to w 0) (λ _. pure r) (quiet_leave w 0) (λ _. quiet_pure r))

-- the answer of a body, and the end of its scope
pub quiet_answers : (w : Setting) (ty : TypeExpr) (v : Val) → CallsNothing (answer_and_leave w ty v)
quiet_answers w ty v = quiet_give w (answer_in w.items ty v)
