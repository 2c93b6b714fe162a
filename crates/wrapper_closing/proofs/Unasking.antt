-- Acts that make requests only where they place the static area.
use Rattle.std.proofs.Common.{◌≡◌, ◌⊎◌, inl, inr, ℕ, suc, ◌||◌, Bool, true, false, cond, List, [], ◌∷◌, ◌++◌, drop, take, Option, None, Some, refl, sym, ap, ◌∙◌}
use Rattle.std.specs.Prelude.{nat_eq, option_and_then}
use Rattle.std.specs.Option.{option_map}
use Rattle.wit_model.specs.Bytes.{Bytes}
use Rattle.wit_model.specs.declared.wasm_type.WasmType.{WasmType}
use Rattle.rust_tree.specs.declared.area.StaticArea.{StaticArea}
use Rattle.rust_tree.specs.declared.stmt.ImportDecl.{ImportDecl}
use Rattle.rust_tree.specs.declared.type_expr.TypeExpr.{TypeExpr}
use Rattle.wrapper_data.specs.Answered.{answered}
use Rattle.wrapper_data.specs.declared.answer.Answer.{Answer}
use Rattle.wrapper_data.specs.declared.answer.Answer.TheVariants as answer
use Rattle.wrapper_data.specs.declared.block.Block.{Block}
use Rattle.wrapper_data.specs.declared.choice.Choice.{Choice}
use Rattle.wrapper_data.specs.declared.choice.Choice.TheVariants as choice
use Rattle.wrapper_data.specs.declared.choice.Request.{Request}
use Rattle.wrapper_data.specs.declared.run.CallPoint.{CallPoint}
use Rattle.wrapper_data.specs.declared.run.Stop.{Stop}
use Rattle.wrapper_data.specs.declared.run.Stop.TheVariants as stop_of
use Rattle.wrapper_data.specs.declared.word.Word.TheVariants as word
use Rattle.wrapper_values.specs.declared.owning.View.{View}
use Rattle.wrapper_values.specs.declared.state.Local.{Local}
use Rattle.wrapper_values.specs.declared.state.State.{State}
use Rattle.wrapper_values.specs.declared.state.Val.{Val}
use Rattle.wrapper_values.specs.declared.state.Val.TheVariants as val
use Rattle.wrapper_values.specs.Act.{Act, Outcome, Done, Stopped, ◌>>=◌, ◌>>◌, and_then, or_stop, pure, stop}
use Rattle.wrapper_values.specs.Locals.{ask_local, bind, declare, lend_local, local_named, usable, use_local, used, value_of, give_local, slot_with, write_slot}
use Rattle.wrapper_values.specs.Owning.{buffer_of, lent, listed, owned, owned_in, taken_by, view}
use Rattle.wrapper_values.specs.Setting.{Setting, stuck}
use Rattle.wrapper_run.specs.Blocks.{box_buffer, boxed, drop_local, drop_locals, drop_value, free, free_all, free_found, keep_blocks, keep_locals, leave_to, owned_block, owned_bytes, release, release_all, release_found, removed, turn, untaken}
use Rattle.wrapper_run.specs.ExportRun.{call_method, method_answer, method_call, returned_of, take_value}
use Rattle.wrapper_run.specs.Growth.{state_of}
use Rattle.wrapper_run.specs.Memory.{loaded, loaded_small, stored, stored_small}
use Rattle.wrapper_run.specs.Places.{area_in, is_fitting, place_area, place_at, place_static, request_of, static_place, static_pointer, with_area}
use Rattle.wrapper_run.specs.Run.{answer_act, call_import, call_point, record_call, result_of, take_answer, take_bytes}
use Rattle.wrapper_run.proofs.Acts.{Acts, takes_bytes}

-- no request was made, unless a choice stopped the act
abbrev pub Silent : {A : Type 0} → State → Outcome A → Type 0
Silent s (Done a t) = t.requests ≡ s.requests
Silent s (Stopped e t) = (t.requests ≡ s.requests) ⊎ (e ≡ stop_of.BadChoice)

-- where the static area is not placed at the end, it was not placed before, and there was no request
pub record Unasked {A : Type 0} (s : State) (o : Outcome A) : Type 0 where
  pub unasked : (state_of o).place ≡ None → Silent s o × (s.place ≡ None)

pub record Unasking {A : Type 0} (act : Act A) : Type 0 where
  pub unasking : (s : State) → Unasked s (act s)

-- of an act that is done
pub unasked_done : {A : Type 0} (act : Act A) → Unasking act → (s t : State) (a : A) → act s ≡ Done a t → t.place ≡ None → (t.requests ≡ s.requests) × (s.place ≡ None)
unasked_done {A = A} act h s t a e none = go (act s) e (h.unasking s)
  where
    go : (o : Outcome A) → o ≡ Done a t → Unasked s o → (t.requests ≡ s.requests) × (s.place ≡ None)
    go (Done b u) is l = let same : u ≡ t = cc in let two = l.unasked (ap (λ v. v.place) same ∙ none) in (ap (λ v. v.requests) (sym same) ∙ two.0, two.1)
    go (Stopped x u) is l = absurd (cc)

-- states

same : {A : Type 0} (s : State) (o : Outcome A) → (state_of o).place ≡ s.place → (state_of o).requests ≡ s.requests → Unasked s o
same s (Done a t) p r = record { unasked = λ none. (r, sym p ∙ none) }
same s (Stopped e t) p r = record { unasked = λ none. (inl r, sym p ∙ none) }

follow : {A : Type 0} (s t : State) (o : Outcome A) → (t.place ≡ None → (t.requests ≡ s.requests) × (s.place ≡ None)) → Unasked t o → Unasked s o
follow {A = A} s t o l m = record { unasked = λ none. (silent o (l (m.unasked none).1).0 (m.unasked none).0, (l (m.unasked none).1).1) }
  where
    silent : (o : Outcome A) → t.requests ≡ s.requests → Silent t o → Silent s o
    silent (Done a u) r e = e ∙ r
    silent (Stopped x u) r (inl e) = inl (e ∙ r)
    silent (Stopped x u) r (inr bad) = inr bad

-- from a state that differs elsewhere
beside : {A : Type 0} (s t : State) (o : Outcome A) → t.place ≡ s.place → t.requests ≡ s.requests → Unasked t o → Unasked s o
beside s t o p r m = follow s t o (λ none. (r, sym p ∙ none)) m

-- acts

pub unasking_pure : {A : Type 0} (a : A) → Unasking (pure a)
unasking_pure a = record { unasking = λ s. same s (Done a s) refl refl }

pub unasking_stop : {A : Type 0} (e : Stop) → Unasking (stop {A = A} e)
unasking_stop e = record { unasking = λ s. same s (Stopped e s) refl refl }

pub unasking_or_stop : {A : Type 0} (e : Stop) (o : Option A) → Unasking (or_stop e o)
unasking_or_stop e None = unasking_stop e
unasking_or_stop e (Some a) = unasking_pure a

pub unasking_then : {A B : Type 0} (act : Act A) (f : A → Act B) → Unasking act → ((a : A) → Unasking (f a)) → Unasking (act >>= f)
unasking_then {A = A} {B = B} act f h k = record { unasking = λ s. go s (act s) (h.unasking s) }
  where
    go : (s : State) (o : Outcome A) → Unasked s o → Unasked s (and_then o f)
    go s (Done a t) l = follow s t (f a t) l.unasked ((k a).unasking t)
    go s (Stopped x t) l = record { unasked = l.unasked }

-- what is asked of a state
unasking_asked : {A : Type 0} (e : Stop) (o : State → Option A) → Unasking (λ s. or_stop e (o s) s)
unasking_asked e o = record { unasking = λ s. (unasking_or_stop e (o s)).unasking s }

unasking_if : {A : Type 0} (b : Bool) (p q : Act A) → Unasking p → Unasking q → Unasking (cond b p q)
unasking_if true p q h k = h
unasking_if false p q h k = k

-- locals

unasking_used : (name : Bytes) (v : Val) (addresses : List ℕ) → Unasking (used name v addresses)
unasking_used name v [] = unasking_pure v
unasking_used name v (a ∷ more) = record { unasking = λ s. same s _ refl refl }

pub unasking_use : (e : Stop) (name : Bytes) → Unasking (use_local e name)
unfolding use_local
unasking_use e name =
    record { unasking = λ s. (unasking_then (or_stop e (option_and_then usable (value_of (local_named name s.locals)))) (λ v. used name v (owned v)) (unasking_or_stop e _) (λ v. unasking_used name v (owned v))).unasking s }

pub unasking_lend : (e : Stop) (name : Bytes) → Unasking (lend_local e name)
unfolding lend_local
unasking_lend e name = unasking_asked e (λ s. option_and_then lent (value_of (local_named name s.locals)))

pub unasking_ask : (e : Stop) (of : View) (name : Bytes) → Unasking (ask_local e of name)
unfolding ask_local
unasking_ask e of name = unasking_asked e (λ s. option_map val.Word (option_and_then (view of) (value_of (local_named name s.locals))))

pub unasking_bind : (name : Bytes) (v : Val) → Unasking (bind name v)
unfolding bind
unasking_bind name v = record { unasking = λ s. same s _ refl refl }

pub unasking_write : (e : Stop) (name : Bytes) (v : Val) → Unasking (write_slot e name v)
unfolding write_slot
unasking_write e name v =
    record { unasking = λ s. (unasking_then (or_stop e (option_and_then (slot_with v) (value_of (local_named name s.locals)))) (give_local name) (unasking_or_stop e _) (λ x. record { unasking = λ s. same s _ refl refl })).unasking s }

pub unasking_declare : (d : ImportDecl) → Unasking (declare d)
unfolding declare
unasking_declare d = record { unasking = λ s. same s _ refl refl }

-- blocks that go

unasking_found : (w : Setting) (address : ℕ) (o : Option Block) → Unasking (free_found w address o)
unasking_found w address None = unasking_stop (stuck w)
unasking_found w address (Some b) = record { unasking = λ s. same s _ refl refl }

unasking_free : (w : Setting) (address : ℕ) → Unasking (free w address)
unfolding free
unasking_free w address = record { unasking = λ s. (unasking_found w address (owned_block address s)).unasking s }

unasking_free_all : (w : Setting) (addresses : List ℕ) → Unasking (free_all w addresses)
unasking_free_all w [] = unasking_pure tt
unasking_free_all w (a ∷ more) = unasking_then (free w a) (λ _. free_all w more) (unasking_free w a) (λ _. unasking_free_all w more)

pub unasking_drop : (w : Setting) (v : Val) → Unasking (drop_value w v)
unasking_drop w v = unasking_free_all w (owned v)

unasking_drops : (w : Setting) (locals : List Local) → Unasking (drop_locals w locals)
unasking_drops w [] = unasking_pure tt
unasking_drops w (l ∷ locals) = unasking_then (drop_locals w locals) (λ _. drop_local w l.value) (unasking_drops w locals) (λ _. unasking_free_all w (owned_in l.value))

unasking_keep : (locals : List Local) → Unasking (keep_locals locals)
unasking_keep locals = record { unasking = λ s. same s _ refl refl }

pub unasking_leave : (w : Setting) (kept : ℕ) → Unasking (leave_to w kept)
unfolding leave_to
unasking_leave w kept =
    record {
      unasking = λ s. beside s (record s { locals = [] }) _ refl refl
          ((unasking_then (drop_locals w (drop kept s.locals)) (λ _. keep_locals (take kept s.locals)) (unasking_drops w (drop kept s.locals)) (λ _. unasking_keep (take kept s.locals))).unasking (record s { locals = [] }));
    }

unasking_released : (w : Setting) (address : ℕ) (o : Option Block) → Unasking (release_found w address o)
unasking_released w address None = unasking_stop (stuck w)
unasking_released w address (Some b) = record { unasking = λ s. same s _ refl refl }

unasking_release : (w : Setting) (address : ℕ) → Unasking (release w address)
unfolding release
unasking_release w address = record { unasking = λ s. (unasking_released w address (owned_block address s)).unasking s }

pub unasking_releases : (w : Setting) (addresses : List ℕ) → Unasking (release_all w addresses)
unasking_releases w [] = unasking_pure tt
unasking_releases w (a ∷ more) = unasking_then (release w a) (λ _. release_all w more) (unasking_release w a) (λ _. unasking_releases w more)

-- what looks at the memory or changes it

unasking_kept : (w : Setting) (o : Option (List Block)) → Unasking (or_stop (stuck w) o >>= keep_blocks)
unasking_kept w None = unasking_stop (stuck w)
unasking_kept w (Some blocks) = record { unasking = λ s. same s _ refl refl }

unasking_removed : (e : Stop) (address size : ℕ) (o : Option Block) → Unasking (or_stop e o >> turn (removed address size))
unasking_removed e address size None = unasking_stop e
unasking_removed e address size (Some b) = record { unasking = λ s. same s _ refl refl }

pub unasking_acts : (w : Setting) → Acts w (λ A act. Unasking act)
unasking_acts w = record {
  gives = λ A a. unasking_pure a;
  stops = λ A e. unasking_stop e;
  follows = λ A B act f. unasking_then act f;
  finds = λ e address n. unasking_asked e (untaken address (suc n));
  tells = λ e address size. unasking_asked e (owned_bytes address size);
  owns = λ address. record { unasking = λ s. same s _ refl refl };
  removes = λ e address n. record { unasking = λ s. (unasking_removed e address (suc n) (untaken address (suc n) s)).unasking s };
  loads = λ e address ty. unasking_asked e (λ s. option_map val.Word (loaded ty address s.heap.blocks));
  loads_small = λ e address ty. unasking_asked e (λ s. option_map val.Word (loaded_small ty address s.heap.blocks));
  stores = λ address ty v x is. record { unasking = λ s. (unasking_kept w (stored ty address x s.heap.blocks)).unasking s };
  stores_small = λ address ty z. record { unasking = λ s. (unasking_kept w (stored_small ty address z s.heap.blocks)).unasking s };
}

pub unasking_take : (w : Setting) (name : Bytes) (v : Val) → Unasking (λ s. take_bytes w (value_of (local_named name s.locals)) v s)
unasking_take w name v = record { unasking = λ s. (takes_bytes w (λ A act. Unasking act) (unasking_acts w) (value_of (local_named name s.locals)) v).unasking s }

pub unasking_box : (w : Setting) (v : Val) → Unasking (boxed w v)
unfolding boxed
unasking_box w v = go (buffer_of v)
  where
    go : (o : Option (ℕ × ℕ × Bool)) → Unasking (box_buffer w v o)
    go (Some (address, size, true)) = unasking_pure v
    go _ = unasking_stop (stuck w)

-- calls

unasking_recorded : (p : CallPoint) → Unasking (record_call p)
unasking_recorded p = record { unasking = λ s. same s _ refl refl }

unasking_answer : (w : Setting) (ty : Option WasmType) → Unasking (take_answer w ty)
unfolding take_answer
unasking_answer w ty = go w.answer
  where
    go : (a : Answer) → Unasking (answer_act w ty a)
    go (answer.Words r writes blocks) =
        record { unasking = λ s. beside s (record s { heap = answered blocks writes s.heap }) _ refl refl ((unasking_or_stop (stuck w) (result_of ty r)).unasking (record s { heap = answered blocks writes s.heap })) }
    go (answer.Value v h) = unasking_stop (stuck w)

-- a call that is recorded, and then answered
unasking_called : {B : Type 0} (e : Stop) (answer_to : B → Act Val) (o : Option (CallPoint × B)) → ((b : B) → Unasking (answer_to b)) → Unasking (or_stop e o >>= (λ p. record_call p.0 >> answer_to p.1))
unasking_called e answer_to o h =
    unasking_then (or_stop e o) (λ p. record_call p.0 >> answer_to p.1) (unasking_or_stop e o) (λ p. unasking_then (record_call p.0) (λ _. answer_to p.1) (unasking_recorded p.0) (λ _. h p.1))

pub unasking_import : (w : Setting) (name : Bytes) (vs : List Val) → Unasking (call_import w name vs)
unasking_import w name vs = record { unasking = λ s. (unasking_called (stuck w) (take_answer w) (call_point s name vs) (unasking_answer w)).unasking s }

unasking_value : (w : Setting) (ty : TypeExpr) → Unasking (take_value w ty)
unfolding take_value
unasking_value w ty = go w.answer
  where
    go : (a : Answer) → Unasking (method_answer w ty a)
    go (answer.Value v heap) =
        record { unasking = λ s. beside s (record s { heap = heap; taken = taken_by (listed v) }) _ refl refl ((unasking_or_stop (stuck w) (returned_of w.items ty v)).unasking (record s { heap = heap; taken = taken_by (listed v) })) }
    go (answer.Words _ _ _) = unasking_stop (stuck w)

pub unasking_method : (w : Setting) (bound name : Bytes) (vs : List Val) → Unasking (call_method w bound name vs)
unasking_method w bound name vs = record { unasking = λ s. (unasking_called (stuck w) (take_value w) (method_call w.items bound name s.heap vs) (unasking_value w)).unasking s }

-- the static area

-- an area that is not placed for want of a choice, or since it has no meaning
abbrev Unplaced : State → Outcome (ℕ × ℕ) → Type 0
Unplaced s (Done p t) = Unit {0}
Unplaced s (Stopped e t) = (t.place ≡ s.place) × ((t.requests ≡ s.requests) ⊎ (e ≡ stop_of.BadChoice))

unplaced_at : (r : Request) (choices : List Choice) (s t : State) → t.place ≡ s.place → Unplaced s (place_at r choices t)
unplaced_at r [] s t p = (p, inr refl)
unplaced_at r (choice.Refuse ∷ choices) s t p = (p, inr refl)
unplaced_at r (choice.At address ∷ choices) s t p = go (is_fitting address r t.heap.blocks)
  where
    go : (b : Bool) → Unplaced s (cond b (Done (address, r.size) (record (with_area address r t) { choices = choices })) (Stopped stop_of.BadChoice t))
    go true = tt
    go false = (p, inr refl)

unplaced : (w : Setting) (r : Request) (s : State) → Unplaced s (place_area w r s)
unfolding place_area
unplaced w r s = go (nat_eq r.size 0 || nat_eq r.align 0)
  where
    go : (b : Bool) → Unplaced s (cond b (Stopped (stuck w) s) (place_at r s.choices (record s { requests = s.requests ++ r ∷ [] })))
    go true = (refl, inl refl)
    go false = unplaced_at r s.choices s (record s { requests = s.requests ++ r ∷ [] }) refl

unasking_place_static : (w : Setting) (a : Option StaticArea) → Unasking (place_static w a)
unasking_place_static w None = unasking_stop (stuck w)
unasking_place_static w (Some a) = record { unasking = λ s. go s (place_area w (request_of a.size a.align) s) (unplaced w (request_of a.size a.align) s) }
  where
    go : (s : State) (o : Outcome (ℕ × ℕ)) → Unplaced s o → Unasked s (and_then o (λ p. λ t. Done p.0 (record t { place = Some p.0 })))
    go s (Done p t) h = record { unasked = λ none. absurd (cc) }
    go s (Stopped e t) h = record { unasked = λ none. (h.1, sym h.0 ∙ none) }

pub unasking_static : (w : Setting) → Unasking (static_pointer w)
unfolding static_pointer
unasking_static w = record { unasking = λ s. (unasking_then (static_place w s.place) (λ address. pure (val.Word (word.Pointer address))) (go s.place) (λ address. unasking_pure (val.Word (word.Pointer address)))).unasking s }
  where
    go : (place : Option ℕ) → Unasking (static_place w place)
    go None = unasking_place_static w (area_in w.items)
    go (Some address) = unasking_pure address
