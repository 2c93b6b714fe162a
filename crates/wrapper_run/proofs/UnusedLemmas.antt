-- Code ends as it does without the locals that it does not name, and leaves these as they are: each act does, at known names.
use Rattle.std.proofs.Common.{◌≡◌, ℕ, zero, suc, ◌||◌, Bool, true, false, not, cond, List, [], ◌∷◌, ◌++◌, Option, None, Some, refl, sym, ap, ◌∙◌, append-nil}
use Rattle.std.specs.Prelude.{nat_eq, option_and_then}
use Rattle.std.specs.List.{list_any}
use Rattle.std.specs.Option.{option_map, option_or}
use Rattle.std.specs.Str.{bytes_eq}
use Rattle.std.proofs.lemmas.List.Elements.{filter-append}
use Rattle.std.proofs.lemmas.Slice.Eq.{bytes_eq-Decides}
use Rattle.wit_model.specs.Bytes.{Bytes}
use Rattle.wit_model.specs.declared.wasm_type.WasmType.{WasmType}
use Rattle.rust_tree.specs.declared.area.StaticArea.{StaticArea}
use Rattle.rust_tree.specs.declared.stmt.ImportDecl.{ImportDecl}
use Rattle.wrapper_data.specs.Answered.{answered}
use Rattle.wrapper_data.specs.declared.answer.Answer.{Answer}
use Rattle.wrapper_data.specs.declared.answer.Answer.TheVariants as answer
use Rattle.wrapper_data.specs.declared.block.Block.{Block}
use Rattle.wrapper_data.specs.declared.choice.Choice.{Choice}
use Rattle.wrapper_data.specs.declared.choice.Choice.TheVariants as choice
use Rattle.wrapper_data.specs.declared.choice.Request.{Request}
use Rattle.wrapper_data.specs.declared.run.CallPoint.{CallPoint}
use Rattle.wrapper_data.specs.declared.run.Stop.{Stop}
use Rattle.wrapper_data.specs.declared.run.Stop.TheVariants as stop_of
use Rattle.wrapper_data.specs.declared.word.Word.TheVariants as word
use Rattle.wrapper_values.specs.declared.owning.View.{View}
use Rattle.wrapper_values.specs.declared.state.Local.{Local}
use Rattle.wrapper_values.specs.declared.state.State.{State}
use Rattle.wrapper_values.specs.declared.state.Val.{Val}
use Rattle.wrapper_values.specs.declared.state.Val.TheVariants as val
use Rattle.wrapper_values.specs.Act.{Act, Outcome, Done, Stopped, ◌>>=◌, ◌>>◌, and_then, or_stop, pure, stop}
use Rattle.wrapper_run.specs.Blocks.{free, free_found, keep_blocks, look, owned_block, owned_bytes, release, release_found, removed, turn, untaken}
use Rattle.wrapper_run.specs.Growth.{state_of}
use Rattle.wrapper_values.specs.Locals.{ask_local, bind, changed, declare, give_local, holding, import_named, lend_local, local_named, slot_with, usable, use_local, used, value_of, write_slot}
use Rattle.wrapper_run.specs.Memory.{loaded, loaded_small, stored, stored_small}
use Rattle.wrapper_values.specs.Owning.{lent, owned, view}
use Rattle.wrapper_run.specs.Places.{area_in, is_fitting, place_area, place_at, place_static, request_of, static_place, static_pointer, with_area}
use Rattle.wrapper_run.specs.Run.{answer_act, call_import, call_point, called_with, record_call, result_of, take_answer, take_bytes, unhidden}
use Rattle.wrapper_values.specs.Setting.{Setting, stuck}
use Rattle.wrapper_values.proofs.ChangedLemmas.{changed_none}
use Rattle.wrapper_run.specs.UnusedLocals.{known_locals, narrowed, narrowed_end, other_locals}
use Rattle.wrapper_run.proofs.Acts.{Acts, takes_bytes}

-- however it ends, the act ends as it does without the others, and leaves these as they are
pub record IgnoresOthers {A : Type 0} (known : Bytes → Bool) (act : Act A) : Type 0 where
  pub same : (s : State) → act (narrowed known s) ≡ narrowed_end known (act s)
  pub kept : (s : State) → other_locals known (state_of (act s)).locals ≡ other_locals known s.locals

-- acts that do not look at locals, and change none

abbrev with_locals : {A : Type 0} → List Local → Outcome A → Outcome A
with_locals ls (Done a s) = Done a (record s { locals = ls })
with_locals ls (Stopped e s) = Stopped e (record s { locals = ls })

pub record Aside {A : Type 0} (act : Act A) : Type 0 where
  pub aside : (s : State) (ls : List Local) → act (record s { locals = ls }) ≡ with_locals ls (act s)

locals-set : {A : Type 0} (ls : List Local) (o : Outcome A) → (state_of (with_locals ls o)).locals ≡ ls
locals-set ls (Done a s) = refl
locals-set ls (Stopped e s) = refl

narrowed-set : {A : Type 0} (known : Bytes → Bool) (ls : List Local) (o : Outcome A) → (state_of o).locals ≡ ls → with_locals (known_locals known ls) o ≡ narrowed_end known o
narrowed-set known ls (Done a s) e = ap (λ ls. Done a (record s { locals = known_locals known ls })) (sym e)
narrowed-set known ls (Stopped x s) e = ap (λ ls. Stopped x (record s { locals = known_locals known ls })) (sym e)

pub unchanged : {A : Type 0} (act : Act A) → Aside act → (s : State) → (state_of (act s)).locals ≡ s.locals
unchanged act h s = ap (λ o. (state_of o).locals) (h.aside s s.locals) ∙ locals-set s.locals (act s)

pub ignores_aside : {A : Type 0} (known : Bytes → Bool) (act : Act A) → Aside act → IgnoresOthers known act
ignores_aside known act h = record {
  same = λ s. h.aside s (known_locals known s.locals) ∙ narrowed-set known s.locals (act s) (unchanged act h s);
  kept = λ s. ap (other_locals known) (unchanged act h s);
}

pub aside_pure : {A : Type 0} (a : A) → Aside (pure a)
aside_pure a = record { aside = λ s ls. refl }

pub aside_stop : {A : Type 0} (e : Stop) → Aside (stop {A = A} e)
aside_stop e = record { aside = λ s ls. refl }

pub aside_or_stop : {A : Type 0} (e : Stop) (o : Option A) → Aside (or_stop e o)
aside_or_stop e None = aside_stop e
aside_or_stop e (Some a) = aside_pure a

pub aside_then : {A B : Type 0} (act : Act A) (f : A → Act B) → Aside act → ((a : A) → Aside (f a)) → Aside (act >>= f)
aside_then {A = A} {B = B} act f h k = record { aside = λ s ls. ap (λ o. and_then o f) (h.aside s ls) ∙ go ls (act s) }
  where
    go : (ls : List Local) (o : Outcome A) → and_then (with_locals ls o) f ≡ with_locals ls (and_then o f)
    go ls (Done a t) = (k a).aside t ls
    go ls (Stopped e t) = refl

aside_if : {A : Type 0} (b : Bool) (p q : Act A) → Aside p → Aside q → Aside (cond b p q)
aside_if true p q h k = h
aside_if false p q h k = k

pub aside_declare : (d : ImportDecl) → Aside (declare d)
unfolding declare
aside_declare d = record { aside = λ s ls. refl }

-- blocks

aside_found : (w : Setting) (address : ℕ) (o : Option Block) → Aside (free_found w address o)
aside_found w address None = aside_stop (stuck w)
aside_found w address (Some b) = record { aside = λ s ls. refl }

pub aside_free : (w : Setting) (address : ℕ) → Aside (free w address)
unfolding free
aside_free w address = record { aside = λ s ls. (aside_found w address (owned_block address s)).aside s ls }

aside_released : (w : Setting) (address : ℕ) (o : Option Block) → Aside (release_found w address o)
aside_released w address None = aside_stop (stuck w)
aside_released w address (Some b) = record { aside = λ s ls. refl }

pub aside_release : (w : Setting) (address : ℕ) → Aside (release w address)
unfolding release
aside_release w address = record { aside = λ s ls. (aside_released w address (owned_block address s)).aside s ls }

-- what looks at the memory or changes it

aside_kept : (w : Setting) (o : Option (List Block)) → Aside (or_stop (stuck w) o >>= keep_blocks)
aside_kept w None = aside_stop (stuck w)
aside_kept w (Some blocks) = record { aside = λ s ls. refl }

aside_removed : (e : Stop) (address size : ℕ) (o : Option Block) → Aside (or_stop e o >> turn (removed address size))
aside_removed e address size None = aside_stop e
aside_removed e address size (Some b) = record { aside = λ s ls. refl }

-- the bytes that an owner has are told by the block and by whether it is taken
aside_told : (e : Stop) (address size : ℕ) → Aside (look (owned_bytes address size) >>= or_stop e)
aside_told e address zero = record { aside = λ s ls. refl }
aside_told e address (suc n) = record { aside = λ s ls. (aside_or_stop e (owned_bytes address (suc n) s)).aside s ls }

pub aside_acts : (w : Setting) → Acts w (λ A act. Aside act)
aside_acts w = record {
  gives = λ A a. aside_pure a;
  stops = λ A e. aside_stop e;
  follows = λ A B act f. aside_then act f;
  finds = λ e address n. record { aside = λ s ls. (aside_or_stop e (untaken address (suc n) s)).aside s ls };
  tells = aside_told;
  owns = λ address. record { aside = λ s ls. refl };
  removes = λ e address n. record { aside = λ s ls. (aside_removed e address (suc n) (untaken address (suc n) s)).aside s ls };
  loads = λ e address ty. record { aside = λ s ls. (aside_or_stop e (option_map val.Word (loaded ty address s.heap.blocks))).aside s ls };
  loads_small = λ e address ty. record { aside = λ s ls. (aside_or_stop e (option_map val.Word (loaded_small ty address s.heap.blocks))).aside s ls };
  stores = λ address ty v x is. record { aside = λ s ls. (aside_kept w (stored ty address x s.heap.blocks)).aside s ls };
  stores_small = λ address ty z. record { aside = λ s ls. (aside_kept w (stored_small ty address z s.heap.blocks)).aside s ls };
}

-- areas

aside_place_at : (r : Request) (choices : List Choice) → Aside (place_at r choices)
aside_place_at r [] = aside_stop stop_of.BadChoice
aside_place_at r (choice.Refuse ∷ choices) = aside_stop stop_of.BadChoice
aside_place_at r (choice.At address ∷ choices) = record { aside = λ s ls. go s ls (is_fitting address r s.heap.blocks) }
  where
    go : (s : State) (ls : List Local) (b : Bool) → cond {A = Outcome (ℕ × ℕ)} b (Done (address, r.size) (record (with_area address r (record s { locals = ls })) { choices = choices })) (Stopped stop_of.BadChoice (record s { locals = ls })) ≡ with_locals ls (cond {A = Outcome (ℕ × ℕ)} b (Done (address, r.size) (record (with_area address r s) { choices = choices })) (Stopped stop_of.BadChoice s))
    go s ls true = refl
    go s ls false = refl

pub aside_place : (w : Setting) (r : Request) → Aside (place_area w r)
unfolding place_area
aside_place w r = record { aside = λ s ls. (go s.choices (nat_eq r.size 0 || nat_eq r.align 0)).aside s ls }
  where
    go : (choices : List Choice) (b : Bool) → Aside (λ s. cond b (Stopped (stuck w) s) (place_at r choices (record s { requests = s.requests ++ r ∷ [] })))
    go choices true = aside_stop (stuck w)
    go choices false = record { aside = λ s ls. (aside_place_at r choices).aside (record s { requests = s.requests ++ r ∷ [] }) ls }

pub aside_static : (w : Setting) → Aside (static_pointer w)
unfolding static_pointer
aside_static w = record { aside = λ s ls. (aside_then (static_place w s.place) (λ address. pure (val.Word (word.Pointer address))) (go s.place) (λ address. aside_pure (val.Word (word.Pointer address)))).aside s ls }
  where
    placed : (a : Option StaticArea) → Aside (place_static w a)
    placed None = aside_stop (stuck w)
    placed (Some a) =
        aside_then (place_area w (request_of a.size a.align)) (λ p. λ s. Done p.0 (record s { place = Some p.0 })) (aside_place w (request_of a.size a.align)) (λ p. record { aside = λ s ls. refl })

    go : (place : Option ℕ) → Aside (static_place w place)
    go None = placed (area_in w.items)
    go (Some address) = aside_pure address

-- calls of imports, but for the local that hides one

aside_answer : (w : Setting) (ty : Option WasmType) → Aside (take_answer w ty)
unfolding take_answer
aside_answer w ty = go w.answer
  where
    go : (a : Answer) → Aside (answer_act w ty a)
    go (answer.Words r writes blocks) = record { aside = λ s ls. (aside_or_stop (stuck w) (result_of ty r)).aside (record s { heap = answered blocks writes s.heap }) ls }
    go (answer.Value v heap) = aside_stop (stuck w)

abbrev pub call_with : Setting → Option Local → Bytes → List Val → Act Val
call_with w l name vs = λ s. (or_stop (stuck w) (option_and_then (called_with s vs) (unhidden l (import_named name s.imports))) >>= (λ p. record_call p.0 >> take_answer w p.1)) s

pub aside_call : (w : Setting) (l : Option Local) (name : Bytes) (vs : List Val) → Aside (call_with w l name vs)
aside_call w l name vs = record { aside = λ s ls. (go (option_and_then (called_with s vs) (unhidden l (import_named name s.imports)))).aside s ls }
  where
    go : (o : Option (CallPoint × Option WasmType)) → Aside (or_stop (stuck w) o >>= (λ p. record_call p.0 >> take_answer w p.1))
    go o = aside_then (or_stop (stuck w) o) (λ p. record_call p.0 >> take_answer w p.1) (aside_or_stop (stuck w) o) (λ p. aside_then (record_call p.0) (λ _. take_answer w p.1) (record { aside = λ s ls. refl }) (λ _. aside_answer w p.1))

-- lists of locals

abbrev is_named : Bytes → Local → Bool
is_named name l = bytes_eq l.name name

-- a local of a known name is a known one
known-named : (known : Bytes → Bool) (name : Bytes) (l : Local) → known name ≡ true → known l.name ≡ false → bytes_eq l.name name ≡ false
known-named known name l k n = go (bytes_eq l.name name) refl
  where
    go : (b : Bool) → bytes_eq l.name name ≡ b → b ≡ false
    go false e = refl
    go true e = let is : l.name ≡ name = (bytes_eq-Decides l.name name).0 e in let same : known l.name ≡ known name = ap known is in absurd (cc)

-- the newest known local of a known name is the newest
known-last : (known : Bytes → Bool) (name : Bytes) → known name ≡ true → (ls : List Local) → local_named name (known_locals known ls) ≡ local_named name ls
known-last known name k [] = refl
known-last known name k (l ∷ ls) = go (known l.name) refl (known-last known name k ls)
  where
    unnamed : (o : Option Local) → o ≡ option_or o None
    unnamed None = refl
    unnamed (Some m) = refl

    go : (b : Bool) → known l.name ≡ b → local_named name (known_locals known ls) ≡ local_named name ls → local_named name (cond b (l ∷ known_locals known ls) (known_locals known ls)) ≡ local_named name (l ∷ ls)
    go true e more = ap (λ o. option_or o (cond (is_named name l) (Some l) None)) more
    go false e more = more ∙ unnamed (local_named name ls) ∙ ap (λ b. option_or (local_named name ls) (cond b (Some l) None)) (sym (known-named known name l k e))

known-any : (known : Bytes → Bool) (name : Bytes) → known name ≡ true → (ls : List Local) → list_any (is_named name) (known_locals known ls) ≡ list_any (is_named name) ls
known-any known name k [] = refl
known-any known name k (l ∷ ls) = go (known l.name) refl (known-any known name k ls)
  where
    go : (b : Bool) → known l.name ≡ b → list_any (is_named name) (known_locals known ls) ≡ list_any (is_named name) ls
        → list_any (is_named name) (cond b (l ∷ known_locals known ls) (known_locals known ls)) ≡ list_any (is_named name) (l ∷ ls)
    go true e more = ap (λ b. is_named name l || b) more
    go false e more = more ∙ ap (λ b. b || list_any (is_named name) ls) (sym (known-named known name l k e))

-- a local whose value changes, or is moved, stays in its place

abbrev Changes : Option Val → (Bytes → Bool) → Bytes → Local → List Local → Bool → Bool → Bool → Type 0
Changes v known name l ls b any here = known_locals known (cond any (l ∷ changed v name ls) (cond here (holding v l) l ∷ ls)) ≡ changed v name (cond b (l ∷ known_locals known ls) (known_locals known ls))

changed_known : (v : Option Val) (known : Bytes → Bool) (name : Bytes) → known name ≡ true → (ls : List Local) → known_locals known (changed v name ls) ≡ changed v name (known_locals known ls)
changed_known v known name k [] = refl
changed_known v known name k (l ∷ ls) = go (known l.name) (list_any (is_named name) ls) (bytes_eq l.name name) refl refl refl (changed_known v known name k ls)
  where
    go : (b any here : Bool) → known l.name ≡ b → list_any (is_named name) ls ≡ any → bytes_eq l.name name ≡ here → known_locals known (changed v name ls) ≡ changed v name (known_locals known ls)
        → Changes v known name l ls b any here
    go true true here e f g more =
        ap (λ b. cond b (l ∷ known_locals known (changed v name ls)) (known_locals known (changed v name ls))) e ∙ ap (λ more. l ∷ more) more
        ∙ ap (λ b. cond b (l ∷ changed v name (known_locals known ls)) (cond (is_named name l) (holding v l) l ∷ known_locals known ls)) (sym (known-any known name k ls ∙ f))
    go true false true e f g more =
        ap (λ b. cond b (holding v l ∷ known_locals known ls) (known_locals known ls)) e
        ∙ ap (λ b. cond b (holding v l) l ∷ known_locals known ls) (sym g)
        ∙ ap (λ b. cond b (l ∷ changed v name (known_locals known ls)) (cond (is_named name l) (holding v l) l ∷ known_locals known ls)) (sym (known-any known name k ls ∙ f))
    go true false false e f g more =
        ap (λ b. cond b (l ∷ known_locals known ls) (known_locals known ls)) e
        ∙ ap (λ b. cond b (holding v l) l ∷ known_locals known ls) (sym g)
        ∙ ap (λ b. cond b (l ∷ changed v name (known_locals known ls)) (cond (is_named name l) (holding v l) l ∷ known_locals known ls)) (sym (known-any known name k ls ∙ f))
    go false true here e f g more = ap (λ b. cond b (l ∷ known_locals known (changed v name ls)) (known_locals known (changed v name ls))) e ∙ more
    go false false true e f g more = let other = known-named known name l k e in absurd (cc)
    go false false false e f g more =
        ap (λ b. cond b (l ∷ known_locals known ls) (known_locals known ls)) e ∙ sym (changed_none v name (known_locals known ls) (known-any known name k ls ∙ f))

changed_other : (v : Option Val) (known : Bytes → Bool) (name : Bytes) → known name ≡ true → (ls : List Local) → other_locals known (changed v name ls) ≡ other_locals known ls
changed_other v known name k [] = refl
changed_other v known name k (l ∷ ls) = go (list_any (is_named name) ls) (bytes_eq l.name name) refl (changed_other v known name k ls)
  where
    go : (any here : Bool) → bytes_eq l.name name ≡ here → other_locals known (changed v name ls) ≡ other_locals known ls
        → other_locals known (cond any (l ∷ changed v name ls) (cond here (holding v l) l ∷ ls)) ≡ other_locals known (l ∷ ls)
    go true here g more = ap (λ more. cond (not (known l.name)) (l ∷ more) more) more
    go false false g more = refl
    go false true g more =
        let is : l.name ≡ name = (bytes_eq-Decides l.name name).0 g in
        let here : known l.name ≡ true = ap known is ∙ k in
        ap (λ b. cond (not b) (holding v l ∷ other_locals known ls) (other_locals known ls)) here ∙ ap (λ b. cond (not b) (l ∷ other_locals known ls) (other_locals known ls)) (sym here)

-- acts on locals

ignores_used : (known : Bytes → Bool) (name : Bytes) (v : Val) (addresses : List ℕ) → known name ≡ true → IgnoresOthers known (used name v addresses)
ignores_used known name v [] k = ignores_aside known (pure v) (aside_pure v)
ignores_used known name v (a ∷ more) k = record {
  same = λ s. ap (λ ls. Done v (record s { locals = ls })) (sym (changed_known None known name k s.locals));
  kept = λ s. changed_other None known name k s.locals;
}

ignores_then : {A B : Type 0} (known : Bytes → Bool) (act : Act A) (f : A → Act B) → IgnoresOthers known act → ((a : A) → IgnoresOthers known (f a)) → IgnoresOthers known (act >>= f)
ignores_then {A = A} {B = B} known act f h k = record {
  same = λ s. ap (λ o. and_then o f) (h.same s) ∙ ends (act s);
  kept = λ s. others (act s) ∙ h.kept s;
}
  where
    ends : (o : Outcome A) → and_then (narrowed_end known o) f ≡ narrowed_end known (and_then o f)
    ends (Done a t) = (k a).same t
    ends (Stopped e t) = refl

    others : (o : Outcome A) → other_locals known (state_of (and_then o f)).locals ≡ other_locals known (state_of o).locals
    others (Done a t) = (k a).kept t
    others (Stopped e t) = refl

-- an act by what the newest local of a known name is
ignores_named : {A : Type 0} (known : Bytes → Bool) (name : Bytes) (f : Option Local → Act A) → known name ≡ true → ((o : Option Local) → IgnoresOthers known (f o)) → IgnoresOthers known (λ s. f (local_named name s.locals) s)
ignores_named known name f k h = record {
  same = λ s. ap (λ o. f o (narrowed known s)) (known-last known name k s.locals) ∙ (h (local_named name s.locals)).same s;
  kept = λ s. (h (local_named name s.locals)).kept s;
}

pub ignores_use : (known : Bytes → Bool) (e : Stop) (name : Bytes) → known name ≡ true → IgnoresOthers known (use_local e name)
unfolding use_local
ignores_use known e name k =
    ignores_named known name (λ o. or_stop e (option_and_then usable (value_of o)) >>= (λ v. used name v (owned v))) k
    (λ o. ignores_then known (or_stop e (option_and_then usable (value_of o))) (λ v. used name v (owned v))
    (ignores_aside known (or_stop e (option_and_then usable (value_of o))) (aside_or_stop e (option_and_then usable (value_of o)))) (λ v. ignores_used known name v (owned v) k))

pub ignores_lend : (known : Bytes → Bool) (e : Stop) (name : Bytes) → known name ≡ true → IgnoresOthers known (lend_local e name)
unfolding lend_local
ignores_lend known e name k =
    ignores_named known name (λ o. or_stop e (option_and_then lent (value_of o))) k
    (λ o. ignores_aside known (or_stop e (option_and_then lent (value_of o))) (aside_or_stop e (option_and_then lent (value_of o))))

pub ignores_ask : (known : Bytes → Bool) (e : Stop) (of : View) (name : Bytes) → known name ≡ true → IgnoresOthers known (ask_local e of name)
unfolding ask_local
ignores_ask known e of name k =
    ignores_named known name (λ o. or_stop e (option_map val.Word (option_and_then (view of) (value_of o)))) k
    (λ o. ignores_aside known (or_stop e (option_map val.Word (option_and_then (view of) (value_of o)))) (aside_or_stop e (option_map val.Word (option_and_then (view of) (value_of o)))))

pub ignores_bind : (known : Bytes → Bool) (name : Bytes) (v : Val) → known name ≡ true → IgnoresOthers known (bind name v)
unfolding bind
ignores_bind known name v k =
    let l : Local = record { name = name; value = Some v } in
    record {
      same = λ s. ap (λ ls. Done tt (record s { locals = ls }))
          (ap (λ b. known_locals known s.locals ++ cond b (l ∷ []) []) (sym k) ∙ sym (filter-append (λ (l : Local). known l.name) s.locals (l ∷ [])));
      kept = λ s. filter-append (λ (l : Local). not (known l.name)) s.locals (l ∷ []) ∙ ap (λ b. other_locals known s.locals ++ cond (not b) (l ∷ []) []) k ∙ append-nil (other_locals known s.locals);
    }

pub ignores_take : (w : Setting) (known : Bytes → Bool) (name : Bytes) (v : Val) → known name ≡ true → IgnoresOthers known (λ s. take_bytes w (value_of (local_named name s.locals)) v s)
ignores_take w known name v k = ignores_named known name (λ o. take_bytes w (value_of o) v) k (λ o. ignores_aside known (take_bytes w (value_of o) v) (takes_bytes w (λ A act. Aside act) (aside_acts w) (value_of o) v))

pub ignores_import : (w : Setting) (known : Bytes → Bool) (name : Bytes) (vs : List Val) → known name ≡ true → IgnoresOthers known (call_import w name vs)
unfolding call_point
ignores_import w known name vs k = ignores_named known name (λ l. call_with w l name vs) k (λ l. ignores_aside known (call_with w l name vs) (aside_call w l name vs))

pub ignores_write : (known : Bytes → Bool) (e : Stop) (name : Bytes) (v : Val) → known name ≡ true → IgnoresOthers known (write_slot e name v)
unfolding write_slot
ignores_write known e name v k =
    ignores_named known name (λ o. or_stop e (option_and_then (slot_with v) (value_of o)) >>= give_local name) k
    (λ o. ignores_then known (or_stop e (option_and_then (slot_with v) (value_of o))) (give_local name)
    (ignores_aside known (or_stop e (option_and_then (slot_with v) (value_of o))) (aside_or_stop e (option_and_then (slot_with v) (value_of o)))) gives)
  where
    gives : (x : Val) → IgnoresOthers known (give_local name x)
    gives x = record {
      same = λ s. ap (λ ls. Done tt (record s { locals = ls })) (sym (changed_known (Some x) known name k s.locals));
      kept = λ s. changed_other (Some x) known name k s.locals;
    }
