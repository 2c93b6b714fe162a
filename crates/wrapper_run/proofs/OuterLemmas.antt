-- Inward code runs behind the locals in its reach as it does behind all that are there: each of its acts does, and a block that ends.
use Rattle.std.proofs.Common.{◌≡◌, ℕ, Bool, true, false, cond, ◌||◌, List, [], ◌∷◌, ◌++◌, length, Option, None, Some, refl, sym, ap, ◌∙◌, subst, drop, take, append_assoc, append-nil}
use Rattle.std.specs.Prelude.{◌≢◌, option_and_then}
use Rattle.std.specs.List.{list_any}
use Rattle.std.specs.Option.{option_map, option_or}
use Rattle.std.specs.Str.{bytes_eq}
use Rattle.std.proofs.lemmas.List.Folds.{list_any-append}
use Rattle.std.proofs.Math.Bool.{or-true}
use Rattle.wit_model.specs.Bytes.{Bytes}
use Rattle.rust_tree.specs.declared.expr.Expr.{Expr}
use Rattle.rust_tree.specs.declared.stmt.Block.{Block as Code}
use Rattle.wrapper_data.specs.declared.run.Stop.{Stop}
use Rattle.wrapper_data.specs.declared.run.Stop.TheVariants as stop_of
use Rattle.wrapper_values.specs.declared.owning.View.{View}
use Rattle.wrapper_values.specs.declared.state.Local.{Local}
use Rattle.wrapper_values.specs.declared.state.State.{State}
use Rattle.wrapper_values.specs.declared.state.Val.{Val}
use Rattle.wrapper_values.specs.declared.state.Val.TheVariants as val
use Rattle.wrapper_values.specs.Act.{Act, Outcome, Done, Stopped, ◌>>=◌, ◌>>◌, and_then, or_stop, pure, stop}
use Rattle.wrapper_values.specs.CoreWords.{empty_slot}
use Rattle.wrapper_values.specs.Locals.{ask_local, bind, changed, declare, give_local, holding, lend_local, local_named, moved, slot_with, usable, use_local, used, value_of, write_slot}
use Rattle.wrapper_values.specs.Owning.{lent, owned, owned_in, view}
use Rattle.wrapper_values.specs.Setting.{Setting, stuck}
use Rattle.wrapper_run.specs.Blocks.{dealloc, drop_local, drop_locals, free, free_all, in_scope, keep_locals, leave_to, lift_text, release, store_small, store_word}
use Rattle.wrapper_run.specs.Growth.{state_of}
use Rattle.wrapper_run.specs.Inward.{is_inward}
use Rattle.wrapper_run.specs.OuterLocals.{EndsBehind, IsBehind, IsInReach, OwnNothing, RunsBehind, behind_all}
use Rattle.wrapper_run.specs.Results.{run_inner, run_results}
use Rattle.wrapper_run.specs.Run.{eval, load_small, load_word, run_block, take_bytes}
use Rattle.wrapper_run.proofs.Acts.{deallocates, lifts, loads_number, loads_word, stores_number, stores_word, takes_bytes}
use Rattle.wrapper_run.proofs.Apart.{Apart, apart_acts, apart_declare, apart_free, apart_pure, apart_release, apart_stop, apart_then, with_both}
use Rattle.wrapper_run.proofs.InwardWalk.{Within, walks_block, walks_given}
use Rattle.wrapper_run.proofs.LocalLemmas.{bytes_eq-same, option_or-None, option_or-assoc}
use Rattle.wrapper_run.proofs.OwningLemmas.{drops_plain}
use Rattle.wrapper_run.proofs.ScopeLemmas.{names, names_kept}

abbrev is_named : Bytes → Local → Bool
is_named name l = bytes_eq l.name name

-- 1. What is read by a name

pub named-append : (name : Bytes) (xs ys : List Local) → local_named name (xs ++ ys) ≡ option_or (local_named name ys) (local_named name xs)
named-append name [] ys = sym (option_or-None (local_named name ys))
named-append name (x ∷ xs) ys =
    ap (λ o. option_or o (cond (is_named name x) (Some x) None)) (named-append name xs ys) ∙ option_or-assoc (local_named name ys) (local_named name xs) (cond (is_named name x) (Some x) None)

read_behind : (name : Bytes) (reached outer later : List Local) → IsInReach reached outer → (v : Val) → value_of (local_named name (reached ++ later)) ≡ Some v → value_of (local_named name (outer ++ later)) ≡ Some v
read_behind name reached outer later r v e =
    ap value_of (named-append name outer later) ∙ go (local_named name later) (sym (ap value_of (named-append name reached later)) ∙ e)
  where
    go : (o : Option Local) → value_of (option_or o (local_named name reached)) ≡ Some v → value_of (option_or o (local_named name outer)) ≡ Some v
    go None e = r.same name v e
    go (Some l) e = e

-- what owns nothing is not moved, and what does is not one of the first

pub plain_value : (name : Bytes) (v : Val) (ls : List Local) → OwnNothing ls → value_of (local_named name ls) ≡ Some v → owned v ≡ []
plain_value name v [] plain e = absurd (cc)
plain_value name v (l ∷ ls) (bare, plain) e = go (plain_value name v ls plain) (local_named name ls) refl (is_named name l) e
  where
    go : (value_of (local_named name ls) ≡ Some v → owned v ≡ []) → (o : Option Local) → local_named name ls ≡ o → (b : Bool) → value_of (option_or o (cond b (Some l) None)) ≡ Some v → owned v ≡ []
    go ih None is true e = ap owned_in (sym e) ∙ bare
    go ih None is false e = absurd (cc)
    go ih (Some m) is b e = ih (ap value_of is ∙ e)

some_any : (name : Bytes) (ls : List Local) (l : Local) → local_named name ls ≡ Some l → list_any (is_named name) ls ≡ true
some_any name [] l e = absurd (cc)
some_any name (x ∷ ls) l e = go (some_any name ls) (local_named name ls) refl (is_named name x) e
  where
    go : ((m : Local) → local_named name ls ≡ Some m → list_any (is_named name) ls ≡ true) → (o : Option Local) → local_named name ls ≡ o → (b : Bool) → option_or o (cond b (Some x) None) ≡ Some l → (b || list_any (is_named name) ls) ≡ true
    go ih None is true e = refl
    go ih None is false e = absurd (cc)
    go ih (Some m) is b e = ap (λ c. b || c) (ih m is) ∙ or-true b

changed_behind : (o : Option Val) (name : Bytes) (xs later : List Local) → list_any (is_named name) later ≡ true → changed o name (xs ++ later) ≡ xs ++ changed o name later
changed_behind o name [] later has = refl
changed_behind o name (x ∷ xs) later has =
    ap (λ b. cond b (x ∷ changed o name (xs ++ later)) (cond (is_named name x) (holding o x) x ∷ xs ++ later))
    (list_any-append (is_named name) xs later ∙ ap (λ b. list_any (is_named name) xs || b) has ∙ or-true (list_any (is_named name) xs))
    ∙ ap (λ ls. x ∷ ls) (changed_behind o name xs later has)

-- a local that stands behind the first ones still does, where names are added alone

any-names : (name : Bytes) (ls : List Local) → list_any (is_named name) ls ≡ list_any (λ n. bytes_eq n name) (names ls)
any-names name [] = refl
any-names name (l ∷ ls) = ap (λ b. bytes_eq l.name name || b) (any-names name ls)

named_last : (name : Bytes) (later : List Local) (l : Local) (more : List Bytes) → l.name ≡ name → list_any (λ n. bytes_eq n name) (names (later ++ l ∷ []) ++ more) ≡ true
named_last name [] l more is = ap (λ b. b || list_any (λ n. bytes_eq n name) more) (ap (λ n. bytes_eq n name) is ∙ bytes_eq-same name)
named_last name (x ∷ later) l more is = ap (λ b. bytes_eq x.name name || b) (named_last name later l more is) ∙ or-true (bytes_eq x.name name)

named_behind : (name : Bytes) (front later now : List Local) (l : Local) (more : List Bytes) → l.name ≡ name → names (front ++ now) ≡ names (front ++ (later ++ l ∷ [])) ++ more → list_any (is_named name) now ≡ true
named_behind name [] later now l more is e = any-names name now ∙ ap (list_any (λ n. bytes_eq n name)) e ∙ named_last name later l more is
named_behind name (x ∷ front) later now l more is e = let rest : names (front ++ now) ≡ names (front ++ (later ++ l ∷ [])) ++ more = cc in named_behind name front later now l more is rest

-- 2. Acts

behind_apart : {A : Type 0} (act : Act A) → Apart act → RunsBehind act
behind_apart {A = A} act h = record {
  alike = λ reached outer later place s r b. go reached outer later place s b (act s) (act (behind_all outer later place s)) (h.apart s s.locals s.place) (h.apart s (outer ++ later) place);
}
  where
    go : (reached outer later : List Local) (place : Option ℕ) (s : State) → IsBehind reached later s → (o end : Outcome A) → o ≡ with_both s.locals s.place o → end ≡ with_both (outer ++ later) place o → EndsBehind reached outer place o end
    go reached outer later place s b (Done a t) end same is =
        let locals : t.locals ≡ s.locals = ap (λ (o : Outcome A). (state_of o).locals) same in
        let at : t.place ≡ s.place = ap (λ (o : Outcome A). (state_of o).place) same in
        (later, record { locals = locals ∙ b.locals; place = at ∙ b.place }, is)
    go reached outer later place s b (Stopped e t) end same is = λ ns. (outer ++ later, is)

behind_next : {A B : Type 0} (f : A → Act B) → ((a : A) → RunsBehind (f a)) → (reached outer : List Local) (place : Option ℕ) → IsInReach reached outer → (o end : Outcome A) → EndsBehind reached outer place o end
    → EndsBehind reached outer place (and_then o f) (and_then end f)
behind_next f k reached outer place r (Done a t) end (later, b, is) = subst (λ z. EndsBehind reached outer place (f a t) (and_then z f)) (sym is) ((k a).alike reached outer later place t r b)
behind_next f k reached outer place r (Stopped e t) end ends = λ ns. ((ends ns).0, ap (λ z. and_then z f) (ends ns).1)

behind_then : {A B : Type 0} (act : Act A) (f : A → Act B) → RunsBehind act → ((a : A) → RunsBehind (f a)) → RunsBehind (act >>= f)
behind_then act f h k = record { alike = λ reached outer later place s r b. behind_next f k reached outer place r (act s) (act (behind_all outer later place s)) (h.alike reached outer later place s r b) }

-- an act by what is read by a name, which is stuck where nothing is
behind_read : {A : Type 0} (w : Setting) (name : Bytes) (f : Option Val → Act A) → ((s : State) → f None s ≡ Stopped (stuck w) s) → ((v : Val) → RunsBehind (f (Some v))) → RunsBehind (λ s. f (value_of (local_named name s.locals)) s)
behind_read {A = A} w name f without h =
    record { alike = λ reached outer later place s r b. go reached outer later place s r b (value_of (local_named name s.locals)) refl }
  where
    go : (reached outer later : List Local) (place : Option ℕ) (s : State) → IsInReach reached outer → IsBehind reached later s → (o : Option Val) → value_of (local_named name s.locals) ≡ o
        → EndsBehind reached outer place (f o s) (f (value_of (local_named name (outer ++ later))) (behind_all outer later place s))
    go reached outer later place s r b None e =
        subst (λ z. EndsBehind reached outer place z (f (value_of (local_named name (outer ++ later))) (behind_all outer later place s))) (sym (without s)) (λ ns. absurd (ns w.item refl))
    go reached outer later place s r b (Some v) e =
        let reads = read_behind name reached outer later r v (sym (ap (λ ls. value_of (local_named name ls)) b.locals) ∙ e) in
        subst (λ o. EndsBehind reached outer place (f (Some v) s) (f o (behind_all outer later place s))) (sym reads) ((h v).alike reached outer later place s r b)

behind_or_stop : {A : Type 0} (e : Stop) (o : Option A) → RunsBehind (or_stop e o)
behind_or_stop e None = behind_apart (stop e) (apart_stop e)
behind_or_stop e (Some a) = behind_apart (pure a) (apart_pure a)

behind_lend : (w : Setting) (name : Bytes) → RunsBehind (lend_local (stuck w) name)
unfolding lend_local
behind_lend w name = behind_read w name (λ o. or_stop (stuck w) (option_and_then lent o)) (λ s. refl) (λ v. behind_or_stop (stuck w) (lent v))

behind_ask : (w : Setting) (of : View) (name : Bytes) → RunsBehind (ask_local (stuck w) of name)
unfolding ask_local
behind_ask w of name = behind_read w name (λ o. or_stop (stuck w) (option_map val.Word (option_and_then (view of) o))) (λ s. refl) (λ v. behind_or_stop (stuck w) (option_map val.Word (view of v)))

behind_take : (w : Setting) (name : Bytes) (v : Val) → RunsBehind (λ s. take_bytes w (value_of (local_named name s.locals)) v s)
behind_take w name v = behind_read w name (λ o. take_bytes w o v) (λ s. refl) (λ u. behind_apart (take_bytes w (Some u) v) (takes_bytes w (λ A act. Apart act) (apart_acts w) (Some u) v))

-- a value is used: what owns something is moved out of a local that stands behind them
behind_use : (w : Setting) (name : Bytes) → RunsBehind (use_local (stuck w) name)
unfolding use_local
behind_use w name = record { alike = λ reached outer later place s r b. go reached outer later place s r b (value_of (local_named name s.locals)) refl }
  where
    using : Option Val → Act Val
    using o = or_stop (stuck w) (option_and_then usable o) >>= (λ v. used name v (owned v))

    usable-same : (v x : Val) → usable v ≡ Some x → v ≡ x
    usable-same (val.Word y) x e = cc
    usable-same (val.Value r) x e = cc
    usable-same (val.Area a n) x e = absurd (cc)

    -- an owner stands behind the first locals
    its_local : (reached later : List Local) (v : Val) → OwnNothing reached → value_of (local_named name (reached ++ later)) ≡ Some v → owned v ≢ [] → list_any (is_named name) later ≡ true
    its_local reached later v plain e owns = at (local_named name later) refl (sym (ap value_of (named-append name reached later)) ∙ e)
      where
        at : (o : Option Local) → local_named name later ≡ o → value_of (option_or o (local_named name reached)) ≡ Some v → list_any (is_named name) later ≡ true
        at None is k = absurd (owns (plain_value name v reached plain k))
        at (Some l) is k = some_any name later l is

    moving : (reached outer later : List Local) (place : Option ℕ) (s : State) → IsInReach reached outer → IsBehind reached later s → (v : Val) → value_of (local_named name s.locals) ≡ Some v → (owners : List ℕ) → owned v ≡ owners
        → EndsBehind reached outer place (used name v owners s) (used name v owners (behind_all outer later place s))
    moving reached outer later place s r b v e [] own = (later, b, refl)
    moving reached outer later place s r b v e (x ∷ owners) own =
        let has = its_local reached later v r.plain (sym (ap (λ ls. value_of (local_named name ls)) b.locals) ∙ e) (λ none. absurd (cc)) in (
          moved name later,
          record { locals = ap (moved name) b.locals ∙ changed_behind None name reached later has; place = b.place },
          ap (λ ls. Done v (record s { locals = ls; place = place })) (changed_behind None name outer later has),
        )

    go : (reached outer later : List Local) (place : Option ℕ) (s : State) → IsInReach reached outer → IsBehind reached later s → (o : Option Val) → value_of (local_named name s.locals) ≡ o
        → EndsBehind reached outer place (using o s) (using (value_of (local_named name (outer ++ later))) (behind_all outer later place s))
    go reached outer later place s r b None e = λ ns. absurd (ns w.item refl)
    go reached outer later place s r b (Some v) e =
        let reads = read_behind name reached outer later r v (sym (ap (λ ls. value_of (local_named name ls)) b.locals) ∙ e) in
        subst (λ o. EndsBehind reached outer place (using (Some v) s) (using o (behind_all outer later place s))) (sym reads) (at (usable v) refl)
      where
        at : (u : Option Val) → usable v ≡ u
            → EndsBehind reached outer place (and_then (or_stop (stuck w) u s) (λ v. used name v (owned v))) (and_then (or_stop (stuck w) u (behind_all outer later place s)) (λ v. used name v (owned v)))
        at None is = λ ns. absurd (ns w.item refl)
        at (Some x) is = moving reached outer later place s r b x (e ∙ ap (λ z. Some z) (usable-same v x is)) (owned x) refl

behind_bind : (name : Bytes) (v : Val) → RunsBehind (bind name v)
unfolding bind
behind_bind name v =
    let l : Local = record { name = name; value = Some v } in record {
      alike = λ reached outer later place s r b. (
        later ++ l ∷ [],
        record { locals = ap (λ ls. ls ++ l ∷ []) b.locals ∙ append_assoc reached later (l ∷ []); place = b.place },
        ap (λ ls. Done tt (record s { locals = ls; place = place })) (append_assoc outer later (l ∷ [])),
      );
    }

-- a slot that stands behind those in reach is written
written_behind : (w : Setting) (name : Bytes) (v : Val) (reached outer now : List Local) (place : Option ℕ) (t : State) → IsInReach reached outer → IsBehind reached now t → list_any (is_named name) now ≡ true
    → EndsBehind reached outer place (write_slot (stuck w) name v t) (write_slot (stuck w) name v (behind_all outer now place t))
unfolding write_slot
written_behind w name v reached outer now place t r b has = go (value_of (local_named name t.locals)) refl
  where
    writing : Option Val → Act (Unit {0})
    writing o = or_stop (stuck w) (option_and_then (slot_with v) o) >>= give_local name

    at : (o : Option Val) → EndsBehind reached outer place ((or_stop (stuck w) o >>= give_local name) t) ((or_stop (stuck w) o >>= give_local name) (behind_all outer now place t))
    at None = λ ns. absurd (ns w.item refl)
    at (Some x) = (
      changed (Some x) name now,
      record { locals = ap (changed (Some x) name) b.locals ∙ changed_behind (Some x) name reached now has; place = b.place },
      ap (λ ls. Done tt (record t { locals = ls; place = place })) (changed_behind (Some x) name outer now has),
    )

    go : (o : Option Val) → value_of (local_named name t.locals) ≡ o → EndsBehind reached outer place (writing o t) (writing (value_of (local_named name (outer ++ now))) (behind_all outer now place t))
    go None e = λ ns. absurd (ns w.item refl)
    go (Some u) e =
        let reads = read_behind name reached outer now r u (sym (ap (λ ls. value_of (local_named name ls)) b.locals) ∙ e) in
        subst (λ o. EndsBehind reached outer place (writing (Some u) t) (writing o (behind_all outer now place t))) (sym reads) (at (slot_with v u))

-- a slot is declared and written, and then the act: what gives the value keeps the slot behind those in reach
behind_writing : (w : Setting) (name : Bytes) (e : Expr) (act : Act (Unit {0})) → RunsBehind (eval w e) → RunsBehind act → RunsBehind (bind name empty_slot >> ((eval w e >>= write_slot (stuck w) name) >> act))
unfolding bind
behind_writing w name e act h k = record {
  alike = λ reached outer later place s r b.
      let now : State = record s { locals = s.locals ++ slot ∷ [] } in
      let behind : IsBehind reached (later ++ slot ∷ []) now = record { locals = ap (λ ls. ls ++ slot ∷ []) b.locals ∙ append_assoc reached later (slot ∷ []); place = b.place } in
      subst (λ ls. EndsBehind reached outer place ((writes >> act) now) ((writes >> act) (record s { locals = ls; place = place }))) (sym (append_assoc outer later (slot ∷ [])))
      (behind_next (λ _. act) (λ _. k) reached outer place r (writes now) (writes (behind_all outer (later ++ slot ∷ []) place now)) (ends reached outer later place now r behind));
}
  where
    slot : Local
    slot = record { name = name; value = Some empty_slot }

    writes : Act (Unit {0})
    writes = eval w e >>= write_slot (stuck w) name

    ends : (reached outer later : List Local) (place : Option ℕ) (s : State) → IsInReach reached outer → IsBehind reached (later ++ slot ∷ []) s
        → EndsBehind reached outer place (writes s) (writes (behind_all outer (later ++ slot ∷ []) place s))
    ends reached outer later place s r b = from (eval w e s) (names_kept w e s) (eval w e (behind_all outer (later ++ slot ∷ []) place s)) (h.alike reached outer (later ++ slot ∷ []) place s r b)
      where
        from : (o : Outcome Val) → ((t : State) (v : Val) → o ≡ Done v t → (more : List Bytes) × (names t.locals ≡ names s.locals ++ more)) → (end : Outcome Val) → EndsBehind reached outer place o end
            → EndsBehind reached outer place (and_then o (write_slot (stuck w) name)) (and_then end (write_slot (stuck w) name))
        from (Done v t) kept end (now, behind, is) =
            let (more, named) = kept t v refl in
            let has = named_behind name reached later now slot more refl (sym (ap names behind.locals) ∙ named ∙ ap (λ ls. names ls ++ more) b.locals) in
            subst (λ z. EndsBehind reached outer place (write_slot (stuck w) name v t) (and_then z (write_slot (stuck w) name))) (sym is) (written_behind w name v reached outer now place t r behind has)
        from (Stopped x t) kept end ends = λ ns. ((ends ns).0, ap (λ z. and_then z (write_slot (stuck w) name)) (ends ns).1)

-- 3. The end of a scope

drop_behind : (xs later ys : List Local) → drop (length (xs ++ later)) (xs ++ ys) ≡ drop (length later) ys
drop_behind [] later ys = refl
drop_behind (x ∷ xs) later ys = drop_behind xs later ys

take_behind : (xs later ys : List Local) → take (length (xs ++ later)) (xs ++ ys) ≡ xs ++ take (length later) ys
take_behind [] later ys = refl
take_behind (x ∷ xs) later ys = ap (λ ls. x ∷ ls) (take_behind xs later ys)

apart_free_all : (w : Setting) (addresses : List ℕ) → Apart (free_all w addresses)
apart_free_all w [] = apart_pure tt
apart_free_all w (a ∷ more) = apart_then (free w a) (λ _. free_all w more) (apart_free w a) (λ _. apart_free_all w more)

apart_drop_locals : (w : Setting) (ls : List Local) → Apart (drop_locals w ls)
apart_drop_locals w [] = apart_pure tt
apart_drop_locals w (l ∷ ls) = apart_then (drop_locals w ls) (λ _. drop_local w l.value) (apart_drop_locals w ls) (λ _. apart_free_all w (owned_in l.value))

-- behind any locals in front the same are dropped, and the same of the others stay
leaves : (w : Setting) (front later now : List Local) (s : State) → s.locals ≡ front ++ now
    → leave_to w (length (front ++ later)) s ≡ and_then (drop_locals w (drop (length later) now) (record s { locals = [] })) (λ _. keep_locals (front ++ take (length later) now))
unfolding leave_to
leaves w front later now s e =
    ap (λ ls. and_then (drop_locals w (drop (length (front ++ later)) ls) (record s { locals = [] })) (λ _. keep_locals (take (length (front ++ later)) ls))) e
    ∙ ap (λ ls. and_then (drop_locals w ls (record s { locals = [] })) (λ _. keep_locals (take (length (front ++ later)) (front ++ now)))) (drop_behind front later now)
    ∙ ap (λ ls. and_then (drop_locals w (drop (length later) now) (record s { locals = [] })) (λ _. keep_locals ls)) (take_behind front later now)

module _ {A : Type 0} (w : Setting) (reached outer later : List Local) (place : Option ℕ) where
  abbrev leaving : List Local → A → Outcome (Unit {0}) → Outcome A
  leaving ls a o = and_then (and_then o (λ _. keep_locals ls)) (λ _. pure a)

  -- those behind them that a scope added are dropped
  left_behind : (a : A) (t : State) (now : List Local) → IsBehind reached now t
      → EndsBehind reached outer place ((leave_to w (length (reached ++ later)) >> pure a) t) ((leave_to w (length (outer ++ later)) >> pure a) (behind_all outer now place t))
  left_behind a t now b =
      let drops : Act (Unit {0}) = drop_locals w (drop (length later) now) in
      let apart = apart_drop_locals w (drop (length later) now) in
      let bare : State = record t { locals = [] } in
      subst (λ o. EndsBehind reached outer place (and_then o (λ _. pure a)) ((leave_to w (length (outer ++ later)) >> pure a) (behind_all outer now place t))) (sym (leaves w reached later now t b.locals))
      (subst (λ o. EndsBehind reached outer place (leaving (reached ++ take (length later) now) a (drops bare)) (and_then o (λ _. pure a))) (sym (leaves w outer later now (behind_all outer now place t) refl))
      (go (take (length later) now) (drops bare) (drops (record t { locals = []; place = place })) (apart.apart bare [] t.place) (apart.apart bare [] place)))
    where
      go : (ls : List Local) (o end : Outcome (Unit {0})) → o ≡ with_both [] t.place o → end ≡ with_both [] place o → EndsBehind reached outer place (leaving (reached ++ ls) a o) (leaving (outer ++ ls) a end)
      go ls (Done u v) end same is =
          let at : v.place ≡ t.place = ap (λ (o : Outcome (Unit {0})). (state_of o).place) same in
          (ls, record { locals = refl; place = at ∙ b.place }, ap (leaving (outer ++ ls) a) is)
      go ls (Stopped e v) end same is = λ ns. ([], ap (leaving (outer ++ ls) a) is)

pub behind_scope : {A : Type 0} (w : Setting) (act : Act A) → RunsBehind act → RunsBehind (in_scope w act)
behind_scope {A = A} w act h = record {
  alike = λ reached outer later place s r b.
      subst (λ ls. EndsBehind reached outer place (and_then (act s) (λ a. leave_to w (length ls) >> pure a)) (in_scope w act (behind_all outer later place s))) (sym b.locals)
      (go reached outer later place (act s) (act (behind_all outer later place s)) (h.alike reached outer later place s r b));
}
  where
    go : (reached outer later : List Local) (place : Option ℕ) (o end : Outcome A) → EndsBehind reached outer place o end
        → EndsBehind reached outer place (and_then o (λ a. leave_to w (length (reached ++ later)) >> pure a)) (and_then end (λ a. leave_to w (length (outer ++ later)) >> pure a))
    go reached outer later place (Done a t) end (now, b, is) =
        subst (λ z. EndsBehind reached outer place ((leave_to w (length (reached ++ later)) >> pure a) t) (and_then z (λ a. leave_to w (length (outer ++ later)) >> pure a))) (sym is)
        (left_behind w reached outer later place a t now b)
    go reached outer later place (Stopped e t) end ends = λ ns. ((ends ns).0, ap (λ z. and_then z (λ a. leave_to w (length (outer ++ later)) >> pure a)) (ends ns).1)

-- 4. All inward code

pub behind_within : (w : Setting) → Within w (λ A act. RunsBehind act)
behind_within w = record {
  gives = λ A a. behind_apart (pure a) (apart_pure a);
  stops = λ A e. behind_apart (stop e) (apart_stop e);
  follows = λ A B act f. behind_then act f;
  uses = behind_use w;
  lends = behind_lend w;
  asks = behind_ask w;
  binds = behind_bind;
  declares = λ d. behind_apart (declare d) (apart_declare d);
  frees = λ address. behind_apart (free w address) (apart_free w address);
  releases = λ address. behind_apart (release w address) (apart_release w address);
  deallocates = λ address size. behind_apart (dealloc w address size) (deallocates w (λ A act. Apart act) (apart_acts w) address size);
  takes = behind_take w;
  lifts = λ v. behind_apart (lift_text w v) (lifts w (λ A act. Apart act) (apart_acts w) v);
  loads = λ offset ty v. behind_apart (load_word w offset ty v) (loads_word w (λ A act. Apart act) (apart_acts w) offset ty v);
  loads_small = λ offset ty v. behind_apart (load_small w offset ty v) (loads_number w (λ A act. Apart act) (apart_acts w) offset ty v);
  stores = λ offset ty v at. behind_apart (store_word w offset ty v at) (stores_word w (λ A act. Apart act) (apart_acts w) offset ty v at);
  stores_small = λ offset ty v at. behind_apart (store_small w offset ty v at) (stores_number w (λ A act. Apart act) (apart_acts w) offset ty v at);
  scopes = λ A act. behind_scope w act;
  writes = behind_writing w;
}

pub behind_code : (w : Setting) (b : Code) → is_inward b ≡ true → RunsBehind (run_block w b)
behind_code w = walks_block w (λ A act. RunsBehind act) (behind_within w)

pub behind_inner : (w : Setting) (b : Code) → is_inward b ≡ true → RunsBehind (run_inner w b)
behind_inner w b k = behind_scope w (run_results w b) (walks_given w (λ A act. RunsBehind act) (behind_within w) b k)

-- 5. A block begins with locals of its own, and ends

abbrev pub add_locals : List Local → Act (Unit {0})
add_locals added = λ s. Done tt (record s { locals = s.locals ++ added })

-- the locals in reach in front of those that the block begins with, and all of them in the scope of the block
module _ {A : Type 0} (w : Setting) (reached outer added : List Local) (place : Option ℕ) (s : State) (r : IsInReach reached outer) (b : IsBehind reached added s) (act : Act A) (h : RunsBehind act) where
  abbrev inside : Outcome A → Outcome A
  inside o = and_then o (λ a. leave_to w (length outer) >> pure a)

  abbrev pub in_block : Outcome A
  in_block = in_scope w (add_locals added >> act) (record s { locals = outer; place = place })

  -- where what it added owns nothing at its end, the locals and the place are those from outside again
  pub block_ends : (a : A) (u : State) → act s ≡ Done a u → (later : List Local) × (u.locals ≡ reached ++ later) × (OwnNothing later → in_block ≡ Done a (record u { locals = outer; place = place }))
  block_ends a u done =
      let (later, behind, same) = subst (λ o. EndsBehind reached outer place o (act (behind_all outer added place s))) done (h.alike reached outer added place s r b) in (
        later,
        behind.locals,
        λ plain. ap inside same ∙ ap (λ n. (leave_to w n >> pure a) (behind_all outer later place u)) (ap length (sym (append-nil outer)))
            ∙ ap (λ o. and_then o (λ _. pure a)) (leaves w outer [] later (behind_all outer later place u) refl)
            ∙ ap (λ o. and_then (and_then o (λ _. keep_locals (outer ++ []))) (λ _. pure a)) (drops_plain w later (record u { locals = []; place = place }) plain)
            ∙ ap (λ ls. Done a (record u { locals = ls; place = place })) (append-nil outer),
      )

  -- where it is stopped, and not stuck, so it is outside
  pub block_stops : (e : Stop) (t : State) → ((n : ℕ) → e ≢ stop_of.Stuck n) → act s ≡ Stopped e t → (locals : List Local) × (in_block ≡ Stopped e (record t { locals = locals; place = place }))
  block_stops e t ns stopped =
      let (locals, same) = subst (λ o. EndsBehind reached outer place o (act (behind_all outer added place s))) stopped (h.alike reached outer added place s r b) ns in
      (locals, ap inside same)
