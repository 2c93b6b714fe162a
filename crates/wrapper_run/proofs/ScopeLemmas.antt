-- Code ends as it does without the locals that it does not name, and a scope does: its own locals are the last ones, and no others.
use Rattle.std.proofs.Common.{◌≡◌, ℕ, Bool, true, false, not, cond, List, [], ◌∷◌, ◌++◌, Option, None, Some, length, map, refl, sym, ap, ◌∙◌, append-nil, append_assoc, arith, drop, take}
use Rattle.std.specs.Prelude.{filter, option_and_then}
use Rattle.std.specs.List.{list_any}
use Rattle.std.specs.Option.{option_map}
use Rattle.std.specs.Str.{bytes_eq}
use Rattle.std.proofs.Math.Seq.{drop-append_seam, take-append_seam}
use Rattle.std.proofs.lemmas.List.{length-append, length-map, take-append-drop, take-map, nil_from_length}
use Rattle.std.proofs.lemmas.List.Elements.{filter-append}
use Rattle.wit_model.specs.Bytes.{Bytes}
use Rattle.rust_tree.specs.declared.expr.Expr.{Expr}
use Rattle.rust_tree.specs.declared.stmt.Block.{Block as Code}
use Rattle.wrapper_values.specs.declared.owning.View.{View}
use Rattle.wrapper_values.specs.declared.state.Local.{Local}
use Rattle.wrapper_values.specs.declared.state.State.{State}
use Rattle.wrapper_values.specs.declared.state.Val.{Val}
use Rattle.wrapper_values.specs.declared.state.Val.TheVariants as val
use Rattle.wrapper_data.specs.declared.run.Stop.{Stop}
use Rattle.wrapper_values.specs.Act.{Act, Outcome, Done, Stopped, ◌>>=◌, ◌>>◌, and_then, or_stop, pure, stop}
use Rattle.wrapper_run.specs.Blocks.{dealloc, drop_local, drop_locals, free, free_all, in_scope, keep_locals, leave_to, lift_text, release, store_small, store_word}
use Rattle.wrapper_run.specs.Growth.{state_of}
use Rattle.wrapper_values.specs.Locals.{ask_local, bind, changed, declare, give_local, holding, lend_local, local_named, slot_with, usable, use_local, used, value_of, write_slot}
use Rattle.wrapper_values.specs.Owning.{lent, owned, owned_in, view}
use Rattle.wrapper_run.specs.Places.{place_area, static_pointer}
use Rattle.wrapper_run.specs.Results.{run_inner, run_results}
use Rattle.wrapper_run.specs.Run.{call_import, call_point, eval, load_small, load_word, run_block, take_bytes}
use Rattle.wrapper_values.specs.Setting.{Setting, stuck}
use Rattle.wrapper_run.specs.UnusedLocals.{DoneIgnoresOthers, is_block_known, known_locals, narrowed, narrowed_end, other_locals}
use Rattle.wrapper_run.proofs.Acts.{deallocates, lifts, loads_number, loads_word, stores_number, stores_word, takes_bytes}
use Rattle.wrapper_run.proofs.UnusedLemmas.{Aside, IgnoresOthers, aside_acts, aside_call, aside_declare, aside_free, aside_or_stop, aside_place, aside_pure, aside_release, aside_static, aside_stop, aside_then, call_with, ignores_aside, ignores_ask, ignores_bind, ignores_import, ignores_lend, ignores_take, ignores_use, ignores_write, unchanged}
use Rattle.wrapper_run.proofs.Walk.{Everywhere, known_expr, walks_block, walks_expr, walks_given}

-- 1. Locals are added at the end, and keep their names

abbrev pub names : List Local → List Bytes
names locals = map (λ l. l.name) locals

-- behind the locals of a state
abbrev AreBehind : State → List Local → Type 0
AreBehind s locals = (more : List Bytes) × (names locals ≡ names s.locals ++ more)

-- where the act is done: one that is stopped may have none left
record Adds {A : Type 0} (act : Act A) : Type 0 where
  adds : (s t : State) (a : A) → act s ≡ Done a t → AreBehind s t.locals

-- whose names are these
adds_alike : {A : Type 0} (act : Act A) → ((s : State) → names (state_of (act s)).locals ≡ names s.locals) → Adds act
adds_alike {A = A} act h = record { adds = λ s t a e. ([], ap (λ (o : Outcome A). names (state_of o).locals) (sym e) ∙ h s ∙ sym (append-nil (names s.locals))) }

adds_aside : {A : Type 0} (act : Act A) → Aside act → Adds act
adds_aside act h = adds_alike act (λ s. ap names (unchanged act h s))

adds_then : {A B : Type 0} (act : Act A) (f : A → Act B) → Adds act → ((a : A) → Adds (f a)) → Adds (act >>= f)
adds_then {A = A} {B = B} act f h k = record { adds = λ s t b e. go s (act s) (h.adds s) t b e }
  where
    go : (s : State) (o : Outcome A) → ((u : State) (a : A) → o ≡ Done a u → AreBehind s u.locals) → (t : State) (b : B) → and_then o f ≡ Done b t → AreBehind s t.locals
    go s (Stopped x u) p t b e = absurd (cc)
    go s (Done a u) p t b e =
        let (more, is) = p u a refl in
        let (further, are) = (k a).adds u t b e in
        (more ++ further, are ∙ ap (λ ns. ns ++ further) is ∙ append_assoc (names s.locals) more further)

names-changed : (v : Option Val) (name : Bytes) (ls : List Local) → names (changed v name ls) ≡ names ls
names-changed v name [] = refl
names-changed v name (l ∷ ls) = go (list_any (λ m. bytes_eq m.name name) ls) (bytes_eq l.name name) (names-changed v name ls)
  where
    go : (any here : Bool) → names (changed v name ls) ≡ names ls → names (cond any (l ∷ changed v name ls) (cond here (holding v l) l ∷ ls)) ≡ l.name ∷ names ls
    go true here more = ap (λ ns. l.name ∷ ns) more
    go false true more = refl
    go false false more = refl

adds_used : (name : Bytes) (v : Val) (addresses : List ℕ) → Adds (used name v addresses)
adds_used name v [] = adds_aside (pure v) (aside_pure v)
adds_used name v (a ∷ more) = adds_alike (used name v (a ∷ more)) (λ s. names-changed None name s.locals)

-- an act by what the newest local of a name is
adds_named : {A : Type 0} (name : Bytes) (f : Option Local → Act A) → ((o : Option Local) → Adds (f o)) → Adds (λ s. f (local_named name s.locals) s)
adds_named name f h = record { adds = λ s. (h (local_named name s.locals)).adds s }

adds_or_stop : {A : Type 0} (e : Stop) (o : Option A) → Adds (or_stop e o)
adds_or_stop e o = adds_aside (or_stop e o) (aside_or_stop e o)

adds_use : (e : Stop) (name : Bytes) → Adds (use_local e name)
unfolding use_local
adds_use e name =
    adds_named name (λ o. or_stop e (option_and_then usable (value_of o)) >>= (λ v. used name v (owned v)))
    (λ o. adds_then (or_stop e (option_and_then usable (value_of o))) (λ v. used name v (owned v)) (adds_or_stop e (option_and_then usable (value_of o))) (λ v. adds_used name v (owned v)))

adds_lend : (e : Stop) (name : Bytes) → Adds (lend_local e name)
unfolding lend_local
adds_lend e name = adds_named name (λ o. or_stop e (option_and_then lent (value_of o))) (λ o. adds_or_stop e (option_and_then lent (value_of o)))

adds_ask : (e : Stop) (of : View) (name : Bytes) → Adds (ask_local e of name)
unfolding ask_local
adds_ask e of name = adds_named name (λ o. or_stop e (option_map val.Word (option_and_then (view of) (value_of o)))) (λ o. adds_or_stop e (option_map val.Word (option_and_then (view of) (value_of o))))

names-append : (xs ys : List Local) → names (xs ++ ys) ≡ names xs ++ names ys
names-append [] ys = refl
names-append (x ∷ xs) ys = ap (λ ns. x.name ∷ ns) (names-append xs ys)

adds_bind : (name : Bytes) (v : Val) → Adds (bind name v)
unfolding bind
adds_bind name v = record { adds = λ s t u e. (name ∷ [], ap (λ (o : Outcome (Unit {0})). names (state_of o).locals) (sym e) ∙ names-append s.locals (record { name = name; value = Some v } ∷ [])) }

adds_write : (e : Stop) (name : Bytes) (v : Val) → Adds (write_slot e name v)
unfolding write_slot
adds_write e name v =
    adds_named name (λ o. or_stop e (option_and_then (slot_with v) (value_of o)) >>= give_local name)
    (λ o. adds_then (or_stop e (option_and_then (slot_with v) (value_of o))) (give_local name) (adds_or_stop e (option_and_then (slot_with v) (value_of o)))
    (λ x. adds_alike (give_local name x) (λ s. names-changed (Some x) name s.locals)))

adds_import : (w : Setting) (name : Bytes) (vs : List Val) → Adds (call_import w name vs)
unfolding call_point
adds_import w name vs = adds_named name (λ l. call_with w l name vs) (λ l. adds_aside (call_with w l name vs) (aside_call w l name vs))

-- 2. So what was added is known, where all others stay

-- locals of equal names
alike : (p : Bytes → Bool) (xs ys : List Local) → names xs ≡ names ys → length (filter (λ (l : Local). p l.name) xs) ≡ length (filter (λ (l : Local). p l.name) ys)
alike p [] [] e = refl
alike p [] (y ∷ ys) e = absurd (cc)
alike p (x ∷ xs) [] e = absurd (cc)
alike p (x ∷ xs) (y ∷ ys) e =
    let same : x.name ≡ y.name = cc in
    let rest : names xs ≡ names ys = cc in
    go (p x.name) (alike p xs ys rest) ∙ ap (λ n. length (cond (p n) (y ∷ filter (λ (l : Local). p l.name) ys) (filter (λ (l : Local). p l.name) ys))) same
  where
    go : (b : Bool) → length (filter (λ (l : Local). p l.name) xs) ≡ length (filter (λ (l : Local). p l.name) ys)
        → length (cond b (x ∷ filter (λ (l : Local). p l.name) xs) (filter (λ (l : Local). p l.name) xs)) ≡ length (cond b (y ∷ filter (λ (l : Local). p l.name) ys) (filter (λ (l : Local). p l.name) ys))
    go true more = omega (more, arith)
    go false more = more

all_known : (known : Bytes → Bool) (ls : List Local) → length (other_locals known ls) ≡ 0 → known_locals known ls ≡ ls
all_known known [] e = refl
all_known known (l ∷ ls) e = go (known l.name) e (all_known known ls)
  where
    go : (b : Bool) → length (cond (not b) (l ∷ other_locals known ls) (other_locals known ls)) ≡ 0 → (length (other_locals known ls) ≡ 0 → known_locals known ls ≡ ls) → cond b (l ∷ known_locals known ls) (known_locals known ls) ≡ l ∷ ls
    go true e more = ap (λ ls. l ∷ ls) (more e)
    go false e more = absurd (omega (e, arith))

-- the locals of a scope, and those behind them that it added
record Parted (known : Bytes → Bool) (outer locals : List Local) : Type 0 where
  taken : take (length (known_locals known outer)) (known_locals known locals) ≡ known_locals known (take (length outer) locals)
  dropped : drop (length (known_locals known outer)) (known_locals known locals) ≡ drop (length outer) locals
  others : other_locals known (take (length outer) locals) ≡ other_locals known outer

parts : (known : Bytes → Bool) (outer locals : List Local) (more : List Bytes) → names locals ≡ names outer ++ more → other_locals known locals ≡ other_locals known outer → Parted known outer locals
parts known outer locals more named kept =
    let n = length outer in
    let p = take n locals in
    let q = drop n locals in
    let whole : p ++ q ≡ locals = take-append-drop n locals in
    let counted : length (names outer) ≡ n = length-map outer (λ (l : Local). l.name) in
    let same : names p ≡ names outer = sym (take-map (λ (l : Local). l.name) n locals) ∙ ap (take n) named ∙ ap (λ m. take m (names outer ++ more)) (sym counted) ∙ take-append_seam (names outer) more in
    let other : other_locals known p ++ other_locals known q ≡ other_locals known outer = sym (filter-append (λ (l : Local). not (known l.name)) p q) ∙ ap (other_locals known) whole ∙ kept in
    let fewer : length (other_locals known q) ≡ 0 = omega (ap length other, length-append (other_locals known p) (other_locals known q), alike (λ n. not (known n)) p outer same, arith) in
    let split : known_locals known locals ≡ known_locals known p ++ q =
    ap (known_locals known) (sym whole) ∙ filter-append (λ (l : Local). known l.name) p q ∙ ap (λ ls. known_locals known p ++ ls) (all_known known q fewer) in
    let at : length (known_locals known outer) ≡ length (known_locals known p) = sym (alike known p outer same) in
    record {
      taken = ap (λ m. take m (known_locals known locals)) at ∙ ap (take (length (known_locals known p))) split ∙ take-append_seam (known_locals known p) q;
      dropped = ap (λ m. drop m (known_locals known locals)) at ∙ ap (drop (length (known_locals known p))) split ∙ drop-append_seam (known_locals known p) q;
      others = sym (append-nil (other_locals known p)) ∙ ap (λ ls. other_locals known p ++ ls) (sym (nil_from_length (other_locals known q) fewer)) ∙ other;
    }

-- 3. The end of a scope

aside_free_all : (w : Setting) (addresses : List ℕ) → Aside (free_all w addresses)
aside_free_all w [] = aside_pure tt
aside_free_all w (a ∷ more) = aside_then (free w a) (λ _. free_all w more) (aside_free w a) (λ _. aside_free_all w more)

aside_drop_locals : (w : Setting) (ls : List Local) → Aside (drop_locals w ls)
aside_drop_locals w [] = aside_pure tt
aside_drop_locals w (l ∷ ls) = aside_then (drop_locals w ls) (λ _. drop_local w l.value) (aside_drop_locals w ls) (λ _. aside_free_all w (owned_in l.value))

leaves : {A : Type 0} (w : Setting) (known : Bytes → Bool) (outer : List Local) (t : State) (a : A) → Parted known outer t.locals
    → (leave_to w (length (known_locals known outer)) >> pure a) (narrowed known t) ≡ narrowed_end known ((leave_to w (length outer) >> pure a) t)
unfolding leave_to
leaves {A = A} w known outer t a parted =
    let bare : State = record t { locals = [] } in
    ap (λ ls. and_then (and_then (drop_locals w ls bare) (λ _. keep_locals (take (length (known_locals known outer)) (known_locals known t.locals)))) (λ _. pure a)) parted.dropped
    ∙ ap (λ ls. and_then (and_then (drop_locals w (drop (length outer) t.locals) bare) (λ _. keep_locals ls)) (λ _. pure a)) parted.taken
    ∙ go (take (length outer) t.locals) (drop_locals w (drop (length outer) t.locals) bare) (unchanged (drop_locals w (drop (length outer) t.locals)) (aside_drop_locals w (drop (length outer) t.locals)) bare)
  where
    go : (ls : List Local) (o : Outcome (Unit {0})) → (state_of o).locals ≡ []
        → and_then (and_then o (λ _. keep_locals (known_locals known ls))) (λ _. pure a) ≡ narrowed_end known (and_then (and_then o (λ _. keep_locals ls)) (λ _. pure a))
    go ls (Done b u) e = refl
    go ls (Stopped x u) e = ap (λ ls. Stopped x (record u { locals = ls })) e ∙ ap (λ ls. Stopped x (record u { locals = known_locals known ls })) (sym e)

kept_leaving : {A : Type 0} (w : Setting) (known : Bytes → Bool) (outer : List Local) (t u : State) (a b : A) → Parted known outer t.locals
    → (leave_to w (length outer) >> pure a) t ≡ Done b u → other_locals known u.locals ≡ other_locals known outer
unfolding leave_to
kept_leaving {A = A} w known outer t u a b parted e = go (drop_locals w (drop (length outer) t.locals) (record t { locals = [] })) e ∙ parted.others
  where
    go : (o : Outcome (Unit {0})) → and_then (and_then o (λ _. keep_locals (take (length outer) t.locals))) (λ _. pure a) ≡ Done b u → other_locals known u.locals ≡ other_locals known (take (length outer) t.locals)
    go (Done c v) e = ap (λ (o : Outcome A). other_locals known (state_of o).locals) (sym e)
    go (Stopped x v) e = absurd (cc)

-- a scope leaves the locals that were there

ended : {A : Type 0} (w : Setting) (kept : ℕ) (t u : State) (a b : A) → (leave_to w kept >> pure a) t ≡ Done b u → u.locals ≡ take kept t.locals
unfolding leave_to
ended {A = A} w kept t u a b e = go (drop_locals w (drop kept t.locals) (record t { locals = [] })) e
  where
    go : (o : Outcome (Unit {0})) → and_then (and_then o (λ _. keep_locals (take kept t.locals))) (λ _. pure a) ≡ Done b u → u.locals ≡ take kept t.locals
    go (Done c v) e = ap (λ (o : Outcome A). (state_of o).locals) (sym e)
    go (Stopped x v) e = absurd (cc)

adds_scope : {A : Type 0} (w : Setting) (act : Act A) → Adds act → Adds (in_scope w act)
adds_scope {A = A} w act h = record { adds = λ s u b e. go s (act s) (h.adds s) u b e }
  where
    go : (s : State) (o : Outcome A) → ((t : State) (a : A) → o ≡ Done a t → AreBehind s t.locals) → (u : State) (b : A) → and_then o (λ a. leave_to w (length s.locals) >> pure a) ≡ Done b u → AreBehind s u.locals
    go s (Stopped x t) p u b e = absurd (cc)
    go s (Done a t) p u b e =
        let (more, named) = p t a refl in
        let counted : length (names s.locals) ≡ length s.locals = length-map s.locals (λ (l : Local). l.name) in
        let kept : names (take (length s.locals) t.locals) ≡ names s.locals =
        sym (take-map (λ (l : Local). l.name) (length s.locals) t.locals) ∙ ap (take (length s.locals)) named ∙ ap (λ m. take m (names s.locals ++ more)) (sym counted) ∙ take-append_seam (names s.locals) more in
        ([], ap names (ended w (length s.locals) t u a b e) ∙ kept ∙ sym (append-nil (names s.locals)))

-- an act in a scope of its own
ignores_scope : {A : Type 0} (w : Setting) (known : Bytes → Bool) (act : Act A) → Adds act → DoneIgnoresOthers known act → DoneIgnoresOthers known (in_scope w act)
ignores_scope {A = A} w known act added h = record {
  same = λ s. ap (λ o. and_then o (λ a. leave_to w (length (known_locals known s.locals)) >> pure a)) (h.same s) ∙ ends s (act s) (added.adds s) (h.kept s);
  kept = λ s t a e. stay s (act s) (added.adds s) (h.kept s) t a e;
}
  where
    ends : (s : State) (o : Outcome A) → ((t : State) (a : A) → o ≡ Done a t → AreBehind s t.locals) → ((t : State) (a : A) → o ≡ Done a t → other_locals known t.locals ≡ other_locals known s.locals)
        → and_then (narrowed_end known o) (λ a. leave_to w (length (known_locals known s.locals)) >> pure a) ≡ narrowed_end known (and_then o (λ a. leave_to w (length s.locals) >> pure a))
    ends s (Done a t) named others = let (more, is) = named t a refl in leaves w known s.locals t a (parts known s.locals t.locals more is (others t a refl))
    ends s (Stopped e t) named others = refl

    stay : (s : State) (o : Outcome A) → ((t : State) (a : A) → o ≡ Done a t → AreBehind s t.locals) → ((t : State) (a : A) → o ≡ Done a t → other_locals known t.locals ≡ other_locals known s.locals)
        → (u : State) (b : A) → and_then o (λ a. leave_to w (length s.locals) >> pure a) ≡ Done b u → other_locals known u.locals ≡ other_locals known s.locals
    stay s (Done a t) named others u b e = let (more, is) = named t a refl in kept_leaving w known s.locals t u a b (parts known s.locals t.locals more is (others t a refl)) e
    stay s (Stopped x t) named others u b e = absurd (cc)

-- 4. All code

done_ignores : {A : Type 0} (known : Bytes → Bool) (act : Act A) → IgnoresOthers known act → DoneIgnoresOthers known act
done_ignores {A = A} known act h = record { same = h.same; kept = λ s t a e. ap (λ (o : Outcome A). other_locals known (state_of o).locals) (sym e) ∙ h.kept s }

done_then : {A B : Type 0} (known : Bytes → Bool) (act : Act A) (f : A → Act B) → DoneIgnoresOthers known act → ((a : A) → DoneIgnoresOthers known (f a)) → DoneIgnoresOthers known (act >>= f)
done_then {A = A} {B = B} known act f h k = record {
  same = λ s. ap (λ o. and_then o f) (h.same s) ∙ ends (act s);
  kept = λ s t b e. others s (act s) (h.kept s) t b e;
}
  where
    ends : (o : Outcome A) → and_then (narrowed_end known o) f ≡ narrowed_end known (and_then o f)
    ends (Done a t) = (k a).same t
    ends (Stopped e t) = refl

    others : (s : State) (o : Outcome A) → ((u : State) (a : A) → o ≡ Done a u → other_locals known u.locals ≡ other_locals known s.locals) → (t : State) (b : B) → and_then o f ≡ Done b t
        → other_locals known t.locals ≡ other_locals known s.locals
    others s (Done a u) p t b e = (k a).kept u t b e ∙ p u a refl
    others s (Stopped x u) p t b e = absurd (cc)

-- an act adds locals at the end alone, and ends as it does without the others
abbrev Scoped : (Bytes → Bool) → (A : Type 0) → Act A → Type 0
Scoped known A act = Adds act × DoneIgnoresOthers known act

scoped : {A : Type 0} (known : Bytes → Bool) (act : Act A) → Adds act → IgnoresOthers known act → Scoped known A act
scoped known act a i = (a, done_ignores known act i)

scoped_aside : {A : Type 0} (known : Bytes → Bool) (act : Act A) → Aside act → Scoped known A act
scoped_aside known act h = scoped known act (adds_aside act h) (ignores_aside known act h)

scoped_everywhere : (w : Setting) (known : Bytes → Bool) → Everywhere w known (Scoped known)
scoped_everywhere w known = record {
  gives = λ A a. scoped_aside known (pure a) (aside_pure a);
  stops = λ A e. scoped_aside known (stop e) (aside_stop e);
  follows = λ A B act f h k. (adds_then act f h.0 (λ a. (k a).0), done_then known act f h.1 (λ a. (k a).1));
  uses = λ name k. scoped known (use_local (stuck w) name) (adds_use (stuck w) name) (ignores_use known (stuck w) name k);
  lends = λ name k. scoped known (lend_local (stuck w) name) (adds_lend (stuck w) name) (ignores_lend known (stuck w) name k);
  asks = λ of name k. scoped known (ask_local (stuck w) of name) (adds_ask (stuck w) of name) (ignores_ask known (stuck w) of name k);
  binds = λ name v k. scoped known (bind name v) (adds_bind name v) (ignores_bind known name v k);
  declares = λ d. scoped_aside known (declare d) (aside_declare d);
  frees = λ address. scoped_aside known (free w address) (aside_free w address);
  releases = λ address. scoped_aside known (release w address) (aside_release w address);
  deallocates = λ address size. scoped_aside known (dealloc w address size) (deallocates w (λ A act. Aside act) (aside_acts w) address size);
  takes = λ name v k.
      scoped known (λ s. take_bytes w (value_of (local_named name s.locals)) v s) (adds_named name (λ o. take_bytes w (value_of o) v) (λ o. adds_aside (take_bytes w (value_of o) v) (takes_bytes w (λ A act. Aside act) (aside_acts w) (value_of o) v))) (ignores_take w known name v k);
  lifts = λ v. scoped_aside known (lift_text w v) (lifts w (λ A act. Aside act) (aside_acts w) v);
  loads = λ offset ty v. scoped_aside known (load_word w offset ty v) (loads_word w (λ A act. Aside act) (aside_acts w) offset ty v);
  loads_small = λ offset ty v. scoped_aside known (load_small w offset ty v) (loads_number w (λ A act. Aside act) (aside_acts w) offset ty v);
  stores = λ offset ty v at. scoped_aside known (store_word w offset ty v at) (stores_word w (λ A act. Aside act) (aside_acts w) offset ty v at);
  stores_small = λ offset ty v at. scoped_aside known (store_small w offset ty v at) (stores_number w (λ A act. Aside act) (aside_acts w) offset ty v at);
  places = λ r. scoped_aside known (place_area w r) (aside_place w r);
  static = scoped_aside known (static_pointer w) (aside_static w);
  calls = λ name vs k. scoped known (call_import w name vs) (adds_import w name vs) (ignores_import w known name vs k);
  writes = λ name v k. scoped known (write_slot (stuck w) name v) (adds_write (stuck w) name v) (ignores_write known (stuck w) name v k);
  scopes = λ A act h. (adds_scope w act h.0, ignores_scope w known act h.0 h.1);
}

pub ignores_block : (w : Setting) (known : Bytes → Bool) (b : Code) → is_block_known known b ≡ true → DoneIgnoresOthers known (run_block w b)
ignores_block w known b k = (walks_block w known (Scoped known) (scoped_everywhere w known) b k).1

pub ignores_inner : (w : Setting) (known : Bytes → Bool) (b : Code) → is_block_known known b ≡ true → DoneIgnoresOthers known (run_inner w b)
ignores_inner w known b k = let h = walks_given w known (Scoped known) (scoped_everywhere w known) b k in ignores_scope w known (run_results w b) h.0 h.1

-- an expression that is evaluated adds locals at the end alone
pub names_kept : (w : Setting) (e : Expr) (s t : State) (v : Val) → eval w e s ≡ Done v t → (more : List Bytes) × (names t.locals ≡ names s.locals ++ more)
names_kept w e =
    let every : Bytes → Bool = λ _. true in
    (walks_expr w every (Scoped every) (scoped_everywhere w every) e (known_expr every (λ _. refl) e)).0.adds
