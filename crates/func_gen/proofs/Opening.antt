-- A block is opened: what its code finds where it begins.
use Rattle.std.proofs.Common.{◌≡◌, ℕ, ◌≤◌, Bool, true, false, cond, not, List, [], ◌∷◌, ◌++◌, length, filter, map, reverse, Option, None, Some, refl, sym, ap, ap₂, ◌∙◌, subst, arith, append-nil}
use Rattle.std.specs.Prelude.{option_and_then, option_map}
use Rattle.std.specs.List.{AllByRecursion, flat_map}
use Rattle.std.specs.Option.{option_or}
use Rattle.std.specs.Str.{bytes_eq}
use Rattle.std.proofs.lemmas.Bool.{or_parts}
use Rattle.std.proofs.lemmas.Grind.{flat_map-append}
use Rattle.std.proofs.lemmas.Slice.Eq.{bytes_eq-Decides}
use Rattle.rust_tree.specs.Ident.{rust_ident}
use Rattle.rust_tree.specs.declared.item.Item.{Item}
use Rattle.wit_layout.specs.Filled.{IsFilledFor}
use Rattle.wit_model.specs.Bytes.{Bytes}
use Rattle.wrapper_data.specs.declared.choice.Request.{Request}
use Rattle.wrapper_data.specs.declared.run.Target.TheVariants as target
use Rattle.wrapper_data.specs.declared.value.RustValue.{RustValue}
use Rattle.wrapper_data.specs.declared.word.Word.{Word}
use Rattle.wrapper_data.specs.declared.word.Word.TheVariants as core
use Rattle.wrapper_meaning.specs.Items.{SameItems, total}
use Rattle.wrapper_meaning.proofs.PostReturn.{total-append}
use Rattle.wrapper_values.specs.declared.state.Local.{Local}
use Rattle.wrapper_values.specs.declared.state.State.{State}
use Rattle.wrapper_values.specs.declared.state.Val.{Val}
use Rattle.wrapper_values.specs.declared.state.Val.TheVariants as val
use Rattle.wrapper_values.specs.Locals.{emptied, local_named, usable, value_of}
use Rattle.wrapper_values.specs.Owning.{owned, owned_by, owned_in}
use Rattle.wrapper_run.specs.OuterLocals.{IsInReach, OwnNothing}
use Rattle.wrapper_run.proofs.LocalLemmas.{bytes_eq-same}
use Rattle.wrapper_run.proofs.OuterLemmas.{named-append}
use Rattle.abi_bindgen.specs.declared.bindgen.Asked.{Asked}
use Rattle.abi_bindgen.specs.Area.{HoldsRecord}
use Rattle.abi_bindgen.specs.Blocks.{IsOfWord, Lasts, Pushes, brought, names}
use Rattle.abi_bindgen.specs.Laws.{Facts}
use Rattle.abi_bindgen.proofs.AllLemmas.{all_both, all_left, all_right}
use Rattle.abi_bindgen.specs.Meaning.{Bound, Fact, Name, at_place, bound, item, the_base, the_element, the_key, the_payload, the_value, with_element, with_entry, with_nothing, with_payload, word}
use Rattle.func_gen.specs.declared.function_bindgen.Code.{Code}
use Rattle.func_gen.specs.declared.function_bindgen.FunctionBindgen.{FunctionBindgen}
use Rattle.func_gen.specs.declared.function_bindgen.OpenBlock.{OpenBlock}
use Rattle.func_gen.specs.declared.function_bindgen.ParamSite.{ParamSite}
use Rattle.func_gen.specs.declared.operand.ExprOperand.{ExprOperand}
use Rattle.func_gen.specs.CallForms.{FreshAll}
use Rattle.func_gen.specs.Entered.{binding, bindings, entered, is_nothing, reached, without_owner}
use Rattle.func_gen.specs.FactLemmas.{one_at_most, said}
use Rattle.func_gen.specs.Facts.{Hold, Owns, fact_datum, fact_value, matches, wrong}
use Rattle.func_gen.specs.Meaning.{AllAsCalled, AreaIs, Denote, File, Found, FuncState, GivesAsCalled, Serves, func_meaning, owns_of}
use Rattle.func_gen.specs.Opened.{open_blocks}
use Rattle.func_gen.specs.Read.{Env, env_of, less}
use Rattle.func_gen.specs.ReadForms.{still_there}
use Rattle.func_gen.specs.Scope.{is_used}
use Rattle.func_gen.specs.Slot.{Slot, block_names, slot_name}
use Rattle.func_gen.specs.Suspends.{Suspends}
use Rattle.func_gen.specs.TypeSites.{AreDefined}
use Rattle.func_gen.specs.Written.{CanWrite}
use Rattle.func_gen.proofs.CallRows.{declared_as, split_used}
use Rattle.func_gen.proofs.Lasting.{denotes_on, lasts}
use Rattle.func_gen.proofs.NameRows.{opened_more}
use Rattle.func_gen.proofs.Narrowed.{words_narrowed}
use Rattle.func_gen.proofs.Rows.{unmoved}

-- 1. Which locals are reached

named_kept : (l : Local) → (without_owner l).name ≡ l.name
named_kept l = go (is_nothing (owned_in l.value))
  where
    go : (b : Bool) → (let m : Local = cond b l (emptied l) in m.name) ≡ l.name
    go true = refl
    go false = refl

plain_kept : (l : Local) → owned_in (without_owner l).value ≡ []
plain_kept l = go (owned_in l.value) refl
  where
    go : (os : List ℕ) → owned_in l.value ≡ os → owned_in (let m : Local = cond (is_nothing os) l (emptied l) in m.value) ≡ []
    go [] e = e
    go (a ∷ os) e = refl

bare_stays : (l : Local) (z : Val) → l.value ≡ Some z → owned z ≡ [] → (without_owner l).value ≡ Some z
bare_stays l z e none = ap (λ os. let m : Local = cond (is_nothing os) l (emptied l) in m.value) (ap owned_in e ∙ none) ∙ e

reached_plain : (used : List Bytes) (ls : List Local) → OwnNothing (reached used ls)
reached_plain used [] = tt
reached_plain used (l ∷ ls) = go (is_used used l.name) (reached_plain used ls)
  where
    go : (b : Bool) → OwnNothing (reached used ls) → OwnNothing (map without_owner (cond b (l ∷ filter (λ (m : Local). is_used used m.name) ls) (filter (λ (m : Local). is_used used m.name) ls)))
    go true ih = (plain_kept l, ih)
    go false ih = ih

kept_or : (o p : Option Local) → option_or (option_map without_owner o) (option_map without_owner p) ≡ option_map without_owner (option_or o p)
kept_or None p = refl
kept_or (Some l) p = refl

kept_if : (b : Bool) (l : Local) → (let o : Option Local = cond b (Some (without_owner l)) None in o) ≡ option_map without_owner (cond b (Some l) None)
kept_if true l = refl
kept_if false l = refl

or_none : (o : Option Local) → o ≡ option_or o None
or_none None = refl
or_none (Some l) = refl

-- a name that is not used is another
pub other_name : (used : List Bytes) (l : Local) (n : Bytes) (b : Bool) → is_used used l.name ≡ b → is_used used n ≡ not b → bytes_eq l.name n ≡ false
other_name used l n b e f = go (bytes_eq l.name n) refl
  where
    differ : (b : Bool) → is_used used l.name ≡ b → is_used used n ≡ not b → is_used used l.name ≡ is_used used n → false ≡ true
    differ true e f same = sym f ∙ sym same ∙ e
    differ false e f same = sym e ∙ same ∙ f

    go : (c : Bool) → bytes_eq l.name n ≡ c → c ≡ false
    go false is = refl
    go true is = sym (differ b e f (ap (is_used used) ((bytes_eq-Decides l.name n).0 is)))

-- of a used name it is the same, but for what it owns
reached_same : (used : List Bytes) (n : Bytes) → is_used used n ≡ true → (ls : List Local) → local_named n (reached used ls) ≡ option_map without_owner (local_named n ls)
reached_same used n u [] = refl
reached_same used n u (l ∷ ls) = go (is_used used l.name) refl (reached_same used n u ls)
  where
    rest : List Local
    rest = filter (λ (m : Local). is_used used m.name) ls

    go : (b : Bool) → is_used used l.name ≡ b → local_named n (reached used ls) ≡ option_map without_owner (local_named n ls)
        → local_named n (map without_owner (cond b (l ∷ rest) rest)) ≡ option_map without_owner (option_or (local_named n ls) (cond (bytes_eq l.name n) (Some l) None))
    go true e ih =
        ap₂ (λ o (m : Bytes). option_or o (cond (bytes_eq m n) (Some (without_owner l)) None)) ih (named_kept l)
        ∙ ap (option_or (option_map without_owner (local_named n ls))) (kept_if (bytes_eq l.name n) l) ∙ kept_or (local_named n ls) (cond (bytes_eq l.name n) (Some l) None)
    go false e ih =
        ih ∙ ap (option_map without_owner) (or_none (local_named n ls) ∙ ap (λ c. option_or (local_named n ls) (cond c (Some l) None)) (sym (other_name used l n false e u)))

-- of another there is none
pub reached_none : (used : List Bytes) (n : Bytes) → is_used used n ≡ false → (ls : List Local) → local_named n (reached used ls) ≡ None
reached_none used n u [] = refl
reached_none used n u (l ∷ ls) = go (is_used used l.name) refl (reached_none used n u ls)
  where
    rest : List Local
    rest = filter (λ (m : Local). is_used used m.name) ls

    go : (b : Bool) → is_used used l.name ≡ b → local_named n (reached used ls) ≡ None → local_named n (map without_owner (cond b (l ∷ rest) rest)) ≡ None
    go true e ih =
        ap₂ (λ o (m : Bytes). option_or o (cond (bytes_eq m n) (Some (without_owner l)) None)) ih (named_kept l)
        ∙ ap (λ c. let o : Option Local = cond c (Some (without_owner l)) None in o) (other_name used l n true e u)
    go false e ih = ih

-- so they are in reach, among those that are there
pub reached_in : (used : List Bytes) (ls : List Local) → IsInReach (reached used ls) ls
reached_in used ls = record { plain = reached_plain used ls; same = λ n v e. go n v (is_used used n) refl e }
  where
    whole : (l : Local) (v : Val) (b : Bool) → (let m : Local = cond b l (emptied l) in m.value) ≡ Some v → l.value ≡ Some v
    whole l v true e = e
    whole l v false e = absurd cc

    value_whole : (o : Option Local) (v : Val) → value_of (option_map without_owner o) ≡ Some v → value_of o ≡ Some v
    value_whole None v e = e
    value_whole (Some l) v e = whole l v (is_nothing (owned_in l.value)) e

    go : (n : Bytes) (v : Val) (b : Bool) → is_used used n ≡ b → value_of (local_named n (reached used ls)) ≡ Some v → value_of (local_named n ls) ≡ Some v
    go n v true u e = value_whole (local_named n ls) v (sym (ap value_of (reached_same used n u ls)) ∙ e)
    go n v false u e = absurd (let none : (let o : Option Val = None in o ≡ Some v) = sym (ap value_of (reached_none used n u ls)) ∙ e in cc)

plain_flat : (ls : List Local) → OwnNothing ls → flat_map (λ (l : Local). owned_in l.value) ls ≡ []
plain_flat [] p = refl
plain_flat (l ∷ ls) p = ap₂ (λ xs ys. xs ++ ys) p.0 (plain_flat ls p.1)

-- 2. What the names are bound to

record NotNamed (k : ℕ) (n : Bytes) : Type 0 where
  first : bytes_eq (slot_name the_payload k) n ≡ false
  base : bytes_eq (slot_name the_base k) n ≡ false
  key : bytes_eq (slot_name the_key k) n ≡ false
  value : bytes_eq (slot_name the_value k) n ≡ false

not_named : (k : ℕ) (n : Bytes) → is_used (block_names k) n ≡ false → NotNamed k n
not_named k n free =
    let a = or_parts _ _ free in
    let b = or_parts _ _ a.1 in
    let c = or_parts _ _ b.1 in
    let d = or_parts _ _ c.1 in
    let e = or_parts _ _ d.1 in
    record { first = a.0; base = b.0; key = d.0; value = e.0 }

unbound : (k : ℕ) (n : Bytes) (with : Bound RustValue) → NotNamed k n → local_named n (bindings k with) ≡ None
unbound k n with_nothing h = refl
unbound k n (with_payload a) h = ap (λ b. let o : Option Local = cond b (Some (binding the_payload k (val.Value a))) None in o) h.first
unbound k n (at_place q) h = ap (λ b. let o : Option Local = cond b (Some (binding the_base k (val.Word (core.Pointer q)))) None in o) h.base
unbound k n (with_element a q) h =
    ap₂ (λ b c. option_or (cond c (Some (binding the_base k (val.Word (core.Pointer q)))) None) (cond b (Some (binding the_element k (val.Value a))) None)) h.first h.base
unbound k n (with_entry x y q) h =
    ap₂ (λ b o. option_or o (cond b (Some (binding the_key k (val.Value x))) None)) h.key
    (ap₂ (λ b c. option_or (cond c (Some (binding the_base k (val.Word (core.Pointer q)))) None) (cond b (Some (binding the_value k (val.Value y))) None)) h.value h.base)

-- the names of a block are apart
apart-base : (k : ℕ) → bytes_eq (slot_name the_base k) (slot_name the_element k) ≡ false
apart-base k = refl

apart-base_key : (k : ℕ) → bytes_eq (slot_name the_base k) (slot_name the_key k) ≡ false
apart-base_key k = refl

apart-base_value : (k : ℕ) → bytes_eq (slot_name the_base k) (slot_name the_value k) ≡ false
apart-base_value k = refl

apart-value : (k : ℕ) → bytes_eq (slot_name the_value k) (slot_name the_key k) ≡ false
apart-value k = refl

abbrev IsBound : Env → ℕ → Bound RustValue → Type 0
IsBound env k with_nothing = Unit {0}
IsBound env k (with_payload a) = env (slot_name the_payload k) ≡ Some (val.Value a)
IsBound env k (at_place q) = env (slot_name the_base k) ≡ Some (val.Word (core.Pointer q))
IsBound env k (with_element a q) = (env (slot_name the_element k) ≡ Some (val.Value a)) × (env (slot_name the_base k) ≡ Some (val.Word (core.Pointer q)))
IsBound env k (with_entry x y q) =
    (env (slot_name the_key k) ≡ Some (val.Value x)) × (env (slot_name the_value k) ≡ Some (val.Value y)) × (env (slot_name the_base k) ≡ Some (val.Word (core.Pointer q)))

-- behind any others
are_bound : (k : ℕ) (with : Bound RustValue) (env : Env) → ((n : Bytes) (v : Val) → value_of (local_named n (bindings k with)) ≡ Some v → env n ≡ Some v) → IsBound env k with
are_bound k with_nothing env h = tt
are_bound k (with_payload a) env h =
    h (slot_name the_payload k) (val.Value a) (ap (λ b. value_of (cond b (Some (binding the_payload k (val.Value a))) None)) (bytes_eq-same (slot_name the_payload k)))
are_bound k (at_place q) env h =
    h (slot_name the_base k) (val.Word (core.Pointer q)) (ap (λ b. value_of (cond b (Some (binding the_base k (val.Word (core.Pointer q)))) None)) (bytes_eq-same (slot_name the_base k)))
are_bound k (with_element a q) env h =
    let x = binding the_element k (val.Value a) in
    let y = binding the_base k (val.Word (core.Pointer q)) in (
      h (slot_name the_element k) (val.Value a) (ap₂ (λ c b. value_of (option_or (cond c (Some y) None) (cond b (Some x) None))) (apart-base k) (bytes_eq-same (slot_name the_element k))),
      h (slot_name the_base k) (val.Word (core.Pointer q))
          (ap (λ c. value_of (option_or (cond c (Some y) None) (cond (bytes_eq (slot_name the_element k) (slot_name the_base k)) (Some x) None))) (bytes_eq-same (slot_name the_base k))),
    )
are_bound k (with_entry a b q) env h =
    let x = binding the_key k (val.Value a) in
    let y = binding the_value k (val.Value b) in
    let z = binding the_base k (val.Word (core.Pointer q)) in (
      h (slot_name the_key k) (val.Value a)
          (ap₂ (λ d o. value_of (option_or o (cond d (Some x) None))) (bytes_eq-same (slot_name the_key k)) (ap₂ (λ e c. option_or (cond e (Some z) None) (cond c (Some y) None)) (apart-base_key k) (apart-value k))),
      h (slot_name the_value k) (val.Value b)
          (ap (λ o. value_of (option_or o (cond (bytes_eq (slot_name the_key k) (slot_name the_value k)) (Some x) None)))
          (ap₂ (λ e c. option_or (cond e (Some z) None) (cond c (Some y) None)) (apart-base_value k) (bytes_eq-same (slot_name the_value k)))),
      h (slot_name the_base k) (val.Word (core.Pointer q))
          (ap (λ e. value_of (option_or (option_or (cond e (Some z) None) (cond (bytes_eq (slot_name the_value k) (slot_name the_base k)) (Some y) None)) (cond (bytes_eq (slot_name the_key k) (slot_name the_base k)) (Some x) None)))
          (bytes_eq-same (slot_name the_base k))),
    )

module _ (items : List Item) (params : List ParamSite) (slot : Slot) where
  item_right : (env : Env) (name : Name) (a : RustValue) → env (slot_name name slot.number) ≡ Some (val.Value a) → wrong items params env (bound slot name (item a)) ≡ 0
  item_right env name a e = said items params env (bound slot name (item a)) (ap (option_and_then usable) e)

  word_right : (env : Env) (name : Name) (x : Word) → env (slot_name name slot.number) ≡ Some (val.Word x) → wrong items params env (bound slot name (word x)) ≡ 0
  word_right env name x e = said items params env (bound slot name (word x)) (ap (option_and_then usable) e)

  wrong_once : (env : Env) (f : Fact ExprOperand Slot RustValue) → wrong items params env f ≤ 1
  wrong_once env f = one_at_most (matches (fact_datum f) (fact_value items params env f))

  names_right : (env : Env) (with : Bound RustValue) → IsBound env slot.number with → total (wrong items params env) (names func_meaning slot with) ≡ 0
  names_right env with_nothing h = refl
  names_right env (with_payload a) h = omega (arith, item_right env the_payload a h)
  names_right env (at_place q) h = omega (arith, word_right env the_base (core.Pointer q) h)
  names_right env (with_element a q) h = omega (arith, item_right env the_element a h.0, word_right env the_base (core.Pointer q) h.1)
  names_right env (with_entry x y q) h = omega (arith, item_right env the_key x h.0, item_right env the_value y h.1, word_right env the_base (core.Pointer q) h.2)

  -- a local that owns is needed by one of them at most
  names_apart : (env : Env) (with : Bound RustValue) → IsBound env slot.number with → (n : Bytes) → Owns (env n) → total (wrong items params (less env n)) (names func_meaning slot with) ≤ 1
  names_apart env with_nothing h n owns = omega arith
  names_apart env (with_payload a) h n owns = omega (arith, wrong_once (less env n) (bound slot the_payload (item a)))
  names_apart env (at_place q) h n owns = omega (arith, wrong_once (less env n) (bound slot the_base (word (core.Pointer q))))
  names_apart env (with_element a q) h n owns =
      let base = still_there env (slot_name the_base slot.number) n (val.Word (core.Pointer q)) h.1 refl owns in
      omega (arith, wrong_once (less env n) (bound slot the_element (item a)), word_right (less env n) the_base (core.Pointer q) base)
  names_apart env (with_entry x y q) h n owns =
      let base = still_there env (slot_name the_base slot.number) n (val.Word (core.Pointer q)) h.2 refl owns in
      let last = word_right (less env n) the_base (core.Pointer q) base in
      go last (bytes_eq (slot_name the_key slot.number) n) refl
    where
      value_there : bytes_eq (slot_name the_key slot.number) n ≡ true → less env n (slot_name the_value slot.number) ≡ Some (val.Value y)
      value_there e =
          let same : slot_name the_key slot.number ≡ n = (bytes_eq-Decides (slot_name the_key slot.number) n).0 e in
          ap (λ c. cond c None (env (slot_name the_value slot.number))) (ap (bytes_eq (slot_name the_value slot.number)) (sym same) ∙ apart-value slot.number) ∙ h.1

      go : wrong items params (less env n) (bound slot the_base (word (core.Pointer q))) ≡ 0 → (c : Bool) → bytes_eq (slot_name the_key slot.number) n ≡ c
          → total (wrong items params (less env n)) (names func_meaning slot (with_entry x y q)) ≤ 1
      go last true e = omega (arith, last, wrong_once (less env n) (bound slot the_key (item x)), item_right (less env n) the_value y (value_there e))
      go last false e =
          omega (arith, last, wrong_once (less env n) (bound slot the_value (item y)), item_right (less env n) the_key x (ap (λ c. cond c None (env (slot_name the_key slot.number))) e ∙ h.0))

-- what the bindings own
bindings_own : (k : ℕ) (with : Bound RustValue) → flat_map (λ (l : Local). owned_in l.value) (bindings k with) ≡ brought func_meaning with
bindings_own k with_nothing = refl
bindings_own k (with_payload a) = append-nil (owned_by a)
bindings_own k (at_place q) = refl
bindings_own k (with_element a q) = append-nil (owned_by a)
bindings_own k (with_entry x y q) = ap (λ ys. owned_by x ++ ys) (append-nil (owned_by y))

entered_owns : (slot : Slot) (with : Bound RustValue) (s : State) → SameItems (owns_of (entered slot with s)) (brought func_meaning with)
entered_owns slot with s g =
    let front = reached slot.names s.locals in
    let own : List Local → List ℕ = λ ls. flat_map (λ (l : Local). owned_in l.value) ls in
    ap (total g) (flat_map-append (λ (l : Local). owned_in l.value) front (bindings slot.number with) ∙ ap₂ (λ xs ys. xs ++ ys) (plain_flat front (reached_plain slot.names s.locals)) (bindings_own slot.number with))

-- 3. The facts where it begins

module _ (w : File) (old new : FunctionBindgen) (k : ℕ) (fresh : FreshAll old new (block_names k)) (later : FunctionBindgen) (facts : Facts func_meaning) (words : AllByRecursion IsOfWord facts)
    (before s : State) (first : Hold w.items old facts before) (now : Hold w.items later facts s) (with : Bound RustValue) where
  abbrev here : Slot
  here = record { number = k; names = old.scope.used }

  abbrev front : List Local
  front = reached old.scope.used s.locals

  abbrev then : State
  then = entered here with s

  reads : (n : Bytes) → env_of then n ≡ value_of (option_or (local_named n (bindings k with)) (local_named n front))
  reads n = ap value_of (named-append n front (bindings k with))

  -- what was known when the block was opened has a name that was used, and is none of the block's
  was_used : (n : Bytes) (y : Val) → env_of before n ≡ Some y → is_used old.scope.used n ≡ true
  was_used n y e = go (is_used old.scope.used n) refl
    where
      go : (b : Bool) → is_used old.scope.used n ≡ b → b ≡ true
      go true is = refl
      go false is = absurd (let none : (let o : Option Val = None in o ≡ Some y) = sym (ap value_of (first.within n is)) ∙ e in cc)

  not_new : (n : Bytes) (y : Val) → env_of before n ≡ Some y → is_used (block_names k) n ≡ false
  not_new n y e = go (is_used (block_names k) n) refl
    where
      go : (b : Bool) → is_used (block_names k) n ≡ b → b ≡ false
      go false is = refl
      go true is = sym (was_used n y e) ∙ fresh.free n is

  kept : (n : Bytes) (y z : Val) → env_of before n ≡ Some y → env_of s n ≡ Some z → owned z ≡ [] → env_of then n ≡ Some z
  kept n y z a b none =
      reads n ∙ ap (λ o. value_of (option_or o (local_named n front))) (unbound k n with (not_named k n (not_new n y a))) ∙ ap value_of (reached_same old.scope.used n (was_used n y a) s.locals) ∙ go (local_named n s.locals) b
    where
      go : (o : Option Local) → value_of o ≡ Some z → value_of (option_map without_owner o) ≡ Some z
      go None e = absurd cc
      go (Some l) e = bare_stays l z e none

  bound_then : IsBound (env_of then) k with
  bound_then = are_bound k with (env_of then) (λ n v e. reads n ∙ go n v (local_named n (bindings k with)) e)
    where
      go : (n : Bytes) (v : Val) (o : Option Local) → value_of o ≡ Some v → value_of (option_or o (local_named n front)) ≡ Some v
      go n v None e = absurd cc
      go n v (Some l) e = e

  -- so what the names are bound to holds there, and what was known of words
  holds_then : Hold w.items new (names func_meaning here with ++ facts) then
  holds_then = record {
    right = omega (
      arith,
      total-append (wrong w.items new.params (env_of then)) (names func_meaning here with) facts,
      names_right w.items new.params here (env_of then) with bound_then,
      words_narrowed w.items (env_of before) (env_of s) (env_of then) kept old.params later.params new.params facts words first.right now.right,
    );
    apart = λ n owns. omega (
      arith,
      total-append (wrong w.items new.params (less (env_of then) n)) (names func_meaning here with) facts,
      names_apart w.items new.params here (env_of then) with bound_then n owns,
      words_narrowed w.items (env_of before) (env_of s) (less (env_of then) n) (λ m y z a b none. still_there (env_of then) m n z (kept m y z a b none) none owns) old.params later.params new.params facts words first.right now.right,
    );
    within = λ n free.
        let split = split_used old new (block_names k) fresh n free in
        named-append n front (bindings k with) ∙ ap (λ o. option_or o (local_named n front)) (unbound k n with (not_named k n split.1)) ∙ reached_none old.scope.used n split.0 s.locals;
  }

-- 4. The area

area_inside : (import : Bool) (area : Option Request) (asked : List Asked) (name : Bytes) (s : State) → s.place ≡ None → AreaIs import area None asked name s
area_inside true None asked name s h = h
area_inside true (Some r) asked name s h = h
area_inside false area asked name s h = λ e. h

-- 5. It is opened

module _ (old new : FunctionBindgen) (a : Suspends old new) where
  abbrev opening : OpenBlock
  opening = record { number = a.block.number; names = old.scope.used; code = old.code }

  fresh : FreshAll old new (block_names a.block.number)
  fresh = declared_as old new a.block.takes.locals a.block.number (block_names a.block.number) a.block.takes.declares (sym (a.block.takes.named a.block.number))

  serves : (w : File) → Serves w new → Serves w old
  serves w h = record {
    runtime = subst (Found w.items) a.block.runtime h.runtime;
    sites = subst (AreDefined w.items) a.still.sites h.sites;
    room = subst (AllByRecursion (HoldsRecord 2 w.area)) a.asked h.room;
    sized = h.sized;
    static = λ e. h.static (a.still.import ∙ e);
    bound = λ e. h.bound (a.still.import ∙ e) ∙ a.still.home;
    called = (all_right (λ (o : OpenBlock). GivesAsCalled w.items w.bound o.code.call) old.opened (opening ∷ []) (subst (AllAsCalled w.items w.bound) a.block.opened h.suspended)).0;
    suspended = all_left (λ (o : OpenBlock). GivesAsCalled w.items w.bound o.code.call) old.opened (opening ∷ []) (subst (AllAsCalled w.items w.bound) a.block.opened h.suspended);
  }

  more : (w : File) → Serves w old → Serves w new
  more w h = record {
    runtime = subst (Found w.items) (sym a.block.runtime) h.runtime;
    sites = subst (AreDefined w.items) (sym a.still.sites) h.sites;
    room = subst (AllByRecursion (HoldsRecord 2 w.area)) (sym a.asked) h.room;
    sized = h.sized;
    static = λ e. h.static (sym a.still.import ∙ e);
    bound = λ e. h.bound (sym a.still.import ∙ e) ∙ sym a.still.home;
    called = subst (λ (c : Code). GivesAsCalled w.items w.bound c.call) (sym a.block.code) tt;
    suspended = subst (AllAsCalled w.items w.bound) (sym a.block.opened) (all_both (λ (o : OpenBlock). GivesAsCalled w.items w.bound o.code.call) old.opened (opening ∷ []) h.suspended (h.called, tt));
  }

  known : (w : File) (facts : Facts func_meaning) (s : FuncState) → Denote w old facts s → Denote w new facts s
  known w facts s d =
      denotes_on w old new facts facts s s.machine (record { import = a.still.import; asked = a.asked; name = a.still.area }) (unmoved s.machine) d
      (lasts w.items old new facts s.machine s.machine a.still.params (λ n v e. e) (λ n free. d.hold.within n (split_used old new (block_names a.block.number) fresh n free).0) d.hold)

  stays : Lasts func_meaning old new
  stays = record {
    serves = serves;
    more = λ w h. (w, more w h);
    imports = a.still.import;
    exports = ap not a.still.import;
    arguments = ap (λ ps. Some (length ps)) a.still.params;
    knows = λ types h. subst (λ sizes. IsFilledFor sizes types) (sym a.still.sizes) h;
    writes = λ types id h. subst (λ sites. CanWrite types sites id) (sym a.still.sites) h;
    target = λ f. ap₂ (λ import home. cond import (target.Core home f.name.wit) (target.Method home (rust_ident f.name))) a.still.import a.still.home;
    crosses = λ w f. refl;
    known = known;
    asked = a.asked;
    returned = a.returned;
    uncalled = λ h. record {
      here = ap (λ (c : Code). c.call) a.block.code;
      around = subst (AllByRecursion (λ (o : OpenBlock). o.code.call ≡ None)) (sym a.block.opened) (all_both (λ (o : OpenBlock). o.code.call ≡ None) old.opened (opening ∷ []) h.around (h.here, tt));
    };
  }

  pub pushes : Pushes func_meaning old new
  pushes = record {
    lasts = stays;
    slot = record { number = a.block.number; names = old.scope.used };
    opened = ap open_blocks a.block.opened ∙ opened_more old.opened opening;
    code = a.block.code;
    blocks = ap reverse a.block.finished;
    account = λ s with. refl;
    owns = λ s with. entered_owns (record { number = a.block.number; names = old.scope.used }) with s.machine;
    enters = λ w later facts before s with words d e. record {
      hold = holds_then w old new a.block.number fresh later facts words before.machine s.machine d.hold e.hold with;
      owners = e.owners;
      area = area_inside new.import w.area new.asked new.area (entered (record { number = a.block.number; names = old.scope.used }) with s.machine) refl;
    };
    form = λ types. record { still = a.still; given = tt; code = a.block };
  }
