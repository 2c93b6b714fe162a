-- A new `FunctionBindgen` can be run: from a state for each account, and for any arguments.
use Rattle.std.proofs.Common.{◌≡◌, ℕ, zero, suc, ◌+◌, ◌<◌, Bool, true, false, cond, ◌||◌, nat_eq, nat_lt, List, [], ◌∷◌, ◌++◌, length, map, reverse, Option, None, Some, refl, sym, ap, ap₂, ◌∙◌, subst, arith}
use Rattle.std.specs.Prelude.{option_and_then, option_to_list, slice_get, Contains, IfSome}
use Rattle.std.specs.List.{flat_map, AllByRecursion}
use mathlib.Core.Logic.{inl, inr}
use Rattle.std.specs.Str.{bytes_eq}
use Rattle.std.proofs.lemmas.Bool.{and_from, and_parts, eq-eqb, lt-ltb, or_parts}
use Rattle.wit_model.specs.Bytes.{Bytes}
use Rattle.wit_model.specs.Distinct.{is_distinct}
use Rattle.rust_tree.specs.declared.item.Item.{Item}
use Rattle.rust_tree.specs.declared.type_item.TypeItem.{TypeItem}
use Rattle.wrapper_data.specs.declared.block.Block.{Block}
use Rattle.wrapper_data.specs.declared.choice.Request.{Request}
use Rattle.wrapper_data.specs.declared.run.CallPoint.{CallPoint}
use Rattle.wrapper_data.specs.declared.value.RustValue.{RustValue}
use Rattle.wrapper_meaning.specs.Items.{total}
use Rattle.wrapper_values.specs.declared.state.Local.{Local}
use Rattle.wrapper_values.specs.declared.state.State.{State}
use Rattle.wrapper_values.specs.declared.state.Val.{Val}
use Rattle.wrapper_values.specs.declared.state.Val.TheVariants as val
use Rattle.wrapper_values.specs.Locals.{local_named, usable}
use Rattle.wrapper_values.specs.Owning.{lent, owned, owned_in}
use Rattle.wrapper_run.specs.Memory.{begins_at, block_from}
use Rattle.wrapper_run.specs.Places.{area_in}
use Rattle.wrapper_run.specs.Run.{bound}
use Rattle.wrapper_run.proofs.LocalLemmas.{ReadsAll, SameLength, reads_bound, unbound}
use Rattle.abi_bindgen.specs.Account.{Account, Call}
use Rattle.abi_bindgen.specs.Area.{HoldsRecord, MayStand, StandsIn}
use Rattle.abi_bindgen.specs.Laws.{AreLent, Data, IsNew, args}
use Rattle.abi_bindgen.specs.Meaning.{arg, item, word}
use Rattle.func_gen.specs.declared.function_bindgen.Code.{Code}
use Rattle.func_gen.specs.declared.function_bindgen.FunctionBindgen.{FunctionBindgen}
use Rattle.func_gen.specs.declared.function_bindgen.OpenBlock.{OpenBlock}
use Rattle.func_gen.specs.declared.function_bindgen.ParamSite.{ParamSite}
use Rattle.func_gen.specs.FactLemmas.{said}
use Rattle.func_gen.specs.Facts.{AreOwned, IsThere, Owns, val_of, wrong}
use Rattle.func_gen.specs.Opened.{open_blocks}
use Rattle.func_gen.specs.Meaning.{AllAsCalled, AreaIs, Denote, File, Found, FuncState, GivesAsCalled, IsArea, Serves, account_of, call_of, func_meaning, owns_of, static_request}
use Rattle.func_gen.specs.Read.{Env, Read, bare, bare_or, env_of, lent_bare, less, on_bare, read_operand}
use Rattle.func_gen.specs.ReadForms.{read-local, read-ref, still_there}
use Rattle.func_gen.specs.TypeSites.{CanBeDefined, items_of}
use Rattle.func_gen.specs.Scope.{is_used}
use Rattle.func_gen.specs.Sites.{IsSite, site_names}
use Rattle.func_gen.specs.StandLemmas.{lent_alone}

-- 1. Values of arguments

abbrev pub vals : Data func_meaning → List Val
vals ds = map val_of ds

-- a value that owns nothing, and is behind a reference what it is
pub record IsPassed (v : Val) : Type 0 where
  pub none : owned v ≡ []
  pub lent : lent v ≡ Some v
  pub usable : usable v ≡ Some v

abbrev pub ArePassed : Data func_meaning → Type 0
ArePassed [] = Unit {0}
ArePassed (d ∷ ds) = IsPassed (val_of d) × ArePassed ds

pub passed : (ds : Data func_meaning) → AreLent func_meaning ds → ArePassed ds
passed [] h = tt
passed (word x ∷ ds) h = (record { none = refl; lent = refl; usable = refl }, passed ds h)
passed (item r ∷ ds) (given, t, v, stands, h) = (record { none = (lent_alone given t v r [] stands.0).0; lent = ap (λ q. Some (val.Value q)) stands.1; usable = refl }, passed ds h)

-- 2. What sites read

abbrev pub ReadsEnv : List Bytes → List Val → Env → Type 0
ReadsEnv [] vs env = Unit {0}
ReadsEnv (n ∷ names) [] env = ⊥
ReadsEnv (n ∷ names) (v ∷ vs) env = (env n ≡ Some v) × ReadsEnv names vs env

pub reads_env : (names : List Bytes) (vs : List Val) (s : State) → ReadsAll names vs s.locals → ReadsEnv names vs (env_of s)
reads_env [] vs s h = tt
reads_env (n ∷ names) [] s h = absurd h
reads_env (n ∷ names) (v ∷ vs) s h = (h.0, reads_env names vs s h.1)

reads_less : (sites : List ParamSite) (ds : Data func_meaning) (env : Env) (n : Bytes) → ArePassed ds → Owns (env n) → ReadsEnv (site_names sites) (vals ds) env → ReadsEnv (site_names sites) (vals ds) (less env n)
reads_less [] ds env n p o h = tt
reads_less (p ∷ sites) [] env n q o h = absurd h
reads_less (p ∷ sites) (d ∷ ds) env n q o h = (still_there env p.name n (val_of d) h.0 q.0.none o, reads_less sites ds env n q.1 o h.1)

on_none : (f : Val → Option Val) (v : Val) → owned v ≡ [] → on_bare f v ≡ f v
on_none f v e = ap (λ bs. option_and_then f (bare_or v bs)) e

site_reads : (items : List Item) (p : ParamSite) (env : Env) (v : Val) → IsSite p → env p.name ≡ Some v → IsPassed v → (read_operand items p.operand).at env ≡ Some v
site_reads items p env v (inl e) h q =
    ap (λ o. (read_operand items o).at env) e ∙ ap (λ (r : Read). r.at env) (read-local items p.name) ∙ ap (option_and_then usable) h ∙ q.usable
site_reads items p env v (inr e) h q =
    ap (λ o. (read_operand items o).at env) e ∙ ap (λ (r : Read). r.at env) (read-ref items p.name) ∙ ap (option_and_then lent_bare) h
    ∙ on_none (λ x. option_and_then bare (lent x)) v q.none ∙ ap (option_and_then bare) q.lent ∙ ap (bare_or v) q.none

args_hold : (items : List Item) (all : List ParamSite) (env : Env) (k : ℕ) (sites : List ParamSite) (ds : Data func_meaning) → ((i : ℕ) → slice_get all (k + i) ≡ slice_get sites i) → AllByRecursion IsSite sites → ArePassed ds → ReadsEnv (site_names sites) (vals ds) env → length sites ≡ length ds
    → total (wrong items all env) (args func_meaning k ds) ≡ 0
args_hold items all env k sites [] at are p reads len = refl
args_hold items all env k [] (d ∷ ds) at are p reads len = absurd (omega (arith, len))
args_hold items all env k (site ∷ sites) (d ∷ ds) at are p reads len =
    let first : slice_get all k ≡ Some site = let e : k ≡ k + 0 = omega arith in ap (slice_get all) e ∙ at 0 in
    let value = ap (option_and_then (λ (q : ParamSite). (read_operand items q.operand).at env)) first ∙ site_reads items site env (val_of d) are.0 reads.0 p.0 in
    let here = said items all env (arg k d) value in
    omega (arith, here, args_hold items all env (suc k) sites ds (λ i. let e : suc k + i ≡ k + suc i = omega arith in ap (slice_get all) e ∙ at (suc i)) are.1 p.1 reads.1 (omega (arith, len)))

-- definitions of types have no static area among them
no_area : (defs : List TypeItem) → area_in (items_of defs) ≡ None
no_area [] = refl
no_area (d ∷ defs) = no_area defs

-- 3. The locals

pub same_length : (sites : List ParamSite) (ds : Data func_meaning) → length sites ≡ length ds → SameLength (site_names sites) (vals ds)
same_length [] [] e = tt
same_length [] (d ∷ ds) e = absurd (omega (arith, e))
same_length (p ∷ sites) [] e = absurd (omega (arith, e))
same_length (p ∷ sites) (d ∷ ds) e = same_length sites ds (omega (arith, e))

pub bound_bare : (names : List Bytes) (ds : Data func_meaning) → ArePassed ds → flat_map (λ (l : Local). owned_in l.value) (bound names (vals ds)) ≡ []
bound_bare [] ds p = refl
bound_bare (n ∷ names) [] p = refl
bound_bare (n ∷ names) (d ∷ ds) p = ap₂ (λ xs ys. xs ++ ys) p.0.none (bound_bare names ds p.1)

abbrev point_of : Call RustValue → CallPoint
point_of c = record { target = c.target; words = c.words; values = c.values; heap = c.heap }

calls_same : (calls : List (Call RustValue)) → map call_of (map point_of calls) ≡ calls
calls_same [] = refl
calls_same (c ∷ calls) = ap (λ cs. c ∷ cs) (calls_same calls)

abbrev start_with : Account RustValue → List Local → State
start_with acc locals = record { locals = locals; imports = []; heap = acc.heap; choices = acc.choices; requests = acc.requests; calls = map point_of acc.calls; taken = acc.taken; place = None }

account_same : (acc : Account RustValue) (locals : List Local) → acc.guarded ≡ [] → account_of (start_with acc locals) ≡ acc
account_same acc locals unguarded = ap₂ (λ cs gs. record acc { calls = cs; guarded = gs }) (calls_same acc.calls) (sym unguarded)

-- 4. The area's block

pub begins : (blocks : List Block) (a : ℕ) (b : Block) → Contains blocks b → b.address ≡ a → 0 < b.size → IsThere (block_from a blocks)
begins [] a b (k, below, at) e l = absurd (omega (below, arith))
begins (x ∷ blocks) a b (zero, below, at) e l = subst (λ t. IsThere (cond t (Some x) (block_from a blocks))) (sym hit) tt
  where
    address : x.address ≡ a
    address = ap (λ (y : Block). y.address) at ∙ e

    size : 0 < x.size
    size = subst (λ (y : Block). 0 < y.size) (sym at) l

    hit : begins_at a x ≡ true
    hit = and_from (nat_eq x.address a) (nat_lt 0 x.size) (eq-eqb x.address a address) (lt-ltb 0 x.size size)
begins (x ∷ blocks) a b (suc k, below, at) e l = go (begins_at a x) (begins blocks a b (k, omega (below, arith), at) e l)
  where
    go : (t : Bool) → IsThere (block_from a blocks) → IsThere (cond t (Some x) (block_from a blocks))
    go true there = tt
    go false there = there

-- 5. The start

-- a name that is free beside the second name too is free beside the others
pub unused_first : (area second : Bytes) (names used : List Bytes) → used ≡ area ∷ second ∷ names → (n : Bytes) → is_used used n ≡ false → is_used (area ∷ names) n ≡ false
unused_first area second names used is n free =
    let two = or_parts (bytes_eq area n) (bytes_eq second n || is_used names n) (sym (ap (λ us. is_used us n) is) ∙ free) in
    ap₂ (λ a b. a || b) two.0 (or_parts (bytes_eq second n) (is_used names n) two.1).1

module _ (b : FunctionBindgen) (unasked : b.asked ≡ []) (used : (n : Bytes) → is_used b.scope.used n ≡ false → is_used (b.area ∷ site_names b.params) n ≡ false) (distinct : is_distinct (b.area ∷ site_names b.params) ≡ true) (are : AllByRecursion IsSite b.params) where
  distinct_names : is_distinct (site_names b.params) ≡ true
  distinct_names = (and_parts _ (is_distinct (site_names b.params)) distinct).1

  abbrev Started : File → Data func_meaning → Account RustValue → Option ℕ → Type 0
  Started w ds acc at = (s : FuncState) × (account_of s.machine ≡ acc) × (owns_of s.machine ≡ option_to_list at) × (s.area ≡ at) × Denote w b (args func_meaning 0 ds) s

  pub holds : (w : File) (ds : Data func_meaning) (s : FuncState) → ArePassed ds → ReadsEnv (site_names b.params) (vals ds) (env_of s.machine) → length b.params ≡ length ds → ((n : Bytes) → is_used b.scope.used n ≡ false → local_named n s.machine.locals ≡ None)
      → AreOwned s.machine.heap.blocks s.machine.taken → AreaIs b.import w.area s.area b.asked b.area s.machine → Denote w b (args func_meaning 0 ds) s
  holds w ds s p reads len within owners area =
      let at : (i : ℕ) → slice_get b.params (0 + i) ≡ slice_get b.params i = λ i. let e : 0 + i ≡ i = omega arith in ap (slice_get b.params) e in
      record {
        hold = record {
          right = args_hold w.items b.params (env_of s.machine) 0 b.params ds at are p reads len;
          apart = λ n o. omega (arith, args_hold w.items b.params (less (env_of s.machine) n) 0 b.params ds at are p (reads_less b.params ds (env_of s.machine) n p o reads) len);
          within = within;
        };
        owners = owners;
        area = area;
      }

  -- without an area that stands
  without_area : (w : File) (ds : Data func_meaning) (acc : Account RustValue) → length b.params ≡ length ds → AreLent func_meaning ds → acc.taken ≡ [] → acc.guarded ≡ [] → ((s : State) → s.place ≡ None → AreaIs b.import w.area None b.asked b.area s) → Started w ds acc None
  without_area w ds acc len lent_ds taken unguarded area =
      let names = site_names b.params in
      let p = passed ds lent_ds in
      let machine = start_with acc (bound names (vals ds)) in
      let s : FuncState = record { machine = machine; area = None } in
      let reads = reads_env names (vals ds) machine (reads_bound names (vals ds) distinct_names (same_length b.params ds len)) in (
        s,
        account_same acc (bound names (vals ds)) unguarded,
        bound_bare names ds p,
        refl,
        holds w ds s p reads len (λ n free. unbound names (vals ds) n (unused n free)) (subst (AreOwned acc.heap.blocks) (sym taken) tt) (area machine refl),
      )
    where
      unused : (n : Bytes) → is_used b.scope.used n ≡ false → is_used (site_names b.params) n ≡ false
      unused n free = (or_parts (bytes_eq b.area n) (is_used (site_names b.params) n) (used n free)).1

  -- with one that does
  with_area : (w : File) (ds : Data func_meaning) (acc : Account RustValue) (area : Request) (address : ℕ) → length b.params ≡ length ds → AreLent func_meaning ds → acc.taken ≡ address ∷ [] → acc.guarded ≡ [] → b.import ≡ true → w.area ≡ Some area → 0 < area.size → StandsIn area address acc.heap
      → Started w ds acc (Some address)
  with_area w ds acc area address len lent_ds taken unguarded import is size stands =
      let names = b.area ∷ site_names b.params in
      let values = val.Area address area.size ∷ vals ds in
      let p = passed ds lent_ds in
      let machine = start_with acc (bound names values) in
      let s : FuncState = record { machine = machine; area = Some address } in
      let all = reads_bound names values distinct (same_length b.params ds len) in
      let reads = reads_env (site_names b.params) (vals ds) machine all.1 in
      let there = begins acc.heap.blocks address stands.block stands.there stands.at (subst (λ n. 0 < n) (sym stands.exact) size) in (
        s,
        account_same acc (bound names values) unguarded,
        ap (λ xs. address ∷ xs) (bound_bare (site_names b.params) ds p),
        refl,
        holds w ds s p reads len (λ n free. unbound names values n (used n free)) (subst (AreOwned acc.heap.blocks) (sym taken) (refl, there, tt))
            (subst (λ i. AreaIs i w.area (Some address) b.asked b.area machine) (sym import) (subst (λ a. AreaIs true a (Some address) b.asked b.area machine) (sym is) (all.0, refl))),
      )

  start : (w : File) (ds : Data func_meaning) (acc : Account RustValue) (at : Option ℕ) → Serves w b → length b.params ≡ length ds → AreLent func_meaning ds → acc.taken ≡ option_to_list at → acc.guarded ≡ []
      → (import : Bool) → b.import ≡ import → (area : Option Request) → w.area ≡ area → MayStand import area at acc.heap → Started w ds acc at
  start w ds acc None sv len l taken g true i None a h = without_area w ds acc len l taken g (λ s e. subst (λ i. AreaIs i w.area None b.asked b.area s) (sym i) (subst (λ a. AreaIs true a None b.asked b.area s) (sym a) e))
  start w ds acc None sv len l taken g true i (Some area) a h = absurd h
  start w ds acc (Some address) sv len l taken g true i None a h = absurd h
  start w ds acc (Some address) sv len l taken g true i (Some area) a h = with_area w ds acc area address len l taken g i a (subst (λ x. IfSome x IsArea) a sv.sized).0 h
  start w ds acc None sv len l taken g false i area a h = without_area w ds acc len l taken g (λ s e. subst (λ i. AreaIs i w.area None b.asked b.area s) (sym i) (λ none. e))
  start w ds acc (Some address) sv len l taken g false i area a h = absurd h

  -- a file of no more than definitions of types serves it
  pub func_new : b.code ≡ record { call = None; stmts = [] } → b.returned ≡ None → b.runtime ≡ [] → b.opened ≡ [] → b.finished ≡ [] → CanBeDefined b.sites → IsNew func_meaning b
  func_new empty endless runtime closed unfinished (defs, defined) = record {
    closed = ap open_blocks closed;
    unfinished = ap reverse unfinished;
    empty = empty;
    endless = endless;
    unasked = unasked;
    uncalled = record { here = ap (λ (c : Code). c.call) empty; around = subst (AllByRecursion (λ (o : OpenBlock). o.code.call ≡ None)) (sym closed) tt };
    world = record { items = items_of defs; item = 0; bound = b.home; area = None };
    serves = record {
      runtime = subst (Found (items_of defs)) (sym runtime) tt;
      sites = defined;
      room = subst (AllByRecursion (HoldsRecord 2 None)) (sym unasked) tt;
      sized = tt;
      static = λ e. sym (ap static_request (no_area defs));
      bound = λ e. refl;
      called = subst (λ (c : Code). GivesAsCalled (items_of defs) b.home c.call) (sym empty) tt;
      suspended = subst (AllAsCalled (items_of defs) b.home) (sym closed) tt;
    };
    start = λ w ds acc at sv len l stands taken unguarded. start w ds acc at sv len l taken unguarded b.import refl w.area refl stands;
  }
