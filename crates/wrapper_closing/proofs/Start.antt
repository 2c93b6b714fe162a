-- The state in which an import's code begins: its parameters are locals, and its area, where it has one.
use Rattle.std.proofs.Common.{◌≡◌, ◌<◌, ℕ, suc, Bool, true, false, not, cond, List, [], ◌∷◌, ◌++◌, length, map, None, Some, Contains, refl, sym, ap, ap₂, ◌∙◌, subst}
use Rattle.std.specs.List.{flat_map, list_any}
use Rattle.std.specs.Option.{option_or}
use Rattle.std.specs.Str.{bytes_eq}
use Rattle.std.proofs.lemmas.Bool.{and_parts, not-true, or_parts}
use Rattle.std.proofs.lemmas.Grind.{flat_map-append}
use Rattle.std.proofs.lemmas.Slice.Eq.{bytes_eq-Decides}
use Rattle.rust_tree.specs.declared.area.ReturnArea.{ReturnArea}
use Rattle.wit_model.specs.Bytes.{Bytes}
use Rattle.wit_model.specs.Distinct.{is_distinct}
use Rattle.wrapper_data.specs.declared.block.Block.{Block}
use Rattle.wrapper_data.specs.declared.choice.Choice.{Choice}
use Rattle.wrapper_data.specs.declared.choice.Choices.{Choices}
use Rattle.wrapper_data.specs.declared.heap.Heap.{Heap}
use Rattle.wrapper_data.specs.declared.value.RustValue.{RustValue}
use Rattle.wrapper_values.specs.declared.state.Local.{Local}
use Rattle.wrapper_values.specs.declared.state.State.{State}
use Rattle.wrapper_values.specs.declared.state.Val.{Val}
use Rattle.wrapper_values.specs.declared.state.Val.TheVariants as val
use Rattle.wrapper_values.specs.Locals.{local_named, value_of}
use Rattle.wrapper_values.specs.Owning.{owned_in}
use Rattle.wrapper_run.specs.Memory.{block_from}
use Rattle.wrapper_run.specs.Places.{area_block, request_of}
use Rattle.wrapper_run.specs.Run.{begin, bound}
use Rattle.wrapper_run.proofs.LocalLemmas.{last-append, reads-new, reads-past, ReadsAll, reads_bound, unbound}
use Rattle.abi_driver.proofs.AreaHeaps.{contains_last}
use Rattle.abi_bindgen.specs.Laws.{AreLent, args, item_data}
use Rattle.func_gen.specs.Facts.{IsThere}
use Rattle.func_gen.specs.Meaning.{AreaIs, Denote, File, func_meaning, owns_of}
use Rattle.func_gen.specs.Read.{env_of}
use Rattle.func_gen.specs.Scope.{is_used}
use Rattle.func_gen.specs.Sites.{site_names}
use Rattle.func_gen.specs.declared.function_bindgen.FunctionBindgen.{FunctionBindgen}
use Rattle.func_gen.proofs.Starting.{ReadsEnv, begins, bound_bare, holds, passed, reads_env, same_length, vals}
use Rattle.wrapper_closing.specs.Begun.{IsBegun}
use Rattle.wrapper_closing.proofs.Placing.{placed}

-- 1. Values of parameters

vals_of : (rs : List RustValue) → vals (item_data func_meaning rs) ≡ map (λ r. val.Value r) rs
vals_of [] = refl
vals_of (r ∷ rs) = ap (λ vs. val.Value r ∷ vs) (vals_of rs)

many_items : (rs : List RustValue) → length (item_data func_meaning rs) ≡ length rs
many_items [] = refl
many_items (r ∷ rs) = ap suc (many_items rs)

-- a run begins without the area
abbrev pub at_first : FunctionBindgen → List RustValue → Heap → Choices → State
at_first b rs heap choices = begin (bound (site_names b.params) (map (λ r. val.Value r) rs)) [] heap choices

-- the last of some blocks is one of them
last_there : (blocks : List Block) (b : Block) → Contains (blocks ++ b ∷ []) b
last_there blocks b = contains_last blocks b (blocks ++ b ∷ []) (λ g. refl)

-- 2. A local behind those that are there

one_more : (names : List Bytes) (vs : List Val) (s t : State) (l : Local) → t.locals ≡ s.locals ++ l ∷ [] → list_any (λ u. bytes_eq u l.name) names ≡ false → ReadsEnv names vs (env_of s) → ReadsEnv names vs (env_of t)
one_more [] vs s t l e free h = tt
one_more (n ∷ names) [] s t l e free h = absurd h
one_more (n ∷ names) (v ∷ vs) s t l e free h =
    let two = or_parts (bytes_eq n l.name) (list_any (λ u. bytes_eq u l.name) names) free in
    (ap (λ ls. value_of (local_named n ls)) e ∙ reads-past s.locals l n (Some v) (turned n l.name two.0) h.0, one_more names vs s t l e two.1 h.1)
  where
    turned : (a b : Bytes) → bytes_eq a b ≡ false → bytes_eq b a ≡ false
    turned a b f = go (bytes_eq b a) refl
      where
        go : (c : Bool) → bytes_eq b a ≡ c → c ≡ false
        go false g = refl
        go true g = let same : b ≡ a = (bytes_eq-Decides b a).0 g in sym ((bytes_eq-Decides a b).1 (sym same)) ∙ f

module _ (b : FunctionBindgen) (begun : IsBegun b) (import : b.import ≡ true) (rs : List RustValue) (heap : Heap) (choices : Choices) (lent : AreLent func_meaning (item_data func_meaning rs)) (many : length b.params ≡ length rs) where
  ds_many : length b.params ≡ length (item_data func_meaning rs)
  ds_many = many ∙ sym (many_items rs)

  same : map (λ r. val.Value r) rs ≡ vals (item_data func_meaning rs)
  same = sym (vals_of rs)

  reads_first : ReadsEnv (site_names b.params) (vals (item_data func_meaning rs)) (env_of (at_first b rs heap choices))
  reads_first =
      reads_env (site_names b.params) (vals (item_data func_meaning rs)) (at_first b rs heap choices)
      (subst (λ vs. ReadsAll (site_names b.params) (vals (item_data func_meaning rs)) (bound (site_names b.params) vs)) (sym same)
      (reads_bound (site_names b.params) (vals (item_data func_meaning rs)) (and_parts _ (is_distinct (site_names b.params)) begun.distinct).1 (same_length b.params (item_data func_meaning rs) ds_many)))

  nothing_owned : owns_of (at_first b rs heap choices) ≡ []
  nothing_owned =
      ap (λ vs. flat_map (λ (l : Local). owned_in l.value) (bound (site_names b.params) vs)) same ∙ bound_bare (site_names b.params) (item_data func_meaning rs) (passed (item_data func_meaning rs) lent)

  -- a name that is free is none of a parameter, nor of the area
  unused : (n : Bytes) → is_used b.scope.used n ≡ false → (bytes_eq b.area n ≡ false) × (is_used (site_names b.params) n ≡ false)
  unused n free = or_parts (bytes_eq b.area n) (is_used (site_names b.params) n) (begun.used n free)

  first_free : (n : Bytes) → is_used (site_names b.params) n ≡ false → local_named n (at_first b rs heap choices).locals ≡ None
  first_free n free = unbound (site_names b.params) (map (λ r. val.Value r) rs) n free

  -- 3. Without an area

  pub begins_bare : (w : File) → w.area ≡ None → Denote w b (args func_meaning 0 (item_data func_meaning rs)) (record { machine = at_first b rs heap choices; area = None })
  begins_bare w none =
      holds b begun.unasked begun.used begun.distinct begun.sites w (item_data func_meaning rs) (record { machine = at_first b rs heap choices; area = None }) (passed (item_data func_meaning rs) lent) reads_first ds_many
      (λ n free. first_free n (unused n free).1) tt
      (subst (λ i. AreaIs i w.area None b.asked b.area (at_first b rs heap choices)) (sym import) (subst (λ a. AreaIs true a None b.asked b.area (at_first b rs heap choices)) (sym none) refl))

  pub bare_owns : owns_of (at_first b rs heap choices) ≡ []
  bare_owns = nothing_owned

  -- 4. With an area

  module _ (a : ReturnArea) (named : a.name ≡ b.area) (address : ℕ) (left : List Choice) (some : 0 < (request_of a.size a.align).size) where
    abbrev area_local : Local
    area_local = record { name = a.name; value = Some (val.Area address (request_of a.size a.align).size) }

    none_named : list_any (λ u. bytes_eq u b.area) (site_names b.params) ≡ false
    none_named = not-true (list_any (λ u. bytes_eq u b.area) (site_names b.params)) (and_parts (not (list_any (λ u. bytes_eq u b.area) (site_names b.params))) (is_distinct (site_names b.params)) begun.distinct).0

    free_then : (n : Bytes) → is_used b.scope.used n ≡ false → local_named n (placed a address left (at_first b rs heap choices)).locals ≡ None
    free_then n free =
        let two = unused n free in
        last-append (λ (l : Local). bytes_eq l.name n) (at_first b rs heap choices).locals area_local
        ∙ ap₂ (λ c o. option_or (cond c (Some area_local) None) o) (ap (λ x. bytes_eq x n) named ∙ two.0) (first_free n two.1)

    there : IsThere (block_from address (heap.blocks ++ area_block address (request_of a.size a.align) ∷ []))
    there = begins (heap.blocks ++ area_block address (request_of a.size a.align) ∷ []) address (area_block address (request_of a.size a.align)) (last_there heap.blocks (area_block address (request_of a.size a.align))) refl some

    pub begins_with_area : (w : File) → w.area ≡ Some (request_of a.size a.align) → Denote w b (args func_meaning 0 (item_data func_meaning rs)) (record { machine = placed a address left (at_first b rs heap choices); area = Some address })
    begins_with_area w is =
        holds b begun.unasked begun.used begun.distinct begun.sites w (item_data func_meaning rs) (record { machine = placed a address left (at_first b rs heap choices); area = Some address }) (passed (item_data func_meaning rs) lent)
        (one_more (site_names b.params) (vals (item_data func_meaning rs)) (at_first b rs heap choices) (placed a address left (at_first b rs heap choices)) area_local refl (ap (λ x. list_any (λ u. bytes_eq u x) (site_names b.params)) named ∙ none_named) reads_first) ds_many
        free_then (refl, there, tt)
        (subst (λ i. AreaIs i w.area (Some address) b.asked b.area (placed a address left (at_first b rs heap choices))) (sym import)
        (subst (λ x. AreaIs true x (Some address) b.asked b.area (placed a address left (at_first b rs heap choices))) (sym is)
        (ap (λ n. env_of (placed a address left (at_first b rs heap choices)) n) (sym named) ∙ reads-new a.name (Some (val.Area address (request_of a.size a.align).size)) (at_first b rs heap choices).locals, refl)))

    pub area_owns : owns_of (placed a address left (at_first b rs heap choices)) ≡ address ∷ []
    area_owns = flat_map-append (λ (l : Local). owned_in l.value) (at_first b rs heap choices).locals (area_local ∷ []) ∙ ap (λ xs. xs ++ address ∷ []) nothing_owned
