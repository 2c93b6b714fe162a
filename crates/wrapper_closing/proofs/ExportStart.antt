-- An export that closes the driver's code begins as the driver's contract asks, from words that represent values.
use Rattle.std.proofs.Common.{◌≡◌, ℕ, suc, Bool, true, false, if◌then◌else◌, MatchBool, List, [], ◌∷◌, ◌++◌, length, map, Option, None, Some, refl, sym, ap, ◌∙◌, subst, arith, append-nil}
use Rattle.std.specs.List.{AllByRecursion, flat_map}
use Rattle.std.specs.Str.{bytes_eq}
use Rattle.std.proofs.lemmas.Bool.{and_from, and_parts, or_parts}
use Rattle.rust_tree.specs.Tree.{Tree}
use Rattle.rust_tree.specs.declared.export.CoreParam.{CoreParam}
use Rattle.wit_model.specs.Distinct.{is_distinct}
use Rattle.wit_model.specs.declared.function.Function.{Function}
use Rattle.wit_model.specs.declared.types.TypeDef.{TypeDef}
use Rattle.wit_model.specs.declared.wasm_type.WasmType.{WasmType}
use Rattle.wit_model.specs.declared.wasm_type.WasmType.TheVariants as wasm
use Rattle.wrapper_data.specs.declared.block.Block.{Block}
use Rattle.wrapper_data.specs.declared.choice.Choices.{Choices}
use Rattle.wrapper_data.specs.declared.heap.Heap.{Heap}
use Rattle.wrapper_data.specs.declared.value.RustValue.{RustValue}
use Rattle.wrapper_data.specs.declared.word.Word.{Word}
use Rattle.wrapper_data.specs.declared.word.Word.TheVariants as core
use Rattle.wrapper_data.proofs.FormedHeaps.{formed}
use Rattle.wrapper_meaning.specs.AsWords.{PartsSay}
use Rattle.wrapper_meaning.specs.Direction.{take}
use Rattle.wrapper_meaning.specs.Honest.{HonestCaller}
use Rattle.wrapper_meaning.specs.InRange.{AreListed}
use Rattle.wrapper_meaning.specs.Items.{total}
use Rattle.wrapper_meaning.specs.Represents.{TakesArguments, TakesRecord, are_indirect, param_words}
use Rattle.wrapper_meaning.specs.Shape.{Shape, Shapes, param_shapes, result_shape}
use Rattle.wrapper_meaning.specs.Value.{Parts}
use Rattle.wrapper_meaning.proofs.HeapBlocks.{all_in_heap, at_address, at_most_one}
use Rattle.wrapper_values.specs.Effect.{is_word_of}
use Rattle.wrapper_values.specs.declared.state.Local.{Local}
use Rattle.wrapper_values.specs.Owning.{owned_in}
use Rattle.wrapper_values.specs.declared.state.State.{State}
use Rattle.wrapper_values.specs.declared.state.Val.TheVariants as val
use Rattle.wrapper_run.specs.Entries.{ExportNames}
use Rattle.wrapper_run.specs.ExportRun.{are_words_of}
use Rattle.wrapper_run.specs.Places.{area_in}
use Rattle.wrapper_run.specs.Run.{begin, bound}
use Rattle.wrapper_run.proofs.LocalLemmas.{ReadsAll, reads_bound, unbound}
use Rattle.abi_bindgen.specs.Account.{Peer, has_type, have_types}
use Rattle.abi_bindgen.specs.Area.{HoldsRecord}
use Rattle.abi_driver.specs.Exports.{Received, argument_words}
use Rattle.abi_bindgen.specs.Laws.{AreLent, args, core_data}
use Rattle.abi_bindgen.specs.Lifts.{MayTake}
use Rattle.abi_driver.proofs.ExportSteps.{export_words}
use Rattle.abi_driver.proofs.HonestAnswers.{free_once}
use Rattle.abi_bindgen.proofs.SaysTypes.{parts_typed, types_length}
use Rattle.func_gen.specs.FuncSound.{func_sound}
use Rattle.func_gen.specs.Meaning.{AreaIs, Denote, File, GivesAsCalled, Serves, account_of, func_meaning, owns_of, static_request}
use Rattle.func_gen.specs.TypeSites.{AreDefined}
use Rattle.func_gen.specs.Scope.{is_used}
use Rattle.func_gen.specs.Sites.{site_names}
use Rattle.func_gen.specs.declared.function_bindgen.FunctionBindgen.{FunctionBindgen}
use Rattle.func_gen.proofs.Starting.{bound_bare, holds, passed, reads_env, same_length, vals}
use Rattle.func_gen.proofs.RuntimeItems.{none_suspended}
use Rattle.wrapper_closing.specs.Begun.{IsBegun}
use Rattle.wrapper_closing.specs.ClosedExport.{ClosesExport, export_file}
use Rattle.wrapper_closing.proofs.SharedArea.{shared_room, shared_sized}
use Rattle.wrapper_meaning.proofs.PostReturn.{total-append}

-- 1. Words of types

pub same_type : (ty : WasmType) (x : Word) → has_type ty x ≡ true → is_word_of ty x ≡ true
same_type wasm.I32 (core.I32 z) h = refl
same_type wasm.I64 (core.I64 z) h = refl
same_type wasm.F32 (core.F32 z) h = refl
same_type wasm.F64 (core.F64 z) h = refl
same_type wasm.Pointer (core.Pointer z) h = refl
same_type wasm.Length (core.Length z) h = refl
same_type wasm.PointerOrI64 (core.Slot (Some z)) h = refl
same_type ty x h = absurd (let e = h in cc)

same_types : (params : List CoreParam) (ws : List Word) → have_types (map (λ p. p.ty) params) ws ≡ true → are_words_of params ws ≡ true
same_types [] [] h = refl
same_types [] (x ∷ ws) h = absurd cc
same_types (p ∷ params) [] h = absurd cc
same_types (p ∷ params) (x ∷ ws) h =
    let both = and_parts (has_type p.ty x) (have_types (map (λ p. p.ty) params) ws) h in and_from (is_word_of p.ty x) (are_words_of params ws) (same_type p.ty x both.0) (same_types params ws both.1)

-- words that represent arguments are of their types
taken_typed : (ts : Shapes) (us : Parts ts) (ws : List Word) (blocks : List Block) → AreListed ts us → TakesArguments 2 ts us ws blocks → have_types (argument_words ts) ws ≡ true
taken_typed ts us ws blocks listed h = go (are_indirect ts) h
  where
    go : (c : Bool) → MatchBool c (TakesRecord 2 ts us ws blocks) (PartsSay 2 take ts us ws blocks) → have_types (if c then wasm.Pointer ∷ [] else param_words ts) ws ≡ true
    go true k = ap (have_types (wasm.Pointer ∷ [])) k.named
    go false k = parts_typed 2 take ts us ws blocks listed k

-- 2. The values of words

vals_of : (ws : List Word) → vals (core_data func_meaning ws) ≡ map (λ x. val.Word x) ws
vals_of [] = refl
vals_of (x ∷ ws) = ap (λ vs. val.Word x ∷ vs) (vals_of ws)

many_data : (ws : List Word) → length (core_data func_meaning ws) ≡ length ws
many_data [] = refl
many_data (x ∷ ws) = ap suc (many_data ws)

words_lent : (ws : List Word) → AreLent func_meaning (core_data func_meaning ws)
words_lent [] = tt
words_lent (x ∷ ws) = words_lent ws

-- a run begins with its words
abbrev pub at_words : FunctionBindgen → List Word → Heap → Choices → State
at_words b ws heap choices = begin (bound (site_names b.params) (map (λ x. val.Word x) ws)) [] heap choices

module _ (b : FunctionBindgen) (begun : IsBegun b) (export : b.import ≡ false) (ws : List Word) (heap : Heap) (choices : Choices) (many : length b.params ≡ length ws) where
  same : map (λ x. val.Word x) ws ≡ vals (core_data func_meaning ws)
  same = sym (vals_of ws)

  pub words_begin : (w : File) → Denote w b (args func_meaning 0 (core_data func_meaning ws)) (record { machine = at_words b ws heap choices; area = None })
  words_begin w =
      let ds = core_data func_meaning ws in
      let len = many ∙ sym (many_data ws) in
      holds b begun.unasked begun.used begun.distinct begun.sites w ds (record { machine = at_words b ws heap choices; area = None }) (passed ds (words_lent ws))
      (reads_env (site_names b.params) (vals ds) (at_words b ws heap choices)
      (subst (λ vs. ReadsAll (site_names b.params) (vals ds) (bound (site_names b.params) vs)) (sym same) (reads_bound (site_names b.params) (vals ds) (and_parts _ (is_distinct (site_names b.params)) begun.distinct).1 (same_length b.params ds len))))
      len
      (λ n free. unbound (site_names b.params) (map (λ x. val.Word x) ws) n (or_parts (bytes_eq b.area n) (is_used (site_names b.params) n) (begun.used n free)).1) tt
      (subst (λ i. AreaIs i w.area None b.asked b.area (at_words b ws heap choices)) (sym export) (λ e. refl))

  pub words_own : owns_of (at_words b ws heap choices) ≡ []
  words_own = ap (λ vs. flat_map (λ (l : Local). owned_in l.value) (bound (site_names b.params) vs)) same ∙ bound_bare (site_names b.params) (core_data func_meaning ws) (passed (core_data func_meaning ws) (words_lent ws))

-- 3. What the driver's contract asks

module _ (types : List TypeDef) (f : Function) (names : ExportNames) (results : List (Option Shape)) (tree : Tree) (nth : ℕ) (old new : FunctionBindgen) (c : ClosesExport types f names results tree nth old new) where
  abbrev pub whole_file : File
  whole_file = export_file tree c.number old.home

  no_import : new.import ≡ false
  no_import = c.still.import ∙ c.export

  pub file_serves : Serves (export_file tree c.number old.home) new
  file_serves = record {
    runtime = c.runtime;
    sites = subst (AreDefined tree.items) (sym c.still.sites) c.sites;
    room = subst (AllByRecursion (HoldsRecord 2 (static_request (area_in tree.items)))) (sym (c.calls.asked ∙ ap (λ xs. xs ++ c.calls.records) c.begun.unasked)) (shared_room results (result_shape types f) tree c.area c.calls.records c.calls.for);
    sized = shared_sized results (result_shape types f) tree c.area;
    static = λ e. refl;
    bound = λ e. sym c.still.home;
    called = subst (GivesAsCalled tree.items old.home) (sym c.head) c.called;
    suspended = none_suspended tree.items old.home new.opened c.closed;
  }

  module _ (us : Parts (param_shapes types f)) (ws : List Word) (heap : Heap) (choices : Choices) (caller : HonestCaller 2 (param_shapes types f) us ws heap) where
    words_typed : have_types (argument_words (param_shapes types f)) ws ≡ true
    words_typed = taken_typed (param_shapes types f) us ws caller.blocks caller.good caller.takes

    -- the machine takes the words
    pub words_expected : are_words_of c.item.params ws ≡ true
    words_expected = same_types c.item.params ws (ap (λ tys. have_types tys ws) c.signature.params ∙ words_typed)

    many_words : length old.params ≡ length ws
    many_words = c.many ∙ ap length (export_words types f) ∙ sym (types_length (argument_words (param_shapes types f)) ws words_typed)

    may_take : MayTake caller.blocks (account_of (at_words old ws heap choices))
    may_take = record {
      formed = caller.formed;
      there = all_in_heap heap.blocks caller.blocks caller.others caller.live;
      free = free_once caller.blocks [] (λ a. let well = formed heap caller.formed in omega (arith, at_most_one heap.blocks a well.each well.apart, caller.live (at_address a), total-append (at_address a) caller.blocks caller.others));
    }

    pub received : (p : Peer RustValue) → Received func_meaning (export_file tree c.number old.home) p (param_shapes types f) us ws caller.blocks old new [] (record { machine = at_words old ws heap choices; area = None }) (record { machine = at_words old ws heap choices; area = None })
    received p = record {
      listed = caller.good;
      represents = caller.takes;
      may = may_take;
      free = refl;
      bare = λ g. ap (total g) (words_own old c.begun c.export ws heap choices many_words);
      unplaced = refl;
      unasked = c.begun.unasked;
      at = record {
        serves = file_serves;
        done = ap (λ code. func_meaning.does (export_file tree c.number old.home) p code (record { machine = at_words old ws heap choices; area = None })) c.begun.empty ∙ func_sound.nothing (export_file tree c.number old.home) p (record { machine = at_words old ws heap choices; area = None });
        holds = subst (λ fs. Denote (export_file tree c.number old.home) old fs (record { machine = at_words old ws heap choices; area = None })) (sym (append-nil (args func_meaning 0 (core_data func_meaning ws))))
            (words_begin old c.begun c.export ws heap choices many_words (export_file tree c.number old.home));
      };
    }
