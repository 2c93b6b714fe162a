-- A post-return function that closes the driver's code frees what the words own.
use Rattle.std.proofs.Common.{◌≡◌, ℕ, true, ◌&&◌, List, [], ◌∷◌, ◌++◌, map, None, refl, sym, ap, ◌∙◌, if◌then◌else◌}
use Rattle.std.specs.Option.{option_map}
use Rattle.wit_model.specs.declared.function.Function.{Function}
use Rattle.wit_model.specs.declared.types.TypeDef.{TypeDef}
use Rattle.wit_model.specs.declared.wasm_type.WasmType.TheVariants as wasm
use Rattle.rust_tree.specs.Tree.{Tree}
use Rattle.rust_tree.specs.declared.export.CoreParam.{CoreParam}
use Rattle.rust_tree.specs.declared.export.PostReturnFn.{PostReturnFn}
use Rattle.wrapper_data.specs.declared.run.CallPoint.{CallPoint}
use Rattle.wrapper_data.specs.declared.run.Run.{Run}
use Rattle.wrapper_data.specs.declared.form.Form.{Form}
use Rattle.wrapper_data.specs.declared.heap.Heap.{Heap}
use Rattle.wrapper_data.specs.declared.block.Block.{Block}
use Rattle.wrapper_data.specs.declared.value.RustValue.TheVariants as value
use Rattle.wrapper_data.specs.declared.word.Word.{Word}
use Rattle.wrapper_data.specs.declared.word.Word.TheVariants as core
use Rattle.wrapper_meaning.specs.Items.{total}
use Rattle.wrapper_meaning.specs.Shape.{result_shape}
use Rattle.wrapper_meaning.specs.Direction.{give}
use Rattle.wrapper_meaning.proofs.NoLists.{result_has_no_blocks}
use Rattle.wrapper_meaning.proofs.Lists.{some_same}
use Rattle.wrapper_values.specs.declared.state.State.{State}
use Rattle.wrapper_values.specs.declared.state.Val.TheVariants as val
use Rattle.wrapper_values.specs.Act as machine
use Rattle.wrapper_values.specs.Effect.{is_word_of}
use Rattle.wrapper_values.specs.Setting.{Setting, stuck}
use Rattle.wrapper_run.specs.ExportRun.{are_words_of, core_answer, ended_export, expect_words, run_to_words}
use Rattle.wrapper_run.specs.PostReturn.{post_return_setting, run_post_return_fn, run_post_return_item, start_post_return}
use Rattle.wrapper_run.specs.Run.{begin, bound, give_and_leave}
use Rattle.wrapper_run.proofs.FreeSteps.{unit_words}
use Rattle.wrapper_run.proofs.StmtSteps.{runs-code}
use Rattle.wrapper_faithful.proofs.KeptHeaps.{post_return_keeps_heap}
use Rattle.func_gen.specs.Meaning.{call_of, setting_for}
use Rattle.func_gen.specs.declared.function_bindgen.FunctionBindgen.{FunctionBindgen}
use Rattle.wrapper_closing.specs.ClosedPostReturn.{ClosesPostReturn}
use Rattle.wrapper_closing.specs.Laws.{ClosedPostReturnFrees, ClosedPostReturnIsReturned, UnlistedIsUnreturned}
use Rattle.wrapper_closing.proofs.Leaving.{leaves_nothing}
use Rattle.wrapper_closing.proofs.PostReturnRuns.{Freed, entered_at, file, frees_returned, indirect, one_address, unanswered}

-- an address is the word of one parameter that is an address
takes_address : (params : List CoreParam) (q : ℕ) → map (λ p. p.ty) params ≡ wasm.Pointer ∷ [] → are_words_of params (core.Pointer q ∷ []) ≡ true
takes_address [] q e = absurd cc
takes_address (p ∷ []) q e = let one : p.ty ≡ wasm.Pointer = cc in ap (λ ty. is_word_of ty (core.Pointer q) && true) one
takes_address (p ∷ r ∷ params) q e = absurd cc

no_calls : (calls : List CallPoint) → map call_of calls ≡ [] → calls ≡ []
no_calls [] e = refl
no_calls (p ∷ calls) e = absurd cc

module _ (types : List TypeDef) (f : Function) (tree : Tree) (nth : ℕ) (old new : FunctionBindgen) (c : ClosesPostReturn types f tree nth old new) (form : Form) (q : ℕ) (heap : Heap) (blocks : List Block) (freed : Freed types f tree nth old new c form q heap blocks) where
  abbrev w : Setting
  w = setting_for (file types f tree nth old new c) (unanswered types f tree nth old new c form)

  abbrev here : State
  here = entered_at types f tree nth old new c q heap

  -- 1. The run of the whole function

  starts_here : start_post_return c.function (core.Pointer q ∷ []) heap ≡ here
  starts_here = ap (λ names. begin (bound names (val.Word (core.Pointer q) ∷ [])) [] heap (record { list = [] })) c.names

  expected : expect_words (stuck w) c.function.params (core.Pointer q ∷ []) here ≡ machine.Done tt here
  expected = ap (λ b. if b then machine.Done tt here else machine.Stopped (stuck w) here) (takes_address c.function.params q (one_address types f tree nth old new c))

  body_runs : run_to_words w None c.function.body here ≡ machine.Done [] (record freed.state { locals = [] })
  body_runs =
      ap (λ o. machine.and_then o (λ v. give_and_leave w (core_answer None v))) (runs-code w c.function.body new.code.stmts None here c.body)
      ∙ ap (λ o. machine.and_then (machine.and_then o (λ u. machine.pure (val.Value value.Unit))) (λ v. give_and_leave w (core_answer None v))) freed.done
      ∙ ap (λ given. give_and_leave w given freed.state) unit_words
      ∙ ap (λ o. machine.and_then o (λ u. machine.pure {A = List Word} [])) (leaves_nothing w freed.state freed.owns)

  pub whole_runs : run_post_return_fn w c.function (core.Pointer q ∷ []) (start_post_return c.function (core.Pointer q ∷ []) heap) ≡ machine.Done [] (record freed.state { locals = [] })
  whole_runs =
      ap (run_post_return_fn w c.function (core.Pointer q ∷ [])) starts_here
      ∙ ap (λ o. machine.and_then o (λ u. run_to_words w None c.function.body)) expected
      ∙ body_runs

-- 2. Whole

pub closed_post_return_frees : ClosedPostReturnFrees
unfolding run_post_return_item
closed_post_return_frees types tree nth f old new c x =
    let r = result_shape types f in
    let (q, named, freed) = frees_returned types f tree nth old new c x.form x.heap x.blocks x.given.others x.given.formed r x.given.value x.words x.given.area c.frees.frees (indirect types f tree nth old new c) x.given.good x.given.represents x.given.live in
    let item : x.run ≡ run_post_return_item (post_return_setting tree c.number x.form) c.function x.words x.heap =
    some_same x.run _ (sym x.ran ∙ ap (option_map (λ (p : ℕ × PostReturnFn). run_post_return_item (post_return_setting tree p.0 x.form) p.1 x.words x.heap)) c.there) in
    let run : x.run ≡ ended_export (machine.Done [] (record freed.state { locals = [] })) =
    item ∙ ap (λ ws. run_post_return_item (post_return_setting tree c.number x.form) c.function ws x.heap) named ∙ ap ended_export (whole_runs types f tree nth old new c x.form q x.heap x.blocks freed) in
    record {
      done = ap (λ (run : Run). run.stop) run;
      formed = (post_return_keeps_heap tree nth x.words x.heap x.form x.run x.given.formed x.ran).end;
      account = λ g. ap (λ (run : Run). total g (run.heap.blocks ++ x.blocks)) run ∙ freed.left g;
      words = ap (λ (run : Run). run.words) run;
      value = ap (λ (run : Run). run.value) run;
      calls = ap (λ (run : Run). run.calls) run ∙ no_calls freed.state.calls freed.calls;
      requests = ap (λ (run : Run). run.requests) run ∙ freed.requests;
    }

pub closed_post_return_is_returned : ClosedPostReturnIsReturned
closed_post_return_is_returned types name tree nth f old new c entered =
    record { number = c.number; function = c.function; there = c.there; entered = entered; frees = closed_post_return_frees types tree nth f old new c }

-- where nothing is to be freed, there is no such function
pub unlisted_is_unreturned : UnlistedIsUnreturned
unlisted_is_unreturned types name tree nth f none missing unnamed =
    record { missing = missing; unnamed = unnamed; owns = λ v words blocks area good gives. result_has_no_blocks 2 give (result_shape types f) v words blocks area none gives }
