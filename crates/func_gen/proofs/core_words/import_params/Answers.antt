use Rattle.std.proofs.Common.{[], ◌∷◌, ◌++◌, ap, ◌∙◌, arith}
use Rattle.wit_model.specs.declared.wasm_type.WasmType.TheVariants as wasm
use Rattle.wit_layout.specs.Signature.{param_words, result_words}
use Rattle.func_gen.proofs.CallWords.{params_all, params_more, taken_all}
use Rattle.func_gen.proofs.core_words.import_params.Goals as goal

pub returns-then-told : goal.returns-then-told
returns-then-told c =
    c.in_ok-push-2.ensures.ok ∙ ap (λ xs. xs ++ wasm.Pointer ∷ []) (taken_all c.loop-word.params _ c.loop-word.word-index c.loop-word.invariant (omega (arith, c.loop-word-test.false)))
    ∙ params_more c.wasm_signature.result.params (param_words c.args.resolve.now.types c.args.func.now.params) (result_words c.args.resolve.now.types c.args.func.now.result) c.wasm_signature.ensures.params_told c.if-told.true

pub returns : goal.returns
returns c =
    taken_all c.loop-word.params _ c.loop-word.word-index c.loop-word.invariant (omega (arith, c.loop-word-test.false))
    ∙ params_all c.wasm_signature.result.params (param_words c.args.resolve.now.types c.args.func.now.params) (result_words c.args.resolve.now.types c.args.func.now.result) c.wasm_signature.ensures.params_told c.if-told.false
