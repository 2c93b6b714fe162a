use Rattle.std.proofs.Common.{◌≡◌, ap, ◌∙◌}
use Rattle.std.proofs.lemmas.Result.{IfOk-weaker}
use Rattle.wrapper_faithful.specs.Passed.{passed}
use Rattle.wrapper_closing.specs.Params.{core_args, result_types}
use Rattle.wrapper_closing.proofs.Args.{distinct_so, results_fit, told_results, typed_so}
use Rattle.wrapper_closing.proofs.params.post_return_params.Goals as goal

all_told : (c : goal.After-core_args) → c.told.result.now ≡ result_types (passed c.args.resolve.now.types c.args.func.now)
all_told c = c.told.ensures ∙ told_results c.args.resolve.now.types c.args.func.now c.wasm_signature-signature.result c.wasm_signature-signature.ensures

pub returns-clause-args : goal.returns-clause-args
returns-clause-args c = IfOk-weaker c.core_args.result _ _ (λ args is. is ∙ ap (core_args 0) (all_told c)) c.core_args.ensures

pub returns-clause-typed : goal.returns-clause-typed
returns-clause-typed c = IfOk-weaker c.core_args.result _ _ (λ args is. typed_so args _ _ is (all_told c)) c.core_args.ensures

pub returns-clause-distinct : goal.returns-clause-distinct
returns-clause-distinct c =
    let fit = results_fit (passed c.args.resolve.now.types c.args.func.now) in
    IfOk-weaker c.core_args.result _ _ (λ args is. distinct_so args _ _ is (all_told c) fit) c.core_args.ensures
