use Rattle.std.proofs.Common.{◌≡◌, ap, ◌∙◌}
use Rattle.std.proofs.lemmas.Result.{IfOk-weaker}
use Rattle.wrapper_faithful.specs.Passed.{passed}
use Rattle.abi_driver.specs.Exports.{export_params}
use Rattle.wrapper_closing.specs.Params.{core_args, param_types}
use Rattle.wrapper_closing.proofs.Args.{as_many, distinct_so, driver_params, params_fit, told_params, typed_so}
use Rattle.wrapper_closing.proofs.params.core_params.Goals as goal

all_told : (c : goal.After-core_args) → c.told.result.now ≡ param_types (passed c.args.resolve.now.types c.args.func.now)
all_told c = c.told.ensures ∙ told_params c.args.resolve.now.types c.args.func.now c.wasm_signature-signature.result c.wasm_signature-signature.ensures

pub returns-clause-args : goal.returns-clause-args
returns-clause-args c = IfOk-weaker c.core_args.result _ _ (λ args is. is ∙ ap (core_args 0) (all_told c)) c.core_args.ensures

pub returns-clause-typed : goal.returns-clause-typed
returns-clause-typed c = IfOk-weaker c.core_args.result _ _ (λ args is. typed_so args _ _ is (all_told c)) c.core_args.ensures

pub returns-clause-distinct : goal.returns-clause-distinct
returns-clause-distinct c =
    let fit = params_fit (passed c.args.resolve.now.types c.args.func.now) in
    IfOk-weaker c.core_args.result _ _ (λ args is. distinct_so args _ _ is (all_told c) fit) c.core_args.ensures

pub returns-clause-many : goal.returns-clause-many
returns-clause-many c =
    let types = c.args.resolve.now.types in
    let f = c.args.func.now in
    IfOk-weaker c.core_args.result _ _ (λ args is. as_many args (export_params types f) (typed_so args _ _ is (all_told c) ∙ driver_params types f)) c.core_args.ensures
