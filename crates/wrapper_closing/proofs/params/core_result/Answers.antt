use Rattle.std.proofs.Common.{ap, slice_get, ◌∙◌}
use Rattle.std.specs.Prelude.{option_to_list}
use Rattle.wrapper_faithful.specs.Passed.{passed}
use Rattle.wrapper_closing.proofs.Args.{result_alone, told_results}
use Rattle.wrapper_closing.proofs.params.core_result.Goals as goal

pub returns : goal.returns
returns c =
    let types = c.args.resolve.now.types in
    let f = c.args.func.now in
    let s = c.wasm_signature-signature in
    ap option_to_list (c.copied.ensures ∙ c.first.ensures.value ∙ ap (λ ws. slice_get ws 0) (c.told.ensures ∙ told_results types f s.result s.ensures)) ∙ result_alone (passed types f)
