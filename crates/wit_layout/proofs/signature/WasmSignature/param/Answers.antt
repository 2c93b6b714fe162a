use Rattle.std.proofs.Common.{◌<◌, ◌∙◌, ⊎_elim, length, ap, sym, arith}
use Rattle.std.specs.List.{slice_get}
use Rattle.std.proofs.lemmas.Bool.{ltb-true}
use Rattle.wit_layout.specs.Signature.{core_params, param_words, result_words}
use Rattle.wit_layout.proofs.SignatureSteps.{word_told, last_param, param_cases}
use Rattle.wit_layout.proofs.signature.WasmSignature.param.Goals as goal

pub returns-then-nth-lt16 : goal.returns-then-nth-lt16
returns-then-nth-lt16 c = λ types variant func told.
    let core = core_params variant (param_words types func.params) (result_words types func.result) in
    let known : c.args.nth < c.args.self.now.params.count = ⊎_elim (λ l. l) (λ last. absurd (omega (arith, last.0, c.if-nth-lt16.true))) (param_cases c.args.self.now c.args.nth c.requires) in
    word_told c.args.self.now.params core c.args.nth _ told.params_told known

pub returns-else-nth-lt16 : goal.returns-else-nth-lt16
returns-else-nth-lt16 c = λ types variant func told.
    let params = param_words types func.params in
    let answer = result_words types func.result in
    let core = core_params variant params answer in
    ⊎_elim (λ known. absurd (omega (arith, known, told.params_told.count, c.if-nth-lt16.false))) (λ (is, more).
    let long : 16 < length core = ltb-true 16 (length core) (sym told.params_told.more ∙ more) in
    ap (λ k. slice_get core k) is ∙ last_param variant params answer long) (param_cases c.args.self.now c.args.nth c.requires)
