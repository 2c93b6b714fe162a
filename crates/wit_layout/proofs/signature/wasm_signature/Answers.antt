use Rattle.std.proofs.Common.{◌≡◌, ◌∙◌, List, true, length, ap, ap₂, sym, subst, take}
use Rattle.wit_model.specs.declared.function.Param.{Param}
use Rattle.wit_model.specs.declared.wasm_type.WasmType.{WasmType}
use Rattle.wit_model.specs.declared.types.TypeDef.{TypeDef}
use Rattle.wit_model.specs.TypeOrder.{payload_below, GoesDown}
use Rattle.wit_model.proofs.WellFormedLemmas.{types_go_down}
use Rattle.wit_layout.specs.Flat.{EachHasWords}
use Rattle.wit_layout.proofs.CheckedWords.{checked_words}
use Rattle.wit_layout.specs.inside.Words.{kept}
use Rattle.wit_layout.specs.Signature.{IsCoreSignature, param_words, result_words, params_below}
use Rattle.wit_layout.proofs.SignatureSteps.{signature_cut, params_in_table, result_in_table}
use Rattle.wit_layout.proofs.WordLists.{from_none}
use Rattle.wit_layout.proofs.signature.wasm_signature.Goals as goal

pub flatten_params-params-requires-clause-down : goal.flatten_params-params-requires-clause-down
flatten_params-params-requires-clause-down c =
    subst GoesDown (sym c.as_slice-types.ensures) (types_go_down c.args.resolve.now c.requires.well.unbroken)

pub flatten_params-params-requires-clause-worded : goal.flatten_params-params-requires-clause-worded
flatten_params-params-requires-clause-worded c =
    subst EachHasWords (sym c.as_slice-types.ensures) (checked_words c.args.resolve.now c.requires.well.unbroken)

pub flatten_payload-answer-requires-clause-down : goal.flatten_payload-answer-requires-clause-down
flatten_payload-answer-requires-clause-down c =
    subst GoesDown (sym c.as_slice-types.ensures) (types_go_down c.args.resolve.now c.requires.well.unbroken)

pub flatten_payload-answer-requires-clause-worded : goal.flatten_payload-answer-requires-clause-worded
flatten_payload-answer-requires-clause-worded c =
    subst EachHasWords (sym c.as_slice-types.ensures) (checked_words c.args.resolve.now c.requires.well.unbroken)

pub flatten_params-params-requires-clause-within : goal.flatten_params-params-requires-clause-within
flatten_params-params-requires-clause-within c =
    let h = params_in_table c.args.resolve.now c.args.func.now c.requires.within in
    subst (λ (ps : List Param). params_below (length c.as_slice-types.result.now) ps ≡ true) (sym c.as_slice.ensures) (subst (λ (types : List TypeDef). params_below (length types) c.args.func.now.params ≡ true) (sym c.as_slice-types.ensures) h)

pub flatten_payload-answer-requires-clause-below : goal.flatten_payload-answer-requires-clause-below
flatten_payload-answer-requires-clause-below c =
    subst (λ (types : List TypeDef). payload_below (length types) c.args.func.now.result ≡ true) (sym c.as_slice-types.ensures) (result_in_table c.args.resolve.now c.args.func.now c.requires.within)

pub returns : goal.returns
returns c =
    let func = c.args.func.now in
    let types = c.args.resolve.now.types in
    let same = c.as_slice-types.ensures in
    let params = c.flatten_params-params.ensures.words ∙ ap₂ (λ (ts : List TypeDef) (ps : List Param). take 17 (param_words ts ps)) same c.as_slice.ensures in
    let answer = from_none 17 c.none.result.room (kept c.none.result) (kept c.flatten_payload-answer.result) _ c.none.ensures.words c.none.ensures.room c.flatten_payload-answer.ensures.words ∙ ap (λ (ts : List TypeDef). take 17 (result_words ts func.result)) same in
    signature_cut (param_words types func.params) (result_words types func.result) c.args.variant c.core_signature.result
    (subst (λ (ws : List WasmType). IsCoreSignature c.args.variant (take 17 (param_words types func.params)) ws c.core_signature.result) answer (subst (λ (ws : List WasmType). IsCoreSignature c.args.variant ws (kept c.flatten_payload-answer.result) c.core_signature.result) params c.core_signature.ensures))
