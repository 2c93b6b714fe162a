use Rattle.std.proofs.Common.{◌≡◌, [], ◌∷◌, Bool, if◌then◌else◌, List, length, ap, ◌∙◌, arith}
use Rattle.wit_model.specs.declared.wasm_type.WasmType.TheVariants.{Pointer}
use Rattle.rust_tree.specs.declared.export.CoreParam.{CoreParam}
use Rattle.wrapper_meaning.specs.Represents.{result_words}
use Rattle.wrapper_meaning.specs.Shape.{result_shape}
use Rattle.wrapper_closing.specs.Params.{arg_names, core_args, local_sites}
use Rattle.rust_gen.proofs.post_return.return_code.Goals as goal

pub post_return_body-requires-clause-serves : goal.post_return_body-requires-clause-serves
post_return_body-requires-clause-serves c = c.requires.code.serves.result

pub post_return_body-requires-clause-some : goal.post_return_body-requires-clause-some
post_return_body-requires-clause-some c =
    let words = result_words (result_shape c.args.resolve.now.types c.args.f.now) in
    let one = ap (λ (b : Bool). core_args 0 (if b then Pointer ∷ [] else words)) c.requires.indirect in
    let count : length c.in_ok-parts.parts.params ≡ 1 =
    ap length c.in_ok-parts.ensures.params ∙ ap (λ (args : List CoreParam). length (local_sites (arg_names args))) (c.requires.params ∙ one) in
    omega (arith, count)
