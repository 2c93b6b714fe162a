use Rattle.std.proofs.Common.{ap, ◌∙◌}
use Rattle.std.specs.Prelude.{[], ◌∷◌, if◌then◌else◌}
use Rattle.wit_model.specs.declared.wasm_type.WasmType.TheVariants.{Pointer}
use Rattle.wrapper_meaning.specs.Represents.{result_words}
use Rattle.wrapper_closing.specs.Params.{arg_types, core_args, param_types}
use Rattle.wrapper_closing.proofs.Args.{types_of_args}
use Rattle.wrapper_closing.proofs.param_laws.param_law.Goals as goal

pub returns-clause-signature : goal.returns-clause-signature
returns-clause-signature c p e params answer = record { params = ap arg_types params ∙ types_of_args 0 (param_types p); answer = answer }

pub returns-clause-pointer : goal.returns-clause-pointer
returns-clause-pointer c p indirect = ap (λ b. core_args 0 (if b then Pointer ∷ [] else result_words p.result)) indirect
