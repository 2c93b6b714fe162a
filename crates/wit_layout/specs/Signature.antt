-- What core parameters and results a function has.
use Rattle.std.specs.Prelude.{◌≡◌, ℕ, ◌==◌, ◌&&◌, ◌||◌, Bool, nat_lt, if◌then◌else◌, List, [], ◌∷◌, ◌++◌, length, map, Option}
use Rattle.std.specs.List.{list_all}
use Rattle.wit_model.specs.declared.wasm_type.WasmType.{WasmType}
use Rattle.wit_model.specs.declared.wasm_type.WasmType.TheVariants.{Pointer}
use Rattle.wit_model.specs.declared.types.WitType.{WitType}
use Rattle.wit_model.specs.declared.types.TypeDef.{TypeDef}
use Rattle.wit_model.specs.declared.function.Param.{Param}
use Rattle.wit_model.specs.declared.function.Function.{Function}
use Rattle.wit_model.specs.TypeOrder.{type_below}
use Rattle.wit_layout.specs.declared.signature.AbiVariant.{AbiVariant}
use Rattle.wit_layout.specs.declared.signature.AbiVariant.TheVariants.{GuestImport, GuestExport}
use Rattle.wit_layout.specs.declared.signature.WasmSignature.{WasmSignature}
use Rattle.wit_layout.specs.Flat.{IsFlatOf, flatten_type}
use Rattle.wit_layout.specs.Tree.{payload_in, record_of, trees}

-- the words of the parameters, which are those of their record, and the words of the result
abbrev pub param_words : List TypeDef → List Param → List WasmType
param_words types params = flatten_type (record_of types (map (λ p. p.ty) params))

abbrev pub result_words : List TypeDef → Option WitType → List WasmType
result_words types answer = flatten_type (payload_in (trees types) answer)

-- more than sixteen words go by one pointer
abbrev pub are_many : List WasmType → Bool
are_many words = nat_lt 16 (length words)

abbrev pub direct_words : List WasmType → List WasmType
direct_words words = if are_many words then Pointer ∷ [] else words

-- more than one word comes back by a pointer: a last parameter of an import, the result of an export
abbrev pub needs_pointer : List WasmType → Bool
needs_pointer words = nat_lt 1 (length words)

abbrev pub core_params : AbiVariant → List WasmType → List WasmType → List WasmType
core_params GuestImport params answer = direct_words params ++ (if needs_pointer answer then Pointer ∷ [] else [])
core_params GuestExport params answer = direct_words params

abbrev pub core_results : AbiVariant → List WasmType → List WasmType
core_results GuestImport answer = if needs_pointer answer then [] else answer
core_results GuestExport answer = if needs_pointer answer then Pointer ∷ [] else answer

-- the core signature of a function whose parameters and result are these words
pub record IsCoreSignature (variant : AbiVariant) (params answer : List WasmType) (s : WasmSignature) : Type 0 where
  pub params_told : IsFlatOf s.params (core_params variant params answer)
  pub results_told : IsFlatOf s.results (core_results variant answer)
  pub indirect : s.indirect_params ≡ are_many params
  pub pointed : s.retptr ≡ needs_pointer answer

-- what the Canonical ABI's `flatten_functype` gives for a function
abbrev pub IsFlattenedFunctype : List TypeDef → AbiVariant → Function → WasmSignature → Type 0
IsFlattenedFunctype types variant f s = IsCoreSignature variant (param_words types f.params) (result_words types f.result) s

-- each parameter is a primitive or a place of a table of so many types
abbrev pub params_below : ℕ → List Param → Bool
params_below bound params = list_all (λ p. type_below bound p.ty) params

-- a place of a core parameter, the seventeenth too
abbrev pub has_param : WasmSignature → ℕ → Bool
has_param s nth = nat_lt nth s.params.count || ((nth == 16) && s.params.more)
