-- What operands call is a conversion of `_rt` or a function of the core library.
use Rattle.std.proofs.Common.{◌≡◌, ℕ, zero, suc, Bool, true, false, cond, ◌&&◌, ◌||◌, List, [], ◌∷◌, refl, ap, ◌∙◌}
use Rattle.std.specs.Prelude.{codes}
use Rattle.std.specs.Str.{bytes_eq}
use Rattle.std.proofs.lemmas.Bool.{and_parts}
use Rattle.std.proofs.lemmas.Slice.Eq.{bytes_eq-Decides}
use Rattle.wit_model.specs.Bytes.{Bytes}
use Rattle.rust_tree.specs.declared.path.Path.{Path}
use Rattle.wrapper_values.specs.declared.core_words.CoreFn.{CoreFn}
use Rattle.wrapper_values.specs.declared.core_words.CoreFn.TheVariants as core_fn
use Rattle.wrapper_values.specs.Variants.{number_in_core}
use Rattle.wrapper_run.specs.Run.{callee, case_callee, core_function, is_f32_from_bits, is_f64_from_bits, is_i64_from, member_callee, of_runtime, path_callee, runtime_module_name}
use Rattle.func_gen.specs.Operand.{is_conversion, is_conversion_of, is_converting, is_core_function, is_core_function_of}

-- a conversion is a function of `_rt`
conversion_of : (lead : Bool) (supers : ℕ) (names : List Bytes) → is_conversion_of lead supers names ≡ true → (name : Bytes) × (path_callee lead supers names ≡ of_runtime name)
unfolding runtime_module_name
conversion_of false zero (first ∷ name ∷ []) h = (name, ap (λ b. cond b (of_runtime name) (member_callee first name)) (and_parts (bytes_eq first (codes "_rt")) (is_converting name) h).0)
conversion_of false zero [] h = absurd cc
conversion_of false zero (first ∷ []) h = absurd cc
conversion_of false zero (first ∷ second ∷ third ∷ names) h = absurd cc
conversion_of false (suc n) names h = absurd cc
conversion_of true supers names h = absurd cc

pub calls_conversion : (path : Path) → is_conversion path ≡ true → (name : Bytes) × (callee path ≡ of_runtime name)
unfolding is_conversion callee
calls_conversion path h = conversion_of path.lead path.supers path.names h

-- a function of the core library

abbrev IsCore : Bool → List Bytes → Type 0
IsCore lead names = (f : CoreFn) × (path_callee lead 0 names ≡ core_function f)

-- two names are those of a function on numbers
two_names : (first name : Bytes) (a b : Bytes) (f : CoreFn) → (bytes_eq first a && bytes_eq name b) ≡ true → path_callee false 0 (a ∷ b ∷ []) ≡ core_function f → IsCore false (first ∷ name ∷ [])
two_names first name a b f h is =
    let parts = and_parts (bytes_eq first a) (bytes_eq name b) h in
    (f, ap (λ x. path_callee false 0 (x ∷ name ∷ [])) ((bytes_eq-Decides first a).0 parts.0) ∙ ap (λ x. path_callee false 0 (a ∷ x ∷ [])) ((bytes_eq-Decides name b).0 parts.1) ∙ is)

number_function : (first name : Bytes) → (is_i64_from first name || (is_f32_from_bits first name || is_f64_from_bits first name)) ≡ true → IsCore false (first ∷ name ∷ [])
unfolding is_i64_from is_f32_from_bits is_f64_from_bits runtime_module_name
number_function first name h = one (is_i64_from first name) (is_f32_from_bits first name) refl refl h
  where
    one : (c d : Bool) → is_i64_from first name ≡ c → is_f32_from_bits first name ≡ d → (c || (d || is_f64_from_bits first name)) ≡ true → IsCore false (first ∷ name ∷ [])
    one true d i j k = two_names first name (codes "i64") (codes "from") core_fn.I64From i refl
    one false true i j k = two_names first name (codes "f32") (codes "from_bits") core_fn.F32FromBits j refl
    one false false i j k = two_names first name (codes "f64") (codes "from_bits") core_fn.F64FromBits k refl

core_function_of : (lead : Bool) (supers : ℕ) (names : List Bytes) → is_core_function_of lead supers names ≡ true → (f : CoreFn) × (path_callee lead supers names ≡ core_function f)
core_function_of false zero (first ∷ name ∷ []) h = number_function first name h
core_function_of true zero (first ∷ second ∷ third ∷ fourth ∷ []) h = (core_fn.NewSlot, ap (λ b. cond b (core_function core_fn.NewSlot) (case_callee (number_in_core (first ∷ second ∷ third ∷ fourth ∷ [])))) h)
core_function_of lead supers names h = absurd (let e : false ≡ true = h in cc)

pub calls_core_function : (path : Path) → is_core_function path ≡ true → (f : CoreFn) × (callee path ≡ core_function f)
unfolding is_core_function callee
calls_core_function path h = core_function_of path.lead path.supers path.names h
