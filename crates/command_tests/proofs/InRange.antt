-- A function over the first type of a table is in the range of every table that has a type.
use Rattle.std.proofs.Common.{◌≡◌, ◌<◌, ◌&&◌, true, [], ◌∷◌, length, None, ap, ◌∙◌}
use Rattle.std.specs.List.{list_all}
use Rattle.std.proofs.lemmas.Bool.{lt-ltb}
use Rattle.wit_model.specs.IndexRange.{function_in_range, function_kind_in_range, payload_in_range, type_in_range}
use Rattle.wit_model.specs.TypeOrder.{payload_below, type_below}
use Rattle.wit_model.specs.declared.function.Function.{Function}
use Rattle.wit_model.specs.declared.function.FunctionKind.TheVariants.{Freestanding}
use Rattle.wit_model.specs.declared.function.Param.{Param}
use Rattle.wit_model.specs.declared.resolve.Resolve.{Resolve}
use Rattle.wit_model.specs.declared.types.WitType.TheVariants as wit

pub of_first : (r : Resolve) (f : Function) (p : Param) → f.kind ≡ Freestanding → f.params ≡ p ∷ [] → p.ty ≡ wit.Id (record { 0 = 0 }) → f.result ≡ None → 0 < length r.types → function_in_range r f ≡ true
unfolding function_in_range function_kind_in_range type_below payload_below
of_first r f p free params first none some =
    ap (λ k. function_kind_in_range r k && list_all (λ (x : Param). type_in_range r x.ty) f.params && payload_in_range r f.result) free
    ∙ ap (λ xs. list_all (λ (x : Param). type_in_range r x.ty) xs && payload_in_range r f.result) params
    ∙ ap (λ t. (type_in_range r t && true) && payload_in_range r f.result) first
    ∙ ap (λ b. (b && true) && payload_in_range r f.result) (lt-ltb 0 (length r.types) some)
    ∙ ap (payload_in_range r) none
