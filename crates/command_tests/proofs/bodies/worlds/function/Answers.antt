use Rattle.std.proofs.Common.{List, [], ◌∷◌, ◌++◌, Some, map, refl, sym, ap, ◌∙◌, subst}
use Rattle.wit_model.specs.declared.function.Param.{Param}
use Rattle.wit_model.specs.declared.types.WitType.TheVariants as wit
use Rattle.wrapper_meaning.specs.Shape.{payloads_in, shapes}
use Rattle.abi_bindgen.specs.Served.{ServesAll}
use Rattle.command_tests.proofs.InRange.{of_first}
use Rattle.command_tests.proofs.bodies.worlds.function.Goals as goal

pub returns-clause-within : goal.returns-clause-within
returns-clause-within c = λ r some.
    let first : Param = record { name = c.in_ok-name.field-0; ty = wit.Id (record { 0 = 0 }) } in
    of_first r _ first refl (c.in_ok-push.ensures.ok ∙ ap (λ (xs : List Param). xs ++ first ∷ []) c.new-params.ensures) refl refl some

-- its one parameter is of the first type
pub returns-clause-types : goal.returns-clause-types
returns-clause-types c =
    let first : Param = record { name = c.in_ok-name.field-0; ty = wit.Id (record { 0 = 0 }) } in
    ap (map (λ (p : Param). p.ty)) (c.in_ok-push.ensures.ok ∙ ap (λ (xs : List Param). xs ++ first ∷ []) c.new-params.ensures)

pub returns-clause-serves : goal.returns-clause-serves
unfolding returns-clause-types
returns-clause-serves c = λ types served.
    record {
      plain = refl;
      params = subst (λ tys. ServesAll (payloads_in (shapes types) (map (λ ty. Some ty) tys))) (sym (returns-clause-types c)) (served, tt);
      result = tt;
    }
