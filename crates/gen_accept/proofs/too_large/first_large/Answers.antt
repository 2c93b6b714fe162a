use Rattle.std.proofs.Common.{◌≡◌, ◌∙◌, ℕ, not, None, Some, subst, sym, ap, arith}
use Rattle.std.specs.Option.{option_map}
use Rattle.wit_model.specs.TypeOrder.{GoesDown}
use Rattle.wit_model.proofs.WellFormedLemmas.{types_go_down}
use Rattle.wit_layout.specs.Filled.{IsLayoutFaultOf, first_too_large}
use Rattle.wit_layout.proofs.FillSteps.{types_short}
use Rattle.type_defs.specs.Levels.{first_deep, is_shallow}
use Rattle.gen_accept.specs.Emitted.{exported_functions, imported_functions}
use Rattle.gen_accept.specs.TooLarge.{earlier, first_large_function, large_function, large_type}
use Rattle.gen_accept.proofs.FunctionLemmas.{are-sized}
use Rattle.gen_accept.proofs.LargeLemmas.{found-within, function-first, large-by-bytes, large-by-levels, mapped-twice, ok-more, type-first}
use Rattle.gen_accept.proofs.too_large.first_large.Goals as goal

pub first_deep-requires : goal.first_deep-requires
first_deep-requires c = subst GoesDown (sym c.as_slice-types.ensures) (types_go_down c.args.resolve.now c.requires.well.unbroken)

pub returns-in-Err-TooLarge : goal.returns-in-Err-TooLarge
returns-in-Err-TooLarge c =
    let types = c.args.resolve.now.types in
    let deep : c.in_ok-deep.deep ≡ first_deep types = c.in_ok-deep.ensures ∙ ap first_deep c.as_slice-types.ensures in
    let same : c.earlier.result.0 ≡ earlier c.in-Err-TooLarge.id.0 c.in_ok-deep.deep = rw (sym c.in-Err-TooLarge.id-is) c.earlier.ensures in
    let large : first_too_large types ≡ Some c.in-Err-TooLarge.id.0 = subst (IsLayoutFaultOf types) c.in-Err-TooLarge.field-0-is c.in-Err-TooLarge.ensures.err in
    ap (λ (n : ℕ). Some (large_type n)) (same ∙ ap (earlier c.in-Err-TooLarge.id.0) deep)
    ∙ sym (type-first types c.args.world.now (earlier c.in-Err-TooLarge.id.0 (first_deep types)) (large-by-bytes types c.in-Err-TooLarge.id.0 large))

pub overflow_cast-result : goal.overflow_cast-result
overflow_cast-result c =
    let types = c.args.resolve.now.types in
    let deep : first_deep types ≡ Some c.in-Some.nth = sym (c.in_ok-deep.ensures ∙ ap first_deep c.as_slice-types.ensures) ∙ c.in-Some.is in
    let within = found-within (λ entry. not (is_shallow types entry)) types c.in-Some.nth deep in
    omega (arith, within, types_short c.args.resolve.now c.requires.well.numbered)

pub returns-in-Some : goal.returns-in-Some
returns-in-Some c =
    let types = c.args.resolve.now.types in
    let deep : first_deep types ≡ Some c.in-Some.nth = sym (c.in_ok-deep.ensures ∙ ap first_deep c.as_slice-types.ensures) ∙ c.in-Some.is in
    sym (type-first types c.args.world.now c.in-Some.nth (large-by-levels types c.in-Ok.ensures.ok ∙ deep))

pub first_large_function-requires-clause-imports : goal.first_large_function-requires-clause-imports
first_large_function-requires-clause-imports c = are-sized c.args.resolve.now (imported_functions c.args.world.now) c.in-Ok.sizes c.in-Ok.ensures.sizes c.requires.imports

pub first_large_function-requires-clause-exports : goal.first_large_function-requires-clause-exports
first_large_function-requires-clause-exports c = are-sized c.args.resolve.now (exported_functions c.args.world.now) c.in-Ok.sizes c.in-Ok.ensures.sizes c.requires.exports

pub returns : goal.returns
returns c =
    let types = c.args.resolve.now.types in
    let world = c.args.world.now in
    let deep : first_deep types ≡ None = sym (c.in_ok-deep.ensures ∙ ap first_deep c.as_slice-types.ensures) ∙ c.in-None.is in
    let found = c.in_ok-first_large_function-in-None.field-0 in
    let first : option_map (λ f. f.now) found ≡ first_large_function types world =
    c.in_ok-first_large_function-in-None.ensures ∙ ap (λ ts. first_large_function ts world) c.as_slice-types.ensures in
    let whole = function-first types world (large-by-levels types c.in-Ok.ensures.ok ∙ deep) in
    ok-more c.large_function.result (λ large h. h ∙ mapped-twice large_function (λ f. f.now) found ∙ ap (option_map large_function) first ∙ sym whole) c.large_function.ensures
