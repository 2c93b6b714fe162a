use Rattle.std.proofs.Common.{◌≡◌, ◌∙◌, true, map, find, None, is_some, sym, ap}
use Rattle.std.specs.Option.{option_map}
use Rattle.gen_accept.specs.Emitted.{exported_functions, functions_in, imported_functions}
use Rattle.gen_accept.specs.TooLarge.{is_large_function}
use Rattle.gen_accept.proofs.LargeLemmas.{found-behind, found-front, mapped-none, mapped-some, ok-more}
use Rattle.gen_accept.proofs.too_large.first_large_function.Goals as goal

pub returns-then-is_some : goal.returns-then-is_some
returns-then-is_some c =
    let types = c.args.types.now in
    let world = c.args.world.now in
    let test = is_large_function types in
    let told : option_map (λ f. f.now) c.in_ok-first.first ≡ find test (imported_functions world) =
    c.in_ok-first.ensures types c.requires.filled (c.as_slice-2.ensures ∙ c.in_ok-counts.ensures) ∙ ap (λ fs. find test (map (λ f. f.now) fs)) c.as_slice-3.ensures.value
    ∙ ap (find test) (c.in_ok-imports.ensures ∙ ap functions_in c.as_slice.ensures) in
    let found : is_some (find test (imported_functions world)) ≡ true =
    ap is_some (sym told) ∙ mapped-some (λ f. f.now) c.in_ok-first.first (sym c.is_some.ensures ∙ c.if-is_some.true) in
    told ∙ sym (found-front test (imported_functions world) (exported_functions world) found)

pub returns : goal.returns
returns c =
    let types = c.args.types.now in
    let world = c.args.world.now in
    let test = is_large_function types in
    let told : option_map (λ f. f.now) c.in_ok-first.first ≡ find test (imported_functions world) =
    c.in_ok-first.ensures types c.requires.filled (c.as_slice-2.ensures ∙ c.in_ok-counts.ensures) ∙ ap (λ fs. find test (map (λ f. f.now) fs)) c.as_slice-3.ensures.value
    ∙ ap (find test) (c.in_ok-imports.ensures ∙ ap functions_in c.as_slice.ensures) in
    let none : find test (imported_functions world) ≡ None =
    sym told ∙ mapped-none (λ f. f.now) c.in_ok-first.first (sym c.is_some.ensures ∙ c.if-is_some.false) in
    let behind = found-behind test (imported_functions world) (exported_functions world) none in
    ok-more c.first_large_of-2.result
    (λ found h.
    h types c.requires.filled (c.as_slice-5.ensures ∙ c.in_ok-counts.ensures) ∙ ap (λ fs. find test (map (λ f. f.now) fs)) c.as_slice-6.ensures.value
    ∙ ap (find test) (c.in_ok-exports.ensures ∙ ap functions_in c.as_slice-4.ensures) ∙ sym behind)
    c.first_large_of-2.ensures
