use Rattle.std.proofs.Common.{◌≡◌, ◌<◌, ℕ, Bool, true, false, List, [], ◌∷◌, length, refl, arith}
use Rattle.std.specs.List.{list_all}
use Rattle.std.proofs.lemmas.Bool.{and_from, lt-ltb}
use Rattle.wit_model.specs.TypeOrder.{type_below}
use Rattle.wit_model.specs.declared.types.TypeDef.{TypeDef}
use Rattle.wit_model.specs.declared.types.WitType.TheVariants.{Id}
use Rattle.abi_bindgen.proofs.TableSizes.{have_places}
use Rattle.gen_accept.proofs.AcceptedLemmas.{built-kinds}
use Rattle.gen_accept.proofs.ServedLemmas.{table-served}
use Rattle.command_tests.proofs.bodies.worlds.tables.Goals as goal

not_none : (types : List TypeDef) (b : Bool) → (types ≡ [] → b ≡ true) → b ≡ false → 0 < length types
not_none [] b empty e = absurd (let yes : b ≡ true = empty refl in cc)
not_none (t ∷ types) b empty e = omega arith

first_below : (n : ℕ) → 0 < n → list_all (λ ty. type_below n ty) (Id (record { 0 = 0 }) ∷ []) ≡ true
unfolding type_below
first_below n some = and_from _ true (lt-ltb 0 n some) refl

pub fits_in_record-requires : goal.fits_in_record-requires
fits_in_record-requires c =
    let types = c.in_ok-resolve.field-0.resolve.types in
    let some : 0 < length types = not_none types c.is_empty.result c.is_empty.ensures.1 c.if-is_empty.false in
    have_places c.in_ok-sizes.sizes types (Id (record { 0 = 0 }) ∷ []) c.in_ok-sizes.ensures.sizes (first_below (length types) some)

pub returns-clause-serves : goal.returns-clause-serves
returns-clause-serves c =
    let accepted = c.in_ok-accepted_world.ensures in
    let types = c.in_ok-resolve.field-0.resolve.types in
    table-served types (built-kinds _ _ _ _ accepted.checked accepted.built accepted.accepted accepted.world) 0
