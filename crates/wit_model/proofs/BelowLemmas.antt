-- Types that are below a bound, and what they name.
use Rattle.std.proofs.Common.{◌≡◌, ℕ, ◌<◌, ◌≤◌, true, Option, None, Some, refl, arith}
use Rattle.std.proofs.lemmas.Bool.{lt-ltb}
use Rattle.std.proofs.lemmas.Grind.{common_steps}
use Rattle.wit_model.specs.declared.name.TypeId.{TypeId}
use Rattle.wit_model.specs.declared.types.WitType.{WitType}
use Rattle.wit_model.specs.declared.types.WitType.TheVariants.{Id}
use Rattle.wit_model.specs.TypeOrder.{payload_below, type_below}

pub id_below : (bound : ℕ) (id : TypeId) → type_below bound (Id id) ≡ true → id.0 < bound
unfolding type_below
id_below bound id h = grind (arith, common_steps)

-- what is below a bound is below a higher one

pub type_below_more : (low high : ℕ) (ty : WitType) → low ≤ high → type_below low ty ≡ true → type_below high ty ≡ true
unfolding type_below
type_below_more low high (Id id) le h = let less = id_below low id h in lt-ltb id.0 high (omega arith)
type_below_more low high _ le h = refl

pub payload_below_more : (low high : ℕ) (p : Option WitType) → low ≤ high → payload_below low p ≡ true → payload_below high p ≡ true
unfolding payload_below
payload_below_more low high None le h = refl
payload_below_more low high (Some ty) le h = type_below_more low high ty le h
