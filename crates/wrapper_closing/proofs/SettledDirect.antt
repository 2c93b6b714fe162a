-- A value of a direct shape has no map, and is settled.
use Rattle.std.proofs.Common.{◌≡◌, inl, inr, true, Option, None, Some, refl, sym, ap, ap₂, subst}
use Rattle.std.proofs.lemmas.Bool.{and_parts}
use Rattle.wrapper_meaning.specs.InRange.{IsListed, IsListedResult}
use Rattle.wrapper_meaning.specs.Settled.{all_settled, settled, settled_case, settled_result}
use Rattle.wrapper_meaning.specs.Shape.{Shape, Shapes}
use Rattle.wrapper_meaning.specs.Shape.Shape.{cases, fields, fixed, flags, handle, list, other, pairs, resource, scalar, text, tuple}
use Rattle.wrapper_meaning.specs.Shape.Shapes.{more, none}
use Rattle.wrapper_meaning.specs.Value.{Case, Parts, Result, Value}
use Rattle.wrapper_closing.specs.Direct.{are_direct, is_direct, is_direct_result}

mutual
  settled_same : (t : Shape) (v : Value t) → is_direct t ≡ true → settled t v ≡ v
  settled_same (scalar s) v d = refl
  settled_same text v d = refl
  settled_same (fields ts) v d = all_settled_same ts v d
  settled_same (tuple ts) v d = all_settled_same ts v d
  settled_same (list t) v d = absurd cc
  settled_same (pairs x y) v d = absurd cc
  settled_same (fixed t n) v d = absurd cc
  settled_same (cases ts) v d = settled_case_same ts v d
  settled_same (flags n) v d = refl
  settled_same (handle o n) v d = absurd cc
  settled_same (resource n) v d = absurd cc
  settled_same other v d = absurd cc

  pub all_settled_same : (ts : Shapes) (v : Parts ts) → are_direct ts ≡ true → all_settled ts v ≡ v
  all_settled_same none v d = refl
  all_settled_same (more t ts) v d =
      let both = and_parts (is_direct t) (are_direct ts) d in ap₂ {C = Value t × Parts ts} (λ x y. (x, y)) (settled_same t v.0 both.0) (all_settled_same ts v.1 both.1)

  settled_case_same : (ts : Shapes) (c : Case ts) → are_direct ts ≡ true → settled_case ts c ≡ c
  settled_case_same none c d = absurd c
  settled_case_same (more t ts) (inl v) d = ap inl (settled_same t v (and_parts (is_direct t) (are_direct ts) d).0)
  settled_case_same (more t ts) (inr c) d = ap inr (settled_case_same ts c (and_parts (is_direct t) (are_direct ts) d).1)

-- hence it is in its range as it was
pub settled_listed : (r : Option Shape) (u : Result r) → is_direct_result r ≡ true → IsListedResult r u → IsListedResult r (settled_result r u)
settled_listed None u d g = g
settled_listed (Some t) u d g = subst (IsListed t) (sym (settled_same t u d)) g
