-- What a caller knows of tables in which no rule is broken: each type keeps each rule on types.
use Rattle.std.proofs.Common.{◌≡◌, ℕ, ◌+◌, ◌∙◌, zero, suc, true, List, [], ◌∷◌, Option, None, Some, refl, sym, ap, add-zero, arith}
use Rattle.std.specs.List.{slice_get, enumerate_from}
use Rattle.std.specs.Option.{IfNone}
use Rattle.wit_model.specs.declared.types.TypeDef.{TypeDef}
use Rattle.wit_model.specs.declared.resolve.Resolve.{Resolve}
use Rattle.wit_model.specs.Place.{Place}
use Rattle.wit_model.specs.TypeOrder.{parts_below, first_out_of_order, GoesDown}
use Rattle.wit_model.specs.Members.{has_members, first_without_members}
use Rattle.wit_model.specs.MapKey.{first_bad_key}
use Rattle.wit_model.specs.WellFormed.{first_fault}
use Rattle.wit_model.proofs.InRange.{neither, unmapped, passes_at}

numbered_at : {A : Type 0} (xs : List A) (n k : ℕ) (x : A) → slice_get xs k ≡ Some x → slice_get (enumerate_from n xs) k ≡ Some (n + k, x)
numbered_at [] n k x e = cc
numbered_at (y ∷ ys) n zero x e =
    let same : y ≡ x = cc in
    rw (add-zero n, same) refl
numbered_at (y ∷ ys) n (suc k) x e =
    let next : n + 1 + k ≡ n + suc k = omega arith in
    numbered_at ys (n + 1) k x e ∙ ap (λ m. Some (m, x)) next

pub goes_down : (r : Resolve) → first_out_of_order r ≡ None → GoesDown r.types
unfolding first_out_of_order
goes_down r h k t e =
    passes_at _ (λ (entry : ℕ × TypeDef). parts_below entry.0 entry.1.kind) (enumerate_from 0 r.types) k (k, t) h
    (numbered_at r.types 0 k t e ∙ ap (λ m. Some (m, t)) (omega arith))

-- the rules behind the first
abbrev none_of : (r : Resolve) → Type 0
none_of r = (first_out_of_order r ≡ None) × (first_without_members r ≡ None) × (first_bad_key r ≡ None)

none_broken : (r : Resolve) → first_fault r ≡ None → none_of r
unfolding first_fault
none_broken r h =
    let behind_range = (neither _ _ h).1 in
    let behind_order = (neither _ _ behind_range).1 in
    let behind_members = (neither _ _ behind_order).1 in
    (unmapped _ _ (neither _ _ behind_range).0, unmapped _ _ (neither _ _ behind_order).0, unmapped _ _ (neither _ _ behind_members).0)

-- each type names only types with lower ids
pub types_go_down : (r : Resolve) → first_fault r ≡ None → GoesDown r.types
types_go_down r h = goes_down r (none_broken r h).0

-- each kind that wants a member, or a length above 0, has one
pub has_members_at : (r : Resolve) (k : ℕ) (t : TypeDef) → first_fault r ≡ None → slice_get r.types k ≡ Some t → has_members t.kind ≡ true
unfolding first_without_members
has_members_at r k t h e = passes_at _ (λ (entry : TypeDef). has_members entry.kind) r.types k t (none_broken r h).1 e

pub goes_down_if_none : (r : Resolve) (o : Option Place) → o ≡ first_out_of_order r → IfNone o (GoesDown r.types)
goes_down_if_none r None h = goes_down r (sym h)
goes_down_if_none r (Some place) h = tt
