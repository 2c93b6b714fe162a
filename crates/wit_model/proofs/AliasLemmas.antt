-- Along aliases ids go down, and so following more of them than the id's number changes nothing.
use Rattle.std.proofs.Common.{◌≡◌, ℕ, zero, suc, ◌<◌, ◌≤◌, true, List, Option, None, Some, slice_get, refl, sym, ◌∙◌, ap, arith}
use Rattle.std.specs.Prelude.{unwrap_or}
use Rattle.std.specs.Option.{option_map, option_and_then}
use Rattle.std.proofs.lemmas.Bool.{and_parts}
use Rattle.wit_model.specs.declared.name.TypeId.{TypeId}
use Rattle.wit_model.specs.declared.types.WitType.{WitType}
use Rattle.wit_model.specs.declared.types.WitType.TheVariants.{Id}
use Rattle.wit_model.specs.declared.types.TypeDefKind.{TypeDefKind}
use Rattle.wit_model.specs.declared.types.TypeDefKind.TheVariants as kind
use Rattle.wit_model.specs.declared.types.TypeDef.{TypeDef}
use Rattle.wit_model.specs.Parts.{parts}
use Rattle.wit_model.specs.TypeOrder.{type_below, payload_below, parts_below, GoesDown}
use Rattle.wit_model.specs.Dealias.{aliased, next_alias, behind_aliases, dealias}
use Rattle.wit_model.proofs.BelowLemmas.{id_below}

target_below : (bound : ℕ) (ty : WitType) (next : TypeId) → aliased (kind.Alias ty) ≡ Some next → parts_below bound (kind.Alias ty) ≡ true → next.0 < bound
unfolding parts_below payload_below type_below parts
target_below bound (Id id) next e h =
    let same : id ≡ next = cc in
    rw (sym same) (id_below bound id (and_parts _ _ h).0)
target_below bound _ next e h = cc

aliased_below : (bound : ℕ) (kind : TypeDefKind) (next : TypeId) → aliased kind ≡ Some next → parts_below bound kind ≡ true → next.0 < bound
aliased_below bound (kind.Alias ty) next e h = target_below bound ty next e h
aliased_below bound _ next e h = cc

entry_below : (types : List TypeDef) → GoesDown types → (k : ℕ) (o : Option TypeDef) (next : TypeId) → slice_get types k ≡ o → option_and_then (λ t. aliased t.kind) o ≡ Some next → next.0 < k
entry_below types down k None next e h = cc
entry_below types down k (Some t) next e h = aliased_below k t.kind next h (down k t e)

pub next_below : (types : List TypeDef) → GoesDown types → (id next : TypeId) → next_alias types id ≡ Some next → next.0 < id.0
next_below types down id next e = entry_below types down id.0 (slice_get types id.0) next refl e

module _ (types : List TypeDef) (down : GoesDown types) where
  -- where ids end, no alias leads on
  stays : (most : ℕ) (id : TypeId) (o : Option TypeId) → next_alias types id ≡ o → id.0 ≤ 0 → unwrap_or (option_map (behind_aliases types most) o) id ≡ id
  stays most id None e p = refl
  stays most id (Some next) e p =
      let lower : next.0 < id.0 = next_below types down id next e in
      let none : ⊥ = omega arith in
      absurd none

  onwards : (m n : ℕ) (id : TypeId) (o : Option TypeId) → next_alias types id ≡ o → id.0 ≤ suc m → id.0 ≤ suc n
      → ((next : TypeId) → next.0 ≤ m → next.0 ≤ n → behind_aliases types m next ≡ behind_aliases types n next)
      → unwrap_or (option_map (behind_aliases types m) o) id ≡ unwrap_or (option_map (behind_aliases types n) o) id
  onwards m n id None e p q same = refl
  onwards m n id (Some next) e p q same =
      let lower : next.0 < id.0 = next_below types down id next e in
      same next (omega arith) (omega arith)

  enough : (m n : ℕ) (id : TypeId) → id.0 ≤ m → id.0 ≤ n → behind_aliases types m id ≡ behind_aliases types n id
  enough zero zero id p q = refl
  enough zero (suc n) id p q = sym (stays n id (next_alias types id) refl p)
  enough (suc m) zero id p q = stays m id (next_alias types id) refl q
  enough (suc m) (suc n) id p q = onwards m n id (next_alias types id) refl p q (enough m n)

  last : (id : TypeId) (n : ℕ) → id.0 ≡ n → next_alias types id ≡ None → behind_aliases types n id ≡ id
  last id zero e h = refl
  last id (suc n) e h = ap (λ o. unwrap_or (option_map (behind_aliases types n) o) id) h

  more : (id next : TypeId) (n : ℕ) → id.0 ≡ n → next_alias types id ≡ Some next → behind_aliases types n id ≡ behind_aliases types next.0 next
  more id next zero e h =
      let lower : next.0 < id.0 = next_below types down id next h in
      let none : ⊥ = omega arith in
      absurd none
  more id next (suc n) e h =
      let lower : next.0 < id.0 = next_below types down id next h in
      ap (λ o. unwrap_or (option_map (behind_aliases types n) o) id) h ∙ enough n next.0 next (omega arith) (omega arith)

  -- what is no alias of an entry stands for itself, and an alias for what its target stands for
  pub dealias-last : (id : TypeId) → next_alias types id ≡ None → dealias types id ≡ id
  unfolding dealias
  dealias-last id h = last id id.0 refl h

  pub dealias-next : (id next : TypeId) → next_alias types id ≡ Some next → dealias types id ≡ dealias types next
  unfolding dealias
  dealias-next id next h = more id next id.0 refl h
