-- Behind all aliases stands no alias of a type of the table.
use Rattle.std.proofs.Common.{◌≡◌, ℕ, zero, suc, ◌<◌, ◌≤◌, List, Option, None, Some, refl, arith}
use Rattle.std.specs.Prelude.{unwrap_or}
use Rattle.std.specs.Option.{option_map}
use Rattle.wit_model.specs.declared.name.TypeId.{TypeId}
use Rattle.wit_model.specs.declared.types.TypeDef.{TypeDef}
use Rattle.wit_model.specs.TypeOrder.{GoesDown}
use Rattle.wit_model.specs.Dealias.{next_alias, behind_aliases, dealias}
use Rattle.wit_model.proofs.AliasLemmas.{next_below}

module _ (types : List TypeDef) (down : GoesDown types) where
  -- the first id leads nowhere, since an alias leads to a lower one
  first_ends : (id : TypeId) (o : Option TypeId) → next_alias types id ≡ o → id.0 ≤ 0 → o ≡ None
  first_ends id None e low = refl
  first_ends id (Some next) e low =
      let lower : next.0 < id.0 = next_below types down id next e in
      let no : ⊥ = omega arith in
      absurd no

  ends_by : (most : ℕ) (id : TypeId) (o : Option TypeId) → next_alias types id ≡ o → id.0 ≤ suc most → ((next : TypeId) → next.0 ≤ most → next_alias types (behind_aliases types most next) ≡ None)
      → next_alias types (unwrap_or (option_map (behind_aliases types most) o) id) ≡ None
  ends_by most id None e low rest = e
  ends_by most id (Some next) e low rest =
      let lower : next.0 < id.0 = next_below types down id next e in
      rest next (omega arith)

  ends : (most : ℕ) (id : TypeId) → id.0 ≤ most → next_alias types (behind_aliases types most id) ≡ None
  ends zero id low = first_ends id (next_alias types id) refl low
  ends (suc most) id low = ends_by most id (next_alias types id) refl low (ends most)

  pub dealias-ends : (id : TypeId) → next_alias types (dealias types id) ≡ None
  unfolding dealias
  dealias-ends id = ends id.0 id (omega arith)
