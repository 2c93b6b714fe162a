-- The end of an alias is that of its target.
use Rattle.std.proofs.Common.{◌≡◌, ℕ, ◌<◌, ◌≤◌, ◌∙◌, inl, inr, List, [], ◌∷◌, ◌++◌, length, get_or, Option, Some, None, sym, ap, arith}
use Rattle.std.specs.List.{slice_get}
use Rattle.std.specs.Option.{unwrap_or, option_map, option_and_then}
use Rattle.std.proofs.lemmas.Bool.{cases_lt}
use Rattle.std.proofs.lemmas.List.{get_or_past}
use Rattle.std.proofs.lemmas.Option.{slice_get-get_or, slice_get_past}
use Rattle.wit_model.specs.declared.name.TypeId.{TypeId}
use Rattle.wit_model.specs.declared.types.TypeDef.{TypeDef}
use Rattle.wit_model.specs.Dealias.{aliased, next_alias, dealias}
use Rattle.wit_model.specs.TypeOrder.{GoesDown}
use Rattle.wit_model.proofs.AliasLemmas.{next_below, dealias-last, dealias-next}
use Rattle.wit_model.specs.declared.alias_ends.AliasEnds.{AliasEnds}
use Rattle.wit_model.specs.Ends.{end_of, end_of_kind, AreEnds, HasEnds}
use Rattle.wit_model.proofs.ListLemmas.{at_end}

module _ (types : List TypeDef) (down : GoesDown types) (ends : List (Option TypeId)) (are : AreEnds types ends) where
  known_end : (id : TypeId) → id.0 < length ends → end_of ends id ≡ dealias types id
  known_end id within = are id (get_or ends id.0 None) (slice_get-get_or ends id.0 None within)

  by_target : (id : TypeId) (target : Option TypeId) → next_alias types id ≡ target → length ends ≡ id.0 → unwrap_or (option_map (end_of ends) target) id ≡ dealias types id
  by_target id None e count = sym (dealias-last types down id e)
  by_target id (Some target) e count =
      let lower : target.0 < id.0 = next_below types down id target e in
      known_end target (omega arith) ∙ sym (dealias-next types down id target e)

  next_end : (id : TypeId) (entry : TypeDef) → slice_get types id.0 ≡ Some entry → length ends ≡ id.0 → unwrap_or (end_of_kind ends entry.kind) id ≡ dealias types id
  next_end id entry at count = by_target id (aliased entry.kind) (ap (option_and_then (λ t. aliased t.kind)) at) count

  pub ends_more : (n : ℕ) (entry : TypeDef) → slice_get types n ≡ Some entry → length ends ≡ n → AreEnds types (ends ++ end_of_kind ends entry.kind ∷ [])
  ends_more n entry at count id end e =
      elim (at_end ends (end_of_kind ends entry.kind) id.0 end e) [
        | inl before ↦ are id end before
        | inr last ↦ ap (λ o. unwrap_or o id) (sym last.1) ∙ next_end id entry (ap (slice_get types) (last.0 ∙ count) ∙ at) (sym last.0)
      ]

-- the end of every id, also of one that the table does not have
pub end_is : (types : List TypeDef) (all : AliasEnds) → HasEnds types all → (id : TypeId) → end_of all.ends id ≡ dealias types id
end_is types all has id =
    elim (cases_lt id.0 (length all.ends)) [
      | inl within ↦ known_end types has.down all.ends has.are_ends id within
      | inr past ↦
          let beyond : length types ≤ id.0 = omega (arith, has.count) in
          ap (λ o. unwrap_or o id) (get_or_past all.ends id.0 None past)
          ∙ sym (dealias-last types has.down id (ap (option_and_then (λ t. aliased t.kind)) (slice_get_past types id.0 beyond)))
    ]
