-- In tables that the check passes, the payloads of the cases of a type are more than nothing, a variant has a case, and a `u32` numbers its cases.
use Rattle.std.proofs.Common.{◌≡◌, ◌<◌, ◌^◌, ◌∙◌, ℕ, true, false, List, [], ◌∷◌, length, map, Option, None, Some, refl, ap, sym, arith}
use Rattle.std.specs.List.{AllByRecursion, list_all}
use Rattle.std.proofs.lemmas.Bool.{and_parts, ltb-true}
use Rattle.std.proofs.lemmas.Option.{slice_get_within}
use Rattle.wit_model.specs.Members.{has_members}
use Rattle.wit_model.specs.Numbered.{is_short, kind_numbered}
use Rattle.wit_model.specs.TypeOrder.{payload_below}
use Rattle.wit_model.specs.WellFormed.{IsWellFormed}
use Rattle.wit_model.specs.declared.resolve.Resolve.{Resolve}
use Rattle.wit_model.specs.declared.types.Case.{Case}
use Rattle.wit_model.specs.declared.types.TypeDefKind.{TypeDefKind}
use Rattle.wit_model.specs.declared.types.TypeDefKind.TheVariants as kind
use Rattle.wit_model.specs.declared.types.WitType.{WitType}
use Rattle.wit_model.proofs.BelowLemmas.{payload_below_more}
use Rattle.wit_model.proofs.WellFormedLemmas.{has_members_at, types_go_down}
use Rattle.wit_layout.proofs.FillSteps.{kind_short}
use Rattle.wrapper_meaning.specs.Shape.{is_nothing, shape_of}
use Rattle.abi_bindgen.specs.Cases.{payloads_of}
use Rattle.abi_bindgen.specs.HasList.{IsKindOf}
use Rattle.abi_bindgen.specs.Instructions.{has_cases}
use Rattle.abi_bindgen.proofs.Payloads.{payload_some, variant_below}
use Rattle.func_gen.specs.CaseForms.{IsSome}

module _ (r : Resolve) (well : IsWellFormed r) where
  is_some : (p : Option WitType) → payload_below (length r.types) p ≡ true → IsSome r.types p
  unfolding payload_below
  is_some None low = tt
  is_some (Some ty) low = payload_some r well ty low

  are_some : (bound : ℕ) → bound < length r.types → (ps : List (Option WitType)) → list_all (λ p. payload_below bound p) ps ≡ true → AllByRecursion (IsSome r.types) ps
  are_some bound low [] h = tt
  are_some bound low (p ∷ ps) h =
      (is_some p (payload_below_more bound (length r.types) p (omega (arith, low)) (and_parts _ _ h).0), are_some bound low ps (and_parts _ _ h).1)

  -- those of a type with cases are
  payloads_some : (id : ℕ) (k : TypeDefKind) → IsKindOf r.types id k → has_cases k ≡ true → AllByRecursion (IsSome r.types) (payloads_of k)
  payloads_some id k here has =
      are_some id (slice_get_within r.types id here.entry here.stands) (payloads_of k) (variant_below r.types (types_go_down r well.unbroken) id k here has)

  pub option_some : (id : ℕ) (ty : WitType) → IsKindOf r.types id (kind.Option ty) → is_nothing (shape_of r.types ty) ≡ false
  option_some id ty here = (payloads_some id (kind.Option ty) here refl).1.0

  pub sides_some : (id : ℕ) (ok err : Option WitType) → IsKindOf r.types id (kind.Result ok err) → IsSome r.types ok × IsSome r.types err
  sides_some id ok err here = let both = payloads_some id (kind.Result ok err) here refl in (both.0, both.1.0)

  each_member : (members : List Case) → AllByRecursion (IsSome r.types) (map (λ (c : Case). c.ty) members) → AllByRecursion (λ (c : Case). IsSome r.types c.ty) members
  each_member [] h = tt
  each_member (c ∷ members) h = (h.0, each_member members h.1)

  pub members_some : (id : ℕ) (members : List Case) → IsKindOf r.types id (kind.Variant members) → AllByRecursion (λ (c : Case). IsSome r.types c.ty) members
  members_some id members here = each_member members (payloads_some id (kind.Variant members) here refl)

  pub members_there : (id : ℕ) (members : List Case) → IsKindOf r.types id (kind.Variant members) → 0 < length members
  unfolding has_members
  members_there id [] here = absurd (let none = sym (ap has_members here.kind) ∙ has_members_at r id here.entry well.unbroken here.stands in cc)
  members_there id (c ∷ members) here = omega arith

  -- and it has fewer of them than there are numbers
  pub members_low : (id : ℕ) (members : List Case) → IsKindOf r.types id (kind.Variant members) → length members < 2 ^ 32
  unfolding kind_numbered is_short
  members_low id members here = ltb-true (length members) (2 ^ 32) (sym (ap kind_numbered here.kind) ∙ kind_short r well.numbered id here.entry here.stands)
