-- Where a type may be written, so may what it is made of, and it may be written still when code was added.
use Rattle.std.proofs.Common.{◌≡◌, ℕ, zero, suc, ◌<◌, true, List, [], ◌∷◌, length, map, get_or, Option, None, Some, slice_get, refl, sym, subst, arith}
use Rattle.std.specs.List.{AllByRecursion}
use Rattle.wit_model.specs.Parts.{parts}
use Rattle.wit_model.specs.Reaches.{reaches_by}
use Rattle.wit_model.specs.declared.name.TypeId.{TypeId}
use Rattle.wit_model.specs.declared.types.Field.{Field}
use Rattle.wit_model.specs.declared.types.TypeDef.{TypeDef}
use Rattle.wit_model.specs.declared.types.TypeDefKind.{TypeDefKind}
use Rattle.wit_model.specs.declared.types.TypeDefKind.TheVariants as kind
use Rattle.wit_model.specs.declared.types.WitType.{WitType}
use Rattle.wit_model.specs.declared.types.WitType.TheVariants.{Id}
use Rattle.abi_bindgen.specs.Cases.{payloads_of}
use Rattle.abi_bindgen.specs.Instructions.{has_cases}
use Rattle.abi_bindgen.specs.Laws.{Grows}
use Rattle.abi_bindgen.specs.Meaning.{Meaning}
use Rattle.abi_bindgen.specs.Written.{Writes, WritesEach, WritesPart}
use Rattle.abi_bindgen.proofs.Records.{map-twice}

module _ {Self Operand : Type 0} (m : Meaning Self Operand) (types : List TypeDef) where
  -- 1. Later

  pub writes_later : (a b : Self) (ty : WitType) → Grows m a b → Writes m types ty a → Writes m types ty b
  writes_later a b ty g h id reached = g.writes types id.0 (h id reached)

  pub each_later : (a b : Self) (tys : List WitType) → Grows m a b → WritesEach m types tys a → WritesEach m types tys b
  each_later a b [] g h = tt
  each_later a b (ty ∷ tys) g h = (writes_later a b ty g h.0, each_later a b tys g h.1)

  pub part_later : (a b : Self) (p : Option WitType) → Grows m a b → WritesPart m types p a → WritesPart m types p b
  part_later a b None g h = tt
  part_later a b (Some ty) g h = writes_later a b ty g h

  -- 2. One of several

  pub one_written : (b : Self) (tys : List WitType) (i : ℕ) (d : WitType) → WritesEach m types tys b → i < length tys → Writes m types (get_or tys i d) b
  one_written b [] i d h short = absurd (omega (arith, short))
  one_written b (ty ∷ tys) zero d h short = h.0
  one_written b (ty ∷ tys) (suc i) d h short = one_written b tys i d h.1 (omega (arith, short))

  pub payload_written : (b : Self) (payloads : List (Option WitType)) (i : ℕ) (d : Option WitType) → AllByRecursion (λ p. WritesPart m types p b) payloads → i < length payloads → WritesPart m types (get_or payloads i d) b
  payload_written b [] i d h short = absurd (omega (arith, short))
  payload_written b (p ∷ payloads) zero d h short = h.0
  payload_written b (p ∷ payloads) (suc i) d h short = payload_written b payloads i d h.1 (omega (arith, short))

  types_written : (b : Self) (tys : List WitType) → AllByRecursion (λ p. WritesPart m types p b) (map (λ ty. Some ty) tys) → WritesEach m types tys b
  types_written b [] h = tt
  types_written b (ty ∷ tys) h = (h.0, types_written b tys h.1)

  each_part : (b : Self) (ps : List (Option WitType)) → ((nth : ℕ) (ty : WitType) → slice_get ps nth ≡ Some (Some ty) → Writes m types ty b) → AllByRecursion (λ p. WritesPart m types p b) ps
  each_part b [] h = tt
  each_part b (None ∷ ps) h = (tt, each_part b ps (λ nth ty is. h (suc nth) ty is))
  each_part b (Some ty ∷ ps) h = (h zero ty refl, each_part b ps (λ nth other is. h (suc nth) other is))

  -- 3. An entry of the table that was read

  module _ (id : TypeId) (entry : TypeDef) (at : slice_get types id.0 ≡ Some entry) (b : Self) (whole : Writes m types (Id id) b) where
    parts_written : AllByRecursion (λ p. WritesPart m types p b) (parts entry.kind)
    parts_written = each_part b (parts entry.kind) (λ nth ty is other reached. whole other (reaches_by (record { id = id; entry = entry; nth = nth; is_entry = refl; entry_at = at; part_at = is }) reached))

    kind_written : (k : TypeDefKind) → entry.kind ≡ k → AllByRecursion (λ p. WritesPart m types p b) (parts k)
    kind_written k is = subst (λ k. AllByRecursion (λ p. WritesPart m types p b) (parts k)) is parts_written

    pub alias_written : (ty : WitType) → entry.kind ≡ kind.Alias ty → Writes m types ty b
    unfolding parts
    alias_written ty is = (kind_written (kind.Alias ty) is).0

    pub record_written : (members : List Field) → entry.kind ≡ kind.Record members → WritesEach m types (map (λ f. f.ty) members) b
    unfolding parts
    record_written members is = types_written b (map (λ f. f.ty) members) (subst (λ ps. AllByRecursion (λ p. WritesPart m types p b) ps) (sym (map-twice members)) (kind_written (kind.Record members) is))

    pub tuple_written : (tys : List WitType) → entry.kind ≡ kind.Tuple tys → WritesEach m types tys b
    unfolding parts
    tuple_written tys is = types_written b tys (kind_written (kind.Tuple tys) is)

    by_kind : (k : TypeDefKind) → has_cases k ≡ true → AllByRecursion (λ p. WritesPart m types p b) (parts k) → AllByRecursion (λ p. WritesPart m types p b) (payloads_of k)
    unfolding parts
    by_kind (kind.Variant members) has h = h
    by_kind (kind.Option ty) has h = (tt, h)
    by_kind (kind.Result ok err) has h = h
    by_kind _ has h = absurd cc

    pub payloads_written : (k : TypeDefKind) → has_cases k ≡ true → entry.kind ≡ k → AllByRecursion (λ p. WritesPart m types p b) (payloads_of k)
    payloads_written k has is = by_kind k has (kind_written k is)
