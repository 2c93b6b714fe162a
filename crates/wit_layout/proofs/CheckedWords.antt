-- In tables that keep the rules each type has a word at least.
use Rattle.std.proofs.Common.{◌≡◌, ℕ, zero, suc, ◌≤◌, ◌<◌, true, List, [], ◌∷◌, ◌++◌, length, map, Option, None, Some, ap, arith, length-append}
use Rattle.std.proofs.lemmas.List.{length-replicate}
use Rattle.wit_model.specs.declared.wasm_type.WasmType.TheVariants.{I32}
use Rattle.wit_model.specs.declared.resolve.Resolve.{Resolve}
use Rattle.wit_model.specs.declared.types.WitType.{WitType}
use Rattle.wit_model.specs.declared.types.TypeDefKind.{TypeDefKind}
use Rattle.wit_model.specs.declared.types.TypeDefKind.TheVariants as kind
use Rattle.wit_model.specs.declared.types.TypeDef.{TypeDef}
use Rattle.wit_model.specs.Members.{has_members}
use Rattle.wit_model.specs.Parts.{parts}
use Rattle.wit_model.specs.TypeOrder.{payload_below, parts_below}
use Rattle.wit_model.specs.WellFormed.{first_fault}
use Rattle.wit_model.proofs.WellFormedLemmas.{types_go_down, has_members_at}
use Rattle.wit_layout.specs.Extent.{flag_words}
use Rattle.wit_layout.specs.Flat.{EachHasWords, flatten_type, flatten_record, repeated}
use Rattle.wit_layout.specs.Tree.{tree_in, tree_at, tree_by, trees, payloads_in}
use Rattle.wit_layout.proofs.AheadEnough.{type_words}
use Rattle.wit_layout.proofs.AheadTurns.{entry_at}
use Rattle.wit_layout.proofs.TreeLemmas.{first_below, tree_at_by}

module _ (types : List TypeDef) (bound : ℕ) (lower : (i : ℕ) → i < bound → 0 < length (flatten_type (tree_at types i))) where
  first_words : (ty : WitType) (rest : List (Option WitType)) → payload_below bound (Some ty) ≡ true → 0 < length (flatten_type (tree_in (trees types) ty) ++ flatten_record (payloads_in (trees types) rest))
  first_words ty rest low =
      omega (arith, type_words types bound lower ty low, length-append (flatten_type (tree_in (trees types) ty)) (flatten_record (payloads_in (trees types) rest)))

  kind_words : (k : TypeDefKind) → parts_below bound k ≡ true → has_members k ≡ true → 0 < length (flatten_type (tree_by (trees types) k))
  unfolding parts_below parts has_members repeated
  kind_words (kind.Alias ty) low has = type_words types bound lower ty (first_below bound (Some ty) [] low)
  kind_words (kind.FixedLengthList ty zero) low has = cc
  kind_words (kind.FixedLengthList ty (suc n)) low has =
      omega (arith, type_words types bound lower ty (first_below bound (Some ty) [] low), length-append (flatten_type (tree_in (trees types) ty)) (repeated n (flatten_type (tree_in (trees types) ty))))
  kind_words (kind.Tuple []) low has = cc
  kind_words (kind.Tuple (ty ∷ types)) low has = first_words ty (map (λ ty. Some ty) types) (first_below bound (Some ty) (map (λ ty. Some ty) types) low)
  kind_words (kind.Record []) low has = cc
  kind_words (kind.Record (field ∷ fields)) low has = first_words field.ty (map (λ f. Some f.ty) fields) (first_below bound (Some field.ty) (map (λ f. Some f.ty) fields) low)
  kind_words (kind.Flags []) low has = cc
  kind_words (kind.Flags (member ∷ members)) low has = omega (arith, length-replicate (flag_words (suc (length members))) I32)
  kind_words (kind.Handle handle) low has = omega arith
  kind_words (kind.List element) low has = omega arith
  kind_words (kind.Map k v) low has = omega arith
  kind_words (kind.Option payload) low has = omega arith
  kind_words (kind.Result ok err) low has = omega arith
  kind_words (kind.Variant cases) low has = omega arith
  kind_words (kind.Enum members) low has = omega arith
  kind_words kind.Resource low has = omega arith
  kind_words (kind.Future payload) low has = omega arith
  kind_words (kind.Stream payload) low has = omega arith
  kind_words kind.Unknown low has = omega arith

module _ (r : Resolve) (well : first_fault r ≡ None) where
  words_below : (bound : ℕ) → bound ≤ length r.types → (i : ℕ) → i < bound → 0 < length (flatten_type (tree_at r.types i))
  words_below zero le i l = absurd (omega arith)
  words_below (suc bound) le i l =
      let within : i < length r.types = omega arith in
      let entry = entry_at r.types i within in
      let down = types_go_down r well in
      let lower : (j : ℕ) → j < i → 0 < length (flatten_type (tree_at r.types j)) = λ j less. words_below bound (omega arith) j (omega arith) in
      let own = kind_words r.types i lower entry.0.kind (down i entry.0 entry.1) (has_members_at r i entry.0 well entry.1) in
      omega (arith, own, ap (λ t. length (flatten_type t)) (tree_at_by r.types i entry.0 down entry.1))

  pub checked_words : EachHasWords r.types
  checked_words at within = words_below (length r.types) (omega arith) at within
