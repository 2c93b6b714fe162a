-- On the ways down from a type, each part has a lower place in the table; and which words a type has by its kind.
use Rattle.std.proofs.Common.{◌≡◌, ℕ, ◌+◌, ◌≤◌, ◌<◌, ◌⊎◌, ⊎_elim, true, List, [], ◌∷◌, ◌++◌, length, take, get_or, Option, None, Some, refl, sym, ap, ◌∙◌, arith}
use Rattle.std.specs.List.{slice_get, All}
use Rattle.std.proofs.lemmas.Option.{slice_get-get_or}
use Rattle.std.proofs.lemmas.Bool.{ltb-true, lt-ltb}
use Rattle.wit_model.specs.declared.wasm_type.WasmType.{WasmType}
use Rattle.wit_model.specs.declared.wasm_type.WasmType.TheVariants.{I32}
use Rattle.wit_model.specs.declared.types.Handle.{Handle}
use Rattle.wit_model.specs.declared.types.Case.{Case}
use Rattle.wit_model.specs.declared.types.Member.{Member}
use Rattle.wit_model.specs.declared.types.WitType.{WitType}
use Rattle.wit_model.specs.declared.types.WitType.TheVariants as wit
use Rattle.wit_model.specs.declared.types.TypeDefKind.{TypeDefKind}
use Rattle.wit_model.specs.declared.types.TypeDefKind.TheVariants as kind
use Rattle.wit_model.specs.declared.types.TypeDef.{TypeDef}
use Rattle.wit_model.specs.Parts.{parts}
use Rattle.wit_model.specs.TypeOrder.{type_below, payload_below, GoesDown}
use Rattle.wit_layout.specs.Tree.{Tree, payloads_in, bare, tree_by, tree_at, trees}
use Rattle.wit_layout.specs.Flat.{flatten_type, flatten_record, slots, pointer_and_length, words_of_flags}
use Rattle.wit_layout.specs.inside.Sequence.{is_sequence, members, members_of_entry, members_at}
use Rattle.wit_layout.proofs.SequenceSteps.{member_below, words_of_members}
use Rattle.wit_layout.proofs.TreeLemmas.{tree_at_by}
use Rattle.wit_layout.proofs.PartSteps.{part_below}
use Rattle.wit_model.proofs.BelowLemmas.{type_below_more, payload_below_more}

-- one more than the place of a type in the table, and 0 for a primitive
abbrev pub rank : WitType → ℕ
rank (wit.Id id) = id.0 + 1
rank _ = 0

abbrev pub payload_rank : Option WitType → ℕ
payload_rank None = 0
payload_rank (Some ty) = rank ty

rank_below : (bound : ℕ) (ty : WitType) → type_below bound ty ≡ true → rank ty ≤ bound
unfolding type_below
rank_below bound (wit.Id id) h = let low = ltb-true id.0 bound h in omega arith
rank_below bound wit.Bool h = omega arith
rank_below bound wit.U8 h = omega arith
rank_below bound wit.U16 h = omega arith
rank_below bound wit.U32 h = omega arith
rank_below bound wit.U64 h = omega arith
rank_below bound wit.S8 h = omega arith
rank_below bound wit.S16 h = omega arith
rank_below bound wit.S32 h = omega arith
rank_below bound wit.S64 h = omega arith
rank_below bound wit.F32 h = omega arith
rank_below bound wit.F64 h = omega arith
rank_below bound wit.Char h = omega arith
rank_below bound wit.String h = omega arith
rank_below bound wit.ErrorContext h = omega arith

pub payload_rank_below : (bound : ℕ) (p : Option WitType) → payload_below bound p ≡ true → payload_rank p ≤ bound
unfolding payload_below
payload_rank_below bound None h = omega arith
payload_rank_below bound (Some ty) h = rank_below bound ty h

slots-bare : {A : Type 0} (members : List A) → slots (bare members) ≡ []
slots-bare [] = refl
slots-bare (m ∷ members) = slots-bare members

-- the words of each kind, by those of its parts
module _ (ts : List Tree) (k : TypeDefKind) where
  abbrev words : List WasmType
  words = flatten_type (tree_by ts k)

  pub words_of_lists : ((x : WitType) × (k ≡ kind.List x)) ⊎ ((x : WitType) × (x' : WitType) × (k ≡ kind.Map x x')) → words ≡ pointer_and_length
  words_of_lists is = ⊎_elim (λ (x, e). ap (λ k. flatten_type (tree_by ts k)) e) (λ (x, x', e). ap (λ k. flatten_type (tree_by ts k)) e) is

  pub words_of_flag_kind : (members : List Member) → k ≡ kind.Flags members → words ≡ words_of_flags (length members)
  words_of_flag_kind members e = ap (λ k. flatten_type (tree_by ts k)) e

  pub words_of_handles : ((x : Handle) × (k ≡ kind.Handle x)) ⊎ (k ≡ kind.Resource) → words ≡ I32 ∷ []
  words_of_handles is = ⊎_elim (λ (x, e). ap (λ k. flatten_type (tree_by ts k)) e) (λ e. ap (λ k. flatten_type (tree_by ts k)) e) is

  pub words_of_async : ((x : Option WitType) × (k ≡ kind.Future x)) ⊎ ((x : Option WitType) × (k ≡ kind.Stream x)) → words ≡ I32 ∷ []
  words_of_async is = ⊎_elim (λ (x, e). ap (λ k. flatten_type (tree_by ts k)) e) (λ (x, e). ap (λ k. flatten_type (tree_by ts k)) e) is

  pub words_of_unknown : k ≡ kind.Unknown → words ≡ I32 ∷ []
  words_of_unknown e = ap (λ k. flatten_type (tree_by ts k)) e

  pub words_of_payloads : ((x : WitType) × (k ≡ kind.Option x)) ⊎ ((x : Option WitType) × (x' : Option WitType) × (k ≡ kind.Result x x')) → words ≡ I32 ∷ slots (payloads_in ts (parts k))
  unfolding parts
  words_of_payloads is =
      ⊎_elim (λ (x, e). ap (λ k. flatten_type (tree_by ts k)) e ∙ sym (ap (λ k. I32 ∷ slots (payloads_in ts (parts k))) e)) (λ (x, x', e). ap (λ k. flatten_type (tree_by ts k)) e ∙ sym (ap (λ k. I32 ∷ slots (payloads_in ts (parts k))) e)) is

  pub words_of_cases : ((x : List Case) × (k ≡ kind.Variant x)) ⊎ ((x : List Member) × (k ≡ kind.Enum x)) → words ≡ I32 ∷ slots (payloads_in ts (parts k))
  unfolding parts
  words_of_cases is =
      ⊎_elim (λ (x, e). ap (λ k. flatten_type (tree_by ts k)) e ∙ sym (ap (λ k. I32 ∷ slots (payloads_in ts (parts k))) e)) (λ (x, e). ap (λ k. flatten_type (tree_by ts k)) e ∙ ap (λ cs. I32 ∷ cs) (slots-bare x) ∙ sym (ap (λ k. I32 ∷ slots (payloads_in ts (parts k))) e)) is

-- a type in the table, whose kind names lower ones
module _ (types : List TypeDef) (down : GoesDown types) (at : ℕ) (entry : TypeDef) (here : slice_get types at ≡ Some entry) where
  pub by_kind : (r : ℕ) (before after cs : List WasmType) → flatten_type (tree_by (trees types) entry.kind) ≡ cs → after ≡ take r (before ++ cs) → after ≡ take r (before ++ flatten_type (tree_at types at))
  by_kind r before after cs same put =
      put ∙ sym (ap (λ t. take r (before ++ flatten_type t)) (tree_at_by types at entry down here) ∙ ap (λ ws. take r (before ++ ws)) same)

  module _ (p : Option WitType) (nth : ℕ) (is : slice_get (parts entry.kind) nth ≡ Some p) where
    low : payload_below at p ≡ true
    low = part_below at entry.kind nth p (down at entry here) is

    pub part_rank : payload_rank p ≤ at
    part_rank = payload_rank_below at p low

    pub part_in_table : at < length types → payload_below (length types) p ≡ true
    part_in_table l = payload_below_more at (length types) p (omega arith) low

  abbrev all_members : List (Option WitType)
  all_members = members_at types at

  same_members : all_members ≡ members entry.kind
  same_members = ap members_of_entry here

  pub members_low : All (λ p. payload_below at p ≡ true) all_members
  members_low nth d l =
      member_below at entry.kind nth (get_or all_members nth d) (down at entry here) (sym (ap (λ (ms : List (Option WitType)). slice_get ms nth) same_members) ∙ slice_get-get_or all_members nth d l)

  pub words_of_entry : is_sequence entry.kind ≡ true → flatten_type (tree_by (trees types) entry.kind) ≡ flatten_record (payloads_in (trees types) all_members)
  words_of_entry has = words_of_members (trees types) entry.kind has ∙ sym (ap (λ ms. flatten_record (payloads_in (trees types) ms)) same_members)

  pub words_at : is_sequence entry.kind ≡ true → flatten_type (tree_at types at) ≡ flatten_record (payloads_in (trees types) all_members)
  words_at has = ap flatten_type (tree_at_by types at entry down here) ∙ words_of_entry has
