-- The members of a kind: which stands in a place, that each has a lower place in the table, and whose words they are.
use Rattle.std.proofs.Common.{◌≡◌, ℕ, zero, suc, ◌<◌, ◌⊎◌, ⊎_elim, true, List, [], ◌∷◌, ◌++◌, length, replicate, get_or, Option, None, Some, refl, sym, ap, ◌∙◌, subst, arith, append_assoc, Bool, false, cond}
use Rattle.std.specs.List.{slice_get}
use Rattle.std.proofs.lemmas.List.{append-nil, get_or-replicate, length-replicate}
use Rattle.std.proofs.lemmas.Option.{slice_get-get_or, slice_get_within}
use Rattle.wit_model.specs.declared.types.WitType.{WitType}
use Rattle.wit_model.specs.declared.types.TypeDefKind.{TypeDefKind}
use Rattle.wit_model.specs.declared.types.TypeDefKind.TheVariants as kind
use Rattle.wit_model.specs.declared.types.TypeDef.{TypeDef}
use Rattle.wit_model.specs.declared.types.Field.{Field}
use Rattle.wit_model.specs.Parts.{parts}
use Rattle.wit_model.specs.TypeOrder.{payload_below, parts_below}
use Rattle.wit_layout.specs.Flat.{flatten_type, flatten_record, repeated}
use Rattle.wit_layout.specs.Tree.{Tree, tree_in, tree_by, payload_in, payloads_in}
use Rattle.wit_layout.proofs.PartSteps.{part_below}
use Rattle.wit_model.specs.declared.types.WitType.TheVariants as wit
use Rattle.wit_layout.specs.inside.Sequence.{is_sequence, members, members_of_entry, members_at, place_of_entry, sequence_place}

only_at : {A : Type 0} (x : A) (nth : ℕ) → nth < length (x ∷ []) → slice_get (x ∷ []) nth ≡ Some x
only_at x zero l = refl
only_at x (suc nth) l = absurd (omega arith)

replicate_at : {A : Type 0} (n : ℕ) (x : A) (nth : ℕ) → nth < length (replicate n x) → slice_get (replicate n x) nth ≡ Some x
replicate_at n x nth l =
    slice_get-get_or (replicate n x) nth x l ∙ ap (λ y. Some y) (get_or-replicate n nth x x (omega (arith, length-replicate n x)))

-- what an alias names, and an element of a list of fixed length
pub one_member : (k : TypeDefKind) (ty : WitType) (nth : ℕ) → (k ≡ kind.Alias ty) ⊎ ((n : ℕ) × (k ≡ kind.FixedLengthList ty n)) → nth < length (members k) → slice_get (members k) nth ≡ Some (Some ty)
unfolding members
one_member k ty nth is l =
    ⊎_elim (λ e. let P : TypeDefKind → Type 0 = λ k. nth < length (members k) → slice_get (members k) nth ≡ Some (Some ty) in
    subst P (sym e) (only_at (Some ty) nth) l) (λ (n, e). let P : TypeDefKind → Type 0 = λ k. nth < length (members k) → slice_get (members k) nth ≡ Some (Some ty) in
    subst P (sym e) (replicate_at n (Some ty) nth) l) is

-- the members of the entry that is read at a place
pub members_read : (types : List TypeDef) (at : ℕ) (d : TypeDef) → at < length types → members_at types at ≡ members (get_or types at d).kind
members_read types at d l = ap members_of_entry (slice_get-get_or types at d l)

-- the element of a list of fixed length stands in each of its places
pub every_element : {A : Type 0} (n : ℕ) (x y : A) (nth : ℕ) → slice_get (replicate n x) nth ≡ Some y → x ≡ y
every_element n x y nth e =
    let same = replicate_at n x nth (slice_get_within (replicate n x) nth y e) in cc

-- a member of a kind whose parts all name lower ids
pub member_below : (bound : ℕ) (k : TypeDefKind) (nth : ℕ) (p : Option WitType) → parts_below bound k ≡ true → slice_get (members k) nth ≡ Some p → payload_below bound p ≡ true
unfolding parts members
member_below bound (kind.Alias ty) nth p h e = part_below bound (kind.Alias ty) nth p h e
member_below bound (kind.FixedLengthList ty n) nth p h e =
    subst (λ (q : Option WitType). payload_below bound q ≡ true) (every_element n (Some ty) p nth e) (part_below bound (kind.FixedLengthList ty n) 0 (Some ty) h refl)
member_below bound (kind.Tuple types) nth p h e = part_below bound (kind.Tuple types) nth p h e
member_below bound (kind.Record fields) nth p h e = part_below bound (kind.Record fields) nth p h e
member_below bound (kind.Handle handle) nth p h e = cc
member_below bound (kind.List element) nth p h e = cc
member_below bound (kind.Map k v) nth p h e = cc
member_below bound (kind.Option payload) nth p h e = cc
member_below bound (kind.Result ok err) nth p h e = cc
member_below bound (kind.Variant cases) nth p h e = cc
member_below bound (kind.Enum members) nth p h e = cc
member_below bound (kind.Flags members) nth p h e = cc
member_below bound kind.Resource nth p h e = cc
member_below bound (kind.Future payload) nth p h e = cc
member_below bound (kind.Stream payload) nth p h e = cc
member_below bound kind.Unknown nth p h e = cc

module _ (ts : List Tree) where
  pub flatten_record-append : (xs ys : List (Option WitType)) → flatten_record (payloads_in ts (xs ++ ys)) ≡ flatten_record (payloads_in ts xs) ++ flatten_record (payloads_in ts ys)
  flatten_record-append [] ys = refl
  flatten_record-append (x ∷ xs) ys =
      ap (λ ws. flatten_type (payload_in ts x) ++ ws) (flatten_record-append xs ys) ∙ sym (append_assoc (flatten_type (payload_in ts x)) (flatten_record (payloads_in ts xs)) (flatten_record (payloads_in ts ys)))

  words_of_elements : (n : ℕ) (p : Option WitType) → repeated n (flatten_type (payload_in ts p)) ≡ flatten_record (payloads_in ts (replicate n p))
  unfolding repeated
  words_of_elements zero p = refl
  words_of_elements (suc n) p = ap (λ ws. flatten_type (payload_in ts p) ++ ws) (words_of_elements n p)

  pub words_of_members : (k : TypeDefKind) → is_sequence k ≡ true → flatten_type (tree_by ts k) ≡ flatten_record (payloads_in ts (members k))
  unfolding is_sequence members
  words_of_members (kind.Alias ty) h = sym (append-nil (flatten_type (tree_in ts ty)))
  words_of_members (kind.FixedLengthList ty n) h = words_of_elements n (Some ty)
  words_of_members (kind.Tuple types) h = refl
  words_of_members (kind.Record fields) h = refl
  words_of_members (kind.Handle handle) h = cc
  words_of_members (kind.List element) h = cc
  words_of_members (kind.Map k v) h = cc
  words_of_members (kind.Option payload) h = cc
  words_of_members (kind.Result ok err) h = cc
  words_of_members (kind.Variant cases) h = cc
  words_of_members (kind.Enum members) h = cc
  words_of_members (kind.Flags members) h = cc
  words_of_members kind.Resource h = cc
  words_of_members (kind.Future payload) h = cc
  words_of_members (kind.Stream payload) h = cc
  words_of_members kind.Unknown h = cc

-- the kinds whose words are those of their members
pub alias_is : (k : TypeDefKind) (ty : WitType) → k ≡ kind.Alias ty → is_sequence k ≡ true
unfolding is_sequence
alias_is k ty e = ap is_sequence e

pub fixed_list_is : (k : TypeDefKind) (ty : WitType) (n : ℕ) → k ≡ kind.FixedLengthList ty n → is_sequence k ≡ true
unfolding is_sequence
fixed_list_is k ty n e = ap is_sequence e

pub tuple_or_record : (k : TypeDefKind) → ((tys : List WitType) × (k ≡ kind.Tuple tys)) ⊎ ((fields : List Field) × (k ≡ kind.Record fields)) → is_sequence k ≡ true
unfolding is_sequence
tuple_or_record k is = ⊎_elim (λ (tys, e). ap is_sequence e) (λ (fields, e). ap is_sequence e) is

-- the type is the entry at a place of the table, and its words are those of its members
abbrev pub IsSequenceAt : List TypeDef → Option WitType → ℕ → Type 0
IsSequenceAt types ty at = (entry : TypeDef) × (slice_get types at ≡ Some entry) × (is_sequence entry.kind ≡ true) × (ty ≡ Some (wit.Id (record { 0 = at })))

by_entry : (types : List TypeDef) (id at : ℕ) (o : Option TypeDef) → slice_get types id ≡ o → Some at ≡ place_of_entry o id → IsSequenceAt types (Some (wit.Id (record { 0 = id }))) at
by_entry types id at None here e = cc
by_entry types id at (Some entry) here e = by_test (is_sequence entry.kind) refl e
  where
    by_test : (b : Bool) → is_sequence entry.kind ≡ b → Some at ≡ cond b (Some id) None → IsSequenceAt types (Some (wit.Id (record { 0 = id }))) at
    by_test true has e = let same : id ≡ at = cc in (entry, ap (slice_get types) (sym same) ∙ here, has, ap (λ n. Some (wit.Id (record { 0 = n }))) same)
    by_test false has e = cc

pub sequence_is : (types : List TypeDef) (ty : Option WitType) (at : ℕ) → Some at ≡ sequence_place types ty → IsSequenceAt types ty at
sequence_is types None at e = cc
sequence_is types (Some (wit.Id id)) at e = by_entry types id.0 at (slice_get types id.0) refl e
sequence_is types (Some wit.Bool) at e = cc
sequence_is types (Some wit.U8) at e = cc
sequence_is types (Some wit.U16) at e = cc
sequence_is types (Some wit.U32) at e = cc
sequence_is types (Some wit.U64) at e = cc
sequence_is types (Some wit.S8) at e = cc
sequence_is types (Some wit.S16) at e = cc
sequence_is types (Some wit.S32) at e = cc
sequence_is types (Some wit.S64) at e = cc
sequence_is types (Some wit.F32) at e = cc
sequence_is types (Some wit.F64) at e = cc
sequence_is types (Some wit.Char) at e = cc
sequence_is types (Some wit.String) at e = cc
sequence_is types (Some wit.ErrorContext) at e = cc
