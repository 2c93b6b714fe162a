-- What a kind takes, by the layouts of the entries before it, is what its tree takes.
use Rattle.std.proofs.Common.{◌≡◌, ℕ, zero, suc, ◌<◌, max, true, false, List, [], ◌∷◌, length, map, get_or, Option, None, Some, refl, sym, ap, ap₂, ◌∙◌, arith}
use Rattle.std.specs.List.{slice_get, list_all}
use Rattle.std.proofs.lemmas.List.{length-map}
use Rattle.std.proofs.lemmas.Bool.{and_parts, ltb-true}
use Rattle.wit_model.specs.declared.types.WitType.{WitType}
use Rattle.wit_model.specs.declared.types.WitType.TheVariants as wit
use Rattle.wit_model.specs.declared.types.TypeDefKind.{TypeDefKind}
use Rattle.wit_model.specs.declared.types.TypeDefKind.TheVariants as kind
use Rattle.wit_model.specs.Parts.{parts}
use Rattle.wit_model.specs.TypeOrder.{type_below, payload_below, parts_below}
use Rattle.wit_layout.specs.declared.type_layout.TypeLayout.{TypeLayout}
use Rattle.wit_layout.specs.Extent.{Extent, extent, places, greater, greatest, record_extent, fixed_extent, payload_place, variant_extent}
use Rattle.wit_layout.specs.Tree.{Tree, nothing, tree_in, payload_in, payloads_in, bare, tree_by}
use Rattle.wit_layout.specs.Tree.Trees.{none, more}
use Rattle.wit_layout.specs.Sizes.{count, extent_of, extents_of, payload_offset, field_offsets}
use Rattle.wit_layout.specs.inside.Kind.{kind_extent, kind_payload, kind_offsets}
use Rattle.wit_layout.specs.inside.Stored.{seen, seen_at, seen_type, seen_payload}
use Rattle.wit_layout.specs.Told.{is_alias}
use Rattle.wit_layout.proofs.TreeLemmas.{first_below, later_below}

-- the layouts say what the trees take
abbrev pub Agree : ℕ → List TypeLayout → List Tree → Type 0
Agree w layouts ts = (i : ℕ) (layout : TypeLayout) → slice_get layouts i ≡ Some layout → seen w layout.extent ≡ extent_of w (get_or ts i nothing)

count-payloads : (ts : List Tree) (ps : List (Option WitType)) → count (payloads_in ts ps) ≡ length ps
count-payloads ts [] = refl
count-payloads ts (p ∷ ps) = ap suc (count-payloads ts ps)

count-bare : {A : Type 0} (members : List A) → count (bare members) ≡ length members
count-bare [] = refl
count-bare (m ∷ members) = ap suc (count-bare members)

nothing_first : (a : Extent) → greater (extent 0 0) a ≡ a
nothing_first a = let g : max 0 a.grain ≡ a.grain = omega arith in let b : max 0 a.bytes ≡ a.bytes = omega arith in ap₂ extent g b

greatest-bare : {A : Type 0} (w : ℕ) (members : List A) → greatest (extents_of w (bare members)) ≡ extent 0 0
greatest-bare w [] = refl
greatest-bare w (m ∷ members) = nothing_first _ ∙ greatest-bare w members

pub none_within : {A : Type 0} (xs : List A) (i : ℕ) → i < length xs → slice_get xs i ≡ None → ⊥
none_within [] i l e = omega arith
none_within (x ∷ xs) zero l e = cc
none_within (x ∷ xs) (suc i) l e = none_within xs i (omega arith) e

module _ (w : ℕ) (layouts : List TypeLayout) (ts : List Tree) (agree : Agree w layouts ts) where
  abbrev f : Option WitType → Extent
  f = seen_payload w layouts

  entry_seen : (i : ℕ) (o : Option TypeLayout) → slice_get layouts i ≡ o → i < length layouts → seen_at w o ≡ extent_of w (get_or ts i nothing)
  entry_seen i None e l = absurd (none_within layouts i l e)
  entry_seen i (Some layout) e l = agree i layout e

  pub type_seen : (ty : WitType) → type_below (length layouts) ty ≡ true → seen_type w layouts ty ≡ extent_of w (tree_in ts ty)
  unfolding type_below
  type_seen wit.Bool h = refl
  type_seen wit.U8 h = refl
  type_seen wit.U16 h = refl
  type_seen wit.U32 h = refl
  type_seen wit.U64 h = refl
  type_seen wit.S8 h = refl
  type_seen wit.S16 h = refl
  type_seen wit.S32 h = refl
  type_seen wit.S64 h = refl
  type_seen wit.F32 h = refl
  type_seen wit.F64 h = refl
  type_seen wit.Char h = refl
  type_seen wit.String h = refl
  type_seen wit.ErrorContext h = refl
  type_seen (wit.Id id) h = entry_seen id.0 (slice_get layouts id.0) refl (ltb-true id.0 (length layouts) h)

  payload_seen : (p : Option WitType) → payload_below (length layouts) p ≡ true → f p ≡ extent_of w (payload_in ts p)
  unfolding payload_below
  payload_seen None h = refl
  payload_seen (Some ty) h = type_seen ty h

  pub payloads_seen : (ps : List (Option WitType)) → list_all (payload_below (length layouts)) ps ≡ true → map f ps ≡ extents_of w (payloads_in ts ps)
  payloads_seen [] h = refl
  payloads_seen (p ∷ ps) h =
      let b = and_parts _ _ h in ap₂ (λ (e : Extent) es. e ∷ es) (payload_seen p b.0) (payloads_seen ps b.1)

  -- the greatest of the cases' payloads, and how many cases there are
  option_seen : (payload : WitType) → list_all (payload_below (length layouts)) (Some payload ∷ []) ≡ true → greatest (f (Some payload) ∷ []) ≡ greatest (extents_of w (more nothing (more (tree_in ts payload) none)))
  option_seen payload h =
      ap (λ (e : Extent). greatest (e ∷ [])) (payload_seen (Some payload) (first_below (length layouts) (Some payload) [] h)) ∙ sym (nothing_first _)

  result_seen : (ok err : Option WitType) → list_all (payload_below (length layouts)) (ok ∷ err ∷ []) ≡ true → greatest (f ok ∷ f err ∷ []) ≡ greatest (extents_of w (more (payload_in ts ok) (more (payload_in ts err) none)))
  result_seen ok err h =
      ap₂ (λ (a b : Extent). greatest (a ∷ b ∷ [])) (payload_seen ok (first_below (length layouts) ok (err ∷ []) h)) (payload_seen err (first_below (length layouts) err [] (later_below (length layouts) ok (err ∷ []) h)))

  -- a function of the number of cases and of their greatest payload
  cases_seen : {B : Type 0} (g : ℕ → Extent → B) (ps : List (Option WitType)) (n : ℕ) → n ≡ length ps → list_all (payload_below (length layouts)) ps ≡ true → g n (greatest (map f ps)) ≡ g (count (payloads_in ts ps)) (greatest (extents_of w (payloads_in ts ps)))
  cases_seen g ps n e h =
      ap₂ g (e ∙ sym (count-payloads ts ps)) (ap greatest (payloads_seen ps h))

  enum_seen : {A B : Type 0} (g : ℕ → Extent → B) (members : List A) → g (length members) (extent 0 0) ≡ g (count (bare members)) (greatest (extents_of w (bare members)))
  enum_seen g members = ap₂ g (sym (count-bare members)) (sym (greatest-bare w members))

  pub kind_seen : (kind : TypeDefKind) → parts_below (length layouts) kind ≡ true → kind_extent w f kind ≡ extent_of w (tree_by ts kind)
  unfolding parts_below parts
  kind_seen (kind.Alias ty) h = payload_seen (Some ty) (first_below (length layouts) (Some ty) [] h)
  kind_seen (kind.Handle handle) h = refl
  kind_seen (kind.List element) h = refl
  kind_seen (kind.Map k v) h = refl
  kind_seen (kind.FixedLengthList element n) h = ap (λ (e : Extent). fixed_extent e n) (payload_seen (Some element) (first_below (length layouts) (Some element) [] h))
  kind_seen (kind.Tuple members) h = ap record_extent (payloads_seen (map (λ ty. Some ty) members) h)
  kind_seen (kind.Option payload) h = ap (variant_extent 2) (option_seen payload h)
  kind_seen (kind.Result ok err) h = ap (variant_extent 2) (result_seen ok err h)
  kind_seen (kind.Record members) h = ap record_extent (payloads_seen (map (λ f. Some f.ty) members) h)
  kind_seen (kind.Variant members) h = cases_seen variant_extent (map (λ c. c.ty) members) (length members) (sym (length-map members (λ c. c.ty))) h
  kind_seen (kind.Enum members) h = enum_seen variant_extent members
  kind_seen (kind.Flags members) h = refl
  kind_seen kind.Resource h = refl
  kind_seen (kind.Future payload) h = refl
  kind_seen (kind.Stream payload) h = refl
  kind_seen kind.Unknown h = refl

  pub payload_offset_seen : (kind : TypeDefKind) → is_alias kind ≡ false → parts_below (length layouts) kind ≡ true → kind_payload f kind ≡ payload_offset w (tree_by ts kind)
  unfolding parts_below parts
  payload_offset_seen (kind.Alias ty) a h = cc
  payload_offset_seen (kind.Handle handle) a h = refl
  payload_offset_seen (kind.List element) a h = refl
  payload_offset_seen (kind.Map k v) a h = refl
  payload_offset_seen (kind.FixedLengthList element n) a h = refl
  payload_offset_seen (kind.Tuple members) a h = refl
  payload_offset_seen (kind.Option payload) a h = ap (payload_place 2) (option_seen payload h)
  payload_offset_seen (kind.Result ok err) a h = ap (payload_place 2) (result_seen ok err h)
  payload_offset_seen (kind.Record members) a h = refl
  payload_offset_seen (kind.Variant members) a h = cases_seen payload_place (map (λ c. c.ty) members) (length members) (sym (length-map members (λ c. c.ty))) h
  payload_offset_seen (kind.Enum members) a h = enum_seen payload_place members
  payload_offset_seen (kind.Flags members) a h = refl
  payload_offset_seen kind.Resource a h = refl
  payload_offset_seen (kind.Future payload) a h = refl
  payload_offset_seen (kind.Stream payload) a h = refl
  payload_offset_seen kind.Unknown a h = refl

  pub field_offsets_seen : (kind : TypeDefKind) → is_alias kind ≡ false → parts_below (length layouts) kind ≡ true → kind_offsets f kind ≡ field_offsets w (tree_by ts kind)
  unfolding parts_below parts
  field_offsets_seen (kind.Alias ty) a h = cc
  field_offsets_seen (kind.Handle handle) a h = refl
  field_offsets_seen (kind.List element) a h = refl
  field_offsets_seen (kind.Map k v) a h =
      ap₂ (λ (a b : Extent). places (a ∷ b ∷ []) 0) (payload_seen (Some k) (first_below (length layouts) (Some k) (Some v ∷ []) h)) (payload_seen (Some v) (first_below (length layouts) (Some v) [] (later_below (length layouts) (Some k) (Some v ∷ []) h)))
  field_offsets_seen (kind.FixedLengthList element n) a h = refl
  field_offsets_seen (kind.Tuple members) a h = ap (λ es. places es 0) (payloads_seen (map (λ ty. Some ty) members) h)
  field_offsets_seen (kind.Option payload) a h = refl
  field_offsets_seen (kind.Result ok err) a h = refl
  field_offsets_seen (kind.Record members) a h = ap (λ es. places es 0) (payloads_seen (map (λ f. Some f.ty) members) h)
  field_offsets_seen (kind.Variant members) a h = refl
  field_offsets_seen (kind.Enum members) a h = refl
  field_offsets_seen (kind.Flags members) a h = refl
  field_offsets_seen kind.Resource a h = refl
  field_offsets_seen (kind.Future payload) a h = refl
  field_offsets_seen (kind.Stream payload) a h = refl
  field_offsets_seen kind.Unknown a h = refl

-- an alias keeps no places of its own
alias_names : (k : TypeDefKind) → is_alias k ≡ true → (ty : WitType) × (k ≡ kind.Alias ty)
alias_names (kind.Alias ty) h = (ty, refl)
alias_names (kind.Handle handle) h = cc
alias_names (kind.List element) h = cc
alias_names (kind.Map k v) h = cc
alias_names (kind.FixedLengthList element n) h = cc
alias_names (kind.Tuple members) h = cc
alias_names (kind.Option payload) h = cc
alias_names (kind.Result ok err) h = cc
alias_names (kind.Record members) h = cc
alias_names (kind.Variant members) h = cc
alias_names (kind.Enum members) h = cc
alias_names (kind.Flags members) h = cc
alias_names kind.Resource h = cc
alias_names (kind.Future payload) h = cc
alias_names (kind.Stream payload) h = cc
alias_names kind.Unknown h = cc

pub alias_payload : (f : Option WitType → Extent) (k : TypeDefKind) → is_alias k ≡ true → kind_payload f k ≡ 0
alias_payload f k h = ap (kind_payload f) (alias_names k h).1

pub alias_offsets : (f : Option WitType → Extent) (k : TypeDefKind) → is_alias k ≡ true → kind_offsets f k ≡ []
alias_offsets f k h = ap (kind_offsets f) (alias_names k h).1
