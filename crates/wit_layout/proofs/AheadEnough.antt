-- Each type has a word, so that seventeen members ahead have as many words as there is room for, and those left out count for
-- nothing.
use Rattle.std.proofs.Common.{◌≡◌, ℕ, zero, suc, ◌≤◌, ◌<◌, ◌⊎◌, inl, inr, true, List, [], ◌∷◌, ◌++◌, length, take, map, get_or, Option, Some, sym, ap, ◌∙◌, subst, arith, length-append, append_assoc}
use Rattle.std.specs.List.{slice_get, All}
use Rattle.std.proofs.lemmas.List.{append-nil, take-append-le}
use Rattle.std.proofs.lemmas.List.Elements.{All-append, All-drop, All-nil}
use Rattle.std.proofs.lemmas.Option.{slice_get-get_or}
use Rattle.std.proofs.lemmas.Bool.{ltb-true}
use Rattle.wit_model.specs.declared.wasm_type.WasmType.{WasmType}
use Rattle.wit_model.specs.declared.types.WitType.{WitType}
use Rattle.wit_model.specs.declared.types.WitType.TheVariants as wit
use Rattle.wit_model.specs.declared.types.TypeDefKind.{TypeDefKind}
use Rattle.wit_model.specs.declared.types.TypeDefKind.TheVariants as kind
use Rattle.wit_model.specs.declared.types.TypeDef.{TypeDef}
use Rattle.wit_model.specs.TypeOrder.{type_below, payload_below, GoesDown}
use Rattle.wit_layout.specs.declared.ahead.Run.{Run}
use Rattle.wit_layout.specs.declared.ahead.Ahead.{Ahead}
use Rattle.wit_layout.specs.inside.Ahead.{AreRuns, IsRun, ArePut, ahead_members, runs, runs_members, run_members}
use Rattle.wit_layout.specs.Flat.{EachHasWords, flatten_type, flatten_record}
use Rattle.wit_layout.specs.inside.Sequence.{members, members_at, members_of_entry}
use Rattle.wit_layout.specs.Tree.{tree_at, tree_in, payload_in, payloads_in, trees}
use Rattle.wit_layout.proofs.AheadTurns.{entry_at}
use Rattle.wit_layout.proofs.FlattenSteps.{members_low}
use Rattle.wit_layout.proofs.SequenceSteps.{every_element, flatten_record-append}
use Rattle.wit_model.proofs.BelowLemmas.{payload_below_more}

of_map : {A B : Type 0} (f : A → B) (xs : List A) (nth : ℕ) (y : B) → slice_get (map f xs) nth ≡ Some y → (x : A) × (f x ≡ y)
of_map f [] nth y e = cc
of_map f (x ∷ xs) zero y e = (x, cc)
of_map f (x ∷ xs) (suc nth) y e = of_map f xs nth y e

of_one : {A : Type 0} (x y : A) (nth : ℕ) → slice_get (x ∷ []) nth ≡ Some y → x ≡ y
of_one x y zero e = cc
of_one x y (suc nth) e = cc

-- a member is never left out
member_some : (k : TypeDefKind) (nth : ℕ) (p : Option WitType) → slice_get (members k) nth ≡ Some p → (ty : WitType) × (Some ty ≡ p)
unfolding members
member_some (kind.Alias ty) nth p e = (ty, of_one (Some ty) p nth e)
member_some (kind.FixedLengthList ty n) nth p e = (ty, every_element n (Some ty) p nth e)
member_some (kind.Tuple types) nth p e = of_map (λ ty. Some ty) types nth p e
member_some (kind.Record fields) nth p e = let of = of_map (λ f. Some f.ty) fields nth p e in (of.0.ty, of.1)
member_some (kind.Handle handle) nth p e = cc
member_some (kind.List element) nth p e = cc
member_some (kind.Map k v) nth p e = cc
member_some (kind.Option payload) nth p e = cc
member_some (kind.Result ok err) nth p e = cc
member_some (kind.Variant cases) nth p e = cc
member_some (kind.Enum members) nth p e = cc
member_some (kind.Flags members) nth p e = cc
member_some kind.Resource nth p e = cc
member_some (kind.Future payload) nth p e = cc
member_some (kind.Stream payload) nth p e = cc
member_some kind.Unknown nth p e = cc

module _ (types : List TypeDef) (bound : ℕ) (lower : (i : ℕ) → i < bound → 0 < length (flatten_type (tree_at types i))) where
  pub type_words : (ty : WitType) → payload_below bound (Some ty) ≡ true → 0 < length (flatten_type (tree_in (trees types) ty))
  unfolding type_below payload_below
  type_words (wit.Id id) h = lower id.0 (ltb-true id.0 bound h)
  type_words wit.Bool h = omega arith
  type_words wit.U8 h = omega arith
  type_words wit.U16 h = omega arith
  type_words wit.U32 h = omega arith
  type_words wit.U64 h = omega arith
  type_words wit.S8 h = omega arith
  type_words wit.S16 h = omega arith
  type_words wit.S32 h = omega arith
  type_words wit.S64 h = omega arith
  type_words wit.F32 h = omega arith
  type_words wit.F64 h = omega arith
  type_words wit.Char h = omega arith
  type_words wit.String h = omega arith
  type_words wit.ErrorContext h = omega arith

module _ (types : List TypeDef) (wordy : EachHasWords types) where
  abbrev HasWords : Option WitType → Type 0
  HasWords p = 0 < length (flatten_type (payload_in (trees types) p))

  abbrev words : List (Option WitType) → List WasmType
  words ms = flatten_record (payloads_in (trees types) ms)

  -- as many words as members at least
  as_many : (ms : List (Option WitType)) → All HasWords ms → length ms ≤ length (words ms)
  as_many [] h = omega arith
  as_many (m ∷ ms) h =
      let here : HasWords m = h 0 m (omega arith) in
      omega (arith, here, as_many ms (All-drop HasWords 1 (m ∷ ms) h), length-append (flatten_type (payload_in (trees types) m)) (words ms))

  module _ (down : GoesDown types) where
    members_words : (at : ℕ) → at < length types → All HasWords (members_at types at)
    members_words at within k d l =
        let entry = entry_at types at within in
        let p = get_or (members_at types at) k d in
        let is : slice_get (members entry.0.kind) k ≡ Some p = sym (ap (λ e. slice_get (members_of_entry e) k) entry.1) ∙ slice_get-get_or (members_at types at) k d l in
        let some = member_some entry.0.kind k p is in
        let low = payload_below_more at (length types) p (omega (arith, within)) (members_low types down at entry.0 entry.1 k d l) in
        subst HasWords some.1 (type_words types (length types) wordy some.0 (subst (λ q. payload_below (length types) q ≡ true) (sym some.1) low))

    runs_words : (rs : List Run) → All (IsRun types) rs → All HasWords (runs_members types rs)
    runs_words [] h = All-nil HasWords
    runs_words (r ∷ rs) h =
        let run : IsRun types r = h 0 r (omega arith) in
        All-append HasWords (runs_members types rs) (run_members types r) (runs_words rs (All-drop (IsRun types) 1 (r ∷ rs) h)) (All-drop HasWords r.nth (members_at types r.at) (members_words r.at run.0))

    ahead_words : (a : Ahead) → AreRuns types a → 17 ≤ length (ahead_members types a) → 17 ≤ length (words (ahead_members types a))
    ahead_words a valid many = omega (arith, many, as_many (ahead_members types a) (runs_words (runs a) valid))

    module _ (r : ℕ) (small : r ≤ 17) (all : List WasmType) (before after : Ahead) (at : ℕ) (valid : AreRuns types after) (put : ArePut types at before after) where
      parted : words (ahead_members types after) ++ words put.left_out ≡ words (members_at types at) ++ words (ahead_members types before)
      parted =
          sym (flatten_record-append (trees types) (ahead_members types after) put.left_out) ∙ ap words put.same ∙ flatten_record-append (trees types) (members_at types at) (ahead_members types before)

      by_far : (put.left_out ≡ []) ⊎ (17 ≤ length (ahead_members types after)) → take r (all ++ words (ahead_members types after)) ≡ take r (all ++ (words (ahead_members types after) ++ words put.left_out))
      by_far (inl none) = ap (λ ws. take r (all ++ ws)) (sym (append-nil (words (ahead_members types after))) ∙ ap (λ ms. words (ahead_members types after) ++ words ms) (sym none))
      by_far (inr many) =
          sym (take-append-le r (all ++ words (ahead_members types after)) (words put.left_out) (omega (arith, small, ahead_words after valid many, length-append all (words (ahead_members types after))))) ∙ ap (take r) (append_assoc all (words (ahead_members types after)) (words put.left_out))

      -- behind some words, the first words of what is ahead where members have been put first
      pub put_words : take r (all ++ words (ahead_members types after)) ≡ take r (all ++ (words (members_at types at) ++ words (ahead_members types before)))
      put_words = by_far put.far ∙ ap (λ ws. take r (all ++ ws)) parted
