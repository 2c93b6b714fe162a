-- One part more: where the parts end, where they stand, and which are the greatest.
use Rattle.std.proofs.Common.{◌≡◌, ℕ, ◌+◌, ◌*◌, ◌^◌, ◌<◌, ◌≤◌, max, List, [], ◌∷◌, ◌++◌, length, map, drop, Option, Some, sym, ap, ap₂, ◌∙◌, subst, arith, append_assoc, true}
use Rattle.std.specs.List.{slice_get}
use Rattle.std.proofs.lemmas.Bool.{ltb-true}
use Rattle.std.proofs.lemmas.List.{drop-map, length-map}
use Rattle.std.proofs.lemmas.List.Sums.{AllPass-from_list_all}
use Rattle.std.proofs.lemmas.Option.{slice_get_within, get_or_from_slice_get}
use Rattle.wit_model.specs.declared.types.WitType.{WitType}
use Rattle.wit_model.specs.declared.types.TypeDefKind.{TypeDefKind}
use Rattle.wit_model.specs.declared.types.TypeDefKind.TheVariants as kind
use Rattle.wit_model.specs.Numbered.{is_short, kind_numbered}
use Rattle.wit_model.specs.Parts.{parts}
use Rattle.wit_model.specs.TypeOrder.{payload_below, parts_below}
use Rattle.wit_layout.specs.declared.parts.Parts.{Parts}
use Rattle.wit_layout.specs.declared.stored.StoredExtent.{StoredExtent}
use Rattle.wit_layout.specs.Extent.{Extent, extent, place, places, end, greater, greatest}
use Rattle.wit_layout.specs.inside.Grain.{exponent}
use Rattle.wit_layout.specs.inside.Stored.{seen}
use Rattle.wit_model.proofs.ListLemmas.{drop_at}

-- a part of a kind whose parts all name lower ids
pub part_below : (bound : ℕ) (kind : TypeDefKind) (i : ℕ) (p : Option WitType) → parts_below bound kind ≡ true → slice_get (parts kind) i ≡ Some p → payload_below bound p ≡ true
unfolding parts_below
part_below bound kind i p h e =
    subst (λ (q : Option WitType). payload_below bound q ≡ true) (get_or_from_slice_get (parts kind) i p p e) (AllPass-from_list_all (payload_below bound) (parts kind) h i p (slice_get_within (parts kind) i p e))

-- the parts from one on are that one and those behind it
pub rest-map : {A B : Type 0} (f : A → B) (xs : List A) (i : ℕ) (x : A) → slice_get xs i ≡ Some x → drop i (map f xs) ≡ f x ∷ drop (i + 1) (map f xs)
rest-map f xs i x e =
    drop-map f i xs ∙ ap (map f) (drop_at xs i x e) ∙ ap (λ ys. f x ∷ ys) (sym (drop-map f (i + 1) xs))

module _ {A : Type 0} (f : A → Extent) (xs : List A) (i : ℕ) (x : A) (e : slice_get xs i ≡ Some x) where
  abbrev rest : List Extent
  rest = drop (i + 1) (map f xs)

  pub end_kept : (part : Extent) (from next all : ℕ) → part ≡ f x → next ≡ place part from + part.bytes → end (drop i (map f xs)) from ≡ all → end rest next ≡ all
  end_kept part from next all same ended h =
      let there : next ≡ place (f x) from + (f x).bytes = ended ∙ ap (λ (p : Extent). place p from + p.bytes) same in
      ap (end rest) there ∙ sym (ap (λ ps. end ps from) (rest-map f xs i x e)) ∙ h

  pub greatest_kept : (part before after all : Extent) → part ≡ f x → after ≡ greater before part → greater before (greatest (drop i (map f xs))) ≡ all → greater after (greatest rest) ≡ all
  greatest_kept part before after all same is h =
      let there : after ≡ greater before (f x) = is ∙ ap (greater before) same in
      let grains : max (max before.grain (f x).grain) (greatest rest).grain ≡ max before.grain (max (f x).grain (greatest rest).grain) = omega arith in
      let bytes : max (max before.bytes (f x).bytes) (greatest rest).bytes ≡ max before.bytes (max (f x).bytes (greatest rest).bytes) = omega arith in
      ap (λ a. greater a (greatest rest)) there ∙ ap₂ extent grains bytes ∙ sym (ap (λ ps. greater before (greatest ps)) (rest-map f xs i x e)) ∙ h

  pub places_kept : (part : Extent) (done more : List ℕ) (from next at : ℕ) (all : List ℕ) → part ≡ f x → at ≡ place part from → next ≡ at + part.bytes → more ≡ done ++ at ∷ [] → done ++ places (drop i (map f xs)) from ≡ all
      → more ++ places rest next ≡ all
  places_kept part done more from next at all same placed ended pushed h =
      let here : at ≡ place (f x) from = placed ∙ ap (λ (p : Extent). place p from) same in
      let there : next ≡ place (f x) from + (f x).bytes = ended ∙ ap₂ (λ k (p : Extent). k + p.bytes) here same in
      ap₂ (λ (m : List ℕ) k. m ++ places rest k) pushed there ∙ append_assoc done (at ∷ []) (places rest (place (f x) from + (f x).bytes)) ∙ ap (λ k. done ++ (k ∷ places rest (place (f x) from + (f x).bytes))) here
      ∙ sym (ap (λ ps. done ++ places ps from) (rest-map f xs i x e)) ∙ h

-- what is gathered of the first so many of some parts, at both widths
pub record AreGathered (parts4 parts8 : List Extent) (many : ℕ) (all : Parts) : Type 0 where
  pub end4 : end (drop many parts4) all.end.at4 ≡ end parts4 0
  pub end8 : end (drop many parts8) all.end.at8 ≡ end parts8 0
  pub greatest4 : greater (extent (exponent 2 all.grain) all.largest.at4) (greatest (drop many parts4)) ≡ greatest parts4
  pub greatest8 : greater (extent (exponent 3 all.grain) all.largest.at8) (greatest (drop many parts8)) ≡ greatest parts8
  pub bounded : all.end.at8 ≤ many * 2 ^ 32

module _ {A : Type 0} (f4 f8 : A → Extent) (xs : List A) (i : ℕ) (x : A) (e : slice_get xs i ≡ Some x) (part : StoredExtent) (four : seen 2 part ≡ f4 x) (eight : seen 3 part ≡ f8 x) (all next : Parts) where
  pub one_gathered : next.end.at4 ≡ place (seen 2 part) all.end.at4 + (seen 2 part).bytes → next.end.at8 ≡ place (seen 3 part) all.end.at8 + (seen 3 part).bytes → extent (exponent 2 next.grain) next.largest.at4 ≡ greater (extent (exponent 2 all.grain) all.largest.at4) (seen 2 part) → extent (exponent 3 next.grain) next.largest.at8 ≡ greater (extent (exponent 3 all.grain) all.largest.at8) (seen 3 part) → next.end.at8 ≤ all.end.at8 + 2 ^ 32
      → AreGathered (map f4 xs) (map f8 xs) i all → AreGathered (map f4 xs) (map f8 xs) (i + 1) next
  one_gathered end4 end8 greatest4 greatest8 bounded before = record {
    end4 = end_kept f4 xs i x e _ all.end.at4 next.end.at4 _ four end4 before.end4;
    end8 = end_kept f8 xs i x e _ all.end.at8 next.end.at8 _ eight end8 before.end8;
    greatest4 = greatest_kept f4 xs i x e _ _ _ _ four greatest4 before.greatest4;
    greatest8 = greatest_kept f8 xs i x e _ _ _ _ eight greatest8 before.greatest8;
    bounded = omega (arith, bounded, before.bounded);
  }

-- a list that is numbered is short
short_list : {A : Type 0} (xs : List A) → is_short xs ≡ true → length xs < 2 ^ 32
unfolding is_short
short_list xs h = ltb-true (length xs) (2 ^ 32) h

-- a kind of a numbered table has fewer parts than there are numbers
pub parts_short : (kind : TypeDefKind) → kind_numbered kind ≡ true → length (parts kind) < 2 ^ 32
unfolding kind_numbered parts
parts_short (kind.Alias ty) h = omega arith
parts_short (kind.Handle handle) h = omega arith
parts_short (kind.List element) h = omega arith
parts_short (kind.Map k v) h = omega arith
parts_short (kind.FixedLengthList element n) h = omega arith
parts_short (kind.Tuple members) h = omega (arith, short_list members h, length-map members (λ ty. Some ty))
parts_short (kind.Option payload) h = omega arith
parts_short (kind.Result ok err) h = omega arith
parts_short (kind.Record fields) h = omega (arith, short_list fields h, length-map fields (λ f. Some f.ty))
parts_short (kind.Variant cases) h = omega (arith, short_list cases h, length-map cases (λ c. c.ty))
parts_short (kind.Enum members) h = omega arith
parts_short (kind.Flags members) h = omega arith
parts_short kind.Resource h = omega arith
parts_short (kind.Future payload) h = omega arith
parts_short (kind.Stream payload) h = omega arith
parts_short kind.Unknown h = omega arith
