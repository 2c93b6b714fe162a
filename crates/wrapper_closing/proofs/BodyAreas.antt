-- The area that the body of an export needs is for the record by which its result passes, and that of several bodies is shared by them.
use Rattle.std.proofs.Common.{◌≡◌, ◌≤◌, ℕ, Bool, true, false, if◌then◌else◌, nat_le, List, [], ◌∷◌, ◌++◌, Option, None, Some, refl, sym, ap, ◌∙◌, subst, arith}
use Rattle.std.specs.Prelude.{max, option_to_list}
use Rattle.std.specs.List.{flat_map}
use Rattle.std.proofs.lemmas.Bool.{and_from, and_parts}
use Rattle.std.proofs.lemmas.Bool.Decides.{nat_tests}
use Rattle.std.proofs.lemmas.Nat.{pow_pos}
use Rattle.std.proofs.Math.Nat.{max-eq_right}
use Rattle.wit_layout.specs.Sizes.{alignment, elem_size, extent_of}
use Rattle.wit_layout.specs.Told.{IsAlignmentOf, IsPairOf}
use Rattle.wit_model.specs.Size.{alignment_at, bytes_at, greater_alignment, greater_size, is_at_least, paired, rounded_up}
use Rattle.wit_model.specs.declared.size.Alignment.{Alignment}
use Rattle.wit_model.specs.declared.size.Alignment.TheVariants.{Bytes, Pointer}
use Rattle.wit_model.specs.declared.size.ArchitectureSize.{ArchitectureSize}
use Rattle.wrapper_meaning.specs.Areas.{result_record}
use Rattle.wrapper_meaning.specs.Layout.{layout}
use Rattle.wrapper_meaning.specs.Represents.{is_indirect}
use Rattle.wrapper_meaning.specs.Shape.{Shape, result_shape}
use Rattle.abi_bindgen.specs.declared.bindgen.Asked.{Asked}
use Rattle.abi_bindgen.specs.Area.{AreFor}
use Rattle.func_gen.specs.Body.{needed}
use Rattle.func_gen.specs.Meaning.{static_request}
use Rattle.wrapper_closing.specs.FileArea.{NeedAreas, static_area}
use Rattle.wrapper_closing.specs.ImportBlock.{wanted}
use Rattle.wrapper_closing.specs.Laws.{ExportBodyAreaIsFor, NeededAreaIsShared}

abbrev nothing : ArchitectureSize
nothing = record { bytes = 0; pointers = 0 }

abbrev neither : ArchitectureSize → ArchitectureSize
neither s = paired (rounded_up 4 (max (bytes_at nothing 4) (bytes_at s 4))) (rounded_up 8 (max (bytes_at nothing 8) (bytes_at s 8)))

beyond_nothing : (s : ArchitectureSize) → is_at_least s nothing ≡ true
beyond_nothing s =
    let low : nat_le (bytes_at nothing 4) (bytes_at s 4) ≡ true = grind (arith, nat_tests) in
    let high : nat_le (bytes_at nothing 8) (bytes_at s 8) ≡ true = grind (arith, nat_tests) in
    and_from _ _ low high

-- of no bytes and a size the size is the greater, at both widths
one_size : (s : ArchitectureSize) (f : ℕ → ℕ) → IsPairOf s f → IsPairOf (greater_size nothing s) f
one_size s f (four, eight) = subst (λ d. IsPairOf (if is_at_least nothing s then nothing else (if d then s else neither s)) f) (sym (beyond_nothing s)) (go (is_at_least nothing s) refl)
  where
    go : (c : Bool) → is_at_least nothing s ≡ c → IsPairOf (if c then nothing else s) f
    go true e =
        let h = and_parts (nat_le (bytes_at s 4) (bytes_at nothing 4)) (nat_le (bytes_at s 8) (bytes_at nothing 8)) e in
        let small : bytes_at s 4 ≤ 0 = let k = h.0 in grind (arith, nat_tests) in
        let none : bytes_at s 8 ≤ 0 = let k = h.1 in grind (arith, nat_tests) in
        (omega (arith, small, four), omega (arith, none, eight))
    go false e = (four, eight)

one_alignment : (a : Alignment) → 1 ≤ alignment_at a 4 → greater_alignment (Bytes 1) a ≡ a
one_alignment Pointer l = refl
one_alignment (Bytes n) l = ap Bytes (max-eq_right l)

one_for : (t : Shape) (a : Asked) → AreFor (t ∷ []) (a ∷ []) → AreFor (t ∷ []) (option_to_list (needed (a ∷ [])))
one_for t a (size, align, h) =
    let l : 1 ≤ alignment_at a.align 4 = omega (arith, align.0, pow_pos (extent_of 2 (layout t)).grain) in
    (one_size a.size (λ w. elem_size w (layout t)) size, subst (λ x. IsAlignmentOf x (λ w. alignment w (layout t))) (sym (one_alignment a.align l)) align, h)

needed_for : (r : Option Shape) (asked : List Asked) → AreFor (result_record r) asked → AreFor (result_record r) (option_to_list (needed asked))
needed_for None [] h = tt
needed_for None (a ∷ asked) h = absurd h
needed_for (Some t) asked h = go (is_indirect (Some t)) asked h
  where
    go : (c : Bool) (asked : List Asked) → AreFor (if c then t ∷ [] else []) asked → AreFor (if c then t ∷ [] else []) (option_to_list (needed asked))
    go true [] h = absurd h
    go true (a ∷ []) h = one_for t a h
    go true (a ∷ b ∷ asked) h = absurd h.2
    go false [] h = tt
    go false (a ∷ asked) h = absurd h

pub export_body_area_is_for : ExportBodyAreaIsFor
export_body_area_is_for types func parts body k =
    let r = result_shape types func.now in
    let asked : k.new.asked ≡ k.calls.records = k.calls.asked ∙ ap (λ first. first ++ k.calls.records) k.made.unasked in
    let area : body.area ≡ needed k.calls.records = k.body_of.area ∙ ap needed asked in
    subst (λ x. AreFor (result_record r) (option_to_list x)) (sym area) (needed_for r k.calls.records k.calls.for)

for_both : (ts us : List Shape) (asked more : List Asked) → AreFor ts asked → AreFor us more → AreFor (ts ++ us) (asked ++ more)
for_both [] us [] more h g = g
for_both [] us (a ∷ asked) more h g = absurd h
for_both (t ∷ ts) us [] more h g = absurd h
for_both (t ∷ ts) us (a ∷ asked) more (size, align, h) g = (size, align, for_both ts us asked more h g)

all_for : (results : List (Option Shape)) (areas : List (Option Asked)) → NeedAreas results areas → AreFor (flat_map result_record results) (flat_map option_to_list areas)
all_for [] [] h = tt
all_for [] (a ∷ areas) h = absurd h
all_for (r ∷ results) [] h = absurd h
all_for (r ∷ results) (a ∷ areas) (one, h) = for_both (result_record r) (flat_map result_record results) (option_to_list a) (flat_map option_to_list areas) one (all_for results areas h)

static_needed : (asked : List Asked) → static_request (static_area (needed asked)) ≡ wanted asked
static_needed [] = refl
static_needed (a ∷ asked) = refl

pub needed_area_is_shared : NeededAreaIsShared
needed_area_is_shared results areas r tree h =
    let asked = flat_map option_to_list areas in
    record {
      shares = h.shares;
      asked = asked;
      for = all_for results areas h.need;
      area = ap static_request h.has ∙ static_needed asked;
      direct = h.direct;
    }
