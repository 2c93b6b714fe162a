-- What has no text, no list and no map has no blocks.
use Rattle.std.proofs.Common.{◌≡◌, ◌+◌, ℕ, Bool, true, false, MatchBool, List, [], ◌∷◌, ◌++◌, Option, None, Some, ap₂, ◌∙◌}
use Rattle.std.proofs.lemmas.Bool.{or_parts, true≢false}
use mathlib.Core.Logic.{inl, inr}
use Rattle.wrapper_data.specs.declared.block.Block.{Block}
use Rattle.wrapper_data.specs.declared.value.RustValue.{RustValue}
use Rattle.wrapper_data.specs.declared.word.Word.{Word}
use Rattle.wit_layout.specs.Extent.{place}
use Rattle.wit_layout.specs.Flat.{flatten_type}
use Rattle.wit_layout.specs.Sizes.{elem_size, extent_of, payload_offset}
use Rattle.wrapper_meaning.specs.AsWords.{CaseSays, EachSays, PartsSay, Saying, Says}
use Rattle.wrapper_meaning.specs.Direction.{Direction}
use Rattle.wrapper_meaning.specs.InMemory.{CaseHolds, EachHolds, Holder, Holds, PartsHold}
use Rattle.wrapper_meaning.specs.Kinds.{has_list, have_list, result_has_list}
use Rattle.wrapper_meaning.specs.Laws.{MemoryHasNoBlocks, ResultHasNoBlocks, RustValueHasNoBlocks}
use Rattle.wrapper_meaning.specs.Layout.{layout}
use Rattle.wrapper_meaning.specs.Represents.{ResultInArea, ResultInWord, ResultSays, is_indirect}
use Rattle.wrapper_meaning.specs.Shape.{Shape, Shapes, is_nothing}
use Rattle.wrapper_meaning.specs.Shape.Shape.{scalar, text, list, pairs, fixed, fields, tuple, cases, flags, handle, resource, other}
use Rattle.wrapper_meaning.specs.Shape.Shapes.{none, more}
use Rattle.wrapper_meaning.specs.StandsFor.{CaseStands, EachStands, PartsStand, PayloadStands, Standing, Stands}
use Rattle.wrapper_meaning.specs.Value.{Case, Parts, Result, Value}
use Rattle.wrapper_meaning.specs.Words.{read_slots}

pub no_blocks : (xs f g : List Block) → xs ≡ f ++ g → f ≡ [] → g ≡ [] → xs ≡ []
no_blocks xs f g all nf ng = all ∙ ap₂ (λ a c. a ++ c) nf ng

-- in memory

abbrev HeldAlone : {A : Type 0} → Holder A → Type 0
HeldAlone {A} holds = (v : A) (b : Block) (k : ℕ) (blocks : List Block) → holds v b k blocks → blocks ≡ []

each_alone : {A : Type 0} (holds : Holder A) (size : ℕ) → HeldAlone holds → HeldAlone (EachHolds holds size)
each_alone holds size alone [] b k blocks h = h
each_alone holds size alone (v ∷ vs) b k blocks (first, rest, h, hs, all) = no_blocks blocks first rest all (alone v b k first h) (each_alone holds size alone vs b (k + size) rest hs)

-- as words

abbrev SaidAlone : {A : Type 0} → (A → Saying) → Type 0
SaidAlone {A} says = (v : A) (words : List Word) (blocks : List Block) → says v words blocks → blocks ≡ []

each_said : {A : Type 0} (says : A → Saying) → SaidAlone says → SaidAlone (EachSays says)
each_said says alone [] words blocks h = h.1
each_said says alone (v ∷ vs) words blocks (front, back, first, rest, h, hs, e, all) = no_blocks blocks first rest all (alone v front first h) (each_said says alone vs back rest hs)

-- as values of the Rust side

abbrev StandsAlone : {A : Type 0} → (A → Standing RustValue) → Type 0
StandsAlone {A} stands = (v : A) (r : RustValue) (blocks : List Block) → stands v r blocks → blocks ≡ []

each_stands : {A : Type 0} (stands : A → Standing RustValue) → StandsAlone stands → (vs : List A) (rs : List RustValue) (blocks : List Block) → EachStands stands vs rs blocks → blocks ≡ []
each_stands stands alone [] rs blocks h = h.1
each_stands stands alone (v ∷ vs) rs blocks (r, others, first, rest, e, h, hs, all) = no_blocks blocks first rest all (alone v r first h) (each_stands stands alone vs others rest hs)

payload_stands : {A : Type 0} (empty : Bool) (stands : A → Standing RustValue) (v : A) → StandsAlone stands → (payload : Option RustValue) (blocks : List Block) → PayloadStands empty (stands v) payload blocks → blocks ≡ []
payload_stands true stands v alone None blocks h = h
payload_stands true stands v alone (Some r) blocks h = h.1
payload_stands false stands v alone payload blocks (r, e, h) = alone v r blocks h

has_one : {A : Type 0} → true ≡ false → A
has_one e = absurd (true≢false e)

module _ (w : ℕ) (dir : Direction) where
  mutual
    holds_alone : (t : Shape) → has_list t ≡ false → HeldAlone (Holds w dir t)
    holds_alone (scalar s) e v b k blocks h = h.1
    holds_alone text e v b k blocks h = has_one e
    holds_alone (list t) e v b k blocks h = has_one e
    holds_alone (pairs x y) e v b k blocks h = has_one e
    holds_alone (fixed t n) e vs b k blocks h = each_alone (Holds w dir t) (elem_size w (layout t)) (holds_alone t e) vs b k blocks h
    holds_alone (fields ts) e v b k blocks h = parts_alone ts e 0 v b k blocks h
    holds_alone (tuple ts) e v b k blocks h = parts_alone ts e 0 v b k blocks h
    holds_alone (cases ts) e v b k blocks h = case_alone ts e v b (k + payload_offset w (layout (cases ts))) blocks h.1
    holds_alone (flags n) e v b k blocks (bits, has, is, nothing) = nothing
    holds_alone (handle own number) e v b k blocks h = h.1
    holds_alone (resource number) e v b k blocks h = elim h [ ]
    holds_alone other e v b k blocks h = elim h [ ]

    parts_alone : (ts : Shapes) → have_list ts ≡ false → (behind : ℕ) → HeldAlone (λ v. PartsHold w dir ts v behind)
    parts_alone none e behind v b k blocks h = h
    parts_alone (more t ts) e behind v b k blocks (first, rest, h, hs, all) =
        let each = or_parts (has_list t) (have_list ts) e in
        no_blocks blocks first rest all (holds_alone t each.0 v.0 b (k + place (extent_of w (layout t)) behind) first h) (parts_alone ts each.1 (place (extent_of w (layout t)) behind + elem_size w (layout t)) v.1 b k rest hs)

    case_alone : (ts : Shapes) → have_list ts ≡ false → HeldAlone (CaseHolds w dir ts)
    case_alone none e c b k blocks h = elim c [ ]
    case_alone (more t ts) e (inl v) b k blocks h = holds_alone t (or_parts (has_list t) (have_list ts) e).0 v b k blocks h
    case_alone (more t ts) e (inr c) b k blocks h = case_alone ts (or_parts (has_list t) (have_list ts) e).1 c b k blocks h

  mutual
    says_alone : (t : Shape) → has_list t ≡ false → SaidAlone (Says w dir t)
    says_alone (scalar s) e v words blocks (x, is, says, nothing) = nothing
    says_alone text e v words blocks h = has_one e
    says_alone (list t) e v words blocks h = has_one e
    says_alone (pairs x y) e v words blocks h = has_one e
    says_alone (fixed t n) e vs words blocks h = each_said (Says w dir t) (says_alone t e) vs words blocks h
    says_alone (fields ts) e v words blocks h = parts_said ts e v words blocks h
    says_alone (tuple ts) e v words blocks h = parts_said ts e v words blocks h
    says_alone (cases ts) e v words blocks (shared, is, are, h) = case_said ts e v shared blocks h
    says_alone (flags n) e v words blocks (are, is, nothing) = nothing
    says_alone (handle own number) e v words blocks h = h.1
    says_alone (resource number) e v words blocks h = elim h [ ]
    says_alone other e v words blocks h = elim h [ ]

    parts_said : (ts : Shapes) → have_list ts ≡ false → SaidAlone (PartsSay w dir ts)
    parts_said none e v words blocks h = h.1
    parts_said (more t ts) e v words blocks (front, back, first, rest, h, hs, is, all) =
        let each = or_parts (has_list t) (have_list ts) e in
        no_blocks blocks first rest all (says_alone t each.0 v.0 front first h) (parts_said ts each.1 v.1 back rest hs)

    case_said : (ts : Shapes) → have_list ts ≡ false → SaidAlone (CaseSays w dir ts)
    case_said none e c shared blocks h = elim c [ ]
    case_said (more t ts) e (inl v) shared blocks h = says_alone t (or_parts (has_list t) (have_list ts) e).0 v (read_slots w (flatten_type (layout t)) shared) blocks h.0
    case_said (more t ts) e (inr c) shared blocks h = case_said ts (or_parts (has_list t) (have_list ts) e).1 c shared blocks h

  mutual
    stands_alone : (t : Shape) → has_list t ≡ false → StandsAlone (Stands w dir t)
    stands_alone (scalar s) e v r blocks h = h.1
    stands_alone text e v r blocks h = has_one e
    stands_alone (list t) e v r blocks h = has_one e
    stands_alone (pairs x y) e v r blocks h = has_one e
    stands_alone (fixed t n) e vs r blocks (rs, is, h) = each_stands (Stands w dir t) (stands_alone t e) vs rs blocks h
    stands_alone (fields ts) e v r blocks (rs, is, h) = parts_stand ts e v rs blocks h
    stands_alone (tuple ts) e v r blocks (rs, is, h) = parts_stand ts e v rs blocks h
    stands_alone (cases ts) e v r blocks (payload, is, h) = case_stands ts e v payload blocks h
    stands_alone (flags n) e v r blocks (bits, small, is, value, nothing) = nothing
    stands_alone (handle own number) e v r blocks h = h.1
    stands_alone (resource number) e v r blocks h = elim h [ ]
    stands_alone other e v r blocks h = elim h [ ]

    parts_stand : (ts : Shapes) → have_list ts ≡ false → (v : Parts ts) (rs : List RustValue) (blocks : List Block) → PartsStand w dir ts v rs blocks → blocks ≡ []
    parts_stand none e v rs blocks h = h.1
    parts_stand (more t ts) e v rs blocks (r, others, first, rest, is, h, hs, all) =
        let each = or_parts (has_list t) (have_list ts) e in
        no_blocks blocks first rest all (stands_alone t each.0 v.0 r first h) (parts_stand ts each.1 v.1 others rest hs)

    case_stands : (ts : Shapes) → have_list ts ≡ false → (c : Case ts) (payload : Option RustValue) (blocks : List Block) → CaseStands w dir ts c payload blocks → blocks ≡ []
    case_stands none e c payload blocks h = elim c [ ]
    case_stands (more t ts) e (inl v) payload blocks h = payload_stands (is_nothing t) (Stands w dir t) v (stands_alone t (or_parts (has_list t) (have_list ts) e).0) payload blocks h
    case_stands (more t ts) e (inr c) payload blocks h = case_stands ts (or_parts (has_list t) (have_list ts) e).1 c payload blocks h

  by_place : (t : Shape) → has_list t ≡ false → (v : Value t) (words : List Word) (blocks area : List Block) (indirect : Bool) → MatchBool indirect (ResultInArea w dir t v words blocks area) (ResultInWord w dir t v words blocks area) → blocks ≡ []
  by_place t e v words blocks area true h = holds_alone t e v h.block 0 blocks h.stands.holds
  by_place t e v words blocks area false h = says_alone t e v words blocks h.0

  of_result : (r : Option Shape) → result_has_list r ≡ false → (v : Result r) (words : List Word) (blocks area : List Block) → ResultSays w dir r v words blocks area → blocks ≡ []
  of_result None e v words blocks area h = h.1
  of_result (Some t) e v words blocks area h = by_place t e v words blocks area (is_indirect (Some t)) h

pub memory_has_no_blocks : MemoryHasNoBlocks
memory_has_no_blocks w dir t v b k blocks e h = holds_alone w dir t e v b k blocks h

pub result_has_no_blocks : ResultHasNoBlocks
result_has_no_blocks w dir r v words blocks area e h = of_result w dir r e v words blocks area h

pub rust_value_has_no_blocks : RustValueHasNoBlocks
rust_value_has_no_blocks w dir t v r blocks e h = stands_alone w dir t e v r blocks h
