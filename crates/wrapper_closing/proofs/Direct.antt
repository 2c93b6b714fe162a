-- What holds of shapes that are passed directly: they make no request, have no handle, and are as they were when they are lent.
use Rattle.std.proofs.Common.{◌≡◌, ℕ, zero, suc, inl, inr, Bool, true, false, ◌||◌, MatchBool, List, [], ◌++◌, Option, None, Some, Contains, refl, ap₂}
use Rattle.std.proofs.lemmas.Bool.{and_parts}
use Rattle.wrapper_data.specs.declared.block.Block.{Block}
use Rattle.wrapper_data.specs.declared.choice.Request.{Request}
use Rattle.wrapper_data.specs.declared.word.Word.{Word}
use Rattle.wrapper_meaning.specs.AsWords.{CaseSays, PartsSay, Says}
use Rattle.wrapper_meaning.specs.Buffer.{IsBuffer, IsPlaced}
use Rattle.wrapper_meaning.specs.Direction.{lend}
use Rattle.wrapper_meaning.specs.Handles.{all_resources, own_resources, resources}
use Rattle.wrapper_meaning.specs.InMemory.{CaseHolds, Holds, PartsHold, TextHolds, text_extent}
use Rattle.wrapper_meaning.specs.Kinds.{has_own_handle, have_handle}
use Rattle.wrapper_meaning.specs.Represents.{LendsArguments, LendsRecord, are_indirect}
use Rattle.wrapper_meaning.specs.Requests.{case_requests, part_requests, requests, result_requests}
use Rattle.wrapper_meaning.specs.Shape.{Shape, Shapes}
use Rattle.wrapper_meaning.specs.Shape.Shape.{cases, fields, fixed, flags, handle, list, other, pairs, resource, scalar, text, tuple}
use Rattle.wrapper_meaning.specs.Shape.Shapes.{more, none}
use Rattle.wit_layout.specs.Extent.{Extent}
use Rattle.wrapper_meaning.specs.Value.{Case, Parts, Result, Value}
use Rattle.wrapper_closing.specs.Direct.{are_direct, is_direct, is_direct_result}

-- 1. No requests

module _ (w : ℕ) (asked : ℕ → Extent → List Request) where
  mutual
    pub asks_nothing : (t : Shape) (v : Value t) → is_direct t ≡ true → requests w asked t v ≡ []
    asks_nothing (scalar s) v h = refl
    asks_nothing text v h = refl
    asks_nothing (fields ts) v h = parts_ask_nothing ts v h
    asks_nothing (tuple ts) v h = parts_ask_nothing ts v h
    asks_nothing (list t) v h = absurd cc
    asks_nothing (pairs k x) v h = absurd cc
    asks_nothing (fixed t n) v h = absurd cc
    asks_nothing (cases ts) v h = case_asks_nothing ts v h
    asks_nothing (flags n) v h = refl
    asks_nothing (handle own r) v h = absurd cc
    asks_nothing (resource r) v h = absurd cc
    asks_nothing other v h = absurd cc

    pub parts_ask_nothing : (ts : Shapes) (v : Parts ts) → are_direct ts ≡ true → part_requests w asked ts v ≡ []
    parts_ask_nothing none v h = refl
    parts_ask_nothing (more t ts) v h =
        let both = and_parts (is_direct t) (are_direct ts) h in ap₂ (λ xs ys. xs ++ ys) (asks_nothing t v.0 both.0) (parts_ask_nothing ts v.1 both.1)

    case_asks_nothing : (ts : Shapes) (c : Case ts) → are_direct ts ≡ true → case_requests w asked ts c ≡ []
    case_asks_nothing none c h = absurd c
    case_asks_nothing (more t ts) (inl v) h = asks_nothing t v (and_parts (is_direct t) (are_direct ts) h).0
    case_asks_nothing (more t ts) (inr c) h = case_asks_nothing ts c (and_parts (is_direct t) (are_direct ts) h).1

  pub result_asks_nothing : (r : Option Shape) (u : Result r) → is_direct_result r ≡ true → result_requests w asked r u ≡ []
  result_asks_nothing None u h = refl
  result_asks_nothing (Some t) u h = asks_nothing t u h

-- 2. No handles

mutual
  no_resource : (t : Shape) → is_direct t ≡ true → resources t ≡ []
  no_resource (scalar s) h = refl
  no_resource text h = refl
  no_resource (fields ts) h = no_resources ts h
  no_resource (tuple ts) h = no_resources ts h
  no_resource (list t) h = absurd cc
  no_resource (pairs k x) h = absurd cc
  no_resource (fixed t n) h = absurd cc
  no_resource (cases ts) h = no_resources ts h
  no_resource (flags n) h = refl
  no_resource (handle own r) h = absurd cc
  no_resource (resource r) h = absurd cc
  no_resource other h = absurd cc

  no_resources : (ts : Shapes) → are_direct ts ≡ true → all_resources ts ≡ []
  no_resources none h = refl
  no_resources (more t ts) h = let both = and_parts (is_direct t) (are_direct ts) h in ap₂ (λ xs ys. xs ++ ys) (no_resource t both.0) (no_resources ts both.1)

pub no_own_resources : (ts : Shapes) (r : Option Shape) → are_direct ts ≡ true → is_direct_result r ≡ true → own_resources ts r ≡ []
no_own_resources ts None h g = no_resources ts h
no_own_resources ts (Some t) h g = ap₂ (λ xs ys. xs ++ ys) (no_resources ts h) (no_resource t g)

mutual
  pub no_own_handle : (t : Shape) → is_direct t ≡ true → has_own_handle t ≡ false
  no_own_handle (scalar s) h = refl
  no_own_handle text h = refl
  no_own_handle (fields ts) h = no_own_handles ts h
  no_own_handle (tuple ts) h = no_own_handles ts h
  no_own_handle (list t) h = absurd cc
  no_own_handle (pairs k x) h = absurd cc
  no_own_handle (fixed t n) h = absurd cc
  no_own_handle (cases ts) h = no_own_handles ts h
  no_own_handle (flags n) h = refl
  no_own_handle (handle own r) h = absurd cc
  no_own_handle (resource r) h = absurd cc
  no_own_handle other h = absurd cc

  no_own_handles : (ts : Shapes) → are_direct ts ≡ true → have_handle (λ owns. owns) ts ≡ false
  no_own_handles none h = refl
  no_own_handles (more t ts) h = let both = and_parts (is_direct t) (are_direct ts) h in ap₂ (λ x y. x || y) (no_own_handle t both.0) (no_own_handles ts both.1)

-- 3. What is lent in some blocks is lent in more

abbrev pub Within : List Block → List Block → Type 0
Within few many = (b : Block) → Contains few b → Contains many b

module _ (few many : List Block) (within : Within few many) where
  lent_place : (v : List ℕ) (n address : ℕ) (blocks : List Block) → IsPlaced (lend few) true address n text_extent.bytes (TextHolds v) blocks → IsPlaced (lend many) true address n text_extent.bytes (TextHolds v) blocks
  lent_place v zero address blocks h = h
  lent_place v (suc n) address blocks h = record {
    block = h.block;
    offset = h.offset;
    own = h.own;
    inner = h.inner;
    held = record { there = within h.block h.held.there; starts = h.held.starts; room = h.held.room; none = h.held.none };
    holds = h.holds;
    all = h.all;
  }

  lent_text : (v : List ℕ) (n address : ℕ) (blocks : List Block) → IsBuffer (lend few) true address n text_extent (TextHolds v) blocks → IsBuffer (lend many) true address n text_extent (TextHolds v) blocks
  lent_text v n address blocks h = record { aligned = h.aligned; bounded = h.bounded; placed = lent_place v n address blocks h.placed }

  mutual
    held_wider : (t : Shape) (v : Value t) (b : Block) (k : ℕ) (own : List Block) → is_direct t ≡ true → Holds 2 (lend few) t v b k own → Holds 2 (lend many) t v b k own
    held_wider (scalar s) v b k own d h = h
    held_wider text v b k own d h = record { address = h.address; pointer = h.pointer; counted = h.counted; buffer = lent_text v _ h.address own h.buffer }
    held_wider (fields ts) v b k own d h = parts_held_wider ts v 0 b k own d h
    held_wider (tuple ts) v b k own d h = parts_held_wider ts v 0 b k own d h
    held_wider (list t) v b k own d h = absurd cc
    held_wider (pairs x y) v b k own d h = absurd cc
    held_wider (fixed t n) v b k own d h = absurd cc
    held_wider (cases ts) v b k own d (tag, h) = (tag, case_held_wider ts v b _ own d h)
    held_wider (flags n) v b k own d h = h
    held_wider (handle o r) v b k own d h = absurd cc
    held_wider (resource r) v b k own d h = absurd cc
    held_wider other v b k own d h = absurd cc

    parts_held_wider : (ts : Shapes) (v : Parts ts) (behind : ℕ) (b : Block) (k : ℕ) (own : List Block) → are_direct ts ≡ true → PartsHold 2 (lend few) ts v behind b k own → PartsHold 2 (lend many) ts v behind b k own
    parts_held_wider none v behind b k own d h = h
    parts_held_wider (more t ts) v behind b k own d (first, rest, one, two, all) =
        let both = and_parts (is_direct t) (are_direct ts) d in
        (first, rest, held_wider t v.0 b _ first both.0 one, parts_held_wider ts v.1 _ b k rest both.1 two, all)

    case_held_wider : (ts : Shapes) (c : Case ts) (b : Block) (k : ℕ) (own : List Block) → are_direct ts ≡ true → CaseHolds 2 (lend few) ts c b k own → CaseHolds 2 (lend many) ts c b k own
    case_held_wider none c b k own d h = absurd c
    case_held_wider (more t ts) (inl v) b k own d h = held_wider t v b k own (and_parts (is_direct t) (are_direct ts) d).0 h
    case_held_wider (more t ts) (inr c) b k own d h = case_held_wider ts c b k own (and_parts (is_direct t) (are_direct ts) d).1 h

  mutual
    says_wider : (t : Shape) (v : Value t) (ws : List Word) (own : List Block) → is_direct t ≡ true → Says 2 (lend few) t v ws own → Says 2 (lend many) t v ws own
    says_wider (scalar s) v ws own d h = h
    says_wider text v ws own d h = record { address = h.address; pair = h.pair; range = h.range; buffer = lent_text v _ h.address own h.buffer }
    says_wider (fields ts) v ws own d h = parts_say_wider ts v ws own d h
    says_wider (tuple ts) v ws own d h = parts_say_wider ts v ws own d h
    says_wider (list t) v ws own d h = absurd cc
    says_wider (pairs x y) v ws own d h = absurd cc
    says_wider (fixed t n) v ws own d h = absurd cc
    says_wider (cases ts) v ws own d (shared, is, are, h) = (shared, is, are, case_says_wider ts v shared own d h)
    says_wider (flags n) v ws own d h = h
    says_wider (handle o r) v ws own d h = absurd cc
    says_wider (resource r) v ws own d h = absurd cc
    says_wider other v ws own d h = absurd cc

    parts_say_wider : (ts : Shapes) (v : Parts ts) (ws : List Word) (own : List Block) → are_direct ts ≡ true → PartsSay 2 (lend few) ts v ws own → PartsSay 2 (lend many) ts v ws own
    parts_say_wider none v ws own d h = h
    parts_say_wider (more t ts) v ws own d (front, back, first, rest, one, two, words, all) =
        let both = and_parts (is_direct t) (are_direct ts) d in
        (front, back, first, rest, says_wider t v.0 front first both.0 one, parts_say_wider ts v.1 back rest both.1 two, words, all)

    case_says_wider : (ts : Shapes) (c : Case ts) (shared : List Word) (own : List Block) → are_direct ts ≡ true → CaseSays 2 (lend few) ts c shared own → CaseSays 2 (lend many) ts c shared own
    case_says_wider none c shared own d h = absurd c
    case_says_wider (more t ts) (inl v) shared own d (h, left) = (says_wider t v _ own (and_parts (is_direct t) (are_direct ts) d).0 h, left)
    case_says_wider (more t ts) (inr c) shared own d h = case_says_wider ts c shared own (and_parts (is_direct t) (are_direct ts) d).1 h

  pub lends_wider : (area : List Block) (ts : Shapes) (vs : Parts ts) (ws : List Word) → are_direct ts ≡ true → LendsArguments 2 few area ts vs ws → LendsArguments 2 many area ts vs ws
  lends_wider area ts vs ws d h = go (are_indirect ts) h
    where
      go : (c : Bool) → MatchBool c (LendsRecord 2 few area ts vs ws) (PartsSay 2 (lend few) ts vs ws []) → MatchBool c (LendsRecord 2 many area ts vs ws) (PartsSay 2 (lend many) ts vs ws [])
      go true h = record {
        block = h.block;
        is_area = h.is_area;
        named = h.named;
        stands = record { aligned = h.stands.aligned; room = h.stands.room; holds = parts_held_wider ts vs 0 h.block 0 [] d h.stands.holds };
      }
      go false h = parts_say_wider ts vs ws [] d h
