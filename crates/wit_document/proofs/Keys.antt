-- An object's keys, as the list of its members has them.
use Rattle.std.proofs.Common.{◌≡◌, ℕ, List, [], ◌∷◌, map, Bool, true, false, ◌&&◌, Option, Some, None, cond, option_map, option_and_then, Ordering, Less, Equal, Greater, is_eq, nat_cmp, Global, bytes_eq, Bor, refl, sym, ap, ap₂, ◌∙◌}
use Rattle.std.proofs.lemmas.Cmp.{nat_list_cmp_total, tied_itself}
use Rattle.std.proofs.lemmas.Map.Text.{is_eq-slice_cmp}
use Rattle.std.proofs.lemmas.Slice.Eq.{bytes_eq-Decides}
use Rattle.std.specs.Cmp.Lexicographic.{slice_cmp}
use Rattle.std.specs.List.{list_any, list_all, slice_get}
use Rattle.std.specs.Ordering.{match_ordering}
use Rattle.json.specs.Json as json
use Rattle.json.specs.Value as json_view
use Rattle.json.specs.declared.value.Value.{Value}
use Rattle.serde_json.specs.Data.{Data, null, boolean, number, string, array, object, Members, no_members, member, put}
use Rattle.serde_json.specs.Find.{as_object, get, get_member}
use Rattle.wit_document.specs.Members.{keys_are_among, only, sole, sole_member}
use Rattle.wit_document.specs.View.{data_of, members_data, view, members_view}

abbrev pub Entries : Type 0
Entries = List (Bor (List ℕ) × Value Global)

same_key : (k l : List ℕ) → slice_cmp nat_cmp k l ≡ Equal → k ≡ l
same_key k l e = (bytes_eq-Decides k l).0 (sym (is_eq-slice_cmp k l) ∙ ap is_eq e)

-- ---- keys among others

-- the test of the members' keys
abbrev pub no_key_but : List (Bor (List ℕ)) → Entries → Bool
no_key_but keys es = list_all (λ e. list_any (λ k. bytes_eq k.now e.0.now) keys) es

list_any-now : (k : List ℕ) (keys : List (Bor (List ℕ))) → list_any (λ key. bytes_eq key k) (map (λ key. key.now) keys) ≡ list_any (λ key. bytes_eq key.now k) keys
list_any-now k [] = refl
list_any-now k (key ∷ keys) = rw (list_any-now k keys)

once : (a b : Bool) → a && b ≡ a && (a && b)
once true b = refl
once false b = refl

swapped : (a b c : Bool) → a && (b && c) ≡ b && (a && c)
swapped true b c = refl
swapped false true c = refl
swapped false false c = refl

grouped : (a b c : Bool) → a && (b && c) ≡ (b && a) && c
grouped true true c = refl
grouped true false c = refl
grouped false true c = refl
grouped false false c = refl

module _ (keys : List (List ℕ)) where
  abbrev among : List ℕ → Bool
  among k = list_any (λ key. bytes_eq key k) keys

  keys_are_among-put_at : (o : Ordering) (k l : List ℕ) (d e : Data) (ms : Members) → slice_cmp nat_cmp k l ≡ o → keys_are_among keys (put k d ms) ≡ among k && keys_are_among keys ms
      → keys_are_among keys (match_ordering o (member k d (member l e ms)) (member l d ms) (member l e (put k d ms))) ≡ among k && (among l && keys_are_among keys ms)
  keys_are_among-put_at Less k l d e ms is more = refl
  keys_are_among-put_at Equal k l d e ms is more = rw (same_key k l is) (once (among l) (keys_are_among keys ms))
  keys_are_among-put_at Greater k l d e ms is more = rw more (swapped (among l) (among k) (keys_are_among keys ms))

  keys_are_among-put : (k : List ℕ) (d : Data) (ms : Members) → keys_are_among keys (put k d ms) ≡ among k && keys_are_among keys ms
  keys_are_among-put k d no_members = refl
  keys_are_among-put k d (member l e ms) = keys_are_among-put_at _ k l d e ms refl (keys_are_among-put k d ms)

keys_are_among_at : (keys : List (Bor (List ℕ))) (es : Entries) (found : Members)
    → keys_are_among (map (λ key. key.now) keys) (members_data (json_view.members_view es) found) ≡ no_key_but keys es && keys_are_among (map (λ key. key.now) keys) found
keys_are_among_at keys [] found = refl
keys_are_among_at keys (e ∷ es) found =
    let names = map (λ key. key.now) keys in
    keys_are_among_at keys es (put e.0.now (view e.1) found) ∙ rw (keys_are_among-put names e.0.now (view e.1) found, list_any-now e.0.now keys)
    (grouped (no_key_but keys es) (list_any (λ k. bytes_eq k.now e.0.now) keys) (keys_are_among names found))

or_true : (a : Bool) → a && true ≡ a
or_true true = refl
or_true false = refl

pub only_at : (keys : List (Bor (List ℕ))) (d : Data) (es : Entries) → as_object d ≡ Some (members_view es) → only (map (λ key. key.now) keys) d ≡ (cond (no_key_but keys es) (Some tt) None)
unfolding only
only_at keys d es h = rw (h, keys_are_among_at keys es no_members, or_true (no_key_but keys es))

-- ---- one key

-- the test that all members stand at k
abbrev pub all_at : List ℕ → Entries → Bool
all_at k es = list_all (λ e. bytes_eq e.0.now k) es

abbrev has_some : Members → Bool
has_some no_members = false
has_some (member k d ms) = true

abbrev has_two : Members → Bool
has_two no_members = false
has_two (member k d ms) = has_some ms

in_each : (f : Members → Bool) (o : Ordering) (a b c : Members) → f a ≡ true → f b ≡ true → f c ≡ true → f (match_ordering o a b c) ≡ true
in_each f Less a b c x y z = x
in_each f Equal a b c x y z = y
in_each f Greater a b c x y z = z

has_some-put : (k : List ℕ) (d : Data) (ms : Members) → has_some (put k d ms) ≡ true
has_some-put k d no_members = refl
has_some-put k d (member l e ms) = in_each has_some (slice_cmp nat_cmp k l) _ _ _ refl refl refl

has_two-put : (k : List ℕ) (d : Data) (ms : Members) → has_two ms ≡ true → has_two (put k d ms) ≡ true
has_two-put k d no_members h = absurd (cc)
has_two-put k d (member l e ms) h = in_each has_two (slice_cmp nat_cmp k l) _ _ _ refl h (has_some-put k d ms)

not_sole : (ms : Members) → has_two ms ≡ true → sole ms ≡ None
not_sole no_members h = refl
not_sole (member k d no_members) h = absurd (cc)
not_sole (member k d (member l e ms)) h = refl

-- two members stay two
not_sole-after : (js : json.Members) (found : Members) → has_two found ≡ true → sole (members_data js found) ≡ None
not_sole-after json.no_members found h = not_sole found h
not_sole-after (json.member k j js) found h = not_sole-after js (put k (data_of j) found) (has_two-put k (data_of j) found h)

same_text : (k : List ℕ) → slice_cmp nat_cmp k k ≡ Equal
same_text k = tied_itself nat_list_cmp_total k

put_apart : (k l : List ℕ) (c d : Data) (o : Ordering) → slice_cmp nat_cmp k l ≡ o → bytes_eq k l ≡ false → has_two (match_ordering o (member k c (member l d no_members)) (member l c no_members) (member l d (member k c no_members))) ≡ true
put_apart k l c d Less is apart = refl
put_apart k l c d Equal is apart = let same : is_eq (slice_cmp nat_cmp k l) ≡ true = ap is_eq is in let other = is_eq-slice_cmp k l in absurd (cc)
put_apart k l c d Greater is apart = refl

abbrev last_at : List ℕ → Entries → Data → Members
last_at k es d = members_data (json_view.members_view es) (member k d no_members)

abbrev found_at : List ℕ → Members → Option (List ℕ × Data)
found_at k ms = option_map (λ d. (k, d)) (get_member k ms)

abbrev IsSoleAt : List ℕ → Entries → Data → Type 0
IsSoleAt k es d = sole (last_at k es d) ≡ cond (all_at k es) (found_at k (last_at k es d)) None

sole_by : (k : List ℕ) (e : Bor (List ℕ) × Value Global) (es : Entries) (d : Data) (b : Bool) → bytes_eq e.0.now k ≡ b → ((c : Data) → IsSoleAt k es c) → IsSoleAt k (e ∷ es) d
sole_by k e es d true is more = let same : e.0.now ≡ k = (bytes_eq-Decides e.0.now k).0 is in rw (is, same, same_text k) (more (view e.1))
sole_by k e es d false is more = rw is (not_sole-after (json_view.members_view es) _ (put_apart e.0.now k (view e.1) d _ refl is))

sole_at : (k : List ℕ) (es : Entries) (d : Data) → IsSoleAt k es d
sole_at k [] d = rw (same_text k) refl
sole_at k (e ∷ es) d = sole_by k e es d (bytes_eq e.0.now k) refl (sole_at k es)

get_in : (k : List ℕ) (d : Data) (ms : Members) → as_object d ≡ Some ms → get k d ≡ get_member k ms
get_in k null ms h = absurd (cc)
get_in k (boolean b) ms h = absurd (cc)
get_in k (number n) ms h = absurd (cc)
get_in k (string s) ms h = absurd (cc)
get_in k (array ds) ms h = absurd (cc)
get_in k (object found) ms h = let same : found ≡ ms = cc in ap (get_member k) same

abbrev sole_or_none : Data → List ℕ → Bool → Option (List ℕ × Data)
sole_or_none d k b = cond b (option_map (λ m. (k, m)) (get k d)) None

sole_first : (d : Data) (x : Bor (List ℕ) × Value Global) (es : Entries) → as_object d ≡ Some (members_view (x ∷ es)) → sole_member d ≡ sole_or_none d x.0.now (all_at x.0.now (x ∷ es))
unfolding sole_member
sole_first d x es h =
    let k = x.0.now in
    let here : all_at k (x ∷ es) ≡ all_at k es = rw ((bytes_eq-Decides k k).1 refl) refl in
    ap (option_and_then sole) h ∙ sole_at k es (view x.1) ∙ ap₂ (λ b o. cond b (option_map (λ m. (k, m)) o) None) (sym here) (sym (get_in k d _ h))

-- an object with members has one member exactly where they all stand at the key of the first
pub sole_member_at : (d : Data) (es : Entries) (e : Bor (List ℕ) × Value Global) (b : Bool) → as_object d ≡ Some (members_view es) → slice_get es 0 ≡ Some e → b ≡ all_at e.0.now es
    → sole_member d ≡ cond b (option_map (λ m. (e.0.now, m)) (get e.0.now d)) None
sole_member_at d [] e b h first all = absurd (cc)
sole_member_at d (x ∷ es) e b h first all =
    let same : x ≡ e = cc in
    sole_first d x es h ∙ ap (λ y. sole_or_none d y.0.now (all_at y.0.now (x ∷ es))) same ∙ ap (sole_or_none d e.0.now) (sym all)
