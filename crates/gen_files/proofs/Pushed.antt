-- What pushing bytes under a name does to the entries: where they go, what each name then holds, and that the order stays.
use Rattle.std.proofs.Common.{◌≡◌, ◌≢◌, ℕ, zero, suc, ◌+◌, Bool, true, false, cond, List, [], ◌∷◌, ◌++◌, length, map, get_or, slice_set, ◌<◌, ◌≤◌, None, Some, Result, Ok, Err, OnOk, OnErr, refl, sym, ap, ◌∙◌, subst, arith}
use Rattle.std.specs.List.{insert, find, AllByRecursion}
use Rattle.std.specs.List.Sorted.{IsStrictlySortedBy}
use Rattle.std.specs.Option.{option_map, unwrap_or}
use Rattle.std.specs.Ordering.{nat_cmp, match_ordering, ordering_reverse, is_lt, is_eq}
use Rattle.std.specs.declared.cmp.Ordering.{Ordering}
use Rattle.std.specs.declared.cmp.Ordering.TheVariants.{Less, Equal, Greater}
use Rattle.std.specs.Cmp.Lexicographic.{slice_cmp}
use Rattle.std.specs.Str.{bytes_eq}
use Rattle.std.proofs.lemmas.Bool.{false≢true}
use Rattle.std.proofs.lemmas.List.Sums.{prefix_len-le-length}
use Rattle.std.proofs.lemmas.Cmp.{nat_list_cmp_total}
use Rattle.std.proofs.lemmas.Map.Text.{is_eq-slice_cmp}
use Rattle.std.proofs.lemmas.Slice.Eq.{bytes_eq-Decides}
use Rattle.wit_model.specs.Bytes.{Bytes}
use Rattle.gen_files.specs.Entries.{Entry, IsAscending, entry_of, with_pushed}
use Rattle.gen_files.specs.Places.{is_before, place_of, has_name_at, with_bytes_at}

abbrev compared : Bytes → Bytes → Ordering
compared = slice_cmp nat_cmp

with_pushed-step : (e : Entry) (es : List Entry) (name bytes : Bytes) (o : Ordering) → compared e.0 name ≡ o → with_pushed (e ∷ es) name bytes ≡ match_ordering o (e ∷ with_pushed es name bytes) ((e.0, e.1 ++ bytes) ∷ es) ((name, bytes) ∷ e ∷ es)
unfolding with_pushed
with_pushed-step e es name bytes o h =
    ap (λ (r : Ordering). match_ordering r (e ∷ with_pushed es name bytes) ((e.0, e.1 ++ bytes) ∷ es) ((name, bytes) ∷ e ∷ es)) h

one_more : (n : ℕ) → 1 + n ≡ suc n
one_more n = omega arith

place_of-step : (e : Entry) (es : List Entry) (name : Bytes) (o : Ordering) → compared e.0 name ≡ o → place_of (e ∷ es) name ≡ cond (is_lt o) (suc (place_of es name)) 0
unfolding place_of
place_of-step e es name o h =
    ap (λ (r : Ordering). cond (is_lt r) (1 + place_of es name) 0) h ∙ ap (λ (n : ℕ). cond (is_lt o) n 0) (one_more (place_of es name))

same_name : (a b : Bytes) (o : Ordering) → compared a b ≡ o → bytes_eq a b ≡ is_eq o
same_name a b o h = sym (is_eq-slice_cmp a b) ∙ ap (λ (r : Ordering). is_eq r) h

-- bytes at a place where the name stands

at_name_by : (e : Entry) (es : List Entry) (name bytes : Bytes) (o : Ordering) → compared e.0 name ≡ o → (has_name_at es (place_of es name) name ≡ true → with_bytes_at es (place_of es name) bytes ≡ with_pushed es name bytes) → has_name_at (e ∷ es) (place_of (e ∷ es) name) name ≡ true → with_bytes_at (e ∷ es) (place_of (e ∷ es) name) bytes ≡ with_pushed (e ∷ es) name bytes
unfolding has_name_at with_bytes_at
at_name_by e es name bytes Less h rest =
    let P : ℕ → Type 0 = λ n. has_name_at (e ∷ es) n name ≡ true → with_bytes_at (e ∷ es) n bytes ≡ with_pushed (e ∷ es) name bytes in
    subst P (sym (place_of-step e es name Less h)) (λ k. ap (λ xs. e ∷ xs) (rest k) ∙ sym (with_pushed-step e es name bytes Less h))
at_name_by e es name bytes Equal h rest =
    let P : ℕ → Type 0 = λ n. has_name_at (e ∷ es) n name ≡ true → with_bytes_at (e ∷ es) n bytes ≡ with_pushed (e ∷ es) name bytes in
    subst P (sym (place_of-step e es name Equal h)) (λ k. sym (with_pushed-step e es name bytes Equal h))
at_name_by e es name bytes Greater h rest =
    let P : ℕ → Type 0 = λ n. has_name_at (e ∷ es) n name ≡ true → with_bytes_at (e ∷ es) n bytes ≡ with_pushed (e ∷ es) name bytes in
    subst P (sym (place_of-step e es name Greater h)) (λ k. absurd (false≢true (sym (same_name e.0 name Greater h) ∙ k)))

pub with_bytes_at-found : (es : List Entry) (name bytes : Bytes) → has_name_at es (place_of es name) name ≡ true → with_bytes_at es (place_of es name) bytes ≡ with_pushed es name bytes
unfolding has_name_at
with_bytes_at-found [] name bytes h = absurd (false≢true h)
with_bytes_at-found (e ∷ es) name bytes h =
    at_name_by e es name bytes (compared e.0 name) refl (with_bytes_at-found es name bytes) h

-- a new entry at a place where the name does not stand

at_gap_by : (e : Entry) (es : List Entry) (name bytes : Bytes) (o : Ordering) → compared e.0 name ≡ o → (has_name_at es (place_of es name) name ≡ false → insert es (place_of es name) (name, bytes) ≡ with_pushed es name bytes) → has_name_at (e ∷ es) (place_of (e ∷ es) name) name ≡ false → insert (e ∷ es) (place_of (e ∷ es) name) (name, bytes) ≡ with_pushed (e ∷ es) name bytes
unfolding has_name_at
at_gap_by e es name bytes Less h rest =
    let P : ℕ → Type 0 = λ n. has_name_at (e ∷ es) n name ≡ false → insert (e ∷ es) n (name, bytes) ≡ with_pushed (e ∷ es) name bytes in
    subst P (sym (place_of-step e es name Less h)) (λ k. ap (λ xs. e ∷ xs) (rest k) ∙ sym (with_pushed-step e es name bytes Less h))
at_gap_by e es name bytes Equal h rest =
    let P : ℕ → Type 0 = λ n. has_name_at (e ∷ es) n name ≡ false → insert (e ∷ es) n (name, bytes) ≡ with_pushed (e ∷ es) name bytes in
    subst P (sym (place_of-step e es name Equal h)) (λ k. absurd (false≢true (sym k ∙ same_name e.0 name Equal h)))
at_gap_by e es name bytes Greater h rest =
    let P : ℕ → Type 0 = λ n. has_name_at (e ∷ es) n name ≡ false → insert (e ∷ es) n (name, bytes) ≡ with_pushed (e ∷ es) name bytes in
    subst P (sym (place_of-step e es name Greater h)) (λ k. sym (with_pushed-step e es name bytes Greater h))

pub insert-missing : (es : List Entry) (name bytes : Bytes) → has_name_at es (place_of es name) name ≡ false → insert es (place_of es name) (name, bytes) ≡ with_pushed es name bytes
unfolding place_of with_pushed
insert-missing [] name bytes h = refl
insert-missing (e ∷ es) name bytes h =
    at_gap_by e es name bytes (compared e.0 name) refl (insert-missing es name bytes) h

-- the same at a place that is known by an equation

pub pushed_found : (es : List Entry) (at : ℕ) (name bytes : Bytes) → at ≡ place_of es name → has_name_at es at name ≡ true → with_bytes_at es at bytes ≡ with_pushed es name bytes
pushed_found es at name bytes e h =
    let P : ℕ → Type 0 = λ n. has_name_at es n name ≡ true → with_bytes_at es n bytes ≡ with_pushed es name bytes in
    subst P (sym e) (with_bytes_at-found es name bytes) h

pub pushed_missing : (es : List Entry) (at : ℕ) (name bytes : Bytes) → at ≡ place_of es name → has_name_at es at name ≡ false → insert es at (name, bytes) ≡ with_pushed es name bytes
pushed_missing es at name bytes e h =
    let P : ℕ → Type 0 = λ n. has_name_at es n name ≡ false → insert es n (name, bytes) ≡ with_pushed es name bytes in
    subst P (sym e) (insert-missing es name bytes) h

pub place_of-le-length : (es : List Entry) (name : Bytes) → place_of es name ≤ length es
unfolding place_of
place_of-le-length es name = prefix_len-le-length (is_before name) es

pub has_name_at-within : (es : List Entry) (at : ℕ) (name : Bytes) → has_name_at es at name ≡ true → at < length es
unfolding has_name_at
has_name_at-within [] at name h = absurd (false≢true h)
has_name_at-within (e ∷ es) zero name h = omega arith
has_name_at-within (e ∷ es) (suc at) name h = omega (arith, has_name_at-within es at name h)

-- an entry replaced by itself with more bytes
pub slice_set-with_bytes : (es : List Entry) (at : ℕ) (e : Entry) (bytes : Bytes) → at < length es → e ≡ get_or es at e → slice_set es at (e.0, e.1 ++ bytes) ≡ with_bytes_at es at bytes
unfolding with_bytes_at
slice_set-with_bytes [] at e bytes within h = absurd (omega arith)
slice_set-with_bytes (x ∷ es) zero e bytes within h = ap (λ (y : Entry). (y.0, y.1 ++ bytes) ∷ es) h
slice_set-with_bytes (x ∷ es) (suc at) e bytes within h =
    ap (λ ys. x ∷ ys) (slice_set-with_bytes es at e bytes (omega arith) h)

-- what a name holds

entry_of-step : (e : Entry) (es : List Entry) (name : Bytes) (b : Bool) → bytes_eq e.0 name ≡ b → entry_of (e ∷ es) name ≡ cond b (Some e.1) (entry_of es name)
entry_of-step e es name true h = ap (λ (t : Bool). option_map (λ (x : Entry). x.1) (cond t (Some e) (find (λ (x : Entry). bytes_eq x.0 name) es))) h
entry_of-step e es name false h = ap (λ (t : Bool). option_map (λ (x : Entry). x.1) (cond t (Some e) (find (λ (x : Entry). bytes_eq x.0 name) es))) h

reversed : (a b : Bytes) (o : Ordering) → compared a b ≡ o → compared b a ≡ ordering_reverse o
reversed a b o h = nat_list_cmp_total.antisymm b a ∙ ap ordering_reverse h

-- a name that comes before all is absent
entry_of-before : (es : List Entry) (name : Bytes) → AllByRecursion (λ y. compared name y ≡ Less) (map (λ (e : Entry). e.0) es) → entry_of es name ≡ None
entry_of-before [] name h = refl
entry_of-before (e ∷ es) name h =
    entry_of-step e es name false (same_name e.0 name Greater (reversed name e.0 Less h.0)) ∙ entry_of-before es name h.1

later_still : (first second : Bytes) (ys : List Bytes) → compared first second ≡ Less → AllByRecursion (λ y. compared second y ≡ Less) ys → AllByRecursion (λ y. compared first y ≡ Less) ys
later_still first second [] h all = tt
later_still first second (y ∷ ys) h all =
    (nat_list_cmp_total.trans first second y h all.0, later_still first second ys h all.1)

after_gap : (e : Entry) (es : List Entry) (name : Bytes) → IsAscending (e ∷ es) → compared e.0 name ≡ Greater → AllByRecursion (λ y. compared name y ≡ Less) (map (λ (x : Entry). x.0) (e ∷ es))
unfolding IsStrictlySortedBy
after_gap e es name sorted h =
    let first = reversed e.0 name Greater h in (first, later_still name e.0 _ first sorted.0)

pushed_by : (e : Entry) (es : List Entry) (name bytes : Bytes) (o : Ordering) → compared e.0 name ≡ o → IsAscending (e ∷ es) → entry_of (with_pushed es name bytes) name ≡ Some (unwrap_or (entry_of es name) [] ++ bytes) → entry_of (with_pushed (e ∷ es) name bytes) name ≡ Some (unwrap_or (entry_of (e ∷ es) name) [] ++ bytes)
pushed_by e es name bytes Less h sorted rest =
    let other = same_name e.0 name Less h in
    ap (λ xs. entry_of xs name) (with_pushed-step e es name bytes Less h) ∙ entry_of-step e _ name false other ∙ rest ∙ sym (ap (λ o. Some (unwrap_or o [] ++ bytes)) (entry_of-step e es name false other))
pushed_by e es name bytes Equal h sorted rest =
    let same = same_name e.0 name Equal h in
    ap (λ xs. entry_of xs name) (with_pushed-step e es name bytes Equal h) ∙ entry_of-step (e.0, e.1 ++ bytes) es name true same ∙ sym (ap (λ o. Some (unwrap_or o [] ++ bytes)) (entry_of-step e es name true same))
pushed_by e es name bytes Greater h sorted rest =
    let itself : bytes_eq name name ≡ true = (bytes_eq-Decides name name).1 refl in
    let absent = entry_of-before (e ∷ es) name (after_gap e es name sorted h) in
    ap (λ xs. entry_of xs name) (with_pushed-step e es name bytes Greater h) ∙ entry_of-step (name, bytes) (e ∷ es) name true itself ∙ sym (ap (λ o. Some (unwrap_or o [] ++ bytes)) absent)

-- the name's bytes are those that it had, and then the new ones
pub entry_of-with_pushed : (es : List Entry) (name bytes : Bytes) → IsAscending es → entry_of (with_pushed es name bytes) name ≡ Some (unwrap_or (entry_of es name) [] ++ bytes)
unfolding with_pushed IsStrictlySortedBy
entry_of-with_pushed [] name bytes sorted = entry_of-step (name, bytes) [] name true ((bytes_eq-Decides name name).1 refl)
entry_of-with_pushed (e ∷ es) name bytes sorted =
    pushed_by e es name bytes (compared e.0 name) refl sorted (entry_of-with_pushed es name bytes sorted.1)

apart : (a b : Bytes) (r : Bool) → bytes_eq a b ≡ r → b ≢ a → r ≡ false
apart a b true h differ = absurd (differ (sym ((bytes_eq-Decides a b).0 h)))
apart a b false h differ = refl

entry_of-tail : (e : Entry) (xs ys : List Entry) (name : Bytes) → entry_of xs name ≡ entry_of ys name → entry_of (e ∷ xs) name ≡ entry_of (e ∷ ys) name
entry_of-tail e xs ys name h =
    entry_of-step e xs name _ refl ∙ ap (λ o. cond (bytes_eq e.0 name) (Some e.1) o) h ∙ sym (entry_of-step e ys name _ refl)

others_by : (e : Entry) (es : List Entry) (name bytes other : Bytes) (o : Ordering) → compared e.0 name ≡ o → other ≢ name → entry_of (with_pushed es name bytes) other ≡ entry_of es other → entry_of (with_pushed (e ∷ es) name bytes) other ≡ entry_of (e ∷ es) other
others_by e es name bytes other Less h differ rest =
    ap (λ xs. entry_of xs other) (with_pushed-step e es name bytes Less h) ∙ entry_of-tail e _ es other rest
others_by e es name bytes other Equal h differ rest =
    let same : e.0 ≡ name = (bytes_eq-Decides e.0 name).0 (same_name e.0 name Equal h) in
    let no : bytes_eq e.0 other ≡ false = subst (λ (n : Bytes). bytes_eq n other ≡ false) (sym same) (apart name other _ refl differ) in
    ap (λ xs. entry_of xs other) (with_pushed-step e es name bytes Equal h) ∙ entry_of-step (e.0, e.1 ++ bytes) es other false no ∙ sym (entry_of-step e es other false no)
others_by e es name bytes other Greater h differ rest =
    ap (λ xs. entry_of xs other) (with_pushed-step e es name bytes Greater h) ∙ entry_of-step (name, bytes) (e ∷ es) other false (apart name other _ refl differ)

-- every other name's bytes are what they were
pub entry_of-with_pushed_other : (es : List Entry) (name bytes other : Bytes) → other ≢ name → entry_of (with_pushed es name bytes) other ≡ entry_of es other
unfolding with_pushed
entry_of-with_pushed_other [] name bytes other differ = entry_of-step (name, bytes) [] other false (apart name other _ refl differ)
entry_of-with_pushed_other (e ∷ es) name bytes other differ =
    others_by e es name bytes other (compared e.0 name) refl differ (entry_of-with_pushed_other es name bytes other differ)

-- the order stays

all_by : (P : Bytes → Type 0) (e : Entry) (es : List Entry) (name bytes : Bytes) (o : Ordering) → compared e.0 name ≡ o → P name → AllByRecursion P (map (λ (x : Entry). x.0) (e ∷ es)) → AllByRecursion P (map (λ (x : Entry). x.0) (with_pushed es name bytes)) → AllByRecursion P (map (λ (x : Entry). x.0) (with_pushed (e ∷ es) name bytes))
all_by P e es name bytes Less h new all rest =
    subst (λ (xs : List Entry). AllByRecursion P (map (λ (x : Entry). x.0) xs)) (sym (with_pushed-step e es name bytes Less h)) (all.0, rest)
all_by P e es name bytes Equal h new all rest =
    subst (λ (xs : List Entry). AllByRecursion P (map (λ (x : Entry). x.0) xs)) (sym (with_pushed-step e es name bytes Equal h)) all
all_by P e es name bytes Greater h new all rest =
    subst (λ (xs : List Entry). AllByRecursion P (map (λ (x : Entry). x.0) xs)) (sym (with_pushed-step e es name bytes Greater h)) (new, all)

all_pushed : (P : Bytes → Type 0) (es : List Entry) (name bytes : Bytes) → P name → AllByRecursion P (map (λ (x : Entry). x.0) es) → AllByRecursion P (map (λ (x : Entry). x.0) (with_pushed es name bytes))
unfolding with_pushed
all_pushed P [] name bytes new all = (new, tt)
all_pushed P (e ∷ es) name bytes new all =
    all_by P e es name bytes (compared e.0 name) refl new all (all_pushed P es name bytes new all.1)

ascending_by : (e : Entry) (es : List Entry) (name bytes : Bytes) (o : Ordering) → compared e.0 name ≡ o → IsAscending (e ∷ es) → IsAscending (with_pushed es name bytes) → IsAscending (with_pushed (e ∷ es) name bytes)
unfolding IsStrictlySortedBy
ascending_by e es name bytes Less h sorted rest =
    subst IsAscending (sym (with_pushed-step e es name bytes Less h)) (all_pushed (λ y. compared e.0 y ≡ Less) es name bytes h sorted.0, rest)
ascending_by e es name bytes Equal h sorted rest =
    subst IsAscending (sym (with_pushed-step e es name bytes Equal h)) sorted
ascending_by e es name bytes Greater h sorted rest =
    subst IsAscending (sym (with_pushed-step e es name bytes Greater h)) (after_gap e es name sorted h, sorted)

pub IsAscending-with_pushed : (es : List Entry) (name bytes : Bytes) → IsAscending es → IsAscending (with_pushed es name bytes)
unfolding with_pushed IsStrictlySortedBy
IsAscending-with_pushed [] name bytes sorted = (tt, tt)
IsAscending-with_pushed (e ∷ es) name bytes sorted =
    ascending_by e es name bytes (compared e.0 name) refl sorted (IsAscending-with_pushed es name bytes sorted.1)

-- the same of a call that pushed, or left the entries as they were

pub IsAscending-pushed : {T E : Type 0} (r : Result T E) (old new : List Entry) (name bytes : Bytes) → IsAscending old → OnOk r (new ≡ with_pushed old name bytes) → OnErr r (new ≡ old) → IsAscending new
IsAscending-pushed (Ok _) old new name bytes sorted ok err = subst IsAscending (sym ok) (IsAscending-with_pushed old name bytes sorted)
IsAscending-pushed (Err _) old new name bytes sorted ok err = subst IsAscending (sym err) sorted

pub entry_of-pushed : {T E : Type 0} (r : Result T E) (old seen new : List Entry) (name bytes : Bytes) → old ≡ seen → IsAscending old → OnOk r (new ≡ with_pushed old name bytes) → OnOk r (entry_of new name ≡ Some (unwrap_or (entry_of seen name) [] ++ bytes))
entry_of-pushed (Ok _) old seen new name bytes same sorted ok =
    ap (λ (xs : List Entry). entry_of xs name) ok ∙ entry_of-with_pushed old name bytes sorted ∙ ap (λ (xs : List Entry). Some (unwrap_or (entry_of xs name) [] ++ bytes)) same
entry_of-pushed (Err _) old seen new name bytes same sorted ok = tt

pub entry_of-pushed_other : {T E : Type 0} (r : Result T E) (old seen new : List Entry) (name bytes : Bytes) → old ≡ seen → OnOk r (new ≡ with_pushed old name bytes) → OnOk r ((other : Bytes) → other ≢ name → entry_of new other ≡ entry_of seen other)
entry_of-pushed_other (Ok _) old seen new name bytes same ok = λ other differ.
    ap (λ (xs : List Entry). entry_of xs other) ok ∙ entry_of-with_pushed_other old name bytes other differ ∙ ap (λ (xs : List Entry). entry_of xs other) same
entry_of-pushed_other (Err _) old seen new name bytes same ok = tt

-- the steps of a push

pub with_bytes_at-written : {T E : Type 0} (r : Result T E) (es : List Entry) (at : ℕ) (e : Entry) (contents bytes : Bytes) → at < length es → e ≡ get_or es at e → OnOk r (contents ≡ e.1 ++ bytes) → OnOk r (slice_set es at (e.0, contents) ≡ with_bytes_at es at bytes)
with_bytes_at-written (Ok _) es at e contents bytes within is ok =
    ap (λ (xs : Bytes). slice_set es at (e.0, xs)) ok ∙ slice_set-with_bytes es at e bytes within is
with_bytes_at-written (Err _) es at e contents bytes within is ok = tt

pub with_pushed-found : {T E : Type 0} (r : Result T E) (es new : List Entry) (at : ℕ) (name bytes : Bytes) → at ≡ place_of es name → has_name_at es at name ≡ true → OnOk r (new ≡ with_bytes_at es at bytes) → OnOk r (new ≡ with_pushed es name bytes)
with_pushed-found (Ok _) es new at name bytes place found ok = ok ∙ pushed_found es at name bytes place found
with_pushed-found (Err _) es new at name bytes place found ok = tt
