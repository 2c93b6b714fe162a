-- A byte that is written into the cells of a block: what is read there then, and that the other bytes stay.
use Rattle.std.proofs.Common.{◌≡◌, ◌⊎◌, ℕ, zero, suc, ◌+◌, ◌<◌, ◌≤◌, true, ◌&&◌, nat_eq, nat_lt, nat_le, if◌then◌else◌, List, [], ◌∷◌, ◌++◌, filter, Option, None, Some, option_map, refl, sym, ap, ap₂, ◌∙◌, arith}
use Rattle.std.proofs.lemmas.Bool.{and_parts, and_from, cases_eq, cases_lt, cases_order, cond-false, cond-true, eq-eqb, le-leb, le-ltb, leb-true, lt-ltb, ltb-true, ne_eqb}
use mathlib.Core.Logic.{inl, inr}
use Rattle.wrapper_data.specs.Answered.{with_cell}
use Rattle.wrapper_data.specs.Heap.{are_cells}
use Rattle.wrapper_meaning.specs.Cells.{bytes_from}

abbrev Cells : Type 0
Cells = List (ℕ × ℕ)

-- 1. One cell

pub none_read : (cells : Cells) (i : ℕ) → bytes_from cells i 0 ≡ Some []
none_read [] i = refl
none_read (c ∷ cells) i = refl

-- the first cell lies below, at and above the offset
read_above : (c : ℕ × ℕ) (cells : Cells) (i n : ℕ) → c.0 < i → bytes_from (c ∷ cells) i n ≡ bytes_from cells i n
read_above c cells i zero l = sym (none_read cells i)
read_above c cells i (suc n) l = cond-true (nat_lt c.0 i) _ _ (lt-ltb c.0 i l)

read_at : (c : ℕ × ℕ) (cells : Cells) (i n : ℕ) → c.0 ≡ i → bytes_from (c ∷ cells) i (suc n) ≡ option_map (λ bytes. c.1 ∷ bytes) (bytes_from cells (i + 1) n)
read_at c cells i n e = cond-false (nat_lt c.0 i) _ _ (le-ltb c.0 i (omega (arith, e))) ∙ cond-true (nat_eq c.0 i) _ _ (eq-eqb c.0 i e)

read_below : (c : ℕ × ℕ) (cells : Cells) (i n : ℕ) → i < c.0 → bytes_from (c ∷ cells) i (suc n) ≡ None
read_below c cells i n l = cond-false (nat_lt c.0 i) _ _ (le-ltb c.0 i (omega (arith, l))) ∙ cond-false (nat_eq c.0 i) _ _ (ne_eqb c.0 i (λ e. omega (arith, l, e)))

-- behind one first cell
read_same : (c : ℕ × ℕ) (xs ys : Cells) (i n : ℕ) → ((j m : ℕ) → j + m ≤ i + n → bytes_from xs j m ≡ bytes_from ys j m) → bytes_from (c ∷ xs) i n ≡ bytes_from (c ∷ ys) i n
read_same c xs ys i zero same = refl
read_same c xs ys i (suc n) same = by (cases_order c.0 i)
  where
    by : ((c.0 ≡ i) ⊎ ((c.0 < i) ⊎ (i < c.0))) → bytes_from (c ∷ xs) i (suc n) ≡ bytes_from (c ∷ ys) i (suc n)
    by (inl e) = read_at c xs i n e ∙ ap (λ o. option_map (λ bytes. c.1 ∷ bytes) o) (same (i + 1) n (omega arith)) ∙ sym (read_at c ys i n e)
    by (inr (inl l)) = read_above c xs i (suc n) l ∙ same i (suc n) (omega arith) ∙ sym (read_above c ys i (suc n) l)
    by (inr (inr l)) = read_below c xs i n l ∙ sym (read_below c ys i n l)

-- one byte and those behind it
pub read_both : (cells : Cells) (k n x : ℕ) (xs : List ℕ) → bytes_from cells k 1 ≡ Some (x ∷ []) → bytes_from cells (k + 1) n ≡ Some xs → bytes_from cells k (suc n) ≡ Some (x ∷ xs)
read_both [] k n x xs one more = absurd (let e = one in cc)
read_both (c ∷ cells) k n x xs one more =
    elim (cases_order c.0 k) [
      | inl e ↦
          let first : Some (c.1 ∷ []) ≡ Some (x ∷ []) = ap (λ o. option_map (λ bytes. c.1 ∷ bytes) o) (sym (none_read cells (k + 1))) ∙ sym (read_at c cells k 0 e) ∙ one in
          let same : c.1 ≡ x = cc in
          let rest : bytes_from cells (k + 1) n ≡ Some xs = sym (read_above c cells (k + 1) n (omega (arith, e))) ∙ more in
          read_at c cells k n e ∙ ap₂ (λ (y : ℕ) (o : Option (List ℕ)). option_map (λ bytes. y ∷ bytes) o) same rest
      | inr away ↦
          elim away [
            | inl l ↦
                read_above c cells k (suc n) l ∙ read_both cells k n x xs (sym (read_above c cells k 1 l) ∙ one) (sym (read_above c cells (k + 1) n (omega (arith, l))) ∙ more)
            | inr l ↦ absurd (let e : None ≡ Some (x ∷ []) = sym (read_below c cells k 0 l) ∙ one in cc)
          ]
    ]

-- 2. A byte is put among the cells

-- the cells of which one was at that offset, without it
abbrev rest_of : ℕ × ℕ → Cells → ℕ → Cells
rest_of c cells k = if nat_eq c.0 k then cells else c ∷ cells

-- cells in order with a byte at an offset
abbrev pub put : Cells → ℕ → ℕ → Cells
put [] k x = (k, x) ∷ []
put (c ∷ cells) k x = if nat_lt c.0 k then c ∷ put cells k x else (k, x) ∷ rest_of c cells k

put_low : (c : ℕ × ℕ) (cells : Cells) (k x : ℕ) → c.0 < k → put (c ∷ cells) k x ≡ c ∷ put cells k x
put_low c cells k x l = cond-true (nat_lt c.0 k) _ _ (lt-ltb c.0 k l)

put_high : (c : ℕ × ℕ) (cells : Cells) (k x : ℕ) → k ≤ c.0 → put (c ∷ cells) k x ≡ (k, x) ∷ rest_of c cells k
put_high c cells k x l = cond-false (nat_lt c.0 k) _ _ (le-ltb c.0 k l)

rest_read : (c : ℕ × ℕ) (cells : Cells) (k i n : ℕ) → k < i → bytes_from (rest_of c cells k) i n ≡ bytes_from (c ∷ cells) i n
rest_read c cells k i n l = by (cases_eq c.0 k)
  where
    by : (c.0 ≡ k) ⊎ (c.0 ≡ k → ⊥) → bytes_from (rest_of c cells k) i n ≡ bytes_from (c ∷ cells) i n
    by (inl e) = ap (λ cs. bytes_from cs i n) (cond-true (nat_eq c.0 k) cells (c ∷ cells) (eq-eqb c.0 k e)) ∙ sym (read_above c cells i n (omega (arith, l, e)))
    by (inr ne) = ap (λ cs. bytes_from cs i n) (cond-false (nat_eq c.0 k) cells (c ∷ cells) (ne_eqb c.0 k ne))

-- the bytes before it stay, and those behind it
pub put_before : (cells : Cells) (k x i n : ℕ) → i + n ≤ k → bytes_from (put cells k x) i n ≡ bytes_from cells i n
put_before cells k x i zero l = none_read (put cells k x) i ∙ sym (none_read cells i)
put_before [] k x i (suc n) l = read_below (k, x) [] i n (omega (arith, l))
put_before (c ∷ cells) k x i (suc n) l =
    let go = λ (cs : Cells). bytes_from cs i (suc n) in
    elim (cases_lt c.0 k) [
      | inl low ↦ ap go (put_low c cells k x low) ∙ read_same c (put cells k x) cells i (suc n) (λ j m h. put_before cells k x j m (omega (arith, l, h)))
      | inr high ↦ ap go (put_high c cells k x high) ∙ read_below (k, x) (rest_of c cells k) i n (omega (arith, l)) ∙ sym (read_below c cells i n (omega (arith, l, high)))
    ]

pub put_behind : (cells : Cells) (k x i n : ℕ) → k < i → bytes_from (put cells k x) i n ≡ bytes_from cells i n
put_behind [] k x i n l = read_above (k, x) [] i n l
put_behind (c ∷ cells) k x i n l =
    let go = λ (cs : Cells). bytes_from cs i n in
    elim (cases_lt c.0 k) [
      | inl low ↦ ap go (put_low c cells k x low) ∙ read_above c (put cells k x) i n (omega (arith, l, low)) ∙ put_behind cells k x i n l ∙ sym (read_above c cells i n (omega (arith, l, low)))
      | inr high ↦ ap go (put_high c cells k x high) ∙ read_above (k, x) (rest_of c cells k) i n l ∙ rest_read c cells k i n l
    ]

-- it is read there
pub put_here : (cells : Cells) (k x n : ℕ) → bytes_from (put cells k x) k (suc n) ≡ option_map (λ bytes. x ∷ bytes) (bytes_from cells (k + 1) n)
put_here [] k x n = read_at (k, x) [] k n refl
put_here (c ∷ cells) k x n =
    let go = λ (cs : Cells). bytes_from cs k (suc n) in
    let add = λ (o : Option (List ℕ)). option_map (λ bytes. x ∷ bytes) o in
    elim (cases_lt c.0 k) [
      | inl low ↦ ap go (put_low c cells k x low) ∙ read_above c (put cells k x) k (suc n) low ∙ put_here cells k x n ∙ ap add (sym (read_above c cells (k + 1) n (omega (arith, low))))
      | inr high ↦ ap go (put_high c cells k x high) ∙ read_at (k, x) (rest_of c cells k) k n refl ∙ ap add (rest_read c cells k (k + 1) n (omega arith))
    ]

-- 3. The cells stay in order

record InOrder (low size : ℕ) (c : ℕ × ℕ) (cells : Cells) : Type 0 where
  pub above : low ≤ c.0
  pub below : c.0 < size
  pub later : are_cells (c.0 + 1) size cells ≡ true

in_order : (low size : ℕ) (c : ℕ × ℕ) (cells : Cells) → are_cells low size (c ∷ cells) ≡ true → InOrder low size c cells
in_order low size c cells h =
    let outer = and_parts (nat_le low c.0 && nat_lt c.0 size) (are_cells (c.0 + 1) size cells) h in
    let inner = and_parts (nat_le low c.0) (nat_lt c.0 size) outer.0 in
    record { above = leb-true low c.0 inner.0; below = ltb-true c.0 size inner.1; later = outer.1 }

are_in_order : (low size : ℕ) (c : ℕ × ℕ) (cells : Cells) → low ≤ c.0 → c.0 < size → are_cells (c.0 + 1) size cells ≡ true → are_cells low size (c ∷ cells) ≡ true
are_in_order low size c cells l h later = and_from _ _ (and_from _ _ (le-leb low c.0 l) (lt-ltb c.0 size h)) later

rest_in_order : (low size : ℕ) (c : ℕ × ℕ) (cells : Cells) (k : ℕ) → InOrder low size c cells → k ≤ c.0 → (c.0 ≡ k) ⊎ (c.0 ≡ k → ⊥) → are_cells (k + 1) size (rest_of c cells k) ≡ true
rest_in_order low size c cells k is high (inl e) = ap (are_cells (k + 1) size) (cond-true (nat_eq c.0 k) cells (c ∷ cells) (eq-eqb c.0 k e)) ∙ ap (λ j. are_cells (j + 1) size cells) (sym e) ∙ is.later
rest_in_order low size c cells k is high (inr ne) =
    ap (are_cells (k + 1) size) (cond-false (nat_eq c.0 k) cells (c ∷ cells) (ne_eqb c.0 k ne)) ∙ are_in_order (k + 1) size c cells (omega (arith, high, ne)) is.below is.later

pub put_in_order : (cells : Cells) (low size k x : ℕ) → are_cells low size cells ≡ true → low ≤ k → k < size → are_cells low size (put cells k x) ≡ true
put_in_order [] low size k x h l room = are_in_order low size (k, x) [] l room refl
put_in_order (c ∷ cells) low size k x h l room =
    let is = in_order low size c cells h in
    elim (cases_lt c.0 k) [
      | inl l' ↦ ap (are_cells low size) (put_low c cells k x l') ∙ are_in_order low size c (put cells k x) is.above is.below (put_in_order cells (c.0 + 1) size k x is.later (omega (arith, l')) room)
      | inr high ↦ ap (are_cells low size) (put_high c cells k x high) ∙ are_in_order low size (k, x) (rest_of c cells k) l room (rest_in_order low size c cells k is high (cases_eq c.0 k))
    ]

-- 4. It is what `with_cell` does to cells in order

none_below : (cells : Cells) (low size k : ℕ) → are_cells low size cells ≡ true → k ≤ low → filter (λ cell. nat_lt cell.0 k) cells ≡ []
none_below [] low size k h l = refl
none_below (c ∷ cells) low size k h l =
    let is = in_order low size c cells h in
    cond-false (nat_lt c.0 k) _ _ (le-ltb c.0 k (omega arith)) ∙ none_below cells (c.0 + 1) size k is.later (omega arith)

all_above : (cells : Cells) (low size k : ℕ) → are_cells low size cells ≡ true → k < low → filter (λ cell. nat_lt k cell.0) cells ≡ cells
all_above [] low size k h l = refl
all_above (c ∷ cells) low size k h l =
    let is = in_order low size c cells h in
    cond-true (nat_lt k c.0) _ _ (lt-ltb k c.0 (omega arith)) ∙ ap (λ cs. c ∷ cs) (all_above cells (c.0 + 1) size k is.later (omega arith))

abbrev below : ℕ → Cells → Cells
below k cells = filter (λ cell. nat_lt cell.0 k) cells

abbrev behind : ℕ → Cells → Cells
behind k cells = filter (λ cell. nat_lt k cell.0) cells

abbrev around : ℕ → ℕ → Cells → Cells → Cells
around k x front back = front ++ (k, x) ∷ back

-- where the first cell is not below the offset, none is
none_before : (c : ℕ × ℕ) (cells : Cells) (low size k : ℕ) → InOrder low size c cells → k ≤ c.0 → below k (c ∷ cells) ≡ []
none_before c cells low size k is l = cond-false (nat_lt c.0 k) _ _ (le-ltb c.0 k l) ∙ none_below cells (c.0 + 1) size k is.later (omega (arith, l))

rest_behind : (c : ℕ × ℕ) (cells : Cells) (low size k : ℕ) → InOrder low size c cells → k ≤ c.0 → (c.0 ≡ k) ⊎ (c.0 ≡ k → ⊥) → behind k (c ∷ cells) ≡ rest_of c cells k
rest_behind c cells low size k is l (inl e) =
    cond-false (nat_lt k c.0) _ _ (le-ltb k c.0 (omega (arith, e))) ∙ all_above cells (c.0 + 1) size k is.later (omega (arith, e)) ∙ sym (cond-true (nat_eq c.0 k) cells (c ∷ cells) (eq-eqb c.0 k e))
rest_behind c cells low size k is l (inr ne) =
    cond-true (nat_lt k c.0) _ _ (lt-ltb k c.0 (omega (arith, l, ne))) ∙ ap (λ cs. c ∷ cs) (all_above cells (c.0 + 1) size k is.later (omega (arith, l))) ∙ sym (cond-false (nat_eq c.0 k) cells (c ∷ cells) (ne_eqb c.0 k ne))

pub with_cell_is_put : (cells : Cells) (low size k x : ℕ) → are_cells low size cells ≡ true → with_cell cells k x ≡ put cells k x
with_cell_is_put [] low size k x h = refl
with_cell_is_put (c ∷ cells) low size k x h =
    let is = in_order low size c cells h in
    elim (cases_lt c.0 k) [
      | inl l ↦
          let front : below k (c ∷ cells) ≡ c ∷ below k cells = cond-true (nat_lt c.0 k) _ _ (lt-ltb c.0 k l) in
          let back : behind k (c ∷ cells) ≡ behind k cells = cond-false (nat_lt k c.0) _ _ (le-ltb k c.0 (omega (arith, l))) in
          ap₂ (around k x) front back ∙ ap (λ cs. c ∷ cs) (with_cell_is_put cells (c.0 + 1) size k x is.later) ∙ sym (put_low c cells k x l)
      | inr l ↦ ap₂ (around k x) (none_before c cells low size k is l) (rest_behind c cells low size k is l (cases_eq c.0 k)) ∙ sym (put_high c cells k x l)
    ]
