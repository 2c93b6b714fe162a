-- Which texts are identifiers that end with a number, and how identifiers are made of parts.
use Rattle.std.proofs.Common.{◌≡◌, ℕ, zero, suc, ◌+◌, ◌/◌, ◌%◌, Bool, true, false, not, ◌&&◌, List, [], ◌∷◌, ◌++◌, refl, sym, ap, ◌∙◌, arith, eqb, append-nil, append_assoc}
use Rattle.std.specs.Prelude.{codes, decimal}
use Rattle.std.specs.Char.{is_ascii_digit}
use Rattle.std.specs.Fmt.{digit_glyph, digits, digits_onto}
use Rattle.std.specs.List.{list_all, list_any}
use Rattle.std.specs.Str.{bytes_eq}
use Rattle.std.proofs.lemmas.Bool.{agree_below_at, and_from, and_parts, both_ways, cond_both, false_from_ne_true, not-true, not_from_false, or_from, or_left, or_right}
use Rattle.std.proofs.lemmas.List.Folds.{list_all-append}
use Rattle.std.proofs.lemmas.Slice.Eq.{bytes_eq-Decides}
use Rattle.wit_model.specs.Bytes.{Bytes}
use Rattle.rust_tree.specs.Ident.{escaped_words, has_ident_form, is_escaped, is_ident, may_begin, may_follow}
use Rattle.func_gen.specs.PartForms.{names_from, part_name}
use Rattle.func_gen.specs.RecordForms.{locals_for}
use Rattle.func_gen.specs.Scope.{part_mark, with_number}

-- numbers

abbrev has_digit : Bytes → Bool
has_digit t = list_any is_ascii_digit t

digit-last : (n : ℕ) → is_ascii_digit (digit_glyph false (n % 10)) ≡ true
digit-last n = agree_below_at (λ d. is_ascii_digit (digit_glyph false d)) (λ _. true) 10 (n % 10) refl (omega arith)

digits-follow : (k n : ℕ) (acc : Bytes) → list_all may_follow acc ≡ true → list_all may_follow (digits_onto k 10 false n acc) ≡ true
digits-follow zero n acc h = h
digits-follow (suc k) n acc h =
    cond_both (eqb (n / 10) 0) (digit_glyph false (n % 10) ∷ acc) (digits_onto k 10 false (n / 10) (digit_glyph false (n % 10) ∷ acc)) (λ ds. list_all may_follow ds ≡ true)
    (λ _. more) (λ _. digits-follow k (n / 10) (digit_glyph false (n % 10) ∷ acc) more)
  where
    more : list_all may_follow (digit_glyph false (n % 10) ∷ acc) ≡ true
    more = and_from (may_follow (digit_glyph false (n % 10))) (list_all may_follow acc) (or_right (may_begin (digit_glyph false (n % 10))) (is_ascii_digit (digit_glyph false (n % 10))) (digit-last n)) h

digits-kept : (k n : ℕ) (acc : Bytes) → has_digit acc ≡ true → has_digit (digits_onto k 10 false n acc) ≡ true
digits-kept zero n acc h = h
digits-kept (suc k) n acc h =
    let more : has_digit (digit_glyph false (n % 10) ∷ acc) ≡ true = or_right (is_ascii_digit (digit_glyph false (n % 10))) (has_digit acc) h in
    cond_both (eqb (n / 10) 0) (digit_glyph false (n % 10) ∷ acc) (digits_onto k 10 false (n / 10) (digit_glyph false (n % 10) ∷ acc)) (λ ds. has_digit ds ≡ true)
    (λ _. more) (λ _. digits-kept k (n / 10) (digit_glyph false (n % 10) ∷ acc) more)

digits-some : (k n : ℕ) (acc : Bytes) → has_digit (digits_onto (suc k) 10 false n acc) ≡ true
digits-some k n acc =
    let more : has_digit (digit_glyph false (n % 10) ∷ acc) ≡ true = or_left (is_ascii_digit (digit_glyph false (n % 10))) (has_digit acc) (digit-last n) in
    cond_both (eqb (n / 10) 0) (digit_glyph false (n % 10) ∷ acc) (digits_onto k 10 false (n / 10) (digit_glyph false (n % 10) ∷ acc)) (λ ds. has_digit ds ≡ true)
    (λ _. more) (λ _. digits-kept k (n / 10) (digit_glyph false (n % 10) ∷ acc) more)

decimal-follows : (n : ℕ) → list_all may_follow (decimal n) ≡ true
unfolding digits
decimal-follows n = digits-follow 64 n [] refl

decimal-some : (n : ℕ) → has_digit (decimal n) ≡ true
unfolding digits
decimal-some n = digits-some 63 n []

-- a text with a digit is none of the words

pub unlike : (a b : Bytes) → (a ≡ b → ⊥) → bytes_eq a b ≡ false
unlike a b n = false_from_ne_true (bytes_eq a b) (λ e. n ((bytes_eq-Decides a b).0 e))

digits-differ : (a b : Bytes) → has_digit a ≡ false → has_digit b ≡ true → a ≡ b → ⊥
digits-differ a b none some e = both_ways (has_digit b) (ap has_digit (sym e) ∙ none) some

no-word : (words : List Bytes) (t : Bytes) → list_all (λ w. not (has_digit w)) words ≡ true → has_digit t ≡ true → list_any (λ w. bytes_eq w t) words ≡ false
no-word [] t plain some = refl
no-word (w ∷ words) t plain some =
    let parts = and_parts (not (has_digit w)) (list_all (λ w. not (has_digit w)) words) plain in
    or_from (bytes_eq w t) (list_any (λ w. bytes_eq w t) words) (unlike w t (digits-differ w t (not-true (has_digit w) parts.0) some)) (no-word words t parts.1 some)

words-plain : list_all (λ w. not (has_digit w)) escaped_words ≡ true
unfolding escaped_words
words-plain = refl

any-right : (xs ys : Bytes) → has_digit ys ≡ true → has_digit (xs ++ ys) ≡ true
any-right [] ys h = h
any-right (x ∷ xs) ys h = or_right (is_ascii_digit x) (has_digit (xs ++ ys)) (any-right xs ys h)

form-append : (base ds : Bytes) → has_ident_form base ≡ true → list_all may_follow ds ≡ true → has_ident_form (base ++ ds) ≡ true
form-append [] ds h f = absurd (cc)
form-append (c ∷ cs) ds h f =
    let parts = and_parts (may_begin c) (list_all may_follow cs) h in
    and_from (may_begin c) (list_all may_follow (cs ++ ds)) parts.0 (list_all-append may_follow cs ds ∙ and_from (list_all may_follow cs) (list_all may_follow ds) parts.1 f)

-- a text with a number behind it
pub numbered_ident : (base : Bytes) (n : ℕ) → has_ident_form base ≡ true → is_ident (base ++ decimal n) ≡ true
numbered_ident base n form =
    let t : Bytes = base ++ decimal n in
    let some : has_digit t ≡ true = any-right base (decimal n) (decimal-some n) in
    let fits : has_ident_form t ≡ true = form-append base (decimal n) form (decimal-follows n) in
    let word : not (is_escaped t) ≡ true = not_from_false (is_escaped t) (no-word escaped_words t words-plain some) in
    let under : not (bytes_eq t (codes "_")) ≡ true = not_from_false (bytes_eq t (codes "_")) (unlike t (codes "_") (λ e. digits-differ (codes "_") t refl some (sym e))) in
    let own : not (bytes_eq t (codes "Self")) ≡ true = not_from_false (bytes_eq t (codes "Self")) (unlike t (codes "Self") (λ e. digits-differ (codes "Self") t refl some (sym e))) in
    and_from (has_ident_form t && not (is_escaped t) && not (bytes_eq t (codes "_"))) (not (bytes_eq t (codes "Self")))
    (and_from (has_ident_form t && not (is_escaped t)) (not (bytes_eq t (codes "_"))) (and_from (has_ident_form t) (not (is_escaped t)) fits word) under) own

-- names of locals

-- an identifier has the form of one
pub ident_form : (t : Bytes) → is_ident t ≡ true → has_ident_form t ≡ true
ident_form t h = (and_parts (has_ident_form t) (not (is_escaped t)) (and_parts (has_ident_form t && not (is_escaped t)) (not (bytes_eq t (codes "_"))) (and_parts _ (not (bytes_eq t (codes "Self"))) h).0).0).0

pub local_ident : (prefix : Bytes) (t : ℕ) → has_ident_form prefix ≡ true → is_ident (with_number prefix t) ≡ true
local_ident prefix t form = ap is_ident (append-nil (prefix ++ decimal t)) ∙ numbered_ident prefix t form

mark-follows : list_all may_follow part_mark ≡ true
unfolding part_mark
mark-follows = refl

pub part_ident : (prefix : Bytes) (t part : ℕ) → has_ident_form prefix ≡ true → is_ident (part_name prefix t part) ≡ true
part_ident prefix t part form =
    let front : Bytes = (prefix ++ decimal t) ++ part_mark in
    ap is_ident (sym (append_assoc (prefix ++ decimal t) part_mark (decimal part)))
    ∙ numbered_ident front part (form-append (prefix ++ decimal t) part_mark (form-append prefix (decimal t) form (decimal-follows t)) mark-follows)

pub parts_idents : (prefix : Bytes) (t part count : ℕ) → has_ident_form prefix ≡ true → list_all is_ident (names_from prefix t part count) ≡ true
parts_idents prefix t part zero form = refl
parts_idents prefix t part (suc n) form = and_from (is_ident (part_name prefix t part)) (list_all is_ident (names_from prefix t (part + 1) n)) (part_ident prefix t part form) (parts_idents prefix t (part + 1) n form)

pub fields_idents : (fields : List Bytes) (t : ℕ) → list_all is_ident fields ≡ true → list_all is_ident (locals_for fields t) ≡ true
fields_idents [] t h = refl
fields_idents (f ∷ fields) t h =
    let parts = and_parts (is_ident f) (list_all is_ident fields) h in
    and_from (is_ident (f ++ decimal t)) (list_all is_ident (locals_for fields t)) (numbered_ident f t (ident_form f parts.0)) (fields_idents fields t parts.1)
