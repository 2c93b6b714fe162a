-- Which texts of a definition may stand in a tree: paths of identifiers, names that are written as WIT writes them, and doc lines.
use Rattle.std.proofs.Common.{◌≡◌, ℕ, zero, suc, ◌-◌, true, false, not, ◌&&◌, ◌||◌, List, [], ◌∷◌, length, take, Option, None, Some, refl, ap, ◌∙◌, eqb, get_or}
use Rattle.std.specs.Prelude.{◌==◌, codes}
use Rattle.std.specs.List.{list_all, onto_first, slice_split}
use Rattle.std.specs.Str.{bytes_eq, trim}
use Rattle.std.specs.Str.Lines.{lines_of_parts, strip_carriage_return}
use Rattle.std.proofs.lemmas.Bool.{and_from, and_parts, both_ways, cond_both, eqb-true, false_from_ne_true, not_from_false, or_from, or_left}
use Rattle.wit_model.specs.Bytes.{Bytes}
use Rattle.wit_model.specs.declared.name.Docs.{Docs}
use Rattle.rust_tree.specs.Ident.{is_ident}
use Rattle.rust_tree.specs.WellNamed.{are_path_names, is_line, is_quotable}
use Rattle.type_defs.specs.Docs.{comment_lines, doc_lines}
use Rattle.type_defs.specs.WitForm.{is_name_char, is_nonempty, is_wit_form}

-- paths

pub path_from : (first : Bytes) (names : List Bytes) → is_ident first ≡ true → list_all is_ident names ≡ true → are_path_names (first ∷ names) ≡ true
path_from first names h more =
    and_from (is_ident first || bytes_eq first (codes "crate") || bytes_eq first (codes "self")) (list_all is_ident names)
    (or_left (is_ident first || bytes_eq first (codes "crate")) (bytes_eq first (codes "self")) (or_left (is_ident first) (bytes_eq first (codes "crate")) h)) more

pub local_path-named : (name : Bytes) → is_ident name ≡ true → are_path_names (name ∷ []) ≡ true
local_path-named name h = path_from name [] h refl

-- quoted texts

char-quotable : (c : ℕ) → is_name_char c ≡ true → not ((c == 34) || (c == 92) || (c == 10)) ≡ true
char-quotable c h = not_from_false ((c == 34) || (c == 92) || (c == 10)) (or_from ((c == 34) || (c == 92)) (c == 10) (or_from (c == 34) (c == 92) (none 34 refl) (none 92 refl)) (none 10 refl))
  where
    none : (n : ℕ) → is_name_char n ≡ false → (c == n) ≡ false
    none n out = false_from_ne_true (c == n) (λ e. both_ways (is_name_char c) (ap is_name_char (eqb-true c n e) ∙ out) h)

pub wit-quotable : (t : Bytes) → is_wit_form t ≡ true → is_quotable t ≡ true
wit-quotable t h = go t (and_parts (is_nonempty t) (list_all is_name_char t) h).1
  where
    go : (t : Bytes) → list_all is_name_char t ≡ true → is_quotable t ≡ true
    go [] h = refl
    go (c ∷ cs) h = let parts = and_parts (is_name_char c) (list_all is_name_char cs) h in and_from (not ((c == 34) || (c == 92) || (c == 10))) (is_quotable cs) (char-quotable c parts.0) (go cs parts.1)

-- doc lines

strip-line : (n : ℕ) (t : Bytes) → is_line t ≡ true → is_line (take n t) ≡ true
strip-line zero t h = refl
strip-line (suc n) [] h = refl
strip-line (suc n) (c ∷ cs) h = let parts = and_parts (not (c == 10)) (is_line cs) h in and_from (not (c == 10)) (is_line (take n cs)) parts.0 (strip-line n cs parts.1)

onto-lines : (c : ℕ) (parts : List Bytes) → (c == 10) ≡ false → list_all is_line parts ≡ true → list_all is_line (onto_first c parts) ≡ true
onto-lines c [] e h = and_from (not (c == 10) && true) true (and_from (not (c == 10)) true (not_from_false (c == 10) e) refl) refl
onto-lines c (part ∷ parts) e h =
    let both = and_parts (is_line part) (list_all is_line parts) h in
    and_from (not (c == 10) && is_line part) (list_all is_line parts) (and_from (not (c == 10)) (is_line part) (not_from_false (c == 10) e) both.0) both.1

split-lines : (t : Bytes) → list_all is_line (slice_split (λ b. b == 10) t) ≡ true
split-lines [] = refl
split-lines (c ∷ cs) =
    cond_both (c == 10) ([] ∷ slice_split (λ b. b == 10) cs) (onto_first c (slice_split (λ b. b == 10) cs)) (λ parts. list_all is_line parts ≡ true)
    (λ _. split-lines cs) (λ e. onto-lines c (slice_split (λ b. b == 10) cs) e (split-lines cs))

lines-named : (parts : List Bytes) → list_all is_line parts ≡ true → list_all is_line (lines_of_parts parts) ≡ true
lines-named [] h = refl
lines-named (x ∷ []) h = cond_both (eqb (length x) 0) [] (x ∷ []) (λ ls. list_all is_line ls ≡ true) (λ _. refl) (λ _. h)
lines-named (x ∷ y ∷ more) h =
    let both = and_parts (is_line x) (list_all is_line (y ∷ more)) h in
    and_from (is_line (strip_carriage_return x)) (list_all is_line (lines_of_parts (y ∷ more)))
    (cond_both (eqb (get_or x (length x - 1) 0) 13) (take (length x - 1) x) x (λ l. is_line l ≡ true) (λ _. strip-line (length x - 1) x both.0) (λ _. both.0))
    (lines-named (y ∷ more) both.1)

pub docs-named : (docs : Docs) → list_all is_line (doc_lines docs) ≡ true
docs-named docs = go docs.contents
  where
    go : (contents : Option Bytes) → list_all is_line (comment_lines contents) ≡ true
    go None = refl
    go (Some t) = lines-named (slice_split (λ b. b == 10) (trim t)) (split-lines (trim t))
