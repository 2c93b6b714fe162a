-- What the bytes of one character become between quotes.
use Rattle.std.proofs.Common.{◌≡◌, ◌∙◌, ◌≢◌, ℕ, ◌<◌, inl, inr, suc, List, [], ◌∷◌, ◌++◌, length, get_or, refl, sym, append-nil, arith}
use Rattle.std.specs.Prelude.{◌||◌, ◌==◌, if◌then◌else◌}
use Rattle.std.specs.Char.{encode_utf8}
use Rattle.std.specs.List.{flat_map}
use Rattle.std.proofs.lemmas.Str.{encode_ascii, inside_one}
use Rattle.std.proofs.lemmas.Bool.{cases_eq}
use Rattle.std.proofs.lemmas.Bool.Decides.{nat_tests}
use Rattle.wit_refusal.specs.declared.word.Word.TheVariants.{Backslash}
use Rattle.wit_refusal.specs.Line.{escaped}
use Rattle.wit_refusal.specs.Word.{word}

byte_plain : (b : ℕ) → b ≢ 34 → b ≢ 92 → escaped b ≡ b ∷ []
byte_plain b n m = grind (arith, nat_tests)

-- bytes of which none is `"` or `\`
bytes_plain : (xs : List ℕ) → ((k : ℕ) → k < length xs → (get_or xs k 0 ≢ 34) × (get_or xs k 0 ≢ 92)) → flat_map escaped xs ≡ xs
bytes_plain [] h = refl
bytes_plain (x ∷ xs) h =
    let here = byte_plain x (h 0 (omega arith)).0 (h 0 (omega arith)).1 in
    let rest = bytes_plain xs (λ k below. h (suc k) (omega arith)) in
    rw (here, rest) refl

char_plain : (c : ℕ) → c ≢ 34 → c ≢ 92 → flat_map escaped (encode_utf8 c) ≡ encode_utf8 c
char_plain c n m =
    bytes_plain (encode_utf8 c) (λ k below. (
      λ e. n (inside_one c [] (encode_utf8 c) k (sym (append-nil _)) below (omega (arith, e)) ∙ e),
      λ e. m (inside_one c [] (encode_utf8 c) k (sym (append-nil _)) below (omega (arith, e)) ∙ e),
    ))

unmarked : (c : ℕ) → c ≢ 34 → c ≢ 92 → flat_map escaped (encode_utf8 c) ≡ (if c == 34 || c == 92 then word Backslash ++ encode_utf8 c else encode_utf8 c)
unmarked c n m = let plain = char_plain c n m in grind (arith, nat_tests, plain)

marked_quote : flat_map escaped (encode_utf8 34) ≡ word Backslash ++ encode_utf8 34
marked_quote = rw (encode_ascii 34 (omega arith)) (append-nil _)

marked_backslash : flat_map escaped (encode_utf8 92) ≡ word Backslash ++ encode_utf8 92
marked_backslash = rw (encode_ascii 92 (omega arith)) (append-nil _)

pub escaped_char : (c : ℕ) → flat_map escaped (encode_utf8 c) ≡ (if c == 34 || c == 92 then word Backslash ++ encode_utf8 c else encode_utf8 c)
escaped_char c = elim (cases_eq c 34) [
  | inl e ↦ rw e marked_quote
  | inr n ↦ elim (cases_eq c 92) [ inl e ↦ rw e marked_backslash | inr m ↦ unmarked c n m ]
]
