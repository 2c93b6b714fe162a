-- What the bytes of one character become between quotes.
use Rattle.std.proofs.Common.{◌≡◌, ◌∙◌, ◌≢◌, ℕ, ◌<◌, inl, inr, suc, List, [], ◌∷◌, length, get_or, refl, sym, append-nil, arith}
use Rattle.std.specs.Prelude.{◌==◌, if◌then◌else◌}
use Rattle.std.specs.Char.{encode_utf8}
use Rattle.std.specs.List.{flat_map}
use Rattle.std.proofs.lemmas.Str.{encode_ascii, inside_one}
use Rattle.std.proofs.lemmas.Bool.{cases_eq}
use Rattle.std.proofs.lemmas.Bool.Decides.{nat_tests}
use Rattle.rust_tree.specs.declared.print.word.enums.EnumWord.TheVariants.{EscapedQuote, EscapedBackslash, EscapedLineFeed, EscapedReturn}
use Rattle.rust_tree.specs.EnumText.{escaped}
use Rattle.rust_tree.specs.Word.{enum_word}
use Rattle.wit_model.specs.Bytes.{Bytes}

-- that a byte or a character is none of those that are escaped
record IsPlain (b : ℕ) : Type 0 where
  no_quote : b ≢ 34
  no_backslash : b ≢ 92
  no_line_feed : b ≢ 10
  no_return : b ≢ 13

byte_plain : (b : ℕ) → IsPlain b → escaped b ≡ b ∷ []
byte_plain b p = let q = p.no_quote in let s = p.no_backslash in let l = p.no_line_feed in let r = p.no_return in grind (arith, nat_tests)

bytes_plain : (xs : List ℕ) → ((k : ℕ) → k < length xs → IsPlain (get_or xs k 0)) → flat_map escaped xs ≡ xs
bytes_plain [] h = refl
bytes_plain (x ∷ xs) h =
    let here = byte_plain x (h 0 (omega arith)) in
    let rest = bytes_plain xs (λ k below. h (suc k) (omega arith)) in
    rw (here, rest) refl

-- an ASCII byte stands in no character but itself
char_plain : (c : ℕ) → IsPlain c → flat_map escaped (encode_utf8 c) ≡ encode_utf8 c
char_plain c p =
    bytes_plain (encode_utf8 c) (λ k below.
    let inside = inside_one c [] (encode_utf8 c) k (sym (append-nil _)) below in
    record {
      no_quote = λ e. p.no_quote (inside (omega (arith, e)) ∙ e);
      no_backslash = λ e. p.no_backslash (inside (omega (arith, e)) ∙ e);
      no_line_feed = λ e. p.no_line_feed (inside (omega (arith, e)) ∙ e);
      no_return = λ e. p.no_return (inside (omega (arith, e)) ∙ e);
    })

-- what a character becomes
abbrev pub escaped_to : ℕ → Bytes
escaped_to c =
    if c == 34 then enum_word EscapedQuote else if c == 92 then enum_word EscapedBackslash else if c == 10 then enum_word EscapedLineFeed else if c == 13 then enum_word EscapedReturn else encode_utf8 c

plain : (c : ℕ) → IsPlain c → flat_map escaped (encode_utf8 c) ≡ escaped_to c
plain c p = let q = p.no_quote in let s = p.no_backslash in let l = p.no_line_feed in let r = p.no_return in let same = char_plain c p in grind (arith, nat_tests, same)

quote : flat_map escaped (encode_utf8 34) ≡ enum_word EscapedQuote
quote = rw (encode_ascii 34 (omega arith)) (append-nil _)

backslash : flat_map escaped (encode_utf8 92) ≡ enum_word EscapedBackslash
backslash = rw (encode_ascii 92 (omega arith)) (append-nil _)

line_feed : flat_map escaped (encode_utf8 10) ≡ enum_word EscapedLineFeed
line_feed = rw (encode_ascii 10 (omega arith)) (append-nil _)

return : flat_map escaped (encode_utf8 13) ≡ enum_word EscapedReturn
return = rw (encode_ascii 13 (omega arith)) (append-nil _)

pub escaped_char : (c : ℕ) → flat_map escaped (encode_utf8 c) ≡ escaped_to c
escaped_char c = elim (cases_eq c 34) [
  | inl e ↦ rw e quote
  | inr q ↦ elim (cases_eq c 92) [
    | inl e ↦ rw e backslash
    | inr s ↦ elim (cases_eq c 10) [
      | inl e ↦ rw e line_feed
      | inr l ↦ elim (cases_eq c 13) [ inl e ↦ rw e return | inr r ↦ plain c (record { no_quote = q; no_backslash = s; no_line_feed = l; no_return = r }) ]
    ]
  ]
]
