-- Which texts are identifiers, and which may be names of types, by rows.
use Rattle.std.proofs.Common.{◌≡◌, Bool, true, false, [], ◌∷◌, map, refl}
use Rattle.std.specs.Char.{encode_utf8}
use Rattle.std.specs.Prelude.{codes, encode_utf8_all}
use Rattle.wit_model.specs.Bytes.{Bytes}
use Rattle.rust_tree.specs.Ident.{escaped_words, is_ident, is_type_name, primitive_names}

abbrev told : Bytes → Bool × Bool
told t = (is_ident t, is_type_name t)

neither : map told (codes "try" ∷ codes "match" ∷ codes "Self" ∷ codes "_" ∷ codes "" ∷ codes "1a" ∷ codes "a-b" ∷ encode_utf8_all (codes "é") ∷ []) ≡
    (false, false) ∷ (false, false) ∷ (false, false) ∷ (false, false) ∷ (false, false) ∷ (false, false) ∷ (false, false) ∷ (false, false) ∷ []
unfolding encode_utf8 escaped_words primitive_names
neither = refl

both : map told (codes "_a" ∷ codes "Self_" ∷ codes "Az_09" ∷ codes "i128" ∷ []) ≡ (true, true) ∷ (true, true) ∷ (true, true) ∷ (true, true) ∷ []
unfolding escaped_words primitive_names
both = refl

names_of_primitives : map told (codes "u8" ∷ codes "str" ∷ codes "bool" ∷ codes "u128" ∷ []) ≡ (true, false) ∷ (true, false) ∷ (true, false) ∷ (true, false) ∷ []
unfolding escaped_words primitive_names
names_of_primitives = refl
