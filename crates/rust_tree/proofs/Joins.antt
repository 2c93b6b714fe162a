-- What is still to be printed of pieces with marks between them, and pieces behind one another.
use Rattle.std.proofs.Common.{◌≡◌, ℕ, zero, suc, ◌+◌, ◌-◌, ◌<◌, List, ◌++◌, append_assoc, sym, ap, ◌∙◌, arith}
use Rattle.std.specs.List.{flat_map, join_by}
use Rattle.rust_tree.specs.declared.print.word.sign.Sign.TheVariants.{Super}
use Rattle.rust_tree.specs.CodeText.{supers_text}
use Rattle.wit_model.specs.Bytes.{Bytes}
use Rattle.rust_tree.specs.Word.{sign}

-- the pieces that are left at a place, where f gives each piece's text
abbrev pub rest_from : {X : Type 0} → (X → Bytes) → Bytes → ℕ → List X → Bytes
rest_from f mark zero xs = join_by f mark xs
rest_from f mark (suc n) xs = flat_map (λ x. mark ++ f x) xs

pub supers_less : (n i : ℕ) → i < n → supers_text (n - i) ≡ sign Super ++ supers_text (n - (i + 1))
supers_less n i h = let e : n - i ≡ suc (n - (i + 1)) = omega arith in ap supers_text e

-- two parts of a whole that come behind one another
pub behind : {A : Type 0} (before between first rest whole : List A) → between ≡ before ++ first → whole ≡ first ++ rest → between ++ rest ≡ before ++ whole
behind before between first rest whole e f = ap (λ items. items ++ rest) e ∙ append_assoc before first rest ∙ ap (λ items. before ++ items) (sym f)
