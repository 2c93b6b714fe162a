-- The definitions hold of worked rows of flags: their words, the flags of words, and which bits are of the type.
use Rattle.std.proofs.Common.{◌≡◌, true, false, List, [], ◌∷◌, None, Some, refl, ap, ◌∙◌, rules}
use Rattle.std.specs.Prelude.{ℕ, ◌+◌, ◌^◌, codes, negsuc, pos}
use Rattle.wit_model.specs.Bytes.{Bytes}
use Rattle.rust_tree.specs.declared.expr.Expr.{Expr}
use Rattle.rust_tree.specs.declared.expr.Expr.TheVariants as expr
use Rattle.rust_tree.specs.declared.flags_item.FlagsItem.{FlagsItem}
use Rattle.rust_tree.specs.declared.item.Item.{Item}
use Rattle.rust_tree.specs.declared.item.Item.TheVariants as item
use Rattle.rust_tree.specs.declared.path.Path.{Path}
use Rattle.rust_tree.specs.declared.repr.Repr.{Repr}
use Rattle.rust_tree.specs.declared.repr.Repr.TheVariants as repr
use Rattle.rust_tree.specs.declared.type_expr.TypeExpr.{TypeExpr, the_lemmas as type_lemmas}
use Rattle.rust_tree.specs.declared.type_expr.TypeExpr.TheVariants as type
use Rattle.rust_tree.specs.declared.type_item.TypeItem.TheVariants.{Flags}
use Rattle.wrapper_data.specs.declared.value.RustValue.{the_lemmas}
use Rattle.wrapper_data.specs.declared.value.RustValue.TheVariants as value
use Rattle.wrapper_data.specs.declared.word.Word.TheVariants as word
use Rattle.wrapper_values.specs.declared.state.State.{State}
use Rattle.wrapper_values.specs.declared.state.Val.{Val}
use Rattle.wrapper_values.specs.declared.state.Val.TheVariants as val
use Rattle.wrapper_values.specs.Act.{Done, ◌>>=◌, and_then, pure, keyed}
use Rattle.wrapper_values.specs.Effect.{answer_of}
use Rattle.wrapper_values.specs.Flags.{flags_from}
use Rattle.wrapper_values.specs.Setting.{Setting}
use Rattle.wrapper_values.specs.Typed.{answer_in}
use Rattle.wrapper_run.specs.Run.{begin, eval}
use Rattle.wrapper_run.proofs.FlagsSteps.{bits_gives, flags_give}
use Rattle.wrapper_run.proofs.StepLemmas.{local_gives}

abbrev a_name : Bytes
a_name = codes "a"

abbrev b_name : Bytes
b_name = codes "b"

-- a local `a` of these bits
abbrev with_bits : ℕ → State
with_bits bits = begin (record { name = a_name; value = Some (val.Value (value.Bits bits)) } ∷ []) [] (record { blocks = [] }) (record { list = [] })

-- the highest bit of a word makes it negative

low_word : (w : Setting) → eval w (expr.FlagsBits a_name 0) (with_bits (2 ^ 31 + 5)) ≡ Done (val.Word (word.I32 (negsuc 2147483642))) (with_bits (2 ^ 31 + 5))
low_word w = bits_gives w a_name 0 (2 ^ 31 + 5) (with_bits (2 ^ 31 + 5)) refl

high_word : (w : Setting) → eval w (expr.FlagsBits a_name 32) (with_bits (2 ^ 32)) ≡ Done (val.Word (word.I32 (pos 1))) (with_bits (2 ^ 32))
high_word w = bits_gives w a_name 32 (2 ^ 32) (with_bits (2 ^ 32)) refl

-- a flags type `P` of 64 bits, in a file that begins with it

abbrev p_flags : FlagsItem
p_flags = record { bitflags = record { lead = true; supers = 0; names = codes "bitflags" ∷ [] }; docs = []; name = codes "P"; repr = repr.U64; members = [] }

abbrev in_file : Setting → Setting
in_file w = record w { items = item.Type (Flags p_flags) ∷ w.items }

abbrev p_path : Path
p_path = record { lead = false; supers = 0; names = codes "P" ∷ [] }

-- the flags of two words, the locals `a` and `b`, of which the first is the lower
abbrev two_words : Repr → Expr
two_words r = expr.FlagsOfWords p_path r ((0, expr.Local a_name) ∷ (32, expr.Local b_name) ∷ [])

abbrev low_is_negative : State
low_is_negative =
    begin (record { name = a_name; value = Some (val.Word (word.I32 (negsuc 2147483647))) } ∷ record { name = b_name; value = Some (val.Word (word.I32 (pos 0))) } ∷ []) [] (record { blocks = [] }) (record { list = [] })

abbrev words : List (ℕ × Val)
words = (0, val.Word (word.I32 (negsuc 2147483647))) ∷ (32, val.Word (word.I32 (pos 0))) ∷ []

-- the sign of the lower word does not spread into the higher one
joined_bits : (w : Setting) → eval (in_file w) (two_words repr.U64) low_is_negative ≡ Done (val.Value (value.Bits 2147483648)) low_is_negative
joined_bits w =
    let v = in_file w in
    flags_give v p_path repr.U64 ((0, expr.Local a_name) ∷ (32, expr.Local b_name) ∷ []) words (val.Value (value.Bits 2147483648)) low_is_negative low_is_negative
    (ap (λ o. and_then (and_then o (λ x. pure (0, x))) (λ x. (keyed (32, eval v (expr.Local b_name)) >>= (λ y. pure [] >>= (λ ys. pure (y ∷ ys)))) >>= (λ ys. pure (x ∷ ys))))
    (local_gives v a_name (val.Word (word.I32 (negsuc 2147483647))) low_is_negative refl refl)
    ∙ ap (λ o. and_then (and_then (and_then o (λ y. pure (32, y))) (λ y. pure [] >>= (λ ys. pure (y ∷ ys)))) (λ ys. pure ((0, val.Word (word.I32 (negsuc 2147483647))) ∷ ys)))
    (local_gives v b_name (val.Word (word.I32 (pos 0))) low_is_negative refl refl))
    refl

-- flags of the file that are held otherwise are none
held_otherwise : (w : Setting) → flags_from (in_file w).items p_path repr.U32 words ≡ None
held_otherwise w = refl

-- of a path outside of the file nothing is known: of 32 bits the lower word is left
held_outside : flags_from [] (record { lead = true; supers = 0; names = codes "P" ∷ [] }) repr.U32 words ≡ Some (val.Value (value.Bits 2147483648))
held_outside = refl

-- a function whose result is printed as `P` answers bits that 64 bits hold

abbrev p_items : List Item
p_items = item.Type (Flags p_flags) ∷ []

abbrev p_type : TypeExpr
p_type = type.Path p_path

p_answers : answer_in p_items p_type (val.Value (value.Bits 2147483648)) ≡ Some (Some (value.Bits 2147483648))
unfolding answer_of
p_answers = search (rules, the_lemmas, type_lemmas)

p_is_full : answer_in p_items p_type (val.Value (value.Bits (2 ^ 64))) ≡ None
unfolding answer_of
p_is_full = search (rules, the_lemmas, type_lemmas)
