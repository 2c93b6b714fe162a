-- Which type of whole numbers does a word name?
use Rattle.std.specs.Prelude.{ℕ, List, [], ◌∷◌, codes, Option}
use Rattle.std.specs.Map.{lookup}
use Rattle.std.specs.Str.{bytes_eq}
use Rattle.wit_model.specs.declared.types.WitType.{WitType}
use Rattle.wit_model.specs.declared.types.WitType.TheVariants as wit

unfoldable pub kind_named : List ℕ → Option WitType
kind_named word = lookup (bytes_eq word) (
    (codes "u8", wit.U8)
    ∷ (codes "u16", wit.U16)
    ∷ (codes "u32", wit.U32)
    ∷ (codes "u64", wit.U64)
    ∷ (codes "s8", wit.S8)
    ∷ (codes "s16", wit.S16)
    ∷ (codes "s32", wit.S32)
    ∷ (codes "s64", wit.S64)
    ∷ [])
