-- The text of the definition of a flags type.
use Rattle.std.specs.Prelude.{ℕ, suc, List, [], ◌∷◌, ◌++◌, decimal}
use Rattle.std.specs.List.{flat_map}
use Rattle.rust_tree.specs.declared.flags_item.FlagsItem.{FlagsItem}
use Rattle.rust_tree.specs.declared.flags_item.FlagsMember.{FlagsMember}
use Rattle.rust_tree.specs.declared.print.word.flags.FlagsWord.TheVariants.{OpenMacro, PublicFlags, Const, Bit}
use Rattle.rust_tree.specs.declared.print.word.sign.Sign.TheVariants.{StatementEnd, OpenBlock, CloseBlock, Colon}
use Rattle.rust_tree.specs.CodeText.{doc_text, path_text, repr_type_text}
use Rattle.wit_model.specs.Bytes.{Bytes}
use Rattle.rust_tree.specs.Word.{flags_word, sign}

-- `const UPPER = 1 << 0;`, behind its doc lines
abbrev pub member_text : ℕ → FlagsMember → Bytes
member_text n m = flat_map doc_text m.docs ++ flags_word Const ++ m.name ++ flags_word Bit ++ decimal n ++ sign StatementEnd

-- members whose bits are numbered from `n`
abbrev pub members_text : ℕ → List FlagsMember → Bytes
members_text n [] = []
members_text n (m ∷ members) = member_text n m ++ members_text (suc n) members

-- `BITFLAGS::bitflags! {`, the doc lines and the derives, and `pub struct N: u8 {`
unfoldable pub flags_head_text : FlagsItem → Bytes
flags_head_text f =
    path_text f.bitflags ++ flags_word OpenMacro ++ flat_map doc_text f.docs ++ flags_word PublicFlags ++ f.name ++ sign Colon ++ repr_type_text f.repr ++ sign OpenBlock

abbrev pub flags_text : FlagsItem → Bytes
flags_text f = flags_head_text f ++ members_text 0 f.members ++ sign CloseBlock ++ sign CloseBlock
