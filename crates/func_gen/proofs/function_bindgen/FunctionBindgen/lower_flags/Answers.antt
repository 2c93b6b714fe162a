use Rattle.std.proofs.Common.{refl, ◌++◌, ap, ◌∙◌}
use Rattle.wit_model.specs.declared.types.TypeDefKind.TheVariants as kind
use Rattle.abi_bindgen.specs.declared.instruction.Instruction.TheVariants as instruction
use Rattle.func_gen.specs.FlagsForms.{operands_of, words_of}
use Rattle.func_gen.proofs.FlagsRows.{flags_words_row, words_fit}
use Rattle.func_gen.proofs.WrittenSites.{written_kind}
use Rattle.func_gen.proofs.InwardForms.{operand_inward}
use Rattle.func_gen.proofs.PlainOperands.{emits_plainly}
use Rattle.func_gen.proofs.function_bindgen.FunctionBindgen.lower_flags.Goals as goal

pub push_words-requires : goal.push_words-requires
push_words-requires c = words_fit c.word_count-count.ensures

pub returns : goal.returns
returns c =
    let types = c.args.resolve.now.types in
    let e = c.in_ok-e.e in
    let n = c.in_ok-name.name in
    let k = c.word_count-count.ensures in
    emits_plainly types (instruction.FlagsLower c.args.id) _ _ _ _ _ _ refl c.in_ok-e.ensures.only
    (c.in_ok-push_words.ensures ∙ ap (λ rs. rs ++ operands_of (words_of n 0 c.word_count-count.result)) c.requires.empty ∙ ap (λ m. operands_of (words_of n 0 m)) k.is)
    (flags_words_row types c.args.self.now _ n c.args.id e k.site k.is_site c.in_ok-e.ensures.operand c.in_ok-name.ensures.adds c.in_ok-name.ensures.fresh c.in_ok-name.ensures.takes)

pub word_count-count-requires : goal.word_count-count-requires
word_count-count-requires c =
    let (n, is, written) = c.requires.sendable.suits in
    written_kind c.args.resolve.now.types c.args.self.now.sites c.args.id.0 is.1.entry (kind.Flags is.0) is.1.stands is.1.kind written

pub add_let-requires : goal.add_let-requires
add_let-requires c = record { inward = operand_inward c.in_ok-e.e c.in_ok-e.ensures.operand }
