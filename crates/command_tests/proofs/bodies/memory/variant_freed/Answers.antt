use Rattle.std.proofs.Common.{sym, ◌∙◌}
use Rattle.wit_model.specs.declared.types.WitType.TheVariants.{Id}
use Rattle.abi_bindgen.proofs.Payloads.{payload_count}
use Rattle.command_tests.proofs.bodies.memory.variant_freed.Goals as goal

pub three_words_freed-requires-clause-three : goal.three_words_freed-requires-clause-three
three_words_freed-requires-clause-three c = sym (payload_count c.args.resolve.now.types (Id (record { 0 = 0 })) c.flat_types-flat.result c.flat_types-flat.ensures c.if-flat.false) ∙ c.if-flat-eq3.true
