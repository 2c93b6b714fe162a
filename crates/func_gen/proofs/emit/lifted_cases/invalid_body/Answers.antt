use Rattle.std.proofs.Common.{[], refl}
use Rattle.rust_tree.specs.declared.runtime_item.RuntimeItem.TheVariants.{InvalidEnumDiscriminant}
use Rattle.func_gen.proofs.InwardForms.{runtime_inward}
use Rattle.func_gen.proofs.emit.lifted_cases.invalid_body.Goals as goal

pub inward_block-requires : goal.inward_block-requires
inward_block-requires c = record { stmts = rw c.new-2.ensures refl; tail = rw (c.in_ok-path.ensures, c.new.ensures) (runtime_inward InvalidEnumDiscriminant [] refl) }
