use Rattle.std.proofs.Common.{List, [], sym, subst}
use Rattle.wit_model.specs.declared.size.ArchitectureSize.{ArchitectureSize}
use Rattle.wit_layout.specs.Sizes.{field_offsets}
use Rattle.wit_layout.specs.Told.{ArePairsOf}
use Rattle.wit_layout.specs.Tree.{tree_at}
use Rattle.wit_layout.proofs.size_align.SizeAlign.field_offsets_of.Goals as goal

pub returns-clause-alias : goal.returns-clause-alias
returns-clause-alias c = λ types entry filled is alias.
    subst (λ (ps : List ArchitectureSize). ArePairsOf ps (λ w. [])) (sym c.as_slice.ensures) (filled.alias_offsets c.args.id.0 c.layout.result.now entry c.layout.ensures is alias)

pub returns-clause-own : goal.returns-clause-own
returns-clause-own c = λ types entry filled is own.
    let id = c.args.id.0 in
    subst (λ (ps : List ArchitectureSize). ArePairsOf ps (λ w. field_offsets w (tree_at types id))) (sym c.as_slice.ensures) (filled.offsets id c.layout.result.now entry c.layout.ensures is own)
