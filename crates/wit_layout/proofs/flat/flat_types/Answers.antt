use Rattle.std.proofs.Common.{subst, sym}
use Rattle.wit_model.specs.TypeOrder.{GoesDown}
use Rattle.wit_model.proofs.WellFormedLemmas.{types_go_down}
use Rattle.wit_layout.specs.Flat.{EachHasWords}
use Rattle.wit_layout.proofs.CheckedWords.{checked_words}
use Rattle.wit_layout.proofs.flat.flat_types.Goals as goal

pub flatten_type-requires-clause-down : goal.flatten_type-requires-clause-down
flatten_type-requires-clause-down c =
    subst GoesDown (sym c.as_slice.ensures) (types_go_down c.args.resolve.now c.requires.well.unbroken)

pub flatten_type-requires-clause-worded : goal.flatten_type-requires-clause-worded
flatten_type-requires-clause-worded c =
    subst EachHasWords (sym c.as_slice.ensures) (checked_words c.args.resolve.now c.requires.well.unbroken)
