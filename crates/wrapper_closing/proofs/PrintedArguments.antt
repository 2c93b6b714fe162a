-- The arguments of an import are values of the printed types of its parameters, as they are lent.
use Rattle.std.proofs.Common.{◌≡◌, true, cond, List, [], ◌∷◌, sym, subst}
use Rattle.std.proofs.lemmas.Bool.{and_parts}
use Rattle.rust_tree.specs.declared.item.FnParam.{FnParam}
use Rattle.rust_tree.specs.declared.item.Item.{Item}
use Rattle.wrapper_data.specs.declared.block.Block.{Block}
use Rattle.wrapper_data.specs.declared.value.RustValue.{RustValue}
use Rattle.wrapper_meaning.specs.Direction.{lend, take}
use Rattle.wrapper_meaning.specs.InRange.{AreListed}
use Rattle.wrapper_meaning.specs.Shape.{Shapes}
use Rattle.wrapper_meaning.specs.Shape.Shapes.{more, none}
use Rattle.wrapper_meaning.specs.StandsFor.{ArgumentsStand, Stands}
use Rattle.wrapper_meaning.specs.Value.{Parts}
use Rattle.wrapper_faithful.specs.Arguments.{AreArguments, unlent}
use Rattle.wrapper_closing.specs.Direct.{are_direct, is_direct}
use Rattle.wrapper_closing.specs.PrintedAs.{ArePrintedLent}
use Rattle.wrapper_closing.proofs.Direct.{no_own_handle}
use Rattle.wrapper_closing.proofs.LentValues.{is_lent}
use Rattle.wrapper_closing.proofs.OwningValues.{owning}

pub printed_arguments : (items : List Item) (heap : List Block) (ts : Shapes) (vs : Parts ts) (args : List RustValue) (own : List Block) (params : List FnParam) → ArePrintedLent items ts params → are_direct ts ≡ true → AreListed ts vs
    → ArgumentsStand 2 heap ts vs args own → AreArguments items params args
printed_arguments items heap none vs args own [] p d g h = subst (AreArguments items []) (sym h.0) tt
printed_arguments items heap none vs args own (x ∷ params) p d g h = absurd p
printed_arguments items heap (more t ts) vs args own [] p d g h = absurd p
printed_arguments items heap (more t ts) vs args own (x ∷ params) p d g (r, others, first, rest, is, h, hs, all) =
    let both = and_parts (is_direct t) (are_direct ts) d in
    let stands : Stands 2 (lend heap) t vs.0 r first = subst (λ c. Stands 2 (cond c take (lend heap)) t vs.0 r first) (no_own_handle t both.0) h in
    let one = is_lent items heap t vs.0 r first (unlent x.ty) p.0 g.0 stands in
    subst (AreArguments items (x ∷ params)) (sym is) (
      record { owner = owning r; typed = one.typed; lent = one.lent },
      printed_arguments items heap ts vs.1 others rest params p.1 both.1 g.1 hs,
    )
