use Rattle.std.proofs.Common.{◌≡◌, length, sym, arith}
use Rattle.wit_document.specs.View.{view}
use Rattle.wit_document.proofs.Parts.{pair_of-none}
use Rattle.wit_document.proofs.reading.read_pair.Goals as goal
use Rattle.wit_document.proofs.reading.read_pair.Goals.{in_default-as_slice-via-then-as_slice-lt2, in_default-as_slice-via-else-as_slice-lt2+else-this-lt3}

pub returns-in_default-as_slice : goal.returns-in_default-as_slice
returns-in_default-as_slice g c =
    let other : length c.in-Some.items.now.items ≡ 2 → ⊥ = λ e. elim c.in_default-as_slice.branch [ in_default-as_slice-via-then-as_slice-lt2 w ↦ grind arith | in_default-as_slice-via-else-as_slice-lt2+else-this-lt3 w ↦ grind arith ] in
    pair_of-none _ _ (view c.args.value.now) c.in-Some.items.now.items (sym c.in-Some.ensures) other
