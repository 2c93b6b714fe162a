use Rattle.std.proofs.Common.{◌≡◌, ◌≢◌, length, sym, arith}
use Rattle.std.proofs.lemmas.Bool.Decides.{nat_tests}
use Rattle.wit_document.specs.View.{view}
use Rattle.wit_document.proofs.Parts.{empty_of-empty, empty_of-some}
use Rattle.wit_document.proofs.members.read_no_items.Goals as goal

pub returns-then-is_empty : goal.returns-then-is_empty
returns-then-is_empty g c =
    let none : length c.in-Some.items.now.items ≡ 0 = grind (arith, nat_tests) in
    let e = empty_of-empty {T = g.row.T.Denot} (view c.args.value.now) c.in-Some.items.now.items (sym c.in-Some.ensures) none in
    rw c.new.ensures e

pub returns-else-is_empty : goal.returns-else-is_empty
returns-else-is_empty g c =
    let some : length c.in-Some.items.now.items ≢ 0 = grind (arith, nat_tests) in
    empty_of-some (view c.args.value.now) c.in-Some.items.now.items (sym c.in-Some.ensures) some
