use Rattle.std.proofs.Common.{sym, subst}
use Rattle.std.specs.List.Sorted.{IsStrictlySortedBy}
use Rattle.gen_files.specs.Entries.{IsAscending}
use Rattle.gen_files.proofs.files.Files.new.Goals as goal

pub invariant_of-result : goal.invariant_of-result
unfolding IsStrictlySortedBy
invariant_of-result c = subst IsAscending (sym c.new.ensures.items) tt
