use Rattle.std.proofs.Common.{◌≡◌, ◌++◌, drop}
use Rattle.func_gen.specs.CaseForms.{member_forms}
use Rattle.func_gen.proofs.emit.variants.member_forms.Given as goal

abbrev pub invariant-loop-i : goal.invariant-loop-i
invariant-loop-i l = l.forms ++ member_forms l.ty (drop l.i l.names) (drop l.i l.members) ≡ member_forms l.ty l.names l.members
