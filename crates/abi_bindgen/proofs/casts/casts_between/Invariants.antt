use Rattle.std.proofs.Common.{◌≡◌, ◌++◌, drop}
use Rattle.abi_bindgen.specs.SlotCasts.{AreOrdered, ReadBack, casts_between}
use Rattle.abi_bindgen.proofs.casts.casts_between.Given as goal

-- what was made, and the casts that are left, are all casts
abbrev pub invariant-loop-i : goal.invariant-loop-i
invariant-loop-i l =
    record {
      ordered : AreOrdered (drop l.i l.froms) (drop l.i l.tos);
      made : l.casts ++ casts_between (drop l.i l.froms) (drop l.i l.tos) ≡ casts_between l.froms l.tos;
      back : ReadBack (drop l.i l.froms) (drop l.i l.tos) → ReadBack l.froms l.tos;
    }
