use Rattle.std.proofs.Common.{◌≡◌, drop, length, not}
use Rattle.std.specs.List.{position_from}
use Rattle.type_defs.specs.Levels.{AreLevels, is_shallow}
use Rattle.type_defs.proofs.levels.first_deep.Given as goal

abbrev pub invariant-loop-i : goal.invariant-loop-i
invariant-loop-i l = record {
  count : length l.known ≡ l.i;
  levels : AreLevels l.types l.known;
  rest : position_from (λ entry. not (is_shallow l.types entry)) l.i (drop l.i l.types) ≡ position_from (λ entry. not (is_shallow l.types entry)) 0 l.types;
}
