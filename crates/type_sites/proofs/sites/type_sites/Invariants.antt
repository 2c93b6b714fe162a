use Rattle.std.proofs.Common.{◌≡◌, true, ◌++◌, drop, map, Some}
use Rattle.std.specs.Prelude.{slice_get}
use Rattle.std.specs.List.{enumerate_from}
use Rattle.wit_model.specs.declared.name.WorldId.{WorldId}
use Rattle.wit_model.specs.declared.world.World.{World}
use Rattle.type_facts.specs.Facts.{IsAnalysis}
use Rattle.type_defs.specs.Levels.{are_shallow}
use Rattle.type_sites.specs.Sites.{site_at}
use Rattle.type_sites.proofs.sites.type_sites.Given as goal

abbrev pub invariant-loop-number : goal.invariant-loop-number
invariant-loop-number l =
    (id : WorldId) (world : World) → IsAnalysis l.resolve id l.facts → slice_get l.resolve.worlds id.0 ≡ Some world → are_shallow l.resolve.types ≡ true
    → l.sites ++ map (site_at l.resolve world) (enumerate_from l.number (drop l.number l.resolve.types)) ≡ map (site_at l.resolve world) (enumerate_from 0 l.resolve.types)
