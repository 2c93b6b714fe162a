-- Which members are still ahead, by runs of them of which the last comes first.
use Rattle.std.specs.Prelude.{◌≡◌, ℕ, ◌<◌, ◌≤◌, ◌⊎◌, List, [], ◌∷◌, ◌++◌, length, take, drop, Option}
use Rattle.std.specs.List.{All}
use Rattle.wit_model.specs.declared.types.WitType.{WitType}
use Rattle.wit_model.specs.declared.types.TypeDef.{TypeDef}
use Rattle.wit_layout.specs.declared.ahead.Run.{Run}
use Rattle.wit_layout.specs.declared.ahead.Ahead.{Ahead}
use Rattle.wit_layout.specs.inside.Sequence.{members_at}

abbrev pub runs : Ahead → List Run
runs a = take a.count a.runs

-- the members of a run
abbrev pub run_members : List TypeDef → Run → List (Option WitType)
run_members types run = drop run.nth (members_at types run.at)

abbrev pub runs_members : List TypeDef → List Run → List (Option WitType)
runs_members types [] = []
runs_members types (run ∷ rs) = runs_members types rs ++ run_members types run

abbrev pub ahead_members : List TypeDef → Ahead → List (Option WitType)
ahead_members types a = runs_members types (runs a)

-- a run has a member at least
abbrev pub IsRun : List TypeDef → Run → Type 0
IsRun types run = (run.at < length types) × (run.nth < length (members_at types run.at))

abbrev pub AreRuns : List TypeDef → Ahead → Type 0
AreRuns types a = All (IsRun types) (runs a)

-- what was ahead, where the members of an entry have been put first; what is left out stands behind seventeen members
pub record ArePut (types : List TypeDef) (at : ℕ) (before after : Ahead) : Type 0 where
  pub left_out : List (Option WitType)
  pub same : ahead_members types after ++ left_out ≡ members_at types at ++ ahead_members types before
  pub far : (left_out ≡ []) ⊎ (17 ≤ length (ahead_members types after))
