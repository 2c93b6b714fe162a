-- What the claims must know of resources, by their numbers in the table; and the calls of a run but those that drop a handle of the
-- function's own resources.
use Rattle.std.specs.Prelude.{ℕ, Bool, List}
use Rattle.wrapper_data.specs.declared.run.CallPoint.{CallPoint}
use Rattle.wrapper_data.specs.declared.run.Run.{Run}
use Rattle.wrapper_data.specs.declared.run.Target.{Target}
use Rattle.wrapper_meaning.specs.Handles.{main_calls, own_resources}
use Rattle.wrapper_faithful.specs.Passed.{Passed}

-- the core import that drops a handle of a resource, and whether the resource is imported
pub record Resources : Type 0 where
  pub drop_of : ℕ → Target
  pub imported : ℕ → Bool

-- of a function without handles, each call counts
abbrev pub calls_of : Resources → Passed → Run → List CallPoint
calls_of resources p run = main_calls resources.drop_of (own_resources p.params p.result) run.calls
