-- Which handles a value has; and which calls drop handles: of one that is lifted and not handed on, since a later entry of its map has
-- an equal key, and of one that was lent to an export and is of an imported resource.
use Rattle.std.specs.Prelude.{◌≡◌, ℕ, Bool, false, not, ◌&&◌, List, [], ◌∷◌, ◌++◌, filter, map, flat_map, Option, None, Some, if◌then◌else◌}
use Rattle.std.specs.List.{list_any}
use Rattle.std.specs.Str.{bytes_eq}
use mathlib.Core.Logic.{inl, inr}
use Rattle.wrapper_data.specs.declared.run.CallPoint.{CallPoint}
use Rattle.wrapper_data.specs.declared.run.Target.{Target}
use Rattle.wrapper_data.specs.declared.run.Target.TheVariants as target
use Rattle.wrapper_data.specs.declared.word.Word.{Word}
use Rattle.wrapper_meaning.specs.AsWords.{handle_word}
use Rattle.wrapper_meaning.specs.Items.{SameItems}
use Rattle.wrapper_meaning.specs.Settled.{all_settled, settled_result}
use Rattle.wrapper_meaning.specs.Shape.{Shape, Shapes}
use Rattle.wrapper_meaning.specs.Shape.Shape.{list, pairs, fixed, fields, tuple, cases, handle}
use Rattle.wrapper_meaning.specs.Shape.Shapes.{none, more}
use Rattle.wrapper_meaning.specs.Value.{Case, Parts, Result, Value}

-- 1. The handles of a value

-- a handle: the number of its resource, and its own
abbrev pub HandleOf : Type 0
HandleOf = ℕ × ℕ

-- those that count, by whether they own and by their resource
module _ (counts : Bool → ℕ → Bool) where
  abbrev mutual
    pub handles : (t : Shape) → Value t → List HandleOf
    handles (list t) vs = flat_map (handles t) vs
    handles (pairs k x) entries = flat_map (λ e. handles k e.0 ++ handles x e.1) entries
    handles (fixed t n) vs = flat_map (handles t) vs
    handles (fields ts) v = part_handles ts v
    handles (tuple ts) v = part_handles ts v
    handles (cases ts) v = case_handles ts v
    handles (handle owns r) v = if counts owns r then (r, v) ∷ [] else []
    handles _ v = []

    pub part_handles : (ts : Shapes) → Parts ts → List HandleOf
    part_handles none v = []
    part_handles (more t ts) v = handles t v.0 ++ part_handles ts v.1

    pub case_handles : (ts : Shapes) → Case ts → List HandleOf
    case_handles none c = []
    case_handles (more t ts) (inl v) = handles t v
    case_handles (more t ts) (inr c) = case_handles ts c

  abbrev pub result_handles : (r : Option Shape) → Result r → List HandleOf
  result_handles None v = []
  result_handles (Some t) v = handles t v

abbrev pub is_owned : Bool → ℕ → Bool
is_owned owns r = owns

-- a borrowed handle of an imported resource
abbrev pub is_lent : (ℕ → Bool) → Bool → ℕ → Bool
is_lent imported owns r = not owns && imported r

-- 2. The calls that drop handles. `drop_of` is what drops a handle of a resource, by the resource's number

-- each handle is dropped by one call, with its number, in any order
abbrev pub Drops : (ℕ → Target) → List HandleOf → List CallPoint → Type 0
Drops drop_of dropped calls = SameItems {A = Target × List Word} (map (λ c. (c.target, c.words)) calls) (map (λ h. (drop_of h.0, handle_word h.1 ∷ [])) dropped)

-- the calls of an import: the one call, and then one for each owned handle of its result that is not handed on
pub record ImportDrops (drop_of : ℕ → Target) (r : Option Shape) (u : Result r) (call : CallPoint) (calls : List CallPoint) : Type 0 where
  pub drops : List CallPoint
  pub order : calls ≡ call ∷ drops
  pub dropped : List HandleOf
  pub lost : SameItems (result_handles is_owned r u) (result_handles is_owned r (settled_result r u) ++ dropped)
  pub each : Drops drop_of dropped drops

-- the calls of an export: one for each owned handle of its arguments that is not handed on, the one call, and then one for each handle
-- of an imported resource that was lent
pub record ExportDrops (drop_of : ℕ → Target) (imported : ℕ → Bool) (ts : Shapes) (us : Parts ts) (call : CallPoint) (calls : List CallPoint) : Type 0 where
  pub earlier : List CallPoint
  pub later : List CallPoint
  pub order : calls ≡ earlier ++ (call ∷ later)
  pub dropped : List HandleOf
  pub lost : SameItems (part_handles is_owned ts us) (part_handles is_owned ts (all_settled ts us) ++ dropped)
  pub each : Drops drop_of dropped earlier
  pub lent : Drops drop_of (part_handles (is_lent imported) ts us) later

-- 3. The calls of a run that drop no handle

abbrev mutual
  -- the resources whose handles a value may have
  pub resources : Shape → List ℕ
  resources (list t) = resources t
  resources (pairs k x) = resources k ++ resources x
  resources (fixed t n) = resources t
  resources (fields ts) = all_resources ts
  resources (tuple ts) = all_resources ts
  resources (cases ts) = all_resources ts
  resources (handle owns r) = r ∷ []
  resources _ = []

  pub all_resources : Shapes → List ℕ
  all_resources none = []
  all_resources (more t ts) = resources t ++ all_resources ts

-- those of a function's parameters and result
abbrev pub own_resources : Shapes → Option Shape → List ℕ
own_resources ts None = all_resources ts
own_resources ts (Some t) = all_resources ts ++ resources t

abbrev pub same_target : Target → Target → Bool
same_target (target.Core a x) (target.Core b y) = bytes_eq a b && bytes_eq x y
same_target (target.Method a x) (target.Method b y) = bytes_eq a b && bytes_eq x y
same_target _ _ = false

-- the calls but those that drop a handle of one of these resources
abbrev pub main_calls : (ℕ → Target) → List ℕ → List CallPoint → List CallPoint
main_calls drop_of rs calls = filter (λ c. not (list_any (λ r. same_target (drop_of r) c.target) rs)) calls
