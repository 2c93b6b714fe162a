-- Values of types that reach no resource have no handles.
use Rattle.std.proofs.Common.{◌≡◌, ℕ, Bool, List, [], ◌∷◌, ◌++◌, length, flat_map, Option, None, Some, refl, sym, ap, ap₂, subst, arith, ◌∙◌, append-nil}
use mathlib.Core.Logic.{inl, inr}
use Rattle.wrapper_data.specs.declared.run.CallPoint.{CallPoint}
use Rattle.wrapper_data.specs.declared.run.Target.{Target}
use Rattle.wrapper_meaning.specs.Handles.{Drops, HandleOf, all_resources, case_handles, handles, is_lent, is_owned, main_calls, own_resources, part_handles, resources, result_handles}
use Rattle.wrapper_meaning.specs.Items.{total}
use Rattle.wrapper_meaning.specs.Settled.{all_settled, settled_result}
use Rattle.wrapper_meaning.specs.Shape.{Shape, Shapes}
use Rattle.wrapper_meaning.specs.Shape.Shape.{scalar, text, list, pairs, fixed, fields, tuple, cases, flags, handle, resource, other}
use Rattle.wrapper_meaning.specs.Shape.Shapes.{none, more}
use Rattle.wrapper_meaning.specs.Value.{Case, Parts, Result, Value}
use Rattle.wrapper_faithful.specs.Laws.{AllCallsCount, NothingIsDropped}

-- two lists that are empty together
pub apart : (xs ys : List ℕ) → xs ++ ys ≡ [] → (xs ≡ []) × (ys ≡ [])
apart [] ys e = (refl, e)
apart (x ∷ xs) ys e = absurd (omega (ap length e, arith))

each_none : {A : Type 0} (of : A → List HandleOf) → ((a : A) → of a ≡ []) → (xs : List A) → flat_map of xs ≡ []
each_none of h [] = refl
each_none of h (x ∷ xs) = ap₂ (λ a b. a ++ b) (h x) (each_none of h xs)

module _ (counts : Bool → ℕ → Bool) where
  pair_handles : (k x : Shape) → ((v : Value k) → handles counts k v ≡ []) → ((v : Value x) → handles counts x v ≡ []) → (entries : List (Value k × Value x)) → handles counts (pairs k x) entries ≡ []
  pair_handles k x key val entries = each_none (λ (e : Value k × Value x). handles counts k e.0 ++ handles counts x e.1) (λ e. ap₂ (λ a b. a ++ b) (key e.0) (val e.1)) entries

  mutual
    no_handles : (t : Shape) → resources t ≡ [] → (v : Value t) → handles counts t v ≡ []
    no_handles (scalar s) e v = refl
    no_handles text e v = refl
    no_handles (list t) e vs = each_none (handles counts t) (no_handles t e) vs
    no_handles (pairs k x) e entries = pair_handles k x (no_handles k (apart (resources k) (resources x) e).0) (no_handles x (apart (resources k) (resources x) e).1) entries
    no_handles (fixed t n) e vs = each_none (handles counts t) (no_handles t e) vs
    no_handles (fields ts) e v = no_part_handles ts e v
    no_handles (tuple ts) e v = no_part_handles ts e v
    no_handles (cases ts) e v = no_case_handles ts e v
    no_handles (flags n) e v = refl
    no_handles (handle owns number) e v = absurd (omega (ap length e, arith))
    no_handles (resource number) e v = refl
    no_handles other e v = refl

    pub no_part_handles : (ts : Shapes) → all_resources ts ≡ [] → (vs : Parts ts) → part_handles counts ts vs ≡ []
    no_part_handles none e vs = refl
    no_part_handles (more t ts) e vs =
        ap₂ (λ a b. a ++ b) (no_handles t (apart (resources t) (all_resources ts) e).0 vs.0) (no_part_handles ts (apart (resources t) (all_resources ts) e).1 vs.1)

    no_case_handles : (ts : Shapes) → all_resources ts ≡ [] → (v : Case ts) → case_handles counts ts v ≡ []
    no_case_handles none e v = elim v [ ]
    no_case_handles (more t ts) e (inl v) = no_handles t (apart (resources t) (all_resources ts) e).0 v
    no_case_handles (more t ts) e (inr v) = no_case_handles ts (apart (resources t) (all_resources ts) e).1 v

  no_result_handles : (r : Option Shape) (ts : Shapes) → own_resources ts r ≡ [] → (u : Result r) → result_handles counts r u ≡ []
  no_result_handles None ts e u = refl
  no_result_handles (Some t) ts e u = no_handles t (apart (all_resources ts) (resources t) e).1 u

params_alone : (ts : Shapes) (r : Option Shape) → own_resources ts r ≡ [] → all_resources ts ≡ []
params_alone ts None e = e
params_alone ts (Some t) e = (apart (all_resources ts) (resources t) e).0

every_call : (drop_of : ℕ → Target) (calls : List CallPoint) → main_calls drop_of [] calls ≡ calls
every_call drop_of [] = refl
every_call drop_of (c ∷ calls) = ap (λ cs. c ∷ cs) (every_call drop_of calls)

pub all_calls_count : AllCallsCount
all_calls_count rs p run e = ap (λ own. main_calls rs.drop_of own run.calls) e ∙ every_call rs.drop_of run.calls

pub nothing_is_dropped : NothingIsDropped
nothing_is_dropped rs p us u call calls e once =
    let result : (v : Result p.result) → result_handles is_owned p.result v ≡ [] = no_result_handles is_owned p.result p.params e in
    let params : (counts : Bool → ℕ → Bool) (vs : Parts p.params) → part_handles counts p.params vs ≡ [] = λ counts vs. no_part_handles counts p.params (params_alone p.params p.result e) vs in (
      record {
        drops = [];
        order = once;
        dropped = [];
        lost = λ weight. ap (total weight) (result u ∙ sym (result (settled_result p.result u)) ∙ sym (append-nil (result_handles is_owned p.result (settled_result p.result u))));
        each = λ weight. refl;
      },
      record {
        earlier = [];
        later = [];
        order = once;
        dropped = [];
        lost = λ weight. ap (total weight) (params is_owned us ∙ sym (params is_owned (all_settled p.params us)) ∙ sym (append-nil (part_handles is_owned p.params (all_settled p.params us))));
        each = λ weight. refl;
        lent = subst (λ hs. Drops rs.drop_of hs []) (sym (params (is_lent rs.imported) us)) (λ weight. refl);
      },
    )
