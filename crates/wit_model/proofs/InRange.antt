-- What a caller knows of tables in which no rule is broken: each id is a place of its table.
use Rattle.std.proofs.Common.{◌≡◌, ℕ, ◌<◌, ◌≤◌, Bool, true, false, not, nat_lt, List, length, Option, None, Some, refl, sym, subst, cond, arith}
use Rattle.std.specs.List.{slice_get, position_or_len}
use Rattle.std.specs.Option.{option_map, option_or}
use Rattle.std.proofs.lemmas.Bool.{and_parts}
use Rattle.std.proofs.lemmas.Grind.{common_steps}
use Rattle.std.proofs.lemmas.List.Sums.{fails_before_first}
use Rattle.std.proofs.lemmas.Option.{slice_get_within, get_or_from_slice_get}
use Rattle.wit_model.specs.declared.function.Function.{Function}
use Rattle.wit_model.specs.declared.world.Interface.{Interface}
use Rattle.wit_model.specs.declared.resolve.Resolve.{Resolve}
use Rattle.wit_model.specs.declared.resolve.Table.{Table}
use Rattle.wit_model.specs.IndexRange.{first_out_of_range, function_in_range, interface_in_range}
use Rattle.wit_model.specs.Place.{first_failing}
use Rattle.wit_model.specs.WellFormed.{first_fault}
use Rattle.wit_model.proofs.AllLemmas.{all_at}

not_false : (b : Bool) → not b ≡ false → b ≡ true
not_false true h = refl
not_false false h = sym h

pub unmapped : {A B : Type 0} (f : A → B) (o : Option A) → option_map f o ≡ None → o ≡ None
unmapped f None h = refl
unmapped f (Some x) h = cc

pub neither : {A : Type 0} (a b : Option A) → option_or a b ≡ None → (a ≡ None) × (b ≡ None)
neither None b h = (refl, h)
neither (Some x) b h = cc

past_the_end : (m n : ℕ) → cond (nat_lt m n) (Some m) None ≡ None → n ≤ m
past_the_end m n h = grind (arith, common_steps)

-- where no entry of a table is the first to fail, each passes
pub passes_at : {A : Type 0} (table : Table) (p : A → Bool) (xs : List A) (k : ℕ) (x : A) → first_failing table p xs ≡ None → slice_get xs k ≡ Some x → p x ≡ true
passes_at {A} table p xs k x h e =
    let test : A → Bool = λ y. not (p y) in
    let late : length xs ≤ position_or_len test xs = past_the_end _ _ (unmapped _ _ h) in
    let within : k < length xs = slice_get_within xs k x e in
    let fails = fails_before_first test xs k x (omega arith) in
    not_false (p x) (subst (λ y. not (p y) ≡ false) (get_or_from_slice_get xs k x x e) fails)

pub none_out_of_range : (r : Resolve) → first_fault r ≡ None → first_out_of_range r ≡ None
unfolding first_fault
none_out_of_range r h = unmapped _ (first_out_of_range r) (neither _ _ h).0

pub interface_in_range_at : (r : Resolve) (k : ℕ) (i : Interface) → first_fault r ≡ None → slice_get r.interfaces k ≡ Some i → interface_in_range r i ≡ true
unfolding first_out_of_range
interface_in_range_at r k i h e = passes_at _ (interface_in_range r) r.interfaces k i (neither _ _ (none_out_of_range r h)).0 e

-- a function that an interface holds
pub function_in_range_at : (r : Resolve) (i : Interface) (k : ℕ) (f : Function) → interface_in_range r i ≡ true → slice_get i.functions k ≡ Some f → function_in_range r f ≡ true
unfolding interface_in_range
function_in_range_at r i k f h e = all_at (λ f. function_in_range r f) i.functions k f (and_parts _ _ h).1 e
