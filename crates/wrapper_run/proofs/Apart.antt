-- Acts that look neither at locals nor at the place of the static area, and change none.
use Rattle.std.proofs.Common.{◌≡◌, ℕ, zero, suc, Bool, true, false, cond, List, Option, None, Some, refl, ap, ◌∙◌}
use Rattle.std.specs.Option.{option_map}
use Rattle.rust_tree.specs.declared.stmt.ImportDecl.{ImportDecl}
use Rattle.wrapper_data.specs.declared.block.Block.{Block}
use Rattle.wrapper_data.specs.declared.run.Stop.{Stop}
use Rattle.wrapper_values.specs.declared.state.Local.{Local}
use Rattle.wrapper_values.specs.declared.state.State.{State}
use Rattle.wrapper_values.specs.declared.state.Val.TheVariants as val
use Rattle.wrapper_values.specs.Act.{Act, Outcome, Done, Stopped, ◌>>=◌, ◌>>◌, and_then, or_stop, pure, stop}
use Rattle.wrapper_run.specs.Blocks.{free, free_found, keep_blocks, look, owned_block, owned_bytes, release, release_found, removed, turn, untaken}
use Rattle.wrapper_values.specs.Locals.{declare}
use Rattle.wrapper_run.specs.Memory.{loaded, loaded_small, stored, stored_small}
use Rattle.wrapper_values.specs.Setting.{Setting, stuck}
use Rattle.wrapper_run.proofs.Acts.{Acts}

abbrev pub with_both : {A : Type 0} → List Local → Option ℕ → Outcome A → Outcome A
with_both ls place (Done a s) = Done a (record s { locals = ls; place = place })
with_both ls place (Stopped e s) = Stopped e (record s { locals = ls; place = place })

pub record Apart {A : Type 0} (act : Act A) : Type 0 where
  pub apart : (s : State) (ls : List Local) (place : Option ℕ) → act (record s { locals = ls; place = place }) ≡ with_both ls place (act s)

pub apart_pure : {A : Type 0} (a : A) → Apart (pure a)
apart_pure a = record { apart = λ s ls place. refl }

pub apart_stop : {A : Type 0} (e : Stop) → Apart (stop {A = A} e)
apart_stop e = record { apart = λ s ls place. refl }

pub apart_or_stop : {A : Type 0} (e : Stop) (o : Option A) → Apart (or_stop e o)
apart_or_stop e None = apart_stop e
apart_or_stop e (Some a) = apart_pure a

pub apart_then : {A B : Type 0} (act : Act A) (f : A → Act B) → Apart act → ((a : A) → Apart (f a)) → Apart (act >>= f)
apart_then {A = A} {B = B} act f h k = record { apart = λ s ls place. ap (λ o. and_then o f) (h.apart s ls place) ∙ go ls place (act s) }
  where
    go : (ls : List Local) (place : Option ℕ) (o : Outcome A) → and_then (with_both ls place o) f ≡ with_both ls place (and_then o f)
    go ls place (Done a t) = (k a).apart t ls place
    go ls place (Stopped e t) = refl

apart_if : {A : Type 0} (b : Bool) (p q : Act A) → Apart p → Apart q → Apart (cond b p q)
apart_if true p q h k = h
apart_if false p q h k = k

pub apart_declare : (d : ImportDecl) → Apart (declare d)
unfolding declare
apart_declare d = record { apart = λ s ls place. refl }

-- blocks

apart_found : (w : Setting) (address : ℕ) (o : Option Block) → Apart (free_found w address o)
apart_found w address None = apart_stop (stuck w)
apart_found w address (Some b) = record { apart = λ s ls place. refl }

pub apart_free : (w : Setting) (address : ℕ) → Apart (free w address)
unfolding free
apart_free w address = record { apart = λ s ls place. (apart_found w address (owned_block address s)).apart s ls place }

apart_released : (w : Setting) (address : ℕ) (o : Option Block) → Apart (release_found w address o)
apart_released w address None = apart_stop (stuck w)
apart_released w address (Some b) = record { apart = λ s ls place. refl }

pub apart_release : (w : Setting) (address : ℕ) → Apart (release w address)
unfolding release
apart_release w address = record { apart = λ s ls place. (apart_released w address (owned_block address s)).apart s ls place }

-- what looks at the memory or changes it

apart_kept : (w : Setting) (o : Option (List Block)) → Apart (or_stop (stuck w) o >>= keep_blocks)
apart_kept w None = apart_stop (stuck w)
apart_kept w (Some blocks) = record { apart = λ s ls place. refl }

apart_removed : (e : Stop) (address size : ℕ) (o : Option Block) → Apart (or_stop e o >> turn (removed address size))
apart_removed e address size None = apart_stop e
apart_removed e address size (Some b) = record { apart = λ s ls place. refl }

-- the bytes that an owner has are told by the block and by whether it is taken
apart_told : (e : Stop) (address size : ℕ) → Apart (look (owned_bytes address size) >>= or_stop e)
apart_told e address zero = record { apart = λ s ls place. refl }
apart_told e address (suc n) = record { apart = λ s ls place. (apart_or_stop e (owned_bytes address (suc n) s)).apart s ls place }

pub apart_acts : (w : Setting) → Acts w (λ A act. Apart act)
apart_acts w = record {
  gives = λ A a. apart_pure a;
  stops = λ A e. apart_stop e;
  follows = λ A B act f. apart_then act f;
  finds = λ e address n. record { apart = λ s ls place. (apart_or_stop e (untaken address (suc n) s)).apart s ls place };
  tells = apart_told;
  owns = λ address. record { apart = λ s ls place. refl };
  removes = λ e address n. record { apart = λ s ls place. (apart_removed e address (suc n) (untaken address (suc n) s)).apart s ls place };
  loads = λ e address ty. record { apart = λ s ls place. (apart_or_stop e (option_map val.Word (loaded ty address s.heap.blocks))).apart s ls place };
  loads_small = λ e address ty. record { apart = λ s ls place. (apart_or_stop e (option_map val.Word (loaded_small ty address s.heap.blocks))).apart s ls place };
  stores = λ address ty v x is. record { apart = λ s ls place. (apart_kept w (stored ty address x s.heap.blocks)).apart s ls place };
  stores_small = λ address ty z. record { apart = λ s ls place. (apart_kept w (stored_small ty address z s.heap.blocks)).apart s ls place };
}
