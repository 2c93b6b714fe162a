-- Code that makes no call ends as it does without the blocks beside its own.
use Rattle.std.proofs.Common.{◌≡◌, ℕ, zero, suc, ◌+◌, ◌-◌, ◌%◌, ◌^◌, ◌<◌, ◌||◌, ◌&&◌, inl, inr, Bool, true, false, not, cond, List, [], ◌∷◌, ◌++◌, Option, None, Some, length, refl, sym, ap, subst, ◌∙◌, append-nil, append_assoc}
use Rattle.std.specs.Prelude.{ℤ, drop, filter, find, is_some, nat_eq, nat_le, option_and_then, take}
use Rattle.std.specs.List.{list_any}
use Rattle.std.specs.Option.{option_map}
use Rattle.std.proofs.lemmas.Bool.{and_parts, not-true}
use Rattle.std.proofs.lemmas.List.{append_cancel_left}
use Rattle.wit_model.specs.Bytes.{Bytes}
use Rattle.wit_model.specs.declared.wasm_type.WasmType.{WasmType}
use Rattle.rust_tree.specs.declared.area.StaticArea.{StaticArea}
use Rattle.rust_tree.specs.declared.expr.SmallType.{SmallType}
use Rattle.rust_tree.specs.declared.stmt.ImportDecl.{ImportDecl}
use Rattle.wrapper_data.specs.Answered.{with_writes}
use Rattle.wrapper_data.specs.Heap.{is_block, overlaps_any}
use Rattle.wrapper_data.specs.declared.block.Block.{Block}
use Rattle.wrapper_data.specs.declared.choice.Choice.{Choice}
use Rattle.wrapper_data.specs.declared.choice.Choice.TheVariants as choice
use Rattle.wrapper_data.specs.declared.choice.Request.{Request}
use Rattle.wrapper_data.specs.declared.run.CallPoint.{CallPoint}
use Rattle.wrapper_data.specs.declared.run.Stop.{Stop}
use Rattle.wrapper_data.specs.declared.run.Stop.TheVariants as stop_of
use Rattle.wrapper_data.specs.declared.word.Word.{Word}
use Rattle.wrapper_data.specs.declared.word.Word.TheVariants as word
use Rattle.wrapper_values.specs.declared.owning.View.{View}
use Rattle.wrapper_values.specs.declared.state.Local.{Local}
use Rattle.wrapper_values.specs.declared.state.State.{State}
use Rattle.wrapper_values.specs.declared.state.Val.{Val}
use Rattle.wrapper_values.specs.declared.state.Val.TheVariants as val
use Rattle.wrapper_values.specs.Act.{Act, Outcome, Done, Stopped, ◌>>=◌, ◌>>◌, and_then, or_stop, pure, stop}
use Rattle.wrapper_run.specs.Blocks.{drop_local, drop_locals, free, free_all, free_found, in_scope, keep_blocks, keep_locals, leave_to, look, owned_block, owned_bytes, owns, release, release_found, removed, turn, untaken}
use Rattle.wrapper_values.specs.Effect.{is_word_of, word_of}
use Rattle.wrapper_run.specs.Growth.{Grows, Longer, state_of}
use Rattle.wrapper_values.specs.Locals.{ask_local, bind, declare, give_local, lend_local, local_named, slot_with, usable, use_local, used, value_of, write_slot}
use Rattle.wrapper_run.specs.Memory.{begins_at, block_at, block_from, bytes_at, bytes_from, bytes_of, bytes_of_small, bytes_of_type, holds, is_at, is_inside, loaded, loaded_small, low_bytes, number_from, stored, stored_small, without, word_from, writes_from}
use Rattle.wrapper_run.specs.OtherBlocks.{Beside, Between, EndsBeside, are_clear, are_held, widened}
use Rattle.wrapper_values.specs.Owning.{is_taken, lent, owned, owned_in, view}
use Rattle.wrapper_run.specs.Places.{area_block, area_in, is_fitting, place_area, place_at, place_static, request_of, static_place, static_pointer, with_area}
use Rattle.wrapper_run.specs.Run.{call_import, call_point, record_call, take_answer, take_bytes}
use Rattle.wrapper_values.specs.Setting.{Setting, stuck}
use Rattle.wrapper_run.proofs.BesideLemmas.{any_by, apart_others, at_begins, begun_size, between-any, between-behind, between-find, between-given, between-without, bytes-positive, clear_by, found_any, held_misses, meet_at, meet_beginning, meet_holding, misses, none_by, passes_found, placed_clear, sized_begins, small-positive, without_apart, written_beside}
use Rattle.wrapper_run.proofs.Acts.{Acts, deallocates, lifts, loads_number, loads_word, stores_number, stores_word, takes_bytes}
use Rattle.wrapper_run.proofs.GrowLemmas.{grows_acts, grows_answer, grows_ask, grows_bind, grows_declare, grows_free, grows_import, grows_leave, grows_lend, grows_place, grows_pure, grows_release, grows_scope, grows_static, grows_static_place, grows_stop, grows_then, grows_use, grows_write, longer-same}
use Rattle.wrapper_run.proofs.StoreLemmas.{length_bytes_of, length_low_bytes}
use Rattle.wrapper_run.proofs.Walk.{Everywhere}

-- lists that grow to what they were

empty-first : {A : Type 0} (xs ys : List A) → xs ++ ys ≡ [] → xs ≡ []
empty-first [] ys e = refl
empty-first (x ∷ xs) ys e = absurd (cc)

-- where a longer state has no more calls, none was made on the way
no_calls : (s u t : State) → Longer s u → Longer u t → t.calls ≡ s.calls → u.calls ≡ s.calls
no_calls s u t l m e =
    let all : s.calls ++ (l.new_calls ++ m.new_calls) ≡ s.calls ++ [] = sym (append_assoc s.calls l.new_calls m.new_calls) ∙ ap (λ cs. cs ++ m.new_calls) (sym l.calls) ∙ sym m.calls ∙ e ∙ sym (append-nil s.calls) in
    l.calls ∙ ap (λ cs. s.calls ++ cs) (empty-first l.new_calls m.new_calls (append_cancel_left s.calls (l.new_calls ++ m.new_calls) [] all)) ∙ append-nil s.calls

pub record Alike {A : Type 0} (others : List Block) (held : List ℕ) (act : Act A) : Type 0 where
  pub alike : (s : State) (blocks : List Block) (taken : List ℕ) → Beside others held s blocks taken → (state_of (act s)).calls ≡ s.calls
      → EndsBeside others held (act s) (act (widened blocks taken s))

-- acts that look at no block and change none

abbrev widened_end : {A : Type 0} → List Block → List ℕ → Outcome A → Outcome A
widened_end blocks taken (Done a t) = Done a (widened blocks taken t)
widened_end blocks taken (Stopped e t) = Stopped e (widened blocks taken t)

abbrev Blind : {A : Type 0} → Act A → Type 0
Blind act = (s : State) (blocks : List Block) (taken : List ℕ) → act (widened blocks taken s) ≡ widened_end blocks taken (act s)

module _ (others : List Block) (held : List ℕ) (owned_by_others : are_held others held ≡ true) where
  -- the same blocks and owners in another state
  moved_beside : (s t : State) (blocks : List Block) (taken : List ℕ) → Beside others held s blocks taken → t.heap.blocks ≡ s.heap.blocks → t.taken ≡ s.taken → Beside others held t blocks taken
  moved_beside s t blocks taken b place owners = record {
    blocks_between = subst (λ bs. Between Block others bs blocks) (sym place) b.blocks_between;
    taken_between = subst (λ ts. Between ℕ held ts taken) (sym owners) b.taken_between;
    clear = ap (are_clear others) place ∙ b.clear;
  }

  alike_blind : {A : Type 0} (act : Act A) → Blind act → Alike others held act
  alike_blind {A = A} act h = record { alike = λ s blocks taken b c. go s blocks taken b (act s) (act (widened blocks taken s)) (h s s.heap.blocks s.taken) (h s blocks taken) }
    where
      go : (s : State) (blocks : List Block) (taken : List ℕ) → Beside others held s blocks taken → (o end : Outcome A) → o ≡ widened_end s.heap.blocks s.taken o → end ≡ widened_end blocks taken o → EndsBeside others held o end
      go s blocks taken b (Stopped e t) end same is = tt
      go s blocks taken b (Done a t) end same is =
          inr (blocks, taken, moved_beside s t blocks taken b (ap (λ (o : Outcome A). (state_of o).heap.blocks) same) (ap (λ (o : Outcome A). (state_of o).taken) same), is)

  alike_pure : {A : Type 0} (a : A) → Alike others held (pure a)
  alike_pure a = alike_blind (pure a) (λ s blocks taken. refl)

  alike_stop : {A : Type 0} (e : Stop) → Alike {A = A} others held (stop e)
  alike_stop e = record { alike = λ s blocks taken b c. tt }

  alike_if : {A : Type 0} (b : Bool) (p q : Act A) → Alike others held p → Alike others held q → Alike others held (cond b p q)
  alike_if true p q h k = h
  alike_if false p q h k = k

  -- one act after the other: where no call is made in all, none is made by the first
  alike_then : {A B : Type 0} (act : Act A) (f : A → Act B) → Grows act → ((a : A) → Grows (f a)) → Alike others held act → ((a : A) → Alike others held (f a)) → Alike others held (act >>= f)
  alike_then {A = A} {B = B} act f g gs h k = record { alike = λ s blocks taken b c. go s (act s) (act (widened blocks taken s)) (g.grows s) (h.alike s blocks taken b) c }
    where
      bad : (u : State) (o : Outcome B) → EndsBeside others held o (Stopped stop_of.BadChoice u)
      bad u (Done x v) = inl (u, refl)
      bad u (Stopped e v) = tt

      behind : (a : A) (t : State) (end : Outcome A) → (state_of (f a t)).calls ≡ t.calls → EndsBeside others held (Done a t) end → EndsBeside others held (f a t) (and_then end f)
      behind a t end c (inr (bs, ts, b, is)) = subst (λ end. EndsBeside others held (f a t) (and_then end f)) (sym is) ((k a).alike t bs ts b c)
      behind a t end c (inl (u, is)) = subst (λ end. EndsBeside others held (f a t) (and_then end f)) (sym is) (bad u (f a t))

      go : (s : State) (o end : Outcome A) → Longer s (state_of o) → ((state_of o).calls ≡ s.calls → EndsBeside others held o end) → (state_of (and_then o f)).calls ≡ s.calls → EndsBeside others held (and_then o f) (and_then end f)
      go s (Stopped e t) end l h c = tt
      go s (Done a t) end l h c = let before = no_calls s t (state_of (f a t)) l ((gs a).grows t) c in behind a t end (c ∙ sym before) (h before)

  -- blocks that owners have

  record OwnedBeside (s : State) (blocks : List Block) (taken : List ℕ) (address : ℕ) (x : Block) : Type 0 where
    same : owned_block address (widened blocks taken s) ≡ Some x
    apart : list_any (begins_at address) others ≡ false
    begins : begins_at address x ≡ true

  owned_beside : (s : State) (blocks : List Block) (taken : List ℕ) (address : ℕ) (x : Block) → Beside others held s blocks taken → owned_block address s ≡ Some x → OwnedBeside s blocks taken address x
  owned_beside s blocks taken address x b e = go (is_taken address s.taken) refl e
    where
      go : (t : Bool) → is_taken address s.taken ≡ t → cond t (block_from address s.heap.blocks) None ≡ Some x → OwnedBeside s blocks taken address x
      go false is e = absurd (cc)
      go true is e =
          let apart = misses (begins_at address) (meet_beginning address) others s.heap.blocks b.clear (found_any (begins_at address) s.heap.blocks x e) in
          record {
            same = ap (λ t. cond t (block_from address blocks) None) (between-any (λ t. nat_eq t address) b.taken_between (held_misses others held address owned_by_others apart) ∙ is)
                ∙ between-find (begins_at address) b.blocks_between apart ∙ e;
            apart = apart;
            begins = passes_found (begins_at address) s.heap.blocks x e;
          }

  alike_free : (w : Setting) (address : ℕ) → Alike others held (free w address)
  unfolding free
  alike_free w address = record { alike = λ s blocks taken b c. go s blocks taken b (owned_block address s) refl }
    where
      go : (s : State) (blocks : List Block) (taken : List ℕ) → Beside others held s blocks taken → (o : Option Block) → owned_block address s ≡ o
          → EndsBeside others held (free_found w address o s) (free_found w address (owned_block address (widened blocks taken s)) (widened blocks taken s))
      go s blocks taken b None e = tt
      go s blocks taken b (Some x) e =
          let k = owned_beside s blocks taken address x b e in
          let pos = begun_size address x k.begins in
          let apart = none_by (is_at address x.size) (begins_at address) (sized_begins address x.size pos) others k.apart in
          subst (λ o. EndsBeside others held (free_found w address (Some x) s) (free_found w address o (widened blocks taken s))) (sym k.same)
          (inr (
            without address x.size blocks,
            filter (λ t. not (nat_eq t address)) taken,
            record {
              blocks_between = between-without address x.size b.blocks_between apart;
              taken_between = between-given address b.taken_between (held_misses others held address owned_by_others k.apart);
              clear = clear_by s.heap.blocks (without address x.size s.heap.blocks) (λ o e. without_apart o address x.size s.heap.blocks e) others b.clear;
            },
            refl,
          ))

  alike_release : (w : Setting) (address : ℕ) → Alike others held (release w address)
  unfolding release
  alike_release w address = record { alike = λ s blocks taken b c. go s blocks taken b (owned_block address s) refl }
    where
      go : (s : State) (blocks : List Block) (taken : List ℕ) → Beside others held s blocks taken → (o : Option Block) → owned_block address s ≡ o
          → EndsBeside others held (release_found w address o s) (release_found w address (owned_block address (widened blocks taken s)) (widened blocks taken s))
      go s blocks taken b None e = tt
      go s blocks taken b (Some x) e =
          let k = owned_beside s blocks taken address x b e in
          subst (λ o. EndsBeside others held (release_found w address (Some x) s) (release_found w address o (widened blocks taken s))) (sym k.same)
          (inr (
            blocks,
            filter (λ t. not (nat_eq t address)) taken,
            record {
              blocks_between = b.blocks_between;
              taken_between = between-given address b.taken_between (held_misses others held address owned_by_others k.apart);
              clear = b.clear;
            },
            refl,
          ))

  -- blocks that no owner has

  record UntakenBeside (s : State) (blocks : List Block) (taken : List ℕ) (address n : ℕ) (x : Block) : Type 0 where
    same : untaken address (suc n) (widened blocks taken s) ≡ Some x
    apart : list_any (is_at address (suc n)) others ≡ false

  untaken_beside : (s : State) (blocks : List Block) (taken : List ℕ) (address n : ℕ) (x : Block) → Beside others held s blocks taken → untaken address (suc n) s ≡ Some x → UntakenBeside s blocks taken address n x
  untaken_beside s blocks taken address n x b e = go (is_taken address s.taken) refl e
    where
      go : (t : Bool) → is_taken address s.taken ≡ t → cond t None (block_at address (suc n) s.heap.blocks) ≡ Some x → UntakenBeside s blocks taken address n x
      go true is e = absurd (cc)
      go false is e =
          let here = found_any (is_at address (suc n)) s.heap.blocks x e in
          let apart = misses (is_at address (suc n)) (meet_at address n) others s.heap.blocks b.clear here in
          let far = misses (begins_at address) (meet_beginning address) others s.heap.blocks b.clear (any_by (is_at address (suc n)) (begins_at address) (at_begins address n) s.heap.blocks here) in
          record {
            same = ap (λ t. cond t None (block_at address (suc n) blocks)) (between-any (λ t. nat_eq t address) b.taken_between (held_misses others held address owned_by_others far) ∙ is)
                ∙ between-find (is_at address (suc n)) b.blocks_between apart ∙ e;
            apart = apart;
          }

  -- what is looked for is there beside others too
  found_beside : {X : Type 0} (e : Stop) (s : State) (blocks : List Block) (taken : List ℕ) (o p : Option X) → Beside others held s blocks taken → ((x : X) → o ≡ Some x → p ≡ Some x) → EndsBeside others held (or_stop e o s) (or_stop e p (widened blocks taken s))
  found_beside e s blocks taken None p b h = tt
  found_beside e s blocks taken (Some x) p b h = inr (blocks, taken, b, ap (λ p. or_stop e p (widened blocks taken s)) (h x refl))

  alike_finds : (e : Stop) (address n : ℕ) → Alike others held (look (untaken address (suc n)) >>= or_stop e)
  alike_finds e address n = record {
    alike = λ s blocks taken b c. found_beside e s blocks taken (untaken address (suc n) s) (untaken address (suc n) (widened blocks taken s)) b (λ x h. (untaken_beside s blocks taken address n x b h).same);
  }

  alike_owns : (address : ℕ) → Alike others held (owns address)
  alike_owns address =
      record {
        alike = λ s blocks taken b c. inr (blocks, taken ++ address ∷ [], record { blocks_between = b.blocks_between; taken_between = between-behind address b.taken_between; clear = b.clear }, refl);
      }

  alike_removes : (e : Stop) (address n : ℕ) → Alike others held (look (untaken address (suc n)) >>= (λ o. or_stop e o >> turn (removed address (suc n))))
  alike_removes e address n = record { alike = λ s blocks taken b c. go s blocks taken b (untaken address (suc n) s) refl }
    where
      go : (s : State) (blocks : List Block) (taken : List ℕ) → Beside others held s blocks taken → (o : Option Block) → untaken address (suc n) s ≡ o
          → EndsBeside others held ((or_stop e o >> turn (removed address (suc n))) s) ((or_stop e (untaken address (suc n) (widened blocks taken s)) >> turn (removed address (suc n))) (widened blocks taken s))
      go s blocks taken b None f = tt
      go s blocks taken b (Some x) f =
          let k = untaken_beside s blocks taken address n x b f in
          subst (λ o. EndsBeside others held ((or_stop e (Some x) >> turn (removed address (suc n))) s) ((or_stop e o >> turn (removed address (suc n))) (widened blocks taken s))) (sym k.same)
          (inr (
            without address (suc n) blocks,
            taken,
            record {
              blocks_between = between-without address (suc n) b.blocks_between k.apart;
              taken_between = b.taken_between;
              clear = clear_by s.heap.blocks (without address (suc n) s.heap.blocks) (λ o e. without_apart o address (suc n) s.heap.blocks e) others b.clear;
            },
            refl,
          ))

  -- texts

  owned_bytes_beside : (s : State) (blocks : List Block) (taken : List ℕ) (address size : ℕ) (bytes : List ℕ) → Beside others held s blocks taken → owned_bytes address size s ≡ Some bytes → owned_bytes address size (widened blocks taken s) ≡ Some bytes
  owned_bytes_beside s blocks taken address zero bytes b e = e
  owned_bytes_beside s blocks taken address (suc n) bytes b e = go (is_taken address s.taken) (block_at address (suc n) s.heap.blocks) refl refl e
    where
      go : (t : Bool) (o : Option Block) → is_taken address s.taken ≡ t → block_at address (suc n) s.heap.blocks ≡ o → cond t (option_and_then (λ b. bytes_from b.cells 0 (suc n)) o) None ≡ Some bytes
          → owned_bytes address (suc n) (widened blocks taken s) ≡ Some bytes
      go false o is f e = absurd (cc)
      go true None is f e = absurd (cc)
      go true (Some x) is f e =
          let here = found_any (is_at address (suc n)) s.heap.blocks x f in
          let apart = misses (is_at address (suc n)) (meet_at address n) others s.heap.blocks b.clear here in
          let far = misses (begins_at address) (meet_beginning address) others s.heap.blocks b.clear (any_by (is_at address (suc n)) (begins_at address) (at_begins address n) s.heap.blocks here) in
          ap (λ t. cond t (option_and_then (λ b. bytes_from b.cells 0 (suc n)) (block_at address (suc n) blocks)) None)
          (between-any (λ t. nat_eq t address) b.taken_between (held_misses others held address owned_by_others far) ∙ is)
          ∙ ap (option_and_then (λ b. bytes_from b.cells 0 (suc n))) (between-find (is_at address (suc n)) b.blocks_between apart ∙ f) ∙ e

  alike_tells : (e : Stop) (address size : ℕ) → Alike others held (look (owned_bytes address size) >>= or_stop e)
  alike_tells e address size = record {
    alike = λ s blocks taken b c. found_beside e s blocks taken (owned_bytes address size s) (owned_bytes address size (widened blocks taken s)) b (λ bytes. owned_bytes_beside s blocks taken address size bytes b);
  }

  -- loads

  bytes_beside : (s : State) (blocks : List Block) (taken : List ℕ) (address size : ℕ) (bytes : List ℕ) → 0 < size → Beside others held s blocks taken → bytes_at address size s.heap.blocks ≡ Some bytes → bytes_at address size blocks ≡ Some bytes
  bytes_beside s blocks taken address size bytes pos b e = go (find (holds address size) s.heap.blocks) refl e
    where
      go : (o : Option Block) → find (holds address size) s.heap.blocks ≡ o → option_and_then (λ b. bytes_from b.cells (address - b.address) size) o ≡ Some bytes → bytes_at address size blocks ≡ Some bytes
      go None f e = absurd (cc)
      go (Some x) f e =
          let apart = misses (holds address size) (meet_holding address size pos) others s.heap.blocks b.clear (found_any (holds address size) s.heap.blocks x f) in
          ap (option_and_then (λ (b : Block). bytes_from b.cells (address - b.address) size)) (between-find (holds address size) b.blocks_between apart ∙ f) ∙ e

  -- a value that is read of bytes
  read_beside : (s : State) (blocks : List Block) (taken : List ℕ) (address size : ℕ) (aligned : Bool) (of : List ℕ → Word) (x : Word) → 0 < size → Beside others held s blocks taken
      → cond aligned (option_map of (bytes_at address size s.heap.blocks)) None ≡ Some x → cond aligned (option_map of (bytes_at address size blocks)) None ≡ Some x
  read_beside s blocks taken address size false of x pos b e = absurd (cc)
  read_beside s blocks taken address size true of x pos b e = go (bytes_at address size s.heap.blocks) refl e
    where
      go : (o : Option (List ℕ)) → bytes_at address size s.heap.blocks ≡ o → option_map of o ≡ Some x → option_map of (bytes_at address size blocks) ≡ Some x
      go None f e = absurd (cc)
      go (Some bytes) f e = ap (option_map of) (bytes_beside s blocks taken address size bytes pos b f) ∙ e

  -- a word is read of them
  word_beside : (o p : Option Word) → ((x : Word) → o ≡ Some x → p ≡ Some x) → (v : Val) → option_map val.Word o ≡ Some v → option_map val.Word p ≡ Some v
  word_beside None p h v e = absurd (cc)
  word_beside (Some x) p h v e = ap (option_map val.Word) (h x refl) ∙ e

  alike_loads : (e : Stop) (place : ℕ) (ty : WasmType) → Alike others held (look (λ s. option_map val.Word (loaded ty place s.heap.blocks)) >>= or_stop e)
  unfolding loaded
  alike_loads e place ty = record {
    alike = λ s blocks taken b c.
        found_beside e s blocks taken (option_map val.Word (loaded ty place s.heap.blocks)) (option_map val.Word (loaded ty place blocks)) b
        (word_beside (loaded ty place s.heap.blocks) (loaded ty place blocks) (λ x. read_beside s blocks taken place (bytes_of_type ty) (nat_eq (place % bytes_of_type ty) 0) (word_from ty) x (bytes-positive ty) b));
  }

  alike_loads_small : (e : Stop) (place : ℕ) (ty : SmallType) → Alike others held (look (λ s. option_map val.Word (loaded_small ty place s.heap.blocks)) >>= or_stop e)
  unfolding loaded_small
  alike_loads_small e place ty = record {
    alike = λ s blocks taken b c.
        found_beside e s blocks taken (option_map val.Word (loaded_small ty place s.heap.blocks)) (option_map val.Word (loaded_small ty place blocks)) b
        (word_beside (loaded_small ty place s.heap.blocks) (loaded_small ty place blocks)
        (λ x. read_beside s blocks taken place (bytes_of_small ty) (nat_eq (place % bytes_of_small ty) 0) (λ bytes. word.I32 (number_from ty bytes)) x (small-positive ty) b));
  }

  -- stores

  some_any : {A : Type 0} (p : A → Bool) (xs : List A) → is_some (find p xs) ≡ true → list_any p xs ≡ true
  some_any p [] e = absurd (cc)
  some_any p (x ∷ xs) e = go (p x) e (some_any p xs)
    where
      go : (b : Bool) → is_some (cond b (Some x) (find p xs)) ≡ true → (is_some (find p xs) ≡ true → list_any p xs ≡ true) → (b || list_any p xs) ≡ true
      go true e more = refl
      go false e more = more e

  written : (w : Setting) (s : State) (blocks : List Block) (taken : List ℕ) (place size : ℕ) (aligned : Bool) (bytes : List ℕ) → 0 < size → length bytes ≡ size → Beside others held s blocks taken
      → EndsBeside others held (and_then (or_stop (stuck w) (cond (aligned && is_inside place size s.heap.blocks) (Some (with_writes s.heap.blocks (writes_from place bytes))) None) s) keep_blocks)
      (and_then (or_stop (stuck w) (cond (aligned && is_inside place size blocks) (Some (with_writes blocks (writes_from place bytes))) None) (widened blocks taken s)) keep_blocks)
  written w s blocks taken place size false bytes pos l b = tt
  written w s blocks taken place size true bytes pos l b = go (is_inside place size s.heap.blocks) refl
    where
      go : (t : Bool) → is_inside place size s.heap.blocks ≡ t
          → EndsBeside others held (and_then (or_stop (stuck w) (cond t (Some (with_writes s.heap.blocks (writes_from place bytes))) None) s) keep_blocks)
          (and_then (or_stop (stuck w) (cond (is_inside place size blocks) (Some (with_writes blocks (writes_from place bytes))) None) (widened blocks taken s)) keep_blocks)
      go false e = tt
      go true e =
          let parts = and_parts (nat_le (place + size) (2 ^ 32)) (is_some (find (holds place size) s.heap.blocks)) e in
          let here = some_any (holds place size) s.heap.blocks parts.1 in
          let apart = misses (holds place size) (meet_holding place size pos) others s.heap.blocks b.clear here in
          let there : is_inside place size blocks ≡ true = ap (λ o. nat_le (place + size) (2 ^ 32) && is_some o) (between-find (holds place size) b.blocks_between apart) ∙ e in
          let k = written_beside others s.heap.blocks blocks place bytes size l here b.blocks_between b.clear in
          inr (
            with_writes blocks (writes_from place bytes),
            taken,
            record { blocks_between = k.between; taken_between = b.taken_between; clear = k.clear },
            ap (λ t. and_then (or_stop (stuck w) (cond t (Some (with_writes blocks (writes_from place bytes))) None) (widened blocks taken s)) keep_blocks) there,
          )

  -- a word that a value is, is one of the type
  word_so : (ty : WasmType) (v : Val) (x : Word) → word_of ty v ≡ Some x → is_word_of ty x ≡ true
  word_so ty (val.Word y) x e = go (is_word_of ty y) refl e
    where
      go : (t : Bool) → is_word_of ty y ≡ t → cond t (Some y) None ≡ Some x → is_word_of ty x ≡ true
      go true is e = let same : y ≡ x = cc in ap (is_word_of ty) (sym same) ∙ is
      go false is e = absurd (cc)
  word_so ty (val.Value r) x e = absurd (cc)
  word_so ty (val.Area b n) x e = absurd (cc)

  alike_stores : (w : Setting) (place : ℕ) (ty : WasmType) (v : Val) (x : Word) → word_of ty v ≡ Some x → Alike others held (look (λ s. stored ty place x s.heap.blocks) >>= or_stop (stuck w) >>= keep_blocks)
  unfolding stored
  alike_stores w place ty v x is = record {
    alike = λ s blocks taken b c. written w s blocks taken place (bytes_of_type ty) (nat_eq (place % bytes_of_type ty) 0) (bytes_of x) (bytes-positive ty) (length_bytes_of ty x (word_so ty v x is)) b;
  }

  alike_stores_small : (w : Setting) (place : ℕ) (ty : SmallType) (z : ℤ) → Alike others held (look (λ s. stored_small ty place z s.heap.blocks) >>= or_stop (stuck w) >>= keep_blocks)
  unfolding stored_small
  alike_stores_small w place ty z = record {
    alike = λ s blocks taken b c. written w s blocks taken place (bytes_of_small ty) (nat_eq (place % bytes_of_small ty) 0) (low_bytes ty z) (small-positive ty) (length_low_bytes ty z) b;
  }

  -- areas

  alike_place_at : (r : Request) (choices : List Choice) → Alike others held (place_at r choices)
  alike_place_at r [] = alike_stop stop_of.BadChoice
  alike_place_at r (choice.Refuse ∷ choices) = alike_stop stop_of.BadChoice
  alike_place_at r (choice.At address ∷ choices) = record { alike = λ s blocks taken b c. go s blocks taken b (is_fitting address r s.heap.blocks) (is_fitting address r blocks) refl }
    where
      go : (s : State) (blocks : List Block) (taken : List ℕ) → Beside others held s blocks taken → (t u : Bool) → is_fitting address r blocks ≡ u
          → EndsBeside others held (cond {A = Outcome (ℕ × ℕ)} t (Done (address, r.size) (record (with_area address r s) { choices = choices })) (Stopped stop_of.BadChoice s))
          (cond {A = Outcome (ℕ × ℕ)} u (Done (address, r.size) (record (with_area address r (widened blocks taken s)) { choices = choices })) (Stopped stop_of.BadChoice (widened blocks taken s)))
      go s blocks taken b false u e = tt
      go s blocks taken b true false e = inl (widened blocks taken s, refl)
      go s blocks taken b true true e =
          let area = area_block address r in
          let parts = and_parts (is_block area && not (overlaps_any area blocks)) (nat_eq (address % r.align) 0) e in
          let apart = not-true (overlaps_any area blocks) (and_parts (is_block area) (not (overlaps_any area blocks)) parts.0).1 in
          inr (
            blocks ++ area ∷ [],
            taken ++ address ∷ [],
            record {
              blocks_between = between-behind area b.blocks_between;
              taken_between = between-behind address b.taken_between;
              clear = placed_clear area s.heap.blocks others (apart_others area b.blocks_between apart) b.clear;
            },
            refl,
          )

  alike_place : (w : Setting) (r : Request) → Alike others held (place_area w r)
  unfolding place_area
  alike_place w r = record { alike = λ s blocks taken b c. (go s.choices (nat_eq r.size 0 || nat_eq r.align 0)).alike s blocks taken b c }
    where
      go : (choices : List Choice) (t : Bool) → Alike others held (λ s. cond t (Stopped (stuck w) s) (place_at r choices (record s { requests = s.requests ++ r ∷ [] })))
      go choices true = alike_stop (stuck w)
      go choices false = record {
        alike = λ s blocks taken b c.
            let asked : State = record s { requests = s.requests ++ r ∷ [] } in
            (alike_place_at r choices).alike asked blocks taken (moved_beside s asked blocks taken b refl refl) c;
      }

  alike_static : (w : Setting) → Alike others held (static_pointer w)
  unfolding static_pointer
  alike_static w = record {
    alike = λ s blocks taken b c.
        (alike_then (static_place w s.place) (λ address. pure (val.Word (word.Pointer address))) (grows_static_place w s.place) (λ address. grows_pure (val.Word (word.Pointer address))) (go s.place) (λ address. alike_pure (val.Word (word.Pointer address)))).alike s blocks taken b c;
  }
    where
      placed : (a : Option StaticArea) → Alike others held (place_static w a)
      placed None = alike_stop (stuck w)
      placed (Some a) =
          alike_then (place_area w (request_of a.size a.align)) (λ p. λ s. Done p.0 (record s { place = Some p.0 })) (grows_place w (request_of a.size a.align)) (λ p. record { grows = λ s. longer-same s _ refl refl })
          (alike_place w (request_of a.size a.align)) (λ p. alike_blind (λ s. Done p.0 (record s { place = Some p.0 })) (λ s blocks taken. refl))

      go : (place : Option ℕ) → Alike others held (static_place w place)
      go None = placed (area_in w.items)
      go (Some address) = alike_pure address

  -- a call adds one

  added_call : (s t : State) (p : CallPoint) → Longer (record s { calls = s.calls ++ p ∷ [] }) t → t.calls ≡ s.calls → ⊥
  added_call s t p l c =
      let all : s.calls ++ (p ∷ l.new_calls) ≡ s.calls ++ [] = sym (append_assoc s.calls (p ∷ []) l.new_calls) ∙ sym l.calls ∙ c ∙ sym (append-nil s.calls) in
      let none : p ∷ l.new_calls ≡ [] = append_cancel_left s.calls (p ∷ l.new_calls) [] all in cc

  alike_import : (w : Setting) (name : Bytes) (vs : List Val) → Alike others held (call_import w name vs)
  alike_import w name vs = record { alike = λ s blocks taken b c. go s (call_point s name vs) c (call_import w name vs (widened blocks taken s)) }
    where
      go : (s : State) (o : Option (CallPoint × Option WasmType)) → (state_of (and_then (or_stop (stuck w) o s) (λ p. record_call p.0 >> take_answer w p.1))).calls ≡ s.calls → (end : Outcome Val)
          → EndsBeside others held (and_then (or_stop (stuck w) o s) (λ p. record_call p.0 >> take_answer w p.1)) end
      go s None c end = tt
      go s (Some p) c end = let called : State = record s { calls = s.calls ++ p.0 ∷ [] } in absurd (added_call s (state_of (take_answer w p.1 called)) p.0 ((grows_answer w p.1).grows called) c)

  -- locals

  alike_use : (e : Stop) (name : Bytes) → Alike others held (use_local e name)
  unfolding use_local
  alike_use e name = alike_blind (use_local e name) (λ s blocks taken. go s blocks taken (option_and_then usable (value_of (local_named name s.locals))))
    where
      after : (s : State) (blocks : List Block) (taken : List ℕ) (v : Val) (addresses : List ℕ) → used name v addresses (widened blocks taken s) ≡ widened_end blocks taken (used name v addresses s)
      after s blocks taken v [] = refl
      after s blocks taken v (a ∷ more) = refl

      go : (s : State) (blocks : List Block) (taken : List ℕ) (o : Option Val) → and_then (or_stop e o (widened blocks taken s)) (λ v. used name v (owned v)) ≡ widened_end blocks taken (and_then (or_stop e o s) (λ v. used name v (owned v)))
      go s blocks taken None = refl
      go s blocks taken (Some v) = after s blocks taken v (owned v)

  looked : {A : Type 0} (e : Stop) (o : Option A) → Blind (or_stop e o)
  looked e None s blocks taken = refl
  looked e (Some a) s blocks taken = refl

  alike_lend : (e : Stop) (name : Bytes) → Alike others held (lend_local e name)
  unfolding lend_local
  alike_lend e name = alike_blind (lend_local e name) (λ s blocks taken. looked e (option_and_then lent (value_of (local_named name s.locals))) s blocks taken)

  alike_ask : (e : Stop) (of : View) (name : Bytes) → Alike others held (ask_local e of name)
  unfolding ask_local
  alike_ask e of name = alike_blind (ask_local e of name) (λ s blocks taken. looked e (option_map val.Word (option_and_then (view of) (value_of (local_named name s.locals)))) s blocks taken)

  alike_bind : (name : Bytes) (v : Val) → Alike others held (bind name v)
  unfolding bind
  alike_bind name v = alike_blind (bind name v) (λ s blocks taken. refl)

  alike_write : (e : Stop) (name : Bytes) (v : Val) → Alike others held (write_slot e name v)
  unfolding write_slot
  alike_write e name v = alike_blind (write_slot e name v) (λ s blocks taken. go s blocks taken (option_and_then (slot_with v) (value_of (local_named name s.locals))))
    where
      go : (s : State) (blocks : List Block) (taken : List ℕ) (o : Option Val) → and_then (or_stop e o (widened blocks taken s)) (give_local name) ≡ widened_end blocks taken (and_then (or_stop e o s) (give_local name))
      go s blocks taken None = refl
      go s blocks taken (Some x) = refl

  alike_declare : (d : ImportDecl) → Alike others held (declare d)
  unfolding declare
  alike_declare d = alike_blind (declare d) (λ s blocks taken. refl)

  -- an act only adds calls, and ends beside others as it does alone
  abbrev pub Frames : (A : Type 0) → Act A → Type 0
  Frames A act = Grows act × Alike others held act

  -- a scope, whose locals go at its end

  frames_then : {A B : Type 0} (act : Act A) (f : A → Act B) → Frames A act → ((a : A) → Frames B (f a)) → Frames B (act >>= f)
  frames_then act f h k = (grows_then act f h.0 (λ a. (k a).0), alike_then act f h.0 (λ a. (k a).0) h.1 (λ a. (k a).1))

  frames_frees : (w : Setting) (addresses : List ℕ) → Frames (Unit {0}) (free_all w addresses)
  frames_frees w [] = (grows_pure tt, alike_pure tt)
  frames_frees w (a ∷ more) = frames_then (free w a) (λ _. free_all w more) (grows_free w a, alike_free w a) (λ _. frames_frees w more)

  frames_drops : (w : Setting) (locals : List Local) → Frames (Unit {0}) (drop_locals w locals)
  frames_drops w [] = (grows_pure tt, alike_pure tt)
  frames_drops w (l ∷ locals) = frames_then (drop_locals w locals) (λ _. drop_local w l.value) (frames_drops w locals) (λ _. frames_frees w (owned_in l.value))

  alike_leave : (w : Setting) (kept : ℕ) → Alike others held (leave_to w kept)
  unfolding leave_to
  alike_leave w kept = record {
    alike = λ s blocks taken b c.
        let bare : State = record s { locals = [] } in
        (gone (drop kept s.locals) (take kept s.locals)).1.alike bare blocks taken (moved_beside s bare blocks taken b refl refl) c;
  }
    where
      gone : (locals rest : List Local) → Frames (Unit {0}) (drop_locals w locals >> keep_locals rest)
      gone locals rest =
          frames_then (drop_locals w locals) (λ _. keep_locals rest) (frames_drops w locals)
          (λ _. (record { grows = λ s. longer-same s _ refl refl }, alike_blind (keep_locals rest) (λ s blocks taken. refl)))

  pub frames_scope : {A : Type 0} (w : Setting) (act : Act A) → Frames A act → Frames A (in_scope w act)
  frames_scope w act f = (grows_scope w act f.0, record { alike = λ s. (alike_then act (λ a. leave_to w (length s.locals) >> pure a) f.0 (λ a. grows_leaving s a) f.1 (λ a. alike_leaving s a)).alike s })
    where
      grows_leaving : {A : Type 0} (s : State) (a : A) → Grows (leave_to w (length s.locals) >> pure a)
      grows_leaving s a = grows_then (leave_to w (length s.locals)) (λ _. pure a) (grows_leave w (length s.locals)) (λ _. grows_pure a)

      alike_leaving : {A : Type 0} (s : State) (a : A) → Alike others held (leave_to w (length s.locals) >> pure a)
      alike_leaving s a = alike_then (leave_to w (length s.locals)) (λ _. pure a) (grows_leave w (length s.locals)) (λ _. grows_pure a) (alike_leave w (length s.locals)) (λ _. alike_pure a)

  frames_acts : (w : Setting) → Acts w Frames
  frames_acts w =
      let g = grows_acts w in
      record {
        gives = λ A a. (grows_pure a, alike_pure a);
        stops = λ A e. (grows_stop e, alike_stop e);
        follows = λ A B act f. frames_then act f;
        finds = λ e address n. (g.finds e address n, alike_finds e address n);
        tells = λ e address size. (g.tells e address size, alike_tells e address size);
        owns = λ address. (g.owns address, alike_owns address);
        removes = λ e address n. (g.removes e address n, alike_removes e address n);
        loads = λ e address ty. (g.loads e address ty, alike_loads e address ty);
        loads_small = λ e address ty. (g.loads_small e address ty, alike_loads_small e address ty);
        stores = λ address ty v x is. (g.stores address ty v x is, alike_stores w address ty v x is);
        stores_small = λ address ty z. (g.stores_small address ty z, alike_stores_small w address ty z);
      }

  -- the length is that of a local
  taken : (w : Setting) (name : Bytes) (v : Val) (s : State) → Frames Val (take_bytes w (value_of (local_named name s.locals)) v)
  taken w name v s = takes_bytes w Frames (frames_acts w) (value_of (local_named name s.locals)) v

  pub frames_everywhere : (w : Setting) (known : Bytes → Bool) → Everywhere w known Frames
  frames_everywhere w known = record {
    gives = λ A a. (grows_pure a, alike_pure a);
    stops = λ A e. (grows_stop e, alike_stop e);
    follows = λ A B act f. frames_then act f;
    uses = λ name _. (grows_use (stuck w) name, alike_use (stuck w) name);
    lends = λ name _. (grows_lend (stuck w) name, alike_lend (stuck w) name);
    asks = λ of name _. (grows_ask (stuck w) of name, alike_ask (stuck w) of name);
    binds = λ name v _. (grows_bind name v, alike_bind name v);
    declares = λ d. (grows_declare d, alike_declare d);
    frees = λ address. (grows_free w address, alike_free w address);
    releases = λ address. (grows_release w address, alike_release w address);
    deallocates = deallocates w Frames (frames_acts w);
    takes = λ name v k. (record { grows = λ s. (taken w name v s).0.grows s }, record { alike = λ s. (taken w name v s).1.alike s });
    lifts = lifts w Frames (frames_acts w);
    loads = loads_word w Frames (frames_acts w);
    loads_small = loads_number w Frames (frames_acts w);
    stores = stores_word w Frames (frames_acts w);
    stores_small = stores_number w Frames (frames_acts w);
    places = λ r. (grows_place w r, alike_place w r);
    static = (grows_static w, alike_static w);
    calls = λ name vs _. (grows_import w name vs, alike_import w name vs);
    writes = λ name v _. (grows_write (stuck w) name v, alike_write (stuck w) name v);
    scopes = λ A act. frames_scope w act;
  }
