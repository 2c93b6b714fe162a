-- When an export's code is done, its locals own nothing: what has an owner is the static area, which is placed where it was asked for.
use Rattle.std.proofs.Common.{◌≡◌, ℕ, true, List, [], ◌∷◌, ◌++◌, Option, None, Some, refl, sym, ap, ◌∙◌}
use Rattle.std.specs.List.{flat_map}
use Rattle.std.specs.Option.{option_to_list}
use Rattle.rust_tree.specs.declared.export.CallBlock.{CallBlock}
use Rattle.wit_model.specs.Bytes.{Bytes}
use Rattle.wrapper_data.specs.declared.choice.Request.{Request}
use Rattle.wrapper_meaning.specs.Items.{SameItems}
use Rattle.wrapper_values.specs.declared.state.Local.{Local}
use Rattle.wrapper_values.specs.declared.state.State.{State}
use Rattle.wrapper_values.specs.Act as machine
use Rattle.wrapper_values.specs.Act.{◌>>=◌}
use Rattle.wrapper_values.specs.Owning.{owned_in}
use Rattle.wrapper_values.specs.Setting.{Setting}
use Rattle.wrapper_run.specs.ExportRun.{keep_result, run_call}
use Rattle.wrapper_run.specs.Run.{run_stmts}
use Rattle.func_gen.specs.Meaning.{owns_of, run_code, run_head}
use Rattle.func_gen.specs.declared.function_bindgen.Code.{Code}
use Rattle.wrapper_closing.specs.Declares.{Area, declare_none}
use Rattle.wrapper_closing.proofs.Leaving.{no_items}
use Rattle.wrapper_closing.proofs.Unasking.{unasked_done}
use Rattle.wrapper_closing.proofs.Unplaced.{unasking_call, unasking_stmts}
use Rattle.abi_driver.proofs.AnswerArea.{only_one}

-- an outcome that is done came from one that was
split_done : {A : Type 0} (o : machine.Outcome (Unit {0})) (g : machine.Act A) (a : A) (t : State) → machine.and_then o (λ u. g) ≡ machine.Done a t → (s : State) × (o ≡ machine.Done tt s) × (g s ≡ machine.Done a t)
split_done (machine.Done u s) g a t h = (s, refl, h)
split_done (machine.Stopped e s) g a t h = absurd cc

-- where the area is not placed at the end, nothing was asked for
asks_nothing : (w : Setting) (bound : Bytes) (code : Code) (call : CallBlock) (s t : State) → code.call ≡ Some call → declare_none Area call.stmts ≡ true → declare_none Area code.stmts ≡ true → run_code w bound code s ≡ machine.Done tt t → t.place ≡ None → t.requests ≡ s.requests
asks_nothing w bound code call s t head plain_call plain_rest ran none =
    let (u, first, second) = split_done (run_head w bound code.call s) (run_stmts w code.stmts) tt t ran in
    let later = unasked_done (run_stmts w code.stmts) (unasking_stmts w code.stmts plain_rest) u t tt second none in
    let earlier = unasked_done (run_call w bound call >>= keep_result w call.result) (unasking_call w bound call plain_call) s u tt (sym (ap (λ c. run_head w bound c s) head) ∙ first) later.1 in
    later.0 ∙ earlier.0

abbrev pub locals_of : State → List ℕ
locals_of s = flat_map (λ (l : Local). owned_in l.value) s.locals

-- nothing has an owner
pub bare_locals : (s : State) → SameItems (owns_of s) [] → locals_of s ≡ []
bare_locals s owns = behind (option_to_list s.place) (locals_of s) (no_items (owns_of s) owns)
  where
    behind : (xs ys : List ℕ) → xs ++ ys ≡ [] → ys ≡ []
    behind [] ys e = e
    behind (x ∷ xs) ys e = absurd cc

-- the area has one, and it is placed
pub placed_locals : (s : State) (a : ℕ) → (s.place ≡ None → ⊥) → SameItems (owns_of s) (a ∷ []) → (locals_of s ≡ []) × (s.place ≡ Some a)
placed_locals s a some owns = by s.place refl
  where
    by : (o : Option ℕ) → s.place ≡ o → (locals_of s ≡ []) × (s.place ≡ Some a)
    by None e = absurd (some e)
    by (Some b) e =
        let both : b ∷ locals_of s ≡ a ∷ [] = sym (ap (λ o. option_to_list o ++ locals_of s) e) ∙ only_one (owns_of s) a owns in
        (cc, e ∙ cc)

-- code that was done, and made a request, placed the area
pub was_placed : (w : Setting) (bound : Bytes) (code : Code) (call : CallBlock) (s t : State) (area : Request) → code.call ≡ Some call → declare_none Area call.stmts ≡ true → declare_none Area code.stmts ≡ true → run_code w bound code s ≡ machine.Done tt t
    → s.requests ≡ [] → t.requests ≡ area ∷ [] → t.place ≡ None → ⊥
was_placed w bound code call s t area head plain_call plain_rest ran none one unplaced =
    let e : area ∷ [] ≡ [] = sym one ∙ asks_nothing w bound code call s t head plain_call plain_rest ran unplaced ∙ none in absurd cc
