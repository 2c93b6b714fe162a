-- Matches: which values an arm's pattern takes, what it binds of them, and how the results of the arm get their names.
use Rattle.std.specs.Prelude.{ℕ, Bool, true, false, nat_eq, ℤ, pos, negsuc, List, [], ◌∷◌, Option, None, Some, if◌then◌else◌}
use Rattle.std.specs.Option.{option_map}
use Rattle.wit_model.specs.Bytes.{Bytes}
use Rattle.rust_tree.specs.declared.item.Item.{Item}
use Rattle.rust_tree.specs.declared.pattern.ArmPattern.{ArmPattern}
use Rattle.rust_tree.specs.declared.pattern.ArmPattern.TheVariants as arm
use Rattle.rust_tree.specs.declared.stmt.MatchNames.{MatchNames}
use Rattle.rust_tree.specs.declared.stmt.MatchNames.TheVariants as names_of
use Rattle.wrapper_data.specs.declared.form.Form.{Form}
use Rattle.wrapper_data.specs.declared.form.Form.TheVariants as form
use Rattle.wrapper_data.specs.declared.run.Stop.{Stop}
use Rattle.wrapper_data.specs.declared.run.Stop.TheVariants as stop_of
use Rattle.wrapper_data.specs.declared.run.TrapKind.TheVariants as trap
use Rattle.wrapper_data.specs.declared.word.Word.TheVariants as word
use Rattle.wrapper_values.specs.declared.state.Val.{Val}
use Rattle.wrapper_values.specs.declared.state.Val.TheVariants as val
use Rattle.wrapper_values.specs.Act.{Act, ◌>>=◌, ◌>>◌, or_stop, pure, stop}
use Rattle.wrapper_values.specs.Locals.{bind}
use Rattle.wrapper_values.specs.Owning.{owned}
use Rattle.wrapper_values.specs.Setting.{Setting, stuck}
use Rattle.wrapper_values.specs.Variants.{case_number, number_of, payload_of}

-- whether an arm takes a value

-- both are numbers of cases; where one is none, there is no meaning
abbrev pub same_case : Option ℕ → Option ℕ → Option Bool
same_case None o = None
same_case (Some n) None = None
same_case (Some n) (Some m) = Some (nat_eq n m)

abbrev pub is_number : ℕ → ℤ → Bool
is_number n (pos m) = nat_eq m n
is_number n (negsuc m) = false

abbrev pub i32_of : Val → Option ℤ
i32_of (val.Word (word.I32 z)) = Some z
i32_of _ = None

unfoldable pub takes : List Item → ArmPattern → Val → Option Bool
takes items (arm.Case path) v = same_case (case_number items path) (number_of v)
takes items (arm.Payload path name) v = same_case (case_number items path) (number_of v)
takes items (arm.LeftOut path) v = same_case (case_number items path) (number_of v)
takes items (arm.Number n) v = option_map (is_number n) (i32_of v)
takes items (arm.Name name) v = Some true
takes items arm.AnyOther v = Some true

-- what it binds

-- what is left out is dropped nowhere, so it owns nothing
abbrev pub left_out : Setting → List ℕ → Act (Unit {0})
left_out w [] = pure tt
left_out w (_ ∷ _) = stop (stuck w)

abbrev pub enter_arm : Setting → ArmPattern → Val → Act (Unit {0})
enter_arm w (arm.Case path) v = left_out w (owned v)
enter_arm w (arm.Payload path name) v = or_stop (stuck w) (option_map val.Value (payload_of v)) >>= bind name
enter_arm w (arm.LeftOut path) v = left_out w (owned v)
enter_arm w (arm.Number n) v = pure tt
enter_arm w (arm.Name name) v = bind name v
enter_arm w arm.AnyOther v = left_out w (owned v)

-- the results of an arm

-- as many values as names
abbrev pub bind_values : Setting → List Bytes → List Val → Act (Unit {0})
bind_values w [] [] = pure tt
bind_values w [] (_ ∷ _) = stop (stuck w)
bind_values w (_ ∷ _) [] = stop (stuck w)
bind_values w (name ∷ names) (v ∷ vs) = bind name v >> bind_values w names vs

abbrev pub bind_one : Setting → Bytes → List Val → Act (Unit {0})
bind_one w name (v ∷ []) = bind name v
bind_one w name _ = stop (stuck w)

-- a tuple of results has two parts or more
abbrev pub bind_tuple : Setting → List Bytes → List Val → Act (Unit {0})
bind_tuple w (first ∷ second ∷ more) vs = bind_values w (first ∷ second ∷ more) vs
bind_tuple w _ vs = stop (stuck w)

abbrev pub bind_results : Setting → MatchNames → List Val → Act (Unit {0})
bind_results w names_of.Nothing vs = bind_values w [] vs
bind_results w (names_of.One name) vs = bind_one w name vs
bind_results w (names_of.Parts names) vs = bind_tuple w names vs

-- the number of a last case is tested in the debug form

abbrev pub expect_number : Form → Stop → ℕ → Option ℤ → Act (Unit {0})
expect_number form.Release stuck n o = pure tt
expect_number form.Debug stuck n None = stop stuck
expect_number form.Debug stuck n (Some z) = if is_number n z then pure tt else stop (stop_of.Trap trap.Discriminant)

abbrev pub assert_last : Setting → ℕ → Val → Act (Unit {0})
assert_last w n v = expect_number w.form (stuck w) n (i32_of v)
