use Rattle.std.proofs.Common.{◌≡◌, ◌≤◌, ◌+◌, ◌-◌, List, [], ◌∷◌, ◌++◌, length, take, drop, refl, sym, ap, ◌∙◌, subst, arith, length-drop}
use Rattle.std.proofs.lemmas.List.{drop-drop, length-take-le, take-append-drop}
use Rattle.wit_model.specs.Reaches.{reaches_itself}
use Rattle.wit_layout.specs.Extent.{flag_words}
use Rattle.wit_layout.specs.Flat.{words_of_flags}
use Rattle.abi_bindgen.specs.FlagSets.{AreFlags}
use Rattle.abi_bindgen.specs.Flow.{emit}
use Rattle.abi_bindgen.specs.Instructions.{Emits}
use Rattle.abi_bindgen.specs.declared.instruction.Instruction.TheVariants.{FlagsLift}
use Rattle.abi_driver.proofs.FlagSteps.{flags_lifts}
use Rattle.abi_bindgen.proofs.FlagLowers.{one_count}
use Rattle.abi_bindgen.proofs.FlatCode.{lift_flags_code}
use Rattle.abi_driver.proofs.LiftSteps.{lifts_as}
use Rattle.abi_bindgen.proofs.Records.{flags_shape}
use Rattle.abi_bindgen.proofs.FlowSteps.{flows_as}
use Rattle.abi_bindgen.proofs.WordCounts.{length_words}
use Rattle.abi_driver.proofs.lift.flags.lift_flags.Goals as goal

pub send_one-requires : goal.send_one-requires
send_one-requires g c =
    let types = c.args.resolve.now.types in
    let members = c.args.members.now in
    let n = length members in
    let count = c.flag_words.result in
    let read = drop c.args.at c.args.words.now in
    let used = take (c.args.at + count - c.args.at) read in
    let are : AreFlags types c.args.id.0 n = (members, c.requires.here, refl) in
    let is = c.from_vec-used.ensures ∙ c.in_ok-push_copies.ensures ∙ ap (λ (os : List g.row.B-Operand.Denot). os ++ used) c.new-used.ensures.items in
    let room : c.args.at + count - c.args.at ≤ length read = omega (arith, c.requires.enough, c.flag_words.ensures ∙ ap flag_words c.len.ensures, length-drop c.args.at c.args.words.now) in
    let same : c.args.at + count - c.args.at ≡ count = omega arith in
    let many = ap length is ∙ length-take-le (c.args.at + count - c.args.at) read room ∙ same ∙ c.flag_words.ensures ∙ ap flag_words c.len.ensures ∙ sym (length_words n) in
    record {
      ready = record { built = refl; operands = λ k other. many ∙ ap (λ j. length (words_of_flags j)) (one_count types c.args.id.0 n k are other); suits = (n, are, c.requires.writes c.args.id reaches_itself) };
      makes = λ k h. h;
    }

pub returns : goal.returns
returns g c =
    let m = g.B.Bindgen.meaning in
    let types = c.args.resolve.now.types in
    let here = c.requires.here in
    let members = c.args.members.now in
    let words = c.args.words.now in
    let at = c.args.at in
    let count = c.flag_words.result in
    let n = at + count - at in
    let same : n ≡ count = omega arith in
    let used = take n (drop at words) in
    let is = c.from_vec-used.ensures ∙ c.in_ok-push_copies.ensures ∙ ap (λ (os : List g.row.B-Operand.Denot). os ++ used) c.new-used.ensures.items in
    let e = subst (λ (os : List g.row.B-Operand.Denot). Emits m types (FlagsLift c.args.id) os (c.in_ok-operand.operand ∷ []) c.args.bindgen.now c.send_one.new.bindgen) is c.in_ok-operand.ensures in
    let many : count ≡ flag_words (length members) = c.flag_words.ensures ∙ ap flag_words c.len.ensures in
    let room : n ≤ length (drop at words) = omega (arith, same, c.requires.enough, c.flag_words.ensures ∙ ap flag_words c.len.ensures, length-drop at words) in
    let len : length used ≡ flag_words (length members) = length-take-le n (drop at words) room ∙ same ∙ many in
    let split : drop at words ≡ used ++ drop (at + count) words =
    sym (take-append-drop n (drop at words)) ∙ ap (λ os. used ++ os) (drop-drop n at words ∙ ap (λ k. drop k words) (omega (arith, same))) in
    let shape = flags_shape types c.requires.down c.args.id.0 here.entry here.stands members here.kind in
    record {
      next = ap (λ n. at + n) many;
      lifts = lifts_as m g.met.B.Bindgen.sound types _ _ _ _ words at _ _ shape (used, split, flags_lifts m g.met.B.Bindgen.sound types c.args.id (length members) _ _ used c.in_ok-operand.operand (members, here, refl) len e);
      flows = flows_as m types (emit (FlagsLift c.args.id)) _ _ _ _ _ (lift_flags_code types c.requires.down c.args.id here.entry here.stands members here.kind)
          (subst (λ k. Emits m types (FlagsLift c.args.id) (take k (drop at words)) (c.in_ok-operand.operand ∷ []) c.args.bindgen.now c.send_one.new.bindgen) (same ∙ many) e);
    }
