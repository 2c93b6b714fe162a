use Rattle.std.proofs.Common.{◌≡◌, ◌+◌, List, [], ◌∷◌, length, refl, sym, ap, ap₂, ◌∙◌, subst, arith}
use Rattle.std.proofs.lemmas.List.{length-append}
use Rattle.wit_model.specs.Reaches.{reaches_itself}
use Rattle.wit_layout.specs.Extent.{flag_words, flags_extent}
use Rattle.wit_layout.specs.Flat.{words_of_flags}
use Rattle.wrapper_meaning.specs.Shape.{Shape}
use Rattle.abi_bindgen.specs.FlagSets.{AreFlags}
use Rattle.abi_bindgen.specs.Instructions.{Emits}
use Rattle.abi_bindgen.specs.NumberTouches.{number_load}
use Rattle.abi_bindgen.specs.declared.instruction.Instruction.{Instruction}
use Rattle.abi_bindgen.specs.declared.instruction.Instruction.TheVariants.{FlagsLift}
use Rattle.abi_bindgen.specs.Flow.{emit}
use Rattle.abi_bindgen.specs.Code.{load_words}
use Rattle.abi_bindgen.proofs.FlagLowers.{one_count}
use Rattle.abi_driver.specs.Low.{EndsLow}
use Rattle.abi_driver.proofs.FlagSteps.{flags_grain_small, flags_loads, place_of}
use Rattle.abi_driver.proofs.LoadSteps.{loads_as}
use Rattle.abi_driver.proofs.LowPlaces.{flag_word_low}
use Rattle.abi_driver.proofs.MemoryCode.{load_flags_code}
use Rattle.abi_driver.proofs.NumberWords.{LoadedOn, loaded_adds, loaded_flows, loaded_more}
use Rattle.abi_driver.proofs.Sendable.{makeable_number_load}
use Rattle.abi_bindgen.proofs.Records.{flags_shape}
use Rattle.abi_bindgen.proofs.WordCounts.{length_words}
use Rattle.abi_bindgen.proofs.FlowSteps.{flows_as, flows_then}
use Rattle.abi_driver.proofs.memory.flags.load_flags.Goals as goal

pub loop-nth-init : goal.loop-nth-init
loop-nth-init g c =
    let m = g.B.Bindgen.meaning in
    let P : List g.row.B-Operand.Denot → Type 0 = λ os. LoadedOn m c.args.resolve.now.types (flags_extent (length c.args.members.now)).grain (place_of c.args.offset) c.args.address.now 0 os c.args.bindgen.now c.args.bindgen.now in
    record { count = ap length c.new-words.ensures; loaded = subst P (sym c.new-words.ensures) refl }

pub loop-nth-preserved : goal.loop-nth-preserved
loop-nth-preserved g c =
    let m = g.B.Bindgen.meaning in
    let types = c.args.resolve.now.types in
    let words = c.loop-nth.words in
    let nth = c.loop-nth.nth in
    let word = c.in_ok-word.word in
    let address = c.args.address.now in
    let grain = (flags_extent (length c.args.members.now)).grain in
    let place = place_of c.args.offset in
    let is = c.number_load-load.ensures ∙ ap₂ number_load (c.flags_grain-grain.ensures ∙ ap (λ n. (flags_extent n).grain) c.len-flags.ensures) c.word_offset-place.ensures in
    let one = subst (λ (i : Instruction). Emits m types i (address ∷ []) (word ∷ []) c.loop-nth.bindgen c.load_word.new.bindgen) is c.in_ok-word.ensures in
    let P : List g.row.B-Operand.Denot → Type 0 = λ os. LoadedOn m types grain place address 0 os c.args.bindgen.now c.load_word.new.bindgen in
    let more = loaded_more m g.met.B.Bindgen.sound types grain (flags_grain_small (length c.args.members.now)) place address 0 words word nth _ _ _ c.loop-nth.invariant.loaded (omega (arith, c.loop-nth.invariant.count)) one in
    record {
      count = ap length c.in_ok-push.ensures.ok ∙ length-append words (word ∷ []) ∙ ap (λ n. n + 1) c.loop-nth.invariant.count;
      loaded = subst P (sym c.in_ok-push.ensures.ok) more;
    }

pub word_offset-place-requires : goal.word_offset-place-requires
word_offset-place-requires g c =
    let types = c.args.resolve.now.types in
    let here = c.requires.here in
    let members = c.args.members.now in
    let low = subst (λ (s : Shape). EndsLow s c.args.offset) (flags_shape types c.requires.down c.args.id.0 here.entry here.stands members here.kind) c.requires.low in
    flag_word_low (length members) c.loop-nth.nth c.args.offset low (omega (arith, c.loop-nth-test.true, c.flag_words-count.ensures, ap flag_words c.len-flags.ensures))

pub load_word-requires : goal.load_word-requires
load_word-requires g c =
    let may = makeable_number_load g.B.Bindgen.meaning c.args.resolve.now c.word_offset-place.result c.number_load-load.result c.loop-nth.bindgen c.args.address.now c.flags_grain-grain.result c.number_load-load.ensures in
    record { sendable = may.sendable; makes = may.makes }

pub send_one-requires-clause-ready : goal.send_one-requires-clause-ready
send_one-requires-clause-ready g c =
    let types = c.args.resolve.now.types in
    let members = c.args.members.now in
    let are : AreFlags types c.args.id.0 (length members) = (members, c.requires.here, refl) in
    let done : c.loop-nth.nth ≡ c.flag_words-count.result = omega (arith, c.loop-nth-test.false, c.loop-nth.auto.nth-end) in
    let many = c.loop-nth.invariant.count ∙ done ∙ c.flag_words-count.ensures ∙ ap flag_words c.len-flags.ensures ∙ sym (length_words (length members)) in
    let adds = loaded_adds g.B.Bindgen.meaning g.met.B.Bindgen.sound types (flags_extent (length members)).grain (flags_grain_small (length members)) (place_of c.args.offset) c.args.address.now 0 c.loop-nth.words _ _ c.loop-nth.invariant.loaded in
    record { built = refl; operands = λ n other. many ∙ ap (λ k. length (words_of_flags k)) (one_count types c.args.id.0 (length members) n are other); suits = (length members, are, adds.grows.writes types c.args.id.0 (c.requires.writes c.args.id reaches_itself)) }

pub returns : goal.returns
returns g c =
    let m = g.B.Bindgen.meaning in
    let sound = g.met.B.Bindgen.sound in
    let types = c.args.resolve.now.types in
    let here = c.requires.here in
    let members = c.args.members.now in
    let n = length members in
    let grain = (flags_extent n).grain in
    let place = place_of c.args.offset in
    let address = c.args.address.now in
    let words = c.loop-nth.words in
    let operand = c.in_ok-operand.operand in
    let e = c.in_ok-operand.ensures in
    let loaded = c.loop-nth.invariant.loaded in
    let are : AreFlags types c.args.id.0 n = (members, here, refl) in
    let done : c.loop-nth.nth ≡ c.flag_words-count.result = omega (arith, c.loop-nth-test.false, c.loop-nth.auto.nth-end) in
    let many : length words ≡ flag_words n = c.loop-nth.invariant.count ∙ done ∙ c.flag_words-count.ensures ∙ ap flag_words c.len-flags.ensures in
    let shape = flags_shape types c.requires.down c.args.id.0 here.entry here.stands members here.kind in
    let got = loaded_flows m sound types grain (flags_grain_small n) place address 0 (words_of_flags n) words _ _ (length_words n ∙ sym many) loaded in
    let code = flows_then m types (load_words n c.args.offset) (emit (FlagsLift c.args.id)) (address ∷ []) words (operand ∷ []) _ _ _ got e in
    record {
      loads = loads_as m sound types _ _ _ _ address operand c.args.offset shape (flags_loads m sound types n _ _ _ address operand words c.args.offset many loaded e.adds (e.row n are));
      flows = flows_as m types _ _ _ _ _ _ (load_flags_code types c.requires.down c.args.id here.entry here.stands c.args.offset members here.kind) code;
    }
