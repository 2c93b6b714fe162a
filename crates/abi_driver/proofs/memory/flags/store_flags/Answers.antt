use Rattle.std.proofs.Common.{◌≡◌, ℕ, suc, ◌<◌, ◌+◌, ◌-◌, List, [], ◌∷◌, length, drop, refl, sym, ap, ap₂, ◌∙◌, subst, arith}
use Rattle.std.proofs.lemmas.List.{drop_all}
use Rattle.wit_model.specs.Reaches.{reaches_itself}
use Rattle.wit_layout.specs.Extent.{flags_extent}
use Rattle.wit_layout.specs.Flat.{words_of_flags}
use Rattle.wrapper_meaning.specs.Shape.{Shape}
use Rattle.abi_bindgen.specs.FlagSets.{AreFlags}
use Rattle.abi_bindgen.specs.Instructions.{Emits}
use Rattle.abi_bindgen.specs.NumberTouches.{number_store}
use Rattle.abi_bindgen.specs.declared.instruction.Instruction.{Instruction}
use Rattle.abi_bindgen.specs.declared.instruction.Instruction.TheVariants.{FlagsLower}
use Rattle.abi_bindgen.specs.Flow.{emit, leading, ◌>>>◌, behind}
use Rattle.abi_bindgen.specs.Code.{behind_address, store_words}
use Rattle.abi_bindgen.proofs.FlagLowers.{flags_lowers}
use Rattle.abi_driver.specs.Low.{EndsLow}
use Rattle.abi_driver.proofs.FlagSteps.{flags_grain_small, flags_stores, place_of}
use Rattle.abi_driver.proofs.LowPlaces.{flag_word_low}
use Rattle.abi_driver.proofs.MemoryCode.{store_flags_code}
use Rattle.abi_driver.proofs.NumberWords.{StoredBack, stored_flows}
use Rattle.abi_driver.proofs.Sendable.{makeable_number_store}
use Rattle.abi_bindgen.proofs.Records.{drop-same, flags_shape}
use Rattle.abi_bindgen.proofs.WordCounts.{length_words}
use Rattle.abi_bindgen.proofs.FlowSteps.{flows_as, flows_then, flows_both}
use Rattle.abi_driver.proofs.StoreSteps.{stores_as}
use Rattle.abi_driver.proofs.memory.flags.store_flags.Goals as goal

pub lower_by-requires : goal.lower_by-requires
lower_by-requires g c = record { built = refl; operands = refl; suits = (length c.args.members.now, (c.args.members.now, c.requires.here, refl), c.requires.writes c.args.id reaches_itself) }

pub loop-behind-init : goal.loop-behind-init
loop-behind-init g c =
    let m = g.B.Bindgen.meaning in
    let words = c.as_slice-words.result.now in
    let n = length words - 0 in
    let P : List g.row.B-Operand.Denot → Type 0 = λ os. StoredBack m c.args.resolve.now.types (flags_extent (length c.args.members.now)).grain (place_of c.args.offset) c.args.address.now n os c.lower_by.new.bindgen c.lower_by.new.bindgen in
    subst P (sym (drop_all n words (omega arith))) refl

pub loop-behind-preserved : goal.loop-behind-preserved
loop-behind-preserved g c =
    let m = g.B.Bindgen.meaning in
    let types = c.args.resolve.now.types in
    let words = c.as_slice-words.result.now in
    let count = length words in
    let past = c.loop-behind.behind in
    let nth = count - 1 - past in
    let grain = (flags_extent (length c.args.members.now)).grain in
    let place = place_of c.args.offset in
    let address = c.args.address.now in
    let word = c.in_ok-word.word in
    let room : past < count = omega (arith, c.loop-behind-test.true) in
    let short : nth < count = omega (arith, room) in
    let Stored : ℕ → List g.row.B-Operand.Denot → g.row.B.Denot → Type 0 = λ j os b. StoredBack m types grain place address j os c.lower_by.new.bindgen b in
    let left : count - past ≡ suc nth = omega (arith, room) in
    let fewer : nth ≡ count - (past + 1) = omega (arith, room) in
    let later : Stored (suc nth) (drop (suc nth) words) c.loop-behind.bindgen = subst (λ j. Stored j (drop j words) c.loop-behind.bindgen) left c.loop-behind.invariant in
    let is = c.number_store-store.ensures ∙ ap₂ number_store (c.flags_grain-grain.ensures ∙ ap (λ n. (flags_extent n).grain) c.len.ensures) c.word_offset-place.ensures in
    let one = subst (λ (i : Instruction). Emits m types i (word ∷ address ∷ []) [] c.loop-behind.bindgen c.store_word.new.bindgen) is c.in_ok-store_word.ensures in
    let next : nth + 1 ≡ suc nth = omega arith in
    let split : drop nth words ≡ word ∷ drop (suc nth) words = drop-same words words nth word c.index-words-nth.result refl short c.index-words-nth.is c.in_ok-word.ensures ∙ ap (λ j. word ∷ drop j words) next in
    let here : Stored nth (drop nth words) c.store_word.new.bindgen = subst (λ os. Stored nth os c.store_word.new.bindgen) (sym split) (c.loop-behind.bindgen, later, one) in
    subst (λ j. Stored j (drop j words) c.store_word.new.bindgen) fewer here

pub word_offset-place-requires : goal.word_offset-place-requires
word_offset-place-requires g c =
    let types = c.args.resolve.now.types in
    let here = c.requires.here in
    let members = c.args.members.now in
    let words = c.as_slice-words.result.now in
    let low = subst (λ (s : Shape). EndsLow s c.args.offset) (flags_shape types c.requires.down c.args.id.0 here.entry here.stands members here.kind) c.requires.low in
    let many = ap length c.as_slice-words.ensures ∙ c.in_ok-words.ensures.results (length members) (members, here, refl) ∙ length_words (length members) in
    flag_word_low (length members) (length words - 1 - c.loop-behind.behind) c.args.offset low (omega (arith, c.loop-behind-test.true, many))

pub store_word-requires : goal.store_word-requires
store_word-requires g c =
    let may = makeable_number_store g.B.Bindgen.meaning c.args.resolve.now c.word_offset-place.result c.number_store-store.result c.loop-behind.bindgen c.in_ok-word.word c.args.address.now c.flags_grain-grain.result c.number_store-store.ensures in
    record { sendable = may.sendable; silent = may.makes }

pub returns : goal.returns
returns g c =
    let m = g.B.Bindgen.meaning in
    let sound = g.met.B.Bindgen.sound in
    let types = c.args.resolve.now.types in
    let here = c.requires.here in
    let members = c.args.members.now in
    let n = length members in
    let grain = (flags_extent n).grain in
    let place = place_of c.args.offset in
    let address = c.args.address.now in
    let read = c.as_slice-words.result.now in
    let words = c.in_ok-words.words in
    let made = c.in_ok-words.ensures in
    let ended : length read - c.loop-behind.behind ≡ 0 = omega (arith, c.loop-behind-test.false) in
    let all = subst (λ j. StoredBack m types grain place address j (drop j read) c.lower_by.new.bindgen c.loop-behind.bindgen) ended c.loop-behind.invariant in
    let stored = subst (λ (os : List g.row.B-Operand.Denot). StoredBack m types grain place address 0 os c.lower_by.new.bindgen c.loop-behind.bindgen) c.as_slice-words.ensures all in
    let are : AreFlags types c.args.id.0 n = (members, here, refl) in
    let many : length (words_of_flags n) ≡ length words = sym (made.results n are) in
    let shape = flags_shape types c.requires.down c.args.id.0 here.entry here.stands members here.kind in
    let behind_it = flows_then m types (behind 1) (emit (FlagsLower c.args.id)) (address ∷ c.args.value ∷ []) (c.args.value ∷ []) words _ _ _ (refl, refl) made in
    let lowered = flows_both m types (leading 1) (behind 1 >>> emit (FlagsLower c.args.id)) (address ∷ c.args.value ∷ []) (address ∷ []) words _ _ _ (refl, refl) behind_it in
    let put = stored_flows m sound types grain (flags_grain_small n) place address 0 (words_of_flags n) words _ _ many stored in
    let code = flows_then m types (behind_address (emit (FlagsLower c.args.id))) (store_words n c.args.offset) (address ∷ c.args.value ∷ []) (address ∷ words) [] _ _ _ lowered put in
    record {
      stores = λ realloc. stores_as m sound types realloc _ _ _ _ c.args.value address c.args.offset shape
          (flags_stores m sound types realloc n _ _ _ c.args.value address words c.args.offset (flags_lowers m types realloc c.args.id n _ _ c.args.value words are made) stored);
      flows = λ realloc. flows_as m types _ _ _ _ _ _ (store_flags_code types c.requires.down c.args.id here.entry here.stands c.args.offset realloc members here.kind) code;
    }
