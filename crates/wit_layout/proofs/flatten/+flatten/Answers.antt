use Rattle.std.proofs.Common.{true, ◌≡◌, ◌+◌, ◌*◌, ◌-◌, ◌≤◌, ◌<◌, ◌∙◌, ◌∷◌, ◌++◌, [], length, get_or, ap, sym, refl, take, drop, arith}
use Rattle.std.proofs.lemmas.List.{append-nil}
use Rattle.std.proofs.lemmas.List.Elements.{All-nil}
use Rattle.std.proofs.lemmas.Option.{slice_get-get_or, slice_get_within, get_or_from_slice_get}
use Rattle.wit_model.specs.TypeOrder.{payload_below}
use Rattle.wit_layout.specs.inside.Ahead.{ahead_members, runs_members}
use Rattle.wit_layout.specs.inside.Sequence.{members_at}
use Rattle.wit_layout.proofs.AheadEnough.{put_words}
use Rattle.wit_layout.proofs.AheadTurns.{entry_at, low_put, first_low, rest_low, place_words, after_low, fewer_after}
use Rattle.wit_layout.proofs.AheadWeight.{weights_next}
use Rattle.wit_layout.proofs.SequenceSteps.{sequence_is, alias_is, fixed_list_is, tuple_or_record}
use Rattle.wit_model.specs.declared.wasm_type.WasmType.TheVariants.{I32}
use Rattle.wit_model.specs.declared.types.TypeDef.{TypeDef}
use Rattle.wit_model.specs.Parts.{parts}
use Rattle.wit_layout.specs.Flat.{flatten_type, flatten_record, slots, joined, words_of_flags}
use Rattle.wit_layout.specs.inside.Words.{kept}
use Rattle.wit_layout.specs.Tree.{trees, payload_in, payloads_in}
use Rattle.wit_layout.proofs.FlattenSteps.{payload_rank, payload_rank_below, by_kind, members_low, words_of_entry, part_rank, part_in_table, words_of_lists, words_of_flag_kind, words_of_handles, words_of_async, words_of_unknown, words_of_payloads, words_of_cases}
use Rattle.wit_layout.proofs.JoinedWords.{repeated_slots}
use Rattle.wit_layout.proofs.KeptWords.{kept_fit}
use Rattle.wit_layout.proofs.WordLists.{take_then, take_none_left, take_back, take_joined, from_none}
use Rattle.wit_layout.proofs.flatten.+flatten.Goals as goal
use Rattle.wit_model.proofs.ListLemmas.{drop_at}
use Rattle.wit_model.proofs.BelowLemmas.{payload_below_more}

pub flatten_cases-flatten_payload-case-requires : goal.flatten_cases-flatten_payload-case-requires
flatten_cases-flatten_payload-case-requires t c =
    let types = c.args.types.now in
    let entry = get_or types c.args.at c.index-types-at.result in
    let here = slice_get-get_or types c.args.at c.index-types-at.result c.requires.within in
    let low = part_rank types c.requires.down c.args.at entry here c.part.result (c.loop-left.left - 1) c.part.ensures in
    let below : 5 * payload_rank c.part.result + 1 < t = omega (arith, low, c.decreases) in
    (below, (c.requires.down, (c.requires.worded, part_in_table types c.requires.down c.args.at entry here c.part.result (c.loop-left.left - 1) c.part.ensures c.requires.within)))

pub flatten_cases-loop-left-preserved : goal.flatten_cases-loop-left-preserved
flatten_cases-loop-left-preserved t c =
    let ts = trees c.args.types.now in
    let entry = get_or c.args.types.now c.args.at c.index-types-at.result in
    let ps = parts entry.kind in
    let left = c.loop-left.left in
    let h = c.loop-left.invariant in
    let r = c.args.room in
    let case = c.flatten_payload-case in
    let more : (left - 1) + 1 ≡ left = omega arith in
    let next : drop (left - 1) ps ≡ c.part.result ∷ drop left ps = drop_at ps (left - 1) c.part.result c.part.ensures ∙ ap (λ k. c.part.result ∷ drop k ps) more in
    let first = from_none r c.none.result.room (kept c.none.result) (kept case.result) (flatten_type (payload_in ts c.part.result)) c.none.ensures.words c.none.ensures.room case.ensures.words in
    let room : case.result.room ≡ r = case.ensures.room ∙ c.none.ensures.room in
    let rest = slots (payloads_in ts (drop left ps)) in
    record {
      words = c.joined_with-slots.ensures.words ∙ ap (λ k. take k (joined (kept case.result) (kept c.loop-left.slots))) room ∙ ap (λ ws. take r (joined ws (kept c.loop-left.slots))) first ∙ ap (λ ws. take r (joined (take r (flatten_type (payload_in ts c.part.result))) ws)) h.words
          ∙ take_joined r (flatten_type (payload_in ts c.part.result)) rest ∙ sym (ap (λ qs. take r (slots (payloads_in ts qs))) next);
      room = c.joined_with-slots.ensures.room ∙ room;
      within = omega (arith, h.within);
    }

pub flatten_cases-loop-left-preserved-then-is_repeated :
    goal.flatten_cases-loop-left-preserved-then-is_repeated
flatten_cases-loop-left-preserved-then-is_repeated t c =
    let ts = trees c.args.types.now in
    let ps = parts (get_or c.args.types.now c.args.at c.index-types-at.result).kind in
    let h = c.loop-left.invariant in
    record {
      words = h.words ∙ ap (take c.args.room) (repeated_slots ts ps c.loop-left.left c.loop-left-test.true h.within (c.is_repeated.ensures c.if-is_repeated.true));
      room = h.room;
      within = omega (arith, h.within);
    }

pub flatten_cases-returns : goal.flatten_cases-returns
flatten_cases-returns t c = λ entry is.
    let ts = trees c.args.types.now in
    let here = get_or_from_slice_get c.args.types.now c.args.at entry c.index-types-at.result is in
    let none : c.loop-left.left ≡ 0 = omega (arith, c.loop-left-test.false) in
    let all = get_or c.args.types.now c.args.at c.index-types-at.result in
    c.loop-left.invariant.words ∙ ap (λ k. take c.args.room (slots (payloads_in ts (drop k (parts all.kind))))) none ∙ ap (λ (e : TypeDef). take c.args.room (slots (payloads_in ts (parts e.kind)))) here

pub flatten_kind-returns-in-List-clause-words : goal.flatten_kind-returns-in-List-clause-words
flatten_kind-returns-in-List-clause-words t c =
    let types = c.args.types.now in
    let entry = get_or types c.args.at c.index-types-at.result in
    let here = slice_get-get_or types c.args.at c.index-types-at.result c.requires.within in
    by_kind types c.requires.down c.args.at entry here c.args.words.room (kept c.args.words) (kept c.flatten_text.result) _ (words_of_lists (trees types) entry.kind c.in-List.is) (c.flatten_text.ensures.words)

pub flatten_kind-returns-in-Option-clause-words : goal.flatten_kind-returns-in-Option-clause-words
flatten_kind-returns-in-Option-clause-words t c =
    let types = c.args.types.now in
    let entry = get_or types c.args.at c.index-types-at.result in
    let here = slice_get-get_or types c.args.at c.index-types-at.result c.requires.within in
    by_kind types c.requires.down c.args.at entry here c.args.words.room (kept c.args.words) (kept c.flatten_variant-in-Option.result) _ (words_of_payloads (trees types) entry.kind c.in-Option.is) (c.flatten_variant-in-Option.ensures.words entry here)

pub flatten_kind-returns-in-Variant-clause-words : goal.flatten_kind-returns-in-Variant-clause-words
flatten_kind-returns-in-Variant-clause-words t c =
    let types = c.args.types.now in
    let entry = get_or types c.args.at c.index-types-at.result in
    let here = slice_get-get_or types c.args.at c.index-types-at.result c.requires.within in
    by_kind types c.requires.down c.args.at entry here c.args.words.room (kept c.args.words) (kept c.flatten_variant.result) _ (words_of_cases (trees types) entry.kind c.in-Variant.is) (c.flatten_variant.ensures.words entry here)

pub flatten_kind-returns-in-Flags-clause-words : goal.flatten_kind-returns-in-Flags-clause-words
flatten_kind-returns-in-Flags-clause-words t c =
    let types = c.args.types.now in
    let entry = get_or types c.args.at c.index-types-at.result in
    let here = slice_get-get_or types c.args.at c.index-types-at.result c.requires.within in
    by_kind types c.requires.down c.args.at entry here c.args.words.room (kept c.args.words) (kept c.flatten_flags.result) _ (words_of_flag_kind (trees types) entry.kind c.in-Flags.members c.in-Flags.is) (c.flatten_flags.ensures.words ∙ ap (λ k. take c.args.words.room (kept c.args.words ++ words_of_flags k)) c.len.ensures)

pub flatten_kind-returns-in-Handle-clause-words : goal.flatten_kind-returns-in-Handle-clause-words
flatten_kind-returns-in-Handle-clause-words t c =
    let types = c.args.types.now in
    let entry = get_or types c.args.at c.index-types-at.result in
    let here = slice_get-get_or types c.args.at c.index-types-at.result c.requires.within in
    by_kind types c.requires.down c.args.at entry here c.args.words.room (kept c.args.words) (kept c.with-in-Handle.result) _ (words_of_handles (trees types) entry.kind c.in-Handle.is) (c.with-in-Handle.ensures.words)

pub flatten_kind-returns-in-Future-clause-words : goal.flatten_kind-returns-in-Future-clause-words
flatten_kind-returns-in-Future-clause-words t c =
    let types = c.args.types.now in
    let entry = get_or types c.args.at c.index-types-at.result in
    let here = slice_get-get_or types c.args.at c.index-types-at.result c.requires.within in
    by_kind types c.requires.down c.args.at entry here c.args.words.room (kept c.args.words) (kept c.with-in-Future.result) _ (words_of_async (trees types) entry.kind c.in-Future.is) (c.with-in-Future.ensures.words)

pub flatten_kind-returns-in-Unknown-clause-words : goal.flatten_kind-returns-in-Unknown-clause-words
flatten_kind-returns-in-Unknown-clause-words t c =
    let types = c.args.types.now in
    let entry = get_or types c.args.at c.index-types-at.result in
    let here = slice_get-get_or types c.args.at c.index-types-at.result c.requires.within in
    by_kind types c.requires.down c.args.at entry here c.args.words.room (kept c.args.words) (kept c.with.result) _ (words_of_unknown (trees types) entry.kind c.in-Unknown.is) (c.with.ensures.words)

pub flatten_variant-returns-then-left-eq0-clause-words :
    goal.flatten_variant-returns-then-left-eq0-clause-words
flatten_variant-returns-then-left-eq0-clause-words t c = λ entry is.
    let ts = trees c.args.types.now in
    let r = c.args.words.room in
    let begun = c.with-begun in
    let rest = slots (payloads_in ts (parts entry.kind)) in
    let fits = kept_fit begun.result in
    let none : r - length (kept begun.result) ≡ 0 = omega (arith, begun.ensures.room, c.left.ensures.left, c.if-left-eq0.true) in
    take_none_left r (kept begun.result) rest (omega (arith, fits, begun.ensures.room)) none ∙ take_then r r (kept c.args.words) (kept begun.result) (I32 ∷ []) rest _ refl begun.ensures.words refl

pub flatten_variant-returns-clause-words : goal.flatten_variant-returns-clause-words
flatten_variant-returns-clause-words t c = λ entry is.
    let ts = trees c.args.types.now in
    let r = c.args.words.room in
    let begun = c.with-begun in
    let room = c.left-2.result in
    let rest = slots (payloads_in ts (parts entry.kind)) in
    let behind = take r (kept begun.result ++ rest) in
    let far : r ≤ length (kept begun.result) + room = omega (arith, begun.ensures.room, c.left-2.ensures.left) in
    c.followed_by.ensures.words ∙ ap (λ k. take k (kept begun.result ++ kept c.flatten_cases.result)) begun.ensures.room ∙ ap (λ ws. take r (kept begun.result ++ ws)) (c.flatten_cases.ensures entry is) ∙ take_back r room (kept begun.result) rest far
    ∙ take_then r r (kept c.args.words) (kept begun.result) (I32 ∷ []) rest _ refl begun.ensures.words refl

pub flatten_kind-returns-in-Alias-clause-words : goal.flatten_kind-returns-in-Alias-clause-words
flatten_kind-returns-in-Alias-clause-words t c =
    let types = c.args.types.now in
    let entry = get_or types c.args.at c.index-types-at.result in
    let here = slice_get-get_or types c.args.at c.index-types-at.result c.requires.within in
    by_kind types c.requires.down c.args.at entry here c.args.words.room (kept c.args.words) (kept c.flatten_members.result) _ (words_of_entry types c.requires.down c.args.at entry here (alias_is entry.kind c.in-Alias.field-0 c.in-Alias.is)) (c.flatten_members.ensures.words)

pub flatten_kind-returns-in-FixedLengthList-clause-words : goal.flatten_kind-returns-in-FixedLengthList-clause-words
flatten_kind-returns-in-FixedLengthList-clause-words t c =
    let types = c.args.types.now in
    let entry = get_or types c.args.at c.index-types-at.result in
    let here = slice_get-get_or types c.args.at c.index-types-at.result c.requires.within in
    by_kind types c.requires.down c.args.at entry here c.args.words.room (kept c.args.words) (kept c.flatten_members-in-FixedLengthList.result) _ (words_of_entry types c.requires.down c.args.at entry here (fixed_list_is entry.kind c.in-FixedLengthList.field-0 c.in-FixedLengthList.field-1 c.in-FixedLengthList.is)) (c.flatten_members-in-FixedLengthList.ensures.words)

pub flatten_kind-returns-in-Tuple-clause-words : goal.flatten_kind-returns-in-Tuple-clause-words
flatten_kind-returns-in-Tuple-clause-words t c =
    let types = c.args.types.now in
    let entry = get_or types c.args.at c.index-types-at.result in
    let here = slice_get-get_or types c.args.at c.index-types-at.result c.requires.within in
    by_kind types c.requires.down c.args.at entry here c.args.words.room (kept c.args.words) (kept c.flatten_members-in-Tuple.result) _ (words_of_entry types c.requires.down c.args.at entry here (tuple_or_record entry.kind c.in-Tuple.is)) (c.flatten_members-in-Tuple.ensures.words)

pub flatten_members-loop-ahead-init : goal.flatten_members-loop-ahead-init
flatten_members-loop-ahead-init t c =
    let types = c.args.types.now in
    let at = c.args.at in
    let put = c.put.ensures.members in
    let entry = entry_at types at c.requires.within in
    let r = c.args.words.room in
    let none : ahead_members types c.none-ahead.result ≡ [] = ap (runs_members types) c.none-ahead.ensures in
    let own = members_at types at in
    let all : ahead_members types c.put.new.self ++ put.left_out ≡ own = put.same ∙ ap (λ ms. own ++ ms) none ∙ append-nil own in
    record {
      words = put_words types c.requires.worded c.requires.down r c.args.words.in_array (kept c.args.words) c.none-ahead.result c.put.new.self at c.put.ensures.valid put
          ∙ ap (λ ws. take r (kept c.args.words ++ ws)) (ap (λ ms. flatten_record (payloads_in (trees types) own) ++ flatten_record (payloads_in (trees types) ms)) none ∙ append-nil (flatten_record (payloads_in (trees types) own)));
      room = refl;
      low = low_put at (ahead_members types c.put.new.self) put.left_out own [] (all ∙ sym (append-nil own)) (members_low types c.requires.down at entry.0 entry.1) (All-nil (λ p. payload_below at p ≡ true));
      valid = c.put.ensures.valid;
    }

pub flatten_members-sequence_at-requires : goal.flatten_members-sequence_at-requires
flatten_members-sequence_at-requires t c =
    let types = c.args.types.now in
    payload_below_more c.args.at (length types) c.in-Some.ty (omega (arith, c.requires.within)) (first_low types c.requires.down c.args.at (ahead_members types c.loop-ahead.ahead) (ahead_members types c.next.new.self) c.in-Some.ty c.in-Some.ensures.members c.loop-ahead.invariant.low)

pub flatten_members-put-requires-in-Some-sequence_at-clause-within : goal.flatten_members-put-requires-in-Some-sequence_at-clause-within
flatten_members-put-requires-in-Some-sequence_at-clause-within t c =
    let is = sequence_is c.args.types.now c.in-Some.ty c.in-Some-sequence_at.inner c.in-Some-sequence_at.ensures in
    slice_get_within c.args.types.now c.in-Some-sequence_at.inner is.0 is.1

pub flatten_members-loop-ahead-smaller-in-Some-sequence_at : goal.flatten_members-loop-ahead-smaller-in-Some-sequence_at
flatten_members-loop-ahead-smaller-in-Some-sequence_at t c =
    let types = c.args.types.now in
    let after = c.put-in-Some-sequence_at in
    let put = after.ensures.members in
    fewer_after types c.requires.down c.args.at (ahead_members types c.loop-ahead.ahead) (ahead_members types c.next.new.self) c.in-Some.ty c.in-Some.ensures.members c.loop-ahead.invariant.low c.in-Some-sequence_at.inner (sequence_is c.args.types.now c.in-Some.ty c.in-Some-sequence_at.inner c.in-Some-sequence_at.ensures) (ahead_members types after.new.self) put.left_out put.same

pub flatten_members-loop-ahead-preserved-in-Some-sequence_at : goal.flatten_members-loop-ahead-preserved-in-Some-sequence_at
flatten_members-loop-ahead-preserved-in-Some-sequence_at t c =
    let types = c.args.types.now in
    let ts = trees types in
    let h = c.loop-ahead.invariant in
    let before = ahead_members types c.loop-ahead.ahead in
    let ms = ahead_members types c.next.new.self in
    let next = c.in-Some.ensures.members in
    let inner = c.in-Some-sequence_at.inner in
    let is = sequence_is c.args.types.now c.in-Some.ty c.in-Some-sequence_at.inner c.in-Some-sequence_at.ensures in
    let after = c.put-in-Some-sequence_at in
    let put = after.ensures.members in
    let same = place_words types c.requires.down c.args.at before ms c.in-Some.ty next h.low inner is in
    let r = c.args.words.room in
    let all = kept c.loop-ahead.all in
    record {
      words = put_words types c.requires.worded c.requires.down r c.args.words.in_array all c.next.new.self after.new.self inner after.ensures.valid put
          ∙ ap (λ ws. take r (all ++ (ws ++ flatten_record (payloads_in ts ms)))) (sym same) ∙ sym (ap (λ bs. take r (all ++ flatten_record (payloads_in ts bs))) next) ∙ h.words;
      room = h.room;
      low = after_low types c.requires.down c.args.at before ms c.in-Some.ty next h.low inner is (ahead_members types after.new.self) put.left_out put.same;
      valid = after.ensures.valid;
    }

pub flatten_members-flatten_payload-all-requires : goal.flatten_members-flatten_payload-all-requires
flatten_members-flatten_payload-all-requires t c =
    let types = c.args.types.now in
    let first = first_low types c.requires.down c.args.at (ahead_members types c.loop-ahead.ahead) (ahead_members types c.next.new.self) c.in-Some.ty c.in-Some.ensures.members c.loop-ahead.invariant.low in
    let low = payload_rank_below c.args.at c.in-Some.ty first in
    let below : 5 * payload_rank c.in-Some.ty + 1 < t = omega (arith, low, c.decreases) in
    (below, (c.requires.down, (c.requires.worded, payload_below_more c.args.at (length types) c.in-Some.ty (omega (arith, c.requires.within)) first)))

pub flatten_members-loop-ahead-smaller : goal.flatten_members-loop-ahead-smaller
flatten_members-loop-ahead-smaller t c =
    let types = c.args.types.now in
    weights_next types (ahead_members types c.loop-ahead.ahead) (ahead_members types c.next.new.self) c.in-Some.ty c.in-Some.ensures.members

pub flatten_members-loop-ahead-preserved : goal.flatten_members-loop-ahead-preserved
flatten_members-loop-ahead-preserved t c =
    let types = c.args.types.now in
    let ts = trees types in
    let h = c.loop-ahead.invariant in
    let before = ahead_members types c.loop-ahead.ahead in
    let ms = ahead_members types c.next.new.self in
    let next = c.in-Some.ensures.members in
    let put = c.flatten_payload-all in
    record {
      words = take_then c.args.words.room c.loop-ahead.all.room (kept c.loop-ahead.all) (kept put.result) (flatten_type (payload_in ts c.in-Some.ty)) (flatten_record (payloads_in ts ms)) _ h.room put.ensures.words (sym (ap (λ bs. take c.args.words.room (kept c.loop-ahead.all ++ flatten_record (payloads_in ts bs))) next) ∙ h.words);
      room = put.ensures.room ∙ h.room;
      low = rest_low types c.requires.down c.args.at before ms c.in-Some.ty next h.low;
      valid = c.in-Some.ensures.valid;
    }
