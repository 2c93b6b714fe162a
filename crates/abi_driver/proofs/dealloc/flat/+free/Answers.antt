use Rattle.std.proofs.Common.{rules, ◌≡◌, ◌<◌, ◌≤◌, ◌+◌, ◌-◌, suc, true, false, List, Option, None, Some, option_map, [], ◌∷◌, length, map, replicate, get_or, refl, sym, ap, ◌∙◌, subst, arith, ℕ, ◌++◌, take, drop, append-nil}
use Rattle.std.specs.List.{list_all}
use Rattle.std.proofs.lemmas.Bool.{lt-ltb}
use Rattle.std.proofs.lemmas.List.{drop-drop, drop_all, drop_more, length-drop, length-take-le, take-append-drop, take_all, take_at}
use Rattle.std.proofs.lemmas.Option.{slice_get_within}
use Rattle.std.proofs.Math.Seq.{take-add}
use Rattle.wit_model.specs.TypeOrder.{payload_below, type_below}
use mathlib.Core.Logic.{◌⊎◌, inl, inr}
use Rattle.wit_model.specs.declared.types.Case.{Case}
use Rattle.wit_model.specs.declared.types.Field.{Field}
use Rattle.wit_model.specs.declared.types.TypeDef.{TypeDef}
use Rattle.wit_model.specs.declared.types.TypeDefKind.{TypeDefKind}
use Rattle.wit_model.specs.declared.types.TypeDefKind.TheVariants as kind
use Rattle.wit_model.specs.declared.types.WitType.{WitType}
use Rattle.wit_model.specs.declared.types.WitType.TheVariants as wit
use Rattle.wit_model.specs.declared.wasm_type.WasmType.{WasmType}
use Rattle.wit_layout.proofs.FlattenSteps.{payload_rank, rank}
use Rattle.wit_layout.specs.Extent.{flag_words}
use Rattle.wrapper_meaning.specs.Kinds.{has_list}
use Rattle.wrapper_meaning.specs.Shape.{payload_in, payloads_in, shape_of, shapes}
use Rattle.wrapper_meaning.specs.Shape.Shape.{cases, flags}
use Rattle.abi_bindgen.specs.Cases.{payloads_of}
use Rattle.abi_bindgen.specs.Code.{blocks_of_cases, case_words, cast_code, free_types_code, free_words_code, lift_case, payload_words, shared_slots}
use Rattle.abi_bindgen.specs.Frees.{FreesFlat}
use Rattle.abi_driver.specs.FreedCases.{FreesSlots}
use Rattle.abi_bindgen.specs.HasList.{IsKindOf}
use Rattle.abi_bindgen.specs.Instructions.{HasBlocks, field_shapes, has_cases, shapes_of}
use Rattle.abi_bindgen.specs.Parts.{count}
use Rattle.abi_bindgen.specs.Served.{Serves, ServesAll}
use Rattle.abi_bindgen.specs.SlotCasts.{AreOrdered, CastsAll, FitIn}
use Rattle.abi_bindgen.specs.WordCount.{word_count, word_counts}
use Rattle.abi_bindgen.specs.Flow.{Flow, in_block, leading, leave_none, ◌>>>◌}
use Rattle.abi_bindgen.specs.Flows.{Flows}
use Rattle.abi_bindgen.proofs.FlatCode.{free_words_alias_code, free_words_enum_code, free_words_flags_code, free_words_none_code, free_words_record_code, free_words_scalar_code, free_words_tuple_code}
use Rattle.abi_driver.proofs.CaseSteps.{are_finished, resumes_both, resumes_same, same_back}
use Rattle.abi_driver.proofs.FlatFrees.{Freed, all_freed_as, cases_passed, enum_passed, fields_freed, flags_passed, freed_as, rest_last, rest_next, scalar_passed, tuple_freed}
use Rattle.abi_driver.proofs.LiftSteps.{scalar_words}
use Rattle.abi_driver.proofs.LiftedArguments.{words_left, words_next}
use Rattle.abi_driver.proofs.LiftedVariants.{all_used}
use Rattle.abi_driver.proofs.SlotFrees.{bare_slots, freed_variant, rest_last as last_case, rest_next as next_case, slots_free}
use Rattle.abi_driver.proofs.VariantFrees.{some_case}
use Rattle.abi_bindgen.proofs.Payloads.{count_payloads, count_told, payload_count, payload_in_table, payload_ranked, payload_told, slots_told, variant_below, variant_shape}
use Rattle.abi_bindgen.proofs.Records.{alias_below, alias_rank, alias_shape, drop-same, entry_at, enum_shape, flags_shape, kind_at, part_below_within, part_ranked, payload_type_low, record_below, record_shape, tuple_below, tuple_shape}
use Rattle.abi_bindgen.proofs.Serving.{alias_served, few_payloads, other_refused, part_served, payload_served, payloads_served, record_served, tuple_served}
use Rattle.abi_bindgen.proofs.WordBits.{fit_length, of_slots, payload_fits}
use Rattle.abi_bindgen.proofs.WordCounts.{alias_words, enum_words, few_words, flags_words, no_more, record_words, tuple_words, variant_words}
use Rattle.abi_bindgen.proofs.FlowSteps.{FlowsOn, flows_as, flows_block, flows_last, flows_next, flows_then}
use Rattle.abi_driver.proofs.dealloc.flat.+free.Goals as goal

pub free_id-free_type-requires : goal.free_id-free_type-requires
free_id-free_type-requires g t c κs within =
    let types = c.args.resolve.now.types in
    let d = c.index-types-place.result in
    let at = entry_at types c.as_slice-types.result.now c.args.id.0 d c.as_slice-types.ensures c.requires.within c.index-types-place.is in
    let is = kind_at c.as_slice-types.result.now c.args.id.0 d (kind.Alias c.in-Alias.ty) c.index-types-place.is c.in-Alias.is in
    let low : rank c.in-Alias.ty ≤ c.args.id.0 = alias_rank types c.requires.down c.args.id.0 d at c.in-Alias.ty is in
    let below = alias_below types c.requires.down c.args.id.0 d at c.in-Alias.ty is c.requires.within in
    let served = alias_served types c.requires.down c.args.id.0 d at c.requires.serves c.in-Alias.ty is in
    let same = alias_words types c.requires.down c.args.id d at c.in-Alias.ty is in
    let few : word_count types c.in-Alias.ty ≤ 16 = omega (arith, same, c.requires.few) in
    let enough : c.args.at + word_count types c.in-Alias.ty ≤ length c.args.words.now = omega (arith, same, c.requires.enough) in
    search rules

pub free_id-free_parts-requires : goal.free_id-free_parts-requires
free_id-free_parts-requires g t c κs within =
    let types = c.args.resolve.now.types in
    let d = c.index-types-place.result in
    let at = entry_at types c.as_slice-types.result.now c.args.id.0 d c.as_slice-types.ensures c.requires.within c.index-types-place.is in
    let is = kind_at c.as_slice-types.result.now c.args.id.0 d (kind.Record c.in-Record.members) c.index-types-place.is c.in-Record.is in
    let members = c.in-Record.members in
    let read = c.as_slice-tys.result.now in
    let same : read ≡ map (λ (f : Field). f.ty) members = c.as_slice-tys.ensures ∙ c.in_ok-tys-in-Record.ensures ∙ ap (map (λ (f : Field). f.ty)) c.as_slice.ensures in
    let below = subst (λ (xs : List WitType). list_all (λ ty. type_below c.args.id.0 ty) xs ≡ true) (sym same) (record_below types c.requires.down c.args.id.0 d at members is) in
    let low : c.args.id.0 ≤ length types = omega (arith, c.requires.within) in
    let served = subst (λ (xs : List WitType). ServesAll (shapes_of types xs)) (sym same) (record_served types c.requires.down c.args.id.0 d at c.requires.serves members is) in
    let many = record_words types c.requires.down c.args.id d at members is ∙ ap (word_counts types) (sym same) in
    let few : word_counts types read ≤ 16 = omega (arith, many, c.requires.few) in
    let enough : c.args.at + word_counts types read ≤ length c.args.words.now = omega (arith, many, c.requires.enough) in
    search rules

pub free_id-free_parts-requires-in-Tuple : goal.free_id-free_parts-requires-in-Tuple
free_id-free_parts-requires-in-Tuple g t c κs within =
    let types = c.args.resolve.now.types in
    let d = c.index-types-place.result in
    let at = entry_at types c.as_slice-types.result.now c.args.id.0 d c.as_slice-types.ensures c.requires.within c.index-types-place.is in
    let is = kind_at c.as_slice-types.result.now c.args.id.0 d (kind.Tuple c.in-Tuple.members) c.index-types-place.is c.in-Tuple.is in
    let below = subst (λ (xs : List WitType). list_all (λ ty. type_below c.args.id.0 ty) xs ≡ true) (sym c.as_slice-tys-in-Tuple.ensures) (tuple_below types c.requires.down c.args.id.0 d at c.in-Tuple.members is) in
    let low : c.args.id.0 ≤ length types = omega (arith, c.requires.within) in
    let read = c.as_slice-tys-in-Tuple.result.now in
    let same = c.as_slice-tys-in-Tuple.ensures in
    let served = subst (λ (xs : List WitType). ServesAll (shapes_of types xs)) (sym same) (tuple_served types c.requires.down c.args.id.0 d at c.requires.serves c.in-Tuple.members is) in
    let many = tuple_words types c.requires.down c.args.id d at c.in-Tuple.members is ∙ ap (word_counts types) (sym same) in
    let few : word_counts types read ≤ 16 = omega (arith, many, c.requires.few) in
    let enough : c.args.at + word_counts types read ≤ length c.args.words.now = omega (arith, many, c.requires.enough) in
    search rules

pub free_id-returns-in_ok-next-in-Alias : goal.free_id-returns-in_ok-next-in-Alias
free_id-returns-in_ok-next-in-Alias g t c =
    let m = g.B.Bindgen.meaning in
    let types = c.args.resolve.now.types in
    let d = c.index-types-place.result in
    let at = entry_at types c.as_slice-types.result.now c.args.id.0 d c.as_slice-types.ensures c.requires.within c.index-types-place.is in
    let is = kind_at c.as_slice-types.result.now c.args.id.0 d (kind.Alias c.in-Alias.ty) c.index-types-place.is c.in-Alias.is in
    record {
      next = c.in_ok-next-in-Alias.ensures.next ∙ ap (λ n. c.args.at + n) (sym (alias_words types c.requires.down c.args.id d at c.in-Alias.ty is));
      frees = freed_as m g.met.B.Bindgen.sound types _ _ _ _ c.args.words.now c.args.at _ (alias_shape types c.requires.down c.args.id.0 d at c.in-Alias.ty is) c.in_ok-next-in-Alias.ensures.frees;
      flows = flows_as m types (free_words_code types c.in-Alias.ty) (free_words_code types (wit.Id c.args.id)) _ [] _ _ (free_words_alias_code types c.requires.down c.args.id d at c.in-Alias.ty is)
          (subst (λ n. Flows m types (free_words_code types c.in-Alias.ty) (take n (drop c.args.at c.args.words.now)) [] c.args.bindgen.now c.free_type.new.bindgen) (sym (alias_words types c.requires.down c.args.id d at c.in-Alias.ty is)) c.in_ok-next-in-Alias.ensures.flows);
    }

pub free_id-returns-in_ok-next-in-Record : goal.free_id-returns-in_ok-next-in-Record
free_id-returns-in_ok-next-in-Record g t c =
    let m = g.B.Bindgen.meaning in
    let types = c.args.resolve.now.types in
    let d = c.index-types-place.result in
    let at = entry_at types c.as_slice-types.result.now c.args.id.0 d c.as_slice-types.ensures c.requires.within c.index-types-place.is in
    let is = kind_at c.as_slice-types.result.now c.args.id.0 d (kind.Record c.in-Record.members) c.index-types-place.is c.in-Record.is in
    let members = c.in-Record.members in
    let same : c.as_slice-tys.result.now ≡ map (λ (f : Field). f.ty) members = c.as_slice-tys.ensures ∙ c.in_ok-tys-in-Record.ensures ∙ ap (map (λ (f : Field). f.ty)) c.as_slice.ensures in
    let parts = all_freed_as m g.met.B.Bindgen.sound types _ _ _ _ c.args.words.now c.args.at _ same c.in_ok-next-in-Record.ensures.frees in
    let whole = fields_freed m g.met.B.Bindgen.sound types (field_shapes types members) _ _ c.args.words.now c.args.at _ parts in
    let many = record_words types c.requires.down c.args.id d at members is ∙ ap (word_counts types) (sym same) in
    let code : List WitType → Flow = λ tys. free_types_code types false tys in
    record {
      next = c.in_ok-next-in-Record.ensures.next ∙ ap (λ n. c.args.at + n) (sym many);
      frees = freed_as m g.met.B.Bindgen.sound types _ _ _ _ c.args.words.now c.args.at _ (record_shape types c.requires.down c.args.id.0 d at members is) whole;
      flows = flows_as m types (code c.as_slice-tys.result.now) (free_words_code types (wit.Id c.args.id)) _ [] _ _ (free_words_record_code types c.requires.down c.args.id d at members is ∙ ap code (sym same))
          (subst (λ n. Flows m types (code c.as_slice-tys.result.now) (take n (drop c.args.at c.args.words.now)) [] c.args.bindgen.now c.free_parts.new.bindgen) (sym many) c.in_ok-next-in-Record.ensures.flows);
    }

pub free_id-returns-in_ok-next-in-Tuple : goal.free_id-returns-in_ok-next-in-Tuple
free_id-returns-in_ok-next-in-Tuple g t c =
    let m = g.B.Bindgen.meaning in
    let types = c.args.resolve.now.types in
    let d = c.index-types-place.result in
    let at = entry_at types c.as_slice-types.result.now c.args.id.0 d c.as_slice-types.ensures c.requires.within c.index-types-place.is in
    let is = kind_at c.as_slice-types.result.now c.args.id.0 d (kind.Tuple c.in-Tuple.members) c.index-types-place.is c.in-Tuple.is in
    let tys = c.in-Tuple.members in
    let parts = all_freed_as m g.met.B.Bindgen.sound types _ _ _ _ c.args.words.now c.args.at _ c.as_slice-tys-in-Tuple.ensures c.in_ok-next-in-Tuple.ensures.frees in
    let whole = tuple_freed m g.met.B.Bindgen.sound types (shapes_of types tys) _ _ c.args.words.now c.args.at _ parts in
    let many = tuple_words types c.requires.down c.args.id d at tys is ∙ ap (word_counts types) (sym c.as_slice-tys-in-Tuple.ensures) in
    let code : List WitType → Flow = λ tys. free_types_code types false tys in
    record {
      next = c.in_ok-next-in-Tuple.ensures.next ∙ ap (λ n. c.args.at + n) (sym many);
      frees = freed_as m g.met.B.Bindgen.sound types _ _ _ _ c.args.words.now c.args.at _ (tuple_shape types c.requires.down c.args.id.0 d at tys is) whole;
      flows = flows_as m types (code c.as_slice-tys-in-Tuple.result.now) (free_words_code types (wit.Id c.args.id)) _ [] _ _ (free_words_tuple_code types c.requires.down c.args.id d at tys is ∙ ap code (sym c.as_slice-tys-in-Tuple.ensures))
          (subst (λ n. Flows m types (code c.as_slice-tys-in-Tuple.result.now) (take n (drop c.args.at c.args.words.now)) [] c.args.bindgen.now c.free_parts-in-Tuple.new.bindgen) (sym many) c.in_ok-next-in-Tuple.ensures.flows);
    }

pub free_parts-loop-i-init : goal.free_parts-loop-i-init
free_parts-loop-i-init g t c = record { left = refl; low = omega arith; flows = λ new gives h. h; rest = ([], refl, λ new qs h. h) }

pub free_id-returns-in-Enum : goal.free_id-returns-in-Enum
free_id-returns-in-Enum g t c =
    let m = g.B.Bindgen.meaning in
    let types = c.args.resolve.now.types in
    let d = c.index-types-place.result in
    let at = entry_at types c.as_slice-types.result.now c.args.id.0 d c.as_slice-types.ensures c.requires.within c.index-types-place.is in
    let members = c.in-Enum.field-0 in
    let is = kind_at c.as_slice-types.result.now c.args.id.0 d (kind.Enum members) c.index-types-place.is c.in-Enum.is in
    let one = enum_words types c.requires.down c.args.id d at members is in
    record {
      next = ap (λ n. c.args.at + n) (sym one);
      frees = freed_as m g.met.B.Bindgen.sound types _ _ _ _ c.args.words.now c.args.at _ (enum_shape types c.requires.down c.args.id.0 d at members is) (enum_passed m g.met.B.Bindgen.sound types members _ c.args.words.now c.args.at (omega (arith, one, c.requires.enough)));
      flows = flows_as m types leave_none (free_words_code types (wit.Id c.args.id)) _ [] _ _ (free_words_enum_code types c.requires.down c.args.id d at members is) (refl, refl);
    }

pub free_id-returns-in-Flags : goal.free_id-returns-in-Flags
free_id-returns-in-Flags g t c =
    let m = g.B.Bindgen.meaning in
    let types = c.args.resolve.now.types in
    let d = c.index-types-place.result in
    let at = entry_at types c.as_slice-types.result.now c.args.id.0 d c.as_slice-types.ensures c.requires.within c.index-types-place.is in
    let members = c.in-Flags.members in
    let is = kind_at c.as_slice-types.result.now c.args.id.0 d (kind.Flags members) c.index-types-place.is c.in-Flags.is in
    let many = flags_words types c.requires.down c.args.id d at members is in
    let read : c.flag_words.result ≡ flag_words (length members) = c.flag_words.ensures ∙ ap flag_words c.len.ensures in
    record {
      next = ap (λ n. c.args.at + n) (read ∙ sym many);
      frees = freed_as m g.met.B.Bindgen.sound types _ _ _ _ c.args.words.now c.args.at _ (flags_shape types c.requires.down c.args.id.0 d at members is) (subst (λ n. Freed m g.met.B.Bindgen.sound types (flags (length members)) c.args.words.now c.args.at (c.args.at + n) c.args.bindgen.now c.args.bindgen.now) (sym read) (flags_passed m g.met.B.Bindgen.sound types (length members) c.args.bindgen.now c.args.words.now c.args.at (omega (arith, many, c.requires.enough))));
      flows = flows_as m types leave_none (free_words_code types (wit.Id c.args.id)) _ [] _ _ (free_words_flags_code types c.requires.down c.args.id d at members is) (refl, refl);
    }

pub free_parts-free_type-requires : goal.free_parts-free_type-requires
free_parts-free_type-requires g t c κs within =
    let types = c.args.resolve.now.types in
    let short : c.loop-i.i < length c.args.tys.now = omega (arith, c.loop-i-test.true) in
    let low : rank (get_or c.args.tys.now c.loop-i.i wit.Bool) ≤ c.args.place = part_ranked c.args.place c.args.tys.now c.requires.below c.loop-i.i wit.Bool short in
    let below = part_below_within c.args.place c.args.tys.now c.requires.below c.loop-i.i wit.Bool short (length types) c.requires.within in
    let served = part_served types c.args.tys.now c.loop-i.i wit.Bool c.requires.serves short in
    let next = words_next types c.args.tys.now c.loop-i.i (get_or c.args.tys.now c.loop-i.i wit.Bool) (drop_more c.args.tys.now c.loop-i.i wit.Bool short) in
    let few : word_count types (get_or c.args.tys.now c.loop-i.i wit.Bool) ≤ 16 = omega (arith, next, c.loop-i.invariant.left, c.loop-i.invariant.low, c.requires.few) in
    let enough : c.loop-i.next + word_count types (get_or c.args.tys.now c.loop-i.i wit.Bool) ≤ length c.args.words.now = omega (arith, next, c.loop-i.invariant.left, c.requires.enough) in
    search rules

pub free_parts-loop-i-preserved : goal.free_parts-loop-i-preserved
free_parts-loop-i-preserved g t c =
    let m = g.B.Bindgen.meaning in
    let tys = c.args.tys.now in
    let i = c.loop-i.i in
    let short : i < length tys = omega (arith, c.loop-i-test.true) in
    let types = c.args.resolve.now.types in
    let next = words_next types tys i (get_or tys i wit.Bool) (drop_more tys i wit.Bool short) in
    let words = c.args.words.now in
    let from = c.loop-i.next in
    let one = word_count types (get_or tys i wit.Bool) in
    let others = words_left types tys (i + 1) in
    let mine = take one (drop from words) in
    let rest = take others (drop c.in_ok-next.next words) in
    let behind : drop one (drop from words) ≡ drop c.in_ok-next.next words = drop-drop one from words ∙ ap (λ k. drop k words) (sym c.in_ok-next.ensures.next) in
    let unread : take (words_left types tys i) (drop from words) ≡ mine ++ rest = ap (λ k. take k (drop from words)) next ∙ take-add one others (drop from words) ∙ ap (λ os. mine ++ take others os) behind in
    let room : one ≤ length (drop from words) = omega (arith, next, c.loop-i.invariant.left, c.requires.enough, length-drop from words) in
    let all = take (word_counts types tys) (drop c.args.at words) in
    let code : ℕ → WitType → Flow = λ n ty. free_words_code types ty in
    let on = subst (λ os. FlowsOn m types 0 (word_count types) code [] tys all c.args.bindgen.now i [] os c.loop-i.bindgen) unread c.loop-i.invariant.flows in
    record {
      left = omega (arith, next, c.loop-i.invariant.left, c.in_ok-next.ensures.next);
      low = omega (arith, c.loop-i.invariant.low, c.in_ok-next.ensures.next);
      flows = flows_next m types 0 (word_count types) code [] tys all c.args.bindgen.now i wit.Bool mine rest [] [] [] c.loop-i.bindgen c.free_type.new.bindgen short refl (length-take-le one (drop from words) room) refl c.in_ok-next.ensures.flows on;
      rest = rest_next m g.met.B.Bindgen.sound types tys i c.args.at c.args.words.now c.loop-i.next _ _ _ _ (get_or tys i wit.Bool) (drop_more tys i wit.Bool short) c.in_ok-next.ensures.frees c.loop-i.invariant.rest;
    }

pub free_parts-returns : goal.free_parts-returns
free_parts-returns g t c =
    let m = g.B.Bindgen.meaning in
    let ended : length c.args.tys.now ≤ c.loop-i.i = omega (arith, c.loop-i-test.false) in
    let types = c.args.resolve.now.types in
    let none_left : words_left types c.args.tys.now c.loop-i.i ≡ 0 = ap (word_counts types) (drop_all c.loop-i.i c.args.tys.now ended) in
    record {
      next = omega (arith, c.loop-i.invariant.left, none_left);
      frees = rest_last m g.met.B.Bindgen.sound types c.args.tys.now c.loop-i.i c.args.at c.args.words.now c.loop-i.next _ _ ended c.loop-i.invariant.rest;
      flows = flows_last m types 0 (word_count types) (λ n ty. free_words_code types ty) [] c.args.tys.now (take (word_counts types c.args.tys.now) (drop c.args.at c.args.words.now)) c.args.bindgen.now c.loop-i.i [] (take (words_left types c.args.tys.now c.loop-i.i) (drop c.loop-i.next c.args.words.now)) _ ended c.loop-i.invariant.flows;
    }

pub free_type-returns-in-Some : goal.free_type-returns-in-Some
free_type-returns-in-Some g t c =
    let m = g.B.Bindgen.meaning in
    let types = c.args.resolve.now.types in
    let is = sym c.scalar_lifting.ensures ∙ c.in-Some.is in
    let one = scalar_words types c.args.ty c.in-Some._lift is in
    record {
      next = ap (λ n. c.args.at + n) (sym one);
      frees = scalar_passed m g.met.B.Bindgen.sound types c.args.ty c.in-Some._lift c.args.bindgen.now c.args.words.now c.args.at is (omega (arith, one, c.requires.enough));
      flows = flows_as m types leave_none (free_words_code types c.args.ty) _ [] _ _ (free_words_scalar_code types c.args.ty c.in-Some._lift is) (refl, refl);
    }

-- one of the kinds with cases
one_with_cases : (k : TypeDefKind) → ((members : List Case) × (k ≡ kind.Variant members)) ⊎ (((ty : WitType) × (k ≡ kind.Option ty)) ⊎ ((ok : Option WitType) × (err : Option WitType) × (k ≡ kind.Result ok err))) → has_cases k ≡ true
one_with_cases k (inl (members, is)) = ap has_cases is
one_with_cases k (inr (inl (ty, is))) = ap has_cases is
one_with_cases k (inr (inr (ok, err, is))) = ap has_cases is

pub free_id-free_variant-requires : goal.free_id-free_variant-requires
free_id-free_variant-requires g t c κs within =
    let types = c.args.resolve.now.types in
    let d = c.index-types-place.result in
    let k = (get_or c.as_slice-types.result.now c.args.id.0 d).kind in
    let at = entry_at types c.as_slice-types.result.now c.args.id.0 d c.as_slice-types.ensures c.requires.within c.index-types-place.is in
    let here : IsKindOf types c.args.id.0 k = record { entry = d; stands = at; kind = ap (λ (t : TypeDef). t.kind) c.index-types-place.is } in
    let has = one_with_cases k c.in-Variant.is in
    (omega arith, (within.0, (within.1, (c.requires.well, (c.requires.down, (here, (has, (c.requires.serves, (c.requires.few, c.requires.enough)))))))))

pub free_id-overflow_add-result : goal.free_id-overflow_add-result
free_id-overflow_add-result g t c =
    let types = c.args.resolve.now.types in
    let d = c.index-types-place.result in
    let at = entry_at types c.as_slice-types.result.now c.args.id.0 d c.as_slice-types.ensures c.requires.within c.index-types-place.is in
    let is = kind_at c.as_slice-types.result.now c.args.id.0 d (kind.Enum c.in-Enum.field-0) c.index-types-place.is c.in-Enum.is in
    let room : c.args.at + 1 ≤ length c.args.words.now = omega (arith, enum_words types c.requires.down c.args.id d at c.in-Enum.field-0 is, c.requires.enough) in
    search rules

pub free_id-overflow_add-result-in-Flags : goal.free_id-overflow_add-result-in-Flags
free_id-overflow_add-result-in-Flags g t c =
    let types = c.args.resolve.now.types in
    let d = c.index-types-place.result in
    let at = entry_at types c.as_slice-types.result.now c.args.id.0 d c.as_slice-types.ensures c.requires.within c.index-types-place.is in
    let is = kind_at c.as_slice-types.result.now c.args.id.0 d (kind.Flags c.in-Flags.members) c.index-types-place.is c.in-Flags.is in
    let read : c.flag_words.result ≡ flag_words (length c.in-Flags.members) = c.flag_words.ensures ∙ ap flag_words c.len.ensures in
    let room : c.args.at + c.flag_words.result ≤ length c.args.words.now = omega (arith, read, flags_words types c.requires.down c.args.id d at c.in-Flags.members is, c.requires.enough) in
    search rules

pub free_id-unreachable-requires : goal.free_id-unreachable-requires
free_id-unreachable-requires g t c =
    let types = c.args.resolve.now.types in
    let d = c.index-types-place.result in
    let k = (get_or c.as_slice-types.result.now c.args.id.0 d).kind in
    let at = entry_at types c.as_slice-types.result.now c.args.id.0 d c.as_slice-types.ensures c.requires.within c.index-types-place.is in
    let not = c.in_default in
    other_refused types c.requires.down c.args.id.0 k (record { entry = d; stands = at; kind = ap (λ (t : TypeDef). t.kind) c.index-types-place.is }) c.requires.serves
    (record { alias = not.not-Alias; tuple = not.not-Tuple; option = not.not-Option; result = not.not-Result; fields = not.not-Record; variant = not.not-Variant; enum = not.not-Enum; flags = not.not-Flags })

pub free_variant-overflow_add-next : goal.free_variant-overflow_add-next
free_variant-overflow_add-next g t c =
    let types = c.args.resolve.now.types in
    let kind = c.args.kind.now in
    let f = c.flat_types-flat.result in
    let shape = variant_shape types c.requires.down c.args.id.0 kind c.requires.here c.requires.cases in
    let is : f.count ≡ case_words types (payloads_of kind) = count_told types c.args.id (payloads_of kind) shape f c.flat_types-flat.ensures (no_more types (wit.Id c.args.id) f c.flat_types-flat.ensures c.requires.few) in
    let within : c.args.at + f.count ≤ length c.args.words.now = omega (arith, is, variant_words types c.requires.down c.args.id kind c.requires.here c.requires.cases, c.requires.enough) in
    search rules

pub free_variant-slice_bounds-shared-end : goal.free_variant-slice_bounds-shared-end
free_variant-slice_bounds-shared-end g t c =
    let types = c.args.resolve.now.types in
    let kind = c.args.kind.now in
    let f = c.flat_types-flat.result in
    let shape = variant_shape types c.requires.down c.args.id.0 kind c.requires.here c.requires.cases in
    let is : f.count ≡ case_words types (payloads_of kind) = count_told types c.args.id (payloads_of kind) shape f c.flat_types-flat.ensures (no_more types (wit.Id c.args.id) f c.flat_types-flat.ensures c.requires.few) in
    let within : c.args.at + f.count ≤ length c.args.words.now = omega (arith, is, variant_words types c.requires.down c.args.id kind c.requires.here c.requires.cases, c.requires.enough) in
    search rules

pub free_variant-overflow_add-shared : goal.free_variant-overflow_add-shared
free_variant-overflow_add-shared g t c =
    let types = c.args.resolve.now.types in
    let kind = c.args.kind.now in
    let f = c.flat_types-flat.result in
    let shape = variant_shape types c.requires.down c.args.id.0 kind c.requires.here c.requires.cases in
    let is : f.count ≡ case_words types (payloads_of kind) = count_told types c.args.id (payloads_of kind) shape f c.flat_types-flat.ensures (no_more types (wit.Id c.args.id) f c.flat_types-flat.ensures c.requires.few) in
    let short : c.args.at < length c.args.words.now = omega (arith, is, variant_words types c.requires.down c.args.id kind c.requires.here c.requires.cases, c.requires.enough) in
    search rules

pub free_variant-offset_bounds-words-at : goal.free_variant-offset_bounds-words-at
free_variant-offset_bounds-words-at g t c =
    let types = c.args.resolve.now.types in
    let kind = c.args.kind.now in
    let f = c.flat_types-flat.result in
    let shape = variant_shape types c.requires.down c.args.id.0 kind c.requires.here c.requires.cases in
    let is : f.count ≡ case_words types (payloads_of kind) = count_told types c.args.id (payloads_of kind) shape f c.flat_types-flat.ensures (no_more types (wit.Id c.args.id) f c.flat_types-flat.ensures c.requires.few) in
    let short : c.args.at < length c.args.words.now = omega (arith, is, variant_words types c.requires.down c.args.id kind c.requires.here c.requires.cases, c.requires.enough) in
    omega (arith, short)

pub free_variant-slice_bounds-shared-count : goal.free_variant-slice_bounds-shared-count
free_variant-slice_bounds-shared-count g t c =
    let types = c.args.resolve.now.types in
    let kind = c.args.kind.now in
    let f = c.flat_types-flat.result in
    let shape = variant_shape types c.requires.down c.args.id.0 kind c.requires.here c.requires.cases in
    let is : f.count ≡ case_words types (payloads_of kind) = count_told types c.args.id (payloads_of kind) shape f c.flat_types-flat.ensures (no_more types (wit.Id c.args.id) f c.flat_types-flat.ensures c.requires.few) in
    let some : 1 ≤ f.count = omega (arith, is) in
    omega (arith, some)

pub free_variant-slice_bounds-shared-start : goal.free_variant-slice_bounds-shared-start
free_variant-slice_bounds-shared-start g t c =
    let types = c.args.resolve.now.types in
    let kind = c.args.kind.now in
    let f = c.flat_types-flat.result in
    let shape = variant_shape types c.requires.down c.args.id.0 kind c.requires.here c.requires.cases in
    let is : f.count ≡ case_words types (payloads_of kind) = count_told types c.args.id (payloads_of kind) shape f c.flat_types-flat.ensures (no_more types (wit.Id c.args.id) f c.flat_types-flat.ensures c.requires.few) in
    let some : 1 ≤ f.count = omega (arith, is) in
    let within : c.args.at + 1 ≤ c.args.at + f.count = omega (arith, some) in
    within

pub free_variant-slice_bounds-slots-count : goal.free_variant-slice_bounds-slots-count
free_variant-slice_bounds-slots-count g t c =
    let types = c.args.resolve.now.types in
    let kind = c.args.kind.now in
    let f = c.flat_types-flat.result in
    let shape = variant_shape types c.requires.down c.args.id.0 kind c.requires.here c.requires.cases in
    let is : f.count ≡ case_words types (payloads_of kind) = count_told types c.args.id (payloads_of kind) shape f c.flat_types-flat.ensures (no_more types (wit.Id c.args.id) f c.flat_types-flat.ensures c.requires.few) in
    let some : 1 ≤ f.count = omega (arith, is) in
    some

pub free_variant-slice_bounds-slots-start : goal.free_variant-slice_bounds-slots-start
free_variant-slice_bounds-slots-start g t c =
    let types = c.args.resolve.now.types in
    let kind = c.args.kind.now in
    let f = c.flat_types-flat.result in
    let shape = variant_shape types c.requires.down c.args.id.0 kind c.requires.here c.requires.cases in
    let is : f.count ≡ case_words types (payloads_of kind) = count_told types c.args.id (payloads_of kind) shape f c.flat_types-flat.ensures (no_more types (wit.Id c.args.id) f c.flat_types-flat.ensures c.requires.few) in
    let some : 1 ≤ f.count = omega (arith, is) in
    some

pub free_variant-bounds-words-at : goal.free_variant-bounds-words-at
free_variant-bounds-words-at g t c =
    let types = c.args.resolve.now.types in
    let kind = c.args.kind.now in
    let f = c.flat_types-flat.result in
    let shape = variant_shape types c.requires.down c.args.id.0 kind c.requires.here c.requires.cases in
    let is : f.count ≡ case_words types (payloads_of kind) = count_told types c.args.id (payloads_of kind) shape f c.flat_types-flat.ensures (no_more types (wit.Id c.args.id) f c.flat_types-flat.ensures c.requires.few) in
    let short : c.args.at < length c.args.words.now = omega (arith, is, variant_words types c.requires.down c.args.id kind c.requires.here c.requires.cases, c.requires.enough) in
    short

pub free_payload-slice_bounds-push_copies-end : goal.free_payload-slice_bounds-push_copies-end
free_payload-slice_bounds-push_copies-end g t c =
    let f = c.flat_types-flat.result in
    let is = payload_count c.args.resolve.now.types c.args.ty f c.flat_types-flat.ensures (no_more c.args.resolve.now.types c.args.ty f c.flat_types-flat.ensures (few_words c.args.resolve.now.types c.args.ty c.args.slots.now c.requires.fits c.requires.few)) in
    let most = fit_length (payload_words c.args.resolve.now.types (Some c.args.ty)) c.args.slots.now c.requires.fits in
    sym (length-take-le f.count c.args.words.now (omega (arith, is, most, c.requires.enough)))

pub free_payload-slice_bounds-cast_words-end : goal.free_payload-slice_bounds-cast_words-end
free_payload-slice_bounds-cast_words-end g t c =
    let f = c.flat_types-flat.result in
    let is = payload_count c.args.resolve.now.types c.args.ty f c.flat_types-flat.ensures (no_more c.args.resolve.now.types c.args.ty f c.flat_types-flat.ensures (few_words c.args.resolve.now.types c.args.ty c.args.slots.now c.requires.fits c.requires.few)) in
    let most = fit_length (payload_words c.args.resolve.now.types (Some c.args.ty)) c.args.slots.now c.requires.fits in
    sym (length-take-le f.count c.args.slots.now (omega (arith, is, most)))

pub free_payload-cast_words-requires-clause-ordered : goal.free_payload-cast_words-requires-clause-ordered
free_payload-cast_words-requires-clause-ordered g t c =
    let types = c.args.resolve.now.types in
    let f = c.flat_types-flat.result in
    let words = payload_words types (Some c.args.ty) in
    let told = payload_told types c.args.ty f c.flat_types-flat.ensures (no_more types c.args.ty f c.flat_types-flat.ensures (few_words types c.args.ty c.args.slots.now c.requires.fits c.requires.few)) in
    let is = payload_count types c.args.ty f c.flat_types-flat.ensures (no_more types c.args.ty f c.flat_types-flat.ensures (few_words types c.args.ty c.args.slots.now c.requires.fits c.requires.few)) in
    subst (λ (xs : List WasmType). AreOrdered (take f.count c.args.slots.now) xs) (sym told) (subst (λ n. AreOrdered (take n c.args.slots.now) words) (sym is) (of_slots words c.args.slots.now c.requires.fits))

pub free_payload-cast_words-requires-clause-enough : goal.free_payload-cast_words-requires-clause-enough
free_payload-cast_words-requires-clause-enough g t c =
    let f = c.flat_types-flat.result in
    let is = payload_count c.args.resolve.now.types c.args.ty f c.flat_types-flat.ensures (no_more c.args.resolve.now.types c.args.ty f c.flat_types-flat.ensures (few_words c.args.resolve.now.types c.args.ty c.args.slots.now c.requires.fits c.requires.few)) in
    let most = fit_length (payload_words c.args.resolve.now.types (Some c.args.ty)) c.args.slots.now c.requires.fits in
    let first : c.from_vec-first.result ≡ take f.count c.args.words.now = c.from_vec-first.ensures ∙ c.in_ok-push_copies.ensures ∙ ap (λ (os : List g.row.B-Operand.Denot). os ++ take f.count c.args.words.now) c.new-first.ensures.items in
    ap length first ∙ length-take-le f.count c.args.words.now (omega (arith, is, most, c.requires.enough)) ∙ sym (length-take-le f.count c.args.slots.now (omega (arith, is, most)))

pub free_variant-flat_types-flat-requires-clause-below : goal.free_variant-flat_types-flat-requires-clause-below
unfolding type_below
free_variant-flat_types-flat-requires-clause-below g t c = lt-ltb c.args.id.0 (length c.args.resolve.now.types) (slice_get_within c.args.resolve.now.types c.args.id.0 c.requires.here.entry c.requires.here.stands)

pub free_variant-free_cases-requires : goal.free_variant-free_cases-requires
free_variant-free_cases-requires g t c κs within =
    let types = c.args.resolve.now.types in
    let kind = c.args.kind.now in
    let here = c.requires.here in
    let words = c.args.words.now in
    let f = c.flat_types-flat.result in
    let shape = variant_shape types c.requires.down c.args.id.0 kind here c.requires.cases in
    let told : take (f.count - 1) (drop 1 f.words) ≡ shared_slots types (payloads_of kind) = slots_told types c.args.id (payloads_of kind) shape f c.flat_types-flat.ensures (no_more types (wit.Id c.args.id) f c.flat_types-flat.ensures c.requires.few) in
    let is : f.count ≡ case_words types (payloads_of kind) = count_told types c.args.id (payloads_of kind) shape f c.flat_types-flat.ensures (no_more types (wit.Id c.args.id) f c.flat_types-flat.ensures c.requires.few) in
    let same : c.as_slice-payloads.result.now ≡ payloads_of kind = c.as_slice-payloads.ensures ∙ c.in_ok-payloads.ensures in
    let inside : c.args.id.0 < length types = slice_get_within types c.args.id.0 here.entry here.stands in
    let below : list_all (λ payload. payload_below c.args.id.0 payload) c.as_slice-payloads.result.now ≡ true =
    subst (λ (ps : List (Option WitType)). list_all (λ payload. payload_below c.args.id.0 payload) ps ≡ true) (sym same) (variant_below types c.requires.down c.args.id.0 kind here c.requires.cases) in
    let serves = subst (λ (ps : List (Option WitType)). ServesAll (payloads_in (shapes types) ps)) (sym same) (payloads_served types c.args.id.0 (payloads_of kind) shape c.requires.serves) in
    let shared : take (f.count - 1) (drop 1 f.words) ≡ shared_slots types c.as_slice-payloads.result.now = told ∙ ap (shared_slots types) (sym same) in
    let n = c.args.at + f.count - (c.args.at + 1) in
    let room : n ≤ length (drop (c.args.at + 1) words) = omega (arith, is, variant_words types c.requires.down c.args.id kind c.requires.here c.requires.cases, c.requires.enough, length-drop (c.args.at + 1) words) in
    let enough : length (take n (drop (c.args.at + 1) words)) ≡ length (take (f.count - 1) (drop 1 f.words)) = length-take-le n (drop (c.args.at + 1) words) room ∙ (let e : n ≡ length (shared_slots types (payloads_of kind)) = omega (arith, is) in e) ∙ sym (ap length told) in
    let few : length (take (f.count - 1) (drop 1 f.words)) ≤ 16 = omega (arith, ap length told, variant_words types c.requires.down c.args.id kind here c.requires.cases, c.requires.few) in
    (omega arith, (within.0, (within.1, (c.requires.well, (c.requires.down, (inside, (below, (serves, (shared, (few, enough))))))))))

pub free_variant-overflow_cast-cases : goal.free_variant-overflow_cast-cases
free_variant-overflow_cast-cases g t c =
    let types = c.args.resolve.now.types in
    let same = c.as_slice-payloads.ensures ∙ c.in_ok-payloads.ensures in
    let shape = variant_shape types c.requires.down c.args.id.0 c.args.kind.now c.requires.here c.requires.cases ∙ ap (λ (ps : List (Option WitType)). cases (payloads_in (shapes types) ps)) (sym same) in
    omega (arith, few_payloads types c.args.id.0 c.as_slice-payloads.result.now shape c.requires.serves)

pub free_variant-run_case-requires : goal.free_variant-run_case-requires
free_variant-run_case-requires g t c =
    let m = g.B.Bindgen.meaning in
    let types = c.args.resolve.now.types in
    let payloads = c.as_slice-payloads.result.now in
    let ts = payloads_in (shapes types) payloads in
    let frees = c.in_ok-free_cases.ensures.frees in
    let finished = are_finished m (replicate (count ts) 0) frees.bodies _ _ frees.adds in
    let many = count_payloads (shapes types) payloads in
    let same = c.as_slice-payloads.ensures ∙ c.in_ok-payloads.ensures in
    let shape = variant_shape types c.requires.down c.args.id.0 c.args.kind.now c.requires.here c.requires.cases ∙ ap (λ (ps : List (Option WitType)). cases (payloads_in (shapes types) ps)) (sym same) in
    let some = some_case ts (sym (ap has_list shape) ∙ sym c.id_has_list.ensures ∙ c.if-not-id_has_list.false) in
    record { some = omega (arith, some, many); blocks = subst (λ ks. HasBlocks m ks c.free_cases.new.bindgen) (same_back (count ts) 0 ∙ ap (λ n. replicate n 0) many) finished }

pub free_variant-returns-then-not-id_has_list : goal.free_variant-returns-then-not-id_has_list
free_variant-returns-then-not-id_has_list g t c =
    let m = g.B.Bindgen.meaning in
    let sound = g.met.B.Bindgen.sound in
    let types = c.args.resolve.now.types in
    let k = c.args.kind.now in
    let here = c.requires.here in
    let has = c.requires.cases in
    let f = c.flat_types-flat.result in
    let shape = variant_shape types c.requires.down c.args.id.0 k here has in
    let all = variant_words types c.requires.down c.args.id k here has in
    let counted = count_told types c.args.id (payloads_of k) shape f c.flat_types-flat.ensures (no_more types (wit.Id c.args.id) f c.flat_types-flat.ensures c.requires.few) in
    let lacks = sym c.id_has_list.ensures ∙ c.if-not-id_has_list.true in
    let room : c.args.at + f.count ≤ length c.args.words.now = omega (arith, counted, all, c.requires.enough) in
    let whole = cases_passed m sound types (payloads_in (shapes types) (payloads_of k)) c.args.bindgen.now c.args.words.now c.args.at f.count (subst Serves shape c.requires.serves) (sym (ap has_list shape) ∙ lacks) counted room in
    record {
      next = ap (λ n. c.args.at + n) (counted ∙ sym all);
      frees = freed_as m sound types _ _ _ _ c.args.words.now c.args.at _ shape whole;
      flows = flows_as m types leave_none (free_words_code types (wit.Id c.args.id)) _ [] _ _ (free_words_none_code types c.requires.down c.args.id here.entry here.stands k here.kind has lacks) (refl, refl);
    }

pub free_variant-returns : goal.free_variant-returns
free_variant-returns g t c =
    let m = g.B.Bindgen.meaning in
    let sound = g.met.B.Bindgen.sound in
    let types = c.args.resolve.now.types in
    let kind = c.args.kind.now in
    let here = c.requires.here in
    let words = c.args.words.now in
    let at = c.args.at in
    let f = c.flat_types-flat.result in
    let tag = c.in_ok-tag.tag in
    let shape = variant_shape types c.requires.down c.args.id.0 kind here c.requires.cases in
    let told : take (f.count - 1) (drop 1 f.words) ≡ shared_slots types (payloads_of kind) = slots_told types c.args.id (payloads_of kind) shape f c.flat_types-flat.ensures (no_more types (wit.Id c.args.id) f c.flat_types-flat.ensures c.requires.few) in
    let is : f.count ≡ case_words types (payloads_of kind) = count_told types c.args.id (payloads_of kind) shape f c.flat_types-flat.ensures (no_more types (wit.Id c.args.id) f c.flat_types-flat.ensures c.requires.few) in
    let all = variant_words types c.requires.down c.args.id kind here c.requires.cases in
    let payloads = c.as_slice-payloads.result.now in
    let same : payloads ≡ payloads_of kind = c.as_slice-payloads.ensures ∙ c.in_ok-payloads.ensures in
    let n = at + f.count - (at + 1) in
    let shared = take n (drop (at + 1) words) in
    let many : n ≡ length (shared_slots types (payloads_of kind)) = omega (arith, is) in
    let room : n ≤ length (drop (at + 1) words) = omega (arith, is, all, c.requires.enough, length-drop (at + 1) words) in
    let enough : length shared ≡ length (take (f.count - 1) (drop 1 f.words)) = length-take-le n (drop (at + 1) words) room ∙ many ∙ sym (ap length told) in
    let short : at < length words = omega (arith, is, all, c.requires.enough) in
    let split : drop (at + 1) words ≡ shared ++ drop (at + f.count) words =
    sym (take-append-drop n (drop (at + 1) words)) ∙ ap (λ os. shared ++ os) (drop-drop n (at + 1) words ∙ (let e : at + 1 + n ≡ at + f.count = omega (arith, is) in ap (λ k. drop k words) e)) in
    let front : drop at words ≡ tag ∷ shared ++ drop (at + f.count) words = drop-same words words at tag c.index-words-at.result refl short c.index-words-at.is c.in_ok-tag.ensures ∙ ap (λ os. tag ∷ os) split in
    let whole : word_count types (wit.Id c.args.id) ≡ suc (length shared) = all ∙ ap suc (sym (enough ∙ ap length told)) in
    let reads : take (word_count types (wit.Id c.args.id)) (drop at words) ≡ tag ∷ shared = ap (take (word_count types (wit.Id c.args.id))) front ∙ take_at (tag ∷ shared) (drop (at + f.count) words) (word_count types (wit.Id c.args.id)) (sym whole) in
    let made = freed_variant m sound types c.requires.down c.args.id here.entry here.stands kind c.requires.cases here.kind (sym c.id_has_list.ensures ∙ c.if-not-id_has_list.false) tag shared payloads (take (f.count - 1) (drop 1 f.words)) same told enough _ _ _
    c.in_ok-free_cases.ensures.frees c.in_ok-free_cases.ensures.flows c.in_ok-run_case.ensures in
    record {
      next = ap (λ n. at + n) (is ∙ sym all);
      frees = (tag ∷ shared, front, made.frees);
      flows = subst (λ os. Flows m types (free_words_code types (wit.Id c.args.id)) os [] c.args.bindgen.now c.run_case.new.bindgen) (sym reads) made.flows;
    }

pub free_cases-loop-i-init : goal.free_cases-loop-i-init
free_cases-loop-i-init g t c =
    let m = g.B.Bindgen.meaning in
    let types = c.args.resolve.now.types in
    let code = blocks_of_cases (length c.args.slots.now) (lift_case types c.args.slots.now) (free_words_code types) c.args.payloads.now in
    record { resumes = resumes_same m _; flows = λ new gives h. subst (λ os. Flows m types code os gives c.args.bindgen.now new) (append-nil c.args.words.now) h; rest = λ new h. h }

pub free_cases-free_case-requires : goal.free_cases-free_case-requires
free_cases-free_case-requires g t c κs within =
    let types = c.args.resolve.now.types in
    let payloads = c.args.payloads.now in
    let i = c.loop-i.i in
    let short : i < length payloads = omega (arith, c.loop-i-test.true) in
    let low : payload_rank (get_or payloads i None) ≤ c.args.id.0 = payload_ranked c.args.id.0 payloads i None c.requires.below short in
    let below : payload_below (length types) (get_or payloads i None) ≡ true = payload_in_table c.args.id.0 (length types) payloads i None c.requires.within c.requires.below short in
    let serves = payload_served types payloads i None c.requires.serves short in
    let fits : FitIn (payload_words types (get_or payloads i None)) c.args.slots.now = subst (FitIn (payload_words types (get_or payloads i None))) (sym c.requires.shared) (payload_fits types payloads i None short) in
    (omega (arith, low), (within.0, (within.1, (c.requires.well, (c.requires.down, (below, (serves, (fits, (c.requires.few, c.requires.enough)))))))))

pub free_cases-loop-i-preserved : goal.free_cases-loop-i-preserved
free_cases-loop-i-preserved g t c =
    let m = g.B.Bindgen.meaning in
    let types = c.args.resolve.now.types in
    let payloads = c.args.payloads.now in
    let i = c.loop-i.i in
    let short : i < length payloads = omega (arith, c.loop-i-test.true) in
    let one = c.in_ok-free_case.ensures in
    let slots = c.args.slots.now in
    let words = c.args.words.now in
    let code : ℕ → Option WitType → Flow = λ n p. in_block (lift_case types slots n (option_map (λ ty. (ty, free_words_code types ty)) p)) in
    let flow = subst (λ os. Flows m types (code i (get_or payloads i None)) os [] c.loop-i.bindgen c.free_case.new.bindgen) (sym (append-nil words)) (one.flows i) in
    record {
      resumes = resumes_both m _ _ _ c.loop-i.invariant.resumes one.frees.adds.resumes;
      flows = flows_next m types (length slots) (λ payload. 0) code words payloads words c.args.bindgen.now i None [] [] [] [] [] c.loop-i.bindgen c.free_case.new.bindgen short c.requires.enough refl refl flow c.loop-i.invariant.flows;
      rest = next_case m g.met.B.Bindgen.sound types payloads slots words i _ _ _ (get_or payloads i None) (drop_more payloads i None short) one.frees c.loop-i.invariant.rest;
    }

pub free_cases-returns : goal.free_cases-returns
free_cases-returns g t c =
    let m = g.B.Bindgen.meaning in
    let types = c.args.resolve.now.types in
    let payloads = c.args.payloads.now in
    let slots = c.args.slots.now in
    let words = c.args.words.now in
    let ended : length payloads ≤ c.loop-i.i = omega (arith, c.loop-i-test.false) in
    let code : ℕ → Option WitType → Flow = λ n p. in_block (lift_case types slots n (option_map (λ ty. (ty, free_words_code types ty)) p)) in
    record {
      frees = last_case m g.met.B.Bindgen.sound types payloads slots words c.loop-i.i _ _ ended c.loop-i.invariant.rest;
      flows = flows_last m types (length slots) (λ payload. 0) code words payloads words c.args.bindgen.now c.loop-i.i [] [] _ ended c.loop-i.invariant.flows;
    }

pub free_case-free_payload-requires : goal.free_case-free_payload-requires
free_case-free_payload-requires g t c κs within =
    let types = c.args.resolve.now.types in
    let deep : payload_rank c.args.payload ≡ rank c.in-Some.ty = ap payload_rank c.in-Some.is in
    let below = payload_type_low (length types) c.in-Some.ty (subst (λ (p : Option WitType). payload_below (length types) p ≡ true) c.in-Some.is c.requires.below) in
    let serves = subst (λ (p : Option WitType). Serves (payload_in (shapes types) p)) c.in-Some.is c.requires.serves in
    let fits = subst (λ (p : Option WitType). FitIn (payload_words types p) c.args.slots.now) c.in-Some.is c.requires.fits in
    (omega (arith, deep), (within.0, (within.1, (c.requires.well, (c.requires.down, (below, (serves, (fits, (c.requires.few, c.requires.enough)))))))))

pub free_case-returns-in_ok-empty_block-in-None : goal.free_case-returns-in_ok-empty_block-in-None
free_case-returns-in_ok-empty_block-in-None g t c =
    let m = g.B.Bindgen.meaning in
    let types = c.args.resolve.now.types in
    let slots = c.args.slots.now in
    let words = c.args.words.now in
    let block = c.in_ok-empty_block-in-None.ensures in
    let end = c.empty_block.new.bindgen in
    let empty = flows_block m types leave_none words [] c.args.bindgen.now block.0 block.0 end block.1 (refl, refl) block.2 in
    record {
      frees = subst (λ (p : Option WitType). FreesSlots m (payload_in (shapes types) p) slots words c.args.bindgen.now end) (sym c.in-None.is) (bare_slots m g.met.B.Bindgen.sound slots words _ _ _ block.1 block.2);
      flows = λ n. subst (λ (p : Option WitType). Flows m types (in_block (lift_case types slots n (option_map (λ ty. (ty, free_words_code types ty)) p))) words [] c.args.bindgen.now end) (sym c.in-None.is) empty;
    }

pub free_case-returns-in_ok-free_payload-in-Some : goal.free_case-returns-in_ok-free_payload-in-Some
free_case-returns-in_ok-free_payload-in-Some g t c =
    let m = g.B.Bindgen.meaning in
    let types = c.args.resolve.now.types in
    let slots = c.args.slots.now in
    let words = c.args.words.now in
    let end = c.free_payload.new.bindgen in
    let done = c.in_ok-free_payload-in-Some.ensures in
    record {
      frees = subst (λ (p : Option WitType). FreesSlots m (payload_in (shapes types) p) slots words c.args.bindgen.now end) (sym c.in-Some.is) done.frees;
      flows = λ n. subst (λ (p : Option WitType). Flows m types (in_block (lift_case types slots n (option_map (λ ty. (ty, free_words_code types ty)) p))) words [] c.args.bindgen.now end) (sym c.in-Some.is) (done.flows n);
    }

pub free_payload-free_type-requires : goal.free_payload-free_type-requires
free_payload-free_type-requires g t c κs within =
    let types = c.args.resolve.now.types in
    let f = c.flat_types-flat.result in
    let slots = c.args.slots.now in
    let few = few_words types c.args.ty slots c.requires.fits c.requires.few in
    let is = payload_count types c.args.ty f c.flat_types-flat.ensures (no_more types c.args.ty f c.flat_types-flat.ensures few) in
    let most = fit_length (payload_words types (Some c.args.ty)) slots c.requires.fits in
    let many = length-take-le f.count slots (omega (arith, is, most)) in
    let enough : 0 + word_count types c.args.ty ≤ length c.as_slice.result.now = omega (arith, ap length c.as_slice.ensures, c.in_ok-used.ensures.casts.fits, many, is) in
    (omega arith, (within.0, (within.1, (c.requires.well, (c.requires.down, (c.requires.below, (c.requires.serves, (few, enough))))))))

pub free_payload-close-requires : goal.free_payload-close-requires
free_payload-close-requires g t c =
    let m = g.B.Bindgen.meaning in
    let begins = c.in_ok-push_block.ensures in
    let opened = c.in_ok-free_type.ensures.frees.2.adds.grows.opened ∙ c.in_ok-used.ensures.casts.adds.grows.opened ∙ begins.opened in
    record { slot = begins.slot; suspended = m.code c.args.bindgen.now; outer = m.opened c.args.bindgen.now; opened = opened }

pub free_payload-returns : goal.free_payload-returns
free_payload-returns g t c =
    let m = g.B.Bindgen.meaning in
    let sound = g.met.B.Bindgen.sound in
    let types = c.args.resolve.now.types in
    let ty = c.args.ty in
    let slots = c.args.slots.now in
    let shared = c.args.words.now in
    let f = c.flat_types-flat.result in
    let words = payload_words types (Some ty) in
    let told = payload_told types ty f c.flat_types-flat.ensures (no_more types ty f c.flat_types-flat.ensures (few_words types ty slots c.requires.fits c.requires.few)) in
    let is = payload_count types ty f c.flat_types-flat.ensures (no_more types ty f c.flat_types-flat.ensures (few_words types ty slots c.requires.fits c.requires.few)) in
    let most = fit_length words slots c.requires.fits in
    let a = c.args.bindgen.now in
    let b = c.push_block.new.self in
    let casted = c.cast_words.new.bindgen in
    let freed = c.free_type.new.bindgen in
    let closed = c.close.new.bindgen in
    let used = c.in_ok-used.used in
    let opens = c.in_ok-push_block.ensures in
    let close = c.in_ok-close.ensures in
    let part = free_words_code types ty in
    let first : c.from_vec-first.result ≡ take f.count shared = c.from_vec-first.ensures ∙ c.in_ok-push_copies.ensures ∙ ap (λ (os : List g.row.B-Operand.Denot). os ++ take f.count shared) c.new-first.ensures.items in
    let casts = subst (λ n. CastsAll m (take n slots) words (take n shared) used b casted) is
    (subst (λ (xs : List WasmType). CastsAll m (take f.count slots) xs (take f.count shared) used b casted) told
    (subst (λ (os : List g.row.B-Operand.Denot). CastsAll m (take f.count slots) (take f.count f.words) os used b casted) first c.in_ok-used.ensures.casts)) in
    let Cast : ℕ → List WasmType → List g.row.B-Operand.Denot → Type 0 = λ n xs os. Flows m types (cast_code (take n slots) xs) os used b casted in
    let cast_flow : Cast (length words) words (take (length words) shared) = subst (λ n. Cast n words (take n shared)) is (subst (λ xs. Cast f.count xs (take f.count shared)) told (subst (λ os. Cast f.count (take f.count f.words) os) first c.in_ok-used.ensures.flows)) in
    let got = subst (λ (os : List g.row.B-Operand.Denot). (used : List g.row.B-Operand.Denot) × (os ≡ used ++ drop c.in_ok-free_type.field-0 os) × FreesFlat m (shape_of types ty) used casted freed) c.as_slice.ensures c.in_ok-free_type.ensures.frees in
    let many : length got.0 ≡ length used = got.2.fits ∙ sym (casts.fits ∙ length-take-le (length words) slots most) in
    let whole = subst (λ (os : List g.row.B-Operand.Denot). FreesFlat m (shape_of types ty) os casted freed) (all_used used got.0 (drop c.in_ok-free_type.field-0 used) got.1 many) got.2 in
    let all : take (word_count types ty) (drop 0 c.as_slice.result.now) ≡ used = ap (take (word_count types ty)) c.as_slice.ensures ∙ take_all (word_count types ty) used (omega (arith, casts.fits, length-take-le (length words) slots most)) in
    let free_flow = subst (λ os. Flows m types part os [] casted freed) all c.in_ok-free_type.ensures.flows in
    let inside = flows_then m types (leading (length words) >>> cast_code (take (length words) slots) words) part shared used [] b casted freed
    (flows_then m types (leading (length words)) (cast_code (take (length words) slots) words) shared (take (length words) shared) used b b casted (refl, refl) cast_flow) free_flow in
    record {
      frees = slots_free m sound (shape_of types ty) slots shared used a b casted freed closed c.requires.fits c.requires.enough opens casts whole close;
      flows = λ n. flows_block m types (lift_case types slots n (Some (ty, part))) shared [] a b freed closed opens inside close;
    }
