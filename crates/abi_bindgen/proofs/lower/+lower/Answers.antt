use Rattle.std.proofs.Common.{rules, ◌≡◌, ℤ, pos, ◌<◌, ◌≤◌, ◌^◌, ◌-◌, ◌+◌, true, List, [], ◌∷◌, take, drop, Option, None, Some, option_map, ◌++◌, length, map, get_or, refl, sym, ap, ◌∙◌, subst, arith, ℕ}
use Rattle.std.specs.List.{AllByRecursion, list_all}
use Rattle.std.proofs.lemmas.Bool.{lt-ltb}
use Rattle.std.proofs.lemmas.List.{drop_more, length-drop, length-map, length-take-le, take_all}
use Rattle.std.proofs.lemmas.Option.{slice_get_within}
use Rattle.wit_model.specs.Reaches.{reaches_itself}
use Rattle.wit_model.specs.TypeOrder.{payload_below, type_below}
use Rattle.wit_model.specs.declared.types.Field.{Field}
use Rattle.wit_model.specs.declared.types.TypeDef.{TypeDef}
use Rattle.wit_model.specs.declared.types.TypeDefKind.TheVariants as kind
use Rattle.wit_model.specs.declared.types.WitType.{WitType}
use Rattle.wit_model.specs.declared.types.WitType.TheVariants as wit
use Rattle.wit_layout.proofs.FlattenSteps.{payload_rank, rank}
use Rattle.wit_model.specs.declared.wasm_type.WasmType.{WasmType}
use Rattle.wrapper_meaning.specs.Shape.{payload_in, payloads_in, shape_at, shape_of, shapes}
use Rattle.wrapper_meaning.specs.Shape.Shape.{cases}
use Rattle.wrapper_meaning.specs.Shape.Shapes.{none, more}
use Rattle.abi_bindgen.specs.CaseBlocks.{LowersCases}
use Rattle.abi_bindgen.specs.Cases.{payloads_of}
use Rattle.abi_bindgen.specs.declared.instruction.Instruction.{Instruction}
use Rattle.abi_bindgen.specs.declared.instruction.Instruction.TheVariants.{EnumLower, FlagsLower, I32Const, RecordLower, StringLower, TupleLower, VariantPayloadName}
use Rattle.abi_bindgen.specs.Code.{blocks_of_cases, case_words, cast_code, lower_case, lower_code, lower_payload, payload_words, shared_slots, zero_code}
use Rattle.abi_bindgen.specs.Flow.{behind, each, emit, in_block, leading, same, ◌>>>◌, Flow, both, alone}
use Rattle.abi_bindgen.specs.Flows.{Flows}
use Rattle.abi_bindgen.specs.Blocks.{Finishes}
use Rattle.abi_bindgen.specs.Instructions.{Emits, IsSendable, case_lowering, shapes_of}
use Rattle.abi_bindgen.specs.Served.{ServesAll}
use Rattle.abi_bindgen.specs.SlotCasts.{AddsZeros, AreOrdered, CastsAll, FitIn, ReadBack}
use Rattle.abi_bindgen.specs.WordCount.{word_count, word_counts}
use Rattle.abi_bindgen.specs.Written.{Writes, WritesEach, WritesPart}
use Rattle.abi_bindgen.proofs.BlockRuns.{grows_alike, grows_none}
use Rattle.abi_bindgen.proofs.CaseLowers.{full_lowers}
use Rattle.abi_bindgen.proofs.Payloads.{count_told, payload_count, payload_in_table, payload_ranked, payload_told, slots_told, variant_below, variant_shape, payload_some}
use Rattle.abi_bindgen.proofs.Variants.{cases_done, cases_next, variant_lowers, variant_sendable}
use Rattle.abi_bindgen.proofs.WordBits.{fit_length, number_signed, payload_fits, to_slots}
use Rattle.abi_bindgen.proofs.EnumLowers.{enum_lowers}
use Rattle.abi_bindgen.proofs.FlagLowers.{flags_lowers}
use Rattle.abi_bindgen.proofs.FlatCode.{lower_alias_code, lower_enum_code, lower_flags_code, lower_record_code, lower_scalar_code, lower_text_code, lower_tuple_code, lower_variant_code}
use Rattle.abi_bindgen.proofs.LowerSteps.{lowers_all_as, lowers_as, record_lowers, rest_last, rest_next, scalar_lowers, text_lowers, tuple_lowers}
use Rattle.abi_bindgen.proofs.Records.{alias_below, alias_rank, alias_shape, count-shapes, drop-same, entry_at, enum_shape, flags_shape, kind_at, part_below_table, part_ranked, record_below, record_shape, tuple_below, tuple_shape, tuple_short}
use Rattle.abi_bindgen.proofs.Runs.{adds_both, side_later}
use Rattle.abi_bindgen.proofs.Serving.{alias_served, enum_served, few_payloads, other_refused, part_served, payload_served, payloads_served, record_served, tuple_served}
use Rattle.abi_bindgen.proofs.FlowSteps.{FlowsOn, flows_alone, flows_as, flows_block, flows_both, flows_last, flows_next, flows_then}
use Rattle.abi_bindgen.proofs.WordCounts.{alias_words, case_count, few_words, no_more, part_few, record_words, tuple_words}
use Rattle.abi_bindgen.proofs.Writing.{alias_written, each_later, one_written, part_later, payload_written, payloads_written, record_written, tuple_written, writes_later}
use Rattle.abi_bindgen.proofs.lower.+lower.Goals as goal

pub lower_id-lower_type-requires : goal.lower_id-lower_type-requires
lower_id-lower_type-requires g t c κs within =
    let types = c.args.resolve.now.types in
    let d = c.index-types-at.result in
    let at = entry_at types c.as_slice-types.result.now c.args.id.0 d c.as_slice-types.ensures c.requires.within c.index-types-at.is in
    let is = kind_at c.as_slice-types.result.now c.args.id.0 d (kind.Alias c.in-Alias.ty) c.index-types-at.is c.in-Alias.is in
    let low : rank c.in-Alias.ty ≤ c.args.id.0 = alias_rank types c.requires.down c.args.id.0 d at c.in-Alias.ty is in
    let below = alias_below types c.requires.down c.args.id.0 d at c.in-Alias.ty is c.requires.within in
    let served = alias_served types c.requires.down c.args.id.0 d at c.requires.serves c.in-Alias.ty is in
    let writes = alias_written g.B.Bindgen.meaning types c.args.id d at c.args.bindgen.now c.requires.writes c.in-Alias.ty is in
    let few : word_count types c.in-Alias.ty ≤ 16 = subst (λ n. n ≤ 16) (alias_words types c.requires.down c.args.id d at c.in-Alias.ty is) c.requires.few in
    search rules

pub lower_id-returns-in_ok-words-in-Alias : goal.lower_id-returns-in_ok-words-in-Alias
lower_id-returns-in_ok-words-in-Alias g t c =
    let m = g.B.Bindgen.meaning in
    let types = c.args.resolve.now.types in
    let d = c.index-types-at.result in
    let at = entry_at types c.as_slice-types.result.now c.args.id.0 d c.as_slice-types.ensures c.requires.within c.index-types-at.is in
    let is = kind_at c.as_slice-types.result.now c.args.id.0 d (kind.Alias c.in-Alias.ty) c.index-types-at.is c.in-Alias.is in
    record {
      lowers = lowers_as m g.met.B.Bindgen.sound types c.args.realloc _ _ _ _ c.args.value c.in_ok-words-in-Alias.words (alias_shape types c.requires.down c.args.id.0 d at c.in-Alias.ty is) c.in_ok-words-in-Alias.ensures.lowers;
      flows = flows_as m types _ _ _ _ _ _ (lower_alias_code types c.requires.down c.args.id d at c.args.realloc c.in-Alias.ty is) c.in_ok-words-in-Alias.ensures.flows;
    }

pub lower_id-returns-in_ok-words-in-Enum : goal.lower_id-returns-in_ok-words-in-Enum
lower_id-returns-in_ok-words-in-Enum g t c =
    let m = g.B.Bindgen.meaning in
    let types = c.args.resolve.now.types in
    let d = c.index-types-at.result in
    let at = entry_at types c.as_slice-types.result.now c.args.id.0 d c.as_slice-types.ensures c.requires.within c.index-types-at.is in
    let members = c.in-Enum.field-0 in
    let is = kind_at c.as_slice-types.result.now c.args.id.0 d (kind.Enum members) c.index-types-at.is c.in-Enum.is in
    let most = enum_served types c.requires.down c.args.id.0 d at c.requires.serves members is in
    let e = c.in_ok-words-in-Enum.ensures in
    let flat = enum_lowers m types c.args.realloc c.args.id members _ _ c.args.value c.in_ok-words-in-Enum.words most (record { entry = d; stands = at; kind = is }) e in
    record {
      lowers = lowers_as m g.met.B.Bindgen.sound types c.args.realloc _ _ _ _ c.args.value c.in_ok-words-in-Enum.words (enum_shape types c.requires.down c.args.id.0 d at members is) flat;
      flows = flows_as m types (emit (EnumLower c.args.id)) _ _ _ _ _ (lower_enum_code types c.requires.down c.args.id d at c.args.realloc members is) e;
    }

pub lower_id-lower_by-requires-in-Flags : goal.lower_id-lower_by-requires-in-Flags
lower_id-lower_by-requires-in-Flags g t c =
    let types = c.args.resolve.now.types in
    let d = c.index-types-at.result in
    let at = entry_at types c.as_slice-types.result.now c.args.id.0 d c.as_slice-types.ensures c.requires.within c.index-types-at.is in
    let members = c.in-Flags.field-0 in
    let is = kind_at c.as_slice-types.result.now c.args.id.0 d (kind.Flags members) c.index-types-at.is c.in-Flags.is in
    record { built = refl; operands = refl; suits = (length members, (members, record { entry = d; stands = at; kind = is }, refl), c.requires.writes c.args.id reaches_itself) }

pub lower_id-returns-in_ok-words-in-Flags : goal.lower_id-returns-in_ok-words-in-Flags
lower_id-returns-in_ok-words-in-Flags g t c =
    let m = g.B.Bindgen.meaning in
    let types = c.args.resolve.now.types in
    let d = c.index-types-at.result in
    let at = entry_at types c.as_slice-types.result.now c.args.id.0 d c.as_slice-types.ensures c.requires.within c.index-types-at.is in
    let members = c.in-Flags.field-0 in
    let is = kind_at c.as_slice-types.result.now c.args.id.0 d (kind.Flags members) c.index-types-at.is c.in-Flags.is in
    let e = c.in_ok-words-in-Flags.ensures in
    let flat = flags_lowers m types c.args.realloc c.args.id (length members) _ _ c.args.value c.in_ok-words-in-Flags.words (members, record { entry = d; stands = at; kind = is }, refl) e in
    record {
      lowers = lowers_as m g.met.B.Bindgen.sound types c.args.realloc _ _ _ _ c.args.value c.in_ok-words-in-Flags.words (flags_shape types c.requires.down c.args.id.0 d at members is) flat;
      flows = flows_as m types (emit (FlagsLower c.args.id)) _ _ _ _ _ (lower_flags_code types c.requires.down c.args.id d at c.args.realloc members is) e;
    }

pub lower_record-lower_by-requires : goal.lower_record-lower_by-requires
lower_record-lower_by-requires g t c = record { built = refl; operands = refl; suits = (c.args.members.now, record { entry = c.requires.here.entry; at = c.requires.here.stands; kind = c.requires.here.kind }, c.requires.writes c.args.id reaches_itself) }

pub lower_record-lower_parts-requires : goal.lower_record-lower_parts-requires
lower_record-lower_parts-requires g t c κs within =
    let m = g.B.Bindgen.meaning in
    let types = c.args.resolve.now.types in
    let here = c.requires.here in
    let inside : c.args.id.0 < length types = slice_get_within types c.args.id.0 here.entry here.stands in
    let members = c.args.members.now in
    let read = c.as_slice-tys.result.now in
    let same : read ≡ map (λ (f : Field). f.ty) members = c.as_slice-tys.ensures ∙ c.in_ok-tys.ensures ∙ ap (map (λ (f : Field). f.ty)) c.as_slice.ensures in
    let below = subst (λ (xs : List WitType). list_all (λ ty. type_below c.args.id.0 ty) xs ≡ true) (sym same) (record_below types c.requires.down c.args.id.0 here.entry here.stands members here.kind) in
    let made = c.in_ok-parts.ensures.results members (record { entry = here.entry; at = here.stands; kind = here.kind }) in
    let enough : length c.in_ok-parts.parts ≡ length read = made ∙ sym (ap length same ∙ length-map members (λ (f : Field). f.ty)) in
    let side = side_later m _ _ c.args.realloc c.in_ok-parts.ensures.adds.grows c.requires.side in
    let served = subst (λ (xs : List WitType). ServesAll (shapes_of types xs)) (sym same) (record_served types c.requires.down c.args.id.0 here.entry here.stands c.requires.serves members here.kind) in
    let writes = each_later m types _ _ read c.in_ok-parts.ensures.adds.grows (subst (λ (xs : List WitType). WritesEach m types xs c.args.bindgen.now) (sym same) (record_written m types c.args.id here.entry here.stands c.args.bindgen.now c.requires.writes members here.kind)) in
    let few : word_counts types read ≤ 16 = subst (λ (xs : List WitType). word_counts types xs ≤ 16) (sym same) (subst (λ n. n ≤ 16) (record_words types c.requires.down c.args.id here.entry here.stands members here.kind) c.requires.few) in
    search rules

pub lower_record-returns : goal.lower_record-returns
lower_record-returns g t c =
    let m = g.B.Bindgen.meaning in
    let types = c.args.resolve.now.types in
    let here = c.requires.here in
    let members = c.args.members.now in
    let same : c.as_slice-tys.result.now ≡ map (λ (f : Field). f.ty) members = c.as_slice-tys.ensures ∙ c.in_ok-tys.ensures ∙ ap (map (λ (f : Field). f.ty)) c.as_slice.ensures in
    let later = lowers_all_as m g.met.B.Bindgen.sound types c.args.realloc _ _ _ _ c.in_ok-parts.parts c.in_ok-words.words same c.in_ok-words.ensures.lowers in
    let whole = record_lowers m g.met.B.Bindgen.sound types c.args.realloc c.args.id members _ _ _ c.args.value c.in_ok-parts.parts c.in_ok-words.words (record { entry = here.entry; at = here.stands; kind = here.kind }) c.in_ok-parts.ensures later in
    let parts = flows_as m types _ _ _ _ _ _ (ap (each 0 (λ ty. 1) (λ n ty. lower_code types c.args.realloc ty) 0) (sym same)) c.in_ok-words.ensures.flows in
    record {
      lowers = lowers_as m g.met.B.Bindgen.sound types c.args.realloc _ _ _ _ c.args.value c.in_ok-words.words (record_shape types c.requires.down c.args.id.0 here.entry here.stands members here.kind) whole;
      flows = flows_as m types _ _ _ _ _ _ (lower_record_code types c.requires.down c.args.id here.entry here.stands c.args.realloc members here.kind)
          (flows_then m types (emit (RecordLower c.args.id)) (each 0 (λ ty. 1) (λ n ty. lower_code types c.args.realloc ty) 0 (map (λ (f : Field). f.ty) members)) _ c.in_ok-parts.parts _ _ _ _ c.in_ok-parts.ensures parts);
    }

pub lower_tuple-lower_parts-requires : goal.lower_tuple-lower_parts-requires
lower_tuple-lower_parts-requires g t c κs within =
    let m = g.B.Bindgen.meaning in
    let types = c.args.resolve.now.types in
    let here = c.requires.here in
    let inside : c.args.id.0 < length types = slice_get_within types c.args.id.0 here.entry here.stands in
    let read = c.as_slice-tys.result.now in
    let below = subst (λ (xs : List WitType). list_all (λ ty. type_below c.args.id.0 ty) xs ≡ true) (sym c.as_slice-tys.ensures) (tuple_below types c.requires.down c.args.id.0 here.entry here.stands c.args.members.now here.kind) in
    let enough : length c.in_ok-parts.parts ≡ length read = c.in_ok-parts.ensures.results ∙ c.part_count.ensures in
    let side = side_later m _ _ c.args.realloc c.in_ok-parts.ensures.adds.grows c.requires.side in
    let served = subst (λ (xs : List WitType). ServesAll (shapes_of types xs)) (sym c.as_slice-tys.ensures) (tuple_served types c.requires.down c.args.id.0 here.entry here.stands c.requires.serves c.args.members.now here.kind) in
    let writes = each_later m types _ _ read c.in_ok-parts.ensures.adds.grows (subst (λ (xs : List WitType). WritesEach m types xs c.args.bindgen.now) (sym c.as_slice-tys.ensures) (tuple_written m types c.args.id here.entry here.stands c.args.bindgen.now c.requires.writes c.args.members.now here.kind)) in
    let few : word_counts types read ≤ 16 = subst (λ (xs : List WitType). word_counts types xs ≤ 16) (sym c.as_slice-tys.ensures) (subst (λ n. n ≤ 16) (tuple_words types c.requires.down c.args.id here.entry here.stands c.args.members.now here.kind) c.requires.few) in
    search rules

pub lower_tuple-returns : goal.lower_tuple-returns
lower_tuple-returns g t c =
    let m = g.B.Bindgen.meaning in
    let types = c.args.resolve.now.types in
    let here = c.requires.here in
    let tys = c.args.members.now in
    let later = lowers_all_as m g.met.B.Bindgen.sound types c.args.realloc _ _ _ _ c.in_ok-parts.parts c.in_ok-words.words c.as_slice-tys.ensures c.in_ok-words.ensures.lowers in
    let count = count-shapes types tys ∙ sym (c.part_count.ensures ∙ ap length c.as_slice-tys.ensures) in
    let whole = tuple_lowers m g.met.B.Bindgen.sound types c.args.realloc c.part_count.result (shapes_of types tys) _ _ _ c.args.value c.in_ok-parts.parts c.in_ok-words.words count c.in_ok-parts.ensures later in
    let many : length tys ≡ c.part_count.result = sym (c.part_count.ensures ∙ ap length c.as_slice-tys.ensures) in
    let parts = flows_as m types _ _ _ _ _ _ (ap (each 0 (λ ty. 1) (λ n ty. lower_code types c.args.realloc ty) 0) (sym c.as_slice-tys.ensures)) c.in_ok-words.ensures.flows in
    let code = lower_tuple_code types c.requires.down c.args.id here.entry here.stands c.args.realloc tys here.kind ∙ ap (λ n. emit (TupleLower n) >>> each 0 (λ ty. 1) (λ n ty. lower_code types c.args.realloc ty) 0 tys) many in
    record {
      lowers = lowers_as m g.met.B.Bindgen.sound types c.args.realloc _ _ _ _ c.args.value c.in_ok-words.words (tuple_shape types c.requires.down c.args.id.0 here.entry here.stands tys here.kind) whole;
      flows = flows_as m types _ _ _ _ _ _ code (flows_then m types (emit (TupleLower c.part_count.result)) (each 0 (λ ty. 1) (λ n ty. lower_code types c.args.realloc ty) 0 tys) _ c.in_ok-parts.parts _ _ _ _ c.in_ok-parts.ensures parts);
    }

pub lower_parts-lower_type-requires : goal.lower_parts-lower_type-requires
lower_parts-lower_type-requires g t c κs within =
    let m = g.B.Bindgen.meaning in
    let types = c.args.resolve.now.types in
    let short : c.loop-i.i < length c.args.tys.now = omega (arith, c.loop-i-test.true) in
    let low : rank (get_or c.args.tys.now c.loop-i.i wit.Bool) ≤ c.args.at = part_ranked c.args.at c.args.tys.now c.requires.below c.loop-i.i wit.Bool short in
    let below = part_below_table c.args.at c.args.tys.now c.requires.below c.loop-i.i wit.Bool short (length types) c.requires.within in
    let side = side_later m _ _ c.args.realloc c.loop-i.invariant.adds.grows c.requires.side in
    let served = part_served types c.args.tys.now c.loop-i.i wit.Bool c.requires.serves short in
    let writes = writes_later m types _ _ (get_or c.args.tys.now c.loop-i.i wit.Bool) c.loop-i.invariant.adds.grows (one_written m types c.args.bindgen.now c.args.tys.now c.loop-i.i wit.Bool c.requires.writes short) in
    let few : word_count types (get_or c.args.tys.now c.loop-i.i wit.Bool) ≤ 16 = omega (arith, part_few types c.args.tys.now c.loop-i.i wit.Bool short, c.requires.few) in
    search rules

pub lower_parts-loop-i-preserved : goal.lower_parts-loop-i-preserved
lower_parts-loop-i-preserved g t c =
    let m = g.B.Bindgen.meaning in
    let types = c.args.resolve.now.types in
    let tys = c.args.tys.now in
    let parts = c.args.parts.now in
    let i = c.loop-i.i in
    let part = c.in_ok-part.part in
    let words = c.in_ok-words.words in
    let short : i < length tys = omega (arith, c.loop-i-test.true) in
    let enough : i < length parts = omega (arith, short, c.requires.enough) in
    let unread : drop i parts ≡ part ∷ drop (i + 1) parts = drop-same parts c.as_slice.result.now i part c.index-as_slice-i.result c.as_slice.ensures enough c.index-as_slice-i.is c.in_ok-part.ensures in
    let all = c.in_ok-push_copies.ensures ∙ ap (λ os. c.loop-i.all.items ++ os) c.as_slice-in-loop-i.ensures in
    let code : ℕ → WitType → Flow = λ n ty. lower_code types c.args.realloc ty in
    let on = subst (λ os. FlowsOn m types 0 (λ ty. 1) code [] tys parts c.args.bindgen.now i c.loop-i.all.items os c.loop-i.bindgen) unread c.loop-i.invariant.flows in
    record {
      adds = adds_both m _ _ _ c.loop-i.invariant.adds c.in_ok-words.ensures.lowers.adds;
      flows = flows_next m types 0 (λ ty. 1) code [] tys parts c.args.bindgen.now i wit.Bool (part ∷ []) (drop (i + 1) parts) c.loop-i.all.items words c.push_copies.new.all.items _ _ short refl refl all c.in_ok-words.ensures.flows on;
      rest = rest_next m g.met.B.Bindgen.sound types c.args.realloc tys parts i c.loop-i.all.items words c.push_copies.new.all.items _ _ _ (get_or tys i wit.Bool) part (drop_more tys i wit.Bool short) unread c.in_ok-words.ensures.lowers all c.loop-i.invariant.rest;
    }

pub lower_parts-returns : goal.lower_parts-returns
lower_parts-returns g t c =
    let m = g.B.Bindgen.meaning in
    let types = c.args.resolve.now.types in
    let ended : length c.args.tys.now ≤ c.loop-i.i = omega (arith, c.loop-i-test.false) in
    let done : length c.args.parts.now ≤ c.loop-i.i = omega (arith, ended, c.requires.enough) in
    record {
      lowers = rw c.from_vec.ensures (rest_last m g.met.B.Bindgen.sound types c.args.realloc c.args.tys.now c.args.parts.now c.loop-i.i c.loop-i.all.items _ _ ended done c.loop-i.invariant.rest);
      flows = rw c.from_vec.ensures (flows_last m types 0 (λ ty. 1) (λ n ty. lower_code types c.args.realloc ty) [] c.args.tys.now c.args.parts.now c.args.bindgen.now c.loop-i.i c.loop-i.all.items (drop c.loop-i.i c.args.parts.now) _ ended c.loop-i.invariant.flows);
    }

pub lower_type-returns-in-Some : goal.lower_type-returns-in-Some
lower_type-returns-in-Some g t c =
    let m = g.B.Bindgen.meaning in
    let types = c.args.resolve.now.types in
    let is = sym c.scalar_lowering.ensures ∙ c.in-Some.is in
    record {
      lowers = scalar_lowers m g.met.B.Bindgen.sound types c.args.realloc c.args.ty c.in-Some.inst _ _ c.args.value c.in_ok-words.words is c.in_ok-words.ensures;
      flows = flows_as m types (emit c.in-Some.inst) _ _ _ _ _ (lower_scalar_code types c.args.realloc c.args.ty c.in-Some.inst is) c.in_ok-words.ensures;
    }

pub lower_type-returns-in_ok-words-in-String : goal.lower_type-returns-in_ok-words-in-String
lower_type-returns-in_ok-words-in-String g t c =
    let m = g.B.Bindgen.meaning in
    let types = c.args.resolve.now.types in
    record {
      lowers = lowers_as m g.met.B.Bindgen.sound types c.args.realloc _ _ _ _ c.args.value c.in_ok-words-in-String.words (ap (shape_of types) c.in-String.is) (text_lowers m g.met.B.Bindgen.sound types c.args.realloc _ _ c.args.value _ c.in_ok-words-in-String.ensures);
      flows = flows_as m types (emit (StringLower c.args.realloc)) _ _ _ _ _ (ap (lower_code types c.args.realloc) c.in-String.is ∙ lower_text_code types c.args.realloc) c.in_ok-words-in-String.ensures;
    }

pub lower_cases-flat_types-flat-requires-clause-below : goal.lower_cases-flat_types-flat-requires-clause-below
unfolding type_below
lower_cases-flat_types-flat-requires-clause-below g t c = lt-ltb c.args.id.0 (length c.args.resolve.now.types) c.requires.within

pub lower_cases-slice_bounds-slots-count : goal.lower_cases-slice_bounds-slots-count
lower_cases-slice_bounds-slots-count g t c =
    let f = c.flat_types-flat.result in
    let is : f.count ≡ case_words c.args.resolve.now.types c.args.payloads.now = count_told c.args.resolve.now.types c.args.id c.args.payloads.now c.requires.cases f c.flat_types-flat.ensures (no_more c.args.resolve.now.types (wit.Id c.args.id) c.flat_types-flat.result c.flat_types-flat.ensures c.requires.sixteen) in
    omega (arith, is)

pub lower_cases-slice_bounds-slots-start : goal.lower_cases-slice_bounds-slots-start
lower_cases-slice_bounds-slots-start g t c =
    let f = c.flat_types-flat.result in
    let is : f.count ≡ case_words c.args.resolve.now.types c.args.payloads.now = count_told c.args.resolve.now.types c.args.id c.args.payloads.now c.requires.cases f c.flat_types-flat.ensures (no_more c.args.resolve.now.types (wit.Id c.args.id) c.flat_types-flat.result c.flat_types-flat.ensures c.requires.sixteen) in
    let some : 1 ≤ f.count = omega (arith, is) in
    some

pub lower_cases-lower_case-requires : goal.lower_cases-lower_case-requires
lower_cases-lower_case-requires g t c κs within =
    let m = g.B.Bindgen.meaning in
    let types = c.args.resolve.now.types in
    let payloads = c.args.payloads.now in
    let i = c.loop-i.i in
    let short : i < length payloads = omega (arith, c.loop-i-test.true) in
    let low : payload_rank (get_or payloads i None) ≤ c.args.id.0 = payload_ranked c.args.id.0 payloads i None c.requires.below short in
    let below : payload_below (length types) (get_or payloads i None) ≡ true = payload_in_table c.args.id.0 (length types) payloads i None c.requires.within c.requires.below short in
    let few : i < 2 ^ 31 = omega (arith, short, few_payloads types c.args.id.0 payloads c.requires.cases c.requires.serves) in
    let served = payload_served types payloads i None (payloads_served types c.args.id.0 payloads c.requires.cases c.requires.serves) short in
    let f = c.flat_types-flat.result in
    let told = slots_told types c.args.id payloads c.requires.cases f c.flat_types-flat.ensures (no_more c.args.resolve.now.types (wit.Id c.args.id) c.flat_types-flat.result c.flat_types-flat.ensures c.requires.sixteen) in
    let fits : FitIn (payload_words types (get_or payloads i None)) (take (f.count - 1) (drop 1 f.words)) = subst (FitIn (payload_words types (get_or payloads i None))) (sym told) (payload_fits types payloads i None short) in
    let sixteen : length (take (f.count - 1) (drop 1 f.words)) ≤ 16 = omega (arith, ap length told, case_count types c.args.id payloads c.requires.cases, c.requires.sixteen) in
    let side = side_later m _ _ c.args.realloc c.loop-i.invariant.grows c.requires.side in
    let writes = part_later m types _ _ (get_or payloads i None) c.loop-i.invariant.grows (payload_written m types c.args.bindgen.now payloads i None c.requires.writes short) in
    search rules

pub lower_cases-loop-i-init : goal.lower_cases-loop-i-init
lower_cases-loop-i-init g t c = record { grows = grows_none g.B.Bindgen.meaning c.args.bindgen.now; code = refl; flows = λ reads new gives h. h; rest = λ new h. h }

pub lower_cases-loop-i-preserved : goal.lower_cases-loop-i-preserved
lower_cases-loop-i-preserved g t c =
    let m = g.B.Bindgen.meaning in
    let r = c.args.resolve.now in
    let types = r.types in
    let payloads = c.args.payloads.now in
    let i = c.loop-i.i in
    let f = c.flat_types-flat.result in
    let short : i < length payloads = omega (arith, c.loop-i-test.true) in
    let told = slots_told types c.args.id payloads c.requires.cases f c.flat_types-flat.ensures (no_more c.args.resolve.now.types (wit.Id c.args.id) c.flat_types-flat.result c.flat_types-flat.ensures c.requires.sixteen) in
    let here = subst (λ (ds : List WasmType). LowersCases m c.args.realloc (more (payload_in (shapes types) (get_or payloads i None)) none) i ds c.loop-i.bindgen c.lower_case.new.bindgen) told c.in_ok-lower_case.ensures.lowers in
    let made : Option WitType → Option (WitType × Flow) = option_map (λ ty. (ty, lower_code types c.args.realloc ty)) in
    let flow = subst (λ (ds : List WasmType). Flows m types (in_block (lower_case types ds i (made (get_or payloads i None)))) [] [] c.loop-i.bindgen c.lower_case.new.bindgen) told c.in_ok-lower_case.ensures.flows in
    record {
      grows = grows_alike m _ _ _ c.loop-i.invariant.code c.loop-i.invariant.grows here.adds.grows;
      code = here.adds.code ∙ c.loop-i.invariant.code;
      flows = λ reads. flows_next m types 0 (λ payload. 0) (λ n payload. in_block (lower_case types (shared_slots types payloads) n (made payload))) [] payloads reads c.args.bindgen.now i None [] reads [] [] [] _ _ short refl refl refl flow (c.loop-i.invariant.flows reads);
      rest = cases_next m g.met.B.Bindgen.sound r c.requires.down c.args.id c.args.realloc payloads i None (shared_slots types payloads) _ _ _ short c.loop-i.invariant.rest here;
    }

pub lower_cases-returns : goal.lower_cases-returns
lower_cases-returns g t c =
    let m = g.B.Bindgen.meaning in
    let r = c.args.resolve.now in
    let types = r.types in
    let payloads = c.args.payloads.now in
    let ended : length payloads ≤ c.loop-i.i = omega (arith, c.loop-i-test.false) in
    record {
      words = count_told types c.args.id payloads c.requires.cases c.flat_types-flat.result c.flat_types-flat.ensures (no_more c.args.resolve.now.types (wit.Id c.args.id) c.flat_types-flat.result c.flat_types-flat.ensures c.requires.sixteen);
      few = few_payloads types c.args.id.0 payloads c.requires.cases c.requires.serves;
      lowers = cases_done m g.met.B.Bindgen.sound r c.requires.down c.args.id c.args.realloc payloads c.loop-i.i (shared_slots types payloads) _ _ ended c.loop-i.invariant.rest;
      flows = λ reads. flows_last m types 0 (λ payload. 0) (λ n payload. in_block (lower_case types (shared_slots types payloads) n (option_map (λ ty. (ty, lower_code types c.args.realloc ty)) payload))) [] payloads reads c.args.bindgen.now c.loop-i.i [] reads _ ended (c.loop-i.invariant.flows reads);
    }

pub lower_payload-slice_bounds-cast_words-end : goal.lower_payload-slice_bounds-cast_words-end
lower_payload-slice_bounds-cast_words-end g t c =
    let f = c.flat_types-flat.result in
    let is = payload_count c.args.resolve.now.types c.args.ty f c.flat_types-flat.ensures (no_more c.args.resolve.now.types c.args.ty c.flat_types-flat.result c.flat_types-flat.ensures (few_words c.args.resolve.now.types c.args.ty c.args.slots.now c.requires.fits c.requires.sixteen)) in
    let most = fit_length (payload_words c.args.resolve.now.types (Some c.args.ty)) c.args.slots.now c.requires.fits in
    sym (length-take-le f.count c.args.slots.now (omega (arith, is, most)))

pub lower_payload-cast_words-requires-clause-ordered : goal.lower_payload-cast_words-requires-clause-ordered
lower_payload-cast_words-requires-clause-ordered g t c =
    let types = c.args.resolve.now.types in
    let f = c.flat_types-flat.result in
    let words = payload_words types (Some c.args.ty) in
    let told = payload_told types c.args.ty f c.flat_types-flat.ensures (no_more c.args.resolve.now.types c.args.ty c.flat_types-flat.result c.flat_types-flat.ensures (few_words c.args.resolve.now.types c.args.ty c.args.slots.now c.requires.fits c.requires.sixteen)) in
    let is = payload_count types c.args.ty f c.flat_types-flat.ensures (no_more c.args.resolve.now.types c.args.ty c.flat_types-flat.result c.flat_types-flat.ensures (few_words c.args.resolve.now.types c.args.ty c.args.slots.now c.requires.fits c.requires.sixteen)) in
    subst (λ (xs : List WasmType). AreOrdered xs (take f.count c.args.slots.now)) (sym told) (subst (λ n. AreOrdered words (take n c.args.slots.now)) (sym is) (to_slots words c.args.slots.now c.requires.fits))

pub lower_payload-cast_words-requires-clause-enough : goal.lower_payload-cast_words-requires-clause-enough
lower_payload-cast_words-requires-clause-enough g t c =
    let told = payload_told c.args.resolve.now.types c.args.ty c.flat_types-flat.result c.flat_types-flat.ensures (no_more c.args.resolve.now.types c.args.ty c.flat_types-flat.result c.flat_types-flat.ensures (few_words c.args.resolve.now.types c.args.ty c.args.slots.now c.requires.fits c.requires.sixteen)) in
    c.in_ok-lowered.ensures.lowers.fits ∙ sym (ap length told)

pub lower_payload-slice_bounds-zero_words-count : goal.lower_payload-slice_bounds-zero_words-count
lower_payload-slice_bounds-zero_words-count g t c =
    let is = payload_count c.args.resolve.now.types c.args.ty c.flat_types-flat.result c.flat_types-flat.ensures (no_more c.args.resolve.now.types c.args.ty c.flat_types-flat.result c.flat_types-flat.ensures (few_words c.args.resolve.now.types c.args.ty c.args.slots.now c.requires.fits c.requires.sixteen)) in
    let most = fit_length (payload_words c.args.resolve.now.types (Some c.args.ty)) c.args.slots.now c.requires.fits in
    omega (arith, is, most)

pub lower_payload-slice_bounds-zero_words-start : goal.lower_payload-slice_bounds-zero_words-start
lower_payload-slice_bounds-zero_words-start g t c =
    let is = payload_count c.args.resolve.now.types c.args.ty c.flat_types-flat.result c.flat_types-flat.ensures (no_more c.args.resolve.now.types c.args.ty c.flat_types-flat.result c.flat_types-flat.ensures (few_words c.args.resolve.now.types c.args.ty c.args.slots.now c.requires.fits c.requires.sixteen)) in
    let most = fit_length (payload_words c.args.resolve.now.types (Some c.args.ty)) c.args.slots.now c.requires.fits in
    let within : c.flat_types-flat.result.count ≤ length c.args.slots.now = omega (arith, is, most) in
    within

pub lower_payload-returns : goal.lower_payload-returns
lower_payload-returns g t c =
    let m = g.B.Bindgen.meaning in
    let sound = g.met.B.Bindgen.sound in
    let types = c.args.resolve.now.types in
    let ty = c.args.ty in
    let slots = c.args.slots.now in
    let f = c.flat_types-flat.result in
    let words = payload_words types (Some ty) in
    let told = payload_told types ty f c.flat_types-flat.ensures (no_more c.args.resolve.now.types c.args.ty c.flat_types-flat.result c.flat_types-flat.ensures (few_words c.args.resolve.now.types c.args.ty c.args.slots.now c.requires.fits c.requires.sixteen)) in
    let is = payload_count types ty f c.flat_types-flat.ensures (no_more c.args.resolve.now.types c.args.ty c.flat_types-flat.result c.flat_types-flat.ensures (few_words c.args.resolve.now.types c.args.ty c.args.slots.now c.requires.fits c.requires.sixteen)) in
    let b = c.push_block.new.self in
    let named = c.send_one.new.bindgen in
    let numbered = c.send_one-2.new.bindgen in
    let opens = c.in_ok-push_block.ensures in
    let payload = c.in_ok-payload.payload in
    let tag = c.in_ok-tag.tag in
    let lowered = c.in_ok-lowered.lowered in
    let name = subst (λ (os : List g.row.B-Operand.Denot). Emits m types VariantPayloadName os (payload ∷ []) b named) c.new.ensures c.in_ok-payload.ensures in
    let number = subst (λ (z : ℤ). Emits m types (I32Const z) c.new-2.result (tag ∷ []) named numbered) (number_signed c.args.number c.requires.few) c.in_ok-tag.ensures in
    let const = subst (λ (os : List g.row.B-Operand.Denot). Emits m types (I32Const (pos c.args.number)) os (tag ∷ []) named numbered) c.new-2.ensures number in
    let casts = subst (λ n. CastsAll m words (take n slots) lowered c.in_ok-words.words c.lower_type.new.bindgen c.cast_words.new.bindgen) is
    (subst (λ (xs : List WasmType). CastsAll m xs (take f.count slots) lowered c.in_ok-words.words c.lower_type.new.bindgen c.cast_words.new.bindgen) told c.in_ok-words.ensures.casts) in
    let back = subst (λ n. ReadBack words (take n slots)) is (subst (λ (xs : List WasmType). ReadBack xs (take f.count slots)) told c.in_ok-words.ensures.back) in
    let cast_flow = subst (λ n. Flows m types (cast_code words (take n slots)) lowered c.in_ok-words.words c.lower_type.new.bindgen c.cast_words.new.bindgen) is
    (subst (λ (xs : List WasmType). Flows m types (cast_code xs (take f.count slots)) lowered c.in_ok-words.words c.lower_type.new.bindgen c.cast_words.new.bindgen) told c.in_ok-words.ensures.flows) in
    let left : take (length slots - f.count) (drop f.count slots) ≡ drop (length words) slots = take_all (length slots - f.count) (drop f.count slots) (omega (arith, length-drop f.count slots)) ∙ ap (λ n. drop n slots) is in
    let zeros = subst (λ (ds : List WasmType). AddsZeros m ds c.in_ok-zeros.zeros c.cast_words.new.bindgen c.zero_words.new.bindgen) left c.in_ok-zeros.ensures.zeros in
    let zero_flow = subst (λ (ds : List WasmType). Flows m types (zero_code ds) [] c.in_ok-zeros.zeros c.cast_words.new.bindgen c.zero_words.new.bindgen) left c.in_ok-zeros.ensures.flows in
    let close = subst (λ (zs : List g.row.B-Operand.Denot). Finishes m (tag ∷ c.in_ok-words.words ++ zs) c.zero_words.new.bindgen c.close_case.new.bindgen) c.as_slice-2.ensures
    (subst (λ (ws : List g.row.B-Operand.Denot). Finishes m (tag ∷ ws ++ c.as_slice-2.result.now) c.zero_words.new.bindgen c.close_case.new.bindgen) c.as_slice.ensures c.in_ok-close_case.ensures) in
    let some = payload_some c.args.resolve.now c.requires.well ty c.requires.below in
    let ended = c.close_case.new.bindgen in
    let part = lower_code types c.args.realloc ty in
    let filled = c.zero_words.new.bindgen in
    let casts_code : Flow = cast_code words (take (length words) slots) in
    let zeros_code : Flow = zero_code (drop (length words) slots) in
    let all = c.in_ok-words.words ++ c.in_ok-zeros.zeros in
    let put = flows_both m types (part >>> casts_code) (alone zeros_code) (payload ∷ []) c.in_ok-words.words c.in_ok-zeros.zeros numbered c.cast_words.new.bindgen filled
    (flows_then m types part casts_code (payload ∷ []) lowered c.in_ok-words.words numbered c.lower_type.new.bindgen c.cast_words.new.bindgen c.in_ok-lowered.ensures.flows cast_flow)
    (flows_alone m types zeros_code (payload ∷ []) c.in_ok-zeros.zeros c.cast_words.new.bindgen filled zero_flow) in
    let names : Flow = both (emit VariantPayloadName) (emit (I32Const (pos c.args.number))) in
    let put_code : Flow = leading 1 >>> lower_payload words slots part in
    let inside = flows_then m types names (both (behind 1) put_code) [] (payload ∷ tag ∷ []) (tag ∷ all) b numbered filled
    (flows_both m types (emit VariantPayloadName) (emit (I32Const (pos c.args.number))) [] (payload ∷ []) (tag ∷ []) b named numbered name const)
    (flows_both m types (behind 1) put_code (payload ∷ tag ∷ []) (tag ∷ []) all numbered numbered filled (refl, refl)
    (flows_then m types (leading 1) (lower_payload words slots part) (payload ∷ tag ∷ []) (payload ∷ []) all numbered numbered filled (refl, refl) put)) in
    record {
      lowers = full_lowers m sound c.args.realloc c.args.number (shape_of types ty) slots types _ b named numbered _ _ _ _ payload tag lowered c.in_ok-words.words c.in_ok-zeros.zeros c.requires.fits some back opens name const c.in_ok-lowered.ensures.lowers casts zeros close;
      flows = flows_block m types (lower_case types slots c.args.number (Some (ty, part))) [] (tag ∷ c.in_ok-words.words ++ c.in_ok-zeros.zeros) _ b filled ended opens inside close;
    }

pub lower_variant-lower_cases-requires : goal.lower_variant-lower_cases-requires
lower_variant-lower_cases-requires g t c κs within =
    let m = g.B.Bindgen.meaning in
    let types = c.args.resolve.now.types in
    let kind = c.args.kind.now in
    let here = c.requires.here in
    let is : c.as_slice-payloads.result.now ≡ payloads_of kind = c.as_slice-payloads.ensures ∙ c.in_ok-payloads.ensures in
    let inside : c.args.id.0 < length types = slice_get_within types c.args.id.0 here.entry here.stands in
    let shape : shape_at types c.args.id.0 ≡ cases (payloads_in (shapes types) c.as_slice-payloads.result.now) = variant_shape types c.requires.down c.args.id.0 kind here c.requires.cases ∙ ap (λ (ps : List (Option WitType)). cases (payloads_in (shapes types) ps)) (sym is) in
    let below : list_all (λ payload. payload_below c.args.id.0 payload) c.as_slice-payloads.result.now ≡ true =
    subst (λ (ps : List (Option WitType)). list_all (λ payload. payload_below c.args.id.0 payload) ps ≡ true) (sym is) (variant_below types c.requires.down c.args.id.0 kind here c.requires.cases) in
    let writes : AllByRecursion (λ (p : Option WitType). WritesPart m types p c.args.bindgen.now) c.as_slice-payloads.result.now =
    subst (λ (ps : List (Option WitType)). AllByRecursion (λ (p : Option WitType). WritesPart m types p c.args.bindgen.now) ps) (sym is) (payloads_written m types c.args.id here.entry here.stands c.args.bindgen.now c.requires.writes kind c.requires.cases here.kind) in
    search rules

pub lower_variant-lower_by-requires : goal.lower_variant-lower_by-requires
lower_variant-lower_by-requires g t c =
    let m = g.B.Bindgen.meaning in
    let r = c.args.resolve.now in
    let kind = c.args.kind.now in
    let n = c.in_ok-count.count in
    let is : c.as_slice-payloads.result.now ≡ payloads_of kind = c.as_slice-payloads.ensures ∙ c.in_ok-payloads.ensures in
    let many : n ≡ case_words r.types (payloads_of kind) = c.in_ok-count.ensures.words ∙ ap (case_words r.types) is in
    let blocks = subst (λ (ps : List (Option WitType)). LowersCases m c.args.realloc (payloads_in (shapes r.types) ps) 0 (shared_slots r.types ps) c.args.bindgen.now c.lower_cases.new.bindgen) is c.in_ok-count.ensures.lowers in
    subst (λ (i : Instruction). IsSendable m r i (c.args.value ∷ []) c.lower_cases.new.bindgen) (sym c.case_lowering-inst.ensures)
    (variant_sendable m g.met.B.Bindgen.sound r c.requires.down c.args.id c.args.realloc _ _ c.requires.well (blocks.adds.grows.writes r.types c.args.id.0 (c.requires.writes c.args.id reaches_itself)) kind n c.args.value c.requires.here c.requires.cases many blocks)

pub lower_variant-returns : goal.lower_variant-returns
lower_variant-returns g t c =
    let m = g.B.Bindgen.meaning in
    let r = c.args.resolve.now in
    let types = r.types in
    let kind = c.args.kind.now in
    let here = c.requires.here in
    let n = c.in_ok-count.count in
    let realloc = c.args.realloc in
    let is : c.as_slice-payloads.result.now ≡ payloads_of kind = c.as_slice-payloads.ensures ∙ c.in_ok-payloads.ensures in
    let many : n ≡ case_words types (payloads_of kind) = c.in_ok-count.ensures.words ∙ ap (case_words types) is in
    let most : length (payloads_of kind) ≤ 2 ^ 31 = omega (arith, c.in_ok-count.ensures.few, ap length is) in
    let blocks = subst (λ (ps : List (Option WitType)). LowersCases m realloc (payloads_in (shapes types) ps) 0 (shared_slots types ps) c.args.bindgen.now c.lower_cases.new.bindgen) is c.in_ok-count.ensures.lowers in
    let value = c.args.value in
    let blocks_code : Flow = blocks_of_cases 0 (lower_case types (shared_slots types (payloads_of kind))) (lower_code types realloc) (payloads_of kind) in
    let flow = subst (λ (ps : List (Option WitType)). Flows m types (blocks_of_cases 0 (lower_case types (shared_slots types ps)) (lower_code types realloc) ps) (value ∷ []) [] c.args.bindgen.now c.lower_cases.new.bindgen) is (c.in_ok-count.ensures.flows (value ∷ [])) in
    let e = subst (λ (i : Instruction). Emits m types i (c.args.value ∷ []) c.in_ok-words.words c.lower_cases.new.bindgen c.lower_by.new.bindgen) c.case_lowering-inst.ensures c.in_ok-words.ensures in
    let told = subst (λ k. Emits m types (case_lowering kind c.args.id k) (c.args.value ∷ []) c.in_ok-words.words c.lower_cases.new.bindgen c.lower_by.new.bindgen) many e in
    record {
      lowers = variant_lowers m g.met.B.Bindgen.sound r c.requires.down c.args.id realloc _ _ kind n _ c.args.value c.in_ok-words.words here c.requires.cases many most blocks e;
      flows = flows_as m types _ _ _ _ _ _ (lower_variant_code types c.requires.down c.args.id here.entry here.stands realloc kind here.kind c.requires.cases)
          (flows_then m types (both blocks_code same) (emit (case_lowering kind c.args.id (case_words types (payloads_of kind)))) (value ∷ []) (value ∷ []) c.in_ok-words.words c.args.bindgen.now c.lower_cases.new.bindgen c.lower_by.new.bindgen
          (flows_both m types blocks_code same (value ∷ []) [] (value ∷ []) c.args.bindgen.now c.lower_cases.new.bindgen c.lower_cases.new.bindgen flow (refl, refl)) told);
    }

pub lower_id-unreachable-requires : goal.lower_id-unreachable-requires
lower_id-unreachable-requires g t c =
    let types = c.args.resolve.now.types in
    let d = c.index-types-at.result in
    let k = (get_or c.as_slice-types.result.now c.args.id.0 d).kind in
    let at = entry_at types c.as_slice-types.result.now c.args.id.0 d c.as_slice-types.ensures c.requires.within c.index-types-at.is in
    let not = c.in_default in
    other_refused types c.requires.down c.args.id.0 k (record { entry = d; stands = at; kind = ap (λ (t : TypeDef). t.kind) c.index-types-at.is }) c.requires.serves
    (record { alias = not.not-Alias; tuple = not.not-Tuple; option = not.not-Option; result = not.not-Result; fields = not.not-Record; variant = not.not-Variant; enum = not.not-Enum; flags = not.not-Flags })

pub lower_tuple-part_count-requires : goal.lower_tuple-part_count-requires
lower_tuple-part_count-requires g t c = record { short = omega (arith, ap length c.as_slice-tys.ensures, tuple_short c.args.resolve.now c.requires.well c.args.id.0 c.args.members.now c.requires.here) }

pub lower_payload-lower_type-requires : goal.lower_payload-lower_type-requires
lower_payload-lower_type-requires g t c κs within =
    let types = c.args.resolve.now.types in
    let opened : Writes g.B.Bindgen.meaning types c.args.ty c.push_block.new.self = λ id reached. c.in_ok-push_block.ensures.lasts.writes types id.0 (c.requires.writes id reached) in
    let writes = writes_later g.B.Bindgen.meaning types _ _ c.args.ty c.in_ok-tag.ensures.adds.grows (writes_later g.B.Bindgen.meaning types _ _ c.args.ty c.in_ok-payload.ensures.adds.grows opened) in
    let few = few_words c.args.resolve.now.types c.args.ty c.args.slots.now c.requires.fits c.requires.sixteen in
    search rules
