use Rattle.std.proofs.Common.{rules, ◌-◌, drop, take, Option, None, Some, option_map, refl, ℕ, suc, ◌≡◌, ◌<◌, ◌≤◌, ◌+◌, true, List, [], ◌∷◌, ◌++◌, length, map, get_or, IfOk, sym, ap, ◌∙◌, subst, arith, append-nil}
use Rattle.std.specs.List.{AllByRecursion, list_all}
use Rattle.std.proofs.lemmas.Bool.{lt-ltb, ltb-true}
use Rattle.std.proofs.lemmas.List.{drop-drop, drop_all, drop_more, length-append, length-drop, length-map, length-take-le, take-append-drop, take_all, take_at}
use Rattle.std.proofs.Math.Seq.{take-add}
use Rattle.std.proofs.lemmas.Option.{slice_get_within}
use Rattle.wit_model.specs.Reaches.{reaches_itself}
use Rattle.wit_model.specs.TypeOrder.{payload_below, type_below}
use Rattle.wit_model.specs.declared.types.Field.{Field}
use Rattle.wit_model.specs.declared.types.TypeDef.{TypeDef}
use Rattle.wit_model.specs.declared.types.TypeDefKind.TheVariants as kind
use Rattle.wit_model.specs.declared.types.WitType.{WitType}
use Rattle.wit_model.specs.declared.types.WitType.TheVariants as wit
use Rattle.wit_layout.proofs.FlattenSteps.{payload_rank, rank}
use Rattle.wit_model.specs.declared.wasm_type.WasmType.{WasmType}
use Rattle.wrapper_meaning.specs.Shape.{Shape, payload_in, payloads_in, shape_of, shapes}
use Rattle.wrapper_meaning.specs.Shape.Shape.{cases}
use Rattle.wrapper_meaning.specs.Shape.Shapes.{none, more}
use Rattle.abi_bindgen.specs.CaseBlocks.{LiftsCases}
use Rattle.abi_bindgen.specs.Cases.{payloads_of, result_counts}
use Rattle.abi_bindgen.specs.declared.instruction.Instruction.{Instruction}
use Rattle.abi_bindgen.specs.declared.instruction.Instruction.TheVariants.{RecordLift, TupleLift}
use Rattle.abi_bindgen.specs.Code.{blocks_of_cases, case_words, cast_code, lift_case, lift_code, payload_words, shared_slots}
use Rattle.abi_bindgen.specs.Flow.{Flow, behind, each, emit, in_block, leading, ◌>>>◌, both}
use Rattle.abi_bindgen.specs.Flows.{Flows}
use Rattle.abi_bindgen.specs.HasList.{IsKindOf}
use Rattle.abi_bindgen.specs.Instructions.{Emits, IsRecord, IsSendable, Makes, case_lifting, has_cases, shapes_of}
use Rattle.abi_bindgen.specs.Lifts.{LiftsAll, LiftsFlat}
use Rattle.abi_bindgen.specs.Served.{Serves, ServesAll}
use Rattle.abi_bindgen.specs.SlotCasts.{AreOrdered, CastsAll, FitIn}
use Rattle.abi_bindgen.proofs.BlockRuns.{grows_alike, grows_none}
use Rattle.abi_bindgen.proofs.Runs.{adds_both, adds_same}
use Rattle.abi_driver.proofs.CaseLifts.{full_lifts}
use Rattle.abi_driver.proofs.LiftedVariants.{all_used, lifting_makes, lifts_done, lifts_next, variant_liftable, variant_lifts}
use Rattle.abi_bindgen.proofs.Payloads.{count_told, payload_count, payload_in_table, payload_ranked, payload_told, slots_told, variant_below, variant_shape, payload_some}
use Rattle.abi_bindgen.proofs.WordBits.{fit_length, of_slots, payload_fits}
use Rattle.abi_bindgen.proofs.FlatCode.{lift_alias_code, lift_record_code, lift_tuple_code, lift_variant_code}
use Rattle.abi_bindgen.specs.WordCount.{word_count, word_counts}
use Rattle.abi_bindgen.specs.Written.{Writes, WritesEach, WritesPart}
use Rattle.abi_driver.proofs.LiftedArguments.{words_left, words_next}
use Rattle.abi_driver.proofs.LiftSteps.{lifts_all_as, lifts_as, record_lifts, rest_last, rest_next, scalar_words, tuple_lifts}
use Rattle.abi_bindgen.proofs.Records.{alias_below, alias_rank, alias_shape, count-shapes, drop-same, entry_at, kind_at, one_record, part_below_within, part_ranked, payload_type_low, record_below, record_shape, tuple_below, tuple_shape, tuple_short}
use Rattle.abi_bindgen.proofs.Serving.{alias_served, enum_served, other_refused, part_served, payload_served, payloads_served, record_served, tuple_served}
use Rattle.abi_bindgen.proofs.Writing.{alias_written, one_written, part_later, payload_written, payloads_written, record_written, tuple_written, writes_later}
use Rattle.abi_bindgen.proofs.WordCounts.{alias_words, enum_words, few_words, flags_words, no_more, record_words, tuple_words, variant_words}
use Rattle.abi_bindgen.proofs.FlowSteps.{FlowsOn, flows_as, flows_block, flows_both, flows_last, flows_next, flows_then}
use Rattle.abi_driver.proofs.lift.+lift.Goals as goal

pub lift_type-lift_scalar-requires : goal.lift_type-lift_scalar-requires
lift_type-lift_scalar-requires g t c =
    let is = sym c.scalar_lifting.ensures ∙ c.in-Some.is in
    record { lifting = is; enough = omega (arith, c.requires.enough, scalar_words c.args.resolve.now.types c.args.ty c.in-Some.inst is) }

pub lift_type-returns-in-Some : goal.lift_type-returns-in-Some
lift_type-returns-in-Some g t c =
    let types = c.args.resolve.now.types in
    let one = scalar_words types c.args.ty c.in-Some.inst (sym c.scalar_lifting.ensures ∙ c.in-Some.is) in
    record {
      next = subst (λ n. IfOk c.lift_scalar.result (λ r. r.next ≡ c.args.at + n)) (sym one) c.lift_scalar.ensures.next;
      lifts = c.lift_scalar.ensures.lifts;
      flows = subst (λ n. IfOk c.lift_scalar.result (λ r. Flows g.B.Bindgen.meaning types (lift_code types c.args.ty) (take n (drop c.args.at c.args.words.now)) (r.operand ∷ []) c.args.bindgen.now c.lift_scalar.new.bindgen)) (sym one) c.lift_scalar.ensures.flows;
    }

pub lift_type-lift_text-requires : goal.lift_type-lift_text-requires
lift_type-lift_text-requires g t c = subst (λ (ty : WitType). c.args.at + word_count c.args.resolve.now.types ty ≤ length c.args.words.now) c.in-String.is c.requires.enough

pub lift_type-lift_id-requires : goal.lift_type-lift_id-requires
unfolding type_below
lift_type-lift_id-requires g t c κs within =
    let n = length c.args.resolve.now.types in
    let deep : rank c.args.ty ≡ c.in-Id.id.0 + 1 = ap rank c.in-Id.is ∙ omega arith in
    let types = c.args.resolve.now.types in
    let inside : c.in-Id.id.0 < n = ltb-true c.in-Id.id.0 n (ap (type_below n) (sym c.in-Id.is) ∙ c.requires.below) in
    let serves = subst (λ (ty : WitType). Serves (shape_of types ty)) c.in-Id.is c.requires.serves in
    let writes = subst (λ (ty : WitType). Writes g.B.Bindgen.meaning types ty c.args.bindgen.now) c.in-Id.is c.requires.writes in
    let few = subst (λ (ty : WitType). word_count types ty ≤ 16) c.in-Id.is c.requires.few in
    let enough = subst (λ (ty : WitType). c.args.at + word_count types ty ≤ length c.args.words.now) c.in-Id.is c.requires.enough in
    (omega arith, (within.0, (within.1, (c.requires.well, (c.requires.down, (inside, (serves, (writes, (few, enough)))))))))

pub lift_type-returns-in-String : goal.lift_type-returns-in-String
lift_type-returns-in-String g t c =
    let m = g.B.Bindgen.meaning in
    let types = c.args.resolve.now.types in
    let words = c.args.words.now in
    let new = c.lift_text.new.bindgen in
    let Lifts : WitType → Type 0 = λ ty. IfOk c.lift_text.result (λ r. (used : List g.row.B-Operand.Denot) × (drop c.args.at words ≡ used ++ drop r.next words) × LiftsFlat m (shape_of types ty) used r.operand c.args.bindgen.now new) in
    record {
      next = subst (λ (ty : WitType). IfOk c.lift_text.result (λ r. r.next ≡ c.args.at + word_count types ty)) (sym c.in-String.is) c.lift_text.ensures.next;
      lifts = subst Lifts (sym c.in-String.is) c.lift_text.ensures.lifts;
      flows = subst (λ (ty : WitType). IfOk c.lift_text.result (λ r. Flows m types (lift_code types ty) (take (word_count types ty) (drop c.args.at words)) (r.operand ∷ []) c.args.bindgen.now new)) (sym c.in-String.is) c.lift_text.ensures.flows;
    }

pub lift_type-returns-in-Id : goal.lift_type-returns-in-Id
lift_type-returns-in-Id g t c =
    let m = g.B.Bindgen.meaning in
    let types = c.args.resolve.now.types in
    let words = c.args.words.now in
    let new = c.lift_id.new.bindgen in
    let Lifts : WitType → Type 0 = λ ty. IfOk c.lift_id.result (λ r. (used : List g.row.B-Operand.Denot) × (drop c.args.at words ≡ used ++ drop r.next words) × LiftsFlat m (shape_of types ty) used r.operand c.args.bindgen.now new) in
    record {
      next = subst (λ (ty : WitType). IfOk c.lift_id.result (λ r. r.next ≡ c.args.at + word_count types ty)) (sym c.in-Id.is) c.lift_id.ensures.next;
      lifts = subst Lifts (sym c.in-Id.is) c.lift_id.ensures.lifts;
      flows = subst (λ (ty : WitType). IfOk c.lift_id.result (λ r. Flows m types (lift_code types ty) (take (word_count types ty) (drop c.args.at words)) (r.operand ∷ []) c.args.bindgen.now new)) (sym c.in-Id.is) c.lift_id.ensures.flows;
    }

pub lift_id-lift_type-requires : goal.lift_id-lift_type-requires
lift_id-lift_type-requires g t c κs within =
    let types = c.args.resolve.now.types in
    let d = c.index-types-place.result in
    let at = entry_at types c.as_slice-types.result.now c.args.id.0 d c.as_slice-types.ensures c.requires.within c.index-types-place.is in
    let is = kind_at c.as_slice-types.result.now c.args.id.0 d (kind.Alias c.in-Alias.ty) c.index-types-place.is c.in-Alias.is in
    let low : rank c.in-Alias.ty ≤ c.args.id.0 = alias_rank types c.requires.down c.args.id.0 d at c.in-Alias.ty is in
    let below = alias_below types c.requires.down c.args.id.0 d at c.in-Alias.ty is c.requires.within in
    let serves = alias_served types c.requires.down c.args.id.0 d at c.requires.serves c.in-Alias.ty is in
    let writes = alias_written g.B.Bindgen.meaning types c.args.id d at c.args.bindgen.now c.requires.writes c.in-Alias.ty is in
    let same = alias_words types c.requires.down c.args.id d at c.in-Alias.ty is in
    (omega (arith, low), (within.0, (within.1, (c.requires.well, (c.requires.down, (below, (serves, (writes, (omega (arith, same, c.requires.few), omega (arith, same, c.requires.enough))))))))))

pub lift_id-lift_parts-requires : goal.lift_id-lift_parts-requires
lift_id-lift_parts-requires g t c κs within =
    let types = c.args.resolve.now.types in
    let d = c.index-types-place.result in
    let at = entry_at types c.as_slice-types.result.now c.args.id.0 d c.as_slice-types.ensures c.requires.within c.index-types-place.is in
    let is = kind_at c.as_slice-types.result.now c.args.id.0 d (kind.Record c.in-Record.members) c.index-types-place.is c.in-Record.is in
    let members = c.in-Record.members in
    let read = c.as_slice-tys.result.now in
    let same : read ≡ map (λ (f : Field). f.ty) members = c.as_slice-tys.ensures ∙ c.in_ok-tys-in-Record.ensures ∙ ap (map (λ (f : Field). f.ty)) c.as_slice.ensures in
    let below = subst (λ (xs : List WitType). list_all (λ ty. type_below c.args.id.0 ty) xs ≡ true) (sym same) (record_below types c.requires.down c.args.id.0 d at members is) in
    let serves = subst (λ (xs : List WitType). ServesAll (shapes_of types xs)) (sym same) (record_served types c.requires.down c.args.id.0 d at c.requires.serves members is) in
    let writes = subst (λ (xs : List WitType). WritesEach g.B.Bindgen.meaning types xs c.args.bindgen.now) (sym same) (record_written g.B.Bindgen.meaning types c.args.id d at c.args.bindgen.now c.requires.writes members is) in
    let many = record_words types c.requires.down c.args.id d at members is ∙ ap (word_counts types) (sym same) in
    (omega arith, (within.0, (within.1, (c.requires.well, (c.requires.down, (omega (arith, c.requires.within), (below, (serves, (writes, (omega (arith, many, c.requires.few), omega (arith, many, c.requires.enough)))))))))))

pub lift_id-send_one-requires-clause-ready : goal.lift_id-send_one-requires-clause-ready
lift_id-send_one-requires-clause-ready g t c =
    let types = c.args.resolve.now.types in
    let d = c.index-types-place.result in
    let at = entry_at types c.as_slice-types.result.now c.args.id.0 d c.as_slice-types.ensures c.requires.within c.index-types-place.is in
    let is = kind_at c.as_slice-types.result.now c.args.id.0 d (kind.Record c.in-Record.members) c.index-types-place.is c.in-Record.is in
    let members = c.in-Record.members in
    let same : c.as_slice-tys.result.now ≡ map (λ (f : Field). f.ty) members = c.as_slice-tys.ensures ∙ c.in_ok-tys-in-Record.ensures ∙ ap (map (λ (f : Field). f.ty)) c.as_slice.ensures in
    let here : IsRecord types c.args.id.0 members = record { entry = d; at = at; kind = is } in
    let count : length c.in_ok-lifted-in-Record.lifted.parts ≡ length members = c.in_ok-lifted-in-Record.ensures.count ∙ ap length same ∙ length-map members (λ (f : Field). f.ty) in
    record { built = refl; operands = λ others other. count ∙ ap length (one_record types c.args.id.0 members others here other); suits = (members, here, c.in_ok-lifted-in-Record.ensures.lifts.2.adds.grows.writes types c.args.id.0 (c.requires.writes c.args.id reaches_itself)) }

pub lift_id-send_one-requires-clause-makes : goal.lift_id-send_one-requires-clause-makes
lift_id-send_one-requires-clause-makes g t c = λ k h. h

pub lift_id-send_one-requires-in-Tuple : goal.lift_id-send_one-requires-in-Tuple
lift_id-send_one-requires-in-Tuple g t c =
    record { ready = record { built = refl; operands = c.in_ok-lifted-in-Tuple.ensures.count ∙ sym c.part_count.ensures; suits = tt }; makes = λ k h. h }

pub lift_id-lift_parts-requires-in-Tuple : goal.lift_id-lift_parts-requires-in-Tuple
lift_id-lift_parts-requires-in-Tuple g t c κs within =
    let types = c.args.resolve.now.types in
    let d = c.index-types-place.result in
    let at = entry_at types c.as_slice-types.result.now c.args.id.0 d c.as_slice-types.ensures c.requires.within c.index-types-place.is in
    let is = kind_at c.as_slice-types.result.now c.args.id.0 d (kind.Tuple c.in-Tuple.members) c.index-types-place.is c.in-Tuple.is in
    let below = subst (λ (xs : List WitType). list_all (λ ty. type_below c.args.id.0 ty) xs ≡ true) (sym c.as_slice-tys-in-Tuple.ensures) (tuple_below types c.requires.down c.args.id.0 d at c.in-Tuple.members is) in
    let serves = subst (λ (xs : List WitType). ServesAll (shapes_of types xs)) (sym c.as_slice-tys-in-Tuple.ensures) (tuple_served types c.requires.down c.args.id.0 d at c.requires.serves c.in-Tuple.members is) in
    let writes = subst (λ (xs : List WitType). WritesEach g.B.Bindgen.meaning types xs c.args.bindgen.now) (sym c.as_slice-tys-in-Tuple.ensures) (tuple_written g.B.Bindgen.meaning types c.args.id d at c.args.bindgen.now c.requires.writes c.in-Tuple.members is) in
    let many = tuple_words types c.requires.down c.args.id d at c.in-Tuple.members is ∙ ap (word_counts types) (sym c.as_slice-tys-in-Tuple.ensures) in
    (omega arith, (within.0, (within.1, (c.requires.well, (c.requires.down, (omega (arith, c.requires.within), (below, (serves, (writes, (omega (arith, many, c.requires.few), omega (arith, many, c.requires.enough)))))))))))

pub lift_id-lift_enum-requires-clause-here : goal.lift_id-lift_enum-requires-clause-here
lift_id-lift_enum-requires-clause-here g t c =
    let types = c.args.resolve.now.types in
    let d = c.index-types-place.result in
    let at = entry_at types c.as_slice-types.result.now c.args.id.0 d c.as_slice-types.ensures c.requires.within c.index-types-place.is in
    record { entry = d; stands = at; kind = kind_at c.as_slice-types.result.now c.args.id.0 d (kind.Enum c.in-Enum.members) c.index-types-place.is c.in-Enum.is }

pub lift_id-lift_enum-requires-clause-enough : goal.lift_id-lift_enum-requires-clause-enough
lift_id-lift_enum-requires-clause-enough g t c =
    let types = c.args.resolve.now.types in
    let d = c.index-types-place.result in
    let at = entry_at types c.as_slice-types.result.now c.args.id.0 d c.as_slice-types.ensures c.requires.within c.index-types-place.is in
    let is = kind_at c.as_slice-types.result.now c.args.id.0 d (kind.Enum c.in-Enum.members) c.index-types-place.is c.in-Enum.is in
    omega (arith, enum_words types c.requires.down c.args.id d at c.in-Enum.members is, c.requires.enough)

pub lift_id-returns-in-Enum : goal.lift_id-returns-in-Enum
lift_id-returns-in-Enum g t c =
    let types = c.args.resolve.now.types in
    let d = c.index-types-place.result in
    let at = entry_at types c.as_slice-types.result.now c.args.id.0 d c.as_slice-types.ensures c.requires.within c.index-types-place.is in
    let is = kind_at c.as_slice-types.result.now c.args.id.0 d (kind.Enum c.in-Enum.members) c.index-types-place.is c.in-Enum.is in
    let one = enum_words types c.requires.down c.args.id d at c.in-Enum.members is in
    record {
      next = subst (λ n. IfOk c.lift_enum.result (λ r. r.next ≡ c.args.at + n)) (sym one) c.lift_enum.ensures.next;
      lifts = c.lift_enum.ensures.lifts;
      flows = subst (λ n. IfOk c.lift_enum.result (λ r. Flows g.B.Bindgen.meaning types (lift_code types (wit.Id c.args.id)) (take n (drop c.args.at c.args.words.now)) (r.operand ∷ []) c.args.bindgen.now c.lift_enum.new.bindgen)) (sym one) c.lift_enum.ensures.flows;
    }

pub lift_id-lift_flags-requires-clause-enough : goal.lift_id-lift_flags-requires-clause-enough
lift_id-lift_flags-requires-clause-enough g t c =
    let types = c.args.resolve.now.types in
    let d = c.index-types-place.result in
    let at = entry_at types c.as_slice-types.result.now c.args.id.0 d c.as_slice-types.ensures c.requires.within c.index-types-place.is in
    let is = kind_at c.as_slice-types.result.now c.args.id.0 d (kind.Flags c.in-Flags.members) c.index-types-place.is c.in-Flags.is in
    omega (arith, flags_words types c.requires.down c.args.id d at c.in-Flags.members is, c.requires.enough)

pub lift_id-returns-in-Flags : goal.lift_id-returns-in-Flags
lift_id-returns-in-Flags g t c =
    let types = c.args.resolve.now.types in
    let d = c.index-types-place.result in
    let at = entry_at types c.as_slice-types.result.now c.args.id.0 d c.as_slice-types.ensures c.requires.within c.index-types-place.is in
    let is = kind_at c.as_slice-types.result.now c.args.id.0 d (kind.Flags c.in-Flags.members) c.index-types-place.is c.in-Flags.is in
    let many = flags_words types c.requires.down c.args.id d at c.in-Flags.members is in
    record {
      next = subst (λ n. IfOk c.lift_flags.result (λ r. r.next ≡ c.args.at + n)) (sym many) c.lift_flags.ensures.next;
      lifts = c.lift_flags.ensures.lifts;
      flows = subst (λ n. IfOk c.lift_flags.result (λ r. Flows g.B.Bindgen.meaning types (lift_code types (wit.Id c.args.id)) (take n (drop c.args.at c.args.words.now)) (r.operand ∷ []) c.args.bindgen.now c.lift_flags.new.bindgen)) (sym many) c.lift_flags.ensures.flows;
    }

pub lift_id-lift_flags-requires-clause-here : goal.lift_id-lift_flags-requires-clause-here
lift_id-lift_flags-requires-clause-here g t c =
    let types = c.args.resolve.now.types in
    let d = c.index-types-place.result in
    let at = entry_at types c.as_slice-types.result.now c.args.id.0 d c.as_slice-types.ensures c.requires.within c.index-types-place.is in
    record { entry = d; stands = at; kind = kind_at c.as_slice-types.result.now c.args.id.0 d (kind.Flags c.in-Flags.members) c.index-types-place.is c.in-Flags.is }

pub lift_id-lift_variant-requires : goal.lift_id-lift_variant-requires
lift_id-lift_variant-requires g t c κs within =
    let types = c.args.resolve.now.types in
    let d = c.index-types-place.result in
    let at = entry_at types c.as_slice-types.result.now c.args.id.0 d c.as_slice-types.ensures c.requires.within c.index-types-place.is in
    let k = (get_or c.as_slice-types.result.now c.args.id.0 d).kind in
    let here : IsKindOf types c.args.id.0 k = record { entry = d; stands = at; kind = ap (λ (x : TypeDef). x.kind) c.index-types-place.is } in
    let cases : has_cases k ≡ true = ap has_cases c.in-Variant.is in
    (omega arith, (within.0, (within.1, (c.requires.well, (c.requires.down, (here, (cases, (c.requires.serves, (c.requires.writes, (c.requires.few, c.requires.enough))))))))))

pub lift_id-lift_variant-requires-in-Option : goal.lift_id-lift_variant-requires-in-Option
lift_id-lift_variant-requires-in-Option g t c κs within =
    let types = c.args.resolve.now.types in
    let d = c.index-types-place.result in
    let at = entry_at types c.as_slice-types.result.now c.args.id.0 d c.as_slice-types.ensures c.requires.within c.index-types-place.is in
    let k = (get_or c.as_slice-types.result.now c.args.id.0 d).kind in
    let here : IsKindOf types c.args.id.0 k = record { entry = d; stands = at; kind = ap (λ (x : TypeDef). x.kind) c.index-types-place.is } in
    let cases : has_cases k ≡ true = ap has_cases c.in-Option.is in
    (omega arith, (within.0, (within.1, (c.requires.well, (c.requires.down, (here, (cases, (c.requires.serves, (c.requires.writes, (c.requires.few, c.requires.enough))))))))))

pub lift_id-lift_variant-requires-in-Result : goal.lift_id-lift_variant-requires-in-Result
lift_id-lift_variant-requires-in-Result g t c κs within =
    let types = c.args.resolve.now.types in
    let d = c.index-types-place.result in
    let at = entry_at types c.as_slice-types.result.now c.args.id.0 d c.as_slice-types.ensures c.requires.within c.index-types-place.is in
    let k = (get_or c.as_slice-types.result.now c.args.id.0 d).kind in
    let here : IsKindOf types c.args.id.0 k = record { entry = d; stands = at; kind = ap (λ (x : TypeDef). x.kind) c.index-types-place.is } in
    let cases : has_cases k ≡ true = ap has_cases c.in-Result.is in
    (omega arith, (within.0, (within.1, (c.requires.well, (c.requires.down, (here, (cases, (c.requires.serves, (c.requires.writes, (c.requires.few, c.requires.enough))))))))))

pub lift_id-returns-in-Alias : goal.lift_id-returns-in-Alias
lift_id-returns-in-Alias g t c =
    let m = g.B.Bindgen.meaning in
    let types = c.args.resolve.now.types in
    let d = c.index-types-place.result in
    let at = entry_at types c.as_slice-types.result.now c.args.id.0 d c.as_slice-types.ensures c.requires.within c.index-types-place.is in
    let is = kind_at c.as_slice-types.result.now c.args.id.0 d (kind.Alias c.in-Alias.ty) c.index-types-place.is c.in-Alias.is in
    let words = c.args.words.now in
    let new = c.lift_type.new.bindgen in
    let Lifts : Shape → Type 0 = λ s. IfOk c.lift_type.result (λ r. (used : List g.row.B-Operand.Denot) × (drop c.args.at words ≡ used ++ drop r.next words) × LiftsFlat m s used r.operand c.args.bindgen.now new) in
    let same = sym (alias_words types c.requires.down c.args.id d at c.in-Alias.ty is) in
    record {
      next = subst (λ n. IfOk c.lift_type.result (λ r. r.next ≡ c.args.at + n)) same c.lift_type.ensures.next;
      lifts = subst Lifts (sym (alias_shape types c.requires.down c.args.id.0 d at c.in-Alias.ty is)) c.lift_type.ensures.lifts;
      flows = subst (λ (code : Flow). IfOk c.lift_type.result (λ r. Flows m types code (take (word_count types (wit.Id c.args.id)) (drop c.args.at words)) (r.operand ∷ []) c.args.bindgen.now new)) (sym (lift_alias_code types c.requires.down c.args.id d at c.in-Alias.ty is))
          (subst (λ n. IfOk c.lift_type.result (λ r. Flows m types (lift_code types c.in-Alias.ty) (take n (drop c.args.at words)) (r.operand ∷ []) c.args.bindgen.now new)) same c.lift_type.ensures.flows);
    }

pub lift_id-returns-in_ok-operand-in-Record : goal.lift_id-returns-in_ok-operand-in-Record
lift_id-returns-in_ok-operand-in-Record g t c =
    let m = g.B.Bindgen.meaning in
    let types = c.args.resolve.now.types in
    let d = c.index-types-place.result in
    let at = entry_at types c.as_slice-types.result.now c.args.id.0 d c.as_slice-types.ensures c.requires.within c.index-types-place.is in
    let is = kind_at c.as_slice-types.result.now c.args.id.0 d (kind.Record c.in-Record.members) c.index-types-place.is c.in-Record.is in
    let members = c.in-Record.members in
    let same : c.as_slice-tys.result.now ≡ map (λ (f : Field). f.ty) members = c.as_slice-tys.ensures ∙ c.in_ok-tys-in-Record.ensures ∙ ap (map (λ (f : Field). f.ty)) c.as_slice.ensures in
    let lifted = lifts_all_as m g.met.B.Bindgen.sound types _ _ _ _ c.args.words.now c.args.at c.in_ok-lifted-in-Record.lifted.next c.in_ok-lifted-in-Record.lifted.parts same c.in_ok-lifted-in-Record.ensures.lifts in
    let whole = record_lifts m g.met.B.Bindgen.sound types c.args.id members _ _ _ lifted.0 c.in_ok-lifted-in-Record.lifted.parts c.in_ok-operand-in-Record.operand (record { entry = d; at = at; kind = is }) lifted.2 c.in_ok-operand-in-Record.ensures in
    let many = record_words types c.requires.down c.args.id d at members is ∙ ap (word_counts types) (sym same) in
    let parts = subst (λ n. Flows m types (each 0 (word_count types) (λ n ty. lift_code types ty) 0 (map (λ (f : Field). f.ty) members)) (take n (drop c.args.at c.args.words.now)) c.in_ok-lifted-in-Record.lifted.parts c.args.bindgen.now c.lift_parts.new.bindgen) (sym many)
    (flows_as m types _ _ _ _ _ _ (ap (each 0 (word_count types) (λ n ty. lift_code types ty) 0) (sym same)) c.in_ok-lifted-in-Record.ensures.flows) in
    record {
      next = c.in_ok-lifted-in-Record.ensures.next ∙ ap (λ n. c.args.at + n) (sym many);
      lifts = lifts_as m g.met.B.Bindgen.sound types _ _ _ _ c.args.words.now c.args.at c.in_ok-lifted-in-Record.lifted.next c.in_ok-operand-in-Record.operand (record_shape types c.requires.down c.args.id.0 d at members is) (lifted.0, lifted.1, whole);
      flows = flows_as m types _ _ _ _ _ _ (lift_record_code types c.requires.down c.args.id d at members is)
          (flows_then m types (each 0 (word_count types) (λ n ty. lift_code types ty) 0 (map (λ (f : Field). f.ty) members)) (emit (RecordLift c.args.id)) _ c.in_ok-lifted-in-Record.lifted.parts _ _ _ _ parts c.in_ok-operand-in-Record.ensures);
    }

pub lift_id-returns-in_ok-operand-in-Tuple : goal.lift_id-returns-in_ok-operand-in-Tuple
lift_id-returns-in_ok-operand-in-Tuple g t c =
    let m = g.B.Bindgen.meaning in
    let types = c.args.resolve.now.types in
    let d = c.index-types-place.result in
    let at = entry_at types c.as_slice-types.result.now c.args.id.0 d c.as_slice-types.ensures c.requires.within c.index-types-place.is in
    let is = kind_at c.as_slice-types.result.now c.args.id.0 d (kind.Tuple c.in-Tuple.members) c.index-types-place.is c.in-Tuple.is in
    let tys = c.in-Tuple.members in
    let lifted = lifts_all_as m g.met.B.Bindgen.sound types _ _ _ _ c.args.words.now c.args.at c.in_ok-lifted-in-Tuple.lifted.next c.in_ok-lifted-in-Tuple.lifted.parts c.as_slice-tys-in-Tuple.ensures c.in_ok-lifted-in-Tuple.ensures.lifts in
    let count = count-shapes types tys ∙ sym (c.part_count.ensures ∙ ap length c.as_slice-tys-in-Tuple.ensures) in
    let whole = tuple_lifts m g.met.B.Bindgen.sound types c.part_count.result (shapes_of types tys) _ _ _ lifted.0 c.in_ok-lifted-in-Tuple.lifted.parts c.in_ok-operand-in-Tuple.operand count lifted.2 c.in_ok-operand-in-Tuple.ensures in
    let many : length tys ≡ c.part_count.result = sym (c.part_count.ensures ∙ ap length c.as_slice-tys-in-Tuple.ensures) in
    let all = tuple_words types c.requires.down c.args.id d at tys is ∙ ap (word_counts types) (sym c.as_slice-tys-in-Tuple.ensures) in
    let parts = subst (λ n. Flows m types (each 0 (word_count types) (λ n ty. lift_code types ty) 0 tys) (take n (drop c.args.at c.args.words.now)) c.in_ok-lifted-in-Tuple.lifted.parts c.args.bindgen.now c.lift_parts-in-Tuple.new.bindgen) (sym all)
    (flows_as m types _ _ _ _ _ _ (ap (each 0 (word_count types) (λ n ty. lift_code types ty) 0) (sym c.as_slice-tys-in-Tuple.ensures)) c.in_ok-lifted-in-Tuple.ensures.flows) in
    let code = lift_tuple_code types c.requires.down c.args.id d at tys is ∙ ap (λ n. each 0 (word_count types) (λ n ty. lift_code types ty) 0 tys >>> emit (TupleLift n)) many in
    record {
      next = c.in_ok-lifted-in-Tuple.ensures.next ∙ ap (λ n. c.args.at + n) (sym all);
      lifts = lifts_as m g.met.B.Bindgen.sound types _ _ _ _ c.args.words.now c.args.at c.in_ok-lifted-in-Tuple.lifted.next c.in_ok-operand-in-Tuple.operand (tuple_shape types c.requires.down c.args.id.0 d at tys is) (lifted.0, lifted.1, whole);
      flows = flows_as m types _ _ _ _ _ _ code (flows_then m types (each 0 (word_count types) (λ n ty. lift_code types ty) 0 tys) (emit (TupleLift c.part_count.result)) _ c.in_ok-lifted-in-Tuple.lifted.parts _ _ _ _ parts c.in_ok-operand-in-Tuple.ensures);
    }

pub lift_parts-loop-i-init : goal.lift_parts-loop-i-init
lift_parts-loop-i-init g t c =
    let Lifts : List g.row.B-Operand.Denot → List g.row.B-Operand.Denot → g.row.B.Denot → Type 0 = λ qs ps new. LiftsAll g.B.Bindgen.meaning (shapes_of c.args.resolve.now.types c.args.tys.now) qs ps c.args.bindgen.now new in
    record { adds = adds_same g.B.Bindgen.meaning c.args.bindgen.now; count = ap length c.new-parts.ensures; left = refl; low = omega arith; flows = λ new gives h. subst (λ ps. Flows g.B.Bindgen.meaning c.args.resolve.now.types (each 0 (word_count c.args.resolve.now.types) (λ n ty. lift_code c.args.resolve.now.types ty) 0 c.args.tys.now) (take (word_counts c.args.resolve.now.types c.args.tys.now) (drop c.args.at c.args.words.now)) (ps ++ gives) c.args.bindgen.now new) (sym c.new-parts.ensures) h; rest = ([], refl, λ new qs later h. subst (λ ps. Lifts qs (ps ++ later) new) (sym c.new-parts.ensures) h) }

pub lift_parts-lift_type-requires : goal.lift_parts-lift_type-requires
lift_parts-lift_type-requires g t c κs within =
    let types = c.args.resolve.now.types in
    let short : c.loop-i.i < length c.args.tys.now = omega (arith, c.loop-i-test.true) in
    let low : rank (get_or c.args.tys.now c.loop-i.i wit.Bool) ≤ c.args.place = part_ranked c.args.place c.args.tys.now c.requires.below c.loop-i.i wit.Bool short in
    let below = part_below_within c.args.place c.args.tys.now c.requires.below c.loop-i.i wit.Bool short (length types) c.requires.within in
    let serves = part_served types c.args.tys.now c.loop-i.i wit.Bool c.requires.serves short in
    let inv = c.loop-i.invariant in
    let writes = writes_later g.B.Bindgen.meaning types _ _ (get_or c.args.tys.now c.loop-i.i wit.Bool) inv.adds.grows (one_written g.B.Bindgen.meaning types c.args.bindgen.now c.args.tys.now c.loop-i.i wit.Bool c.requires.writes short) in
    let next = words_next types c.args.tys.now c.loop-i.i (get_or c.args.tys.now c.loop-i.i wit.Bool) (drop_more c.args.tys.now c.loop-i.i wit.Bool short) in
    let few : word_count types (get_or c.args.tys.now c.loop-i.i wit.Bool) ≤ 16 = omega (arith, next, inv.left, inv.low, c.requires.few) in
    let enough : c.loop-i.next + word_count types (get_or c.args.tys.now c.loop-i.i wit.Bool) ≤ length c.args.words.now = omega (arith, next, inv.left, c.requires.enough) in
    (omega (arith, low), (within.0, (within.1, (c.requires.well, (c.requires.down, (below, (serves, (writes, (few, enough)))))))))

pub lift_parts-loop-i-preserved : goal.lift_parts-loop-i-preserved
lift_parts-loop-i-preserved g t c =
    let m = g.B.Bindgen.meaning in
    let short : c.loop-i.i < length c.args.tys.now = omega (arith, c.loop-i-test.true) in
    let next = words_next c.args.resolve.now.types c.args.tys.now c.loop-i.i (get_or c.args.tys.now c.loop-i.i wit.Bool) (drop_more c.args.tys.now c.loop-i.i wit.Bool short) in
    let types = c.args.resolve.now.types in
    let tys = c.args.tys.now in
    let words = c.args.words.now in
    let i = c.loop-i.i in
    let from = c.loop-i.next in
    let lifted = c.in_ok-lifted.lifted in
    let one = word_count types (get_or tys i wit.Bool) in
    let others = words_left types tys (i + 1) in
    let mine = take one (drop from words) in
    let rest = take others (drop lifted.next words) in
    let behind : drop one (drop from words) ≡ drop lifted.next words = drop-drop one from words ∙ ap (λ k. drop k words) (sym c.in_ok-lifted.ensures.next) in
    let unread : take (words_left types tys i) (drop from words) ≡ mine ++ rest = ap (λ k. take k (drop from words)) next ∙ take-add one others (drop from words) ∙ ap (λ os. mine ++ take others os) behind in
    let room : one ≤ length (drop from words) = omega (arith, next, c.loop-i.invariant.left, c.requires.enough, length-drop from words) in
    let on = subst (λ os. FlowsOn m types 0 (word_count types) (λ n ty. lift_code types ty) [] tys (take (word_counts types tys) (drop c.args.at words)) c.args.bindgen.now i c.loop-i.parts os c.loop-i.bindgen) unread c.loop-i.invariant.flows in
    record {
      adds = adds_both m _ _ _ c.loop-i.invariant.adds c.in_ok-lifted.ensures.lifts.2.adds;
      left = omega (arith, next, c.loop-i.invariant.left, c.in_ok-lifted.ensures.next);
      low = omega (arith, c.loop-i.invariant.low, c.in_ok-lifted.ensures.next);
      count = ap length c.in_ok-push.ensures.ok ∙ length-append c.loop-i.parts (c.in_ok-lifted.lifted.operand ∷ []) ∙ ap (λ n. n + 1) c.loop-i.invariant.count;
      flows = flows_next m types 0 (word_count types) (λ n ty. lift_code types ty) [] tys (take (word_counts types tys) (drop c.args.at words)) c.args.bindgen.now i wit.Bool mine rest c.loop-i.parts (lifted.operand ∷ []) c.push.new.self _ _ short refl
          (length-take-le one (drop from words) room) c.in_ok-push.ensures.ok c.in_ok-lifted.ensures.flows on;
      rest = rest_next m g.met.B.Bindgen.sound c.args.resolve.now.types c.args.tys.now c.loop-i.i c.args.at c.args.words.now c.loop-i.next c.in_ok-lifted.lifted.next c.loop-i.parts c.push.new.self _ _ _
          (get_or c.args.tys.now c.loop-i.i wit.Bool) c.in_ok-lifted.lifted.operand (drop_more c.args.tys.now c.loop-i.i wit.Bool short) c.in_ok-lifted.ensures.lifts c.in_ok-push.ensures.ok c.loop-i.invariant.rest;
    }

pub lift_parts-returns-clause-lifts : goal.lift_parts-returns-clause-lifts
lift_parts-returns-clause-lifts g t c =
    let m = g.B.Bindgen.meaning in
    let ended : length c.args.tys.now ≤ c.loop-i.i = omega (arith, c.loop-i-test.false) in
    rest_last m g.met.B.Bindgen.sound c.args.resolve.now.types c.args.tys.now c.loop-i.i c.args.at c.args.words.now c.loop-i.next c.loop-i.parts _ _ ended c.loop-i.invariant.rest

pub lift_parts-returns-clause-next : goal.lift_parts-returns-clause-next
lift_parts-returns-clause-next g t c =
    let types = c.args.resolve.now.types in
    let ended : length c.args.tys.now ≤ c.loop-i.i = omega (arith, c.loop-i-test.false) in
    let none_left : words_left types c.args.tys.now c.loop-i.i ≡ 0 = ap (word_counts types) (drop_all c.loop-i.i c.args.tys.now ended) in
    omega (arith, c.loop-i.invariant.left, none_left)

pub lift_parts-returns-clause-flows : goal.lift_parts-returns-clause-flows
lift_parts-returns-clause-flows g t c =
    let types = c.args.resolve.now.types in
    let tys = c.args.tys.now in
    let words = c.args.words.now in
    let ended : length tys ≤ c.loop-i.i = omega (arith, c.loop-i-test.false) in
    flows_last g.B.Bindgen.meaning types 0 (word_count types) (λ n ty. lift_code types ty) [] tys (take (word_counts types tys) (drop c.args.at words)) c.args.bindgen.now c.loop-i.i c.loop-i.parts (take (words_left types tys c.loop-i.i) (drop c.loop-i.next words)) _ ended c.loop-i.invariant.flows

pub lift_cases-lift_case-requires : goal.lift_cases-lift_case-requires
lift_cases-lift_case-requires g t c κs within =
    let types = c.args.resolve.now.types in
    let payloads = c.args.payloads.now in
    let i = c.loop-i.i in
    let short : i < length payloads = omega (arith, c.loop-i-test.true) in
    let low : payload_rank (get_or payloads i None) ≤ c.args.id.0 = payload_ranked c.args.id.0 payloads i None c.requires.below short in
    let below : payload_below (length types) (get_or payloads i None) ≡ true = payload_in_table c.args.id.0 (length types) payloads i None c.requires.within c.requires.below short in
    let serves = payload_served types payloads i None c.requires.serves short in
    let writes = part_later g.B.Bindgen.meaning types _ _ (get_or payloads i None) c.loop-i.invariant.grows (payload_written g.B.Bindgen.meaning types c.args.bindgen.now payloads i None c.requires.writes short) in
    let fits : FitIn (payload_words types (get_or payloads i None)) c.args.slots.now = subst (FitIn (payload_words types (get_or payloads i None))) (sym c.requires.shared) (payload_fits types payloads i None short) in
    (omega (arith, low), (within.0, (within.1, (c.requires.well, (c.requires.down, (below, (serves, (writes, (fits, (c.requires.few, c.requires.enough))))))))))

pub lift_cases-loop-i-init : goal.lift_cases-loop-i-init
lift_cases-loop-i-init g t c = record { grows = grows_none g.B.Bindgen.meaning c.args.bindgen.now; code = refl; flows = λ new gives h. subst (λ os. Flows g.B.Bindgen.meaning c.args.resolve.now.types (blocks_of_cases (length c.args.slots.now) (lift_case c.args.resolve.now.types c.args.slots.now) (lift_code c.args.resolve.now.types) c.args.payloads.now) os gives c.args.bindgen.now new) (append-nil c.args.words.now) h; rest = λ new h. h }

pub lift_cases-loop-i-preserved : goal.lift_cases-loop-i-preserved
lift_cases-loop-i-preserved g t c =
    let m = g.B.Bindgen.meaning in
    let r = c.args.resolve.now in
    let types = r.types in
    let payloads = c.args.payloads.now in
    let i = c.loop-i.i in
    let short : i < length payloads = omega (arith, c.loop-i-test.true) in
    let here = c.in_ok-lift_case.ensures.lifts in
    let p = get_or payloads i None in
    let slots = c.args.slots.now in
    let words = c.args.words.now in
    let made : Option WitType → Option (WitType × Flow) = option_map (λ ty. (ty, lift_code types ty)) in
    let flow = subst (λ os. Flows m types (in_block (lift_case types slots i (made p))) os [] c.loop-i.bindgen c.lift_case.new.bindgen) (sym (append-nil words)) (c.in_ok-lift_case.ensures.flows i) in
    record {
      grows = grows_alike m _ _ _ c.loop-i.invariant.code c.loop-i.invariant.grows here.adds.grows;
      code = here.adds.code ∙ c.loop-i.invariant.code;
      flows = flows_next m types (length slots) (λ payload. 0) (λ n payload. in_block (lift_case types slots n (made payload))) words payloads words c.args.bindgen.now i None [] [] [] [] [] _ _ short c.requires.enough refl refl flow c.loop-i.invariant.flows;
      rest = lifts_next m g.met.B.Bindgen.sound r c.requires.down c.args.id payloads i None c.args.slots.now c.args.words.now _ _ _ short c.loop-i.invariant.rest here;
    }

pub lift_cases-returns : goal.lift_cases-returns
lift_cases-returns g t c =
    let m = g.B.Bindgen.meaning in
    let r = c.args.resolve.now in
    let types = r.types in
    let payloads = c.args.payloads.now in
    let ended : length payloads ≤ c.loop-i.i = omega (arith, c.loop-i-test.false) in
    record {
      lifts = lifts_done m g.met.B.Bindgen.sound r c.requires.down c.args.id payloads c.loop-i.i c.args.slots.now c.args.words.now _ _ ended c.loop-i.invariant.rest;
      flows = flows_last m types (length c.args.slots.now) (λ payload. 0) (λ n payload. in_block (lift_case types c.args.slots.now n (option_map (λ ty. (ty, lift_code types ty)) payload))) c.args.words.now payloads c.args.words.now c.args.bindgen.now c.loop-i.i [] [] _ ended c.loop-i.invariant.flows;
    }

pub lift_payload-slice_bounds-push_copies-end : goal.lift_payload-slice_bounds-push_copies-end
lift_payload-slice_bounds-push_copies-end g t c =
    let f = c.flat_types-flat.result in
    let is = payload_count c.args.resolve.now.types c.args.ty f c.flat_types-flat.ensures (no_more c.args.resolve.now.types c.args.ty f c.flat_types-flat.ensures (few_words c.args.resolve.now.types c.args.ty c.args.slots.now c.requires.fits c.requires.few)) in
    let most = fit_length (payload_words c.args.resolve.now.types (Some c.args.ty)) c.args.slots.now c.requires.fits in
    sym (length-take-le f.count c.args.words.now (omega (arith, is, most, c.requires.enough)))

pub lift_payload-slice_bounds-cast_words-end : goal.lift_payload-slice_bounds-cast_words-end
lift_payload-slice_bounds-cast_words-end g t c =
    let f = c.flat_types-flat.result in
    let is = payload_count c.args.resolve.now.types c.args.ty f c.flat_types-flat.ensures (no_more c.args.resolve.now.types c.args.ty f c.flat_types-flat.ensures (few_words c.args.resolve.now.types c.args.ty c.args.slots.now c.requires.fits c.requires.few)) in
    let most = fit_length (payload_words c.args.resolve.now.types (Some c.args.ty)) c.args.slots.now c.requires.fits in
    sym (length-take-le f.count c.args.slots.now (omega (arith, is, most)))

pub lift_payload-cast_words-requires-clause-ordered : goal.lift_payload-cast_words-requires-clause-ordered
lift_payload-cast_words-requires-clause-ordered g t c =
    let types = c.args.resolve.now.types in
    let f = c.flat_types-flat.result in
    let words = payload_words types (Some c.args.ty) in
    let told = payload_told types c.args.ty f c.flat_types-flat.ensures (no_more types c.args.ty f c.flat_types-flat.ensures (few_words types c.args.ty c.args.slots.now c.requires.fits c.requires.few)) in
    let is = payload_count types c.args.ty f c.flat_types-flat.ensures (no_more types c.args.ty f c.flat_types-flat.ensures (few_words types c.args.ty c.args.slots.now c.requires.fits c.requires.few)) in
    subst (λ (xs : List WasmType). AreOrdered (take f.count c.args.slots.now) xs) (sym told) (subst (λ n. AreOrdered (take n c.args.slots.now) words) (sym is) (of_slots words c.args.slots.now c.requires.fits))

pub lift_payload-cast_words-requires-clause-enough : goal.lift_payload-cast_words-requires-clause-enough
lift_payload-cast_words-requires-clause-enough g t c =
    let f = c.flat_types-flat.result in
    let is = payload_count c.args.resolve.now.types c.args.ty f c.flat_types-flat.ensures (no_more c.args.resolve.now.types c.args.ty f c.flat_types-flat.ensures (few_words c.args.resolve.now.types c.args.ty c.args.slots.now c.requires.fits c.requires.few)) in
    let most = fit_length (payload_words c.args.resolve.now.types (Some c.args.ty)) c.args.slots.now c.requires.fits in
    let first : c.from_vec-first.result ≡ take f.count c.args.words.now = c.from_vec-first.ensures ∙ c.in_ok-push_copies.ensures ∙ ap (λ (os : List g.row.B-Operand.Denot). os ++ take f.count c.args.words.now) c.new-first.ensures.items in
    ap length first ∙ length-take-le f.count c.args.words.now (omega (arith, is, most, c.requires.enough)) ∙ sym (length-take-le f.count c.args.slots.now (omega (arith, is, most)))

pub lift_payload-lift_type-requires : goal.lift_payload-lift_type-requires
lift_payload-lift_type-requires g t c κs within =
    let types = c.args.resolve.now.types in
    let f = c.flat_types-flat.result in
    let slots = c.args.slots.now in
    let few = few_words types c.args.ty slots c.requires.fits c.requires.few in
    let is = payload_count types c.args.ty f c.flat_types-flat.ensures (no_more types c.args.ty f c.flat_types-flat.ensures few) in
    let most = fit_length (payload_words types (Some c.args.ty)) slots c.requires.fits in
    let many = length-take-le f.count slots (omega (arith, is, most)) in
    let enough : 0 + word_count types c.args.ty ≤ length c.as_slice.result.now = omega (arith, ap length c.as_slice.ensures, c.in_ok-used.ensures.casts.fits, many, is) in
    let opened : Writes g.B.Bindgen.meaning types c.args.ty c.push_block.new.self = λ id reached. c.in_ok-push_block.ensures.lasts.writes types id.0 (c.requires.writes id reached) in
    let writes = writes_later g.B.Bindgen.meaning types _ _ c.args.ty c.in_ok-used.ensures.casts.adds.grows opened in
    (omega arith, (within.0, (within.1, (c.requires.well, (c.requires.down, (c.requires.below, (c.requires.serves, (writes, (few, enough)))))))))

pub lift_payload-close_payload-requires : goal.lift_payload-close_payload-requires
lift_payload-close_payload-requires g t c =
    let m = g.B.Bindgen.meaning in
    let begins = c.in_ok-push_block.ensures in
    let opened = c.in_ok-lifted.ensures.lifts.2.adds.grows.opened ∙ c.in_ok-used.ensures.casts.adds.grows.opened ∙ begins.opened in
    record { slot = begins.slot; suspended = m.code c.args.bindgen.now; outer = m.opened c.args.bindgen.now; opened = opened }

pub lift_payload-returns : goal.lift_payload-returns
lift_payload-returns g t c =
    let m = g.B.Bindgen.meaning in
    let sound = g.met.B.Bindgen.sound in
    let types = c.args.resolve.now.types in
    let ty = c.args.ty in
    let slots = c.args.slots.now in
    let shared = c.args.words.now in
    let f = c.flat_types-flat.result in
    let words = payload_words types (Some ty) in
    let told = payload_told types ty f c.flat_types-flat.ensures (no_more types ty f c.flat_types-flat.ensures (few_words types ty slots c.requires.fits c.requires.few)) in
    let is = payload_count types ty f c.flat_types-flat.ensures (no_more types ty f c.flat_types-flat.ensures (few_words types ty slots c.requires.fits c.requires.few)) in
    let most = fit_length words slots c.requires.fits in
    let a = c.args.bindgen.now in
    let b = c.push_block.new.self in
    let casted = c.cast_words.new.bindgen in
    let lifted = c.lift_type.new.bindgen in
    let closed = c.close_payload.new.bindgen in
    let used = c.in_ok-used.used in
    let x = c.in_ok-lifted.lifted.operand in
    let opens = c.in_ok-push_block.ensures in
    let first : c.from_vec-first.result ≡ take f.count shared = c.from_vec-first.ensures ∙ c.in_ok-push_copies.ensures ∙ ap (λ (os : List g.row.B-Operand.Denot). os ++ take f.count shared) c.new-first.ensures.items in
    let casts = subst (λ n. CastsAll m (take n slots) words (take n shared) used b casted) is
    (subst (λ (xs : List WasmType). CastsAll m (take f.count slots) xs (take f.count shared) used b casted) told
    (subst (λ (os : List g.row.B-Operand.Denot). CastsAll m (take f.count slots) (take f.count f.words) os used b casted) first c.in_ok-used.ensures.casts)) in
    let Cast : ℕ → List WasmType → List g.row.B-Operand.Denot → Type 0 = λ n xs os. Flows m types (cast_code (take n slots) xs) os used b casted in
    let cast_flow : Cast (length words) words (take (length words) shared) = subst (λ n. Cast n words (take n shared)) is (subst (λ xs. Cast f.count xs (take f.count shared)) told (subst (λ os. Cast f.count (take f.count f.words) os) first c.in_ok-used.ensures.flows)) in
    let got = subst (λ (os : List g.row.B-Operand.Denot). (part : List g.row.B-Operand.Denot) × (os ≡ part ++ drop c.in_ok-lifted.lifted.next os) × LiftsFlat m (shape_of types ty) part x casted lifted) c.as_slice.ensures c.in_ok-lifted.ensures.lifts in
    let many : length got.0 ≡ length used = got.2.fits ∙ sym (casts.fits ∙ length-take-le (length words) slots most) in
    let whole = subst (λ (os : List g.row.B-Operand.Denot). LiftsFlat m (shape_of types ty) os x casted lifted) (all_used used got.0 (drop c.in_ok-lifted.lifted.next used) got.1 many) got.2 in
    let some = payload_some c.args.resolve.now c.requires.well ty c.requires.below in
    let close = c.in_ok-close_payload.ensures in
    let part = lift_code types ty in
    let all : take (word_count types ty) (drop 0 c.as_slice.result.now) ≡ used = ap (take (word_count types ty)) c.as_slice.ensures ∙ take_all (word_count types ty) used (omega (arith, casts.fits, length-take-le (length words) slots most)) in
    let value = subst (λ os. Flows m types part os (x ∷ []) casted lifted) all c.in_ok-lifted.ensures.flows in
    let inside = flows_then m types (leading (length words) >>> cast_code (take (length words) slots) words) part shared used (x ∷ []) b casted lifted
    (flows_then m types (leading (length words)) (cast_code (take (length words) slots) words) shared (take (length words) shared) used b b casted (refl, refl) cast_flow) value in
    record {
      lifts = full_lifts m sound (shape_of types ty) slots a b casted lifted closed shared used x c.requires.fits some c.requires.enough opens casts whole close;
      flows = λ n. flows_block m types (lift_case types slots n (Some (ty, part))) shared (x ∷ []) a b lifted closed opens inside close;
    }

pub lift_variant-flat_types-flat-requires-clause-below : goal.lift_variant-flat_types-flat-requires-clause-below
unfolding type_below
lift_variant-flat_types-flat-requires-clause-below g t c = lt-ltb c.args.id.0 (length c.args.resolve.now.types) (slice_get_within c.args.resolve.now.types c.args.id.0 c.requires.here.entry c.requires.here.stands)

pub lift_variant-lift_cases-requires : goal.lift_variant-lift_cases-requires
lift_variant-lift_cases-requires g t c κs within =
    let types = c.args.resolve.now.types in
    let kind = c.args.kind.now in
    let here = c.requires.here in
    let words = c.args.words.now in
    let f = c.flat_types-flat.result in
    let shape = variant_shape types c.requires.down c.args.id.0 kind here c.requires.cases in
    let told : take (f.count - 1) (drop 1 f.words) ≡ shared_slots types (payloads_of kind) = slots_told types c.args.id (payloads_of kind) shape f c.flat_types-flat.ensures (no_more types (wit.Id c.args.id) f c.flat_types-flat.ensures c.requires.few) in
    let is : f.count ≡ case_words types (payloads_of kind) = count_told types c.args.id (payloads_of kind) shape f c.flat_types-flat.ensures (no_more types (wit.Id c.args.id) f c.flat_types-flat.ensures c.requires.few) in
    let same : c.as_slice-payloads.result.now ≡ payloads_of kind = c.as_slice-payloads.ensures ∙ c.in_ok-payloads.ensures in
    let inside : c.args.id.0 < length types = slice_get_within types c.args.id.0 here.entry here.stands in
    let below : list_all (λ payload. payload_below c.args.id.0 payload) c.as_slice-payloads.result.now ≡ true =
    subst (λ (ps : List (Option WitType)). list_all (λ payload. payload_below c.args.id.0 payload) ps ≡ true) (sym same) (variant_below types c.requires.down c.args.id.0 kind here c.requires.cases) in
    let serves = subst (λ (ps : List (Option WitType)). ServesAll (payloads_in (shapes types) ps)) (sym same) (payloads_served types c.args.id.0 (payloads_of kind) shape c.requires.serves) in
    let writes = subst (λ (ps : List (Option WitType)). AllByRecursion (λ (p : Option WitType). WritesPart g.B.Bindgen.meaning types p c.args.bindgen.now) ps) (sym same) (payloads_written g.B.Bindgen.meaning types c.args.id here.entry here.stands c.args.bindgen.now c.requires.writes kind c.requires.cases here.kind) in
    let shared : take (f.count - 1) (drop 1 f.words) ≡ shared_slots types c.as_slice-payloads.result.now = told ∙ ap (shared_slots types) (sym same) in
    let n = c.args.at + f.count - (c.args.at + 1) in
    let room : n ≤ length (drop (c.args.at + 1) words) = omega (arith, is, variant_words types c.requires.down c.args.id kind c.requires.here c.requires.cases, c.requires.enough, length-drop (c.args.at + 1) words) in
    let enough : length (take n (drop (c.args.at + 1) words)) ≡ length (take (f.count - 1) (drop 1 f.words)) = length-take-le n (drop (c.args.at + 1) words) room ∙ (let e : n ≡ length (shared_slots types (payloads_of kind)) = omega (arith, is) in e) ∙ sym (ap length told) in
    let few : length (take (f.count - 1) (drop 1 f.words)) ≤ 16 = omega (arith, ap length told, variant_words types c.requires.down c.args.id kind here c.requires.cases, c.requires.few) in
    (omega arith, (within.0, (within.1, (c.requires.well, (c.requires.down, (inside, (below, (serves, (writes, (shared, (few, enough)))))))))))

pub lift_variant-returns : goal.lift_variant-returns
lift_variant-returns g t c =
    let m = g.B.Bindgen.meaning in
    let r = c.args.resolve.now in
    let types = r.types in
    let kind = c.args.kind.now in
    let here = c.requires.here in
    let words = c.args.words.now in
    let at = c.args.at in
    let f = c.flat_types-flat.result in
    let tag = c.in_ok-tag.tag in
    let x = c.in_ok-operand.operand in
    let shape = variant_shape types c.requires.down c.args.id.0 kind here c.requires.cases in
    let told : take (f.count - 1) (drop 1 f.words) ≡ shared_slots types (payloads_of kind) = slots_told types c.args.id (payloads_of kind) shape f c.flat_types-flat.ensures (no_more types (wit.Id c.args.id) f c.flat_types-flat.ensures c.requires.few) in
    let is : f.count ≡ case_words types (payloads_of kind) = count_told types c.args.id (payloads_of kind) shape f c.flat_types-flat.ensures (no_more types (wit.Id c.args.id) f c.flat_types-flat.ensures c.requires.few) in
    let same : c.as_slice-payloads.result.now ≡ payloads_of kind = c.as_slice-payloads.ensures ∙ c.in_ok-payloads.ensures in
    let n = at + f.count - (at + 1) in
    let shared = take n (drop (at + 1) words) in
    let room : n ≤ length (drop (at + 1) words) = omega (arith, is, variant_words types c.requires.down c.args.id kind c.requires.here c.requires.cases, c.requires.enough, length-drop (at + 1) words) in
    let enough : length shared ≡ length (shared_slots types (payloads_of kind)) = length-take-le n (drop (at + 1) words) room ∙ (let e : n ≡ length (shared_slots types (payloads_of kind)) = omega (arith, is) in e) in
    let short : at < length words = omega (arith, is, variant_words types c.requires.down c.args.id kind c.requires.here c.requires.cases, c.requires.enough) in
    let split : drop (at + 1) words ≡ shared ++ drop (at + f.count) words =
    sym (take-append-drop n (drop (at + 1) words)) ∙ ap (λ os. shared ++ os) (drop-drop n (at + 1) words ∙ (let e : at + 1 + n ≡ at + f.count = omega (arith, is) in ap (λ k. drop k words) e)) in
    let front : drop at words ≡ tag ∷ drop (at + 1) words = drop-same words words at tag c.index-words-at.result refl short c.index-words-at.is c.in_ok-tag.ensures in
    let blocks = subst (λ (ds : List WasmType). LiftsCases m (payloads_in (shapes types) (payloads_of kind)) (result_counts (payloads_of kind)) ds shared c.args.bindgen.now c.lift_cases.new.bindgen) told
    (subst (λ (ps : List (Option WitType)). LiftsCases m (payloads_in (shapes types) ps) (result_counts ps) (take (f.count - 1) (drop 1 f.words)) shared c.args.bindgen.now c.lift_cases.new.bindgen) same c.in_ok-lift_cases.ensures.lifts) in
    let slots = shared_slots types (payloads_of kind) in
    let blocks_code : Flow = blocks_of_cases (length slots) (lift_case types slots) (lift_code types) (payloads_of kind) in
    let flow = subst (λ (ds : List WasmType). Flows m types (blocks_of_cases (length ds) (lift_case types ds) (lift_code types) (payloads_of kind)) shared [] c.args.bindgen.now c.lift_cases.new.bindgen) told
    (subst (λ (ps : List (Option WitType)). Flows m types (blocks_of_cases (length (take (f.count - 1) (drop 1 f.words))) (lift_case types (take (f.count - 1) (drop 1 f.words))) (lift_code types) ps) shared [] c.args.bindgen.now c.lift_cases.new.bindgen) same c.in_ok-lift_cases.ensures.flows) in
    let e = subst (λ (os : List g.row.B-Operand.Denot). Emits m types (case_lifting kind c.args.id) os (x ∷ []) c.lift_cases.new.bindgen c.send_one.new.bindgen) c.in_ok-operands.ensures
    (subst (λ (i : Instruction). Emits m types i c.in_ok-operands.operands (x ∷ []) c.lift_cases.new.bindgen c.send_one.new.bindgen) c.case_lifting.ensures c.in_ok-operand.ensures) in
    let whole : word_count types (wit.Id c.args.id) ≡ suc (length shared) = variant_words types c.requires.down c.args.id kind here c.requires.cases ∙ ap suc (sym enough) in
    let reads : take (word_count types (wit.Id c.args.id)) (drop at words) ≡ tag ∷ shared = ap (take (word_count types (wit.Id c.args.id))) (front ∙ ap (λ os. tag ∷ os) split) ∙ take_at (tag ∷ shared) (drop (at + f.count) words) (word_count types (wit.Id c.args.id)) (sym whole) in
    record {
      next = ap (λ n. at + n) (is ∙ sym (variant_words types c.requires.down c.args.id kind here c.requires.cases));
      lifts = (tag ∷ shared, front ∙ ap (λ os. tag ∷ os) split, variant_lifts m g.met.B.Bindgen.sound r c.requires.down c.args.id _ _ shared kind _ tag x here c.requires.cases enough blocks e);
      flows = subst (λ os. Flows m types (lift_code types (wit.Id c.args.id)) os (x ∷ []) c.args.bindgen.now c.send_one.new.bindgen) (sym reads) (flows_as m types _ _ _ _ _ _ (lift_variant_code types c.requires.down c.args.id here.entry here.stands kind here.kind c.requires.cases)
          (flows_then m types (both (behind 1 >>> blocks_code) (leading 1)) (emit (case_lifting kind c.args.id)) (tag ∷ shared) (tag ∷ []) (x ∷ []) c.args.bindgen.now c.lift_cases.new.bindgen c.send_one.new.bindgen
          (flows_both m types (behind 1 >>> blocks_code) (leading 1) (tag ∷ shared) [] (tag ∷ []) c.args.bindgen.now c.lift_cases.new.bindgen c.lift_cases.new.bindgen
          (flows_then m types (behind 1) blocks_code (tag ∷ shared) shared [] c.args.bindgen.now c.args.bindgen.now c.lift_cases.new.bindgen (refl, refl) flow) (refl, refl)) e));
    }

pub lift_case-lift_payload-requires : goal.lift_case-lift_payload-requires
lift_case-lift_payload-requires g t c κs within =
    let types = c.args.resolve.now.types in
    let deep : payload_rank c.args.payload ≡ rank c.in-Some.ty = ap payload_rank c.in-Some.is in
    let below = payload_type_low (length types) c.in-Some.ty (subst (λ (p : Option WitType). payload_below (length types) p ≡ true) c.in-Some.is c.requires.below) in
    let serves = subst (λ (p : Option WitType). Serves (payload_in (shapes types) p)) c.in-Some.is c.requires.serves in
    let writes = subst (λ (p : Option WitType). WritesPart g.B.Bindgen.meaning types p c.args.bindgen.now) c.in-Some.is c.requires.writes in
    let fits = subst (λ (p : Option WitType). FitIn (payload_words types p) c.args.slots.now) c.in-Some.is c.requires.fits in
    (omega (arith, deep), (within.0, (within.1, (c.requires.well, (c.requires.down, (below, (serves, (writes, (fits, (c.requires.few, c.requires.enough))))))))))

pub lift_case-returns-in_ok-lift_bare-in-None : goal.lift_case-returns-in_ok-lift_bare-in-None
lift_case-returns-in_ok-lift_bare-in-None g t c =
    let m = g.B.Bindgen.meaning in
    let types = c.args.resolve.now.types in
    let slots = c.args.slots.now in
    let words = c.args.words.now in
    let new = c.lift_bare.new.bindgen in
    let Lifts : Option WitType → Type 0 = λ p. LiftsCases m (more (payload_in (shapes types) p) none) (result_counts (p ∷ [])) slots words c.args.bindgen.now new in
    record {
      lifts = subst Lifts (sym c.in-None.is) (c.in_ok-lift_bare-in-None.ensures.lifts slots words);
      flows = λ n. subst (λ (p : Option WitType). Flows m types (in_block (lift_case types slots n (option_map (λ ty. (ty, lift_code types ty)) p))) words [] c.args.bindgen.now new) (sym c.in-None.is) (c.in_ok-lift_bare-in-None.ensures.flows types words);
    }

pub lift_case-returns-in_ok-lift_payload-in-Some : goal.lift_case-returns-in_ok-lift_payload-in-Some
lift_case-returns-in_ok-lift_payload-in-Some g t c =
    let m = g.B.Bindgen.meaning in
    let types = c.args.resolve.now.types in
    let slots = c.args.slots.now in
    let new = c.lift_payload.new.bindgen in
    let Lifts : Option WitType → Type 0 = λ p. LiftsCases m (more (payload_in (shapes types) p) none) (result_counts (p ∷ [])) slots c.args.words.now c.args.bindgen.now new in
    record {
      lifts = subst Lifts (sym c.in-Some.is) c.in_ok-lift_payload-in-Some.ensures.lifts;
      flows = λ n. subst (λ (p : Option WitType). Flows m types (in_block (lift_case types slots n (option_map (λ ty. (ty, lift_code types ty)) p))) c.args.words.now [] c.args.bindgen.now new) (sym c.in-Some.is) (c.in_ok-lift_payload-in-Some.ensures.flows n);
    }

pub lift_variant-overflow_add-next : goal.lift_variant-overflow_add-next
lift_variant-overflow_add-next g t c =
    let types = c.args.resolve.now.types in
    let kind = c.args.kind.now in
    let f = c.flat_types-flat.result in
    let shape = variant_shape types c.requires.down c.args.id.0 kind c.requires.here c.requires.cases in
    let is : f.count ≡ case_words types (payloads_of kind) = count_told types c.args.id (payloads_of kind) shape f c.flat_types-flat.ensures (no_more types (wit.Id c.args.id) f c.flat_types-flat.ensures c.requires.few) in
    let within : c.args.at + f.count ≤ length c.args.words.now = omega (arith, is, variant_words types c.requires.down c.args.id kind c.requires.here c.requires.cases, c.requires.enough) in
    search rules

pub lift_variant-slice_bounds-shared-end : goal.lift_variant-slice_bounds-shared-end
lift_variant-slice_bounds-shared-end g t c =
    let types = c.args.resolve.now.types in
    let kind = c.args.kind.now in
    let f = c.flat_types-flat.result in
    let shape = variant_shape types c.requires.down c.args.id.0 kind c.requires.here c.requires.cases in
    let is : f.count ≡ case_words types (payloads_of kind) = count_told types c.args.id (payloads_of kind) shape f c.flat_types-flat.ensures (no_more types (wit.Id c.args.id) f c.flat_types-flat.ensures c.requires.few) in
    let within : c.args.at + f.count ≤ length c.args.words.now = omega (arith, is, variant_words types c.requires.down c.args.id kind c.requires.here c.requires.cases, c.requires.enough) in
    search rules

pub lift_variant-overflow_add-shared : goal.lift_variant-overflow_add-shared
lift_variant-overflow_add-shared g t c =
    let types = c.args.resolve.now.types in
    let kind = c.args.kind.now in
    let f = c.flat_types-flat.result in
    let shape = variant_shape types c.requires.down c.args.id.0 kind c.requires.here c.requires.cases in
    let is : f.count ≡ case_words types (payloads_of kind) = count_told types c.args.id (payloads_of kind) shape f c.flat_types-flat.ensures (no_more types (wit.Id c.args.id) f c.flat_types-flat.ensures c.requires.few) in
    let short : c.args.at < length c.args.words.now = omega (arith, is, variant_words types c.requires.down c.args.id kind c.requires.here c.requires.cases, c.requires.enough) in
    search rules

pub lift_variant-offset_bounds-words-at : goal.lift_variant-offset_bounds-words-at
lift_variant-offset_bounds-words-at g t c =
    let types = c.args.resolve.now.types in
    let kind = c.args.kind.now in
    let f = c.flat_types-flat.result in
    let shape = variant_shape types c.requires.down c.args.id.0 kind c.requires.here c.requires.cases in
    let is : f.count ≡ case_words types (payloads_of kind) = count_told types c.args.id (payloads_of kind) shape f c.flat_types-flat.ensures (no_more types (wit.Id c.args.id) f c.flat_types-flat.ensures c.requires.few) in
    let short : c.args.at < length c.args.words.now = omega (arith, is, variant_words types c.requires.down c.args.id kind c.requires.here c.requires.cases, c.requires.enough) in
    omega (arith, short)

pub lift_variant-slice_bounds-shared-count : goal.lift_variant-slice_bounds-shared-count
lift_variant-slice_bounds-shared-count g t c =
    let types = c.args.resolve.now.types in
    let kind = c.args.kind.now in
    let f = c.flat_types-flat.result in
    let shape = variant_shape types c.requires.down c.args.id.0 kind c.requires.here c.requires.cases in
    let is : f.count ≡ case_words types (payloads_of kind) = count_told types c.args.id (payloads_of kind) shape f c.flat_types-flat.ensures (no_more types (wit.Id c.args.id) f c.flat_types-flat.ensures c.requires.few) in
    let some : 1 ≤ f.count = omega (arith, is) in
    omega (arith, some)

pub lift_variant-slice_bounds-shared-start : goal.lift_variant-slice_bounds-shared-start
lift_variant-slice_bounds-shared-start g t c =
    let types = c.args.resolve.now.types in
    let kind = c.args.kind.now in
    let f = c.flat_types-flat.result in
    let shape = variant_shape types c.requires.down c.args.id.0 kind c.requires.here c.requires.cases in
    let is : f.count ≡ case_words types (payloads_of kind) = count_told types c.args.id (payloads_of kind) shape f c.flat_types-flat.ensures (no_more types (wit.Id c.args.id) f c.flat_types-flat.ensures c.requires.few) in
    let some : 1 ≤ f.count = omega (arith, is) in
    let within : c.args.at + 1 ≤ c.args.at + f.count = omega (arith, some) in
    within

pub lift_variant-slice_bounds-slots-count : goal.lift_variant-slice_bounds-slots-count
lift_variant-slice_bounds-slots-count g t c =
    let types = c.args.resolve.now.types in
    let kind = c.args.kind.now in
    let f = c.flat_types-flat.result in
    let shape = variant_shape types c.requires.down c.args.id.0 kind c.requires.here c.requires.cases in
    let is : f.count ≡ case_words types (payloads_of kind) = count_told types c.args.id (payloads_of kind) shape f c.flat_types-flat.ensures (no_more types (wit.Id c.args.id) f c.flat_types-flat.ensures c.requires.few) in
    let some : 1 ≤ f.count = omega (arith, is) in
    some

pub lift_variant-slice_bounds-slots-start : goal.lift_variant-slice_bounds-slots-start
lift_variant-slice_bounds-slots-start g t c =
    let types = c.args.resolve.now.types in
    let kind = c.args.kind.now in
    let f = c.flat_types-flat.result in
    let shape = variant_shape types c.requires.down c.args.id.0 kind c.requires.here c.requires.cases in
    let is : f.count ≡ case_words types (payloads_of kind) = count_told types c.args.id (payloads_of kind) shape f c.flat_types-flat.ensures (no_more types (wit.Id c.args.id) f c.flat_types-flat.ensures c.requires.few) in
    let some : 1 ≤ f.count = omega (arith, is) in
    some

pub lift_variant-bounds-words-at : goal.lift_variant-bounds-words-at
lift_variant-bounds-words-at g t c =
    let types = c.args.resolve.now.types in
    let kind = c.args.kind.now in
    let f = c.flat_types-flat.result in
    let shape = variant_shape types c.requires.down c.args.id.0 kind c.requires.here c.requires.cases in
    let is : f.count ≡ case_words types (payloads_of kind) = count_told types c.args.id (payloads_of kind) shape f c.flat_types-flat.ensures (no_more types (wit.Id c.args.id) f c.flat_types-flat.ensures c.requires.few) in
    let short : c.args.at < length c.args.words.now = omega (arith, is, variant_words types c.requires.down c.args.id kind c.requires.here c.requires.cases, c.requires.enough) in
    short

pub lift_variant-send_one-requires : goal.lift_variant-send_one-requires
lift_variant-send_one-requires g t c =
    let m = g.B.Bindgen.meaning in
    let r = c.args.resolve.now in
    let types = r.types in
    let kind = c.args.kind.now in
    let f = c.flat_types-flat.result in
    let shape = variant_shape types c.requires.down c.args.id.0 kind c.requires.here c.requires.cases in
    let told = slots_told types c.args.id (payloads_of kind) shape f c.flat_types-flat.ensures (no_more types (wit.Id c.args.id) f c.flat_types-flat.ensures c.requires.few) in
    let same : c.as_slice-payloads.result.now ≡ payloads_of kind = c.as_slice-payloads.ensures ∙ c.in_ok-payloads.ensures in
    let shared = take (c.args.at + f.count - (c.args.at + 1)) (drop (c.args.at + 1) c.args.words.now) in
    let blocks = subst (λ (ds : List WasmType). LiftsCases m (payloads_in (shapes types) (payloads_of kind)) (result_counts (payloads_of kind)) ds shared c.args.bindgen.now c.lift_cases.new.bindgen) told
    (subst (λ (ps : List (Option WitType)). LiftsCases m (payloads_in (shapes types) ps) (result_counts ps) (take (f.count - 1) (drop 1 f.words)) shared c.args.bindgen.now c.lift_cases.new.bindgen) same c.in_ok-lift_cases.ensures.lifts) in
    let ready = variant_liftable m g.met.B.Bindgen.sound r c.requires.down c.args.id _ _ shared c.requires.well (blocks.adds.grows.writes types c.args.id.0 (c.requires.writes c.args.id reaches_itself)) kind c.in_ok-tag.tag c.requires.here c.requires.cases blocks in
    record {
      ready = subst (λ (i : Instruction). IsSendable m r i c.in_ok-operands.operands c.lift_cases.new.bindgen) (sym c.case_lifting.ensures)
          (subst (λ (os : List g.row.B-Operand.Denot). IsSendable m r (case_lifting kind c.args.id) os c.lift_cases.new.bindgen) (sym c.in_ok-operands.ensures) ready);
      makes = λ k h. lifting_makes types kind c.args.id k (subst (λ (i : Instruction). Makes types i k) c.case_lifting.ensures h);
    }

pub lift_id-unreachable-requires : goal.lift_id-unreachable-requires
lift_id-unreachable-requires g t c =
    let types = c.args.resolve.now.types in
    let d = c.index-types-place.result in
    let k = (get_or c.as_slice-types.result.now c.args.id.0 d).kind in
    let at = entry_at types c.as_slice-types.result.now c.args.id.0 d c.as_slice-types.ensures c.requires.within c.index-types-place.is in
    let not = c.in_default in
    other_refused types c.requires.down c.args.id.0 k (record { entry = d; stands = at; kind = ap (λ (t : TypeDef). t.kind) c.index-types-place.is }) c.requires.serves
    (record { alias = not.not-Alias; tuple = not.not-Tuple; option = not.not-Option; result = not.not-Result; fields = not.not-Record; variant = not.not-Variant; enum = not.not-Enum; flags = not.not-Flags })

pub lift_id-part_count-requires : goal.lift_id-part_count-requires
lift_id-part_count-requires g t c =
    let types = c.args.resolve.now.types in
    let d = c.index-types-place.result in
    let at = entry_at types c.as_slice-types.result.now c.args.id.0 d c.as_slice-types.ensures c.requires.within c.index-types-place.is in
    let is = kind_at c.as_slice-types.result.now c.args.id.0 d (kind.Tuple c.in-Tuple.members) c.index-types-place.is c.in-Tuple.is in
    let short = tuple_short c.args.resolve.now c.requires.well c.args.id.0 c.in-Tuple.members (record { entry = d; stands = at; kind = is }) in
    record { short = omega (arith, ap length c.as_slice-tys-in-Tuple.ensures, short) }

pub lift_id-lift_enum-requires-clause-few : goal.lift_id-lift_enum-requires-clause-few
lift_id-lift_enum-requires-clause-few g t c =
    let types = c.args.resolve.now.types in
    let d = c.index-types-place.result in
    let at = entry_at types c.as_slice-types.result.now c.args.id.0 d c.as_slice-types.ensures c.requires.within c.index-types-place.is in
    let is = kind_at c.as_slice-types.result.now c.args.id.0 d (kind.Enum c.in-Enum.members) c.index-types-place.is c.in-Enum.is in
    enum_served types c.requires.down c.args.id.0 d at c.requires.serves c.in-Enum.members is
