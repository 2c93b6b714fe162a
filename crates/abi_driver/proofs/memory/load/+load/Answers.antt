use Rattle.std.proofs.Common.{◌≡◌, ℕ, ◌<◌, ◌≤◌, ◌+◌, ◌^◌, true, List, [], ◌∷◌, ◌++◌, length, map, reverse, get_or, option_map, IfOk, option_to_list, Option, None, refl, sym, ap, ◌∙◌, subst, arith}
use Rattle.std.specs.List.{AllByRecursion, list_all, slice_index}
use Rattle.std.proofs.lemmas.Bool.{ltb-true}
use Rattle.std.proofs.lemmas.List.{drop_more, length-append, length-map}
use Rattle.std.proofs.lemmas.Option.{slice_get_within}
use Rattle.wit_model.specs.Size.{bytes_at}
use Rattle.wit_model.specs.Reaches.{reaches_itself}
use Rattle.wit_model.specs.TypeOrder.{payload_below, type_below}
use Rattle.wit_model.specs.declared.types.Field.{Field}
use Rattle.wit_model.specs.declared.types.TypeDef.{TypeDef}
use Rattle.wit_model.specs.declared.types.TypeDefKind.TheVariants as kind
use Rattle.wit_model.specs.declared.types.WitType.{WitType}
use Rattle.wit_model.specs.declared.types.WitType.TheVariants as wit
use Rattle.wit_layout.proofs.FlattenSteps.{rank}
use Rattle.wit_layout.specs.Extent.{discriminant_grain}
use Rattle.wit_layout.specs.Sizes.{field_offsets}
use Rattle.wit_layout.specs.Told.{is_alias}
use Rattle.wit_layout.specs.Tree.{tree_at}
use Rattle.wrapper_meaning.specs.Shape.{Shape, payload_in, payloads_in, shape_of, shapes}
use Rattle.wrapper_meaning.specs.Shape.Shape.{cases}
use Rattle.abi_bindgen.specs.declared.instruction.Instruction.{Instruction}
use Rattle.abi_bindgen.specs.declared.instruction.Instruction.TheVariants.{RecordLift, TupleLift}
use Rattle.abi_bindgen.specs.Cases.{payloads_of, result_counts}
use Rattle.abi_bindgen.specs.Code.{at_payload, beyond, load_code, place_in}
use Rattle.abi_bindgen.specs.HasList.{IsKindOf}
use Rattle.abi_bindgen.specs.Instructions.{Emits, HasBlocks, IsRecord, IsSendable, Makes, case_lifting, shapes_of, has_cases}
use Rattle.abi_bindgen.specs.Blocks.{Finishes}
use Rattle.abi_driver.specs.LoadedCases.{LoadsCase}
use Rattle.abi_driver.specs.Loads.{LiftsFromMemory, LoadsParts}
use Rattle.abi_bindgen.specs.Places.{HasParts, IsOfParts}
use Rattle.abi_bindgen.specs.Served.{Serves, ServesAll}
use Rattle.abi_bindgen.specs.Written.{Writes, WritesEach, WritesPart}
use Rattle.abi_bindgen.specs.Flow.{Flow, emit, in_block, leave_none, each, ◌>>>◌}
use Rattle.abi_bindgen.specs.Flows.{Flows}
use Rattle.abi_driver.specs.Low.{EndsLow}
use Rattle.abi_driver.proofs.CaseInstructions.{lifting_sendable}
use Rattle.abi_driver.proofs.LiftedVariants.{lifting_makes}
use Rattle.abi_driver.proofs.CaseLoads.{bare_loads, payload_loads, rest_last as last_case, rest_next as next_case}
use Rattle.abi_driver.proofs.CaseSteps.{are_finished, part_resumed, resumes_both, resumes_same}
use Rattle.abi_bindgen.proofs.Payloads.{payload_some, variant_below, variant_shape}
use Rattle.abi_bindgen.proofs.Serving.{alias_served, few_payloads, other_refused, part_served, payload_served, payloads_served, record_served, tuple_served}
use Rattle.abi_bindgen.proofs.Writing.{alias_written, one_written, payload_written, payloads_written, record_written, tuple_written, writes_later}
use Rattle.abi_driver.proofs.LowPlaces.{part_ends, part_low, payload_ends, payload_low as payload_begins, payloads_low}
use Rattle.abi_driver.proofs.NumberWords.{number_load_adds}
use Rattle.abi_driver.proofs.VariantLoads.{loaded_variant}
use Rattle.abi_driver.proofs.LoadSteps.{loads_as, loads_parts_as, record_loads, rest_last, rest_next, tuple_loads}
use Rattle.abi_driver.proofs.MemoryCode.{load_alias_code, load_record_code, load_tuple_code}
use Rattle.abi_driver.proofs.PartOffsets.{behind_next, cases_no_alias, no_alias, part_offset, place_sent}
use Rattle.abi_driver.proofs.RecordPlaces.{place_told}
use Rattle.abi_bindgen.proofs.Records.{alias_below, alias_rank, alias_shape, count-shapes, entry_at, kind_at, one_record, part_below_table, part_ranked, payload_low, payload_type_low, record_below, record_shape, tuple_below, tuple_shape, tuple_short, type_below_table, type_ranked}
use Rattle.abi_bindgen.proofs.Runs.{adds_both, adds_same}
use Rattle.abi_bindgen.proofs.FlowSteps.{flows_as, flows_then, flows_block, flows_next, flows_last}
use Rattle.abi_driver.proofs.memory.load.+load.Goals as goal

pub load_type-load_id-requires : goal.load_type-load_id-requires
unfolding type_below
load_type-load_id-requires g t c κs within =
    let n = length c.args.resolve.now.types in
    let deep : rank c.args.ty ≡ c.in-Id.id.0 + 1 = ap rank c.in-Id.is ∙ omega arith in
    let inside : c.in-Id.id.0 < n = ltb-true c.in-Id.id.0 n (ap (type_below n) (sym c.in-Id.is) ∙ c.requires.below) in
    let types = c.args.resolve.now.types in
    let serves = subst (λ (ty : WitType). Serves (shape_of types ty)) c.in-Id.is c.requires.serves in
    let writes = subst (λ (ty : WitType). Writes g.B.Bindgen.meaning types ty c.args.bindgen.now) c.in-Id.is c.requires.writes in
    let low = subst (λ (ty : WitType). EndsLow (shape_of types ty) c.args.offset) c.in-Id.is c.requires.low in
    (omega arith, (within.0, (within.1, (c.requires.well, (c.requires.down, (inside, (c.requires.knows, (serves, (writes, low)))))))))

pub load_type-load_text-requires : goal.load_type-load_text-requires
load_type-load_text-requires g t c =
    let types = c.args.resolve.now.types in
    record { low = subst (λ (ty : WitType). EndsLow (shape_of types ty) c.args.offset) c.in-String.is c.requires.low }

pub load_type-returns-in-String : goal.load_type-returns-in-String
load_type-returns-in-String g t c =
    let m = g.B.Bindgen.meaning in
    let types = c.args.resolve.now.types in
    let new = c.load_text.new.bindgen in
    record {
      loads = subst (λ (ty : WitType). IfOk c.load_text.result (λ r. LiftsFromMemory m (shape_of types ty) c.args.address.now c.args.offset r c.args.bindgen.now new)) (sym c.in-String.is) c.load_text.ensures.loads;
      flows = subst (λ (ty : WitType). IfOk c.load_text.result (λ r. Flows m types (load_code types ty c.args.offset) (c.args.address.now ∷ []) (r ∷ []) c.args.bindgen.now new)) (sym c.in-String.is) c.load_text.ensures.flows;
    }

pub load_type-returns-in-Id : goal.load_type-returns-in-Id
load_type-returns-in-Id g t c =
    let m = g.B.Bindgen.meaning in
    let types = c.args.resolve.now.types in
    let new = c.load_id.new.bindgen in
    record {
      loads = subst (λ (ty : WitType). IfOk c.load_id.result (λ r. LiftsFromMemory m (shape_of types ty) c.args.address.now c.args.offset r c.args.bindgen.now new)) (sym c.in-Id.is) c.load_id.ensures.loads;
      flows = subst (λ (ty : WitType). IfOk c.load_id.result (λ r. Flows m types (load_code types ty c.args.offset) (c.args.address.now ∷ []) (r ∷ []) c.args.bindgen.now new)) (sym c.in-Id.is) c.load_id.ensures.flows;
    }

pub load_id-load_type-requires : goal.load_id-load_type-requires
load_id-load_type-requires g t c κs within =
    let types = c.args.resolve.now.types in
    let d = c.index-types-at.result in
    let at = entry_at types c.as_slice-types.result.now c.args.id.0 d c.as_slice-types.ensures c.requires.within c.index-types-at.is in
    let is = kind_at c.as_slice-types.result.now c.args.id.0 d (kind.Alias c.in-Alias.ty) c.index-types-at.is c.in-Alias.is in
    let low : rank c.in-Alias.ty ≤ c.args.id.0 = alias_rank types c.requires.down c.args.id.0 d at c.in-Alias.ty is in
    let below = alias_below types c.requires.down c.args.id.0 d at c.in-Alias.ty is c.requires.within in
    let serves = alias_served types c.requires.down c.args.id.0 d at c.requires.serves c.in-Alias.ty is in
    let writes = alias_written g.B.Bindgen.meaning types c.args.id d at c.args.bindgen.now c.requires.writes c.in-Alias.ty is in
    let ends = subst (λ (s : Shape). EndsLow s c.args.offset) (alias_shape types c.requires.down c.args.id.0 d at c.in-Alias.ty is) c.requires.low in
    (omega (arith, low), (within.0, (within.1, (c.requires.well, (c.requires.down, (below, (c.requires.knows, (serves, (writes, ends)))))))))

pub load_id-load_parts-requires : goal.load_id-load_parts-requires
load_id-load_parts-requires g t c κs within =
    let types = c.args.resolve.now.types in
    let d = c.index-types-at.result in
    let at = entry_at types c.as_slice-types.result.now c.args.id.0 d c.as_slice-types.ensures c.requires.within c.index-types-at.is in
    let is = kind_at c.as_slice-types.result.now c.args.id.0 d (kind.Record c.in-Record.members) c.index-types-at.is c.in-Record.is in
    let members = c.in-Record.members in
    let read = c.as_slice-tys.result.now in
    let same : read ≡ map (λ (f : Field). f.ty) members = c.as_slice-tys.ensures ∙ c.in_ok-tys-in-Record.ensures ∙ ap (map (λ (f : Field). f.ty)) c.as_slice.ensures in
    let below = subst (λ (xs : List WitType). list_all (λ ty. type_below c.args.id.0 ty) xs ≡ true) (sym same) (record_below types c.requires.down c.args.id.0 d at members is) in
    let parts : HasParts types c.args.id.0 read = (d, at, subst (λ k. IsOfParts k read) (sym is) same) in
    let serves = subst (λ (xs : List WitType). ServesAll (shapes_of types xs)) (sym same) (record_served types c.requires.down c.args.id.0 d at c.requires.serves members is) in
    let writes = subst (λ (xs : List WitType). WritesEach g.B.Bindgen.meaning types xs c.args.bindgen.now) (sym same) (record_written g.B.Bindgen.meaning types c.args.id d at c.args.bindgen.now c.requires.writes members is) in
    (omega arith, (within.0, (within.1, (c.requires.well, (c.requires.down, (c.requires.within, (below, (parts, (c.requires.knows, (serves, (writes, c.requires.low)))))))))))

pub load_id-send_one-requires-clause-ready : goal.load_id-send_one-requires-clause-ready
load_id-send_one-requires-clause-ready g t c =
    let types = c.args.resolve.now.types in
    let d = c.index-types-at.result in
    let at = entry_at types c.as_slice-types.result.now c.args.id.0 d c.as_slice-types.ensures c.requires.within c.index-types-at.is in
    let is = kind_at c.as_slice-types.result.now c.args.id.0 d (kind.Record c.in-Record.members) c.index-types-at.is c.in-Record.is in
    let members = c.in-Record.members in
    let same : c.as_slice-tys.result.now ≡ map (λ (f : Field). f.ty) members = c.as_slice-tys.ensures ∙ c.in_ok-tys-in-Record.ensures ∙ ap (map (λ (f : Field). f.ty)) c.as_slice.ensures in
    let here : IsRecord types c.args.id.0 members = record { entry = d; at = at; kind = is } in
    let count : length c.in_ok-parts-in-Record.parts ≡ length members = c.in_ok-parts-in-Record.ensures.count ∙ ap length same ∙ length-map members (λ (f : Field). f.ty) in
    record { built = refl; operands = λ others other. count ∙ ap length (one_record types c.args.id.0 members others here other); suits = (members, here, c.in_ok-parts-in-Record.ensures.loads.adds.grows.writes types c.args.id.0 (c.requires.writes c.args.id reaches_itself)) }

pub load_id-load_parts-requires-in-Tuple : goal.load_id-load_parts-requires-in-Tuple
load_id-load_parts-requires-in-Tuple g t c κs within =
    let types = c.args.resolve.now.types in
    let d = c.index-types-at.result in
    let at = entry_at types c.as_slice-types.result.now c.args.id.0 d c.as_slice-types.ensures c.requires.within c.index-types-at.is in
    let is = kind_at c.as_slice-types.result.now c.args.id.0 d (kind.Tuple c.in-Tuple.members) c.index-types-at.is c.in-Tuple.is in
    let read = c.as_slice-tys-in-Tuple.result.now in
    let below = subst (λ (xs : List WitType). list_all (λ ty. type_below c.args.id.0 ty) xs ≡ true) (sym c.as_slice-tys-in-Tuple.ensures) (tuple_below types c.requires.down c.args.id.0 d at c.in-Tuple.members is) in
    let parts : HasParts types c.args.id.0 read = (d, at, subst (λ k. IsOfParts k read) (sym is) c.as_slice-tys-in-Tuple.ensures) in
    let serves = subst (λ (xs : List WitType). ServesAll (shapes_of types xs)) (sym c.as_slice-tys-in-Tuple.ensures) (tuple_served types c.requires.down c.args.id.0 d at c.requires.serves c.in-Tuple.members is) in
    let writes = subst (λ (xs : List WitType). WritesEach g.B.Bindgen.meaning types xs c.args.bindgen.now) (sym c.as_slice-tys-in-Tuple.ensures) (tuple_written g.B.Bindgen.meaning types c.args.id d at c.args.bindgen.now c.requires.writes c.in-Tuple.members is) in
    (omega arith, (within.0, (within.1, (c.requires.well, (c.requires.down, (c.requires.within, (below, (parts, (c.requires.knows, (serves, (writes, c.requires.low)))))))))))

pub load_id-part_count-requires : goal.load_id-part_count-requires
load_id-part_count-requires g t c =
    let types = c.args.resolve.now.types in
    let d = c.index-types-at.result in
    let at = entry_at types c.as_slice-types.result.now c.args.id.0 d c.as_slice-types.ensures c.requires.within c.index-types-at.is in
    let is = kind_at c.as_slice-types.result.now c.args.id.0 d (kind.Tuple c.in-Tuple.members) c.index-types-at.is c.in-Tuple.is in
    let short = tuple_short c.args.resolve.now c.requires.well c.args.id.0 c.in-Tuple.members (record { entry = d; stands = at; kind = is }) in
    omega (arith, ap length c.as_slice-tys-in-Tuple.ensures, short)

pub load_id-load_flags-requires : goal.load_id-load_flags-requires
load_id-load_flags-requires g t c =
    let types = c.args.resolve.now.types in
    let d = c.index-types-at.result in
    let at = entry_at types c.as_slice-types.result.now c.args.id.0 d c.as_slice-types.ensures c.requires.within c.index-types-at.is in
    let is = kind_at c.as_slice-types.result.now c.args.id.0 d (kind.Flags c.in-Flags.members) c.index-types-at.is c.in-Flags.is in
    record { down = c.requires.down; here = record { entry = d; stands = at; kind = is }; writes = c.requires.writes; low = c.requires.low }

pub load_id-unreachable-requires : goal.load_id-unreachable-requires
load_id-unreachable-requires g t c =
    let types = c.args.resolve.now.types in
    let d = c.index-types-at.result in
    let k = (get_or c.as_slice-types.result.now c.args.id.0 d).kind in
    let at = entry_at types c.as_slice-types.result.now c.args.id.0 d c.as_slice-types.ensures c.requires.within c.index-types-at.is in
    let not = c.in_default in
    other_refused types c.requires.down c.args.id.0 k (record { entry = d; stands = at; kind = ap (λ (x : TypeDef). x.kind) c.index-types-at.is }) c.requires.serves
    (record { alias = not.not-Alias; tuple = not.not-Tuple; option = not.not-Option; result = not.not-Result; fields = not.not-Record; variant = not.not-Variant; enum = not.not-Enum; flags = not.not-Flags })

pub load_id-returns-in-Alias : goal.load_id-returns-in-Alias
load_id-returns-in-Alias g t c =
    let m = g.B.Bindgen.meaning in
    let types = c.args.resolve.now.types in
    let d = c.index-types-at.result in
    let at = entry_at types c.as_slice-types.result.now c.args.id.0 d c.as_slice-types.ensures c.requires.within c.index-types-at.is in
    let is = kind_at c.as_slice-types.result.now c.args.id.0 d (kind.Alias c.in-Alias.ty) c.index-types-at.is c.in-Alias.is in
    let new = c.load_type.new.bindgen in
    let Loads : Shape → Type 0 = λ s. IfOk c.load_type.result (λ r. LiftsFromMemory m s c.args.address.now c.args.offset r c.args.bindgen.now new) in
    record {
      loads = subst Loads (sym (alias_shape types c.requires.down c.args.id.0 d at c.in-Alias.ty is)) c.load_type.ensures.loads;
      flows = subst (λ (code : Flow). IfOk c.load_type.result (λ r. Flows m types code (c.args.address.now ∷ []) (r ∷ []) c.args.bindgen.now new)) (sym (load_alias_code types c.requires.down c.args.id d at c.args.offset c.in-Alias.ty is)) c.load_type.ensures.flows;
    }

pub load_id-returns-in_ok-operand-in-Record : goal.load_id-returns-in_ok-operand-in-Record
load_id-returns-in_ok-operand-in-Record g t c =
    let m = g.B.Bindgen.meaning in
    let types = c.args.resolve.now.types in
    let d = c.index-types-at.result in
    let at = entry_at types c.as_slice-types.result.now c.args.id.0 d c.as_slice-types.ensures c.requires.within c.index-types-at.is in
    let is = kind_at c.as_slice-types.result.now c.args.id.0 d (kind.Record c.in-Record.members) c.index-types-at.is c.in-Record.is in
    let members = c.in-Record.members in
    let same : c.as_slice-tys.result.now ≡ map (λ (f : Field). f.ty) members = c.as_slice-tys.ensures ∙ c.in_ok-tys-in-Record.ensures ∙ ap (map (λ (f : Field). f.ty)) c.as_slice.ensures in
    let loads = loads_parts_as m g.met.B.Bindgen.sound types _ _ _ _ c.in_ok-parts-in-Record.parts c.args.address.now c.args.offset 0 same c.in_ok-parts-in-Record.ensures.loads in
    let all = record_loads m g.met.B.Bindgen.sound types c.args.id members _ _ _ c.in_ok-parts-in-Record.parts c.args.address.now c.in_ok-operand-in-Record.operand c.args.offset (record { entry = d; at = at; kind = is }) loads c.in_ok-operand-in-Record.ensures in
    let code : ℕ → WitType → Flow = λ n ty. load_code types ty (beyond c.args.offset (place_in (tree_at types c.args.id.0) n)) in
    let address = c.args.address.now in
    let read = c.in_ok-parts-in-Record.parts in
    let all_code : Flow = each 1 (λ ty. 0) code 0 (map (λ (f : Field). f.ty) members) in
    let parts = flows_as m types (each 1 (λ ty. 0) code 0 c.as_slice-tys.result.now) all_code (address ∷ []) read _ _ (ap (each 1 (λ ty. 0) code 0) (sym same)) c.in_ok-parts-in-Record.ensures.flows in
    record {
      loads = loads_as m g.met.B.Bindgen.sound types _ _ _ _ _ c.in_ok-operand-in-Record.operand c.args.offset (record_shape types c.requires.down c.args.id.0 d at members is) all;
      flows = flows_as m types (all_code >>> emit (RecordLift c.args.id)) (load_code types (wit.Id c.args.id) c.args.offset) (address ∷ []) (c.in_ok-operand-in-Record.operand ∷ []) _ _ (load_record_code types c.requires.down c.args.id d at c.args.offset members is)
          (flows_then m types all_code (emit (RecordLift c.args.id)) (address ∷ []) read (c.in_ok-operand-in-Record.operand ∷ []) _ _ _ parts c.in_ok-operand-in-Record.ensures);
    }

pub load_id-returns-in_ok-operand-in-Tuple : goal.load_id-returns-in_ok-operand-in-Tuple
load_id-returns-in_ok-operand-in-Tuple g t c =
    let m = g.B.Bindgen.meaning in
    let types = c.args.resolve.now.types in
    let d = c.index-types-at.result in
    let at = entry_at types c.as_slice-types.result.now c.args.id.0 d c.as_slice-types.ensures c.requires.within c.index-types-at.is in
    let is = kind_at c.as_slice-types.result.now c.args.id.0 d (kind.Tuple c.in-Tuple.members) c.index-types-at.is c.in-Tuple.is in
    let tys = c.in-Tuple.members in
    let loads = loads_parts_as m g.met.B.Bindgen.sound types _ _ _ _ c.in_ok-parts-in-Tuple.parts c.args.address.now c.args.offset 0 c.as_slice-tys-in-Tuple.ensures c.in_ok-parts-in-Tuple.ensures.loads in
    let count = count-shapes types tys ∙ sym (c.part_count.ensures ∙ ap length c.as_slice-tys-in-Tuple.ensures) in
    let all = tuple_loads m g.met.B.Bindgen.sound types c.part_count.result (shapes_of types tys) _ _ _ c.in_ok-parts-in-Tuple.parts c.args.address.now c.in_ok-operand-in-Tuple.operand c.args.offset count loads c.in_ok-operand-in-Tuple.ensures in
    let many : length tys ≡ c.part_count.result = sym (c.part_count.ensures ∙ ap length c.as_slice-tys-in-Tuple.ensures) in
    let code : ℕ → WitType → Flow = λ n ty. load_code types ty (beyond c.args.offset (place_in (tree_at types c.args.id.0) n)) in
    let address = c.args.address.now in
    let read = c.in_ok-parts-in-Tuple.parts in
    let n = c.part_count.result in
    let all_code : Flow = each 1 (λ ty. 0) code 0 tys in
    let parts = flows_as m types (each 1 (λ ty. 0) code 0 c.as_slice-tys-in-Tuple.result.now) all_code (address ∷ []) read _ _ (ap (each 1 (λ ty. 0) code 0) (sym c.as_slice-tys-in-Tuple.ensures)) c.in_ok-parts-in-Tuple.ensures.flows in
    let whole = load_tuple_code types c.requires.down c.args.id d at c.args.offset tys is ∙ ap (λ n. all_code >>> emit (TupleLift n)) many in
    record {
      loads = loads_as m g.met.B.Bindgen.sound types _ _ _ _ _ c.in_ok-operand-in-Tuple.operand c.args.offset (tuple_shape types c.requires.down c.args.id.0 d at tys is) all;
      flows = flows_as m types (all_code >>> emit (TupleLift n)) (load_code types (wit.Id c.args.id) c.args.offset) (address ∷ []) (c.in_ok-operand-in-Tuple.operand ∷ []) _ _ whole
          (flows_then m types all_code (emit (TupleLift n)) (address ∷ []) read (c.in_ok-operand-in-Tuple.operand ∷ []) _ _ _ parts c.in_ok-operand-in-Tuple.ensures);
    }

pub load_parts-loop-i-init : goal.load_parts-loop-i-init
load_parts-loop-i-init g t c =
    let m = g.B.Bindgen.meaning in
    let types = c.args.resolve.now.types in
    let code : Flow = each 1 (λ ty. 0) (λ n ty. load_code types ty (beyond c.args.offset (place_in (tree_at types c.args.id.0) n))) 0 c.args.tys.now in
    record {
      adds = adds_same m _;
      count = ap length c.new-parts.ensures;
      flows = λ new gives h. subst (λ ps. Flows m types code (c.args.address.now ∷ []) (ps ++ gives) c.args.bindgen.now new) (sym c.new-parts.ensures) h;
      rest = λ new later h.
          subst (λ (ps : List g.row.B-Operand.Denot). LoadsParts m (shapes_of c.args.resolve.now.types c.args.tys.now) c.args.address.now c.args.offset 0 (ps ++ later) c.args.bindgen.now new) (sym c.new-parts.ensures) h;
    }

pub load_parts-load_type-requires : goal.load_parts-load_type-requires
load_parts-load_type-requires g t c κs within =
    let types = c.args.resolve.now.types in
    let short : c.loop-i.i < length c.args.tys.now = omega (arith, c.loop-i-test.true) in
    let low : rank (get_or c.args.tys.now c.loop-i.i wit.Bool) ≤ c.args.id.0 = part_ranked c.args.id.0 c.args.tys.now c.requires.below c.loop-i.i wit.Bool short in
    let below = part_below_table c.args.id.0 c.args.tys.now c.requires.below c.loop-i.i wit.Bool short (length types) c.requires.within in
    let knows = c.loop-i.invariant.adds.grows.knows types c.requires.knows in
    let tys = c.args.tys.now in
    let serves = part_served types tys c.loop-i.i wit.Bool c.requires.serves short in
    let writes = writes_later g.B.Bindgen.meaning types _ _ (get_or tys c.loop-i.i wit.Bool) c.loop-i.invariant.adds.grows (one_written g.B.Bindgen.meaning types c.args.bindgen.now tys c.loop-i.i wit.Bool c.requires.writes short) in
    let found = c.part_place-place.ensures types c.requires.parts.0 knows c.requires.parts.1 (no_alias 3 types c.args.id.0 tys c.requires.parts) in
    let ends = part_ends types tys c.loop-i.i wit.Bool short c.args.id c.requires.down c.requires.parts c.args.offset c.requires.low c.part_place-place.result found.0 found.1 found.2 in
    (omega (arith, low), (within.0, (within.1, (c.requires.well, (c.requires.down, (below, (knows, (serves, (writes, ends)))))))))

pub load_parts-part_place-place-requires : goal.load_parts-part_place-place-requires
load_parts-part_place-place-requires g t c =
    let types = c.args.resolve.now.types in
    let short : c.loop-i.i < length c.args.tys.now = omega (arith, c.loop-i-test.true) in
    let knows = c.loop-i.invariant.adds.grows.knows types c.requires.knows in
    (types, knows, part_low types c.args.tys.now c.loop-i.i wit.Bool short c.args.id c.requires.down c.requires.parts c.args.offset c.requires.low)

pub load_parts-loop-i-preserved : goal.load_parts-loop-i-preserved
load_parts-loop-i-preserved g t c =
    let m = g.B.Bindgen.meaning in
    let types = c.args.resolve.now.types in
    let tys = c.args.tys.now in
    let i = c.loop-i.i in
    let short : i < length tys = omega (arith, c.loop-i-test.true) in
    let knows = c.loop-i.invariant.adds.grows.knows types c.requires.knows in
    let tree = tree_at types c.args.id.0 in
    let found = c.part_place-place.ensures types c.requires.parts.0 knows c.requires.parts.1 (no_alias m.width types c.args.id.0 tys c.requires.parts) in
    let place = place_told m.width c.part_place-place.result c.args.offset found.0 (λ w. slice_index (field_offsets w tree) i) g.met.B.Bindgen.sound.wide found.1 found.2 in
    let here = ap (load_code types (get_or tys i wit.Bool)) (sym (place_sent c.part_place-place.result c.args.offset found.0 tree i found.1 found.2)) in
    let address = c.args.address.now in
    let part = c.in_ok-part.part in
    let code : ℕ → WitType → Flow = λ n ty. load_code types ty (beyond c.args.offset (place_in tree n)) in
    let flow = flows_as m types (load_code types (get_or tys i wit.Bool) c.part_place-place.result) (code i (get_or tys i wit.Bool)) (address ∷ []) (part ∷ []) c.loop-i.bindgen c.load_type.new.bindgen here c.in_ok-part.ensures.flows in
    record {
      adds = adds_both m _ _ _ c.loop-i.invariant.adds c.in_ok-part.ensures.loads.adds;
      flows = flows_next m types 1 (λ ty. 0) code (address ∷ []) tys (address ∷ []) c.args.bindgen.now i wit.Bool [] [] c.loop-i.parts (part ∷ []) c.push.new.self c.loop-i.bindgen c.load_type.new.bindgen short refl refl c.in_ok-push.ensures.ok flow c.loop-i.invariant.flows;
      count = ap length c.in_ok-push.ensures.ok ∙ length-append c.loop-i.parts (c.in_ok-part.part ∷ []) ∙ ap (λ n. n + 1) c.loop-i.invariant.count;
      rest = rest_next m g.met.B.Bindgen.sound types tys c.args.address.now c.args.offset c.part_place-place.result i c.loop-i.parts c.push.new.self _ _ _ (get_or tys i wit.Bool) c.in_ok-part.part
          (drop_more tys i wit.Bool short)
          (behind_next m.width types tys i wit.Bool short)
          (place ∙ ap (λ n. bytes_at c.args.offset (2 ^ m.width) + n) (part_offset m.width types c.args.id tys i wit.Bool c.requires.down c.requires.parts short))
          c.in_ok-part.ensures.loads c.in_ok-push.ensures.ok c.loop-i.invariant.rest;
    }

pub load_parts-returns-clause-loads : goal.load_parts-returns-clause-loads
load_parts-returns-clause-loads g t c =
    let m = g.B.Bindgen.meaning in
    let ended : length c.args.tys.now ≤ c.loop-i.i = omega (arith, c.loop-i-test.false) in
    rest_last m g.met.B.Bindgen.sound c.args.resolve.now.types c.args.tys.now c.args.address.now c.args.offset c.loop-i.i c.loop-i.parts _ _ ended c.loop-i.invariant.rest

pub load_parts-returns-clause-flows : goal.load_parts-returns-clause-flows
load_parts-returns-clause-flows g t c =
    let types = c.args.resolve.now.types in
    let ended : length c.args.tys.now ≤ c.loop-i.i = omega (arith, c.loop-i-test.false) in
    let code : ℕ → WitType → Flow = λ n ty. load_code types ty (beyond c.args.offset (place_in (tree_at types c.args.id.0) n)) in
    flows_last g.B.Bindgen.meaning types 1 (λ ty. 0) code (c.args.address.now ∷ []) c.args.tys.now (c.args.address.now ∷ []) c.args.bindgen.now c.loop-i.i c.loop-i.parts [] _ ended c.loop-i.invariant.flows

pub load_id-load_variant-requires : goal.load_id-load_variant-requires
load_id-load_variant-requires g t c κs within =
    let types = c.args.resolve.now.types in
    let d = c.index-types-at.result in
    let at = entry_at types c.as_slice-types.result.now c.args.id.0 d c.as_slice-types.ensures c.requires.within c.index-types-at.is in
    let k = (get_or c.as_slice-types.result.now c.args.id.0 d).kind in
    let here : IsKindOf types c.args.id.0 k = record { entry = d; stands = at; kind = ap (λ (x : TypeDef). x.kind) c.index-types-at.is } in
    let cases : has_cases k ≡ true = ap has_cases c.in-Variant.is in
    (omega arith, (within.0, (within.1, (c.requires.well, (c.requires.down, (here, (cases, (c.requires.knows, (c.requires.serves, (c.requires.writes, c.requires.low))))))))))

pub load_id-load_variant-requires-in-Option : goal.load_id-load_variant-requires-in-Option
load_id-load_variant-requires-in-Option g t c κs within =
    let types = c.args.resolve.now.types in
    let d = c.index-types-at.result in
    let at = entry_at types c.as_slice-types.result.now c.args.id.0 d c.as_slice-types.ensures c.requires.within c.index-types-at.is in
    let k = (get_or c.as_slice-types.result.now c.args.id.0 d).kind in
    let here : IsKindOf types c.args.id.0 k = record { entry = d; stands = at; kind = ap (λ (x : TypeDef). x.kind) c.index-types-at.is } in
    let cases : has_cases k ≡ true = ap has_cases c.in-Option.is in
    (omega arith, (within.0, (within.1, (c.requires.well, (c.requires.down, (here, (cases, (c.requires.knows, (c.requires.serves, (c.requires.writes, c.requires.low))))))))))

pub load_id-load_variant-requires-in-Result : goal.load_id-load_variant-requires-in-Result
load_id-load_variant-requires-in-Result g t c κs within =
    let types = c.args.resolve.now.types in
    let d = c.index-types-at.result in
    let at = entry_at types c.as_slice-types.result.now c.args.id.0 d c.as_slice-types.ensures c.requires.within c.index-types-at.is in
    let k = (get_or c.as_slice-types.result.now c.args.id.0 d).kind in
    let here : IsKindOf types c.args.id.0 k = record { entry = d; stands = at; kind = ap (λ (x : TypeDef). x.kind) c.index-types-at.is } in
    let cases : has_cases k ≡ true = ap has_cases c.in-Result.is in
    (omega arith, (within.0, (within.1, (c.requires.well, (c.requires.down, (here, (cases, (c.requires.knows, (c.requires.serves, (c.requires.writes, c.requires.low))))))))))

pub load_variant-load_cases-requires : goal.load_variant-load_cases-requires
load_variant-load_cases-requires g t c κs within =
    let m = g.B.Bindgen.meaning in
    let types = c.args.resolve.now.types in
    let d = c.requires.here.entry in
    let at = c.requires.here.stands in
    let k = c.args.kind.now in
    let is : d.kind ≡ k = c.requires.here.kind in
    let same = c.as_slice-tys.ensures ∙ c.in_ok-payloads.ensures in
    let below = subst (λ (ps : List (Option WitType)). list_all (λ p. payload_below c.args.id.0 p) ps ≡ true) (sym same) (variant_below types c.requires.down c.args.id.0 k (record { entry = d; stands = at; kind = is }) c.requires.cases) in
    let loaded = number_load_adds m g.met.B.Bindgen.sound types (discriminant_grain (length c.as_slice-tys.result.now)) c.args.offset (c.args.address.now ∷ []) (c.in_ok-tag.tag ∷ []) _ _ c.in_ok-tag.ensures in
    let knows = loaded.grows.knows types c.requires.knows in
    let shape = variant_shape types c.requires.down c.args.id.0 k c.requires.here c.requires.cases ∙ ap (λ (ps : List (Option WitType)). cases (payloads_in (shapes types) ps)) (sym same) in
    let tys = c.as_slice-tys.result.now in
    let serves = payloads_served types c.args.id.0 tys shape c.requires.serves in
    let writes = subst (λ (ps : List (Option WitType)). AllByRecursion (λ (p : Option WitType). WritesPart m types p c.load_tag.new.bindgen) ps) (sym same) (payloads_written m types c.args.id d at c.load_tag.new.bindgen (writes_later m types _ _ (wit.Id c.args.id) loaded.grows c.requires.writes) k c.requires.cases is) in
    let place = c.payload_place-place.ensures types d c.requires.knows at (ap is_alias is ∙ cases_no_alias 3 types k c.requires.cases) in
    let low = payloads_low types c.args.id (payloads_in (shapes types) tys) shape c.args.offset c.requires.low c.payload_place-place.result place.0 place.1 place.2 in
    (omega arith, (within.0, (within.1, (c.requires.well, (c.requires.down, ((slice_get_within types c.args.id.0 d at), (below, (knows, (serves, (writes, low))))))))))

pub load_variant-payload_place-place-requires : goal.load_variant-payload_place-place-requires
load_variant-payload_place-place-requires g t c =
    let types = c.args.resolve.now.types in
    let here = c.requires.here in
    let k = c.args.kind.now in
    let own = ap is_alias here.kind ∙ cases_no_alias 3 types k c.requires.cases in
    let shape = variant_shape types c.requires.down c.args.id.0 k here c.requires.cases in
    (types, c.requires.knows, payload_begins types c.args.id (payloads_in (shapes types) (payloads_of k)) shape c.args.offset c.requires.low here.entry here.stands own)

pub load_variant-send_one-requires-clause-ready : goal.load_variant-send_one-requires-clause-ready
load_variant-send_one-requires-clause-ready g t c =
    let m = g.B.Bindgen.meaning in
    let types = c.args.resolve.now.types in
    let d = c.requires.here.entry in
    let at = c.requires.here.stands in
    let k = c.args.kind.now in
    let is : d.kind ≡ k = c.requires.here.kind in
    let same = c.as_slice-tys.ensures ∙ c.in_ok-payloads.ensures in
    let tys = c.as_slice-tys.result.now in
    let loads = c.in_ok-load_cases.ensures.loads in
    let finished = are_finished m (result_counts tys) loads.bodies _ _ loads.adds in
    let has = subst (λ (ps : List (Option WitType)). HasBlocks m (reverse (result_counts ps)) c.load_cases.new.bindgen) same finished in
    let loaded = number_load_adds m g.met.B.Bindgen.sound types (discriminant_grain (length tys)) c.args.offset (c.args.address.now ∷ []) (c.in_ok-tag.tag ∷ []) _ _ c.in_ok-tag.ensures in
    let writes = loads.adds.resumes.writes types c.args.id.0 (loaded.grows.writes types c.args.id.0 (c.requires.writes c.args.id reaches_itself)) in
    let ready = subst (λ (i : Instruction). IsSendable m c.args.resolve.now i (c.in_ok-tag.tag ∷ []) c.load_cases.new.bindgen) (sym c.case_lifting-lift.ensures)
    (lifting_sendable m c.args.resolve.now c.requires.well c.requires.down c.args.id c.in_ok-tag.tag _ writes k (record { entry = d; stands = at; kind = is }) c.requires.cases has) in
    subst (λ (os : List g.row.B-Operand.Denot). IsSendable m c.args.resolve.now c.case_lifting-lift.result os c.load_cases.new.bindgen) (sym c.in_ok-operands.ensures) ready

pub load_variant-send_one-requires-clause-makes : goal.load_variant-send_one-requires-clause-makes
load_variant-send_one-requires-clause-makes g t c =
    let k = c.args.kind.now in
    λ n h. lifting_makes c.args.resolve.now.types k c.args.id n (subst (λ (i : Instruction). Makes c.args.resolve.now.types i n) c.case_lifting-lift.ensures h)

pub load_variant-returns : goal.load_variant-returns
load_variant-returns g t c =
    let m = g.B.Bindgen.meaning in
    let types = c.args.resolve.now.types in
    let d = c.requires.here.entry in
    let at = c.requires.here.stands in
    let k = c.args.kind.now in
    let is : d.kind ≡ k = c.requires.here.kind in
    let same = c.as_slice-tys.ensures ∙ c.in_ok-payloads.ensures in
    let has = c.requires.cases in
    let lift = case_lifting k c.args.id in
    let tys = c.as_slice-tys.result.now in
    let tag = c.in_ok-tag.tag in
    let found = c.payload_place-place.ensures types d c.requires.knows at (ap is_alias is ∙ cases_no_alias m.width types k has) in
    let shape = variant_shape types c.requires.down c.args.id.0 k c.requires.here has ∙ ap (λ (ps : List (Option WitType)). cases (payloads_in (shapes types) ps)) (sym same) in
    let most = few_payloads types c.args.id.0 tys shape c.requires.serves in
    let sent = subst (λ (i : Instruction). Emits m types i c.in_ok-operands.operands (c.in_ok-operand.operand ∷ []) c.load_cases.new.bindgen c.send_one.new.bindgen) c.case_lifting-lift.ensures c.in_ok-operand.ensures in
    let e = subst (λ (os : List g.row.B-Operand.Denot). Emits m types lift os (c.in_ok-operand.operand ∷ []) c.load_cases.new.bindgen c.send_one.new.bindgen) c.in_ok-operands.ensures sent in
    loaded_variant m g.met.B.Bindgen.sound types c.requires.down c.args.id d at k has is c.args.address.now tag c.in_ok-operand.operand c.args.offset c.payload_place-place.result found tys same most _ _ _ _ c.in_ok-tag.ensures
    c.in_ok-load_cases.ensures.loads c.in_ok-load_cases.ensures.flows e

pub load_cases-loop-i-init : goal.load_cases-loop-i-init
load_cases-loop-i-init g t c =
    let m = g.B.Bindgen.meaning in
    record { resumes = resumes_same m _; flows = λ new gives h. h; rest = λ new h. h }

pub load_cases-load_case-requires : goal.load_cases-load_case-requires
load_cases-load_case-requires g t c κs within =
    let short : c.loop-i.i < length c.args.payloads.now = omega (arith, c.loop-i-test.true) in
    let below = payload_low c.args.id.0 c.args.payloads.now c.requires.below c.loop-i.i None short in
    let knows = c.loop-i.invariant.resumes.knows c.args.resolve.now.types c.requires.knows in
    let serves = payload_served c.args.resolve.now.types c.args.payloads.now c.loop-i.i None c.requires.serves short in
    let writes = part_resumed g.B.Bindgen.meaning c.args.resolve.now.types _ _ (get_or c.args.payloads.now c.loop-i.i None) c.loop-i.invariant.resumes (payload_written g.B.Bindgen.meaning c.args.resolve.now.types c.args.bindgen.now c.args.payloads.now c.loop-i.i None c.requires.writes short) in
    let low = payload_ends (shapes c.args.resolve.now.types) c.args.payloads.now c.loop-i.i None c.args.place c.requires.low short in
    (omega arith, (within.0, (within.1, (c.requires.well, (c.requires.down, (c.requires.within, (below, (knows, (serves, (writes, low))))))))))

pub load_cases-loop-i-preserved : goal.load_cases-loop-i-preserved
load_cases-loop-i-preserved g t c =
    let m = g.B.Bindgen.meaning in
    let types = c.args.resolve.now.types in
    let ps = c.args.payloads.now in
    let i = c.loop-i.i in
    let short : i < length ps = omega (arith, c.loop-i-test.true) in
    let one = c.in_ok-load_case.ensures in
    let code : ℕ → Option WitType → Flow = λ n p. in_block (at_payload c.args.place (option_map (λ ty. (ty, load_code types ty)) p)) in
    let reads = c.args.address.now ∷ [] in
    record {
      resumes = resumes_both m _ _ _ c.loop-i.invariant.resumes one.loads.adds.resumes;
      flows = flows_next m types 1 (λ payload. 0) code reads ps reads c.args.bindgen.now i None [] [] [] [] [] c.loop-i.bindgen c.load_case.new.bindgen short refl refl refl one.flows c.loop-i.invariant.flows;
      rest = next_case m g.met.B.Bindgen.sound types ps c.args.address.now c.args.place i _ _ _ (get_or ps i None) (drop_more ps i None short) one.loads c.loop-i.invariant.rest;
    }

pub load_cases-returns : goal.load_cases-returns
load_cases-returns g t c =
    let m = g.B.Bindgen.meaning in
    let types = c.args.resolve.now.types in
    let ps = c.args.payloads.now in
    let ended : length ps ≤ c.loop-i.i = omega (arith, c.loop-i-test.false) in
    let code : ℕ → Option WitType → Flow = λ n p. in_block (at_payload c.args.place (option_map (λ ty. (ty, load_code types ty)) p)) in
    let reads = c.args.address.now ∷ [] in
    record {
      loads = last_case m g.met.B.Bindgen.sound types ps c.args.address.now c.args.place c.loop-i.i _ _ ended c.loop-i.invariant.rest;
      flows = flows_last m types 1 (λ payload. 0) code reads ps reads c.args.bindgen.now c.loop-i.i [] [] _ ended c.loop-i.invariant.flows;
    }

pub load_case-load_payload-requires : goal.load_case-load_payload-requires
load_case-load_payload-requires g t c κs within =
    let below = payload_type_low c.args.id.0 c.in-Some.ty (subst (λ (p : Option WitType). payload_below c.args.id.0 p ≡ true) c.in-Some.is c.requires.below) in
    let ss = shapes c.args.resolve.now.types in
    let serves = subst (λ (p : Option WitType). Serves (payload_in ss p)) c.in-Some.is c.requires.serves in
    let writes = subst (λ (p : Option WitType). WritesPart g.B.Bindgen.meaning c.args.resolve.now.types p c.args.bindgen.now) c.in-Some.is c.requires.writes in
    let low = subst (λ (p : Option WitType). EndsLow (payload_in ss p) c.args.place) c.in-Some.is c.requires.low in
    (omega arith, (within.0, (within.1, (c.requires.well, (c.requires.down, (c.requires.within, (below, (c.requires.knows, (serves, (writes, low))))))))))

pub load_case-returns-in_ok-empty_block-in-None : goal.load_case-returns-in_ok-empty_block-in-None
load_case-returns-in_ok-empty_block-in-None g t c =
    let m = g.B.Bindgen.meaning in
    let block = c.in_ok-empty_block-in-None.ensures in
    let types = c.args.resolve.now.types in
    let bare = bare_loads m g.met.B.Bindgen.sound c.args.address.now c.args.place _ _ _ block.1 block.2 in
    let end = c.empty_block.new.bindgen in
    let empty = flows_block m types leave_none (c.args.address.now ∷ []) [] c.args.bindgen.now block.0 block.0 end block.1 (refl, refl) block.2 in
    record {
      loads = subst (λ (p : Option WitType). LoadsCase m (length (option_to_list p)) (payload_in (shapes types) p) c.args.address.now c.args.place c.args.bindgen.now end) (sym c.in-None.is) bare;
      flows = subst (λ (p : Option WitType). Flows m types (in_block (at_payload c.args.place (option_map (λ ty. (ty, load_code types ty)) p))) (c.args.address.now ∷ []) [] c.args.bindgen.now end) (sym c.in-None.is) empty;
    }

pub load_payload-load_type-requires : goal.load_payload-load_type-requires
load_payload-load_type-requires g t c κs within =
    let types = c.args.resolve.now.types in
    let low : rank c.args.ty ≤ c.args.id.0 = type_ranked c.args.id.0 c.args.ty c.requires.below in
    let below = type_below_table c.args.id.0 (length types) c.args.ty c.requires.below c.requires.within in
    let writes : Writes g.B.Bindgen.meaning types c.args.ty c.push_block.new.self = λ id reached. c.in_ok-push_block.ensures.lasts.writes types id.0 (c.requires.writes id reached) in
    let knows = c.in_ok-push_block.ensures.lasts.knows types c.requires.knows in
    (omega (arith, low), (within.0, (within.1, (c.requires.well, (c.requires.down, (below, (knows, (c.requires.serves, (writes, c.requires.low)))))))))

pub load_payload-finish_block-requires : goal.load_payload-finish_block-requires
load_payload-finish_block-requires g t c =
    let m = g.B.Bindgen.meaning in
    let begins = c.in_ok-push_block.ensures in
    record { «open» = record { slot = begins.slot; suspended = m.code c.args.bindgen.now; outer = m.opened c.args.bindgen.now; opened = c.in_ok-value.ensures.loads.adds.grows.opened ∙ begins.opened } }

pub load_payload-returns : goal.load_payload-returns
load_payload-returns g t c =
    let m = g.B.Bindgen.meaning in
    let types = c.args.resolve.now.types in
    let begins = c.in_ok-push_block.ensures in
    let part = c.in_ok-value.ensures in
    let some = payload_some c.args.resolve.now c.requires.well c.args.ty (type_below_table c.args.id.0 (length types) c.args.ty c.requires.below c.requires.within) in
    let ends = subst (λ (os : List g.row.B-Operand.Denot). Finishes m os c.load_type.new.bindgen c.finish_block.new.self) c.in_ok-results.ensures c.in_ok-finish_block.ensures in
    record {
      loads = payload_loads m g.met.B.Bindgen.sound (shape_of types c.args.ty) some c.args.address.now c.in_ok-value.value c.args.place _ _ _ _ begins part.loads ends;
      flows = flows_block m types (load_code types c.args.ty c.args.place) (c.args.address.now ∷ []) (c.in_ok-value.value ∷ []) _ _ _ _ begins part.flows ends;
    }
