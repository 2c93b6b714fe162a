use Rattle.std.proofs.Common.{◌≡◌, ℕ, ◌<◌, ◌≤◌, ◌+◌, ◌^◌, true, List, [], ◌∷◌, length, map, replicate, get_or, option_map, OnOk, Option, None, refl, sym, ap, ◌∙◌, subst, arith, drop, Some}
use Rattle.std.specs.List.{AllByRecursion, list_all, slice_index}
use Rattle.std.proofs.lemmas.Bool.{ltb-true}
use Rattle.std.proofs.lemmas.List.{drop_more, length-map}
use Rattle.std.proofs.lemmas.Option.{slice_get_within}
use Rattle.wit_model.specs.declared.size.ArchitectureSize.{ArchitectureSize}
use Rattle.wit_model.specs.Size.{bytes_at}
use Rattle.wit_model.specs.Reaches.{reaches_itself}
use Rattle.wit_model.specs.TypeOrder.{payload_below, type_below}
use Rattle.wit_model.specs.declared.types.Field.{Field}
use Rattle.wit_model.specs.declared.types.TypeDef.{TypeDef}
use Rattle.wit_model.specs.declared.types.TypeDefKind.TheVariants as kind
use Rattle.wit_model.specs.declared.types.WitType.{WitType}
use Rattle.wit_model.specs.declared.types.WitType.TheVariants as wit
use Rattle.wit_layout.proofs.FlattenSteps.{rank}
use Rattle.wit_layout.specs.Extent.{discriminant_grain}
use Rattle.wit_layout.specs.Sizes.{field_offsets}
use Rattle.wit_layout.specs.Told.{is_alias}
use Rattle.wit_layout.specs.Tree.{tree_at}
use Rattle.abi_bindgen.specs.declared.instruction.Instruction.{Instruction}
use Rattle.abi_bindgen.specs.declared.instruction.Instruction.TheVariants.{TupleLower, VariantPayloadName, RecordLower}
use Rattle.wrapper_meaning.specs.Shape.{Shape, payload_in, payloads_in, shape_of, shapes}
use Rattle.wrapper_meaning.specs.Shape.Shape.{cases}
use Rattle.abi_bindgen.specs.Cases.{payloads_of}
use Rattle.abi_bindgen.specs.Code.{beyond, place_in, store_case, store_code, behind_address, store_number}
use Rattle.abi_bindgen.specs.HasList.{IsKindOf}
use Rattle.abi_bindgen.specs.Instructions.{Emits, HasBlocks, IsSendable, shapes_of, has_cases}
use Rattle.abi_bindgen.specs.NumberTouches.{tag_store}
use Rattle.abi_bindgen.specs.Parts.{count}
use Rattle.abi_bindgen.specs.Places.{HasParts, IsOfParts}
use Rattle.abi_bindgen.specs.Served.{Serves, ServesAll}
use Rattle.abi_bindgen.specs.Written.{Writes, WritesEach, WritesPart}
use Rattle.abi_bindgen.specs.Flow.{Flow, emit, in_block, leading, both, alone, ◌>>>◌, each}
use Rattle.abi_bindgen.specs.Flows.{Flows}
use Rattle.abi_driver.specs.Low.{EndsLow}
use Rattle.abi_driver.specs.StoredCases.{StoresCase}
use Rattle.abi_driver.specs.Stores.{LowersToMemory}
use Rattle.abi_driver.proofs.CaseInstructions.{lowering_sendable}
use Rattle.abi_driver.proofs.Tags.{tag_grain_small, tag_kept}
use Rattle.abi_bindgen.proofs.Payloads.{count_payloads, payload_some, variant_below, variant_shape}
use Rattle.abi_bindgen.proofs.Serving.{alias_served, enum_served, few_payloads, other_refused, part_served, payload_served, payloads_served, record_served, tuple_served}
use Rattle.abi_bindgen.proofs.Writing.{alias_written, each_later, one_written, payload_written, payloads_written, record_written, tuple_written, writes_later}
use Rattle.abi_driver.proofs.LowPlaces.{part_ends, part_low, payload_ends, payload_low as payload_begins, payloads_low}
use Rattle.abi_driver.proofs.NumberWords.{number_store_adds}
use Rattle.abi_driver.proofs.CaseSteps.{are_finished, part_resumed, resumes_both, resumes_same, same_back, side_opened, side_resumed}
use Rattle.abi_driver.proofs.CaseStores.{payload_case, rest_last as last_case, rest_next as next_case}
use Rattle.abi_driver.proofs.VariantStores.{stored_variant}
use Rattle.abi_driver.proofs.MemoryCode.{store_alias_code, store_record_code, store_tuple_code}
use Rattle.abi_driver.proofs.PartOffsets.{behind_next, cases_no_alias, no_alias, part_offset, place_sent}
use Rattle.abi_driver.proofs.RecordPlaces.{place_told}
use Rattle.abi_driver.proofs.StoreSteps.{record_stores, rest_last, rest_next, stores_as, stores_parts_as, tuple_stores}
use Rattle.abi_bindgen.proofs.Records.{alias_below, alias_rank, alias_shape, count-shapes, drop-same, entry_at, kind_at, part_below_table, part_ranked, payload_low, payload_type_low, record_below, record_shape, tuple_below, tuple_shape, tuple_short, type_below_table, type_ranked}
use Rattle.abi_bindgen.proofs.Runs.{adds_both, adds_same, side_later}
use Rattle.abi_bindgen.proofs.FlowSteps.{FlowsOn, flows_as, flows_then, flows_both, flows_alone, flows_block, flows_next, flows_last}
use Rattle.abi_driver.proofs.FlowStores.{flows_numbered, flows_behind_address}
use Rattle.abi_driver.proofs.memory.store.+store.Goals as goal

pub store_type-store_scalar-requires : goal.store_type-store_scalar-requires
store_type-store_scalar-requires g t c = sym c.scalar_lowering.ensures ∙ c.in-Some.is

pub store_type-returns-in-Some : goal.store_type-returns-in-Some
store_type-returns-in-Some g t c = record { stores = c.store_scalar.ensures.stores c.args.realloc; flows = c.store_scalar.ensures.flows c.args.realloc }

pub store_type-store_id-requires : goal.store_type-store_id-requires
unfolding type_below
store_type-store_id-requires g t c κs within =
    let n = length c.args.resolve.now.types in
    let deep : rank c.args.ty ≡ c.in-Id.id.0 + 1 = ap rank c.in-Id.is ∙ omega arith in
    let inside : c.in-Id.id.0 < n = ltb-true c.in-Id.id.0 n (ap (type_below n) (sym c.in-Id.is) ∙ c.requires.below) in
    let types = c.args.resolve.now.types in
    let serves = subst (λ (ty : WitType). Serves (shape_of types ty)) c.in-Id.is c.requires.serves in
    let writes = subst (λ (ty : WitType). Writes g.B.Bindgen.meaning types ty c.args.bindgen.now) c.in-Id.is c.requires.writes in
    let low = subst (λ (ty : WitType). EndsLow (shape_of types ty) c.args.offset) c.in-Id.is c.requires.low in
    (omega arith, (within.0, (within.1, (c.requires.well, (c.requires.down, (inside, (c.requires.side, (c.requires.knows, (serves, (writes, low))))))))))

pub store_type-store_text-requires : goal.store_type-store_text-requires
store_type-store_text-requires g t c =
    let types = c.args.resolve.now.types in
    record { side = c.requires.side; low = subst (λ (ty : WitType). EndsLow (shape_of types ty) c.args.offset) c.in-String.is c.requires.low }

pub store_type-returns-in-String : goal.store_type-returns-in-String
store_type-returns-in-String g t c =
    let m = g.B.Bindgen.meaning in
    let types = c.args.resolve.now.types in
    let new = c.store_text.new.bindgen in
    record {
      stores = subst (λ (ty : WitType). OnOk c.store_text.result (LowersToMemory m c.args.realloc (shape_of types ty) c.args.value c.args.address.now c.args.offset c.args.bindgen.now new)) (sym c.in-String.is) c.store_text.ensures.stores;
      flows = subst (λ (ty : WitType). OnOk c.store_text.result (Flows m types (store_code types c.args.realloc ty c.args.offset) (c.args.address.now ∷ c.args.value ∷ []) [] c.args.bindgen.now new)) (sym c.in-String.is) c.store_text.ensures.flows;
    }

pub store_type-returns-in-Id : goal.store_type-returns-in-Id
store_type-returns-in-Id g t c =
    let m = g.B.Bindgen.meaning in
    let types = c.args.resolve.now.types in
    let new = c.store_id.new.bindgen in
    record {
      stores = subst (λ (ty : WitType). OnOk c.store_id.result (LowersToMemory m c.args.realloc (shape_of types ty) c.args.value c.args.address.now c.args.offset c.args.bindgen.now new)) (sym c.in-Id.is) c.store_id.ensures.stores;
      flows = subst (λ (ty : WitType). OnOk c.store_id.result (Flows m types (store_code types c.args.realloc ty c.args.offset) (c.args.address.now ∷ c.args.value ∷ []) [] c.args.bindgen.now new)) (sym c.in-Id.is) c.store_id.ensures.flows;
    }

pub store_id-store_type-requires : goal.store_id-store_type-requires
store_id-store_type-requires g t c κs within =
    let types = c.args.resolve.now.types in
    let d = c.index-types-at.result in
    let at = entry_at types c.as_slice-types.result.now c.args.id.0 d c.as_slice-types.ensures c.requires.within c.index-types-at.is in
    let is = kind_at c.as_slice-types.result.now c.args.id.0 d (kind.Alias c.in-Alias.ty) c.index-types-at.is c.in-Alias.is in
    let low : rank c.in-Alias.ty ≤ c.args.id.0 = alias_rank types c.requires.down c.args.id.0 d at c.in-Alias.ty is in
    let below = alias_below types c.requires.down c.args.id.0 d at c.in-Alias.ty is c.requires.within in
    let serves = alias_served types c.requires.down c.args.id.0 d at c.requires.serves c.in-Alias.ty is in
    let writes = alias_written g.B.Bindgen.meaning types c.args.id d at c.args.bindgen.now c.requires.writes c.in-Alias.ty is in
    let ends = subst (λ (s : Shape). EndsLow s c.args.offset) (alias_shape types c.requires.down c.args.id.0 d at c.in-Alias.ty is) c.requires.low in
    (omega (arith, low), (within.0, (within.1, (c.requires.well, (c.requires.down, (below, (c.requires.side, (c.requires.knows, (serves, (writes, ends))))))))))

pub store_id-lower_by-requires : goal.store_id-lower_by-requires
store_id-lower_by-requires g t c =
    let types = c.args.resolve.now.types in
    let d = c.index-types-at.result in
    let at = entry_at types c.as_slice-types.result.now c.args.id.0 d c.as_slice-types.ensures c.requires.within c.index-types-at.is in
    let is = kind_at c.as_slice-types.result.now c.args.id.0 d (kind.Record c.in-Record.members) c.index-types-at.is c.in-Record.is in
    record { built = refl; operands = refl; suits = (c.in-Record.members, record { entry = d; at = at; kind = is }, c.requires.writes c.args.id reaches_itself) }

pub store_id-store_parts-requires : goal.store_id-store_parts-requires
store_id-store_parts-requires g t c κs within =
    let m = g.B.Bindgen.meaning in
    let types = c.args.resolve.now.types in
    let d = c.index-types-at.result in
    let at = entry_at types c.as_slice-types.result.now c.args.id.0 d c.as_slice-types.ensures c.requires.within c.index-types-at.is in
    let is = kind_at c.as_slice-types.result.now c.args.id.0 d (kind.Record c.in-Record.members) c.index-types-at.is c.in-Record.is in
    let members = c.in-Record.members in
    let read = c.as_slice-tys.result.now in
    let same : read ≡ map (λ (f : Field). f.ty) members = c.as_slice-tys.ensures ∙ c.in_ok-tys-in-Record.ensures ∙ ap (map (λ (f : Field). f.ty)) c.as_slice.ensures in
    let below = subst (λ (xs : List WitType). list_all (λ ty. type_below c.args.id.0 ty) xs ≡ true) (sym same) (record_below types c.requires.down c.args.id.0 d at members is) in
    let made = c.in_ok-parts-in-Record.ensures.results members (record { entry = d; at = at; kind = is }) in
    let enough : length c.in_ok-parts-in-Record.parts ≡ length read = made ∙ sym (ap length same ∙ length-map members (λ (f : Field). f.ty)) in
    let side = side_later m _ _ c.args.realloc c.in_ok-parts-in-Record.ensures.adds.grows c.requires.side in
    let knows = c.in_ok-parts-in-Record.ensures.adds.grows.knows types c.requires.knows in
    let parts : HasParts types c.args.id.0 read = (d, at, subst (λ k. IsOfParts k read) (sym is) same) in
    let serves = subst (λ (xs : List WitType). ServesAll (shapes_of types xs)) (sym same) (record_served types c.requires.down c.args.id.0 d at c.requires.serves members is) in
    let writes = each_later m types _ _ read c.in_ok-parts-in-Record.ensures.adds.grows (subst (λ (xs : List WitType). WritesEach m types xs c.args.bindgen.now) (sym same) (record_written m types c.args.id d at c.args.bindgen.now c.requires.writes members is)) in
    (omega arith, (within.0, (within.1, (c.requires.well, (c.requires.down, (c.requires.within, (below, (parts, (enough, (side, (knows, (serves, (writes, c.requires.low)))))))))))))

pub store_id-lower_by-requires-in-Tuple : goal.store_id-lower_by-requires-in-Tuple
store_id-lower_by-requires-in-Tuple g t c = record { built = refl; operands = refl; suits = tt }

pub store_id-store_parts-requires-in-Tuple : goal.store_id-store_parts-requires-in-Tuple
store_id-store_parts-requires-in-Tuple g t c κs within =
    let m = g.B.Bindgen.meaning in
    let types = c.args.resolve.now.types in
    let d = c.index-types-at.result in
    let at = entry_at types c.as_slice-types.result.now c.args.id.0 d c.as_slice-types.ensures c.requires.within c.index-types-at.is in
    let is = kind_at c.as_slice-types.result.now c.args.id.0 d (kind.Tuple c.in-Tuple.members) c.index-types-at.is c.in-Tuple.is in
    let read = c.as_slice-tys-in-Tuple.result.now in
    let below = subst (λ (xs : List WitType). list_all (λ ty. type_below c.args.id.0 ty) xs ≡ true) (sym c.as_slice-tys-in-Tuple.ensures) (tuple_below types c.requires.down c.args.id.0 d at c.in-Tuple.members is) in
    let enough : length c.in_ok-parts-in-Tuple.parts ≡ length read = c.in_ok-parts-in-Tuple.ensures.results ∙ c.part_count.ensures in
    let side = side_later m _ _ c.args.realloc c.in_ok-parts-in-Tuple.ensures.adds.grows c.requires.side in
    let knows = c.in_ok-parts-in-Tuple.ensures.adds.grows.knows types c.requires.knows in
    let parts : HasParts types c.args.id.0 read = (d, at, subst (λ k. IsOfParts k read) (sym is) c.as_slice-tys-in-Tuple.ensures) in
    let serves = subst (λ (xs : List WitType). ServesAll (shapes_of types xs)) (sym c.as_slice-tys-in-Tuple.ensures) (tuple_served types c.requires.down c.args.id.0 d at c.requires.serves c.in-Tuple.members is) in
    let writes = each_later m types _ _ read c.in_ok-parts-in-Tuple.ensures.adds.grows (subst (λ (xs : List WitType). WritesEach m types xs c.args.bindgen.now) (sym c.as_slice-tys-in-Tuple.ensures) (tuple_written m types c.args.id d at c.args.bindgen.now c.requires.writes c.in-Tuple.members is)) in
    (omega arith, (within.0, (within.1, (c.requires.well, (c.requires.down, (c.requires.within, (below, (parts, (enough, (side, (knows, (serves, (writes, c.requires.low)))))))))))))

pub store_id-part_count-requires : goal.store_id-part_count-requires
store_id-part_count-requires g t c =
    let types = c.args.resolve.now.types in
    let d = c.index-types-at.result in
    let at = entry_at types c.as_slice-types.result.now c.args.id.0 d c.as_slice-types.ensures c.requires.within c.index-types-at.is in
    let is = kind_at c.as_slice-types.result.now c.args.id.0 d (kind.Tuple c.in-Tuple.members) c.index-types-at.is c.in-Tuple.is in
    let short = tuple_short c.args.resolve.now c.requires.well c.args.id.0 c.in-Tuple.members (record { entry = d; stands = at; kind = is }) in
    omega (arith, ap length c.as_slice-tys-in-Tuple.ensures, short)

pub store_id-store_enum-requires : goal.store_id-store_enum-requires
store_id-store_enum-requires g t c =
    let types = c.args.resolve.now.types in
    let d = c.index-types-at.result in
    let at = entry_at types c.as_slice-types.result.now c.args.id.0 d c.as_slice-types.ensures c.requires.within c.index-types-at.is in
    let is = kind_at c.as_slice-types.result.now c.args.id.0 d (kind.Enum c.in-Enum.members) c.index-types-at.is c.in-Enum.is in
    let most = enum_served types c.requires.down c.args.id.0 d at c.requires.serves c.in-Enum.members is in
    record { down = c.requires.down; here = record { entry = d; stands = at; kind = is }; most = most }

pub store_id-store_flags-requires : goal.store_id-store_flags-requires
store_id-store_flags-requires g t c =
    let types = c.args.resolve.now.types in
    let d = c.index-types-at.result in
    let at = entry_at types c.as_slice-types.result.now c.args.id.0 d c.as_slice-types.ensures c.requires.within c.index-types-at.is in
    let is = kind_at c.as_slice-types.result.now c.args.id.0 d (kind.Flags c.in-Flags.members) c.index-types-at.is c.in-Flags.is in
    record { down = c.requires.down; here = record { entry = d; stands = at; kind = is }; writes = c.requires.writes; low = c.requires.low }

pub store_id-unreachable-requires : goal.store_id-unreachable-requires
store_id-unreachable-requires g t c =
    let types = c.args.resolve.now.types in
    let d = c.index-types-at.result in
    let k = (get_or c.as_slice-types.result.now c.args.id.0 d).kind in
    let at = entry_at types c.as_slice-types.result.now c.args.id.0 d c.as_slice-types.ensures c.requires.within c.index-types-at.is in
    let not = c.in_default in
    other_refused types c.requires.down c.args.id.0 k (record { entry = d; stands = at; kind = ap (λ (x : TypeDef). x.kind) c.index-types-at.is }) c.requires.serves
    (record { alias = not.not-Alias; tuple = not.not-Tuple; option = not.not-Option; result = not.not-Result; fields = not.not-Record; variant = not.not-Variant; enum = not.not-Enum; flags = not.not-Flags })

pub store_id-returns-in-Alias : goal.store_id-returns-in-Alias
store_id-returns-in-Alias g t c =
    let m = g.B.Bindgen.meaning in
    let types = c.args.resolve.now.types in
    let d = c.index-types-at.result in
    let at = entry_at types c.as_slice-types.result.now c.args.id.0 d c.as_slice-types.ensures c.requires.within c.index-types-at.is in
    let is = kind_at c.as_slice-types.result.now c.args.id.0 d (kind.Alias c.in-Alias.ty) c.index-types-at.is c.in-Alias.is in
    let new = c.store_type.new.bindgen in
    let Stores : Shape → Type 0 = λ s. OnOk c.store_type.result (LowersToMemory m c.args.realloc s c.args.value c.args.address.now c.args.offset c.args.bindgen.now new) in
    record {
      stores = subst Stores (sym (alias_shape types c.requires.down c.args.id.0 d at c.in-Alias.ty is)) c.store_type.ensures.stores;
      flows = subst (λ (code : Flow). OnOk c.store_type.result (Flows m types code (c.args.address.now ∷ c.args.value ∷ []) [] c.args.bindgen.now new)) (sym (store_alias_code types c.requires.down c.args.id d at c.args.offset c.args.realloc c.in-Alias.ty is)) c.store_type.ensures.flows;
    }

pub store_id-returns-in_ok-store_parts-in-Record : goal.store_id-returns-in_ok-store_parts-in-Record
store_id-returns-in_ok-store_parts-in-Record g t c =
    let m = g.B.Bindgen.meaning in
    let types = c.args.resolve.now.types in
    let d = c.index-types-at.result in
    let at = entry_at types c.as_slice-types.result.now c.args.id.0 d c.as_slice-types.ensures c.requires.within c.index-types-at.is in
    let is = kind_at c.as_slice-types.result.now c.args.id.0 d (kind.Record c.in-Record.members) c.index-types-at.is c.in-Record.is in
    let members = c.in-Record.members in
    let same : c.as_slice-tys.result.now ≡ map (λ (f : Field). f.ty) members = c.as_slice-tys.ensures ∙ c.in_ok-tys-in-Record.ensures ∙ ap (map (λ (f : Field). f.ty)) c.as_slice.ensures in
    let later = stores_parts_as m g.met.B.Bindgen.sound types c.args.realloc _ _ _ _ c.in_ok-parts-in-Record.parts _ c.args.offset 0 same c.in_ok-store_parts-in-Record.ensures.stores in
    let all = record_stores m g.met.B.Bindgen.sound types c.args.realloc c.args.id members _ _ _ c.args.value _ c.in_ok-parts-in-Record.parts c.args.offset (record { entry = d; at = at; kind = is }) c.in_ok-parts-in-Record.ensures later in
    let code : ℕ → WitType → Flow = λ n ty. store_code types c.args.realloc ty (beyond c.args.offset (place_in (tree_at types c.args.id.0) n)) in
    let address = c.args.address.now in
    let value = c.args.value in
    let split = c.in_ok-parts-in-Record.parts in
    let all_code : Flow = each 1 (λ ty. 1) code 0 (map (λ (f : Field). f.ty) members) in
    let parts = flows_as m types (each 1 (λ ty. 1) code 0 c.as_slice-tys.result.now) all_code (address ∷ split) [] _ _ (ap (each 1 (λ ty. 1) code 0) (sym same)) c.in_ok-store_parts-in-Record.ensures.flows in
    let lowered = flows_behind_address m types (emit (RecordLower c.args.id)) address value split _ _ c.in_ok-parts-in-Record.ensures in
    record {
      stores = stores_as m g.met.B.Bindgen.sound types c.args.realloc _ _ _ _ c.args.value _ c.args.offset (record_shape types c.requires.down c.args.id.0 d at members is) all;
      flows = flows_as m types (behind_address (emit (RecordLower c.args.id)) >>> all_code) (store_code types c.args.realloc (wit.Id c.args.id) c.args.offset) (address ∷ value ∷ []) [] _ _
          (store_record_code types c.requires.down c.args.id d at c.args.offset c.args.realloc members is)
          (flows_then m types (behind_address (emit (RecordLower c.args.id))) all_code (address ∷ value ∷ []) (address ∷ split) [] _ _ _ lowered parts);
    }

pub store_id-returns-in_ok-store_parts-in-Tuple : goal.store_id-returns-in_ok-store_parts-in-Tuple
store_id-returns-in_ok-store_parts-in-Tuple g t c =
    let m = g.B.Bindgen.meaning in
    let types = c.args.resolve.now.types in
    let d = c.index-types-at.result in
    let at = entry_at types c.as_slice-types.result.now c.args.id.0 d c.as_slice-types.ensures c.requires.within c.index-types-at.is in
    let is = kind_at c.as_slice-types.result.now c.args.id.0 d (kind.Tuple c.in-Tuple.members) c.index-types-at.is c.in-Tuple.is in
    let tys = c.in-Tuple.members in
    let later = stores_parts_as m g.met.B.Bindgen.sound types c.args.realloc _ _ _ _ c.in_ok-parts-in-Tuple.parts _ c.args.offset 0 c.as_slice-tys-in-Tuple.ensures c.in_ok-store_parts-in-Tuple.ensures.stores in
    let count = count-shapes types tys ∙ sym (c.part_count.ensures ∙ ap length c.as_slice-tys-in-Tuple.ensures) in
    let all = tuple_stores m g.met.B.Bindgen.sound types c.args.realloc c.part_count.result (shapes_of types tys) _ _ _ c.args.value _ c.in_ok-parts-in-Tuple.parts c.args.offset count c.in_ok-parts-in-Tuple.ensures later in
    let many : length tys ≡ c.part_count.result = sym (c.part_count.ensures ∙ ap length c.as_slice-tys-in-Tuple.ensures) in
    let code : ℕ → WitType → Flow = λ n ty. store_code types c.args.realloc ty (beyond c.args.offset (place_in (tree_at types c.args.id.0) n)) in
    let address = c.args.address.now in
    let value = c.args.value in
    let split = c.in_ok-parts-in-Tuple.parts in
    let n = c.part_count.result in
    let all_code : Flow = each 1 (λ ty. 1) code 0 tys in
    let parts = flows_as m types (each 1 (λ ty. 1) code 0 c.as_slice-tys-in-Tuple.result.now) all_code (address ∷ split) [] _ _ (ap (each 1 (λ ty. 1) code 0) (sym c.as_slice-tys-in-Tuple.ensures)) c.in_ok-store_parts-in-Tuple.ensures.flows in
    let whole = store_tuple_code types c.requires.down c.args.id d at c.args.offset c.args.realloc tys is ∙ ap (λ n. behind_address (emit (TupleLower n)) >>> all_code) many in
    let lowered = flows_behind_address m types (emit (TupleLower n)) address value split _ _ c.in_ok-parts-in-Tuple.ensures in
    record {
      stores = stores_as m g.met.B.Bindgen.sound types c.args.realloc _ _ _ _ c.args.value _ c.args.offset (tuple_shape types c.requires.down c.args.id.0 d at tys is) all;
      flows = flows_as m types (behind_address (emit (TupleLower n)) >>> all_code) (store_code types c.args.realloc (wit.Id c.args.id) c.args.offset) (address ∷ value ∷ []) [] _ _ whole
          (flows_then m types (behind_address (emit (TupleLower n))) all_code (address ∷ value ∷ []) (address ∷ split) [] _ _ _ lowered parts);
    }

pub store_parts-loop-i-init : goal.store_parts-loop-i-init
store_parts-loop-i-init g t c =
    let m = g.B.Bindgen.meaning in
    record { adds = adds_same m _; flows = λ new gives h. h; rest = λ new h. h }

pub store_parts-store_type-requires : goal.store_parts-store_type-requires
store_parts-store_type-requires g t c κs within =
    let m = g.B.Bindgen.meaning in
    let types = c.args.resolve.now.types in
    let short : c.loop-i.i < length c.args.tys.now = omega (arith, c.loop-i-test.true) in
    let low : rank (get_or c.args.tys.now c.loop-i.i wit.Bool) ≤ c.args.id.0 = part_ranked c.args.id.0 c.args.tys.now c.requires.below c.loop-i.i wit.Bool short in
    let below = part_below_table c.args.id.0 c.args.tys.now c.requires.below c.loop-i.i wit.Bool short (length types) c.requires.within in
    let side = side_later m _ _ c.args.realloc c.loop-i.invariant.adds.grows c.requires.side in
    let knows = c.loop-i.invariant.adds.grows.knows types c.requires.knows in
    let tys = c.args.tys.now in
    let serves = part_served types tys c.loop-i.i wit.Bool c.requires.serves short in
    let writes = writes_later g.B.Bindgen.meaning types _ _ (get_or tys c.loop-i.i wit.Bool) c.loop-i.invariant.adds.grows (one_written g.B.Bindgen.meaning types c.args.bindgen.now tys c.loop-i.i wit.Bool c.requires.writes short) in
    let found = c.part_place-place.ensures types c.requires.parts.0 knows c.requires.parts.1 (no_alias 3 types c.args.id.0 tys c.requires.parts) in
    let ends = part_ends types tys c.loop-i.i wit.Bool short c.args.id c.requires.down c.requires.parts c.args.offset c.requires.low c.part_place-place.result found.0 found.1 found.2 in
    (omega (arith, low), (within.0, (within.1, (c.requires.well, (c.requires.down, (below, (side, (knows, (serves, (writes, ends))))))))))

pub store_parts-part_place-place-requires : goal.store_parts-part_place-place-requires
store_parts-part_place-place-requires g t c =
    let types = c.args.resolve.now.types in
    let short : c.loop-i.i < length c.args.tys.now = omega (arith, c.loop-i-test.true) in
    let knows = c.loop-i.invariant.adds.grows.knows types c.requires.knows in
    (types, knows, part_low types c.args.tys.now c.loop-i.i wit.Bool short c.args.id c.requires.down c.requires.parts c.args.offset c.requires.low)

pub store_parts-loop-i-preserved : goal.store_parts-loop-i-preserved
store_parts-loop-i-preserved g t c =
    let m = g.B.Bindgen.meaning in
    let types = c.args.resolve.now.types in
    let tys = c.args.tys.now in
    let i = c.loop-i.i in
    let short : i < length tys = omega (arith, c.loop-i-test.true) in
    let enough : i < length c.args.parts.now = omega (arith, short, c.requires.enough) in
    let knows = c.loop-i.invariant.adds.grows.knows types c.requires.knows in
    let tree = tree_at types c.args.id.0 in
    let found = c.part_place-place.ensures types c.requires.parts.0 knows c.requires.parts.1 (no_alias m.width types c.args.id.0 tys c.requires.parts) in
    let place = place_told m.width c.part_place-place.result c.args.offset found.0 (λ w. slice_index (field_offsets w tree) i) g.met.B.Bindgen.sound.wide found.1 found.2 in
    let here = ap (store_code types c.args.realloc (get_or tys i wit.Bool)) (sym (place_sent c.part_place-place.result c.args.offset found.0 tree i found.1 found.2)) in
    let address = c.args.address.now in
    let parts = c.args.parts.now in
    let part = c.in_ok-part.part in
    let code : ℕ → WitType → Flow = λ n ty. store_code types c.args.realloc ty (beyond c.args.offset (place_in tree n)) in
    let unread : drop i parts ≡ part ∷ drop (i + 1) parts = drop-same parts c.as_slice.result.now i part c.index-as_slice-i.result c.as_slice.ensures enough c.index-as_slice-i.is c.in_ok-part.ensures in
    let on = subst (λ os. FlowsOn m types 1 (λ ty. 1) code (address ∷ []) tys (address ∷ parts) c.args.bindgen.now i [] os c.loop-i.bindgen) unread c.loop-i.invariant.flows in
    let flow = flows_as m types (store_code types c.args.realloc (get_or tys i wit.Bool) c.part_place-place.result) (code i (get_or tys i wit.Bool)) (address ∷ part ∷ []) [] c.loop-i.bindgen c.store_type.new.bindgen here c.in_ok-store_type.ensures.flows in
    record {
      adds = adds_both m _ _ _ c.loop-i.invariant.adds c.in_ok-store_type.ensures.stores.adds;
      flows = flows_next m types 1 (λ ty. 1) code (address ∷ []) tys (address ∷ parts) c.args.bindgen.now i wit.Bool (part ∷ []) (drop (i + 1) parts) [] [] [] c.loop-i.bindgen c.store_type.new.bindgen short refl refl refl flow on;
      rest = rest_next m g.met.B.Bindgen.sound types c.args.realloc tys c.args.parts.now _ c.args.offset c.part_place-place.result i _ _ _ (get_or tys i wit.Bool) c.in_ok-part.part
          (drop_more tys i wit.Bool short)
          unread
          (behind_next m.width types tys i wit.Bool short)
          (place ∙ ap (λ n. bytes_at c.args.offset (2 ^ m.width) + n) (part_offset m.width types c.args.id tys i wit.Bool c.requires.down c.requires.parts short))
          c.in_ok-store_type.ensures.stores c.loop-i.invariant.rest;
    }

pub store_parts-returns : goal.store_parts-returns
store_parts-returns g t c =
    let m = g.B.Bindgen.meaning in
    let ended : length c.args.tys.now ≤ c.loop-i.i = omega (arith, c.loop-i-test.false) in
    let done : length c.args.parts.now ≤ c.loop-i.i = omega (arith, ended, c.requires.enough) in
    let types = c.args.resolve.now.types in
    let code : ℕ → WitType → Flow = λ n ty. store_code types c.args.realloc ty (beyond c.args.offset (place_in (tree_at types c.args.id.0) n)) in
    record {
      stores = rest_last m g.met.B.Bindgen.sound types c.args.realloc c.args.tys.now c.args.parts.now _ c.args.offset c.loop-i.i _ _ ended done c.loop-i.invariant.rest;
      flows = flows_last m types 1 (λ ty. 1) code (c.args.address.now ∷ []) c.args.tys.now (c.args.address.now ∷ c.args.parts.now) c.args.bindgen.now c.loop-i.i [] (drop c.loop-i.i c.args.parts.now) _ ended c.loop-i.invariant.flows;
    }

pub store_id-store_variant-requires : goal.store_id-store_variant-requires
store_id-store_variant-requires g t c κs within =
    let types = c.args.resolve.now.types in
    let d = c.index-types-at.result in
    let at = entry_at types c.as_slice-types.result.now c.args.id.0 d c.as_slice-types.ensures c.requires.within c.index-types-at.is in
    let k = (get_or c.as_slice-types.result.now c.args.id.0 d).kind in
    let here : IsKindOf types c.args.id.0 k = record { entry = d; stands = at; kind = ap (λ (x : TypeDef). x.kind) c.index-types-at.is } in
    let cases : has_cases k ≡ true = ap has_cases c.in-Variant.is in
    (omega arith, (within.0, (within.1, (c.requires.well, (c.requires.down, (here, (cases, (c.requires.side, (c.requires.knows, (c.requires.serves, (c.requires.writes, c.requires.low)))))))))))

pub store_id-store_variant-requires-in-Option : goal.store_id-store_variant-requires-in-Option
store_id-store_variant-requires-in-Option g t c κs within =
    let types = c.args.resolve.now.types in
    let d = c.index-types-at.result in
    let at = entry_at types c.as_slice-types.result.now c.args.id.0 d c.as_slice-types.ensures c.requires.within c.index-types-at.is in
    let k = (get_or c.as_slice-types.result.now c.args.id.0 d).kind in
    let here : IsKindOf types c.args.id.0 k = record { entry = d; stands = at; kind = ap (λ (x : TypeDef). x.kind) c.index-types-at.is } in
    let cases : has_cases k ≡ true = ap has_cases c.in-Option.is in
    (omega arith, (within.0, (within.1, (c.requires.well, (c.requires.down, (here, (cases, (c.requires.side, (c.requires.knows, (c.requires.serves, (c.requires.writes, c.requires.low)))))))))))

pub store_id-store_variant-requires-in-Result : goal.store_id-store_variant-requires-in-Result
store_id-store_variant-requires-in-Result g t c κs within =
    let types = c.args.resolve.now.types in
    let d = c.index-types-at.result in
    let at = entry_at types c.as_slice-types.result.now c.args.id.0 d c.as_slice-types.ensures c.requires.within c.index-types-at.is in
    let k = (get_or c.as_slice-types.result.now c.args.id.0 d).kind in
    let here : IsKindOf types c.args.id.0 k = record { entry = d; stands = at; kind = ap (λ (x : TypeDef). x.kind) c.index-types-at.is } in
    let cases : has_cases k ≡ true = ap has_cases c.in-Result.is in
    (omega arith, (within.0, (within.1, (c.requires.well, (c.requires.down, (here, (cases, (c.requires.side, (c.requires.knows, (c.requires.serves, (c.requires.writes, c.requires.low)))))))))))

pub store_variant-store_cases-requires : goal.store_variant-store_cases-requires
store_variant-store_cases-requires g t c κs within =
    let types = c.args.resolve.now.types in
    let d = c.requires.here.entry in
    let at = c.requires.here.stands in
    let k = c.args.kind.now in
    let is : d.kind ≡ k = c.requires.here.kind in
    let same = c.as_slice-tys.ensures ∙ c.in_ok-payloads.ensures in
    let below = subst (λ (ps : List (Option WitType)). list_all (λ p. payload_below c.args.id.0 p) ps ≡ true) (sym same) (variant_below types c.requires.down c.args.id.0 k (record { entry = d; stands = at; kind = is }) c.requires.cases) in
    let shape = variant_shape types c.requires.down c.args.id.0 k c.requires.here c.requires.cases ∙ ap (λ (ps : List (Option WitType)). cases (payloads_in (shapes types) ps)) (sym same) in
    let tys = c.as_slice-tys.result.now in
    let most = few_payloads types c.args.id.0 tys shape c.requires.serves in
    let serves = payloads_served types c.args.id.0 tys shape c.requires.serves in
    let writes = subst (λ (ps : List (Option WitType)). AllByRecursion (λ (p : Option WitType). WritesPart g.B.Bindgen.meaning types p c.args.bindgen.now) ps) (sym same) (payloads_written g.B.Bindgen.meaning types c.args.id d at c.args.bindgen.now c.requires.writes k c.requires.cases is) in
    let own = ap is_alias is ∙ cases_no_alias 3 types k c.requires.cases in
    let place = c.payload_place-place.ensures types d c.requires.knows at own in
    let low = payloads_low types c.args.id (payloads_in (shapes types) tys) shape c.args.offset c.requires.low c.payload_place-place.result place.0 place.1 place.2 in
    (omega arith, (within.0, (within.1, (c.requires.well, (c.requires.down, ((slice_get_within types c.args.id.0 d at), (below, (c.requires.side, (c.requires.knows, (most, (serves, (writes, low))))))))))))

pub store_variant-payload_place-place-requires : goal.store_variant-payload_place-place-requires
store_variant-payload_place-place-requires g t c =
    let types = c.args.resolve.now.types in
    let here = c.requires.here in
    let k = c.args.kind.now in
    let own = ap is_alias here.kind ∙ cases_no_alias 3 types k c.requires.cases in
    let shape = variant_shape types c.requires.down c.args.id.0 k here c.requires.cases in
    (types, c.requires.knows, payload_begins types c.args.id (payloads_in (shapes types) (payloads_of k)) shape c.args.offset c.requires.low here.entry here.stands own)

pub store_variant-lower_by-requires : goal.store_variant-lower_by-requires
store_variant-lower_by-requires g t c =
    let m = g.B.Bindgen.meaning in
    let types = c.args.resolve.now.types in
    let d = c.requires.here.entry in
    let at = c.requires.here.stands in
    let k = c.args.kind.now in
    let is : d.kind ≡ k = c.requires.here.kind in
    let tys = c.as_slice-tys.result.now in
    let ts = payloads_in (shapes types) tys in
    let stores = c.in_ok-store_cases.ensures.stores in
    let many : count ts ≡ length (payloads_of k) = count_payloads (shapes types) tys ∙ ap length (c.as_slice-tys.ensures ∙ c.in_ok-payloads.ensures) in
    let finished = are_finished m (replicate (count ts) 0) stores.bodies _ _ stores.adds in
    let has = subst (λ ks. HasBlocks m ks c.store_cases.new.bindgen) (same_back (count ts) 0 ∙ ap (λ n. replicate n 0) many) finished in
    subst (λ (i : Instruction). IsSendable m c.args.resolve.now i (c.args.value ∷ []) c.store_cases.new.bindgen) (sym c.case_lowering-lower.ensures)
    (lowering_sendable m c.args.resolve.now c.requires.well c.requires.down c.args.id c.args.value _ (stores.adds.resumes.writes types c.args.id.0 (c.requires.writes c.args.id reaches_itself)) k 0 (record { entry = d; stands = at; kind = is }) c.requires.cases has)

pub store_variant-returns : goal.store_variant-returns
store_variant-returns g t c =
    let m = g.B.Bindgen.meaning in
    let sound = g.met.B.Bindgen.sound in
    let types = c.args.resolve.now.types in
    let d = c.requires.here.entry in
    let at = c.requires.here.stands in
    let k = c.args.kind.now in
    let kind_is : d.kind ≡ k = c.requires.here.kind in
    let has = c.requires.cases in
    let e = subst (λ (i : Instruction). Emits m types i (c.args.value ∷ []) c.in_ok-_none._none c.store_cases.new.bindgen c.lower_by.new.bindgen) c.case_lowering-lower.ensures c.in_ok-_none.ensures in
    let found = c.payload_place-place.ensures types d c.requires.knows at (ap is_alias kind_is ∙ cases_no_alias m.width types k has) in
    stored_variant m sound types c.requires.down c.args.id d at k has kind_is c.args.realloc c.args.value c.args.address.now c.args.offset c.payload_place-place.result found c.as_slice-tys.result.now (c.as_slice-tys.ensures ∙ c.in_ok-payloads.ensures)
    c.in_ok-_none._none _ _ _ c.in_ok-store_cases.ensures.stores (c.in_ok-store_cases.ensures.flows (c.args.value ∷ [])) e

pub store_cases-loop-i-init : goal.store_cases-loop-i-init
store_cases-loop-i-init g t c =
    let m = g.B.Bindgen.meaning in
    record { resumes = resumes_same m _; flows = λ others new gives h. h; rest = λ new h. h }

pub store_cases-store_case-requires : goal.store_cases-store_case-requires
store_cases-store_case-requires g t c κs within =
    let m = g.B.Bindgen.meaning in
    let types = c.args.resolve.now.types in
    let short : c.loop-i.i < length c.args.payloads.now = omega (arith, c.loop-i-test.true) in
    let below = payload_low c.args.id.0 c.args.payloads.now c.requires.below c.loop-i.i None short in
    let serves = payload_served types c.args.payloads.now c.loop-i.i None c.requires.serves short in
    let writes = part_resumed m types _ _ (get_or c.args.payloads.now c.loop-i.i None) c.loop-i.invariant.resumes (payload_written m types c.args.bindgen.now c.args.payloads.now c.loop-i.i None c.requires.writes short) in
    let low = payload_ends (shapes types) c.args.payloads.now c.loop-i.i None c.args.place c.requires.low short in
    let side = side_resumed m _ _ c.args.realloc c.loop-i.invariant.resumes c.requires.side in
    let knows = c.loop-i.invariant.resumes.knows types c.requires.knows in
    (omega arith, (within.0, (within.1, (c.requires.well, (c.requires.down, (c.requires.within, (below, (short, (c.requires.most, (side, (knows, (serves, (writes, low)))))))))))))

pub store_cases-loop-i-preserved : goal.store_cases-loop-i-preserved
store_cases-loop-i-preserved g t c =
    let m = g.B.Bindgen.meaning in
    let types = c.args.resolve.now.types in
    let ps = c.args.payloads.now in
    let i = c.loop-i.i in
    let short : i < length ps = omega (arith, c.loop-i-test.true) in
    let one = c.in_ok-store_case.ensures in
    let code : ℕ → Option WitType → Flow = λ n p. in_block (store_case (length ps) c.args.offset c.args.place n (option_map (λ ty. (ty, store_code types c.args.realloc ty)) p)) in
    let address = c.args.address.now in
    record {
      resumes = resumes_both m _ _ _ c.loop-i.invariant.resumes one.stores.adds.resumes;
      flows = λ others. flows_next m types 1 (λ payload. 0) code (address ∷ []) ps (address ∷ others) c.args.bindgen.now i None [] others [] [] [] c.loop-i.bindgen c.store_case.new.bindgen short refl refl refl one.flows (c.loop-i.invariant.flows others);
      rest = next_case m g.met.B.Bindgen.sound types c.args.realloc (discriminant_grain (length ps)) ps c.args.address.now c.args.offset c.args.place i _ _ _ (get_or ps i None) (drop_more ps i None short) one.stores c.loop-i.invariant.rest;
    }

pub store_cases-returns : goal.store_cases-returns
store_cases-returns g t c =
    let m = g.B.Bindgen.meaning in
    let types = c.args.resolve.now.types in
    let ps = c.args.payloads.now in
    let ended : length ps ≤ c.loop-i.i = omega (arith, c.loop-i-test.false) in
    let code : ℕ → Option WitType → Flow = λ n p. in_block (store_case (length ps) c.args.offset c.args.place n (option_map (λ ty. (ty, store_code types c.args.realloc ty)) p)) in
    let address = c.args.address.now in
    record {
      stores = last_case m g.met.B.Bindgen.sound types c.args.realloc (discriminant_grain (length ps)) ps c.args.address.now c.args.offset c.args.place c.loop-i.i _ _ ended c.loop-i.invariant.rest;
      flows = λ others. flows_last m types 1 (λ payload. 0) code (address ∷ []) ps (address ∷ others) c.args.bindgen.now c.loop-i.i [] others _ ended (c.loop-i.invariant.flows others);
    }

pub store_case-returns-in_ok-store_bare-in-None : goal.store_case-returns-in_ok-store_bare-in-None
store_case-returns-in_ok-store_bare-in-None g t c =
    let m = g.B.Bindgen.meaning in
    let types = c.args.resolve.now.types in
    let code : Option WitType → Flow = λ p. in_block (store_case c.args.count c.args.offset c.args.place c.args.number (option_map (λ ty. (ty, store_code types c.args.realloc ty)) p)) in
    let Stored : Option WitType → Type 0 = λ p. StoresCase m c.args.realloc (discriminant_grain c.args.count) c.args.number (payload_in (shapes types) p) c.args.address.now c.args.offset c.args.place c.args.bindgen.now c.store_bare.new.bindgen in
    record {
      stores = subst Stored (sym c.in-None.is) (c.in_ok-store_bare-in-None.ensures.stores c.args.realloc c.args.place);
      flows = subst (λ (p : Option WitType). Flows m types (code p) (c.args.address.now ∷ []) [] c.args.bindgen.now c.store_bare.new.bindgen) (sym c.in-None.is) (c.in_ok-store_bare-in-None.ensures.flows c.args.place);
    }

pub store_case-store_payload-requires : goal.store_case-store_payload-requires
store_case-store_payload-requires g t c κs within =
    let below = payload_type_low c.args.id.0 c.in-Some.ty (subst (λ (p : Option WitType). payload_below c.args.id.0 p ≡ true) c.in-Some.is c.requires.below) in
    let ss = shapes c.args.resolve.now.types in
    let serves = subst (λ (p : Option WitType). Serves (payload_in ss p)) c.in-Some.is c.requires.serves in
    let writes = subst (λ (p : Option WitType). WritesPart g.B.Bindgen.meaning c.args.resolve.now.types p c.args.bindgen.now) c.in-Some.is c.requires.writes in
    let low = subst (λ (p : Option WitType). EndsLow (payload_in ss p) c.args.place) c.in-Some.is c.requires.low in
    (omega arith, (within.0, (within.1, (c.requires.well, (c.requires.down, (c.requires.within, (below, (c.requires.few, (c.requires.most, (c.requires.side, (c.requires.knows, (serves, (writes, low)))))))))))))

pub store_case-returns-in_ok-store_payload-in-Some : goal.store_case-returns-in_ok-store_payload-in-Some
store_case-returns-in_ok-store_payload-in-Some g t c =
    let m = g.B.Bindgen.meaning in
    let types = c.args.resolve.now.types in
    let code : Option WitType → Flow = λ p. in_block (store_case c.args.count c.args.offset c.args.place c.args.number (option_map (λ ty. (ty, store_code types c.args.realloc ty)) p)) in
    let Stored : Option WitType → Type 0 = λ p. StoresCase m c.args.realloc (discriminant_grain c.args.count) c.args.number (payload_in (shapes types) p) c.args.address.now c.args.offset c.args.place c.args.bindgen.now c.store_payload.new.bindgen in
    record {
      stores = subst Stored (sym c.in-Some.is) c.in_ok-store_payload-in-Some.ensures.stores;
      flows = subst (λ (p : Option WitType). Flows m types (code p) (c.args.address.now ∷ []) [] c.args.bindgen.now c.store_payload.new.bindgen) (sym c.in-Some.is) c.in_ok-store_payload-in-Some.ensures.flows;
    }

pub store_payload-payload-requires : goal.store_payload-payload-requires
store_payload-payload-requires g t c =
    let m = g.B.Bindgen.meaning in
    let begins = c.in_ok-push_block.ensures in
    record { slot = begins.slot; suspended = m.code c.args.bindgen.now; outer = m.opened c.args.bindgen.now; opened = begins.opened }

pub store_payload-close-requires : goal.store_payload-close-requires
store_payload-close-requires g t c =
    let m = g.B.Bindgen.meaning in
    let begins = c.in_ok-push_block.ensures in
    let tag = c.in_ok-store_tag.ensures in
    let stored = number_store_adds m g.met.B.Bindgen.sound c.args.resolve.now.types (discriminant_grain c.args.count) c.args.offset (tag.1 ∷ c.args.address.now ∷ []) [] _ _ tag.3 in
    let opened = c.in_ok-store_type.ensures.stores.adds.grows.opened ∙ stored.grows.opened ∙ tag.2.adds.grows.opened ∙ c.in_ok-value.ensures.adds.grows.opened ∙ begins.opened in
    record { slot = begins.slot; suspended = m.code c.args.bindgen.now; outer = m.opened c.args.bindgen.now; opened = opened }

pub store_payload-store_type-requires : goal.store_payload-store_type-requires
store_payload-store_type-requires g t c κs within =
    let m = g.B.Bindgen.meaning in
    let sound = g.met.B.Bindgen.sound in
    let types = c.args.resolve.now.types in
    let opens = c.in_ok-push_block.ensures in
    let tag = c.in_ok-store_tag.ensures in
    let name = c.in_ok-value.ensures in
    let stored = number_store_adds m sound types (discriminant_grain c.args.count) c.args.offset (tag.1 ∷ c.args.address.now ∷ []) [] _ _ tag.3 in
    let low : rank c.args.ty ≤ c.args.id.0 = type_ranked c.args.id.0 c.args.ty c.requires.below in
    let below = type_below_table c.args.id.0 (length types) c.args.ty c.requires.below c.requires.within in
    let side = side_later m _ _ c.args.realloc stored.grows (side_later m _ _ c.args.realloc tag.2.adds.grows (side_later m _ _ c.args.realloc name.adds.grows (side_opened m _ _ c.args.realloc opens c.requires.side))) in
    let opened : Writes m types c.args.ty c.push_block.new.self = λ id reached. opens.lasts.writes types id.0 (c.requires.writes id reached) in
    let writes = writes_later m types _ _ c.args.ty stored.grows (writes_later m types _ _ c.args.ty tag.2.adds.grows (writes_later m types _ _ c.args.ty name.adds.grows opened)) in
    let knows = stored.grows.knows types (tag.2.adds.grows.knows types (name.adds.grows.knows types (opens.lasts.knows types c.requires.knows))) in
    (omega (arith, low), (within.0, (within.1, (c.requires.well, (c.requires.down, (below, (side, (knows, (c.requires.serves, (writes, c.requires.low))))))))))

pub store_payload-returns : goal.store_payload-returns
store_payload-returns g t c =
    let m = g.B.Bindgen.meaning in
    let sound = g.met.B.Bindgen.sound in
    let types = c.args.resolve.now.types in
    let n = c.args.number in
    let count = c.args.count in
    let opens = c.in_ok-push_block.ensures in
    let tag = c.in_ok-store_tag.ensures in
    let name = c.in_ok-value.ensures in
    let part = c.in_ok-store_type.ensures in
    let closes = c.in_ok-close.ensures in
    let low : n < 2 ^ 31 = omega (arith, c.requires.few, c.requires.most) in
    let some = payload_some c.args.resolve.now c.requires.well c.args.ty (type_below_table c.args.id.0 (length types) c.args.ty c.requires.below c.requires.within) in
    let part_code : WitType × (ArchitectureSize → Flow) = (c.args.ty, store_code types c.args.realloc c.args.ty) in
    let address = c.args.address.now in
    let value = c.in_ok-value.value in
    let begun = c.push_block.new.self in
    let named = c.payload.new.bindgen in
    let tagged = c.store_tag.new.bindgen in
    let end = c.store_type.new.bindgen in
    let names : Flow = both (leading 1) (alone (emit VariantPayloadName)) in
    let put : Flow = both (store_number n (tag_store count c.args.offset)) (store_code types c.args.realloc c.args.ty c.args.place) in
    let reads = address ∷ value ∷ [] in
    let inside = flows_then m types names put (address ∷ []) reads [] begun named end
    (flows_both m types (leading 1) (alone (emit VariantPayloadName)) (address ∷ []) (address ∷ []) (value ∷ []) begun begun named (refl, refl) (flows_alone m types (emit VariantPayloadName) (address ∷ []) (value ∷ []) begun named name))
    (flows_both m types (store_number n (tag_store count c.args.offset)) (store_code types c.args.realloc c.args.ty c.args.place) reads [] [] named tagged end
    (flows_numbered m types n (tag_store count c.args.offset) address (value ∷ []) tag.1 named tag.0 tagged tag.2 tag.3) part.flows) in
    record {
      stores = payload_case m sound types c.args.realloc (discriminant_grain count) n (tag_grain_small count) low (tag_kept count n c.requires.few c.requires.most) c.args.address.now tag.1 c.args.offset c.args.place (shape_of types c.args.ty) some _ _ _ _ _ _ _ c.in_ok-value.value opens name tag.2 tag.3 part.stores closes;
      flows = flows_block m types (store_case count c.args.offset c.args.place n (Some part_code)) (address ∷ []) [] c.args.bindgen.now begun end c.close.new.bindgen opens inside closes;
    }
