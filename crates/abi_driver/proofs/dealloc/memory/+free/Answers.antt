use Rattle.std.proofs.Common.{◌≡◌, ℕ, ◌<◌, ◌≤◌, ◌+◌, ◌^◌, true, List, [], ◌∷◌, length, map, replicate, get_or, option_map, OnOk, Option, None, refl, sym, ap, ◌∙◌, subst, arith}
use Rattle.std.specs.List.{list_all, slice_index}
use Rattle.std.proofs.lemmas.Bool.{ltb-true}
use Rattle.std.proofs.lemmas.List.{drop_more}
use Rattle.std.proofs.lemmas.Option.{slice_get_within}
use Rattle.wit_model.specs.Size.{bytes_at}
use Rattle.wit_model.specs.TypeOrder.{payload_below, type_below}
use Rattle.wit_model.specs.declared.types.Field.{Field}
use Rattle.wit_model.specs.declared.types.TypeDef.{TypeDef}
use Rattle.wit_model.specs.declared.types.TypeDefKind.TheVariants as kind
use Rattle.wit_model.specs.declared.types.WitType.{WitType}
use Rattle.wit_model.specs.declared.types.WitType.TheVariants as wit
use Rattle.wit_layout.proofs.FlattenSteps.{rank}
use Rattle.wit_layout.specs.Extent.{discriminant_grain}
use Rattle.wit_layout.specs.Sizes.{field_offsets}
use Rattle.wit_layout.specs.Told.{is_alias}
use Rattle.wit_layout.specs.Tree.{tree_at}
use Rattle.wrapper_meaning.specs.Kinds.{has_list}
use Rattle.wrapper_meaning.specs.Shape.{Shape, payload_in, payloads_in, shape_of, shapes}
use Rattle.wrapper_meaning.specs.Shape.Shape.{cases}
use Rattle.abi_bindgen.specs.Cases.{payloads_of}
use Rattle.abi_bindgen.specs.Code.{at_payload, beyond, free_code, place_in}
use Rattle.abi_driver.specs.FreedCases.{FreesPayload}
use Rattle.abi_bindgen.specs.Frees.{FreesInMemory}
use Rattle.abi_bindgen.specs.HasList.{IsKindOf}
use Rattle.abi_bindgen.specs.Instructions.{HasBlocks, field_shapes, shapes_of, has_cases}
use Rattle.abi_bindgen.specs.Parts.{count}
use Rattle.abi_bindgen.specs.Places.{HasParts, IsOfParts}
use Rattle.abi_bindgen.specs.Served.{Serves, ServesAll}
use Rattle.abi_bindgen.specs.Flow.{Flow, in_block, leave_none, each}
use Rattle.abi_bindgen.specs.Flows.{Flows}
use Rattle.abi_driver.specs.Low.{EndsLow}
use Rattle.abi_driver.proofs.CaseFrees.{bare_frees, payload_frees, rest_last as last_case, rest_next as next_case}
use Rattle.abi_bindgen.proofs.Payloads.{count_payloads, variant_below, variant_shape}
use Rattle.abi_bindgen.proofs.Serving.{alias_served, few_payloads, other_refused, part_served, payload_served, payloads_served, record_served, tuple_served}
use Rattle.abi_driver.proofs.LowPlaces.{part_ends, part_low, payload_ends, payload_low as payload_begins, payloads_low}
use Rattle.abi_driver.proofs.CaseSteps.{are_finished, resumes_both, resumes_same, same_back}
use Rattle.abi_driver.proofs.NumberWords.{number_load_adds}
use Rattle.abi_driver.proofs.VariantFrees.{freed_none, freed_variant, some_case}
use Rattle.abi_driver.proofs.FreeSteps.{fields_free, frees_as, frees_parts_as, rest_last, rest_next, tuple_free}
use Rattle.abi_driver.proofs.LeafFrees.{enum_frees, flags_frees, scalar_frees}
use Rattle.abi_driver.proofs.MemoryCode.{free_alias_code, free_enum_code, free_flags_code, free_record_code, free_scalar_code, free_tuple_code}
use Rattle.abi_driver.proofs.PartOffsets.{behind_next, cases_no_alias, no_alias, part_offset, place_sent}
use Rattle.abi_driver.proofs.RecordPlaces.{place_told}
use Rattle.abi_bindgen.proofs.Records.{alias_below, alias_rank, alias_shape, entry_at, enum_shape, flags_shape, kind_at, part_below_table, part_ranked, payload_low, payload_type_low, record_below, record_shape, tuple_below, tuple_shape, type_below_table, type_ranked}
use Rattle.abi_bindgen.proofs.Runs.{adds_both, adds_same}
use Rattle.abi_bindgen.proofs.FlowSteps.{flows_as, flows_block, flows_next, flows_last}
use Rattle.abi_driver.proofs.dealloc.memory.+free.Goals as goal

pub free_type-free_id-requires : goal.free_type-free_id-requires
unfolding type_below
free_type-free_id-requires g t c κs within =
    let n = length c.args.resolve.now.types in
    let deep : rank c.args.ty ≡ c.in-Id.id.0 + 1 = ap rank c.in-Id.is ∙ omega arith in
    let inside : c.in-Id.id.0 < n = ltb-true c.in-Id.id.0 n (ap (type_below n) (sym c.in-Id.is) ∙ c.requires.below) in
    let types = c.args.resolve.now.types in
    let serves = subst (λ (ty : WitType). Serves (shape_of types ty)) c.in-Id.is c.requires.serves in
    let low = subst (λ (ty : WitType). EndsLow (shape_of types ty) c.args.offset) c.in-Id.is c.requires.low in
    (omega arith, (within.0, (within.1, (c.requires.down, (inside, (c.requires.knows, (serves, low)))))))

pub free_type-free_text-requires : goal.free_type-free_text-requires
free_type-free_text-requires g t c =
    let types = c.args.resolve.now.types in
    record { low = subst (λ (ty : WitType). EndsLow (shape_of types ty) c.args.offset) c.in-String.is c.requires.low }

pub free_type-returns-in-String : goal.free_type-returns-in-String
free_type-returns-in-String g t c =
    let m = g.B.Bindgen.meaning in
    let types = c.args.resolve.now.types in
    let new = c.free_text.new.bindgen in
    record {
      frees = subst (λ (ty : WitType). OnOk c.free_text.result (FreesInMemory m (shape_of types ty) c.args.address.now c.args.offset c.args.bindgen.now new)) (sym c.in-String.is) c.free_text.ensures.frees;
      flows = subst (λ (ty : WitType). OnOk c.free_text.result (Flows m types (free_code types ty c.args.offset) (c.args.address.now ∷ []) [] c.args.bindgen.now new)) (sym c.in-String.is) c.free_text.ensures.flows;
    }

pub free_type-returns-in-Id : goal.free_type-returns-in-Id
free_type-returns-in-Id g t c =
    let m = g.B.Bindgen.meaning in
    let types = c.args.resolve.now.types in
    let new = c.free_id.new.bindgen in
    record {
      frees = subst (λ (ty : WitType). OnOk c.free_id.result (FreesInMemory m (shape_of types ty) c.args.address.now c.args.offset c.args.bindgen.now new)) (sym c.in-Id.is) c.free_id.ensures.frees;
      flows = subst (λ (ty : WitType). OnOk c.free_id.result (Flows m types (free_code types ty c.args.offset) (c.args.address.now ∷ []) [] c.args.bindgen.now new)) (sym c.in-Id.is) c.free_id.ensures.flows;
    }

pub free_id-free_type-requires : goal.free_id-free_type-requires
free_id-free_type-requires g t c κs within =
    let types = c.args.resolve.now.types in
    let d = c.index-types-at.result in
    let at = entry_at types c.as_slice-types.result.now c.args.id.0 d c.as_slice-types.ensures c.requires.within c.index-types-at.is in
    let is = kind_at c.as_slice-types.result.now c.args.id.0 d (kind.Alias c.in-Alias.ty) c.index-types-at.is c.in-Alias.is in
    let low : rank c.in-Alias.ty ≤ c.args.id.0 = alias_rank types c.requires.down c.args.id.0 d at c.in-Alias.ty is in
    let below = alias_below types c.requires.down c.args.id.0 d at c.in-Alias.ty is c.requires.within in
    let serves = alias_served types c.requires.down c.args.id.0 d at c.requires.serves c.in-Alias.ty is in
    let ends = subst (λ (s : Shape). EndsLow s c.args.offset) (alias_shape types c.requires.down c.args.id.0 d at c.in-Alias.ty is) c.requires.low in
    (omega (arith, low), (within.0, (within.1, (c.requires.down, (below, (c.requires.knows, (serves, ends)))))))

pub free_id-free_parts-requires : goal.free_id-free_parts-requires
free_id-free_parts-requires g t c κs within =
    let types = c.args.resolve.now.types in
    let d = c.index-types-at.result in
    let at = entry_at types c.as_slice-types.result.now c.args.id.0 d c.as_slice-types.ensures c.requires.within c.index-types-at.is in
    let is = kind_at c.as_slice-types.result.now c.args.id.0 d (kind.Record c.in-Record.members) c.index-types-at.is c.in-Record.is in
    let members = c.in-Record.members in
    let read = c.as_slice-tys.result.now in
    let same : read ≡ map (λ (f : Field). f.ty) members = c.as_slice-tys.ensures ∙ c.in_ok-tys-in-Record.ensures ∙ ap (map (λ (f : Field). f.ty)) c.as_slice.ensures in
    let below = subst (λ (xs : List WitType). list_all (λ ty. type_below c.args.id.0 ty) xs ≡ true) (sym same) (record_below types c.requires.down c.args.id.0 d at members is) in
    let parts : HasParts types c.args.id.0 read = (d, at, subst (λ k. IsOfParts k read) (sym is) same) in
    let serves = subst (λ (xs : List WitType). ServesAll (shapes_of types xs)) (sym same) (record_served types c.requires.down c.args.id.0 d at c.requires.serves members is) in
    (omega arith, (within.0, (within.1, (c.requires.down, (c.requires.within, (below, (parts, (c.requires.knows, (serves, c.requires.low)))))))))

pub free_id-free_parts-requires-in-Tuple : goal.free_id-free_parts-requires-in-Tuple
free_id-free_parts-requires-in-Tuple g t c κs within =
    let types = c.args.resolve.now.types in
    let d = c.index-types-at.result in
    let at = entry_at types c.as_slice-types.result.now c.args.id.0 d c.as_slice-types.ensures c.requires.within c.index-types-at.is in
    let is = kind_at c.as_slice-types.result.now c.args.id.0 d (kind.Tuple c.in-Tuple.members) c.index-types-at.is c.in-Tuple.is in
    let read = c.as_slice-tys-in-Tuple.result.now in
    let below = subst (λ (xs : List WitType). list_all (λ ty. type_below c.args.id.0 ty) xs ≡ true) (sym c.as_slice-tys-in-Tuple.ensures) (tuple_below types c.requires.down c.args.id.0 d at c.in-Tuple.members is) in
    let parts : HasParts types c.args.id.0 read = (d, at, subst (λ k. IsOfParts k read) (sym is) c.as_slice-tys-in-Tuple.ensures) in
    let serves = subst (λ (xs : List WitType). ServesAll (shapes_of types xs)) (sym c.as_slice-tys-in-Tuple.ensures) (tuple_served types c.requires.down c.args.id.0 d at c.requires.serves c.in-Tuple.members is) in
    (omega arith, (within.0, (within.1, (c.requires.down, (c.requires.within, (below, (parts, (c.requires.knows, (serves, c.requires.low)))))))))

pub free_id-unreachable-requires : goal.free_id-unreachable-requires
free_id-unreachable-requires g t c =
    let types = c.args.resolve.now.types in
    let d = c.index-types-at.result in
    let k = (get_or c.as_slice-types.result.now c.args.id.0 d).kind in
    let at = entry_at types c.as_slice-types.result.now c.args.id.0 d c.as_slice-types.ensures c.requires.within c.index-types-at.is in
    let not = c.in_default in
    other_refused types c.requires.down c.args.id.0 k (record { entry = d; stands = at; kind = ap (λ (x : TypeDef). x.kind) c.index-types-at.is }) c.requires.serves
    (record { alias = not.not-Alias; tuple = not.not-Tuple; option = not.not-Option; result = not.not-Result; fields = not.not-Record; variant = not.not-Variant; enum = not.not-Enum; flags = not.not-Flags })

pub free_id-returns-in_ok-free_type-in-Alias : goal.free_id-returns-in_ok-free_type-in-Alias
free_id-returns-in_ok-free_type-in-Alias g t c =
    let m = g.B.Bindgen.meaning in
    let types = c.args.resolve.now.types in
    let d = c.index-types-at.result in
    let at = entry_at types c.as_slice-types.result.now c.args.id.0 d c.as_slice-types.ensures c.requires.within c.index-types-at.is in
    let is = kind_at c.as_slice-types.result.now c.args.id.0 d (kind.Alias c.in-Alias.ty) c.index-types-at.is c.in-Alias.is in
    record {
      frees = frees_as m g.met.B.Bindgen.sound types _ _ _ _ c.args.address.now c.args.offset (alias_shape types c.requires.down c.args.id.0 d at c.in-Alias.ty is) c.in_ok-free_type-in-Alias.ensures.frees;
      flows = flows_as m types (free_code types c.in-Alias.ty c.args.offset) (free_code types (wit.Id c.args.id) c.args.offset) (c.args.address.now ∷ []) [] _ _ (free_alias_code types c.requires.down c.args.id d at c.args.offset c.in-Alias.ty is) c.in_ok-free_type-in-Alias.ensures.flows;
    }

pub free_id-returns-in_ok-free_parts-in-Record : goal.free_id-returns-in_ok-free_parts-in-Record
free_id-returns-in_ok-free_parts-in-Record g t c =
    let m = g.B.Bindgen.meaning in
    let types = c.args.resolve.now.types in
    let d = c.index-types-at.result in
    let at = entry_at types c.as_slice-types.result.now c.args.id.0 d c.as_slice-types.ensures c.requires.within c.index-types-at.is in
    let is = kind_at c.as_slice-types.result.now c.args.id.0 d (kind.Record c.in-Record.members) c.index-types-at.is c.in-Record.is in
    let members = c.in-Record.members in
    let same : c.as_slice-tys.result.now ≡ map (λ (f : Field). f.ty) members = c.as_slice-tys.ensures ∙ c.in_ok-tys-in-Record.ensures ∙ ap (map (λ (f : Field). f.ty)) c.as_slice.ensures in
    let parts = frees_parts_as m g.met.B.Bindgen.sound types _ _ _ _ c.args.address.now c.args.offset 0 same c.in_ok-free_parts-in-Record.ensures.frees in
    let all = fields_free m g.met.B.Bindgen.sound types (field_shapes types members) _ _ c.args.address.now c.args.offset parts in
    let code : ℕ → WitType → Flow = λ n ty. free_code types ty (beyond c.args.offset (place_in (tree_at types c.args.id.0) n)) in
    record {
      frees = frees_as m g.met.B.Bindgen.sound types _ _ _ _ c.args.address.now c.args.offset (record_shape types c.requires.down c.args.id.0 d at members is) all;
      flows = flows_as m types (each 1 (λ ty. 0) code 0 c.as_slice-tys.result.now) (free_code types (wit.Id c.args.id) c.args.offset) (c.args.address.now ∷ []) [] _ _ (free_record_code types c.requires.down c.args.id d at c.args.offset members is ∙ ap (each 1 (λ ty. 0) code 0) (sym same)) c.in_ok-free_parts-in-Record.ensures.flows;
    }

pub free_id-returns-in_ok-free_parts-in-Tuple : goal.free_id-returns-in_ok-free_parts-in-Tuple
free_id-returns-in_ok-free_parts-in-Tuple g t c =
    let m = g.B.Bindgen.meaning in
    let types = c.args.resolve.now.types in
    let d = c.index-types-at.result in
    let at = entry_at types c.as_slice-types.result.now c.args.id.0 d c.as_slice-types.ensures c.requires.within c.index-types-at.is in
    let is = kind_at c.as_slice-types.result.now c.args.id.0 d (kind.Tuple c.in-Tuple.members) c.index-types-at.is c.in-Tuple.is in
    let tys = c.in-Tuple.members in
    let parts = frees_parts_as m g.met.B.Bindgen.sound types _ _ _ _ c.args.address.now c.args.offset 0 c.as_slice-tys-in-Tuple.ensures c.in_ok-free_parts-in-Tuple.ensures.frees in
    let all = tuple_free m g.met.B.Bindgen.sound types (shapes_of types tys) _ _ c.args.address.now c.args.offset parts in
    let code : ℕ → WitType → Flow = λ n ty. free_code types ty (beyond c.args.offset (place_in (tree_at types c.args.id.0) n)) in
    record {
      frees = frees_as m g.met.B.Bindgen.sound types _ _ _ _ c.args.address.now c.args.offset (tuple_shape types c.requires.down c.args.id.0 d at tys is) all;
      flows = flows_as m types (each 1 (λ ty. 0) code 0 c.as_slice-tys-in-Tuple.result.now) (free_code types (wit.Id c.args.id) c.args.offset) (c.args.address.now ∷ []) [] _ _ (free_tuple_code types c.requires.down c.args.id d at c.args.offset tys is ∙ ap (each 1 (λ ty. 0) code 0) (sym c.as_slice-tys-in-Tuple.ensures)) c.in_ok-free_parts-in-Tuple.ensures.flows;
    }

pub free_id-returns-in-Enum : goal.free_id-returns-in-Enum
free_id-returns-in-Enum g t c =
    let m = g.B.Bindgen.meaning in
    let types = c.args.resolve.now.types in
    let d = c.index-types-at.result in
    let at = entry_at types c.as_slice-types.result.now c.args.id.0 d c.as_slice-types.ensures c.requires.within c.index-types-at.is in
    let members = c.in-Enum.field-0 in
    let is = kind_at c.as_slice-types.result.now c.args.id.0 d (kind.Enum members) c.index-types-at.is c.in-Enum.is in
    record {
      frees = frees_as m g.met.B.Bindgen.sound types _ _ _ _ c.args.address.now c.args.offset (enum_shape types c.requires.down c.args.id.0 d at members is) (enum_frees m g.met.B.Bindgen.sound types members _ c.args.address.now c.args.offset);
      flows = flows_as m types leave_none (free_code types (wit.Id c.args.id) c.args.offset) (c.args.address.now ∷ []) [] _ _ (free_enum_code types c.requires.down c.args.id d at c.args.offset members is) (refl, refl);
    }

pub free_id-returns-in-Flags : goal.free_id-returns-in-Flags
free_id-returns-in-Flags g t c =
    let m = g.B.Bindgen.meaning in
    let types = c.args.resolve.now.types in
    let d = c.index-types-at.result in
    let at = entry_at types c.as_slice-types.result.now c.args.id.0 d c.as_slice-types.ensures c.requires.within c.index-types-at.is in
    let members = c.in-Flags.field-0 in
    let is = kind_at c.as_slice-types.result.now c.args.id.0 d (kind.Flags members) c.index-types-at.is c.in-Flags.is in
    record {
      frees = frees_as m g.met.B.Bindgen.sound types _ _ _ _ c.args.address.now c.args.offset (flags_shape types c.requires.down c.args.id.0 d at members is) (flags_frees m g.met.B.Bindgen.sound types (length members) _ c.args.address.now c.args.offset);
      flows = flows_as m types leave_none (free_code types (wit.Id c.args.id) c.args.offset) (c.args.address.now ∷ []) [] _ _ (free_flags_code types c.requires.down c.args.id d at c.args.offset members is) (refl, refl);
    }

pub free_parts-loop-i-init : goal.free_parts-loop-i-init
free_parts-loop-i-init g t c =
    let m = g.B.Bindgen.meaning in
    record { adds = adds_same m _; flows = λ new gives h. h; rest = λ new h. h }

pub free_parts-free_type-requires : goal.free_parts-free_type-requires
free_parts-free_type-requires g t c κs within =
    let types = c.args.resolve.now.types in
    let short : c.loop-i.i < length c.args.tys.now = omega (arith, c.loop-i-test.true) in
    let low : rank (get_or c.args.tys.now c.loop-i.i wit.Bool) ≤ c.args.id.0 = part_ranked c.args.id.0 c.args.tys.now c.requires.below c.loop-i.i wit.Bool short in
    let below = part_below_table c.args.id.0 c.args.tys.now c.requires.below c.loop-i.i wit.Bool short (length types) c.requires.within in
    let knows = c.loop-i.invariant.adds.grows.knows types c.requires.knows in
    let tys = c.args.tys.now in
    let serves = part_served types tys c.loop-i.i wit.Bool c.requires.serves short in
    let found = c.part_place-place.ensures types c.requires.parts.0 knows c.requires.parts.1 (no_alias 3 types c.args.id.0 tys c.requires.parts) in
    let ends = part_ends types tys c.loop-i.i wit.Bool short c.args.id c.requires.down c.requires.parts c.args.offset c.requires.low c.part_place-place.result found.0 found.1 found.2 in
    (omega (arith, low), (within.0, (within.1, (c.requires.down, (below, (knows, (serves, ends)))))))

pub free_parts-part_place-place-requires : goal.free_parts-part_place-place-requires
free_parts-part_place-place-requires g t c =
    let types = c.args.resolve.now.types in
    let short : c.loop-i.i < length c.args.tys.now = omega (arith, c.loop-i-test.true) in
    let knows = c.loop-i.invariant.adds.grows.knows types c.requires.knows in
    (types, knows, part_low types c.args.tys.now c.loop-i.i wit.Bool short c.args.id c.requires.down c.requires.parts c.args.offset c.requires.low)

pub free_parts-loop-i-preserved : goal.free_parts-loop-i-preserved
free_parts-loop-i-preserved g t c =
    let m = g.B.Bindgen.meaning in
    let types = c.args.resolve.now.types in
    let tys = c.args.tys.now in
    let i = c.loop-i.i in
    let short : i < length tys = omega (arith, c.loop-i-test.true) in
    let knows = c.loop-i.invariant.adds.grows.knows types c.requires.knows in
    let tree = tree_at types c.args.id.0 in
    let found = c.part_place-place.ensures types c.requires.parts.0 knows c.requires.parts.1 (no_alias m.width types c.args.id.0 tys c.requires.parts) in
    let place = place_told m.width c.part_place-place.result c.args.offset found.0 (λ w. slice_index (field_offsets w tree) i) g.met.B.Bindgen.sound.wide found.1 found.2 in
    let here = ap (free_code types (get_or tys i wit.Bool)) (sym (place_sent c.part_place-place.result c.args.offset found.0 tree i found.1 found.2)) in
    let reads = c.args.address.now ∷ [] in
    let code : ℕ → WitType → Flow = λ n ty. free_code types ty (beyond c.args.offset (place_in tree n)) in
    let flow = flows_as m types (free_code types (get_or tys i wit.Bool) c.part_place-place.result) (code i (get_or tys i wit.Bool)) reads [] c.loop-i.bindgen c.free_type.new.bindgen here c.in_ok-free_type.ensures.flows in
    record {
      adds = adds_both m _ _ _ c.loop-i.invariant.adds c.in_ok-free_type.ensures.frees.adds;
      flows = flows_next m types 1 (λ ty. 0) code reads tys reads c.args.bindgen.now i wit.Bool [] [] [] [] [] c.loop-i.bindgen c.free_type.new.bindgen short refl refl refl flow c.loop-i.invariant.flows;
      rest = rest_next m g.met.B.Bindgen.sound types tys c.args.address.now c.args.offset c.part_place-place.result i _ _ _ (get_or tys i wit.Bool)
          (drop_more tys i wit.Bool short)
          (behind_next m.width types tys i wit.Bool short)
          (place ∙ ap (λ n. bytes_at c.args.offset (2 ^ m.width) + n) (part_offset m.width types c.args.id tys i wit.Bool c.requires.down c.requires.parts short))
          c.in_ok-free_type.ensures.frees c.loop-i.invariant.rest;
    }

pub free_parts-returns : goal.free_parts-returns
free_parts-returns g t c =
    let m = g.B.Bindgen.meaning in
    let ended : length c.args.tys.now ≤ c.loop-i.i = omega (arith, c.loop-i-test.false) in
    let types = c.args.resolve.now.types in
    let code : ℕ → WitType → Flow = λ n ty. free_code types ty (beyond c.args.offset (place_in (tree_at types c.args.id.0) n)) in
    record {
      frees = rest_last m g.met.B.Bindgen.sound types c.args.tys.now c.args.address.now c.args.offset c.loop-i.i _ _ ended c.loop-i.invariant.rest;
      flows = flows_last m types 1 (λ ty. 0) code (c.args.address.now ∷ []) c.args.tys.now (c.args.address.now ∷ []) c.args.bindgen.now c.loop-i.i [] [] _ ended c.loop-i.invariant.flows;
    }

pub free_type-returns-in-Some : goal.free_type-returns-in-Some
free_type-returns-in-Some g t c =
    let m = g.B.Bindgen.meaning in
    let types = c.args.resolve.now.types in
    let is = sym c.scalar_lifting.ensures ∙ c.in-Some.is in
    record {
      frees = scalar_frees m g.met.B.Bindgen.sound types c.args.ty c.in-Some._lift c.args.bindgen.now c.args.address.now c.args.offset is;
      flows = flows_as m types leave_none (free_code types c.args.ty c.args.offset) (c.args.address.now ∷ []) [] _ _ (free_scalar_code types c.args.offset c.args.ty c.in-Some._lift is) (refl, refl);
    }

pub free_id-free_variant-requires : goal.free_id-free_variant-requires
free_id-free_variant-requires g t c κs within =
    let types = c.args.resolve.now.types in
    let d = c.index-types-at.result in
    let at = entry_at types c.as_slice-types.result.now c.args.id.0 d c.as_slice-types.ensures c.requires.within c.index-types-at.is in
    let k = (get_or c.as_slice-types.result.now c.args.id.0 d).kind in
    let here : IsKindOf types c.args.id.0 k = record { entry = d; stands = at; kind = ap (λ (x : TypeDef). x.kind) c.index-types-at.is } in
    let cases : has_cases k ≡ true = ap has_cases c.in-Variant.is in
    (omega arith, (within.0, (within.1, (c.requires.down, (here, (cases, (c.requires.knows, (c.requires.serves, c.requires.low))))))))

pub free_id-free_variant-requires-in-Option : goal.free_id-free_variant-requires-in-Option
free_id-free_variant-requires-in-Option g t c κs within =
    let types = c.args.resolve.now.types in
    let d = c.index-types-at.result in
    let at = entry_at types c.as_slice-types.result.now c.args.id.0 d c.as_slice-types.ensures c.requires.within c.index-types-at.is in
    let k = (get_or c.as_slice-types.result.now c.args.id.0 d).kind in
    let here : IsKindOf types c.args.id.0 k = record { entry = d; stands = at; kind = ap (λ (x : TypeDef). x.kind) c.index-types-at.is } in
    let cases : has_cases k ≡ true = ap has_cases c.in-Option.is in
    (omega arith, (within.0, (within.1, (c.requires.down, (here, (cases, (c.requires.knows, (c.requires.serves, c.requires.low))))))))

pub free_id-free_variant-requires-in-Result : goal.free_id-free_variant-requires-in-Result
free_id-free_variant-requires-in-Result g t c κs within =
    let types = c.args.resolve.now.types in
    let d = c.index-types-at.result in
    let at = entry_at types c.as_slice-types.result.now c.args.id.0 d c.as_slice-types.ensures c.requires.within c.index-types-at.is in
    let k = (get_or c.as_slice-types.result.now c.args.id.0 d).kind in
    let here : IsKindOf types c.args.id.0 k = record { entry = d; stands = at; kind = ap (λ (x : TypeDef). x.kind) c.index-types-at.is } in
    let cases : has_cases k ≡ true = ap has_cases c.in-Result.is in
    (omega arith, (within.0, (within.1, (c.requires.down, (here, (cases, (c.requires.knows, (c.requires.serves, c.requires.low))))))))

pub free_variant-free_cases-requires : goal.free_variant-free_cases-requires
free_variant-free_cases-requires g t c κs within =
    let m = g.B.Bindgen.meaning in
    let types = c.args.resolve.now.types in
    let d = c.requires.here.entry in
    let at = c.requires.here.stands in
    let k = c.args.kind.now in
    let is : d.kind ≡ k = c.requires.here.kind in
    let same = c.as_slice-tys.ensures ∙ c.in_ok-payloads.ensures in
    let below = subst (λ (ps : List (Option WitType)). list_all (λ p. payload_below c.args.id.0 p) ps ≡ true) (sym same) (variant_below types c.requires.down c.args.id.0 k (record { entry = d; stands = at; kind = is }) c.requires.cases) in
    let loaded = number_load_adds m g.met.B.Bindgen.sound types (discriminant_grain (length c.as_slice-tys.result.now)) c.args.offset (c.args.address.now ∷ []) (c.in_ok-tag.tag ∷ []) _ _ c.in_ok-tag.ensures in
    let knows = loaded.grows.knows types c.requires.knows in
    let shape = variant_shape types c.requires.down c.args.id.0 k c.requires.here c.requires.cases ∙ ap (λ (ps : List (Option WitType)). cases (payloads_in (shapes types) ps)) (sym same) in
    let tys = c.as_slice-tys.result.now in
    let serves = payloads_served types c.args.id.0 tys shape c.requires.serves in
    let place = c.payload_place-place.ensures types d c.requires.knows at (ap is_alias is ∙ cases_no_alias 3 types k c.requires.cases) in
    let low = payloads_low types c.args.id (payloads_in (shapes types) tys) shape c.args.offset c.requires.low c.payload_place-place.result place.0 place.1 place.2 in
    (omega arith, (within.0, (within.1, (c.requires.down, ((slice_get_within types c.args.id.0 d at), (below, (knows, (serves, low))))))))

pub free_variant-overflow_cast-count : goal.free_variant-overflow_cast-count
free_variant-overflow_cast-count g t c =
    let types = c.args.resolve.now.types in
    let same = c.as_slice-tys.ensures ∙ c.in_ok-payloads.ensures in
    let shape = variant_shape types c.requires.down c.args.id.0 c.args.kind.now c.requires.here c.requires.cases ∙ ap (λ (ps : List (Option WitType)). cases (payloads_in (shapes types) ps)) (sym same) in
    omega (arith, few_payloads types c.args.id.0 c.as_slice-tys.result.now shape c.requires.serves)

pub free_variant-payload_place-place-requires : goal.free_variant-payload_place-place-requires
free_variant-payload_place-place-requires g t c =
    let types = c.args.resolve.now.types in
    let here = c.requires.here in
    let k = c.args.kind.now in
    let own = ap is_alias here.kind ∙ cases_no_alias 3 types k c.requires.cases in
    let shape = variant_shape types c.requires.down c.args.id.0 k here c.requires.cases in
    (types, c.requires.knows, payload_begins types c.args.id (payloads_in (shapes types) (payloads_of k)) shape c.args.offset c.requires.low here.entry here.stands own)

pub free_variant-run_case-requires : goal.free_variant-run_case-requires
free_variant-run_case-requires g t c =
    let m = g.B.Bindgen.meaning in
    let types = c.args.resolve.now.types in
    let tys = c.as_slice-tys.result.now in
    let ts = payloads_in (shapes types) tys in
    let frees = c.in_ok-free_cases.ensures.frees in
    let finished = are_finished m (replicate (count ts) 0) frees.bodies _ _ frees.adds in
    let many = count_payloads (shapes types) tys in
    let same = c.as_slice-tys.ensures ∙ c.in_ok-payloads.ensures in
    let shape = variant_shape types c.requires.down c.args.id.0 c.args.kind.now c.requires.here c.requires.cases ∙ ap (λ (ps : List (Option WitType)). cases (payloads_in (shapes types) ps)) (sym same) in
    let some = some_case ts (sym (ap has_list shape) ∙ sym c.id_has_list.ensures ∙ c.if-not-id_has_list.false) in
    record { some = omega (arith, some, many); blocks = subst (λ ks. HasBlocks m ks c.free_cases.new.bindgen) (same_back (count ts) 0 ∙ ap (λ n. replicate n 0) many) finished }

pub free_variant-returns-then-not-id_has_list : goal.free_variant-returns-then-not-id_has_list
free_variant-returns-then-not-id_has_list g t c =
    let m = g.B.Bindgen.meaning in
    let types = c.args.resolve.now.types in
    let d = c.requires.here.entry in
    let at = c.requires.here.stands in
    let k = c.args.kind.now in
    let is : d.kind ≡ k = c.requires.here.kind in
    freed_none m g.met.B.Bindgen.sound types c.requires.down c.args.id d at k c.requires.cases is (sym c.id_has_list.ensures ∙ c.if-not-id_has_list.true) _ c.args.address.now c.args.offset

pub free_variant-returns : goal.free_variant-returns
free_variant-returns g t c =
    let m = g.B.Bindgen.meaning in
    let types = c.args.resolve.now.types in
    let d = c.requires.here.entry in
    let at = c.requires.here.stands in
    let k = c.args.kind.now in
    let is : d.kind ≡ k = c.requires.here.kind in
    let same = c.as_slice-tys.ensures ∙ c.in_ok-payloads.ensures in
    let has = c.requires.cases in
    let tys = c.as_slice-tys.result.now in
    let found = c.payload_place-place.ensures types d c.requires.knows at (ap is_alias is ∙ cases_no_alias m.width types k has) in
    let shape = variant_shape types c.requires.down c.args.id.0 k c.requires.here has ∙ ap (λ (ps : List (Option WitType)). cases (payloads_in (shapes types) ps)) (sym same) in
    let most = few_payloads types c.args.id.0 tys shape c.requires.serves in
    let some = sym c.id_has_list.ensures ∙ c.if-not-id_has_list.false in
    freed_variant m g.met.B.Bindgen.sound types c.requires.down c.args.id d at k has is some c.args.address.now c.in_ok-tag.tag c.args.offset c.payload_place-place.result found tys same (length tys) refl most _ _ _ _
    c.in_ok-tag.ensures c.in_ok-free_cases.ensures.frees c.in_ok-free_cases.ensures.flows c.in_ok-run_case.ensures

pub free_cases-loop-i-init : goal.free_cases-loop-i-init
free_cases-loop-i-init g t c =
    let m = g.B.Bindgen.meaning in
    record { resumes = resumes_same m _; flows = λ new gives h. h; rest = λ new h. h }

pub free_cases-free_case-requires : goal.free_cases-free_case-requires
free_cases-free_case-requires g t c κs within =
    let short : c.loop-i.i < length c.args.payloads.now = omega (arith, c.loop-i-test.true) in
    let below = payload_low c.args.id.0 c.args.payloads.now c.requires.below c.loop-i.i None short in
    let knows = c.loop-i.invariant.resumes.knows c.args.resolve.now.types c.requires.knows in
    let serves = payload_served c.args.resolve.now.types c.args.payloads.now c.loop-i.i None c.requires.serves short in
    let low = payload_ends (shapes c.args.resolve.now.types) c.args.payloads.now c.loop-i.i None c.args.place c.requires.low short in
    (omega arith, (within.0, (within.1, (c.requires.down, (c.requires.within, (below, (knows, (serves, low))))))))

pub free_cases-loop-i-preserved : goal.free_cases-loop-i-preserved
free_cases-loop-i-preserved g t c =
    let m = g.B.Bindgen.meaning in
    let types = c.args.resolve.now.types in
    let ps = c.args.payloads.now in
    let i = c.loop-i.i in
    let short : i < length ps = omega (arith, c.loop-i-test.true) in
    let one = c.in_ok-free_case.ensures in
    let code : ℕ → Option WitType → Flow = λ n p. in_block (at_payload c.args.place (option_map (λ ty. (ty, free_code types ty)) p)) in
    let reads = c.args.address.now ∷ [] in
    record {
      resumes = resumes_both m _ _ _ c.loop-i.invariant.resumes one.frees.adds.resumes;
      flows = flows_next m types 1 (λ payload. 0) code reads ps reads c.args.bindgen.now i None [] [] [] [] [] c.loop-i.bindgen c.free_case.new.bindgen short refl refl refl one.flows c.loop-i.invariant.flows;
      rest = next_case m g.met.B.Bindgen.sound types ps c.args.address.now c.args.place i _ _ _ (get_or ps i None) (drop_more ps i None short) one.frees c.loop-i.invariant.rest;
    }

pub free_cases-returns : goal.free_cases-returns
free_cases-returns g t c =
    let m = g.B.Bindgen.meaning in
    let types = c.args.resolve.now.types in
    let ps = c.args.payloads.now in
    let ended : length ps ≤ c.loop-i.i = omega (arith, c.loop-i-test.false) in
    let code : ℕ → Option WitType → Flow = λ n p. in_block (at_payload c.args.place (option_map (λ ty. (ty, free_code types ty)) p)) in
    let reads = c.args.address.now ∷ [] in
    record {
      frees = last_case m g.met.B.Bindgen.sound types ps c.args.address.now c.args.place c.loop-i.i _ _ ended c.loop-i.invariant.rest;
      flows = flows_last m types 1 (λ payload. 0) code reads ps reads c.args.bindgen.now c.loop-i.i [] [] _ ended c.loop-i.invariant.flows;
    }

pub free_case-free_payload-requires : goal.free_case-free_payload-requires
free_case-free_payload-requires g t c κs within =
    let below = payload_type_low c.args.id.0 c.in-Some.ty (subst (λ (p : Option WitType). payload_below c.args.id.0 p ≡ true) c.in-Some.is c.requires.below) in
    let ss = shapes c.args.resolve.now.types in
    let serves = subst (λ (p : Option WitType). Serves (payload_in ss p)) c.in-Some.is c.requires.serves in
    let low = subst (λ (p : Option WitType). EndsLow (payload_in ss p) c.args.place) c.in-Some.is c.requires.low in
    (omega arith, (within.0, (within.1, (c.requires.down, (c.requires.within, (below, (c.requires.knows, (serves, low))))))))

pub free_case-returns-in_ok-empty_block-in-None : goal.free_case-returns-in_ok-empty_block-in-None
free_case-returns-in_ok-empty_block-in-None g t c =
    let m = g.B.Bindgen.meaning in
    let block = c.in_ok-empty_block-in-None.ensures in
    let types = c.args.resolve.now.types in
    let bare = bare_frees m g.met.B.Bindgen.sound c.args.address.now c.args.place _ _ _ block.1 block.2 in
    let end = c.empty_block.new.bindgen in
    let empty = flows_block m types leave_none (c.args.address.now ∷ []) [] c.args.bindgen.now block.0 block.0 end block.1 (refl, refl) block.2 in
    record {
      frees = subst (λ (p : Option WitType). FreesPayload m (payload_in (shapes types) p) c.args.address.now c.args.place c.args.bindgen.now end) (sym c.in-None.is) bare;
      flows = subst (λ (p : Option WitType). Flows m types (in_block (at_payload c.args.place (option_map (λ ty. (ty, free_code types ty)) p))) (c.args.address.now ∷ []) [] c.args.bindgen.now end) (sym c.in-None.is) empty;
    }

pub free_payload-free_type-requires : goal.free_payload-free_type-requires
free_payload-free_type-requires g t c κs within =
    let types = c.args.resolve.now.types in
    let low : rank c.args.ty ≤ c.args.id.0 = type_ranked c.args.id.0 c.args.ty c.requires.below in
    let below = type_below_table c.args.id.0 (length types) c.args.ty c.requires.below c.requires.within in
    let knows = c.in_ok-push_block.ensures.lasts.knows types c.requires.knows in
    (omega (arith, low), (within.0, (within.1, (c.requires.down, (below, (knows, (c.requires.serves, c.requires.low)))))))

pub free_payload-close-requires : goal.free_payload-close-requires
free_payload-close-requires g t c =
    let m = g.B.Bindgen.meaning in
    let begins = c.in_ok-push_block.ensures in
    record { slot = begins.slot; suspended = m.code c.args.bindgen.now; outer = m.opened c.args.bindgen.now; opened = c.in_ok-free_type.ensures.frees.adds.grows.opened ∙ begins.opened }

pub free_payload-returns : goal.free_payload-returns
free_payload-returns g t c =
    let m = g.B.Bindgen.meaning in
    let types = c.args.resolve.now.types in
    let begins = c.in_ok-push_block.ensures in
    let part = c.in_ok-free_type.ensures in
    let ends = c.in_ok-close.ensures in
    record {
      frees = payload_frees m g.met.B.Bindgen.sound (shape_of types c.args.ty) c.args.address.now c.args.place _ _ _ _ begins part.frees ends;
      flows = flows_block m types (free_code types c.args.ty c.args.place) (c.args.address.now ∷ []) [] _ _ _ _ begins part.flows ends;
    }
