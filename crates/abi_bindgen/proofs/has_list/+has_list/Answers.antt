use Rattle.std.proofs.Common.{rules, get_or, ◌≡◌, ◌<◌, ◌≤◌, length, None, Some, sym, ap, ◌∙◌, arith}
use Rattle.std.specs.List.{slice_get}
use Rattle.std.proofs.lemmas.Option.{slice_get-get_or}
use Rattle.wit_model.specs.declared.types.TypeDef.{TypeDef}
use Rattle.wit_model.specs.Parts.{parts}
use Rattle.wit_layout.proofs.FlattenSteps.{rank}
use Rattle.abi_bindgen.specs.HasList.{IsKindOf, payload_has_list}
use Rattle.abi_bindgen.proofs.HasList.{any_here, any_later, list_has, part_below, part_low, parts_tell, untold}
use Rattle.abi_bindgen.proofs.Records.{entry_at}
use Rattle.abi_bindgen.proofs.has_list.+has_list.Goals as goal

pub id_has_list-returns-then-is_list : goal.id_has_list-returns-then-is_list
id_has_list-returns-then-is_list t c =
    let types = c.args.resolve.now.types in
    let d = c.index-types-at.result in
    let at = entry_at types c.as_slice-types.result.now c.args.id.0 d c.as_slice-types.ensures c.requires.within c.index-types-at.is in
    let k = (get_or c.as_slice-types.result.now c.args.id.0 d).kind in
    let here : IsKindOf types c.args.id.0 k = record { entry = d; stands = at; kind = ap (λ (x : TypeDef). x.kind) c.index-types-at.is } in
    sym (list_has types c.requires.down c.args.id.0 k here (sym c.is_list.ensures ∙ c.if-is_list.true))

pub id_has_list-returns-then-not-is_told_by_parts : goal.id_has_list-returns-then-not-is_told_by_parts
id_has_list-returns-then-not-is_told_by_parts t c =
    let types = c.args.resolve.now.types in
    let d = c.index-types-at.result in
    let at = entry_at types c.as_slice-types.result.now c.args.id.0 d c.as_slice-types.ensures c.requires.within c.index-types-at.is in
    let k = (get_or c.as_slice-types.result.now c.args.id.0 d).kind in
    let here : IsKindOf types c.args.id.0 k = record { entry = d; stands = at; kind = ap (λ (x : TypeDef). x.kind) c.index-types-at.is } in
    sym (untold types c.requires.down c.args.id.0 k here (sym c.is_told_by_parts.ensures ∙ c.if-not-is_told_by_parts.true))

pub id_has_list-parts_have_list-requires : goal.id_has_list-parts_have_list-requires
id_has_list-parts_have_list-requires t c =
    let types = c.args.resolve.now.types in
    let d = c.index-types-at.result in
    let at = entry_at types c.as_slice-types.result.now c.args.id.0 d c.as_slice-types.ensures c.requires.within c.index-types-at.is in
    let k = (get_or c.as_slice-types.result.now c.args.id.0 d).kind in
    let here : IsKindOf types c.args.id.0 k = record { entry = d; stands = at; kind = ap (λ (x : TypeDef). x.kind) c.index-types-at.is } in
    search rules

pub id_has_list-returns : goal.id_has_list-returns
id_has_list-returns t c =
    let types = c.args.resolve.now.types in
    let d = c.index-types-at.result in
    let at = entry_at types c.as_slice-types.result.now c.args.id.0 d c.as_slice-types.ensures c.requires.within c.index-types-at.is in
    let k = (get_or c.as_slice-types.result.now c.args.id.0 d).kind in
    let here : IsKindOf types c.args.id.0 k = record { entry = d; stands = at; kind = ap (λ (x : TypeDef). x.kind) c.index-types-at.is } in
    c.parts_have_list.ensures ∙ sym (parts_tell types c.requires.down c.args.id.0 k here (sym c.is_list.ensures ∙ c.if-is_list.false) (sym c.is_told_by_parts.ensures ∙ c.if-not-is_told_by_parts.false))

pub part_has_list-type_has_list-requires : goal.part_has_list-type_has_list-requires
part_has_list-type_has_list-requires t c =
    let types = c.args.resolve.now.types in
    let part = c.part.ensures ∙ ap Some c.in-Some.is in
    let low : rank c.in-Some.ty ≤ c.args.at = part_low types c.requires.down c.args.at c.args.kind.now c.requires.here c.args.nth c.in-Some.ty part in
    let below = part_below types c.requires.down c.args.at c.args.kind.now c.requires.here c.args.nth c.in-Some.ty part c.requires.within in
    search rules

pub parts_have_list-returns-then-part_has_list : goal.parts_have_list-returns-then-part_has_list
parts_have_list-returns-then-part_has_list t c =
    let has = payload_has_list c.args.resolve.now.types in
    let xs = parts c.args.kind.now in
    let nth = c.loop-nth.nth in
    let short : nth < length xs = omega (arith, c.loop-nth-test.true, c.part_count-nth-end.ensures) in
    let at : slice_get xs nth ≡ Some (get_or xs nth None) = slice_get-get_or xs nth None short in
    sym (sym c.loop-nth.invariant ∙ any_here has xs nth (get_or xs nth None) at short (sym (c.part_has_list.ensures (get_or xs nth None) at) ∙ c.if-part_has_list.true))

pub parts_have_list-loop-nth-preserved : goal.parts_have_list-loop-nth-preserved
parts_have_list-loop-nth-preserved t c =
    let has = payload_has_list c.args.resolve.now.types in
    let xs = parts c.args.kind.now in
    let nth = c.loop-nth.nth in
    let short : nth < length xs = omega (arith, c.loop-nth-test.true, c.part_count-nth-end.ensures) in
    let at : slice_get xs nth ≡ Some (get_or xs nth None) = slice_get-get_or xs nth None short in
    any_later has xs nth (get_or xs nth None) at short (sym (c.part_has_list.ensures (get_or xs nth None) at) ∙ c.if-part_has_list.false) ∙ c.loop-nth.invariant
