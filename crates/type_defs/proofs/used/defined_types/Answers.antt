use Rattle.std.proofs.Common.{◌≡◌, ◌∙◌, ◌+◌, ◌<◌, ◌++◌, [], Bool, List, Some, append_assoc, cond, drop, get_or, map, slice_get, sym, ap, subst}
use Rattle.std.specs.List.{flat_map}
use Rattle.std.proofs.lemmas.Option.{slice_get-get_or}
use Rattle.wit_model.specs.declared.name.TypeId.{TypeId}
use Rattle.wit_model.specs.declared.types.TypeDef.{TypeDef}
use Rattle.type_facts.specs.Facts.{IsNamed}
use Rattle.type_defs.specs.ListedTypes.{listed_types, types_in}
use Rattle.type_defs.specs.PrintedTypes.{entry_at}
use Rattle.type_defs.specs.Used.{is_wanted_at}
use Rattle.type_defs.proofs.ListingLemmas.{first-id}
use Rattle.type_defs.proofs.UsedTypeLemmas.{filtered, listed-named, named-within, wanted-entry}
use Rattle.type_defs.proofs.used.defined_types.Goals as goal
use Rattle.wit_model.proofs.ListLemmas.{drop_at}

pub get-requires : goal.get-requires
get-requires c =
    let r = c.args.resolve.now in
    let items = c.as_slice-own-items.result.now in
    let type = get_or items c.loop-own.own-index first-id in
    let are : items ≡ listed_types c.args.world.now = c.as_slice-own-items.ensures ∙ c.in_ok-listed.ensures ∙ ap types_in c.as_slice.ensures in
    let at : slice_get (listed_types c.args.world.now) c.loop-own.own-index ≡ Some type = subst (λ (ids : List TypeId). slice_get ids c.loop-own.own-index ≡ Some type) are (slice_get-get_or items c.loop-own.own-index first-id c.loop-own-test.true) in
    let named : IsNamed r.types type = listed-named r c.requires.analyzed.0.0 c.args.world.now c.requires.listed c.requires.analyzed.1 c.loop-own.own-index type at in
    subst (λ n. type.0 < n) (sym c.requires.analyzed.2.count) (named-within r.types type named)

pub loop-own-init : goal.loop-own-init
loop-own-init c =
    let r = c.args.resolve.now in
    let test : TypeId → Bool = λ type. is_wanted_at c.args.opts r c.args.world.now type.0 in
    let of : List TypeId → List TypeDef = λ ids. flat_map (λ id. cond (test id) (entry_at r.types id) []) ids in
    let are : c.as_slice-own-items.result.now ≡ listed_types c.args.world.now = c.as_slice-own-items.ensures ∙ c.in_ok-listed.ensures ∙ ap types_in c.as_slice.ensures in
    ap (λ ts. map (λ t. t.now) ts ++ of c.as_slice-own-items.result.now) c.new-defined.ensures.items ∙ ap of are ∙ sym (filtered test (entry_at r.types) (listed_types c.args.world.now))

pub loop-own-preserved : goal.loop-own-preserved
loop-own-preserved c =
    let r = c.args.resolve.now in
    let world = c.args.world.now in
    let items = c.as_slice-own-items.result.now in
    let type = get_or items c.loop-own.own-index first-id in
    let are : items ≡ listed_types world = c.as_slice-own-items.ensures ∙ c.in_ok-listed.ensures ∙ ap types_in c.as_slice.ensures in
    let there : slice_get items c.loop-own.own-index ≡ Some type = slice_get-get_or items c.loop-own.own-index first-id c.loop-own-test.true in
    let at : slice_get (listed_types world) c.loop-own.own-index ≡ Some type = subst (λ (ids : List TypeId). slice_get ids c.loop-own.own-index ≡ Some type) are there in
    let named : IsNamed r.types type = listed-named r c.requires.analyzed.0.0 world c.requires.listed c.requires.analyzed.1 c.loop-own.own-index type at in
    let test : TypeId → Bool = λ type. is_wanted_at c.args.opts r world type.0 in
    let of : List TypeId → List TypeDef = λ ids. flat_map (λ id. cond (test id) (entry_at r.types id) []) ids in
    let before : List TypeDef = map (λ t. t.now) c.loop-own.defined.items in
    let rest : List TypeDef = of (drop (c.loop-own.own-index + 1) items) in
    let here = wanted-entry c.args.opts r c.requires.analyzed.0 world type c.get.result c.requires.shallow c.requires.analyzed.1 named (c.get.ensures r c.requires.analyzed.0 c.requires.analyzed.2) in
    ap (λ ts. ts ++ rest) (c.in_ok-push_defined.ensures ∙ ap (λ ts. before ++ ts) here) ∙ append_assoc before (cond (test type) (entry_at r.types type) []) rest
    ∙ sym (ap (λ ids. before ++ of ids) (drop_at items c.loop-own.own-index type there)) ∙ c.loop-own.invariant
