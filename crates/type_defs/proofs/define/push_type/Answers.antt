use Rattle.std.proofs.Common.{◌≡◌, ◌++◌, ◌<◌, length, Some, refl, sym, ap, subst, ◌∙◌}
use Rattle.std.specs.Prelude.{slice_get}
use Rattle.std.proofs.lemmas.Option.{slice_get-get_or}
use Rattle.type_defs.specs.Defined.{entry_definitions, entry_items}
use Rattle.type_defs.proofs.DefinedLemmas.{entry-modes, facts-owned}
use Rattle.type_defs.proofs.define.push_type.Goals as goal

pub push_entry-requires-clause-owned : goal.push_entry-requires-clause-owned
push_entry-requires-clause-owned c =
    let a = c.requires.analyzed in facts-owned c.args.resolve.now a.0 c.args.id c.get.result c.requires.kinds (c.get.ensures c.args.resolve.now a.0 a.1)

pub returns : goal.returns
returns c =
    let entry = c.index-types-id.result in
    let r = c.args.resolve.now in
    let types = c.as_slice-types.result.now in
    let same : types ≡ r.types = c.as_slice-types.ensures in
    let within : c.args.id.0 < length types = subst (λ ts. c.args.id.0 < length ts) (sym same) c.requires.within in
    let at : slice_get r.types c.args.id.0 ≡ Some entry = subst (λ ts. slice_get ts c.args.id.0 ≡ Some entry) same (slice_get-get_or types c.args.id.0 entry within ∙ ap Some (sym c.index-types-id.is)) in
    let names = entry_definitions c.args.opts c.get.result entry.kind entry.name in (
      entry_items r.types c.get.result entry names,
      c.in_ok-push_entry.ensures ∙ ap (λ ts. c.args.items.now ++ entry_items ts c.get.result entry names) same,
      λ world analyzed. record {
        entry = entry;
        entry_at = at;
        info = c.get.result;
        facts = c.get.ensures r world analyzed;
        owned = entry-modes c.args.opts c.get.result entry.kind entry.name c.requires.owning (facts-owned r world c.args.id c.get.result c.requires.kinds (c.get.ensures r world analyzed));
        are = refl;
      },
    )
