use Rattle.std.proofs.Common.{◌≡◌, ◌++◌, true, false, OnOk, append-nil, sym, ap, subst, ◌∙◌}
use Rattle.type_defs.specs.Modes.{is_wanted}
use Rattle.type_defs.proofs.DefinedLemmas.{entry-items}
use Rattle.type_defs.proofs.define.push_entry.Goals as goal

pub returns-then-not-is_defined : goal.returns-then-not-is_defined
returns-then-not-is_defined c =
    let asked = c.is_defined.ensures in
    let unasked = c.if-not-is_defined.ensures in
    let used : is_wanted c.args.opts c.args.info c.args.entry.now.kind ≡ false = cc in
    let none = entry-items c.args.opts c.args.types.now c.args.info c.args.entry.now c.in-Some.name false c.requires.owning c.in-Some.is used in
    sym (ap (λ is. c.args.items.now ++ is) none ∙ append-nil c.args.items.now)

pub returns : goal.returns
returns c =
    let asked = c.is_defined.ensures in
    let given = c.if-not-is_defined.ensures in
    let used : is_wanted c.args.opts c.args.info c.args.entry.now.kind ≡ true = cc in
    let one = entry-items c.args.opts c.args.types.now c.args.info c.args.entry.now c.in-Some.name true c.requires.owning c.in-Some.is used in
    subst (λ is. OnOk c.push_kind.result (c.push_kind.new.items ≡ c.args.items.now ++ is)) (sym one) c.push_kind.ensures
