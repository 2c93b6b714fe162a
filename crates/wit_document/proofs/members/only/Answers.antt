use Rattle.std.proofs.Common.{◌≡◌, true, false, sym, ap, ◌∙◌, rules}
use Rattle.wit_document.specs.View.{view}
use Rattle.wit_document.proofs.Keys.{no_key_but, only_at}
use Rattle.wit_document.proofs.members.only.Goals as goal

pub returns-then-has_no_key_but : goal.returns-then-has_no_key_but
returns-then-has_no_key_but c =
    let es = c.in-Some.members.now.items in
    let all : no_key_but c.args.keys.now es ≡ true = sym (ap (no_key_but c.args.keys.now) c.deref.ensures.value) ∙ sym c.if-has_no_key_but.ensures in
    rw (only_at c.args.keys.now (view c.args.value.now) es (search rules), all)

pub returns-else-has_no_key_but : goal.returns-else-has_no_key_but
returns-else-has_no_key_but c =
    let es = c.in-Some.members.now.items in
    let all : no_key_but c.args.keys.now es ≡ false = sym (ap (no_key_but c.args.keys.now) c.deref.ensures.value) ∙ sym c.if-has_no_key_but.ensures in
    rw (only_at c.args.keys.now (view c.args.value.now) es (search rules), all)
