use Rattle.std.proofs.Common.{◌≡◌, ◌∙◌, true, false, [], None, append-nil, refl, subst, sym}
use Rattle.wrapper_meaning.specs.Shape.{result_shape}
use Rattle.gen_accept.specs.Area.{needs_return}
use Rattle.rust_gen.specs.Asking.{ReturnAsks}
use Rattle.rust_gen.proofs.IndirectResults.{freed_by_area}
use Rattle.rust_gen.proofs.wrappers.push_post_return.Goals as goal

pub push_returning-requires-clause-indirect : goal.push_returning-requires-clause-indirect
push_returning-requires-clause-indirect c =
    freed_by_area (result_shape c.args.resolve.now.types c.args.f.now) c.requires.code.serves.result (sym c.needs_return.ensures ∙ c.if-needs_return.true)

pub returns-in_ok-push_returning : goal.returns-in_ok-push_returning
returns-in_ok-push_returning c =
    let (p, pushed, adds, asks) = c.in_ok-push_returning.ensures in
    let needs : needs_return c.args.resolve.now.types c.args.f.now ≡ true = sym c.needs_return.ensures ∙ c.if-needs_return.true in
    (p, pushed, adds, subst (λ b. ReturnAsks c.args.resolve.now.types c.args.tables.now.sites b c.args.f.now p.0 p.1) (sym needs) asks)

pub returns-else-needs_return : goal.returns-else-needs_return
returns-else-needs_return c =
    let needs : needs_return c.args.resolve.now.types c.args.f.now ≡ false = sym c.needs_return.ensures ∙ c.if-needs_return.false in
    ((None, []), sym (append-nil c.args.items.now), sym (append-nil c.args.asked.now), subst (λ b. ReturnAsks c.args.resolve.now.types c.args.tables.now.sites b c.args.f.now None []) (sym needs) (refl, refl))
