use Rattle.std.proofs.Common.{rules}
use Rattle.func_gen.proofs.PayloadsThere.{sides_some}
use Rattle.func_gen.proofs.emit.results.result_forms.Goals as goal

pub returns : goal.returns
returns c =
    let here = c.result_sides-ok.ensures in
    let some = sides_some c.args.resolve.now c.requires.well c.args.id.0 _ _ here in
    record { ok = _; err = _; kind = here; ok_some = some.0; err_some = some.1; are = search rules }
