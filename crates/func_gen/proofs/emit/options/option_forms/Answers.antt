use Rattle.std.proofs.Common.{rules}
use Rattle.func_gen.proofs.PayloadsThere.{option_some}
use Rattle.func_gen.proofs.emit.options.option_forms.Goals as goal

pub returns : goal.returns
returns c =
    let (ty, here) = c.requires.kind in
    record { ty = ty; kind = here; some = option_some c.args.resolve.now c.requires.well c.args.id.0 ty here; are = search rules }
