use Rattle.std.proofs.Common.{Some, ◌∙◌, ◌++◌, ap, refl}
use Rattle.rust_gen.specs.Body.{IsReturnWritten}
use Rattle.rust_gen.proofs.wrappers.push_returning.Goals as goal

pub returns : goal.returns
returns c =
    let p = c.in_ok-function.function in
    let runtime = c.in_ok-function.runtime in
    let written : IsReturnWritten c.args.resolve.now.types c.args.tables.now.sites c.args.f.now p = record { runtime = runtime; made = c.in_ok-function.ensures } in
    ((Some p, runtime), c.in_ok-push.ensures.ok, c.in_ok-extend_from_slice.ensures.ok ∙ ap (λ xs. c.args.asked.now ++ xs) c.as_slice.ensures, (p, refl, written, refl))
