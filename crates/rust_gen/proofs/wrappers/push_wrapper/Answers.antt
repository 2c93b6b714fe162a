use Rattle.std.proofs.Common.{◌∙◌, ◌++◌, ap, refl}
use Rattle.rust_gen.specs.Body.{IsExportWritten}
use Rattle.rust_gen.proofs.wrappers.push_wrapper.Goals as goal

pub returns : goal.returns
returns c =
    let w = c.in_ok-wrapper.field-0.wrapper in
    let runtime = c.in_ok-wrapper.field-0.runtime in
    let written : IsExportWritten c.args.resolve.now.types c.args.tables.now.sites c.args.f.now w c.in_ok-wrapper.field-0.area = record { runtime = runtime; made = c.in_ok-wrapper.ensures } in
    ((w, runtime), c.in_ok-push.ensures.ok, c.in_ok-extend_from_slice.ensures.ok ∙ ap (λ xs. c.args.asked.now ++ xs) c.as_slice.ensures, (written, refl))
