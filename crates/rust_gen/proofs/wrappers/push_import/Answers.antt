use Rattle.std.proofs.Common.{◌++◌, ap, refl, ◌∙◌}
use Rattle.rust_tree.specs.Asked.{asked_by_signature}
use Rattle.rust_gen.specs.Body.{IsWritten}
use Rattle.rust_gen.proofs.OrderLemmas.{asked-both}
use Rattle.rust_gen.proofs.wrappers.push_import.Goals as goal

pub returns : goal.returns
returns c =
    let w = c.in_ok-wrapper.wrapper in
    let runtime = c.in_ok-wrapper.runtime in
    let written : IsWritten c.args.resolve.now.types c.args.tables.now.sites c.args.f.now w = record { runtime = runtime; made = c.in_ok-wrapper.ensures } in
    let signature = c.in_ok-ask_by_signature.ensures ∙ ap (λ params. c.args.asked.now ++ asked_by_signature params w.result) c.as_slice.ensures in
    let asked = asked-both c.args.asked.now c.ask_by_signature.new.asked c.extend_from_slice.new.self (asked_by_signature w.params w.result) runtime c.as_slice-2.result.now signature c.in_ok-extend_from_slice.ensures.ok c.as_slice-2.ensures in
    ((w, asked_by_signature w.params w.result ++ runtime), c.in_ok-push.ensures.ok, asked, (written, refl))
