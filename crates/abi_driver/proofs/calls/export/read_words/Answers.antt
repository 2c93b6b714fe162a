use Rattle.std.proofs.Common.{◌<◌, ◌+◌, arith}
use Rattle.abi_driver.proofs.ArgumentSteps.{within_limit}
use Rattle.abi_driver.proofs.CallCode.{gets_next}
use Rattle.abi_driver.proofs.ReadSteps.{reads_next}
use Rattle.abi_driver.proofs.calls.export.read_words.Goals as goal

pub argument-requires : goal.argument-requires
argument-requires g c =
    let m = g.B.Bindgen.meaning in
    let short : c.loop-i.i < c.args.count = omega (arith, c.loop-i-test.true) in
    within_limit (m.arguments c.args.bindgen.now) (m.arguments c.loop-i.bindgen) (c.args.first + c.args.count) (c.args.first + c.loop-i.i) c.loop-i.invariant.reads.adds.grows.arguments c.requires.arguments (omega (arith, short))

pub loop-i-preserved : goal.loop-i-preserved
loop-i-preserved g c =
    let m = g.B.Bindgen.meaning in
    let types = c.args.resolve.now.types in
    let inv = c.loop-i.invariant in
    record {
      reads = reads_next m g.met.B.Bindgen.sound types c.args.first c.loop-i.i c.loop-i.words c.push.new.self _ _ _ c.in_ok-word.word inv.reads c.in_ok-word.ensures c.in_ok-push.ensures.ok;
      flows = gets_next m types c.args.first c.loop-i.i c.loop-i.words c.push.new.self _ _ _ c.in_ok-word.word inv.reads.fits c.in_ok-push.ensures.ok inv.flows c.in_ok-word.ensures;
    }
