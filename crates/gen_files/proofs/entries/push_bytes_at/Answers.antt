use Rattle.std.proofs.Common.{◌<◌, length, arith}
use Rattle.gen_files.proofs.Pushed.{with_bytes_at-written}
use Rattle.gen_files.proofs.entries.push_bytes_at.Goals as goal

pub returns-clause-ok : goal.returns-clause-ok
returns-clause-ok c =
    let items = c.args.entries.now.items in
    let within : c.args.at < length items = omega arith in
    with_bytes_at-written c.extend_from_slice.result items c.args.at c.index_mut-entry.result.now _ c.args.bytes.now within c.index_mut-entry.ensures.value c.extend_from_slice.ensures.ok
