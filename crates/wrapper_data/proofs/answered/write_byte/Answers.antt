use Rattle.std.proofs.Common.{◌≡◌, Some, None, sym}
use Rattle.std.specs.List.{position}
use Rattle.wrapper_data.specs.Heap.{covers}
use Rattle.wrapper_data.proofs.Written.{written_some, written_none, covered}
use Rattle.wrapper_data.proofs.answered.write_byte.Goals as goal

pub write_in-requires : goal.write_in-requires
write_in-requires c =
    let found : position (covers c.args.address) c.args.live.now.items ≡ Some c.in-Some.at = cc in
    rw c.index_mut.ensures.value (covered _ _ _ _ found)

pub returns-in_ok-write_in : goal.returns-in_ok-write_in
returns-in_ok-write_in c =
    let found : position (covers c.args.address) c.args.live.now.items ≡ Some c.in-Some.at = cc in
    cc (c.in_ok-write_in.ensures, written_some _ _ c.args.byte _ c.index_mut.result.now found)

pub returns-in_default : goal.returns-in_default
returns-in_default c =
    let missed : position (covers c.args.address) c.args.live.now.items ≡ None = cc in
    sym (written_none _ _ _ missed)
