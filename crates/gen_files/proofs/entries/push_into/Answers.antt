use Rattle.std.proofs.Common.{◌≡◌, arith, true, false}
use Rattle.gen_files.specs.Places.{place_of, has_name_at}
use Rattle.gen_files.proofs.Pushed.{with_pushed-found, pushed_missing, place_of-le-length, has_name_at-within}
use Rattle.gen_files.proofs.entries.push_into.Goals as goal

pub push_bytes_at-requires : goal.push_bytes_at-requires
push_bytes_at-requires c =
    let items = c.args.entries.now.items in
    let found : has_name_at items c.place_of-at.result c.args.name.now ≡ true = cc in
    omega (arith, has_name_at-within items c.place_of-at.result c.args.name.now found)

pub returns-then-has_name_at-clause-ok : goal.returns-then-has_name_at-clause-ok
returns-then-has_name_at-clause-ok c =
    let items = c.args.entries.now.items in
    let place : c.place_of-at.result ≡ place_of items c.args.name.now = cc in
    let found : has_name_at items c.place_of-at.result c.args.name.now ≡ true = cc in
    with_pushed-found c.push_bytes_at.result items _ c.place_of-at.result c.args.name.now c.args.bytes.now place found c.push_bytes_at.ensures.ok

pub insert-requires : goal.insert-requires
insert-requires c =
    let items = c.args.entries.now.items in
    let place : c.place_of-at.result ≡ place_of items c.args.name.now = cc in
    omega (arith, place_of-le-length items c.args.name.now)

pub returns-clause-ok : goal.returns-clause-ok
returns-clause-ok c =
    let items = c.args.entries.now.items in
    let place : c.place_of-at.result ≡ place_of items c.args.name.now = cc in
    let missing : has_name_at items c.place_of-at.result c.args.name.now ≡ false = cc in
    cc (c.in_ok-insert.ensures.items, c.in_ok-entry.ensures, pushed_missing items c.place_of-at.result c.args.name.now c.args.bytes.now place missing)
