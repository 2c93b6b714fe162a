use Rattle.std.proofs.Common.{subst}
use Rattle.rust_gen.specs.Generated.{Generates}
use Rattle.rust_gen.proofs.FaithfulLemmas.{are_faithful}
use Rattle.gen_accept.proofs.CauseLemmas.{accepted-named}
use Rattle.rust_gen.proofs.KnownLemmas.{accepted-is-known}
use Rattle.rust_gen.proofs.ServedLemmas.{serves}
use Rattle.rust_gen.proofs.WrapperLemmas.{binds_wraps}
use Rattle.rust_gen.proofs.generate.RustWasm.generate.Goals as goal

pub write_file-requires : goal.write_file-requires
write_file-requires c =
    accepted-is-known c.self.inside.opts c.args.resolve.now c.args.world c.in_ok-accepted.accepted.now c.in_ok-accepted.ensures.checked c.in_ok-accepted.ensures.built c.in_ok-accepted.ensures.accepted c.in_ok-accepted.ensures.world

pub returns-clause-ok : goal.returns-clause-ok
returns-clause-ok c =
    let world = c.in_ok-accepted.accepted.now in
    let found = c.in_ok-accepted.ensures.world in
    let written = c.in_ok-tree.ensures.bound in
    let known = accepted-is-known c.self.inside.opts c.args.resolve.now c.args.world world c.in_ok-accepted.ensures.checked c.in_ok-accepted.ensures.built c.in_ok-accepted.ensures.accepted found in
    let made : Generates c.self.inside.opts c.args.resolve.now c.args.world c.args.files.now c.write_file.new.files c.in_ok-tree.tree = record {
      world = world;
      named = found;
      tree_of = record {
        bound = binds_wraps written;
        written = written;
        runtime = serves c.self.inside.opts c.args.resolve.now c.args.world world _ written;
        order = c.in_ok-tree.ensures.order;
        faithful = are_faithful c.self.inside.opts c.args.resolve.now c.args.world world known (accepted-named c.self.inside.opts c.args.resolve.now world c.in_ok-accepted.ensures.accepted) _ written;
        well_named = c.in_ok-tree.ensures.named;
      };
      gains = c.in_ok-tree.ensures.gains;
    } in
    subst (λ opts. Generates opts c.args.resolve.now c.args.world c.args.files.now c.write_file.new.files c.in_ok-tree.tree) c.self.view_is made
