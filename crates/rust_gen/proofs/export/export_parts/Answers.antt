use Rattle.std.proofs.Common.{refl}
use Rattle.wrapper_closing.specs.declared.parts.BodyParts.{BodyParts}
use Rattle.rust_gen.proofs.PartsOfBodies.{export-are}
use Rattle.rust_gen.proofs.export.export_parts.Goals as goal

pub returns : goal.returns
returns c =
    let parts : BodyParts = record { tables = c.args.tables; home = c.in_ok-home.home; area = c.in_ok-area.area; cleanup = c.in_ok-cleanup.cleanup; params = c.in_ok-params.params } in
    let params = c.in_ok-params.ensures.are in
    record {
      are = export-are c.args.resolve.now.types c.args.params.now parts c.requires.tables c.in_ok-area.ensures params c.requires.distinct;
      home = c.in_ok-home.ensures;
      area = c.in_ok-area.ensures;
      cleanup = c.in_ok-cleanup.ensures;
      params = params;
      written = refl;
    }
