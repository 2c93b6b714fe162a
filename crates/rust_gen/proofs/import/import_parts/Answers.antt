use Rattle.std.proofs.Common.{List, ap, ◌∙◌, map, refl, subst}
use Rattle.wit_model.specs.Bytes.{Bytes}
use Rattle.wit_model.specs.declared.function.Param.{Param}
use Rattle.rust_tree.specs.Ident.{rust_ident}
use Rattle.wrapper_closing.specs.Params.{cleanup_list, ret_area}
use Rattle.wrapper_closing.specs.declared.parts.BodyParts.{BodyParts}
use Rattle.rust_gen.specs.Body.{import_site}
use Rattle.rust_gen.specs.FixedName.{IsFixedName}
use Rattle.rust_gen.proofs.PartsOfBodies.{import-are}
use Rattle.rust_gen.proofs.import.import_parts.Goals as goal

pub returns : goal.returns
unfolding cleanup_list ret_area
returns c =
    let parts : BodyParts = record { tables = c.args.tables; home = c.in_ok-home.home; area = c.in_ok-area.area; cleanup = c.in_ok-cleanup.cleanup; params = c.in_ok-params.params } in
    let names = c.in_ok-names.ensures ∙ ap (map (λ (p : Param). rust_ident p.name)) c.as_slice.ensures in
    let area = subst (λ (ns : List Bytes). IsFixedName ns ret_area c.in_ok-area.area) (c.as_slice-2.ensures ∙ names) c.in_ok-area.ensures in
    let cleanup = subst (λ (ns : List Bytes). IsFixedName ns cleanup_list c.in_ok-cleanup.cleanup) (c.as_slice-3.ensures ∙ names) c.in_ok-cleanup.ensures in
    let params = c.in_ok-params.ensures ∙ ap (map import_site) c.as_slice-4.ensures in
    record {
      are = import-are c.args.resolve.now.types c.args.f.now parts c.requires.tables area params c.requires.distinct;
      home = c.in_ok-home.ensures;
      area = area;
      cleanup = cleanup;
      params = params;
      written = refl;
    }
