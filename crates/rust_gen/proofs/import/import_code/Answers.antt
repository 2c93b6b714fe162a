use Rattle.std.proofs.Common.{List, Option, ap, length, sym, subst, ◌∙◌}
use Rattle.std.proofs.lemmas.List.{length-map}
use Rattle.func_gen.specs.declared.type_site.TypeSite.{TypeSite}
use Rattle.wrapper_closing.specs.ImportBlock.{block_of}
use Rattle.wrapper_closing.specs.Parts.{CanWriteFunction}
use Rattle.rust_gen.specs.Body.{import_site}
use Rattle.rust_gen.proofs.import.import_code.Goals as goal

pub import_body-requires : goal.import_body-requires
import_body-requires c = record {
  well = c.requires.well;
  within = c.requires.within;
  serves = c.requires.code.serves;
  small = c.requires.code.small;
  parts = c.in_ok-parts.ensures.are;
  writes = subst (λ (sites : List (Option TypeSite)). CanWriteFunction c.args.resolve.now.types sites c.args.f.now) (sym c.in_ok-parts.ensures.written) c.requires.writes;
  many = ap length c.in_ok-parts.ensures.params ∙ length-map c.args.f.now.params import_site;
}

pub returns : goal.returns
returns c = record {
  parts = c.in_ok-parts.parts;
  made_of = c.in_ok-parts.ensures;
  body = c.in_ok-body.body;
  makes = c.in_ok-body.ensures;
  is = c.in_ok-made.ensures.block ∙ ap (λ area. block_of area c.in_ok-body.body) c.in_ok-area.ensures;
  asks = c.in_ok-made.ensures.runtime;
}
