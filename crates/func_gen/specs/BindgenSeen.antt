-- How a `FunctionBindgen` is seen.
use Rattle.func_gen.specs.declared.function_bindgen.FunctionBindgen.TheInside.{Inside}
use Rattle.func_gen.specs.BindgenView.{BindgenView}

abbrev pub seen_bindgen : Inside → BindgenView
seen_bindgen b = record {
  sizes = b.tables.now.sizes;
  import = b.import;
  home = b.home;
  area = b.area;
  params = b.params;
  sites = b.tables.now.sites;
  scope = b.scope;
  code = b.code;
  opened = b.opened;
  finished = b.finished;
  runtime = b.runtime;
  asked = b.asked;
  returned = b.returned;
}
