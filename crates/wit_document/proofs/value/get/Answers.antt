use Rattle.std.proofs.Common.{option_map, sym, ap, ◌∙◌}
use Rattle.json.specs.Value.{value_view}
use Rattle.wit_document.specs.View.{data_of}
use Rattle.wit_document.proofs.Data.{get-data, seen}
use Rattle.wit_document.proofs.value.get.Goals as goal

pub returns : goal.returns
returns c = seen c.get.result ∙ ap (option_map data_of) c.get.ensures ∙ sym (get-data c.args.key.now (value_view c.args.value.now))
