-- Which tables, which world and which options the bytes of a document ask for.
use Rattle.std.specs.Prelude.{List, ℕ, Option}
use Rattle.std.specs.Option.{option_map}
use Rattle.gen_accept.specs.Default.{default_opts}
use Rattle.gen_accept.specs.declared.opts.Opts.{Opts}
use Rattle.wit_document.specs.declared.document.Document.{Document}
use Rattle.wit_document.specs.declared.options.DocumentOptions.{DocumentOptions}
use Rattle.wit_document.specs.Document.{document_in}
use Rattle.wit_commands.specs.declared.input.Input.{Input}

-- the options of a document, where those that it does not set are at their defaults
abbrev pub opts_of : DocumentOptions → Opts
opts_of options = record default_opts { generate_unused_types = options.generate_unused_types }

abbrev pub with_options : Document → Input
with_options d = record { resolve = d.resolve; world = d.world; opts = opts_of d.options }

unfoldable pub input_in : List ℕ → Option Input
input_in bytes = option_map with_options (document_in bytes)
