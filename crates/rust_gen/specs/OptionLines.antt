-- Which lines of a file's head name the options that are set.
use Rattle.std.specs.Prelude.{List, [], ◌∷◌, codes, if◌then◌else◌}
use Rattle.gen_accept.specs.declared.opts.Opts.{Opts}
use Rattle.wit_model.specs.Bytes.{Bytes}

unfoldable pub unused_types_line : Bytes
unused_types_line = codes "//   * generate_unused_types"

abbrev pub option_lines : Opts → List Bytes
option_lines opts = if opts.generate_unused_types then unused_types_line ∷ [] else []
