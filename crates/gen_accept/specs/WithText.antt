-- How what stands in for an import is written, and how the want of it is told.
use Rattle.std.specs.Prelude.{ℕ, List, ◌++◌, codes}
use Rattle.gen_accept.specs.declared.error.MissingWith.{MissingWith}
use Rattle.gen_accept.specs.declared.opts.WithOption.{WithOption}
use Rattle.gen_accept.specs.declared.opts.WithOption.TheVariants.{Path, Generate}

-- a path in quotes, or the one word
abbrev pub with_text : WithOption → List ℕ
with_text (Path path) = codes "\"" ++ path ++ codes "\""
with_text Generate = codes "generate"

abbrev pub missing_with_text : MissingWith → List ℕ
missing_with_text missing = codes "missing `with` mapping for the key `" ++ missing.0 ++ codes "`"
