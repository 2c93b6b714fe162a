-- What the options say of the definitions of types.
use Rattle.type_defs.specs.declared.type_opts.TypeOpts.{TypeOpts}
use Rattle.gen_accept.specs.declared.opts.Opts.{Opts}

abbrev pub type_opts : Opts → TypeOpts
type_opts opts = record { ownership = opts.ownership; generate_unused_types = opts.generate_unused_types }
