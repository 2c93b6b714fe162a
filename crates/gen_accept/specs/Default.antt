-- The options as they are where nothing is asked for.
use Rattle.std.specs.Prelude.{[], None, false}
use Rattle.gen_accept.specs.declared.opts.Opts.{Opts}
use Rattle.type_defs.specs.declared.ownership.Ownership.TheVariants.{Owning}

abbrev pub default_opts : Opts
default_opts = record {
  std_feature = false;
  raw_strings = false;
  stubs = false;
  generate_all = false;
  pub_export_macro = false;
  generate_unused_types = false;
  skip = [];
  additional_derive_ignore = [];
  export_prefix = None;
  ownership = Owning;
  runtime_path = None;
  map_type = None;
  bitflags_path = None;
  default_bindings_module = None;
  additional_derive_attributes = [];
  additional_type_attributes = [];
  additional_member_attributes = [];
  with = [];
  export_macro_name = None;
  merge_structurally_equal_types = None;
  chainable_methods = [];
}
