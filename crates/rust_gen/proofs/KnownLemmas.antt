-- What is known of a world that is accepted: its names, the types that its functions use, and that the driver has code for each of them.
use Rattle.std.proofs.Common.{◌≡◌, ℕ, true, Some}
use Rattle.std.specs.Prelude.{slice_get}
use Rattle.std.specs.List.{list_all}
use Rattle.std.proofs.lemmas.Bool.{and_parts}
use Rattle.wit_model.proofs.AllLemmas.{all_at}
use Rattle.wit_model.specs.WellFormed.{IsWellFormed}
use Rattle.wit_model.specs.declared.name.WorldId.{WorldId}
use Rattle.wit_model.specs.declared.resolve.Resolve.{Resolve}
use Rattle.wit_model.specs.declared.world.World.{World}
use Rattle.gen_accept.specs.Cause.{is_accepted, is_built}
use Rattle.gen_accept.specs.NameText.{are_written_tables, is_written_world}
use Rattle.gen_accept.specs.declared.opts.Opts.{Opts}
use Rattle.gen_accept.proofs.AcceptedLemmas.{built-kinds, built-world, definable, exported-types, imported-types}
use Rattle.gen_accept.proofs.CauseLemmas.{accepted-declares, accepted-small, accepted-type_names, accepted-written}
use Rattle.gen_accept.proofs.DeclaredLemmas.{distinct_params}
use Rattle.gen_accept.proofs.FunctionLemmas.{exports-within, imports-within}
use Rattle.gen_accept.proofs.LargeLemmas.{none-filled, none-functions}
use Rattle.gen_accept.proofs.ServedLemmas.{exports-served, exports-small, imports-served, imports-small}
use Rattle.rust_gen.specs.Known.{IsKnown}

written : (r : Resolve) (nth : ℕ) (world : World) → slice_get r.worlds nth ≡ Some world → are_written_tables r ≡ true → is_written_world world ≡ true
unfolding are_written_tables
written r nth world e h = all_at is_written_world r.worlds nth world (and_parts _ (list_all is_written_world r.worlds) h).1 e

pub accepted-is-known : (opts : Opts) (r : Resolve) (id : WorldId) (world : World) → IsWellFormed r → is_built opts r ≡ true → is_accepted opts r world ≡ true → slice_get r.worlds id.0 ≡ Some world → IsKnown opts r id world
accepted-is-known opts r id world well built accepted e =
    let declared = accepted-declares opts r world accepted in
    let kinds = built-kinds opts r id world well built accepted e in
    let plain = built-world opts r id world well built accepted e in
    let small = accepted-small opts r world accepted in
    let few = none-functions r.types world small in
    record {
      well = well;
      types = definable opts r id world well built accepted e;
      written = written r id.0 world e (accepted-written opts r world accepted);
      declared = declared;
      imports = imports-within r id.0 world well e;
      exports = exports-within r id.0 world well e;
      imports_code = λ nth f at. record { serves = imports-served r.types world kinds plain nth f at; small = imports-small r.types world few nth f at };
      exports_code = λ nth f at. record { serves = exports-served r.types world kinds plain nth f at; small = exports-small r.types world few nth f at };
      distinct = distinct_params opts r world declared;
      names = accepted-type_names opts r world accepted;
      sized = none-filled r.types world small;
      imports_use = imported-types opts r id world well built accepted e;
      exports_use = exported-types opts r id world well built accepted e;
    }
