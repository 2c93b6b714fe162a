use Rattle.std.proofs.Common.{◌∙◌, ap}
use Rattle.std.specs.List.{list_all}
use Rattle.std.proofs.lemmas.Bool.{and_parts}
use Rattle.wit_model.specs.IndexRange.{function_in_range, payload_in_range, type_in_range}
use Rattle.rust_gen.proofs.import.import_head.Goals as goal

pub printed_params-requires-clause-within : goal.printed_params-requires-clause-within
unfolding function_in_range
printed_params-requires-clause-within c =
    let r = c.args.resolve.now in
    let f = c.args.f.now in
    let both = and_parts _ (payload_in_range r f.result) c.requires.within in
    let params = (and_parts _ (list_all (λ p. type_in_range r p.ty) f.params) both.0).1 in
    ap (list_all (λ p. type_in_range r p.ty)) c.as_slice.ensures ∙ params
