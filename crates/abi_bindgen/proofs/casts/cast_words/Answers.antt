use Rattle.std.proofs.Common.{◌≡◌, true, false, length, refl, sym, ap, ◌∙◌, subst}
use Rattle.std.specs.List.{list_all}
use Rattle.abi_bindgen.specs.Constants.{AreCasts}
use Rattle.abi_bindgen.specs.SlotCasts.{casts_between, is_no_cast}
use Rattle.abi_bindgen.proofs.CastSteps.{casting_flows, casts_sent, no_cast_needed, nothing_cast}
use Rattle.abi_bindgen.proofs.WordBits.{are_casts, casts_length}
use Rattle.abi_bindgen.proofs.casts.cast_words.Goals as goal

pub send-requires : goal.send-requires
send-requires g c =
    let same = c.as_slice-casts.ensures ∙ c.in_ok-casts.ensures.casts in
    let many : length c.args.words ≡ length c.as_slice-casts.result.now = c.requires.enough ∙ sym (ap length same ∙ casts_length c.args.froms.now c.args.tos.now c.requires.ordered) in
    record { built = refl; operands = many; suits = (c.args.froms.now, c.args.tos.now, subst (AreCasts c.args.froms.now c.args.tos.now) (sym same) (are_casts c.args.froms.now c.args.tos.now c.requires.ordered)) }

pub returns-then-change_nothing : goal.returns-then-change_nothing
returns-then-change_nothing g c =
    let m = g.B.Bindgen.meaning in
    let types = c.args.resolve.now.types in
    let froms = c.args.froms.now in
    let tos = c.args.tos.now in
    let same = c.as_slice-casts.ensures ∙ c.in_ok-casts.ensures.casts in
    let none : list_all is_no_cast (casts_between froms tos) ≡ true = sym (ap (list_all is_no_cast) same) ∙ sym c.change_nothing.ensures ∙ c.if-change_nothing.true in
    record {
      casts = no_cast_needed m types froms tos c.args.words c.requires.ordered c.requires.enough c.args.bindgen.now none;
      back = c.in_ok-casts.ensures.back;
      flows = nothing_cast m types froms tos c.args.words c.args.bindgen.now none;
    }

pub returns : goal.returns
returns g c =
    let m = g.B.Bindgen.meaning in
    let types = c.args.resolve.now.types in
    let froms = c.args.froms.now in
    let tos = c.args.tos.now in
    let same = c.as_slice-casts.ensures ∙ c.in_ok-casts.ensures.casts in
    let some : list_all is_no_cast (casts_between froms tos) ≡ false = sym (ap (list_all is_no_cast) same) ∙ sym c.change_nothing.ensures ∙ c.if-change_nothing.false in
    record {
      casts = casts_sent m types froms tos c.args.words c.requires.ordered c.requires.enough _ _ c.as_slice-casts.result c.in_ok-cast.cast same c.in_ok-cast.ensures;
      back = c.in_ok-casts.ensures.back;
      flows = casting_flows m types froms tos _ _ c.as_slice-casts.result c.args.words c.in_ok-cast.cast some same c.in_ok-cast.ensures;
    }
