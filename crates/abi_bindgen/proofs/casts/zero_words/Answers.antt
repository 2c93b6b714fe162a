use Rattle.std.proofs.Common.{◌≡◌, ◌<◌, List, [], length, refl, subst, arith}
use Rattle.abi_bindgen.specs.Instructions.{Emits}
use Rattle.abi_bindgen.specs.declared.instruction.Instruction.TheVariants.{ConstZero}
use Rattle.std.proofs.lemmas.List.{nil_from_length}
use Rattle.abi_bindgen.proofs.CastSteps.{none_zeros, zeroing_flows, zeros_sent}
use Rattle.abi_bindgen.proofs.casts.zero_words.Goals as goal

pub returns : goal.returns
returns g c =
    let m = g.B.Bindgen.meaning in
    let resolve = c.args.resolve.now in
    let some : 0 < length c.args.types.now = omega (arith, c.if-types-eq0.false) in
    let e = subst (λ (os : List g.row.B-Operand.Denot). Emits m resolve.types (ConstZero c.args.types) os c.in_ok-zeros.zeros c.args.bindgen.now c.send.new.bindgen) c.new-none.ensures c.in_ok-zeros.ensures in
    record {
      zeros = zeros_sent m resolve.types _ _ c.args.types c.in_ok-zeros.zeros e;
      flows = zeroing_flows m resolve.types _ _ c.args.types c.args.types.now c.in_ok-zeros.zeros refl some e;
    }

pub returns-then-types-eq0 : goal.returns-then-types-eq0
returns-then-types-eq0 g c =
    let m = g.B.Bindgen.meaning in
    let types = c.args.resolve.now.types in
    let none : c.args.types.now ≡ [] = nil_from_length c.args.types.now (omega (arith, c.if-types-eq0.true)) in
    let both = none_zeros m types c.args.types.now c.new.result c.args.bindgen.now none c.new.ensures in
    record { zeros = both.0; flows = both.1 }
