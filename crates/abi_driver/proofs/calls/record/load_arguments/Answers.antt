use Rattle.std.proofs.Common.{◌≡◌, [], ◌∷◌, length, sym, ◌∙◌, arith, refl, subst}
use Rattle.wrapper_meaning.specs.Shape.Shape.{fields}
use Rattle.abi_bindgen.specs.declared.instruction.Instruction.TheVariants.{Flush, GetArg}
use Rattle.abi_bindgen.specs.Code.{free_block_code, load_arguments}
use Rattle.abi_bindgen.specs.Instructions.{shapes_of, Emits}
use Rattle.abi_bindgen.specs.Flow.{Flow, emit, same, both, alone, ◌>>>◌}
use Rattle.abi_bindgen.proofs.Records.{count-shapes}
use Rattle.abi_bindgen.proofs.Writing.{each_later}
use Rattle.abi_bindgen.proofs.FlowSteps.{flows_then, flows_first_of, flows_alone}
use Rattle.abi_driver.proofs.calls.record.load_arguments.Goals as goal

pub load_at-requires-clause-writes : goal.load_at-requires-clause-writes
load_at-requires-clause-writes g c = each_later g.B.Bindgen.meaning c.args.resolve.now.types _ _ c.args.tys.now c.in_ok-address.ensures.adds.grows c.requires.writes

pub overflow_cast-count : goal.overflow_cast-count
overflow_cast-count g c = omega (arith, c.len-count.ensures, c.in_ok-parts.ensures.count, c.requires.few)

pub returns : goal.returns
returns g c =
    let m = g.B.Bindgen.meaning in
    let types = c.args.resolve.now.types in
    let tys = c.args.tys.now in
    let many : c.len-count.result ≡ length tys = c.len-count.ensures ∙ c.in_ok-parts.ensures.count in
    let freed : Flow = free_block_code (fields (shapes_of types tys)) in
    let address = c.in_ok-address.address in
    let parts = c.in_ok-parts.parts in
    let values = c.in_ok-values.values in
    let one = c.argument.new.bindgen in
    let two = c.load_at.new.bindgen in
    let three = c.send.new.bindgen in
    let four = c.free_arguments.new.bindgen in
    let flush = subst (λ n. Emits m types (Flush n) parts values two three) many c.in_ok-values.ensures in
    let loads = load_arguments types tys in
    let flushes : Flow = emit (Flush (length tys)) in
    let got = flows_then m types (emit (GetArg 0)) loads [] (address ∷ []) parts c.args.bindgen.now one two c.in_ok-address.ensures c.in_ok-parts.ensures.flows in
    let named = flows_then m types (emit (GetArg 0) >>> loads) flushes [] parts values c.args.bindgen.now two three got flush in
    let last = flows_first_of m types same (alone freed) values values three three four (refl, refl) (flows_alone m types freed values [] three four c.in_ok-free_arguments.ensures.flows) in
    record {
      takes = record {
        address = c.in_ok-address.address;
        parts = c.in_ok-parts.parts;
        counted = c.in_ok-parts.ensures.count ∙ sym (count-shapes types tys);
        many = c.in_ok-values.ensures.results ∙ many ∙ sym (count-shapes types tys);
        number = c.len-count.result;
        one = one;
        two = two;
        three = three;
        reads = c.in_ok-address.ensures;
        loads = c.in_ok-parts.ensures.loads;
        renames = c.in_ok-values.ensures;
        frees = c.in_ok-free_arguments.ensures.frees;
      };
      flows = flows_then m types (emit (GetArg 0) >>> loads >>> flushes) (both same (alone freed)) [] values values c.args.bindgen.now three four named last;
    }
