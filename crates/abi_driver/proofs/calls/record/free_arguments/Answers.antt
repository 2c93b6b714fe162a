use Rattle.std.proofs.Common.{◌≡◌, ◌<◌, ◌^◌, List, [], ◌∷◌, length, refl, sym, ap, ap₂, subst, arith}
use mathlib.Core.Logic.{inr}
use Rattle.wit_layout.specs.Sizes.{elem_size}
use Rattle.wit_layout.specs.Told.{IsPairOf}
use Rattle.wit_layout.specs.Tree.{record_of}
use Rattle.wrapper_meaning.specs.Shape.Shape.{fields}
use Rattle.abi_bindgen.specs.declared.instruction.Instruction.TheVariants.{GetArg, GuestDeallocate}
use Rattle.abi_bindgen.specs.Code.{free_block_code}
use Rattle.abi_bindgen.specs.Instructions.{Emits, shapes_of}
use Rattle.abi_bindgen.specs.Flow.{emit, ◌>>>◌}
use Rattle.abi_driver.proofs.AreaAsked.{record_told}
use Rattle.abi_driver.proofs.LowPlaces.{small_fits}
use Rattle.abi_bindgen.proofs.TableSizes.{have_places}
use Rattle.abi_driver.proofs.RecordPlaces.{record_layout}
use Rattle.abi_bindgen.proofs.FlowSteps.{flows_as, flows_then}
use Rattle.std.proofs.lemmas.List.{nil_from_length}
use Rattle.abi_driver.proofs.calls.record.free_arguments.Goals as goal

pub record_of-align-requires-clause-room : goal.record_of-align-requires-clause-room
record_of-align-requires-clause-room g c =
    let types = c.args.resolve.now.types in
    let sizes = c.sizes-sizes.result.now in
    let tys = c.args.tys.now in
    let filled = c.sizes-sizes.ensures types c.requires.knows in
    inr (small_fits sizes tys (have_places sizes types tys filled c.requires.below) types filled c.requires.small)

pub send-requires : goal.send-requires
send-requires g c =
    let types = c.args.resolve.now.types in
    let size = c.record_of-align.ensures.size types (c.sizes-sizes.ensures types c.requires.knows) in
    record { built = refl; operands = ap length c.in_ok-operands.ensures; suits = omega (arith, size.1, c.requires.small) }

pub returns : goal.returns
returns g c =
    let m = g.B.Bindgen.meaning in
    let types = c.args.resolve.now.types in
    let tys = c.args.tys.now in
    let filled = c.sizes-sizes.ensures types c.requires.knows in
    let same = record_layout m.width types tys in
    let size = c.record_of-align.result.0 in
    let align = c.record_of-align.result.1 in
    let told = record_told (fields (shapes_of types tys)) (record_of types tys) size align same (c.record_of-align.ensures.size types filled) (c.record_of-align.ensures.align types filled) in
    let code : free_block_code (fields (shapes_of types tys)) ≡ emit (GetArg 0) >>> emit (GuestDeallocate size align) = ap₂ (λ x y. emit (GetArg 0) >>> emit (GuestDeallocate x y)) (sym told.0) (sym told.1) in
    let freed = subst (λ (os : List _). Emits m types (GuestDeallocate size align) os c.in_ok-_none._none c.argument.new.bindgen c.send.new.bindgen) c.in_ok-operands.ensures c.in_ok-_none.ensures in
    let none = subst (λ (os : List _). Emits m types (GuestDeallocate size align) (c.in_ok-address.address ∷ []) os c.argument.new.bindgen c.send.new.bindgen) (nil_from_length c.in_ok-_none._none freed.results) freed in
    record {
      frees = record {
        size = size;
        align = align;
        sized = subst (λ l. IsPairOf size (λ w. elem_size w l)) same (c.record_of-align.ensures.size types filled);
        bounded = subst (λ l. elem_size 3 l < 2 ^ 31) same c.requires.small;
        address = c.in_ok-address.address;
        none = c.in_ok-_none._none;
        middle = c.argument.new.bindgen;
        reads = c.in_ok-address.ensures;
        frees = freed;
      };
      flows = flows_as m types (emit (GetArg 0) >>> emit (GuestDeallocate size align)) (free_block_code (fields (shapes_of types tys))) [] [] c.args.bindgen.now c.send.new.bindgen code
          (flows_then m types (emit (GetArg 0)) (emit (GuestDeallocate size align)) [] (c.in_ok-address.address ∷ []) [] c.args.bindgen.now c.argument.new.bindgen c.send.new.bindgen c.in_ok-address.ensures none);
    }
