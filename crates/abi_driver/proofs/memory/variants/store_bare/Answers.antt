use Rattle.std.proofs.Common.{◌<◌, ◌^◌, [], ◌∷◌, arith, None}
use Rattle.wit_layout.specs.Extent.{discriminant_grain}
use Rattle.abi_bindgen.specs.NumberTouches.{tag_store}
use Rattle.abi_bindgen.specs.Code.{store_case}
use Rattle.abi_driver.proofs.Tags.{tag_grain_small, tag_kept}
use Rattle.abi_driver.proofs.CaseStores.{bare_case}
use Rattle.abi_bindgen.proofs.FlowSteps.{flows_block}
use Rattle.abi_driver.proofs.FlowStores.{flows_numbered}
use Rattle.abi_driver.proofs.memory.variants.store_bare.Goals as goal

pub returns : goal.returns
returns g c =
    let m = g.B.Bindgen.meaning in
    let sound = g.met.B.Bindgen.sound in
    let types = c.args.resolve.now.types in
    let cases = c.args.cases in
    let n = c.args.number in
    let low : n < 2 ^ 31 = omega (arith, c.requires.below, c.requires.most) in
    let tag = c.in_ok-store_tag.ensures in
    let opens = c.in_ok-push_block.ensures in
    let closes = c.in_ok-close.ensures in
    record {
      stores = λ realloc place. bare_case m sound types realloc (discriminant_grain cases) n (tag_grain_small cases) low (tag_kept cases n c.requires.below c.requires.most) c.args.address.now tag.1 c.args.offset place _ _ _ _ _ opens tag.2 tag.3 closes;
      flows = λ place. flows_block m types (store_case cases c.args.offset place n None) (c.args.address.now ∷ []) [] _ _ _ _ opens
          (flows_numbered m types n (tag_store cases c.args.offset) c.args.address.now [] tag.1 _ _ _ tag.2 tag.3) closes;
    }
