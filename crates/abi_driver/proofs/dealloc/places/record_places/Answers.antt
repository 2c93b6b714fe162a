use Rattle.std.proofs.Common.{◌+◌, [], ◌∷◌, length, slice_index, ap, ◌∙◌, subst, arith}
use Rattle.std.proofs.lemmas.List.{length-append}
use Rattle.wit_layout.specs.Sizes.{field_offsets}
use Rattle.wit_layout.specs.Told.{IsPairOf}
use Rattle.wit_layout.specs.Tree.{record_of}
use Rattle.abi_driver.proofs.RecordPlaces.{one_more}
use Rattle.abi_driver.proofs.dealloc.places.record_places.Goals as goal

pub loop-preserved : goal.loop-preserved
loop-preserved c =
    let sizes = c.args.sizes.now in
    let types = c.args.types.now in
    let place = c.next_offset-place.result in
    record {
      nth = c.next_offset-place.ensures.nth ∙ ap (λ n. n + 1) c.loop.invariant.nth;
      behind = c.next_offset-place.ensures.behind;
      count = ap length c.in_ok-push.ensures.ok ∙ length-append c.loop.places (place ∷ []) ∙ ap (λ n. n + 1) c.loop.invariant.count;
      each = one_more sizes types c.loop.places c.push.new.self place c.loop.counter c.loop.invariant.count c.in_ok-push.ensures.ok c.loop.invariant.each
          (λ table filled. subst (λ n. IsPairOf place (λ w. slice_index (field_offsets w (record_of table types)) n)) c.loop.invariant.nth (c.next_offset-place.ensures.offset table filled));
    }

pub returns-clause-each : goal.returns-clause-each
returns-clause-each c = λ table n d filled l. c.loop.invariant.each table n d filled (omega (arith, l, c.loop-test.false))
