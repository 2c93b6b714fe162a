use Rattle.std.proofs.Common.{◌≡◌, ◌∙◌, ◌&&◌, ◌||◌, ◌++◌, ◌∷◌, [], Bool, List, Some, is_none, length, length-append, nat_eq, slice_get, refl, sym, ap, subst, arith}
use Rattle.std.specs.HashSet as set
use Rattle.std.specs.List.{list_all}
use Rattle.std.proofs.lemmas.Option.{slice_get_read}
use Rattle.wit_model.specs.Parts.{parts}
use Rattle.type_defs.specs.Listing.{AreCovered, covered_by, lists}
use Rattle.type_defs.proofs.ListingLemmas.{covered_more}
use Rattle.type_defs.proofs.listing.covered_types.Goals as goal

pub loop-i-preserved : goal.loop-i-preserved
loop-i-preserved c =
    let known : List Bool = c.loop-i.known in
    let types = c.args.types.now in
    let listed = c.args.listed.now in
    let nth = c.loop-i.i in
    let entry = c.index-types-i.result in
    let at : slice_get types nth ≡ Some entry = slice_get_read types (length types) nth entry refl c.loop-i-test.true c.index-types-i.is in
    let now : Bool = (is_none entry.name || lists listed nth) && list_all (covered_by known) (parts entry.kind) in
    let is : c.is_covered_entry-covered.result ≡ now =
    c.is_covered_entry-covered.ensures ∙ ap (λ (k : List Bool). (is_none entry.name || set.contains nat_eq c.in_ok-set.set nth) && list_all (covered_by k) (parts entry.kind)) c.as_slice.ensures
    ∙ ap (λ b. (is_none entry.name || b) && list_all (covered_by known) (parts entry.kind)) (c.in_ok-set.ensures nth) in
    let whole : c.push.new.self ≡ known ++ now ∷ [] = c.in_ok-push.ensures.ok ∙ ap (λ b. known ++ b ∷ []) is in
    record {
      count = rw whole (omega (arith, length-append known (now ∷ []), c.loop-i.invariant.count));
      covered = subst (AreCovered types listed) (sym whole) (covered_more types c.requires listed known c.loop-i.invariant.covered nth entry at c.loop-i.invariant.count);
    }
