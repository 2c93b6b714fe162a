use Rattle.std.proofs.Common.{◌≡◌, ◌+◌, ◌≤◌, ◌∙◌, ℕ, suc, drop, sym, ap, subst, arith}
use Rattle.wit_model.specs.Parts.{parts}
use Rattle.type_defs.specs.Nodes.{capped, nodes_as, nodes_by, nodes_in, own_cases}
use Rattle.type_defs.proofs.CappedLemmas.{capped-few, capped-front, capped-next}
use Rattle.type_defs.proofs.nodes.nodes_by.Goals as goal
use Rattle.wit_model.proofs.ListLemmas.{drop_at}

pub loop-nth-init : goal.loop-nth-init
unfolding nodes_by
loop-nth-init c =
    let own : ℕ = own_cases c.args.kind.now in
    let named : ℕ = nodes_in c.args.known.now (parts c.args.kind.now) in
    let whole : suc own + named ≡ suc (own + named) = omega arith in
    record {
      few = subst (λ n. n ≤ 65537) (sym c.own_nodes-count.ensures) (capped-few (suc own));
      rest = ap (λ n. capped (n + named)) c.own_nodes-count.ensures ∙ capped-front (suc own) named ∙ ap capped whole;
    }

pub loop-nth-preserved : goal.loop-nth-preserved
loop-nth-preserved c =
    let known = c.args.known.now in
    let ps = parts c.args.kind.now in
    let behind : ℕ = nodes_in known (drop (c.loop-nth.nth + 1) ps) in
    let here : nodes_in known (drop c.loop-nth.nth ps) ≡ nodes_as known c.part.result + behind = ap (nodes_in known) (drop_at ps c.loop-nth.nth c.part.result c.part.ensures) in
    record {
      few = subst (λ n. n ≤ 65537) (sym c.capped-count.ensures) (capped-few c.saturating_add.result);
      rest =
          capped-next c.loop-nth.count c.nodes_as.result behind 4294967295 (omega arith) c.saturating_add.ensures c.capped-count.ensures
          ∙ ap (λ n. capped (c.loop-nth.count + (n + behind))) c.nodes_as.ensures ∙ ap (λ n. capped (c.loop-nth.count + n)) (sym here) ∙ c.loop-nth.invariant.rest;
    }
