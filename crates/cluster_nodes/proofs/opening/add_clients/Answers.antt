use Rattle.std.proofs.Common.{◌≡◌, ◌≤◌, ◌∙◌, List, ap, sym, subst, rules, arith, length}
use Rattle.std.specs.List.{AllByRecursion}
use Rattle.cluster_rules.specs.Client.{new_client}
use Rattle.gather_client.specs.CoreState.{CoreState, client_facts}
use Rattle.cluster_nodes.specs.Kept.{ClientsTookFew}
use Rattle.cluster_nodes.proofs.Places.{all_more}
use Rattle.cluster_nodes.proofs.opening.add_clients.Goals as goal

pub loop-core-init : goal.loop-core-init
loop-core-init c = record {
  long = ap length c.requires;
  new = subst (λ (l : List CoreState). AllByRecursion (λ (x : CoreState). client_facts x ≡ new_client c.args.shape.now) l) (sym c.requires) tt;
  few = subst (λ (l : List CoreState). ClientsTookFew 0 l) (sym c.requires) tt;
}

pub loop-core-preserved : goal.loop-core-preserved
loop-core-preserved c = record {
  long = search rules;
  new = subst (λ (l : List CoreState). AllByRecursion (λ (x : CoreState). client_facts x ≡ new_client c.args.shape.now) l) (sym c.in_ok-push.ensures.items)
      (all_more (λ (x : CoreState). client_facts x ≡ new_client c.args.shape.now) c.loop-core.cores.items c.in_ok-new.field-0 (c.in_ok-new.ensures.facts ∙ ap new_client c.in_ok-copy.ensures) c.loop-core.invariant.new);
  few = let e = c.in_ok-new.ensures.events in subst (λ (l : List CoreState). ClientsTookFew 0 l) (sym c.in_ok-push.ensures.items)
      (all_more (λ (x : CoreState). x.events ≤ 0) c.loop-core.cores.items c.in_ok-new.field-0 (omega (arith, e)) c.loop-core.invariant.few);
}
