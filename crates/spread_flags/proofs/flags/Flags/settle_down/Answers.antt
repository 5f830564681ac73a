use Rattle.std.proofs.Common.{ℕ, ◌<◌, List, [], length, Some, arith, sym, ap, ◌∙◌, subst, slice_index_or}
use Rattle.std.specs.List.{AllByRecursion}
use Rattle.key_sets.specs.Sets.{has, IsLast}
use Rattle.spread_flags.specs.Spread.{Spread, IsKept}
use Rattle.spread_flags.proofs.KeepLemmas.{stale_there, done_down, none_below, spread-kept}
use Rattle.spread_flags.proofs.flags.Flags.settle_down.Goals as goal

pub loop-key-preserved : goal.loop-key-preserved
loop-key-preserved c =
    let s = c.loop-key.self in
    let kept : IsKept s = subst (λ (z : Spread). IsKept z) c.self-in-loop-key.view_is c.self-in-loop-key.invariant in
    let key = c.in-Some.key in
    let found : IsLast (has s.stale) c.loop-key.below (Some key) = subst (λ (z : Spread). IsLast (has z.stale) c.loop-key.below (Some key)) c.self-in-loop-key.view_is c.in-Some.ensures in
    let low = stale_there s key kept found.1 in
    record {
      links = c.look.ensures.links ∙ c.loop-key.invariant.links;
      seeds = c.look.ensures.seeds ∙ c.loop-key.invariant.seeds;
      gates = c.look.ensures.gates ∙ c.loop-key.invariant.gates;
      was = λ k. c.look.ensures.was k ∙ c.loop-key.invariant.was k;
      within = omega (arith, low, ap length c.loop-key.invariant.links);
      done = done_down s c.look.new.self.stale c.loop-key.below key found c.loop-key.invariant.done (subst (λ (ls : List (List ℕ)). AllByRecursion (λ d. d < key) (slice_index_or ls key [])) (sym c.loop-key.invariant.links) (c.requires key)) c.look.ensures.stale;
    }

pub returns-clause-spread : goal.returns-clause-spread
returns-clause-spread c =
    let s = c.loop-key.self in
    let kept : IsKept s = subst (λ (z : Spread). IsKept z) c.self-in-loop-key.view_is c.self-in-loop-key.invariant in
    spread-kept s kept (none_below (has s.stale) c.loop-key.below c.last_below.result (subst (λ (z : Spread). IsLast (has z.stale) c.loop-key.below c.last_below.result) c.self-in-loop-key.view_is c.last_below.ensures) c.in_default.not-Some c.loop-key.invariant.done)
