use Rattle.std.proofs.Common.{ℕ, ◌<◌, List, [], length, Some, arith, sym, ap, ◌∙◌, subst, slice_index_or}
use Rattle.std.specs.List.{AllByRecursion}
use Rattle.key_sets.specs.Sets.{has, IsFirst}
use Rattle.spread_flags.specs.Spread.{Spread, IsKept}
use Rattle.spread_flags.proofs.KeepLemmas.{stale_there, done_up, none_from, spread-kept}
use Rattle.spread_flags.proofs.flags.Flags.settle_up.Goals as goal

pub loop-key-preserved : goal.loop-key-preserved
loop-key-preserved c =
    let s = c.loop-key.self in
    let kept : IsKept s = subst (λ (z : Spread). IsKept z) c.self.view_is c.self.invariant in
    let key = c.in-Some.key in
    let found : IsFirst (has s.stale) c.loop-key.from (Some key) = subst (λ (z : Spread). IsFirst (has z.stale) c.loop-key.from (Some key)) c.self.view_is c.in-Some.ensures in
    let low = stale_there s key kept found.1 in
    record {
      links = c.look.ensures.links ∙ c.loop-key.invariant.links;
      seeds = c.look.ensures.seeds ∙ c.loop-key.invariant.seeds;
      gates = c.look.ensures.gates ∙ c.loop-key.invariant.gates;
      was = λ k. c.look.ensures.was k ∙ c.loop-key.invariant.was k;
      within = omega (arith, low, ap length c.loop-key.invariant.links);
      done = done_up s c.look.new.self.stale c.loop-key.from key found c.loop-key.invariant.done (subst (λ (ls : List (List ℕ)). AllByRecursion (λ d. key < d) (slice_index_or ls key [])) (sym c.loop-key.invariant.links) (c.requires key)) c.look.ensures.stale;
    }

pub returns-clause-spread : goal.returns-clause-spread
returns-clause-spread c =
    let s = c.loop-key.self in
    let kept : IsKept s = subst (λ (z : Spread). IsKept z) c.self.view_is c.self.invariant in
    spread-kept s kept (none_from (has s.stale) c.loop-key.from c.first_from.result (subst (λ (z : Spread). IsFirst (has z.stale) c.loop-key.from c.first_from.result) c.self.view_is c.first_from.ensures) c.in_default.not-Some c.loop-key.invariant.done)
