use Rattle.std.proofs.Common.{arith, false, ◌∙◌}
use Rattle.std.proofs.lemmas.List.{get_or_default}
use Rattle.spread_flags.specs.Spreads.{spread_of}
use Rattle.spread_flags.proofs.KeepLemmas.{kept-new}
use Rattle.spread_flags.proofs.flags.Flags.new.Goals as goal

pub invariant_of-result : goal.invariant_of-result
invariant_of-result c =
    kept-new (spread_of record { links = c.args.links; seeds = c.in_ok-seeds.seeds; gates = c.in_ok-gate_row.gate_row; flags = c.in_ok-flags.flags; counts = c.in_ok-counts.counts; stale = c.in_ok-stale.stale; changed = c.in_ok-changed.changed })
    c.requires
    (omega (arith, c.in_ok-seeds.ensures.length, c.args.links.ok.0))
    (omega (arith, c.in_ok-gate_row.ensures.length, c.args.links.ok.0))
    (omega (arith, c.in_ok-flags.ensures.length, c.args.links.ok.0))
    (omega (arith, c.in_ok-counts.ensures.length, c.args.links.ok.0))
    (omega (arith, c.in_ok-stale.ensures.room, c.args.links.ok.0))
    (omega (arith, c.in_ok-changed.ensures.room, c.args.links.ok.0))
    c.in_ok-seeds.ensures.same c.in_ok-flags.ensures.same c.in_ok-counts.ensures.same c.in_ok-stale.ensures.keys c.in_ok-changed.ensures.keys

pub returns-clause-gates : goal.returns-clause-gates
returns-clause-gates c k l = get_or_default c.in_ok-gate_row.gate_row k false c.args.gates (omega (arith, l, c.in_ok-gate_row.ensures.length, c.len-count.ensures)) ∙ c.in_ok-gate_row.ensures.same k
