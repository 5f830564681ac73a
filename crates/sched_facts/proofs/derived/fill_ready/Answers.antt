use Rattle.std.proofs.Common.{◌≡◌, false, arith, ap, ◌∙◌, ◌&&◌}
use Rattle.cluster_rules.specs.Sched.{ready, need, fed, keys}
use Rattle.cluster_rules.proofs.SchedLemmas.{ready-past}
use Rattle.fact_rows.specs.Rows.{read}
use Rattle.sched_facts.specs.Stored.{facts_of}
use Rattle.sched_facts.proofs.DeriveLemmas.{filled_none, filled_more, filled_all}
use Rattle.sched_facts.proofs.derived.fill_ready.Goals as goal

pub loop-key-init : goal.loop-key-init
loop-key-init c = filled_none (ready (facts_of c.args.table.now)) false c.args.row.now (keys (facts_of c.args.table.now)) c.requires.length

pub loop-key-preserved : goal.loop-key-preserved
unfolding ready
loop-key-preserved c =
    let f = facts_of c.args.table.now in
    let k = c.loop-key.key in
    let needed = ap (λ h. h k) c.requires.need in
    let is_open = c.requires.open_keys k (omega (arith, c.keys-key-end.ensures)) in
    let value : ((c.test.result && c.test-in-loop-key.result) && c.is_fed.result) ≡ ready f k = rw (c.test.ensures, c.test-in-loop-key.ensures, c.is_fed.ensures) (ap (λ b. (b && read c.args.open_keys.now false k) && fed f k) needed ∙ ap (λ b. (need f k && b) && fed f k) is_open) in
    filled_more (ready f) false c.loop-key.row c.set.new.self (keys f) k ((c.test.result && c.test-in-loop-key.result) && c.is_fed.result) c.loop-key.invariant c.set.ensures.length (c.set.ensures.meaning false) value

pub returns-clause-meaning : goal.returns-clause-meaning
returns-clause-meaning c = let f = facts_of c.args.table.now in filled_all (ready f) false c.loop-key.row (keys f) c.loop-key.key c.loop-key.invariant (omega (arith, c.keys-key-end.ensures)) (λ k h. ready-past f c.sound.ensures k h)
