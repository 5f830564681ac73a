use Rattle.std.proofs.Common.{◌≡◌, ℕ, Option, false, ap, ◌∙◌, not, ◌&&◌, is_some}
use Rattle.cluster_rules.specs.Sched.{open_key, held, blame, keys}
use Rattle.cluster_rules.proofs.SchedLemmas.{is_some-blame}
use Rattle.sched_facts.specs.Stored.{facts_of}
use Rattle.sched_facts.proofs.DeriveLemmas.{filled_none, filled_more}
use Rattle.sched_facts.proofs.derived.fill_open.Goals as goal

pub loop-key-init : goal.loop-key-init
loop-key-init c = filled_none (open_key (facts_of c.args.table.now)) false c.args.row.now (keys (facts_of c.args.table.now)) c.requires.length

pub loop-key-preserved : goal.loop-key-preserved
loop-key-preserved c =
    let f = facts_of c.args.table.now in
    let k = c.loop-key.key in
    let value : (not c.is_held.result && not c.has_blame.result) ≡ open_key f k = ap (λ b. not b && not c.has_blame.result) c.is_held.ensures ∙ ap (λ b. not (held f k) && not b) (c.has_blame.ensures ∙ ap (λ (r : ℕ → Option ℕ). is_some (r k)) c.requires.blame ∙ is_some-blame f c.sound.ensures k) in
    filled_more (open_key f) false c.loop-key.row c.set.new.self (keys f) k (not c.is_held.result && not c.has_blame.result) c.loop-key.invariant c.set.ensures.length (c.set.ensures.meaning false) value
