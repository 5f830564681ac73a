use Rattle.std.proofs.Common.{◌≡◌, ◌≤◌, ◌+◌, ℕ, Bool, true, false, cond, length, ap, ◌∙◌, arith}
use Rattle.std.specs.List.{filter}
use Rattle.std.proofs.Math.Nat.{add_comm}
use Rattle.cluster_rules.specs.Functions.{from_one}
use Rattle.cluster_rules.specs.Sched.{connected}
use Rattle.sched_facts.specs.Stored.{facts_of}
use Rattle.sched_facts.proofs.Rooms.{connected_more}
use Rattle.sched_facts.proofs.table.FactTable.connected_count.Goals as goal

more : (b : Bool) (count new n : ℕ) → new ≡ count + cond b 1 0 → count ≤ n → new ≤ n + 1
more true count new n e l = omega arith
more false count new n e l = omega arith

pub loop-before-preserved : goal.loop-before-preserved
loop-before-preserved c =
    let f = facts_of c.args.self.now in
    let is : c.one_more-count.result ≡ c.loop-before.count + cond (connected f (1 + c.loop-before.before)) 1 0 = c.one_more-count.ensures ∙ ap (λ b. c.loop-before.count + cond b 1 0) (c.is_connected.ensures ∙ ap (connected f) (add_comm c.loop-before.before 1)) in
    record {
      is = connected_more (connected f) c.loop-before.before c.loop-before.count c.one_more-count.result c.loop-before.invariant.is is;
      few = more (connected f (1 + c.loop-before.before)) c.loop-before.count c.one_more-count.result c.loop-before.before is c.loop-before.invariant.few;
    }

pub returns : goal.returns
returns c =
    let f = facts_of c.args.self.now in
    let all : c.loop-before.before ≡ f.last_worker = omega (arith, c.last_worker-before-end.ensures) in
    c.loop-before.invariant.is ∙ ap (λ n. length (filter (connected f) (from_one n))) all
