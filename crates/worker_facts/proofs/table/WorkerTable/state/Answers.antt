use Rattle.std.proofs.Common.{◌≡◌, ◌∙◌, ap, sym, refl, is_some, true, false}
use Rattle.cluster_rules.specs.Worker.{wstate, flying, used, is_wanted}
use Rattle.worker_facts.specs.Stored.{facts_of}
use Rattle.worker_facts.proofs.table.WorkerTable.state.Goals as goal

pub returns-then-in_memory : goal.returns-then-in_memory
unfolding wstate
returns-then-in_memory c =
    let w = facts_of c.args.self.now in
    let k = c.args.key in
    let m : w.mem k ≡ true = sym c.in_memory.ensures ∙ c.if-in_memory.true in
    rw (m) refl

pub returns-then-is_running : goal.returns-then-is_running
unfolding wstate
returns-then-is_running c =
    let w = facts_of c.args.self.now in
    let k = c.args.key in
    let m : w.mem k ≡ false = sym c.in_memory.ensures ∙ c.if-in_memory.false in
    let r : w.running k ≡ true = sym c.is_running.ensures ∙ c.if-is_running.true in
    let i : c.is_some-given.result ≡ is_some (w.mine k) = c.is_some-given.ensures ∙ ap is_some c.mine.ensures in
    rw (c.state_of_run.ensures, c.is_wanted.ensures, i, m, r) refl

pub returns-then-is_flying : goal.returns-then-is_flying
unfolding wstate
returns-then-is_flying c =
    let w = facts_of c.args.self.now in
    let k = c.args.key in
    let m : w.mem k ≡ false = sym c.in_memory.ensures ∙ c.if-in_memory.false in
    let r : w.running k ≡ false = sym c.is_running.ensures ∙ c.if-is_running.false in
    let f : flying w k ≡ true = sym c.is_flying.ensures ∙ c.if-is_flying.true in
    let i : c.is_some-given.result ≡ is_some (w.mine k) = c.is_some-given.ensures ∙ ap is_some c.mine.ensures in
    rw (c.state_in_flight.ensures, c.is_wanted-then-is_flying.ensures, i, m, r, f) refl

pub returns-then-given : goal.returns-then-given
unfolding wstate
returns-then-given c =
    let w = facts_of c.args.self.now in
    let k = c.args.key in
    let m : w.mem k ≡ false = sym c.in_memory.ensures ∙ c.if-in_memory.false in
    let r : w.running k ≡ false = sym c.is_running.ensures ∙ c.if-is_running.false in
    let f : flying w k ≡ false = sym c.is_flying.ensures ∙ c.if-is_flying.false in
    let i : is_some (w.mine k) ≡ true = ap is_some (sym c.mine.ensures) ∙ sym c.is_some-given.ensures ∙ c.if-given.true in
    rw (c.state_of_task.ensures, c.is_fed.ensures, m, r, f, i) refl

pub returns-then-is_wanted : goal.returns-then-is_wanted
unfolding wstate
returns-then-is_wanted c =
    let w = facts_of c.args.self.now in
    let k = c.args.key in
    let m : w.mem k ≡ false = sym c.in_memory.ensures ∙ c.if-in_memory.false in
    let r : w.running k ≡ false = sym c.is_running.ensures ∙ c.if-is_running.false in
    let f : flying w k ≡ false = sym c.is_flying.ensures ∙ c.if-is_flying.false in
    let i : is_some (w.mine k) ≡ false = ap is_some (sym c.mine.ensures) ∙ sym c.is_some-given.ensures ∙ c.if-given.false in
    let x : is_wanted w k ≡ true = sym c.is_wanted-2.ensures ∙ c.if-is_wanted.true in
    rw (c.state_of_wanted.ensures, c.has_holder.ensures, x, m, r, f, i) refl

pub returns-then-has_failed : goal.returns-then-has_failed
unfolding wstate
returns-then-has_failed c =
    let w = facts_of c.args.self.now in
    let k = c.args.key in
    let m : w.mem k ≡ false = sym c.in_memory.ensures ∙ c.if-in_memory.false in
    let r : w.running k ≡ false = sym c.is_running.ensures ∙ c.if-is_running.false in
    let f : flying w k ≡ false = sym c.is_flying.ensures ∙ c.if-is_flying.false in
    let i : is_some (w.mine k) ≡ false = ap is_some (sym c.mine.ensures) ∙ sym c.is_some-given.ensures ∙ c.if-given.false in
    let x : is_wanted w k ≡ false = sym c.is_wanted-2.ensures ∙ c.if-is_wanted.false in
    let e : w.failed k ≡ true = sym c.has_failed.ensures ∙ c.if-has_failed.true in
    rw (x, m, r, f, i, e) refl

pub returns-then-is_used : goal.returns-then-is_used
unfolding wstate
returns-then-is_used c =
    let w = facts_of c.args.self.now in
    let k = c.args.key in
    let m : w.mem k ≡ false = sym c.in_memory.ensures ∙ c.if-in_memory.false in
    let r : w.running k ≡ false = sym c.is_running.ensures ∙ c.if-is_running.false in
    let f : flying w k ≡ false = sym c.is_flying.ensures ∙ c.if-is_flying.false in
    let i : is_some (w.mine k) ≡ false = ap is_some (sym c.mine.ensures) ∙ sym c.is_some-given.ensures ∙ c.if-given.false in
    let x : is_wanted w k ≡ false = sym c.is_wanted-2.ensures ∙ c.if-is_wanted.false in
    let e : w.failed k ≡ false = sym c.has_failed.ensures ∙ c.if-has_failed.false in
    let u : used w k ≡ true = sym c.is_used.ensures ∙ c.if-is_used.true in
    rw (x, m, r, f, i, e, u) refl

pub returns : goal.returns
unfolding wstate
returns c =
    let w = facts_of c.args.self.now in
    let k = c.args.key in
    let m : w.mem k ≡ false = sym c.in_memory.ensures ∙ c.if-in_memory.false in
    let r : w.running k ≡ false = sym c.is_running.ensures ∙ c.if-is_running.false in
    let f : flying w k ≡ false = sym c.is_flying.ensures ∙ c.if-is_flying.false in
    let i : is_some (w.mine k) ≡ false = ap is_some (sym c.mine.ensures) ∙ sym c.is_some-given.ensures ∙ c.if-given.false in
    let x : is_wanted w k ≡ false = sym c.is_wanted-2.ensures ∙ c.if-is_wanted.false in
    let e : w.failed k ≡ false = sym c.has_failed.ensures ∙ c.if-has_failed.false in
    let u : used w k ≡ false = sym c.is_used.ensures ∙ c.if-is_used.false in
    rw (x, m, r, f, i, e, u) refl
