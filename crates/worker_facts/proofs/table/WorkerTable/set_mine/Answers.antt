use Rattle.std.proofs.Common.{◌≡◌, ◌<◌, ◌∙◌, ◌+◌, ◌&&◌, not, is_some, cond, ap, sym, refl, arith, None, false}
use Rattle.cluster_msgs.specs.Shape.{key_count}
use Rattle.cluster_rules.specs.Functions.{put}
use Rattle.cluster_rules.specs.Derived.{is_in}
use Rattle.fact_rows.specs.Rows.{read}
use Rattle.worker_facts.proofs.FactLemmas.{waiters-bound, waiters-there, recounted, pends-mine}
use Rattle.worker_facts.specs.Stored.{facts_of, pends}
use Rattle.worker_facts.proofs.table.WorkerTable.set_mine.Goals as goal

pub recount-requires-clause-room : goal.recount-requires-clause-room
recount-requires-clause-room c k =
    let a = c.self.inside in
    omega (arith, c.self.invariant.awaiting k, waiters-bound a.shape (pends a.mine a.running) k, c.self.invariant.rows.shape.few)

pub recount-requires-clause-there : goal.recount-requires-clause-there
unfolding facts_of
recount-requires-clause-there c h k m =
    let a = c.self.inside in
    let key : c.args.key < key_count a.shape = rw (← c.self.view_is) at c.requires in
    let was : c.is_pending-before.result ≡ pends a.mine a.running c.args.key = rw (← c.self.view_is) at c.is_pending-before.ensures in
    rw (c.self.invariant.awaiting k) (waiters-there a.shape (pends a.mine a.running) c.args.key k key (sym was ∙ h) (ap (is_in k) (sym c.deps.ensures) ∙ m))

pub invariant_of-self : goal.invariant_of-self
unfolding facts_of
invariant_of-self c =
    let a = c.self.inside in
    let v = c.self.invariant in
    let key : c.args.key < key_count a.shape = rw (← c.self.view_is) at c.requires in
    let was : c.is_pending-before.result ≡ pends a.mine a.running c.args.key = rw (← c.self.view_is) at c.is_pending-before.ensures in
    let after : c.is_some.result && not c.test.result ≡ (is_some c.args.to && not (read a.running false c.args.key)) = rw (c.is_some.ensures, c.test.ensures) refl in
    record {
      rows = record { shape = v.rows.shape; mine = c.set.ensures.length ∙ v.rows.mine; mem = v.rows.mem; running = v.rows.running; holders = v.rows.holders; asked = v.rows.asked; sought = v.rows.sought; failed = v.rows.failed };
      wide = v.wide;
      awaiting_each = c.recount.ensures.length ∙ v.awaiting_each;
      awaiting = recounted a.shape (pends a.mine a.running) _ c.args.key a.awaiting c.recount.new.row c.is_pending-before.result (c.is_some.result && not c.test.result) key
          (pends-mine a.mine c.set.new.self a.running c.args.key c.args.to (c.set.ensures.meaning None) ∙ ap (λ b. put (pends a.mine a.running) c.args.key b) (sym after)) was v.awaiting
          (λ k. ap (λ ds. read c.recount.new.row 0 k + cond (c.is_pending-before.result && is_in k ds) 1 0) (sym c.deps.ensures) ∙ c.recount.ensures.counted k ∙ ap (λ ds. read a.awaiting 0 k + cond ((c.is_some.result && not c.test.result) && is_in k ds) 1 0) c.deps.ensures);
    }

pub returns : goal.returns
unfolding facts_of
returns c = rw (← c.self.view_is, c.set.ensures.meaning None) refl
