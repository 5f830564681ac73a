use Rattle.std.proofs.Common.{◌≡◌, ◌∙◌, ap, sym, refl, ℕ}
use Rattle.std.specs.Prelude.{◌==◌}
use Rattle.std.specs.List.{list_any}
use Rattle.cluster_rules.specs.Worker.{ask_items, fetchable}
use Rattle.worker_facts.proofs.FactLemmas.{asked_below}
use Rattle.worker_facts.specs.Stored.{facts_of}
use Rattle.worker_table.proofs.table.WorkerTable.ask_items.Goals as goal

pub returns-clause-value : goal.returns-clause-value
unfolding ask_items
returns-clause-value c = rw (c.truncate.ensures.items, c.fitting_count.ensures, c.as_slice.ensures.value, c.in_ok-items.ensures) (rw (c.self.view_is) refl)

pub returns-clause-keys : goal.returns-clause-keys
unfolding ask_items
returns-clause-keys c k h =
    let f = facts_of c.args.self.now in
    let e : c.truncate.new.self.items ≡ ask_items f.shape (fetchable f c.args.peer) = rw (c.truncate.ensures.items, c.fitting_count.ensures, c.as_slice.ensures.value, c.in_ok-items.ensures) (rw (c.self.view_is) refl) in
    asked_below f c.args.peer k (ap (list_any (λ (i : ℕ × ℕ). i.0 == k)) (sym e) ∙ h)
