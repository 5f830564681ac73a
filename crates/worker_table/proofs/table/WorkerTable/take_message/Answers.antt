use Rattle.std.proofs.Common.{◌≡◌, ◌∙◌, ◌+◌, ap, sym}
use Rattle.worker_facts.specs.Stored.{facts_of}
use Rattle.worker_table.specs.Links.{dependents}
use Rattle.worker_table.specs.Parts.{parts}
use Rattle.worker_table.proofs.PartLemmas.{seen_apart, count_same}
use Rattle.worker_table.proofs.TableLemmas.{fits_same}
use Rattle.worker_table.proofs.table.WorkerTable.take_message.Goals as goal

pub invariant_of-self : goal.invariant_of-self
invariant_of-self c =
    let a = c.self.inside in
    let f = facts_of a.facts in
    let h = facts_of c.take_message.new.self in
    let e : h ≡ record f { seen = f.seen + 1 } = c.take_message.ensures in
    fits_same f h a.dependents.items a.plan a.count a.count (ap (λ w. w.shape) e) c.self.invariant (λ k. seen_apart f k (f.seen + 1) ∙ ap (λ w. parts w k) (sym e)) (count_same f h a.count (ap (λ w. w.shape) e) (ap (λ w. w.running) e) c.self.invariant.count)
