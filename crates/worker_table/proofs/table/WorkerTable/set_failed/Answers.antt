use Rattle.std.proofs.Common.{◌≡◌, ◌∙◌, ap, sym}
use Rattle.cluster_rules.specs.Functions.{put}
use Rattle.worker_facts.specs.Stored.{facts_of}
use Rattle.worker_table.specs.Links.{dependents}
use Rattle.worker_table.specs.Parts.{parts}
use Rattle.worker_table.proofs.PartLemmas.{failed_apart, count_same}
use Rattle.worker_table.proofs.TableLemmas.{fits_same}
use Rattle.worker_table.proofs.table.WorkerTable.set_failed.Goals as goal

pub invariant_of-self : goal.invariant_of-self
invariant_of-self c =
    let a = c.self.inside in
    let f = facts_of a.facts in
    let h = facts_of c.set_failed.new.self in
    let e : h ≡ record f { failed = put f.failed c.args.key c.args.to } = c.set_failed.ensures in
    fits_same f h a.dependents.items a.plan a.count a.count (ap (λ w. w.shape) e) c.self.invariant (λ k. failed_apart f c.args.key k c.args.to ∙ ap (λ w. parts w k) (sym e)) (count_same f h a.count (ap (λ w. w.shape) e) (ap (λ w. w.running) e) c.self.invariant.count)
