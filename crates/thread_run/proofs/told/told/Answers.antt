use Rattle.std.proofs.Common.{[], ◌∷◌, map, subst, ap, ◌∙◌}
use Rattle.std.proofs.lemmas.List.{map-append}
use Rattle.cluster_msgs.specs.declared.events.History.{History}
use Rattle.journal_audit.specs.Merges.{IsMerge}
use Rattle.thread_run.proofs.told.told.Goals as goal

pub returns-clause-told : goal.returns-clause-told
returns-clause-told c =
    let h = c.args.histories in
    record {
      journal = c.in_ok-journal.journal;
      merged = subst (λ ls. IsMerge ls c.in_ok-journal.journal)
          (ap (map (λ (x : History). x.entries)) c.in_ok-listed.ensures ∙ ap (λ t. h.scheduler.entries ∷ t) (map-append (λ (x : History). x.entries) h.workers.items (h.client ∷ []))) c.in_ok-journal.ensures;
      report = c.in_ok-report.ensures.report;
      verdict = c.in_ok-verdict.ensures h c.are_whole-whole.ensures;
    }
