use Rattle.std.proofs.Common.{◌≡◌, ◌-◌, ◌^◌, ◌<◌, map, take}
use Rattle.cluster_rules.specs.Report.{is_join, how_many}
use Rattle.run_report.specs.Counts.{IsCountOf}
use Rattle.journal_audit.specs.Reports.{taken_of}
use Rattle.journal_audit.proofs.reports.counted.Given as goal

abbrev pub invariant-loop-entry : goal.invariant-loop-entry
invariant-loop-entry l = record {
  tally : IsCountOf l.tally (map taken_of (take l.entry-index l.entries));
  joins : l.joins ≡ how_many is_join (map taken_of (take l.entry-index l.entries));
  few : l.joins < 2 ^ 32 - 1;
}
