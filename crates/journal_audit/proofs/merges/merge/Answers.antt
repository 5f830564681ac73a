use Rattle.std.proofs.Common.{rules}
use Rattle.std.proofs.lemmas.Fn.{always_returns_same}
use Rattle.std.proofs.lemmas.List.Sorted.{IsNonDecreasingBy-from_sort_by_key}
use Rattle.cluster_msgs.specs.declared.events.Entry.{Entry}
use Rattle.journal_audit.proofs.MergeLemmas.{is_merge}
use Rattle.journal_audit.proofs.merges.merge.Goals as goal

pub returns : goal.returns
returns c =
    is_merge c.args.histories.items _ _ c.in_ok-entries.ensures
    (IsNonDecreasingBy-from_sort_by_key (λ (e : Entry). e.stamp) _ c.in_ok-sort_by_key.ensures.sorted (λ a r q k. search rules))
    (c.sort_by_key.ensures.stable (λ (e : Entry). e.stamp) (always_returns_same _ _ _ (λ a r q k. search rules)))
