use Rattle.std.proofs.Common.{◌≡◌, ℕ, ◌-◌, ◌≤◌, false, get_or, ◌||◌, ◌&&◌, length}
use Rattle.std.specs.List.{list_any, range_with_len}
use Rattle.cluster_rules.specs.Derived.{is_in, reach}
use Rattle.cluster_rules.specs.Sched.{keys, deps}
use Rattle.sched_facts.specs.Stored.{facts_of}
use Rattle.sched_facts.proofs.derived.spread.Given as goal

-- a key is marked where it was a start or a key that is done leads to it
abbrev pub invariant-loop-done : goal.invariant-loop-done
invariant-loop-done l =
    let f = facts_of l.table in
    record {
      long : length l.row ≡ keys f;
      within : l.done ≤ keys f;
      marked : (k : ℕ) → get_or l.row k false ≡ (get_or l.fn.row k false || list_any (λ j. is_in k (deps f j) && (get_or l.pass j false && reach (deps f) (keys f) (λ i. get_or l.fn.row i false) (λ i. get_or l.pass i false) j)) (range_with_len (keys f - l.done) l.done));
    }
