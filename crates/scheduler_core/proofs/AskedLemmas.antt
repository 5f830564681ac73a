-- The keys that an event asks for.
use Rattle.std.proofs.Common.{◌≡◌, ℕ, ◌<◌, true, [], refl}
use Rattle.std.specs.List.{All}
use Rattle.std.proofs.lemmas.List.Elements.{All-from_recursion}
use Rattle.cluster_msgs.specs.declared.messages.FromClient.TheVariants.{Want, Release, Missing}
use Rattle.cluster_msgs.specs.declared.cores.SchedEvent.{SchedEvent}
use Rattle.cluster_msgs.specs.declared.cores.SchedEvent.TheVariants.{Join, Leave, FromWorker, FromClient, Balance, Evict, Replicate}
use Rattle.cluster_rules.specs.Derived.{is_in}
use Rattle.cluster_rules.specs.Sched.{Facts, keys}
use Rattle.cluster_rules.specs.SchedTable.{sched_takes}
use Rattle.sched_changes.specs.Effects.{asked_in, asked_list}
use Rattle.sched_changes.proofs.RowLemmas.{all_there, asks}

none_there : (n : ℕ) → All (λ k. k < n) []
none_there n = All-from_recursion (λ k. k < n) [] tt

-- the keys that an event asks for are there
pub asked_there : (f : Facts) (e : SchedEvent) → sched_takes f e ≡ true → All (λ k. k < keys f) (asked_list e)
asked_there f (Join threads) h = none_there (keys f)
asked_there f (Leave w) h = none_there (keys f)
asked_there f (FromWorker w up) h = none_there (keys f)
asked_there f (FromClient c (Want ks)) h = all_there (keys f) ks (asks f c (Want ks) h).2
asked_there f (FromClient c (Release ks)) h = none_there (keys f)
asked_there f (FromClient c (Missing k x n)) h = none_there (keys f)
asked_there f Balance h = none_there (keys f)
asked_there f Evict h = none_there (keys f)
asked_there f (Replicate k w) h = none_there (keys f)

pub asked_same : (e : SchedEvent) (k : ℕ) → is_in k (asked_list e) ≡ asked_in e k
asked_same (Join threads) k = refl
asked_same (Leave w) k = refl
asked_same (FromWorker w up) k = refl
asked_same (FromClient c (Want ks)) k = refl
asked_same (FromClient c (Release ks)) k = refl
asked_same (FromClient c (Missing q x n)) k = refl
asked_same Balance k = refl
asked_same Evict k = refl
asked_same (Replicate q w) k = refl
