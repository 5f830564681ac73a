-- Keys that are there, and what the policies choose.
use Rattle.std.proofs.Common.{◌≡◌, ℕ, ◌<◌, ◌≤◌, length, true, ◌&&◌, List, [], ◌∷◌, Option, Some, None, is_some, is_none, refl, sym, subst}
use Rattle.std.specs.Prelude.{nat_lt, nat_le}
use Rattle.std.specs.List.{All, AllByRecursion, list_all}
use Rattle.std.proofs.lemmas.Bool.{false≢true, ltb-true, leb-true}
use Rattle.std.proofs.lemmas.List.Elements.{All-from_recursion}
use Rattle.small_facts.proofs.Truth.{and_first, and_second}
use Rattle.cluster_msgs.specs.declared.messages.Up.{Up}
use Rattle.cluster_msgs.specs.declared.messages.FromClient.{FromClient as FromClientMessage}
use Rattle.cluster_msgs.specs.declared.cores.Steal.{Steal}
use Rattle.cluster_msgs.specs.declared.cores.SchedEvent.TheVariants.{Join, Leave, FromWorker, FromClient}
use Rattle.cluster_rules.specs.SchedTable.{sched_takes, are_keys, up_keys, client_keys}
use Rattle.cluster_rules.specs.Choice.{IsLeastOf}
use Rattle.cluster_rules.specs.Sched.{Facts, IsSound, keys, connected, workers, is_on, is_for}
use Rattle.cluster_rules.specs.Policies.{may_steal, steal_choices, steal_rank, next_steal, next_drop, IsDropOf}
use Rattle.cluster_rules.proofs.ChoiceLemmas.{least_by_least}
use Rattle.cluster_rules.proofs.PolicyLemmas.{steal_choice_from, next_drop_is}

pub all_less : (n : ℕ) (ks : List ℕ) → list_all (λ k. nat_lt k n) ks ≡ true → AllByRecursion (λ k. k < n) ks
all_less n [] e = tt
all_less n (k ∷ ks) e = (ltb-true k n (and_first (nat_lt k n) (list_all (λ j. nat_lt j n) ks) e), all_less n ks (and_second (nat_lt k n) (list_all (λ j. nat_lt j n) ks) e))

pub all_there : (n : ℕ) (ks : List ℕ) → list_all (λ k. nat_lt k n) ks ≡ true → All (λ k. k < n) ks
all_there n ks e = All-from_recursion (λ k. k < n) ks (all_less n ks e)

pub key_there : (n k : ℕ) → list_all (λ j. nat_lt j n) (k ∷ []) ≡ true → k < n
key_there n k e = (all_less n (k ∷ []) e).0

pub on_some : (w : ℕ) (o : Option (ℕ × ℕ)) → is_for w o ≡ true → is_some o ≡ true
on_some w None e = absurd (false≢true e)
on_some w (Some p) e = refl

-- what is stolen is a key that is there and on a worker
pub stolen_there : (f : Facts) (c : Steal) → Some c ≡ next_steal f → (c.key < keys f) × (is_some (f.on c.key) ≡ true)
unfolding next_steal may_steal
stolen_there f c e =
    let best : IsLeastOf (steal_rank f) (steal_choices f) (Some c) = subst (IsLeastOf (steal_rank f) (steal_choices f)) (sym e) (least_by_least (steal_rank f) (steal_choices f)) in
    let r = steal_choice_from f c best.member in
    (r.key, on_some c.victim (f.on c.key) (and_first (is_on f c.victim c.key) (is_none (f.steal c.key)) (and_first (is_on f c.victim c.key && is_none (f.steal c.key)) _ r.allowed)))

-- what is dropped is a copy that a connected worker holds
pub dropped_there : (f : Facts) → IsSound f → (w k : ℕ) → Some (w, k) ≡ next_drop f → (connected f w ≡ true) × (k < keys f)
dropped_there f s w k e =
    let d : IsDropOf f (Some (w, k)) = subst (IsDropOf f) (sym e) (next_drop_is f) in
    (s.holders w k d.holder, d.key)

-- what an event that is taken has
pub record IsJoinable (f : Facts) (threads : ℕ) : Type 0 where
  pub threads_fit : (1 ≤ threads) × (threads ≤ 16)
  pub few_workers : length (workers f) < 64
  pub few_numbers : f.last_worker < 1024

pub joins : (f : Facts) (threads : ℕ) → sched_takes f (Join threads) ≡ true → IsJoinable f threads
unfolding sched_takes
joins f t h =
    let a = and_first (nat_le 1 t && nat_le t 16) (nat_lt (length (workers f)) 64 && nat_lt f.last_worker 1024) h in
    let b = and_second (nat_le 1 t && nat_le t 16) (nat_lt (length (workers f)) 64 && nat_lt f.last_worker 1024) h in
    record {
      threads_fit = (leb-true 1 t (and_first (nat_le 1 t) (nat_le t 16) a), leb-true t 16 (and_second (nat_le 1 t) (nat_le t 16) a));
      few_workers = ltb-true (length (workers f)) 64 (and_first (nat_lt (length (workers f)) 64) (nat_lt f.last_worker 1024) b);
      few_numbers = ltb-true f.last_worker 1024 (and_second (nat_lt (length (workers f)) 64) (nat_lt f.last_worker 1024) b);
    }

pub leaves : (f : Facts) (w : ℕ) → sched_takes f (Leave w) ≡ true → connected f w ≡ true
unfolding sched_takes
leaves f w h = h

pub tells : (f : Facts) (w : ℕ) (up : Up) → sched_takes f (FromWorker w up) ≡ true → (connected f w ≡ true) × (are_keys f (up_keys up) ≡ true)
unfolding sched_takes
tells f w up h = (and_first (connected f w) (are_keys f (up_keys up)) h, and_second (connected f w) (are_keys f (up_keys up)) h)

pub asks : (f : Facts) (c : ℕ) (msg : FromClientMessage) → sched_takes f (FromClient c msg) ≡ true → (1 ≤ c) × (c ≤ f.setting.clients) × (are_keys f (client_keys msg) ≡ true)
unfolding sched_takes
asks f c msg h =
    let a = and_first (nat_le 1 c && nat_le c f.setting.clients) (are_keys f (client_keys msg)) h in
    (leb-true 1 c (and_first (nat_le 1 c) (nat_le c f.setting.clients) a), leb-true c f.setting.clients (and_second (nat_le 1 c) (nat_le c f.setting.clients) a), and_second (nat_le 1 c && nat_le c f.setting.clients) (are_keys f (client_keys msg)) h)
