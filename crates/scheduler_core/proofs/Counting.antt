-- How many numbers an event draws, how many finishes it counts, and how many messages it sends.
use Rattle.std.proofs.Common.{◌≡◌, ℕ, ◌+◌, ◌<◌, ◌≤◌, Bool, true, false, cond, ◌&&◌, List, [], ◌∷◌, Option, Some, None, refl, sym, ap, ◌∙◌, subst, arith, length}
use Rattle.std.specs.Prelude.{nat_le, nat_lt}
use Rattle.std.specs.List.{AllByRecursion, list_all}
use Rattle.std.proofs.lemmas.List.FromFn.{length-range_with_len}
use Rattle.std.proofs.Math.Nat.{le-add_right, le_refl}
use Rattle.small_facts.proofs.Numbers.{equal_below_or_next}
use Rattle.small_facts.proofs.Truth.{and_second}
use Rattle.cluster_msgs.specs.declared.messages.Up.{Up}
use Rattle.cluster_msgs.specs.declared.messages.Up.TheVariants.{TaskFinished, TaskErred, AddKeys, ReleaseWorkerData, MissingData, RequestRefreshWhoHas, StealResponse}
use Rattle.cluster_msgs.specs.declared.messages.FromClient.{FromClient as FromClientMessage}
use Rattle.cluster_msgs.specs.declared.messages.FromClient.TheVariants.{Want, Release, Missing}
use Rattle.cluster_msgs.specs.declared.cores.Steal.{Steal}
use Rattle.cluster_msgs.specs.declared.cores.SchedEvent.{SchedEvent}
use Rattle.cluster_msgs.specs.declared.cores.SchedEvent.TheVariants.{Join, Leave, FromWorker, FromClient, Balance, Evict, Replicate}
use Rattle.cluster_rules.specs.Functions.{put, put_pair}
use Rattle.cluster_rules.specs.Derived.{below}
use Rattle.cluster_rules.specs.Sched.{Setting, Facts, keys, connected, holds, held, is_on}
use Rattle.cluster_rules.specs.Policies.{next_steal, next_drop}
use Rattle.cluster_rules.specs.SchedTable.{Changed, plain, is_this, is_copy, is_asked_back, refused, finished, failed, add_key, add_keys, released, lost_copy, stolen_to, answered, wants_more, wants_less, joined, left, balanced, evicted, change_up, change_client, change, up_keys, are_keys, sched_takes}
use Rattle.cluster_rules.specs.SchedStep.{place_keys, place_one, place_all, drop_bad, drop_has, drop_on, settle, posted, count_to, down_messages, finish_step, sched_step}
use Rattle.cluster_rules.proofs.SchedLemmas.{counter-place_one}
use Rattle.cluster_rules.proofs.SchedFrame.{placing_keys}
use Rattle.sched_changes.specs.Pairs.{so_far}
use Rattle.sched_changes.proofs.ChangeLemmas.{IsAdded, added_self, added_then, added_one, added_room}
use Rattle.sched_changes.proofs.RowLemmas.{all_less}
use Rattle.scheduler_core.proofs.PostLemmas.{count_to-few}

-- from f to g at most n numbers were drawn and one finish counted, and nothing was sent. The setting stays
pub record IsCounted (f g : Facts) (n : ℕ) : Type 0 where
  pub counter : g.counter ≤ f.counter + n
  pub finishes : g.finishes ≤ f.finishes + 1
  pub sent : g.sent ≡ f.sent
  pub setting : g.setting ≡ f.setting

none : (f : Facts) (n : ℕ) → IsCounted f f n
none f n = record { counter = le-add_right f.counter n; finishes = le-add_right f.finishes 1; sent = refl; setting = refl }

one : (m n : ℕ) → 0 < n → m + 1 ≤ m + n
one m n h = omega arith

some_key : (n k : ℕ) → list_all (λ k. nat_lt k n) (k ∷ []) ≡ true → 0 < n
some_key n k e = let l : k < n = (all_less n (k ∷ []) e).0 in omega arith

counted_finished : (f : Facts) (w k a n : ℕ) → 0 < n → IsCounted f (finished f w k a) n
unfolding finished
counted_finished f w k a n h = pick (is_this w a (f.on k))
  where
    pick : (b : Bool) → IsCounted f (cond b (record f { on = put f.on k None; steal = put f.steal k None; has = put_pair f.has w k (Some f.counter); counter = f.counter + 1; finishes = f.finishes + 1 }) f) n
    pick true = record { counter = one f.counter n h; finishes = le_refl (f.finishes + 1); sent = refl; setting = refl }
    pick false = none f n

counted_failed : (f : Facts) (w k a n : ℕ) → IsCounted f (failed f w k a) n
unfolding failed
counted_failed f w k a n = pick (is_this w a (f.on k))
  where
    pick : (b : Bool) → IsCounted f (cond b (record f { on = put f.on k None; steal = put f.steal k None; bad = put f.bad k true }) f) n
    pick true = record { counter = le-add_right f.counter n; finishes = le-add_right f.finishes 1; sent = refl; setting = refl }
    pick false = none f n

counted_released : (f : Facts) (w seen k n : ℕ) → IsCounted f (released f w seen k) n
unfolding released
counted_released f w seen k n = pick (nat_le (f.fence w k) seen)
  where
    pick : (b : Bool) → IsCounted f (cond b (record f { has = put_pair f.has w k None }) f) n
    pick true = record { counter = le-add_right f.counter n; finishes = le-add_right f.finishes 1; sent = refl; setting = refl }
    pick false = none f n

counted_lost : (f : Facts) (x k c n : ℕ) → IsCounted f (lost_copy f x k c).facts n
unfolding lost_copy
counted_lost f x k c n = pick (is_copy c (f.has x k))
  where
    yes : Changed
    yes = record (plain (record f { has = put_pair f.has x k None })) { freed = put_pair (λ w j. false) x k true }

    pick : (b : Bool) → IsCounted f (cond b yes (plain f)).facts n
    pick true = record { counter = le-add_right f.counter n; finishes = le-add_right f.finishes 1; sent = refl; setting = refl }
    pick false = none f n

counted_stolen : (f : Facts) (k n : ℕ) (s : Option (ℕ × Bool)) → 0 < n → IsCounted f (stolen_to f k s) n
counted_stolen f k n None h = none f n
counted_stolen f k n (Some p) h = pick (connected f p.0)
  where
    pick : (b : Bool) → IsCounted f (cond b (record f { on = put f.on k (Some (p.0, f.counter)); steal = put f.steal k None; counter = f.counter + 1 }) (record f { on = put f.on k None; steal = put f.steal k None })) n
    pick true = record { counter = one f.counter n h; finishes = le-add_right f.finishes 1; sent = refl; setting = refl }
    pick false = record { counter = le-add_right f.counter n; finishes = le-add_right f.finishes 1; sent = refl; setting = refl }

counted_answered : (f : Facts) (w k a : ℕ) (agreed : Bool) (n : ℕ) → 0 < n → IsCounted f (answered f w k a agreed) n
unfolding answered
counted_answered f w k a agreed n h = pick (is_this w a (f.on k) && is_asked_back (f.steal k)) agreed
  where
    pick : (b c : Bool) → IsCounted f (cond b (cond c (stolen_to f k (f.steal k)) (record f { steal = put f.steal k (refused (f.steal k)) })) f) n
    pick true true = counted_stolen f k n (f.steal k) h
    pick true false = record { counter = le-add_right f.counter n; finishes = le-add_right f.finishes 1; sent = refl; setting = refl }
    pick false c = none f n

-- what one key of add-keys changes does not depend on what was freed
add_facts : (w seen : ℕ) (g : Changed) (k : ℕ) → (add_key w seen (so_far g.facts []) k).facts ≡ (add_key w seen g k).facts
add_facts w seen g k = pick (nat_le (g.facts.fence w k) seen) (holds g.facts w k) (held g.facts k) (is_on g.facts w k)
  where
    s : Changed
    s = so_far g.facts []

    copy : Facts
    copy = record g.facts { has = put_pair g.facts.has w k (Some g.facts.counter); counter = g.facts.counter + 1 }

    pick : (a b c d : Bool) → (cond a (cond b s (cond c (record s { facts = copy }) (cond d s (record s { freed = put_pair s.freed w k true })))) s).facts ≡ (cond a (cond b g (cond c (record g { facts = copy }) (cond d g (record g { freed = put_pair g.freed w k true })))) g).facts
    pick false b c d = refl
    pick true true c d = refl
    pick true false true d = refl
    pick true false false true = refl
    pick true false false false = refl

added_keys : (w seen n : ℕ) (g : Changed) (ks : List ℕ) → AllByRecursion (λ k. k < n) ks → IsAdded g.facts (add_keys w seen g ks).facts w n
added_keys w seen n g [] h = added_self g.facts w n
added_keys w seen n g (k ∷ ks) h =
    let one : IsAdded g.facts (add_key w seen g k).facts w n = subst (λ (z : Facts). IsAdded g.facts z w n) (add_facts w seen g k) (added_one g.facts [] w seen k n h.0) in
    added_then g.facts (add_key w seen g k).facts (add_keys w seen (add_key w seen g k) ks).facts w n one (added_keys w seen n (add_key w seen g k) ks h.1)

counted_added : (f : Facts) (w seen n : ℕ) (ks : List ℕ) → AllByRecursion (λ k. k < n) ks → IsCounted f (add_keys w seen (plain f) ks).facts n
counted_added f w seen n ks h =
    let g = (add_keys w seen (plain f) ks).facts in
    let a : IsAdded f g w n = added_keys w seen n (plain f) ks h in
    record { counter = added_room f g w n (f.counter + n) a (le_refl (f.counter + n)); finishes = equal_below_or_next g.finishes f.finishes a.finishes; sent = a.sent; setting = a.setting }

counted_up : (f : Facts) (w : ℕ) (up : Up) → are_keys f (up_keys up) ≡ true → IsCounted f (change_up f w up).facts (keys f)
counted_up f w (TaskFinished seen k a) h = counted_finished f w k a (keys f) (some_key (keys f) k h)
counted_up f w (TaskErred seen k a) h = counted_failed f w k a (keys f)
counted_up f w (AddKeys seen ks) h = counted_added f w seen (keys f) ks (all_less (keys f) ks h)
counted_up f w (ReleaseWorkerData seen k) h = counted_released f w seen k (keys f)
counted_up f w (MissingData seen k x c) h = counted_lost f x k c (keys f)
counted_up f w (RequestRefreshWhoHas seen k) h = none f (keys f)
counted_up f w (StealResponse seen k a agreed) h = counted_answered f w k a agreed (keys f) (some_key (keys f) k h)

counted_client : (f : Facts) (c : ℕ) (msg : FromClientMessage) → IsCounted f (change_client f c msg).facts (keys f)
unfolding wants_more wants_less
counted_client f c (Want ks) = record { counter = le-add_right f.counter (keys f); finishes = le-add_right f.finishes 1; sent = refl; setting = refl }
counted_client f c (Release ks) = record { counter = le-add_right f.counter (keys f); finishes = le-add_right f.finishes 1; sent = refl; setting = refl }
counted_client f c (Missing k x copy) = counted_lost f x k copy (keys f)

counted_balanced : (f : Facts) (n : ℕ) (o : Option Steal) → IsCounted f (balanced f o).facts n
counted_balanced f n None = none f n
counted_balanced f n (Some c) = record { counter = le-add_right f.counter n; finishes = le-add_right f.finishes 1; sent = refl; setting = refl }

counted_evicted : (f : Facts) (n : ℕ) (o : Option (ℕ × ℕ)) → IsCounted f (evicted f o).facts n
counted_evicted f n None = none f n
counted_evicted f n (Some p) = record { counter = le-add_right f.counter n; finishes = le-add_right f.finishes 1; sent = refl; setting = refl }

pub counted_change : (f : Facts) (e : SchedEvent) → sched_takes f e ≡ true → IsCounted f (change f e).facts (keys f)
unfolding sched_takes joined left
counted_change f (Join threads) h = record { counter = le-add_right f.counter (keys f); finishes = le-add_right f.finishes 1; sent = refl; setting = refl }
counted_change f (Leave w) h = record { counter = le-add_right f.counter (keys f); finishes = le-add_right f.finishes 1; sent = refl; setting = refl }
counted_change f (FromWorker w up) h = counted_up f w up (and_second (connected f w) (are_keys f (up_keys up)) h)
counted_change f (FromClient c msg) h = counted_client f c msg
counted_change f Balance h = counted_balanced f (keys f) (next_steal f)
counted_change f Evict h = counted_evicted f (keys f) (next_drop f)
counted_change f (Replicate k w) h = none f (keys f)

place_counter : (f : Facts) (ks : List ℕ) → (place_keys f ks).counter ≤ f.counter + length ks
place_counter f [] = le-add_right f.counter 0
place_counter f (k ∷ ks) = omega (arith, place_counter (place_one f k) ks, counter-place_one f k)

-- the same once the facts have settled: each ready key draws one number more
pub counted_settled : (f : Facts) (g : Changed) → IsCounted f g.facts (keys f) → IsCounted f (settle f g).placed (keys f + keys f)
unfolding settle place_all drop_bad drop_has drop_on
counted_settled f g c =
    let o = drop_on (drop_has (drop_bad g.facts)) in
    let p = placing_keys o (below (keys o)) in
    record {
      counter = sum (place_all o).counter g.facts.counter f.counter (length (below (keys o))) (keys o) (keys f) (place_counter o (below (keys o))) (length-range_with_len 0 (keys o)) (ap (λ (z : Setting). length z.shape.deps) c.setting) c.counter;
      finishes = subst (λ n. n ≤ f.finishes + 1) (sym p.finishes) c.finishes;
      sent = p.sent ∙ c.sent;
      setting = p.setting ∙ c.setting;
    }
  where
    sum : (a b d l m n : ℕ) → a ≤ b + l → l ≡ m → m ≡ n → b ≤ d + n → a ≤ d + (n + n)
    sum a b d l m n h i j k = omega arith

-- what one whole event counts
pub record IsStepCounted (f g : Facts) (posts : ℕ) : Type 0 where
  pub counter : g.counter ≤ f.counter + (keys f + keys f)
  pub finishes : g.finishes ≤ f.finishes + 1
  pub sent : (w : ℕ) → g.sent w ≤ f.sent w + posts

pub counted_step : (f : Facts) (e : SchedEvent) → sched_takes f e ≡ true → IsStepCounted f (sched_step f e).facts (length (sched_step f e).down)
unfolding sched_step finish_step posted
counted_step f e h =
    let t = settle f (change f e) in
    let c = counted_settled f (change f e) (counted_change f e h) in
    record {
      counter = c.counter;
      finishes = c.finishes;
      sent = λ w. sum (t.placed.sent w) (f.sent w) (count_to w (down_messages t)) (length (down_messages t)) (ap (λ (s : ℕ → ℕ). s w) c.sent) (count_to-few w (down_messages t));
    }
  where
    sum : (a b c d : ℕ) → a ≡ b → c ≤ d → a + c ≤ b + d
    sum a b c d h i = omega arith
