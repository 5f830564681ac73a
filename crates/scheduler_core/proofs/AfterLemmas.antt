-- What a core keeps, event by event.
use Rattle.std.proofs.Common.{◌≡◌, ℕ, ◌+◌, ◌*◌, ◌^◌, ◌<◌, ◌≤◌, true, length, arith}
use Rattle.cluster_msgs.specs.declared.cores.SchedEvent.{SchedEvent}
use Rattle.cluster_rules.specs.Sched.{Setting, Facts, IsSound, sched_opening, keys}
use Rattle.cluster_rules.specs.SchedTable.{sched_takes}
use Rattle.cluster_rules.specs.SchedStep.{sched_step}
use Rattle.cluster_laws.proofs.SettledLemmas.{settled_step, settled_opening}
use Rattle.cluster_laws.proofs.Few.{few_opening, few_step}
use Rattle.scheduler_core.specs.Inner.{IsAfter}
use Rattle.scheduler_core.proofs.Counting.{counted_step}

pub after_opening : (c : Setting) → IsAfter (sched_opening c) 0
after_opening c = record { settled = settled_opening c; few = few_opening c; counter = omega arith; finishes = omega arith; sent = λ w. omega arith }

counter_more : (a b k n : ℕ) → b ≤ a + (k + k) → a ≤ 1 + n * 2 ^ 16 → k ≤ 32768 → b ≤ 1 + (n + 1) * 2 ^ 16
counter_more a b k n h i j = omega arith

finishes_more : (a b n : ℕ) → b ≤ a + 1 → a ≤ n → b ≤ n + 1
finishes_more a b n h i = omega arith

sent_more : (a b l n : ℕ) → b ≤ a + l → l ≤ 3 * 2 ^ 20 → a ≤ n * (3 * 2 ^ 20) → b ≤ (n + 1) * (3 * 2 ^ 20)
sent_more a b l n h i j = omega arith

pub after_more : (f : Facts) (e : SchedEvent) (n : ℕ) → IsSound f → sched_takes f e ≡ true → length (sched_step f e).down ≤ 3 * 2 ^ 20 → IsAfter f n → IsAfter (sched_step f e).facts (n + 1)
after_more f e n s h l a =
    let c = counted_step f e h in
    record {
      settled = settled_step f s a.settled e h;
      few = few_step f s e h a.few;
      counter = counter_more f.counter (sched_step f e).facts.counter (keys f) n c.counter a.counter s.shape.few;
      finishes = finishes_more f.finishes (sched_step f e).facts.finishes n c.finishes a.finishes;
      sent = λ w. sent_more (f.sent w) ((sched_step f e).facts.sent w) (length (sched_step f e).down) n (c.sent w) l (a.sent w);
    }

-- there is room for one more event
pub room_left : (a k n : ℕ) → a ≤ 1 + n * 2 ^ 16 → k ≤ 32768 → n < 1099511627776 → a + 2 * k < 2 ^ 62
room_left a k n h i j = omega arith

pub finishes_left : (a n : ℕ) → a ≤ n → n < 1099511627776 → a < 2 ^ 62
finishes_left a n h i = omega arith

pub sent_left : (a n : ℕ) → a ≤ n * (3 * 2 ^ 20) → n < 1099511627776 → a + 3 * 2 ^ 20 < 2 ^ 62
sent_left a n h i = omega arith

-- and for one more loss of each key
pub losses_left : (f : Facts) (n k : ℕ) → IsSound f → IsAfter f n → f.losses k < 2 ^ 31
losses_left f n k s a = let l = a.few k in omega (arith, l, s.few_numbers)
