-- What a `FactTable` keeps, after each of its changes.
use Rattle.std.proofs.Common.{◌≡◌, ℕ, ◌+◌, ◌-◌, ◌<◌, ◌≤◌, Bool, true, false, cond, List, length, Option, Some, None, is_some, refl, sym, ap, ◌∙◌, subst, arith}
use Rattle.std.proofs.lemmas.Bool.{eqb-true}
use Rattle.std.proofs.Math.Dec.{eqb}
use Rattle.small_facts.proofs.Numbers.{eqb_self}
use Rattle.fact_rows.specs.Rows.{read}
use Rattle.cluster_msgs.specs.Shape.{work_of, nbytes_of}
use Rattle.cluster_rules.specs.Functions.{put, put_pair}
use Rattle.cluster_rules.specs.Sched.{Facts, keys, holds, is_on, is_for, connected, tasks, occupancy, bytes_held, holder_count}
use Rattle.sched_facts.specs.Kept.{IsSummed, IsKeeping, want_count}
use Rattle.sched_facts.proofs.SumLemmas.{tasks-placed, occupancy-placed, bytes-copied, holders-copied, wanters-put}
use Rattle.sched_facts.proofs.SoundTable.{sound-counted, sound-sent, sound-want, sound-bad, sound-losses, sound-copied, sound-placed, sound-marked, fresh-counted, fresh-copied, fresh-placed}

moved : (P : Facts → ℕ → Type 0) (f g : Facts) (m n : ℕ) → g ≡ f → n ≡ m → P f m → P g n
moved P f g m n e d p = subst (λ h. P h n) (sym e) (subst (λ k. P f k) (sym d) p)

-- facts on which no sum depends
summed-rest : (f : Facts) (steal : ℕ → Option (ℕ × Bool)) (bad : ℕ → Bool) (threads : ℕ → Option ℕ) (sent : ℕ → ℕ) (fence : ℕ → ℕ → ℕ) (n m : ℕ) (t w b h c : List ℕ) → IsSummed f t w b h c → IsSummed (record f { steal = steal; bad = bad; threads = threads; sent = sent; fence = fence; counter = n; finishes = m }) t w b h c
unfolding tasks occupancy bytes_held holder_count want_count
summed-rest f steal bad threads sent fence n m t w b h c s = record { tasks = s.tasks; work = s.work; bytes = s.bytes; holders = s.holders; wanters = s.wanters }

pub keep-marked : (f g : Facts) (m n : ℕ) (t w b h c : List ℕ) (k : ℕ) (to : Option (ℕ × Bool)) → g ≡ record f { steal = put f.steal k to } → n ≡ m → is_some (f.on k) ≡ true → IsKeeping f m t w b h c → IsKeeping g n t w b h c
keep-marked f g m n t w b h c k to e d on s = moved (λ (x : Facts) (r : ℕ). IsKeeping x r t w b h c) (record f { steal = put f.steal k to }) g m n e d (record {
  sound = sound-marked f k to on s.sound;
  fresh = record { copies = s.fresh.copies; attempts = s.fresh.attempts };
  sums = summed-rest f (put f.steal k to) f.bad f.threads f.sent f.fence f.counter f.finishes t w b h c s.sums;
  last = s.last;
  task_rows = s.task_rows;
  work_rows = s.work_rows;
  byte_rows = s.byte_rows;
  holder_rows = s.holder_rows;
  want_rows = s.want_rows;
})

pub keep-bad : (f g : Facts) (m n : ℕ) (t w b h c : List ℕ) (k : ℕ) (to : Bool) → g ≡ record f { bad = put f.bad k to } → n ≡ m → k < keys f → IsKeeping f m t w b h c → IsKeeping g n t w b h c
keep-bad f g m n t w b h c k to e d l s = moved (λ (x : Facts) (r : ℕ). IsKeeping x r t w b h c) (record f { bad = put f.bad k to }) g m n e d (record {
  sound = sound-bad f k to l s.sound;
  fresh = record { copies = s.fresh.copies; attempts = s.fresh.attempts };
  sums = summed-rest f f.steal (put f.bad k to) f.threads f.sent f.fence f.counter f.finishes t w b h c s.sums;
  last = s.last;
  task_rows = s.task_rows;
  work_rows = s.work_rows;
  byte_rows = s.byte_rows;
  holder_rows = s.holder_rows;
  want_rows = s.want_rows;
})

summed-losses : (f : Facts) (bad : ℕ → Bool) (losses : ℕ → ℕ) (t w b h c : List ℕ) → IsSummed f t w b h c → IsSummed (record f { bad = bad; losses = losses }) t w b h c
unfolding tasks occupancy bytes_held holder_count want_count
summed-losses f bad losses t w b h c s = record { tasks = s.tasks; work = s.work; bytes = s.bytes; holders = s.holders; wanters = s.wanters }

pub keep-losses : (f g : Facts) (m n : ℕ) (t w b h c : List ℕ) (bad : ℕ → Bool) (k to : ℕ) → g ≡ record f { bad = bad; losses = put f.losses k to } → n ≡ m → k < keys f → ((j : ℕ) → keys f ≤ j → bad j ≡ false) → IsKeeping f m t w b h c → IsKeeping g n t w b h c
keep-losses f g m n t w b h c bad k to e d l low s = moved (λ (x : Facts) (r : ℕ). IsKeeping x r t w b h c) (record f { bad = bad; losses = put f.losses k to }) g m n e d (record {
  sound = sound-losses f bad k to l low s.sound;
  fresh = record { copies = s.fresh.copies; attempts = s.fresh.attempts };
  sums = summed-losses f bad (put f.losses k to) t w b h c s.sums;
  last = s.last;
  task_rows = s.task_rows;
  work_rows = s.work_rows;
  byte_rows = s.byte_rows;
  holder_rows = s.holder_rows;
  want_rows = s.want_rows;
})

pub keep-number : (f g : Facts) (m n : ℕ) (t w b h c : List ℕ) → g ≡ record f { counter = f.counter + 1 } → n ≡ m → IsKeeping f m t w b h c → IsKeeping g n t w b h c
keep-number f g m n t w b h c e d s = moved (λ (x : Facts) (r : ℕ). IsKeeping x r t w b h c) (record f { counter = f.counter + 1 }) g m n e d (record {
  sound = sound-counted f (f.counter + 1) f.finishes s.sound;
  fresh = fresh-counted f s.fresh;
  sums = summed-rest f f.steal f.bad f.threads f.sent f.fence (f.counter + 1) f.finishes t w b h c s.sums;
  last = s.last;
  task_rows = s.task_rows;
  work_rows = s.work_rows;
  byte_rows = s.byte_rows;
  holder_rows = s.holder_rows;
  want_rows = s.want_rows;
})

pub keep-finish : (f g : Facts) (m n : ℕ) (t w b h c : List ℕ) → g ≡ record f { finishes = f.finishes + 1 } → n ≡ m → IsKeeping f m t w b h c → IsKeeping g n t w b h c
keep-finish f g m n t w b h c e d s = moved (λ (x : Facts) (r : ℕ). IsKeeping x r t w b h c) (record f { finishes = f.finishes + 1 }) g m n e d (record {
  sound = sound-counted f f.counter (f.finishes + 1) s.sound;
  fresh = record { copies = s.fresh.copies; attempts = s.fresh.attempts };
  sums = summed-rest f f.steal f.bad f.threads f.sent f.fence f.counter (f.finishes + 1) t w b h c s.sums;
  last = s.last;
  task_rows = s.task_rows;
  work_rows = s.work_rows;
  byte_rows = s.byte_rows;
  holder_rows = s.holder_rows;
  want_rows = s.want_rows;
})

pub keep-sent : (f g : Facts) (m n : ℕ) (t w b h c : List ℕ) (sent : ℕ → ℕ) (fence : ℕ → ℕ → ℕ) → g ≡ record f { sent = sent; fence = fence } → n ≡ m → IsKeeping f m t w b h c → IsKeeping g n t w b h c
keep-sent f g m n t w b h c sent fence e d s = moved (λ (x : Facts) (r : ℕ). IsKeeping x r t w b h c) (record f { sent = sent; fence = fence }) g m n e d (record {
  sound = sound-sent f sent fence s.sound;
  fresh = record { copies = s.fresh.copies; attempts = s.fresh.attempts };
  sums = summed-rest f f.steal f.bad f.threads sent fence f.counter f.finishes t w b h c s.sums;
  last = s.last;
  task_rows = s.task_rows;
  work_rows = s.work_rows;
  byte_rows = s.byte_rows;
  holder_rows = s.holder_rows;
  want_rows = s.want_rows;
})

-- a worker that is connected has its rows
pub has_row : (f : Facts) (m : ℕ) (t w b h c : List ℕ) → IsKeeping f m t w b h c → (v : ℕ) → connected f v ≡ true → v ≤ m
has_row f m t w b h c s v e = let n : v ≤ f.last_worker = (s.sound.numbers v e).1 in let l : f.last_worker ≤ m = s.last in omega arith

self_for : (w a : ℕ) → is_for w (Some (w, a)) ≡ true
self_for w a = eqb_self w

-- the worker of a key that has a place
pub placed_at : (f : Facts) (k w a : ℕ) → f.on k ≡ Some (w, a) → is_on f w k ≡ true
placed_at f k w a e = ap (is_for w) e ∙ self_for w a

pub task_counted : (f : Facts) (k w : ℕ) → k < keys f → is_on f w k ≡ true → 1 ≤ tasks f w
task_counted f k w l e =
    let p : tasks (record f { on = put f.on k None; steal = f.steal }) w + cond (is_for w (f.on k)) 1 0 ≡ tasks f w + 0 = tasks-placed f k None f.steal l w in
    let q : tasks (record f { on = put f.on k None; steal = f.steal }) w + 1 ≡ tasks f w + 0 = ap (λ b. tasks (record f { on = put f.on k None; steal = f.steal }) w + cond b 1 0) (sym e) ∙ p in
    omega arith

pub work_counted : (f : Facts) (k w : ℕ) → k < keys f → is_on f w k ≡ true → work_of f.setting.shape k ≤ occupancy f w
work_counted f k w l e =
    let p : occupancy (record f { on = put f.on k None; steal = f.steal }) w + cond (is_for w (f.on k)) (work_of f.setting.shape k) 0 ≡ occupancy f w + 0 = occupancy-placed f k None f.steal l w in
    let q : occupancy (record f { on = put f.on k None; steal = f.steal }) w + work_of f.setting.shape k ≡ occupancy f w + 0 = ap (λ b. occupancy (record f { on = put f.on k None; steal = f.steal }) w + cond b (work_of f.setting.shape k) 0) (sym e) ∙ p in
    omega arith

-- one sum that was raised and then lowered
settled_sum : (old raised new more less now : ℕ) → raised ≡ old + more → new ≡ raised - less → now + less ≡ old + more → new ≡ now
settled_sum old raised new more less now a b c = omega arith

pub keep-placed : (f g : Facts) (m n : ℕ) (t w b h c : List ℕ) (k y : ℕ) (from to : Option (ℕ × ℕ)) (tr tn wr wn : List ℕ) → y ≡ work_of f.setting.shape k
    → g ≡ record f { on = put f.on k to; steal = put f.steal k None } → n ≡ m → from ≡ f.on k → k < keys f
    → ((v a : ℕ) → to ≡ Some (v, a) → (connected f v ≡ true) × (a < f.counter))
    → ((v : ℕ) → read tr 0 v ≡ read t 0 v + cond (is_for v to) 1 0) → ((v : ℕ) → read tn 0 v ≡ read tr 0 v - cond (is_for v from) 1 0) → length tn ≡ length t
    → ((v : ℕ) → read wr 0 v ≡ read w 0 v + cond (is_for v to) y 0) → ((v : ℕ) → read wn 0 v ≡ read wr 0 v - cond (is_for v from) y 0) → length wn ≡ length w
    → IsKeeping f m t w b h c → IsKeeping g n tn wn b h c
unfolding bytes_held holder_count want_count
keep-placed f g m n t w b h c k y from to tr tn wr wn size e d at l low ra la lt rb lb lw s = moved (λ (x : Facts) (r : ℕ). IsKeeping x r tn wn b h c) (record f { on = put f.on k to; steal = put f.steal k None }) g m n e d (record {
  sound = sound-placed f k to l low s.sound;
  fresh = fresh-placed f k to (put f.steal k None) low s.fresh;
  sums = record {
    tasks = λ v. settled_sum (tasks f v) (read tr 0 v) (read tn 0 v) (cond (is_for v to) 1 0) (cond (is_for v (f.on k)) 1 0) (tasks (record f { on = put f.on k to; steal = put f.steal k None }) v)
        (ra v ∙ ap (λ x. x + cond (is_for v to) 1 0) (s.sums.tasks v)) (la v ∙ ap (λ o. read tr 0 v - cond (is_for v o) 1 0) at) (tasks-placed f k to (put f.steal k None) l v);
    work = λ v. settled_sum (occupancy f v) (read wr 0 v) (read wn 0 v) (cond (is_for v to) (work_of f.setting.shape k) 0) (cond (is_for v (f.on k)) (work_of f.setting.shape k) 0) (occupancy (record f { on = put f.on k to; steal = put f.steal k None }) v)
        (rb v ∙ ap (λ z. read w 0 v + cond (is_for v to) z 0) size ∙ ap (λ x. x + cond (is_for v to) (work_of f.setting.shape k) 0) (s.sums.work v)) (lb v ∙ ap (λ z. read wr 0 v - cond (is_for v from) z 0) size ∙ ap (λ o. read wr 0 v - cond (is_for v o) (work_of f.setting.shape k) 0) at) (occupancy-placed f k to (put f.steal k None) l v);
    bytes = s.sums.bytes;
    holders = s.sums.holders;
    wanters = s.sums.wanters;
  };
  last = s.last;
  task_rows = let x : m < length t = s.task_rows in omega arith;
  work_rows = let x : m < length w = s.work_rows in omega arith;
  byte_rows = s.byte_rows;
  holder_rows = s.holder_rows;
  want_rows = s.want_rows;
})

-- the sum at one place, after it was raised and then lowered there
at_place : (old raised new now : ℕ → ℕ) (p more less : ℕ) → raised ≡ put old p (old p + more) → new ≡ put raised p (raised p - less) → ((v : ℕ) → now v + cond (eqb v p) less 0 ≡ old v + cond (eqb v p) more 0) → (v : ℕ) → new v ≡ now v
at_place old raised new now p more less a b c v = ap (λ f. f v) b ∙ pick (eqb v p) refl (c v)
  where
    here : raised p ≡ old p + more
    here = ap (λ f. f p) a ∙ ap (λ t. cond t (old p + more) (old p)) (eqb_self p)

    there : (t : Bool) → eqb v p ≡ t → t ≡ false → raised v ≡ old v
    there t e z = ap (λ f. f v) a ∙ ap (λ u. cond u (old p + more) (old v)) (e ∙ z)

    pick : (t : Bool) → eqb v p ≡ t → now v + cond t less 0 ≡ old v + cond t more 0 → cond t (raised p - less) (raised v) ≡ now v
    pick true e q = let same : old v ≡ old p = ap old (eqb-true v p e) in let r : raised p ≡ old p + more = here in omega arith
    pick false e q = let r : raised v ≡ old v = there false e refl in omega arith

pub keep-copied : (f g : Facts) (m n : ℕ) (t w b h c : List ℕ) (v k : ℕ) (to : Option ℕ) (br bn hr hn : List ℕ) (x y p q : ℕ)
    → g ≡ record f { has = put_pair f.has v k to } → n ≡ m → k < keys f → connected f v ≡ true → ((x : ℕ) → to ≡ Some x → x < f.counter)
    → x ≡ cond (is_some to) (nbytes_of f.setting.shape k) 0 → y ≡ cond (holds f v k) (nbytes_of f.setting.shape k) 0 → p ≡ cond (is_some to) 1 0 → q ≡ cond (holds f v k) 1 0
    → read br 0 ≡ put (read b 0) v (read b 0 v + x) → read bn 0 ≡ put (read br 0) v (read br 0 v - y) → length bn ≡ length b
    → read hr 0 ≡ put (read h 0) k (read h 0 k + p) → read hn 0 ≡ put (read hr 0) k (read hr 0 k - q) → length hn ≡ length h
    → IsKeeping f m t w b h c → IsKeeping g n t w bn hn c
unfolding tasks occupancy want_count
keep-copied f g m n t w b h c v k to br bn hr hn x y p q e d l on low ex ey ep eq ra la lb rh lh ln s =
    let num = s.sound.numbers v on in
    moved (λ (z : Facts) (r : ℕ). IsKeeping z r t w bn hn c) (record f { has = put_pair f.has v k to }) g m n e d (record {
      sound = sound-copied f v k to l on s.sound;
      fresh = fresh-copied f v k to low s.fresh;
      sums = record {
        tasks = s.sums.tasks;
        work = s.sums.work;
        wanters = s.sums.wanters;
        bytes = at_place (read b 0) (read br 0) (read bn 0) (bytes_held (record f { has = put_pair f.has v k to })) v x y ra la (λ z. ap (λ a. bytes_held (record f { has = put_pair f.has v k to }) z + cond (eqb z v) a 0) ey ∙ bytes-copied f v k to l z ∙ ap (λ a. a + cond (eqb z v) (cond (is_some to) (nbytes_of f.setting.shape k) 0) 0) (sym (s.sums.bytes z)) ∙ ap (λ a. read b 0 z + cond (eqb z v) a 0) (sym ex));
        holders = at_place (read h 0) (read hr 0) (read hn 0) (holder_count (record f { has = put_pair f.has v k to })) k p q rh lh (λ z. ap (λ a. holder_count (record f { has = put_pair f.has v k to }) z + cond (eqb z k) a 0) eq ∙ holders-copied f v k to num.0 num.1 z ∙ ap (λ a. a + cond (eqb z k) (cond (is_some to) 1 0) 0) (sym (s.sums.holders z)) ∙ ap (λ a. read h 0 z + cond (eqb z k) a 0) (sym ep));
      };
      last = s.last;
      task_rows = s.task_rows;
      work_rows = s.work_rows;
      byte_rows = let z : m < length b = s.byte_rows in omega arith;
      holder_rows = ln ∙ s.holder_rows;
      want_rows = s.want_rows;
    })

pub keep-want : (f g : Facts) (m n : ℕ) (t w b h c : List ℕ) (d k : ℕ) (to : Bool) (cr cn : List ℕ) (x y : ℕ) → x ≡ cond to 1 0 → y ≡ cond (f.want d k) 1 0
    → g ≡ record f { want = put_pair f.want d k to } → n ≡ m → k < keys f → 1 ≤ d → d ≤ f.setting.clients
    → read cr 0 ≡ put (read c 0) k (read c 0 k + x) → read cn 0 ≡ put (read cr 0) k (read cr 0 k - y) → length cn ≡ length c
    → IsKeeping f m t w b h c → IsKeeping g n t w b h cn
unfolding tasks occupancy bytes_held holder_count
keep-want f g m n t w b h c d k to cr cn x y ex ey e z l lo hi rc lc ln s =
    moved (λ (u : Facts) (r : ℕ). IsKeeping u r t w b h cn) (record f { want = put_pair f.want d k to }) g m n e z (record {
      sound = sound-want f d k to l s.sound;
      fresh = record { copies = s.fresh.copies; attempts = s.fresh.attempts };
      sums = record {
        tasks = s.sums.tasks;
        work = s.sums.work;
        bytes = s.sums.bytes;
        holders = s.sums.holders;
        wanters = at_place (read c 0) (read cr 0) (read cn 0) (want_count (record f { want = put_pair f.want d k to })) k x y rc lc (λ u. ap (λ a. want_count (record f { want = put_pair f.want d k to }) u + cond (eqb u k) a 0) ey ∙ wanters-put f d k to lo hi u ∙ ap (λ a. a + cond (eqb u k) (cond to 1 0) 0) (sym (s.sums.wanters u)) ∙ ap (λ a. read c 0 u + cond (eqb u k) a 0) (sym ex));
      };
      last = s.last;
      task_rows = s.task_rows;
      work_rows = s.work_rows;
      byte_rows = s.byte_rows;
      holder_rows = s.holder_rows;
      want_rows = ln ∙ s.want_rows;
    })
