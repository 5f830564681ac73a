-- What the sums need before they change, and what they stand for.
use Rattle.std.proofs.Common.{◌≡◌, ℕ, zero, ◌+◌, ◌-◌, ◌*◌, ◌<◌, ◌≤◌, ◌^◌, Bool, true, false, cond, ◌&&◌, ◌||◌, List, [], ◌∷◌, length, Option, Some, None, refl, sym, ap, ◌∙◌, subst, arith, ltb, length-append}
use Rattle.std.proofs.lemmas.Bool.{eqb-true, le-leb, lt-ltb}
use Rattle.std.proofs.Math.Dec.{eqb}
use Rattle.std.specs.Prelude.{nat_lt, nat_le}
use Rattle.std.specs.List.{filter, range_with_len}
use Rattle.std.proofs.lemmas.List.FromFn.{length-range_with_len}
use Rattle.std.proofs.Math.Bool.{or-false}
use Rattle.std.proofs.Math.Nat.{add-zero}
use Rattle.std.proofs.lemmas.Option.{none-some}
use Rattle.small_facts.proofs.Numbers.{eqb_self}
use Rattle.small_facts.proofs.Options.{none_is_it}
use Rattle.small_facts.proofs.Ranges.{range_push}
use Rattle.small_facts.proofs.Truth.{one_at_most}
use Rattle.fact_rows.specs.Rows.{read}
use Rattle.cluster_msgs.specs.Shape.{IsShape, key_count, work_of, nbytes_of}
use Rattle.cluster_msgs.specs.declared.cores.SchedEvent.TheVariants.{Join, Leave}
use Rattle.cluster_rules.specs.Functions.{put, put_pair, from_one, total, count}
use Rattle.cluster_rules.specs.Sched.{Setting, Facts, IsSound, sched_opening, keys, holds, held, wanted, is_above, is_on, is_for, connected, workers, tasks, occupancy, bytes_held, holder_count}
use Rattle.cluster_rules.specs.SchedTable.{joined, left, sched_takes, change}
use Rattle.cluster_rules.proofs.TotalLemmas.{tasks_fit, occupancy_fits, bytes_held_fit, total-bound, total-push}
use Rattle.cluster_rules.proofs.SoundStep.{sound_changed, sound_opening}
use Rattle.cluster_rules.proofs.SchedLemmas.{filter-more}
use Rattle.cluster_rules.proofs.NothingLemmas.{tasks-nowhere, occupancy-nowhere, bytes_held-nowhere, holder_count-nowhere}
use Rattle.sched_facts.specs.Kept.{IsKeeping, want_count}
use Rattle.sched_facts.proofs.SumLemmas.{any-count, wanters-put, holders-copied, bytes-copied}
use Rattle.sched_facts.proofs.Keeping.{has_row, placed_at, task_counted, work_counted}

amount_at_most : (b : Bool) (n : ℕ) → cond b n 0 ≤ n
amount_at_most true n = omega arith
amount_at_most false n = omega arith

pub put_there : (f : ℕ → ℕ) (k x : ℕ) → put f k x k ≡ x
put_there f k x = ap (λ b. cond b x (f k)) (eqb_self k)

count_bound : (p : ℕ → Bool) (xs : List ℕ) → count p xs ≤ length xs * 1
count_bound p xs = total-bound (λ x. cond (p x) 1 0) 1 xs (λ x. one_at_most (p x))

pub holders_fit : (f : Facts) (k : ℕ) → IsSound f → holder_count f k ≤ 1024
unfolding holder_count
holders_fit f k s = let l : f.last_worker ≤ 1024 = s.few_numbers in omega (arith, l, count_bound (λ w. holds f w k) (from_one f.last_worker), length-range_with_len 1 f.last_worker)

pub wanters_fit : (f : Facts) (k : ℕ) → IsSound f → want_count f k ≤ 16
unfolding want_count
wanters_fit f k s = let l : f.setting.clients ≤ 16 = s.few_clients in omega (arith, l, count_bound (λ c. f.want c k) (from_one f.setting.clients), length-range_with_len 1 f.setting.clients)

pub any-held : (f : Facts) (k : ℕ) → held f k ≡ nat_lt 0 (holder_count f k)
unfolding held holder_count
any-held f k = any-count (λ w. holds f w k) (from_one f.last_worker)

pub any-wanted : (f : Facts) (k : ℕ) → wanted f k ≡ nat_lt 0 (want_count f k)
unfolding wanted want_count
any-wanted f k = any-count (λ c. f.want c k) (from_one f.setting.clients)

-- wants
pub raise_want : (f : Facts) (m : ℕ) (t w b h c : List ℕ) (k x : ℕ) (to : Bool) → IsKeeping f m t w b h c → k < keys f → x ≡ cond to 1 0 → (k < length c) × (read c 0 k + x < 2 ^ 64)
raise_want f m t w b h c k x to s l e = (omega (arith, s.want_rows), omega (arith, s.sums.wanters k, wanters_fit f k s.sound, one_at_most to))

pub lower_want : (f : Facts) (m : ℕ) (t w b h c : List ℕ) (d k x y : ℕ) (cr : List ℕ) → IsKeeping f m t w b h c → 1 ≤ d → d ≤ f.setting.clients → k < keys f → y ≡ cond (f.want d k) 1 0 → read cr 0 ≡ put (read c 0) k (read c 0 k + x) → length cr ≡ length c → (k < length cr) × (y ≤ read cr 0 k)
lower_want f m t w b h c d k x y cr s lo hi l e r n =
    let now : read cr 0 k ≡ read c 0 k + x = ap (λ g. g k) r ∙ put_there (read c 0) k (read c 0 k + x) in
    let was : read c 0 k ≡ want_count f k = s.sums.wanters k in
    let one : want_count (record f { want = put_pair f.want d k false }) k + cond (eqb k k) (cond (f.want d k) 1 0) 0 ≡ want_count f k + cond (eqb k k) 0 0 = wanters-put f d k false lo hi k in
    let two : want_count (record f { want = put_pair f.want d k false }) k + cond (f.want d k) 1 0 ≡ want_count f k + 0 = subst (λ (u : Bool). want_count (record f { want = put_pair f.want d k false }) k + cond u (cond (f.want d k) 1 0) 0 ≡ want_count f k + cond u 0 0) (eqb_self k) one in
    (omega (arith, s.want_rows, n), omega (arith, now, was, two, e))

-- copies
pub raise_bytes : (f : Facts) (m : ℕ) (t w b h c : List ℕ) (v k x : ℕ) (has : Bool) → IsKeeping f m t w b h c → k < keys f → connected f v ≡ true → x ≡ cond has (nbytes_of f.setting.shape k) 0 → (v < length b) × (read b 0 v + x < 2 ^ 64)
raise_bytes f m t w b h c v k x has s l on e =
    let row : v ≤ m = has_row f m t w b h c s v on in
    let size : nbytes_of f.setting.shape k ≤ 2 ^ 27 = s.sound.shape.small k in
    (omega (arith, row, s.byte_rows), omega (arith, s.sums.bytes v, bytes_held_fit f v s.sound, amount_at_most has (nbytes_of f.setting.shape k), size))

pub lower_bytes : (f : Facts) (m : ℕ) (t w b h c : List ℕ) (v k x y : ℕ) (br : List ℕ) → IsKeeping f m t w b h c → k < keys f → connected f v ≡ true → y ≡ cond (holds f v k) (nbytes_of f.setting.shape k) 0 → read br 0 ≡ put (read b 0) v (read b 0 v + x) → length br ≡ length b → (v < length br) × (y ≤ read br 0 v)
lower_bytes f m t w b h c v k x y br s l on e r n =
    let row : v ≤ m = has_row f m t w b h c s v on in
    let now : read br 0 v ≡ read b 0 v + x = ap (λ g. g v) r ∙ put_there (read b 0) v (read b 0 v + x) in
    let was : read b 0 v ≡ bytes_held f v = s.sums.bytes v in
    let one : bytes_held (record f { has = put_pair f.has v k None }) v + cond (eqb v v) (cond (holds f v k) (nbytes_of f.setting.shape k) 0) 0 ≡ bytes_held f v + cond (eqb v v) 0 0 = bytes-copied f v k None l v in
    let two : bytes_held (record f { has = put_pair f.has v k None }) v + cond (holds f v k) (nbytes_of f.setting.shape k) 0 ≡ bytes_held f v + 0 = subst (λ (u : Bool). bytes_held (record f { has = put_pair f.has v k None }) v + cond u (cond (holds f v k) (nbytes_of f.setting.shape k) 0) 0 ≡ bytes_held f v + cond u 0 0) (eqb_self v) one in
    (omega (arith, row, s.byte_rows, n), omega (arith, now, was, two, e))

pub raise_holders : (f : Facts) (m : ℕ) (t w b h c : List ℕ) (k x : ℕ) (has : Bool) → IsKeeping f m t w b h c → k < keys f → x ≡ cond has 1 0 → (k < length h) × (read h 0 k + x < 2 ^ 64)
raise_holders f m t w b h c k x has s l e = (omega (arith, s.holder_rows), omega (arith, s.sums.holders k, holders_fit f k s.sound, one_at_most has))

pub lower_holders : (f : Facts) (m : ℕ) (t w b h c : List ℕ) (v k x y : ℕ) (hr : List ℕ) → IsKeeping f m t w b h c → k < keys f → connected f v ≡ true → y ≡ cond (holds f v k) 1 0 → read hr 0 ≡ put (read h 0) k (read h 0 k + x) → length hr ≡ length h → (k < length hr) × (y ≤ read hr 0 k)
lower_holders f m t w b h c v k x y hr s l on e r n =
    let num = s.sound.numbers v on in
    let now : read hr 0 k ≡ read h 0 k + x = ap (λ g. g k) r ∙ put_there (read h 0) k (read h 0 k + x) in
    let was : read h 0 k ≡ holder_count f k = s.sums.holders k in
    let one : holder_count (record f { has = put_pair f.has v k None }) k + cond (eqb k k) (cond (holds f v k) 1 0) 0 ≡ holder_count f k + cond (eqb k k) 0 0 = holders-copied f v k None num.0 num.1 k in
    let two : holder_count (record f { has = put_pair f.has v k None }) k + cond (holds f v k) 1 0 ≡ holder_count f k + 0 = subst (λ (u : Bool). holder_count (record f { has = put_pair f.has v k None }) k + cond u (cond (holds f v k) 1 0) 0 ≡ holder_count f k + cond u 0 0) (eqb_self k) one in
    (omega (arith, s.holder_rows, n), omega (arith, now, was, two, e))

-- places
pub raise_task : (f : Facts) (m : ℕ) (t w b h c : List ℕ) (v : ℕ) → IsKeeping f m t w b h c → connected f v ≡ true → (v < length t) × (read t 0 v + 1 < 2 ^ 64)
raise_task f m t w b h c v s on =
    let row : v ≤ m = has_row f m t w b h c s v on in
    (omega (arith, row, s.task_rows), omega (arith, s.sums.tasks v, tasks_fit f v s.sound))

pub raise_work : (f : Facts) (m : ℕ) (t w b h c : List ℕ) (k y v : ℕ) → IsKeeping f m t w b h c → y ≡ work_of f.setting.shape k → connected f v ≡ true → (v < length w) × (read w 0 v + y < 2 ^ 64)
raise_work f m t w b h c k y v s e on =
    let row : v ≤ m = has_row f m t w b h c s v on in
    let size : work_of f.setting.shape k ≤ 2 ^ 46 = s.sound.shape.light k in
    (omega (arith, row, s.work_rows), omega (arith, s.sums.work v, occupancy_fits f v s.sound, size, e))

pub lower_task : (f : Facts) (m : ℕ) (t w b h c : List ℕ) (k : ℕ) (from to : Option (ℕ × ℕ)) (tr : List ℕ) → IsKeeping f m t w b h c → k < keys f → from ≡ f.on k → ((v : ℕ) → read tr 0 v ≡ read t 0 v + cond (is_for v to) 1 0) → length tr ≡ length t → (v a : ℕ) → from ≡ Some (v, a) → (v < length tr) × (1 ≤ read tr 0 v)
lower_task f m t w b h c k from to tr s l at r n v a e =
    let on : is_on f v k ≡ true = placed_at f k v a (sym at ∙ e) in
    let row : v ≤ m = has_row f m t w b h c s v (s.sound.places v k on) in
    (omega (arith, row, s.task_rows, n), omega (arith, r v, s.sums.tasks v, task_counted f k v l on))

pub lower_work : (f : Facts) (m : ℕ) (t w b h c : List ℕ) (k y : ℕ) (from to : Option (ℕ × ℕ)) (wr : List ℕ) → IsKeeping f m t w b h c → k < keys f → y ≡ work_of f.setting.shape k → from ≡ f.on k → ((v : ℕ) → read wr 0 v ≡ read w 0 v + cond (is_for v to) y 0) → length wr ≡ length w → (v a : ℕ) → from ≡ Some (v, a) → (v < length wr) × (y ≤ read wr 0 v)
lower_work f m t w b h c k y from to wr s l size at r n v a e =
    let on : is_on f v k ≡ true = placed_at f k v a (sym at ∙ e) in
    let row : v ≤ m = has_row f m t w b h c s v (s.sound.places v k on) in
    (omega (arith, row, s.work_rows, n), omega (arith, r v, s.sums.work v, work_counted f k v l on, size))

-- the opening
none_wanted : (xs : List ℕ) → count (λ c. false) xs ≡ 0
none_wanted [] = refl
none_wanted (x ∷ xs) = let e : count (λ c. false) xs ≡ 0 = none_wanted xs in omega arith

pub keep-opening : (z : Setting) (f : Facts) (m : ℕ) (t w b h c : List ℕ) → f ≡ sched_opening z → IsShape z.shape → z.clients ≤ 16 → (1 ≤ z.saturation) × (z.saturation ≤ 1000) → ((v : ℕ) → read t 0 v ≡ 0) → ((v : ℕ) → read w 0 v ≡ 0) → ((v : ℕ) → read b 0 v ≡ 0) → ((v : ℕ) → read h 0 v ≡ 0) → ((v : ℕ) → read c 0 v ≡ 0) → m < length t → m < length w → m < length b → length h ≡ key_count z.shape → length c ≡ key_count z.shape → IsKeeping f m t w b h c
unfolding want_count
keep-opening z f m t w b h c e shape few sat rt rw_ rb rh rc lt lw lb lh lc = subst (λ (g : Facts). IsKeeping g m t w b h c) (sym e) (record {
  sound = sound_opening z shape few sat;
  fresh = record { copies = λ v k x q. absurd (none-some x q); attempts = λ k v a q. absurd (none-some (v, a) q) };
  sums = record {
    tasks = λ v. rt v ∙ sym (tasks-nowhere (sched_opening z) (λ u k. refl) v);
    work = λ v. rw_ v ∙ sym (occupancy-nowhere (sched_opening z) (λ u k. refl) v);
    bytes = λ v. rb v ∙ sym (bytes_held-nowhere (sched_opening z) (λ u k. refl) v);
    holders = λ v. rh v ∙ sym (holder_count-nowhere (sched_opening z) (λ u k. refl) v);
    wanters = λ v. rc v ∙ sym (none_wanted (from_one z.clients));
  };
  last = zero_le m;
  task_rows = lt;
  work_rows = lw;
  byte_rows = lb;
  holder_rows = lh;
  want_rows = lc;
})
  where
    zero_le : (n : ℕ) → 0 ≤ n
    zero_le n = omega arith

-- more room
pub keep-room : (f g : Facts) (m n : ℕ) (t w b h c tn wn bn : List ℕ) → g ≡ f → read tn 0 ≡ read t 0 → read wn 0 ≡ read w 0 → read bn 0 ≡ read b 0 → m ≤ n → n < length tn → n < length wn → n < length bn → IsKeeping f m t w b h c → IsKeeping g n tn wn bn h c
keep-room f g m n t w b h c tn wn bn e et ew eb l lt lw lb s = subst (λ (z : Facts). IsKeeping z n tn wn bn h c) (sym e) (record {
  sound = s.sound;
  fresh = s.fresh;
  sums = record { tasks = λ v. ap (λ r. r v) et ∙ s.sums.tasks v; work = λ v. ap (λ r. r v) ew ∙ s.sums.work v; bytes = λ v. ap (λ r. r v) eb ∙ s.sums.bytes v; holders = s.sums.holders; wanters = s.sums.wanters };
  last = let z : f.last_worker ≤ m = s.last in omega arith;
  task_rows = lt;
  work_rows = lw;
  byte_rows = lb;
  holder_rows = s.holder_rows;
  want_rows = s.want_rows;
})

-- one more worker
join_taken : (a b c d : Bool) → a ≡ true → b ≡ true → c ≡ true → d ≡ true → ((a && b) && (c && d)) ≡ true
join_taken true true true true p q r s = refl
join_taken false b c d p q r s = p
join_taken true false c d p q r s = q
join_taken true true false d p q r s = r
join_taken true true true false p q r s = s

sound-joined : (f : Facts) (n : ℕ) → IsSound f → 1 ≤ n → n ≤ 16 → length (workers f) < 64 → f.last_worker < 1024 → IsSound (joined f n)
unfolding sched_takes
sound-joined f n s a b c d = sound_changed f s (Join n) (join_taken (nat_le 1 n) (nat_le n 16) (nat_lt (length (workers f)) 64) (nat_lt f.last_worker 1024) (le-leb 1 n a) (le-leb n 16 b) (lt-ltb (length (workers f)) 64 c) (lt-ltb f.last_worker 1024 d))

pub nobody_next : (f : Facts) (k : ℕ) → IsSound f → holds f (1 + f.last_worker) k ≡ false
nobody_next f k s = pick (holds f (1 + f.last_worker) k) refl
  where
    pick : (b : Bool) → holds f (1 + f.last_worker) k ≡ b → b ≡ false
    pick false e = refl
    pick true e = absurd (let n : 1 + f.last_worker ≤ f.last_worker = (s.numbers (1 + f.last_worker) (s.holders (1 + f.last_worker) k e)).1 in omega arith)

pub holders_joined : (f : Facts) (n k : ℕ) → IsSound f → holder_count (joined f n) k ≡ holder_count f k
unfolding holder_count joined
holders_joined f n k s =
    ap (count (λ w. holds f w k)) (range_push 1 f.last_worker)
    ∙ total-push (λ w. cond (holds f w k) 1 0) (from_one f.last_worker) (1 + f.last_worker)
    ∙ ap (λ b. count (λ w. holds f w k) (from_one f.last_worker) + cond b 1 0) (nobody_next f k s)
    ∙ add-zero (count (λ w. holds f w k) (from_one f.last_worker))

pub keep-joined : (f g : Facts) (m n : ℕ) (t w b h c : List ℕ) (threads : ℕ) → g ≡ joined f threads → n ≡ m → 1 ≤ threads → threads ≤ 16 → length (workers f) < 64 → f.last_worker < 1024 → f.last_worker < m → IsKeeping f m t w b h c → IsKeeping g n t w b h c
unfolding tasks occupancy bytes_held want_count joined
keep-joined f g m n t w b h c threads e d x y u v r s = subst (λ (z : Facts). IsKeeping z n t w b h c) (sym e) (subst (λ k. IsKeeping (joined f threads) k t w b h c) (sym d) (record {
  sound = sound-joined f threads s.sound x y u v;
  fresh = record { copies = s.fresh.copies; attempts = s.fresh.attempts };
  sums = record { tasks = s.sums.tasks; work = s.sums.work; bytes = s.sums.bytes; holders = λ k. s.sums.holders k ∙ sym (holders_joined f threads k s.sound); wanters = s.sums.wanters };
  last = omega arith;
  task_rows = s.task_rows;
  work_rows = s.work_rows;
  byte_rows = s.byte_rows;
  holder_rows = s.holder_rows;
  want_rows = s.want_rows;
}))

left_nothing : (f : Facts) (w : ℕ) → ((k : ℕ) → holds f w k ≡ false) → ((k : ℕ) → is_on f w k ≡ false) → left f w ≡ record f { threads = put f.threads w None }
unfolding left
left_nothing f w h o = λ i. record f { threads = put f.threads w None; has = λ v k. has_at v k (eqb v w) refl i; on = λ k. on_at k i; steal = λ k. steal_at k i; bad = λ k. bad_at k i; losses = λ k. ap (λ b. cond b (f.losses k + 1) (f.losses k)) (o k) i }
  where
    bad_at : (k : ℕ) → (f.bad k || (is_on f w k && is_above f.setting.allowed (f.losses k + 1))) ≡ f.bad k
    bad_at k = ap (λ b. f.bad k || (b && is_above f.setting.allowed (f.losses k + 1))) (o k) ∙ or-false (f.bad k)

    has_at : (v k : ℕ) (b : Bool) → eqb v w ≡ b → cond b None (f.has v k) ≡ f.has v k
    has_at v k true e = none_is_it (f.has v k) (ap (λ u. holds f u k) (eqb-true v w e) ∙ h k)
    has_at v k false e = refl

    on_at : (k : ℕ) → cond (is_on f w k) None (f.on k) ≡ f.on k
    on_at k = ap (λ b. cond b None (f.on k)) (o k)

    steal_at : (k : ℕ) → cond (is_on f w k) None (f.steal k) ≡ f.steal k
    steal_at k = ap (λ b. cond b None (f.steal k)) (o k)

sound-left : (f : Facts) (w : ℕ) → IsSound f → connected f w ≡ true → IsSound (left f w)
unfolding sched_takes
sound-left f w s on = sound_changed f s (Leave w) on

pub keep-left : (f g : Facts) (m n : ℕ) (t w b h c : List ℕ) (v : ℕ) → g ≡ record f { threads = put f.threads v None } → n ≡ m → connected f v ≡ true → ((k : ℕ) → holds f v k ≡ false) → ((k : ℕ) → is_on f v k ≡ false) → IsKeeping f m t w b h c → IsKeeping g n t w b h c
unfolding tasks occupancy bytes_held holder_count want_count
keep-left f g m n t w b h c v e d on ho free s = subst (λ (z : Facts). IsKeeping z n t w b h c) (sym e) (subst (λ k. IsKeeping (record f { threads = put f.threads v None }) k t w b h c) (sym d) (record {
  sound = subst IsSound (left_nothing f v ho free) (sound-left f v s.sound on);
  fresh = record { copies = s.fresh.copies; attempts = s.fresh.attempts };
  sums = record { tasks = s.sums.tasks; work = s.sums.work; bytes = s.sums.bytes; holders = s.sums.holders; wanters = s.sums.wanters };
  last = s.last;
  task_rows = s.task_rows;
  work_rows = s.work_rows;
  byte_rows = s.byte_rows;
  holder_rows = s.holder_rows;
  want_rows = s.want_rows;
}))

-- how many are connected
pub connected_more : (p : ℕ → Bool) (n count new : ℕ) → count ≡ length (filter p (from_one n)) → new ≡ count + cond (p (1 + n)) 1 0 → new ≡ length (filter p (from_one (n + 1)))
connected_more p n count new e d = d ∙ ap (λ x. x + cond (p (1 + n)) 1 0) e ∙ sym (ap length (filter-more p 1 n) ∙ length-append (filter p (from_one n)) (cond (p (1 + n)) ((1 + n) ∷ []) []) ∙ ap (λ x. length (filter p (from_one n)) + x) (one (p (1 + n))))
  where
    one : (b : Bool) → length (cond b ((1 + n) ∷ []) []) ≡ cond b 1 0
    one true = refl
    one false = refl
