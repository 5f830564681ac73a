-- A copy that goes though it was doomed takes its doom with it.
use Rattle.std.proofs.Common.{◌≡◌, ℕ, ◌+◌, ◌<◌, ◌≤◌, Bool, true, false, cond, not, ◌&&◌, ◌||◌, List, [], ◌∷◌, ◌++◌, refl, sym, ap, ◌∙◌, arith, ⊎_elim}
use Rattle.std.specs.Prelude.{nat_le}
use Rattle.std.specs.List.{list_any, AllByRecursion}
use Rattle.std.proofs.lemmas.Bool.{true≢false, false≢true, or_left, or_right, or_cases}
use Rattle.std.proofs.Math.Dec.{eqb}
use Rattle.cluster_msgs.specs.declared.messages.Down.{Down}
use Rattle.cluster_msgs.specs.declared.messages.Down.TheVariants.{FreeKeys}
use Rattle.cluster_msgs.specs.declared.messages.Up.{Up}
use Rattle.cluster_msgs.specs.declared.messages.Up.TheVariants.{TaskFinished, TaskErred, AddKeys, ReleaseWorkerData, MissingData, RequestRefreshWhoHas, StealResponse}
use Rattle.cluster_rules.specs.Functions.{from_one}
use Rattle.cluster_rules.specs.Derived.{below, is_in}
use Rattle.cluster_rules.specs.Sched.{Facts, keys, holds, connected, workers}
use Rattle.cluster_rules.specs.SchedStep.{Stages, lost, lost_keys, free_message, task_messages, to_worker, down_messages, finish_step, mail, takes_away, fence_after}
use Rattle.cluster_rules.specs.World.{World}
use Rattle.cluster_rules.proofs.SchedFrame.{in_filter, in_range}
use Rattle.cluster_laws.proofs.OrderLemmas.{mail_own, mail-own_part, mail-down}
use Rattle.pair_machine.specs.Pair.{Released, Quiet, IsSeen, AllSeen}
use Rattle.pair_moves.specs.Projection.{reports}
use Rattle.quiet_measure.specs.Weights.{sum_of}
use Rattle.quiet_measure.specs.Measure.{counts_loss, is_doomed, up_disturbs, death_disturbs}
use Rattle.quiet_measure.specs.Lighter.{under}
use Rattle.quiet_laws.specs.Old.{IsOldUp}
use Rattle.quiet_laws.proofs.Wrongful.{fence_is, ups_less}
use Rattle.quiet_laws.proofs.Disturbed.{IsTaken, Site, death_less, death_fewer, loss_spent}

-- where a message takes the key away, the fence is one of these messages' places
taken_fence : (k s : ℕ) (ms : List Down) (f : ℕ) → list_any (takes_away k) ms ≡ true → s < fence_after k s ms f
taken_fence k s [] f e = absurd (false≢true e)
taken_fence k s (m ∷ ms) f e = pick (takes_away k m) e (list_any (takes_away k) ms) refl (λ g x. taken_fence k (s + 1) ms g x)
  where
    stays : (ms : List Down) (s g : ℕ) → list_any (takes_away k) ms ≡ false → fence_after k s ms g ≡ g
    stays [] s g n = refl
    stays (m ∷ ms) s g n = by (takes_away k m) n (λ h x. stays ms (s + 1) h x)
      where
        by : (b : Bool) → (b || list_any (takes_away k) ms) ≡ false → ((h : ℕ) → list_any (takes_away k) ms ≡ false → fence_after k (s + 1) ms h ≡ h) → fence_after k (s + 1) ms (cond b (s + 1) g) ≡ g
        by true x r = absurd (true≢false x)
        by false x r = r g x

    pick : (b : Bool) → (b || list_any (takes_away k) ms) ≡ true → (c : Bool) → list_any (takes_away k) ms ≡ c → ((g : ℕ) → list_any (takes_away k) ms ≡ true → s + 1 < fence_after k (s + 1) ms g) → s < fence_after k (s + 1) ms (cond b (s + 1) f)
    pick b x true n again = let l : s + 1 < fence_after k (s + 1) ms (cond b (s + 1) f) = again (cond b (s + 1) f) n in omega (arith, l)
    pick true x false n again = let l : fence_after k (s + 1) ms (s + 1) ≡ s + 1 = stays ms (s + 1) (s + 1) n in omega (arith, l)
    pick false x false n again = absurd (false≢true (sym n ∙ x))

lost_mail : (t : Stages) (x k : ℕ) → lost t x k ≡ true → k < keys t.before → 1 ≤ x → x ≤ t.placed.last_worker → connected t.placed x ≡ true → list_any (takes_away k) (mail x (down_messages t)) ≡ true
lost_mail t x k l m low high c =
    ap (list_any (takes_away k)) (mail-down t x ∙ ap (λ b. cond b (mail x (to_worker t x)) []) there ∙ mail-own_part t x)
    ∙ front (mail x (free_message x (lost_keys t x))) (mail x (task_messages t.placed t.before.counter x) ++ t.changed.answer t.placed x) (frees (lost_keys t x) named)
  where
    there : is_in x (workers t.placed) ≡ true
    there = in_filter (connected t.placed) x (from_one t.placed.last_worker) (in_range 1 t.placed.last_worker x low (omega (arith, high))) c

    named : is_in k (lost_keys t x) ≡ true
    named = in_filter (lost t x) k (below (keys t.before)) (in_range 0 (keys t.before) k (omega arith) (omega (arith, m))) l

    frees : (ks : List ℕ) → is_in k ks ≡ true → list_any (takes_away k) (mail x (free_message x ks)) ≡ true
    frees [] e = absurd (false≢true e)
    frees (q ∷ ks) e = ap (list_any (takes_away k)) (mail_own x (FreeKeys (q ∷ ks) ∷ [])) ∙ ap (λ b. b || false) e

    front : (xs ys : List Down) → list_any (takes_away k) xs ≡ true → list_any (takes_away k) (xs ++ ys) ≡ true
    front [] ys e = absurd (false≢true e)
    front (y ∷ xs) ys e = ⊎_elim (λ a. or_left (takes_away k y) (list_any (takes_away k) (xs ++ ys)) a) (λ a. or_right (takes_away k y) (list_any (takes_away k) (xs ++ ys)) (front xs ys a)) (or_cases (takes_away k y) (list_any (takes_away k) xs) e)

-- no loss counts that was said before the fence
all_spent : (g : Facts) (x k s : ℕ) (us : List Up) → AllSeen s (reports k us) → s < g.fence x k → list_any (counts_loss g x k) us ≡ false
all_spent g x k s [] a l = refl
all_spent g x k s (TaskFinished seen q n ∷ us) a l = all_spent g x k s us a.1 l
all_spent g x k s (TaskErred seen q n ∷ us) a l = all_spent g x k s us a.1 l
all_spent g x k s (AddKeys seen ks ∷ us) a l = all_spent g x k s us a.1 l
all_spent g x k s (MissingData seen q p c ∷ us) a l = all_spent g x k s us a.1 l
all_spent g x k s (RequestRefreshWhoHas seen q ∷ us) a l = all_spent g x k s us a.1 l
all_spent g x k s (StealResponse seen q n agreed ∷ us) a l = all_spent g x k s us a.1 l
all_spent g x k s (ReleaseWorkerData seen q ∷ us) a l = ap (λ b. b || list_any (counts_loss g x k) us) (by (eqb q k) a.0) ∙ all_spent g x k s us a.1 l
  where
    below_not : (n m : ℕ) → m < n → nat_le n m ≡ false
    below_not n m l = grind (arith, l)

    by : (b : Bool) → IsSeen s (cond b (Released seen) Quiet) → (b && nat_le (g.fence x k) seen) ≡ false
    by false h = refl
    by true h = below_not (g.fence x k) seen (omega (arith, h, l))

pub doomed_site : (w v : World) (t : Stages) (h : IsTaken w v t) (x k s : ℕ) → k < keys t.before → k < keys w.sched → 1 ≤ x → x ≤ t.placed.last_worker → connected t.placed x ≡ true
    → holds w.sched x k ≡ true → holds (finish_step t).facts x k ≡ false → lost t x k ≡ true → ((q : ℕ) → holds (finish_step t).facts x q ≡ true → holds w.sched x q ≡ true)
    → is_doomed w x k ≡ true → sum_of (up_disturbs w x) (v.up x) ≤ sum_of (up_disturbs w x) (w.up x) → (list_any (counts_loss w.sched x k) (w.up x) ≡ true → list_any (counts_loss w.sched x k) (v.up x) ≡ true)
    → (w.alive x ≡ true → AllSeen s (reports k (v.up x)) × (s ≤ w.sched.sent x)) → AllByRecursion (IsOldUp w.sched.counter) (v.up x) → Site w v t h x 1
doomed_site w v t h x k s m n low high c had gone lose less doom sums losses seen old = pick (w.alive x) refl
  where
    ups : sum_of (up_disturbs (under v (finish_step t).facts) x) (v.up x) ≤ sum_of (up_disturbs w x) (v.up x)
    ups = ups_less w v t h.honest h.alive h.took x (v.up x) old

    fence : w.sched.sent x < (finish_step t).facts.fence x k
    fence = let a = taken_fence k (t.placed.sent x) (mail x (down_messages t)) (t.placed.fence x k) (lost_mail t x k lose m low high c) in
        let b : (finish_step t).facts.fence x k ≡ fence_after k (t.placed.sent x) (mail x (down_messages t)) (t.placed.fence x k) = fence_is t x k in
        let d : t.placed.sent x ≡ w.sched.sent x = ap (λ y. y x) h.honest.sent in
        omega (arith, a, b, d)

    pick : (b : Bool) → w.alive x ≡ b → Site w v t h x 1
    pick false e =
        let a : death_disturbs (under v (finish_step t).facts) x + 1 ≤ death_disturbs w x = death_fewer w v t h x k e n less had gone in
        omega (arith, a, ups, sums)
    pick true e =
        let q = seen e in
        let l : list_any (counts_loss w.sched x k) (w.up x) ≡ true = sym (ap (λ b. not b || list_any (counts_loss w.sched x k) (w.up x)) e) ∙ doom in
        let r : sum_of (up_disturbs (under v (finish_step t).facts) x) (v.up x) + 1 ≤ sum_of (up_disturbs w x) (v.up x) = loss_spent w v t h x k (v.up x) old (losses l) (all_spent (finish_step t).facts x k s (v.up x) q.0 (let z = q.1 in omega (arith, z, fence))) in
        let d : death_disturbs (under v (finish_step t).facts) x ≤ death_disturbs w x = death_less w v t h x less in
        omega (arith, r, d, sums)
