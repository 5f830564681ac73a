-- What an event of the scheduler sends a worker gives it no attempt but fresh ones, and each of those once.
use Rattle.std.proofs.Common.{◌≡◌, ℕ, ◌≤◌, Bool, true, false, cond, ◌||◌, List, [], ◌∷◌, ◌++◌, Option, Some, None, refl, sym, ap, ◌∙◌, subst, arith}
use Rattle.std.specs.List.{cons_option}
use Rattle.std.proofs.lemmas.Bool.{true≢false, eqb-true}
use Rattle.std.proofs.Math.Dec.{eqb}
use Rattle.small_facts.proofs.Truth.{one_at_most}
use Rattle.cluster_msgs.specs.declared.cores.Steal.{Steal}
use Rattle.cluster_msgs.specs.declared.cores.SchedEvent.{SchedEvent}
use Rattle.cluster_msgs.specs.declared.cores.SchedEvent.TheVariants.{Join, Leave, FromWorker, FromClient, Balance, Evict, Replicate}
use Rattle.cluster_msgs.specs.declared.messages.Down.{Down}
use Rattle.cluster_msgs.specs.declared.messages.Down.TheVariants.{StealRequest, RemoveReplicas, AcquireReplicas, RefreshWhoHas}
use Rattle.cluster_msgs.specs.declared.messages.Up.{Up}
use Rattle.cluster_msgs.specs.declared.messages.Up.TheVariants.{TaskFinished, TaskErred, AddKeys, ReleaseWorkerData, MissingData, RequestRefreshWhoHas, StealResponse}
use Rattle.cluster_msgs.specs.declared.messages.FromClient.{FromClient as FromClientMessage}
use Rattle.cluster_msgs.specs.declared.messages.FromClient.TheVariants.{Want, Release, Missing}
use Rattle.cluster_rules.specs.Functions.{put_pair}
use Rattle.cluster_rules.specs.Derived.{below, is_in}
use Rattle.cluster_rules.specs.Sched.{Facts, keys, workers}
use Rattle.cluster_rules.specs.Policies.{next_steal, next_drop}
use Rattle.cluster_rules.specs.SchedTable.{Changed, plain, change, change_up, change_client, is_copy, lost_copy, ask_message, balanced, evicted}
use Rattle.cluster_rules.specs.SchedStep.{Stages, sched_step, settle, finish_step, posted, mail, down_messages, lost_keys, to_worker}
use Rattle.cluster_laws.proofs.OrderLemmas.{mail-down}
use Rattle.cluster_rules.proofs.SchedFrame.{step_settles}
use Rattle.cluster_laws.specs.Settled.{IsSettled}
use Rattle.pair_machine.specs.Pair.{Task, Free, Remove, Ask, Other, given_count, at_count}
use Rattle.pair_machine.proofs.PairLemmas.{given-append}
use Rattle.pair_moves.specs.Projection.{notes, IsNumbered}
use Rattle.pair_moves.proofs.PairTold.{task_note, task_notes, Distinct}
use Rattle.pair_moves.proofs.Settling.{free_notes, new_at, distinct_range, event_notes}
use Rattle.pair_moves.proofs.SettleKeeps.{new_some}
use Rattle.cluster_laws.proofs.Framed.{change_framed}
use Rattle.pair_moves.proofs.HoldRows.{left_plain}
use Rattle.pair_moves.proofs.Events.{numbered_step}
use Rattle.safety_laws.proofs.Tale.{AreFresh}

-- tasks
none_given : (k a : ℕ) (h : ℕ → Option ℕ) (qs : List ℕ) → is_in k qs ≡ false → given_count a (task_notes k h qs) ≡ 0
none_given k a h [] e = refl
none_given k a h (q ∷ qs) e = pick (h q) (eqb q k) refl e (none_given k a h qs)
  where
    pick : (o : Option ℕ) (b : Bool) → eqb q k ≡ b → (b || is_in k qs) ≡ false → (is_in k qs ≡ false → given_count a (task_notes k h qs) ≡ 0) → given_count a (cons_option (task_note k q o) (task_notes k h qs)) ≡ 0
    pick o true i z rest = absurd (true≢false z)
    pick None false i z rest = rest z
    pick (Some x) false i z rest = let r = rest z in ap (λ c. given_count a (cond c (Task x) Other ∷ task_notes k h qs)) i ∙ (omega (arith, r))

some_given : (k a : ℕ) (h : ℕ → Option ℕ) (qs : List ℕ) → Distinct qs → given_count a (task_notes k h qs) ≤ at_count a (h k)
some_given k a h [] d = omega arith
some_given k a h (q ∷ qs) d = pick (eqb q k) refl (h q) refl (some_given k a h qs d.1)
  where
    pick : (b : Bool) → eqb q k ≡ b → (o : Option ℕ) → h q ≡ o → given_count a (task_notes k h qs) ≤ at_count a (h k) → given_count a (cons_option (task_note k q o) (task_notes k h qs)) ≤ at_count a (h k)
    pick b i None e rest = rest
    pick false i (Some x) e rest = subst (λ c. given_count a (cond c (Task x) Other ∷ task_notes k h qs) ≤ at_count a (h k)) (sym i) (omega (arith, rest))
    pick true i (Some x) e rest = subst (λ c. given_count a (cond c (Task x) Other ∷ task_notes k h qs) ≤ at_count a (h k)) (sym i)
        (subst (λ o. given_count a (Task x ∷ task_notes k h qs) ≤ at_count a o) (sym (ap h (sym (eqb-true q k i)) ∙ e))
        (let z = none_given k a h qs (ap (λ n. is_in n qs) (sym (eqb-true q k i)) ∙ d.0) in omega (arith, z)))

-- what is freed
free_given : (k a : ℕ) (ks : List ℕ) → given_count a (free_notes k ks) ≡ 0
free_given k a [] = refl
free_given k a (x ∷ xs) = pick (is_in k (x ∷ xs))
  where
    pick : (b : Bool) → given_count a (cond b Free Other ∷ []) ≡ 0
    pick true = refl
    pick false = refl

-- answers give nothing
abbrev AreGiftless : ℕ → Changed → Type 0
AreGiftless k g = (a i : ℕ) (x : Facts) → given_count a (notes k (g.answer x i)) ≡ 0

answer_lost : (f : Facts) (x q c : ℕ) (a i k : ℕ) (y : Facts) → given_count a (notes k ((lost_copy f x q c).answer y i)) ≡ 0
unfolding lost_copy
answer_lost f x q c a i k y = pick (is_copy c (f.has x q))
  where
    pick : (b : Bool) → given_count a (notes k ((cond b (record (plain (record f { has = put_pair f.has x q None })) { freed = put_pair (λ w j. false) x q true }) (plain f)).answer y i)) ≡ 0
    pick true = refl
    pick false = refl

answer_refresh : (k a : ℕ) (b : Bool) (ws : List (ℕ × List (ℕ × ℕ))) → given_count a (notes k (cond b (RefreshWhoHas ws ∷ []) [])) ≡ 0
answer_refresh k a true ws = refl
answer_refresh k a false ws = refl

answer_acquire : (k a : ℕ) (b : Bool) (ws : List (ℕ × List (ℕ × ℕ))) → given_count a (notes k (cond b (AcquireReplicas ws ∷ []) [])) ≡ 0
answer_acquire k a true ws = refl
answer_acquire k a false ws = refl

answer_ask : (k a q : ℕ) (o : Option (ℕ × ℕ)) (i : ℕ) → given_count a (notes k (ask_message q o i)) ≡ 0
answer_ask k a q None i = refl
answer_ask k a q (Some p) i = pick (eqb p.0 i) (eqb q k)
  where
    noted : (c : Bool) → given_count a (cond c (Ask p.1) Other ∷ []) ≡ 0
    noted true = refl
    noted false = refl

    pick : (b c : Bool) → given_count a (notes k (cond b (StealRequest q p.1 ∷ []) [])) ≡ 0
    pick true c = noted (eqb q k)
    pick false c = refl

answer_balanced : (f : Facts) (o : Option Steal) (k : ℕ) → AreGiftless k (balanced f o)
answer_balanced f None k a i x = refl
answer_balanced f (Some c) k a i x = answer_ask k a c.key (f.on c.key) i

answer_evicted : (f : Facts) (o : Option (ℕ × ℕ)) (k : ℕ) → AreGiftless k (evicted f o)
answer_evicted f None k a i x = refl
answer_evicted f (Some p) k a i x = pick (eqb i p.0)
  where
    noted : (c : Bool) → given_count a (cond c Remove Other ∷ []) ≡ 0
    noted true = refl
    noted false = refl

    pick : (b : Bool) → given_count a (notes k (cond b (RemoveReplicas (p.1 ∷ []) ∷ []) [])) ≡ 0
    pick true = noted (is_in k (p.1 ∷ []))
    pick false = refl

answer_up : (f : Facts) (v : ℕ) (m : Up) (k : ℕ) → AreGiftless k (change_up f v m)
answer_up f v (TaskFinished seen q b) k a i x = refl
answer_up f v (TaskErred seen q b) k a i x = refl
answer_up f v (AddKeys seen ks) k a i x = subst (λ (h : Facts → ℕ → List Down). given_count a (notes k (h x i)) ≡ 0) (sym (left_plain f v seen ks).answer) refl
answer_up f v (ReleaseWorkerData seen q) k a i x = refl
answer_up f v (MissingData seen q y c) k a i x = answer_refresh k a (eqb i v) _
answer_up f v (RequestRefreshWhoHas seen q) k a i x = answer_refresh k a (eqb i v) _
answer_up f v (StealResponse seen q b agreed) k a i x = refl

answer_client : (f : Facts) (c : ℕ) (m : FromClientMessage) (k : ℕ) → AreGiftless k (change_client f c m)
answer_client f c (Want ks) k a i x = refl
answer_client f c (Release ks) k a i x = refl
answer_client f c (Missing q y n) k a i x = answer_lost f y q n a i k x

answers_give : (f : Facts) (s : SchedEvent) (k : ℕ) → AreGiftless k (change f s)
answers_give f (Join threads) k a i x = refl
answers_give f (Leave v) k a i x = refl
answers_give f (FromWorker v m) k a i x = answer_up f v m k a i x
answers_give f (FromClient c m) k a i x = answer_client f c m k a i x
answers_give f Balance k a i x = answer_balanced f (next_steal f) k a i x
answers_give f Evict k a i x = answer_evicted f (next_drop f) k a i x
answers_give f (Replicate q v) k a i x = answer_acquire k a (eqb i v) _

-- together
posts_given : (f : Facts) (s : SchedEvent) (i k a : ℕ) → given_count a (notes k (mail i (sched_step f s).down)) ≤ at_count a (new_at f.counter i ((sched_step f s).facts.on k))
unfolding sched_step finish_step settle posted
posts_given f s i k a = pick (is_in i (workers t.placed)) refl
  where
    t : Stages
    t = settle f (change f s)

    h : ℕ → Option ℕ
    h = λ q. new_at f.counter i (t.placed.on q)

    pick : (b : Bool) → is_in i (workers t.placed) ≡ b → given_count a (notes k (mail i (down_messages t))) ≤ at_count a (h k)
    pick true e = subst (λ ns. given_count a ns ≤ at_count a (h k)) (sym (event_notes t i k e))
        (let x = given-append a (free_notes k (lost_keys t i)) (task_notes k h (below (keys t.placed)) ++ notes k ((change f s).answer t.placed i)) in
        let y = given-append a (task_notes k h (below (keys t.placed))) (notes k ((change f s).answer t.placed i)) in
        let u = free_given k a (lost_keys t i) in
        let v = some_given k a h (below (keys t.placed)) (distinct_range 0 (keys t.placed)) in
        let z = answers_give f s k a i t.placed in omega (arith, x, y, u, v, z))
    pick false e = subst (λ ms. given_count a (notes k ms) ≤ at_count a (h k)) (sym (mail-down t i ∙ ap (λ b. cond b (mail i (to_worker t i)) []) e)) (omega arith)

at_one_most : (a : ℕ) (o : Option ℕ) → at_count a o ≤ 1
at_one_most a None = omega arith
at_one_most a (Some b) = one_at_most (eqb b a)

at_none : (a : ℕ) (o : Option ℕ) → ((b : ℕ) → o ≡ Some b → b ≡ a → ⊥) → at_count a o ≡ 0
at_none a None h = refl
at_none a (Some b) h = pick (eqb b a) refl
  where
    pick : (c : Bool) → eqb b a ≡ c → ◌≡◌ {A = ℕ} (cond c 1 0) 0
    pick true e = absurd (h b refl (eqb-true b a e))
    pick false e = refl

pub posts_fresh : (f : Facts) (s : SchedEvent) → IsSettled f → IsNumbered f → (i k : ℕ) → AreFresh f.counter (sched_step f s).facts.counter (notes k (mail i (sched_step f s).down))
posts_fresh f s t n i k = record {
  old = λ a l. let g = posts_given f s i k a in let z = at_none a o (λ b e q. absurd (omega (arith, (new_some f.counter i b ((sched_step f s).facts.on k) e).1, q, l))) in omega (arith, g, z);
  one = λ a. let g = posts_given f s i k a in let z = at_one_most a o in omega (arith, g, z);
  new = λ a l. let g = posts_given f s i k a in let z = at_none a o (λ b e q. absurd (omega (arith, (numbered_step f s t n).below k i b (new_some f.counter i b ((sched_step f s).facts.on k) e).0, q, l))) in omega (arith, g, z);
  grows = let z = (step_settles f s).counter in omega (arith, z, (change_framed f s).counter);
}
  where
    o : Option ℕ
    o = new_at f.counter i ((sched_step f s).facts.on k)
