-- Each loss of a key is by an event that takes that a worker leaves.
use Rattle.std.proofs.Common.{◌≡◌, ℕ, ◌+◌, ◌≤◌, Bool, true, false, cond, List, [], ◌∷◌, Some, None, refl, sym, ap, ◌∙◌, arith}
use Rattle.std.specs.Option.{option_map}
use Rattle.std.proofs.lemmas.Bool.{true≢false, ltb-true}
use Rattle.cluster_msgs.specs.declared.messages.Up.{Up}
use Rattle.cluster_msgs.specs.declared.messages.FromClient.{FromClient as ClientMessage}
use Rattle.cluster_msgs.specs.declared.cores.SchedEvent.TheVariants.{FromWorker, FromClient}
use Rattle.cluster_msgs.specs.declared.events.Event.{Event}
use Rattle.cluster_msgs.specs.declared.events.Event.TheVariants.{Want, Release, Join, Lose, SeeLoss, Suspect, DeliverDown, DeliverUp, DeliverToClient, DeliverFromClient, Start, Finish, SendGather, ServeGather, ArriveGather, FailGather, Balance, Evict, Replicate, Spill, LoseSpilled}
use Rattle.cluster_rules.specs.Sched.{is_above, known}
use Rattle.cluster_rules.specs.World.{Job, World, opening, is_connected}
use Rattle.cluster_rules.specs.WorldStep.{world_step}
use Rattle.cluster_rules.specs.Enabled.{front}
use Rattle.cluster_rules.specs.Runs.{loses, sched_event, losses_from, killed}
use Rattle.safety_laws.specs.Released.{is_leave, leaves}

loses_by_leave : (w : World) (e : Event) (k : ℕ) → is_leave e ≡ false → loses w.sched k (sched_event w e) ≡ false
loses_by_leave w (Want c ks) k h = refl
loses_by_leave w (Release c ks) k h = refl
loses_by_leave w (Join threads) k h = refl
loses_by_leave w (Lose i) k h = refl
loses_by_leave w (SeeLoss i) k h = absurd (true≢false h)
loses_by_leave w (Suspect i) k h = absurd (true≢false h)
loses_by_leave w (DeliverDown i) k h = refl
loses_by_leave w (DeliverUp i) k h = pick (is_connected w i) (w.up i)
  where
    pick : (b : Bool) (ms : List Up) → loses w.sched k (cond b (option_map (λ m. FromWorker i m) (front ms)) None) ≡ false
    pick true [] = refl
    pick true (m ∷ ms) = refl
    pick false ms = refl
loses_by_leave w (DeliverToClient c) k h = refl
loses_by_leave w (DeliverFromClient c) k h = pick (w.from_client c)
  where
    pick : (ms : List ClientMessage) → loses w.sched k (option_map (λ m. FromClient c m) (front ms)) ≡ false
    pick [] = refl
    pick (m ∷ ms) = refl
loses_by_leave w (Start i) k h = refl
loses_by_leave w (Finish i q) k h = refl
loses_by_leave w (SendGather a p) k h = refl
loses_by_leave w (ServeGather p a n) k h = refl
loses_by_leave w (ArriveGather a p n) k h = refl
loses_by_leave w (FailGather a p) k h = refl
loses_by_leave w Balance k h = refl
loses_by_leave w Evict k h = refl
loses_by_leave w (Replicate q i) k h = refl
loses_by_leave w (Spill i q) k h = refl
loses_by_leave w (LoseSpilled i q) k h = refl

-- what one event makes of the count
one_more : (a b c : Bool) (n : ℕ) → (c ≡ false → b ≡ false) → cond a (cond b (n + 1) n) 0 ≤ n + cond c 1 0
one_more false b c n h = omega arith
one_more true b true n h = pick b
  where
    pick : (b : Bool) → cond b (n + 1) n ≤ n + 1
    pick true = omega arith
    pick false = omega arith
one_more true true false n h = absurd (true≢false (h refl))
one_more true false false n h = omega arith

losses_within : (j : Job) (w : World) (n : ℕ) (es : List Event) (k : ℕ) → losses_from j w n es k ≤ n + leaves es
losses_within j w n [] k = omega arith
losses_within j w n (e ∷ es) k =
    let m = one_more (known (world_step j w e).sched k) (loses w.sched k (sched_event w e)) (is_leave e) n (loses_by_leave w e k) in
    let r = losses_within j (world_step j w e) (cond (known (world_step j w e).sched k) (cond (loses w.sched k (sched_event w e)) (n + 1) n) 0) es k in
    omega (arith, m, r)

pub killed_after_leaves : (j : Job) (es : List Event) (k a : ℕ) → j.setting.allowed ≡ Some a → killed j es k ≡ true → a + 1 ≤ leaves es
unfolding killed
killed_after_leaves j es k a e h =
    let l = ltb-true a (losses_from j (opening j) 0 es k) (ap (λ o. is_above o (losses_from j (opening j) 0 es k)) (sym e) ∙ h) in
    let m = losses_within j (opening j) 0 es k in
    omega (arith, l, m)
