-- The scheduler takes a client's message.
use Rattle.std.proofs.Common.{◌≡◌, ℕ, zero, suc, ◌+◌, ◌*◌, ◌≤◌, Bool, true, false, cond, List, ◌∷◌, Option, Some, None, refl, sym, ap, ◌∙◌, subst, arith, is_some, inl}
use Rattle.std.specs.Prelude.{nat_le}
use Rattle.std.specs.List.{list_any, AllByRecursion}
use Rattle.std.proofs.lemmas.Bool.{false≢true, eqb-true, eq-eqb, and_parts, leb-true}
use Rattle.std.proofs.Math.Dec.{eqb}
use Rattle.small_facts.proofs.Ranges.{range_has}
use Rattle.cluster_msgs.specs.declared.messages.Down.{Down}
use Rattle.cluster_msgs.specs.declared.messages.FromClient.{FromClient as ClientMessage}
use Rattle.cluster_msgs.specs.declared.messages.FromClient.TheVariants.{Want, Release, Missing}
use Rattle.cluster_msgs.specs.declared.cores.SchedEvent.TheVariants.{FromClient}
use Rattle.cluster_msgs.specs.declared.events.Event.TheVariants.{DeliverFromClient}
use Rattle.cluster_rules.specs.Functions.{from_one, put, put_pair, total}
use Rattle.cluster_rules.specs.Derived.{below}
use Rattle.cluster_rules.specs.Sched.{Facts, IsSound, keys, holds, held, connected, need, holder_count}
use Rattle.cluster_rules.specs.SchedTable.{change_client, sched_takes, is_copy, lost_copy, plain, no_answer, nothing_freed, nothing_asked, wants_more, wants_less}
use Rattle.cluster_rules.specs.SchedStep.{Stages, drop_bad, settle, finish_step, sched_step, takes_away}
use Rattle.cluster_rules.specs.World.{Job, World, is_client}
use Rattle.cluster_rules.specs.WorldStep.{scheduled, take_from_client, world_step}
use Rattle.cluster_rules.proofs.SoundStep.{sound_changed}
use Rattle.cluster_laws.specs.Settled.{IsSettled}
use Rattle.cluster_laws.proofs.Framed.{change_framed}
use Rattle.pair_machine.specs.Pair.{Quiet}
use Rattle.pair_moves.specs.Projection.{IsNumbered}
use Rattle.pair_moves.proofs.Rows.{IsPlain, calm_row, quiet_calm, same_moved}
use Rattle.pair_moves.proofs.HoldRows.{lost_row}
use Rattle.safety_laws.proofs.Turns.{letter_taken as taken_letter}
use Rattle.safety_laws.proofs.Joint.{IsJoint}
use Rattle.quiet_measure.specs.Weights.{sum_of, question, down_weight, letter_weight}
use Rattle.quiet_measure.specs.Measure.{deaths, most_asked, pair_weight, up_disturbs, letter_disturbs, death_disturbs, worker_disturbs, client_disturbs, disturbances, links_weight, Falls}
use Rattle.quiet_measure.proofs.Fewer.{total_nothing}
use Rattle.quiet_measure.specs.Lighter.{under}
use Rattle.quiet_measure.specs.Settles.{SettlesAt}
use Rattle.quiet_measure.specs.Changes.{AreDrawn, IsCalmChange, IsLessening}
use Rattle.quiet_measure.proofs.Settle.{settles_at}
use Rattle.quiet_measure.proofs.Posts.{answer_cost, reply_cost}
use Rattle.quiet_measure.proofs.CalmChanges.{sound_drop_bad}
use Rattle.quiet_measure.proofs.CalmPay.{backed, lighter}
use Rattle.quiet_measure.proofs.Popped.{letter_popped}
use Rattle.quiet_measure.proofs.Combine.{last_posted, setting_posted, threads_posted}
use Rattle.quiet_measure.proofs.Assemble.{event_total, calm_falls, less_falls}
use Rattle.quiet_laws.specs.Old.{IsOldLetter, AreOld, AreFenced}
use Rattle.quiet_laws.proofs.Wrongful.{IsHonest, has_is, ups_less, letters_less}
use Rattle.quiet_laws.proofs.Disturbed.{IsTaken, Site, worker_less, worker_at, turn_at_worker, turn_at_client, death_less}
use Rattle.quiet_laws.proofs.UpTurn.{no_side}
use Rattle.quiet_laws.proofs.Plain.{zero_total, calm_same, rest_plain}

letter_row : (f : Facts) (c : ℕ) (m : ClientMessage) (w k : ℕ) → IsSound f → IsSettled f → IsNumbered f → IsPlain f (change_client f c m) w k Quiet no_side
unfolding wants_more wants_less
letter_row f c (Want ks) w k sound t n = calm_row f _ w k Quiet no_side sound t n (quiet_calm f _ w k no_side (same_moved f _ t k refl refl) (inl (refl, refl)) refl refl (λ x. tt))
letter_row f c (Release ks) w k sound t n = calm_row f _ w k Quiet no_side sound t n (quiet_calm f _ w k no_side (same_moved f _ t k refl refl) (inl (refl, refl)) refl refl (λ x. tt))
letter_row f c (Missing q x copy) w k sound t n = asks (lost_row f x q copy w k no_side sound t n)
  where
    asks : IsPlain f (lost_copy f x q copy) w k Quiet no_side → IsPlain f (record (lost_copy f x q copy) { reply = Some (c, q) }) w k Quiet no_side
    asks p = record { moved = p.moved; on = p.on; asked = p.asked; freed = p.freed; gone = p.gone; alone = p.alone; has = p.has; silent = p.silent }

lost_silent : (f : Facts) (x k c : ℕ) → (lost_copy f x k c).answer ≡ no_answer
unfolding lost_copy
lost_silent f x k c = by (is_copy c (f.has x k))
  where
    by : (b : Bool) → (cond b (record (plain (record f { has = put_pair f.has x k None })) { freed = put_pair nothing_freed x k true }) (plain f)).answer ≡ no_answer
    by true = refl
    by false = refl

letter_answer : (f : Facts) (c : ℕ) (m : ClientMessage) → (change_client f c m).answer ≡ no_answer
letter_answer f c (Want ks) = refl
letter_answer f c (Release ks) = refl
letter_answer f c (Missing q x copy) = lost_silent f x q copy

module _ (j : Job) (w : World) (joint : IsJoint j w) (old : AreOld w) (fenced : AreFenced w.sched) (c : ℕ) (m : ClientMessage) (ms : List ClientMessage) (e : w.from_client c ≡ m ∷ ms) (there : is_client w c ≡ true) where
  abbrev v : World
  v = record w { from_client = put w.from_client c ms }

  abbrev t : Stages
  t = settle w.sched (change_client w.sched c m)

  drawn : AreDrawn w.sched
  drawn k q o = joint.numbered.below k q.0 q.1 o

  takes : sched_takes w.sched (FromClient c m) ≡ true
  takes = taken_letter j.setting.shape w joint.inside c m ms e there

  pub sh : IsSound (change_client w.sched c m).facts
  sh = sound_changed w.sched joint.sound (FromClient c m) takes

  pub at : (k : ℕ) → SettlesAt (settle w.sched (change_client w.sched c m)) k
  at k = settles_at w.sched (change_client w.sched c m) (sound_drop_bad (change_client w.sched c m).facts sh) k

  numbers : (1 ≤ c) × (c ≤ w.sched.setting.clients)
  numbers = let p = and_parts (nat_le 1 c) (nat_le c w.sched.setting.clients) there in (leb-true 1 c p.0, leb-true c w.sched.setting.clients p.1)

  last : (change_client w.sched c m).facts.last_worker ≡ w.sched.last_worker
  last = let l = (change_framed w.sched (FromClient c m)).last_worker in omega (arith, l)

  setting : (change_client w.sched c m).facts.setting ≡ w.sched.setting
  setting = (change_framed w.sched (FromClient c m)).setting

  turn_is : world_step j w (DeliverFromClient c) ≡ scheduled v (finish_step (settle w.sched (change_client w.sched c m)))
  unfolding world_step sched_step
  turn_is = ap (take_from_client w c) e

  taken : links_weight (deaths w.sched (disturbances w)) v + letter_weight w.sched (deaths w.sched (disturbances w)) m ≤ links_weight (deaths w.sched (disturbances w)) w
  taken = letter_popped w c m ms e (deaths w.sched (disturbances w)) numbers.0 numbers.1

  module _ (threads : (change_client w.sched c m).facts.threads ≡ w.sched.threads) (copies : (x k d : ℕ) → (change_client w.sched c m).facts.has x k ≡ Some d → w.sched.has x k ≡ Some d) where
    honest : IsHonest w.sched (settle w.sched (change_client w.sched c m))
    unfolding settle
    honest = record {
      at = at;
      alone = λ x k o. (letter_row w.sched c m x k joint.sound joint.settled joint.numbered).alone o;
      freed = λ x k o. (letter_row w.sched c m x k joint.sound joint.settled joint.numbered).gone o;
      silent = λ x k. ap (λ (a : Facts → ℕ → List Down). list_any (takes_away k) (a t.placed x)) (letter_answer w.sched c m);
      copies = λ x k d h l. copies x k d h;
      sent = (at 0).sent_is ∙ (change_framed w.sched (FromClient c m)).sent;
      fences = (at 0).fence_is ∙ (change_framed w.sched (FromClient c m)).fence;
      fenced = fenced;
    }

    pub is_taken : IsTaken w (record w { from_client = put w.from_client c ms }) (settle w.sched (change_client w.sched c m))
    unfolding settle
    is_taken = record {
      alive = refl;
      workers = refl;
      clients = refl;
      answers = refl;
      last = last_posted t ∙ (at 0).last_is ∙ last;
      setting = setting_posted t ∙ (at 0).setting_is ∙ setting;
      old = old;
      honest = honest;
      took = λ x k l. inl l;
    }

    pub held_then : (x k : ℕ) → holds (finish_step (settle w.sched (change_client w.sched c m))).facts x k ≡ true → holds (change_client w.sched c m).facts x k ≡ true
    unfolding settle
    held_then x k h = by (need (drop_bad (change_client w.sched c m).facts) k) ((change_client w.sched c m).facts.has x k) (sym (ap is_some ((at k).has_is x)) ∙ ap (λ y. is_some (y x k)) (sym (has_is (settle w.sched (change_client w.sched c m)))) ∙ h)
      where
        by : (b : Bool) (o : Option ℕ) → is_some (cond b o None) ≡ true → is_some o ≡ true
        by true o h = h
        by false o h = absurd (false≢true h)

    pub kept : (x k : ℕ) → holds (finish_step (settle w.sched (change_client w.sched c m))).facts x k ≡ true → holds w.sched x k ≡ true
    kept x k h = by ((change_client w.sched c m).facts.has x k) refl (held_then x k h)
      where
        by : (o : Option ℕ) → (change_client w.sched c m).facts.has x k ≡ o → is_some o ≡ true → holds w.sched x k ≡ true
        by None q h = absurd (false≢true h)
        by (Some d) q h = ap is_some (copies x k d q)

    pub connects_still : (x : ℕ) → connected w.sched x ≡ true → connected (finish_step (settle w.sched (change_client w.sched c m))).facts x ≡ true
    unfolding settle
    connects_still x d = ap (λ y. is_some (y x)) (threads_posted (settle w.sched (change_client w.sched c m)) ∙ (at 0).threads_is ∙ threads) ∙ d

    connects : (x : ℕ) → connected (finish_step t).facts x ≡ true → connected w.sched x ≡ true
    unfolding settle
    connects x d = ap (λ y. is_some (y x)) (sym (threads_posted (settle w.sched (change_client w.sched c m)) ∙ (at 0).threads_is ∙ threads)) ∙ d

    site : (x : ℕ) → Site w v t is_taken x 0
    site x =
        let a : sum_of (up_disturbs (under v (finish_step t).facts) x) (w.up x) ≤ sum_of (up_disturbs w x) (w.up x) = ups_less w v t is_taken.honest is_taken.alive is_taken.took x (w.up x) (old.up x) in
        let b : death_disturbs (under v (finish_step t).facts) x ≤ death_disturbs w x = death_less w v t is_taken x (kept x) in
        omega (arith, a, b)

    all_less : (x : ℕ) → worker_disturbs (under v (finish_step t).facts) x ≤ worker_disturbs w x
    all_less x = worker_less w v t is_taken x (λ d. (connects x d, site x))

    old_rest : AllByRecursion (IsOldLetter w.sched.counter) (m ∷ ms)
    old_rest = subst (λ l. AllByRecursion (IsOldLetter w.sched.counter) l) e (old.letters c)

    own_less : client_disturbs (under v (finish_step t).facts) c + letter_disturbs w m ≤ client_disturbs w c
    unfolding client_disturbs
    own_less =
        let a : sum_of (letter_disturbs (under v (finish_step t).facts)) ms ≤ sum_of (letter_disturbs w) ms = letters_less w v t is_taken.honest is_taken.alive is_taken.took ms old_rest.1 in
        let b : sum_of (letter_disturbs (under v (finish_step t).facts)) (cond (eqb c c) ms (w.from_client c)) ≡ sum_of (letter_disturbs (under v (finish_step t).facts)) ms = ap (λ b. sum_of (letter_disturbs (under v (finish_step t).facts)) (cond b ms (w.from_client c))) (eq-eqb c c refl) in
        let d : sum_of (letter_disturbs w) (w.from_client c) ≡ letter_disturbs w m + sum_of (letter_disturbs w) ms = ap (sum_of (letter_disturbs w)) e in
        omega (arith, a, b, d)

    client_less : (d : ℕ) → client_disturbs (under v (finish_step t).facts) d ≤ client_disturbs w d
    unfolding client_disturbs
    client_less d = pick (eqb d c) refl
      where
        pick : (b : Bool) → eqb d c ≡ b → sum_of (letter_disturbs (under v (finish_step t).facts)) (cond (eqb d c) ms (w.from_client d)) ≤ sum_of (letter_disturbs w) (w.from_client d)
        pick false q =
            let a : sum_of (letter_disturbs (under v (finish_step t).facts)) (w.from_client d) ≤ sum_of (letter_disturbs w) (w.from_client d) = letters_less w v t is_taken.honest is_taken.alive is_taken.took (w.from_client d) (old.letters d) in
            let b : sum_of (letter_disturbs (under v (finish_step t).facts)) (cond (eqb d c) ms (w.from_client d)) ≡ sum_of (letter_disturbs (under v (finish_step t).facts)) (w.from_client d) = ap (λ b. sum_of (letter_disturbs (under v (finish_step t).facts)) (cond b ms (w.from_client d))) q in
            omega (arith, a, b)
        pick true q = let l : sum_of (letter_disturbs (under v (finish_step t).facts)) (cond (eqb c c) ms (w.from_client c)) + letter_disturbs w m ≤ sum_of (letter_disturbs w) (w.from_client c) = own_less in
            subst (λ d. sum_of (letter_disturbs (under v (finish_step t).facts)) (cond (eqb d c) ms (w.from_client d)) ≤ sum_of (letter_disturbs w) (w.from_client d)) (sym (eqb-true d c q)) (omega (arith, l))

    pub disturbs_fall : disturbances (scheduled (record w { from_client = put w.from_client c ms }) (finish_step (settle w.sched (change_client w.sched c m)))) + letter_disturbs w m ≤ disturbances w
    disturbs_fall = turn_at_client w v t is_taken (letter_disturbs w m) c all_less client_less (range_has 1 w.sched.setting.clients c numbers.0 (let h = numbers.1 in omega (arith, h))) own_less

    pub disturbs_fall_at : (x : ℕ) → connected w.sched x ≡ true → Site w (record w { from_client = put w.from_client c ms }) (settle w.sched (change_client w.sched c m)) is_taken x 1
        → disturbances (scheduled (record w { from_client = put w.from_client c ms }) (finish_step (settle w.sched (change_client w.sched c m)))) + 1 ≤ disturbances w
    disturbs_fall_at x was l = let h = joint.sound.numbers x was in turn_at_worker w v t is_taken 1 x all_less (range_has 1 w.sched.last_worker x h.0 (let z = h.1 in omega (arith, z))) (worker_at w v t is_taken x 1 (connects_still x was) was l) client_less

    one_fewer : (d : ℕ) → d + 1 ≤ disturbances w → (n : ℕ) × (n + 1 ≡ disturbances w) × (d ≤ n)
    one_fewer d l = by (disturbances w) l
      where
        by : (x : ℕ) → d + 1 ≤ x → (n : ℕ) × (n + 1 ≡ x) × (d ≤ n)
        by zero l = absurd (omega (arith, l))
        by (suc n) l = (n, omega arith, omega (arith, l))

    no_answers : (d : ℕ → ℕ) → answer_cost (settle w.sched (change_client w.sched c m)) d ≡ 0
    unfolding settle
    no_answers d = ap (λ (a : Facts → ℕ → List Down). total (λ x. sum_of (down_weight (settle w.sched (change_client w.sched c m)).placed d x) (a (settle w.sched (change_client w.sched c m)).placed x)) (from_one (settle w.sched (change_client w.sched c m)).placed.last_worker)) (letter_answer w.sched c m)
        ∙ total_nothing (from_one (settle w.sched (change_client w.sched c m)).placed.last_worker)

    pub letter_less_falls : IsLessening w.sched (change_client w.sched c m).facts → disturbances (scheduled (record w { from_client = put w.from_client c ms }) (finish_step (settle w.sched (change_client w.sched c m)))) + 1 ≤ disturbances w
        → ((b : ℕ) → b + 1 ≡ disturbances w → event_total (settle w.sched (change_client w.sched c m)) (deaths (settle w.sched (change_client w.sched c m)).placed b) (below (keys w.sched)) + reply_cost (settle w.sched (change_client w.sched c m)) (deaths (settle w.sched (change_client w.sched c m)).placed b) + 1
        ≤ letter_weight w.sched (deaths w.sched (disturbances w)) m + (most_asked b + 4)) → Falls w (world_step j w (DeliverFromClient c))
    letter_less_falls less l cost = subst (λ (x : World). Falls w x) (sym turn_is)
        (let n = one_fewer _ l in
        less_falls w v (change_client w.sched c m) refl joint.sound joint.settled drawn sh (λ x d. ap (λ y. is_some (y x)) (sym threads) ∙ d) (letter_weight w.sched (deaths w.sched (disturbances w)) m) taken less n.0 (let z = n.1 in omega (arith, z))
        (let a = no_answers (deaths (settle w.sched (change_client w.sched c m)).placed n.0) in let b = cost n.0 n.1 in omega (arith, a, b)) n.2)

  -- where nothing changes
  module _ (facts : (change_client w.sched c m).facts ≡ w.sched) (freed : (change_client w.sched c m).freed ≡ nothing_freed) (asked : (change_client w.sched c m).asked ≡ nothing_asked) where
    calm : IsCalmChange w.sched (change_client w.sched c m).facts (λ q. false)
    calm = subst (λ (h : Facts). IsCalmChange w.sched h (λ q. false)) (sym facts) (calm_same w.sched (λ q. false) (λ q o. false≢true o))

    copies_same : (x k d : ℕ) → (change_client w.sched c m).facts.has x k ≡ Some d → w.sched.has x k ≡ Some d
    copies_same x k d h = sym (ap (λ (f : Facts). f.has x k) facts) ∙ h

    pub deaths_less : (q : ℕ) → deaths (settle w.sched (change_client w.sched c m)).placed (disturbances w) q ≤ deaths w.sched (disturbances w) q
    deaths_less q = (lighter w.sched (change_client w.sched c m) (λ q. false) joint.sound joint.settled drawn sh calm (disturbances w) (λ q. backed w.sched (change_client w.sched c m) (λ q. false) joint.sound joint.settled drawn sh calm q refl)).deaths q

    no_event : (d : ℕ → ℕ) (ks : List ℕ) → event_total (settle w.sched (change_client w.sched c m)) d ks ≡ 0
    unfolding settle
    no_event d ks = ap (λ (z : ℕ → ℕ → Bool). total (λ k. total (λ i. cond (z i k) (question d k + 1) 0) (from_one (settle w.sched (change_client w.sched c m)).placed.last_worker)) ks) freed ∙ zero_total (from_one (settle w.sched (change_client w.sched c m)).placed.last_worker) ks

    pub letter_still_falls : reply_cost (settle w.sched (change_client w.sched c m)) (deaths (settle w.sched (change_client w.sched c m)).placed (disturbances w)) + 1 ≤ letter_weight w.sched (deaths w.sched (disturbances w)) m → Falls w (world_step j w (DeliverFromClient c))
    letter_still_falls cost = subst (λ (x : World). Falls w x) (sym turn_is)
        (calm_falls w v (change_client w.sched c m) refl joint.sound joint.settled drawn sh (λ x d. ap (λ (f : Facts). connected f x) (sym facts) ∙ d) (letter_weight w.sched (deaths w.sched (disturbances w)) m) taken (λ q. false) calm (λ q o. absurd (false≢true o)) (λ q. 0)
        (λ b q. rest_plain w.sched (change_client w.sched c m) (λ q. false) joint.sound joint.settled drawn sh calm (disturbances w) b (λ q. ap (λ z. z q) asked) (λ q h. sym (ap (λ (f : Facts). held f q) facts) ∙ h) (λ q h. sym (ap (λ (f : Facts). is_some (f.on q)) facts) ∙ h) q 0
        (let s : holder_count (change_client w.sched c m).facts q * pair_weight (disturbances w) ≡ holder_count w.sched q * pair_weight (disturbances w) = ap (λ (f : Facts). holder_count f q * pair_weight (disturbances w)) facts in omega (arith, s)))
        (let z = no_event (deaths (settle w.sched (change_client w.sched c m)).placed (disturbances w)) (below (keys w.sched)) in
        let a = no_answers (ap (λ (f : Facts). f.threads) facts) copies_same (deaths (settle w.sched (change_client w.sched c m)).placed (disturbances w)) in
        let y : total (λ q. 0) (below (keys w.sched)) ≡ 0 = total_nothing (below (keys w.sched)) in omega (arith, z, y, a, cost))
        (let l = disturbs_fall (ap (λ (f : Facts). f.threads) facts) copies_same in omega (arith, l)))
