-- A client's message lowers the measure.
use Rattle.std.proofs.Common.{◌≡◌, ℕ, ◌+◌, ◌*◌, ◌<◌, ◌≤◌, Bool, true, false, cond, not, ◌&&◌, List, ◌∷◌, Option, Some, None, refl, sym, ap, ◌∙◌, subst, arith, is_some, ⊎_elim}
use Rattle.std.proofs.lemmas.Bool.{true≢false, eq-eqb, or_left, cases_lt}
use Rattle.std.proofs.Math.Dec.{eqb}
use Rattle.cluster_msgs.specs.declared.messages.ToClient.{ToClient}
use Rattle.cluster_msgs.specs.declared.messages.FromClient.{FromClient as ClientMessage}
use Rattle.cluster_msgs.specs.declared.messages.FromClient.TheVariants.{Want, Release, Missing}
use Rattle.cluster_msgs.specs.declared.events.Event.TheVariants.{DeliverFromClient}
use Rattle.cluster_rules.specs.Functions.{from_one, put, put_pair, total}
use Rattle.cluster_rules.specs.Derived.{below}
use Rattle.cluster_rules.specs.Sched.{Facts, keys, holds, held, connected}
use Rattle.cluster_rules.specs.SchedTable.{Changed, change_client, is_copy, lost_copy, plain, nothing_freed, wants_more, wants_less}
use Rattle.cluster_rules.specs.SchedStep.{Stages, settle, finish_step, lost, reply_message, to_clients}
use Rattle.cluster_rules.specs.World.{Job, World, is_client}
use Rattle.cluster_rules.specs.WorldStep.{scheduled, world_step}
use Rattle.pair_machine.specs.Pair.{AllSeen, IsPair}
use Rattle.pair_moves.specs.Projection.{reports}
use Rattle.safety_laws.specs.Joint.{pair_at}
use Rattle.safety_laws.proofs.Joint.{IsJoint}
use Rattle.quiet_measure.specs.Weights.{bit, sum_of, question, is_current, news_weight, letter_weight}
use Rattle.quiet_measure.specs.Measure.{deaths, most_asked, is_doomed, disturbances, Falls}
use Rattle.quiet_measure.specs.Changes.{IsLessening}
use Rattle.quiet_measure.proofs.Posts.{reply_cost}
use Rattle.quiet_measure.proofs.Pay.{most_deaths}
use Rattle.quiet_measure.proofs.FallPay.{lighter as lighter_then}
use Rattle.quiet_measure.proofs.Combine.{threads_posted}
use Rattle.quiet_measure.proofs.Assemble.{event_total}
use Rattle.quiet_laws.specs.Old.{AreOld, AreFenced}
use Rattle.quiet_laws.proofs.Wrongful.{has_is}
use Rattle.quiet_laws.proofs.Disturbed.{Site}
use Rattle.quiet_laws.proofs.Plain.{zero_total}
use Rattle.quiet_laws.proofs.AnswerCosts.{reply_most}
use Rattle.quiet_laws.proofs.Gone.{gone, gone_less, gone_there, freed_one, lost_at, lost_some, copy_holds}
use Rattle.quiet_laws.proofs.Doomed.{doomed_site}
use Rattle.quiet_laws.proofs.Letters.{sh, at, is_taken, held_then, kept, connects_still, disturbs_fall, disturbs_fall_at, letter_less_falls, deaths_less, letter_still_falls}

-- ## Wants

more_less : (f : Facts) (c : ℕ) (ks : List ℕ) → IsLessening f (wants_more f c ks)
unfolding wants_more held
more_less f c ks = record { setting = refl; last = refl; counter = refl; on = λ k q e. e; copies = λ x k d e. e; held_before = λ k e. e }

less_less : (f : Facts) (c : ℕ) (ks : List ℕ) → IsLessening f (wants_less f c ks)
unfolding wants_less held
less_less f c ks = record { setting = refl; last = refl; counter = refl; on = λ k q e. e; copies = λ x k d e. e; held_before = λ k e. e }

more_threads : (f : Facts) (c : ℕ) (ks : List ℕ) → (wants_more f c ks).threads ≡ f.threads
unfolding wants_more
more_threads f c ks = refl

less_threads : (f : Facts) (c : ℕ) (ks : List ℕ) → (wants_less f c ks).threads ≡ f.threads
unfolding wants_less
less_threads f c ks = refl

no_event : (f : Facts) (g : Changed) (d : ℕ → ℕ) (ks : List ℕ) → g.freed ≡ nothing_freed → event_total (settle f g) d ks ≡ 0
unfolding settle
no_event f g d ks e = ap (λ (z : ℕ → ℕ → Bool). total (λ k. total (λ i. cond (z i k) (question d k + 1) 0) (from_one (settle f g).placed.last_worker)) ks) e ∙ zero_total (from_one (settle f g).placed.last_worker) ks

no_reply : (f : Facts) (g : Changed) (d : ℕ → ℕ) → g.reply ≡ None → reply_cost (settle f g) d ≡ 0
unfolding settle
no_reply f g d e = ap (λ (o : Option (ℕ × ℕ)). sum_of (λ (z : ℕ × ToClient). news_weight (settle f g).placed d z.1) (reply_message (settle f g) (to_clients (settle f g)) o)) e

pub want_falls : (j : Job) (w : World) (joint : IsJoint j w) (old : AreOld w) (fenced : AreFenced w.sched) (c : ℕ) (ks : List ℕ) (ms : List ClientMessage) (e : w.from_client c ≡ Want ks ∷ ms) (there : is_client w c ≡ true) → Falls w (world_step j w (DeliverFromClient c))
want_falls j w joint old fenced c ks ms e there = let less = more_less w.sched c ks in
    letter_less_falls j w joint old fenced c (Want ks) ms e there (more_threads w.sched c ks) less.copies less (disturbs_fall j w joint old fenced c (Want ks) ms e there (more_threads w.sched c ks) less.copies)
    (λ b n. let a = no_event w.sched (change_client w.sched c (Want ks)) (deaths (settle w.sched (change_client w.sched c (Want ks))).placed b) (below (keys w.sched)) refl in let r = no_reply w.sched (change_client w.sched c (Want ks)) (deaths (settle w.sched (change_client w.sched c (Want ks))).placed b) refl in omega (arith, a, r))

pub release_falls : (j : Job) (w : World) (joint : IsJoint j w) (old : AreOld w) (fenced : AreFenced w.sched) (c : ℕ) (ks : List ℕ) (ms : List ClientMessage) (e : w.from_client c ≡ Release ks ∷ ms) (there : is_client w c ≡ true) → Falls w (world_step j w (DeliverFromClient c))
release_falls j w joint old fenced c ks ms e there = let less = less_less w.sched c ks in
    letter_less_falls j w joint old fenced c (Release ks) ms e there (less_threads w.sched c ks) less.copies less (disturbs_fall j w joint old fenced c (Release ks) ms e there (less_threads w.sched c ks) less.copies)
    (λ b n. let a = no_event w.sched (change_client w.sched c (Release ks)) (deaths (settle w.sched (change_client w.sched c (Release ks))).placed b) (below (keys w.sched)) refl in let r = no_reply w.sched (change_client w.sched c (Release ks)) (deaths (settle w.sched (change_client w.sched c (Release ks))).placed b) refl in omega (arith, a, r))

-- ## A copy that a client missed

lost_none : (f : Facts) (x k c : ℕ) → is_copy c (f.has x k) ≡ false → lost_copy f x k c ≡ plain f
unfolding lost_copy
lost_none f x k c e = ap (λ b. cond b (record (plain (record f { has = put_pair f.has x k None })) { freed = put_pair nothing_freed x k true }) (plain f)) e

replied : (f : Facts) (g : Changed) (d : ℕ → ℕ) (c k : ℕ) → g.reply ≡ Some (c, k) → reply_cost (settle f g) d ≤ 7 * d k + 4
unfolding settle
replied f g d c k e = reply_most (settle f g) d c k e

missed_none : (j : Job) (w : World) (joint : IsJoint j w) (old : AreOld w) (fenced : AreFenced w.sched) (c k x d : ℕ) (ms : List ClientMessage) (e : w.from_client c ≡ Missing k x d ∷ ms) (there : is_client w c ≡ true)
    → is_current w.sched x k d ≡ false → Falls w (world_step j w (DeliverFromClient c))
missed_none j w joint old fenced c k x d ms e there n = letter_still_falls j w joint old fenced c (Missing k x d) ms e there (ap (λ (g : Changed). g.facts) same) (ap (λ (g : Changed). g.freed) same) (ap (λ (g : Changed). g.asked) same)
    (let r = replied w.sched (change_client w.sched c (Missing k x d)) (deaths (settle w.sched (change_client w.sched c (Missing k x d))).placed (disturbances w)) c k refl in
    let l = deaths_less j w joint old fenced c (Missing k x d) ms e there (ap (λ (g : Changed). g.facts) same) (ap (λ (g : Changed). g.freed) same) (ap (λ (g : Changed). g.asked) same) k in
    let z : bit (is_current w.sched x k d) ≡ 0 = ap bit n in omega (arith, r, l, z))
  where
    same : lost_copy w.sched x k d ≡ plain w.sched
    same = lost_none w.sched x k d n

module _ (j : Job) (w : World) (joint : IsJoint j w) (old : AreOld w) (fenced : AreFenced w.sched) (c k x d : ℕ) (ms : List ClientMessage) (e : w.from_client c ≡ Missing k x d ∷ ms) (there : is_client w c ≡ true)
    (current : is_current w.sched x k d ≡ true) where
  abbrev v : World
  v = record w { from_client = put w.from_client c ms }

  same : lost_copy w.sched x k d ≡ lost_at w.sched x k
  same = lost_some w.sched x k d current

  facts : (lost_copy w.sched x k d).facts ≡ gone w.sched x k
  facts = ap (λ (g : Changed). g.facts) same

  less : IsLessening w.sched (change_client w.sched c (Missing k x d)).facts
  less = subst (λ (h : Facts). IsLessening w.sched h) (sym facts) (gone_less w.sched x k)

  threads : (change_client w.sched c (Missing k x d)).facts.threads ≡ w.sched.threads
  threads = ap (λ (f : Facts). f.threads) facts

  had : holds w.sched x k ≡ true
  had = copy_holds d (w.sched.has x k) current

  was_connected : connected w.sched x ≡ true
  was_connected = joint.sound.holders x k had

  none : (b c : Bool) → (b ≡ true → c ≡ true) → c ≡ false → b ≡ false
  none true c p q = absurd (true≢false (sym (p refl) ∙ q))
  none false c p q = refl

  now_gone : holds (finish_step (settle w.sched (change_client w.sched c (Missing k x d)))).facts x k ≡ false
  now_gone = none _ (holds (change_client w.sched c (Missing k x d)).facts x k) (held_then j w joint old fenced c (Missing k x d) ms e there threads less.copies x k) (ap (λ (f : Facts). holds f x k) facts ∙ gone_there w.sched x k)

  is_key : k < keys w.sched
  is_key = ⊎_elim (λ l. l) (λ l. absurd (true≢false (sym had ∙ ap is_some (joint.sound.has x k l)))) (cases_lt k (keys w.sched))

  before_key : k < keys (settle w.sched (change_client w.sched c (Missing k x d))).before
  unfolding settle
  before_key = is_key

  high : x ≤ (settle w.sched (change_client w.sched c (Missing k x d))).placed.last_worker
  unfolding settle
  high = let a = (joint.sound.numbers x was_connected).1 in let b = (at j w joint old fenced c (Missing k x d) ms e there k).last_is in let d = ap (λ (f : Facts). f.last_worker) facts in omega (arith, a, b, d)

  placed_connected : connected (settle w.sched (change_client w.sched c (Missing k x d))).placed x ≡ true
  placed_connected = ap (λ y. is_some (y x)) (sym (threads_posted (settle w.sched (change_client w.sched c (Missing k x d))))) ∙ connects_still j w joint old fenced c (Missing k x d) ms e there threads less.copies x was_connected

  lose : lost (settle w.sched (change_client w.sched c (Missing k x d))) x k ≡ true
  unfolding settle
  lose = or_left ((change_client w.sched c (Missing k x d)).freed x k) _ (ap (λ (g : Changed). g.freed x k) same ∙ ap (λ b. cond (b && eqb k k) true false) (eq-eqb x x refl) ∙ ap (λ b. cond b true false) (eq-eqb k k refl))

  by_doom : is_doomed w x k ≡ true → Site w (record w { from_client = put w.from_client c ms }) (settle w.sched (change_client w.sched c (Missing k x d))) (is_taken j w joint old fenced c (Missing k x d) ms e there threads less.copies) x 1
  by_doom doom = doomed_site w v (settle w.sched (change_client w.sched c (Missing k x d))) (is_taken j w joint old fenced c (Missing k x d) ms e there threads less.copies) x k ((w.workers x).seen)
      before_key is_key (joint.sound.numbers x was_connected).0 high placed_connected had now_gone lose (kept j w joint old fenced c (Missing k x d) ms e there threads less.copies x) doom (omega arith) (λ l. l) said (old.up x)
    where
      said : w.alive x ≡ true → AllSeen (w.workers x).seen (reports k (w.up x)) × ((w.workers x).seen ≤ w.sched.sent x)
      said a = let pair : IsPair (pair_at w x k) = joint.paired x k is_key a was_connected in (pair.heard_of, (let z = pair.places in omega (arith, z)))

  fewer : disturbances (scheduled (record w { from_client = put w.from_client c ms }) (finish_step (settle w.sched (change_client w.sched c (Missing k x d))))) + 1 ≤ disturbances w
  fewer = pick (is_doomed w x k) refl
    where
      pick : (b : Bool) → is_doomed w x k ≡ b → disturbances (scheduled (record w { from_client = put w.from_client c ms }) (finish_step (settle w.sched (change_client w.sched c (Missing k x d))))) + 1 ≤ disturbances w
      pick true q = disturbs_fall_at j w joint old fenced c (Missing k x d) ms e there threads less.copies x was_connected (by_doom q)
      pick false q = let z : bit (is_current w.sched x k d && not (is_doomed w x k)) ≡ 1 = ap (λ b. bit (b && not (is_doomed w x k))) current ∙ ap (λ b. bit (not b)) q in
          let l = disturbs_fall j w joint old fenced c (Missing k x d) ms e there threads less.copies in omega (arith, z, l)

  costs : (b : ℕ) → b + 1 ≡ disturbances w → event_total (settle w.sched (change_client w.sched c (Missing k x d))) (deaths (settle w.sched (change_client w.sched c (Missing k x d))).placed b) (below (keys w.sched))
      + reply_cost (settle w.sched (change_client w.sched c (Missing k x d))) (deaths (settle w.sched (change_client w.sched c (Missing k x d))).placed b) + 1
      ≤ letter_weight w.sched (deaths w.sched (disturbances w)) (Missing k x d) + (most_asked b + 4)
  unfolding settle
  costs b n =
      let S : Stages = settle w.sched (change_client w.sched c (Missing k x d)) in
      let D : ℕ → ℕ = deaths (settle w.sched (change_client w.sched c (Missing k x d))).placed b in
      let a : event_total S D (below (keys w.sched)) ≡ total (λ q. total (λ y. cond (put_pair nothing_freed x k true y q) (question D q + 1) 0) (from_one S.placed.last_worker)) (below (keys w.sched)) =
      ap (λ (z : ℕ → ℕ → Bool). total (λ q. total (λ y. cond (z y q) (question D q + 1) 0) (from_one S.placed.last_worker)) (below (keys w.sched))) (ap (λ (g : Changed). g.freed) same) in
      let f = freed_one D x k S.placed.last_worker (keys w.sched) in
      let r = replied w.sched (change_client w.sched c (Missing k x d)) D c k refl in
      let l = (lighter_then w.sched (change_client w.sched c (Missing k x d)) joint.sound joint.settled (λ k q o. joint.numbered.below k q.0 q.1 o) (sh j w joint old fenced c (Missing k x d) ms e there) less b (disturbances w) (omega (arith, n))).gone x k d current not_now in
      let z : bit (is_current w.sched x k d) ≡ 1 = ap bit current in
      let m = most_deaths S.placed b k in
      omega (arith, a, f, r, l, z, m)
    where
      placed_gone : (o : Option ℕ) → is_some o ≡ false → is_copy d o ≡ false
      placed_gone None q = refl
      placed_gone (Some y) q = absurd (true≢false q)

      not_now : is_current (settle w.sched (change_client w.sched c (Missing k x d))).placed x k d ≡ false
      not_now = placed_gone _ (sym (ap (λ h. is_some (h x k)) (has_is (settle w.sched (change_client w.sched c (Missing k x d))))) ∙ now_gone)

  missed_some : Falls w (world_step j w (DeliverFromClient c))
  missed_some = letter_less_falls j w joint old fenced c (Missing k x d) ms e there threads less.copies less fewer costs

pub client_missing_falls : (j : Job) (w : World) (joint : IsJoint j w) (old : AreOld w) (fenced : AreFenced w.sched) (c k x d : ℕ) (ms : List ClientMessage) (e : w.from_client c ≡ Missing k x d ∷ ms) (there : is_client w c ≡ true)
    → Falls w (world_step j w (DeliverFromClient c))
client_missing_falls j w joint old fenced c k x d ms e there = pick (is_current w.sched x k d) refl
  where
    pick : (b : Bool) → is_current w.sched x k d ≡ b → Falls w (world_step j w (DeliverFromClient c))
    pick true q = missed_some j w joint old fenced c k x d ms e there q
    pick false q = missed_none j w joint old fenced c k x d ms e there q
