-- The course of one event, put together.
use Rattle.std.proofs.Common.{◌≡◌, ℕ, ◌+◌, ◌*◌, ◌^◌, ◌<◌, ◌≤◌, Bool, true, false, not, ◌&&◌, ◌||◌, List, [], ◌∷◌, ◌++◌, Option, Some, None, ltb, refl, sym, ap, ◌∙◌, subst, arith, length}
use Rattle.std.specs.List.{All, AllByRecursion, cons_option, flat_map}
use Rattle.std.proofs.lemmas.List.Elements.{All-from_recursion}
use Rattle.std.proofs.lemmas.Nat.{mul-le}
use Rattle.std.proofs.lemmas.Bool.{ltb-true, ltb-false, lt-leb}
use Rattle.cluster_msgs.specs.declared.messages.Down.{Down}
use Rattle.cluster_msgs.specs.declared.cores.SchedEvent.{SchedEvent}
use Rattle.cluster_msgs.specs.declared.cores.Outbox.{Outbox}
use Rattle.cluster_rules.specs.Functions.{put}
use Rattle.cluster_rules.specs.Derived.{below}
use Rattle.cluster_rules.proofs.SchedFrame.{placing_keys}
use Rattle.cluster_rules.specs.Sched.{Setting, Facts, IsSound, keys, workers, held, erred}
use Rattle.cluster_rules.specs.SchedTable.{Changed, ask_message, change, sched_takes}
use Rattle.cluster_rules.specs.SchedStep.{drop_bad, drop_has, drop_on, place_all, settle, finish_step, sched_step, down_messages}
use Rattle.cluster_laws.specs.Settled.{IsSettled}
use Rattle.sched_changes.specs.declared.answer.Answer.{Answer}
use Rattle.sched_changes.specs.declared.answer.Answer.TheVariants.{Nothing, Refresh, AskBack, Remove, Acquire}
use Rattle.sched_changes.specs.Answers.{answer_of}
use Rattle.scheduler_core.specs.Mail.{worker_mail, is_since}
use Rattle.scheduler_core.specs.Posted.{posted_mail, taken_keys}
use Rattle.scheduler_core.proofs.SentLemmas.{AnswersKey, sent_to_workers, taken_are_keys, few_in_all}
use Rattle.scheduler_core.specs.Settling.{let_go, goes}
use Rattle.sched_changes.specs.Effects.{answer_by, asked_in, asked_list, changed_by, IsAnswer}
use Rattle.sched_changes.specs.Follows.{Follows, AreTouched}
use Rattle.sched_changes.specs.Pairs.{has_pair}
use Rattle.sched_changes.proofs.Following.{follows_then}
use Rattle.cluster_rules.proofs.SchedLemmas.{held-past, erred-past}
use Rattle.key_sets.specs.Sets.{has}
use Rattle.sched_facts.specs.Kept.{IsFresh}
use Rattle.task_table.specs.Tasks.{Tasks, facts, IsRemembered}
use Rattle.scheduler_core.specs.News.{client_mail, reply_of, was_held, was_erred}
use Rattle.scheduler_core.proofs.AskedLemmas.{asked_same}
use Rattle.scheduler_core.specs.Sent.{sent_by}
use Rattle.scheduler_core.specs.Courses.{IsCourse, IsCourseOf, told_by}
use Rattle.scheduler_core.specs.declared.event.Course.{Course}
use Rattle.scheduler_core.proofs.Staying.{place_stays}
use Rattle.scheduler_core.proofs.Messages.{down_same, clients_same, replies_same, posted_same}
use Rattle.scheduler_core.proofs.Counting.{counted_change, counted_settled}

-- of keys that are not there nothing is held
among : (n : ℕ) (row p : ℕ → Bool) → ((k : ℕ) → k < n → row k ≡ p k) → ((k : ℕ) → n ≤ k → p k ≡ false) → (k : ℕ) → (ltb k n && row k) ≡ p k
among n row p h past k = pick (ltb k n) refl
  where
    pick : (b : Bool) → ltb k n ≡ b → (b && row k) ≡ p k
    pick true e = h k (ltb-true k n e)
    pick false e = sym (past k (ltb-false k n e))

-- what was so before the event is what the table remembers
was_so : (s t : Tasks) (e : SchedEvent) (g : Changed) (row : List ℕ) (asked : List ℕ) (p : ℕ → Bool) → Follows s t → g.asked ≡ asked_in e → ((k : ℕ) → has asked k ≡ asked_in e k) → ((k : ℕ) → k < keys (facts s) → has row k ≡ p k) → ((k : ℕ) → keys (facts s) ≤ k → p k ≡ false)
    → ◌≡◌ {A = ℕ → Bool} (λ k. (ltb k (keys (facts t)) && has row k) && not (has asked k)) (λ k. p k && not (g.asked k))
was_so s t e g row asked p v q a h past = λ i k. at k i
  where
    at : (k : ℕ) → ((ltb k (keys (facts t)) && has row k) && not (has asked k)) ≡ (p k && not (g.asked k))
    at k = ap (λ (c : Setting). (ltb k (length c.shape.deps) && has row k) && not (has asked k)) v.setting
        ∙ ap (λ b. b && not (has asked k)) (among (keys (facts s)) (has row) p h past k)
        ∙ ap (λ b. p k && not b) (a k ∙ ap (λ (z : ℕ → Bool). z k) (sym q))

not_since : (since : ℕ) (o : Option (ℕ × ℕ)) → ((w a : ℕ) → o ≡ Some (w, a) → a < since) → is_since since o ≡ false
not_since since None h = refl
not_since since (Some p) h = lt-leb since p.1 (h p.0 p.1 refl)

-- the tables of one event: before it, after its own change, after what was to go went, and after ready keys were placed
pub record IsPassage (s a b t : Tasks) (e : SchedEvent) (ps : List (ℕ × ℕ)) (c : Course) : Type 0 where
  pub changed : changed_by (facts s) (facts a) ps c.effect (asked_in e) ≡ change (facts s) e
  pub is_answer : IsAnswer (facts s) (facts a) c.effect.answer
  pub named : AreTouched a (asked_list e)
  pub first : Follows s a
  pub went : facts b ≡ let_go (facts a)
  pub lost : (w k : ℕ) → has_pair c.lost w k ≡ (has_pair ps w k || goes (facts a) w k)
  pub second : Follows a b
  pub placed : facts t ≡ place_all (facts b)
  pub third : Follows b t
  pub since : c.since ≡ (facts s).counter
  pub asked : (k : ℕ) → has c.asked k ≡ asked_in e k

pub all_follow : (s a b t : Tasks) (e : SchedEvent) (ps : List (ℕ × ℕ)) (c : Course) → IsPassage s a b t e ps c → Follows s t
all_follow s a b t e ps c x = follows_then s a t x.first (follows_then a b t x.second x.third)

-- the parts of an event are its course
pub course_is : (s a b t : Tasks) (e : SchedEvent) (ps : List (ℕ × ℕ)) (c : Course) → IsSound (facts s) → IsFresh (facts s) → IsRemembered (facts s) s → ((k : ℕ) → has s.touched k ≡ false) → IsPassage s a b t e ps c → IsCourse s e t c
unfolding settle let_go
course_is s a b t e ps c sound fresh r u x =
    let f = facts s in
    let g = change f e in
    let v = all_follow s a b t e ps c x in
    let q = sym (ap (λ (z : Changed). z.asked) x.changed) in
    record {
      placed = x.placed ∙ ap place_all x.went ∙ ap (λ (z : Changed). place_all (let_go z.facts)) x.changed;
      course = record {
        since = x.since;
        lost = λ w k. x.lost w k ∙ ap (λ (z : Changed). z.freed w k || goes z.facts w k) x.changed;
        answer = sym (ap (λ (z : Changed). z.answer) x.changed);
        is_answer = subst (λ (z : Changed). IsAnswer f z.facts c.effect.answer) x.changed x.is_answer;
        reply = sym (ap (λ (z : Changed). z.reply) x.changed);
        joined = sym (ap (λ (z : Changed). z.joined) x.changed);
        held = was_so s t e g t.held_before c.asked (held f) v q x.asked (λ k l. ap (λ (z : List ℕ). has z k) v.touched.held ∙ r.held k l (u k)) (held-past f sound);
        erred = was_so s t e g t.erred_before c.asked (erred f) v q x.asked (λ k l. ap (λ (z : List ℕ). has z k) v.touched.erred ∙ r.erred k l (u k)) (erred-past f sound);
      };
      calm = record {
        asked = λ k h. x.third.touched.grows k (x.second.touched.grows k (x.named k (asked_same e k ∙ sym (x.asked k) ∙ h)));
        given = λ k l h.
            let same = v.touched.kept k (subst (λ (z : Setting). k < length z.shape.deps) v.setting l) h in
            ap (is_since c.since) same.on ∙ not_since c.since (f.on k) (λ w n o. subst (λ z. n < z) (sym x.since) (fresh.attempts k w n o));
      };
    }

-- a key that is asked back is still where it was
answer_at : (f : Facts) (e : SchedEvent) → IsSettled f → (a : Answer) → IsAnswer f (change f e).facts a → (w : ℕ) → answer_of a (settle f (change f e)).placed w ≡ answer_by f a (settle f (change f e)).placed w
unfolding settle let_go
answer_at f e v Nothing m w = refl
answer_at f e v (Refresh u k) m w = refl
answer_at f e v (AskBack k) m w =
    let same : (settle f (change f e)).placed.on k ≡ f.on k = ap (λ (z : Facts). (place_all (let_go z)).on k) m.facts ∙ place_stays f k (put f.steal k m.steal) v m.placed in
    ap (λ (o : Option (ℕ × ℕ)). ask_message k o w) same
answer_at f e v (Remove u k) m w = refl
answer_at f e v (Acquire u k) m w = refl

-- the setting stays
pub setting_settled : (f : Facts) (e : SchedEvent) → sched_takes f e ≡ true → (settle f (change f e)).placed.setting ≡ f.setting
setting_settled f e h = (counted_settled f (change f e) (counted_change f e h)).setting

pub sent_settled : (f : Facts) (e : SchedEvent) → sched_takes f e ≡ true → (settle f (change f e)).placed.sent ≡ f.sent
sent_settled f e h = (counted_settled f (change f e) (counted_change f e h)).sent

-- what is told is what the step sends
abbrev told_from : Facts → (ℕ → Bool) → (ℕ → Bool) → Course → Outbox
told_from g wh we c =
    let ms = client_mail g wh we in
    record {
      down = flat_map (worker_mail g c.lost c.since c.effect.answer) (workers g);
      clients = ms ++ reply_of g ms c.effect.reply;
      joined = cons_option c.effect.joined [];
    }

told_placed : (f : Facts) (e : SchedEvent) (t : Tasks) (c : Course) → sched_takes f e ≡ true → IsSettled f → IsCourseOf (settle f (change f e)) t c → told_from (settle f (change f e)).placed (was_held t c.asked) (was_erred t c.asked) c ≡ sent_by (finish_step (settle f (change f e)))
unfolding finish_step settle
told_placed f e t c h v x =
    let z = settle f (change f e) in
    let n : z.placed.setting ≡ f.setting = setting_settled f e h in
    let a : (w : ℕ) → answer_of c.effect.answer z.placed w ≡ z.changed.answer z.placed w = λ w. answer_at f e v c.effect.answer x.is_answer w ∙ sym (ap (λ (y : Facts → ℕ → List Down). y z.placed w) x.answer) in
    let d = down_same z c.lost c.since c.effect.answer x.lost x.since a n in
    let m = clients_same z _ _ x.held x.erred n in
    let r = replies_same z _ c.effect.reply m x.reply in
    let j = sym x.joined in
    λ i. record { down = d i; clients = r i; joined = j i }

-- the same by the table as the event left it
pub told_is : (s : Tasks) (e : SchedEvent) (t : Tasks) (c : Course) → sched_takes (facts s) e ≡ true → IsSettled (facts s) → IsCourse s e t c → told_by t c ≡ sent_by (sched_step (facts s) e)
unfolding sched_step
told_is s e t c h v x = ap (λ (z : Facts). told_from z (was_held t c.asked) (was_erred t c.asked) c) x.placed ∙ told_placed (facts s) e t c h v x.course

-- what `post_all` asks of what is told
answers_key : (f g p : Facts) (a : Answer) → IsAnswer f g a → p.setting ≡ f.setting → AnswersKey (keys p) a
answers_key f g p Nothing m e = tt
answers_key f g p (Refresh w k) m e = tt
answers_key f g p (AskBack k) m e = tt
answers_key f g p (Acquire w k) m e = tt
answers_key f g p (Remove w k) m e = subst (λ (z : Setting). k < length z.shape.deps) (sym e) m

few_told : (m n l : ℕ) → m ≤ 64 → n ≤ 32768 → l ≤ m * (n + 2) → l ≤ 3 * 2 ^ 20
few_told m n l a b c = let p : m * (n + 2) ≤ 64 * 32770 = mul-le m (n + 2) 64 32770 a (omega arith) in omega arith

pub record IsPostable (p : Facts) (ms : List (ℕ × Down)) : Type 0 where
  pub to : All (λ (m : ℕ × Down). m.0 ≤ p.last_worker) ms
  pub takes : All (λ (m : ℕ × Down). All (λ k. k < keys p) (taken_keys m.1)) ms
  pub few : length ms ≤ 3 * 2 ^ 20

all_in_all : (n : ℕ) (ms : List (ℕ × Down)) → AllByRecursion (λ (m : ℕ × Down). AllByRecursion (λ k. k < n) (taken_keys m.1)) ms → AllByRecursion (λ (m : ℕ × Down). All (λ k. k < n) (taken_keys m.1)) ms
all_in_all n [] h = tt
all_in_all n (m ∷ ms) h = (All-from_recursion (λ k. k < n) (taken_keys m.1) h.0, all_in_all n ms h.1)

pub postable : (f g : Facts) (t : Tasks) (c : Course) → IsSound (facts t) → IsAnswer f g c.effect.answer → (facts t).setting ≡ f.setting → IsPostable (facts t) (told_by t c).down
postable f g t c s m e =
    let p = facts t in
    let a = answers_key f g p c.effect.answer m e in
    let ms = (told_by t c).down in
    record {
      to = All-from_recursion (λ (m : ℕ × Down). m.0 ≤ p.last_worker) ms (sent_to_workers p c.lost c.since c.effect.answer a);
      takes = All-from_recursion (λ (m : ℕ × Down). All (λ k. k < keys p) (taken_keys m.1)) ms (all_in_all (keys p) ms (taken_are_keys p c.lost c.since c.effect.answer a));
      few = few_told (length (workers p)) (keys p) (length ms) s.few_workers s.shape.few (few_in_all p c.lost c.since c.effect.answer);
    }

-- there is room to place what is ready
pub room_placed : (f : Facts) (e : SchedEvent) (h : Facts) → sched_takes f e ≡ true → h ≡ let_go (change f e).facts → f.counter + 2 * keys f < 2 ^ 62 → h.counter + keys h < 2 ^ 62
unfolding let_go drop_bad drop_has drop_on
room_placed f e h t q r =
    let c = counted_change f e t in
    sum h.counter (change f e).facts.counter f.counter (keys h) (keys (change f e).facts) (keys f) (ap (λ (z : Facts). z.counter) q) (ap (λ (z : Facts). keys z) q) (ap (λ (z : Setting). length z.shape.deps) c.setting) c.counter r
  where
    sum : (a b d l m n : ℕ) → a ≡ b → l ≡ m → m ≡ n → b ≤ d + n → d + 2 * n < 2 ^ 62 → a + l < 2 ^ 62
    sum a b d l m n i j k o r = omega arith

pub setting_placed : (f : Facts) → (place_all f).setting ≡ f.setting
unfolding place_all
setting_placed f = (placing_keys f (below (keys f))).setting

-- the facts after what was told is posted
pub facts_posted : (s : Tasks) (e : SchedEvent) (t : Tasks) (c : Course) (ms : List (ℕ × Down)) → sched_takes (facts s) e ≡ true → IsSettled (facts s) → IsCourse s e t c → ms ≡ (told_by t c).down → posted_mail (facts t) ms ≡ (sched_step (facts s) e).facts
unfolding sched_step finish_step
facts_posted s e t c ms h v x m =
    let z = settle (facts s) (change (facts s) e) in
    ap (posted_mail (facts t)) (m ∙ ap (λ (o : Outbox). o.down) (told_is s e t c h v x))
    ∙ ap (λ (y : Facts). posted_mail y (down_messages z)) x.placed
    ∙ posted_same z (down_messages z)

-- there is room to post it
pub sent_before : (s : Tasks) (e : SchedEvent) (t : Tasks) (c : Course) (ms : List (ℕ × Down)) (w : ℕ) → sched_takes (facts s) e ≡ true → IsCourse s e t c → ms ≡ (told_by t c).down → length (told_by t c).down ≤ 3 * 2 ^ 20 → (facts s).sent w + 3 * 2 ^ 20 < 2 ^ 62 → (facts t).sent w + length ms < 2 ^ 62
sent_before s e t c ms w h x m l r =
    sum ((facts t).sent w) ((facts s).sent w) (length ms) (length (told_by t c).down) (ap (λ (z : Facts). z.sent w) x.placed ∙ ap (λ (y : ℕ → ℕ). y w) (sent_settled (facts s) e h)) (ap length m) l r
  where
    sum : (a b k l : ℕ) → a ≡ b → k ≡ l → l ≤ 3 * 2 ^ 20 → b + 3 * 2 ^ 20 < 2 ^ 62 → a + k < 2 ^ 62
    sum a b k l h i j q = omega arith

-- what is told can be posted
pub postable_by : (s : Tasks) (e : SchedEvent) (t : Tasks) (c : Course) → IsSound (facts t) → IsCourse s e t c → (facts t).setting ≡ (facts s).setting → IsPostable (facts t) (told_by t c).down
unfolding settle
postable_by s e t c v x q = postable (facts s) (change (facts s) e).facts t c v x.course.is_answer q
