-- What each client waits for is known to it or on its way, after every event of the world.
use Rattle.std.proofs.Common.{◌≡◌, ℕ, ◌+◌, Bool, true, false, cond, not, ◌&&◌, ◌||◌, List, [], ◌∷◌, Option, Some, None, refl, sym, ap, ◌∙◌, subst, inl, inr, ⊎_elim}
use Rattle.std.proofs.lemmas.Bool.{false≢true, eqb-true, eq-eqb}
use Rattle.std.proofs.Math.Dec.{eqb}
use Rattle.cluster_msgs.specs.declared.messages.Up.TheVariants.{TaskFinished, MissingData, StealResponse}
use Rattle.cluster_rules.specs.Functions.{put}
use Rattle.cluster_rules.specs.Derived.{is_in}
use Rattle.cluster_rules.specs.Worker.{Ask as OpenAsk, ask_to, without_ask}
use Rattle.cluster_msgs.specs.declared.messages.Up.{Up}
use Rattle.cluster_msgs.specs.declared.messages.FromClient.{FromClient as ClientMessage}
use Rattle.cluster_msgs.specs.declared.cores.SchedEvent.{SchedEvent}
use Rattle.cluster_msgs.specs.declared.cores.SchedEvent.TheVariants.{Join as JoinSched, Leave, FromWorker, FromClient, Balance as BalanceSched, Evict as EvictSched, Replicate as ReplicateSched}
use Rattle.cluster_rules.specs.World.{World}
use Rattle.std.specs.Prelude.{nat_le}
use Rattle.std.proofs.lemmas.Bool.{and_parts}
use Rattle.std.specs.List.{list_any}
use Rattle.std.specs.Prelude.{nat_lt}
use Rattle.cluster_msgs.specs.declared.cores.Steal.{Steal}
use Rattle.cluster_msgs.specs.declared.messages.FromClient.TheVariants.{Want as WantMessage, Release as ReleaseMessage, Missing as MissingMessage}
use Rattle.cluster_msgs.specs.declared.messages.Up.TheVariants.{TaskErred, AddKeys, ReleaseWorkerData, RequestRefreshWhoHas}
use Rattle.cluster_rules.specs.Functions.{put_pair}
use Rattle.cluster_rules.specs.Sched.{Facts, held}
use Rattle.cluster_rules.specs.Policies.{next_steal, next_drop}
use Rattle.cluster_rules.specs.SchedTable.{Changed, plain, change, change_up, change_client, add_keys, is_copy, lost_copy, balanced, evicted}
use Rattle.cluster_rules.specs.SchedStep.{sched_step, settle}
use Rattle.cluster_rules.specs.Worker.{with_ask}
use Rattle.cluster_rules.proofs.SchedFrame.{step_settles}
use Rattle.std.proofs.lemmas.Bool.{or_cases}
use Rattle.std.proofs.Math.Bool.{or-false, and-true}
use Rattle.small_facts.proofs.Numbers.{eqb_turned}
use Rattle.small_facts.proofs.Options.{some_not_none}
use Rattle.small_facts.proofs.Truth.{or_without}
use Rattle.cluster_rules.specs.Sched.{holds, connected, is_on}
use Rattle.cluster_rules.specs.SchedTable.{wants_more, wants_less}
use Rattle.safety_laws.specs.Lively.{wants_then, wants_at_last, names_want, misses}
use Rattle.safety_laws.proofs.Served.{IsTurn}
use Rattle.safety_laws.proofs.Waiting.{AreDistinct}
use Rattle.cluster_rules.specs.SchedTable.{joined, left, is_this, is_asked_back, finished, failed, add_key, released, stolen_to, refused, answered}

-- ## Who is asked

pub distinct_with : (a : OpenAsk) (qs : List OpenAsk) → ask_to qs a.peer ≡ None → AreDistinct qs → AreDistinct (with_ask a qs)
distinct_with a [] n d = (refl, tt)
distinct_with a (q ∷ qs) n d = pick (nat_lt a.peer q.peer) (eqb q.peer a.peer) refl n (λ m. distinct_with a qs m d.1)
  where
    other : (p : ℕ) (xs : List OpenAsk) → eqb a.peer p ≡ false → ask_to xs p ≡ None → ask_to (with_ask a xs) p ≡ None
    other p [] e m = ap (λ b. cond b (Some a) None) e
    other p (x ∷ xs) e m = by (nat_lt a.peer x.peer) (eqb x.peer p) refl m (λ r. other p xs e r)
      where
        by : (b c : Bool) → eqb x.peer p ≡ c → cond c (Some x) (ask_to xs p) ≡ None → (ask_to xs p ≡ None → ask_to (with_ask a xs) p ≡ None) → ask_to (cond b (a ∷ x ∷ xs) (x ∷ with_ask a xs)) p ≡ None
        by b true i m rest = absurd (some_not_none x m)
        by true false i m rest = ap (λ u. cond u (Some a) (cond (eqb x.peer p) (Some x) (ask_to xs p))) e ∙ ap (λ u. cond u (Some x) (ask_to xs p)) i ∙ m
        by false false i m rest = ap (λ u. cond u (Some x) (ask_to (with_ask a xs) p)) i ∙ rest m

    pick : (b c : Bool) → eqb q.peer a.peer ≡ c → cond c (Some q) (ask_to qs a.peer) ≡ None → (ask_to qs a.peer ≡ None → AreDistinct (with_ask a qs)) → AreDistinct (cond b (a ∷ q ∷ qs) (q ∷ with_ask a qs))
    pick b true e m rest = absurd (some_not_none q m)
    pick true false e m rest = (ap (λ u. cond u (Some q) (ask_to qs a.peer)) e ∙ m, d)
    pick false false e m rest = (other q.peer qs (eqb_turned a.peer q.peer ∙ e) d.0, rest m)

pub distinct_without : (p : ℕ) (qs : List OpenAsk) → AreDistinct qs → AreDistinct (without_ask qs p)
distinct_without p [] d = tt
distinct_without p (q ∷ qs) d = pick (eqb q.peer p) (distinct_without p qs d.1)
  where
    still : (n : ℕ) (xs : List OpenAsk) → ask_to xs n ≡ None → ask_to (without_ask xs p) n ≡ None
    still n [] e = refl
    still n (x ∷ xs) e = by (eqb x.peer p) (eqb x.peer n) refl e (λ r. still n xs r)
      where
        by : (b c : Bool) → eqb x.peer n ≡ c → cond c (Some x) (ask_to xs n) ≡ None → (ask_to xs n ≡ None → ask_to (without_ask xs p) n ≡ None) → ask_to (cond (not b) (x ∷ without_ask xs p) (without_ask xs p)) n ≡ None
        by b true i m rest = absurd (some_not_none x m)
        by true false i m rest = rest m
        by false false i m rest = ap (λ u. cond u (Some x) (ask_to (without_ask xs p) n)) i ∙ rest m

    pick : (b : Bool) → AreDistinct (without_ask qs p) → AreDistinct (cond (not b) (q ∷ without_ask qs p) (without_ask qs p))
    pick true r = r
    pick false r = (still q.peer qs d.0, r)

pub distinct_same : (xs ys : List OpenAsk) → ys ≡ xs → AreDistinct xs → AreDistinct ys
distinct_same xs ys e d = subst AreDistinct (sym e) d

-- ## The wants of an event

want_where : (f g : Facts) (b : Bool) → g.want ≡ f.want → (cond b g f).want ≡ f.want
want_where f g true e = e
want_where f g false e = refl

want_stolen : (f : Facts) (q : ℕ) (o : Option (ℕ × Bool)) → (stolen_to f q o).want ≡ f.want
want_stolen f q None = refl
want_stolen f q (Some p) = pick (connected f p.0)
  where
    pick : (c : Bool) → (cond c (record f { on = put f.on q (Some (p.0, f.counter)); steal = put f.steal q None; counter = f.counter + 1 }) (record f { on = put f.on q None; steal = put f.steal q None })).want ≡ f.want
    pick true = refl
    pick false = refl

want_add : (w seen : ℕ) (g : Changed) (k : ℕ) → (add_key w seen g k).facts.want ≡ g.facts.want
want_add w seen g k = pick (nat_le (g.facts.fence w k) seen) (holds g.facts w k) (held g.facts k) (is_on g.facts w k)
  where
    pick : (a b c d : Bool) → (cond a (cond b g (cond c (record g { facts = record g.facts { has = put_pair g.facts.has w k (Some g.facts.counter); counter = g.facts.counter + 1 } }) (cond d g (record g { freed = put_pair g.freed w k true })))) g).facts.want ≡ g.facts.want
    pick true true c d = refl
    pick true false true d = refl
    pick true false false true = refl
    pick true false false false = refl
    pick false b c d = refl

want_adds : (w seen : ℕ) (g : Changed) (ks : List ℕ) → (add_keys w seen g ks).facts.want ≡ g.facts.want
want_adds w seen g [] = refl
want_adds w seen g (k ∷ ks) = want_adds w seen (add_key w seen g k) ks ∙ want_add w seen g k

want_lost : (f : Facts) (x k c : ℕ) → (lost_copy f x k c).facts.want ≡ f.want
unfolding lost_copy
want_lost f x k c = pick (is_copy c (f.has x k))
  where
    pick : (b : Bool) → (cond b (record (plain (record f { has = put_pair f.has x k None })) { freed = put_pair (λ w j. false) x k true }) (plain f)).facts.want ≡ f.want
    pick true = refl
    pick false = refl

want_up : (f : Facts) (w : ℕ) (m : Up) → (change_up f w m).facts.want ≡ f.want
unfolding finished failed released answered
want_up f w (TaskFinished seen q a) = want_where f (record f { on = put f.on q None; steal = put f.steal q None; has = put_pair f.has w q (Some f.counter); counter = f.counter + 1; finishes = f.finishes + 1 }) (is_this w a (f.on q)) refl
want_up f w (TaskErred seen q a) = want_where f (record f { on = put f.on q None; steal = put f.steal q None; bad = put f.bad q true }) (is_this w a (f.on q)) refl
want_up f w (AddKeys seen ks) = want_adds w seen (plain f) ks
want_up f w (ReleaseWorkerData seen q) = want_where f (record f { has = put_pair f.has w q None }) (nat_le (f.fence w q) seen) refl
want_up f w (MissingData seen q x c) = want_lost f x q c
want_up f w (RequestRefreshWhoHas seen q) = refl
want_up f w (StealResponse seen q a true) = want_where f (stolen_to f q (f.steal q)) (is_this w a (f.on q) && is_asked_back (f.steal q)) (want_stolen f q (f.steal q))
want_up f w (StealResponse seen q a false) = want_where f (record f { steal = put f.steal q (refused (f.steal q)) }) (is_this w a (f.on q) && is_asked_back (f.steal q)) refl

want_balanced : (f : Facts) (o : Option Steal) → (balanced f o).facts.want ≡ f.want
want_balanced f None = refl
want_balanced f (Some c) = refl

want_evicted : (f : Facts) (o : Option (ℕ × ℕ)) → (evicted f o).facts.want ≡ f.want
want_evicted f None = refl
want_evicted f (Some p) = refl

abbrev pub NoLetter : SchedEvent → Type 0
NoLetter (FromClient c m) = ⊥
NoLetter s = Unit {0}

pub want_change : (f : Facts) (s : SchedEvent) → NoLetter s → (change f s).facts.want ≡ f.want
unfolding joined left
want_change f (JoinSched threads) o = refl
want_change f (Leave v) o = refl
want_change f (FromWorker v m) o = want_up f v m
want_change f (FromClient c m) o = absurd o
want_change f BalanceSched o = want_balanced f (next_steal f)
want_change f EvictSched o = want_evicted f (next_drop f)
want_change f (ReplicateSched k i) o = refl

pub turn_quiet : (w v : World) (s : SchedEvent) (c k : ℕ) → NoLetter s → v.from_client c ≡ w.from_client c → IsTurn w v s c k
turn_quiet w v s c k o from = record {
  want = ap (λ b. wants_at_last k (w.from_client c) b) (sym same) ∙ ap (λ l. wants_at_last k l ((sched_step w.sched s).facts.want c k)) (sym from);
  grown = λ e a. sym same ∙ e;
  names = λ n a. ap (list_any (names_want k)) (sym from) ∙ n;
  misses = λ m. inl (ap (list_any (misses k)) from ∙ m);
}
  where
    same : (sched_step w.sched s).facts.want c k ≡ w.sched.want c k
    same = ap (λ (x : ℕ → ℕ → Bool). x c k) ((step_settles w.sched s).want ∙ want_change w.sched s o)

-- a client's message
pub letter_want : (f : Facts) (x : ℕ) (m : ClientMessage) (k : ℕ) → (change_client f x m).facts.want x k ≡ wants_then k m (f.want x k)
unfolding wants_more wants_less
letter_want f x (WantMessage ks) k = ap (λ b. f.want x k || (b && is_in k ks)) (eq-eqb x x refl)
letter_want f x (ReleaseMessage ks) k = ap (λ b. f.want x k && not (b && is_in k ks)) (eq-eqb x x refl)
letter_want f x (MissingMessage q p n) k = ap (λ (y : ℕ → ℕ → Bool). y x k) (want_lost f p q n)

pub other_want : (f : Facts) (x : ℕ) (m : ClientMessage) (c k : ℕ) → eqb c x ≡ false → (change_client f x m).facts.want c k ≡ f.want c k
unfolding wants_more wants_less
other_want f x (WantMessage ks) c k e = ap (λ b. f.want c k || (b && is_in k ks)) e ∙ or-false (f.want c k)
other_want f x (ReleaseMessage ks) c k e = ap (λ b. f.want c k && not (b && is_in k ks)) e ∙ and-true (f.want c k)
other_want f x (MissingMessage q p n) c k e = ap (λ (y : ℕ → ℕ → Bool). y c k) (want_lost f p q n)

asked_names : (f : Facts) (x : ℕ) (m : ClientMessage) (k : ℕ) → (change_client f x m).asked k ≡ false → names_want k m ≡ false
asked_names f x (WantMessage ks) k e = e
asked_names f x (ReleaseMessage ks) k e = refl
asked_names f x (MissingMessage q p n) k e = refl

then_grown : (k : ℕ) (m : ClientMessage) (b : Bool) → wants_then k m b ≡ true → names_want k m ≡ false → b ≡ true
then_grown k (WantMessage ks) b e n = or_without b (is_in k ks) e n
then_grown k (ReleaseMessage ks) b e n = (and_parts b (not (is_in k ks)) e).0
then_grown k (MissingMessage q p c) b e n = e

missed_reply : (f : Facts) (x : ℕ) (m : ClientMessage) (k : ℕ) → misses k m ≡ true → (change_client f x m).reply ≡ Some (x, k)
missed_reply f x (MissingMessage q p n) k e = ap (λ y. Some (x, y)) (eqb-true q k e)
missed_reply f x (WantMessage ks) k e = absurd (false≢true e)
missed_reply f x (ReleaseMessage ks) k e = absurd (false≢true e)

pub turn_letter : (w : World) (x : ℕ) (m : ClientMessage) (ms : List ClientMessage) (c k : ℕ) → w.from_client x ≡ m ∷ ms → IsTurn w (record w { from_client = put w.from_client x ms }) (FromClient x m) c k
unfolding settle
turn_letter w x m ms c k e = pick (eqb c x) refl
  where
    step_want : (sched_step w.sched (FromClient x m)).facts.want c k ≡ (change_client w.sched x m).facts.want c k
    step_want = ap (λ (y : ℕ → ℕ → Bool). y c k) (step_settles w.sched (FromClient x m)).want

    own : c ≡ x → IsTurn w (record w { from_client = put w.from_client x ms }) (FromClient x m) c k
    own s = record {
      want = ap (λ l. wants_at_last k l (w.sched.want c k)) from ∙ ap (wants_at_last k ms) (sym now) ∙ ap (λ l. wants_at_last k l ((sched_step w.sched (FromClient x m)).facts.want c k)) (sym popped);
      grown = λ t a. then_grown k m (w.sched.want c k) (sym now ∙ t) (asked_names w.sched x m k a);
      names = λ n a. ap (list_any (names_want k)) from ∙ ap (λ b. b || list_any (names_want k) ms) (asked_names w.sched x m k a) ∙ ap (list_any (names_want k)) (sym popped) ∙ n;
      misses = λ t. ⊎_elim (λ y. inr (missed_reply w.sched x m k y ∙ ap (λ z. Some (z, k)) (sym s))) (λ y. inl (ap (list_any (misses k)) popped ∙ y)) (or_cases (misses k m) (list_any (misses k) ms) (sym (ap (list_any (misses k)) from) ∙ t));
    }
      where
        from : w.from_client c ≡ m ∷ ms
        from = ap w.from_client s ∙ e

        popped : put w.from_client x ms c ≡ ms
        popped = ap (λ b. cond b ms (w.from_client c)) (eq-eqb c x s)

        now : (sched_step w.sched (FromClient x m)).facts.want c k ≡ wants_then k m (w.sched.want c k)
        now = step_want ∙ subst (λ y. (change_client w.sched x m).facts.want y k ≡ wants_then k m (w.sched.want y k)) (sym s) (letter_want w.sched x m k)

    other : eqb c x ≡ false → IsTurn w (record w { from_client = put w.from_client x ms }) (FromClient x m) c k
    other s = record {
      want = ap (wants_at_last k (w.from_client c)) (sym now) ∙ ap (λ l. wants_at_last k l ((sched_step w.sched (FromClient x m)).facts.want c k)) (sym stays);
      grown = λ t a. sym now ∙ t;
      names = λ n a. ap (list_any (names_want k)) (sym stays) ∙ n;
      misses = λ t. inl (ap (list_any (misses k)) stays ∙ t);
    }
      where
        stays : put w.from_client x ms c ≡ w.from_client c
        stays = ap (λ b. cond b ms (w.from_client c)) s

        now : (sched_step w.sched (FromClient x m)).facts.want c k ≡ w.sched.want c k
        now = step_want ∙ other_want w.sched x m c k s

    pick : (b : Bool) → eqb c x ≡ b → IsTurn w (record w { from_client = put w.from_client x ms }) (FromClient x m) c k
    pick true s = own (eqb-true c x s)
    pick false s = other s
