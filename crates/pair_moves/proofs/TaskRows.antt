-- The rows of a task's end and of the answer to a steal, for each worker and key.
use Rattle.std.proofs.Common.{◌≡◌, ℕ, ◌+◌, Bool, true, false, not, cond, ◌&&◌, Option, Some, None, refl, sym, ap, ◌∙◌, subst, arith, is_some, inl, inr, ◌⊎◌}
use Rattle.std.proofs.lemmas.Bool.{true≢false, false≢true, eqb-true, eq-eqb}
use Rattle.std.proofs.Math.Dec.{eqb}
use Rattle.std.proofs.Math.Bool.{and-false, and-true}
use Rattle.small_facts.proofs.Numbers.{eqb_turned}
use Rattle.small_facts.proofs.Truth.{and_first, and_second}
use Rattle.cluster_rules.specs.Functions.{put, put_pair}
use Rattle.cluster_rules.specs.Sched.{Facts, IsSound, holds, connected, is_for}
use Rattle.cluster_rules.specs.SchedTable.{plain, is_this, is_asked_back, finished, failed, stolen_to, refused, answered}
use Rattle.cluster_laws.specs.Settled.{IsSettled}
use Rattle.pair_machine.specs.Pair.{Report, Finished, Erred, Gave, Declined, Quiet, is_at}
use Rattle.pair_machine.specs.Moves.{counted, still_asked}
use Rattle.pair_moves.specs.Projection.{at_worker, Side, pair_of, IsNumbered}
use Rattle.pair_moves.proofs.Rows.{Moved, Stays, Ended, Stolen, IsPlain, calm_row, quiet_calm, same_moved, not_at, this_is, old_is, old_none, held_none, placed_apart}
use Rattle.pair_moves.proofs.SettleKeeps.{old_at}
use Rattle.cluster_laws.proofs.Errors.{this_is_some}

-- ## A key's place and steal, by row

pub moved_where : (f g : Facts) (k : ℕ) (b : Bool) → IsSettled f → (b ≡ true → Moved f g k) → Moved f (cond b g f) k
moved_where f g k true t h = h refl
moved_where f g k false t h = same_moved f f t k refl refl

pub moved_ended : (f g : Facts) → IsSettled f → (k q : ℕ) → g.on k ≡ put f.on q None k → g.steal k ≡ put f.steal q None k → Moved f g k
moved_ended f g t k q on steal = pick (eqb k q) on steal
  where
    pick : (b : Bool) → g.on k ≡ cond b None (f.on k) → g.steal k ≡ cond b None (f.steal k) → Moved f g k
    pick true o m = Ended o m
    pick false o m = same_moved f g t k o m

moved_stolen : (f : Facts) → IsSettled f → (k q : ℕ) → is_some (f.on q) ≡ true → (o : Option (ℕ × Bool)) → Moved f (stolen_to f q o) k
moved_stolen f t k q was None = same_moved f f t k refl refl
moved_stolen f t k q was (Some p) = by (connected f p.0)
  where
    at : (b : Bool) → eqb k q ≡ b → Moved f (record f { on = put f.on q (Some (p.0, f.counter)); steal = put f.steal q None; counter = f.counter + 1 }) k
    at true e = Stolen p.0 (ap (λ n. is_some (f.on n)) (eqb-true k q e) ∙ was) (ap (λ b. cond b (Some (p.0, f.counter)) (f.on k)) e) (omega arith) (ap (λ b. cond b None (f.steal k)) e)
    at false e = same_moved f _ t k (ap (λ b. cond b (Some (p.0, f.counter)) (f.on k)) e) (ap (λ b. cond b None (f.steal k)) e)

    by : (c : Bool) → Moved f (cond c (record f { on = put f.on q (Some (p.0, f.counter)); steal = put f.steal q None; counter = f.counter + 1 }) (record f { on = put f.on q None; steal = put f.steal q None })) k
    by true = at (eqb k q) refl
    by false = moved_ended f _ t k q refl refl

some_refused : (o : Option (ℕ × Bool)) → is_some (refused o) ≡ is_some o
some_refused None = refl
some_refused (Some p) = refl

moved_refused : (f : Facts) → IsSettled f → (k q : ℕ) → Moved f (record f { steal = put f.steal q (refused (f.steal q)) }) k
moved_refused f t k q = at (eqb k q) refl
  where
    at : (b : Bool) → eqb k q ≡ b → Moved f (record f { steal = put f.steal q (refused (f.steal q)) }) k
    at true e = Stays refl (λ h. t.stolen_are_placed k (ap (λ n. is_some (f.steal n)) (eqb-true k q e) ∙ sym (some_refused (f.steal q)) ∙ sym (ap (λ b. is_some (cond b (refused (f.steal q)) (f.steal k))) e) ∙ h))
    at false e = same_moved f _ t k refl (ap (λ b. cond b (refused (f.steal q)) (f.steal k)) e)

pub moved_finished : (f : Facts) → IsSettled f → (v q a k : ℕ) → Moved f (finished f v q a) k
unfolding finished
moved_finished f t v q a k = moved_where f _ k (is_this v a (f.on q)) t (λ _. moved_ended f _ t k q refl refl)

pub moved_failed : (f : Facts) → IsSettled f → (v q a k : ℕ) → Moved f (failed f v q a) k
unfolding failed
moved_failed f t v q a k = moved_where f _ k (is_this v a (f.on q)) t (λ _. moved_ended f _ t k q refl refl)

pub moved_answered : (f : Facts) → IsSettled f → (v q a : ℕ) (agreed : Bool) (k : ℕ) → Moved f (answered f v q a agreed) k
unfolding answered
moved_answered f t v q a true k = moved_where f _ k (is_this v a (f.on q) && is_asked_back (f.steal q)) t (λ e. moved_stolen f t k q (this_is_some v a (f.on q) (and_first (is_this v a (f.on q)) (is_asked_back (f.steal q)) e)) (f.steal q))
moved_answered f t v q a false k = moved_where f _ k (is_this v a (f.on q) && is_asked_back (f.steal q)) t (λ e. moved_refused f t k q)

-- ## A task's end

-- the pair of the message's own worker and key
ending_own : (f h : Facts) (w k a : ℕ) (s : Side) (r : Report) (after : Bool) → IsSound f → IsSettled f → IsNumbered f → h.on ≡ put f.on k None → h.steal ≡ put f.steal k None → holds h w k ≡ after
    → counted (pair_of f w k s) r ≡ cond {A = Bool × Option ℕ} (is_at a (at_worker w (f.on k))) (after, None) (holds f w k, at_worker w (f.on k))
    → still_asked (pair_of f w k s) r ≡ ((is_some (at_worker w (f.on k)) && is_asked_back (f.steal k)) && not (is_at a (at_worker w (f.on k))))
    → IsPlain f (plain (cond (is_this w a (f.on k)) h f)) w k r s
ending_own f h w k a s r after sound t n on steal has counts asked = pick (is_this w a (f.on k)) (this_is w a (f.on k))
  where
    gone : h.on k ≡ None
    gone = ap (λ (o : ℕ → Option (ℕ × ℕ)). o k) on ∙ ap (λ b. cond b None (f.on k)) (eq-eqb k k refl)

    dropped : h.steal k ≡ None
    dropped = ap (λ (o : ℕ → Option (ℕ × Bool)). o k) steal ∙ ap (λ b. cond b None (f.steal k)) (eq-eqb k k refl)

    pick : (b : Bool) → b ≡ is_at a (at_worker w (f.on k)) → IsPlain f (plain (cond b h f)) w k r s
    pick true e = record {
      moved = Ended gone dropped;
      on = ap (λ (v : Bool × Option ℕ). v.1) (counts ∙ ap (λ b. cond {A = Bool × Option ℕ} b (after, None) (holds f w k, at_worker w (f.on k))) (sym e)) ∙ sym (ap (λ (o : Option (ℕ × ℕ)). at_worker w o) gone) ∙ none gone;
      asked = asked ∙ ap (λ b. (is_some (at_worker w (f.on k)) && is_asked_back (f.steal k)) && not b) (sym e) ∙ and-false (is_some (at_worker w (f.on k)) && is_asked_back (f.steal k)) ∙ sym (unasked gone);
      freed = λ _. refl;
      gone = λ i. absurd (false≢true i);
      alone = λ i. absurd (false≢true (sym (ap (is_for w) gone) ∙ i));
      has = λ _. ap (λ (v : Bool × Option ℕ). v.0) (counts ∙ ap (λ b. cond {A = Bool × Option ℕ} b (after, None) (holds f w k, at_worker w (f.on k))) (sym e)) ∙ sym has;
      silent = λ x. tt;
    }
      where
        none : h.on k ≡ None → at_worker w (h.on k) ≡ old_at f.counter w (h.on k)
        none g = ap (at_worker w) g ∙ sym (ap (old_at f.counter w) g)

        unasked : h.on k ≡ None → (is_some (old_at f.counter w (h.on k)) && is_asked_back (h.steal k)) ≡ false
        unasked g = ap (λ o. is_some (old_at f.counter w o) && is_asked_back (h.steal k)) g
    pick false e = calm_row f (plain f) w k r s sound t n (record {
      moved = same_moved f f t k refl refl;
      place = inl (refl, refl);
      counts = counts ∙ ap (λ b. cond {A = Bool × Option ℕ} b (after, None) (holds f w k, at_worker w (f.on k))) (sym e);
      asked = asked ∙ ap (λ b. (is_some (at_worker w (f.on k)) && is_asked_back (f.steal k)) && not b) (sym e) ∙ and-true (is_some (at_worker w (f.on k)) && is_asked_back (f.steal k));
      has = refl;
      freed = refl;
      silent = λ x. tt;
    })

-- every other pair: another key, or another worker
ending_other : (f h : Facts) (v q a w k : ℕ) (s : Side) → IsSound f → IsSettled f → IsNumbered f → h.on ≡ put f.on q None → h.steal ≡ put f.steal q None → holds h w k ≡ holds f w k → (eqb v w ≡ false) ⊎ (eqb q k ≡ false)
    → IsPlain f (plain (cond (is_this v a (f.on q)) h f)) w k Quiet s
ending_other f h v q a w k s sound t n on steal has other = pick (is_this v a (f.on q)) refl
  where
    same : eqb q k ≡ false → (h.on k ≡ f.on k) × (h.steal k ≡ f.steal k)
    same e = (ap (λ (o : ℕ → Option (ℕ × ℕ)). o k) on ∙ ap (λ b. cond b None (f.on k)) (eqb_turned k q ∙ e), ap (λ (o : ℕ → Option (ℕ × Bool)). o k) steal ∙ ap (λ b. cond b None (f.steal k)) (eqb_turned k q ∙ e))

    place : is_this v a (f.on q) ≡ true → (c : Bool) → eqb q k ≡ c → (eqb v w ≡ false) ⊎ (c ≡ false) → ((h.on k ≡ f.on k) × (h.steal k ≡ f.steal k)) ⊎ (at_worker w (f.on k) ≡ None)
    place i false e o = inl (same e)
    place i true e (inl o) = inr (not_at w v a (f.on k) o (ap (λ n. is_this v a (f.on n)) (sym (eqb-true q k e)) ∙ i))
    place i true e (inr o) = absurd (true≢false o)

    pick : (b : Bool) → is_this v a (f.on q) ≡ b → IsPlain f (plain (cond b h f)) w k Quiet s
    pick true i = calm_row f (plain h) w k Quiet s sound t n (quiet_calm f (plain h) w k s (moved_ended f h t k q (ap (λ (o : ℕ → Option (ℕ × ℕ)). o k) on) (ap (λ (o : ℕ → Option (ℕ × Bool)). o k) steal)) (place i (eqb q k) refl other) has refl (λ x. tt))
    pick false i = calm_row f (plain f) w k Quiet s sound t n (quiet_calm f (plain f) w k s (same_moved f f t k refl refl) (inl (refl, refl)) refl refl (λ x. tt))

-- a test of the message's own worker and key
pub by_own : (P : Report → Type 0) (v q w k : ℕ) (r : Report) → (v ≡ w → q ≡ k → P r) → ((eqb v w ≡ false) ⊎ (eqb q k ≡ false) → P Quiet) → P (cond (eqb v w) (cond (eqb q k) r Quiet) Quiet)
by_own P v q w k r own other = pick (eqb v w) refl (eqb q k) refl
  where
    pick : (b : Bool) → eqb v w ≡ b → (c : Bool) → eqb q k ≡ c → P (cond b (cond c r Quiet) Quiet)
    pick true d true e = own (eqb-true v w d) (eqb-true q k e)
    pick true d false e = other (inr e)
    pick false d c e = other (inl d)

-- a copy at another pair
pub other_pair : (v q w k : ℕ) → (eqb v w ≡ false) ⊎ (eqb q k ≡ false) → (eqb w v && eqb k q) ≡ false
other_pair v q w k (inl e) = ap (λ b. b && eqb k q) (eqb_turned w v ∙ e)
other_pair v q w k (inr e) = ap (λ b. eqb w v && b) (eqb_turned k q ∙ e) ∙ and-false (eqb w v)

pub finished_row : (f : Facts) (v q a w k : ℕ) (s : Side) → IsSound f → IsSettled f → IsNumbered f → IsPlain f (plain (finished f v q a)) w k (cond (eqb v w) (cond (eqb q k) (Finished a) Quiet) Quiet) s
unfolding finished
finished_row f v q a w k s sound t n = by_own (λ r. IsPlain f (plain (cond (is_this v a (f.on q)) (h v q) f)) w k r s) v q w k (Finished a)
    (λ i j. subst (λ x. IsPlain f (plain (cond (is_this x a (f.on q)) (h x q) f)) w k (Finished a) s) (sym i) (subst (λ x. IsPlain f (plain (cond (is_this w a (f.on x)) (h w x) f)) w k (Finished a) s) (sym j)
    (ending_own f (h w k) w k a s (Finished a) true sound t n refl refl (ap (λ b. is_some (cond (b && eqb k k) (Some f.counter) (f.has w k))) (eq-eqb w w refl) ∙ ap (λ b. is_some (cond b (Some f.counter) (f.has w k))) (eq-eqb k k refl)) refl refl)))
    (λ o. ending_other f (h v q) v q a w k s sound t n refl refl (ap (λ b. is_some (cond b (Some f.counter) (f.has w k))) (other_pair v q w k o)) o)
  where
    h : ℕ → ℕ → Facts
    h = λ x y. record f { on = put f.on y None; steal = put f.steal y None; has = put_pair f.has x y (Some f.counter); counter = f.counter + 1; finishes = f.finishes + 1 }

pub failed_row : (f : Facts) (v q a w k : ℕ) (s : Side) → IsSound f → IsSettled f → IsNumbered f → IsPlain f (plain (failed f v q a)) w k (cond (eqb v w) (cond (eqb q k) (Erred a) Quiet) Quiet) s
unfolding failed
failed_row f v q a w k s sound t n = by_own (λ r. IsPlain f (plain (cond (is_this v a (f.on q)) (h v q) f)) w k r s) v q w k (Erred a)
    (λ i j. subst (λ x. IsPlain f (plain (cond (is_this x a (f.on q)) (h x q) f)) w k (Erred a) s) (sym i) (subst (λ x. IsPlain f (plain (cond (is_this w a (f.on x)) (h w x) f)) w k (Erred a) s) (sym j)
    (ending_own f (h w k) w k a s (Erred a) (holds f w k) sound t n refl refl refl refl refl)))
    (λ o. ending_other f (h v q) v q a w k s sound t n refl refl refl o)
  where
    h : ℕ → ℕ → Facts
    h = λ x y. record f { on = put f.on y None; steal = put f.steal y None; bad = put f.bad y true }

-- ## The answer to a steal

-- the scheduler's test of an answer is the pair's
test_is : (w a : ℕ) (o : Option (ℕ × ℕ)) (y : Bool) → (is_this w a o && y) ≡ (is_at a (at_worker w o) && (is_some (at_worker w o) && y))
test_is w a o y = ap (λ b. b && y) (this_is w a o) ∙ here (at_worker w o)
  where
    here : (x : Option ℕ) → (is_at a x && y) ≡ (is_at a x && (is_some x && y))
    here None = refl
    here (Some m) = refl

not_both : (x y : Bool) → (x && y) ≡ false → (y && not x) ≡ y
not_both true true e = absurd (true≢false e)
not_both true false e = refl
not_both false true e = refl
not_both false false e = refl

and_not : (x y : Bool) → x ≡ true → (y && not x) ≡ false
and_not x true e = ap not e
and_not x false e = refl

refused_not : (o : Option (ℕ × Bool)) → is_asked_back (refused o) ≡ false
refused_not None = refl
refused_not (Some p) = refl

-- a yes leaves the worker no place
pub gone_by : (f : Facts) (w k : ℕ) (o : Option (ℕ × Bool)) → is_asked_back o ≡ true → old_at f.counter w ((stolen_to f k o).on k) ≡ None
gone_by f w k None e = absurd (false≢true e)
gone_by f w k (Some p) e = pick (connected f p.0)
  where
    pick : (c : Bool) → old_at f.counter w ((cond c (record f { on = put f.on k (Some (p.0, f.counter)); steal = put f.steal k None; counter = f.counter + 1 }) (record f { on = put f.on k None; steal = put f.steal k None })).on k) ≡ None
    pick true = ap (λ b. old_at f.counter w (cond b (Some (p.0, f.counter)) (f.on k))) (eq-eqb k k refl) ∙ old_none f.counter w p.0
    pick false = ap (λ b. old_at f.counter w (cond b None (f.on k))) (eq-eqb k k refl)

stolen_has : (f : Facts) (q : ℕ) (o : Option (ℕ × Bool)) → (stolen_to f q o).has ≡ f.has
stolen_has f q None = refl
stolen_has f q (Some p) = pick (connected f p.0)
  where
    pick : (c : Bool) → (cond c (record f { on = put f.on q (Some (p.0, f.counter)); steal = put f.steal q None; counter = f.counter + 1 }) (record f { on = put f.on q None; steal = put f.steal q None })).has ≡ f.has
    pick true = refl
    pick false = refl

stolen_other : (f : Facts) (k q : ℕ) (o : Option (ℕ × Bool)) → eqb k q ≡ false → ((stolen_to f q o).on k ≡ f.on k) × ((stolen_to f q o).steal k ≡ f.steal k)
stolen_other f k q None e = (refl, refl)
stolen_other f k q (Some p) e = pick (connected f p.0)
  where
    pick : (c : Bool) → ((cond c (record f { on = put f.on q (Some (p.0, f.counter)); steal = put f.steal q None; counter = f.counter + 1 }) (record f { on = put f.on q None; steal = put f.steal q None })).on k ≡ f.on k)
        × ((cond c (record f { on = put f.on q (Some (p.0, f.counter)); steal = put f.steal q None; counter = f.counter + 1 }) (record f { on = put f.on q None; steal = put f.steal q None })).steal k ≡ f.steal k)
    pick true = (ap (λ b. cond b (Some (p.0, f.counter)) (f.on k)) e, ap (λ b. cond b None (f.steal k)) e)
    pick false = (ap (λ b. cond b None (f.on k)) e, ap (λ b. cond b None (f.steal k)) e)

-- what the answer makes of the facts where it counts
abbrev to : Facts → ℕ → Bool → Facts
to f q agreed = cond agreed (stolen_to f q (f.steal q)) (record f { steal = put f.steal q (refused (f.steal q)) })

moved_to : (f : Facts) → IsSettled f → (k q : ℕ) (agreed : Bool) → is_some (f.on q) ≡ true → Moved f (to f q agreed) k
moved_to f t k q true was = moved_stolen f t k q was (f.steal q)
moved_to f t k q false was = moved_refused f t k q

has_to : (f : Facts) (q : ℕ) (agreed : Bool) → (to f q agreed).has ≡ f.has
has_to f q true = stolen_has f q (f.steal q)
has_to f q false = refl

other_to : (f : Facts) (k q : ℕ) (agreed : Bool) → eqb k q ≡ false → ((to f q agreed).on k ≡ f.on k) × ((to f q agreed).steal k ≡ f.steal k)
other_to f k q true e = stolen_other f k q (f.steal q) e
other_to f k q false e = (refl, ap (λ b. cond b (refused (f.steal q)) (f.steal k)) e)

answered_own : (f : Facts) (w k a : ℕ) (agreed : Bool) (s : Side) → IsSound f → IsSettled f → IsNumbered f → IsPlain f (plain (cond (is_this w a (f.on k) && is_asked_back (f.steal k)) (to f k agreed) f)) w k (cond agreed (Gave a) (Declined a)) s
answered_own f w k a agreed s sound t n = pick (is_this w a (f.on k) && is_asked_back (f.steal k)) refl agreed
  where
    pair_asked : Bool
    pair_asked = is_some (at_worker w (f.on k)) && is_asked_back (f.steal k)

    test : (b : Bool) → (is_this w a (f.on k) && is_asked_back (f.steal k)) ≡ b → (is_at a (at_worker w (f.on k)) && (is_some (at_worker w (f.on k)) && is_asked_back (f.steal k))) ≡ b
    test b e = sym (test_is w a (f.on k) (is_asked_back (f.steal k))) ∙ e

    same : (r : Report) → counted (pair_of f w k s) r ≡ (holds f w k, at_worker w (f.on k)) → still_asked (pair_of f w k s) r ≡ pair_asked → IsPlain f (plain f) w k r s
    same r c i = calm_row f (plain f) w k r s sound t n (record { moved = same_moved f f t k refl refl; place = inl (refl, refl); counts = c; asked = i; has = refl; freed = refl; silent = λ x. tt })

    was : (is_this w a (f.on k) && is_asked_back (f.steal k)) ≡ true → is_some (f.on k) ≡ true
    was e = this_is_some w a (f.on k) (and_first (is_this w a (f.on k)) (is_asked_back (f.steal k)) e)

    unasked : (is_this w a (f.on k) && is_asked_back (f.steal k)) ≡ true → (pair_asked && not (is_at a (at_worker w (f.on k)))) ≡ false
    unasked e = and_not (is_at a (at_worker w (f.on k))) pair_asked (and_first (is_at a (at_worker w (f.on k))) (is_some (at_worker w (f.on k)) && is_asked_back (f.steal k)) (test true e))

    alone_yes : (e : (is_this w a (f.on k) && is_asked_back (f.steal k)) ≡ true) → holds (stolen_to f k (f.steal k)) w k ≡ holds f w k
    alone_yes e = ap (λ (h : ℕ → ℕ → Option ℕ). is_some (h w k)) (stolen_has f k (f.steal k))

    pick : (b : Bool) → (is_this w a (f.on k) && is_asked_back (f.steal k)) ≡ b → (agreed : Bool) → IsPlain f (plain (cond b (to f k agreed) f)) w k (cond agreed (Gave a) (Declined a)) s
    pick false e true = same (Gave a) (ap (λ c. cond {A = Bool × Option ℕ} c (holds f w k, None) (holds f w k, at_worker w (f.on k))) (test false e)) (not_both (is_at a (at_worker w (f.on k))) pair_asked (test false e))
    pick false e false = same (Declined a) refl (not_both (is_at a (at_worker w (f.on k))) pair_asked (test false e))
    pick true e true = record {
      moved = moved_stolen f t k k (was e) (f.steal k);
      on = ap (λ c. (cond {A = Bool × Option ℕ} c (holds f w k, None) (holds f w k, at_worker w (f.on k))).1) (test true e) ∙ sym (gone_by f w k (f.steal k) (and_second (is_this w a (f.on k)) (is_asked_back (f.steal k)) e));
      asked = unasked e ∙ sym (ap (λ o. is_some o && is_asked_back ((stolen_to f k (f.steal k)).steal k)) (gone_by f w k (f.steal k) (and_second (is_this w a (f.on k)) (is_asked_back (f.steal k)) e)));
      freed = λ _. refl;
      gone = λ i. absurd (false≢true i);
      alone = λ i. alone_yes e ∙ held_apart (was e);
      has = λ _. ap (λ c. (cond {A = Bool × Option ℕ} c (holds f w k, None) (holds f w k, at_worker w (f.on k))).0) (test true e) ∙ sym (alone_yes e);
      silent = λ x. tt;
    }
      where
        held_apart : is_some (f.on k) ≡ true → holds f w k ≡ false
        held_apart h = held_none f sound w k (placed_apart f t k h)
    pick true e false = record {
      moved = moved_refused f t k k;
      on = old_is f n w k;
      asked = unasked e ∙ sym (ap (λ m. is_some (old_at f.counter w (f.on k)) && is_asked_back m) (ap (λ b. cond b (refused (f.steal k)) (f.steal k)) (eq-eqb k k refl)) ∙ ap (λ c. is_some (old_at f.counter w (f.on k)) && c) (refused_not (f.steal k)) ∙ and-false (is_some (old_at f.counter w (f.on k))));
      freed = λ _. refl;
      gone = λ i. absurd (false≢true i);
      alone = λ i. held_none f sound w k (placed_apart f t k (was e));
      has = λ _. refl;
      silent = λ x. tt;
    }

answered_other : (f : Facts) (v q a w k : ℕ) (agreed : Bool) (s : Side) → IsSound f → IsSettled f → IsNumbered f → (eqb v w ≡ false) ⊎ (eqb q k ≡ false) → IsPlain f (plain (cond (is_this v a (f.on q) && is_asked_back (f.steal q)) (to f q agreed) f)) w k Quiet s
answered_other f v q a w k agreed s sound t n other = pick (is_this v a (f.on q) && is_asked_back (f.steal q)) refl
  where
    place : is_this v a (f.on q) ≡ true → (c : Bool) → eqb q k ≡ c → (eqb v w ≡ false) ⊎ (c ≡ false) → (((to f q agreed).on k ≡ f.on k) × ((to f q agreed).steal k ≡ f.steal k)) ⊎ (at_worker w (f.on k) ≡ None)
    place i false e o = inl (other_to f k q agreed (eqb_turned k q ∙ e))
    place i true e (inl o) = inr (not_at w v a (f.on k) o (ap (λ n. is_this v a (f.on n)) (sym (eqb-true q k e)) ∙ i))
    place i true e (inr o) = absurd (true≢false o)

    pick : (b : Bool) → (is_this v a (f.on q) && is_asked_back (f.steal q)) ≡ b → IsPlain f (plain (cond b (to f q agreed) f)) w k Quiet s
    pick true i = calm_row f (plain (to f q agreed)) w k Quiet s sound t n (quiet_calm f (plain (to f q agreed)) w k s
        (moved_to f t k q agreed (this_is_some v a (f.on q) (and_first (is_this v a (f.on q)) (is_asked_back (f.steal q)) i)))
        (place (and_first (is_this v a (f.on q)) (is_asked_back (f.steal q)) i) (eqb q k) refl other)
        (ap (λ (h : ℕ → ℕ → Option ℕ). is_some (h w k)) (has_to f q agreed)) refl (λ x. tt))
    pick false i = calm_row f (plain f) w k Quiet s sound t n (quiet_calm f (plain f) w k s (same_moved f f t k refl refl) (inl (refl, refl)) refl refl (λ x. tt))

pub answered_row : (f : Facts) (v q a w k : ℕ) (agreed : Bool) (s : Side) → IsSound f → IsSettled f → IsNumbered f → IsPlain f (plain (answered f v q a agreed)) w k (cond (eqb v w) (cond (eqb q k) (cond agreed (Gave a) (Declined a)) Quiet) Quiet) s
unfolding answered
answered_row f v q a w k agreed s sound t n = by_own (λ r. IsPlain f (plain (cond (is_this v a (f.on q) && is_asked_back (f.steal q)) (to f q agreed) f)) w k r s) v q w k (cond agreed (Gave a) (Declined a))
    (λ i j. subst (λ x. IsPlain f (plain (cond (is_this x a (f.on q) && is_asked_back (f.steal q)) (to f q agreed) f)) w k (cond agreed (Gave a) (Declined a)) s) (sym i)
    (subst (λ x. IsPlain f (plain (cond (is_this w a (f.on x) && is_asked_back (f.steal x)) (to f x agreed) f)) w k (cond agreed (Gave a) (Declined a)) s) (sym j)
    (answered_own f w k a agreed s sound t n)))
    (λ o. answered_other f v q a w k agreed s sound t n o)
