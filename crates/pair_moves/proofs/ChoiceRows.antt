-- The rows of Balance and Evict, for each worker and key.
use Rattle.std.proofs.Common.{◌≡◌, ℕ, zero, suc, ◌+◌, ◌<◌, ◌≤◌, Bool, true, false, not, cond, ◌&&◌, ◌||◌, List, [], ◌∷◌, ◌++◌, Option, Some, None, refl, sym, ap, ◌∙◌, subst, arith, is_some, is_none, inl, inr, ◌⊎◌, ⊎_elim, length}
use Rattle.std.specs.List.{list_any, list_all, range_with_len}
use Rattle.std.proofs.lemmas.Bool.{true≢false, false≢true, eqb-true, ltb-true, not-true, eq-eqb}
use Rattle.std.proofs.lemmas.Bool.Decides.{nat_tests}
use Rattle.std.proofs.Math.Dec.{eqb}
use Rattle.std.proofs.Math.Bool.{and-false}
use Rattle.std.proofs.lemmas.Option.{none-some}
use Rattle.small_facts.proofs.Numbers.{eqb_turned}
use Rattle.small_facts.proofs.Options.{none_from_is_none, is_some_cond}
use Rattle.small_facts.proofs.Truth.{and_first, and_second}
use Rattle.cluster_msgs.specs.declared.cores.Steal.{Steal}
use Rattle.cluster_msgs.specs.declared.messages.Down.TheVariants.{StealRequest, RemoveReplicas}
use Rattle.cluster_rules.specs.Functions.{put, put_pair, from_one, count}
use Rattle.cluster_rules.specs.Derived.{below, reach, err}
use Rattle.cluster_rules.specs.Choice.{IsLeastOf}
use Rattle.cluster_rules.specs.Sched.{Facts, IsSound, keys, deps, holds, held, erred, need, known, ready, wanted, connected, is_on, is_for, holder_count, waiters}
use Rattle.cluster_rules.specs.Policies.{may_steal, IsStealChoice, steal_rank, steal_choices, may_drop, IsDrop, IsDropOf}
use Rattle.cluster_rules.specs.SchedTable.{Changed, plain, is_asked_back, ask_message, balanced, evicted}
use Rattle.cluster_rules.specs.SchedStep.{Stages, settle, finish_step, mail, place_all, place_keys, drop_bad, drop_has, drop_on, lost}
use Rattle.cluster_rules.proofs.PolicyLemmas.{steal_choice_from}
use Rattle.cluster_rules.proofs.SchedFrame.{IsPlacing, placing_keys}
use Rattle.cluster_laws.specs.Settled.{IsSettled}
use Rattle.cluster_laws.proofs.Errors.{holder_holds, ready_is_not_held}
use Rattle.cluster_laws.proofs.Lists.{any_weaken}
use Rattle.pair_machine.specs.Pair.{Ask, Remove, Other, Quiet, IsPair, fence_notes}
use Rattle.pair_machine.specs.Moves.{step, Evict, ask_back}
use Rattle.pair_machine.proofs.PairKept.{kept_evict, kept_ask}
use Rattle.pair_moves.specs.Projection.{notes, reports, at_worker, Side, pair_of, IsNumbered}
use Rattle.pair_moves.proofs.PairTold.{AreOther}
use Rattle.pair_moves.proofs.Settling.{new_at, placed_ready}
use Rattle.pair_moves.proofs.SettleKeeps.{asked_or, Closes}
use Rattle.cluster_laws.proofs.Framed.{IsFramed}
use Rattle.pair_moves.proofs.Rows.{Moved, Stays, IsRow, IsPlain, row_keeps, plain_keeps, calm_row, quiet_calm, same_moved, old_is, held_none, placed_apart, on_some}
use Rattle.pair_moves.proofs.TaskRows.{other_pair}
use Rattle.pair_moves.proofs.Still.{IsResting, still_settled}

nothing_asked : (o : Option ℕ) (b : Bool) → asked_or o (cond b false false) ≡ false
nothing_asked None true = refl
nothing_asked None false = refl
nothing_asked (Some a) b = refl

-- the holder is told to drop its copy: no attempt of the key is there
pub evict_closes : (t : Stages) (has : Bool) (v q : ℕ) → notes q (t.changed.answer t.placed v) ≡ Remove ∷ [] → at_worker v (t.placed.on q) ≡ None → holds t.placed v q ≡ false → Closes t has false v q
evict_closes t has v q says none gone x h on old asked counter s =
    subst (λ ns. IsPair (record x { has = holds t.placed v q; asked = is_some (at_worker v (t.placed.on q)) && is_asked_back (t.placed.steal q); fence = fence_notes x.sent ns x.fence; down = x.down ++ ns; sent = x.sent + length ns })) (sym says)
    (subst (λ (y : Bool × Bool). IsPair (record (step x Evict) { has = y.0; asked = y.1 })) (λ i. (sym gone i, (asked ∙ nothing_asked (new_at t.before.counter v (t.placed.on q)) (lost t v q) ∙ sym (ap (λ o. is_some o && is_asked_back (t.placed.steal q)) none)) i))
    (kept_evict x s (on ∙ none)))

-- the victim is asked for its attempt
pub ask_closes : (t : Stages) (has : Bool) (w q a : ℕ) → notes q (t.changed.answer t.placed w) ≡ Ask a ∷ [] → at_worker w (t.placed.on q) ≡ Some a → is_asked_back (t.placed.steal q) ≡ true → cond (lost t w q) false has ≡ holds t.placed w q → Closes t has false w q
ask_closes t has w q a says at stolen same x h on old asked counter s =
    subst (λ ns. IsPair (record x { has = holds t.placed w q; asked = is_some (at_worker w (t.placed.on q)) && is_asked_back (t.placed.steal q); fence = fence_notes x.sent ns x.fence; down = x.down ++ ns; sent = x.sent + length ns })) (sym says)
    (subst (λ (y : Bool × Bool). IsPair (record (ask_back x (Some a)) { has = y.0; asked = y.1 })) (λ i. ((h ∙ same) i, sym (ap (λ o. is_some o && is_asked_back (t.placed.steal q)) at ∙ stolen) i))
    (kept_ask x (Some a) (on ∙ at) s (asked ∙ nothing_asked (new_at t.before.counter w (t.placed.on q)) (lost t w q))))

-- ## Balance

-- the facts once the key is to be stolen
abbrev marked : Facts → Steal → Facts
marked f c = record f { steal = put f.steal c.key (Some (c.thief, false)) }

is_placed : (f : Facts) (c : Steal) → IsStealChoice f c → is_on f c.victim c.key ≡ true
unfolding may_steal
is_placed f c h = and_first (is_on f c.victim c.key) (is_none (f.steal c.key)) (and_first (is_on f c.victim c.key && is_none (f.steal c.key)) _ h.allowed)

unmarked : (f : Facts) (c : Steal) → IsStealChoice f c → f.steal c.key ≡ None
unfolding may_steal
unmarked f c h = none_from_is_none (f.steal c.key) (and_second (is_on f c.victim c.key) (is_none (f.steal c.key)) (and_first (is_on f c.victim c.key && is_none (f.steal c.key)) _ h.allowed))

moved_marked : (f : Facts) → IsSettled f → (c : Steal) → IsStealChoice f c → (k : ℕ) → Moved f (marked f c) k
moved_marked f t c h k = pick (eqb k c.key) refl
  where
    pick : (b : Bool) → eqb k c.key ≡ b → Moved f (marked f c) k
    pick true e = Stays refl (λ _. ap (λ x. is_some (f.on x)) (eqb-true k c.key e) ∙ on_some c.victim (f.on c.key) (is_placed f c h))
    pick false e = same_moved f (marked f c) t k refl (ap (λ b. cond b (Some (c.thief, false)) (f.steal k)) e)

resting_marked : (f : Facts) → IsSettled f → (c : Steal) → IsStealChoice f c → IsResting (marked f c)
unfolding known need ready held erred wanted
resting_marked f t c h = record {
  bad = t.errors_are_known;
  losses = t.losses_are_known;
  has = t.held_are_needed;
  on = t.placed_are_ready;
  steal = λ k e. pick k (eqb k c.key) refl e;
}
  where
    pick : (k : ℕ) (b : Bool) → eqb k c.key ≡ b → is_some (cond b (Some (c.thief, false)) (f.steal k)) ≡ true → ready f k ≡ true
    pick k true e i = t.placed_are_ready k (ap (λ x. is_some (f.on x)) (eqb-true k c.key e) ∙ on_some c.victim (f.on c.key) (is_placed f c h))
    pick k false e i = t.placed_are_ready k (t.stolen_are_placed k i)

-- an event keeps what holds of a pair
abbrev pub Keeps : Facts → Changed → ℕ → ℕ → Side → Type 0
Keeps f g w k s = IsPair (record (pair_of f w k s) { up = Quiet ∷ reports k s.up }) → IsPair (pair_of (finish_step (settle f g)).facts w k (record s { down = s.down ++ mail w (finish_step (settle f g)).down }))

-- the victim's pair
balanced_own : (f : Facts) (c : Steal) (w k a : ℕ) (s : Side) → IsSound f → IsSettled f → IsNumbered f → IsStealChoice f c → c.key ≡ k → f.on k ≡ Some (w, a) → IsRow f (balanced f (Some c)) (holds f w k) false w k Quiet s
unfolding settle place_all
balanced_own f c w k a s sound t n h key on = record {
  fair = record { freed = λ _. refl; apart = λ _. none; gone = λ i. absurd (false≢true i); below = λ b e. n.below k w b e };
  newly = λ b e. empty (lost u w k);
  has = λ _. refl;
  on = λ _. old_is f n w k;
  asked = λ _. ap (λ m. is_some (at_worker w (f.on k)) && is_asked_back m) (ap f.steal (sym key) ∙ unmarked f c h) ∙ and-false (is_some (at_worker w (f.on k)));
  closes = ask_closes u (holds f w k) w k a says (ap (at_worker w) stays ∙ at) stolen (empty (lost u w k) ∙ sym (ap (λ (x : ℕ → ℕ → Option ℕ). is_some (x w k)) (p0.has ∙ ap (λ (x : Facts). x.has) rest) ∙ none));
}
  where
    g : Facts
    g = marked f c

    o : Facts
    o = drop_on (drop_has (drop_bad g))

    u : Stages
    u = settle f (balanced f (Some c))

    p0 : IsPlacing o (place_keys o (below (keys o)))
    p0 = placing_keys o (below (keys o))

    rest : o ≡ g
    rest = still_settled g (resting_marked f t c h)

    none : holds f w k ≡ false
    none = held_none f sound w k (placed_apart f t k (ap is_some on))

    empty : (b : Bool) → cond b false (holds f w k) ≡ false
    empty true = refl
    empty false = none

    stays : (place_keys o (below (keys o))).on k ≡ Some (w, a)
    stays = p0.stays k (w, a) (ap (λ (x : Facts). x.on k) rest ∙ on)

    at : at_worker w (Some (w, a)) ≡ Some a
    at = ap (λ b. cond b (Some a) None) (eq-eqb w w refl)

    stolen : is_asked_back ((place_keys o (below (keys o))).steal k) ≡ true
    stolen = ap (λ (x : ℕ → Option (ℕ × Bool)). is_asked_back (x k)) (p0.steal ∙ ap (λ (x : Facts). x.steal) rest) ∙ ap (λ b. is_asked_back (cond b (Some (c.thief, false)) (f.steal k))) (eq-eqb k c.key (sym key))

    says : notes k (ask_message c.key (f.on c.key) w) ≡ Ask a ∷ []
    says = ap (λ x. notes k (ask_message x (f.on x) w)) key ∙ ap (λ x. notes k (ask_message k x w)) on ∙ ap (λ b. notes k (cond b (StealRequest k a ∷ []) [])) (eq-eqb w w refl) ∙ ap (λ b. cond b (Ask a) Other ∷ []) (eq-eqb k k refl)

-- every other pair
balanced_other : (f : Facts) (c : Steal) (w k : ℕ) (s : Side) → IsSound f → IsSettled f → IsNumbered f → IsStealChoice f c → (eqb c.victim w ≡ false) ⊎ (eqb c.key k ≡ false) → IsPlain f (balanced f (Some c)) w k Quiet s
balanced_other f c w k s sound t n h other = calm_row f (balanced f (Some c)) w k Quiet s sound t n (quiet_calm f (balanced f (Some c)) w k s (moved_marked f t c h k) (place (eqb c.key k) refl other) refl refl (λ x. silent (f.on c.key) refl other))
  where
    on_only : (o : Option (ℕ × ℕ)) → is_for c.victim o ≡ true → eqb c.victim w ≡ false → at_worker w o ≡ None
    on_only None e i = refl
    on_only (Some p) e i = ap (λ x. cond (eqb x w) (Some p.1) None) (eqb-true p.0 c.victim e) ∙ ap (λ b. cond b (Some p.1) None) i

    place : (b : Bool) → eqb c.key k ≡ b → (eqb c.victim w ≡ false) ⊎ (b ≡ false) → (((marked f c).on k ≡ f.on k) × ((marked f c).steal k ≡ f.steal k)) ⊎ (at_worker w (f.on k) ≡ None)
    place false e o = inl (refl, ap (λ b. cond b (Some (c.thief, false)) (f.steal k)) (eqb_turned k c.key ∙ e))
    place true e (inl i) = inr (on_only (f.on k) (ap (λ x. is_for c.victim (f.on x)) (sym (eqb-true c.key k e)) ∙ is_placed f c h) i)
    place true e (inr i) = absurd (true≢false i)

    silent : (o : Option (ℕ × ℕ)) → f.on c.key ≡ o → (eqb c.victim w ≡ false) ⊎ (eqb c.key k ≡ false) → AreOther (notes k (ask_message c.key o w))
    silent None e i = tt
    silent (Some p) e (inl i) = subst (λ b. AreOther (notes k (cond b (StealRequest c.key p.1 ∷ []) []))) (sym (ap (λ x. eqb x w) (eqb-true p.0 c.victim (ap (is_for c.victim) (sym e) ∙ is_placed f c h)) ∙ i)) tt
    silent (Some p) e (inr i) = pick (eqb p.0 w)
      where
        pick : (b : Bool) → AreOther (notes k (cond b (StealRequest c.key p.1 ∷ []) []))
        pick true = (ap (λ b. cond b (Ask p.1) Other) i, tt)
        pick false = tt

balanced_with : (f : Facts) (c : Steal) (w k : ℕ) (s : Side) → IsSound f → IsSettled f → IsNumbered f → IsStealChoice f c → IsFramed f 0 (λ k. false) (marked f c) → IsSound (marked f c) → k < keys f → connected f w ≡ true → Keeps f (balanced f (Some c)) w k s
balanced_with f c w k s sound t n h frame after low there = pick (eqb c.victim w) refl (eqb c.key k) refl
  where
    on_it : (o : Option (ℕ × ℕ)) → is_for w o ≡ true → (a : ℕ) × (o ≡ Some (w, a))
    on_it None e = absurd (false≢true e)
    on_it (Some p) e = (p.1, ap (λ x. Some (x, p.1)) (eqb-true p.0 w e))

    pick : (b : Bool) → eqb c.victim w ≡ b → (d : Bool) → eqb c.key k ≡ d → Keeps f (balanced f (Some c)) w k s
    pick true i true j =
        let at = on_it (f.on k) (ap (λ x. is_for x (f.on k)) (sym (eqb-true c.victim w i)) ∙ ap (λ x. is_for c.victim (f.on x)) (sym (eqb-true c.key k j)) ∙ is_placed f c h) in
        row_keeps f (balanced f (Some c)) (holds f w k) false w k Quiet s frame after low there (balanced_own f c w k at.0 s sound t n h (eqb-true c.key k j) at.1)
    pick true i false j = plain_keeps f (balanced f (Some c)) w k Quiet s n frame after low there (balanced_other f c w k s sound t n h (inr j))
    pick false i d j = plain_keeps f (balanced f (Some c)) w k Quiet s n frame after low there (balanced_other f c w k s sound t n h (inl i))

pub balanced_keeps : (f : Facts) (o : Option Steal) (w k : ℕ) (s : Side) → IsSound f → IsSettled f → IsNumbered f → IsLeastOf (steal_rank f) (steal_choices f) o → IsFramed f 0 (λ k. false) (balanced f o).facts → IsSound (balanced f o).facts → k < keys f → connected (balanced f o).facts w ≡ true → Keeps f (balanced f o) w k s
balanced_keeps f None w k s sound t n h frame after low there = plain_keeps f (plain f) w k Quiet s n frame after low there (calm_row f (plain f) w k Quiet s sound t n (quiet_calm f (plain f) w k s (same_moved f f t k refl refl) (inl (refl, refl)) refl refl (λ x. tt)))
balanced_keeps f (Some c) w k s sound t n h frame after low there = balanced_with f c w k s sound t n (steal_choice_from f c h.member) frame after low there

pub moved_balanced : (f : Facts) → IsSettled f → (o : Option Steal) → IsLeastOf (steal_rank f) (steal_choices f) o → (k : ℕ) → Moved f (balanced f o).facts k
moved_balanced f t None h k = same_moved f f t k refl refl
moved_balanced f t (Some c) h k = moved_marked f t c (steal_choice_from f c h.member) k

-- ## Evict

-- without the copy
abbrev dropped : Facts → ℕ → ℕ → Facts
dropped f v q = record f { has = put_pair f.has v q None }

abbrev but : (ℕ → Bool) → ℕ → ℕ → Bool
but p v x = p x && not (eqb x v)

none_above : (v c n : ℕ) → v < c → count (λ x. eqb x v) (range_with_len c n) ≡ 0
none_above v c zero l = refl
none_above v c (suc n) l = ap (λ y. cond y 1 0 + count (λ x. eqb x v) (range_with_len (c + 1) n)) (above c l) ∙ ap (λ y. 0 + y) (none_above v (c + 1) n (omega arith))
  where
    above : (c : ℕ) → v < c → eqb c v ≡ false
    above c l = grind (arith, nat_tests)

-- a number stands once in a range
count_self : (v b n : ℕ) → count (λ x. eqb x v) (range_with_len b n) ≤ 1
count_self v b zero = omega arith
count_self v b (suc n) = pick (eqb b v) refl (count_self v (b + 1) n)
  where
    pick : (c : Bool) → eqb b v ≡ c → count (λ x. eqb x v) (range_with_len (b + 1) n) ≤ 1 → cond c 1 0 + count (λ x. eqb x v) (range_with_len (b + 1) n) ≤ 1
    pick true e l = let z : b ≡ v = eqb-true b v e in let r : count (λ x. eqb x v) (range_with_len (b + 1) n) ≡ 0 = none_above v (b + 1) n (omega arith) in omega arith
    pick false e l = omega (arith, l)

count_but : (p : ℕ → Bool) (v : ℕ) (xs : List ℕ) → count p xs ≤ count (but p v) xs + count (λ x. eqb x v) xs
count_but p v [] = omega arith
count_but p v (x ∷ xs) = pick (p x) (eqb x v) (count_but p v xs)
  where
    pick : (a b : Bool) → count p xs ≤ count (but p v) xs + count (λ x. eqb x v) xs → cond a 1 0 + count p xs ≤ (cond (a && not b) 1 0 + count (but p v) xs) + (cond b 1 0 + count (λ x. eqb x v) xs)
    pick true true l = omega (arith, l)
    pick true false l = omega (arith, l)
    pick false true l = omega (arith, l)
    pick false false l = omega (arith, l)

some_counted : (p : ℕ → Bool) (xs : List ℕ) → 1 ≤ count p xs → list_any p xs ≡ true
some_counted p [] l = absurd (omega arith)
some_counted p (x ∷ xs) l = pick (p x) l (some_counted p xs)
  where
    pick : (b : Bool) → 1 ≤ cond b 1 0 + count p xs → (1 ≤ count p xs → list_any p xs ≡ true) → (b || list_any p xs) ≡ true
    pick true m rest = refl
    pick false m rest = rest (omega (arith, m))

-- the key is held elsewhere
held_elsewhere : (f : Facts) (v q : ℕ) → IsDrop f v q → held (dropped f v q) q ≡ true
unfolding held may_drop holder_count
held_elsewhere f v q d =
    any_weaken (but (λ w. holds f w q) v) (λ w. holds (dropped f v q) w q) (from_one f.last_worker) (λ w e. there w e)
    (some_counted (but (λ w. holds f w q) v) (from_one f.last_worker)
    (let l : waiters f q + 1 < count (λ w. holds f w q) (from_one f.last_worker) = ltb-true (waiters f q + 1) (count (λ w. holds f w q) (from_one f.last_worker)) d.spare in
    let m = count_but (λ w. holds f w q) v (from_one f.last_worker) in let o = count_self v 1 f.last_worker in omega (arith, m, o)))
  where
    there : (w : ℕ) → (holds f w q && not (eqb w v)) ≡ true → is_some (cond (eqb w v && eqb q q) None (f.has w q)) ≡ true
    there w e = ap (λ b. is_some (cond (b && eqb q q) None (f.has w q))) (not-true (eqb w v) (and_second (holds f w q) (not (eqb w v)) e)) ∙ and_first (holds f w q) (not (eqb w v)) e

held_dropped : (f : Facts) → IsSound f → (v q : ℕ) → IsDrop f v q → (j : ℕ) → held (dropped f v q) j ≡ held f j
unfolding held
held_dropped f sound v q d j = pick (eqb j q) refl
  where
    other : eqb j q ≡ false → (w : ℕ) → holds (dropped f v q) w j ≡ holds f w j
    other e w = ap (λ b. is_some (cond (eqb w v && b) None (f.has w j))) e ∙ ap (λ b. is_some (cond b None (f.has w j))) (and-false (eqb w v))

    pick : (b : Bool) → eqb j q ≡ b → list_any (λ w. holds (dropped f v q) w j) (from_one f.last_worker) ≡ list_any (λ w. holds f w j) (from_one f.last_worker)
    pick true e = ap (λ x. held (dropped f v q) x) (eqb-true j q e) ∙ held_elsewhere f v q d ∙ sym (holder_holds f sound v q d.holder) ∙ ap (held f) (sym (eqb-true j q e))
    pick false e = ap (λ (p : ℕ → Bool). list_any p (from_one f.last_worker)) (λ i w. other e w i)

same_derived : (f : Facts) → IsSound f → (v q : ℕ) → IsDrop f v q → (need (dropped f v q) ≡ need f) × (ready (dropped f v q) ≡ ready f)
unfolding need ready erred wanted
same_derived f sound v q d = (
  ap (λ (h : ℕ → Bool). reach (deps f) (keys f) (wanted f) (λ j. not (h j) && not (err (deps f) h f.bad j))) same,
  ap (λ (h : ℕ → Bool). λ k. (reach (deps f) (keys f) (wanted f) (λ j. not (h j) && not (err (deps f) h f.bad j)) k && (not (h k) && not (err (deps f) h f.bad k))) && list_all h (deps f k)) same,
)
  where
    same : held (dropped f v q) ≡ held f
    same = λ i j. held_dropped f sound v q d j i

resting_dropped : (f : Facts) → IsSound f → IsSettled f → (v q : ℕ) → IsDrop f v q → IsResting (dropped f v q)
unfolding known wanted
resting_dropped f sound t v q d = record {
  bad = t.errors_are_known;
  losses = t.losses_are_known;
  has = λ w k e. ap (λ (p : ℕ → Bool). p k) (same_derived f sound v q d).0 ∙ t.held_are_needed w k (is_some_cond (eqb w v && eqb k q) (f.has w k) e);
  on = λ k e. ap (λ (p : ℕ → Bool). p k) (same_derived f sound v q d).1 ∙ t.placed_are_ready k e;
  steal = λ k e. ap (λ (p : ℕ → Bool). p k) (same_derived f sound v q d).1 ∙ t.placed_are_ready k (t.stolen_are_placed k e);
}

evicted_own : (f : Facts) (w k : ℕ) (s : Side) → IsSound f → IsSettled f → IsNumbered f → IsDrop f w k → IsRow f (evicted f (Some (w, k))) (holds f w k) false w k Quiet s
unfolding settle place_all
evicted_own f w k s sound t n d = record {
  fair = record { freed = λ _. refl; apart = λ _. gone; gone = λ i. absurd (false≢true i); below = λ b e. n.below k w b e };
  newly = λ b e. absurd (none-some b (sym (ap (new_at f.counter w) unplaced) ∙ e));
  has = λ _. refl;
  on = λ _. old_is f n w k;
  asked = λ _. ap (λ o. is_some (at_worker w o) && is_asked_back (f.steal k)) nowhere;
  closes = evict_closes u (holds f w k) w k says (ap (at_worker w) unplaced) (ap (λ (x : ℕ → ℕ → Option ℕ). is_some (x w k)) (p0.has ∙ ap (λ (x : Facts). x.has) rest) ∙ gone);
}
  where
    g : Facts
    g = dropped f w k

    o : Facts
    o = drop_on (drop_has (drop_bad g))

    u : Stages
    u = settle f (evicted f (Some (w, k)))

    p0 : IsPlacing o (place_keys o (below (keys o)))
    p0 = placing_keys o (below (keys o))

    rest : o ≡ g
    rest = still_settled g (resting_dropped f sound t w k d)

    gone : holds g w k ≡ false
    gone = ap (λ b. is_some (cond (b && eqb k k) None (f.has w k))) (eq-eqb w w refl) ∙ ap (λ b. is_some (cond b None (f.has w k))) (eq-eqb k k refl)

    held_still : held g k ≡ true
    held_still = held_dropped f sound w k d k ∙ holder_holds f sound w k d.holder

    none : (x : Option (ℕ × ℕ)) → f.on k ≡ x → x ≡ None
    none None e = refl
    none (Some p) e = absurd (false≢true (sym (placed_apart f t k (ap is_some e)) ∙ holder_holds f sound w k d.holder))

    nowhere : f.on k ≡ None
    nowhere = none (f.on k) refl

    left : (x : Option (ℕ × ℕ)) → (place_keys o (below (keys o))).on k ≡ x → x ≡ None
    left None e = refl
    left (Some p) e = absurd (⊎_elim
        (λ i. none-some p (sym nowhere ∙ ap (λ (x : Facts). x.on k) (sym rest) ∙ i))
        (λ r. false≢true (sym (ready_is_not_held g k (ap (λ (x : Facts). ready x k) (sym rest) ∙ r)) ∙ held_still))
        (placed_ready o (below (keys o)) k p e))

    unplaced : (place_keys o (below (keys o))).on k ≡ None
    unplaced = left ((place_keys o (below (keys o))).on k) refl

    says : notes k (cond (eqb w w) (RemoveReplicas (k ∷ []) ∷ []) []) ≡ Remove ∷ []
    says = ap (λ b. notes k (cond b (RemoveReplicas (k ∷ []) ∷ []) [])) (eq-eqb w w refl) ∙ ap (λ b. cond (b || false) Remove Other ∷ []) (eq-eqb k k refl)

evicted_other : (f : Facts) (v q w k : ℕ) (s : Side) → IsSound f → IsSettled f → IsNumbered f → (eqb v w ≡ false) ⊎ (eqb q k ≡ false) → IsPlain f (evicted f (Some (v, q))) w k Quiet s
evicted_other f v q w k s sound t n other = calm_row f _ w k Quiet s sound t n (quiet_calm f (evicted f (Some (v, q))) w k s (same_moved f (dropped f v q) t k refl refl) (inl (refl, refl)) (ap (λ b. is_some (cond b None (f.has w k))) (other_pair v q w k other)) refl (λ x. silent other))
  where
    silent : (eqb v w ≡ false) ⊎ (eqb q k ≡ false) → AreOther (notes k (cond (eqb w v) (RemoveReplicas (q ∷ []) ∷ []) []))
    silent (inl e) = subst (λ b. AreOther (notes k (cond b (RemoveReplicas (q ∷ []) ∷ []) []))) (sym (eqb_turned w v ∙ e)) tt
    silent (inr e) = pick (eqb w v)
      where
        pick : (b : Bool) → AreOther (notes k (cond b (RemoveReplicas (q ∷ []) ∷ []) []))
        pick true = (ap (λ b. cond (b || false) Remove Other) e, tt)
        pick false = tt

evicted_with : (f : Facts) (v q w k : ℕ) (s : Side) → IsSound f → IsSettled f → IsNumbered f → IsDrop f v q → IsFramed f 0 (λ k. false) (dropped f v q) → IsSound (dropped f v q) → k < keys f → connected f w ≡ true → Keeps f (evicted f (Some (v, q))) w k s
evicted_with f v q w k s sound t n d frame after low there = pick (eqb v w) refl (eqb q k) refl
  where
    pick : (b : Bool) → eqb v w ≡ b → (c : Bool) → eqb q k ≡ c → Keeps f (evicted f (Some (v, q))) w k s
    pick true i true j = subst (λ (x : ℕ × ℕ). Keeps f (evicted f (Some x)) w k s) (λ y. (sym (eqb-true v w i) y, sym (eqb-true q k j) y))
        (row_keeps {joining = 0} {losing = λ k. false} f (evicted f (Some (w, k))) (holds f w k) false w k Quiet s
        (record { setting = refl; counter = omega arith; sent = refl; fence = refl; last_worker = omega arith; bad = λ k e. e; losses = λ k. refl; threads = λ i e l. e })
        (subst (λ (x : ℕ × ℕ). IsSound (dropped f x.0 x.1)) (λ y. (eqb-true v w i y, eqb-true q k j y)) after) low there
        (evicted_own f w k s sound t n (subst (λ (x : ℕ × ℕ). IsDrop f x.0 x.1) (λ y. (eqb-true v w i y, eqb-true q k j y)) d)))
    pick true i false j = plain_keeps f (evicted f (Some (v, q))) w k Quiet s n frame after low there (evicted_other f v q w k s sound t n (inr j))
    pick false i c j = plain_keeps f (evicted f (Some (v, q))) w k Quiet s n frame after low there (evicted_other f v q w k s sound t n (inl i))

pub evicted_keeps : (f : Facts) (o : Option (ℕ × ℕ)) (w k : ℕ) (s : Side) → IsSound f → IsSettled f → IsNumbered f → IsDropOf f o → IsFramed f 0 (λ k. false) (evicted f o).facts → IsSound (evicted f o).facts → k < keys f → connected (evicted f o).facts w ≡ true → Keeps f (evicted f o) w k s
evicted_keeps f None w k s sound t n d frame after low there = plain_keeps f (plain f) w k Quiet s n frame after low there (calm_row f (plain f) w k Quiet s sound t n (quiet_calm f (plain f) w k s (same_moved f f t k refl refl) (inl (refl, refl)) refl refl (λ x. tt)))
evicted_keeps f (Some (v, q)) w k s sound t n d frame after low there = evicted_with f v q w k s sound t n d frame after low there
