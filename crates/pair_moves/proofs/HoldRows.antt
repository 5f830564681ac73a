-- The rows that speak of copies, for each worker and key: released, missing, and added keys.
use Rattle.std.proofs.Common.{◌≡◌, ℕ, ◌+◌, ◌≤◌, Bool, true, false, not, cond, ◌&&◌, ◌||◌, List, [], ◌∷◌, Option, Some, None, refl, sym, ap, ◌∙◌, subst, arith, is_some, is_none, inl, inr, ◌⊎◌}
use Rattle.std.specs.Prelude.{nat_le}
use Rattle.std.specs.List.{list_any}
use Rattle.std.proofs.lemmas.Bool.{true≢false, false≢true, eqb-true, eq-eqb}
use Rattle.std.proofs.Math.Dec.{eqb}
use Rattle.std.proofs.Math.Bool.{and-true, or_assoc, and-false, or-false, or-true}
use Rattle.small_facts.proofs.Numbers.{eqb_turned}
use Rattle.small_facts.proofs.Truth.{and_second}
use Rattle.cluster_msgs.specs.declared.messages.Down.{Down}
use Rattle.cluster_rules.specs.Functions.{put_pair, from_one}
use Rattle.cluster_rules.specs.Derived.{is_in}
use Rattle.cluster_rules.specs.Sched.{Facts, IsSound, holds, held, connected, is_on, is_for}
use Rattle.cluster_rules.specs.SchedTable.{Changed, plain, is_asked_back, no_answer, released, is_copy, lost_copy, add_key, add_keys}
use Rattle.cluster_rules.proofs.SchedFrame.{in_range}
use Rattle.cluster_laws.specs.Settled.{IsSettled}
use Rattle.cluster_laws.proofs.Errors.{holder_holds}
use Rattle.pair_machine.specs.Pair.{Report, Added, Released, Quiet}
use Rattle.pair_machine.specs.Moves.{counted, still_asked}
use Rattle.pair_moves.specs.Projection.{notes, at_worker, Side, pair_of, IsNumbered}
use Rattle.pair_moves.proofs.PairTold.{AreOther}
use Rattle.pair_moves.proofs.Rows.{IsPlain, calm_row, quiet_calm, same_moved, old_is, held_none, placed_apart, on_some}
use Rattle.pair_moves.proofs.SettleKeeps.{old_at}
use Rattle.pair_moves.proofs.TaskRows.{by_own, other_pair}

-- where neither place nor steal of the key changed
kept_places : (f : Facts) (g : Changed) (w k : ℕ) (r : Report) (s : Side) → IsSound f → IsSettled f → IsNumbered f → g.facts.on ≡ f.on → g.facts.steal ≡ f.steal
    → (counted (pair_of f w k s) r).1 ≡ at_worker w (f.on k) → still_asked (pair_of f w k s) r ≡ (is_some (at_worker w (f.on k)) && is_asked_back (f.steal k))
    → (is_some (f.on k) ≡ true → g.freed w k ≡ false) → (g.freed w k ≡ true → holds g.facts w k ≡ false) → (is_some (f.on k) ≡ true → holds g.facts w k ≡ false)
    → (g.freed w k ≡ false → (counted (pair_of f w k s) r).0 ≡ holds g.facts w k) → ((x : Facts) → AreOther (notes k (g.answer x w))) → IsPlain f g w k r s
kept_places f g w k r s sound t n on steal counts asked freed gone alone has silent = record {
  moved = same_moved f g.facts t k (ap (λ (o : ℕ → Option (ℕ × ℕ)). o k) on) (ap (λ (o : ℕ → Option (ℕ × Bool)). o k) steal);
  on = counts ∙ old;
  asked = asked ∙ ap (λ o. is_some o && is_asked_back (f.steal k)) old ∙ ap (λ (o : ℕ → Option (ℕ × Bool)). is_some (old_at f.counter w (g.facts.on k)) && is_asked_back (o k)) (sym steal);
  freed = λ e. freed (there e);
  gone = gone;
  alone = λ e. alone (there e);
  has = has;
  silent = silent;
}
  where
    old : at_worker w (f.on k) ≡ old_at f.counter w (g.facts.on k)
    old = old_is f n w k ∙ ap (λ (o : ℕ → Option (ℕ × ℕ)). old_at f.counter w (o k)) (sym on)

    there : is_on g.facts w k ≡ true → is_some (f.on k) ≡ true
    there e = on_some w (f.on k) (ap (λ (o : ℕ → Option (ℕ × ℕ)). is_for w (o k)) (sym on) ∙ e)

-- ## Released

released_own : (f : Facts) (w k seen : ℕ) (s : Side) → IsSound f → IsSettled f → IsNumbered f → IsPlain f (plain (cond (nat_le (f.fence w k) seen) (record f { has = put_pair f.has w k None }) f)) w k (Released seen) s
released_own f w k seen s sound t n = pick (nat_le (f.fence w k) seen) refl
  where
    gone : is_some (put_pair f.has w k None w k) ≡ false
    gone = ap (λ b. is_some (cond (b && eqb k k) None (f.has w k))) (eq-eqb w w refl) ∙ ap (λ b. is_some (cond b None (f.has w k))) (eq-eqb k k refl)

    pick : (b : Bool) → nat_le (f.fence w k) seen ≡ b → IsPlain f (plain (cond b (record f { has = put_pair f.has w k None }) f)) w k (Released seen) s
    pick true e = kept_places f (plain (record f { has = put_pair f.has w k None })) w k (Released seen) s sound t n refl refl refl refl (λ _. refl) (λ i. absurd (false≢true i)) (λ _. gone)
        (λ _. ap (λ b. holds f w k && not b) e ∙ and-false (holds f w k) ∙ sym gone) (λ x. tt)
    pick false e = kept_places f (plain f) w k (Released seen) s sound t n refl refl refl refl (λ _. refl) (λ i. absurd (false≢true i)) (λ h. held_none f sound w k (placed_apart f t k h))
        (λ _. ap (λ b. holds f w k && not b) e ∙ and-true (holds f w k)) (λ x. tt)

pub released_row : (f : Facts) (v seen q w k : ℕ) (s : Side) → IsSound f → IsSettled f → IsNumbered f → IsPlain f (plain (released f v seen q)) w k (cond (eqb v w) (cond (eqb q k) (Released seen) Quiet) Quiet) s
unfolding released
released_row f v seen q w k s sound t n = by_own (λ r. IsPlain f (plain (cond (nat_le (f.fence v q) seen) (h v q) f)) w k r s) v q w k (Released seen)
    (λ i j. subst (λ x. IsPlain f (plain (cond (nat_le (f.fence x q) seen) (h x q) f)) w k (Released seen) s) (sym i) (subst (λ x. IsPlain f (plain (cond (nat_le (f.fence w x) seen) (h w x) f)) w k (Released seen) s) (sym j)
    (released_own f w k seen s sound t n)))
    (λ o. others o (nat_le (f.fence v q) seen))
  where
    h : ℕ → ℕ → Facts
    h = λ x y. record f { has = put_pair f.has x y None }

    others : (eqb v w ≡ false) ⊎ (eqb q k ≡ false) → (b : Bool) → IsPlain f (plain (cond b (h v q) f)) w k Quiet s
    others o true = calm_row f (plain (h v q)) w k Quiet s sound t n (quiet_calm f (plain (h v q)) w k s (same_moved f (h v q) t k refl refl) (inl (refl, refl)) (ap (λ b. is_some (cond b None (f.has w k))) (other_pair v q w k o)) refl (λ x. tt))
    others o false = calm_row f (plain f) w k Quiet s sound t n (quiet_calm f (plain f) w k s (same_moved f f t k refl refl) (inl (refl, refl)) refl refl (λ x. tt))

-- ## A copy that wasn't there

pub lost_row : (f : Facts) (v q c w k : ℕ) (s : Side) → IsSound f → IsSettled f → IsNumbered f → IsPlain f (lost_copy f v q c) w k Quiet s
unfolding lost_copy
lost_row f v q c w k s sound t n = pick (is_copy c (f.has v q)) refl
  where
    g : Changed
    g = record (plain (record f { has = put_pair f.has v q None })) { freed = put_pair (λ x y. false) v q true }

    is_held : (o : Option ℕ) → is_copy c o ≡ true → is_some o ≡ true
    is_held None e = e
    is_held (Some x) e = refl

    at : (b : Bool) → (eqb w v && eqb k q) ≡ b → is_copy c (f.has v q) ≡ true → IsPlain f g w k Quiet s
    at true e i = kept_places f g w k Quiet s sound t n refl refl refl refl
        (λ h. absurd (false≢true (sym (held_none f sound v q (placed_apart f t q (ap (λ x. is_some (f.on x)) (sym (eqb-true k q (and_second (eqb w v) (eqb k q) e))) ∙ h))) ∙ is_held (f.has v q) i)))
        (λ _. ap (λ b. is_some (cond b None (f.has w k))) e) (λ _. ap (λ b. is_some (cond b None (f.has w k))) e)
        (λ h. absurd (true≢false (sym (ap (λ b. cond b true false) e) ∙ h))) (λ x. tt)
    at false e i = calm_row f g w k Quiet s sound t n (quiet_calm f g w k s (same_moved f g.facts t k refl refl) (inl (refl, refl)) (ap (λ b. is_some (cond b None (f.has w k))) e) (ap (λ b. cond b true false) e) (λ x. tt))

    pick : (b : Bool) → is_copy c (f.has v q) ≡ b → IsPlain f (cond b g (plain f)) w k Quiet s
    pick true i = at (eqb w v && eqb k q) refl i
    pick false i = calm_row f (plain f) w k Quiet s sound t n (quiet_calm f (plain f) w k s (same_moved f f t k refl refl) (inl (refl, refl)) refl refl (λ x. tt))

-- ## Added keys

pub any_where : (p : ℕ → Bool) (x : ℕ) (xs : List ℕ) → is_in x xs ≡ true → p x ≡ true → list_any p xs ≡ true
any_where p x [] i h = absurd (false≢true i)
any_where p x (y ∷ ys) i h = pick (eqb y x) refl (λ m. any_where p x ys m h) i
  where
    pick : (b : Bool) → eqb y x ≡ b → (is_in x ys ≡ true → list_any p ys ≡ true) → (b || is_in x ys) ≡ true → list_any p (y ∷ ys) ≡ true
    pick true j rest m = ap (λ b. b || list_any p ys) (ap p (eqb-true y x j) ∙ h)
    pick false j rest m = ap (λ b. p y || b) (rest m) ∙ or-true (p y)

held_where : (f : Facts) (w k : ℕ) → 1 ≤ w → w ≤ f.last_worker → holds f w k ≡ true → held f k ≡ true
unfolding held
held_where f w k from upto e = any_where (λ v. holds f v k) w (from_one f.last_worker) (in_range 1 f.last_worker w from (omega arith)) e

-- a copy that is new
abbrev copied : Facts → ℕ → ℕ → Facts
copied f w q = record f { has = put_pair f.has w q (Some f.counter); counter = f.counter + 1 }

copied_other : (f : Facts) (v q w k : ℕ) → (eqb w v && eqb k q) ≡ false → holds (copied f v q) w k ≡ holds f w k
copied_other f v q w k e = ap (λ b. is_some (cond b (Some f.counter) (f.has w k))) e

copied_held : (f : Facts) (v q k : ℕ) → eqb k q ≡ false → held (copied f v q) k ≡ held f k
unfolding held
copied_held f v q k e = ap (λ (p : ℕ → Bool). list_any p (from_one f.last_worker)) (λ i w. copied_other f v q w k (ap (λ b. eqb w v && b) e ∙ and-false (eqb w v)) i)

copied_same : (f : Facts) (w k : ℕ) → holds (copied f w k) w k ≡ true
copied_same f w k = ap (λ b. is_some (cond (b && eqb k k) (Some f.counter) (f.has w k))) (eq-eqb w w refl) ∙ ap (λ b. is_some (cond b (Some f.counter) (f.has w k))) (eq-eqb k k refl)

-- what added keys leave alone
pub record IsLeft (f : Facts) (g : Changed) : Type 0 where
  pub on : g.facts.on ≡ f.on
  pub steal : g.facts.steal ≡ f.steal
  pub fence : g.facts.fence ≡ f.fence
  pub last_worker : g.facts.last_worker ≡ f.last_worker
  pub answer : g.answer ≡ no_answer

abbrev add_to : ℕ → ℕ → Changed → Bool → Bool → Bool → Bool → Changed
add_to w q g a b c d = cond a (cond b g (cond c (record g { facts = copied g.facts w q }) (cond d g (record g { freed = put_pair g.freed w q true })))) g

left_add : (f : Facts) (w q : ℕ) (g : Changed) → IsLeft f g → (t u v x : Bool) → IsLeft f (add_to w q g t u v x)
left_add f w q g l true false true x = record { on = l.on; steal = l.steal; fence = l.fence; last_worker = l.last_worker; answer = l.answer }
left_add f w q g l true false false false = record { on = l.on; steal = l.steal; fence = l.fence; last_worker = l.last_worker; answer = l.answer }
left_add f w q g l true true v x = l
left_add f w q g l true false false true = l
left_add f w q g l false u v x = l

left_adds : (f : Facts) (w seen : ℕ) (ks : List ℕ) (g : Changed) → IsLeft f g → IsLeft f (add_keys w seen g ks)
left_adds f w seen [] g l = l
left_adds f w seen (q ∷ ks) g l = left_adds f w seen ks (add_key w seen g q) (left_add f w q g l (nat_le (g.facts.fence w q) seen) (holds g.facts w q) (held g.facts q) (is_on g.facts w q))

pub left_plain : (f : Facts) (w seen : ℕ) (ks : List ℕ) → IsLeft f (add_keys w seen (plain f) ks)
left_plain f w seen ks = left_adds f w seen ks (plain f) (record { on = refl; steal = refl; fence = refl; last_worker = refl; answer = refl })

-- another worker's pair
add_away : (v q w k : ℕ) (g : Changed) → eqb v w ≡ false → (a b c d : Bool) → (holds (add_to v q g a b c d).facts w k ≡ holds g.facts w k) × ((add_to v q g a b c d).freed w k ≡ g.freed w k)
add_away v q w k g e true false true d = (copied_other g.facts v q w k (other_pair v q w k (inl e)), refl)
add_away v q w k g e true false false false = (refl, ap (λ b. cond b true (g.freed w k)) (other_pair v q w k (inl e)))
add_away v q w k g e true true c d = (refl, refl)
add_away v q w k g e true false false true = (refl, refl)
add_away v q w k g e false b c d = (refl, refl)

adds_away : (v seen w k : ℕ) → eqb v w ≡ false → (ks : List ℕ) (g : Changed) → (holds (add_keys v seen g ks).facts w k ≡ holds g.facts w k) × ((add_keys v seen g ks).freed w k ≡ g.freed w k)
adds_away v seen w k e [] g = (refl, refl)
adds_away v seen w k e (q ∷ ks) g = let one = add_away v q w k g e (nat_le (g.facts.fence v q) seen) (holds g.facts v q) (held g.facts q) (is_on g.facts v q) in let rest = adds_away v seen w k e ks (add_key v seen g q) in (rest.0 ∙ one.0, rest.1 ∙ one.1)

-- the two tests of a key, once more of the key are added
abbrev has_after : Bool → Bool → Bool → Bool → Bool
has_after h b l d = h || (b && (l && d))

abbrev freed_after : Bool → Bool → Bool → Bool → Bool
freed_after b l d o = b && (l && (not d && not o))

-- from f the added keys up to here lead to g; b: this key was among them
record IsAdding (f : Facts) (w seen k : ℕ) (b : Bool) (g : Changed) : Type 0 where
  left : IsLeft f g
  held_is : held g.facts k ≡ held f k
  has_is : holds g.facts w k ≡ has_after (holds f w k) b (nat_le (f.fence w k) seen) (held f k)
  freed_is : g.freed w k ≡ freed_after b (nat_le (f.fence w k) seen) (held f k) (is_on f w k)

add_other : (f : Facts) (w seen k q : ℕ) (b : Bool) (g : Changed) → eqb k q ≡ false → IsAdding f w seen k b g → (t u v x : Bool) → IsAdding f w seen k b (add_to w q g t u v x)
add_other f w seen k q b g e s t u v x = record { left = left_add f w q g s.left t u v x; held_is = (pick t u v x).0 ∙ s.held_is; has_is = (pick t u v x).1 ∙ s.has_is; freed_is = (pick t u v x).2 ∙ s.freed_is }
  where
    no : (eqb w w && eqb k q) ≡ false
    no = ap (λ c. eqb w w && c) e ∙ and-false (eqb w w)

    pick : (t u v x : Bool) → (held (add_to w q g t u v x).facts k ≡ held g.facts k) × (holds (add_to w q g t u v x).facts w k ≡ holds g.facts w k) × ((add_to w q g t u v x).freed w k ≡ g.freed w k)
    pick true false true x = (copied_held g.facts w q k e, copied_other g.facts w q w k no, refl)
    pick true false false false = (refl, refl, ap (λ c. cond c true (g.freed w k)) no)
    pick true true v x = (refl, refl, refl)
    pick true false false true = (refl, refl, refl)
    pick false u v x = (refl, refl, refl)

add_same : (f : Facts) (w seen k : ℕ) (b : Bool) (g : Changed) → 1 ≤ w → w ≤ f.last_worker → IsAdding f w seen k b g → (t u v x : Bool) → nat_le (g.facts.fence w k) seen ≡ t → holds g.facts w k ≡ u → held g.facts k ≡ v → is_on g.facts w k ≡ x → IsAdding f w seen k true (add_to w k g t u v x)
add_same f w seen k b g from upto s t u v x et eu ev ex = pick t u v x et eu ev ex
  where
    le_is : (t : Bool) → nat_le (g.facts.fence w k) seen ≡ t → nat_le (f.fence w k) seen ≡ t
    le_is t e = ap (λ (n : ℕ → ℕ → ℕ). nat_le (n w k) seen) (sym s.left.fence) ∙ e

    held_was : (v : Bool) → held g.facts k ≡ v → held f k ≡ v
    held_was v e = sym s.held_is ∙ e

    on_was : (x : Bool) → is_on g.facts w k ≡ x → is_on f w k ≡ x
    on_was x e = ap (λ (o : ℕ → Option (ℕ × ℕ)). is_for w (o k)) (sym s.left.on) ∙ e

    -- the values of the three tests, put into a function of them
    at : (P : Bool → Bool → Bool → Bool) (t v x : Bool) → nat_le (f.fence w k) seen ≡ t → held f k ≡ v → is_on f w k ≡ x → P (nat_le (f.fence w k) seen) (held f k) (is_on f w k) ≡ P t v x
    at P t v x et ev ex = ap (λ y. P y (held f k) (is_on f w k)) et ∙ ap (λ y. P t y (is_on f w k)) ev ∙ ap (λ y. P t v y) ex

    freed_at : (c : Bool) (t v x : Bool) → nat_le (f.fence w k) seen ≡ t → held f k ≡ v → is_on f w k ≡ x → freed_after c (nat_le (f.fence w k) seen) (held f k) (is_on f w k) ≡ freed_after c t v x
    freed_at c t v x et ev ex = at (λ l d o. freed_after c l d o) t v x et ev ex

    has_at : (h c : Bool) (t v x : Bool) → nat_le (f.fence w k) seen ≡ t → held f k ≡ v → is_on f w k ≡ x → has_after h c (nat_le (f.fence w k) seen) (held f k) ≡ has_after h c t v
    has_at h c t v x et ev ex = at (λ l d o. has_after h c l d) t v x et ev ex

    -- where nothing is done: a key that isn't freed so, and that is there already or isn't added so
    same : (t v x : Bool) → nat_le (f.fence w k) seen ≡ t → held f k ≡ v → is_on f w k ≡ x → freed_after true t v x ≡ false → ((t && v) ≡ false) ⊎ (holds g.facts w k ≡ true) → IsAdding f w seen k true g
    same t v x et ev ex z h = record {
      left = s.left;
      held_is = s.held_is;
      has_is = has h;
      freed_is = s.freed_is ∙ freed_at b t v x et ev ex ∙ ap (λ y. b && y) z ∙ and-false b ∙ sym (freed_at true t v x et ev ex ∙ z);
    }
      where
        still : (h c y : Bool) → (h || (c && y)) ≡ true → (h || y) ≡ true
        still true c y q = refl
        still false true y q = q
        still false false y q = absurd (false≢true q)

        has : ((t && v) ≡ false) ⊎ (holds g.facts w k ≡ true) → holds g.facts w k ≡ has_after (holds f w k) true (nat_le (f.fence w k) seen) (held f k)
        has (inl z) = s.has_is ∙ has_at (holds f w k) b t v x et ev ex ∙ ap (λ y. holds f w k || (b && y)) z ∙ ap (λ y. holds f w k || y) (and-false b) ∙ sym (has_at (holds f w k) true t v x et ev ex ∙ ap (λ y. holds f w k || y) z)
        has (inr e) = e ∙ sym (still (holds f w k) b (nat_le (f.fence w k) seen && held f k) (sym s.has_is ∙ e))

    holder : holds g.facts w k ≡ true → held f k ≡ true
    holder e = sym s.held_is ∙ held_where g.facts w k from (omega (arith, s.left.last_worker)) e

    pick : (t u v x : Bool) → nat_le (g.facts.fence w k) seen ≡ t → holds g.facts w k ≡ u → held g.facts k ≡ v → is_on g.facts w k ≡ x → IsAdding f w seen k true (add_to w k g t u v x)
    pick false u v x et eu ev ex = same false v x (le_is false et) (held_was v ev) (on_was x ex) refl (inl refl)
    pick true true v x et eu ev ex = same true true x (le_is true et) (holder eu) (on_was x ex) refl (inr eu)
    pick true false false true et eu ev ex = same true false true (le_is true et) (held_was false ev) (on_was true ex) refl (inl refl)
    pick true false true x et eu ev ex = record {
      left = left_add f w k g s.left true false true x;
      held_is = held_where (copied g.facts w k) w k from (omega (arith, s.left.last_worker)) (copied_same g.facts w k) ∙ sym (held_was true ev);
      has_is = copied_same g.facts w k ∙ sym (has_at (holds f w k) true true true x (le_is true et) (held_was true ev) (on_was x ex) ∙ or-true (holds f w k));
      freed_is = s.freed_is ∙ freed_at b true true x (le_is true et) (held_was true ev) (on_was x ex) ∙ and-false b ∙ sym (freed_at true true true x (le_is true et) (held_was true ev) (on_was x ex));
    }
    pick true false false false et eu ev ex = record {
      left = left_add f w k g s.left true false false false;
      held_is = s.held_is;
      has_is = s.has_is ∙ has_at (holds f w k) b true false false (le_is true et) (held_was false ev) (on_was false ex) ∙ ap (λ y. holds f w k || y) (and-false b) ∙ sym (has_at (holds f w k) true true false false (le_is true et) (held_was false ev) (on_was false ex));
      freed_is = ap (λ y. cond (y && eqb k k) true (g.freed w k)) (eq-eqb w w refl) ∙ ap (λ y. cond y true (g.freed w k)) (eq-eqb k k refl) ∙ sym (freed_at true true false false (le_is true et) (held_was false ev) (on_was false ex));
    }

adding : (f : Facts) (w seen k : ℕ) → 1 ≤ w → w ≤ f.last_worker → (ks : List ℕ) (b : Bool) (g : Changed) → IsAdding f w seen k b g → IsAdding f w seen k (b || is_in k ks) (add_keys w seen g ks)
adding f w seen k from upto [] b g s = subst (λ c. IsAdding f w seen k c g) (sym (or-false b)) s
adding f w seen k from upto (q ∷ ks) b g s = subst (λ c. IsAdding f w seen k c (add_keys w seen (add_key w seen g q) ks)) (or_assoc b (eqb q k) (is_in k ks)) (adding f w seen k from upto ks (b || eqb q k) (add_key w seen g q) (one (eqb q k) refl))
  where
    one : (c : Bool) → eqb q k ≡ c → IsAdding f w seen k (b || c) (add_key w seen g q)
    one true e = subst (λ c. IsAdding f w seen k c (add_key w seen g q)) (sym (or-true b)) (subst (λ n. IsAdding f w seen k true (add_key w seen g n)) (sym (eqb-true q k e))
        (add_same f w seen k b g from upto s (nat_le (g.facts.fence w k) seen) (holds g.facts w k) (held g.facts k) (is_on g.facts w k) refl refl refl refl))
    one false e = subst (λ c. IsAdding f w seen k c (add_key w seen g q)) (sym (or-false b)) (add_other f w seen k q b g (eqb_turned k q ∙ e) s (nat_le (g.facts.fence w q) seen) (holds g.facts w q) (held g.facts q) (is_on g.facts w q))

none_at : (w : ℕ) (o : Option (ℕ × ℕ)) → is_none (at_worker w o) ≡ not (is_for w o)
none_at w None = refl
none_at w (Some p) = pick (eqb p.0 w)
  where
    pick : (b : Bool) → is_none (cond b (Some p.1) None) ≡ not b
    pick true = refl
    pick false = refl

-- the tests of an added key, by cases
add_has : (h b l d o : Bool) → (o ≡ true → d ≡ false) → freed_after b l d o ≡ false → (cond b (h || (l && not o)) h) ≡ has_after h b l d
add_has h true true true true p z = absurd (true≢false (p refl))
add_has h true true true false p z = refl
add_has h true true false true p z = refl
add_has h true true false false p z = absurd (true≢false z)
add_has h true false d o p z = refl
add_has true false l d o p z = refl
add_has false false l d o p z = refl

on_not_freed : (b l d o : Bool) → o ≡ true → freed_after b l d o ≡ false
on_not_freed true true true o e = refl
on_not_freed true true false o e = ap not e
on_not_freed true false d o e = refl
on_not_freed false l d o e = refl

on_not_has : (h b l d : Bool) → h ≡ false → d ≡ false → has_after h b l d ≡ false
on_not_has h true true d e z = ap (λ x. x || d) e ∙ z
on_not_has h true false d e z = ap (λ x. x || false) e
on_not_has h false l d e z = ap (λ x. x || false) e

freed_not_has : (h b l d o : Bool) → (h ≡ true → d ≡ true) → freed_after b l d o ≡ true → has_after h b l d ≡ false
freed_not_has h true true true o p z = absurd (false≢true z)
freed_not_has true true true false o p z = absurd (false≢true (p refl))
freed_not_has false true true false o p z = refl
freed_not_has h true false d o p z = absurd (false≢true z)
freed_not_has h false l d o p z = absurd (false≢true z)

-- a place elsewhere has no copy either
held_and_freed : (b l d o : Bool) → d ≡ true → freed_after b l d o ≡ false
held_and_freed true true d o e = ap (λ x. not x && not o) e
held_and_freed true false d o e = refl
held_and_freed false l d o e = refl

add_own : (f : Facts) (w k seen : ℕ) (ks : List ℕ) (s : Side) → 1 ≤ w → w ≤ f.last_worker → IsSound f → IsSettled f → IsNumbered f → IsPlain f (add_keys w seen (plain f) ks) w k (cond (is_in k ks) (Added seen) Quiet) s
add_own f w k seen ks s from upto sound t n = record {
  moved = same_moved f g.facts t k (ap (λ (o : ℕ → Option (ℕ × ℕ)). o k) a.left.on) (ap (λ (o : ℕ → Option (ℕ × Bool)). o k) a.left.steal);
  on = second (is_in k ks) ∙ old;
  asked = third (is_in k ks) ∙ ap (λ o. is_some o && is_asked_back (f.steal k)) old ∙ ap (λ (o : ℕ → Option (ℕ × Bool)). is_some (old_at f.counter w (g.facts.on k)) && is_asked_back (o k)) (sym a.left.steal);
  freed = λ e. a.freed_is ∙ on_not_freed (is_in k ks) (nat_le (f.fence w k) seen) (held f k) (is_on f w k) (on_was e);
  gone = λ e. a.has_is ∙ freed_not_has (holds f w k) (is_in k ks) (nat_le (f.fence w k) seen) (held f k) (is_on f w k) (holder_holds f sound w k) (sym a.freed_is ∙ e);
  alone = λ e. let none = placed_apart f t k (on_some w (f.on k) (on_was e)) in a.has_is ∙ on_not_has (holds f w k) (is_in k ks) (nat_le (f.fence w k) seen) (held f k) (held_none f sound w k none) none;
  has = λ e. first (is_in k ks) ∙ add_has (holds f w k) (is_in k ks) (nat_le (f.fence w k) seen) (held f k) (is_on f w k) (λ i. placed_apart f t k (on_some w (f.on k) i)) (sym a.freed_is ∙ e) ∙ sym a.has_is;
  silent = λ x. silent x a.left.answer;
}
  where
    g : Changed
    g = add_keys w seen (plain f) ks

    a : IsAdding f w seen k (is_in k ks) (add_keys w seen (plain f) ks)
    a = adding f w seen k from upto ks false (plain f) (record { left = record { on = refl; steal = refl; fence = refl; last_worker = refl; answer = refl }; held_is = refl; has_is = sym (or-false (holds f w k)); freed_is = refl })

    silent : (x : Facts) → g.answer ≡ no_answer → AreOther (notes k (g.answer x w))
    silent x e = subst (λ (h : Facts → ℕ → List Down). AreOther (notes k (h x w))) (sym e) tt

    first : (b : Bool) → (counted (pair_of f w k s) (cond b (Added seen) Quiet)).0 ≡ cond b (holds f w k || (nat_le (f.fence w k) seen && not (is_on f w k))) (holds f w k)
    first true = ap (λ x. holds f w k || (nat_le (f.fence w k) seen && x)) (none_at w (f.on k))
    first false = refl

    second : (b : Bool) → (counted (pair_of f w k s) (cond b (Added seen) Quiet)).1 ≡ at_worker w (f.on k)
    second true = refl
    second false = refl

    third : (b : Bool) → still_asked (pair_of f w k s) (cond b (Added seen) Quiet) ≡ (is_some (at_worker w (f.on k)) && is_asked_back (f.steal k))
    third true = refl
    third false = refl

    old : at_worker w (f.on k) ≡ old_at f.counter w (g.facts.on k)
    old = old_is f n w k ∙ ap (λ (o : ℕ → Option (ℕ × ℕ)). old_at f.counter w (o k)) (sym a.left.on)

    on_was : is_on g.facts w k ≡ true → is_on f w k ≡ true
    on_was e = ap (λ (o : ℕ → Option (ℕ × ℕ)). is_for w (o k)) (sym a.left.on) ∙ e

pub add_row : (f : Facts) (v seen : ℕ) (ks : List ℕ) (w k : ℕ) (s : Side) → connected f v ≡ true → IsSound f → IsSettled f → IsNumbered f → IsPlain f (add_keys v seen (plain f) ks) w k (cond (eqb v w) (cond (is_in k ks) (Added seen) Quiet) Quiet) s
add_row f v seen ks w k s there sound t n = pick (eqb v w) refl
  where
    pick : (b : Bool) → eqb v w ≡ b → IsPlain f (add_keys v seen (plain f) ks) w k (cond b (cond (is_in k ks) (Added seen) Quiet) Quiet) s
    pick true e = subst (λ x. IsPlain f (add_keys x seen (plain f) ks) w k (cond (is_in k ks) (Added seen) Quiet) s) (sym (eqb-true v w e))
        (let m = sound.numbers w (ap (connected f) (sym (eqb-true v w e)) ∙ there) in add_own f w k seen ks s m.0 m.1 sound t n)
    pick false e = let away = adds_away v seen w k e ks (plain f) in let l = left_plain f v seen ks in
        calm_row f (add_keys v seen (plain f) ks) w k Quiet s sound t n (quiet_calm f (add_keys v seen (plain f) ks) w k s
        (same_moved f (add_keys v seen (plain f) ks).facts t k (ap (λ (o : ℕ → Option (ℕ × ℕ)). o k) l.on) (ap (λ (o : ℕ → Option (ℕ × Bool)). o k) l.steal))
        (inl (ap (λ (o : ℕ → Option (ℕ × ℕ)). o k) l.on, ap (λ (o : ℕ → Option (ℕ × Bool)). o k) l.steal)) away.0 away.1
        (λ x. subst (λ (h : Facts → ℕ → List Down). AreOther (notes k (h x w))) (sym l.answer) tt))
