-- The lists of keys follow each change of one fact.
use Rattle.std.proofs.Common.{◌≡◌, ℕ, ◌<◌, ◌≤◌, Bool, true, false, ◌&&◌, ◌||◌, eqb, ltb, cond, List, Option, Some, None, is_some, option_map, refl, sym, ap, ◌∙◌, subst, arith, ⊎_elim}
use Rattle.std.proofs.lemmas.Bool.{false≢true, cases_lt, eqb-true}
use Rattle.std.proofs.lemmas.Bool.Decides.{nat_tests}
use Rattle.std.proofs.Math.Bool.{and-false}
use Rattle.small_facts.proofs.Numbers.{eqb_turned}
use Rattle.cluster_msgs.specs.Shape.{key_count}
use Rattle.cluster_rules.specs.Functions.{from_one, count}
use Rattle.cluster_rules.specs.Sched.{Facts, Setting, IsSound, keys, holds, is_on, is_for, connected, holder_count, sched_opening}
use Rattle.cluster_rules.proofs.NothingLemmas.{holder_count-nowhere, total-zero}
use Rattle.key_sets.specs.Sets.{has, room}
use Rattle.task_table.specs.Changes.{with_change, changed_key, changed_worker}
use Rattle.task_table.specs.Lists.{IsListed, IsListedBut, IsSetOf, AreRows, in_row, names, is_at, is_placed, is_shared}
use Rattle.task_table.specs.declared.change.Change.{Change}
use Rattle.task_table.specs.declared.change.Change.TheVariants.{Want, Unwant, Hold, Lose, Assign, Unassign, Steal, Unsteal, Fail, Count, Forgive, Connect, Disconnect, Send, Fence, Finish}
use Rattle.task_table.specs.declared.lists.Lists.{Lists}
use Rattle.task_table.proofs.Near.{IsNear, near_change, some_key, no_key}
use Rattle.task_table.proofs.Applied.{IsEqual, equal_change}
use Rattle.sched_facts.proofs.Rooms.{holders_joined}

names_place : (o : Option (ℕ × ℕ)) (w : ℕ) → names (option_map (λ p. p.0) o) w ≡ is_for w o
names_place None w = refl
names_place (Some p) w = refl

-- how many hold a key, where no number joins
same_last : (f : Facts) (c : Change) (key : ℕ) → changed_key c ≡ Some key → (with_change f c).last_worker ≡ f.last_worker
same_last f (Want c k) key e = refl
same_last f (Unwant c k) key e = refl
same_last f (Hold w k) key e = refl
same_last f (Lose w k) key e = refl
same_last f (Assign k w) key e = refl
same_last f (Unassign k) key e = refl
same_last f (Steal k thief refused) key e = refl
same_last f (Unsteal k) key e = refl
same_last f (Fail k) key e = refl
same_last f (Count k) key e = refl
same_last f (Forgive k) key e = refl
same_last f (Connect threads) key e = no_key key e
same_last f (Disconnect w) key e = refl
same_last f (Send w) key e = refl
same_last f (Fence w k) key e = refl
same_last f Finish key e = refl

count_same : (f g : Facts) (k : ℕ) → g.last_worker ≡ f.last_worker → ((w : ℕ) → g.has w k ≡ f.has w k) → holder_count g k ≡ holder_count f k
unfolding holder_count
count_same f g k l h = λ i. count (λ w. is_some (h w i)) (from_one (l i))

count_rest : (f : Facts) → IsSound f → (c : Change) → changed_key c ≡ None → (k : ℕ) → holder_count (with_change f c) k ≡ holder_count f k
unfolding holder_count
count_rest f s (Want c k) e j = some_key k e
count_rest f s (Unwant c k) e j = some_key k e
count_rest f s (Hold w k) e j = some_key k e
count_rest f s (Lose w k) e j = some_key k e
count_rest f s (Assign k w) e j = some_key k e
count_rest f s (Unassign k) e j = some_key k e
count_rest f s (Steal k thief refused) e j = refl
count_rest f s (Unsteal k) e j = refl
count_rest f s (Fail k) e j = some_key k e
count_rest f s (Count k) e j = some_key k e
count_rest f s (Forgive k) e j = some_key k e
count_rest f s (Connect threads) e j = holders_joined f threads j s
count_rest f s (Disconnect w) e j = refl
count_rest f s (Send w) e j = refl
count_rest f s (Fence w k) e j = refl
count_rest f s Finish e j = refl

moved_to : (b : Bool) (w v n : ℕ) (o : Option (ℕ × ℕ)) → eqb v w ≡ false → is_for w o ≡ false → is_for w (cond b (Some (v, n)) o) ≡ is_for w o
moved_to true w v n o a e = a ∙ sym e
moved_to false w v n o a e = refl

moved_off : (b : Bool) (w : ℕ) (o : Option (ℕ × ℕ)) → is_for w o ≡ false → is_for w (cond b None o) ≡ is_for w o
moved_off true w o e = sym e
moved_off false w o e = refl

-- the change's key at a worker that the change does not name and that it was not on
at_key : (f : Facts) (c : Change) (key w : ℕ) → changed_key c ≡ Some key → names (changed_worker c) w ≡ false → is_on f w key ≡ false → is_at (with_change f c) w key ≡ is_at f w key
at_key f (Want c k) key w e n o = refl
at_key f (Unwant c k) key w e n o = refl
at_key f (Hold v k) key w e n o = ap (λ t. is_some (cond (t && eqb key k) (Some f.counter) (f.has w key)) || is_on f w key) (eqb_turned w v ∙ n)
at_key f (Lose v k) key w e n o = ap (λ t. is_some (cond (t && eqb key k) None (f.has w key)) || is_on f w key) (eqb_turned w v ∙ n)
at_key f (Assign k v) key w e n o = ap (λ t. holds f w key || t) (moved_to (eqb key k) w v f.counter (f.on key) n o)
at_key f (Unassign k) key w e n o = ap (λ t. holds f w key || t) (moved_off (eqb key k) w (f.on key) o)
at_key f (Steal k thief refused) key w e n o = no_key key e
at_key f (Unsteal k) key w e n o = no_key key e
at_key f (Fail k) key w e n o = refl
at_key f (Count k) key w e n o = refl
at_key f (Forgive k) key w e n o = refl
at_key f (Connect threads) key w e n o = no_key key e
at_key f (Disconnect u) key w e n o = no_key key e
at_key f (Send u) key w e n o = no_key key e
at_key f (Fence u k) key w e n o = no_key key e
at_key f Finish key w e n o = no_key key e

-- the lists as they were are those of the new facts, but for the key
near_one : (f : Facts) (c : Change) (l : Lists) (key : ℕ) (left : Option ℕ) → IsListed f l → changed_key c ≡ Some key → left ≡ option_map (λ p. p.0) (f.on key) → IsListedBut (with_change f c) l key (changed_worker c) left
near_one f c l key left h e o = record {
  placed_room = subst (λ (x : Setting). key_count x.shape ≤ room l.placed) (sym n.setting) h.placed_room;
  shared_room = subst (λ (x : Setting). key_count x.shape ≤ room l.shared) (sym n.setting) h.shared_room;
  rows = subst (λ (x : Setting). AreRows (key_count x.shape) l.rows.items) (sym n.setting) h.rows;
  placed = λ k d. h.placed k ∙ sym (ap is_some (n.on k d));
  shared = λ k d. h.shared k ∙ sym (ap (ltb 1) (count_same f g k (same_last f c key e) (λ w. n.has w k d)));
  at = λ w k d. h.at w k ∙ sym (same w k (eqb k key) refl d);
}
  where
    g : Facts
    g = with_change f c

    n : IsNear f g key
    n = near_change f c key e

    both : (a b : Bool) → ((a || b) && true) ≡ false → (a ≡ false) × (b ≡ false)
    both true b d = absurd (false≢true (sym d))
    both false true d = absurd (false≢true (sym d))
    both false false d = (refl, refl)

    same : (w k : ℕ) (t : Bool) → eqb k key ≡ t → ((names (changed_worker c) w || names left w) && eqb k key) ≡ false → is_at g w k ≡ is_at f w k
    same w k false i d = λ j. is_some (n.has w k i j) || is_for w (n.on k i j)
    same w k true i d =
        let p = both (names (changed_worker c) w) (names left w) (ap (λ t. (names (changed_worker c) w || names left w) && t) (sym i) ∙ d) in
        ap (is_at g w) (eqb-true k key i) ∙ at_key f c key w e p.0 (sym (names_place (f.on key) w) ∙ ap (λ x. names x w) (sym o) ∙ p.1) ∙ sym (ap (is_at f w) (eqb-true k key i))

pub listed_near : (f g : Facts) (c : Change) (l : Lists) (key : ℕ) (left : Option ℕ) → g ≡ with_change f c → IsListed f l → changed_key c ≡ Some key → left ≡ option_map (λ p. p.0) (f.on key) → IsListedBut g l key (changed_worker c) left
listed_near f g c l key left q h e o = subst (λ (x : Facts). IsListedBut x l key (changed_worker c) left) (sym q) (near_one f c l key left h e o)

rest_one : (f : Facts) (c : Change) (l : Lists) → IsSound f → IsListed f l → changed_key c ≡ None → IsListed (with_change f c) l
rest_one f c l s h e = record {
  placed_room = subst (λ (x : Setting). key_count x.shape ≤ room l.placed) (sym n.alike.setting) h.placed_room;
  shared_room = subst (λ (x : Setting). key_count x.shape ≤ room l.shared) (sym n.alike.setting) h.shared_room;
  rows = subst (λ (x : Setting). AreRows (key_count x.shape) l.rows.items) (sym n.alike.setting) h.rows;
  placed = λ k. h.placed k ∙ sym (ap (λ (p : ℕ → Option (ℕ × ℕ)). is_some (p k)) n.alike.on);
  shared = λ k. h.shared k ∙ sym (ap (ltb 1) (count_rest f s c e k));
  at = λ w k. h.at w k ∙ sym (λ i. is_some (n.has w k i) || is_for w (n.alike.on i k));
}
  where
    n : IsEqual f (with_change f c)
    n = equal_change f s c e

pub listed_rest : (f g : Facts) (c : Change) (l : Lists) → g ≡ with_change f c → IsSound f → IsListed f l → changed_key c ≡ None → IsListed g l
listed_rest f g c l q s h e = subst (λ (x : Facts). IsListed x l) (sym q) (rest_one f c l s h e)

-- the key is put where it belongs
pub record IsRelist (f : Facts) (l m : Lists) (mid : List (List ℕ)) (key : ℕ) (one other : Option ℕ) (is_on_one is_held_twice : Bool) : Type 0 where
  pub near : IsListedBut f l key one other
  pub on_one : is_on_one ≡ is_placed f key
  pub held_twice : is_held_twice ≡ is_shared f key
  pub placed : (k : ℕ) → has m.placed k ≡ cond (eqb k key) is_on_one (has l.placed k)
  pub placed_room : room m.placed ≡ room l.placed
  pub shared : (k : ℕ) → has m.shared k ≡ cond (eqb k key) is_held_twice (has l.shared k)
  pub shared_room : room m.shared ≡ room l.shared
  pub first : (w k : ℕ) → in_row mid w k ≡ cond (names one w && eqb key k) (is_at f w key) (in_row l.rows.items w k)
  pub second : (w k : ℕ) → in_row m.rows.items w k ≡ cond (names other w && eqb key k) (is_at f w key) (in_row mid w k)
  pub rows : AreRows (keys f) m.rows.items

set_is : (p : ℕ → Bool) (key k : ℕ) (b now old : Bool) → now ≡ cond (eqb k key) b old → b ≡ p key → (eqb k key ≡ false → old ≡ p k) → now ≡ p k
set_is p key k b now old h q r = h ∙ pick (eqb k key) refl
  where
    pick : (t : Bool) → eqb k key ≡ t → cond t b old ≡ p k
    pick true e = q ∙ ap p (sym (eqb-true k key e))
    pick false e = r e

row_is : (p : ℕ → Bool) (key k : ℕ) (a b : Bool) (now mid old : Bool) → mid ≡ cond (a && eqb key k) (p key) old → now ≡ cond (b && eqb key k) (p key) mid → (((a || b) && eqb k key) ≡ false → old ≡ p k) → now ≡ p k
row_is p key k a b now mid old d e r = e ∙ ap (cond (b && eqb key k) (p key)) d ∙ pick a b (eqb key k) refl refl refl
  where
    here : eqb key k ≡ true → p key ≡ p k
    here i = ap p (eqb-true key k i)

    far : eqb key k ≡ false → old ≡ p k
    far i = r (ap (λ t. (a || b) && t) (eqb_turned k key ∙ i) ∙ and-false (a || b))

    pick : (x y t : Bool) → a ≡ x → b ≡ y → eqb key k ≡ t → cond (y && t) (p key) (cond (x && t) (p key) old) ≡ p k
    pick true true true u v i = here i
    pick false true true u v i = here i
    pick true false true u v i = here i
    pick false false true u v i = r (λ j. (u j || v j) && eqb k key)
    pick true true false u v i = far i
    pick false true false u v i = far i
    pick true false false u v i = far i
    pick false false false u v i = far i

pub relisted : (f : Facts) (l m : Lists) (mid : List (List ℕ)) (key : ℕ) (one other : Option ℕ) (x y : Bool) → IsRelist f l m mid key one other x y → IsListed f m
relisted f l m mid key one other x y r = record {
  placed_room = omega (arith, r.placed_room, r.near.placed_room);
  shared_room = omega (arith, r.shared_room, r.near.shared_room);
  rows = r.rows;
  placed = λ k. set_is (is_placed f) key k x (has m.placed k) (has l.placed k) (r.placed k) r.on_one (r.near.placed k);
  shared = λ k. set_is (is_shared f) key k y (has m.shared k) (has l.shared k) (r.shared k) r.held_twice (r.near.shared k);
  at = λ w k. row_is (is_at f w) key k (names one w) (names other w) (in_row m.rows.items w k) (in_row mid w k) (in_row l.rows.items w k) (r.first w k) (r.second w k) (r.near.at w k);
}

-- a worker that holds a key or has it is one that there is a set for
at_connected : (f : Facts) (w k : ℕ) → IsSound f → is_at f w k ≡ true → connected f w ≡ true
at_connected f w k s e = pick (holds f w k) refl
  where
    pick : (b : Bool) → holds f w k ≡ b → connected f w ≡ true
    pick true i = s.holders w k i
    pick false i = s.places w k (ap (λ t. t || is_on f w k) (sym i) ∙ e)

pub at_there : (f : Facts) (w k n : ℕ) → IsSound f → 1024 < n → (ltb w n && is_at f w k) ≡ is_at f w k
at_there f w k n s l = pick (is_at f w k) refl
  where
    yes : (a b : ℕ) → a < b → (ltb a b && true) ≡ true
    yes a b m = grind (arith, nat_tests)

    pick : (b : Bool) → is_at f w k ≡ b → (ltb w n && b) ≡ b
    pick true e = let m : w ≤ f.last_worker = (s.numbers w (at_connected f w k s e)).1 in yes w n (omega (arith, m, s.few_numbers, l))
    pick false e = and-false (ltb w n)

pub row_named : (f : Facts) (v key w k : ℕ) (z : Bool) → cond (eqb v w && eqb key k) (is_at f v key) z ≡ cond (eqb v w && eqb key k) (is_at f w key) z
row_named f v key w k z = pick (eqb v w) refl
  where
    pick : (b : Bool) → eqb v w ≡ b → cond (b && eqb key k) (is_at f v key) z ≡ cond (b && eqb key k) (is_at f w key) z
    pick true e = ap (λ u. cond (eqb key k) (is_at f u key) z) (eqb-true v w e)
    pick false e = refl

-- the lists at first
pub listed_first : (f : Facts) (l : Lists) → f ≡ sched_opening f.setting → ((k : ℕ) → has l.placed k ≡ false) → ((k : ℕ) → has l.shared k ≡ false) → ((w k : ℕ) → in_row l.rows.items w k ≡ false) → keys f ≤ room l.placed → keys f ≤ room l.shared → AreRows (keys f) l.rows.items → IsListed f l
listed_first f l e p s r a b c = record {
  placed_room = a;
  shared_room = b;
  rows = c;
  placed = λ k. p k ∙ sym (ap (λ (g : Facts). is_some (g.on k)) e);
  shared = λ k. s k ∙ sym (ap (ltb 1) (holder_count-nowhere f none k));
  at = λ w k. r w k ∙ sym (ap (λ (g : Facts). is_at g w k) e);
}
  where
    none : (w k : ℕ) → f.has w k ≡ None
    none w k = ap (λ (g : Facts). g.has w k) e

-- listed keys are keys
pub placed_keys : (f : Facts) (l : Lists) → IsSound f → IsListed f l → IsSetOf (keys f) (is_placed f) l.placed
placed_keys f l s h = record { exact = h.placed; within = λ k e. ⊎_elim (λ a. a) (λ a. absurd (false≢true (sym (ap is_some (s.on k a)) ∙ sym (h.placed k) ∙ e))) (cases_lt k (keys f)) }

count_past : (f : Facts) (k : ℕ) → IsSound f → keys f ≤ k → holder_count f k ≡ 0
unfolding holder_count
count_past f k s l = total-zero (λ w. cond (holds f w k) 1 0) (from_one f.last_worker) (λ w. ap (λ o. cond (is_some o) 1 0) (s.has w k l))

pub shared_keys : (f : Facts) (l : Lists) → IsSound f → IsListed f l → IsSetOf (keys f) (is_shared f) l.shared
shared_keys f l s h = record { exact = h.shared; within = λ k e. ⊎_elim (λ a. a) (λ a. absurd (false≢true (sym (ap (ltb 1) (count_past f k s a)) ∙ sym (h.shared k) ∙ e))) (cases_lt k (keys f)) }
