-- The rows of joining, leaving and wanting, for each worker and key.
use Rattle.std.proofs.Common.{◌≡◌, ℕ, Bool, true, false, cond, Option, Some, None, refl, sym, ap, ◌∙◌, is_some, inl, inr, ◌⊎◌}
use Rattle.std.proofs.lemmas.Bool.{false≢true, eqb-true}
use Rattle.std.proofs.Math.Dec.{eqb}
use Rattle.small_facts.proofs.Numbers.{eqb_self}
use Rattle.cluster_rules.specs.Sched.{Facts, IsSound, connected, is_on, is_for}
use Rattle.cluster_rules.specs.SchedTable.{plain, joined, left}
use Rattle.cluster_laws.specs.Settled.{IsSettled}
use Rattle.pair_machine.specs.Pair.{Quiet}
use Rattle.pair_moves.specs.Projection.{at_worker, Side, IsNumbered}
use Rattle.pair_moves.proofs.Rows.{Moved, Ended, IsPlain, calm_row, quiet_calm, same_moved}

pub joined_row : (f : Facts) (threads w k : ℕ) (s : Side) → IsSound f → IsSettled f → IsNumbered f → IsPlain f (plain (joined f threads)) w k Quiet s
unfolding joined
joined_row f threads w k s sound t n = calm_row f _ w k Quiet s sound t n (quiet_calm f _ w k s (same_moved f _ t k refl refl) (inl (refl, refl)) refl refl (λ x. tt))

pub moved_left : (f : Facts) → IsSettled f → (v k : ℕ) → Moved f (left f v) k
unfolding left
moved_left f t v k = pick (is_on f v k) refl
  where
    pick : (b : Bool) → is_on f v k ≡ b → Moved f (left f v) k
    pick true e = Ended (ap (λ b. cond b None (f.on k)) e) (ap (λ b. cond b None (f.steal k)) e)
    pick false e = same_moved f _ t k (ap (λ b. cond b None (f.on k)) e) (ap (λ b. cond b None (f.steal k)) e)

pub left_row : (f : Facts) (v w k : ℕ) (s : Side) → connected (left f v) w ≡ true → IsSound f → IsSettled f → IsNumbered f → IsPlain f (plain (left f v)) w k Quiet s
unfolding left
left_row f v w k s there sound t n = calm_row f _ w k Quiet s sound t n (quiet_calm f _ w k s (moved_left f t v k) (place (is_on f v k) refl) (ap (λ b. is_some (cond b None (f.has w k))) apart) refl (λ x. tt))
  where
    apart_by : (b : Bool) → eqb w v ≡ b → is_some (cond b None (f.threads w)) ≡ true → b ≡ false
    apart_by true e h = absurd (false≢true h)
    apart_by false e h = refl

    apart : eqb w v ≡ false
    apart = apart_by (eqb w v) refl there

    not_there : (o : Option (ℕ × ℕ)) → is_for v o ≡ true → at_worker w o ≡ None
    not_there None e = refl
    not_there (Some p) e = ap (λ x. cond (eqb x w) (Some p.1) None) (eqb-true p.0 v e) ∙ ap (λ b. cond b (Some p.1) None) (swap (eqb v w) refl)
      where
        swap : (b : Bool) → eqb v w ≡ b → b ≡ false
        swap true i = absurd (false≢true (sym apart ∙ ap (λ x. eqb x v) (sym (eqb-true v w i)) ∙ eqb_self v))
        swap false i = refl

    place : (b : Bool) → is_on f v k ≡ b → (((left f v).on k ≡ f.on k) × ((left f v).steal k ≡ f.steal k)) ⊎ (at_worker w (f.on k) ≡ None)
    place true e = inr (not_there (f.on k) e)
    place false e = inl (ap (λ b. cond b None (f.on k)) e, ap (λ b. cond b None (f.steal k)) e)
