-- Changes one after another.
use Rattle.std.proofs.Common.{◌≡◌, ℕ, ◌+◌, ◌<◌, Bool, true, false, ◌||◌, refl, sym, ap, ◌∙◌, subst, length, List, get_or, take}
use Rattle.std.proofs.lemmas.Bool.{false≢true, eqb-true}
use Rattle.std.proofs.lemmas.List.{take_more}
use Rattle.std.proofs.Math.Dec.{eqb}
use Rattle.small_facts.proofs.Lists.{any_push, take_zero}
use Rattle.small_facts.proofs.Truth.{false_before}
use Rattle.cluster_rules.specs.Derived.{is_in}
use Rattle.cluster_rules.specs.Sched.{Facts, Setting, keys}
use Rattle.cluster_rules.specs.SchedTable.{joined}
use Rattle.key_sets.specs.Sets.{has}
use Rattle.task_table.specs.Tasks.{Tasks, facts, SameAt, IsTouched}
use Rattle.task_table.specs.Changes.{with_change}
use Rattle.task_table.specs.declared.change.Change.{Change}
use Rattle.task_table.specs.declared.change.Change.TheVariants.{Want, Unwant, Hold, Lose, Assign, Unassign, Steal, Unsteal, Fail, Count, Forgive, Connect, Disconnect, Send, Fence, Finish}
use Rattle.sched_changes.specs.Follows.{Follows, AreTouched}

same_here : (f : Facts) (k : ℕ) → SameAt f f k
same_here f k = record { known = refl; erred = refl; need = refl; held = refl; ready = refl; fed = refl; waiters = refl; bad = refl; losses = refl; on = refl; has = λ w. refl; want = λ c. refl }

pub same_then : (f g h : Facts) (k : ℕ) → SameAt f g k → SameAt g h k → SameAt f h k
same_then f g h k a b = record {
  known = b.known ∙ a.known;
  erred = b.erred ∙ a.erred;
  need = b.need ∙ a.need;
  held = b.held ∙ a.held;
  ready = b.ready ∙ a.ready;
  fed = b.fed ∙ a.fed;
  waiters = b.waiters ∙ a.waiters;
  bad = b.bad ∙ a.bad;
  losses = b.losses ∙ a.losses;
  on = b.on ∙ a.on;
  has = λ w. b.has w ∙ a.has w;
  want = λ c. b.want c ∙ a.want c;
}

-- nothing changed
pub follows_self : (s : Tasks) → Follows s s
follows_self s = record { setting = refl; touched = record { kept = λ k l e. same_here (facts s) k; grows = λ k e. e; held = refl; erred = refl } }

pub same_keys : (s t : Tasks) (k : ℕ) → Follows s t → k < keys (facts s) → k < keys (facts t)
same_keys s t k a l = subst (λ (c : Setting). k < length c.shape.deps) (sym a.setting) l

pub follows_then : (s t u : Tasks) → Follows s t → Follows t u → Follows s u
follows_then s t u a b = record {
  setting = b.setting ∙ a.setting;
  touched = record {
    kept = λ k l e. same_then (facts s) (facts t) (facts u) k (a.touched.kept k l (false_before (has t.touched k) (has u.touched k) (b.touched.grows k) e)) (b.touched.kept k (same_keys s t k a l) e);
    grows = λ k e. b.touched.grows k (a.touched.grows k e);
    held = b.touched.held ∙ a.touched.held;
    erred = b.touched.erred ∙ a.touched.erred;
  };
}

pub setting_changed : (f : Facts) (c : Change) → (with_change f c).setting ≡ f.setting
unfolding joined
setting_changed f (Want c k) = refl
setting_changed f (Unwant c k) = refl
setting_changed f (Hold w k) = refl
setting_changed f (Lose w k) = refl
setting_changed f (Assign k w) = refl
setting_changed f (Unassign k) = refl
setting_changed f (Steal k t r) = refl
setting_changed f (Unsteal k) = refl
setting_changed f (Fail k) = refl
setting_changed f (Count k) = refl
setting_changed f (Forgive k) = refl
setting_changed f (Connect t) = refl
setting_changed f (Disconnect w) = refl
setting_changed f (Send w) = refl
setting_changed f (Fence w k) = refl
setting_changed f Finish = refl

-- one change
pub follows_one : (s t : Tasks) (c : Change) → facts t ≡ with_change (facts s) c → IsTouched (facts s) (facts t) s t → Follows s t
follows_one s t c e h = record { setting = ap (λ (g : Facts). g.setting) e ∙ setting_changed (facts s) c; touched = h }

-- keys that are touched stay so
pub still_touched : (s t : Tasks) (ks : List ℕ) → Follows s t → AreTouched s ks → AreTouched t ks
still_touched s t ks a h k e = a.touched.grows k (h k e)

pub touched_none : (t : Tasks) (ks : List ℕ) → AreTouched t (take 0 ks)
touched_none t ks k e = absurd (false≢true (sym (ap (is_in k) (take_zero ks)) ∙ e))

-- one more of them
pub touched_next : (s t : Tasks) (ks : List ℕ) (i x : ℕ) → i < length ks → x ≡ get_or ks i 0 → Follows s t → has t.touched x ≡ true → AreTouched s (take i ks) → AreTouched t (take (i + 1) ks)
touched_next s t ks i x l e a n h k b = pick (is_in k (take i ks)) (eqb x k) refl refl (sym (ap (is_in k) (take_more ks i 0 l) ∙ any_push (λ d. eqb d k) (take i ks) (get_or ks i 0) ∙ ap (λ y. is_in k (take i ks) || eqb y k) (sym e)) ∙ b)
  where
    pick : (p q : Bool) → is_in k (take i ks) ≡ p → eqb x k ≡ q → (is_in k (take i ks) || eqb x k) ≡ true → has t.touched k ≡ true
    pick true q u v w = a.touched.grows k (h k u)
    pick false true u v w = ap (has t.touched) (sym (eqb-true x k v)) ∙ n
    pick false false u v w = absurd (false≢true (sym ((λ i. u i || v i)) ∙ w))
