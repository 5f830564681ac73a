-- How often keys lose their workers: what each event counts, and that no more than one above what is allowed is ever counted.
use Rattle.std.proofs.Common.{◌≡◌, ℕ, ◌+◌, ◌≤◌, Bool, true, false, ◌&&◌, ◌||◌, cond, Option, Some, None, refl, sym, ap, ◌∙◌, subst, arith, ⊎_elim}
use Rattle.std.specs.Prelude.{nat_lt}
use Rattle.std.specs.List.{list_any}
use Rattle.std.proofs.lemmas.Bool.{false≢true, or_left, or_right, and_from, ltb-true, lt-ltb, cases_lt}
use Rattle.cluster_msgs.specs.Shape.{deps_of, key_count}
use Rattle.cluster_msgs.specs.declared.cores.SchedEvent.{SchedEvent}
use Rattle.cluster_msgs.specs.declared.cores.SchedEvent.TheVariants.{Join, Leave, FromWorker, FromClient, Balance, Evict, Replicate}
use Rattle.cluster_rules.specs.Functions.{from_one}
use Rattle.cluster_rules.specs.Derived.{reach}
use Rattle.cluster_rules.specs.Sched.{Setting, Facts, IsSound, is_on, is_above, wanted, known}
use Rattle.cluster_rules.specs.SchedTable.{change, left}
use Rattle.cluster_rules.specs.SchedStep.{sched_step}
use Rattle.cluster_rules.proofs.SchedFrame.{step_settles}
use Rattle.cluster_laws.specs.Settled.{IsSettled}
use Rattle.cluster_laws.proofs.Framed.{IsFramed, loses_by, change_framed}
use Rattle.cluster_laws.proofs.Errors.{on_is_some, ready_is_not_bad}

-- what a key with more losses than are allowed is, and how many it has at most
pub record AreCapped (f : Facts) : Type 0 where
  pub killed : (k : ℕ) → is_above f.setting.allowed (f.losses k) ≡ true → f.bad k ≡ true
  pub stop : (k a : ℕ) → f.setting.allowed ≡ Some a → f.losses k ≤ a + 1

pub none_above : (o : Option ℕ) → is_above o 0 ≡ true → ⊥
none_above None e = false≢true e
none_above (Some a) e = absurd (omega (arith, ltb-true a 0 e))

capped_from : (f : Facts) → IsSettled f → AreCapped f
capped_from f t = record { killed = t.killed_are_errors; stop = t.losses_stop }

-- an event that takes no worker away
capped_kept : (f g : Facts) (n : ℕ) → AreCapped f → IsFramed f n (λ k. false) g → AreCapped g
capped_kept f g n c h = record {
  killed = λ k e. h.bad k (c.killed k (ap (λ (s : Setting). is_above s.allowed (f.losses k)) (sym h.setting) ∙ ap (λ m. is_above g.setting.allowed m) (sym (h.losses k)) ∙ e));
  stop = λ k a e. subst (λ m. m ≤ a + 1) (sym (h.losses k)) (c.stop k a (ap (λ (s : Setting). s.allowed) (sym h.setting) ∙ e));
}

-- a key that is assigned has no more losses than are allowed
assigned_is_below : (f : Facts) → IsSound f → IsSettled f → (w k a : ℕ) → is_on f w k ≡ true → f.setting.allowed ≡ Some a → f.losses k ≤ a
assigned_is_below f s t w k a e q = pick (nat_lt a (f.losses k)) refl
  where
    pick : (b : Bool) → nat_lt a (f.losses k) ≡ b → f.losses k ≤ a
    pick true y = absurd (ready_is_not_bad f s k (t.placed_are_ready k (on_is_some w (f.on k) e)) (t.killed_are_errors k (ap (λ o. is_above o (f.losses k)) q ∙ y)))
    pick false y = at_most a (f.losses k) y
      where
        at_most : (a n : ℕ) → nat_lt a n ≡ false → n ≤ a
        at_most a n y = ⊎_elim (λ l. absurd (false≢true (sym y ∙ lt-ltb a n l))) (λ l. l) (cases_lt a n)

capped_left : (f : Facts) → IsSound f → IsSettled f → (w : ℕ) → AreCapped (left f w)
unfolding left
capped_left f s t w = record {
  killed = λ k e. killed k (is_on f w k) refl e;
  stop = λ k a q. stop k a q (is_on f w k) refl;
}
  where
    killed : (k : ℕ) (b : Bool) → is_on f w k ≡ b → is_above f.setting.allowed (cond b (f.losses k + 1) (f.losses k)) ≡ true → (f.bad k || (is_on f w k && is_above f.setting.allowed (f.losses k + 1))) ≡ true
    killed k true y e = or_right (f.bad k) _ (and_from (is_on f w k) (is_above f.setting.allowed (f.losses k + 1)) y e)
    killed k false y e = or_left (f.bad k) _ (t.killed_are_errors k e)

    stop : (k a : ℕ) → f.setting.allowed ≡ Some a → (b : Bool) → is_on f w k ≡ b → cond b (f.losses k + 1) (f.losses k) ≤ a + 1
    stop k a q true y = let l = assigned_is_below f s t w k a y q in omega (arith, l)
    stop k a q false y = t.losses_stop k a q

pub capped_changed : (f : Facts) → IsSound f → IsSettled f → (e : SchedEvent) → AreCapped (change f e).facts
capped_changed f s t (Join threads) = capped_kept f _ 1 (capped_from f t) (change_framed f (Join threads))
capped_changed f s t (Leave w) = capped_left f s t w
capped_changed f s t (FromWorker w m) = capped_kept f _ 0 (capped_from f t) (change_framed f (FromWorker w m))
capped_changed f s t (FromClient c m) = capped_kept f _ 0 (capped_from f t) (change_framed f (FromClient c m))
capped_changed f s t Balance = capped_kept f _ 0 (capped_from f t) (change_framed f Balance)
capped_changed f s t Evict = capped_kept f _ 0 (capped_from f t) (change_framed f Evict)
capped_changed f s t (Replicate k w) = capped_from f t

-- ## What an event counts

known_by : (f g : Facts) → g.setting ≡ f.setting → g.want ≡ f.want → known g ≡ known f
unfolding known wanted
known_by f g e h = λ i. reach (deps_of (e i).shape) (key_count (e i).shape) (λ k. list_any (λ c. h i c k) (from_one (e i).clients)) (λ _. true)

pub step_known : (f : Facts) (e : SchedEvent) → known (sched_step f e).facts ≡ known (change f e).facts
step_known f e = known_by (change f e).facts (sched_step f e).facts (step_settles f e).setting (step_settles f e).want

-- a key that is known afterwards has one loss more where it lost its worker, and another has none
pub step_losses : (f : Facts) (e : SchedEvent) (k : ℕ) → (sched_step f e).facts.losses k ≡ cond (known (sched_step f e).facts k) (cond (loses_by f e k) (f.losses k + 1) (f.losses k)) 0
step_losses f e k = (step_settles f e).losses k
    ∙ ap (λ n. cond (known (change f e).facts k) n 0) ((change_framed f e).losses k)
    ∙ ap (λ (b : ℕ → Bool). cond (b k) (cond (loses_by f e k) (f.losses k + 1) (f.losses k)) 0) (sym (step_known f e))
