-- A worker that has less to do: fewer keys are of use to it, and only those that it gave up are asked for anew.
use Rattle.std.proofs.Common.{◌≡◌, ℕ, ◌+◌, ◌≤◌, ◌<◌, Bool, true, false, cond, not, ◌&&◌, ◌||◌, List, [], ◌∷◌, refl, sym, ap, ◌∙◌, subst, arith, filter}
use Rattle.std.proofs.Math.Dec.{eqb}
use Rattle.std.specs.List.{list_any}
use Rattle.std.proofs.lemmas.Bool.{false≢true, true≢false, and_parts, and_from}
use Rattle.cluster_msgs.specs.Shape.{Shape, key_count, deps_of}
use Rattle.cluster_rules.specs.Functions.{total}
use Rattle.cluster_rules.specs.Derived.{is_in, below}
use Rattle.cluster_rules.specs.Worker.{WorkerFacts, worker_keys, is_asked_for, pending, awaited, flying, is_wanted, wstate, is_missing_state}
use Rattle.cluster_rules.specs.WorkerStep.{unasked_keys}
use Rattle.cluster_rules.specs.WorkerKept.{IsKept}
use Rattle.std.proofs.Math.Bool.{or-true}
use Rattle.quiet_measure.specs.Weights.{question, is_sought}
use Rattle.quiet_measure.proofs.Sums.{total_gain}
use Rattle.quiet_measure.proofs.Start.{any_more}

-- the sum over the members that pass
pub total_filter : (g : ℕ → ℕ) (t : ℕ → Bool) (xs : List ℕ) → total g (filter t xs) ≡ total (λ x. cond (t x) (g x) 0) xs
total_filter g t [] = refl
total_filter g t (x ∷ xs) = pick (t x) (total_filter g t xs)
  where
    pick : (b : Bool) → total g (filter t xs) ≡ total (λ y. cond (t y) (g y) 0) xs → total g (cond b (x ∷ filter t xs) (filter t xs)) ≡ cond b (g x) 0 + total (λ y. cond (t y) (g y) 0) xs
    pick true e = omega arith
    pick false e = omega arith

pub total_nothing : (xs : List ℕ) → total (λ x. 0) xs ≡ 0
total_nothing [] = refl
total_nothing (x ∷ xs) = let e : total (λ x. 0) xs ≡ 0 = total_nothing xs in omega arith

-- besides key k what is missing was so before, and asked for
pub asks_at_most : (n : ℕ) (d : ℕ → ℕ) (w v : WorkerFacts) (k : ℕ) → IsKept w → v.shape ≡ w.shape → ((q : ℕ) → eqb q k ≡ false → v.asked q ≡ w.asked q)
    → ((q : ℕ) → eqb q k ≡ false → is_missing_state (wstate v q) ≡ true → is_missing_state (wstate w q) ≡ true)
    → cond (is_missing_state (wstate v k) && not (v.asked k)) (question d k) 0 ≤ n → total (question d) (unasked_keys v) ≤ n
unfolding unasked_keys
asks_at_most n d w v k h s a m top =
    let e : total (question d) (filter test (worker_keys v)) ≡ total one (worker_keys v) = total_filter (question d) test (worker_keys v) in
    let l : total one (worker_keys v) ≤ total (λ x. 0) (worker_keys v) + n = total_gain one (λ x. 0) n k 0 (key_count v.shape) (λ q l. other q (omega (arith, l))) here in
    let z : total (λ x. 0) (worker_keys v) ≡ 0 = total_nothing (worker_keys v) in
    omega arith
  where
    test : ℕ → Bool
    test q = is_missing_state (wstate v q) && not (v.asked q)

    one : ℕ → ℕ
    one q = cond (test q) (question d q) 0

    zero_where : (b : Bool) (n : ℕ) → b ≡ false → cond b n 0 ≤ 0
    zero_where true n e = absurd (true≢false e)
    zero_where false n e = omega arith

    other : (q : ℕ) → q < key_count v.shape → eqb q k ≡ false → one q ≤ 0
    other q l o = zero_where (test q) (question d q) (by (is_missing_state (wstate v q)) refl)
      where
        by : (b : Bool) → is_missing_state (wstate v q) ≡ b → (b && not (v.asked q)) ≡ false
        by true e = ap not (a q o ∙ h.missing q (subst (λ (g : Shape). q < key_count g) s l) (m q o e))
        by false e = refl

    here : one k ≤ 0 + n
    here = omega (arith, top)

pub asks_once : (d : ℕ → ℕ) (w v : WorkerFacts) (k : ℕ) → IsKept w → v.shape ≡ w.shape → ((q : ℕ) → eqb q k ≡ false → v.asked q ≡ w.asked q)
    → ((q : ℕ) → eqb q k ≡ false → is_missing_state (wstate v q) ≡ true → is_missing_state (wstate w q) ≡ true)
    → total (question d) (unasked_keys v) ≤ question d k
asks_once d w v k h s a m = asks_at_most (question d k) d w v k h s a m (some_where (is_missing_state (wstate v k) && not (v.asked k)) (question d k))
  where
    some_where : (b : Bool) (n : ℕ) → cond b n 0 ≤ n
    some_where true n = omega arith
    some_where false n = omega arith

-- no more pending tasks, no more sought keys, and each block that was there
pub record IsFewer (w v : WorkerFacts) : Type 0 where
  pub shape : v.shape ≡ w.shape
  pub pending : (j : ℕ) → pending v j ≡ true → pending w j ≡ true
  pub sought : (k : ℕ) → v.sought k ≡ true → w.sought k ≡ true
  pub mem : (k : ℕ) → v.mem k ≡ false → w.mem k ≡ false
  pub asks : v.asks ≡ w.asks

pub fewer_wanted : (w v : WorkerFacts) → IsFewer w v → (q : ℕ) → is_wanted v q ≡ true → is_wanted w q ≡ true
unfolding awaited
fewer_wanted w v h q e = let p = and_parts (not (v.mem q)) (v.sought q || awaited v q) e in and_from _ _ (away p.0) (by (v.sought q) refl p.1)
  where
    flip : (b : Bool) → not b ≡ true → b ≡ false
    flip true e = absurd (false≢true e)
    flip false e = refl

    away : not (v.mem q) ≡ true → not (w.mem q) ≡ true
    away e = ap not (h.mem q (flip (v.mem q) e))

    awaits : awaited v q ≡ true → awaited w q ≡ true
    awaits e = any_more _ _ (worker_keys w) (λ j x. let p = and_parts (pending v j) (is_in q (deps_of w.shape j)) x in and_from _ _ (h.pending j p.0) p.1)
        (subst (λ (g : Shape). list_any (λ j. pending v j && is_in q (deps_of g j)) (below (key_count g)) ≡ true) h.shape e)

    by : (b : Bool) → v.sought q ≡ b → (b || awaited v q) ≡ true → (w.sought q || awaited w q) ≡ true
    by true s x = ap (λ b. b || awaited w q) (h.sought q s)
    by false s x = ap (λ b. w.sought q || b) (awaits x) ∙ or-true (w.sought q)

pub fewer_flying : (w v : WorkerFacts) → IsFewer w v → (q : ℕ) → flying v q ≡ flying w q
unfolding flying
fewer_flying w v h q = ap (λ l. is_asked_for l q) h.asks

pub fewer_sought : (w v : WorkerFacts) → IsFewer w v → (q : ℕ) → is_sought v q ≡ true → is_sought w q ≡ true
fewer_sought w v h q e = let p = and_parts (is_wanted v q) (not (flying v q)) e in and_from _ _ (fewer_wanted w v h q p.0) (sym (ap not (fewer_flying w v h q)) ∙ p.1)
