-- Steps of depth-first visits.
use Rattle.std.proofs.Common.{◌≡◌, ℕ, zero, suc, ◌+◌, ◌<◌, Bool, true, false, ◌||◌, List, [], ◌∷◌, ◌++◌, length, map, drop, get_or, refl, ap, sym, ◌∙◌, subst, arith}
use Rattle.std.specs.Prelude.{nat_eq}
use Rattle.std.specs.List.{AllByRecursion}
use Rattle.std.proofs.Math.Seq.{drop-cons}
use Rattle.small_facts.proofs.Numbers.{unequal_over}
use Rattle.cluster_msgs.specs.Dags.{IsEarlier}
use Rattle.cluster_msgs.proofs.Dags.{dag-step, all-weaker}
use Rattle.task_graph.specs.declared.orders.Frame.{Frame}
use Rattle.task_graph.specs.Numbers.{Numbers}
use Rattle.task_graph.specs.Orders.{is_in, visit_all, visit_within}
use Rattle.task_graph.specs.Walks.{with_visit, visit, visits_rest, costs, weight_step, weight, frame_weight, AreUnderWay, IsStep}
use Rattle.task_graph.proofs.Numbered.{in-more}

-- ---- visits

visit-all-same : (v w : ℕ → List ℕ → List ℕ) (ks done : List ℕ) → AllByRecursion (λ k. (done : List ℕ) → v k done ≡ w k done) ks → visit_all v ks done ≡ visit_all w ks done
visit-all-same v w [] done h = refl
visit-all-same v w (k ∷ ks) done h = ap (visit_all v ks) (h.0 done) ∙ visit-all-same v w ks (w k done) h.1

abbrev numbered : ℕ → List ℕ → Bool → List ℕ → List ℕ
numbered k done true all = done
numbered k done false all = all ++ k ∷ []

within-is : (f : ℕ) (deps : ℕ → List ℕ) (k : ℕ) (done : List ℕ) → visit_within (suc f) deps k done ≡ numbered k done (is_in done k) (visit_all (visit_within f deps) (deps k) done)
within-is f deps k done = by_case (is_in done k)
  where
    by_case : (b : Bool) → elim b [ true ↦ done | false ↦ visit_all (visit_within f deps) (deps k) done ++ k ∷ [] ] ≡ numbered k done b (visit_all (visit_within f deps) (deps k) done)
    by_case true = refl
    by_case false = refl

-- where a visit may go deep enough, it doesn't matter how deep
visit-enough : (deps : ℕ → List ℕ) → IsEarlier deps → (f g k : ℕ) → k < f → k < g → (done : List ℕ) → visit_within f deps k done ≡ visit_within g deps k done
visit-enough deps e zero g k p q done = absurd (omega arith)
visit-enough deps e (suc f) zero k p q done = absurd (omega arith)
visit-enough deps e (suc f) (suc g) k p q done =
    within-is f deps k done
    ∙ ap (numbered k done (is_in done k)) (visit-all-same (visit_within f deps) (visit_within g deps) (deps k) done (all-weaker (λ d. d < k) _ (deps k) (λ d h. visit-enough deps e f g d (omega arith) (omega arith)) (e.below k)))
    ∙ sym (within-is g deps k done)

-- a visit where depth doesn't matter
visit-is : (deps : ℕ → List ℕ) → IsEarlier deps → (k : ℕ) (done : List ℕ) → visit deps k done ≡ numbered k done (is_in done k) (visit_all (visit deps) (deps k) done)
visit-is deps e k done =
    within-is k deps k done
    ∙ ap (numbered k done (is_in done k)) (visit-all-same (visit_within k deps) (visit deps) (deps k) done (all-weaker (λ d. d < k) _ (deps k) (λ d h. visit-enough deps e k (suc d) d h (omega arith)) (e.below k)))

pub visit-old : (deps : ℕ → List ℕ) → IsEarlier deps → (k : ℕ) (done : List ℕ) → is_in done k ≡ true → visit deps k done ≡ done
visit-old deps e k done h = visit-is deps e k done ∙ ap (λ b. numbered k done b (visit_all (visit deps) (deps k) done)) h

pub visit-new : (deps : ℕ → List ℕ) → IsEarlier deps → (k : ℕ) (done : List ℕ) → is_in done k ≡ false → visit deps k done ≡ visit_all (visit deps) (deps k) done ++ k ∷ []
visit-new deps e k done h = visit-is deps e k done ∙ ap (λ b. numbered k done b (visit_all (visit deps) (deps k) done)) h

pub visits-are : (deps : ℕ → List ℕ) → IsEarlier deps → (f : ℕ) (ks done : List ℕ) → AllByRecursion (λ k. k < f) ks → visit_all (visit_within f deps) ks done ≡ visit_all (visit deps) ks done
visits-are deps e f ks done h = visit-all-same (visit_within f deps) (visit deps) ks done (all-weaker (λ k. k < f) _ ks (λ k p. visit-enough deps e f (suc k) k p (omega arith)) h)

-- ---- weights

pub weight-is : (deps : ℕ → List ℕ) → IsEarlier deps → (k : ℕ) → weight deps k ≡ suc (costs (map (weight deps) (deps k)))
unfolding weight
weight-is deps e k = dag-step deps weight_step 0 e k

-- ---- steps

fresh-more : (xs : List ℕ) (k j : ℕ) → is_in xs j ≡ false → k < j → is_in (xs ++ k ∷ []) j ≡ false
fresh-more xs k j h lt = in-more xs k j ∙ ap (λ b. b || (nat_eq j k || false)) h ∙ ap (λ b. b || false) (unequal_over j k lt)

under-more : (deps : ℕ → List ℕ) (keys : ℕ) (done : List ℕ) (k : ℕ) (fs : List Frame) → AllByRecursion (λ (g : Frame). k < g.key) fs → AreUnderWay deps keys done fs → AreUnderWay deps keys (done ++ k ∷ []) fs
under-more deps keys done k [] a u = tt
under-more deps keys done k (f ∷ fs) a u = let one = u.0 in (record { there = one.there; next = one.next; fresh = fresh-more done k f.key one.fresh a.0 }, u.1, under-more deps keys done k fs a.1 u.2)

abbrev pub next_frame : Frame → Frame
next_frame f = record { key = f.key; next = f.next + 1 }

abbrev pub first_frame : ℕ → Frame
first_frame k = record { key = k; next = 0 }

pub rest-cons : (ds : List ℕ) (i : ℕ) → i < length ds → drop i ds ≡ get_or ds i 0 ∷ drop (i + 1) ds
rest-cons ds i h = let one : suc i ≡ i + 1 = omega arith in drop-cons ds i 0 h ∙ ap (λ n. get_or ds i 0 ∷ drop n ds) one

-- the key is numbered behind its dependencies
pub step-numbers : (deps : ℕ → List ℕ) (f : Frame) (fs : List Frame) (old : Numbers) → AreUnderWay deps old.keys old.order (f ∷ fs) → f.next ≡ length (deps f.key)
    → IsStep deps (f ∷ fs) old fs (record { keys = old.keys; order = old.order ++ f.key ∷ [] })
step-numbers deps f fs old u at = record {
  keys = refl;
  begun = under-more deps old.keys old.order f.key fs u.1 u.2;
  same = ap (λ ds. visits_rest deps fs (visit_all (visit deps) ds old.order ++ f.key ∷ [])) (sym (ap (λ n. drop n (deps f.key)) at ∙ none (deps f.key)));
  fewer = omega arith;
}
  where
    none : (ds : List ℕ) → drop (length ds) ds ≡ []
    none [] = refl
    none (d ∷ ds) = none ds

-- the next dependency is numbered
pub step-passes : (deps : ℕ → List ℕ) → IsEarlier deps → (f : Frame) (fs : List Frame) (old : Numbers) → AreUnderWay deps old.keys old.order (f ∷ fs) → f.next < length (deps f.key)
    → is_in old.order (get_or (deps f.key) f.next 0) ≡ true → IsStep deps (f ∷ fs) old (next_frame f ∷ fs) old
step-passes deps e f fs old u lt h =
    let d = get_or (deps f.key) f.next 0 in
    let one = u.0 in
    let cut : drop f.next (deps f.key) ≡ get_or (deps f.key) f.next 0 ∷ drop (f.next + 1) (deps f.key) = rest-cons (deps f.key) f.next lt in
    let weigh : frame_weight deps f ≡ suc (suc (weight deps (get_or (deps f.key) f.next 0)) + costs (map (weight deps) (drop (f.next + 1) (deps f.key)))) = ap (λ ds. suc (costs (map (weight deps) ds))) cut in
    record {
      keys = refl;
      begun = (record { there = one.there; next = omega arith; fresh = one.fresh }, u.1, u.2);
      same =
          ap (λ done. visits_rest deps fs (visit_all (visit deps) (drop (f.next + 1) (deps f.key)) done ++ f.key ∷ [])) (sym (visit-old deps e (get_or (deps f.key) f.next 0) old.order h))
          ∙ ap (λ ds. visits_rest deps fs (visit_all (visit deps) ds old.order ++ f.key ∷ [])) (sym cut);
      fewer = omega arith;
    }

-- the next dependency is visited first
pub step-enters : (deps : ℕ → List ℕ) → IsEarlier deps → (f : Frame) (fs : List Frame) (old : Numbers) → AreUnderWay deps old.keys old.order (f ∷ fs) → f.next < length (deps f.key)
    → is_in old.order (get_or (deps f.key) f.next 0) ≡ false → IsStep deps (f ∷ fs) old (first_frame (get_or (deps f.key) f.next 0) ∷ next_frame f ∷ fs) old
step-enters deps e f fs old u lt h =
    let d = get_or (deps f.key) f.next 0 in
    let one = u.0 in
    let low : get_or (deps f.key) f.next 0 < f.key = member (deps f.key) f.next (e.below f.key) lt in
    let cut : drop f.next (deps f.key) ≡ get_or (deps f.key) f.next 0 ∷ drop (f.next + 1) (deps f.key) = rest-cons (deps f.key) f.next lt in
    let weigh : frame_weight deps f ≡ suc (suc (weight deps (get_or (deps f.key) f.next 0)) + costs (map (weight deps) (drop (f.next + 1) (deps f.key)))) = ap (λ ds. suc (costs (map (weight deps) ds))) cut in
    let entered : frame_weight deps (first_frame (get_or (deps f.key) f.next 0)) ≡ weight deps (get_or (deps f.key) f.next 0) = sym (weight-is deps e (get_or (deps f.key) f.next 0)) in
    record {
      keys = refl;
      begun = (
        record { there = let q = one.there in omega arith; next = omega arith; fresh = h },
        (low, all-weaker (λ (g : Frame). f.key < g.key) (λ (g : Frame). get_or (deps f.key) f.next 0 < g.key) fs (λ g p. omega arith) u.1),
        (record { there = one.there; next = omega arith; fresh = one.fresh }, u.1, u.2),
      );
      same =
          ap (λ done. visits_rest deps fs (visit_all (visit deps) (drop (f.next + 1) (deps f.key)) done ++ f.key ∷ [])) (sym (visit-new deps e (get_or (deps f.key) f.next 0) old.order h))
          ∙ ap (λ ds. visits_rest deps fs (visit_all (visit deps) ds old.order ++ f.key ∷ [])) (sym cut);
      fewer = omega arith;
    }
  where
    member : (ds : List ℕ) (i : ℕ) → AllByRecursion (λ d. d < f.key) ds → i < length ds → get_or ds i 0 < f.key
    member [] i a h = absurd (omega arith)
    member (d ∷ ds) zero a h = a.0
    member (d ∷ ds) (suc i) a h = member ds i a.1 (omega arith)

-- the next dependency, numbered or not
pub step-goes-on : (deps : ℕ → List ℕ) → IsEarlier deps → (f : Frame) (fs : List Frame) (old : Numbers) → AreUnderWay deps old.keys old.order (f ∷ fs) → f.next < length (deps f.key)
    → (d : ℕ) → d ≡ get_or (deps f.key) f.next 0 → IsStep deps (f ∷ fs) old (with_visit d (is_in old.order d) (next_frame f ∷ fs)) old
step-goes-on deps e f fs old u lt d is = subst (λ k. IsStep deps (f ∷ fs) old (with_visit k (is_in old.order k) (next_frame f ∷ fs)) old) (sym is) (by_case (is_in old.order (get_or (deps f.key) f.next 0)) refl)
  where
    by_case : (b : Bool) → is_in old.order (get_or (deps f.key) f.next 0) ≡ b → IsStep deps (f ∷ fs) old (with_visit (get_or (deps f.key) f.next 0) b (next_frame f ∷ fs)) old
    by_case true h = step-passes deps e f fs old u lt h
    by_case false h = step-enters deps e f fs old u lt h

-- what is known within a visit
pub record IsVisiting (deps : ℕ → List ℕ) (keys : ℕ) (key : ℕ) (start : List ℕ) (begun : List Frame) (now : Numbers) : Type 0 where
  pub whole : now.keys ≡ keys
  pub under : AreUnderWay deps keys now.order begun
  pub same : visits_rest deps begun now.order ≡ visit deps key start

pub visit-begins : (deps : ℕ → List ℕ) → IsEarlier deps → (keys key : ℕ) (numbers : Numbers) → numbers.keys ≡ keys → key < keys → is_in numbers.order key ≡ false → IsVisiting deps keys key numbers.order (first_frame key ∷ []) numbers
visit-begins deps e keys key numbers w lt h = record {
  whole = w;
  under = (record { there = lt; next = omega arith; fresh = h }, tt, tt);
  same = sym (visit-new deps e key numbers.order h);
}

pub visit-steps : (deps : ℕ → List ℕ) (keys key : ℕ) (start : List ℕ) (before : List Frame) (old : Numbers) (after : List Frame) (new : Numbers)
    → IsVisiting deps keys key start before old → IsStep deps before old after new → IsVisiting deps keys key start after new
visit-steps deps keys key start before old after new v s = record {
  whole = s.keys ∙ v.whole;
  under = subst (λ n. AreUnderWay deps n new.order after) v.whole s.begun;
  same = s.same ∙ v.same;
}
