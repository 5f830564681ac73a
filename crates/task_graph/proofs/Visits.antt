-- A depth-first visit numbers keys behind all that they depend on.
use Rattle.std.proofs.Common.{◌≡◌, ◌≢◌, ℕ, zero, suc, ◌+◌, ◌-◌, ◌<◌, ◌≤◌, Bool, true, false, ◌||◌, List, [], ◌∷◌, ◌++◌, length, map, get_or, refl, ap, sym, subst, ◌∙◌, arith, inl, inr, length-append, append_assoc, append-nil, eq-eqb, ne_eqb}
use Rattle.std.specs.Prelude.{nat_eq, Contains}
use Rattle.std.specs.List.{AllByRecursion}
use Rattle.std.proofs.lemmas.Bool.{cases_eq, cases_lt}
use Rattle.std.proofs.lemmas.List.{get_or_append_left, get_or-append_right, get_or_push, get_or_default, get_or_past, get_or-map, length-map}
use Rattle.std.proofs.lemmas.List.Sums.{position_or_len_is}
use Rattle.std.proofs.lemmas.List.Elements.{Contains-append_left}
use Rattle.small_facts.proofs.Every.{all_join, all_below_weaker, all_below_at, all_from_members}
use Rattle.small_facts.proofs.Numbers.{equal_turned}
use Rattle.cluster_msgs.specs.Dags.{IsEarlier}
use Rattle.cluster_msgs.specs.Shape.{deps_of}
use Rattle.task_graph.specs.declared.graph.Task.{Task}
use Rattle.task_graph.specs.Graphs.{task_at, no_task, shape_of}
use Rattle.task_graph.specs.Orders.{is_in, position, ascending, visit_all, visit_within, depth_first, renumbered, moved_task}
use Rattle.task_graph.proofs.Making.{deps-at}
use Rattle.task_graph.specs.Numberings.{IsNumbering, AreBehind}
use Rattle.task_graph.proofs.Renumbered.{ascending-from}

-- what a visit adds
pub record Visited (deps : ℕ → List ℕ) (bound : ℕ) (done all : List ℕ) : Type 0 where
  pub sound : AreBehind deps all
  pub more : List ℕ
  pub all_is : all ≡ done ++ more
  pub small : AllByRecursion (λ k. k < bound) more

pub in-from : (xs : List ℕ) (k : ℕ) → is_in xs k ≡ true → Contains xs k
in-from [] k h = cc
in-from (x ∷ xs) k h = by_case (nat_eq k x) refl h (in-from xs k)
  where
    by_case : (b : Bool) → nat_eq k x ≡ b → (b || is_in xs k) ≡ true → (is_in xs k ≡ true → Contains xs k) → Contains (x ∷ xs) k
    by_case true e h f = (0, omega arith, equal_turned k x e)
    by_case false e h f = let c = f h in (suc c.0, omega (arith, c.1), c.2)

pub not-in : (xs : List ℕ) (k : ℕ) → is_in xs k ≡ false → (i : ℕ) → i < length xs → get_or xs i 0 ≢ k
not-in [] k h i lt e = absurd (omega arith)
not-in (x ∷ xs) k h i lt e = by_case (nat_eq k x) refl h (not-in xs k) i lt e
  where
    other : (k x : ℕ) → nat_eq k x ≡ false → x ≡ k → ⊥
    other k x f e = grind arith

    by_case : (b : Bool) → nat_eq k x ≡ b → (b || is_in xs k) ≡ false → (is_in xs k ≡ false → (i : ℕ) → i < length xs → get_or xs i 0 ≢ k) → (i : ℕ) → i < length (x ∷ xs) → get_or (x ∷ xs) i 0 ≢ k
    by_case true t h f i lt e = cc
    by_case false t h f zero lt e = other k x t e
    by_case false t h f (suc i) lt e = f h i (omega arith) e

-- one more key, behind what it depends on
push-behind : (deps : ℕ → List ℕ) (all : List ℕ) (k : ℕ) → AreBehind deps all → ((i : ℕ) → i < length all → get_or all i 0 ≢ k) → ((d : ℕ) → Contains (deps k) d → Contains all d) → AreBehind deps (all ++ k ∷ [])
push-behind deps all k s new has =
    let len : length (all ++ k ∷ []) ≡ length all + 1 = length-append all (k ∷ []) in
    record {
      fresh = λ i j a b e.
          let ei : get_or (all ++ k ∷ []) i 0 ≡ get_or all i 0 = get_or_append_left all (k ∷ []) 0 i (omega arith) in
          elim (cases_lt j (length all)) [
            | inl lt ↦ s.fresh i j a lt (sym ei ∙ e ∙ get_or_append_left all (k ∷ []) 0 j lt)
            | inr ge ↦ let z : j ≡ length all = omega arith in new i (omega arith) (sym ei ∙ e ∙ get_or_push all k 0 j (sym z))
          ];
      behind = λ j d b c.
          elim (cases_lt j (length all)) [
            | inl lt ↦ let r = s.behind j d lt (subst (λ x. Contains (deps x) d) (get_or_append_left all (k ∷ []) 0 j lt) c) in
                (r.0, r.1, get_or_append_left all (k ∷ []) 0 r.0 (omega (arith, r.1)) ∙ r.2)
            | inr ge ↦ let z : j ≡ length all = omega arith in
                let h = has d (subst (λ x. Contains (deps x) d) (get_or_push all k 0 j (sym z)) c) in
                (h.0, omega (arith, h.1), get_or_append_left all (k ∷ []) 0 h.0 h.1 ∙ sym (get_or_default all h.0 d 0 h.1) ∙ h.2)
          ];
    }

-- a visit of one key, which is below `f`
abbrev VisitsWell : (ℕ → List ℕ) → ℕ → (ℕ → List ℕ → List ℕ) → Type 0
VisitsWell deps f visit = (k : ℕ) (done : List ℕ) → k < f → AreBehind deps done → Visited deps (suc k) done (visit k done) × Contains (visit k done) k

visits-all : (deps : ℕ → List ℕ) (f bound : ℕ) (visit : ℕ → List ℕ → List ℕ) → VisitsWell deps f visit → bound ≤ f → (ks : List ℕ) (done : List ℕ) → AllByRecursion (λ k. k < bound) ks → AreBehind deps done
    → Visited deps bound done (visit_all visit ks done) × ((k : ℕ) → Contains ks k → Contains (visit_all visit ks done) k)
visits-all deps f bound visit well le [] done a s = (record { sound = s; more = []; all_is = sym (append-nil done); small = tt }, λ k c. absurd (omega (arith, c.1)))
visits-all deps f bound visit well le (x ∷ ks) done a s =
    let one = well x done (omega (arith, a.0)) s in
    let v = one.0 in
    let rest = visits-all deps f bound visit well le ks (visit x done) a.1 v.sound in
    let r = rest.0 in (
      record {
        sound = r.sound;
        more = v.more ++ r.more;
        all_is = r.all_is ∙ ap (λ (xs : List ℕ). xs ++ r.more) v.all_is ∙ append_assoc done v.more r.more;
        small = all_join (λ k. k < bound) v.more r.more (all_below_weaker (suc x) bound v.more (omega (arith, a.0)) v.small) r.small;
      },
      λ k c. elim (cases_eq x k) [
        | inl e ↦ subst (λ xs. Contains xs k) (sym r.all_is) (Contains-append_left (visit x done) r.more k (subst (Contains (visit x done)) e one.1))
        | inr d ↦ rest.1 k (later k x ks c d)
      ],
    )
  where
    later : (k x : ℕ) (ks : List ℕ) → Contains (x ∷ ks) k → x ≢ k → Contains ks k
    later k x ks c d = go k x ks c.0 c.1 c.2 d
      where
        go : (k x : ℕ) (ks : List ℕ) (i : ℕ) → i < length (x ∷ ks) → get_or (x ∷ ks) i k ≡ k → x ≢ k → Contains ks k
        go k x ks zero h e d = absurd (d e)
        go k x ks (suc i) h e d = (i, omega arith, e)

visit-well : (deps : ℕ → List ℕ) → IsEarlier deps → (f : ℕ) → VisitsWell deps f (visit_within f deps)
visit-well deps e zero k done h s = absurd (omega arith)
visit-well deps e (suc f) k done h s =
    elim (is_in done k) as (λ b. is_in done k ≡ b → Visited deps (suc k) done (elim b [ true ↦ done | false ↦ visit_all (visit_within f deps) (deps k) done ++ k ∷ [] ]) × Contains (elim b [ true ↦ done | false ↦ visit_all (visit_within f deps) (deps k) done ++ k ∷ [] ]) k) [
      | true ↦ λ t. (record { sound = s; more = []; all_is = sym (append-nil done); small = tt }, in-from done k t)
      | false ↦ λ t. numbered deps k done (visit_all (visit_within f deps) (deps k) done) t (visits-all deps f k (visit_within f deps) (visit-well deps e f) (omega arith) (deps k) done (e.below k) s)
    ] refl
  where
    numbered : (deps : ℕ → List ℕ) (k : ℕ) (done all : List ℕ) → is_in done k ≡ false → Visited deps k done all × ((d : ℕ) → Contains (deps k) d → Contains all d) → Visited deps (suc k) done (all ++ k ∷ []) × Contains (all ++ k ∷ []) k
    numbered deps k done all t r =
        let v = r.0 in
        let len : length all ≡ length done + length v.more = ap length v.all_is ∙ length-append done v.more in
        let new : (i : ℕ) → i < length all → get_or all i 0 ≢ k = λ i lt q.
        elim (cases_lt i (length done)) [
          | inl a ↦ not-in done k t i a (sym (ap (λ (xs : List ℕ). get_or xs i 0) v.all_is ∙ get_or_append_left done v.more 0 i a) ∙ q)
          | inr a ↦ let m : get_or v.more (i - length done) 0 < k = all_below_at v.more k (i - length done) v.small (omega arith) in
              let x : get_or all i 0 ≡ get_or v.more (i - length done) 0 = ap (λ (xs : List ℕ). get_or xs i 0) v.all_is ∙ get_or-append_right done v.more (length done) i 0 refl a in
              absurd (omega arith)
        ] in (
          record {
            sound = push-behind deps all k v.sound new r.1;
            more = v.more ++ k ∷ [];
            all_is = ap (λ (xs : List ℕ). xs ++ k ∷ []) v.all_is ∙ append_assoc done v.more (k ∷ []);
            small = all_join (λ x. x < suc k) v.more (k ∷ []) (all_below_weaker k (suc k) v.more (omega arith) v.small) (omega arith, tt);
          },
          (length all, omega (arith, length-append all (k ∷ [])), get_or_push all k k (length all) refl),
        )

-- the depth-first order of what some keys reach, with these keys
pub record IsOrder (deps : ℕ → List ℕ) (wanted order : List ℕ) : Type 0 where
  pub sound : AreBehind deps order
  pub has : (k : ℕ) → Contains wanted k → Contains order k

pub depth-first : (tasks : List Task) (wanted : List ℕ) → IsEarlier (deps_of (shape_of tasks)) → AllByRecursion (λ k. k < length tasks) wanted → IsOrder (deps_of (shape_of tasks)) wanted (depth_first tasks wanted)
depth-first tasks wanted e h =
    let r = visits-all (deps_of (shape_of tasks)) (length tasks) (length tasks) (visit_within (length tasks) (deps_of (shape_of tasks))) (visit-well (deps_of (shape_of tasks)) e (length tasks)) (omega arith) wanted [] h
    (record { fresh = λ i j a b. absurd (omega arith); behind = λ j d b c. absurd (omega arith) }) in
    record { sound = r.0.sound; has = r.1 }

-- each of its keys is one of the tasks
pub depth-first-below : (tasks : List Task) (wanted : List ℕ) → IsEarlier (deps_of (shape_of tasks)) → AllByRecursion (λ k. k < length tasks) wanted → AllByRecursion (λ k. k < length tasks) (depth_first tasks wanted)
depth-first-below tasks wanted e h =
    let r = visits-all (deps_of (shape_of tasks)) (length tasks) (length tasks) (visit_within (length tasks) (deps_of (shape_of tasks))) (visit-well (deps_of (shape_of tasks)) e (length tasks)) (omega arith) wanted [] h
    (record { fresh = λ i j a b. absurd (omega arith); behind = λ j d b c. absurd (omega arith) }) in
    let v = r.0 in
    subst (AllByRecursion (λ k. k < length tasks)) (sym v.all_is) v.small

-- it is a numbering
pub numbering : (tasks : List Task) (order : List ℕ) → AreBehind (deps_of (shape_of tasks)) order → IsNumbering tasks order
numbering tasks order s =
    let once : (j : ℕ) → j < length order → position order (get_or order j 0) ≡ j = λ j h.
    position_or_len_is (nat_eq (get_or order j 0)) order j 0 (omega arith) (λ i lt. ne_eqb (get_or order j 0) (get_or order i 0) (λ z. s.fresh i j lt h (sym z))) (λ lt. eq-eqb (get_or order j 0) (get_or order j 0) refl) in
    let old : (j d : ℕ) → Contains (task_at tasks (get_or order j 0)).deps d → Contains (deps_of (shape_of tasks) (get_or order j 0)) d = λ j d c. subst (λ (xs : List ℕ). Contains xs d) (sym (deps-at tasks (get_or order j 0))) c in
    record {
      once = once;
      there = λ j d h c. let r = s.behind j d h (old j d c) in (r.0, omega (arith, r.1), get_or_default order r.0 d 0 (omega (arith, r.1)) ∙ r.2);
      before = λ j d h c. let r = s.behind j d h (old j d c) in let z : position order d ≡ r.0 = ap (position order) (sym r.2) ∙ once r.0 (omega (arith, r.1)) in omega (arith, r.1);
    }

-- under the new numbers each dependency stays below its key
pub renumbered-earlier : (tasks : List Task) (order : List ℕ) → IsNumbering tasks order → IsEarlier (deps_of (shape_of (renumbered tasks order)))
renumbered-earlier tasks order n = record {
  below = λ j. elim (cases_lt j (length order)) [
    | inl lt ↦
        let is : deps_of (shape_of (renumbered tasks order)) j ≡ ascending (map (position order) (task_at tasks (get_or order j 0)).deps) =
        deps-at (renumbered tasks order) j ∙ ap (λ (t : Task). t.deps) (get_or-map (λ old. moved_task (map (position order) (deps_of (shape_of tasks) old)) (task_at tasks old)) order j 0 no_task lt)
        ∙ ap (λ ds. ascending (map (position order) ds)) (deps-at tasks (get_or order j 0)) in
        subst (AllByRecursion (λ d. d < j)) (sym is) (all_from_members (λ d. d < j) (ascending (map (position order) (task_at tasks (get_or order j 0)).deps)) (λ k c.
        let m = ascending-from (map (position order) (task_at tasks (get_or order j 0)).deps) k c in
        let q : m.0 < length (task_at tasks (get_or order j 0)).deps = omega (arith, m.1, length-map (task_at tasks (get_or order j 0)).deps (position order)) in
        let d = get_or (task_at tasks (get_or order j 0)).deps m.0 0 in
        let key : position order (get_or (task_at tasks (get_or order j 0)).deps m.0 0) ≡ k = sym (get_or-map (position order) (task_at tasks (get_or order j 0)).deps m.0 0 k q) ∙ m.2 in
        let b = n.before j (get_or (task_at tasks (get_or order j 0)).deps m.0 0) lt (m.0, q, sym (get_or_default (task_at tasks (get_or order j 0)).deps m.0 0 (get_or (task_at tasks (get_or order j 0)).deps m.0 0) q)) in
        omega arith))
    | inr ge ↦
        let is : deps_of (shape_of (renumbered tasks order)) j ≡ [] = deps-at (renumbered tasks order) j
        ∙ ap (λ (t : Task). t.deps) (get_or_past (renumbered tasks order) j no_task (omega (arith, length-map order (λ old. moved_task (map (position order) (deps_of (shape_of tasks) old)) (task_at tasks old))))) in
        subst (AllByRecursion (λ d. d < j)) (sym is) tt
  ];
}
