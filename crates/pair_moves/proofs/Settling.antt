-- What settling does to each pair: a withdrawal where the key was lost, and a new attempt where it was placed at the worker.
use Rattle.std.proofs.Common.{◌≡◌, ℕ, zero, suc, ◌+◌, ◌<◌, Bool, true, false, cond, ◌&&◌, ◌||◌, List, [], ◌∷◌, ◌++◌, Option, Some, None, refl, sym, ap, ◌∙◌, arith, is_none, inl, inr, ◌⊎◌, ⊎_elim, length}
use Rattle.std.specs.Prelude.{nat_le}
use Rattle.std.specs.List.{filter, filter_map, cons_option, range_with_len}
use Rattle.std.proofs.lemmas.Bool.{eqb-true, eq-eqb}
use Rattle.std.proofs.Math.Dec.{eqb}
use Rattle.std.proofs.Math.Bool.{and-false}
use Rattle.small_facts.proofs.Numbers.{unequal_over}
use Rattle.small_facts.proofs.Truth.{and_first}
use Rattle.cluster_msgs.specs.Shape.{deps_of}
use Rattle.cluster_msgs.specs.declared.messages.Down.{Down}
use Rattle.cluster_msgs.specs.declared.messages.Down.TheVariants.{ComputeTask, FreeKeys, StealRequest, RemoveReplicas, AcquireReplicas, RefreshWhoHas}
use Rattle.cluster_rules.specs.Derived.{below, is_in}
use Rattle.cluster_rules.specs.Sched.{Facts, keys, workers, ready, who_has}
use Rattle.cluster_rules.specs.Policies.{place}
use Rattle.cluster_rules.specs.SchedStep.{Stages, place_keys, place_one, give, down_messages, to_worker, free_message, task_message, task_messages, lost_keys, mail, takes_away, fence_after}
use Rattle.cluster_laws.proofs.OrderLemmas.{mail-down, mail-own_part}
use Rattle.cluster_rules.proofs.SchedLemmas.{ready-place_one}
use Rattle.pair_machine.specs.Pair.{Note, Task, Free, Remove, Ask, Other, is_fence, fence_notes}
use Rattle.pair_moves.specs.Projection.{note_of, notes}
use Rattle.pair_moves.proofs.PairTold.{task_note, task_notes, Distinct}

-- the messages of an event to one worker, for one key
pub notes-append : (k : ℕ) (xs ys : List Down) → notes k (xs ++ ys) ≡ notes k xs ++ notes k ys
notes-append k [] ys = refl
notes-append k (x ∷ xs) ys = ap (λ l. note_of k x ∷ l) (notes-append k xs ys)

pub notes_long : (k : ℕ) (xs : List Down) → length (notes k xs) ≡ length xs
notes_long k [] = refl
notes_long k (x ∷ xs) = let rest : length (notes k xs) ≡ length xs = notes_long k xs in omega (arith, rest)

abbrev pub free_notes : ℕ → List ℕ → List Note
free_notes k [] = []
free_notes k (x ∷ xs) = cond (is_in k (x ∷ xs)) Free Other ∷ []

notes_free : (k w : ℕ) (ks : List ℕ) → notes k (mail w (free_message w ks)) ≡ free_notes k ks
notes_free k w [] = refl
notes_free k w (x ∷ xs) = ap (λ b. notes k (cond b (FreeKeys (x ∷ xs) ∷ []) [])) (eq-eqb w w refl)

-- the attempt of a place that is the worker's and new since then
abbrev pub new_at : ℕ → ℕ → Option (ℕ × ℕ) → Option ℕ
new_at since w None = None
new_at since w (Some p) = cond (eqb p.0 w && nat_le since p.1) (Some p.1) None

notes_tasks : (f : Facts) (since w k : ℕ) (qs : List ℕ) → notes k (mail w (filter_map (λ q. task_message f since w q (f.on q)) qs)) ≡ task_notes k (λ q. new_at since w (f.on q)) qs
notes_tasks f since w k [] = refl
notes_tasks f since w k (q ∷ qs) = one (f.on q) ∙ ap (cons_option (task_note k q (new_at since w (f.on q)))) (notes_tasks f since w k qs)
  where
    rest : List (ℕ × Down)
    rest = filter_map (λ n. task_message f since w n (f.on n)) qs

    one : (o : Option (ℕ × ℕ)) → notes k (mail w (cons_option (task_message f since w q o) (filter_map (λ n. task_message f since w n (f.on n)) qs))) ≡ cons_option (task_note k q (new_at since w o)) (notes k (mail w (filter_map (λ n. task_message f since w n (f.on n)) qs)))
    one None = refl
    one (Some p) = pick (eqb p.0 w && nat_le since p.1)
      where
        pick : (c : Bool) → notes k (mail w (cons_option (cond c (Some (w, ComputeTask q p.1 (who_has f (deps_of f.setting.shape q)))) None) (filter_map (λ n. task_message f since w n (f.on n)) qs))) ≡ cons_option (task_note k q (cond c (Some p.1) None)) (notes k (mail w (filter_map (λ n. task_message f since w n (f.on n)) qs)))
        pick true = ap (λ b. notes k (cond b (ComputeTask q p.1 (who_has f (deps_of f.setting.shape q)) ∷ mail w (filter_map (λ n. task_message f since w n (f.on n)) qs)) (mail w (filter_map (λ n. task_message f since w n (f.on n)) qs)))) (eq-eqb w w refl)
        pick false = refl

pub in_filter_is : (p : ℕ → Bool) (x : ℕ) (xs : List ℕ) → is_in x (filter p xs) ≡ (is_in x xs && p x)
in_filter_is p x [] = refl
in_filter_is p x (y ∷ ys) = pick (p y) refl (eqb y x) refl (in_filter_is p x ys)
  where
    pick : (b : Bool) → p y ≡ b → (c : Bool) → eqb y x ≡ c → is_in x (filter p ys) ≡ (is_in x ys && p x) → is_in x (cond b (y ∷ filter p ys) (filter p ys)) ≡ ((c || is_in x ys) && p x)
    pick true q true e h = ap (λ d. d || is_in x (filter p ys)) e ∙ sym (sym (ap p (eqb-true y x e)) ∙ q)
    pick true q false e h = ap (λ d. d || is_in x (filter p ys)) e ∙ h
    pick false q true e h = h ∙ ap (λ d. is_in x ys && d) (sym (ap p (eqb-true y x e)) ∙ q) ∙ and-false (is_in x ys) ∙ sym (sym (ap p (eqb-true y x e)) ∙ q)
    pick false q false e h = h

not_in_range : (b n x : ℕ) → x < b → is_in x (range_with_len b n) ≡ false
not_in_range b zero x l = refl
not_in_range b (suc n) x l = ap (λ c. c || is_in x (range_with_len (b + 1) n)) (unequal_over b x l) ∙ not_in_range (b + 1) n x (omega arith)

pub distinct_range : (b n : ℕ) → Distinct (range_with_len b n)
distinct_range b zero = tt
distinct_range b (suc n) = (not_in_range (b + 1) n b (omega arith), distinct_range (b + 1) n)

-- the notes of one event
pub event_notes : (t : Stages) (w k : ℕ) → is_in w (workers t.placed) ≡ true → notes k (mail w (down_messages t)) ≡ free_notes k (lost_keys t w) ++ (task_notes k (λ q. new_at t.before.counter w (t.placed.on q)) (below (keys t.placed)) ++ notes k (t.changed.answer t.placed w))
unfolding task_messages
event_notes t w k there =
    ap (notes k) (mail-down t w ∙ ap (λ b. cond b (mail w (to_worker t w)) []) there ∙ mail-own_part t w)
    ∙ notes-append k (mail w frees) (mail w tasks ++ answers)
    ∙ ap (λ l. l ++ notes k (mail w tasks ++ answers)) (notes_free k w (lost_keys t w))
    ∙ ap (λ l. free_notes k (lost_keys t w) ++ l) (notes-append k (mail w tasks) answers ∙ ap (λ l. l ++ notes k answers) (notes_tasks t.placed t.before.counter w k (below (keys t.placed))))
  where
    frees : List (ℕ × Down)
    frees = free_message w (lost_keys t w)

    tasks : List (ℕ × Down)
    tasks = filter_map (λ q. task_message t.placed t.before.counter w q (t.placed.on q)) (below (keys t.placed))

    answers : List Down
    answers = t.changed.answer t.placed w

-- placement places only ready keys
pub placed_ready : (f : Facts) (ks : List ℕ) (k : ℕ) (p : ℕ × ℕ) → (place_keys f ks).on k ≡ Some p → (f.on k ≡ Some p) ⊎ (ready f k ≡ true)
unfolding place_one
placed_ready f [] k p e = inl e
placed_ready f (q ∷ qs) k p e = ⊎_elim (λ h. one h) (λ h. inr (ap (λ r. r k) (sym (ready-place_one f q)) ∙ h)) (placed_ready (place_one f q) qs k p e)
  where
    one : (place_one f q).on k ≡ Some p → (f.on k ≡ Some p) ⊎ (ready f k ≡ true)
    one = pick (ready f q && is_none (f.on q)) refl (place f q)
      where
        pick : (b : Bool) → (ready f q && is_none (f.on q)) ≡ b → (to : Option ℕ) → (cond b (give f q to) f).on k ≡ Some p → (f.on k ≡ Some p) ⊎ (ready f k ≡ true)
        pick true i None h = inl h
        pick true i (Some w) h = at (eqb k q) refl h
          where
            at : (c : Bool) → eqb k q ≡ c → cond c (Some (w, f.counter)) (f.on k) ≡ Some p → (f.on k ≡ Some p) ⊎ (ready f k ≡ true)
            at true j x = inr (ap (ready f) (eqb-true k q j) ∙ and_first (ready f q) (is_none (f.on q)) i)
            at false j x = inl x
        pick false i to h = inl h

-- the fence after the notes of one event
pub fence_noted : (k s : ℕ) (ms : List Down) (f : ℕ) → fence_after k s ms f ≡ fence_notes s (notes k ms) f
fence_noted k s [] f = refl
fence_noted k s (m ∷ ms) f = fence_noted k (s + 1) ms (cond (takes_away k m) (s + 1) f) ∙ ap (λ b. fence_notes (s + 1) (notes k ms) (cond b (s + 1) f)) (same m)
  where
    either : (b : Bool) (x : Note) → is_fence x ≡ false → false ≡ is_fence (cond b x Other)
    either true x e = sym e
    either false x e = refl

    taken : (b : Bool) (x : Note) → is_fence x ≡ true → b ≡ is_fence (cond b x Other)
    taken true x e = sym e
    taken false x e = refl

    same : (m : Down) → takes_away k m ≡ is_fence (note_of k m)
    same (ComputeTask q a who) = either (eqb q k) (Task a) refl
    same (FreeKeys ks) = taken (is_in k ks) Free refl
    same (StealRequest q a) = either (eqb q k) (Ask a) refl
    same (RemoveReplicas ks) = taken (is_in k ks) Remove refl
    same (AcquireReplicas who) = refl
    same (RefreshWhoHas who) = refl

pub fence-append : (s : ℕ) (xs ys : List Note) (f : ℕ) → fence_notes s (xs ++ ys) f ≡ fence_notes (s + length xs) ys (fence_notes s xs f)
fence-append s [] ys f = let e : s ≡ s + 0 = omega arith in ap (λ n. fence_notes n ys f) e
fence-append s (x ∷ xs) ys f = let e : (s + 1) + length xs ≡ s + length (x ∷ xs) = omega arith in fence-append (s + 1) xs ys (cond (is_fence x) (s + 1) f) ∙ ap (λ n. fence_notes n ys (fence_notes (s + 1) xs (cond (is_fence x) (s + 1) f))) e

pub fence_free : (s k : ℕ) (ks : List ℕ) (f : ℕ) → fence_notes s (free_notes k ks) f ≡ cond (is_in k ks) (s + 1) f
fence_free s k [] f = refl
fence_free s k (x ∷ xs) f = pick (is_in k (x ∷ xs))
  where
    pick : (b : Bool) → cond (is_fence (cond b Free Other)) (s + 1) f ≡ cond b (s + 1) f
    pick true = refl
    pick false = refl

pub fence_tasks : (k : ℕ) (h : ℕ → Option ℕ) (qs : List ℕ) (s f : ℕ) → fence_notes s (task_notes k h qs) f ≡ f
fence_tasks k h [] s f = refl
fence_tasks k h (q ∷ qs) s f = pick (h q) (λ n. fence_tasks k h qs n f)
  where
    by_key : (c : Bool) (a : ℕ) → is_fence (cond c (Task a) Other) ≡ false
    by_key true a = refl
    by_key false a = refl

    pick : (o : Option ℕ) → ((n : ℕ) → fence_notes n (task_notes k h qs) f ≡ f) → fence_notes s (cons_option (task_note k q o) (task_notes k h qs)) f ≡ f
    pick None rest = rest s
    pick (Some a) rest = ap (λ c. fence_notes (s + 1) (task_notes k h qs) (cond c (s + 1) f)) (by_key (eqb q k) a) ∙ rest (s + 1)
