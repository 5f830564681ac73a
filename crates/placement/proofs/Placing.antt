-- The least of the offers is the place.
use Rattle.std.proofs.Common.{◌≡◌, ℕ, ◌+◌, ◌<◌, ◌≤◌, ◌^◌, ◌*◌, ◌/◌, ◌%◌, Bool, true, false, cond, ◌&&◌, ◌==◌, List, [], ◌∷◌, length, Option, Some, None, is_some, unwrap_or, refl, sym, ap, ◌∙◌, subst, arith, map}
use Rattle.std.proofs.lemmas.Bool.{false≢true, eqb-true, eqb-false}
use Rattle.std.proofs.Math.Nat.{div-add-mod, mul-le-mul_left}
use Rattle.std.specs.List.{filter, filter_map, list_any, cons_option}
use Rattle.std.specs.Option.{option_map, option_or}
use Rattle.std.proofs.Math.Bool.{and-false}
use Rattle.std.proofs.lemmas.List.{nil_from_length}
use Rattle.small_facts.proofs.Lists.{cons_not_nil}
use Rattle.cluster_rules.specs.Functions.{from_one}
use Rattle.cluster_rules.specs.Choice.{unbeaten, least_by, better, IsLeastOf}
use Rattle.cluster_rules.specs.Sched.{Facts, IsSound, deps, holds, connected, workers, occupancy, threads_of}
use Rattle.cluster_rules.specs.Policies.{place, place_rank, candidates, candidates_by, or_else}
use Rattle.cluster_rules.proofs.ChoiceLemmas.{rank_prefers, least_by_least}
use Rattle.cluster_rules.proofs.TotalLemmas.{occupancy_fits}
use Rattle.placement.specs.declared.candidate.Candidate.{Candidate}
use Rattle.placement.specs.declared.candidate.Pool.{Pool}
use Rattle.placement.specs.declared.candidate.Pool.TheVariants.{NotFull, Holders, Everyone}
use Rattle.placement.specs.Candidates.{rank_of, comes_before, candidate_of, admits, offer, offered}
use Rattle.placement.proofs.BestSoFar.{best-next, best-map}

-- the best of the offers of the first workers
abbrev pub best_of : Facts → ℕ → Pool → ℕ → Option Candidate
best_of f k p n = unbeaten comes_before (filter_map (offer f k p) (from_one n))

-- one more worker
pub best_of-next : (f : Facts) (k : ℕ) (p : Pool) (n : ℕ) (best next new : Option Candidate) → best ≡ best_of f k p n → next ≡ offer f k p (n + 1) → new ≡ better comes_before best next → new ≡ best_of f k p (n + 1)
best_of-next f k p n best next new e d q =
    q
    ∙ ap (λ b. better comes_before b next) e
    ∙ ap (λ o. better comes_before (best_of f k p n) o) d
    ∙ sym (best-next comes_before (rank_prefers rank_of) (offer f k p) n)

offers-map : (f : Facts) (k : ℕ) (p : Pool) (ws : List ℕ) → filter_map (offer f k p) ws ≡ map (candidate_of f k) (filter (admits f k p) (filter (connected f) ws))
unfolding offer
offers-map f k p [] = refl
offers-map f k p (w ∷ ws) = pick (connected f w) (offers-map f k p ws)
  where
    kept : List ℕ
    kept = filter (admits f k p) (filter (connected f) ws)

    at : (b : Bool) → filter_map (offer f k p) ws ≡ map (candidate_of f k) kept → cons_option (cond b (Some (candidate_of f k w)) None) (filter_map (offer f k p) ws) ≡ map (candidate_of f k) (cond b (w ∷ kept) kept)
    at true e = ap (λ l. candidate_of f k w ∷ l) e
    at false e = e

    pick : (a : Bool) → filter_map (offer f k p) ws ≡ map (candidate_of f k) kept → cons_option (cond (a && admits f k p w) (Some (candidate_of f k w)) None) (filter_map (offer f k p) ws) ≡ map (candidate_of f k) (filter (admits f k p) (cond a (w ∷ filter (connected f) ws) (filter (connected f) ws)))
    pick true e = at (admits f k p w) e
    pick false e = e

worker_again : (f : Facts) (k : ℕ) (o : Option ℕ) → option_map (λ c. c.worker) (option_map (candidate_of f k) o) ≡ o
worker_again f k None = refl
worker_again f k (Some w) = refl

-- the worker of the best offer of all
pub offered-is : (f : Facts) (k : ℕ) (p : Pool) (n : ℕ) (best : Option Candidate) (r : Option ℕ) → n ≡ f.last_worker → best ≡ best_of f k p n → r ≡ option_map (λ c. c.worker) best → r ≡ offered f k p
unfolding offered place_rank
offered-is f k p n best r e d q =
    q
    ∙ ap (option_map (λ c. c.worker)) d
    ∙ ap (λ m. option_map (λ c. c.worker) (unbeaten comes_before (filter_map (offer f k p) (from_one m)))) e
    ∙ ap (λ l. option_map (λ c. c.worker) (unbeaten comes_before l)) (offers-map f k p (from_one f.last_worker))
    ∙ ap (option_map (λ c. c.worker)) (best-map (candidate_of f k) comes_before (filter (admits f k p) (workers f)))
    ∙ worker_again f k (least_by (place_rank f k) (filter (admits f k p) (workers f)))

-- a key without dependencies
pub place-alone : (f : Facts) (k : ℕ) → length (deps f k) ≡ 0 → place f k ≡ offered f k NotFull
unfolding place candidates offered
place-alone f k e = ap (λ ds. least_by (place_rank f k) (candidates_by f ds)) (nil_from_length (deps f k) e)

all_kept : (xs : List ℕ) → filter (λ _. true) xs ≡ xs
all_kept [] = refl
all_kept (x ∷ xs) = ap (λ l. x ∷ l) (all_kept xs)

either : (rank : ℕ → List ℕ) (xs ys : List ℕ) → least_by rank (or_else xs ys) ≡ option_or (least_by rank xs) (least_by rank ys)
either rank [] ys = refl
either rank (x ∷ xs) ys = pick (least_by rank (x ∷ xs)) (least_by_least rank (x ∷ xs))
  where
    pick : (o : Option ℕ) → IsLeastOf rank (x ∷ xs) o → o ≡ option_or o (least_by rank ys)
    pick None e = absurd (cons_not_nil x xs e)
    pick (Some z) e = refl

-- a key with dependencies
pub place-fed : (f : Facts) (k : ℕ) → (length (deps f k) ≡ 0 → ⊥) → place f k ≡ option_or (offered f k Holders) (offered f k Everyone)
unfolding place candidates offered
place-fed f k ne = by (deps f k) ne
  where
    holder : List ℕ → ℕ → Bool
    holder ds w = list_any (holds f w) ds

    by : (ds : List ℕ) → (length ds ≡ 0 → ⊥) → least_by (place_rank f k) (candidates_by f ds) ≡ option_or (least_by (place_rank f k) (filter (λ w. list_any (holds f w) ds) (workers f))) (least_by (place_rank f k) (filter (λ _. true) (workers f)))
    by [] n = absurd (n refl)
    by (d ∷ ds) n =
        either (place_rank f k) (filter (λ w. list_any (holds f w) (d ∷ ds)) (workers f)) (workers f)
        ∙ ap (λ l. option_or (least_by (place_rank f k) (filter (λ w. list_any (holds f w) (d ∷ ds)) (workers f))) (least_by (place_rank f k) l)) (sym (all_kept (workers f)))

-- a connected worker has threads
pub has_threads : (f : Facts) → IsSound f → (w : ℕ) → connected f w ≡ true → (1 ≤ threads_of f w) × (threads_of f w ≤ 16)
has_threads f s w h = pick (f.threads w) refl h
  where
    pick : (o : Option ℕ) → f.threads w ≡ o → is_some o ≡ true → (1 ≤ unwrap_or o 0) × (unwrap_or o 0 ≤ 16)
    pick None e g = absurd (false≢true g)
    pick (Some n) e g = s.threads w n e

-- an offer by its parts
pub offer-yes : (f : Facts) (k : ℕ) (p : Pool) (w : ℕ) (x : Candidate) → connected f w ≡ true → admits f k p w ≡ true → x ≡ candidate_of f k w → Some x ≡ offer f k p w
unfolding offer
offer-yes f k p w x a b e = sym (ap (λ t. cond (t && admits f k p w) (Some (candidate_of f k w)) None) a ∙ ap (λ t. cond t (Some (candidate_of f k w)) None) b ∙ ap (λ y. Some y) (sym e))

pub offer-away : (f : Facts) (k : ℕ) (p : Pool) (w : ℕ) → connected f w ≡ false → None ≡ offer f k p w
unfolding offer
offer-away f k p w a = sym (ap (λ t. cond (t && admits f k p w) (Some (candidate_of f k w)) None) a)

pub offer-out : (f : Facts) (k : ℕ) (p : Pool) (w : ℕ) → admits f k p w ≡ false → None ≡ offer f k p w
unfolding offer
offer-out f k p w a = sym (ap (λ t. cond (connected f w && t) (Some (candidate_of f k w)) None) a ∙ ap (λ t. cond t (Some (candidate_of f k w)) None) (and-false (connected f w)))

-- the first pool that offers someone
pub first_pool : (f : Facts) (k : ℕ) (w : ℕ) → (length (deps f k) ≡ 0 → ⊥) → Some w ≡ offered f k Holders → Some w ≡ place f k
first_pool f k w n e = sym (place-fed f k n ∙ ap (λ o. option_or o (offered f k Everyone)) (sym e))

pub second_pool : (f : Facts) (k : ℕ) → (length (deps f k) ≡ 0 → ⊥) → None ≡ offered f k Holders → offered f k Everyone ≡ place f k
second_pool f k n e = sym (place-fed f k n ∙ ap (λ o. option_or o (offered f k Everyone)) (sym e))

-- a test for no dependencies
pub none_left : (f : Facts) (k : ℕ) (ds : List ℕ) (b : Bool) → ds ≡ deps f k → b ≡ (length ds == 0) → b ≡ true → length (deps f k) ≡ 0
none_left f k ds b e t h = ap length (sym e) ∙ eqb-true (length ds) 0 (sym t ∙ h)

pub some_left : (f : Facts) (k : ℕ) (ds : List ℕ) (b : Bool) → ds ≡ deps f k → b ≡ (length ds == 0) → b ≡ false → length (deps f k) ≡ 0 → ⊥
some_left f k ds b e t h z = eqb-false (length ds) 0 (sym t ∙ h) (ap length e ∙ z)

-- the time until the worker could start fits with the bytes to fetch
pub cost_fits : (f : Facts) → IsSound f → (w m o t : ℕ) → connected f w ≡ true → m ≤ 2 ^ 45 → o ≡ occupancy f w → t ≡ threads_of f w → o / t + m < 2 ^ 64
cost_fits f s w m o t h l e d = fits (omega (arith, e, occupancy_fits f w s)) (omega (arith, d, (has_threads f s w h).0))
  where
    fits : o ≤ 2 ^ 61 → 1 ≤ t → o / t + m < 2 ^ 64
    fits a b = let d : t * (o / t) + o % t ≡ o = div-add-mod o t in let m : o / t * 1 ≤ o / t * t = mul-le-mul_left (o / t) b in omega arith

-- the place is the least of all candidates
pub least_where : (f : Facts) (k : ℕ) (r : Option ℕ) → r ≡ place f k → IsLeastOf (place_rank f k) (candidates f k) r
unfolding place
least_where f k r e = subst (λ (o : Option ℕ). IsLeastOf (place_rank f k) (candidates f k) o) (sym e) (least_by_least (place_rank f k) (candidates f k))
