-- Facts by which nothing is wanted, held or given to anybody.
use Rattle.std.proofs.Common.{◌≡◌, ℕ, zero, suc, ◌+◌, ◌*◌, ◌<◌, arith, Bool, false, not, cond, ◌&&◌, ◌||◌, List, [], ◌∷◌, None, refl, ap, ◌∙◌, is_some}
use Rattle.std.specs.Prelude.{nat_le}
use Rattle.std.proofs.lemmas.Bool.Decides.{nat_tests}
use Rattle.std.specs.List.{list_any}
use Rattle.std.proofs.Math.Bool.{and-false}
use Rattle.cluster_msgs.specs.Shape.{work_of, nbytes_of}
use Rattle.cluster_rules.specs.Functions.{total, from_one}
use Rattle.cluster_rules.specs.Derived.{below, is_in, err, err_in, reach, reach_in}
use Rattle.cluster_rules.specs.Sched.{Facts, keys, deps, holds, held, erred, wanted, need, open_key, is_on, tasks, occupancy, bytes_held, holder_count, waiters, threads_of, full}

none_any : {A : Type 0} (p : A → Bool) (xs : List A) → ((x : A) → p x ≡ false) → list_any p xs ≡ false
none_any p [] h = refl
none_any p (x ∷ xs) h = ap (λ b. b || list_any p xs) (h x) ∙ none_any p xs h

reach_in-nowhere : (ds : ℕ → List ℕ) (n : ℕ) (start pass : ℕ → Bool) → ((k : ℕ) → start k ≡ false) → (f k : ℕ) → reach_in ds n start pass f k ≡ false
reach_in-nowhere ds n start pass h zero k = refl
reach_in-nowhere ds n start pass h (suc f) k = ap (λ b. b || list_any (λ j. is_in k (ds j) && (pass j && reach_in ds n start pass f j)) (below n)) (h k)
    ∙ none_any (λ j. is_in k (ds j) && (pass j && reach_in ds n start pass f j)) (below n) (λ j. ap (λ b. is_in k (ds j) && (pass j && b)) (reach_in-nowhere ds n start pass h f j) ∙ ap (λ b. is_in k (ds j) && b) (and-false (pass j)) ∙ and-false (is_in k (ds j)))

err_in-nowhere : (ds : ℕ → List ℕ) (held bad : ℕ → Bool) → ((k : ℕ) → bad k ≡ false) → (f k : ℕ) → err_in ds held bad f k ≡ false
err_in-nowhere ds held bad h zero k = refl
err_in-nowhere ds held bad h (suc f) k = ap (λ b. not (held k) && (b || list_any (λ d. err_in ds held bad f d) (ds k))) (h k)
    ∙ ap (λ b. not (held k) && b) (none_any (λ d. err_in ds held bad f d) (ds k) (err_in-nowhere ds held bad h f)) ∙ and-false (not (held k))

pub need-nowhere : (f : Facts) → ((c k : ℕ) → f.want c k ≡ false) → (k : ℕ) → need f k ≡ false
unfolding need reach wanted
need-nowhere f h k = reach_in-nowhere (deps f) (keys f) (wanted f) (open_key f) (λ j. none_any (λ c. f.want c j) (from_one f.setting.clients) (λ c. h c j)) (suc (keys f)) k

pub held-nowhere : (f : Facts) → ((w k : ℕ) → f.has w k ≡ None) → (k : ℕ) → held f k ≡ false
unfolding held
held-nowhere f h k = none_any (λ w. holds f w k) (from_one f.last_worker) (λ w. ap is_some (h w k))

pub erred-nowhere : (f : Facts) → ((k : ℕ) → f.bad k ≡ false) → (k : ℕ) → erred f k ≡ false
unfolding erred err
erred-nowhere f h k = err_in-nowhere (deps f) (held f) f.bad h (suc k) k

pub total-zero : (g : ℕ → ℕ) (xs : List ℕ) → ((x : ℕ) → g x ≡ 0) → total g xs ≡ 0
total-zero g [] h = refl
total-zero g (x ∷ xs) h = ap (λ n. n + total g xs) (h x) ∙ ap (λ n. 0 + n) (total-zero g xs h)

pub tasks-nowhere : (f : Facts) → ((w k : ℕ) → is_on f w k ≡ false) → (w : ℕ) → tasks f w ≡ 0
unfolding tasks
tasks-nowhere f h w = total-zero (λ k. cond (is_on f w k) 1 0) (below (keys f)) (λ k. ap (λ b. cond b 1 0) (h w k))

pub occupancy-nowhere : (f : Facts) → ((w k : ℕ) → is_on f w k ≡ false) → (w : ℕ) → occupancy f w ≡ 0
unfolding occupancy
occupancy-nowhere f h w = total-zero (λ k. cond (is_on f w k) (work_of f.setting.shape k) 0) (below (keys f)) (λ k. ap (λ b. cond b (work_of f.setting.shape k) 0) (h w k))

pub bytes_held-nowhere : (f : Facts) → ((w k : ℕ) → f.has w k ≡ None) → (w : ℕ) → bytes_held f w ≡ 0
unfolding bytes_held
bytes_held-nowhere f h w = total-zero (λ k. cond (holds f w k) (nbytes_of f.setting.shape k) 0) (below (keys f)) (λ k. ap (λ b. cond b (nbytes_of f.setting.shape k) 0) (ap is_some (h w k)))

pub holder_count-nowhere : (f : Facts) → ((w k : ℕ) → f.has w k ≡ None) → (k : ℕ) → holder_count f k ≡ 0
unfolding holder_count
holder_count-nowhere f h k = total-zero (λ w. cond (holds f w k) 1 0) (from_one f.last_worker) (λ w. ap (λ b. cond b 1 0) (ap is_some (h w k)))

pub waiters-nowhere : (f : Facts) → ((c k : ℕ) → f.want c k ≡ false) → (k : ℕ) → waiters f k ≡ 0
unfolding waiters
waiters-nowhere f h k = total-zero (λ j. cond (is_in k (deps f j) && (need f j && open_key f j)) 1 0) (below (keys f)) (λ j. ap (λ b. cond b 1 0) (ap (λ b. is_in k (deps f j) && (b && open_key f j)) (need-nowhere f h j) ∙ and-false (is_in k (deps f j))))

pub full-nowhere : (f : Facts) → ((w k : ℕ) → is_on f w k ≡ false) → (w : ℕ) → 0 < threads_of f w * f.setting.saturation → full f w ≡ false
unfolding full
full-nowhere f h w l = ap (λ n. nat_le (threads_of f w * f.setting.saturation) (10 * n)) (tasks-nowhere f h w) ∙ above (threads_of f w * f.setting.saturation) l
  where
    above : (n : ℕ) → 0 < n → nat_le n (10 * 0) ≡ false
    above n l = grind (arith, nat_tests)
