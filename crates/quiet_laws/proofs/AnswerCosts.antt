-- What an answer of who holds a key costs.
use Rattle.std.proofs.Common.{◌≡◌, ℕ, ◌+◌, ◌*◌, ◌≤◌, Bool, true, false, cond, not, ◌&&◌, ◌||◌, List, [], ◌∷◌, Option, Some, None, refl, sym, ap, ◌∙◌, arith, filter}
use Rattle.std.proofs.Math.Dec.{eqb}
use Rattle.std.specs.List.{list_any, filter_map, cons_option}
use Rattle.std.specs.Option.{option_map}
use Rattle.std.proofs.lemmas.Bool.{true≢false, eq-eqb}
use Rattle.small_facts.proofs.Numbers.{eqb_turned}
use Rattle.cluster_msgs.specs.declared.messages.Down.TheVariants.{RefreshWhoHas}
use Rattle.cluster_msgs.specs.declared.messages.ToClient.{ToClient}
use Rattle.cluster_msgs.specs.declared.messages.ToClient.TheVariants.{KeyInMemory}
use Rattle.cluster_rules.specs.Functions.{from_one, total}
use Rattle.cluster_rules.specs.Sched.{Facts, held, holders, who_has}
use Rattle.cluster_rules.specs.SchedTable.{is_copy}
use Rattle.cluster_rules.specs.SchedStep.{Stages, reply_message, to_clients, tells_held}
use Rattle.cluster_rules.specs.WorkerStep.{others}
use Rattle.quiet_measure.specs.Weights.{bit, sum_of, is_current, is_stale, down_weight, news_weight}
use Rattle.quiet_measure.proofs.Sums.{total_at_most}
use Rattle.quiet_measure.proofs.Posts.{one_place, reply_cost}

-- who holds a key now names no copy that is there no longer
pub fresh_holders : (f : Facts) (k : ℕ) → is_stale f k (holders f k) ≡ false
unfolding holders
fresh_holders f k = by (from_one f.last_worker)
  where
    one : (x : ℕ) (o : Option ℕ) → f.has x k ≡ o → (xs : List (ℕ × ℕ)) → is_stale f k xs ≡ false → is_stale f k (cons_option (option_map (λ c. (x, c)) o) xs) ≡ false
    one x None e xs r = r
    one x (Some c) e xs r = ap (λ b. not b || is_stale f k xs) (ap (is_copy c) e ∙ eq-eqb c c refl) ∙ r

    by : (ws : List ℕ) → is_stale f k (filter_map (λ w. option_map (λ c. (w, c)) (f.has w k)) ws) ≡ false
    by [] = refl
    by (x ∷ xs) = one x (f.has x k) refl (filter_map (λ w. option_map (λ c. (w, c)) (f.has w k)) xs) (by xs)

any_filter : {A : Type 0} (p t : A → Bool) (xs : List A) → list_any p xs ≡ false → list_any p (filter t xs) ≡ false
any_filter p t [] e = e
any_filter p t (x ∷ xs) e = pick (t x) (p x) refl e (any_filter p t xs)
  where
    pick : (b c : Bool) → p x ≡ c → (c || list_any p xs) ≡ false → (list_any p xs ≡ false → list_any p (filter t xs) ≡ false) → list_any p (cond b (x ∷ filter t xs) (filter t xs)) ≡ false
    pick b true q e r = absurd (true≢false e)
    pick true false q e r = ap (λ z. z || list_any p (filter t xs)) q ∙ r e
    pick false false q e r = r e

pub refresh_cost : (f : Facts) (e : ℕ → ℕ) (i k n : ℕ) → total (λ x. sum_of (down_weight f e x) (cond (eqb x i) (RefreshWhoHas (who_has f (k ∷ [])) ∷ []) [])) (from_one n) ≤ 7 * e k + 4
unfolding who_has
refresh_cost f e i k n =
    let a : total (λ x. sum_of (down_weight f e x) (cond (eqb x i) (RefreshWhoHas (who_has f (k ∷ [])) ∷ []) [])) (from_one n) ≤ total (λ x. cond (eqb i x) (7 * e k + 4) 0) (from_one n) = total_at_most _ _ (from_one n) (λ x. one x (eqb x i) (eqb i x) (eqb_turned x i)) in
    let b : total (λ x. cond (eqb i x) (7 * e k + 4) 0) (from_one n) ≤ 7 * e k + 4 = one_place (λ x. 7 * e k + 4) i 1 n in
    omega (arith, a, b)
  where
    one : (x : ℕ) (b c : Bool) → b ≡ c → sum_of (down_weight f e x) (cond b (RefreshWhoHas (who_has f (k ∷ [])) ∷ []) []) ≤ cond c (7 * e k + 4) 0
    one x false c q = omega arith
    one x true c q =
        let z : bit (is_stale f k (others x (holders f k))) ≡ 0 = ap bit (any_filter (λ (h : ℕ × ℕ). not (is_current f h.0 k h.1)) (λ h. not (eqb h.0 x)) (holders f k) (fresh_holders f k)) in
        let y : cond c (7 * e k + 4) 0 ≡ 7 * e k + 4 = ap (λ b. cond b (7 * e k + 4) 0) (sym q) in
        omega (arith, z, y)

pub reply_most : (t : Stages) (e : ℕ → ℕ) (c k : ℕ) → t.changed.reply ≡ Some (c, k) → reply_cost t e ≤ 7 * e k + 4
reply_most t e c k r = let a : reply_cost t e ≡ sum_of (λ (m : ℕ × ToClient). news_weight t.placed e m.1) (reply_message t (to_clients t) (Some (c, k))) = ap (λ o. sum_of (λ (m : ℕ × ToClient). news_weight t.placed e m.1) (reply_message t (to_clients t) o)) r in
    let b = by (held t.placed k && not (list_any (tells_held c k) (to_clients t))) in omega (arith, a, b)
  where
    by : (b : Bool) → sum_of (λ (m : ℕ × ToClient). news_weight t.placed e m.1) (cond b ((c, KeyInMemory k (holders t.placed k)) ∷ []) []) ≤ 7 * e k + 4
    by false = omega arith
    by true = let z : bit (is_stale t.placed k (holders t.placed k)) ≡ 0 = ap bit (fresh_holders t.placed k) in omega (arith, z)
