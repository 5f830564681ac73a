-- What sending one more message changes.
use Rattle.std.proofs.Common.{◌≡◌, ℕ, suc, ◌≤◌, ◌+◌, Bool, true, false, ◌&&◌, ◌||◌, cond, List, [], ◌∷◌, ◌++◌, refl, sym, ap, ◌∙◌, arith, length, add_assoc, append-nil}
use Rattle.std.proofs.Math.Dec.{eqb}
use Rattle.std.proofs.lemmas.Bool.{eqb-true}
use Rattle.std.proofs.lemmas.List.Folds.{list_any-append}
use Rattle.std.proofs.lemmas.Bool.Decides.{nat_tests}
use Rattle.std.proofs.Math.Nat.{add-zero}
use Rattle.small_facts.proofs.Numbers.{unequal_turned, eqb_self, eqb_turned}
use Rattle.cluster_msgs.specs.declared.messages.Down.{Down}
use Rattle.cluster_msgs.specs.declared.messages.Down.TheVariants.{ComputeTask, FreeKeys, StealRequest, RemoveReplicas, AcquireReplicas, RefreshWhoHas}
use Rattle.cluster_rules.specs.Functions.{put, put_pair}
use Rattle.cluster_rules.specs.Derived.{is_in}
use Rattle.cluster_rules.specs.Sched.{Facts, keys}
use Rattle.cluster_rules.specs.SchedStep.{count_to, mail, fence_after, takes_away}
use Rattle.cluster_rules.proofs.SchedFrame.{count_to-mail}
use Rattle.scheduler_core.specs.Posted.{taken_keys, posted_mail, posted_one, fenced}

pub count_to-push : (w : ℕ) (ms : List (ℕ × Down)) (m : ℕ × Down) → count_to w (ms ++ m ∷ []) ≡ count_to w ms + cond (eqb m.0 w) 1 0
count_to-push w [] m = turned (cond (eqb m.0 w) 1 0)
  where
    turned : (n : ℕ) → n + 0 ≡ 0 + n
    turned n = omega arith
count_to-push w (x ∷ ms) m = ap (λ n. cond (eqb x.0 w) 1 0 + n) (count_to-push w ms m) ∙ sym (add_assoc (cond (eqb x.0 w) 1 0) (count_to w ms) (cond (eqb m.0 w) 1 0))

mail-push : (w : ℕ) (ms : List (ℕ × Down)) (m : ℕ × Down) → mail w (ms ++ m ∷ []) ≡ mail w ms ++ cond (eqb m.0 w) (m.1 ∷ []) []
mail-push w [] m = refl
mail-push w (x ∷ ms) m = pick (eqb x.0 w) (mail-push w ms m)
  where
    pick : (b : Bool) → mail w (ms ++ m ∷ []) ≡ mail w ms ++ cond (eqb m.0 w) (m.1 ∷ []) [] → cond b (x.1 ∷ mail w (ms ++ m ∷ [])) (mail w (ms ++ m ∷ [])) ≡ cond b (x.1 ∷ mail w ms) (mail w ms) ++ cond (eqb m.0 w) (m.1 ∷ []) []
    pick true e = ap (λ l. x.1 ∷ l) e
    pick false e = e

pub count_to-few : (w : ℕ) (ms : List (ℕ × Down)) → count_to w ms ≤ length ms
count_to-few w [] = omega arith
count_to-few w (x ∷ ms) = pick (eqb x.0 w) (count_to-few w ms)
  where
    pick : (b : Bool) → count_to w ms ≤ length ms → cond b 1 0 + count_to w ms ≤ length (x ∷ ms)
    pick true h = omega (arith, h)
    pick false h = omega (arith, h)

fence_after-push : (k s : ℕ) (ms : List Down) (m : Down) (z : ℕ) → fence_after k s (ms ++ m ∷ []) z ≡ cond (takes_away k m) (s + length ms + 1) (fence_after k s ms z)
fence_after-push k s [] m z = ap (λ n. cond (takes_away k m) n z) (none s)
  where
    none : (n : ℕ) → n + 1 ≡ n + 0 + 1
    none n = omega arith
fence_after-push k s (x ∷ ms) m z = fence_after-push k (s + 1) ms m (cond (takes_away k x) (s + 1) z) ∙ ap (λ n. cond (takes_away k m) n (fence_after k (s + 1) ms (cond (takes_away k x) (s + 1) z))) (places (length ms))
  where
    places : (n : ℕ) → s + 1 + n + 1 ≡ s + suc n + 1
    places n = omega arith

takes-away : (k : ℕ) (m : Down) → takes_away k m ≡ is_in k (taken_keys m)
takes-away k (ComputeTask q a who) = refl
takes-away k (FreeKeys ks) = refl
takes-away k (StealRequest q a) = refl
takes-away k (RemoveReplicas ks) = refl
takes-away k (AcquireReplicas who) = refl
takes-away k (RefreshWhoHas who) = refl

sent_more : (f : Facts) (ms : List (ℕ × Down)) (m : ℕ × Down) (w : ℕ) → f.sent w + count_to w (ms ++ m ∷ []) ≡ cond (eqb w m.0) (f.sent m.0 + count_to m.0 ms + 1) (f.sent w + count_to w ms)
sent_more f ms m w = ap (λ n. f.sent w + n) (count_to-push w ms m) ∙ pick (eqb w m.0) refl
  where
    same : (a b : ℕ) → eqb b a ≡ true → eqb a b ≡ true
    same a b e = grind (arith, nat_tests)

    pick : (b : Bool) → eqb w m.0 ≡ b → f.sent w + (count_to w ms + cond (eqb m.0 w) 1 0) ≡ cond b (f.sent m.0 + count_to m.0 ms + 1) (f.sent w + count_to w ms)
    pick true e = ap (λ b. f.sent w + (count_to w ms + cond b 1 0)) (same m.0 w e) ∙ omega arith ∙ ap (λ v. f.sent v + count_to v ms + 1) (eqb-true w m.0 e)
    pick false e = ap (λ b. f.sent w + (count_to w ms + cond b 1 0)) (unequal_turned m.0 w e) ∙ omega arith

fence_more : (f : Facts) (ms : List (ℕ × Down)) (m : ℕ × Down) (w k : ℕ) → fence_after k (f.sent w) (mail w (ms ++ m ∷ [])) (f.fence w k) ≡ cond (eqb w m.0 && is_in k (taken_keys m.1)) (f.sent m.0 + count_to m.0 ms + 1) (fence_after k (f.sent w) (mail w ms) (f.fence w k))
fence_more f ms m w k = ap (λ l. fence_after k (f.sent w) l (f.fence w k)) (mail-push w ms m) ∙ pick (eqb w m.0) refl
  where
    same : (a b : ℕ) → eqb b a ≡ true → eqb a b ≡ true
    same a b e = grind (arith, nat_tests)

    none : (l : List Down) → fence_after k (f.sent w) (l ++ []) (f.fence w k) ≡ fence_after k (f.sent w) l (f.fence w k)
    none l = ap (λ x. fence_after k (f.sent w) x (f.fence w k)) (append-nil l)

    pick : (b : Bool) → eqb w m.0 ≡ b → fence_after k (f.sent w) (mail w ms ++ cond (eqb m.0 w) (m.1 ∷ []) []) (f.fence w k) ≡ cond (b && is_in k (taken_keys m.1)) (f.sent m.0 + count_to m.0 ms + 1) (fence_after k (f.sent w) (mail w ms) (f.fence w k))
    pick true e =
        ap (λ b. fence_after k (f.sent w) (mail w ms ++ cond b (m.1 ∷ []) []) (f.fence w k)) (same m.0 w e)
        ∙ fence_after-push k (f.sent w) (mail w ms) m.1 (f.fence w k)
        ∙ ap (λ b. cond b (f.sent w + length (mail w ms) + 1) (fence_after k (f.sent w) (mail w ms) (f.fence w k))) (takes-away k m.1)
        ∙ ap (λ n. cond (is_in k (taken_keys m.1)) (f.sent w + n + 1) (fence_after k (f.sent w) (mail w ms) (f.fence w k))) (sym (count_to-mail w ms))
        ∙ ap (λ v. cond (is_in k (taken_keys m.1)) (f.sent v + count_to v ms + 1) (fence_after k (f.sent w) (mail w ms) (f.fence w k))) (eqb-true w m.0 e)
    pick false e = ap (λ b. fence_after k (f.sent w) (mail w ms ++ cond b (m.1 ∷ []) []) (f.fence w k)) (unequal_turned m.0 w e) ∙ none (mail w ms)

own_place : (b : Bool) (w v : ℕ) (sent : ℕ → ℕ) (n z : ℕ) → n ≡ put sent w (sent w + 1) w → cond b n z ≡ cond b (put sent w (sent w + 1) w) z
own_place b w v sent n z e = ap (λ x. cond b x z) e

put_own : (sent : ℕ → ℕ) (w : ℕ) → put sent w (sent w + 1) w ≡ sent w + 1
put_own sent w = ap (λ b. cond b (sent w + 1) (sent w)) (eqb_self w)

-- one more message
pub posted-push : (f : Facts) (ms : List (ℕ × Down)) (m : ℕ × Down) → posted_mail f (ms ++ m ∷ []) ≡ posted_one (posted_mail f ms) m
unfolding posted_mail posted_one fenced
posted-push f ms m = λ i. record f {
  sent = λ w. sent_more f ms m w i;
  fence = λ w k. (fence_more f ms m w k ∙ ap (λ n. cond (eqb w m.0 && is_in k (taken_keys m.1)) n (fence_after k (f.sent w) (mail w ms) (f.fence w k))) (sym (put_own (λ v. f.sent v + count_to v ms) m.0))) i;
}

-- nothing was sent
pub posted-nil : (f : Facts) → posted_mail f [] ≡ f
unfolding posted_mail
posted-nil f = λ i. record f { sent = λ w. add-zero (f.sent w) i }

pub last-posted : (f : Facts) (ms : List (ℕ × Down)) → (posted_mail f ms).last_worker ≡ f.last_worker
unfolding posted_mail
last-posted f ms = refl

pub keys-posted : (f : Facts) (ms : List (ℕ × Down)) → keys (posted_mail f ms) ≡ keys f
unfolding posted_mail
keys-posted f ms = refl

pub sent-posted : (f : Facts) (ms : List (ℕ × Down)) (w : ℕ) → (posted_mail f ms).sent w ≡ f.sent w + count_to w ms
unfolding posted_mail
sent-posted f ms w = refl

-- no key is fenced
pub fenced-nil : (f : Facts) (w : ℕ) → fenced f w [] ≡ f
unfolding fenced
fenced-nil f w = λ i. record f { fence = λ v k. none (eqb v w) (f.fence v k) i }
  where
    none : (b : Bool) (z : ℕ) → cond (b && false) (f.sent w) z ≡ z
    none true z = refl
    none false z = refl

pub last-fenced : (f : Facts) (w : ℕ) (ks : List ℕ) → (fenced f w ks).last_worker ≡ f.last_worker
unfolding fenced
last-fenced f w ks = refl

pub keys-fenced : (f : Facts) (w : ℕ) (ks : List ℕ) → keys (fenced f w ks) ≡ keys f
unfolding fenced
keys-fenced f w ks = refl

-- one more key is fenced
fenced_key : (w k v j z : ℕ) (ks : List ℕ) (s : ℕ) → cond (eqb v w && is_in j (ks ++ k ∷ [])) s z ≡ cond (eqb v w && eqb j k) s (cond (eqb v w && is_in j ks) s z)
fenced_key w k v j z ks s = pick (eqb v w)
  where
    last : (x b : Bool) → cond (x || (b || false)) s z ≡ cond b s (cond x s z)
    last true true = refl
    last true false = refl
    last false true = refl
    last false false = refl

    pick : (b : Bool) → cond (b && is_in j (ks ++ k ∷ [])) s z ≡ cond (b && eqb j k) s (cond (b && is_in j ks) s z)
    pick false = refl
    pick true = ap (λ b. cond b s z) (list_any-append (λ d. eqb d j) ks (k ∷ [])) ∙ last (is_in j ks) (eqb k j) ∙ ap (λ b. cond b s (cond (is_in j ks) s z)) (eqb_turned k j)

pub fenced-push : (f : Facts) (w : ℕ) (ks : List ℕ) (k : ℕ) → fenced f w (ks ++ k ∷ []) ≡ record (fenced f w ks) { fence = put_pair (fenced f w ks).fence w k ((fenced f w ks).sent w) }
unfolding fenced
fenced-push f w ks k = λ i. record f { fence = λ v j. fenced_key w k v j (f.fence v j) ks (f.sent w) i }
