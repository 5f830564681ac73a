-- The state of a key, by what is asked of it.
use Rattle.std.proofs.Common.{◌≡◌, ℕ, Bool, true, false, not, cond, ◌||◌, List, [], ◌∷◌, is_some, length, refl, sym, ap, ◌∙◌, arith}
use Rattle.std.specs.Prelude.{nat_lt}
use Rattle.std.specs.List.{list_any, filter}
use Rattle.std.proofs.lemmas.Bool.Decides.{nat_tests}
use Rattle.cluster_msgs.specs.declared.cores.Phase.{Phase}
use Rattle.cluster_msgs.specs.declared.cores.Phase.TheVariants.{Erred, Released, Memory, Waiting, Processing, NoWorker, Queued, Forgotten}
use Rattle.cluster_rules.specs.Functions.{from_one}
use Rattle.cluster_rules.specs.Sched.{Facts, known, erred, need, held, fed, connected, phase}

pub phase_by : (f : Facts) (k : ℕ) (kn er ne he fe pl co : Bool) (rest all : Phase) → kn ≡ known f k → er ≡ erred f k → ne ≡ need f k → he ≡ held f k → fe ≡ fed f k → pl ≡ is_some (f.on k) → co ≡ list_any (connected f) (from_one f.last_worker)
    → rest ≡ cond (not fe) Waiting (cond pl Processing (cond (not co) NoWorker Queued))
    → all ≡ cond (not kn) Forgotten (cond er Erred (cond (not ne) Released (cond he Memory rest)))
    → all ≡ phase f k
unfolding phase
phase_by f k kn er ne he fe pl co rest all a b c d e g h p q =
    q ∙ ap (λ (r : Phase). cond (not kn) Forgotten (cond er Erred (cond (not ne) Released (cond he Memory r)))) p
    ∙ (λ i. cond (not (a i)) Forgotten (cond (b i) Erred (cond (not (c i)) Released (cond (d i) Memory (cond (not (e i)) Waiting (cond (g i) Processing (cond (not (h i)) NoWorker Queued)))))))

pub any_worker : (p : ℕ → Bool) (xs : List ℕ) → nat_lt 0 (length (filter p xs)) ≡ list_any p xs
any_worker p [] = refl
any_worker p (x ∷ xs) = pick (p x) (any_worker p xs)
  where
    some : (ys : List ℕ) → nat_lt 0 (length (x ∷ ys)) ≡ true
    some ys = grind (arith, nat_tests)

    pick : (b : Bool) → nat_lt 0 (length (filter p xs)) ≡ list_any p xs → nat_lt 0 (length (cond b (x ∷ filter p xs) (filter p xs))) ≡ (b || list_any p xs)
    pick true h = some (filter p xs)
    pick false h = h

-- a key that is not there is forgotten
pub phase_past : (f : Facts) (k : ℕ) → known f k ≡ false → Forgotten ≡ phase f k
unfolding phase
phase_past f k e = sym (ap (λ b. cond (not b) Forgotten (cond (erred f k) Erred (cond (not (need f k)) Released (cond (held f k) Memory (cond (not (fed f k)) Waiting (cond (is_some (f.on k)) Processing (cond (not (list_any (connected f) (from_one f.last_worker))) NoWorker Queued))))))) e)
