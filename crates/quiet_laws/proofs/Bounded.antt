-- A list of progress events that is as long as the bound of its world, which no number of events that are made reaches at its cap, can't be made longer.
use Rattle.std.proofs.Common.{◌≡◌, ℕ, ◌+◌, ◌-◌, ◌^◌, ◌<◌, ◌≤◌, Bool, true, false, List, [], ◌∷◌, ◌++◌, length, min, refl, sym, ap, ◌∙◌, subst, arith}
use Rattle.std.specs.Prelude.{nat_le}
use Rattle.std.specs.List.{Contains}
use Rattle.std.proofs.lemmas.Bool.{false≢true}
use Rattle.cluster_msgs.specs.declared.events.Event.{Event}
use Rattle.cluster_rules.specs.Worker.{has_any}
use Rattle.cluster_rules.specs.World.{Job, IsJob, World, under_way, rest, rest_of}
use Rattle.cluster_rules.specs.WorldStep.{world_step}
use Rattle.cluster_rules.specs.Enabled.{progress}
use Rattle.cluster_rules.specs.Runs.{legal, run_from, reached}
use Rattle.quiet_measure.specs.Bounded.{most_events}
use Rattle.quiet_laws.specs.Quiet.{IsQuiet}
use Rattle.quiet_laws.proofs.Rest.{comes_to_rest}

quiet_more : (j : Job) (w : World) (qs : List Event) (e : Event) → IsQuiet j w qs → Contains (progress (run_from j w qs)) e → IsQuiet j w (qs ++ e ∷ [])
quiet_more j w [] e q c = (c, tt)
quiet_more j w (x ∷ xs) e q c = (q.0, quiet_more j (world_step j w x) xs e q.1 c)

one_more : (qs : List Event) (e : Event) → length (qs ++ e ∷ []) ≡ length qs + 1
one_more [] e = refl
one_more (x ∷ xs) e = let r = one_more xs e in omega (arith, r)

first_is : (e : Event) (es : List Event) → Contains (e ∷ es) e
first_is e es = (0, omega arith, refl)

uncapped : (m n top : ℕ) → n ≡ min m top → n < top → n + 1 ≤ m → ⊥
uncapped m n top e l h = grind (arith, e, l, h)

pub none_longer : (j : Job) → IsJob j → (es qs : List Event) → legal j es → IsQuiet j (reached j es) qs → length qs < 2 ^ 128 - 1 → length qs ≡ rest (reached j es) → progress (run_from j (reached j es) qs) ≡ []
unfolding rest
none_longer j job es qs l q few count = by (progress (run_from j (reached j es) qs)) refl
  where
    capped : (b : Bool) → length qs ≡ rest_of b (most_events (reached j es)) → length qs + 1 ≤ most_events (reached j es) → ⊥
    capped true e m = omega (arith, e, few)
    capped false e m = uncapped (most_events (reached j es)) (length qs) (2 ^ 128 - 1) e few m

    by : (ps : List Event) → progress (run_from j (reached j es) qs) ≡ ps → ps ≡ []
    by [] e = refl
    by (p ∷ ps) e = absurd (capped (nat_le (2 ^ 64 - 1) (under_way (reached j es))) count
        (let n = one_more qs p in let m = (comes_to_rest j job es l (qs ++ p ∷ []) (quiet_more j (reached j es) qs p q (subst (λ x. Contains x p) (sym e) (first_is p ps)))).count in omega (arith, n, m)))
