-- A key that is asked back stays where it is while the facts settle.
use Rattle.std.proofs.Common.{◌≡◌, ℕ, Bool, true, false, cond, refl, sym, Option, Some, None, is_some, ap, ◌∙◌}
use Rattle.std.proofs.lemmas.Bool.{false≢true}
use Rattle.small_facts.proofs.Options.{cond_where_some}
use Rattle.small_facts.proofs.Truth.{cond_where_true}
use Rattle.cluster_rules.specs.Derived.{below}
use Rattle.cluster_rules.specs.Sched.{Facts, keys, known, wanted, need, held, erred, ready}
use Rattle.cluster_rules.specs.SchedStep.{drop_bad, drop_has, drop_on, place_all}
use Rattle.cluster_rules.proofs.SchedFrame.{placing_keys}
use Rattle.cluster_laws.specs.Settled.{IsSettled}
use Rattle.scheduler_core.specs.Settling.{let_go}

-- facts that have settled, with other steals
none_where : (b : Bool) (n : ℕ) → (b ≡ false → n ≡ 0) → cond b n 0 ≡ n
none_where true n h = refl
none_where false n h = sym (h refl)

no_bad : (f : Facts) (s : ℕ → Option (ℕ × Bool)) → IsSettled f → drop_bad (record f { steal = s }) ≡ record f { steal = s }
unfolding drop_bad known wanted
no_bad f s v = λ i. record f { steal = s; bad = λ k. cond_where_true (known f k) (f.bad k) (v.errors_are_known k) i; losses = λ k. none_where (known f k) (f.losses k) (v.losses_are_known k) i }

no_has : (f : Facts) (s : ℕ → Option (ℕ × Bool)) → IsSettled f → drop_has (record f { steal = s }) ≡ record f { steal = s }
unfolding drop_has need wanted held erred
no_has f s v = λ i. record f { steal = s; has = λ w k. cond_where_some (need f k) (f.has w k) (v.held_are_needed w k) i }

no_on : (f : Facts) (s : ℕ → Option (ℕ × Bool)) → IsSettled f → (drop_on (record f { steal = s })).on ≡ f.on
unfolding drop_on ready need wanted held erred
no_on f s v = λ i k. cond_where_some (ready f k) (f.on k) (v.placed_are_ready k) i

places_stay : (f : Facts) (s : ℕ → Option (ℕ × Bool)) → IsSettled f → (let_go (record f { steal = s })).on ≡ f.on
unfolding let_go
places_stay f s v =
    ap (λ (g : Facts). (drop_on (drop_has g)).on) (no_bad f s v)
    ∙ ap (λ (g : Facts). (drop_on g).on) (no_has f s v)
    ∙ no_on f s v

still : (f g : Facts) (k : ℕ) (o : Option (ℕ × ℕ)) → ((p : ℕ × ℕ) → f.on k ≡ Some p → g.on k ≡ Some p) → f.on k ≡ o → is_some o ≡ true → g.on k ≡ o
still f g k None h e t = absurd (false≢true t)
still f g k (Some p) h e t = h p e

pub place_stays : (f : Facts) (k : ℕ) (s : ℕ → Option (ℕ × Bool)) → IsSettled f → is_some (f.on k) ≡ true → (place_all (let_go (record f { steal = s }))).on k ≡ f.on k
unfolding place_all
place_stays f k s v t =
    let g = let_go (record f { steal = s }) in
    let e : g.on k ≡ f.on k = ap (λ (o : ℕ → Option (ℕ × ℕ)). o k) (places_stay f s v) in
    still g (place_all g) k (f.on k) ((placing_keys g (below (keys g))).stays k) e t
