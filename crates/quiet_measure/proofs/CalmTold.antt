-- What clients are told after an event that takes nothing away is paid by what they knew.
use Rattle.std.proofs.Common.{◌≡◌, ℕ, zero, suc, ◌+◌, ◌<◌, ◌≤◌, Bool, true, false, ◌&&◌, List, refl, sym, ap, ◌∙◌, arith}
use Rattle.std.specs.List.{range_with_len}
use Rattle.std.proofs.lemmas.Bool.{or_left, false≢true}
use Rattle.small_facts.proofs.Ranges.{range_has}
use Rattle.cluster_rules.specs.Functions.{from_one, total}
use Rattle.cluster_rules.specs.Sched.{Setting, Facts, IsSound, held, erred, wanted, need}
use Rattle.cluster_rules.specs.SchedTable.{Changed}
use Rattle.cluster_rules.specs.SchedStep.{drop_bad, settle}
use Rattle.cluster_rules.proofs.Members.{any_some}
use Rattle.cluster_rules.proofs.SchedLemmas.{need-is}
use Rattle.cluster_laws.specs.Settled.{IsSettled}
use Rattle.quiet_measure.specs.Measure.{told_weight}
use Rattle.quiet_measure.specs.Settles.{SettlesAt}
use Rattle.quiet_measure.specs.Changes.{AreDrawn, IsCalmChange}
use Rattle.quiet_measure.proofs.Settle.{settles_at}
use Rattle.quiet_measure.proofs.Posts.{total_plus, told_cost}
use Rattle.quiet_measure.proofs.Pay.{told_calm}
use Rattle.quiet_measure.proofs.CalmChanges.{sound_drop_bad, err_kept}

pub total_range_most : (h g : ℕ → ℕ) (a n : ℕ) → ((y : ℕ) → a ≤ y → y < a + n → h y ≤ g y) → total h (range_with_len a n) ≤ total g (range_with_len a n)
total_range_most h g a zero l = omega arith
total_range_most h g a (suc n) l =
    let r : total h (range_with_len (a + 1) n) ≤ total g (range_with_len (a + 1) n) = total_range_most h g (a + 1) n (λ y x z. l y (omega (arith, x)) (omega (arith, z))) in
    let z : h a ≤ g a = l a (omega arith) (omega arith) in
    omega (arith, r, z)

pub is_wanted_by : (f : Facts) (c k : ℕ) → 1 ≤ c → c < 1 + f.setting.clients → f.want c k ≡ true → wanted f k ≡ true
unfolding wanted
is_wanted_by f c k l m e = any_some (λ c. f.want c k) (from_one f.setting.clients) c (range_has 1 f.setting.clients c l m) e

pub wanted_is_needed : (f : Facts) → IsSound f → (k : ℕ) → wanted f k ≡ true → need f k ≡ true
wanted_is_needed f s k e = need-is f s k ∙ or_left (wanted f k) _ e

want-drop_bad : (f : Facts) → (drop_bad f).want ≡ f.want
unfolding drop_bad
want-drop_bad f = refl

setting-drop_bad : (f : Facts) → (drop_bad f).setting ≡ f.setting
unfolding drop_bad
setting-drop_bad f = refl

module _ (f : Facts) (g : Changed) (own : ℕ → Bool) (sound : IsSound f) (settled : IsSettled f) (drawn : AreDrawn f) (sh : IsSound g.facts) (calm : IsCalmChange f g.facts own) (e : ℕ → ℕ) where
  here : (k : ℕ) → SettlesAt (settle f g) k
  here k = settles_at f g (sound_drop_bad g.facts sh) k

  want_same : (c k : ℕ) → (settle f g).placed.want c k ≡ f.want c k
  unfolding settle
  want_same c k = ap (λ w. w c k) ((here k).want_is ∙ calm.want)

  -- an erred key that a client wants has erred still
  pub erred_still : (c k : ℕ) → 1 ≤ c → c < 1 + f.setting.clients → (settle f g).placed.want c k ≡ true → erred f k ≡ true → erred (settle f g).placed k ≡ true
  unfolding settle
  erred_still c k l m w x = (here k).erred_is needs ∙ err_kept f g own sound settled drawn sh calm (k + 1) k (omega arith) x
    where
      clients : (drop_bad g.facts).setting.clients ≡ f.setting.clients
      clients = ap (λ (s : Setting). s.clients) (setting-drop_bad g.facts ∙ calm.setting)

      needs : need (drop_bad g.facts) k ≡ true
      needs = wanted_is_needed (drop_bad g.facts) (sound_drop_bad g.facts sh) k
          (is_wanted_by (drop_bad g.facts) c k l (omega (arith, m, clients)) (ap (λ w. w c k) (want-drop_bad g.facts ∙ calm.want) ∙ sym (want_same c k) ∙ w))

  pub told_pays : (k : ℕ) → g.asked k ≡ false → (held g.facts k ≡ true → held f k ≡ true)
      → total (λ c. told_weight (settle f g).placed c k) (from_one f.setting.clients) + total (λ c. told_cost (settle f g) e c k) (from_one f.setting.clients) ≤ total (λ c. told_weight f c k) (from_one f.setting.clients)
  unfolding settle
  told_pays k a h =
      let x : total (λ c. told_weight (settle f g).placed c k + told_cost (settle f g) e c k) cs ≤ total (λ c. told_weight f c k) cs =
      total_range_most _ _ 1 f.setting.clients (λ c l m. told_calm (settle f g) e c k (want_same c k) a (λ w y. erred_still c k l m w y) (λ w y. h (and_right (need (drop_bad g.facts) k) (held g.facts k) (sym (here k).held_is ∙ y)))) in
      let y = total_plus (λ c. told_weight (settle f g).placed c k) (λ c. told_cost (settle f g) e c k) cs in
      omega (arith, x, y)
    where
      cs : List ℕ
      cs = from_one f.setting.clients

      and_right : (a b : Bool) → (a && b) ≡ true → b ≡ true
      and_right true b e = e
      and_right false b e = absurd (false≢true e)
