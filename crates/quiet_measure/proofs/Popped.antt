-- A message to the scheduler is taken from its link.
use Rattle.std.proofs.Common.{◌≡◌, ℕ, ◌+◌, ◌≤◌, Bool, true, cond, List, ◌∷◌, refl, sym, ap, subst, arith}
use Rattle.std.proofs.lemmas.Bool.{eq-eqb}
use Rattle.cluster_msgs.specs.declared.messages.Up.{Up}
use Rattle.cluster_msgs.specs.declared.messages.FromClient.{FromClient as ClientMessage}
use Rattle.cluster_rules.specs.Functions.{put, total}
use Rattle.cluster_rules.specs.World.{World, is_connected, all_workers, all_clients}
use Rattle.quiet_measure.specs.Weights.{sum_of, down_weight, up_weight, core_weight, news_weight, letter_weight, client_core_weight}
use Rattle.quiet_measure.specs.Measure.{site_weight, worker_weight, client_site_weight, client_weight, links_weight}
use Rattle.quiet_measure.proofs.Sums.{total_at_most, total_trade}
use Rattle.quiet_measure.proofs.Falling.{same_most}

module _ (w : World) (i : ℕ) (m : Up) (ms : List Up) (e : w.up i ≡ m ∷ ms) (d : ℕ → ℕ) (l : is_connected w i ≡ true) (low : 1 ≤ i) (high : i ≤ w.sched.last_worker) where
  abbrev pub up_taken : World
  up_taken = record w { up = put w.up i ms }

  spot : List Up → ℕ → ℕ
  spot us x = site_weight w.sched d x (w.alive x) (is_connected w x) (w.down x) (w.workers x) us

  spot_here : spot ms i + up_weight w.sched d m ≤ worker_weight d w i
  unfolding spot site_weight worker_weight
  spot_here = subst (λ (us : List Up). cond (is_connected w i) (cond (w.alive i) (sum_of (down_weight w.sched d i) (w.down i) + core_weight w.sched d (w.workers i)) 0 + sum_of (up_weight w.sched d) ms) 0 + up_weight w.sched d m
      ≤ cond (is_connected w i) (cond (w.alive i) (sum_of (down_weight w.sched d i) (w.down i) + core_weight w.sched d (w.workers i)) 0 + sum_of (up_weight w.sched d) us) 0) (sym e)
      (subst (λ (y : Bool). cond y (cond (w.alive i) (sum_of (down_weight w.sched d i) (w.down i) + core_weight w.sched d (w.workers i)) 0 + sum_of (up_weight w.sched d) ms) 0 + up_weight w.sched d m
      ≤ cond y (cond (w.alive i) (sum_of (down_weight w.sched d i) (w.down i) + core_weight w.sched d (w.workers i)) 0 + (up_weight w.sched d m + sum_of (up_weight w.sched d) ms)) 0) (sym l)
      (omega arith))

  pub up_popped : links_weight d up_taken + up_weight w.sched d m ≤ links_weight d w
  unfolding links_weight worker_weight client_weight spot
  up_popped =
      let y : total (client_weight d up_taken) (all_clients w) ≤ total (client_weight d w) (all_clients w) = total_at_most _ _ (all_clients w) (λ c. same_most _ _ refl) in
      let x : total (worker_weight d up_taken) (all_workers w) + up_weight w.sched d m ≤ total (worker_weight d w) (all_workers w) + 0 =
      total_trade _ _ (up_weight w.sched d m) 0 i 1 w.sched.last_worker (λ y o. same_most _ _ (ap (λ b. spot (cond b ms (w.up y)) y) o)) one low (omega (arith, high)) in
      omega (arith, x, y)
    where
      one : worker_weight d up_taken i + up_weight w.sched d m ≤ worker_weight d w i + 0
      one = let q : worker_weight d up_taken i ≡ spot ms i = ap (λ b. spot (cond b ms (w.up i)) i) (eq-eqb i i refl) in omega (arith, spot_here, q)

module _ (w : World) (c : ℕ) (m : ClientMessage) (ms : List ClientMessage) (e : w.from_client c ≡ m ∷ ms) (d : ℕ → ℕ) (low : 1 ≤ c) (high : c ≤ w.sched.setting.clients) where
  abbrev pub letter_taken : World
  letter_taken = record w { from_client = put w.from_client c ms }

  home : List ClientMessage → ℕ → ℕ
  home us x = client_site_weight w.sched d (w.to_client x) (w.clients x) us

  home_here : home ms c + letter_weight w.sched d m ≤ client_weight d w c
  unfolding home client_site_weight client_weight
  home_here = subst (λ (us : List ClientMessage). (sum_of (news_weight w.sched d) (w.to_client c) + (client_core_weight w.sched d (w.clients c) + sum_of (letter_weight w.sched d) ms)) + letter_weight w.sched d m
      ≤ sum_of (news_weight w.sched d) (w.to_client c) + (client_core_weight w.sched d (w.clients c) + sum_of (letter_weight w.sched d) us)) (sym e) (omega arith)

  pub letter_popped : links_weight d letter_taken + letter_weight w.sched d m ≤ links_weight d w
  unfolding links_weight worker_weight client_weight home
  letter_popped =
      let y : total (worker_weight d letter_taken) (all_workers w) ≤ total (worker_weight d w) (all_workers w) = total_at_most _ _ (all_workers w) (λ c. same_most _ _ refl) in
      let x : total (client_weight d letter_taken) (all_clients w) + letter_weight w.sched d m ≤ total (client_weight d w) (all_clients w) + 0 =
      total_trade _ _ (letter_weight w.sched d m) 0 c 1 w.sched.setting.clients (λ y o. same_most _ _ (ap (λ b. home (cond b ms (w.from_client y)) y) o)) one low (omega (arith, high)) in
      omega (arith, x, y)
    where
      one : client_weight d letter_taken c + letter_weight w.sched d m ≤ client_weight d w c + 0
      one = let q : client_weight d letter_taken c ≡ home ms c = ap (λ b. home (cond b ms (w.from_client c)) c) (eq-eqb c c refl) in omega (arith, home_here, q)
