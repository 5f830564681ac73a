-- What the end of a simulation says.
use Rattle.std.proofs.Common.{◌≡◌, ℕ, ◌<◌, Bool, true, false, not, ◌&&◌, ◌||◌, cond, List, [], ◌∷◌, Option, Some, None, is_some, find, refl, sym, ap, ◌∙◌, arith}
use Rattle.std.specs.Prelude.{◌==◌, ◌↔◌}
use Rattle.std.specs.List.{list_all, list_any}
use Rattle.std.proofs.lemmas.Bool.{true≢false, false≢true, eqb-true}
use Rattle.std.proofs.Math.Bool.{or-true}
use Rattle.small_facts.proofs.Options.{some_not_none, find_passes}
use Rattle.cluster_msgs.specs.Shape.{IsShape, key_count, deps_of}
use Rattle.cluster_msgs.specs.Values.{val, cone}
use Rattle.cluster_msgs.specs.declared.events.Event.{Event}
use Rattle.cluster_rules.specs.Derived.{is_in}
use Rattle.cluster_rules.specs.Sched.{Setting}
use Rattle.cluster_rules.specs.Client.{ClientFacts, client_keys}
use Rattle.cluster_rules.specs.World.{World, shape_of}
use Rattle.cluster_rules.specs.Runs.{legal, reached, WasKilled}
use Rattle.cluster_rules.specs.Draw.{Plan, over, over_by}
use Rattle.cluster_laws.proofs.TruthWorld.{true_after}
use Rattle.cluster_laws.specs.Blocks.{job_of}
use Rattle.cluster_laws.specs.AreValues.{IsBlamed}
use Rattle.cluster_laws.proofs.BlockValues.{blamed}
use Rattle.cluster_sim.specs.Plans.{IsPlan}
use Rattle.cluster_sim.specs.Standing.{IsFor, IsStanding}
use Rattle.cluster_sim.specs.Openings.{IsOpen}
use Rattle.std.specs.Option.{option_map}
use Rattle.safety_laws.specs.Released.{NoneReleases}
use Rattle.cluster_world.specs.Safe.{LosesFew}
use Rattle.cluster_sim.specs.Simulations.{HasAll}
use Rattle.cluster_sim.specs.Faults.{fault_at, IfBlamed}
use Rattle.cluster_sim.proofs.FaultLemmas.{fault_is}
use Rattle.cluster_sim.specs.declared.position.Standing.{Standing}
use Rattle.cluster_sim.proofs.EndLemmas.{got_all, all_to}

-- the failure that ends a simulation is one that the client was told
over_blame : (c : ClientFacts) (b : ℕ) → over c ≡ Some (Some b) → (k : ℕ) × (c.failed k ≡ Some b)
over_blame c b h = pick (find (λ k. is_some (c.failed k)) (client_keys c)) h
  where
    served : (d : Bool) → cond d (Some None) None ≡ Some (Some b) → ⊥
    served true h = cc
    served false h = cc

    same : (o : Option ℕ) → Some o ≡ Some (Some b) → o ≡ Some b
    same o h = cc

    pick : (o : Option ℕ) → over_by c o ≡ Some (Some b) → (k : ℕ) × (c.failed k ≡ Some b)
    pick None h = absurd (served (list_all (λ k. not (c.wants k && not (c.got k))) (client_keys c)) h)
    pick (Some k) h = (k, same (c.failed k) h)

-- without a failure all is got
over_served : (c : ClientFacts) → over c ≡ Some None → list_all (λ k. not (c.wants k && not (c.got k))) (client_keys c) ≡ true
over_served c h = pick (find (λ k. is_some (c.failed k)) (client_keys c)) refl h
  where
    all : (d : Bool) → cond {A = Option (Option ℕ)} d (Some None) None ≡ Some None → d ≡ true
    all true h = refl
    all false h = absurd (no h)
      where
        no : ◌≡◌ {A = Option (Option ℕ)} None (Some None) → ⊥
        no h = cc

    same : (o : Option ℕ) → Some o ≡ Some None → o ≡ None
    same o h = cc

    none_some : (o : Option ℕ) → o ≡ None → is_some o ≡ true → ⊥
    none_some None e h = false≢true h
    none_some (Some x) e h = some_not_none x e

    pick : (o : Option ℕ) → find (λ k. is_some (c.failed k)) (client_keys c) ≡ o → over_by c o ≡ Some None → list_all (λ k. not (c.wants k && not (c.got k))) (client_keys c) ≡ true
    pick None q h = all (list_all (λ k. not (c.wants k && not (c.got k))) (client_keys c)) h
    pick (Some k) q h = absurd (none_some (c.failed k) (same (c.failed k) h) (find_passes (λ k. is_some (c.failed k)) (client_keys c) k q))

-- no failure is told exactly where the client has got all
pub served_is : (w : World) (wanted : List ℕ) (failure : Option ℕ) → IsFor wanted (w.clients 1) → ((k : ℕ) → is_in k wanted ≡ true → k < key_count (w.clients 1).shape) → over (w.clients 1) ≡ Some failure → (failure ≡ None) ↔ HasAll w wanted
served_is w wanted failure h keys e = (to, from failure e)
  where
    to : failure ≡ None → HasAll w wanted
    to q k i = all_to (w.clients 1).got wanted k (sym (got_all (w.clients 1) wanted h.wants keys) ∙ over_served (w.clients 1) (e ∙ ap (λ o. Some o) q)) i

    from : (o : Option ℕ) → over (w.clients 1) ≡ Some o → HasAll w wanted → o ≡ None
    from None e all = refl
    from (Some b) e all =
        let k = over_blame (w.clients 1) b e in
        let f = h.failed k.0 (ap is_some k.1) in
        absurd (true≢false (sym (all k.0 f.0) ∙ f.1))

any_from : (p : ℕ → Bool) (xs : List ℕ) (k : ℕ) → is_in k xs ≡ true → p k ≡ true → list_any p xs ≡ true
any_from p [] k h q = absurd (false≢true h)
any_from p (x ∷ xs) k h q = pick (x == k) refl (λ i. any_from p xs k i q) h
  where
    pick : (b : Bool) → (x == k) ≡ b → (is_in k xs ≡ true → list_any p xs ≡ true) → (b || is_in k xs) ≡ true → (p x || list_any p xs) ≡ true
    pick true e r h = ap (λ b. b || list_any p xs) (ap p (eqb-true x k e) ∙ q)
    pick false e r h = ap (λ b. p x || b) (r h) ∙ or-true (p x)

-- the failure is blamed on a needed key that is faulty or was killed
pub blame_is : {B : Type 0} (s : Setting) (op : ℕ → List B → Option B) (wanted : List ℕ) (es : List Event) (w : World) (failure : Option ℕ) → IsShape s.shape → legal (job_of s op) es → NoneReleases es → LosesFew (reached (job_of s op) es).sched → w.sched.setting ≡ s → reached (job_of s op) es ≡ w → IsFor wanted (w.clients 1) → over (w.clients 1) ≡ Some failure
    → IfBlamed (job_of s op) es (deps_of s.shape) (val (deps_of s.shape) op) wanted (option_map (fault_at w) failure)
blame_is s op wanted es w None g l n few q r h e = tt
blame_is s op wanted es w (Some b) g l n few q r h e =
    let k = over_blame (w.clients 1) b e in
    let told : ((reached (job_of s op) es).clients 1).failed k.0 ≡ Some b = ap (λ (x : World). (x.clients 1).failed k.0) r ∙ k.1 in
    let i : IsBlamed (WasKilled (job_of s op) es) (deps_of s.shape) (val (deps_of s.shape) op) k.0 b = blamed s op g (WasKilled (job_of s op) es) k.0 b (((true_after (job_of s op) g es l).clients 1).failed k.0 b told) in
    fault_is s op wanted es w k.0 b n few q r i (any_from (λ j. cone (deps_of s.shape) j b) wanted k.0 (h.failed k.0 (ap is_some k.1)).0 i.within)

-- where a simulation stands once it has opened
pub standing_first : (p : Plan) (wanted : List ℕ) (w : World) (s : Standing) → IsPlan p → IsOpen wanted p.workers w → ((k : ℕ) → is_in k wanted ≡ true → k < key_count (shape_of w)) → s.passed ≡ 0 → s.evicts ≡ 0 → s.balances ≡ 0 → IsStanding p wanted w s
standing_first p wanted w s plan h keys passed evicts balances = record {
  client = h.client;
  shape = h.shape;
  keys = keys;
  passed = rw passed (omega arith);
  joins = rw passed (let l = h.last in let m = plan.workers in let n = plan.joins in omega (arith, l, m, n));
  evicts = rw evicts (omega arith);
  balances = rw balances (omega arith);
}
