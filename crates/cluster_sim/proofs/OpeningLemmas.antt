-- The opening events, one after another.
use Rattle.std.proofs.Common.{◌≡◌, ℕ, ◌+◌, ◌≤◌, ◌<◌, Bool, true, false, ◌||◌, List, [], ◌∷◌, length, Option, Some, None, is_some, refl, sym, ap, ◌∙◌, arith, subst}
use Rattle.std.specs.Prelude.{nat_lt, ◌==◌}
use Rattle.std.proofs.lemmas.Bool.{false≢true, and_from, eqb-true, lt-ltb, le-leb}
use Rattle.std.proofs.lemmas.List.FromFn.{length-range_with_len}
use Rattle.small_facts.proofs.Lists.{filter_fewer}
use Rattle.cluster_msgs.specs.Shape.{key_count}
use Rattle.cluster_msgs.specs.declared.cores.ClientEvent.TheVariants.{Want as WantKeys}
use Rattle.cluster_msgs.specs.declared.events.Event.TheVariants.{Join, Want}
use Rattle.cluster_rules.specs.Derived.{is_in}
use Rattle.cluster_rules.specs.Functions.{from_one}
use Rattle.cluster_rules.specs.Sched.{Setting, Facts, workers, connected}
use Rattle.cluster_rules.specs.SchedTable.{sched_takes}
use Rattle.cluster_rules.specs.Client.{ClientFacts, client_step, client_wants}
use Rattle.cluster_rules.specs.World.{Job, World, opening, shape_of}
use Rattle.cluster_rules.specs.WorldStep.{client_worked, world_step}
use Rattle.cluster_rules.specs.Enabled.{enabled}
use Rattle.cluster_sim.specs.Standing.{IsFor}
use Rattle.cluster_sim.specs.Openings.{IsOpen, AreWanted}
use Rattle.cluster_sim.proofs.ClientKeeps.{IsQuiet}
use Rattle.cluster_sim.proofs.WorldKeeps.{world_keeps, quiet_step}
use Rattle.safety_laws.proofs.Lively.{all_from}

-- an opening world
pub open_none : (j : Job) → IsOpen [] 0 (opening j)
open_none j = record {
  last = refl;
  client = record { wants = λ k. refl; failed = λ k h. absurd (false≢true h) };
  shape = refl;
  fresh = λ k. refl;
}

few_workers : (f : Facts) → length (workers f) ≤ f.last_worker
few_workers f = let k = filter_fewer (connected f) (from_one f.last_worker) in let r = length-range_with_len 1 f.last_worker in omega (arith, k, r)

pub may_join : (w : World) (threads : ℕ) → (1 ≤ threads) × (threads ≤ 16) → w.sched.last_worker < 64 → enabled w (Join threads) ≡ true
unfolding enabled sched_takes
may_join w threads t h = and_from _ _ (and_from _ _ (le-leb 1 threads t.0) (le-leb threads 16 t.1)) (and_from _ _ (lt-ltb (length (workers w.sched)) 64 (let f = few_workers w.sched in omega (arith, f, h))) (lt-ltb w.sched.last_worker 1024 (omega (arith, h))))

pub open_join : (j : Job) (w v : World) (n threads : ℕ) → IsOpen [] n w → v ≡ world_step j w (Join threads) → IsOpen [] (n + 1) v
open_join j w v n threads h e = subst (λ x. IsOpen [] (n + 1) x) (sym e) (record {
  last = (world_keeps j w (Join threads)).last ∙ ap (λ m. m + 1) h.last;
  client = record { wants = λ k. ap (λ f. f k) quiet.wants ∙ h.client.wants k; failed = λ k s. let r = quiet.failed k (h.fresh k) s in absurd (false≢true (sym (h.client.wants k) ∙ r.0)) };
  shape = quiet.shape ∙ h.shape ∙ ap (λ (s : Setting). s.shape) (sym (world_keeps j w (Join threads)).setting);
  fresh = λ k. none (((world_step j w (Join threads)).clients 1).failed k) (λ s. let r = quiet.failed k (h.fresh k) s in false≢true (sym (h.client.wants k) ∙ r.0));
})
  where
    quiet : IsQuiet false (w.clients 1) ((world_step j w (Join threads)).clients 1)
    quiet = quiet_step j w (Join threads) refl

    none : (o : Option ℕ) → (is_some o ≡ true → ⊥) → o ≡ None
    none None f = refl
    none (Some x) f = absurd (f refl)

pub may_want : (w : World) (wanted : List ℕ) → 1 ≤ w.sched.setting.clients → AreWanted (key_count (shape_of w)) wanted → enabled w (Want 1 wanted) ≡ true
unfolding enabled
may_want w wanted c h = and_from _ _ (and_from _ _ refl (le-leb 1 w.sched.setting.clients c)) (and_from _ _ h.some (all_from (λ k. nat_lt k (key_count (shape_of w))) wanted (λ k q. lt-ltb k (key_count (shape_of w)) (h.keys k q))))

-- the client that wanted nothing wants these keys
wanting : (c : ClientFacts) (wanted : List ℕ) → IsFor [] c → ((k : ℕ) → c.failed k ≡ None) → IsFor wanted (client_step c (WantKeys wanted)).facts × ((k : ℕ) → (client_step c (WantKeys wanted)).facts.failed k ≡ None) × ((client_step c (WantKeys wanted)).facts.shape ≡ c.shape)
unfolding client_step client_wants
wanting c wanted h fresh = (
  record {
    wants = λ k. ap (λ b. b || is_in k wanted) (h.wants k);
    failed = λ k s. absurd (false≢true (ap is_some (sym (fresh k)) ∙ s));
  },
  fresh,
  refl,
)

pub open_want : (j : Job) (w v : World) (n : ℕ) (wanted : List ℕ) → IsOpen [] n w → v ≡ world_step j w (Want 1 wanted) → IsOpen wanted n v
unfolding world_step client_worked
open_want j w v n wanted h e = subst (λ x. IsOpen wanted n x) (sym e) (let q = wanting (w.clients 1) wanted h.client h.fresh in record {
  last = h.last;
  client = q.0;
  shape = q.2 ∙ h.shape;
  fresh = q.1;
})

-- one key is wanted
pub one_wanted : (count key : ℕ) (keys : List ℕ) → keys ≡ key ∷ [] → key < count → AreWanted count keys
one_wanted count key keys e h = subst (λ ks. AreWanted count ks) (sym e) (record {
  some = refl;
  keys = λ k q. subst (λ x. x < count) (only_one k q) h;
})
  where
    pick : (k : ℕ) (b : Bool) → (key == k) ≡ b → (b || false) ≡ true → key ≡ k
    pick k true q r = eqb-true key k q
    pick k false q r = absurd (false≢true r)

    only_one : (k : ℕ) → is_in k (key ∷ []) ≡ true → key ≡ k
    only_one k q = pick k (key == k) refl q
