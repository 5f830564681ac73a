-- A client's failures have blames that fit, as long as what it is told does.
use Rattle.std.proofs.Common.{◌≡◌, ℕ, Bool, true, false, not, ◌&&◌, List, [], ◌∷◌, Option, Some, None, cond, filter, fold, subst, sym}
use Rattle.std.specs.Prelude.{◌==◌}
use Rattle.std.proofs.lemmas.Option.{same_Some, none-some}
use Rattle.cluster_msgs.specs.Labels.{LabelFacts, BlameFits, ToClientFits}
use Rattle.cluster_msgs.specs.declared.messages.ToClient.{ToClient}
use Rattle.cluster_msgs.specs.declared.messages.ToClient.TheVariants.{KeyInMemory, LostData, ClientTaskErred}
use Rattle.cluster_msgs.specs.declared.cores.ClientEvent.{ClientEvent}
use Rattle.cluster_msgs.specs.declared.cores.ClientEvent.TheVariants.{Want, Release, FromScheduler, Ask as ClientAsk, Gathered as ClientGathered, GatherFailed as ClientGatherFailed}
use Rattle.cluster_rules.specs.Functions.{put}
use Rattle.cluster_rules.specs.Derived.{is_in}
use Rattle.cluster_rules.specs.Worker.{Ask, ask_to, without_ask}
use Rattle.cluster_rules.specs.WorkerStep.{keys_of}
use Rattle.cluster_rules.specs.Client.{ClientFacts, new_client, client_wants, client_releases, hears, hear, client_ask, client_gets, client_misses, client_answered, client_gathered_by, client_gathered, keeps_still, client_step}
use Rattle.cluster_rules.proofs.WorkerLemmas.{at_one}
use Rattle.node_states.specs.Fitting.{ClientFits, ClientEventFits}

module _ {B : Type 0} (facts : LabelFacts B) where
  fit_hears : (c : ClientFacts) (k : ℕ) (d : ClientFacts) → ClientFits facts d → ClientFits facts c → ClientFits facts (hears c k d)
  fit_hears c k d r h = pick (c.wants k && not (c.got k))
    where
      pick : (b : Bool) → ClientFits facts (cond b d c)
      pick true = r
      pick false = h

  fit_hear : (c : ClientFacts) (m : ToClient) → ToClientFits facts m → ClientFits facts c → ClientFits facts (hear c m)
  unfolding hear
  fit_hear c (KeyInMemory k hs) t h = fit_hears c k _ (record { failed = h.failed }) h
  fit_hear c (LostData k) t h = record { failed = h.failed }
  fit_hear c (ClientTaskErred k b) t h = fit_hears c k _ (record { failed = at_one k (λ x y. (d : ℕ) → cond x (Some b) (c.failed y) ≡ Some d → BlameFits facts y d) (λ d e. subst (λ z. BlameFits facts k z) (same_Some b d e) t) h.failed }) h

  fit_gets : (ks : List ℕ) (c : ClientFacts) → ClientFits facts c → ClientFits facts (fold client_gets c ks)
  fit_gets [] c h = h
  fit_gets (k ∷ ks) c h = fit_gets ks (client_gets c k) (pick (c.wants k))
    where
      pick : (b : Bool) → ClientFits facts (cond b (record c { got = put c.got k true; located = put c.located k [] }) c)
      pick true = record { failed = h.failed }
      pick false = h

  fit_misses : (is : List (ℕ × ℕ)) (c : ClientFacts) → ClientFits facts c → ClientFits facts (fold client_misses c is)
  fit_misses [] c h = h
  fit_misses (i ∷ is) c h = fit_misses is (client_misses c i) (record { failed = h.failed })

  fit_gathered : (c : ClientFacts) (p n : ℕ) (found : List ℕ) → ClientFits facts c → ClientFits facts (client_gathered c p n found).facts
  unfolding client_gathered
  fit_gathered c p n found h = pick (ask_to c.asks p)
    where
      over : (a : Ask) (b : Bool) → ClientFits facts (cond b (client_answered (record c { asks = without_ask c.asks p }) p (keys_of (filter (λ i. is_in i.0 found) a.items)) (filter (λ i. not (is_in i.0 found)) a.items)) (keeps_still c)).facts
      over a true = fit_misses (filter (λ i. not (is_in i.0 found)) a.items) (fold client_gets (record c { asks = without_ask c.asks p }) (keys_of (filter (λ i. is_in i.0 found) a.items))) (fit_gets (keys_of (filter (λ i. is_in i.0 found) a.items)) (record c { asks = without_ask c.asks p }) (record { failed = h.failed }))
      over a false = h

      pick : (o : Option Ask) → ClientFits facts (client_gathered_by c p n found o).facts
      pick None = h
      pick (Some a) = over a (a.number == n)

  fit_release : (c : ClientFacts) (ks : List ℕ) → ClientFits facts c → ClientFits facts (client_releases c ks).facts
  unfolding client_releases
  fit_release c ks h = record { failed = λ k b e. kept k b (is_in k ks) e }
    where
      kept : (k b : ℕ) (x : Bool) → cond x None (c.failed k) ≡ Some b → BlameFits facts k b
      kept k b true e = absurd (none-some b e)
      kept k b false e = h.failed k b e

  fit_step : (c : ClientFacts) (e : ClientEvent) → ClientEventFits facts e → ClientFits facts c → ClientFits facts (client_step c e).facts
  unfolding client_step client_wants client_ask
  fit_step c (Want ks) t h = record { failed = h.failed }
  fit_step c (Release ks) t h = fit_release c ks h
  fit_step c (FromScheduler m) t h = fit_hear c m t h
  fit_step c (ClientAsk p) t h = record { failed = h.failed }
  fit_step c (ClientGathered p n found) t h = fit_gathered c p n found h
  fit_step c (ClientGatherFailed p n) t h = fit_gathered c p n [] h

-- the law: an event that fits keeps it
pub client_fits : {B : Type 0} (facts : LabelFacts B) (c d : ClientFacts) (e : ClientEvent) → ClientEventFits facts e → ClientFits facts c → d ≡ (client_step c e).facts → ClientFits facts d
client_fits facts c d e t h is = subst (ClientFits facts) (sym is) (fit_step facts c e t h)

-- a client that starts was told no failure
pub new_fits : {B : Type 0} (facts : LabelFacts B) (c : ClientFacts) (g : _) → c ≡ new_client g → ClientFits facts c
new_fits facts c g is = subst (ClientFits facts) (sym is) (record { failed = λ k b e. absurd (none-some b e) })
