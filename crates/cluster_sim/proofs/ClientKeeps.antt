-- What a client's events leave, but for its own Want and Release.
use Rattle.std.proofs.Common.{◌≡◌, ℕ, Bool, true, false, not, ◌&&◌, cond, List, [], ◌∷◌, Option, Some, None, is_some, filter, fold, refl, sym, ap, ◌∙◌}
use Rattle.std.specs.Prelude.{◌==◌}
use Rattle.std.proofs.lemmas.Bool.{true≢false, false≢true, and_parts, eqb-true, not-true}
use Rattle.cluster_msgs.specs.declared.messages.ToClient.{ToClient}
use Rattle.cluster_msgs.specs.declared.messages.ToClient.TheVariants.{KeyInMemory, LostData, ClientTaskErred}
use Rattle.cluster_msgs.specs.declared.cores.ClientEvent.TheVariants.{FromScheduler, Ask as AskPeer, Gathered, GatherFailed}
use Rattle.cluster_rules.specs.Functions.{put}
use Rattle.cluster_rules.specs.Derived.{is_in}
use Rattle.cluster_rules.specs.Worker.{Ask, ask_to, without_ask}
use Rattle.cluster_rules.specs.WorkerStep.{keys_of}
use Rattle.cluster_rules.specs.Client.{ClientFacts, client_step, client_ask, client_gathered, client_gathered_by, client_answered, keeps_still, client_gets, client_misses, hear}
use Rattle.cluster_sim.specs.Seen.{is_erred}

-- its graph and its wants stay, and what it has got. A failure that is new is of a key that it wants and hasn't got, and it was told of it
pub record IsQuiet (is_told : Bool) (c d : ClientFacts) : Type 0 where
  pub shape : d.shape ≡ c.shape
  pub wants : d.wants ≡ c.wants
  pub failed : (k : ℕ) → c.failed k ≡ None → is_some (d.failed k) ≡ true → (c.wants k ≡ true) × (d.got k ≡ false)
  pub got : (k : ℕ) → c.got k ≡ true → d.got k ≡ true
  pub silent : is_told ≡ false → (k : ℕ) → c.failed k ≡ None → d.failed k ≡ None

none_some : {A : Type 0} (o : Option A) → o ≡ None → is_some o ≡ true → ⊥
none_some None e h = false≢true h
none_some (Some x) e h = cc

-- where no failure is new
alike : (t : Bool) (c d : ClientFacts) → d.shape ≡ c.shape → d.wants ≡ c.wants → d.failed ≡ c.failed → ((k : ℕ) → c.got k ≡ true → d.got k ≡ true) → IsQuiet t c d
alike t c d s w f q = record { shape = s; wants = w; failed = λ k n h. absurd (none_some (d.failed k) (ap (λ g. g k) f ∙ n) h); got = q; silent = λ e k n. ap (λ g. g k) f ∙ n }

pub stays : (t : Bool) (c : ClientFacts) → IsQuiet t c c
stays t c = alike t c c refl refl refl (λ k h. h)

-- the same three facts, and nothing that it has got is gone
record IsLike (c d : ClientFacts) : Type 0 where
  shape : d.shape ≡ c.shape
  wants : d.wants ≡ c.wants
  failed : d.failed ≡ c.failed
  got : (k : ℕ) → c.got k ≡ true → d.got k ≡ true

like : (c : ClientFacts) → IsLike c c
like c = record { shape = refl; wants = refl; failed = refl; got = λ k h. h }

likes : (c d e : ClientFacts) → IsLike c d → IsLike d e → IsLike c e
likes c d e a b = record { shape = b.shape ∙ a.shape; wants = b.wants ∙ a.wants; failed = b.failed ∙ a.failed; got = λ k h. b.got k (a.got k h) }

one_more : (g : ℕ → Bool) (k j : ℕ) → g j ≡ true → put g k true j ≡ true
one_more g k j h = pick (j == k)
  where
    pick : (b : Bool) → cond b true (g j) ≡ true
    pick true = refl
    pick false = h

gets_like : (c : ClientFacts) (k : ℕ) → IsLike c (client_gets c k)
gets_like c k = pick (c.wants k)
  where
    pick : (b : Bool) → IsLike c (cond b (record c { got = put c.got k true; located = put c.located k [] }) c)
    pick true = record { shape = refl; wants = refl; failed = refl; got = λ j h. one_more c.got k j h }
    pick false = like c

all_get : (c : ClientFacts) (ks : List ℕ) → IsLike c (fold client_gets c ks)
all_get c [] = like c
all_get c (k ∷ ks) = likes c (client_gets c k) _ (gets_like c k) (all_get (client_gets c k) ks)

all_miss : (c : ClientFacts) (is : List (ℕ × ℕ)) → IsLike c (fold client_misses c is)
all_miss c [] = like c
all_miss c (i ∷ is) = likes c (client_misses c i) _ (record { shape = refl; wants = refl; failed = refl; got = λ k h. h }) (all_miss (client_misses c i) is)

from_like : (t : Bool) (c d : ClientFacts) → IsLike c d → IsQuiet t c d
from_like t c d h = alike t c d h.shape h.wants h.failed h.got

answered_like : (c : ClientFacts) (asks : List Ask) (found : List ℕ) (missed : List (ℕ × ℕ)) → IsLike c (fold client_misses (fold client_gets (record c { asks = asks }) found) missed)
answered_like c asks found missed =
    likes c (record c { asks = asks }) _ (record { shape = refl; wants = refl; failed = refl; got = λ k h. h })
    (likes (record c { asks = asks }) (fold client_gets (record c { asks = asks }) found) _ (all_get (record c { asks = asks }) found) (all_miss (fold client_gets (record c { asks = asks }) found) missed))

gathered_like : (c : ClientFacts) (p n : ℕ) (found : List ℕ) (o : Option Ask) → IsLike c (client_gathered_by c p n found o).facts
gathered_like c p n found None = like c
gathered_like c p n found (Some a) = pick (a.number == n)
  where
    pick : (b : Bool) → IsLike c (cond b (client_answered (record c { asks = without_ask c.asks p }) p (keys_of (filter (λ i. is_in i.0 found) a.items)) (filter (λ i. not (is_in i.0 found)) a.items)) (keeps_still c)).facts
    pick true = answered_like c (without_ask c.asks p) (keys_of (filter (λ i. is_in i.0 found) a.items)) (filter (λ i. not (is_in i.0 found)) a.items)
    pick false = like c

gathered_quiet : (t : Bool) (c : ClientFacts) (p n : ℕ) (found : List ℕ) → IsQuiet t c (client_gathered c p n found).facts
unfolding client_gathered
gathered_quiet t c p n found = from_like t c _ (gathered_like c p n found (ask_to c.asks p))

-- a failure is told of a key that is wanted and not got
told : (c : ClientFacts) (k blame : ℕ) (b : Bool) → b ≡ (c.wants k && not (c.got k))
    → IsQuiet true c (cond b (record c { failed = put c.failed k (Some blame); located = put c.located k [] }) c)
told c k blame false e = stays true c
told c k blame true e = record { shape = refl; wants = refl; failed = λ j n h. pick j (j == k) refl n h; got = λ j h. h; silent = λ t j n. absurd (true≢false t) }
  where
    here : (c.wants k ≡ true) × (c.got k ≡ false)
    here = let p = and_parts (c.wants k) (not (c.got k)) (sym e) in (p.0, not-true (c.got k) p.1)

    pick : (j : ℕ) (b : Bool) → (j == k) ≡ b → c.failed j ≡ None → is_some (cond b (Some blame) (c.failed j)) ≡ true → (c.wants j ≡ true) × (c.got j ≡ false)
    pick j true q n h = rw (eqb-true j k q) here
    pick j false q n h = absurd (none_some (c.failed j) n h)

located : (c : ClientFacts) (k : ℕ) (holders : List (ℕ × ℕ)) (b : Bool) → IsQuiet false c (cond b (record c { located = put c.located k holders }) c)
located c k holders true = alike false c _ refl refl refl (λ k h. h)
located c k holders false = stays false c

hear_quiet : (c : ClientFacts) (m : ToClient) → IsQuiet (is_erred m) c (hear c m)
unfolding hear
hear_quiet c (KeyInMemory k holders) = located c k holders (c.wants k && not (c.got k))
hear_quiet c (LostData k) = alike false c _ refl refl refl (λ k h. h)
hear_quiet c (ClientTaskErred k blame) = told c k blame (c.wants k && not (c.got k)) refl

ask_quiet : (t : Bool) (c : ClientFacts) (p : ℕ) → IsQuiet t c (client_ask c p).facts
unfolding client_ask
ask_quiet t c p = alike t c _ refl refl refl (λ k h. h)

pub hear_step : (c : ClientFacts) (m : ToClient) → IsQuiet (is_erred m) c (client_step c (FromScheduler m)).facts
unfolding client_step
hear_step c m = hear_quiet c m

pub ask_step : (t : Bool) (c : ClientFacts) (p : ℕ) → IsQuiet t c (client_step c (AskPeer p)).facts
unfolding client_step
ask_step t c p = ask_quiet t c p

pub gathered_step : (t : Bool) (c : ClientFacts) (p n : ℕ) (found : List ℕ) → IsQuiet t c (client_step c (Gathered p n found)).facts
unfolding client_step
gathered_step t c p n found = gathered_quiet t c p n found

pub failed_step : (t : Bool) (c : ClientFacts) (p n : ℕ) → IsQuiet t c (client_step c (GatherFailed p n)).facts
unfolding client_step
failed_step t c p n = gathered_quiet t c p n []
