-- What an event leaves of what a node counted: all but the keys that it names.
use Rattle.std.proofs.Common.{◌≡◌, ℕ, Bool, true, false, not, ◌&&◌, cond, List, [], ◌∷◌, Option, Some, None, filter, fold, refl, sym, ap, ◌∙◌}
use Rattle.std.specs.Prelude.{◌==◌}
use Rattle.std.proofs.lemmas.Bool.{true≢false, or_parts}
use Rattle.small_facts.proofs.Numbers.{unequal_turned}
use Rattle.cluster_msgs.specs.declared.messages.Down.{Down}
use Rattle.cluster_msgs.specs.declared.messages.Down.TheVariants.{ComputeTask, FreeKeys, StealRequest, RemoveReplicas, AcquireReplicas, RefreshWhoHas}
use Rattle.cluster_msgs.specs.declared.messages.ToClient.{ToClient}
use Rattle.cluster_msgs.specs.declared.messages.ToClient.TheVariants.{KeyInMemory, LostData, ClientTaskErred}
use Rattle.cluster_msgs.specs.declared.cores.WorkerEvent.{WorkerEvent}
use Rattle.cluster_msgs.specs.declared.cores.WorkerEvent.TheVariants.{Down as Told, Start, Done, Ask as AskPeer, Gathered, GatherFailed, DataLost}
use Rattle.cluster_msgs.specs.declared.cores.ClientEvent.{ClientEvent}
use Rattle.cluster_msgs.specs.declared.cores.ClientEvent.TheVariants.{Want, Release, FromScheduler, Ask as ClientAsk, Gathered as ClientGathered, GatherFailed as ClientGatherFailed}
use Rattle.cluster_rules.specs.Derived.{is_in}
use Rattle.cluster_rules.specs.Functions.{put}
use Rattle.cluster_rules.specs.Worker.{Ask, WorkerFacts, awaited, is_wanted, wstate, is_missing_state, would_start, ask_to, without_ask}
use Rattle.cluster_rules.specs.WorkerStep.{WorkerStep, Arrivals, quiet, after_out, each_key, taken, set_holders, given, free_key, yields, asked_back, remove_replica, remove_replicas, acquire, refresh, take_down, start, arrive_as, arrive, arrived, stopped, erred_as, done, keys_of, ask_peer, lose_holders, not_found, gathered_by, gathered, worker_row, worker_step}
use Rattle.cluster_rules.specs.Client.{ClientFacts, hear, client_gets, client_misses, client_answered, client_gathered_by, client_gathered, keeps_still, client_wants, client_releases, client_ask, client_step}
use Rattle.cluster_nodes.specs.Gone.{freed_by, lost_by, released_by}

-- what was counted still is, but for these keys
abbrev pub Leaves : List ℕ → (ℕ → Bool) → (ℕ → Bool) → Type 0
Leaves gone old new = (k : ℕ) → is_in k gone ≡ false → old k ≡ true → new k ≡ true

same : (gone : List ℕ) (old new : ℕ → Bool) → new ≡ old → Leaves gone old new
same gone old new e k n h = ap (λ f. f k) e ∙ h

both : (gone : List ℕ) (a b c : ℕ → Bool) → Leaves gone a b → Leaves gone b c → Leaves gone a c
both gone a b c f g k n h = g k n (f k n h)

if_step : (gone : List ℕ) (old : ℕ → Bool) (b : Bool) (v w : WorkerStep) → Leaves gone old v.facts.mem → Leaves gone old w.facts.mem → Leaves gone old (cond b v w).facts.mem
if_step gone old true v w f g = f
if_step gone old false v w f g = g

if_come : (gone : List ℕ) (old : ℕ → Bool) (b : Bool) (v w : Arrivals) → Leaves gone old v.facts.mem → Leaves gone old w.facts.mem → Leaves gone old (cond b v w).facts.mem
if_come gone old true v w f g = f
if_come gone old false v w f g = g

if_mem : (m : ℕ → Bool) (b : Bool) (v w : WorkerStep) → v.facts.mem ≡ m → w.facts.mem ≡ m → (cond b v w).facts.mem ≡ m
if_mem m true v w f g = f
if_mem m false v w f g = g

one_more : (gone : List ℕ) (old : ℕ → Bool) (x : ℕ) → Leaves gone old (put old x true)
one_more gone old x k n h = pick (k == x)
  where
    pick : (b : Bool) → cond b true (old k) ≡ true
    pick true = refl
    pick false = h

one_less : (old : ℕ → Bool) (x k : ℕ) → (x == k) ≡ false → old k ≡ true → put old x false k ≡ true
one_less old x k n h = ap (λ b. cond b false (old k)) (unequal_turned k x n) ∙ h

-- ## The scheduler's messages

holders_mem : (w : WorkerFacts) (who : List (ℕ × List (ℕ × ℕ))) → (fold set_holders w who).mem ≡ w.mem
holders_mem w [] = refl
holders_mem w (p ∷ who) = holders_mem (set_holders w p) who

acquire_mem : (w : WorkerFacts) (p : ℕ × List (ℕ × ℕ)) → (acquire w p).mem ≡ w.mem
acquire_mem w p = pick (w.mem p.0)
  where
    pick : (b : Bool) → (cond b w (set_holders (record w { sought = put w.sought p.0 true }) p)).mem ≡ w.mem
    pick true = refl
    pick false = refl

acquired_mem : (w : WorkerFacts) (who : List (ℕ × List (ℕ × ℕ))) → (fold acquire w who).mem ≡ w.mem
acquired_mem w [] = refl
acquired_mem w (p ∷ who) = acquired_mem (acquire w p) who ∙ acquire_mem w p

refreshed_mem : (w : WorkerFacts) (who : List (ℕ × List (ℕ × ℕ))) → (fold refresh w who).mem ≡ w.mem
refreshed_mem w [] = refl
refreshed_mem w (p ∷ who) = refreshed_mem (refresh w p) who

freed : (s : WorkerStep) (ks : List ℕ) → Leaves ks s.facts.mem (each_key free_key s ks).facts.mem
freed s [] k n h = h
freed s (x ∷ ks) k n h = let p = or_parts (x == k) (is_in k ks) n in freed (after_out s.out (free_key s.facts x)) ks k p.1 (one_less s.facts.mem x k p.0 h)

removed_one : (w : WorkerFacts) (x k : ℕ) → (x == k) ≡ false → w.mem k ≡ true → (remove_replica w x).facts.mem k ≡ true
removed_one w x k n h = pick (w.mem x && not (awaited w x))
  where
    pick : (b : Bool) → (cond b (record { facts = record w { mem = put w.mem x false }; out = Rattle.cluster_msgs.specs.declared.cores.Instruction.TheVariants.Drop x ∷ [] }) (quiet w)).facts.mem k ≡ true
    pick true = one_less w.mem x k n h
    pick false = h

removed : (s : WorkerStep) (ks : List ℕ) → Leaves ks s.facts.mem (each_key remove_replica s ks).facts.mem
removed s [] k n h = h
removed s (x ∷ ks) k n h = let p = or_parts (x == k) (is_in k ks) n in removed (after_out s.out (remove_replica s.facts x)) ks k p.1 (removed_one s.facts x k p.0 h)

given_leaves : (w : WorkerFacts) (x a : ℕ) (who : List (ℕ × List (ℕ × ℕ))) → Leaves [] w.mem (given w x a who).facts.mem
unfolding given
given_leaves w x a who = if_step [] w.mem (w.mem x) _ _ (same [] w.mem w.mem refl) (same [] w.mem _ (holders_mem _ who))

asked_leaves : (w : WorkerFacts) (x a : ℕ) → Leaves [] w.mem (asked_back w x a).facts.mem
unfolding asked_back
asked_leaves w x a = if_step [] w.mem (yields w x a) _ _ (same [] w.mem w.mem refl) (same [] w.mem w.mem refl)

told_leaves : (w : WorkerFacts) (m : Down) → Leaves (freed_by m) w.mem (take_down w m).facts.mem
unfolding take_down remove_replicas
told_leaves w (ComputeTask x a who) = given_leaves w x a who
told_leaves w (FreeKeys ks) = freed (quiet w) ks
told_leaves w (StealRequest x a) = asked_leaves w x a
told_leaves w (RemoveReplicas ks) = removed (quiet w) ks
told_leaves w (AcquireReplicas who) = same [] w.mem _ (acquired_mem w who)
told_leaves w (RefreshWhoHas who) = same [] w.mem _ (refreshed_mem w who)

-- ## Blocks that come

come_as : (gone : List ℕ) (r : Arrivals) (x : ℕ) (o : Option ℕ) → Leaves gone r.facts.mem (arrive_as r x o).facts.mem
come_as gone r x (Some a) = one_more gone r.facts.mem x
come_as gone r x None = if_come gone r.facts.mem (is_wanted r.facts x) _ _ (one_more gone r.facts.mem x) (same gone r.facts.mem r.facts.mem refl)

come : (gone : List ℕ) (r : Arrivals) (ks : List ℕ) → Leaves gone r.facts.mem (fold arrive r ks).facts.mem
come gone r [] = same gone r.facts.mem r.facts.mem refl
come gone r (x ∷ ks) = both gone r.facts.mem (arrive r x).facts.mem _ (come_as gone r x (r.facts.mine x)) (come gone (arrive r x) ks)

arrived_leaves : (gone : List ℕ) (w : WorkerFacts) (ks : List ℕ) → Leaves gone w.mem (arrived w ks).facts.mem
unfolding arrived
arrived_leaves gone w ks = come gone (record { facts = w; out = []; added = [] }) ks

erred_leaves : (w : WorkerFacts) (x : ℕ) (o : Option ℕ) → Leaves [] w.mem (erred_as w x o).facts.mem
erred_leaves w x None = same [] w.mem w.mem refl
erred_leaves w x (Some a) = same [] w.mem w.mem refl

done_leaves : (w : WorkerFacts) (x : ℕ) (z : Bool) → Leaves [] w.mem (done w x z).facts.mem
done_leaves w x false = arrived_leaves [] (stopped w x) (x ∷ [])
done_leaves w x true = erred_leaves (stopped w x) x (w.mine x)

missed_mem : (p : ℕ) (w : WorkerFacts) (i : ℕ × ℕ) → (not_found p w i).facts.mem ≡ w.mem
missed_mem p w i = if_mem w.mem (is_missing_state (wstate (lose_holders w i.0) i.0)) _ _ refl refl

all_missed : (p : ℕ) (s : WorkerStep) (is : List (ℕ × ℕ)) → (each_key (not_found p) s is).facts.mem ≡ s.facts.mem
all_missed p s [] = refl
all_missed p s (i ∷ is) = all_missed p (after_out s.out (not_found p s.facts i)) is ∙ missed_mem p s.facts i

gathered_leaves : (w : WorkerFacts) (p n : ℕ) (found : List ℕ) (o : Option Ask) → Leaves [] w.mem (gathered_by w p n found o).facts.mem
gathered_leaves w p n found None = same [] w.mem w.mem refl
gathered_leaves w p n found (Some a) =
    if_step [] w.mem (_ == n) _ _ (both [] w.mem _ _ (arrived_leaves [] (record w { asks = without_ask w.asks p }) (keys_of (filter (λ i. is_in i.0 found) a.items))) (same [] _ _ (all_missed p _ (filter (λ i. not (is_in i.0 found)) a.items))))
    (same [] w.mem w.mem refl)

start_leaves : (w : WorkerFacts) (o : Option ℕ) → Leaves [] w.mem (start w o).facts.mem
start_leaves w None = same [] w.mem w.mem refl
start_leaves w (Some x) = same [] w.mem w.mem refl

row_leaves : (w : WorkerFacts) (e : WorkerEvent) → Leaves (lost_by e) w.mem (worker_row w e).facts.mem
unfolding worker_row ask_peer gathered
row_leaves w (Told m) = told_leaves (taken w) m
row_leaves w Start = start_leaves w (would_start w)
row_leaves w (Done x z) = done_leaves w x z
row_leaves w (AskPeer p) = same [] w.mem w.mem refl
row_leaves w (Gathered p n found) = gathered_leaves w p n found (ask_to w.asks p)
row_leaves w (GatherFailed p n) = gathered_leaves w p n [] (ask_to w.asks p)
row_leaves w (DataLost x) = λ k n h. one_less w.mem x k (or_parts (x == k) false n).0 h

-- a worker's event takes no other key from its memory
pub step_leaves : (w : WorkerFacts) (e : WorkerEvent) → Leaves (lost_by e) w.mem (worker_step w e).facts.mem
unfolding worker_step
step_leaves w e = row_leaves w e

-- ## A client

hears_got : (c : ClientFacts) (b : Bool) (d : ClientFacts) → d.got ≡ c.got → (cond b d c).got ≡ c.got
hears_got c true d e = e
hears_got c false d e = refl

hear_got : (c : ClientFacts) (m : ToClient) → (hear c m).got ≡ c.got
unfolding hear
hear_got c (KeyInMemory k hs) = hears_got c _ _ refl
hear_got c (LostData k) = refl
hear_got c (ClientTaskErred k b) = hears_got c _ _ refl

if_got : (gone : List ℕ) (old : ℕ → Bool) (b : Bool) (v w : ClientFacts) → Leaves gone old v.got → Leaves gone old w.got → Leaves gone old (cond b v w).got
if_got gone old true v w f g = f
if_got gone old false v w f g = g

gets : (c : ClientFacts) (ks : List ℕ) → Leaves [] c.got (fold client_gets c ks).got
gets c [] = same [] c.got c.got refl
gets c (x ∷ ks) = both [] c.got (client_gets c x).got _ (if_got [] c.got (c.wants x) _ _ (one_more [] c.got x) (same [] c.got c.got refl)) (gets (client_gets c x) ks)

misses_got : (c : ClientFacts) (is : List (ℕ × ℕ)) → (fold client_misses c is).got ≡ c.got
misses_got c [] = refl
misses_got c (i ∷ is) = misses_got (client_misses c i) is

got_leaves : (c : ClientFacts) (p n : ℕ) (found : List ℕ) (o : Option Ask) → Leaves [] c.got (client_gathered_by c p n found o).facts.got
got_leaves c p n found None = same [] c.got c.got refl
got_leaves c p n found (Some a) = pick (a.number == n)
  where
    pick : (b : Bool) → Leaves [] c.got (cond b (client_answered (record c { asks = without_ask c.asks p }) p (keys_of (filter (λ i. is_in i.0 found) a.items)) (filter (λ i. not (is_in i.0 found)) a.items)) (keeps_still c)).facts.got
    pick true = both [] c.got _ _ (gets (record c { asks = without_ask c.asks p }) (keys_of (filter (λ i. is_in i.0 found) a.items))) (same [] _ _ (misses_got _ (filter (λ i. not (is_in i.0 found)) a.items)))
    pick false = same [] c.got c.got refl

released : (c : ClientFacts) (ks : List ℕ) → Leaves ks c.got (client_releases c ks).facts.got
unfolding client_releases
released c ks k n h = kept (c.got k) (is_in k ks) h n
  where
    kept : (g i : Bool) → g ≡ true → i ≡ false → (g && not i) ≡ true
    kept true false h n = refl
    kept true true h n = absurd (true≢false n)
    kept false i h n = absurd (true≢false (sym h))

-- a client's event takes no other key from what it has got
pub client_leaves : (c : ClientFacts) (e : ClientEvent) → Leaves (released_by e) c.got (client_step c e).facts.got
unfolding client_step client_wants client_ask client_gathered
client_leaves c (Want ks) = same [] c.got c.got refl
client_leaves c (Release ks) = released c ks
client_leaves c (FromScheduler m) = same [] c.got _ (hear_got c m)
client_leaves c (ClientAsk p) = same [] c.got c.got refl
client_leaves c (ClientGathered p n found) = got_leaves c p n found (ask_to c.asks p)
client_leaves c (ClientGatherFailed p n) = got_leaves c p n [] (ask_to c.asks p)
