-- Each event of a worker, as moves of the pair of the worker and a key.
use Rattle.std.proofs.Common.{◌≡◌, ℕ, ◌+◌, ◌<◌, Bool, true, false, not, cond, ◌&&◌, ◌||◌, List, [], ◌∷◌, ◌++◌, Option, Some, None, refl, sym, ap, ◌∙◌, subst, arith, filter, fold, map, append_assoc, append-nil}
use Rattle.std.proofs.lemmas.Bool.{true≢false, false≢true, eqb-true, ltb-true, and_parts}
use Rattle.std.specs.List.{list_all}
use Rattle.std.proofs.lemmas.List.Folds.{list_any-append}
use Rattle.std.proofs.Math.Dec.{eqb}
use Rattle.std.proofs.Math.Bool.{and-true, or-false, or-true}
use Rattle.std.proofs.lemmas.Option.{none-some}
use Rattle.small_facts.proofs.Numbers.{eqb_turned}
use Rattle.cluster_msgs.specs.Shape.{key_count}
use Rattle.cluster_msgs.specs.declared.messages.Down.{Down}
use Rattle.cluster_msgs.specs.declared.messages.Down.TheVariants.{ComputeTask, FreeKeys, StealRequest, RemoveReplicas, AcquireReplicas, RefreshWhoHas}
use Rattle.cluster_msgs.specs.declared.messages.Up.{Up}
use Rattle.cluster_msgs.specs.declared.messages.Up.TheVariants.{TaskFinished, TaskErred, ReleaseWorkerData, MissingData, RequestRefreshWhoHas, StealResponse}
use Rattle.cluster_msgs.specs.declared.cores.Instruction.{Instruction}
use Rattle.cluster_msgs.specs.declared.cores.Instruction.TheVariants.{Execute, Gather, Keep, Drop, Send}
use Rattle.cluster_msgs.specs.declared.cores.WorkerEvent.{WorkerEvent}
use Rattle.cluster_msgs.specs.declared.cores.WorkerEvent.TheVariants.{Down as Told, Start, Done, Ask as AskPeer, Gathered, GatherFailed, DataLost}
use Rattle.cluster_rules.specs.Functions.{put}
use Rattle.cluster_rules.specs.Derived.{is_in}
use Rattle.cluster_rules.specs.Worker.{Ask as OpenAsk, WorkerFacts, worker_keys, awaited, is_wanted, wstate, is_missing_state, is_unstarted_state, would_start, ask_to, without_ask}
use Rattle.cluster_rules.specs.WorkerStep.{WorkerStep, quiet, after_out, each_key, taken, set_holders, into_mem, give_up, given, free_key, is_attempt, yields, asked_back, remove_replica, remove_replicas, add_message, acquire, refresh, take_down, start, Arrivals, arrive_as, arrive, counted, arrived, stopped, erred_as, done, keys_of, ask_peer, lose_holders, not_found, answered_ask, gathered_by, gathered, lose_data, worker_row, unasked_keys, seek_missing, worker_step, is_key, takes_down, worker_takes}
use Rattle.cluster_rules.specs.WorldStep.{sends}
use Rattle.cluster_rules.proofs.WorkerLemmas.{in_filter, filter_in}
use Rattle.pair_machine.specs.Pair.{Note, Task, Free, Remove, Ask, Other, Report, Finished, Erred, Gave, Declined, Added, Released, Quiet, is_at, Pair, IsPair}
use Rattle.pair_machine.specs.Moves.{Done as Made, take_note, take_task, take_ask, take_remove, take, finish, fail, Finish, Fail, Store, Lose, Say, Take}
use Rattle.pair_machine.proofs.PairKept.{kept}
use Rattle.pair_moves.specs.Projection.{note_of, report_of, reports}
use Rattle.cluster_rules.proofs.SchedFrame.{in_range}

-- ## What a property of pairs must keep

-- the worker may give an attempt back only where it may
abbrev pub Yields : (Option ℕ → Type 0) → Note → Option ℕ → Bool → Type 0
Yields Idle (Ask a) mine agrees = (is_at a mine && agrees) ≡ true → Idle mine
Yields Idle (Task a) mine agrees = Unit {0}
Yields Idle Free mine agrees = Unit {0}
Yields Idle Remove mine agrees = Unit {0}
Yields Idle Other mine agrees = Unit {0}

-- each move of the worker keeps the property
pub record IsClosed (I : Pair → Type 0) (Idle : Option ℕ → Type 0) : Type 0 where
  pub finish : (p : Pair) (a : ℕ) → p.mine ≡ Some a → I p → I (record p { mem = true; mine = None; up = p.up ++ Finished a ∷ [] })
  pub fail : (p : Pair) (a : ℕ) → p.mine ≡ Some a → I p → I (record p { mine = None; up = p.up ++ Erred a ∷ [] })
  pub store : (p : Pair) → p.mem ≡ false → p.mine ≡ None → I p → I (record p { mem = true; up = p.up ++ Added p.seen ∷ [] })
  pub lose : (p : Pair) → p.mem ≡ true → I p → I (record p { mem = false; up = p.up ++ Released p.seen ∷ [] })
  pub say : (p : Pair) → I p → I (record p { up = p.up ++ Quiet ∷ [] })
  pub takes : (agrees : Bool) (p : Pair) (n : Note) (ns : List Note) → Yields Idle n p.mine agrees → I (record p { down = n ∷ ns }) → I (take agrees (record p { down = n ∷ ns }) (n ∷ ns))

-- the pair's own property does
pub pair_closed : (Idle : Option ℕ → Type 0) → IsClosed IsPair Idle
pair_closed Idle = record {
  finish = λ p a e s. subst (λ o. IsPair (finish p o)) e (kept p Finish s tt);
  fail = λ p a e s. subst (λ o. IsPair (fail p o)) e (kept p Fail s tt);
  store = λ p m e s. kept p Store s (m, e);
  lose = λ p m s. kept p Lose s m;
  say = λ p s. kept p Say s tt;
  takes = λ agrees p n ns y s. kept (record p { down = n ∷ ns }) (Take agrees) s tt;
}

-- ## Lists of messages

pub sends-append : (xs ys : List Instruction) → sends (xs ++ ys) ≡ sends xs ++ sends ys
sends-append [] ys = refl
sends-append (Send m ∷ xs) ys = ap (λ l. m ∷ l) (sends-append xs ys)
sends-append (Execute k ∷ xs) ys = sends-append xs ys
sends-append (Gather p n ks ∷ xs) ys = sends-append xs ys
sends-append (Keep k ∷ xs) ys = sends-append xs ys
sends-append (Drop k ∷ xs) ys = sends-append xs ys

pub reports-append : (k : ℕ) (xs ys : List Up) → reports k (xs ++ ys) ≡ reports k xs ++ reports k ys
reports-append k [] ys = refl
reports-append k (x ∷ xs) ys = ap (λ l. report_of k x ∷ l) (reports-append k xs ys)

said-append : (k : ℕ) (xs ys : List Instruction) → reports k (sends (xs ++ ys)) ≡ reports k (sends xs) ++ reports k (sends ys)
said-append k xs ys = ap (reports k) (sends-append xs ys) ∙ reports-append k (sends xs) (sends ys)

abbrev pub AreQuiet : List Report → Type 0
AreQuiet [] = Unit {0}
AreQuiet (r ∷ rs) = (r ≡ Quiet) × AreQuiet rs

-- a member of a list whose members all pass
pub all_in : (p : ℕ → Bool) (x : ℕ) (xs : List ℕ) → list_all p xs ≡ true → is_in x xs ≡ true → p x ≡ true
all_in p x [] h i = absurd (false≢true i)
all_in p x (y ∷ ys) h i = pick (eqb y x) refl i (and_parts (p y) (list_all p ys) h) (λ l m. all_in p x ys l m)
  where
    pick : (b : Bool) → eqb y x ≡ b → (b || is_in x ys) ≡ true → (p y ≡ true) × (list_all p ys ≡ true) → (list_all p ys ≡ true → is_in x ys ≡ true → p x ≡ true) → p x ≡ true
    pick true e m l rest = ap p (sym (eqb-true y x e)) ∙ l.0
    pick false e m l rest = rest l.1 m

-- ## One worker and one key

module _ (I : Pair → Type 0) (Idle : Option ℕ → Type 0) (cl : IsClosed I Idle) (k : ℕ) where
  abbrev pub at_side : Pair → WorkerFacts → Pair
  at_side p w = record p { seen = w.seen; mem = w.mem k; mine = w.mine k }

  abbrev pub said : Pair → List Report → Pair
  said p rs = record p { up = p.up ++ rs }

  -- from w the worker goes to v, and says this
  abbrev pub Goes : WorkerFacts → WorkerFacts → List Report → Type 0
  Goes w v rs = (p : Pair) → I (at_side p w) → I (said (at_side p v) rs)

  abbrev pub Reaches : WorkerFacts → WorkerStep → Type 0
  Reaches w s = Goes w s.facts (reports k (sends s.out))

  goes_then : (w v u : WorkerFacts) (rs ss : List Report) → Goes w v rs → Goes v u ss → Goes w u (rs ++ ss)
  goes_then w v u rs ss g h p i = subst (λ l. I (record (at_side p u) { up = l })) (append_assoc p.up rs ss) (h (said p rs) (g p i))

  goes_same : (w v : WorkerFacts) → v.seen ≡ w.seen → v.mem k ≡ w.mem k → v.mine k ≡ w.mine k → Goes w v []
  goes_same w v s m o p i = subst (λ (x : Pair). I x) (λ j. record p { seen = sym s j; mem = sym m j; mine = sym o j; up = sym (append-nil p.up) j }) i

  says : (rs : List Report) → AreQuiet rs → (p : Pair) → I p → I (said p rs)
  says [] q p i = subst (λ l. I (record p { up = l })) (sym (append-nil p.up)) i
  says (r ∷ rs) q p i = subst (λ x. I (said p (x ∷ rs))) (sym q.0) (subst (λ l. I (record p { up = l })) (append_assoc p.up (Quiet ∷ []) rs) (says rs q.1 (said p (Quiet ∷ [])) (cl.say p i)))

  goes_quiet : (w : WorkerFacts) (rs : List Report) → AreQuiet rs → Goes w w rs
  goes_quiet w rs q p i = says rs q (at_side p w) i

  -- the same worker for the key, and nothing but quiet messages
  goes_calm : (w v : WorkerFacts) (rs : List Report) → v.seen ≡ w.seen → v.mem k ≡ w.mem k → v.mine k ≡ w.mine k → AreQuiet rs → Goes w v rs
  goes_calm w v rs s m o q = goes_then w v v [] rs (goes_same w v s m o) (goes_quiet v rs q)

  reaches_then : (w : WorkerFacts) (s t : WorkerStep) → Reaches w s → Reaches s.facts t → Reaches w (after_out s.out t)
  reaches_then w s t g h = subst (Goes w t.facts) (sym (said-append k s.out t.out)) (goes_then w s.facts t.facts (reports k (sends s.out)) (reports k (sends t.out)) g h)

  reaches_each : {A : Type 0} (row : WorkerFacts → A → WorkerStep) (w : WorkerFacts) (xs : List A) (s : WorkerStep) → ((v : WorkerFacts) (x : A) → Reaches v (row v x)) → Reaches w s → Reaches w (each_key row s xs)
  reaches_each row w [] s h r = r
  reaches_each row w (x ∷ xs) s h r = reaches_each row w xs (after_out s.out (row s.facts x)) h (reaches_then w s (row s.facts x) r (h s.facts x))

  -- ## Blocks that come

  -- what came so far: the key isn't to be counted, or it is, and the pair is told so at the end
  data Arriving (w : WorkerFacts) (r : Arrivals) : Type 0 where
    Apart : is_in k r.added ≡ false → Goes w r.facts (reports k (sends r.out)) → Arriving w r
    Here : is_in k r.added ≡ true → r.facts.mem k ≡ true → r.facts.mine k ≡ None → ((p : Pair) → I (at_side p w) → I (said (record (at_side p r.facts) { mem = false }) (reports k (sends r.out)))) → Arriving w r

  -- out grows by messages that say nothing of the key
  more_out : (w : WorkerFacts) (p q : Pair) (out more : List Instruction) → AreQuiet (reports k (sends more)) → I (said p (reports k (sends out))) → I (said p (reports k (sends (out ++ more))))
  more_out w p q out more a i = subst (λ rs. I (said p rs)) (sym (said-append k out more)) (subst (λ l. I (record p { up = l })) (append_assoc p.up (reports k (sends out)) (reports k (sends more))) (says (reports k (sends more)) a (said p (reports k (sends out))) i))

  -- another key's block
  arriving_other : (w : WorkerFacts) (r : Arrivals) (f : WorkerFacts) (more : List Instruction) (added : List ℕ) → f.seen ≡ r.facts.seen → f.mem k ≡ r.facts.mem k → f.mine k ≡ r.facts.mine k → is_in k added ≡ is_in k r.added → AreQuiet (reports k (sends more))
      → Arriving w r → Arriving w (record { facts = f; out = r.out ++ more; added = added })
  arriving_other w r f more added s m o e q (Apart i g) = Apart (e ∙ i) (λ p x. more_out w (at_side p f) p r.out more q (subst (λ (y : Pair). I y) (λ j. record (said (at_side p r.facts) (reports k (sends r.out))) { seen = sym s j; mem = sym m j; mine = sym o j }) (g p x)))
  arriving_other w r f more added s m o e q (Here i here none g) = Here (e ∙ i) (m ∙ here) (o ∙ none) (λ p x. more_out w (record (at_side p f) { mem = false }) p r.out more q (subst (λ (y : Pair). I y) (λ j. record (said (record (at_side p r.facts) { mem = false }) (reports k (sends r.out))) { seen = sym s j; mine = sym o j }) (g p x)))

  not_in_more : (xs : List ℕ) (q : ℕ) → eqb q k ≡ false → is_in k (xs ++ q ∷ []) ≡ is_in k xs
  not_in_more xs q e = list_any-append (λ d. eqb d k) xs (q ∷ []) ∙ ap (λ b. is_in k xs || (b || false)) e ∙ or-false (is_in k xs)

  in_more : (xs : List ℕ) (q : ℕ) → eqb q k ≡ true → is_in k (xs ++ q ∷ []) ≡ true
  in_more xs q e = list_any-append (λ d. eqb d k) xs (q ∷ []) ∙ ap (λ b. is_in k xs || (b || false)) e ∙ or-true (is_in k xs)

  -- the key's own block: a task is finished so
  arriving_task : (w : WorkerFacts) (r : Arrivals) (q a : ℕ) → eqb q k ≡ true → r.facts.mine q ≡ Some a → Arriving w r → Arriving w (arrive_as r q (Some a))
  arriving_task w r q a e m (Here i here none g) = absurd (none-some a (sym none ∙ ap r.facts.mine (sym (eqb-true q k e)) ∙ m))
  arriving_task w r q a e m (Apart i g) = Apart i (λ p x. subst (λ rs. I (said (at_side p (into_mem (give_up r.facts q) q)) rs)) (sym (said-append k r.out (Keep q ∷ Send (TaskFinished r.facts.seen q a) ∷ []) ∙ ap (λ b. reports k (sends r.out) ++ cond b (Finished a) Quiet ∷ []) e))
      (subst (λ (y : Pair). I y) (λ j. record p { seen = r.facts.seen; mem = sym there j; mine = sym gone j; up = append_assoc p.up (reports k (sends r.out)) (Finished a ∷ []) j })
      (cl.finish (said (at_side p r.facts) (reports k (sends r.out))) a (ap r.facts.mine (sym (eqb-true q k e)) ∙ m) (g p x))))
    where
      there : put r.facts.mem q true k ≡ true
      there = ap (λ b. cond b true (r.facts.mem k)) (eqb_turned k q ∙ e)

      gone : put r.facts.mine q None k ≡ None
      gone = ap (λ b. cond b None (r.facts.mine k)) (eqb_turned k q ∙ e)

  -- or it is to be counted
  arriving_wanted : (w : WorkerFacts) (r : Arrivals) (q : ℕ) → eqb q k ≡ true → r.facts.mine q ≡ None → r.facts.mem q ≡ false → Arriving w r → Arriving w (record { facts = into_mem r.facts q; out = r.out ++ Keep q ∷ []; added = r.added ++ q ∷ [] })
  arriving_wanted w r q e m n (Here i here none g) = absurd (true≢false (sym here ∙ ap r.facts.mem (sym (eqb-true q k e)) ∙ n))
  arriving_wanted w r q e m n (Apart i g) = Here (in_more r.added q e) (ap (λ b. cond b true (r.facts.mem k)) (eqb_turned k q ∙ e)) (ap r.facts.mine (sym (eqb-true q k e)) ∙ m)
      (λ p x. more_out w (record (at_side p (into_mem r.facts q)) { mem = false }) p r.out (Keep q ∷ []) tt (subst (λ b. I (said (record (at_side p r.facts) { mem = b }) (reports k (sends r.out)))) (ap r.facts.mem (sym (eqb-true q k e)) ∙ n) (g p x)))

  arriving_one : (w : WorkerFacts) (r : Arrivals) (q : ℕ) → Arriving w r → Arriving w (arrive r q)
  arriving_one w r q h = by_mine (r.facts.mine q) refl (eqb q k) refl
    where
      not_mem : (a b : Bool) → (not a && b) ≡ true → a ≡ false
      not_mem true b e = absurd (false≢true e)
      not_mem false b e = refl

      wanted : r.facts.mine q ≡ None → (c : Bool) → eqb q k ≡ c → (b : Bool) → is_wanted r.facts q ≡ b → Arriving w (cond b (record { facts = into_mem r.facts q; out = r.out ++ Keep q ∷ []; added = r.added ++ q ∷ [] }) r)
      wanted m c e false i = h
      wanted m true e true i = arriving_wanted w r q e m (not_mem (r.facts.mem q) (r.facts.sought q || awaited r.facts q) i) h
      wanted m false e true i = arriving_other w r (into_mem r.facts q) (Keep q ∷ []) (r.added ++ q ∷ []) refl (ap (λ b. cond b true (r.facts.mem k)) (eqb_turned k q ∙ e)) refl (not_in_more r.added q e) tt h

      by_mine : (o : Option ℕ) → r.facts.mine q ≡ o → (c : Bool) → eqb q k ≡ c → Arriving w (arrive_as r q o)
      by_mine None m c e = wanted m c e (is_wanted r.facts q) refl
      by_mine (Some a) m true e = arriving_task w r q a e m h
      by_mine (Some a) m false e = arriving_other w r (into_mem (give_up r.facts q) q) (Keep q ∷ Send (TaskFinished r.facts.seen q a) ∷ []) r.added refl (ap (λ b. cond b true (r.facts.mem k)) (eqb_turned k q ∙ e)) (ap (λ b. cond b None (r.facts.mine k)) (eqb_turned k q ∙ e)) refl (ap (λ b. cond b (Finished a) Quiet) e, tt) h

  arriving_all : (w : WorkerFacts) (qs : List ℕ) (r : Arrivals) → Arriving w r → Arriving w (fold arrive r qs)
  arriving_all w [] r h = h
  arriving_all w (q ∷ qs) r h = arriving_all w qs (arrive r q) (arriving_one w r q h)

  -- in the end one message names the keys that are to be counted
  arriving_told : (w : WorkerFacts) (r : Arrivals) → Arriving w r → Reaches w (counted r)
  arriving_told w r (Apart i g) p x = more_out w (at_side p r.facts) p r.out (add_message r.facts.seen r.added) (silent r.added i) (g p x)
    where
      silent : (xs : List ℕ) → is_in k xs ≡ false → AreQuiet (reports k (sends (add_message r.facts.seen xs)))
      silent [] e = tt
      silent (y ∷ ys) e = (ap (λ b. cond b (Added r.facts.seen) Quiet) e, tt)
  arriving_told w r (Here i here none g) p x = subst (λ rs. I (said (at_side p r.facts) rs)) (sym (said-append k r.out (add_message r.facts.seen r.added) ∙ ap (λ l. reports k (sends r.out) ++ l) (names r.added i)))
      (subst (λ (y : Pair). I y) (λ j. record p { seen = r.facts.seen; mem = sym here j; mine = r.facts.mine k; up = append_assoc p.up (reports k (sends r.out)) (Added r.facts.seen ∷ []) j })
      (cl.store (said (record (at_side p r.facts) { mem = false }) (reports k (sends r.out))) refl none (g p x)))
    where
      names : (xs : List ℕ) → is_in k xs ≡ true → reports k (sends (add_message r.facts.seen xs)) ≡ Added r.facts.seen ∷ []
      names [] e = absurd (false≢true e)
      names (y ∷ ys) e = ap (λ b. cond b (Added r.facts.seen) Quiet ∷ []) e

  reaches_arrived : (w : WorkerFacts) (qs : List ℕ) → Reaches w (arrived w qs)
  unfolding arrived
  reaches_arrived w qs = arriving_told w (fold arrive (record { facts = w; out = []; added = [] }) qs) (arriving_all w qs (record { facts = w; out = []; added = [] }) (Apart refl (goes_same w w refl refl refl)))

  -- ## The rows that aren't messages

  reaches_start : (w : WorkerFacts) (o : Option ℕ) → Reaches w (start w o)
  reaches_start w None = goes_same w w refl refl refl
  reaches_start w (Some q) = goes_same w (record w { running = put w.running q true }) refl refl refl

  reaches_done : (w : WorkerFacts) (q : ℕ) (z : Bool) → Reaches w (done w q z)
  reaches_done w q false x i = reaches_arrived (stopped w q) (q ∷ []) x i
  reaches_done w q true x i = by_mine (w.mine q) refl x i
    where
      own : (a : ℕ) → w.mine q ≡ Some a → eqb q k ≡ true → Reaches w (erred_as (stopped w q) q (Some a))
      own a m e p z = subst (λ (y : Pair). I y) (λ j. record p { seen = w.seen; mem = w.mem k; mine = sym (ap (λ b. cond b None (w.mine k)) (eqb_turned k q ∙ e)) j; up = p.up ++ sym (ap (λ b. cond b (Erred a) Quiet) e) j ∷ [] })
          (cl.fail (at_side p w) a (ap w.mine (sym (eqb-true q k e)) ∙ m) z)

      pick : (a : ℕ) → w.mine q ≡ Some a → (b : Bool) → eqb q k ≡ b → Reaches w (erred_as (stopped w q) q (Some a))
      pick a m true e = own a m e
      pick a m false e = goes_calm w (erred_as (stopped w q) q (Some a)).facts (reports k (Send2 a)) refl refl (ap (λ b. cond b None (w.mine k)) (eqb_turned k q ∙ e)) (ap (λ b. cond b (Erred a) Quiet) e, tt)
        where
          Send2 : ℕ → List Up
          Send2 a = TaskErred w.seen q a ∷ []

      by_mine : (o : Option ℕ) → w.mine q ≡ o → Reaches w (erred_as (stopped w q) q o)
      by_mine None m = goes_same w (stopped w q) refl refl refl
      by_mine (Some a) m = pick a m (eqb q k) refl

  reaches_not_found : (p : ℕ) (w : WorkerFacts) (i : ℕ × ℕ) → Reaches w (not_found p w i)
  reaches_not_found p w i = pick (is_missing_state (wstate (lose_holders w i.0) i.0))
    where
      pick : (b : Bool) → Reaches w (cond b (record { facts = record (lose_holders w i.0) { asked = put w.asked i.0 true }; out = Send (MissingData w.seen i.0 p i.1) ∷ [] }) (quiet (lose_holders w i.0)))
      pick true = goes_calm w (record (lose_holders w i.0) { asked = put w.asked i.0 true }) (Quiet ∷ []) refl refl refl (refl, tt)
      pick false = goes_same w (lose_holders w i.0) refl refl refl

  reaches_gathered : (w : WorkerFacts) (p n : ℕ) (found : List ℕ) → Reaches w (gathered w p n found)
  unfolding gathered
  reaches_gathered w p n found = by_ask (ask_to w.asks p)
    where
      over : (a : OpenAsk) (b : Bool) → Reaches w (cond b (answered_ask (record w { asks = without_ask w.asks p }) p a.items found) (quiet w))
      over a true = reaches_each (not_found p) w (filter (λ i. not (is_in i.0 found)) a.items) (arrived (record w { asks = without_ask w.asks p }) (keys_of (filter (λ i. is_in i.0 found) a.items))) (reaches_not_found p) (λ x i. reaches_arrived (record w { asks = without_ask w.asks p }) (keys_of (filter (λ i. is_in i.0 found) a.items)) x i)
      over a false = goes_same w w refl refl refl

      by_ask : (o : Option OpenAsk) → Reaches w (gathered_by w p n found o)
      by_ask None = goes_same w w refl refl refl
      by_ask (Some a) = over a (eqb a.number n)

  reaches_lost : (w : WorkerFacts) (q : ℕ) → w.mem q ≡ true → Reaches w (lose_data w q)
  reaches_lost w q m = pick (eqb q k) refl
    where
      pick : (b : Bool) → eqb q k ≡ b → Reaches w (lose_data w q)
      pick true e p i = subst (λ (y : Pair). I y) (λ j. record p { seen = w.seen; mem = sym (ap (λ b. cond b false (w.mem k)) (eqb_turned k q ∙ e)) j; mine = w.mine k; up = p.up ++ sym (ap (λ b. cond b (Released w.seen) Quiet) e) j ∷ [] })
          (cl.lose (at_side p w) (ap w.mem (sym (eqb-true q k e)) ∙ m) i)
      pick false e p i = goes_calm w (record w { mem = put w.mem q false }) (reports k (ReleaseWorkerData w.seen q ∷ [])) refl (ap (λ b. cond b false (w.mem k)) (eqb_turned k q ∙ e)) refl (ap (λ b. cond b (Released w.seen) Quiet) e, tt) p i

  reaches_ask : (w : WorkerFacts) (x : ℕ) → Reaches w (ask_peer w x)
  unfolding ask_peer
  reaches_ask w x = goes_same w (ask_peer w x).facts refl refl refl

  -- after every row the missing keys are asked for
  asks_quietly : (seen : ℕ) (qs : List ℕ) → AreQuiet (reports k (sends (map (λ q. Send (RequestRefreshWhoHas seen q)) qs)))
  asks_quietly seen [] = tt
  asks_quietly seen (q ∷ qs) = (refl, asks_quietly seen qs)

  sought_after : (w : WorkerFacts) (s : WorkerStep) → Reaches w s → Reaches w (seek_missing s)
  sought_after w s g p i = more_out w (at_side p s.facts) p s.out (map (λ q. Send (RequestRefreshWhoHas s.facts.seen q)) (unasked_keys s.facts)) (asks_quietly s.facts.seen (unasked_keys s.facts)) (g p i)

  -- ## The scheduler's messages

  -- what the worker makes of the key by one message, and what it says besides
  record IsTold (w : WorkerFacts) (m : Down) (v : WorkerFacts) (rs : List Report) : Type 0 where
    agrees : Bool
    yields : Yields Idle (note_of k m) (w.mine k) agrees
    seen : v.seen ≡ w.seen + 1
    told : List Report
    is : take_note agrees (w.seen + 1) (w.mem k) (w.mine k) (note_of k m) ≡ record { mem = v.mem k; mine = v.mine k; said = told }
    rest : List Report
    quiet : AreQuiet rest
    whole : rs ≡ told ++ rest

  told_goes : (w : WorkerFacts) (m : Down) (v : WorkerFacts) (rs : List Report) → IsTold w m v rs → (p : Pair) (ns : List Note) → I (record (at_side p w) { down = note_of k m ∷ ns }) → I (record (at_side p v) { down = ns; up = p.up ++ rs })
  told_goes w m v rs t p ns i =
      subst (λ (y : Pair). I y) (λ j. record (at_side p v) { down = ns; seen = sym t.seen j; up = (append_assoc p.up t.told t.rest ∙ ap (λ l. p.up ++ l) (sym t.whole)) j })
      (says t.rest t.quiet (record p { down = ns; seen = w.seen + 1; mem = v.mem k; mine = v.mine k; up = p.up ++ t.told })
      (subst (λ (d : Made). I (record p { down = ns; seen = w.seen + 1; mem = d.mem; mine = d.mine; up = p.up ++ d.said })) t.is (cl.takes t.agrees (at_side p w) (note_of k m) ns t.yields i)))

  -- a message that says nothing of the key, and after which the key is as it was
  told_other : (w : WorkerFacts) (m : Down) (v : WorkerFacts) (rs : List Report) → note_of k m ≡ Other → v.seen ≡ w.seen + 1 → v.mem k ≡ w.mem k → v.mine k ≡ w.mine k → AreQuiet rs → IsTold w m v rs
  told_other w m v rs e s b o q = record {
    agrees = false;
    yields = subst (λ n. Yields Idle n (w.mine k) false) (sym e) tt;
    seen = s;
    told = [];
    is = ap (take_note false (w.seen + 1) (w.mem k) (w.mine k)) e ∙ (λ j. record { mem = sym b j; mine = sym o j; said = [] });
    rest = rs;
    quiet = q;
    whole = refl;
  }

  -- what setting holders leaves alone
  record AreSame (w v : WorkerFacts) : Type 0 where
    seen : v.seen ≡ w.seen
    mem : v.mem ≡ w.mem
    mine : v.mine ≡ w.mine

  same_set : (w : WorkerFacts) (who : List (ℕ × List (ℕ × ℕ))) → AreSame w (fold set_holders w who)
  same_set w [] = record { seen = refl; mem = refl; mine = refl }
  same_set w (x ∷ xs) = let r = same_set (set_holders w x) xs in record { seen = r.seen; mem = r.mem; mine = r.mine }

  same_acquire : (w : WorkerFacts) (who : List (ℕ × List (ℕ × ℕ))) → AreSame w (fold acquire w who)
  same_acquire w [] = record { seen = refl; mem = refl; mine = refl }
  same_acquire w (x ∷ xs) = let r = same_acquire (acquire w x) xs in let o = one (w.mem x.0) in record { seen = r.seen ∙ o.seen; mem = r.mem ∙ o.mem; mine = r.mine ∙ o.mine }
    where
      one : (b : Bool) → AreSame w (cond b w (set_holders (record w { sought = put w.sought x.0 true }) x))
      one true = record { seen = refl; mem = refl; mine = refl }
      one false = record { seen = refl; mem = refl; mine = refl }

  same_refresh : (w : WorkerFacts) (who : List (ℕ × List (ℕ × ℕ))) → AreSame w (fold refresh w who)
  same_refresh w [] = record { seen = refl; mem = refl; mine = refl }
  same_refresh w (x ∷ xs) = let r = same_refresh (refresh w x) xs in record { seen = r.seen; mem = r.mem; mine = r.mine }

  at_key : (w v : WorkerFacts) → AreSame w v → (v.mem k ≡ w.mem k) × (v.mine k ≡ w.mine k)
  at_key w v s = (ap (λ (f : ℕ → Bool). f k) s.mem, ap (λ (f : ℕ → Option ℕ). f k) s.mine)

  told_compute : (w : WorkerFacts) (q a : ℕ) (who : List (ℕ × List (ℕ × ℕ))) → let s = given (taken w) q a who in IsTold w (ComputeTask q a who) s.facts (reports k (sends s.out))
  unfolding given
  told_compute w q a who = pick (w.mem q) refl (eqb q k) refl
    where
      g : WorkerFacts
      g = record (taken w) { failed = put w.failed q false; mine = put w.mine q (Some a) }

      pick : (b : Bool) → w.mem q ≡ b → (c : Bool) → eqb q k ≡ c
          → let s = cond {A = WorkerStep} b (record { facts = record (taken w) { failed = put w.failed q false }; out = Send (TaskFinished (w.seen + 1) q a) ∷ [] }) (quiet (fold set_holders g who)) in
          IsTold w (ComputeTask q a who) s.facts (reports k (sends s.out))
      pick true m true e = record {
        agrees = false;
        yields = subst (λ b. Yields Idle (cond b (Task a) Other) (w.mine k) false) (sym e) tt;
        seen = refl;
        told = Finished a ∷ [];
        is = ap (λ b. take_note false (w.seen + 1) (w.mem k) (w.mine k) (cond b (Task a) Other)) e ∙ ap (λ b. take_task b (w.mine k) a) (ap w.mem (sym (eqb-true q k e)) ∙ m) ∙ (λ j. record { mem = sym (ap w.mem (sym (eqb-true q k e)) ∙ m) j; mine = w.mine k; said = Finished a ∷ [] });
        rest = [];
        quiet = tt;
        whole = ap (λ b. cond b (Finished a) Quiet ∷ []) e;
      }
      pick true m false e = told_other w (ComputeTask q a who) _ _ (ap (λ b. cond b (Task a) Other) e) refl refl refl (ap (λ b. cond b (Finished a) Quiet) e, tt)
      pick false m true e = let s = at_key g (fold set_holders g who) (same_set g who) in record {
        agrees = false;
        yields = subst (λ b. Yields Idle (cond b (Task a) Other) (w.mine k) false) (sym e) tt;
        seen = (same_set g who).seen;
        told = [];
        is = ap (λ b. take_note false (w.seen + 1) (w.mem k) (w.mine k) (cond b (Task a) Other)) e ∙ ap (λ b. take_task b (w.mine k) a) (ap w.mem (sym (eqb-true q k e)) ∙ m)
            ∙ (λ j. record { mem = sym (s.0 ∙ (ap w.mem (sym (eqb-true q k e)) ∙ m)) j; mine = sym (s.1 ∙ ap (λ b. cond b (Some a) (w.mine k)) (eqb_turned k q ∙ e)) j; said = [] });
        rest = [];
        quiet = tt;
        whole = refl;
      }
      pick false m false e = let s = at_key g (fold set_holders g who) (same_set g who) in
          told_other w (ComputeTask q a who) (fold set_holders g who) [] (ap (λ b. cond b (Task a) Other) e) (same_set g who).seen s.0 (s.1 ∙ ap (λ b. cond b (Some a) (w.mine k)) (eqb_turned k q ∙ e)) tt

  -- keys that are freed
  record IsFreed (s t : WorkerStep) (there : Bool) : Type 0 where
    seen : t.facts.seen ≡ s.facts.seen
    mem : t.facts.mem k ≡ cond there false (s.facts.mem k)
    mine : t.facts.mine k ≡ cond there None (s.facts.mine k)
    out : sends t.out ≡ sends s.out

  freeing : (ks : List ℕ) (s : WorkerStep) → IsFreed s (each_key free_key s ks) (is_in k ks)
  freeing [] s = record { seen = refl; mem = refl; mine = refl; out = refl }
  freeing (x ∷ xs) s = let r = freeing xs (after_out s.out (free_key s.facts x)) in record {
    seen = r.seen;
    mem = r.mem ∙ ap (λ b. cond (is_in k xs) false (cond b false (s.facts.mem k))) (eqb_turned k x) ∙ twice false (s.facts.mem k) (is_in k xs) (eqb x k);
    mine = r.mine ∙ ap (λ b. cond (is_in k xs) None (cond b None (s.facts.mine k))) (eqb_turned k x) ∙ twice None (s.facts.mine k) (is_in k xs) (eqb x k);
    out = r.out ∙ sends-append s.out (free_key s.facts x).out ∙ ap (λ l. sends s.out ++ l) (drops (s.facts.mem x)) ∙ append-nil (sends s.out);
  }
    where
      twice : {A : Type 0} (y z : A) (b c : Bool) → cond b y (cond c y z) ≡ cond (c || b) y z
      twice y z true true = refl
      twice y z true false = refl
      twice y z false true = refl
      twice y z false false = refl

      drops : (b : Bool) → sends (cond b (Drop x ∷ []) []) ≡ []
      drops true = refl
      drops false = refl

  told_free : (w : WorkerFacts) (ks : List ℕ) → let s = each_key free_key (quiet (taken w)) ks in IsTold w (FreeKeys ks) s.facts (reports k (sends s.out))
  told_free w ks = let f = freeing ks (quiet (taken w)) in pick (is_in k ks) refl f
    where
      s : WorkerStep
      s = each_key free_key (quiet (taken w)) ks

      pick : (b : Bool) → is_in k ks ≡ b → IsFreed (quiet (taken w)) s b → IsTold w (FreeKeys ks) s.facts (reports k (sends s.out))
      pick true e f = record {
        agrees = false;
        yields = subst (λ b. Yields Idle (cond b Free Other) (w.mine k) false) (sym e) tt;
        seen = f.seen;
        told = [];
        is = ap (λ b. take_note false (w.seen + 1) (w.mem k) (w.mine k) (cond b Free Other)) e ∙ (λ j. record { mem = sym f.mem j; mine = sym f.mine j; said = [] });
        rest = [];
        quiet = tt;
        whole = ap (reports k) f.out;
      }
      pick false e f = told_other w (FreeKeys ks) s.facts (reports k (sends s.out)) (ap (λ b. cond b Free Other) e) f.seen f.mem f.mine (subst (λ l. AreQuiet (reports k l)) (sym f.out) tt)

  -- asked for an attempt
  attempt_is : (a : ℕ) (o : Option ℕ) → is_attempt a o ≡ is_at a o
  attempt_is a None = refl
  attempt_is a (Some b) = refl

  told_ask : (w : WorkerFacts) (q a : ℕ) → (is_unstarted_state (wstate (taken w) k) ≡ true → Idle (w.mine k)) → let s = asked_back (taken w) q a in IsTold w (StealRequest q a) s.facts (reports k (sends s.out))
  unfolding asked_back
  told_ask w q a idle = pick (eqb q k) refl (yields (taken w) q a) refl
    where
      pick : (c : Bool) → eqb q k ≡ c → (b : Bool) → yields (taken w) q a ≡ b
          → let s = cond {A = WorkerStep} b (record { facts = give_up (taken w) q; out = Send (StealResponse (w.seen + 1) q a true) ∷ [] }) (record { facts = taken w; out = Send (StealResponse (w.seen + 1) q a false) ∷ [] }) in
          IsTold w (StealRequest q a) s.facts (reports k (sends s.out))
      pick false e true i = told_other w (StealRequest q a) _ _ (ap (λ b. cond b (Ask a) Other) e) refl refl (ap (λ b. cond b None (w.mine k)) (eqb_turned k q ∙ e)) (ap (λ b. cond b (Gave a) Quiet) e, tt)
      pick false e false i = told_other w (StealRequest q a) _ _ (ap (λ b. cond b (Ask a) Other) e) refl refl refl (ap (λ b. cond b (Declined a) Quiet) e, tt)
      pick true e b i = by b (ap (λ c. c && is_unstarted_state (wstate (taken w) k)) (sym (attempt_is a (w.mine k))) ∙ ap (λ n. yields (taken w) n a) (sym (eqb-true q k e)) ∙ i)
        where
          by : (b : Bool) → (is_at a (w.mine k) && is_unstarted_state (wstate (taken w) k)) ≡ b
              → let s = cond {A = WorkerStep} b (record { facts = give_up (taken w) q; out = Send (StealResponse (w.seen + 1) q a true) ∷ [] }) (record { facts = taken w; out = Send (StealResponse (w.seen + 1) q a false) ∷ [] }) in
              IsTold w (StealRequest q a) s.facts (reports k (sends s.out))
          by true y = record {
            agrees = is_unstarted_state (wstate (taken w) k);
            yields = subst (λ b. Yields Idle (cond b (Ask a) Other) (w.mine k) (is_unstarted_state (wstate (taken w) k))) (sym e) (λ h. idle (and_parts (is_at a (w.mine k)) (is_unstarted_state (wstate (taken w) k)) h).1);
            seen = refl;
            told = Gave a ∷ [];
            is = ap (λ b. take_note (is_unstarted_state (wstate (taken w) k)) (w.seen + 1) (w.mem k) (w.mine k) (cond b (Ask a) Other)) e ∙ ap (take_ask (w.mem k) (w.mine k) a) y
                ∙ (λ j. record { mem = w.mem k; mine = sym (ap (λ b. cond b None (w.mine k)) (eqb_turned k q ∙ e)) j; said = Gave a ∷ [] });
            rest = [];
            quiet = tt;
            whole = ap (λ b. cond b (Gave a) Quiet ∷ []) e;
          }
          by false y = record {
            agrees = is_unstarted_state (wstate (taken w) k);
            yields = subst (λ b. Yields Idle (cond b (Ask a) Other) (w.mine k) (is_unstarted_state (wstate (taken w) k))) (sym e) (λ h. idle (and_parts (is_at a (w.mine k)) (is_unstarted_state (wstate (taken w) k)) h).1);
            seen = refl;
            told = Declined a ∷ [];
            is = ap (λ b. take_note (is_unstarted_state (wstate (taken w) k)) (w.seen + 1) (w.mem k) (w.mine k) (cond b (Ask a) Other)) e ∙ ap (take_ask (w.mem k) (w.mine k) a) y;
            rest = [];
            quiet = tt;
            whole = ap (λ b. cond b (Declined a) Quiet ∷ []) e;
          }

  -- replicas that are removed
  record IsRemoved (s t : WorkerStep) (there : Bool) : Type 0 where
    seen : t.facts.seen ≡ s.facts.seen
    mine : t.facts.mine ≡ s.facts.mine
    awaits : awaited t.facts ≡ awaited s.facts
    mem : t.facts.mem k ≡ (s.facts.mem k && not (there && not (awaited s.facts k)))
    out : sends t.out ≡ sends s.out

  removing_one : (s : WorkerStep) (x : ℕ) → IsRemoved s (after_out s.out (remove_replica s.facts x)) (eqb x k)
  unfolding awaited
  removing_one s x = pick (s.facts.mem x) refl (awaited s.facts x) refl (eqb x k) refl
    where
      pick : (b : Bool) → s.facts.mem x ≡ b → (d : Bool) → awaited s.facts x ≡ d → (c : Bool) → eqb x k ≡ c
          → IsRemoved s (after_out s.out (cond (b && not d) (record { facts = record s.facts { mem = put s.facts.mem x false }; out = Drop x ∷ [] }) (quiet s.facts))) c
      pick true m false a true e = record { seen = refl; mine = refl; awaits = refl; mem = ap (λ b. cond b false (s.facts.mem k)) (eqb_turned k x ∙ e) ∙ sym (gone (awaited s.facts k) (s.facts.mem k) (ap (awaited s.facts) (sym (eqb-true x k e)) ∙ a)); out = sends-append s.out (Drop x ∷ []) ∙ append-nil (sends s.out) }
        where
          gone : (d b : Bool) → d ≡ false → (b && not (true && not d)) ≡ false
          gone true b z = absurd (true≢false z)
          gone false true z = refl
          gone false false z = refl
      pick true m false a false e = record { seen = refl; mine = refl; awaits = refl; mem = ap (λ b. cond b false (s.facts.mem k)) (eqb_turned k x ∙ e) ∙ sym (and-true (s.facts.mem k)); out = sends-append s.out (Drop x ∷ []) ∙ append-nil (sends s.out) }
      pick true m true a c e = record { seen = refl; mine = refl; awaits = refl; mem = sym (stays c (awaited s.facts k) (s.facts.mem k) (λ i. ap (awaited s.facts) (sym (eqb-true x k (e ∙ i))) ∙ a)); out = sends-append s.out [] ∙ append-nil (sends s.out) }
        where
          stays : (c d b : Bool) → (c ≡ true → d ≡ true) → (b && not (c && not d)) ≡ b
          stays true true true h = refl
          stays true true false h = refl
          stays true false b h = absurd (false≢true (h refl))
          stays false d true h = refl
          stays false d false h = refl
      pick false m d a c e = record { seen = refl; mine = refl; awaits = refl; mem = sym (none c (not (c && not (awaited s.facts k))) (s.facts.mem k) (λ i. ap s.facts.mem (sym (eqb-true x k (e ∙ i))) ∙ m) (away (awaited s.facts k))); out = sends-append s.out [] ∙ append-nil (sends s.out) }
        where
          away : (d : Bool) → c ≡ false → not (c && not d) ≡ true
          away d z = ap (λ y. not (y && not d)) z

          none : (c y b : Bool) → (c ≡ true → b ≡ false) → (c ≡ false → y ≡ true) → (b && y) ≡ b
          none true y b h i = ap (λ z. z && y) (h refl) ∙ sym (h refl)
          none false true true h i = refl
          none false true false h i = refl
          none false false b h i = absurd (false≢true (i refl))

  removing : (ks : List ℕ) (s : WorkerStep) → IsRemoved s (each_key remove_replica s ks) (is_in k ks)
  removing [] s = record { seen = refl; mine = refl; awaits = refl; mem = sym (and-true (s.facts.mem k)); out = refl }
  removing (x ∷ xs) s = let o = removing_one s x in let r = removing xs (after_out s.out (remove_replica s.facts x)) in record {
    seen = r.seen ∙ o.seen;
    mine = r.mine ∙ o.mine;
    awaits = r.awaits ∙ o.awaits;
    mem = r.mem ∙ ap (λ b. b && not (is_in k xs && not (awaited (remove_replica s.facts x).facts k))) o.mem ∙ ap (λ (f : ℕ → Bool). (s.facts.mem k && not (eqb x k && not (awaited s.facts k))) && not (is_in k xs && not (f k))) o.awaits ∙ both (s.facts.mem k) (eqb x k) (is_in k xs) (awaited s.facts k);
    out = r.out ∙ o.out;
  }
    where
      both : (b c i d : Bool) → ((b && not (c && not d)) && not (i && not d)) ≡ (b && not ((c || i) && not d))
      both true true true true = refl
      both true true true false = refl
      both true true false true = refl
      both true true false false = refl
      both true false i d = refl
      both false c i d = refl

  told_remove : (w : WorkerFacts) (ks : List ℕ) → (is_in k ks ≡ true → k < key_count w.shape) → let s = remove_replicas (taken w) ks in IsTold w (RemoveReplicas ks) s.facts (reports k (sends s.out))
  unfolding remove_replicas
  told_remove w ks low = by (is_in k ks) refl (w.mem k) refl (awaited v k) refl (removing ks (quiet v))
    where
      v : WorkerFacts
      v = taken w

      refused : List ℕ
      refused = filter (λ j. is_in j ks && (w.mem j && awaited v j)) (worker_keys w)

      t : WorkerStep
      t = each_key remove_replica (quiet v) ks

      silent : (xs : List ℕ) → is_in k xs ≡ false → AreQuiet (reports k (sends (add_message (w.seen + 1) xs)))
      silent [] e = tt
      silent (y ∷ ys) e = (ap (λ b. cond b (Added (w.seen + 1)) Quiet) e, tt)

      names : (xs : List ℕ) → is_in k xs ≡ true → reports k (sends (add_message (w.seen + 1) xs)) ≡ Added (w.seen + 1) ∷ []
      names [] e = absurd (false≢true e)
      names (y ∷ ys) e = ap (λ b. cond b (Added (w.seen + 1)) Quiet ∷ []) e

      said_is : sends t.out ≡ [] → reports k (sends (t.out ++ add_message (w.seen + 1) refused)) ≡ reports k (sends (add_message (w.seen + 1) refused))
      said_is o = ap (reports k) (sends-append t.out (add_message (w.seen + 1) refused) ∙ ap (λ l. l ++ sends (add_message (w.seen + 1) refused)) o)

      not_refused : (is_in k ks && (w.mem k && awaited v k)) ≡ false → is_in k refused ≡ false
      not_refused e = none (is_in k refused) refl
        where
          none : (b : Bool) → is_in k refused ≡ b → b ≡ false
          none true h = sym (in_filter (λ j. is_in j ks && (w.mem j && awaited v j)) (worker_keys w) k h) ∙ e
          none false h = refl

      is_refused : (is_in k ks && (w.mem k && awaited v k)) ≡ true → is_in k refused ≡ true
      is_refused e = filter_in (λ j. is_in j ks && (w.mem j && awaited v j)) (worker_keys w) k (in_range 0 (key_count w.shape) k (omega arith) (omega (arith, low (and_parts (is_in k ks) (w.mem k && awaited v k) e).0))) e

      test : (c b d : Bool) → is_in k ks ≡ c → w.mem k ≡ b → awaited v k ≡ d → (is_in k ks && (w.mem k && awaited v k)) ≡ (c && (b && d))
      test c b d ec eb ed = ap (λ x. x && (w.mem k && awaited v k)) ec ∙ ap (λ x. c && (x && awaited v k)) eb ∙ ap (λ x. c && (b && x)) ed

      mem_is : (c b d : Bool) → is_in k ks ≡ c → w.mem k ≡ b → awaited v k ≡ d → IsRemoved (quiet v) t (is_in k ks) → t.facts.mem k ≡ (b && not (c && not d))
      mem_is c b d ec eb ed r = r.mem ∙ ap (λ x. x && not (is_in k ks && not (awaited v k))) eb ∙ ap (λ x. b && not (x && not (awaited v k))) ec ∙ ap (λ x. b && not (c && not x)) ed

      -- the key is named, and it isn't refused
      gone : (b d : Bool) → is_in k ks ≡ true → w.mem k ≡ b → awaited v k ≡ d → (b && d) ≡ false → IsRemoved (quiet v) t (is_in k ks) → IsTold w (RemoveReplicas ks) t.facts (reports k (sends (t.out ++ add_message (w.seen + 1) refused)))
      gone b d ec eb ed z r = record {
        agrees = true;
        yields = subst (λ c. Yields Idle (cond c Remove Other) (w.mine k) true) (sym ec) tt;
        seen = r.seen;
        told = [];
        is = ap (λ c. take_note true (w.seen + 1) (w.mem k) (w.mine k) (cond c Remove Other)) ec ∙ removed (w.mem k) ∙ (λ j. record { mem = sym (mem_is true b d ec eb ed r ∙ out b d z) j; mine = sym (ap (λ (f : ℕ → Option ℕ). f k) r.mine) j; said = [] });
        rest = reports k (sends (add_message (w.seen + 1) refused));
        quiet = silent refused (not_refused (test true b d ec eb ed ∙ z));
        whole = said_is r.out;
      }
        where
          out : (b d : Bool) → (b && d) ≡ false → (b && not (true && not d)) ≡ false
          out true true z = absurd (true≢false z)
          out true false z = refl
          out false d z = refl

          removed : (b : Bool) → take_remove (w.seen + 1) b (w.mine k) true ≡ record { mem = false; mine = w.mine k; said = [] }
          removed true = refl
          removed false = refl

      by : (c : Bool) → is_in k ks ≡ c → (b : Bool) → w.mem k ≡ b → (d : Bool) → awaited v k ≡ d → IsRemoved (quiet v) t (is_in k ks) → IsTold w (RemoveReplicas ks) t.facts (reports k (sends (t.out ++ add_message (w.seen + 1) refused)))
      by false ec b eb d ed r = told_other w (RemoveReplicas ks) t.facts _ (ap (λ c. cond c Remove Other) ec) r.seen (mem_is false b d ec eb ed r ∙ and-true b ∙ sym eb) (ap (λ (f : ℕ → Option ℕ). f k) r.mine) (subst AreQuiet (sym (said_is r.out)) (silent refused (not_refused (test false b d ec eb ed))))
      by true ec true eb true ed r = record {
        agrees = false;
        yields = subst (λ c. Yields Idle (cond c Remove Other) (w.mine k) false) (sym ec) tt;
        seen = r.seen;
        told = Added (w.seen + 1) ∷ [];
        is = ap (λ c. take_note false (w.seen + 1) (w.mem k) (w.mine k) (cond c Remove Other)) ec ∙ ap (λ b. take_remove (w.seen + 1) b (w.mine k) false) eb ∙ (λ j. record { mem = sym (mem_is true true true ec eb ed r) j; mine = sym (ap (λ (f : ℕ → Option ℕ). f k) r.mine) j; said = Added (w.seen + 1) ∷ [] });
        rest = [];
        quiet = tt;
        whole = said_is r.out ∙ names refused (is_refused (test true true true ec eb ed));
      }
      by true ec true eb false ed r = gone true false ec eb ed refl r
      by true ec false eb d ed r = gone false d ec eb ed refl r

  told_all : (w : WorkerFacts) (m : Down) → takes_down w m ≡ true → (is_unstarted_state (wstate (taken w) k) ≡ true → Idle (w.mine k)) → let s = take_down (taken w) m in IsTold w m s.facts (reports k (sends s.out))
  unfolding take_down
  told_all w (ComputeTask q a who) t idle = told_compute w q a who
  told_all w (FreeKeys ks) t idle = told_free w ks
  told_all w (StealRequest q a) t idle = told_ask w q a idle
  told_all w (RemoveReplicas ks) t idle = told_remove w ks (λ e. ltb-true k (key_count w.shape) (all_in (is_key w) k ks t e))
  told_all w (AcquireReplicas who) t idle = let s = same_acquire (taken w) who in let at = at_key (taken w) (fold acquire (taken w) who) s in told_other w (AcquireReplicas who) (fold acquire (taken w) who) [] refl s.seen at.0 at.1 tt
  told_all w (RefreshWhoHas who) t idle = let s = same_refresh (taken w) who in let at = at_key (taken w) (fold refresh (taken w) who) s in told_other w (RefreshWhoHas who) (fold refresh (taken w) who) [] refl s.seen at.0 at.1 tt

  -- ## Every event

  -- a message of the scheduler
  pub told_keeps : (w : WorkerFacts) (m : Down) → worker_takes w (Told m) ≡ true → (is_unstarted_state (wstate (taken w) k) ≡ true → Idle (w.mine k)) → (p : Pair) (ns : List Note)
      → let s = worker_step w (Told m) in I (record (at_side p w) { down = note_of k m ∷ ns }) → I (record (at_side p s.facts) { down = ns; up = p.up ++ reports k (sends s.out) })
  unfolding worker_step worker_row worker_takes
  told_keeps w m t idle p ns i =
      let s = take_down (taken w) m in
      more_out w (record (at_side p s.facts) { down = ns }) p s.out (map (λ q. Send (RequestRefreshWhoHas s.facts.seen q)) (unasked_keys s.facts)) (asks_quietly s.facts.seen (unasked_keys s.facts))
      (told_goes w m s.facts (reports k (sends s.out)) (told_all w m t idle) p ns i)

  abbrev pub IsOwn : WorkerEvent → Type 0
  IsOwn (Told m) = ⊥
  IsOwn e = Unit {0}

  -- what the worker does by itself, or by what its peers send
  pub own_keeps : (w : WorkerFacts) (e : WorkerEvent) → IsOwn e → worker_takes w e ≡ true → Reaches w (worker_step w e)
  unfolding worker_step worker_row worker_takes
  own_keeps w (Told m) o t p i = absurd o
  own_keeps w Start o t p i = sought_after w (start w (would_start w)) (reaches_start w (would_start w)) p i
  own_keeps w (Done q z) o t p i = sought_after w (done w q z) (reaches_done w q z) p i
  own_keeps w (AskPeer x) o t p i = sought_after w (ask_peer w x) (reaches_ask w x) p i
  own_keeps w (Gathered x n found) o t p i = sought_after w (gathered w x n found) (reaches_gathered w x n found) p i
  own_keeps w (GatherFailed x n) o t p i = sought_after w (gathered w x n []) (reaches_gathered w x n []) p i
  own_keeps w (DataLost q) o t p i = sought_after w (lose_data w q) (reaches_lost w q (and_parts (is_key w q) (w.mem q) t).1) p i
