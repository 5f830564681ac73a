-- What a worker says in one turn: its questions come last, and are of keys that aren't there.
use Rattle.std.proofs.Common.{◌≡◌, ℕ, Bool, true, false, cond, not, ◌&&◌, List, [], ◌∷◌, ◌++◌, Option, Some, None, refl, sym, ap, ◌∙◌, subst, filter, fold, map, append-nil, append_assoc}
use Rattle.std.proofs.Math.Dec.{eqb}
use Rattle.std.specs.List.{AllByRecursion}
use Rattle.std.proofs.lemmas.Bool.{false≢true, true≢false, eqb-true, and_parts}
use Rattle.small_facts.proofs.Every.{all_join}
use Rattle.cluster_msgs.specs.declared.messages.Down.{Down}
use Rattle.cluster_msgs.specs.declared.messages.Down.TheVariants.{ComputeTask, FreeKeys, StealRequest, RemoveReplicas, AcquireReplicas, RefreshWhoHas}
use Rattle.cluster_msgs.specs.declared.messages.Up.{Up}
use Rattle.cluster_msgs.specs.declared.messages.Up.TheVariants.{TaskFinished, TaskErred, AddKeys, MissingData, RequestRefreshWhoHas, ReleaseWorkerData, StealResponse}
use Rattle.cluster_msgs.specs.declared.cores.Instruction.{Instruction}
use Rattle.cluster_msgs.specs.declared.cores.Instruction.TheVariants.{Send, Keep, Drop}
use Rattle.cluster_msgs.specs.declared.cores.WorkerEvent.{WorkerEvent}
use Rattle.cluster_msgs.specs.declared.cores.WorkerEvent.TheVariants.{Down as Told, Start as StartTask, Done, Ask as AskPeer, Gathered, GatherFailed, DataLost}
use Rattle.cluster_rules.specs.Functions.{put}
use Rattle.cluster_rules.specs.Derived.{is_in}
use Rattle.cluster_rules.specs.Worker.{Ask, WorkerFacts, worker_keys, ask_to, without_ask, awaited, is_wanted, wstate, is_missing_state, would_start}
use Rattle.cluster_rules.specs.WorkerStep.{WorkerStep, quiet, after_out, each_key, taken, set_holders, into_mem, give_up, given, free_key, yields, asked_back, remove_replica, add_message, remove_replicas, take_down, start, Arrivals, arrive_as, arrive, arrived, stopped, erred_as, done, keys_of, lose_holders, not_found, answered_ask, gathered_by, gathered, lose_data, ask_peer, worker_row, worker_step, unasked_keys, seek_missing}
use Rattle.cluster_rules.specs.WorldStep.{sends}
use Rattle.cluster_rules.proofs.WorkerLemmas.{missing_state-is}
use Rattle.safety_laws.specs.Lively.{questions}
use Rattle.quiet_measure.proofs.Asked.{sends_append}
use Rattle.quiet_laws.proofs.Witness.{is_question, OnlyQuestions, AsksLast, AsksFor}

-- no question among these
abbrev Plain : List Instruction → Type 0
Plain out = AllByRecursion (λ m. is_question m ≡ false) (sends out)

-- only questions, of keys that aren't there
abbrev Questions : (ℕ → Bool) → List Instruction → Type 0
Questions mem out = AllByRecursion (λ m. (is_question m ≡ true) × ((k : ℕ) → questions k m ≡ true → mem k ≡ false)) (sends out)

plain_both : (xs ys : List Instruction) → Plain xs → Plain ys → Plain (xs ++ ys)
plain_both xs ys h g = subst (AllByRecursion (λ m. is_question m ≡ false)) (sym (sends_append xs ys)) (all_join (λ m. is_question m ≡ false) (sends xs) (sends ys) h g)

questions_both : (mem : ℕ → Bool) (xs ys : List Instruction) → Questions mem xs → Questions mem ys → Questions mem (xs ++ ys)
questions_both mem xs ys h g = subst (AllByRecursion (λ m. (is_question m ≡ true) × ((k : ℕ) → questions k m ≡ true → mem k ≡ false))) (sym (sends_append xs ys))
    (all_join (λ m. (is_question m ≡ true) × ((k : ℕ) → questions k m ≡ true → mem k ≡ false)) (sends xs) (sends ys) h g)

plain_each : {A : Type 0} (row : WorkerFacts → A → WorkerStep) → ((v : WorkerFacts) (x : A) → Plain (row v x).out) → (s : WorkerStep) (xs : List A) → Plain s.out → Plain (each_key row s xs).out
plain_each row h s [] g = g
plain_each row h s (x ∷ xs) g = plain_each row h (after_out s.out (row s.facts x)) xs (plain_both s.out (row s.facts x).out g (h s.facts x))

-- what is said first, and what is asked then
pub record IsSpoken (s : WorkerStep) : Type 0 where
  pub first : List Instruction
  pub last : List Instruction
  pub both : s.out ≡ first ++ last
  pub plain : Plain first
  pub asks : Questions s.facts.mem last

spoken_plain : (s : WorkerStep) → Plain s.out → IsSpoken s
spoken_plain s h = record { first = s.out; last = []; both = sym (append-nil s.out); plain = h; asks = tt }

missing_absent : (w : WorkerFacts) (k : ℕ) → is_missing_state (wstate w k) ≡ true → w.mem k ≡ false
missing_absent w k e = flip (w.mem k) (and_parts (not (w.mem k)) _ (sym (missing_state-is w k) ∙ e)).0
  where
    flip : (b : Bool) → not b ≡ true → b ≡ false
    flip true h = absurd (false≢true h)
    flip false h = refl

-- ## The rows

plain_add : (seen : ℕ) (ks : List ℕ) → Plain (add_message seen ks)
plain_add seen [] = tt
plain_add seen (k ∷ ks) = (refl, tt)

plain_given : (w : WorkerFacts) (q a : ℕ) (who : List (ℕ × List (ℕ × ℕ))) → Plain (given w q a who).out
unfolding given
plain_given w q a who = pick (w.mem q)
  where
    pick : (b : Bool) → Plain (cond {A = WorkerStep} b (record { facts = record w { failed = put w.failed q false }; out = Send (TaskFinished w.seen q a) ∷ [] }) (quiet (fold set_holders (record w { failed = put w.failed q false; mine = put w.mine q (Some a) }) who))).out
    pick true = (refl, tt)
    pick false = tt

plain_asked : (w : WorkerFacts) (q a : ℕ) → Plain (asked_back w q a).out
unfolding asked_back
plain_asked w q a = pick (yields w q a)
  where
    pick : (b : Bool) → Plain (cond {A = WorkerStep} b (record { facts = give_up w q; out = Send (StealResponse w.seen q a true) ∷ [] }) (record { facts = w; out = Send (StealResponse w.seen q a false) ∷ [] })).out
    pick true = (refl, tt)
    pick false = (refl, tt)

plain_remove : (v : WorkerFacts) (x : ℕ) → Plain (remove_replica v x).out
plain_remove v x = pick (v.mem x && not (awaited v x))
  where
    pick : (b : Bool) → Plain (cond {A = WorkerStep} b (record { facts = record v { mem = put v.mem x false }; out = Drop x ∷ [] }) (quiet v)).out
    pick true = tt
    pick false = tt

plain_free : (v : WorkerFacts) (x : ℕ) → Plain (free_key v x).out
plain_free v x = by (v.mem x)
  where
    by : (b : Bool) → Plain (cond b (Drop x ∷ []) [])
    by true = tt
    by false = tt

plain_told : (w : WorkerFacts) (m : Down) → Plain (take_down w m).out
unfolding take_down remove_replicas
plain_told w (ComputeTask q a who) = plain_given w q a who
plain_told w (FreeKeys ks) = plain_each free_key plain_free (quiet w) ks tt
plain_told w (StealRequest q a) = plain_asked w q a
plain_told w (RemoveReplicas ks) = plain_both (each_key remove_replica (quiet w) ks).out _ (plain_each remove_replica plain_remove (quiet w) ks tt) (plain_add w.seen _)
plain_told w (AcquireReplicas who) = tt
plain_told w (RefreshWhoHas who) = tt

plain_arrive : (r : Arrivals) (q : ℕ) → Plain r.out → Plain (arrive r q).out
plain_arrive r q h = pick (r.facts.mine q)
  where
    kept : (b : Bool) → Plain (cond b (record { facts = into_mem r.facts q; out = r.out ++ Keep q ∷ []; added = r.added ++ q ∷ [] }) r).out
    kept true = plain_both r.out (Keep q ∷ []) h tt
    kept false = h

    pick : (o : Option ℕ) → Plain (arrive_as r q o).out
    pick None = kept (is_wanted r.facts q)
    pick (Some a) = plain_both r.out (Keep q ∷ Send (TaskFinished r.facts.seen q a) ∷ []) h (refl, tt)

plain_arrives : (r : Arrivals) (qs : List ℕ) → Plain r.out → Plain (fold arrive r qs).out
plain_arrives r [] h = h
plain_arrives r (q ∷ qs) h = plain_arrives (arrive r q) qs (plain_arrive r q h)

plain_arrived : (w : WorkerFacts) (qs : List ℕ) → Plain (arrived w qs).out
unfolding arrived
plain_arrived w qs = plain_both (fold arrive (record { facts = w; out = []; added = [] }) qs).out _ (plain_arrives (record { facts = w; out = []; added = [] }) qs tt) (plain_add _ _)

-- a key that wasn't found
mem_not_found : (p : ℕ) (v : WorkerFacts) (x : ℕ × ℕ) → (not_found p v x).facts.mem ≡ v.mem
mem_not_found p v x = pick (is_missing_state (wstate (lose_holders v x.0) x.0))
  where
    pick : (b : Bool) → (cond {A = WorkerStep} b (record { facts = record (lose_holders v x.0) { asked = put v.asked x.0 true }; out = Send (MissingData v.seen x.0 p x.1) ∷ [] }) (quiet (lose_holders v x.0))).facts.mem ≡ v.mem
    pick true = refl
    pick false = refl

asks_not_found : (p : ℕ) (v : WorkerFacts) (x : ℕ × ℕ) → Questions v.mem (not_found p v x).out
asks_not_found p v x = pick (is_missing_state (wstate (lose_holders v x.0) x.0)) refl
  where
    pick : (b : Bool) → is_missing_state (wstate (lose_holders v x.0) x.0) ≡ b
        → Questions v.mem (cond {A = WorkerStep} b (record { facts = record (lose_holders v x.0) { asked = put v.asked x.0 true }; out = Send (MissingData v.seen x.0 p x.1) ∷ [] }) (quiet (lose_holders v x.0))).out
    pick true e = ((refl, λ k q. ap v.mem (sym (eqb-true x.0 k q)) ∙ missing_absent (lose_holders v x.0) x.0 e), tt)
    pick false e = tt

-- the questions are among the last of what was said
spoken_each : (p : ℕ) (s : WorkerStep) (is : List (ℕ × ℕ)) → IsSpoken s → IsSpoken (each_key (not_found p) s is)
spoken_each p s [] h = h
spoken_each p s (x ∷ is) h = spoken_each p (after_out s.out (not_found p s.facts x)) is (record {
  first = h.first;
  last = h.last ++ (not_found p s.facts x).out;
  both = ap (λ l. l ++ (not_found p s.facts x).out) h.both ∙ append_assoc h.first h.last (not_found p s.facts x).out;
  plain = h.plain;
  asks = subst (λ (m : ℕ → Bool). Questions m (h.last ++ (not_found p s.facts x).out)) (sym (mem_not_found p s.facts x)) (questions_both s.facts.mem h.last (not_found p s.facts x).out h.asks (asks_not_found p s.facts x));
})

spoken_gathered : (w : WorkerFacts) (p n : ℕ) (found : List ℕ) → IsSpoken (gathered w p n found)
unfolding gathered
spoken_gathered w p n found = by_ask (ask_to w.asks p)
  where
    here : (a : Ask) (b : Bool) → IsSpoken (cond b (answered_ask (record w { asks = without_ask w.asks p }) p a.items found) (quiet w))
    here a true = spoken_each p (arrived (record w { asks = without_ask w.asks p }) (keys_of (filter (λ i. is_in i.0 found) a.items))) (filter (λ i. not (is_in i.0 found)) a.items)
        (spoken_plain _ (plain_arrived (record w { asks = without_ask w.asks p }) (keys_of (filter (λ i. is_in i.0 found) a.items))))
    here a false = spoken_plain (quiet w) tt

    by_ask : (o : Option Ask) → IsSpoken (gathered_by w p n found o)
    by_ask None = spoken_plain (quiet w) tt
    by_ask (Some a) = here a (eqb a.number n)

plain_start : (w : WorkerFacts) (o : Option ℕ) → Plain (start w o).out
plain_start w None = tt
plain_start w (Some q) = tt

plain_done : (w : WorkerFacts) (q : ℕ) (z : Bool) → Plain (done w q z).out
plain_done w q false = plain_arrived (stopped w q) (q ∷ [])
plain_done w q true = pick (w.mine q)
  where
    pick : (o : Option ℕ) → Plain (erred_as (stopped w q) q o).out
    pick None = tt
    pick (Some a) = (refl, tt)

spoken_row : (w : WorkerFacts) (e : WorkerEvent) → IsSpoken (worker_row w e)
unfolding worker_row ask_peer
spoken_row w (Told m) = spoken_plain (take_down (taken w) m) (plain_told (taken w) m)
spoken_row w StartTask = spoken_plain (start w (would_start w)) (plain_start w (would_start w))
spoken_row w (Done x z) = spoken_plain (done w x z) (plain_done w x z)
spoken_row w (AskPeer p) = spoken_plain (ask_peer w p) tt
spoken_row w (Gathered p k found) = spoken_gathered w p k found
spoken_row w (GatherFailed p k) = spoken_gathered w p k []
spoken_row w (DataLost x) = spoken_plain (lose_data w x) (refl, tt)

-- ## The turn

asking : ℕ → List ℕ → List Instruction
asking seen ks = map (λ k. Send (RequestRefreshWhoHas seen k)) ks

absent_each : (w : WorkerFacts) → AllByRecursion (λ k. w.mem k ≡ false) (unasked_keys w)
unfolding unasked_keys
absent_each w = each (worker_keys w)
  where
    each : (ks : List ℕ) → AllByRecursion (λ k. w.mem k ≡ false) (filter (λ k. is_missing_state (wstate w k) && not (w.asked k)) ks)
    each [] = tt
    each (k ∷ ks) = pick (is_missing_state (wstate w k) && not (w.asked k)) refl (each ks)
      where
        pick : (b : Bool) → (is_missing_state (wstate w k) && not (w.asked k)) ≡ b → AllByRecursion (λ k. w.mem k ≡ false) (filter (λ k. is_missing_state (wstate w k) && not (w.asked k)) ks)
            → AllByRecursion (λ k. w.mem k ≡ false) (cond b (k ∷ filter (λ k. is_missing_state (wstate w k) && not (w.asked k)) ks) (filter (λ k. is_missing_state (wstate w k) && not (w.asked k)) ks))
        pick true e r = (missing_absent w k (and_parts (is_missing_state (wstate w k)) (not (w.asked k)) e).0, r)
        pick false e r = r

asks_asking : (mem : ℕ → Bool) (seen : ℕ) (ks : List ℕ) → AllByRecursion (λ k. mem k ≡ false) ks → Questions mem (map (λ k. Send (RequestRefreshWhoHas seen k)) ks)
asks_asking mem seen [] h = tt
asks_asking mem seen (k ∷ ks) h = ((refl, λ q e. ap mem (sym (eqb-true k q e)) ∙ h.0), asks_asking mem seen ks h.1)

pub spoken_step : (w : WorkerFacts) (e : WorkerEvent) → IsSpoken (worker_step w e)
unfolding worker_step
spoken_step w e = by (worker_row w e) (spoken_row w e)
  where
    by : (s : WorkerStep) → IsSpoken s → IsSpoken (seek_missing s)
    by s h = record {
      first = h.first;
      last = h.last ++ map (λ k. Send (RequestRefreshWhoHas s.facts.seen k)) (unasked_keys s.facts);
      both = ap (λ l. l ++ map (λ k. Send (RequestRefreshWhoHas s.facts.seen k)) (unasked_keys s.facts)) h.both ∙ append_assoc h.first h.last (map (λ k. Send (RequestRefreshWhoHas s.facts.seen k)) (unasked_keys s.facts));
      plain = h.plain;
      asks = questions_both s.facts.mem h.last (map (λ k. Send (RequestRefreshWhoHas s.facts.seen k)) (unasked_keys s.facts)) h.asks (asks_asking s.facts.mem s.facts.seen (unasked_keys s.facts) (absent_each s.facts));
    }

-- ## As the scheduler will hear it

question_of : (k : ℕ) (m : Up) → is_question m ≡ false → questions k m ≡ true → ⊥
question_of k (MissingData seen q x c) n e = true≢false n
question_of k (RequestRefreshWhoHas seen q) n e = true≢false n
question_of k (TaskFinished seen q a) n e = false≢true e
question_of k (TaskErred seen q a) n e = false≢true e
question_of k (AddKeys seen ks) n e = false≢true e
question_of k (ReleaseWorkerData seen q) n e = false≢true e
question_of k (StealResponse seen q a agreed) n e = false≢true e

only_asks : (mem : ℕ → Bool) (ys : List Up) → AllByRecursion (λ m. (is_question m ≡ true) × ((k : ℕ) → questions k m ≡ true → mem k ≡ false)) ys → OnlyQuestions ys
only_asks mem [] h = tt
only_asks mem (y ∷ ys) h = (h.0.0, only_asks mem ys h.1)

asks_last : (mem : ℕ → Bool) (xs ys : List Up) → AllByRecursion (λ m. is_question m ≡ false) xs → AllByRecursion (λ m. (is_question m ≡ true) × ((k : ℕ) → questions k m ≡ true → mem k ≡ false)) ys → AsksLast (xs ++ ys)
asks_last mem [] [] h g = tt
asks_last mem [] (y ∷ ys) h g = (λ e. only_asks mem ys g.1, asks_last mem [] ys tt g.1)
asks_last mem (x ∷ xs) ys h g = (λ e. absurd (true≢false (sym e ∙ h.0)), asks_last mem xs ys h.1 g)

asks_for : (mem : ℕ → Bool) (k : ℕ) (xs ys : List Up) → AllByRecursion (λ m. is_question m ≡ false) xs → AllByRecursion (λ m. (is_question m ≡ true) × ((k : ℕ) → questions k m ≡ true → mem k ≡ false)) ys → AsksFor (mem k) k (xs ++ ys)
asks_for mem k [] [] h g = tt
asks_for mem k [] (y ∷ ys) h g = (λ e. g.0.1 k e, asks_for mem k [] ys tt g.1)
asks_for mem k (x ∷ xs) ys h g = (λ e. absurd (question_of k x h.0 e), asks_for mem k xs ys h.1 g)

pub turn_asks : (w : WorkerFacts) (e : WorkerEvent) (k : ℕ) → AsksLast (sends (worker_step w e).out) × AsksFor ((worker_step w e).facts.mem k) k (sends (worker_step w e).out)
turn_asks w e k = by (spoken_step w e)
  where
    by : IsSpoken (worker_step w e) → AsksLast (sends (worker_step w e).out) × AsksFor ((worker_step w e).facts.mem k) k (sends (worker_step w e).out)
    by h = (subst AsksLast (sym split) (asks_last (worker_step w e).facts.mem (sends h.first) (sends h.last) h.plain h.asks), subst (AsksFor ((worker_step w e).facts.mem k) k) (sym split) (asks_for (worker_step w e).facts.mem k (sends h.first) (sends h.last) h.plain h.asks))
      where
        split : sends (worker_step w e).out ≡ sends h.first ++ sends h.last
        split = ap sends h.both ∙ sends_append h.first h.last
