-- What the closed nodes tell of a run.
use Rattle.std.proofs.Common.{◌≡◌, ◌⊎◌, ◌∙◌, ⊎_elim, ℕ, ◌+◌, ◌*◌, ◌^◌, ◌<◌, ◌≤◌, Bool, true, false, List, [], ◌∷◌, ◌++◌, map, length, get_or, sym, ap, subst, arith}
use Rattle.std.specs.Prelude.{All, Option, Some, None, IfOk, IfSome, is_some, Result, Ok, Err}
use Rattle.std.proofs.lemmas.List.{length-map, get_or-map}
use Rattle.std.proofs.lemmas.List.Elements.{All-contains}
use Rattle.cluster_msgs.specs.Labels.{LabelFacts}
use Rattle.cluster_msgs.specs.Shape.{Shape}
use Rattle.cluster_msgs.specs.declared.events.Entry.{Entry}
use Rattle.cluster_msgs.specs.declared.events.History.{History}
use Rattle.cluster_rules.specs.Sched.{Facts, sched_opening}
use Rattle.cluster_rules.specs.Worker.{WorkerFacts, new_worker}
use Rattle.cluster_rules.specs.Client.{ClientFacts, new_client}
use Rattle.scheduler_core.specs.Cores.{facts}
use Rattle.turn_cell.specs.Histories.{Ascending, Replays}
use Rattle.turn_cell.specs.Rows.{AllBy}
use Rattle.node_links.specs.Books.{BookState, Logged, IsLogOf, IsNext, IsWithin, history_bytes}
use Rattle.node_states.specs.Machines.{SchedState, scheduler_bytes, node_bytes}
use Rattle.node_states.specs.Order.{AreInTime, start_of}
use Rattle.node_states.specs.declared.why.Why.{Why}
use Rattle.node_runner.specs.declared.plan.RunPlan.{RunPlan}
use Rattle.node_runner.specs.declared.ends.RunStatus.{RunStatus}
use Rattle.node_runner.specs.declared.ends.RunStatus.TheVariants.{Zero, Killed, Read, Events, Memory}
use Rattle.node_runner.specs.declared.ends.Failure.{Failure}
use Rattle.node_runner.specs.declared.ends.Doubt.{Doubt}
use Rattle.node_runner.specs.declared.ends.Doubt.TheVariants as doubt
use Rattle.node_runner.specs.declared.ends.Histories.{Histories}
use Rattle.node_runner.specs.Runs.{IsBookOf, IsTakenFrom, IsFromScheduler, IsFromWorker, IsFromClient, IsHistory, IsNextStep, IsSchedulersBook, IsWorkersBook, IsClientsBook}
use Rattle.node_runner.specs.Runs.{WorkerSteps, ClientSteps, SchedSteps, WorkerCoreSteps, ClientCoreSteps, SchedCoreSteps}
use Rattle.node_runner.specs.Runs.{AreWhole, IsSpent, last_facts, IsDoubt, IsDoubtBy, IsFailure, IsGivenUp, IsLeft, HasCause, HasGot, IfStatus, IsBlamed, HasRun, course_of, setting_of}
use Rattle.node_runner.proofs.Places.{all_by_through}
use Rattle.node_runner.proofs.Replaying.{replays_on}

-- the first entry that was left out comes after those of a book
next_step : {C F : Type 0} (view : C → F) (inner : C → Entry → C → Type 0) (steps : F → Entry → F → Type 0) (first : F) (b : BookState C) (es : List Entry) (cut : Option Entry)
    → es ≡ b.entries → IsBookOf view inner steps first b → IsNext inner b.kept cut → IsNextStep steps first es cut
next_step view inner steps first b es None same book next = tt
next_step view inner steps first b es (Some e) same book next = (
  view next.0,
  subst (λ xs. Replays steps first (xs ++ e ∷ []) (view next.0)) (sym same)
      (replays_on steps first b.entries (view b.kept) (e ∷ []) (view next.0) book.replays (book.onward e next.0 next.1)),
)

-- a book's log as a history
pub taken_from : {C : Type 0} (limit : ℕ) (inner : C → Entry → C → Type 0) (taken : C → ℕ) (b : BookState C) (l : Logged) (h : History) → IsLogOf (λ n. n ≡ limit) inner taken b l
    → (h.entries ≡ l.entries) × (h.cut ≡ l.cut) → IsWithin l.limit h.entries h.cut → IsTakenFrom limit inner taken b h
taken_from limit inner taken b l h log same within = record {
  entries = same.0 ∙ log.entries_are;
  cut = ap is_some same.1 ∙ log.cut_is;
  next = subst (IsNext inner b.kept) (sym same.1) log.next;
  last = log.last;
  few = subst (λ (es : List Entry). taken b.kept ≤ length es) (sym same.0) log.few;
  within = subst (λ n. IsWithin n h.entries h.cut) log.limit_is within;
}

-- a history that was taken from a closed node's book
pub history_is : {C F : Type 0} (limit : ℕ) (view : C → F) (inner : C → Entry → C → Type 0) (taken : C → ℕ) (steps : F → Entry → F → Type 0) (first : F) (b : BookState C) (h : History)
    → IsBookOf view inner steps first b → IsTakenFrom limit inner taken b h → IsHistory limit steps first (view b.core) h
history_is limit view inner taken steps first b h book from = record {
  replays = λ none. subst (λ es. Replays steps first es (view b.core)) (sym from.entries)
      (subst (λ c. Replays steps first b.entries (view c)) (from.last (sym from.cut ∙ ap is_some none)) book.replays);
  next = next_step view inner steps first b h.entries h.cut from.entries book from.next;
  ascending = subst Ascending (sym from.entries) book.ascending;
  within = from.within;
}

module _ {B : Type 0} (l : LabelFacts B) (graph : Shape) (p : RunPlan) where
  -- the histories of the workers, by number
  pub workers_are : {W C : Type 0} (book : W → BookState C) (number : C → ℕ) (core : C → WorkerFacts) (taken : C → ℕ) (ws : List W) (hs : List History)
      → ((k : ℕ) (w : W) → k < length ws → IsWorkersBook l graph p.threads (k + 1) number core (book (get_or ws k w)))
      → AllBy (λ k w h. IsFromWorker l number core taken (book w) h) ws hs
      → AllBy (λ k w x. IsHistory node_bytes (WorkerSteps l (k + 1)) (new_worker graph (k + 1) p.threads) w x) (map (λ w. core (book w).core) ws) hs
  workers_are book number core taken [] hs books from = record { long = from.long; each = λ k a b less. absurd (omega (arith, from.long)) }
  workers_are book number core taken (w ∷ ws) hs books from = record {
    long = from.long ∙ sym (length-map (w ∷ ws) (λ v. core (book v).core));
    each = λ k a b less. let short : k < length (w ∷ ws) = omega (arith, from.long) in
        subst (λ v. IsHistory node_bytes (WorkerSteps l (k + 1)) (new_worker graph (k + 1) p.threads) v (get_or hs k b)) (sym (get_or-map (λ v. core (book v).core) (w ∷ ws) k w a short))
        (history_is node_bytes core (WorkerCoreSteps l number core) taken (WorkerSteps l (k + 1)) (new_worker graph (k + 1) p.threads) (book (get_or (w ∷ ws) k w)) (get_or hs k b)
        (books k w short).book (from.each k w b less));
  }

  -- the scheduler's entries come in time
  pub in_time_is : (b : BookState SchedState) (h : History) → IsSchedulersBook l graph p b → IsFromScheduler l b h
      → (b.cut ≡ false → AreInTime b.core.plan (start_of (facts b.core.core).setting) b.entries)
      → h.cut ≡ None → AreInTime (course_of p) (start_of (setting_of graph p)) h.entries
  in_time_is b h book taken timed none =
      let open_still : b.cut ≡ false = sym taken.cut ∙ ap is_some none in
      let same : b.core ≡ b.kept = sym (taken.last open_still) in
      subst (λ es. AreInTime (course_of p) (start_of (setting_of graph p)) es) (sym taken.entries)
      (subst (λ s. AreInTime (course_of p) (start_of s) b.entries) (ap (λ (c : SchedState). (facts c.core).setting) same ∙ book.setting_is)
      (subst (λ q. AreInTime q (start_of (facts b.core.core).setting) b.entries) (ap (λ (c : SchedState). c.plan) same ∙ book.plan_is) (timed open_still)))

  -- why the workers left, by their histories
  pub left_is : {W C : Type 0} (limit : ℕ) (inner : C → Entry → C → Type 0) (taken : C → ℕ) (f : Facts) (book : W → BookState C) (ws : List W) (hs : List History) (left : List (Option Why))
      → AllBy (λ k w o. IfSome o (IsLeft p f (k + 1) (book w).entries (book w).cut)) ws left
      → AllBy (λ k w h. IsTakenFrom limit inner taken (book w) h) ws hs
      → AllBy (λ k h o. IfSome o (IsLeft p f (k + 1) h.entries (is_some h.cut))) hs left
  left_is limit inner taken f book ws hs left rows from = all_by_through (λ k w o. IfSome o (IsLeft p f (k + 1) (book w).entries (book w).cut)) (λ w h. IsTakenFrom limit inner taken (book w) h)
      (λ k h o. IfSome o (IsLeft p f (k + 1) h.entries (is_some h.cut))) ws hs left
      (λ k w h o row own. subst (λ (z : List Entry × Bool). IfSome o (IsLeft p f (k + 1) z.0 z.1)) (λ j. (sym own.entries j, sym own.cut j)) row) rows from

-- each entry counts 48 bytes at least
bytes_of : (es : List Entry) → 48 * length es ≤ history_bytes es
bytes_of [] = omega arith
bytes_of (e ∷ es) = let r = bytes_of es in omega (arith, r)

-- the core of a node that left no entry out is not spent
unspent : {C : Type 0} (limit : ℕ) (inner : C → Entry → C → Type 0) (taken : C → ℕ) (b : BookState C) (h : History) → IsTakenFrom limit inner taken b h → limit ≤ 2 ^ 28
    → 2 ^ 40 ≤ taken b.core → h.cut ≡ None → ⊥
unspent limit inner taken b h from small spent none =
    let same = ap taken (from.last (sym from.cut ∙ ap is_some none)) in
    let many = bytes_of h.entries in
    omega (arith, same, many, spent, small, from.few, from.within.within)

-- nor is that of any worker
unspent_workers : {W C : Type 0} (limit : ℕ) (inner : C → Entry → C → Type 0) (taken : C → ℕ) (book : W → BookState C) (ws : List W) (hs : List History)
    → AllBy (λ k w h. IsTakenFrom limit inner taken (book w) h) ws hs → limit ≤ 2 ^ 28 → All (λ (x : History). x.cut ≡ None) hs → All (λ w. 2 ^ 40 ≤ taken (book w).core → ⊥) ws
unspent_workers limit inner taken book ws [] from small none = λ k d less. absurd (omega (arith, from.long, less))
unspent_workers limit inner taken book ws (h ∷ hs) from small none = λ k d less spent.
    let short : k < length (h ∷ hs) = omega (arith, from.long, less) in
    unspent limit inner taken (book (get_or ws k d)) (get_or (h ∷ hs) k h) (from.each k d h short) small spent (none k h short)

-- the history of a node whose core is spent has passed its limit
cut_by : {B W C D : Type 0} (l : LabelFacts B) (b : BookState SchedState) (book : W → BookState C) (number : C → ℕ) (core : C → WorkerFacts) (taken : C → ℕ) (ws : List W) (d : BookState D)
    (name : D → ℕ) (client : D → ClientFacts) (asked : D → ℕ) (h : Histories)
    → IsFromScheduler l b h.scheduler → AllBy (λ k w x. IsFromWorker l number core taken (book w) x) ws h.workers.items → IsFromClient l name client asked d h.client
    → IsSpent b book taken ws d asked → AreWhole h → ⊥
cut_by l b book number core taken ws d name client asked h of_scheduler of_workers of_client spent none = ⊎_elim
    (λ s. unspent scheduler_bytes (SchedCoreSteps l) (λ s. s.core.taken) b h.scheduler of_scheduler (omega arith) s none.scheduler)
    (λ o. ⊎_elim
    (λ w. All-contains (λ w. 2 ^ 40 ≤ taken (book w).core → ⊥) ws w.0
    (unspent_workers node_bytes (WorkerCoreSteps l number core) taken book ws h.workers.items of_workers (omega arith) none.workers) w.1 w.2)
    (λ c. unspent node_bytes (ClientCoreSteps l name client) asked d h.client of_client (omega arith) c none.client) o)
    spent.is

-- the cause of there being no blocks
pub cause_is : {A B : Type 0} (l : LabelFacts B) (p : RunPlan) (wanted : List ℕ) (f : Facts) (left : List (Option Why)) (failed : Option Failure) (spent : Bool) (Cut : Type 0) (r : Result A RunStatus)
    → IfStatus (IsBlamed failed spent) r → IfSome failed (IsFailure l p wanted f) → (spent ≡ true → Cut) → IfStatus (HasCause l p wanted f left ⊥ Cut) r
cause_is l p wanted f left failed spent Cut (Ok x) is some cut = tt
cause_is l p wanted f left failed spent Cut (Err (Zero key)) is some cut = subst (λ o. IfSome o (IsFailure l p wanted f)) is some
cause_is l p wanted f left failed spent Cut (Err (Killed key losses)) is some cut = absurd is
cause_is l p wanted f left failed spent Cut (Err Read) is some cut = absurd is
cause_is l p wanted f left failed spent Cut (Err Events) is some cut = cut is
cause_is l p wanted f left failed spent Cut (Err Memory) is some cut = tt

-- what else than want of memory the run may have ended by
pub doubt_is : {B : Type 0} (l : LabelFacts B) (p : RunPlan) (wanted : List ℕ) (f : Facts) (left : List (Option Why)) (failed : Option Failure) (d : Doubt)
    → IfSome failed (IsFailure l p wanted f) → IsDoubtBy failed left (IsGivenUp f left) d → IsDoubt l p wanted f left d
doubt_is l p wanted f left failed doubt.Memory some by = tt
doubt_is l p wanted f left failed doubt.GivenUp some by = by
doubt_is l p wanted f left failed (doubt.Killed key losses) some by = (subst (λ o. IfSome o (IsFailure l p wanted f)) by.0 some, by.1)

-- how a run ended, by the closed nodes and what was taken from them
pub has_run : {B W C D A : Type 0} (l : LabelFacts B) (graph : Shape) (p : RunPlan) (wanted : List ℕ) (b : BookState SchedState)
    (book : W → BookState C) (number : C → ℕ) (core : C → WorkerFacts) (taken : C → ℕ) (ws : List W) (d : BookState D) (name : D → ℕ) (client : D → ClientFacts) (asked : D → ℕ) (h : Histories) (left : List (Option Why))
    (failed : Option Failure) (spent : Bool) (r : Result A RunStatus)
    → IsSchedulersBook l graph p b
    → ((k : ℕ) (w : W) → k < length ws → IsWorkersBook l graph p.threads (k + 1) number core (book (get_or ws k w)))
    → IsClientsBook l graph name client d
    → IsFromScheduler l b h.scheduler → AllBy (λ k w x. IsFromWorker l number core taken (book w) x) ws h.workers.items → IsFromClient l name client asked d h.client
    → (b.cut ≡ false → AreInTime b.core.plan (start_of (facts b.core.core).setting) b.entries)
    → AllBy (λ k w o. IfSome o (IsLeft p (facts b.core.core) (k + 1) (book w).entries (book w).cut)) ws left
    → IfOk r (λ x. HasGot (client d.core) d.entries d.cut wanted)
    → IfStatus (IsBlamed failed spent) r → IfSome failed (IsFailure l p wanted (facts b.core.core)) → (spent ≡ true → IsSpent b book taken ws d asked)
    → HasRun l graph p wanted ⊥ (last_facts (facts b.core.core) (map (λ w. core (book w).core) ws) (client d.core)) r left h
has_run l graph p wanted b book number core taken ws d name client asked h left failed spent r scheduler workers clients of_scheduler of_workers of_client timed rows gets blamed some full = record {
  histories = record {
    scheduler = history_is scheduler_bytes (λ c. facts c.core) (SchedCoreSteps l) (λ s. s.core.taken) (SchedSteps l) (sched_opening (setting_of graph p)) b h.scheduler scheduler.book of_scheduler;
    workers = workers_are l graph p book number core taken ws h.workers.items workers of_workers;
    client = history_is node_bytes client (ClientCoreSteps l name client) asked (ClientSteps l) (new_client graph) d h.client clients.book of_client;
    in_time = in_time_is l graph p b h.scheduler scheduler of_scheduler timed;
  };
  left_are = left_is l graph p node_bytes (WorkerCoreSteps l number core) taken (facts b.core.core) book ws h.workers.items left rows of_workers;
  got = subst (λ (z : List Entry × Bool). IfOk r (λ x. HasGot (client d.core) z.0 z.1 wanted)) (λ j. (sym of_client.entries j, sym of_client.cut j)) gets;
  cause = cause_is l p wanted (facts b.core.core) left failed spent (AreWhole h → ⊥) r blamed some
      (λ yes. cut_by l b book number core taken ws d name client asked h of_scheduler of_workers of_client (full yes));
}

-- what is known of what is there
pub if_told : {A : Type 0} (P Q : A → Type 0) (o : Option A) → IfSome o P → ((a : A) → P a → Q a) → IfSome o Q
if_told P Q None p f = tt
if_told P Q (Some a) p f = f a p

-- what a run that ended well had found true
pub true_there : {A E : Type 0} (P : Type 0) (b : Bool) (r : Result A E) → (b ≡ true → P) → IfOk r (λ x. b ≡ true) → IfOk r (λ x. P)
true_there P b (Ok x) f is = f is
true_there P b (Err e) f is = tt

-- a run is told to have ended well only where it did
pub ok_told : {A E : Type 0} (P : Type 0) (r s : Result A E) → IfOk s (λ x. r ≡ Ok x) → IfOk r (λ x. P) → IfOk s (λ x. P)
ok_told P r (Ok x) is p = subst (λ z. IfOk z (λ y. P)) is p
ok_told P r (Err e) is p = tt
