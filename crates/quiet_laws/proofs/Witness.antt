-- Each question that is under way has a witness: the worker's side as it was when it asked, kept up to date with the scheduler's events.
use Rattle.std.proofs.Common.{◌≡◌, ℕ, ◌+◌, ◌<◌, Bool, true, false, List, [], ◌∷◌, ◌++◌, Option, refl, sym, ap, ◌∙◌, subst, arith, append_assoc, append-nil}
use Rattle.std.specs.List.{AllByRecursion}
use Rattle.std.proofs.lemmas.Bool.{false≢true}
use Rattle.cluster_msgs.specs.declared.messages.Up.{Up}
use Rattle.cluster_msgs.specs.declared.messages.Up.TheVariants.{TaskFinished, TaskErred, AddKeys, ReleaseWorkerData, MissingData, RequestRefreshWhoHas, StealResponse}
use Rattle.cluster_msgs.specs.declared.cores.SchedEvent.{SchedEvent}
use Rattle.cluster_rules.specs.Sched.{Facts, IsSound, keys, holds, connected}
use Rattle.cluster_rules.specs.SchedTable.{sched_takes}
use Rattle.cluster_rules.specs.SchedStep.{sched_step, mail}
use Rattle.cluster_laws.specs.Settled.{IsSettled}
use Rattle.pair_machine.specs.Pair.{Note, Task, Free, Remove, Ask, Other, Report, Quiet, heard, view, told, expect, AllSeen, ends, ended_count, answers, answered_count, Pair, IsPair}
use Rattle.pair_moves.specs.Projection.{report_of, report_in, notes, reports, at_worker, Side, pair_of, IsNumbered}
use Rattle.pair_moves.proofs.Events.{event_keeps}
use Rattle.pair_moves.proofs.WorkerMoves.{reports-append}
use Rattle.safety_laws.specs.Lively.{questions}
use Rattle.safety_laws.proofs.Paired.{quiet_front}
use Rattle.quiet_laws.specs.Calm.{AsksTruly}

pub record Witness (f : Facts) (i k : ℕ) (pre : List Up) : Type 0 where
  pub side : Side
  pub up : side.up ≡ pre
  pub mem : side.mem ≡ false
  pub pair : IsPair (pair_of f i k side)

-- after these messages, each question has its witness
abbrev pub Witnessed : Facts → ℕ → ℕ → List Up → List Up → Type 0
Witnessed f i k pre [] = Unit {0}
Witnessed f i k pre (m ∷ ms) = (questions k m ≡ true → Witness f i k pre) × Witnessed f i k (pre ++ m ∷ []) ms

-- ## What a witness tells

told_false : (n : Note) (v : Bool × Option ℕ) → v.0 ≡ false → (told n v).0 ≡ false
told_false (Task a) v e = refl
told_false Free v e = refl
told_false Remove v e = refl
told_false (Ask a) v e = e
told_false Other v e = e

expect_false : (ns : List Note) (v : Bool × Option ℕ) → v.0 ≡ false → (expect ns v).0 ≡ false
expect_false [] v e = e
expect_false (n ∷ ns) v e = expect_false ns (told n v) (told_false n v e)

view_push : (f k : ℕ) (pre : List Up) (m : Up) (v : Bool × Option ℕ) → view f (reports k (pre ++ m ∷ [])) v ≡ heard f (report_of k m) (view f (reports k pre) v)
view_push f k [] m v = refl
view_push f k (x ∷ pre) m v = view_push f k pre m (heard f (report_of k x) v)

pub truly : (f : Facts) (i k : ℕ) (pre ups : List Up) → Witnessed f i k pre ups → AsksTruly k (f.fence i k) (view (f.fence i k) (reports k pre) (holds f i k, at_worker i (f.on k))) ups
truly f i k pre [] h = tt
truly f i k pre (m ∷ ms) h = (
  λ q. by (h.0 q),
  subst (λ v. AsksTruly k (f.fence i k) v ms) (view_push (f.fence i k) k pre m (holds f i k, at_worker i (f.on k))) (truly f i k (pre ++ m ∷ []) ms h.1),
)
  where
    by : Witness f i k pre → (view (f.fence i k) (reports k pre) (holds f i k, at_worker i (f.on k))).0 ≡ false
    by w = ap (λ l. (view (f.fence i k) (reports k l) (holds f i k, at_worker i (f.on k))).0) (sym w.up) ∙ ap (λ (v : Bool × Option ℕ). v.0) w.pair.agree ∙ expect_false (notes k w.side.down) (w.side.mem, w.side.mine) w.mem

-- ## The scheduler's events

module _ (f : Facts) (s : SchedEvent) (sound : IsSound f) (settled : IsSettled f) (numbered : IsNumbered f) (takes : sched_takes f s ≡ true) (i k : ℕ) (low : k < keys f) (there : connected (sched_step f s).facts i ≡ true) where
  -- that takes no message of the worker
  quiet_witness : report_in s i k ≡ Quiet → (pre : List Up) → Witness f i k pre → Witness (sched_step f s).facts i k pre
  quiet_witness q pre w = record {
    side = record w.side { down = w.side.down ++ mail i (sched_step f s).down };
    up = w.up;
    mem = w.mem;
    pair = event_keeps f s sound settled numbered takes i k w.side low there (subst (λ r. IsPair (record (pair_of f i k w.side) { up = r ∷ reports k w.side.up })) (sym q) (quiet_front (pair_of f i k w.side) w.pair));
  }

  pub quiet_witnessed : report_in s i k ≡ Quiet → (pre ups : List Up) → Witnessed f i k pre ups → Witnessed (sched_step f s).facts i k pre ups
  quiet_witnessed q pre [] h = tt
  quiet_witnessed q pre (m ∷ ms) h = (λ e. quiet_witness q pre (h.0 e), quiet_witnessed q (pre ++ m ∷ []) ms h.1)

  -- that takes the first message of the worker
  heard_witness : (m : Up) → report_in s i k ≡ report_of k m → (pre : List Up) → Witness f i k (m ∷ pre) → Witness (sched_step f s).facts i k pre
  heard_witness m q pre w = record {
    side = record w.side { down = w.side.down ++ mail i (sched_step f s).down; up = pre };
    up = refl;
    mem = w.mem;
    pair = event_keeps f s sound settled numbered takes i k (record w.side { up = pre }) low there
        (subst (λ r. IsPair (record (pair_of f i k w.side) { up = r ∷ reports k pre })) (sym q) (subst (λ l. IsPair (record (pair_of f i k w.side) { up = reports k l })) w.up w.pair));
  }

  pub heard_witnessed : (m : Up) → report_in s i k ≡ report_of k m → (pre ups : List Up) → Witnessed f i k (m ∷ pre) ups → Witnessed (sched_step f s).facts i k pre ups
  heard_witnessed m q pre [] h = tt
  heard_witnessed m q pre (x ∷ xs) h = (λ e. heard_witness m q pre (h.0 e), heard_witnessed m q (pre ++ x ∷ []) xs h.1)

-- ## What the worker says

pub witnessed_join : (f : Facts) (i k : ℕ) (pre xs ys : List Up) → Witnessed f i k pre xs → Witnessed f i k (pre ++ xs) ys → Witnessed f i k pre (xs ++ ys)
witnessed_join f i k pre [] ys h g = subst (λ l. Witnessed f i k l ys) (append-nil pre) g
witnessed_join f i k pre (x ∷ xs) ys h g = (h.0, witnessed_join f i k (pre ++ x ∷ []) xs ys h.1 (subst (λ l. Witnessed f i k l ys) (sym (append_assoc pre (x ∷ []) xs)) g))

abbrev pub is_question : Up → Bool
is_question (MissingData seen q x c) = true
is_question (RequestRefreshWhoHas seen q) = true
is_question (TaskFinished seen q a) = false
is_question (TaskErred seen q a) = false
is_question (AddKeys seen ks) = false
is_question (ReleaseWorkerData seen q) = false
is_question (StealResponse seen q a agreed) = false

abbrev pub OnlyQuestions : List Up → Type 0
OnlyQuestions ms = AllByRecursion (λ m. is_question m ≡ true) ms

-- after a question there are only questions
abbrev pub AsksLast : List Up → Type 0
AsksLast [] = Unit {0}
AsksLast (m ∷ ms) = (is_question m ≡ true → OnlyQuestions ms) × AsksLast ms

-- a question of the key is asked only where it isn't there
abbrev pub AsksFor : Bool → ℕ → List Up → Type 0
AsksFor mem k ms = AllByRecursion (λ m. questions k m ≡ true → mem ≡ false) ms

question_is : (k : ℕ) (m : Up) → questions k m ≡ true → is_question m ≡ true
question_is k (MissingData seen q x c) e = refl
question_is k (RequestRefreshWhoHas seen q) e = refl
question_is k (TaskFinished seen q a) e = absurd (false≢true e)
question_is k (TaskErred seen q a) e = absurd (false≢true e)
question_is k (AddKeys seen ks) e = absurd (false≢true e)
question_is k (ReleaseWorkerData seen q) e = absurd (false≢true e)
question_is k (StealResponse seen q a agreed) e = absurd (false≢true e)

question_quiet : (k : ℕ) (m : Up) → is_question m ≡ true → report_of k m ≡ Quiet
question_quiet k (MissingData seen q x c) e = refl
question_quiet k (RequestRefreshWhoHas seen q) e = refl
question_quiet k (TaskFinished seen q a) e = absurd (false≢true e)
question_quiet k (TaskErred seen q a) e = absurd (false≢true e)
question_quiet k (AddKeys seen ks) e = absurd (false≢true e)
question_quiet k (ReleaseWorkerData seen q) e = absurd (false≢true e)
question_quiet k (StealResponse seen q a agreed) e = absurd (false≢true e)

abbrev AreQuiet : List Report → Type 0
AreQuiet [] = Unit {0}
AreQuiet (r ∷ rs) = (r ≡ Quiet) × AreQuiet rs

questions_quiet : (k : ℕ) (ms : List Up) → OnlyQuestions ms → AreQuiet (reports k ms)
questions_quiet k [] h = tt
questions_quiet k (m ∷ ms) h = (question_quiet k m h.0, questions_quiet k ms h.1)

-- reports that say nothing may be left out
view_quiet : (f : ℕ) (ys : List Report) (v : Bool × Option ℕ) → AreQuiet ys → view f ys v ≡ v
view_quiet f [] v q = refl
view_quiet f (y ∷ ys) v q = ap (λ r. view f ys (heard f r v)) q.0 ∙ view_quiet f ys v q.1

view_front : (f : ℕ) (xs ys : List Report) (v : Bool × Option ℕ) → AreQuiet ys → view f (xs ++ ys) v ≡ view f xs v
view_front f [] ys v q = view_quiet f ys v q
view_front f (x ∷ xs) ys v q = view_front f xs ys (heard f x v) q

seen_front : (s : ℕ) (xs ys : List Report) → AllSeen s (xs ++ ys) → AllSeen s xs
seen_front s [] ys h = tt
seen_front s (x ∷ xs) ys h = (h.0, seen_front s xs ys h.1)

ended_quiet : (a : ℕ) (ys : List Report) → AreQuiet ys → ended_count a ys ≡ 0
ended_quiet a [] q = refl
ended_quiet a (y ∷ ys) q = let e : ends a y ≡ 0 = ap (ends a) q.0 in let r : ended_count a ys ≡ 0 = ended_quiet a ys q.1 in omega arith

ended_front : (a : ℕ) (xs ys : List Report) → AreQuiet ys → ended_count a (xs ++ ys) ≡ ended_count a xs
ended_front a [] ys q = ended_quiet a ys q
ended_front a (x ∷ xs) ys q = ap (λ n. ends a x + n) (ended_front a xs ys q)

answered_quiet : (a : ℕ) (ys : List Report) → AreQuiet ys → answered_count a ys ≡ 0
answered_quiet a [] q = refl
answered_quiet a (y ∷ ys) q = let e : answers a y ≡ 0 = ap (answers a) q.0 in let r : answered_count a ys ≡ 0 = answered_quiet a ys q.1 in omega arith

answered_front : (a : ℕ) (xs ys : List Report) → AreQuiet ys → answered_count a (xs ++ ys) ≡ answered_count a xs
answered_front a [] ys q = answered_quiet a ys q
answered_front a (x ∷ xs) ys q = ap (λ n. answers a x + n) (answered_front a xs ys q)

front_pair : (p : Pair) (xs ys : List Report) → AreQuiet ys → IsPair (record p { up = xs ++ ys }) → IsPair (record p { up = xs })
front_pair p xs ys q h = record {
  places = h.places;
  heard_of = seen_front p.seen xs ys h.heard_of;
  placed = h.placed;
  agree = sym (view_front p.fence xs ys (p.has, p.on) q) ∙ h.agree;
  apart = h.apart;
  once = λ a. let o = h.once a in let e : ended_count a (xs ++ ys) ≡ ended_count a xs = ended_front a xs ys q in omega arith;
  fresh = λ a l. let o = h.fresh a l in let e : ended_count a (xs ++ ys) ≡ ended_count a xs = ended_front a xs ys q in omega arith;
  unasked = λ a l. let o = h.unasked a l in let e : answered_count a (xs ++ ys) ≡ answered_count a xs = answered_front a xs ys q in omega arith;
  older = h.older;
  stolen = λ a e. let o = h.stolen a e in let z : answered_count a (xs ++ ys) ≡ answered_count a xs = answered_front a xs ys q in omega arith;
  clean = h.clean;
}

pub new_witnessed : (f : Facts) (i k : ℕ) (side : Side) (pre ms : List Up) → IsPair (record (pair_of f i k side) { up = reports k (pre ++ ms) }) → AsksLast ms → AsksFor side.mem k ms → Witnessed f i k pre ms
new_witnessed f i k side pre [] h l a = tt
new_witnessed f i k side pre (m ∷ ms) h l a = (
  λ q. record {
    side = record side { up = pre };
    up = refl;
    mem = a.0 q;
    pair = front_pair (pair_of f i k side) (reports k pre) (reports k (m ∷ ms)) (question_quiet k m (question_is k m q), questions_quiet k ms (l.0 (question_is k m q)))
        (subst (λ rs. IsPair (record (pair_of f i k side) { up = rs })) (reports-append k pre (m ∷ ms)) h);
  },
  new_witnessed f i k side (pre ++ m ∷ []) ms (subst (λ l. IsPair (record (pair_of f i k side) { up = reports k l })) (sym (append_assoc pre (m ∷ []) ms)) h) l.1 a.1,
)
