-- A worker gives up its attempts: no event of a worker but a task that it is given makes it have one.
use Rattle.std.proofs.Common.{◌≡◌, ℕ, ◌+◌, Bool, true, false, cond, ◌&&◌, List, [], ◌∷◌, ◌++◌, Option, None, refl, sym, ap, ◌∙◌, subst, ◌⊎◌, inl, inr}
use Rattle.std.specs.List.{AllByRecursion}
use Rattle.std.proofs.lemmas.Bool.{true≢false, false≢true}
use Rattle.cluster_msgs.specs.declared.messages.Down.{Down}
use Rattle.cluster_msgs.specs.declared.cores.WorkerEvent.{WorkerEvent}
use Rattle.cluster_msgs.specs.declared.cores.WorkerEvent.TheVariants.{Down as Told, Start as StartTask, Done, Ask as AskPeer, Gathered, GatherFailed, DataLost}
use Rattle.cluster_rules.specs.Worker.{WorkerFacts, has_any}
use Rattle.cluster_rules.specs.WorkerStep.{worker_step, worker_takes}
use Rattle.pair_machine.specs.Pair.{Note, Task, Free, Remove, Ask, Other, Report, Finished, Erred, Gave, Declined, Added, Released, Quiet, is_at, heard, view, told, expect, Clean, Pair}
use Rattle.pair_machine.specs.Moves.{take_note, take_ask}
use Rattle.pair_moves.specs.Projection.{note_of, notes}
use Rattle.pair_moves.proofs.WorkerMoves.{IsClosed, own_keeps, told_keeps, IsOwn}
use Rattle.quiet_measure.specs.Turns.{is_vain}
use Rattle.quiet_laws.specs.Calm.{GivesUpBefore}
use Rattle.quiet_laws.proofs.Lifted.{is_told}

-- the attempt is the same, or gone
abbrev pub OrNone : Option ℕ → Option ℕ → Type 0
OrNone a b = (b ≡ a) ⊎ (b ≡ None)

none_then : (a b : Option ℕ) → OrNone a b → a ≡ None → b ≡ None
none_then a b (inl e) n = e ∙ n
none_then a b (inr e) n = e

told_less : (n : Note) (v u : Bool × Option ℕ) → OrNone v.1 u.1 → OrNone (told n v).1 (told n u).1
told_less (Task a) v u r = inl refl
told_less Free v u r = inl refl
told_less Remove v u r = inl refl
told_less (Ask a) v u r = r
told_less Other v u r = r

pub gives_less : (k q : ℕ) (v u : Bool × Option ℕ) (ms : List Down) → OrNone v.1 u.1 → GivesUpBefore k q v ms → GivesUpBefore k q u ms
gives_less k q v u [] r h = tt
gives_less k q v u (m ∷ ms) r h = (λ e. none_then v.1 u.1 r (h.0 e), gives_less k q (told (note_of q m) v) (told (note_of q m) u) ms (told_less (note_of q m) v u r) h.1)

pub gives_join : (k q : ℕ) (v : Bool × Option ℕ) (xs ys : List Down) → GivesUpBefore k q v xs → GivesUpBefore k q (expect (notes q xs) v) ys → GivesUpBefore k q v (xs ++ ys)
gives_join k q v [] ys h g = g
gives_join k q v (m ∷ ms) ys h g = (h.0, gives_join k q (told (note_of q m) v) ms ys h.1 g)

pub gives_never : (k q : ℕ) (v : Bool × Option ℕ) (ms : List Down) → AllByRecursion (λ m. is_vain k m ≡ false) ms → GivesUpBefore k q v ms
gives_never k q v [] h = tt
gives_never k q v (m ∷ ms) h = (λ e. absurd (false≢true (sym h.0 ∙ e)), gives_never k q (told (note_of q m) v) ms h.1)

pub expect_join : (q : ℕ) (v : Bool × Option ℕ) (xs ys : List Down) → expect (notes q (xs ++ ys)) v ≡ expect (notes q ys) (expect (notes q xs) v)
expect_join q v [] ys = refl
expect_join q v (m ∷ ms) ys = expect_join q (told (note_of q m) v) ms ys

-- who counts no attempt counts none once it has heard what is under way
heard_none : (f : ℕ) (r : Report) (v : Bool × Option ℕ) → v.1 ≡ None → (heard f r v).1 ≡ None
heard_none f (Finished a) v e = pick (is_at a v.1)
  where
    pick : (b : Bool) → (cond {A = Bool × Option ℕ} b (true, None) v).1 ≡ None
    pick true = refl
    pick false = e
heard_none f (Erred a) v e = pick (is_at a v.1)
  where
    pick : (b : Bool) → (cond {A = Bool × Option ℕ} b (v.0, None) v).1 ≡ None
    pick true = refl
    pick false = e
heard_none f (Gave a) v e = pick (is_at a v.1)
  where
    pick : (b : Bool) → (cond {A = Bool × Option ℕ} b (v.0, None) v).1 ≡ None
    pick true = refl
    pick false = e
heard_none f (Declined a) v e = e
heard_none f (Added u) v e = e
heard_none f (Released u) v e = e
heard_none f Quiet v e = e

pub view_none : (f : ℕ) (rs : List Report) (v : Bool × Option ℕ) → v.1 ≡ None → (view f rs v).1 ≡ None
view_none f [] v e = e
view_none f (r ∷ rs) v e = view_none f rs (heard f r v) (heard_none f r v e)

-- ## A worker's event

abbrev pub is_remove : Note → Bool
is_remove Remove = true
is_remove (Task a) = false
is_remove Free = false
is_remove (Ask a) = false
is_remove Other = false

is_empty_of : (n : Note) (ns : List Note) → n ∷ ns ≡ [] → ⊥
is_empty_of n ns e = true≢false (ap has_any e)

abbrev first_of : Note → List Note → Note
first_of n [] = n
first_of n (x ∷ xs) = x

abbrev rest_of : List Note → List Note
rest_of [] = []
rest_of (x ∷ xs) = xs

module _ (n0 : Note) (b0 : Bool) (m0 : Option ℕ) where
  -- the message is still to come, or was taken
  abbrev Before : List Note → Bool → Option ℕ → Type 0
  Before d mem mine = (d ≡ n0 ∷ []) × (OrNone m0 mine) × (mem ≡ true → mine ≡ None) × (is_remove n0 ≡ true → mine ≡ None)

  abbrev Over : List Note → Option ℕ → Type 0
  Over d mine = (d ≡ []) × OrNone (told n0 (b0, m0)).1 mine

  abbrev Either : Pair → Type 0
  Either p = Before p.down p.mem p.mine ⊎ Over p.down p.mine

  made : (agrees : Bool) (seen : ℕ) (n : Note) (mem : Bool) (mine : Option ℕ) → OrNone m0 mine → (mem ≡ true → mine ≡ None) → (is_remove n ≡ true → mine ≡ None) → OrNone (told n (b0, m0)).1 (take_note agrees seen mem mine n).mine
  made agrees seen (Task a) true mine r mm c = inr (mm refl)
  made agrees seen (Task a) false mine r mm c = inl refl
  made agrees seen Free mem mine r mm c = inl refl
  made true seen Remove true mine r mm c = inr (c refl)
  made false seen Remove true mine r mm c = inr (c refl)
  made agrees seen Remove false mine r mm c = inr (c refl)
  made agrees seen (Ask a) mem mine r mm c = pick (is_at a mine && agrees)
    where
      pick : (b : Bool) → OrNone m0 (take_note agrees seen mem mine (Ask a)).mine
      pick b = asked (is_at a mine && agrees)
        where
          asked : (d : Bool) → OrNone m0 (take_ask mem mine a d).mine
          asked true = inr refl
          asked false = r
  made agrees seen Other mem mine r mm c = r

  taken_over : (agrees : Bool) (p : Pair) (n : Note) (ns : List Note) → Either (record p { down = n ∷ ns }) → Over ns (take_note agrees (p.seen + 1) p.mem p.mine n).mine
  taken_over agrees p n ns (inl h) = (
    ap rest_of h.0,
    subst (λ x. OrNone (told x (b0, m0)).1 (take_note agrees (p.seen + 1) p.mem p.mine n).mine) same
        (made agrees (p.seen + 1) n p.mem p.mine h.1 h.2 (λ e. h.3 (ap is_remove (sym same) ∙ e))),
  )
    where
      same : n ≡ n0
      same = ap (λ l. first_of n0 l) h.0
  taken_over agrees p n ns (inr h) = absurd (is_empty_of n ns h.0)

  finished : (p : Pair) → Either p → Either (record p { mem = true; mine = None })
  finished p (inl h) = inl (h.0, inr refl, λ e. refl, λ e. refl)
  finished p (inr h) = inr (h.0, inr refl)

  failed : (p : Pair) → Either p → Either (record p { mine = None })
  failed p (inl h) = inl (h.0, inr refl, λ e. refl, λ e. refl)
  failed p (inr h) = inr (h.0, inr refl)

  stored : (p : Pair) → p.mine ≡ None → Either p → Either (record p { mem = true })
  stored p n (inl h) = inl (h.0, h.1, λ e. n, h.3)
  stored p n (inr h) = inr h

  lost : (p : Pair) → Either p → Either (record p { mem = false })
  lost p (inl h) = inl (h.0, h.1, λ e. absurd (false≢true e), h.3)
  lost p (inr h) = inr h

  pub closed : IsClosed Either (λ o. Unit {0})
  closed = record {
    finish = λ p a e h. finished p h;
    fail = λ p a e h. failed p h;
    store = λ p m e h. stored p e h;
    lose = λ p m h. lost p h;
    say = λ p h. h;
    takes = λ agrees p n ns y h. inr (taken_over agrees p n ns h);
  }

  pub over_of : (mem : Bool) (mine : Option ℕ) → Before [] mem mine ⊎ Over [] mine → OrNone (told n0 (b0, m0)).1 mine
  over_of mem mine (inl h) = absurd (is_empty_of n0 [] (sym h.0))
  over_of mem mine (inr h) = h.1

  pub before_of : (mem : Bool) (mine : Option ℕ) → Before (n0 ∷ []) mem mine ⊎ Over (n0 ∷ []) mine → OrNone m0 mine
  before_of mem mine (inl h) = h.1
  before_of mem mine (inr h) = absurd (is_empty_of n0 [] h.0)

own_of : (I : Pair → Type 0) (Idle : Option ℕ → Type 0) (c : IsClosed I Idle) (k : ℕ) (e : WorkerEvent) → is_told e ≡ false → IsOwn I Idle c k e
own_of I Idle c k (Told m) t = absurd (true≢false t)
own_of I Idle c k StartTask t = tt
own_of I Idle c k (Done q b) t = tt
own_of I Idle c k (AskPeer p) t = tt
own_of I Idle c k (Gathered p n found) t = tt
own_of I Idle c k (GatherFailed p n) t = tt
own_of I Idle c k (DataLost q) t = tt

pub own_less : (x : WorkerFacts) (e : WorkerEvent) (q : ℕ) (p : Pair) → is_told e ≡ false → worker_takes x e ≡ true → (x.mem q ≡ true → x.mine q ≡ None) → OrNone (x.mine q) ((worker_step x e).facts.mine q)
own_less x e q p o t apart = before_of Other false (x.mine q) ((worker_step x e).facts.mem q) ((worker_step x e).facts.mine q)
    (own_keeps (Either Other false (x.mine q)) (λ b. Unit {0}) (closed Other false (x.mine q)) q x e (own_of (Either Other false (x.mine q)) (λ b. Unit {0}) (closed Other false (x.mine q)) q e o) t (record p { down = Other ∷ [] })
    (inl (refl, inl refl, apart, λ e. absurd (false≢true e))))

pub told_off : (x : WorkerFacts) (m : Down) (q : ℕ) (p : Pair) → worker_takes x (Told m) ≡ true → (x.mem q ≡ true → x.mine q ≡ None) → (is_remove (note_of q m) ≡ true → x.mine q ≡ None)
    → OrNone (told (note_of q m) (x.mem q, x.mine q)).1 ((worker_step x (Told m)).facts.mine q)
told_off x m q p t apart clean = over_of (note_of q m) (x.mem q) (x.mine q) ((worker_step x (Told m)).facts.mem q) ((worker_step x (Told m)).facts.mine q)
    (told_keeps (Either (note_of q m) (x.mem q) (x.mine q)) (λ b. Unit {0}) (closed (note_of q m) (x.mem q) (x.mine q)) q x m t (λ e. tt) p [] (inl (refl, inl refl, apart, clean)))

-- a replica to be removed is of no attempt
pub clean_of : (n : Note) (ns : List Note) (o : Option ℕ) → Clean (n ∷ ns) o → is_remove n ≡ true → o ≡ None
clean_of Remove ns o c e = c.0
clean_of (Task a) ns o c e = absurd (false≢true e)
clean_of Free ns o c e = absurd (false≢true e)
clean_of (Ask a) ns o c e = absurd (false≢true e)
clean_of Other ns o c e = absurd (false≢true e)
