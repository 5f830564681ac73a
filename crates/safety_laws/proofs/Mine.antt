-- A worker has no task of a key that isn't there.
use Rattle.std.proofs.Common.{◌≡◌, ℕ, ◌+◌, ◌<◌, ◌≤◌, Bool, true, false, cond, ◌&&◌, List, [], ◌∷◌, Option, None, refl, arith}
use Rattle.std.proofs.lemmas.Bool.{true≢false, ltb-true, and_parts}
use Rattle.std.proofs.Math.Dec.{eqb}
use Rattle.small_facts.proofs.Numbers.{unequal_below}
use Rattle.cluster_msgs.specs.Shape.{key_count}
use Rattle.cluster_msgs.specs.declared.messages.Down.{Down}
use Rattle.cluster_msgs.specs.declared.messages.Down.TheVariants.{ComputeTask, FreeKeys, StealRequest, RemoveReplicas, AcquireReplicas, RefreshWhoHas}
use Rattle.cluster_msgs.specs.declared.cores.WorkerEvent.{WorkerEvent}
use Rattle.cluster_msgs.specs.declared.cores.WorkerEvent.TheVariants.{Down as Told, Start, Done, Ask as AskPeer, Gathered, GatherFailed, DataLost}
use Rattle.cluster_rules.specs.Derived.{is_in}
use Rattle.cluster_rules.specs.Worker.{WorkerFacts}
use Rattle.cluster_rules.specs.WorkerStep.{worker_step, is_key, takes_down, are_named, worker_takes}
use Rattle.pair_machine.specs.Pair.{Note, Task, Free, Remove, Ask, Other, is_at, Pair}
use Rattle.pair_machine.specs.Moves.{take_note, take_remove, take_ask, opening}
use Rattle.pair_moves.specs.Projection.{note_of}
use Rattle.pair_moves.proofs.WorkerMoves.{IsClosed, own_keeps, told_keeps, IsOwn}

abbrev NoTask : Note → Type 0
NoTask (Task a) = ⊥
NoTask Free = Unit {0}
NoTask Remove = Unit {0}
NoTask (Ask a) = Unit {0}
NoTask Other = Unit {0}

abbrev NoTasks : List Note → Type 0
NoTasks [] = Unit {0}
NoTasks (n ∷ ns) = NoTask n × NoTasks ns

abbrev IsTaskless : Pair → Type 0
IsTaskless p = (p.mine ≡ None) × NoTasks p.down

left_by : (agrees : Bool) (seen : ℕ) (mem : Bool) (mine : Option ℕ) (n : Note) → NoTask n → mine ≡ None → (take_note agrees seen mem mine n).mine ≡ None
left_by agrees seen mem mine (Task a) t e = absurd t
left_by agrees seen mem mine Free t e = refl
left_by agrees seen true mine Remove t e = pick agrees
  where
    pick : (b : Bool) → (take_remove seen true mine b).mine ≡ None
    pick true = e
    pick false = e
left_by agrees seen false mine Remove t e = e
left_by agrees seen mem mine (Ask a) t e = pick (is_at a mine && agrees)
  where
    pick : (b : Bool) → (take_ask mem mine a b).mine ≡ None
    pick true = refl
    pick false = e
left_by agrees seen mem mine Other t e = e

closed : IsClosed IsTaskless (λ _. Unit {0})
closed = record {
  finish = λ p a e x. (refl, x.1);
  fail = λ p a e x. (refl, x.1);
  store = λ p m e x. x;
  lose = λ p m x. x;
  say = λ p x. x;
  takes = λ agrees p n ns y x. (left_by agrees (p.seen + 1) p.mem p.mine n x.1.0 x.0, x.1.1);
}

no_task : (w : WorkerFacts) (m : Down) (k : ℕ) → takes_down w m ≡ true → key_count w.shape ≤ k → NoTask (note_of k m)
no_task w (ComputeTask q a who) k t l = let m : q < key_count w.shape = ltb-true q (key_count w.shape) (and_parts (is_key w q) (are_named w who) t).0 in pick (eqb q k) (unequal_below q k (omega (arith, m, l)))
  where
    pick : (b : Bool) → b ≡ false → NoTask (cond b (Task a) Other)
    pick true e = absurd (true≢false e)
    pick false e = tt
no_task w (FreeKeys ks) k t l = pick (is_in k ks)
  where
    pick : (b : Bool) → NoTask (cond b Free Other)
    pick true = tt
    pick false = tt
no_task w (StealRequest q a) k t l = pick (eqb q k)
  where
    pick : (b : Bool) → NoTask (cond b (Ask a) Other)
    pick true = tt
    pick false = tt
no_task w (RemoveReplicas ks) k t l = pick (is_in k ks)
  where
    pick : (b : Bool) → NoTask (cond b Remove Other)
    pick true = tt
    pick false = tt
no_task w (AcquireReplicas who) k t l = tt
no_task w (RefreshWhoHas who) k t l = tt

told_mine : (w : WorkerFacts) (m : Down) (k : ℕ) → worker_takes w (Told m) ≡ true → key_count w.shape ≤ k → w.mine k ≡ None → (worker_step w (Told m)).facts.mine k ≡ None
unfolding worker_takes
told_mine w m k t l e = (told_keeps IsTaskless (λ _. Unit {0}) closed k w m t (λ _. tt) opening [] (e, (no_task w m k t l, tt))).0

own_mine : (w : WorkerFacts) (e : WorkerEvent) (k : ℕ) → IsOwn IsTaskless (λ _. Unit {0}) closed k e → worker_takes w e ≡ true → w.mine k ≡ None → (worker_step w e).facts.mine k ≡ None
own_mine w e k o t n = (own_keeps IsTaskless (λ _. Unit {0}) closed k w e o t opening (n, tt)).0

pub mine_inside : (w : WorkerFacts) (e : WorkerEvent) (k : ℕ) → worker_takes w e ≡ true → key_count w.shape ≤ k → w.mine k ≡ None → (worker_step w e).facts.mine k ≡ None
mine_inside w (Told m) k t l n = told_mine w m k t l n
mine_inside w Start k t l n = own_mine w Start k tt t n
mine_inside w (Done q z) k t l n = own_mine w (Done q z) k tt t n
mine_inside w (AskPeer p) k t l n = own_mine w (AskPeer p) k tt t n
mine_inside w (Gathered p m found) k t l n = own_mine w (Gathered p m found) k tt t n
mine_inside w (GatherFailed p m) k t l n = own_mine w (GatherFailed p m) k tt t n
mine_inside w (DataLost q) k t l n = own_mine w (DataLost q) k tt t n
