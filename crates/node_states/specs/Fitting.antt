-- What of a node fits the label of its run, beside the blocks that it holds and the packets that wait.
use Rattle.std.specs.Prelude.{◌≡◌, ℕ, true, false, List, Some, All}
use Rattle.cluster_msgs.specs.Shape.{deps_of}
use Rattle.cluster_msgs.specs.Labels.{LabelFacts, ErrorFits, BlameFits, UpFits, ToClientFits}
use Rattle.cluster_msgs.specs.declared.messages.ToClient.{ToClient}
use Rattle.cluster_msgs.specs.declared.cores.SchedEvent.{SchedEvent}
use Rattle.cluster_msgs.specs.declared.cores.SchedEvent.TheVariants.{FromWorker}
use Rattle.cluster_msgs.specs.declared.cores.WorkerEvent.{WorkerEvent}
use Rattle.cluster_msgs.specs.declared.cores.WorkerEvent.TheVariants.{Done}
use Rattle.cluster_msgs.specs.declared.cores.ClientEvent.{ClientEvent}
use Rattle.cluster_msgs.specs.declared.cores.ClientEvent.TheVariants.{FromScheduler}
use Rattle.cluster_msgs.specs.declared.cores.Instruction.{Instruction}
use Rattle.cluster_msgs.specs.declared.cores.Instruction.TheVariants.{Send}
use Rattle.cluster_rules.specs.Sched.{Facts, is_above}
use Rattle.cluster_rules.specs.Client.{ClientFacts}

module _ {B : Type 0} (facts : LabelFacts B) where
  -- the scheduler goes by the label's graph and by what it allows, and each key that it counts as bad is faulty, or has lost its worker more often
  pub record SchedFits (f : Facts) : Type 0 where
    pub graph : facts.deps ≡ deps_of f.setting.shape
    pub allowed : facts.allowed ≡ f.setting.allowed
    pub bad : (k : ℕ) → f.bad k ≡ true → is_above f.setting.allowed (f.losses k) ≡ false → ErrorFits facts k

  -- each failure that a client was told has a blame that fits
  pub record ClientFits (c : ClientFacts) : Type 0 where
    pub failed : (k b : ℕ) → c.failed k ≡ Some b → BlameFits facts k b

  -- an event that brings a worker's error, a failure, or the end of a task that met a zero divisor
  abbrev pub SchedEventFits : SchedEvent → Type 0
  SchedEventFits (FromWorker w up) = UpFits facts up
  SchedEventFits _ = Unit {0}

  abbrev pub ClientEventFits : ClientEvent → Type 0
  ClientEventFits (FromScheduler m) = ToClientFits facts m
  ClientEventFits _ = Unit {0}

  abbrev pub WorkerEventFits : WorkerEvent → Type 0
  WorkerEventFits (Done k true) = ErrorFits facts k
  WorkerEventFits _ = Unit {0}

  -- a worker's instruction that reports an error
  abbrev pub InstructionFits : Instruction → Type 0
  InstructionFits (Send up) = UpFits facts up
  InstructionFits _ = Unit {0}

  -- what a worker has to do, and what the scheduler has to tell its clients
  pub record InstructionsFit (out : List Instruction) : Type 0 where
    pub each : All InstructionFits out

  pub record LettersFit (out : List (ℕ × ToClient)) : Type 0 where
    pub each : All (λ m. ToClientFits facts m.1) out
