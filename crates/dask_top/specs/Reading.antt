-- What the text of a job is read as, and the texts of a command's sources.
use Rattle.std.specs.Prelude.{◌≡◌, ◌≢◌, ℕ, List, [], ◌∷◌, map, Option, Some, None, Result, Ok, Err, IfSome, IsSome, IsTrue}
use Rattle.io_edge.specs.View.{Files}
use Rattle.job_run.specs.Inputs.{told_all}
use Rattle.job_run.specs.Plan.{Plan}
use Rattle.job_text.specs.declared.error.JobError.{JobError}
use Rattle.job_text.specs.declared.error.JobKind.TheVariants as Kinds
use Rattle.job_text.specs.Jobs.{Parts, IsJob, IsRefused}

-- what a job says of its run
abbrev pub plan_said : Parts → Plan
plan_said parts = record { nodes = parts.nodes; inputs = map (λ n. n.name) parts.inputs; saves = map (λ n. record { node = n.node; file = n.name }) parts.saves }

-- this text says this plan
pub record SaysPlan (text : List ℕ) (p : Plan) : Type 0 where
  pub parts : Parts
  pub job : IsJob text parts
  pub says : p ≡ plan_said parts

-- this text is refused so
pub record RefusesText (text : List ℕ) (e : JobError) : Type 0 where
  pub refused : IsRefused text e
  pub of_text : e.kind ≢ Kinds.OutOfMemory

-- One text says a job, or is refused.
abbrev pub Reads : List (List ℕ) → Result Plan JobError → Type 0
Reads (text ∷ []) (Ok p) = SaysPlan text p
Reads (text ∷ []) (Err e) = RefusesText text e
Reads texts result = ⊥

-- These texts of the sources are read as this: those that the files hold, where they are told, and in each case some. A site that tells has them all.
pub record IsRead (sources : List (List ℕ)) (files : Files) (result : Result Plan JobError) : Type 0 where
  pub there : IsTrue files.tells → IsSome (told_all files.held sources)
  pub texts : List (List ℕ)
  pub held : IfSome (told_all files.held sources) (λ held. texts ≡ held)
  pub reads : Reads texts result

-- what was read, or nothing where the sources weren't read to their end
abbrev pub Reading : Type 0
Reading = Option (Result Plan JobError)

-- the plan that was read, or one of nothing
abbrev pub plan_in : Reading → Plan
plan_in (Some (Ok p)) = p
plan_in (Some (Err e)) = record { nodes = []; inputs = []; saves = [] }
plan_in None = record { nodes = []; inputs = []; saves = [] }
