-- The ends at which no job was read of a text, for the private functions.
use Rattle.std.specs.Prelude.{◌≡◌, ◌≢◌, ℕ, List}
use Rattle.job_text.specs.declared.error.JobError.{JobError}
use Rattle.job_text.specs.declared.error.JobKind.{JobKind}
use Rattle.job_text.specs.declared.error.JobKind.TheVariants as Kinds
use Rattle.dask_top.specs.declared.answer.End.{End}
use Rattle.dask_top.specs.declared.answer.End.TheVariants.{Job, Limit, OutOfMemory}
use Rattle.dask_top.specs.Works.{IsNoLimit}
use Rattle.dask_top.specs.Reading.{RefusesText}

-- the end that an error of the reader is
abbrev pub EndsAs : JobError → End → Type 0
EndsAs e (Job f) = (f ≡ e) × IsNoLimit e.kind × (e.kind ≢ Kinds.OutOfMemory)
EndsAs e (Limit quantity) = e.kind ≡ Kinds.Limit quantity
EndsAs e OutOfMemory = Unit {0}
EndsAs e end = ⊥

pub record PassesLimit (text : List ℕ) (kind : JobKind) : Type 0 where
  pub error : JobError
  pub refused : RefusesText text error
  pub is : error.kind ≡ kind

-- the end of a text that is no job, or of one for which memory was wanted
abbrev pub TextEnds : List ℕ → End → Type 0
TextEnds text (Job e) = RefusesText text e × IsNoLimit e.kind
TextEnds text (Limit quantity) = PassesLimit text (Kinds.Limit quantity)
TextEnds text OutOfMemory = Unit {0}
TextEnds text end = ⊥
