-- The disks of a run's workers.
use Rattle.std.proofs.Common.{◌≡◌, ℕ, refl, sym, ◌∙◌, subst, Bool, Option, Some, None}
use Rattle.std.specs.Prelude.{IfSome, IsTrue}
use Rattle.std.proofs.lemmas.Bool.{false≢true}
use Rattle.small_facts.proofs.Options.{if_some_weaker}
use Rattle.io_edge.specs.Disk.{DiskView, fresh_disk}
use Rattle.io_edge.specs.View.{View, Files, OnlySpills}
use Rattle.nd_shape.specs.Block.{Array}
use Rattle.cluster_msgs.specs.Labels.{LabelFacts}
use Rattle.block_lowering.specs.Jobs.{Job}
use Rattle.worker_store.specs.Keeping.{IsDiskFor}
use Rattle.job_run.specs.Values.{Named}
use Rattle.thread_run.proofs.Saved.{facts_of}

-- ## Calls for disks, one after another

pub spills_none : (v : View) → OnlySpills v v
spills_none v = record { gave = refl; files = refl; out = refl; err = refl; read_faults = refl; write_faults = refl; print_faults = refl; note_faults = refl }

pub spills_then : (old mid new : View) → OnlySpills old mid → OnlySpills mid new → OnlySpills old new
spills_then old mid new a b = record {
  gave = b.gave ∙ a.gave;
  files = b.files ∙ a.files;
  out = b.out ∙ a.out;
  err = b.err ∙ a.err;
  read_faults = b.read_faults ∙ a.read_faults;
  write_faults = b.write_faults ∙ a.write_faults;
  print_faults = b.print_faults ∙ a.print_faults;
  note_faults = b.note_faults ∙ a.note_faults;
}

-- ## New disks

-- of a block of a run it matters what its shape is, and where the run is told the site tells, and so its disks do
pub disk-for : {J : Type 0} (picked : Option J) (inside : J → Job) (named : Named) (told tells : Bool) (allowed : Option ℕ) → (IsTrue told → IsTrue tells) → IsDiskFor (facts_of picked inside named told allowed) (fresh_disk tells)
disk-for None inside named told tells allowed t = record { shape = λ a b e. e; told = λ h. absurd (false≢true h) }
disk-for (Some job) inside named told tells allowed t = record { shape = λ a b e. e; told = t }

-- a disk that was just made, if one was
pub made-for : {D : Type 0} (facts : LabelFacts Array) (v : DiskView) (view : D → DiskView) (disk : Option D) → IsDiskFor facts v → IfSome disk (λ d. view d ≡ v) → IfSome disk (λ d. IsDiskFor facts (view d))
made-for facts v view disk for made = if_some_weaker (λ d. view d ≡ v) (λ d. IsDiskFor facts (view d)) disk (λ d is. subst (IsDiskFor facts) (sym is) for) made

-- after other calls for disks the site makes the same
pub still-for : (facts : LabelFacts Array) (old new : View) → OnlySpills old new → IsDiskFor facts (fresh_disk old.files.tells) → IsDiskFor facts (fresh_disk new.files.tells)
still-for facts old new s for = subst (λ (f : Files). IsDiskFor facts (fresh_disk f.tells)) (sym s.files) for
