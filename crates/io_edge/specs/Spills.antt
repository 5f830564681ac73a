-- What a site keeps of the disks for workers' blocks, by worker.
use Rattle.std.specs.Prelude.{◌≡◌, ℕ, unwrap_or, IsSome, nat_eq, if◌then◌else◌}
use Rattle.std.specs.Ordering.{nat_cmp}
use Rattle.std.specs.BTreeMap.{BTreeMap, get}
use Rattle.io_edge.specs.declared.spills.Disks.{Disks}
use Rattle.io_edge.specs.View.{Spills}

abbrev pub SpillBook : Type 0
SpillBook = BTreeMap ℕ Disks

-- of a worker for which no disk was asked
abbrev pub no_disks : Disks
no_disks = record { asked = 0; puts = 0 }

abbrev pub disks_at : SpillBook → ℕ → Disks
disks_at book worker = unwrap_or (get nat_cmp book worker) no_disks

-- what is kept of one worker changes by f, and of the others stays
abbrev pub ChangesDisks : ℕ → (Disks → Disks) → SpillBook → SpillBook → Type 0
ChangesDisks worker f old new = (w : ℕ) → disks_at new w ≡ (if nat_eq worker w then f (disks_at old w) else disks_at old w)

abbrev pub SameDisks : SpillBook → SpillBook → Type 0
SameDisks old new = (w : ℕ) → disks_at new w ≡ disks_at old w

abbrev pub KnowsWorker : ℕ → SpillBook → Type 0
KnowsWorker worker book = IsSome (get nat_cmp book worker)

-- what a site tells that keeps this, and of which so many calls for a disk have failed
abbrev pub book_spills : SpillBook → ℕ → Spills
book_spills book faults = record { asked = λ w. (disks_at book w).asked; puts = λ w. (disks_at book w).puts; faults = faults }
