-- How a read that fails stands to the feed's count of faults.
use Rattle.std.specs.Prelude.{◌≡◌, ℕ, Bool, cond, Result, Ok, Err}
use Rattle.npy_codec.specs.declared.error.NpyError.{NpyError}
use Rattle.npy_codec.specs.declared.error.NpyError.TheVariants.{ReadFault}
use Rattle.cluster_msgs.specs.declared.jobs.RunFail.{RunFail}
use Rattle.cluster_msgs.specs.declared.jobs.RunFail.TheVariants.{Feed, OutOfMemory}
use Rattle.cluster_msgs.specs.Jobs.{Rose}

abbrev pub fail_of : NpyError → Bool → RunFail
fail_of ReadFault rose = Feed
fail_of e rose = cond rose Feed OutOfMemory

-- the feed is at fault only where its count rose, and else the count is as before
abbrev pub FailsAsFeed : {A : Type 0} → Result A RunFail → ℕ → ℕ → Type 0
FailsAsFeed (Ok block) before now = now ≡ before
FailsAsFeed (Err Feed) before now = Rose before now
FailsAsFeed (Err OutOfMemory) before now = now ≡ before
