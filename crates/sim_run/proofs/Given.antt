-- What a simulation left, once the store of its inputs was given back.
use Rattle.std.proofs.Common.{◌≡◌, ℕ, ◌<◌, refl, sym, ◌∙◌, subst, arith}
use Rattle.io_edge.specs.Cause.{Rose, TakesFaults}
use Rattle.io_edge.proofs.GivenLaws.{more_around}
use Rattle.io_edge.specs.View.{Files, OnlyReads, View}
use Rattle.cluster_msgs.specs.declared.events.Report.{Report}
use Rattle.job_run.specs.declared.ends.Ended.TheVariants.{Done, Limit, File, Zero, Killed, ReadFault, WriteFault, OutOfMemory}
use Rattle.job_run.specs.Plan.{Plan}
use Rattle.job_run.specs.Values.{Named}
use Rattle.command_words.specs.declared.sim.SimWords.{SimWords}
use Rattle.sim_run.specs.declared.ends.SimEnded.{SimEnded}
use Rattle.sim_run.specs.declared.ends.SimEnded.TheVariants.{Events, Ran}
use Rattle.sim_run.specs.Serving.{SavesFiles, ServesAll, ServesFiles, ServesPart, Stops}

-- the same causes, said of other facts
stops-as : (p : Plan) (s : SimWords) (named : Named) (told again reads reads' writes writes' : Type 0) (end : SimEnded) → (told → again) → (reads' → reads) → (writes' → writes) → Stops p s named again reads' writes' end → Stops p s named told reads writes end
stops-as p s named told again reads reads' writes writes' Events f g k h = λ t. h (f t)
stops-as p s named told again reads reads' writes writes' (Ran Done) f g k h = absurd h
stops-as p s named told again reads reads' writes writes' (Ran (Limit quantity)) f g k h = absurd h
stops-as p s named told again reads reads' writes writes' (Ran (File place error)) f g k h = absurd h
stops-as p s named told again reads reads' writes writes' (Ran (Zero node block)) f g k h = λ t. h (f t)
stops-as p s named told again reads reads' writes writes' (Ran (Killed key losses)) f g k h = (h.0, λ t. h.1 (f t))
stops-as p s named told again reads reads' writes writes' (Ran ReadFault) f g k h = g h
stops-as p s named told again reads reads' writes writes' (Ran WriteFault) f g k h =
    let all = h.0 in (record { report = all.report; turns = all.turns; served = λ t. all.served (f t); values = λ t. all.values (f t) }, k h.1)
stops-as p s named told again reads reads' writes writes' (Ran OutOfMemory) f g k h = tt

-- a store with these counts of faults was given back after the saves
pub record IsGivenBack (p : Plan) (start given : ℕ) (old mid new : View) : Type 0 where
  pub saves : SavesFiles p old mid
  pub files_same : new.files ≡ mid.files
  pub reads : OnlyReads mid new
  pub takes : TakesFaults given mid.read_faults new.read_faults
  pub fresh : start ≡ 0

module _ (p : Plan) (s : SimWords) (named : Named) (told again : Type 0) (start given : ℕ) (old mid new : View) (r : IsGivenBack p start given old mid new) (tells : told → again) where
  pub all-given : (report : Report) (turns : ℕ) → ServesAll p s named again old.files mid.files report turns → ServesAll p s named told old.files new.files report turns
  all-given report turns h =
      let F : Files → Type 0 = λ f. ServesAll p s named told old.files f report turns in
      subst F (sym r.files_same) (record {
        served = λ t. h.served (tells t);
        values = λ t. h.values (tells t);
        whole = λ t. h.whole (tells t);
        left = λ t. h.left (tells t);
        created = h.created;
      })

  read-rose : Rose start given → Rose old.read_faults new.read_faults
  read-rose rose =
      let some : 0 < given = omega (arith, rose, r.fresh) in
      let here : Rose mid.read_faults new.read_faults = r.takes.risen some in
      omega (arith, here, r.saves.only.read_faults)

  write-rose : Rose old.write_faults mid.write_faults → Rose old.write_faults new.write_faults
  write-rose rose = omega (arith, rose, r.reads.write_faults)

  pub part-given : (end : SimEnded) → ServesPart p s named again (Rose start given) (Rose old.write_faults mid.write_faults) old.files mid.files end →
      ServesPart p s named told (Rose old.read_faults new.read_faults) (Rose old.write_faults new.write_faults) old.files new.files end
  part-given end h =
      let reads : Type 0 = Rose old.read_faults new.read_faults in
      let writes : Type 0 = Rose old.write_faults new.write_faults in
      let F : Files → Type 0 = λ f. ServesPart p s named told reads writes old.files f end in
      subst F (sym r.files_same) (record {
        cause = stops-as p s named told again reads (Rose start given) writes (Rose old.write_faults mid.write_faults) end tells read-rose write-rose h.cause;
        left = λ t. h.left (tells t);
        bare = h.bare;
      })

pub files-given : (p : Plan) (start given : ℕ) (old mid new : View) → IsGivenBack p start given old mid new → ServesFiles p old new
files-given p start given old mid new r =
    let F : Files → Type 0 = λ f. ServesFiles p old (record new { files = f }) in
    subst F (sym r.files_same) (record {
      others = r.saves.others;
      tells = r.saves.tells;
      opened = r.saves.opened;
      created = r.saves.created;
      gave = more_around old.gave mid.gave new.gave new.gave r.saves.only.gave r.reads.gave refl;
      out = r.reads.out ∙ r.saves.only.out;
      err = r.reads.err ∙ r.saves.only.err;
      note_faults = r.reads.note_faults ∙ r.saves.only.note_faults;
      print_faults = r.reads.print_faults ∙ r.saves.only.print_faults;
      read_later = omega (arith, r.takes.later, r.saves.only.read_faults);
      write_later = omega (arith, r.saves.write_later, r.reads.write_faults);
    })
