-- A call that came to no job: the sources weren't read to their end, or say none.
use Rattle.std.proofs.Common.{◌≡◌, ℕ, List, refl, ap, sym, ◌∙◌, subst, inl, inr, None, Some, Err}
use Rattle.io_edge.specs.Cause.{Rose}
use Rattle.io_edge.proofs.GivenLaws.{more_same}
use Rattle.io_edge.specs.View.{View, Files, Opens, OnlyReads, OnlyErr}
use Rattle.job_run.specs.Part.{RaisedAtMost}
use Rattle.job_run.specs.Runs.{AreUntouched}
use Rattle.job_run.proofs.Counting.{opened_most}
use Rattle.job_text.specs.declared.error.JobError.{JobError}
use Rattle.dask_top.specs.declared.answer.End.{End}
use Rattle.dask_top.specs.declared.answer.End.TheVariants.{Words, Job, Limit, Graph, Events, Done, File, Zero, Killed, ReadFault, WriteFault, OutOfMemory}
use Rattle.dask_top.specs.Answers.{Performs}
use Rattle.dask_top.specs.Commands.{Work}
use Rattle.dask_top.specs.Ends.{GetsLine, Notes, line_of}
use Rattle.dask_top.specs.Opening.{TextRead}
use Rattle.dask_top.specs.Reading.{Reading, RefusesText}
use Rattle.dask_top.specs.Telling.{IsRefusal, Told}
use Rattle.dask_top.specs.TextEnds.{TextEnds}
use Rattle.dask_top.specs.Works.{RefusalCause, StaysUnread, UnreadCause}
use Rattle.dask_top.proofs.Reading.{is_given, is_read}

-- ## What is told

gets_before : (line : List ℕ) (old mid new : View) → mid.err ≡ old.err → mid.note_faults ≡ old.note_faults → GetsLine line mid new → GetsLine line old new
gets_before line old mid new err faults gets = rw (← err, ← faults) gets

pub notes_before : (reading : Reading) (old mid new : View) (end : End) → mid.err ≡ old.err → mid.note_faults ≡ old.note_faults → Notes reading mid new end → Notes reading old new end
notes_before reading old mid new Done err faults notes = notes ∙ err
notes_before reading old mid new (File place error) err faults notes = gets_before (line_of reading (File place error)) old mid new err faults notes
notes_before reading old mid new (Zero node block) err faults notes = gets_before (line_of reading (Zero node block)) old mid new err faults notes
notes_before reading old mid new (Killed key losses) err faults notes = gets_before (line_of reading (Killed key losses)) old mid new err faults notes
notes_before reading old mid new ReadFault err faults notes = gets_before (line_of reading ReadFault) old mid new err faults notes
notes_before reading old mid new WriteFault err faults notes = gets_before (line_of reading WriteFault) old mid new err faults notes
notes_before reading old mid new OutOfMemory err faults notes = gets_before (line_of reading OutOfMemory) old mid new err faults notes
notes_before reading old mid new Words err faults notes = gets_before (line_of reading Words) old mid new err faults notes
notes_before reading old mid new (Graph quantity) err faults notes = gets_before (line_of reading (Graph quantity)) old mid new err faults notes
notes_before reading old mid new Events err faults notes = gets_before (line_of reading Events) old mid new err faults notes
notes_before reading old mid new (Job error) err faults notes = gets_before (line_of reading (Job error)) old mid new err faults notes
notes_before reading old mid new (Limit quantity) err faults notes = gets_before (line_of reading (Limit quantity)) old mid new err faults notes

pub told_same : (wanted now : End) → ¬ IsRefusal wanted → Told wanted now → now ≡ wanted
told_same wanted now not told = elim told [ inl same ↦ same | inr refused ↦ absurd (not refused.0) ]

-- ## The text wasn't read

untouched : (names : List (List ℕ)) (old mid new : View) → Opens names old.files mid.files → OnlyErr mid new → AreUntouched old.files new.files
untouched names old mid new opens only = record { held = ap (λ (x : Files). x.held) only.files ∙ opens.held; created = ap (λ (x : Files). x.created) only.files ∙ opens.created }

unread : (names : List (List ℕ)) (old mid new : View) (end : End) → Opens names old.files mid.files → OnlyReads old mid → OnlyErr mid new → UnreadCause old new end → StaysUnread names old new end
unread names old mid new end opens reads only cause =
    let O : Files → Type 0 = λ x. RaisedAtMost names old.files.opened x.opened in
    record { cause = cause; untouched = untouched names old mid new opens only; opened = subst O (sym only.files) (opened_most names old.files mid.files opens); prints = only.out ∙ reads.out }

unread_performs : (names : List (List ℕ)) (old mid new : View) (end : End) (work : Work) → Opens names old.files mid.files → OnlyReads old mid → OnlyErr mid new → UnreadCause old new end → Notes None mid new end → Performs names work old new end
unread_performs names old mid new end work opens reads only cause notes = record {
  reading = None;
  read = tt;
  given = tt;
  does = unread names old mid new end opens reads only cause;
  tells = ap (λ (x : Files). x.tells) only.files ∙ opens.tells;
  notes = notes_before None old mid new end reads.err reads.note_faults notes;
}

pub fault_performs : (names : List (List ℕ)) (old mid new : View) (now : End) → Opens names old.files mid.files → OnlyReads old mid → Rose old.read_faults mid.read_faults → Told ReadFault now → OnlyErr mid new →
    ((r : Reading) → Notes r mid new now) → (work : Work) → Performs names work old new now
fault_performs names old mid new now opens reads rose told only notes work =
    let C : End → Type 0 = λ e. UnreadCause old new e in
    let same : now ≡ ReadFault = told_same ReadFault now (λ r. r) told in
    unread_performs names old mid new now work opens reads only (subst C (sym same) (rw only.read_faults rose)) (notes None)

pub memory_performs : (names : List (List ℕ)) (old mid new : View) (now : End) → Opens names old.files mid.files → OnlyReads old mid → Told OutOfMemory now → OnlyErr mid new →
    ((r : Reading) → Notes r mid new now) → (work : Work) → Performs names work old new now
memory_performs names old mid new now opens reads told only notes work =
    let C : End → Type 0 = λ e. UnreadCause old new e in
    let same : now ≡ OutOfMemory = told_same OutOfMemory now (λ r. r) told in
    unread_performs names old mid new now work opens reads only (subst C (sym same) tt) (notes None)

-- ## The text is refused

refusal_told : (e : JobError) (end now : End) → Told end now → RefusalCause e end → RefusalCause e now
refusal_told e end now told cause =
    let C : End → Type 0 = λ x. RefusalCause e x in
    elim told [ inl same ↦ subst C (sym same) cause | inr refused ↦ subst C (sym refused.1) tt ]

refused_performs : (names : List (List ℕ)) (e : JobError) (old mid new : View) (read : List ℕ) (now : End) (work : Work) → TextRead names old mid read → RefusesText read e → RefusalCause e now → OnlyErr mid new → Notes (Some (Err e)) mid new now →
    Performs names work old new now
refused_performs names e old mid new read now work t refuses cause only notes = record {
  reading = Some (Err e);
  read = is_read names old mid read (Err e) t refuses;
  given = is_given names old mid new read (Err e) t refuses (more_same mid.gave new.gave only.gave);
  does = record { cause = cause; untouched = untouched names old mid new t.opens only; opened = ap (λ (x : Files). x.opened) only.files ∙ t.opened; prints = only.out ∙ t.only.out };
  tells = ap (λ (x : Files). x.tells) only.files ∙ t.opens.tells;
  notes = notes_before (Some (Err e)) old mid new now t.only.err t.only.note_faults notes;
}

pub text_performs : (names : List (List ℕ)) (old mid new : View) (read : List ℕ) (end now : End) → TextRead names old mid read → TextEnds read end → Told end now → OnlyErr mid new → ((r : Reading) → Notes r mid new now) → (work : Work) → Performs names work old new now
text_performs names old mid new read (Job e) now t ends told only notes work = refused_performs names e old mid new read now work t ends.0 (refusal_told e (Job e) now told (refl, ends.1)) only (notes (Some (Err e)))
text_performs names old mid new read (Limit quantity) now t ends told only notes work =
    refused_performs names ends.error old mid new read now work t ends.refused (refusal_told ends.error (Limit quantity) now told ends.is) only (notes (Some (Err ends.error)))
text_performs names old mid new read OutOfMemory now t ends told only notes work = memory_performs names old mid new now t.opens t.only told only notes work
text_performs names old mid new read Done now t ends told only notes work = absurd ends
text_performs names old mid new read (File place error) now t ends told only notes work = absurd ends
text_performs names old mid new read (Zero node block) now t ends told only notes work = absurd ends
text_performs names old mid new read (Killed key losses) now t ends told only notes work = absurd ends
text_performs names old mid new read ReadFault now t ends told only notes work = absurd ends
text_performs names old mid new read WriteFault now t ends told only notes work = absurd ends
text_performs names old mid new read Words now t ends told only notes work = absurd ends
text_performs names old mid new read (Graph quantity) now t ends told only notes work = absurd ends
text_performs names old mid new read Events now t ends told only notes work = absurd ends
