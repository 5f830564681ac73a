-- Whether the entries of a journal are a legal list of events, each with the message that it takes.
use Rattle.std.specs.Prelude.{◌≡◌, ℕ, List, [], ◌∷◌, ◌++◌, Option, Some, None, map}
use Rattle.cluster_msgs.specs.declared.events.Entry.{Entry}
use Rattle.cluster_msgs.specs.declared.events.Event.{Event}
use Rattle.cluster_rules.specs.World.{Job, opening}
use Rattle.cluster_rules.specs.Runs.{legal}
use Rattle.cluster_rules.specs.Report.{report, taken}
use Rattle.journal_audit.specs.Reports.{taken_of}
use Rattle.journal_audit.specs.declared.verdict.Audit.{Audit}
use Rattle.journal_audit.specs.declared.verdict.Audit.TheVariants.{Agrees, Differs}

-- the events of entries
abbrev pub events_of : List Entry → List Event
events_of es = map (λ (e : Entry). e.event) es

-- each event is enabled in the world that the earlier ones leave, from the opening on, and each message that was kept is the one that is first
-- under way there: none where the event takes none
pub record IsLegalJournal (j : Job) (es : List Entry) : Type 0 where
  pub legal : legal j (events_of es)
  pub messages : map taken_of es ≡ taken j (opening j) (events_of es)

-- the entry with this stamp is the first that isn't legal: those before it are, and with it they aren't
pub record DiffersAt (j : Job) (es : List Entry) (stamp : ℕ) : Type 0 where
  pub before : List Entry
  pub entry : Entry
  pub after : List Entry
  pub whole : es ≡ before ++ entry ∷ after
  pub legal : IsLegalJournal j before
  pub illegal : IsLegalJournal j (before ++ entry ∷ []) → ⊥
  pub stamp_is : entry.stamp ≡ stamp

-- all of it is legal, or this is the first entry that isn't
abbrev pub IsLegalBut : Job → List Entry → Option ℕ → Type 0
IsLegalBut j es None = IsLegalJournal j es
IsLegalBut j es (Some stamp) = DiffersAt j es stamp

-- what an audit says: that the journal is legal, with the report of its events, or where it first isn't
abbrev pub IsAuditOf : Job → List Entry → Audit → Type 0
IsAuditOf j es (Agrees r) = IsLegalJournal j es × (r ≡ report j.setting.shape (taken j (opening j) (events_of es)))
IsAuditOf j es (Differs stamp) = DiffersAt j es stamp
