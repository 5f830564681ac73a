-- A history, and a core with its history.
use Rattle.std.specs.Prelude.{◌≡◌, ℕ, ◌+◌, ◌*◌, ◌^◌, ◌<◌, ◌≤◌, ◌⊎◌, Bool, true, false, List, [], ◌∷◌, ◌++◌, Option, Some, None, is_some, length}
use Rattle.cluster_msgs.specs.declared.events.Entry.{Entry}
use Rattle.cluster_msgs.specs.declared.events.Event.{Event}
use Rattle.cluster_msgs.specs.declared.messages.Message.{Message}
use Rattle.cluster_msgs.specs.declared.messages.Message.TheVariants as message
use Rattle.cluster_msgs.specs.declared.messages.Down.{Down}
use Rattle.cluster_msgs.specs.declared.messages.Down.TheVariants.{ComputeTask, FreeKeys, RemoveReplicas, AcquireReplicas, RefreshWhoHas}
use Rattle.cluster_msgs.specs.declared.messages.Up.{Up}
use Rattle.cluster_msgs.specs.declared.messages.Up.TheVariants.{AddKeys}
use Rattle.cluster_msgs.specs.declared.messages.ToClient.{ToClient}
use Rattle.cluster_msgs.specs.declared.messages.ToClient.TheVariants.{KeyInMemory}
use Rattle.cluster_msgs.specs.declared.messages.FromClient.{FromClient}
use Rattle.cluster_msgs.specs.declared.messages.FromClient.TheVariants.{Want, Release}
use Rattle.cluster_msgs.specs.declared.messages.Peer.{Peer}
use Rattle.cluster_msgs.specs.declared.messages.Peer.TheVariants.{GetData, Data}
use Rattle.turn_cell.specs.Histories.{Ascending}

-- how many members a message's list has
abbrev pub down_members : Down → ℕ
down_members (ComputeTask key attempt who_has) = length who_has
down_members (FreeKeys keys) = length keys
down_members (RemoveReplicas keys) = length keys
down_members (AcquireReplicas who_has) = length who_has
down_members (RefreshWhoHas who_has) = length who_has
down_members _ = 0

abbrev pub up_members : Up → ℕ
up_members (AddKeys seen keys) = length keys
up_members _ = 0

abbrev pub to_client_members : ToClient → ℕ
to_client_members (KeyInMemory key holders) = length holders
to_client_members _ = 0

abbrev pub from_client_members : FromClient → ℕ
from_client_members (Want keys) = length keys
from_client_members (Release keys) = length keys
from_client_members _ = 0

abbrev pub peer_members : Peer → ℕ
peer_members (GetData ask keys) = length keys
peer_members (Data ask found) = length found

abbrev pub members : Message → ℕ
members (message.Down m) = down_members m
members (message.Up m) = up_members m
members (message.ToClient m) = to_client_members m
members (message.FromClient m) = from_client_members m
members (message.Peer m) = peer_members m
members _ = 0

abbrev pub message_members : Option Message → ℕ
message_members None = 0
message_members (Some m) = members m

-- what an entry counts towards the limit of a history
abbrev pub entry_bytes : Entry → ℕ
entry_bytes e = 48 + 16 * message_members e.message

abbrev pub history_bytes : List Entry → ℕ
history_bytes [] = 0
history_bytes (e ∷ es) = entry_bytes e + history_bytes es

-- what a history tells: its stored entries, the first that was left out, its limit in bytes, and for how many entries memory is there
pub record Logged : Type 0 where
  pub entries : List Entry
  pub cut : Option Entry
  pub limit : ℕ
  pub capacity : ℕ

-- all stamps are below this one
abbrev pub AllBelow : ℕ → List Entry → Type 0
AllBelow n [] = Unit {0}
AllBelow n (e ∷ es) = (e.stamp < n) × AllBelow n es

abbrev pub AllUpTo : ℕ → List Entry → Type 0
AllUpTo n [] = Unit {0}
AllUpTo n (e ∷ es) = (e.stamp ≤ n) × AllUpTo n es

-- the entry is the last one, and the history is within its limit
pub record IsStored (old : Logged) (e : Entry) (new : Logged) : Type 0 where
  pub was_open : old.cut ≡ None
  pub is_open : new.cut ≡ None
  pub within : history_bytes old.entries + entry_bytes e ≤ old.limit
  pub entries_are : new.entries ≡ old.entries ++ e ∷ []

-- it would pass the limit, and is the first that is left out
pub record IsLeftOut (old : Logged) (e : Entry) (new : Logged) : Type 0 where
  pub was_open : old.cut ≡ None
  pub cut_is : new.cut ≡ Some e
  pub past : old.limit < history_bytes old.entries + entry_bytes e
  pub entries_are : new.entries ≡ old.entries

-- an earlier one was left out, so this one is too
pub record IsLater (old : Logged) (new : Logged) : Type 0 where
  pub was_cut : is_some old.cut ≡ true
  pub cut_is : new.cut ≡ old.cut
  pub entries_are : new.entries ≡ old.entries

abbrev pub IsPushed : Logged → Entry → Logged → Type 0
IsPushed old e new = IsStored old e new ⊎ (IsLeftOut old e new ⊎ IsLater old new)

-- with the first entry that was left out these would pass the limit
abbrev pub IsPast : ℕ → List Entry → Option Entry → Type 0
IsPast limit entries None = Unit {0}
IsPast limit entries (Some e) = limit < history_bytes entries + entry_bytes e

-- entries are left out exactly where the limit says: what is stored is within it, and with the first that was left out it would pass it
pub record IsWithin (limit : ℕ) (entries : List Entry) (cut : Option Entry) : Type 0 where
  pub within : history_bytes entries ≤ limit
  pub past : IsPast limit entries cut

-- a core as it is known, its stored entries, the core that they lead to, and whether one was left out
pub record BookState (C : Type 0) : Type 0 where
  pub core : C
  pub entries : List Entry
  pub kept : C
  pub cut : Bool

-- the first entry that was left out is a step of this core
abbrev pub IsNext : {C : Type 0} → (C → Entry → C → Type 0) → C → Option Entry → Type 0
IsNext steps c None = Unit {0}
IsNext {C} steps c (Some e) = (d : C) × steps c e d

-- What holds of each book: its history has a limit of this kind. Until an entry is left out the stored ones lead to the core, and the first that is left
-- out is the step after them. The core that they lead to took no more events than there are entries, and one that is spent took 2^40.
abbrev pub IsRuled : {C : Type 0} → (ℕ → Type 0) → (C → Entry → C → Type 0) → (C → ℕ) → C → C → Bool → Logged → Type 0
IsRuled limited steps taken core kept spent l = limited l.limit × (is_some l.cut ≡ false → kept ≡ core) × IsNext steps kept l.cut
    × (taken kept ≤ length l.entries) × (spent ≡ true → 2 ^ 40 ≤ taken core)

-- the history of a book, with a limit of this kind: the first entry that was left out comes after the stored ones, and without one they lead to the core
pub record IsLogOf {C : Type 0} (limited : ℕ → Type 0) (steps : C → Entry → C → Type 0) (taken : C → ℕ) (b : BookState C) (l : Logged) : Type 0 where
  pub entries_are : l.entries ≡ b.entries
  pub cut_is : is_some l.cut ≡ b.cut
  pub limit_is : limited l.limit
  pub next : IsNext steps b.kept l.cut
  pub last : b.cut ≡ false → b.kept ≡ b.core
  pub few : taken b.kept ≤ length l.entries

-- what an event, or none, makes of a core
abbrev pub StepsBy : {C E : Type 0} → (C → E → C → Type 0) → Option E → C → C → Type 0
StepsBy by None c d = d ≡ c
StepsBy by (Some e) c d = by c e d

-- what an entry makes of a core: an event that it says, or nothing
abbrev pub Steps : {C E : Type 0} → (C → Event → Option Message → Option E → Type 0) → (C → E → C → Type 0) → C → Entry → C → Type 0
Steps {C} {E} says by c e d = (o : Option E) × says c e.event e.message o × StepsBy by o c d

-- as it was, with the entry and its step, or past its limit with one step at most, and then what is stored leads to the same core as before
abbrev pub OneEntry : {C : Type 0} → (C → Entry → C → Type 0) → BookState C → BookState C → Type 0
OneEntry steps x y = (y ≡ x)
    ⊎ (((e : Entry) × (y.entries ≡ x.entries ++ e ∷ []) × (x.cut ≡ false) × (y.cut ≡ false) × steps x.core e y.core × Ascending y.entries
    × (x.kept ≡ x.core) × (y.kept ≡ y.core))
    ⊎ ((y.entries ≡ x.entries) × (y.cut ≡ true) × ((e : Entry) × steps x.core e y.core) × (y.kept ≡ x.kept)))

-- a book after an attempt to record one entry
pub record IsRecorded {C : Type 0} (steps : C → Entry → C → Type 0) (x y : BookState C) : Type 0 where
  pub is : OneEntry steps x y

-- what was recorded: an entry of this event and message, stored as the last one, or left out
pub record IsEntered {C : Type 0} (event : Event) (message : Option Message) (x y : BookState C) : Type 0 where
  pub is : ((n : ℕ) × (y.entries ≡ x.entries ++ (record { stamp = n; event = event; message = message }) ∷ []))
      ⊎ ((y.entries ≡ x.entries) × (y.cut ≡ true))
