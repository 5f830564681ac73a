-- The rule of a cell, over its words, its slot and what each pass knows, and what each of its steps tells.
-- The first word is 0 while the state is at home, and the second is the number of entries in the history.
use Rattle.std.specs.Prelude.{◌≡◌, ℕ, ◌+◌, ◌-◌, ◌<◌, ◌⊎◌, List, [], ◌∷◌, ◌++◌, length, drop, Option, Some, None}
use Rattle.std.specs.Prelude.{if◌then◌else◌, nat_le, Bool, true, false}
use mathlib.Core.Option.{some, none}
use lib.ListN.{get_elem?}
use Rattle.atomic_table.specs.Table.{State, Me, Step, rest}
use Rattle.cluster_msgs.specs.declared.events.Entry.{Entry}
use Rattle.turn_cell.specs.declared.rule.View.{View}
use Rattle.turn_cell.specs.declared.rule.Start.{Start}
use Rattle.turn_cell.specs.Histories.{StartsWith, weigh, Ascending, Replays}

abbrev pub total_of : {V : Type 0} → (V → ℕ) → List V → ℕ
total_of f [] = 0
total_of f (v ∷ vs) = f v + total_of f vs

abbrev pub longer : List Entry → List Entry → List Entry
longer xs ys = if nat_le (length ys) (length xs) then xs else ys

module _ {S : Type 0} where
  -- what a joined pass leaves behind
  abbrev pub spent : View S
  spent = record { start = None; total = 0; seen = []; mine = []; parts = 0; out = None }

  -- the pass that has all parts of a new cell
  abbrev pub opening_view : S → ℕ → View S
  opening_view x parts = record { start = Some x; total = parts; seen = []; mine = []; parts = parts; out = None }

  abbrev pub first_view : Start S → View S
  first_view k = opening_view k.state.value k.parts

  abbrev pub with_turn : View S → Option S → View S
  with_turn v o = record { start = v.start; total = v.total; seen = v.seen; mine = v.mine; parts = v.parts; out = o }

  -- the value of the slot that was taken last
  abbrev pub held : List (ℕ × Option S) → Option S
  held [] = None
  held (x ∷ xs) = x.1

  abbrev pub left_view : View S → View S
  left_view v = record { start = v.start; total = v.total; seen = v.seen; mine = v.mine; parts = v.parts - 1; out = v.out }

  abbrev pub right_view : View S → View S
  right_view v = record { start = v.start; total = v.total; seen = v.seen; mine = []; parts = 1; out = None }

  abbrev pub both_views : View S → View S → View S
  both_views v w =
      record { start = v.start; total = v.total; seen = longer v.seen w.seen; mine = v.mine ++ w.mine; parts = v.parts + w.parts; out = v.out }

module _ {S C : Type 0} (entries : S → List Entry) (core : S → C) (cut : S → Bool) (steps : C → Entry → C → Type 0) where
  -- the state is the replay of its history
  abbrev pub IsReplay : S → List Entry → S → Type 0
  IsReplay start log x = (entries x ≡ log) × (cut x ≡ false → Replays steps (core start) log (core x))

  -- what a live pass knows: a beginning of the history, in which its own entries stand
  pub record IsLive (start : S) (total : ℕ) (log : List Entry) (v : View S) : Type 0 where
    pub some_part : 0 < v.parts
    pub start_is : v.start ≡ Some start
    pub total_is : v.total ≡ total
    pub seen : StartsWith log v.seen
    pub among : (h : Entry → ℕ) → weigh h v.seen ≡ 0 → weigh h v.mine ≡ 0

  abbrev pub Knows : S → ℕ → List Entry → View S → Type 0
  Knows start total log v = (v ≡ spent) ⊎ IsLive start total log v

  abbrev pub All : (ℕ → View S → Type 0) → List (View S) → Type 0
  All F views = (id : ℕ) (v : View S) → get_elem? views id ≡ some v → F id v

  pub record AtHome (start : S) (log : List Entry) (s : State (Option S) (View S)) : Type 0 where
    pub state : S
    pub words : s.words ≡ 0 ∷ length log ∷ []
    pub homes : s.homes ≡ some (Some state) ∷ []
    pub replay : IsReplay start log state
    pub nobody : All (λ _ v. v.out ≡ None) s.views

  -- one pass holds the turn, and notes the state
  pub record IsOut (start : S) (log : List Entry) (s : State (Option S) (View S)) : Type 0 where
    pub state : S
    pub holder : ℕ
    pub words : s.words ≡ 1 ∷ length log ∷ []
    pub homes : s.homes ≡ none ∷ []
    pub replay : IsReplay start log state
    pub noted : (v : View S) × (get_elem? s.views holder ≡ some v) × (v.out ≡ Some state)
    pub nobody_else : All (λ id v. ¬ (id ≡ holder) → v.out ≡ None) s.views

  pub record TurnRule (key : Start S) (s : State (Option S) (View S)) : Type 0 where
    pub log : List Entry
    pub ascending : Ascending log
    pub placed : AtHome key.state.value log s ⊎ IsOut key.state.value log s
    pub knows : All (λ _ v. Knows key.state.value key.parts log v) s.views
    pub parts : total_of (λ v. v.parts) s.views ≡ key.parts
    pub once : (h : Entry → ℕ) → total_of (λ v. weigh h v.mine) s.views ≡ weigh h log

  abbrev pub V : Type 0
  V = Me (Option S) (View S)

  -- there was a moment under the rule at which a pass with this view found the turn taken, by a state whose history begins with what it had seen
  pub record WasTaken (v : View S) : Type 0 where
    pub key : Start S
    pub id : ℕ
    pub moment : State (Option S) (View S)
    pub rule : TurnRule key moment
    pub here : get_elem? moment.views id ≡ some v
    pub out : IsOut key.state.value rule.log moment
    pub later : StartsWith (entries out.state) v.seen

  -- what is known of a state that is taken by a pass that has seen these entries: its history begins with them, and it is its replay
  pub record IsShown (start : Option S) (seen : List Entry) (x : S) : Type 0 where
    pub from : S
    pub from_is : start ≡ Some from
    pub later : StartsWith (entries x) seen
    pub replay : cut x ≡ false → Replays steps (core from) (entries x) (core x)
    pub ascending : Ascending (entries x)

  -- the state at home is taken, or the turn was taken
  abbrev pub took : Step (Option S) → V → ℕ → V → Type 0
  took s me n me' =
      (n ≡ 0 → (x : S) × (me' ≡ (with_turn me.0 (Some x), (0, Some x) ∷ me.1)) × IsShown me.0.start me.0.seen x)
      × (¬ (n ≡ 0) → (me' ≡ me) × WasTaken me.0)

  abbrev pub looked : View S → Option S → View S
  looked v None = v
  looked v (Some x) = record { start = v.start; total = v.total; seen = entries x; mine = v.mine; parts = v.parts; out = v.out }

  abbrev pub read : Step (Option S) → V → ℕ → V → Type 0
  read s me n me' = (me' ≡ (looked me.0 me.0.out, me.1)) × (n ≡ length me'.0.seen)

  abbrev pub grown : View S → Option S → Option S → View S
  grown v None y = v
  grown v (Some x) None = v
  grown v (Some x) (Some y) =
      record { start = v.start; total = v.total; seen = entries y; mine = v.mine ++ drop (length (entries x)) (entries y); parts = v.parts; out = Some y }

  abbrev pub counted : Step (Option S) → V → ℕ → V → Type 0
  counted s me n me' = me' ≡ (grown me.0 me.0.out (held me.1), me.1)

  abbrev pub gave : Step (Option S) → V → ℕ → V → Type 0
  gave s me n me' = me' ≡ (with_turn me.0 None, rest me.1)

  -- at the end the pass that has all parts has seen the whole history
  pub record Ended (v : View S) (x : S) : Type 0 where
    pub start : S
    pub start_is : v.start ≡ Some start
    pub replay : cut x ≡ false → Replays steps (core start) (entries x) (core x)
    pub seen : StartsWith (entries x) v.seen
    pub ascending : Ascending (entries x)
    pub just_mine : (g : Entry → ℕ) → weigh g (entries x) ≡ weigh g v.mine

  -- a pass that holds no turn
  abbrev pub Rests : V → Type 0
  Rests me = (me.1 ≡ []) × (me.0.out ≡ None)

  -- a pass that holds the turn, which it took with the state x
  abbrev pub Holds : S → V → Type 0
  Holds x me = (me.1 ≡ (0, None) ∷ []) × (me.0.out ≡ Some x) × (me.0.seen ≡ entries x)

  -- the turn was taken with the state x: its history begins with what the pass had seen, and it is its replay from the start
  pub record Entered (v : View S) (x : S) (me' : V) : Type 0 where
    pub holds : Holds x me'
    pub shown : IsShown v.start v.seen x
    pub view : me'.0 ≡ record { start = v.start; total = v.total; seen = entries x; mine = v.mine; parts = v.parts; out = Some x }

  -- a turn went from x to y by one entry and one step of the core
  pub record WentBy (x y : S) (e : Entry) : Type 0 where
    pub entry : entries y ≡ entries x ++ e ∷ []
    pub was_open : cut x ≡ false
    pub is_open : cut y ≡ false
    pub step : steps (core x) e (core y)
    pub ascending : Ascending (entries y)

  -- or by neither
  pub record WentNowhere (x y : S) : Type 0 where
    pub entries_are : entries y ≡ entries x
    pub cut_is : cut y ≡ cut x
    pub core_is : core y ≡ core x

  -- or past the limit of its history, by one step of the core at most
  pub record WentPast (x y : S) : Type 0 where
    pub entries_are : entries y ≡ entries x
    pub is_cut : cut y ≡ true
    pub step : (core y ≡ core x) ⊎ ((e : Entry) × steps (core x) e (core y))

  abbrev pub Went : S → S → Type 0
  Went x y = WentNowhere x y ⊎ (((e : Entry) × WentBy x y e) ⊎ WentPast x y)

  -- what both forms without an entry leave
  abbrev pub Stayed : S → S → Type 0
  Stayed x y = (entries y ≡ entries x) × (cut y ≡ false → (cut x ≡ false) × (core y ≡ core x))

  -- what the pass knows after the turn: it has seen the whole history, and the new entry is its own
  abbrev pub left_with : View S → S → S → View S
  left_with v x y =
      record { start = v.start; total = v.total; seen = entries y; mine = v.mine ++ drop (length (entries x)) (entries y); parts = v.parts; out = None }
