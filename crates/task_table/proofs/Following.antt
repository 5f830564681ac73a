-- What a change of one key's facts makes of flags, queues and touched keys.
use Rattle.std.proofs.Common.{◌≡◌, ℕ, ◌<◌, ◌≤◌, Bool, true, false, ◌&&◌, ◌||◌, eqb, cond, not, List, is_none, refl, sym, ap, ◌∙◌, arith, ⊎_elim}
use Rattle.std.proofs.lemmas.Bool.{false≢true, cases_lt, eqb-true, or_parts}
use Rattle.std.proofs.Math.Bool.{or-true}
use Rattle.small_facts.proofs.Numbers.{eqb_self, unequal_over}
use Rattle.cluster_rules.specs.Sched.{Facts, keys}
use Rattle.key_sets.specs.Sets.{has, room}
use Rattle.spread_flags.specs.Spread.{IsKept}
use Rattle.task_table.specs.Tasks.{is_root, queued_root, queued_other}
use Rattle.task_table.specs.Standing.{IsQuiet, IsStanding, IsDerivedAt, SameFlags, SameWas, SameLinks, SameLevels, IsUntold, root_by, other_by}
use Rattle.task_table.specs.Parts.{IsParts, IsNearly, IsFollowed, SameRooms}
use Rattle.task_table.specs.declared.levels.Levels.{Levels}
use Rattle.task_table.specs.declared.parts.Parts.{Parts}
use Rattle.task_table.proofs.Alike.{ready_flags}
use Rattle.task_table.proofs.Told.{untold_same, quiet_same, root_same, other_same, levels_forgot, levels_then}

-- from p to q: n after the key was noted, m once it settled, marks with the key and then with all that changed
pub record IsStep (g : Facts) (p q : Parts) (n m : Levels) (marked marks : List ℕ) (key : ℕ) : Type 0 where
  pub low : key < keys g
  pub near : IsNearly g p key
  pub old_waiting : IsKept p.levels.waiting
  pub old_missing : IsKept p.levels.missing
  pub noted : SameFlags p.levels n
  pub noted_links : SameLinks p.levels n
  pub standing : IsStanding g m
  pub was : SameWas n m
  pub links : SameLinks n m
  pub new_waiting : IsKept m.waiting
  pub new_missing : IsKept m.missing
  pub first : (k : ℕ) → has marked k ≡ cond (eqb k key) true (has p.marks k)
  pub first_room : room marked ≡ room p.marks
  pub untold : (k : ℕ) → has marks k ≡ false → IsUntold m k
  pub grows : (k : ℕ) → has marked k ≡ true → has marks k ≡ true
  pub within : (k : ℕ) → keys g ≤ k → has marks k ≡ has marked k
  pub mark_room : room marks ≡ room marked
  pub roots : (k : ℕ) → has q.queues.roots k ≡ cond (has marks k) (root_by g m k) (has p.queues.roots k)
  pub others : (k : ℕ) → has q.queues.others k ≡ cond (has marks k) (other_by g m k) (has p.queues.others k)
  pub rooms : SameRooms p.queues q.queues
  pub added : (k : ℕ) → has q.touched k ≡ (has p.touched k || has marks k)
  pub touched_room : room q.touched ≡ room p.touched
  pub cleared : (k : ℕ) → has q.marks k ≡ false
  pub clear_room : room q.marks ≡ room marks
  pub known : q.levels.known ≡ record m.known { changed = q.levels.known.changed }
  pub erred : q.levels.erred ≡ record m.erred { changed = q.levels.erred.changed }
  pub waiting : q.levels.waiting ≡ record m.waiting { changed = q.levels.waiting.changed }
  pub missing : q.levels.missing ≡ record m.missing { changed = q.levels.missing.changed }
  pub stands : IsStanding g q.levels
  pub quiet : IsQuiet q.levels

-- the marks before the walk and after it
pub key_marked : (xs ms : List ℕ) (key : ℕ) → ((k : ℕ) → has xs k ≡ cond (eqb k key) true (has ms k)) → has xs key ≡ true
key_marked xs ms key f = f key ∙ ap (λ t. cond t true (has ms key)) (eqb_self key)

pub marks_low : (n : ℕ) (ms xs ys : List ℕ) (key : ℕ) → key < n → ((k : ℕ) → has ms k ≡ false) → ((k : ℕ) → has xs k ≡ cond (eqb k key) true (has ms k)) → ((k : ℕ) → n ≤ k → has ys k ≡ has xs k) → (k : ℕ) → has ys k ≡ true → k < n
marks_low n ms xs ys key l none f w k e = ⊎_elim (λ a. a) (λ a. absurd (false≢true (sym (w k a ∙ f k ∙ ap (λ t. cond t true (has ms k)) (unequal_over k key (omega (arith, l, a))) ∙ none k) ∙ e))) (cases_lt k n)

not_key : (g : Facts) (p q : Parts) (n m : Levels) (xs ys : List ℕ) (key : ℕ) → IsStep g p q n m xs ys key → (k : ℕ) → has ys k ≡ false → eqb k key ≡ false
not_key g p q n m xs ys key s k e = pick (eqb k key) refl
  where
    pick : (t : Bool) → eqb k key ≡ t → eqb k key ≡ false
    pick true h = absurd (false≢true (sym e ∙ ap (has ys) (eqb-true k key h) ∙ s.grows key (key_marked xs p.marks key s.first)))
    pick false h = h

step_same : (g : Facts) (p q : Parts) (n m : Levels) (xs ys : List ℕ) (key : ℕ) → IsStep g p q n m xs ys key → (k : ℕ) → has ys k ≡ false → SameLevels p.levels m k
step_same g p q n m xs ys key s k e = untold_same p.levels n m k s.old_waiting s.old_missing s.new_waiting s.new_missing s.noted (quiet_same p.levels n s.noted s.near.quiet) s.was both (s.untold k e)
  where
    both : SameLinks p.levels m
    both = record {
      known = s.links.known ∙ s.noted_links.known;
      erred = s.links.erred ∙ s.noted_links.erred;
      waiting = s.links.waiting ∙ s.noted_links.waiting;
      missing = s.links.missing ∙ s.noted_links.missing;
    }

-- a queue is that of the facts where its key is marked, and elsewhere stays
queue_is : (ys : List ℕ) (k : ℕ) (new by old due : Bool) → new ≡ cond (has ys k) by old → (has ys k ≡ true → by ≡ due) → (has ys k ≡ false → old ≡ due) → new ≡ due
queue_is ys k new by old due h a b = h ∙ pick (has ys k) refl
  where
    pick : (t : Bool) → has ys k ≡ t → cond t by old ≡ due
    pick true e = a e
    pick false e = b e

root_due : (g : Facts) (m : Levels) (k : ℕ) → IsDerivedAt g m k → root_by g m k ≡ queued_root g k
root_due g m k d = ap (λ t. (t && is_none (g.on k)) && is_root g k) (ready_flags g m k d)

other_due : (g : Facts) (m : Levels) (k : ℕ) → IsDerivedAt g m k → other_by g m k ≡ queued_other g k
other_due g m k d = ap (λ t. (t && is_none (g.on k)) && not (is_root g k)) (ready_flags g m k d)

pub step_parts : (g : Facts) (p q : Parts) (n m : Levels) (xs ys : List ℕ) (key : ℕ) → IsStep g p q n m xs ys key → IsParts g q
step_parts g p q n m xs ys key s =
    let r = s.near.roomy in
    let lows = marks_low (keys g) p.marks xs ys key s.low r.unmarked s.first s.within in
    record {
      standing = s.stands;
      quiet = s.quiet;
      roomy = record {
        queues = record { roots = omega (arith, s.rooms.roots, r.queues.roots); others = omega (arith, s.rooms.others, r.queues.others) };
        marks = omega (arith, s.clear_room, s.mark_room, s.first_room, r.marks);
        touched = omega (arith, s.touched_room, r.touched);
        unmarked = s.cleared;
        within = λ k e. touched_low k e;
        few_roots = λ k l. queue_is ys k (has q.queues.roots k) (root_by g m k) (has p.queues.roots k) false (s.roots k) (λ e. high_only k l e) (λ e. r.few_roots k l);
        few_others = λ k l. queue_is ys k (has q.queues.others k) (other_by g m k) (has p.queues.others k) false (s.others k) (λ e. high_only k l e) (λ e. r.few_others k l);
      };
      roots = λ k l. queue_is ys k (has q.queues.roots k) (root_by g m k) (has p.queues.roots k) (queued_root g k) (s.roots k) (λ e. root_due g m k (s.standing.derived k l))
          (λ e. s.near.roots k l (not_key g p q n m xs ys key s k e) ∙ sym (root_same g p.levels m k (step_same g p q n m xs ys key s k e)) ∙ root_due g m k (s.standing.derived k l));
      others = λ k l. queue_is ys k (has q.queues.others k) (other_by g m k) (has p.queues.others k) (queued_other g k) (s.others k) (λ e. other_due g m k (s.standing.derived k l))
          (λ e. s.near.others k l (not_key g p q n m xs ys key s k e) ∙ sym (other_same g p.levels m k (step_same g p q n m xs ys key s k e)) ∙ other_due g m k (s.standing.derived k l));
    }
  where
    high_only : {b : Bool} (k : ℕ) → keys g ≤ k → has ys k ≡ true → b ≡ false
    high_only k l e = let a = marks_low (keys g) p.marks xs ys key s.low s.near.roomy.unmarked s.first s.within k e in absurd (never k (keys g) a l)
      where
        never : (a b : ℕ) → a < b → b ≤ a → ⊥
        never a b l m = omega (arith, l, m)

    touched_low : (k : ℕ) → has q.touched k ≡ true → k < keys g
    touched_low k e = pick (has p.touched k) refl
      where
        pick : (t : Bool) → has p.touched k ≡ t → k < keys g
        pick true h = s.near.roomy.within k h
        pick false h = marks_low (keys g) p.marks xs ys key s.low s.near.roomy.unmarked s.first s.within k (ap (λ t. t || has ys k) (sym h) ∙ sym (s.added k) ∙ e)

pub step_followed : (g : Facts) (p q : Parts) (n m : Levels) (xs ys : List ℕ) (key : ℕ) → IsStep g p q n m xs ys key → IsFollowed (keys g) p q key
step_followed g p q n m xs ys key s = record {
  kept = λ k l e. levels_then p.levels m q.levels k (step_same g p q n m xs ys key s k (or_parts (has p.touched k) (has ys k) (sym (s.added k) ∙ e)).1) (levels_forgot m q.levels k s.known s.erred s.waiting s.missing);
  grows = λ k e. s.added k ∙ ap (λ t. t || has ys k) e;
  named = s.added key ∙ ap (λ t. has p.touched key || t) (s.grows key (key_marked xs p.marks key s.first)) ∙ or-true (has p.touched key);
}
