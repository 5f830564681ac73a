-- The store's calls, put together from their steps.
use Rattle.std.proofs.Common.{◌≡◌, ℕ, ◌+◌, ◌-◌, ◌^◌, min, ◌≤◌, ◌<◌, inl, inr, Bool, true, false, cond, List, [], ◌∷◌, ◌++◌, Option, Some, None, refl, sym, ap, ap₂, subst, ◌∙◌, arith}
use Rattle.std.specs.Prelude.{is_some, nat_eq}
use Rattle.std.specs.Cmp.{nat_eq_equiv}
use Rattle.std.specs.Map.{lookup, remove_entry}
use Rattle.io_edge.specs.Cause.{Rose}
use Rattle.nd_shape.specs.Block.{Array}
use Rattle.io_edge.specs.Disk.{DiskView}
use Rattle.io_edge.specs.View.{raised}
use Rattle.spill_store.specs.Memory.{InMemory, IsOldest}
use Rattle.spill_store.specs.Shelves.{Shelved, LosesBy}
use Rattle.spill_store.specs.Table.{ChangesAt, SameValues, put_first}
use Rattle.spill_store.specs.Store.{Kept, AllStay, OthersStay, FindsHere, FindsThere, Gives, IsAway, IsLost, Puts, Removes, SameDisk, TakesAnew, TakesMore, away_in, back, block_at, faults_of, fresh, is_among, is_spilled}
use Rattle.spill_store.specs.Steps.{BringsBack, Finds, GoesOut, Reads, SpillsUntil}
use Rattle.spill_store.specs.declared.lost.Got.{Got}
use Rattle.spill_store.specs.declared.lost.Got.TheVariants.{Found, Absent, Lost}
use Rattle.spill_store.specs.declared.lost.LostBy.{LostBy}
use Rattle.spill_store.specs.declared.lost.LostBy.TheVariants.{Fault, Length, Digest}
use Rattle.spill_store.specs.declared.rest.Rest.{Rest}
use Rattle.spill_store.proofs.Maps.{beside, block_by, changed, taken_beside, taken_by, taken_changed, taken_still, taken_went, unchanged_at, went}
use Rattle.spill_store.proofs.Spilling.{all_then, spilled_from, takes_after, takes_anew}

at_key : (key : ℕ) (o w : Option Array) → cond (nat_eq key key) o w ≡ o
at_key key o w = ap (λ b. cond b o w) (nat_eq_equiv.refl key)

same_values : (ms ns : List (ℕ × InMemory)) → ns ≡ ms → SameValues ms ns
same_values ms ns e = record { each = λ q. ap (lookup (nat_eq q)) e }

none_by : (key : ℕ) (ms ns : List (ℕ × InMemory)) → lookup (nat_eq key) ms ≡ None → ns ≡ ms → ChangesAt key None ms ns
none_by key ms ns h e = subst (λ x. ChangesAt key None ms x) (sym e) (unchanged_at key ms h)

rose_later : (a b c : ℕ) → Rose a b → b ≤ c → Rose a c
rose_later a b c r l = omega arith

loses_later : (g h k : DiskView) (a : Array) (by : LostBy) → LosesBy g h a by → h.faults ≤ k.faults → LosesBy g k a by
loses_later g h k a Fault l f = rose_later g.faults h.faults k.faults l f
loses_later g h k a (Length has needs) l f = l
loses_later g h k a (Digest kept found) l f = l

module _ {D : Type 0} (view : D → DiskView) where
  -- the block of a key changed, in memory, and then blocks went to the disk
  set_here : (key : ℕ) (h : InMemory) (s t u : Kept D) → ChangesAt key (Some h) s.memory t.memory → ChangesAt key None (away_in s.shelf) (away_in t.shelf) → AllStay t u → block_at u key ≡ Some h.array
  set_here key h s t u c d all = all.each key ∙ changed key (Some h) s.memory t.memory (away_in s.shelf) (away_in t.shelf) c d key ∙ at_key key (Some h.array) (block_at s key)

  set_others : (key : ℕ) (h : InMemory) (s t u : Kept D) → ChangesAt key (Some h) s.memory t.memory → ChangesAt key None (away_in s.shelf) (away_in t.shelf) → AllStay t u → OthersStay key s u
  set_others key h s t u c d all = record {
    each = λ q n.
        all.each q ∙ changed key (Some h) s.memory t.memory (away_in s.shelf) (away_in t.shelf) c d q ∙ ap (λ b. cond b (Some h.array) (block_at s q)) n;
  }

  -- it went away
  unset_here : (key : ℕ) (s t u : Kept D) → ChangesAt key None s.memory t.memory → ChangesAt key None (away_in s.shelf) (away_in t.shelf) → AllStay t u → block_at u key ≡ None
  unset_here key s t u c d all = all.each key ∙ changed key None s.memory t.memory (away_in s.shelf) (away_in t.shelf) c d key ∙ at_key key None (block_at s key)

  unset_others : (key : ℕ) (s t u : Kept D) → ChangesAt key None s.memory t.memory → ChangesAt key None (away_in s.shelf) (away_in t.shelf) → AllStay t u → OthersStay key s u
  unset_others key s t u c d all = record {
    each = λ q n.
        all.each q ∙ changed key None s.memory t.memory (away_in s.shelf) (away_in t.shelf) c d q ∙ ap (λ b. cond b None (block_at s q)) n;
  }

  -- what the disk had taken under the key counts no more
  unset_taken : (key : ℕ) (m : Option InMemory) (s t : Kept D) → taken_by m None ≡ false → ChangesAt key m s.memory t.memory → ChangesAt key None (away_in s.shelf) (away_in t.shelf) → TakesAnew key [] s t
  unset_taken key m s t f c d = record {
    each = λ q.
        taken_changed key m s.memory t.memory (away_in s.shelf) (away_in t.shelf) c d q ∙ ap (λ b. cond (nat_eq key q) b (is_spilled s q)) f;
  }

  pub put_done : (key : ℕ) (a : Array) (s t u : Kept D) (rest : Rest) → t.memory ≡ put_first key (fresh a) s.memory → ChangesAt key (Some (fresh a)) s.memory t.memory → ChangesAt key None (away_in s.shelf) (away_in t.shelf)
      → t.times ≡ s.times → t.news ≡ s.news → SameDisk view s.shelf t.shelf → SameDisk view t.shelf u.shelf → AllStay t u → SpillsUntil view t u rest → Puts view key a s u
  put_done key a s t u rest order c d n m f g all so = record {
    here = set_here key (fresh a) s t u c d all;
    others = set_others key (fresh a) s t u c d all;
    spills = spilled_from view (put_first key (fresh a) s.memory) s t u rest order n m f g so;
    taken = takes_anew view key so.gone s t u (unset_taken key (Some (fresh a)) s t refl c d) so.taken;
  }

  taken_stays : (s t : Kept D) → SameValues s.memory t.memory → away_in t.shelf ≡ away_in s.shelf → TakesMore [] s t
  taken_stays s t m e = record { each = λ q. ap₂ taken_by (m.each q) (ap (lookup (nat_eq q)) e) }

  is_taken_away : (key : ℕ) (a : Array) (s : Kept D) → IsAway s key a → is_spilled s key ≡ true
  is_taken_away key a s was = ap₂ taken_by was.not_here was.there

  taken_back : (key : ℕ) (a b : Array) (s t : Kept D) → IsAway s key a → ChangesAt key (Some (back b)) s.memory t.memory → ChangesAt key None (away_in s.shelf) (away_in t.shelf) → TakesMore [] s t
  taken_back key a b s t was c d = record {
    each = λ q.
        taken_changed key (Some (back b)) s.memory t.memory (away_in s.shelf) (away_in t.shelf) c d q ∙ taken_still key q (is_spilled s) (is_taken_away key a s was);
  }

  all_by : (s t : Kept D) → SameValues s.memory t.memory → away_in t.shelf ≡ away_in s.shelf → AllStay s t
  all_by s t m e = record { each = λ q. ap₂ block_by (m.each q) (ap (lookup (nat_eq q)) e) }

  lost_later : (s t u : Option (Shelved D)) (a : Array) (by : LostBy) → IsLost view s t a by → SameDisk view t u → IsLost view s u a by
  lost_later None t u a by l f = absurd l
  lost_later (Some g) None u a by l f = absurd l
  lost_later (Some g) (Some h) None a by l f = absurd f
  lost_later (Some g) (Some h) (Some k) a by l f = loses_later (view g.disk) (view h.disk) (view k.disk) a by l f.1

  here_done : (key : ℕ) (a : Array) (s t u : Kept D) (rest : Rest) → Reads key a s t → t.times ≡ s.times → t.news ≡ s.news → SameDisk view s.shelf t.shelf → SameDisk view t.shelf u.shelf → AllStay t u → SpillsUntil view t u rest → FindsHere view key a s u
  here_done key a s t u rest r n m f g all so = record {
    order = t.memory;
    uses = r.uses;
    all = all_then view s t u (all_by s t r.same r.away) all;
    spills = spilled_from view t.memory s t u rest refl n m f g so;
    taken = takes_after view so.gone s t u (taken_stays s t r.same r.away) so.taken;
  }

  there_done : (key : ℕ) (b : Array) (s t u : Kept D) (rest : Rest) → BringsBack view key b s t → t.times ≡ s.times → t.news ≡ s.news → SameDisk view s.shelf t.shelf → SameDisk view t.shelf u.shelf → AllStay t u → SpillsUntil view t u rest → FindsThere view key b s u
  there_done key b s t u rest r n m f g all so = record {
    array = r.array;
    was = r.was;
    comes = r.comes;
    here = set_here key (back b) s t u r.changes r.away all;
    others = set_others key (back b) s t u r.changes r.away all;
    spills = spilled_from view (put_first key (back b) s.memory) s t u rest r.memory n m f g so;
    taken = takes_after view so.gone s t u (taken_back key r.array b s t r.was r.changes r.away) so.taken;
  }

  pub got : (key : ℕ) (s t u : Kept D) (rest : Rest) (found : Got) → Finds view key s t found → t.times ≡ s.times → t.news ≡ s.news → SameDisk view s.shelf t.shelf → SameDisk view t.shelf u.shelf → AllStay t u → SpillsUntil view t u rest → Gives view key s u found
  got key s t u rest (Found block) (inl r) n m f g all so = inl (here_done key block.value s t u rest r n m f g all so)
  got key s t u rest (Found block) (inr r) n m f g all so = inr (there_done key block.value s t u rest r n m f g all so)
  got key s t u rest Absent r n m f g all so = record {
    was = ap₂ block_by r.not_here r.not_there;
    all = all_then view s t u (all_by s t (same_values s.memory t.memory r.memory) r.away) all;
    spills = spilled_from view s.memory s t u rest r.memory n m f g so;
    taken = takes_after view so.gone s t u (taken_stays s t (same_values s.memory t.memory r.memory) r.away) so.taken;
  }
  got key s t u rest (Lost by) r n m f g all so =
      let c = none_by key s.memory t.memory r.was.not_here r.memory in
      record {
        array = r.array;
        was = r.was;
        lost = lost_later s.shelf t.shelf u.shelf r.array by r.lost g;
        gone = unset_here key s t u c r.away all;
        others = unset_others key s t u c r.away all;
        spills = spilled_from view s.memory s t u rest r.memory n m f g so;
        taken = takes_anew view key so.gone s t u (unset_taken key None s t refl c r.away) so.taken;
      }

  -- a key that isn't kept any more
  pub removed : (key : ℕ) (s u : Kept D) → u.memory ≡ remove_entry (nat_eq key) s.memory → ChangesAt key None s.memory u.memory → ChangesAt key None (away_in s.shelf) (away_in u.shelf) → u.times ≡ s.times → u.news ≡ s.news → Removes key s u
  removed key s u order c d n m = record {
    gone = unset_here key s u u c d (record { each = λ q. refl });
    others = unset_others key s u u c d (record { each = λ q. refl });
    memory = order;
    taken = unset_taken key None s u refl c d;
    times = n;
    news = m;
  }

  -- ## One block goes to the disk

  pub took_all : (key : ℕ) (a : Array) (s t : Kept D) → IsOldest s.memory key a → ChangesAt key None s.memory t.memory → ChangesAt key (Some a) (away_in s.shelf) (away_in t.shelf) → AllStay s t
  took_all key a s t old c d = record { each = went key (record { array = a; taken = old.taken }) s.memory t.memory (away_in s.shelf) (away_in t.shelf) old.last.there c d }

  alone : (key q : ℕ) (h : InMemory) (b : Bool) → cond (nat_eq key q) true b ≡ cond (is_among q ((key, h) ∷ [])) true b
  alone key q h b = ap (λ t. cond t true b) (nat_eq_equiv.symm key q) ∙ by_test (nat_eq q key)
    where
      by_test : (t : Bool) → cond t true b ≡ cond (is_some (cond t (Some h) None)) true b
      by_test true = refl
      by_test false = refl

  pub took : (key : ℕ) (a : Array) (s t : Kept D) → IsOldest s.memory key a → t.memory ≡ remove_entry (nat_eq key) s.memory → ChangesAt key None s.memory t.memory → ChangesAt key (Some a) (away_in s.shelf) (away_in t.shelf)
      → faults_of view s.shelf < 8 → faults_of view t.shelf ≡ faults_of view s.shelf → t.times ≡ raised s.times 1 → t.news ≡ s.news ++ key ∷ [] → GoesOut view s t
  took key a s t old order c d few same counted told = record {
    key = key;
    held = held;
    order = old.last.last ∙ ap (λ ms. ms ++ (key, held) ∷ []) (sym order);
    few = few;
    same = same;
    taken = record { each = λ q. taken_went key a s.memory t.memory (away_in s.shelf) (away_in t.shelf) c d q ∙ alone key q held (is_spilled s q) };
    times = counted;
    news = told;
  }
    where
      held : InMemory
      held = record { array = a; taken = old.taken }

  pub refused_all : (key : ℕ) (a : Array) (s t : Kept D) → IsOldest s.memory key a → t.memory ≡ s.memory → ChangesAt key None (away_in s.shelf) (away_in t.shelf) → AllStay s t
  refused_all key a s t old m d = record {
    each = λ q.
        ap (λ ms. block_by (lookup (nat_eq q) ms) (lookup (nat_eq q) (away_in t.shelf))) m
        ∙ beside key (record { array = a; taken = old.taken }) s.memory (away_in s.shelf) (away_in t.shelf) old.last.there d q;
  }

  pub kept_all : (s t : Kept D) → t.memory ≡ s.memory → away_in t.shelf ≡ away_in s.shelf → AllStay s t
  kept_all s t m e = all_by s t (same_values s.memory t.memory m) e

  pub refused_taken : (key : ℕ) (a : Array) (s t : Kept D) → IsOldest s.memory key a → t.memory ≡ s.memory → ChangesAt key None (away_in s.shelf) (away_in t.shelf) → TakesMore [] s t
  refused_taken key a s t old m d = record {
    each = λ q.
        ap (λ ms. taken_by (lookup (nat_eq q) ms) (lookup (nat_eq q) (away_in t.shelf))) m
        ∙ taken_beside key (record { array = a; taken = old.taken }) s.memory (away_in s.shelf) (away_in t.shelf) old.last.there d q;
  }

  pub kept_taken : (s t : Kept D) → t.memory ≡ s.memory → away_in t.shelf ≡ away_in s.shelf → TakesMore [] s t
  kept_taken s t m e = taken_stays s t (same_values s.memory t.memory m) e

-- a count of a type that stands still at its end rose by one
pub raised_one : (n m : ℕ) → n < 2 ^ 64 → m ≡ min (n + 1) (2 ^ 64 - 1) → m ≡ raised n 1
unfolding raised
raised_one n m l e = omega (arith, e)
