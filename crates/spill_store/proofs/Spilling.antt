-- Blocks that go to the disk one after another.
use Rattle.std.proofs.Common.{◌≡◌, ℕ, zero, suc, ◌≤◌, ◌<◌, Bool, true, false, ◌||◌, cond, List, [], ◌∷◌, ◌++◌, length, take, Option, Some, None, refl, sym, ap, subst, ◌∙◌, arith, append_assoc, append-nil}
use Rattle.std.specs.Prelude.{is_some, nat_eq}
use Rattle.std.specs.List.{list_any}
use Rattle.std.specs.Map.{lookup}
use Rattle.std.proofs.lemmas.List.Folds.{list_any-append}
use Rattle.std.proofs.Math.Numerals.{add-one}
use Rattle.io_edge.specs.Disk.{DiskView}
use Rattle.io_edge.specs.View.{raised}
use Rattle.io_edge.proofs.OpeningLaws.{raised_again, raised_zero}
use Rattle.spill_store.specs.Memory.{InMemory, IsCrowded}
use Rattle.spill_store.specs.Shelves.{Shelved}
use Rattle.spill_store.specs.Store.{Kept, AllStay, SameDisk, Spills, Ends, TakesAnew, TakesMore, faults_of, is_among, is_news, is_spilled}
use Rattle.spill_store.specs.Steps.{GoesOut, StaysIn, SpillsSome, SpillsUntil}
use Rattle.spill_store.specs.declared.rest.Rest.{Rest}
use Rattle.spill_store.specs.declared.rest.Rest.TheVariants.{Room}

in_front : (ms gone : List (ℕ × InMemory)) (e : ℕ × InMemory) (n : ℕ) → ms ++ take (suc (suc n)) (e ∷ gone) ≡ (ms ++ e ∷ []) ++ take (suc n) gone
in_front ms gone e n = sym (append_assoc ms (e ∷ []) (take (suc n) gone))

module _ {D : Type 0} (view : D → DiskView) where
  pub same_refl : (s : Option (Shelved D)) → SameDisk view s s
  same_refl None = tt
  same_refl (Some h) = (refl, omega arith)

  pub same_then : (s t u : Option (Shelved D)) → SameDisk view s t → SameDisk view t u → SameDisk view s u
  same_then None None None f g = tt
  same_then None None (Some w) f g = absurd g
  same_then None (Some v) u f g = absurd f
  same_then (Some h) None u f g = absurd f
  same_then (Some h) (Some v) None f g = absurd g
  same_then (Some h) (Some v) (Some w) f g = (g.0 ∙ f.0, omega (arith, f.1, g.1))

  pub later_faults : (s t : Option (Shelved D)) → SameDisk view s t → faults_of view s ≤ faults_of view t
  later_faults None None f = omega arith
  later_faults None (Some v) f = absurd f
  later_faults (Some h) None f = absurd f
  later_faults (Some h) (Some v) f = f.1

  pub all_refl : (s : Kept D) → AllStay s s
  all_refl s = record { each = λ q. refl }

  pub all_then : (s t u : Kept D) → AllStay s t → AllStay t u → AllStay s u
  all_then s t u f g = record { each = λ q. g.each q ∙ f.each q }

  pub takes_none : (s : Kept D) → TakesMore [] s s
  takes_none s = record { each = λ q. refl }

  among_more : (q : ℕ) (e : ℕ × InMemory) (gone : List (ℕ × InMemory)) (b : Bool) → cond (is_among q (e ∷ [])) true (cond (is_among q gone) true b) ≡ cond (is_among q (e ∷ gone)) true b
  among_more q e gone b = by_test (nat_eq q e.0) e.1 (lookup (nat_eq q) gone)
    where
      by_test : (t : Bool) (h : InMemory) (o : Option InMemory) → cond (is_some (cond t (Some h) None)) true (cond (is_some o) true b) ≡ cond (is_some (cond t (Some h) o)) true b
      by_test true h o = refl
      by_test false h o = refl

  takes_another : (e : ℕ × InMemory) (gone : List (ℕ × InMemory)) (s t u : Kept D) → TakesMore gone s t → TakesMore (e ∷ []) t u → TakesMore (e ∷ gone) s u
  takes_another e gone s t u f g = record { each = λ q. g.each q ∙ ap (cond (is_among q (e ∷ [])) true) (f.each q) ∙ among_more q e gone (is_spilled s q) }

  takes_still : (gone : List (ℕ × InMemory)) (s t u : Kept D) → TakesMore gone s t → TakesMore [] t u → TakesMore gone s u
  takes_still gone s t u f g = record { each = λ q. g.each q ∙ f.each q }

  -- after a step in which the disk took nothing
  pub takes_after : (gone : List (ℕ × InMemory)) (s t u : Kept D) → TakesMore [] s t → TakesMore gone t u → TakesMore gone s u
  takes_after gone s t u f g = record { each = λ q. g.each q ∙ ap (cond (is_among q gone) true) (f.each q) }

  pub takes_anew : (key : ℕ) (gone : List (ℕ × InMemory)) (s t u : Kept D) → TakesAnew key [] s t → TakesMore gone t u → TakesAnew key gone s u
  takes_anew key gone s t u f g = record { each = λ q. g.each q ∙ ap (cond (is_among q gone) true) (f.each q) }

  pub spills_none : (s : Kept D) → SpillsSome view s s
  spills_none s = record {
    gone = [];
    from_end = sym (append-nil s.memory);
    crowded = λ n h. absurd (omega arith);
    few = λ h. absurd (omega arith);
    same = refl;
    taken = takes_none s;
    times = sym (raised_zero s.times);
    news = λ q. refl;
  }

  news_more : (q key : ℕ) (h : InMemory) (gone : List (ℕ × InMemory)) (b : Bool) → ((is_among q gone || b) || (nat_eq q key || false)) ≡ (is_among q ((key, h) ∷ gone) || b)
  news_more q key h gone b = by_test (nat_eq q key) (lookup (nat_eq q) gone) b
    where
      by_test : (t : Bool) (o : Option InMemory) (b : Bool) → ((is_some o || b) || (t || false)) ≡ (is_some (cond t (Some h) o) || b)
      by_test true None true = refl
      by_test true None false = refl
      by_test true (Some x) b = refl
      by_test false None true = refl
      by_test false None false = refl
      by_test false (Some x) b = refl

  -- one more
  pub spills_more : (s t u : Kept D) → SpillsSome view s t → GoesOut view t u → t.limit ≡ u.limit → IsCrowded t.limit t.memory → SpillsSome view s u
  spills_more s t u so step limit crowded = record {
    gone = e ∷ so.gone;
    from_end = so.from_end ∙ ap (λ ms. ms ++ so.gone) step.order ∙ append_assoc u.memory (e ∷ []) so.gone;
    crowded = each;
    few = λ h. subst (λ n. n < 8) so.same step.few;
    same = step.same ∙ so.same;
    taken = takes_another e so.gone s t u so.taken step.taken;
    times = step.times ∙ ap (λ n. raised n 1) so.times ∙ raised_again s.times (length so.gone) 1 ∙ ap (raised s.times) (add-one (length so.gone));
    news = λ q.
        ap (list_any (nat_eq q)) step.news ∙ list_any-append (nat_eq q) t.news (step.key ∷ [])
        ∙ ap (λ b. b || (nat_eq q step.key || false)) (so.news q) ∙ news_more q step.key step.held so.gone (is_news s q);
  }
    where
      e : ℕ × InMemory
      e = (step.key, step.held)

      each : (n : ℕ) → n < length (e ∷ so.gone) → IsCrowded u.limit (u.memory ++ take (suc n) (e ∷ so.gone))
      each zero h = subst (λ ms. IsCrowded u.limit ms) step.order (subst (λ l. IsCrowded l t.memory) limit crowded)
      each (suc n) h =
          let was : IsCrowded t.limit (t.memory ++ take (suc n) so.gone) = so.crowded n (omega arith) in
          subst (λ ms. IsCrowded u.limit ms) (ap (λ ms. ms ++ take (suc n) so.gone) step.order ∙ sym (in_front u.memory so.gone e n)) (subst (λ l. IsCrowded l (t.memory ++ take (suc n) so.gone)) limit was)

  -- and then no more
  pub spills_until : (s t u : Kept D) (rest : Rest) → SpillsSome view s t → StaysIn view rest t u → t.limit ≡ u.limit → SpillsUntil view s u rest
  spills_until s t u rest so stop limit = record {
    gone = so.gone;
    from_end = so.from_end ∙ ap (λ ms. ms ++ so.gone) (sym stop.memory);
    crowded = λ n h. subst (λ ms. IsCrowded u.limit (ms ++ take (suc n) so.gone)) (sym stop.memory) (subst (λ l. IsCrowded l (t.memory ++ take (suc n) so.gone)) limit (so.crowded n h));
    few = so.few;
    ends = subst (λ n. Ends view n u rest) so.same stop.ends;
    taken = takes_still so.gone s t u so.taken stop.taken;
    times = stop.times ∙ so.times;
    news = λ q. ap (list_any (nat_eq q)) stop.news ∙ so.news q;
  }

  pub spills_to_room : (s t : Kept D) → SpillsSome view s t → ¬ IsCrowded t.limit t.memory → SpillsUntil view s t Room
  spills_to_room s t so room = record { gone = so.gone; from_end = so.from_end; crowded = so.crowded; few = so.few; ends = room; taken = so.taken; times = so.times; news = so.news }

  -- the rule, from the order in which a call left the blocks
  abbrev pub spilled_from : (order : List (ℕ × InMemory)) (s t u : Kept D) (rest : Rest) → t.memory ≡ order → t.times ≡ s.times → t.news ≡ s.news → SameDisk view s.shelf t.shelf → SameDisk view t.shelf u.shelf → SpillsUntil view t u rest → Spills view order s u
  spilled_from order s t u rest e n m f g so = record {
    gone = so.gone;
    rest = rest;
    faults = faults_of view t.shelf;
    from_end = sym e ∙ so.from_end;
    crowded = so.crowded;
    later = later_faults s.shelf t.shelf f;
    sooner = later_faults t.shelf u.shelf g;
    few = so.few;
    ends = so.ends;
    times = so.times ∙ ap (λ k. raised k (length so.gone)) n;
    news = λ q. so.news q ∙ ap (λ ks. is_among q so.gone || list_any (nat_eq q) ks) m;
  }
