-- What the calls of a store make of what it keeps.
use Rattle.std.proofs.Common.{◌≡◌, ◌⊎◌, ℕ, Bool, true, false, ◌||◌, cond, List, [], ◌∷◌, Option, Some, None, inl, inr, refl, sym, ap, ap₂, ◌∙◌, subst}
use Rattle.std.specs.Prelude.{◌==◌, is_some, nat_eq}
use Rattle.std.specs.Cmp.{nat_eq_equiv}
use Rattle.std.specs.List.{list_any}
use Rattle.std.specs.Map.{lookup}
use Rattle.std.proofs.lemmas.Bool.{eqb-true, or_parts, or_right}
use Rattle.small_facts.proofs.Truth.{cond_same}
use Rattle.nd_shape.specs.Block.{Array}
use Rattle.io_edge.specs.Disk.{DiskView}
use Rattle.cluster_rules.specs.Derived.{is_in}
use Rattle.cluster_rules.specs.Functions.{put}
use Rattle.node_states.specs.Stores.{Keeps, PutsAside, Puts, Finds, Misses, Loses, Removes, IsSame, IsStock, KeepsNone, Tells}
use Rattle.spill_store.specs.Memory.{InMemory}
use Rattle.spill_store.specs.Store.{Kept, AllStay, FindsHere, FindsThere, IsAway, OthersStay, TakesAnew, TakesMore, away_in, block_at, empty_store, is_among, is_news, is_spilled}
use Rattle.spill_store.specs.Store.{Puts as PutsIn, FindsNone, Loses as LosesIn, Removes as RemovesIn, IsSame as IsSameIn, Tells as TellsIn}
use Rattle.spill_store.specs.declared.lost.LostBy.{LostBy}
use Rattle.spill_store.proofs.Maps.{block_by, taken_by}
use Rattle.worker_store.specs.Keeping.{stock_of}

-- ## Keys

-- the same test, turned round
turned : {X : Type 0} (key q : ℕ) (x y : X) → cond (nat_eq key q) x y ≡ cond (q == key) x y
turned key q x y = ap (λ b. cond b x y) (nat_eq_equiv.symm key q)

module _ {D : Type 0} where
  -- which keys are kept once one has another block, or none
  pub kept_at : (key : ℕ) (o : Option Array) (s u : Kept D) → block_at u key ≡ o → OthersStay key s u → (q : ℕ)
      → is_some (block_at u q) ≡ cond (q == key) (is_some o) (is_some (block_at s q))
  kept_at key o s u here others q = by_key (nat_eq key q) refl ∙ turned key q (is_some o) (is_some (block_at s q))
    where
      by_key : (b : Bool) → nat_eq key q ≡ b → is_some (block_at u q) ≡ cond (nat_eq key q) (is_some o) (is_some (block_at s q))
      by_key true t = ap is_some (subst (λ j. block_at u j ≡ o) (eqb-true key q t) here) ∙ ap (λ b. cond b (is_some o) (is_some (block_at s q))) (sym t)
      by_key false t = ap is_some (others.each q t) ∙ ap (λ b. cond b (is_some o) (is_some (block_at s q))) (sym t)

  pub kept_still : (s u : Kept D) → AllStay s u → Keeps (stock_of s).kept (stock_of u)
  kept_still s u all = record { each = λ q. ap is_some (all.each q) }

-- ## What was put aside

module _ {D : Type 0} where
  -- whether a key is news, by the words of either store
  news_is : (q : ℕ) (s : Kept D) → is_news s q ≡ is_in q s.news
  news_is q s = by_list s.news
    where
      by_list : (ks : List ℕ) → list_any (nat_eq q) ks ≡ is_in q ks
      by_list [] = refl
      by_list (k ∷ ks) = ap₂ ◌||◌ (nat_eq_equiv.symm q k) (by_list ks)

  -- some more were put aside than those that had been
  pub aside_by : (before : ℕ → Bool) (gone : List (ℕ × InMemory)) (s u : Kept D)
      → ((q : ℕ) → is_spilled u q ≡ cond (is_among q gone) true (before q)) → ((q : ℕ) → is_news u q ≡ (is_among q gone || is_news s q))
      → PutsAside before (stock_of s) (stock_of u)
  aside_by before gone s u each news = record {
    stays = λ q h. each q ∙ ap (cond (is_among q gone) true) h ∙ cond_same (is_among q gone) true;
    news = λ q h. sym (news_is q u) ∙ news q ∙ or_right (is_among q gone) (is_news s q) (news_is q s ∙ h);
    fresh = λ q n h. ap (λ b. cond b true (before q)) (sym (or_parts (is_among q gone) (is_news s q) (sym (news q) ∙ news_is q u ∙ n)).0) ∙ sym (each q) ∙ h;
  }

  pub aside_more : (gone : List (ℕ × InMemory)) (s u : Kept D) → TakesMore gone s u → ((q : ℕ) → is_news u q ≡ (is_among q gone || is_news s q))
      → PutsAside (stock_of s).aside (stock_of s) (stock_of u)
  aside_more gone s u t news = aside_by (is_spilled s) gone s u t.each news

  pub aside_anew : (key : ℕ) (gone : List (ℕ × InMemory)) (s u : Kept D) → TakesAnew key gone s u → ((q : ℕ) → is_news u q ≡ (is_among q gone || is_news s q))
      → PutsAside (put (stock_of s).aside key false) (stock_of s) (stock_of u)
  aside_anew key gone s u t news = aside_by (put (is_spilled s) key false) gone s u (λ q. t.each q ∙ ap (cond (is_among q gone) true) (turned key q false (is_spilled s q))) news

  -- a block on the disk alone
  pub away_is : (key : ℕ) (a : Array) (s : Kept D) → IsAway s key a → block_at s key ≡ Some a
  away_is key a s was = ap₂ block_by was.not_here was.there

  pub away_spilled : (key : ℕ) (a : Array) (s : Kept D) → IsAway s key a → is_spilled s key ≡ true
  away_spilled key a s was = ap₂ taken_by was.not_here was.there

  -- what was put aside is kept
  pub stock_sound : (s : Kept D) → IsStock (stock_of s)
  stock_sound s = record { kept = λ q h. by_place (lookup (nat_eq q) s.memory) (lookup (nat_eq q) (away_in s.shelf)) h }
    where
      by_place : (m : Option InMemory) (w : Option Array) → taken_by m w ≡ true → is_some (block_by m w) ≡ true
      by_place (Some h) w e = refl
      by_place None w e = e

  pub none_kept : (disk : Option D) (limit : ℕ) → KeepsNone (stock_of (empty_store disk limit))
  none_kept None limit = λ q. refl
  none_kept (Some d) limit = λ q. refl

  pub stock_same : (s u : Kept D) → IsSameIn s u → IsSame (stock_of s) (stock_of u)
  stock_same s u e = record {
    kept = record { each = λ q. ap is_some (ap₂ block_by (ap (lookup (nat_eq q)) e.memory) (ap (lookup (nat_eq q)) e.away)) };
    aside = λ q. ap₂ taken_by (ap (lookup (nat_eq q)) e.memory) (ap (lookup (nat_eq q)) e.away);
    news = e.news;
  }

-- ## The calls

module _ {D : Type 0} (view : D → DiskView) where
  pub stock_puts : (key : ℕ) (a : Array) (s u : Kept D) → PutsIn view key a s u → Puts key (stock_of s) (stock_of u)
  stock_puts key a s u p = record {
    kept = record { each = kept_at key (Some a) s u p.here p.others };
    aside = aside_anew key p.spills.gone s u p.taken p.spills.news;
  }

  here_finds : (key : ℕ) (a : Array) (s u : Kept D) → FindsHere view key a s u → Finds key (stock_of s) (stock_of u)
  here_finds key a s u f = record {
    was = ap is_some (ap (λ m. block_by m (lookup (nat_eq key) (away_in s.shelf))) f.uses.was);
    kept = kept_still s u f.all;
    aside = aside_more f.spills.gone s u f.taken f.spills.news;
  }

  there_finds : (key : ℕ) (a : Array) (s u : Kept D) → FindsThere view key a s u → Finds key (stock_of s) (stock_of u)
  there_finds key a s u f = record {
    was = was;
    kept = record { each = λ q. kept_at key (Some a) s u f.here f.others q ∙ by_key q (nat_eq q key) refl };
    aside = aside_more f.spills.gone s u f.taken f.spills.news;
  }
    where
      was : is_some (block_at s key) ≡ true
      was = ap is_some (away_is key f.array s f.was)

      by_key : (q : ℕ) (b : Bool) → nat_eq q key ≡ b → cond b true (is_some (block_at s q)) ≡ is_some (block_at s q)
      by_key q true t = sym (subst (λ j. is_some (block_at s j) ≡ true) (sym (eqb-true q key t)) was)
      by_key q false t = refl

  pub stock_finds : (key : ℕ) (a : Array) (s u : Kept D) → FindsHere view key a s u ⊎ FindsThere view key a s u → Finds key (stock_of s) (stock_of u)
  stock_finds key a s u (inl f) = here_finds key a s u f
  stock_finds key a s u (inr f) = there_finds key a s u f

  pub stock_misses : (key : ℕ) (s u : Kept D) → FindsNone view key s u → Misses key (stock_of s) (stock_of u)
  stock_misses key s u f = record {
    was = ap is_some f.was;
    kept = kept_still s u f.all;
    aside = aside_more f.spills.gone s u f.taken f.spills.news;
  }

  pub stock_loses : (key : ℕ) (by : LostBy) (s u : Kept D) → LosesIn view key by s u → Loses key (stock_of s) (stock_of u)
  stock_loses key by s u f = record {
    was = away_spilled key f.array s f.was;
    kept = record { each = kept_at key None s u f.gone f.others };
    aside = aside_anew key f.spills.gone s u f.taken f.spills.news;
  }

module _ {D : Type 0} where
  pub stock_removes : (key : ℕ) (s u : Kept D) → RemovesIn key s u → Removes key (stock_of s) (stock_of u)
  stock_removes key s u r = record {
    kept = record { each = kept_at key None s u r.gone r.others };
    aside = λ q. r.taken.each q ∙ turned key q false (is_spilled s q);
    news = r.news;
  }

  -- it tells of a block that was put aside
  pub stock_tells : (s u : Kept D) (o : Option ℕ) → TellsIn s u o → Tells (stock_of s) (stock_of u) o
  stock_tells s u None t = record { all = t.0; same = record { kept = record { each = λ q. ap (λ (v : Kept D). is_some (block_at v q)) t.1 }; aside = λ q. ap (λ (v : Kept D). is_spilled v q) t.1; news = ap (λ (v : Kept D). v.news) t.1 } }
  stock_tells s u (Some k) t = record { one = t.0; kept = record { each = λ q. ap (λ (v : Kept D). is_some (block_at v q)) t.1 }; aside = λ q. ap (λ (v : Kept D). is_spilled v q) t.1 }
