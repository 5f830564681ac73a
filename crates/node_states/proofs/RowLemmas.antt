-- A row of blocks as a store.
use Rattle.std.proofs.Common.{◌≡◌, ℕ, zero, suc, ◌<◌, ◌≤◌, Bool, true, false, cond, List, [], ◌∷◌, ◌++◌, length, get_or, set, Option, Some, None, refl, sym, ap, ◌∙◌, subst, arith}
use Rattle.std.specs.Prelude.{◌==◌}
use Rattle.std.specs.Option.{option_map_or}
use Rattle.std.proofs.lemmas.Bool.{false≢true, eqb-true}
use Rattle.std.proofs.lemmas.Bool.Decides.{nat_tests}
use Rattle.std.proofs.lemmas.List.{get_or-set_same, get_or-set_other, get_or_past}
use Rattle.small_facts.proofs.Truth.{cond_same}
use Rattle.cluster_rules.specs.Functions.{put}
use Rattle.node_states.specs.Stores.{PutsAside, Puts, Finds, Misses, Removes, IsSame, IsStock, KeepsNone, HasTold, is_at, row_stock}

module _ {K : Type 0} (f : K → ℕ) where
  abbrev is_key : Option K → ℕ → Bool
  is_key o q = option_map_or (λ x. f x == q) o false

  apart : (q at : ℕ) → (q == at) ≡ false → ¬ (q ≡ at)
  apart q at h e = grind (arith, nat_tests)

  place : (xs : List (Option K)) (at q : ℕ) (y : Option K) → at < length xs → (b : Bool) → b ≡ (q == at) → get_or (set xs at y) q None ≡ cond b y (get_or xs q None)
  place xs at q y l true e = subst (λ (j : ℕ). get_or (set xs at y) j None ≡ y) (sym (eqb-true q at (sym e))) (get_or-set_same xs at y None l)
  place xs at q y l false e = get_or-set_other xs at q y None (apart q at (sym e))

  at_set : (xs : List (Option K)) (at q : ℕ) (y : Option K) → at < length xs → is_at f (set xs at y) q ≡ cond (q == at) (is_key y q) (is_at f xs q)
  at_set xs at q y l = ap (λ o. is_key o q) (place xs at q y l (q == at) refl) ∙ pick (q == at)
    where
      pick : (b : Bool) → is_key (cond b y (get_or xs q None)) q ≡ cond b (is_key y q) (is_at f xs q)
      pick true = refl
      pick false = refl

  nowhere : (at q : ℕ) → put (λ k. false) at false q ≡ false
  nowhere at q = cond_same (q == at) false

  no_one_aside : (at : ℕ) (xs ys : List (Option K)) → PutsAside (put (λ k. false) at false) (row_stock f xs) (row_stock f ys)
  no_one_aside at xs ys = record {
    stays = λ q h. absurd (false≢true (sym (nowhere at q) ∙ h));
    news = λ q h. h;
    fresh = λ q n h. absurd (false≢true h);
  }

  none_aside : (xs ys : List (Option K)) → PutsAside (λ k. false) (row_stock f xs) (row_stock f ys)
  none_aside xs ys = record { stays = λ q h. absurd (false≢true h); news = λ q h. h; fresh = λ q n h. absurd (false≢true h) }

  -- a block at its place
  pub row_puts : (xs : List (Option K)) (x : K) (at : ℕ) → f x ≡ at → at < length xs → Puts at (row_stock f xs) (row_stock f (set xs at (Some x)))
  row_puts xs x at e l = record { kept = record { each = λ q. at_set xs at q (Some x) l ∙ pick q (q == at) refl }; aside = no_one_aside at xs (set xs at (Some x)) }
    where
      its : (q : ℕ) → q ≡ at → (f x == q) ≡ true
      its q h = grind (arith, nat_tests)

      pick : (q : ℕ) (b : Bool) → b ≡ (q == at) → cond b (f x == q) (is_at f xs q) ≡ cond b true (is_at f xs q)
      pick q true h = its q (eqb-true q at (sym h))
      pick q false h = refl

  pub row_removes : (xs : List (Option K)) (at : ℕ) → at < length xs → Removes at (row_stock f xs) (row_stock f (set xs at None))
  row_removes xs at l = record { kept = record { each = λ q. at_set xs at q None l }; aside = λ q. sym (nowhere at q); news = refl }

  -- a key past the end
  pub row_past : (xs : List (Option K)) (at : ℕ) → length xs ≤ at → is_at f xs at ≡ false
  row_past xs at l = ap (λ o. is_key o at) (get_or_past xs at None l)

  pub row_keeps : (xs : List (Option K)) (at : ℕ) → length xs ≤ at → Removes at (row_stock f xs) (row_stock f xs)
  row_keeps xs at l = record { kept = record { each = λ q. pick q (q == at) refl }; aside = λ q. sym (nowhere at q); news = refl }
    where
      pick : (q : ℕ) (b : Bool) → b ≡ (q == at) → is_at f xs q ≡ cond b false (is_at f xs q)
      pick q true h = subst (λ (j : ℕ). is_at f xs j ≡ false) (sym (eqb-true q at (sym h))) (row_past xs at l)
      pick q false h = refl

  pub row_finds : (xs : List (Option K)) (at : ℕ) → is_at f xs at ≡ true → Finds at (row_stock f xs) (row_stock f xs)
  row_finds xs at h = record { was = h; kept = record { each = λ q. refl }; aside = none_aside xs xs }

  pub row_misses : (xs : List (Option K)) (at : ℕ) → is_at f xs at ≡ false → Misses at (row_stock f xs) (row_stock f xs)
  row_misses xs at h = record { was = h; kept = record { each = λ q. refl }; aside = none_aside xs xs }

  pub row_same : (xs : List (Option K)) → IsSame (row_stock f xs) (row_stock f xs)
  row_same xs = record { kept = record { each = λ q. refl }; aside = λ q. refl; news = refl }

  pub row_tells : (xs : List (Option K)) → HasTold (row_stock f xs) (row_stock f xs)
  row_tells xs = record { all = refl; same = row_same xs }

  pub row_sound : (xs : List (Option K)) → IsStock (row_stock f xs)
  row_sound xs = record { kept = λ q h. absurd (false≢true h) }

  -- a row without blocks
  pub row_none : (xs : List (Option K)) → ((k : ℕ) → get_or xs k None ≡ None) → KeepsNone (row_stock f xs)
  row_none xs h q = ap (λ o. is_key o q) (h q)

  pub row_grows : (xs : List (Option K)) → ((k : ℕ) → get_or xs k None ≡ None) → (k : ℕ) → get_or (xs ++ None ∷ []) k None ≡ None
  row_grows [] h zero = refl
  row_grows [] h (suc k) = refl
  row_grows (x ∷ xs) h zero = h zero
  row_grows (x ∷ xs) h (suc k) = row_grows xs (λ j. h (suc j)) k
