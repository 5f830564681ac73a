-- The least of some keys that failed, and one more key.
use Rattle.std.proofs.Common.{◌≡◌, ◌≢◌, ◌<◌, ◌≤◌, ◌+◌, ℕ, List, length, take, get_or, Option, Some, None, All, Contains, arith, rules, sym, subst, ◌∙◌, cond, nat_le, Bool, true, false, refl}
use Rattle.std.proofs.lemmas.List.{get_or-take, length-take-le}
use Rattle.std.proofs.lemmas.List.Elements.{All-more, Contains-get_or}
use Rattle.cluster_msgs.specs.declared.cores.End.{End}
use Rattle.cluster_msgs.specs.declared.cores.End.TheVariants.{Got, Erred}
use Rattle.client_futures.specs.Answers.{IsLeast, IsLeastErred, AllStand}
use Rattle.client_futures.specs.Least.{lesser}

module _ (ends : ℕ → Option End) (keys : List ℕ) (at : ℕ) (lt : at < length keys) where
  -- a key that is among the first so many is among one more
  contained_more : (k : ℕ) → Contains (take at keys) k → Contains (take (at + 1) keys) k
  contained_more k (i, below, is) =
      let few : length (take at keys) ≡ at = length-take-le at keys (omega arith) in
      let more : length (take (at + 1) keys) ≡ at + 1 = length-take-le (at + 1) keys (omega arith) in
      (i, omega arith, get_or-take (at + 1) keys i k (omega arith) ∙ (sym (get_or-take at keys i k (omega arith)) ∙ is))

  -- the last of one more
  contained_last : Contains (take (at + 1) keys) (get_or keys at 0)
  contained_last =
      let more : length (take (at + 1) keys) ≡ at + 1 = length-take-le (at + 1) keys (omega arith) in
      subst (Contains (take (at + 1) keys)) (get_or-take (at + 1) keys at 0 (omega arith)) (Contains-get_or (take (at + 1) keys) at 0 (omega arith))

  -- one more that didn't fail
  stands_more : (least : Option (ℕ × ℕ)) → ((b : ℕ) → ends (get_or keys at 0) ≢ Some (Erred b)) → IsLeast ends (take at keys) least
      → IsLeast ends (take (at + 1) keys) least
  stands_more None stands h = All-more (λ k. (b : ℕ) → ends k ≢ Some (Erred b)) keys at 0 lt h stands
  stands_more (Some (key, blame)) stands h = record {
    wanted = contained_more key h.wanted;
    erred = h.erred;
    least = All-more (λ k. (b : ℕ) → ends k ≡ Some (Erred b) → key ≤ k) keys at 0 lt h.least (λ b erred. absurd (stands b erred));
  }

  -- one more that isn't less
  stays_more : (key blame : ℕ) → key ≤ get_or keys at 0 → IsLeastErred ends (take at keys) key blame → IsLeastErred ends (take (at + 1) keys) key blame
  stays_more key blame le h = record {
    wanted = contained_more key h.wanted;
    erred = h.erred;
    least = All-more (λ k. (b : ℕ) → ends k ≡ Some (Erred b) → key ≤ k) keys at 0 lt h.least (λ b erred. le);
  }

  -- the first that failed
  first_more : (blame : ℕ) → ends (get_or keys at 0) ≡ Some (Erred blame) → AllStand ends (take at keys)
      → IsLeastErred ends (take (at + 1) keys) (get_or keys at 0) blame
  first_more blame erred h = record {
    wanted = contained_last;
    erred = erred;
    least = All-more (λ k. (b : ℕ) → ends k ≡ Some (Erred b) → get_or keys at 0 ≤ k) keys at 0 lt (λ i d below b is. absurd (h i d below b is)) (λ b is. omega arith);
  }

  -- one more that is less
  lesser_more : (key before blame : ℕ) → get_or keys at 0 < key → ends (get_or keys at 0) ≡ Some (Erred blame)
      → IsLeastErred ends (take at keys) key before → IsLeastErred ends (take (at + 1) keys) (get_or keys at 0) blame
  lesser_more key before blame less erred h = record {
    wanted = contained_last;
    erred = erred;
    least = All-more (λ k. (b : ℕ) → ends k ≡ Some (Erred b) → get_or keys at 0 ≤ k) keys at 0 lt
        (λ i d below b is. let le : key ≤ get_or (take at keys) i d = h.least i d below b is in omega arith) (λ b is. omega arith);
  }

  erred_more : (least : Option (ℕ × ℕ)) (blame : ℕ) → ends (get_or keys at 0) ≡ Some (Erred blame) → IsLeast ends (take at keys) least
      → IsLeast ends (take (at + 1) keys) (lesser least (get_or keys at 0) (Some (Erred blame)))
  erred_more None blame erred h = first_more blame erred h
  erred_more (Some (key, before)) blame erred h = by_order (nat_le key (get_or keys at 0)) (search rules) (search rules)
    where
      by_order : (b : Bool) → (b ≡ true → key ≤ get_or keys at 0) → (b ≡ false → get_or keys at 0 < key)
          → IsLeast ends (take (at + 1) keys) (cond b (Some (key, before)) (Some (get_or keys at 0, blame)))
      by_order true le less = stays_more key before (le refl) h
      by_order false le less = lesser_more key before blame (less refl) erred h

  pub lesser_keeps : (least : Option (ℕ × ℕ)) (end : Option End) → ends (get_or keys at 0) ≡ end → IsLeast ends (take at keys) least
      → IsLeast ends (take (at + 1) keys) (lesser least (get_or keys at 0) end)
  lesser_keeps least None is h = stands_more least (λ b erred. absurd (none_is_not b (sym is ∙ erred))) h
    where
      none_is_not : (b : ℕ) → None ≡ Some (Erred b) → ⊥
      none_is_not b e = search rules
  lesser_keeps least (Some Got) is h = stands_more least (λ b erred. absurd (got_is_not b (sym is ∙ erred))) h
    where
      got_is_not : (b : ℕ) → Some Got ≡ Some (Erred b) → ⊥
      got_is_not b e = search rules
  lesser_keeps least (Some (Erred blame)) is h = erred_more least blame is h
