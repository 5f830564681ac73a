-- Merges of lists by a number of their members.
use Rattle.std.proofs.Common.{◌≡◌, ℕ, ◌≤◌, Bool, true, false, not, ◌&&◌, cond, eqb, List, [], ◌∷◌, ◌++◌, length, filter, map, None, refl, sym, ap, ap₂, subst, ◌∙◌, arith, tests}
use Rattle.std.specs.List.{All, flat_map}
use Rattle.std.specs.List.Sorted.{IsNonDecreasingBy, IsStableByKey, ties}
use Rattle.std.specs.Ordering.{is_lt, nat_cmp}
use Rattle.std.proofs.lemmas.Bool.{eq-eqb}
use Rattle.std.proofs.lemmas.List.Elements.{All-filter, All-head, filter_agree, filter-append}
use Rattle.std.proofs.lemmas.List.Kept.{IsNonDecreasingBy-filter}
use Rattle.std.proofs.lemmas.List.Folds.{flat_map-map}
use Rattle.std.proofs.lemmas.List.Sorted.{IsNonDecreasingBy-drop}
use Rattle.cluster_msgs.specs.declared.events.Entry.{Entry}
use Rattle.cluster_msgs.specs.declared.events.Event.TheVariants.{Balance}
use Rattle.cluster_msgs.specs.declared.events.History.{History}
use Rattle.journal_audit.specs.Clients.{is_own, own_entries}
use Rattle.journal_audit.specs.Merges.{with_stamp, IsMerge}

-- numbers that tie are equal
tie-eqb : (s t : ℕ) → not (is_lt (nat_cmp s t)) && not (is_lt (nat_cmp t s)) ≡ eqb t s
tie-eqb s t = grind (arith, tests)

-- a stable sort by stamp keeps the entries of each stamp
kept-each : (xs ys : List Entry) → IsStableByKey (λ e. e.stamp) nat_cmp xs ys → (s : ℕ) → with_stamp s ys ≡ with_stamp s xs
kept-each xs ys stable s =
    let x : Entry = record { stamp = s; event = Balance; message = None } in
    let ties_are : (e : Entry) → ties (λ a b. is_lt (nat_cmp a.stamp b.stamp)) x e ≡ eqb e.stamp s = λ e. tie-eqb s e.stamp in
    sym (filter_agree _ _ ties_are ys) ∙ stable x ∙ filter_agree _ _ ties_are xs

-- what is sorted by stamp from the entries of histories, end to end
pub is_merge : (hs : List History) (xs ys : List Entry) → xs ≡ flat_map (λ h. h.entries) hs → IsNonDecreasingBy (λ e. e.stamp) ys → IsStableByKey (λ e. e.stamp) nat_cmp xs ys →
    IsMerge (map (λ h. h.entries) hs) ys
is_merge hs xs ys joined up stable = record {
  rising = up;
  each = λ s. kept-each xs ys stable s ∙ ap (with_stamp s) (joined ∙ sym (flat_map-map (λ es. es) (λ (h : History). h.entries) hs));
}

module _ {X : Type 0} (n : X → ℕ) where
  -- the first of a rising list is no higher than what a filter of it begins with
  first-le : (y : X) (ys : List X) (p : X → Bool) (x : X) (zs : List X) → IsNonDecreasingBy n (y ∷ ys) → filter p (y ∷ ys) ≡ x ∷ zs → n y ≤ n x
  first-le y ys p x zs up e =
      All-head (λ z. n y ≤ n z) x zs (subst (All (λ z. n y ≤ n z)) e (All-filter p (λ z. n y ≤ n z) (y ∷ ys) (λ k d l. up 0 k d (omega arith) l)))

  -- a member that passes stands in front of the others
  in_front : (x : X) (xs : List X) → filter (λ e. eqb (n e) (n x)) (x ∷ xs) ≡ x ∷ filter (λ e. eqb (n e) (n x)) xs
  in_front x xs = ap (λ b. cond b (x ∷ filter (λ e. eqb (n e) (n x)) xs) (filter (λ e. eqb (n e) (n x)) xs)) (eq-eqb (n x) (n x) refl)

  abbrev head_or : X → List X → X
  head_or d [] = d
  head_or d (x ∷ xs) = x

  abbrev rest : List X → List X
  rest [] = []
  rest (x ∷ xs) = xs

  without : (b : Bool) (x y : X) (xs ys : List X) → cond b (x ∷ xs) xs ≡ cond b (y ∷ ys) ys → xs ≡ ys
  without true x y xs ys e = ap rest e
  without false x y xs ys e = e

  -- rising lists with the same members of each number are equal
  pub same-each : (xs ys : List X) → IsNonDecreasingBy n xs → IsNonDecreasingBy n ys → ((s : ℕ) → filter (λ e. eqb (n e) s) xs ≡ filter (λ e. eqb (n e) s) ys) → xs ≡ ys
  same-each [] [] up vp h = refl
  same-each [] (y ∷ ys) up vp h = absurd (let e = ap length (h (n y) ∙ in_front y ys) in omega (arith, e))
  same-each (x ∷ xs) [] up vp h = absurd (let e = ap length (sym (in_front x xs) ∙ h (n x)) in omega (arith, e))
  same-each (x ∷ xs) (y ∷ ys) up vp h =
      let below = first-le y ys (λ e. eqb (n e) (n x)) x (filter (λ e. eqb (n e) (n x)) xs) vp (sym (h (n x)) ∙ in_front x xs) in
      let above = first-le x xs (λ e. eqb (n e) (n y)) y (filter (λ e. eqb (n e) (n y)) ys) up (h (n y) ∙ in_front y ys) in
      let level : n y ≡ n x = omega (arith, below, above) in
      let first : x ≡ y = ap (head_or x) (sym (in_front x xs) ∙ h (n x) ∙ ap (λ m. filter (λ e. eqb (n e) m) (y ∷ ys)) (sym level) ∙ in_front y ys) in
      let others = same-each xs ys (IsNonDecreasingBy-drop n 1 (x ∷ xs) up) (IsNonDecreasingBy-drop n 1 (y ∷ ys) vp) (λ s.
      without (eqb (n x) s) x y (filter (λ e. eqb (n e) s) xs) (filter (λ e. eqb (n e) s) ys)
      (h s ∙ ap (λ m. cond (eqb m s) (y ∷ filter (λ e. eqb (n e) s) ys) (filter (λ e. eqb (n e) s) ys)) level)) in
      ap₂ ◌∷◌ first others

pub one-merge : (lists : List (List Entry)) (xs ys : List Entry) → IsMerge lists xs → IsMerge lists ys → xs ≡ ys
one-merge lists xs ys a b = same-each (λ e. e.stamp) xs ys a.rising b.rising (λ s. a.each s ∙ sym (b.each s))

-- ## What passes a test

module _ (p : Entry → Bool) where
  -- two tests one after the other, in either order
  both-ways : (s : ℕ) (xs : List Entry) → with_stamp s (filter p xs) ≡ filter p (with_stamp s xs)
  both-ways s [] = refl
  both-ways s (x ∷ xs) = pick (p x) refl (eqb x.stamp s) refl (both-ways s xs)
    where
      pick : (b : Bool) → p x ≡ b → (c : Bool) → eqb x.stamp s ≡ c → with_stamp s (filter p xs) ≡ filter p (with_stamp s xs)
          → with_stamp s (cond b (x ∷ filter p xs) (filter p xs)) ≡ filter p (cond c (x ∷ with_stamp s xs) (with_stamp s xs))
      pick true i true e r = ap (λ c. cond c (x ∷ with_stamp s (filter p xs)) (with_stamp s (filter p xs))) e ∙ ap (λ ys. x ∷ ys) r ∙ ap (λ b. cond b (x ∷ filter p (with_stamp s xs)) (filter p (with_stamp s xs))) (sym i)
      pick true i false e r = ap (λ c. cond c (x ∷ with_stamp s (filter p xs)) (with_stamp s (filter p xs))) e ∙ r
      pick false i true e r = r ∙ ap (λ b. cond b (x ∷ filter p (with_stamp s xs)) (filter p (with_stamp s xs))) (sym i)
      pick false i false e r = r

  passes_each : (lists : List (List Entry)) → filter p (flat_map (λ es. es) lists) ≡ flat_map (filter p) lists
  passes_each [] = refl
  passes_each (xs ∷ xss) = filter-append p xs (flat_map (λ es. es) xss) ∙ ap (λ ys. filter p xs ++ ys) (passes_each xss)

  -- of a merge it passes what it passes of the lists, where that rises
  pub part_of_merge : (lists : List (List Entry)) (all part : List Entry) → IsMerge lists all → flat_map (filter p) lists ≡ part → IsNonDecreasingBy (λ e. e.stamp) part → filter p all ≡ part
  part_of_merge lists all part m is up = same-each (λ e. e.stamp) (filter p all) part (IsNonDecreasingBy-filter (λ e. e.stamp) p all m.rising) up
      (λ s. both-ways s all ∙ ap (filter p) (m.each s) ∙ sym (both-ways s (flat_map (λ es. es) lists)) ∙ ap (with_stamp s) (passes_each lists ∙ is))

-- the entries of a client's own
pub own_of_merge : (lists : List (List Entry)) (es own : List Entry) (c : ℕ) → IsMerge lists es → flat_map (own_entries c) lists ≡ own → IsNonDecreasingBy (λ e. e.stamp) own → own_entries c es ≡ own
own_of_merge lists es own c m is up = part_of_merge (λ e. is_own c e.event) lists es own m is up
