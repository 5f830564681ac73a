-- Where an index lies in a broadcast shape, each operand's index lies in the operand's shape.
use Rattle.std.proofs.Common.{◌≡◌, ◌≢◌, ℕ, zero, suc, ◌+◌, ◌-◌, ◌<◌, ◌≤◌, List, [], ◌∷◌, length, drop, get_or, cond, Bool, true, false, Some, None, refl, ap, sym, subst, ◌∙◌, arith, inl, inr}
use Rattle.std.specs.Prelude.{nat_eq, nat_lt, Contains, Option}
use Rattle.std.proofs.lemmas.List.FromFn.{length-map-range_with_len, get_or-map-range_with_len}
use Rattle.std.proofs.lemmas.List.{get_or-drop, get_or-map, length-drop, length-map, get_or_default}
use Rattle.std.proofs.lemmas.Bool.{cases_eq}
use Rattle.small_facts.proofs.Numbers.{place_under_one}
use Rattle.nd_shape.specs.Index.{IsIn}
use Rattle.nd_shape.specs.Broadcast.{axes_of, length_on, lengths_on, agrees, common, misfit_with, first_misfit, or_else, broadcast, Agree}
use Rattle.nd_shape.proofs.Places.{IsIn-length}
use Rattle.nd_shape.proofs.Axes.{IsIn-at, IsIn-from}
use Rattle.nd_grid.specs.Grid.{under, under_along}

pub under_along-at : (ns js : List ℕ) (k : ℕ) → k < length ns → k < length js → get_or (under_along ns js) k 0 ≡ cond (nat_eq (get_or ns k 0) 1) 0 (get_or js k 0)
under_along-at [] js k h b = absurd (omega arith)
under_along-at (n ∷ ns) [] k h b = absurd (omega arith)
under_along-at (n ∷ ns) (j ∷ js) zero h b = refl
under_along-at (n ∷ ns) (j ∷ js) (suc k) h b = under_along-at ns js k (omega arith) (omega arith)

pub length-under_along : (ns js : List ℕ) → length js ≡ length ns → length (under_along ns js) ≡ length ns
length-under_along [] js e = refl
length-under_along (n ∷ ns) [] e = absurd (omega arith)
length-under_along (n ∷ ns) (j ∷ js) e = ap suc (length-under_along ns js (omega arith))

-- ---- the common length

or_else-none : (p q : Option (ℕ × ℕ)) → or_else p q ≡ None → (p ≡ None) × (q ≡ None)
or_else-none None q h = (refl, h)
or_else-none (Some p) q h = cc

misfit_with-none : (m n : ℕ) (ns : List ℕ) (b : Bool) → cond b (misfit_with m ns) (Some (m, n)) ≡ None → (b ≡ true) × (misfit_with m ns ≡ None)
misfit_with-none m n ns true h = (refl, h)
misfit_with-none m n ns false h = cc

agrees-all : (m : ℕ) (ns : List ℕ) (j : ℕ) → misfit_with m ns ≡ None → j < length ns → agrees m (get_or ns j 1) ≡ true
agrees-all m [] j h b = absurd (omega arith)
agrees-all m (n ∷ ns) zero h b = (misfit_with-none m n ns (agrees m n) h).0
agrees-all m (n ∷ ns) (suc j) h b = agrees-all m ns j (misfit_with-none m n ns (agrees m n) h).1 (omega arith)

agreed : (m n : ℕ) → agrees m n ≡ true → m ≢ 1 → n ≢ 1 → m ≡ n
agreed m n h a b = grind arith

pub taken : (n c : ℕ) → n ≢ 1 → cond (nat_eq n 1) c n ≡ n
taken n c h = grind arith

pub passed : (n c : ℕ) → n ≡ 1 → cond (nat_eq n 1) c n ≡ c
passed n c h = grind arith

pub common-member : (ls : List ℕ) (j : ℕ) → first_misfit ls ≡ None → j < length ls → get_or ls j 1 ≢ 1 → common ls ≡ get_or ls j 1
common-member [] j h b ne = absurd (omega arith)
common-member (n ∷ ns) zero h b ne = taken n (common ns) ne
common-member (n ∷ ns) (suc j) h b ne =
    let both = or_else-none (misfit_with n ns) (first_misfit ns) h in
    elim (cases_eq n 1) [
      | inl e ↦ passed n (common ns) e ∙ common-member ns j both.1 (omega arith) ne
      | inr d ↦ taken n (common ns) d ∙ agreed n (get_or ns j 1) (agrees-all n ns j both.0 (omega arith)) d ne
    ]

pub axes-member : (shapes : List (List ℕ)) (j : ℕ) (ns : List ℕ) → j < length shapes → get_or shapes j ns ≡ ns → length ns ≤ axes_of shapes
axes-member [] j ns h e = absurd (omega arith)
axes-member (ms ∷ shapes) zero ns h e = let l : length ms ≡ length ns = ap length e in omega arith
axes-member (ms ∷ shapes) (suc j) ns h e = let r : length ns ≤ axes_of shapes = axes-member shapes j ns (omega arith) e in omega arith

pub length-broadcast : (shapes : List (List ℕ)) → length (broadcast shapes) ≡ axes_of shapes
length-broadcast shapes = length-map-range_with_len (λ k. common (lengths_on shapes k)) 0 (axes_of shapes)

pub broadcast-at : (shapes : List (List ℕ)) (k : ℕ) → k < axes_of shapes → get_or (broadcast shapes) k 0 ≡ common (lengths_on shapes k)
broadcast-at shapes k h = get_or-map-range_with_len (λ k. common (lengths_on shapes k)) 0 (axes_of shapes) k k 0 h (omega arith)

-- the length of a shape on an axis that it has
pub length_on-own : (axes k : ℕ) (ns : List ℕ) → length ns ≤ axes → k < length ns → length_on axes (axes - length ns + k) ns ≡ get_or ns k 0
length_on-own axes k ns h b =
    let e : axes - length ns + k - (axes - length ns) ≡ k = omega arith in
    not_front (axes - length ns + k) (axes - length ns) (get_or ns (axes - length ns + k - (axes - length ns)) 1) (omega arith) ∙ ap (λ j. get_or ns j 1) e ∙ get_or_default ns k 1 0 b
  where
    not_front : (a b c : ℕ) → b ≤ a → cond (nat_lt a b) 1 c ≡ c
    not_front a b c h = grind arith

clipped-in : (n i : ℕ) → (n ≢ 1 → i < n) → cond (nat_eq n 1) 0 i < n
clipped-in n i h = elim (cases_eq n 1) [ inl e ↦ let z : cond (nat_eq n 1) 0 i ≡ 0 = place_under_one n i e in omega arith | inr d ↦ let z : cond (nat_eq n 1) 0 i ≡ i = kept n i d in let b : i < n = h d in omega arith ]
  where
    kept : (n i : ℕ) → n ≢ 1 → cond (nat_eq n 1) 0 i ≡ i
    kept n i e = grind arith

pub under-in : (shapes : List (List ℕ)) (ns is : List ℕ) → Contains shapes ns → Agree shapes → IsIn (broadcast shapes) is → IsIn ns (under ns is)
under-in shapes ns is member a h =
    let axes = axes_of shapes in
    let small : length ns ≤ axes = axes-member shapes member.0 ns member.1 member.2 in
    let li : length is ≡ axes = IsIn-length (broadcast shapes) is h ∙ length-broadcast shapes in
    let front = length is - length ns in
    let ld : length (drop front is) ≡ length ns = omega (arith, length-drop front is) in
    IsIn-from ns (under ns is) (length-under_along ns (drop front is) ld) (λ k b.
    let hk : k < length (drop front is) = omega arith in
    let at : get_or (under ns is) k 0 ≡ cond (nat_eq (get_or ns k 0) 1) 0 (get_or is (front + k) 0) =
    under_along-at ns (drop front is) k b hk ∙ ap (λ i. cond (nat_eq (get_or ns k 0) 1) 0 i) (get_or-drop front is k 0) in
    let inside : front + k < axes = omega arith in
    let place : front + k ≡ axes - length ns + k = omega arith in
    let lower : get_or is (front + k) 0 < get_or (broadcast shapes) (front + k) 0 = IsIn-at (broadcast shapes) is (front + k) h (omega (arith, length-broadcast shapes)) in
    let own : get_or (lengths_on shapes (front + k)) member.0 1 ≡ get_or ns k 0 =
    get_or-map (length_on axes (front + k)) shapes member.0 ns 1 member.1 ∙ ap (length_on axes (front + k)) member.2 ∙ ap (λ j. length_on axes j ns) place ∙ length_on-own axes k ns small b in
    let hl : member.0 < length (lengths_on shapes (front + k)) = omega (arith, length-map shapes (length_on axes (front + k)), member.1) in
    let le : get_or ns k 0 ≢ 1 → get_or is (front + k) 0 < get_or ns k 0 = λ ne.
    let c : common (lengths_on shapes (front + k)) ≡ get_or ns k 0 = common-member (lengths_on shapes (front + k)) member.0 (a.each (front + k) inside) hl (λ z. ne (sym own ∙ z)) ∙ own in
    omega (arith, broadcast-at shapes (front + k) inside, c, lower) in
    subst (λ i. i < get_or ns k 0) (sym at) (clipped-in (get_or ns k 0) (get_or is (front + k) 0) le))

pub under-axes : (ns is : List ℕ) → IsIn ns (under ns is) → length ns ≤ length is
under-axes ns is h = along ns (drop (length is - length ns) is) h (omega (arith, length-drop (length is - length ns) is))
  where
    longer : (ns js : List ℕ) → IsIn ns (under_along ns js) → length ns ≤ length js
    longer [] js h = omega arith
    longer (n ∷ ns) [] h = absurd h
    longer (n ∷ ns) (j ∷ js) h = let r : length ns ≤ length js = longer ns js h.1 in omega arith

    along : (ns js : List ℕ) → IsIn ns (under_along ns js) → length js ≤ length is → length ns ≤ length is
    along ns js h b = let r : length ns ≤ length js = longer ns js h in omega arith

pub under-at : (ns is : List ℕ) (k : ℕ) → length ns ≤ length is → k < length ns → get_or (under ns is) k 0 ≡ cond (nat_eq (get_or ns k 0) 1) 0 (get_or is (length is - length ns + k) 0)
under-at ns is k h b =
    let front = length is - length ns in
    let hk : k < length (drop front is) = omega (arith, length-drop front is) in
    under_along-at ns (drop front is) k b hk ∙ ap (λ i. cond (nat_eq (get_or ns k 0) 1) 0 i) (get_or-drop front is k 0)

pub length-under : (ns is : List ℕ) → length ns ≤ length is → length (under ns is) ≡ length ns
length-under ns is h = let front = length is - length ns in length-under_along ns (drop front is) (omega (arith, length-drop front is))
