-- A table that the test passes is closed and has no conflict.
use Rattle.std.proofs.Common.{◌≡◌, ℕ, zero, suc, ◌<◌, ◌≤◌, ◌+◌, ◌^◌, Bool, true, false, ◌||◌, ◌&&◌, not, cond, nat_eq, nat_lt, is_some, List, [], ◌∷◌, inl, inr, length, Some, None, refl, ap, sym, subst, ◌∙◌, arith}
use Rattle.std.specs.Prelude.{Option, bit_and, bit_or, slice_get, slice_index_or}
use Rattle.std.specs.Int.{bit_at}
use Rattle.std.proofs.lemmas.Nat.Bits.{bit_at_or, bit_at_and, bit_at-pow_same, bit_at-zero, bit_at-lt}
use Rattle.std.proofs.lemmas.Bool.{and_parts, or_cases, eqb-true, ltb-true, false_from_ne_true}
use Rattle.std.proofs.lemmas.Option.{get_or_from_slice_get}
use Rattle.grammar.specs.declared.symbol.Symbol.{Symbol}
use Rattle.grammar.specs.declared.symbol.Symbol.TheVariants.{Token, Part, Action}
use Rattle.grammar.specs.Grammars.{cost}
use Rattle.grammar.specs.Tables.{Rows, rule_maybe, entry_rule, on_row, grammar_of, all_at, costs_less, moves_end}
use Rattle.grammar.specs.Tests.{Certificate, mask_at, flag_at, begin_mask, may_be_empty, within, followed, named, on_passes, on_mask, other_passes, lower_rule, lower_on, row_of, row_passes, is_ll1}
use Rattle.grammar.specs.Follow.{begins, empties, Followed, tables_of}
use Rattle.grammar.proofs.Clean.{IsClean, IsBounded}

is-one : (n : ℕ) → nat_eq n 1 ≡ true → n ≡ 1
is-one n h = grind arith

test-one : (n : ℕ) → 1 ≤ n → n < 2 → nat_eq n 1 ≡ true
test-one n h b = grind arith

-- ---- what passes at each number passes at one

pub all_at-get : {X : Type 0} (test : ℕ → X → Bool) (i : ℕ) (xs : List X) (j : ℕ) (x : X) → all_at test i xs ≡ true → slice_get xs j ≡ Some x → test (i + j) x ≡ true
all_at-get test i [] j x h g = cc
all_at-get test i (y ∷ xs) zero x h g =
    let e = and_parts (test i y) (all_at test (i + 1) xs) h in
    let same : y ≡ x = cc in
    let at : i ≡ i + 0 = omega arith in
    subst (λ k. test k x ≡ true) at (subst (λ z. test i z ≡ true) same e.0)
all_at-get test i (y ∷ xs) (suc j) x h g =
    let e = and_parts (test i y) (all_at test (i + 1) xs) h in
    let at : (i + 1) + j ≡ i + suc j = omega arith in
    subst (λ k. test k x ≡ true) at (all_at-get test (i + 1) xs j x e.1 g)

pub all_at-first : {X : Type 0} (test : ℕ → X → Bool) (xs : List X) (j : ℕ) (x : X) → all_at test 0 xs ≡ true → slice_get xs j ≡ Some x → test j x ≡ true
all_at-first test xs j x h g = let at : 0 + j ≡ j = omega arith in subst (λ k. test k x ≡ true) at (all_at-get test 0 xs j x h g)

-- ---- where a rule was found

pub record FoundOn (r : Rows) (p k : ℕ) (s : List Symbol) : Type 0 where
  pub row : List (Option ℕ)
  pub entry : Option ℕ
  pub row_is : slice_get r.on p ≡ Some row
  pub entry_is : slice_get row k ≡ Some entry
  pub rule_is : rule_maybe r entry ≡ Some s

pub on-found : (r : Rows) (p k : ℕ) (s : List Symbol) → (grammar_of r).on p k ≡ Some s → FoundOn r p k s
on-found r p k s h = by-row (slice_get r.on p) refl h
  where
    by-entry : (row : List (Option ℕ)) (e : Option (Option ℕ)) → slice_get r.on p ≡ Some row → slice_get row k ≡ e → entry_rule r e ≡ Some s → FoundOn r p k s
    by-entry row None a b h = cc
    by-entry row (Some o) a b h = record { row = row; entry = o; row_is = a; entry_is = b; rule_is = h }

    by-row : (o : Option (List (Option ℕ))) → slice_get r.on p ≡ o → on_row r k o ≡ Some s → FoundOn r p k s
    by-row None a h = cc
    by-row (Some row) a h = by-entry row (slice_get row k) a refl h

pub record FoundOther (r : Rows) (p : ℕ) (s : List Symbol) : Type 0 where
  pub entry : Option ℕ
  pub entry_is : slice_get r.other p ≡ Some entry
  pub rule_is : rule_maybe r entry ≡ Some s

pub other-found : (r : Rows) (p : ℕ) (s : List Symbol) → (grammar_of r).other p ≡ Some s → FoundOther r p s
other-found r p s h = by-entry (slice_get r.other p) refl h
  where
    by-entry : (o : Option (Option ℕ)) → slice_get r.other p ≡ o → entry_rule r o ≡ Some s → FoundOther r p s
    by-entry None a h = cc
    by-entry (Some entry) a h = record { entry = entry; entry_is = a; rule_is = h }

-- ---- what passed

pub record RowOk (r : Rows) (c : Certificate) (p : ℕ) (row : List (Option ℕ)) : Type 0 where
  pub on_ok : all_at (λ k o. on_passes r c p k (rule_maybe r o)) 0 row ≡ true
  pub lower_ok : (lower_rule c (mask_at c.ranks p) (entry_rule r (slice_get r.other p)) || lower_on r c (mask_at c.ranks p) row) ≡ true

pub row-ok : (r : Rows) (c : Certificate) (p : ℕ) (row : List (Option ℕ)) → is_ll1 r c ≡ true → slice_get r.on p ≡ Some row → RowOk r c p row
row-ok r c p row h g =
    let h' = and_parts (all_at (λ p row. row_passes r c p row) 0 r.on) (all_at (λ p o. other_passes r c p (row_of r p) (rule_maybe r o)) 0 r.other) h in
    let e = and_parts _ _ (all_at-first (λ p row. row_passes r c p row) r.on p row h'.0 g) in
    record { on_ok = e.0; lower_ok = e.1 }

pub record OnOk (r : Rows) (c : Certificate) (p k : ℕ) (s : List Symbol) : Type 0 where
  pub kind_ok : nat_lt k c.kinds ≡ true
  pub named_ok : named c.kinds (length r.on) s ≡ true
  pub starts_ok : within (2 ^ k) (mask_at c.starts p) ≡ true
  pub follow_ok : followed c (mask_at c.follow p) s ≡ true

pub on-ok : (r : Rows) (c : Certificate) (p k : ℕ) (s : List Symbol) → is_ll1 r c ≡ true → (grammar_of r).on p k ≡ Some s → OnOk r c p k s
on-ok r c p k s h g =
    let f = on-found r p k s g in
    let row = row-ok r c p f.row h f.row_is in
    let t = all_at-first (λ k o. on_passes r c p k (rule_maybe r o)) f.row k f.entry row.on_ok f.entry_is in
    parts (rule_maybe r f.entry) f.rule_is t
  where
    parts : (o : Option (List Symbol)) → o ≡ Some s → on_passes r c p k o ≡ true → OnOk r c p k s
    parts o e t =
        let t' : on_passes r c p k (Some s) ≡ true = subst (λ x. on_passes r c p k x ≡ true) e t in
        let a = and_parts (nat_lt k c.kinds && named c.kinds (length r.on) s) (within (2 ^ k) (mask_at c.starts p) && followed c (mask_at c.follow p) s) t' in
        let b = and_parts (nat_lt k c.kinds) (named c.kinds (length r.on) s) a.0 in
        let d = and_parts (within (2 ^ k) (mask_at c.starts p)) (followed c (mask_at c.follow p) s) a.1 in
        record { kind_ok = b.0; named_ok = b.1; starts_ok = d.0; follow_ok = d.1 }

pub record OtherOk (r : Rows) (c : Certificate) (p : ℕ) (on : List (Option ℕ)) (s : List Symbol) : Type 0 where
  pub begin_ok : within (begin_mask c s) (mask_at c.starts p) ≡ true
  pub empty_ok : (not (may_be_empty c s) || flag_at c.empty p) ≡ true
  pub follow_ok : followed c (mask_at c.follow p) s ≡ true
  pub apart : nat_eq (bit_and (on_mask r 0 on) (begin_mask c s)) 0 ≡ true
  pub after : (not (may_be_empty c s) || nat_eq (bit_and (on_mask r 0 on) (mask_at c.follow p)) 0) ≡ true
  pub named_ok : named c.kinds (length r.on) s ≡ true

other-parts : (r : Rows) (c : Certificate) (p : ℕ) (on : List (Option ℕ)) (s : List Symbol) → other_passes r c p on (Some s) ≡ true → OtherOk r c p on s
other-parts r c p on s h =
    let h1 = and_parts _ _ h in
    let h2 = and_parts _ _ h1.1 in
    let h3 = and_parts _ _ h2.1 in
    let h4 = and_parts _ _ h3.1 in
    let h5 = and_parts _ _ h4.1 in
    record { begin_ok = h1.0; empty_ok = h2.0; follow_ok = h3.0; apart = h4.0; after = h5.0; named_ok = h5.1 }

pub other-ok : (r : Rows) (c : Certificate) (p : ℕ) (s : List Symbol) → FoundOther r p s → is_ll1 r c ≡ true → OtherOk r c p (row_of r p) s
other-ok r c p s f h =
    let h' = and_parts (all_at (λ p row. row_passes r c p row) 0 r.on) (all_at (λ p o. other_passes r c p (row_of r p) (rule_maybe r o)) 0 r.other) h in
    let t = all_at-first (λ p o. other_passes r c p (row_of r p) (rule_maybe r o)) r.other p f.entry h'.1 f.entry_is in
    other-parts r c p (row_of r p) s (subst (λ x. other_passes r c p (row_of r p) x ≡ true) f.rule_is t)

-- ---- sets of bits

within-bit : (a b k : ℕ) → within a b ≡ true → bit_at a k ≤ bit_at b k
within-bit a b k h = let e : bit_or a b ≡ b = eqb-true (bit_or a b) b h in omega (arith, bit_at_or a b k, ap (λ m. bit_at m k) e)

-- a kind for which there is a rule
mask-bit : (r : Rows) (i : ℕ) (os : List (Option ℕ)) (j : ℕ) (o : Option ℕ) (s : List Symbol) → slice_get os j ≡ Some o → rule_maybe r o ≡ Some s → 1 ≤ bit_at (on_mask r i os) (i + j)
mask-bit r i [] j o s g h = cc
mask-bit r i (x ∷ os) zero o s g h =
    let same : x ≡ o = cc in
    let e : cond (is_some (rule_maybe r x)) (2 ^ i) 0 ≡ 2 ^ i = ap (λ y. cond (is_some y) (2 ^ i) 0) (ap (rule_maybe r) same ∙ h) in
    let at : i + 0 ≡ i = omega arith in
    subst (λ k. 1 ≤ bit_at (on_mask r i (x ∷ os)) k) (sym at)
    (omega (arith, bit_at_or (cond (is_some (rule_maybe r x)) (2 ^ i) 0) (on_mask r (i + 1) os) i, ap (λ m. bit_at m i) e, bit_at-pow_same i))
mask-bit r i (x ∷ os) (suc j) o s g h =
    let at : (i + 1) + j ≡ i + suc j = omega arith in
    let rest : 1 ≤ bit_at (on_mask r (i + 1) os) (i + suc j) = subst (λ k. 1 ≤ bit_at (on_mask r (i + 1) os) k) at (mask-bit r (i + 1) os j o s g h) in
    omega (arith, bit_at_or (cond (is_some (rule_maybe r x)) (2 ^ i) 0) (on_mask r (i + 1) os) (i + suc j), rest)

on-bit : (r : Rows) (p k : ℕ) (s : List Symbol) → (grammar_of r).on p k ≡ Some s → 1 ≤ bit_at (on_mask r 0 (row_of r p)) k
on-bit r p k s h =
    let f = on-found r p k s h in
    let same : row_of r p ≡ f.row = get_or_from_slice_get r.on p f.row [] f.row_is in
    let at : 0 + k ≡ k = omega arith in
    subst (λ x. 1 ≤ bit_at (on_mask r 0 x) k) (sym same) (subst (λ j. 1 ≤ bit_at (on_mask r 0 f.row) j) at (mask-bit r 0 f.row k f.entry s f.entry_is f.rule_is))

-- what may begin symbols stands in their set
begins-bit : (c : Certificate) (s : List Symbol) (k : ℕ) → begins (tables_of c) s k ≡ true → 1 ≤ bit_at (begin_mask c s) k
begins-bit c [] k h = cc
begins-bit c (Token j ∷ s) k h = let e : j ≡ k = eqb-true j k h in omega (arith, ap (λ i. bit_at (2 ^ i) k) e, bit_at-pow_same k)
begins-bit c (Action a ∷ s) k h = begins-bit c s k h
begins-bit c (Part p ∷ s) k h =
    let o = bit_at_or (mask_at c.starts p) (cond (flag_at c.empty p) (begin_mask c s) 0) k in
    elim (or_cases (nat_eq (bit_at (mask_at c.starts p) k) 1) (flag_at c.empty p && begins (tables_of c) s k) h) [
      | inl a ↦ omega (arith, o, is-one (bit_at (mask_at c.starts p) k) a)
      | inr b ↦ let e = and_parts (flag_at c.empty p) (begins (tables_of c) s k) b in
          let m : cond (flag_at c.empty p) (begin_mask c s) 0 ≡ begin_mask c s = ap (λ x. cond x (begin_mask c s) 0) e.0 in
          omega (arith, o, ap (λ x. bit_at x k) m, begins-bit c s k e.1)
    ]

empties-flag : (c : Certificate) (s : List Symbol) → empties (tables_of c) s ≡ true → may_be_empty c s ≡ true
empties-flag c [] h = refl
empties-flag c (Token j ∷ s) h = cc
empties-flag c (Action a ∷ s) h = empties-flag c s h
empties-flag c (Part p ∷ s) h = let e = and_parts (flag_at c.empty p) (empties (tables_of c) s) h in
    let f : may_be_empty c s ≡ true = empties-flag c s e.1 in
    rw (e.0, f) refl

-- the test of what follows
followed-all : (c : Certificate) (p : ℕ) (s : List Symbol) → followed c (mask_at c.follow p) s ≡ true → Followed (tables_of c) s ((tables_of c).follow p)
followed-all c p [] h = tt
followed-all c p (Token k ∷ s) h = followed-all c p s h
followed-all c p (Action a ∷ s) h = followed-all c p s h
followed-all c p (Part q ∷ s) h =
    let e = and_parts (within (bit_or (begin_mask c s) (cond (may_be_empty c s) (mask_at c.follow p) 0)) (mask_at c.follow q)) (followed c (mask_at c.follow p) s) h in (
      λ k b.
          let w = within-bit (bit_or (begin_mask c s) (cond (may_be_empty c s) (mask_at c.follow p) 0)) (mask_at c.follow q) k e.0 in
          let o = bit_at_or (begin_mask c s) (cond (may_be_empty c s) (mask_at c.follow p) 0) k in
          test-one (bit_at (mask_at c.follow q) k) (elim (or_cases (begins (tables_of c) s k) (empties (tables_of c) s && (tables_of c).follow p k) b) [
            | inl x ↦ omega (arith, w, o, begins-bit c s k x)
            | inr y ↦ let z = and_parts (empties (tables_of c) s) ((tables_of c).follow p k) y in
                let m : cond (may_be_empty c s) (mask_at c.follow p) 0 ≡ mask_at c.follow p = ap (λ x. cond x (mask_at c.follow p) 0) (empties-flag c s z.0) in
                omega (arith, w, o, ap (λ x. bit_at x k) m, is-one (bit_at (mask_at c.follow p) k) z.1)
          ]) (bit_at-lt (mask_at c.follow q) k),
      followed-all c p s e.1,
    )

implied : (a b : Bool) → (not a || b) ≡ true → a ≡ true → b ≡ true
implied true b h e = h
implied false b h e = cc

pub rows-clean : (r : Rows) (c : Certificate) → is_ll1 r c ≡ true → IsClean (grammar_of r) (tables_of c)
rows-clean r c h = record {
  starts_on = λ p k s g. let e = on-ok r c p k s h g in
      test-one (bit_at (mask_at c.starts p) k) (omega (arith, within-bit (2 ^ k) (mask_at c.starts p) k e.starts_ok, bit_at-pow_same k)) (bit_at-lt (mask_at c.starts p) k);
  starts_other = λ p k s g b. let e = other-ok r c p s (other-found r p s g) h in
      test-one (bit_at (mask_at c.starts p) k) (omega (arith, within-bit (begin_mask c s) (mask_at c.starts p) k e.begin_ok, begins-bit c s k b)) (bit_at-lt (mask_at c.starts p) k);
  empty_other = λ p s g b. let e = other-ok r c p s (other-found r p s g) h in implied (may_be_empty c s) (flag_at c.empty p) e.empty_ok (empties-flag c s b);
  follow_on = λ p k s g. let e = on-ok r c p k s h g in followed-all c p s e.follow_ok;
  follow_other = λ p s g. let e = other-ok r c p s (other-found r p s g) h in followed-all c p s e.follow_ok;
  apart = λ p k s o a b. let f = other-found r p o b in
      let e = other-ok r c p o f h in
      false_from_ne_true (begins (tables_of c) o k) (λ x.
      omega (arith, on-bit r p k s a, begins-bit c o k x, bit_at_and (on_mask r 0 (row_of r p)) (begin_mask c o) k, ap (λ m. bit_at m k) (eqb-true _ 0 e.apart), bit_at-zero k));
  apart_after = λ p k s o a b x. let f = other-found r p o b in
      let e = other-ok r c p o f h in
      false_from_ne_true (nat_eq (bit_at (mask_at c.follow p) k) 1) (λ t.
      omega (
        arith,
        on-bit r p k s a,
        is-one (bit_at (mask_at c.follow p) k) t,
        bit_at_and (on_mask r 0 (row_of r p)) (mask_at c.follow p) k,
        ap (λ m. bit_at m k) (eqb-true (bit_and (on_mask r 0 (row_of r p)) (mask_at c.follow p)) 0 (implied (may_be_empty c o) _ e.after (empties-flag c o x))),
        bit_at-zero k,
      ));
}

pub rows-bounded : (r : Rows) → moves_end r ≡ true → IsBounded (grammar_of r)
rows-bounded r h = record {
  below = λ p s g. let f = other-found r p s g in
      let t = all_at-first (λ p o. costs_less r (slice_index_or r.moves p 0) (rule_maybe r o)) r.other p f.entry h f.entry_is in
      let t' : nat_lt (cost (grammar_of r) s) (slice_index_or r.moves p 0) ≡ true = subst (λ x. costs_less r (slice_index_or r.moves p 0) x ≡ true) f.rule_is t in
      ltb-true (cost (grammar_of r) s) (slice_index_or r.moves p 0) t';
}
