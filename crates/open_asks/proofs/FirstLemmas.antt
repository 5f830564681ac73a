-- Open asks of which the first to a peer is taken away.
use Rattle.std.proofs.Common.{◌≡◌, ℕ, suc, ◌+◌, ◌<◌, Bool, true, false, not, ◌||◌, List, [], ◌∷◌, Some, None, refl, sym, ap, ◌∙◌, arith, cond, length, get_or}
use Rattle.std.specs.Prelude.{◌==◌, nat_lt}
use Rattle.std.specs.List.{remove, position_or_len}
use Rattle.std.proofs.lemmas.Bool.Decides.{nat_tests}
use Rattle.std.proofs.lemmas.Option.{same_Some}
use Rattle.small_facts.proofs.Truth.{or_swap}
use Rattle.cluster_rules.specs.Worker.{Ask, names_key, is_asked_for, ask_to}
use Rattle.open_asks.specs.Kept.{Kept, without_first}

pub without_first-remove : (p : ℕ) (bs : List Ask) → remove bs (position_or_len (λ (b : Ask). b.peer == p) bs) ≡ without_first bs p
without_first-remove p [] = refl
without_first-remove p (b ∷ bs) = pick (b.peer == p) (without_first-remove p bs)
  where
    n : ℕ
    n = position_or_len (λ (c : Ask). c.peer == p) bs

    later : remove (b ∷ bs) (1 + n) ≡ b ∷ remove bs n
    later = ap (λ m. remove (b ∷ bs) m) (let e : 1 + n ≡ suc n = omega arith in e)

    pick : (t : Bool) → remove bs n ≡ without_first bs p → remove (b ∷ bs) (cond (not t) (1 + n) 0) ≡ cond t bs (b ∷ without_first bs p)
    pick true r = refl
    pick false r = later ∙ ap (λ xs. b ∷ xs) r

pub found_at : (p : ℕ) (bs : List Ask) (d : Ask) → position_or_len (λ (b : Ask). b.peer == p) bs < length bs → ask_to bs p ≡ Some (get_or bs (position_or_len (λ (b : Ask). b.peer == p) bs) d)
found_at p [] d h = absurd (omega arith)
found_at p (b ∷ bs) d h = pick (b.peer == p) (found_at p bs d) h
  where
    n : ℕ
    n = position_or_len (λ (c : Ask). c.peer == p) bs

    next : get_or (b ∷ bs) (1 + n) d ≡ get_or bs n d
    next = ap (λ m. get_or (b ∷ bs) m d) (let e : 1 + n ≡ suc n = omega arith in e)

    pick : (t : Bool) → (n < length bs → ask_to bs p ≡ Some (get_or bs n d)) → cond (not t) (1 + n) 0 < suc (length bs) → cond t (Some b) (ask_to bs p) ≡ Some (get_or (b ∷ bs) (cond (not t) (1 + n) 0) d)
    pick true r l = refl
    pick false r l = r (omega arith) ∙ sym (ap Some next)

pub found_none : (p : ℕ) (bs : List Ask) → nat_lt (position_or_len (λ (b : Ask). b.peer == p) bs) (length bs) ≡ false → ask_to bs p ≡ None
found_none p [] h = refl
found_none p (b ∷ bs) h = pick (b.peer == p) (found_none p bs) h
  where
    n : ℕ
    n = position_or_len (λ (c : Ask). c.peer == p) bs

    first : (m : ℕ) → nat_lt 0 (suc m) ≡ false → ⊥
    first m e = grind (arith, nat_tests)

    later : (i m : ℕ) → nat_lt (1 + i) (suc m) ≡ false → nat_lt i m ≡ false
    later i m e = grind (arith, nat_tests)

    pick : (t : Bool) → (nat_lt n (length bs) ≡ false → ask_to bs p ≡ None) → nat_lt (cond (not t) (1 + n) 0) (suc (length bs)) ≡ false → cond t (Some b) (ask_to bs p) ≡ None
    pick true r e = absurd (first (length bs) e)
    pick false r e = r (later n (length bs) e)

pub without_first-none : (p : ℕ) (bs : List Ask) → ask_to bs p ≡ None → without_first bs p ≡ bs
without_first-none p [] h = refl
without_first-none p (b ∷ bs) h = pick (b.peer == p) (without_first-none p bs) h
  where
    pick : (t : Bool) → (ask_to bs p ≡ None → without_first bs p ≡ bs) → cond t (Some b) (ask_to bs p) ≡ None → cond t bs (b ∷ without_first bs p) ≡ b ∷ bs
    pick true r e = cc
    pick false r e = ap (λ xs. b ∷ xs) (r e)

abbrev kept : ℕ → List Ask → Kept
kept n bs = record { wide = n; asks = bs }

pub kept-none : (n p : ℕ) (bs : List Ask) → ask_to bs p ≡ None → kept n bs ≡ kept n (without_first bs p)
kept-none n p bs h = ap (kept n) (sym (without_first-none p bs h))

-- a key is named by the ask that was taken, or by those that are left
pub asked-first : (p : ℕ) (bs : List Ask) (x : Ask) (k : ℕ) → ask_to bs p ≡ Some x → is_asked_for bs k ≡ (names_key k x || is_asked_for (without_first bs p) k)
asked-first p [] x k h = cc
asked-first p (b ∷ bs) x k h = pick (b.peer == p) (asked-first p bs x k) h
  where
    pick : (t : Bool) → (ask_to bs p ≡ Some x → is_asked_for bs k ≡ (names_key k x || is_asked_for (without_first bs p) k)) → cond t (Some b) (ask_to bs p) ≡ Some x
        → (names_key k b || is_asked_for bs k) ≡ (names_key k x || is_asked_for (cond t bs (b ∷ without_first bs p)) k)
    pick true r e = ap (λ y. names_key k y || is_asked_for bs k) (same_Some b x e)
    pick false r e = ap (λ t. names_key k b || t) (r e) ∙ or_swap (names_key k b) (names_key k x) (is_asked_for (without_first bs p) k)

pub place_low : (b : Bool) (n i : ℕ) → Some i ≡ cond b (Some n) None → b ≡ true
place_low true n i h = refl
place_low false n i h = cc
