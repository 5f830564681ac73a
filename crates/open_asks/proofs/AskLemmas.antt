-- Asks in their places, marks of the keys that they name, and what fits one.
use Rattle.std.proofs.Common.{◌≡◌, ℕ, zero, suc, ◌+◌, ◌<◌, ◌≤◌, Bool, true, false, not, ◌||◌, List, [], ◌∷◌, Option, Some, None, refl, sym, ap, ◌∙◌, subst, arith, cond, take, filter, map, length, get_or, ⊎_elim, length-append}
use Rattle.std.specs.Prelude.{◌==◌, nat_lt}
use Rattle.std.specs.List.{position_or_len, insert}
use Rattle.std.proofs.lemmas.Bool.{false≢true, cases_lt, eq-eqb, or_left, or_right}
use Rattle.std.proofs.lemmas.Bool.Decides.{nat_tests}
use Rattle.std.proofs.lemmas.List.{get_or_past, take_more, map-append}
use Rattle.std.proofs.lemmas.List.Elements.{Contains-get_or}
use Rattle.std.specs.Prelude.{All, Result, Ok, Err, IfOk, IfSome}
use Rattle.std.proofs.lemmas.Option.{none-some, same_Some}
use Rattle.small_facts.proofs.Numbers.{eqb_turned}
use Rattle.small_facts.proofs.Truth.{or_swap, or_first_false, or_second_false, cond_same}
use mir.Val.{bool_byte}
use Rattle.cluster_msgs.specs.Shape.{Shape, nbytes_of}
use Rattle.cluster_rules.specs.Functions.{total, from_one}
use Rattle.cluster_rules.specs.Worker.{Ask, names_key, is_asked_for, ask_to, with_ask, without_ask, total_bytes}
use Rattle.cluster_rules.proofs.Members.{any_some}
use Rattle.cluster_rules.proofs.SchedLemmas.{filter-more}
use Rattle.cluster_rules.proofs.TotalLemmas.{total-push}
use Rattle.fact_rows.specs.Rows.{read}

-- places in a list
pub place_some : (b : Bool) (n i : ℕ) → Some i ≡ cond b (Some n) None → i ≡ n
place_some true n i h = cc
place_some false n i h = cc

-- a mark
pub or_mark : (b : Bool) (k key : ℕ) → cond (k == key) true b ≡ (b || (key == k))
or_mark true k key = cond_same (k == key) true
or_mark false k key = same (k == key) ∙ eqb_turned k key
  where
    same : (c : Bool) → cond c true false ≡ c
    same true = refl
    same false = refl

-- a truth value as a number
pub byte_is : (b : Bool) → bool_byte b ≡ cond b 1 0
byte_is true = refl
byte_is false = refl

pub byte_small : (b : Bool) → bool_byte b ≤ 1
byte_small true = omega arith
byte_small false = omega arith

-- open asks
pub asked-with : (a : Ask) (bs : List Ask) (k : ℕ) → is_asked_for (with_ask a bs) k ≡ (names_key k a || is_asked_for bs k)
asked-with a [] k = refl
asked-with a (b ∷ bs) k = pick (nat_lt a.peer b.peer) (asked-with a bs k)
  where
    pick : (t : Bool) → is_asked_for (with_ask a bs) k ≡ (names_key k a || is_asked_for bs k) → is_asked_for (cond t (a ∷ b ∷ bs) (b ∷ with_ask a bs)) k ≡ (names_key k a || (names_key k b || is_asked_for bs k))
    pick true r = refl
    pick false r = ap (λ x. names_key k b || x) r ∙ or_swap (names_key k b) (names_key k a) (is_asked_for bs k)

pub asked-without : (asks : List Ask) (p k : ℕ) → is_asked_for asks k ≡ false → is_asked_for (without_ask asks p) k ≡ false
asked-without [] p k h = refl
asked-without (a ∷ bs) p k h = pick (a.peer == p) (asked-without bs p k (or_second_false (names_key k a) (is_asked_for bs k) h))
  where
    pick : (t : Bool) → is_asked_for (without_ask bs p) k ≡ false → is_asked_for (cond (not t) (a ∷ without_ask bs p) (without_ask bs p)) k ≡ false
    pick true r = r
    pick false r = ap (λ x. x || is_asked_for (without_ask bs p) k) (or_first_false (names_key k a) (is_asked_for bs k) h) ∙ r

pub with_ask-insert : (a : Ask) (bs : List Ask) → insert bs (position_or_len (λ (b : Ask). nat_lt a.peer b.peer) bs) a ≡ with_ask a bs
with_ask-insert a [] = refl
with_ask-insert a (b ∷ bs) = pick (nat_lt a.peer b.peer) (with_ask-insert a bs)
  where
    n : ℕ
    n = position_or_len (λ (c : Ask). nat_lt a.peer c.peer) bs

    later : insert (b ∷ bs) (1 + n) a ≡ b ∷ insert bs n a
    later = ap (λ m. insert (b ∷ bs) m a) (let e : 1 + n ≡ suc n = omega arith in e)

    pick : (t : Bool) → insert bs n a ≡ with_ask a bs → insert (b ∷ bs) (cond (not t) (1 + n) 0) a ≡ cond t (a ∷ b ∷ bs) (b ∷ with_ask a bs)
    pick true r = refl
    pick false r = later ∙ ap (λ xs. b ∷ xs) r

-- a row that is right at each key is right everywhere
pub flying_all : (row : List Bool) (asks : List Ask) (n : ℕ) → length row ≡ n → ((k : ℕ) → k < n → read row false k ≡ is_asked_for asks k) → ((k : ℕ) → n ≤ k → is_asked_for asks k ≡ false) → (k : ℕ) → read row false k ≡ is_asked_for asks k
flying_all row asks n e inside outside k = ⊎_elim (λ h. inside k h) (λ h. get_or_past row k false (omega (arith, e)) ∙ sym (outside k h)) (cases_lt k n)

-- a front that fits one ask
pub fits_more : (p : ℕ → Bool) (n : ℕ) → length (filter p (from_one (n + 1))) ≡ length (filter p (from_one n)) + cond (p (1 + n)) 1 0
fits_more p n =
    ap length (filter-more p 1 n) ∙ length-append (filter p (from_one n)) (cond (p (1 + n)) ((1 + n) ∷ []) []) ∙ ap (λ m. length (filter p (from_one n)) + m) (last (p (1 + n)))
  where
    last : (b : Bool) → length (cond b ((1 + n) ∷ []) []) ≡ cond b 1 0
    last true = refl
    last false = refl

pub bytes_more : (g : Shape) (is : List (ℕ × ℕ)) (n : ℕ) (d : ℕ × ℕ) → n < length is → total_bytes g (take (n + 1) is) ≡ total_bytes g (take n is) + nbytes_of g (get_or is n d).0
bytes_more g is n d l =
    ap (λ xs. total (nbytes_of g) (map (λ (i : ℕ × ℕ). i.0) xs)) (take_more is n d l)
    ∙ ap (total (nbytes_of g)) (map-append (λ (i : ℕ × ℕ). i.0) (take n is) (get_or is n d ∷ []))
    ∙ total-push (nbytes_of g) (map (λ (i : ℕ × ℕ). i.0) (take n is)) (get_or is n d).0

pub first_is : (n : ℕ) → (n == 0) ≡ ((1 + n) == 1)
first_is zero = refl
first_is (suc n) = grind (arith, nat_tests)

-- what an open ask names is asked for
pub named_asked : (asks : List Ask) (p : ℕ) (a : Ask) (k : ℕ) → ask_to asks p ≡ Some a → names_key k a ≡ true → is_asked_for asks k ≡ true
named_asked [] p a k h e = absurd (none-some a h)
named_asked (b ∷ bs) p a k h e = pick (b.peer == p) h (λ i. named_asked bs p a k i e)
  where
    pick : (t : Bool) → cond t (Some b) (ask_to bs p) ≡ Some a → (ask_to bs p ≡ Some a → is_asked_for bs k ≡ true) → (names_key k b || is_asked_for bs k) ≡ true
    pick true i r = or_left (names_key k b) (is_asked_for bs k) (ap (names_key k) (same_Some b a i) ∙ e)
    pick false i r = or_right (names_key k b) (is_asked_for bs k) (r i)

pub within : (asks : List Ask) (p : ℕ) (a : Ask) (n : ℕ) → ask_to asks p ≡ Some a → ((k : ℕ) → is_asked_for asks k ≡ true → k < n) → All (λ i. i.0 < n) a.items
within asks p a n h low = λ k d l. low (get_or a.items k d).0 (named_asked asks p a (get_or a.items k d).0 h (any_some (λ i. i.0 == (get_or a.items k d).0) a.items (get_or a.items k d) (Contains-get_or a.items k d l) (eq-eqb (get_or a.items k d).0 (get_or a.items k d).0 refl)))

-- the same of what was copied
pub all_copied : {V E : Type 0} (items : V → List (ℕ × ℕ)) (is : List (ℕ × ℕ)) (n : ℕ) (r : Result (Option V) E) → All (λ i. i.0 < n) is → IfOk r (λ o. IfSome o (λ v. items v ≡ is)) → IfOk r (λ o. IfSome o (λ v. All (λ i. i.0 < n) (items v)))
all_copied items is n (Ok None) h e = e
all_copied items is n (Ok (Some v)) h e = subst (λ xs. All (λ i. i.0 < n) xs) (sym e) h
all_copied items is n (Err x) h e = e

-- a key that is asked for has a place in the row
pub marked_within : (row : List Bool) (asks : List Ask) (k : ℕ) → read row false k ≡ is_asked_for asks k → is_asked_for asks k ≡ true → k < length row
marked_within row asks k e f = ⊎_elim (λ h. h) (λ h. absurd (false≢true (sym (get_or_past row k false h) ∙ e ∙ f))) (cases_lt k (length row))
