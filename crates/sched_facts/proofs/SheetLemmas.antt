-- Rows in pages, after a page more and after a write.
use Rattle.std.proofs.Common.{◌≡◌, ◌≢◌, ℕ, zero, suc, ◌+◌, ◌*◌, ◌/◌, ◌%◌, ◌<◌, ◌≤◌, Bool, true, false, cond, List, [], ◌∷◌, refl, sym, ap, ◌∙◌, subst, arith, length, get_or, set, map, replicate, ⊎_elim, length-set, get_or-set_other}
use Rattle.std.proofs.lemmas.Bool.{cases_lt, eqb-true, false≢true}
use Rattle.std.proofs.lemmas.List.{get_or_past, get_or_read, get_or-replicate, length-replicate}
use Rattle.std.proofs.lemmas.List.FromFn.{get_or-map-range_with_len, length-map-range_with_len}
use Rattle.std.proofs.Math.Dec.{eqb}
use Rattle.std.specs.List.{range_with_len}
use Rattle.small_facts.proofs.Numbers.{eqb_self, unequal_past}
use Rattle.cluster_rules.specs.Functions.{put}
use Rattle.cluster_rules.proofs.FunctionLemmas.{set_at}
use Rattle.fact_rows.specs.Rows.{read}
use Rattle.sched_facts.specs.Sheets.{used, spot_of, member, members, IsPaged, IsSheet}

pub used-zeros : (n : ℕ) → used (replicate n 0) ≡ 0
unfolding used
used-zeros zero = refl
used-zeros (suc n) = omega (arith, used-zeros n)

pub used-le : (ps : List ℕ) → used ps ≤ length ps
unfolding used
used-le [] = omega arith
used-le (p ∷ ps) = omega (arith, used-le ps)

-- where a place has no page of its own there are fewer pages than places
pub used-lt : (ps : List ℕ) (i : ℕ) → i < length ps → get_or ps i 0 ≡ 0 → used ps < length ps
unfolding used
used-lt [] i l e = absurd (omega arith)
used-lt (p ∷ ps) zero l e = omega (arith, used-le ps)
used-lt (p ∷ ps) (suc i) l e = omega (arith, used-lt ps i (omega arith) e)

used-set : (ps : List ℕ) (i n : ℕ) → i < length ps → get_or ps i 0 ≡ 0 → 0 < n → used (set ps i n) ≡ used ps + 1
unfolding used
used-set [] i n l e m = absurd (omega arith)
used-set (p ∷ ps) zero n l e m = omega arith
used-set (p ∷ ps) (suc i) n l e m = omega (arith, used-set ps i n (omega arith) e m)

-- a row without a written member
pub paged_none : {A : Type 0} (rest : A) (n : ℕ) (items : List A) → length items ≡ 128 → ((k : ℕ) → get_or items k rest ≡ rest) → IsPaged rest (replicate n 0) items
paged_none rest n items l e = record {
  long = omega (arith, used-zeros n);
  within = λ i. omega (arith, none i);
  apart = λ i j m t. absurd (omega (arith, none i));
  blank = λ k m. e k;
}
  where
    none : (i : ℕ) → get_or (replicate n zero) i zero ≡ zero
    none i = ⊎_elim (λ h. get_or-replicate n i zero zero h) (λ h. get_or_past (replicate n zero) i zero (omega (arith, length-replicate n zero))) (cases_lt i n)

pub sheet_none : {A : Type 0} (rest : A) (keys count : ℕ) (places : List ℕ) (items : List A) (capacity : ℕ) → places ≡ replicate count 0 → count ≡ keys / 128 + 1 → length items ≡ 128 → ((k : ℕ) → get_or items k rest ≡ rest) → 128 * (count + 1) ≤ capacity → IsSheet rest keys places items capacity
sheet_none rest keys count places items capacity z n l e m =
    subst (λ ps. IsSheet rest keys ps items capacity) (sym z) (record {
      paged = paged_none rest count items l e;
      all = length-replicate count zero ∙ n;
      room = omega (arith, length-replicate count zero);
    })

-- a place with a new page of its own
pub paged_more : {A : Type 0} (rest : A) (places : List ℕ) (old new : List A) (place : ℕ) → IsPaged rest places old → place < length places → get_or places place 0 ≡ 0 → length new ≡ length old + 128 → ((k : ℕ) → get_or new k rest ≡ get_or old k rest) → IsPaged rest (set places place (used places + 1)) new
paged_more rest places old new place h l e g s = record {
  long = omega (arith, h.long, more);
  within = λ i. within_at i (eqb i place) refl;
  apart = λ i j m t. apart_at i j (eqb i place) (eqb j place) refl refl (subst (λ n. 0 < n) (now i) m) (sym (now i) ∙ t ∙ now j);
  blank = λ k m. s k ∙ h.blank k m;
}
  where
    more : used (set places place (used places + 1)) ≡ used places + 1
    more = used-set places place (used places + 1) l e (omega arith)

    now : (i : ℕ) → get_or (set places place (used places + 1)) i 0 ≡ cond (eqb i place) (used places + 1) (get_or places i 0)
    now i = set_at places place (used places + 1) 0 l i

    within_at : (i : ℕ) (b : Bool) → eqb i place ≡ b → get_or (set places place (used places + 1)) i 0 ≤ used (set places place (used places + 1))
    within_at i true p = let n : get_or (set places place (used places + 1)) i 0 ≡ used places + 1 = now i ∙ ap (λ b. cond b (used places + 1) (get_or places i 0)) p in omega (arith, more)
    within_at i false p = let n : get_or (set places place (used places + 1)) i 0 ≡ get_or places i 0 = now i ∙ ap (λ b. cond b (used places + 1) (get_or places i 0)) p in omega (arith, more, h.within i)

    apart_at : (i j : ℕ) (b c : Bool) → eqb i place ≡ b → eqb j place ≡ c → 0 < cond b (used places + 1) (get_or places i 0) → cond b (used places + 1) (get_or places i 0) ≡ cond c (used places + 1) (get_or places j 0) → i ≡ j
    apart_at i j true true p q m t = eqb-true i place p ∙ sym (eqb-true j place q)
    apart_at i j true false p q m t = absurd (omega (arith, h.within j, t))
    apart_at i j false true p q m t = absurd (omega (arith, h.within i, t))
    apart_at i j false false p q m t = h.apart i j m t

-- it says nothing new
pub member_more : {A : Type 0} (rest : A) (places : List ℕ) (old new : List A) (place : ℕ) → IsPaged rest places old → place < length places → get_or places place 0 ≡ 0 → ((k : ℕ) → get_or new k rest ≡ get_or old k rest) → (k : ℕ) → member rest (set places place (used places + 1)) new k ≡ member rest places old k
unfolding member spot_of
member_more rest places old new place h l e s k =
    ap (λ p. get_or new (128 * p + k % 128) rest) (set_at places place (used places + 1) 0 l (k / 128)) ∙ s _ ∙ pick (eqb (k / 128) place) refl
  where
    pick : (b : Bool) → eqb (k / 128) place ≡ b → get_or old (128 * cond b (used places + 1) (get_or places (k / 128) 0) + k % 128) rest ≡ get_or old (128 * get_or places (k / 128) 0 + k % 128) rest
    pick true p =
        let none : get_or places (k / 128) 0 ≡ 0 = ap (λ i. get_or places i 0) (eqb-true (k / 128) place p) ∙ e in
        get_or_past old _ rest (omega (arith, h.long)) ∙ sym (h.blank (128 * get_or places (k / 128) 0 + k % 128) (omega arith))
    pick false p = refl

-- where a member stands there is a page
pub spot-lt : {A : Type 0} (rest : A) (places : List ℕ) (items : List A) (k : ℕ) → IsPaged rest places items → spot_of places k < length items
unfolding spot_of
spot-lt rest places items k h = omega (arith, h.long, h.within (k / 128))

-- no other member stands in a page of its own at the same spot
spot-same : {A : Type 0} (rest : A) (places : List ℕ) (items : List A) (k j : ℕ) → IsPaged rest places items → 0 < get_or places (k / 128) 0 → spot_of places j ≡ spot_of places k → j ≡ k
unfolding spot_of
spot-same rest places items k j h m e =
    let page : get_or places (k / 128) 0 ≡ get_or places (j / 128) 0 = omega arith in
    let place : k / 128 ≡ j / 128 = h.apart (k / 128) (j / 128) m page in
    omega arith

-- a written member
pub paged_set : {A : Type 0} (rest : A) (places : List ℕ) (items : List A) (key : ℕ) (value : A) → IsPaged rest places items → 0 < get_or places (key / 128) 0 → IsPaged rest places (set items (spot_of places key) value)
unfolding spot_of
paged_set rest places items key value h m = record {
  long = length-set items _ value ∙ h.long;
  within = h.within;
  apart = h.apart;
  blank = λ k l. get_or-set_other items _ k value rest (omega arith) ∙ h.blank k l;
}

pub member_set : {A : Type 0} (rest : A) (places : List ℕ) (items : List A) (key : ℕ) (value : A) → IsPaged rest places items → 0 < get_or places (key / 128) 0 → (k : ℕ) → member rest places (set items (spot_of places key) value) k ≡ put (member rest places items) key value k
unfolding member
member_set rest places items key value h m k =
    set_at items (spot_of places key) value rest (spot-lt rest places items key h) (spot_of places k) ∙ ap (λ b. cond b value (get_or items (spot_of places k) rest)) (pick (eqb (spot_of places k) (spot_of places key)) (eqb k key) refl refl)
  where
    pick : (b c : Bool) → eqb (spot_of places k) (spot_of places key) ≡ b → eqb k key ≡ c → b ≡ c
    pick true true p q = refl
    pick false false p q = refl
    pick true false p q = absurd (false≢true (sym q ∙ ap (λ n. eqb n key) (spot-same rest places items key k h m (eqb-true _ _ p)) ∙ eqb_self key))
    pick false true p q = absurd (false≢true (sym p ∙ ap (λ n. eqb (spot_of places n) (spot_of places key)) (eqb-true k key q) ∙ eqb_self (spot_of places key)))

-- a list by a function, read
pub read_inside : {A : Type 0} (f : ℕ → A) (n k : ℕ) (d : A) → k < n → read (map f (range_with_len 0 n)) d k ≡ f k
read_inside f n k d l = get_or-map-range_with_len f 0 n k k d l (omega arith)

pub read_past : {A : Type 0} (f : ℕ → A) (n k : ℕ) (d : A) → n ≤ k → read (map f (range_with_len 0 n)) d k ≡ d
read_past f n k d l = get_or_past (map f (range_with_len 0 n)) k d (let e : length (map f (range_with_len 0 n)) ≡ n = length-map-range_with_len f 0 n in omega arith)

-- the members after a write, as a function
pub members-put : {A : Type 0} (f g : ℕ → A) (n key : ℕ) (value d : A) → key < n → ((k : ℕ) → g k ≡ put f key value k) → read (map g (range_with_len 0 n)) d ≡ put (read (map f (range_with_len 0 n)) d) key value
members-put f g n key value d l e = λ i k. ⊎_elim (inside k) (past k) (cases_lt k n) i
  where
    inside : (k : ℕ) → k < n → read (map g (range_with_len 0 n)) d k ≡ put (read (map f (range_with_len 0 n)) d) key value k
    inside k m = read_inside g n k d m ∙ e k ∙ ap (cond (eqb k key) value) (sym (read_inside f n k d m))

    past : (k : ℕ) → n ≤ k → read (map g (range_with_len 0 n)) d k ≡ put (read (map f (range_with_len 0 n)) d) key value k
    past k m = read_past g n k d m ∙ sym (ap (λ b. cond b value (read (map f (range_with_len 0 n)) d k)) (unequal_past k key n l m) ∙ read_past f n k d m)

-- the list of members has one for each key
pub key-lt : {A : Type 0} (rest : A) (places : List ℕ) (items : List A) (n key : ℕ) → key < length (members rest places items n) → key < n
key-lt rest places items n key l = omega (arith, length-map-range_with_len (member rest places items) 0 n)

-- a key has a place
pub place-lt : {A : Type 0} (rest : A) (keys : ℕ) (places : List ℕ) (items : List A) (capacity key : ℕ) → IsSheet rest keys places items capacity → key < keys → key / 128 < length places
place-lt rest keys places items capacity key h l = omega (arith, h.all)

-- without a written member each is the rest
pub members_none : {A : Type 0} (rest : A) (places : List ℕ) (items : List A) (n : ℕ) → ((k : ℕ) → get_or items k rest ≡ rest) → (k : ℕ) → read (members rest places items n) rest k ≡ rest
unfolding member
members_none rest places items n e k = ⊎_elim (λ l. read_inside (member rest places items) n k rest l ∙ e (spot_of places k)) (λ l. read_past (member rest places items) n k rest l) (cases_lt k n)

-- what stands at its spot is the member of the key
pub read_member : {A : Type 0} (rest : A) (places : List ℕ) (items : List A) (n key : ℕ) (x d : A) → IsPaged rest places items → key < n → x ≡ get_or items (spot_of places key) x → x ≡ read (members rest places items n) d key
unfolding member
read_member rest places items n key x d h l e = get_or_read items (spot_of places key) x (spot-lt rest places items key h) e rest ∙ sym (read_inside (member rest places items) n key d l)
