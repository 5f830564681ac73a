-- The keys that an open ask names.
use Rattle.std.proofs.Common.{◌≡◌, ℕ, ◌<◌, Bool, true, false, not, ◌||◌, List, [], ◌∷◌, Some, None, is_some, refl, sym, ap, ◌∙◌, arith, cond, All, length, get_or, suc}
use Rattle.std.specs.Prelude.{◌==◌, nat_lt}
use Rattle.std.specs.List.{list_any, insert, position_or_len}
use Rattle.std.proofs.lemmas.Bool.{false≢true, eq-eqb, or_right}
use Rattle.std.proofs.lemmas.List.Sums.{prefix_len-le-length}
use Rattle.std.proofs.lemmas.List.Elements.{All-nil, All-cons}
use Rattle.small_facts.proofs.Options.{none_from_is_some}
use Rattle.cluster_rules.specs.Worker.{Ask, WorkerFacts, is_asked_for, ask_to, with_ask, without_ask}
use Rattle.open_asks.specs.Kept.{without_first}
use Rattle.open_asks.proofs.FirstLemmas.{asked-first, without_first-none}
use Rattle.open_asks.proofs.MarkLemmas.{put_in}
use Rattle.open_asks.proofs.AskLemmas.{with_ask-insert}

-- each item of a list whose keys are all named below n
pub items_below : (n : ℕ) (is : List (ℕ × ℕ)) → ((k : ℕ) → list_any (λ (i : ℕ × ℕ). i.0 == k) is ≡ true → k < n) → All (λ (i : ℕ × ℕ). i.0 < n) is
items_below n [] h = All-nil (λ (i : ℕ × ℕ). i.0 < n)
items_below n (i ∷ is) h = All-cons (λ (j : ℕ × ℕ). j.0 < n) i is (h i.0 (here (i.0 == i.0) (eq-eqb i.0 i.0 refl))) (items_below n is (λ k e. h k (or_right (i.0 == k) (list_any (λ (j : ℕ × ℕ). j.0 == k) is) e)))
  where
    here : (b : Bool) → b ≡ true → (b || list_any (λ (j : ℕ × ℕ). j.0 == i.0) is) ≡ true
    here true e = refl
    here false e = absurd (false≢true e)

pub named_below : (asks : List Ask) (p : ℕ) (a : Ask) (n : ℕ) → ask_to asks p ≡ Some a → ((k : ℕ) → is_asked_for asks k ≡ true → k < n) → All (λ (i : ℕ × ℕ). i.0 < n) a.items
named_below asks p a n found h = items_below n a.items (λ k e. h k (asked-first p asks a k found ∙ ap (λ b. b || is_asked_for (without_first asks p) k) e))

-- closing the first ask to a peer, and then the others
pub without-first_step : (p : ℕ) (asks : List Ask) → without_ask (without_first asks p) p ≡ without_ask asks p
without-first_step p [] = refl
without-first_step p (a ∷ bs) = pick (a.peer == p) refl (without-first_step p bs)
  where
    pick : (t : Bool) → (a.peer == p) ≡ t → without_ask (without_first bs p) p ≡ without_ask bs p → without_ask (cond t bs (a ∷ without_first bs p)) p ≡ cond (not t) (a ∷ without_ask bs p) (without_ask bs p)
    pick true e r = refl
    pick false e r = ap (λ t. cond (not t) (a ∷ without_ask (without_first bs p) p) (without_ask (without_first bs p) p)) e ∙ ap (λ xs. a ∷ xs) r

pub without-none : (p : ℕ) (asks : List Ask) → ask_to asks p ≡ None → without_ask asks p ≡ asks
without-none p [] h = refl
without-none p (a ∷ bs) h = pick (a.peer == p) h (without-none p bs)
  where
    pick : (t : Bool) → cond t (Some a) (ask_to bs p) ≡ None → (ask_to bs p ≡ None → without_ask bs p ≡ bs) → cond (not t) (a ∷ without_ask bs p) (without_ask bs p) ≡ a ∷ bs
    pick true e r = cc
    pick false e r = ap (λ xs. a ∷ xs) (r e)

pub first_shorter : (p : ℕ) (asks : List Ask) → is_some (ask_to asks p) ≡ true → length (without_first asks p) < length asks
first_shorter p [] h = absurd (false≢true h)
first_shorter p (b ∷ bs) h = pick (b.peer == p) h (first_shorter p bs)
  where
    pick : (t : Bool) → is_some (cond t (Some b) (ask_to bs p)) ≡ true → (is_some (ask_to bs p) ≡ true → length (without_first bs p) < length bs) → length (cond t bs (b ∷ without_first bs p)) < suc (length bs)
    pick true e r = omega arith
    pick false e r = let s = r e in omega (arith, s)

-- one more is closed
pub closed_one : (p : ℕ) (w v h : WorkerFacts) → v ≡ record w { asks = v.asks } → h ≡ record v { asks = without_first v.asks p } → h ≡ record w { asks = h.asks }
closed_one p w v h same e = e ∙ ap (λ (u : WorkerFacts). record u { asks = without_first v.asks p }) same ∙ ap (λ (bs : List Ask). record w { asks = bs }) (sym (ap (λ (u : WorkerFacts). u.asks) e))

pub closed_rest : (p : ℕ) (w v h : WorkerFacts) → without_ask v.asks p ≡ without_ask w.asks p → h ≡ record v { asks = without_first v.asks p } → without_ask h.asks p ≡ without_ask w.asks p
closed_rest p w v h rest e = ap (λ (u : WorkerFacts). without_ask u.asks p) e ∙ without-first_step p v.asks ∙ rest

-- none is left
pub closed_all : (p : ℕ) (w v h : WorkerFacts) → v ≡ record w { asks = v.asks } → without_ask v.asks p ≡ without_ask w.asks p → h ≡ record v { asks = without_first v.asks p } → is_some (ask_to v.asks p) ≡ false → h ≡ record w { asks = without_ask w.asks p }
closed_all p w v h same rest e none =
    let n : ask_to v.asks p ≡ None = none_from_is_some (ask_to v.asks p) none in
    e ∙ ap (λ (u : WorkerFacts). record u { asks = without_first v.asks p }) same ∙ ap (λ (bs : List Ask). record w { asks = bs }) (without_first-none p v.asks n ∙ sym (without-none p v.asks n) ∙ rest)

-- an ask that was opened is at its place
with_ask-length : (a : Ask) (bs : List Ask) → length (with_ask a bs) ≡ suc (length bs)
with_ask-length a [] = refl
with_ask-length a (b ∷ bs) = pick (nat_lt a.peer b.peer) (with_ask-length a bs)
  where
    pick : (t : Bool) → length (with_ask a bs) ≡ suc (length bs) → length (cond t (a ∷ b ∷ bs) (b ∷ with_ask a bs)) ≡ suc (suc (length bs))
    pick true r = refl
    pick false r = ap suc r

pub place_low : (a : Ask) (bs : List Ask) (n : ℕ) → n ≡ position_or_len (λ (b : Ask). nat_lt a.peer b.peer) bs → n < length (with_ask a bs)
place_low a bs n e = let l = prefix_len-le-length (λ (b : Ask). not (nat_lt a.peer b.peer)) bs in omega (arith, e, l, with_ask-length a bs)

pub opened_at : (a d : Ask) (bs : List Ask) (n : ℕ) → n ≡ position_or_len (λ (b : Ask). nat_lt a.peer b.peer) bs → get_or (with_ask a bs) n d ≡ a
opened_at a d bs n e =
    let l = prefix_len-le-length (λ (b : Ask). not (nat_lt a.peer b.peer)) bs in
    ap (λ xs. get_or xs n d) (sym (ap (λ m. insert bs m a) e ∙ with_ask-insert a bs)) ∙ put_in bs a d n (omega (arith, e, l))
