-- Attempts are counted: each is in one place at most, one that was started is neither given again nor given back, and one that was given back is nowhere.
use Rattle.std.proofs.Common.{◌≡◌, ℕ, ◌+◌, ◌<◌, ◌≤◌, Bool, true, false, cond, ◌&&◌, ◌||◌, List, [], ◌∷◌, ◌++◌, Option, Some, None, refl, sym, ap, ◌∙◌, arith, ⊎_elim}
use Rattle.std.proofs.lemmas.Bool.{true≢false, false≢true, eqb-true, or_cases, and_parts, cases_lt}
use Rattle.std.proofs.Math.Dec.{eqb}
use Rattle.pair_machine.specs.Pair.{Note, Task, Free, Remove, Ask, Other, Report, Finished, Erred, Gave, Declined, Added, Released, Quiet, is_at, given_count, ended_count, at_count, Pair, tally}
use Rattle.pair_machine.specs.Moves.{Done, take, take_task, take_remove, take_ask}
use Rattle.pair_machine.specs.Story.{yields, yielded_count, hears_yes}
use Rattle.pair_machine.proofs.PairLemmas.{given-append, ended-append}
use Rattle.pair_machine.proofs.StoryKept.{yielded-append, yielded_ended}
use Rattle.pair_moves.proofs.WorkerMoves.{Yields, IsClosed}

pub record IsTale (started yielded : ℕ → Bool) (p : Pair) : Type 0 where
  pub once : (a : ℕ) → tally a p ≤ 1
  pub fresh : (a : ℕ) → p.counter ≤ a → tally a p ≡ 0
  pub taken : (a : ℕ) → started a ≡ true → given_count a p.down ≡ 0
  pub unstarted : (a : ℕ) → started a ≡ true → yielded_count a p.up ≡ 0
  pub gone : (a : ℕ) → yielded a ≡ true → (started a ≡ false) × (tally a p ≡ 0)
  pub new_started : (a : ℕ) → p.counter ≤ a → started a ≡ false
  pub new_yielded : (a : ℕ) → p.counter ≤ a → yielded a ≡ false

-- from p to q no attempt comes, and what is given back wasn't started
pub record IsLess (started : ℕ → Bool) (p q : Pair) : Type 0 where
  pub tallies : (a : ℕ) → tally a q ≤ tally a p
  pub given : (a : ℕ) → given_count a q.down ≤ given_count a p.down
  pub yield : (a : ℕ) → started a ≡ true → yielded_count a p.up ≡ 0 → yielded_count a q.up ≡ 0
  pub counter : q.counter ≡ p.counter

pub less_tale : (started yielded : ℕ → Bool) (p q : Pair) → IsLess started p q → IsTale started yielded p → IsTale started yielded q
less_tale started yielded p q g k = record {
  once = λ a. omega (arith, g.tallies a, k.once a);
  fresh = λ a l. omega (arith, g.tallies a, k.fresh a (omega (arith, l, g.counter)));
  taken = λ a e. omega (arith, g.given a, k.taken a e);
  unstarted = λ a e. g.yield a e (k.unstarted a e);
  gone = λ a e. let y = k.gone a e in (y.0, omega (arith, y.1, g.tallies a));
  new_started = λ a l. k.new_started a (omega (arith, l, g.counter));
  new_yielded = λ a l. k.new_yielded a (omega (arith, l, g.counter));
}

-- one more message, and no task or one task fewer
says_more : (started : ℕ → Bool) (p : Pair) (mem : Bool) (mine : Option ℕ) (r : Report) → ((a : ℕ) → at_count a mine + ended_count a (r ∷ []) ≤ at_count a p.mine) → ((a : ℕ) → started a ≡ true → yielded_count a (r ∷ []) ≡ 0)
    → IsLess started p (record p { mem = mem; mine = mine; up = p.up ++ r ∷ [] })
says_more started p mem mine r c y = record {
  tallies = λ a. omega (arith, c a, ended-append a p.up (r ∷ []));
  given = λ a. omega arith;
  yield = λ a e z. omega (arith, z, y a e, yielded-append a p.up (r ∷ []));
  counter = refl;
}

-- one message is taken
takes_one : (started : ℕ → Bool) (p : Pair) (n : Note) (ns : List Note) (d : Done) → ((a : ℕ) → given_count a ns + (at_count a d.mine + ended_count a d.said) ≤ given_count a (n ∷ ns) + at_count a p.mine) → ((a : ℕ) → started a ≡ true → yielded_count a d.said ≡ 0)
    → IsLess started (record p { down = n ∷ ns }) (record p { down = ns; seen = p.seen + 1; mem = d.mem; mine = d.mine; up = p.up ++ d.said })
takes_one started p n ns d c y = record {
  tallies = λ a. omega (arith, c a, ended-append a p.up d.said);
  given = λ a. omega arith;
  yield = λ a e z. omega (arith, z, y a e, yielded-append a p.up d.said);
  counter = refl;
}

-- an attempt may be given back where it wasn't started
abbrev pub NotStarted : (ℕ → Bool) → Option ℕ → Type 0
NotStarted started mine = (a : ℕ) → mine ≡ Some a → started a ≡ false

module _ (started : ℕ → Bool) where
  less_take : (agrees : Bool) (p : Pair) (n : Note) (ns : List Note) → Yields (NotStarted started) n p.mine agrees → IsLess started (record p { down = n ∷ ns }) (take agrees (record p { down = n ∷ ns }) (n ∷ ns))
  less_take agrees p (Task b) ns y = pick p.mem
    where
      pick : (m : Bool) → IsLess started (record p { down = Task b ∷ ns }) (record p { down = ns; seen = p.seen + 1; mem = (take_task m p.mine b).mem; mine = (take_task m p.mine b).mine; up = p.up ++ (take_task m p.mine b).said })
      pick true = takes_one started p (Task b) ns (take_task true p.mine b) (λ a. omega arith) (λ a e. refl)
      pick false = takes_one started p (Task b) ns (take_task false p.mine b) (λ a. omega arith) (λ a e. refl)
  less_take agrees p Free ns y = takes_one started p Free ns (record { mem = false; mine = None; said = [] }) (λ a. omega arith) (λ a e. refl)
  less_take agrees p Remove ns y = pick p.mem agrees
    where
      pick : (m b : Bool) → IsLess started (record p { down = Remove ∷ ns }) (record p { down = ns; seen = p.seen + 1; mem = (take_remove (p.seen + 1) m p.mine b).mem; mine = (take_remove (p.seen + 1) m p.mine b).mine; up = p.up ++ (take_remove (p.seen + 1) m p.mine b).said })
      pick true true = takes_one started p Remove ns (take_remove (p.seen + 1) true p.mine true) (λ a. omega arith) (λ a e. refl)
      pick true false = takes_one started p Remove ns (take_remove (p.seen + 1) true p.mine false) (λ a. omega arith) (λ a e. refl)
      pick false b = takes_one started p Remove ns (take_remove (p.seen + 1) false p.mine b) (λ a. omega arith) (λ a e. refl)
  less_take agrees p (Ask b) ns y = pick (is_at b p.mine && agrees) refl
    where
      is_some_at : (o : Option ℕ) → is_at b o ≡ true → o ≡ Some b
      is_some_at None e = absurd (false≢true e)
      is_some_at (Some x) e = ap Some (eqb-true x b e)

      mine_is : (is_at b p.mine && agrees) ≡ true → p.mine ≡ Some b
      mine_is e = is_some_at p.mine (and_parts (is_at b p.mine) agrees e).0

      not_it : (is_at b p.mine && agrees) ≡ true → (a : ℕ) → started a ≡ true → (c : Bool) → eqb b a ≡ c → yielded_count a (Gave b ∷ []) ≡ 0
      not_it e a s true q = absurd (true≢false (sym s ∙ ap started (sym (eqb-true b a q)) ∙ y e b (mine_is e)))
      not_it e a s false q = ap (λ c. cond c 1 0 + 0) q

      pick : (c : Bool) → (is_at b p.mine && agrees) ≡ c → IsLess started (record p { down = Ask b ∷ ns }) (record p { down = ns; seen = p.seen + 1; mem = (take_ask p.mem p.mine b c).mem; mine = (take_ask p.mem p.mine b c).mine; up = p.up ++ (take_ask p.mem p.mine b c).said })
      pick true e = takes_one started p (Ask b) ns (take_ask p.mem p.mine b true) (λ a. let m : at_count a p.mine ≡ at_count a (Some b) = ap (at_count a) (mine_is e) in omega arith) (λ a s. not_it e a s (eqb b a) refl)
      pick false e = takes_one started p (Ask b) ns (take_ask p.mem p.mine b false) (λ a. omega arith) (λ a s. refl)
  less_take agrees p Other ns y = takes_one started p Other ns (record { mem = p.mem; mine = p.mine; said = [] }) (λ a. omega arith) (λ a e. refl)

  pub tale_closed : (yielded : ℕ → Bool) → IsClosed (IsTale started yielded) (NotStarted started)
  tale_closed yielded = record {
    finish = λ p a e. less_tale started yielded p _ (says_more started p true None (Finished a) (λ b. let m : at_count b p.mine ≡ at_count b (Some a) = ap (at_count b) e in omega arith) (λ b s. refl));
    fail = λ p a e. less_tale started yielded p _ (says_more started p p.mem None (Erred a) (λ b. let m : at_count b p.mine ≡ at_count b (Some a) = ap (at_count b) e in omega arith) (λ b s. refl));
    store = λ p m e. less_tale started yielded p _ (says_more started p true p.mine (Added p.seen) (λ b. omega arith) (λ b s. refl));
    lose = λ p m. less_tale started yielded p _ (says_more started p false p.mine (Released p.seen) (λ b. omega arith) (λ b s. refl));
    say = λ p. less_tale started yielded p _ (says_more started p p.mem p.mine Quiet (λ b. omega arith) (λ b s. refl));
    takes = λ agrees p n ns y. less_tale started yielded _ _ (less_take agrees p n ns y);
  }

-- a start
pub start_tale : (started yielded : ℕ → Bool) (p : Pair) (b : Bool) → IsTale started yielded p → IsTale (λ a. started a || (b && is_at a p.mine)) yielded p
start_tale started yielded p b k = record {
  once = k.once;
  fresh = k.fresh;
  taken = λ a i. ⊎_elim (k.taken a) (λ h. let o = k.once a in let n = here a (and_parts b (is_at a p.mine) h).1 in omega (arith, o, n)) (or_cases (started a) (b && is_at a p.mine) i);
  unstarted = λ a i. ⊎_elim (k.unstarted a) (λ h. let o = k.once a in let n = here a (and_parts b (is_at a p.mine) h).1 in let y = yielded_ended a p.up in omega (arith, o, n, y)) (or_cases (started a) (b && is_at a p.mine) i);
  gone = λ a i. let y = k.gone a i in (ap (λ c. c || (b && is_at a p.mine)) y.0 ∙ absent a y.1, y.1);
  new_started = λ a l. ap (λ c. c || (b && is_at a p.mine)) (k.new_started a l) ∙ absent a (k.fresh a l);
  new_yielded = k.new_yielded;
}
  where
    here : (a : ℕ) → is_at a p.mine ≡ true → at_count a p.mine ≡ 1
    here a h = ap (λ c. cond c 1 0) h

    absent : (a : ℕ) → tally a p ≡ 0 → (b && is_at a p.mine) ≡ false
    absent a z = pick (b && is_at a p.mine) refl
      where
        pick : (c : Bool) → (b && is_at a p.mine) ≡ c → c ≡ false
        pick true e = let n = here a (and_parts b (is_at a p.mine) e).1 in absurd (omega (arith, n, z))
        pick false e = refl

-- a message is taken from the worker's link, and it may say that an attempt is given back
pub pop_tale : (started yielded : ℕ → Bool) (p : Pair) (r : Report) (rs : List Report) → IsTale started yielded (record p { up = r ∷ rs }) → IsTale started (λ a. yielded a || hears_yes (r ∷ rs) a) (record p { up = rs })
pop_tale started yielded p r rs k = record {
  once = λ a. let o = k.once a in omega (arith, o);
  fresh = λ a l. let o = k.fresh a l in omega (arith, o);
  taken = k.taken;
  unstarted = λ a i. let z = k.unstarted a i in omega (arith, z);
  gone = λ a i. ⊎_elim (λ y. let z = k.gone a y in (z.0, omega (arith, z.1))) (λ y. now a (yes r a y)) (or_cases (yielded a) (hears_yes (r ∷ rs) a) i);
  new_started = k.new_started;
  new_yielded = λ a l. ap (λ c. c || hears_yes (r ∷ rs) a) (k.new_yielded a l) ∙ none a (k.fresh a l) (hears_yes (r ∷ rs) a) refl;
}
  where
    yes : (r : Report) (a : ℕ) → hears_yes (r ∷ rs) a ≡ true → yields a r ≡ 1
    yes (Gave b) a e = ap (λ c. cond c 1 0) e
    yes (Finished b) a e = absurd (false≢true e)
    yes (Erred b) a e = absurd (false≢true e)
    yes (Declined b) a e = absurd (false≢true e)
    yes (Added u) a e = absurd (false≢true e)
    yes (Released u) a e = absurd (false≢true e)
    yes Quiet a e = absurd (false≢true e)

    one : (a : ℕ) → yields a r ≡ 1 → 1 ≤ ended_count a (r ∷ [])
    one a y = let b = yielded_ended a (r ∷ []) in omega (arith, b, y)

    now : (a : ℕ) → yields a r ≡ 1 → (started a ≡ false) × (tally a (record p { up = rs }) ≡ 0)
    now a y = (not_started (started a) refl, let b = one a y in let o = k.once a in omega (arith, b, o))
      where
        not_started : (c : Bool) → started a ≡ c → c ≡ false
        not_started true i = let z = k.unstarted a i in absurd (omega (arith, z, y))
        not_started false i = refl

    none : (a : ℕ) → tally a (record p { up = r ∷ rs }) ≡ 0 → (c : Bool) → hears_yes (r ∷ rs) a ≡ c → c ≡ false
    none a z true h = let b = one a (yes r a h) in absurd (omega (arith, b, z))
    none a z false h = refl

-- messages to the worker that give no attempt but fresh ones, and each of those once
pub record AreFresh (counter more : ℕ) (ns : List Note) : Type 0 where
  pub old : (a : ℕ) → a < counter → given_count a ns ≡ 0
  pub one : (a : ℕ) → given_count a ns ≤ 1
  pub new : (a : ℕ) → more ≤ a → given_count a ns ≡ 0
  pub grows : counter ≤ more

pub post_tale : (started yielded : ℕ → Bool) (p : Pair) (more : ℕ) (ns : List Note) → AreFresh p.counter more ns → IsTale started yielded p → IsTale started yielded (record p { counter = more; down = p.down ++ ns })
post_tale started yielded p more ns f k = record {
  once = λ a. ⊎_elim (λ l. let z = f.old a l in let g = given-append a p.down ns in let o = k.once a in omega (arith, z, g, o)) (λ l. let z = k.fresh a l in let g = given-append a p.down ns in let o = f.one a in omega (arith, z, g, o)) (cases_lt a p.counter);
  fresh = λ a l. let z = k.fresh a (omega (arith, l, f.grows)) in let g = given-append a p.down ns in let o = f.new a l in omega (arith, z, g, o);
  taken = λ a i. let z = k.taken a i in let g = given-append a p.down ns in let o = f.old a (older started k.new_started a i) in omega (arith, z, g, o);
  unstarted = k.unstarted;
  gone = λ a i. let z = k.gone a i in let g = given-append a p.down ns in let o = f.old a (older yielded k.new_yielded a i) in (z.0, omega (arith, z.1, g, o));
  new_started = λ a l. k.new_started a (omega (arith, l, f.grows));
  new_yielded = λ a l. k.new_yielded a (omega (arith, l, f.grows));
}
  where
    older : (t : ℕ → Bool) → ((a : ℕ) → p.counter ≤ a → t a ≡ false) → (a : ℕ) → t a ≡ true → a < p.counter
    older t n a i = ⊎_elim (λ l. l) (λ l. absurd (true≢false (sym i ∙ n a l))) (cases_lt a p.counter)
