-- What events change, step by step.
use Rattle.std.proofs.Common.{◌≡◌, ℕ, ◌+◌, ◌<◌, ◌≤◌, Bool, true, false, not, cond, ◌&&◌, ◌||◌, List, [], ◌∷◌, ◌++◌, Some, is_some, refl, sym, ap, ◌∙◌, subst, arith, length, get_or, take}
use Rattle.std.specs.Prelude.{nat_le}
use Rattle.std.proofs.lemmas.List.{take_more}
use Rattle.std.proofs.Math.Dec.{eqb}
use Rattle.std.proofs.Math.Bool.{and-false}
use Rattle.small_facts.proofs.Lists.{take_zero, any_push}
use Rattle.small_facts.proofs.Numbers.{eqb_turned, eqb_self}
use Rattle.cluster_rules.specs.Functions.{put_pair, count}
use Rattle.cluster_rules.specs.Derived.{is_in, below}
use Rattle.cluster_rules.specs.Sched.{Facts, holds, held, is_on}
use Rattle.cluster_rules.specs.SchedTable.{Changed, add_key, add_keys}
use Rattle.sched_facts.proofs.SumLemmas.{line_sum}
use Rattle.sched_facts.proofs.DeriveLemmas.{count_few}
use Rattle.sched_changes.specs.Pairs.{has_pair, so_far}
use Rattle.sched_changes.specs.Rows.{news_of}
use Rattle.sched_changes.specs.declared.changes.News.{News}
use Rattle.sched_changes.specs.declared.changes.News.TheVariants.{Nothing, Copy, Stray}
use Rattle.sched_changes.proofs.PairLemmas.{pair_put}

-- one more key is wanted or not
abbrev pub wanting : Facts → ℕ → Bool → List ℕ → Facts
wanting f c to xs = record f { want = λ d k. cond (eqb d c && is_in k xs) to (f.want d k) }

pub want_none : (f : Facts) (c : ℕ) (to : Bool) (xs : List ℕ) → f ≡ wanting f c to (take 0 xs)
want_none f c to xs = λ i. record f { want = λ d k. at d k i }
  where
    at : (d k : ℕ) → f.want d k ≡ cond (eqb d c && is_in k (take 0 xs)) to (f.want d k)
    at d k = sym (ap (λ ys. cond (eqb d c && is_in k ys) to (f.want d k)) (take_zero xs) ∙ ap (λ b. cond b to (f.want d k)) (and-false (eqb d c)))

pub want_next : (f : Facts) (c : ℕ) (to : Bool) (xs : List ℕ) (i x : ℕ) → i < length xs → x ≡ get_or xs i 0 → record (wanting f c to (take i xs)) { want = put_pair (wanting f c to (take i xs)).want c x to } ≡ wanting f c to (take (i + 1) xs)
want_next f c to xs i x l at_i = λ j. record f { want = λ d k. at d k j }
  where
    turn : (a b e w : Bool) → cond (a && b) to (cond (a && e) to w) ≡ cond (a && (e || b)) to w
    turn true true true w = refl
    turn true true false w = refl
    turn true false true w = refl
    turn true false false w = refl
    turn false b e w = refl

    taken : (k : ℕ) → (is_in k (take i xs) || eqb k x) ≡ is_in k (take (i + 1) xs)
    taken k = sym (ap (is_in k) (take_more xs i 0 l) ∙ any_push (λ d. eqb d k) (take i xs) (get_or xs i 0) ∙ ap (λ y. is_in k (take i xs) || eqb y k) (sym at_i) ∙ ap (λ b. is_in k (take i xs) || b) (eqb_turned x k))

    at : (d k : ℕ) → cond (eqb d c && eqb k x) to (cond (eqb d c && is_in k (take i xs)) to (f.want d k)) ≡ cond (eqb d c && is_in k (take (i + 1) xs)) to (f.want d k)
    at d k = turn (eqb d c) (eqb k x) (is_in k (take i xs)) (f.want d k) ∙ ap (λ b. cond (eqb d c && b) to (f.want d k)) (taken k)

pub wants_or : (f : Facts) (c : ℕ) (xs : List ℕ) → wanting f c true xs ≡ record f { want = λ d k. f.want d k || (eqb d c && is_in k xs) }
wants_or f c xs = λ i. record f { want = λ d k. turn (f.want d k) (eqb d c && is_in k xs) i }
  where
    turn : (a b : Bool) → cond b true a ≡ (a || b)
    turn true true = refl
    turn true false = refl
    turn false true = refl
    turn false false = refl

pub wants_not : (f : Facts) (c : ℕ) (xs : List ℕ) → wanting f c false xs ≡ record f { want = λ d k. f.want d k && not (eqb d c && is_in k xs) }
wants_not f c xs = λ i. record f { want = λ d k. turn (f.want d k) (eqb d c && is_in k xs) i }
  where
    turn : (a b : Bool) → cond b false a ≡ (a && not b)
    turn true true = refl
    turn true false = refl
    turn false true = refl
    turn false false = refl

-- add-keys of one key, by what it says
abbrev pub said : News → ℕ → ℕ → Facts → List (ℕ × ℕ) → Changed
said Nothing w k f ps = so_far f ps
said Copy w k f ps = so_far (record f { has = put_pair f.has w k (Some f.counter); counter = f.counter + 1 }) ps
said Stray w k f ps = record (so_far f ps) { freed = put_pair (has_pair ps) w k true }

pub add_said : (f : Facts) (ps : List (ℕ × ℕ)) (w seen k : ℕ) → add_key w seen (so_far f ps) k ≡ said (news_of f w seen k) w k f ps
add_said f ps w seen k = pick (nat_le (f.fence w k) seen) (holds f w k) (held f k) (is_on f w k)
  where
    g : Changed
    g = so_far f ps

    pick : (a b c d : Bool) → cond a (cond b g (cond c (so_far (record f { has = put_pair f.has w k (Some f.counter); counter = f.counter + 1 }) ps) (cond d g (record g { freed = put_pair (has_pair ps) w k true })))) g ≡ said (cond a (cond b Nothing (cond c Copy (cond d Nothing Stray))) Nothing) w k f ps
    pick false b c d = refl
    pick true true c d = refl
    pick true false true d = refl
    pick true false false true = refl
    pick true false false false = refl

pub said_stray : (f : Facts) (ps : List (ℕ × ℕ)) (w k : ℕ) → so_far f (ps ++ (w, k) ∷ []) ≡ said Stray w k f ps
said_stray f ps w k = λ i. record (so_far f ps) { freed = pair_put ps w k i }

-- what one key of add-keys leaves, and how many copies it makes
pub record IsAdded (f g : Facts) (w n : ℕ) : Type 0 where
  pub setting : g.setting ≡ f.setting
  pub threads : g.threads ≡ f.threads
  pub counted : g.counter + count (holds f w) (below n) ≡ f.counter + count (holds g w) (below n)
  pub finishes : g.finishes ≡ f.finishes
  pub sent : g.sent ≡ f.sent

pub added_self : (f : Facts) (w n : ℕ) → IsAdded f f w n
added_self f w n = record { setting = refl; threads = refl; counted = refl; finishes = refl; sent = refl }

pub added_then : (f g h : Facts) (w n : ℕ) → IsAdded f g w n → IsAdded g h w n → IsAdded f h w n
added_then f g h w n p q = record { setting = q.setting ∙ p.setting; threads = q.threads ∙ p.threads; counted = both f.counter g.counter h.counter (count (holds f w) (below n)) (count (holds g w) (below n)) (count (holds h w) (below n)) p.counted q.counted; finishes = q.finishes ∙ p.finishes; sent = q.sent ∙ p.sent }
  where
    both : (a b c x y z : ℕ) → b + x ≡ a + y → c + y ≡ b + z → c + x ≡ a + z
    both a b c x y z s t = omega arith

pub added_one : (f : Facts) (ps : List (ℕ × ℕ)) (w seen k n : ℕ) → k < n → IsAdded f (add_key w seen (so_far f ps) k).facts w n
added_one f ps w seen k n l = pick (nat_le (f.fence w k) seen) (holds f w k) (held f k) (is_on f w k) refl
  where
    g : Changed
    g = so_far f ps

    one : holds f w k ≡ false → (f.counter + 1) + count (holds f w) (below n) ≡ f.counter + count (λ j. is_some (put_pair f.has w k (Some f.counter) w j)) (below n)
    one e =
        let sum : count (λ j. is_some (put_pair f.has w k (Some f.counter) w j)) (below n) + cond (eqb w w) (cond (holds f w k) 1 0) 0 ≡ count (holds f w) (below n) + cond (eqb w w) 1 0 = line_sum (λ j o. cond (is_some o) 1 0) f.has n w k (Some f.counter) l w in
        let plain : count (λ j. is_some (put_pair f.has w k (Some f.counter) w j)) (below n) + 0 ≡ count (holds f w) (below n) + 1 = subst (λ (b : Bool). count (λ j. is_some (put_pair f.has w k (Some f.counter) w j)) (below n) + cond b 1 0 ≡ count (holds f w) (below n) + 1) e (subst (λ (b : Bool). count (λ j. is_some (put_pair f.has w k (Some f.counter) w j)) (below n) + cond b (cond (holds f w k) 1 0) 0 ≡ count (holds f w) (below n) + cond b 1 0) (eqb_self w) sum) in
        omega arith

    pick : (a b c d : Bool) → holds f w k ≡ b → IsAdded f (cond a (cond b g (cond c (so_far (record f { has = put_pair f.has w k (Some f.counter); counter = f.counter + 1 }) ps) (cond d g (record g { freed = put_pair (has_pair ps) w k true })))) g).facts w n
    pick false b c d e = added_self f w n
    pick true true c d e = added_self f w n
    pick true false true d e = record { setting = refl; threads = refl; counted = one e; finishes = refl; sent = refl }
    pick true false false true e = added_self f w n
    pick true false false false e = added_self f w n

pub add_push : (w seen : ℕ) (g : Changed) (xs : List ℕ) (x : ℕ) → add_keys w seen g (xs ++ x ∷ []) ≡ add_key w seen (add_keys w seen g xs) x
add_push w seen g [] x = refl
add_push w seen g (y ∷ xs) x = add_push w seen (add_key w seen g y) xs x

pub add_none : (w seen : ℕ) (g : Changed) (xs : List ℕ) → g ≡ add_keys w seen g (take 0 xs)
add_none w seen g [] = refl
add_none w seen g (x ∷ xs) = refl

-- there is room for a number to each key
pub added_room : (f g : Facts) (w n m : ℕ) → IsAdded f g w n → f.counter + n ≤ m → g.counter ≤ m
added_room f g w n m p l = let few : count (holds g w) (below n) ≤ n = count_few (holds g w) n in let c : g.counter + count (holds f w) (below n) ≡ f.counter + count (holds g w) (below n) = p.counted in omega arith
