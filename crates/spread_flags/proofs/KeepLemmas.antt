-- What is kept over one change.
use Rattle.std.proofs.Common.{◌≡◌, ℕ, ◌+◌, ◌<◌, ◌≤◌, ◌^◌, Bool, true, false, not, cond, ◌&&◌, ◌||◌, List, [], ◌∷◌, refl, sym, ap, ◌∙◌, arith, length, ltb, Option, Some, None, ⊎_elim}
use Rattle.std.specs.List.{AllByRecursion}
use Rattle.std.proofs.lemmas.Bool.{false≢true, eqb-true, cases_lt, or_parts}
use Rattle.std.proofs.lemmas.Bool.Decides.{nat_tests}
use Rattle.std.proofs.Math.Dec.{eqb}
use Rattle.std.proofs.Math.Bool.{and-false, or-false}
use Rattle.small_facts.proofs.Numbers.{below_or_unequal, unequal_past}
use Rattle.small_facts.proofs.Truth.{cond_same}
use mathlib.Core.Bool.{beq}
use Rattle.fact_rows.specs.Rows.{read}
use Rattle.cluster_rules.specs.Functions.{put, count}
use Rattle.cluster_rules.specs.Derived.{below, is_in}
use Rattle.key_sets.specs.Sets.{has, room, IsFirst, IsLast}
use Rattle.cluster_rules.proofs.DerivedLemmas.{none_in}
use Rattle.spread_flags.specs.Spread.{Spread, IsKept, IsLinked, IsSpread, size, targets, seed, gate, flag, leaders, due, was}
use Rattle.spread_flags.proofs.CountLemmas.{total_put, any-count, count_few}

-- a key that leads to another by its flag is counted there
pub leader_counted : (s : Spread) (key k : ℕ) → IsKept s → key < size s → flag s key ≡ true → is_in k (targets s key) ≡ true → 1 ≤ leaders s k
leader_counted s key k h l f i =
    let t = total_put (λ j. cond (is_in k (targets s j) && flag s j) 1 0) (λ j. cond (eqb j key) 0 (cond (is_in k (targets s j) && flag s j) 1 0)) key 0 (λ j. refl) 0 (size s) (omega arith) (omega arith) in
    let one : ◌≡◌ {A = ℕ} (cond (is_in k (targets s key) && flag s key) 1 0) 1 = ap (λ b. cond (b && flag s key) 1 0) i ∙ ap (λ b. cond b 1 0) f in
    let e = h.counted k in
    omega (arith, e, t, one)

-- no count is large
pub leaders_few : (s : Spread) (k : ℕ) → IsKept s → leaders s k < 2 ^ 31
leaders_few s k h = omega (arith, h.counted k, count_few (λ j. is_in k (targets s j) && flag s j) (size s), h.linked.few)

-- flags that differ
pub flip : (b c : Bool) → not (beq b c) ≡ true → c ≡ not b
flip true true h = absurd (false≢true h)
flip true false h = refl
flip false true h = refl
flip false false h = absurd (false≢true h)

-- flags that do not
pub alike_flags : (b c : Bool) → not (beq b c) ≡ false → c ≡ b
alike_flags true true h = refl
alike_flags true false h = absurd (false≢true (sym h))
alike_flags false true h = absurd (false≢true (sym h))
alike_flags false false h = refl

-- flags that do not differ
pub not_false : (b : Bool) → false ≡ not b → b ≡ true
not_false true e = refl
not_false false e = absurd (false≢true e)

-- nothing is kept of no flags
pub kept-new : (s : Spread) → IsLinked s.links → length s.seeds ≡ size s → length s.gates ≡ size s → length s.flags ≡ size s → length s.counts ≡ size s → size s ≤ room s.stale → size s ≤ room s.changed
    → ((k : ℕ) → seed s k ≡ false) → ((k : ℕ) → flag s k ≡ false) → ((k : ℕ) → leaders s k ≡ 0) → ((k : ℕ) → has s.stale k ≡ false) → ((k : ℕ) → has s.changed k ≡ false) → IsKept s
kept-new s linked sl gl fl cl sr cr seeds flags counts stale changed = record {
  linked = linked;
  seed_row = sl;
  gate_row = gl;
  flag_row = fl;
  count_row = cl;
  stale_room = sr;
  changed_room = cr;
  stale = λ k m. stale k;
  changed = λ k m. changed k;
  counted = λ k. counts k ∙ sym (none (below (size s)) k);
  fresh = λ k m e. flags k ∙ sym (ap (λ b. gate s k && (b || ltb 0 (leaders s k))) (seeds k) ∙ ap (λ n. gate s k && ltb 0 n) (counts k) ∙ and-false (gate s k));
}
  where
    none : (xs : List ℕ) (k : ℕ) → count (λ j. is_in k (targets s j) && flag s j) xs ≡ 0
    none [] k = refl
    none (x ∷ xs) k =
        let rest : count (λ j. is_in k (targets s j) && flag s j) xs ≡ 0 = none xs k in
        let first : ◌≡◌ {A = ℕ} (cond (is_in k (targets s x) && flag s x) 1 0) 0 = ap (λ b. cond (is_in k (targets s x) && b) 1 0) (flags x) ∙ ap (λ b. cond b 1 0) (and-false (is_in k (targets s x))) in
        omega (arith, rest, first)

-- the flag of a key is another
pub kept-turned : (s : Spread) (key : ℕ) (to : Bool) (flags : List Bool) (counts stale stale_two changed : List ℕ) → IsKept s → key < size s
    → to ≡ due s key → flag s key ≡ not to
    → read flags false ≡ put (read s.flags false) key to → length flags ≡ length s.flags
    → ((k : ℕ) → has stale k ≡ cond (eqb k key) false (has s.stale k)) → room stale ≡ room s.stale
    → ((k : ℕ) → has stale_two k ≡ (has stale k || is_in k (targets s key))) → room stale_two ≡ room stale
    → ((k : ℕ) → has changed k ≡ cond (eqb k key) (not (has s.changed k)) (has s.changed k)) → room changed ≡ room s.changed
    → ((k : ℕ) → read counts 0 k + cond (is_in k (targets s key) && not to) 1 0 ≡ read s.counts 0 k + cond (is_in k (targets s key) && to) 1 0) → length counts ≡ length s.counts
    → ((k : ℕ) → size s ≤ k → is_in k (targets s key) ≡ false)
    → IsKept (record { links = s.links; seeds = s.seeds; gates = s.gates; flags = flags; counts = counts; stale = stale_two; changed = changed })
kept-turned s key to flags counts stale stale_two changed h l d f fl fn st sn mk mn ch cn ct cl away = record {
  linked = h.linked;
  seed_row = h.seed_row;
  gate_row = h.gate_row;
  flag_row = fn ∙ h.flag_row;
  count_row = cl ∙ h.count_row;
  stale_room = omega (arith, h.stale_room, sn, mn);
  changed_room = omega (arith, h.changed_room, cn);
  stale = λ k m. mk k ∙ ap (λ b. has stale k || b) (away k m) ∙ or-false (has stale k) ∙ st k ∙ ap (cond (eqb k key) false) (h.stale k m) ∙ cond_same (eqb k key) false;
  changed = λ k m. ch k ∙ ap (λ b. cond b (not (has s.changed k)) (has s.changed k)) (unequal_past k key (size s) l m) ∙ h.changed k m;
  counted = counted_again;
  fresh = fresh_again;
}
  where
    flag_at : (j : ℕ) → read flags false j ≡ cond (eqb j key) to (flag s j)
    flag_at j = ap (λ g. g j) fl

    counted_again : (k : ℕ) → read counts 0 k ≡ count (λ j. is_in k (targets s j) && read flags false j) (below (size s))
    counted_again k =
        let t = total_put (λ j. cond (is_in k (targets s j) && flag s j) 1 0) (λ j. cond (is_in k (targets s j) && read flags false j) 1 0) key (cond (is_in k (targets s key) && to) 1 0) (λ j. ap (λ b. cond (is_in k (targets s j) && b) 1 0) (flag_at j) ∙ pick j (eqb j key) refl) 0 (size s) (omega arith) (omega arith) in
        let g : ◌≡◌ {A = ℕ} (cond (is_in k (targets s key) && flag s key) 1 0) (cond (is_in k (targets s key) && not to) 1 0) = ap (λ b. cond (is_in k (targets s key) && b) 1 0) f in
        omega (arith, t, g, ct k, h.counted k)
      where
        pick : (j : ℕ) (b : Bool) → eqb j key ≡ b → ◌≡◌ {A = ℕ} (cond (is_in k (targets s j) && cond b to (flag s j)) 1 0) (cond b (cond (is_in k (targets s key) && to) 1 0) (cond (is_in k (targets s j) && flag s j) 1 0))
        pick j true e = ap (λ i. cond (is_in k (targets s i) && to) 1 0) (eqb-true j key e)
        pick j false e = refl

    fresh_again : (k : ℕ) → k < size s → has stale_two k ≡ false → read flags false k ≡ (gate s k && (seed s k || ltb 0 (read counts 0 k)))
    fresh_again k m e =
        let p = or_parts (has stale k) (is_in k (targets s key)) (sym (mk k) ∙ e) in
        let same : read counts 0 k ≡ read s.counts 0 k = alike (read counts 0 k) (read s.counts 0 k) (is_in k (targets s key)) p.1 (ct k) in
        flag_at k ∙ pick (eqb k key) refl p.0 ∙ ap (λ n. gate s k && (seed s k || ltb 0 n)) (sym same)
      where
        alike : (a b : ℕ) (i : Bool) → i ≡ false → a + cond (i && not to) 1 0 ≡ b + cond (i && to) 1 0 → a ≡ b
        alike a b true q r = absurd (false≢true (sym q))
        alike a b false q r = omega arith

        pick : (b : Bool) → eqb k key ≡ b → has stale k ≡ false → cond b to (flag s k) ≡ due s k
        pick true q r = d ∙ ap (due s) (sym (eqb-true k key q))
        pick false q r = h.fresh k m (sym (st k ∙ ap (λ b. cond b false (has s.stale k)) q) ∙ r)

-- the key has the flag that it is due
pub kept-looked : (s : Spread) (key : ℕ) (stale : List ℕ) → IsKept s → key < size s → flag s key ≡ due s key
    → ((k : ℕ) → has stale k ≡ cond (eqb k key) false (has s.stale k)) → room stale ≡ room s.stale
    → IsKept (record { links = s.links; seeds = s.seeds; gates = s.gates; flags = s.flags; counts = s.counts; stale = stale; changed = s.changed })
kept-looked s key stale h l d st sn = record {
  linked = h.linked;
  seed_row = h.seed_row;
  gate_row = h.gate_row;
  flag_row = h.flag_row;
  count_row = h.count_row;
  stale_room = omega (arith, h.stale_room, sn);
  changed_room = h.changed_room;
  stale = λ k m. st k ∙ ap (cond (eqb k key) false) (h.stale k m) ∙ cond_same (eqb k key) false;
  changed = h.changed;
  counted = h.counted;
  fresh = λ k m e. pick k m (eqb k key) refl (sym (st k) ∙ e);
}
  where
    pick : (k : ℕ) → k < size s → (b : Bool) → eqb k key ≡ b → cond b false (has s.stale k) ≡ false → flag s k ≡ due s k
    pick k m true q r = ap (flag s) (eqb-true k key q) ∙ d ∙ ap (due s) (sym (eqb-true k key q))
    pick k m false q r = h.fresh k m r

-- the flag as it was is the same
pub was-turned : (s : Spread) (key : ℕ) (to : Bool) (flags : List Bool) (changed : List ℕ) → flag s key ≡ not to → read flags false ≡ put (read s.flags false) key to
    → ((k : ℕ) → has changed k ≡ cond (eqb k key) (not (has s.changed k)) (has s.changed k))
    → (k : ℕ) → cond (has changed k) (not (read flags false k)) (read flags false k) ≡ was s k
was-turned s key to flags changed f fl ch k =
    ap (λ b. cond b (not (read flags false k)) (read flags false k)) (ch k) ∙ ap (λ g. cond (cond (eqb k key) (not (has s.changed k)) (has s.changed k)) (not (g k)) (g k)) fl ∙ pick (eqb k key) refl
  where
    turn : (c t : Bool) → cond (not c) (not t) t ≡ cond c (not (not t)) (not t)
    turn true true = refl
    turn true false = refl
    turn false true = refl
    turn false false = refl

    pick : (b : Bool) → eqb k key ≡ b → cond (cond b (not (has s.changed k)) (has s.changed k)) (not (cond b to (flag s k))) (cond b to (flag s k)) ≡ was s k
    pick true q = turn (has s.changed k) to ∙ ap (λ g. cond (has s.changed k) (not g) g) (sym f ∙ ap (flag s) (sym (eqb-true k key q)))
    pick false q = refl

-- one key's own facts are others, and it is to be looked at
pub kept-told : (s : Spread) (key : ℕ) (seeds gates : List Bool) (stale : List ℕ) → IsKept s → key < size s
    → length seeds ≡ length s.seeds → length gates ≡ length s.gates
    → ((k : ℕ) → eqb k key ≡ false → read seeds false k ≡ seed s k) → ((k : ℕ) → eqb k key ≡ false → read gates false k ≡ gate s k)
    → ((k : ℕ) → has stale k ≡ cond (eqb k key) true (has s.stale k)) → room stale ≡ room s.stale
    → IsKept (record { links = s.links; seeds = seeds; gates = gates; flags = s.flags; counts = s.counts; stale = stale; changed = s.changed })
kept-told s key seeds gates stale h l sl gl se ge st sn = record {
  linked = h.linked;
  seed_row = sl ∙ h.seed_row;
  gate_row = gl ∙ h.gate_row;
  flag_row = h.flag_row;
  count_row = h.count_row;
  stale_room = omega (arith, h.stale_room, sn);
  changed_room = h.changed_room;
  stale = λ k m. st k ∙ ap (λ b. cond b true (has s.stale k)) (unequal_past k key (size s) l m) ∙ h.stale k m;
  changed = h.changed;
  counted = h.counted;
  fresh = λ k m e. pick k m (eqb k key) refl (sym (st k) ∙ e);
}
  where
    pick : (k : ℕ) → k < size s → (b : Bool) → eqb k key ≡ b → cond b true (has s.stale k) ≡ false → flag s k ≡ (read gates false k && (read seeds false k || ltb 0 (leaders s k)))
    pick k m true q r = absurd (false≢true (sym r))
    pick k m false q r = h.fresh k m r ∙ ap (λ g. g && (seed s k || ltb 0 (leaders s k))) (sym (ge k q)) ∙ ap (λ b. read gates false k && (b || ltb 0 (leaders s k))) (sym (se k q))

-- where no key is to be looked at the flags have spread
pub spread-kept : (s : Spread) → IsKept s → ((k : ℕ) → has s.stale k ≡ false) → IsSpread (targets s) (size s) (seed s) (gate s) (flag s)
spread-kept s h none k l =
    h.fresh k l (none k) ∙ ap (λ b. gate s k && (seed s k || b)) (ap (ltb 0) (h.counted k) ∙ sym (any-count (λ j. is_in k (targets s j) && flag s j) (below (size s))))

-- only keys that are there are to be looked at
pub stale_there : (s : Spread) (key : ℕ) → IsKept s → has s.stale key ≡ true → key < size s
stale_there s key h e = ⊎_elim (λ l. l) (λ l. absurd (false≢true (sym (h.stale key l) ∙ e))) (cases_lt key (size s))

none_above : (k j : ℕ) (xs : List ℕ) → AllByRecursion (λ d. j < d) xs → k ≤ j → is_in k xs ≡ false
none_above k j [] h l = refl
none_above k j (x ∷ xs) h l = ap (λ b. b || is_in k xs) (apart x k j h.0 l) ∙ none_above k j xs h.1 l
  where
    apart : (x k j : ℕ) → j < x → k ≤ j → eqb x k ≡ false
    apart x k j a b = grind (arith, nat_tests)

-- up to the key that was looked at, and with it, none is to be looked at
pub done_up : (s : Spread) (stale : List ℕ) (from key : ℕ) → IsFirst (has s.stale) from (Some key) → ((k : ℕ) → k < from → has s.stale k ≡ false) → AllByRecursion (λ d. key < d) (targets s key)
    → ((k : ℕ) → is_in k (targets s key) ≡ false → has stale k ≡ cond (eqb k key) false (has s.stale k)) → (k : ℕ) → k < key + 1 → has stale k ≡ false
done_up s stale from key first done up st k l = st k (none_above k key (targets s key) up (omega arith)) ∙ pick (eqb k key) refl
  where
    pick : (b : Bool) → eqb k key ≡ b → cond b false (has s.stale k) ≡ false
    pick true e = refl
    pick false e = ⊎_elim (λ m. done k m) (λ m. first.2 k m (below_or_unequal k key l e)) (cases_lt k from)

-- the same downwards
pub done_down : (s : Spread) (stale : List ℕ) (below key : ℕ) → IsLast (has s.stale) below (Some key) → ((k : ℕ) → below ≤ k → has s.stale k ≡ false) → AllByRecursion (λ d. d < key) (targets s key)
    → ((k : ℕ) → is_in k (targets s key) ≡ false → has stale k ≡ cond (eqb k key) false (has s.stale k)) → (k : ℕ) → key ≤ k → has stale k ≡ false
done_down s stale below key last done down st k l = st k (none_in k key (targets s key) down l) ∙ pick (eqb k key) refl
  where
    higher : (k key : ℕ) → key ≤ k → eqb k key ≡ false → key < k
    higher k key a e = grind (arith, nat_tests)

    pick : (b : Bool) → eqb k key ≡ b → cond b false (has s.stale k) ≡ false
    pick true e = refl
    pick false e = ⊎_elim (λ m. last.2 k (higher k key l e) m) (λ m. done k m) (cases_lt k below)

pub none_from : (p : ℕ → Bool) (a : ℕ) (o : Option ℕ) → IsFirst p a o → ((x : ℕ) → o ≡ Some x → ⊥) → ((k : ℕ) → k < a → p k ≡ false) → (k : ℕ) → p k ≡ false
none_from p a None h n d k = ⊎_elim (λ m. d k m) (λ m. h k m) (cases_lt k a)
none_from p a (Some x) h n d k = absurd (n x refl)

pub none_below : (p : ℕ → Bool) (a : ℕ) (o : Option ℕ) → IsLast p a o → ((x : ℕ) → o ≡ Some x → ⊥) → ((k : ℕ) → a ≤ k → p k ≡ false) → (k : ℕ) → p k ≡ false
none_below p a None h n d k = ⊎_elim (λ m. h k m) (λ m. d k m) (cases_lt k a)
none_below p a (Some x) h n d k = absurd (n x refl)
