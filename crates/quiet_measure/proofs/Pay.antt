-- What one key costs in settling, and what pays for it.
use Rattle.std.proofs.Common.{◌≡◌, ℕ, suc, ◌+◌, ◌*◌, ◌≤◌, Bool, true, false, cond, not, ◌&&◌, ◌||◌, List, [], ◌∷◌, length, Option, Some, None, refl, sym, ap, ◌∙◌, arith, is_some, is_none, map, mul-le-mul, le_refl}
use Rattle.std.specs.Prelude.{nat_le}
use Rattle.std.specs.Option.{option_map}
use Rattle.std.proofs.lemmas.Bool.{true≢false, false≢true}
use Rattle.cluster_msgs.specs.declared.messages.Down.TheVariants.{ComputeTask}
use Rattle.cluster_msgs.specs.declared.messages.ToClient.{ToClient}
use Rattle.cluster_msgs.specs.declared.messages.ToClient.TheVariants.{KeyInMemory, LostData, ClientTaskErred}
use Rattle.cluster_rules.specs.Functions.{from_one, total, count}
use Rattle.cluster_rules.specs.Sched.{Facts, deps, holds, held, erred, blame, need, ready, is_for, is_on, holders, who_has, holder_count}
use Rattle.small_facts.proofs.Truth.{and_first}
use Rattle.cluster_rules.specs.SchedTable.{is_asked_back}
use Rattle.cluster_rules.specs.SchedStep.{Stages, was_held, was_erred}
use Rattle.quiet_measure.specs.Weights.{bit, sum_of, question, list_weight, given_weight, down_weight, news_weight}
use Rattle.quiet_measure.specs.Measure.{is_to_try, deaths, most_listed, most_told, most_asked, pair_weight, end_weight, try_weight, key_weight, told_weight}
use Rattle.quiet_measure.proofs.Sums.{total_at_most}
use Rattle.quiet_measure.proofs.Fewer.{total_nothing}
use Rattle.quiet_measure.specs.Settles.{SettlesAt}
use Rattle.quiet_measure.proofs.Posts.{total_plus, one_place, at_option, freed_cost, new_cost, told_cost}

pub one_most : (b : Bool) → bit b ≤ 1
one_most true = omega arith
one_most false = omega arith

pub most_deaths : (f : Facts) (b k : ℕ) → deaths f b k ≤ b + 2
unfolding deaths
most_deaths f b k = let x : bit (is_to_try f k) ≤ 1 = one_most (is_to_try f k) in let y : bit (is_some (f.on k) || held f k) ≤ 1 = one_most (is_some (f.on k) || held f k) in omega (arith, x, y)

-- ## A new task

given_most : (f : Facts) (e : ℕ → ℕ) (b i : ℕ) → ((k : ℕ) → e k ≤ b + 2) → (p : ℕ × List (ℕ × ℕ)) → given_weight f e i p ≤ most_listed b
given_most f e b i h p = at p.0 _
  where
    at : (k : ℕ) (s : Bool) → list_weight e k s ≤ most_listed b
    at k s = let x : bit s ≤ 1 = one_most s in let y : e k ≤ b + 2 = h k in omega (arith, x, y)

givens_most : (f : Facts) (e : ℕ → ℕ) (b i : ℕ) → ((k : ℕ) → e k ≤ b + 2) → (ds : List ℕ) → sum_of (given_weight f e i) (map (λ d. (d, holders f d)) ds) ≤ length ds * most_listed b
givens_most f e b i h [] = omega arith
givens_most f e b i h (d ∷ ds) = sums _ _ _ _ (given_most f e b i h (d, holders f d)) (givens_most f e b i h ds)
  where
    sums : (x y n m : ℕ) → x ≤ m → y ≤ n * m → x + y ≤ suc n * m
    sums x y n m p q = let r : suc n * m ≡ m + n * m = omega arith in omega (arith, p, q, r)

-- ## What settling costs

abbrev pub is_new : Stages → Option (ℕ × ℕ) → Bool
is_new t None = false
is_new t (Some q) = nat_le t.before.counter q.1

-- where T says whether a try of the key is there to be paid with
pub record IsBacked (t : Stages) (k : ℕ) (T : Bool) : Type 0 where
  pub tries : is_to_try t.placed k ≡ true → T ≡ true
  pub news : is_new t (t.placed.on k) ≡ true → (T ≡ true) × (is_to_try t.placed k ≡ false)
  pub olds : is_some (t.placed.on k) ≡ true → is_new t (t.placed.on k) ≡ false → is_some (t.changed.facts.on k) ≡ true

new_is_some : (t : Stages) (o : Option (ℕ × ℕ)) → is_new t o ≡ true → is_some o ≡ true
new_is_some t None e = absurd (false≢true e)
new_is_some t (Some q) e = refl

or_most : (x y u v : Bool) → (x ≡ true → u ≡ true) → (y ≡ true → v ≡ true) → bit (x || y) ≤ bit (u || v)
or_most false false u v p q = omega arith
or_most true y u v p q = let e : bit (u || v) ≡ 1 = ap (λ b. bit (b || v)) (p refl) in let o : bit (true || y) ≤ 1 = omega arith in omega (arith, e)
or_most false true u v p q = let e : bit (u || v) ≡ 1 = ap (λ b. bit (u || b)) (q refl) ∙ right u in omega (arith, e)
  where
    right : (b : Bool) → bit (b || true) ≡ 1
    right true = refl
    right false = refl

pub bit_most : (x y : Bool) → (x ≡ true → y ≡ true) → bit x ≤ bit y
bit_most true y p = let e : bit y ≡ 1 = ap bit (p refl) in omega (arith, e)
bit_most false y p = omega arith

and_right : (a b : Bool) → (a && b) ≡ true → b ≡ true
and_right true b e = e
and_right false b e = absurd (false≢true e)

where_most : (x y : Bool) (n : ℕ) → (x ≡ true → y ≡ true) → cond x n 0 ≤ cond y n 0
where_most false y n p = omega arith
where_most true y n p = let e : cond y n 0 ≡ n = ap (λ b. cond b n 0) (p refl) in omega (arith, e)

some_most : (x : Bool) (n : ℕ) → cond x n 0 ≤ n
some_most true n = omega arith
some_most false n = omega arith

pay_cases : (N R y po nw oh T : Bool) (Y E HP HQ Q c : ℕ)
    → (R ≡ true → N ≡ true) → (y ≡ true → T ≡ true) → (y ≡ true → N ≡ true) → (nw ≡ true → (T ≡ true) × (y ≡ false)) → (po ≡ true → nw ≡ false → oh ≡ true) → (R ≡ false → po ≡ false) → (nw ≡ true → po ≡ true)
    → (nw ≡ false → c ≡ 0) → (E + c) + 1 ≤ Y → (N ≡ false → HQ ≤ HP) → Q ≤ E
    → (cond y Y 0 + (cond po E 0 + cond N HP 0)) + (cond N 0 HQ + (cond R 0 (cond oh Q 0) + c)) ≤ cond T Y 0 + (cond oh E 0 + HP)
pay_cases false true y po nw oh T Y E HP HQ Q c rn yt yn nt po_oh rp np n0 ny hq qe = absurd (false≢true (rn refl))
pay_cases false false true po nw oh T Y E HP HQ Q c rn yt yn nt po_oh rp np n0 ny hq qe = absurd (false≢true (yn refl))
pay_cases false false false true nw oh T Y E HP HQ Q c rn yt yn nt po_oh rp np n0 ny hq qe = absurd (true≢false (rp refl))
pay_cases false false false false true oh T Y E HP HQ Q c rn yt yn nt po_oh rp np n0 ny hq qe = absurd (false≢true (np refl))
pay_cases false false false false false true T Y E HP HQ Q c rn yt yn nt po_oh rp np n0 ny hq qe = let z : c ≡ 0 = n0 refl in let l : HQ ≤ HP = hq refl in omega (arith, z, l, qe)
pay_cases false false false false false false T Y E HP HQ Q c rn yt yn nt po_oh rp np n0 ny hq qe = let z : c ≡ 0 = n0 refl in let l : HQ ≤ HP = hq refl in omega (arith, z, l, qe)
pay_cases true false y true nw oh T Y E HP HQ Q c rn yt yn nt po_oh rp np n0 ny hq qe = absurd (true≢false (rp refl))
pay_cases true false y false true oh T Y E HP HQ Q c rn yt yn nt po_oh rp np n0 ny hq qe = absurd (false≢true (np refl))
pay_cases true false y false false true T Y E HP HQ Q c rn yt yn nt po_oh rp np n0 ny hq qe = let z : c ≡ 0 = n0 refl in let l : cond y Y 0 ≤ cond T Y 0 = where_most y T Y yt in omega (arith, z, l, qe)
pay_cases true false y false false false T Y E HP HQ Q c rn yt yn nt po_oh rp np n0 ny hq qe = let z : c ≡ 0 = n0 refl in let l : cond y Y 0 ≤ cond T Y 0 = where_most y T Y yt in omega (arith, z, l, qe)
pay_cases true true y po true oh T Y E HP HQ Q c rn yt yn nt po_oh rp np n0 ny hq qe =
    let a : cond T Y 0 ≡ Y = ap (λ b. cond b Y 0) (nt refl).0 in let b : cond y Y 0 ≡ 0 = ap (λ b. cond b Y 0) (nt refl).1 in let l : cond po E 0 ≤ E = some_most po E in omega (arith, a, b, l, ny)
pay_cases true true y po false oh T Y E HP HQ Q c rn yt yn nt po_oh rp np n0 ny hq qe =
    let z : c ≡ 0 = n0 refl in let l : cond y Y 0 ≤ cond T Y 0 = where_most y T Y yt in let m : cond po E 0 ≤ cond oh E 0 = where_most po oh E (λ e. po_oh e refl) in omega (arith, z, l, m)

module _ (t : Stages) (k : ℕ) (s : SettlesAt t k) (T : Bool) (back : IsBacked t k T) where
  -- the deaths left of the key, beside the disturbances
  pub settle_deaths : bit (is_to_try t.placed k) + bit (is_some (t.placed.on k) || held t.placed k) ≤ bit T + bit (is_some (t.changed.facts.on k) || held t.changed.facts k)
  settle_deaths = pick (is_new t (t.placed.on k)) refl
    where
      pick : (b : Bool) → is_new t (t.placed.on k) ≡ b → bit (is_to_try t.placed k) + bit (is_some (t.placed.on k) || held t.placed k) ≤ bit T + bit (is_some (t.changed.facts.on k) || held t.changed.facts k)
      pick true e =
          let p = back.news e in
          let x : bit T ≡ 1 = ap bit p.0 in
          let y : bit (is_to_try t.placed k) ≡ 0 = ap bit p.1 in
          let z : bit (is_some (t.placed.on k) || held t.placed k) ≤ 1 = one_most (is_some (t.placed.on k) || held t.placed k) in
          omega (arith, x, y, z)
      pick false e =
          let x : bit (is_to_try t.placed k) ≤ bit T = bit_most (is_to_try t.placed k) T back.tries in
          let y : bit (is_some (t.placed.on k) || held t.placed k) ≤ bit (is_some (t.changed.facts.on k) || held t.changed.facts k) =
          or_most (is_some (t.placed.on k)) (held t.placed k) (is_some (t.changed.facts.on k)) (held t.changed.facts k) (λ o. back.olds o e) (λ h. and_right (need t.known_only k) (held t.changed.facts k) (sym s.held_is ∙ h)) in
          omega (arith, x, y)

  -- what is lost in settling
  abbrev pub settle_cost : (ℕ → ℕ) → ℕ
  settle_cost e = cond (need t.known_only k) 0 (holder_count t.changed.facts k * (question e k + 1)) + (cond (ready t.needed_only k) 0 (cond (is_some (t.changed.facts.on k)) (question e k + 1) 0) + new_cost t e k (t.placed.on k))

  unneeded : need t.known_only k ≡ false → ready t.needed_only k ≡ false
  unneeded n = flip (ready t.needed_only k) refl
    where
      flip : (b : Bool) → ready t.needed_only k ≡ b → b ≡ false
      flip true e = absurd (true≢false (sym (s.ready_is e).0 ∙ n))
      flip false e = refl

  pub unneeded_deaths : (b : ℕ) → need t.known_only k ≡ false → deaths t.placed b k ≡ b
  unfolding deaths is_to_try
  unneeded_deaths b n =
      let o : t.placed.on k ≡ None = s.gone (unneeded n) in
      let h : held t.placed k ≡ false = s.held_is ∙ ap (λ x. x && held t.changed.facts k) n in
      let u : need t.placed k ≡ false = s.need_is ∙ n in
      let x : bit ((need t.placed k && (not (held t.placed k) && not (erred t.placed k))) && (is_none (t.placed.on k) || is_asked_back (t.placed.steal k))) ≡ 0 =
      ap (λ y. bit ((y && (not (held t.placed k) && not (erred t.placed k))) && (is_none (t.placed.on k) || is_asked_back (t.placed.steal k)))) u in
      let y : bit (is_some (t.placed.on k) || held t.placed k) ≡ 0 = ap (λ z. bit (is_some z || held t.placed k)) o ∙ ap (λ z. bit (false || z)) h in
      omega (arith, x, y)

  to_try_needs : is_to_try t.placed k ≡ true → need t.known_only k ≡ true
  unfolding is_to_try
  to_try_needs e = sym s.need_is ∙ and_first (need t.placed k) (not (held t.placed k) && not (erred t.placed k)) (and_first (need t.placed k && (not (held t.placed k) && not (erred t.placed k))) (is_none (t.placed.on k) || is_asked_back (t.placed.steal k)) e)

  gone_some : ready t.needed_only k ≡ false → is_some (t.placed.on k) ≡ false
  gone_some r = ap is_some (s.gone r)

  new_nothing : (e : ℕ → ℕ) → is_new t (t.placed.on k) ≡ false → new_cost t e k (t.placed.on k) ≡ 0
  new_nothing e n = by (t.placed.on k) n
    where
      by : (o : Option (ℕ × ℕ)) → is_new t o ≡ false → new_cost t e k o ≡ 0
      by None n = refl
      by (Some q) n = ap (λ x. cond x (down_weight t.placed e q.0 (ComputeTask k q.1 (who_has t.placed (deps t.placed k)))) 0) n

  new_most : (b : ℕ) (e : ℕ → ℕ) → ((q : ℕ) → e q ≤ b + 2) → (end_weight t.placed b + new_cost t e k (t.placed.on k)) + 1 ≤ try_weight t.placed b k
  unfolding who_has
  new_most b e l = by (t.placed.on k)
    where
      by : (o : Option (ℕ × ℕ)) → (end_weight t.placed b + new_cost t e k o) + 1 ≤ try_weight t.placed b k
      by None = omega arith
      by (Some q) = pick (nat_le t.before.counter q.1)
        where
          pick : (x : Bool) → (end_weight t.placed b + cond x (down_weight t.placed e q.0 (ComputeTask k q.1 (who_has t.placed (deps t.placed k)))) 0) + 1 ≤ try_weight t.placed b k
          pick false = omega arith
          pick true =
              let x : sum_of (given_weight t.placed e q.0) (map (λ d. (d, holders t.placed d)) (deps t.placed k)) ≤ length (deps t.placed k) * most_listed b = givens_most t.placed e b q.0 l (deps t.placed k) in
              let y : e k ≤ b + 2 = l k in
              sums (end_weight t.placed b) _ _ (e k) x y
            where
              sums : (E S L d : ℕ) → S ≤ L → d ≤ b + 2 → (E + ((7 * d + 5 + 5) + S)) + 1 ≤ E + (most_asked b + 6 + L)
              sums E S L d x y = omega (arith, x, y)

  pub settle_pays : (b : ℕ) → key_weight t.placed b k + settle_cost (deaths t.placed b)
      ≤ cond T (try_weight t.placed b k) 0 + (cond (is_some (t.changed.facts.on k)) (end_weight t.placed b) 0 + holder_count t.changed.facts k * pair_weight b)
  settle_pays b =
      let c : holder_count t.placed k * pair_weight b ≡ cond (need t.known_only k) (holder_count t.changed.facts k * pair_weight b) 0 = ap (λ n. n * pair_weight b) s.count_is ∙ times (need t.known_only k) (holder_count t.changed.facts k) (pair_weight b) in
      let r = pay_cases (need t.known_only k) (ready t.needed_only k) (is_to_try t.placed k) (is_some (t.placed.on k)) (is_new t (t.placed.on k)) (is_some (t.changed.facts.on k)) T
      (try_weight t.placed b k) (end_weight t.placed b) (holder_count t.changed.facts k * pair_weight b) (holder_count t.changed.facts k * (question (deaths t.placed b) k + 1)) (question (deaths t.placed b) k + 1) (new_cost t (deaths t.placed b) k (t.placed.on k))
      (λ e. (s.ready_is e).0) back.tries to_try_needs back.news back.olds gone_some (new_is_some t (t.placed.on k)) (new_nothing (deaths t.placed b)) (new_most b (deaths t.placed b) (most_deaths t.placed b))
      (λ n. mul-le-mul (le_refl (holder_count t.changed.facts k)) (let z : deaths t.placed b k ≡ b = unneeded_deaths b n in omega (arith, z)))
      (let z : deaths t.placed b k ≤ b + 2 = most_deaths t.placed b k in omega (arith, z)) in
      omega (arith, c, r)
    where
      times : (x : Bool) (n m : ℕ) → cond x n 0 * m ≡ cond x (n * m) 0
      times true n m = refl
      times false n m = omega arith

-- ## Which keys a worker loses

count_times : (p : ℕ → Bool) (q : ℕ) (xs : List ℕ) → total (λ x. cond (p x) q 0) xs ≡ count p xs * q
count_times p q [] = omega arith
count_times p q (x ∷ xs) = pick (p x) (count_times p q xs)
  where
    pick : (b : Bool) → total (λ x. cond (p x) q 0) xs ≡ count p xs * q → cond b q 0 + total (λ x. cond (p x) q 0) xs ≡ (cond b 1 0 + count p xs) * q
    pick true r = let z : (1 + count p xs) * q ≡ q + count p xs * q = omega arith in omega (arith, r, z)
    pick false r = let z : (0 + count p xs) * q ≡ count p xs * q = omega arith in omega (arith, r, z)

module _ (t : Stages) (k : ℕ) (s : SettlesAt t k) (e : ℕ → ℕ) where
  -- what the event itself freed
  abbrev pub event_cost : ℕ → ℕ
  event_cost n = total (λ i. cond (t.changed.freed i k) (question e k + 1) 0) (from_one n)

  parts : (a h N o R : Bool) (Q : ℕ) → cond (a || ((h && not N) || (o && not R))) Q 0 ≤ cond a Q 0 + (cond N 0 (cond h Q 0) + cond R 0 (cond o Q 0))
  parts true h N o R Q = omega arith
  parts false true false o R Q = omega arith
  parts false true true true false Q = omega arith
  parts false true true true true Q = omega arith
  parts false true true false R Q = omega arith
  parts false false N true false Q = omega arith
  parts false false N true true Q = omega arith
  parts false false N false R Q = omega arith

  dropped : (n : ℕ) → total (λ i. cond (need t.known_only k) 0 (cond (holds t.known_only i k) (question e k + 1) 0)) (from_one n) ≡ cond (need t.known_only k) 0 (count (λ i. holds t.known_only i k) (from_one n) * (question e k + 1))
  dropped n = by (need t.known_only k)
    where
      by : (b : Bool) → total (λ i. cond b 0 (cond (holds t.known_only i k) (question e k + 1) 0)) (from_one n) ≡ cond b 0 (count (λ i. holds t.known_only i k) (from_one n) * (question e k + 1))
      by true = total_nothing (from_one n)
      by false = count_times (λ i. holds t.known_only i k) (question e k + 1) (from_one n)

  unplaced : (n : ℕ) → total (λ i. cond (ready t.needed_only k) 0 (cond (is_on t.needed_only i k) (question e k + 1) 0)) (from_one n) ≤ cond (ready t.needed_only k) 0 (cond (is_some (t.needed_only.on k)) (question e k + 1) 0)
  unplaced n = by (ready t.needed_only k) (t.needed_only.on k)
    where
      by : (b : Bool) (o : Option (ℕ × ℕ)) → total (λ i. cond b 0 (cond (is_for i o) (question e k + 1) 0)) (from_one n) ≤ cond b 0 (cond (is_some o) (question e k + 1) 0)
      by true o = let z : total (λ i. 0) (from_one n) ≡ 0 = total_nothing (from_one n) in omega arith
      by false None = let z : total (λ i. 0) (from_one n) ≡ 0 = total_nothing (from_one n) in omega arith
      by false (Some q) = one_place (λ i. question e k + 1) q.0 1 n

  pub freed_most : total (λ i. freed_cost t e i k) (from_one t.placed.last_worker)
      ≤ event_cost t.placed.last_worker + (cond (need t.known_only k) 0 (holder_count t.changed.facts k * (question e k + 1)) + cond (ready t.needed_only k) 0 (cond (is_some (t.changed.facts.on k)) (question e k + 1) 0))
  unfolding holder_count
  freed_most =
      let Q : ℕ = question e k + 1 in
      let a : total (λ i. freed_cost t e i k) ws ≤ total (λ i. cond (t.changed.freed i k) Q 0 + (cond (need t.known_only k) 0 (cond (holds t.known_only i k) Q 0) + cond (ready t.needed_only k) 0 (cond (is_on t.needed_only i k) Q 0))) ws =
      total_at_most _ _ ws (λ i. parts (t.changed.freed i k) (holds t.known_only i k) (need t.known_only k) (is_on t.needed_only i k) (ready t.needed_only k) Q) in
      let b : total (λ i. cond (t.changed.freed i k) Q 0 + (cond (need t.known_only k) 0 (cond (holds t.known_only i k) Q 0) + cond (ready t.needed_only k) 0 (cond (is_on t.needed_only i k) Q 0))) ws ≡ event_cost t.placed.last_worker + total (λ i. cond (need t.known_only k) 0 (cond (holds t.known_only i k) Q 0) + cond (ready t.needed_only k) 0 (cond (is_on t.needed_only i k) Q 0)) ws =
      total_plus (λ i. cond (t.changed.freed i k) Q 0) (λ i. cond (need t.known_only k) 0 (cond (holds t.known_only i k) Q 0) + cond (ready t.needed_only k) 0 (cond (is_on t.needed_only i k) Q 0)) ws in
      let c : total (λ i. cond (need t.known_only k) 0 (cond (holds t.known_only i k) Q 0) + cond (ready t.needed_only k) 0 (cond (is_on t.needed_only i k) Q 0)) ws ≡ total (λ i. cond (need t.known_only k) 0 (cond (holds t.known_only i k) Q 0)) ws + total (λ i. cond (ready t.needed_only k) 0 (cond (is_on t.needed_only i k) Q 0)) ws =
      total_plus (λ i. cond (need t.known_only k) 0 (cond (holds t.known_only i k) Q 0)) (λ i. cond (ready t.needed_only k) 0 (cond (is_on t.needed_only i k) Q 0)) ws in
      let d : total (λ i. cond (need t.known_only k) 0 (cond (holds t.known_only i k) Q 0)) ws ≡ cond (need t.known_only k) 0 (holder_count t.changed.facts k * Q) =
      dropped t.placed.last_worker ∙ (λ j. cond (need t.known_only k) 0 (count (λ i. is_some (s.had j i k)) (from_one (s.last_is j)) * Q)) in
      let f : total (λ i. cond (ready t.needed_only k) 0 (cond (is_on t.needed_only i k) Q 0)) ws ≤ cond (ready t.needed_only k) 0 (cond (is_some (t.needed_only.on k)) Q 0) = unplaced t.placed.last_worker in
      let g : cond (ready t.needed_only k) 0 (cond (is_some (t.needed_only.on k)) Q 0) ≡ cond (ready t.needed_only k) 0 (cond (is_some (t.changed.facts.on k)) Q 0) = ap (λ o. cond (ready t.needed_only k) 0 (cond (is_some (o k)) Q 0)) s.was_on in
      omega (arith, a, b, c, d, f, g)
    where
      ws : List ℕ
      ws = from_one t.placed.last_worker

-- ## What a client is told

pub told_two : (f : Facts) (c k : ℕ) → told_weight f c k ≤ 2
told_two f c k = by (f.want c k)
  where
    by : (b : Bool) → cond b (bit (not (erred f k)) + bit (held f k)) 0 ≤ 2
    by false = omega arith
    by true = let x : bit (not (erred f k)) ≤ 1 = one_most (not (erred f k)) in let y : bit (held f k) ≤ 1 = one_most (held f k) in omega (arith, x, y)

pub told_most : (t : Stages) (e : ℕ → ℕ) (b : ℕ) → ((q : ℕ) → e q ≤ b + 2) → (c k : ℕ) → told_cost t e c k ≤ most_told b
told_most t e b l c k = by (t.placed.want c k) (erred t.placed k && not (was_erred t k)) (held t.placed k && not (was_held t k)) (was_held t k && not (held t.placed k)) (blame t.placed k)
  where
    told : ToClient → ℕ
    told m = news_weight t.placed e m

    list : (x : Bool) → 1 + list_weight e k x ≤ most_told b
    list x = let y : bit x ≤ 1 = one_most x in let z : e k ≤ b + 2 = l k in omega (arith, y, z)

    by : (p u v x : Bool) (o : Option ℕ) → at_option (λ (m : ℕ × ToClient). news_weight t.placed e m.1) (cond {A = Option (ℕ × ToClient)} (not p) None (cond u (option_map (λ b. (c, ClientTaskErred k b)) o) (cond v (Some (c, KeyInMemory k (holders t.placed k))) (cond x (Some (c, LostData k)) None)))) ≤ most_told b
    by false u v x o = omega arith
    by true true v x None = omega arith
    by true true v x (Some y) = omega arith
    by true false true x o = list _
    by true false false true o = omega arith
    by true false false false o = omega arith

-- where nothing new is there to tell, what was known pays
pub told_calm : (t : Stages) (e : ℕ → ℕ) (c k : ℕ) → t.placed.want c k ≡ t.before.want c k → t.changed.asked k ≡ false
    → (t.placed.want c k ≡ true → erred t.before k ≡ true → erred t.placed k ≡ true) → (t.placed.want c k ≡ true → held t.placed k ≡ true → held t.before k ≡ true)
    → told_weight t.placed c k + told_cost t e c k ≤ told_weight t.before c k
told_calm t e c k w a pe ph = let r = by (t.placed.want c k) (erred t.placed k) (erred t.before k) (held t.placed k) (held t.before k) (t.changed.asked k) (blame t.placed k) a pe ph in
    let z : cond (t.placed.want c k) (bit (not (erred t.before k)) + bit (held t.before k)) 0 ≡ told_weight t.before c k = ap (λ x. cond x (bit (not (erred t.before k)) + bit (held t.before k)) 0) w in
    omega (arith, r, z)
  where
    by : (p ep ef hp hf q : Bool) (o : Option ℕ) → q ≡ false → (p ≡ true → ef ≡ true → ep ≡ true) → (p ≡ true → hp ≡ true → hf ≡ true)
        → cond p (bit (not ep) + bit hp) 0 + at_option (λ (m : ℕ × ToClient). news_weight t.placed e m.1) (cond {A = Option (ℕ × ToClient)} (not p) None (cond (ep && not (ef && not q)) (option_map (λ b. (c, ClientTaskErred k b)) o) (cond (hp && not (hf && not q)) (Some (c, KeyInMemory k (holders t.placed k))) (cond ((hf && not q) && not hp) (Some (c, LostData k)) None))))
        ≤ cond p (bit (not ef) + bit hf) 0
    by p ep ef hp hf true o z x y = absurd (true≢false z)
    by false ep ef hp hf false o z x y = omega arith
    by true false true hp hf false o z x y = absurd (false≢true (x refl refl))
    by true ep ef true false false o z x y = absurd (false≢true (y refl refl))
    by true true true true true false o z x y = omega arith
    by true true true false true false o z x y = omega arith
    by true true true false false false o z x y = omega arith
    by true true false true true false None z x y = omega arith
    by true true false true true false (Some v) z x y = omega arith
    by true true false false hf false None z x y = omega arith
    by true true false false hf false (Some v) z x y = omega arith
    by true false false true true false o z x y = omega arith
    by true false false false true false o z x y = omega arith
    by true false false false false false o z x y = omega arith
