-- Keys that are needed, by marks and as a numbering.
use Rattle.std.proofs.Common.{◌≡◌, ℕ, zero, suc, ◌+◌, ◌<◌, ◌≤◌, Bool, true, false, ◌&&◌, ◌||◌, cond, List, [], ◌∷◌, ◌++◌, length, get_or, refl, ap, sym, subst, ◌∙◌, arith, inl, inr, eq-eqb, ne_eqb}
use Rattle.std.specs.Prelude.{nat_eq, Contains}
use Rattle.std.specs.List.{AllByRecursion, filter, range_with_len}
use Rattle.std.proofs.lemmas.Bool.{cases_eq, cases_lt, eqb-true, or_left, or_right, or_cases, and_parts, and_from}
use Rattle.std.proofs.Math.ListN.{set}
use Rattle.std.proofs.lemmas.List.{get_or-set_same, get_or-set_other, length-set}
use Rattle.std.proofs.lemmas.List.{get_or_past, get_or_default}
use Rattle.std.proofs.lemmas.List.Elements.{filter-append}
use Rattle.small_facts.proofs.Every.{all_of_filter}
use Rattle.small_facts.proofs.Ranges.{range_has, range_all_below}
use Rattle.small_facts.proofs.Truth.{with_or_false, same_truth}
use Rattle.cluster_msgs.specs.Dags.{IsEarlier}
use Rattle.cluster_msgs.specs.Shape.{deps_of}
use Rattle.cluster_msgs.specs.Values.{cone, needed}
use Rattle.cluster_msgs.proofs.ValueLemmas.{cone-itself, cone-closed, cone-least}
use Rattle.cluster_msgs.proofs.Dags.{all-weaker}
use Rattle.task_graph.specs.declared.graph.Task.{Task}
use Rattle.task_graph.specs.Graphs.{shape_of}
use Rattle.task_graph.specs.Orders.{is_in, kept}
use Rattle.task_graph.specs.Numberings.{AreBehind}
use Rattle.task_graph.specs.Culls.{mark_at, AreMarked, IsMarked, AreNeeded, listed_if, marked_keys}
use Rattle.task_graph.proofs.Keys.{contains-here, contains-later}
use Rattle.task_graph.proofs.Numbered.{in-more}
use Rattle.task_graph.proofs.Rising.{Rising, rising-at, range-rises, all-member}
use Rattle.task_graph.proofs.Visits.{in-from}
use Rattle.task_graph.proofs.Edges.{range-ends}

-- ---- tests

pub in-to : (xs : List ℕ) (k : ℕ) → Contains xs k → is_in xs k ≡ true
in-to [] k c = absurd (omega (arith, c.1))
in-to (x ∷ xs) k c = at c.0 c.1 c.2 (in-to xs k)
  where
    at : (i : ℕ) → i < length (x ∷ xs) → get_or (x ∷ xs) i k ≡ k → (Contains xs k → is_in xs k ≡ true) → is_in (x ∷ xs) k ≡ true
    at zero h e f = or_left (nat_eq k x) (is_in xs k) (eq-eqb k x (sym e))
    at (suc i) h e f = or_right (nat_eq k x) (is_in xs k) (f (i, omega arith, e))

-- ---- what is needed

pub needed-wanted : (deps : ℕ → List ℕ) → IsEarlier deps → (wanted : List ℕ) (k : ℕ) → is_in wanted k ≡ true → needed deps wanted k ≡ true
needed-wanted deps e [] k h = absurd cc
needed-wanted deps e (w ∷ wanted) k h = elim (or_cases (nat_eq k w) (is_in wanted k) h) [
  | inl a ↦ or_left (cone deps w k) (needed deps wanted k) (subst (λ j. cone deps j k ≡ true) (eqb-true k w a) (cone-itself deps e k))
  | inr b ↦ or_right (cone deps w k) (needed deps wanted k) (needed-wanted deps e wanted k b)
]

pub needed-closed : (deps : ℕ → List ℕ) → IsEarlier deps → (wanted : List ℕ) (j d : ℕ) → needed deps wanted j ≡ true → Contains (deps j) d → needed deps wanted d ≡ true
needed-closed deps e [] j d h c = absurd cc
needed-closed deps e (w ∷ wanted) j d h c = elim (or_cases (cone deps w j) (needed deps wanted j) h) [
  | inl a ↦ or_left (cone deps w d) (needed deps wanted d) (cone-closed deps e w j d a c)
  | inr b ↦ or_right (cone deps w d) (needed deps wanted d) (needed-closed deps e wanted j d b c)
]

needed-least : (deps : ℕ → List ℕ) → IsEarlier deps → (wanted : List ℕ) (set : ℕ → Bool) → ((k : ℕ) → is_in wanted k ≡ true → set k ≡ true) → ((j d : ℕ) → set j ≡ true → Contains (deps j) d → set d ≡ true)
    → (j : ℕ) → needed deps wanted j ≡ true → set j ≡ true
needed-least deps e [] set w closed j h = absurd cc
needed-least deps e (x ∷ wanted) set w closed j h = elim (or_cases (cone deps x j) (needed deps wanted j) h) [
  | inl a ↦ cone-least deps e set x (w x (or_left (nat_eq x x) (is_in wanted x) (eq-eqb x x refl))) closed j a
  | inr b ↦ needed-least deps e wanted set (λ k i. w k (or_right (nat_eq k x) (is_in wanted k) i)) closed j b
]

-- ---- marks, of which the keys from a place on have handed theirs down

pub record IsPass (deps : ℕ → List ℕ) (wanted : List ℕ) (count from : ℕ) (marks : List Bool) : Type 0 where
  pub low : from ≤ count
  pub count_is : length marks ≡ count
  pub sound : (j : ℕ) → mark_at marks j ≡ true → needed deps wanted j ≡ true
  pub wanted_are : (j : ℕ) → is_in wanted j ≡ true → mark_at marks j ≡ true
  pub closed : (k d : ℕ) → from ≤ k → mark_at marks k ≡ true → Contains (deps k) d → mark_at marks d ≡ true

within : (marks : List Bool) (k : ℕ) → mark_at marks k ≡ true → k < length marks
within marks k h = elim (cases_lt k (length marks)) [
  | inl lt ↦ lt
  | inr ge ↦ absurd (let e : false ≡ true = sym (get_or_past marks k false ge) ∙ h in cc)
]

pub pass-begins : (deps : ℕ → List ℕ) → IsEarlier deps → (wanted : List ℕ) (count : ℕ) (none marks : List Bool) → ((k : ℕ) → mark_at none k ≡ false) → length none ≡ count → AreMarked none wanted marks → IsPass deps wanted count count marks
pass-begins deps e wanted count none marks empty n m =
    let at : (j : ℕ) → mark_at marks j ≡ is_in wanted j = λ j. m.each j ∙ ap (λ b. b || is_in wanted j) (empty j) in
    record {
      low = omega arith;
      count_is = m.count ∙ n;
      sound = λ j h. needed-wanted deps e wanted j (sym (at j) ∙ h);
      wanted_are = λ j h. at j ∙ h;
      closed = λ k d le h c. absurd (let w = within marks k h in let q : length marks ≡ count = m.count ∙ n in omega arith);
    }

pub pass-goes-on : (deps : ℕ → List ℕ) → IsEarlier deps → (wanted : List ℕ) (count key : ℕ) (old new : List Bool) → IsPass deps wanted count (suc key) old → IsMarked old key (deps key) new → IsPass deps wanted count key new
pass-goes-on deps e wanted count key old new p m =
    let kept_mark : (j : ℕ) → mark_at old j ≡ true → mark_at new j ≡ true = λ j h. m.each j ∙ or_left (mark_at old j) (mark_at old key && is_in (deps key) j) h in
    let handed : (j : ℕ) → mark_at old key ≡ true → Contains (deps key) j → mark_at new j ≡ true = λ j h c.
    m.each j ∙ or_right (mark_at old j) (mark_at old key && is_in (deps key) j) (and_from (mark_at old key) (is_in (deps key) j) h (in-to (deps key) j c)) in
    record {
      low = let l = p.low in omega arith;
      count_is = m.count ∙ p.count_is;
      sound = λ j h. elim (or_cases (mark_at old j) (mark_at old key && is_in (deps key) j) (sym (m.each j) ∙ h)) [
        | inl a ↦ p.sound j a
        | inr b ↦ let r = and_parts (mark_at old key) (is_in (deps key) j) b in needed-closed deps e wanted key j (p.sound key r.0) (in-from (deps key) j r.1)
      ];
      wanted_are = λ j h. kept_mark j (p.wanted_are j h);
      closed = λ k d le h c. elim (or_cases (mark_at old k) (mark_at old key && is_in (deps key) k) (sym (m.each k) ∙ h)) [
        | inl a ↦ elim (cases_eq key k) [
          | inl s ↦ handed d (subst (λ x. mark_at old x ≡ true) (sym s) a) (subst (λ x. Contains (deps x) d) (sym s) c)
          | inr n ↦ kept_mark d (p.closed k d (omega arith) a c)
        ]
        | inr b ↦ let r = and_parts (mark_at old key) (is_in (deps key) k) b in
            let i = in-from (deps key) k r.1 in
            let low : get_or (deps key) i.0 k < key = all-member (λ x. x < key) (deps key) i.0 k (e.below key) i.1 in
            let same : get_or (deps key) i.0 k ≡ k = i.2 in
            absurd (omega arith)
      ];
    }

pub pass-ends : (deps : ℕ → List ℕ) → IsEarlier deps → (wanted : List ℕ) (count : ℕ) (marks : List Bool) → IsPass deps wanted count 0 marks → (k : ℕ) → mark_at marks k ≡ needed deps wanted k
pass-ends deps e wanted count marks p k =
    same_truth (mark_at marks k) (needed deps wanted k) (p.sound k) (needed-least deps e wanted (mark_at marks) p.wanted_are (λ j d h c. p.closed j d (omega arith) h c) k)

-- ---- one key marked

pub mark-one : (marks : List Bool) (keys : List ℕ) (k j : ℕ) (old new : Bool) → old ≡ mark_at marks j → new ≡ (cond (nat_eq j k) true (mark_at marks j)) → new ≡ (old || (nat_eq j k || false))
mark-one marks keys k j old new p q = q ∙ by_case (nat_eq j k) ∙ ap (λ b. b || (nat_eq j k || false)) (sym p)
  where
    by_case : (b : Bool) → cond b true (mark_at marks j) ≡ (mark_at marks j || (b || false))
    by_case true = flat (mark_at marks j)
      where
        flat : (a : Bool) → true ≡ (a || (true || false))
        flat true = refl
        flat false = refl
    by_case false = flat (mark_at marks j)
      where
        flat : (a : Bool) → a ≡ (a || (false || false))
        flat true = refl
        flat false = refl

-- ---- the kept keys

filter-same : (p q : ℕ → Bool) (xs : List ℕ) → AllByRecursion (λ k. p k ≡ q k) xs → filter p xs ≡ filter q xs
filter-same p q [] a = refl
filter-same p q (x ∷ xs) a = ap (λ b. cond b (x ∷ filter p xs) (filter p xs)) a.0 ∙ ap (λ ys. cond (q x) (x ∷ ys) ys) (filter-same p q xs a.1)

pub kept-marked : (tasks : List Task) (wanted : List ℕ) (marks : List Bool) → AreNeeded tasks wanted marks → marked_keys marks ≡ kept tasks wanted
kept-marked tasks wanted marks n =
    ap (λ c. filter (mark_at marks) (range_with_len 0 c)) n.count
    ∙ filter-same (mark_at marks) (needed (deps_of (shape_of tasks)) wanted) (range_with_len 0 (length tasks)) (all-weaker (λ k. k < length tasks) _ (range_with_len 0 (length tasks)) (λ k h. n.each k h) (range_all_below 0 (length tasks) (length tasks) (omega arith)))

all-if : (P : ℕ → Type 0) (x : ℕ) (ys : List ℕ) (b : Bool) → P x → AllByRecursion P ys → AllByRecursion P (cond b (x ∷ ys) ys)
all-if P x ys true p a = (p, a)
all-if P x ys false p a = a

rises-if : (x : ℕ) (ys : List ℕ) (b : Bool) → AllByRecursion (λ y. x < y) ys → Rising ys → Rising (cond b (x ∷ ys) ys)
rises-if x ys true a r = (a, r)
rises-if x ys false a r = r

filter-rises : (p : ℕ → Bool) (xs : List ℕ) → Rising xs → Rising (filter p xs)
filter-rises p [] r = tt
filter-rises p (x ∷ xs) r = rises-if x (filter p xs) (p x) (all_of_filter (λ y. x < y) p xs r.0) (filter-rises p xs r.1)

has-if : (x : ℕ) (ys : List ℕ) (b : Bool) (k : ℕ) → Contains ys k → Contains (cond b (x ∷ ys) ys) k
has-if x ys true k c = contains-later k x ys c
has-if x ys false k c = c

filter-has : (p : ℕ → Bool) (xs : List ℕ) (k : ℕ) → Contains xs k → p k ≡ true → Contains (filter p xs) k
filter-has p [] k c h = absurd (omega (arith, c.1))
filter-has p (x ∷ xs) k c h = at c.0 c.1 c.2 (λ m. filter-has p xs k m h)
  where
    at : (i : ℕ) → i < length (x ∷ xs) → get_or (x ∷ xs) i k ≡ k → (Contains xs k → Contains (filter p xs) k) → Contains (filter p (x ∷ xs)) k
    at zero lt e f = subst (λ b. Contains (cond b (x ∷ filter p xs) (filter p xs)) k) (sym (ap p e ∙ h)) (subst (λ y. Contains (y ∷ filter p xs) k) (sym e) (contains-here k (filter p xs)))
    at (suc i) lt e f = has-if x (filter p xs) (p x) k (f (i, omega arith, e))

passes-if : (p : ℕ → Bool) (x : ℕ) (ys : List ℕ) (b : Bool) → p x ≡ b → AllByRecursion (λ k. p k ≡ true) ys → AllByRecursion (λ k. p k ≡ true) (cond b (x ∷ ys) ys)
passes-if p x ys true e a = (e, a)
passes-if p x ys false e a = a

filter-passes : (p : ℕ → Bool) (xs : List ℕ) → AllByRecursion (λ k. p k ≡ true) (filter p xs)
filter-passes p [] = tt
filter-passes p (x ∷ xs) = passes-if p x (filter p xs) (p x) refl (filter-passes p xs)

pub kept-below : (tasks : List Task) (wanted : List ℕ) → AllByRecursion (λ k. k < length tasks) (kept tasks wanted)
kept-below tasks wanted = all_of_filter (λ k. k < length tasks) (needed (deps_of (shape_of tasks)) wanted) (range_with_len 0 (length tasks)) (range_all_below 0 (length tasks) (length tasks) (omega arith))

pub kept-rises : (tasks : List Task) (wanted : List ℕ) → Rising (kept tasks wanted)
kept-rises tasks wanted = filter-rises (needed (deps_of (shape_of tasks)) wanted) (range_with_len 0 (length tasks)) (range-rises 0 (length tasks))

-- each kept key stands behind what it depends on
pub kept-behind : (tasks : List Task) (wanted : List ℕ) → IsEarlier (deps_of (shape_of tasks)) → AreBehind (deps_of (shape_of tasks)) (kept tasks wanted)
kept-behind tasks wanted e =
    let deps = deps_of (shape_of tasks) in
    let order = kept tasks wanted in
    record {
      fresh = λ i j a b s. let lt : get_or (kept tasks wanted) i 0 < get_or (kept tasks wanted) j 0 = rising-at (kept tasks wanted) i j (kept-rises tasks wanted) a b in omega arith;
      behind = λ j d b c.
          let k = get_or (kept tasks wanted) j 0 in
          let need : needed (deps_of (shape_of tasks)) wanted (get_or (kept tasks wanted) j 0) ≡ true = all-member (λ x. needed (deps_of (shape_of tasks)) wanted x ≡ true) (kept tasks wanted) j 0 (filter-passes (needed (deps_of (shape_of tasks)) wanted) (range_with_len 0 (length tasks))) b in
          let there : get_or (kept tasks wanted) j 0 < length tasks = all-member (λ x. x < length tasks) (kept tasks wanted) j 0 (kept-below tasks wanted) b in
          let low : get_or (deps_of (shape_of tasks) (get_or (kept tasks wanted) j 0)) c.0 d < get_or (kept tasks wanted) j 0 = all-member (λ x. x < get_or (kept tasks wanted) j 0) (deps_of (shape_of tasks) (get_or (kept tasks wanted) j 0)) c.0 d (e.below (get_or (kept tasks wanted) j 0)) c.1 in
          let same : get_or (deps_of (shape_of tasks) (get_or (kept tasks wanted) j 0)) c.0 d ≡ d = c.2 in
          let has : Contains (kept tasks wanted) d = filter-has (needed (deps_of (shape_of tasks)) wanted) (range_with_len 0 (length tasks)) d (range_has 0 (length tasks) d (omega arith) (omega arith))
          (needed-closed (deps_of (shape_of tasks)) e wanted (get_or (kept tasks wanted) j 0) d need c) in
          let at : get_or (kept tasks wanted) has.0 0 ≡ d = sym (get_or_default (kept tasks wanted) has.0 d 0 has.1) ∙ has.2 in (
            has.0,
            elim (cases_lt has.0 j) [
              | inl lt ↦ lt
              | inr ge ↦ absurd (elim (cases_eq j has.0) [
                | inl s ↦ let q : get_or (kept tasks wanted) j 0 ≡ get_or (kept tasks wanted) has.0 0 = ap (λ i. get_or (kept tasks wanted) i 0) s in omega arith
                | inr n ↦ let q : get_or (kept tasks wanted) j 0 < get_or (kept tasks wanted) has.0 0 = rising-at (kept tasks wanted) j has.0 (kept-rises tasks wanted) (omega arith) has.1 in omega arith
              ])
            ],
            at,
          );
    }

-- one key more that is marked
pub mark-more : (old : List Bool) (keys : List ℕ) (now : List Bool) (key : ℕ) → AreMarked old keys now → key < length now → AreMarked old (keys ++ key ∷ []) (set now key true)
mark-more old keys now key m lt = record {
  count = length-set now key true ∙ m.count;
  each = λ k. elim (cases_eq k key) [
    | inl e ↦ subst (λ j. mark_at (set now key true) j ≡ (mark_at old j || is_in (keys ++ key ∷ []) j)) (sym e)
        (get_or-set_same now key true false lt ∙ sym (or_right (mark_at old key) (is_in (keys ++ key ∷ []) key) (in-more keys key key ∙ or_right (is_in keys key) (nat_eq key key || false) (or_left (nat_eq key key) false (eq-eqb key key refl)))))
    | inr d ↦
        get_or-set_other now key k true false d
        ∙ m.each k
        ∙ ap (λ b. mark_at old k || b) (sym (in-more keys key k ∙ ap (λ b. is_in keys k || (b || false)) (ne_eqb k key d) ∙ plain (is_in keys k)))
  ];
}
  where
    plain : (b : Bool) → (b || (false || false)) ≡ b
    plain true = refl
    plain false = refl

pub mark-none : (old : List Bool) → AreMarked old [] old
mark-none old = record { count = refl; each = λ k. with_or_false (mark_at old k) }

-- the marked keys below one more
pub marked-more : (p : ℕ → Bool) (n : ℕ) → filter p (range_with_len 0 (n + 1)) ≡ filter p (range_with_len 0 n) ++ listed_if n (p n)
marked-more p n = ap (filter p) (range-ends 0 n n (omega arith)) ∙ filter-append p (range_with_len 0 n) (n ∷ []) ∙ ap (λ xs. filter p (range_with_len 0 n) ++ xs) (one (p n))
  where
    one : (b : Bool) → cond b (n ∷ []) [] ≡ listed_if n b
    one b = refl

pub marked-fresh : (p : ℕ → Bool) (n : ℕ) → is_in (filter p (range_with_len 0 n)) n ≡ false
marked-fresh p n = absent (filter p (range_with_len 0 n)) (all_of_filter (λ k. k < n) p (range_with_len 0 n) (range_all_below 0 n n (omega arith)))
  where
    absent : (xs : List ℕ) → AllByRecursion (λ k. k < n) xs → is_in xs n ≡ false
    absent [] a = refl
    absent (x ∷ xs) a = ap (λ b. b || is_in xs n) (ne_eqb n x (λ e. let l : x < n = a.0 in absurd (omega arith))) ∙ absent xs a.1
