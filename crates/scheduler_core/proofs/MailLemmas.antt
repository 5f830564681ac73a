-- Lists of messages, key by key.
use Rattle.std.proofs.Common.{◌≡◌, ℕ, zero, suc, ◌<◌, ◌≤◌, ◌+◌, Bool, true, false, ◌&&◌, ◌||◌, cond, List, [], ◌∷◌, ◌++◌, Option, Some, None, refl, sym, ap, ◌∙◌, arith, length, get_or, take, append-nil, ltb}
use Rattle.std.proofs.Math.Dec.{eqb}
use Rattle.std.specs.Prelude.{nat_le}
use Rattle.std.specs.List.{filter, filter_map, flat_map, cons_option, list_any, range_with_len}
use Rattle.std.proofs.lemmas.Bool.{and_right, cond-false}
use Rattle.std.proofs.lemmas.Bool.Decides.{nat_tests}
use Rattle.std.proofs.lemmas.List.{take_more}
use Rattle.std.proofs.lemmas.List.Elements.{filter_map-append}
use Rattle.std.proofs.lemmas.List.Folds.{list_any_more}
use Rattle.std.proofs.Math.Bool.{or_assoc}
use Rattle.std.proofs.lemmas.Grind.{flat_map-append}
use Rattle.small_facts.proofs.Lists.{take_zero}
use Rattle.small_facts.proofs.Numbers.{unequal_turned}
use Rattle.small_facts.proofs.Ranges.{range_push}
use Rattle.small_facts.proofs.Truth.{with_and_false, with_or_false}
use Rattle.cluster_rules.specs.Derived.{below, is_in}
use Rattle.cluster_rules.specs.Sched.{Facts, keys, connected, workers}
use Rattle.cluster_rules.specs.SchedStep.{task_message, task_messages, free_message, all_to}
use Rattle.sched_changes.specs.declared.answer.Answer.{Answer}
use Rattle.sched_changes.specs.Answers.{answer_of}
use Rattle.scheduler_core.specs.Mail.{has_pair, is_since, lost_by, mail_by, worker_mail}

agree_from : (p q : ℕ → Bool) (a n : ℕ) → ((k : ℕ) → a ≤ k → k < a + n → p k ≡ q k) → filter p (range_with_len a n) ≡ filter q (range_with_len a n)
agree_from p q a zero h = refl
agree_from p q a (suc n) h =
    let later : (k : ℕ) → a + 1 ≤ k → k < (a + 1) + n → p k ≡ q k = λ k l m. h k (omega arith) (omega arith) in
    ap (λ b. cond b (a ∷ filter p (range_with_len (a + 1) n)) (filter p (range_with_len (a + 1) n))) (h a (omega arith) (omega arith)) ∙ ap (λ l. cond (q a) (a ∷ l) l) (agree_from p q (a + 1) n later)

-- tests that agree below n choose the same keys
pub filter_agree_below : (p q : ℕ → Bool) (n : ℕ) → ((k : ℕ) → k < n → p k ≡ q k) → filter p (below n) ≡ filter q (below n)
filter_agree_below p q n h = agree_from p q 0 n (λ k l m. h k (omega arith))

-- an empty list has no key
pub none_in : (ks : List ℕ) → length ks ≡ 0 → (k : ℕ) → is_in k ks ≡ false
none_in [] e k = refl
none_in (j ∷ ks) e k = grind arith

-- one more member is seen
pub any_more : {A : Type 0} (p : A → Bool) (base old new : Bool) (xs : List A) (i : ℕ) (d : A) → i < length xs → old ≡ (base || list_any p (take i xs)) → new ≡ (old || p (get_or xs i d)) → new ≡ (base || list_any p (take (i + 1) xs))
any_more p base old new xs i d l was now =
    now ∙ ap (λ b. b || p (get_or xs i d)) was ∙ or_assoc base (list_any p (take i xs)) (p (get_or xs i d)) ∙ ap (λ b. base || b) (sym (list_any_more p xs i d l))

-- one more member of a list that is mapped and filtered
pub filter_map_more : {A B : Type 0} (h : A → Option B) (xs : List A) (i : ℕ) (d : A) → i < length xs → filter_map h (take (i + 1) xs) ≡ filter_map h (take i xs) ++ cons_option (h (get_or xs i d)) []
filter_map_more h xs i d l = ap (filter_map h) (take_more xs i d l) ∙ filter_map-append h (take i xs) (get_or xs i d ∷ [])

-- what gives nothing may be left out before
pub filter_map_passed : {B : Type 0} (h : ℕ → Option B) (q : ℕ → Bool) → ((k : ℕ) → q k ≡ false → h k ≡ None) → (xs : List ℕ) → filter_map h (filter q xs) ≡ filter_map h xs
filter_map_passed {B} h q empty [] = refl
filter_map_passed {B} h q empty (x ∷ xs) = pick (q x) refl (filter_map_passed h q empty xs)
  where
    pick : (b : Bool) → q x ≡ b → filter_map h (filter q xs) ≡ filter_map h xs → filter_map h (cond b (x ∷ filter q xs) (filter q xs)) ≡ cons_option (h x) (filter_map h xs)
    pick true e same = ap (cons_option (h x)) same
    pick false e same = same ∙ sym (ap (λ o. cons_option o (filter_map h xs)) (empty x e))

-- a key that was not given since has no message
pub no_task : (f : Facts) (since w k : ℕ) (place : Option (ℕ × ℕ)) → is_since since place ≡ false → task_message f since w k place ≡ None
no_task f since w k None h = refl
no_task f since w k (Some p) h = cond-false (eqb p.0 w && nat_le since p.1) _ None (and_right (eqb p.0 w) (nat_le since p.1) h)

-- one more number of a list that is joined
pub flat_map_more : {A : Type 0} (g : ℕ → List A) (a n : ℕ) → flat_map g (range_with_len a (n + 1)) ≡ flat_map g (range_with_len a n) ++ g (a + n)
flat_map_more g a n = ap (flat_map g) (range_push a n) ∙ flat_map-append g (range_with_len a n) ((a + n) ∷ []) ∙ ap (λ l. flat_map g (range_with_len a n) ++ l) (append-nil (g (a + n)))

pub flat_map_agree : {A : Type 0} (g h : ℕ → List A) → ((x : ℕ) → g x ≡ h x) → (xs : List ℕ) → flat_map g xs ≡ flat_map h xs
flat_map_agree g h e [] = refl
flat_map_agree g h e (x ∷ xs) = ap (λ l. l ++ flat_map g xs) (e x) ∙ ap (λ l. h x ++ l) (flat_map_agree g h e xs)

-- the same among the keys up to n that pass
pub flat_map_agree_below : {A : Type 0} (g h : ℕ → List A) (p : ℕ → Bool) (a n : ℕ) → ((x : ℕ) → x < a + n → g x ≡ h x) → flat_map g (filter p (range_with_len a n)) ≡ flat_map h (filter p (range_with_len a n))
flat_map_agree_below g h p a zero e = refl
flat_map_agree_below {A} g h p a (suc n) e = pick (p a) (e a (omega arith)) (flat_map_agree_below g h p (a + 1) n (λ x l. e x (omega arith)))
  where
    pick : (b : Bool) → g a ≡ h a → flat_map g (filter p (range_with_len (a + 1) n)) ≡ flat_map h (filter p (range_with_len (a + 1) n))
        → flat_map g (cond b (a ∷ filter p (range_with_len (a + 1) n)) (filter p (range_with_len (a + 1) n))) ≡ flat_map h (cond b (a ∷ filter p (range_with_len (a + 1) n)) (filter p (range_with_len (a + 1) n)))
    pick true here later = ap (λ l. l ++ flat_map g (filter p (range_with_len (a + 1) n))) here ∙ ap (λ l. h a ++ l) later
    pick false here later = later

-- a mark that is set, and the others
pub set_mark : (row : ℕ → Bool) (key k : ℕ) → cond (eqb k key) true (row k) ≡ (row k || eqb key k)
set_mark row key k = pick (eqb k key) (row k) refl
  where
    alike : (a b : ℕ) → eqb a b ≡ true → eqb b a ≡ true
    alike a b e = grind (arith, nat_tests)

    one : (b : Bool) → true ≡ (b || true)
    one true = refl
    one false = refl

    pick : (e b : Bool) → eqb k key ≡ e → cond e true b ≡ (b || eqb key k)
    pick true b h = one b ∙ ap (λ t. b || t) (sym (alike k key h))
    pick false b h = with_or_false b ∙ ap (λ t. b || t) (sym (unequal_turned key k h))

-- what the lists say is what the pairs say
pub mail_by_pairs : (f : Facts) (lists : List (List ℕ)) (lost : List (ℕ × ℕ)) (since : ℕ) (a : Answer) → ((w k : ℕ) → w ≤ f.last_worker → lost_by lists w k ≡ has_pair lost w k) → flat_map (mail_by f (lost_by lists) since a) (workers f) ≡ flat_map (worker_mail f lost since a) (workers f)
unfolding mail_by worker_mail
mail_by_pairs f lists lost since a h =
    flat_map_agree_below (mail_by f (lost_by lists) since a) (worker_mail f lost since a) (connected f) 1 f.last_worker (λ w l. ap (λ (t : ℕ → Bool). free_message w (filter t (below (keys f))) ++ (task_messages f since w ++ all_to w (answer_of a f w))) (λ i k. h w k (omega arith) i))

-- marks below a bound
pub marked_none : (a l : Bool) (k : ℕ) (ks : List ℕ) → a ≡ (a || (l && is_in k (take 0 ks)))
marked_none a l k ks = sym (ap (λ ys. a || (l && is_in k ys)) (take_zero ks) ∙ flat a l)
  where
    flat : (a l : Bool) → (a || (l && false)) ≡ a
    flat true l = refl
    flat false true = refl
    flat false false = refl

pub marked_more : (a o n l p q r : Bool) → o ≡ (a || (l && p)) → n ≡ (o || (l && q)) → r ≡ (p || q) → n ≡ (a || (l && r))
marked_more a o n l p q r x y z = y ∙ ap (λ b. b || (l && q)) x ∙ turn a l p q ∙ ap (λ b. a || (l && b)) (sym z)
  where
    turn : (a l p q : Bool) → ((a || (l && p)) || (l && q)) ≡ (a || (l && (p || q)))
    turn true l p q = refl
    turn false true true q = refl
    turn false true false q = refl
    turn false false p q = refl

pub mark_there : (row : ℕ → Bool) (key n k : ℕ) → key < n → cond (eqb k key) true (row k) ≡ (row k || (ltb k n && eqb key k))
mark_there row key n k l = set_mark row key k ∙ ap (λ b. row k || b) (pick (eqb key k) refl)
  where
    low : (key k n : ℕ) → key < n → eqb key k ≡ true → ltb k n ≡ true
    low key k n a b = grind (arith, nat_tests)

    pick : (b : Bool) → eqb key k ≡ b → b ≡ (ltb k n && b)
    pick true e = sym (ap (λ c. c && true) (low key k n l e))
    pick false e = with_and_false (ltb k n)

pub mark_past : (row : ℕ → Bool) (key n k : ℕ) → n ≤ key → row k ≡ (row k || (ltb k n && eqb key k))
mark_past row key n k l = with_or_false (row k) ∙ ap (λ b. row k || b) (pick (eqb key k) refl)
  where
    high : (key k n : ℕ) → n ≤ key → eqb key k ≡ true → ltb k n ≡ false
    high key k n a b = grind (arith, nat_tests)

    pick : (b : Bool) → eqb key k ≡ b → false ≡ (ltb k n && b)
    pick true e = sym (ap (λ c. c && true) (high key k n l e))
    pick false e = with_and_false (ltb k n)
