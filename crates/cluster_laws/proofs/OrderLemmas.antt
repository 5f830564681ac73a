-- The order of an event's messages.
use Rattle.std.proofs.Common.{◌≡◌, ℕ, zero, suc, ◌+◌, ◌<◌, ◌≤◌, Bool, true, false, not, cond, ◌&&◌, ◌||◌, List, [], ◌∷◌, ◌++◌, Option, Some, None, refl, sym, ap, ◌∙◌, subst, arith, inl, inr, ⊎_elim, append-nil}
use Rattle.std.specs.Prelude.{nat_le}
use Rattle.std.proofs.lemmas.Bool.{true≢false, eqb-true, eq-eqb}
use Rattle.std.proofs.lemmas.List.Elements.{Contains-append_cases}
use Rattle.std.proofs.Math.Dec.{eqb}
use Rattle.std.specs.List.{filter, filter_map, flat_map, cons_option, range_with_len, Contains, AllByRecursion}
use Rattle.std.specs.Option.{option_map}
use Rattle.std.proofs.lemmas.Option.{same_Some, none-some}
use Rattle.small_facts.proofs.Numbers.{unequal_over}
use Rattle.cluster_msgs.specs.declared.messages.Down.{Down}
use Rattle.cluster_msgs.specs.declared.messages.Down.TheVariants.{ComputeTask, FreeKeys}
use Rattle.cluster_msgs.specs.declared.messages.ToClient.{ToClient}
use Rattle.cluster_msgs.specs.declared.messages.ToClient.TheVariants.{KeyInMemory, LostData, ClientTaskErred}
use Rattle.cluster_rules.specs.Functions.{from_one}
use Rattle.cluster_rules.specs.Derived.{below, is_in}
use Rattle.cluster_rules.specs.Sched.{Facts, keys, deps, workers, connected, held, erred, blame, holders, who_has}
use Rattle.cluster_rules.specs.SchedStep.{Stages, down_messages, to_worker, free_message, task_message, task_messages, lost, lost_keys, mail, all_to, client_message, to_clients, was_held, was_erred}
use Rattle.cluster_laws.specs.Order.{Ascends, IsToldBefore, task_key, client_key}
use Rattle.cluster_rules.proofs.ChoiceLemmas.{contains_head, contains_tail, contains_cases, contains_none}
use Rattle.cluster_rules.proofs.Members.{filter_from, flat_map_from}
use Rattle.cluster_rules.proofs.SchedFrame.{mail-append}

pub all_from : {A : Type 0} (P : A → Type 0) (xs : List A) → ((y : A) → Contains xs y → P y) → AllByRecursion P xs
all_from P [] h = tt
all_from P (x ∷ xs) h = (h x (contains_head x xs), all_from P xs (λ y m. h y (contains_tail x xs y m)))

pub all_at : {A : Type 0} (P : A → Type 0) (xs : List A) → AllByRecursion P xs → (y : A) → Contains xs y → P y
all_at P [] h y m = absurd (contains_none y m)
all_at P (x ∷ xs) h y m = ⊎_elim (λ e. subst P e h.0) (λ t. all_at P xs h.1 y t) (contains_cases x xs y m)

pub ascends_range : (a n : ℕ) → Ascends (λ j k. j < k) (range_with_len a n)
ascends_range a zero = tt
ascends_range a (suc n) = (above a (a + 1) n (omega arith), ascends_range (a + 1) n)
  where
    above : (a b n : ℕ) → a < b → AllByRecursion (λ k. a < k) (range_with_len b n)
    above a b zero l = tt
    above a b (suc n) l = (l, above a (b + 1) n (omega arith))

pub ascends_filter : {A : Type 0} (R : A → A → Type 0) (p : A → Bool) (xs : List A) → Ascends R xs → Ascends R (filter p xs)
ascends_filter R p [] h = tt
ascends_filter {A = A} R p (x ∷ xs) h = pick (p x) (ascends_filter R p xs h.1)
  where
    pick : (b : Bool) → Ascends R (filter p xs) → Ascends R (cond b (x ∷ filter p xs) (filter p xs))
    pick true r = (all_from (R x) (filter p xs) (λ y m. all_at (R x) xs h.0 y (filter_from p xs y m).0), r)
    pick false r = r

-- what a map of some members gives
pub filter_map_from : {A B : Type 0} (g : A → Option B) (xs : List A) (y : B) → Contains (filter_map g xs) y → (x : A) × Contains xs x × (g x ≡ Some y)
filter_map_from g [] y h = absurd (contains_none y h)
filter_map_from {A = A} {B = B} g (x ∷ xs) y h = pick (g x) refl h (filter_map_from g xs y)
  where
    later : (z : A) × Contains xs z × (g z ≡ Some y) → (z : A) × Contains (x ∷ xs) z × (g z ≡ Some y)
    later (z, m, e) = (z, contains_tail x xs z m, e)

    pick : (o : Option B) → g x ≡ o → Contains (cons_option o (filter_map g xs)) y → (Contains (filter_map g xs) y → (z : A) × Contains xs z × (g z ≡ Some y)) → (z : A) × Contains (x ∷ xs) z × (g z ≡ Some y)
    pick None e m rest = later (rest m)
    pick (Some v) e m rest = ⊎_elim (λ s. (x, contains_head x xs, e ∙ ap (λ u. Some u) s)) (λ t. later (rest t)) (contains_cases v (filter_map g xs) y m)

pub ascends_filter_map : {A B : Type 0} (R : A → A → Type 0) (S : B → B → Type 0) (g : A → Option B) → ((x z : A) (y v : B) → R x z → g x ≡ Some y → g z ≡ Some v → S y v) → (xs : List A) → Ascends R xs → Ascends S (filter_map g xs)
ascends_filter_map R S g keeps [] h = tt
ascends_filter_map {A = A} {B = B} R S g keeps (x ∷ xs) h = pick (g x) refl (ascends_filter_map R S g keeps xs h.1)
  where
    pick : (o : Option B) → g x ≡ o → Ascends S (filter_map g xs) → Ascends S (cons_option o (filter_map g xs))
    pick None e r = r
    pick (Some y) e r = (all_from (S y) (filter_map g xs) (λ v m. related v (filter_map_from g xs v m)), r)
      where
        related : (v : B) → (z : A) × Contains xs z × (g z ≡ Some v) → S y v
        related v (z, m, f) = keeps x z y v (all_at (R x) xs h.0 z m) e f

ascends_append : {A : Type 0} (S : A → A → Type 0) (xs ys : List A) → Ascends S xs → Ascends S ys → ((x y : A) → Contains xs x → Contains ys y → S x y) → Ascends S (xs ++ ys)
ascends_append S [] ys h i j = i
ascends_append S (x ∷ xs) ys h i j = (
  all_from (S x) (xs ++ ys) (λ y m. ⊎_elim (λ l. all_at (S x) xs h.0 y l) (λ r. j x y (contains_head x xs) r) (Contains-append_cases xs ys y m)),
  ascends_append S xs ys h.1 i (λ z y m n. j z y (contains_tail x xs z m) n),
)

pub ascends_flat_map : {A B : Type 0} (R : A → A → Type 0) (S : B → B → Type 0) (g : A → List B) → ((x z : A) (y v : B) → R x z → Contains (g x) y → Contains (g z) v → S y v) → ((x : A) → Ascends S (g x)) → (xs : List A) → Ascends R xs → Ascends S (flat_map g xs)
ascends_flat_map R S g keeps each [] h = tt
ascends_flat_map {A = A} {B = B} R S g keeps each (x ∷ xs) h =
    ascends_append S (g x) (flat_map g xs) (each x) (ascends_flat_map R S g keeps each xs h.1) (λ y v m n. across y v m (flat_map_from g xs v n))
  where
    across : (y v : B) → Contains (g x) y → (z : A) × Contains xs z × Contains (g z) v → S y v
    across y v m (z, n, o) = keeps x z y v (all_at (R x) xs h.0 z n) m o

pub lost_ascend : (t : Stages) (w : ℕ) → Ascends (λ j k. j < k) (lost_keys t w)
lost_ascend t w = ascends_filter (λ j k. j < k) (lost t w) (below (keys t.before)) (ascends_range 0 (keys t.before))

-- a message for a key is of that key, and goes to that worker
task_message-key : (f : Facts) (since w k : ℕ) (o : Option (ℕ × ℕ)) (m : ℕ × Down) → task_message f since w k o ≡ Some m → (m.0 ≡ w) × (task_key m.1 ≡ k)
task_message-key f since w k None m h = absurd (none-some m h)
task_message-key f since w k (Some p) m h = pick (eqb p.0 w && nat_le since p.1) h
  where
    pick : (b : Bool) → cond b (Some (w, ComputeTask k p.1 (who_has f (deps f k)))) None ≡ Some m → (m.0 ≡ w) × (task_key m.1 ≡ k)
    pick true g = let e : (w, ComputeTask k p.1 (who_has f (deps f k))) ≡ m = same_Some (w, ComputeTask k p.1 (who_has f (deps f k))) m g in (sym (ap (λ (n : ℕ × Down). n.0) e), sym (ap (λ (n : ℕ × Down). task_key n.1) e))
    pick false g = absurd (none-some m g)

pub tasks_ascend : (f : Facts) (since w : ℕ) → Ascends (λ m n. task_key m.1 < task_key n.1) (task_messages f since w)
unfolding task_messages
tasks_ascend f since w = ascends_filter_map (λ j k. j < k) (λ (m n : ℕ × Down). task_key m.1 < task_key n.1) (λ k. task_message f since w k (f.on k))
    (λ j k m n l a b. subst (λ x. x < task_key n.1) (sym (task_message-key f since w j (f.on j) m a).1) (subst (λ x. j < x) (sym (task_message-key f since w k (f.on k) n b).1) l))
    (below (keys f)) (ascends_range 0 (keys f))

-- the mail of one worker
no_tasks : (f : Facts) (since v w : ℕ) → eqb v w ≡ false → (qs : List ℕ) → mail w (filter_map (λ q. task_message f since v q (f.on q)) qs) ≡ []
no_tasks f since v w e [] = refl
no_tasks f since v w e (q ∷ qs) = one (f.on q) ∙ no_tasks f since v w e qs
  where
    one : (o : Option (ℕ × ℕ)) → mail w (cons_option (task_message f since v q o) (filter_map (λ n. task_message f since v n (f.on n)) qs)) ≡ mail w (filter_map (λ n. task_message f since v n (f.on n)) qs)
    one None = refl
    one (Some p) = pick (eqb p.0 v && nat_le since p.1)
      where
        pick : (c : Bool) → mail w (cons_option (cond c (Some (v, ComputeTask q p.1 (who_has f (deps f q)))) None) (filter_map (λ n. task_message f since v n (f.on n)) qs)) ≡ mail w (filter_map (λ n. task_message f since v n (f.on n)) qs)
        pick true = ap (λ b. cond b (ComputeTask q p.1 (who_has f (deps f q)) ∷ mail w (filter_map (λ n. task_message f since v n (f.on n)) qs)) (mail w (filter_map (λ n. task_message f since v n (f.on n)) qs))) e
        pick false = refl

no_free : (v w : ℕ) → eqb v w ≡ false → (ks : List ℕ) → mail w (free_message v ks) ≡ []
no_free v w e [] = refl
no_free v w e (x ∷ xs) = ap (λ b. cond b (FreeKeys (x ∷ xs) ∷ []) []) e

pub mail_own : (w : ℕ) (ms : List Down) → mail w (all_to w ms) ≡ ms
mail_own w [] = refl
mail_own w (m ∷ ms) = ap (λ b. cond b (m ∷ mail w (all_to w ms)) (mail w (all_to w ms))) (eq-eqb w w refl) ∙ ap (λ l. m ∷ l) (mail_own w ms)

mail_none : (v w : ℕ) → eqb v w ≡ false → (ms : List Down) → mail w (all_to v ms) ≡ []
mail_none v w e [] = refl
mail_none v w e (m ∷ ms) = ap (λ b. cond b (m ∷ mail w (all_to v ms)) (mail w (all_to v ms))) e ∙ mail_none v w e ms

pub mail-parts : (w : ℕ) (xs ys zs : List (ℕ × Down)) → mail w (xs ++ (ys ++ zs)) ≡ mail w xs ++ (mail w ys ++ mail w zs)
mail-parts w xs ys zs = mail-append w xs (ys ++ zs) ∙ ap (λ l. mail w xs ++ l) (mail-append w ys zs)

not_to : (t : Stages) (v w : ℕ) → eqb v w ≡ false → mail w (to_worker t v) ≡ []
unfolding to_worker task_messages
not_to t v w e =
    mail-parts w (free_message v (lost_keys t v)) (filter_map (λ q. task_message t.placed t.before.counter v q (t.placed.on q)) (below (keys t.placed))) (all_to v (t.changed.answer t.placed v))
    ∙ ap (λ l. l ++ (mail w (filter_map (λ q. task_message t.placed t.before.counter v q (t.placed.on q)) (below (keys t.placed))) ++ mail w (all_to v (t.changed.answer t.placed v)))) (no_free v w e (lost_keys t v))
    ∙ ap (λ l. l ++ mail w (all_to v (t.changed.answer t.placed v))) (no_tasks t.placed t.before.counter v w e (below (keys t.placed)))
    ∙ mail_none v w e (t.changed.answer t.placed v)

pub mail-own_part : (t : Stages) (w : ℕ) → mail w (to_worker t w) ≡ mail w (free_message w (lost_keys t w)) ++ (mail w (task_messages t.placed t.before.counter w) ++ t.changed.answer t.placed w)
unfolding to_worker
mail-own_part t w =
    mail-parts w (free_message w (lost_keys t w)) (task_messages t.placed t.before.counter w) (all_to w (t.changed.answer t.placed w))
    ∙ ap (λ l. mail w (free_message w (lost_keys t w)) ++ (mail w (task_messages t.placed t.before.counter w) ++ l)) (mail_own w (t.changed.answer t.placed w))

-- nobody later is the same worker
not_among : (w : ℕ) (ws : List ℕ) → AllByRecursion (λ v. w < v) ws → is_in w ws ≡ false
not_among w [] h = refl
not_among w (v ∷ ws) h = ap (λ b. b || is_in w ws) (unequal_over v w h.0) ∙ not_among w ws h.1

-- where the messages of all workers are joined, a worker's are its own
pub mail-joined : (t : Stages) (w : ℕ) (ws : List ℕ) → Ascends (λ v u. v < u) ws → mail w (flat_map (to_worker t) ws) ≡ cond (is_in w ws) (mail w (to_worker t w)) []
mail-joined t w [] d = refl
mail-joined t w (v ∷ ws) d = mail-append w (to_worker t v) (flat_map (to_worker t) ws) ∙ ap (λ l. mail w (to_worker t v) ++ l) (mail-joined t w ws d.1) ∙ pick (eqb v w) refl (is_in w ws) refl
  where
    pick : (b : Bool) → eqb v w ≡ b → (c : Bool) → is_in w ws ≡ c → mail w (to_worker t v) ++ cond c (mail w (to_worker t w)) [] ≡ cond (b || c) (mail w (to_worker t w)) []
    pick true e true i = absurd (true≢false (sym i ∙ ap (λ n. is_in n ws) (sym (eqb-true v w e)) ∙ not_among v ws d.0))
    pick true e false i = append-nil (mail w (to_worker t v)) ∙ ap (λ n. mail w (to_worker t n)) (eqb-true v w e)
    pick false e true i = ap (λ l. l ++ mail w (to_worker t w)) (not_to t v w e)
    pick false e false i = ap (λ l. l ++ []) (not_to t v w e)

workers_ascend : (f : Facts) → Ascends (λ v u. v < u) (workers f)
workers_ascend f = ascends_filter (λ v u. v < u) (connected f) (from_one f.last_worker) (ascends_range 1 f.last_worker)

pub mail-down : (t : Stages) (w : ℕ) → mail w (down_messages t) ≡ cond (is_in w (workers t.placed)) (mail w (to_worker t w)) []
unfolding down_messages
mail-down t w = mail-joined t w (workers t.placed) (workers_ascend t.placed)

-- each message of a worker's part goes to that worker
free-to : (w : ℕ) (ks : List ℕ) (m : ℕ × Down) → Contains (free_message w ks) m → m.0 ≡ w
free-to w [] m h = absurd (contains_none m h)
free-to w (k ∷ ks) m h = ⊎_elim (λ e. sym (ap (λ (n : ℕ × Down). n.0) e)) (λ t. absurd (contains_none m t)) (contains_cases (w, FreeKeys (k ∷ ks)) [] m h)

answers-to : (w : ℕ) (ms : List Down) (m : ℕ × Down) → Contains (all_to w ms) m → m.0 ≡ w
answers-to w [] m h = absurd (contains_none m h)
answers-to w (x ∷ xs) m h = ⊎_elim (λ e. sym (ap (λ (n : ℕ × Down). n.0) e)) (λ t. answers-to w xs m t) (contains_cases (w, x) (all_to w xs) m h)

tasks-to : (f : Facts) (since w : ℕ) (m : ℕ × Down) → Contains (task_messages f since w) m → m.0 ≡ w
unfolding task_messages
tasks-to f since w m h = found (filter_map_from (λ k. task_message f since w k (f.on k)) (below (keys f)) m h)
  where
    found : (k : ℕ) × Contains (below (keys f)) k × (task_message f since w k (f.on k) ≡ Some m) → m.0 ≡ w
    found (k, c, e) = (task_message-key f since w k (f.on k) m e).0

part-to : (t : Stages) (w : ℕ) (m : ℕ × Down) → Contains (to_worker t w) m → m.0 ≡ w
unfolding to_worker
part-to t w m h = ⊎_elim
    (λ l. free-to w (lost_keys t w) m l)
    (λ r. ⊎_elim (λ l. tasks-to t.placed t.before.counter w m l) (λ s. answers-to w (t.changed.answer t.placed w) m s)
    (Contains-append_cases (task_messages t.placed t.before.counter w) (all_to w (t.changed.answer t.placed w)) m r))
    (Contains-append_cases (free_message w (lost_keys t w)) (task_messages t.placed t.before.counter w ++ all_to w (t.changed.answer t.placed w)) m h)

-- a list whose members all have one first part
one_ascends : {A : Type 0} (w : ℕ) (ms : List (ℕ × A)) → ((m : ℕ × A) → Contains ms m → m.0 ≡ w) → Ascends (λ (m n : ℕ × A). m.0 ≤ n.0) ms
one_ascends w [] h = tt
one_ascends {A = A} w (m ∷ ms) h = (
  all_from (λ (n : ℕ × A). m.0 ≤ n.0) ms (λ n c. let a : m.0 ≡ w = h m (contains_head m ms) in let b : n.0 ≡ w = h n (contains_tail m ms n c) in omega arith),
  one_ascends w ms (λ n c. h n (contains_tail m ms n c)),
)

pub recipients_ascend : (t : Stages) → Ascends (λ (m n : ℕ × Down). m.0 ≤ n.0) (down_messages t)
unfolding down_messages
recipients_ascend t = ascends_flat_map (λ v u. v < u) (λ (m n : ℕ × Down). m.0 ≤ n.0) (to_worker t)
    (λ v u m n l a b. let c : m.0 ≡ v = part-to t v m a in let d : n.0 ≡ u = part-to t u n b in omega arith)
    (λ w. one_ascends w (to_worker t w) (part-to t w))
    (workers t.placed) (workers_ascend t.placed)

-- a message to a client is to that client, about that key
is_told : (c k : ℕ) (x m : ℕ × ToClient) → x.0 ≡ c → client_key x.1 ≡ k → Some x ≡ Some m → (m.0 ≡ c) × (client_key m.1 ≡ k)
is_told c k x m a b h = let e : x ≡ m = same_Some x m h in (sym (ap (λ (n : ℕ × ToClient). n.0) e) ∙ a, sym (ap (λ (n : ℕ × ToClient). client_key n.1) e) ∙ b)

client_message-key : (t : Stages) (c k : ℕ) (m : ℕ × ToClient) → client_message t c k ≡ Some m → (m.0 ≡ c) × (client_key m.1 ≡ k)
client_message-key t c k m h = pick (not (t.placed.want c k)) (erred t.placed k && not (was_erred t k)) (held t.placed k && not (was_held t k)) (was_held t k && not (held t.placed k)) (blame t.placed k) h
  where
    blamed : (o : Option ℕ) → option_map (λ b. (c, ClientTaskErred k b)) o ≡ Some m → (m.0 ≡ c) × (client_key m.1 ≡ k)
    blamed None g = absurd (none-some m g)
    blamed (Some b) g = is_told c k (c, ClientTaskErred k b) m refl refl g

    pick : (a b d e : Bool) (o : Option ℕ) → cond a None (cond b (option_map (λ x. (c, ClientTaskErred k x)) o) (cond d (Some (c, KeyInMemory k (holders t.placed k))) (cond e (Some (c, LostData k)) None))) ≡ Some m → (m.0 ≡ c) × (client_key m.1 ≡ k)
    pick true b d e o g = absurd (none-some m g)
    pick false true d e o g = blamed o g
    pick false false true e o g = is_told c k (c, KeyInMemory k (holders t.placed k)) m refl refl g
    pick false false false true o g = is_told c k (c, LostData k) m refl refl g
    pick false false false false o g = absurd (none-some m g)

pub clients_ascend : (t : Stages) → Ascends IsToldBefore (to_clients t)
unfolding to_clients
clients_ascend t = ascends_flat_map (λ c d. c < d) IsToldBefore per_client
    (λ c d m n l a b. let e : m.0 ≡ c = told_to c m a in let g : n.0 ≡ d = told_to d n b in inl (omega arith))
    (λ c. ascends_filter_map (λ j k. j < k) IsToldBefore (client_message t c)
    (λ j k m n l a b.
    let x = client_message-key t c j m a in
    let y = client_message-key t c k n b in
    inr (x.0 ∙ sym y.0, subst (λ z. z < client_key n.1) (sym x.1) (subst (λ z. j < z) (sym y.1) l)))
    (below (keys t.before)) (ascends_range 0 (keys t.before)))
    (from_one t.before.setting.clients) (ascends_range 1 t.before.setting.clients)
  where
    per_client : ℕ → List (ℕ × ToClient)
    per_client c = filter_map (client_message t c) (below (keys t.before))

    told_to : (c : ℕ) (m : ℕ × ToClient) → Contains (per_client c) m → m.0 ≡ c
    told_to c m h = found (filter_map_from (client_message t c) (below (keys t.before)) m h)
      where
        found : (k : ℕ) × Contains (below (keys t.before)) k × (client_message t c k ≡ Some m) → m.0 ≡ c
        found (k, i, e) = (client_message-key t c k m e).0
