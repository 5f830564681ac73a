-- What clients hear, by what is new of each key.
use Rattle.std.proofs.Common.{◌≡◌, ℕ, zero, suc, ◌<◌, ◌≤◌, ◌+◌, Bool, true, false, not, ◌&&◌, cond, List, [], ◌∷◌, Option, Some, None, refl, sym, ap, ◌∙◌, arith, is_some, All, ltb}
use Rattle.std.specs.List.{filter_map, flat_map, cons_option, range_with_len, AllByRecursion}
use Rattle.std.specs.Option.{option_map, option_or}
use Rattle.std.proofs.lemmas.List.Elements.{All-from_recursion}
use Rattle.cluster_msgs.specs.declared.messages.ToClient.{ToClient}
use Rattle.cluster_msgs.specs.declared.messages.ToClient.TheVariants.{KeyInMemory, LostData, ClientTaskErred}
use Rattle.cluster_rules.specs.Functions.{from_one}
use Rattle.cluster_rules.specs.Derived.{below}
use Rattle.cluster_rules.specs.Sched.{Facts, IsSound, keys, held, erred, blame, holders}
use Rattle.cluster_rules.proofs.SchedLemmas.{is_some-blame}
use Rattle.scheduler_core.specs.declared.news.News.{News}
use Rattle.scheduler_core.specs.declared.news.News.TheVariants.{Erred, Held, Lost}
use Rattle.scheduler_core.specs.News.{told, client_mail, news_of, all_news, message_of, heard, was_held, was_erred}
use Rattle.key_sets.specs.Sets.{has}
use Rattle.task_table.specs.Tasks.{Tasks, facts, IsRemembered}
use Rattle.std.proofs.Math.Bool.{and-true}
use Rattle.std.proofs.lemmas.Bool.{lt-ltb}
use Rattle.small_facts.proofs.Truth.{false_before}
use Rattle.scheduler_core.proofs.MailLemmas.{flat_map_agree}

-- the news of one key, by what it is blamed on and what it was
pub news_is : (f : Facts) → IsSound f → (was_held was_erred : ℕ → Bool) (k : ℕ) → option_or (cond (was_erred k) None (option_map (λ b. Erred b) (blame f k))) (cond (held f k && not (was_held k)) (Some Held) (cond (was_held k && not (held f k)) (Some Lost) None)) ≡ news_of f was_held was_erred k
unfolding news_of
news_is f s was_held was_erred k = pick (was_erred k) (blame f k) (erred f k) (is_some-blame f s k)
  where
    other : Option News
    other = cond (held f k && not (was_held k)) (Some Held) (cond (was_held k && not (held f k)) (Some Lost) None)

    pick : (was : Bool) (o : Option ℕ) (e : Bool) → is_some o ≡ e → option_or (cond was None (option_map (λ b. Erred b) o)) other ≡ cond (e && not was) (option_map (λ b. Erred b) o) other
    pick was o true h = erred_now was o h
      where
        erred_now : (was : Bool) (o : Option ℕ) → is_some o ≡ true → option_or (cond was None (option_map (λ b. Erred b) o)) other ≡ cond (true && not was) (option_map (λ b. Erred b) o) other
        erred_now true o h = refl
        erred_now false None h = cc
        erred_now false (Some b) h = refl
    pick was o false h = sound_now was o h
      where
        sound_now : (was : Bool) (o : Option ℕ) → is_some o ≡ false → option_or (cond was None (option_map (λ b. Erred b) o)) other ≡ cond (false && not was) (option_map (λ b. Erred b) o) other
        sound_now true o h = refl
        sound_now false None h = refl
        sound_now false (Some b) h = cc

-- one message to a client, by the news
told_is : (f : Facts) (was_held was_erred : ℕ → Bool) (c k : ℕ) (rest : List (ℕ × ToClient)) → cons_option (told f was_held was_erred c k) rest ≡ cond (f.want c k) (cons_option (option_map (λ n. (c, message_of f k n)) (news_of f was_held was_erred k)) rest) rest
unfolding told news_of
told_is f was_held was_erred c k rest = pick (f.want c k) (erred f k && not (was_erred k)) (held f k && not (was_held k)) (was_held k && not (held f k)) (blame f k)
  where
    pick : (wants e h l : Bool) (b : Option ℕ) → cons_option (cond (not wants) None (cond e (option_map (λ b. (c, ClientTaskErred k b)) b) (cond h (Some (c, KeyInMemory k (holders f k))) (cond l (Some (c, LostData k)) None)))) rest ≡ cond wants (cons_option (option_map (λ n. (c, message_of f k n)) (cond e (option_map (λ b. Erred b) b) (cond h (Some Held) (cond l (Some Lost) None)))) rest) rest
    pick false e h l b = refl
    pick true true h l None = refl
    pick true true h l (Some b) = refl
    pick true false true l b = refl
    pick true false false true b = refl
    pick true false false false b = refl

-- the messages to one client are those of the news
pub heard_is : (f : Facts) (was_held was_erred : ℕ → Bool) (c : ℕ) (xs : List ℕ) → filter_map (heard f c) (filter_map (λ k. option_map (λ n. (k, n)) (news_of f was_held was_erred k)) xs) ≡ filter_map (told f was_held was_erred c) xs
unfolding heard
heard_is f was_held was_erred c [] = refl
heard_is f was_held was_erred c (x ∷ xs) = step (news_of f was_held was_erred x) ∙ ap (λ l. cond (f.want c x) (cons_option (option_map (λ n. (c, message_of f x n)) (news_of f was_held was_erred x)) l) l) (heard_is f was_held was_erred c xs) ∙ sym (told_is f was_held was_erred c x (filter_map (told f was_held was_erred c) xs))
  where
    rest : List (ℕ × News)
    rest = filter_map (λ k. option_map (λ n. (k, n)) (news_of f was_held was_erred k)) xs

    one : (w : Bool) (n : News) → cons_option (cond w (Some (c, message_of f x n)) None) (filter_map (heard f c) rest) ≡ cond w ((c, message_of f x n) ∷ filter_map (heard f c) rest) (filter_map (heard f c) rest)
    one true n = refl
    one false n = refl

    none : (w : Bool) → filter_map (heard f c) rest ≡ cond w (filter_map (heard f c) rest) (filter_map (heard f c) rest)
    none true = refl
    none false = refl

    step : (o : Option News) → filter_map (heard f c) (cons_option (option_map (λ n. (x, n)) o) rest) ≡ cond (f.want c x) (cons_option (option_map (λ n. (c, message_of f x n)) o) (filter_map (heard f c) rest)) (filter_map (heard f c) rest)
    step None = none (f.want c x)
    step (Some n) = one (f.want c x) n

-- the messages to all clients are those of the news
pub mail_is : (f : Facts) (was_held was_erred : ℕ → Bool) → flat_map (λ c. filter_map (heard f c) (all_news f was_held was_erred)) (from_one f.setting.clients) ≡ client_mail f was_held was_erred
unfolding client_mail all_news
mail_is f was_held was_erred = flat_map_agree (λ c. filter_map (heard f c) (filter_map (λ k. option_map (λ n. (k, n)) (news_of f was_held was_erred k)) (below (keys f)))) (λ c. filter_map (told f was_held was_erred c) (below (keys f))) (λ c. heard_is f was_held was_erred c (below (keys f))) (from_one f.setting.clients)

news_from : (g : ℕ → Option News) (m a n : ℕ) → a + n ≤ m → AllByRecursion (λ (x : ℕ × News). x.0 < m) (filter_map (λ k. option_map (λ n. (k, n)) (g k)) (range_with_len a n))
news_from g m a zero h = tt
news_from g m a (suc n) h = pick (g a) (news_from g m (a + 1) n (omega arith))
  where
    rest : List (ℕ × News)
    rest = filter_map (λ k. option_map (λ n. (k, n)) (g k)) (range_with_len (a + 1) n)

    pick : (o : Option News) → AllByRecursion (λ (x : ℕ × News). x.0 < m) rest → AllByRecursion (λ (x : ℕ × News). x.0 < m) (cons_option (option_map (λ n. (a, n)) o) rest)
    pick None i = i
    pick (Some n) i = (omega arith, i)

-- news are of keys that are there
pub news_keys : (f : Facts) (was_held was_erred : ℕ → Bool) → All (λ (n : ℕ × News). n.0 < keys f) (all_news f was_held was_erred)
unfolding all_news
news_keys f was_held was_erred = All-from_recursion (λ (n : ℕ × News). n.0 < keys f) _ (news_from (news_of f was_held was_erred) (keys f) 0 (keys f) (omega arith))

-- of a key that is there the set alone says what it was
pub was_there : (s : List ℕ) (f : Facts) (asked : List ℕ) (k : ℕ) → k < keys f → (has s k && not (has asked k)) ≡ ((ltb k (keys f) && has s k) && not (has asked k))
was_there s f asked k l = sym (ap (λ b. (b && has s k) && not (has asked k)) (lt-ltb k (keys f) l))

-- a key that is as it was has no news
as_it_was : (f : Facts) (was_held was_erred : ℕ → Bool) (k : ℕ) → was_held k ≡ held f k → was_erred k ≡ erred f k → news_of f was_held was_erred k ≡ None
unfolding news_of
as_it_was f was_held was_erred k h e = (λ i. cond (erred f k && not (e i)) (option_map (λ b. Erred b) (blame f k)) (cond (held f k && not (h i)) (Some Held) (cond (h i && not (held f k)) (Some Lost) None))) ∙ pick (erred f k) (held f k)
  where
    pick : (a b : Bool) → cond (a && not a) (option_map (λ b. Erred b) (blame f k)) (cond (b && not b) (Some Held) (cond (b && not b) (Some Lost) None)) ≡ None
    pick true true = refl
    pick true false = refl
    pick false true = refl
    pick false false = refl

plain_was : (b a : Bool) (x : Bool) → a ≡ false → b ≡ true → ((b && x) && not a) ≡ x
plain_was b a x h l = ap (λ z. (b && x) && not z) h ∙ ap (λ z. (z && x) && true) l ∙ and-true x

pub no_news : (t : Tasks) (asked : List ℕ) (k : ℕ) → IsRemembered (facts t) t → ((j : ℕ) → has asked j ≡ true → has t.touched j ≡ true) → k < keys (facts t) → has t.touched k ≡ false → option_map {U = ℕ × News} (λ n. (k, n)) (news_of (facts t) (was_held t asked) (was_erred t asked) k) ≡ None
no_news t asked k r a l e =
    let u = false_before (has asked k) (has t.touched k) (a k) e in
    let i = lt-ltb k (keys (facts t)) l in
    ap (option_map {U = ℕ × News} (λ n. (k, n))) (as_it_was (facts t) (was_held t asked) (was_erred t asked) k (plain_was (ltb k (keys (facts t))) (has asked k) (has t.held_before k) u i ∙ r.held k l e) (plain_was (ltb k (keys (facts t))) (has asked k) (has t.erred_before k) u i ∙ r.erred k l e))
