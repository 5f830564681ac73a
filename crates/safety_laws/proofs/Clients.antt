-- What each client waits for is known to it or on its way, after every event of the world.
use Rattle.std.proofs.Common.{◌≡◌, ℕ, Bool, true, false, cond, not, ◌&&◌, ◌||◌, List, [], ◌∷◌, ◌++◌, Some, refl, sym, ap, ◌∙◌, subst, is_some, inl, inr, ◌⊎◌}
use Rattle.std.proofs.lemmas.Bool.{false≢true, eqb-true, or_parts}
use Rattle.cluster_rules.specs.Functions.{put}
use Rattle.cluster_msgs.specs.declared.messages.ToClient.{ToClient}
use Rattle.cluster_msgs.specs.declared.messages.FromClient.{FromClient as ClientMessage}
use Rattle.cluster_rules.specs.World.{World}
use Rattle.std.specs.List.{list_any}
use Rattle.cluster_msgs.specs.declared.messages.ToClient.TheVariants.{KeyInMemory, LostData, ClientTaskErred}
use Rattle.cluster_rules.specs.Sched.{Facts, held, erred}
use Rattle.cluster_rules.specs.Worker.{has_any}
use Rattle.cluster_rules.specs.Client.{ClientFacts, hear}
use Rattle.std.proofs.lemmas.Bool.{or_cases}
use Rattle.std.proofs.lemmas.List.Folds.{list_any-append}
use Rattle.std.proofs.Math.Bool.{or-true}
use Rattle.small_facts.proofs.Numbers.{eqb_turned}
use Rattle.safety_laws.specs.Lively.{is_news, last_news, tells_memory, tells_error}
use Rattle.cluster_rules.specs.Worker.{is_asked_for}
use Rattle.safety_laws.specs.Lively.{IsServed, wants_at_last, names_want, misses}
use Rattle.safety_laws.proofs.Waiting.{IsOwnTurn, wants-append}

-- ## A client's own event

pub served_own : (w : World) (c k : ℕ) (d : ClientFacts) (ms : List ClientMessage) (v : World) → v.sched ≡ w.sched → v.to_client c ≡ w.to_client c → v.clients c ≡ d → v.from_client c ≡ w.from_client c ++ ms → IsOwnTurn k (w.clients c) d ms → IsServed w c k → IsServed v c k
served_own w c k d ms v sched to cl from t h = record {
  want = ap (λ l. wants_at_last k l (v.sched.want c k)) from ∙ wants-append k (w.from_client c) ms (v.sched.want c k) ∙ ap (λ (f : Facts). wants_at_last k ms (wants_at_last k (w.from_client c) (f.want c k))) sched ∙ ap (wants_at_last k ms) h.want ∙ t.want ∙ ap (λ (x : ClientFacts). x.wants k) (sym cl);
  held_told = λ e n hd. ap (λ l. last_news tells_memory k l false) to ∙ h.held_told (same_want e) (ap (list_any (is_news k)) (sym to) ∙ n) (ap (λ (f : Facts). held f k) (sym sched) ∙ hd);
  erred_told = λ e n er. ap (λ l. last_news tells_error k l false) to ∙ h.erred_told (same_want e) (ap (list_any (is_news k)) (sym to) ∙ n) (ap (λ (f : Facts). erred f k) (sym sched) ∙ er);
  erred_known = λ e u er n m. let p = names n in let x = mine u in ap (λ (y : ClientFacts). y.got k || is_some (y.failed k)) cl ∙ t.ended x (h.erred_known (same_want e) (t.wanted x p.1) (ap (λ (f : Facts). erred f k) (sym sched) ∙ er) p.0 (ap (list_any (is_news k)) (sym to) ∙ m));
  held_known = λ e u hd n m. let p = names n in let x = mine u in ap (λ (y : ClientFacts). y.got k || (has_any (y.located k) || (is_asked_for y.asks k || list_any (misses k) (v.from_client c)))) cl
      ∙ ap (λ l. d.got k || (has_any (d.located k) || (is_asked_for d.asks k || list_any (misses k) l))) from ∙ ap (λ b. d.got k || (has_any (d.located k) || (is_asked_for d.asks k || b))) (list_any-append (misses k) (w.from_client c) ms)
      ∙ known ((w.clients c).got k) (has_any ((w.clients c).located k)) (is_asked_for (w.clients c).asks k) (list_any (misses k) (w.from_client c)) (t.known x)
      (h.held_known (same_want e) (t.wanted x p.1) (ap (λ (f : Facts). held f k) (sym sched) ∙ hd) p.0 (ap (list_any (is_news k)) (sym to) ∙ m));
}
  where
    same_want : v.sched.want c k ≡ true → w.sched.want c k ≡ true
    same_want e = ap (λ (f : Facts). f.want c k) (sym sched) ∙ e

    mine : (v.clients c).wants k ≡ true → d.wants k ≡ true
    mine u = ap (λ (x : ClientFacts). x.wants k) (sym cl) ∙ u

    names : list_any (names_want k) (v.from_client c) ≡ false → (list_any (names_want k) (w.from_client c) ≡ false) × (list_any (names_want k) ms ≡ false)
    names n = or_parts (list_any (names_want k) (w.from_client c)) (list_any (names_want k) ms) (sym (list_any-append (names_want k) (w.from_client c) ms) ∙ ap (list_any (names_want k)) (sym from) ∙ n)

    known : (a b x y : Bool) → ((a || (b || x)) ≡ true → (d.got k || (has_any (d.located k) || (is_asked_for d.asks k || list_any (misses k) ms))) ≡ true) → (a || (b || (x || y))) ≡ true → (d.got k || (has_any (d.located k) || (is_asked_for d.asks k || (y || list_any (misses k) ms)))) ≡ true
    known a b x true f e = all_true (d.got k) (has_any (d.located k)) (is_asked_for d.asks k)
      where
        all_true : (p q r : Bool) → (p || (q || (r || true))) ≡ true
        all_true true q r = refl
        all_true false true r = refl
        all_true false false true = refl
        all_true false false false = refl
    known a b x false f e = f (same a b x e)
      where
        same : (a b x : Bool) → (a || (b || (x || false))) ≡ true → (a || (b || x)) ≡ true
        same true b x e = refl
        same false true x e = refl
        same false false true e = refl
        same false false false e = e

-- ## News that a client takes

hears_known : (c : ClientFacts) (k : ℕ) (m : ToClient) → is_news k m ≡ false → ((hear c m).located k ≡ c.located k) × (((hear c m).failed k ≡ c.failed k) × ((hear c m).got ≡ c.got))
unfolding hear
hears_known c k (KeyInMemory q hs) e = pick (c.wants q && not (c.got q))
  where
    pick : (b : Bool) → let d = cond b (record c { located = put c.located q hs }) c in (d.located k ≡ c.located k) × ((d.failed k ≡ c.failed k) × (d.got ≡ c.got))
    pick true = (ap (λ b. cond b hs (c.located k)) (eqb_turned k q ∙ e), (refl, refl))
    pick false = (refl, (refl, refl))
hears_known c k (LostData q) e = (ap (λ b. cond b [] (c.located k)) (eqb_turned k q ∙ e), (refl, refl))
hears_known c k (ClientTaskErred q x) e = pick (c.wants q && not (c.got q))
  where
    pick : (b : Bool) → let d = cond b (record c { failed = put c.failed q (Some x); located = put c.located q [] }) c in (d.located k ≡ c.located k) × ((d.failed k ≡ c.failed k) × (d.got ≡ c.got))
    pick true = (ap (λ b. cond b [] (c.located k)) (eqb_turned k q ∙ e), (ap (λ b. cond b (Some x) (c.failed k)) (eqb_turned k q ∙ e), refl))
    pick false = (refl, (refl, refl))

pub hears_same : (c : ClientFacts) (m : ToClient) → ((hear c m).wants ≡ c.wants) × ((hear c m).asks ≡ c.asks)
unfolding hear
hears_same c (KeyInMemory q hs) = pick (c.wants q && not (c.got q))
  where
    pick : (b : Bool) → let d = cond b (record c { located = put c.located q hs }) c in (d.wants ≡ c.wants) × (d.asks ≡ c.asks)
    pick true = (refl, refl)
    pick false = (refl, refl)
hears_same c (LostData q) = (refl, refl)
hears_same c (ClientTaskErred q x) = pick (c.wants q && not (c.got q))
  where
    pick : (b : Bool) → let d = cond b (record c { failed = put c.failed q (Some x); located = put c.located q [] }) c in (d.wants ≡ c.wants) × (d.asks ≡ c.asks)
    pick true = (refl, refl)
    pick false = (refl, refl)

-- an error or a holder that is told is known
hears_error : (c : ClientFacts) (k : ℕ) (m : ToClient) → is_news k m ≡ true → tells_error m ≡ true → c.wants k ≡ true → ((hear c m).got k || is_some ((hear c m).failed k)) ≡ true
unfolding hear
hears_error c k (ClientTaskErred q x) e t w = pick (c.got k) refl
  where
    at : (b : Bool) → c.got k ≡ b → let d = cond (not b) (record c { failed = put c.failed q (Some x); located = put c.located q [] }) c in (d.got k || is_some (d.failed k)) ≡ true
    at true g = ap (λ u. u || is_some (c.failed k)) g
    at false g = ap (λ u. c.got k || is_some (cond u (Some x) (c.failed k))) (eqb_turned k q ∙ e) ∙ or-true (c.got k)

    pick : (b : Bool) → c.got k ≡ b → let d = cond (c.wants q && not (c.got q)) (record c { failed = put c.failed q (Some x); located = put c.located q [] }) c in (d.got k || is_some (d.failed k)) ≡ true
    pick b g = subst (λ u. let d = cond u (record c { failed = put c.failed q (Some x); located = put c.located q [] }) c in (d.got k || is_some (d.failed k)) ≡ true) (sym (ap (λ y. c.wants y && not (c.got y)) (eqb-true q k e) ∙ ap (λ u. u && not (c.got k)) w ∙ ap not g)) (at b g)
hears_error c k (KeyInMemory q hs) e t w = absurd (false≢true t)
hears_error c k (LostData q) e t w = absurd (false≢true t)

hears_memory : (c : ClientFacts) (k : ℕ) (m : ToClient) → is_news k m ≡ true → tells_memory m ≡ true → c.wants k ≡ true → ((hear c m).got k || has_any ((hear c m).located k)) ≡ true
unfolding hear
hears_memory c k (KeyInMemory q hs) e t w = pick (c.got k) refl
  where
    at : (b : Bool) → c.got k ≡ b → let d = cond (not b) (record c { located = put c.located q hs }) c in (d.got k || has_any (d.located k)) ≡ true
    at true g = ap (λ u. u || has_any (c.located k)) g
    at false g = ap (λ u. c.got k || has_any (cond u hs (c.located k))) (eqb_turned k q ∙ e) ∙ ap (λ u. c.got k || u) t ∙ or-true (c.got k)

    pick : (b : Bool) → c.got k ≡ b → let d = cond (c.wants q && not (c.got q)) (record c { located = put c.located q hs }) c in (d.got k || has_any (d.located k)) ≡ true
    pick b g = subst (λ u. let d = cond u (record c { located = put c.located q hs }) c in (d.got k || has_any (d.located k)) ≡ true) (sym (ap (λ y. c.wants y && not (c.got y)) (eqb-true q k e) ∙ ap (λ u. u && not (c.got k)) w ∙ ap not g)) (at b g)
hears_memory c k (LostData q) e t w = absurd (false≢true t)
hears_memory c k (ClientTaskErred q x) e t w = absurd (false≢true t)

-- the first of several news doesn't matter for the last
last_rest : (t : ToClient → Bool) (k : ℕ) (ms : List ToClient) (a b : Bool) → list_any (is_news k) ms ≡ true → last_news t k ms a ≡ last_news t k ms b
last_rest t k [] a b e = absurd (false≢true e)
last_rest t k (m ∷ ms) a b e = pick (is_news k m) refl (or_cases (is_news k m) (list_any (is_news k) ms) e) (λ r. last_rest t k ms a b r)
  where
    pick : (d : Bool) → is_news k m ≡ d → (is_news k m ≡ true) ⊎ (list_any (is_news k) ms ≡ true) → (list_any (is_news k) ms ≡ true → last_news t k ms a ≡ last_news t k ms b) → last_news t k ms (cond d (t m) a) ≡ last_news t k ms (cond d (t m) b)
    pick true q s rest = refl
    pick false q (inl s) rest = absurd (false≢true (sym q ∙ s))
    pick false q (inr s) rest = rest s

none_last : (t : ToClient → Bool) (k : ℕ) (ms : List ToClient) (a : Bool) → list_any (is_news k) ms ≡ false → last_news t k ms a ≡ a
none_last t k [] a e = refl
none_last t k (m ∷ ms) a e = let p = or_parts (is_news k m) (list_any (is_news k) ms) e in ap (λ d. last_news t k ms (cond d (t m) a)) p.0 ∙ none_last t k ms a p.1

pub served_hear : (w : World) (c k : ℕ) (m : ToClient) (ms : List ToClient) (v : World) → w.to_client c ≡ m ∷ ms → v.sched ≡ w.sched → v.to_client c ≡ ms → v.clients c ≡ hear (w.clients c) m → v.from_client c ≡ w.from_client c → IsServed w c k → IsServed v c k
served_hear w c k m ms v e sched to cl from h = record {
  want = ap (λ l. wants_at_last k l (v.sched.want c k)) from ∙ ap (λ (f : Facts). wants_at_last k (w.from_client c) (f.want c k)) sched ∙ h.want ∙ ap (λ (x : ℕ → Bool). x k) (sym (hears_same (w.clients c) m).0) ∙ ap (λ (x : ClientFacts). x.wants k) (sym cl);
  held_told = λ a n hd. told tells_memory (λ i. h.held_told (same_want a) i (ap (λ (f : Facts). held f k) (sym sched) ∙ hd)) n;
  erred_told = λ a n er. told tells_error (λ i. h.erred_told (same_want a) i (ap (λ (f : Facts). erred f k) (sym sched) ∙ er)) n;
  erred_known = λ a u er n z. ap (λ (x : ClientFacts). x.got k || is_some (x.failed k)) cl ∙ erred_by (is_news k m) refl (none z)
      (λ i. h.erred_told (same_want a) i (ap (λ (f : Facts). erred f k) (sym sched) ∙ er)) (λ i. h.erred_known (same_want a) (wants u) (ap (λ (f : Facts). erred f k) (sym sched) ∙ er) (ap (list_any (names_want k)) (sym from) ∙ n) i) (wants u);
  held_known = λ a u hd n z. ap (λ (x : ClientFacts). x.got k || (has_any (x.located k) || (is_asked_for x.asks k || list_any (misses k) (v.from_client c)))) cl ∙ ap (λ l. D.got k || (has_any (D.located k) || (is_asked_for D.asks k || list_any (misses k) l))) from ∙ held_by (is_news k m) refl (none z)
      (λ i. h.held_told (same_want a) i (ap (λ (f : Facts). held f k) (sym sched) ∙ hd)) (λ i. h.held_known (same_want a) (wants u) (ap (λ (f : Facts). held f k) (sym sched) ∙ hd) (ap (list_any (names_want k)) (sym from) ∙ n) i) (wants u);
}
  where
    D : ClientFacts
    D = hear (w.clients c) m

    same_want : v.sched.want c k ≡ true → w.sched.want c k ≡ true
    same_want a = ap (λ (f : Facts). f.want c k) (sym sched) ∙ a

    wants : (v.clients c).wants k ≡ true → (w.clients c).wants k ≡ true
    wants u = ap (λ (x : ℕ → Bool). x k) (sym (hears_same (w.clients c) m).0) ∙ ap (λ (x : ClientFacts). x.wants k) (sym cl) ∙ u

    none : list_any (is_news k) (v.to_client c) ≡ false → list_any (is_news k) ms ≡ false
    none z = ap (list_any (is_news k)) (sym to) ∙ z

    told : (t : ToClient → Bool) → (list_any (is_news k) (w.to_client c) ≡ true → last_news t k (w.to_client c) false ≡ true) → list_any (is_news k) (v.to_client c) ≡ true → last_news t k (v.to_client c) false ≡ true
    told t f n = let r = ap (list_any (is_news k)) (sym to) ∙ n in ap (λ l. last_news t k l false) to ∙ last_rest t k ms false (cond (is_news k m) (t m) false) r ∙ ap (λ l. last_news t k l false) (sym e) ∙ f (ap (list_any (is_news k)) e ∙ ap (λ b. is_news k m || b) r ∙ or-true (is_news k m))

    -- the news was the last
    this_is : (t : ToClient → Bool) → is_news k m ≡ true → list_any (is_news k) ms ≡ false → (list_any (is_news k) (w.to_client c) ≡ true → last_news t k (w.to_client c) false ≡ true) → t m ≡ true
    this_is t i z f = sym (ap (λ b. cond b (t m) false) i) ∙ sym (none_last t k ms (cond (is_news k m) (t m) false) z) ∙ ap (λ l. last_news t k l false) (sym e) ∙ f (ap (list_any (is_news k)) e ∙ ap (λ b. b || list_any (is_news k) ms) i)

    erred_by : (b : Bool) → is_news k m ≡ b → list_any (is_news k) ms ≡ false → (list_any (is_news k) (w.to_client c) ≡ true → last_news tells_error k (w.to_client c) false ≡ true)
        → (list_any (is_news k) (w.to_client c) ≡ false → ((w.clients c).got k || is_some ((w.clients c).failed k)) ≡ true) → (w.clients c).wants k ≡ true → (D.got k || is_some (D.failed k)) ≡ true
    erred_by true i z f g u = hears_error (w.clients c) k m i (this_is tells_error i z f) u
    erred_by false i z f g u = let s = hears_known (w.clients c) k m i in ap (λ (x : ℕ → Bool). x k || is_some (D.failed k)) s.1.1 ∙ ap (λ o. (w.clients c).got k || is_some o) s.1.0 ∙ g (ap (list_any (is_news k)) e ∙ ap (λ b. b || list_any (is_news k) ms) i ∙ z)

    held_by : (b : Bool) → is_news k m ≡ b → list_any (is_news k) ms ≡ false → (list_any (is_news k) (w.to_client c) ≡ true → last_news tells_memory k (w.to_client c) false ≡ true)
        → (list_any (is_news k) (w.to_client c) ≡ false → ((w.clients c).got k || (has_any ((w.clients c).located k) || (is_asked_for (w.clients c).asks k || list_any (misses k) (w.from_client c)))) ≡ true) → (w.clients c).wants k ≡ true
        → (D.got k || (has_any (D.located k) || (is_asked_for D.asks k || list_any (misses k) (w.from_client c)))) ≡ true
    held_by true i z f g u = pick (D.got k) (has_any (D.located k)) (hears_memory (w.clients c) k m i (this_is tells_memory i z f) u)
      where
        pick : (x y : Bool) → (x || y) ≡ true → (x || (y || (is_asked_for D.asks k || list_any (misses k) (w.from_client c)))) ≡ true
        pick true y q = refl
        pick false true q = refl
        pick false false q = absurd (false≢true q)
    held_by false i z f g u = let s = hears_known (w.clients c) k m i in ap (λ (x : ℕ → Bool). x k || (has_any (D.located k) || (is_asked_for D.asks k || list_any (misses k) (w.from_client c)))) s.1.1
        ∙ ap (λ l. (w.clients c).got k || (has_any l || (is_asked_for D.asks k || list_any (misses k) (w.from_client c)))) s.0
        ∙ ap (λ l. (w.clients c).got k || (has_any ((w.clients c).located k) || (is_asked_for l k || list_any (misses k) (w.from_client c)))) (hears_same (w.clients c) m).1
        ∙ g (ap (list_any (is_news k)) e ∙ ap (λ b. b || list_any (is_news k) ms) i ∙ z)
