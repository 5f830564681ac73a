-- What calls of a store leave as it was.
use Rattle.std.proofs.Common.{◌≡◌, ℕ, ◌+◌, ◌<◌, ◌≤◌, Bool, true, false, ◌&&◌, cond, List, [], Option, Some, None, refl, sym, ap, subst, ◌∙◌, arith, ⊎_elim}
use Rattle.std.specs.Prelude.{◌==◌}
use Rattle.std.proofs.lemmas.Bool.{false≢true, true≢false, or_from, eqb-true, cases_lt}
use Rattle.small_facts.proofs.Lists.{any_push}
use Rattle.small_facts.proofs.Numbers.{eqb_self, eqb_turned, below_or_equal}
use Rattle.small_facts.proofs.Truth.{and_first, false_before}
use Rattle.cluster_msgs.specs.declared.cores.WorkerEvent.{WorkerEvent}
use Rattle.cluster_msgs.specs.declared.events.Event.{Event}
use Rattle.cluster_rules.specs.Derived.{is_in}
use Rattle.cluster_rules.specs.Functions.{put}
use Rattle.cluster_rules.specs.Worker.{WorkerFacts}
use Rattle.node_states.specs.Stores.{Stock, Puts, Gives, Removes, IsSame, PutsAside, TellsOf, GoesOn}
use Rattle.node_states.specs.declared.store.Got.{Got}
use Rattle.node_states.specs.declared.store.Got.TheVariants.{Here, Absent, Lost}
use Rattle.node_states.specs.Spills.{Marked, is_marked, spilled, spilled_key, with_key, coming, SpillsBy, SpillsSame, ComesAmong, NoneDue, IsNextDue, IsHeardOf}

pub goes_nowhere : (s : Stock) → GoesOn s s
goes_nowhere s = record { news = λ q h. h; fresh = λ q n a. a }

-- what is no news now wasn't before
no_news : (a b : Stock) → ((q : ℕ) → is_in q a.news ≡ true → is_in q b.news ≡ true) → (q : ℕ) → is_in q b.news ≡ false → is_in q a.news ≡ false
no_news a b f q n = false_before (is_in q a.news) (is_in q b.news) (f q) n

pub goes_further : (a b c : Stock) → GoesOn a b → GoesOn b c → GoesOn a c
goes_further a b c f g = record { news = λ q h. g.news q (f.news q h); fresh = λ q n x. f.fresh q (no_news b c g.news q n) (g.fresh q n x) }

less : (f : ℕ → Bool) (key q : ℕ) → put f key false q ≡ true → f q ≡ true
less f key q = pick (q == key)
  where
    pick : (b : Bool) → cond b false (f q) ≡ true → f q ≡ true
    pick true h = absurd (false≢true h)
    pick false h = h

as_before : (old new : Stock) → PutsAside old.aside old new → GoesOn old new
as_before old new h = record { news = h.news; fresh = h.fresh }

but_one : (key : ℕ) (old new : Stock) → PutsAside (put old.aside key false) old new → GoesOn old new
but_one key old new h = record { news = h.news; fresh = λ q n a. less old.aside key q (h.fresh q n a) }

same_news : (old new : Stock) → new.news ≡ old.news → (q : ℕ) → is_in q old.news ≡ true → is_in q new.news ≡ true
same_news old new e q h = ap (is_in q) e ∙ h

pub goes_on_put : (key : ℕ) (old new : Stock) → Puts key old new → GoesOn old new
goes_on_put key old new h = but_one key old new h.aside

pub goes_on_get : {T : Type 0} (key : ℕ) (old new : Stock) (got : Got T) → Gives key old new got → GoesOn old new
goes_on_get key old new (Here x) h = as_before old new h.aside
goes_on_get key old new Absent h = as_before old new h.aside
goes_on_get key old new Lost h = but_one key old new h.aside

pub goes_on_remove : (key : ℕ) (old new : Stock) → Removes key old new → GoesOn old new
goes_on_remove key old new h = record { news = same_news old new h.news; fresh = λ q n a. less old.aside key q (sym (h.aside q) ∙ a) }

pub goes_on_same : (old new : Stock) → IsSame old new → GoesOn old new
goes_on_same old new h = record { news = same_news old new h.news; fresh = λ q n a. sym (h.aside q) ∙ a }

-- what was removed isn't put aside
pub gone_aside : (key : ℕ) (old new : Stock) → Removes key old new → new.aside key ≡ false
gone_aside key old new h = h.aside key ∙ pick (key == key)
  where
    pick : (b : Bool) → cond (key == key) false (old.aside key) ≡ false
    pick b = ap (λ b. cond b false (old.aside key)) (eqb_self key)

pub still_gone : (key q : ℕ) (old new : Stock) → Removes key old new → old.aside q ≡ false → new.aside q ≡ false
still_gone key q old new h n = h.aside q ∙ pick (q == key)
  where
    pick : (b : Bool) → cond b false (old.aside q) ≡ false
    pick true = refl
    pick false = n

-- ## What is to be recorded

more : (f : ℕ → Bool) (o : Option ℕ) (k : ℕ) → f k ≡ true → with_key f o k ≡ true
more f None k h = h
more f (Some j) k h = pick (k == j)
  where
    pick : (b : Bool) → cond b true (f k) ≡ true
    pick true = refl
    pick false = h

pub still_heard_of : (s0 s1 s2 : Stock) (w : WorkerFacts) (m : Marked) (o : Option WorkerEvent) (e : Event) (v : WorkerFacts) (n : Marked)
    → GoesOn s0 s1 → ((k : ℕ) → w.mem k ≡ false → is_in k (coming o) ≡ true → s1.aside k ≡ false) → SpillsBy w m e v n → ComesAmong (coming o) w.mem v.mem → GoesOn s1 s2
    → (keys : ℕ) (known : Marked) → IsHeardOf keys known s0 w m → IsHeardOf keys known s2 v n
still_heard_of s0 s1 s2 w m o e v n f gone spills comes g keys known h = record {
  each = λ k l a i quiet un. let none = no_news s1 s2 g.news k quiet in held k l (g.fresh k quiet a) i (no_news s0 s1 f.news k none) none un (w.mem k) refl;
}
  where
    held : (k : ℕ) → k < keys → s1.aside k ≡ true → v.mem k ≡ true → is_in k s0.news ≡ false → is_in k s1.news ≡ false → is_marked known k ≡ false → (b : Bool) → b ≡ w.mem k → is_marked n k ≡ true
    held k l a i quiet none un true t = marked (more (spilled m w.mem) (spilled_key e) k (both (h.each k l (f.fresh k none a) (sym t) quiet un) (sym t)))
      where
        both : is_marked m k ≡ true → w.mem k ≡ true → spilled m w.mem k ≡ true
        both x y = ap (λ b. b && w.mem k) x ∙ y

        marked : with_key (spilled m w.mem) (spilled_key e) k ≡ true → is_marked n k ≡ true
        marked x = and_first (is_marked n k) (v.mem k) (spills.each k ∙ ap (λ b. b && v.mem k) x ∙ i)
    held k l a i quiet none un false t = pick (is_in k (coming o)) refl
      where
        pick : (b : Bool) → b ≡ is_in k (coming o) → is_marked n k ≡ true
        pick true y = absurd (false≢true (sym (gone k (sym t) (sym y)) ∙ a))
        pick false y = absurd (false≢true (t ∙ comes.each k i (sym y)))

pub same_heard_of : (s0 s1 : Stock) (w : WorkerFacts) (m : Marked) (v : WorkerFacts) (n : Marked) → GoesOn s0 s1 → v ≡ w → SpillsSame w m v n
    → (keys : ℕ) (known : Marked) → IsHeardOf keys known s0 w m → IsHeardOf keys known s1 v n
same_heard_of s0 s1 w m v n f e spills keys known h = record {
  each = λ k l a i quiet un.
      let here : w.mem k ≡ true = ap (λ (u : WorkerFacts). u.mem k) (sym e) ∙ i in
      and_first (is_marked n k) (v.mem k) (spills.each k ∙ both k (h.each k l (f.fresh k quiet a) here (no_news s0 s1 f.news k quiet) un) here);
}
  where
    both : (k : ℕ) → is_marked m k ≡ true → w.mem k ≡ true → spilled m w.mem k ≡ true
    both k x y = ap (λ b. b && w.mem k) x ∙ y

-- looks at blocks
pub looks_heard_of : (s0 s1 : Stock) (w : WorkerFacts) (m : Marked) → GoesOn s0 s1 → (keys : ℕ) (known : Marked) → IsHeardOf keys known s0 w m → IsHeardOf keys known s1 w m
looks_heard_of s0 s1 w m f = same_heard_of s0 s1 w m w m f refl (record { each = λ k. refl })

-- where nothing is in memory, nothing is to be recorded
pub stays_heard_of : (keys : ℕ) (known : Marked) (s t : Stock) (w : WorkerFacts) (m : Marked) → t ≡ s → IsHeardOf keys known s w m → IsHeardOf keys known t w m
stays_heard_of keys known s t w m e h = subst (λ x. IsHeardOf keys known x w m) (sym e) h

pub nothing_due : (keys : ℕ) (known : Marked) (s : Stock) (w : WorkerFacts) (m : Marked) → ((k : ℕ) → w.mem k ≡ false) → IsHeardOf keys known s w m
nothing_due keys known s w m none = record { each = λ k l a i quiet un. absurd (false≢true (sym (none k) ∙ i)) }

-- ## What was put aside is heard of

-- one more key is known, which was news
pub heard_more : (s t : Stock) (known grown : Marked) (key : ℕ) → TellsOf key s t → ((k : ℕ) → k < known.keys → is_marked grown k ≡ put (is_marked known) key true k)
    → (keys : ℕ) (w : WorkerFacts) (m : Marked) → keys ≤ known.keys → IsHeardOf keys known s w m → IsHeardOf keys grown t w m
heard_more s t known grown key tells marks keys w m room h = record {
  each = λ k l a i quiet un. pick k l a i quiet (sym (marks k (omega arith)) ∙ un) (k == key) refl;
}
  where
    pick : (k : ℕ) → k < keys → t.aside k ≡ true → w.mem k ≡ true → is_in k t.news ≡ false → put (is_marked known) key true k ≡ false → (b : Bool) → (k == key) ≡ b → is_marked m k ≡ true
    pick k l a i quiet un true e = absurd (true≢false (sym (ap (λ b. cond b true (is_marked known k)) e) ∙ un))
    pick k l a i quiet un false e =
        h.each k l (sym (tells.aside k) ∙ a) i
        (ap (is_in k) tells.one ∙ any_push (λ x. x == k) t.news key ∙ or_from (is_in k t.news) (key == k) quiet (eqb_turned key k ∙ e))
        (sym (ap (λ b. cond b true (is_marked known k)) e) ∙ un)

-- a key that isn't to be recorded need not be known
pub heard_without : (s : Stock) (known fewer : Marked) (key : ℕ) (w : WorkerFacts) (m : Marked) (keys : ℕ) → ((k : ℕ) → is_marked fewer k ≡ put (is_marked known) key false k)
    → (s.aside key ≡ true → w.mem key ≡ true → is_marked m key ≡ true) → IsHeardOf keys known s w m → IsHeardOf keys fewer s w m
heard_without s known fewer key w m keys marks not_due h = record { each = λ k l a i quiet un. pick k l a i quiet (sym (marks k) ∙ un) (k == key) refl }
  where
    pick : (k : ℕ) → k < keys → s.aside k ≡ true → w.mem k ≡ true → is_in k s.news ≡ false → put (is_marked known) key false k ≡ false → (b : Bool) → (k == key) ≡ b → is_marked m k ≡ true
    pick k l a i quiet un true e =
        let same : k ≡ key = eqb-true k key e in
        subst (λ j. is_marked m j ≡ true) (sym same) (not_due (subst (λ j. s.aside j ≡ true) same a) (subst (λ j. w.mem j ≡ true) same i))
    pick k l a i quiet un false e = h.each k l a i quiet (sym (ap (λ b. cond b false (is_marked known k)) e) ∙ un)

-- none below a number is to be recorded, nor any from there to the next one that is known
pub none_until : (s : Stock) (known : Marked) (w : WorkerFacts) (m : Marked) (keys from next : ℕ) → s.news ≡ [] → next ≤ keys → NoneDue from s w m → IsHeardOf keys known s w m
    → ((k : ℕ) → from ≤ k → k < next → is_marked known k ≡ false) → NoneDue next s w m
none_until s known w m keys from next told low none h gap = record {
  each = λ k l a i. ⊎_elim (λ x. none.each k x a i) (λ x. h.each k (omega arith) a i (ap (is_in k) told) (gap k x l)) (cases_lt k from);
}

-- none is known, so none is to be recorded
pub none_known : (keys : ℕ) (s : Stock) (known : Marked) (w : WorkerFacts) (m : Marked) → s.news ≡ [] → IsHeardOf keys known s w m → ((k : ℕ) → 0 ≤ k → is_marked known k ≡ false) → NoneDue keys s w m
none_known keys s known w m told h none = record { each = λ k l a i. h.each k l a i (ap (is_in k) told) (none k (omega arith)) }

pub none_more : (s : Stock) (w : WorkerFacts) (m : Marked) (key : ℕ) → NoneDue key s w m → (s.aside key ≡ true → w.mem key ≡ true → is_marked m key ≡ true) → NoneDue (key + 1) s w m
none_more s w m key none not_due = record {
  each = λ k l a i. ⊎_elim (λ x. none.each k x a i)
      (λ e. subst (λ j. is_marked m j ≡ true) e (not_due (subst (λ j. s.aside j ≡ true) (sym e) a) (subst (λ j. w.mem j ≡ true) (sym e) i))) (below_or_equal k key l);
}

none_same : (keys : ℕ) (s t : Stock) (w : WorkerFacts) (m : Marked) → ((q : ℕ) → t.aside q ≡ s.aside q) → NoneDue keys t w m → NoneDue keys s w m
none_same keys s t w m e h = record { each = λ k l a i. h.each k l (e k ∙ a) i }

-- the same keys are put aside
pub due_same : (keys : ℕ) (s t : Stock) (w : WorkerFacts) (m : Marked) (o : Option ℕ) → ((q : ℕ) → t.aside q ≡ s.aside q) → IsNextDue keys t w m o → IsNextDue keys s w m o
due_same keys s t w m None e h = none_same keys s t w m e h
due_same keys s t w m (Some k) e h = record {
  due = record { below = h.due.below; aside = sym (e k) ∙ h.due.aside; mem = h.due.mem; unmarked = h.due.unmarked };
  least = none_same k s t w m e h.least;
}
