-- The parts of a table at first, and after touched keys were forgotten.
use Rattle.std.proofs.Common.{◌≡◌, ℕ, ◌<◌, Bool, true, false, ◌&&◌, cond, not, nat_lt, List, [], ◌∷◌, length, None, is_none, refl, sym, ap, ◌∙◌, subst, arith, ⊎_elim}
use Rattle.std.proofs.lemmas.Bool.{false≢true, cases_lt, lt-ltb, le-ltb}
use Rattle.std.specs.List.{list_any}
use Rattle.cluster_rules.specs.Functions.{from_one}
use Rattle.cluster_rules.specs.Sched.{Facts, IsSound, keys, wanted, held, known, erred, ready, fed, open_key, sched_opening}
use Rattle.cluster_rules.proofs.NothingLemmas.{need-nowhere, held-nowhere, erred-nowhere}
use Rattle.cluster_rules.proofs.SchedLemmas.{known-past, erred-past, ready-past}
use Rattle.fact_rows.specs.Rows.{read}
use Rattle.standing.specs.Links.{IsReverse}
use Rattle.key_sets.specs.Sets.{has, room}
use Rattle.spread_flags.specs.Spread.{Spread, seed, flag, size}
use Rattle.task_table.specs.Tasks.{Tasks, IsRemembered, is_root, queued_root, queued_other}
use Rattle.task_table.specs.Standing.{IsOver, IsSeededWhole, IsStanding, IsQuiet, IsBlank}
use Rattle.task_table.specs.Parts.{IsParts, IsRoomy, IsEmpty}
use Rattle.task_table.specs.declared.levels.Levels.{Levels}
use Rattle.task_table.specs.declared.parts.Parts.{Parts}

none_of : (xs : List ℕ) → list_any (λ c. false) xs ≡ false
none_of [] = refl
none_of (x ∷ xs) = none_of xs

wanted_nowhere : (f : Facts) → ((c k : ℕ) → f.want c k ≡ false) → (k : ℕ) → wanted f k ≡ false
unfolding wanted
wanted_nowhere f e k = ap (λ (p : ℕ → Bool). list_any p (from_one f.setting.clients)) (λ i c. e c k i) ∙ none_of (from_one f.setting.clients)

ready_nowhere : (f : Facts) → ((c k : ℕ) → f.want c k ≡ false) → (k : ℕ) → ready f k ≡ false
unfolding ready
ready_nowhere f e k = ap (λ t. (t && open_key f k) && fed f k) (need-nowhere f e k)

pub blank_whole : (g : Facts) (l : Levels) (m : Spread) → g ≡ sched_opening g.setting → IsOver g.setting.shape l → IsBlank l → m.links ≡ l.missing.links → ((k : ℕ) → k < size l.missing → seed m k ≡ true) → m.gates ≡ l.missing.gates → IsSeededWhole g (record { known = l.known; erred = l.erred; waiting = l.waiting; missing = m })
blank_whole g l m e o b links seeds gates = record {
  over = record {
    known = o.known;
    erred = o.erred;
    waiting = o.waiting;
    missing = subst (λ (ls : List (List ℕ)). IsReverse g.setting.shape ls) (sym links) o.missing;
  };
  seeded = λ k n. record {
    known_seed = b.known.seeds k ∙ sym (wanted_nowhere g want k);
    known_gate = b.known.gates k (low l.known k n (ap length o.known));
    erred_seed = b.erred.seeds k ∙ sym (ap (λ (f : Facts). f.bad k) e);
    erred_gate = b.erred.gates k (low l.erred k n o.erred.same) ∙ sym (ap not (held-nowhere g has_none k));
    waiting_seed = b.waiting.seeds k ∙ sym (wanted_nowhere g want k);
    waiting_gate = b.waiting.gates k (low l.waiting k n (ap length o.waiting)) ∙ sym (λ i. not (held-nowhere g has_none k i) && not (b.erred.flags k i));
    missing_seed = seeds k (low l.missing k n o.missing.same);
    missing_gate = ap (λ r. read r false k) gates ∙ b.missing.gates k (low l.missing k n o.missing.same) ∙ sym (ap not (held-nowhere g has_none k));
  };
}
  where
    want : (c k : ℕ) → g.want c k ≡ false
    want c k = ap (λ (f : Facts). f.want c k) e

    has_none : (w k : ℕ) → g.has w k ≡ None
    has_none w k = ap (λ (f : Facts). f.has w k) e

    low : (s : Spread) (k : ℕ) → k < keys g → length s.links ≡ keys g → k < size s
    low s k n q = subst (λ (x : ℕ). k < x) (sym q) n

pub begun : (g : Facts) (p : Parts) (l : Levels) → g ≡ sched_opening g.setting → IsRoomy (keys g) p → IsEmpty p → IsStanding g l → IsQuiet l → IsParts g (record { levels = l; queues = p.queues; marks = p.marks; touched = p.touched })
begun g p l e r m s q = record {
  standing = s;
  quiet = q;
  roomy = record { queues = r.queues; marks = r.marks; touched = r.touched; unmarked = r.unmarked; within = r.within; few_roots = r.few_roots; few_others = r.few_others };
  roots = λ k n. m.roots k ∙ sym (ap (λ t. (t && is_none (g.on k)) && is_root g k) (ready_nowhere g (λ c j. ap (λ (f : Facts). f.want c j) e) k));
  others = λ k n. m.others k ∙ sym (ap (λ t. (t && is_none (g.on k)) && not (is_root g k)) (ready_nowhere g (λ c j. ap (λ (f : Facts). f.want c j) e) k));
}

pub remembered_first : (g : Facts) (t : Tasks) → g ≡ sched_opening g.setting → ((k : ℕ) → has t.touched k ≡ false) → ((k : ℕ) → has t.held_before k ≡ false) → ((k : ℕ) → has t.erred_before k ≡ false) → IsRemembered g t
remembered_first g t e a b c = record {
  within = λ k h. absurd (false≢true (sym (a k) ∙ h));
  held = λ k n u. b k ∙ sym (held-nowhere g (λ w j. ap (λ (f : Facts). f.has w j) e) k);
  erred = λ k n u. c k ∙ sym (erred-nowhere g (λ j. ap (λ (f : Facts). f.bad j) e) k);
}

-- after touched keys were forgotten
pub parts_cleared : (f : Facts) (p : Parts) (ts : List ℕ) → IsParts f p → ((k : ℕ) → has ts k ≡ false) → room ts ≡ room p.touched → IsParts f (record { levels = p.levels; queues = p.queues; marks = p.marks; touched = ts })
parts_cleared f p ts h e r = record {
  standing = h.standing;
  quiet = h.quiet;
  roomy = record {
    queues = h.roomy.queues;
    marks = h.roomy.marks;
    touched = omega (arith, r, h.roomy.touched);
    unmarked = h.roomy.unmarked;
    within = λ k m. absurd (false≢true (sym (e k) ∙ m));
    few_roots = h.roomy.few_roots;
    few_others = h.roomy.few_others;
  };
  roots = h.roots;
  others = h.others;
}

pub remembered_now : (f : Facts) (s t : Tasks) (erred_flags : ℕ → Bool) → IsRemembered f s → ((k : ℕ) → k < keys f → erred_flags k ≡ erred f k) → ((k : ℕ) → has t.held_before k ≡ cond (has s.touched k) (held f k) (has s.held_before k)) → ((k : ℕ) → has t.erred_before k ≡ cond (has s.touched k) (erred_flags k) (has s.erred_before k)) → ((k : ℕ) → has t.touched k ≡ false) → IsRemembered f t
remembered_now f s t p r e a b n = record {
  within = λ k h. absurd (false≢true (sym (n k) ∙ h));
  held = λ k l u. a k ∙ either (has s.touched k) (held f k) (has s.held_before k) (held f k) (λ h. refl) (λ h. r.held k l h);
  erred = λ k l u. b k ∙ either (has s.touched k) (p k) (has s.erred_before k) (erred f k) (λ h. e k l) (λ h. r.erred k l h);
}
  where
    either : (c x y z : Bool) → (c ≡ true → x ≡ z) → (c ≡ false → y ≡ z) → cond c x y ≡ z
    either true x y z h i = h refl
    either false x y z h i = i refl

-- questions of any number
pub known_there : (f : Facts) (l : Levels) (k : ℕ) → IsSound f → IsStanding f l → (nat_lt k (keys f) && flag l.known k) ≡ known f k
known_there f l k s t = ⊎_elim (λ a. ap (λ b. b && flag l.known k) (lt-ltb k (keys f) a) ∙ (t.derived k a).known) (λ a. ap (λ b. b && flag l.known k) (le-ltb k (keys f) a) ∙ sym (known-past f s k a)) (cases_lt k (keys f))

pub erred_there : (f : Facts) (l : Levels) (k : ℕ) → IsSound f → IsStanding f l → (nat_lt k (keys f) && flag l.erred k) ≡ erred f k
erred_there f l k s t = ⊎_elim (λ a. ap (λ b. b && flag l.erred k) (lt-ltb k (keys f) a) ∙ (t.derived k a).erred) (λ a. ap (λ b. b && flag l.erred k) (le-ltb k (keys f) a) ∙ sym (erred-past f s k a)) (cases_lt k (keys f))

pub roots_all : (f : Facts) (p : Parts) → IsSound f → IsParts f p → (k : ℕ) → has p.queues.roots k ≡ queued_root f k
roots_all f p s h k = ⊎_elim (λ a. h.roots k a) (λ a. h.roomy.few_roots k a ∙ sym (ap (λ t. (t && is_none (f.on k)) && is_root f k) (ready-past f s k a))) (cases_lt k (keys f))

pub others_all : (f : Facts) (p : Parts) → IsSound f → IsParts f p → (k : ℕ) → has p.queues.others k ≡ queued_other f k
others_all f p s h k = ⊎_elim (λ a. h.others k a) (λ a. h.roomy.few_others k a ∙ sym (ap (λ t. (t && is_none (f.on k)) && not (is_root f k)) (ready-past f s k a))) (cases_lt k (keys f))
