-- One block, written at all its places, and what is held of all of them then.
use Rattle.std.proofs.Common.{◌≡◌, ℕ, zero, suc, ◌+◌, ◌<◌, ◌≤◌, Bool, true, false, List, [], ◌∷◌, ◌++◌, length, get_or, set, refl, ap, sym, ◌∙◌, subst, inl, inr, arith, Option, Some, None}
use Rattle.std.specs.Prelude.{IsSome, is_some, slice_index_or}
use Rattle.std.proofs.lemmas.List.{get_or-set_other, get_or-set_same, get_or_append_left, get_or_past, get_or_push, length-set, length_push}
use Rattle.std.proofs.lemmas.Bool.{cases_eq}
use Rattle.small_facts.proofs.Numbers.{below_or_equal}
use Rattle.io_edge.specs.declared.edge.OpenFault.{OpenFault}
use Rattle.io_edge.specs.declared.edge.OpenFault.TheVariants.{Failed}
use Rattle.io_edge.specs.Content.{Content, Told, Untold, OnTold, told_bytes}
use Rattle.nd_shape.specs.Block.{Array}
use Rattle.nd_shape.specs.Region.{Box}
use Rattle.chunk_layout.specs.Layouts.{lengths, region}
use Rattle.cluster_msgs.specs.Labels.{BlockFits, LabelFacts}
use Rattle.npy_region.specs.Writing.{Turns}
use Rattle.saved_files.specs.Filling.{HoldsBox, IsFilling}
use Rattle.saved_files.specs.Saving.{ChangesAt, FillsMore, FillsPart, Saving, saving_at}
use Rattle.job_run.specs.declared.wanted.Wanted.{Wanted}
use Rattle.job_run.specs.Evaluating.{AreSameFiles, HasFailed}
use Rattle.job_run.specs.Filling.{keys_at, layout_at}
use Rattle.job_run.proofs.Filling.{changes-none}
use Rattle.job_run.proofs.SavingSteps.{same-files, same-then}
use Rattle.thread_run.specs.Saver.{AreSaved, AreSavedKeys, HasBoxes, IsAmong, IsMadeOf, Saves, SavesOn, had_in}
use Rattle.thread_run.specs.Writes.{HasMore, Marks, StandsAt, Writes, WritesAll, WritesAt, WrittenBelow}

-- ## Faults

abbrev pub MayFail : Type 0
MayFail = Option OpenFault

pub some-none : (f : OpenFault) → ◌≡◌ {A = MayFail} (Some f) None → ⊥
some-none f e = cc

pub is-none : (o : MayFail) → is_some o ≡ false → o ≡ None
is-none None never = refl
is-none (Some f) never = absurd cc

none-some : (o : MayFail) → IsSome o → o ≡ None → ⊥
none-some None some none = absurd cc
none-some (Some f) some none = some-none f none

-- where a fault stays one, there was none before
none-before : (m n : MayFail) → (IsSome m → n ≡ m) → n ≡ None → m ≡ None
none-before None n stays e = refl
none-before (Some f) n stays e = absurd (some-none f (sym (stays refl) ∙ e))

-- ## Boxes

none : Box
none = record { start = []; lengths = [] }

among-more : (boxes : List Box) (new box : Box) → IsAmong boxes box → IsAmong (boxes ++ new ∷ []) box
unfolding none
among-more boxes new box m = record {
  place = m.place;
  there = omega (arith, m.there, length_push boxes new);
  is = get_or_append_left boxes (new ∷ []) none m.place m.there ∙ m.is;
}

among-new : (boxes : List Box) (box : Box) → IsAmong (boxes ++ box ∷ []) box
unfolding none
among-new boxes box = record { place = length boxes; there = omega (arith, length_push boxes box); is = get_or_push boxes box none (length boxes) refl }

-- ## The file of one save

-- what follows of two contents of which the one turned into the other
turns-as : (R S : List ℕ → List ℕ → Type 0) (old new : Content) → ((x y : List ℕ) → R x y → S x y) → Turns R old new → Turns S old new
turns-as R S (Told x) (Told y) f t = f x y t
turns-as R S (Told x) (Untold size) f t = absurd t
turns-as R S (Untold size) (Told y) f t = absurd t
turns-as R S (Untold size) (Untold now) f t = t

turns-self : (R : List ℕ → List ℕ → Type 0) (c : Content) → ((x : List ℕ) → R x x) → Turns R c c
turns-self R (Told x) f = f x
turns-self R (Untold size) f = refl

turns-told : (R : List ℕ → List ℕ → Type 0) (old new : Content) → Turns R old new → IsSome (told_bytes old) → IsSome (told_bytes new)
turns-told R (Told x) (Told y) t some = refl
turns-told R (Told x) (Untold size) t some = absurd t
turns-told R (Untold size) new t some = absurd cc

module _ (facts : LabelFacts Array) (layout : List (List ℕ)) (keys : List ℕ) (key : ℕ) where
  abbrev Turn : MayFail → List ℕ → List ℕ → Type 0
  Turn fault = λ before after. (a : Array) (boxes : List Box) → IsMadeOf facts layout keys a → IsFilling a boxes before → HasMore layout keys key fault a boxes after

  writes-told : (fault : MayFail) (old new : Content) → Writes facts layout keys key fault old new → IsSome (told_bytes old) → IsSome (told_bytes new)
  writes-told fault old new w = turns-told (Turn fault) old new w.turns

  -- nothing is written
  pub writes-none : (fault : MayFail) (c : Content) → (fault ≡ None → (n : ℕ) → n < length keys → slice_index_or keys n 0 ≡ key → ⊥) → Writes facts layout keys key fault c c
  writes-none fault c never = record {
    turns = turns-self (Turn fault) c (λ x a boxes made filling. record { boxes = boxes; filling = filling; still = λ e box m. m; here = λ e n lt is. absurd (never e n lt is) });
  }

  -- a block is, or a part of it
  writes-box : (fault : MayFail) (number : ℕ) (block : Array) (dims : List ℕ) (old new : Content) → dims ≡ lengths layout → number < length keys → slice_index_or keys number 0 ≡ key → StandsAt keys key number → BlockFits facts key block →
      (fault ≡ None → Turns (λ before after. (a : Array) (boxes : List Box) → a.shape ≡ dims → IsFilling a boxes before → HoldsBox a (region layout number) block → IsFilling a (boxes ++ region layout number ∷ []) after) old new) →
      (IsSome fault → Turns (λ before after. (a : Array) (boxes : List Box) → a.shape ≡ dims → IsFilling a boxes before → HoldsBox a (region layout number) block → IsFilling a boxes after) old new) →
      Writes facts layout keys key fault old new
  writes-box None number block dims old new same lt is stands fits more part =
      let box : Box = region layout number in
      let R : List ℕ → List ℕ → Type 0 = λ before after. (a : Array) (boxes : List Box) → a.shape ≡ dims → IsFilling a boxes before → HoldsBox a box block → IsFilling a (boxes ++ box ∷ []) after in
      record {
        turns = turns-as R (Turn None) old new (λ x y t a boxes made filling. record {
          boxes = boxes ++ box ∷ [];
          filling = t a boxes (made.lengths_are.shape ∙ sym same) filling (made.each number block lt (subst (λ k. BlockFits facts k block) (sym is) fits));
          still = λ e b m. among-more boxes box b m;
          here = λ e c lc at. subst (λ n. IsAmong (boxes ++ box ∷ []) (region layout n)) (sym (stands c lc at)) (among-new boxes box);
        }) (more refl);
      }
  writes-box (Some f) number block dims old new same lt is stands fits more part =
      let box : Box = region layout number in
      let R : List ℕ → List ℕ → Type 0 = λ before after. (a : Array) (boxes : List Box) → a.shape ≡ dims → IsFilling a boxes before → HoldsBox a box block → IsFilling a boxes after in
      record {
        turns = turns-as R (Turn (Some f)) old new (λ x y t a boxes made filling. record {
          boxes = boxes;
          filling = t a boxes (made.lengths_are.shape ∙ sym same) filling (made.each number block lt (subst (λ k. BlockFits facts k block) (sym is) fits));
          still = λ e. absurd (some-none f e);
          here = λ e. absurd (some-none f e);
        }) (part refl);
      }

  -- something fails later
  writes-later : (m n : MayFail) (old new : Content) → (n ≡ None → m ≡ None) → Writes facts layout keys key m old new → Writes facts layout keys key n old new
  writes-later m n old new f w = record {
    turns = turns-as (Turn m) (Turn n) old new (λ x y t a boxes made filling.
        let more = t a boxes made filling in
        record { boxes = more.boxes; filling = more.filling; still = λ e. more.still (f e); here = λ e. more.here (f e) }) w.turns;
  }

  -- ## The file at a place

  -- something had failed
  pub at-stopped : (place : ℕ) (before : MayFail) (files : List Saving) → is_some before ≡ true → WritesAt facts layout keys key place before before files files
  at-stopped place before files some = record {
    changes = changes-none place files;
    writes = writes-none before (saving_at files place).content (λ e. absurd (none-some before some e));
    stays = λ s. (refl, refl);
    failed = λ e. absurd (none-some before some e);
  }

  -- the key doesn't stand there
  pub at-none : (place number : ℕ) (before : MayFail) (files : List Saving) → before ≡ None → StandsAt keys key number → (number < length keys → slice_index_or keys number 0 ≡ key → ⊥) → WritesAt facts layout keys key place before None files files
  at-none place number before files sound stands never = record {
    changes = changes-none place files;
    writes = writes-none None (saving_at files place).content (λ e n lt is.
        let same : n ≡ number = stands n lt is in
        never (subst (λ i. i < length keys) same lt) (subst (λ i. slice_index_or keys i 0 ≡ key) same is));
    stays = λ s. absurd (none-some before s sound);
    failed = λ e f. absurd cc;
  }

  -- it does
  pub at-box : (place number : ℕ) (block : Array) (before after : MayFail) (old new : List Saving) → before ≡ None → (saving_at old place).dims ≡ lengths layout → number < length keys → slice_index_or keys number 0 ≡ key → StandsAt keys key number →
      BlockFits facts key block → ChangesAt place old new → (after ≡ None → FillsMore (region layout number) block (saving_at old place) (saving_at new place)) → (IsSome after → FillsPart (region layout number) block (saving_at old place) (saving_at new place)) →
      (after ≡ Some Failed → 0 < (saving_at new place).faults) → WritesAt facts layout keys key place before after old new
  at-box place number block before after old new sound dims lt is stands fits changes more part failed = record {
    changes = changes;
    writes = writes-box after number block (saving_at old place).dims (saving_at old place).content (saving_at new place).content dims lt is stands fits more part;
    stays = λ s. absurd (none-some before s sound);
    failed = λ e. failed;
  }

-- ## The files of all saves

item-at : {A : Type 0} (xs : List A) (k : ℕ) (x d : A) → k < length xs → x ≡ get_or xs k x → x ≡ get_or xs k d
item-at [] k x d lt e = absurd (omega (arith, lt))
item-at (y ∷ ys) zero x d lt e = e
item-at (y ∷ ys) (suc k) x d lt e = item-at ys k x d (omega (arith, lt)) e

-- the keys and the layout of the save at a place
pub record IsItem (w : Wanted) (place : ℕ) (keys : List ℕ) (layout : List (List ℕ)) : Type 0 where
  pub within : place < length w.saved
  pub keys_are : keys ≡ keys_at w.saved place
  pub layout_is : layout ≡ layout_at w.layouts place

pub item-of : (w : Wanted) (place : ℕ) (saved : List (List ℕ)) (layouts : List (List (List ℕ))) (item keys : List ℕ) (layout : List (List ℕ)) → saved ≡ w.saved → layouts ≡ w.layouts → length w.layouts ≡ length w.saved → place < length saved →
    item ≡ get_or saved place item → keys ≡ item → layout ≡ get_or layouts place layout → IsItem w place keys layout
item-of w place saved layouts item keys layout same all count lt is same-keys at = record {
  within = subst (λ (ss : List (List ℕ)). place < length ss) same lt;
  keys_are = same-keys ∙ (item-at saved place item [] lt is ∙ ap (λ (ss : List (List ℕ)). get_or ss place []) same);
  layout_is = item-at layouts place layout [] (omega (arith, lt, ap (λ (ss : List (List ℕ)). length ss) same, ap (λ (ls : List (List (List ℕ))). length ls) all, count)) at ∙ ap (λ (ls : List (List (List ℕ))). get_or ls place []) all;
}

changes-same : (place : ℕ) (old new : List Saving) → ChangesAt place old new → (IsSome (told_bytes (saving_at old place).content) → IsSome (told_bytes (saving_at new place).content)) → AreSameFiles old new
changes-same place old new c told = record {
  count = c.count;
  names = λ k h. elim (cases_eq k place) [
    | inl e ↦ subst (λ j. (saving_at new j).name ≡ (saving_at old j).name) (sym e) c.name_is
    | inr ne ↦ ap (λ (s : Saving). s.name) (c.others k ne)
  ];
  dims = λ k h. elim (cases_eq k place) [
    | inl e ↦ subst (λ j. (saving_at new j).dims ≡ (saving_at old j).dims) (sym e) c.dims_are
    | inr ne ↦ ap (λ (s : Saving). s.dims) (c.others k ne)
  ];
  told = λ k h. elim (cases_eq k place) [
    | inl e ↦ subst (λ j. IsSome (told_bytes (saving_at old j).content) → IsSome (told_bytes (saving_at new j).content)) (sym e) told
    | inr ne ↦ λ t. subst (λ (s : Saving). IsSome (told_bytes s.content)) (sym (c.others k ne)) t
  ];
}

failed-next : (place : ℕ) (m n : MayFail) (mid new : List Saving) → place < length new → (IsSome m → (n ≡ m) × (new ≡ mid)) → (m ≡ None → n ≡ Some Failed → 0 < (saving_at new place).faults) → (m ≡ Some Failed → HasFailed mid) → n ≡ Some Failed → HasFailed new
failed-next place None n mid new lt stays failed before e = record { place = place; there = lt; failed = failed refl e }
failed-next place (Some f) n mid new lt stays failed before e = let s = stays refl in subst HasFailed (sym s.1) (before (sym s.0 ∙ e))

module _ (facts : LabelFacts Array) (w : Wanted) (key : ℕ) where
  abbrev WritesIn : ℕ → MayFail → Content → Content → Type 0
  WritesIn k fault old new = Writes facts (layout_at w.layouts k) (keys_at w.saved k) key fault old new

  pub written-first : (before : MayFail) (files : List Saving) → WrittenBelow facts w key 0 before before files files
  written-first before files = record { same = same-files files; below = λ k h. absurd (omega (arith, h)); above = λ k h. refl; stays = λ s. (refl, refl); failed = λ h. h }

  pub written-next : (place : ℕ) (before m n : MayFail) (old mid new : List Saving) → place < length mid → WrittenBelow facts w key place before m old mid → WritesAt facts (layout_at w.layouts place) (keys_at w.saved place) key place m n mid new →
      WrittenBelow facts w key (place + 1) before n old new
  written-next place before m n old mid new there b at =
      let stays : IsSome m → n ≡ m = λ s. (at.stays s).0 in
      record {
        same = same-then old mid new b.same (changes-same place mid new at.changes (writes-told facts (layout_at w.layouts place) (keys_at w.saved place) key n (saving_at mid place).content (saving_at new place).content at.writes));
        below = λ k h lt. elim (below_or_equal k place h) [
          | inl a ↦ subst (λ (s : Saving). WritesIn k n (saving_at old k).content s.content) (sym (at.changes.others k (λ e. absurd (omega (arith, a, e)))))
              (writes-later facts (layout_at w.layouts k) (keys_at w.saved k) key m n (saving_at old k).content (saving_at mid k).content (none-before m n stays) (b.below k a lt))
          | inr e ↦ subst (λ j. WritesIn j n (saving_at old j).content (saving_at new j).content) e (subst (λ (s : Saving). WritesIn place n s.content (saving_at new place).content) (b.above place (omega arith)) at.writes)
        ];
        above = λ k h. at.changes.others k (λ e. absurd (omega (arith, h, e))) ∙ b.above k (omega (arith, h));
        stays = λ s.
            let first = b.stays s in
            let next = at.stays (subst IsSome (sym first.0) s) in
            (next.0 ∙ first.0, next.1 ∙ first.1);
        failed = λ h. failed-next place m n mid new (omega (arith, there, at.changes.count)) at.stays at.failed (b.failed h);
      }

  -- the same of an item of the two lists
  pub written-step : (place : ℕ) (before m n : MayFail) (old mid new : List Saving) (keys : List ℕ) (layout : List (List ℕ)) → IsItem w place keys layout → length old ≡ length w.saved → WrittenBelow facts w key place before m old mid →
      WritesAt facts layout keys key place m n mid new → WrittenBelow facts w key (place + 1) before n old new
  written-step place before m n old mid new keys layout item count b at =
      let A : List ℕ → List (List ℕ) → Type 0 = λ ks l. WritesAt facts l ks key place m n mid new in
      let here : A (keys_at w.saved place) (layout_at w.layouts place) = subst (λ l. A (keys_at w.saved place) l) item.layout_is (subst (λ ks. A ks layout) item.keys_are at) in
      written-next place before m n old mid new (omega (arith, item.within, count, b.same.count)) b here

  pub written-all : (place : ℕ) (before after : MayFail) (old new : List Saving) → length old ≤ place → WrittenBelow facts w key place before after old new → WritesAll facts w key before after old new
  written-all place before after old new h b = record { same = b.same; each = λ k lt. b.below k (omega (arith, h, lt)) lt; stays = b.stays; failed = b.failed }

  -- the key stands nowhere
  pub all-none : (before : MayFail) (files : List Saving) → ((k : ℕ) → k < length files → (n : ℕ) → n < length (keys_at w.saved k) → slice_index_or (keys_at w.saved k) n 0 ≡ key → ⊥) → WritesAll facts w key before before files files
  all-none before files never = record {
    same = same-files files;
    each = λ k lt. writes-none facts (layout_at w.layouts k) (keys_at w.saved k) key before (saving_at files k).content (λ e. never k lt);
    stays = λ s. (refl, refl);
    failed = λ h. h;
  }

  -- ## The number of a key

  some-is : (m n : ℕ) → Some m ≡ Some n → m ≡ n
  some-is m n e = cc

  module _ (result : Option ℕ) (names : List (Option (ℕ × ℕ))) (same : names ≡ w.names) (known : AreSavedKeys facts w) (told : (node number : ℕ) → slice_index_or names key None ≡ Some (node, number) → result ≡ Some number) where
    number-told : (k c : ℕ) → k < length w.saved → c < length (keys_at w.saved k) → slice_index_or (keys_at w.saved k) c 0 ≡ key → result ≡ Some c
    number-told k c lk lc is =
        let n = known.named k c lk lc in
        told n.node c (ap (λ (ns : List (Option (ℕ × ℕ))). slice_index_or ns key None) same ∙ (ap (λ j. slice_index_or w.names j None) (sym is) ∙ n.name_is))

    pub stands-there : (number : ℕ) → result ≡ Some number → (k : ℕ) → k < length w.saved → StandsAt (keys_at w.saved k) key number
    stands-there number e k lk c lc is = some-is c number (sym (number-told k c lk lc is) ∙ e)

    pub stands-nowhere : result ≡ None → (k : ℕ) → k < length w.saved → (c : ℕ) → c < length (keys_at w.saved k) → slice_index_or (keys_at w.saved k) c 0 ≡ key → ⊥
    stands-nowhere e k lk c lc is = let both : None ≡ Some c = sym e ∙ number-told k c lk lc is in cc

-- ## The keys that were had

pub marks-in : (key : ℕ) (old : List Bool) → key < length old → Marks key old (set old key true)
marks-in key old lt = record {
  count = length-set old key true;
  here = get_or-set_same old key true true lt;
  others = λ k ne. get_or-set_other old key k true true ne;
}

pub marks-past : (key : ℕ) (old : List Bool) → length old ≤ key → Marks key old old
marks-past key old le = record { count = refl; here = get_or_past old key true le; others = λ k ne. refl }

-- ## All that is held

module _ (facts : LabelFacts Array) (w : Wanted) (key : ℕ) (files now : List Saving) (had after : List Bool) (fault later : MayFail) where
  abbrev Before : Saves
  Before = record { files = files; had = had; fault = fault; wanted = w }

  abbrev After : Saves
  After = record { files = now; had = after; fault = later; wanted = w }

  filled-more : (layout : List (List ℕ)) (keys : List ℕ) (old new : Content) → (later ≡ None → fault ≡ None) → Marks key had after → Writes facts layout keys key later old new →
      OnTold old (λ bytes. (a : Array) → IsMadeOf facts layout keys a → HasBoxes layout keys had fault a bytes) → OnTold new (λ bytes. (a : Array) → IsMadeOf facts layout keys a → HasBoxes layout keys after later a bytes)
  filled-more layout keys (Told x) (Told y) sound marks writes filled = λ a made.
      let h = filled a made in
      let more = writes.turns a h.boxes made h.filling in
      record {
        boxes = more.boxes;
        filling = more.filling;
        all = λ e c lc was. elim (cases_eq (slice_index_or keys c 0) key) [
          | inl is ↦ more.here e c lc is
          | inr ne ↦ more.still e (region layout c) (h.all (sound e) c lc (sym (marks.others (slice_index_or keys c 0) ne) ∙ was))
        ];
      }
  filled-more layout keys (Told x) (Untold size) sound marks writes filled = absurd writes.turns
  filled-more layout keys (Untold size) (Told y) sound marks writes filled = absurd writes.turns
  filled-more layout keys (Untold size) (Untold now') sound marks writes filled = tt

  pub put-saved : (block : Array) → AreSaved facts Before → WritesAll facts w key fault later files now → Marks key had after → BlockFits facts key block → AreSaved facts After
  put-saved block s all marks fits = record {
    keys_are = s.keys_are;
    small = λ k c lk lc. omega (arith, s.small k c lk lc, marks.count);
    count = all.same.count ∙ s.count;
    dims = λ k lt. let l : k < length files = omega (arith, lt, all.same.count) in all.same.dims k l ∙ s.dims k l;
    fit = λ j lj e. elim (cases_eq j key) [
      | inl is ↦ record { block = block; fits = subst (λ i. BlockFits facts i block) (sym is) fits }
      | inr ne ↦ s.fit j (omega (arith, lj, marks.count)) (sym (marks.others j ne) ∙ e)
    ];
    filled = λ k lt.
        let l : k < length files = omega (arith, lt, all.same.count) in
        filled-more (layout_at w.layouts k) (keys_at w.saved k) (saving_at files k).content (saving_at now k).content (none-before fault later (λ s. (all.stays s).0)) marks (all.each k l) (s.filled k l);
    failed = all.failed s.failed;
  }

  pub put-on : WritesAll facts w key fault later files now → Marks key had after → SavesOn Before After
  put-on all marks = record {
    wanted_is = refl;
    same = all.same;
    keys_are = marks.count;
    had_still = λ j e. elim (cases_eq j key) [
      | inl is ↦ subst (λ i. had_in after i ≡ true) (sym is) marks.here
      | inr ne ↦ marks.others j ne ∙ e
    ];
    failed_still = all.stays;
  }
