-- Each step of a cell keeps its rule.
use Rattle.std.proofs.Common.{◌≡◌, ℕ, zero, suc, ◌+◌, ◌%◌, ◌^◌, ◌<◌, ◌==◌, inl, inr, List, [], ◌∷◌, ◌++◌, length, drop, set, sym, refl, ap, ◌∙◌, subst, ⊎_elim, arith, Option, Some, None, Bool, false, slice_index, slice_set}
use mathlib.Core.Option.{some, none, some-injective, some-ne-none}
use lib.ListN.{get_elem?}
use prog.Atomic.{either}
use Rattle.std.proofs.Math.Seq.{drop-append_seam}
use Rattle.std.proofs.lemmas.List.{append-nil}
use Rattle.std.proofs.Common.{length-append, mod-eq_of_lt}
use Rattle.atomic_table.specs.Table.{homes_after}
use Rattle.atomic_table.specs.Table.{State, Me, Step, Act, takes, gives, keeps, Valid, stepped, carried_after, Allows}
use mathlib.Core.Logic.{dite}
use native.Mathlib.Decide.{ℕ_discrete}
use Rattle.atomic_table.proofs.Lists.{set_again}
use Rattle.cluster_msgs.specs.declared.events.Entry.{Entry}
use Rattle.turn_cell.specs.declared.rule.View.{View}
use Rattle.turn_cell.specs.declared.rule.Start.{Start}
use Rattle.turn_cell.specs.Histories.{StartsWith, weigh, Ascending, Replays}
use Rattle.turn_cell.specs.Turns.{WasTaken, total_of, spent, with_turn, held, IsReplay, IsLive, Knows, All, AtHome, IsOut, TurnRule, IsShown, took, looked, read, grown, counted, gave}
use Rattle.turn_cell.proofs.Sums.{two_at, total_set, all_set, weigh-append, starts_longer, starts_light, replays_snoc}

module _ {S C : Type 0} (entries : S → List Entry) (core : S → C) (cut : S → Bool) (steps : C → Entry → C → Type 0) where
  abbrev St : Type 0
  St = State (Option S) (View S)

  abbrev Mine : Type 0
  Mine = Me (Option S) (View S)

  abbrev Rule : Start S → St → Type 0
  Rule = TurnRule entries core cut steps

  -- how a step goes on
  abbrev Next : Start S → ℕ → Mine → ℕ → (ℕ → ℕ) → (ℕ → Mine → Type 0) → St → Type 0
  Next key id me i f then s = (w : View S) × (a : Act (Option S)) × Valid s.homes me.1 a × Rule key (stepped s i (f (slice_index s.words i)) id me.1 w a) × then (slice_index s.words i) (w, carried_after me.1 a)

  pub live : (start : S) (total : ℕ) (log : List Entry) (v : View S) → 0 < v.parts → Knows entries core cut steps start total log v → IsLive entries core cut steps start total log v
  live start total log v pos k = ⊎_elim (λ e. absurd (let z : v.parts ≡ 0 = ap (λ (u : View S). u.parts) e in omega arith)) (λ l. l) k

  abbrev once_taken : ℕ → ℕ
  once_taken n = either (n == 0) 1 n

  -- where a view changes in nothing that the sums read
  same_sum : (f : View S → ℕ) (views : List (View S)) (id : ℕ) (v w : View S) (n : ℕ) → get_elem? views id ≡ some v → f w ≡ f v → total_of f views ≡ n → total_of f (set views id w) ≡ n
  same_sum f views id v w n at e t = let s = total_set f views id v w at in omega arith

  pub here : (views : List (View S)) (id : ℕ) (v w : View S) → get_elem? views id ≡ some v → get_elem? (set views id w) id ≡ some w
  here [] id v w e = absurd (some-ne-none v (sym e))
  here (x ∷ xs) zero v w e = refl
  here (x ∷ xs) (suc id) v w e = here xs id v w e

  take_home : (key : Start S) (id : ℕ) (me : Mine) (sp : Step (Option S)) (s : St) → 0 < me.0.parts → (h : Rule key s) → AtHome entries core cut steps key.state.value h.log s → get_elem? s.views id ≡ some me.0
      → Next key id me 0 once_taken (took entries core cut steps sp me) s
  take_home key id me sp s pos h p at =
      let x : S = p.state in let w : View S = with_turn me.0 (Some x) in let start : S = key.state.value in
      let l = live start key.parts h.log me.0 pos (h.knows id me.0 at) in
      let zero_found : slice_index s.words 0 ≡ 0 = ap (λ ws. slice_index ws 0) p.words in
      let F : List Entry → Type 0 = λ es. StartsWith es me.0.seen × (cut x ≡ false → Replays steps (core start) es (core x)) × Ascending es in
      let f : F (entries x) = subst F (sym p.replay.0) (l.seen, p.replay.1, h.ascending) in
      let shown : IsShown entries core cut steps me.0.start me.0.seen x = record { from = start; from_is = l.start_is; later = f.0; replay = f.1; ascending = f.2 } in (
        w,
        takes 0 (Some x),
        ap (λ hs. get_elem? hs 0) p.homes,
        record {
          log = h.log;
          ascending = h.ascending;
          placed = inr (record {
            state = x;
            holder = id;
            words = ap (λ ws. slice_set ws 0 (once_taken (slice_index ws 0))) p.words;
            homes = ap (λ hs. slice_set hs 0 none) p.homes;
            replay = p.replay;
            noted = (w, here s.views id me.0 w at, refl);
            nobody_else = all_set (λ j u. ¬ (j ≡ id) → u.out ≡ None) s.views id w (λ n. absurd (n refl)) (λ j u n e _. p.nobody j u e);
          });
          knows = all_set (λ _ u. Knows entries core cut steps start key.parts h.log u) s.views id w (inr (record { some_part = l.some_part; start_is = l.start_is; total_is = l.total_is; seen = l.seen; among = l.among })) (λ j u n e. h.knows j u e);
          parts = same_sum (λ v. v.parts) s.views id me.0 w key.parts at refl h.parts;
          once = λ g. same_sum (λ v. weigh g v.mine) s.views id me.0 w (weigh g h.log) at refl (h.once g);
        },
        ((λ _. (x, refl, shown)), (λ n. absurd (n zero_found))),
      )

  take_out : (key : Start S) (id : ℕ) (me : Mine) (sp : Step (Option S)) (s : St) → 0 < me.0.parts → (h : Rule key s) → IsOut entries core cut steps key.state.value h.log s → get_elem? s.views id ≡ some me.0
      → Next key id me 0 once_taken (took entries core cut steps sp me) s
  take_out key id me sp s pos h p at =
      let start : S = key.state.value in let l = live start key.parts h.log me.0 pos (h.knows id me.0 at) in
      let seen : StartsWith (entries p.state) me.0.seen = subst (λ es. StartsWith es me.0.seen) (sym p.replay.0) l.seen in
      let one_found : slice_index s.words 0 ≡ 1 = ap (λ ws. slice_index ws 0) p.words in
      let same : set s.views id me.0 ≡ s.views = set_again s.views id me.0 at in
      let words : slice_set s.words 0 (once_taken (slice_index s.words 0)) ≡ s.words = ap (λ ws. slice_set ws 0 (once_taken (slice_index ws 0))) p.words ∙ sym p.words in
      let st : stepped s 0 (once_taken (slice_index s.words 0)) id me.1 me.0 keeps ≡ s = λ i. record { words = words i; homes = s.homes; views = same i } in (
        me.0,
        keeps,
        tt,
        subst (Rule key) (sym st) h,
        ((λ z. absurd (let o : 1 ≡ 0 = sym one_found ∙ z in omega arith)), (λ n. (refl, record { key = key; id = id; moment = s; rule = h; here = at; out = p; later = seen }))),
      )

  pub takes_turn : (key : Start S) (slots id : ℕ) (me : Mine) (sp : Step (Option S)) → 0 < me.0.parts → Allows (Rule key) slots id me 0 once_taken (took entries core cut steps sp me)
  takes_turn key slots id me sp pos s h long at small = ⊎_elim (λ p. take_home key id me sp s pos h p at) (λ p. take_out key id me sp s pos h p at) h.placed

  -- the pass that holds the turn: the state is out, and is the one that it notes
  record Held (key : Start S) (log : List Entry) (s : St) (id : ℕ) (x : S) : Type 0 where
    words : s.words ≡ 1 ∷ length log ∷ []
    homes : s.homes ≡ none ∷ []
    replay : IsReplay entries core cut steps key.state.value log x
    nobody_else : All entries core cut steps (λ j v. ¬ (j ≡ id) → v.out ≡ None) s.views

  pub not_none : (x : S) → Some x ≡ None → ⊥
  not_none x e = cc

  -- a pass that was told that the turn is taken hasn't all parts: another has it
  pub shared : (v : View S) → WasTaken entries core cut steps v → v.out ≡ None → 0 < v.parts → v.parts < v.total
  shared v t idle pos =
      let h = t.rule in let k = t.key in let l = live k.state.value k.parts h.log v pos (h.knows t.id v t.here) in
      let u : View S = t.out.noted.0 in let at : get_elem? t.moment.views t.out.holder ≡ some u = t.out.noted.1 in
      let another : ¬ (t.out.holder ≡ t.id) = λ e. not_none t.out.state (sym t.out.noted.2 ∙ ap (λ (y : View S). y.out) (some-injective u v (sym at ∙ ap (get_elem? t.moment.views) e ∙ t.here)) ∙ idle) in
      let its = ⊎_elim (λ (e : u ≡ spent). absurd (not_none t.out.state (sym t.out.noted.2 ∙ ap (λ (y : View S). y.out) e)))
      (λ (m : IsLive entries core cut steps k.state.value k.parts h.log u). m) (h.knows t.out.holder u at) in
      let a = two_at (λ (y : View S). y.parts) t.moment.views t.id t.out.holder v u t.here at another in
      let b = its.some_part in let c = h.parts in let d = l.total_is in omega arith

  some_or : S → Option S → S
  some_or d None = d
  some_or d (Some x) = x

  pub same_some : (x y : S) → Some x ≡ Some y → x ≡ y
  unfolding some_or
  same_some x y e = ap (some_or x) e

  holds_it : (key : Start S) (id : ℕ) (v : View S) (x : S) (s : St) → (h : Rule key s) → get_elem? s.views id ≡ some v → v.out ≡ Some x → Held key h.log s id x
  holds_it key id v x s h at o = ⊎_elim
      (λ (p : AtHome entries core cut steps key.state.value h.log s). absurd (not_none x (sym o ∙ p.nobody id v at)))
      (λ (p : IsOut entries core cut steps key.state.value h.log s). dite (ℕ_discrete id p.holder)
      (λ e.
      let same : v ≡ p.noted.0 = some-injective v p.noted.0 (sym at ∙ ap (get_elem? s.views) e ∙ p.noted.1) in
      let is : p.state ≡ x = same_some p.state x (sym p.noted.2 ∙ ap (λ (u : View S). u.out) (sym same) ∙ o) in
      record {
        words = p.words;
        homes = p.homes;
        replay = subst (IsReplay entries core cut steps key.state.value h.log) is p.replay;
        nobody_else = λ j u w n. p.nobody_else j u w (λ q. n (q ∙ sym e));
      })
      (λ n. absurd (not_none x (sym o ∙ p.nobody_else id v at n))))
      h.placed

  -- what a step of the pass that holds the turn leaves, where the history becomes `log`
  holds_on : (key : Start S) (id : ℕ) (v w : View S) (x y : S) (s t : St) (h : Rule key s) (log : List Entry) → 0 < v.parts → get_elem? s.views id ≡ some v → v.out ≡ Some x → w.out ≡ Some y → w.parts ≡ v.parts → w.start ≡ v.start → w.total ≡ v.total
      → t.words ≡ 1 ∷ length log ∷ [] → t.homes ≡ none ∷ [] → t.views ≡ set s.views id w
      → Ascending log → IsReplay entries core cut steps key.state.value log y → StartsWith log w.seen → ((g : Entry → ℕ) → weigh g w.seen ≡ 0 → weigh g w.mine ≡ 0)
      → ((seen : List Entry) → StartsWith h.log seen → StartsWith log seen) → ((g : Entry → ℕ) → weigh g log + weigh g v.mine ≡ weigh g h.log + weigh g w.mine)
      → Rule key t
  holds_on key id v w x y s t h log pos at o o' same_parts same_start same_total words homes views up replay seen among grows weighs =
      let q = holds_it key id v x s h at o in let start : S = key.state.value in let l = live start key.parts h.log v pos (h.knows id v at) in
      let back : (F : List (View S) → Type 0) → F (set s.views id w) → F t.views = λ F f. subst F (sym views) f in
      record {
        log = log;
        ascending = up;
        placed = inr (record {
          state = y;
          holder = id;
          words = words;
          homes = homes;
          replay = replay;
          noted = (w, ap (λ vs. get_elem? vs id) views ∙ here s.views id v w at, o');
          nobody_else = back (All entries core cut steps (λ j u. ¬ (j ≡ id) → u.out ≡ None)) (all_set (λ j u. ¬ (j ≡ id) → u.out ≡ None) s.views id w (λ n. absurd (n refl)) (λ j u n e m. q.nobody_else j u e m));
        });
        knows = back (All entries core cut steps (λ _ u. Knows entries core cut steps start key.parts log u))
            (all_set (λ _ u. Knows entries core cut steps start key.parts log u) s.views id w
            (inr (record { some_part = omega arith; start_is = same_start ∙ l.start_is; total_is = same_total ∙ l.total_is; seen = seen; among = among }))
            (λ j u n e. ⊎_elim inl (λ (k : IsLive entries core cut steps start key.parts h.log u). inr (record { some_part = k.some_part; start_is = k.start_is; total_is = k.total_is; seen = grows u.seen k.seen; among = k.among })) (h.knows j u e)));
        parts = ap (total_of (λ (u : View S). u.parts)) views ∙ same_sum (λ u. u.parts) s.views id v w key.parts at same_parts h.parts;
        once = λ g. ap (total_of (λ (u : View S). weigh g u.mine)) views ∙ (let a = total_set (λ u. weigh g u.mine) s.views id v w at in let b = h.once g in let c = weighs g in omega arith);
      }

  pub reads_count : (key : Start S) (slots id : ℕ) (me : Mine) (sp : Step (Option S)) (x : S) → 0 < me.0.parts → me.0.out ≡ Some x → Allows (Rule key) slots id me 1 (λ n. n) (read entries core cut steps sp me)
  reads_count key slots id me sp x pos o s h long at small =
      let q = holds_it key id me.0 x s h at o in let w : View S = looked entries core cut steps me.0 (Some x) in let t : St = stepped s 1 (slice_index s.words 1) id me.1 w keeps in
      let l = live key.state.value key.parts h.log me.0 pos (h.knows id me.0 at) in
      let whole : StartsWith h.log (entries x) = ([], sym q.replay.0 ∙ sym (append-nil (entries x))) in (
        w,
        keeps,
        tt,
        holds_on key id me.0 w x x s t h h.log pos at o o refl refl refl (ap (λ ws. slice_set ws 1 (slice_index ws 1)) q.words) q.homes refl h.ascending q.replay whole
            (λ g z. l.among g (starts_light g (entries x) me.0.seen (subst (λ es. StartsWith es me.0.seen) (sym q.replay.0) l.seen) z)) (λ seen k. k) (λ g. refl),
        (ap (λ z. (looked entries core cut steps me.0 z, me.1)) (sym o), ap (λ ws. slice_index ws 1) q.words ∙ ap length (sym q.replay.0)),
      )

  pub counts_event : (key : Start S) (slots id : ℕ) (me : Mine) (sp : Step (Option S)) (x y : S) (e : Entry) → 0 < me.0.parts → me.0.out ≡ Some x → held me.1 ≡ Some y
      → entries y ≡ entries x ++ e ∷ [] → cut x ≡ false → steps (core x) e (core y) → Ascending (entries y) → length (entries y) < 2 ^ 64
      → Allows (Rule key) slots id me 1 (λ n. (n + 1) % 2 ^ 64) (counted entries core cut steps sp me)
  counts_event key slots id me sp x y e pos o hy new open_still stepped_on up fits s h long at small =
      let q = holds_it key id me.0 x s h at o in let w : View S = grown entries core cut steps me.0 (Some x) (Some y) in let f : ℕ → ℕ = λ n. (n + 1) % 2 ^ 64 in
      let t : St = stepped s 1 (f (slice_index s.words 1)) id me.1 w keeps in let start : S = key.state.value in
      let l = live start key.parts h.log me.0 pos (h.knows id me.0 at) in
      let log : List Entry = entries y in
      let one : length log ≡ length h.log + 1 = ap length new ∙ length-append (entries x) (e ∷ []) ∙ ap (λ n. n + 1) (ap length q.replay.0) in
      let word : f (length h.log) ≡ length log = ap (λ n. n % 2 ^ 64) (sym one) ∙ mod-eq_of_lt fits in
      let longer : log ≡ h.log ++ e ∷ [] = new ∙ ap (λ es. es ++ e ∷ []) q.replay.0 in
      let last : drop (length (entries x)) log ≡ e ∷ [] = ap (drop (length (entries x))) new ∙ drop-append_seam (entries x) (e ∷ []) in
      let grows : (seen : List Entry) → StartsWith h.log seen → StartsWith log seen = λ seen k. subst (λ es. StartsWith es seen) (sym longer) (starts_longer h.log seen e k) in
      let mine : (g : Entry → ℕ) → weigh g w.mine ≡ weigh g me.0.mine + g e = λ g. weigh-append g me.0.mine (drop (length (entries x)) log) ∙ (let a = ap (weigh g) last in omega arith) in
      let whole : (g : Entry → ℕ) → weigh g log ≡ weigh g h.log + g e = λ g. ap (weigh g) longer ∙ (let a = weigh-append g h.log (e ∷ []) in omega arith) in
      let replay : IsReplay entries core cut steps start log y = (refl, λ _. subst (λ es. Replays steps (core start) es (core y)) (sym longer) (replays_snoc steps (core start) h.log (core x) e (core y) (q.replay.1 open_still) stepped_on)) in (
        w,
        keeps,
        tt,
        holds_on key id me.0 w x y s t h log pos at o refl refl refl refl
            (ap (λ ws. slice_set ws 1 (f (slice_index ws 1))) q.words ∙ ap (λ n. 1 ∷ n ∷ []) word) q.homes refl up replay ([], sym (append-nil log))
            (λ g z. let a = mine g in let b = whole g in let c = l.among g (starts_light g log me.0.seen (grows me.0.seen l.seen) z) in let d : weigh g log ≡ 0 = z in omega arith)
            grows (λ g. let a = mine g in let b = whole g in omega arith),
        (λ i. (grown entries core cut steps me.0 (sym o i) (sym hy i), me.1)),
      )

  pub gives_back : (key : Start S) (slots id : ℕ) (me : Mine) (sp : Step (Option S)) (x y : S) → 0 < me.0.parts → me.0.out ≡ Some x → me.1 ≡ (0, Some y) ∷ [] → entries y ≡ entries x → (cut y ≡ false → (cut x ≡ false) × (core y ≡ core x))
      → Allows (Rule key) slots id me 0 (λ _. 0) (λ _. gave entries core cut steps sp me 0)
  gives_back key slots id me sp x y pos o c same_entries same_core s h long at small =
      let q = holds_it key id me.0 x s h at o in let w : View S = with_turn me.0 None in let start : S = key.state.value in
      let l = live start key.parts h.log me.0 pos (h.knows id me.0 at) in (
        w,
        gives,
        tt,
        record {
          log = h.log;
          ascending = h.ascending;
          placed = inl (record {
            state = y;
            words = ap (λ ws. slice_set ws 0 0) q.words;
            homes = (λ i. homes_after (q.homes i) (c i) gives);
            replay = (same_entries ∙ q.replay.0, λ n. let c = same_core n in subst (Replays steps (core start) h.log) (sym c.1) (q.replay.1 c.0));
            nobody = all_set (λ j u. u.out ≡ None) s.views id w refl (λ j u n e. q.nobody_else j u e n);
          });
          knows = all_set (λ _ u. Knows entries core cut steps start key.parts h.log u) s.views id w (inr (record { some_part = l.some_part; start_is = l.start_is; total_is = l.total_is; seen = l.seen; among = l.among })) (λ j u n e. h.knows j u e);
          parts = same_sum (λ v. v.parts) s.views id me.0 w key.parts at refl h.parts;
          once = λ g. same_sum (λ v. weigh g v.mine) s.views id me.0 w (weigh g h.log) at refl (h.once g);
        },
        refl,
      )
