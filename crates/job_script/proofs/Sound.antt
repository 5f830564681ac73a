-- Each operation that a text asks for names earlier ones.
use Rattle.std.proofs.Common.{◌≡◌, ℕ, zero, suc, ◌+◌, ◌-◌, ◌<◌, ◌≤◌, ◌^◌, Bool, true, false, cond, ◌||◌, nat_lt, nat_le, List, [], ◌∷◌, ◌++◌, length, map, take, drop, Some, None, Ok, Err, refl, ap, sym, subst, ◌∙◌, arith, inl, inr, length-append}
use Rattle.std.specs.Prelude.{Option, Result, IfOk, All, slice_index_or, pos}
use Rattle.std.specs.Str.{bytes_eq}
use Rattle.std.proofs.lemmas.Bool.{cases_lt}
use Rattle.std.proofs.lemmas.List.{length-take-le, length-drop}
use Rattle.std.proofs.lemmas.List.Elements.{All-nil, All-head, All-tail, All-push, All-take, All-drop, All-weaker}
use Rattle.std.proofs.lemmas.Option.{slice_get_within, none-some, same_Some}
use Rattle.std.proofs.Math.Seq.{take-append_seam}
use Rattle.array_expr.specs.declared.op.Op.{Op}
use Rattle.array_expr.specs.declared.op.Op.TheVariants as OpVariants
use Rattle.array_expr.specs.Node.{NamesNodes}
use Rattle.array_expr.proofs.Growing.{slice_get-front, slice_get-end}
use Rattle.job_tokens.specs.declared.token.Token.{Token}
use Rattle.job_grammar.specs.declared.action.Action.{Action}
use Rattle.job_grammar.specs.declared.action.Action.TheVariants.{Begin, Declare, InputFile, AddInput, Define, SavedName, SaveFile, OpenDims, Dim, OpenChunks, Even, OpenSizes, Size, Sizes, Mark, Combine, Negate, Literal, NegativeLiteral, Refer, Enter, Leave, OpenParts, AddSlice, ReverseAxes, OpenPart, Positive, Negative, Index, Bound, Range, PlainFold, FoldAxes, FoldSplit, Reduce, Choose, AddTranspose, AddRechunk, OpenList, ListAxis, AddConcatenate, LeftAxes, AddTensordot, Value, Step, AddFull, AddRamp}
use Rattle.job_steps.specs.declared.step.Step.{Step as OneStep}
use Rattle.job_script.specs.declared.asked.Asked.{Asked}
use Rattle.job_script.specs.declared.asked.Asked.TheVariants as AskedVariants
use Rattle.job_script.specs.declared.asked.Placed.{Placed}
use Rattle.job_script.specs.declared.asked.Refusal.{Refusal}
use Rattle.job_script.specs.declared.asked.Why.TheVariants.{Depth, Number, Repeated, Statements}
use Rattle.job_script.specs.Words.{bytes_of, number_at, file_at, binary_of, fold_of, negative}
use Rattle.job_script.specs.Arguments.{given_after, given_with}
use Rattle.job_script.specs.Operands.{last_or, without_last, top_node, top_mark, top_list, without_node, without_mark}
use Rattle.job_script.specs.Names.{Called, node_called}
use Rattle.job_script.specs.Scopes.{Scoped, is_there, refused}
use Rattle.job_script.specs.Drafts.{Drafted, empty_draft, with_scoped, with_waiting, with_given, asking, asking_op, with_mark, or_refused, named_input, named_let, literal, refer}
use Rattle.job_script.specs.Meanings.{after}
use Rattle.job_script.specs.Scripts.{Scripted, going_on, run, IsScript}
use Rattle.job_script.specs.Earlier.{NamesEarlier, AreEarlier, AreAsked, inputs_from, IsSound}
use Rattle.job_script.proofs.Balance.{keeps, makes, takes_one, takes_two, takes_three, drops, opens, closes, effect_of, moved, AtLeast}
use Rattle.job_script.proofs.Steps.{AreStepsServed, read-served}
use Rattle.job_script.proofs.Inputs.{inputs-fit, last-end}

-- ---- how many operands wait

-- So many wait at least in each list that is open, the innermost first.
abbrev Heights : List ℕ → ℕ → List ℕ → Type 0
Heights [] n ls = ⊥
Heights (c ∷ []) n ls = (c ≤ n) × (ls ≡ [])
Heights (c ∷ d ∷ hs) n ls = (b : ℕ) × (us : List ℕ) × (ls ≡ us ++ b ∷ []) × (b + c ≤ n) × Heights (d ∷ hs) b us

heights-top : (c e : ℕ) (hs : List ℕ) (n m : ℕ) (ls : List ℕ) → e + n ≤ c + m → Heights (c ∷ hs) n ls → Heights (e ∷ hs) m ls
heights-top c e [] n m ls q h = (omega (arith, h.0), h.1)
heights-top c e (d ∷ hs) n m ls q h = (h.0, h.1, h.2, omega (arith, h.3), h.4)

heights-least : (c : ℕ) (hs : List ℕ) (n : ℕ) (ls : List ℕ) → Heights (c ∷ hs) n ls → c ≤ n
heights-least c [] n ls h = h.0
heights-least c (d ∷ hs) n ls h = omega (arith, h.3)

heights-opened : (c : ℕ) (hs : List ℕ) (n : ℕ) (ls : List ℕ) → Heights (c ∷ hs) n ls → Heights (zero ∷ c ∷ hs) n (ls ++ n ∷ [])
heights-opened c hs n ls h = (n, ls, refl, omega arith, h)

-- ---- what is kept

record Keeps (hs nodes lists : List ℕ) (names saves : List Called) (asked : List Placed) : Type 0 where
  heights : Heights hs (length nodes) lists
  nodes_are : All (λ k. k < length asked) nodes
  names_are : AreAsked names (length asked)
  saves_are : AreAsked saves (length asked)
  asked_are : AreEarlier asked

abbrev Sound : List ℕ → Drafted → Type 0
Sound hs d = Keeps hs d.waiting.nodes d.waiting.lists d.scoped.names d.scoped.saves d.asked

weaker : (hs gs : List ℕ) (d : Drafted) → AtLeast hs gs → Sound hs d → Sound gs d
weaker [] gs d p s = absurd s.heights
weaker (c ∷ hs) [] d p s = absurd p
weaker (c ∷ hs) (e ∷ gs) d p s = record {
  heights = subst (λ x. Heights (e ∷ x) (length d.waiting.nodes) d.waiting.lists) (sym p.1) (heights-top c e hs (length d.waiting.nodes) (length d.waiting.nodes) d.waiting.lists (omega (arith, p.0)) s.heights);
  nodes_are = s.nodes_are;
  names_are = s.names_are;
  saves_are = s.saves_are;
  asked_are = s.asked_are;
}

top-there : (c : ℕ) (hs : List ℕ) (d : Drafted) → Sound (suc c ∷ hs) d → top_node d.waiting < length d.asked
top-there c hs d s =
    let some : suc c ≤ length d.waiting.nodes = heights-least (suc c) hs (length d.waiting.nodes) d.waiting.lists s.heights in
    s.nodes_are (length d.waiting.nodes - 1) 0 (omega arith)

popped : (c : ℕ) (hs : List ℕ) (d : Drafted) → Sound (suc c ∷ hs) d → Sound (c ∷ hs) (record d { waiting = without_node d.waiting })
popped c hs d s =
    let some : suc c ≤ length d.waiting.nodes = heights-least (suc c) hs (length d.waiting.nodes) d.waiting.lists s.heights in
    let size : length (take (length d.waiting.nodes - 1) d.waiting.nodes) ≡ length d.waiting.nodes - 1 = length-take-le (length d.waiting.nodes - 1) d.waiting.nodes (omega arith) in
    record {
      heights = heights-top (suc c) c hs (length d.waiting.nodes) (length (take (length d.waiting.nodes - 1) d.waiting.nodes)) d.waiting.lists (omega arith) s.heights;
      nodes_are = All-take (λ k. k < length d.asked) (length d.waiting.nodes - 1) d.waiting.nodes s.nodes_are;
      names_are = s.names_are;
      saves_are = s.saves_are;
      asked_are = s.asked_are;
    }

pushed : (c : ℕ) (hs : List ℕ) (d : Drafted) (k : ℕ) → k < length d.asked → Sound (c ∷ hs) d → Sound (suc c ∷ hs) (record d { waiting = record d.waiting { nodes = d.waiting.nodes ++ k ∷ [] } })
pushed c hs d k h s = record {
  heights = heights-top c (suc c) hs (length d.waiting.nodes) (length (d.waiting.nodes ++ k ∷ [])) d.waiting.lists (omega (arith, length-append d.waiting.nodes (k ∷ []))) s.heights;
  nodes_are = All-push (λ j. j < length d.asked) d.waiting.nodes k s.nodes_are h;
  names_are = s.names_are;
  saves_are = s.saves_are;
  asked_are = s.asked_are;
}

earlier-more : (asked : List Placed) (p : Placed) → AreEarlier asked → NamesEarlier p.asked (length asked) → AreEarlier (asked ++ p ∷ [])
earlier-more asked p e h = λ k q is. elim (cases_lt k (length asked)) [
  | inl b ↦ e k q (sym (slice_get-front asked (p ∷ []) k b) ∙ is)
  | inr b ↦
      let within : k < length (asked ++ p ∷ []) = slice_get_within (asked ++ p ∷ []) k q is in
      let at : k ≡ length asked = omega (arith, length-append asked (p ∷ [])) in
      let same : p ≡ q = cc (slice_get-end asked p, is, at) in
      subst (λ j. NamesEarlier q.asked j) (sym at) (subst (λ x. NamesEarlier x.asked (length asked)) same h)
]

-- one more operation
grown : (hs : List ℕ) (d : Drafted) (p : Placed) → NamesEarlier p.asked (length d.asked) → Sound hs d → Sound hs (record d { asked = d.asked ++ p ∷ [] })
grown hs d p h s =
    let more : length d.asked ≤ length (d.asked ++ p ∷ []) = omega (arith, length-append d.asked (p ∷ [])) in
    record {
      heights = s.heights;
      nodes_are = All-weaker (λ k. k < length d.asked) (λ k. k < length (d.asked ++ p ∷ [])) (λ k b. omega arith) d.waiting.nodes s.nodes_are;
      names_are = All-weaker (λ n. n.node < length d.asked) (λ n. n.node < length (d.asked ++ p ∷ [])) (λ n b. omega arith) d.scoped.names s.names_are;
      saves_are = All-weaker (λ n. n.node < length d.asked) (λ n. n.node < length (d.asked ++ p ∷ [])) (λ n b. omega arith) d.scoped.saves s.saves_are;
      asked_are = earlier-more d.asked p s.asked_are h;
    }

named : (hs : List ℕ) (d : Drafted) (n : Called) → n.node < length d.asked → Sound hs d → Sound hs (record d { scoped = record d.scoped { names = d.scoped.names ++ n ∷ [] } })
named hs d n h s = record {
  heights = s.heights;
  nodes_are = s.nodes_are;
  names_are = All-push (λ m. m.node < length d.asked) d.scoped.names n s.names_are h;
  saves_are = s.saves_are;
  asked_are = s.asked_are;
}

with-save : (hs : List ℕ) (d : Drafted) (n : Called) → n.node < length d.asked → Sound hs d → Sound hs (record d { scoped = record d.scoped { saves = d.scoped.saves ++ n ∷ [] } })
with-save hs d n h s = record {
  heights = s.heights;
  nodes_are = s.nodes_are;
  names_are = s.names_are;
  saves_are = All-push (λ m. m.node < length d.asked) d.scoped.saves n s.saves_are h;
  asked_are = s.asked_are;
}

-- ---- what steps leave

abbrev Leaves : Result Drafted Refusal → List ℕ → Type 0
Leaves r fs = (e : Drafted) → r ≡ Ok e → Sound fs e

ok-leaves : (x : Drafted) (fs : List ℕ) → Sound fs x → Leaves (Ok x) fs
ok-leaves x fs s = λ e q. subst (λ y. Sound fs y) (same e (Ok x) refl q) s
  where
    same : (e : Drafted) (r : Result Drafted Refusal) → r ≡ Ok x → r ≡ Ok e → x ≡ e
    same e r p q = cc

refused-leaves : (r : Refusal) (fs : List ℕ) → Leaves (Err r) fs
refused-leaves r fs = λ e q. absurd (never e q)
  where
    never : (e : Drafted) → Err r ≡ Ok e → ⊥
    never e q = cc

if-leaves : (b : Bool) (r q : Result Drafted Refusal) (fs : List ℕ) → Leaves r fs → Leaves q fs → Leaves (cond b r q) fs
if-leaves true r q fs x y = x
if-leaves false r q fs x y = y

number-leaves : (b : Bool) (x : Drafted) (r : Refusal) (f : Drafted → Result Drafted Refusal) (fs : List ℕ) → Leaves (f x) fs → Leaves (or_refused (cond b (Ok x) (Err r)) f) fs
number-leaves true x r f fs l = l
number-leaves false x r f fs l = refused-leaves r fs

then-leaves : (r : Result Drafted Refusal) (f : Drafted → Drafted) (gs fs : List ℕ) → Leaves r gs → ((e : Drafted) → Sound gs e → Sound fs (f e)) → Leaves (or_refused r (λ e. Ok (f e))) fs
then-leaves (Ok x) f gs fs l g = ok-leaves (f x) fs (g x (l x refl))
then-leaves (Err r) f gs fs l g = refused-leaves r fs

scoped-leaves : (b : Bool) (s : Scoped) (r : Refusal) (d : Drafted) (fs : List ℕ) → Sound fs (record d { scoped = s }) → Leaves (with_scoped (cond b (Ok s) (Err r)) d) fs
scoped-leaves true s r d fs h = ok-leaves (record d { scoped = s }) fs h
scoped-leaves false s r d fs h = refused-leaves r fs

kept-leaves : (b : Bool) (s : Scoped) (r : Refusal) (d : Drafted) (fs : List ℕ) → Sound fs (record d { scoped = s }) → Leaves (with_scoped (cond b (Err r) (Ok s)) d) fs
kept-leaves true s r d fs h = refused-leaves r fs
kept-leaves false s r d fs h = ok-leaves (record d { scoped = s }) fs h

asking-leaves : (a : Asked) (at c : ℕ) (hs : List ℕ) (d : Drafted) → NamesEarlier a (length d.asked) → Sound (c ∷ hs) d → Leaves (asking a at d) (suc c ∷ hs)
asking-leaves a at c hs d h s =
    let p : Placed = record { asked = a; at = at } in
    let size : length d.asked < length (d.asked ++ p ∷ []) = omega (arith, length-append d.asked (p ∷ [])) in
    if-leaves (nat_lt (length d.asked) 65536) _ _ (suc c ∷ hs)
    (ok-leaves _ (suc c ∷ hs) (pushed c hs (record d { asked = d.asked ++ p ∷ [] }) (length d.asked) size (grown (c ∷ hs) d p h s)))
    (refused-leaves _ (suc c ∷ hs))

called-there : (names : List Called) (w : List ℕ) (m k : ℕ) → AreAsked names m → node_called names w ≡ Some k → k < m
called-there [] w m k a e = absurd (none-some k e)
called-there (n ∷ ns) w m k a e = by-test (bytes_eq n.name w) (λ q. called-there ns w m k (All-tail (λ x. x.node < m) n ns a) q) e
  where
    by-test : (b : Bool) → (node_called ns w ≡ Some k → k < m) → cond b (Some n.node) (node_called ns w) ≡ Some k → k < m
    by-test true later e = subst (λ j. j < m) (same_Some n.node k e) (All-head (λ x. x.node < m) n ns a)
    by-test false later e = later e

refer-leaves : (o : Option ℕ) (at c : ℕ) (hs : List ℕ) (d : Drafted) → ((k : ℕ) → o ≡ Some k → k < length d.asked) → Sound (c ∷ hs) d → Leaves (refer o at d) (suc c ∷ hs)
refer-leaves None at c hs d h s = refused-leaves _ (suc c ∷ hs)
refer-leaves (Some k) at c hs d h s = ok-leaves _ (suc c ∷ hs) (pushed c hs d k (h k refl) s)

-- ---- the operands by the effect of an action

-- the operands before and behind an action of the effect
record Moves (d : Drafted) (fs before behind : List ℕ) : Type 0 where
  sound : Sound before d
  is : fs ≡ behind

same-list : (gs fs : List ℕ) → Some gs ≡ Some fs → fs ≡ gs
same-list gs fs e = cc

to-kept : (gs fs : List ℕ) (d : Drafted) → Sound gs d → moved keeps gs ≡ Some fs → Sound fs d
to-kept gs fs d s m = subst (λ x. Sound x d) (sym (same-list gs fs m)) s

to-made : (gs fs : List ℕ) (d : Drafted) → Sound gs d → moved makes gs ≡ Some fs → (c : ℕ) × (hs : List ℕ) × Moves d fs (c ∷ hs) (suc c ∷ hs)
to-made [] fs d s m = absurd s.heights
to-made (c ∷ hs) fs d s m = (c, hs, record { sound = s; is = same-list (suc c ∷ hs) fs m })

to-one : (gs fs : List ℕ) (d : Drafted) → Sound gs d → moved takes_one gs ≡ Some fs → (c : ℕ) × (hs : List ℕ) × Moves d fs (suc c ∷ hs) (suc c ∷ hs)
to-one [] fs d s m = absurd s.heights
to-one (zero ∷ hs) fs d s m = absurd (none-some fs m)
to-one (suc c ∷ hs) fs d s m = (c, hs, record { sound = s; is = same-list (suc c ∷ hs) fs m })

to-two : (gs fs : List ℕ) (d : Drafted) → Sound gs d → moved takes_two gs ≡ Some fs → (c : ℕ) × (hs : List ℕ) × Moves d fs (suc (suc c) ∷ hs) (suc c ∷ hs)
to-two [] fs d s m = absurd s.heights
to-two (zero ∷ hs) fs d s m = absurd (none-some fs m)
to-two (suc zero ∷ hs) fs d s m = absurd (none-some fs m)
to-two (suc (suc c) ∷ hs) fs d s m = (c, hs, record { sound = s; is = same-list (suc c ∷ hs) fs m })

to-three : (gs fs : List ℕ) (d : Drafted) → Sound gs d → moved takes_three gs ≡ Some fs → (c : ℕ) × (hs : List ℕ) × Moves d fs (suc (suc (suc c)) ∷ hs) (suc c ∷ hs)
to-three [] fs d s m = absurd s.heights
to-three (zero ∷ hs) fs d s m = absurd (none-some fs m)
to-three (suc zero ∷ hs) fs d s m = absurd (none-some fs m)
to-three (suc (suc zero) ∷ hs) fs d s m = absurd (none-some fs m)
to-three (suc (suc (suc c)) ∷ hs) fs d s m = (c, hs, record { sound = s; is = same-list (suc c ∷ hs) fs m })

to-dropped : (gs fs : List ℕ) (d : Drafted) → Sound gs d → moved drops gs ≡ Some fs → (c : ℕ) × (hs : List ℕ) × Moves d fs (suc c ∷ hs) (c ∷ hs)
to-dropped [] fs d s m = absurd s.heights
to-dropped (zero ∷ hs) fs d s m = absurd (none-some fs m)
to-dropped (suc c ∷ hs) fs d s m = (c, hs, record { sound = s; is = same-list (c ∷ hs) fs m })

to-opened : (gs fs : List ℕ) (d : Drafted) → Sound gs d → moved opens gs ≡ Some fs → (c : ℕ) × (hs : List ℕ) × Moves d fs (c ∷ hs) (zero ∷ c ∷ hs)
to-opened [] fs d s m = absurd s.heights
to-opened (c ∷ hs) fs d s m = (c, hs, record { sound = s; is = same-list (zero ∷ c ∷ hs) fs m })

to-closed : (gs fs : List ℕ) (d : Drafted) → Sound gs d → moved closes gs ≡ Some fs → (b c : ℕ) × (hs : List ℕ) × Moves d fs (suc b ∷ c ∷ hs) (suc c ∷ hs)
to-closed [] fs d s m = absurd s.heights
to-closed (zero ∷ hs) fs d s m = absurd (none-some fs m)
to-closed (suc b ∷ []) fs d s m = absurd (none-some fs m)
to-closed (suc b ∷ c ∷ hs) fs d s m = (b, c, hs, record { sound = s; is = same-list (suc c ∷ hs) fs m })

leaves-so : (r : Result Drafted Refusal) (fs gs : List ℕ) → fs ≡ gs → Leaves r gs → Leaves r fs
leaves-so r fs gs e l = subst (λ x. Leaves r x) (sym e) l

-- ---- operations

one-leaves : (a : Asked) (at : ℕ) (e : Drafted) (gs fs : List ℕ) (d : Drafted) → (top_node d.waiting < length d.asked → NamesEarlier a (length e.asked)) → ((hs : List ℕ) → Sound hs (record d { waiting = without_node d.waiting }) → Sound hs e)
    → Sound gs d → moved takes_one gs ≡ Some fs → Leaves (asking a at e) fs
one-leaves a at e gs fs d names same s m =
    let v = to-one gs fs d s m in
    leaves-so (asking a at e) fs (suc v.0 ∷ v.1) v.2.is (asking-leaves a at v.0 v.1 e (names (top-there v.0 v.1 d v.2.sound)) (same (v.0 ∷ v.1) (popped v.0 v.1 d v.2.sound)))

two-leaves : (a : Asked) (at : ℕ) (e : Drafted) (gs fs : List ℕ) (d : Drafted) → (top_node (without_node d.waiting) < length d.asked → top_node d.waiting < length d.asked → NamesEarlier a (length e.asked))
    → ((hs : List ℕ) → Sound hs (record d { waiting = without_node (without_node d.waiting) }) → Sound hs e) → Sound gs d → moved takes_two gs ≡ Some fs → Leaves (asking a at e) fs
two-leaves a at e gs fs d names same s m =
    let v = to-two gs fs d s m in
    let below = popped (suc v.0) v.1 d v.2.sound in
    leaves-so (asking a at e) fs (suc v.0 ∷ v.1) v.2.is
    (asking-leaves a at v.0 v.1 e (names (top-there v.0 v.1 (record d { waiting = without_node d.waiting }) below) (top-there (suc v.0) v.1 d v.2.sound)) (same (v.0 ∷ v.1) (popped v.0 v.1 (record d { waiting = without_node d.waiting }) below)))

choose-leaves : (at : ℕ) (e : Drafted) (gs fs : List ℕ) (d : Drafted) → (e.asked ≡ d.asked) → ((hs : List ℕ) → Sound hs (record d { waiting = without_node (without_node (without_node d.waiting)) }) → Sound hs e)
    → Sound gs d → moved takes_three gs ≡ Some fs → Leaves (asking_op (OpVariants.Where (top_node (without_node (without_node d.waiting))) (top_node (without_node d.waiting)) (top_node d.waiting)) at e) fs
choose-leaves at e gs fs d asked same s m =
    let v = to-three gs fs d s m in
    let op = OpVariants.Where (top_node (without_node (without_node d.waiting))) (top_node (without_node d.waiting)) (top_node d.waiting) in
    let d1 : Drafted = record d { waiting = without_node d.waiting } in
    let d2 : Drafted = record d { waiting = without_node (without_node d.waiting) } in
    let s1 : Sound (suc (suc v.0) ∷ v.1) d1 = popped (suc (suc v.0)) v.1 d v.2.sound in
    let s2 : Sound (suc v.0 ∷ v.1) d2 = popped (suc v.0) v.1 d1 s1 in
    let s3 = popped v.0 v.1 d2 s2 in
    let names : NamesNodes op (length d.asked) = record { there = (top-there v.0 v.1 d2 s2, top-there (suc v.0) v.1 d1 s1, top-there (suc (suc v.0)) v.1 d v.2.sound); some = tt } in
    leaves-so (asking_op op at e) fs (suc v.0 ∷ v.1) v.2.is (asking-leaves (AskedVariants.Op op) at v.0 v.1 e (subst (λ x. NamesNodes op (length x)) (sym asked) names) (same (v.0 ∷ v.1) s3))

new-leaves : (a : Asked) (at : ℕ) (e : Drafted) (gs fs : List ℕ) (d : Drafted) → NamesEarlier a (length e.asked) → ((hs : List ℕ) → Sound hs d → Sound hs e) → Sound gs d → moved makes gs ≡ Some fs → Leaves (asking a at e) fs
new-leaves a at e gs fs d names same s m =
    let v = to-made gs fs d s m in
    leaves-so (asking a at e) fs (suc v.0 ∷ v.1) v.2.is (asking-leaves a at v.0 v.1 e names (same (v.0 ∷ v.1) v.2.sound))

name-leaves : (text : List ℕ) (t : Token) (gs fs : List ℕ) (d : Drafted) → Sound gs d → moved makes gs ≡ Some fs → Leaves (refer (node_called d.scoped.names (bytes_of text t)) t.start d) fs
name-leaves text t gs fs d s m =
    let v = to-made gs fs d s m in
    let o = node_called d.scoped.names (bytes_of text t) in
    leaves-so (refer o t.start d) fs (suc v.0 ∷ v.1) v.2.is (refer-leaves o t.start v.0 v.1 d (λ k q. called-there d.scoped.names (bytes_of text t) (length d.asked) k s.names_are q) v.2.sound)

-- ---- a list of operands

last-is : (ls us : List ℕ) (b : ℕ) → ls ≡ us ++ b ∷ [] → last_or 0 ls ≡ b
last-is ls us b e =
    let at : length (us ++ b ∷ []) - 1 ≡ length us = omega (arith, length-append us (b ∷ [])) in
    ap (λ x. slice_index_or x (length x - 1) 0) e ∙ (ap (λ k. slice_index_or (us ++ b ∷ []) k 0) at ∙ last-end us b 0)

rest-is : (ls us : List ℕ) (b : ℕ) → ls ≡ us ++ b ∷ [] → without_last ls ≡ us
rest-is ls us b e =
    let at : length (us ++ b ∷ []) - 1 ≡ length us = omega (arith, length-append us (b ∷ [])) in
    ap (λ x. take (length x - 1) x) e ∙ (ap (λ k. take k (us ++ b ∷ [])) at ∙ take-append_seam us (b ∷ []))

closed-heights : (c : ℕ) (hs nodes ls us : List ℕ) (b : ℕ) → ls ≡ us ++ b ∷ [] → b ≤ length nodes → Heights (c ∷ hs) b us → Heights (c ∷ hs) (length (take (last_or 0 ls) nodes)) (without_last ls)
closed-heights c hs nodes ls us b e h k =
    let size : length (take (last_or 0 ls) nodes) ≡ b = ap (λ x. length (take x nodes)) (last-is ls us b e) ∙ length-take-le b nodes h in
    subst (λ x. Heights (c ∷ hs) x (without_last ls)) (sym size) (subst (λ x. Heights (c ∷ hs) b x) (sym (rest-is ls us b e)) k)

list-leaves : (at : ℕ) (e : Drafted) (gs fs : List ℕ) (d : Drafted) → (e.asked ≡ d.asked)
    → ((hs : List ℕ) → Sound hs (record d { waiting = record d.waiting { nodes = take (top_list d.waiting) d.waiting.nodes; lists = without_last d.waiting.lists } }) → Sound hs e)
    → Sound gs d → moved closes gs ≡ Some fs → Leaves (asking_op (OpVariants.Concatenate (drop (top_list d.waiting) d.waiting.nodes) d.given.axis) at e) fs
list-leaves at e gs fs d asked same s m =
    let v = to-closed gs fs d s m in
    let h = v.3.sound.heights in
    let top : top_list d.waiting ≡ h.0 = last-is d.waiting.lists h.1 h.0 h.2 in
    let op = OpVariants.Concatenate (drop (top_list d.waiting) d.waiting.nodes) d.given.axis in
    let enough : h.0 + suc v.0 ≤ length d.waiting.nodes = h.3 in
    let some : 0 < length (drop (top_list d.waiting) d.waiting.nodes) = omega (arith, length-drop (top_list d.waiting) d.waiting.nodes) in
    let names : NamesNodes op (length d.asked) = record { there = All-drop (λ k. k < length d.asked) (top_list d.waiting) d.waiting.nodes s.nodes_are; some = some } in
    let left : Sound (v.1 ∷ v.2) (record d { waiting = record d.waiting { nodes = take (top_list d.waiting) d.waiting.nodes; lists = without_last d.waiting.lists } }) = record {
      heights = closed-heights v.1 v.2 d.waiting.nodes d.waiting.lists h.1 h.0 h.2 (omega arith) h.4;
      nodes_are = All-take (λ k. k < length d.asked) (top_list d.waiting) d.waiting.nodes s.nodes_are;
      names_are = s.names_are;
      saves_are = s.saves_are;
      asked_are = s.asked_are;
    } in
    leaves-so (asking_op op at e) fs (suc v.1 ∷ v.2) v.3.is (asking-leaves (AskedVariants.Op op) at v.1 v.2 e (subst (λ x. NamesNodes op (length x)) (sym asked) names) (same (v.1 ∷ v.2) left))

open-sound : (gs fs : List ℕ) (d : Drafted) → Sound gs d → moved opens gs ≡ Some fs → Sound fs (record d { waiting = record d.waiting { lists = d.waiting.lists ++ length d.waiting.nodes ∷ [] } })
open-sound gs fs d s m =
    let v = to-opened gs fs d s m in
    subst (λ x. Sound x (record d { waiting = record d.waiting { lists = d.waiting.lists ++ length d.waiting.nodes ∷ [] } })) (sym v.2.is)
    (record {
      heights = heights-opened v.0 v.1 (length d.waiting.nodes) d.waiting.lists v.2.sound.heights;
      nodes_are = s.nodes_are;
      names_are = s.names_are;
      saves_are = s.saves_are;
      asked_are = s.asked_are;
    })

-- ---- statements

let-sound : (gs fs : List ℕ) (d : Drafted) → Sound gs d → moved drops gs ≡ Some fs → Sound fs (named_let d)
let-sound gs fs d s m =
    let v = to-dropped gs fs d s m in
    subst (λ x. Sound x (named_let d)) (sym v.2.is)
    (named (v.0 ∷ v.1) (record d { waiting = without_node d.waiting }) (record { name = d.scoped.name; node = top_node d.waiting }) (top-there v.0 v.1 d v.2.sound) (popped v.0 v.1 d v.2.sound))

save-sound : (file : List ℕ) (gs fs : List ℕ) (d : Drafted) → Sound gs d → moved drops gs ≡ Some fs
    → Sound fs (record d { waiting = without_node d.waiting; scoped = record d.scoped { saves = d.scoped.saves ++ record { name = file; node = top_node d.waiting } ∷ [] } })
save-sound file gs fs d s m =
    let v = to-dropped gs fs d s m in
    subst (λ x. Sound x (record d { waiting = without_node d.waiting; scoped = record d.scoped { saves = d.scoped.saves ++ record { name = file; node = top_node d.waiting } ∷ [] } })) (sym v.2.is)
    (with-save (v.0 ∷ v.1) (record d { waiting = without_node d.waiting }) (record { name = file; node = top_node d.waiting }) (top-there v.0 v.1 d v.2.sound) (popped v.0 v.1 d v.2.sound))

input-sound : (c : ℕ) (hs : List ℕ) (e : Drafted) → Sound (suc c ∷ hs) e → Sound (c ∷ hs) (named_input e)
input-sound c hs e s =
    let there = top-there c hs e s in
    named (c ∷ hs) (record e { waiting = without_node e.waiting }) (record { name = e.scoped.name; node = top_node e.waiting }) there (popped c hs e s)

input-leaves : (op : Op) (at : ℕ) (e : Drafted) (gs fs : List ℕ) (d : Drafted) → NamesNodes op (length e.asked) → ((hs : List ℕ) → Sound hs d → Sound hs e) → Sound gs d → moved keeps gs ≡ Some fs → Leaves (or_refused (asking_op op at e) (λ x. Ok (named_input x))) fs
input-leaves op at e [] fs d names same s m = absurd s.heights
input-leaves op at e (c ∷ hs) fs d names same s m =
    leaves-so (or_refused (asking_op op at e) (λ x. Ok (named_input x))) fs (c ∷ hs) (same-list (c ∷ hs) fs m)
    (then-leaves (asking_op op at e) named_input (suc c ∷ hs) (c ∷ hs) (asking-leaves (AskedVariants.Op op) at c hs e names (same (c ∷ hs) s)) (input-sound c hs))

-- ---- each step

act-leaves : (text : List ℕ) (a : Action) (t : Token) (d : Drafted) (gs fs : List ℕ) → Sound gs d → moved (effect_of a) gs ≡ Some fs → Leaves (after text a t d) fs
act-leaves text Begin t d gs fs s m = scoped-leaves (nat_lt d.scoped.statements 1024) (record d.scoped { statements = d.scoped.statements + 1 }) (record { at = t.start; why = Statements }) (with_mark t d) fs (to-kept gs fs d s m)
act-leaves text Declare t d gs fs s m = kept-leaves (is_there d.scoped.names (bytes_of text t)) (record d.scoped { name = bytes_of text t }) (record { at = t.start; why = Repeated }) d fs (to-kept gs fs d s m)
act-leaves text InputFile t d gs fs s m = kept-leaves (is_there d.scoped.saves (file_at text t)) (record d.scoped { file = file_at text t }) (record { at = t.start; why = Repeated }) d fs (to-kept gs fs d s m)
act-leaves text AddInput t d gs fs s m = input-leaves (OpVariants.Input d.given.dims d.given.chunks) (top_mark d.waiting).start (record d { waiting = without_mark d.waiting; given = record d.given { dims = []; chunks = [] } }) gs fs d (record { there = tt; some = tt }) (λ hs x. x) s m
act-leaves text Define t d gs fs s m = ok-leaves (named_let d) fs (let-sound gs fs d s m)
act-leaves text SavedName t d gs fs s m = name-leaves text t gs fs d s m
act-leaves text SaveFile t d gs fs s m = kept-leaves (is_there d.scoped.saves (file_at text t) || is_there d.scoped.inputs (file_at text t)) (record d.scoped { saves = d.scoped.saves ++ record { name = file_at text t; node = top_node d.waiting } ∷ [] }) (record { at = t.start; why = Repeated }) (with_waiting (without_mark (without_node d.waiting)) d) fs (save-sound (file_at text t) gs fs d s m)
act-leaves text OpenDims t d gs fs s m = ok-leaves (with_given (given_after OpenDims d.given) d) fs (to-kept gs fs d s m)
act-leaves text Dim t d gs fs s m = if-leaves (nat_lt (number_at text t) (2 ^ 63)) (Ok (with_given (given_with Dim (number_at text t) d.given) d)) (refused t.start Number) fs (ok-leaves (with_given (given_with Dim (number_at text t) d.given) d) fs (to-kept gs fs d s m)) (refused-leaves (record { at = t.start; why = Number }) fs)
act-leaves text OpenChunks t d gs fs s m = ok-leaves (with_given (given_after OpenChunks d.given) d) fs (to-kept gs fs d s m)
act-leaves text Even t d gs fs s m = if-leaves (nat_lt (number_at text t) (2 ^ 63)) (Ok (with_given (given_with Even (number_at text t) d.given) d)) (refused t.start Number) fs (ok-leaves (with_given (given_with Even (number_at text t) d.given) d) fs (to-kept gs fs d s m)) (refused-leaves (record { at = t.start; why = Number }) fs)
act-leaves text OpenSizes t d gs fs s m = ok-leaves (with_given (given_after OpenSizes d.given) d) fs (to-kept gs fs d s m)
act-leaves text Size t d gs fs s m = if-leaves (nat_lt (number_at text t) (2 ^ 63)) (Ok (with_given (given_with Size (number_at text t) d.given) d)) (refused t.start Number) fs (ok-leaves (with_given (given_with Size (number_at text t) d.given) d) fs (to-kept gs fs d s m)) (refused-leaves (record { at = t.start; why = Number }) fs)
act-leaves text Sizes t d gs fs s m = ok-leaves (with_given (given_after Sizes d.given) d) fs (to-kept gs fs d s m)
act-leaves text Mark t d gs fs s m = ok-leaves (with_mark t d) fs (to-kept gs fs d s m)
act-leaves text Combine t d gs fs s m = two-leaves (AskedVariants.Op (OpVariants.Elementwise (binary_of (top_mark d.waiting).kind) (top_node (without_node d.waiting)) (top_node d.waiting))) (top_mark d.waiting).start (record d { waiting = without_mark (without_node (without_node d.waiting)) }) gs fs d (λ h k. record { there = (h, k); some = tt }) (λ hs x. x) s m
act-leaves text Negate t d gs fs s m = one-leaves (AskedVariants.Op (OpVariants.Negate (top_node d.waiting))) (top_mark d.waiting).start (record d { waiting = without_mark (without_node d.waiting) }) gs fs d (λ h. record { there = h; some = tt }) (λ hs x. x) s m
act-leaves text Literal t d gs fs s m = number-leaves (nat_lt (number_at text t) (2 ^ 63)) d (record { at = t.start; why = Number }) (λ e. asking_op (literal (pos (number_at text t))) t.start e) fs (new-leaves (AskedVariants.Op (literal (pos (number_at text t)))) t.start d gs fs d (record { there = tt; some = tt }) (λ hs x. x) s m)
act-leaves text NegativeLiteral t d gs fs s m = number-leaves (nat_le (number_at text t) (2 ^ 63)) d (record { at = t.start; why = Number }) (λ e. asking_op (literal (negative (number_at text t))) (top_mark e.waiting).start (with_waiting (without_mark e.waiting) e)) fs (new-leaves (AskedVariants.Op (literal (negative (number_at text t)))) (top_mark d.waiting).start (with_waiting (without_mark d.waiting) d) gs fs d (record { there = tt; some = tt }) (λ hs x. x) s m)
act-leaves text Refer t d gs fs s m = name-leaves text t gs fs d s m
act-leaves text Enter t d gs fs s m = if-leaves (nat_lt d.waiting.depth 127) (Ok (record d { waiting = record d.waiting { depth = d.waiting.depth + 1 } })) (refused t.start Depth) fs (ok-leaves (record d { waiting = record d.waiting { depth = d.waiting.depth + 1 } }) fs (to-kept gs fs d s m)) (refused-leaves (record { at = t.start; why = Depth }) fs)
act-leaves text Leave t d gs fs s m = ok-leaves (with_waiting (record d.waiting { depth = d.waiting.depth - 1 }) d) fs (to-kept gs fs d s m)
act-leaves text OpenParts t d gs fs s m = ok-leaves (with_mark t (with_given (given_after OpenParts d.given) d)) fs (to-kept gs fs d s m)
act-leaves text AddSlice t d gs fs s m = one-leaves (AskedVariants.Op (OpVariants.Slice (top_node d.waiting) d.given.parts)) (top_mark d.waiting).start (record d { waiting = without_mark (without_node d.waiting); given = record d.given { parts = [] } }) gs fs d (λ h. record { there = h; some = tt }) (λ hs x. x) s m
act-leaves text ReverseAxes t d gs fs s m = one-leaves (AskedVariants.ReverseAxes (top_node d.waiting)) t.start (with_waiting (without_node d.waiting) d) gs fs d (λ h. h) (λ hs x. x) s m
act-leaves text OpenPart t d gs fs s m = ok-leaves (with_given (given_after OpenPart d.given) d) fs (to-kept gs fs d s m)
act-leaves text Positive t d gs fs s m = if-leaves (nat_lt (number_at text t) (2 ^ 63)) (Ok (with_given (given_with Positive (number_at text t) d.given) d)) (refused t.start Number) fs (ok-leaves (with_given (given_with Positive (number_at text t) d.given) d) fs (to-kept gs fs d s m)) (refused-leaves (record { at = t.start; why = Number }) fs)
act-leaves text Negative t d gs fs s m = if-leaves (nat_le (number_at text t) (2 ^ 63)) (Ok (with_given (record d.given { int = Some (negative (number_at text t)) }) d)) (refused t.start Number) fs (ok-leaves (with_given (record d.given { int = Some (negative (number_at text t)) }) d) fs (to-kept gs fs d s m)) (refused-leaves (record { at = t.start; why = Number }) fs)
act-leaves text Index t d gs fs s m = ok-leaves (with_given (given_after Index d.given) d) fs (to-kept gs fs d s m)
act-leaves text Bound t d gs fs s m = ok-leaves (with_given (given_after Bound d.given) d) fs (to-kept gs fs d s m)
act-leaves text Range t d gs fs s m = ok-leaves (with_given (given_after Range d.given) d) fs (to-kept gs fs d s m)
act-leaves text PlainFold t d gs fs s m = ok-leaves (with_given (given_after PlainFold d.given) d) fs (to-kept gs fs d s m)
act-leaves text FoldAxes t d gs fs s m = ok-leaves (with_given (given_after FoldAxes d.given) d) fs (to-kept gs fs d s m)
act-leaves text FoldSplit t d gs fs s m = if-leaves (nat_lt (number_at text t) (2 ^ 63)) (Ok (with_given (given_with FoldSplit (number_at text t) d.given) d)) (refused t.start Number) fs (ok-leaves (with_given (given_with FoldSplit (number_at text t) d.given) d) fs (to-kept gs fs d s m)) (refused-leaves (record { at = t.start; why = Number }) fs)
act-leaves text Reduce t d gs fs s m = one-leaves (AskedVariants.Op (OpVariants.Reduce (fold_of (top_mark d.waiting).kind) (top_node d.waiting) d.given.axes d.given.split)) (top_mark d.waiting).start (record d { waiting = without_mark (without_node d.waiting); given = record d.given { axes = None } }) gs fs d (λ h. record { there = h; some = tt }) (λ hs x. x) s m
act-leaves text Choose t d gs fs s m = choose-leaves (top_mark d.waiting).start (record d { waiting = without_mark (without_node (without_node (without_node d.waiting))) }) gs fs d refl (λ hs x. x) s m
act-leaves text AddTranspose t d gs fs s m = one-leaves (AskedVariants.Op (OpVariants.Transpose (top_node d.waiting) d.given.dims)) (top_mark d.waiting).start (record d { waiting = without_mark (without_node d.waiting); given = record d.given { dims = [] } }) gs fs d (λ h. record { there = h; some = tt }) (λ hs x. x) s m
act-leaves text AddRechunk t d gs fs s m = one-leaves (AskedVariants.Op (OpVariants.Rechunk (top_node d.waiting) d.given.chunks)) (top_mark d.waiting).start (record d { waiting = without_mark (without_node d.waiting); given = record d.given { chunks = [] } }) gs fs d (λ h. record { there = h; some = tt }) (λ hs x. x) s m
act-leaves text OpenList t d gs fs s m = ok-leaves (with_waiting (record d.waiting { lists = d.waiting.lists ++ length d.waiting.nodes ∷ [] }) d) fs (open-sound gs fs d s m)
act-leaves text ListAxis t d gs fs s m = if-leaves (nat_lt (number_at text t) (2 ^ 63)) (Ok (with_given (given_with ListAxis (number_at text t) d.given) d)) (refused t.start Number) fs (ok-leaves (with_given (given_with ListAxis (number_at text t) d.given) d) fs (to-kept gs fs d s m)) (refused-leaves (record { at = t.start; why = Number }) fs)
act-leaves text AddConcatenate t d gs fs s m = list-leaves (top_mark d.waiting).start (record d { waiting = record d.waiting { nodes = take (top_list d.waiting) d.waiting.nodes; lists = without_last d.waiting.lists; marks = without_last d.waiting.marks } }) gs fs d refl (λ hs x. x) s m
act-leaves text LeftAxes t d gs fs s m = ok-leaves (with_given (given_after LeftAxes d.given) d) fs (to-kept gs fs d s m)
act-leaves text AddTensordot t d gs fs s m = two-leaves (AskedVariants.Op (OpVariants.Tensordot (top_node (without_node d.waiting)) (top_node d.waiting) d.given.left_axes d.given.dims)) (top_mark d.waiting).start (record d { waiting = without_mark (without_node (without_node d.waiting)); given = record d.given { dims = []; left_axes = [] } }) gs fs d (λ h k. record { there = (h, k); some = tt }) (λ hs x. x) s m
act-leaves text Value t d gs fs s m = ok-leaves (with_given (given_after Value d.given) d) fs (to-kept gs fs d s m)
act-leaves text Step t d gs fs s m = ok-leaves (with_given (given_after Step d.given) d) fs (to-kept gs fs d s m)
act-leaves text AddFull t d gs fs s m = new-leaves (AskedVariants.Op (OpVariants.Full d.given.dims d.given.value d.given.chunks)) (top_mark d.waiting).start (record d { waiting = without_mark d.waiting; given = record d.given { dims = []; chunks = [] } }) gs fs d (record { there = tt; some = tt }) (λ hs x. x) s m
act-leaves text AddRamp t d gs fs s m = new-leaves (AskedVariants.Op (OpVariants.Ramp d.given.dims d.given.value d.given.step d.given.chunks)) (top_mark d.waiting).start (record d { waiting = without_mark d.waiting; given = record d.given { dims = []; chunks = [] } }) gs fs d (record { there = tt; some = tt }) (λ hs x. x) s m

-- ---- all steps

run-sound : (text : List ℕ) (steps : List OneStep) (d : Drafted) (hs : List ℕ) → Sound hs d → AreStepsServed steps hs → (fs : List ℕ) × Sound fs (run text steps d).draft
run-sound text [] d hs s v = (hs, s)
run-sound text (x ∷ steps) d hs s v =
    by-result (after text x.action x.token d) (act-leaves text x.action x.token d v.0 v.1 (weaker hs v.0 d v.2 s) v.3) (λ e t. run-sound text steps e v.1 t v.4)
  where
    by-result : (r : Result Drafted Refusal) → Leaves r v.1 → ((e : Drafted) → Sound v.1 e → (fs : List ℕ) × Sound fs (run text steps e).draft) → (fs : List ℕ) × Sound fs (going_on r d (λ e. run text steps e)).draft
    by-result (Ok e) l more = more e (l e refl)
    by-result (Err r) l more = (hs, s)

none-asked : Sound (zero ∷ []) empty_draft
none-asked = record {
  heights = (omega arith, refl);
  nodes_are = All-nil (λ k. k < 0);
  names_are = All-nil (λ n. n.node < 0);
  saves_are = All-nil (λ n. n.node < 0);
  asked_are = λ k p e. absurd (none-some p e);
}

pub script-sound : (text : List ℕ) (s : Scripted) → IsScript text s → IsSound s
script-sound text s i =
    let v = run-sound text i.found.steps empty_draft (zero ∷ []) none-asked (read-served text i.found i.read) in
    let k = v.1 in
    record {
      asked_are = subst AreEarlier (sym i.asked) k.asked_are;
      inputs_are = λ w. ap (λ x. map (λ n. n.node) x) (i.inputs w) ∙ (inputs-fit text i.found.steps ∙ ap (inputs_from 0) (sym i.asked));
      saves_are = λ w. subst (λ x. AreAsked x (length s.asked)) (sym (i.saves w)) (subst (λ x. AreAsked (run text i.found.steps empty_draft).draft.scoped.saves (length x)) (sym i.asked) k.saves_are);
    }

pub sound-if : {E : Type 0} (text : List ℕ) (r : Result Scripted E) → IfOk r (IsScript text) → IfOk r IsSound
sound-if text (Ok s) h = script-sound text s h
sound-if text (Err e) h = tt
