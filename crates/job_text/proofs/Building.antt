-- One operation more, and the operation at which a list of them stops.
use Rattle.std.proofs.Common.{◌≡◌, ℕ, suc, ◌+◌, ◌<◌, List, [], ◌∷◌, ◌++◌, length, take, drop, get_or, refl, ap, sym, subst, ◌∙◌, arith, length-append, append_assoc, add-one, drop-cons, ◌-◌}
use Rattle.std.proofs.lemmas.List.{take-append-drop}
use Rattle.small_facts.proofs.Options.{slice_get_at}
use Rattle.array_expr.specs.declared.expr.Node.{Node}
use Rattle.array_expr.specs.Node.{Adds}
use Rattle.job_script.specs.declared.asked.Placed.{Placed}
use Rattle.job_script.specs.Earlier.{NamesEarlier, AreEarlier}
use Rattle.job_text.specs.declared.error.JobError.{JobError}
use Rattle.job_text.specs.Nodes.{axes_down, op_of, Builds}
use Rattle.job_text.specs.Jobs.{span_at, spans_of, RefusesPlaced, RefusesOne}

pub builds-more : (nodes : List Node) (ps : List Placed) (p : Placed) (mid all : List Node) → Builds nodes ps mid → Adds mid (op_of mid p.asked) all → Builds nodes (ps ++ p ∷ []) all
builds-more nodes [] p mid all b a = (all, subst (λ x. Adds x (op_of x p.asked) all) b a, refl)
builds-more nodes (q ∷ ps) p mid all b a = (b.0, b.1, builds-more b.0 ps p mid all b.2 a)

pub builds-count : (nodes : List Node) (ps : List Placed) (all : List Node) → Builds nodes ps all → length all ≡ length nodes + length ps
builds-count nodes [] all b = omega (arith, ap length b)
builds-count nodes (p ∷ ps) all b =
    let more = builds-count b.0 ps all b.2 in
    let one : length b.0 ≡ length nodes + 1 = ap length b.1.more_is ∙ length-append nodes (b.1.node ∷ []) in
    omega arith

pub spans-more : (text : List ℕ) (ps : List Placed) (p : Placed) → spans_of text (ps ++ p ∷ []) ≡ spans_of text ps ++ span_at text p.at ∷ []
spans-more text [] p = refl
spans-more text (q ∷ ps) p = ap (λ w. span_at text q.at ∷ w) (spans-more text ps p)

-- the operation behind those that were added names nodes of theirs
pub names-here : (asked done : List Placed) (p : Placed) (nodes : List Node) → AreEarlier asked → Builds [] done nodes → length done < length asked → p ≡ get_or asked (length done) p → NamesEarlier p.asked (length nodes)
names-here asked done p nodes e b h at =
    let count : length nodes ≡ length done = omega (arith, builds-count [] done nodes b) in
    subst (λ k. NamesEarlier p.asked k) (sym count) (e (length done) p (slice_get_at asked (length done) p h at))

pub refuses-here : (text : List ℕ) (asked done : List Placed) (p : Placed) (nodes : List Node) (e : JobError) → Builds [] done nodes → done ≡ take (length done) asked → length done < length asked → p ≡ get_or asked (length done) p
    → RefusesPlaced text nodes p e → RefusesOne text asked e
refuses-here text asked done p nodes e b front h at r =
    let back : drop (length done) asked ≡ p ∷ drop (length done + 1) asked = rw (add-one, drop-cons asked (length done) p) (ap (λ x. x ∷ drop (suc (length done)) asked) (sym at)) in
    record {
      before = done;
      here = p;
      later = drop (length done + 1) asked;
      asked_are = sym (take-append-drop (length done) asked) ∙ (ap (λ x. x ++ drop (length done) asked) (sym front) ∙ ap (λ x. done ++ x) back);
      nodes = nodes;
      builds = b;
      refused = r;
    }

-- one axis more
pub down-more : (axes more : List ℕ) (n k : ℕ) → k < n → axes ++ axes_down (n - k) ≡ axes_down n → more ≡ axes ++ (n - 1 - k) ∷ [] → more ++ axes_down (n - (k + 1)) ≡ axes_down n
down-more axes more n k h e m =
    let this : n - k ≡ suc (n - 1 - k) = omega arith in
    let next : n - (k + 1) ≡ n - 1 - k = omega arith in
    ap (λ x. x ++ axes_down (n - (k + 1))) m
    ∙ (append_assoc axes ((n - 1 - k) ∷ []) (axes_down (n - (k + 1)))
    ∙ (ap (λ j. axes ++ (n - 1 - k) ∷ axes_down j) next
    ∙ (sym (ap (λ j. axes ++ axes_down j) this) ∙ e)))
