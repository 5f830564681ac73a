-- What one move of the reader does to the step that it is part of.
use Rattle.std.proofs.Common.{◌≡◌, ℕ, ◌<◌, ◌+◌, List, [], ◌∷◌, ◌++◌, Some, None, refl, ap, sym, subst, ◌∙◌, arith, append-nil, append_assoc}
use Rattle.std.specs.Prelude.{Option}
use Rattle.grammar.specs.declared.symbol.Symbol.{Symbol}
use Rattle.grammar.specs.declared.symbol.Symbol.TheVariants.{Token}
use Rattle.grammar.specs.declared.reply.Reply.{Reply}
use Rattle.grammar.specs.declared.reply.Reply.TheVariants.{Taken, Refused}
use Rattle.grammar.specs.Grammars.{Grammar, Move, takes, does, turns, stops, ends, move, effort, Step, taken, refused, doing, after_move, step}
use Rattle.grammar.specs.Reading.{step_of, after_actions, Moved}
use Rattle.grammar.proofs.Clean.{IsBounded}
use Rattle.grammar.proofs.Moves.{turns-effort, does-effort}
use Rattle.grammar.proofs.Steps.{first-move}

pub moved-nothing : (g : Grammar) (next : Option ℕ) (l left : List Symbol) (r : Reply) (old : List ℕ) → l ≡ [] → left ≡ [] → Moved (move g [] next) (Some r) [] old old → Moved (move g l next) (Some r) left old old
moved-nothing g next l left r old a b m = subst (λ x. Moved (move g x next) (Some r) left old old) (sym a) (subst (λ x. Moved (move g [] next) (Some r) x old old) (sym b) m)

pub moved-token : (g : Grammar) (next : Option ℕ) (l left : List Symbol) (s : Symbol) (k : ℕ) (r : Reply) (old : List ℕ) → l ≡ s ∷ left → s ≡ Token k → Moved (move g (Token k ∷ left) next) (Some r) left old old → Moved (move g l next) (Some r) left old old
moved-token g next l left s k r old a b m = subst (λ x. Moved (move g x next) (Some r) left old old) (sym (a ∙ ap (λ y. y ∷ left) b)) m

actions-doing : (old : List ℕ) (a : ℕ) (x : Step) → after_actions old (doing a x) ≡ after_actions (old ++ a ∷ []) x
actions-doing old a (taken actions left) = ap (λ y. taken y left) (sym (append_assoc old (a ∷ []) actions))
actions-doing old a (refused actions) = ap refused (sym (append_assoc old (a ∷ []) actions))

pub moved-more : (g : Grammar) → IsBounded g → (s s' : List Symbol) (next : Option ℕ) (old new : List ℕ) → Moved (move g s next) None s' old new
    → (after_actions old (step g s next) ≡ after_actions new (step g s' next)) × (effort g s' < effort g s)
moved-more g c s s' next old new m =
    elim (move g s next) as (λ v. move g s next ≡ v → Moved v None s' old new → (after_actions old (step g s next) ≡ after_actions new (step g s' next)) × (effort g s' < effort g s)) [
      | takes left ↦ λ is h. absurd h
      | does a left ↦ λ is h. (
        ap (after_actions old) (first-move g c s next ∙ ap (λ v. after_move v (λ y. step g y next)) is)
            ∙ (actions-doing old a (step g left next) ∙ (ap (λ y. after_actions y (step g left next)) (sym h.1) ∙ ap (λ y. after_actions new (step g y next)) (sym h.0))),
        omega (arith, does-effort g s left next a is, ap (effort g) h.0),
      )
      | turns left ↦ λ is h. (
        ap (after_actions old) (first-move g c s next ∙ ap (λ v. after_move v (λ y. step g y next)) is)
            ∙ (ap (λ y. after_actions y (step g left next)) (sym h.1) ∙ ap (λ y. after_actions new (step g y next)) (sym h.0)),
        omega (arith, turns-effort g c s left next is, ap (effort g) h.0),
      )
      | stops ↦ λ is h. absurd h
      | ends ↦ λ is h. absurd h
    ] refl m

pub moved-last : (g : Grammar) → IsBounded g → (s s' : List Symbol) (next : Option ℕ) (r : Reply) (old new : List ℕ) → Moved (move g s next) (Some r) s' old new → after_actions old (step g s next) ≡ step_of r new s'
moved-last g c s s' next r old new m =
    ap (after_actions old) (first-move g c s next) ∙ by-move (move g s next) r m
  where
    by-move : (v : Move) (r : Reply) → Moved v (Some r) s' old new → after_actions old (after_move v (λ y. step g y next)) ≡ step_of r new s'
    by-move (takes left) Taken h = ap (λ y. taken y left) (append-nil old ∙ sym h.1) ∙ ap (taken new) (sym h.0)
    by-move (takes left) Refused h = absurd h
    by-move (does a left) r h = absurd h
    by-move (turns left) r h = absurd h
    by-move stops Taken h = absurd h
    by-move stops Refused h = ap refused (append-nil old ∙ sym h)
    by-move ends Taken h = ap (λ y. taken y []) (append-nil old ∙ sym h.1) ∙ ap (taken new) (sym h.0)
    by-move ends Refused h = absurd h
