-- Marks that are taken away, and the ask that was put in.
use Rattle.std.proofs.Common.{◌≡◌, ℕ, zero, suc, ◌<◌, Bool, true, false, not, ◌&&◌, ◌||◌, List, [], ◌∷◌, refl, ap, ◌∙◌, arith, cond, length, get_or}
use Rattle.std.specs.Prelude.{◌==◌}
use Rattle.std.specs.List.{list_any, insert}
use Rattle.small_facts.proofs.Numbers.{eqb_turned}
use Rattle.small_facts.proofs.Truth.{or_regroup, or_swap, cond_same}
use Rattle.cluster_rules.specs.Worker.{Ask, names_key, is_asked_for, without_ask}
use Rattle.open_asks.specs.Flying.{names_to}

pub and_mark : (b : Bool) (k key : ℕ) → cond (k == key) false b ≡ (b && not (key == k))
and_mark true k key = pick (k == key) (key == k) (eqb_turned k key)
  where
    pick : (s t : Bool) → s ≡ t → cond s false true ≡ not t
    pick true true e = refl
    pick true false e = cc
    pick false true e = cc
    pick false false e = refl
and_mark false k key = cond_same (k == key) false

pub left_over : (n r : Bool) → (((n || r) && not n) || r) ≡ r
left_over true r = refl
left_over false true = refl
left_over false false = refl

-- the ask that was put in is at its place
pub put_in : (bs : List Ask) (a d : Ask) (n : ℕ) → n < suc (length bs) → get_or (insert bs n a) n d ≡ a
put_in [] a d zero h = refl
put_in [] a d (suc n) h = absurd (omega arith)
put_in (b ∷ bs) a d zero h = refl
put_in (b ∷ bs) a d (suc n) h = put_in bs a d n (omega arith)

-- a key is named by an ask to the peer, or by one of the others
pub asked-split : (asks : List Ask) (p k : ℕ) → is_asked_for asks k ≡ (list_any (names_to p k) asks || is_asked_for (without_ask asks p) k)
asked-split [] p k = refl
asked-split (a ∷ bs) p k = pick (a.peer == p) (asked-split bs p k)
  where
    pick : (t : Bool) → is_asked_for bs k ≡ (list_any (names_to p k) bs || is_asked_for (without_ask bs p) k)
        → (names_key k a || is_asked_for bs k) ≡ (((t && names_key k a) || list_any (names_to p k) bs) || is_asked_for (cond (not t) (a ∷ without_ask bs p) (without_ask bs p)) k)
    pick true r = ap (λ b. names_key k a || b) r ∙ or_regroup (names_key k a) (list_any (names_to p k) bs) (is_asked_for (without_ask bs p) k)
    pick false r = ap (λ b. names_key k a || b) r ∙ or_swap (names_key k a) (list_any (names_to p k) bs) (is_asked_for (without_ask bs p) k)
