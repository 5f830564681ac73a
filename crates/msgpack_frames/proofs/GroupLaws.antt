-- A group that is read is the group that was written, and a refusal stays.
use Rattle.std.proofs.Common.{◌≡◌, ℕ, zero, suc, ◌+◌, ◌^◌, ◌<◌, ◌≤◌, ◌⊎◌, Bool, true, false, cond, ltb, eqb, ◌||◌, List, [], ◌∷◌, ◌++◌, length, take, drop, map, Option, Some, None, Result, Ok, Err, refl, sym, ap, subst, ◌∙◌, append_assoc, arith, inl, inr}
use Rattle.std.specs.Int.{w64, from_le_bytes}
use Rattle.std.proofs.lemmas.Bool.{ltb-false, le-ltb, eqb-false, ne_eqb, or_parts, or_from}
use Rattle.std.proofs.lemmas.List.{take_at, drop_at, take-append-drop, length-append, length-take, length-drop, drop-drop, take-append-le, drop-append-le}
use Rattle.std.proofs.lemmas.Nat.{le_bytes_8, from_le_bytes-to_le_bytes_8}
use Rattle.msgpack_frames.specs.declared.error.FrameError.{FrameError}
use Rattle.msgpack_frames.specs.declared.error.FrameError.TheVariants.{TooMany, TooLong, OutOfMemory}
use Rattle.std.specs.Prelude.{IfOk, IfErr}
use Rattle.msgpack_frames.specs.declared.group.Stop.{Stop}
use Rattle.msgpack_frames.specs.declared.group.Stop.TheVariants as stops
use Rattle.msgpack_frames.specs.Reading.{◌>>=◌}
use Rattle.msgpack_frames.specs.Groups.{Group, max_frames, frame_limit, AreWithin, IsGroup, number, lens_bytes, frames_bytes, group_bytes, Take, wanted, Stops, Takes, number_at, count_at, len_at, lens_at, total, cut, frames_at, group_at}
use Rattle.msgpack_frames.proofs.Numbers.{IsBytes, IsBytes-take, IsBytes-drop, bind_ok, guard_ok, ok_is}

-- ---- numbers

number_takes : (bytes : List ℕ) (x : ℕ × List ℕ) → IsBytes bytes → number_at bytes ≡ Ok x → (bytes ≡ number x.0 ++ x.1) × IsBytes x.1
number_takes bytes x fits e =
    let g = guard_ok (ltb (length bytes) 8) None (Ok (from_le_bytes w64 (take 8 bytes), drop 8 bytes)) x e in
    let long : 8 ≤ length bytes = ltb-false _ _ g.0 in
    let n = from_le_bytes w64 (take 8 bytes) in
    let front : number n ≡ take 8 bytes = le_bytes_8 (take 8 bytes) n (omega (arith, length-take 8 bytes)) (IsBytes-take 8 bytes fits) refl in
    subst (λ (y : ℕ × List ℕ). (bytes ≡ number y.0 ++ y.1) × IsBytes y.1) (ok_is {E = Option FrameError} (n, drop 8 bytes) x g.1)
    (sym (take-append-drop 8 bytes) ∙ ap (λ (t : List ℕ). t ++ drop 8 bytes) (sym front), IsBytes-drop 8 bytes fits)

front_again : (front rest : List ℕ) (n : ℕ) → length front ≡ 8 → from_le_bytes w64 front ≡ n → number_at (front ++ rest) ≡ Ok (n, rest)
front_again front rest n len is =
    let long : ltb (length (front ++ rest)) 8 ≡ false = le-ltb _ _ (omega (arith, length-append front rest)) in
    rw (long, take_at front rest 8 len, drop_at front rest 8 len, is) refl

number_again : (n : ℕ) (rest : List ℕ) → n < 2 ^ 64 → number_at (number n ++ rest) ≡ Ok (n, rest)
number_again n rest lt = front_again (number n) rest n refl (from_le_bytes-to_le_bytes_8 n lt)

number_further : (bytes more : List ℕ) (x : ℕ × List ℕ) → number_at bytes ≡ Ok x → number_at (bytes ++ more) ≡ Ok (x.0, x.1 ++ more)
number_further bytes more x e =
    let g = guard_ok (ltb (length bytes) 8) None (Ok (from_le_bytes w64 (take 8 bytes), drop 8 bytes)) x e in
    let long : 8 ≤ length bytes = ltb-false _ _ g.0 in
    let longer : ltb (length (bytes ++ more)) 8 ≡ false = le-ltb _ _ (omega (arith, length-append bytes more)) in
    rw (longer, take-append-le 8 bytes more long, drop-append-le 8 bytes more long) (ap (λ (y : ℕ × List ℕ). Ok (y.0, y.1 ++ more)) (ok_is {E = Option FrameError} (from_le_bytes w64 (take 8 bytes), drop 8 bytes) x g.1))

abbrev refused : {A : Type 0} → FrameError → Take A
refused e = Err (Some e)

err_same : {A : Type 0} (d e : FrameError) → refused {A = A} d ≡ refused e → d ≡ e
err_same d e same = cc

-- what stops for want of bytes refuses nothing
never_refused : {A : Type 0} (b : Bool) (x : A × List ℕ) (e : FrameError) → cond b wanted (Ok x) ≡ refused e → ⊥
never_refused true x e h = cc
never_refused false x e h = cc

-- where a chain of steps refused
bind_refused : {A B : Type 0} (r : Take A) (f : (A × List ℕ) → Take B) (e : FrameError) → (r >>= f) ≡ refused e → (r ≡ refused e) ⊎ ((x : A × List ℕ) × (r ≡ Ok x) × (f x ≡ refused e))
bind_refused (Ok x) f e h = inr (x, refl, h)
bind_refused (Err None) f e h = absurd cc
bind_refused (Err (Some d)) f e h = inl (ap (λ (c : FrameError). Err (Some c)) (err_same d e h))

-- ---- how many frames

abbrev is_wrong : ℕ → Bool
is_wrong n = eqb n 0 || ltb max_frames n

count_takes : (bytes : List ℕ) (x : ℕ × List ℕ) → IsBytes bytes → count_at bytes ≡ Ok x → (bytes ≡ number x.0 ++ x.1) × (0 < x.0) × (x.0 ≤ max_frames) × IsBytes x.1
unfolding count_at
count_takes bytes x fits e =
    let a = bind_ok (number_at bytes) (λ n. cond (is_wrong n.0) (refused (TooMany n.0)) (Ok n)) x e in
    let g = guard_ok (is_wrong a.0.0) (Some (TooMany a.0.0)) (Ok a.0) x a.2 in
    let parts = or_parts (eqb a.0.0 0) (ltb max_frames a.0.0) g.0 in
    let p = number_takes bytes a.0 fits a.1 in
    let some : a.0.0 ≡ 0 → ⊥ = eqb-false a.0.0 0 parts.0 in
    subst (λ (y : ℕ × List ℕ). (bytes ≡ number y.0 ++ y.1) × (0 < y.0) × (y.0 ≤ max_frames) × IsBytes y.1) (ok_is {E = Option FrameError} a.0 x g.1) (p.0, omega arith, ltb-false max_frames a.0.0 parts.1, p.1)

count_again : (n : ℕ) (rest : List ℕ) → 0 < n → n ≤ max_frames → count_at (number n ++ rest) ≡ Ok (n, rest)
unfolding count_at
count_again n rest lt le =
    let right : is_wrong n ≡ false = or_from (eqb n 0) (ltb max_frames n) (ne_eqb n 0 (λ e. omega arith)) (le-ltb max_frames n le) in
    rw (number_again n rest (omega arith), right) refl

count_further : (bytes more : List ℕ) (x : ℕ × List ℕ) → count_at bytes ≡ Ok x → count_at (bytes ++ more) ≡ Ok (x.0, x.1 ++ more)
unfolding count_at
count_further bytes more x e =
    let a = bind_ok (number_at bytes) (λ n. cond (is_wrong n.0) (refused (TooMany n.0)) (Ok n)) x e in
    let g = guard_ok (is_wrong a.0.0) (Some (TooMany a.0.0)) (Ok a.0) x a.2 in
    rw (number_further bytes more a.0 a.1, g.0) (ap (λ (y : ℕ × List ℕ). Ok (y.0, y.1 ++ more)) (ok_is {E = Option FrameError} a.0 x g.1))

test_refused : {A : Type 0} (b : Bool) (d e : FrameError) (x : A × List ℕ) → cond b (refused d) (Ok x) ≡ refused e → (b ≡ true) × (d ≡ e)
test_refused true d e x h = (refl, err_same d e h)
test_refused false d e x h = absurd cc

count_stays : (bytes more : List ℕ) (e : FrameError) → count_at bytes ≡ refused e → count_at (bytes ++ more) ≡ refused e
unfolding count_at
count_stays bytes more e h =
    elim (bind_refused (number_at bytes) (λ n. cond (is_wrong n.0) (refused (TooMany n.0)) (Ok n)) e h) [
      | inl stop ↦ absurd (never_refused _ _ e stop)
      | inr x ↦
          let t = test_refused (is_wrong x.0.0) (TooMany x.0.0) e x.0 x.2 in
          rw (number_further bytes more x.0 x.1, t.0) (ap (λ (d : FrameError). refused d) t.1)
    ]

-- ---- lengths

abbrev lens_front : List ℕ → List ℕ
lens_front [] = []
lens_front (len ∷ lens) = number len ++ lens_front lens

abbrev LensWithin : ℕ → List ℕ → Type 0
LensWithin i [] = Unit {0}
LensWithin i (len ∷ lens) = (len ≤ frame_limit i) × LensWithin (suc i) lens

len_takes : (i : ℕ) (bytes : List ℕ) (x : ℕ × List ℕ) → IsBytes bytes → len_at i bytes ≡ Ok x → (bytes ≡ number x.0 ++ x.1) × (x.0 ≤ frame_limit i) × IsBytes x.1
unfolding len_at
len_takes i bytes x fits e =
    let a = bind_ok (number_at bytes) (λ n. cond (ltb (frame_limit i) n.0) (refused (TooLong n.0)) (Ok n)) x e in
    let g = guard_ok (ltb (frame_limit i) a.0.0) (Some (TooLong a.0.0)) (Ok a.0) x a.2 in
    let p = number_takes bytes a.0 fits a.1 in
    subst (λ (y : ℕ × List ℕ). (bytes ≡ number y.0 ++ y.1) × (y.0 ≤ frame_limit i) × IsBytes y.1) (ok_is {E = Option FrameError} a.0 x g.1) (p.0, ltb-false (frame_limit i) a.0.0 g.0, p.1)

limit_fits : (i : ℕ) → frame_limit i < 2 ^ 64
limit_fits zero = omega arith
limit_fits (suc i) = omega arith

len_again : (i n : ℕ) (rest : List ℕ) → n ≤ frame_limit i → len_at i (number n ++ rest) ≡ Ok (n, rest)
unfolding len_at
len_again i n rest le = rw (number_again n rest (omega (arith, limit_fits i)), le-ltb (frame_limit i) n le) refl

len_further : (i : ℕ) (bytes more : List ℕ) (x : ℕ × List ℕ) → len_at i bytes ≡ Ok x → len_at i (bytes ++ more) ≡ Ok (x.0, x.1 ++ more)
unfolding len_at
len_further i bytes more x e =
    let a = bind_ok (number_at bytes) (λ n. cond (ltb (frame_limit i) n.0) (refused (TooLong n.0)) (Ok n)) x e in
    let g = guard_ok (ltb (frame_limit i) a.0.0) (Some (TooLong a.0.0)) (Ok a.0) x a.2 in
    rw (number_further bytes more a.0 a.1, g.0) (ap (λ (y : ℕ × List ℕ). Ok (y.0, y.1 ++ more)) (ok_is {E = Option FrameError} a.0 x g.1))

len_stays : (i : ℕ) (bytes more : List ℕ) (e : FrameError) → len_at i bytes ≡ refused e → len_at i (bytes ++ more) ≡ refused e
unfolding len_at
len_stays i bytes more e h =
    elim (bind_refused (number_at bytes) (λ n. cond (ltb (frame_limit i) n.0) (refused (TooLong n.0)) (Ok n)) e h) [
      | inl stop ↦ absurd (never_refused _ _ e stop)
      | inr x ↦
          let t = test_refused (ltb (frame_limit i) x.0.0) (TooLong x.0.0) e x.0 x.2 in
          rw (number_further bytes more x.0 x.1, t.0) (ap (λ (d : FrameError). refused d) t.1)
    ]

lens_take : (i n : ℕ) (bytes : List ℕ) (x : List ℕ × List ℕ) → IsBytes bytes → lens_at i n bytes ≡ Ok x → (bytes ≡ lens_front x.0 ++ x.1) × (length x.0 ≡ n) × LensWithin i x.0 × IsBytes x.1
unfolding lens_at
lens_take i zero bytes x fits e =
    subst (λ (y : List ℕ × List ℕ). (bytes ≡ lens_front y.0 ++ y.1) × (length y.0 ≡ 0) × LensWithin i y.0 × IsBytes y.1) (ok_is {E = Option FrameError} ([], bytes) x e) (refl, refl, tt, fits)
lens_take i (suc n) bytes x fits e =
    let a = bind_ok (len_at i bytes) (λ len. lens_at (suc i) n len.1 >>= λ others. Ok (len.0 ∷ others.0, others.1)) x e in
    let b = bind_ok (lens_at (suc i) n a.0.1) (λ others. Ok (a.0.0 ∷ others.0, others.1)) x a.2 in
    let p = len_takes i bytes a.0 fits a.1 in
    let q = lens_take (suc i) n a.0.1 b.0 p.2 b.1 in
    subst (λ (y : List ℕ × List ℕ). (bytes ≡ lens_front y.0 ++ y.1) × (length y.0 ≡ suc n) × LensWithin i y.0 × IsBytes y.1) (ok_is {E = Option FrameError} (a.0.0 ∷ b.0.0, b.0.1) x b.2)
    (p.0 ∙ ap (λ (t : List ℕ). number a.0.0 ++ t) q.0 ∙ sym (append_assoc (number a.0.0) (lens_front b.0.0) b.0.1), ap suc q.1, (p.1, q.2), q.3)

lens_again : (i : ℕ) (g : Group) (rest : List ℕ) → AreWithin i g → lens_at i (length g) (lens_bytes g ++ rest) ≡ Ok (map length g, rest)
unfolding lens_at
lens_again i [] rest within = refl
lens_again i (frame ∷ frames) rest within =
    ap (lens_at i (suc (length frames))) (append_assoc (number (length frame)) (lens_bytes frames) rest)
    ∙ rw (len_again i (length frame) (lens_bytes frames ++ rest) within.0, lens_again (suc i) frames rest within.1) refl

lens_further : (i n : ℕ) (bytes more : List ℕ) (x : List ℕ × List ℕ) → lens_at i n bytes ≡ Ok x → lens_at i n (bytes ++ more) ≡ Ok (x.0, x.1 ++ more)
unfolding lens_at
lens_further i zero bytes more x e = ap (λ (y : List ℕ × List ℕ). Ok (y.0, y.1 ++ more)) (ok_is {E = Option FrameError} ([], bytes) x e)
lens_further i (suc n) bytes more x e =
    let a = bind_ok (len_at i bytes) (λ len. lens_at (suc i) n len.1 >>= λ others. Ok (len.0 ∷ others.0, others.1)) x e in
    let b = bind_ok (lens_at (suc i) n a.0.1) (λ others. Ok (a.0.0 ∷ others.0, others.1)) x a.2 in
    rw (len_further i bytes more a.0 a.1, lens_further (suc i) n a.0.1 more b.0 b.1) (ap (λ (y : List ℕ × List ℕ). Ok (y.0, y.1 ++ more)) (ok_is {E = Option FrameError} (a.0.0 ∷ b.0.0, b.0.1) x b.2))

lens_stay : (i n : ℕ) (bytes more : List ℕ) (e : FrameError) → lens_at i n bytes ≡ refused e → lens_at i n (bytes ++ more) ≡ refused e
unfolding lens_at
lens_stay i zero bytes more e h = absurd cc
lens_stay i (suc n) bytes more e h =
    elim (bind_refused (len_at i bytes) (λ len. lens_at (suc i) n len.1 >>= λ others. Ok (len.0 ∷ others.0, others.1)) e h) [
      | inl stop ↦ rw (len_stays i bytes more e stop) refl
      | inr x ↦ elim (bind_refused (lens_at (suc i) n x.0.1) (λ others. Ok (x.0.0 ∷ others.0, others.1)) e x.2) [
        | inl stop ↦ rw (len_further i bytes more x.0 x.1, lens_stay (suc i) n x.0.1 more e stop) refl
        | inr y ↦ absurd (cc y.2)
      ]
    ]

-- ---- frames

-- the frames that are cut are those lengths, and what they leave
cut_parts : (i : ℕ) (lens bytes : List ℕ) → total lens ≤ length bytes → LensWithin i lens
    → AreWithin i (cut lens bytes) × (lens_front lens ≡ lens_bytes (cut lens bytes)) × (length (cut lens bytes) ≡ length lens) × (frames_bytes (cut lens bytes) ++ drop (total lens) bytes ≡ bytes)
cut_parts i [] bytes le within = (tt, refl, refl, refl)
cut_parts i (len ∷ lens) bytes le within =
    let frame = take len bytes in
    let size : length frame ≡ len = omega (arith, length-take len bytes) in
    let p = cut_parts (suc i) lens (drop len bytes) (omega (arith, length-drop len bytes)) within.1 in
    let others = cut lens (drop len bytes) in
    let rest : drop (len + total lens) bytes ≡ drop (total lens) (drop len bytes) = sym (drop-drop (total lens) len bytes) in (
      (omega (arith, within.0), p.0),
      ap (λ (n : ℕ). number n ++ lens_front lens) (sym size) ∙ ap (λ (t : List ℕ). number (length frame) ++ t) p.1,
      ap suc p.2,
      ap (λ (t : List ℕ). (frame ++ frames_bytes others) ++ t) rest ∙ append_assoc frame (frames_bytes others) (drop (total lens) (drop len bytes)) ∙ ap (λ (t : List ℕ). frame ++ t) p.3 ∙ take-append-drop len bytes,
    )

total-lengths : (g : Group) → total (map length g) ≡ length (frames_bytes g)
total-lengths [] = refl
total-lengths (frame ∷ frames) = ap (λ (n : ℕ). length frame + n) (total-lengths frames) ∙ sym (length-append frame (frames_bytes frames))

cut_again : (g : Group) (rest : List ℕ) → cut (map length g) (frames_bytes g ++ rest) ≡ g
cut_again [] rest = refl
cut_again (frame ∷ frames) rest =
    let regrouped = append_assoc frame (frames_bytes frames) rest in
    ap (cut (length frame ∷ map length frames)) regrouped
    ∙ rw (take_at frame (frames_bytes frames ++ rest) (length frame) refl, drop_at frame (frames_bytes frames ++ rest) (length frame) refl, cut_again frames rest) refl

frames_again : (g : Group) (rest : List ℕ) → frames_at (map length g) (frames_bytes g ++ rest) ≡ Ok (g, rest)
unfolding frames_at
frames_again g rest =
    let len = total-lengths g in
    let room : ltb (length (frames_bytes g ++ rest)) (total (map length g)) ≡ false = le-ltb _ _ (omega (arith, len, length-append (frames_bytes g) rest)) in
    rw (room, cut_again g rest, drop_at (frames_bytes g) rest (total (map length g)) (sym len)) refl

-- ---- groups

pub group_takes : (bytes : List ℕ) (x : Group × List ℕ) → IsBytes bytes → group_at bytes ≡ Ok x → IsGroup x.0 × (bytes ≡ group_bytes x.0 ++ x.1)
unfolding group_at frames_at group_bytes
group_takes bytes x fits e =
    let a = bind_ok (count_at bytes) (λ count. lens_at 0 count.0 count.1 >>= λ lens. frames_at lens.0 lens.1) x e in
    let b = bind_ok (lens_at 0 a.0.0 a.0.1) (λ lens. frames_at lens.0 lens.1) x a.2 in
    let p = count_takes bytes a.0 fits a.1 in
    let q = lens_take 0 a.0.0 a.0.1 b.0 p.3 b.1 in
    let g = guard_ok (ltb (length b.0.1) (total b.0.0)) None (Ok (cut b.0.0 b.0.1, drop (total b.0.0) b.0.1)) x b.2 in
    let c = cut_parts 0 b.0.0 b.0.1 (ltb-false _ _ g.0) q.2 in
    let frames = cut b.0.0 b.0.1 in
    let rest = drop (total b.0.0) b.0.1 in
    let count : a.0.0 ≡ length frames = sym (c.2 ∙ q.1) in
    let whole : bytes ≡ (number (length frames) ++ (lens_bytes frames ++ frames_bytes frames)) ++ rest =
    p.0 ∙ ap (λ (n : ℕ). number n ++ a.0.1) count ∙ ap (λ (t : List ℕ). number (length frames) ++ t) (q.0 ∙ ap (λ (t : List ℕ). lens_front b.0.0 ++ t) (sym c.3) ∙ ap (λ (t : List ℕ). t ++ (frames_bytes frames ++ rest)) c.1 ∙ sym (append_assoc (lens_bytes frames) (frames_bytes frames) rest))
    ∙ sym (append_assoc (number (length frames)) (lens_bytes frames ++ frames_bytes frames) rest) in
    subst (λ (y : Group × List ℕ). IsGroup y.0 × (bytes ≡ (number (length y.0) ++ (lens_bytes y.0 ++ frames_bytes y.0)) ++ y.1)) (ok_is {E = Option FrameError} (frames, rest) x g.1)
    (record { some = omega arith; few = omega arith; within = c.0 }, whole)

pub group_again : (g : Group) (rest : List ℕ) → IsGroup g → group_at (group_bytes g ++ rest) ≡ Ok (g, rest)
unfolding group_at group_bytes
group_again g rest is =
    let regrouped : (number (length g) ++ (lens_bytes g ++ frames_bytes g)) ++ rest ≡ number (length g) ++ (lens_bytes g ++ (frames_bytes g ++ rest)) =
    append_assoc (number (length g)) (lens_bytes g ++ frames_bytes g) rest ∙ ap (λ (t : List ℕ). number (length g) ++ t) (append_assoc (lens_bytes g) (frames_bytes g) rest) in
    ap (λ (t : List ℕ). count_at t >>= λ count. lens_at 0 count.0 count.1 >>= λ lens. frames_at lens.0 lens.1) regrouped
    ∙ rw (count_again (length g) (lens_bytes g ++ (frames_bytes g ++ rest)) is.some is.few, lens_again 0 g (frames_bytes g ++ rest) is.within) (frames_again g rest)

pub group_stays : (bytes more : List ℕ) (e : FrameError) → group_at bytes ≡ Err (Some e) → group_at (bytes ++ more) ≡ Err (Some e)
unfolding group_at frames_at
group_stays bytes more e h =
    elim (bind_refused (count_at bytes) (λ count. lens_at 0 count.0 count.1 >>= λ lens. frames_at lens.0 lens.1) e h) [
      | inl stop ↦ rw (count_stays bytes more e stop) refl
      | inr x ↦ elim (bind_refused (lens_at 0 x.0.0 x.0.1) (λ lens. frames_at lens.0 lens.1) e x.2) [
        | inl stop ↦ rw (count_further bytes more x.0 x.1, lens_stay 0 x.0.0 x.0.1 more e stop) refl
        | inr y ↦ absurd (never_refused _ _ e y.2)
      ]
    ]

pub group_some : (g : Group) → 0 < length (group_bytes g)
unfolding group_bytes
group_some g = omega arith

-- want of memory is no refusal
pub never_memory : (bytes : List ℕ) → group_at bytes ≡ Err (Some OutOfMemory) → ⊥
unfolding group_at frames_at count_at len_at lens_at
never_memory bytes h =
    elim (bind_refused (count_at bytes) (λ count. lens_at 0 count.0 count.1 >>= λ lens. frames_at lens.0 lens.1) OutOfMemory h) [
      | inl stop ↦ never_count bytes stop
      | inr x ↦ elim (bind_refused (lens_at 0 x.0.0 x.0.1) (λ lens. frames_at lens.0 lens.1) OutOfMemory x.2) [
        | inl stop ↦ never_lens 0 x.0.0 x.0.1 stop
        | inr y ↦ never_refused _ _ OutOfMemory y.2
      ]
    ]
  where
    never_count : (bytes : List ℕ) → count_at bytes ≡ refused OutOfMemory → ⊥
    never_count bytes h =
        elim (bind_refused (number_at bytes) (λ n. cond (is_wrong n.0) (refused (TooMany n.0)) (Ok n)) OutOfMemory h) [
          | inl stop ↦ never_refused _ _ OutOfMemory stop
          | inr x ↦ let t = test_refused (is_wrong x.0.0) (TooMany x.0.0) OutOfMemory x.0 x.2 in let e : TooMany x.0.0 ≡ OutOfMemory = t.1 in cc e
        ]

    never_len : (i : ℕ) (bytes : List ℕ) → len_at i bytes ≡ refused OutOfMemory → ⊥
    never_len i bytes h =
        elim (bind_refused (number_at bytes) (λ n. cond (ltb (frame_limit i) n.0) (refused (TooLong n.0)) (Ok n)) OutOfMemory h) [
          | inl stop ↦ never_refused _ _ OutOfMemory stop
          | inr x ↦ let t = test_refused (ltb (frame_limit i) x.0.0) (TooLong x.0.0) OutOfMemory x.0 x.2 in let e : TooLong x.0.0 ≡ OutOfMemory = t.1 in cc e
        ]

    never_lens : (i n : ℕ) (bytes : List ℕ) → lens_at i n bytes ≡ refused OutOfMemory → ⊥
    never_lens i zero bytes h = cc
    never_lens i (suc n) bytes h =
        elim (bind_refused (len_at i bytes) (λ len. lens_at (suc i) n len.1 >>= λ others. Ok (len.0 ∷ others.0, others.1)) OutOfMemory h) [
          | inl stop ↦ never_len i bytes stop
          | inr x ↦ elim (bind_refused (lens_at (suc i) n x.0.1) (λ others. Ok (x.0.0 ∷ others.0, others.1)) OutOfMemory x.2) [
            | inl stop ↦ never_lens (suc i) n x.0.1 stop
            | inr y ↦ cc y.2
          ]
        ]

-- ---- what a function that reads a group returned

module _ {X : Type 0} (view : X → Group × List ℕ) (bytes : List ℕ) (fits : IsBytes bytes) where
  pub group_parts : (r : Result X Stop) → Takes view r (group_at bytes) → IfOk r (λ x. IsGroup (view x).0 × (bytes ≡ group_bytes (view x).0 ++ (view x).1))
  group_parts (Ok x) h = group_takes bytes (view x) fits h
  group_parts (Err e) h = tt

  pub group_shorter : (r : Result X Stop) → Takes view r (group_at bytes) → IfOk r (λ x. length (view x).1 < length bytes)
  group_shorter (Ok x) h = let p = group_takes bytes (view x) fits h in omega (arith, ap length p.1, length-append (group_bytes (view x).0) (view x).1, group_some (view x).0)
  group_shorter (Err e) h = tt

  pub group_stops : (r : Result X Stop) → Takes view r (group_at bytes) → IfErr r (λ e. Stops e (group_at bytes))
  group_stops (Ok x) h = tt
  group_stops (Err e) h = h

  pub group_refused : (r : Result X Stop) → Takes view r (group_at bytes) → IfErr r (λ e. e ≡ stops.At (Some OutOfMemory) → ⊥)
  group_refused (Ok x) h = tt
  group_refused (Err stops.Memory) h = λ e. cc e
  group_refused (Err (stops.At why)) h = λ e. never_memory bytes (h ∙ ap (λ (w : Option FrameError). Err w) (why_is why e))
    where
      why_is : (why : Option FrameError) → stops.At why ≡ stops.At (Some OutOfMemory) → why ≡ Some OutOfMemory
      why_is why e = cc e
