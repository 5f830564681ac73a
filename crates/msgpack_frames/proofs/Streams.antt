-- A stream is these groups and no others, in whatever pieces it comes.
use Rattle.std.proofs.Common.{◌≡◌, ℕ, ◌-◌, ◌≤◌, List, [], ◌∷◌, ◌++◌, length, drop, Option, Some, None, Result, Ok, Err, refl, sym, ap, subst, ◌∙◌, append_assoc, arith}
use Rattle.std.proofs.lemmas.List.{append-nil, drop_at, length-append}
use Rattle.small_facts.proofs.Every.{all_join}
use Rattle.msgpack_frames.specs.declared.error.FrameError.{FrameError}
use Rattle.msgpack_frames.specs.Groups.{Group, IsGroup, group_bytes, groups_bytes, group_at, count_at, Reads, Found, Advances, Progress, IsReading}
use Rattle.msgpack_frames.proofs.Numbers.{ok_is}
use Rattle.msgpack_frames.proofs.GroupLaws.{group_again, group_stays}

groups-append : (gs hs : List Group) → groups_bytes (gs ++ hs) ≡ groups_bytes gs ++ groups_bytes hs
groups-append [] hs = refl
groups-append (g ∷ gs) hs = ap (λ (t : List ℕ). group_bytes g ++ t) (groups-append gs hs) ∙ sym (append_assoc (group_bytes g) (groups_bytes gs) (groups_bytes hs))

-- ---- one reading

abbrev answer : Group → List ℕ → Result (Group × List ℕ) (Option FrameError)
answer g rest = Ok (g, rest)

abbrev stop : Option FrameError → Result (Group × List ℕ) (Option FrameError)
stop why = Err why

pub reads_one : (stream : List ℕ) (gs hs : List Group) (r t : List ℕ) (w v : Option FrameError) → Reads stream gs r w → Reads stream hs t v → (gs ≡ hs) × (r ≡ t) × (w ≡ v)
reads_one stream [] [] r t w v p q =
    let same : r ≡ t = sym p.whole ∙ q.whole in
    let why : stop w ≡ stop v = sym p.stopped ∙ ap group_at same ∙ q.stopped in
    (refl, same, cc why)
reads_one stream [] (h ∷ hs) r t w v p q =
    let is : r ≡ group_bytes h ++ (groups_bytes hs ++ t) = sym p.whole ∙ q.whole ∙ append_assoc (group_bytes h) (groups_bytes hs) t in
    let read : answer h (groups_bytes hs ++ t) ≡ stop w = sym (group_again h (groups_bytes hs ++ t) q.each.0) ∙ ap group_at (sym is) ∙ p.stopped in
    absurd (cc read)
reads_one stream (g ∷ gs) [] r t w v p q =
    let is : t ≡ group_bytes g ++ (groups_bytes gs ++ r) = sym q.whole ∙ p.whole ∙ append_assoc (group_bytes g) (groups_bytes gs) r in
    let read : answer g (groups_bytes gs ++ r) ≡ stop v = sym (group_again g (groups_bytes gs ++ r) p.each.0) ∙ ap group_at (sym is) ∙ q.stopped in
    absurd (cc read)
reads_one stream (g ∷ gs) (h ∷ hs) r t w v p q =
    let first : stream ≡ group_bytes g ++ (groups_bytes gs ++ r) = p.whole ∙ append_assoc (group_bytes g) (groups_bytes gs) r in
    let second : stream ≡ group_bytes h ++ (groups_bytes hs ++ t) = q.whole ∙ append_assoc (group_bytes h) (groups_bytes hs) t in
    let both : answer g (groups_bytes gs ++ r) ≡ answer h (groups_bytes hs ++ t) =
    sym (group_again g (groups_bytes gs ++ r) p.each.0) ∙ ap group_at (sym first ∙ second) ∙ group_again h (groups_bytes hs ++ t) q.each.0 in
    let same = ok_is {E = Option FrameError} (g, groups_bytes gs ++ r) (h, groups_bytes hs ++ t) both in
    let rest : groups_bytes gs ++ r ≡ groups_bytes hs ++ t = ap (λ (x : Group × List ℕ). x.1) same in
    let more = reads_one (groups_bytes gs ++ r) gs hs r t w v (record { each = p.each.1; whole = refl; stopped = p.stopped }) (record { each = q.each.1; whole = rest; stopped = q.stopped }) in
    let head : g ≡ h = ap (λ (x : Group × List ℕ). x.0) same in
    (cc (head, more.0), more.1, more.2)

-- two readers that were fed one stream, in whatever pieces, have the same to give and refuse the same
pub one_reading : (stream : List ℕ) (taken others : List Group) (p q : Progress) → IsReading stream taken p → IsReading stream others q
    → (taken ++ p.ready ≡ others ++ q.ready) × (p.fault ≡ q.fault) × (p.fault ≡ None → p.rest ≡ q.rest)
one_reading stream taken others p q a b =
    let same = reads_one stream (taken ++ p.ready) (others ++ q.ready) a.tail b.tail p.fault q.fault a.reads b.reads in
    (same.0, same.2, λ none. a.kept none ∙ same.1 ∙ sym (b.kept (sym same.2 ∙ none)))

-- ---- a reader

pub begins : (p : Progress) → p.ready ≡ [] → p.rest ≡ [] → p.fault ≡ None → IsReading [] [] p
unfolding group_at count_at
begins p ready rest fault = record {
  tail = [];
  reads = rw (ready, fault) (record { each = tt; whole = refl; stopped = refl });
  kept = λ none. rest;
}

-- more groups, from the bytes that were kept and the piece
pub goes_on : (stream piece : List ℕ) (taken groups : List Group) (old new : Progress) → IsReading stream taken old → old.fault ≡ None
    → new.ready ≡ old.ready ++ groups → Reads (old.rest ++ piece) groups new.rest new.fault → IsReading (stream ++ piece) taken new
goes_on stream piece taken groups old new a none ready reads =
    let front = taken ++ old.ready in
    let all : taken ++ new.ready ≡ front ++ groups = ap (λ (gs : List Group). taken ++ gs) ready ∙ sym (append_assoc taken old.ready groups) in
    let whole : stream ++ piece ≡ groups_bytes (front ++ groups) ++ new.rest =
    ap (λ (t : List ℕ). t ++ piece) a.reads.whole ∙ append_assoc (groups_bytes front) a.tail piece
    ∙ ap (λ (t : List ℕ). groups_bytes front ++ (t ++ piece)) (sym (a.kept none)) ∙ ap (λ (t : List ℕ). groups_bytes front ++ t) reads.whole
    ∙ sym (append_assoc (groups_bytes front) (groups_bytes groups) new.rest) ∙ ap (λ (t : List ℕ). t ++ new.rest) (sym (groups-append front groups)) in
    record {
      tail = new.rest;
      reads = subst (λ (gs : List Group). Reads (stream ++ piece) gs new.rest new.fault) (sym all) (record { each = all_join IsGroup front groups a.reads.each reads.each; whole = whole; stopped = reads.stopped });
      kept = λ none. refl;
    }

-- a refusal, whatever comes behind it
pub stays_refused : (stream piece : List ℕ) (taken : List Group) (p : Progress) (e : FrameError) → IsReading stream taken p → p.fault ≡ Some e → IsReading (stream ++ piece) taken p
stays_refused stream piece taken p e a fault = record {
  tail = a.tail ++ piece;
  reads = record {
    each = a.reads.each;
    whole = ap (λ (t : List ℕ). t ++ piece) a.reads.whole ∙ append_assoc (groups_bytes (taken ++ p.ready)) a.tail piece;
    stopped = group_stays a.tail piece e (a.reads.stopped ∙ ap (λ (w : Option FrameError). Err w) fault) ∙ ap (λ (w : Option FrameError). Err w) (sym fault);
  };
  kept = λ none. absurd (cc (fault, none));
}

-- the first group that is ready, taken
pub one_taken : (stream : List ℕ) (taken : List Group) (g : Group) (old new : Progress) → IsReading stream taken old → old.ready ≡ g ∷ new.ready → new.rest ≡ old.rest → new.fault ≡ old.fault → IsReading stream (taken ++ g ∷ []) new
one_taken stream taken g old new a ready rest fault =
    let all : taken ++ old.ready ≡ (taken ++ g ∷ []) ++ new.ready = ap (λ (gs : List Group). taken ++ gs) ready ∙ sym (append_assoc taken (g ∷ []) new.ready) in
    record {
      tail = a.tail;
      reads = rw fault (subst (λ (gs : List Group). Reads stream gs a.tail old.fault) all a.reads);
      kept = λ none. rest ∙ a.kept (sym fault ∙ none);
    }

-- ---- the groups at the front of some bytes

pub found_none : (bytes : List ℕ) (old : List Group) → Found bytes old old bytes
found_none bytes old = record { groups = []; ready = sym (append-nil old); each = tt; whole = refl }

pub found_more : (bytes : List ℕ) (old new : List Group) (rest : List ℕ) (g : Group) (after : List ℕ) → Found bytes old new rest → IsGroup g → rest ≡ group_bytes g ++ after → Found bytes old (new ++ g ∷ []) after
found_more bytes old new rest g after f is parts = record {
  groups = f.groups ++ g ∷ [];
  ready = ap (λ (gs : List Group). gs ++ g ∷ []) f.ready ∙ append_assoc old f.groups (g ∷ []);
  each = all_join IsGroup f.groups (g ∷ []) f.each (is, tt);
  whole = f.whole ∙ ap (λ (t : List ℕ). groups_bytes f.groups ++ t) (parts ∙ ap (λ (t : List ℕ). t ++ after) (sym (append-nil (group_bytes g))))
      ∙ sym (append_assoc (groups_bytes f.groups) (groups_bytes (g ∷ [])) after) ∙ ap (λ (t : List ℕ). t ++ after) (sym (groups-append f.groups (g ∷ [])));
}

-- the bytes that are left, by how many were taken
pub found_rest : (bytes : List ℕ) (old new : List Group) (rest : List ℕ) → Found bytes old new rest → (length rest ≤ length bytes) × (drop (length bytes - length rest) bytes ≡ rest)
found_rest bytes old new rest f =
    let front = groups_bytes f.groups in
    let len : length front ≡ length bytes - length rest = omega (arith, ap length f.whole, length-append front rest) in
    (omega (arith, ap length f.whole, length-append front rest), ap (drop (length bytes - length rest)) f.whole ∙ drop_at front rest (length bytes - length rest) len)

pub found_all : (bytes : List ℕ) (old new : List Group) (rest : List ℕ) (why : Option FrameError) → Found bytes old new rest → group_at rest ≡ Err why → Advances bytes old new rest why
found_all bytes old new rest why f stopped = record { groups = f.groups; ready = f.ready; reads = record { each = f.each; whole = f.whole; stopped = stopped } }

-- what a reader has after a piece
pub advanced : (stream piece : List ℕ) (taken : List Group) (old new : Progress) → IsReading stream taken old → old.fault ≡ None → Advances (old.rest ++ piece) old.ready new.ready new.rest new.fault → IsReading (stream ++ piece) taken new
advanced stream piece taken old new a none f = goes_on stream piece taken f.groups old new a none f.ready f.reads
