-- The keys that each peer is known to hold: a set for each peer that was named.
use Rattle.std.specs.Prelude.{◌≡◌, ◌==◌, ◌&&◌, ◌≤◌, ◌<◌, ◌^◌, ℕ, Bool, true, false, List, Option, Some, None, is_some, length, cond}
use Rattle.std.specs.List.{list_any}
use Rattle.fact_rows.specs.Rows.{read}
use Rattle.key_sets.specs.Sets.{has, room}

-- how many keys there are, and in the place of each peer the words of its set, if one was made
pub record PeerSets : Type 0 where
  pub keys : ℕ
  pub sets : List (Option (List ℕ))

-- the peer is one of these holders
abbrev pub names : ℕ → List (ℕ × ℕ) → Bool
names p hs = list_any (λ h. h.0 == p) hs

abbrev pub set_has : Option (List ℕ) → ℕ → Bool
set_has None k = false
set_has (Some ks) k = has ks k

-- the peer's set has the key
abbrev pub holds : PeerSets → ℕ → ℕ → Bool
holds s p k = set_has (read s.sets None p) k

-- a set was made for the peer
abbrev pub has_set : PeerSets → ℕ → Bool
has_set s p = is_some (read s.sets None p)

-- each set has room for the keys
pub record AreRoomy (keys : ℕ) (sets : List (Option (List ℕ))) : Type 0 where
  pub few : keys ≤ 2 ^ 20
  pub wide : (p : ℕ) (ks : List ℕ) → read sets None p ≡ Some ks → keys ≤ room ks

-- each of these holders has a set, if it has a place
pub record AreReady (s : PeerSets) (hs : List (ℕ × ℕ)) : Type 0 where
  pub each : (p : ℕ) → names p hs ≡ true → p < length s.sets → has_set s p ≡ true

-- as many keys and places, and whoever had a set has one
pub record IsOver (old new : PeerSets) : Type 0 where
  pub keys : new.keys ≡ old.keys
  pub places : length new.sets ≡ length old.sets
  pub there : (p : ℕ) → has_set old p ≡ true → has_set new p ≡ true

-- no key has come into a set or left one
pub record HoldsSame (old new : PeerSets) : Type 0 where
  pub over : IsOver old new
  pub at : (p k : ℕ) → holds new p k ≡ holds old p k

-- the key is in the sets of these holders or not, and all else is as it was
pub record HoldsPut (key : ℕ) (to : Bool) (hs : List (ℕ × ℕ)) (old new : PeerSets) : Type 0 where
  pub over : IsOver old new
  pub at : (p k : ℕ) → p < length old.sets → holds new p k ≡ cond (k == key && names p hs) to (holds old p k)

-- a key from this one on and below n, if there is one, before which the peer holds none
abbrev pub IsNext : (ℕ → List (ℕ × ℕ)) → ℕ → ℕ → ℕ → Option ℕ → Type 0
IsNext located n p a None = (k : ℕ) → a ≤ k → k < n → names p (located k) ≡ false
IsNext located n p a (Some r) = (a ≤ r) × (r < n) × ((k : ℕ) → a ≤ k → k < r → names p (located k) ≡ false)
