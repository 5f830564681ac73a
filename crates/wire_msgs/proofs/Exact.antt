-- A value that reads as a content is how this content is written.
use Rattle.std.proofs.Common.{◌≡◌, ℕ, ◌^◌, Bool, true, false, cond, nat_lt, List, [], ◌∷◌, map, pos, negsuc, Some, None, Option, Result, Ok, Err, refl, ap, subst, ◌∙◌}
use Rattle.std.specs.Option.{ok_or}
use Rattle.std.specs.Str.{bytes_eq}
use Rattle.small_facts.proofs.Lists.{same_bytes}
use Rattle.small_facts.proofs.Options.{find_passes}
use Rattle.cluster_msgs.specs.declared.messages.Role.{Role}
use Rattle.cluster_msgs.specs.declared.messages.Role.TheVariants.{Scheduler, Worker, Client}
use Rattle.msgpack_frames.specs.Data.{Data, nil, boolean, integer, text, binary, array, dictionary, Items, no_items, item}
use Rattle.msgpack_frames.specs.View.{items_of}
use Rattle.wire_msgs.specs.declared.error.PartError.{PartError}
use Rattle.wire_msgs.specs.declared.error.PartError.TheVariants.{Range}
use Rattle.wire_msgs.specs.Parts.{natural, below, key_in, count_in, number, truth_in, with_first, members_in, list_in, list_data, both, two_in, pair_in, pair_data, role_name, role_named, role_in, role_data}
use Rattle.wire_msgs.specs.Finding.{keys_in, holders_in, who_has_in}
use Rattle.wire_msgs.specs.Written.{keys_data, holders_data, who_has_data}

natural-exact : (d : Data) (n : ℕ) → natural d ≡ Ok n → d ≡ number n
natural-exact nil n h = cc
natural-exact (boolean b) n h = cc
natural-exact (integer (pos k)) n h = let e : k ≡ n = cc in ap number e
natural-exact (integer (negsuc k)) n h = cc
natural-exact (text t) n h = cc
natural-exact (binary t) n h = cc
natural-exact (array ds) n h = cc
natural-exact (dictionary ps) n h = cc

below-cond : (b : Bool) (k n : ℕ) → cond b (Ok k) (Err Range) ≡ Ok n → k ≡ n
below-cond true k n h = cc
below-cond false k n h = absurd (cc)

below-exact : (bound : ℕ) (r : Result ℕ PartError) (n : ℕ) → below bound r ≡ Ok n → r ≡ Ok n
below-exact bound (Ok k) n h = let e : k ≡ n = below-cond (nat_lt k bound) k n h in ap Ok e
below-exact bound (Err e) n h = h

pub key_exact : (d : Data) (n : ℕ) → key_in d ≡ Ok n → d ≡ number n
unfolding key_in
key_exact d n h = natural-exact d n (below-exact (2 ^ 32) (natural d) n h)

pub count_exact : (d : Data) (n : ℕ) → count_in d ≡ Ok n → d ≡ number n
unfolding count_in
count_exact d n h = natural-exact d n (below-exact (2 ^ 64) (natural d) n h)

pub truth_exact : (d : Data) (b : Bool) → truth_in d ≡ Ok b → d ≡ boolean b
truth_exact nil b h = cc
truth_exact (boolean c) b h = let e : c ≡ b = cc in ap boolean e
truth_exact (integer z) b h = cc
truth_exact (text t) b h = cc
truth_exact (binary t) b h = cc
truth_exact (array ds) b h = cc
truth_exact (dictionary ps) b h = cc

first-exact : {X : Type 0} (r : Result X PartError) (rs : Result (List X) PartError) (xs : List X) → with_first r rs ≡ Ok xs → (x : X) × (ys : List X) × (r ≡ Ok x) × (rs ≡ Ok ys) × (x ∷ ys ≡ xs)
first-exact (Ok x) (Ok ys) xs h = (x, ys, refl, refl, cc)
first-exact (Ok x) (Err e) xs h = absurd (cc)
first-exact (Err e) rs xs h = absurd (cc)

module _ {X : Type 0} (one : Data → Result X PartError) (data_of : X → Data) (exact : (d : Data) (x : X) → one d ≡ Ok x → d ≡ data_of x) where
  members-exact : (ds : Items) (xs : List X) → members_in one ds ≡ Ok xs → ds ≡ items_of (map data_of xs)
  members-exact no_items xs h =
      let e : [] ≡ xs = cc in
      ap (λ (ys : List X). items_of (map data_of ys)) e
  members-exact (item d ds) xs h =
      let f = first-exact (one d) (members_in one ds) xs h in
      let head : d ≡ data_of f.0 = exact d f.0 f.2 in
      let tail : ds ≡ items_of (map data_of f.1) = members-exact ds f.1 f.3 in
      ap (λ (c : Data). item c ds) head ∙ ap (item (data_of f.0)) tail ∙ ap (λ (ys : List X). items_of (map data_of ys)) f.4

  pub list_exact : (d : Data) (xs : List X) → list_in one d ≡ Ok xs → d ≡ list_data data_of xs
  list_exact nil xs h = cc
  list_exact (boolean b) xs h = cc
  list_exact (integer z) xs h = cc
  list_exact (text t) xs h = cc
  list_exact (binary t) xs h = cc
  list_exact (array ds) xs h = ap array (members-exact ds xs h)
  list_exact (dictionary ps) xs h = cc

both-exact : {X Y : Type 0} (r : Result X PartError) (s : Result Y PartError) (p : X × Y) → both r s ≡ Ok p → (r ≡ Ok p.0) × (s ≡ Ok p.1)
both-exact (Ok x) (Ok y) p h =
    let e : (x, y) ≡ p = cc in
    (ap (λ (q : _). Ok q.0) e, ap (λ (q : _). Ok q.1) e)
both-exact (Ok x) (Err e) p h = absurd (cc)
both-exact (Err e) s p h = absurd (cc)

module _ {X Y : Type 0} (first : Data → Result X PartError) (second : Data → Result Y PartError) (first_data : X → Data) (second_data : Y → Data)
    (one : (d : Data) (x : X) → first d ≡ Ok x → d ≡ first_data x) (two : (d : Data) (y : Y) → second d ≡ Ok y → d ≡ second_data y) where
  two-exact : (ds : Items) (p : X × Y) → two_in first second ds ≡ Ok p → ds ≡ item (first_data p.0) (item (second_data p.1) no_items)
  two-exact no_items p h = cc
  two-exact (item a no_items) p h = cc
  two-exact (item a (item b no_items)) p h =
      let e = both-exact (first a) (second b) p h in
      let l : a ≡ first_data p.0 = one a p.0 e.0 in
      let r : b ≡ second_data p.1 = two b p.1 e.1 in
      ap (λ (c : Data). item c (item b no_items)) l ∙ ap (λ (c : Data). item (first_data p.0) (item c no_items)) r
  two-exact (item a (item b (item c ds))) p h = cc

  pub pair_exact : (d : Data) (p : X × Y) → pair_in first second d ≡ Ok p → d ≡ pair_data first_data second_data p
  pair_exact nil p h = cc
  pair_exact (boolean b) p h = cc
  pair_exact (integer z) p h = cc
  pair_exact (text t) p h = cc
  pair_exact (binary t) p h = cc
  pair_exact (array ds) p h = ap array (two-exact ds p h)
  pair_exact (dictionary ps) p h = cc

find-passes-cond : {X : Type 0} (test : X → Bool) (b : Bool) (x y : X) (rest : Option X) → test x ≡ b → (rest ≡ Some y → test y ≡ true) → cond b (Some x) rest ≡ Some y → test y ≡ true
find-passes-cond test true x y rest here later h = let e : x ≡ y = cc in subst (λ z. test z ≡ true) e here
find-passes-cond test false x y rest here later h = later h

role-exact-text : (t : List ℕ) (r : Role) (o : Option Role) → role_named t ≡ o → ok_or o Range ≡ Ok r → t ≡ role_name r
unfolding role_named
role-exact-text t r (Some x) h e =
    let same : x ≡ r = cc in
    same_bytes t (role_name r) (find_passes (λ q. bytes_eq t (role_name q)) (Scheduler ∷ Worker ∷ Client ∷ []) r (h ∙ ap Some same))
role-exact-text t r None h e = absurd (cc)

pub role_exact : (d : Data) (r : Role) → role_in d ≡ Ok r → d ≡ role_data r
role_exact nil r h = cc
role_exact (boolean b) r h = cc
role_exact (integer z) r h = cc
role_exact (text t) r h = ap text (role-exact-text t r (role_named t) refl h)
role_exact (binary t) r h = cc
role_exact (array ds) r h = cc
role_exact (dictionary ps) r h = cc

pub keys_exact : (d : Data) (ks : List ℕ) → keys_in d ≡ Ok ks → d ≡ keys_data ks
keys_exact = list_exact key_in number key_exact

pub holders_exact : (d : Data) (hs : List (ℕ × ℕ)) → holders_in d ≡ Ok hs → d ≡ holders_data hs
holders_exact = list_exact (pair_in key_in count_in) (pair_data number number) (pair_exact key_in count_in number number key_exact count_exact)

pub who_has_exact : (d : Data) (ws : List (ℕ × List (ℕ × ℕ))) → who_has_in d ≡ Ok ws → d ≡ who_has_data ws
who_has_exact = list_exact (pair_in key_in holders_in) (pair_data number holders_data) (pair_exact key_in holders_in number holders_data key_exact holders_exact)
