-- Places in lists: of queues by node, and of what is under way.
use Rattle.std.proofs.Common.{◌≡◌, ℕ, zero, suc, ◌+◌, ◌-◌, Bool, true, false, not, List, [], ◌∷◌, ◌++◌, Some, None, refl, sym, ap, ◌∙◌, arith, cond, filter, find, length, get_or}
use Rattle.std.specs.Prelude.{nat_lt}
use Rattle.std.specs.List.{position_or_len, insert, remove, AllByRecursion}
use Rattle.std.proofs.lemmas.Bool.{false≢true}
use Rattle.std.proofs.lemmas.Bool.Decides.{nat_tests}
use Rattle.std.specs.Prelude.{map, ◌==◌}
use Rattle.std.proofs.lemmas.Bool.{eqb-true}
use Rattle.std.proofs.lemmas.List.{map-append, append_assoc}
use Rattle.small_facts.proofs.Numbers.{eqb_turned}
use Rattle.small_facts.proofs.Options.{some_not_none}
use Rattle.cluster_msgs.specs.declared.messages.Message.{Message}
use Rattle.cluster_msgs.specs.declared.messages.Message.TheVariants as message
use Rattle.cluster_msgs.specs.declared.messages.Peer.TheVariants.{GetData, Data}
use Rattle.cluster_msgs.specs.declared.cores.Instruction.{Instruction}
use Rattle.cluster_msgs.specs.declared.cores.Instruction.TheVariants.{Execute, Gather, Keep, Drop, Send}
use Rattle.cluster_msgs.specs.declared.cores.ClientInstruction.{ClientInstruction}
use Rattle.cluster_msgs.specs.declared.cores.ClientInstruction.TheVariants.{Send as ClientSend, Gather as ClientGather}
use Rattle.cluster_msgs.specs.declared.events.Asker.{Asker}
use Rattle.cluster_rules.specs.Functions.{put}
use Rattle.cluster_rules.specs.World.{Parcel, parcel_before, with_parcel}
use Rattle.cluster_rules.specs.WorldStep.{sends, requested, client_sends, client_requested}
use Rattle.message_queues.specs.declared.transit.InTransit.{InTransit}
use Rattle.message_queues.specs.Queues.{waiting}
use Rattle.message_queues.specs.Transit.{parcel_of_transit, parcels, with_transit, IsRequest, IsAnswer}

-- one more queue, with no message, changes nothing
more_none : {A : Type 0} (queues : List (List A)) (k : ℕ) → get_or (queues ++ [] ∷ []) k [] ≡ get_or queues k []
more_none [] zero = refl
more_none [] (suc k) = refl
more_none (x ∷ queues) zero = refl
more_none (x ∷ queues) (suc k) = more_none queues k

pub waiting-more : {A : Type 0} (queues : List (List A)) → waiting (queues ++ [] ∷ []) ≡ waiting queues
waiting-more queues = λ i k. more_none queues k i

-- what a search answers
pub place_some : (b : Bool) (n i : ℕ) → Some i ≡ cond b (Some n) None → (i ≡ n) × (b ≡ true)
place_some true n i h = (let e : i ≡ n = cc in e, refl)
place_some false n i h = absurd (some_not_none i h)

pub with_transit-insert : {B : Type 0} (t : InTransit B) (xs : List (InTransit B)) → insert xs (position_or_len (λ x. parcel_before (parcel_of_transit t) (parcel_of_transit x)) xs) t ≡ with_transit t xs
with_transit-insert t [] = refl
with_transit-insert {B = B} t (x ∷ xs) = pick (parcel_before (parcel_of_transit t) (parcel_of_transit x)) (with_transit-insert t xs)
  where
    n : ℕ
    n = position_or_len (λ (y : InTransit B). parcel_before (parcel_of_transit t) (parcel_of_transit y)) xs

    later : insert (x ∷ xs) (1 + n) t ≡ x ∷ insert xs n t
    later = ap (λ m. insert (x ∷ xs) m t) (let e : 1 + n ≡ suc n = omega arith in e)

    pick : (b : Bool) → insert xs n t ≡ with_transit t xs → insert (x ∷ xs) (cond (not b) (1 + n) 0) t ≡ cond b (t ∷ x ∷ xs) (x ∷ with_transit t xs)
    pick true r = refl
    pick false r = later ∙ ap (λ l. x ∷ l) r

module _ {A : Type 0} (p : A → Bool) where
  suc_is : (n m : ℕ) → suc m ≡ 1 + n → m ≡ n
  suc_is n m e = omega arith

  zero_not : (m : ℕ) → suc m ≡ 0 → ⊥
  zero_not m e = omega arith

  pub record NoneFound (xs : List A) : Type 0 where
    pub nothing : find p xs ≡ None
    pub whole : filter (λ x. not (p x)) xs ≡ xs

  -- where no member passes
  pub none_found : (xs : List A) → length xs ≡ position_or_len p xs → NoneFound xs
  none_found [] e = record { nothing = refl; whole = refl }
  none_found (x ∷ xs) e = let r = pick (p x) e (λ i. none_found xs i) in record { nothing = r.0; whole = r.1 }
    where
      pick : (b : Bool) → suc (length xs) ≡ cond (not b) (1 + position_or_len p xs) 0 → (length xs ≡ position_or_len p xs → NoneFound xs)
          → (cond b (Some x) (find p xs) ≡ None) × (cond (not b) (x ∷ filter (λ y. not (p y)) xs) (filter (λ y. not (p y)) xs) ≡ x ∷ xs)
      pick true e r = absurd (zero_not (length xs) e)
      pick false e r = let h = r (suc_is (position_or_len p xs) (length xs) e) in (h.nothing, ap (λ l. x ∷ l) h.whole)

  -- the first that passes
  pub first_found : (xs : List A) (d : A) → nat_lt (position_or_len p xs) (length xs) ≡ true → find p xs ≡ Some (get_or xs (position_or_len p xs) d)
  first_found [] d e = absurd (false≢true e)
  first_found (x ∷ xs) d e = pick (p x) e (λ i. first_found xs d i)
    where
      n : ℕ
      n = position_or_len p xs

      less : nat_lt (1 + n) (suc (length xs)) ≡ true → nat_lt n (length xs) ≡ true
      less h = grind (arith, nat_tests)

      pick : (b : Bool) → nat_lt (cond (not b) (1 + n) 0) (suc (length xs)) ≡ true → (nat_lt n (length xs) ≡ true → find p xs ≡ Some (get_or xs n d)) → cond b (Some x) (find p xs) ≡ Some (get_or (x ∷ xs) (cond (not b) (1 + n) 0) d)
      pick true e r = refl
      pick false e r = r (less e) ∙ ap (λ m. Some (get_or (x ∷ xs) m d)) (let i : suc n ≡ 1 + n = omega arith in i)

  -- without it the others stay
  pub without_first : (xs : List A) → filter (λ x. not (p x)) (remove xs (position_or_len p xs)) ≡ filter (λ x. not (p x)) xs
  without_first [] = refl
  without_first (x ∷ xs) = pick (p x) refl (without_first xs)
    where
      n : ℕ
      n = position_or_len p xs

      later : remove (x ∷ xs) (1 + n) ≡ x ∷ remove xs n
      later = ap (λ m. remove (x ∷ xs) m) (let e : 1 + n ≡ suc n = omega arith in e)

      pick : (b : Bool) → p x ≡ b → filter (λ y. not (p y)) (remove xs n) ≡ filter (λ y. not (p y)) xs
          → filter (λ y. not (p y)) (remove (x ∷ xs) (cond (not b) (1 + n) 0)) ≡ cond (not b) (x ∷ filter (λ y. not (p y)) xs) (filter (λ y. not (p y)) xs)
      pick true e r = refl
      pick false e r = ap (filter (λ y. not (p y))) later ∙ ap (λ b. cond (not b) (x ∷ filter (λ y. not (p y)) (remove xs n)) (filter (λ y. not (p y)) (remove xs n))) e ∙ ap (λ l. x ∷ l) r

-- what is posted of a list that grows
pub sends-append : (xs ys : List Instruction) → sends (xs ++ ys) ≡ sends xs ++ sends ys
sends-append [] ys = refl
sends-append (Send m ∷ xs) ys = ap (λ l. m ∷ l) (sends-append xs ys)
sends-append (Execute k ∷ xs) ys = sends-append xs ys
sends-append (Gather p n ks ∷ xs) ys = sends-append xs ys
sends-append (Keep k ∷ xs) ys = sends-append xs ys
sends-append (Drop k ∷ xs) ys = sends-append xs ys

pub requested-append : (a : Asker) (xs ys : List Instruction) (qs : List Parcel) → requested a qs (xs ++ ys) ≡ requested a (requested a qs xs) ys
requested-append a [] ys qs = refl
requested-append a (Send m ∷ xs) ys qs = requested-append a xs ys qs
requested-append a (Execute k ∷ xs) ys qs = requested-append a xs ys qs
requested-append a (Gather p n ks ∷ xs) ys qs = requested-append a xs ys (with_parcel (record { asker = a; peer = p; ask = n; keys = ks }) qs)
requested-append a (Keep k ∷ xs) ys qs = requested-append a xs ys qs
requested-append a (Drop k ∷ xs) ys qs = requested-append a xs ys qs

pub client_sends-append : (xs ys : List ClientInstruction) → client_sends (xs ++ ys) ≡ client_sends xs ++ client_sends ys
client_sends-append [] ys = refl
client_sends-append (ClientSend m ∷ xs) ys = ap (λ l. m ∷ l) (client_sends-append xs ys)
client_sends-append (ClientGather p n ks ∷ xs) ys = client_sends-append xs ys

pub client_requested-append : (a : Asker) (xs ys : List ClientInstruction) (qs : List Parcel) → client_requested a qs (xs ++ ys) ≡ client_requested a (client_requested a qs xs) ys
client_requested-append a [] ys qs = refl
client_requested-append a (ClientSend m ∷ xs) ys qs = client_requested-append a xs ys qs
client_requested-append a (ClientGather p n ks ∷ xs) ys qs = client_requested-append a xs ys (with_parcel (record { asker = a; peer = p; ask = n; keys = ks }) qs)

-- parcels stand as what is under way does
pub parcels-with : {B : Type 0} (t : InTransit B) (xs : List (InTransit B)) → parcels (with_transit t xs) ≡ with_parcel (parcel_of_transit t) (parcels xs)
parcels-with t [] = refl
parcels-with t (x ∷ xs) = pick (parcel_before (parcel_of_transit t) (parcel_of_transit x)) (parcels-with t xs)
  where
    pick : (b : Bool) → parcels (with_transit t xs) ≡ with_parcel (parcel_of_transit t) (parcels xs)
        → parcels (cond b (t ∷ x ∷ xs) (x ∷ with_transit t xs)) ≡ cond b (parcel_of_transit t ∷ parcel_of_transit x ∷ parcels xs) (parcel_of_transit x ∷ with_parcel (parcel_of_transit t) (parcels xs))
    pick true r = refl
    pick false r = ap (λ l. parcel_of_transit x ∷ l) r

pub none_more : {A : Type 0} (xs : List A) → xs ≡ xs ++ []
none_more [] = refl
none_more (x ∷ xs) = ap (λ l. x ∷ l) (none_more xs)

-- one more letter, where `of` takes those of one node
module _ {M : Type 0} (wrap : M → Message) (of : ℕ → List (ℕ × M) → List M) (empty : (c : ℕ) → of c [] ≡ [])
    (step : (c : ℕ) (m : ℕ × M) (ms : List (ℕ × M)) → of c (m ∷ ms) ≡ cond (m.0 == c) (m.1 ∷ of c ms) (of c ms)) where
  grown : (c : ℕ) (m : ℕ × M) (ys : List (ℕ × M)) → of c (ys ++ m ∷ []) ≡ of c ys ++ cond (m.0 == c) (m.1 ∷ []) []
  grown c m [] = step c m [] ∙ ap (λ l. cond (m.0 == c) (m.1 ∷ l) l) (empty c) ∙ sym (ap (λ l. l ++ cond (m.0 == c) (m.1 ∷ []) []) (empty c))
  grown c m (y ∷ ys) = step c y (ys ++ m ∷ []) ∙ pick (y.0 == c) (grown c m ys) ∙ sym (ap (λ l. l ++ cond (m.0 == c) (m.1 ∷ []) []) (step c y ys))
    where
      pick : (b : Bool) → of c (ys ++ m ∷ []) ≡ of c ys ++ cond (m.0 == c) (m.1 ∷ []) []
          → cond b (y.1 ∷ of c (ys ++ m ∷ [])) (of c (ys ++ m ∷ [])) ≡ cond b (y.1 ∷ of c ys) (of c ys) ++ cond (m.0 == c) (m.1 ∷ []) []
      pick true r = ap (λ l. y.1 ∷ l) r
      pick false r = r

  pub letter_posted : (before now after : ℕ → List Message) (xs : List (ℕ × M)) (m : ℕ × M)
      → now ≡ (λ c. before c ++ map wrap (of c xs)) → after ≡ put now m.0 (now m.0 ++ wrap m.1 ∷ []) → after ≡ (λ c. before c ++ map wrap (of c (xs ++ m ∷ [])))
  letter_posted before now after xs m h g = λ i c. at_place c i
    where
      -- at its own node, and at the others
      here : (c : ℕ) → m.0 ≡ c → now m.0 ++ wrap m.1 ∷ [] ≡ before c ++ map wrap (of c xs ++ m.1 ∷ [])
      here c e = ap (λ k. now k ++ wrap m.1 ∷ []) e ∙ ap (λ f. f c ++ wrap m.1 ∷ []) h ∙ append_assoc (before c) (map wrap (of c xs)) (wrap m.1 ∷ []) ∙ ap (λ l. before c ++ l) (sym (map-append wrap (of c xs) (m.1 ∷ [])))

      there : (c : ℕ) → now c ≡ before c ++ map wrap (of c xs ++ [])
      there c = ap (λ f. f c) h ∙ ap (λ l. before c ++ map wrap l) (none_more (of c xs))

      pick : (c : ℕ) (b : Bool) → (m.0 == c) ≡ b → cond b (now m.0 ++ wrap m.1 ∷ []) (now c) ≡ before c ++ map wrap (of c xs ++ cond b (m.1 ∷ []) [])
      pick c true e = here c (eqb-true m.0 c e)
      pick c false e = there c

      at_place : (c : ℕ) → after c ≡ before c ++ map wrap (of c (xs ++ m ∷ []))
      at_place c = ap (λ f. f c) g ∙ ap (λ b. cond b (now m.0 ++ wrap m.1 ∷ []) (now c)) (eqb_turned c m.0) ∙ pick c (m.0 == c) refl ∙ ap (λ l. before c ++ map wrap l) (sym (grown c m xs))

-- what holds of each thing under way
pub all_with : {B : Type 0} (P : InTransit B → Type 0) (t : InTransit B) (xs : List (InTransit B)) → P t → AllByRecursion P xs → AllByRecursion P (with_transit t xs)
all_with P t [] p h = (p, tt)
all_with P t (x ∷ xs) p h = pick (parcel_before (parcel_of_transit t) (parcel_of_transit x)) (all_with P t xs p h.1)
  where
    pick : (b : Bool) → AllByRecursion P (with_transit t xs) → AllByRecursion P (cond b (t ∷ x ∷ xs) (x ∷ with_transit t xs))
    pick true r = (p, h)
    pick false r = (h.0, r)

-- what a new request and a new answer carry
pub request_kind : {B : Type 0} (t : InTransit B) (a : Asker) (p n : ℕ) (ks : List ℕ) → parcel_of_transit t ≡ record { asker = a; peer = p; ask = n; keys = ks } → t.message ≡ message.Peer (GetData n ks) → IsRequest t
request_kind t a p n ks e m = m ∙ (λ i. message.Peer (GetData (sym (ap (λ (q : Parcel). q.ask) e) i) (sym (ap (λ (q : Parcel). q.keys) e) i)))

pub answer_kind : {B : Type 0} (t : InTransit B) (a : Asker) (p n : ℕ) (ks : List ℕ) → parcel_of_transit t ≡ record { asker = a; peer = p; ask = n; keys = ks } → t.message ≡ message.Peer (Data n ks) → IsAnswer t
answer_kind t a p n ks e m = m ∙ (λ i. message.Peer (Data (sym (ap (λ (q : Parcel). q.ask) e) i) (sym (ap (λ (q : Parcel). q.keys) e) i)))
