-- A map with the fields of a message, each once, is read as this message, in whatever order they stand.
use Rattle.std.proofs.Common.{◌≡◌, ℕ, zero, suc, ◌<◌, Bool, true, false, cond, List, [], ◌∷◌, length, map, take, get_or, Some, None, Option, Ok, IsSome, refl, sym, ap, ◌∙◌, arith}
use Rattle.std.proofs.lemmas.Option.{slice_get-get_or}
use Rattle.std.specs.List.{slice_get, find, AllByRecursion}
use Rattle.std.specs.Map.{lookup}
use Rattle.std.specs.Result.{result_err}
use Rattle.small_facts.proofs.Options.{find_passes}
use Rattle.cluster_msgs.specs.declared.messages.Down.TheVariants as down
use Rattle.cluster_msgs.specs.declared.messages.Up.TheVariants as up
use Rattle.cluster_msgs.specs.declared.messages.ToClient.TheVariants as to_client
use Rattle.cluster_msgs.specs.declared.messages.FromClient.TheVariants as from_client
use Rattle.cluster_msgs.specs.declared.messages.Peer.TheVariants as peer
use Rattle.cluster_msgs.specs.declared.messages.Message.{Message}
use Rattle.cluster_msgs.specs.declared.messages.Message.TheVariants as message
use Rattle.msgpack_frames.specs.Data.{Data, nil}
use Rattle.wire_msgs.specs.declared.field.Field.{Field}
use Rattle.wire_msgs.specs.declared.field.Field.TheVariants as field
use Rattle.wire_msgs.specs.declared.operation.Operation.{Operation}
use Rattle.wire_msgs.specs.declared.operation.Operation.TheVariants as operation
use Rattle.wire_msgs.specs.Fields.{operation_for, contents_of, HasContents, HasNoOthers, IsMessage}
use Rattle.wire_msgs.specs.Finding.{names, under, flaw_of, field_fault, named_fault, pair_fault, fault_at, first_below}
use Rattle.wire_msgs.specs.Messages.{operation_of, found, message_of, map_answer, answer}
use Rattle.wire_msgs.specs.Names.{op_name, operations, operation_named, fields_of}
use Rattle.wire_msgs.specs.Written.{Reads}
use Rattle.wire_msgs.proofs.Values.{answer-map}

named-self : (op : Operation) → operation_named (op_name op) ≡ Some op
unfolding operation_named operations op_name
named-self operation.ComputeTask = refl
named-self operation.FreeKeys = refl
named-self operation.StealRequest = refl
named-self operation.RemoveReplicas = refl
named-self operation.AcquireReplicas = refl
named-self operation.RefreshWhoHas = refl
named-self operation.TaskFinished = refl
named-self operation.TaskErred = refl
named-self operation.AddKeys = refl
named-self operation.ReleaseWorkerData = refl
named-self operation.MissingData = refl
named-self operation.RequestRefreshWhoHas = refl
named-self operation.StealResponse = refl
named-self operation.KeyInMemory = refl
named-self operation.LostData = refl
named-self operation.ClientTaskErred = refl
named-self operation.Want = refl
named-self operation.Release = refl
named-self operation.Missing = refl
named-self operation.GetData = refl
named-self operation.Data = refl
named-self operation.Hello = refl

fields-listed : (m : Message) → fields_of (operation_for m) ≡ field.Op ∷ map (λ e. e.0) (contents_of m)
unfolding fields_of
fields-listed (message.Down (down.ComputeTask key attempt who_has)) = refl
fields-listed (message.Down (down.FreeKeys keys)) = refl
fields-listed (message.Down (down.StealRequest key attempt)) = refl
fields-listed (message.Down (down.RemoveReplicas keys)) = refl
fields-listed (message.Down (down.AcquireReplicas who_has)) = refl
fields-listed (message.Down (down.RefreshWhoHas who_has)) = refl
fields-listed (message.Up (up.TaskFinished seen key attempt)) = refl
fields-listed (message.Up (up.TaskErred seen key attempt)) = refl
fields-listed (message.Up (up.AddKeys seen keys)) = refl
fields-listed (message.Up (up.ReleaseWorkerData seen key)) = refl
fields-listed (message.Up (up.MissingData seen key holder copy)) = refl
fields-listed (message.Up (up.RequestRefreshWhoHas seen key)) = refl
fields-listed (message.Up (up.StealResponse seen key attempt truth)) = refl
fields-listed (message.ToClient (to_client.KeyInMemory key holders)) = refl
fields-listed (message.ToClient (to_client.LostData key)) = refl
fields-listed (message.ToClient (to_client.ClientTaskErred key blame)) = refl
fields-listed (message.FromClient (from_client.Want keys)) = refl
fields-listed (message.FromClient (from_client.Release keys)) = refl
fields-listed (message.FromClient (from_client.Missing key holder copy)) = refl
fields-listed (message.Peer (peer.GetData ask keys)) = refl
fields-listed (message.Peer (peer.Data ask keys)) = refl
fields-listed (message.Hello role id) = refl

no_flaws : (m : Message) → Reads m → AllByRecursion (λ e. flaw_of e.0 e.1 ≡ None) (contents_of m)
unfolding flaw_of
no_flaws (message.Down (down.ComputeTask key attempt who_has)) h = (ap result_err h.0, (ap result_err h.1, (ap result_err h.2, tt)))
no_flaws (message.Down (down.FreeKeys keys)) h = (ap result_err h, tt)
no_flaws (message.Down (down.StealRequest key attempt)) h = (ap result_err h.0, (ap result_err h.1, tt))
no_flaws (message.Down (down.RemoveReplicas keys)) h = (ap result_err h, tt)
no_flaws (message.Down (down.AcquireReplicas who_has)) h = (ap result_err h, tt)
no_flaws (message.Down (down.RefreshWhoHas who_has)) h = (ap result_err h, tt)
no_flaws (message.Up (up.TaskFinished seen key attempt)) h = (ap result_err h.0, (ap result_err h.1, (ap result_err h.2, tt)))
no_flaws (message.Up (up.TaskErred seen key attempt)) h = (ap result_err h.0, (ap result_err h.1, (ap result_err h.2, tt)))
no_flaws (message.Up (up.AddKeys seen keys)) h = (ap result_err h.0, (ap result_err h.1, tt))
no_flaws (message.Up (up.ReleaseWorkerData seen key)) h = (ap result_err h.0, (ap result_err h.1, tt))
no_flaws (message.Up (up.MissingData seen key holder copy)) h = (ap result_err h.0, (ap result_err h.1, (ap result_err h.2, (ap result_err h.3, tt))))
no_flaws (message.Up (up.RequestRefreshWhoHas seen key)) h = (ap result_err h.0, (ap result_err h.1, tt))
no_flaws (message.Up (up.StealResponse seen key attempt truth)) h = (ap result_err h.0, (ap result_err h.1, (ap result_err h.2, (ap result_err h.3, tt))))
no_flaws (message.ToClient (to_client.KeyInMemory key holders)) h = (ap result_err h.0, (ap result_err h.1, tt))
no_flaws (message.ToClient (to_client.LostData key)) h = (ap result_err h, tt)
no_flaws (message.ToClient (to_client.ClientTaskErred key blame)) h = (ap result_err h.0, (ap result_err h.1, tt))
no_flaws (message.FromClient (from_client.Want keys)) h = (ap result_err h, tt)
no_flaws (message.FromClient (from_client.Release keys)) h = (ap result_err h, tt)
no_flaws (message.FromClient (from_client.Missing key holder copy)) h = (ap result_err h.0, (ap result_err h.1, (ap result_err h.2, tt)))
no_flaws (message.Peer (peer.GetData ask keys)) h = (ap result_err h.0, (ap result_err h.1, tt))
no_flaws (message.Peer (peer.Data ask keys)) h = (ap result_err h.0, (ap result_err h.1, tt))
no_flaws (message.Hello role id) h = (ap result_err h.0, (ap result_err h.1, tt))

made : (ps : List (Data × Data)) (m : Message) → Reads m → AllByRecursion (λ e. under e.0 ps ≡ Some e.1) (contents_of m) → message_of (operation_for m) ps ≡ Ok m
unfolding message_of found
made ps (message.Down (down.ComputeTask key attempt who_has)) h c = rw (c.0, h.0, c.1.0, h.1, c.1.1.0, h.2) refl
made ps (message.Down (down.FreeKeys keys)) h c = rw (c.0, h) refl
made ps (message.Down (down.StealRequest key attempt)) h c = rw (c.0, h.0, c.1.0, h.1) refl
made ps (message.Down (down.RemoveReplicas keys)) h c = rw (c.0, h) refl
made ps (message.Down (down.AcquireReplicas who_has)) h c = rw (c.0, h) refl
made ps (message.Down (down.RefreshWhoHas who_has)) h c = rw (c.0, h) refl
made ps (message.Up (up.TaskFinished seen key attempt)) h c = rw (c.0, h.0, c.1.0, h.1, c.1.1.0, h.2) refl
made ps (message.Up (up.TaskErred seen key attempt)) h c = rw (c.0, h.0, c.1.0, h.1, c.1.1.0, h.2) refl
made ps (message.Up (up.AddKeys seen keys)) h c = rw (c.0, h.0, c.1.0, h.1) refl
made ps (message.Up (up.ReleaseWorkerData seen key)) h c = rw (c.0, h.0, c.1.0, h.1) refl
made ps (message.Up (up.MissingData seen key holder copy)) h c = rw (c.0, h.0, c.1.0, h.1, c.1.1.0, h.2, c.1.1.1.0, h.3) refl
made ps (message.Up (up.RequestRefreshWhoHas seen key)) h c = rw (c.0, h.0, c.1.0, h.1) refl
made ps (message.Up (up.StealResponse seen key attempt truth)) h c = rw (c.0, h.0, c.1.0, h.1, c.1.1.0, h.2, c.1.1.1.0) refl
made ps (message.ToClient (to_client.KeyInMemory key holders)) h c = rw (c.0, h.0, c.1.0, h.1) refl
made ps (message.ToClient (to_client.LostData key)) h c = rw (c.0, h) refl
made ps (message.ToClient (to_client.ClientTaskErred key blame)) h c = rw (c.0, h.0, c.1.0, h.1) refl
made ps (message.FromClient (from_client.Want keys)) h c = rw (c.0, h) refl
made ps (message.FromClient (from_client.Release keys)) h c = rw (c.0, h) refl
made ps (message.FromClient (from_client.Missing key holder copy)) h c = rw (c.0, h.0, c.1.0, h.1, c.1.1.0, h.2) refl
made ps (message.Peer (peer.GetData ask keys)) h c = rw (c.0, h.0, c.1.0, h.1) refl
made ps (message.Peer (peer.Data ask keys)) h c = rw (c.0, h.0, c.1.0, h.1) refl
made ps (message.Hello role id) h c = rw (c.0, h.0, c.1.0, h.1) refl

none-below : {X : Type 0} (f : ℕ → Option X) (n : ℕ) → ((i : ℕ) → i < n → f i ≡ None) → first_below f n ≡ None
none-below f zero h = refl
none-below f (suc n) h =
    let earlier : first_below f n ≡ None = none-below f n (λ i lt. h i (omega arith)) in
    let here : f n ≡ None = h n (omega arith) in
    rw (earlier, here) refl

skip : {X : Type 0} (b : Bool) (x : X) (o : Option X) → cond b (Some x) o ≡ None → (b ≡ false) × (o ≡ None)
skip true x o h = absurd (cc)
skip false x o h = (refl, h)

-- what stands at a place is found there, where nothing stands further left
found_here : (test : Data → Bool) (ps : List (Data × Data)) (i : ℕ) (p : Data × Data) → slice_get ps i ≡ Some p → test p.0 ≡ true → lookup test (take i ps) ≡ None → lookup test ps ≡ Some p.1
found_here test [] i p e passes none = absurd (cc)
found_here test (q ∷ ps) zero p e passes none =
    let same : q ≡ p = cc in
    let here : test q.0 ≡ true = ap (λ (x : Data × Data). test x.0) same ∙ passes in
    rw here (ap (λ (x : Data × Data). Some x.1) same)
found_here test (q ∷ ps) (suc i) p e passes none =
    let s = skip (test q.0) q.1 (lookup test (take i ps)) none in
    rw s.0 (found_here test ps i p e passes s.1)

module _ (ps : List (Data × Data)) (test : Field → Bool) (f : Field) (v : Data) where
  flawless-cond : (b : Bool) (g : Field) (d : Data) (rest : Option Field) → under g ps ≡ Some d → flaw_of g d ≡ None → (rest ≡ Some f → flaw_of f v ≡ None) → cond b (Some g) rest ≡ Some f → under f ps ≡ Some v → flaw_of f v ≡ None
  flawless-cond true g d rest stands none later e u =
      let same : g ≡ f = cc in
      let held : Some d ≡ Some v = sym stands ∙ (ap (λ (x : Field). under x ps) same ∙ u) in
      let content : d ≡ v = cc (held) in
      sym (ap (λ (x : Field). flaw_of x v) same) ∙ (sym (ap (flaw_of g) content) ∙ none)
  flawless-cond false g d rest stands none later e u = later e

  flawless : (es : List (Field × Data)) → AllByRecursion (λ e. under e.0 ps ≡ Some e.1) es → AllByRecursion (λ e. flaw_of e.0 e.1 ≡ None) es → find test (map (λ e. e.0) es) ≡ Some f → under f ps ≡ Some v → flaw_of f v ≡ None
  flawless [] c n e u = absurd (cc)
  flawless (x ∷ es) c n e u = flawless-cond (test x.0) x.0 x.1 (find test (map (λ y. y.0) es)) c.0 n.0 (λ later. flawless es c.1 n.1 later u) e u

op-flawless : (f : Field) (v : Data) → field.Op ≡ f → flaw_of f v ≡ None
unfolding flaw_of
op-flawless f v same = sym (ap (λ (x : Field). flaw_of x v) same)

op-cond : (f : Field) (v : Data) (b : Bool) (rest : Option Field) → (rest ≡ Some f → flaw_of f v ≡ None) → cond b (Some field.Op) rest ≡ Some f → flaw_of f v ≡ None
op-cond f v true rest later e = let same : field.Op ≡ f = cc in op-flawless f v same
op-cond f v false rest later e = later e

module _ (ps : List (Data × Data)) (m : Message) (h : Reads m) (has : HasContents ps m) (only : HasNoOthers ps (operation_for m)) where
  field-flawless : (test : Field → Bool) (f : Field) (v : Data) → find test (fields_of (operation_for m)) ≡ Some f → under f ps ≡ Some v → flaw_of f v ≡ None
  field-flawless test f v e u =
      let listed : find test (field.Op ∷ map (λ x. x.0) (contents_of m)) ≡ Some f = sym (ap (find test) (fields-listed m)) ∙ e in
      op-cond f v (test field.Op) (find test (map (λ x. x.0) (contents_of m))) (λ later. flawless ps test f v (contents_of m) has.contents (no_flaws m h) later u) listed

  named-faultless : (i : ℕ) (p : Data × Data) (o : Option Field) → slice_get ps i ≡ Some p → find (λ f. names f p.0) (fields_of (operation_for m)) ≡ o → IsSome o → named_fault o i (take i ps) p.1 ≡ None
  unfolding field_fault
  named-faultless i p None e o s = absurd (cc)
  named-faultless i p (Some f) e o s =
      let first : under f (take i ps) ≡ None = only.once i p f e o in
      let passes : names f p.0 ≡ true = find_passes (λ g. names g p.0) (fields_of (operation_for m)) f o in
      let here : under f ps ≡ Some p.1 = found_here (names f) ps i p e passes first in
      let none : flaw_of f p.1 ≡ None = field-flawless (λ g. names g p.0) f p.1 o here in
      rw (first, none) refl

  place-faultless : (i : ℕ) → i < length ps → fault_at (operation_for m) ps i ≡ None
  unfolding fault_at pair_fault
  place-faultless i lt =
      let p = get_or ps i (nil, nil) in
      let e : slice_get ps i ≡ Some p = slice_get-get_or ps i (nil, nil) lt in
      rw e (named-faultless i p (find (λ f. names f p.0) (fields_of (operation_for m))) e refl (only.known i p e))

  map-read : map_answer ps ≡ Ok m
  unfolding operation_of
  map-read =
      let faultless : first_below (fault_at (operation_for m) ps) (length ps) ≡ None = none-below (fault_at (operation_for m) ps) (length ps) place-faultless in
      rw (has.operation, named-self (operation_for m), faultless) (made ps m h has.contents)

pub any_order_lem : (d : Data) (m : Message) → Reads m → IsMessage d m → answer d ≡ Ok m
any_order_lem d m h is = ap answer is.map ∙ (answer-map is.pairs ∙ map-read is.pairs m h is.fields is.only)
