-- A message is made of what stands under its fields.
use Rattle.std.proofs.Common.{◌≡◌, List, Some, None, Option, Result, Ok, Err, refl, ap, subst}
use Rattle.std.specs.List.{AllByRecursion}
use Rattle.cluster_msgs.specs.declared.messages.Down.TheVariants as down
use Rattle.cluster_msgs.specs.declared.messages.Up.TheVariants as up
use Rattle.cluster_msgs.specs.declared.messages.ToClient.TheVariants as to_client
use Rattle.cluster_msgs.specs.declared.messages.FromClient.TheVariants as from_client
use Rattle.cluster_msgs.specs.declared.messages.Peer.TheVariants as peer
use Rattle.cluster_msgs.specs.declared.messages.Message.{Message}
use Rattle.cluster_msgs.specs.declared.messages.Message.TheVariants as message
use Rattle.msgpack_frames.specs.Data.{Data, boolean}
use Rattle.wire_msgs.specs.declared.error.PartError.{PartError}
use Rattle.wire_msgs.specs.declared.error.WireError.{WireError}
use Rattle.wire_msgs.specs.declared.field.Field.{Field}
use Rattle.wire_msgs.specs.declared.field.Field.TheVariants as field
use Rattle.wire_msgs.specs.declared.operation.Operation.{Operation}
use Rattle.wire_msgs.specs.declared.operation.Operation.TheVariants as operation
use Rattle.wire_msgs.specs.Fields.{operation_for, contents_of}
use Rattle.wire_msgs.specs.Finding.{under, keys_in, holders_in, who_has_in}
use Rattle.wire_msgs.specs.Messages.{◌>>=◌, in_field, content, found, message_of}
use Rattle.wire_msgs.specs.Parts.{key_in, count_in, truth_in, role_in, number, role_data}
use Rattle.wire_msgs.specs.Written.{keys_data, holders_data, who_has_data}
use Rattle.wire_msgs.proofs.Exact.{key_exact, count_exact, truth_exact, role_exact, keys_exact, holders_exact, who_has_exact}

-- a message of this operation, whose contents stand under its fields
abbrev Holds : List (Data × Data) → Operation → Message → Type 0
Holds ps op m = (operation_for m ≡ op) × AllByRecursion (λ e. under e.0 ps ≡ Some e.1) (contents_of m)

parsed : {X : Type 0} (f : Field) (r : Result X PartError) (k : X → Result Message WireError) (m : Message) → ((in_field f r) >>= k) ≡ Ok m → (x : X) × (r ≡ Ok x) × (k x ≡ Ok m)
parsed f (Ok x) k m h = (x, refl, h)
parsed f (Err e) k m h = absurd (cc)

taken_from : {X : Type 0} (f : Field) (parse : Data → Result X PartError) (data_of : X → Data) → ((d : Data) (x : X) → parse d ≡ Ok x → d ≡ data_of x) → (o : Option Data) (k : X → Result Message WireError) (m : Message)
    → ((content f parse o) >>= k) ≡ Ok m → (x : X) × (o ≡ Some (data_of x)) × (k x ≡ Ok m)
taken_from f parse data_of exact None k m h = absurd (cc)
taken_from f parse data_of exact (Some d) k m h =
    let p = parsed f (parse d) k m h in
    let e : d ≡ data_of p.0 = exact d p.0 p.1 in
    (p.0, ap Some e, p.2)

taken : {X : Type 0} (f : Field) (parse : Data → Result X PartError) (data_of : X → Data) → ((d : Data) (x : X) → parse d ≡ Ok x → d ≡ data_of x) → (ps : List (Data × Data)) (k : X → Result Message WireError) (m : Message)
    → ((found f parse ps) >>= k) ≡ Ok m → (x : X) × (under f ps ≡ Some (data_of x)) × (k x ≡ Ok m)
unfolding found
taken f parse data_of exact ps k m h = taken_from f parse data_of exact (under f ps) k m h

pub holds : (op : Operation) (ps : List (Data × Data)) (m : Message) → message_of op ps ≡ Ok m → Holds ps op m
unfolding message_of
holds operation.ComputeTask ps m h =
    let a = taken field.Key key_in number key_exact ps _ m h in
    let b = taken field.Attempt count_in number count_exact ps _ m a.2 in
    let c = taken field.WhoHas who_has_in who_has_data who_has_exact ps _ m b.2 in
    let e : (message.Down (down.ComputeTask a.0 b.0 c.0)) ≡ m = cc (c.2) in
    subst (Holds ps operation.ComputeTask) e (refl, (a.1, (b.1, (c.1, tt))))
holds operation.FreeKeys ps m h =
    let a = taken field.Keys keys_in keys_data keys_exact ps _ m h in
    let e : (message.Down (down.FreeKeys a.0)) ≡ m = cc (a.2) in
    subst (Holds ps operation.FreeKeys) e (refl, (a.1, tt))
holds operation.StealRequest ps m h =
    let a = taken field.Key key_in number key_exact ps _ m h in
    let b = taken field.Attempt count_in number count_exact ps _ m a.2 in
    let e : (message.Down (down.StealRequest a.0 b.0)) ≡ m = cc (b.2) in
    subst (Holds ps operation.StealRequest) e (refl, (a.1, (b.1, tt)))
holds operation.RemoveReplicas ps m h =
    let a = taken field.Keys keys_in keys_data keys_exact ps _ m h in
    let e : (message.Down (down.RemoveReplicas a.0)) ≡ m = cc (a.2) in
    subst (Holds ps operation.RemoveReplicas) e (refl, (a.1, tt))
holds operation.AcquireReplicas ps m h =
    let a = taken field.WhoHas who_has_in who_has_data who_has_exact ps _ m h in
    let e : (message.Down (down.AcquireReplicas a.0)) ≡ m = cc (a.2) in
    subst (Holds ps operation.AcquireReplicas) e (refl, (a.1, tt))
holds operation.RefreshWhoHas ps m h =
    let a = taken field.WhoHas who_has_in who_has_data who_has_exact ps _ m h in
    let e : (message.Down (down.RefreshWhoHas a.0)) ≡ m = cc (a.2) in
    subst (Holds ps operation.RefreshWhoHas) e (refl, (a.1, tt))
holds operation.TaskFinished ps m h =
    let a = taken field.Seen count_in number count_exact ps _ m h in
    let b = taken field.Key key_in number key_exact ps _ m a.2 in
    let c = taken field.Attempt count_in number count_exact ps _ m b.2 in
    let e : (message.Up (up.TaskFinished a.0 b.0 c.0)) ≡ m = cc (c.2) in
    subst (Holds ps operation.TaskFinished) e (refl, (a.1, (b.1, (c.1, tt))))
holds operation.TaskErred ps m h =
    let a = taken field.Seen count_in number count_exact ps _ m h in
    let b = taken field.Key key_in number key_exact ps _ m a.2 in
    let c = taken field.Attempt count_in number count_exact ps _ m b.2 in
    let e : (message.Up (up.TaskErred a.0 b.0 c.0)) ≡ m = cc (c.2) in
    subst (Holds ps operation.TaskErred) e (refl, (a.1, (b.1, (c.1, tt))))
holds operation.AddKeys ps m h =
    let a = taken field.Seen count_in number count_exact ps _ m h in
    let b = taken field.Keys keys_in keys_data keys_exact ps _ m a.2 in
    let e : (message.Up (up.AddKeys a.0 b.0)) ≡ m = cc (b.2) in
    subst (Holds ps operation.AddKeys) e (refl, (a.1, (b.1, tt)))
holds operation.ReleaseWorkerData ps m h =
    let a = taken field.Seen count_in number count_exact ps _ m h in
    let b = taken field.Key key_in number key_exact ps _ m a.2 in
    let e : (message.Up (up.ReleaseWorkerData a.0 b.0)) ≡ m = cc (b.2) in
    subst (Holds ps operation.ReleaseWorkerData) e (refl, (a.1, (b.1, tt)))
holds operation.MissingData ps m h =
    let a = taken field.Seen count_in number count_exact ps _ m h in
    let b = taken field.Key key_in number key_exact ps _ m a.2 in
    let c = taken field.Holder key_in number key_exact ps _ m b.2 in
    let d = taken field.Copy count_in number count_exact ps _ m c.2 in
    let e : (message.Up (up.MissingData a.0 b.0 c.0 d.0)) ≡ m = cc (d.2) in
    subst (Holds ps operation.MissingData) e (refl, (a.1, (b.1, (c.1, (d.1, tt)))))
holds operation.RequestRefreshWhoHas ps m h =
    let a = taken field.Seen count_in number count_exact ps _ m h in
    let b = taken field.Key key_in number key_exact ps _ m a.2 in
    let e : (message.Up (up.RequestRefreshWhoHas a.0 b.0)) ≡ m = cc (b.2) in
    subst (Holds ps operation.RequestRefreshWhoHas) e (refl, (a.1, (b.1, tt)))
holds operation.StealResponse ps m h =
    let a = taken field.Seen count_in number count_exact ps _ m h in
    let b = taken field.Key key_in number key_exact ps _ m a.2 in
    let c = taken field.Attempt count_in number count_exact ps _ m b.2 in
    let d = taken field.Yes truth_in boolean truth_exact ps _ m c.2 in
    let e : (message.Up (up.StealResponse a.0 b.0 c.0 d.0)) ≡ m = cc (d.2) in
    subst (Holds ps operation.StealResponse) e (refl, (a.1, (b.1, (c.1, (d.1, tt)))))
holds operation.KeyInMemory ps m h =
    let a = taken field.Key key_in number key_exact ps _ m h in
    let b = taken field.Holders holders_in holders_data holders_exact ps _ m a.2 in
    let e : (message.ToClient (to_client.KeyInMemory a.0 b.0)) ≡ m = cc (b.2) in
    subst (Holds ps operation.KeyInMemory) e (refl, (a.1, (b.1, tt)))
holds operation.LostData ps m h =
    let a = taken field.Key key_in number key_exact ps _ m h in
    let e : (message.ToClient (to_client.LostData a.0)) ≡ m = cc (a.2) in
    subst (Holds ps operation.LostData) e (refl, (a.1, tt))
holds operation.ClientTaskErred ps m h =
    let a = taken field.Key key_in number key_exact ps _ m h in
    let b = taken field.Blame key_in number key_exact ps _ m a.2 in
    let e : (message.ToClient (to_client.ClientTaskErred a.0 b.0)) ≡ m = cc (b.2) in
    subst (Holds ps operation.ClientTaskErred) e (refl, (a.1, (b.1, tt)))
holds operation.Want ps m h =
    let a = taken field.Keys keys_in keys_data keys_exact ps _ m h in
    let e : (message.FromClient (from_client.Want a.0)) ≡ m = cc (a.2) in
    subst (Holds ps operation.Want) e (refl, (a.1, tt))
holds operation.Release ps m h =
    let a = taken field.Keys keys_in keys_data keys_exact ps _ m h in
    let e : (message.FromClient (from_client.Release a.0)) ≡ m = cc (a.2) in
    subst (Holds ps operation.Release) e (refl, (a.1, tt))
holds operation.Missing ps m h =
    let a = taken field.Key key_in number key_exact ps _ m h in
    let b = taken field.Holder key_in number key_exact ps _ m a.2 in
    let c = taken field.Copy count_in number count_exact ps _ m b.2 in
    let e : (message.FromClient (from_client.Missing a.0 b.0 c.0)) ≡ m = cc (c.2) in
    subst (Holds ps operation.Missing) e (refl, (a.1, (b.1, (c.1, tt))))
holds operation.GetData ps m h =
    let a = taken field.Ask count_in number count_exact ps _ m h in
    let b = taken field.Keys keys_in keys_data keys_exact ps _ m a.2 in
    let e : (message.Peer (peer.GetData a.0 b.0)) ≡ m = cc (b.2) in
    subst (Holds ps operation.GetData) e (refl, (a.1, (b.1, tt)))
holds operation.Data ps m h =
    let a = taken field.Ask count_in number count_exact ps _ m h in
    let b = taken field.Found keys_in keys_data keys_exact ps _ m a.2 in
    let e : (message.Peer (peer.Data a.0 b.0)) ≡ m = cc (b.2) in
    subst (Holds ps operation.Data) e (refl, (a.1, (b.1, tt)))
holds operation.Hello ps m h =
    let a = taken field.Role role_in role_data role_exact ps _ m h in
    let b = taken field.Id key_in number key_exact ps _ m a.2 in
    let e : (message.Hello a.0 b.0) ≡ m = cc (b.2) in
    subst (Holds ps operation.Hello) e (refl, (a.1, (b.1, tt)))
