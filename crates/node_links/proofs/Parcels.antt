-- Packets whose blocks fit.
use Rattle.std.proofs.Common.{◌≡◌, ℕ, zero, suc, ◌<◌, List, [], ◌∷◌, ◌++◌, length, sym, subst, arith, get_or}
use Rattle.std.specs.List.{AllZip}
use Rattle.std.specs.Arc.{arc_value}
use Rattle.std.specs.declared.sync.Arc.{Arc}
use Rattle.std.specs.declared.alloc.Global.{Global}
use Rattle.cluster_msgs.specs.Jobs.{blocks_of}
use Rattle.cluster_msgs.specs.Labels.{LabelFacts, BlockFits, MessageFits, PacketFits, found}
use Rattle.cluster_msgs.specs.declared.messages.Message.{Message}
use Rattle.cluster_msgs.specs.declared.messages.Message.TheVariants as message
use Rattle.cluster_msgs.specs.declared.messages.Peer.TheVariants.{Data}
use Rattle.cluster_msgs.specs.declared.packets.Packet.{Packet}
use Rattle.node_links.specs.Fits.{ParcelFits}

-- a message without blocks
pub packet_fits : {B : Type 0} (facts : LabelFacts B) (p : Packet B) → MessageFits facts p.message → found p.message ≡ [] → p.blocks ≡ [] → PacketFits facts p
packet_fits facts p fits bare none = record {
  message = fits;
  blocks = subst (λ ks. AllZip (BlockFits facts) ks (blocks_of p.blocks)) (sym bare) (subst (λ bs. AllZip (BlockFits facts) [] (blocks_of bs)) (sym none) tt);
}

-- what came with an answer
pub parcel_fits : {B : Type 0} (facts : LabelFacts B) (p : Packet B) (n : ℕ) (ks : List ℕ) → PacketFits facts p → p.message ≡ message.Peer (Data n ks) → ParcelFits facts ks p.blocks
parcel_fits facts p n ks fits is = record { blocks_fit = subst (λ m. AllZip (BlockFits facts) (found m) (blocks_of p.blocks)) is fits.blocks }

-- one of the blocks, with its key
pub zip_at : {B : Type 0} (facts : LabelFacts B) (ks : List ℕ) (bs : List (Arc B Global)) → AllZip (BlockFits facts) ks (blocks_of bs) → (n k : ℕ) (b : Arc B Global) → n < length ks → BlockFits facts (get_or ks n k) (arc_value (get_or bs n b))
zip_at facts [] bs z n k b lt = absurd (omega arith)
zip_at facts (x ∷ xs) [] z n k b lt = absurd z
zip_at facts (x ∷ xs) (y ∷ ys) z zero k b lt = z.0
zip_at facts (x ∷ xs) (y ∷ ys) z (suc n) k b lt = zip_at facts xs ys z.1 n k b (omega arith)

pub fits_at : {B : Type 0} (facts : LabelFacts B) (ks : List ℕ) (bs : List (Arc B Global)) → ParcelFits facts ks bs → (n k : ℕ) (b : Arc B Global) → n < length ks → BlockFits facts (get_or ks n k) (arc_value (get_or bs n b))
fits_at facts ks bs h n k b lt = zip_at facts ks bs h.blocks_fit n k b lt

zip_push : {B : Type 0} (facts : LabelFacts B) (ks : List ℕ) (bs : List (Arc B Global)) (k : ℕ) (b : Arc B Global) → AllZip (BlockFits facts) ks (blocks_of bs) → BlockFits facts k (arc_value b) → AllZip (BlockFits facts) (ks ++ k ∷ []) (blocks_of (bs ++ b ∷ []))
zip_push facts [] [] k b z fit = (fit, tt)
zip_push facts [] (y ∷ ys) k b z fit = absurd z
zip_push facts (x ∷ xs) [] k b z fit = absurd z
zip_push facts (x ∷ xs) (y ∷ ys) k b z fit = (z.0, zip_push facts xs ys k b z.1 fit)

-- one block more
pub parcel_push : {B : Type 0} (facts : LabelFacts B) (ks : List ℕ) (bs : List (Arc B Global)) (k : ℕ) (b : Arc B Global) → ParcelFits facts ks bs → BlockFits facts k (arc_value b) → ParcelFits facts (ks ++ k ∷ []) (bs ++ b ∷ [])
parcel_push facts ks bs k b h fit = record { blocks_fit = zip_push facts ks bs k b h.blocks_fit fit }

pub no_parcel : {B : Type 0} (facts : LabelFacts B) (ks : List ℕ) (bs : List (Arc B Global)) → ks ≡ [] → bs ≡ [] → ParcelFits facts ks bs
no_parcel facts ks bs e d = record { blocks_fit = subst (λ xs. AllZip (BlockFits facts) xs (blocks_of bs)) (sym e) (subst (λ ys. AllZip (BlockFits facts) [] (blocks_of ys)) (sym d) tt) }

pub packet_of_parcel : {B : Type 0} (facts : LabelFacts B) (p : Packet B) (n : ℕ) (ks : List ℕ) → p.message ≡ message.Peer (Data n ks) → ParcelFits facts ks p.blocks → PacketFits facts p
packet_of_parcel facts p n ks is fits = record {
  message = subst (MessageFits facts) (sym is) tt;
  blocks = subst (λ m. AllZip (BlockFits facts) (found m) (blocks_of p.blocks)) (sym is) fits.blocks_fit;
}
