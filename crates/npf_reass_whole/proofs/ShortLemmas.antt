-- The packets of a run whose fragments are put together are short.
use Rattle.std.{proofs.Common.{◌≡◌, ℕ, ◌-◌, ◌<◌, ◌≤◌, ◌∙◌, ⊎_elim, ap, List, length, length-append, drop, get_or, arith}, specs.Prelude.{All, Contains}}
use Rattle.std.{specs.List.AllZip, proofs.lemmas.List.{length-take, Elements.{All-contains, All-get_or}}}
use Rattle.npf_types.specs.declared.{address.Addr.{Addr, TheVariants.{V4, V6}}, limits.TheConstants.MAX_PACKET_BYTES}
use Rattle.npf_traffic.specs.{declared.packet.Packet.Packet, Packet.IsShortPacket}
use Rattle.npf_pieces.specs.{declared.{arrived.Arrived.Arrived, piece.{Piece.Piece, Seen.Seen}}, Datagram.{IsDatagram, IsHeaderOf, IsWholeSet, WholeIfComplete}}
use Rattle.npf_pieces.{specs.{DatagramAt.{PutTogether, with_datagrams}, Piece.SeenAs, Sets.{Set, not_counted}}, proofs.WholeSetLemmas.told_within}
use Rattle.npf_reass_whole.{specs.Run.{HeldIfBad, HoldsBad, IsDatagramAmong, LaysOut, with_sets_held}, proofs.AmongLemmas.all_zip_at}
use Rattle.npf_reass_whole.proofs.HoldLemmas.{IsHeldBy, IsHeldByNone, IsPutBy, IsPutByNone, held_or_not, length-datagrams, length-sets_held, put_or_not}

small : (a : Addr) → not_counted a ≤ 40
small (V4 x) = omega arith
small (V6 x) = omega arith

header_long : (a : Addr) (piece : Piece) (old new : List ℕ) (told : ℕ) → IsHeaderOf a piece old new told → length new ≡ length old
header_long (V4 x) piece old new told h = h.count
header_long (V6 x) piece old new told h = h.count

-- its length is one that 16 bits can tell, but for the fixed header of IPv6
pub datagram_short : (packets : List Packet) (d : Packet) (set : List Arrived) (bytes : List ℕ) → IsDatagram packets set bytes → IsWholeSet set
    → length bytes ≤ MAX_PACKET_BYTES
datagram_short packets d set bytes is whole =
    let first = is.first in
    let piece = first.piece in
    let packet = get_or packets first.place d in
    let told = told_within set first whole.short is.among is.begins in
    let least = small piece.key.src in
    let header = header_long piece.key.src piece is.old is.header _ is.headed in
    let old = ap length (is.has_old.is d) in
    let cut = length-take (piece.head_end - piece.ip_at) (drop piece.ip_at packet.bytes) in
    let all = ap length is.is ∙ length-append is.header is.carried in
    omega (arith, told, least, header, old, cut, all, is.long)

bad_bytes : (old new : Packet) (seen : Seen) → HeldIfBad old new seen → new.bytes ≡ old.bytes
bad_bytes old new Seen.NoFragment h = ap (λ (p : Packet). p.bytes) h
bad_bytes old new Seen.Bad h = ap (λ (p : Packet). p.bytes) h
bad_bytes old new (Seen.Piece piece) h = ap (λ (p : Packet). p.bytes) h

module _ (packets bad : List Packet) (seens : List Seen) (sets : List Set) (ds : List PutTogether) (sees : AllZip SeenAs packets seens)
    (short : All IsShortPacket packets) (wholes : (set : Set) → Contains sets set → WholeIfComplete set)
    (lays : LaysOut packets sets ds) (holds : HoldsBad packets bad) where
  abbrev held : List Packet
  held = with_sets_held sets bad

  pub all_short : All IsShortPacket (with_datagrams ds held)
  all_short k d h =
      let in_held : k < length held = omega (arith, h, length-datagrams ds held) in
      let in_bad : k < length bad = omega (arith, in_held, length-sets_held sets bad) in
      let here : k < length packets = omega (arith, in_bad, holds.count) in
      let new = get_or (with_datagrams ds held) k d in
      let seen = get_or seens k Seen.NoFragment in
      let was = bad_bytes (get_or packets k d) (get_or bad k d) seen (holds.each k d seen here (all_zip_at SeenAs packets seens k d Seen.NoFragment sees here)) in
      let before = All-get_or IsShortPacket packets k d here short in
      ⊎_elim (λ (x : IsPutBy ds k (get_or held k d) new).
      let among = All-contains (IsDatagramAmong packets sets) ds x.datagram lays.each x.among in
      let few = datagram_short packets d among.set.pieces x.datagram.bytes among.is (wholes among.set among.among among.complete) in
      let bytes = ap (λ (p : Packet). length p.bytes) x.is in
      omega (arith, few, bytes))
      (λ (x : IsPutByNone ds k (get_or held k d) new).
      let same = ap (λ (p : Packet). length p.bytes) x.same in
      ⊎_elim (λ (y : IsHeldBy sets k (get_or bad k d) (get_or held k d)).
      let bytes = ap (λ (p : Packet). length p.bytes) y.is in
      omega (arith, same, bytes, ap length was, before))
      (λ (y : IsHeldByNone sets k (get_or bad k d) (get_or held k d)).
      let bytes = ap (λ (p : Packet). length p.bytes) y.same in
      omega (arith, same, bytes, ap length was, before))
      (held_or_not sets bad k d in_bad))
      (put_or_not ds held k d in_held)
