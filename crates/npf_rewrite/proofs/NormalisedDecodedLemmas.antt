-- A normalised packet decodes to its facts.
use Rattle.std.proofs.Common.{◌≡◌, ℕ, ◌+◌, ◌<◌, ◌≤◌, List, length, Ok, Err, refl, sym, ap, ◌∙◌, subst, arith}
use Rattle.std.specs.Prelude.{Result, if◌then◌else◌, slice_index}
use Rattle.npf_types.specs.declared.{action.Action.Action, facts.Facts.Facts, link.Link.Link}
use Rattle.npf_types.specs.declared.address.Addr.TheVariants as Addr
use Rattle.npf_packet.specs.{declared.decoded.Decoded.{Decoded, TheVariants.{Ip, Skip}}, Decoder.packet_at}
use Rattle.npf_packet.specs.{Ipv4.{is_fragment, packet_v4, unless_fragment, whole_v4}, Ipv6.{IsBehindChain, end_v6, first_header, next_header}}
use Rattle.npf_packet.{specs.{Place.least_ip_header, Upper.Carries, Chain.IsChain}, proofs.ChainLemmas.chain_keeps}
use Rattle.npf_packet.proofs.{HeaderLemmas.{fields_v6, is_whole_v4, never_v4, of_ok}, PacketFieldLemmas.has_places, UpperLemmas.is_carried}
use Rattle.npf_rewrite.specs.{Normalised.Normalised, NormalisedFacts.{ActionFits, NormalisedDecodes}, Room.{DecodedHasRoom, HasRoom}, Translated.source_at}
use Rattle.npf_rewrite.{specs.Verified.HasBytes, proofs.{AddressLemmas.address-same, CarriesLemmas.match_ok, ChainLemmas.headers-stay}}
use Rattle.npf_rewrite.proofs.{DecodedLemmas.{ends_v6, next-between}, HeaderLemmas.behind_last-is, VersionLemmas.{FromV4, FromV6, decodes-there}}
use Rattle.npf_rewrite.proofs.NormalisedCarriedLemmas.{Packet, carried-stays, carries-same}
use Rattle.npf_rewrite.proofs.{NormalisedHeaderLemmas.{fragment-stays, next-stays, protocol-stays}, NormalisedLemmas.{addresses-stay, front-stays}}

unless-same : (bytes new : List ℕ) (ip : ℕ) (whole : Result Packet Decoded) → is_fragment new ip ≡ is_fragment bytes ip
    → unless_fragment new ip whole ≡ unless_fragment bytes ip whole
unless-same bytes new ip (Ok packet) same =
    ap (λ b. let answer : Result Packet Decoded = if b then Err Skip else Ok packet in answer) same
unless-same bytes new ip (Err answer) same = refl

-- a header of IPv4 that says the same
packet_v4-same : (bytes new : List ℕ) (ip : ℕ) → length new ≡ length bytes
    → ((k : ℕ) → k < ip + 6 → slice_index new k ≡ slice_index bytes k)
    → slice_index new (ip + 9) ≡ slice_index bytes (ip + 9)
    → ((k : ℕ) → ip + 12 ≤ k → k < ip + 20 → slice_index new k ≡ slice_index bytes k)
    → is_fragment new ip ≡ is_fragment bytes ip → packet_v4 new ip ≡ packet_v4 bytes ip
packet_v4-same bytes new ip size front protocol addresses fragment =
    let first = front ip (omega arith) in
    let two = front (ip + 2) (omega arith) in
    let three = front (ip + 2 + 1) (omega arith) in
    let source = address-same bytes new (ip + 12) (Addr.V4 0) (λ k from below. addresses k from (omega arith)) in
    let destination = address-same bytes new (ip + 16) (Addr.V4 0) (λ k from below. addresses k (omega arith) (omega arith)) in
    let whole : whole_v4 new ip ≡ whole_v4 bytes ip = cc in
    unless-same bytes new ip (whole_v4 new ip) fragment ∙ ap (unless_fragment bytes ip) whole

-- a header of IPv6 that says the same
module _ (bytes new : List ℕ) (ip : ℕ) (size : length new ≡ length bytes)
    (front : (k : ℕ) → k < ip + 6 → slice_index new k ≡ slice_index bytes k)
    (next : slice_index new (ip + 6) ≡ slice_index bytes (ip + 6)) where
  end_v6-same : end_v6 new ip ≡ end_v6 bytes ip
  end_v6-same =
      let upper = front (ip + 4) (omega arith) in
      let lower = front (ip + 4 + 1) (omega arith) in
      cc

  first_header-same : first_header new ip ≡ first_header bytes ip
  first_header-same = cc

fields_v6-same : (bytes new : List ℕ) (ip : ℕ)
    → ((k : ℕ) → ip + 8 ≤ k → k < ip + 40 → slice_index new k ≡ slice_index bytes k) → (end k n a : ℕ)
    → fields_v6 new ip end (record { kind = k; named_at = n; at = a })
    ≡ fields_v6 bytes ip end (record { kind = k; named_at = n; at = a })
fields_v6-same bytes new ip addresses end k n a =
    let source = address-same bytes new (ip + 8) (Addr.V6 0) (λ k from below. addresses k from (omega arith)) in
    let destination = address-same bytes new (ip + 24) (Addr.V6 0) (λ k from below. addresses k (omega arith) (omega arith)) in
    cc

module _ (link : Link) (bytes normalised : List ℕ) (small : HasBytes bytes) (facts : Facts) (action : Action)
    (fits : ActionFits action) (room : HasRoom (length bytes) facts)
    (place : facts.ip_at ≡ packet_at link)
    (n_ : Normalised bytes facts action normalised) where
  abbrev ip : ℕ
  ip = packet_at link

  front : (k : ℕ) → k < ip + 6 → slice_index normalised k ≡ slice_index bytes k
  front k below = front-stays bytes normalised facts action room n_ k (omega (arith, below, place))

  there : (packet : Packet) → packet.l4_at ≤ packet.end → Carries bytes packet (Ip facts)
      → Carries normalised packet (Ip facts)
  there packet ends carries =
      carries-same bytes normalised packet facts ends (carried-stays bytes normalised facts action room n_) carries

  v4-same : (a : ℕ) → facts.src ≡ Addr.V4 a → packet_v4 normalised ip ≡ packet_v4 bytes ip
  v4-same a e =
      let stays = protocol-stays bytes normalised small facts action fits room n_ a e in
      let fragment = fragment-stays bytes normalised small facts action fits room n_ a e in
      subst (λ at. ((k : ℕ) → k < at + 6 → slice_index normalised k ≡ slice_index bytes k)
      → packet_v4 normalised at ≡ packet_v4 bytes at) place
      (λ before. packet_v4-same bytes normalised facts.ip_at n_.size before stays
      (λ k from below. addresses-stay bytes normalised facts action room n_ k
      (omega (arith, from, ap (source_at facts.ip_at) e))
      (omega (arith, below, room.upper, ap least_ip_header e))) fragment) front

  addresses-v6 : (a : ℕ) → facts.src ≡ Addr.V6 a → (k : ℕ) → ip + 8 ≤ k → k < facts.l4_at
      → slice_index normalised k ≡ slice_index bytes k
  addresses-v6 a e k from below =
      addresses-stay bytes normalised facts action room n_ k
      (omega (arith, from, place, ap (source_at facts.ip_at) e)) below

  from-v4 : FromV4 bytes normalised facts facts ip
  from-v4 h =
      let found = of_ok (packet_v4 bytes ip) (λ packet. Carries bytes packet (Ip facts))
      (λ answer. Ip facts ≡ answer)
      (λ answer e same. never_v4 bytes ip facts (e ∙ ap (λ a. Err a) (sym same))) h in
      let packet = found.0 in
      let whole = is_whole_v4 bytes ip packet found.1.0 in
      let ends = subst (λ (p : Packet). p.l4_at ≤ p.end) whole.is (omega (arith, whole.total)) in
      let carried = is_carried bytes packet facts ends found.1.1 in
      let src = sym (ap (λ (f : Facts). f.src) carried.is) ∙ sym (ap (λ (p : Packet). p.src) whole.is) in
      match_ok (packet_v4 normalised ip) (λ packet. Carries normalised packet (Ip facts))
      (λ answer. Ip facts ≡ answer) packet (v4-same _ src ∙ found.1.0) (there packet ends found.1.1)

  from-v6 : FromV6 bytes normalised facts facts ip
  from-v6 end k n a headers ends plain whole chain carries =
      let between = chain_keeps (next_header bytes end) (λ x. (ip + 40 ≤ x.at) × (x.at ≤ end))
      (λ x y p e. next-between bytes (ip + 40) end x.kind x.named_at x.at y.kind y.named_at y.at p.0 e)
      (first_header bytes ip) headers (record { kind = k; named_at = n; at = a }) chain
      (omega arith, ends_v6 bytes ip end ends) in
      let packet = fields_v6 bytes ip end (record { kind = k; named_at = n; at = a }) in
      let carried = is_carried bytes packet facts between.1 carries in
      let src = sym (ap (λ (f : Facts). f.src) carried.is) in
      let upper : a ≡ facts.l4_at = ap (λ (f : Facts). f.l4_at) carried.is in
      let next = subst (λ at. slice_index normalised (at + 6) ≡ slice_index bytes (at + 6)) place
      (next-stays bytes normalised small facts action fits room n_ _ src) in
      let addresses = addresses-v6 _ src in
      let stays = headers-stay bytes normalised end (ip + 40) (first_header bytes ip)
      (record { kind = k; named_at = n; at = a }) headers chain plain (omega arith)
      (λ k from below. addresses k (omega (arith, from)) (omega (arith, below, upper))) in
      let same = fields_v6-same bytes normalised ip
      (λ k from below. addresses k from (omega (arith, below, between.0, upper))) end k n a in (
        match_ok (end_v6 normalised ip)
            (λ e. IsBehindChain normalised ip e (Ok (fields_v6 normalised ip end (record { kind = k; named_at = n; at = a }))))
            (λ answer. Ok (fields_v6 normalised ip end (record { kind = k; named_at = n; at = a })) ≡ Err answer) end
            (end_v6-same bytes normalised ip n_.size front next ∙ ends)
            (record {
              last = record { kind = k; named_at = n; at = a };
              chain = record {
                headers = headers;
                chain = subst (λ h. IsChain (next_header normalised end) h headers (record { kind = k; named_at = n; at = a }))
                    (sym (first_header-same bytes normalised ip n_.size front next)) stays.1;
              };
              says = sym (behind_last-is normalised ip end k n a plain whole);
            }),
        subst (λ packet. Carries normalised packet (Ip facts)) (sym same) (there packet between.1 carries),
      )

pub decoded_room : DecodedHasRoom
decoded_room link bytes facts decodes =
    let places = has_places link bytes facts decodes in
    record {
      upper = places.upper;
      upper_header = places.upper_header;
      end = places.end;
      option = places.option;
    }

pub normalised_decodes_lem : NormalisedDecodes
normalised_decodes_lem link bytes normalised facts action small fits decodes n =
    let place = (has_places link bytes facts decodes).ip in
    let room = decoded_room link bytes facts decodes in
    decodes-there link bytes normalised facts facts n.size
    (front link bytes normalised small facts action fits room place n)
    (from-v4 link bytes normalised small facts action fits room place n)
    (from-v6 link bytes normalised small facts action fits room place n) decodes
