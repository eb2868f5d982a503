-- What a normalised packet carries.
use Rattle.std.proofs.Common.{◌≡◌, ℕ, ◌+◌, ◌<◌, ◌≤◌, ◌⊎◌, Bool, true, false, Option, Some, None, List, [], ◌∷◌, length, Ok, Err, refl, sym, ap, ◌∙◌, subst, inl, inr, arith}
use Rattle.std.specs.Prelude.{Result, MatchResult, ◌==◌, ◌/◌, ◌%◌, nat_lt, if◌then◌else◌, slice_index, ⊤}
use Rattle.npf_fields.specs.Field.{number16}
use Rattle.npf_types.specs.declared.{action.Action.Action, facts.{Facts.Facts, L4.{L4, TheVariants.{Tcp, Udp, Icmp, Icmp6, Other}}, Segment.Segment}}
use Rattle.npf_packet.specs.{declared.decoded.Decoded.TheVariants.Ip, Icmp.decoding_icmp, Icmpv6.decoding_icmpv6, Packet.facts_of, Place.HasOptionAt}
use Rattle.npf_packet.specs.{Tcp.{CarriesTcp, HasSegment, header_end, segment_of}, TcpOption.HasOptions, Udp.decoding_udp, Upper.{Carries, CarriesAs, upper_of}}
use Rattle.npf_packet.proofs.UpperLemmas.{is_carried, same_facts}
use Rattle.npf_rewrite.specs.{declared.word.WordAt.WordAt, Normalised.{Normalised, lowered_mss, segment_sum}, Room.HasRoom, Word.{byte_there, word, word_list}}
use Rattle.npf_rewrite.proofs.{CarriesLemmas.{family_of, protocol_of, told_by}, ChainLemmas.options-stay, NormalisedLemmas.carried-is}
use Rattle.npf_rewrite.proofs.{OptionLemmas.number-stays, TotalLemmas.after-elsewhere}

-- what is carried is as it was, but for a segment's sum and the number of its maximum segment size
abbrev pub CarriedStays : (ℕ → ℕ) → (ℕ → ℕ) → ℕ → L4 → Type 0
CarriedStays f g at (Tcp _ _ _ (Some mss)) =
    (at + 20 ≤ mss) × ((k : ℕ) → at ≤ k → (k < at + 16) ⊎ (at + 18 ≤ k) → (k < mss) ⊎ (mss + 2 ≤ k) → g k ≡ f k)
CarriedStays f g at (Tcp _ _ _ None) = (k : ℕ) → at ≤ k → g k ≡ f k
CarriedStays f g at (Udp _ _) = (k : ℕ) → at ≤ k → g k ≡ f k
CarriedStays f g at (Icmp _ _ _) = (k : ℕ) → at ≤ k → g k ≡ f k
CarriedStays f g at (Icmp6 _ _ _) = (k : ℕ) → at ≤ k → g k ≡ f k
CarriedStays f g at Other = (k : ℕ) → at ≤ k → g k ≡ f k

-- no word, or one at this place
abbrev pub OnlyAt : ℕ → Option WordAt → Type 0
OnlyAt at (Some w) = w.at ≡ at
OnlyAt at None = ⊤

chosen-only : (b c : Bool) (w : WordAt) → OnlyAt w.at (if b then (if c then Some w else None) else None)
chosen-only true true w = refl
chosen-only true false w = tt
chosen-only false c w = tt

pub lowered-only : (bytes : List ℕ) (sport dport : ℕ) (seg : Segment) (mss : ℕ) (most : Option ℕ)
    → OnlyAt mss (lowered_mss bytes (Tcp sport dport seg (Some mss)) most)
lowered-only bytes sport dport seg mss (Some most) =
    chosen-only (seg.flags / 2 % 2 == 1) (nat_lt most (number16 bytes mss)) (word mss most)
lowered-only bytes sport dport seg mss None = tt

-- the words of a segment whose maximum segment size is written, or not
abbrev pub WritesSegment : List ℕ → (ℕ → ℕ) → ℕ → Option WordAt → Type 0
WritesSegment bytes g at o =
    (k : ℕ) → at ≤ k
    → g k ≡ byte_there (word_list (segment_sum bytes at o)) k (byte_there (word_list o) k (slice_index bytes k))

written-elsewhere : (bytes : List ℕ) (g : ℕ → ℕ) (at mss : ℕ) (o : Option WordAt) → OnlyAt mss o
    → WritesSegment bytes g at o → (k : ℕ) → at ≤ k → (k < at + 16) ⊎ (at + 18 ≤ k) → (k < mss) ⊎ (mss + 2 ≤ k)
    → g k ≡ slice_index bytes k
written-elsewhere bytes g at mss None only each k from sum number = each k from
written-elsewhere bytes g at mss (Some w) only each k from sum number =
    each k from
    ∙ after-elsewhere (at + 16) (at + 18) (word_list (segment_sum bytes at (Some w)))
    (λ _. byte_there (w ∷ []) k (slice_index bytes k)) k (omega arith, (omega arith, tt)) sum
    ∙ after-elsewhere mss (mss + 2) (w ∷ []) (slice_index bytes) k
    (omega (arith, only), (omega (arith, only), tt)) number

carried-by : (bytes : List ℕ) (g : ℕ → ℕ) (facts : Facts) (l4 : L4) (most : Option ℕ) → HasOptionAt facts l4
    → WritesSegment bytes g facts.l4_at (lowered_mss bytes l4 most)
    → CarriedStays (slice_index bytes) g facts.l4_at l4
carried-by bytes g facts (Tcp sport dport seg (Some mss)) most room each = (
  room.after,
  written-elsewhere bytes g facts.l4_at mss _ (lowered-only bytes sport dport seg mss most) each,
)
carried-by bytes g facts (Tcp sport dport seg None) (Some most) room each = each
carried-by bytes g facts (Tcp sport dport seg None) None room each = each
carried-by bytes g facts (Udp _ _) (Some most) room each = each
carried-by bytes g facts (Udp _ _) None room each = each
carried-by bytes g facts (Icmp _ _ _) (Some most) room each = each
carried-by bytes g facts (Icmp _ _ _) None room each = each
carried-by bytes g facts (Icmp6 _ _ _) (Some most) room each = each
carried-by bytes g facts (Icmp6 _ _ _) None room each = each
carried-by bytes g facts Other (Some most) room each = each
carried-by bytes g facts Other None room each = each

-- a normalisation leaves what is carried so
pub carried-stays : (bytes normalised : List ℕ) (facts : Facts) (action : Action)
    → HasRoom (length bytes) facts → Normalised bytes facts action normalised
    → CarriedStays (slice_index bytes) (slice_index normalised) facts.l4_at facts.l4
carried-stays bytes normalised facts action room n =
    carried-by bytes (slice_index normalised) facts facts.l4 action.max_mss room.option
    (carried-is bytes normalised facts action room n)

pub match-map : {T E : Type 0} (r : Result T E) (P P' : T → Type 0) (Q : E → Type 0)
    → ((x : T) → P x → P' x) → MatchResult r P Q → MatchResult r P' Q
match-map (Ok x) P P' Q to h = to x h
match-map (Err e) P P' Q to h = h

-- what the headers of IP say of a packet: the type that a decoder of what is carried takes
abbrev domain : (A B : Type 0) → (A → B) → Type 0
domain A B f = A

abbrev pub Packet : Type 0
Packet = domain _ _ (decoding_udp [])

module _ (bytes new : List ℕ) (packet : Packet) where
  abbrev at : ℕ
  at = packet.l4_at

  abbrev Header : ℕ → Type 0
  Header size = (k : ℕ) → at ≤ k → k < at + size → slice_index new k ≡ slice_index bytes k

  udp-same : Header 8 → decoding_udp bytes packet ≡ decoding_udp new packet
  udp-same same =
      let one = same (at + 0) (omega arith) (omega arith) in
      let two = same (at + 0 + 1) (omega arith) (omega arith) in
      let three = same (at + 2) (omega arith) (omega arith) in
      let four = same (at + 2 + 1) (omega arith) (omega arith) in
      cc

  icmp-same : Header 8 → decoding_icmp bytes packet ≡ decoding_icmp new packet
  icmp-same same =
      let one = same (at + 0) (omega arith) (omega arith) in
      let two = same (at + 1) (omega arith) (omega arith) in
      let three = same (at + 4) (omega arith) (omega arith) in
      let four = same (at + 4 + 1) (omega arith) (omega arith) in
      cc

  icmpv6-same : Header 8 → decoding_icmpv6 bytes packet ≡ decoding_icmpv6 new packet
  icmpv6-same same =
      let one = same (at + 0) (omega arith) (omega arith) in
      let two = same (at + 1) (omega arith) (omega arith) in
      let three = same (at + 4) (omega arith) (omega arith) in
      let four = same (at + 4 + 1) (omega arith) (omega arith) in
      cc

  header_end-same : Header 16 → header_end new packet ≡ header_end bytes packet
  header_end-same same =
      let offset = same (at + 12) (omega arith) (omega arith) in
      cc

  segment-same : Header 16 → (end : ℕ) (options : _)
      → segment_of bytes packet end options ≡ segment_of new packet end options
  segment-same same end options =
      let source = same (at + 0) (omega arith) (omega arith) in
      let source1 = same (at + 0 + 1) (omega arith) (omega arith) in
      let destination = same (at + 2) (omega arith) (omega arith) in
      let destination1 = same (at + 2 + 1) (omega arith) (omega arith) in
      let seq = same (at + 4) (omega arith) (omega arith) in
      let seq1 = same (at + 4 + 1) (omega arith) (omega arith) in
      let seq2 = same (at + 4 + 2) (omega arith) (omega arith) in
      let seq3 = same (at + 4 + 2 + 1) (omega arith) (omega arith) in
      let ack = same (at + 8) (omega arith) (omega arith) in
      let ack1 = same (at + 8 + 1) (omega arith) (omega arith) in
      let ack2 = same (at + 8 + 2) (omega arith) (omega arith) in
      let ack3 = same (at + 8 + 2 + 1) (omega arith) (omega arith) in
      let flags = same (at + 13) (omega arith) (omega arith) in
      let win = same (at + 14) (omega arith) (omega arith) in
      let win1 = same (at + 14 + 1) (omega arith) (omega arith) in
      cc

  said-size : (sport dport : ℕ) (seg : Segment) (mss : Option ℕ) (end : ℕ) (options : _)
      → Ip (facts_of packet (Tcp sport dport seg mss)) ≡ Ip (facts_of packet (segment_of bytes packet end options))
      → options.mss_at ≡ mss
  said-size sport dport seg mss end options said =
      let is = ap (λ (f : Facts). f.l4) (same_facts _ _ said) in
      cc

  segment-stays : (sport dport : ℕ) (seg : Segment) (mss : Option ℕ) → Header 16
      → ((end : ℕ) (options : _) → HasOptions bytes (at + 20) end options → options.mss_at ≡ mss
      → HasOptions new (at + 20) end options)
      → CarriesTcp bytes packet (Ip (facts_of packet (Tcp sport dport seg mss)))
      → CarriesTcp new packet (Ip (facts_of packet (Tcp sport dport seg mss)))
  segment-stays sport dport seg mss same options carries =
      let is = Ip (facts_of packet (Tcp sport dport seg mss)) in
      rw (header_end-same same) (match-map (header_end bytes packet) (λ end. HasSegment bytes packet end is)
      (λ end. HasSegment new packet end is) (λ answer. is ≡ answer)
      (λ end segment. record {
        options = segment.options;
        read = options end segment.options segment.read
            (said-size sport dport seg mss end segment.options segment.says);
        says = segment.says ∙ ap (λ l4. Ip (facts_of packet l4)) (segment-same same end segment.options);
      }) carries)

  stays : (l4 : L4) → CarriedStays (slice_index bytes) (slice_index new) at l4
      → CarriesAs (upper_of (family_of l4) (protocol_of l4)) bytes packet (Ip (facts_of packet l4))
      → CarriesAs (upper_of (family_of l4) (protocol_of l4)) new packet (Ip (facts_of packet l4))
  stays (Tcp sport dport seg (Some mss)) same carries =
      segment-stays sport dport seg (Some mss)
      (λ k from below. same.1 k from (inl below) (inl (omega (arith, same.0, below))))
      (λ end options read is. number-stays bytes new (at + 20) end mss
      (λ k from number. same.1 k (omega arith) (inr (omega arith)) number) options read is) carries
  stays (Tcp sport dport seg None) same carries =
      segment-stays sport dport seg None (λ k from below. same k from)
      (λ end options read is. options-stay bytes new (at + 20) end (λ k from. same k (omega arith)) options read)
      carries
  stays (Udp _ _) same carries = carries ∙ udp-same (λ k from below. same k from)
  stays (Icmp _ _ _) same carries = carries ∙ icmp-same (λ k from below. same k from)
  stays (Icmp6 _ _ _) same carries = carries ∙ icmpv6-same (λ k from below. same k from)
  stays Other same carries = carries

  -- what is carried says the same
  pub carries-same : (facts : Facts) → packet.l4_at ≤ packet.end
      → CarriedStays (slice_index bytes) (slice_index new) facts.l4_at facts.l4
      → Carries bytes packet (Ip facts) → Carries new packet (Ip facts)
  carries-same facts ends same carries =
      let carried = is_carried bytes packet facts ends carries in
      let l4 = carried.l4 in
      let told = told_by packet.src packet.proto l4 carried.protocol in
      let P : Facts → Type 0 = λ f. CarriedStays (slice_index bytes) (slice_index new) f.l4_at f.l4
      → Carries bytes packet (Ip f) → Carries new packet (Ip f) in
      subst P carried.is
      (λ there was. subst (λ u. CarriesAs u new packet (Ip (facts_of packet l4))) (sym told)
      (stays l4 there (subst (λ u. CarriesAs u bytes packet (Ip (facts_of packet l4))) told was)))
      same carries
