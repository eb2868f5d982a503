-- What a translated packet carries.
use Rattle.std.proofs.{Common.{◌≡◌, ℕ, ◌+◌, ◌≤◌, true, Option, List, Ok, Err, refl, sym, ap, ◌∙◌, subst, inl, inr, arith}, lemmas.Bool.Decides.nat_tests}
use Rattle.std.specs.Prelude.{Result, MatchResult, ◌==◌, ◌||◌, slice_index}
use Rattle.npf_fields.specs.Field.{number16, number32}
use Rattle.npf_types.specs.declared.{address.Addr.{Addr, TheVariants.{V4, V6}}, change.{Change.Change, End.End}, facts.{Facts.Facts, L4.L4, Segment.Segment}}
use Rattle.npf_types.specs.declared.facts.L4.TheVariants.{Tcp, Udp, Icmp, Icmp6, Other}
use Rattle.npf_packet.{proofs.UpperLemmas.same_facts, specs.{declared.decoded.Decoded.TheVariants.Ip, Packet.{facts_of, with_header}, PacketField.HasProtocol}}
use Rattle.npf_key.specs.Translated.{address_there, facts_there, fitting, named_port, port_there, shares_family}
use Rattle.npf_packet.{specs.{Place.least_ip_header, Tcp.{HasSegment, header_end, segment_of}, Upper.{Carries, CarriesAs, upper_of}}, proofs.HeaderLemmas.of_ok}
use Rattle.npf_rewrite.{specs.Translated.Translated, proofs.{EndLemmas.fitted, ChainLemmas.options-stay, PlacedLemmas.{carried-there, made}}}
use Rattle.npf_rewrite.proofs.PortLemmas.{behind-ports, destination-is, echo-is, message-same, ports, source-is}

-- a family and a protocol by which what is carried is told apart
abbrev pub family_of : L4 → Addr
family_of (Tcp _ _ _ _) = V4 0
family_of (Udp _ _) = V4 0
family_of (Icmp _ _ _) = V4 0
family_of (Icmp6 _ _ _) = V6 0
family_of Other = V4 0

abbrev pub protocol_of : L4 → ℕ
protocol_of (Tcp _ _ _ _) = 6
protocol_of (Udp _ _) = 17
protocol_of (Icmp _ _ _) = 1
protocol_of (Icmp6 _ _ _) = 58
protocol_of Other = 0

pub told_by : (src : Addr) (proto : ℕ) (l4 : L4) → HasProtocol src proto l4
    → upper_of src proto ≡ upper_of (family_of l4) (protocol_of l4)
told_by (V4 a) proto (Tcp _ _ _ _) h = ap (upper_of (V4 a)) h
told_by (V4 a) proto (Udp _ _) h = ap (upper_of (V4 a)) h
told_by (V4 a) proto (Icmp _ _ _) h = ap (upper_of (V4 a)) h
told_by (V4 a) proto (Icmp6 _ _ _) h = absurd h
told_by (V4 a) proto Other h = grind (arith, nat_tests, h.0, h.1, h.2)
told_by (V6 a) proto (Tcp _ _ _ _) h = ap (upper_of (V6 a)) h
told_by (V6 a) proto (Udp _ _) h = ap (upper_of (V6 a)) h
told_by (V6 a) proto (Icmp _ _ _) h = absurd h
told_by (V6 a) proto (Icmp6 _ _ _) h = ap (upper_of (V6 a)) h
told_by (V6 a) proto Other h = grind (arith, nat_tests, h.0, h.1, h.2)

same-upper : (src x : Addr) (proto : ℕ) → shares_family x src ≡ true
    → upper_of x proto ≡ upper_of src proto
same-upper (V4 _) (V4 _) proto same = refl
same-upper (V6 _) (V6 _) proto same = refl
same-upper (V4 _) (V6 _) proto same = absurd cc
same-upper (V6 _) (V4 _) proto same = absurd cc

-- a translated packet is of its family still
pub upper_of-there : (src : Addr) (proto : ℕ) (end : Option End)
    → upper_of (address_there (fitting src end) src) proto ≡ upper_of src proto
upper_of-there src proto end =
    fitted src (λ o. upper_of (address_there o src) proto ≡ upper_of src proto) refl
    (λ e same. same-upper src e.addr proto same) end

pub match_ok : {T E : Type 0} (r : Result T E) (P : T → Type 0) (Q : E → Type 0) (x : T) → r ≡ Ok x → P x
    → MatchResult r P Q
match_ok r P Q x e p = rw e p

module _ (bytes translated : List ℕ) (change : Change) (src dst : Addr) (proto ip at end : ℕ)
    (above : ip + least_ip_header src ≤ at) where
  abbrev facts : L4 → Facts
  facts l4 = made src dst proto ip at end l4

  abbrev src' : Addr
  src' = address_there (fitting src change.src) src

  abbrev dst' : Addr
  dst' = address_there (fitting src change.dst) dst

  abbrev s : Option ℕ
  s = named_port (fitting src change.src)

  abbrev d : Option ℕ
  d = named_port (fitting src change.dst)

  whole : (n : ℕ) (l4 l4' : L4)
      → Ip (facts l4) ≡ with_header (record { src = src; dst = dst; proto = proto; ip_at = ip; l4_at = at; end = end }) n l4'
      → (at + n ≤ end) × (l4 ≡ l4')
  whole n l4 l4' h = (grind (arith, nat_tests), grind (arith, nat_tests))

  whole-there : (n : ℕ) (l4 l4' : L4) → at + n ≤ end → l4 ≡ l4'
      → Ip (made src' dst' proto ip at end l4)
      ≡ with_header (record { src = src'; dst = dst'; proto = proto; ip_at = ip; l4_at = at; end = end }) n l4'
  whole-there n l4 l4' h e = grind (arith, nat_tests)

  never_header_end : (f : Facts) → ¬ (header_end bytes (record { src = src; dst = dst; proto = proto; ip_at = ip; l4_at = at; end = end }) ≡ Err (Ip f))
  never_header_end f = λ h. grind (arith, nat_tests)

  header_end-same : slice_index translated (at + 12) ≡ slice_index bytes (at + 12)
      → header_end translated (record { src = src'; dst = dst'; proto = proto; ip_at = ip; l4_at = at; end = end })
      ≡ header_end bytes (record { src = src; dst = dst; proto = proto; ip_at = ip; l4_at = at; end = end })
  header_end-same offset = cc

  abbrev Stays : L4 → Type 0
  Stays l4 = Translated bytes (facts l4) change translated
      → CarriesAs (upper_of (family_of l4) (protocol_of l4)) bytes
      (record { src = src; dst = dst; proto = proto; ip_at = ip; l4_at = at; end = end }) (Ip (facts l4))
      → CarriesAs (upper_of (family_of l4) (protocol_of l4)) translated
      (record { src = src'; dst = dst'; proto = proto; ip_at = ip; l4_at = at; end = end })
      (Ip (facts_there change (facts l4)))

  segment-there : (sport dport : ℕ) (seg : Segment) (mss_at : Option ℕ) (ends : ℕ) (options : _)
      → Ip (facts (Tcp sport dport seg mss_at))
      ≡ Ip (facts_of (record { src = src; dst = dst; proto = proto; ip_at = ip; l4_at = at; end = end })
      (segment_of bytes (record { src = src; dst = dst; proto = proto; ip_at = ip; l4_at = at; end = end }) ends options))
      → number16 translated (at + 0) ≡ port_there s (number16 bytes (at + 0))
      → number16 translated (at + 2) ≡ port_there d (number16 bytes (at + 2))
      → slice_index translated (at + 13) ≡ slice_index bytes (at + 13)
      → number32 translated (at + 4) ≡ number32 bytes (at + 4)
      → number32 translated (at + 8) ≡ number32 bytes (at + 8)
      → number16 translated (at + 14) ≡ number16 bytes (at + 14)
      → Ip (facts_there change (facts (Tcp sport dport seg mss_at)))
      ≡ Ip (facts_of (record { src = src'; dst = dst'; proto = proto; ip_at = ip; l4_at = at; end = end })
      (segment_of translated (record { src = src'; dst = dst'; proto = proto; ip_at = ip; l4_at = at; end = end }) ends options))
  segment-there sport dport seg mss_at ends options said source destination flags seq ack win =
      let said4 = ap (λ (f : Facts). f.l4) (same_facts _ _ said) in
      let is : Tcp (port_there s sport) (port_there d dport) seg mss_at
      ≡ segment_of translated (record { src = src'; dst = dst'; proto = proto; ip_at = ip; l4_at = at; end = end }) ends options = cc in
      ap (λ l4. Ip (made src' dst' proto ip at end l4)) is

  stays-tcp : (sport dport : ℕ) (seg : Segment) (mss_at : Option ℕ) → Stays (Tcp sport dport seg mss_at)
  stays-tcp sport dport seg mss_at t carries =
      let was = facts (Tcp sport dport seg mss_at) in
      let is = facts_there change was in
      let each = carried-there bytes translated was change above t in
      let same = behind-ports bytes translated change.neutral at (at + 16) _ (ports at s d) each s d refl in
      let same4 : (k : ℕ) → at + 4 ≤ k → k + 4 ≤ at + 16 → number32 translated k ≡ number32 bytes k =
      λ k from below.
      omega (
        arith,
        same k from (inl (omega arith)),
        same (k + 1) (omega arith) (inl (omega arith)),
        same (k + 2) (omega arith) (inl (omega arith)),
        same (k + 2 + 1) (omega arith) (inl (omega arith)),
      ) in
      let found = of_ok (header_end bytes (record { src = src; dst = dst; proto = proto; ip_at = ip; l4_at = at; end = end }))
      (λ header_end. HasSegment bytes (record { src = src; dst = dst; proto = proto; ip_at = ip; l4_at = at; end = end }) header_end (Ip was))
      (λ answer. Ip was ≡ answer)
      (λ answer e is_it. never_header_end was (e ∙ ap (λ a. Err a) (sym is_it))) carries in
      let segment = found.1.1 in
      let source = source-is bytes translated change.neutral at (at + 16) _ (ports at s d) each s d refl
      (omega arith) in
      let destination = destination-is bytes translated change.neutral at (at + 16) _ (ports at s d) each
      s d refl (omega arith) in
      let offset = same (at + 12) (omega arith) (inl (omega arith)) in
      let flags = same (at + 13) (omega arith) (inl (omega arith)) in
      let seq = same4 (at + 4) (omega arith) (omega arith) in
      let ack = same4 (at + 8) (omega arith) (omega arith) in
      let win : number16 translated (at + 14) ≡ number16 bytes (at + 14) =
      omega (
        arith,
        same (at + 14) (omega arith) (inl (omega arith)),
        same (at + 14 + 1) (omega arith) (inl (omega arith)),
      ) in
      match_ok (header_end translated (record { src = src'; dst = dst'; proto = proto; ip_at = ip; l4_at = at; end = end }))
      (λ header_end. HasSegment translated (record { src = src'; dst = dst'; proto = proto; ip_at = ip; l4_at = at; end = end }) header_end (Ip is))
      (λ answer. Ip is ≡ answer) found.0 (header_end-same offset ∙ found.1.0)
      (record {
        options = segment.options;
        read = options-stay bytes translated (at + 20) found.0
            (λ k from. same k (omega arith) (inr (omega arith))) segment.options segment.read;
        says = segment-there sport dport seg mss_at found.0 segment.options segment.says source destination
            flags seq ack win;
      })

  stays : (l4 : L4) → Stays l4
  stays (Tcp sport dport seg mss_at) t carries = stays-tcp sport dport seg mss_at t carries
  stays (Udp sport dport) t carries =
      let was = whole 8 (Udp sport dport) _ carries in
      let each = carried-there bytes translated (facts (Udp sport dport)) change above t in
      let source = source-is bytes translated change.neutral at (at + 6) _ (ports at s d) each s d refl
      (omega arith) in
      let destination = destination-is bytes translated change.neutral at (at + 6) _ (ports at s d) each
      s d refl (omega arith) in
      let said = was.1 in
      whole-there 8 _ _ was.0 cc
  stays (Icmp kind code echo) t carries =
      let was = whole 8 (Icmp kind code echo) _ carries in
      let said = was.1 in
      let each = carried-there bytes translated (facts (Icmp kind code echo)) change above t in
      let old = slice_index bytes (at + 0) in
      let first = message-same bytes translated change.neutral at _ s d echo each (at + 0) (omega arith)
      (omega arith) in
      let second = message-same bytes translated change.neutral at _ s d echo each (at + 1) (omega arith)
      (omega arith) in
      let there = echo-is bytes translated change.neutral at _ s d echo each (old == 8 || old == 0) cc in
      whole-there 8 _ _ was.0 cc
  stays (Icmp6 kind code echo) t carries =
      let was = whole 8 (Icmp6 kind code echo) _ carries in
      let said = was.1 in
      let each = carried-there bytes translated (facts (Icmp6 kind code echo)) change above t in
      let old = slice_index bytes (at + 0) in
      let first = message-same bytes translated change.neutral at _ s d echo each (at + 0) (omega arith)
      (omega arith) in
      let second = message-same bytes translated change.neutral at _ s d echo each (at + 1) (omega arith)
      (omega arith) in
      let there = echo-is bytes translated change.neutral at _ s d echo each (old == 128 || old == 129) cc
      in
      whole-there 8 _ _ was.0 cc
  stays Other t carries = refl

  -- what is carried says the same with the named ports
  pub carries-there : (l4 : L4) → HasProtocol src proto l4 → Translated bytes (facts l4) change translated
      → Carries bytes (record { src = src; dst = dst; proto = proto; ip_at = ip; l4_at = at; end = end }) (Ip (facts l4))
      → Carries translated (record { src = src'; dst = dst'; proto = proto; ip_at = ip; l4_at = at; end = end })
      (Ip (facts_there change (facts l4)))
  carries-there l4 protocol t carries =
      let told = told_by src proto l4 protocol in
      let here = stays l4 t
      (subst (λ u. CarriesAs u bytes (record { src = src; dst = dst; proto = proto; ip_at = ip; l4_at = at; end = end }) (Ip (facts l4))) told carries) in
      subst (λ u. CarriesAs u translated (record { src = src'; dst = dst'; proto = proto; ip_at = ip; l4_at = at; end = end }) (Ip (facts_there change (facts l4))))
      (sym (upper_of-there src proto change.src ∙ told)) here
