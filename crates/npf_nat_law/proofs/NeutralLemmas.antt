-- A packet that `npt66` translates keeps its sums.
use Rattle.std.proofs.Common.{◌≡◌, ℕ, ◌+◌, ◌%◌, Bool, true, false, IsTrue, Some, None, List, [], ◌++◌, refl, sym, ap, ◌∙◌, subst, arith}
use Rattle.std.specs.Prelude.{if◌then◌else◌, slice_index}
use Rattle.npf_fields.specs.Field.{number128}
use Rattle.npf_types.specs.declared.{action.Action.Action, address.Addr.{Addr, TheVariants.{V4, V6}}, change.{Change.Change, End.End}, direction.Dir.Dir}
use Rattle.npf_types.specs.declared.{direction.Dir.TheVariants.{In, Out}, facts.{Facts.Facts, L4.{L4, TheVariants.{Tcp, Udp, Icmp, Icmp6, Other}}}}
use Rattle.npf_types.specs.declared.link.Link.{Link}
use Rattle.npf_key.specs.{Laws.IsOneFamily, Translated.{address_there, facts_there, fitting, named_port, shares_family}}
use Rattle.npf_model.specs.{declared.map.Map.Map, Describes.is_v6}
use Rattle.npf_nat.specs.{Answer.answer_change, MapPlan.{destination_change, source_change}, Npt.address_number}
use Rattle.npf_packet.{specs.{declared.decoded.Decoded.TheVariants.Ip, Decoder.Decodes, PacketField.HasIpHeader}, proofs.PacketFieldLemmas.has_fields}
use Rattle.npf_rewrite.specs.{NormalisedFacts.ActionFits, Sent.Sent, SentLaw.IsPacketThere}
use Rattle.npf_rewrite.specs.{Translated.{Translated, destination_write, new_ends, port_writes, source_write}, TranslatedFacts.AddressesFit}
use Rattle.npf_rewrite.{specs.{Verified.{HasBytes, PortsFit, addresses_total}, Word.word_list}, proofs.DecodedLemmas.translated_decodes_lem}
use Rattle.npf_rewrite.proofs.{NormalisedDecodedLemmas.{decoded_room, normalised_decodes_lem}, NormalisedSumLemmas.addresses-total}
use Rattle.npf_rewrite.proofs.SentLemmas.{sent_is_packet_lem}
use Rattle.npf_nat_law.specs.Neutral.{AnswerIsSent, AnswerKeepsSums, IsAnswer, IsNeutral, PacketIsSent, PacketKeepsSums}
use Rattle.npf_nat_law.proofs.{PlanLemmas.{IsMoved, given_end, is_planned, moved_back, npt66_change, taken_end}, WordsLemmas.addresses_are}

-- where no port is named, none is written
no_source : (at : ℕ) (l4 : L4) → source_write at None None l4 ≡ None
no_source at (Tcp _ _ _ _) = refl
no_source at (Udp _ _) = refl
no_source at (Icmp _ _ (Some _)) = refl
no_source at (Icmp _ _ None) = refl
no_source at (Icmp6 _ _ (Some _)) = refl
no_source at (Icmp6 _ _ None) = refl
no_source at Other = refl

no_destination : (at : ℕ) (l4 : L4) → destination_write at None None l4 ≡ None
no_destination at (Tcp _ _ _ _) = refl
no_destination at (Udp _ _) = refl
no_destination at (Icmp _ _ _) = refl
no_destination at (Icmp6 _ _ _) = refl
no_destination at Other = refl

named_by : (b : Bool) (e : End) → e.port ≡ None → named_port (if b then Some e else None) ≡ None
named_by true e none = none
named_by false e none = refl

no_ports : (facts : Facts) (change : Change) → named_port (new_ends facts change).src ≡ None
    → named_port (new_ends facts change).dst ≡ None → port_writes facts (new_ends facts change) ≡ []
no_ports facts change src dst =
    ap (λ s. word_list (source_write facts.l4_at s (named_port (new_ends facts change).dst) facts.l4)
    ++ word_list (destination_write facts.l4_at s (named_port (new_ends facts change).dst) facts.l4)) src
    ∙ ap (λ d. word_list (source_write facts.l4_at None d facts.l4)
    ++ word_list (destination_write facts.l4_at None d facts.l4)) dst
    ∙ ap (λ w. word_list w ++ word_list (destination_write facts.l4_at None None facts.l4)) (no_source facts.l4_at facts.l4)
    ∙ ap (λ w. word_list w) (no_destination facts.l4_at facts.l4)

-- the addresses of a packet of IPv6
pub record AreV6 (bytes : List ℕ) (ip : ℕ) (src dst : Addr) : Type 0 where
  pub src_v6 : IsTrue (is_v6 src)
  pub dst_v6 : IsTrue (is_v6 dst)
  pub source : number128 bytes (ip + 8) ≡ address_number src
  pub destination : number128 bytes (ip + 24) ≡ address_number dst

by_source : (bytes : List ℕ) (ip l4_at proto : ℕ) (src dst : Addr) → IsTrue (is_v6 src)
    → HasIpHeader bytes ip l4_at proto src dst → AreV6 bytes ip src dst
by_source bytes ip l4_at proto (V6 s) (V6 d) six h = record { src_v6 = refl; dst_v6 = refl; source = h.source; destination = h.destination }
by_source bytes ip l4_at proto (V6 s) (V4 d) six h = absurd h
by_source bytes ip l4_at proto (V4 s) dst six h = cc

by_destination : (bytes : List ℕ) (ip l4_at proto : ℕ) (src dst : Addr) → IsTrue (is_v6 dst)
    → HasIpHeader bytes ip l4_at proto src dst → AreV6 bytes ip src dst
by_destination bytes ip l4_at proto (V6 s) (V6 d) six h = record { src_v6 = refl; dst_v6 = refl; source = h.source; destination = h.destination }
by_destination bytes ip l4_at proto (V4 s) (V6 d) six h = absurd h
by_destination bytes ip l4_at proto src (V4 d) six h = cc

of_v6 : (src : Addr) → IsTrue (is_v6 src) → (a : ℕ) × (src ≡ V6 a)
of_v6 (V6 a) six = (a, refl)
of_v6 (V4 a) six = cc

total_is : (bytes : List ℕ) (ip : ℕ) (src dst own : Addr) → IsTrue (is_v6 own) → AreV6 bytes ip src dst
    → addresses_total (slice_index bytes) ip own % 65535 ≡ (address_number src + address_number dst) % 65535
total_is bytes ip src dst own six are =
    let is = of_v6 own six in
    ap (λ x. addresses_total (slice_index bytes) ip x % 65535) is.1
    ∙ addresses_are bytes ip is.0
    ∙ ap (λ s. (s + number128 bytes (ip + 24)) % 65535) are.source
    ∙ ap (λ d. (address_number src + d) % 65535) are.destination

share : (x src : Addr) → IsTrue (is_v6 x) → IsTrue (is_v6 src) → shares_family x src ≡ true
share (V6 _) (V6 _) p q = refl
share (V4 _) src p q = cc
share (V6 _) (V4 _) p q = cc

-- a change of one end, without a port, to an address that has the sum of the one before
module _ (link : Link) (bytes translated : List ℕ) (facts : Facts) (decodes : Decodes link bytes (Ip facts)) (x : Addr) where
  abbrev end : End
  end = record { addr = x; port = None }

  taken : IsTrue (is_v6 x) → IsTrue (is_v6 facts.src) → fitting facts.src (Some end) ≡ Some end
  taken six own = ap (λ b. if b then Some end else None) (share x facts.src six own)

  pub source-keeps : IsMoved facts.src x → AddressesFit facts (source_change x None true)
      → Translated bytes facts (source_change x None true) translated
      → IsNeutral bytes facts (source_change x None true) translated
  source-keeps moved fits t =
      let there = translated_decodes_lem link bytes translated facts (source_change x None true) decodes fits t in
      let was = by_source bytes facts.ip_at facts.l4_at facts.proto facts.src facts.dst moved.own
      (has_fields link bytes facts decodes).header in
      let is = taken moved.given moved.own in
      let header = subst (λ o. HasIpHeader translated facts.ip_at facts.l4_at facts.proto (address_there o facts.src) facts.dst) is
      (has_fields link translated (facts_there (source_change x None true) facts) there).header in
      let now = by_source translated facts.ip_at facts.l4_at facts.proto x facts.dst moved.given header in
      record {
        neutral = refl;
        keeps = record {
          no_port = no_ports facts (source_change x None true)
              (named_by (shares_family x facts.src) end refl) refl;
          addresses = total_is translated facts.ip_at x facts.dst facts.src moved.own now
              ∙ omega (arith, moved.same)
              ∙ sym (total_is bytes facts.ip_at facts.src facts.dst facts.src moved.own was);
        };
      }

  pub destination-keeps : IsMoved facts.dst x → AddressesFit facts (destination_change x None true)
      → Translated bytes facts (destination_change x None true) translated
      → IsNeutral bytes facts (destination_change x None true) translated
  destination-keeps moved fits t =
      let there = translated_decodes_lem link bytes translated facts (destination_change x None true) decodes fits t in
      let was = by_destination bytes facts.ip_at facts.l4_at facts.proto facts.src facts.dst moved.own
      (has_fields link bytes facts decodes).header in
      let is = taken moved.given was.src_v6 in
      let header = subst (λ o. HasIpHeader translated facts.ip_at facts.l4_at facts.proto facts.src (address_there o facts.dst)) is
      (has_fields link translated (facts_there (destination_change x None true) facts) there).header in
      let now = by_source translated facts.ip_at facts.l4_at facts.proto facts.src x was.src_v6 header in
      record {
        neutral = refl;
        keeps = record {
          no_port = no_ports facts (destination_change x None true) refl
              (named_by (shares_family x facts.src) end refl);
          addresses = total_is translated facts.ip_at facts.src x facts.src was.src_v6 now
              ∙ omega (arith, moved.same)
              ∙ sym (total_is bytes facts.ip_at facts.src facts.dst facts.src was.src_v6 was);
        };
      }

packet_by : (dir : Dir) (link : Link) (bytes translated : List ℕ) (map : Map) (facts : Facts)
    → Decodes link bytes (Ip facts)
    → IsMoved (taken_end dir facts) (given_end dir map facts)
    → AddressesFit facts (npt66_change dir map facts) → Translated bytes facts (npt66_change dir map facts) translated
    → IsNeutral bytes facts (npt66_change dir map facts) translated
packet_by Out link bytes translated map facts decodes moved fits t =
    source-keeps link bytes translated facts decodes _ moved fits t
packet_by In link bytes translated map facts decodes moved fits t =
    destination-keeps link bytes translated facts decodes _ moved fits t

pub packet_keeps_lem : PacketKeepsSums
packet_keeps_lem link bytes translated unsaid map facts dir there back is decodes planned =
    let plan = is_planned unsaid dir map facts there back is planned in
    subst (λ change. AddressesFit facts change → Translated bytes facts change translated → IsNeutral bytes facts change translated)
    plan.there_is (packet_by dir link bytes translated map facts decodes plan.moved)

family_v6 : (src dst : Addr) → IsTrue (shares_family src dst) → IsTrue (is_v6 dst) → IsTrue (is_v6 src)
family_v6 (V6 _) dst one six = refl
family_v6 (V4 _) (V6 _) one six = cc
family_v6 (V4 _) (V4 _) one six = cc

answer_by : (dir : Dir) (link : Link) (answered translated : List ℕ) (map : Map) (facts answer : Facts) → IsOneFamily facts
    → IsMoved (taken_end dir facts) (given_end dir map facts)
    → IsAnswer facts (npt66_change dir map facts) answer → Decodes link answered (Ip answer)
    → AddressesFit answer (answer_change facts (npt66_change dir map facts))
    → Translated answered answer (answer_change facts (npt66_change dir map facts)) translated
    → IsNeutral answered answer (answer_change facts (npt66_change dir map facts)) translated
answer_by Out link answered translated map facts answer one moved answers decodes fits t =
    let x = given_end Out map facts in
    let is = answers.dst ∙ ap (λ o. address_there o facts.src)
    (ap (λ b. if b then Some (record { addr = x; port = None }) else None) (share x facts.src moved.given moved.own)) in
    destination-keeps link answered translated answer decodes facts.src
    (subst (λ y. IsMoved y facts.src) (sym is) (moved_back facts.src x moved)) fits t
answer_by In link answered translated map facts answer one moved answers decodes fits t =
    let x = given_end In map facts in
    let is = answers.src ∙ ap (λ o. address_there o facts.dst)
    (ap (λ b. if b then Some (record { addr = x; port = None }) else None)
    (share x facts.src moved.given (family_v6 facts.src facts.dst one moved.own))) in
    source-keeps link answered translated answer decodes facts.dst
    (subst (λ y. IsMoved y facts.dst) (sym is) (moved_back facts.dst x moved)) fits t

pub answer_keeps_lem : AnswerKeepsSums
answer_keeps_lem link answered translated unsaid map facts answer dir there back is one planned answers decodes =
    let plan = is_planned unsaid dir map facts there back is planned in
    let given = subst (λ change. IsAnswer facts change answer) (sym plan.there_is) answers in
    subst (λ change. AddressesFit answer change → Translated answered answer change translated
    → IsNeutral answered answer change translated)
    plan.back_is (answer_by dir link answered translated map facts answer one plan.moved given decodes)

-- what is sent of a packet by a change that is neutral for whatever decodes to its facts
sent_by : (link : Link) (bytes sent : List ℕ) (facts : Facts) (action : Action) (change : Change) → HasBytes bytes
    → ActionFits action → AddressesFit facts change → PortsFit facts change → Decodes link bytes (Ip facts)
    → ((middle : List ℕ) → Decodes link middle (Ip facts) → Translated middle facts change sent
    → IsNeutral middle facts change sent)
    → Sent bytes facts action change sent → IsPacketThere link bytes facts change sent
sent_by link bytes sent facts action change small numbers addresses ports decodes neutral s =
    let room = decoded_room link bytes facts decodes in
    let is = neutral s.normalised
    (normalised_decodes_lem link bytes s.normalised facts action small numbers decodes s.first) s.second in
    sent_is_packet_lem link bytes sent facts action change small (record {
      numbers = numbers;
      addresses = addresses;
      ports = ports;
      neutral = λ yes. record {
        no_port = is.keeps.no_port;
        addresses = is.keeps.addresses
            ∙ ap (λ (n : ℕ). n % 65535) (addresses-total bytes s.normalised facts action room s.first);
      };
    }) decodes s

pub packet_sent_lem : PacketIsSent
packet_sent_lem link bytes sent unsaid map facts action dir there back is small numbers addresses ports decodes planned =
    sent_by link bytes sent facts action there small numbers addresses ports decodes
    (λ middle says t. packet_keeps_lem link middle sent unsaid map facts dir there back is says planned addresses t)

pub answer_sent_lem : AnswerIsSent
answer_sent_lem link answered sent unsaid map facts answer action dir there back is one small numbers addresses ports decodes planned answers =
    sent_by link answered sent answer action back small numbers addresses ports decodes
    (λ middle says t. answer_keeps_lem link middle sent unsaid map facts answer dir there back is one planned answers says addresses t)
