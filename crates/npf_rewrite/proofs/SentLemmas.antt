-- What is sent of a packet.
use Rattle.std.proofs.Common.{◌≡◌, ℕ, ◌+◌, ◌<◌, ◌≤◌, Bool, true, false, Option, Some, None, List, [], ◌∷◌, ◌++◌, length, refl, sym, ap, ◌∙◌, subst, arith}
use Rattle.std.{proofs.lemmas.Bool.Decides.nat_tests, specs.Prelude.{◌%◌, ◌^◌, slice_index}}
use Rattle.npf_fields.specs.Field.{number16}
use Rattle.npf_types.specs.declared.{action.Action.Action, address.Addr.{Addr, TheVariants.{V4, V6}}, change.Change.Change, facts.{Facts.Facts, L4.L4}}
use Rattle.npf_types.specs.declared.facts.L4.TheVariants.{Tcp, Udp, Icmp, Icmp6, Other}
use Rattle.npf_rewrite.specs.{declared.word.WordAt.WordAt, Normalised.{Normalised, aligned, header_writes, mss_write, raised_ttl, segment_sum}}
use Rattle.npf_rewrite.specs.{NormalisedFacts.ActionFits, Room.HasRoom, SentLaw.SentIsPacket, Translated.{Translated, header_sum}}
use Rattle.npf_rewrite.specs.{Verified.{HasBytes, HasSum, HeaderVerifies, KeepsSums, PortsFit, UpperVerifies}, Word.{byte_there, word_list}}
use Rattle.npf_rewrite.proofs.{DecodedLemmas.translated_decodes_lem, LengthLemmas.sent_lengths_lem}
use Rattle.npf_rewrite.proofs.{NeutralLemmas.{absent_sum_lem, neutral_header_lem, neutral_upper_lem}, NormalisedCarriedLemmas.{CarriedStays, carried-stays}}
use Rattle.npf_rewrite.proofs.NormalisedDecodedLemmas.{decoded_room, normalised_decodes_lem}
use Rattle.npf_rewrite.proofs.NormalisedSumLemmas.{addresses-total, cleared-fits, lowered-fit, normalised_header_lem, normalised_upper_lem, raised-fits}
use Rattle.npf_rewrite.proofs.{SumLemmas.{header_sum_follows_lem, upper_sum_follows_lem}, TotalLemmas.{AllFit, fit-append, sum_after-fits}}

-- bytes of which words are written are bytes
written-small : (ws : List WordAt) (k x : ℕ) → AllFit ws → x < 2 ^ 8 → byte_there ws k x < 2 ^ 8
written-small [] k x fit small = small
written-small (w ∷ ws) k x fit small = written-small ws k _ fit.1 (grind (arith, nat_tests, fit.0))

header_sum-fits : (bytes : List ℕ) (ip : ℕ) (src : Addr) (ws : List WordAt) → HasBytes bytes
    → AllFit (word_list (header_sum bytes ip src ws))
header_sum-fits bytes ip (V4 a) ws small =
    (sum_after-fits bytes ws (number16 bytes (ip + 10)) (omega (arith, small (ip + 10), small (ip + 10 + 1))), tt)
header_sum-fits bytes ip (V6 a) ws small = tt

segment_sum-fits : (bytes : List ℕ) (at : ℕ) (o : Option WordAt) → HasBytes bytes
    → AllFit (word_list (segment_sum bytes at o))
segment_sum-fits bytes at (Some w) small =
    (sum_after-fits bytes (aligned bytes at w) (number16 bytes (at + 16)) (omega (arith, small (at + 16), small (at + 16 + 1))), tt)
segment_sum-fits bytes at None small = tt

-- a normalised packet has bytes
normalised-small : (bytes normalised : List ℕ) (facts : Facts) (action : Action) → HasBytes bytes → ActionFits action
    → Normalised bytes facts action normalised → HasBytes normalised
normalised-small bytes normalised facts action small fits n at =
    let ip = facts.ip_at in
    let h = header_writes bytes facts action in
    let fit = fit-append ((h ++ word_list (mss_write bytes facts action)) ++ word_list (header_sum bytes ip facts.src h))
    (word_list (segment_sum bytes facts.l4_at (mss_write bytes facts action)))
    (fit-append (h ++ word_list (mss_write bytes facts action)) (word_list (header_sum bytes ip facts.src h))
    (fit-append h (word_list (mss_write bytes facts action))
    (fit-append (word_list (raised_ttl bytes ip facts.src action.min_ttl)) _
    (raised-fits bytes ip facts.src action.min_ttl small fits.ttl)
    (cleared-fits bytes ip facts.src action.no_df small))
    (lowered-fit bytes facts.l4 action.max_mss fits.mss))
    (header_sum-fits bytes ip facts.src h small))
    (segment_sum-fits bytes facts.l4_at (mss_write bytes facts action) small) in
    subst (λ x. x < 2 ^ 8) (sym (n.each at)) (written-small _ at (slice_index bytes at) fit (small at))

number16-same : (bytes new : List ℕ) (at : ℕ) → ((k : ℕ) → at ≤ k → slice_index new k ≡ slice_index bytes k)
    → number16 new (at + 6) ≡ number16 bytes (at + 6)
number16-same bytes new at same =
    omega (arith, same (at + 6) (omega arith), same (at + 6 + 1) (omega arith))

-- a datagram that has a sum has one when it is normalised
has-sum : (bytes new : List ℕ) (at : ℕ) (src : Addr) (l4 : L4)
    → CarriedStays (slice_index bytes) (slice_index new) at l4 → HasSum bytes at src l4 → HasSum new at src l4
has-sum bytes new at (V4 a) (Udp sport dport) same has =
    λ none. has (sym (number16-same bytes new at same) ∙ none)
has-sum bytes new at (V6 a) (Udp sport dport) same has = tt
has-sum bytes new at src (Tcp sport dport seg size) same has = tt
has-sum bytes new at src (Icmp kind code echo) same has = tt
has-sum bytes new at src (Icmp6 kind code echo) same has = tt
has-sum bytes new at src Other same has = tt

-- the sums of a translated packet, whether the change is neutral or not
module _ (bytes translated : List ℕ) (facts : Facts) (change : Change) (small : HasBytes bytes)
    (fits : PortsFit facts change) (room : HasRoom (length bytes) facts)
    (t : Translated bytes facts change translated) where
  header-by : (b : Bool) → change.neutral ≡ b → (change.neutral ≡ true → KeepsSums bytes facts change translated)
      → (a : ℕ) → facts.src ≡ V4 a → HeaderVerifies bytes facts → HeaderVerifies translated facts
  header-by true is keeps a e was = neutral_header_lem bytes translated facts change a e room is (keeps is) t was
  header-by false is keeps a e was = header_sum_follows_lem bytes translated facts change a small e room is t was

  upper-by : (b : Bool) → change.neutral ≡ b → (change.neutral ≡ true → KeepsSums bytes facts change translated)
      → HasSum bytes facts.l4_at facts.src facts.l4 → UpperVerifies bytes facts → UpperVerifies translated facts
  upper-by true is keeps has was = neutral_upper_lem bytes translated facts change room is (keeps is) t was
  upper-by false is keeps has was = upper_sum_follows_lem bytes translated facts change small fits room is has t was

pub sent_is_packet_lem : SentIsPacket
sent_is_packet_lem link bytes sent facts action change small may decodes s =
    let room = decoded_room link bytes facts decodes in
    let middle = s.normalised in
    let room' = subst (λ size. HasRoom size facts) (sym s.first.size) room in
    let small' = normalised-small bytes middle facts action small may.numbers s.first in
    let stays = carried-stays bytes middle facts action room s.first in
    let keeps : change.neutral ≡ true → KeepsSums middle facts change sent = λ is. record {
      no_port = (may.neutral is).no_port;
      addresses = (may.neutral is).addresses
          ∙ ap (λ (n : ℕ). n % 65535) (sym (addresses-total bytes middle facts action room s.first));
    } in
    record {
      lengths = sent_lengths_lem bytes sent facts action change room s;
      decodes = translated_decodes_lem link middle sent facts change
          (normalised_decodes_lem link bytes middle facts action small may.numbers decodes s.first)
          may.addresses s.second;
      header = λ a e was. header-by middle sent facts change small' may.ports room' s.second change.neutral refl
          keeps a e (normalised_header_lem bytes middle facts action a small may.numbers e room s.first was);
      upper = λ has was. upper-by middle sent facts change small' may.ports room' s.second change.neutral refl
          keeps (has-sum bytes middle facts.l4_at facts.src facts.l4 stays has)
          (normalised_upper_lem bytes middle facts action small may.numbers room s.first was);
      absent = λ a sport dport e udp none. absent_sum_lem middle sent facts change a sport dport e udp room' s.second
          (number16-same bytes middle facts.l4_at
          (subst (λ l4. CarriedStays (slice_index bytes) (slice_index middle) facts.l4_at l4) udp stays) ∙ none);
    }
