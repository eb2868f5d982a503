-- A translated packet decodes to the facts of the change.
use Rattle.std.proofs.{Common.{◌≡◌, ℕ, ◌+◌, ◌≤◌, false, Some, List, Ok, Err, sym, ap, ◌∙◌, subst, arith}, lemmas.Bool.Decides.nat_tests}
use Rattle.std.specs.Prelude.{MatchResult, ◌==◌}
use Rattle.npf_types.specs.declared.{change.Change.Change, facts.Facts.Facts}
use Rattle.npf_key.specs.Translated.{facts_there}
use Rattle.npf_packet.specs.{declared.decoded.Decoded.TheVariants.Ip, Chain.IsChain, Decoder.packet_at, Ipv4.{fields_v4, packet_v4}}
use Rattle.npf_packet.{specs.{Ipv6.{IsPacketV6, end_v6, first_header, is_extension, next_header}, Upper.Carries}, proofs.ChainLemmas.chain_keeps}
use Rattle.npf_packet.proofs.{HeaderLemmas.{fields_v6, is_whole_v4, never_v4, of_ok}, PacketFieldLemmas.has_places, UpperLemmas.is_carried}
use Rattle.npf_rewrite.{specs.{Translated.Translated, TranslatedFacts.{AddressesFit, TranslatedDecodes}}, proofs.PlacedLemmas.{front-same, laid}}
use Rattle.npf_rewrite.proofs.{VersionLemmas.decodes-there, HeaderLemmas.{decoded-v4, decoded-v6}}

pub next-between : (bytes : List ℕ) (from end k n a k' n' a' : ℕ) → from ≤ a
    → next_header bytes end (record { kind = k; named_at = n; at = a }) ≡ Some (record { kind = k'; named_at = n'; at = a' })
    → (from ≤ a') × (a' ≤ end)
next-between bytes from end k n a k' n' a' after h = (grind (arith, nat_tests), grind (arith, nat_tests))

pub ends_v6 : (bytes : List ℕ) (ip end : ℕ) → end_v6 bytes ip ≡ Ok end → ip + 40 ≤ end
ends_v6 bytes ip end h = grind (arith, nat_tests)

module _ (bytes translated : List ℕ) (ip : ℕ) (facts : Facts) (change : Change)
    (fit : AddressesFit facts change) (t : Translated bytes facts change translated) where
  abbrev is : Facts
  is = facts_there change facts

  from-v4 : MatchResult (packet_v4 bytes ip) (λ packet. Carries bytes packet (Ip facts)) (λ answer. Ip facts ≡ answer)
      → MatchResult (packet_v4 translated ip) (λ packet. Carries translated packet (Ip is)) (λ answer. Ip is ≡ answer)
  from-v4 h =
      let found = of_ok (packet_v4 bytes ip) (λ packet. Carries bytes packet (Ip facts))
      (λ answer. Ip facts ≡ answer)
      (λ answer e same. never_v4 bytes ip facts (e ∙ ap (λ a. Err a) (sym same))) h in
      let whole = is_whole_v4 bytes ip found.0 found.1.0 in
      let carries = subst (λ packet. Carries bytes packet (Ip facts)) (sym whole.is) found.1.1 in
      let carried = is_carried bytes (fields_v4 bytes ip) facts (omega (arith, whole.total)) carries in
      let P : Facts → Type 0 = λ f. Carries bytes (fields_v4 bytes ip) (Ip f) → AddressesFit f change
      → Translated bytes f change translated
      → MatchResult (packet_v4 translated ip) (λ packet. Carries translated packet (Ip (facts_there change f)))
      (λ answer. Ip (facts_there change f) ≡ answer) in
      subst P carried.is
      (decoded-v4 bytes translated ip change carried.l4 (found.1.0 ∙ ap (λ p. Ok p) (sym whole.is))
      whole.header carried.protocol) carries fit t

  from-v6 : (end k n a : ℕ) (headers : List _) → end_v6 bytes ip ≡ Ok end
      → is_extension k ≡ false → (k == 44) ≡ false
      → IsChain (next_header bytes end) (first_header bytes ip) headers (record { kind = k; named_at = n; at = a })
      → Carries bytes (fields_v6 bytes ip end (record { kind = k; named_at = n; at = a })) (Ip facts)
      → IsPacketV6 translated ip (Ok (fields_v6 translated ip end (record { kind = k; named_at = n; at = a })))
      × Carries translated (fields_v6 translated ip end (record { kind = k; named_at = n; at = a })) (Ip is)
  from-v6 end k n a headers ends plain whole chain carries =
      let between = chain_keeps (next_header bytes end) (λ x. (ip + 40 ≤ x.at) × (x.at ≤ end))
      (λ x y p e. next-between bytes (ip + 40) end x.kind x.named_at x.at y.kind y.named_at y.at p.0 e)
      (first_header bytes ip) headers (record { kind = k; named_at = n; at = a }) chain
      (omega arith, ends_v6 bytes ip end ends) in
      let carried = is_carried bytes (fields_v6 bytes ip end (record { kind = k; named_at = n; at = a })) facts between.1
      carries in
      let P : Facts → Type 0 = λ f.
      Carries bytes (fields_v6 bytes ip end (record { kind = k; named_at = n; at = a })) (Ip f)
      → AddressesFit f change → Translated bytes f change translated
      → IsPacketV6 translated ip (Ok (fields_v6 translated ip end (record { kind = k; named_at = n; at = a })))
      × Carries translated (fields_v6 translated ip end (record { kind = k; named_at = n; at = a }))
      (Ip (facts_there change f)) in
      subst P carried.is
      (decoded-v6 bytes translated ip end k n a change carried.l4 between.0 carried.protocol ends plain whole
      headers chain) carries fit t

pub translated_decodes_lem : TranslatedDecodes
translated_decodes_lem link bytes translated facts change decodes fit t =
    let places = has_places link bytes facts decodes in
    let front = front-same bytes translated facts change places.upper t in
    decodes-there link bytes translated facts (facts_there change facts) t.size
    (λ k below. front k (omega (arith, below, places.ip, (laid facts.ip_at facts.src).least)))
    (from-v4 bytes translated (packet_at link) facts change fit t)
    (from-v6 bytes translated (packet_at link) facts change fit t) decodes
