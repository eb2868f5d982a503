-- Sums after a neutral change, and the datagram without one.
use Rattle.std.proofs.Common.{◌≡◌, ℕ, ◌+◌, ◌-◌, ◌*◌, ◌/◌, ◌%◌, ◌<◌, ◌≤◌, Bool, true, false, List, [], ◌∷◌, ◌++◌, ap, ◌∙◌, inr, arith}
use Rattle.std.{proofs.lemmas.Bool.Decides.nat_tests, specs.Prelude.{◌==◌, if◌then◌else◌, slice_index}}
use Rattle.npf_fields.specs.Field.{number16}
use Rattle.npf_types.specs.declared.{address.Addr.{TheVariants.V4, Addr}, change.Change.Change, facts.{Facts.Facts, L4.L4}}
use Rattle.npf_types.specs.declared.facts.L4.TheVariants.{Tcp, Udp, Icmp, Icmp6, Other}
use Rattle.npf_key.specs.Translated.{named_port}
use Rattle.npf_packet.specs.Place.{least_ip_header}
use Rattle.npf_rewrite.specs.Translated.{Translated, address_writes, destination_write, header_sum, new_ends, port_writes, source_at, source_write, sum_write, upper_sum, upper_sum_after, upper_sum_at}
use Rattle.npf_rewrite.specs.Verified.{AbsentSumStays, KeepsSums, NeutralHeaderSumFollows, NeutralUpperSumFollows, addresses_total, carried_total, counted_total, words_total}
use Rattle.npf_rewrite.{specs.Word.{byte_there, word, word_list}, proofs.PlacedLemmas.{carried-there, options-same, sum-there, unless}}
use Rattle.npf_rewrite.proofs.{SumLemmas.left_total-same, TotalLemmas.{after-elsewhere, header-total, words_total-same}, PortLemmas.{ports, ports-between}}

carried_total-same : (f g : ℕ → ℕ) (at end : ℕ) → ((k : ℕ) → at ≤ k → g k ≡ f k)
    → carried_total g at end ≡ carried_total f at end
carried_total-same f g at end same =
    let words = words_total-same g f at ((end - at) / 2) (λ k from to. same k from) in
    let left = left_total-same f g at end (λ odd. same (end - 1) (omega arith)) in
    omega (arith, words, left)

-- the sums of bytes that differ in the addresses alone, whose words have the same sum
module _ (f g : ℕ → ℕ) (facts : Facts) (carried : (k : ℕ) → facts.l4_at ≤ k → g k ≡ f k)
    (addresses : addresses_total g facts.ip_at facts.src % 65535
    ≡ addresses_total f facts.ip_at facts.src % 65535) where
  pub upper-same : (l4 : L4) → counted_total f facts l4 % 65535 ≡ 0 → counted_total g facts l4 % 65535 ≡ 0
  upper-same (Tcp _ _ _ _) was =
      omega (arith, carried_total-same f g facts.l4_at facts.end carried)
  upper-same (Udp _ _) was = omega (arith, carried_total-same f g facts.l4_at facts.end carried)
  upper-same (Icmp _ _ _) was = omega (arith, carried_total-same f g facts.l4_at facts.end carried)
  upper-same (Icmp6 _ _ _) was = omega (arith, carried_total-same f g facts.l4_at facts.end carried)
  upper-same Other was = was

  header-same : (n : ℕ) → 10 ≤ n → facts.ip_at + 2 * n ≤ facts.l4_at → (a : ℕ) → facts.src ≡ V4 a
      → ((k : ℕ) → k < facts.ip_at + 12 → g k ≡ f k)
      → ((k : ℕ) → facts.ip_at + 20 ≤ k → k < facts.l4_at → g k ≡ f k)
      → words_total f facts.ip_at n % 65535 ≡ 0 → words_total g facts.ip_at n % 65535 ≡ 0
  header-same n long ends a e front options was =
      let ip = facts.ip_at in
      let total = header-total f g ip n long (λ k from to. options k from (omega arith)) in
      let six = words_total-same g f ip 6 (λ k from to. front k (omega arith)) in
      omega (
        arith,
        was,
        total,
        six,
        addresses,
        ap (addresses_total f ip) e,
        ap (addresses_total g ip) e,
      )

-- of what is carried nothing was written
neutral-carried : (bytes translated : List ℕ) (facts : Facts) (change : Change)
    → facts.ip_at + least_ip_header facts.src ≤ facts.l4_at → change.neutral ≡ true
    → KeepsSums bytes facts change translated → Translated bytes facts change translated
    → (k : ℕ) → facts.l4_at ≤ k → slice_index translated k ≡ slice_index bytes k
neutral-carried bytes translated facts change above neutral keeps t k from =
    let ends = new_ends facts change in
    let u = word_list (upper_sum bytes facts ends) in
    carried-there bytes translated facts change above t k from
    ∙ ap (λ b. byte_there (unless b u) k (byte_there (port_writes facts ends) k (slice_index bytes k)))
    neutral
    ∙ ap (λ p. byte_there p k (slice_index bytes k)) keeps.no_port

pub neutral_header_lem : NeutralHeaderSumFollows
neutral_header_lem bytes translated facts change a e room neutral keeps t was =
    let source = ap (source_at facts.ip_at) e in
    let least = ap least_ip_header e in
    header-same (slice_index bytes) (slice_index translated) facts
    (neutral-carried bytes translated facts change room.upper neutral keeps t) keeps.addresses
    ((facts.l4_at - facts.ip_at) / 2) (omega (arith, room.upper)) (omega (arith, room.upper)) a e
    (λ k below. sum-there bytes translated facts change room.upper t k (omega arith)
    ∙ ap (λ b. byte_there (unless b (word_list (header_sum bytes facts.ip_at facts.src
    (address_writes facts (new_ends facts change))))) k (slice_index bytes k)) neutral)
    (λ k from below. options-same bytes translated facts change room.upper t k (omega arith) below)
    was

pub neutral_upper_lem : NeutralUpperSumFollows
neutral_upper_lem bytes translated facts change room neutral keeps t was =
    upper-same (slice_index bytes) (slice_index translated) facts
    (neutral-carried bytes translated facts change room.upper neutral keeps t) keeps.addresses facts.l4
    was

-- a sum of 0 that is written as 0, or isn't written
zero-stays : (b : Bool) (at k x : ℕ) → x ≡ 0 → byte_there (unless b (word at 0 ∷ [])) k x ≡ 0
zero-stays true at k x e = e
zero-stays false at k x e = grind (arith, nat_tests)

absent : (n v : ℕ) → n ≡ 0 → (if n == 0 then 0 else v) ≡ 0
absent n v e = grind (arith, nat_tests)

pub absent_sum_lem : AbsentSumStays
absent_sum_lem bytes translated facts change a sport dport source udp room t none =
    let at = facts.l4_at in
    let ends = new_ends facts change in
    let s = named_port ends.src in
    let d = named_port ends.dst in
    let addresses = address_writes facts ends in
    let written = port_writes facts ends in
    let after : Addr → L4 → ℕ = λ src l4.
    upper_sum_after bytes src l4 addresses written (number16 bytes (at + 6)) in
    let sum : word_list (upper_sum bytes facts ends) ≡ word (at + 6) 0 ∷ [] =
    ap (λ l4. word_list (sum_write bytes facts ends (upper_sum_at at l4))) udp
    ∙ ap (λ v. word (at + 6) v ∷ [])
    (ap (λ src. after src facts.l4) source ∙ ap (after (V4 a)) udp ∙ absent _ _ none) in
    let port : written ≡ ports at s d =
    ap (λ l4. word_list (source_write at s d l4) ++ word_list (destination_write at s d l4)) udp in
    let same : (k : ℕ) → at + 6 ≤ k → slice_index bytes k ≡ 0 → slice_index translated k ≡ 0 =
    λ k from was.
    carried-there bytes translated facts change room.upper t k (omega arith)
    ∙ ap (λ ws. byte_there (unless change.neutral ws) k (byte_there written k (slice_index bytes k)))
    sum
    ∙ zero-stays change.neutral (at + 6) k (byte_there written k (slice_index bytes k))
    (ap (λ ws. byte_there ws k (slice_index bytes k)) port
    ∙ after-elsewhere at (at + 4) (ports at s d) (slice_index bytes) k (ports-between at s d)
    (inr (omega arith)) ∙ was) in
    omega (
      arith,
      same (at + 6) (omega arith) (omega arith),
      same (at + 6 + 1) (omega arith) (omega arith),
    )
