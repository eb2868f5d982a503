-- What is written of a run's packets.
use Rattle.std.proofs.Common.{◌≡◌, ℕ, ◌+◌, ◌<◌, ◌≤◌, Bool, true, false, List, [], ◌∷◌, ◌++◌, length, get_or, drop, refl, sym, ap, ◌∙◌, append_assoc, arith}
use Rattle.std.{proofs.lemmas.List.{drop_more, drop_all, Concat.flat_map-append}, specs.List.flat_map}
use Rattle.npf_pcap.specs.{declared.capture.Record.Record, Spelling.record_bytes}
use Rattle.npf_engine.specs.{declared.outcome.Outcome.Outcome, Outcome.passes}
use Rattle.npf_traffic.specs.declared.packet.Packet.{Packet}
use Rattle.npf_packet.specs.declared.extent.IpExtent.{IpExtent}
use Rattle.npf_ctl_output.specs.{Extents.{AreExtentsOf, IsExtentOf}, Outputs.{AreOutputsOf, IsOutputOf}}
use Rattle.npf_ctl_output.specs.Capture.{AreWritten, IsWrittenAs, bytes_behind, records_from, record_from, written_records}

-- the record that is written of a packet of IP
written_as : (packet : Packet) (outcome : Outcome) (output : Packet) (extent : IpExtent) → IsExtentOf packet extent → IsOutputOf packet outcome output → passes outcome ≡ true →
    IsWrittenAs packet output (record_from extent output)
written_as packet outcome output extent of left pass =
    let ip = left.ip pass in
    let is = of ip.0 ip.1 in
    record {
      facts = ip.0;
      says = ip.1;
      time = ap (λ (p : Packet). p.time) left.same;
      bytes = rw (is.at, is.end) refl;
    }

module _ (packet : Packet) (outcome : Outcome) (output : Packet) (left : IsOutputOf packet outcome output) (packets outputs : List Packet) (outcomes : List Outcome)
    (records : List Record) (rest : AreWritten packets outputs outcomes records) where
  one_written : (extent : IpExtent) → IsExtentOf packet extent → (pass : Bool) → passes outcome ≡ pass →
      AreWritten (packet ∷ packets) (output ∷ outputs) (outcome ∷ outcomes) (records_from extent output outcome ++ records)
  one_written extent of true is = rw is (AreWritten.passed is (written_as packet outcome output extent of left is) rest)
  one_written extent of false is = rw is (AreWritten.kept is rest)

-- what is cut by the extents is what is to be written
pub all_written : (packets : List Packet) (extents : List IpExtent) (outputs : List Packet) (outcomes : List Outcome) → AreExtentsOf packets extents →
    AreOutputsOf packets outcomes outputs → AreWritten packets outputs outcomes (written_records extents outputs outcomes)
all_written [] [] [] [] e a = AreWritten.none
all_written (p ∷ ps) (x ∷ xs) (o ∷ os) (c ∷ cs) e a =
    one_written p c o a.0 ps os cs (written_records xs os cs) (all_written ps xs os cs e.1 a.1) x e.0 (passes c) refl
all_written [] (x ∷ xs) outputs outcomes e a = absurd e
all_written (p ∷ ps) [] outputs outcomes e a = absurd e
all_written [] [] outputs (c ∷ cs) e a = absurd a
all_written [] [] (o ∷ os) [] e a = absurd a
all_written (p ∷ ps) (x ∷ xs) outputs [] e a = absurd a
all_written (p ∷ ps) (x ∷ xs) [] (c ∷ cs) e a = absurd a

-- of all these bytes those in front of `left` were appended
pub record IsAppended (all left before now : List ℕ) : Type 0 where
  pub part : List ℕ
  pub gives : all ≡ part ++ left
  pub appends : now ≡ before ++ part

module _ (extents : List IpExtent) (outputs : List Packet) (outcomes : List Outcome) where
  abbrev behind : ℕ → List ℕ
  behind place = bytes_behind extents outputs outcomes place

  -- one packet more
  pub one_more : (i : ℕ) (extent : IpExtent) (output : Packet) (outcome : Outcome) → i < length outputs → length extents ≡ length outputs → length outcomes ≡ length outputs →
      extent ≡ get_or extents i extent → output ≡ get_or outputs i output → outcome ≡ get_or outcomes i outcome → (given all : List ℕ) → all ≡ given ++ behind i →
      all ≡ (given ++ flat_map record_bytes (records_from extent output outcome)) ++ behind (i + 1)
  one_more i extent output outcome within as_extents as_outcomes extent_is output_is outcome_is given all so_far =
      let xs : drop i extents ≡ extent ∷ drop (i + 1) extents = drop_more extents i extent (omega (arith, within, as_extents)) ∙ ap (λ x. x ∷ drop (i + 1) extents) (sym extent_is) in
      let os : drop i outputs ≡ output ∷ drop (i + 1) outputs = drop_more outputs i output within ∙ ap (λ o. o ∷ drop (i + 1) outputs) (sym output_is) in
      let cs : drop i outcomes ≡ outcome ∷ drop (i + 1) outcomes = drop_more outcomes i outcome (omega (arith, within, as_outcomes)) ∙ ap (λ c. c ∷ drop (i + 1) outcomes) (sym outcome_is) in
      let split : behind i ≡ flat_map record_bytes (records_from extent output outcome) ++ behind (i + 1) =
      rw (xs, os, cs) (flat_map-append record_bytes (records_from extent output outcome) (written_records (drop (i + 1) extents) (drop (i + 1) outputs) (drop (i + 1) outcomes))) in
      so_far ∙ (ap (λ b. given ++ b) split ∙ sym (append_assoc given (flat_map record_bytes (records_from extent output outcome)) (behind (i + 1))))

  -- behind the last packet nothing is left
  pub none_more : (i : ℕ) → length outputs ≤ i → length extents ≡ length outputs → behind i ≡ []
  none_more i past as_extents = rw (drop_all i extents (omega (arith, past, as_extents))) refl
