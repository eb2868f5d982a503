-- What a run leaves of its packets.
use Rattle.std.proofs.{Common.{◌≡◌, ℕ, zero, suc, ◌+◌, true, List, [], ◌∷◌, Option, take, drop, length, refl, ap, sym, subst}, lemmas.Bool.false≢true}
use Rattle.std.{proofs.lemmas.List.Elements.{All-from_recursion, recursion_from_All}, specs.List.{All, AllByRecursion}}
use Rattle.npf_packet.specs.{declared.decoded.Decoded.TheVariants.Ip, Decoder.Decodes}
use Rattle.npf_types.specs.declared.facts.Facts.{Facts}
use Rattle.npf_connections.specs.Pass.{Pass}
use Rattle.npf_model.specs.{Configuration.Configuration, declared.iface.Iface.Iface}
use Rattle.npf_engine.specs.{declared.outcome.Outcome.Outcome, Arrival.Arrival, Explains.{Explains, Sight}, Histories.{FlowEntry, History}, Outcome.passes}
use Rattle.npf_traffic.specs.{declared.{packet.Packet.Packet, phase.{Phase.Phase, Spread.Spread}}, Phases.published_by}
use Rattle.npf_runner.specs.Plays.{AreAnswered, PlaysFrom}
use Rattle.npf_ctl_arrivals.specs.Within.{CrossesOneOf, HasCaptureTime}
use Rattle.npf_ctl_output.specs.{Outputs.{AreOutputsOf, PlayedAreOutputs}, Report.{lines_from, report_text}}

-- only a packet of IP passes
passes_ip : {configs : List Configuration} {sight : Sight} {arrival : Arrival} {asked : Option ℕ} {said : _} {outcome : Outcome} {sent : Option (List ℕ)} →
    Explains configs sight arrival asked said outcome sent → passes outcome ≡ true → (facts : Facts) × Decodes arrival.link arrival.bytes (Ip facts)
passes_ip (Explains.fragment held) goes_on = absurd (false≢true goes_on)
passes_ip (Explains.skip free decodes) goes_on = absurd (false≢true goes_on)
passes_ip (Explains.malformed free decodes) goes_on = absurd (false≢true goes_on)
passes_ip (Explains.ip {facts = facts} free decodes explains) goes_on = (facts, decodes)

module _ (configs : List Configuration) (workers : ℕ) (spread : Spread) (slots : ℕ) (history end : History) where
  answered_outputs : (n : ℕ) (packets : List Packet) (dealt : List ℕ) (asked : List (Option ℕ)) (outcomes : List Outcome) (outputs : List Packet) →
      AreAnswered configs workers spread slots history end n packets dealt asked outcomes outputs → AreOutputsOf packets outcomes outputs
  answered_outputs n [] [] [] [] [] a = tt
  answered_outputs n (p ∷ ps) (w ∷ ws) (q ∷ qs) (c ∷ cs) (o ∷ os) a =
      (record { same = a.0.same; ip = passes_ip a.0.explained.explains }, answered_outputs (n + 1) ps ws qs cs os a.1)
  answered_outputs n [] (w ∷ ws) asked outcomes outputs a = absurd a
  answered_outputs n [] [] (q ∷ qs) outcomes outputs a = absurd a
  answered_outputs n [] [] [] (c ∷ cs) outputs a = absurd a
  answered_outputs n [] [] [] [] (o ∷ os) a = absurd a
  answered_outputs n (p ∷ ps) [] asked outcomes outputs a = absurd a
  answered_outputs n (p ∷ ps) (w ∷ ws) [] outcomes outputs a = absurd a
  answered_outputs n (p ∷ ps) (w ∷ ws) (q ∷ qs) [] outputs a = absurd a
  answered_outputs n (p ∷ ps) (w ∷ ws) (q ∷ qs) (c ∷ cs) [] a = absurd a

-- the first packets are left so, and all others
joined_outputs : (k : ℕ) (packets : List Packet) (outcomes : List Outcome) (outputs : List Packet) → AreOutputsOf (take k packets) (take k outcomes) (take k outputs) →
    AreOutputsOf (drop k packets) (drop k outcomes) (drop k outputs) → AreOutputsOf packets outcomes outputs
joined_outputs zero packets outcomes outputs first rest = rest
joined_outputs (suc k) [] [] [] first rest = tt
joined_outputs (suc k) (p ∷ ps) (c ∷ cs) (o ∷ os) first rest = (first.0, joined_outputs k ps cs os first.1 rest)
joined_outputs (suc k) [] [] (o ∷ os) first rest = absurd first
joined_outputs (suc k) [] (c ∷ cs) outputs first rest = absurd first
joined_outputs (suc k) (p ∷ ps) [] outputs first rest = absurd first
joined_outputs (suc k) (p ∷ ps) (c ∷ cs) [] first rest = absurd first

module _ (configs : List Configuration) (workers : ℕ) (spread : Spread) (old new : Pass FlowEntry) where
  phases_outputs : (start : History) (first last : ℕ) (phases : List Phase) (packets outputs : List Packet) (outcomes : List Outcome) →
      PlaysFrom configs workers spread old new start first last phases packets outputs outcomes → AreOutputsOf packets outcomes outputs
  phases_outputs start first last [] packets outputs outcomes (at_end, no_packets, no_outputs, no_outcomes) = rw (no_packets, no_outputs, no_outcomes) tt
  phases_outputs start first last (phase ∷ phases) packets outputs outcomes (end, plays, onward) =
      let k = phase.packets in
      joined_outputs k packets outcomes outputs
      (answered_outputs configs workers spread old.slots new.history end first (take k packets) plays.dealt plays.asked (take k outcomes) (take k outputs) plays.answered)
      (phases_outputs end (first + k) (last + published_by phase.commands) phases (drop k packets) (drop k outputs) (drop k outcomes) onward)

-- so every run leaves its packets
pub are_outputs : PlayedAreOutputs
are_outputs configs workers spread old new phases packets outputs outcomes plays = phases_outputs configs workers spread old new old.history 1 0 phases packets outputs outcomes plays.phased

-- there are as many of each
pub counts_of_outputs : (packets : List Packet) (outcomes : List Outcome) (outputs : List Packet) → AreOutputsOf packets outcomes outputs →
    (length outcomes ≡ length packets) × (length outputs ≡ length packets)
counts_of_outputs [] [] [] a = (refl, refl)
counts_of_outputs (p ∷ ps) (c ∷ cs) (o ∷ os) a = let rest = counts_of_outputs ps cs os a.1 in (ap suc rest.0, ap suc rest.1)
counts_of_outputs [] [] (o ∷ os) a = absurd a
counts_of_outputs [] (c ∷ cs) outputs a = absurd a
counts_of_outputs (p ∷ ps) [] outputs a = absurd a
counts_of_outputs (p ∷ ps) (c ∷ cs) [] a = absurd a

-- what holds of each packet whatever its bytes holds of what is left of it
module _ (P : Packet → Type 0) (whatever : (packet : Packet) (bytes : List ℕ) → P packet → P (record packet { bytes = bytes })) where
  each_output : (packets : List Packet) (outcomes : List Outcome) (outputs : List Packet) → AreOutputsOf packets outcomes outputs →
      AllByRecursion P packets → AllByRecursion P outputs
  each_output [] [] [] a each = tt
  each_output (p ∷ ps) (c ∷ cs) (o ∷ os) a each = (subst P (sym a.0.same) (whatever p o.bytes each.0), each_output ps cs os a.1 each.1)
  each_output [] [] (o ∷ os) a each = absurd a
  each_output [] (c ∷ cs) outputs a each = absurd a
  each_output (p ∷ ps) [] outputs a each = absurd a
  each_output (p ∷ ps) (c ∷ cs) [] a each = absurd a

  all_outputs : (packets : List Packet) (outcomes : List Outcome) (outputs : List Packet) → AreOutputsOf packets outcomes outputs → All P packets → All P outputs
  all_outputs packets outcomes outputs a each = All-from_recursion P outputs (each_output packets outcomes outputs a (recursion_from_All P packets each))

pub outputs_have_time : (packets : List Packet) (outcomes : List Outcome) (outputs : List Packet) → AreOutputsOf packets outcomes outputs →
    All HasCaptureTime packets → All HasCaptureTime outputs
outputs_have_time = all_outputs HasCaptureTime (λ packet bytes has. has)

pub outputs_cross : (count : ℕ) (packets : List Packet) (outcomes : List Outcome) (outputs : List Packet) → AreOutputsOf packets outcomes outputs →
    All (CrossesOneOf count) packets → All (CrossesOneOf count) outputs
outputs_cross count = all_outputs (CrossesOneOf count) (λ packet bytes crosses. crosses)

-- the report of what is left is that of the packets
same_lines : (ifaces : List Iface) (n : ℕ) (packets : List Packet) (outcomes : List Outcome) (outputs : List Packet) → AreOutputsOf packets outcomes outputs →
    lines_from ifaces n outputs outcomes ≡ lines_from ifaces n packets outcomes
same_lines ifaces n [] [] [] a = refl
same_lines ifaces n (p ∷ ps) (c ∷ cs) (o ∷ os) a =
    rw (ap (λ (x : Packet). x.ifid) a.0.same, ap (λ (x : Packet). x.dir) a.0.same, same_lines ifaces (n + 1) ps cs os a.1) refl
same_lines ifaces n [] [] (o ∷ os) a = absurd a
same_lines ifaces n [] (c ∷ cs) outputs a = absurd a
same_lines ifaces n (p ∷ ps) [] outputs a = absurd a
same_lines ifaces n (p ∷ ps) (c ∷ cs) [] a = absurd a

pub same_report : (ifaces : List Iface) (packets : List Packet) (outcomes : List Outcome) (outputs : List Packet) → AreOutputsOf packets outcomes outputs →
    report_text ifaces outputs outcomes ≡ report_text ifaces packets outcomes
unfolding report_text
same_report ifaces packets outcomes outputs a = rw (same_lines ifaces 1 packets outcomes outputs a) refl
