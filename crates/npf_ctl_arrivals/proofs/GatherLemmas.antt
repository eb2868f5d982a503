-- How the stages of gathering a capture come to what the code answers.
use Rattle.std.proofs.Common.{◌≡◌, ◌≤◌, ◌+◌, ◌++◌, ℕ, Bool, true, false, cond, Ok, Err, List, [], ◌∷◌, length, All, refl, sym, ap, arith}
use Rattle.std.proofs.lemmas.List.{flat_map_more, length-append, Elements.All-append}
use Rattle.npf_types.specs.{declared.{limits.TheConstants.{MAX_BYTES_OF_CAPTURES, MAX_PACKETS}, link.Link.Link}, Stages.{asks_that, stops, goes_on}}
use Rattle.npf_pcap.specs.{declared.capture.Record.Record, Extent.{IsShort, IsTimely, records_at}}
use Rattle.npf_ctl_messages.specs.declared.fault.CommandFault.{CommandFault}
use Rattle.npf_traffic.specs.Packet.{IsShortPacket}
use Rattle.npf_ctl_arrivals.specs.declared.{arrivals.Arrivals.Arrivals, trace.Trace.Trace}
use Rattle.npf_ctl_arrivals.specs.{Arrivals.{GathersCapture, Gathered, KeepsWithinRun, ReadsCapture, with_capture}, Gathering.gathered_so_far}
use Rattle.npf_ctl_arrivals.specs.{Traces.{packets_in_traces, packets_of_trace}, Within.{CrossesOneOf, HasCaptureTime, IsInterfaceNumber, IsWithinRun}}
use Rattle.npf_ctl_arrivals.proofs.PacketLemmas.{crossing_packets, length-packets_at, short_packets, timed_packets}

pub asked_yes : {test : Bool} (fault : CommandFault) → test ≡ true → asks_that test fault (Ok tt)
asked_yes {test = test} fault e = ap (λ b. cond b (Ok tt) (Err fault)) (sym e)

pub asked_no : {test : Bool} (fault : CommandFault) → test ≡ false → asks_that test fault (Err fault)
asked_no {test = test} fault e = ap (λ b. cond b (Ok tt) (Err fault)) (sym e)

pub packets_of_pushed : (traces : List Trace) (one : Trace) (pushed : List Trace) → pushed ≡ traces ++ one ∷ [] → packets_in_traces pushed ≡ packets_in_traces traces ++ packets_of_trace one
packets_of_pushed traces one pushed e = rw e (sym (flat_map_more packets_of_trace [] traces one))

-- a capture's trace, gathered with those before
module _ (before : Arrivals) (one : Trace) where
  abbrev old : Gathered
  old = gathered_so_far before

  abbrev capture : Link × List Record
  capture = (one.tap.link, records_at one.bytes.items one.extents)

  abbrev pub with_trace : Gathered
  with_trace = with_capture old one.bytes.items one.tap.ifid one.tap.dir capture

  pub counted_with : {read : ℕ} → read ≡ length one.extents → before.count + read ≡ length with_trace.packets
  counted_with are =
      omega (arith, before.counted, length-append old.packets (packets_of_trace one), length-packets_at one.tap.link one.tap.ifid one.tap.dir one.bytes.items one.extents)

  pub crossing_still : (count : ℕ) → All (CrossesOneOf count) old.packets → IsInterfaceNumber count one.tap.ifid → All (CrossesOneOf count) with_trace.packets
  crossing_still count all crosses =
      All-append (CrossesOneOf count) old.packets (packets_of_trace one) all (crossing_packets one.tap.link one.tap.ifid one.tap.dir one.bytes.items count crosses one.extents)

  pub within_still :
      IsWithinRun old → All IsShort one.extents → All IsTimely one.extents → with_trace.bytes ≤ MAX_BYTES_OF_CAPTURES → length with_trace.packets ≤ MAX_PACKETS →
      IsWithinRun with_trace
  within_still within short timely few_bytes few = record {
    bytes = few_bytes;
    count = few;
    short = All-append IsShortPacket old.packets (packets_of_trace one) within.short (short_packets one.tap.link one.tap.ifid one.tap.dir one.bytes.items one.extents short);
    timed = All-append HasCaptureTime old.packets (packets_of_trace one) within.timed (timed_packets one.tap.link one.tap.ifid one.tap.dir one.bytes.items one.extents timely);
  }

  module _ (file : List ℕ) (reads : ReadsCapture file one.bytes.items (Ok capture)) where
    pub too_many : (fault : CommandFault) → KeepsWithinRun with_trace (Err fault) → GathersCapture old file one.tap.ifid one.tap.dir one.bytes.items (Err fault)
    too_many fault over = goes_on {a = capture} reads (stops over)

    pub all_gathered : KeepsWithinRun with_trace (Ok tt) → GathersCapture old file one.tap.ifid one.tap.dir one.bytes.items (Ok with_trace)
    all_gathered within = goes_on {a = capture} reads (goes_on {a = tt} within refl)
