-- The generated run of a number: its configuration, its script and its capture.
use Rattle.std.specs.Prelude.{ℕ, zero, suc, ◌*◌, ◌-◌, ◌^◌, List, [], ◌∷◌, ◌++◌, codes}
use Rattle.npf_pcap.specs.declared.capture.Record.{Record}
use Rattle.npf_gen.specs.declared.datagram.Datagram.{Datagram}
use Rattle.npf_gen.specs.Datagram.{datagram_of, datagram_bytes}
use Rattle.npf_gen.specs.Draw.{nth_draw}

-- a table, a map, a group of an interface and the default group (npf.conf(5))
abbrev pub configuration_text : List ℕ
configuration_text =
    codes "table <t> type ipset\n" ++ codes "map ext0 dynamic 10.0.0.0/8 -> 203.0.113.1\n"
    ++ codes "group \"ext\" on ext0 { pass stateful out final all; block in from <t> }\n"
    ++ codes "group default { pass all }\n"

-- a phase of 10,000 packets, one of an expiry, and one of the packets that are left
abbrev pub script_text : List ℕ
script_text =
    codes "capture ext0 out \"g.pcap\"\n" ++ codes "phase\n" ++ codes "packets 10000\n" ++ codes "phase\n"
    ++ codes "expire 3600\n" ++ codes "phase\n" ++ codes "packets rest\n"

-- the i-th packet, counted from 1, is told by three draws of its own
abbrev pub nth_datagram : ℕ → ℕ → Datagram
nth_datagram number i = datagram_of (nth_draw number (3 * i - 2)) (nth_draw number (3 * i - 1)) (nth_draw number (3 * i))

-- a datagram that was captured at a time in nanoseconds
abbrev pub sent_at : ℕ → Datagram → Record
sent_at time datagram = record { time = time; bytes = datagram_bytes datagram }

-- the i-th packet is sent at i milliseconds
abbrev pub nth_record : ℕ → ℕ → Record
nth_record number i = sent_at (i * 10 ^ 6) (nth_datagram number i)

-- the first n packets
unfoldable pub generated_records : ℕ → ℕ → List Record
generated_records number zero = []
generated_records number (suc n) = generated_records number n ++ nth_record number (suc n) ∷ []

abbrev pub packet_count : ℕ
packet_count = 20000
