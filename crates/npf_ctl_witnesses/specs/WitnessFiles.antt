-- The files of an answer's packets: captures of them, and a script for `npfctl run` (docs/npfctl.8, "Scripts") that plays them one by one.
use Rattle.std.specs.Prelude.{ℕ, Bool, ◌*◌, ◌^◌, List, [], ◌∷◌, ◌++◌, codes, map}
use Rattle.std.specs.Fmt.{decimal}
use Rattle.std.specs.List.{enumerate_from, filter, flat_map}
use Rattle.npf_types.specs.declared.direction.Dir.{Dir}
use Rattle.npf_types.specs.declared.direction.Dir.TheVariants.{In, Out}
use Rattle.npf_model.specs.declared.iface.Iface.{Iface}
use Rattle.npf_pcap.specs.declared.capture.Record.{Record}
use Rattle.npf_pcap.specs.Spelling.{capture_bytes, record_with}
use Rattle.npf_possible.specs.Witness.{witness_bytes}
use Rattle.npf_products.specs.declared.packet.CellPacket.{CellPacket}
use Rattle.npf_witness.specs.WitnessText.{interface_text}
use Rattle.npf_ctl_witnesses.specs.declared.files.WitnessFile.{WitnessFile}
use Rattle.npf_ctl_witnesses.specs.Alike.{leaders, pass_alike}

-- ---- captures
-- the packet of a number is sent at as many seconds
abbrev pub witness_record : ℕ × CellPacket → Record
witness_record numbered = record_with (numbered.0 * 10 ^ 9) (witness_bytes numbered.1.facts)

-- the numbered packet passes as this one does
abbrev pub passes_with : List Iface → CellPacket → ℕ × CellPacket → Bool
passes_with ifaces one numbered = pass_alike ifaces one numbered.1

-- the packets that do, each by its number from 1 on
abbrev pub records_of : List Iface → List CellPacket → CellPacket → List Record
records_of ifaces packets one = map witness_record (filter (passes_with ifaces one) (enumerate_from 1 packets))

abbrev pub capture_name : List ℕ → ℕ → List ℕ
capture_name prefix number = prefix ++ ((codes "." ++ decimal number) ++ codes ".pcap")

abbrev pub capture_file : List Iface → List CellPacket → List ℕ → ℕ × CellPacket → WitnessFile
capture_file ifaces packets prefix numbered = record {
  name = capture_name prefix numbered.0;
  contents = capture_bytes (records_of ifaces packets numbered.1);
}

-- ---- the script
abbrev pub direction_part : Dir → List ℕ
direction_part In = codes " in \""
direction_part Out = codes " out \""

-- the capture of a number, which has the packets that pass as this one does
abbrev pub capture_line : List Iface → List ℕ → ℕ × CellPacket → List ℕ
capture_line ifaces prefix numbered =
    codes "capture " ++ (interface_text ifaces numbered.1.ifid ++ (direction_part numbered.1.dir ++ (capture_name prefix numbered.0 ++ codes "\"\n")))

-- for each packet a phase of its own, and then one in which all connections expire
abbrev pub step_text : CellPacket → List ℕ
step_text packet = codes "phase\npackets 1\nphase\nexpire 4294967295\n"

-- of so many captures, in the order of their leaders
abbrev pub witness_script : List Iface → List CellPacket → List CellPacket → List ℕ → List ℕ
witness_script ifaces leaders packets prefix =
    flat_map (capture_line ifaces prefix) (enumerate_from 1 leaders) ++ flat_map step_text packets

abbrev pub script_file : List Iface → List CellPacket → List CellPacket → List ℕ → WitnessFile
script_file ifaces leaders packets prefix = record {
  name = prefix ++ codes ".script";
  contents = witness_script ifaces leaders packets prefix;
}

-- ---- all files
-- the captures, numbered from 1 on, and behind them the script
abbrev pub files_of : List Iface → List CellPacket → List CellPacket → List ℕ → List WitnessFile
files_of ifaces leaders packets prefix =
    map (capture_file ifaces packets prefix) (enumerate_from 1 leaders) ++ script_file ifaces leaders packets prefix ∷ []

-- with a capture for each interface and direction
abbrev pub witness_files : List Iface → List CellPacket → List ℕ → List WitnessFile
witness_files ifaces packets prefix = files_of ifaces (leaders ifaces packets) packets prefix
