-- What is still to be given of a capture that is written part by part.
use Rattle.std.specs.Prelude.{ℕ, if◌then◌else◌, List, [], ◌++◌}
use Rattle.npf_pcap.specs.Spelling.{header_bytes}
use Rattle.npf_ctl_output.specs.declared.passed.PassedPackets.{PassedPackets}
use Rattle.npf_ctl_output.specs.Capture.{bytes_behind}

-- the header, before it is given, and the records of the packets that are left
abbrev pub passed_rest : PassedPackets → List ℕ
passed_rest passed =
    (if passed.begun then [] else header_bytes) ++ bytes_behind passed.extents.now passed.outputs.now passed.outcomes.now passed.given
