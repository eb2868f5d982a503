-- The files of a generated run, in memory.
use Rattle.std.specs.Prelude.{◌≡◌, ℕ, if◌then◌else◌, List, [], Some, None, Result, codes}
use Rattle.std.specs.Str.{bytes_eq}
use Rattle.npf_outside.specs.Files.{FilesMoment, Tree}
use Rattle.npf_pcap.specs.Spelling.{capture_bytes}
use Rattle.npf_gen.specs.declared.workload.Workload.{Workload}
use Rattle.npf_gen.specs.Workload.{configuration_text, generated_records, packet_count, script_text}
use Rattle.npf_ctl_input.specs.File.{told_files}
use Rattle.npf_ctl_messages.specs.declared.fault.CommandFault.{CommandFault}
use Rattle.npf_ctl_prepare.specs.Prepares.{RunNames, RunPlan, PreparesRun}
use Rattle.npf_ctl.specs.declared.generated_files.GeneratedFiles.{GeneratedFiles}

-- the script names the capture `g.pcap`
abbrev pub generated_names : RunNames
generated_names = record { conf = codes "npf.conf"; script = codes "script"; ifaces = None; tap = None; every = None }

-- files among which are those of the generated run of this number
pub record HoldsWorkload (number : ℕ) (tree : Tree) : Type 0 where
  pub conf : tree (codes "npf.conf") ≡ Some configuration_text
  pub script : tree (codes "script") ≡ Some script_text
  pub capture : tree (codes "g.pcap") ≡ Some (capture_bytes (generated_records number packet_count))

-- what preparing a run of these files comes to, of which no read fails
abbrev pub PreparesOf : Tree → Result RunPlan CommandFault → Type 0
PreparesOf tree = PreparesRun (told_files tree) (told_files tree) generated_names

-- the bytes of each file; one of another name is empty
abbrev pub contents_of : Workload → List ℕ → List ℕ
contents_of workload name =
    if bytes_eq name (codes "npf.conf") then workload.conf
    else if bytes_eq name (codes "script") then workload.script
    else if bytes_eq name (codes "g.pcap") then workload.capture
    else []

-- no read of them fails
abbrev pub generated_moment : GeneratedFiles → FilesMoment
generated_moment files = record {
  contents = Some (λ name. Some (contents_of files.workload name));
  read_faults = 0;
  read_faults_of = λ _. 0;
  write_faults = files.write_faults;
  taken = files.taken;
}
