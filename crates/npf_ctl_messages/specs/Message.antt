-- The status and the line of each fault (docs/npfctl.8, "EXIT STATUS").
use Rattle.std.specs.Prelude.{ℕ, Option, Some, None, List, [], ◌++◌, codes}
use Rattle.std.specs.Fmt.{decimal}
use Rattle.npf_types.specs.declared.limits.TheConstants.{MAX_BYTES_OF_CAPTURES, MAX_CAPTURES, MAX_CHANGES, MAX_INSTRUCTIONS, MAX_INTERFACES, MAX_LIST_ELEMENTS, MAX_MAPS, MAX_PACKETS, MAX_PHASES, MAX_PROCEDURES, MAX_RULES, MAX_RULE_WEIGHT, MAX_TABLES, MAX_TABLE_ENTRIES}
use Rattle.npf_faults.specs.declared.fault.Excess.{Excess}
use Rattle.npf_faults.specs.declared.fault.Excess.TheVariants.{Rules, Tables, Maps, Procedures, Elements, Entries, Weight, Instructions}
use Rattle.npf_faults.specs.declared.fault.Fault.{Fault}
use Rattle.npf_faults.specs.declared.fault.Fault.TheVariants.{BadTableFile, TooMany}
use Rattle.npf_faults.specs.declared.fault.Fault.TheVariants as Faults
use Rattle.npf_faults.specs.Fault.{fault_number, fault_name, excess_name}
use Rattle.npf_pcap.specs.declared.fault.CaptureFault.{CaptureFault}
use Rattle.npf_pcap.specs.Fault.{number_of, name_of, record_of}
use Rattle.npf_table.specs.Fault.{table_fault_number, table_fault_name}
use Rattle.npf_ctl_messages.specs.declared.fault.CommandFault.{CommandFault}
use Rattle.npf_ctl_messages.specs.declared.fault.CommandFault.TheVariants.{Usage, Configuration, Unread, Long, Saved, Capture, Line, Many, Steps, Unwritten, OutputUnwritten, NoMemory}
use Rattle.npf_ctl_messages.specs.declared.fault.LineFault.{LineFault}
use Rattle.npf_ctl_messages.specs.declared.fault.LineFault.TheVariants.{BadLine, Conf, UnknownTable, Table, UnknownRuleset, UnknownRule}
use Rattle.npf_ctl_messages.specs.declared.fault.Quantity.{Quantity}
use Rattle.npf_ctl_messages.specs.declared.fault.Quantity.TheVariants as Quantities
use Rattle.npf_ctl_messages.specs.declared.fault.SavedRefusal.{SavedRefusal}
use Rattle.npf_ctl_messages.specs.declared.fault.SavedRefusal.TheVariants.{BadSaved, OtherInterfaces, TooManySaved, SavedNoNode}
use Rattle.npf_ctl_messages.specs.declared.limit.TheConstants.{MAX_PAIRS, MAX_TICKS, MAX_WITNESSES}

abbrev pub status_of_fault : CommandFault → ℕ
status_of_fault NoMemory = 1
status_of_fault Usage = 2
status_of_fault (Configuration _ _) = 3
status_of_fault (Unread _) = 4
status_of_fault (Unwritten _) = 5
status_of_fault OutputUnwritten = 5
status_of_fault (Saved _ _) = 6
status_of_fault (Capture _ _) = 7
status_of_fault (Line _ _ _) = 8
status_of_fault (Long _ _) = 9
status_of_fault (Many _ _) = 9
status_of_fault (Steps _ _) = 9

-- the most that a configuration may have of it
abbrev pub most_excess : Excess → ℕ
most_excess Rules = MAX_RULES
most_excess Tables = MAX_TABLES
most_excess Maps = MAX_MAPS
most_excess Procedures = MAX_PROCEDURES
most_excess Elements = MAX_LIST_ELEMENTS
most_excess Entries = MAX_TABLE_ENTRIES
most_excess Weight = MAX_RULE_WEIGHT
most_excess Instructions = MAX_INSTRUCTIONS

-- the most that a run or an answer may have of it
abbrev pub most_of : Quantity → ℕ
most_of Quantities.Captures = MAX_CAPTURES
most_of Quantities.Phases = MAX_PHASES
most_of Quantities.Changes = MAX_CHANGES
most_of Quantities.Interfaces = MAX_INTERFACES
most_of Quantities.CaptureBytes = MAX_BYTES_OF_CAPTURES
most_of Quantities.Packets = MAX_PACKETS
most_of Quantities.Pairs = MAX_PAIRS
most_of Quantities.Witnesses = MAX_WITNESSES
most_of Quantities.Expiries = MAX_TICKS

abbrev pub quantity_name : Quantity → List ℕ
quantity_name Quantities.Captures = codes "captures"
quantity_name Quantities.Phases = codes "phases"
quantity_name Quantities.Changes = codes "changes"
quantity_name Quantities.Interfaces = codes "interfaces"
quantity_name Quantities.CaptureBytes = codes "capture-bytes"
quantity_name Quantities.Packets = codes "packets"
quantity_name Quantities.Pairs = codes "pairs"
quantity_name Quantities.Witnesses = codes "witnesses"
quantity_name Quantities.Expiries = codes "expiries"

-- a number and a name, with a space between them
abbrev pub numbered_text : ℕ → List ℕ → List ℕ
numbered_text number name = decimal number ++ (codes " " ++ name)

-- a quantity, how many of it there are, and the most that is taken
abbrev pub over_text : List ℕ → ℕ → ℕ → List ℕ
over_text name count most = name ++ (codes " " ++ (decimal count ++ (codes " over " ++ decimal most)))

-- what is said of a fault behind its name
abbrev pub detail_text : Fault → List ℕ
detail_text (BadTableFile line) = codes " " ++ decimal line
detail_text (TooMany excess count) = codes " " ++ over_text (excess_name excess) count (most_excess excess)
detail_text _ = []

abbrev pub conf_fault_text : Fault → List ℕ
conf_fault_text fault = numbered_text (fault_number fault) (fault_name fault) ++ detail_text fault

-- a line's fault has the number and the name of its cause; those that only a script can have are its own
abbrev pub line_fault_number : LineFault → ℕ
line_fault_number BadLine = 70
line_fault_number (Conf fault) = fault_number fault.fault
line_fault_number UnknownTable = fault_number Faults.UnknownTable
line_fault_number (Table fault) = table_fault_number fault
line_fault_number UnknownRuleset = 60
line_fault_number UnknownRule = 61

abbrev pub line_fault_name : LineFault → List ℕ
line_fault_name BadLine = codes "BadLine"
line_fault_name (Conf fault) = fault_name fault.fault
line_fault_name UnknownTable = fault_name Faults.UnknownTable
line_fault_name (Table fault) = table_fault_name fault
line_fault_name UnknownRuleset = codes "UnknownRuleset"
line_fault_name UnknownRule = codes "UnknownRule"

-- what is said of it behind its name
abbrev pub line_detail_text : LineFault → List ℕ
line_detail_text (Conf fault) = detail_text fault.fault
line_detail_text _ = []

abbrev pub line_fault_text : LineFault → List ℕ
line_fault_text fault = numbered_text (line_fault_number fault) (line_fault_name fault) ++ line_detail_text fault

-- a number behind a name, where there is one
abbrev pub number_behind : Option ℕ → List ℕ
number_behind None = []
number_behind (Some n) = codes " " ++ decimal n

-- why a file of saved connections isn't loaded: its number, its name, and behind them the line, from 1, or how many connections there are
abbrev pub saved_number : SavedRefusal → ℕ
saved_number (BadSaved line) = 80
saved_number (OtherInterfaces line) = 81
saved_number (TooManySaved count) = 82
saved_number SavedNoNode = 83

abbrev pub saved_name : SavedRefusal → List ℕ
saved_name (BadSaved line) = codes "BadSaved"
saved_name (OtherInterfaces line) = codes "OtherInterfaces"
saved_name (TooManySaved count) = codes "TooManySaved"
saved_name SavedNoNode = codes "SavedNoNode"

abbrev pub saved_count : SavedRefusal → Option ℕ
saved_count (BadSaved line) = Some line
saved_count (OtherInterfaces line) = Some line
saved_count (TooManySaved count) = Some count
saved_count SavedNoNode = None

abbrev pub saved_fault_text : SavedRefusal → List ℕ
saved_fault_text fault = numbered_text (saved_number fault) (saved_name fault) ++ number_behind (saved_count fault)

abbrev pub capture_fault_text : CaptureFault → List ℕ
capture_fault_text fault = numbered_text (number_of fault) (name_of fault) ++ number_behind (record_of fault)

-- what a fault's line says behind the program's name
abbrev pub said_of : CommandFault → List ℕ
said_of Usage = codes "usage"
said_of (Configuration file fault) =
    file ++ (codes ":" ++ (decimal fault.span.line ++ (codes ":" ++ (decimal fault.span.col ++ (codes ": " ++ conf_fault_text fault.fault)))))
said_of (Unread file) = codes "cannot read " ++ file
said_of (Long file most) = codes "limit bytes " ++ (file ++ (codes " over " ++ decimal most))
said_of (Saved file fault) = file ++ (codes ": " ++ saved_fault_text fault)
said_of (Capture file fault) = file ++ (codes ": " ++ capture_fault_text fault)
said_of (Line script line fault) = script ++ (codes ":" ++ (decimal line ++ (codes ": " ++ line_fault_text fault)))
said_of (Many what count) = codes "limit " ++ over_text (quantity_name what) count (most_of what)
said_of (Steps count most) = codes "limit " ++ over_text (codes "steps") count most
said_of (Unwritten file) = codes "cannot write " ++ file
said_of OutputUnwritten = codes "cannot write standard output"
said_of NoMemory = codes "out of memory"

-- the line of a fault
unfoldable pub message_line : CommandFault → List ℕ
message_line fault = codes "npfctl: " ++ (said_of fault ++ codes "\n")
