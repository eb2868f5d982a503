-- How a fault of a table is printed: its number, its name, and the number of the line that it speaks of.
use Rattle.std.specs.Prelude.{ℕ, List, Option, Some, None, codes}
use Rattle.npf_table.specs.declared.fault.TableFault.{TableFault}
use Rattle.npf_table.specs.declared.fault.TableFault.TheVariants.{Present, Absent, ReadOnly, WrongKind, BadLine, NoMemory}

-- want of memory is no fault of a table, and has no number of its own
abbrev pub table_fault_number : TableFault → ℕ
table_fault_number Present = 50
table_fault_number Absent = 51
table_fault_number ReadOnly = 52
table_fault_number WrongKind = 53
table_fault_number (BadLine _) = 35
table_fault_number NoMemory = 0

abbrev pub table_fault_name : TableFault → List ℕ
table_fault_name Present = codes "Present"
table_fault_name Absent = codes "Absent"
table_fault_name ReadOnly = codes "ReadOnly"
table_fault_name WrongKind = codes "WrongKind"
table_fault_name (BadLine _) = codes "BadTableFile"
table_fault_name NoMemory = codes "NoMemory"

abbrev pub fault_line : TableFault → Option ℕ
fault_line Present = None
fault_line Absent = None
fault_line ReadOnly = None
fault_line WrongKind = None
fault_line (BadLine number) = Some number
fault_line NoMemory = None
