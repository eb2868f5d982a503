-- How a walk sees a packet.
use Rattle.std.specs.Prelude.{ℕ, Bool, true, false, not, ◌==◌, ◌&&◌, if◌then◌else◌, List, Option, None}
use Rattle.std.specs.Option.{option_or}
use Rattle.npf_model.specs.Describes.{table_has}
use Rattle.npf_model.specs.Verdict.{first_where, last_where}
use Rattle.npf_bpf.specs.Coprocessor.{Coprocessor}
use Rattle.npf_bpf.specs.Value.{program_value}
use Rattle.npf_bpfgen.specs.Premise.{header_words}
use Rattle.npf_ruleset.specs.declared.flat.FlatGroup.{FlatGroup}
use Rattle.npf_ruleset.specs.declared.flat.FlatRule.{FlatRule}
use Rattle.npf_ruleset.specs.declared.packet.PacketView.{PacketView}
use Rattle.npf_ruleset.specs.Binding.{is_bound}
use Rattle.npf_ruleset.specs.Row.{meets_row}
use Rattle.npf_ruleset.specs.Tables.{entries}

-- whether a table has the packet's source, or at `false` its destination
abbrev pub has_end : PacketView → ℕ → Bool → Bool
has_end packet table true = table_has (entries packet.tables.now) table packet.facts.now.src
has_end packet table false = table_has (entries packet.tables.now) table packet.facts.now.dst

-- what the packet tells a program
abbrev pub coprocessor : PacketView → Coprocessor
coprocessor packet = record { header = header_words packet.facts.now; member = has_end packet }

-- a flat rule's row admits the packet, it isn't bound elsewhere, and its program describes it
abbrev pub flat_matches : PacketView → FlatRule → Bool
flat_matches packet rule =
    meets_row rule.row packet.facts.now
    && is_bound rule.binding packet.ifid packet.dir
    && program_value rule.program packet.ip.now (coprocessor packet) == 4294967295

abbrev pub flat_decides : PacketView → FlatRule → Bool
flat_decides packet rule = rule.last && flat_matches packet rule

-- a match that isn't `final`
abbrev pub is_other : PacketView → FlatRule → Bool
is_other packet rule = not rule.last && flat_matches packet rule

-- the first match with `final`, or else the last match
abbrev pub flat_answer : PacketView → List FlatRule → Option ℕ
flat_answer packet rules = option_or (first_where (flat_decides packet) 0 rules) (last_where (flat_matches packet) 0 rules)

-- the answer of a group with these rules, where it applies
abbrev pub answer_in : PacketView → FlatGroup → List FlatRule → Option ℕ
answer_in packet group rules = if is_bound group.binding packet.ifid packet.dir then flat_answer packet rules else None
