-- What a compiled rule is.
use Rattle.std.specs.Prelude.{◌≡◌, ℕ, ◌≤◌, ◌<◌, if◌then◌else◌, List}
use Rattle.npf_types.specs.declared.facts.Facts.{Facts}
use Rattle.npf_types.specs.declared.limits.TheConstants.{MAX_RULE_WEIGHT}
use Rattle.npf_model.specs.declared.rule.Rule.{Rule}
use Rattle.npf_model.specs.Describes.{Tables, describes_packet}
use Rattle.npf_bpf.specs.declared.insn.Insn.{Insn}
use Rattle.npf_bpf.specs.Coprocessor.{Coprocessor}
use Rattle.npf_bpf.specs.Value.{program_value}
use Rattle.npf_bpfgen.specs.declared.fault.GenFault.{GenFault}
use Rattle.npf_bpfgen.specs.declared.fault.GenFault.TheVariants.{TooLong, NoMemory}
use Rattle.npf_bpfgen.specs.Premise.{IsSeen}
use Rattle.npf_bpfgen.specs.RuleWeight.{weight_of}

-- the program returns 2^32 - 1 on the packets that the rule's packet part describes, and 0 on all
-- others
abbrev pub IsProgramOf : Rule → List Insn → Type 0
IsProgramOf rule code =
    (p : List ℕ) (cop : Coprocessor) (tables : Tables) (facts : Facts)
    → IsSeen p cop tables facts
    → program_value code p cop
    ≡ (if describes_packet rule tables facts then 4294967295 else 0)

-- the rule is refused for its weight, which the fault tells, or for want of memory
abbrev pub RefusesRule : Rule → GenFault → Type 0
RefusesRule rule (TooLong weight) = (weight ≡ weight_of rule) × (MAX_RULE_WEIGHT < weight)
RefusesRule rule NoMemory = weight_of rule ≤ MAX_RULE_WEIGHT
