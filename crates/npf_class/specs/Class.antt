-- What the text of a class means: the rule that `pass CLASS` is, by what a rule means that is added to a ruleset.
use Rattle.std.specs.Prelude.{◌≢◌, ℕ, ◌-◌, ◌==◌, max, if◌then◌else◌, Err, List, ◌++◌, codes}
use Rattle.npf_types.specs.Stages.{Stage, ◌andthen◌, ◌told_by◌}
use Rattle.npf_types.specs.declared.span.Span.{Span}
use Rattle.npf_faults.specs.declared.fault.Refused.{Refused}
use Rattle.npf_faults.specs.declared.fault.Refused.TheVariants.{Fault, NoMemory}
use Rattle.npf_model.specs.declared.iface.Iface.{Iface}
use Rattle.npf_model.specs.declared.model.Model.{Model}
use Rattle.npf_model.specs.declared.rule.Rule.{Rule}
use Rattle.npf_config_changes.specs.declared.fault.ChangeFault.{ChangeFault}
use Rattle.npf_config_changes.specs.declared.fault.ChangeFault.TheVariants.{Conf}
use Rattle.npf_config_changes.specs.Additions.{MeansRule, ReadsRule}

-- what stands before a class in the text of its rule: five bytes
abbrev pub pass_bytes : List ℕ
pass_bytes = codes "pass "

-- what the one rule of a text means
abbrev pub MeansPassRule : List Iface → Model → List ℕ → Stage Rule ChangeFault
MeansPassRule ifaces model text = ReadsRule text andthen λ tree. MeansRule ifaces model tree

-- A place of the rule's text in the class's text, which begins five bytes later. What stands before the class is told at its beginning.
abbrev pub own_col : ℕ → ℕ → ℕ
own_col line col = if line == 1 then max (col - 5) 1 else col

abbrev pub own_span : Span → Span
own_span span = record { line = span.line; col = own_col span.line span.col; at = span.at - 5; len = span.len - (5 - span.at) }

abbrev pub own_fault : ChangeFault → Refused
own_fault (Conf fault) = Fault (record fault { span = own_span fault.span })
own_fault _ = NoMemory

-- the rule that `pass CLASS` means, or its fault at the place in the class's own text
abbrev pub ReadsClass : List Iface → Model → List ℕ → Stage Rule Refused
ReadsClass ifaces model text = MeansPassRule ifaces model (pass_bytes ++ text) told_by own_fault

-- want of memory says nothing of the text
abbrev pub SaysUnlessMemory : {A : Type 0} → Stage A Refused → Refused → Type 0
SaysUnlessMemory stage refused = refused ≢ NoMemory → stage (Err refused)
