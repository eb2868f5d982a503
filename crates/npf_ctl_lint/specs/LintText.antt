-- What is told of a configuration: the lines of rules, of groups, of tables and of procedures that do nothing, and how many rules there are.
use Rattle.std.specs.Prelude.{◌≡◌, ◌||◌, ℕ, Bool, List, ◌++◌}
use Rattle.npf_model.specs.declared.model.Model.{Model}
use Rattle.npf_model.specs.Configuration.{Configuration}
use Rattle.npf_lint.specs.Finding.{AreFindings}
use Rattle.npf_dead_groups.specs.Comes.{AreGroupFindings}
use Rattle.npf_unused.specs.Unused.{procedures_used, table_findings}
use Rattle.npf_ctl_lint.specs.declared.search.LintFindings.{LintFindings}
use Rattle.npf_ctl_lint.specs.RuleLine.{rule_counts_line, finding_lines, some_idle_rule}
use Rattle.npf_ctl_lint.specs.GroupLine.{dead_group_lines, some_dead_group}
use Rattle.npf_ctl_lint.specs.TableLine.{idle_table_lines, some_idle_table}
use Rattle.npf_ctl_lint.specs.ProcedureLine.{some_unused_procedure, unused_procedure_lines}

-- of each kind of thing what its library finds
pub record AreLintFindings (config : Configuration) (findings : LintFindings) : Type 0 where
  pub rules : AreFindings config findings.rules.items
  pub groups : AreGroupFindings config findings.groups.items
  pub tables : findings.tables.items ≡ table_findings config
  pub procedures : findings.procedures.items ≡ procedures_used config.model

-- the text of what is found of a model's rules, groups, tables and procedures
abbrev pub findings_text : Model → LintFindings → List ℕ
findings_text model findings =
    finding_lines 0 findings.rules.items
    ++ (dead_group_lines model.groups findings.groups.items
    ++ (idle_table_lines model.tables findings.tables.items
    ++ (unused_procedure_lines model.procedures findings.procedures.items ++ rule_counts_line findings.rules.items)))

-- one of them does nothing
abbrev pub some_finding : LintFindings → Bool
some_finding findings =
    some_idle_rule findings.rules.items
    || (some_dead_group findings.groups.items || (some_idle_table findings.tables.items || some_unused_procedure findings.procedures.items))

-- the text is that of the configuration's findings, of which one does nothing, or none does
pub record IsLintText (config : Configuration) (found : Bool) (text : List ℕ) : Type 0 where
  pub findings : LintFindings
  pub are : AreLintFindings config findings
  pub told : text ≡ findings_text config.model findings
  pub says : found ≡ some_finding findings
