-- What is put of a configuration that is only looked at.
use Rattle.std.specs.Prelude.{◌≡◌, ℕ, List}
use Rattle.npf_bpf.specs.declared.insn.Insn.{Insn}
use Rattle.npf_model.specs.declared.model.Model.{Model}
use Rattle.npf_ruleset.specs.Refusal.{IsWithinLimits}
use Rattle.npf_show.specs.Piece.{spelled}
use Rattle.npf_show.specs.Model.{model_pieces}
use Rattle.npf_ctl_words.specs.declared.command.Invocation.{Invocation}
use Rattle.npf_ctl_words.specs.declared.command.Invocation.TheVariants.{Validate, Show, Debug}
use Rattle.npf_ctl_words.specs.declared.command.Load.{Load}
use Rattle.npf_ctl.specs.declared.inspection.ConfigText.{ConfigText}
use Rattle.npf_ctl.specs.declared.inspection.ConfigText.TheVariants.{Count, Model as Text, Programs}
use Rattle.npf_ctl.specs.Texts.{programs_text, valid_text}

-- the command that looks so
abbrev pub looking_command : ConfigText → Load → Invocation
looking_command Count load = Validate load
looking_command Text load = Show load
looking_command Programs load = Debug load

abbrev pub IsLookText : ConfigText → Model → List ℕ → Type 0
IsLookText Count model text = text ≡ valid_text model
IsLookText Text model text = text ≡ spelled (model_pieces model)
IsLookText Programs model text = (programs : List (List Insn)) × IsWithinLimits model programs × (text ≡ programs_text 1 programs)
