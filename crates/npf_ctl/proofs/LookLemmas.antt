-- Commands that only look at a configuration.
use Rattle.std.proofs.Common.{◌≡◌, ℕ, false, List, Some, refl, sym, subst}
use Rattle.npf_ctl_messages.specs.declared.fault.CommandFault.{CommandFault}
use Rattle.npf_model.specs.Configuration.{Configuration}
use Rattle.npf_ctl_words.specs.declared.command.Load.{Load}
use Rattle.npf_ctl.specs.{declared.inspection.ConfigText.{ConfigText, TheVariants.{Count, Model, Programs}}, Commands.loaded_by}
use Rattle.npf_ctl.specs.declared.findings.Finding.TheVariants.{Nothing}
use Rattle.npf_ctl.specs.{Inspection.{IsLookText, looking_command}, Reasons.is_explained, Run.Moment, Texts.{IsLoadedFor, TextOf}, Top.{DoesCommand, PutsText}}

pub look_loads : (look : ConfigText) (load : Load) → loaded_by (looking_command look load) ≡ Some load
look_loads Count load = refl
look_loads Model load = refl
look_loads Programs load = refl

-- and explains nothing
pub look_explains : (look : ConfigText) (load : Load) (fault : CommandFault) → is_explained (looking_command look load) fault ≡ false
look_explains Count load fault = refl
look_explains Model load fault = refl
look_explains Programs load fault = refl

module _ (before after : Moment) (load : Load) where
  pub look_does : (look : ConfigText) → PutsText (looking_command look load) Nothing before after → DoesCommand (looking_command look load) Nothing before after
  look_does Count puts = puts
  look_does Model puts = puts
  look_does Programs puts = puts

  pub text_of_look : (look : ConfigText) (config : Configuration) (text : List ℕ) → IsLoadedFor before after load config → IsLookText look config.model text →
      TextOf before after (looking_command look load) Nothing text
  text_of_look Count config text loads is = subst (TextOf before after (looking_command Count load) Nothing) (sym is) (TextOf.count loads)
  text_of_look Model config text loads is = subst (TextOf before after (looking_command Model load) Nothing) (sym is) (TextOf.model loads)
  text_of_look Programs config text loads (programs, within, is) = subst (TextOf before after (looking_command Programs load) Nothing) (sym is) (TextOf.programs loads within)
