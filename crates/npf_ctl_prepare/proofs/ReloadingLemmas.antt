-- A configuration is loaded in place of another alike between all moments that meet as much.
use Rattle.std.proofs.Common.{ℕ, Option, Result, Err, List, inl, inr, subst}
use Rattle.npf_types.{specs.{declared.limits.TheConstants.MAX_TEXT_BYTES, Stages.{told, ◌told_by◌}}, proofs.StageLemmas.andthen_lasts}
use Rattle.npf_model.specs.{declared.iface.Iface.Iface, Configuration.Configuration}
use Rattle.npf_outside.specs.declared.files.FileFault.TheVariants as IsFile
use Rattle.npf_outside.specs.Files.{FilesMoment, Tree}
use Rattle.npf_config.specs.declared.fault.LoadFault.{LoadFault}
use Rattle.npf_config.specs.declared.fault.LoadFault.TheVariants as Load
use Rattle.npf_config_reload.specs.Reloads.{RefusesReload, TakesOver}
use Rattle.npf_ctl_messages.specs.declared.fault.CommandFault.{CommandFault}
use Rattle.npf_ctl_input.{specs.{File.ReadsFile, Loads.{longer, refused, told_load, unread}, Unless.IfTold}, proofs.FileLemmas.file_lasts}
use Rattle.npf_ctl_input.proofs.{LoadingLemmas.text_lasts, ReadingLemmas.MeetsAll}
use Rattle.npf_ctl_prepare.specs.Reloads.{ReloadsFile, ReloadsText, loaded, told_in_file, unloaded}

module _ (old new before after : FilesMoment) (meets : MeetsAll old new before after) (ifaces : List Iface) (last : Configuration) (file : List ℕ) where
  pub reload_text_lasts : (text : List ℕ) (result : Result Configuration CommandFault) → ReloadsText old new ifaces last file text result →
      ReloadsText before after ifaces last file text result
  reload_text_lasts text _ (unloaded {fault = fault} is) = unloaded (text_lasts old new before after meets ifaces file text (Err fault) is)
  reload_text_lasts text result (loaded is) =
      loaded (subst (λ (contents : Option Tree). (TakesOver ifaces contents last text told_by told_in_file file) result) meets.contents is)

  pub reload_lasts : (result : Result Configuration CommandFault) → ReloadsFile old new ifaces last file result → ReloadsFile before after ifaces last file result
  reload_lasts result is =
      andthen_lasts (ReadsFile old new file MAX_TEXT_BYTES) (ReadsFile before after file MAX_TEXT_BYTES) (ReloadsText old new ifaces last file) (ReloadsText before after ifaces last file)
      (file_lasts old new before after meets file MAX_TEXT_BYTES) reload_text_lasts result is

-- what refuses to load a text in place of another, as it is told
pub reload_told : (old new : FilesMoment) (ifaces : List Iface) (last : Configuration) (file text : List ℕ) (fault : LoadFault) → RefusesReload ifaces text last old new fault →
    IfTold (λ told. ReloadsText old new ifaces last file text (Err told)) (told_load file fault)
reload_told old new ifaces last file text (Load.Conf fault) (inl is, same) = unloaded (refused is)
reload_told old new ifaces last file text (Load.Conf fault) (inr is, same) = loaded (told is)
reload_told old new ifaces last file text (Load.File span name IsFile.Failed) is = unloaded (unread is)
reload_told old new ifaces last file text (Load.File span name IsFile.Long) is = unloaded (longer is)
reload_told old new ifaces last file text (Load.File span name IsFile.NoMemory) is = tt
reload_told old new ifaces last file text Load.NoMemory is = tt
