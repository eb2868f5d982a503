-- A file and the interfaces are read alike between all moments that meet as much.
use Rattle.std.proofs.Common.{ℕ, Option, Some, None, Result, List, length, subst}
use Rattle.npf_types.{specs.declared.limits.TheConstants.MAX_TEXT_BYTES, proofs.StageLemmas.andthen_lasts}
use Rattle.npf_model.specs.declared.iface.Iface.{Iface}
use Rattle.npf_outside.specs.Files.{FilesMoment, Has, Tree}
use Rattle.npf_ctl_messages.specs.declared.fault.CommandFault.{CommandFault}
use Rattle.npf_ctl_input.{specs.{File.{ReadsFile, whole, longer, failed}, Interfaces.{NamesInterfaces, ReadsInterfaces}}, proofs.ReadingLemmas.MeetsAll}

module _ (old new before after : FilesMoment) (meets : MeetsAll old new before after) where
  pub file_lasts : (name : List ℕ) (most : ℕ) (result : Result (List ℕ) CommandFault) → ReadsFile old new name most result → ReadsFile before after name most result
  file_lasts name most result (whole {bytes = bytes} has few took) =
      whole (subst (λ (contents : Option Tree). Has contents name bytes) meets.contents has) few (meets.taken (length bytes) took)
  file_lasts name most result (longer is) = longer (meets.longer name most is)
  file_lasts name most result (failed rose all) = failed (meets.failed name rose all) (meets.unread all)

  pub interfaces_last : (file : Option (List ℕ)) (result : Result (List Iface) CommandFault) → ReadsInterfaces old new file result → ReadsInterfaces before after file result
  interfaces_last None result is = is
  interfaces_last (Some file) result is =
      andthen_lasts (ReadsFile old new file MAX_TEXT_BYTES) (ReadsFile before after file MAX_TEXT_BYTES) (NamesInterfaces file) (NamesInterfaces file)
      (file_lasts file MAX_TEXT_BYTES) (λ text result is. is) result is
