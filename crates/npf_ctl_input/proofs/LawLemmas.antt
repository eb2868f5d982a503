-- Where contents are told and no read fails, each stage comes to what it would come to over the contents alone.
use Rattle.npf_ctl_input.specs.{File.told_files, Laws.{ConfigurationsAreOfContents, FilesAreOfContents, InterfacesAreOfContents, LoadsAreOfContents}}
use Rattle.npf_ctl_input.proofs.{FileLemmas.{file_lasts, interfaces_last}, LoadingLemmas.{alone_lasts, load_lasts}, ReadingLemmas.meets_told}

pub files_of_contents : FilesAreOfContents
files_of_contents name most tree before after result told well =
    file_lasts before after (told_files tree) (told_files tree) (meets_told tree before after told well) name most result

pub interfaces_of_contents : InterfacesAreOfContents
interfaces_of_contents file tree before after result told well =
    interfaces_last before after (told_files tree) (told_files tree) (meets_told tree before after told well) file result

pub configurations_of_contents : ConfigurationsAreOfContents
configurations_of_contents ifaces file tree before after result told well =
    load_lasts before after (told_files tree) (told_files tree) (meets_told tree before after told well) ifaces file result

pub loads_of_contents : LoadsAreOfContents
loads_of_contents ifaces conf tree before after result told well =
    alone_lasts before after (told_files tree) (told_files tree) (meets_told tree before after told well) ifaces conf result
