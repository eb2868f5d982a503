use Rattle.npf_ctl_input.proofs.LawLemmas.{configurations_of_contents, files_of_contents, interfaces_of_contents, loads_of_contents}
use Rattle.npf_ctl_input.proofs.laws.contents_decide.Goals as goal

pub returns-clause-files : goal.returns-clause-files
returns-clause-files c = files_of_contents

pub returns-clause-interfaces : goal.returns-clause-interfaces
returns-clause-interfaces c = interfaces_of_contents

pub returns-clause-configurations : goal.returns-clause-configurations
returns-clause-configurations c = configurations_of_contents

pub returns-clause-loads : goal.returns-clause-loads
returns-clause-loads c = loads_of_contents
