use Rattle.npf_publish.proofs.ProtocolLemmas.{read_look}
use Rattle.npf_publish.proofs.conf_reader.ConfReader.look.Goals as goal

pub enter_as-requires : goal.enter_as-requires
enter_as-requires c = read_look _ _
