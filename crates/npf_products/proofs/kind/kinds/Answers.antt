use Rattle.npf_products.proofs.KindLemmas.{each_kind}
use Rattle.npf_products.proofs.kind.kinds.Goals as goal

pub returns-clause-each : goal.returns-clause-each
returns-clause-each c = λ kind. each_kind kind.family kind.carried
