use Rattle.npf_types.specs.declared.key.Way.TheVariants.{Forward}
use Rattle.npf_tcp.specs.declared.class.SegmentClass.TheVariants.{Syn, SynAck, Fin}
use Rattle.npf_tcp.proofs.CellLemmas.{cell-mirrored, not_one_sided, symmetric_class, symmetric_phase}
use Rattle.npf_tcp.proofs.laws.table_is_symmetric.Goals as goal

pub returns-clause-cells : goal.returns-clause-cells
returns-clause-cells c = λ phase class. (cell-mirrored phase class, λ each. not_one_sided phase class (each Forward))

pub returns-clause-phases : goal.returns-clause-phases
returns-clause-phases c = λ phase. (symmetric_class phase, λ each. symmetric_phase phase (each Syn) (each SynAck) (each Fin))
