use Rattle.std.proofs.Common.{Ok, false, refl, sym, ap, ◌∙◌}
use Rattle.std.proofs.lemmas.Bool.{and_right}
use Rattle.npf_search.specs.Region.{region_has}
use Rattle.npf_products.specs.Space.{packet_cell}
use Rattle.npf_reach.specs.Kinds.{cells_kind, is_of_kind}
use Rattle.npf_reach.proofs.KindLemmas.{narrowed_kind}
use Rattle.npf_reach.proofs.part.KindPart.narrow.Goals as goal

pub returns-in_default-clause-none : goal.returns-in_default-clause-none
returns-in_default-clause-none c = λ _ facts ifid dir packet.
    let cells = c.args.self.now.cells.now in
    let cell = packet_cell cells.space facts ifid dir in
    let none = c.in_ok-region.ensures.none (ap Ok c.in_default.is) cell in
    sym (narrowed_kind cells facts ifid dir packet c.args.decider false (region_has cells.boxes c.args.self.now.region cell) c.requires (sym none))
    ∙ and_right (is_of_kind (cells_kind cells) facts) false refl

pub returns-clause-narrowed : goal.returns-clause-narrowed
returns-clause-narrowed c = λ facts ifid dir packet.
    let cells = c.args.self.now.cells.now in
    let cell = packet_cell cells.space facts ifid dir in
    let same = rw c.in-Some.is at c.in_ok-region.ensures.cells in
    narrowed_kind cells facts ifid dir packet c.args.decider (region_has cells.boxes c.in-Some.region cell) (region_has cells.boxes c.args.self.now.region cell) c.requires (same cell)
