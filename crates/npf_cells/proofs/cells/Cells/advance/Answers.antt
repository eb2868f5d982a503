use Rattle.std.proofs.{Common.{ap, sym, subst, ◌∙◌, arith}, lemmas.Bool.Decides.Decides-eqb}
use Rattle.npf_cells_rule.specs.Views.{with_epochs}
use Rattle.npf_cells_pins.specs.Pinning.{advancing, IsMet}
use Rattle.npf_cells_moves.{specs.Kinds.IsSole, proofs.KeepLemmas.{may_advance, pass_on}}
use Rattle.npf_cells.proofs.cells.Cells.advance.Goals as goal

pub compare_exchange-found-requires : goal.compare_exchange-found-requires
compare_exchange-found-requires g c =
    let own = c.requires.own in (
      own.same,
      omega (arith, own.words),
      may_advance g.L.Law.meaning g.H.KeyHash.digest c.args.self.now.table.shared.key _ _ _ c.args.epoch c.args.pass.now.seat.me c.requires.loaded.last c.requires.below c.requires.scanned own.place,
    )

pub returns-clause-own : goal.returns-clause-own
returns-clause-own g c = pass_on c.args.self.now.table.shared.key _ _ _ _ _ _ _ c.requires.own c.compare_exchange-found.ensures.0
    c.compare_exchange-found.ensures.2.is c.requires.own.epoch c.requires.own.unanswered c.requires.own.unlocked

pub returns-clause-met : goal.returns-clause-met
returns-clause-met g c =
    subst (λ n. IsMet c.args.pass.now.seat.me.0.epochs n) (sym (ap (λ y. y.0.epochs.met) c.compare_exchange-found.ensures.2.is)) c.compare_exchange-found.ensures.2.met

pub returns-clause-next : goal.returns-clause-next
returns-clause-next g c =
    c.compare_exchange-found.ensures.2.is
    ∙ ap (λ n. with_epochs c.args.pass.now.seat.me (advancing c.args.pass.now.seat.me.0.epochs n)) (sym (ap (λ y. y.0.epochs.met) c.compare_exchange-found.ensures.2.is))

pub returns-clause-moved : goal.returns-clause-moved
returns-clause-moved g c =
    let met = ap (λ y. y.0.epochs.met) c.compare_exchange-found.ensures.2.is in
    ((λ t. met ∙ (Decides-eqb _ _).0 t), (λ e. (Decides-eqb _ _).1 (sym met ∙ e)))

pub returns-clause-sole : goal.returns-clause-sole
returns-clause-sole g c =
    subst (λ n. IsSole c.args.pass.now.seat.me.0 n) (sym (ap (λ y. y.0.epochs.met) c.compare_exchange-found.ensures.2.is)) c.compare_exchange-found.ensures.2.sole
