use Rattle.std.{proofs.Common.{◌∙◌, length, sym, ap, subst}, specs.List.Contains}
use Rattle.npf_epoch.proofs.SoleLemmas.{never_hindered}
use Rattle.npf_epoch.proofs.tries.try_advance.Goals as goal

pub returns-clause-scanned : goal.returns-clause-scanned
returns-clause-scanned g c = λ t reader h.
    subst (λ xs. Contains xs reader) (sym (ap (λ y. y.0.epochs.scanned) c.advance.ensures.next)) (c.scan_readers.ensures.all c.if-not-scan_readers.false reader h)

pub returns-then-not-scan_readers-clause-sole : goal.returns-then-not-scan_readers-clause-sole
returns-then-not-scan_readers-clause-sole g c = λ all idle no.
    let next = c.load_epoch-epoch.ensures.next in
    absurd (never_hindered g.L.Law.meaning g.H.KeyHash.digest c.args.cells.now.table.shared.key c.load_epoch-epoch.new.pass.seat.me.0 c.load_epoch-epoch.result
    (ap (λ y. length y.0.seats.readers) next ∙ all) (ap (λ y. y.0.epochs.pin) next ∙ idle) (c.scan_readers.ensures.hindered c.if-not-scan_readers.true))
