use Rattle.std.{proofs.Common.{◌∙◌, sym, ap, subst, arith}, specs.List.Contains}
use Rattle.npf_epoch.proofs.ScanLemmas.{none_scanned, passes_alike, one_more}
use Rattle.npf_epoch.proofs.tries.scan_readers.Goals as goal

pub loop-reader-init : goal.loop-reader-init
loop-reader-init g c = record { own = c.requires.own; scans = none_scanned c.args.pass.now.seat.me }

pub loop-reader-preserved : goal.loop-reader-preserved
loop-reader-preserved g c =
    let so = c.loop-reader.invariant.scans in
    record {
      own = c.scan_reader-found.ensures.own;
      scans = one_more _ _ _ c.loop-reader.reader c.scan_reader-found.result so
          (passes_alike _ _ c.loop-reader.reader c.scan_reader-found.result c.args.epoch c.is_passed.result so c.requires.loaded c.is_passed.ensures
          ∙ c.if-not-is_passed.false) c.scan_reader-found.ensures.next;
    }

pub returns-clause-all : goal.returns-clause-all
returns-clause-all g c = λ t reader h.
    let so = c.loop-reader.invariant.scans in
    subst (λ xs. Contains xs reader) (sym (ap (λ y. y.0.epochs.scanned) so.is)) (so.below reader (omega arith))
