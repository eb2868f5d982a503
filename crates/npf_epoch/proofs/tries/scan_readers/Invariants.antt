use Rattle.npf_cells.specs.Cells.{IsPassIn}
use Rattle.npf_epoch.proofs.ScanLemmas.{ScansBelow}
use Rattle.npf_epoch.proofs.tries.scan_readers.Given as goal

abbrev pub invariant-loop-reader : goal.invariant-loop-reader
invariant-loop-reader g l = record {
  own : IsPassIn l.cells l.pass;
  scans : ScansBelow l.initial.pass.seat.me l.reader l.pass.seat.me;
}
