use Rattle.std.proofs.Common.{◌≡◌, length, take}
use Rattle.npf_table.specs.TableFile.{lines}
use Rattle.npf_ctl_check.specs.Reading.{AreExpected}
use Rattle.npf_ctl_check.proofs.lines.read_lines.Given as goal

abbrev pub invariant-loop-line : goal.invariant-loop-line
invariant-loop-line l = record {
  can : (goal.iterator-loop-line).can_next l.line-iterator;
  finite : (goal.iterator-loop-line).is_finite l.line-iterator;
  counted : l.number ≡ length l.yielded;
  read : AreExpected l.ifaces.list l.model (take (length l.yielded) (lines l.file.text.now)) l.read.items;
}
