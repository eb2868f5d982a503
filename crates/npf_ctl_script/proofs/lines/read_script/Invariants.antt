use Rattle.std.proofs.Common.{◌≡◌, length, take}
use Rattle.npf_table.specs.TableFile.{lines}
use Rattle.npf_ctl_script.specs.Lines.{AreRead, section_of}
use Rattle.npf_ctl_script.proofs.lines.read_script.Given as goal

abbrev pub invariant-loop-line : goal.invariant-loop-line
invariant-loop-line l = record {
  can : (goal.iterator-loop-line).can_next l.line-iterator;
  finite : (goal.iterator-loop-line).is_finite l.line-iterator;
  counted : l.number ≡ length l.yielded;
  read : AreRead (take (length l.yielded) (lines l.fn.text)) l.lines.items;
  stands : l.section ≡ section_of l.lines.items;
}
