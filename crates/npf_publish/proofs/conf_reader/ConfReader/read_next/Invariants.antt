use Rattle.std.proofs.Common.{◌≡◌, ◌≤◌}
use Rattle.npf_publish.specs.ConfReader.{reader_range, looks_made, least_number}
use Rattle.npf_publish.proofs.conf_reader.ConfReader.read_next.Given as goal

abbrev pub invariant-loop : goal.invariant-loop
invariant-loop g l = record {
  goes_on : (goal.iterator-loop g).can_next l.iterator';
  ends : (goal.iterator-loop g).is_finite l.iterator';
  range : reader_range l.reader ≡ reader_range l.fn.self;
  least : least_number l.reader ≡ least_number l.fn.self;
  looks : looks_made l.fn.self ≤ looks_made l.reader;
}
