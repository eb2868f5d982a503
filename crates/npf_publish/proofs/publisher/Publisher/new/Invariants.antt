use Rattle.std.proofs.Common.{◌≡◌, ◌≤◌, All, vec_len, vec_capacity}
use Rattle.npf_publish.specs.{ConfReader.IsNewReader, Publisher.{published_number, publisher_range}}
use Rattle.npf_publish.proofs.publisher.Publisher.new.Given as goal

abbrev pub invariant-loop : goal.invariant-loop
invariant-loop g l = record {
  count : vec_len l.made ≡ l.counter;
  room : l.readers ≤ vec_capacity l.made;
  new : All (IsNewReader (record { first = l.first; last = l.last })) l.made.items;
  number : published_number l.publisher ≡ l.first;
  range : publisher_range l.publisher ≡ record { first = l.first; last = l.last };
}
