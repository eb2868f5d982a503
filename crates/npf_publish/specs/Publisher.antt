use Rattle.std.specs.Prelude.{ℕ}
use Rattle.npf_publish.specs.declared.number_range.NumberRange.{NumberRange}
use Rattle.npf_publish.specs.declared.publisher.Publisher.{Publisher}

-- the number that was published last, which readers are shown
abbrev pub published_number : Publisher → ℕ
published_number publisher = publisher.writer.desk.shown.value.number

-- the numbers that a publisher may publish
abbrev pub publisher_range : Publisher → NumberRange
publisher_range publisher = publisher.range
