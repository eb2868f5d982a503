use Rattle.std.specs.Prelude.{ℕ, Bool, ◌==◌}
use Rattle.std.specs.Int.{bit_at}

-- the control bits of a segment (RFC 9293 section 3.1)
abbrev pub has_fin : ℕ → Bool
has_fin flags = bit_at flags 0 == 1

abbrev pub has_syn : ℕ → Bool
has_syn flags = bit_at flags 1 == 1

abbrev pub has_rst : ℕ → Bool
has_rst flags = bit_at flags 2 == 1

abbrev pub has_ack : ℕ → Bool
has_ack flags = bit_at flags 4 == 1
