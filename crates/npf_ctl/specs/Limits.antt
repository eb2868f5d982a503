-- The greatest number of each thing that a run takes, in figures.
use Rattle.std.specs.Prelude.{◌≡◌}
use Rattle.npf_types.specs.declared.limits.TheConstants.{MAX_BYTES_OF_CAPTURES, MAX_CAPTURES, MAX_CAPTURE_BYTES, MAX_CHANGES, MAX_CONNECTIONS, MAX_INSTRUCTIONS, MAX_INTERFACES, MAX_LIST_ELEMENTS, MAX_MAPS, MAX_NODES, MAX_PACKETS, MAX_PACKET_BYTES, MAX_PHASES, MAX_PROCEDURES, MAX_READERS, MAX_RULES, MAX_RULE_WEIGHT, MAX_SAVED_BYTES, MAX_TABLES, MAX_TABLE_ENTRIES, MAX_TEXT_BYTES}

pub record AreLimits : Type 0 where
  pub text : MAX_TEXT_BYTES ≡ 4194304
  pub rules : MAX_RULES ≡ 4096
  pub tables : MAX_TABLES ≡ 64
  pub maps : MAX_MAPS ≡ 256
  pub procedures : MAX_PROCEDURES ≡ 64
  pub elements : MAX_LIST_ELEMENTS ≡ 262144
  pub entries : MAX_TABLE_ENTRIES ≡ 131072
  pub weight : MAX_RULE_WEIGHT ≡ 4096
  pub instructions : MAX_INSTRUCTIONS ≡ 524288
  pub captures : MAX_CAPTURES ≡ 16
  pub capture_bytes : MAX_CAPTURE_BYTES ≡ 268435456
  pub all_bytes : MAX_BYTES_OF_CAPTURES ≡ 268435456
  pub packet_bytes : MAX_PACKET_BYTES ≡ 262144
  pub packets : MAX_PACKETS ≡ 1000000
  pub phases : MAX_PHASES ≡ 1024
  pub changes : MAX_CHANGES ≡ 256
  pub interfaces : MAX_INTERFACES ≡ 64
  pub connections : MAX_CONNECTIONS ≡ 65536
  pub nodes : MAX_NODES ≡ 262144
  pub readers : MAX_READERS ≡ 66
  pub saved_bytes : MAX_SAVED_BYTES ≡ 67108864
