-- What a step is told: each kind takes of it what it asks for.
use Rattle.std.specs.Prelude.{ℕ, []}
use Rattle.npf_types.specs.declared.key.Key.{Key}
use Rattle.npf_types.specs.declared.key.Way.{Way}
use Rattle.npf_types.specs.declared.key.Way.TheVariants.{Forward}
use Rattle.npf_core.specs.declared.conn_id.ConnId.{ConnId}
use Rattle.npf_paths.specs.declared.cell.Cell.{Cell}
use Rattle.npf_paths.specs.declared.cell.Cell.TheVariants.{Empty}
use Rattle.npf_paths.specs.declared.place.Lock.{Lock}
use Rattle.npf_paths.specs.declared.place.Lock.TheVariants as Locking
use Rattle.npf_paths.specs.declared.place.Place.{Place}
use Rattle.npf_paths.specs.declared.place.Place.TheVariants as Places
use Rattle.npf_cells_words.specs.declared.layout.Layout.{Layout}
use Rattle.npf_cells_words.specs.declared.layout.Pool.{Pool}
use Rattle.npf_cells_words.specs.declared.layout.Pool.TheVariants.{Slots}

-- a place of a pool, by its number, and a field of it; a word of a pool or of a key; the packet, the connection, its key and way; a place
-- of the trie and what goes there; a lock and its state
pub record Telling : Type 0 where
  pub layout : Layout
  pub pool : Pool
  pub number : ℕ
  pub field : ℕ
  pub word : ℕ
  pub packet : ℕ
  pub id : ConnId
  pub key : Key
  pub way : Way
  pub place : Place
  pub cell : Cell
  pub lock : Lock
  pub state : ℕ

abbrev pub untold : Telling
untold = record {
  layout = record { slots = 0; nodes = 0 };
  pool = Slots;
  number = 0;
  field = 0;
  word = 0;
  packet = 0;
  id = record { slot = 0; inc = 0 };
  key = record { 0 = [] };
  way = Forward;
  place = Places.Root 0;
  cell = Empty;
  lock = Locking.Root 0;
  state = 0;
}
