use Rattle.std.specs.Prelude.{◌≡◌, ◌≢◌, ◌↔◌, ◌<◌, ◌^◌, ℕ, None, IsTrue}
use Rattle.npf_types.specs.declared.address.Addr.{Addr}
use Rattle.npf_types.specs.declared.interface.IfId.{IfId}
use Rattle.npf_types.specs.declared.facts.Facts.{Facts}
use Rattle.npf_types.specs.declared.change.Change.{Change}
use Rattle.npf_key.specs.Key.{key_of, backward_key, port_key}
use Rattle.npf_key.specs.Port.{source_port, destination_port}
use Rattle.npf_key.specs.Translated.{about, facts_there, shares_family}

-- a packet's numbers fit their fields, as a program's do by their types
pub record FitsKey (facts : Facts) (ifid : IfId) : Type 0 where
  pub protocol : facts.proto < 2 ^ 8
  pub interface : ifid.0 < 2 ^ 16
  pub source : source_port facts.l4 < 2 ^ 16
  pub destination : destination_port facts.l4 < 2 ^ 16

-- two packets on two interfaces go the same way: their addresses, protocols, interfaces and ports are the same
pub record GoesWith (facts : Facts) (ifid : IfId) (other : Facts) (other_ifid : IfId) : Type 0 where
  pub src : facts.src ≡ other.src
  pub dst : facts.dst ≡ other.dst
  pub protocol : facts.proto ≡ other.proto
  pub interface : ifid ≡ other_ifid
  pub source : source_port facts.l4 ≡ source_port other.l4
  pub destination : destination_port facts.l4 ≡ destination_port other.l4

-- a packet's addresses are of one family
abbrev pub IsOneFamily : Facts → Type 0
IsOneFamily facts = IsTrue (shares_family facts.src facts.dst)

-- packets, each of one family, have one key exactly where they go the same way
abbrev pub KeysTellApart : Type 0
KeysTellApart =
    (facts : Facts) (ifid : IfId) (other : Facts) (other_ifid : IfId) → FitsKey facts ifid → FitsKey other other_ifid →
    IsOneFamily facts → IsOneFamily other →
    (key_of facts ifid ≡ key_of other other_ifid) ↔ GoesWith facts ifid other other_ifid

-- no packet has the key of a port
abbrev pub PortKeysStandApart : Type 0
PortKeysStandApart =
    (facts : Facts) (ifid : IfId) (addr : Addr) (port : ℕ) → FitsKey facts ifid → key_of facts ifid ≢ port_key addr port

-- ports have one key exactly where their addresses and numbers are the same
abbrev pub PortKeysTellApart : Type 0
PortKeysTellApart =
    (addr other : Addr) (port other_port : ℕ) → port < 2 ^ 16 → other_port < 2 ^ 16 →
    (port_key addr port ≡ port_key other other_port) ↔ ((addr ≡ other) × (port ≡ other_port))

-- a translation keeps the family: an end of the other one names nothing
abbrev pub TranslationKeepsFamily : Type 0
TranslationKeepsFamily =
    (facts : Facts) (there : Change) → IsOneFamily facts → IsOneFamily (facts_there there facts)

-- So a packet has the backward key of a translated one exactly where it goes from that one's destination to its source, whatever
-- was translated.
abbrev pub BackwardKeysTellApart : Type 0
BackwardKeysTellApart =
    (facts : Facts) (ifid : IfId) (there : Change) (other : Facts) (other_ifid : IfId) →
    FitsKey (about (facts_there there facts)) ifid → FitsKey other other_ifid → IsOneFamily facts → IsOneFamily other →
    (backward_key facts ifid there ≡ key_of other other_ifid) ↔ GoesWith (about (facts_there there facts)) ifid other other_ifid

-- a change that names nothing
abbrev pub NamesNothing : Change → Type 0
NamesNothing there = (there.src ≡ None) × (there.dst ≡ None)

-- the backward key of a packet that isn't translated is the key of its answer, the packet changed about
abbrev pub AnswersComeBack : Type 0
AnswersComeBack =
    (facts : Facts) (ifid : IfId) (there : Change) → NamesNothing there → backward_key facts ifid there ≡ key_of (about facts) ifid

-- and the answer's backward key is the packet's key
abbrev pub ThereAndBack : Type 0
ThereAndBack =
    (facts : Facts) (ifid : IfId) (there : Change) → NamesNothing there → backward_key (about facts) ifid there ≡ key_of facts ifid
