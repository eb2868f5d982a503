-- What follows of the definitions of a map's change.
use Rattle.std.specs.Prelude.{◌≡◌, ◌≢◌, ◌<◌, ℕ, ◌+◌, ◌/◌, ◌%◌, ◌^◌, IsTrue}
use Rattle.npf_types.specs.declared.address.Addr.{Addr}
use Rattle.npf_types.specs.declared.address.Addr.TheVariants.{V6}
use Rattle.npf_types.specs.declared.change.Change.{Change}
use Rattle.npf_types.specs.declared.facts.Facts.{Facts}
use Rattle.npf_types.specs.declared.prefix.Prefix.{Prefix}
use Rattle.npf_types.specs.Prefix.{HasAddress}
use Rattle.npf_key.specs.Laws.{IsOneFamily}
use Rattle.npf_key.specs.Translated.{about, facts_there, shares_family}
use Rattle.npf_nat.specs.Answer.{answer_change}
use Rattle.npf_nat.specs.Netmap.{netmap}
use Rattle.npf_nat.specs.Npt.{fourth_word, npt66, address_number, prefix_sum}
use Rattle.npf_nat.specs.PrefixPair.{ArePrefixes}

-- the answer to a translated packet, translated in its turn, is the answer to the packet as it came
abbrev pub AnswerIsRestored : Type 0
AnswerIsRestored =
    (facts : Facts) (there : Change) → IsOneFamily facts →
    facts_there (answer_change facts there) (about (facts_there there facts)) ≡ about facts

-- a block for a block of the same length, there and back
abbrev pub NetmapComesBack : Type 0
NetmapComesBack =
    (from to : Prefix) (addr : Addr) → from.len ≡ to.len → IsTrue (shares_family from.addr to.addr) → HasAddress from addr →
    netmap from (netmap to addr) ≡ addr

-- a prefix's number fits its bits, as a program's does by its type
abbrev pub Is128Bits : Prefix → Type 0
Is128Bits prefix = address_number prefix.addr < 2 ^ 128

-- the same of a prefix translation, but for the word 0xFFFF, which none makes (RFC 6296 section 3)
abbrev pub Npt66ComesBack : Type 0
Npt66ComesBack =
    (from to : Prefix) (a : ℕ) → ArePrefixes from to → Is128Bits from → Is128Bits to → HasAddress from (V6 a) → fourth_word a ≢ 65535 →
    npt66 to from (npt66 from to a) ≡ a

-- the sum of an address's eight words of 16 bits
abbrev pub words_sum : ℕ → ℕ
words_sum a =
    prefix_sum a + fourth_word a + a / 2 ^ 48 % 2 ^ 16 + a / 2 ^ 32 % 2 ^ 16 + a / 2 ^ 16 % 2 ^ 16 + a % 2 ^ 16

-- a prefix translation keeps that sum in one's complement, modulo 65,535
abbrev pub Npt66IsNeutral : Type 0
Npt66IsNeutral =
    (from to : Prefix) (a : ℕ) → ArePrefixes from to → Is128Bits to → HasAddress from (V6 a) →
    words_sum (npt66 from to a) % 65535 ≡ words_sum a % 65535
