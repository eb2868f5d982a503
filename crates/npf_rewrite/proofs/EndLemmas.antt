-- The words of an end's address: they follow one another, whatever its family.
use Rattle.std.proofs.Common.{◌≡◌, ℕ, ◌+◌, ◌*◌, ◌≤◌, Bool, true, false, Option, Some, None, List, [], ◌∷◌, length, refl, subst, arith}
use Rattle.std.specs.Prelude.{if◌then◌else◌}
use Rattle.npf_types.specs.declared.{address.Addr.{Addr, TheVariants.{V4, V6}}, change.End.End}
use Rattle.npf_key.specs.Translated.{fitting, shares_family}
use Rattle.npf_rewrite.specs.{declared.word.WordAt.WordAt, Address.{address_words, end_words, word_of, words_v6}, Word.word}
use Rattle.npf_rewrite.proofs.TotalLemmas.{AllFit, Between, Inside}

-- how far above the lowest bit the words of an address stand
abbrev pub shifts : Addr → List ℕ
shifts (V4 _) = 16 ∷ 0 ∷ []
shifts (V6 _) = 112 ∷ 96 ∷ 80 ∷ 64 ∷ 48 ∷ 32 ∷ 16 ∷ 0 ∷ []

-- how many bytes an address of this family has
abbrev pub address_size : Addr → ℕ
address_size src = 2 * length (shifts src)

abbrev pub words_from : ℕ → ℕ → List ℕ → List WordAt
words_from at a [] = []
words_from at a (n ∷ ns) = word at (word_of a n) ∷ words_from (at + 2) a ns

words_v6-from : (at a : ℕ) → words_from at a (shifts (V6 a)) ≡ words_v6 at a
words_v6-from at a =
    let four : at + 2 + 2 ≡ at + 4 = omega arith in
    let six : at + 2 + 2 + 2 ≡ at + 6 = omega arith in
    let eight : at + 2 + 2 + 2 + 2 ≡ at + 8 = omega arith in
    let ten : at + 2 + 2 + 2 + 2 + 2 ≡ at + 10 = omega arith in
    let twelve : at + 2 + 2 + 2 + 2 + 2 + 2 ≡ at + 12 = omega arith in
    let fourteen : at + 2 + 2 + 2 + 2 + 2 + 2 + 2 ≡ at + 14 = omega arith in
    cc

-- what holds of the words from a place on holds of those of an address
pub address-has : (src x : Addr) (at : ℕ) (Q : List WordAt → Type 0) → shares_family x src ≡ true
    → ((a : ℕ) → Q (words_from at a (shifts src))) → Q (address_words at x)
address-has (V4 _) (V4 a) at Q same has = has a
address-has (V6 _) (V6 a) at Q same has = subst Q (words_v6-from at a) (has a)
address-has (V4 _) (V6 a) at Q same has = absurd cc
address-has (V6 _) (V4 a) at Q same has = absurd cc

chosen : (src : Addr) (Q : Option End → Type 0) → Q None → (e : End)
    → (shares_family e.addr src ≡ true → Q (Some e)) → (b : Bool) → shares_family e.addr src ≡ b
    → Q (if b then Some e else None)
chosen src Q none e some true same = some same
chosen src Q none e some false same = none

-- what holds of no end and of one of the packet's family holds of the one that fits it
pub fitted : (src : Addr) (Q : Option End → Type 0) → Q None
    → ((e : End) → shares_family e.addr src ≡ true → Q (Some e)) → (end : Option End)
    → Q (fitting src end)
fitted src Q none some None = none
fitted src Q none some (Some e) = chosen src Q none e (some e) (shares_family e.addr src) refl

end-has : (src : Addr) (at : ℕ) (Q : List WordAt → Type 0) → Q []
    → ((a : ℕ) → Q (words_from at a (shifts src))) → (end : Option End)
    → Q (end_words at (fitting src end))
end-has src at Q none some end =
    fitted src (λ o. Q (end_words at o)) none (λ e same. address-has src e.addr at Q same some) end

pub inside-from : (lo n at k a : ℕ) (ns : List ℕ) → at ≡ lo + 2 * k → k + length ns ≤ n
    → Inside lo n at (words_from at a ns)
inside-from lo n at k a [] e h = tt
inside-from lo n at k a (m ∷ ns) e h = (
  omega arith,
  (
    (k, (e, omega arith)),
    inside-from lo n (at + 2) (k + 1) a ns (omega arith) (omega arith),
  ),
)

pub between-from : (lo hi at a : ℕ) (ns : List ℕ) → lo ≤ at → at + 2 * length ns ≤ hi
    → Between lo hi (words_from at a ns)
between-from lo hi at a [] from to = tt
between-from lo hi at a (m ∷ ns) from to =
    (from, (omega arith, between-from lo hi (at + 2) a ns (omega arith) (omega arith)))

fit-from : (at a : ℕ) (ns : List ℕ) → AllFit (words_from at a ns)
fit-from at a [] = tt
fit-from at a (m ∷ ns) = (omega arith, fit-from (at + 2) a ns)

pub end-inside : (src : Addr) (lo n at k : ℕ) (end : Option End) → at ≡ lo + 2 * k
    → k + length (shifts src) ≤ n → Inside lo n at (end_words at (fitting src end))
end-inside src lo n at k end e h =
    end-has src at (Inside lo n at) tt (λ a. inside-from lo n at k a (shifts src) e h) end

pub end-between : (src : Addr) (at : ℕ) (end : Option End)
    → Between at (at + address_size src) (end_words at (fitting src end))
end-between src at end =
    end-has src at (Between at (at + address_size src)) tt
    (λ a. between-from at (at + address_size src) at a (shifts src) (omega arith) (omega arith)) end

pub end-fits : (src : Addr) (at : ℕ) (end : Option End) → AllFit (end_words at (fitting src end))
end-fits src at end = end-has src at AllFit tt (λ a. fit-from at a (shifts src)) end
