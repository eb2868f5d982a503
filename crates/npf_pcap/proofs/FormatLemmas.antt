-- A magic number tells one format, and a link type's number one link.
use Rattle.std.proofs.{Common.{◌≡◌, ◌≢◌, ℕ, ◌⊎◌, inl, inr, ◌∙◌, sym, ap, refl, cond, eqb, Option, Some, arith}, lemmas.Bool.cases_eq}
use Rattle.npf_types.specs.declared.link.Link.{Link, TheVariants.{Ethernet, Raw}}
use Rattle.npf_shelf.proofs.OptionLemmas.{Some-injective}
use Rattle.npf_pcap.specs.declared.format.{Format.Format, Endianness.{Endianness, TheVariants.{Big, Little}}, Precision.{Precision, TheVariants.{Micro, Nano}}}
use Rattle.npf_pcap.specs.Format.{magic_of, link_number}

-- what a magic number tells
abbrev told_by : ℕ → Option Format
told_by n =
    cond (eqb n 0xa1b2c3d4) (Some (record { order = Big; precision = Micro }))
    (cond (eqb n 0xa1b23c4d) (Some (record { order = Big; precision = Nano }))
    (cond (eqb n 0xd4c3b2a1) (Some (record { order = Little; precision = Micro }))
    (Some (record { order = Little; precision = Nano }))))

told_by-magic_of : (o : Endianness) (p : Precision) → told_by (magic_of o p) ≡ Some (record { order = o; precision = p })
told_by-magic_of Big Micro = refl
told_by-magic_of Big Nano = refl
told_by-magic_of Little Micro = refl
told_by-magic_of Little Nano = refl

pub same_format : (f g : Format) → magic_of f.order f.precision ≡ magic_of g.order g.precision → f ≡ g
same_format f g e =
    Some-injective f g (sym (told_by-magic_of f.order f.precision) ∙ ap told_by e ∙ told_by-magic_of g.order g.precision)

pub same_link : (l m : Link) → link_number l ≡ link_number m → l ≡ m
same_link Ethernet Ethernet e = refl
same_link Ethernet Raw e = absurd (omega arith)
same_link Raw Ethernet e = absurd (omega arith)
same_link Raw Raw e = refl

none_of : (n : ℕ) → n ≢ 0xa1b2c3d4 → n ≢ 0xa1b23c4d → n ≢ 0xd4c3b2a1 → n ≢ 0x4d3cb2a1 → (o : Endianness) (p : Precision) → n ≢ magic_of o p
none_of n a b c d Big Micro = a
none_of n a b c d Big Nano = b
none_of n a b c d Little Micro = c
none_of n a b c d Little Nano = d

-- a number is the magic number of a format, or of none
pub format_or_none : (n : ℕ) → ((f : Format) × (n ≡ magic_of f.order f.precision)) ⊎ ((f : Format) → n ≢ magic_of f.order f.precision)
format_or_none n = elim (cases_eq n 0xa1b2c3d4) [
  | inl a ↦ inl (record { order = Big; precision = Micro }, a)
  | inr a ↦ elim (cases_eq n 0xa1b23c4d) [
    | inl b ↦ inl (record { order = Big; precision = Nano }, b)
    | inr b ↦ elim (cases_eq n 0xd4c3b2a1) [
      | inl c ↦ inl (record { order = Little; precision = Micro }, c)
      | inr c ↦ elim (cases_eq n 0x4d3cb2a1) [
        | inl d ↦ inl (record { order = Little; precision = Nano }, d)
        | inr d ↦ inr (λ f. none_of n a b c d f.order f.precision)
      ]
    ]
  ]
]

no_link : (n : ℕ) → n ≢ 1 → n ≢ 101 → (l : Link) → n ≢ link_number l
no_link n a b Ethernet = a
no_link n a b Raw = b

-- a number is that of a link type, or of none
pub link_or_none : (n : ℕ) → ((l : Link) × (n ≡ link_number l)) ⊎ ((l : Link) → n ≢ link_number l)
link_or_none n = elim (cases_eq n 1) [
  | inl a ↦ inl (Ethernet, a)
  | inr a ↦ elim (cases_eq n 101) [ inl b ↦ inl (Raw, b) | inr b ↦ inr (no_link n a b) ]
]
