-- Messages of ICMP and ICMPv6 by their names: types, and codes of some types (IANA's registries of their parameters, RFC 792 and
-- RFC 4443, 4861 and 2710), as headers and manuals spell them. Where two spellings are in use both stand.
use Rattle.std.specs.Prelude.{ℕ, ◌==◌, if◌then◌else◌, [], ◌∷◌, codes}
use Rattle.npf_names.specs.declared.icmp.IcmpNames.{IcmpNames}
use Rattle.npf_names.specs.declared.icmp.IcmpNames.TheVariants.{OfIcmp, OfIcmp6, OfNeither}
use Rattle.npf_names.specs.declared.icmp.IcmpTable.{IcmpTable}
use Rattle.npf_names.specs.declared.icmp.IcmpTable.TheVariants.{Types, Codes}
use Rattle.npf_names.specs.Names.{Names}

-- ICMP's types
unfoldable pub icmp_types : Names
icmp_types =
    (codes "althostaddr", 6)
    ∷ (codes "echo", 8)
    ∷ (codes "echoreply", 0)
    ∷ (codes "ireq", 15)
    ∷ (codes "ireqreply", 16)
    ∷ (codes "maskreply", 18)
    ∷ (codes "maskreq", 17)
    ∷ (codes "paramprob", 12)
    ∷ (codes "redirect", 5)
    ∷ (codes "routeradvert", 9)
    ∷ (codes "routersolicit", 10)
    ∷ (codes "sourcequench", 4)
    ∷ (codes "timxceed", 11)
    ∷ (codes "tstamp", 13)
    ∷ (codes "tstampreply", 14)
    ∷ (codes "unreach", 3)
    ∷ []

-- codes of ICMP 3, a destination that is unreachable
unfoldable pub unreach_codes : Names
unreach_codes =
    (codes "host", 1)
    ∷ (codes "needfrag", 4)
    ∷ (codes "net", 0)
    ∷ (codes "port", 3)
    ∷ (codes "protocol", 2)
    ∷ (codes "srcfail", 5)
    ∷ []

-- codes of ICMP 5, a redirect
unfoldable pub redirect_codes : Names
redirect_codes =
    (codes "host", 1)
    ∷ (codes "net", 0)
    ∷ (codes "toshost", 3)
    ∷ (codes "tosnet", 2)
    ∷ []

-- codes of ICMP 11, time exceeded
unfoldable pub timxceed_codes : Names
timxceed_codes =
    (codes "intrans", 0)
    ∷ (codes "reass", 1)
    ∷ []

-- ICMPv6's types
unfoldable pub icmp6_types : Names
icmp6_types =
    (codes "echo", 128)
    ∷ (codes "echoreply", 129)
    ∷ (codes "groupqry", 130)
    ∷ (codes "grouprep", 131)
    ∷ (codes "groupterm", 132)
    ∷ (codes "mcastlistendone", 132)
    ∷ (codes "mcastlistenq", 130)
    ∷ (codes "mcastlistenrep", 131)
    ∷ (codes "neighadv", 136)
    ∷ (codes "neighbradv", 136)
    ∷ (codes "neighbrsol", 135)
    ∷ (codes "neighsol", 135)
    ∷ (codes "packet_too_big", 2)
    ∷ (codes "paramprob", 4)
    ∷ (codes "redirect", 137)
    ∷ (codes "routeradv", 134)
    ∷ (codes "routersol", 133)
    ∷ (codes "rtadv", 134)
    ∷ (codes "rtsol", 133)
    ∷ (codes "timxceed", 3)
    ∷ (codes "toobig", 2)
    ∷ (codes "unreach", 1)
    ∷ []

-- codes of ICMPv6 1, a destination that is unreachable
unfoldable pub unreach6_codes : Names
unreach6_codes =
    (codes "addr", 3)
    ∷ (codes "admin", 1)
    ∷ (codes "beyondscope", 2)
    ∷ (codes "noroute", 0)
    ∷ (codes "port", 4)
    ∷ []

-- codes of ICMPv6 3, time exceeded
unfoldable pub timxceed6_codes : Names
timxceed6_codes =
    (codes "intrans", 0)
    ∷ (codes "reass", 1)
    ∷ (codes "transit", 0)
    ∷ []

abbrev pub icmp_codes : ℕ → Names
icmp_codes kind = if kind == 3 then unreach_codes else (if kind == 5 then redirect_codes else (if kind == 11 then timxceed_codes else []))

abbrev pub icmp6_codes : ℕ → Names
icmp6_codes kind = if kind == 1 then unreach6_codes else (if kind == 3 then timxceed6_codes else [])

-- the names of types
abbrev pub types_of : IcmpNames → Names
types_of OfIcmp = icmp_types
types_of OfIcmp6 = icmp6_types
types_of OfNeither = []

-- the names of a type's codes
abbrev pub codes_of : IcmpNames → ℕ → Names
codes_of OfIcmp kind = icmp_codes kind
codes_of OfIcmp6 kind = icmp6_codes kind
codes_of OfNeither kind = []

abbrev pub names_in : IcmpTable → Names
names_in (Types names) = types_of names
names_in (Codes names kind) = codes_of names kind
