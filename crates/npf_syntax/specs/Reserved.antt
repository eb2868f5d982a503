-- Interfaces that are named where an address is asked for (npf.conf(5), "filt-addr"), and the words that none is named by there: behind
-- `from` or `to` they go on with the rule, so that a forgotten address is told at its place.
use Rattle.std.specs.Prelude.{ℕ, Bool, not, ◌&&◌, List, [], ◌∷◌, codes}
use Rattle.std.specs.List.{list_any}
use Rattle.std.specs.Str.{bytes_eq}
use Rattle.npf_types.specs.NameText.{is_name}

unfoldable pub reserved : List (List ℕ)
reserved =
    codes "any"
    ∷ codes "all"
    ∷ codes "from"
    ∷ codes "to"
    ∷ codes "port"
    ∷ codes "apply"
    ∷ codes "pass"
    ∷ codes "block"
    ∷ codes "on"
    ∷ codes "in"
    ∷ codes "out"
    ∷ codes "final"
    ∷ codes "stateful"
    ∷ codes "stateful-all"
    ∷ codes "family"
    ∷ codes "proto"
    ∷ codes "flags"
    ∷ codes "icmp-type"
    ∷ codes "code"
    ∷ codes "inet4"
    ∷ codes "inet6"
    ∷ codes "ifaddrs"
    ∷ codes "dynamic"
    ∷ codes "static"
    ∷ codes "algo"
    ∷ codes "no-ports"
    ∷ codes "user"
    ∷ codes "group"
    ∷ codes "pcap-filter"
    ∷ codes "layer-2"
    ∷ codes "route"
    ∷ []

abbrev pub is_reserved : List ℕ → Bool
is_reserved word = list_any (λ kept. bytes_eq kept word) reserved

-- the word is an interface's name there; a string may be any name
unfoldable pub is_iface_word : List ℕ → Bool
is_iface_word word = is_name word && not (is_reserved word)
