-- The sets that end complete are whole, and the packets that their datagrams become are there.
use Rattle.std.proofs.{Common.{◌≡◌, ◌<◌, true, sym, subst, List, [], ◌∷◌, All, length, map}, lemmas.List.Elements.{All-cons, All-head, All-nil, All-tail}}
use Rattle.npf_traffic.specs.declared.packet.Packet.{Packet}
use Rattle.npf_pieces.specs.{declared.arrived.{Arrived.Arrived, SetAt.SetAt}, Datagram.{CompleteIsWhole, StandsAmong, WholeIfComplete}, Datagrams.last_place}
use Rattle.npf_pieces.specs.{Overlap.IsTaken, Sets.{is_whole, set_at, sets_from}}

last_below : (packets : List Packet) (a : Arrived) (set : List Arrived) → All (StandsAmong packets) (a ∷ set) → last_place (a ∷ set) < length packets
last_below packets a [] all = (All-head (StandsAmong packets) a [] all).here
last_below packets a (b ∷ set) all = last_below packets b set (All-tail (StandsAmong packets) a (b ∷ set) all)

pub last_here : (packets : List Packet) (set : List Arrived) → is_whole set ≡ true → All (StandsAmong packets) set → last_place set < length packets
last_here packets [] whole all = absurd (cc)
last_here packets (a ∷ set) whole all = last_below packets a set all

each_whole : (arrived : List Arrived) (sets : List SetAt) → All WholeIfComplete (map (set_at arrived) sets) → All (λ set. WholeIfComplete (set_at arrived set)) sets
each_whole arrived [] all = All-nil (λ (set : SetAt). WholeIfComplete (set_at arrived set))
each_whole arrived (set ∷ sets) all =
    All-cons (λ (set : SetAt). WholeIfComplete (set_at arrived set)) set sets
    (All-head WholeIfComplete (set_at arrived set) (map (set_at arrived) sets) all)
    (each_whole arrived sets (All-tail WholeIfComplete (set_at arrived set) (map (set_at arrived) sets) all))

pub all_whole : (arrived : List Arrived) (sets : List SetAt) → CompleteIsWhole → All IsTaken arrived
    → map (set_at arrived) sets ≡ sets_from [] arrived
    → All (λ set. WholeIfComplete (set_at arrived set)) sets
all_whole arrived sets law taken are = each_whole arrived sets (subst (All WholeIfComplete) (sym are) (law arrived taken))
