-- Datagrams that stand one behind the other.
use Rattle.std.proofs.Common.{◌≡◌, ℕ, ◌+◌, ◌-◌, ◌<◌, ◌≤◌, ◌∙◌, zero, suc, refl, sym, ap, List, [], ◌∷◌, ◌++◌, length, take, drop, get_or, set, append-nil, length-drop, arith}
use borrow.Rule.Slice.PartMut.{post_of}
use Rattle.std.{specs.Prelude.{All, sum_by}, proofs.lemmas.List.{drop_all, drop_more, drop-append-le, take_all, take_at, take-append-le}}
use Rattle.std.proofs.lemmas.List.{Elements.{All-cons, All-head, All-nil, All-tail}, Sums.sum_by-cons}
use Rattle.npf_traffic.specs.declared.packet.Packet.{Packet}
use Rattle.npf_pieces.specs.{declared.{datagram_at.DatagramAt.DatagramAt, arrived.Arrived.Arrived}, Datagram.IsDatagram, Datagrams.{AddsDatagram, last_place}}
use Rattle.npf_pieces.specs.DatagramAt.{PutTogether, becomes, cut_at, with_datagrams, with_packet}

pub cut_at_push : (ds : List DatagramAt) (d : DatagramAt) (bytes more : List ℕ) → sum_by (λ d. d.len) ds ≡ length bytes → d.len ≡ length more
    → cut_at (ds ++ d ∷ []) (bytes ++ more) ≡ cut_at ds bytes ++ record { place = d.place; bytes = more } ∷ []
cut_at_push [] d [] more sized long =
    ap (λ (list : List ℕ). let x : PutTogether = record { place = d.place; bytes = list } in x ∷ []) (take_all d.len more (omega (arith, long)))
cut_at_push [] d (b ∷ bytes) more sized long = absurd (omega (arith, sized))
cut_at_push (e ∷ ds) d bytes more sized long =
    let sum = sum_by-cons (λ (d : DatagramAt). d.len) e ds in
    let within : e.len ≤ length bytes = omega (arith, sum, sized) in
    let left : sum_by (λ (d : DatagramAt). d.len) ds ≡ length (drop e.len bytes) = omega (arith, sum, sized, length-drop e.len bytes) in
    ap (λ (list : List ℕ). let x : PutTogether = record { place = e.place; bytes = list } in x ∷ cut_at (ds ++ d ∷ []) (drop e.len (bytes ++ more)))
    (take-append-le e.len bytes more within)
    ∙ ap (λ (list : List ℕ). let x : PutTogether = record { place = e.place; bytes = take e.len bytes } in x ∷ cut_at (ds ++ d ∷ []) list)
    (drop-append-le e.len bytes more within)
    ∙ ap (λ (list : List PutTogether). let x : PutTogether = record { place = e.place; bytes = take e.len bytes } in x ∷ list)
    (cut_at_push ds d (drop e.len bytes) more left long)

pub with_packet-set : (change : Packet → Packet) (packets : List Packet) (place : ℕ) (d : Packet) → place < length packets
    → with_packet change place packets ≡ set packets place (change (get_or packets place d))
with_packet-set change [] place d h = absurd (omega arith)
with_packet-set change (p ∷ packets) zero d h = refl
with_packet-set change (p ∷ packets) (suc place) d h = ap (λ (list : List Packet). p ∷ list) (with_packet-set change packets place d (omega arith))

pub put_step : (extents : List DatagramAt) (i : ℕ) (rest : List ℕ) (packets : List Packet) (d : DatagramAt) (p : Packet) → i < length extents
    → (get_or extents i d).place < length packets
    → with_datagrams (cut_at (drop i extents) rest) packets
    ≡ with_datagrams (cut_at (drop (i + 1) extents) (drop (get_or extents i d).len rest))
    (set packets (get_or extents i d).place (becomes (take (get_or extents i d).len rest) (get_or packets (get_or extents i d).place p)))
put_step extents i rest packets d p inside here =
    ap (λ (ds : List DatagramAt). with_datagrams (cut_at ds rest) packets) (drop_more extents i d inside)
    ∙ ap (λ (ps : List Packet). with_datagrams (cut_at (drop (i + 1) extents) (drop (get_or extents i d).len rest)) ps)
    (with_packet-set (becomes (take (get_or extents i d).len rest)) packets (get_or extents i d).place p here)

pub len_within : (extents : List DatagramAt) (i n : ℕ) (d : DatagramAt) → i < length extents → sum_by (λ d. d.len) (drop i extents) ≡ n
    → (get_or extents i d).len + sum_by (λ d. d.len) (drop (i + 1) extents) ≡ n
len_within extents i n d inside sized =
    let more = ap (sum_by (λ (d : DatagramAt). d.len)) (drop_more extents i d inside) in
    let one = sum_by-cons (λ (d : DatagramAt). d.len) (get_or extents i d) (drop (i + 1) extents) in
    omega (arith, more, one, sized)

-- the places of datagrams are those of their extents
pub places_of : (n : ℕ) (ds : List DatagramAt) (bytes : List ℕ) → All (λ (d : PutTogether). d.place < n) (cut_at ds bytes) → All (λ (d : DatagramAt). d.place < n) ds
places_of n [] bytes all = All-nil (λ (d : DatagramAt). d.place < n)
places_of n (d ∷ ds) bytes all =
    let first : PutTogether = record { place = d.place; bytes = take d.len bytes } in
    All-cons (λ (d : DatagramAt). d.place < n) d ds
    (All-head (λ (d : PutTogether). d.place < n) first (cut_at ds (drop d.len bytes)) all)
    (places_of n ds (drop d.len bytes) (All-tail (λ (d : PutTogether). d.place < n) first (cut_at ds (drop d.len bytes)) all))

pub last_is : (set : List Arrived) (d : Arrived) → 1 ≤ length set → (get_or set (length set - 1) d).place ≡ last_place set
last_is [] d h = absurd (omega arith)
last_is (a ∷ []) d h = refl
last_is (a ∷ b ∷ set) d h =
    let same : length (a ∷ b ∷ set) - 1 ≡ suc (length (b ∷ set) - 1) = omega arith in
    ap (λ (n : ℕ). (get_or (a ∷ b ∷ set) n d).place) same ∙ last_is (b ∷ set) d (omega arith)

pub took : (old cur more : List ℕ) (at n : ℕ) → cur ≡ take n old ++ more → at ≡ length old → at ≤ n → take at cur ≡ old
took old cur more at n is count within =
    ap (take at) (is ∙ ap (λ (xs : List ℕ). xs ++ more) (take_all n old (omega (arith, count, within)))) ∙ take_at old more at (omega (arith, count))

-- a datagram that is written behind the others
pub adds_so : (packets : List Packet) (set : List Arrived) (ds kept all : List DatagramAt) (d : DatagramAt) (bytes cur more whole : List ℕ) (at : ℕ)
    → all ≡ kept ++ d ∷ [] → kept ≡ ds → whole ≡ take at cur ++ (more ++ post_of at (length cur - at) cur) → sum_by (λ d. d.len) ds ≡ length bytes →
    take at cur ≡ bytes → d.len ≡ length more → d.place ≡ last_place set → IsDatagram packets set more
    → AddsDatagram packets set (cut_at ds bytes) (cut_at all whole)
adds_so packets set ds kept all d bytes cur more whole at pushed same written sized begins long place is =
    let none : post_of at (length cur - at) cur ≡ [] = drop_all (length cur - at) (drop at cur) (omega (arith, length-drop at cur)) in
    record {
      bytes = more;
      is = is;
      adds = ap (λ (xs : List DatagramAt). cut_at xs whole) (pushed ∙ ap (λ (xs : List DatagramAt). xs ++ d ∷ []) same)
          ∙ ap (cut_at (ds ++ d ∷ [])) written
          ∙ ap (λ (xs : List ℕ). cut_at (ds ++ d ∷ []) (take at cur ++ (more ++ xs))) none
          ∙ ap (λ (xs : List ℕ). cut_at (ds ++ d ∷ []) (take at cur ++ xs)) (append-nil more)
          ∙ ap (λ (xs : List ℕ). cut_at (ds ++ d ∷ []) (xs ++ more)) begins
          ∙ cut_at_push ds d bytes more sized long
          ∙ ap (λ (n : ℕ). let x : PutTogether = record { place = n; bytes = more } in cut_at ds bytes ++ x ∷ []) place;
    }
