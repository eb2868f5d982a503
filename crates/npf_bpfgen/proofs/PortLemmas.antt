-- The tests of ports.
use Rattle.std.proofs.Common.{◌≡◌, ◌≢◌, ℕ, ◌+◌, ◌<◌, ◌≤◌, Bool, true, false, List, [], ◌∷◌, ◌++◌, length, get_or, drop, suc, ◌-◌, Some, None, refl, sym, ap, subst, ◌∙◌, arith}
use Rattle.std.specs.{List.list_any, Prelude.{◌==◌, ◌&&◌, not, ◌*◌, if◌then◌else◌, nat_lt, nat_le}}
use Rattle.std.proofs.lemmas.Bool.{eq-eqb, leb-true, le-leb, le-ltb, ltb-false, ne_eqb, not-true, not_from_false}
use Rattle.npf_types.specs.declared.{address.Addr.{Addr, TheVariants.{V4, V6}}, facts.L4.{L4, TheVariants.{Tcp, Udp, Icmp, Icmp6, Other}}}
use Rattle.npf_model.specs.Describes.{fits_ports, in_range, source_of}
use Rattle.npf_packet.specs.{PacketField.{HasProtocol, HasUpperFields}, Place.least_upper_header}
use Rattle.npf_bpf.specs.{declared.{insn.Insn.Insn, operation.Width.TheVariants.Half}, Coprocessor.Coprocessor, Load.loaded}
use Rattle.npf_bpfgen.specs.{declared.endpoint.Endpoint.{Endpoint, TheVariants.{Source, Destination}}, Endpoint.{port_of, port_place}}
use Rattle.npf_bpfgen.specs.Instruction.{if_at_least, if_equal, if_greater, load_half_behind, load_index, load_memory, jump, return_number}
use Rattle.npf_bpfgen.specs.{Premise.{GuardsPacket, header_words}, Tail.{Yields, Extends, BranchesOnNumber, GuardsNumber}}
use Rattle.npf_bpfgen.proofs.StepLemmas.{at_least, forget, greater, is_equal, is_unequal, loads_half_behind, loads_protocol, returns}
use Rattle.npf_bpfgen.proofs.{TailLemmas.{any_more, extended, member_extended, member_guards}, WordLemmas.{half_loaded, same_test}}

not_above : (a b : ℕ) → nat_le b a ≡ not (nat_lt a b)
not_above a b = same_test (nat_le b a) (not (nat_lt a b))
    (λ e. not_from_false (nat_lt a b) (le-ltb a b (leb-true b a e)))
    (λ e. le-leb b a (ltb-false a b (not-true (nat_lt a b) e)))

range_chosen : (port : ℕ) (range : ℕ × ℕ) (x y : ℕ)
    → (if nat_le range.0 port then (if nat_lt range.1 port then y else x) else y) ≡ (if in_range port range then x else y)
range_chosen port range x y = chosen (nat_le range.0 port) (nat_lt range.1 port) (nat_le port range.1) (not_above range.1 port) where
  chosen : (b over under : Bool) → under ≡ not over
      → (if b then (if over then y else x) else y) ≡ (if b && under then x else y)
  chosen false over under e = refl
  chosen true true under e = ap (λ (t : Bool). if t then x else y) (sym e)
  chosen true false under e = ap (λ (t : Bool). if t then x else y) (sym e)

pub range_branches : (range : ℕ × ℕ) (old new : List Insn)
    → new ≡ if_at_least range.0 0 2 ∷ if_greater range.1 1 0 ∷ old
    → BranchesOnNumber (λ port. in_range port range) old new
range_branches range old new is = λ p cop header port first second at_first at_second.
    let behind = if_greater range.1 1 0 ∷ old in
    subst (λ (code : List Insn). Yields p cop header (Some port) code 0 (if in_range port range then first else second)) (sym is)
    (subst (λ (number : ℕ). Yields p cop header (Some port) (if_at_least range.0 0 2 ∷ behind) 0 number)
    (range_chosen port range first second)
    (at_least p cop header behind (if nat_lt range.1 port then second else first) second port range.0 0 2
    (greater p cop header old second first port range.1 1 0 at_second at_first)
    at_second))

abbrev pub ports_front : ℕ → List Insn
ports_front at =
    load_memory 2 ∷ if_equal 6 2 0 ∷ if_equal 17 1 0 ∷ return_number 0 ∷ load_index 1 ∷ load_half_behind at ∷ []

-- where the facts have a port, it is the number at the endpoint's place
port_loaded : (p : List ℕ) (endpoint : Endpoint) (at port : ℕ) (l4 : L4) → at + least_upper_header l4 ≤ length p
    → HasUpperFields p at l4 → port_of endpoint l4 ≡ Some port
    → loaded p Half (at + port_place endpoint) ≡ Some port
port_loaded p Source at port (Tcp sport dport seg mss) room fields is =
    half_loaded p (at + 0) (omega (arith, room)) ∙ ap Some fields.ports.source ∙ is
port_loaded p Destination at port (Tcp sport dport seg mss) room fields is =
    half_loaded p (at + 2) (omega (arith, room)) ∙ ap Some fields.ports.destination ∙ is
port_loaded p Source at port (Udp sport dport) room fields is =
    half_loaded p (at + 0) (omega (arith, room)) ∙ ap Some fields.source ∙ is
port_loaded p Destination at port (Udp sport dport) room fields is =
    half_loaded p (at + 2) (omega (arith, room)) ∙ ap Some fields.destination ∙ is
port_loaded p Source at port (Icmp kind code echo) room fields is = cc
port_loaded p Destination at port (Icmp kind code echo) room fields is = cc
port_loaded p Source at port (Icmp6 kind code echo) room fields is = cc
port_loaded p Destination at port (Icmp6 kind code echo) room fields is = cc
port_loaded p Source at port Other room fields is = cc
port_loaded p Destination at port Other room fields is = cc

-- neither TCP nor UDP
pub others_apart : (src : Addr) (proto : ℕ) (l4 : L4) → source_of l4 ≡ None → HasProtocol src proto l4
    → (proto ≢ 6) × (proto ≢ 17)
others_apart src proto (Tcp sport dport seg mss) none has = cc
others_apart src proto (Udp sport dport) none has = cc
others_apart (V4 a) proto (Icmp kind code echo) none has = (λ e. omega (arith, has, e), λ e. omega (arith, has, e))
others_apart (V6 a) proto (Icmp kind code echo) none has = absurd has
others_apart (V4 a) proto (Icmp6 kind code echo) none has = absurd has
others_apart (V6 a) proto (Icmp6 kind code echo) none has = (λ e. omega (arith, has, e), λ e. omega (arith, has, e))
others_apart (V4 a) proto Other none has = (has.0, has.1)
others_apart (V6 a) proto Other none has = (has.0, has.1)

module _ (ranges : List (ℕ × ℕ)) (at : ℕ) (old list : List Insn)
    (guards : GuardsNumber (λ port. list_any (in_range port) ranges) old list)
    (p : List ℕ) (cop : Coprocessor) (header : ℕ × ℕ × ℕ) (x : ℕ) (y : Yields p cop header None old 0 x) where
  abbrev load : List Insn
  load = load_index 1 ∷ load_half_behind at ∷ list

  -- the port is there, and the list tests it
  with_port : (port : ℕ) → loaded p Half (header.1 + at) ≡ Some port
      → Yields p cop header None load 0 (if fits_ports (Some ranges) (Some port) then x else 0)
  with_port port is =
      loads_half_behind p cop header list (if fits_ports (Some ranges) (Some port) then x else 0) None at port is
      (guards p cop header port x (forget p cop header (Some port) old 0 x y))

  -- TCP or UDP, or neither
  of_tcp : (z : ℕ) → header.2 ≡ 6 → Yields p cop header None load 0 z
      → Yields p cop header None (ports_front at ++ list) 0 z
  of_tcp z proto at_load =
      loads_protocol p cop header (if_equal 6 2 0 ∷ if_equal 17 1 0 ∷ return_number 0 ∷ load) z None
      (is_equal p cop header (if_equal 17 1 0 ∷ return_number 0 ∷ load) z header.2 6 2 0 (eq-eqb header.2 6 proto)
      (forget p cop header (Some header.2) load 0 z at_load))

  of_udp : (z : ℕ) → header.2 ≡ 17 → Yields p cop header None load 0 z
      → Yields p cop header None (ports_front at ++ list) 0 z
  of_udp z proto at_load =
      loads_protocol p cop header (if_equal 6 2 0 ∷ if_equal 17 1 0 ∷ return_number 0 ∷ load) z None
      (is_unequal p cop header (if_equal 17 1 0 ∷ return_number 0 ∷ load) z header.2 6 2 0 (ap (λ (n : ℕ). n == 6) proto)
      (is_equal p cop header (return_number 0 ∷ load) z header.2 17 1 0 (eq-eqb header.2 17 proto)
      (forget p cop header (Some header.2) load 0 z at_load)))

  of_others : header.2 ≢ 6 → header.2 ≢ 17
      → Yields p cop header None (ports_front at ++ list) 0 0
  of_others not_tcp not_udp =
      loads_protocol p cop header (if_equal 6 2 0 ∷ if_equal 17 1 0 ∷ return_number 0 ∷ load) 0 None
      (is_unequal p cop header (if_equal 17 1 0 ∷ return_number 0 ∷ load) 0 header.2 6 2 0 (ne_eqb header.2 6 not_tcp)
      (is_unequal p cop header (return_number 0 ∷ load) 0 header.2 17 1 0 (ne_eqb header.2 17 not_udp)
      (returns p cop header load 0 (Some header.2) 0)))

module _ (ranges : List (ℕ × ℕ)) (old list : List Insn)
    (guards : GuardsNumber (λ port. list_any (in_range port) ranges) old list)
    (p : List ℕ) (cop : Coprocessor) (header : ℕ × ℕ × ℕ) (x : ℕ) (y : Yields p cop header None old 0 x) where
  -- whatever the packet carries
  ports_yield : (endpoint : Endpoint) (src : Addr) (l4 : L4) → header.1 + least_upper_header l4 ≤ length p
      → HasUpperFields p header.1 l4 → HasProtocol src header.2 l4
      → Yields p cop header None (ports_front (port_place endpoint) ++ list) 0 (if fits_ports (Some ranges) (port_of endpoint l4) then x else 0)
  ports_yield Source src (Tcp sport dport seg mss) room fields proto =
      of_tcp ranges 0 old list guards p cop header x y (if fits_ports (Some ranges) (Some sport) then x else 0) proto
      (with_port ranges 0 old list guards p cop header x y sport
      (port_loaded p Source header.1 sport (Tcp sport dport seg mss) room fields refl))
  ports_yield Source src (Udp sport dport) room fields proto =
      of_udp ranges 0 old list guards p cop header x y (if fits_ports (Some ranges) (Some sport) then x else 0) proto
      (with_port ranges 0 old list guards p cop header x y sport
      (port_loaded p Source header.1 sport (Udp sport dport) room fields refl))
  ports_yield Source src (Icmp kind code echo) room fields proto =
      let apart = others_apart src header.2 (Icmp kind code echo) refl proto in
      of_others ranges 0 old list guards p cop header x y apart.0 apart.1
  ports_yield Source src (Icmp6 kind code echo) room fields proto =
      let apart = others_apart src header.2 (Icmp6 kind code echo) refl proto in
      of_others ranges 0 old list guards p cop header x y apart.0 apart.1
  ports_yield Source src Other room fields proto =
      let apart = others_apart src header.2 Other refl proto in
      of_others ranges 0 old list guards p cop header x y apart.0 apart.1
  ports_yield Destination src (Tcp sport dport seg mss) room fields proto =
      of_tcp ranges 2 old list guards p cop header x y (if fits_ports (Some ranges) (Some dport) then x else 0) proto
      (with_port ranges 2 old list guards p cop header x y dport
      (port_loaded p Destination header.1 dport (Tcp sport dport seg mss) room fields refl))
  ports_yield Destination src (Udp sport dport) room fields proto =
      of_udp ranges 2 old list guards p cop header x y (if fits_ports (Some ranges) (Some dport) then x else 0) proto
      (with_port ranges 2 old list guards p cop header x y dport
      (port_loaded p Destination header.1 dport (Udp sport dport) room fields refl))
  ports_yield Destination src (Icmp kind code echo) room fields proto =
      let apart = others_apart src header.2 (Icmp kind code echo) refl proto in
      of_others ranges 2 old list guards p cop header x y apart.0 apart.1
  ports_yield Destination src (Icmp6 kind code echo) room fields proto =
      let apart = others_apart src header.2 (Icmp6 kind code echo) refl proto in
      of_others ranges 2 old list guards p cop header x y apart.0 apart.1
  ports_yield Destination src Other room fields proto =
      let apart = others_apart src header.2 Other refl proto in
      of_others ranges 2 old list guards p cop header x y apart.0 apart.1

pub ports_guard : (ranges : List (ℕ × ℕ)) (endpoint : Endpoint) (old list new : List Insn)
    → GuardsNumber (λ port. list_any (in_range port) ranges) old list
    → new ≡ ports_front (port_place endpoint) ++ list
    → GuardsPacket (λ tables facts. fits_ports (Some ranges) (port_of endpoint facts.l4)) old new
ports_guard ranges endpoint old list new guards is = λ p cop tables facts seen x y.
    let h : ℕ × ℕ × ℕ = header_words facts in
    subst (λ (code : List Insn). Yields p cop h None code 0 (if fits_ports (Some ranges) (port_of endpoint facts.l4) then x else 0)) (sym is)
    (ports_yield ranges old list guards p cop h x y endpoint facts.src facts.l4 seen.packet.upper_header seen.packet.fields.upper seen.packet.protocol)

-- one more range of a list
pub ranges_more : (ranges : List (ℕ × ℕ)) (left more over : ℕ) (base tail new : List Insn)
    → more ≡ suc left → left < length ranges
    → Extends (1 + 3 * (length ranges - more)) 1 base tail
    → GuardsNumber (λ port. list_any (in_range port) (drop more ranges)) base tail
    → over ≡ length tail - length base
    → new ≡ if_at_least (get_or ranges left (0, 0)).0 0 2 ∷ if_greater (get_or ranges left (0, 0)).1 1 0 ∷ jump over ∷ tail
    → Extends (1 + 3 * (length ranges - left)) 1 base new
    × GuardsNumber (λ port. list_any (in_range port) (drop left ranges)) base new
ranges_more ranges left more over base tail new next within e guards distance is =
    let range : ℕ × ℕ = get_or ranges left (0, 0) in
    let f : Extends 2 2 (jump over ∷ tail) new =
    extended (if_at_least range.0 0 2 ∷ if_greater range.1 1 0 ∷ []) (jump over ∷ tail) new 2 2 is refl refl in (
      member_extended base tail new (1 + 3 * (length ranges - more)) 2 over e distance f _ (omega arith),
      λ p cop header port x y.
          subst (λ (t : Bool). Yields p cop header (Some port) new 0 (if t then x else 0))
          (sym (any_more (in_range port) ranges left more (0, 0) next within))
          (member_guards base tail new (1 + 3 * (length ranges - more)) 2 over e distance f p cop header (Some port)
          (list_any (in_range port) (drop more ranges)) (in_range port range) (guards p cop header port)
          (range_branches range (jump over ∷ tail) new is p cop header port) x y),
    )
