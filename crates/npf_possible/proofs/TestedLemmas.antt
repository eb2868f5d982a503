-- Rules and maps see of a packet what they test.
use Rattle.std.proofs.Common.{◌≡◌, ℕ, ◌+◌, List, [], ◌∷◌, length, Bool, true, false, ◌&&◌, Option, Some, None, refl, sym, ap, ◌∙◌}
use Rattle.std.specs.{Option.option_or, Prelude.{◌==◌, bit_and, if◌then◌else◌}}
use Rattle.npf_types.specs.declared.{decision.Decision.{Decision, TheVariants.{Pass, Block}}, direction.Dir.{Dir, TheVariants.{In, Out}}}
use Rattle.npf_types.specs.declared.{facts.{Facts.Facts, L4.{L4, TheVariants.{Tcp, Udp, Icmp, Icmp6, Other}}}, interface.IfId.IfId}
use Rattle.npf_model.specs.declared.{map.Map.Map, rule.{Rule.Rule, StateOpt.{StateOpt, TheVariants.{Not, OnInterface, Everywhere}}}}
use Rattle.npf_model.specs.Describes.{Tables, describes_packet, destination_of, fits_ends, fits_family, fits_flags, fits_icmp, fits_kept, fits_protocol, is_message, opens_if_tcp}
use Rattle.npf_model.specs.Describes.{shows_flags, source_of}
use Rattle.npf_model.specs.{MapOf.{comes_inside, fits_filter, fits_map_protocol, fits_segment, fits_side, goes_outside}, Place.{fits_dir, fits_on, is_on}}
use Rattle.npf_model.specs.{MapOf.map_applies, Verdict.{PlacedRule, applies, decides, first_where, group_answer, last_where, matches, rules_of, verdict}, declared.group.Group.Group}
use Rattle.npf_possible.specs.{PossibleLaw.{MapPlacesAlike, MapsTestAlike, RulesTestAlike, VerdictsAlike}, Tested.{SameTested, control_bits_of, message_of}}

-- the tests of control bits and of messages, over what they look at
shown : ℕ → ℕ → Option ℕ → Bool
shown wanted mask None = false
shown wanted mask (Some flags) = bit_and flags mask == wanted

shows-shown : (l4 : L4) (wanted mask : ℕ) → shows_flags l4 wanted mask ≡ shown wanted mask (control_bits_of l4)
unfolding shown
shows-shown (Tcp sport dport segment mss_at) wanted mask = refl
shows-shown (Udp sport dport) wanted mask = refl
shows-shown (Icmp kind code echo) wanted mask = refl
shows-shown (Icmp6 kind code echo) wanted mask = refl
shows-shown Other wanted mask = refl

opening : Option ℕ → Bool
opening None = true
opening (Some flags) = bit_and flags 23 == 2

opens-opening : (l4 : L4) → opens_if_tcp l4 ≡ opening (control_bits_of l4)
unfolding opening
opens-opening (Tcp sport dport segment mss_at) = refl
opens-opening (Udp sport dport) = refl
opens-opening (Icmp kind code echo) = refl
opens-opening (Icmp6 kind code echo) = refl
opens-opening Other = refl

asked : ℕ → Option ℕ → Option (ℕ × ℕ) → Bool
asked kind number None = false
asked kind number (Some (told, code)) = is_message kind number told code

icmp-asked : (l4 : L4) (kind : ℕ) (number : Option ℕ) → fits_icmp (Some (kind, number)) l4 ≡ asked kind number (message_of l4)
unfolding asked
icmp-asked (Tcp sport dport segment mss_at) kind number = refl
icmp-asked (Udp sport dport) kind number = refl
icmp-asked (Icmp told code echo) kind number = refl
icmp-asked (Icmp6 told code echo) kind number = refl
icmp-asked Other kind number = refl

module _ (a b : L4) where
  opens-alike : control_bits_of a ≡ control_bits_of b → opens_if_tcp a ≡ opens_if_tcp b
  opens-alike e = opens-opening a ∙ ap opening e ∙ sym (opens-opening b)

  kept-alike : (decision : Decision) (state : StateOpt) → control_bits_of a ≡ control_bits_of b → fits_kept decision state a ≡ fits_kept decision state b
  kept-alike (Block answer) state e = refl
  kept-alike Pass Not e = refl
  kept-alike Pass OnInterface e = opens-alike e
  kept-alike Pass Everywhere e = opens-alike e

  flags-alike : (flags : Option (ℕ × ℕ)) (decision : Decision) (state : StateOpt) → control_bits_of a ≡ control_bits_of b
      → fits_flags flags decision state a ≡ fits_flags flags decision state b
  flags-alike None decision state e = kept-alike decision state e
  flags-alike (Some (wanted, mask)) decision state e = shows-shown a wanted mask ∙ ap (shown wanted mask) e ∙ sym (shows-shown b wanted mask)

  icmp-alike : (icmp : Option (ℕ × Option ℕ)) → message_of a ≡ message_of b → fits_icmp icmp a ≡ fits_icmp icmp b
  icmp-alike None e = refl
  icmp-alike (Some (kind, number)) e = icmp-asked a kind number ∙ ap (asked kind number) e ∙ sym (icmp-asked b kind number)

both : {a b c d : Bool} → a ≡ b → c ≡ d → (a && c) ≡ (b && d)
both {b = b} {c = c} e f = ap (λ x. x && c) e ∙ ap (λ x. b && x) f

module _ (tables : Tables) (one other : Facts) (same : SameTested one other) where
  packet-alike : (rule : Rule) → describes_packet rule tables one ≡ describes_packet rule tables other
  packet-alike rule =
      let family = ap (fits_family rule.v6) same.src in
      let protocol = ap (fits_protocol rule.protos) same.protocol in
      let flags = flags-alike one.l4 other.l4 rule.flags rule.decision rule.state same.control_bits in
      let icmp = icmp-alike one.l4 other.l4 rule.icmp same.message in
      let from = ap (λ addr. fits_ends rule.from tables addr (source_of one.l4)) same.src ∙ ap (fits_ends rule.from tables other.src) same.source in
      let to = ap (λ addr. fits_ends rule.to tables addr (destination_of one.l4)) same.dst ∙ ap (fits_ends rule.to tables other.dst) same.destination in
      both (both (both (both (both family protocol) flags) icmp) from) to

  segment-alike : (map : Map) (dir : Dir) → fits_segment map one dir ≡ fits_segment map other dir
  segment-alike map Out =
      ap (λ b. goes_outside map.arrow && b) (ap (λ addr. fits_side map.inside addr (source_of one.l4)) same.src ∙ ap (fits_side map.inside other.src) same.source)
  segment-alike map In =
      ap (λ b. comes_inside map.arrow && b) (ap (λ addr. fits_side map.outside addr (destination_of one.l4)) same.dst ∙ ap (fits_side map.outside other.dst) same.destination)

  filter-alike : (filter : Option Rule) → fits_filter filter tables one ≡ fits_filter filter tables other
  filter-alike None = refl
  filter-alike (Some rule) = packet-alike rule

pub rules_test_alike : RulesTestAlike
rules_test_alike rule tables one other ifid dir same = ap (λ b. fits_dir rule.dir dir && fits_on rule.on ifid && b) (packet-alike tables one other same rule)

pub maps_test_alike : MapsTestAlike
maps_test_alike map tables one other ifid dir same =
    let protocol = ap (fits_map_protocol map.proto) same.protocol in
    let on : is_on map.on ifid ≡ is_on map.on ifid = refl in
    both (both (both on protocol) (filter-alike tables one other same map.filter)) (segment-alike tables one other same map dir)

-- tests that agree on each element agree on lists
module _ {X : Type 0} (f g : X → Bool) (same : (x : X) → f x ≡ g x) where
  first-alike : (n : ℕ) (xs : List X) → first_where f n xs ≡ first_where g n xs
  first-alike n [] = refl
  first-alike n (x ∷ xs) = rw (same x) (ap (λ rest. if g x then Some n else rest) (first-alike (n + 1) xs))

  last-alike : (n : ℕ) (xs : List X) → last_where f n xs ≡ last_where g n xs
  last-alike n [] = refl
  last-alike n (x ∷ xs) = rw (same x) (ap (λ rest. option_or rest (if g x then Some n else None)) (last-alike (n + 1) xs))

module _ (tables : Tables) (one other : Facts) (ifid : IfId) (dir : Dir) (same : SameTested one other) where
  match-alike : (placed : PlacedRule) → matches tables one ifid dir placed ≡ matches tables other ifid dir placed
  match-alike placed =
      ap (λ b. fits_dir placed.within_dir dir && fits_on placed.within_on ifid && b) (rules_test_alike placed.rule tables one other ifid dir same)

  answer-alike : (n : ℕ) (rules : List PlacedRule) → group_answer tables one ifid dir n rules ≡ group_answer tables other ifid dir n rules
  answer-alike n rules =
      ap (λ first. option_or first (last_where (matches tables one ifid dir) n rules))
      (first-alike (decides tables one ifid dir) (decides tables other ifid dir) (λ placed. ap (λ b. placed.rule.last && b) (match-alike placed)) n rules)
      ∙ ap (option_or (first_where (decides tables other ifid dir) n rules)) (last-alike (matches tables one ifid dir) (matches tables other ifid dir) match-alike n rules)

  verdict-alike : (n : ℕ) (groups : List Group) → verdict tables one ifid dir n groups ≡ verdict tables other ifid dir n groups
  verdict-alike n [] = refl
  verdict-alike n (group ∷ groups) =
      ap (λ answer. option_or (if applies tables one ifid dir group then answer else None) (verdict tables one ifid dir (n + length (rules_of group)) groups))
      (answer-alike n (rules_of group))
      ∙ ap (option_or (if applies tables other ifid dir group then group_answer tables other ifid dir n (rules_of group) else None))
      (verdict-alike (n + length (rules_of group)) groups)

pub verdicts_alike : VerdictsAlike
verdicts_alike config one other ifid dir same = verdict-alike config.tables one other ifid dir same 0 config.model.groups

pub map_places_alike : MapPlacesAlike
map_places_alike config one other ifid dir same =
    first-alike (map_applies config.tables one ifid dir) (map_applies config.tables other ifid dir)
    (λ map. maps_test_alike map config.tables one other ifid dir same) 0 config.model.maps
