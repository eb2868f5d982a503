-- What `npt66` plans for a packet: one end, without a port, whose address has the sum of the one that it takes the place of.
use Rattle.std.proofs.{Common.{◌≡◌, ◌≤◌, ℕ, ◌%◌, Bool, true, false, IsTrue, Option, Some, None, refl, sym, ap, ◌∙◌, subst}, lemmas.Bool.{and_parts, eqb-true}}
use Rattle.std.specs.{Option.option_map, Prelude.{if◌then◌else◌, ◌&&◌}}
use Rattle.npf_types.specs.declared.{address.Addr.{Addr, TheVariants.{V4, V6}}, change.Change.Change, direction.Dir.{Dir, TheVariants.{In, Out}}}
use Rattle.npf_types.specs.{declared.{facts.Facts.Facts, prefix.Prefix.Prefix}, Address.{SharesFirst, first_bits, shares_first}, Prefix.has_address}
use Rattle.npf_model.specs.{declared.map.Map.Map, Describes.{destination_of, is_v6, source_of}}
use Rattle.npf_model.specs.MapOf.{comes_inside, fits_map_protocol, fits_segment, fits_side, fits_side_port, goes_outside}
use Rattle.npf_nat.specs.{declared.map_plan.MapPlan.TheVariants.Fixed, Answer.answer_change, FirstPort.drawn_for, Laws.Is128Bits}
use Rattle.npf_nat.specs.MapPlan.{destination_change, fixed, is_neutral, outward, plan, plan_by, source_change, translated_address}
use Rattle.npf_nat.specs.{Npt.{address_number, npt66, npt66_address, npt66_number, translated_v6}, PrefixPair.ArePrefixes}
use Rattle.npf_nat.proofs.NptLemmas.{npt66_neutral, words_sum_is}
use Rattle.npf_nat_law.specs.Neutral.{IsPrefixMap}

-- an address of IPv6 that a map gives for one that lies in its block
pub record IsMoved (addr moved : Addr) : Type 0 where
  pub own : IsTrue (is_v6 addr)
  pub given : IsTrue (is_v6 moved)
  pub same : address_number moved % 65535 ≡ address_number addr % 65535

pub moved_back : (addr moved : Addr) → IsMoved addr moved → IsMoved moved addr
moved_back addr moved m = record { own = m.given; given = m.own; same = sym m.same }

given_v6 : (from n a : ℕ) (to : Addr) → IsTrue (is_v6 to)
    → translated_v6 from to n (V6 a) ≡ V6 (npt66_number from (address_number to) n a)
given_v6 from n a (V6 to) six = refl
given_v6 from n a (V4 to) six = cc

in_block_v6 : (n : ℕ) (block addr : Addr) → IsTrue (is_v6 block) → shares_first n block addr ≡ true
    → (a : ℕ) × ((addr ≡ V6 a) × SharesFirst n block (V6 a))
in_block_v6 n (V6 b) (V6 a) six has = (a, (refl, eqb-true (first_bits 128 n b) (first_bits 128 n a) has))
in_block_v6 n (V6 b) (V4 a) six has = cc
in_block_v6 n (V4 b) addr six has = cc

moves : (from to : Prefix) (addr : Addr) → ArePrefixes from to → Is128Bits to → has_address from addr ≡ true
    → IsMoved addr (npt66_address from to addr)
moves from to addr are fits has =
    let found = in_block_v6 from.len from.addr addr are.from_ipv6 has in
    let a = found.0 in
    let given = given_v6 (address_number from.addr) to.len a to.addr are.to_ipv6 in
    let P : Addr → Type 0 = λ x. IsMoved x (npt66_address from to x) in
    let Q : Addr → Type 0 = λ y. IsMoved (V6 a) y in
    subst P (sym found.1.0) (subst Q (sym given) (record {
      own = refl;
      given = refl;
      same = words_sum_is (npt66 from to a) ∙ npt66_neutral from to a are fits found.1.1 ∙ sym (words_sum_is a);
    }))

turned : (from to : Prefix) → ArePrefixes from to → ArePrefixes to from
turned from to are = record {
  from_ipv6 = are.to_ipv6;
  to_ipv6 = are.from_ipv6;
  one_length = sym are.one_length;
  short = subst (λ (n : ℕ). n ≤ 48) (sym are.one_length) are.short;
}

chosen : {A : Type 0} (b : Bool) (x y : A) → (let o : Option A = if b then Some x else None in o) ≡ Some y
    → (b ≡ true) × (x ≡ y)
chosen true x y h = (refl, cc)
chosen false x y h = cc

-- the change of a packet by such a map
abbrev pub npt66_change : Dir → Map → Facts → Change
npt66_change Out map facts = source_change (npt66_address map.inside.net map.outside.net facts.src) None true
npt66_change In map facts = destination_change (npt66_address map.outside.net map.inside.net facts.dst) None true

planned : (unsaid : ℕ × ℕ) (dir : Dir) (map : Map) (facts : Facts) → IsPrefixMap map
    → plan_by unsaid dir map facts ≡ fixed facts (npt66_change dir map facts)
planned unsaid Out map facts is =
    ap (λ a. outward unsaid map facts (drawn_for a facts.l4)) is.algo
    ∙ ap (λ a. fixed facts (source_change (translated_address a map.inside.net map.outside.net facts.src) None (is_neutral a))) is.algo
planned unsaid In map facts is =
    ap (λ a. fixed facts (destination_change (translated_address a map.outside.net map.inside.net facts.dst)
    (option_map (λ range. range.0) map.inside.ports) (is_neutral a))) is.algo
    ∙ ap (λ p. fixed facts (destination_change (npt66_address map.outside.net map.inside.net facts.dst)
    (option_map (λ range. range.0) p) true)) is.no_ports

same_plan : (facts : Facts) (change there back : Change) → fixed facts change ≡ Fixed there back
    → (change ≡ there) × (answer_change facts change ≡ back)
same_plan facts change there back h = (cc, cc)

-- the address that a map takes, and the one that it gives
abbrev pub taken_end : Dir → Facts → Addr
taken_end Out facts = facts.src
taken_end In facts = facts.dst

abbrev pub given_end : Dir → Map → Facts → Addr
given_end Out map facts = npt66_address map.inside.net map.outside.net facts.src
given_end In map facts = npt66_address map.outside.net map.inside.net facts.dst

moves_by : (dir : Dir) (map : Map) (facts : Facts) → IsPrefixMap map → fits_segment map facts dir ≡ true
    → IsMoved (taken_end dir facts) (given_end dir map facts)
moves_by Out map facts is fits =
    let side = (and_parts (goes_outside map.arrow) (fits_side map.inside facts.src (source_of facts.l4)) fits).1 in
    moves map.inside.net map.outside.net facts.src is.prefixes is.outside
    (and_parts (has_address map.inside.net facts.src) (fits_side_port map.inside.ports (source_of facts.l4)) side).0
moves_by In map facts is fits =
    let side = (and_parts (comes_inside map.arrow) (fits_side map.outside facts.dst (destination_of facts.l4)) fits).1 in
    moves map.outside.net map.inside.net facts.dst (turned map.inside.net map.outside.net is.prefixes) is.inside
    (and_parts (has_address map.outside.net facts.dst) (fits_side_port map.outside.ports (destination_of facts.l4)) side).0

-- what such a map plans
pub record IsPlanned (dir : Dir) (map : Map) (facts : Facts) (there back : Change) : Type 0 where
  pub there_is : npt66_change dir map facts ≡ there
  pub back_is : answer_change facts (npt66_change dir map facts) ≡ back
  pub moved : IsMoved (taken_end dir facts) (given_end dir map facts)

pub is_planned : (unsaid : ℕ × ℕ) (dir : Dir) (map : Map) (facts : Facts) (there back : Change) → IsPrefixMap map
    → plan unsaid map facts dir ≡ Some (Fixed there back) → IsPlanned dir map facts there back
is_planned unsaid dir map facts there back is h =
    let fits = chosen (fits_map_protocol map.proto facts.proto && fits_segment map facts dir) (plan_by unsaid dir map facts)
    (Fixed there back) h in
    let both = same_plan facts (npt66_change dir map facts) there back (sym (planned unsaid dir map facts is) ∙ fits.1) in
    record {
      there_is = both.0;
      back_is = both.1;
      moved = moves_by dir map facts is
          (and_parts (fits_map_protocol map.proto facts.proto) (fits_segment map facts dir) fits.0).1;
    }
