-- A flat rule matches where the rule does that it stands for.
use Rattle.std.proofs.Common.{◌≡◌, ℕ, ◌+◌, Bool, true, false, not, ◌&&◌, List, [], ◌∷◌, Option, Some, None, refl, sym, ap, ◌∙◌, arith, ◌==◌}
use Rattle.std.{specs.{List.AllZip, Prelude.if◌then◌else◌, Option.{option_map, option_or}}, proofs.lemmas.Option.none-some}
use Rattle.npf_model.specs.{declared.group.Group.Group, Describes.describes_packet, Place.{fits_dir, fits_on}}
use Rattle.npf_model.specs.Verdict.{PlacedRule, decides, first_where, group_answer, last_where, matches}
use Rattle.npf_bpfgen.specs.Premise.{AreBytes, IsSeen}
use Rattle.npf_packet.specs.PacketField.{IsPacketOf}
use Rattle.npf_bpf.specs.Value.{program_value}
use Rattle.npf_ruleset.specs.{declared.{flat.FlatRule.FlatRule, packet.PacketView.PacketView}, Binding.is_bound, Flat.IsFlatRule}
use Rattle.npf_ruleset.specs.{Packet.{coprocessor, flat_answer, flat_decides, flat_matches, is_other}, Row.meets_row, Tables.entries}
use Rattle.npf_ruleset.proofs.{BindingLemmas.bound_rule, PlaceLemmas.{first_from, last_from}}

-- the exact tests of the binding and the program decide, since the row holds where the rule describes
combined : (d1 o1 d2 o2 bound row described : Bool) (value : ℕ)
    → bound ≡ (d1 && o1 && d2 && o2) → (described ≡ true → row ≡ true) → value ≡ (if described then 4294967295 else 0)
    → (row && bound && value == 4294967295) ≡ (d1 && o1 && (d2 && o2 && described))
combined d1 o1 d2 o2 bound row true value is holds gives = rw is (rw (holds refl) (rw gives (bools d1 o1 d2 o2)))
  where
    bools : (a b c d : Bool) → (true && (a && b && c && d) && true) ≡ (a && b && (c && d && true))
    bools true true true true = refl
    bools true true true false = refl
    bools true true false d = refl
    bools true false c d = refl
    bools false b c d = refl
combined d1 o1 d2 o2 bound row false value is holds gives = rw is (rw gives (bools d1 o1 d2 o2 row))
  where
    bools : (a b c d r : Bool) → (r && (a && b && c && d) && false) ≡ (a && b && (c && d && false))
    bools true true true true true = refl
    bools true true true true false = refl
    bools true true true false true = refl
    bools true true true false false = refl
    bools true true false d true = refl
    bools true true false d false = refl
    bools true false c d true = refl
    bools true false c d false = refl
    bools false b c d true = refl
    bools false b c d false = refl

module _ (packet : PacketView) (bytes : AreBytes packet.ip.now) (seen : IsPacketOf packet.ip.now packet.facts.now) where
  told : IsSeen packet.ip.now (coprocessor packet) (entries packet.tables.now) packet.facts.now
  told = record {
    bytes = bytes;
    packet = seen;
    told = record { header = refl; source = λ table. refl; destination = λ table. refl };
  }

  module _ (groups : List Group) where
    matches_alike : (placed : PlacedRule) (flat : FlatRule) → IsFlatRule groups placed flat
        → flat_matches packet flat ≡ matches (entries packet.tables.now) packet.facts.now packet.ifid packet.dir placed
    matches_alike placed flat is =
        combined (fits_dir placed.within_dir packet.dir) (fits_on placed.within_on packet.ifid) (fits_dir placed.rule.dir packet.dir) (fits_on placed.rule.on packet.ifid)
        (is_bound flat.binding packet.ifid packet.dir) (meets_row flat.row packet.facts.now)
        (describes_packet placed.rule (entries packet.tables.now) packet.facts.now) (program_value flat.program packet.ip.now (coprocessor packet))
        (bound_rule placed flat.binding is.binding packet.ifid packet.dir) (is.row (entries packet.tables.now) packet.facts.now)
        (is.value packet.ip.now (coprocessor packet) (entries packet.tables.now) packet.facts.now told)

    decides_alike : (placed : PlacedRule) (flat : FlatRule) → IsFlatRule groups placed flat
        → flat_decides packet flat ≡ decides (entries packet.tables.now) packet.facts.now packet.ifid packet.dir placed
    decides_alike placed flat is = rw is.last (ap (λ b. placed.rule.last && b) (matches_alike placed flat is))

    -- tests that agree on related elements find the same places
    module _ (test : FlatRule → Bool) (asked : PlacedRule → Bool) (alike : (placed : PlacedRule) (flat : FlatRule) → IsFlatRule groups placed flat → test flat ≡ asked placed) where
      first_alike : (n : ℕ) (placed : List PlacedRule) (flats : List FlatRule) → AllZip (IsFlatRule groups) placed flats → first_where test n flats ≡ first_where asked n placed
      first_alike n [] [] all = refl
      first_alike n (p ∷ ps) (f ∷ fs) all = rw (alike p f all.0) (ap (λ o. if asked p then Some n else o) (first_alike (n + 1) ps fs all.1))
      first_alike n [] (f ∷ fs) all = absurd all
      first_alike n (p ∷ ps) [] all = absurd all

      last_alike : (n : ℕ) (placed : List PlacedRule) (flats : List FlatRule) → AllZip (IsFlatRule groups) placed flats → last_where test n flats ≡ last_where asked n placed
      last_alike n [] [] all = refl
      last_alike n (p ∷ ps) (f ∷ fs) all = rw (alike p f all.0) (ap (λ o. option_or o (if asked p then Some n else None)) (last_alike (n + 1) ps fs all.1))
      last_alike n [] (f ∷ fs) all = absurd all
      last_alike n (p ∷ ps) [] all = absurd all

    -- a group's answer on its flat rules, counted from where the group begins
    pub answer_alike : (n : ℕ) (placed : List PlacedRule) (flats : List FlatRule) → AllZip (IsFlatRule groups) placed flats
        → group_answer (entries packet.tables.now) packet.facts.now packet.ifid packet.dir n placed ≡ option_map (λ k. n + k) (flat_answer packet flats)
    answer_alike n placed flats all =
        let D = decides (entries packet.tables.now) packet.facts.now packet.ifid packet.dir in
        let M = matches (entries packet.tables.now) packet.facts.now packet.ifid packet.dir in
        let zero_behind : n + 0 ≡ n = omega arith in
        let first : first_where D n placed ≡ option_map (λ k. n + k) (first_where (flat_decides packet) 0 flats) =
        sym (ap (λ k. first_where D k placed) zero_behind) ∙ first_from D n 0 placed ∙ sym (ap (option_map (λ k. n + k)) (first_alike (flat_decides packet) D decides_alike 0 placed flats all)) in
        let last : last_where M n placed ≡ option_map (λ k. n + k) (last_where (flat_matches packet) 0 flats) =
        sym (ap (λ k. last_where M k placed) zero_behind) ∙ last_from M n 0 placed ∙ sym (ap (option_map (λ k. n + k)) (last_alike (flat_matches packet) M matches_alike 0 placed flats all)) in
        rw first (rw last (either n (first_where (flat_decides packet) 0 flats) (last_where (flat_matches packet) 0 flats)))
      where
        either : (n : ℕ) (o q : Option ℕ) → option_or (option_map (λ k. n + k) o) (option_map (λ k. n + k) q) ≡ option_map (λ k. n + k) (option_or o q)
        either n None q = refl
        either n (Some k) q = refl

-- without a match that is `final` the last match is the last of those that aren't
pub last_of_others : (packet : PacketView) (n m : ℕ) (flats : List FlatRule) → first_where (flat_decides packet) n flats ≡ None
    → last_where (is_other packet) m flats ≡ last_where (flat_matches packet) m flats
last_of_others packet n m [] none = refl
last_of_others packet n m (f ∷ fs) none =
    let fails = front_fails (flat_decides packet f) none in
    rw (other (f.last) (flat_matches packet f) fails.0) (ap (λ o. option_or o (if flat_matches packet f then Some m else None)) (last_of_others packet (n + 1) (m + 1) fs fails.1))
  where
    front_fails : (b : Bool) → (if b then Some n else first_where (flat_decides packet) (n + 1) fs) ≡ None → (b ≡ false) × (first_where (flat_decides packet) (n + 1) fs ≡ None)
    front_fails true is = absurd (none-some n (sym is))
    front_fails false is = (refl, is)

    other : (last met : Bool) → (last && met) ≡ false → (not last && met) ≡ met
    other true true is = sym is
    other true false is = refl
    other false met is = refl
