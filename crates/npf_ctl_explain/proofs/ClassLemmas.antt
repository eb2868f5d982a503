-- Which packets a class's rule describes on an interface, in a direction.
use Rattle.std.proofs.Common.{◌≡◌, ◌≢◌, ◌<◌, ◌==◌, ◌^◌, ◌&&◌, ℕ, Bool, true, false, not, length, take, refl, sym, subst, ap, ◌∙◌, arith}
use Rattle.std.proofs.lemmas.{Bool.{and_from, and_parts, eqb-true, ne_eqb}, Cmp.nat_eq_equiv, List.take_all}
use Rattle.npf_types.specs.declared.{direction.{Dir.Dir, Dir.TheVariants.{In, Out}}, facts.Facts.Facts, interface.IfId.IfId}
use Rattle.npf_model.specs.{declared.rule.{OnIf.OnIf, Rule.Rule}, Configuration.Configuration, Describes.{Tables, describes}, Place.{is_dir, is_on}}
use Rattle.npf_reach.specs.Kinds.{IsPacket}
use Rattle.npf_ctl_explain.specs.Class.{IsOfClass, describes_there}

dir_is : (asked way : Dir) → is_dir asked way ≡ true → way ≡ asked
dir_is In In is = refl
dir_is Out Out is = refl
dir_is In Out is = absurd (cc)
dir_is Out In is = absurd (cc)

own_dir : (dir : Dir) → is_dir dir dir ≡ true
own_dir In = refl
own_dir Out = refl

own_number : (n : ℕ) → (n == n) ≡ true
own_number n = nat_eq_equiv.refl n

not_zero : (n : ℕ) → not (n == 0) ≡ true → n ≢ 0
not_zero n some none = let h : not (0 == 0) ≡ true = subst (λ (k : ℕ). not (k == 0) ≡ true) none some in absurd (cc)

known : (n : ℕ) → n ≢ 0 → not (n == 0) ≡ true
known n some = ap not (ne_eqb n 0 some)

module _ (config : Configuration) (class : Rule) (on : OnIf) (dir : Dir) (facts : Facts) where
  pub found_there : (ifid : IfId) (way : Dir) → IsPacket facts ifid → describes_there class on dir config.tables facts ifid way ≡ true
      → IsOfClass config class on.id dir facts
  found_there ifid way packet is =
      let parts = and_parts (is_dir dir way && is_on on ifid) (describes class config.tables facts ifid way) is in
      let place = and_parts (is_dir dir way) (is_on on ifid) parts.0 in
      let number = and_parts (on.id.0 == ifid.0) (not (on.id.0 == 0)) place.1 in
      let same : ifid ≡ on.id = ap (λ (n : ℕ). record { 0 = n }) (sym (eqb-true on.id.0 ifid.0 number.0)) in
      let here = subst (λ (d : Dir). describes class config.tables facts ifid d ≡ true) (dir_is dir way place.0) parts.1 in
      record {
        possible = packet.possible;
        known = not_zero on.id.0 number.1;
        described = subst (λ (i : IfId). describes class config.tables facts i dir ≡ true) same here;
      }

  pub none_there : (on.id.0 < 2 ^ 16) → ((ifid : IfId) (way : Dir) → IsPacket facts ifid → describes_there class on dir config.tables facts ifid way ≡ false)
      → ¬ IsOfClass config class on.id dir facts
  none_there small none of =
      let there : describes_there class on dir config.tables facts on.id dir ≡ true =
      and_from _ _ (and_from _ _ (own_dir dir) (and_from _ _ (own_number on.id.0) (known on.id.0 of.known))) of.described in
      let h = none on.id dir (record { possible = of.possible; interface = small }) in
      absurd (cc)

-- all tables of a configuration are its own
pub all_there : (config : Configuration) (class : Rule) (on : OnIf) (dir : Dir) (tables : Tables) (n : ℕ) → n ≡ length tables → tables ≡ config.tables
    → (facts : Facts) (ifid : IfId) (way : Dir)
    → describes_there class on dir (take n tables) facts ifid way ≡ describes_there class on dir config.tables facts ifid way
all_there config class on dir tables n count are facts ifid way =
    ap (λ (own : Tables). describes_there class on dir own facts ifid way) (take_all n tables (omega arith) ∙ are)
