-- Packets that pass alike, and the first of them.
use Rattle.std.proofs.Common.{◌≡◌, ◌≤◌, ℕ, zero, suc, Bool, true, false, cond, List, length, refl, sym, ap, ◌∙◌, arith}
use Rattle.std.specs.{Option.option_map, Prelude.{◌==◌, ◌&&◌, nat_le}}
use Rattle.std.proofs.lemmas.{Bool.Decides.nat_tests, Option.{slice_get_past}}
use Rattle.npf_types.specs.declared.direction.Dir.{Dir, TheVariants.{In, Out}}
use Rattle.npf_model.specs.{declared.iface.Iface.Iface, Place.is_dir}
use Rattle.npf_products.specs.declared.packet.CellPacket.{CellPacket}
use Rattle.npf_witness.specs.WitnessText.{interface_text, name_at, naming_text}
use Rattle.npf_ctl_witnesses.specs.Alike.{run_number, pass_alike}

-- what passing alike says
pub record PassAlike (ifaces : List Iface) (one other : CellPacket) : Type 0 where
  pub interface : run_number ifaces one.ifid.0 ≡ run_number ifaces other.ifid.0
  pub direction : one.dir ≡ other.dir

two_parts : (numbers : Bool) (one other : Dir) → (numbers && is_dir one other) ≡ true → (numbers ≡ true) × (one ≡ other)
two_parts true In In e = (refl, refl)
two_parts true Out Out e = (refl, refl)
two_parts true In Out e = absurd (cc)
two_parts true Out In e = absurd (cc)
two_parts false one other e = absurd (cc)

in_own_direction : (numbers : Bool) (dir : Dir) → numbers ≡ true → (numbers && is_dir dir dir) ≡ true
in_own_direction true In e = refl
in_own_direction true Out e = refl
in_own_direction false dir e = absurd (cc)

module _ (ifaces : List Iface) where
  equal_numbers : (m n : ℕ) → (m == n) ≡ true → m ≡ n
  equal_numbers m n e = grind (arith, nat_tests)

  alike_says : (one other : CellPacket) → pass_alike ifaces one other ≡ true → PassAlike ifaces one other
  alike_says one other e =
      let m = run_number ifaces one.ifid.0 in
      let n = run_number ifaces other.ifid.0 in
      let parts = two_parts (m == n) one.dir other.dir e in
      record { interface = equal_numbers m n parts.0; direction = parts.1 }

  says_alike : (one other : CellPacket) → PassAlike ifaces one other → pass_alike ifaces one other ≡ true
  says_alike one other same =
      let n = run_number ifaces other.ifid.0 in
      let own : (n == n) ≡ true = grind (arith, nat_tests) in
      ap (λ m. (m == n) && is_dir one.dir other.dir) same.interface
      ∙ ap (λ dir. (n == n) && is_dir dir other.dir) same.direction
      ∙ in_own_direction (n == n) other.dir own

  -- packets that pass alike have one name for their interface
  name_within : (number : ℕ) (within : Bool) → nat_le number (length ifaces) ≡ within → name_at ifaces number ≡ name_at ifaces (cond within number 0)
  name_within number true e = refl
  name_within zero false e = refl
  name_within (suc place) false e =
      let past : length ifaces ≤ place = grind (arith, nat_tests) in ap (option_map (λ (iface : Iface). iface.name)) (slice_get_past ifaces place past)

  name_known : (number : ℕ) → name_at ifaces number ≡ name_at ifaces (run_number ifaces number)
  name_known number = name_within number (nat_le number (length ifaces)) refl

  pub same_name : (one other : CellPacket) → pass_alike ifaces one other ≡ true → interface_text ifaces one.ifid ≡ interface_text ifaces other.ifid
  same_name one other e =
      let same = (alike_says one other e).interface in
      ap (naming_text ifaces) (name_known one.ifid.0 ∙ ap (name_at ifaces) same ∙ sym (name_known other.ifid.0))

  pub same_direction : (one other : CellPacket) → pass_alike ifaces one other ≡ true → one.dir ≡ other.dir
  same_direction one other e = (alike_says one other e).direction

  pub own_alike : (one : CellPacket) → pass_alike ifaces one one ≡ true
  own_alike one = says_alike one one (record { interface = refl; direction = refl })

  -- where the third passes as the second, and it as the first does
  pub alike_through : (one other third : CellPacket) → pass_alike ifaces one other ≡ true → pass_alike ifaces third other ≡ true → pass_alike ifaces one third ≡ true
  alike_through one other third e f =
      let first = alike_says one other e in
      let second = alike_says third other f in
      says_alike one third (record { interface = first.interface ∙ sym second.interface; direction = first.direction ∙ sym second.direction })
