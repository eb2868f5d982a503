-- The answer to a translated packet comes back to the packet's own ends.
use Rattle.std.proofs.Common.{◌≡◌, ℕ, Bool, true, false, cond, Option, Some, None, option_map, ◌⊎◌, inl, inr, refl}
use Rattle.npf_types.specs.declared.{address.Addr.Addr, change.{Change.Change, End.End}, facts.{Facts.Facts, L4.L4}}
use Rattle.npf_types.specs.declared.facts.L4.TheVariants.{Tcp, Udp, Icmp, Icmp6, Other}
use Rattle.npf_key.specs.Port.{source_port, destination_port}
use Rattle.npf_key.specs.Translated.{shares_family, fitting, address_there, named_port, l4_there, l4_about, facts_there, about}
use Rattle.npf_key.proofs.TranslatedLemmas.{written, shares-other}
use Rattle.npf_nat.specs.{Answer.{own_end, answer_change}, Laws.AnswerIsRestored}

-- where a change names an end, the answer's change names the packet's own
own_written : (family own now : Addr) (port : ℕ) (named : End) → shares_family own family ≡ true
    → address_there (fitting family (option_map (own_end own port) (Some named))) now ≡ own
own_written family own now port named h = rw h refl

own_back : (src family own : Addr) (port : ℕ) (named : Option End) → shares_family own family ≡ true
    → address_there (fitting family (option_map (own_end own port) named)) (address_there (fitting src named) own) ≡ own
own_back src family own port None h = refl
own_back src family own port (Some named) h = own_written family own (address_there (fitting src (Some named)) own) port named h

-- a port that the answer's change names, or neither change does
abbrev Restores : Option ℕ → Option ℕ → ℕ → Type 0
Restores back there port = (back ≡ Some port) ⊎ ((back ≡ None) × (there ≡ None))

names_none : (b : Bool) (addr : Addr) → named_port (cond b (Some (record { addr = addr; port = None })) None) ≡ None
names_none true addr = refl
names_none false addr = refl

port_named : (src family own addr : Addr) (port : ℕ) (named : Option ℕ) → shares_family own family ≡ true
    → Restores (named_port (fitting family (option_map (own_end own port) (Some (record { addr = addr; port = named })))))
    (named_port (fitting src (Some (record { addr = addr; port = named })))) port
port_named src family own addr port (Some number) h = inl (rw h refl)
port_named src family own addr port None h = inr (rw h refl, names_none (shares_family addr src) addr)

port_restored : (src family own : Addr) (port : ℕ) (named : Option End) → shares_family own family ≡ true
    → Restores (named_port (fitting family (option_map (own_end own port) named))) (named_port (fitting src named)) port
port_restored src family own port None h = inr (refl, refl)
port_restored src family own port (Some named) h = port_named src family own named.addr port named.port h

both_named : (s d : Option ℕ) (l4 : L4) → l4_there (Some (destination_port l4)) (Some (source_port l4)) (l4_about (l4_there s d l4)) ≡ l4_about l4
both_named s d (Tcp _ _ _ _) = refl
both_named s d (Udp _ _) = refl
both_named s d (Icmp _ _ (Some _)) = refl
both_named s d (Icmp _ _ None) = refl
both_named s d (Icmp6 _ _ (Some _)) = refl
both_named s d (Icmp6 _ _ None) = refl
both_named s d Other = refl

source_named : (s : Option ℕ) (l4 : L4) → l4_there None (Some (source_port l4)) (l4_about (l4_there s None l4)) ≡ l4_about l4
source_named s (Tcp _ _ _ _) = refl
source_named s (Udp _ _) = refl
source_named s (Icmp _ _ (Some _)) = refl
source_named s (Icmp _ _ None) = refl
source_named s (Icmp6 _ _ (Some _)) = refl
source_named s (Icmp6 _ _ None) = refl
source_named s Other = refl

destination_named : (d : Option ℕ) (l4 : L4) → l4_there (Some (destination_port l4)) None (l4_about (l4_there None d l4)) ≡ l4_about l4
destination_named d (Tcp _ _ _ _) = refl
destination_named d (Udp _ _) = refl
destination_named d (Icmp _ _ (Some _)) = refl
destination_named d (Icmp _ _ None) = refl
destination_named d (Icmp6 _ _ (Some _)) = refl
destination_named d (Icmp6 _ _ None) = refl
destination_named d Other = refl

none_named : (l4 : L4) → l4_there None None (l4_about (l4_there None None l4)) ≡ l4_about l4
none_named (Tcp _ _ _ _) = refl
none_named (Udp _ _) = refl
none_named (Icmp _ _ (Some _)) = refl
none_named (Icmp _ _ None) = refl
none_named (Icmp6 _ _ (Some _)) = refl
none_named (Icmp6 _ _ None) = refl
none_named Other = refl

ports_back : (s d back_s back_d : Option ℕ) (l4 : L4) → Restores back_s d (destination_port l4) → Restores back_d s (source_port l4)
    → l4_there back_s back_d (l4_about (l4_there s d l4)) ≡ l4_about l4
ports_back s d back_s back_d l4 (inl e) (inl f) = rw (e, f) (both_named s d l4)
ports_back s d back_s back_d l4 (inr (e, g)) (inl f) = rw (e, g, f) (source_named s l4)
ports_back s d back_s back_d l4 (inl e) (inr (f, g)) = rw (e, f, g) (destination_named d l4)
ports_back s d back_s back_d l4 (inr (e, g)) (inr (f, k)) = rw (e, g, f, k) (none_named l4)

module _ (facts : Facts) (there : Change) (one : shares_family facts.src facts.dst ≡ true) where
  abbrev family : Addr
  family = address_there (fitting facts.src there.dst) facts.dst

  of_source : shares_family facts.src family ≡ true
  of_source = written facts.src facts.dst there.dst one

  of_destination : shares_family facts.dst family ≡ true
  of_destination = shares-other facts.src facts.dst family one of_source

  restored : facts_there (answer_change facts there) (about (facts_there there facts)) ≡ about facts
  restored =
      let src = own_back facts.src family facts.dst (destination_port facts.l4) there.dst of_destination in
      let dst = own_back facts.src family facts.src (source_port facts.l4) there.src of_source in
      let l4 = ports_back (named_port (fitting facts.src there.src)) (named_port (fitting facts.src there.dst))
      (named_port (fitting family (option_map (own_end facts.dst (destination_port facts.l4)) there.dst)))
      (named_port (fitting family (option_map (own_end facts.src (source_port facts.l4)) there.src))) facts.l4
      (port_restored facts.src family facts.dst (destination_port facts.l4) there.dst of_destination)
      (port_restored facts.src family facts.src (source_port facts.l4) there.src of_source) in
      λ i. record facts { src = src i; dst = dst i; l4 = l4 i }

pub answer_restored : AnswerIsRestored
answer_restored facts there one = restored facts there one
