-- Slots past the last stay vacant.
use Rattle.std.proofs.Common.{◌≡◌, ℕ, ◌≤◌, ◌<◌, Bool, true, false, cond, eqb, List, [], ◌∷◌, refl, sym, ap, ◌∙◌, subst, ⊎_elim, arith}
use Rattle.std.proofs.lemmas.Bool.Decides.{Decides-eqb}
use Rattle.npf_core.specs.declared.act.{Act.{Act, TheVariants.{Claim, Look, Hold, Start, Step, Kill, Unhold, Free}}, Why.TheVariants.{Abandoned, Expired}}
use Rattle.npf_core.specs.{declared.{conn_id.ConnId.ConnId, entry.Entry.Entry, stage.Stage.TheVariants.{Vacant, Building, Dead}}, Allowed.{Allows, IsDue}}
use Rattle.npf_core.specs.{History.{Legal, LegalFrom, after, state_from, state_of}, Machine.{Machine, opening, stage_of}, Meaning.Meaning}
use Rattle.npf_core.specs.NextState.{changed, is_at, stepped}
use Rattle.npf_seats.proofs.SeatLemmas.{cases_lt}
use Rattle.npf_cells_lives.proofs.DeathLemmas.{dead_at}

-- a connection of a vacant slot is vacant
pub vacant_of : {S : Type 0} (k : Machine S) (id : ConnId) (p : ℕ) → id.slot ≡ p → (k.slot p).stage ≡ Vacant → stage_of k id ≡ Vacant
vacant_of k id p there vacant = by_test (eqb (k.slot id.slot).inc id.inc)
  where
    by_test : (b : Bool) → cond b (k.slot id.slot).stage Vacant ≡ Vacant
    by_test true = ap (λ q. (k.slot q).stage) there ∙ vacant
    by_test false = refl

module _ {S A R : Type 0} (m : Meaning S A R) (slots : ℕ) where
  acts_past : (k : Machine S) (seat : ℕ) (act : Act S A) → Allows m slots k seat act → (p : ℕ) → slots ≤ p → (k.slot p).stage ≡ Vacant →
      (b : Bool) → is_at p act ≡ b → (cond b (changed m seat act (k.slot p)) (k.slot p)).stage ≡ Vacant
  acts_past k seat act allowed p past vacant false is = vacant
  acts_past k seat (Claim packet slot) allowed p past vacant true is = absurd (let here = (Decides-eqb slot p).0 is in let exists = allowed.exists in omega (arith, here, exists, past))
  acts_past k seat (Look packet key) allowed p past vacant true is = vacant
  acts_past k seat (Hold id key way) allowed p past vacant true is = vacant
  acts_past k seat (Start id packet init) allowed p past vacant true is = absurd (let no : Vacant ≡ Building seat = sym (vacant_of k id p ((Decides-eqb id.slot p).0 is) vacant) ∙ allowed in cc)
  acts_past k seat (Step packet id way arg) allowed p past vacant true is = ap (stepped m way arg) vacant
  acts_past k seat (Kill id Abandoned) allowed p past vacant true is = absurd (let no : Vacant ≡ Building seat = sym (vacant_of k id p ((Decides-eqb id.slot p).0 is) vacant) ∙ allowed in cc)
  acts_past k seat (Kill id (Expired now)) allowed p past vacant true is = absurd (subst (IsDue m now) (vacant_of k id p ((Decides-eqb id.slot p).0 is) vacant) allowed)
  acts_past k seat (Unhold id way) allowed p past vacant true is = vacant
  acts_past k seat (Free id) allowed p past vacant true is = refl

  past_vacant : (k : Machine S) (entries : List (Entry S A R)) → LegalFrom m slots k entries → (p : ℕ) → slots ≤ p → (k.slot p).stage ≡ Vacant → ((state_from m k entries).slot p).stage ≡ Vacant
  past_vacant k [] legal p past vacant = vacant
  past_vacant k (e ∷ es) legal p past vacant = past_vacant (after m k e) es legal.1 p past (acts_past k e.seat e.act legal.0.allowed p past vacant (is_at p e.act) refl)

  -- so a Dead connection is of a slot that there is
  pub dead_within : (history : List (Entry S A R)) (id : ConnId) → Legal m slots history → stage_of (state_of m history) id ≡ Dead → id.slot < slots
  dead_within history id legal dead = ⊎_elim
      (λ h. h)
      (λ past. absurd (let no : Vacant ≡ Dead = sym (past_vacant opening history legal id.slot past refl) ∙ (dead_at ((state_of m history).slot id.slot) id.inc dead).1 in cc))
      (cases_lt id.slot slots)
