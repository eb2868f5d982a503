-- The holders of keys stay claimed, as connections and keys change.
use Rattle.std.proofs.{Common.{◌≡◌, ◌≢◌, ℕ, ◌<◌, Bool, List, set, Option, Some, None, arith, refl, sym, ap, ◌∙◌, ⊎_elim}, lemmas.Bool.cases_eq}
use Rattle.npf_types.specs.declared.key.{Key.Key, Way.{Way, TheVariants.{Forward, Backward, Port}}}
use Rattle.npf_core.specs.declared.{conn_id.ConnId.ConnId, found.Found.Found, hold.Holding.Holding}
use Rattle.npf_oneturn_store.specs.declared.{connection.Connection.Connection, phase.SlotPhase.TheVariants.Vacant}
use Rattle.npf_oneturn_store.specs.Connection.{connection_in, phase_at, phase_among, HoldersStand}
use Rattle.npf_oneturn_store.{specs.Places.{standing, holder_among, key_place, way_number, AreKept}, proofs.HomeLemmas.holder_here}
use Rattle.npf_oneturn_store.proofs.ConnectionLemmas.{set_elsewhere, vacant_phase, claimed_within, given_phase, one_claimed}

-- a place tells slot and way
same_way : (a b : Way) → way_number a ≡ way_number b → a ≡ b
same_way Forward Forward e = refl
same_way Backward Backward e = refl
same_way Port Port e = refl
same_way Forward Backward e = absurd (omega (arith, e))
same_way Forward Port e = absurd (omega (arith, e))
same_way Backward Forward e = absurd (omega (arith, e))
same_way Backward Port e = absurd (omega (arith, e))
same_way Port Forward e = absurd (omega (arith, e))
same_way Port Backward e = absurd (omega (arith, e))

few_ways : (way : Way) → way_number way < 3
few_ways Forward = omega arith
few_ways Backward = omega arith
few_ways Port = omega arith

module _ {S : Type 0} (xs : List (Connection S)) (holdings : List (Option Holding)) (stand : HoldersStand xs holdings) where
  -- no identity of a slot that isn't claimed holds a key
  pub unclaimed_bare : (id : ConnId) → (connection_in xs id.slot).phase ≡ Vacant → (way : Way) (key : Key) → holder_among holdings key ≢ Some (record { id = id; way = way })
  unclaimed_bare id vacant way key held = stand key (record { id = id; way = way }) held (vacant_phase xs id vacant)

  -- where slots and keys are as they were
  pub stand_same : (ys : List (Connection S)) (others : List (Option Holding)) → ((s : ℕ) → connection_in ys s ≡ connection_in xs s) →
      ((key : Key) → holder_among others key ≡ holder_among holdings key) → HoldersStand ys others
  stand_same ys others same held key found h = rw (same found.id.slot) (stand key found (sym (held key) ∙ h))

  -- the others of a slot's identities than the claimed one hold none either, so a change of the slot goes by what is claimed now
  changed : (s : ℕ) (x : Connection S) → ((key : Key) (found : Found) → holder_among holdings key ≡ Some found →
      found.id.slot ≡ s → phase_among (set xs s x) found.id ≢ Vacant) → HoldersStand (set xs s x) holdings
  changed s x here key found held = ⊎_elim
      (λ (e : found.id.slot ≡ s). here key found held e)
      (λ (ne : found.id.slot ≢ s). λ vacant. stand key found held (ap (λ (y : Connection S). phase_at y found.id.inc) (sym (set_elsewhere xs s found.id.slot x ne)) ∙ vacant))
      (cases_eq found.id.slot s)

  pub stand_put : (id : ConnId) (x : Connection S) → phase_among xs id ≢ Vacant → x.inc ≡ id.inc → x.phase ≢ Vacant → HoldersStand (set xs id.slot x) holdings
  stand_put id x claimed inc stays = changed id.slot x (λ key found held e vacant.
      let same : found.id ≡ id = one_claimed xs id found.id claimed (stand key found held) e in
      stays (sym (given_phase xs x id (claimed_within xs id claimed) inc) ∙ (ap (phase_among (set xs id.slot x)) (sym same) ∙ vacant)))

  pub stand_claimed : (s : ℕ) (x : Connection S) → (connection_in xs s).phase ≡ Vacant → HoldersStand (set xs s x) holdings
  stand_claimed s x vacant = changed s x (λ key found held e. absurd (stand key found held (vacant_phase xs found.id (ap (λ r. (connection_in xs r).phase) e ∙ vacant))))

  pub stand_freed : (id : ConnId) (x : Connection S) → phase_among xs id ≢ Vacant →
      ((way : Way) (key : Key) → holder_among holdings key ≢ Some (record { id = id; way = way })) → HoldersStand (set xs id.slot x) holdings
  stand_freed id x claimed none = changed id.slot x (λ key found held e.
      let same : found.id ≡ id = one_claimed xs id found.id claimed (stand key found held) e in
      absurd (none found.way key (held ∙ ap (λ other. Some (record { id = other; way = found.way })) same)))

  -- a claimed connection that holds no key of a way has nothing at its place
  pub nothing_there : (buckets : ℕ) (cells : List ℕ) (spilled : List Bool) → AreKept buckets holdings cells spilled → (id : ConnId) (way : Way) → phase_among xs id ≢ Vacant →
      ((key : Key) → holder_among holdings key ≢ Some (record { id = id; way = way })) → standing holdings (key_place (record { id = id; way = way })) ≡ None
  nothing_there buckets cells spilled kept id way claimed none = by_what (standing holdings (key_place (record { id = id; way = way }))) refl
    where
      by_what : (o : Option Holding) → standing holdings (key_place (record { id = id; way = way })) ≡ o → o ≡ None
      by_what None e = refl
      by_what (Some holding) e =
          let home = kept.home (key_place (record { id = id; way = way })) holding e in
          let held = holder_here buckets holdings cells spilled kept (key_place (record { id = id; way = way })) holding e in
          let few = few_ways holding.found.way in
          let few' = few_ways way in
          let slot : holding.found.id.slot ≡ id.slot = omega (arith, home, few, few') in
          let number : way_number holding.found.way ≡ way_number way = omega (arith, home, slot) in
          let same : holding.found.id ≡ id = one_claimed xs id holding.found.id claimed (stand holding.key holding.found held) slot in
          let ways : holding.found.way ≡ way = same_way holding.found.way way number in
          absurd (none holding.key (held ∙ λ i. Some (record { id = same i; way = ways i })))
