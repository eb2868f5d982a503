-- Connections in slots that a pass claimed, and their incarnations.
use Rattle.std.proofs.Common.{◌≡◌, ℕ, ◌+◌, ◌-◌, ◌^◌, ◌<◌, ◌≤◌, [], ◌∷◌, ◌++◌, Bool, true, false, true≢false, cond, eqb, eq-eqb, List, refl, sym, ap, ◌∙◌, subst, arith}
use Rattle.std.{specs.List.Contains, proofs.lemmas.List.Elements.{All-contains, Contains-append_left, Contains-push, filter_passes}}
use Rattle.atomic_table.specs.Table.{Me}
use Rattle.npf_types.specs.declared.key.Way.{Way}
use Rattle.npf_core.specs.declared.{act.Act.TheVariants.Claim, conn_id.ConnId.ConnId, entry.Entry.Entry, reply.Reply.TheVariants.ToClaim}
use Rattle.npf_core.specs.{History.{Legal, state_of}, Machine.HoldsNone, Meaning.Meaning}
use Rattle.npf_connections.{specs.{Entries.entry_of, Pass.IsPass}, proofs.StayLemmas.claimed_holds_none}
use Rattle.npf_cells_words.specs.declared.layout.{Layout.Layout, Pool.TheVariants.Slots}
use Rattle.npf_cells_rule.specs.{declared.view.CellView.CellView, Passes.cell_pass, Views.with_pools}
use Rattle.npf_cells_lives.specs.Conns.{IsBuiltIn}
use Rattle.npf_cells_holds.specs.HoldKinds.{MayHoldSo}
use Rattle.npf_seats.specs.Sums.{others_than}
use Rattle.npf_cells_takes.specs.{PrivateKinds.{ShowsInc, MayStoreInSlot, storing}, SlotKinds.HasClaimed}
use Rattle.npf_pool_beginning.specs.Begins.{HasBegun}

-- what was left out isn't among the others
none_left : (n : ℕ) (xs : List ℕ) → Contains (others_than n xs) n → ⊥
none_left n xs c =
    let test : ℕ → Bool = λ x. cond (eqb x n) false true in
    let passes : test n ≡ true = All-contains (λ x. test x ≡ true) (others_than n xs) n (filter_passes test xs) c in
    absurd (true≢false (sym passes ∙ ap (λ b. cond b false true) (eq-eqb n n refl)))

module _ {S A R F : Type 0} (m : Meaning S A R) (n slot : ℕ) (old now : Me F (CellView S A R)) (has : HasClaimed m n slot old now) where
  -- who claimed a slot is building in it
  builds : Contains now.0.pools.builds has.id
  builds = subst (λ ids. Contains ids has.id) (sym (ap (λ (y : Me F (CellView S A R)). y.0.pools.builds) has.is))
      (Contains-append_left (has.id ∷ []) old.0.pools.builds has.id (Contains-push [] has.id))

  pub claimed_builds : IsBuiltIn now.0.pools.builds slot
  claimed_builds = record { id = has.id; built = builds; there = has.slot_is }

  -- also once it has stored the incarnation
  pub still_builds : (value : ℕ) (stored : Me F (CellView S A R)) → stored ≡ with_pools now (storing Slots slot 1 value now.0.pools) → IsBuiltIn stored.0.pools.builds slot
  still_builds value stored is = subst (λ (y : Me F (CellView S A R)). IsBuiltIn y.0.pools.builds slot) (sym is) claimed_builds

  -- and its connection holds no key
  bare : (way : Way) → HoldsNone (state_of m now.0.seats.history) has.id way
  bare way =
      let end = has.adds.ends [] (entry_of (cell_pass old.0) (Claim n has.id.slot) (ToClaim has.id)) refl in
      let legal : Legal m now.0.seats.about (end.0 ++ entry_of (cell_pass old.0) (Claim n has.id.slot) (ToClaim has.id) ∷ []) =
      subst (λ (h : List (Entry S A R)). Legal m now.0.seats.about h) end.1 has.legal.legal in
      subst (λ (h : List (Entry S A R)). HoldsNone (state_of m h) has.id way) (sym end.1) (claimed_holds_none m now.0.seats.about end.0 _ has.id way legal refl)

module _ {S A R F : Type 0} (m : Meaning S A R) (n slot before : ℕ) (old now : Me F (CellView S A R)) (has : HasClaimed m n slot old now) (shows : ShowsInc now.0.pools slot before) where
  owes : Contains now.0.pools.unstored slot
  owes = subst (λ xs. Contains xs slot) (sym (ap (λ (y : Me F (CellView S A R)). y.0.pools.unstored) has.is))
      (subst (λ p. Contains (has.id.slot ∷ old.0.pools.unstored) p) has.slot_is (Contains-append_left (has.id.slot ∷ []) old.0.pools.unstored has.id.slot (Contains-push [] has.id.slot)))

  next_inc : before + 1 ≡ has.id.inc
  next_inc = shows.before has.id (builds m n slot old now has) has.slot_is owes

  -- there is a next incarnation, which the pass may store
  pub next_fits : before + 1 ≤ 2 ^ 64 - 1
  next_fits = let most = shows.most has.id (builds m n slot old now has) has.slot_is in let next = next_inc in omega (arith, most, next)

  pub may_store : MayStoreInSlot m now.0 slot 1 (before + 1)
  may_store = record {
    id = has.id;
    built = builds m n slot old now has;
    there = has.slot_is;
    turnless = omega arith;
    phaseless = λ e. absurd (omega (arith, e));
    noteless = omega arith;
    inc = λ _. next_inc;
    keyless = λ way _ _. bare m n slot old now has way;
  }

  -- once it is stored, the connection may hold keys
  pub has_begun : (layout : Layout) (found : ℕ) (stored : Me F (CellView S A R)) → slot < layout.slots → stored ≡ with_pools now (storing Slots slot 1 (before + 1) now.0.pools) →
      ShowsInc stored.0.pools slot found → HasBegun m layout stored.0 (record { slot = slot; inc = found })
  has_begun layout found stored exists is after' = record {
    exists = exists;
    may = λ way. subst (λ (id : ConnId). MayHoldSo m stored.0 id way) same (record {
      built = built;
      bare = subst (λ (y : Me F (CellView S A R)). HoldsNone (state_of m y.0.seats.history) has.id way) (sym is) (bare m n slot old now has way);
    });
    stored = unowed;
    legal = subst (λ (y : Me F (CellView S A R)). IsPass m (cell_pass y.0)) (sym is) has.legal;
  }
    where
      built : Contains stored.0.pools.builds has.id
      built = subst (λ (y : Me F (CellView S A R)). Contains y.0.pools.builds has.id) (sym is) (builds m n slot old now has)

      unowed : ¬ Contains stored.0.pools.unstored slot
      unowed c = none_left slot now.0.pools.unstored (subst (λ xs. Contains xs slot) (ap (λ (y : Me F (CellView S A R)). y.0.pools.unstored) is) c)

      stands : found ≡ has.id.inc
      stands = after'.stored has.id built has.slot_is unowed

      same : has.id ≡ record { slot = slot; inc = found }
      same i = record { slot = has.slot_is i; inc = sym stands i }
