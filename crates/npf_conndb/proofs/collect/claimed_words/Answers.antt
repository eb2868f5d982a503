use Rattle.std.specs.{Int.bit_at}
use Rattle.std.proofs.Common.{rules, ◌≡◌, ◌≢◌, ◌⊎◌, ◌<◌, ◌/◌, ◌%◌, ℕ, true, false, [], length, get_or, set, replicate, refl, sym, ap, ◌∙◌, ⊎_elim, inl, inr, arith}
use Rattle.std.proofs.lemmas.{Bool.cases_eq, Nat.Bits.bit_at-zero, List.{get_or-set_same, get_or-set_other, get_or-replicate}}
use Rattle.npf_core.specs.{declared.stage.Stage.TheVariants.Vacant, History.state_of}
use Rattle.npf_cells_rule.specs.Passes.{cell_pass}
use Rattle.npf_conndb.specs.Frees.{IsNotedVacant}
use Rattle.npf_conndb.proofs.CollectedLemmas.{collected_none, collected_seen, collected_vacant, sees_none}
use Rattle.npf_conndb.proofs.{PassLemmas.adds_nothing, SeenLemmas.{seen_more, bit_vacant}, SlotVisitLemmas.{visited_none, visited_seen, visited_vacant}}
use Rattle.npf_conndb.proofs.collect.claimed_words.Goals as goal

pub loop-word-init : goal.loop-word-init
loop-word-init g c =
    let m = g.L.Law.meaning in
    let raised = c.raise_epoch-epoch.ensures in
    let old = c.args.pass.now.seat.me in
    let now = c.raise_epoch-epoch.new.pass.seat.me in
    let slots = c.args.cells.now.table.shared.key.slots in
    let none : (p : ℕ) → IsNotedVacant slots (replicate 1024 true) p → ⊥ ⊎ _ =
    λ p h. absurd (let no : true ≡ false = sym (get_or-replicate 1024 (p / 64) true true (let exists = h.exists in let few = c.requires.few in omega (arith, exists, few))) ∙ h.clear in cc) in
    record {
      own = raised.own;
      flags = search rules;
      collected = collected_vacant m c.raise_epoch-epoch.result old (λ p. ⊥) _ now (collected_none m c.raise_epoch-epoch.result old now c.requires.legal c.requires.between
          c.requires.out raised.same raised.out raised.loaded raised.greatest raised.goes raised.most raised.later) none;
      visited = visited_vacant m g.H.KeyHash.digest c.args.cells.now.table.shared.key old.0 (λ p. ⊥) _ now.0 (visited_none m g.H.KeyHash.digest c.args.cells.now.table.shared.key old.0 now.0
          (ap (λ y. y.0) raised.same) (omega (arith, raised.goes, raised.loaded)) (omega (arith, raised.loaded, raised.greatest))) c.requires.between.turnless none;
      none = adds_nothing (cell_pass old.0) now.0.seats.history (ap (λ y. y.0.seats.history) raised.same);
    }

pub loop-word-preserved : goal.loop-word-preserved
loop-word-preserved g c =
    let m = g.L.Law.meaning in
    let digest = g.H.KeyHash.digest in
    let layout = c.args.cells.now.table.shared.key in
    let epoch = c.raise_epoch-epoch.result in
    let old = c.args.pass.now.seat.me in
    let now = c.loop-word.pass.seat.me in
    let seen = c.load_pool-bits.new.pass.seat.me in
    let so = c.loop-word.invariant in
    let word = c.loop-word.word in
    let flags = c.loop-word.claimed in
    let flag = c.has_some.result in
    let Was = IsNotedVacant layout.slots flags in
    let Is = IsNotedVacant layout.slots (set flags word flag) in
    let found = c.load_pool-bits.ensures.slots refl in
    let sees = seen_more m layout word c.load_pool-bits.result now seen found in
    let low : word < length flags = search rules in
    let either : (p : ℕ) → Is p → Was p ⊎ (((state_of m seen.0.seats.history).slot p).stage ≡ Vacant) = λ p h. ⊎_elim
    (λ (same : p / 64 ≡ word).
    let clear : flag ≡ false = sym (get_or-set_same flags word flag true low) ∙ (ap (λ n. get_or (set flags word flag) n true) (sym same) ∙ h.clear) in
    let zero : c.load_pool-bits.result ≡ 0 = c.has_some.ensures clear in
    inr (bit_vacant _ _ (found.claims p h.exists same) (ap (λ w. bit_at w (p % 64)) zero ∙ bit_at-zero (p % 64))))
    (λ (other : p / 64 ≢ word). inl (record { exists = h.exists; clear = sym (get_or-set_other flags word (p / 64) flag true other) ∙ h.clear }))
    (cases_eq (p / 64) word) in
    record {
      own = c.load_pool-bits.ensures.own;
      flags = search rules;
      collected = collected_vacant m epoch old Was Is seen (collected_seen m epoch old Was now seen so.collected so.none sees) either;
      visited = visited_vacant m digest layout old.0 Was Is seen.0 (visited_seen m digest layout old.0 Was now.0 seen.0 so.visited
          (ap (λ y. y.0) sees.is) [] sees.adds) c.requires.between.turnless either;
      none = sees_none m epoch old Was now seen so.collected so.none sees;
    }
