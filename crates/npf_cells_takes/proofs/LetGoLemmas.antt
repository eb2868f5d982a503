-- An epoch in the first note of a connection that the pass killed lets it go.
use Rattle.std.proofs.Common.{◌≡◌, ◌≢◌, ℕ, ◌+◌, ◌-◌, ◌^◌, ◌<◌, ◌≤◌, Some, List, set, length, refl, sym, ap, ◌∙◌, subst, ⊎_elim, inl, inr, arith}
use Rattle.std.proofs.lemmas.Bool.{cases_eq}
use mathlib.Core.Option.{some}
use lib.ListN.{get_elem?}
use Rattle.atomic_table.{specs.Table.{State, Me, stepped, keeps}, proofs.Lists.at_map}
use Rattle.npf_types.specs.declared.key.{Key.Key, Way.TheVariants.Forward}
use Rattle.npf_core.specs.{declared.{conn_id.ConnId.ConnId, stage.Stage.TheVariants.Dead}, History.state_of, Machine.Machine, Meaning.Meaning}
use Rattle.npf_cells_words.specs.{declared.layout.{Layout.Layout, Pool.TheVariants.Slots}, Layout.{notes_field, field_at, epoch_word}}
use Rattle.npf_seats.{specs.Sums.occurs, proofs.SumLemmas.{sum-set, set_there, one_of_sum}}
use Rattle.npf_cells_lives.specs.declared.turn.{Said.Said, Turn.Turn}
use Rattle.npf_cells_lives.specs.Deaths.{IsKeyless, is_dead, has_epoch, first_note, slots_named, killed_in, reclaimed_in, cleared_in, last_id, IsPast, FitsKill, Deaths}
use Rattle.npf_cells_lives.specs.Turns.{Running}
use Rattle.npf_cells_lives.proofs.DeathLemmas.{spares_all, RestsNoMore, KeepsDates, later_dates, epoch_note, past_kept, kill_kept, reclaim_kept, deaths-changed, slot_named}
use Rattle.npf_cells_lives.proofs.FreedLemmas.{gone_in}
use Rattle.npf_cells_rule.specs.{declared.view.CellView.CellView, Cells.IsCells, Views.{seat_side, death_side}}
use Rattle.npf_cells_takes.{specs.PrivateKinds.{MayLetGo, letting_go}, proofs.BareLemmas.still_bare}
use Rattle.npf_cells_takes.proofs.DeadNoteLemmas.{ws, dead_one, same_epoch, note_else, note_here, conn_last, dead_noted}
use Rattle.npf_cells_takes.proofs.HandLemmas.{none_here, as_many, was_elsewhere, given_elsewhere}

module _ {S A R : Type 0} (m : Meaning S A R) (digest : Key → ℕ) (layout : Layout) (s : State (Running S) (CellView S A R)) (id : ℕ)
    (me : Me (Running S) (CellView S A R)) (kept : IsCells m digest layout s) (at : get_elem? s.views id ≡ some me.0)
    (slot value : ℕ) (within : slot < layout.slots) (may : MayLetGo m me.0 slot notes_field value) where
  abbrev k : Machine S
  k = state_of m kept.log

  abbrev w : CellView S A R
  w = record me.0 { pools = letting_go slot (value - 2 ^ 63) me.0.pools }

  abbrev conn : ConnId
  conn = may.id

  killed : FitsKill death_side k (epoch_word s.words) s.views me.0.epochs.loaded conn
  killed = kept.deaths.kills id me.0 conn at may.killed

  bare : IsKeyless k conn
  bare = still_bare m layout.slots conn me.0.seats.history kept.log kept.connections.legal (kept.seats.each id me.0.seats (at_map seat_side s.views id me.0 at)).seen may.bare.dead may.bare.keyless

  abbrev words' : List ℕ
  words' = ws m digest layout s id me kept at slot value within conn may.there killed.dead bare

  less : RestsNoMore k (death_side me.0) (death_side w)
  less = record { rests = λ i dead none rests. (rests, refl) }

  goes : epoch_word s.words ≤ epoch_word words'
  goes = same_epoch m digest layout s id me kept at slot value within conn may.there killed.dead bare

  else' : (p : ℕ) → p ≢ slot → first_note layout words' p ≡ first_note layout s.words p
  else' p ne = note_else m digest layout s id me kept at slot value within conn may.there killed.dead bare p ne

  here : (p : ℕ) → p ≡ slot → first_note layout words' p ≡ 2 ^ 63 + me.0.epochs.loaded
  here p e = note_here m digest layout s id me kept at slot value within conn may.there killed.dead bare p e ∙ may.epoch

  -- the note had no epoch, since the pass had the connection
  listed : 1 ≤ occurs slot (slots_named me.0.pools.kills)
  listed = subst (λ q. 1 ≤ occurs q (slots_named me.0.pools.kills)) may.there (slot_named conn me.0.pools.kills may.killed)

  unmarked : has_epoch (first_note layout s.words slot) ≡ 0
  unmarked =
      let mine = one_of_sum (λ (u : CellView S A R). occurs slot (slots_named u.pools.kills)) s.views id me.0 at in
      let was = kept.deaths.counted slot within in
      let once = dead_one m digest layout s id me kept at slot value within conn may.there killed.dead bare slot refl in
      let has = listed in
      omega (arith, mine, was, once, has)

  killed_after : (p : ℕ) → killed_in death_side (set s.views id w) p + occurs p (slots_named me.0.pools.kills) ≡ killed_in death_side s.views p + occurs p (slots_named w.pools.kills)
  killed_after p = sum-set (λ (u : CellView S A R). occurs p (slots_named u.pools.kills)) s.views id me.0 w at

  counted : (p : ℕ) → p < layout.slots → killed_in death_side (set s.views id w) p + has_epoch (first_note layout words' p) + cleared_in death_side s.views p ≡ is_dead (k.slot p).stage
  counted p h =
      let sums = killed_after p in
      let was = kept.deaths.counted p h in
      ⊎_elim
      (λ (e : p ≡ slot).
      let mine = one_of_sum (λ (u : CellView S A R). occurs p (slots_named u.pools.kills)) s.views id me.0 at in
      let once = dead_one m digest layout s id me kept at slot value within conn may.there killed.dead bare p e in
      let none = none_here slot p me.0.pools.kills e in
      let has = subst (λ q. 1 ≤ occurs q (slots_named me.0.pools.kills)) (sym e) listed in
      let epoch : has_epoch (first_note layout words' p) ≡ 1 = ap has_epoch (here p e) ∙ epoch_note me.0.epochs.loaded in
      omega (arith, sums, was, mine, once, none, has, epoch))
      (λ (ne : p ≢ slot).
      let same = as_many slot p me.0.pools.kills ne in
      let note = ap has_epoch (else' p ne) in
      omega (arith, sums, was, same, note))
      (cases_eq p slot)

  reclaimed : (p : ℕ) → p < layout.slots → reclaimed_in death_side s.views p ≤ has_epoch (first_note layout words' p)
  reclaimed p h =
      let was = kept.deaths.reclaimed p h in
      ⊎_elim
      (λ (e : p ≡ slot). let none : has_epoch (first_note layout s.words p) ≡ 0 = ap (λ q. has_epoch (first_note layout s.words q)) e ∙ unmarked in omega (arith, was, none))
      (λ (ne : p ≢ slot). let note = ap has_epoch (else' p ne) in omega (arith, was, note))
      (cases_eq p slot)

  -- it reclaims nothing
  reclaimed_after : (p : ℕ) → reclaimed_in death_side (set s.views id w) p ≡ reclaimed_in death_side s.views p
  reclaimed_after p = let sums = sum-set (λ (u : CellView S A R). occurs p (slots_named u.pools.reclaims)) s.views id me.0 w at in omega (arith, sums)

  cleared_after : (p : ℕ) → cleared_in death_side (set s.views id w) p ≡ cleared_in death_side s.views p
  cleared_after p = let sums = sum-set (λ (u : CellView S A R). occurs p (slots_named u.pools.cleared)) s.views id me.0 w at in omega (arith, sums)

  gone_same : (p : ℕ) → gone_in death_side (set s.views id w) p ≡ gone_in death_side s.views p
  gone_same p = let one = reclaimed_after p in let two = cleared_after p in omega (arith, one, two)

  -- the pass let it go with an epoch that the table reached
  now_dated : KeepsDates death_side (epoch_word words') s.views (set s.views id w) w
  now_dated = later_dates death_side (epoch_word words') s.views id me.0 w at (omega arith)
      (let was = kept.deaths.dates id me.0 at in let late = (killed.past may.loaded bare).reached in let on = goes in let is = may.epoch in omega (arith, was, late, on, is))

  deaths_after : Deaths death_side layout k words' (set s.views id w)
  deaths_after = deaths-changed death_side layout k k s.words words' s.views id me.0 w kept.deaths at (spares_all k) goes less
      (λ p h. (let same = cleared_after p in let all = counted p h in omega (arith, same, all)))
      (λ p h. (let same = reclaimed_after p in let all = reclaimed p h in omega (arith, same, all)))
      (λ i c. kill_kept death_side layout k k s.words words' s.views id me.0 w kept.deaths at (spares_all k) goes less me.0.epochs.loaded i
      (kept.deaths.kills id me.0 i at (was_elsewhere slot me.0.pools.kills i c).0))
      (λ i c. reclaim_kept death_side layout k k s.words words' s.views id me.0 w kept.deaths at (spares_all k) goes less i (kept.deaths.reclaims id me.0 i at c))
      (λ p epoch h is. ⊎_elim
      (λ (e : p ≡ slot).
      let exact : me.0.epochs.loaded ≡ epoch = (let now = here p e in omega (arith, now, is)) in
      let same : conn ≡ last_id k p = conn_last m digest layout s id me kept at slot value within conn may.there killed.dead bare ∙ ap (last_id k) (sym e) in
      inr (
        record {
          keyless = subst (IsKeyless k) same bare;
          past = subst (λ (y : ConnId × ℕ). IsPast death_side (epoch_word words') (set s.views id w) y.0 y.1) (λ i. (same i, exact i))
              (past_kept death_side layout k k s.words words' s.views id me.0 w kept.deaths at (spares_all k) goes less conn me.0.epochs.loaded killed.dead bare (killed.past may.loaded bare));
        },
        record { seat = id; view = w; there = set_there s.views id me.0 w at; since = (let value' = may.epoch in omega (arith, exact, value')) },
      ))
      (λ ne. inl (sym (else' p ne) ∙ is))
      (cases_eq p slot))
      now_dated

  -- nobody has killed the slot's connection then, and nobody was told of an epoch there
  nobodys : killed_in death_side (set s.views id w) slot ≡ 0
  nobodys =
      let now = counted slot within in
      let once = dead_one m digest layout s id me kept at slot value within conn may.there killed.dead bare slot refl in
      let epoch : has_epoch (first_note layout words' slot) ≡ 1 = ap has_epoch (here slot refl) ∙ epoch_note me.0.epochs.loaded in
      omega (arith, now, once, epoch)

  untold : (j : ℕ) (u : CellView S A R) (turn : Turn S) (said : Said) → get_elem? s.views j ≡ some u → u.turn ≡ Some turn → turn.slot ≡ slot →
      turn.was.stage ≡ Dead → turn.said ≡ Some said → has_epoch said.value ≡ 1 → said.field ≡ notes_field → ⊥
  untold j u turn said e has there dead is epoch field =
      let stands = kept.notes.said j u turn said Forward e has is (inr (dead, epoch)) field in
      let one : has_epoch (first_note layout s.words slot) ≡ 1 = ap (λ p. has_epoch (first_note layout s.words p)) (sym there) ∙ (ap has_epoch stands ∙ epoch) in
      let none = unmarked in
      omega (arith, one, none)

  pub lets_go : 1 ≤ length me.0.seats.readers → IsCells m digest layout (stepped s (field_at layout Slots slot notes_field) value id me.1 w keeps)
  lets_go seated = dead_noted m digest layout s id me kept at slot value within conn may.there killed.dead bare w.pools refl refl refl refl refl refl
      (λ i c. (was_elsewhere slot me.0.pools.kills i c).0) (λ g c ne. given_elsewhere slot me.0.pools.gave_up g c ne) gone_same nobodys untold seated deaths_after
