-- Each act at the end of a turn keeps the rule, and makes its entry.
use Rattle.std.specs.List.{Contains}
use Rattle.std.proofs.Common.{◌≡◌, ◌≢◌, ℕ, ◌<◌, ◌≤◌, true, Some, None, List, [], ◌∷◌, ◌++◌, cond, eq-eqb, map, set, length, refl, sym, ap, ◌∙◌, subst, ⊎_elim, inl, arith, ◌==◌, false, not}
use mathlib.Core.Option.{some}
use lib.ListN.{get_elem?}
use denote.Bor.{Bor}
use Rattle.atomic_table.{specs.Table.{State, Me, Step, Allows, gives}, proofs.Lists.at_map}
use Rattle.npf_types.specs.declared.key.{Key.Key, Way.Way}
use Rattle.npf_shelf.proofs.ListLemmas.{Contains-filter_parts}
use Rattle.npf_core.specs.declared.act.Act.TheVariants as Acts
use Rattle.npf_core.specs.declared.act.Why.TheVariants as Reasons
use Rattle.npf_core.specs.declared.{conn_id.ConnId.ConnId, entry.Entry.Entry, slot.Slot.Slot, stage.Stage.{Stage, TheVariants.{Vacant, Building, Live, Dead}}}
use Rattle.npf_core.specs.declared.reply.Reply.TheVariants as Replies
use Rattle.npf_core.specs.{Allowed.IsDue, History.{MayFollow, after, state_of}, Machine.{Machine, stage_at, stage_of, IsClaimed, HoldsNone}, Meaning.Meaning}
use Rattle.npf_core.{specs.{NextState.stepped as step_of, Replies.step_answer}, proofs.{EqualityLemmas.same_conn_id, LifeLemmas.IsClaimed-last}}
use Rattle.npf_connections.{specs.{Adding.AddsOwn, Answered.without, Pass.IsPass}, proofs.WithoutLemmas.Contains-without_parts}
use Rattle.npf_cells_words.specs.{declared.layout.{Layout.Layout, Pool.TheVariants.Slots}, Layout.{turn_field, field_at, epoch_word, reader_word, note_field}}
use Rattle.npf_cells_pins.specs.Epochs.{Epochs}
use Rattle.npf_cells_lives.specs.{declared.{pools.PoolSide.PoolSide, turn.Turn.Turn}, Conns.{IsBuiltIn, FitsBuilds}, Deaths.{is_dead, slot_by, Deaths, last_id}}
use Rattle.npf_cells_words.proofs.WordLemmas.{same_note}
use Rattle.npf_cells_lives.specs.{declared.pools.Note.Note, Notes.{note_word, FitsNote}, Pools.claim_bit, Stored.{FitsStored, stored_but}}
use Rattle.npf_cells_lives.{specs.Turns.{Running, running, stage_phase, StaysAt}, proofs.ConnLemmas.one_builder}
use Rattle.npf_cells_lives.proofs.{StoredLemmas.{own_same, stored_kept, fits_but}, NoteLemmas.note_stays, BuiltLemmas.bare_before}
use Rattle.npf_cells_lives.proofs.{TurnLemmas.{phase_stays, running_stays}, DeathLemmas.{dead_stage, gone_dead}, FreedLemmas.{gone_in, by_none, still_there}}
use Rattle.npf_cells_rule.specs.{declared.view.CellView.CellView, Cells.IsCells, Passes.cell_pass, Views.{reader_view, death_side, seat_side}}
use Rattle.npf_cells_rule.proofs.{Frames.epochs_apart, TurnFrames.below}
use Rattle.npf_cells_turns.specs.declared.act.TurnAct.{TurnAct, TheVariants.{Nothing, Start, Step as Steps, Abandoned, Expired, Reclaim}}
use Rattle.npf_cells_turns.specs.EndKinds.{stage_by, BuildsThere, KnowsThere, IsDueThere, MayReclaim, MayAct, MayEndBy, act_entries, without_build, acted, HasActed, TellsEnd, EndsTurn, HasBareNotes}
use Rattle.npf_cells_turns.proofs.ActLemmas.{stepped_idle, stepped_bit, stepped_death, stepped_dead, due_bit, due_settled, due_alive, answer_stays, answer_seen, step_seen, step_runs}
use Rattle.npf_cells_turns.proofs.ActLemmas.{step_phase, ActsOn, starts_on, steps_on, kills_on, still_building, building_in, in_without}
use Rattle.npf_cells_turns.proofs.{DeathEndLemmas.{deaths_stay, deaths_killed, epochs_unloaded}, ReclaimLemmas.{reclaimer, reclaims}, SightKeepLemmas.above}
use Rattle.npf_seats.proofs.PrefixLemmas.{cons_cases}
use Rattle.std.proofs.lemmas.Bool.{cases_eq}
use Rattle.npf_cells_turns.proofs.EndLemmas.{ends_alone, ends_with, adds_act, legal_after}

-- where a Building slot is stepped it stays so
stepped_building : {S A R : Type 0} (m : Meaning S A R) (way : Way) (arg : A) (stage : Stage S) (j : ℕ) → stage ≡ Building j → step_of m way arg stage ≡ stage
stepped_building m way arg stage j e = stepped_idle m way arg stage (ap stage_phase e)

-- what is Live after a step was so before
was_live : {S A R : Type 0} (m : Meaning S A R) (way : Way) (arg : A) (stage : Stage S) → stage_phase (step_of m way arg stage) ≡ 1 → stage_phase stage ≡ 1
was_live m way arg Vacant e = e
was_live m way arg (Building seat) e = e
was_live m way arg (Live flow steps) e = refl
was_live m way arg Dead e = e

module _ {S A R : Type 0} (m : Meaning S A R) (digest : Key → ℕ) (layout : Layout) where
  module _ (s : State (Running S) (CellView S A R)) (kept : IsCells m digest layout s) (id : ℕ) (v : CellView S A R) (turn : Turn S) (at : get_elem? s.views id ≡ some v) (has : v.turn ≡ Some turn)
      (lives : v.seats.lives ≡ true) (settled : v.seats.theirs ≡ []) (seated : 1 ≤ length v.seats.readers) (quiet : turn.ahead ≡ None) where
    abbrev k : Machine S
    k = state_of m kept.log

    abbrev x : Slot S
    x = k.slot turn.slot

    exists : turn.slot < layout.slots
    exists = (kept.turns.each id v turn at has).exists

    -- how often the slot is reclaimed, and what it is at as turns see it
    abbrev gone : ℕ
    gone = gone_in death_side s.views turn.slot

    stays : StaysAt turn.was (slot_by gone x)
    stays = (kept.turns.each id v turn at has).stays

    -- none but a Dead connection is reclaimed
    gone_stage : gone ≢ 0 → x.stage ≡ Dead
    gone_stage some' = dead_stage x.stage (let one = gone_dead death_side layout k s.words s.views turn.slot kept.deaths exists (above gone some') in omega (arith, one))

    ungone : ¬ (x.stage ≡ Dead) → gone ≡ 0
    ungone alive = ⊎_elim (λ none. none) (λ some'. absurd (alive (gone_stage some'))) (cases_eq gone 0)

    -- where none was, turns see the slot as it is
    seen_at : (stage : Stage S) → gone ≡ 0 → (slot_by gone (record x { stage = stage })).stage ≡ stage
    seen_at stage none = ap (λ (y : Slot S). y.stage) (by_none gone (record x { stage = stage }) none)

    -- what is said of kills holds
    given_before : (i : ConnId) (way : Way) → Contains v.pools.kills i → ¬ Contains v.pools.gave_up (record { id = i; way = way }) → HoldsNone k i way → note_word layout s.words i.slot way ≡ 0
    given_before i way c not none = kept.notes.given id v i way at c not none

    given_killed : (conn : ConnId) → conn ≡ last_id k turn.slot → ((way : Way) → HoldsNone k (last_id k turn.slot) way → note_word layout s.words turn.slot way ≡ 0) →
        (i : ConnId) (way : Way) → Contains (conn ∷ v.pools.kills) i →
        ¬ Contains v.pools.gave_up (record { id = i; way = way }) → HoldsNone k i way → note_word layout s.words i.slot way ≡ 0
    given_killed conn last bare i way c not none = ⊎_elim
        (λ (same : conn ≡ i).
        let is : last_id k turn.slot ≡ i = sym last ∙ same in
        ap (λ (y : ConnId). note_word layout s.words y.slot way) (sym is) ∙ bare way (subst (λ (y : ConnId). HoldsNone k y way) (sym is) none))
        (λ (c' : Contains v.pools.kills i). given_before i way c' not none)
        (cons_cases conn i v.pools.kills c)

    mine : FitsBuilds k id v.pools.builds v.pools.unstored
    mine = kept.connections.each id v at

    -- the table after the end of a turn, that leaves this value in the slot, this history, and this side of the pools
    abbrev Ended : TurnAct S A → Type 0
    Ended act = (w : CellView S A R) × IsCells m digest layout (record {
      words = set s.words (field_at layout Slots turn.slot turn_field) 0;
      homes = set s.homes turn.slot (some (running (stage_by m act turn.was.stage)));
      views = set s.views id w;
    }) × TellsEnd m act (v, (turn.slot, running (stage_by m act turn.was.stage)) ∷ []) (w, [])

    abbrev after_words : List ℕ
    after_words = set s.words (field_at layout Slots turn.slot turn_field) 0

    -- the part on epochs stays, where the seat knows of it what it knew
    epochs_still : (w : CellView S A R) → reader_view w ≡ reader_view v → Epochs (epoch_word after_words) (reader_word after_words) (map reader_view (set s.views id w))
    epochs_still w same = epochs_apart m digest layout s (field_at layout Slots turn.slot turn_field) 0 id v w kept at same
        (λ j h. below m digest layout s kept turn.slot turn_field 0 exists (inl refl) j (omega (arith, h)))

    -- a connection that the pass is building is started or killed
    module _ (conn : ConnId) (there : BuildsThere v turn conn) (entry : Entry S A R) (mine' : entry.seat ≡ id) (stage : Stage S) (acts : ActsOn k (after m k entry) turn.slot stage) where
      abbrev side : PoolSide
      side = without_build conn v.pools

      at_conn : (x.inc ≡ conn.inc) × (x.stage ≡ Building id)
      at_conn = building_in k turn.slot conn id (mine.building conn there.built) there.there

      pub built_there : stage_of k conn ≡ Building id
      built_there = mine.building conn there.built

      pub is_claimed : claim_bit x.stage ≡ 1
      is_claimed = ap claim_bit at_conn.1

      -- another that is built in the slot is another's
      others_fit : (j : ℕ) (u : CellView S A R) → j ≢ id → get_elem? s.views j ≡ some u → FitsBuilds (after m k entry) j u.pools.builds u.pools.unstored
      others_fit j u ne e =
          let fits = kept.connections.each j u e in record {
            building = λ i c. still_building k (after m k entry) turn.slot stage acts i j (fits.building i c)
                (λ same. absurd (ne (one_builder x j id (building_in k turn.slot i j (fits.building i c) same).1 at_conn.1)));
            owing = fits.owing;
            once = fits.once;
          }

      still_built : (p : ℕ) → p ≢ conn.slot → IsBuiltIn v.pools.builds p → IsBuiltIn (without conn v.pools.builds) p
      still_built p ne built = record { id = built.id; built = in_without built.id conn v.pools.builds built.built (λ e. ne (sym built.there ∙ ap (λ (i : ConnId). i.slot) e)); there = built.there }

      builds_left : FitsBuilds (after m k entry) id side.builds side.unstored
      builds_left = record {
        building = λ i c.
            let left = Contains-without_parts i conn v.pools.builds c in
            still_building k (after m k entry) turn.slot stage acts i id (mine.building i left.0)
            (λ same. absurd (left.1 (same_conn_id i conn (same ∙ sym there.there, sym (building_in k turn.slot i id (mine.building i left.0) same).0 ∙ at_conn.0))));
        owing = λ p c. still_built p (λ e. there.stored (subst (Contains v.pools.unstored) e c)) (mine.owing p c);
        once = mine.once;
      }

      stored_left : FitsStored layout s.words side
      stored_left =
          let fits = fits_but layout s.words v.pools conn.slot (kept.stored id v at) (without conn v.pools.builds) still_built in
          record {
            own = λ x c. own_same layout (record v.pools {
              builds = without conn v.pools.builds;
              stored = stored_but conn.slot v.pools.stored;
            }) side refl refl x.pool x.place x.field (fits.own x c);
            stands = fits.stands;
          }

      fewer : v.pools.builds ≡ [] → side.builds ≡ []
      fewer none = ap (without conn) none

      notes_left : (note : Note) → Contains side.notes note → FitsNote layout k s.words side.builds note
      notes_left note c =
          let left = Contains-filter_parts (λ x. not (x.slot == conn.slot)) v.pools.notes note c in
          let was = kept.notes.each id v note at left.0 in
          let apart : note.slot ≢ conn.slot = (λ e. absurd (let no : true ≡ false = sym left.1 ∙ ap not (eq-eqb note.slot conn.slot e) in cc)) in
          note_stays layout k k s.words s.words v.pools.builds side.builds note (λ w is. refl) (λ key i w a b d holds. holds)
          (λ i e c'. in_without i conn v.pools.builds c' (λ same. apart (sym e ∙ ap (λ (y : ConnId). y.slot) same))) was

      module _ (value : Running S) (follows : MayFollow m layout.slots k entry) (freeless : (i : ConnId) →
          ¬ (entry.act ≡ Acts.Free i)) (bit : claim_bit stage ≡ 1) (runs : value ≡ running stage) (phase : turn.phase ≡ stage_phase stage)
          (fresh : stage_phase stage ≡ 1 → (way : Way) → HoldsNone k (last_id k turn.slot) way → note_word layout s.words turn.slot way ≡ 0) (kills : List ConnId)
          (given : (i : ConnId) (way : Way) → Contains kills i → ¬ Contains v.pools.gave_up (record { id = i; way = way }) →
          HoldsNone k i way → note_word layout s.words i.slot way ≡ 0) (loaded : ℕ) (scanned behind : List ℕ) where
        abbrev pub builder : CellView S A R
        builder = record v {
          seats = record v.seats { history = kept.log ++ entry ∷ [] };
          epochs = record v.epochs { loaded = loaded; scanned = scanned; behind = behind };
          pools = record side { kills = kills };
          turn = None;
        }

        ungone_here : gone ≡ 0
        ungone_here = ungone (λ dead. absurd (let no : Building id ≡ Dead = sym at_conn.1 ∙ dead in cc))

        seen_runs : value ≡ running (slot_by gone (record x { stage = stage })).stage
        seen_runs = runs ∙ ap running (sym (seen_at stage ungone_here))

        seen_phase : turn.phase ≡ stage_phase (slot_by gone (record x { stage = stage })).stage
        seen_phase = phase ∙ ap stage_phase (sym (seen_at stage ungone_here))

        stored_kills : FitsStored layout s.words (record side { kills = kills })
        stored_kills = stored_kept layout s.words s.words side (record side { kills = kills }) stored_left refl
            (own_same layout side (record side { kills = kills }) refl refl) (λ pool place field own. refl)

        pub built_ends : (1 ≤ loaded → loaded ≡ v.epochs.loaded) → Epochs (epoch_word after_words) (reader_word after_words) (map reader_view (set s.views id builder)) →
            Deaths death_side layout (after m k entry) after_words (set s.views id builder) →
            IsCells m digest layout (record { words = set s.words (field_at layout Slots turn.slot turn_field) 0; homes = set s.homes turn.slot (some value); views = set s.views id builder })
        built_ends = ends_with m digest layout s kept id v turn at has value quiet lives settled seated entry mine' follows freeless stage acts
            (bit ∙ sym is_claimed) seen_runs seen_phase (record side { kills = kills }) refl refl refl refl refl stored_kills builds_left others_fit notes_left fresh given loaded scanned behind

        pub built_acted : (act : TurnAct S A) → AddsOwn (cell_pass v) (kept.log ++ entry ∷ []) (act_entries m (cell_pass v) turn.was.stage act) →
            builder ≡ acted act v (kept.log ++ entry ∷ []) → HasActed m act (v, (turn.slot, value) ∷ []) (builder, [])
        built_acted act adds after' = record {
          turn = turn;
          has = has;
          adds = adds;
          legal = legal_after m digest layout s kept id v turn at has value quiet lives settled seated entry mine' follows freeless stage acts
              (bit ∙ sym is_claimed) seen_runs seen_phase
              (record side { kills = kills }) refl refl refl refl refl stored_kills builds_left others_fit notes_left fresh given loaded scanned behind fewer;
          is = ap (λ (w : CellView S A R). (w, [])) after';
        }

        pub built_adds : AddsOwn (cell_pass v) (kept.log ++ entry ∷ []) (record entry { seat = v.seats.number } ∷ [])
        built_adds = adds_act m digest layout s kept id v turn at has value quiet lives settled seated entry mine' follows freeless stage acts
            (bit ∙ sym is_claimed) seen_runs seen_phase (record side { kills = kills }) refl refl refl refl refl stored_kills builds_left others_fit notes_left fresh given loaded scanned behind

    -- the notes of a connection that holds none of a way are 0, as the pass stored them
    bare_there : (conn : ConnId) → BuildsThere v turn conn → HasBareNotes m v conn → (way : Way) → HoldsNone k (last_id k turn.slot) way → note_word layout s.words turn.slot way ≡ 0
    bare_there conn there notes way none =
        let is = building_in k turn.slot conn id (mine.building conn there.built) there.there in
        let same : conn ≡ last_id k turn.slot = (λ i. record { slot = there.there i; inc = sym is.0 i }) in
        let seat = kept.seats.each id v.seats (at_map seat_side s.views id v at) in
        let bare = bare_before m layout.slots v.seats.history kept.log id conn way kept.connections.legal seat.seen (seat.lives lives).own
        (mine.building conn there.built) (λ key holds. none key (subst (λ (i : ConnId). k.holder key ≡ Some (record { id = i; way = way })) same holds)) in
        let fits = kept.notes.each id v (record { slot = conn.slot; field = note_field way; value = 0 }) at (notes way bare) in
        ap (λ p. note_word layout s.words p way) (sym there.there) ∙ (ap (note_word layout s.words conn.slot) (same_note way fits.way fits.field_is) ∙ fits.stands)

    starts : (conn : ConnId) (n : ℕ) (init : S) → BuildsThere v turn conn → HasBareNotes m v conn → turn.phase ≡ 1 → Ended (Start conn n init)
    starts conn n init there notes phase = (
      builder conn there entry refl (Live init 1) acts value follows (λ i e. absurd cc) refl refl phase fresh v.pools.kills given_before v.epochs.loaded v.epochs.scanned v.epochs.behind,
      built_ends conn there entry refl (Live init 1) acts value follows
          (λ i e. absurd cc) refl refl phase fresh v.pools.kills given_before v.epochs.loaded v.epochs.scanned v.epochs.behind (λ _. refl) (epochs_still starter refl)
          (deaths_stay m digest layout s kept id v at turn.slot exists (after m k entry) (Live init 1) acts (sym (ap is_dead building))
          (λ dead. absurd (let no : Building id ≡ Dead = sym building ∙ dead in cc)) starter refl refl refl),
      built_acted conn there entry refl (Live init 1) acts value follows
          (λ i e. absurd cc) refl refl phase fresh v.pools.kills given_before v.epochs.loaded v.epochs.scanned v.epochs.behind (Start conn n init)
          (built_adds conn there entry refl (Live init 1) acts value follows (λ i e. absurd cc) refl refl phase fresh v.pools.kills given_before v.epochs.loaded v.epochs.scanned v.epochs.behind) refl,
    )
      where
        entry : Entry S A R
        entry = record { seat = id; act = Acts.Start conn n init; reply = Replies.Nothing }

        acts : ActsOn k (after m k entry) turn.slot (Live init 1)
        acts = starts_on m k id conn turn.slot there.there n init

        follows : MayFollow m layout.slots k entry
        follows = record { allowed = mine.building conn there.built; replied = refl }

        value : Running S
        value = running (Live init 1)

        building : x.stage ≡ Building id
        building = (building_in k turn.slot conn id (mine.building conn there.built) there.there).1

        fresh : stage_phase (Live init 1) ≡ 1 → (way : Way) → HoldsNone k (last_id k turn.slot) way → note_word layout s.words turn.slot way ≡ 0
        fresh live way none = bare_there conn there notes way none

        starter : CellView S A R
        starter = builder conn there entry refl (Live init 1) acts value follows (λ i e. absurd cc) refl refl phase fresh v.pools.kills given_before v.epochs.loaded v.epochs.scanned v.epochs.behind

    abandons : (conn : ConnId) → BuildsThere v turn conn → HasBareNotes m v conn → turn.phase ≡ 2 → Ended (Abandoned conn)
    abandons conn there notes phase = (
      builder conn there entry refl Dead acts None follows (λ i e. absurd cc) refl refl phase (λ live way none. absurd cc) (conn ∷ v.pools.kills) killed_given 0 [] [],
      built_ends conn there entry refl Dead acts None follows (λ i e. absurd cc) refl refl phase (λ live way none. absurd cc) (conn ∷
          v.pools.kills) killed_given 0 [] [] (λ some'. absurd (omega (arith, some'))) (epochs_unloaded m digest layout s kept id v at turn.slot exists killer refl refl)
          (deaths_killed m digest layout s kept id v at turn.slot exists (after m k entry) conn acts there.there building.0 (ap is_dead building.1) killer refl refl refl refl refl refl),
      built_acted conn there entry refl Dead acts None follows (λ i e. absurd cc) refl refl phase (λ live way none. absurd cc) (conn ∷ v.pools.kills) killed_given 0 [] [] (Abandoned conn)
          (built_adds conn there entry refl Dead acts None follows (λ i e. absurd cc) refl refl phase (λ live way none. absurd cc) (conn ∷ v.pools.kills) killed_given 0 [] []) refl,
    )
      where
        entry : Entry S A R
        entry = record { seat = id; act = Acts.Kill conn Reasons.Abandoned; reply = Replies.Nothing }

        acts : ActsOn k (after m k entry) turn.slot Dead
        acts = kills_on m k id conn turn.slot there.there Reasons.Abandoned

        follows : MayFollow m layout.slots k entry
        follows = record { allowed = mine.building conn there.built; replied = refl }

        building : (x.inc ≡ conn.inc) × (x.stage ≡ Building id)
        building = building_in k turn.slot conn id (mine.building conn there.built) there.there

        killed_given : (i : ConnId) (way : Way) → Contains (conn ∷ v.pools.kills) i →
            ¬ Contains v.pools.gave_up (record { id = i; way = way }) → HoldsNone k i way → note_word layout s.words i.slot way ≡ 0
        killed_given = given_killed conn (λ i. record { slot = there.there i; inc = sym building.0 i }) (bare_there conn there notes)

        killer : CellView S A R
        killer = builder conn there entry refl Dead acts None follows (λ i e. absurd cc) refl refl phase (λ live way none. absurd cc) (conn ∷ v.pools.kills) killed_given 0 [] []

    -- a connection that isn't Building is stepped or killed
    module _ (entry : Entry S A R) (mine' : entry.seat ≡ id) (stage : Stage S) (acts : ActsOn k (after m k entry) turn.slot stage)
        (leaves : (i : ConnId) (j : ℕ) → stage_of k i ≡ Building j → i.slot ≡ turn.slot → stage ≡ x.stage)
        (value : Running S) (follows : MayFollow m layout.slots k entry) (freeless : (i : ConnId) → ¬ (entry.act ≡ Acts.Free i)) (bit : claim_bit stage ≡ claim_bit x.stage)
        (runs : value ≡ running (slot_by gone (record x { stage = stage })).stage) (phase : turn.phase ≡ stage_phase (slot_by gone (record x { stage = stage })).stage)
        (fresh : stage_phase stage ≡ 1 → (way : Way) → HoldsNone k (last_id k turn.slot) way → note_word layout s.words turn.slot way ≡ 0) (kills : List ConnId)
        (given : (i : ConnId) (way : Way) → Contains kills i → ¬ Contains v.pools.gave_up (record { id = i; way = way }) →
        HoldsNone k i way → note_word layout s.words i.slot way ≡ 0) (loaded : ℕ) (scanned behind : List ℕ) where
      fits_on : (j : ℕ) (builds : List ConnId) (unstored : List ℕ) → FitsBuilds k j builds unstored → FitsBuilds (after m k entry) j builds unstored
      fits_on j builds unstored fits = record {
        building = λ i c. still_building k (after m k entry) turn.slot stage acts i j (fits.building i c) (leaves i j (fits.building i c));
        owing = fits.owing;
        once = fits.once;
      }

      all_on : (j : ℕ) (u : CellView S A R) → j ≢ id → get_elem? s.views j ≡ some u → FitsBuilds (after m k entry) j u.pools.builds u.pools.unstored
      all_on j u ne e = fits_on j u.pools.builds u.pools.unstored (kept.connections.each j u e)

      abbrev pub stepper : CellView S A R
      stepper = record v {
        seats = record v.seats { history = kept.log ++ entry ∷ [] };
        epochs = record v.epochs { loaded = loaded; scanned = scanned; behind = behind };
        pools = record v.pools { kills = kills };
        turn = None;
      }

      stored_on : FitsStored layout s.words (record v.pools { kills = kills })
      stored_on = stored_kept layout s.words s.words v.pools (record v.pools { kills = kills }) (kept.stored id v at) refl
          (own_same layout v.pools (record v.pools { kills = kills }) refl refl) (λ pool place field own. refl)

      pub plain_ends : (1 ≤ loaded → loaded ≡ v.epochs.loaded) → Epochs (epoch_word after_words) (reader_word after_words) (map reader_view (set s.views id stepper)) →
          Deaths death_side layout (after m k entry) after_words (set s.views id stepper) →
          IsCells m digest layout (record { words = set s.words (field_at layout Slots turn.slot turn_field) 0; homes = set s.homes turn.slot (some value); views = set s.views id stepper })
      plain_ends = ends_with m digest layout s kept id v turn at has value quiet lives settled seated entry mine' follows freeless stage acts bit runs phase
          (record v.pools { kills = kills }) refl refl refl refl refl stored_on (fits_on id v.pools.builds v.pools.unstored mine) all_on
          (λ note c. kept.notes.each id v note at c) fresh given loaded scanned behind

      pub plain_adds : AddsOwn (cell_pass v) (kept.log ++ entry ∷ []) (record entry { seat = v.seats.number } ∷ [])
      plain_adds = adds_act m digest layout s kept id v turn at has value quiet lives settled seated entry mine' follows freeless stage acts bit runs phase
          (record v.pools { kills = kills }) refl refl refl refl refl stored_on (fits_on id v.pools.builds v.pools.unstored mine) all_on
          (λ note c. kept.notes.each id v note at c) fresh given loaded scanned behind

      pub plain_legal : IsPass m (cell_pass v) → IsPass m (cell_pass stepper)
      plain_legal = legal_after m digest layout s kept id v turn at has value quiet lives settled seated entry mine' follows freeless stage acts bit runs phase
          (record v.pools { kills = kills }) refl refl refl refl refl stored_on (fits_on id v.pools.builds v.pools.unstored mine) all_on
          (λ note c. kept.notes.each id v note at c) fresh given loaded scanned behind (λ none. none)

    -- the stage of a claimed identity is its slot's
    stage_there : (conn : ConnId) → conn.slot ≡ turn.slot → x.inc ≡ conn.inc → stage_of k conn ≡ x.stage
    stage_there conn there last =
        ap (λ p. stage_at (k.slot p) conn.inc) there ∙ ap (λ b. cond b x.stage Vacant) (eq-eqb x.inc conn.inc last)

    steps : (conn : ConnId) (n : ℕ) (way : Way) (lent : Bor A) → KnowsThere v turn conn → turn.phase ≡ stage_phase (step_of m way lent.now turn.was.stage) → Ended (Steps conn n way lent)
    steps conn n way lent there phase =
        let legal = plain_legal entry refl stage acts leaves value follows (λ i e. absurd cc)
        (stepped_bit m way arg x.stage) runs phased fresh v.pools.kills given_before v.epochs.loaded v.epochs.scanned v.epochs.behind in (
          walker,
          plain_ends entry refl stage acts leaves value follows (λ i e. absurd cc)
              (stepped_bit m way arg x.stage) runs phased fresh v.pools.kills given_before v.epochs.loaded v.epochs.scanned v.epochs.behind (λ _. refl) (epochs_still walker refl)
              (deaths_stay m digest layout s kept id v at turn.slot exists (after m k entry) stage acts (stepped_death m way arg x.stage) (stepped_dead m way arg x.stage) walker refl refl refl),
          record {
            turn = turn;
            has = has;
            adds = plain_adds entry refl stage acts leaves value follows (λ i e. absurd cc)
                (stepped_bit m way arg x.stage) runs phased fresh v.pools.kills given_before v.epochs.loaded v.epochs.scanned v.epochs.behind;
            legal = legal;
            is = refl;
          },
        )
      where
        arg : A
        arg = lent.now

        entry : Entry S A R
        entry = record { seat = id; act = Acts.Step n conn way arg; reply = Replies.ToStep (step_answer m way arg turn.was.stage) }

        stage : Stage S
        stage = step_of m way arg x.stage

        value : Running S
        value = running (step_of m way arg turn.was.stage)

        acts : ActsOn k (after m k entry) turn.slot stage
        acts = steps_on m k id conn turn.slot there.there n way arg

        claimed : IsClaimed (stage_of k conn)
        claimed = ⊎_elim
            (λ (c : Contains v.trie.answered conn). (kept.trie.each id v at).claimed conn c)
            (λ (c : Contains v.pools.builds conn). subst IsClaimed (sym (mine.building conn c)) tt)
            there.known

        last : x.inc ≡ conn.inc
        last = subst (λ p. (k.slot p).inc ≡ conn.inc) there.there (IsClaimed-last (k.slot conn.slot) conn.inc claimed)

        follows : MayFollow m layout.slots k entry
        follows = record {
          allowed = claimed;
          replied = ap (λ r. Replies.ToStep r) (sym (answer_stays m turn.was (slot_by gone x) stays way arg)
              ∙ (answer_seen m gone x gone_stage way arg ∙ ap (step_answer m way arg) (sym (stage_there conn there.there last))));
        }

        leaves : (i : ConnId) (j : ℕ) → stage_of k i ≡ Building j → i.slot ≡ turn.slot → stage ≡ x.stage
        leaves i j built same = stepped_building m way arg x.stage j (building_in k turn.slot i j built same).1

        runs : value ≡ running (slot_by gone (record x { stage = stage })).stage
        runs = sym (step_runs m turn.was (slot_by gone x) stays way arg) ∙ ap running (step_seen m gone x way arg)

        phased : turn.phase ≡ stage_phase (slot_by gone (record x { stage = stage })).stage
        phased = phase ∙ (sym (step_phase m turn.was (slot_by gone x) stays way arg) ∙ ap stage_phase (step_seen m gone x way arg))

        fresh : stage_phase stage ≡ 1 → (w : Way) → HoldsNone k (last_id k turn.slot) w → note_word layout s.words turn.slot w ≡ 0
        fresh live w none = kept.notes.bare turn.slot w (kept.turns.each id v turn at has).exists (was_live m way arg x.stage live) none

        walker : CellView S A R
        walker = stepper entry refl stage acts leaves value follows (λ i e. absurd cc)
            (stepped_bit m way arg x.stage) runs phased fresh v.pools.kills given_before v.epochs.loaded v.epochs.scanned v.epochs.behind

    expires : (conn : ConnId) (now : ℕ) → IsDueThere m turn conn now → turn.phase ≡ 2 → Ended (Expired conn now)
    expires conn now there phase =
        let legal = plain_legal entry refl Dead acts leaves None follows (λ i e. absurd cc) bit runs phased (λ live w none. absurd cc) (conn ∷ v.pools.kills) killed_given 0 [] [] in (
          killer,
          plain_ends entry refl Dead acts leaves None follows (λ i e. absurd cc) bit runs phased (λ live w none. absurd cc) (conn ∷
              v.pools.kills) killed_given 0 [] [] (λ some'. absurd (omega (arith, some'))) (epochs_unloaded m digest layout s kept id v at turn.slot exists killer refl refl)
              (deaths_killed m digest layout s kept id v at turn.slot exists (after m k entry) conn acts there.there
              (ap (λ (y : Slot S). y.inc) same ∙ there.inc) (due_alive m now x.stage due) killer refl refl refl refl refl refl),
          record {
            turn = turn;
            has = has;
            adds = plain_adds entry refl Dead acts leaves None follows (λ i e. absurd cc) bit runs phased (λ live w none. absurd cc) (conn ∷ v.pools.kills) killed_given 0 [] [];
            legal = legal;
            is = refl;
          },
        )
      where
        entry : Entry S A R
        entry = record { seat = id; act = Acts.Kill conn (Reasons.Expired now); reply = Replies.Nothing }

        acts : ActsOn k (after m k entry) turn.slot Dead
        acts = kills_on m k id conn turn.slot there.there (Reasons.Expired now)

        -- it is still as it was
        there_still : (x ≡ turn.was) × (gone ≡ 0)
        there_still = still_there death_side s.views k turn.slot turn.was stays (λ idle. absurd (let no : 1 ≡ 0 = sym (due_settled m now turn.was.stage there.due) ∙ idle in cc))

        same : x ≡ turn.was
        same = there_still.0

        runs : None ≡ running (slot_by gone (record x { stage = Dead })).stage
        runs = ap running (sym (seen_at Dead there_still.1))

        phased : turn.phase ≡ stage_phase (slot_by gone (record x { stage = Dead })).stage
        phased = phase ∙ ap stage_phase (sym (seen_at Dead there_still.1))

        due : IsDue m now x.stage
        due = subst (λ (y : Slot S). IsDue m now y.stage) (sym same) there.due

        killed_given : (i : ConnId) (way : Way) → Contains (conn ∷ v.pools.kills) i →
            ¬ Contains v.pools.gave_up (record { id = i; way = way }) → HoldsNone k i way → note_word layout s.words i.slot way ≡ 0
        killed_given = given_killed conn (λ i. record { slot = there.there i; inc = sym (ap (λ (y : Slot S). y.inc) same ∙ there.inc) i })
            (λ way none. kept.notes.bare turn.slot way exists (due_settled m now x.stage due) none)

        follows : MayFollow m layout.slots k entry
        follows = record { allowed = subst (IsDue m now) (sym (stage_there conn there.there (ap (λ (y : Slot S). y.inc) same ∙ there.inc))) due; replied = refl }

        bit : claim_bit {S = S} Dead ≡ claim_bit x.stage
        bit = sym (due_bit m now x.stage due)

        leaves : (i : ConnId) (j : ℕ) → stage_of k i ≡ Building j → i.slot ≡ turn.slot → Dead ≡ x.stage
        leaves i j built here = absurd (let no : 1 ≡ 0 = sym (due_settled m now x.stage due) ∙ ap stage_phase (building_in k turn.slot i j built here).1 in cc)

        killer : CellView S A R
        killer = stepper entry refl Dead acts leaves None follows (λ i e. absurd cc) bit runs phased (λ live w none. absurd cc) (conn ∷ v.pools.kills) killed_given 0 [] []

    nothing : turn.phase ≡ stage_phase turn.was.stage → Ended Nothing
    nothing phase = (
      record v { turn = None },
      ends_alone m digest layout s kept id v turn at has (running turn.was.stage) quiet seated
          (sym (running_stays turn.was (slot_by gone x) stays)) (phase ∙ sym (phase_stays turn.was (slot_by gone x) stays)),
      refl,
    )

    reclaimed : (conn : ConnId) → MayReclaim v turn conn → turn.phase ≡ 0 → Ended (Reclaim conn)
    reclaimed conn may phase = (reclaimer m digest layout s kept id v turn at has quiet conn may, reclaims m digest layout s kept id v turn at has quiet conn may phase seated, refl)

    pub ends : (act : TurnAct S A) → MayAct m v turn act → turn.phase ≡ stage_phase (stage_by m act turn.was.stage) → Ended act
    ends Nothing may phase = nothing phase
    ends (Start conn n init) may phase = starts conn n init may.0 may.1 phase
    ends (Steps conn n way arg) may phase = steps conn n way arg may phase
    ends (Abandoned conn) may phase = abandons conn may.0 may.1 phase
    ends (Expired conn now) may phase = expires conn now may phase
    ends (Reclaim conn) may phase = reclaimed conn may phase

  pub may_end : (st : Step (Running S)) (id n slot : ℕ) (act : TurnAct S A) (me : Me (Running S) (CellView S A R)) →
      me.0.seats.lives ≡ true → me.0.seats.theirs ≡ [] → 1 ≤ length me.0.seats.readers → MayEndBy m act slot me →
      Allows (IsCells m digest layout) n id me (field_at layout Slots slot turn_field) (λ _. 0) (λ _. EndsTurn m act st me 0)
  may_end st id n slot act me lives settled seated may =
      subst (λ (y : ℕ × List (ℕ × Running S)). Allows (IsCells m digest layout) n id (me.0, y.1) (field_at layout Slots y.0 turn_field)
      (λ _. 0) (λ _. EndsTurn m act st (me.0, y.1) 0)) (λ i. (may.there i, sym may.carries i))
      (λ s kept homes at bound.
      let e = ends s kept id me.0 may.turn at may.has lives settled seated may.settled act may.may may.phase in
      (e.0, gives, tt, e.1, record { tells = e.2 }))
