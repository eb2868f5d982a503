-- A pass stays one of its table between calls, and shows what it showed but for what a call says.
use Rattle.std.proofs.Common.{◌≡◌, ℕ, ◌≤◌, true, false, true≢false, List, [], ◌∷◌, Option, None, refl, sym, ap, ◌∙◌, subst, arith, append-nil}
use Rattle.std.specs.List.{Contains}
use Rattle.npf_core.specs.{declared.{conn_id.ConnId.ConnId, entry.Entry.Entry, found.Found.Found}, History.IsPrefix, Meaning.Meaning}
use Rattle.npf_paths.specs.declared.place.Lock.{Lock}
use Rattle.npf_connections.specs.{Adding.{Adds, AddsOwn, EndsWith}, Pass.{Pass, IsPass}, Stay.GoesOn}
use Rattle.npf_seats.proofs.PrefixLemmas.{none_listed}
use Rattle.npf_cells_lives.specs.declared.{pools.Note.Note, turn.Turn.Turn}
use Rattle.npf_cells_pins.specs.declared.pin.Pin.{Pin, TheVariants.{Idle, Pinned, Protected}}
use Rattle.npf_cells_rule.specs.{declared.view.CellView.CellView, Passes.{IsProtected, cell_pass, is_pinned}}
use Rattle.npf_cells_turns.specs.EndKinds.{HasBareNotes}
use Rattle.npf_conndb.{specs.Between.IsBetweenCalls, proofs.NoteLemmas.notes_stay}

-- a pass that is in no stay isn't pinned, and one that is, is
pub idle_pin : (pin : Pin) → is_pinned pin ≡ false → pin ≡ Idle
idle_pin Idle e = refl
idle_pin (Pinned epoch) e = absurd (true≢false e)
idle_pin (Protected pinned epoch) e = absurd (true≢false e)

pub stays_pinned : (pin : Pin) → is_pinned pin ≡ true → ¬ (pin ≡ Idle)
stays_pinned pin entered idle = true≢false (sym entered ∙ ap is_pinned idle)

-- how a pass is pinned, and what it has in hand but for what it builds
abbrev pub Hands : Type 0 → Type 0
Hands S = Pin × List Lock × Option (Turn S) × List ℕ × List ℕ × List ConnId × List Found × List ConnId × List ConnId × List ℕ

abbrev pub hands : {S A R : Type 0} → CellView S A R → Hands S
hands v = (v.epochs.pin, v.trie.locks, v.turn, v.pools.nodes, v.pools.unstored, v.pools.kills, v.pools.gave_up, v.pools.reclaims, v.pools.cleared, v.pools.unfreed)

-- it is between calls with what it had between others
pub still_between : {S A R : Type 0} (m : Meaning S A R) (old now : CellView S A R) → hands now ≡ hands old →
    ((id : ConnId) → Contains now.pools.builds id → HasBareNotes m now id) → IsBetweenCalls m old → IsBetweenCalls m now
still_between {S} m old now same noted between = record {
  protected = subst (λ (pin : Pin). is_pinned pin ≡ true → IsProtected pin) (sym (ap (λ (h : Hands S). h.0) same)) between.protected;
  unlocked = ap (λ (h : Hands S). h.1) same ∙ between.unlocked;
  turnless = ap (λ (h : Hands S). h.2) same ∙ between.turnless;
  nodeless = ap (λ (h : Hands S). h.3) same ∙ between.nodeless;
  stored = ap (λ (h : Hands S). h.4) same ∙ between.stored;
  noted = noted;
  let_go = ap (λ (h : Hands S). h.5) same ∙ between.let_go;
  given_up = ap (λ (h : Hands S). h.6) same ∙ between.given_up;
  reclaimed = ap (λ (h : Hands S). h.7) same ∙ between.reclaimed;
  freed = ap (λ (h : Hands S). h.8) same ∙ between.freed;
  returned = ap (λ (h : Hands S). h.9) same ∙ between.returned;
}

-- who builds what it built, and knows the notes that it knew, knows what it did of those that it builds
pub noted_on : {S A R : Type 0} (m : Meaning S A R) (old now : CellView S A R) → IsPass m (cell_pass old) → IsPass m (cell_pass now) →
    IsPrefix old.seats.history now.seats.history → now.pools.builds ≡ old.pools.builds → now.pools.notes ≡ old.pools.notes →
    ((id : ConnId) → Contains old.pools.builds id → HasBareNotes m old id) → (id : ConnId) → Contains now.pools.builds id → HasBareNotes m now id
noted_on m old now was is on builds notes noted id built =
    let before : Contains old.pools.builds id = subst (λ ids. Contains ids id) builds built in
    notes_stay m old now was is on id before built (λ note there c. subst (λ (xs : List Note). Contains xs note) (sym notes) c) (noted id before)

-- and is between calls as it was
pub goes_between : {S A R : Type 0} (m : Meaning S A R) (old now : CellView S A R) → hands now ≡ hands old → now.pools.builds ≡ old.pools.builds →
    now.pools.notes ≡ old.pools.notes → IsPass m (cell_pass old) → IsPass m (cell_pass now) → IsPrefix old.seats.history now.seats.history →
    IsBetweenCalls m old → IsBetweenCalls m now
goes_between m old now same builds notes was is on between = still_between m old now same (noted_on m old now was is on builds notes between.noted) between

-- a pass in no stay that has nothing in hand and builds nothing
pub rests_between : {S A R : Type 0} (m : Meaning S A R) (v : CellView S A R) → hands v ≡ (Idle, [], None, [], [], [], [], [], [], []) → v.pools.builds ≡ [] → IsBetweenCalls m v
rests_between {S} m v same none = record {
  protected = λ entered. absurd (stays_pinned v.epochs.pin entered (ap (λ (h : Hands S). h.0) same));
  unlocked = ap (λ (h : Hands S). h.1) same;
  turnless = ap (λ (h : Hands S). h.2) same;
  nodeless = ap (λ (h : Hands S). h.3) same;
  stored = ap (λ (h : Hands S). h.4) same;
  noted = λ id built. absurd (none_listed id (subst (λ ids. Contains ids id) none built));
  let_go = ap (λ (h : Hands S). h.5) same;
  given_up = ap (λ (h : Hands S). h.6) same;
  reclaimed = ap (λ (h : Hands S). h.7) same;
  freed = ap (λ (h : Hands S). h.8) same;
  returned = ap (λ (h : Hands S). h.9) same;
}

-- the pass went on as wanted, where it shows what was wanted with some history and a later epoch
pub goes_on : {E : Type 0} (wanted new : Pass E) (history : List E) (epoch : ℕ) → new ≡ record wanted { history = history; epoch = epoch } → wanted.epoch ≤ epoch → GoesOn wanted new
goes_on {E} wanted new history epoch is later = record {
  view = is ∙ sym (ap with_its is);
  epoch = (let same : new.epoch ≡ epoch = ap (λ (p : Pass E). p.epoch) is in omega (arith, same, later));
}
  where
    with_its : Pass E → Pass E
    with_its p = record wanted { history = p.history; epoch = p.epoch }

-- and further
pub goes_further : {E : Type 0} (old mid new : Pass E) → GoesOn old mid → GoesOn mid new → GoesOn old new
goes_further {E} old mid new first then = record {
  view = then.view ∙ ap with_new first.view;
  epoch = (let a = first.epoch in let b = then.epoch in omega (arith, a, b));
}
  where
    with_new : Pass E → Pass E
    with_new p = record p { history = new.history; epoch = new.epoch }

-- a call that leaves the history adds nothing to it
pub adds_nothing : {S A R : Type 0} (old : Pass (Entry S A R)) (history : List (Entry S A R)) → history ≡ old.history → Adds old history []
adds_nothing old history same = record { rest = []; goes_on = same ∙ sym (append-nil old.history); own = refl; listed = λ n c. refl }

-- nothing that is added has an end
pub ends_nowhere : {E : Type 0} (history : List E) → EndsWith history []
ends_nowhere history [] last e = absurd cc
ends_nowhere history (x ∷ xs) last e = absurd cc

pub adds_none : {S A R : Type 0} (old : Pass (Entry S A R)) (history : List (Entry S A R)) → Adds old history [] → AddsOwn old history []
adds_none old history adds = record { adds = adds; ends = ends_nowhere history }

-- what goes on begins with what was
pub begins : {S A R : Type 0} (old : Pass (Entry S A R)) (new mine : List (Entry S A R)) → Adds old new mine → IsPrefix old.history new
begins old new mine adds = record { rest = adds.rest; goes_on = adds.goes_on }
