-- The part on deaths stays through steps that spare the dead, and lets a pass kill and let go.
use Rattle.std.specs.List.{Contains}
use Rattle.std.proofs.Common.{◌≡◌, ◌≢◌, ◌⊎◌, ℕ, ◌+◌, ◌^◌, ◌<◌, ◌≤◌, Bool, true, false, cond, eqb, eq-eqb, List, [], ◌∷◌, ◌++◌, set, sum_by, refl, sym, ap, ◌∙◌, subst, ⊎_elim, inl, inr, arith}
use Rattle.std.proofs.lemmas.{Bool.{cases_eq, Decides.Decides-eqb}, List.{Sums.sum_by_push, get_or-map, length-map}}
use mathlib.Core.Option.{some, some-injective}
use lib.ListN.{get_elem?}
use Rattle.atomic_table.proofs.Lists.{at_longer, at_set, at_snoc, set_else}
use Rattle.npf_types.specs.declared.key.{Key.Key, Way.Way}
use Rattle.npf_core.specs.declared.{conn_id.ConnId.ConnId, slot.Slot.Slot, stage.Stage.{Stage, TheVariants.{Vacant, Building, Live, Dead}}}
use Rattle.npf_core.specs.{declared.{act.Act.TheVariants.Free, entry.Entry.Entry}, History.{MayFollow, after}, Machine.{Machine, stage_at, stage_of, Holds}}
use Rattle.npf_core.specs.Meaning.{Meaning}
use Rattle.npf_core.proofs.LifeLemmas.{Life, stage_in, stage_of-is, Moves, keeps, claims, starts, steps, abandons, expires, frees as is_freed, entry_moves}
use Rattle.npf_seats.{proofs.{ListLemmas.stands_once, PrefixLemmas.none_listed, SumLemmas.{sum-set, set_there}}, specs.Sums.occurs}
use Rattle.npf_cells_words.specs.{declared.layout.Layout.Layout, Layout.epoch_word}
use Rattle.npf_cells_lives.specs.Deaths.{DeathSide, Rests, IsProtectedBy, IsKeyless, is_dead, first_note, has_epoch, slots_named, killed_in, reclaimed_in}
use Rattle.npf_cells_lives.specs.Deaths.{cleared_in, last_id, IsPast, FitsKill, IsLeft, IsDated, FitsReclaim, Deaths}

-- the number says whether a stage is Dead
pub dead_stage : {S : Type 0} (stage : Stage S) → 1 ≤ is_dead stage → stage ≡ Dead
dead_stage Vacant h = absurd (omega (arith, h))
dead_stage (Building seat) h = absurd (omega (arith, h))
dead_stage (Live flow count) h = absurd (omega (arith, h))
dead_stage Dead h = refl

dead_once : {S : Type 0} (stage : Stage S) → is_dead stage ≤ 1
dead_once Vacant = omega arith
dead_once (Building seat) = omega arith
dead_once (Live flow count) = omega arith
dead_once Dead = omega arith

-- a note with an epoch has one
pub epoch_note : (epoch : ℕ) → has_epoch (2 ^ 63 + epoch) ≡ 1
epoch_note epoch = grind arith

pub low_note : (note : ℕ) → note < 2 ^ 63 → has_epoch note ≡ 0
low_note note h = grind (arith, h)

-- a connection that is Dead is the last of its slot
pub dead_at : {S : Type 0} (x : Slot S) (inc : ℕ) → stage_at x inc ≡ Dead → (x.inc ≡ inc) × (x.stage ≡ Dead)
dead_at x inc e = by_test (eqb x.inc inc) refl e
  where
    by_test : (b : Bool) → eqb x.inc inc ≡ b → cond b x.stage Vacant ≡ Dead → (x.inc ≡ inc) × (x.stage ≡ Dead)
    by_test true t e = ((Decides-eqb x.inc inc).0 t, e)
    by_test false t e = absurd cc

pub last_stage : {S : Type 0} (k : Machine S) (slot : ℕ) → stage_of k (last_id k slot) ≡ (k.slot slot).stage
last_stage k slot = ap (λ b. cond b (k.slot slot).stage Vacant) (eq-eqb (k.slot slot).inc (k.slot slot).inc refl)

-- what a step spares: the dead stay, and neither gain keys nor lose them
pub record Spares {S : Type 0} (k k' : Machine S) : Type 0 where
  pub slots : (slot : ℕ) → (k.slot slot).stage ≡ Dead → k'.slot slot ≡ k.slot slot
  pub held : (id : ConnId) → stage_of k id ≡ Dead → (way : Way) (key : Key) → Holds k id way key → Holds k' id way key
  pub back : (id : ConnId) → stage_of k id ≡ Dead → (way : Way) (key : Key) → Holds k' id way key → Holds k id way key

pub gains : {S : Type 0} {k k' : Machine S} → Spares k k' → (id : ConnId) → stage_of k id ≡ Dead → IsKeyless k id → IsKeyless k' id
gains spares id dead bare way key held = bare way key (spares.back id dead way key held)

pub loses : {S : Type 0} {k k' : Machine S} → Spares k k' → (id : ConnId) → stage_of k id ≡ Dead → IsKeyless k' id → IsKeyless k id
loses spares id dead bare way key held = bare way key (spares.held id dead way key held)

pub spares_all : {S : Type 0} (k : Machine S) → Spares k k
spares_all k = record { slots = λ slot e. refl; held = λ id e way key h. h; back = λ id e way key h. h }

-- as one does that leaves the holders
pub spares_held : {S : Type 0} (k k' : Machine S) → ((key : Key) → k'.holder key ≡ k.holder key) → ((slot : ℕ) → (k.slot slot).stage ≡ Dead → k'.slot slot ≡ k.slot slot) → Spares k k'
spares_held k k' same slots = record {
  slots = slots;
  held = λ id e way key held. same key ∙ held;
  back = λ id e way key held. sym (same key) ∙ held;
}

module _ {S : Type 0} (k k' : Machine S) (spares : Spares k k') where
  -- who is Dead stays so
  pub stays_dead : (id : ConnId) → stage_of k id ≡ Dead → stage_of k' id ≡ Dead
  stays_dead id e = ap (λ (x : Slot S). stage_at x id.inc) (spares.slots id.slot (dead_at (k.slot id.slot) id.inc e).1) ∙ e

-- an entry that frees nobody leaves the dead
dead_moves : {S A R : Type 0} (m : Meaning S A R) (entry : Entry S A R) (id : ConnId) (x y : Life S) →
    Moves m entry.seat entry.act entry.reply id x y → ¬ (entry.act ≡ Free id) → stage_in x ≡ Dead → stage_in y ≡ Dead
dead_moves m entry id _ _ (keeps silent) free e = e
dead_moves m entry id _ _ (claims packet act reply) free e = absurd cc
dead_moves m entry id _ _ (starts packet init act answer) free e = absurd cc
dead_moves m entry id _ _ (steps packet way arg flow n act reply) free e = absurd cc
dead_moves m entry id _ _ (abandons act answer) free e = refl
dead_moves m entry id _ _ (expires now flow n act answer due) free e = refl
dead_moves m entry id _ _ (is_freed act answer) free e = absurd (free act)

pub dead_by : {S A R : Type 0} (m : Meaning S A R) (slots : ℕ) (k : Machine S) (entry : Entry S A R) (id : ConnId) →
    MayFollow m slots k entry → ¬ (entry.act ≡ Free id) → stage_of k id ≡ Dead → stage_of (after m k entry) id ≡ Dead
dead_by m slots k entry id follows free e = rw stage_of-is (dead_moves m entry id _ _ (entry_moves m slots k entry id follows) free (sym (stage_of-is k id) ∙ e))

-- what a step does to what one seat rests on: nothing is new that is Dead and without keys, and its protection stays while it rests on such
pub record RestsNoMore {S : Type 0} (k : Machine S) (v w : DeathSide) : Type 0 where
  pub rests : (id : ConnId) → stage_of k id ≡ Dead → IsKeyless k id → Rests w id → Rests v id × (w.protecting ≡ v.protecting)

-- a seat's last epoch is one that the table reached, and no connection was let go with a later one than some seat's
pub record KeepsDates {V : Type 0} (side_of : V → DeathSide) (now : ℕ) (views views' : List V) (w : V) : Type 0 where
  pub within : (side_of w).dated ≤ now
  pub still : (epoch : ℕ) → IsDated side_of views epoch → IsDated side_of views' epoch

-- as where it let no connection go with an earlier epoch
pub later_dates : {V : Type 0} (side_of : V → DeathSide) (now : ℕ) (views : List V) (i : ℕ) (v w : V) → get_elem? views i ≡ some v →
    (side_of v).dated ≤ (side_of w).dated → (side_of w).dated ≤ now → KeepsDates side_of now views (set views i w) w
later_dates side_of now views i v w at more within = record {
  within = within;
  still = λ epoch dated. ⊎_elim
      (λ (same : dated.seat ≡ i).
      let was = dated.since in
      let mine = ap (λ y. (side_of y).dated) (some-injective dated.view v (sym dated.there ∙ (ap (get_elem? views) same ∙ at))) in
      record { seat = i; view = w; there = set_there views i v w at; since = omega (arith, was, mine, more) })
      (λ (ne : dated.seat ≢ i). record { seat = dated.seat; view = dated.view; there = set_else views i dated.seat w ne ∙ dated.there; since = dated.since })
      (cases_eq dated.seat i);
}

module _ {S V : Type 0} (side_of : V → DeathSide) (layout : Layout) where
  -- and where it let none go
  pub same_dates : (k : Machine S) (words words' : List ℕ) (views : List V) (i : ℕ) (v w : V) → Deaths side_of layout k words views →
      get_elem? views i ≡ some v → epoch_word words ≤ epoch_word words' → (side_of w).dated ≡ (side_of v).dated →
      KeepsDates side_of (epoch_word words') views (set views i w) w
  same_dates k words words' views i v w kept at goes same = later_dates side_of (epoch_word words') views i v w at (omega (arith, same)) (let was = kept.dates i v at in omega (arith, was, same, goes))

  module _ (k k' : Machine S) (words words' : List ℕ) (views : List V) (i : ℕ) (v w : V) (kept : Deaths side_of layout k words views)
      (at : get_elem? views i ≡ some v) (spares : Spares k k') (goes : epoch_word words ≤ epoch_word words') (less : RestsNoMore k (side_of v) (side_of w)) where
    abbrev pub views' : List V
    views' = set views i w

    pub past_kept : (id : ConnId) (epoch : ℕ) → stage_of k id ≡ Dead → IsKeyless k id → IsPast side_of (epoch_word words) views id epoch → IsPast side_of (epoch_word words') views' id epoch
    past_kept id epoch dead bare past = record {
      reached = (let was = past.reached in omega (arith, was, goes));
      rested = λ j u e rests. ⊎_elim
          (λ (x : (j ≡ i) × (w ≡ u)).
          let mine = less.rests id dead bare (subst (λ (y : V). Rests (side_of y) id) (sym x.1) rests) in
          subst (λ (y : V). IsProtectedBy epoch (side_of y).protecting) x.1 (subst (IsProtectedBy epoch) (sym mine.1) (past.rested i v at mine.0)))
          (λ (x : (j ≢ i) × (get_elem? views j ≡ some u)). past.rested j u x.1 rests)
          (at_set views i j w u e);
    }

    -- a slot with an epoch in its first note is that of a Dead connection
    pub left_dead : (slot epoch : ℕ) → slot < layout.slots → first_note layout words slot ≡ 2 ^ 63 + epoch → (k.slot slot).stage ≡ Dead
    left_dead slot epoch h note = dead_stage (k.slot slot).stage (let sum = kept.counted slot h in let one = ap has_epoch note ∙ epoch_note epoch in omega (arith, sum, one))

    -- what was said of a kill of the seat stays, where it loaded nothing else
    pub kill_kept : (loaded : ℕ) (id : ConnId) → FitsKill side_of k (epoch_word words) views loaded id → FitsKill side_of k' (epoch_word words') views' loaded id
    kill_kept loaded id fits = record {
      dead = stays_dead k k' spares id fits.dead;
      past = λ some' bare. (let was = loses spares id fits.dead bare in past_kept id loaded fits.dead was (fits.past some' was));
    }

    left_kept : (slot epoch : ℕ) → slot < layout.slots → first_note layout words slot ≡ 2 ^ 63 + epoch → IsLeft side_of k' (epoch_word words') views' slot epoch
    left_kept slot epoch h note =
        let dead = left_dead slot epoch h note in
        let was = kept.left slot epoch h note in
        let stage : stage_of k (last_id k slot) ≡ Dead = last_stage k slot ∙ dead in
        let same : last_id k slot ≡ last_id k' slot = ap (λ (x : Slot S). record { slot = slot; inc = x.inc }) (sym (spares.slots slot dead)) in
        record {
          keyless = subst (IsKeyless k') same (gains spares (last_id k slot) stage was.keyless);
          past = subst (λ (id : ConnId). IsPast side_of (epoch_word words') views' id epoch) same (past_kept (last_id k slot) epoch stage was.keyless was.past);
        }

    -- nobody rests on what was reclaimed
    pub reclaim_kept : (id : ConnId) → FitsReclaim side_of k views id → FitsReclaim side_of k' views' id
    reclaim_kept id fits = record {
      dead = stays_dead k k' spares id fits.dead;
      keyless = gains spares id fits.dead fits.keyless;
      unrested = λ j u e rests. ⊎_elim
          (λ (x : (j ≡ i) × (w ≡ u)). fits.unrested i v at (less.rests id fits.dead fits.keyless (subst (λ (y : V). Rests (side_of y) id) (sym x.1) rests)).0)
          (λ (x : (j ≢ i) × (get_elem? views j ≡ some u)). fits.unrested j u x.1 rests)
          (at_set views i j w u e);
    }

    -- the part after such a step, where it is still counted, the seat's kills and what it reclaimed fit, and an epoch in a note was there before or is left now
    pub deaths-changed : ((slot : ℕ) → slot < layout.slots →
        killed_in side_of views' slot + has_epoch (first_note layout words' slot) + cleared_in side_of views' slot ≡ is_dead (k'.slot slot).stage) →
        ((slot : ℕ) → slot < layout.slots → reclaimed_in side_of views' slot ≤ has_epoch (first_note layout words' slot)) →
        ((id : ConnId) → Contains (side_of w).kills id → FitsKill side_of k' (epoch_word words') views' (side_of w).loaded id) →
        ((id : ConnId) → Contains (side_of w).reclaims id ⊎ Contains (side_of w).cleared id → FitsReclaim side_of k' views' id) →
        ((slot epoch : ℕ) → slot < layout.slots → first_note layout words' slot ≡ 2 ^ 63 + epoch →
        (first_note layout words slot ≡ 2 ^ 63 + epoch) ⊎ (IsLeft side_of k' (epoch_word words') views' slot epoch × IsDated side_of views' epoch)) →
        KeepsDates side_of (epoch_word words') views views' w → Deaths side_of layout k' words' views'
    deaths-changed counted reclaimed mine own left dates = record {
      counted = counted;
      reclaimed = reclaimed;
      kills = λ j u id e c. ⊎_elim
          (λ (x : (j ≡ i) × (w ≡ u)).
          subst (λ (y : V). FitsKill side_of k' (epoch_word words') views' (side_of y).loaded id) x.1 (mine id (subst (λ (y : V). Contains (side_of y).kills id) (sym x.1) c)))
          (λ (x : (j ≢ i) × (get_elem? views j ≡ some u)). kill_kept (side_of u).loaded id (kept.kills j u id x.1 c))
          (at_set views i j w u e);
      reclaims = λ j u id e c. ⊎_elim
          (λ (x : (j ≡ i) × (w ≡ u)). own id (subst (λ (y : V). Contains (side_of y).reclaims id ⊎ Contains (side_of y).cleared id) (sym x.1) c))
          (λ (x : (j ≢ i) × (get_elem? views j ≡ some u)). reclaim_kept id (kept.reclaims j u id x.1 c))
          (at_set views i j w u e);
      left = λ slot epoch h note. ⊎_elim (λ was. left_kept slot epoch h was) (λ now. now.0) (left slot epoch h note);
      dated = λ slot epoch h note. ⊎_elim (λ was. dates.still epoch (kept.dated slot epoch h was)) (λ now. now.1) (left slot epoch h note);
      dates = λ j u e. ⊎_elim
          (λ (x : (j ≡ i) × (w ≡ u)). subst (λ (y : V). (side_of y).dated ≤ epoch_word words') x.1 dates.within)
          (λ (x : (j ≢ i) × (get_elem? views j ≡ some u)). (let was = kept.dates j u x.1 in omega (arith, was, goes)))
          (at_set views i j w u e);
    }

    -- as many are counted as reclaimed, and as cleared, where the seat has the same
    same_sum : (of : DeathSide → List ConnId) → of (side_of w) ≡ of (side_of v) → (slot : ℕ) →
        sum_by (λ (u : V). occurs slot (slots_named (of (side_of u)))) views' ≡ sum_by (λ (u : V). occurs slot (slots_named (of (side_of u)))) views
    same_sum of same slot =
        let more = sum-set (λ (u : V). occurs slot (slots_named (of (side_of u)))) views i v w at in
        let one = ap (λ ids. occurs slot (slots_named ids)) same in
        omega (arith, more, one)

    -- the same, where the seat reclaimed nothing more and freed nothing
    pub deaths-set : (side_of w).reclaims ≡ (side_of v).reclaims → (side_of w).cleared ≡ (side_of v).cleared →
        ((slot : ℕ) → slot < layout.slots → killed_in side_of views' slot + has_epoch (first_note layout words' slot) + cleared_in side_of views slot ≡ is_dead (k'.slot slot).stage) →
        ((slot : ℕ) → slot < layout.slots → reclaimed_in side_of views slot ≤ has_epoch (first_note layout words' slot)) →
        ((id : ConnId) → Contains (side_of w).kills id → FitsKill side_of k' (epoch_word words') views' (side_of w).loaded id) →
        ((slot epoch : ℕ) → slot < layout.slots → first_note layout words' slot ≡ 2 ^ 63 + epoch → first_note layout words slot ≡ 2 ^ 63 + epoch) →
        KeepsDates side_of (epoch_word words') views views' w → Deaths side_of layout k' words' views'
    deaths-set reclaims cleared counted reclaimed mine left dates = deaths-changed
        (λ slot h. (let same = same_sum (λ side. side.cleared) cleared slot in let all = counted slot h in omega (arith, same, all)))
        (λ slot h. (let same = same_sum (λ side. side.reclaims) reclaims slot in let all = reclaimed slot h in omega (arith, same, all)))
        mine
        (λ id c. reclaim_kept id (kept.reclaims i v id at (⊎_elim
        (λ (a : Contains (side_of w).reclaims id). inl (subst (λ ids. Contains ids id) reclaims a))
        (λ (b : Contains (side_of w).cleared id). inr (subst (λ ids. Contains ids id) cleared b))
        c)))
        (λ slot epoch h note. inl (left slot epoch h note))
        dates

    -- a step that leaves what seats killed and reclaimed, the first notes, and who is Dead
    pub deaths-same : (side_of w).kills ≡ (side_of v).kills → (side_of w).reclaims ≡ (side_of v).reclaims → (side_of w).cleared ≡ (side_of v).cleared →
        KeepsDates side_of (epoch_word words') views views' w → ((id : ConnId) → Contains (side_of w).kills id → (side_of w).loaded ≡ (side_of v).loaded) →
        ((slot : ℕ) → slot < layout.slots → first_note layout words' slot ≡ first_note layout words slot) →
        ((slot : ℕ) → slot < layout.slots → is_dead (k'.slot slot).stage ≡ is_dead (k.slot slot).stage) → Deaths side_of layout k' words' views'
    deaths-same kills reclaims cleared dates loaded notes dead = deaths-set reclaims cleared
        (λ slot h. (let more = same_sum (λ side. side.kills) kills slot in
        let note = ap has_epoch (notes slot h) in
        let was = kept.counted slot h in
        let stage = dead slot h in
        omega (arith, more, note, was, stage)))
        (λ slot h. (let note = ap has_epoch (notes slot h) in let was = kept.reclaimed slot h in omega (arith, note, was)))
        (λ id c. subst (λ n. FitsKill side_of k' (epoch_word words') views' n id) (sym (loaded id c)) (kill_kept (side_of v).loaded id (kept.kills i v id at (subst (λ ids. Contains ids id) kills c))))
        (λ slot epoch h note. sym (notes slot h) ∙ note)
        dates

  -- a slot whose connection was reclaimed is Dead, and one that isn't is nobody's
  pub gone_dead : (k : Machine S) (words : List ℕ) (views : List V) (slot : ℕ) → Deaths side_of layout k words views → slot < layout.slots →
      1 ≤ reclaimed_in side_of views slot + cleared_in side_of views slot → is_dead (k.slot slot).stage ≡ 1
  gone_dead k words views slot kept within some' =
      let all = kept.counted slot within in
      let part = kept.reclaimed slot within in
      let one = dead_once (k.slot slot).stage in
      omega (arith, all, part, one, some')

  -- a view comes that killed nothing and rests on nothing
  pub deaths-push : (k : Machine S) (words : List ℕ) (views : List V) (w : V) → Deaths side_of layout k words views → (side_of w).kills ≡ [] →
      (side_of w).reclaims ≡ [] → (side_of w).cleared ≡ [] → (side_of w).dated ≡ 0 → ((id : ConnId) → ¬ (Rests (side_of w) id)) → Deaths side_of layout k words (views ++ w ∷ [])
  deaths-push k words views w kept none bare clear undated free = record {
    counted = λ slot h.
        let more = no_more (λ side. side.kills) none slot in
        let other = no_more (λ side. side.cleared) clear slot in
        let was = kept.counted slot h in
        omega (arith, more, other, was);
    reclaimed = λ slot h. (let more = no_more (λ side. side.reclaims) bare slot in let was = kept.reclaimed slot h in omega (arith, more, was));
    reclaims = λ j u id e c. ⊎_elim
        (λ (there : get_elem? views j ≡ some u).
        let fits = kept.reclaims j u id there c in
        record {
          dead = fits.dead;
          keyless = fits.keyless;
          unrested = λ j' u' e' rests. ⊎_elim
              (λ (there' : get_elem? views j' ≡ some u'). fits.unrested j' u' there' rests)
              (λ (x : w ≡ u'). free id (subst (λ (y : V). Rests (side_of y) id) (sym x) rests))
              (at_snoc views w u' j' e');
        })
        (λ (x : w ≡ u). absurd (⊎_elim
        (λ (a : Contains (side_of u).reclaims id). none_listed id (subst (λ ids. Contains ids id) (ap (λ (y : V). (side_of y).reclaims) (sym x) ∙ bare) a))
        (λ (b : Contains (side_of u).cleared id). none_listed id (subst (λ ids. Contains ids id) (ap (λ (y : V). (side_of y).cleared) (sym x) ∙ clear) b))
        c))
        (at_snoc views w u j e);
    kills = λ j u id e c. ⊎_elim
        (λ (there : get_elem? views j ≡ some u). let fits = kept.kills j u id there c in record { dead = fits.dead; past = λ some' bare. pushed id (side_of u).loaded (fits.past some' bare) })
        (λ (x : w ≡ u). absurd (none_listed id (subst (λ ids. Contains ids id) none (subst (λ (y : V). Contains (side_of y).kills id) (sym x) c))))
        (at_snoc views w u j e);
    left = λ slot epoch h note. (let was = kept.left slot epoch h note in record { keyless = was.keyless; past = pushed (last_id k slot) epoch was.past });
    dated = λ slot epoch h note. (let was = kept.dated slot epoch h note in
        record { seat = was.seat; view = was.view; there = at_longer views (w ∷ []) was.seat was.view was.there; since = was.since });
    dates = λ j u e. ⊎_elim
        (λ (there : get_elem? views j ≡ some u). kept.dates j u there)
        (λ (x : w ≡ u). (let none' = ap (λ (y : V). (side_of y).dated) (sym x) ∙ undated in omega (arith, none')))
        (at_snoc views w u j e);
  }
    where
      no_more : (of : DeathSide → List ConnId) → of (side_of w) ≡ [] → (slot : ℕ) →
          sum_by (λ (u : V). occurs slot (slots_named (of (side_of u)))) (views ++ w ∷ []) ≡ sum_by (λ (u : V). occurs slot (slots_named (of (side_of u)))) views
      no_more of nothing slot =
          let more = sum_by_push (λ (u : V). occurs slot (slots_named (of (side_of u)))) views w in
          let no : occurs slot (slots_named (of (side_of w))) ≡ 0 = ap (λ ids. occurs slot (slots_named ids)) nothing in
          omega (arith, more, no)

      pushed : (id : ConnId) (epoch : ℕ) → IsPast side_of (epoch_word words) views id epoch → IsPast side_of (epoch_word words) (views ++ w ∷ []) id epoch
      pushed id epoch past = record {
        reached = past.reached;
        rested = λ j u e rests. ⊎_elim
            (λ (there : get_elem? views j ≡ some u). past.rested j u there rests)
            (λ (x : w ≡ u). absurd (free id (subst (λ (y : V). Rests (side_of y) id) (sym x) rests)))
            (at_snoc views w u j e);
      }

-- the slot of a connection in a list is named
pub slot_named : (id : ConnId) (ids : List ConnId) → Contains ids id → 1 ≤ occurs id.slot (slots_named ids)
slot_named id ids c =
    let long = length-map ids (λ (i : ConnId). i.slot) in
    let short = c.1 in
    stands_once id.slot (slots_named ids) (c.0, omega (arith, long, short), get_or-map (λ (i : ConnId). i.slot) ids c.0 id id.slot short ∙ ap (λ (i : ConnId). i.slot) c.2)
