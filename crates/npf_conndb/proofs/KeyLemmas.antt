-- What becomes of a connection's keys while others go on.
use Rattle.std.proofs.Common.{◌≡◌, ◌⊎◌, ℕ, ◌<◌, ◌≤◌, nat_lt, eqb, ⊎_elim, arith, Bool, true, false, ◌==◌, List, [], ◌∷◌, Option, Some, None, cond, refl, sym, ap, ◌∙◌, subst}
use Rattle.std.proofs.lemmas.Bool.Decides.{Decides-eqb, not_from_Decides, nat_tests}
use Rattle.npf_types.specs.declared.key.{Key.Key, Way.{Way, TheVariants.Forward}}
use Rattle.npf_shelf.proofs.ListLemmas.{filter-cons_nil}
use Rattle.npf_core.specs.declared.{conn_id.ConnId.ConnId, entry.Entry.Entry, found.Found.Found, stage.Stage.Stage}
use Rattle.npf_core.specs.{declared.stage.Stage.TheVariants.{Vacant, Building, Live, Dead}, History.{MayFollow, LegalFrom, after, state_from, by}}
use Rattle.npf_core.specs.{Machine.{Machine, stage_of, Holds, HoldsNone, IsAlive}, Meaning.Meaning, NextState.{is_found, given_up}}
use Rattle.npf_core.proofs.{BuildingLemmas.builds_by, EqualityLemmas.is_found-Decides, HolderLemmas.{Passes, rests, gives, loses, passes, may_hold}}
use Rattle.npf_core.proofs.LifeLemmas.{Life, to_come, built, lives, killed, gone, stage_in, stage_of-is, life_in, life_of, life_at-last, life_at-earlier}
use Rattle.npf_core.proofs.LifeLemmas.{Moves, keeps, claims, starts, steps, abandons, expires, frees, entry_moves}
use Rattle.npf_conndb.specs.Expiries.{IsOver}

-- a life is over once it is killed, and stays so
abbrev pub Ended : {S : Type 0} → Life S → Type 0
Ended to_come = ⊥
Ended (built seat) = ⊥
Ended (lives flow n) = ⊥
Ended killed = Unit {0}
Ended gone = Unit {0}

module _ {S A R : Type 0} (m : Meaning S A R) (slots : ℕ) where
  module _ (k : Machine S) (entry : Entry S A R) (id : ConnId) (way : Way) (follows : MayFollow m slots k entry) where
    back_by : (seat : ℕ) → ¬ (entry.seat ≡ seat) → stage_of k id ≡ Building seat → (key : Key) (x y : Option Found) →
        Passes entry.act key x y → y ≡ Some (record { id = id; way = way }) → x ≡ Some (record { id = id; way = way })
    back_by seat other e key _ _ rests now = now
    back_by seat other e key _ _ (gives given act) now =
        let same : given ≡ record { id = id; way = way } = cc in
        let may = (may_hold m slots k entry.seat entry.act given.id key given.way act follows.allowed).built in
        let mine : stage_of k id ≡ Building entry.seat = rw same at may in
        absurd (other (cc (mine, e)))
    back_by seat other e key _ _ (loses lost act) now = absurd cc

    over_by : (x y : Life S) → Moves m entry.seat entry.act entry.reply id x y → Ended x → Ended y
    over_by _ _ (keeps silent) over = over
    over_by _ _ (claims packet act reply) over = absurd over
    over_by _ _ (starts packet init act answer) over = absurd over
    over_by _ _ (steps packet w arg flow n act reply) over = absurd over
    over_by _ _ (abandons act answer) over = tt
    over_by _ _ (expires now flow n act answer due) over = tt
    over_by _ _ (frees act answer) over = tt

    over_unbuilt : (seat : ℕ) (x : Life S) → Ended x → stage_in x ≡ Building seat → ⊥
    over_unbuilt seat to_come over e = over
    over_unbuilt seat (built other) over e = over
    over_unbuilt seat (lives flow n) over e = over
    over_unbuilt seat killed over e = absurd cc
    over_unbuilt seat gone over e = absurd cc

    over_none_by : Ended (life_of k id) → (key : Key) (x y : Option Found) → Passes entry.act key x y → ¬ (x ≡ Some (record { id = id; way = way })) → ¬ (y ≡ Some (record { id = id; way = way }))
    over_none_by over key _ _ rests none now = none now
    over_none_by over key _ _ (gives given act) none now =
        let same : given ≡ record { id = id; way = way } = cc in
        let may = (may_hold m slots k entry.seat entry.act given.id key given.way act follows.allowed).built in
        let mine : stage_of k id ≡ Building entry.seat = rw same at may in
        over_unbuilt entry.seat (life_of k id) over (sym (stage_of-is k id) ∙ mine)
    over_none_by over key _ _ (loses lost act) none now = absurd cc

  -- who holds a key for a connection that is Building, after the entries of others, held it before
  pub built_back : (k : Machine S) (entries : List (Entry S A R)) (seat : ℕ) (id : ConnId) (way : Way) (key : Key) →
      LegalFrom m slots k entries → by seat entries ≡ [] → stage_of k id ≡ Building seat →
      Holds (state_from m k entries) id way key → Holds k id way key
  built_back k [] seat id way key legal none e now = now
  built_back k (entry ∷ entries) seat id way key legal none e now =
      let first = filter-cons_nil (λ (x : Entry S A R). x.seat == seat) entry entries none in
      let other = not_from_Decides _ (Decides-eqb entry.seat seat) first.0 in
      let then = built_back (after m k entry) entries seat id way key legal.1 first.1 (builds_by m slots k entry seat id legal.0 other e) now in
      back_by k entry id way legal.0 seat other e key _ _ (passes entry.act key (k.holder key)) then

  -- a connection that is over stays so, and gains no key
  pub over_stays : (k : Machine S) (entries : List (Entry S A R)) (id : ConnId) → LegalFrom m slots k entries → Ended (life_of k id) → Ended (life_of (state_from m k entries) id)
  over_stays k [] id legal over = over
  over_stays k (entry ∷ entries) id legal over = over_stays (after m k entry) entries id legal.1 (over_by k entry id Forward legal.0 _ _ (entry_moves m slots k entry id legal.0) over)

  pub over_none : (k : Machine S) (entries : List (Entry S A R)) (id : ConnId) (way : Way) → LegalFrom m slots k entries →
      Ended (life_of k id) → HoldsNone k id way → HoldsNone (state_from m k entries) id way
  over_none k [] id way legal over none = none
  over_none k (entry ∷ entries) id way legal over none =
      over_none (after m k entry) entries id way legal.1 (over_by k entry id way legal.0 _ _ (entry_moves m slots k entry id legal.0) over)
      (λ key. over_none_by k entry id way legal.0 over key _ _ (passes entry.act key (k.holder key)) (none key))

-- as it is where the connection was claimed at some time, and is neither Building nor Live
over_in : {S : Type 0} (stage : Stage S) → ¬ IsAlive stage → Ended (life_in stage)
over_in Vacant ended = tt
over_in (Building seat) ended = absurd (ended tt)
over_in (Live flow n) ended = absurd (ended tt)
over_in Dead ended = tt

pub over_life : {S : Type 0} (k : Machine S) (id : ConnId) → IsOver k id → Ended (life_of k id)
over_life {S} k id over = ⊎_elim
    (λ (same : (k.slot id.slot).inc ≡ id.inc).
    subst (λ (x : Life S). Ended x) (sym (life_at-last (k.slot id.slot) id.inc same)) (over_in (k.slot id.slot).stage (subst (λ (x : Stage S). ¬ IsAlive x) (shows same) over.ended)))
    (λ (earlier : id.inc < (k.slot id.slot).inc). subst (λ (x : Life S). Ended x) (sym (life_at-earlier (k.slot id.slot) id.inc earlier)) tt)
    (split (k.slot id.slot).inc id.inc over.came)
  where
    split : (a b : ℕ) → b ≤ a → (a ≡ b) ⊎ (b < a)
    split a b h = grind arith

    shows : (k.slot id.slot).inc ≡ id.inc → stage_of k id ≡ (k.slot id.slot).stage
    shows same = ap (λ b. cond b (k.slot id.slot).stage Vacant) ((Decides-eqb (k.slot id.slot).inc id.inc).1 same)

-- and the other way about
pub life_over : {S : Type 0} (k : Machine S) (id : ConnId) → Ended (life_of k id) → IsOver k id
life_over {S} k id ended = record { came = came; ended = λ alive. unalive (life_of k id) ended (subst (λ (x : Stage S). IsAlive x) (stage_of-is k id) alive) }
  where
    unalive : (x : Life S) → Ended x → IsAlive (stage_in x) → ⊥
    unalive to_come ended alive = alive
    unalive (built seat) ended alive = ended
    unalive (lives flow n) ended alive = ended
    unalive killed ended alive = alive
    unalive gone ended alive = alive

    by_test : (later : Bool) → nat_lt (k.slot id.slot).inc id.inc ≡ later → id.inc ≤ (k.slot id.slot).inc
    by_test true e = absurd (subst (λ (x : Life S). Ended x) (ap (λ b. cond b to_come (cond (eqb (k.slot id.slot).inc id.inc) (life_in (k.slot id.slot).stage) gone)) e) ended)
    by_test false e = grind (arith, nat_tests)

    came : id.inc ≤ (k.slot id.slot).inc
    came = by_test (nat_lt (k.slot id.slot).inc id.inc) refl

-- what is Dead is over
pub dead_over : {S : Type 0} (k : Machine S) (id : ConnId) → stage_of k id ≡ Dead → Ended (life_of k id)
dead_over {S} k id dead =
    by_life (life_of k id) (sym (stage_of-is k id) ∙ dead)
  where
    by_life : (x : Life S) → stage_in x ≡ Dead → Ended x
    by_life to_come e = absurd cc
    by_life (built seat) e = absurd cc
    by_life (lives flow n) e = absurd cc
    by_life killed e = tt
    by_life gone e = absurd cc

-- who gives a key up holds none of that way
pub gives_up_none : (id : ConnId) (way : Way) (x : Option Found) → ¬ (given_up x (record { id = id; way = way }) ≡ Some (record { id = id; way = way }))
gives_up_none id way None e = cc
gives_up_none id way (Some holder) e = by_test (is_found holder (record { id = id; way = way })) refl e
  where
    by_test : (same : Bool) → is_found holder (record { id = id; way = way }) ≡ same → ¬ (cond same None (Some holder) ≡ Some (record { id = id; way = way }))
    by_test true t e = cc
    by_test false t e = (let is : holder ≡ record { id = id; way = way } = cc in let yes = (is_found-Decides holder (record { id = id; way = way })).1 is in cc)
