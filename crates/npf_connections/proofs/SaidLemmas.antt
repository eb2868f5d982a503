-- What a pass said over some calls.
use Rattle.std.{proofs.Common.{◌≡◌, ℕ, ◌≤◌, Bool, List, [], ◌∷◌, ◌++◌, map, refl, sym, ap, ◌∙◌, subst, arith, append-nil}, specs.List.filter}
use Rattle.npf_types.specs.declared.key.Way.{Way}
use Rattle.npf_core.specs.declared.{act.{Act.TheVariants.{Kill, Unhold}, Why.{Why, TheVariants.Abandoned}}, conn_id.ConnId.ConnId, entry.Entry.Entry}
use Rattle.npf_core.{specs.{declared.reply.Reply.TheVariants.Nothing, History.IsPrefix, Meaning.Meaning}, proofs.HistoryLemmas.IsPrefix-trans}
use Rattle.npf_connections.specs.{Adding.Adds, Entries.{end_entries, entry_of}, Pass.Pass, Said.{Said, under, Did, ends_said}}
use Rattle.npf_connections.{specs.{SaidLaw.{DidNothing, DidMore, DidAbandon}, Stay.{GoesOn, IsLater}, Ways.all_ways}, proofs.AddLemmas.adds_more}

-- a moment after a later one is a later one
pub later_more : {E : Type 0} (old mid new : Pass E) → IsLater old mid → IsLater mid new → IsLater old new
later_more old mid new p q = record {
  slots = q.slots ∙ p.slots;
  number = q.number ∙ p.number;
  entered = q.entered ∙ p.entered;
  places = q.places ∙ p.places;
  begins = IsPrefix-trans old.history mid.history new.history p.begins q.begins;
  sweeps = omega (arith, p.sweeps, q.sweeps);
  epoch = omega (arith, p.epoch, q.epoch);
}

-- so is that after a call, by what the call says of the view
module _ {E : Type 0} (old new : Pass E) {answered builds : List ConnId} where
  pub later_sweep : {sweeps : ℕ} → GoesOn (record old { answered = answered; builds = builds; sweeps = sweeps }) new →
      old.sweeps ≤ new.sweeps → IsPrefix old.history new.history → IsLater old new
  later_sweep on sweeps begins = record {
    slots = ap (λ (p : Pass E). p.slots) on.view;
    number = ap (λ (p : Pass E). p.number) on.view;
    entered = ap (λ (p : Pass E). p.entered) on.view;
    places = ap (λ (p : Pass E). p.places) on.view;
    begins = begins;
    sweeps = sweeps;
    epoch = on.epoch;
  }

  pub later_so : GoesOn (record old { answered = answered; builds = builds }) new →
      IsPrefix old.history new.history → IsLater old new
  later_so on begins =
      let sweeps : new.sweeps ≡ old.sweeps = ap (λ (p : Pass E). p.sweeps) on.view in
      later_sweep on (omega (arith, sweeps)) begins

module _ {S A R : Type 0} where
  pub under-append : (number : ℕ) (xs ys : List (Said S A R)) → under number (xs ++ ys) ≡ under number xs ++ under number ys
  under-append number [] ys = refl
  under-append number (x ∷ xs) ys = ap (λ (zs : List (Entry S A R)). record { seat = number; act = x.act; reply = x.reply } ∷ zs) (under-append number xs ys)

  unholds_under : (pass : Pass (Entry S A R)) (id : ConnId) (ways : List Way) →
      map (λ way. entry_of pass (Unhold id way) Nothing) ways ≡ under {S = S} {A = A} {R = R} pass.number (map (λ way. record { act = Unhold id way; reply = Nothing }) ways)
  unholds_under pass id [] = refl
  unholds_under pass id (way ∷ ways) = ap (λ (zs : List (Entry S A R)). entry_of pass (Unhold id way) Nothing ∷ zs) (unholds_under pass id ways)

  pub ends_under : (pass : Pass (Entry S A R)) (id : ConnId) (why : Why) (held : Way → Bool) → end_entries pass id why held ≡ under pass.number (ends_said id why held)
  ends_under pass id why held = ap (λ (zs : List (Entry S A R)). entry_of pass (Kill id why) Nothing ∷ zs) (unholds_under pass id (filter held all_ways))

-- what a call did, by what it says of the view and what it adds
module _ {S A R : Type 0} (old new : Pass (Entry S A R)) {answered builds : List ConnId} (said : List (Said S A R)) where
  pub did_sweep : {sweeps : ℕ} → GoesOn (record old { answered = answered; builds = builds; sweeps = sweeps }) new →
      old.sweeps ≤ new.sweeps → Adds old new.history (under old.number said) → Did old new said
  did_sweep on sweeps adds = record {
    later = later_sweep old new on sweeps (record { rest = adds.rest; goes_on = adds.goes_on });
    joined = ap (λ (p : Pass (Entry S A R)). p.joined) on.view;
    adds = adds;
  }

  pub did_so : GoesOn (record old { answered = answered; builds = builds }) new →
      Adds old new.history (under old.number said) → Did old new said
  did_so on adds = record {
    later = later_so old new on (record { rest = adds.rest; goes_on = adds.goes_on });
    joined = ap (λ (p : Pass (Entry S A R)). p.joined) on.view;
    adds = adds;
  }

pub did_nothing : {S A R : Type 0} → DidNothing S A R
did_nothing pass =
    did_so pass pass [] (record { view = refl; epoch = omega arith })
    (record { rest = []; goes_on = sym (append-nil pass.history); own = refl; listed = λ n c. refl })

pub did_more : {S A R : Type 0} → DidMore S A R
did_more {S} {A} {R} old mid new first second p q =
    let theirs : Adds mid new.history (under old.number second) =
    subst (λ n. Adds mid new.history (under n second)) p.later.number q.adds in
    record {
      later = later_more old mid new p.later q.later;
      joined = q.joined ∙ p.joined;
      adds = subst (λ (es : List (Entry S A R)). Adds old new.history es) (sym (under-append old.number first second))
          (adds_more old mid new.history (under old.number first) (under old.number second) p.later.number p.joined p.adds theirs);
    }

pub did_abandon : {S A R : Type 0} (m : Meaning S A R) → DidAbandon m
did_abandon {S} {A} {R} m old new id builds on a =
    did_so old new (ends_said id Abandoned a.held) on
    (subst (λ (es : List (Entry S A R)). Adds old new.history es) (ends_under old id Abandoned a.held) a.adds.adds)
