-- What a pass saw of a work is what it saw of the work's parts.
use Rattle.std.proofs.{Common.{◌≡◌, ◌<◌, ◌≤◌, Bool, List, [], ◌++◌, ap, sym, ◌∙◌, subst, arith, append_assoc, append-nil}, lemmas.List.append_cancel_left}
use Rattle.npf_shelf.proofs.ListLemmas.{nil_from_append_right}
use Rattle.npf_core.{specs.{declared.conn_id.ConnId.ConnId, History.by}, proofs.HistoryLemmas.{by-append, IsPrefix-trans}}
use Rattle.npf_connections.{specs.{Adding.Adds, Beginning.IsFullBetween, Pass.Pass, Said.{Did, under}, Stay.GoesOn}, proofs.AddLemmas.adds_more}
use Rattle.npf_flow.specs.Flows.{flow_law}
use Rattle.npf_engine.specs.{Answer.Spans, Explains.{Sight, WasFull}, Handles.sight_of, Histories.{FlowEntry, History}}
use Rattle.npf_engine_opening.specs.Saying.{FlowSaid}

module _ (sight : Sight) where
  -- a sight of a work is one of the work's later part
  pub later_part : (old mid new : Pass FlowEntry) (said : List FlowSaid) → Did old mid said → Spans sight old new → Spans sight mid new
  later_part old mid new said did spans = record {
    slots = spans.slots ∙ sym did.later.slots;
    seat = spans.seat ∙ sym did.later.number;
    begins = IsPrefix-trans sight.before old.history mid.history spans.begins did.later.begins;
    behind = spans.behind;
    goes_on = spans.goes_on;
    quiet = spans.quiet;
  }

  -- where the pass said nothing and the table was full for it, it was so in the sight
  pub was_full : (old new : Pass FlowEntry) → Did old new [] → IsFullBetween flow_law old new.history → Spans sight old new → WasFull sight
  was_full old new did full spans slot below =
      let at = full slot (subst (λ n. slot < n) spans.slots below) in
      let whole : old.history ++ did.adds.rest ≡ old.history ++ (at.begins.rest ++ at.goes_on.rest) =
      sym did.adds.goes_on ∙ at.goes_on.goes_on ∙ ap (λ h. h ++ at.goes_on.rest) at.begins.goes_on ∙ append_assoc old.history at.begins.rest at.goes_on.rest in
      let parts : did.adds.rest ≡ at.begins.rest ++ at.goes_on.rest = append_cancel_left old.history did.adds.rest (at.begins.rest ++ at.goes_on.rest) whole in
      let none : by old.number at.goes_on.rest ≡ [] =
      nil_from_append_right (by old.number at.begins.rest) (by old.number at.goes_on.rest)
      (sym (by-append old.number at.begins.rest at.goes_on.rest) ∙ ap (λ (es : History). by old.number es) (sym parts) ∙ did.adds.own) in
      record {
        point = at.point;
        behind = at.goes_on.rest ++ spans.behind;
        begins = IsPrefix-trans sight.before old.history at.point spans.begins at.begins;
        goes_on = spans.goes_on ∙ ap (λ h. h ++ spans.behind) at.goes_on.goes_on ∙ append_assoc at.point at.goes_on.rest spans.behind;
        quiet = by-append sight.seat at.goes_on.rest spans.behind
            ∙ (λ i. subst (λ n. by n at.goes_on.rest ≡ []) (sym spans.seat) none i ++ spans.quiet i);
        claimed = at.claimed;
      }

-- the pass began its stay or ended it: it is the same but for that, and said nothing
pub record Turns (old new : Pass FlowEntry) : Type 0 where
  pub slots : new.slots ≡ old.slots
  pub number : new.number ≡ old.number
  pub places : new.places ≡ old.places
  pub joined : new.joined ≡ old.joined
  pub sweeps : new.sweeps ≡ old.sweeps
  pub epoch : old.epoch ≤ new.epoch
  pub adds : Adds old new.history []

pub turns : (old new : Pass FlowEntry) {entered : Bool} {answered : List ConnId} →
    GoesOn (record old { entered = entered; answered = answered }) new → Adds old new.history [] → Turns old new
turns old new on adds = record {
  slots = ap (λ (p : Pass FlowEntry). p.slots) on.view;
  number = ap (λ (p : Pass FlowEntry). p.number) on.view;
  places = ap (λ (p : Pass FlowEntry). p.places) on.view;
  joined = ap (λ (p : Pass FlowEntry). p.joined) on.view;
  sweeps = ap (λ (p : Pass FlowEntry). p.sweeps) on.view;
  epoch = on.epoch;
  adds = adds;
}

module _ (first old new last : Pass FlowEntry) (said : List FlowSaid) (begins : Turns first old) (does : Did old new said) (ends : Turns new last) where
  -- what is said in a stay is what the pass says from before it until after it
  pub whole_did : last.entered ≡ first.entered → Did first last said
  whole_did entered =
      let later : Adds old last.history (under old.number said ++ []) =
      adds_more old new last.history (under old.number said) [] does.later.number does.joined does.adds ends.adds in
      let all : Adds first last.history (under old.number said ++ []) =
      adds_more first old last.history [] (under old.number said ++ []) begins.number begins.joined begins.adds later in
      let same : under old.number said ++ [] ≡ under first.number said =
      append-nil (under old.number said) ∙ ap (λ n. under n said) begins.number in
      let adds : Adds first last.history (under first.number said) =
      subst (λ (mine : History). Adds first last.history mine) same all in
      record {
        later = record {
          slots = ends.slots ∙ does.later.slots ∙ begins.slots;
          number = ends.number ∙ does.later.number ∙ begins.number;
          entered = entered;
          places = ends.places ∙ does.later.places ∙ begins.places;
          begins = record { rest = adds.rest; goes_on = adds.goes_on };
          sweeps = omega (arith, begins.sweeps, does.later.sweeps, ends.sweeps);
          epoch = omega (arith, begins.epoch, does.later.epoch, ends.epoch);
        };
        joined = ends.joined ∙ does.joined ∙ begins.joined;
        adds = adds;
      }

  -- and its sight from before the stay until after it is one of the stay
  pub whole_sight : Spans (sight_of first last) old new
  whole_sight = record {
    slots = sym begins.slots;
    seat = sym begins.number;
    begins = record { rest = begins.adds.rest; goes_on = begins.adds.goes_on };
    behind = ends.adds.rest;
    goes_on = ends.adds.goes_on;
    quiet = subst (λ n. by n ends.adds.rest ≡ []) (does.later.number ∙ begins.number) ends.adds.own;
  }
