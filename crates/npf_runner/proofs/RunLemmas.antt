-- Phases that ran one after the other play.
use Rattle.std.proofs.Common.{◌≡◌, ℕ, ◌≤◌, ◌+◌, true, List, [], ◌∷◌, ◌++◌, map, length, take, drop, refl, sym, ap, subst, ◌∙◌, ⊎_elim, inr, arith}
use Rattle.std.specs.List.{Contains}
use Rattle.std.proofs.lemmas.List.{append_assoc, append-nil, drop_at, length-drop, length-map, length-take-le, map-append, take-map, take_at}
use Rattle.std.proofs.lemmas.{List.Elements.Contains-append_cases, Bool.false_from_ne_true}
use Rattle.npf_shelf.proofs.ListLemmas.{Contains-nil}
use Rattle.npf_core.specs.History.{Legal}
use Rattle.npf_connections.specs.{Entries.free_entries, Pass.{Pass, IsPass, all_places}}
use Rattle.npf_flow.specs.Flows.{flow_law}
use Rattle.npf_model.specs.Configuration.{Configuration}
use Rattle.npf_traffic.{proofs.PhaseLemmas.packets_in-cons, specs.declared.{packet.Packet.Packet, phase.{Command.Command, Phase.Phase, Spread.Spread}}}
use Rattle.npf_engine.specs.Histories.{FlowEntry, History, carries}
use Rattle.npf_runner.specs.{Job.{Handled, numbered_from}, Played.{outcomes_of, outputs_of}, Plays.{IsUnnumbered, PlaysPhases, PlaysPhase, PlaysFrom}}
use Rattle.npf_traffic.specs.Phases.{packets_in, published_by}
use Rattle.npf_runner.{specs.Phase.{LeavesNoDead, RunsPhase, RunsPhases}, proofs.{CarryLemmas.{CarryNone, not_both}, CommandLemmas.frees_say}}
use Rattle.npf_runner.proofs.{JobLemmas.numbered_length, PhaseLemmas.phase_plays, ShowLemmas.{InPhase, phase_adds, added_carries, lane_in_phase}}
use Rattle.npf_runner.proofs.{SweepLemmas.{lacking, lacking_both, phase_sweeps}, WorksLemmas.{SaysOwn, TellsInLonger}}

-- what is behind a point of the run carries this number and later ones alone
pub record Later (now end : Pass FlowEntry) (first : ℕ) : Type 0 where
  pub rest : History
  pub goes_on : end.history ≡ now.history ++ rest
  pub low : (entry : FlowEntry) (n : ℕ) → Contains rest entry → carries n entry.act ≡ true → first ≤ n
  pub slots : end.slots ≡ now.slots
  pub epoch : now.epoch ≤ end.epoch

take_map : {X Y : Type 0} (f : X → Y) (n : ℕ) (xs ys : List X) → length xs ≡ n → take n (map f (xs ++ ys)) ≡ map f xs
take_map f n xs ys e = take-map f n (xs ++ ys) ∙ ap (map f) (take_at xs ys n e)

drop_map : {X Y : Type 0} (f : X → Y) (n : ℕ) (xs ys : List X) → length xs ≡ n → drop n (map f (xs ++ ys)) ≡ map f ys
drop_map f n xs ys e = ap (drop n) (map-append f xs ys) ∙ drop_at (map f xs) (map f ys) n (length-map xs f ∙ e)

pub left_length : {X : Type 0} (n : ℕ) (xs : List X) → n ≤ length xs → n + length (drop n xs) ≡ length xs
left_length n xs e = let left = length-drop n xs in omega (arith, left, e)

pub no_dead_more : (old mid new : Pass FlowEntry) → LeavesNoDead old mid → LeavesNoDead mid new → LeavesNoDead old new
no_dead_more old mid new p q = ⊎_elim (λ (same : new ≡ mid). subst (λ (pass : Pass FlowEntry). LeavesNoDead old pass) (sym same) p) (λ clean. inr clean) q

module _ (says : SaysOwn) (tells : TellsInLonger) {P : Type 0} (view : P → Pass FlowEntry) (configs : List Configuration) (workers : ℕ) (spread : Spread) where
  -- one phase adds entries of its packets' numbers alone
  phase_carries : (old new : Pass FlowEntry) (first last : ℕ) (commands : List Command) (packets : List Packet) (dones : List Handled)
      (r : RunsPhase view configs workers spread old new last commands (numbered_from first packets) dones) → IsPass flow_law new → old.places ≡ all_places →
      (entry : FlowEntry) (n : ℕ) → Contains (r.ran.is_whole.added ++ free_entries r.ran.whole r.ran.collects.frees.ids) entry → carries n entry.act ≡ true → InPhase first packets n
  phase_carries old new first last commands packets dones r legal all entry n c carry = ⊎_elim
      (λ d. let o = added_carries says view configs workers spread old new first last commands packets dones r legal all entry n d carry in
      lane_in_phase says view configs workers spread old new first last commands packets dones r o.0.place o.0.first o.0.last o.0.at n o.1)
      (λ f. absurd (not_both (carries n entry.act) carry (let b = frees_say r.ran.whole r.ran.collects.frees.ids entry f in rw b.1 refl)))
      (Contains-append_cases r.ran.is_whole.added (free_entries r.ran.whole r.ran.collects.frees.ids) entry c)

  -- and so do the phases that follow
  later : (phases : List Phase) (now end : Pass FlowEntry) (first last : ℕ) (packets : List Packet) (dones : List Handled) →
      RunsPhases view configs workers spread now end first last phases packets dones → now.places ≡ all_places → packets_in phases ≡ length packets → Later now end first
  later [] now end first last packets dones runs all count = record {
    rest = [];
    goes_on = ap (λ (p : Pass FlowEntry). p.history) (sym runs.0) ∙ sym (append-nil now.history);
    low = λ entry n c carry. absurd (Contains-nil entry c);
    slots = ap (λ (p : Pass FlowEntry). p.slots) (sym runs.0);
    epoch = let e = ap (λ (p : Pass FlowEntry). p.epoch) runs.0 in omega (arith, e);
  }
  later (phase ∷ phases) now end first last packets dones runs all count =
      let mid = runs.0 in
      let back = runs.4 in
      let legal = runs.5 in
      let r = runs.6 in
      let enough : phase.packets ≤ length packets = let c = packets_in-cons phase phases in omega (arith, c, count) in
      let left : packets_in phases ≡ length (drop phase.packets packets) = let c = packets_in-cons phase phases in let l = left_length phase.packets packets enough in omega (arith, c, count, l) in
      let rest = later phases mid end (first + phase.packets) (last + published_by phase.commands) (drop phase.packets packets) runs.2 runs.7 (back.places ∙ all) left in
      let made = r.ran.is_whole.added ++ free_entries r.ran.whole r.ran.collects.frees.ids in
      let goes : mid.history ≡ now.history ++ made =
      phase_adds says view configs workers spread now mid first last phase.commands (take phase.packets packets) runs.1 r legal all in
      record {
        rest = made ++ rest.rest;
        goes_on = rest.goes_on ∙ (ap (λ (es : History). es ++ rest.rest) goes ∙ append_assoc now.history made rest.rest);
        low = λ entry n c carry. ⊎_elim
            (λ d. (phase_carries now mid first last phase.commands (take phase.packets packets) runs.1 r legal all entry n d carry).0)
            (λ d. let l = rest.low entry n d carry in omega (arith, l))
            (Contains-append_cases made rest.rest entry c);
        slots = rest.slots ∙ back.slots;
        epoch = omega (arith, back.epoch, rest.epoch);
      }

  here_length : (old new : Pass FlowEntry) (first last : ℕ) (commands : List Command) (packets : List Packet) (dones : List Handled) →
      RunsPhase view configs workers spread old new last commands (numbered_from first packets) dones → length dones ≡ length packets
  here_length old new first last commands packets dones r = r.gathered.count ∙ (sym r.dealt.count ∙ numbered_length first packets)

  -- each phase plays, and so do those that follow
  pub plays_from : (start end : Pass FlowEntry) (phases : List Phase) (now : Pass FlowEntry) (first last : ℕ) (packets : List Packet) (dones : List Handled) →
      RunsPhases view configs workers spread now end first last phases packets dones → start.slots ≡ now.slots → now.places ≡ all_places → IsPass flow_law now → IsPass flow_law end →
      packets_in phases ≡ length packets → CarryNone (InPhase first packets) now.history →
      PlaysFrom configs workers spread start end now.history first last phases packets (outputs_of dones) (outcomes_of dones)
  plays_from start end [] now first last packets dones runs sized all legal_now legal_end count before =
      (ap (λ (p : Pass FlowEntry). p.history) runs.0, runs.1, ap outputs_of runs.2, ap outcomes_of runs.2)
  plays_from start end (phase ∷ phases) now first last packets dones runs sized all legal_now legal_end count before =
      let mid = runs.0 in
      let here = runs.1 in
      let after = runs.2 in
      let back = runs.4 in
      let legal = runs.5 in
      let r = runs.6 in
      let enough : phase.packets ≤ length packets = let c = packets_in-cons phase phases in omega (arith, c, count) in
      let left : packets_in phases ≡ length (drop phase.packets packets) = let c = packets_in-cons phase phases in let l = left_length phase.packets packets enough in omega (arith, c, count, l) in
      let these : length (take phase.packets packets) ≡ phase.packets = length-take-le phase.packets packets enough in
      let size : length here ≡ phase.packets = here_length now mid first last phase.commands (take phase.packets packets) here r ∙ these in
      let rest = later phases mid end (first + phase.packets) (last + published_by phase.commands) (drop phase.packets packets) after runs.7 (back.places ∙ all) left in
      let made = r.ran.is_whole.added ++ free_entries r.ran.whole r.ran.collects.frees.ids in
      let goes : mid.history ≡ now.history ++ made =
      phase_adds says view configs workers spread now mid first last phase.commands (take phase.packets packets) here r legal all in
      let within : CarryNone (InPhase first (take phase.packets packets)) now.history = λ entry n c is. before entry n c (is.0, (let h = is.1 in omega (arith, h, these, enough))) in
      let quiet : CarryNone (InPhase first (take phase.packets packets)) rest.rest =
      λ entry n c is. false_from_ne_true (carries n entry.act) (λ carry. let l = rest.low entry n c carry in let h = is.1 in absurd (omega (arith, l, h, these))) in
      let next : CarryNone (InPhase (first + phase.packets) (drop phase.packets packets)) mid.history =
      λ entry n c is. ⊎_elim
      (λ d. before entry n d ((let l = is.0 in omega (arith, l)), (let h = is.1 in let l = left_length phase.packets packets enough in omega (arith, h, l))))
      (λ d. false_from_ne_true (carries n entry.act) (λ carry.
      let i = phase_carries now mid first last phase.commands (take phase.packets packets) here r legal all entry n d carry in
      let h = i.1 in let l = is.0 in absurd (omega (arith, h, l, these))))
      (Contains-append_cases now.history made entry (subst (λ (es : History). Contains es entry) goes c)) in
      let whole : Legal flow_law now.slots end.history = subst (λ n. Legal flow_law n end.history) (rest.slots ∙ back.slots) legal_end.legal in
      let plays = phase_plays says tells view configs workers spread now mid first last phase.commands
      (take phase.packets packets) here r legal all end.history rest.rest rest.goes_on whole within quiet
      legal_now start end phase (sym these) refl sized refl rest.epoch in
      let onward = plays_from start end phases mid (first + phase.packets) (last + published_by phase.commands)
      (drop phase.packets packets) after runs.7 (sized ∙ sym back.slots) (back.places ∙ all) legal legal_end left next in
      let out_here = ap (λ ds. take phase.packets (outputs_of ds)) runs.3 ∙ take_map (λ (done : Handled). done.packet) phase.packets here after size in
      let come_here = ap (λ ds. take phase.packets (outcomes_of ds)) runs.3 ∙ take_map (λ (done : Handled). done.outcome) phase.packets here after size in
      let out_after = ap (λ ds. drop phase.packets (outputs_of ds)) runs.3 ∙ drop_map (λ (done : Handled). done.packet) phase.packets here after size in
      let come_after = ap (λ ds. drop phase.packets (outcomes_of ds)) runs.3 ∙ drop_map (λ (done : Handled). done.outcome) phase.packets here after size in (
        mid.history,
        subst (λ os. PlaysPhase configs workers spread start end now.history mid.history first last phase (take phase.packets packets) os (take phase.packets (outcomes_of dones))) (sym out_here)
            (subst (λ os. PlaysPhase configs workers spread start end now.history mid.history first last phase (take phase.packets packets) (outputs_of here) os) (sym come_here) plays),
        subst (λ os. PlaysFrom configs workers spread start end mid.history (first + phase.packets) (last + published_by phase.commands) phases
            (drop phase.packets packets) os (drop phase.packets (outcomes_of dones))) (sym out_after)
            (subst (λ os. PlaysFrom configs workers spread start end mid.history (first + phase.packets)
            (last + published_by phase.commands) phases (drop phase.packets packets) (outputs_of after) os) (sym come_after) onward),
      )

  run_sweeps : (phases : List Phase) (now end : Pass FlowEntry) (first last : ℕ) (packets : List Packet) (dones : List Handled) →
      RunsPhases view configs workers spread now end first last phases packets dones → now.sweeps + lacking dones ≤ end.sweeps
  run_sweeps [] now end first last packets dones runs =
      let e = ap (λ (p : Pass FlowEntry). p.sweeps) runs.0 in let none : lacking dones ≡ 0 = ap lacking runs.2 in omega (arith, e, none)
  run_sweeps (phase ∷ phases) now end first last packets dones runs =
      let rest = run_sweeps phases runs.0 end (first + phase.packets) (last + published_by phase.commands) (drop phase.packets packets) runs.2 runs.7 in
      let here = phase_sweeps view configs workers spread now runs.0 last phase.commands (numbered_from first (take phase.packets packets)) runs.1 runs.6 in
      let both = ap lacking runs.3 ∙ lacking_both runs.1 runs.2 in
      omega (arith, rest, here, both)

  pub plays : (old new : Pass FlowEntry) (phases : List Phase) (packets : List Packet) (dones : List Handled) → RunsPhases view configs workers spread old new 1 0 phases packets dones →
      old.places ≡ all_places → IsPass flow_law old → IsPass flow_law new → packets_in phases ≡ length packets → IsUnnumbered (length packets) old.history →
      PlaysPhases configs workers spread old new phases packets (outputs_of dones) (outcomes_of dones)
  plays old new phases packets dones runs all legal_old legal_new count unnumbered = record {
    legal = subst (λ n. Legal flow_law n new.history) (later phases old new 1 0 packets dones runs all count).slots legal_new.legal;
    phased = plays_from old new phases old 1 0 packets dones runs refl all legal_old legal_new count
        (λ entry n c is. unnumbered n entry is.0 (let h = is.1 in omega (arith, h)) c);
    sweeps = run_sweeps phases old new 1 0 packets dones runs;
  }
