-- What a control task's commands add to its pass's history.
use Rattle.std.proofs.Common.{◌≡◌, ◌⊎◌, ℕ, false, List, [], ◌∷◌, ◌++◌, map, refl, sym, ap, subst, ◌∙◌, ⊎_elim, inl, inr}
use Rattle.std.{proofs.lemmas.List.{append_assoc, append-nil}, specs.List.{Contains, filter}}
use Rattle.std.proofs.lemmas.List.Elements.{Contains-append_cases, Contains-append_left, Contains-append_right}
use Rattle.npf_types.specs.declared.key.Way.{Way}
use Rattle.npf_shelf.proofs.ListLemmas.{Contains-first, Contains-later, Contains-nil, Contains-cons_cases}
use Rattle.npf_core.specs.declared.{act.{Act.TheVariants.{Kill, Unhold, Free}, Why.TheVariants.Expired}, conn_id.ConnId.ConnId, reply.Reply.TheVariants.Nothing}
use Rattle.npf_core.{specs.History.IsPrefix, proofs.HistoryLemmas.IsPrefix-trans}
use Rattle.npf_connections.specs.{Entries.{end_entries, entry_of, free_entries}, Expiring.{Killed, IsOneOf, expiry_entries}, Pass.Pass, Ways.all_ways}
use Rattle.npf_engine.specs.Histories.{FlowEntry, History, carries}
use Rattle.npf_traffic.specs.declared.phase.Command.{Command, TheVariants.{Publish, Expire}}
use Rattle.npf_runner.{specs.{Commands.{Collects, ExpiresDue, Runs}, Plays.{IsExpiry, GivesBack}}, proofs.WorksLemmas.own_entry}

unhold_says : (pass : Pass FlowEntry) (id : ConnId) (ways : List Way) (entry : FlowEntry) →
    Contains (map (λ way. entry_of pass (Unhold id way) Nothing) ways) entry → GivesBack entry
unhold_says pass id [] entry c = absurd (Contains-nil entry c)
unhold_says pass id (way ∷ ways) entry c = ⊎_elim
    (λ (e : entry_of pass (Unhold id way) Nothing ≡ entry). inl (id, way, ap (λ (x : FlowEntry). x.act) (sym e)))
    (λ d. unhold_says pass id ways entry d)
    (Contains-cons_cases (entry_of pass (Unhold id way) Nothing) entry (map (λ way. entry_of pass (Unhold id way) Nothing) ways) c)

-- each entry of an expiry kills at its time, or gives a key back
expiry_says : (pass : Pass FlowEntry) (time : ℕ) (killed : List Killed) (entry : FlowEntry) → Contains (expiry_entries pass time killed) entry →
    ((id : ConnId) × (entry.act ≡ Kill id (Expired time))) ⊎ GivesBack entry
expiry_says pass time [] entry c = absurd (Contains-nil entry c)
expiry_says pass time (x ∷ xs) entry c = ⊎_elim
    (λ d. ⊎_elim
    (λ (e : entry_of pass (Kill x.id (Expired time)) Nothing ≡ entry). inl (x.id, ap (λ (y : FlowEntry). y.act) (sym e)))
    (λ l. inr (unhold_says pass x.id (filter x.held all_ways) entry l))
    (Contains-cons_cases (entry_of pass (Kill x.id (Expired time)) Nothing) entry (map (λ way. entry_of pass (Unhold x.id way) Nothing) (filter x.held all_ways)) d))
    (λ d. expiry_says pass time xs entry d)
    (Contains-append_cases (end_entries pass x.id (Expired time) x.held) (expiry_entries pass time xs) entry c)

-- what is freed gives back
pub frees_say : (pass : Pass FlowEntry) (ids : List ConnId) (entry : FlowEntry) → Contains (free_entries pass ids) entry → (id : ConnId) × (entry.act ≡ Free id)
frees_say pass [] entry c = absurd (Contains-nil entry c)
frees_say pass (id ∷ ids) entry c = ⊎_elim
    (λ (e : entry_of pass (Free id) Nothing ≡ entry). (id, ap (λ (x : FlowEntry). x.act) (sym e)))
    (λ d. frees_say pass ids entry d)
    (Contains-cons_cases (entry_of pass (Free id) Nothing) entry (free_entries pass ids) c)

-- the history of a pass went on, and of the rest its own entries are such
pub record Grew (old new : Pass FlowEntry) (Q : FlowEntry → Type 0) : Type 0 where
  pub rest : History
  pub goes_on : new.history ≡ old.history ++ rest
  pub number : new.number ≡ old.number
  pub own : (entry : FlowEntry) → Contains rest entry → entry.seat ≡ old.number → Q entry

abbrev pub OfCommands : List Command → FlowEntry → Type 0
OfCommands commands entry = IsExpiry commands entry ⊎ GivesBack entry

further : (command : Command) (commands : List Command) (entry : FlowEntry) → OfCommands commands entry → OfCommands (command ∷ commands) entry
further command commands entry said = ⊎_elim
    (λ (e : IsExpiry commands entry). inl (record { id = e.id; time = e.time; act = e.act; named = Contains-later command (Expire e.time) commands e.named }))
    (λ (b : GivesBack entry). inr b) said

grew_as : (old new : Pass FlowEntry) (P Q : FlowEntry → Type 0) → ((entry : FlowEntry) → P entry → Q entry) → Grew old new P → Grew old new Q
grew_as old new P Q says g = record { rest = g.rest; goes_on = g.goes_on; number = g.number; own = λ entry c seat. says entry (g.own entry c seat) }

grew_more : (old mid new : Pass FlowEntry) (Q : FlowEntry → Type 0) → Grew old mid Q → Grew mid new Q → Grew old new Q
grew_more old mid new Q p q = record {
  rest = p.rest ++ q.rest;
  goes_on = q.goes_on ∙ (ap (λ (es : History). es ++ q.rest) p.goes_on ∙ append_assoc old.history p.rest q.rest);
  number = q.number ∙ p.number;
  own = λ entry c seat. ⊎_elim (λ d. p.own entry d seat) (λ d. q.own entry d (seat ∙ sym p.number)) (Contains-append_cases p.rest q.rest entry c);
}

collect_grew : (old new : Pass FlowEntry) → Collects old new → Grew old new GivesBack
collect_grew old new c = record {
  rest = c.frees.adds.adds.rest;
  goes_on = c.frees.adds.adds.goes_on;
  number = ap (λ (p : Pass FlowEntry). p.number) c.view.view;
  own = λ entry d seat. inr (frees_say old c.frees.ids entry
      (subst (λ (es : History). Contains es entry) c.frees.adds.adds.own (own_entry old.number c.frees.adds.adds.rest entry d seat)));
}

-- what is freed behind an expiry
freed_grew : (time : ℕ) (old new : Pass FlowEntry) (x : ExpiresDue time old new) → Grew x.due new GivesBack
freed_grew time old new x =
    grew_more x.due x.once new GivesBack (collect_grew x.due x.once x.collects)
    (grew_more x.once x.twice new GivesBack (collect_grew x.once x.twice x.collects_again) (collect_grew x.twice new x.collects_last))

pub freed_prefix : (time : ℕ) (old new : Pass FlowEntry) (x : ExpiresDue time old new) → IsPrefix x.due.history new.history
freed_prefix time old new x = let g = freed_grew time old new x in record { rest = g.rest; goes_on = g.goes_on }

pub expiry_prefix : (time : ℕ) (old new : Pass FlowEntry) → ExpiresDue time old new → IsPrefix old.history new.history
expiry_prefix time old new x = IsPrefix-trans old.history x.due.history new.history x.rested.later.begins (freed_prefix time old new x)

expiry_grew : (time : ℕ) (commands : List Command) (old new : Pass FlowEntry) → ExpiresDue time old new → Grew old new (OfCommands (Expire time ∷ commands))
expiry_grew time commands old new x =
    let adds = x.expires.adds in
    grew_more old x.due new (OfCommands (Expire time ∷ commands))
    (record {
      rest = adds.rest;
      goes_on = adds.goes_on;
      number = x.rested.later.number;
      own = λ entry c seat. ⊎_elim
          (λ (k : (id : ConnId) × (entry.act ≡ Kill id (Expired time))). inl (record { id = k.0; time = time; act = k.1; named = Contains-first (Expire time) commands }))
          (λ (b : GivesBack entry). inr b)
          (expiry_says old time x.expires.killed entry (subst (λ (es : History). Contains es entry) adds.own (own_entry old.number adds.rest entry c seat)));
    })
    (grew_as x.due new GivesBack (OfCommands (Expire time ∷ commands)) (λ entry b. inr b) (freed_grew time old new x))

pub commands_grew : (commands : List Command) (old new : Pass FlowEntry) → Runs commands old new → Grew old new (OfCommands commands)
commands_grew [] old new r = record {
  rest = [];
  goes_on = ap (λ (p : Pass FlowEntry). p.history) (sym r) ∙ sym (append-nil old.history);
  number = ap (λ (p : Pass FlowEntry). p.number) (sym r);
  own = λ entry c seat. absurd (Contains-nil entry c);
}
commands_grew (Publish place ∷ commands) old new r =
    grew_as old new (OfCommands commands) (OfCommands (Publish place ∷ commands)) (further (Publish place) commands) (commands_grew commands old new r)
commands_grew (Expire time ∷ commands) old new r =
    grew_more old r.0 new (OfCommands (Expire time ∷ commands)) (expiry_grew time commands old r.0 r.1)
    (grew_as r.0 new (OfCommands commands) (OfCommands (Expire time ∷ commands)) (further (Expire time) commands) (commands_grew commands r.0 new r.2))

-- none of them carries a number
pub commands_carry_none : (commands : List Command) (entry : FlowEntry) (n : ℕ) → OfCommands commands entry → carries n entry.act ≡ false
commands_carry_none commands entry n said = ⊎_elim
    (λ (e : IsExpiry commands entry). rw e.act refl)
    (λ (b : GivesBack entry). ⊎_elim (λ u. rw u.2 refl) (λ f. rw f.1 refl) b) said

-- who is killed by an expiry has an entry of it
pub kill_of : (pass : Pass FlowEntry) (time : ℕ) (killed : List Killed) (id : ConnId) → IsOneOf killed id →
    (entry : FlowEntry) × Contains (expiry_entries pass time killed) entry × (entry.act ≡ Kill id (Expired time))
kill_of pass time [] id one = absurd (Contains-nil id one)
kill_of pass time (x ∷ xs) id one = ⊎_elim
    (λ (e : x.id ≡ id). (
      entry_of pass (Kill x.id (Expired time)) Nothing,
      Contains-append_left (end_entries pass x.id (Expired time) x.held) (expiry_entries pass time xs) (entry_of pass (Kill x.id (Expired time)) Nothing)
          (Contains-first (entry_of pass (Kill x.id (Expired time)) Nothing) (map (λ way. entry_of pass (Unhold x.id way) Nothing) (filter x.held all_ways))),
      ap (λ i. Kill i (Expired time)) e,
    ))
    (λ d. let r = kill_of pass time xs id d in
    (r.0, Contains-append_right (end_entries pass x.id (Expired time) x.held) (expiry_entries pass time xs) r.0 r.1, r.2))
    (Contains-cons_cases x.id id (map (λ (y : Killed). y.id) xs) one)
