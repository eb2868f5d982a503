-- An explanation holds in a longer history too.
use Rattle.std.proofs.Common.{◌≡◌, ℕ, Bool, true, false, ◌==◌, cond, List, [], ◌∷◌, ◌++◌, Option, refl, sym, ap, subst, ◌∙◌, append_assoc, append-nil}
use Rattle.std.{specs.{Prelude.if◌then◌else◌, List.Contains}, proofs.lemmas.List.Elements.Contains-append_right}
use Rattle.npf_core.specs.declared.act.{Act.TheVariants.{Claim, Look, Hold, Start, Step, Kill, Unhold, Free}, Why.TheVariants.{Abandoned, Expired}}
use Rattle.npf_core.specs.{declared.conn_id.ConnId.ConnId, History.{Legal, LegalFrom, after, by, state_from}, Machine.{Machine, opening}}
use Rattle.npf_core.proofs.{HistoryLemmas.{LegalFrom-front, LegalFrom-rest, by-append}, LifeLemmas.life_of}
use Rattle.npf_connections.specs.{Pass.Pass, Said.under}
use Rattle.npf_flow.specs.{declared.flow.Flow.Flow, Flows.flow_law}
use Rattle.npf_model.specs.Configuration.{Configuration}
use Rattle.npf_publish.specs.declared.conf_reader.ConfReader.{ConfReader}
use Rattle.npf_engine_opening.specs.Saying.{FlowSaid}
use Rattle.npf_engine.specs.{declared.outcome.Outcome.Outcome, Arrival.Arrival, Explains.{Explains, ExplainsIp, IsDecided, Sight}}
use Rattle.npf_engine.specs.Handles.{CarryHereAlone, ExplainsInLonger, Handles, carried}
use Rattle.npf_engine.specs.Histories.{FlowAct, FlowEntry, History, builds, carries, entries_after, entries_of, is_one_of_ids, told, with_claimed}
use Rattle.npf_engine.proofs.OwnLemmas.{CarryNone, IsPast, given_up_is_past, past_builds_none, same_by_own, started_is_past, stays_past}
use Rattle.npf_engine.proofs.TellingLemmas.{HasEnd, IsTold, TellsOpening, claimed_after, claimed_told, either_told, ends_behind, entries_told, nothing, opens_told, quoted_told, told_more}

none_claimed : {n : ℕ} {said : List FlowSaid} → IsTold n [] said [] → TellsOpening n said
none_claimed is = record { last = []; is_told = is; ended = λ id none. absurd cc }

ruled_told : {bytes facts sight config mapped ruled : _} {arrival : Arrival} {said : List FlowSaid} {outcome : Outcome} {sent : Option (List ℕ)} →
    IsDecided bytes facts sight arrival config mapped ruled said outcome sent → TellsOpening arrival.number said
ruled_told IsDecided.unruled = none_claimed nothing
ruled_told (IsDecided.blocked blocks) = none_claimed nothing
ruled_told (IsDecided.passed decided none sends) = none_claimed nothing
ruled_told (IsDecided.tried decided one opens tried) = opens_told opens

-- what explains an outcome is told
pub explained_told : {configs : List Configuration} {sight : Sight} {arrival : Arrival} {asked : Option ℕ} {said : List FlowSaid} {outcome : Outcome} {sent : Option (List ℕ)} →
    Explains configs sight arrival asked said outcome sent → TellsOpening arrival.number said
explained_told (Explains.fragment held) = none_claimed nothing
explained_told (Explains.skip free decodes) = none_claimed nothing
explained_told (Explains.malformed free decodes) = none_claimed nothing
explained_told {arrival = arrival} (Explains.ip free decodes (ExplainsIp.to_conn looks by)) = none_claimed (either_told arrival.number [] looks)
explained_told {arrival = arrival} (Explains.ip free decodes (ExplainsIp.to_quoted looks there asked by)) =
    none_claimed (told_more (either_told arrival.number [] looks) (quoted_told [] asked))
explained_told {arrival = arrival} (Explains.ip free decodes (ExplainsIp.to_rules {looked = looked} {quoted = quoted} looks there asked ruled)) =
    let opening = ruled_told ruled in
    record {
      last = opening.last;
      is_told = told_more (either_told arrival.number [] looks) (told_more (quoted_told [] asked) opening.is_told);
      ended = λ id is. ends_behind looked (ends_behind quoted (opening.ended id is));
    }

-- an entry starts the connection or gives it up
data HasEndIn (id : ConnId) : History → Type 0 where
  start_there : {x : FlowEntry} {xs : History} (packet : ℕ) (init : Flow) → x.act ≡ Start id packet init → HasEndIn id (x ∷ xs)
  kill_there : {x : FlowEntry} {xs : History} → x.act ≡ Kill id Abandoned → HasEndIn id (x ∷ xs)
  further : {x : FlowEntry} {xs : History} → HasEndIn id xs → HasEndIn id (x ∷ xs)

in_entries : {id : ConnId} {said : List FlowSaid} (seat : ℕ) → HasEnd id said → HasEndIn id (under seat said)
in_entries seat (HasEnd.has_start packet init is) = start_there packet init is
in_entries seat (HasEnd.has_kill is) = kill_there is
in_entries seat (HasEnd.has_later ends) = further (in_entries seat ends)

in_all : {id : ConnId} (seat : ℕ) (entries : History) → HasEndIn id (by seat entries) → HasEndIn id entries
in_all seat [] ends = ends
in_all {id} seat (entry ∷ entries) ends = at_test (in_all seat entries) (entry.seat == seat) ends
  where
    at_entry : {own : History} → (HasEndIn id own → HasEndIn id entries) → HasEndIn id (entry ∷ own) → HasEndIn id (entry ∷ entries)
    at_entry rest (start_there packet init is) = start_there packet init is
    at_entry rest (kill_there is) = kill_there is
    at_entry rest (further there) = further (rest there)

    at_test : (HasEndIn id (by seat entries) → HasEndIn id entries) → (b : Bool) → HasEndIn id (cond b (entry ∷ by seat entries) (by seat entries)) → HasEndIn id (entry ∷ entries)
    at_test rest true there = at_entry rest there
    at_test rest false there = further (rest there)

-- behind its start or its end a connection is Building no more
ended_is_past : (slots : ℕ) (k : Machine Flow) (entries : History) (id : ConnId) → LegalFrom flow_law slots k entries → HasEndIn id entries → IsPast (life_of (state_from flow_law k entries) id)
ended_is_past slots k [] id legal ends = elim ends [ ]
ended_is_past slots k (entry ∷ entries) id legal (start_there packet init is) =
    stays_past slots (after flow_law k entry) entries id legal.1 (started_is_past slots k entry id legal.0 packet init is)
ended_is_past slots k (entry ∷ entries) id legal (kill_there is) =
    stays_past slots (after flow_law k entry) entries id legal.1 (given_up_is_past slots k entry id legal.0 is)
ended_is_past slots k (entry ∷ entries) id legal (further there) = ended_is_past slots (after flow_law k entry) entries id legal.1 there

builds_none : (act : FlowAct) → builds [] act ≡ false
builds_none (Claim packet slot) = refl
builds_none (Look packet key) = refl
builds_none (Hold id key way) = refl
builds_none (Start id packet init) = refl
builds_none (Step packet id way arg) = refl
builds_none (Kill id Abandoned) = refl
builds_none (Kill id (Expired now)) = refl
builds_none (Unhold id way) = refl
builds_none (Free id) = refl

module _ (n : ℕ) where
  first_carries_none : (entry : FlowEntry) (entries : History) → carried n (entry ∷ entries) ≡ [] → (carries n entry.act ≡ false) × (carried n entries ≡ [])
  first_carries_none entry entries none = at_test (carries n entry.act) refl none
    where
      at_test : (b : Bool) → carries n entry.act ≡ b → cond b (entry ∷ carried n entries) (carried n entries) ≡ [] → (carries n entry.act ≡ false) × (carried n entries ≡ [])
      at_test true is none = absurd cc
      at_test false is none = (is, none)

  -- a front without the packet's number has no entry of it
  pub none_in_front : (xs ys : History) → carried n xs ≡ [] → entries_after n [] (xs ++ ys) ≡ entries_after n [] ys
  none_in_front [] ys none = refl
  none_in_front (x ∷ xs) ys none =
      let first = first_carries_none x xs none in
      rw (first.0, builds_none x.act) (none_in_front xs ys first.1)

  -- nor does what is behind the ends of its connections
  none_behind : (slots : ℕ) (k : Machine Flow) (ids : List ConnId) (ys : History) → LegalFrom flow_law slots k ys →
      ((id : ConnId) → is_one_of_ids ids id ≡ true → IsPast (life_of k id)) → carried n ys ≡ [] → entries_after n ids ys ≡ []
  none_behind slots k ids [] legal past none = refl
  none_behind slots k ids (y ∷ ys) legal past none =
      let first = first_carries_none y ys none in
      let next : (id : ConnId) → is_one_of_ids ids id ≡ true → IsPast (life_of (after flow_law k y) id) =
      λ id is. stays_past slots k (y ∷ []) id (legal.0, tt) (past id is) in
      rw (first.0, past_builds_none slots k y ids legal.0 past) (none_behind slots (after flow_law k y) ids ys legal.1 next first.1)

  -- the packet's entries of two parts
  abbrev IsAppended : List ConnId → History → History → Type 0
  IsAppended ids xs ys = entries_after n ids (xs ++ ys) ≡ entries_after n ids xs ++ entries_after n (claimed_after n ids xs) ys

  entries-append : (ids : List ConnId) (xs ys : History) → IsAppended ids xs ys
  entries-append ids [] ys = refl
  entries-append ids (x ∷ xs) ys =
      at_tests (entries-append (if carries n x.act then with_claimed x.reply ids else ids) xs ys) (carries n x.act) refl (builds ids x.act) refl
    where
      at_tests : IsAppended (if carries n x.act then with_claimed x.reply ids else ids) xs ys → (c : Bool) → carries n x.act ≡ c → (b : Bool) → builds ids x.act ≡ b →
          IsAppended ids (x ∷ xs) ys
      at_tests rest true c b is = rw (claimed_after, c) (ap (λ (es : History). x ∷ es) (rw c at rest))
      at_tests rest false c true is = rw (claimed_after, c, is) (ap (λ (es : History). x ∷ es) (rw c at rest))
      at_tests rest false c false is = rw (claimed_after, c, is) (rw c at rest)

module _ (slots seat n : ℕ) (front rest later : History) (said : List FlowSaid) (own : by seat rest ≡ under seat said) (tells : TellsOpening n said)
    (legal : LegalFrom flow_law slots opening (front ++ (rest ++ later))) (before : carried n front ≡ []) (behind : carried n later ≡ [])
    (others : CarryNone slots n seat rest) where
  -- the packet's entries in the whole are what is told of what its pass said in the middle
  entries_whole : entries_of n (front ++ (rest ++ later)) ≡ under seat (told said)
  entries_whole =
      let k = state_from flow_law opening front in
      let middle : LegalFrom flow_law slots k (rest ++ later) = LegalFrom-rest flow_law slots opening front (rest ++ later) legal in
      let here : LegalFrom flow_law slots k rest = LegalFrom-front flow_law slots k rest later middle in
      let further : LegalFrom flow_law slots (state_from flow_law k rest) later = LegalFrom-rest flow_law slots k rest later middle in
      let same = same_by_own slots n seat k [] rest here (λ id none. absurd cc) others in
      let told_here : entries_after n [] rest ≡ under seat (told said) =
      same.entries_same ∙ ap (λ (es : History). entries_after n [] es) own ∙ entries_told seat tells.is_told in
      let ids : claimed_after n [] rest ≡ tells.last = same.claimed_same ∙ ap (λ (es : History). claimed_after n [] es) own ∙ claimed_told seat tells.is_told in
      let past : (id : ConnId) → is_one_of_ids tells.last id ≡ true → IsPast (life_of (state_from flow_law k rest) id) =
      λ id is. ended_is_past slots k rest id here (in_all seat rest (subst (λ (es : History). HasEndIn id es) (sym own) (in_entries seat (tells.ended id is)))) in
      let none : entries_after n (claimed_after n [] rest) later ≡ [] =
      ap (λ (those : List ConnId). entries_after n those later) ids ∙ none_behind n slots (state_from flow_law k rest) tells.last later further past behind in
      none_in_front n front (rest ++ later) before ∙ entries-append n [] rest later ∙ (λ i. told_here i ++ none i) ∙ append-nil (under seat (told said))

-- the entries of a packet in a longer history are what is told of what its pass said
pub entries_in_longer : (configs : List Configuration) (old new : Pass FlowEntry) (reader next : ConfReader) (arrival : Arrival) (outcome : Outcome) (sent : Option (List ℕ)) (history : History) →
    Legal flow_law old.slots history → CarryHereAlone arrival.number old new history → (h : Handles configs old new reader next arrival outcome sent) →
    entries_of arrival.number history ≡ under old.number (told h.said)
entries_in_longer configs old new reader next arrival outcome sent history legal carry h =
    ap (λ (es : History). entries_of arrival.number es) whole
    ∙ entries_whole old.slots old.number arrival.number old.history h.did.adds.rest carry.later h.said h.did.adds.own (explained_told h.explains)
    (subst (λ (es : History). LegalFrom flow_law old.slots opening es) whole legal) carry.before carry.behind
    (λ entry there. carry.others entry (subst (λ (es : History). Contains es entry) (sym h.did.adds.goes_on) (Contains-append_right old.history h.did.adds.rest entry there)))
  where
    whole : history ≡ old.history ++ (h.did.adds.rest ++ carry.later)
    whole = carry.goes_on ∙ ap (λ (es : History). es ++ carry.later) h.did.adds.goes_on ∙ append_assoc old.history h.did.adds.rest carry.later

pub explains_in_longer : ExplainsInLonger
explains_in_longer configs old new reader next arrival outcome sent history end one two legal carry within ends h = record {
  seat = old.number;
  before = old.history;
  after = new.history;
  said = h.said;
  begins = record { rest = h.did.adds.rest; goes_on = h.did.adds.goes_on };
  within = within;
  ends = ends;
  own = ap (λ (es : History). by old.number es) h.did.adds.goes_on ∙ by-append old.number old.history h.did.adds.rest ∙ ap (λ (es : History). by old.number old.history ++ es) h.did.adds.own;
  entries = entries_in_longer configs old new reader next arrival outcome sent history legal carry h;
  explains = h.explains;
}
