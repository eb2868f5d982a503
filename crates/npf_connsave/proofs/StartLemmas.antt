-- Connections loaded one behind the other.
use Rattle.std.proofs.Common.{◌≡◌, ◌<◌, ◌≤◌, ◌+◌, ℕ, zero, suc, Option, Some, None, List, [], ◌∷◌, ◌++◌, Contains, length, take, drop}
use Rattle.std.{proofs.Common.{get_or, refl, sym, ap, subst, ◌∙◌, append-nil, append_assoc, arith}, specs.List.flat_map}
use Rattle.std.proofs.lemmas.List.{drop_more, get_or-append-add, length-append, length-take-le, map-append, take-append-drop, take_more, Concat.flat_map-append}
use Rattle.std.proofs.lemmas.List.Elements.{All-nil, All-get_or, Contains-append_left, Contains-append_right}
use Rattle.npf_types.specs.declared.key.{Key.Key, Way.{Way, TheVariants.{Forward, Backward, Port}}}
use Rattle.npf_core.specs.{declared.{conn_id.ConnId.ConnId, found.Found.Found}, History.{IsPrefix, Legal, LegalFrom, state_of}, Machine.{Machine, opening}}
use Rattle.npf_core.proofs.{HistoryLemmas.{LegalFrom-rest, state_from-append}, HolderLemmas.claim_with_none}
use Rattle.npf_flow.specs.{declared.flow.Flow.Flow, Flows.flow_law}
use Rattle.npf_saved.specs.{declared.saved.Saved.Saved, Fields.FitsSaved}
use Rattle.npf_saved_file.specs.Conns.{AreDistinct, AreSavedConns, key_list, saved_keys}
use Rattle.npf_connsave.specs.Loads.{AllClaimed, AreFree, FlowEntry, LeavesFront, LeavesOne, StartsOne, StaysSole, View, key_entries, left_entries, load_entries, loaded_conns, loaded_entries}
use Rattle.npf_connsave.{specs.Saves.{AreSavedOf, IsSavedOf}, proofs.{BuiltLemmas.{AreLoaded, way_key}, KeysLemmas.parted, LoadLemmas.loads_one}}
use Rattle.npf_connsave.proofs.RoomLemmas.{has_all}

-- these were loaded since, and nothing else
pub record IsLoading (old now : View) (done : List Saved) : Type 0 where
  pub made : List (ConnId × Saved)
  pub conns : loaded_conns made ≡ done
  pub entries : now.history ≡ loaded_entries old.number made
  pub loaded : AreLoaded (state_of flow_law now.history) done

none_loaded : AreLoaded opening []
none_loaded = record {
  each = All-nil (IsSavedOf opening);
  held = λ key found is. absurd cc;
  slots = [];
  counted = refl;
  claimed = λ slot there. absurd there;
}

pub nothing_yet : (old : View) → old.history ≡ [] → IsLoading old old []
nothing_yet old new = record {
  made = [];
  conns = refl;
  entries = new;
  loaded = subst (λ (h : List FlowEntry). AreLoaded (state_of flow_law h) []) (sym new) none_loaded;
}

-- one more
pub one_started : (old now last : View) (done : List Saved) (saved : Saved) → IsLoading old now done → Legal flow_law now.slots now.history → Legal flow_law now.slots last.history
    → saved.flow.opener ≡ 0 → StaysSole old now → StartsOne now last saved → IsLoading old last (done ++ saved ∷ [])
one_started old now last done saved so_far legal after opener same starts =
    let id = starts.id in
    let goes = subst (λ (n : ℕ). last.history ≡ now.history ++ load_entries n id saved) same.number starts.entries in
    let k = state_of flow_law now.history in
    let entries = load_entries old.number id saved in
    let whole : Legal flow_law now.slots (now.history ++ entries) = subst (Legal flow_law now.slots) goes after in
    let rest : LegalFrom flow_law now.slots k entries = LegalFrom-rest flow_law now.slots opening now.history entries whole in
    let next = loads_one now.slots done old.number id k saved so_far.loaded (claim_with_none flow_law now.slots now.history legal) opener rest in
    record {
      made = so_far.made ++ (id, saved) ∷ [];
      conns = map-append (λ (one : ConnId × Saved). one.1) so_far.made ((id, saved) ∷ []) ∙ ap (λ (cs : List Saved). cs ++ saved ∷ []) so_far.conns;
      entries = goes ∙ ap (λ (h : List FlowEntry). h ++ entries) so_far.entries
          ∙ sym (flat_map-append (λ (one : ConnId × Saved). load_entries old.number one.0 one.1) so_far.made ((id, saved) ∷ [])
          ∙ ap (λ (es : List FlowEntry). loaded_entries old.number so_far.made ++ es) (append-nil entries));
      loaded = subst (λ (m : Machine Flow). AreLoaded m (done ++ saved ∷ [])) (sym (ap (state_of flow_law) goes ∙ state_from-append flow_law opening now.history entries)) next;
    }

-- a table with fewer connections than slots isn't full
pub has_room : (k : Machine Flow) (slots : ℕ) (done : List Saved) → AreLoaded k done → length done < slots → ¬ AllClaimed k slots
has_room k slots done loaded room full =
    let counted = loaded.counted in
    let many = has_all slots loaded.slots (λ s below. loaded.claimed s (full s below)) in
    omega (arith, counted, many, room)

-- a key of a connection stands among those of all
among_keys : (saved : Saved) (way : Way) (key : Key) → way_key saved way ≡ Some key → Contains (saved_keys saved) key
among_keys saved Forward key is = let same : saved.forward ≡ key = cc in subst (Contains (saved_keys saved)) same (0, omega arith, refl)
among_keys saved Port key is =
    subst (λ (port : Option Key). Contains (saved.forward ∷ (key_list port ++ key_list saved.backward)) key) (sym is) (1, omega arith, refl)
among_keys saved Backward key is =
    subst (λ (back : Option Key). Contains (saved.forward ∷ (key_list saved.port ++ key_list back)) key) (sym is)
    (Contains-append_right (saved.forward ∷ key_list saved.port) (key ∷ []) key (0, omega arith, refl))

among_all : (done : List Saved) (saved : Saved) (key : Key) (n : ℕ) → n < length done → get_or done n saved ≡ saved → Contains (saved_keys saved) key → Contains (flat_map saved_keys done) key
among_all [] saved key n within is there = absurd (omega (arith, within))
among_all (one ∷ done) saved key zero within is there =
    Contains-append_left (saved_keys one) (flat_map saved_keys done) key (subst (λ (s : Saved). Contains (saved_keys s) key) (sym is) there)
among_all (one ∷ done) saved key (suc n) within is there =
    Contains-append_right (saved_keys one) (flat_map saved_keys done) key (among_all done saved key n (omega (arith, within)) is there)

-- so the next one's keys are free
module _ (all : List Saved) (n : ℕ) (saved : Saved) (within : n < length all) (is : saved ≡ get_or all n saved) (good : AreSavedConns all) where
  all_split : all ≡ take n all ++ saved ∷ drop (n + 1) all
  all_split = sym (take-append-drop n all) ∙ ap (λ (rest : List Saved). take n all ++ rest) (drop_more all n saved within ∙ ap (λ (s : Saved). s ∷ drop (n + 1) all) (sym is))

  keys_split : flat_map saved_keys all ≡ flat_map saved_keys (take n all) ++ (saved_keys saved ++ flat_map saved_keys (drop (n + 1) all))
  keys_split = ap (flat_map saved_keys) all_split ∙ flat_map-append saved_keys (take n all) (saved ∷ drop (n + 1) all)

  keys_apart : AreDistinct (flat_map saved_keys (take n all) ++ (saved_keys saved ++ flat_map saved_keys (drop (n + 1) all)))
  keys_apart = subst AreDistinct keys_split good.distinct

  pub next_free : (k : Machine Flow) → AreLoaded k (take n all) → AreFree k (saved_keys saved)
  next_free k loaded key there = by (k.holder key) refl where
    by : (holder : Option Found) → k.holder key ≡ holder → holder ≡ None
    by None held = refl
    by (Some found) held =
        let mine = loaded.held key found held in
        let old = among_all (take n all) mine.0 key mine.1.0 mine.1.1 mine.1.2 (among_keys mine.0 found.way key mine.2) in
        absurd (parted (flat_map saved_keys (take n all)) (saved_keys saved ++ flat_map saved_keys (drop (n + 1) all)) key key keys_apart old
        (Contains-append_left (saved_keys saved) (flat_map saved_keys (drop (n + 1) all)) key there) refl)

  pub next_apart : AreDistinct (saved_keys saved)
  next_apart i j d near far same =
      let front = flat_map saved_keys (take n all) in
      let rest = flat_map saved_keys (drop (n + 1) all) in
      absurd (behind front (saved_keys saved) rest keys_apart i j d near far same) where
        behind : (xs ys zs : List Key) → AreDistinct (xs ++ (ys ++ zs)) → AreDistinct ys
        behind xs ys zs apart = λ i j d near far same.
            let long = length-append xs (ys ++ zs) in
            let more = length-append ys zs in
            apart (length xs + i) (length xs + j) d (omega (arith, near)) (omega (arith, long, more, far))
            (get_or-append-add xs (ys ++ zs) i d ∙ left ys zs i d (omega (arith, near, far)) ∙ same ∙ sym (left ys zs j d far) ∙ sym (get_or-append-add xs (ys ++ zs) j d)) where
              left : (ys zs : List Key) (i : ℕ) (d : Key) → i < length ys → get_or (ys ++ zs) i d ≡ get_or ys i d
              left (y ∷ ys) zs zero d within = refl
              left (y ∷ ys) zs (suc i) d within = left ys zs i d (omega (arith, within))
              left [] zs i d within = absurd (omega (arith, within))

  pub next_room : (k : Machine Flow) (slots : ℕ) → AreLoaded k (take n all) → length all ≤ slots → ¬ AllClaimed k slots
  next_room k slots loaded room = let long = length-take-le n all (omega (arith, within)) in has_room k slots (take n all) loaded (omega (arith, long, within, room))

  pub next_opener : saved.flow.opener ≡ 0
  next_opener = (subst FitsSaved (sym is) (All-get_or FitsSaved all n saved within good.fit)).flow.opener

  pub next_done : take (n + 1) all ≡ take n all ++ saved ∷ []
  next_done = take_more all n saved within ∙ ap (λ (s : Saved). take n all ++ s ∷ []) (sym is)

  -- or where there was no node for one of its keys
  pub front_left : (old now last : View) → IsLoading old now (take n all) → StaysSole old now → LeavesOne now last saved → LeavesFront old last all
  front_left old now last so_far same left = record {
    made = so_far.made;
    id = left.id;
    saved = saved;
    held = left.held;
    ways = left.ways;
    front = record {
      rest = drop (n + 1) all;
      goes_on = subst (λ (cs : List Saved). all ≡ (cs ++ saved ∷ []) ++ drop (n + 1) all) (sym so_far.conns)
          (all_split ∙ sym (append_assoc (take n all) (saved ∷ []) (drop (n + 1) all)));
    };
    part = subst (λ (m : ℕ). IsPrefix left.held (key_entries m left.id saved)) same.number left.part;
    entries = subst (λ (m : ℕ). last.history ≡ now.history ++ left_entries (record old { number = m }) left.id left.held left.ways) same.number left.entries
        ∙ ap (λ (h : List FlowEntry). h ++ left_entries old left.id left.held left.ways) so_far.entries;
    sweeps = let a = same.sweeps in let b = left.sweeps in omega (arith, a, b);
  }

-- when all are loaded, they are what is saved
pub all_saved : (k : Machine Flow) (all : List Saved) → AreLoaded k all → AreSavedConns all → AreSavedOf k all
all_saved k all loaded good = record {
  each = loaded.each;
  all = λ id key live holds.
      let there = loaded.held key (record { id = id; way = Forward }) holds in
      (there.0, there.1, let e : Some there.0.forward ≡ Some key = there.2 in cc);
  rising = good.rising;
}
