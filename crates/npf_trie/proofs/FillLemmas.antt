-- A place is filled under its lock.
use Rattle.std.{proofs.Common.{◌≡◌, ℕ, ◌<◌, Some, None, length, List, [], ◌∷◌, refl, sym, ap, ◌∙◌, subst, inl, arith}, specs.List.Contains}
use Rattle.atomic_table.specs.Table.{Me}
use Rattle.npf_core.specs.{Meaning.Meaning, declared.{held.Held.Held, found.Found.Found}}
use Rattle.npf_types.specs.declared.key.{Key.Key, Way.Way}
use Rattle.npf_paths.specs.{declared.{cell.Cell.{Cell, TheVariants.{Empty, Leaf, Node, Mark}}, place.{Lock.Lock, Place.Place}}, Places.lock_of}
use Rattle.npf_cells_holds.specs.{declared.aim.Aim.Aim, Aims.{MayAim, TellsAim, aim_key}, HoldKinds.MayHoldSo, LockKinds.locking, LookKinds.StandsOnPath}
use Rattle.npf_cells_words.specs.{declared.layout.Layout.Layout, Codes.place_code, Layout.note_field}
use Rattle.npf_cells_rule.specs.{declared.view.CellView.CellView, Views.{with_trie, with_pools}}
use Rattle.npf_cells_leaves.specs.declared.trie.{LoadedLeaf.LoadedLeaf, TrieSide.TrieSide}
use Rattle.npf_cells_lives.specs.declared.pools.StoredWord.{StoredWord}
use Rattle.npf_cells_holds.specs.PublishKinds.{HasStoredKey, MayPublish, MayPublishFor, Published, PutsFor.fills}
use Rattle.npf_trie.specs.declared.step.{LeafKey.{LeafKey, TheVariants.{Holder, Other}}, Point.Point, Step.{Step, TheVariants.{Ends, Leads, Again, Anew}}}
use Rattle.npf_trie.specs.{declared.step.Wanted.Wanted, HoldKey.{CanHold, IsAtPlace, StepsSo, TellsMet}, LookUp.ComparesWords, Stores.MayStoreKey}
use Rattle.npf_turn.proofs.MarkLemmas.{none_in_place}
use Rattle.npf_trie.proofs.StoreLemmas.{noting}
use Rattle.npf_trie.proofs.HoldLemmas.{comes_after, comes_then, steps_so, StaysOn, stays_after, stays_trie, stays_stored, at_after, may_after}
use Rattle.npf_trie.proofs.StepLemmas.{Comes, Loads, node_leads, mark_anew, sees_empty, empty_stays, holder_read_ends, other_read_stays, published_ends}

-- what a load for the key asks, and tells
pub aims_there : (digest : Key → ℕ) (side : TrieSide) (wanted : Wanted) (p : Place) (aim : Aim) → aim ≡ Aim.Hold wanted.id wanted.key wanted.way →
    StandsOnPath digest side wanted.key p → StandsOnPath digest side (aim_key aim) p
aims_there digest side wanted p aim aimed on = subst (λ (x : Aim). StandsOnPath digest side (aim_key x) p) (sym aimed) on

pub aims_so : {S A R : Type 0} (m : Meaning S A R) (v : CellView S A R) (wanted : Wanted) (aim : Aim) →
    aim ≡ Aim.Hold wanted.id wanted.key wanted.way → MayHoldSo m v wanted.id wanted.way → MayAim m v aim
aims_so m v wanted aim aimed may = subst (λ (x : Aim). MayAim m v x) (sym aimed) may

pub aim_tells : {S A R F : Type 0} (m : Meaning S A R) (digest : Key → ℕ) (layout : Layout) (wanted : Wanted) (point : Point) (aim : Aim) (cell : Cell) (a b : Me F (CellView S A R)) →
    aim ≡ Aim.Hold wanted.id wanted.key wanted.way →
    TellsAim m digest layout aim point.place cell a b → Loads m digest layout wanted point cell a b
aim_tells m digest layout wanted point aim cell a b aimed tells = subst (λ (x : Aim). TellsAim m digest layout x point.place cell a b) aimed tells

-- a pass at a place of the path that has the place's lock, and may put the leaf of the key there: it is ready since it began with none
pub record IsReady {S A R F : Type 0} (m : Meaning S A R) (digest : Key → ℕ) (layout : Layout) (wanted : Wanted) (point : Point) (a d : Me F (CellView S A R)) : Type 0 where
  pub stays : StaysOn a d
  pub may : MayHoldSo m d.0 wanted.id wanted.way
  pub exists : wanted.id.slot < layout.slots
  pub stored : ¬ Contains d.0.pools.unstored wanted.id.slot
  pub key_stored : HasStoredKey layout d.0.pools.stored wanted.id.slot wanted.way wanted.key
  pub at : IsAtPlace digest layout d.0 wanted.key point
  pub nodes : d.0.pools.nodes ≡ []
  pub locks : d.0.trie.locks ≡ lock_of point.place ∷ []
  pub unmarked : d.0.trie.marks ≡ []
  pub free : a.0.trie.locks ≡ []
  pub turnless : d.0.turn ≡ None

-- it stored the key and got the lock
pub ready_now : {S A R F : Type 0} (m : Meaning S A R) (digest : Key → ℕ) (layout : Layout) (wanted : Wanted) (point : Point) (lock : Lock) (words : List StoredWord) (a b d : Me F (CellView S A R)) →
    CanHold m layout a.0 wanted.id wanted.way → a.0.trie.marks ≡ [] → IsAtPlace digest layout a.0 wanted.key point →
    lock ≡ lock_of point.place → b ≡ with_pools a (record a.0.pools { stored = words }) →
    HasStoredKey layout b.0.pools.stored wanted.id.slot wanted.way wanted.key → d ≡ with_trie b (locking lock b.0.trie) → IsReady m digest layout wanted point a d
ready_now {S} {A} {R} {F} m digest layout wanted point lock words a b d can unmarked at is_lock stores has gets =
    let stays = stays_after a b d (stays_stored a b words stores) (stays_trie b d _ gets refl) in
    record {
      stays = stays;
      may = may_after m a d wanted.id wanted.way stays can.may;
      exists = can.exists;
      stored = λ inside. can.stored (subst (λ slots. Contains slots wanted.id.slot) stays.keeps.unstored inside);
      key_stored = subst (λ (y : Me F (CellView S A R)). HasStoredKey layout y.0.pools.stored wanted.id.slot wanted.way wanted.key) (sym gets) has;
      at = at_after digest layout a d wanted.key point (ap (λ (y : Me F (CellView S A R)). y.0.trie.stands) gets ∙ ap (λ (y : Me F (CellView S A R)). y.0.trie.stands) stores) at;
      nodes = stays.keeps.nodes ∙ can.nodes;
      locks = ap (λ (y : Me F (CellView S A R)). y.0.trie.locks) gets ∙ (ap (λ locks. lock ∷ locks) (ap (λ (y : Me F (CellView S A R)). y.0.trie.locks) stores ∙ can.locks) ∙ ap (λ l. l ∷ []) is_lock);
      unmarked = ap (λ (y : Me F (CellView S A R)). y.0.trie.marks) gets ∙ (ap (λ (y : Me F (CellView S A R)). y.0.trie.marks) stores ∙ unmarked);
      free = can.locks;
      turnless = stays.keeps.turn ∙ can.turnless;
    }

-- it stored the key, and didn't get the lock since the place's node is taken off
pub left_anew : {S A R F : Type 0} (m : Meaning S A R) (digest : Key → ℕ) (layout : Layout) (wanted : Wanted) (point : Point) (words : List StoredWord) (a b d : Me F (CellView S A R)) →
    b ≡ with_pools a (record a.0.pools { stored = words }) → d ≡ b → StepsSo m digest layout wanted point Anew a d
left_anew {S} {A} {R} {F} m digest layout wanted point words a b d stores same =
    let is = same ∙ stores in
    steps_so m digest layout wanted point Anew a d (stays_stored a d words is) (ap (λ (y : Me F (CellView S A R)). y.0.trie.locks) is)

module _ {S A R F : Type 0} {m : Meaning S A R} {digest : Key →
    ℕ} {layout : Layout} {wanted : Wanted} {point : Point} {a d : Me F (CellView S A R)} (ready : IsReady m digest layout wanted point a d) where
  -- behind what it comes to under the lock the pass has no other
  pub only_lock : (step : Step) (e e' : Me F (CellView S A R)) (lock : Lock) → e' ≡ e → lock ≡ lock_of point.place → Comes m digest layout wanted point step d e → e'.0.trie.locks ≡ lock ∷ []
  only_lock step e e' lock same is came = ap (λ (y : Me F (CellView S A R)). y.0.trie.locks) same ∙ (came.locks ∙ (ready.locks ∙ ap (λ l. l ∷ []) (sym is)))

  -- and has marked no node
  pub still_unmarked : (step : Step) (e e' : Me F (CellView S A R)) → e' ≡ e → Comes m digest layout wanted point step d e → e'.0.trie.marks ≡ []
  still_unmarked step e e' same came = ap (λ (y : Me F (CellView S A R)). y.0.trie.marks) same ∙ (came.marks ∙ ready.unmarked)

  -- and frees it
  pub freed_so : (step step' : Step) (e e' f : Me F (CellView S A R)) → step' ≡ step → e' ≡ e → f ≡ with_trie e' (record e'.0.trie { locks = []; emptied = None; met_mark = None }) →
      Comes m digest layout wanted point step d e → StepsSo m digest layout wanted point step' a f
  freed_so step step' e e' f step_is same frees came =
      let came' : Comes m digest layout wanted point step d e' = subst (λ (y : Me F (CellView S A R)). Comes m digest layout wanted point step d y) (sym same) came in
      subst (λ (x : Step). StepsSo m digest layout wanted point x a f) (sym step_is) (steps_so m digest layout wanted point step a f
      (comes_after m digest layout wanted point step a d f ready.stays (comes_then m digest layout wanted point step d e' f _ came'.comes frees refl refl refl))
      (ap (λ (y : Me F (CellView S A R)). y.0.trie.locks) frees ∙ sym ready.free))

  module _ {aim : Aim} (aimed : aim ≡ Aim.Hold wanted.id wanted.key wanted.way) where
    abbrev Tells : Cell → Me F (CellView S A R) → Type 0
    Tells cell e = TellsAim m digest layout aim point.place cell d e

    loads_so : (cell : Cell) (e : Me F (CellView S A R)) → Tells cell e → Loads m digest layout wanted point cell d e
    loads_so cell e tells = aim_tells m digest layout wanted point aim cell d e aimed tells

    pub came_node : (node : ℕ) (e : Me F (CellView S A R)) → Tells (Node node) e → Comes m digest layout wanted point (Leads node) d e
    came_node node e tells = node_leads m digest layout wanted point node d e (loads_so (Node node) e tells) ready.at

    pub came_mark : (e : Me F (CellView S A R)) → Tells Mark e → Comes m digest layout wanted point Anew d e
    came_mark e tells = mark_anew m digest layout wanted point d e (loads_so Mark e tells)

    module _ (slot : ℕ) (way : Way) (e f : Me F (CellView S A R)) (tells : Tells (Leaf slot way) e) (compares : ComparesWords 5 e f) where
      abbrev pub IsTold : LeafKey → Type 0
      IsTold met = (leaf : LoadedLeaf) → e.0.trie.leaf ≡ Some leaf → length leaf.key.0 ≡ 5 → TellsMet leaf wanted.key met

      pub came_holder : (found : Found) → IsTold (Holder found) → Comes m digest layout wanted point (Ends (Held.Taken found)) d f
      came_holder found told = holder_read_ends m digest layout wanted point slot way d e (loads_so (Leaf slot way) e tells) f compares found told

      pub came_other : (other : Key) → IsTold (Other other) → Comes m digest layout wanted point Again d f
      came_other other told = other_read_stays m digest layout wanted point slot way d e (loads_so (Leaf slot way) e tells) f compares other told ready.at

    -- where nothing stands the leaf may be put there
    module _ (e : Me F (CellView S A R)) (tells : Tells Empty e) where
      loads : Loads m digest layout wanted point Empty d e
      loads = loads_so Empty e tells

      stayed : Comes m digest layout wanted point Again d e
      stayed = empty_stays m digest layout wanted point d e loads ready.at

      pub may_note : MayStoreKey m e.0 wanted.id.slot wanted.way
      may_note = record { id = wanted.id; there = refl; hold = may_after m d e wanted.id wanted.way stayed.comes.0 ready.may }

      -- once its note names the place
      module _ (leaf : Cell) (aim' : Aim) (aimed' : aim' ≡ Aim.Hold wanted.id wanted.key wanted.way) (value : ℕ)
          (n : Me F (CellView S A R)) (noted : n ≡ noting wanted.id.slot wanted.way value e) where
        pub may_fill : value ≡ place_code point.place → leaf ≡ Leaf wanted.id.slot wanted.way → MayPublish m digest layout n.0 point.place leaf (Some aim')
        may_fill names leaf_is = subst (λ (x : Cell). MayPublish m digest layout n.0 point.place x (Some aim')) (sym leaf_is)
            (subst (λ (x : Aim). MayPublish m digest layout n.0 point.place (Leaf wanted.id.slot wanted.way) (Some x)) (sym aimed')
            (subst (λ (y : Me F (CellView S A R)). MayPublishFor m digest layout y.0 wanted.id wanted.key wanted.way point.place (Leaf wanted.id.slot wanted.way)) (sym noted) (record {
              hold = let may = may_after m d e wanted.id wanted.way stayed.comes.0 ready.may in record { built = may.built; bare = may.bare };
              stands = stayed.comes.1.stands;
              exists = ready.exists;
              key_stored = subst (λ (y : Me F (CellView S A R)). HasStoredKey layout y.0.pools.stored wanted.id.slot wanted.way wanted.key) (sym (loads.nothing (inl refl))) ready.key_stored;
              inc_stored = λ inside. ready.stored (subst (λ slots. Contains slots wanted.id.slot) stayed.comes.0.keeps.unstored inside);
              nodes = [];
              puts = fills (sees_empty m digest layout wanted point d e [] loads ready.locks);
              noted = (0, omega arith, λ i. record { slot = wanted.id.slot; field = note_field wanted.way; value = names i });
              unmarked = none_in_place e.0.trie.marks point.place (stayed.marks ∙ ready.unmarked);
              moves = λ t has. absurd (let no : None ≡ Some t = sym (stayed.comes.0.keeps.turn ∙ ready.turnless) ∙ has in cc);
            })))

        pub came_empty : (f : Me F (CellView S A R)) → Published m digest layout point.place leaf (Some aim') n f → Comes m digest layout wanted point (Ends Held.Done) d f
        came_empty f published =
            let held = subst (λ (x : Aim). Published m digest layout point.place leaf (Some x) n f) aimed' published in
            let ended = published_ends m digest layout wanted point leaf value e n f noted held (stayed.comes.0.keeps.nodes ∙ ready.nodes) (stayed.comes.0.keeps.turn ∙ ready.turnless) in
            record { comes = comes_after m digest layout wanted point (Ends Held.Done) d e f stayed.comes.0 ended.comes; locks = ended.locks ∙ stayed.locks; marks = ended.marks ∙ stayed.marks }
