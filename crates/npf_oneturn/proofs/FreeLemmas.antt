-- How connections are freed in a turn.
use Rattle.std.proofs.{Common.{◌≡◌, ◌≢◌, ℕ, ◌+◌, true, ◌==◌, List, [], ◌∷◌, ◌++◌, map, refl, sym, ap, ◌∙◌, subst, ⊎_elim, arith}, lemmas.Bool.cases_eq}
use Rattle.std.proofs.lemmas.Bool.Decides.{Decides-eqb}
use Rattle.npf_shelf.proofs.BoolLemmas.{cond-same}
use Rattle.npf_core.specs.{declared.{act.Act.{Act, TheVariants.Free}, conn_id.ConnId.ConnId, stage.Stage.TheVariants.{Vacant, Dead}}, Allowed.MayFree}
use Rattle.npf_core.{specs.{Machine.{Machine, stage_of}, Meaning.Meaning, NextState.after_act}, proofs.LifeLemmas.{stage_of-is, moves}}
use Rattle.npf_oneturn_store.specs.{declared.store.Store.Store, Represents.Represents}
use Rattle.npf_oneturn.{specs.Work.{worked, Works, FreesAt, FreesBelow}, proofs.StayLemmas.dead_move}
use Rattle.npf_oneturn.proofs.WorkLemmas.{works_none, works_one, works_more, worked-append}

map_both : {X Y : Type 0} (f : X → Y) (xs ys : List X) → map f (xs ++ ys) ≡ map f xs ++ map f ys
map_both f [] ys = refl
map_both f (x ∷ xs) ys = ap (λ zs. f x ∷ zs) (map_both f xs ys)

module _ {S A R : Type 0} (m : Meaning S A R) (slots : ℕ) (k : Machine S) (seat : ℕ) where
  freed_vacant : (id other : ConnId) → other.slot ≡ id.slot → stage_of (after_act m k seat (Free id)) other ≡ Vacant
  freed_vacant id other e =
      let here : (id.slot == other.slot) ≡ true = (Decides-eqb id.slot other.slot).1 (sym e) in
      rw here (cond-same ((k.slot other.slot).inc == other.inc) Vacant)

  -- the slot's connection was freed
  pub frees_at : (id : ConnId) (slot : ℕ) (store : Store S) → id.slot ≡ slot → MayFree k id → Represents slots store (after_act m k seat (Free id)) → FreesAt m slots k seat slot store
  frees_at id slot store here may r = record {
    ids = id ∷ [];
    works = works_one m slots seat k store (Free id) may r;
    before = λ other dead. rw stage_of-is (dead_move m slots k seat (Free id) may other _ _ (moves m slots k seat other (Free id) may)
        (λ why e. absurd cc) (sym (stage_of-is (after_act m k seat (Free id)) other) ∙ dead));
    clean = λ other dead there. absurd (let vacant = sym (freed_vacant id other (there ∙ sym here)) ∙ dead in cc);
  }

  -- no slot yet
  pub frees_first : (store : Store S) → Represents slots store k → FreesBelow m slots k seat 0 store
  frees_first store r = record { ids = []; works = works_none m slots seat k store r; before = λ id dead. dead; clean = λ id dead below. absurd (omega (arith, below)) }

  -- and the next slot
  pub frees_next : (slot : ℕ) (old new : Store S) → (f : FreesBelow m slots k seat slot old) →
      FreesAt m slots (worked m k seat (map (λ id. Free id) f.ids)) seat slot new → FreesBelow m slots k seat (slot + 1) new
  frees_next slot old new f next =
      let free : ConnId → Act S A = λ id. Free id in
      let both : map free (f.ids ++ next.ids) ≡ map free f.ids ++ map free next.ids = map_both free f.ids next.ids in
      let all = works_more m slots seat k old new (map free f.ids) (map free next.ids) f.works next.works in
      let on : worked m k seat (map free (f.ids ++ next.ids)) ≡ worked m (worked m k seat (map free f.ids)) seat (map free next.ids) =
      ap (worked m k seat) both ∙ worked-append m seat k (map free f.ids) (map free next.ids) in
      record {
        ids = f.ids ++ next.ids;
        works = subst (λ (acts : List (Act S A)). Works m slots k seat new acts) (sym both) all;
        before = λ id dead. f.before id (next.before id (ap (λ l. stage_of l id) (sym on) ∙ dead));
        clean = λ id dead below.
            let then : stage_of (worked m (worked m k seat (map free f.ids)) seat (map free next.ids)) id ≡ Dead = ap (λ l. stage_of l id) (sym on) ∙ dead in
            ⊎_elim
            (λ (e : id.slot ≡ slot). next.clean id then e)
            (λ (ne : id.slot ≢ slot). f.clean id (next.before id then) (omega (arith, below, ne)))
            (cases_eq id.slot slot);
      }
