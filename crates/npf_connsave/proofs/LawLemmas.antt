-- A table has one text.
use Rattle.std.{proofs.Common.{◌≡◌, zero, suc, Option, Some, None, List, [], ◌∷◌, Contains, refl, sym, ap, subst, ◌∙◌, inl, inr, arith}, specs.Prelude.◌⊎◌}
use Rattle.std.{specs.{Ordering.ordering_reverse, declared.cmp.Ordering.TheVariants.{Less, Equal, Greater}}, proofs.lemmas.Cmp.tied_itself}
use Rattle.std.proofs.lemmas.List.Elements.{All-contains}
use Rattle.npf_types.specs.{declared.key.{Key.Key, Way.{Way, TheVariants.{Forward, Backward, Port}}}, contracts.key.KeyOrd.TheImpl.Laws.total-law}
use Rattle.npf_core.specs.{declared.{conn_id.ConnId.ConnId, stage.Stage.TheVariants.Live}, Copying.HoldsIf, HolderLaw.HoldsOneAWay, History.state_of}
use Rattle.npf_core.{specs.Machine.Machine, proofs.HolderLemmas.hold_one_a_way}
use Rattle.npf_flow.specs.{declared.flow.Flow.Flow, Flows.flow_law}
use Rattle.npf_saved.specs.{declared.saved.Saved.Saved, File.saved_text}
use Rattle.npf_saved_file.specs.Conns.{AreRising, ComesBefore}
use Rattle.npf_connsave.{specs.{Laws.{OneSavedText, SavesAsLoaded}, Saves.{AreSavedOf, IsSavedAs, saved_flow}}, proofs.CopyLemmas.{one_holder, saved_live}}

-- two lists that rise and have the same items are one
first_or_rest : (one other : Saved) (rest : List Saved) → Contains (one ∷ rest) other → (one ≡ other) ⊎ Contains rest other
first_or_rest one other rest (zero, within, is) = inl is
first_or_rest one other rest (suc k, within, is) = inr (k, omega (arith, within), is)

first_before : (one other : Saved) (rest : List Saved) → AreRising (one ∷ rest) → Contains rest other → ComesBefore one other
first_before one other rest rising (k, within, is) =
    subst (ComesBefore one) is (rising 0 (suc k) other (omega arith) (omega (arith, within)))

rest_rises : (one : Saved) (rest : List Saved) → AreRising (one ∷ rest) → AreRising rest
rest_rises one rest rising i j d near within = rising (suc i) (suc j) d (omega (arith, near)) (omega (arith, within))

not_itself : (one : Saved) → ¬ ComesBefore one one
not_itself one before = let tied = tied_itself total-law one.forward in let e : Less ≡ Equal = sym before ∙ tied in absurd cc

not_both : (one other : Saved) → ComesBefore one other → ¬ ComesBefore other one
not_both one other before behind =
    let e : Less ≡ Greater = sym before ∙ total-law.antisymm one.forward other.forward ∙ ap ordering_reverse behind in absurd cc

in_rest : (one other : Saved) (rest : List Saved) → Contains rest other → Contains (one ∷ rest) other
in_rest one other rest (k, within, is) = (suc k, omega (arith, within), is)

one_list : (xs ys : List Saved) → AreRising xs → AreRising ys → ((s : Saved) → Contains xs s → Contains ys s) → ((s : Saved) → Contains ys s → Contains xs s) → xs ≡ ys
one_list [] [] _ _ _ _ = refl
one_list [] (y ∷ ys) _ _ _ back = let there = back y (0, omega arith, refl) in let within = there.1 in absurd (omega (arith, within))
one_list (x ∷ xs) [] _ _ forth _ = let there = forth x (0, omega arith, refl) in let within = there.1 in absurd (omega (arith, within))
one_list (x ∷ xs) (y ∷ ys) rx ry forth back =
    let first = heads (first_or_rest y x ys (forth x (0, omega arith, refl))) (first_or_rest x y xs (back y (0, omega arith, refl))) in
    let rest = one_list xs ys (rest_rises x xs rx) (rest_rises y ys ry)
    (λ s there. later y ys s (λ same. absurd (not_itself x (subst (ComesBefore x) (sym same ∙ sym first) (first_before x s xs rx there)))) (forth s (in_rest x s xs there)))
    (λ s there. later x xs s (λ same. absurd (not_itself y (subst (ComesBefore y) (sym same ∙ first) (first_before y s ys ry there)))) (back s (in_rest y s ys there))) in
    ap (λ (s : Saved). s ∷ xs) first ∙ ap (λ (l : List Saved). y ∷ l) rest where
      heads : (y ≡ x) ⊎ Contains ys x → (x ≡ y) ⊎ Contains xs y → x ≡ y
      heads (inl same) _ = sym same
      heads (inr there) (inl same) = same
      heads (inr there) (inr also) = absurd (not_both y x (first_before y x ys ry there) (first_before x y xs rx also))

      later : (one : Saved) (rest : List Saved) (s : Saved) → ¬ (one ≡ s) → Contains (one ∷ rest) s → Contains rest s
      later one rest s differs there = elim (first_or_rest one s rest there) [ inl same ↦ absurd (differs same) | inr in_it ↦ in_it ]

module _ (k : Machine Flow) (one_key : HoldsOneAWay k) where
  same_key : (id : ConnId) (way : Way) (key other : Option Key) → HoldsIf k id way key → HoldsIf k id way other → key ≡ other
  same_key id way None None _ _ = refl
  same_key id way None (Some other) none holds = absurd (none other holds)
  same_key id way (Some key) None holds none = absurd (none key holds)
  same_key id way (Some key) (Some other) holds also = ap Some (one_key id way key other holds also)

  -- a connection is saved in one way
  one_saved : (id : ConnId) (saved other : Saved) → IsSavedAs k id saved → IsSavedAs k id other → saved ≡ other
  one_saved id saved other one two =
      let forward : saved.forward ≡ other.forward = one_key id Forward saved.forward other.forward one.forward two.forward in
      let port = same_key id Port saved.port other.port one.port two.port in
      let backward = same_key id Backward saved.backward other.backward one.backward two.backward in
      let both : Live one.flow one.steps ≡ Live two.flow two.steps = sym one.live ∙ two.live in
      let flow : one.flow ≡ two.flow = cc in
      let same : saved.flow ≡ other.flow = one.same ∙ ap saved_flow flow ∙ sym two.same in
      λ i. record { forward = forward i; port = port i; backward = backward i; flow = same i }

  among : (conns others : List Saved) → AreSavedOf k conns → AreSavedOf k others → (saved : Saved) → Contains conns saved → Contains others saved
  among conns others one two saved there =
      let mine = All-contains (λ (s : Saved). (id : ConnId) × IsSavedAs k id s) conns saved one.each there in
      let also = two.all mine.0 saved.forward (saved_live k mine.0 saved mine.1) mine.1.forward in
      let other = also.0 in
      let is = All-contains (λ (s : Saved). (id : ConnId) × IsSavedAs k id s) others other two.each also.1 in
      let id : is.0 ≡ mine.0 = one_holder k is.0 mine.0 saved.forward (subst (λ (key : Key). k.holder key ≡ Some (record { id = is.0; way = Forward })) also.2 is.1.forward) mine.1.forward in
      let same : other ≡ saved = one_saved mine.0 other saved (subst (λ (i : ConnId). IsSavedAs k i other) id is.1) mine.1 in
      subst (Contains others) same also.1

  pub one_saved_list : (conns others : List Saved) → AreSavedOf k conns → AreSavedOf k others → conns ≡ others
  one_saved_list conns others one two = one_list conns others one.rising two.rising (among conns others one two) (among others conns two one)

pub one_saved_text : OneSavedText
one_saved_text slots history names text other legal one two =
    let k = state_of flow_law history in
    one.spelled ∙ ap (saved_text names) (one_saved_list k (hold_one_a_way flow_law slots history legal) one.conns two.conns one.saved two.saved) ∙ sym two.spelled

pub saves_again : SavesAsLoaded
saves_again slots names text saved old new legal loads saving = one_saved_text slots new.history names saved text legal saving loads.same
