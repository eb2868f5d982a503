-- The classes of which the lists of offers are gone through.
use Rattle.std.proofs.Common.{◌≡◌, ℕ, ◌<◌, ◌∙◌, refl, sym, ap, subst, append-nil, append_assoc, arith, List, [], ◌∷◌, ◌++◌, length, reverse, Global, Vec}
use Rattle.std.{specs.List.AllZip, proofs.lemmas.{List.reverse-append, Slice.Zip.all_zipped_more}}
use Rattle.npf_traffic.specs.declared.packet.Packet.{Packet}
use Rattle.npf_pieces.specs.declared.{arrived.Arrived.Arrived, piece.Piece.Piece}
use Rattle.npf_reass_sets.specs.declared.class.ClassSets.{ClassSets}
use Rattle.npf_reass_run.specs.Gathering.{HasListed, IsArrivedOffer}

abbrev pub OfferList : Type 0
OfferList = Vec (ℕ × Piece) Global

abbrev pub IsClassOf : List Packet → OfferList → ClassSets → Type 0
IsClassOf packets list class = HasListed packets list.items class

-- all but the rest of the lists have their classes
pub record HasArrived (packets : List Packet) (all rest : List OfferList) (classes : List ClassSets)
    : Type 0 where
  pub done : List OfferList
  pub is : all ≡ done ++ rest
  pub each : AllZip (IsClassOf packets) done classes

-- a list that has a place has an element
pub some_of : {X : Type 0} (xs : List X) (i : ℕ) → i < length xs → X
some_of [] i h = absurd (omega (arith, h))
some_of (x ∷ xs) i h = x

-- of a list the offers from a place on have their pieces, of which the last came first
pub record HasTaken (packets : List Packet) (all rest : List (ℕ × Piece)) (arrived : List Arrived)
    : Type 0 where
  pub done : List (ℕ × Piece)
  pub is : all ≡ rest ++ done
  pub each : AllZip (IsArrivedOffer packets) done (reverse arrived)

module _ (packets : List Packet) (all : List (ℕ × Piece)) where
  pub none_taken : HasTaken packets all all []
  none_taken = record { done = []; is = sym (append-nil all); each = search }

  pub taken_more : (before after : List (ℕ × Piece)) (offer : ℕ × Piece) (arrived : List Arrived)
      (a : Arrived) → before ≡ after ++ offer ∷ [] → HasTaken packets all before arrived
      → IsArrivedOffer packets offer a → HasTaken packets all after (arrived ++ a ∷ [])
  taken_more before after offer arrived a is has one = record {
    done = offer ∷ has.done;
    is = has.is
        ∙ ap (λ (l : List (ℕ × Piece)). l ++ has.done) is
        ∙ append_assoc after (offer ∷ []) has.done;
    each = subst (λ (l : List Arrived). AllZip (IsArrivedOffer packets) (offer ∷ has.done) l)
        (sym (reverse-append arrived (a ∷ []))) (one, has.each);
  }

  pub all_taken : (rest : List (ℕ × Piece)) (arrived : List Arrived) → rest ≡ []
      → HasTaken packets all rest arrived
      → AllZip (IsArrivedOffer packets) all (reverse arrived)
  all_taken rest arrived none has =
      let whole = has.is ∙ ap (λ (l : List (ℕ × Piece)). l ++ has.done) none in
      subst (λ (l : List (ℕ × Piece)). AllZip (IsArrivedOffer packets) l (reverse arrived))
      (sym whole) has.each

module _ (packets : List Packet) (all : List OfferList) where
  pub none_arrived : HasArrived packets all all []
  none_arrived = record { done = []; is = refl; each = search }

  pub arrived_next : (before after : List OfferList) (list : OfferList)
      (classes : List ClassSets) (class : ClassSets) → before ≡ list ∷ after
      → HasArrived packets all before classes → IsClassOf packets list class
      → HasArrived packets all after (classes ++ class ∷ [])
  arrived_next before after list classes class is has one = record {
    done = has.done ++ list ∷ [];
    is = has.is
        ∙ ap (λ (l : List OfferList). has.done ++ l) is
        ∙ sym (append_assoc has.done (list ∷ []) after);
    each = all_zipped_more (IsClassOf packets) has.done classes list class has.each one;
  }

  pub all_arrived : (rest : List OfferList) (classes : List ClassSets) → rest ≡ []
      → HasArrived packets all rest classes → AllZip (IsClassOf packets) all classes
  all_arrived rest classes none has =
      let whole = has.is
      ∙ ap (λ (l : List OfferList). has.done ++ l) none
      ∙ append-nil has.done in
      subst (λ (l : List OfferList). AllZip (IsClassOf packets) l classes) (sym whole) has.each
