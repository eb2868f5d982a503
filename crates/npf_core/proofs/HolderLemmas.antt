-- Who holds a key, and how an entry changes it.
use Rattle.std.proofs.{Common.{◌≡◌, ℕ, ◌+◌, Bool, true, false, [], Option, Some, None, cond, refl, ap, sym, ◌∙◌, arith, ◌≢◌}, lemmas.Bool.Decides.nat_tests}
use Rattle.npf_types.specs.declared.key.{Key.Key, Way.Way}
use Rattle.npf_shelf.proofs.OptionLemmas.{Some-injective}
use Rattle.npf_core.specs.declared.{act.Act.{Act, TheVariants.{Claim, Look, Hold, Start, Step, Kill, Unhold, Free}}, conn_id.ConnId.ConnId, entry.Entry.Entry}
use Rattle.npf_core.specs.{declared.{found.Found.Found, slot.Slot.Slot, stage.Stage.TheVariants.Vacant}, Allowed.{Allows, MayHold, MayUnhold, MayFree}}
use Rattle.npf_core.specs.{History.{MayFollow, after, state_of}, HolderLaw.{HoldersAreClaimed, UnclaimedHoldNone, HoldsOneAWay, ClaimsWithNone, InEachState}}
use Rattle.npf_core.specs.{Machine.{Machine, opening, stage_at, stage_of, is_key, IsClaimed, Holds}, Meaning.Meaning}
use Rattle.npf_core.{specs.{NextState.{is_found, holder_or, holder_after, given_up}, Replies.claimed_id}, proofs.HistoryLemmas.by_entries}
use Rattle.npf_core.proofs.LifeLemmas.{Life, stage_in, stage_of-is, life_of, Moves, keeps, claims, starts, steps, abandons, expires, frees, entry_moves}
use Rattle.npf_core.proofs.EqualityLemmas.{is_key-Decides, is_found-Decides}

-- what an act makes of a key's holder
pub data Passes {S A : Type 0} (act : Act S A) (key : Key) : Option Found → Option Found → Type 0 where
  rests : {x : Option Found} → Passes act key x x
  gives : (found : Found) → act ≡ Hold found.id key found.way → Passes act key None (Some found)
  loses : (found : Found) → act ≡ Unhold found.id found.way → Passes act key (Some found) None

hold_passes : {S A : Type 0} (id : ConnId) (given key : Key) (way : Way) (x : Option Found) (same : Bool) → is_key given key ≡ same →
    Passes {S = S} {A = A} (Hold id given way) key x (cond same (holder_or x (record { id = id; way = way })) x)
hold_passes id given key way None true e = gives (record { id = id; way = way }) (ap (λ g. Hold id g way) ((is_key-Decides given key).0 e))
hold_passes id given key way (Some holder) true e = rests
hold_passes id given key way x false e = rests

unhold_passes : {S A : Type 0} (id : ConnId) (key : Key) (way : Way) (holder : Found) (same : Bool) → is_found holder (record { id = id; way = way }) ≡ same →
    Passes {S = S} {A = A} (Unhold id way) key (Some holder) (cond same None (Some holder))
unhold_passes id key way holder true e =
    let found : Found = record { id = id; way = way } in
    let same : holder ≡ found = (is_found-Decides holder found).0 e in
    loses holder (ap (λ (f : Found). Unhold f.id f.way) (sym same))
unhold_passes id key way holder false e = rests

-- an act passes each key on so
pub passes : {S A : Type 0} (act : Act S A) (key : Key) (x : Option Found) → Passes act key x (holder_after act key x)
passes (Hold id given way) key x = hold_passes id given key way x (is_key given key) refl
passes (Unhold id way) key None = rests
passes (Unhold id way) key (Some holder) = unhold_passes id key way holder (is_found holder (record { id = id; way = way })) refl
passes (Claim packet slot) key x = rests
passes (Look packet key') key x = rests
passes (Start id packet init) key x = rests
passes (Step packet id way arg) key x = rests
passes (Kill id why) key x = rests
passes (Free id) key x = rests

module _ {S A R : Type 0} (m : Meaning S A R) (slots : ℕ) (k : Machine S) where
  -- what is allowed, by the act that it is
  pub may_hold : (seat : ℕ) (act : Act S A) (id : ConnId) (key : Key) (way : Way) → act ≡ Hold id key way → Allows m slots k seat act → MayHold k seat id way
  may_hold seat act id key way e h = rw e at h

  pub may_unhold : (seat : ℕ) (act : Act S A) (id : ConnId) (way : Way) → act ≡ Unhold id way → Allows m slots k seat act → MayUnhold k id way
  may_unhold seat act id way e h = rw e at h

  pub may_free : (seat : ℕ) (act : Act S A) (id : ConnId) → act ≡ Free id → Allows m slots k seat act → MayFree k id
  may_free seat act id e h = rw e at h

  pub after_hold : (entry : Entry S A R) (id other : ConnId) (key : Key) (way : Way) → entry.act ≡ Hold id key way → stage_of (after m k entry) other ≡ stage_of k other
  after_hold entry id other key way e = rw e refl

-- a claimed identity stays claimed by an entry that doesn't free it
pub claimed_moves : {S A R : Type 0} (m : Meaning S A R) (entry : Entry S A R) (id : ConnId) (x y : Life S) →
    Moves m entry.seat entry.act entry.reply id x y → ¬ (entry.act ≡ Free id) → IsClaimed (stage_in x) → IsClaimed (stage_in y)
claimed_moves m entry id _ _ (keeps silent) free h = h
claimed_moves m entry id _ _ (claims packet act reply) free h = tt
claimed_moves m entry id _ _ (starts packet init act answer) free h = tt
claimed_moves m entry id _ _ (steps packet way arg flow n act reply) free h = tt
claimed_moves m entry id _ _ (abandons act answer) free h = tt
claimed_moves m entry id _ _ (expires now flow n act answer due) free h = tt
claimed_moves m entry id _ _ (frees act answer) free h = absurd (free act)

next_vacant : {S : Type 0} (slot : Slot S) → stage_at slot (slot.inc + 1) ≡ Vacant
next_vacant slot = grind (arith, nat_tests)

module _ {S A R : Type 0} (m : Meaning S A R) (slots : ℕ) where
  -- by one entry
  pub claimed_by : (k : Machine S) (entry : Entry S A R) (id : ConnId) → MayFollow m slots k entry → ¬ (entry.act ≡ Free id) →
      IsClaimed (stage_of k id) → IsClaimed (stage_of (after m k entry) id)
  claimed_by k entry id f free h =
      let before : IsClaimed (stage_in (life_of k id)) = rw stage_of-is at h in
      rw stage_of-is (claimed_moves m entry id _ _ (entry_moves m slots k entry id f) free before)

  module _ (k : Machine S) (entry : Entry S A R) (follows : MayFollow m slots k entry) where
    held_claimed : HoldersAreClaimed k → (key : Key) (found : Found) (x y : Option Found) → Passes entry.act key x y → k.holder key ≡ x → y ≡ Some found →
        IsClaimed (stage_of (after m k entry) found.id)
    held_claimed claimed key found _ _ (rests {x}) was now =
        let holds : k.holder key ≡ Some found = was ∙ now in
        claimed_by k entry found.id follows
        (λ free. (may_free m slots k entry.seat entry.act found.id free follows.allowed).none found.way key holds)
        (claimed key found holds)
    held_claimed claimed key found _ _ (gives given act) was now =
        let same : given ≡ found = cc in
        let hold = may_hold m slots k entry.seat entry.act given.id key given.way act follows.allowed in
        rw (← same, after_hold m slots k entry given.id given.id key given.way act, hold.built) tt
    held_claimed claimed key found _ _ (loses lost act) was now = absurd cc

    -- who is given a key of a way held none of that way
    given_none : (given : Found) (key : Key) → entry.act ≡ Hold given.id key given.way →
        (other : Key) (id : ConnId) (way : Way) → Holds k id way other → ¬ (Some given ≡ Some (record { id = id; way = way }))
    given_none given key act other id way holds e =
        let same : given ≡ record { id = id; way = way } = cc in
        (may_hold m slots k entry.seat entry.act given.id key given.way act follows.allowed).none other (holds ∙ ap (λ f. Some f) (sym same))

    -- two keys of one way, of which one was given by this entry, can't both be held
    held_once : HoldsOneAWay k → (id : ConnId) (way : Way) (key other : Key) (x y u v : Option Found) →
        Passes entry.act key x y → Passes entry.act other u v → k.holder key ≡ x → k.holder other ≡ u →
        y ≡ Some (record { id = id; way = way }) → v ≡ Some (record { id = id; way = way }) → key ≡ other
    held_once once id way key other _ _ _ _ rests rests wx wu ny nv = once id way key other (wx ∙ ny) (wu ∙ nv)
    held_once once id way key other _ _ _ _ rests (gives given act) wx wu ny nv =
        absurd (given_none given other act key id way (wx ∙ ny) nv)
    held_once once id way key other _ _ _ _ (gives given act) rests wx wu ny nv =
        absurd (given_none given key act other id way (wu ∙ nv) ny)
    held_once once id way key other _ _ _ _ (gives given act) (gives given' act') wx wu ny nv = cc
    held_once once id way key other _ _ _ _ (loses lost act) _ wx wu ny nv = absurd cc
    held_once once id way key other _ _ _ _ _ (loses lost act) wx wu ny nv = absurd cc

  -- a key's holder is claimed
  pub holders_claimed : InEachState m slots HoldersAreClaimed
  holders_claimed history legal =
      by_entries m slots (λ _ k. HoldersAreClaimed k)
      (λ past k entry h f key found e. held_claimed k entry f h key found _ _ (passes entry.act key (k.holder key)) refl e)
      [] opening history (λ key found e. absurd cc) legal

  unclaimed_none : (k : Machine S) → HoldersAreClaimed k → UnclaimedHoldNone k
  unclaimed_none k claimed id way unclaimed key holds = rw unclaimed at (claimed key (record { id = id; way = way }) holds)

  -- an identity that isn't claimed holds no key
  pub unclaimed_hold_none : InEachState m slots UnclaimedHoldNone
  unclaimed_hold_none history legal = unclaimed_none (state_of m history) (holders_claimed history legal)

  -- a connection holds one key of a way at most
  pub hold_one_a_way : InEachState m slots HoldsOneAWay
  hold_one_a_way history legal =
      by_entries m slots (λ _ k. HoldsOneAWay k)
      (λ past k entry h f id way key other e g.
      held_once k entry f h id way key other _ _ _ _ (passes entry.act key (k.holder key)) (passes entry.act other (k.holder other)) refl refl e g)
      [] opening history (λ id way key other e g. absurd cc) legal

  -- an identity that is claimed next holds no key
  pub claim_with_none : InEachState m slots ClaimsWithNone
  claim_with_none history legal slot way =
      let k = state_of m history in
      unclaimed_hold_none history legal (claimed_id k slot) way (next_vacant (k.slot slot))

-- what is given up is nobody's, and what isn't somebody's doesn't become so
pub given_up_gone : (holder : Option Found) (found : Found) → given_up holder found ≢ Some found
given_up_gone None found e = absurd cc
given_up_gone (Some other) found e = by_found (is_found other found) refl e
  where
    by_found : (same : Bool) → is_found other found ≡ same → cond same None (Some other) ≡ Some found → ⊥
    by_found true same f = absurd cc
    by_found false same f =
        let yes : is_found other found ≡ true = (is_found-Decides other found).1 (Some-injective other found f) in
        absurd (let no : false ≡ true = sym same ∙ yes in let never : ⊥ = cc in never)
