-- What is claimed lies in one of the slots.
use Rattle.std.proofs.{Common.{◌≡◌, ◌<◌, ◌+◌, ℕ, List, ◌∷◌, ◌++◌, length, take, drop, get_or, sym, ap, subst, ◌∙◌}, lemmas.List.{drop_more, take-append-drop}}
use Rattle.npf_core.specs.declared.{act.Act.{Act, TheVariants.{Claim, Look, Hold, Start, Step, Kill, Unhold, Free}}, conn_id.ConnId.ConnId, entry.Entry.Entry}
use Rattle.npf_core.specs.{declared.reply.Reply.TheVariants.ToClaim, Allowed.Allows, History.{Legal, state_of}, Machine.{Machine, stage_of, IsClaimed}}
use Rattle.npf_core.{specs.{Meaning.Meaning, Replies.{claimed_id, reply_of}}, proofs.{ClaimedLemmas.was_claimed, HistoryLemmas.MayFollow-split}}

-- an item stands between those before it and those behind it
split_at : {E : Type 0} (xs : List E) (x : E) (n : ℕ) → n < length xs → get_or xs n x ≡ x → xs ≡ take n xs ++ x ∷ drop (n + 1) xs
split_at xs x n within is =
    sym (take-append-drop n xs) ∙ ap (λ rest. take n xs ++ rest) (drop_more xs n x within ∙ ap (λ y. y ∷ drop (n + 1) xs) is)

module _ {S A R : Type 0} (m : Meaning S A R) (slots : ℕ) where
  claim_within : (k : Machine S) (seat : ℕ) (act : Act S A) (id : ConnId) → Allows m slots k seat act → reply_of m k act ≡ ToClaim id → id.slot < slots
  claim_within k seat (Claim packet slot) id allowed replied =
      let same : claimed_id k slot ≡ id = cc in
      subst (λ (s : ℕ). s < slots) (ap (λ (i : ConnId). i.slot) same) allowed.exists
  claim_within k seat (Look packet key) id allowed replied = absurd cc
  claim_within k seat (Hold other key way) id allowed replied = absurd cc
  claim_within k seat (Start other packet init) id allowed replied = absurd cc
  claim_within k seat (Step packet other way arg) id allowed replied = absurd cc
  claim_within k seat (Kill other why) id allowed replied = absurd cc
  claim_within k seat (Unhold other way) id allowed replied = absurd cc
  claim_within k seat (Free other) id allowed replied = absurd cc

  pub slot_exists : (history : List (Entry S A R)) (id : ConnId) → Legal m slots history → IsClaimed (stage_of (state_of m history) id) → id.slot < slots
  slot_exists history id legal claimed =
      let claim = was_claimed m slots history id legal claimed in
      let n = claim.stands.0 in
      let split = split_at history claim.entry n claim.stands.1 claim.stands.2 in
      let follows = MayFollow-split m slots (take n history) (drop (n + 1) history) claim.entry (subst (Legal m slots) split legal) in
      claim_within (state_of m (take n history)) claim.entry.seat claim.entry.act id follows.allowed (sym follows.replied ∙ claim.replied)
