-- The life of an identity, from before its claim to after it was freed, and how an entry moves it.
use Rattle.std.proofs.Common.{◌≡◌, ℕ, ◌+◌, ◌-◌, ◌^◌, ◌<◌, min, Bool, true, false, ◌&&◌, ◌==◌, cond, None, IsTrue, refl, ap, sym, ◌∙◌, arith}
use Rattle.std.{specs.Prelude.{nat_lt, if◌then◌else◌}, proofs.lemmas.Bool.{Decides.{nat_tests, Decides-eqb, Decides-ltb, not_from_Decides}, and_right}}
use Rattle.npf_types.specs.declared.key.Way.{Way}
use Rattle.npf_core.specs.declared.act.{Act.{Act, TheVariants.{Claim, Look, Hold, Start, Step, Kill, Unhold, Free}}, Why.TheVariants.{Abandoned, Expired}}
use Rattle.npf_core.specs.declared.{conn_id.ConnId.ConnId, entry.Entry.Entry, reply.Reply.{Reply, TheVariants.{Nothing, ToClaim, ToStep}}, slot.Slot.Slot}
use Rattle.npf_core.specs.{declared.{stage.Stage.{Stage, TheVariants.{Vacant, Building, Live, Dead}}, stepped.Stepped.Stepped}, Allowed.{Allows, IsDue}}
use Rattle.npf_core.specs.{History.{MayFollow, after}, Machine.{opening, Machine, stage_at, stage_of, IsClaimed}, Meaning.Meaning}
use Rattle.npf_core.specs.{NextState.{is_id, stepped, after_act}, Replies.{claimed_id, step_answer, reply_of}, ReplayLaw.{start_of, step_of}}
use Rattle.npf_core.proofs.EqualityLemmas.{same_conn_id}

-- not claimed yet, Building under a seat, Live with a flow and a count of steps, Dead, or freed
pub data Life (S : Type 0) : Type 0 where
  to_come : Life S
  built : ℕ → Life S
  lives : S → ℕ → Life S
  killed : Life S
  gone : Life S

abbrev pub life_in : {S : Type 0} → Stage S → Life S
life_in Vacant = gone
life_in (Building seat) = built seat
life_in (Live flow steps) = lives flow steps
life_in Dead = killed

abbrev pub life_at : {S : Type 0} → Slot S → ℕ → Life S
life_at slot inc = if nat_lt slot.inc inc then to_come else (if slot.inc == inc then life_in slot.stage else gone)

abbrev pub life_of : {S : Type 0} → Machine S → ConnId → Life S
life_of k id = life_at (k.slot id.slot) id.inc

-- the stage that a life shows
abbrev pub stage_in : {S : Type 0} → Life S → Stage S
stage_in to_come = Vacant
stage_in (built seat) = Building seat
stage_in (lives flow steps) = Live flow steps
stage_in killed = Dead
stage_in gone = Vacant

stage_in-life_in : {S : Type 0} (x : Stage S) → stage_in (life_in x) ≡ x
stage_in-life_in Vacant = refl
stage_in-life_in (Building seat) = refl
stage_in-life_in (Live flow steps) = refl
stage_in-life_in Dead = refl

-- where an incarnation stands by the last one of its slot
pub life_at-later : {S : Type 0} (x : Slot S) (inc : ℕ) → x.inc < inc → life_at x inc ≡ to_come
life_at-later x inc h = grind (arith, nat_tests)

pub life_at-last : {S : Type 0} (x : Slot S) (inc : ℕ) → x.inc ≡ inc → life_at x inc ≡ life_in x.stage
life_at-last x inc h = grind (arith, nat_tests)

pub life_at-earlier : {S : Type 0} (x : Slot S) (inc : ℕ) → inc < x.inc → life_at x inc ≡ gone
life_at-earlier x inc h = grind (arith, nat_tests)

shown : {S : Type 0} (later last : Bool) (x : Stage S) → (later ≡ true → last ≡ true → ⊥) → cond last x Vacant ≡ stage_in (cond later to_come (cond last (life_in x) gone))
shown true true x h = absurd (h refl refl)
shown true false x h = refl
shown false true x h = sym (stage_in-life_in x)
shown false false x h = refl

not_both : (a b : ℕ) → nat_lt a b ≡ true → (a == b) ≡ true → ⊥
not_both a b l e = grind (arith, nat_tests)

pub stage_of-is : {S : Type 0} (k : Machine S) (id : ConnId) → stage_of k id ≡ stage_in (life_of k id)
stage_of-is k id = let x = k.slot id.slot in shown (nat_lt x.inc id.inc) (x.inc == id.inc) x.stage (not_both x.inc id.inc)

-- a claimed identity is the last of its slot
pub IsClaimed-last : {S : Type 0} (x : Slot S) (inc : ℕ) → IsClaimed (stage_at x inc) → x.inc ≡ inc
IsClaimed-last x inc h = at_last (x.inc == inc) refl h
  where
    at_last : (last : Bool) → (x.inc == inc) ≡ last → IsClaimed (cond last x.stage Vacant) → x.inc ≡ inc
    at_last true e h = (Decides-eqb x.inc inc).0 e
    at_last false e h = absurd h

stage_at-last : {S : Type 0} (x : Slot S) (inc : ℕ) → x.inc ≡ inc → stage_at x inc ≡ x.stage
stage_at-last x inc h = grind (arith, nat_tests)

life_at-stage : {S : Type 0} (x : Slot S) (stage : Stage S) (inc : ℕ) → (x.inc == inc) ≡ false → life_at (record x { stage = stage }) inc ≡ life_at x inc
life_at-stage x stage inc e = rw e refl

-- an act on `other` is an act on this very identity, or leaves its life alone
pub data Touch {S : Type 0} (other id : ConnId) (was now before next : Life S) : Type 0 where
  own : other ≡ id → before ≡ was → next ≡ now → Touch other id was now before next
  apart : is_id other id ≡ false → next ≡ before → Touch other id was now before next

module _ {S : Type 0} (k : Machine S) (other id : ConnId) (f : Stage S → Stage S) (claimed : IsClaimed (stage_of k other)) where
  abbrev Touched : Life S → Type 0
  Touched next = Touch other id (life_in (stage_of k other)) (life_in (f (stage_of k other))) (life_of k id) next

  last : (k.slot other.slot).inc ≡ other.inc
  last = IsClaimed-last (k.slot other.slot) other.inc claimed

  at_slot : other.slot ≡ id.slot → (same : Bool) → (other.inc == id.inc) ≡ same → Touched (life_at (record (k.slot id.slot) { stage = f (k.slot id.slot).stage }) id.inc)
  at_slot slots true e =
      let x = k.slot id.slot in
      let slot : k.slot other.slot ≡ x = ap k.slot slots in
      let stage : stage_of k other ≡ x.stage = stage_at-last (k.slot other.slot) other.inc last ∙ ap (λ (y : Slot S). y.stage) slot in
      let incs : other.inc ≡ id.inc = (Decides-eqb other.inc id.inc).0 e in
      let here : x.inc ≡ id.inc = sym (ap (λ (y : Slot S). y.inc) slot) ∙ last ∙ incs in
      own (same_conn_id other id (slots, incs)) (life_at-last x id.inc here ∙ ap life_in (sym stage))
      (life_at-last (record x { stage = f x.stage }) id.inc here ∙ ap (λ y. life_in (f y)) (sym stage))
  at_slot slots false e =
      let x = k.slot id.slot in
      let here : x.inc ≡ other.inc = sym (ap (λ (y : Slot S). y.inc) (ap k.slot slots)) ∙ last in
      apart (and_right (other.slot == id.slot) (other.inc == id.inc) e) (life_at-stage x (f x.stage) id.inc (ap (λ n. n == id.inc) here ∙ e))

  pub touch : Touched (life_at (cond (other.slot == id.slot) (record (k.slot id.slot) { stage = f (k.slot id.slot).stage }) (k.slot id.slot)) id.inc)
  touch = by_slot (other.slot == id.slot) refl
    where
      by_slot : (here : Bool) → (other.slot == id.slot) ≡ here → Touched (life_at (cond here (record (k.slot id.slot) { stage = f (k.slot id.slot).stage }) (k.slot id.slot)) id.inc)
      by_slot true e = at_slot ((Decides-eqb other.slot id.slot).0 e) (other.inc == id.inc) refl
      by_slot false e = apart (ap (λ b. b && (other.inc == id.inc)) e) refl

-- the entry says nothing of this identity's claim, start and steps
pub record IsSilent {S A R : Type 0} (act : Act S A) (reply : Reply R) (id : ConnId) : Type 0 where
  pub start : start_of id act ≡ None
  pub step : step_of id act reply ≡ None
  pub claim : ¬ (reply ≡ ToClaim id)

-- what an entry makes of an identity's life: there is one way through it
pub data Moves {S A R : Type 0} (m : Meaning S A R) (seat : ℕ) (act : Act S A) (reply : Reply R) (id : ConnId) : Life S → Life S → Type 0 where
  keeps : {x : Life S} → IsSilent act reply id → Moves m seat act reply id x x
  claims : (packet : ℕ) → act ≡ Claim packet id.slot → reply ≡ ToClaim id → Moves m seat act reply id to_come (built seat)
  starts : (packet : ℕ) (init : S) → act ≡ Start id packet init → reply ≡ Nothing → Moves m seat act reply id (built seat) (lives init 1)
  steps : (packet : ℕ) (way : Way) (arg : A) (flow : S) (n : ℕ) → act ≡ Step packet id way arg → reply ≡ ToStep (Stepped.Done (m.answer flow way arg) n) →
      Moves m seat act reply id (lives flow n) (lives (m.next flow way arg) (min (n + 1) (2 ^ 64 - 1)))
  abandons : act ≡ Kill id Abandoned → reply ≡ Nothing → Moves m seat act reply id (built seat) killed
  expires : (now : ℕ) (flow : S) (n : ℕ) → act ≡ Kill id (Expired now) → reply ≡ Nothing → IsTrue (m.is_due flow now) → Moves m seat act reply id (lives flow n) killed
  frees : act ≡ Free id → reply ≡ Nothing → Moves m seat act reply id killed gone

module _ {S A R : Type 0} (m : Meaning S A R) (seat : ℕ) (act : Act S A) (reply : Reply R) (id : ConnId) where
  at_ends : {before was next now : Life S} → before ≡ was → next ≡ now → Moves m seat act reply id was now → Moves m seat act reply id before next
  at_ends {before} {was} {next} {now} b n moves = rw (b, n) moves

  by_touch : {other : ConnId} {was now before next : Life S} → Touch other id was now before next →
      (other ≡ id → Moves m seat act reply id was now) → (is_id other id ≡ false → IsSilent act reply id) → Moves m seat act reply id before next
  by_touch (own same b n) move silent = at_ends b n (move same)
  by_touch (apart other n) move silent = at_ends refl n (keeps (silent other))

before_next : (a b : ℕ) → (a + 1 == b) ≡ false → nat_lt (a + 1) b ≡ false → b < a + 1
before_next a b s l = grind (arith, nat_tests)

life_at-vacant : {S : Type 0} (x : Slot S) (inc : ℕ) → x.stage ≡ Vacant → inc < x.inc + 1 → life_at x inc ≡ gone
life_at-vacant x inc e h = last_or (x.inc == inc) refl
  where
    last_or : (last : Bool) → (x.inc == inc) ≡ last → life_at x inc ≡ gone
    last_or true s = life_at-last x inc ((Decides-eqb x.inc inc).0 s) ∙ ap life_in e
    last_or false s = life_at-earlier x inc (let ne : x.inc ≡ inc → ⊥ = not_from_Decides _ (Decides-eqb x.inc inc) s in omega arith)

pub IsClaimed-is : {S : Type 0} (stage x : Stage S) → stage ≡ x → IsClaimed x → IsClaimed stage
IsClaimed-is stage x e h = rw e h

pub IsDue-claimed : {S A R : Type 0} (m : Meaning S A R) (now : ℕ) (stage : Stage S) → IsDue m now stage → IsClaimed stage
IsDue-claimed m now Vacant h = h
IsDue-claimed m now (Building seat) h = tt
IsDue-claimed m now (Live flow n) h = tt
IsDue-claimed m now Dead h = tt

step_silent : {S A R : Type 0} (m : Meaning S A R) (packet : ℕ) (other id : ConnId) (way : Way) (arg : A) (stage : Stage S) → is_id other id ≡ false →
    IsSilent {S = S} (Step packet other way arg) (ToStep (step_answer m way arg stage)) id
step_silent m packet other id way arg Vacant e = record { start = refl; step = refl; claim = λ e. cc }
step_silent m packet other id way arg (Building seat) e = record { start = refl; step = refl; claim = λ e. cc }
step_silent m packet other id way arg (Live flow n) e = record { start = refl; step = rw e refl; claim = λ e. cc }
step_silent m packet other id way arg Dead e = record { start = refl; step = refl; claim = λ e. cc }

step_moves : {S A R : Type 0} (m : Meaning S A R) (seat packet : ℕ) (other id : ConnId) (way : Way) (arg : A) (stage : Stage S) → other ≡ id →
    Moves m seat (Step packet other way arg) (ToStep (step_answer m way arg stage)) id (life_in stage) (life_in (stepped m way arg stage))
step_moves m seat packet other id way arg Vacant same = keeps (record { start = refl; step = refl; claim = λ e. cc })
step_moves m seat packet other id way arg (Building by) same = keeps (record { start = refl; step = refl; claim = λ e. cc })
step_moves m seat packet other id way arg (Live flow n) same = steps packet way arg flow n (ap (λ o. Step packet o way arg) same) refl
step_moves m seat packet other id way arg Dead same = keeps (record { start = refl; step = refl; claim = λ e. cc })

expire_moves : {S A R : Type 0} (m : Meaning S A R) (seat now : ℕ) (other id : ConnId) (stage : Stage S) → IsDue m now stage → other ≡ id →
    Moves m seat (Kill other (Expired now)) Nothing id (life_in stage) killed
expire_moves m seat now other id Vacant h same = absurd h
expire_moves m seat now other id (Building by) h same = absurd h
expire_moves m seat now other id (Live flow n) h same = expires now flow n (ap (λ o. Kill o (Expired now)) same) refl h
expire_moves m seat now other id Dead h same = absurd h

module _ {S A R : Type 0} (m : Meaning S A R) (k : Machine S) (seat packet slot : ℕ) (id : ConnId) (unclaimed : (k.slot slot).stage ≡ Vacant) where
  abbrev Claims : Life S → Type 0
  Claims next = Moves m seat (Claim packet slot) (ToClaim (claimed_id k slot)) id (life_of k id) next

  another : (slot ≡ id.slot → (k.slot slot).inc + 1 ≡ id.inc → ⊥) → IsSilent {S = S} {A = A} {R = R} (Claim packet slot) (ToClaim (claimed_id k slot)) id
  another h = record {
    start = refl;
    step = refl;
    claim = λ e. let same : claimed_id k slot ≡ id = cc in h (ap (λ (o : ConnId). o.slot) same) (ap (λ (o : ConnId). o.inc) same);
  }

  not_last : slot ≡ id.slot → ((k.slot id.slot).inc + 1 == id.inc) ≡ false → slot ≡ id.slot → (k.slot slot).inc + 1 ≡ id.inc → ⊥
  not_last slots s _ incs = not_from_Decides _ (Decides-eqb _ id.inc) s (sym (ap (λ s. (k.slot s).inc + 1) slots) ∙ incs)

  ends : {was next now : Life S} → life_of k id ≡ was → next ≡ now → Moves m seat (Claim packet slot) (ToClaim (claimed_id k slot)) id was now → Claims next
  ends before next moves = at_ends m seat (Claim packet slot) (ToClaim (claimed_id k slot)) id before next moves

  at_claim : slot ≡ id.slot → (same later : Bool) → ((k.slot id.slot).inc + 1 == id.inc) ≡ same → nat_lt ((k.slot id.slot).inc + 1) id.inc ≡ later →
      Claims (life_at (record { inc = (k.slot id.slot).inc + 1; stage = Building seat }) id.inc)
  at_claim slots true later s l =
      let x = k.slot id.slot in
      let incs : x.inc + 1 ≡ id.inc = (Decides-eqb (x.inc + 1) id.inc).0 s in
      let same : claimed_id k slot ≡ id = same_conn_id (claimed_id k slot) id (slots, ap (λ s. (k.slot s).inc + 1) slots ∙ incs) in
      ends (life_at-later x id.inc (omega arith)) (life_at-last (record { inc = x.inc + 1; stage = Building seat }) id.inc incs)
      (claims packet (ap (λ s. Claim packet s) slots) (ap ToClaim same))
  at_claim slots false true s l =
      let x = k.slot id.slot in
      let later : x.inc + 1 < id.inc = (Decides-ltb (x.inc + 1) id.inc).0 l in
      ends (life_at-later x id.inc (omega arith)) (life_at-later (record { inc = x.inc + 1; stage = Building seat }) id.inc later) (keeps (another (not_last slots s)))
  at_claim slots false false s l =
      let x = k.slot id.slot in
      let earlier : id.inc < x.inc + 1 = before_next x.inc id.inc s l in
      ends (life_at-vacant x id.inc (sym (ap (λ s. (k.slot s).stage) slots) ∙ unclaimed) earlier)
      (life_at-earlier (record { inc = x.inc + 1; stage = Building seat }) id.inc earlier) (keeps (another (not_last slots s)))

  claim_moves : Claims (life_at (cond (slot == id.slot) (record { inc = (k.slot id.slot).inc + 1; stage = Building seat }) (k.slot id.slot)) id.inc)
  claim_moves = by_slot (slot == id.slot) refl
    where
      by_slot : (here : Bool) → (slot == id.slot) ≡ here → Claims (life_at (cond here (record { inc = (k.slot id.slot).inc + 1; stage = Building seat }) (k.slot id.slot)) id.inc)
      by_slot true e = at_claim ((Decides-eqb slot id.slot).0 e) _ _ refl refl
      by_slot false e = keeps (another (λ slots incs. not_from_Decides _ (Decides-eqb slot id.slot) e slots))

-- an allowed act moves each identity so
module _ {S A R : Type 0} (m : Meaning S A R) (slots : ℕ) (k : Machine S) (seat : ℕ) (id : ConnId) where
  abbrev Moved : Act S A → Type 0
  Moved act = Moves m seat act (reply_of m k act) id (life_of k id) (life_of (after_act m k seat act) id)

  pub moves : (act : Act S A) → Allows m slots k seat act → Moved act
  moves (Claim packet slot) h = claim_moves m k seat packet slot id h.unclaimed
  moves (Look packet key) h = keeps (record { start = refl; step = refl; claim = λ e. cc })
  moves (Hold other key way) h = keeps (record { start = refl; step = refl; claim = λ e. cc })
  moves (Start other packet init) h =
      by_touch m seat (Start other packet init) Nothing id (touch k other id (λ _. Live init 1) (IsClaimed-is _ _ h tt))
      (λ same. at_ends m seat (Start other packet init) Nothing id (ap life_in h) refl (starts packet init (ap (λ o. Start o packet init) same) refl))
      (λ e. record { start = rw e refl; step = refl; claim = λ e. cc })
  moves (Step packet other way arg) h =
      by_touch m seat (Step packet other way arg) _ id (touch k other id (λ stage. stepped m way arg stage) h)
      (step_moves m seat packet other id way arg (stage_of k other)) (step_silent m packet other id way arg (stage_of k other))
  moves (Kill other Abandoned) h =
      by_touch m seat (Kill other Abandoned) Nothing id (touch k other id (λ _. Dead) (IsClaimed-is _ _ h tt))
      (λ same. at_ends m seat (Kill other Abandoned) Nothing id (ap life_in h) refl (abandons (ap (λ o. Kill o Abandoned) same) refl))
      (λ e. record { start = refl; step = refl; claim = λ e. cc })
  moves (Kill other (Expired now)) h =
      by_touch m seat (Kill other (Expired now)) Nothing id (touch k other id (λ _. Dead) (IsDue-claimed m now _ h))
      (expire_moves m seat now other id (stage_of k other) h)
      (λ e. record { start = refl; step = refl; claim = λ e. cc })
  moves (Unhold other way) h = keeps (record { start = refl; step = refl; claim = λ e. cc })
  moves (Free other) h =
      by_touch m seat (Free other) Nothing id (touch k other id (λ _. Vacant) (IsClaimed-is _ _ h.killed tt))
      (λ same. at_ends m seat (Free other) Nothing id (ap life_in h.killed) refl (frees (ap (λ o. Free o) same) refl))
      (λ e. record { start = refl; step = refl; claim = λ e. cc })

-- an entry that may follow moves each identity so
pub entry_moves : {S A R : Type 0} (m : Meaning S A R) (slots : ℕ) (k : Machine S) (entry : Entry S A R) (id : ConnId) → MayFollow m slots k entry →
    Moves m entry.seat entry.act entry.reply id (life_of k id) (life_of (after m k entry) id)
entry_moves m slots k entry id h = rw h.replied (moves m slots k entry.seat id entry.act h.allowed)

-- in the opening state each identity is to come, but for those with the number 0, of which there are none
pub life_of-opening : {S : Type 0} (P : Life S → Type 0) (id : ConnId) → P to_come → P gone → P (life_of opening id)
life_of-opening {S} P id t g = by_tests (nat_lt 0 id.inc) (0 == id.inc)
  where
    by_tests : (later equal : Bool) → P (cond later to_come (cond equal gone gone))
    by_tests true _ = t
    by_tests false true = g
    by_tests false false = g
