use Rattle.std.proofs.{Common.{◌≡◌, ℕ, ◌-◌, List, ◌++◌, length, take, drop, replicate}, Math.Seq.{take-append_seam, drop-append_seam}}
use Rattle.std.proofs.lemmas.List.{drop-replicate}
use Rattle.npf_types.proofs.name.padded.Goals as goal

front : (name zeros : List ℕ) → take (length name) (name ++ zeros) ≡ name
front name zeros = take-append_seam name zeros

rest : (name : List ℕ) → drop (length name) (name ++ drop (length name) (replicate 15 0)) ≡ replicate (15 - length name) 0
rest name = rw (drop-append_seam name (drop (length name) (replicate 15 0)), drop-replicate {X = ℕ} (length name) 15 0)

pub returns : goal.returns
returns c =
    let copied : c.copy_from_slice.new.self ≡ c.args.bytes.now = c.copy_from_slice.ensures.after in
    rw copied (record { name = front c.args.bytes.now _; rest = rest c.args.bytes.now })
