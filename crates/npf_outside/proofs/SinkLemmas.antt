use Rattle.std.proofs.Common.{◌≡◌, ℕ, List, [], ◌++◌, Option, Some, None, refl, sym, ap, ◌∙◌, append_assoc, append-nil}
use Rattle.npf_outside.specs.Sink.{Appends, AppendsFront, IsPutTo}

-- what is put in two pieces is put
pub Appends-append : (old now new : Option (List ℕ)) (said piece : List ℕ) → Appends old now said → Appends now new piece → Appends old new (said ++ piece)
Appends-append None None None said piece _ _ = tt
Appends-append None None (Some _) said piece _ then = absurd then
Appends-append None (Some _) _ said piece first _ = absurd first
Appends-append (Some _) None _ said piece first _ = absurd first
Appends-append (Some _) (Some _) None said piece _ then = absurd then
Appends-append (Some old) (Some now) (Some new) said piece first then = then ∙ ap (λ held. held ++ piece) first ∙ append_assoc old said piece

-- nothing is put yet
pub Appends-nothing : (old : Option (List ℕ)) → Appends old old []
Appends-nothing None = tt
Appends-nothing (Some old) = sym (append-nil old)

-- at the beginning all of the text is still to come
pub IsPutTo-begins : (old : Option (List ℕ)) (text : List ℕ) → IsPutTo old old text text
IsPutTo-begins old text = record { said = []; parts = refl; appends = Appends-nothing old }

-- one more piece was put
pub IsPutTo-goes_on : (old now new : Option (List ℕ)) (text piece rest : List ℕ) → IsPutTo old now text (piece ++ rest) → Appends now new piece → IsPutTo old new text rest
IsPutTo-goes_on old now new text piece rest so_far put = record {
  said = so_far.said ++ piece;
  parts = so_far.parts ∙ sym (append_assoc so_far.said piece rest);
  appends = Appends-append old now new so_far.said piece so_far.appends put;
}

-- at the end the text was put
pub IsPutTo-ends : (old now : Option (List ℕ)) (text : List ℕ) → IsPutTo old now text [] → Appends old now text
IsPutTo-ends old now text so_far = rw (so_far.parts, append-nil so_far.said) so_far.appends

-- a front of the next piece was put, and then no more
pub IsPutTo-fails : (old now new : Option (List ℕ)) (text piece rest : List ℕ) → IsPutTo old now text (piece ++ rest) → AppendsFront now new piece → AppendsFront old new text
IsPutTo-fails old now new text piece rest so_far put = fails old now new so_far.said so_far.parts so_far.appends put where
  fails : (old now new : Option (List ℕ)) (said : List ℕ) → text ≡ said ++ (piece ++ rest) → Appends old now said → AppendsFront now new piece → AppendsFront old new text
  fails None None None said parts _ _ = tt
  fails None None (Some _) said parts _ front = absurd front
  fails None (Some _) _ said parts put _ = absurd put
  fails (Some _) None _ said parts put _ = absurd put
  fails (Some _) (Some _) None said parts _ front = absurd front
  fails (Some old) (Some now) (Some new) said parts put (front, left, piece_is, new_is) = (
    said ++ front,
    left ++ rest,
    parts ∙ ap (λ p. said ++ (p ++ rest)) piece_is ∙ ap (λ q. said ++ q) (append_assoc front left rest)
        ∙ sym (append_assoc said front (left ++ rest)),
    new_is ∙ ap (λ held. held ++ front) put ∙ append_assoc old said front,
  )

-- no more than what was put so far
pub IsPutTo-stops : (old now : Option (List ℕ)) (text rest : List ℕ) → IsPutTo old now text rest → AppendsFront old now text
IsPutTo-stops old now text rest so_far = stops old now so_far.said so_far.parts so_far.appends where
  stops : (old now : Option (List ℕ)) (said : List ℕ) → text ≡ said ++ rest → Appends old now said → AppendsFront old now text
  stops None None said parts _ = tt
  stops None (Some _) said parts put = absurd put
  stops (Some _) None said parts put = absurd put
  stops (Some old) (Some now) said parts put = (said, rest, parts, put)
