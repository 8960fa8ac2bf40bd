-- Writing a text bit by bit.
use Rattle.prl_base.proofs.Standard.{◌≡◌, ◌+◌, ◌-◌, ◌<◌, ◌++◌, ℕ, List, [], ◌∷◌, length, take, drop, get_or, Option, Some, None, refl, sym, ap, ◌∙◌, append_assoc, arith, length-append, Result, Ok}
use Rattle.prl_base.proofs.Standard.{Err, IsErr, rules, flat_map, take_rest, take-append-drop, take_more, flat_map-append}
use Rattle.std.proofs.Common.{append-nil}
use Rattle.prl_io.specs.Growth.{appended, AppendsFront, IsWritten}
use Rattle.prl_io.specs.declared.writing.Failed.{Failed}

-- a front of the text was appended, and this is the rest
pub record SoFar (old new : Option (List ℕ)) (text rest : List ℕ) : Type 0 where
  pub front : List ℕ
  pub parts : front ++ rest ≡ text
  pub grown : new ≡ appended old front

-- two texts one after another are one
appended_append : (old : Option (List ℕ)) (first second : List ℕ)
    → appended (appended old first) second ≡ appended old (first ++ second)
appended_append None first second = refl
appended_append (Some bytes) first second = ap Some (append_assoc bytes first second)

-- a write took the first bytes of the rest
pub so_far_more : {old mid new : Option (List ℕ)} (text rest : List ℕ) (count : ℕ) → SoFar old mid text rest
    → new ≡ appended mid (take count rest) → SoFar old new text (take (length rest - count) (drop count rest))
so_far_more {old = old} text rest count so_far grown =
    let whole : take count rest ++ drop count rest ≡ rest = take-append-drop count rest in
    rw take_rest (record {
      front = so_far.front ++ take count rest;
      parts = append_assoc so_far.front (take count rest) (drop count rest) ∙ ap (λ r. so_far.front ++ r) whole ∙ so_far.parts;
      grown = grown ∙ ap (λ m. appended m (take count rest)) so_far.grown ∙ appended_append old so_far.front (take count rest);
    })

-- the pieces up to a number, that one and those after it are all of them
flat_map_around : {X : Type 0} (f : X → List ℕ) (xs : List X) (i : ℕ) (d : X) → i < length xs
    → flat_map f (take i xs) ++ (f (get_or xs i d) ++ flat_map f (drop (i + 1) xs)) ≡ flat_map f xs
flat_map_around f xs i d below =
    let one : flat_map f (take (i + 1) xs) ≡ flat_map f (take i xs) ++ f (get_or xs i d) =
    ap (flat_map f) (take_more xs i d below) ∙ flat_map-append f (take i xs) (get_or xs i d ∷ [])
    ∙ ap (λ r. flat_map f (take i xs) ++ r) (append-nil (f (get_or xs i d))) in
    sym (append_assoc (flat_map f (take i xs)) (f (get_or xs i d)) (flat_map f (drop (i + 1) xs)))
    ∙ ap (λ r. r ++ flat_map f (drop (i + 1) xs)) (sym one)
    ∙ sym (flat_map-append f (take (i + 1) xs) (drop (i + 1) xs))
    ∙ ap (flat_map f) (take-append-drop (i + 1) xs)

-- a front of one piece, after the pieces before it, is a front of all of them
pub pieces_stop : {X : Type 0} {old mid new : Option (List ℕ)} (f : X → List ℕ) (pieces : List X) (i : ℕ) (d : X)
    → i < length pieces → mid ≡ appended old (flat_map f (take i pieces)) → AppendsFront mid new (f (get_or pieces i d))
    → AppendsFront old new (flat_map f pieces)
pieces_stop {old = old} f pieces i d below before stopped =
    record {
      front = flat_map f (take i pieces) ++ stopped.front;
      rest = stopped.rest ++ flat_map f (drop (i + 1) pieces);
      parts =
          let here = f (get_or pieces i d) in
          let later = flat_map f (drop (i + 1) pieces) in
          let regrouped : stopped.front ++ (stopped.rest ++ later) ≡ here ++ later =
          sym (append_assoc stopped.front stopped.rest later) ∙ ap (λ r. r ++ later) stopped.parts in
          append_assoc (flat_map f (take i pieces)) stopped.front (stopped.rest ++ later)
          ∙ ap (λ r. flat_map f (take i pieces) ++ r) regrouped
          ∙ flat_map_around f pieces i d below;
      unwritten =
          omega (arith, stopped.unwritten, length-append stopped.rest (flat_map f (drop (i + 1) pieces)));
      grown = stopped.grown ∙ ap (λ m. appended m stopped.front) before ∙ appended_append old (flat_map f (take i pieces)) stopped.front;
    }

-- an error leaves a front
pub is_written_stopped : {old new : Option (List ℕ)} {text : List ℕ} (result : Result (Unit {0}) Failed) → IsErr result
    → AppendsFront old new text → IsWritten old new text result
is_written_stopped (Ok done) is_err stopped = search rules
is_written_stopped (Err failed) is_err stopped = stopped
