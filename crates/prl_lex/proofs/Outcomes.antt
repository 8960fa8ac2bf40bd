-- Each text has tokens or a fault of its own: want of memory is none.
use Rattle.std.proofs.Common.{◌≡◌, ◌+◌, ◌-◌, ℕ, zero, suc, Bool, true, false, cond, List, [], ◌∷◌, length, Result, Ok, Err, ap}
use Rattle.prl_base.specs.Reading.{◌>>=◌}
use Rattle.prl_base.specs.declared.limits.What.TheVariants as limits
use Rattle.prl_lex.specs.Vocabulary.{Kind, Token, LexFault, Piece, piece_of, token_at, checked, with_piece, tokens_from}
use Rattle.prl_lex.specs.declared.tokens.Kind.TheVariants.{Word, Number, Symbol}
use Rattle.prl_lex.specs.declared.tokens.LexFault.TheVariants as faults
use Rattle.prl_lex.specs.declared.pieces.Piece.TheVariants as pieces

bind_memory : {A B : Type 0} (r : Result A LexFault) (f : A → Result B LexFault) → (r ≡ Err faults.Memory → ⊥) → ((a : A) → f a ≡ Err faults.Memory → ⊥) → (r >>= f) ≡ Err faults.Memory → ⊥
bind_memory (Ok a) f one two h = two a h
bind_memory (Err e) f one two h = let same : e ≡ faults.Memory = cc in one (ap Err same)

tested_fault : (b : Bool) (t : Token) (e : LexFault) → cond b (Ok t) (Err e) ≡ Err faults.Memory → e ≡ faults.Memory
tested_fault true t e h = cc
tested_fault false t e h = cc

checked_has_outcome : (at depth : ℕ) (kind : Kind) (bytes : List ℕ) → checked at depth kind bytes ≡ Err faults.Memory → ⊥
checked_has_outcome at depth Number bytes h = let same = tested_fault _ (token_at at Number bytes) (faults.NumberRange at) h in cc
checked_has_outcome at depth Word bytes h = let same = tested_fault _ (token_at at Word bytes) (faults.Limit (record { what = limits.Name; found = length bytes })) h in cc
checked_has_outcome at depth Symbol bytes h = let same = tested_fault _ (token_at at Symbol bytes) (faults.Limit (record { what = limits.Depth; found = depth })) h in cc

piece_has_outcome : (at depth : ℕ) (text : List ℕ) (piece : Piece) (rest : ℕ → ℕ → Result (List Token) LexFault) → ((deep past : ℕ) → rest deep past ≡ Err faults.Memory → ⊥) → with_piece at depth text piece rest ≡ Err faults.Memory → ⊥
piece_has_outcome at depth text pieces.Bad rest others h = cc
piece_has_outcome at depth text (pieces.Gap n) rest others h = others depth (n - 1) h
piece_has_outcome at depth text (pieces.Token kind n) rest others h =
    bind_memory _ _ (checked_has_outcome at _ kind _) (λ token. bind_memory _ _ (others _ (n - 1)) (λ tokens e. cc)) h

pub text_has_outcome : (text : List ℕ) (at depth past : ℕ) → tokens_from at depth past text ≡ Err faults.Memory → ⊥
unfolding tokens_from
text_has_outcome [] at depth past h = cc
text_has_outcome (b ∷ bs) at depth (suc past) h = text_has_outcome bs (at + 1) depth past h
text_has_outcome (b ∷ bs) at depth zero h =
    piece_has_outcome at depth (b ∷ bs) (piece_of (b ∷ bs)) (λ deep past. tokens_from (at + 1) deep past bs) (λ deep past. text_has_outcome bs (at + 1) deep past) h
