-- What is read of a text is the tree that the grammar gives it, or its first fault.
use Rattle.std.proofs.Common.{◌≡◌, ℕ, false, List, length, Option, Some, None, Result, Ok, Err, refl, sym, ap, ◌∙◌}
use Rattle.prl_base.specs.Reading.{◌>>=◌}
use Rattle.prl_lex.specs.Lexing.{tokens_of}
use Rattle.prl_lex.specs.declared.tokens.LexFault.{LexFault}
use Rattle.prl_lex.specs.declared.tokens.Token.{Token}
use Rattle.prl_lex.specs.Vocabulary.{TextFault, Text, Lexeme, lexemes_of, out_of_range, Texts, IsRead, inner_of, read_at, IsApart, Stuck, Deep, shape, of_stop, ranged, tree_of_tokens}
use Rattle.prl_lex.specs.Vocabulary.{tree_of_text, told, all_at}
use Rattle.prl_lex.specs.code.Readers.{Stop}
use Rattle.prl_lex.specs.declared.texts.TextFault.TheVariants as faults
use Rattle.prl_lex.proofs.Nesting.{IsRight, Reads, text_reads}
use Rattle.prl_lex.proofs.Whole.{IsAnswer, all_so, so_all}

module _ {R A : Type 0} (s : Texts R A) (right : IsRight s.language) (apart : IsApart (inner_of s.language) s.whole) where
  abbrev Is : List Lexeme → Result A Stop → Type 0
  Is = IsAnswer (Text s.language s.whole)

  reads : Reads (Text s.language s.whole) (shape (inner_of s.language) s.whole) (read_at s.language s.whole)
  reads = text_reads s.language right s.whole apart

  abbrev seen : List ℕ → List Token → List Lexeme
  seen = lexemes_of s.vocabulary

  -- what an answer is for the text
  abbrev of_answer : List ℕ → List Token → Result A Stop → Result A TextFault
  of_answer text tokens r = told (of_stop (seen text tokens) (length text)) r >>= λ tree. ranged (out_of_range s.ranges false 0 (seen text tokens)) tree

  in_range : (text : List ℕ) (tokens : List Token) → tokens_of text ≡ Ok tokens → (o : Option ℕ) (t : A) → out_of_range s.ranges false 0 (seen text tokens) ≡ o → Text s.language s.whole t (seen text tokens) → IsRead s text (ranged o t)
  in_range text tokens lexical None t o w = record { tokens = tokens; lexical = lexical; written = w; ranges = o }
  in_range text tokens lexical (Some at) t o w = record { tokens = tokens; tree = t; lexical = lexical; written = w; first = o }

  by_answer : (text : List ℕ) (tokens : List Token) → tokens_of text ≡ Ok tokens → (r : Result A Stop) → Is (seen text tokens) r → IsRead s text (of_answer text tokens r)
  by_answer text tokens lexical (Ok t) h = in_range text tokens lexical _ t refl h
  by_answer text tokens lexical (Err (Stuck left)) h = record { tokens = tokens; left = left; lexical = lexical; first = h; place = refl }
  by_answer text tokens lexical (Err Deep) h = absurd h

  by_tokens : (text : List ℕ) (r : Result (List Token) LexFault) → tokens_of text ≡ r → IsRead s text (told faults.Lexical r >>= λ tokens. tree_of_tokens s (seen text tokens) (length text))
  unfolding tree_of_tokens
  by_tokens text (Ok tokens) e = by_answer text tokens e _ (all_so _ _ _ reads (seen text tokens))
  by_tokens text (Err fault) e = e

  -- what is read of the text is so
  pub read_is : (text : List ℕ) → IsRead s text (tree_of_text s text)
  unfolding tree_of_text
  read_is text = by_tokens text (tokens_of text) refl

  only : (text : List ℕ) (tokens : List Token) (r : Result A Stop) → tokens_of text ≡ Ok tokens → Is (seen text tokens) r → tree_of_text s text ≡ of_answer text tokens r
  unfolding tree_of_text tree_of_tokens
  only text tokens r e h =
      ap (λ q. told faults.Lexical q >>= λ tokens. of_answer text tokens (all_at (read_at s.language s.whole) (seen text tokens))) e
      ∙ ap (of_answer text tokens) (so_all _ _ _ reads (seen text tokens) r h)

  -- and what is so is read of it
  pub is_read : (text : List ℕ) (r : Result A TextFault) → IsRead s text r → tree_of_text s text ≡ r
  unfolding tree_of_text
  is_read text (Ok tree) h = only text h.tokens (Ok tree) h.lexical h.written ∙ ap (λ o. ranged o tree) h.ranges
  is_read text (Err (faults.Lexical fault)) h = ap (λ r. told faults.Lexical r >>= λ tokens. tree_of_tokens s (seen text tokens) (length text)) h
  is_read text (Err (faults.Unexpected at)) h = only text h.tokens (Err (Stuck h.left)) h.lexical h.first ∙ ap (λ at. Err (faults.Unexpected at)) (sym h.place)
  is_read text (Err (faults.NumberRange at)) h = only text h.tokens (Ok h.tree) h.lexical h.written ∙ ap (λ o. ranged o h.tree) h.first
  is_read text (Err faults.Memory) h = absurd h
