-- The longest token at the front of a text is the one that its first byte tells.
use Rattle.prl_base.proofs.Standard.{◌≡◌, ℕ, zero, suc, ◌+◌, ◌<◌, ◌≤◌, Bool, true, false, cond, ◌&&◌, ◌||◌, List, [], ◌∷◌, length, take, get_or, refl, sym, ap, ◌∙◌, inl, inr, arith, length-take}
use Rattle.prl_base.proofs.Standard.{add-one, cases_lt, cond-true, cond-false, cond_both, or_from, and_left, and_from, or_left, or_right, agree_below_at, false≢true, get_or-take, length-take-le}
use Rattle.prl_base.proofs.Standard.{prefix_len_passes, prefix_len_stops, prefix_len-le-length, list_all-from_AllPass, list_all_at, list_all, prefix_len, is_ascii_digit}
use Rattle.prl_base.specs.Names.{is_word_start, is_word_byte, is_word}
use Rattle.prl_lex.specs.Vocabulary.{Kind, is_one_byte_symbol, is_two_byte_symbol, is_symbol, is_number, is_token, kind_of, longest_up_to, longest, token_of_len, one_byte_symbol}
use Rattle.prl_lex.specs.declared.tokens.Kind.TheVariants.{Word, Number, Symbol}
use Rattle.prl_lex.specs.FirstByte.{symbol_by_bytes, token_by_first}
use Rattle.prl_lex.specs.declared.pieces.Piece.TheVariants as pieces

-- fronts that are no tokens do not count
shrink : (n m : ℕ) (text : List ℕ) → m ≤ n → ((j : ℕ) → m < j → j ≤ n → is_token (take j text) ≡ false) → longest_up_to n text ≡ longest_up_to m text
unfolding longest_up_to
shrink zero m text le others = let e : zero ≡ m = omega arith in ap (λ i. longest_up_to i text) e
shrink (suc n) m text le others = elim (cases_lt m (suc n)) [
  | inl lt ↦ cond-false (is_token (take (suc n) text)) (suc n) (longest_up_to n text) (others (suc n) lt (omega arith)) ∙ shrink n m text (omega arith) (λ j a b. others j a (omega arith))
  | inr ge ↦ let e : suc n ≡ m = omega arith in ap (λ i. longest_up_to i text) e
]

longest_is : (text : List ℕ) (k : ℕ) → suc k ≤ length text → is_token (take (suc k) text) ≡ true → ((j : ℕ) → suc k < j → j ≤ length text → is_token (take j text) ≡ false) → longest text ≡ suc k
unfolding longest_up_to
longest_is text k le token others = shrink (length text) (suc k) text le others ∙ cond-true (is_token (take (suc k) text)) (suc k) (longest_up_to k text) token

-- the run of bytes that pass does, and no longer one
run_passes : (p : ℕ → Bool) (xs : List ℕ) → list_all p (take (prefix_len p xs) xs) ≡ true
run_passes p xs = list_all-from_AllPass p (take (prefix_len p xs) xs) (λ i d h.
    let lt : i < prefix_len p xs = omega (arith, length-take (prefix_len p xs) xs) in
    ap p (get_or-take (prefix_len p xs) xs i d lt) ∙ prefix_len_passes p xs i d lt)

run_stops : (p : ℕ → Bool) (xs : List ℕ) (m : ℕ) → prefix_len p xs < m → m ≤ length xs → list_all p (take m xs) ≡ false
run_stops p xs m lt le = list_all_at p (take m xs) (prefix_len p xs) 0 (omega (arith, length-take-le m xs le))
    (ap p (get_or-take m xs (prefix_len p xs) 0 lt) ∙ prefix_len_stops p xs 0 (omega arith))

or_of_three : (a b c : Bool) → b ≡ false → c ≡ false → (a || b || c) ≡ a
or_of_three true b c eb ec = refl
or_of_three false b c eb ec = or_from b c eb ec

or_of_two : (a b : Bool) → b ≡ false → (a || b) ≡ a
or_of_two true b eb = refl
or_of_two false b eb = eb

-- a token that is a run of bytes after its first one
run_piece : (p : ℕ → Bool) (kind : Kind) (b : ℕ) (bs : List ℕ) → ((xs : List ℕ) → is_token (b ∷ xs) ≡ list_all p xs) → ((xs : List ℕ) → list_all p xs ≡ true → kind_of (b ∷ xs) ≡ kind)
    → pieces.Token kind (prefix_len p bs + 1) ≡ token_of_len (b ∷ bs) (longest (b ∷ bs))
run_piece p kind b bs tokens kinds =
    let n : ℕ = prefix_len p bs in
    let le : suc n ≤ length (b ∷ bs) = omega (arith, prefix_len-le-length p bs) in
    let long : longest (b ∷ bs) ≡ suc n = longest_is (b ∷ bs) n le (tokens (take n bs) ∙ run_passes p bs) above in
    ap (λ k. pieces.Token kind k) (add-one n) ∙ ap (λ k. pieces.Token k (suc n)) (sym (kinds (take n bs) (run_passes p bs))) ∙ ap (token_of_len (b ∷ bs)) (sym long)
  where
    above : (j : ℕ) → suc (prefix_len p bs) < j → j ≤ length (b ∷ bs) → is_token (take j (b ∷ bs)) ≡ false
    above zero lt le = absurd (omega arith)
    above (suc j) lt le = tokens (take j bs) ∙ run_stops p bs j (omega arith) (omega arith)

implies_not : (t u : Bool) → (t && u) ≡ false → t ≡ true → u ≡ false
implies_not true u h e = h
implies_not false u h e = absurd (false≢true e)

-- what begins a word, or a number, begins no other token
word_no_digit : (b : ℕ) → b < 256 → is_word_start b ≡ true → is_ascii_digit b ≡ false
word_no_digit b lt = implies_not (is_word_start b) (is_ascii_digit b) (agree_below_at (λ b. is_word_start b && is_ascii_digit b) (λ _. false) 256 b refl lt)

starts_run : ℕ → Bool
starts_run b = is_word_start b || is_ascii_digit b

run_no_symbol : (b : ℕ) (xs : List ℕ) → b < 256 → starts_run b ≡ true → is_symbol (b ∷ xs) ≡ false
unfolding starts_run
run_no_symbol b [] lt = implies_not (starts_run b) (is_one_byte_symbol b) (agree_below_at (λ b. starts_run b && is_one_byte_symbol b) (λ _. false) 256 b refl lt)
run_no_symbol b (c ∷ []) lt = implies_not (starts_run b) (is_two_byte_symbol b c) (agree_below_at (λ b. starts_run b && is_two_byte_symbol b c) (λ _. false) 256 b refl lt)
run_no_symbol b (c ∷ d ∷ xs) lt = λ _. refl

word_piece : (b : ℕ) (bs : List ℕ) → b < 256 → is_word_start b ≡ true → pieces.Token Word (prefix_len is_word_byte bs + 1) ≡ token_of_len (b ∷ bs) (longest (b ∷ bs))
unfolding starts_run
word_piece b bs lt start = run_piece is_word_byte Word b bs tokens kinds
  where
    tokens : (xs : List ℕ) → is_token (b ∷ xs) ≡ list_all is_word_byte xs
    tokens xs = or_of_three (is_word (b ∷ xs)) (is_number (b ∷ xs)) (is_symbol (b ∷ xs))
        (and_left (is_ascii_digit b) (list_all is_ascii_digit xs) (word_no_digit b lt start))
        (run_no_symbol b xs lt (or_left (is_word_start b) (is_ascii_digit b) start))
        ∙ ap (λ t. t && list_all is_word_byte xs) start

    kinds : (xs : List ℕ) → list_all is_word_byte xs ≡ true → kind_of (b ∷ xs) ≡ Word
    kinds xs all = cond-true (is_word (b ∷ xs)) _ _ (and_from (is_word_start b) (list_all is_word_byte xs) start all)

number_piece : (b : ℕ) (bs : List ℕ) → b < 256 → is_word_start b ≡ false → is_ascii_digit b ≡ true → pieces.Token Number (prefix_len is_ascii_digit bs + 1) ≡ token_of_len (b ∷ bs) (longest (b ∷ bs))
unfolding starts_run
number_piece b bs lt other start = run_piece is_ascii_digit Number b bs tokens kinds
  where
    no_word : (xs : List ℕ) → is_word (b ∷ xs) ≡ false
    no_word xs = and_left (is_word_start b) (list_all is_word_byte xs) other

    tokens : (xs : List ℕ) → is_token (b ∷ xs) ≡ list_all is_ascii_digit xs
    tokens xs = ap (λ t. t || is_number (b ∷ xs) || is_symbol (b ∷ xs)) (no_word xs)
        ∙ or_of_two (is_number (b ∷ xs)) (is_symbol (b ∷ xs)) (run_no_symbol b xs lt (or_right (is_word_start b) (is_ascii_digit b) start))
        ∙ ap (λ t. t && list_all is_ascii_digit xs) start

    kinds : (xs : List ℕ) → list_all is_ascii_digit xs ≡ true → kind_of (b ∷ xs) ≡ Number
    kinds xs all = cond-false (is_word (b ∷ xs)) _ _ (no_word xs) ∙ cond-true (is_number (b ∷ xs)) _ _ (and_from (is_ascii_digit b) (list_all is_ascii_digit xs) start all)

long_no_symbol : (b c : ℕ) (cs : List ℕ) (j : ℕ) → 2 < j → j ≤ length (b ∷ c ∷ cs) → is_symbol (take j (b ∷ c ∷ cs)) ≡ false
long_no_symbol b c cs zero lt le = absurd (omega arith)
long_no_symbol b c cs (suc zero) lt le = absurd (omega arith)
long_no_symbol b c cs (suc (suc zero)) lt le = absurd (omega arith)
long_no_symbol b c [] (suc (suc (suc j))) lt le = absurd (omega arith)
long_no_symbol b c (d ∷ ds) (suc (suc (suc j))) lt le = refl

symbol_token : (b : ℕ) (xs : List ℕ) → is_word_start b ≡ false → is_ascii_digit b ≡ false → is_token (b ∷ xs) ≡ is_symbol (b ∷ xs)
symbol_token b xs word digit =
    ap (λ t. t || is_number (b ∷ xs) || is_symbol (b ∷ xs)) (and_left (is_word_start b) (list_all is_word_byte xs) word)
    ∙ ap (λ t. t || is_symbol (b ∷ xs)) (and_left (is_ascii_digit b) (list_all is_ascii_digit xs) digit)

symbol_kind : (b : ℕ) (xs : List ℕ) → is_word_start b ≡ false → is_ascii_digit b ≡ false → kind_of (b ∷ xs) ≡ Symbol
symbol_kind b xs word digit =
    cond-false (is_word (b ∷ xs)) _ _ (and_left (is_word_start b) (list_all is_word_byte xs) word)
    ∙ cond-false (is_number (b ∷ xs)) _ _ (and_left (is_ascii_digit b) (list_all is_ascii_digit xs) digit)

symbol_piece : (b : ℕ) (bs : List ℕ) → is_word_start b ≡ false → is_ascii_digit b ≡ false → symbol_by_bytes b bs ≡ token_of_len (b ∷ bs) (longest (b ∷ bs))
unfolding longest_up_to
symbol_piece b [] word digit =
    let long : longest (b ∷ []) ≡ cond (is_one_byte_symbol b) 1 0 = ap (λ t. cond t 1 0) (symbol_token b [] word digit) in
    elim (is_one_byte_symbol b) as (λ t. cond t (pieces.Token Symbol 1) pieces.Bad ≡ token_of_len (b ∷ []) (cond t 1 0))
    [ true ↦ ap (λ k. pieces.Token k 1) (sym (symbol_kind b [] word digit)) | false ↦ refl ]
    ∙ ap (token_of_len (b ∷ [])) (sym long)
symbol_piece b (c ∷ cs) word digit =
    let text : List ℕ = b ∷ c ∷ cs in
    let short : longest text ≡ longest_up_to 2 text = shrink (length text) 2 text (omega arith) others in
    let two : longest_up_to 2 text ≡ cond (is_two_byte_symbol b c) 2 (longest_up_to 1 text) = ap (λ t. cond t 2 (longest_up_to 1 text)) (symbol_token b (c ∷ []) word digit) in
    let one : longest_up_to 1 text ≡ cond (is_one_byte_symbol b) 1 0 = ap (λ t. cond t 1 0) (symbol_token b [] word digit) in
    let long : longest text ≡ cond (is_two_byte_symbol b c) 2 (cond (is_one_byte_symbol b) 1 0) = short ∙ two ∙ ap (λ n. cond (is_two_byte_symbol b c) 2 n) one in
    elim (is_two_byte_symbol b c) as (λ t. cond t (pieces.Token Symbol 2) (one_byte_symbol b) ≡ token_of_len text (cond t 2 (cond (is_one_byte_symbol b) 1 0))) [
      | true ↦ ap (λ k. pieces.Token k 2) (sym (symbol_kind b (c ∷ []) word digit))
      | false ↦ elim (is_one_byte_symbol b) as (λ t. cond t (pieces.Token Symbol 1) pieces.Bad ≡ token_of_len text (cond t 1 0))
          [ true ↦ ap (λ k. pieces.Token k 1) (sym (symbol_kind b [] word digit)) | false ↦ refl ]
    ]
    ∙ ap (token_of_len text) (sym long)
  where
    others : (j : ℕ) → 2 < j → j ≤ length (b ∷ c ∷ cs) → is_token (take j (b ∷ c ∷ cs)) ≡ false
    others zero lt le = absurd (omega arith)
    others (suc j) lt le = symbol_token b (take j (c ∷ cs)) word digit ∙ long_no_symbol b c cs (suc j) lt le

-- the longest token is the one that the first byte tells
pub token_by_first_longest : (text : List ℕ) → ((k : ℕ) → get_or text k 0 < 256) → token_by_first text ≡ token_of_len text (longest text)
unfolding longest_up_to
token_by_first_longest [] bytes = refl
token_by_first_longest (b ∷ bs) bytes = cond_both (is_word_start b) _ _ (λ piece. piece ≡ token_of_len (b ∷ bs) (longest (b ∷ bs)))
    (word_piece b bs (bytes 0))
    (λ word. cond_both (is_ascii_digit b) _ _ (λ piece. piece ≡ token_of_len (b ∷ bs) (longest (b ∷ bs)))
    (number_piece b bs (bytes 0) word) (symbol_piece b bs word))
