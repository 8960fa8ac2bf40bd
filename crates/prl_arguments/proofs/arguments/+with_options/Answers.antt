use Rattle.prl_base.proofs.Standard.{◌≡◌, ◌≢◌, ◌<◌, ◌-◌, ◌∙◌, ℕ, zero, suc, List, [], ◌∷◌, length, map, drop, take, get_or, Option, refl, ap, arith, take_rest, option_map, string_bytes}
use Rattle.prl_base.specs.Options.{◌>>=◌}
use Rattle.prl_arguments.specs.Vocabulary.{Values, first_option, with_options, given_by}
use Rattle.prl_arguments.proofs.arguments.+with_options.Goals as goal

-- the options of words that begin with this one
step : {A : Type 0} (f : A → List ℕ) (most : ℕ) (given : Values) (words : List A) (word : A) → 0 < length words → most ≢ 0 → word ≡ get_or words 0 word
    → (first_option given (f word) (map f (take (length words - 1) (drop 1 words))) >>= λ read. with_options (most - 1) read.0 read.1)
    ≡ with_options most given (map f words)
step f most given [] word some more is = absurd (omega arith)
step f zero given (w ∷ ws) word some more is = absurd (more refl)
step f (suc n) given (w ∷ ws) word some more is = let one : suc n - 1 ≡ n = omega arith in rw (take_rest (w ∷ ws) 1, is, one) refl

pub returns-in_err-more-in-len1-up : goal.returns-in_err-more-in-len1-up
returns-in_err-more-in-len1-up t c =
    let given = given_by c.args.given in
    let later = map string_bytes (take (length c.args.words.now - 1) (drop 1 c.args.words.now)) in
    ap (option_map given_by) c.from_residual.ensures
    ∙ ap (λ (o : Option (Values × List (List ℕ))). o >>= λ read. with_options (c.args.most - 1) read.0 read.1)
    (c.in_err-more-in-len1-up.ensures ∙ ap (λ (word : List ℕ). first_option given word later) c.as_bytes.ensures.value)
    ∙ step string_bytes c.args.most given c.args.words.now c.word-item.result (omega arith) c.if-most-eq0.false c.word-item.is

pub returns-in_ok-more-in-len1-up : goal.returns-in_ok-more-in-len1-up
returns-in_ok-more-in-len1-up t c =
    let given = given_by c.args.given in
    let later = map string_bytes (take (length c.args.words.now - 1) (drop 1 c.args.words.now)) in
    c.with_options.ensures
    ∙ ap (λ (o : Option (Values × List (List ℕ))). o >>= λ read. with_options (c.args.most - 1) read.0 read.1)
    (c.in_ok-more-in-len1-up.ensures ∙ ap (λ (word : List ℕ). first_option given word later) c.as_bytes.ensures.value)
    ∙ step string_bytes c.args.most given c.args.words.now c.word-item.result (omega arith) c.if-most-eq0.false c.word-item.is
