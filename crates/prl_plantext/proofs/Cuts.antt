-- Texts that are cut at a byte, and the words of a printed line.
use Rattle.prl_base.proofs.Standard.{◌≡◌, ◌==◌, ◌++◌, ◌<◌, ℕ, Bool, true, false, not, List, [], ◌∷◌, cond, length, refl, ap, sym, ◌∙◌, arith, append_assoc, list_all, onto_first, and_parts, nat_tests}
use Rattle.std.proofs.Common.{append-nil}
use Rattle.prl_plantext.specs.PlanTexts.{line, line_rest}
use Rattle.prl_plantext.specs.code.Graphs.{after, before, lines_in, parts, words_in}
use Rattle.prl_plantext.proofs.Bytes.{Lacks, lacks_append, lacks_cons}

not_false : (t : Bool) → not t ≡ true → t ≡ false
not_false true e = sym e
not_false false e = refl

same_byte : (end : ℕ) → (end == end) ≡ true
same_byte end = grind (arith, nat_tests)

pub head_lacks : (end b : ℕ) (bs : List ℕ) → Lacks end (b ∷ bs) → ((b == end) ≡ false) × Lacks end bs
head_lacks end b bs lacks =
    let both = and_parts (not (b == end)) (list_all (λ b. not (b == end)) bs) lacks in
    (not_false (b == end) both.0, both.1)

-- what stands before the byte, and after it

pub before_at : (end : ℕ) (front rest : List ℕ) → Lacks end front → before end (front ++ end ∷ rest) ≡ front
before_at end [] rest lacks = ap (λ t. cond t [] (end ∷ before end rest)) (same_byte end)
before_at end (b ∷ bs) rest lacks =
    let head = head_lacks end b bs lacks in
    ap (λ t. cond t [] (b ∷ before end (bs ++ end ∷ rest))) head.0 ∙ ap (λ l. b ∷ l) (before_at end bs rest head.1)

pub after_at : (end : ℕ) (front rest : List ℕ) → Lacks end front → after end (front ++ end ∷ rest) ≡ rest
after_at end [] rest lacks = ap (λ t. cond t rest (after end rest)) (same_byte end)
after_at end (b ∷ bs) rest lacks =
    let head = head_lacks end b bs lacks in
    ap (λ t. cond t (bs ++ end ∷ rest) (after end (bs ++ end ∷ rest))) head.0 ∙ after_at end bs rest head.1

pub before_none : (end : ℕ) (text : List ℕ) → Lacks end text → before end text ≡ text
before_none end [] lacks = refl
before_none end (b ∷ bs) lacks =
    let head = head_lacks end b bs lacks in
    ap (λ t. cond t [] (b ∷ before end bs)) head.0 ∙ ap (λ l. b ∷ l) (before_none end bs head.1)

pub after_none : (end : ℕ) (text : List ℕ) → Lacks end text → after end text ≡ []
after_none end [] lacks = refl
after_none end (b ∷ bs) lacks =
    let head = head_lacks end b bs lacks in
    ap (λ t. cond t bs (after end bs)) head.0 ∙ after_none end bs head.1

-- parts

parts_no : (end b : ℕ) (bs : List ℕ) → (b == end) ≡ false → parts end (b ∷ bs) ≡ onto_first b (parts end bs)
parts_no end b bs e = ap (λ t. cond t ([] ∷ parts end bs) (onto_first b (parts end bs))) e

pub parts_at : (end : ℕ) (front rest : List ℕ) → Lacks end front → parts end (front ++ end ∷ rest) ≡ front ∷ parts end rest
parts_at end [] rest lacks = ap (λ t. cond t ([] ∷ parts end rest) (onto_first end (parts end rest))) (same_byte end)
parts_at end (b ∷ bs) rest lacks =
    let head = head_lacks end b bs lacks in
    parts_no end b (bs ++ end ∷ rest) head.0 ∙ ap (onto_first b) (parts_at end bs rest head.1)

pub parts_last : (end b : ℕ) (bs : List ℕ) → Lacks end (b ∷ bs) → parts end (b ∷ bs) ≡ (b ∷ bs) ∷ []
parts_last end b [] lacks = parts_no end b [] (head_lacks end b [] lacks).0
parts_last end b (c ∷ bs) lacks =
    let head = head_lacks end b (c ∷ bs) lacks in
    parts_no end b (c ∷ bs) head.0 ∙ ap (onto_first b) (parts_last end c bs head.1)

-- a word that can be printed: it has some byte, and neither a blank nor a line feed
pub record IsPrinted (word : List ℕ) : Type 0 where
  pub some : 0 < length word
  pub blanks : Lacks 32 word
  pub feeds : Lacks 10 word

abbrev pub ArePrinted : List (List ℕ) → Type 0
ArePrinted [] = Unit {0}
ArePrinted (word ∷ words) = IsPrinted word × ArePrinted words

pub printed_of_two : (first second : List (List ℕ)) → ArePrinted first → ArePrinted second → ArePrinted (first ++ second)
printed_of_two [] second a b = b
printed_of_two (word ∷ words) second a b = (a.0, printed_of_two words second a.1 b)

-- the words of a line without its line feed
abbrev pub spaced_rest : List (List ℕ) → List ℕ
spaced_rest [] = []
spaced_rest (word ∷ words) = 32 ∷ word ++ spaced_rest words

abbrev pub spaced : List (List ℕ) → List ℕ
spaced [] = []
spaced (word ∷ words) = word ++ spaced_rest words

rest_is : (words : List (List ℕ)) → line_rest words ≡ spaced_rest words ++ 10 ∷ []
rest_is [] = refl
rest_is (word ∷ words) =
    ap (λ t. 32 ∷ word ++ t) (rest_is words) ∙ ap (λ t. 32 ∷ t) (sym (append_assoc word (spaced_rest words) (10 ∷ [])))

line_is : (words : List (List ℕ)) → line words ≡ spaced words ++ 10 ∷ []
line_is [] = refl
line_is (word ∷ words) =
    ap (λ t. word ++ t) (rest_is words) ∙ sym (append_assoc word (spaced_rest words) (10 ∷ []))

rest_lacks : (words : List (List ℕ)) → ArePrinted words → Lacks 10 (spaced_rest words)
rest_lacks [] are = refl
rest_lacks (word ∷ words) are =
    lacks_cons 10 32 (word ++ spaced_rest words) refl (lacks_append 10 word (spaced_rest words) are.0.feeds (rest_lacks words are.1))

spaced_lacks : (words : List (List ℕ)) → ArePrinted words → Lacks 10 (spaced words)
spaced_lacks [] are = refl
spaced_lacks (word ∷ words) are = lacks_append 10 word (spaced_rest words) are.0.feeds (rest_lacks words are.1)

-- a printed line is the first line of a text, and the words of it are those that were printed
pub lines_of_line : (words : List (List ℕ)) (text : List ℕ) → ArePrinted words → lines_in (line words ++ text) ≡ spaced words ∷ lines_in text
lines_of_line words text are =
    ap (λ t. lines_in (t ++ text)) (line_is words)
    ∙ ap lines_in (append_assoc (spaced words) (10 ∷ []) text)
    ∙ parts_at 10 (spaced words) text (spaced_lacks words are)

last_word : (word : List ℕ) → IsPrinted word → words_in word ≡ word ∷ []
last_word [] is = let some = is.some in absurd (omega (arith, some))
last_word (b ∷ bs) is = parts_last 32 b bs is.blanks

pub words_of_line : (words : List (List ℕ)) → ArePrinted words → words_in (spaced words) ≡ words
words_of_line [] are = refl
words_of_line (word ∷ []) are = ap words_in (append-nil word) ∙ last_word word are.0
words_of_line (word ∷ next ∷ words) are =
    parts_at 32 word (next ++ spaced_rest words) are.0.blanks ∙ ap (λ l. word ∷ l) (words_of_line (next ∷ words) are.1)
