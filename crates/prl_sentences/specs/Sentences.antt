-- What is said of a line: words, and words of the line itself.
use Rattle.std.specs.Prelude.{◌++◌, ◌-◌, ◌==◌, ℕ, List, [], ◌∷◌, codes, nat_lt, if◌then◌else◌}
use Rattle.std.specs.List.{before_first, flat_map}
use Rattle.prl_sentences.specs.declared.kinds.Kind.{Kind}
use Rattle.prl_sentences.specs.Kinds.{is_gap, rest_of}

-- the bytes from the word of a number on, which counts from 0; a gap ends a word
abbrev pub word_from : ℕ → List ℕ → List ℕ
word_from number [] = []
word_from number (b ∷ rest) =
    if number == 0 then b ∷ rest else word_from (if is_gap b then number - 1 else number) rest

-- the word of a number
abbrev pub word_at : ℕ → List ℕ → List ℕ
word_at number text = before_first is_gap (word_from number text)

-- what a byte of a sentence says, where this stands after the front of the line: a byte less than ten the word of this number, another itself
abbrev pub said : List ℕ → ℕ → List ℕ
said rest b = if nat_lt b 10 then word_at b rest else b ∷ []

-- what is said of a line of a kind: what its bytes say one after another, as one line or more
abbrev pub sentence_text : Kind → List ℕ → List ℕ
sentence_text kind line = flat_map (said (rest_of kind line)) kind.sentence.now ++ codes "\n"
