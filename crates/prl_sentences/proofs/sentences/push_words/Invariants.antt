use Rattle.prl_base.proofs.Standard.{◌≡◌, ◌++◌, take, flat_map}
use Rattle.prl_sentences.specs.Sentences.{said}
use Rattle.prl_sentences.proofs.sentences.push_words.Given as goal

-- what the bytes so far say stands in the text
abbrev pub invariant-loop-byte : goal.invariant-loop-byte
invariant-loop-byte l =
    l.text.items ≡ l.initial.text.items ++ flat_map (said l.rest) (take l.byte-index l.sentence)
