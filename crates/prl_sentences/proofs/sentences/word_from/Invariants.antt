use Rattle.std.proofs.Common.{◌≡◌, drop}
use Rattle.prl_sentences.specs.Sentences.{word_from}
use Rattle.prl_sentences.proofs.sentences.word_from.Given as goal

-- the bytes that are left have the word, by the number that is left
abbrev pub invariant-loop-i : goal.invariant-loop-i
invariant-loop-i l = word_from l.left (drop l.i l.text) ≡ word_from l.number l.text
