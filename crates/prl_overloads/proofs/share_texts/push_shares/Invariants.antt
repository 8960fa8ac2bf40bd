use Rattle.std.specs.Prelude.{◌≡◌, ◌++◌}
use Rattle.prl_overloads.specs.ShareTexts.{share_text, texts_below}
use Rattle.prl_overloads.proofs.share_texts.push_shares.Given as goal

-- the lines of the first tasks stand in the text
abbrev pub invariant-loop-i : goal.invariant-loop-i
invariant-loop-i l = l.text.items ≡ l.initial.text.items ++ texts_below (share_text l.graph l.counts) l.i
