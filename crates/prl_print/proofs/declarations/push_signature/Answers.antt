use Rattle.std.proofs.Common.{◌++◌, List, ℕ, codes, map, ap, ◌∙◌}
use Rattle.prl_print.specs.Printing.{separated}
use Rattle.prl_print.proofs.Lists.{joined_seven}
use Rattle.prl_print.proofs.declarations.push_signature.Goals as goal

pub returns : goal.returns
returns g c =
    let name = c.in_ok-extend_from_slice-2.ensures.items ∙ ap (λ (n : List ℕ). c.extend_from_slice.new.self.items ++ n) c.bytes.ensures.bytes in
    joined_seven c.args.text.now.items c.args.keyword.now c.args.name.now (codes "(") (separated (codes "; ") (map g.T.Part.printed c.args.ins.now)) (codes ") returns (")
    (separated (codes "; ") (map g.T.Part.printed c.args.outs.now)) (codes ")") _ _ _ _ _ _ _
    c.in_ok-extend_from_slice.ensures.items name c.in_ok-push.ensures.items c.in_ok-push_separated.ensures c.in_ok-extend_from_slice-3.ensures.items
    c.in_ok-push_separated-2.ensures c.in_ok-push-2.ensures.items
