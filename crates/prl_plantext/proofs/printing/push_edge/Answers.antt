use Rattle.prl_base.proofs.Standard.{rules, ◌≡◌, ◌++◌, ◌∙◌, codes, decimal, flat_map}
use Rattle.prl_base.specs.Texts.{type_text}
use Rattle.prl_plantext.specs.PlanTexts.{after_blank, operators_words, pair_text, producer_words}
use Rattle.prl_plantext.proofs.Lines.{more, edge_line}
use Rattle.prl_plantext.proofs.printing.push_edge.Goals as goal

pub returns : goal.returns
returns c =
    let s1 : c.push_after.new.text.items ≡ c.args.text.now.items ++ codes "edge " ++ decimal c.args.e = search rules in
    let s2 : c.extend_from_slice.new.self.items ≡ c.push_after.new.text.items ++ (codes " from") = search rules in
    let s3 : c.push_producer.new.text.items ≡ c.extend_from_slice.new.self.items ++ (flat_map after_blank (producer_words c.args.edge.now.from)) = search rules in
    let s4 : c.extend_from_slice-2.new.self.items ≡ c.push_producer.new.text.items ++ (codes " to ") = search rules in
    let s5 : c.push_pair.new.text.items ≡ c.extend_from_slice-2.new.self.items ++ (pair_text c.args.edge.now.to.0 46 c.args.edge.now.port) = search rules in
    let s6 : c.push_flow.new.text.items ≡ c.push_pair.new.text.items ++ (codes " type " ++ type_text c.args.edge.now.ty ++ codes " period " ++ decimal c.args.edge.now.period) = search rules in
    let s7 : c.extend_from_slice-3.new.self.items ≡ c.push_flow.new.text.items ++ (codes " ops") = search rules in
    let s8 : c.push_operators.new.text.items ≡ c.extend_from_slice-3.new.self.items ++ (flat_map after_blank (operators_words c.args.edge.now.ops)) = search rules in
    let s9 : c.push.new.self.items ≡ c.push_operators.new.text.items ++ (codes "\n") = search rules in
    more (codes "\n") s9 (more (flat_map after_blank (operators_words c.args.edge.now.ops)) s8 (more (codes " ops") s7 (more (codes " type " ++ type_text c.args.edge.now.ty ++ codes " period " ++ decimal c.args.edge.now.period) s6 (more (pair_text c.args.edge.now.to.0 46 c.args.edge.now.port) s5 (more (codes " to ") s4 (more (flat_map after_blank (producer_words c.args.edge.now.from)) s3 (more (codes " from") s2 s1)))))))
    ∙ edge_line c.args.text.now.items c.args.e c.args.edge.now
