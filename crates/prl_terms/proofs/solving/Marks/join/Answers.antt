use Rattle.std.proofs.Common.{◌≡◌, ap, ◌∙◌, map, set, [], arith}
use Rattle.prl_terms.specs.code.Marks.{lists_of, members_at}
use Rattle.prl_terms.proofs.Replacing.{replaced_marks, moved_is, changed_is, members_inside, members_after, settled_new}
use Rattle.prl_terms.proofs.solving.Marks.join.Goals as goal

moved : (c : goal.After-as_slice) → c.as_slice.result.now ≡ members_at (lists_of c.args.self.now) c.args.a
moved c = moved_is c.args.self.now.members.items c.args.a c.index_mut.result.now c.as_slice.result.now
    (omega (arith, c.requires.apart.inside, c.requires.kept.members.lengths)) c.index_mut.ensures.value
    (c.as_slice.ensures.value ∙ ap (λ v. v.items) c.replace-members.ensures.value)

pub relabel-requires : goal.relabel-requires
relabel-requires c = members_inside c.requires.kept.members c.args.a c.as_slice.result.now (moved c)

moved_first : (c : goal.After-drop-members) → c.as_slice.result.now ≡ members_at (lists_of c.args.self.now) c.args.a
moved_first c = moved_is c.args.self.now.members.items c.args.a c.index_mut.result.now c.as_slice.result.now
    (omega (arith, c.requires.apart.inside, c.requires.kept.members.lengths)) c.index_mut.ensures.value
    (c.as_slice.ensures.value ∙ ap (λ v. v.items) c.replace-members.ensures.value)

moved_again : (c : goal.After-drop-members) → c.as_slice-2.result.now ≡ members_at (lists_of c.args.self.now) c.args.a
moved_again c = moved_is c.args.self.now.members.items c.args.a c.index_mut.result.now c.as_slice-2.result.now
    (omega (arith, c.requires.apart.inside, c.requires.kept.members.lengths)) c.index_mut.ensures.value
    (c.as_slice-2.ensures.value ∙ ap (λ v. v.items) c.replace-members.ensures.value)

pub returns-in-Ok-clause-replaced : goal.returns-in-Ok-clause-replaced
returns-in-Ok-clause-replaced c = replaced_marks c.relabel.new.marks.items c.as_slice.result.now c.requires.apart c.requires.kept.members
    (moved_first c) c.relabel.ensures.count c.relabel.ensures.members c.relabel.ensures.others

pub returns-in-Ok-clause-kept : goal.returns-in-Ok-clause-kept
returns-in-Ok-clause-kept c = record {
  settled = settled_new (returns-in-Ok-clause-replaced c) c.requires.apart c.requires.kept.settled;
  members = members_after (returns-in-Ok-clause-replaced c) c.requires.apart c.requires.kept.members c.as_slice-2.result.now
      (map (λ v. v.items) (set c.args.self.now.members.items c.args.a c.replace-members.new.dest)) _ (moved_again c)
      (changed_is c.args.self.now.members.items c.args.a c.replace-members.new.dest [] (ap (λ v. v.items) c.replace-members.ensures.after ∙ c.new.ensures.items))
      c.in-Ok.ensures;
}
