use Rattle.prl_terms.proofs.Replacing.{added_is}
use Rattle.prl_terms.proofs.solving.add_members.Goals as goal

pub returns-in_ok-extend_from_slice : goal.returns-in_ok-extend_from_slice
returns-in_ok-extend_from_slice c = rw c.in-Parameter.is
    (added_is c.args.members.now.items c.in-Parameter.b c.index_mut.result.now c.extend_from_slice.new.self c.args.moved.now
    (rw c.in-Parameter.is at c.requires) c.index_mut.ensures.value c.in_ok-extend_from_slice.ensures.items)
