-- Where the steps through an expression have come to.
use Rattle.std.specs.Prelude.{◌≡◌, List, Vec}
use Rattle.std.specs.declared.alloc.Global.{Global}
use Rattle.prl_expand.specs.declared.nodes.Made.{Made}
use Rattle.prl_expand.specs.declared.terms.Term.{Term}
use Rattle.prl_expand.specs.code.Adding.{Adds}
use Rattle.prl_expand.specs.code.Steps.{Standing, given_around, given_of}

-- the list under way and those around it, and what was made since
pub record IsAt (old : Made) (st : Standing) (list : List Term) (around : List (Vec Term Global)) (new : Made) : Type 0 where
  pub list_is : given_of list ≡ st.list
  pub around_are : given_around around ≡ st.around
  pub made : Adds old new st.flows st.apps st.next

-- what all steps give, and what they made
pub record AreMade (old : Made) (st : Standing) (list : List Term) (new : Made) : Type 0 where
  pub list_is : given_of list ≡ st.list
  pub made : Adds old new st.flows st.apps st.next
