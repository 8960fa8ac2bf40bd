use Rattle.prl_base.proofs.Standard.{◌≡◌, map, take, All, flat_map}
use Rattle.prl_views.specs.declared.parts.Part.{Part}
use Rattle.prl_views.specs.Parts.{IsWithin, seen_one}
use Rattle.prl_views.proofs.parts.parts_of.Given as goal

-- the parts so far are of the acts that were passed
abbrev pub invariant-loop-j : goal.invariant-loop-j
invariant-loop-j l = record {
  each : map (λ (part : Part). part.act) l.parts.items ≡ flat_map (seen_one l.scale) (take l.j l.acts);
  within : All (IsWithin l.scale) l.parts.items;
}
