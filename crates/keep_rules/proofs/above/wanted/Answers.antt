use Rattle.std.proofs.Common.{subst, sym, ap}
use Rattle.class_defs.proofs.WellFormed.{sound}
use Rattle.keep_rules.specs.Tried.{AreCandidates}
use Rattle.keep_rules.specs.Below.{AreWanted}
use Rattle.keep_rules.proofs.BelowLemmas.{wanted_none, wanted_one}
use Rattle.keep_rules.proofs.above.wanted.Goals as goal
use Rattle.keep_rules.proofs.above.wanted.Goals.{in-Type+in_ok-add_wanted-in-Type, in-None, in-All+in_ok-add_all-in-All}

pub returns : goal.returns
returns c = λ a ready is.
    let p = c.args.view.now.program.now in
    elim c.match-branch-2.branch [
      | in-Type+in_ok-add_wanted-in-Type w ↦
          let one = subst (AreCandidates p a.name) w.in-Type.is (c.in_ok-kind.ensures a.name ready is.name) in
          subst (AreWanted p a) (sym (ap (λ v. v.items) w.kinds-is))
          (wanted_one p (sound p ready.formed) c.args.view.now.hierarchy.now ready.of a w.in-Type.kind c.new-kinds.result.items w.add_wanted.new.kinds.items c.new-kinds.ensures.items one
          (w.in_ok-add_wanted-in-Type.ensures a ready one.0 is))
      | in-None w ↦ subst (AreWanted p a) (sym (ap (λ v. v.items) w.kinds-is))
          (wanted_none p (sound p ready.formed) c.args.view.now.hierarchy.now ready.of a c.new-kinds.result.items c.new-kinds.ensures.items
          (subst (AreCandidates p a.name) w.in-None.is (c.in_ok-kind.ensures a.name ready is.name)))
      | in-All+in_ok-add_all-in-All w ↦ subst (AreWanted p a) (sym (ap (λ v. v.items) w.kinds-is)) (w.in_ok-add_all-in-All.ensures a ready is)
    ]
