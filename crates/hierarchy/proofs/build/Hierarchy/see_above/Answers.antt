use Rattle.std.proofs.Common.{◌≡◌, ◌∙◌, ap, sym, false, length}
use Rattle.std.specs.Prelude.{not, slice_index_or, flat_map}
use Rattle.class_defs.specs.Finding.{is_lowest}
use Rattle.hierarchy.specs.Giving.{is_waiting}
use Rattle.hierarchy.specs.Walking.{is_seen, waits}
use Rattle.hierarchy.proofs.Lowest.{ups_of, seeds_are, seeds_short, seen_lowest, on_ok}
use Rattle.hierarchy.proofs.build.Hierarchy.see_above.Goals as goal

pub returns-clause-is : goal.returns-clause-is
returns-clause-is c = λ p is fair size.
    let clear = c.clear.ensures.clear fair in
    let fs = c.args.candidates.now in
    let ws = waits c.push_above.new.walk in
    let seeds : ws ≡ flat_map (λ g. ups_of p is.ranked g.class) fs = seeds_are p c.args.self.now is fs ws (waits c.clear.new.self) c.in_ok-push_above.ensures.waits clear.none in
    on_ok c.see_waiting.result ((d : _) → is_seen c.see_waiting.new.walk d ≡ is_waiting p ws d) ((f : _) → not (is_seen c.see_waiting.new.walk f.class) ≡ is_lowest p fs f) (seen_lowest p is.ranked fs ws c.see_waiting.new.walk seeds)
    (c.see_waiting.ensures.is p is (record {
      long = ap (λ v. length v.items) c.in_ok-push_above.ensures.seen ∙ clear.long ∙ size;
      unseen = λ d e. clear.unseen d (sym (ap (λ v. slice_index_or v.items d false) c.in_ok-push_above.ensures.seen) ∙ e);
    }) (seeds_short p is.ranked fs ws seeds))
