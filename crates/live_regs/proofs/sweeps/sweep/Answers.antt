use Rattle.std.proofs.Common.{List, ℕ, sym, ◌∙◌, subst}
use Rattle.std.proofs.lemmas.Bool.{or_parts}
use Rattle.live_regs.specs.Sweeps.{AreSoFar, HaveFlowed, HaveCaught}
use Rattle.live_regs.proofs.Sweeping.{words_are}
use Rattle.live_regs.proofs.sweeps.sweep.Goals as goal

pub returns : goal.returns
returns c =
    let body = c.args.body.now in
    let caught = c.sweep_regions-regions.new.caught.items in
    let words = c.sweep_positions-positions.new.words.items in
    let so_far : AreSoFar body caught words = subst (λ (l : List ℕ). AreSoFar body l words) c.as_slice-2.ensures.value c.sweep_positions-positions.ensures.so_far in
    record {
      so_far = so_far;
      words = λ e.
          (let no = or_parts c.sweep_regions-regions.result c.sweep_positions-positions.result (sym c.either.ensures ∙ e) in
          words_are body c.args.words.now.items words caught (c.sweep_positions-positions.ensures.same no.1) so_far
          (subst (λ (l : List ℕ). HaveFlowed body words l) c.as_slice-2.ensures.value (c.sweep_positions-positions.ensures.flowed no.1))
          (subst (λ (l : List ℕ). HaveCaught body l caught) c.as_slice.ensures.value (c.sweep_regions-regions.ensures.caught no.0)));
    }
