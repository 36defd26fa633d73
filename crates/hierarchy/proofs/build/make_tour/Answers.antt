use Rattle.std.proofs.Common.{◌≡◌, ◌∙◌, ap, sym, subst, length, arith}
use Rattle.class_defs.proofs.WellFormed.{few_classes}
use Rattle.hierarchy.specs.Touring.{IsNumbering, Leads}
use Rattle.hierarchy.proofs.Placed.{Fits, made_fits}
use Rattle.hierarchy.proofs.Toured.{leads}
use Rattle.hierarchy.proofs.build.make_tour.Goals as goal

pub returns : goal.returns
returns c = λ p h made.
    let f : Fits p c.args.shape.now = made_fits p c.args.shape.now h made in
    let few = few_classes p h in
    let size : length c.as_slice-2.result.now ≡ length p.classes = ap length c.as_slice-2.ensures.value ∙ c.in_ok-forest.ensures ∙ ap length c.as_slice.ensures.value ∙ f.count in
    let numbered = subst (λ n. IsNumbering n c.in_ok-numbering.numbering.numbers.items c.in_ok-numbering.numbering.classes.items) size (c.in_ok-numbering.ensures (omega (arith, size, few))) in
    record {
      numbered = numbered;
      ranged = c.in_ok-ranges.ensures p c.args.shape.now.supers.items c.in_ok-numbering.numbering.classes.items c.args.shape.now.lists.rows
          (subst (λ l. Leads p c.args.shape.now.supers.items c.args.shape.now.lists.rows c.args.shape.now.below.rows c.as_slice-5.result.now l c.in_ok-numbering.numbering.classes.items) (sym c.as_slice-4.ensures.value)
          (subst (λ l. Leads p c.args.shape.now.supers.items c.args.shape.now.lists.rows c.args.shape.now.below.rows l c.in_ok-numbering.numbering.numbers.items c.in_ok-numbering.numbering.classes.items) (sym c.as_slice-5.ensures.value)
          (leads p c.args.shape.now c.in_ok-numbering.numbering.numbers.items c.in_ok-numbering.numbering.classes.items h made numbered)));
    }
