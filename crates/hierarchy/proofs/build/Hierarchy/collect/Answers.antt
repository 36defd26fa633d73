use Rattle.std.proofs.Common.{◌∙◌, ◌++◌, [], ℕ, None, refl, ap, sym, subst, length}
use Rattle.std.specs.Prelude.{cond, slice_get}
use Rattle.class_defs.specs.Members.{is_interface}
use Rattle.class_defs.specs.Finding.{without_repeats, candidates_from}
use Rattle.hierarchy.specs.Tables.{row_of}
use Rattle.hierarchy.specs.Walking.{waits, Visits}
use Rattle.hierarchy.proofs.Deep.{fewer}
use Rattle.hierarchy.proofs.Marks.{fair_same}
use Rattle.hierarchy.proofs.Collected.{Collecting, collect_begins, collect_on, collect_ends}
use Rattle.hierarchy.proofs.build.Hierarchy.collect.Goals as goal

pub loop-one-init : goal.loop-one-init
loop-one-init c = record { fair = λ f. f; size = refl; going = λ name proto is k fresh. collect_begins c.args.program.now name proto is.ranked c.args.walk.now.seen.items (waits c.args.walk.now) c.args.out.now.items fresh.long fresh.unseen }

pub loop-one-preserved : goal.loop-one-preserved
loop-one-preserved c = record {
  fair = λ f. c.in_ok-collect_at.ensures.fair (fair_same c.loop-one.walk c.pop.new.self c.in-Some.ensures.seen c.in-Some.ensures.list (c.loop-one.invariant.fair f));
  size = c.in_ok-collect_at.ensures.size ∙ ap (λ v. length v.items) c.in-Some.ensures.seen ∙ c.loop-one.invariant.size;
  going = λ name proto is k fresh.
      let p = c.args.program.now in
      let start = waits c.args.walk.now in
      let whole = c.args.out.now.items ++ without_repeats (candidates_from (length p.classes) p name proto start) in
      let g : Collecting p name proto is.ranked start c.pop.new.self.seen.items (waits c.loop-one.walk) c.loop-one.out.items whole =
      subst (λ v. Collecting p name proto is.ranked start v.items (waits c.loop-one.walk) c.loop-one.out.items whole) (sym c.in-Some.ensures.seen) (c.loop-one.invariant.going name proto is k fresh) in
      collect_on p name proto is.ranked start c.pop.new.self.seen.items c.collect_at.new.walk.seen.items (waits c.loop-one.walk) (waits c.pop.new.self) (waits c.collect_at.new.walk) c.in-Some.one c.loop-one.out.items c.collect_at.new.out.items whole
      c.in-Some.ensures.waits (c.in_ok-collect_at.ensures.takes name proto is k) g;
}

pub loop-one-smaller : goal.loop-one-smaller
loop-one-smaller c =
    let deg : ℕ → ℕ = λ x. length (cond (is_interface (slice_get c.args.program.now.classes x)) (row_of c.args.self.now.shape.lists.rows x) [] ++ []) in
    let ups = cond (is_interface (slice_get c.args.program.now.classes c.in-Some.one)) (row_of c.args.self.now.shape.lists.rows c.in-Some.one) [] ++ [] in
    fewer deg c.loop-one.walk.seen.items c.collect_at.new.walk.seen.items (waits c.loop-one.walk) (waits c.pop.new.self) (waits c.collect_at.new.walk) ups c.in-Some.one None None c.in-Some.ensures.waits refl refl
    (subst (λ v. Visits v.items (waits c.pop.new.self) c.in-Some.one None ups c.collect_at.new.walk.seen.items (waits c.collect_at.new.walk) None) c.in-Some.ensures.seen c.in_ok-collect_at.ensures.visits)

pub returns-clause-is : goal.returns-clause-is
returns-clause-is c = λ name proto is k fresh.
    let p = c.args.program.now in
    let start = waits c.args.walk.now in
    collect_ends p name proto is.ranked start c.loop-one.walk.seen.items (waits c.loop-one.walk) c.loop-one.out.items (c.args.out.now.items ++ without_repeats (candidates_from (length p.classes) p name proto start)) c.in_default.ensures.waits (c.loop-one.invariant.going name proto is k fresh)
