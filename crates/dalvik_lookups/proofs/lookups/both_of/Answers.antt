use Rattle.std.proofs.Common.{◌≡◌, map, true, sym, ap, ◌∙◌, subst}
use Rattle.program_model.specs.ProgramRules.{is_well_formed}
use Rattle.hierarchy.specs.Shapes.{IsResolved}
use Rattle.dalvik_lookups.specs.Spelling.{is_constructor}
use Rattle.dalvik_lookups.specs.Starting.{class_default}
use Rattle.dalvik_lookups.specs.Reached.{constructed_kinds, AreTypeMarks, IsOuter}
use Rattle.dalvik_lookups.specs.Playing.{ArePlays}
use Rattle.dalvik_lookups.specs.Slots.{slots_from, slots_after}
use Rattle.dalvik_lookups.proofs.Making.{tabled, grows_same}
use Rattle.dalvik_lookups.proofs.Unders.{above_over}
use Rattle.dalvik_lookups.proofs.lookups.both_of.Goals as goal

pub returns-clause-program : goal.returns-clause-program
returns-clause-program c = c.tables_of-tables.ensures.over.program

pub returns-clause-framework : goal.returns-clause-framework
returns-clause-framework c = c.tables_of-tables.ensures.framework

pub returns-clause-outer : goal.returns-clause-outer
returns-clause-outer c = subst (IsOuter c.args.program.now c.args.outside.now) (sym c.tables_of-tables.ensures.outer) c.in_ok-parts.ensures.outer

pub returns-clause-classes : goal.returns-clause-classes
returns-clause-classes c = λ w.
    subst (λ t. AreTypeMarks c.args.program.now t c.args.outside.now.classes c.tables_of-tables.result.outer.classes.items) (sym c.tables_of-tables.ensures.over.types)
    (subst (λ x. AreTypeMarks c.args.program.now c.in_ok-parts.parts.0.names.types c.args.outside.now.classes x.classes.items) (sym c.tables_of-tables.ensures.outer) (c.in_ok-parts.ensures.classes w))

pub returns-clause-constructed : goal.returns-clause-constructed
returns-clause-constructed c = λ w.
    subst (λ t. AreTypeMarks c.args.program.now t (constructed_kinds c.args.program.now c.args.outside.now.methods) c.tables_of-tables.result.outer.constructed.items) (sym c.tables_of-tables.ensures.over.types)
    (subst (λ x. AreTypeMarks c.args.program.now c.in_ok-parts.parts.0.names.types (constructed_kinds c.args.program.now c.args.outside.now.methods) x.constructed.items) (sym c.tables_of-tables.ensures.outer) (c.in_ok-parts.ensures.constructed w))

pub returns-clause-tables : goal.returns-clause-tables
returns-clause-tables c = λ w r.
    let names = c.in_ok-parts.ensures.names w in
    let same = grows_same c.in_ok-parts.parts.0.names (record { types = names.types; texts = names.texts }) in
    let over = c.tables_of-tables.ensures.over in
    record {
      tabled = tabled c.args.program.now c.in_ok-parts.parts.0.names _ _ c.tables_of-tables.result names same same over;
      well = subst (λ q. is_well_formed q ≡ true) (sym over.program) w;
      resolved = subst (λ q. IsResolved q c.tables_of-tables.result.hierarchy) (sym over.program) (subst (IsResolved c.args.program.now) (sym c.tables_of-tables.ensures.classes) r);
      above = above_over c.args.program.now c.args.framework.now _ c.in_ok-parts.parts.0.above c.tables_of-tables.result (c.in_ok-parts.ensures.above w) over.program c.tables_of-tables.ensures.framework over.types c.tables_of-tables.ensures.above;
      slots = ap (λ v. v.items) c.tables_of-tables.ensures.slots ∙ c.in_ok-parts.ensures.slots ∙ ap (λ q. slots_from 0 q.classes) (sym over.program);
      count = c.tables_of-tables.ensures.count ∙ ap (λ q. slots_after 0 q.classes) (sym over.program);
      defaults = ap (λ v. v.items) c.tables_of-tables.ensures.defaults ∙ c.in_ok-parts.ensures.defaults r.of ∙ ap (λ q. map (class_default q) q.classes) (sym over.program);
      constructors = ap (λ v. v.items) c.tables_of-tables.ensures.constructors ∙ c.in_ok-parts.ensures.constructors ∙ ap (λ q. map (is_constructor q) q.methods) (sym over.program);
    }

pub returns-clause-plays : goal.returns-clause-plays
returns-clause-plays c = λ w.
    let over = c.tables_of-tables.ensures.over in
    subst (λ t. ArePlays c.args.program.now t c.tables_of-tables.result.texts c.args.script.now c.in_ok-parts.parts.0.plays.items) (sym over.types)
    (subst (λ x. ArePlays c.args.program.now c.in_ok-parts.parts.0.names.types x c.args.script.now c.in_ok-parts.parts.0.plays.items) (sym over.texts) (c.in_ok-parts.ensures.plays w))
