use Rattle.std.proofs.Common.{inl, sym, subst}
use Rattle.call_graph.specs.Closed.{Followed}
use Rattle.call_graph.proofs.Following.{followed_class, followed_field, followed_method, followed_made, followed_called}
use Rattle.call_graph.specs.Least.{Reached}
use Rattle.call_graph.proofs.Reaching.{listed_reached, method_reached}
use Rattle.call_graph.proofs.rules.follow.Goals as goal

pub returns-in_ok-follow_class-in-Class-clause-followed : goal.returns-in_ok-follow_class-in-Class-clause-followed
returns-in_ok-follow_class-in-Class-clause-followed c = λ is fits are has.
    subst (λ x. Followed c.args.at.now.program.now c.args.tables.now c.args.notes.now c.args.notes.now x c.follow_class.new.out.items) (sym c.in-Class.is)
    (followed_class c.args.at.now.program.now c.args.tables.now c.args.notes.now c.in-Class.kind c.args.out.now.items c.follow_class.new.out.items are (c.in_ok-follow_class-in-Class.ensures is))

pub returns-in_ok-follow_made-in-Made-clause-followed : goal.returns-in_ok-follow_made-in-Made-clause-followed
returns-in_ok-follow_made-in-Made-clause-followed c = λ is fits are has.
    subst (λ x. Followed c.args.at.now.program.now c.args.tables.now c.args.notes.now c.follow_made.new.notes x c.follow_made.new.out.items) (sym c.in-Made.is)
    (followed_made c.args.at.now.program.now c.args.tables.now c.args.notes.now c.follow_made.new.notes c.in-Made.kind c.follow_made.new.out.items (c.in_ok-follow_made-in-Made.ensures.notes is fits are has))

pub returns-in_ok-follow_field-in-Field-clause-followed : goal.returns-in_ok-follow_field-in-Field-clause-followed
returns-in_ok-follow_field-in-Field-clause-followed c = λ is fits are has.
    subst (λ x. Followed c.args.at.now.program.now c.args.tables.now c.args.notes.now c.args.notes.now x c.follow_field.new.out.items) (sym c.in-Field.is)
    (followed_field c.args.at.now.program.now c.args.tables.now c.args.notes.now c.in-Field.number c.args.out.now.items c.follow_field.new.out.items are (c.in_ok-follow_field-in-Field.ensures is))

pub returns-in_ok-follow_method-in-Method-clause-followed : goal.returns-in_ok-follow_method-in-Method-clause-followed
returns-in_ok-follow_method-in-Method-clause-followed c = λ is fits are has.
    subst (λ x. Followed c.args.at.now.program.now c.args.tables.now c.args.notes.now c.follow_method.new.notes x c.follow_method.new.out.items) (sym c.in-Method.is)
    (followed_method c.args.at.now.program.now c.args.tables.now c.args.notes.now c.follow_method.new.notes c.in-Method.number c.args.out.now.items c.follow_method.new.out.items c.in_ok-follow_method-in-Method.ensures.same (c.in_ok-follow_method-in-Method.ensures.are is are) (c.in_ok-follow_method-in-Method.ensures.stays is) (c.in_ok-follow_method-in-Method.ensures.supers is fits are))

pub returns-in_ok-follow_called-in-Called-clause-followed : goal.returns-in_ok-follow_called-in-Called-clause-followed
returns-in_ok-follow_called-in-Called-clause-followed c = λ is fits are has.
    subst (λ x. Followed c.args.at.now.program.now c.args.tables.now c.args.notes.now c.follow_called.new.notes x c.follow_called.new.out.items) (sym c.in-Called.is)
    (followed_called c.args.at.now.program.now c.args.tables.now c.args.notes.now c.follow_called.new.notes c.in-Called.number c.args.out.now.items c.follow_called.new.out.items (c.in_ok-follow_called-in-Called.ensures.notes is are))

pub returns-in_ok-follow_class-in-Class-clause-reached : goal.returns-in_ok-follow_class-in-Class-clause-reached
returns-in_ok-follow_class-in-Class-clause-reached c = λ o is fits are common reached notes facts. record {
  notes = notes;
  facts = listed_reached c.args.at.now.program.now o c.args.tables.now _ c.args.out.now.items _ c.follow_class.new.out.items (subst (Reached c.args.at.now.program.now o c.args.tables.now) c.in-Class.is reached) (c.in_ok-follow_class-in-Class.ensures is) (λ y i. inl i) facts;
}

pub returns-in_ok-follow_field-in-Field-clause-reached : goal.returns-in_ok-follow_field-in-Field-clause-reached
returns-in_ok-follow_field-in-Field-clause-reached c = λ o is fits are common reached notes facts. record {
  notes = notes;
  facts = listed_reached c.args.at.now.program.now o c.args.tables.now _ c.args.out.now.items _ c.follow_field.new.out.items (subst (Reached c.args.at.now.program.now o c.args.tables.now) c.in-Field.is reached) (c.in_ok-follow_field-in-Field.ensures is) (λ y i. inl i) facts;
}

pub returns-in_ok-follow_made-in-Made-clause-reached : goal.returns-in_ok-follow_made-in-Made-clause-reached
returns-in_ok-follow_made-in-Made-clause-reached c = λ o is fits are common reached notes facts.
    c.in_ok-follow_made-in-Made.ensures.reached o is fits are common (subst (Reached c.args.at.now.program.now o c.args.tables.now) c.in-Made.is reached) notes facts

pub returns-in_ok-follow_method-in-Method-clause-reached : goal.returns-in_ok-follow_method-in-Method-clause-reached
returns-in_ok-follow_method-in-Method-clause-reached c = λ o is fits are common reached notes facts.
    method_reached c.args.at.now.program.now o c.args.tables.now c.args.notes.now c.follow_method.new.notes c.in-Method.number c.args.out.now.items c.follow_method.new.out.items (subst (Reached c.args.at.now.program.now o c.args.tables.now) c.in-Method.is reached)
    c.in_ok-follow_method-in-Method.ensures.same (c.in_ok-follow_method-in-Method.ensures.only is fits are) notes facts

pub returns-in_ok-follow_called-in-Called-clause-reached : goal.returns-in_ok-follow_called-in-Called-clause-reached
returns-in_ok-follow_called-in-Called-clause-reached c = λ o is fits are common reached notes facts.
    c.in_ok-follow_called-in-Called.ensures.reached o c.args.tables.now is are (subst (Reached c.args.at.now.program.now o c.args.tables.now) c.in-Called.is reached) notes facts
