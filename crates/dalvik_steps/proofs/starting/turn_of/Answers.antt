use Rattle.std.proofs.Common.{[], ◌∙◌, subst, sym}
use Rattle.dalvik_steps.specs.Entries.{IsEntry}
use Rattle.dalvik_steps.proofs.Starters.{no_values, starts_none, starts_some, turn_ends, turn_goes}
use Rattle.dalvik_steps.proofs.starting.turn_of.Goals as goal

pub returns-in-Some-2 : goal.returns-in-Some-2
returns-in-Some-2 c = λ size r low.
    let l = c.args.tables.now.lookups in
    let h = starts_some l r c.args.class low c.in-Some.at (sym (c.initialiser.ensures r) ∙ c.in-Some.is) in
    turn_goes l r c.args.class low size c.in-Some.at h _ (subst (IsEntry l size h.own []) c.in-Some-2.is (c.in_ok-frame-in-Some.ensures size h.own r h.found (no_values l r c.args.class low size)))

pub returns-in-None-2 : goal.returns-in-None-2
returns-in-None-2 c = λ size r low.
    let l = c.args.tables.now.lookups in
    let h = starts_some l r c.args.class low c.in-Some.at (sym (c.initialiser.ensures r) ∙ c.in-Some.is) in
    turn_ends l r c.args.class low size c.in-Some.at h (subst (IsEntry l size h.own []) c.in-None-2.is (c.in_ok-frame-in-Some.ensures size h.own r h.found (no_values l r c.args.class low size)))

pub returns-in-None : goal.returns-in-None
returns-in-None c = λ size r low. starts_none c.args.tables.now.lookups r c.args.class low (sym (c.initialiser.ensures r) ∙ c.in-None.is)
